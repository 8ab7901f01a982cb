-- What each call takes from its environment is framed.
use Rattle.std.proofs.Common.{List, [], ◌∷◌, Option, Some, None}
use Rattle.hir_base.specs.declared.node.HirFileId.{HirFileId}
use Rattle.hir_syntax.specs.declared.ast.Path.{Path as AstPath, out-Path}
use Rattle.hir_syntax.specs.declared.ast.PathSegment.{PathSegment as AstSegment, out-PathSegment}
use Rattle.hir_syntax.specs.declared.types.PathType.{PathType as AstPathType, out-PathType}
use Rattle.hir_syntax.specs.declared.types.Type_.{Type_ as AstType_}
use Rattle.hir_syntax.specs.declared.items.Fn.{Fn}
use Rattle.hir_syntax.specs.declared.items.GenericParam.{GenericParam}
use Rattle.hir_syntax.specs.declared.items.Impl.{Impl}
use Rattle.hir_syntax.specs.declared.items.Trait.{Trait}
use Rattle.hir_syntax.specs.declared.items.TypeAlias.{TypeAlias}
use Rattle.hir_syntax.specs.declared.items.WherePred.{WherePred}
use Rattle.hir_store.specs.declared.ids.FunctionId.{FunctionId}
use Rattle.hir_store.specs.declared.ids.GenericDefId.{GenericDefId}
use Rattle.hir_store.specs.declared.ids.GenericDefId.TheVariants as definition
use Rattle.hir_store.specs.declared.ids.ImplId.{ImplId}
use Rattle.hir_store.specs.declared.ids.ItemContainerId.{ItemContainerId}
use Rattle.hir_store.specs.declared.ids.ModuleId.{ModuleId}
use Rattle.hir_store.specs.declared.ids.TraitId.{TraitId}
use Rattle.hir_store.specs.declared.ids.TypeAliasId.{TypeAliasId}
use Rattle.hir_env.specs.ResolvedTree as tree
use Rattle.hir_env.specs.Answering.{coroutine_kind}
use Rattle.hir_env.specs.Answers.{Answers}
use Rattle.hir_env.specs.Paths.{inside_constant, inside_projection}
use Rattle.hir_env.specs.Whole.{expr_part, type_part}
use Rattle.hir_env.specs.Wrapped.{AstConstArg}
use Rattle.hir_env.specs.declared.ctx.ImplTrait.{ImplTrait}
use Rattle.hir_env.specs.declared.ctx.LoweringMode.{LoweringMode}
use Rattle.hir_env.specs.declared.ctx.LoweringMode.TheVariants.{Analysis}
use Rattle.hir_env.specs.declared.ctx.LowerCtx.{LowerCtx}
use Rattle.spec_data.specs.Segments.{all_but_first, first_trait, named_among}
use Rattle.spec_data.specs.Written.{absent_data, written_type}
use Rattle.thm_frame.specs.Theorems.{BodyRead, rctx}
use Rattle.thm_frame.specs.Questions.{Area, Framed, Here}
use Rattle.thm_frame.proofs.Bodies.{body_framed, limit_asked}
use Rattle.thm_frame.proofs.Framing.{go_on, one, still, two, three}
use Rattle.thm_frame.proofs.Tree.{below, of_expr, of_path, of_segment}
use Rattle.thm_item_frame.proofs.Items.{alias_at_framed, function_at_framed, generics_at_framed, impl_at_framed, trait_at_framed}
use Rattle.thm_item_frame.proofs.Parts.{each_framed, type_framed}
use Rattle.hir_lower.specs.Beside.{all_behind, args_behind, args_of_named, behind_name, last_behind_type, segments_in, type_in_front}
use Rattle.hir_lower.specs.Formals.{are_read, formals_if, outside_place}
use Rattle.hir_lower.specs.Inputs.{BodyInput}
use Rattle.hir_lower.specs.Items.{read_alias, read_function, read_generics, read_impl, read_trait}
use Rattle.hir_lower.specs.Means.{kind_unless_skipped, owed_faults, required_body, unless_skipped, whole_path}
use Rattle.hir_lower.specs.Roots.{becoming, body_rctx, outside_body, type_rctx}
use Rattle.thm_calls.specs.Frames.{AreIn, HolderIsIn}
use Rattle.thm_calls.specs.Readings.{BodyCall, PathReading, body_reading, const_reading, path_reading, type_reading}

-- of all that `thm_frame` says of a body
abbrev pub reading_of : BodyCall → BodyRead → BodyInput
reading_of c x = record {
  skipped = x.skipped;
  kind = kind_unless_skipped x.skipped (coroutine_kind c.is_async c.is_gen);
  owed = owed_faults x.skipped (record { file_id = c.file_id; value = c.node }) (required_body c.owner x.container) x.read;
  formals = formals_if (are_read x.skipped c.owner) x.formals;
  read = unless_skipped x.skipped x.read;
}

-- a path that is read at this place
abbrev pub path_at : Answers → LowerCtx → AstPath → PathReading
path_at b p x = let ss = (out-Path x).segs in record {
  read = whole_path (rctx p b) x;
  arguments = args_of_named (rctx p b) (first_trait ss) ss;
}

module _ (a : Answers) (area : Area a) where
  pub body : (c : BodyCall) → AreIn area c.file_id c.inside → Framed area (body_reading c) a
  body c w = let p = (body_rctx a c.owner c.file_id c.inside c.is_async).place in
      one (reading_of c) (body_framed a area c.owner p (outside_place p) w w c.params c.body)

  pub type_ref : (file : HirFileId) (inside : ModuleId) → AreIn area file inside → (t : Option AstType_)
      → Framed area (type_reading file inside t) a
  type_ref file inside w t = let p = (type_rctx a file inside).place in
      go_on (λ b n. type_part (rctx (record p { left = n }) b) t) (limit_asked a area) (type_framed a area p w t)

  part_framed : (p : LowerCtx) → Here area p → (x : AstConstArg) → Framed area (λ b. expr_part (rctx p b) x) a
  part_framed p w None = still tree.no_expr
  part_framed p w (Some x) = one tree.some_expr ((of_expr a area p.left (below a area p.left) x).expr p w)

  pub const_arg : (file : HirFileId) (inside : ModuleId) → AreIn area file inside → (mode : LoweringMode) (x : AstConstArg)
      → Framed area (const_reading file inside mode x) a
  const_arg file inside w mode x = let p = inside_constant (outside_body a file inside mode) in
      go_on (λ b n. expr_part (rctx (record p { left = n }) b) x) (limit_asked a area) (part_framed p w x)

  -- what is written behind the segments of a path

  behind_framed : (p : LowerCtx) → Here area p → (s : AstSegment) → Framed area (λ b. args_behind (rctx p b) s) a
  behind_framed p w s = one behind_name (of_segment a area p.left (below a area p.left) s p w)

  all_framed : (p : LowerCtx) → Here area p → (ss : List (Option AstSegment)) → Framed area (λ b. all_behind (rctx p b) ss) a
  all_framed p w ss = each_framed a area (λ b s. args_behind (rctx p b) s) (behind_framed p w) (named_among ss)

  in_front_framed : (p : LowerCtx) → Here area p → (ss : List (Option AstSegment)) → Framed area (λ b. type_in_front (rctx p b) ss) a
  in_front_framed p w [] = still absent_data
  in_front_framed p w (None ∷ ss) = still absent_data
  in_front_framed p w (Some s ∷ ss) = one written_type (type_framed a area (inside_projection p) w (out-PathSegment s).ty)

  args_framed : (p : LowerCtx) → Here area p → (t : Option AstPathType) (ss : List (Option AstSegment))
      → Framed area (λ b. args_of_named (rctx p b) t ss) a
  args_framed p w None ss = all_framed p w ss
  args_framed p w (Some t) ss = three last_behind_type (in_front_framed p w ss)
      (all_framed (inside_projection p) w (segments_in (out-PathType t).path)) (all_framed p w (all_but_first ss))

  path_at_framed : (p : LowerCtx) → Here area p → (x : AstPath) → Framed area (λ b. path_at b p x) a
  path_at_framed p w x = let ss = (out-Path x).segs in
      two (λ y args. record { read = tree.some_path y; arguments = args }) ((of_path a area p.left (below a area p.left) x).alone p w)
      (args_framed p w (first_trait ss) ss)

  pub path : (file : HirFileId) (inside : ModuleId) → AreIn area file inside → (mode : LoweringMode) (impl : ImplTrait) (x : AstPath)
      → Framed area (path_reading file inside mode impl x) a
  path file inside w mode impl x = let p = becoming (outside_body a file inside mode) impl in
      go_on (λ b n. path_at b (record p { left = n }) x) (limit_asked a area) (path_at_framed p w x)

  -- items

  pub generic_params : (file : HirFileId) (inside : ModuleId) → AreIn area file inside → (mode : LoweringMode) (def : GenericDefId)
      (ps : Option (List GenericParam)) (ws : Option (List WherePred)) → Framed area (λ b. read_generics b file inside mode def ps ws) a
  generic_params file inside w mode def ps ws = generics_at_framed a area (outside_body a file inside mode) w def ps ws

  pub implementation : (file : HirFileId) (inside : ModuleId) → AreIn area file inside → (id : ImplId) (x : Impl)
      → Framed area (λ b. read_impl b file inside id x) a
  implementation file inside w id x = impl_at_framed a area (outside_body a file inside Analysis) w (definition.ImplId id) x

  pub declared_trait : (file : HirFileId) (inside : ModuleId) → AreIn area file inside → (id : TraitId) (x : Trait)
      → Framed area (λ b. read_trait b file inside id x) a
  declared_trait file inside w id x = trait_at_framed a area (outside_body a file inside Analysis) w (definition.TraitId id) x

  pub type_alias : (file : HirFileId) (container : ItemContainerId) → HolderIsIn area file container → (id : TypeAliasId) (x : TypeAlias)
      → Framed area (λ b. read_alias b file container id x) a
  type_alias file container w id x =
      alias_at_framed a area (outside_body a file (a.module_of container) Analysis) container w (definition.TypeAliasId id) x

  pub function : (file : HirFileId) (inside : ModuleId) → AreIn area file inside → (id : FunctionId) (x : Fn)
      → Framed area (λ b. read_function b file inside id x) a
  function file inside w id x = function_at_framed a area (outside_body a file inside Analysis) w (definition.FunctionId id) x
