-- What a call takes from its environment is the same of each that answers alike what is listed for it.
use Rattle.std.proofs.Common.{◌≡◌, ◌∙◌, ap, refl, List, [], ◌∷◌, ◌++◌, map, Option, Some, None}
use Rattle.hir_base.specs.declared.node.HirFileId.{HirFileId}
use Rattle.hir_syntax.specs.declared.ast.Path.{Path as AstPath, out-Path}
use Rattle.hir_syntax.specs.declared.ast.PathSegment.{PathSegment as AstSegment, out-PathSegment}
use Rattle.hir_syntax.specs.declared.items.Fn.{Fn}
use Rattle.hir_syntax.specs.declared.items.GenericParam.{GenericParam}
use Rattle.hir_syntax.specs.declared.items.Impl.{Impl}
use Rattle.hir_syntax.specs.declared.items.Trait.{Trait}
use Rattle.hir_syntax.specs.declared.items.TypeAlias.{TypeAlias}
use Rattle.hir_syntax.specs.declared.items.WherePred.{WherePred}
use Rattle.hir_syntax.specs.declared.types.PathType.{PathType as AstPathType, out-PathType}
use Rattle.hir_syntax.specs.declared.types.Type_.{Type_ as AstType_}
use Rattle.hir_store.specs.declared.ids.FunctionId.{FunctionId}
use Rattle.hir_store.specs.declared.ids.GenericDefId.{GenericDefId}
use Rattle.hir_store.specs.declared.ids.GenericDefId.TheVariants as definition
use Rattle.hir_store.specs.declared.ids.ImplId.{ImplId}
use Rattle.hir_store.specs.declared.ids.ItemContainerId.{ItemContainerId}
use Rattle.hir_store.specs.declared.ids.ModuleId.{ModuleId}
use Rattle.hir_store.specs.declared.ids.TraitId.{TraitId}
use Rattle.hir_store.specs.declared.ids.TypeAliasId.{TypeAliasId}
use Rattle.hir_env.specs.ResolvedTree as tree
use Rattle.hir_env.specs.Answers.{Answers}
use Rattle.hir_env.specs.Paths.{inside_constant, inside_projection}
use Rattle.hir_env.specs.Whole.{expr_part, type_part}
use Rattle.hir_env.specs.Wrapped.{AstConstArg}
use Rattle.hir_env.specs.declared.ctx.ImplTrait.{ImplTrait}
use Rattle.hir_env.specs.declared.ctx.LoweringMode.{LoweringMode}
use Rattle.hir_env.specs.declared.ctx.LoweringMode.TheVariants.{Analysis}
use Rattle.hir_env.specs.declared.ctx.LowerCtx.{LowerCtx}
use Rattle.spec_data.specs.Segments.{all_but_first, first_trait, named_among}
use Rattle.spec_data.specs.Written.{written_type}
use Rattle.thm_frame.specs.Theorems.{rctx}
use Rattle.thm_frame.specs.Questions.{AllAlike}
use Rattle.thm_questions.specs.Lists.{path_questions, segment_questions, type_questions}
use Rattle.thm_questions.specs.Parts.{of_each, of_option}
use Rattle.thm_questions.proofs.Bodies.{bodies_alike, everywhere}
use Rattle.thm_questions.proofs.Framing.{first_alike, rest_alike}
use Rattle.thm_questions.proofs.Tree.{below, of_expr, of_path, of_segment, of_type}
use Rattle.thm_item_questions.proofs.Items.{alias_at_by, function_at_by, generics_at_by, impl_at_by, trait_at_by}
use Rattle.hir_lower.specs.Beside.{all_behind, args_behind, args_of_named, behind_name, last_behind_type, segments_in, type_in_front}
use Rattle.hir_lower.specs.Formals.{outside_place}
use Rattle.hir_lower.specs.Items.{read_alias, read_function, read_generics, read_impl, read_trait}
use Rattle.hir_lower.specs.Roots.{becoming, body_rctx, outside_body, type_rctx}
use Rattle.thm_calls.specs.ByList.{alias_call_asks, beside_asks, body_call_asks, const_call_asks, function_call_asks, generics_call_asks}
use Rattle.thm_calls.specs.ByList.{impl_call_asks, in_front_asks, path_call_asks, segments_ask, trait_call_asks, type_call_asks}
use Rattle.thm_calls.specs.Readings.{BodyCall, body_reading, const_reading, path_reading, type_reading}
use Rattle.thm_calls.proofs.Framed.{path_at, reading_of}

pub body : (a b : Answers) (c : BodyCall) → AllAlike a b (body_call_asks c a) → body_reading c a ≡ body_reading c b
body a b c h = let p = (body_rctx a c.owner c.file_id c.inside c.is_async).place in
    let same = bodies_alike a (everywhere a) b c.owner p (outside_place p) c.params c.body h in
    λ i. reading_of c (same i)

-- first by the other environment with the limit of this one, and then with its own

pub type_ref : (a b : Answers) (file : HirFileId) (inside : ModuleId) (t : Option AstType_) → AllAlike a b (type_call_asks file inside t a)
    → type_reading file inside t a ≡ type_reading file inside t b
type_ref a b file inside None h = refl
type_ref a b file inside (Some t) h = let p = (type_rctx a file inside).place in
    let same = (of_type a (everywhere a) p.left (below a (everywhere a) p.left) t p).same b h.1 in
    (λ i. tree.some_type (same i)) ∙ (λ j. type_part (rctx (record p { left = h.0 j }) b) (Some t))

pub const_arg : (a b : Answers) (file : HirFileId) (inside : ModuleId) (mode : LoweringMode) (x : AstConstArg)
    → AllAlike a b (const_call_asks file inside mode x a) → const_reading file inside mode x a ≡ const_reading file inside mode x b
const_arg a b file inside mode None h = refl
const_arg a b file inside mode (Some x) h = let p = inside_constant (outside_body a file inside mode) in
    let same = ((of_expr a (everywhere a) p.left (below a (everywhere a) p.left) x).expr p).same b h.1 in
    (λ i. tree.some_expr (same i)) ∙ (λ j. expr_part (rctx (record p { left = h.0 j }) b) (Some x))

-- paths, with what is written behind their segments

module _ (a b : Answers) where
  type_alike : (p : LowerCtx) (t : Option AstType_) → AllAlike a b (of_option (type_questions (rctx p a)) t)
      → type_part (rctx p a) t ≡ type_part (rctx p b) t
  type_alike p None h = refl
  type_alike p (Some t) h = ap tree.some_type ((of_type a (everywhere a) p.left (below a (everywhere a) p.left) t p).same b h)

  behind_alike : (p : LowerCtx) (s : AstSegment) → AllAlike a b (segment_questions (rctx p a) s)
      → args_behind (rctx p a) s ≡ args_behind (rctx p b) s
  behind_alike p s h = ap behind_name ((of_segment a (everywhere a) p.left (below a (everywhere a) p.left) s p).same b h)

  each_alike : (p : LowerCtx) (ss : List AstSegment) → AllAlike a b (of_each (segment_questions (rctx p a)) ss)
      → map (args_behind (rctx p a)) ss ≡ map (args_behind (rctx p b)) ss
  each_alike p [] h = refl
  each_alike p (s ∷ ss) h = let own = segment_questions (rctx p a) s in let others = of_each (segment_questions (rctx p a)) ss in
      λ i. behind_alike p s (first_alike a b own others h) i ∷ each_alike p ss (rest_alike a b own others h) i

  segments_alike : (p : LowerCtx) (ss : List (Option AstSegment)) → AllAlike a b (segments_ask (rctx p a) ss)
      → all_behind (rctx p a) ss ≡ all_behind (rctx p b) ss
  segments_alike p ss h = each_alike p (named_among ss) h

  in_front_alike : (p : LowerCtx) (ss : List (Option AstSegment)) → AllAlike a b (in_front_asks (rctx p a) ss)
      → type_in_front (rctx p a) ss ≡ type_in_front (rctx p b) ss
  in_front_alike p [] h = refl
  in_front_alike p (None ∷ ss) h = refl
  in_front_alike p (Some s ∷ ss) h = ap written_type (type_alike (inside_projection p) (out-PathSegment s).ty h)

  beside_alike : (p : LowerCtx) (t : Option AstPathType) (ss : List (Option AstSegment)) → AllAlike a b (beside_asks (rctx p a) t ss)
      → args_of_named (rctx p a) t ss ≡ args_of_named (rctx p b) t ss
  beside_alike p None ss h = segments_alike p ss h
  beside_alike p (Some t) ss h =
      let front = in_front_asks (rctx p a) ss in
      let of_trait = segments_ask (rctx (inside_projection p) a) (segments_in (out-PathType t).path) in
      let behind = segments_ask (rctx p a) (all_but_first ss) in
      let rest = rest_alike a b front (of_trait ++ behind) h in
      λ i. last_behind_type (in_front_alike p ss (first_alike a b front (of_trait ++ behind) h) i)
      (segments_alike (inside_projection p) (segments_in (out-PathType t).path) (first_alike a b of_trait behind rest) i)
      (segments_alike p (all_but_first ss) (rest_alike a b of_trait behind rest) i)

pub path : (a b : Answers) (file : HirFileId) (inside : ModuleId) (mode : LoweringMode) (impl : ImplTrait) (x : AstPath)
    → AllAlike a b (path_call_asks file inside mode impl x a)
    → path_reading file inside mode impl x a ≡ path_reading file inside mode impl x b
path a b file inside mode impl x h =
    let p = becoming (outside_body a file inside mode) impl in let ss = (out-Path x).segs in
    let own = path_questions (rctx p a) x in let beside = beside_asks (rctx p a) (first_trait ss) ss in
    let same = ((of_path a (everywhere a) p.left (below a (everywhere a) p.left) x).alone p).same b (first_alike a b own beside h.1) in
    let args = beside_alike a b p (first_trait ss) ss (rest_alike a b own beside h.1) in
    (λ i. record { read = tree.some_path (same i); arguments = args i }) ∙ (λ j. path_at b (record p { left = h.0 j }) x)

-- items

pub generic_params : (a b : Answers) (file : HirFileId) (inside : ModuleId) (mode : LoweringMode) (def : GenericDefId)
    (ps : Option (List GenericParam)) (ws : Option (List WherePred)) → AllAlike a b (generics_call_asks file inside mode def ps ws a)
    → read_generics a file inside mode def ps ws ≡ read_generics b file inside mode def ps ws
generic_params a b file inside mode def ps ws h =
    (generics_at_by a (everywhere a) (outside_body a file inside mode) def ps ws).same b h

pub implementation : (a b : Answers) (file : HirFileId) (inside : ModuleId) (id : ImplId) (x : Impl)
    → AllAlike a b (impl_call_asks file inside id x a) → read_impl a file inside id x ≡ read_impl b file inside id x
implementation a b file inside id x h =
    (impl_at_by a (everywhere a) (outside_body a file inside Analysis) (definition.ImplId id) x).same b h

pub declared_trait : (a b : Answers) (file : HirFileId) (inside : ModuleId) (id : TraitId) (x : Trait)
    → AllAlike a b (trait_call_asks file inside id x a) → read_trait a file inside id x ≡ read_trait b file inside id x
declared_trait a b file inside id x h =
    (trait_at_by a (everywhere a) (outside_body a file inside Analysis) (definition.TraitId id) x).same b h

pub type_alias : (a b : Answers) (file : HirFileId) (container : ItemContainerId) (id : TypeAliasId) (x : TypeAlias)
    → AllAlike a b (alias_call_asks file container id x a) → read_alias a file container id x ≡ read_alias b file container id x
type_alias a b file container id x h =
    (alias_at_by a (everywhere a) (outside_body a file (a.module_of container) Analysis) (definition.TypeAliasId id) container x).same b h

pub function : (a b : Answers) (file : HirFileId) (inside : ModuleId) (id : FunctionId) (x : Fn)
    → AllAlike a b (function_call_asks file inside id x a) → read_function a file inside id x ≡ read_function b file inside id x
function a b file inside id x h =
    (function_at_by a (everywhere a) (outside_body a file inside Analysis) (definition.FunctionId id) x).same b h
