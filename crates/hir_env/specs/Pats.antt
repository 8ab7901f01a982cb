-- How the answers are written into patterns.
use Rattle.std.specs.Prelude.{List, [], ◌∷◌, Bool, true, false, ◌&&◌, if◌then◌else◌, Option, Some, None, Result, Ok, Err, option_map}
use Rattle.hir_base.specs.declared.node.AstPtr.{AstPtr}
use Rattle.hir_base.specs.declared.op.LiteralKind.{LiteralKind}
use Rattle.hir_base.specs.declared.op.LiteralKind.TheVariants as literal
use Rattle.hir_syntax.specs.declared.ast.Name.{Name as AstName}
use Rattle.hir_syntax.specs.declared.pats.PatLiteral.{PatLiteral}
use Rattle.hir_syntax.specs.declared.ast.ElseBranch.TheOpen.{PatKind-F}
use Rattle.hir_binding.specs.declared.binding.BindingAnnotation.{BindingAnnotation}
use Rattle.hir_binding.specs.declared.binding.BindingAnnotation.TheVariants as binding
use Rattle.hir_store.specs.Pointers.{Pointer}
use Rattle.hir_store.specs.declared.ids.CfgId.{CfgId}
use Rattle.hir_store.specs.declared.ids.HygieneId.{HygieneId}
use Rattle.hir_store.specs.declared.name.Name.{Name}
use Rattle.hir_store.specs.Names.{IsWritten}
use Rattle.hir_store.specs.declared.name.Name.TheVariants as name
use Rattle.hir_store.specs.declared.path.ModPath.{ModPath}
use Rattle.hir_store.specs.declared.path.PathKind.TheVariants as kind
use Rattle.hir_env.specs.declared.ctx.LowerCtx.{LowerCtx}
use Rattle.hir_env.specs.declared.resolved.Resolution.{Resolution}
use Rattle.hir_env.specs.declared.resolved.Resolution.TheVariants as resolution
use Rattle.hir_env.specs.declared.resolved.BuiltinShadowMode.TheVariants as shadow
use Rattle.hir_env.specs.Answers.{Answers}
use Rattle.hir_env.specs.ResolveCtx.{in_file, ptr, site_of}
use Rattle.hir_env.specs.Layers.{Sorts, Reader}
use Rattle.hir_env.specs.PatLayers.{PatKindLayer, PatLayer, RecordPatFieldLayer}
use Rattle.hir_env.specs.Paths.{path_or_none, pat_or_none, mutability}
use Rattle.hir_env.specs.TypePats.{is_plain}
use Rattle.hir_env.specs.Answering.{name_or_missing, name_written, truth}
use Rattle.hir_env.specs.Calls.{entered_pat}
use Rattle.hir_env.specs.ResolvedTree as tree
use Rattle.hir_env.specs.ResolvedTree.{Use, Pat, OptionPat, Pats, PatFields, PatField, Side}

-- names

abbrev pub mode_of : Bool → Bool → BindingAnnotation
mode_of false false = binding.Unannotated
mode_of false true = binding.Mutable
mode_of true false = binding.Ref
mode_of true true = binding.RefMut

-- that of its node, or the root's where it is absent
abbrev pub name_hygiene : Answers → LowerCtx → Option AstName → HygieneId
name_hygiene env p None = record { 0 = 0 }
name_hygiene env p (Some n) = env.hygiene (site_of (in_file p (ptr n.id n.range)))

abbrev pub use_at : Answers → LowerCtx → Option AstName → Bool → Bool → Use
use_at env p n is_ref is_mut = record { name = name_or_missing n; hygiene = name_hygiene env p n; mode = mode_of is_ref is_mut }

abbrev pub plain_path : Name → ModPath
plain_path n = record { kind = kind.Plain; segments = n ∷ [] }

-- what a plain name stands for where it doesn't bind
abbrev pub is_constant : Option Resolution → Bool
is_constant (Some resolution.Const) = true
is_constant (Some resolution.Variant) = true
is_constant (Some resolution.Struct) = true
is_constant _ = false

-- whether a name is found, be it in part
abbrev pub is_found : Answers → LowerCtx → Name → Bool
is_found env p n = is_constant (env.resolve p.module_id (plain_path n) shadow.Other).values

abbrev pub name_or_bind : Bool → Pointer → (u : Use) → IsWritten u.name → OptionPat → Pat
name_or_bind true s u w q = tree.name_pat s u w
name_or_bind false s u w q = tree.bind_pat s u w q

abbrev pub ident_pat : Answers → LowerCtx → Pointer → (u : Use) → IsWritten u.name → OptionPat → Pat
ident_pat env p s u w q = name_or_bind (is_plain u q && is_found env p u.name) s u w q

-- literals and sides

-- a minus stands in front of numbers alone
abbrev pub is_number : LiteralKind → Bool
is_number literal.Int = true
is_number literal.Float = true
is_number _ = false

abbrev pub minus_fits : Bool → LiteralKind → Bool
minus_fits false k = true
minus_fits true k = is_number k

abbrev pub literal_or_broken : LowerCtx → Pointer → Option PatLiteral → Bool → Pat
literal_or_broken p s None minus = tree.leaf_pat s tree.broken_leaf
literal_or_broken p s (Some l) minus =
    if minus_fits minus l.literal.lit
    then tree.literal_pat s (Some (in_file p (ptr l.id l.range))) (record { minus = minus; literal = l.literal })
    else tree.leaf_pat s tree.broken_leaf

abbrev pub plain_side : Bool → Pointer → (n : Name) → IsWritten n → Side
plain_side true s n w = tree.name_side s n w
plain_side false s n w = tree.other_side

-- a plain name is a path here, whatever it stands for
abbrev pub side_of : OptionPat → Side
side_of tree.no_pat = tree.no_side
side_of (tree.some_pat (tree.literal_pat s (Some at) l)) = tree.literal_side s l
side_of (tree.some_pat (tree.bind_pat s u w q)) = plain_side (is_plain u q) s u.name w
side_of (tree.some_pat (tree.name_pat s u w)) = tree.name_side s u.name w
side_of (tree.some_pat (tree.path_pat s x)) = tree.path_side s x
side_of (tree.some_pat _) = tree.other_side

-- fields

abbrev pub asked_pat_field : Pointer → Result (Unit {0}) CfgId → PatField → PatField
asked_pat_field s (Ok _) f = f
asked_pat_field s (Err by) f = tree.disabled_pat_field s by f

abbrev pub pat_field_of : Pointer → Option AstName → OptionPat → PatField
pat_field_of s n tree.no_pat = tree.partless_pat_field
pat_field_of s n (tree.some_pat q) = tree.pat_field s (option_map (λ m. name.Text m.t) n) q

-- lists

abbrev pub pats_of : {A : Type 0} → (A → LowerCtx → Pat) → List A → LowerCtx → Pats
pats_of read [] p = tree.no_pats
pats_of read (x ∷ xs) p = tree.more_pats (read x p) (pats_of read xs p)

abbrev pub pat_fields_of : {A : Type 0} → (A → LowerCtx → PatField) → List A → LowerCtx → PatFields
pat_fields_of read [] p = tree.no_pat_fields
pat_fields_of read (x ∷ xs) p = tree.more_pat_fields (read x p) (pat_fields_of read xs p)

-- whether it is two dots, itself or what a call stands for
abbrev pub is_rest : Pat → Bool
is_rest (tree.leaf_pat s tree.rest_leaf) = true
is_rest (tree.macro_pat s called (tree.some_pat p)) = is_rest p
is_rest p = false

-- two dots, behind the calls that they come out of
abbrev pub rest_in : Pat → Pats → Pats
rest_in (tree.macro_pat s called (tree.some_pat p)) ps = tree.tracked_pats called (rest_in p ps)
rest_in p ps = tree.more_pats p ps

-- An element of a tuple or a call is missing at its own node where it is a call that the text lacks, also one that a call stands for.
abbrev pub element_of : Pat → Pat
element_of (tree.macro_pat s tree.callless tree.no_pat) = tree.leaf_pat s tree.broken_leaf
element_of (tree.macro_pat s called (tree.some_pat p)) = tree.macro_pat s called (tree.some_pat (element_of p))
element_of p = p

abbrev pub element_in : Pat → Pats → Pats
element_in p ps = if is_rest p then rest_in p ps else tree.more_pats (element_of p) ps

abbrev pub elements_of : {A : Type 0} → (A → LowerCtx → Pat) → List A → LowerCtx → Pats
elements_of read [] p = tree.no_pats
elements_of read (x ∷ xs) p = element_in (read x p) (elements_of read xs p)

-- one level

abbrev pub macro_pat_at : Answers → {S : Sorts} → Reader S → Option S.MacroCall → LowerCtx → Pointer → Pat
macro_pat_at env part None p s = tree.macro_pat s tree.callless tree.no_pat
macro_pat_at env part (Some c) p s = entered_pat env part.into (part.macro_call c) p s

module _ (env : Answers) {S : Sorts} (part : Reader S) where
  abbrev pub pat_at : PatKindLayer S → LowerCtx → Pointer → Pat
  pat_at (PatKind-F.IdentPat n is_ref is_mut x) p s =
      ident_pat env p s (use_at env p n is_ref is_mut) (name_written n) (pat_or_none part.pat x p)
  pat_at (PatKind-F.TupleStructPat x comma xs) p s =
      tree.tuple_struct_pat s (path_or_none part.path x p) comma (elements_of part.pat xs p)
  pat_at (PatKind-F.TuplePat comma xs) p s = tree.tuple_pat s comma (elements_of part.pat xs p)
  pat_at (PatKind-F.RefPat is_mut x) p s = tree.over_pat s (tree.ref_to (mutability is_mut)) (pat_or_none part.pat x p)
  pat_at (PatKind-F.PathPat x) p s = tree.path_pat s (path_or_none part.path x p)
  pat_at (PatKind-F.OrPat xs) p s = tree.or_pat s (pats_of part.pat xs p)
  pat_at (PatKind-F.ParenPat x) p s = tree.paren_pat s (pat_or_none part.pat x p)
  pat_at (PatKind-F.BoxPat x) p s = tree.over_pat s tree.box_of (pat_or_none part.pat x p)
  pat_at (PatKind-F.DerefPat x) p s = tree.over_pat s tree.deref_of (pat_or_none part.pat x p)
  pat_at (PatKind-F.RecordPat x fs dots) p s =
      tree.record_pat s (path_or_none part.path x p) (pat_fields_of part.pat_field fs p) dots
  pat_at (PatKind-F.SlicePat xs y zs) p s =
      tree.slice_pat s (pats_of part.pat xs p) (pat_or_none part.pat y p) (pats_of part.pat zs p)
  pat_at (PatKind-F.LiteralPat l minus) p s = literal_or_broken p s l minus
  pat_at (PatKind-F.RangePat o x y) p s =
      tree.range_pat s o (side_of (pat_or_none part.pat x p)) (side_of (pat_or_none part.pat y p))
  pat_at (PatKind-F.CfgPredPat pred) p s = tree.literal_pat s None (record { minus = false; literal = truth (env.cfg_pred pred) })
  pat_at (PatKind-F.MacroPat call) p s = macro_pat_at env part call p s
  pat_at PatKind-F.WildcardPat p s = tree.leaf_pat s tree.wild_leaf
  pat_at PatKind-F.RestPat p s = tree.leaf_pat s tree.rest_leaf
  pat_at PatKind-F.NotNullPat p s = tree.leaf_pat s tree.not_null_leaf
  pat_at PatKind-F.ConstBlockPat p s = tree.leaf_pat s tree.broken_leaf

  abbrev pub pat_kind_step : PatKindLayer S → AstPtr → LowerCtx → Pat
  pat_kind_step k n p = pat_at k p (in_file p n)

  abbrev pub pat_step : PatLayer S → LowerCtx → Pat
  pat_step x = part.pat_kind x.kind (ptr x.id x.range)

  abbrev pub pat_field_at : RecordPatFieldLayer S → LowerCtx → Pointer → PatField
  pat_field_at x p s = asked_pat_field s (env.cfg (site_of s)) (pat_field_of s x.name (pat_or_none part.pat x.pat p))

  abbrev pub pat_field_step : RecordPatFieldLayer S → LowerCtx → PatField
  pat_field_step x p = pat_field_at x p (in_file p (ptr x.id x.range))
