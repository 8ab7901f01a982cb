-- What a pattern is in a type, in a function pointer's parameter, and where only a plain name or `_` may stand.
use Rattle.std.specs.Prelude.{Bool, true, false, Option, Some, None}
use Rattle.hir_base.specs.declared.op.RangeOp.{RangeOp}
use Rattle.hir_base.specs.declared.op.RangeOp.TheVariants as range
use Rattle.hir_binding.specs.declared.binding.BindingAnnotation.{BindingAnnotation}
use Rattle.hir_binding.specs.declared.binding.BindingAnnotation.TheVariants as binding
use Rattle.hir_store.specs.Pointers.{Pointer}
use Rattle.hir_store.specs.Names.{IsWritten}
use Rattle.hir_store.specs.declared.name.Name.{Name}
use Rattle.hir_env.specs.declared.lang.LangItems.{LangItems}
use Rattle.hir_env.specs.ResolvedTree as tree
use Rattle.hir_env.specs.ResolvedTree.{Use, Pat, OptionPat, Pats, Side, TypePat, OptionTypePat, TypePats, Limit}

-- the node of a pattern
abbrev pub pat_pointer : Pat → Pointer
pat_pointer (tree.leaf_pat at l) = at
pat_pointer (tree.bind_pat at u _ p) = at
pat_pointer (tree.name_pat at u _) = at
pat_pointer (tree.path_pat at p) = at
pat_pointer (tree.tuple_struct_pat at p comma ps) = at
pat_pointer (tree.tuple_pat at comma ps) = at
pat_pointer (tree.record_pat at p fs dots) = at
pat_pointer (tree.or_pat at ps) = at
pat_pointer (tree.paren_pat at p) = at
pat_pointer (tree.slice_pat at ps middle qs) = at
pat_pointer (tree.over_pat at form p) = at
pat_pointer (tree.literal_pat at from l) = at
pat_pointer (tree.range_pat at o a b) = at
pat_pointer (tree.macro_pat at called p) = at
pat_pointer (tree.barred_pat at) = at

-- a plain name: without `ref`, `mut` and `@`
abbrev pub is_unannotated : BindingAnnotation → Bool
is_unannotated binding.Unannotated = true
is_unannotated _ = false

abbrev pub is_plain : Use → OptionPat → Bool
is_plain u tree.no_pat = is_unannotated u.mode
is_plain u (tree.some_pat p) = false

-- in a type

abbrev pub start_limit : LangItems → Side → Limit
start_limit items tree.no_side = tree.item_limit items.range_min
start_limit items s = tree.side_limit s

abbrev pub end_at : LangItems → Option RangeOp → Side → Limit
end_at items (Some range.Exclusive) s = tree.before_limit items.range_sub s
end_at items _ s = tree.side_limit s

abbrev pub end_limit : LangItems → Option RangeOp → Side → Limit
end_limit items o tree.no_side = tree.item_limit items.range_max
end_limit items o s = end_at items o s

module _ (items : LangItems) where
  abbrev mutual
    pub type_pat_of : Pat → TypePat
    type_pat_of (tree.leaf_pat at tree.not_null_leaf) = tree.not_null_type_pat at
    type_pat_of (tree.or_pat at ps) = tree.or_type_pat at (type_pats_of ps)
    type_pat_of (tree.range_pat at o a b) = tree.range_type_pat at (start_limit items a) (end_limit items o b)
    type_pat_of (tree.macro_pat at called tree.no_pat) = tree.macro_type_pat at called tree.no_type_pat
    type_pat_of (tree.macro_pat at called (tree.some_pat p)) = tree.macro_type_pat at called (tree.some_type_pat (type_pat_of p))
    type_pat_of p = tree.other_type_pat (pat_pointer p)

    pub type_pats_of : Pats → TypePats
    type_pats_of tree.no_pats = tree.no_type_pats
    type_pats_of (tree.more_pats p ps) = tree.more_type_pats (type_pat_of p) (type_pats_of ps)
    type_pats_of (tree.tracked_pats called ps) = type_pats_of ps

  abbrev pub type_pat_or_none : OptionPat → OptionTypePat
  type_pat_or_none tree.no_pat = tree.no_type_pat
  type_pat_or_none (tree.some_pat p) = tree.some_type_pat (type_pat_of p)

-- in a parameter

-- the name that a pattern gives a function pointer's parameter
abbrev pub name_given : OptionPat → Option Name
name_given (tree.some_pat (tree.bind_pat at u _ p)) = Some u.name
name_given (tree.some_pat (tree.name_pat at u _)) = Some u.name
name_given _ = None

-- a plain name binds, whatever it stands for elsewhere
abbrev pub plain_or_barred : Bool → Pointer → (u : Use) → IsWritten u.name → Pat
plain_or_barred true at u w = tree.bind_pat at u w tree.no_pat
plain_or_barred false at u w = tree.barred_pat at

-- where only a plain name or `_` may stand, also as what a call stands for
abbrev mutual
  pub bare_pat : Pat → Pat
  bare_pat (tree.leaf_pat at tree.wild_leaf) = tree.leaf_pat at tree.wild_leaf
  bare_pat (tree.bind_pat at u w p) = plain_or_barred (is_plain u p) at u w
  bare_pat (tree.name_pat at u w) = tree.bind_pat at u w tree.no_pat
  bare_pat (tree.macro_pat at called p) = tree.macro_pat at called (bare_part p)
  bare_pat p = tree.barred_pat (pat_pointer p)

  pub bare_part : OptionPat → OptionPat
  bare_part tree.no_pat = tree.no_pat
  bare_part (tree.some_pat p) = tree.some_pat (bare_pat p)
