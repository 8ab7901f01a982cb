-- Small types in which something is stored that nothing reaches: what all that is stored reads back as.
use Rattle.std.specs.Prelude.{◌≡◌, false, [], ◌∷◌, None, Some}
use Rattle.hir_store.specs.Names.{IsWritten}
use Rattle.hir_store.specs.Pointers.{Pointer}
use Rattle.hir_store.specs.declared.name.Name.{Name}
use Rattle.hir_env.specs.declared.ctx.ImplTrait.TheVariants as becomes
use Rattle.hir_env.specs.ResolvedTree as tree
use Rattle.hir_env.specs.ResolvedTree.{Lifetime, Segment, Segments, Type_}
use Rattle.spec_data.specs.Data.{TypeData, bare_path, error_shape, infer_shape, path_shape, typed}
use Rattle.spec_data.specs.Written.{lifetime_data}
use Rattle.thm_logic.specs.Grades.{grade_type}
use Rattle.thm_body_result.specs.StoredData.{StoredData, stored_data}

abbrev pub data_in : Type_ → StoredData
data_in t = grade_type stored_data t

module _ (at a : Pointer) (n k : Name) (is : IsWritten n) (also : IsWritten k) (l : Lifetime) where
  -- the type of this path
  abbrev pub of_segments : Segment → Segments → Type_
  of_segments first rest = tree.path_type at (tree.some_path (tree.path None false first rest tree.no_path))

  -- a name without arguments, and one with `_` as its argument
  abbrev pub named : (n : Name) → IsWritten n → Segment
  named n is = tree.name_segment n is (tree.segment_args tree.no_arg_list tree.no_parens false)

  abbrev pub with_hole : Segment
  with_hole = tree.name_segment n is (tree.segment_args
      (tree.some_arg_list (tree.more_args (tree.type_arg (tree.some_type (tree.leaf_type a tree.infer_leaf))) tree.no_args))
      tree.no_parens false)

  -- `impl k + 'l` where none is allowed: its bounds are stored, and it is an error
  abbrev pub not_allowed : Type_
  not_allowed = tree.impl_type at becomes.Error (tree.more_bounds (tree.path_bound a
      (tree.some_path (tree.path None false (named k also) tree.no_segments tree.no_path)) false [])
      (tree.more_bounds (tree.lifetime_bound l) tree.no_bounds))

  -- `k::crate::emitted::n<_>`, read from its end, is refused behind its argument
  abbrev pub refused : Type_
  refused = of_segments (named k also) (tree.more_segments tree.crate_segment (tree.more_segments with_hole tree.no_segments))

  abbrev hole : TypeData
  hole = typed (Some a) infer_shape

  abbrev an_error : TypeData
  an_error = typed (Some at) error_shape

  pub record SmallData : Type 0 where
    pub bounds : (data_in not_allowed).types ≡ typed (Some a) (path_shape (bare_path k)) ∷ an_error ∷ []
    pub lifetimes : (data_in not_allowed).lifetimes ≡ lifetime_data l ∷ []
    pub arguments : (data_in refused).types ≡ hole ∷ an_error ∷ []

abbrev pub AllSmallData : Type 0
AllSmallData = (at a : Pointer) (n k : Name) (is : IsWritten n) (also : IsWritten k) (l : Lifetime) → SmallData at a n k is also l
