-- The expressions that a body holds and doesn't run with itself: the bodies inside it, the literals of patterns, and the sides of their
-- ranges.
use Rattle.std.specs.Prelude.{ℕ, zero, suc, ◌+◌, List, [], ◌++◌, length, map, Option, slice_get}
use Rattle.hir_store.specs.Stored.{Store}
use Rattle.hir_store.specs.declared.ids.ExprId.{ExprId}
use Rattle.hir_store.specs.declared.ids.PatId.{PatId}
use Rattle.hir_store.specs.declared.ids.TypeRefId.{TypeRefId}
use Rattle.hir_store.specs.declared.pat.Pat.{Pat}
use Rattle.hir_store.specs.declared.pat.Pat.TheVariants as pat
use Rattle.hir_store.specs.declared.path.Path.{Path}
use Rattle.spec_semantics.specs.Inner.{Inners, Inside, all_of, of_present, of_expr, of_limit, of_pat, of_path, of_type, of_type_pat}

-- A literal and a side are held like the end of a range in a type: itself, and what it holds.
abbrev pub unrun_of_pat : Inners → Pat → List Inside
unrun_of_pat r (pat.Lit e) = of_limit r e
unrun_of_pat r (pat.Range op start end) = of_present (of_limit r) start ++ of_present (of_limit r) end
unrun_of_pat r p = of_pat r p

-- whatever they are handed
abbrev pub exprs_of : List Inside → List ExprId
exprs_of xs = map (λ x. x.expr) xs

module _ (store : Store) where
  -- with at most so many entries inside one another
  unfoldable pub unruns : ℕ → Inners
  unruns zero = record { expr = λ i. []; type = λ i. []; pat = λ i. []; type_pat = λ i. [] }
  unruns (suc d) = record {
    expr = λ i. of_present (of_expr (unruns d)) (slice_get store.exprs i.0);
    type = λ i. of_present (of_type (unruns d)) (slice_get store.types i.0);
    pat = λ i. of_present (unrun_of_pat (unruns d)) (slice_get store.pats i.0);
    type_pat = λ i. of_present (of_type_pat (unruns d)) (slice_get store.pats i.0);
  }

  -- no more entries than there are can be inside one another
  abbrev pub all_unruns : Inners
  all_unruns = unruns (length store.exprs + (length store.types + length store.pats))

  unfoldable pub unrun_in : ExprId → List ExprId
  unrun_in i = exprs_of (all_unruns.expr i)

  -- in a type, in a path where there is one, and in patterns

  unfoldable pub unrun_in_type : TypeRefId → List ExprId
  unrun_in_type i = exprs_of (all_unruns.type i)

  unfoldable pub unrun_in_path : Option Path → List ExprId
  unrun_in_path p = exprs_of (of_present (of_path all_unruns) p)

  unfoldable pub unrun_in_pats : List PatId → List ExprId
  unrun_in_pats ps = exprs_of (all_of all_unruns.pat ps)
