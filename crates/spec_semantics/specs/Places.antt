-- The places in the assignee expression, as it is stored: expressions, in their order.
use Rattle.std.specs.Prelude.{ℕ, zero, suc, List, [], ◌∷◌, length, slice_get, Option, Some, None}
use Rattle.hir_store.specs.Stored.{Store}
use Rattle.hir_store.specs.declared.ids.ExprId.{ExprId}
use Rattle.hir_store.specs.declared.ids.PatId.{PatId}
use Rattle.hir_store.specs.declared.pat.Pat.{Pat}
use Rattle.hir_store.specs.declared.pat.Pat.TheVariants as pat
use Rattle.hir_store.specs.declared.pat.RecordFieldPat.{RecordFieldPat}

-- each before others, with those of the patterns in it
module _ (part : PatId → List ExprId → List ExprId) where
  abbrev pub places_in_each : List PatId → List ExprId → List ExprId
  places_in_each [] behind = behind
  places_in_each (p ∷ ps) behind = part p (places_in_each ps behind)

  abbrev pub places_in_present : Option PatId → List ExprId → List ExprId
  places_in_present None behind = behind
  places_in_present (Some p) behind = part p behind

  abbrev pub places_in_fields : List RecordFieldPat → List ExprId → List ExprId
  places_in_fields [] behind = behind
  places_in_fields (f ∷ fs) behind = part f.pat (places_in_fields fs behind)

  abbrev pub places_in : Pat → List ExprId → List ExprId
  places_in pat.Missing behind = behind
  places_in pat.Wild behind = behind
  places_in pat.Rest behind = behind
  places_in pat.NotNull behind = behind
  places_in (pat.Bind i sub) behind = places_in_present sub behind
  places_in (pat.Path p h) behind = behind
  places_in (pat.TupleStruct p ellipsis ps) behind = places_in_each ps behind
  places_in (pat.Tuple ellipsis ps) behind = places_in_each ps behind
  places_in (pat.Record p fs ellipsis) behind = places_in_fields fs behind
  places_in (pat.Or ps) behind = places_in_each ps behind
  places_in (pat.Slice before middle after) behind = places_in_each before (places_in_present middle (places_in_each after behind))
  places_in (pat.Ref m p) behind = part p behind
  places_in (pat.Box p) behind = part p behind
  places_in (pat.Deref p) behind = part p behind
  places_in (pat.Lit e) behind = behind
  places_in (pat.Range op start end) behind = behind
  places_in (pat.Expr e) behind = e ∷ behind

  abbrev pub places_found : Option Pat → List ExprId → List ExprId
  places_found None behind = behind
  places_found (Some p) behind = places_in p behind

module _ (store : Store) where
  -- with at most so many patterns inside one another
  unfoldable pub places_to : ℕ → PatId → List ExprId → List ExprId
  places_to zero p behind = behind
  places_to (suc d) p behind = places_found (places_to d) (slice_get store.pats p.0) behind

  -- no more than there are can be inside one another
  unfoldable pub places : PatId → List ExprId → List ExprId
  places p behind = places_to (length store.pats) p behind
