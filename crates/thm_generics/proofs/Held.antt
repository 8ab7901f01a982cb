-- What bounds hold, and how it is told in the whole store.
use Rattle.std.proofs.Common.{◌≡◌, ◌∙◌, refl, sym, ◌+◌, ◌≤◌, ℕ, length, List, [], ◌∷◌, ◌++◌, append-nil, append_assoc, arith, Ok}
use Rattle.hir_store.specs.Stored.{Stored, map_of, store_of}
use Rattle.hir_store.specs.StoreSink.{Extends}
use Rattle.hir_store.specs.declared.type_ref.TypeBound.{TypeBound}
use Rattle.hir_store.specs.declared.type_ref.TypeBound.TheVariants as bound
use Rattle.hir_env.specs.ResolvedTree as tree
use Rattle.hir_env.specs.ResolvedTree.{Bound, Bounds}
use Rattle.spec_semantics.specs.Inner.{Bodies, all_inners, bound_bodies}
use Rattle.hir_lower_builder.specs.Builder.{Builder}
use Rattle.hir_lower_builder.specs.Lowering.{Lowering}
use Rattle.hir_lower_builder.specs.Lower.{lower_bound, lower_bounds}
use Rattle.thm_logic.specs.Keeps.{Paired}
use Rattle.thm_logic.proofs.Frames.{Frame}
use Rattle.thm_logic.proofs.Steps.{Correct, Mark, correct_as, correct_bind, correct_in_store, correct_pure}
use Rattle.thm_logic.proofs.TypeAny.{lifetime_any, uses_any}
use Rattle.thm_round_trip.proofs.Layers.{Pushed}
use Rattle.thm_round_trip.proofs.Now.{answered}
use Rattle.thm_semantics.proofs.HeldTree.{path_holds}
use Rattle.thm_semantics.proofs.HeldTypes.{a_bound, path_bound_held}
use Rattle.thm_semantics.proofs.Holding.{Holds, Ids, SameIn, holds_behind, holds_none, inners_in}
use Rattle.thm_generics.specs.Lists.{BoundsHold}

-- looked into past all that there is
pub held_here : {A : Type 0} {ids : Ids A} {es : Bodies} {p : Lowering A} → Correct p (Holds ids es) → (b c : Builder) (a : A)
    → Paired b.stored → p b ≡ (Ok a, c) → (final : Stored) → Extends c.stored final → SameIn final (ids (all_inners (store_of final)) a) es
held_here h b c a paired is final pre =
    let row = answered (correct_in_store h) b c a paired is final pre in
    let n = row.nodes in
    let t = row.entries in
    row.rel.same (length final.exprs.entries + (length final.types.entries + length final.pats.entries)) (omega (arith, n, t))

pub bound_holds : (b : Bound) → Correct (lower_bound b) (Holds a_bound (bound_bodies b))
bound_holds tree.error_bound = holds_none bound.Error (λ r. refl)
bound_holds (tree.path_bound at p maybe binder) = path_bound_held at maybe binder (path_holds p)
bound_holds (tree.lifetime_bound l) = holds_behind (lifetime_any l) (λ i. holds_none (bound.Lifetime i) (λ r. refl))
bound_holds (tree.use_bound us) = holds_behind (uses_any [] us) (λ xs. holds_none (bound.Use xs) (λ r. refl))

-- of each bound by itself
pub record EachHolds (bs : Bounds) (final : Stored) (ps : List Frame) (m m' : Mark) (ys : List TypeBound) : Type 0 where
  pub same : (d : ℕ) → m'.nodes + m'.entries ≤ d → BoundsHold (store_of final) (map_of final) (inners_in final d) ys bs

pub each_holds : (bs : Bounds) (done : List TypeBound) → Correct (lower_bounds done bs) (Pushed done (EachHolds bs))
each_holds tree.no_bounds done = correct_as (correct_pure done)
    (λ final ps m m' r g row. record { new = []; is = row.is ∙ sym (append-nil done); rel = record { same = λ d le. tt } })
each_holds (tree.more_bounds b bs) done = correct_as (correct_bind (bound_holds b) (λ y. each_holds bs (done ++ y ∷ [])))
    (λ final ps m m' r g row. let s = row.second in record {
      new = row.one ∷ s.new;
      is = s.is ∙ append_assoc done (row.one ∷ []) s.new;
      rel = record { same = λ d le. (row.first.same d (omega (le, row.after.nodes, row.after.entries, arith)), s.rel.same d le) };
    })

pub all_here : {x : Bounds} {p : Lowering (List TypeBound)} → Correct p (EachHolds x) → (b c : Builder) (ys : List TypeBound)
    → Paired b.stored → p b ≡ (Ok ys, c) → (final : Stored) → Extends c.stored final
    → BoundsHold (store_of final) (map_of final) (all_inners (store_of final)) ys x
all_here h b c ys paired is final pre =
    let row = answered (correct_in_store h) b c ys paired is final pre in
    let n = row.nodes in
    let t = row.entries in
    row.rel.same (length final.exprs.entries + (length final.types.entries + length final.pats.entries)) (omega (arith, n, t))
