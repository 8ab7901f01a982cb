-- Of a body and its parameters each type and each pattern that is reached is reached in one way.
use Rattle.std.proofs.Common.{◌≡◌, ap, subst, sym, ℕ, ◌≤◌, length, Bool, [], ◌++◌, Option, Ok}
use Rattle.hir_store.specs.Stored.{Stored}
use Rattle.hir_store.specs.StoreSink.{Extends}
use Rattle.hir_store.specs.declared.hir.CoroutineKind.{CoroutineKind}
use Rattle.hir_store.specs.declared.ids.ExprId.{ExprId}
use Rattle.hir_env.specs.ResolvedTree.{Formals, OptionExpr}
use Rattle.hir_lower_builder.specs.Builder.{Builder}
use Rattle.thm_logic.specs.Keeps.{Paired}
use Rattle.thm_semantics.specs.Reached.{Spread}
use Rattle.thm_body_result.specs.Formals.{Given, lower_body}
use Rattle.thm_type_result.specs.Named.{of_exprs, of_pats, of_pats_alone, of_types_alone}
use Rattle.thm_type_result.specs.Pats.{of_types, pats_reached}
use Rattle.thm_type_result.specs.Reached.{of_each, types_reached}
use Rattle.thm_type_result.proofs.Named as named

-- nothing of what names types and patterns is stored
pub record Bare (s : Stored) : Type 0 where
  pub exprs : s.exprs.entries ≡ []
  pub pats : s.pats.entries ≡ []
  pub types : s.types.entries ≡ []

-- where nothing was stored before
module _ (kind : Option CoroutineKind) (skipped : Bool) (f : Formals) (e : OptionExpr) (b b' : Builder) (given : Given) (i : ExprId)
    (paired : Paired b.stored) (bare : Bare b.stored) (is : lower_body kind skipped f e b ≡ (Ok (given, i), b')) (final : Stored)
    (stays : Extends b'.stored final) where
  pub body_types_once : (depth : ℕ) → length final.types.entries ≤ depth
      → let l = of_types_alone (types_reached final.types.entries depth) in
      Spread 0 (length b'.stored.types.entries) (of_exprs l b'.stored.exprs.entries ++ of_pats l b'.stored.pats.entries)
  body_types_once depth le =
      let l = of_types_alone (types_reached final.types.entries depth) in
      let reached = of_exprs l b'.stored.exprs.entries ++ of_pats l b'.stored.pats.entries in
      let exprs = ap (λ xs. xs ++ b'.stored.exprs.entries) bare.exprs in
      let pats = ap (λ xs. xs ++ b'.stored.pats.entries) bare.pats in
      subst (λ n. Spread n (length b'.stored.types.entries) reached) (ap length bare.types)
      (named.body_types_once kind skipped f e b b' given i paired is final stays depth le b'.stored.exprs.entries (sym exprs)
      b'.stored.pats.entries (sym pats))

  pub all_pats_once : (depth : ℕ) → length final.pats.entries ≤ depth
      → let l = of_pats_alone (pats_reached final.pats.entries depth) in
      Spread 0 (length b'.stored.pats.entries)
      (of_each l.pats given.0.1 ++ (of_exprs l b'.stored.exprs.entries ++ of_types l b'.stored.types.entries))
  all_pats_once depth le =
      let l = of_pats_alone (pats_reached final.pats.entries depth) in
      let reached = of_each l.pats given.0.1 ++ (of_exprs l b'.stored.exprs.entries ++ of_types l b'.stored.types.entries) in
      let exprs = ap (λ xs. xs ++ b'.stored.exprs.entries) bare.exprs in
      let types = ap (λ xs. xs ++ b'.stored.types.entries) bare.types in
      subst (λ n. Spread n (length b'.stored.pats.entries) reached) (ap length bare.pats)
      (named.body_pats_once kind skipped f e b b' given i paired is final stays depth le b'.stored.exprs.entries (sym exprs)
      b'.stored.types.entries (sym types))
