-- What a call leaves stands behind what the calls before it left.
use Rattle.std.proofs.Common.{◌≡◌, ◌≢◌, refl, ℕ, [], ◌∷◌, Option, Ok, Err}
use Rattle.std.specs.Prelude.{IfOk}
use Rattle.std.proofs.Math.Logic.{∥∥₁_map}
use Rattle.hir_store.specs.Pointers.{Pointer}
use Rattle.hir_store.specs.Stored.{Stored}
use Rattle.hir_store.specs.declared.ids.ExprId.{ExprId}
use Rattle.hir_store.specs.declared.ids.TypeRefId.{TypeRefId}
use Rattle.hir_store.specs.declared.error.StoreError.TheVariants.{Memory}
use Rattle.hir_store.specs.declared.path.Path.{Path}
use Rattle.hir_store.specs.declared.type_ref.TypeRef.{TypeRef}
use Rattle.hir_env.specs.ResolvedTree.{OptionExpr, OptionPath, OptionType}
use Rattle.hir_lower_builder.specs.Builder.{Builder}
use Rattle.hir_lower_builder.specs.Lowering.{Checked}
use Rattle.hir_lower.specs.Collected.{Collected, of_constant, of_path, of_type, of_type_ref}
use Rattle.hir_lower.specs.Means.{AddsType, PathRooted, Rooted, TypeRooted}
use Rattle.hir_lower.specs.Roots.{new_builder}
use Rattle.hir_lower.specs.Stays.{Stays}

pub fresh_collected : (b : Builder) (limit : ℕ) → b ≡ new_builder limit → ∥ Collected b.stored ∥₁
fresh_collected b limit h = rw h (∣ record { limit = limit; calls = []; left = refl } ∣₁)

pub constant_collected : (old new : Stored) (e : OptionExpr) (r : Checked ExprId) → IfOk r (λ i. Rooted old new i e)
    → (r ≢ Err Memory → Stays old new) → ∥ Collected old ∥₁ → IfOk r (λ i. ∥ Collected new ∥₁)
constant_collected old new e (Ok i) rooted stays k = ∥∥₁_map k (λ c. record {
  limit = c.limit;
  calls = of_constant e i ∷ c.calls;
  left = (old, (c.left, (rooted, stays (λ is. cc))));
})
constant_collected old new e (Err x) rooted stays k = tt

pub path_collected : (old new : Stored) (p : OptionPath) (r : Checked (Option Path)) → IfOk r (λ y. PathRooted old new y p)
    → (r ≢ Err Memory → Stays old new) → ∥ Collected old ∥₁ → IfOk r (λ y. ∥ Collected new ∥₁)
path_collected old new p (Ok y) rooted stays k = ∥∥₁_map k (λ c. record {
  limit = c.limit;
  calls = of_path p y ∷ c.calls;
  left = (old, (c.left, (rooted, stays (λ is. cc))));
})
path_collected old new p (Err x) rooted stays k = tt

pub type_ref_collected : (old new : Stored) (t : OptionType) (r : Checked TypeRefId) → IfOk r (λ i. TypeRooted old new i t)
    → (r ≢ Err Memory → Stays old new) → ∥ Collected old ∥₁ → IfOk r (λ i. ∥ Collected new ∥₁)
type_ref_collected old new t (Ok i) rooted stays k = ∥∥₁_map k (λ c. record {
  limit = c.limit;
  calls = of_type_ref t i ∷ c.calls;
  left = (old, (c.left, (rooted, stays (λ is. cc))));
})
type_ref_collected old new t (Err x) rooted stays k = tt

pub type_collected : (old new : Stored) (at : Pointer) (t : TypeRef) (r : Checked TypeRefId) → IfOk r (λ i. AddsType old new i t at)
    → ∥ Collected old ∥₁ → IfOk r (λ i. ∥ Collected new ∥₁)
type_collected old new at t (Ok i) adds k = ∥∥₁_map k (λ c. record {
  limit = c.limit;
  calls = of_type at t i ∷ c.calls;
  left = (old, (c.left, adds));
})
type_collected old new at t (Err x) adds k = tt
