-- A copy of a list whose items are copied is the list.
use Rattle.std.proofs.Common.{◌≡◌, List}
use Rattle.std.specs.List.{AllZip, each_same}
use Rattle.hir_store.specs.declared.name.Name.{Name}
use Rattle.hir_store.specs.declared.type_ref.UseArgRef.{UseArgRef}
use Rattle.hir_store.specs.declared.type_ref.TypeBound.{TypeBound}
use Rattle.hir_store.specs.declared.generics.LifetimeParamData.{LifetimeParamData}
use Rattle.hir_store.specs.declared.generics.TypeOrConstParamData.{TypeOrConstParamData}
use Rattle.hir_store.specs.declared.generics.WherePredicate.{WherePredicate}

pub same_names : (xs ys : List Name) → AllZip (λ x y. y ≡ x) xs ys → ys ≡ xs
same_names = each_same

pub same_use_args : (xs ys : List UseArgRef) → AllZip (λ x y. y ≡ x) xs ys → ys ≡ xs
same_use_args = each_same

pub same_bounds : (xs ys : List TypeBound) → AllZip (λ x y. y ≡ x) xs ys → ys ≡ xs
same_bounds = each_same

pub same_params : (xs ys : List TypeOrConstParamData) → AllZip (λ x y. y ≡ x) xs ys → ys ≡ xs
same_params = each_same

pub same_lifetimes : (xs ys : List LifetimeParamData) → AllZip (λ x y. y ≡ x) xs ys → ys ≡ xs
same_lifetimes = each_same

pub same_predicates : (xs ys : List WherePredicate) → AllZip (λ x y. y ≡ x) xs ys → ys ≡ xs
same_predicates = each_same
