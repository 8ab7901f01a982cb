-- Names in the order in which they are first mentioned: that a set's own equality of names is the one that is meant.
use Rattle.std.proofs.Common.{◌≡◌, ◌∙◌, refl, sym, ap, Bool, List}
use Rattle.std.specs.List.{list_any}
use Rattle.indexmap.specs.IndexSet.{insert_key}
use Rattle.hir_store.specs.Names.{same_name}
use Rattle.hir_store.specs.contracts.name.NamePartialEq.TheImpl as same
use Rattle.hir_store.specs.declared.name.Name.{Name}
use Rattle.hir_store.specs.declared.name.Name.TheVariants as name
use Rattle.hir_lower_scope.specs.NameSets.{has_name, with_name}

equal_names : (a b : Name) → same.ghosts.eq a b ≡ same_name a b
equal_names (name.Text a) (name.Text b) = refl
equal_names (name.Text a) name.Missing = refl
equal_names (name.Text a) (name.Generated k) = refl
equal_names name.Missing (name.Text b) = refl
equal_names name.Missing name.Missing = refl
equal_names name.Missing (name.Generated k) = refl
equal_names (name.Generated i) (name.Text b) = refl
equal_names (name.Generated i) name.Missing = refl
equal_names (name.Generated i) (name.Generated k) = refl

pub holds : (ns : List Name) (n : Name) → list_any (same.ghosts.eq n) ns ≡ has_name ns n
holds ns n = λ i. list_any (λ m. equal_names n m i) ns

pub inserts : (ns : List Name) (n : Name) → insert_key same.ghosts.eq ns n ≡ with_name ns n
inserts ns n = λ i. insert_key (λ a b. equal_names a b i) ns n
