-- When two names are one.
use Rattle.std.proofs.Common.{arith, ◌≡◌, ◌∙◌, refl, sym, ap, subst, Bool, true, false, true≢false, [], ◌∷◌, ◌&&◌}
use Rattle.std.specs.Prelude.{nat_eq}
use lib.Pointwise.{bytes_decides}
use Rattle.std.specs.BTreeMap.{is_at}
use Rattle.std.specs.Cmp.Lexicographic.{texts_ties}
use Rattle.hir_store.specs.NameOrder.{name_cmp}
use Rattle.std.proofs.lemmas.Bool.Decides.{nat_tests}
use Rattle.hir_store.specs.Names.{same_name}
use Rattle.hir_store.specs.declared.name.Name.{Name}
use Rattle.hir_store.specs.declared.name.Name.TheVariants as name

pub same_is : (n m : Name) → same_name n m ≡ true → n ≡ m
same_is (name.Text a) (name.Text b) h = ap (λ t. name.Text t) ((bytes_decides a b).0 h)
same_is (name.Text a) name.Missing h = absurd (true≢false (sym h))
same_is (name.Text a) (name.Generated b) h = absurd (true≢false (sym h))
same_is name.Missing (name.Text b) h = absurd (true≢false (sym h))
same_is name.Missing name.Missing h = refl
same_is name.Missing (name.Generated b) h = absurd (true≢false (sym h))
same_is (name.Generated a) (name.Text b) h = absurd (true≢false (sym h))
same_is (name.Generated a) name.Missing h = absurd (true≢false (sym h))
same_is (name.Generated a) (name.Generated b) h = let e : a ≡ b = grind (arith, nat_tests) in ap (λ k. name.Generated k) e

pub same_refl : (n : Name) → same_name n n ≡ true
same_refl (name.Text a) = (bytes_decides a a).1 refl
same_refl name.Missing = refl
same_refl (name.Generated a) = grind (arith, nat_tests)

pub same_from : (n m : Name) → n ≡ m → same_name n m ≡ true
same_from n m e = subst (λ k. same_name n k ≡ true) e (same_refl n)

-- The order of names has one place for a name.
pub same_names : (n m : Name) → same_name n m ≡ is_at (name_cmp n) m
same_names (name.Text a) (name.Text b) = texts_ties a b
same_names (name.Text a) name.Missing = refl
same_names (name.Text a) (name.Generated k) = refl
same_names name.Missing (name.Text b) = refl
same_names name.Missing name.Missing = refl
same_names name.Missing (name.Generated k) = refl
same_names (name.Generated i) (name.Text b) = refl
same_names (name.Generated i) name.Missing = refl
same_names (name.Generated i) (name.Generated k) = with_true (nat_eq i k) ∙ texts_ties (i ∷ []) (k ∷ [])
  where
    with_true : (b : Bool) → b ≡ (b && true)
    with_true true = refl
    with_true false = refl
