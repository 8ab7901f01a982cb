-- What holds of names that are put behind others, each where it is mentioned first.
use Rattle.std.proofs.Common.{◌≡◌, ◌∙◌, refl, sym, ap, Bool, true, false, ◌||◌, if◌then◌else◌, List, [], ◌∷◌, ◌++◌, length, take}
use Rattle.std.proofs.Common.{append-nil, append_assoc}
use Rattle.std.proofs.Math.Seq.{take-append_seam}
use Rattle.std.proofs.lemmas.List.Folds.{list_any-append}
use Rattle.hir_store.specs.Names.{same_name}
use Rattle.hir_store.specs.declared.name.Name.{Name}
use Rattle.hir_lower_scope.proofs.NameLemmas.{same_is}
use Rattle.hir_lower_scope.specs.NameSets.{has_name, with_name, with_names}

-- one list behind another
pub with_both : (ns ms os : List Name) → with_names (with_names ns ms) os ≡ with_names ns (ms ++ os)
with_both ns [] os = refl
with_both ns (m ∷ ms) os = with_both (with_name ns m) ms os

-- a set that goes on twice
pub with_twice : (ns : List Name) {ms os : List Name} (a b : List Name) → ms ≡ with_names ns a → os ≡ with_names ms b
    → os ≡ with_names ns (a ++ b)
with_twice ns a b e f = f ∙ (ap (λ t. with_names t b) e ∙ with_both ns a b)

-- what comes behind these
abbrev come_one : Bool → Name → List Name
come_one true n = []
come_one false n = n ∷ []

abbrev come : List Name → List Name → List Name
come ns [] = []
come ns (m ∷ ms) = come_one (has_name ns m) m ++ come (with_name ns m) ms

one_comes : (ns : List Name) (n : Name) → with_name ns n ≡ ns ++ come_one (has_name ns n) n
one_comes ns n = by (has_name ns n)
  where
    by : (b : Bool) → (if b then ns else ns ++ n ∷ []) ≡ ns ++ come_one b n
    by true = sym (append-nil ns)
    by false = refl

all_come : (ns ms : List Name) → with_names ns ms ≡ ns ++ come ns ms
all_come ns [] = sym (append-nil ns)
all_come ns (m ∷ ms) =
    all_come (with_name ns m) ms
    ∙ (ap (λ xs. xs ++ come (with_name ns m) ms) (one_comes ns m) ∙ append_assoc ns (come_one (has_name ns m) m) (come (with_name ns m) ms))

-- those that were there stay in front
pub taken_first : (ns ms : List Name) → take (length ns) (with_names ns ms) ≡ ns
taken_first ns ms = ap (λ xs. take (length ns) xs) (all_come ns ms) ∙ take-append_seam ns (come ns ms)

-- they have the names of both

or_false : (b : Bool) → (b || false) ≡ b
or_false true = refl
or_false false = refl

or_assoc : (a b c : Bool) → ((a || b) || c) ≡ (a || (b || c))
or_assoc true b c = refl
or_assoc false b c = refl

-- a name that is there need not come
known : (ns : List Name) (m n : Name) → has_name ns m ≡ true → (b : Bool) → same_name n m ≡ b → has_name ns n ≡ (has_name ns n || b)
known ns m n e false h = sym (or_false (has_name ns n))
known ns m n e true h = let is : has_name ns n ≡ true = ap (λ k. has_name ns k) (same_is n m h) ∙ e in is ∙ sym (ap (λ b. b || true) is)

one_has : (ns : List Name) (m n : Name) → has_name (with_name ns m) n ≡ (has_name ns n || same_name n m)
one_has ns m n = by (has_name ns m) refl
  where
    by : (b : Bool) → has_name ns m ≡ b → has_name (if b then ns else ns ++ m ∷ []) n ≡ (has_name ns n || same_name n m)
    by true e = known ns m n e (same_name n m) refl
    by false e = list_any-append (same_name n) ns (m ∷ []) ∙ ap (λ b. has_name ns n || b) (or_false (same_name n m))

pub all_have : (ns ms : List Name) (n : Name) → has_name (with_names ns ms) n ≡ (has_name ns n || has_name ms n)
all_have ns [] n = sym (or_false (has_name ns n))
all_have ns (m ∷ ms) n =
    all_have (with_name ns m) ms n
    ∙ (ap (λ b. b || has_name ms n) (one_has ns m n) ∙ or_assoc (has_name ns n) (same_name n m) (has_name ms n))
