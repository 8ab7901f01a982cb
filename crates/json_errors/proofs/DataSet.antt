-- Between two data there is one equation at most.
use Rattle.std.proofs.Common.{◌≡◌, ℕ, List, refl, ap, subst}
use Rattle.std.proofs.Math.Nat.{ℕ_set}
use Rattle.std.proofs.Math.IntN.{ℤ_set}
use Rattle.std.proofs.Math.Bool.{Bool-set}
use Rattle.std.proofs.Props.{props}
use mathlib.Core.HLevel.{collapsible→set, Unit-prop}
use mathlib.Core.Sum.{⊎_set}
use Rattle.serde_json.specs.Data.{Num, Data, null, boolean, number, string, array, object}
use Rattle.serde_json.specs.Data.{Items, no_items, item, Members, no_members, member}

num_set : IsSet Num
num_set = hlevel (ℕ_set, ℤ_set, Bool-set, ⊎_set, props)

text_set : IsSet (List ℕ)
text_set = hlevel (ℕ_set, props)

abbrev mutual
  Same : Data → Data → Type 0
  Same null null = Unit {0}
  Same (boolean a) (boolean b) = a ≡ b
  Same (number a) (number b) = a ≡ b
  Same (string a) (string b) = a ≡ b
  Same (array a) (array b) = SameItems a b
  Same (object a) (object b) = SameMembers a b
  Same _ _ = ⊥

  SameItems : Items → Items → Type 0
  SameItems no_items no_items = Unit {0}
  SameItems (item a more) (item b others) = Same a b × SameItems more others
  SameItems _ _ = ⊥

  SameMembers : Members → Members → Type 0
  SameMembers no_members no_members = Unit {0}
  SameMembers (member k a more) (member l b others) = (k ≡ l) × Same a b × SameMembers more others
  SameMembers _ _ = ⊥

mutual
  same_prop : (a b : Data) → IsProp (Same a b)
  same_prop null null = Unit-prop
  same_prop (boolean a) (boolean b) = Bool-set a b
  same_prop (number a) (number b) = num_set a b
  same_prop (string a) (string b) = text_set a b
  same_prop (array a) (array b) = items_prop a b
  same_prop (object a) (object b) = members_prop a b
  same_prop _ _ = λ x. absurd x

  items_prop : (a b : Items) → IsProp (SameItems a b)
  items_prop no_items no_items = Unit-prop
  items_prop (item a more) (item b others) =
      let one = same_prop a b in
      let rest = items_prop more others in
      λ x y. (λ i. (one x.0 y.0 i, rest x.1 y.1 i))
  items_prop _ _ = λ x. absurd x

  members_prop : (a b : Members) → IsProp (SameMembers a b)
  members_prop no_members no_members = Unit-prop
  members_prop (member k a more) (member l b others) =
      let name = text_set k l in
      let one = same_prop a b in
      let rest = members_prop more others in
      λ x y. (λ i. (name x.0 y.0 i, one x.1 y.1 i, rest x.2 y.2 i))
  members_prop _ _ = λ x. absurd x

mutual
  same_self : (a : Data) → Same a a
  same_self null = tt
  same_self (boolean a) = refl
  same_self (number a) = refl
  same_self (string a) = refl
  same_self (array a) = items_self a
  same_self (object a) = members_self a

  items_self : (a : Items) → SameItems a a
  items_self no_items = tt
  items_self (item a more) = (same_self a, items_self more)

  members_self : (a : Members) → SameMembers a a
  members_self no_members = tt
  members_self (member k a more) = (refl, same_self a, members_self more)

mutual
  equal : (a b : Data) → Same a b → a ≡ b
  equal null null s = refl
  equal (boolean a) (boolean b) s = ap boolean s
  equal (number a) (number b) s = ap number s
  equal (string a) (string b) s = ap string s
  equal (array a) (array b) s = ap array (items_equal a b s)
  equal (object a) (object b) s = ap object (members_equal a b s)
  equal _ _ s = absurd s

  items_equal : (a b : Items) → SameItems a b → a ≡ b
  items_equal no_items no_items s = refl
  items_equal (item a more) (item b others) s =
      let one = equal a b s.0 in
      let rest = items_equal more others s.1 in
      λ i. item (one i) (rest i)
  items_equal _ _ s = absurd s

  members_equal : (a b : Members) → SameMembers a b → a ≡ b
  members_equal no_members no_members s = refl
  members_equal (member k a more) (member l b others) s =
      let name = s.0 in
      let one = equal a b s.1 in
      let rest = members_equal more others s.2 in
      λ i. member (name i) (one i) (rest i)
  members_equal _ _ s = absurd s

same : (a b : Data) → a ≡ b → Same a b
same a b e = let P : Data → Type 0 = λ d. Same a d in subst P e (same_self a)

pub data_set : IsSet Data
data_set = collapsible→set (λ a b p. equal a b (same a b p))
    (λ a b p q. ap (equal a b) (same_prop a b (same a b p) (same a b q)))
