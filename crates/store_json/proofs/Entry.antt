-- Entries of arguments, one behind the other.
use Rattle.std.proofs.Common.{◌≡◌, ◌∙◌, ◌+◌, ap, arith, refl, sym, List, [], ◌∷◌, ◌++◌, ℕ, OnOk, Ok, Result}
use Rattle.std.proofs.lemmas.List.{length-append}
use Rattle.std.proofs.lemmas.Result.{on_ok_weaker}
use Rattle.json.specs.Token.{Token, begin_array, end_array, key}
use Rattle.json.specs.Written.{Writes, Written}
use Rattle.serde_json.specs.Data.{Data, array}
use Rattle.thm_result_json.specs.Arguments.{FlatArgs}
use Rattle.thm_result_json.specs.Codec.{Codec, to_items}
use Rattle.thm_result_json.specs.Paths.{flat_args}
use Rattle.store_json.specs.Entries.{EachIsReadable, HasEntries, with_each}
use Rattle.store_json.specs.Append.{AreReadable, Appends, AppendsMember, with_data, with_items}

with_each_more : {A : Type 0} (c : Codec A) (xs : List A) (x : A) (ts : List Token)
    → with_each c (xs ++ x ∷ []) ts ≡ with_data (c.to x) (with_each c xs ts)
with_each_more c [] x ts = refl
with_each_more c (y ∷ xs) x ts = with_each_more c xs x (with_data (c.to y) ts)

each_more : {A : Type 0} (c : Codec A) (xs : List A) (x : A) → EachIsReadable c xs → EachIsReadable c (x ∷ [])
    → EachIsReadable c (xs ++ x ∷ [])
each_more c [] x h k = k
each_more c (y ∷ xs) x h k = (h.0, each_more c xs x h.1 k)

-- one entry more
pub entries_more : (start a b : Written) (xs : List FlatArgs) (x : FlatArgs) (at n : ℕ) → HasEntries start xs at a
    → Appends ((flat_args).to x) a b → n ≡ at + 1 → HasEntries start (xs ++ x ∷ []) n b
entries_more start a b xs x at n s t more = record {
  text = t.text ∙ ap (with_data ((flat_args).to x)) s.text ∙ sym (with_each_more flat_args xs x start.tokens);
  reads = each_more flat_args xs x s.reads (t.reads, tt);
  as_many = omega (arith, length-append xs (x ∷ []), s.as_many, more);
  before = t.before ∙ s.before;
}

items_are : {A : Type 0} (c : Codec A) (xs : List A) (ts : List Token) → with_items (to_items c xs) ts ≡ with_each c xs ts ++ end_array ∷ []
items_are c [] ts = refl
items_are c (x ∷ xs) ts = items_are c xs (with_data (c.to x) ts)

items_read : {A : Type 0} (c : Codec A) (xs : List A) → EachIsReadable c xs → AreReadable (to_items c xs)
items_read c [] h = tt
items_read c (x ∷ xs) h = (h.0, items_read c xs h.1)

-- entries between brackets
pub list_is : {E : Type 0} {r : Result (Unit {0}) E} {old a b new : Written} {xs : List FlatArgs} {n : ℕ}
    → Writes {E = E} (Ok tt) old a begin_array → HasEntries a xs n b → Writes r b new end_array
    → OnOk r (Appends (array (to_items flat_args xs)) old new)
list_is {r = r} {old} {a} {b} {new} {xs} w s ends =
    on_ok_weaker r (λ e. record {
      text = e ∙ ap (λ ts. ts ++ end_array ∷ []) s.text ∙ sym (items_are flat_args xs a.tokens)
          ∙ ap (with_items (to_items flat_args xs)) w.ok;
      reads = items_read flat_args xs s.reads;
      before = ends.room.0 ∙ s.before ∙ w.room.0;
    }) ends.ok

-- a value behind its key
pub member_is : {E : Type 0} {k : List ℕ} {d : Data} {old a b : Written} → Writes {E = E} (Ok tt) old a (key k) → Appends d a b
    → AppendsMember k d old b
member_is {d = d} w t = record { text = t.text ∙ ap (with_data d) w.ok; reads = t.reads; before = t.before ∙ w.room.0 }
