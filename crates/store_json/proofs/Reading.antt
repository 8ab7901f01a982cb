-- What is written reads back.
use Rattle.std.proofs.Common.{◌≡◌, ◌≤◌, ◌∙◌, ap, ap₂, refl, sym, arith, append_assoc, append-nil, true, false, List, [], ◌∷◌}
use Rattle.std.proofs.Common.{◌++◌, ℕ, suc, max}
use Rattle.std.proofs.Common.{Some, option_and_then, option_map, Ordering, Less, Equal, Greater, nat_cmp}
use Rattle.std.proofs.lemmas.Cmp.{nat_list_cmp_total}
use Rattle.std.specs.Cmp.Lexicographic.{slice_cmp}
use Rattle.std.specs.Ordering.{match_ordering, ordering_reverse}
use Rattle.json.specs.Json as json
use Rattle.json.specs.Lex.{tokens}
use Rattle.json.specs.Token as token
use Rattle.json.specs.Token.{Token}
use Rattle.json.specs.Tree as tree
use Rattle.json.specs.Tree.{items_tokens, json_tokens, members_tokens}
use Rattle.json.proofs.Printed.Trees.{value-json_tokens}
use Rattle.serde_json.specs.Data.{Data, Items, Members, array, boolean, depth, float, item, items_depth, member, members_depth, negative}
use Rattle.serde_json.specs.Data.{no_items, no_members, null, number, object, put, string, unsigned}
use Rattle.serde_json.specs.Read.{max_depth, of_items, of_json, of_members, read}
use Rattle.serde_json.specs.Written.{items_outline, members_outline, outline}
use Rattle.serde_json.proofs.Numbers.{number_of-decimal}
use Rattle.store_json.specs.Append.{AreReadable, HasReadable, IsReadable, is_in_front, with_data, with_items, with_members}

-- the tokens are those of the data, behind those before

mutual
  pub with_data_is : (d : Data) (ts : List Token) → with_data d ts ≡ ts ++ json_tokens (outline d)
  with_data_is null ts = refl
  with_data_is (boolean b) ts = refl
  with_data_is (number n) ts = refl
  with_data_is (string s) ts = refl
  with_data_is (array ds) ts = with_items_is ds (ts ++ token.begin_array ∷ []) ∙ append_assoc ts (token.begin_array ∷ []) _
  with_data_is (object ms) ts = with_members_is ms (ts ++ token.begin_object ∷ []) ∙ append_assoc ts (token.begin_object ∷ []) _

  pub with_items_is : (ds : Items) (ts : List Token) → with_items ds ts ≡ ts ++ items_tokens (items_outline ds)
  with_items_is no_items ts = refl
  with_items_is (item d ds) ts =
      with_items_is ds (with_data d ts) ∙ ap (λ us. us ++ items_tokens (items_outline ds)) (with_data_is d ts)
      ∙ append_assoc ts (json_tokens (outline d)) _

  pub with_members_is : (ms : Members) (ts : List Token) → with_members ms ts ≡ ts ++ members_tokens (members_outline ms)
  with_members_is no_members ts = refl
  with_members_is (member k d ms) ts =
      with_members_is ms (with_data d (ts ++ token.key k ∷ []))
      ∙ ap (λ us. us ++ members_tokens (members_outline ms)) (with_data_is d (ts ++ token.key k ∷ []))
      ∙ append_assoc (ts ++ token.key k ∷ []) (json_tokens (outline d)) _ ∙ append_assoc ts (token.key k ∷ []) _

-- keys in their order stay where they are put

abbrev behind : Members → Members → Members
behind no_members ms = ms
behind (member k d ls) ms = member k d (behind ls ms)

behind_more : (ls : Members) (k : List ℕ) (d : Data) (ms : Members)
    → behind (behind ls (member k d no_members)) ms ≡ behind ls (member k d ms)
behind_more no_members k d ms = refl
behind_more (member l e ls) k d ms = ap (member l e) (behind_more ls k d ms)

behind_nothing : (ls : Members) → behind ls no_members ≡ ls
behind_nothing no_members = refl
behind_nothing (member l e ls) = ap (member l e) (behind_nothing ls)

-- each of the keys stands in front of this one
abbrev AreBelow : Members → List ℕ → Type 0
AreBelow no_members k = Unit {0}
AreBelow (member l d ls) k = (slice_cmp nat_cmp l k ≡ Less) × AreBelow ls k

put_end : (ls : Members) (k : List ℕ) (d : Data) → AreBelow ls k → put k d ls ≡ behind ls (member k d no_members)
put_end no_members k d h = refl
put_end (member l e ls) k d h =
    let above : slice_cmp nat_cmp k l ≡ Greater = nat_list_cmp_total.antisymm k l ∙ ap ordering_reverse h.0 in
    rw above (ap (member l e) (put_end ls k d h.1))

less_is : (o : Ordering) → match_ordering o true false false ≡ true → o ≡ Less
less_is Less h = refl
less_is Equal h = absurd (cc)
less_is Greater h = absurd (cc)

below_next : (ls : Members) (k l : List ℕ) (d : Data) → AreBelow ls k → slice_cmp nat_cmp k l ≡ Less
    → AreBelow (behind ls (member k d no_members)) l
below_next no_members k l d h less = (less, tt)
below_next (member m e ls) k l d h less = (nat_list_cmp_total.trans m k l h.0 less, below_next ls k l d h.1 less)

abbrev Follows : Members → Members → Type 0
Follows ls no_members = Unit {0}
Follows ls (member k d ms) = AreBelow ls k

follows_next : (ls : Members) (k : List ℕ) (d : Data) (ms : Members) → AreBelow ls k → is_in_front k ms ≡ true
    → Follows (behind ls (member k d no_members)) ms
follows_next ls k d no_members below in_front = tt
follows_next ls k d (member l e ms) below in_front = below_next ls k l d below (less_is (slice_cmp nat_cmp k l) in_front)

follows_nothing : (ms : Members) → Follows no_members ms
follows_nothing no_members = tt
follows_nothing (member k d ms) = tt

mutual
  pub outline_reads : (d : Data) → IsReadable d → of_json (outline d) ≡ Some d
  outline_reads null h = refl
  outline_reads (boolean b) h = refl
  outline_reads (number (unsigned n)) h = ap (option_map number) (number_of-decimal n h)
  outline_reads (number (negative z)) h = absurd h
  outline_reads (number (float x)) h = absurd h
  outline_reads (string s) h = refl
  outline_reads (array ds) h = ap (option_map array) (items_read ds h)
  outline_reads (object ms) h = ap (option_map object) (members_read no_members ms (follows_nothing ms) h)

  items_read : (ds : Items) → AreReadable ds → of_items (items_outline ds) ≡ Some ds
  items_read no_items h = refl
  items_read (item d ds) h =
      ap (option_and_then (λ e. option_map (item e) (of_items (items_outline ds)))) (outline_reads d h.0)
      ∙ ap (option_map (item d)) (items_read ds h.1)

  members_read : (ls ms : Members) → Follows ls ms → HasReadable ms → of_members (members_outline ms) ls ≡ Some (behind ls ms)
  members_read ls no_members below h = ap Some (sym (behind_nothing ls))
  members_read ls (member k d ms) below h =
      ap (option_and_then (λ e. of_members (members_outline ms) (put k e ls))) (outline_reads d h.1.0)
      ∙ ap (of_members (members_outline ms)) (put_end ls k d below)
      ∙ members_read (behind ls (member k d no_members)) ms (follows_next ls k d ms below h.0) h.1.1
      ∙ ap Some (behind_more ls k d ms)

-- it nests as deep

mutual
  outline_deep : (d : Data) → tree.depth (outline d) ≡ depth d
  outline_deep null = refl
  outline_deep (boolean b) = refl
  outline_deep (number n) = refl
  outline_deep (string s) = refl
  outline_deep (array ds) = ap suc (items_deep ds)
  outline_deep (object ms) = ap suc (members_deep ms)

  items_deep : (ds : Items) → tree.items_depth (items_outline ds) ≡ items_depth ds
  items_deep no_items = refl
  items_deep (item d ds) = ap₂ max (outline_deep d) (items_deep ds)

  members_deep : (ms : Members) → tree.members_depth (members_outline ms) ≡ members_depth ms
  members_deep no_members = refl
  members_deep (member k d ms) = ap₂ max (outline_deep d) (members_deep ms)

-- text whose tokens are those of the data reads as the data
pub text_reads : (d : Data) (text : List ℕ) → tokens text ≡ with_data d [] → IsReadable d → depth d ≤ 127 → read text ≡ Some d
text_reads d text same readable shallow =
    ap (λ v. option_and_then of_json (option_and_then (λ p. json.if_last p.0 p.1) v))
    (ap (json.value max_depth) (same ∙ with_data_is d [] ∙ sym (append-nil (json_tokens (outline d))))
    ∙ value-json_tokens (outline d) max_depth [] (omega (arith, outline_deep d, shallow)))
    ∙ outline_reads d readable
