-- Numbers that are no whole ones of 64 bits: in the nodes, and beside them.
use Rattle.std.proofs.Common.{◌≡◌, ℕ, List, Bool, true, false, ◌||◌, Option, Some, None, is_some, option_and_then, codes, refl, sym}
use Rattle.std.proofs.Common.{is_eq, bytes_eq, nat_cmp}
use Rattle.std.proofs.Common.{Ordering, Less, Equal, Greater, if◌then◌else◌}
use Rattle.std.proofs.lemmas.Bool.{false≢true, true≢false, and_parts}
use Rattle.std.proofs.lemmas.Map.Text.{is_eq-slice_cmp}
use Rattle.std.specs.Cmp.Lexicographic.{slice_cmp}
use Rattle.std.specs.Ordering.{match_ordering}
use Rattle.serde_json.specs.Data.{Data, null, boolean, number, string, array, object, Members, no_members, member}
use Rattle.serde_json.specs.Find.{as_array, get_member}
use Rattle.serde_json.specs.Written.{has_float, items_have_float, members_have_float}
use Rattle.json_errors.specs.Documents.{items_or_none, nodes, nodes_in, has_heading, has_frame}
use Rattle.json_errors.specs.Floats.{others_have_float, has_float_beside}

abbrev found_has : Option Data → Bool
found_has None = false
found_has (Some d) = has_float d

others_after : (name : List ℕ) (ms : Members) → others_have_float name true ms ≡ members_have_float ms
others_after name no_members = refl
others_after name (member k d ms) = rw (others_after name ms) refl

other : (h before g all : Bool) → all ≡ (before || g) → (h || all) ≡ ((h || before) || g)
other true before g all e = refl
other false before g all e = e

first : (h after all : Bool) → after ≡ all → (h || all) ≡ (after || h)
first true true all e = refl
first true false all e = refl
first false true all e = sym e
first false false all e = sym e

one_more : (o : Ordering) (same : Bool) (d : Data) (g : Option Data) (all after before : Bool)
    → is_eq o ≡ same → after ≡ all → all ≡ (before || found_has g)
    → (has_float d || all) ≡ ((if same then after else has_float d || before) || found_has (match_ordering o g (Some d) g))
one_more Less true d g all after before e a s = absurd (false≢true e)
one_more Less false d g all after before e a s = other (has_float d) before (found_has g) all s
one_more Equal true d g all after before e a s = first (has_float d) after all a
one_more Equal false d g all after before e a s = absurd (true≢false e)
one_more Greater true d g all after before e a s = absurd (false≢true e)
one_more Greater false d g all after before e a s = other (has_float d) before (found_has g) all s

beside : (name : List ℕ) (ms : Members) → members_have_float ms ≡ (others_have_float name false ms || found_has (get_member name ms))
beside name no_members = refl
beside name (member k d ms) = one_more (slice_cmp nat_cmp name k) (bytes_eq name k) d (get_member name ms) _ _ _
    (is_eq-slice_cmp name k) (others_after name ms) (beside name ms)

in_items : (g : Option Data) → is_some (option_and_then as_array g) ≡ true
    → found_has g ≡ items_have_float (items_or_none (option_and_then as_array g))
in_items None there = absurd (false≢true there)
in_items (Some null) there = absurd (false≢true there)
in_items (Some (boolean b)) there = absurd (false≢true there)
in_items (Some (number n)) there = absurd (false≢true there)
in_items (Some (string s)) there = absurd (false≢true there)
in_items (Some (array ds)) there = refl
in_items (Some (object ms)) there = absurd (false≢true there)

beside_nodes : (d : Data) → is_some (nodes_in d) ≡ true → has_float d ≡ (has_float_beside (codes "nodes") d || items_have_float (nodes d))
beside_nodes null there = absurd (false≢true there)
beside_nodes (boolean b) there = absurd (false≢true there)
beside_nodes (number n) there = absurd (false≢true there)
beside_nodes (string s) there = absurd (false≢true there)
beside_nodes (array ds) there = absurd (false≢true there)
beside_nodes (object ms) there = rw (beside (codes "nodes") ms) (rw (in_items (get_member (codes "nodes") ms) there) refl)

pub float_beside : (d : Data) → is_some (nodes_in d) ≡ true → has_float_beside (codes "nodes") d ≡ true → has_float d ≡ true
float_beside d there h = rw (beside_nodes d there) (rw h refl)

pub none_beside : (d : Data) → is_some (nodes_in d) ≡ true → has_float_beside (codes "nodes") d ≡ false
    → has_float d ≡ items_have_float (nodes d)
none_beside d there h = rw (beside_nodes d there) (rw h refl)

pub frame_nodes : (d : Data) → has_frame d ≡ true → is_some (nodes_in d) ≡ true
frame_nodes d h = (and_parts (has_heading d) (is_some (nodes_in d)) h).1
