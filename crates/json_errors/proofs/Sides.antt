-- The members of nodes side by side: looked up by name, and those of one node in front of others.
use Rattle.std.proofs.Common.{◌≡◌, ℕ, suc, zero, ◌+◌, ◌<◌, ◌≤◌, List, [], ◌∷◌, ◌++◌, true, false, Option, Some, None, Ok}
use Rattle.std.proofs.Common.{length, take, drop, get_or, refl, sym, ap, ◌∙◌, arith, is_eq, bytes_eq, nat_cmp}
use Rattle.std.proofs.Common.{Ordering, Less, Equal, Greater}
use Rattle.std.proofs.Math.Logic.{∥∥₁_elim}
use Rattle.std.proofs.Math.Seq.{take-append_seam, drop-append_seam}
use Rattle.std.proofs.lemmas.Bool.{false≢true, true≢false}
use Rattle.std.proofs.lemmas.List.{length-map, take-map, drop-map, drop-drop, drop_all, drop_more, length-append, length-drop}
use Rattle.std.proofs.lemmas.Map.Text.{is_eq-slice_cmp}
use Rattle.std.proofs.Props.{props}
use Rattle.std.specs.Cmp.Lexicographic.{slice_cmp}
use Rattle.std.specs.Ordering.{match_ordering}
use Rattle.std.specs.Prelude.{String}
use Rattle.std.specs.declared.alloc.Global.{Global}
use Rattle.serde_json.specs.Data.{Data, null, boolean, number, string, array, object, item, Members, no_members, member}
use Rattle.serde_json.specs.Find.{as_object, get, get_member}
use Rattle.serde_json.specs.View.{view, items_view, members_view}
use Rattle.serde_json.specs.declared.value.Value.{Value}
use Rattle.json_errors.specs.Kinds.{kind_in}
use Rattle.json_errors.specs.Members.{Named, all_pairs, members_with, pair_of, pairs, pairs_in, pairs_of, said, starts_from}
use Rattle.json_errors.specs.Nodes.{◌>>=◌, node, node_in, nodes_from}
use Rattle.json_errors.specs.declared.members.Member.{Member}
use Rattle.json_errors.proofs.DataSet.{data_set}
use Rattle.json_errors.specs.declared.kind.Kind.{Kind}

same_members : (ms : Members) → members_with (pairs_in ms) ≡ ms
same_members no_members = refl
same_members (member k d ms) = ap (member k d) (same_members ms)

pub is_object : (ms : List Member) → as_object (said ms) ≡ Some (members_with (pairs ms))
unfolding said
is_object ms = refl

equal : (o : Ordering) (r e : Option Data) → is_eq o ≡ true → match_ordering o r e r ≡ e
equal Less r e h = absurd (false≢true h)
equal Equal r e h = refl
equal Greater r e h = absurd (false≢true h)

unequal : (o : Ordering) (r e : Option Data) → is_eq o ≡ false → match_ordering o r e r ≡ r
unequal Less r e h = refl
unequal Equal r e h = absurd (true≢false h)
unequal Greater r e h = refl

pub hit : (name : List ℕ) (m : Member) (ms : List Member) → bytes_eq name m.name.now ≡ true
    → get name (said (m ∷ ms)) ≡ Some (view m.value.now)
unfolding said
hit name m ms h = equal (slice_cmp nat_cmp name m.name.now) _ _ (is_eq-slice_cmp name m.name.now ∙ h)

pub miss : (name : List ℕ) (m : Member) (ms : List Member) → bytes_eq name m.name.now ≡ false
    → get name (said (m ∷ ms)) ≡ get name (said ms)
unfolding said
miss name m ms h = unequal (slice_cmp nat_cmp name m.name.now) _ _ (is_eq-slice_cmp name m.name.now ∙ h)

pub this_first : (name : List ℕ) (ms : List Member) (i : ℕ) (m : Member) → i < length ms → m ≡ get_or ms i m
    → get name (said (drop i ms)) ≡ get name (said (m ∷ drop (i + 1) ms))
this_first name ms i m within is = ap (λ rest. get name (said rest)) (drop_more ms i m within)
    ∙ ap (λ x. get name (said (x ∷ drop (i + 1) ms))) (sym is)

pub none_left : (name : List ℕ) (ms : List Member) (i : ℕ) → length ms ≤ i → get name (said (drop i ms)) ≡ None
unfolding said
none_left name ms i past = ap (λ rest. get_member name (members_with (pairs rest))) (drop_all i ms past)

pub past_members : (ms : List Member) (n : ℕ) → length ms < n → kind_in (said (drop n ms)) ≡ None
unfolding said
past_members [] zero h = absurd (omega arith)
past_members [] (suc n) h = refl
past_members (m ∷ ms) zero h = absurd (omega arith)
past_members (m ∷ ms) (suc n) h = past_members ms n (omega arith)

abbrev with_kind : List Named → Option Kind
with_kind ps = kind_in (object (members_with ps))

kind_said : (ms : List Member) (d : Data) → pairs ms ≡ pairs_of d → kind_in (said ms) ≡ kind_in d
unfolding said
kind_said ms null e = ap with_kind e
kind_said ms (boolean b) e = ap with_kind e
kind_said ms (number n) e = ap with_kind e
kind_said ms (string s) e = ap with_kind e
kind_said ms (array ds) e = ap with_kind e
kind_said ms (object os) e = ap with_kind e ∙ ap (λ os. kind_in (object os)) (same_members os)

abbrev with_field : List ℕ → List Named → Option Data
with_field name ps = get name (object (members_with ps))

optional_set : IsSet (Option Data)
optional_set = hlevel (data_set, props)

field_of : (name : List ℕ) (ms : List Member) (d : Data) → pairs ms ≡ pairs_of d → get name (said ms) ≡ get name d
unfolding said
field_of name ms null e = ap (with_field name) e
field_of name ms (boolean b) e = ap (with_field name) e
field_of name ms (number n) e = ap (with_field name) e
field_of name ms (string s) e = ap (with_field name) e
field_of name ms (array ds) e = ap (with_field name) e
field_of name ms (object os) e = ap (with_field name) e ∙ ap (λ os. get name (object os)) (same_members os)

-- a field of a node, where its members are these
pub own_get : (name : List ℕ) (ms : List Member) (d : Data) → ∥ pairs ms ≡ pairs_of d ∥₁ → get name (said ms) ≡ get name d
own_get name ms d e = ∥∥₁_elim e (optional_set (get name (said ms)) (get name d)) (field_of name ms d)

drop_pairs : (old new : List Member) (ps : List Named) → pairs new ≡ pairs old ++ ps → pairs (drop (length old) new) ≡ ps
drop_pairs old new ps h = sym (drop-map pair_of (length old) new) ∙ ap (drop (length old)) h
    ∙ ap (λ n. drop n (pairs old ++ ps)) (sym (length-map old pair_of)) ∙ drop-append_seam (pairs old) ps

-- the kind of a node whose members stand behind others
pub kind_behind : (old new : List Member) (d : Data) → pairs new ≡ pairs old ++ pairs_of d
    → kind_in (said (drop (length old) new)) ≡ kind_in d
kind_behind old new d h = kind_said (drop (length old) new) d (drop_pairs old new (pairs_of d) h)

pub front : (ps more : List Named) (rest : List Member) → pairs rest ≡ ps ++ more → pairs (take (length ps) rest) ≡ ps
front ps more rest h = sym (take-map pair_of (length ps) rest) ∙ ap (take (length ps)) h ∙ take-append_seam ps more

-- so many members has a node
pub count : (es : List (String Global × Value)) → length (pairs_in (members_view es)) ≡ length es
count [] = refl
count (e ∷ es) = ap suc (count es)

-- a node whose members stand in front of others
pub in_front : (es : List (String Global × Value)) (rest : List Member) (more : List Named)
    → pairs rest ≡ pairs_in (members_view es) ++ more → said (take (length es) rest) ≡ object (members_view es)
unfolding said
in_front es rest more h = ap (λ n. object (members_with (pairs (take n rest)))) (sym (count es))
    ∙ ap (λ ps. object (members_with ps)) (front (pairs_in (members_view es)) more rest h) ∙ ap object (same_members (members_view es))

pub enough_left : (ps more : List Named) (rest : List Member) → pairs rest ≡ ps ++ more → length ps ≤ length rest
enough_left ps more rest h = omega (arith, sym (length-map rest pair_of) ∙ ap length h ∙ length-append ps more)

pub enough_own : (es : List (String Global × Value)) (rest : List Member) (more : List Named)
    → pairs rest ≡ pairs_in (members_view es) ++ more → length es ≤ length rest
enough_own es rest more h = omega (arith, count es, enough_left (pairs_in (members_view es)) more rest h)

-- those behind a node, where others stand in front of it too
pub behind : (ps more : List Named) (ms : List Member) (start : ℕ) → pairs (drop start ms) ≡ ps ++ more
    → pairs (drop (start + length ps) ms) ≡ more
behind ps more ms start h = ap pairs (sym (drop-drop (length ps) start ms)) ∙ sym (drop-map pair_of (length ps) (drop start ms))
    ∙ ap (drop (length ps)) h ∙ drop-append_seam ps more

pub enough : (ps more : List Named) (ms : List Member) (start : ℕ) → start ≤ length ms → pairs (drop start ms) ≡ ps ++ more
    → start + length ps ≤ length ms
enough ps more ms start b h = omega (arith, b, length-drop start ms, enough_left ps more (drop start ms) h)

pub pairs_next : (vs : List Value) (i : ℕ) (v : Value) → i < length vs → v ≡ get_or vs i v
    → all_pairs (items_view (drop i vs)) ≡ pairs_of (view v) ++ all_pairs (items_view (drop (i + 1) vs))
pairs_next vs i v within is = ap (λ rest. all_pairs (items_view rest)) (drop_more vs i v within)
    ∙ ap (λ x. pairs_of (view x) ++ all_pairs (items_view (drop (i + 1) vs))) (sym is)

-- a node without a fault in front of others
pub node_next : (kinds : List (Option Kind)) (at : ℕ) (vs : List Value) (i : ℕ) (v : Value) (levels new : List ℕ)
    → i < length vs → v ≡ get_or vs i v → node (node_in kinds at (view v)) levels ≡ Ok new
    → nodes_from kinds at (items_view (drop i vs)) levels ≡ nodes_from kinds (at + 1) (items_view (drop (i + 1) vs)) new
node_next kinds at vs i v levels new within is ok =
    let rest = items_view (drop (i + 1) vs) in
    let next : suc at ≡ at + 1 = omega arith in
    ap (λ l. nodes_from kinds at (items_view l) levels) (drop_more vs i v within)
    ∙ ap (λ x. nodes_from kinds at (item (view x) rest) levels) (sym is)
    ∙ ap (λ r. r >>= (λ levels. nodes_from kinds (suc at) rest levels)) ok
    ∙ ap (λ k. nodes_from kinds k rest new) next

-- where the members of each node begin

pub grown : (old new : List Member) (ps : List Named) → pairs new ≡ pairs old ++ ps → length new ≡ length old + length ps
grown old new ps h = sym (length-map new pair_of) ∙ ap length h ∙ length-append (pairs old) ps
    ∙ ap (λ n. n + length ps) (length-map old pair_of)

pub many_starts : (vs : List Value) (n : ℕ) → length (starts_from n (items_view vs)) ≡ length vs
many_starts [] n = refl
many_starts (v ∷ vs) n = ap suc (many_starts vs (n + length (pairs_of (view v))))

-- Where the members of a node begin, counted from a number, and what stands behind them.
pub record Begins (vs : List Value) (n i : ℕ) (v : Value) (d : ℕ) : Type 0 where
  pub past : ℕ
  pub is : get_or (starts_from n (items_view vs)) i d ≡ n + past
  pub more : List Named
  pub beside : drop past (all_pairs (items_view vs)) ≡ pairs_of (view v) ++ more

pub begins : (vs : List Value) (n i : ℕ) (v : Value) (d : ℕ) → i < length vs → v ≡ get_or vs i v → Begins vs n i v d
begins [] n i v d within is = absurd (omega arith)
begins (w ∷ vs) n zero v d within is = record {
  past = 0;
  is = omega arith;
  more = all_pairs (items_view vs);
  beside = ap (λ x. pairs_of (view x) ++ all_pairs (items_view vs)) (sym is);
}
begins (w ∷ vs) n (suc i) v d within is =
    let own = pairs_of (view w) in
    let rest = all_pairs (items_view vs) in
    let b = begins vs (n + length own) i v d (omega arith) is in
    record {
      past = length own + b.past;
      is = omega (arith, b.is);
      more = b.more;
      beside = sym (drop-drop b.past (length own) (own ++ rest)) ∙ ap (drop b.past) (drop-append_seam own rest) ∙ b.beside;
    }

start_within : (vs : List Value) (n i d : ℕ) → i < length vs
    → get_or (starts_from n (items_view vs)) i d ≤ n + length (all_pairs (items_view vs))
start_within [] n i d within = absurd (omega arith)
start_within (w ∷ vs) n zero d within = omega arith
start_within (w ∷ vs) n (suc i) d within =
    let own = pairs_of (view w) in
    omega (arith, start_within vs (n + length own) i d (omega arith), length-append own (all_pairs (items_view vs)))

-- such a place is among the members
pub start_among : (vs : List Value) (ms : List Member) (starts : List ℕ) (i : ℕ) → i < length vs → pairs ms ≡ all_pairs (items_view vs)
    → starts ≡ starts_from 0 (items_view vs) → get_or starts i 0 ≤ length ms
start_among vs ms starts i within all begin =
    let many : length (pairs ms) ≡ length ms = length-map ms pair_of in
    omega (arith, ap (λ xs. get_or xs i 0) begin, start_within vs 0 i 0 within, many, ap length all)

-- the members from such a place on
pub from_start : (vs : List Value) (ms : List Member) (starts : List ℕ) (i : ℕ) (v : Value) → i < length vs → v ≡ get_or vs i v
    → pairs ms ≡ all_pairs (items_view vs) → starts ≡ starts_from 0 (items_view vs)
    → (more : List Named) × (pairs (drop (get_or starts i 0) ms) ≡ pairs_of (view v) ++ more)
from_start vs ms starts i v within is all begin =
    let b = begins vs 0 i v 0 within is in
    let start = get_or starts i 0 in
    let same : start ≡ b.past = omega (arith, ap (λ xs. get_or xs i 0) begin, b.is) in
    let beside : drop start (pairs ms) ≡ pairs_of (view v) ++ b.more
    = ap (λ k. drop k (pairs ms)) same ∙ ap (drop b.past) all ∙ b.beside in
    (b.more, sym (drop-map pair_of start ms) ∙ beside)
