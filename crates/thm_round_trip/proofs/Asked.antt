-- Reading a path from its last segment on finds what the rule says of the whole list of segments.
use Rattle.std.proofs.Common.{◌≡◌, ◌∙◌, refl, sym, ap, subst, ℕ, zero, suc, ◌+◌, List, [], ◌∷◌, ◌++◌}
use Rattle.std.proofs.Common.{Option, Some, None, Bool, true, false}
use Rattle.std.specs.Prelude.{◌&&◌, ◌||◌, not, if◌then◌else◌, map, reverse, option_map, is_some, is_none}
use Rattle.std.proofs.lemmas.List.{reverse-append, reverse-reverse, map-append}
use Rattle.hir_store.specs.declared.name.Name.{Name}
use Rattle.hir_store.specs.declared.path.ModPath.{ModPath}
use Rattle.hir_store.specs.declared.path.PathKind.{PathKind}
use Rattle.hir_store.specs.declared.path.PathKind.TheVariants as kind
use Rattle.hir_env.specs.ResolvedTree as tree
use Rattle.hir_env.specs.ResolvedTree.{Path, OptionPath, Segments, Segment}
use Rattle.hir_env.specs.PathNames as asked
use Rattle.hir_env.specs.PathNames.{Piece, Reading, nothing_read, read_piece, with_piece, own_self, piece, read_rest}
use Rattle.hir_env.specs.PathNames.{read_outward, read_use}
use Rattle.spec_data.specs.Data.{TypeData}
use Rattle.spec_data.specs.Rule as rule
use Rattle.spec_data.specs.Rule.{Named, Item, What, ended, read, refused, names, empty_list, read_kind, anchor_of}
use Rattle.spec_data.specs.Rule.{first_without_self, first_behind_self}
use Rattle.spec_data.specs.Written.{what, items, segments, outer}
use Rattle.thm_round_trip.specs.Asked.{bare_path, NameTheorem}

abbrev holds : Bool → Type 0
holds true = Unit {0}
holds false = ⊥

clash : true ≡ false → ⊥
clash h = subst holds h tt

abbrev name_at : Named → Name
name_at n = n.name

-- truth values

or_true : (a : Bool) → (a || true) ≡ true
or_true true = refl
or_true false = refl

or_false : (a : Bool) → (a || false) ≡ a
or_false true = refl
or_false false = refl

or_turned : (a b : Bool) → (a || b) ≡ (b || a)
or_turned true b = sym (or_true b)
or_turned false b = sym (or_false b)

neither_left : (a b : Bool) → (a || b) ≡ false → a ≡ false
neither_left true b h = absurd (clash h)
neither_left false b h = refl

neither_right : (a b : Bool) → (a || b) ≡ false → b ≡ false
neither_right true b h = absurd (clash h)
neither_right false b h = h

-- the names of a path

map_reverse : {A B : Type 0} (f : A → B) (xs : List A) → map f (reverse xs) ≡ reverse (map f xs)
map_reverse f [] = refl
map_reverse f (x ∷ xs) =
    ap (map f) (reverse-append (x ∷ []) xs)
    ∙ (map-append f (reverse xs) (x ∷ [])
    ∙ (ap (λ l. l ++ f x ∷ []) (map_reverse f xs)
    ∙ sym (reverse-append (f x ∷ []) (map f xs))))

-- the last of a list is changed, and its names aren't
last_changed : (f : List Named → List Named) → ((ns : List Named) → map name_at (f ns) ≡ map name_at ns) → (ns : List Named)
    → map name_at (reverse (f (reverse ns))) ≡ map name_at ns
last_changed f h ns = map_reverse name_at (f (reverse ns))
    ∙ (ap reverse (h (reverse ns) ∙ map_reverse name_at ns) ∙ reverse-reverse (map name_at ns))

without_names : (ns : List Named) → map name_at (first_without_self ns) ≡ map name_at ns
without_names [] = refl
without_names (n ∷ ns) = refl

behind_names : (t : TypeData) (ns : List Named) → map name_at (first_behind_self t ns) ≡ map name_at ns
behind_names t [] = refl
behind_names t (n ∷ ns) = refl

none_named : (ns : List Named) → asked.no_names (map name_at ns) ≡ empty_list ns
none_named [] = refl
none_named (n ∷ ns) = refl

-- a segment

abbrev piece_of : What → Piece
piece_of rule.broken = asked.refusing
piece_of (rule.named n) = asked.named n.name
piece_of (rule.root k) = asked.root k
piece_of rule.self_ = asked.self_
piece_of rule.super_ = asked.super_
piece_of (rule.anchor t) = asked.anchor
piece_of (rule.projection t p) = asked.behind_trait (option_map bare_path p)

refuses_is : (w : What) → asked.refuses (piece_of w) ≡ rule.refuses w
refuses_is rule.broken = refl
refuses_is (rule.named n) = refl
refuses_is (rule.root k) = refl
refuses_is rule.self_ = refl
refuses_is rule.super_ = refl
refuses_is (rule.anchor t) = refl
refuses_is (rule.projection t None) = refl
refuses_is (rule.projection t (Some p)) = none_named p.names

names_are : (w : What) → asked.names_of (piece_of w) ≡ map name_at (rule.names_of w)
names_are rule.broken = refl
names_are (rule.named n) = refl
names_are (rule.root k) = refl
names_are rule.self_ = refl
names_are rule.super_ = refl
names_are (rule.anchor t) = refl
names_are (rule.projection t None) = refl
names_are (rule.projection t (Some p)) = sym (last_changed (first_behind_self t) (behind_names t) p.names)

sets_is : (leading : Bool) (w : What) → asked.sets leading (piece_of w) ≡ rule.sets leading w
sets_is leading rule.broken = refl
sets_is leading (rule.named n) = refl
sets_is leading (rule.root k) = refl
sets_is leading rule.self_ = refl
sets_is leading rule.super_ = refl
sets_is leading (rule.anchor t) = refl
sets_is leading (rule.projection t None) = refl
sets_is leading (rule.projection t (Some p)) = refl

kind_is : (k : Option PathKind) (behind : PathKind) → asked.kind_or k behind ≡ rule.kind_or k behind
kind_is None behind = refl
kind_is (Some k) behind = refl

more_is : (w : What) (n : ℕ) → asked.one_more (piece_of w) n ≡ rule.one_more w n
more_is rule.broken n = refl
more_is (rule.named x) n = refl
more_is (rule.root k) n = refl
more_is rule.self_ n = refl
more_is rule.super_ n = refl
more_is (rule.anchor t) n = refl
more_is (rule.projection t p) n = refl

anchored_is : (w : What) (t : Option TypeData) → (is_some t || asked.is_anchor (piece_of w)) ≡ is_some (rule.anchor_or w t)
anchored_is rule.broken t = or_false (is_some t)
anchored_is (rule.named n) t = or_false (is_some t)
anchored_is (rule.root k) t = or_false (is_some t)
anchored_is rule.self_ t = or_false (is_some t)
anchored_is rule.super_ t = or_false (is_some t)
anchored_is (rule.anchor x) t = or_true (is_some t)
anchored_is (rule.projection x p) t = or_false (is_some t)

ends_is : (w : What) (ns : List Named) → asked.ends (piece_of w) (map name_at ns) ≡ rule.ends w ns
ends_is rule.broken ns = refl
ends_is (rule.named n) ns = refl
ends_is (rule.root k) ns = refl
ends_is rule.self_ ns = ap not (none_named ns)
ends_is rule.super_ ns = refl
ends_is (rule.anchor t) ns = refl
ends_is (rule.projection t p) ns = refl

-- a list that doesn't end

abbrev reading_of : List Item → Reading
reading_of [] = nothing_read
reading_of (i ∷ is) = read_piece i.leading (piece_of i.what) (reading_of is)

-- what the rule says of it
abbrev open_reading : List Item → Reading
open_reading is = record {
  refused = refused is;
  ended = false;
  names = map name_at (names is);
  set_kind = rule.set_kind is;
  supers = rule.supers_left is;
  anchored = is_some (anchor_of is);
}

abbrev item_reading : Item → List Item → Reading
item_reading i is = record (open_reading (i ∷ is)) { ended = rule.ends i.what (names is) }

supers_are : (i : Item) (n : ℕ)
    → asked.one_more (piece_of i.what) (if is_some (asked.sets i.leading (piece_of i.what)) then 0 else n)
    ≡ rule.one_more i.what (if is_some (rule.sets i.leading i.what) then 0 else n)
supers_are i n = (λ j. asked.one_more (piece_of i.what) (if is_some (sets_is i.leading i.what j) then 0 else n))
    ∙ more_is i.what (if is_some (rule.sets i.leading i.what) then 0 else n)

names_before : (w : What) (ns : List Named) → asked.names_of (piece_of w) ++ map name_at ns ≡ map name_at (rule.names_of w ++ ns)
names_before w ns = ap (λ l. l ++ map name_at ns) (names_are w) ∙ sym (map-append name_at (rule.names_of w) ns)

set_before : (i : Item) (k : PathKind)
    → asked.kind_or (asked.sets i.leading (piece_of i.what)) k ≡ rule.kind_or (rule.sets i.leading i.what) k
set_before i k = (λ j. asked.kind_or (sets_is i.leading i.what j) k) ∙ kind_is (rule.sets i.leading i.what) k

refused_before : (w : What) (b : Bool) → (b || asked.refuses (piece_of w)) ≡ (rule.refuses w || b)
refused_before w b = ap (λ x. b || x) (refuses_is w) ∙ or_turned b (rule.refuses w)

item_is : (i : Item) (is : List Item) → with_piece i.leading (piece_of i.what) (open_reading is) ≡ item_reading i is
item_is i is = λ j. record {
  refused = refused_before i.what (refused is) j;
  ended = ends_is i.what (names is) j;
  names = names_before i.what (names is) j;
  set_kind = set_before i (rule.set_kind is) j;
  supers = supers_are i (rule.supers_left is) j;
  anchored = anchored_is i.what (anchor_of is) j;
}

goes_on : (w : What) (ns : List Named) (r : Reading) → rule.ends w ns ≡ false → own_self (piece_of w) (map name_at ns) r ≡ r
goes_on rule.broken ns r h = refl
goes_on (rule.named n) ns r h = refl
goes_on (rule.root k) ns r h = refl
goes_on rule.self_ [] r h = refl
goes_on rule.self_ (n ∷ ns) r h = absurd (clash h)
goes_on rule.super_ ns r h = refl
goes_on (rule.anchor t) ns r h = refl
goes_on (rule.projection t p) ns r h = refl

open_is : (is : List Item) → ended is ≡ false → reading_of is ≡ open_reading is
open_is [] h = refl
open_is (i ∷ is) h =
    let here : rule.ends i.what (names is) ≡ false = neither_left (rule.ends i.what (names is)) (ended is) h in
    ap (read_piece i.leading (piece_of i.what)) (open_is is (neither_right (rule.ends i.what (names is)) (ended is) h))
    ∙ (ap (own_self (piece_of i.what) (map name_at (names is))) (item_is i is)
    ∙ (goes_on i.what (names is) (item_reading i is) here
    ∙ (λ j. record (open_reading (i ∷ is)) { ended = here j })))

-- the first that ends it

ended_own : (x : Piece) (ns : List Name) (r : Reading) → (own_self x ns r).ended ≡ r.ended
ended_own asked.refusing ns r = refl
ended_own (asked.named n) ns r = refl
ended_own (asked.root k) ns r = refl
ended_own asked.self_ [] r = refl
ended_own asked.self_ (n ∷ ns) r = refl
ended_own asked.super_ ns r = refl
ended_own asked.anchor ns r = refl
ended_own (asked.behind_trait p) ns r = refl

-- where what stands behind it ended, a segment doesn't count
passed : (leading : Bool) (x : Piece) (r : Reading) → r.ended ≡ true → read_piece leading x r ≡ r
passed leading x r h = ap (λ b. if b then r else own_self x r.names (with_piece leading x r)) h

first_is : (i : Item) (is : List Item) → ended is ≡ false
    → reading_of (i ∷ is) ≡ own_self (piece_of i.what) (map name_at (names is)) (item_reading i is)
first_is i is h = ap (read_piece i.leading (piece_of i.what)) (open_is is h)
    ∙ ap (own_self (piece_of i.what) (map name_at (names is))) (item_is i is)

ended_is : (is : List Item) → (reading_of is).ended ≡ ended is
ended_is [] = refl
ended_is (i ∷ is) = by (ended is) refl (ended_is is)
  where
    by : (b : Bool) → ended is ≡ b → (reading_of is).ended ≡ ended is
        → (reading_of (i ∷ is)).ended ≡ (rule.ends i.what (names is) || ended is)
    by true h e =
        ap (λ r. r.ended) (passed i.leading (piece_of i.what) (reading_of is) (e ∙ h))
        ∙ (e ∙ (h ∙ (sym (or_true (rule.ends i.what (names is)))
        ∙ ap (λ b. rule.ends i.what (names is) || b) (sym h))))
    by false h e =
        ap (λ r. r.ended) (first_is i is h)
        ∙ (ended_own (piece_of i.what) (map name_at (names is)) (item_reading i is)
        ∙ (sym (or_false (rule.ends i.what (names is))) ∙ ap (λ b. rule.ends i.what (names is) || b) (sym h)))

-- the path

supers_in_is : (k : PathKind) → asked.supers_in k ≡ rule.supers k
supers_in_is kind.Plain = refl
supers_in_is (kind.Super n) = refl
supers_in_is kind.Crate = refl
supers_in_is kind.Abs = refl
supers_in_is (kind.DollarCrate c) = refl

counted_is : (k : PathKind) (n : ℕ) → asked.counted k n ≡ rule.counted k n
counted_is k zero = refl
counted_is k (suc n) = ap (λ m. kind.Super (m + suc n)) (supers_in_is k)

plain_is : (k : PathKind) → asked.is_plain k ≡ rule.plain_kind k
plain_is kind.Plain = refl
plain_is (kind.Super n) = refl
plain_is kind.Crate = refl
plain_is kind.Abs = refl
plain_is (kind.DollarCrate c) = refl

absent_is : (t : Option TypeData) → not (is_some t) ≡ is_none t
absent_is None = refl
absent_is (Some t) = refl

-- so much is said of a reading with its kind, its names and whether it has a type
abbrev said : Bool → PathKind → List Name → Bool → Option ModPath
said refuses k ns anchored = if refuses then None
    else Some (record { kind = if asked.no_names ns && asked.is_plain k && not anchored then kind.Super 0 else k; segments = ns })

own_kind_is : (k : PathKind) (ns : List Named) (t : Option TypeData)
    → (if asked.no_names (map name_at ns) && asked.is_plain k && not (is_some t) then kind.Super 0 else k) ≡ rule.own_kind k ns t
own_kind_is k ns t = λ j. if none_named ns j && plain_is k j && absent_is t j then kind.Super 0 else k

said_is : (is : List Item) → said (refused is) (read_kind is) (map name_at (names is)) (is_some (anchor_of is))
    ≡ option_map bare_path (rule.path_read is)
said_is is = by (refused is)
  where
    by : (b : Bool) → said b (read_kind is) (map name_at (names is)) (is_some (anchor_of is))
        ≡ option_map bare_path (if b then None else Some (rule.read_of is))
    by true = refl
    by false = λ j. Some (record {
      kind = own_kind_is (read_kind is) (names is) (anchor_of is) j;
      segments = sym (last_changed first_without_self without_names (names is)) j;
    })

-- an ending `self` gives `self` where no `super` stands
kind_own : (w : What) (ns : List Named) (k : PathKind) (n : ℕ) (r : Reading)
    → asked.counted (own_self (piece_of w) (map name_at ns) (record r { set_kind = k; supers = n })).set_kind
    (own_self (piece_of w) (map name_at ns) (record r { set_kind = k; supers = n })).supers
    ≡ (if rule.ending_self w ns then kind.Super (rule.supers (rule.counted k n)) else rule.counted k n)
kind_own rule.broken ns k n r = counted_is k n
kind_own (rule.named x) ns k n r = counted_is k n
kind_own (rule.root x) ns k n r = counted_is k n
kind_own rule.self_ [] k n r = counted_is k n
kind_own rule.self_ (x ∷ ns) k n r =
    ap kind.Super (supers_in_is (asked.counted k n)) ∙ ap (λ y. kind.Super (rule.supers y)) (counted_is k n)
kind_own rule.super_ ns k n r = counted_is k n
kind_own (rule.anchor t) ns k n r = counted_is k n
kind_own (rule.projection t p) ns k n r = counted_is k n

refused_own : (x : Piece) (ns : List Name) (r : Reading) → (own_self x ns r).refused ≡ r.refused
refused_own asked.refusing ns r = refl
refused_own (asked.named n) ns r = refl
refused_own (asked.root k) ns r = refl
refused_own asked.self_ [] r = refl
refused_own asked.self_ (n ∷ ns) r = refl
refused_own asked.super_ ns r = refl
refused_own asked.anchor ns r = refl
refused_own (asked.behind_trait p) ns r = refl

names_own : (x : Piece) (ns : List Name) (r : Reading) → (own_self x ns r).names ≡ r.names
names_own asked.refusing ns r = refl
names_own (asked.named n) ns r = refl
names_own (asked.root k) ns r = refl
names_own asked.self_ [] r = refl
names_own asked.self_ (n ∷ ns) r = refl
names_own asked.super_ ns r = refl
names_own asked.anchor ns r = refl
names_own (asked.behind_trait p) ns r = refl

anchored_own : (x : Piece) (ns : List Name) (r : Reading) → (own_self x ns r).anchored ≡ r.anchored
anchored_own asked.refusing ns r = refl
anchored_own (asked.named n) ns r = refl
anchored_own (asked.root k) ns r = refl
anchored_own asked.self_ [] r = refl
anchored_own asked.self_ (n ∷ ns) r = refl
anchored_own asked.super_ ns r = refl
anchored_own asked.anchor ns r = refl
anchored_own (asked.behind_trait p) ns r = refl

-- the path of a list whose first may end it
first_said : (i : Item) (is : List Item)
    → asked.path_read (own_self (piece_of i.what) (map name_at (names is)) (item_reading i is))
    ≡ said (refused (i ∷ is)) (read_kind (i ∷ is)) (map name_at (names (i ∷ is))) (is_some (anchor_of (i ∷ is)))
first_said i is =
    let x : Piece = piece_of i.what in
    let ns : List Name = map name_at (names is) in
    let r : Reading = item_reading i is in
    λ j. said (refused_own x ns r j)
    (kind_own i.what (names is) (rule.set_kind (i ∷ is)) (rule.supers_left (i ∷ is)) r j)
    (names_own x ns r j) (anchored_own x ns r j)

read_theorem : (is : List Item) → asked.path_read (reading_of is) ≡ option_map bare_path (rule.path_read (read is))
read_theorem [] = refl
read_theorem (i ∷ is) = by (ended is) refl (read_theorem is)
  where
    by : (b : Bool) → ended is ≡ b → asked.path_read (reading_of is) ≡ option_map bare_path (rule.path_read (read is))
        → asked.path_read (reading_of (i ∷ is)) ≡ option_map bare_path (rule.path_read (if ended is then read is else i ∷ is))
    by true h e =
        ap asked.path_read (passed i.leading (piece_of i.what) (reading_of is) (ended_is is ∙ h))
        ∙ (e ∙ ap (λ b. option_map bare_path (rule.path_read (if b then read is else i ∷ is))) (sym h))
    by false h e =
        ap asked.path_read (first_is i is h)
        ∙ (first_said i is ∙ (said_is (i ∷ is)
        ∙ ap (λ b. option_map bare_path (rule.path_read (if b then read is else i ∷ is))) (sym h)))

-- in the tree

mutual
  piece_is : (first : Bool) (s : Segment) → piece first s ≡ piece_of (what first s)
  piece_is first tree.absent_segment = refl
  piece_is first tree.broken_segment = refl
  piece_is first (tree.name_segment n _ a) = refl
  piece_is first tree.self_type_segment = refl
  piece_is first tree.super_segment = refl
  piece_is false tree.crate_segment = refl
  piece_is true tree.crate_segment = refl
  piece_is false (tree.dollar_crate_segment c) = refl
  piece_is true (tree.dollar_crate_segment c) = refl
  piece_is false tree.self_segment = refl
  piece_is true tree.self_segment = refl
  piece_is false (tree.type_segment t) = refl
  piece_is true (tree.type_segment t) = refl
  piece_is false (tree.trait_segment t at p) = refl
  piece_is true (tree.trait_segment t at p) = ap asked.behind_trait (name_theorem p)

  rest_is : (ss : Segments) (behind : List Item) → read_rest ss (reading_of behind) ≡ reading_of (items ss behind)
  rest_is tree.no_segments behind = refl
  rest_is (tree.more_segments s ss) behind = λ j. read_piece false (piece_is false s j) (rest_is ss behind j)

  outward_is : (p : Path) (behind : List Item) → read_outward p (reading_of behind) ≡ reading_of (segments p behind)
  outward_is (tree.path alias leading first rest use_) behind =
      (λ j. read_use use_ (read_piece leading (piece_is true first j) (rest_is rest behind j)))
      ∙ use_is use_ (record { leading = leading; what = what true first } ∷ items rest behind)

  use_is : (p : OptionPath) (behind : List Item) → read_use p (reading_of behind) ≡ reading_of (outer p behind)
  use_is tree.no_path behind = refl
  use_is (tree.some_path p) behind = outward_is p behind

  pub name_theorem : NameTheorem
  name_theorem tree.no_path = refl
  name_theorem (tree.some_path p) = ap asked.path_read (outward_is p []) ∙ read_theorem (segments p [])
