-- How far a path is read is the same by the rule on the whole list of its segments and by the walk from its end.
use Rattle.std.proofs.Common.{◌≡◌, ◌∙◌, refl, sym, ap, subst, Bool, true, false, true≢false, not, ◌||◌, if◌then◌else◌}
use Rattle.std.proofs.Common.{List, [], ◌∷◌, ◌++◌, reverse, Option, Some, None, is_some, option_map}
use Rattle.std.proofs.lemmas.List.{reverse-append}
use Rattle.hir_env.specs.ResolvedTree as tree
use Rattle.hir_env.specs.ResolvedTree.{OptionPath, Path, Segment, Segments}
use Rattle.spec_data.specs.Data.{TypeData}
use Rattle.spec_data.specs.Rule as rule
use Rattle.spec_data.specs.Rule.{Item, Named, PathRead, empty_list, ended, ends, names, names_of, read, refused, refuses}
use Rattle.spec_data.specs.Written.{items, type_data, outer, path_of, segments, what, written_path}
use Rattle.thm_logic.specs.PathSeen as walk
use Rattle.thm_logic.specs.PathSeen.{Read, Seen, after, at_first, found}
use Rattle.thm_logic.specs.PathSeen.{nothing_seen, outer_read, path_read, segment_read, segments_read}
use Rattle.thm_logic.specs.PathSeen.{whole_read}

-- lists

or_true : (b : Bool) → (b || true) ≡ true
or_true true = refl
or_true false = refl

or_false : (b c : Bool) → c ≡ false → (b || c) ≡ b
or_false true c e = refl
or_false false c e = e

second_false : (b c : Bool) → (b || c) ≡ false → c ≡ false
second_false true c e = absurd (true≢false e)
second_false false c e = e

not_empty : {A : Type 0} (xs ys : List A) → empty_list xs ≡ false → empty_list (xs ++ ys) ≡ false
not_empty [] ys e = absurd (true≢false e)
not_empty (x ∷ xs) ys e = refl

empty_reverse : {A : Type 0} (xs : List A) → empty_list (reverse xs) ≡ empty_list xs
empty_reverse [] = refl
empty_reverse (x ∷ xs) = ap empty_list (reverse-append (x ∷ []) xs) ∙ by (reverse xs) x
  where
    by : {A : Type 0} (ys : List A) (y : A) → empty_list (ys ++ y ∷ []) ≡ false
    by [] y = refl
    by (z ∷ ys) y = refl

-- the first may change
empty_behind : (t : TypeData) (ns : List Named) → empty_list (rule.last_behind_self t ns) ≡ empty_list ns
empty_behind t ns = empty_reverse (rule.first_behind_self t (reverse ns)) ∙ by (reverse ns) ∙ empty_reverse ns
  where
    by : (ms : List Named) → empty_list (rule.first_behind_self t ms) ≡ empty_list ms
    by [] = refl
    by (m ∷ ms) = refl

empty_without : (ns : List Named) → empty_list (rule.last_without_self ns) ≡ empty_list ns
empty_without ns = empty_reverse (rule.first_without_self (reverse ns)) ∙ by (reverse ns) ∙ empty_reverse ns
  where
    by : (ms : List Named) → empty_list (rule.first_without_self ms) ≡ empty_list ms
    by [] = refl
    by (m ∷ ms) = refl

-- what is read of a list

-- none of them ends the reading, so all are read
all_read : (is : List Item) → ended is ≡ false → read is ≡ is
all_read [] e = refl
all_read (i ∷ is) e = ap (λ b. if b then read is else i ∷ is) (second_false (ends i.what (names is)) (ended is) e)

-- so far: it is refused, it ended, or it goes on
abbrev IsRead : List Item → Read → Type 0
IsRead is walk.refused = refused (read is) ≡ true
IsRead is (walk.ended x) = (ended is ≡ true) × ((refused (read is) ≡ false) × (empty_list (names (read is)) ≡ not x.named))
IsRead is (walk.goes_on x) = (ended is ≡ false) × ((refused is ≡ false) × (empty_list (names is) ≡ not x.named))

-- what is behind an end, or refuses, stays
still_refused : (i : Item) (is : List Item) → refused (read is) ≡ true → refused (read (i ∷ is)) ≡ true
still_refused i is e = by (ended is) refl
  where
    by : (b : Bool) → ended is ≡ b → refused (if b then read is else i ∷ is) ≡ true
    by true k = e
    by false k = ap (λ c. refuses i.what || c) (sym (ap refused (all_read is k)) ∙ e) ∙ or_true (refuses i.what)

still_ended : (i : Item) (is : List Item) (x : Seen) → IsRead is (walk.ended x) → IsRead (i ∷ is) (walk.ended x)
still_ended i is x h =
    let same : read (i ∷ is) ≡ read is = ap (λ b. if b then read is else i ∷ is) h.0 in (
      ap (λ b. ends i.what (names is) || b) h.0 ∙ or_true (ends i.what (names is)),
      (ap refused same ∙ h.1.0, ap (λ js. empty_list (names js)) same ∙ h.1.1),
    )

-- one more in front, where the reading goes on
in_front : (i : Item) (is : List Item) (r : Read) (f : Seen → Read) → IsRead is r
    → ((x : Seen) → IsRead is (walk.goes_on x) → IsRead (i ∷ is) (f x)) → IsRead (i ∷ is) (after r f)
in_front i is walk.refused f h k = still_refused i is h
in_front i is (walk.ended x) f h k = still_ended i is x h
in_front i is (walk.goes_on x) f h k = k x h

module _ (i : Item) (is : List Item) (x : Seen) (h : IsRead is (walk.goes_on x)) where
  all : read (i ∷ is) ≡ i ∷ is
  all = ap (λ b. if b then read is else i ∷ is) h.0

  refused_now : refuses i.what ≡ true → IsRead (i ∷ is) walk.refused
  refused_now e = ap refused all ∙ ap (λ b. b || refused is) e

  none_refused : refuses i.what ≡ false → refused (i ∷ is) ≡ false
  none_refused e = ap (λ b. b || refused is) e ∙ h.1.0

  goes_on_now : (y : Seen) → refuses i.what ≡ false → ends i.what (names is) ≡ false
      → empty_list (names_of i.what ++ names is) ≡ not y.named → IsRead (i ∷ is) (walk.goes_on y)
  goes_on_now y e f n = (or_false (ends i.what (names is)) (ended is) h.0 ∙ f, (none_refused e, n))

  ended_now : (y : Seen) → refuses i.what ≡ false → ends i.what (names is) ≡ true
      → empty_list (names_of i.what ++ names is) ≡ not y.named → IsRead (i ∷ is) (walk.ended y)
  ended_now y e f n = (
    or_false (ends i.what (names is)) (ended is) h.0 ∙ f,
    (ap refused all ∙ none_refused e, ap (λ js. empty_list (names js)) all ∙ n),
  )

-- paths

abbrev Like : Option PathRead → Option Seen → Type 0
Like None None = Unit {0}
Like (Some p) (Some x) = empty_list p.names ≡ not x.named
Like None (Some x) = ⊥
Like (Some p) None = ⊥

-- `<T as Trait>`
trait_like : (t : TypeData) (leading : Bool) (p : Option PathRead) (y : Option Seen) → Like p y → (is : List Item) (x : Seen)
    → IsRead is (walk.goes_on x)
    → IsRead (record { leading = leading; what = rule.projection t p } ∷ is) (walk.projected y)
trait_like t leading None None l is x h = refused_now (record { leading = leading; what = rule.projection t None }) is x h refl
trait_like t leading None (Some y) l is x h = absurd l
trait_like t leading (Some p) None l is x h = absurd l
trait_like t leading (Some p) (Some y) l is x h = by y.named refl
  where
    item : Item
    item = record { leading = leading; what = rule.projection t (Some p) }

    by : (b : Bool) → y.named ≡ b → IsRead (item ∷ is) (if b then walk.goes_on y else walk.refused)
    by true e = goes_on_now item is x h y (l ∙ ap not e) refl
        (not_empty (rule.last_behind_self t p.names) (names is) (empty_behind t p.names ∙ (l ∙ ap not e)) ∙ sym (ap not e))
    by false e = refused_now item is x h (l ∙ ap not e)

-- `self` ends a path where a name stands behind it
self_like : (leading : Bool) (is : List Item) (x : Seen) → IsRead is (walk.goes_on x)
    → IsRead (record { leading = leading; what = rule.self_ } ∷ is) (walk.self_read x)
self_like leading is x h = by x.named refl
  where
    item : Item
    item = record { leading = leading; what = rule.self_ }

    by : (b : Bool) → x.named ≡ b → IsRead (item ∷ is) (if b then walk.ended x else walk.goes_on x)
    by true e = ended_now item is x h x refl (ap not (h.1.1 ∙ ap not e)) h.1.1
    by false e = goes_on_now item is x h x refl (ap not (h.1.1 ∙ ap not e)) h.1.1

-- where all segments stand in the list
at_end : (is : List Item) (r : Read) → IsRead is r → Like (rule.path_read (read is)) (found r)
at_end is walk.refused h = subst (λ b. Like (if b then None else Some (rule.read_of (read is))) None) (sym h) tt
at_end is (walk.ended x) h = subst (λ b. Like (if b then None else Some (rule.read_of (read is))) (Some x)) (sym h.1.0)
    (empty_without (names (read is)) ∙ h.1.1)
at_end is (walk.goes_on x) h =
    let same = all_read is h.0 in
    subst (λ b. Like (if b then None else Some (rule.read_of (read is))) (Some x)) (sym (ap refused same ∙ h.1.0))
    (empty_without (names (read is)) ∙ (ap (λ js. empty_list (names js)) same ∙ h.1.1))

-- a segment where it stands
abbrev item : Bool → Bool → Segment → Item
item leading first s = record { leading = leading; what = what first s }

-- a `::` in front of it says nothing of names
first_like : (leading : Bool) (s : Segment) (is : List Item) (x : Seen) → IsRead is (walk.goes_on x)
    → ((y : Seen) → IsRead is (walk.goes_on y) → IsRead (item leading true s ∷ is) (segment_read true s y))
    → IsRead (item leading true s ∷ is) (segment_read true s (at_first leading x))
first_like true s is x h k = k (walk.anew x) h
first_like false s is x h k = k x h

mutual
  segment_like : (leading first : Bool) (s : Segment) (is : List Item) (x : Seen) → IsRead is (walk.goes_on x)
      → IsRead (item leading first s ∷ is) (segment_read first s x)
  segment_like leading first tree.absent_segment is x h =
      goes_on_now (item leading first tree.absent_segment) is x h (record x { named = true }) refl refl refl
  segment_like leading first tree.broken_segment is x h = refused_now (item leading first tree.broken_segment) is x h refl
  segment_like leading first (tree.name_segment n w as') is x h =
      goes_on_now (item leading first (tree.name_segment n w as')) is x h (record x { named = true }) refl refl refl
  segment_like leading first tree.self_type_segment is x h =
      goes_on_now (item leading first tree.self_type_segment) is x h (record x { named = true }) refl refl refl
  segment_like leading first tree.super_segment is x h =
      goes_on_now (item leading first tree.super_segment) is x h (walk.one_more x) refl refl h.1.1
  segment_like leading false tree.crate_segment is x h = refused_now (item leading false tree.crate_segment) is x h refl
  segment_like leading true tree.crate_segment is x h =
      ended_now (item leading true tree.crate_segment) is x h (walk.anew x) refl refl h.1.1
  segment_like leading false (tree.dollar_crate_segment root) is x h =
      refused_now (item leading false (tree.dollar_crate_segment root)) is x h refl
  segment_like leading true (tree.dollar_crate_segment root) is x h =
      ended_now (item leading true (tree.dollar_crate_segment root)) is x h (walk.anew x) refl refl h.1.1
  segment_like leading false tree.self_segment is x h = refused_now (item leading false tree.self_segment) is x h refl
  segment_like leading true tree.self_segment is x h = self_like leading is x h
  segment_like leading false (tree.type_segment t) is x h = refused_now (item leading false (tree.type_segment t)) is x h refl
  segment_like leading true (tree.type_segment t) is x h =
      goes_on_now (item leading true (tree.type_segment t)) is x h (walk.anew x) refl refl h.1.1
  segment_like leading false (tree.trait_segment t at p) is x h = refused_now (item leading false (tree.trait_segment t at p)) is x h refl
  segment_like leading true (tree.trait_segment t at p) is x h =
      trait_like (type_data None t) leading (path_of p) (whole_read p) (path_like p) is x h

  segments_like : (ss : Segments) (is : List Item) (r : Read) → IsRead is r → IsRead (items ss is) (after r (λ x. segments_read ss x))
  segments_like tree.no_segments is walk.refused h = h
  segments_like tree.no_segments is (walk.ended x) h = h
  segments_like tree.no_segments is (walk.goes_on x) h = h
  segments_like (tree.more_segments s ss) is walk.refused h =
      still_refused (item false false s) (items ss is) (segments_like ss is walk.refused h)
  segments_like (tree.more_segments s ss) is (walk.ended x) h =
      still_ended (item false false s) (items ss is) x (segments_like ss is (walk.ended x) h)
  segments_like (tree.more_segments s ss) is (walk.goes_on x) h =
      in_front (item false false s) (items ss is) (segments_read ss x) (λ y. segment_read false s y)
      (segments_like ss is (walk.goes_on x) h) (λ y k. segment_like false false s (items ss is) y k)

  whole_like : (p : Path) (is : List Item) (r : Read) → IsRead is r → IsRead (segments p is) (after r (λ x. path_read p x))
  whole_like (tree.path alias leading first rest use_) is walk.refused h =
      outer_like use_ (item leading true first ∷ items rest is) walk.refused
      (still_refused (item leading true first) (items rest is) (segments_like rest is walk.refused h))
  whole_like (tree.path alias leading first rest use_) is (walk.ended x) h =
      outer_like use_ (item leading true first ∷ items rest is) (walk.ended x)
      (still_ended (item leading true first) (items rest is) x (segments_like rest is (walk.ended x) h))
  whole_like (tree.path alias leading first rest use_) is (walk.goes_on x) h = outer_like use_ (item leading true first ∷ items rest is)
      (after (segments_read rest x) (λ y. segment_read true first (at_first leading y)))
      (in_front (item leading true first) (items rest is) (segments_read rest x) (λ y. segment_read true first (at_first leading y))
      (segments_like rest is (walk.goes_on x) h) (λ y k.
      first_like leading first (items rest is) y k (λ z m. segment_like leading true first (items rest is) z m)))

  outer_like : (p : OptionPath) (is : List Item) (r : Read) → IsRead is r → IsRead (outer p is) (after r (λ y. outer_read p y))
  outer_like tree.no_path is walk.refused h = h
  outer_like tree.no_path is (walk.ended x) h = h
  outer_like tree.no_path is (walk.goes_on x) h = h
  outer_like (tree.some_path p) is r h = whole_like p is r h

  path_like : (p : OptionPath) → Like (path_of p) (whole_read p)
  path_like tree.no_path = tt
  path_like (tree.some_path p) = at_end (segments p []) (path_read p nothing_seen)
      (whole_like p [] (walk.goes_on nothing_seen) (refl, (refl, refl)))

-- whether it is read at all
pub read_alike : (p : OptionPath) → is_some (written_path p) ≡ is_some (whole_read p)
read_alike p = by (path_of p) (whole_read p) (path_like p)
  where
    by : (q : Option PathRead) (x : Option Seen) → Like q x → is_some (option_map rule.data_of q) ≡ is_some x
    by None None l = refl
    by None (Some x) l = absurd l
    by (Some q) None l = absurd l
    by (Some q) (Some x) l = refl
