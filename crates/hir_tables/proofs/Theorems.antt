-- The theorems of tables.
use Rattle.std.proofs.Common.{◌≡◌, ℕ, Bool, true, false, ◌&&◌, nat_eq, if◌then◌else◌, List, [], ◌∷◌, Option, Some, None, unwrap_or}
use Rattle.std.proofs.Common.{refl, sym, ap, ◌∙◌, true≢false}
use lib.Pointwise.{pointwise}
use Rattle.std.specs.Cmp.{IsTotalOrder, nat_cmp_total, on_total, then_total, both_tied}
use Rattle.std.specs.Cmp.{unsigned_ties, unsigned_tied, unsigned_Decides, first_so, second_so}
use Rattle.std.specs.Cmp.Lexicographic.{lists_ties, texts_ties}
use Rattle.std.specs.Ordering.{eq_by_cmp, nat_cmp}
use Rattle.hir_env.specs.declared.resolved.Resolved.{Resolved}
use Rattle.hir_store.specs.NameOrder.{name_cmp, path_cmp, kind_pair, name_total, path_total}
use Rattle.hir_store.specs.Names.{same_name}
use Rattle.hir_store.specs.declared.ids.ModuleId.{ModuleId}
use Rattle.hir_store.specs.declared.name.Name.{Name}
use Rattle.hir_store.specs.declared.name.Name.TheVariants as name
use Rattle.hir_store.specs.declared.path.ModPath.{ModPath}
use Rattle.hir_store.specs.declared.path.PathKind.{PathKind}
use Rattle.hir_store.specs.declared.path.PathKind.TheVariants as kind
use Rattle.hir_tables.proofs.First.{found_first, found_first_below}
use Rattle.hir_tables.specs.Theorems.{same_kind, same_path, PathsAsKeys, SamePathsAreOne, NamesAsKeys, PlacesAsKeys, said}
use Rattle.hir_tables.specs.Theorems.{FirstOfAlias, FirstOfCall, FirstOfDefinition, FirstOfLegacy, FirstOfPath, PathEntry, is_of}
use Rattle.hir_tables.specs.Theorems.{emitted, first_emitted}
use Rattle.hir_tables.specs.Tables.{Tables, place, place_cmp, site_value, alias_found, path_found, with_path, definition_found}
use Rattle.hir_tables.specs.Tables.{legacy_found}

-- the same keys

with_true : (b : Bool) → b ≡ (b && true)
with_true true = refl
with_true false = refl

same_names : (a b : Name) → same_name a b ≡ eq_by_cmp name_cmp a b
same_names (name.Text a) (name.Text b) = texts_ties a b
same_names (name.Text a) name.Missing = refl
same_names (name.Text a) (name.Generated k) = refl
same_names name.Missing (name.Text b) = refl
same_names name.Missing name.Missing = refl
same_names name.Missing (name.Generated k) = refl
same_names (name.Generated i) (name.Text b) = refl
same_names (name.Generated i) name.Missing = refl
same_names (name.Generated i) (name.Generated k) = with_true (nat_eq i k) ∙ texts_ties (i ∷ []) (k ∷ [])

pub names_as_keys : NamesAsKeys
names_as_keys a b = sym (same_names a b)

same_places : (x y : ℕ × ℕ) → (nat_eq x.0 y.0 && nat_eq x.1 y.1) ≡ eq_by_cmp place_cmp x y
same_places x y = both_tied _ _ (nat_cmp x.0 y.0) (nat_cmp x.1 y.1) (unsigned_ties x.0 y.0) (unsigned_ties x.1 y.1)

pub places_as_keys : PlacesAsKeys
places_as_keys a b = sym (same_places (place a) (place b))

same_kinds : (a b : PathKind) → same_kind a b ≡ eq_by_cmp place_cmp (kind_pair a) (kind_pair b)
same_kinds kind.Plain kind.Plain = refl
same_kinds kind.Plain (kind.Super n) = refl
same_kinds kind.Plain kind.Crate = refl
same_kinds kind.Plain kind.Abs = refl
same_kinds kind.Plain (kind.DollarCrate c) = refl
same_kinds (kind.Super m) kind.Plain = refl
same_kinds (kind.Super m) (kind.Super n) = unsigned_ties m n
same_kinds (kind.Super m) kind.Crate = refl
same_kinds (kind.Super m) kind.Abs = refl
same_kinds (kind.Super m) (kind.DollarCrate c) = refl
same_kinds kind.Crate kind.Plain = refl
same_kinds kind.Crate (kind.Super n) = refl
same_kinds kind.Crate kind.Crate = refl
same_kinds kind.Crate kind.Abs = refl
same_kinds kind.Crate (kind.DollarCrate c) = refl
same_kinds kind.Abs kind.Plain = refl
same_kinds kind.Abs (kind.Super n) = refl
same_kinds kind.Abs kind.Crate = refl
same_kinds kind.Abs kind.Abs = refl
same_kinds kind.Abs (kind.DollarCrate c) = refl
same_kinds (kind.DollarCrate b) kind.Plain = refl
same_kinds (kind.DollarCrate b) (kind.Super n) = refl
same_kinds (kind.DollarCrate b) kind.Crate = refl
same_kinds (kind.DollarCrate b) kind.Abs = refl
same_kinds (kind.DollarCrate b) (kind.DollarCrate c) = unsigned_ties b.0 c.0

pub paths_as_keys : PathsAsKeys
paths_as_keys a b = sym (both_tied (same_kind a.kind b.kind) (pointwise same_name a.segments b.segments) _ _
    (same_kinds a.kind b.kind) (lists_ties name_cmp same_names a.segments b.segments))

-- the same is one

one_number : (m n : ℕ) → nat_eq m n ≡ true → m ≡ n
one_number m n e = (unsigned_Decides m n).0 e

one_list : {X : Type 0} {same : X → X → Bool} → ((x y : X) → same x y ≡ true → x ≡ y) → (xs ys : List X)
    → pointwise same xs ys ≡ true → xs ≡ ys
one_list one [] [] e = refl
one_list one [] (y ∷ ys) e = absurd (true≢false (sym e))
one_list one (x ∷ xs) [] e = absurd (true≢false (sym e))
one_list {X} {same} one (x ∷ xs) (y ∷ ys) e =
    λ i. one x y (first_so (same x y) (pointwise same xs ys) e) i ∷ one_list one xs ys (second_so (same x y) (pointwise same xs ys) e) i

one_name : (a b : Name) → same_name a b ≡ true → a ≡ b
one_name (name.Text a) (name.Text b) e = ap name.Text (one_list one_number a b e)
one_name (name.Text a) name.Missing e = absurd (true≢false (sym e))
one_name (name.Text a) (name.Generated k) e = absurd (true≢false (sym e))
one_name name.Missing (name.Text b) e = absurd (true≢false (sym e))
one_name name.Missing name.Missing e = refl
one_name name.Missing (name.Generated k) e = absurd (true≢false (sym e))
one_name (name.Generated i) (name.Text b) e = absurd (true≢false (sym e))
one_name (name.Generated i) name.Missing e = absurd (true≢false (sym e))
one_name (name.Generated i) (name.Generated k) e = ap name.Generated (one_number i k e)

one_kind : (a b : PathKind) → same_kind a b ≡ true → a ≡ b
one_kind kind.Plain kind.Plain e = refl
one_kind kind.Plain (kind.Super n) e = absurd (true≢false (sym e))
one_kind kind.Plain kind.Crate e = absurd (true≢false (sym e))
one_kind kind.Plain kind.Abs e = absurd (true≢false (sym e))
one_kind kind.Plain (kind.DollarCrate c) e = absurd (true≢false (sym e))
one_kind (kind.Super m) kind.Plain e = absurd (true≢false (sym e))
one_kind (kind.Super m) (kind.Super n) e = ap kind.Super (one_number m n e)
one_kind (kind.Super m) kind.Crate e = absurd (true≢false (sym e))
one_kind (kind.Super m) kind.Abs e = absurd (true≢false (sym e))
one_kind (kind.Super m) (kind.DollarCrate c) e = absurd (true≢false (sym e))
one_kind kind.Crate kind.Plain e = absurd (true≢false (sym e))
one_kind kind.Crate (kind.Super n) e = absurd (true≢false (sym e))
one_kind kind.Crate kind.Crate e = refl
one_kind kind.Crate kind.Abs e = absurd (true≢false (sym e))
one_kind kind.Crate (kind.DollarCrate c) e = absurd (true≢false (sym e))
one_kind kind.Abs kind.Plain e = absurd (true≢false (sym e))
one_kind kind.Abs (kind.Super n) e = absurd (true≢false (sym e))
one_kind kind.Abs kind.Crate e = absurd (true≢false (sym e))
one_kind kind.Abs kind.Abs e = refl
one_kind kind.Abs (kind.DollarCrate c) e = absurd (true≢false (sym e))
one_kind (kind.DollarCrate b) kind.Plain e = absurd (true≢false (sym e))
one_kind (kind.DollarCrate b) (kind.Super n) e = absurd (true≢false (sym e))
one_kind (kind.DollarCrate b) kind.Crate e = absurd (true≢false (sym e))
one_kind (kind.DollarCrate b) kind.Abs e = absurd (true≢false (sym e))
one_kind (kind.DollarCrate b) (kind.DollarCrate c) e = λ i. kind.DollarCrate (record { 0 = one_number b.0 c.0 e i })

pub same_paths_are_one : SamePathsAreOne
same_paths_are_one a b e = λ i. record {
  kind = one_kind a.kind b.kind (first_so (same_kind a.kind b.kind) (pointwise same_name a.segments b.segments) e) i;
  segments = one_list one_name a.segments b.segments (second_so (same_kind a.kind b.kind) (pointwise same_name a.segments b.segments) e) i;
}

-- the first counts

place_total : IsTotalOrder place_cmp
place_total = then_total (on_total (λ p. p.0) nat_cmp_total) (on_total (λ p. p.1) nat_cmp_total)

pub first_of_call : FirstOfCall
first_of_call es a b answer =
    found_first place_cmp place_total es (place a) answer (place b)
    ∙ ap (λ same. said (site_value es b) same answer) (places_as_keys b a)

pub first_of_alias : FirstOfAlias
first_of_alias es i j a =
    found_first nat_cmp nat_cmp_total es i.0 a j.0
    ∙ (λ x. said (alias_found es j) (unsigned_tied j.0 i.0 x) a)

pub first_of_definition : FirstOfDefinition
first_of_definition es i j a b d =
    found_first_below name_cmp name_total nat_cmp nat_cmp_total es a i.0 d b j.0
    ∙ (λ x. said (definition_found es j b) (names_as_keys b a x && unsigned_tied j.0 i.0 x) d)

pub first_of_legacy : FirstOfLegacy
first_of_legacy es i j a b k l d =
    found_first_below name_cmp name_total place_cmp place_total es a (i.0, k) d b (j.0, l)
    ∙ (λ x. said (legacy_found es j b l) (names_as_keys b a x && sym (same_places (j.0, l) (i.0, k)) x) d)

abbrev or_emitted : Option Resolved → Option Resolved → Option Resolved
or_emitted (Some before) later = Some before
or_emitted None later = later

flipped : (b c : Bool) → (b && c) ≡ (c && b)
flipped true true = refl
flipped true false = refl
flipped false true = refl
flipped false false = refl

emitted_path : (ps : List (ModPath × List (ℕ × Resolved))) (e : PathEntry) (inside : ModuleId) (p : ModPath)
    → path_found (with_path ps e.inside e.path e.resolved) inside p ≡ said (path_found ps inside p) (is_of inside p e) e.resolved
emitted_path ps e inside p =
    found_first_below path_cmp path_total nat_cmp nat_cmp_total ps e.path e.inside.0 e.resolved p inside.0
    ∙ ((λ x. said (path_found ps inside p) (paths_as_keys p e.path x && unsigned_tied inside.0 e.inside.0 x) e.resolved)
    ∙ ap (λ same. said (path_found ps inside p) same e.resolved) (flipped (same_path p e.path) (nat_eq inside.0 e.inside.0)))

in_turn : (before later : Option Resolved) (same : Bool) (r : Resolved)
    → or_emitted (said before same r) later ≡ or_emitted before (if same then Some r else later)
in_turn (Some x) later same r = refl
in_turn None later true r = refl
in_turn None later false r = refl

emitted_paths : (t : Tables) (es : List PathEntry) (inside : ModuleId) (p : ModPath)
    → path_found (emitted t es).paths inside p ≡ or_emitted (path_found t.paths inside p) (first_emitted es inside p)
emitted_paths t [] inside p = ended (path_found t.paths inside p)
  where
    ended : (before : Option Resolved) → before ≡ or_emitted before None
    ended (Some x) = refl
    ended None = refl
emitted_paths t (e ∷ es) inside p =
    emitted_paths (record t { paths = with_path t.paths e.inside e.path e.resolved }) es inside p
    ∙ (ap (λ before. or_emitted before (first_emitted es inside p)) (emitted_path t.paths e inside p)
    ∙ in_turn (path_found t.paths inside p) (first_emitted es inside p) (is_of inside p e) e.resolved)

pub first_of_path : FirstOfPath
first_of_path t es inside p shadow none =
    ap (λ site_value. unwrap_or site_value (record { types = None; values = None; rest = None }))
    (emitted_paths t es inside p ∙ ap (λ ps. or_emitted (path_found ps inside p) (first_emitted es inside p)) none)
