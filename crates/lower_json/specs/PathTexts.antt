-- What the text of a path says.
use Rattle.std.specs.Prelude.{ℕ, ◌+◌, ◌-◌, ◌*◌, ◌^◌, ◌==◌, min, List, [], ◌∷◌, map}
use Rattle.std.specs.Prelude.{Bool, true, false, Option, Some, None, bytes_eq, codes}
use Rattle.std.specs.Prelude.{option_and_then, option_map, unwrap_or, if◌then◌else◌}
use Rattle.std.specs.Char.{is_ascii_digit}
use Rattle.std.specs.List.{slice_split}
use Rattle.hir_store.specs.declared.name.Name.{Name}
use Rattle.hir_store.specs.declared.name.Name.TheVariants as name
use Rattle.hir_store.specs.declared.path.ModPath.{ModPath}
use Rattle.hir_store.specs.declared.path.PathKind.{PathKind}
use Rattle.hir_store.specs.declared.path.PathKind.TheVariants as kind
use Rattle.json_errors.specs.Values.{small}
use Rattle.json_errors.specs.ByWord.{or_else}

abbrev pub is_colon : ℕ → Bool
is_colon b = b == 58

-- what stands between colons
abbrev pub pieces : List ℕ → List (List ℕ)
pieces text = slice_split is_colon text

-- every second piece, since colons stand in pairs
abbrev pub names_among : Bool → List (List ℕ) → List (List ℕ)
names_among _ [] = []
names_among true (x ∷ xs) = x ∷ names_among false xs
names_among false (x ∷ xs) = names_among true xs

-- what stands behind a text in front
abbrev pub behind : List ℕ → List ℕ → Option (List ℕ)
behind [] text = Some text
behind (p ∷ ps) [] = None
behind (p ∷ ps) (b ∷ bs) = if b == p then behind ps bs else None

-- a number of 32 bits with one more digit
abbrev pub with_digit : ℕ → ℕ → Option ℕ
with_digit n b = if is_ascii_digit b then small (Some (n * 10 + (b - 48))) else None

-- the number so far, where nothing follows
abbrev pub ended : Option ℕ → List ℕ → Option ℕ
ended n [] = n
ended n (b ∷ bs) = None

-- a number up to the bracket that ends the text; none so far before its first digit
abbrev pub closed : Option ℕ → List ℕ → Option ℕ
closed n [] = None
closed n (b ∷ bs) = if b == 41 then ended n bs else option_and_then (λ m. closed (Some m) bs) (with_digit (unwrap_or n 0) b)

-- the crate that `$crate(n)` names
abbrev pub crate_in : List ℕ → Option ℕ
crate_in text = option_and_then (closed None) (behind (codes "$crate(") text)

-- where a path begins whose first name is a word of its own
abbrev pub begun_by : List ℕ → Option PathKind
begun_by word = if bytes_eq word (codes "") then Some kind.Abs else (if bytes_eq word (codes "crate") then Some kind.Crate
    else (if bytes_eq word (codes "self") then Some (kind.Super 0) else None))

-- where a path begins, by its first name, none where it begins with that name
abbrev pub kind_by : List ℕ → Option PathKind
kind_by word = or_else (begun_by word) (option_map (λ n. kind.DollarCrate (record { 0 = n })) (crate_in word))

-- a path that begins at so many modules above, and further up for each `super` in front
abbrev pub above : ℕ → List (List ℕ) → PathKind × List (List ℕ)
above n [] = (kind.Super n, [])
above n (x ∷ xs) = if bytes_eq x (codes "super") then above (min (n + 1) (2 ^ 32 - 1)) xs else (kind.Super n, x ∷ xs)

abbrev from_kind : Option PathKind → List ℕ → List (List ℕ) → PathKind × List (List ℕ)
from_kind (Some k) x xs = (k, xs)
from_kind None x xs = (kind.Plain, x ∷ xs)

-- where a path begins, and its names
abbrev pub begins : List (List ℕ) → PathKind × List (List ℕ)
begins [] = (kind.Plain, [])
begins (x ∷ xs) = if bytes_eq x (codes "super") then above 1 xs else from_kind (kind_by x) x xs

-- `?` is the missing name
abbrev pub name_of : List ℕ → Name
name_of text = if bytes_eq text (codes "?") then name.Missing else name.Text text

abbrev pub path_with : PathKind × List (List ℕ) → ModPath
path_with p = record { kind = p.0; segments = map name_of p.1 }

-- the path that a text is
abbrev pub path_of : List ℕ → ModPath
path_of text = path_with (begins (names_among true (pieces text)))
