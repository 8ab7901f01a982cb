-- What a path is, said of the whole list of its segments as they are written: those of the use trees around it, the
-- outermost first, then its own. It is read from its end to the first that ends the reading.
use Rattle.std.specs.Prelude.{ℕ, zero, suc, ◌+◌, if◌then◌else◌, Bool, true, false, ◌&&◌, ◌||◌, not}
use Rattle.std.specs.Prelude.{List, [], ◌∷◌, ◌++◌, reverse, Option, Some, None, is_some, is_none}
use Rattle.hir_store.specs.declared.name.Name.{Name}
use Rattle.hir_store.specs.declared.path.PathKind.{PathKind}
use Rattle.hir_store.specs.declared.path.PathKind.TheVariants as kind
use Rattle.hir_store.specs.declared.path.GenericArgsParentheses.TheVariants as parens
use Rattle.spec_data.specs.Data as datum
use Rattle.spec_data.specs.Data.{TypeData, OptionArgsData, no_args, some_args, ArgsData, args_data}

-- a name, and what stands beside it
pub record Named : Type 0 where
  pub name : Name
  pub args : OptionArgsData

-- a path that is read
pub record PathRead : Type 0 where
  pub kind : PathKind
  pub anchor : Option TypeData
  pub names : List Named
  pub bare : Bool

-- a segment where it stands
pub data What : Type 0 where
  -- it refuses the path
  broken : What
  named : Named → What
  -- `crate`, `$crate`
  root : PathKind → What
  self_ : What
  super_ : What
  -- `<T>`, and `<T as Trait>` with what the path of the trait is, where that isn't refused
  anchor : TypeData → What
  projection : TypeData → Option PathRead → What

pub record Item : Type 0 where
  -- it bears a `::`
  pub leading : Bool
  pub what : What

abbrev pub empty_list : {A : Type 0} → List A → Bool
empty_list [] = true
empty_list (x ∷ xs) = false

-- the type before a trait's arguments

abbrev pub behind_self : TypeData → ArgsData → ArgsData
behind_self t (args_data as' has_self bs ps) = args_data (datum.more_arguments (datum.type_argument t) as') true bs ps

abbrev pub self_first : TypeData → OptionArgsData → OptionArgsData
self_first t no_args =
    some_args (args_data (datum.more_arguments (datum.type_argument t) datum.no_arguments) true datum.no_bindings parens.No)
self_first t (some_args as') = some_args (behind_self t as')

abbrev pub has_self : ArgsData → Bool
has_self (args_data as' s bs ps) = s

-- arguments that begin with one for `Self` go
abbrev pub without_self : OptionArgsData → OptionArgsData
without_self no_args = no_args
without_self (some_args as') = if has_self as' then no_args else some_args as'

abbrev pub first_behind_self : TypeData → List Named → List Named
first_behind_self t [] = []
first_behind_self t (n ∷ ns) = record n { args = self_first t n.args } ∷ ns

-- the names of a trait, the last of which has the type before its arguments
abbrev pub last_behind_self : TypeData → List Named → List Named
last_behind_self t ns = reverse (first_behind_self t (reverse ns))

abbrev pub first_without_self : List Named → List Named
first_without_self [] = []
first_without_self (n ∷ ns) = record n { args = without_self n.args } ∷ ns

abbrev pub last_without_self : List Named → List Named
last_without_self ns = reverse (first_without_self (reverse ns))

-- what is read

abbrev pub names_of : What → List Named
names_of (named n) = n ∷ []
names_of (projection t (Some p)) = last_behind_self t p.names
names_of _ = []

abbrev pub names : List Item → List Named
names [] = []
names (i ∷ is) = names_of i.what ++ names is

-- `crate` and `$crate` end the reading, and `self` where a name stands behind it
abbrev pub ends : What → List Named → Bool
ends (root k) ns = true
ends self_ ns = not (empty_list ns)
ends _ ns = false

abbrev pub ended : List Item → Bool
ended [] = false
ended (i ∷ is) = ends i.what (names is) || ended is

-- from its end to the first that ends the reading
abbrev pub read : List Item → List Item
read [] = []
read (i ∷ is) = if ended is then read is else i ∷ is

-- what is refused

-- a trait that is absent, refused or without names refuses too
abbrev pub refuses : What → Bool
refuses broken = true
refuses (projection t None) = true
refuses (projection t (Some p)) = empty_list p.names
refuses _ = false

abbrev pub refused : List Item → Bool
refused [] = false
refused (i ∷ is) = refuses i.what || refused is

-- the kind

-- the kind that a segment sets; within one `crate`, `$crate` or a type does, and not a `::` beside it
abbrev pub sets : Bool → What → Option PathKind
sets leading (root k) = Some k
sets leading (anchor t) = Some kind.Plain
sets leading (projection t (Some p)) = Some p.kind
sets leading _ = if leading then Some kind.Abs else None

abbrev pub kind_or : Option PathKind → PathKind → PathKind
kind_or (Some k) behind = k
kind_or None behind = behind

-- the leftmost that is set
abbrev pub set_kind : List Item → PathKind
set_kind [] = kind.Plain
set_kind (i ∷ is) = kind_or (sets i.leading i.what) (set_kind is)

abbrev pub one_more : What → ℕ → ℕ
one_more super_ n = suc n
one_more _ n = n

-- the `super`s left of it, or bearing its `::`
abbrev pub supers_left : List Item → ℕ
supers_left [] = 0
supers_left (i ∷ is) = one_more i.what (if is_some (sets i.leading i.what) then 0 else supers_left is)

abbrev pub supers : PathKind → ℕ
supers (kind.Super n) = n
supers _ = 0

-- so many `super`s left of this kind
abbrev pub counted : PathKind → ℕ → PathKind
counted k zero = k
counted k (suc n) = kind.Super (supers k + suc n)

abbrev pub open_kind : List Item → PathKind
open_kind is = counted (set_kind is) (supers_left is)

abbrev pub ending_self : What → List Named → Bool
ending_self self_ ns = not (empty_list ns)
ending_self _ ns = false

-- an ending `self` gives `self` where no `super` stands
abbrev pub read_kind : List Item → PathKind
read_kind [] = kind.Plain
read_kind (i ∷ is) = let k = open_kind (i ∷ is) in if ending_self i.what (names is) then kind.Super (supers k) else k

abbrev pub plain_kind : PathKind → Bool
plain_kind kind.Plain = true
plain_kind _ = false

-- a path of no name that begins nowhere is `self`
abbrev pub own_kind : PathKind → List Named → Option TypeData → PathKind
own_kind k ns t = if empty_list ns && plain_kind k && is_none t then kind.Super 0 else k

-- anchor and arguments

abbrev pub anchor_or : What → Option TypeData → Option TypeData
anchor_or (anchor t) behind = Some t
anchor_or _ behind = behind

-- the leftmost
abbrev pub anchor_of : List Item → Option TypeData
anchor_of [] = None
anchor_of (i ∷ is) = anchor_or i.what (anchor_of is)

abbrev pub is_list : OptionArgsData → Bool
is_list no_args = false
is_list (some_args as') = true

-- whether a segment has arguments, even if they go
abbrev pub finds : What → Bool
finds (named n) = is_list n.args
finds (projection t p) = true
finds _ = false

abbrev pub found : List Item → Bool
found [] = false
found (i ∷ is) = finds i.what || found is

-- the whole

abbrev pub read_of : List Item → PathRead
read_of is = record {
  kind = own_kind (read_kind is) (names is) (anchor_of is);
  anchor = anchor_of is;
  names = last_without_self (names is);
  bare = is_none (anchor_of is) && not (found is);
}

-- none where a segment that is read refuses
abbrev pub path_read : List Item → Option PathRead
path_read is = if refused is then None else Some (read_of is)

-- as data

abbrev pub anchor_data : Option TypeData → datum.OptionTypeData
anchor_data None = datum.no_type
anchor_data (Some t) = datum.some_type t

abbrev pub names_data : List Named → datum.NamesData
names_data [] = datum.no_names
names_data (n ∷ ns) = datum.more_names n.name n.args (names_data ns)

abbrev pub data_of : PathRead → datum.PathData
data_of p = datum.path_data p.kind (anchor_data p.anchor) (names_data p.names) p.bare
