-- What one segment adds to what is read of a path.
use Rattle.std.specs.Prelude.{codes, ℕ, ◌+◌, ◌^◌, nat_lt, if◌then◌else◌, Bool, true, false, ◌&&◌, ◌||◌, not}
use Rattle.std.specs.Prelude.{List, [], ◌∷◌, ◌++◌, map, reverse, Option, Some, None, is_some, is_none, option_map}
use Rattle.hir_store.specs.declared.ids.CrateId.{CrateId}
use Rattle.hir_store.specs.declared.ids.TypeRefId.{TypeRefId}
use Rattle.hir_store.specs.declared.name.Name.{Name}
use Rattle.hir_store.specs.declared.name.Name.TheVariants as name
use Rattle.hir_store.specs.declared.path.PathKind.{PathKind}
use Rattle.hir_store.specs.declared.path.PathKind.TheVariants as kind
use Rattle.hir_store.specs.declared.path.ModPath.{ModPath}
use Rattle.hir_store.specs.declared.path.NormalPath.{NormalPath}
use Rattle.hir_store.specs.declared.path.Path.{Path}
use Rattle.hir_store.specs.declared.path.Path.TheVariants.{BarePath, Normal, LangItem}
use Rattle.hir_store.specs.declared.path.GenericArgs.{GenericArgs}
use Rattle.hir_store.specs.declared.path.AssociatedTypeBinding.TheViews.{out-GenericArgs}
use Rattle.hir_store.specs.Generics.{self_first}
use Rattle.hir_store.specs.Past.{Past, nothing, join, past_present, past_type_id, past_arg_lists}
use Rattle.hir_lower_builder.specs.declared.walk.PathWalk.{PathWalk}
use Rattle.hir_lower_builder.specs.declared.walk.Reading.{Reading}
use Rattle.hir_lower_builder.specs.declared.walk.Reading.TheVariants.{Refused, Ended, Open}

-- nothing is read
abbrev pub start : PathWalk
start = record { kind = kind.Plain; type_anchor = None; names = []; args = []; found_args = false }

-- a first segment may bear a `::`
abbrev pub at_first : Bool → PathWalk → PathWalk
at_first leading w = if leading then record w { kind = kind.Abs } else w

abbrev pub missing_name : Name
missing_name = name.Missing

abbrev pub self_type_name : Name
self_type_name = name.Text (codes "Self")

abbrev pub add_name : Name → Option GenericArgs → PathWalk → PathWalk
add_name n a w = record w { names = w.names ++ n ∷ []; args = w.args ++ a ∷ []; found_args = w.found_args || is_some a }

abbrev pub named : Name → Option GenericArgs → PathWalk → Reading
named n a w = Open (add_name n a w)

abbrev pub ended : PathKind → PathWalk → Reading
ended k w = Ended (record w { kind = k })

-- `$crate` of a context without a root is `crate`
abbrev pub crate_kind : Option CrateId → PathKind
crate_kind (Some root) = kind.DollarCrate root
crate_kind None = kind.Crate

abbrev pub supers : PathKind → ℕ
supers (kind.Super n) = n
supers _ = 0

-- the kind of a path that a `self` ends
abbrev pub self_kind : PathKind → PathKind
self_kind k = kind.Super (supers k)

abbrev pub no_names : List Name → Bool
no_names [] = true
no_names (n ∷ ns) = false

-- `self` ends a path where a name stands behind it
abbrev pub self_read : PathWalk → Reading
self_read w = if no_names w.names then Open w else ended (self_kind w.kind) w

-- none where there are as many as are counted
abbrev pub one_more_super : PathKind → Option PathKind
one_more_super k = if nat_lt (supers k + 1) (2 ^ 32) then Some (kind.Super (supers k + 1)) else None

abbrev pub super_read : PathWalk → Option Reading
super_read w = option_map (λ k. Open (record w { kind = k })) (one_more_super w.kind)

abbrev pub anchored : TypeRefId → PathWalk → Reading
anchored t w = Open (record w { kind = kind.Plain; type_anchor = Some t })

-- `<T as Trait>`

-- an item of the language has none
abbrev pub mod_path : Path → ModPath
mod_path (BarePath p) = p
mod_path (Normal p) = p.mod_path
mod_path (LangItem item) = record { kind = kind.Plain; segments = [] }

-- what stands beside each name
abbrev pub args_of : Path → List (Option GenericArgs)
args_of (BarePath p) = map (λ n. None) p.segments
args_of (Normal p) = p.generic_args
args_of (LangItem item) = []

-- the arguments from the last to the first, the last behind the type for `Self`
abbrev pub with_self : TypeRefId → List (Option GenericArgs) → List (Option GenericArgs)
with_self t [] = Some (self_first t None) ∷ []
with_self t (a ∷ as') = Some (self_first t a) ∷ as'

abbrev pub add_trait : TypeRefId → Path → PathWalk → PathWalk
add_trait t p w = record w {
  kind = (mod_path p).kind;
  names = w.names ++ reverse (mod_path p).segments;
  args = w.args ++ with_self t (reverse (args_of p));
  found_args = true;
}

-- the names of the trait, with the type before the arguments of the last
abbrev pub projected : TypeRefId → Path → PathWalk → Reading
projected t p w = if no_names (mod_path p).segments then Refused else Open (add_trait t p w)

-- the whole path

abbrev pub has_self : GenericArgs → Bool
has_self a = (out-GenericArgs a).has_self_type

-- nothing stands behind `<T as Trait>`, so its arguments go
abbrev pub without_last_self : List (Option GenericArgs) → List (Option GenericArgs)
without_last_self [] = []
without_last_self (None ∷ as') = None ∷ as'
without_last_self (Some a ∷ as') = (if has_self a then None else Some a) ∷ as'

abbrev pub is_plain : PathKind → Bool
is_plain kind.Plain = true
is_plain _ = false

-- a path of nothing is `self`
abbrev pub own_kind : PathWalk → PathKind
own_kind w = if no_names w.names && is_plain w.kind && is_none w.type_anchor then kind.Super 0 else w.kind

abbrev pub own_path : PathWalk → ModPath
own_path w = record { kind = own_kind w; segments = reverse w.names }

abbrev pub normal_path : PathWalk → NormalPath
normal_path w = record { type_anchor = w.type_anchor; mod_path = own_path w; generic_args = reverse (without_last_self w.args) }

-- it is bare where neither an anchor nor arguments were found
abbrev pub finished : PathWalk → Path
finished w = if is_none w.type_anchor && not w.found_args then BarePath (own_path w) else Normal (normal_path w)

-- none where it is refused
abbrev pub path_read : Reading → Option Path
path_read Refused = None
path_read (Ended w) = Some (finished w)
path_read (Open w) = Some (finished w)

-- the names of a path, which an item of the language has none of
abbrev pub names_in : Path → Option ModPath
names_in (BarePath p) = Some p
names_in (Normal p) = Some p.mod_path
names_in (LangItem item) = None

abbrev pub names_read : Option Path → Option ModPath
names_read None = None
names_read (Some p) = names_in p

-- what is named

abbrev pub past_walk : PathWalk → Past
past_walk w = join (past_present past_type_id w.type_anchor) (past_arg_lists w.args)

abbrev pub past_reading : Reading → Past
past_reading Refused = nothing
past_reading (Ended w) = past_walk w
past_reading (Open w) = past_walk w
