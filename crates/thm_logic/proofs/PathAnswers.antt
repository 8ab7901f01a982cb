-- What is known of how far a path is read, and of lists of arguments.
use Rattle.std.proofs.Common.{◌≡◌, ◌∙◌, refl, ap, ℕ, Bool, true, false, not, ◌&&◌, ◌||◌, if◌then◌else◌}
use Rattle.std.proofs.Common.{List, [], ◌∷◌, ◌++◌, reverse, Option, Some, None, is_some, is_none, option_map}
use Rattle.std.proofs.lemmas.List.{reverse-append}
use Rattle.hir_store.specs.Generics.{of_args}
use Rattle.hir_store.specs.declared.ids.CrateId.{CrateId}
use Rattle.hir_store.specs.declared.name.Name.{Name}
use Rattle.hir_store.specs.declared.path.AssociatedTypeBinding.{AssociatedTypeBinding}
use Rattle.hir_store.specs.declared.path.GenericArg.{GenericArg}
use Rattle.hir_store.specs.declared.path.GenericArgs.{GenericArgs}
use Rattle.hir_store.specs.declared.path.GenericArgsParentheses.TheVariants as parens
use Rattle.hir_store.specs.declared.path.Path.{Path as HirPath}
use Rattle.hir_store.specs.declared.path.Path.TheVariants.{BarePath, Normal}
use Rattle.hir_store.specs.declared.path.PathKind.{PathKind}
use Rattle.hir_store.specs.declared.path.PathKind.TheVariants as kind
use Rattle.hir_lower_builder.specs.declared.args.ArgLists.{ArgLists}
use Rattle.hir_lower_builder.specs.declared.walk.PathWalk.{PathWalk}
use Rattle.hir_lower_builder.specs.declared.walk.Reading.{Reading}
use Rattle.hir_lower_builder.specs.declared.walk.Reading.TheVariants.{Refused, Ended, Open}
use Rattle.hir_lower_builder.specs.Types.{add_arg, add_binding, is_none_of, yielded}
use Rattle.hir_lower_builder.specs.Walks as walks
use Rattle.hir_lower_builder.specs.Walks.{supers, no_names, add_name, mod_path, own_kind, finished, is_plain, own_path, normal_path}
use Rattle.thm_logic.specs.PathSeen as reading
use Rattle.thm_logic.specs.PathSeen.{Seen, Read, refused, ended, goes_on, anew, self_read, found}

-- what was read, of a walk

abbrev pub walk_seen : PathWalk → Seen
walk_seen w = record { named = not (no_names w.names); supers = supers w.kind }

abbrev pub seen_of : Reading → Read
seen_of Refused = refused
seen_of (Ended w) = ended (walk_seen w)
seen_of (Open w) = goes_on (walk_seen w)

abbrev pub path_seen : HirPath → Seen
path_seen p = record { named = not (no_names (mod_path p).segments); supers = supers (mod_path p).kind }

abbrev pub option_seen : Option HirPath → Option Seen
option_seen p = option_map path_seen p

abbrev pub seen_with : ℕ → Bool → Seen
seen_with n b = record { named = b; supers = n }

pushed : (xs : List Name) (x : Name) → not (no_names (xs ++ x ∷ [])) ≡ true
pushed [] x = refl
pushed (y ∷ xs) x = refl

pub no_names_reverse : (xs : List Name) → no_names (reverse xs) ≡ no_names xs
no_names_reverse [] = refl
no_names_reverse (x ∷ xs) = ap no_names (reverse-append (x ∷ []) xs) ∙ by (reverse xs) x
  where
    by : (ys : List Name) (y : Name) → no_names (ys ++ y ∷ []) ≡ false
    by [] y = refl
    by (z ∷ ys) y = refl

-- a path of nothing counts nothing

own_supers : (w : PathWalk) → supers (own_kind w) ≡ supers w.kind
own_supers w = by (no_names w.names) w.kind (is_none w.type_anchor)
  where
    by : (b : Bool) (k : PathKind) (c : Bool) → supers (if b && is_plain k && c then kind.Super 0 else k) ≡ supers k
    by false k c = refl
    by true kind.Plain true = refl
    by true kind.Plain false = refl
    by true (kind.Super n) c = refl
    by true kind.Crate c = refl
    by true kind.Abs c = refl
    by true (kind.DollarCrate r) c = refl

seen_finished : (w : PathWalk) → path_seen (finished w) ≡ walk_seen w
seen_finished w = by (is_none w.type_anchor && not w.found_args)
  where
    own : record { named = not (no_names (reverse w.names)); supers = supers (own_kind w) } ≡ walk_seen w
    own = λ i. record { named = not (no_names_reverse w.names i); supers = own_supers w i }

    by : (b : Bool) → path_seen (if b then BarePath (own_path w) else Normal (normal_path w)) ≡ walk_seen w
    by true = own
    by false = own

pub seen_read : (r : Reading) → option_seen (walks.path_read r) ≡ found (seen_of r)
seen_read Refused = refl
seen_read (Ended w) = ap Some (seen_finished w)
seen_read (Open w) = ap Some (seen_finished w)

-- what one segment adds

pub seen_named : (n : Name) (a : Option GenericArgs) (w : PathWalk) → goes_on (walk_seen (add_name n a w)) ≡ reading.named (walk_seen w)
seen_named n a w = ap (λ x. goes_on (seen_with (supers w.kind) x)) (pushed w.names n)

pub seen_dollar : (root : Option CrateId) (w : PathWalk) → seen_of (walks.ended (walks.crate_kind root) w) ≡ ended (anew (walk_seen w))
seen_dollar None w = refl
seen_dollar (Some c) w = refl

pub seen_self : (w : PathWalk) → seen_of (walks.self_read w) ≡ self_read (walk_seen w)
seen_self w = by (no_names w.names)
  where
    by : (b : Bool) → seen_of (if b then Open w else walks.ended (walks.self_kind w.kind) w)
        ≡ (if not b then ended (walk_seen w) else goes_on (walk_seen w))
    by true = refl
    by false = refl

-- steps of a reading

abbrev pub Gives : Read → Reading → Type 0
Gives read r = seen_of r ≡ read

abbrev pub GivesPath : Option Seen → Option HirPath → Type 0
GivesPath x p = option_seen p ≡ x

-- arguments

-- there is an argument or a binding
abbrev pub full : ArgLists → Bool
full l = not (is_none_of l.args && is_none_of l.bindings)

abbrev pub Yields : Bool → Option GenericArgs → Type 0
Yields b a = is_some a ≡ b

abbrev pub Fills : Bool → ArgLists → Type 0
Fills b l = full l ≡ b

some_pushed : {A : Type 0} (xs : List A) (x : A) → is_none_of (xs ++ x ∷ []) ≡ false
some_pushed [] x = refl
some_pushed (y ∷ xs) x = refl

pub full_arg : (l : ArgLists) (a : GenericArg) → full (add_arg l a) ≡ true
full_arg l a = ap (λ b. not (b && is_none_of l.bindings)) (some_pushed l.args a)

pub full_binding : (l : ArgLists) (x : AssociatedTypeBinding) → full (add_binding l x) ≡ true
full_binding l x = ap (λ b. not (is_none_of l.args && b)) (some_pushed l.bindings x) ∙ by (is_none_of l.args)
  where
    by : (b : Bool) → not (b && false) ≡ true
    by true = refl
    by false = refl

pub yields_full : (l : ArgLists) → is_some (yielded l) ≡ full l
yields_full l = by (is_none_of l.args && is_none_of l.bindings)
  where
    by : (b : Bool) → is_some (if b then None else Some (of_args l.args false l.bindings parens.No)) ≡ not b
    by true = refl
    by false = refl

pub or_nothing : (b : Bool) → b ≡ (b || false)
or_nothing true = refl
or_nothing false = refl
