-- Kinds of paths, items and names in the order of reading and in that of the path: one word for each, and their lists.
use Rattle.std.proofs.Common.{◌≡◌, ◌∙◌, refl, sym, ap, subst, List, [], ◌∷◌, ◌++◌, Option, Some, None, Bool, true, false}
use Rattle.std.specs.Prelude.{reverse, map, ◌||◌, if◌then◌else◌}
use Rattle.std.proofs.lemmas.List.{reverse-append, map-append}
use Rattle.hir_store.specs.declared.ids.CrateId.{CrateId}
use Rattle.hir_store.specs.declared.name.Name.{Name}
use Rattle.hir_store.specs.declared.path.PathKind.{PathKind}
use Rattle.hir_store.specs.declared.path.PathKind.TheVariants as kind
use Rattle.hir_lower_builder.specs.Walks as walks
use Rattle.spec_data.specs.Data.{OptionArgsData}
use Rattle.spec_data.specs.Rule as rule
use Rattle.spec_data.specs.Rule.{Named, Item, empty_list, plain_kind, supers, ends, ended, read}
use Rattle.spec_data.specs.Written as written

abbrev holds : Bool → Type 0
holds true = Unit {0}
holds false = ⊥

pub clash : true ≡ false → ⊥
clash h = subst holds h tt

-- one word for each

pub same_supers : (k : PathKind) → walks.supers k ≡ supers k
same_supers kind.Plain = refl
same_supers (kind.Super n) = refl
same_supers kind.Crate = refl
same_supers kind.Abs = refl
same_supers (kind.DollarCrate c) = refl

pub same_plain : (k : PathKind) → walks.is_plain k ≡ plain_kind k
same_plain kind.Plain = refl
same_plain (kind.Super n) = refl
same_plain kind.Crate = refl
same_plain kind.Abs = refl
same_plain (kind.DollarCrate c) = refl

pub same_crate : (c : Option CrateId) → walks.crate_kind c ≡ written.crate_kind c
same_crate None = refl
same_crate (Some c) = refl

-- lists

abbrev pub name_at : Named → Name
name_at n = n.name

abbrev pub args_at : Named → OptionArgsData
args_at n = n.args

pub map_reverse : {A B : Type 0} (f : A → B) (xs : List A) → map f (reverse xs) ≡ reverse (map f xs)
map_reverse f [] = refl
map_reverse f (x ∷ xs) =
    ap (map f) (reverse-append (x ∷ []) xs)
    ∙ (map-append f (reverse xs) (x ∷ [])
    ∙ (ap (λ l. l ++ f x ∷ []) (map_reverse f xs)
    ∙ sym (reverse-append (f x ∷ []) (map f xs))))

no_names_snoc : (xs : List Name) (x : Name) → walks.no_names (xs ++ x ∷ []) ≡ false
no_names_snoc [] x = refl
no_names_snoc (y ∷ xs) x = refl

-- as many in the order of reading
pub empty_names : (ns : List Named) → walks.no_names (map name_at (reverse ns)) ≡ empty_list ns
empty_names [] = refl
empty_names (n ∷ ns) =
    ap (λ xs. walks.no_names (map name_at xs)) (reverse-append (n ∷ []) ns)
    ∙ (ap walks.no_names (map-append name_at (reverse ns) (n ∷ [])) ∙ no_names_snoc (map name_at (reverse ns)) n.name)

pub empty_mapped : (ns : List Named) → walks.no_names (map name_at ns) ≡ empty_list ns
empty_mapped [] = refl
empty_mapped (n ∷ ns) = refl

pub or_true : (a b : Bool) → b ≡ true → (a || b) ≡ true
or_true false b h = h
or_true true b h = refl

pub or_swap : (a b c d : Bool) → a ≡ c → b ≡ d → (a || b) ≡ (d || c)
or_swap false false c d e f = rw (← e) (rw (← f) refl)
or_swap false true c d e f = rw (← e) (rw (← f) refl)
or_swap true false c d e f = rw (← e) (rw (← f) refl)
or_swap true true c d e f = rw (← e) (rw (← f) refl)

pub read_whole : (is : List Item) → ended is ≡ false → read is ≡ is
read_whole [] h = refl
read_whole (i ∷ is) h = by (ends i.what (rule.names is)) h
  where
    by : (e : Bool) → (e || ended is) ≡ false → (if ended is then read is else i ∷ is) ≡ i ∷ is
    by false h = rw h refl
    by true h = absurd (clash h)
