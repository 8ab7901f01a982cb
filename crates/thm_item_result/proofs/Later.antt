-- What reads back as the same whatever is stored further is stored by now.
use Rattle.std.proofs.Common.{◌≡◌, ◌∙◌, refl, sym, ap, subst, arith, true≢false, ⊎_elim, ℕ, zero, suc, ◌+◌, ◌-◌, ◌≤◌, length}
use Rattle.std.proofs.Common.{length-append, Bool, true, false, List, [], ◌∷◌, ◌++◌, map, slice_get, Option, Some, None}
use Rattle.std.proofs.lemmas.Option.{slice_get_cases, slice_get_past, slice_get_within}
use Rattle.hir_store.specs.Arenas.{with_made}
use Rattle.hir_store.specs.Past.{Past, Within, join, nothing, past_bound, past_each, past_lifetime_id, past_present, past_type_id}
use Rattle.hir_store.specs.Past.{past_use_arg}
use Rattle.hir_store.specs.Stored.{SourceMap, Store, Stored, map_of, store_of}
use Rattle.hir_store.specs.StoreSink.{Extends}
use Rattle.hir_store.specs.declared.ids.LifetimeRefId.{LifetimeRefId}
use Rattle.hir_store.specs.declared.ids.TypeRefId.{TypeRefId}
use Rattle.hir_store.specs.declared.name.Name.TheVariants as name
use Rattle.hir_store.specs.declared.type_ref.LifetimeRef.{LifetimeRef}
use Rattle.hir_store.specs.declared.type_ref.LifetimeRef.TheVariants as lifetime
use Rattle.hir_store.specs.declared.type_ref.TypeBound.{TypeBound}
use Rattle.hir_store.specs.declared.type_ref.TypeBound.TheVariants as bound
use Rattle.hir_store.specs.declared.type_ref.TypeRef.{TypeRef}
use Rattle.hir_store.specs.declared.type_ref.TypeRef.TheVariants as ty
use Rattle.hir_store.specs.declared.type_ref.UseArgRef.{UseArgRef}
use Rattle.hir_store.specs.declared.type_ref.UseArgRef.TheVariants as use_arg
use Rattle.hir_store.proofs.Arenas.{continues_made}
use Rattle.hir_store.proofs.Extending.{extends_trans}
use Rattle.thm_logic.proofs.Extended.{types_go_on, lifetimes_go_on}
use Rattle.spec_data.specs.Data as datum
use Rattle.spec_data.specs.Data.{BoundData, LifetimeData, OptionTypeData, TypeData, UseData, typed}
use Rattle.spec_data.specs.Reading.{Readers, bound_layer, entries, lifetime_found, readers, shape_found, stored_lifetime}
use Rattle.spec_data.specs.Reading.{stored_option_type}
use Rattle.spec_data.specs.Reading.{stored_type, type_source, use_layer}

-- in each store that goes on with this one it is as it is here
abbrev pub Lasts : {A : Type 0} → (Stored → A) → Stored → Type 0
Lasts f s = (later : Stored) → Extends s later → f later ≡ f s

-- so it is from each later one on
lasts_on : {A : Type 0} (f : Stored → A) (s t : Stored) → Extends s t → Lasts f s → Lasts f t
lasts_on f s t e h = λ later x. h later (extends_trans e x) ∙ sym (h t e)

-- what is said of each later one
pub lasts_if : {A : Type 0} (f : Stored → A) (s : Stored) (a : A) → ((later : Stored) → Extends s later → f later ≡ a) → f s ≡ a
    → Lasts f s
lasts_if f s a h now = λ later x. h later x ∙ sym now

push_new : {A : Type 0} (xs : List A) (x : A) → slice_get (xs ++ x ∷ []) (length xs) ≡ Some x
push_new [] x = refl
push_new (y ∷ xs) x = push_new xs x

-- types

-- one type more, which comes from no node
abbrev with_never : Stored → Stored
with_never s = record s { types = with_made s.types ty.Never None }

never_extends : (s : Stored) → Extends s (with_never s)
never_extends s = types_go_on s _ (continues_made s.types ty.Never None)

abbrev is_never : TypeData → Bool
is_never (typed from datum.never_shape) = true
is_never (typed from shape) = false

abbrev read_type : TypeRefId → Stored → TypeData
read_type t s = stored_type (store_of s) (map_of s) t

none_less : 1 ≤ 0 → ⊥
none_less h = omega (arith, h)

module _ (store : Store) (source_map : SourceMap) (t : TypeRefId) where
  abbrev read_at : ℕ → Bool
  read_at d = is_never ((readers store source_map d).type t)

  unread : slice_get store.types t.0 ≡ None → (d : ℕ) → read_at d ≡ false
  unfolding readers
  unread e zero = refl
  unread e (suc d) =
      ap (λ o. is_never (typed (type_source store source_map t) (shape_found store source_map (readers store source_map d) o))) e

  read_never : slice_get store.types t.0 ≡ Some ty.Never → (d : ℕ) → 1 ≤ d → read_at d ≡ true
  unfolding readers
  read_never e zero le = absurd (none_less le)
  read_never e (suc d) le =
      ap (λ o. is_never (typed (type_source store source_map t) (shape_found store source_map (readers store source_map d) o))) e

  stored_unread : slice_get store.types t.0 ≡ None → is_never (stored_type store source_map t) ≡ false
  unfolding stored_type
  stored_unread e = unread e (entries store source_map)

  stored_never : slice_get store.types t.0 ≡ Some ty.Never → is_never (stored_type store source_map t) ≡ true
  unfolding stored_type
  stored_never e = read_never e (entries store source_map) (let n = slice_get_within store.types t.0 ty.Never e in omega (arith, n))

-- a number so far past the end
past_the_end : (k : ℕ) (s : Stored) (t : TypeRefId) → t.0 ≡ length s.types.entries + k → Lasts (read_type t) s → ⊥
past_the_end zero s t e h =
    let here : slice_get s.types.entries t.0 ≡ None = slice_get_past s.types.entries t.0 (omega (arith, e)) in
    let at_end : t.0 ≡ length s.types.entries = omega (arith, e) in
    let later : slice_get (s.types.entries ++ ty.Never ∷ []) t.0 ≡ Some ty.Never =
    subst (λ n. slice_get (s.types.entries ++ ty.Never ∷ []) n ≡ Some ty.Never) (sym at_end) (push_new s.types.entries ty.Never) in
    let z = with_never s in
    absurd (true≢false (sym (stored_never (store_of z) (map_of z) t later)
    ∙ (ap is_never (h z (never_extends s)) ∙ stored_unread (store_of s) (map_of s) t here)))
past_the_end (suc k) s t e h =
    let z = with_never s in
    let n = length-append s.types.entries (ty.Never ∷ []) in
    past_the_end k z t (omega (arith, e, n)) (lasts_on (read_type t) s z (never_extends s) h)

pub type_is_stored : (s : Stored) (t : TypeRefId) → Lasts (read_type t) s → suc t.0 ≤ length s.types.entries
type_is_stored s t h = ⊎_elim (λ x. let n = x.1 in omega (arith, n))
    (λ x. let n = x.0 in absurd (past_the_end (t.0 - length s.types.entries) s t (omega (arith, n)) h))
    (slice_get_cases s.types.entries t.0).1

-- lifetimes

abbrev with_static : Stored → Stored
with_static s = record s { lifetimes = with_made s.lifetimes lifetime.Static None }

static_extends : (s : Stored) → Extends s (with_static s)
static_extends s = lifetimes_go_on s _ (continues_made s.lifetimes lifetime.Static None)

abbrev is_static : LifetimeRef → Bool
is_static lifetime.Static = true
is_static l = false

abbrev read_lifetime : LifetimeRefId → Stored → LifetimeData
read_lifetime l s = stored_lifetime (store_of s) (map_of s) l

lifetime_past : (k : ℕ) (s : Stored) (l : LifetimeRefId) → l.0 ≡ length s.lifetimes.entries + k → Lasts (read_lifetime l) s → ⊥
lifetime_past zero s l e h =
    let found : Option LifetimeRef → Bool = λ o. is_static (lifetime_found (store_of s) (map_of s) o) in
    let here : slice_get s.lifetimes.entries l.0 ≡ None = slice_get_past s.lifetimes.entries l.0 (omega (arith, e)) in
    let at_end : l.0 ≡ length s.lifetimes.entries = omega (arith, e) in
    let more = s.lifetimes.entries ++ lifetime.Static ∷ [] in
    let later : slice_get more l.0 ≡ Some lifetime.Static =
    subst (λ n. slice_get more n ≡ Some lifetime.Static) (sym at_end) (push_new s.lifetimes.entries lifetime.Static) in
    let same : found (slice_get more l.0) ≡ found (slice_get s.lifetimes.entries l.0) =
    ap (λ (d : LifetimeData). is_static d.lifetime) (h (with_static s) (static_extends s)) in
    absurd (true≢false (sym (ap found later) ∙ (same ∙ ap found here)))
lifetime_past (suc k) s l e h =
    let z = with_static s in
    let n = length-append s.lifetimes.entries (lifetime.Static ∷ []) in
    lifetime_past k z l (omega (arith, e, n)) (lasts_on (read_lifetime l) s z (static_extends s) h)

pub lifetime_is_stored : (s : Stored) (l : LifetimeRefId) → Lasts (read_lifetime l) s → suc l.0 ≤ length s.lifetimes.entries
lifetime_is_stored s l h = ⊎_elim (λ x. let n = x.1 in omega (arith, n))
    (λ x. let n = x.0 in absurd (lifetime_past (l.0 - length s.lifetimes.entries) s l (omega (arith, n)) h))
    (slice_get_cases s.lifetimes.entries l.0).1

-- what is named in larger parts

pub within_nothing : (store : Store) → Within store nothing
within_nothing store = (omega (arith), omega (arith), omega (arith), omega (arith))

pub within_join : (store : Store) (p q : Past) → Within store p → Within store q → Within store (join p q)
within_join store p q h k = (
  omega (arith, h.0, k.0),
  omega (arith, h.1, k.1),
  omega (arith, h.2, k.2),
  omega (arith, h.3, k.3),
)

pub within_type : (store : Store) (t : TypeRefId) → suc t.0 ≤ length store.types → Within store (past_type_id t)
within_type store t h = (omega (arith), h, omega (arith), omega (arith))

pub within_lifetime : (store : Store) (l : LifetimeRefId) → suc l.0 ≤ length store.lifetimes → Within store (past_lifetime_id l)
within_lifetime store l h = (omega (arith), omega (arith), h, omega (arith))

abbrev first_or : {A : Type 0} → A → List A → A
first_or a [] = a
first_or a (x ∷ xs) = x

abbrev behind_first : {A : Type 0} → List A → List A
behind_first [] = []
behind_first (x ∷ xs) = xs

-- of each part
pub each_within : {X Y : Type 0} (read : Stored → X → Y) (past : X → Past) (y : Y) (s : Stored)
    → ((x : X) → Lasts (λ z. read z x) s → Within (store_of s) (past x)) → (xs : List X) → Lasts (λ z. map (read z) xs) s
    → Within (store_of s) (past_each past xs)
each_within read past y s one [] h = within_nothing (store_of s)
each_within read past y s one (x ∷ xs) h = within_join (store_of s) (past x) (past_each past xs)
    (one x (λ later e. ap (first_or y) (h later e)))
    (each_within read past y s one xs (λ later e. ap behind_first (h later e)))

abbrev type_in : OptionTypeData → TypeData
type_in datum.no_type = typed None datum.error_shape
type_in (datum.some_type d) = d

pub option_type_within : (s : Stored) (o : Option TypeRefId) → Lasts (λ z. stored_option_type (store_of z) (map_of z) o) s
    → Within (store_of s) (past_present past_type_id o)
unfolding stored_option_type stored_type
option_type_within s None h = within_nothing (store_of s)
option_type_within s (Some t) h = within_type (store_of s) t (type_is_stored s t (λ later e. ap type_in (h later e)))

-- bounds

abbrev no_lifetime : LifetimeData
no_lifetime = record { lifetime = lifetime.Error; from = None }

abbrev used_lifetime : UseData → LifetimeData
used_lifetime (datum.name_used n) = no_lifetime
used_lifetime (datum.lifetime_used l) = l

use_within : (s : Stored) (u : UseArgRef) → Lasts (λ z. use_layer (store_of z) (map_of z) u) s → Within (store_of s) (past_use_arg u)
use_within s (use_arg.Name n) h = within_nothing (store_of s)
use_within s (use_arg.Lifetime l) h =
    within_lifetime (store_of s) l (lifetime_is_stored s l (λ later e. ap used_lifetime (h later e)))

abbrev bound_type : BoundData → TypeData
bound_type (datum.path_bound d m) = d
bound_type (datum.for_bound ns d) = d
bound_type b = typed None datum.error_shape

abbrev bound_lifetime : BoundData → LifetimeData
bound_lifetime (datum.lifetime_bound l) = l
bound_lifetime b = no_lifetime

abbrev bound_uses : BoundData → List UseData
bound_uses (datum.use_bound us) = us
bound_uses b = []

abbrev pub whole : Stored → Readers
whole s = readers (store_of s) (map_of s) (length s.types.entries + length s.pats.entries)

pub bound_within : (s : Stored) (b : TypeBound) → Lasts (λ z. bound_layer (store_of z) (map_of z) (whole z) b) s
    → Within (store_of s) (past_bound b)
unfolding stored_type
bound_within s (bound.Path t m) h = within_type (store_of s) t (type_is_stored s t (λ later e. ap bound_type (h later e)))
bound_within s (bound.ForLifetime ns t) h = within_type (store_of s) t (type_is_stored s t (λ later e. ap bound_type (h later e)))
bound_within s (bound.Lifetime l) h =
    within_lifetime (store_of s) l (lifetime_is_stored s l (λ later e. ap bound_lifetime (h later e)))
bound_within s (bound.Use us) h = each_within (λ z u. use_layer (store_of z) (map_of z) u) past_use_arg (datum.name_used name.Missing) s
    (use_within s) us (λ later e. ap bound_uses (h later e))
bound_within s bound.Error h = within_nothing (store_of s)

pub lifetime_within : (s : Stored) (l : LifetimeRefId) → Lasts (read_lifetime l) s → Within (store_of s) (past_lifetime_id l)
lifetime_within s l h = within_lifetime (store_of s) l (lifetime_is_stored s l h)

pub stored_within : (s : Stored) (t : TypeRefId) (x : TypeRef) → slice_get s.types.entries t.0 ≡ Some x
    → Within (store_of s) (past_type_id t)
stored_within s t x h =
    within_type (store_of s) t (let n = slice_get_within s.types.entries t.0 x h in omega (arith, n))
