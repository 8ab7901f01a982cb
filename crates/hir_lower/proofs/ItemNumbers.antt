-- The numbers in what an item is answered with are those of entries.
use Rattle.std.proofs.Common.{◌≡◌, ◌∙◌, refl, sym, ap, subst, arith, true≢false, ⊎_elim, ℕ, zero, suc, ◌+◌, ◌-◌, length, length-append}
use Rattle.std.proofs.Common.{Bool, List, [], ◌∷◌, ◌++◌, slice_get, Option, Some, None, option_map}
use Rattle.std.proofs.lemmas.Option.{slice_get_cases, slice_get_past}
use Rattle.std.specs.Prelude.{is_some}
use Rattle.hir_store.specs.Arenas.{with_made}
use Rattle.hir_store.specs.Past.{Past, Within, past_bound, past_constant, past_each, past_lifetime_id, past_present, past_type_id}
use Rattle.hir_store.specs.Pointers.{Pointer, flat_option}
use Rattle.hir_store.specs.Range.{HasBounds, HasTypeOption, HasTypes}
use Rattle.hir_store.specs.Stored.{SourceMap, Store, Stored, map_of, store_of}
use Rattle.hir_store.specs.StoreSink.{Extends}
use Rattle.hir_store.specs.declared.generics.LifetimeParamData.{LifetimeParamData}
use Rattle.hir_store.specs.declared.generics.TypeOrConstParamData.{TypeOrConstParamData}
use Rattle.hir_store.specs.declared.generics.TypeOrConstParamData.TheVariants as param
use Rattle.hir_store.specs.declared.generics.WherePredicate.{WherePredicate}
use Rattle.hir_store.specs.declared.generics.WherePredicate.TheVariants as predicate
use Rattle.hir_store.specs.declared.hir.Expr.TheVariants as hir
use Rattle.hir_store.specs.declared.ids.LifetimeRefId.{LifetimeRefId}
use Rattle.hir_store.specs.declared.ids.TypeRefId.{TypeRefId}
use Rattle.hir_store.specs.declared.type_ref.ConstRef.{ConstRef}
use Rattle.hir_store.specs.declared.type_ref.TraitRef.{TraitRef}
use Rattle.hir_store.specs.declared.type_ref.TypeBound.{TypeBound}
use Rattle.hir_store.proofs.Arenas.{continues_made}
use Rattle.hir_store.proofs.Extending.{extends_refl, extends_trans}
use Rattle.hir_env.specs.NodeMap.{Site}
use Rattle.hir_env.specs.ResolveCtx.{site_of}
use Rattle.thm_logic.proofs.Extended.{exprs_go_on}
use Rattle.spec_data.specs.Data.{BoundData, LifetimeData, TypeData}
use Rattle.spec_data.specs.Reading.{bound_layer, stored_constant, stored_lifetime, stored_option_type, stored_type}
use Rattle.hir_lower_builder.specs.Builder.{Builder, new_builder}
use Rattle.hir_lower_builder.specs.declared.generics.GenericLists.{GenericLists}
use Rattle.hir_lower_item.specs.Has.{HasAlias, HasImpl, HasTraitOption}
use Rattle.hir_lower_item.specs.Kinds.{finished}
use Rattle.thm_item_generics.specs.Asked.{BoundIs, IsAsked, Stand, CorrespondsTo, TypeIs}
use Rattle.thm_item_generics.specs.AskedFold.{Asked, Asking, Asks, of_lifetime, of_type, parameter, written}
use Rattle.thm_item_generics.specs.Fold.{ItemTracking, Param, const_param, impl_param, type_param}
use Rattle.thm_item_generics.specs.Theorems.{Made}
use Rattle.thm_item_generics.specs.Tracked.{ParamIs, ParamsFrom}
use Rattle.thm_item_result.specs.Numbers.{past_alias, past_function, past_impl, past_param, past_params, past_predicate}
use Rattle.thm_item_result.proofs.Later.{Lasts, bound_within, lasts_if, lifetime_within, option_type_within, stored_within, type_is_stored}
use Rattle.thm_item_result.proofs.Later.{whole, within_join, within_nothing, within_type}

-- what the steps answer

first : {A B : Type 0} → A × B → A
first x = x.0

second : {A B : Type 0} → A × B → B
second x = x.1

-- what HasSignature says of a signature's parts
abbrev pub HasFunction : Stored → List TypeRefId × Option TypeRefId → Type 0
HasFunction s a = HasTypes s a.0 × HasTypeOption s a.1

trait_exists : (s : Stored) (t : Option TraitRef) → HasTraitOption s t → Within (store_of s) (past_present (λ t. past_type_id t.path) t)
trait_exists s None h = within_nothing (store_of s)
trait_exists s (Some t) h = within_type (store_of s) t.path h

pub impl_exists : (s : Stored) (a : TypeRefId × Option TraitRef) → HasImpl s a → Within (store_of s) (past_impl a.0 a.1)
impl_exists s a h = within_join (store_of s) (past_type_id a.0) (past_present (λ t. past_type_id t.path) a.1)
    (within_type (store_of s) a.0 (first h)) (trait_exists s a.1 (second h))

pub alias_exists : (s : Stored) (a : List TypeBound × Option TypeRefId) → HasAlias s a → Within (store_of s) (past_alias a.0 a.1)
alias_exists s a h = within_join (store_of s) _ (past_present past_type_id a.1)
    (first {A = HasBounds s a.0} {B = HasTypeOption s a.1} h) (second {A = HasBounds s a.0} {B = HasTypeOption s a.1} h)

pub function_exists : (s : Stored) (a : List TypeRefId × Option TypeRefId) → HasFunction s a
    → Within (store_of s) (past_function a.0 a.1)
function_exists s a h = within_join (store_of s) _ (past_present past_type_id a.1)
    (first {A = HasTypes s a.0} {B = HasTypeOption s a.1} h) (second {A = HasTypes s a.0} {B = HasTypeOption s a.1} h)

-- so it does in the store that is finished then
pub answer_exists : {A : Type 0} (Has : Stored → A → Type 0) (past : A → Past)
    → ((s : Stored) (a : A) → Has s a → Within (store_of s) (past a))
    → (s : Stored) (a : A) → Has s a → {stored : Stored} {store : Store} → stored ≡ s → store ≡ store_of stored → Within store (past a)
answer_exists Has past theorem s a h e f = subst (λ x. Within x (past a)) (sym (f ∙ ap store_of e)) (theorem s a h)

-- a constant that came from the same node whatever is stored further

abbrev read_constant : ConstRef → Stored → Option Site
read_constant c s = stored_constant (store_of s) (map_of s) c

-- one expression more, from this node
abbrev with_missing : Pointer → Stored → Stored
with_missing at s = record s { exprs = with_made s.exprs hir.Missing (Some at) }

missing_extends : (at : Pointer) (s : Stored) → Extends s (with_missing at s)
missing_extends at s = exprs_go_on s _ (continues_made s.exprs hir.Missing (Some at))

some_node : Pointer
some_node = record {
  file_id = record { 0 = 0 };
  value = record { node = record { 0 = 0 }; range = record { start = 0; end = 0 } };
}

push_new : {A : Type 0} (xs : List A) (x : A) → slice_get (xs ++ x ∷ []) (length xs) ≡ Some x
push_new [] x = refl
push_new (y ∷ xs) x = push_new xs x

constant_past : (k : ℕ) (s : Stored) (c : ConstRef) → c.expr.0 ≡ length s.exprs.sources + k → Lasts (read_constant c) s → ⊥
constant_past zero s c e h =
    let came : Option (Option Pointer) → Bool = λ o. is_some (option_map site_of (flat_option o)) in
    let here : slice_get s.exprs.sources c.expr.0 ≡ None = slice_get_past s.exprs.sources c.expr.0 (omega (arith, e)) in
    let at_end : c.expr.0 ≡ length s.exprs.sources = omega (arith, e) in
    let more = s.exprs.sources ++ Some some_node ∷ [] in
    let later : slice_get more c.expr.0 ≡ Some (Some some_node) =
    subst (λ n. slice_get more n ≡ Some (Some some_node)) (sym at_end) (push_new s.exprs.sources (Some some_node)) in
    let same : came (slice_get more c.expr.0) ≡ came (slice_get s.exprs.sources c.expr.0) =
    ap is_some (h (with_missing some_node s) (missing_extends some_node s)) in
    absurd (true≢false (sym (ap came later) ∙ (same ∙ ap came here)))
constant_past (suc k) s c e h =
    let z = with_missing some_node s in
    let n = length-append s.exprs.sources (Some some_node ∷ []) in
    let more : Extends s z = missing_extends some_node s in
    constant_past k z c (omega (arith, e, n)) (λ later x. h later (extends_trans more x) ∙ sym (h z more))

constant_is_stored : (s : Stored) (c : ConstRef) → length s.exprs.sources ≡ length s.exprs.entries → Lasts (read_constant c) s
    → Within (store_of s) (past_constant c)
constant_is_stored s c same h = (
  ⊎_elim (λ x. let n = x.1 in omega (arith, n, same))
      (λ x. let n = x.0 in absurd (constant_past (c.expr.0 - length s.exprs.sources) s c (omega (arith, n)) h))
      (slice_get_cases s.exprs.sources c.expr.0).1,
  omega (arith),
  omega (arith),
  omega (arith),
)

-- parameters

module _ (s : Stored) (same : length s.exprs.sources ≡ length s.exprs.entries) where
  -- in each later store
  abbrev Always : (Store → SourceMap → Type 0) → Type 0
  Always P = (later : Stored) → Extends s later → P (store_of later) (map_of later)

  here : Extends s s
  here = extends_refl s

  abbrev site_in : Option (Option Site) → Option Site
  site_in None = None
  site_in (Some c) = c

  constant_exists : (o : Option ConstRef) (c : Option (Option Site)) → Always (λ st m. option_map (stored_constant st m) o ≡ c)
      → Within (store_of s) (past_present past_constant o)
  constant_exists None c h = within_nothing (store_of s)
  constant_exists (Some r) c h = constant_is_stored s r same (λ later e. ap site_in (h later e ∙ sym (h s here)))

  type_exists : (t : TypeRefId) (d : TypeData) → Always (λ st m. stored_type st m t ≡ d) → Within (store_of s) (past_type_id t)
  type_exists t d h =
      within_type (store_of s) t (type_is_stored s t (lasts_if (λ z. stored_type (store_of z) (map_of z) t) s d h (h s here)))

  param_exists : (k : ℕ) (x : TypeOrConstParamData) (y : Param) → Always (λ st m. ParamIs st m k x y) → Within (store_of s) (past_param x)
  param_exists k (param.TypeParamData x) (type_param def n from t bs) h = option_type_within s x.default
      (lasts_if (λ z. stored_option_type (store_of z) (map_of z) x.default) s t (λ later e. (h later e).2) (h s here).2)
  param_exists k (param.TypeParamData x) (impl_param def at) h =
      subst (λ o. Within (store_of s) (past_present past_type_id o)) (sym (h s here).2) (within_nothing (store_of s))
  param_exists k (param.TypeParamData x) (const_param n t bs c cs) h = absurd (h s here)
  param_exists k (param.ConstParamData x) (const_param n t bs c cs) h = within_join (store_of s) (past_type_id x.ty)
      (past_present past_constant x.default) (type_exists x.ty t (λ later e. (h later e).1))
      (constant_exists x.default c (λ later e. (h later e).3))
  param_exists k (param.ConstParamData x) (type_param def n from t bs) h = absurd (h s here)
  param_exists k (param.ConstParamData x) (impl_param def at) h = absurd (h s here)

  all_exist : (k : ℕ) (xs : List TypeOrConstParamData) (ys : List Param) → Always (λ st m. ParamsFrom st m k xs ys)
      → Within (store_of s) (past_each past_param xs)
  all_exist k [] ys h = within_nothing (store_of s)
  all_exist k (x ∷ xs) [] h = absurd (h s here)
  all_exist k (x ∷ xs) (y ∷ ys) h = within_join (store_of s) (past_param x) (past_each past_param xs)
      (param_exists k x y (λ later e. (h later e).0)) (all_exist (suc k) xs ys (λ later e. (h later e).1))

  -- predicates

  asked_exists : (t : TypeRefId) (x : Asked) → Always (λ st m. TypeIs st m t x) → Within (store_of s) (past_type_id t)
  asked_exists t (parameter def k at) h = stored_within s t _ (h s here).0
  asked_exists t (written d bs) h = type_exists t d (λ later e. (h later e).0)

  bound_exists : (b : TypeBound) (d : BoundData) → Always (λ st m. BoundIs st m b d) → Within (store_of s) (past_bound b)
  bound_exists b d h = bound_within s b (lasts_if (λ z. bound_layer (store_of z) (map_of z) (whole z) b) s d h (h s here))

  lifetime_exists : (l : LifetimeRefId) (d : LifetimeData) → Always (λ st m. stored_lifetime st m l ≡ d)
      → Within (store_of s) (past_lifetime_id l)
  lifetime_exists l d h = lifetime_within s l (lasts_if (λ z. stored_lifetime (store_of z) (map_of z) l) s d h (h s here))

  predicate_exists : (p : WherePredicate) (a : Asking) → Always (λ st m. CorrespondsTo st m p a) → Within (store_of s) (past_predicate p)
  predicate_exists (predicate.TypeBound binder t b) (of_type names x d bs) h = within_join (store_of s) (past_type_id t) (past_bound b)
      (asked_exists t x (λ later e. (h later e).1)) (bound_exists b d (λ later e. (h later e).2))
  predicate_exists (predicate.TypeBound binder t b) (of_lifetime d e) h = absurd (h s here)
  predicate_exists (predicate.Lifetime l m) (of_lifetime d e) h = within_join (store_of s) (past_lifetime_id l) (past_lifetime_id m)
      (lifetime_exists l d (λ later x. (h later x).0)) (lifetime_exists m e (λ later x. (h later x).1))
  predicate_exists (predicate.Lifetime l m) (of_type names x d bs) h = absurd (h s here)

  all_asked_exist : (ps : List WherePredicate) (as' : List Asking) → Always (λ st m. Stand st m ps as')
      → Within (store_of s) (past_each past_predicate ps)
  all_asked_exist [] as' h = within_nothing (store_of s)
  all_asked_exist (p ∷ ps) [] h = absurd (h s here)
  all_asked_exist (p ∷ ps) (a ∷ as') h = within_join (store_of s) (past_predicate p) (past_each past_predicate ps)
      (predicate_exists p a (λ later e. (h later e).0)) (all_asked_exist ps as' (λ later e. (h later e).1))

-- the parameters that an item is answered with

pub params_exist : (n : ItemTracking) (lifetimes : List LifetimeParamData) (x : Asks) (limit : ℕ) (c : Builder) (g : GenericLists)
    → length c.stored.exprs.sources ≡ length c.stored.exprs.entries → Made n lifetimes c.stored (finished g)
    → IsAsked x (new_builder limit) c
    → g.where_predicates ≡ c.tracks.generics.where_predicates → Within (store_of c.stored) (past_params (finished g))
params_exist n lifetimes x limit c g same m a is = within_join (store_of c.stored) (past_each past_param g.type_or_consts)
    (past_each past_predicate g.where_predicates) (all_exist c.stored same 0 g.type_or_consts n.params m.params)
    (all_asked_exist c.stored same g.where_predicates (x 0).asks
    (λ later e. subst (λ ps. Stand (store_of later) (map_of later) ps (x 0).asks) (sym (is ∙ a.predicates)) (a.stand later e)))
