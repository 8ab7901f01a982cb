-- No two names that lowering makes up are the same, except for those that arguments are handed in by.
use Rattle.std.proofs.Common.{arith, ◌≡◌, ◌∙◌, ◌⊎◌, ◌≤◌, ◌+◌, ⊎_elim, inl, inr, refl, sym, ap, subst, ℕ, Bool, List, [], Option, None}
use Rattle.std.proofs.Common.{Result, Ok, Err, is_some, true≢false}
use Rattle.std.specs.Prelude.{IfOk}
use Rattle.std.proofs.Math.Logic.{∥∥₁_map}
use Rattle.hir_syntax.specs.declared.types.Type_.{Type_ as AstType_}
use Rattle.hir_store.specs.Pointers.{Pointer}
use Rattle.hir_store.specs.Stored.{SourceMap, Store, Stored, store_of}
use Rattle.hir_store.specs.StoreSink.{root_at}
use Rattle.hir_store.specs.declared.diagnostics.MissingBodyItemKind.{MissingBodyItemKind}
use Rattle.hir_store.specs.declared.hir.CoroutineKind.{CoroutineKind}
use Rattle.hir_store.specs.declared.ids.ExprId.{ExprId}
use Rattle.hir_store.specs.declared.ids.PatId.{PatId}
use Rattle.hir_store.specs.declared.ids.TypeRefId.{TypeRefId}
use Rattle.hir_store.proofs.Extending.{extends_root}
use Rattle.hir_store.proofs.Maps.{maps_back_none}
use Rattle.hir_env.specs.ResolvedTree.{Formals, OptionExpr}
use Rattle.hir_env.specs.ResolveCtx.{ResolveCtx}
use Rattle.hir_lower_builder.specs.Builder.{Builder}
use Rattle.hir_lower_builder.specs.Lower.{type_part}
use Rattle.hir_lower_builder.specs.Lowering.{Checked, Lowering}
use Rattle.thm_logic.specs.Keeps.{IsHanded, MadeApart, Mapped, times_bound, times_labelled}
use Rattle.thm_logic.proofs.Apart.{Once, times}
use Rattle.thm_logic.proofs.ApartTree.{type_apart}
use Rattle.thm_logic.proofs.Keeping.{apart_by}
use Rattle.thm_logic.proofs.Mapping.{leads_none}
use Rattle.thm_body_result.specs.Formals.{lower_body}
use Rattle.thm_body_result.specs.Theorems.{Defined}
use Rattle.thm_body_result.specs.OneResult.{fresh_owing}
use Rattle.thm_item_result.specs.Exceeding.{InLimits}
use Rattle.thm_item_result.proofs.AsLimits.{fresh_within}
use Rattle.hir_lower.specs.Formals.{Given}
use Rattle.hir_lower.specs.Means.{IsHandedTo, MadeOnce, kind_unless_skipped, owed_faults, unless_skipped, whole_type}
use Rattle.hir_lower.specs.Roots.{AnswersFromNothing, GivenFromNothing, StoresFromNothing, body_of, formals_of, new_builder}
use Rattle.hir_lower.specs.declared.body.Body.{Body}
use Rattle.hir_lower.proofs.Behind.{Steps, answered, inside_root, item_is, with_root, steps}
use Rattle.hir_lower.proofs.FunctionNames.{OfHanded, body_once}
use Rattle.hir_lower.proofs.Params.{given_is_of}

-- nothing is made up where nothing is stored

pub apart_from_nothing : (limit : ℕ) → MadeApart 0 (new_builder limit).stored
apart_from_nothing limit = record { once = λ k. inl (omega arith); later = λ k le. refl }

pub fresh_apart : (b : Builder) (limit : ℕ) → b ≡ new_builder limit → ∥ MadeApart b.names b.stored ∥₁
fresh_apart b limit h = rw h (∣ apart_from_nothing limit ∣₁)

-- where nothing is stored, no binding lacks a pattern, and no node leads anywhere
pub fresh_defined : (b : Builder) (limit : ℕ) → b ≡ new_builder limit → Defined b.stored
fresh_defined b limit h = rw h
    (record {
      as_many = refl;
      each = λ c ps e. absurd (true≢false (sym (ap is_some e)));
      known = λ n c sub e. absurd (true≢false (sym (ap is_some e)));
    })

pub fresh_mapped : (b : Builder) (limit : ℕ) → b ≡ new_builder limit → ∥ Mapped b.stored ∥₁
fresh_mapped b limit h = rw h (∣ record { types = leads_none limit; lifetimes = maps_back_none (λ i. i.0) limit } ∣₁)

-- and there is room
pub fresh_limits : (b : Builder) (limit : ℕ) → b ≡ new_builder limit → InLimits b
fresh_limits b limit h = rw h (fresh_within limit)

-- by what stays apart in all that is stored
pub once_if : (names : ℕ) (s : Stored) → MadeApart names s → MadeOnce (store_of s) []
once_if names s m = λ k. ⊎_elim (λ le. inl le) (λ x. inr (inl x)) (m.once k)

pub once_of : (names : ℕ) (s : Stored) (store : Store) → store ≡ store_of s → ∥ MadeApart names s ∥₁ → ∥ MadeOnce store [] ∥₁
once_of names s store is m = rw is (∥∥₁_map m (once_if names s))

once_in : (final : Stored) (formals : List PatId) (k : ℕ)
    → Once final k (times k final) ⊎ OfHanded final k formals (times k final)
    → (times_bound k final.bindings.entries + times_labelled k final.labels.entries ≤ 1)
    ⊎ (IsHanded k (store_of final) ⊎ IsHandedTo k (store_of final) formals)
once_in final formals k (inl (inl le)) = inl le
once_in final formals k (inl (inr x)) =
    inr (inl (record { number = x.number; formal = x.formal; two = record { bound = x.bound; labelled = x.labelled } }))
once_in final formals k (inr x) = inr (inr (record { formal = x.formal; two = record { bound = x.bound; labelled = x.labelled } }))

-- from nothing

module _ (kind : Option CoroutineKind) (skipped : Bool) (node : Pointer) (k : Option MissingBodyItemKind) (f : Formals) (e : OptionExpr)
    (limit : ℕ) where
  abbrev start : Builder
  start = fresh_owing limit (owed_faults skipped node k e)

  abbrev body : Lowering (Given × ExprId)
  body = lower_body (kind_unless_skipped skipped kind) skipped f (unless_skipped skipped e)

  made_once : (b' : Builder) (given : Given) (i : ExprId) → body_of kind skipped node k f e (new_builder limit) ≡ (Ok (given, i), b')
      → MadeOnce (store_of b'.stored) given.0.1
  made_once b' given i h =
      let t : Steps body start given i b' = steps body start b' given i (sym (item_is kind skipped node k f e limit) ∙ h) in
      let final = (with_root t.inner i).stored in
      let row = answered (body_once (kind_unless_skipped skipped kind) skipped f (unless_skipped skipped e)) (inside_root start) t.inner
      (given, i) (record { exprs = refl; labels = refl; pats = refl; types = refl; lifetimes = refl }) t.lowered final
      (extends_root t.inner.stored (root_at (store_of t.inner.stored) i)) in
      let P : Builder → Type 0 = λ x. MadeOnce (store_of x.stored) given.0.1 in
      subst P t.left (λ n. once_in final given.0.1 n
      (row.once (record { once = λ j. inl (omega arith); later = λ j le. refl }) n))

  made_once_of : (b : Body) (store : Store) (source_map : SourceMap)
      → StoresFromNothing (body_of kind skipped node k f e) limit store source_map
      → GivenFromNothing (body_of kind skipped node k f e) limit b → MadeOnce store (formals_of b).1
  made_once_of b store source_map s g =
      let now = g.builder.stored in
      let same : s.builder.stored ≡ now = ap (λ (q : Checked (Given × ExprId) × Builder). q.1.stored) (sym s.done ∙ g.done) in
      let is = given_is_of kind skipped node k f e limit b g in
      let P : Store → Type 0 = λ x. MadeOnce x (formals_of b).1 in
      let R : Given → Type 0 = λ x. MadeOnce (store_of now) x.0.1 in
      subst P (sym (s.store_is ∙ ap store_of same)) (subst R (sym is) (made_once g.builder g.given g.root g.done))

  pub made_once_if : {A E : Type 0} (b : A → Body) (store : A → Store) (source_map : A → SourceMap) (r : Result A E)
      → IfOk r (λ a. StoresFromNothing (body_of kind skipped node k f e) limit (store a) (source_map a))
      → IfOk r (λ a. GivenFromNothing (body_of kind skipped node k f e) limit (b a)) → IfOk r (λ a. MadeOnce (store a) (formals_of (b a)).1)
  made_once_if b store source_map (Ok a) s g = made_once_of (b a) (store a) (source_map a) s g
  made_once_if b store source_map (Err x) s g = tt

module _ (at : ResolveCtx) (x : Option AstType_) (limit : ℕ) where
  type_once : (i : TypeRefId) (store : Store) (source_map : SourceMap)
      → AnswersFromNothing (type_part None (whole_type at x)) limit i store source_map → MadeOnce store []
  type_once i store source_map s = rw s.store_is (once_if _ _ (apart_by (type_apart None (whole_type at x)) (new_builder limit) s.builder i
      (record { exprs = refl; labels = refl; pats = refl; types = refl; lifetimes = refl }) s.done (apart_from_nothing limit)))

  pub type_once_if : {A E : Type 0} (store : A → Store) (source_map : A → SourceMap) (id : A → TypeRefId) (r : Result A E)
      → IfOk r (λ a. AnswersFromNothing (type_part None (whole_type at x)) limit (id a) (store a) (source_map a))
      → IfOk r (λ a. MadeOnce (store a) [])
  type_once_if store source_map id (Ok a) s = type_once (id a) (store a) (source_map a) s
  type_once_if store source_map id (Err e) s = tt
