-- Each type and each pattern that is stored is named in one way.
use Rattle.std.proofs.Common.{◌∙◌, sym, suc, ◌<◌, slice_get, append_assoc, append-nil, length-append}
use Rattle.std.proofs.Common.{◌≡◌, ◌≤◌, ap, arith, refl, ℕ, ◌+◌, Bool, true, false, length, List, [], ◌∷◌, ◌++◌, Option, Some, None, Ok}
use Rattle.hir_store.specs.Stored.{Stored}
use Rattle.hir_store.specs.StoreSink.{Extends}
use Rattle.hir_store.specs.declared.hir.CoroutineKind.{CoroutineKind}
use Rattle.hir_store.specs.declared.hir.CoroutineSource.TheVariants as source
use Rattle.hir_store.specs.declared.hir.Expr.{Expr as HirExpr}
use Rattle.hir_store.specs.declared.ids.BindingId.{BindingId}
use Rattle.hir_store.specs.declared.ids.PatId.{PatId}
use Rattle.hir_store.specs.declared.ids.TypeRefId.{TypeRefId}
use Rattle.hir_store.specs.declared.pat.Pat.{Pat}
use Rattle.hir_store.specs.declared.type_ref.TypeRef.{TypeRef}
use Rattle.hir_env.specs.ResolvedTree as tree
use Rattle.hir_env.specs.ResolvedTree.{Formal, Formals, OptionExpr, SelfFormal}
use Rattle.hir_lower_builder.specs.Builder.{Builder}
use Rattle.hir_lower_builder.specs.Forms.{some}
use Rattle.hir_lower_builder.specs.Lowering.{Lowering}
use Rattle.thm_logic.specs.Keeps.{Paired}
use Rattle.thm_logic.proofs.Logic.{longer}
use Rattle.thm_body_result.specs.Formals.{Given, Received, coroutine_body, each_formal, in_function, lower_body, lower_formal}
use Rattle.thm_body_result.specs.Formals.{lower_formals, lower_self, plain_body}
use Rattle.hir_lower_scope.specs.Each.{Each}
use Rattle.thm_semantics.specs.Reached.{Between}
use Rattle.hir_store.proofs.Extending.{extends_refl}
use Rattle.thm_type_result.specs.Reached.{of_each, of_path, of_present, types_reached}
use Rattle.thm_type_result.specs.Named.{Look, of_types_alone, of_pats_alone, of_bindings_alone, of_expr, of_exprs, of_pat, of_pats}
use Rattle.thm_type_result.specs.Named.{TypesSpread, BodyTypesReachedOnce, ExprTypesReachedOnce, PathTypesReachedOnce, TypesReachedOnce}
use Rattle.thm_type_result.specs.Pats.{of_type, of_types, pats_reached, PatsSpread, ExprPatsReachedOnce, TypePatsReachedOnce}
use Rattle.thm_type_result.specs.Pats.{PathPatsReachedOnce, BodyPatsReachedOnce, BindingsCame, ExprBindingsCame, TypeBindingsCame}
use Rattle.thm_type_result.specs.Pats.{PathBindingsCame, BodyBindingsCame}
use Rattle.thm_type_result.proofs.Counted.{times, less, times_append, counted_spread}
use Rattle.thm_type_result.proofs.Numbers.{each_append}
use Rattle.thm_type_result.proofs.Adding.{Numbers, none, the_types, the_pats, both, no_pats_named}
use Rattle.thm_type_result.proofs.Asked.{Correct, Adds, Quiet, adds_pure, adds_then, adds_quiet, after_lowering}
use Rattle.thm_type_result.proofs.Ranges.{found_between}
use Rattle.thm_type_result.proofs.Naming.{adds_owning}
use Rattle.thm_type_result.proofs.Naming.{quiet_pure, quiet_then, quiet_report, quiet_binding, quiet_some}
use Rattle.thm_type_result.proofs.NamingAtOnce.{at_once, at_once_from, at_once_more, at_once_pure, at_once_still, at_once_then}
use Rattle.thm_type_result.proofs.NamingAtOnce.{quiet_at_once}
use Rattle.thm_type_result.proofs.NamingPreludes.{handed_add, let_params_name, let_self_names, made_coroutine_names, prelude}
use Rattle.thm_type_result.proofs.OwnedPats.{pats, maybe_pat, missing_named}
use Rattle.thm_type_result.proofs.TreeNamed.{part_adds, part_quiet, path_adds, some_then, top_adds}

-- types

-- types hold no pattern where types are counted
pub none_held : (f : TypeRefId → List ℕ) (ts : List TypeRef) (k : ℕ) → times k (of_types (of_types_alone f) ts) ≡ 0
none_held f [] k = refl
none_held f (t ∷ ts) k =
    let l = of_types_alone f in
    let x = times_append k (of_type l t) (of_types l ts) in
    let y = no_pats_named f t k in
    let z = none_held f ts k in omega arith

-- where these are reached from what is answered
module _ {A : Type 0} {now : A → Numbers} {p : Lowering A} (here : A → (TypeRefId → List ℕ) → List ℕ) (h : Correct p (Adds none now))
    (less_than : (a : A) (f : TypeRefId → List ℕ) (k : ℕ) → times k (here a f) ≤ times k (now a (of_types_alone f))) (b b' : Builder)
    (a : A) (paired : Paired b.stored) (is : p b ≡ (Ok a, b')) (final : Stored) (stays : Extends b'.stored final) where
  pub types_came : TypesSpread b.stored b'.stored final (here a)
  types_came depth le more new more_pats new_pats =
      let r = after_lowering h b a b' paired is final stays in
      let n = longer stays.types.entries in
      let f = types_reached final.types.entries depth in
      let l = of_types_alone f in
      let x = r.earlier the_types depth depth (omega (arith, n, le)) (omega (arith, n, le)) in
      counted_spread _ _ _ (λ k.
      let c = x.counted k in
      let q = r.asks l k in
      let e = each_append (of_expr l) b.stored.exprs.entries more k in
      let s = ap (λ xs. times k (of_exprs l xs)) new in
      let e' = each_append (of_pat l) b.stored.pats.entries more_pats k in
      let s' = ap (λ xs. times k (of_pats l xs)) new_pats in
      let z = none_held f b.stored.types.entries k in
      let z' = none_held f b'.stored.types.entries k in
      let u = less_than a f k in
      let v = times_append k (here a f) (of_exprs l more ++ of_pats l more_pats) in
      let w = times_append k (of_exprs l more) (of_pats l more_pats) in omega arith)

pub types_once : TypesReachedOnce
types_once binder t b b' i paired is final stays =
    types_came (λ i f. f i) (part_adds binder t) (λ i f k. omega arith) b b' i paired is final stays

pub path_types_once : PathTypesReachedOnce
path_types_once p b b' r paired is final stays =
    types_came (λ r f. of_present (of_path f) r) (path_adds p) (λ r f k. omega arith) b b' r paired is final stays

pub expr_types_once : ExprTypesReachedOnce
expr_types_once e b b' i paired is final stays =
    types_came (λ i f. []) (part_quiet e) (λ i f k. omega arith) b b' i paired is final stays

-- patterns

-- where these patterns are named by what is answered

abbrev came : List PatId → Look → List HirExpr → List TypeRef → List ℕ
came ps l es ts = of_each l.pats ps ++ (of_exprs l es ++ of_types l ts)

module _ {A : Type 0} {now : A → Numbers} {p : Lowering A} (ps : A → List PatId) (h : Correct p (Adds none now))
    (less_than : (a : A) (l : Look) (k : ℕ) → times k (pats (ps a) l) ≤ times k (now a l)) (b b' : Builder) (a : A)
    (paired : Paired b.stored) (is : p b ≡ (Ok a, b')) (final : Stored) (stays : Extends b'.stored final) where
  pub pats_counted : (depth : ℕ) → length final.pats.entries ≤ depth → (es : List HirExpr)
      → b'.stored.exprs.entries ≡ b.stored.exprs.entries ++ es → (ts : List TypeRef)
      → b'.stored.types.entries ≡ b.stored.types.entries ++ ts → (k : ℕ)
      → times k (came (ps a) (of_pats_alone (pats_reached final.pats.entries depth)) es ts) + less k (length b.stored.pats.entries)
      ≤ less k (length b'.stored.pats.entries)
  pats_counted depth le es new ts new_types k =
      let r = after_lowering h b a b' paired is final stays in
      let n = longer stays.pats.entries in
      let l = of_pats_alone (pats_reached final.pats.entries depth) in
      let x = r.earlier the_pats depth depth (omega (arith, n, le)) (omega (arith, n, le)) in
      let c = x.counted k in
      let q = r.asks l k in
      let u = less_than a l k in
      let e = each_append (of_expr l) b.stored.exprs.entries es k in
      let s = ap (λ xs. times k (of_exprs l xs)) new in
      let e' = each_append (of_type l) b.stored.types.entries ts k in
      let s' = ap (λ xs. times k (of_types l xs)) new_types in
      let v = times_append k (of_exprs l es) (of_types l ts) in
      let w = times_append k (of_each l.pats (ps a)) (of_exprs l es ++ of_types l ts) in omega arith

  pub pats_once : PatsSpread b.stored b'.stored final (ps a)
  pats_once depth le es new ts new_types = counted_spread _ _ _ (pats_counted depth le es new ts new_types)

pub expr_pats_once : ExprPatsReachedOnce
expr_pats_once e b b' i paired is final stays = pats_once (λ i. []) (part_quiet e) (λ i l k. omega arith) b b' i paired is final stays

pub type_pats_once : TypePatsReachedOnce
type_pats_once binder t b b' i paired is final stays =
    pats_once (λ i. []) (part_adds binder t) (λ i l k. omega arith) b b' i paired is final stays

pub path_pats_once : PathPatsReachedOnce
path_pats_once p b b' r paired is final stays = pats_once (λ r. []) (path_adds p) (λ r l k. omega arith) b b' r paired is final stays

-- a body behind its parameters

self_quiet : (s : SelfFormal) → Correct (lower_self s) Quiet
self_quiet tree.no_self = quiet_pure None
self_quiet (tree.disabled_self at by) = quiet_then (quiet_report _) (λ u. quiet_pure None)
self_quiet (tree.self_formal at u _) = quiet_some (quiet_binding _)

present_adds : {p : Lowering PatId} → Correct p (Adds none (λ i l. l.pats i)) → Correct (some p) (Adds none maybe_pat)
present_adds h = adds_then h (λ i. adds_pure (Some i) (λ l k. omega arith))

formal_adds : (skipped : Bool) (f : Formal) → Correct (lower_formal skipped f) (Adds none maybe_pat)
formal_adds true (tree.disabled_formal at by) = adds_then (quiet_report _) (λ u. adds_pure None (λ l k. omega arith))
formal_adds false (tree.disabled_formal at by) = adds_then (quiet_report _) (λ u. adds_pure None (λ l k. omega arith))
formal_adds true (tree.formal p) = present_adds missing_named
formal_adds false (tree.formal p) = present_adds (top_adds p)

each_formal_adds : (skipped : Bool) (done : List PatId) (fs : List Formal) → Correct (each_formal skipped done fs) (Adds (pats done) pats)
each_formal_adds skipped done [] = adds_pure done (λ l k. omega arith)
each_formal_adds skipped done (f ∷ fs) = some_then (λ l. l.pats) (formal_adds skipped f) (λ is. each_formal_adds skipped is fs) done

abbrev received : Received → Numbers
received g = pats g.1

formals_add : (skipped : Bool) (f : Formals) → Correct (lower_formals skipped f) (Adds none received)
unfolding lower_formals
formals_add skipped f = adds_then (self_quiet f.receiver) (λ s. adds_then (each_formal_adds skipped [] f.formals)
    (λ ps. adds_pure (s, ps) (λ l k. omega arith)))

-- what the outside hands arguments to
abbrev pub given : Given → Numbers
given g = received g.0

plain_adds : (skipped : Bool) (f : Formals) (e : OptionExpr) → Correct (plain_body skipped f e) (Adds none (λ r. given r.0))
unfolding plain_body
plain_adds skipped f e = adds_then (formals_add skipped f) (λ g. adds_then (adds_quiet (part_quiet e))
    (λ root. adds_pure ((g, g), root) (λ l k. omega arith)))

-- What was written is named in front of the body of the coroutine.
in_function_quiet : (kind : CoroutineKind) (skipped : Bool) (self : Option BindingId) (fs : List Formal) (e : OptionExpr)
    → Correct (in_function kind skipped self fs e) Quiet
unfolding in_function
in_function_quiet kind skipped self fs e = quiet_at_once (at_once_then (at_once (each_formal_adds skipped [] fs))
    (λ ps. at_once_then (at_once_still (part_quiet e)) (λ body. at_once_then (at_once_more (pats ps) (let_self_names self))
    (λ begun. at_once_then (at_once_from (λ l k.
    let x = times_append k (prelude begun.1 l) (pats ps l) in
    let y = times_append k (pats ps l) (prelude begun.1 l) in omega arith)
    (let_params_name begun.1 ps))
    (λ d. at_once_then (made_coroutine_names kind source.Fn d.lets body)
    (λ c. at_once_pure ((begun.0, ps), (d.handed, c)) (λ l k. omega arith)))))))

coroutine_adds : (kind : CoroutineKind) (skipped : Bool) (f : Formals) (e : OptionExpr)
    → Correct (coroutine_body kind skipped f e) (Adds none (λ r. given r.0))
unfolding coroutine_body
coroutine_adds kind skipped f e = adds_then (self_quiet f.receiver)
    (λ self. adds_then (adds_owning (λ x. x.1.1) (in_function_quiet kind skipped self f.formals e))
    (λ inside. adds_then (handed_add [] inside.1.0) (λ ps. adds_pure (((self, ps), inside.0), inside.1.1) (λ l k. omega arith))))

pub body_adds : (kind : Option CoroutineKind) (skipped : Bool) (f : Formals) (e : OptionExpr)
    → Correct (lower_body kind skipped f e) (Adds none (λ r. given r.0))
body_adds None skipped f e = plain_adds skipped f e
body_adds (Some kind) skipped f e = coroutine_adds kind skipped f e

pub body_types_once : BodyTypesReachedOnce
body_types_once kind skipped f e b b' g i paired is final stays =
    types_came (λ r f. []) (body_adds kind skipped f e) (λ r f k. omega arith) b b' (g, i) paired is final stays

pub body_pats_once : BodyPatsReachedOnce
body_pats_once kind skipped f e b b' g i paired is final stays =
    pats_once (λ r. r.0.0.1) (body_adds kind skipped f e) (λ r l k. omega arith) b b' (g, i) paired is final stays

-- bindings

-- what is so of each that came
each_came : (lo hi : ℕ) (final old : List Pat) (ps more : List Pat) (n : ℕ) → final ≡ (old ++ ps) ++ more → n ≡ length old
    → ((k : ℕ) (p : Pat) → n ≤ k → k < n + length ps → slice_get final k ≡ Some p → Each (Between lo hi) (of_pat of_bindings_alone p))
    → Each (Between lo hi) (of_pats of_bindings_alone ps)
each_came lo hi final old [] more n is at h = tt
each_came lo hi final old (p ∷ ps) more n is at h =
    both (Between lo hi) (of_pat of_bindings_alone p) (of_pats of_bindings_alone ps)
    (h n p (omega arith) (omega arith) (ap (λ xs. slice_get xs n) is ∙ found_between old (p ∷ ps) more n 0 p (omega (arith, at)) refl))
    (each_came lo hi final (old ++ p ∷ []) ps more (suc n) (is ∙ ap (λ xs. xs ++ more) (sym (append_assoc old (p ∷ []) ps)))
    (let l = length-append old (p ∷ []) in omega (arith, at, l)) (λ k q from to. h k q (omega (arith, from)) (omega (arith, to))))

module _ {A : Type 0} {now : A → Numbers} {p : Lowering A} (h : Correct p (Adds none now)) (b b' : Builder) (a : A)
    (paired : Paired b.stored) (is : p b ≡ (Ok a, b')) where
  pub bindings_came : BindingsCame b.stored b'.stored
  bindings_came ps new =
      let r = after_lowering h b a b' paired is b'.stored (extends_refl b'.stored) in
      let x = r.bound (length b.stored.bindings.entries) (omega arith) tt tt in
      let l = ap length new in
      let l' = length-append b.stored.pats.entries ps in
      each_came (length b.stored.bindings.entries) (length b'.stored.bindings.entries) b'.stored.pats.entries b.stored.pats.entries ps []
      (length b.stored.pats.entries) (new ∙ sym (append-nil (b.stored.pats.entries ++ ps))) refl
      (λ k q from to found. x.made k q from (omega (arith, to, l, l')) found)

pub expr_bindings_came : ExprBindingsCame
expr_bindings_came e b b' i paired is = bindings_came (part_quiet e) b b' i paired is

pub type_bindings_came : TypeBindingsCame
type_bindings_came binder t b b' i paired is = bindings_came (part_adds binder t) b b' i paired is

pub path_bindings_came : PathBindingsCame
path_bindings_came p b b' r paired is = bindings_came (path_adds p) b b' r paired is

pub body_bindings_came : BodyBindingsCame
body_bindings_came kind skipped f e b b' g i paired is = bindings_came (body_adds kind skipped f e) b b' (g, i) paired is
