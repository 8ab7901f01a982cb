-- Of a body behind its parameters each expression is reached in one way, by itself or by a constant inside it or inside what its arguments
-- are handed to.
use Rattle.std.proofs.Common.{arith, subst, ◌≤◌, Bool, true, false, length, List, [], ◌∷◌, ◌++◌, Option, Some, None}
use Rattle.std.proofs.lemmas.List.{map-append}
use Rattle.hir_store.specs.Stored.{store_of}
use Rattle.hir_store.specs.declared.hir.CoroutineKind.{CoroutineKind}
use Rattle.hir_store.specs.declared.hir.CoroutineSource.TheVariants as source
use Rattle.hir_store.specs.declared.ids.BindingId.{BindingId}
use Rattle.hir_store.specs.declared.ids.PatId.{PatId}
use Rattle.hir_env.specs.ResolvedTree as tree
use Rattle.hir_env.specs.ResolvedTree.{Formal, Formals, OptionExpr, SelfFormal}
use Rattle.hir_lower_builder.specs.Forms.{push_some, some}
use Rattle.hir_lower_builder.specs.Lowering.{Lowering}
use Rattle.spec_semantics.specs.Inner.{all_of, by_itself}
use Rattle.thm_body_result.specs.Formals.{Given, Received, coroutine_body, each_formal, in_function, lower_body, lower_formal}
use Rattle.thm_body_result.specs.Formals.{lower_formals, lower_self, plain_body}
use Rattle.thm_semantics.specs.Reached.{Spread, of_each, reached_to}
use Rattle.thm_type_result.specs.Inside.{BodyInsideReachedOnce}
use Rattle.thm_type_result.specs.Unrun.{all_unruns, unrun_in, unrun_in_pats}
use Rattle.thm_type_result.proofs.Meaning.{held_deep}
use Rattle.thm_type_result.proofs.Asked.{Correct}
use Rattle.thm_type_result.proofs.Weighed.{View, Cost, view, free, beside, an_expr, a_pat, sum_append}
use Rattle.thm_type_result.proofs.Weighing.{Adds, adds_any, adds_beside, adds_from, adds_owning, adds_pure, adds_then}
use Rattle.thm_generics.proofs.Steps.{tracks_binding, tracks_report}
use Rattle.thm_type_result.proofs.InsideAtOnce.{adds_at_once, at_once_beside, at_once_from}
use Rattle.thm_type_result.proofs.InsidePats.{maybe_pat, missing_pat_adds, pats, pushed}
use Rattle.thm_type_result.proofs.InsidePreludes.{each_handed_adds, let_params_add, let_self_adds, made_coroutine_adds}
use Rattle.thm_type_result.proofs.Inside.{body_adds, inside_once, top_adds}

-- parameters

self_adds : (s : SelfFormal) → Correct (lower_self s) (Adds free (λ o. free))
self_adds tree.no_self = adds_pure None (λ v. omega arith)
self_adds (tree.disabled_self at by) = adds_then (adds_any (tracks_report _)) (λ u. adds_pure None (λ v. omega arith))
self_adds (tree.self_formal at u _) = adds_then (adds_any (tracks_binding _)) (λ i. adds_pure (Some i) (λ v. omega arith))

present_adds : {p : Lowering PatId} → Correct p (Adds free a_pat) → Correct (some p) (Adds free maybe_pat)
present_adds h = adds_then h (λ i. adds_pure (Some i) (λ v. omega arith))

formal_adds : (skipped : Bool) (f : Formal) → Correct (lower_formal skipped f) (Adds free maybe_pat)
formal_adds skipped (tree.disabled_formal at by) = adds_then (adds_any (tracks_report _)) (λ u. adds_pure None (λ v. omega arith))
formal_adds true (tree.formal p) = present_adds missing_pat_adds
formal_adds false (tree.formal p) = present_adds (top_adds p)

-- one more, where there is one
pushed_if : (done : List PatId) (o : Option PatId) (v : View) → pats (push_some done o) v ≤ beside (pats done) (maybe_pat o) v
pushed_if done None v = omega arith
pushed_if done (Some i) v = pushed done i v

each_formal_adds : (skipped : Bool) (done : List PatId) (fs : List Formal)
    → Correct (each_formal skipped done fs) (Adds (pats done) pats)
each_formal_adds skipped done [] = adds_pure done (λ v. omega arith)
each_formal_adds skipped done (f ∷ fs) = adds_then (adds_beside (pats done) (formal_adds skipped f))
    (λ o. adds_from (pushed_if done o) (each_formal_adds skipped (push_some done o) fs))

abbrev received : Received → Cost
received g = pats g.1

formals_add : (skipped : Bool) (f : Formals) → Correct (lower_formals skipped f) (Adds free received)
unfolding lower_formals
formals_add skipped f = adds_then (self_adds f.receiver) (λ s. adds_then (each_formal_adds skipped [] f.formals)
    (λ ps. adds_pure (s, ps) (λ v. omega arith)))

-- bodies

-- what the outside hands arguments to
abbrev given : Given → Cost
given g = received g.0

plain_adds : (skipped : Bool) (f : Formals) (e : OptionExpr)
    → Correct (plain_body skipped f e) (Adds free (λ r. beside (given r.0) (an_expr r.1)))
unfolding plain_body
plain_adds skipped f e = adds_then (formals_add skipped f) (λ g. adds_then (adds_beside (received g) (body_adds e))
    (λ i. adds_pure ((g, g), i) (λ v. omega arith)))

-- What was written stands in front of the body of the coroutine.
in_function_adds : (kind : CoroutineKind) (skipped : Bool) (self : Option BindingId) (fs : List Formal) (e : OptionExpr)
    → Correct (in_function kind skipped self fs e) (Adds free (λ x. an_expr x.1.1))
unfolding in_function
in_function_adds kind skipped self fs e = adds_then (each_formal_adds skipped [] fs)
    (λ ps. adds_then (adds_beside (pats ps) (body_adds e))
    (λ body. adds_then (adds_beside (beside (pats ps) (an_expr body)) (let_self_adds self))
    (λ begun. adds_then (adds_at_once (at_once_from (λ v. omega arith) (at_once_beside (an_expr body) (let_params_add begun.1 ps))))
    (λ l. adds_then (adds_from (λ v. omega arith) (made_coroutine_adds kind source.Fn l.lets body))
    (λ c. adds_pure ((begun.0, ps), (l.handed, c)) (λ v. omega arith))))))

coroutine_adds : (kind : CoroutineKind) (skipped : Bool) (f : Formals) (e : OptionExpr)
    → Correct (coroutine_body kind skipped f e) (Adds free (λ r. beside (given r.0) (an_expr r.1)))
unfolding coroutine_body
coroutine_adds kind skipped f e = adds_then (self_adds f.receiver)
    (λ self. adds_then (adds_owning (λ x. x.1.1) (in_function_adds kind skipped self f.formals e))
    (λ inside. adds_then (adds_beside (an_expr inside.1.1) (each_handed_adds [] inside.1.0))
    (λ ps. adds_pure (((self, ps), inside.0), inside.1.1) (λ v. omega arith))))

whole_adds : (kind : Option CoroutineKind) (skipped : Bool) (f : Formals) (e : OptionExpr)
    → Correct (lower_body kind skipped f e) (Adds free (λ r. beside (given r.0) (an_expr r.1)))
whole_adds None skipped f e = plain_adds skipped f e
whole_adds (Some kind) skipped f e = coroutine_adds kind skipped f e

pub body_inside : BodyInsideReachedOnce
unfolding unrun_in unrun_in_pats
body_inside kind skipped f e b b' g i paired is final stays depth le =
    let s = store_of final in
    let held = all_of (all_unruns s).pat g.0.1 in
    let root = by_itself i ∷ (all_unruns s).expr i in
    subst (λ xs. Spread (length b.stored.exprs.entries) (length b'.stored.exprs.entries) (of_each (reached_to s depth) xs))
    (map-append (λ x. x.expr) held root)
    (inside_once (whole_adds kind skipped f e) b b' (g, i) paired is final stays depth le (held ++ root) (λ k.
    let v = view final depth k depth (held_deep final) (length final.pats.entries) in
    let x = sum_append v.weight held root in omega arith))
