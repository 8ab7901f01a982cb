-- What stands in front of the body of a coroutine holds what the patterns of its parameters do, and reads names, each once.
use Rattle.std.proofs.Common.{◌+◌, ◌≤◌, Bool, true, false, List, [], ◌∷◌, ◌++◌, Option, Some, None, arith}
use Rattle.hir_store.specs.declared.hir.CoroutineKind.{CoroutineKind}
use Rattle.hir_store.specs.declared.hir.CoroutineSource.{CoroutineSource}
use Rattle.hir_store.specs.declared.hir.Statement.{Statement}
use Rattle.hir_store.specs.declared.ids.BindingId.{BindingId}
use Rattle.hir_store.specs.declared.ids.ExprId.{ExprId}
use Rattle.hir_store.specs.declared.ids.HygieneId.{HygieneId}
use Rattle.hir_store.specs.declared.ids.PatId.{PatId}
use Rattle.hir_store.specs.declared.name.Name.{Name}
use Rattle.hir_store.specs.declared.name.Name.TheVariants.{Generated}
use Rattle.hir_store.specs.declared.pat.Binding.{Binding}
use Rattle.hir_store.specs.declared.pat.Pat.TheVariants as pat
use Rattle.hir_lower_builder.specs.declared.preludes.Handed.{Handed}
use Rattle.hir_lower_builder.specs.declared.preludes.OwnName.{OwnName}
use Rattle.hir_lower_builder.specs.declared.preludes.Prelude.{Prelude}
use Rattle.hir_lower_builder.specs.Forms.{root_hygiene}
use Rattle.hir_lower_builder.specs.Lowering.{Lowering}
use Rattle.hir_lower_builder.specs.Preludes as forms
use Rattle.hir_lower_builder.specs.Preludes.{add_handed, bound_anew, coroutine_of, handed_as, handed_binding, let_from, no_prelude}
use Rattle.spec_semantics.specs.Inner.{all_of}
use Rattle.thm_type_result.proofs.InsideAtOnce.{AtOnce, at_once_any, at_once_beside, at_once_from, at_once_more, at_once_pure}
use Rattle.thm_type_result.proofs.InsideAtOnce.{at_once_then}
use Rattle.thm_type_result.proofs.InsideForms.{a_statement, block_less, contents, each, each_append}
use Rattle.thm_type_result.proofs.InsidePats.{let_less, pats, pushed}
use Rattle.thm_type_result.proofs.Asked.{Correct}
use Rattle.thm_type_result.proofs.Weighed.{Cost, View, a_limit, a_pat, an_expr, beside, free, in_expr, sum_append}
use Rattle.thm_type_result.proofs.Weighing.{body_aside, Adds, adds_any, adds_aside, adds_beside, adds_expr, adds_from, adds_pat}
use Rattle.thm_type_result.proofs.Weighing.{adds_pat_beside}
use Rattle.thm_type_result.proofs.Weighing.{adds_pure, adds_then}
use Rattle.thm_generics.proofs.Steps.{tracks_binding, tracks_define, tracks_made_number}
use Rattle.thm_generics.proofs.Preludes.{tracks_bound, tracks_own_name}

-- names that are handed in

name_adds : (n : Name) (h : HygieneId) → Correct (forms.name_form n h) (Adds free an_expr)
unfolding forms.name_form
name_adds n h = adds_expr _ None (λ v. omega arith)

handed_adds : (x : Handed) → Correct (forms.handed_form x) (Adds free a_pat)
unfolding forms.handed_form
handed_adds x = adds_then (adds_any (tracks_binding (handed_binding x)))
    (λ i. adds_then (adds_pat_beside (pat.Bind i None) x.pat (λ v. omega arith))
    (λ p. adds_then (adds_any (tracks_define i p)) (λ u. adds_pure p (λ v. omega arith))))

-- what the outside hands them to
pub each_handed_adds : (done : List PatId) (xs : List Handed) → Correct (forms.lower_handed done xs) (Adds (pats done) pats)
each_handed_adds done [] = adds_pure done (λ v. omega arith)
each_handed_adds done (x ∷ xs) = adds_then (adds_beside (pats done) (handed_adds x))
    (λ p. adds_from (pushed done p) (each_handed_adds (done ++ p ∷ []) xs))

-- `let`s

abbrev statements : List Statement → Cost
statements ss = each a_statement ss

one_let : (p : PatId) (e : ExprId) (v : View) → a_statement (let_from p e) v ≤ a_pat p v + an_expr e v
one_let p e v = let x = let_less p None (Some e) None v in omega (arith, x)

let_adds : (x : Handed) (p : PatId) → Correct (forms.let_form x p) (AtOnce (a_pat p) statements)
unfolding forms.let_form
let_adds x p = at_once_then (at_once_more (a_pat p) (name_adds x.name x.hygiene))
    (λ e. at_once_pure (let_from p e ∷ []) (λ v. let l = one_let p e v in omega (arith, l)))

two_lets_add : (x : Handed) (p : PatId) → Correct (forms.two_lets_form x p) (AtOnce (a_pat p) statements)
unfolding forms.two_lets_form
two_lets_add x p = at_once_then (at_once_more (a_pat p) (handed_adds x))
    (λ q. at_once_then (at_once_more (beside (a_pat p) (a_pat q)) (name_adds x.name x.hygiene))
    (λ e. at_once_then (at_once_more (beside (beside (a_pat p) (a_pat q)) (an_expr e)) (name_adds x.name x.hygiene))
    (λ f. at_once_pure (let_from q e ∷ let_from p f ∷ [])
    (λ v. let l = one_let q e v in let k = one_let p f v in omega (arith, l, k)))))

-- preludes

abbrev pub prelude : Prelude → Cost
prelude d = statements d.lets

-- behind those that were handed in
abbrev OneMore : Prelude → PatId → Lowering Prelude → Type 0
OneMore done p q = Correct q (AtOnce (beside (prelude done) (a_pat p)) prelude)

by_name : (done : Prelude) (p : PatId) (x : Handed) → OneMore done p (forms.handed_by_name done p x)
unfolding forms.handed_by_name
by_name done p x = at_once_then (at_once_beside (prelude done) (let_adds x p))
    (λ ss. at_once_pure (add_handed done x ss) (λ v. let e = each_append a_statement done.lets ss v in omega (arith, e)))

between : (done : Prelude) (p : PatId) (x : Handed) → OneMore done p (forms.handed_between done p x)
unfolding forms.handed_between
between done p x = at_once_then (at_once_beside (prelude done) (two_lets_add x p))
    (λ ss. at_once_pure (add_handed done x ss) (λ v. let e = each_append a_statement done.lets ss v in omega (arith, e)))

own_handed : (done : Prelude) (p : PatId) (alone : Bool) (x : Handed) → OneMore done p (forms.handed_own done p alone x)
own_handed done p true x = by_name done p x
own_handed done p false x = between done p x

any_handed : (done : Prelude) (p : PatId) (own : Option OwnName) → OneMore done p (forms.handed_in done p own)
unfolding forms.handed_in
any_handed done p (Some own) = own_handed done p own.is_alone (handed_as own.name own.hygiene p)
any_handed done p None = at_once_then (at_once_any tracks_made_number) (λ n. between done p (handed_as (Generated n) root_hygiene p))

let_param_adds : (done : Prelude) (p : PatId) → OneMore done p (forms.let_param done p)
unfolding forms.let_param
let_param_adds done p = at_once_then (at_once_any (tracks_own_name p)) (λ own. any_handed done p own)

pub let_params_add : (done : Prelude) (ps : List PatId)
    → Correct (forms.let_params done ps) (AtOnce (beside (prelude done) (pats ps)) prelude)
let_params_add done [] = at_once_pure done (λ v. omega arith)
let_params_add done (p ∷ ps) = at_once_then
    (at_once_from (λ v. let s = sum_append v.weight (v.held.pat p) (all_of v.held.pat ps) in omega (arith, s))
    (at_once_beside (pats ps) (let_param_adds done p)))
    (λ d. at_once_from (λ v. omega arith) (let_params_add d ps))

-- `self`

rebind_adds : (x : Binding) → Correct (forms.rebind_form x) (Adds free (λ r. statements r.1))
unfolding forms.rebind_form
rebind_adds x = adds_then (adds_any (tracks_binding (bound_anew x)))
    (λ i. adds_then (adds_pat (pat.Bind i None) None (λ v. omega arith))
    (λ p. adds_then (adds_any (tracks_define i p)) (λ u. adds_then (adds_beside (a_pat p) (name_adds x.name x.hygiene))
    (λ e. adds_pure (i, let_from p e ∷ []) (λ v. let l = one_let p e v in omega (arith, l))))))

rebound_adds : (id : BindingId) (o : Option Binding) → Correct (forms.rebound id o) (Adds free (λ r. statements r.1))
rebound_adds id None = adds_pure (id, []) (λ v. omega arith)
rebound_adds id (Some x) = rebind_adds x

pub let_self_adds : (o : Option BindingId) → Correct (forms.let_self o) (Adds free (λ r. prelude r.1))
unfolding forms.let_self
let_self_adds None = adds_pure (None, no_prelude) (λ v. omega arith)
let_self_adds (Some id) = adds_then (adds_any (tracks_bound id))
    (λ x. adds_then (rebound_adds id x) (λ r. adds_pure (Some r.0, record { handed = []; lets = r.1 }) (λ v. omega arith)))

-- coroutines

coroutine_less : (which : CoroutineKind) (from : CoroutineSource) (block : ExprId) (v : View)
    → in_expr (coroutine_of which from block) v ≤ a_limit block v
coroutine_less which from block v = omega arith

-- the block holds what its `let`s and the body do, and is held itself
pub made_coroutine_adds : (which : CoroutineKind) (from : CoroutineSource) (lets : List Statement) (body : ExprId)
    → Correct (forms.made_coroutine_form which from lets body) (Adds (contents (lets, Some body)) an_expr)
unfolding forms.made_coroutine_form
made_coroutine_adds which from lets body = adds_then
    (adds_aside {held = a_limit} body_aside
    (adds_expr {was = contents (lets, Some body)} _ None (block_less false None None lets (Some body))))
    (λ b. adds_expr (coroutine_of which from b) None (coroutine_less which from b))
