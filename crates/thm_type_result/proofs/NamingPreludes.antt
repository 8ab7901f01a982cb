-- What stands in front of the body of a coroutine names the patterns of its parameters, and those that are made up for them, each once.
use Rattle.std.proofs.Common.{refl, Bool, true, false, List, [], ◌∷◌, ◌++◌, Option, Some, None, arith}
use Rattle.hir_store.specs.declared.hir.CoroutineKind.{CoroutineKind}
use Rattle.hir_store.specs.declared.hir.CoroutineSource.{CoroutineSource}
use Rattle.hir_store.specs.declared.hir.Expr.TheVariants as hir
use Rattle.hir_store.specs.declared.hir.Statement.{Statement}
use Rattle.hir_store.specs.declared.ids.BindingId.{BindingId}
use Rattle.hir_store.specs.declared.ids.ExprId.{ExprId}
use Rattle.hir_store.specs.declared.ids.HygieneId.{HygieneId}
use Rattle.hir_store.specs.declared.ids.PatId.{PatId}
use Rattle.hir_store.specs.declared.name.Name.{Name}
use Rattle.hir_store.specs.declared.name.Name.TheVariants.{Generated}
use Rattle.hir_store.specs.declared.pat.Binding.{Binding}
use Rattle.hir_store.specs.declared.pat.Pat.TheVariants as pat
use Rattle.hir_lower_builder.specs.declared.preludes.Handed.{Handed}
use Rattle.hir_lower_builder.specs.declared.preludes.OwnName.{OwnName}
use Rattle.hir_lower_builder.specs.declared.preludes.Prelude.{Prelude}
use Rattle.hir_lower_builder.specs.Forms.{root_hygiene}
use Rattle.hir_lower_builder.specs.Lowering.{Lowering}
use Rattle.hir_lower_builder.specs.Preludes as forms
use Rattle.hir_lower_builder.specs.Preludes.{add_handed, bound_anew, coroutine_of, handed_as, handed_binding, let_from, no_prelude}
use Rattle.thm_generics.proofs.Preludes.{tracks_bound, tracks_own_name}
use Rattle.thm_type_result.specs.Named.{Look, of_statement}
use Rattle.thm_type_result.proofs.Counted.{times_append, ◌⊑◌}
use Rattle.thm_type_result.proofs.Numbers.{each_append}
use Rattle.thm_type_result.proofs.Adding.{Numbers, none}
use Rattle.thm_type_result.proofs.Asked.{Correct, Adds, Quiet, adds_beside, adds_from, adds_pat, adds_pat_beside, adds_pure, adds_quiet}
use Rattle.thm_type_result.proofs.Asked.{adds_then, quiet_kept}
use Rattle.thm_type_result.proofs.Naming.{new_made_binding, quiet_alloc, quiet_define, quiet_number}
use Rattle.thm_type_result.proofs.NamingAtOnce.{AtOnce, at_once, at_once_beside, at_once_expr, at_once_from, at_once_more, at_once_pure}
use Rattle.thm_type_result.proofs.NamingAtOnce.{at_once_still, at_once_then}
use Rattle.thm_type_result.proofs.Owned.{a_pat, beside}
use Rattle.thm_type_result.proofs.OwnedPats.{pats, pushed, statements}

-- what is only told

own_name_quiet : (p : PatId) → Correct (forms.own_name_of p) Quiet
unfolding forms.own_name_of
own_name_quiet p = quiet_kept (tracks_own_name p) (λ b. record { exprs = refl; pats = refl; types = refl; bindings = refl })

binding_quiet : (i : BindingId) → Correct (forms.binding_of i) Quiet
unfolding forms.binding_of
binding_quiet i = quiet_kept (tracks_bound i) (λ b. record { exprs = refl; pats = refl; types = refl; bindings = refl })

-- names that are handed in

name_quiet : (n : Name) (h : HygieneId) → Correct (forms.name_form n h) Quiet
unfolding forms.name_form
name_quiet n h = quiet_alloc _ None (λ l k. omega arith)

-- the binding is the one that it makes
binds_alone : (b : BindingId) (l : Look) → l.bindings b ++ [] ⊑ l.bindings b
binds_alone b l k = let e = times_append k (l.bindings b) [] in omega arith

handed_names : (x : Handed) → Correct (forms.handed_form x) (Adds none a_pat)
unfolding forms.handed_form
handed_names x = adds_then (new_made_binding (handed_binding x))
    (λ i. adds_then (adds_pat_beside (pat.Bind i None) x.pat (binds_alone i))
    (λ p. adds_then (adds_quiet (quiet_define i p)) (λ u. adds_pure p (λ l k. omega arith))))

-- what the outside hands them to
pub handed_add : (done : List PatId) (xs : List Handed) → Correct (forms.lower_handed done xs) (Adds (pats done) pats)
handed_add done [] = adds_pure done (λ l k. omega arith)
handed_add done (x ∷ xs) = adds_then (adds_beside (pats done) (handed_names x))
    (λ p. adds_from (λ l. pushed done p l) (handed_add (done ++ p ∷ []) xs))

-- `let`s

one_let : (p : PatId) (e : ExprId) (l : Look) → statements (let_from p e ∷ []) l ⊑ a_pat p l
one_let p e l k =
    let x = times_append k (l.pats p) [] in
    let y = times_append k (l.pats p ++ []) [] in omega arith

two_lets : (q : PatId) (e : ExprId) (p : PatId) (f : ExprId) (l : Look)
    → statements (let_from q e ∷ let_from p f ∷ []) l ⊑ beside (a_pat p) (a_pat q) l
two_lets q e p f l k =
    let x = one_let p f l k in
    let y = times_append k (l.pats q) [] in
    let z = times_append k (l.pats q ++ []) (statements (let_from p f ∷ []) l) in
    let w = times_append k (l.pats p) (l.pats q) in omega arith

let_names : (x : Handed) (p : PatId) → Correct (forms.let_form x p) (AtOnce (a_pat p) statements)
unfolding forms.let_form
let_names x p = at_once_then (at_once_still (name_quiet x.name x.hygiene)) (λ e. at_once_pure (let_from p e ∷ []) (one_let p e))

two_lets_name : (x : Handed) (p : PatId) → Correct (forms.two_lets_form x p) (AtOnce (a_pat p) statements)
unfolding forms.two_lets_form
two_lets_name x p = at_once_then (at_once_more (a_pat p) (handed_names x))
    (λ q. at_once_then (at_once_still (name_quiet x.name x.hygiene))
    (λ e. at_once_then (at_once_still (name_quiet x.name x.hygiene))
    (λ f. at_once_pure (let_from q e ∷ let_from p f ∷ []) (two_lets q e p f))))

-- preludes

abbrev pub prelude : Prelude → Numbers
prelude d l = statements d.lets l

-- one parameter more
more_lets : (done : Prelude) (x : Handed) (ss : List Statement) (l : Look)
    → prelude (add_handed done x ss) l ⊑ beside (prelude done) (statements ss) l
more_lets done x ss l k =
    let e = each_append (of_statement l) done.lets ss k in
    let t = times_append k (statements done.lets l) (statements ss l) in omega arith

-- behind those that were handed in
abbrev OneMore : Prelude → PatId → Lowering Prelude → Type 0
OneMore done p q = Correct q (AtOnce (beside (prelude done) (a_pat p)) prelude)

by_name : (done : Prelude) (p : PatId) (x : Handed) → OneMore done p (forms.handed_by_name done p x)
unfolding forms.handed_by_name
by_name done p x = at_once_then (at_once_beside (prelude done) (let_names x p))
    (λ ss. at_once_pure (add_handed done x ss) (more_lets done x ss))

between : (done : Prelude) (p : PatId) (x : Handed) → OneMore done p (forms.handed_between done p x)
unfolding forms.handed_between
between done p x = at_once_then (at_once_beside (prelude done) (two_lets_name x p))
    (λ ss. at_once_pure (add_handed done x ss) (more_lets done x ss))

own_handed : (done : Prelude) (p : PatId) (alone : Bool) (x : Handed) → OneMore done p (forms.handed_own done p alone x)
own_handed done p true x = by_name done p x
own_handed done p false x = between done p x

any_handed : (done : Prelude) (p : PatId) (own : Option OwnName) → OneMore done p (forms.handed_in done p own)
unfolding forms.handed_in
any_handed done p (Some own) = own_handed done p own.is_alone (handed_as own.name own.hygiene p)
any_handed done p None = at_once_then (at_once_still quiet_number) (λ n. between done p (handed_as (Generated n) root_hygiene p))

let_param_names : (done : Prelude) (p : PatId) → OneMore done p (forms.let_param done p)
unfolding forms.let_param
let_param_names done p = at_once_then (at_once_still (own_name_quiet p)) (λ own. any_handed done p own)

pub let_params_name : (done : Prelude) (ps : List PatId)
    → Correct (forms.let_params done ps) (AtOnce (beside (prelude done) (pats ps)) prelude)
let_params_name done [] = at_once_pure done (λ l k. let t = times_append k (prelude done l) [] in omega arith)
let_params_name done (p ∷ ps) = at_once_then
    (at_once_from (λ l k.
    let x = times_append k (pats ps l) (beside (prelude done) (a_pat p) l) in
    let y = times_append k (prelude done l) (l.pats p) in
    let z = times_append k (prelude done l) (pats (p ∷ ps) l) in
    let w = times_append k (l.pats p) (pats ps l) in omega arith)
    (at_once_beside (pats ps) (let_param_names done p)))
    (λ d. at_once_from (λ l k.
    let x = times_append k (prelude d l) (pats ps l) in
    let y = times_append k (pats ps l) (prelude d l) in omega arith)
    (let_params_name d ps))

-- `self`

rebind_names : (x : Binding) → Correct (forms.rebind_form x) (Adds none (λ r. statements r.1))
unfolding forms.rebind_form
rebind_names x = adds_then (new_made_binding (bound_anew x)) (λ i. adds_then (adds_pat (pat.Bind i None) None (binds_alone i))
    (λ p. adds_then (adds_quiet (quiet_define i p)) (λ u. adds_then (adds_quiet (name_quiet x.name x.hygiene))
    (λ e. adds_pure (i, let_from p e ∷ []) (one_let p e)))))

rebound_names : (id : BindingId) (o : Option Binding) → Correct (forms.rebound id o) (Adds none (λ r. statements r.1))
rebound_names id None = adds_pure (id, []) (λ l k. omega arith)
rebound_names id (Some x) = rebind_names x

pub let_self_names : (o : Option BindingId) → Correct (forms.let_self o) (Adds none (λ r. prelude r.1))
unfolding forms.let_self
let_self_names None = adds_pure (None, no_prelude) (λ l k. omega arith)
let_self_names (Some id) = adds_then (binding_quiet id)
    (λ x. adds_then (rebound_names id x) (λ r. adds_pure (Some r.0, record { handed = []; lets = r.1 }) (λ l k. omega arith)))

-- coroutines

-- the block names what its `let`s do
pub made_coroutine_names : (which : CoroutineKind) (from : CoroutineSource) (lets : List Statement) (body : ExprId)
    → Correct (forms.made_coroutine_form which from lets body) (AtOnce (statements lets) (λ i. none))
unfolding forms.made_coroutine_form
made_coroutine_names which from lets body =
    at_once_then (at_once_expr (hir.Block false None None lets (Some body)) None (λ l k. omega arith))
    (λ b. at_once (quiet_alloc (coroutine_of which from b) None (λ l k. omega arith)))
