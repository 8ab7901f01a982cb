-- What the steps do with names that are made up: those made before stand where they stood, and no two are the same.
use Rattle.std.proofs.Common.{◌≡◌, ◌⊎◌, inl, ⊎_elim, ℕ, zero, suc, ◌+◌, ◌<◌, ◌≤◌, Bool, true, false, if◌then◌else◌, nat_eq, List, []}
use Rattle.std.proofs.Common.{◌∷◌, ◌++◌, Option, Some, None, refl, sym, ap, subst, ◌∙◌, arith}
use Rattle.std.proofs.lemmas.Bool.{eqb-true}
use Rattle.hir_binding.specs.declared.binding.BindingProblems.{BindingProblems}
use Rattle.hir_store.specs.Bindings.{at_place, problem_set}
use Rattle.hir_store.specs.Names.{IsWritten}
use Rattle.hir_binding.specs.declared.binding.BindingAnnotation.{BindingAnnotation}
use Rattle.hir_store.specs.Pointers.{Pointer}
use Rattle.hir_store.specs.Stored.{Stored, store_of}
use Rattle.hir_store.specs.declared.hir.Expr.{Expr}
use Rattle.hir_store.specs.declared.hir.Label.{Label as HirLabel}
use Rattle.hir_store.specs.declared.diagnostics.ExpressionStoreDiagnostics.{ExpressionStoreDiagnostics}
use Rattle.hir_store.specs.declared.ids.BindingId.{BindingId}
use Rattle.hir_store.specs.declared.ids.BlockId.{BlockId}
use Rattle.hir_store.specs.declared.ids.ExprId.{ExprId}
use Rattle.hir_store.specs.declared.ids.LabelId.{LabelId}
use Rattle.hir_store.specs.declared.ids.PatId.{PatId}
use Rattle.hir_store.specs.declared.ids.TypeRefId.{TypeRefId}
use Rattle.hir_store.specs.declared.name.Name.{Name}
use Rattle.hir_store.specs.declared.name.Name.TheVariants as name
use Rattle.hir_store.specs.declared.pat.Binding.{Binding}
use Rattle.hir_store.specs.declared.pat.Pat.{Pat as HirPat}
use Rattle.hir_store.specs.declared.type_ref.LifetimeRef.{LifetimeRef}
use Rattle.hir_store.specs.declared.type_ref.TypeRef.{TypeRef}
use Rattle.hir_env.specs.ResolvedTree.{Label, Jump}
use Rattle.hir_lower_scope.specs.ScopeRibs.{Rib, Target, reachable, unreachable, undeclared, target}
use Rattle.hir_lower_builder.specs.Lowering.{Lowering, ◌>>=◌, pure, alloc_binding, alloc_expr, alloc_desugared, alloc_pat, alloc_type}
use Rattle.hir_lower_builder.specs.Lowering.{alloc_lifetime}
use Rattle.hir_lower_builder.specs.Lowering.{close, define, enter_block, jump_target, made_number, open_label, open_try, point, point_field}
use Rattle.hir_lower_builder.specs.Lowering.{owning, point_pat_field, report, set_problem, try_target}
use Rattle.hir_lower_builder.specs.declared.closures.ClosureParams.{ClosureParams}
use Rattle.hir_lower_builder.specs.Forms.{stored_closure}
use Rattle.hir_lower_builder.specs.Lower.{ExprSteps, closure_form, constant_form, coroutine_form}
use Rattle.hir_lower_builder.specs.Made.{made_binding, made_bind_form}
use Rattle.hir_lower_builder.specs.Ranges.{inner_form}
use Rattle.thm_logic.specs.Keeps.{IsOneOf, formals_of, times_bound, times_labelled, times_made, times_named}
use Rattle.thm_logic.proofs.Barriers.{correct_closure, correct_coroutine}
use Rattle.thm_logic.proofs.Constants.{correct_constant, correct_inner, with_root}
use Rattle.thm_logic.proofs.Frames.{Frame, rib, ribs}
use Rattle.thm_logic.proofs.MadeSteps.{correct_alloc_desugared, correct_made_bind, correct_made_number, correct_opened_try}
use Rattle.thm_logic.proofs.MadeSteps.{correct_try_target}
use Rattle.thm_logic.proofs.MadeSteps.{made_label, put_made}
use Rattle.thm_logic.proofs.Owning.{owning_keeps}
use Rattle.thm_logic.proofs.PatSteps.{correct_alloc_binding, correct_alloc_pat, correct_define, correct_point_pat_field}
use Rattle.thm_logic.proofs.PatSteps.{correct_set_problem}
use Rattle.thm_logic.proofs.PatSteps.{defining, with_field_pat, with_new_binding, with_pat, with_problem_of}
use Rattle.thm_logic.proofs.Steps.{Mark, Correct, correct_as, correct_bind, correct_pure, correct_report}
use Rattle.thm_logic.proofs.Steps.{correct_alloc, correct_alloc_type, correct_alloc_lifetime, correct_enter_block, correct_opened}
use Rattle.thm_logic.proofs.Steps.{correct_point, correct_point_field, correct_target, pointing}
use Rattle.thm_logic.proofs.Steps.{with_block, with_expr, with_fault, with_field, with_jump, with_label, with_lifetime, with_target}
use Rattle.thm_logic.proofs.Steps.{with_type}

-- how often a name is of bindings, and how often of labels
abbrev pub Times : Type 0
Times = ℕ × ℕ

abbrev pub times : ℕ → Stored → Times
times k s = (times_bound k s.bindings.entries, times_labelled k s.labels.entries)

abbrev pub sum : Times → ℕ
sum t = t.0 + t.1

-- it is of two bindings, one of which is a formal parameter in the final store
pub record OfFormal (final : Stored) (k : ℕ) (t : Times) : Type 0 where
  pub number : ℕ
  pub formal : IsOneOf k (store_of final) (formals_of (store_of final) number)
  pub bound : t.0 ≡ 2
  pub labelled : t.1 ≡ 0

abbrev pub Once : Stored → ℕ → Times → Type 0
Once final k t = (sum t ≤ 1) ⊎ OfFormal final k t

-- made names that stand apart, where what is formal is so in the final store
pub record ApartIn (final : Stored) (names : ℕ) (s : Stored) : Type 0 where
  pub once : (k : ℕ) → Once final k (times k s)
  pub later : (k : ℕ) → names ≤ k → times_made k s ≡ 0

pub record Apart {A : Type 0} (final : Stored) (ps : List Frame) (m m' : Mark) (a : A) : Type 0 where
  pub names : m.names ≤ m'.names
  pub old : (k : ℕ) → k < m.names → times k m'.stored ≡ times k m.stored
  pub apart : ApartIn final m.names m.stored → ApartIn final m'.names m'.stored

pub apart_trans : {A B : Type 0} {final : Stored} {ps : List Frame} {m m1 m' : Mark} {a : A} {b : B} → Apart final ps m m1 a
    → Apart final ps m1 m' b → Apart final ps m m' b
apart_trans g h = record {
  names = let p = g.names in let q = h.names in omega (arith, p, q);
  old = λ k lt. let p = g.names in h.old k (omega (arith, p, lt)) ∙ g.old k lt;
  apart = λ x. h.apart (g.apart x);
}

-- what is answered doesn't matter, nor what is open
pub apart_of : {A B : Type 0} {final : Stored} {ps qs : List Frame} {m m' : Mark} {a : A} {b : B} → Apart final ps m m' a
    → Apart final qs m m' b
apart_of h = record { names = h.names; old = h.old; apart = h.apart }

module _ {A : Type 0} {final : Stored} {ps : List Frame} {a : A} where
  pub apart_same : (m m' : Mark) → m'.names ≡ m.names → ((k : ℕ) → times k m'.stored ≡ times k m.stored) → Apart final ps m m' a
  apart_same m m' e h = record {
    names = omega (arith, e);
    old = λ k lt. h k;
    apart = λ p. record {
      once = λ k. subst (Once final k) (sym (h k)) (p.once k);
      later = λ k le. ap sum (h k) ∙ p.later k (omega (arith, e, le));
    };
  }

  -- where what is written is of no binding and no label
  pub apart_stored : (f : Stored → Stored) (m m' : Mark) → m'.names ≡ m.names → m'.stored ≡ f m.stored
      → ((s : Stored) (k : ℕ) → times k (f s) ≡ times k s) → Apart final ps m m' a
  apart_stored f m m' e stored h = apart_same m m' e (λ k. ap (times k) stored ∙ h m.stored k)

  pub apart_still : (m m' : Mark) → m' ≡ m → Apart final ps m m' a
  apart_still m m' e = apart_same m m' (ap (λ x. x.names) e) (λ k. ap (λ x. times k x.stored) e)

pub pure_apart : {A : Type 0} (a : A) → Correct (pure a) Apart
pure_apart a = correct_as (correct_pure a) (λ final ps m m' b g row. apart_still m m' row.still)

pub then_apart : {A B : Type 0} {p : Lowering A} {f : A → Lowering B} → Correct p Apart → ((a : A) → Correct (f a) Apart)
    → Correct (p >>= f) Apart
then_apart h k = correct_as (correct_bind h k) (λ final ps m m' b g row. apart_trans row.first row.second)

-- steps that name nothing

pub expr_apart : (e : Expr) (source : Option Pointer) → Correct (alloc_expr e source) Apart
expr_apart e source = correct_as (correct_alloc e source)
    (λ final ps m m' i g row. apart_stored (with_expr e source) m m' row.names row.stored (λ s k. refl))

pub made_apart : (e : Expr) (source : Option Pointer) → Correct (alloc_desugared e source) Apart
made_apart e source = correct_as (correct_alloc_desugared e source)
    (λ final ps m m' i g row. apart_stored (put_made e source) m m' row.names row.stored (λ s k. refl))

pub stored_type_apart : (t : TypeRef) (source : Option Pointer) → Correct (alloc_type t source) Apart
stored_type_apart t source = correct_as (correct_alloc_type t source)
    (λ final ps m m' i g row. apart_stored (with_type t source) m m' row.names row.stored (λ s k. refl))

pub stored_lifetime_apart : (l : LifetimeRef) (source : Option Pointer) → Correct (alloc_lifetime l source) Apart
stored_lifetime_apart l source = correct_as (correct_alloc_lifetime l source)
    (λ final ps m m' i g row. apart_stored (with_lifetime l source) m m' row.names row.stored (λ s k. refl))

pub stored_pat_apart : (p : HirPat) (source : Option Pointer) → Correct (alloc_pat p source) Apart
stored_pat_apart p source = correct_as (correct_alloc_pat p source)
    (λ final ps m m' i g row. apart_stored (with_pat p source) m m' row.names row.stored (λ s k. refl))

pub report_apart : (fault : ExpressionStoreDiagnostics) → Correct (report fault) Apart
report_apart fault = correct_as (correct_report fault)
    (λ final ps m m' u g row. apart_stored (with_fault fault) m m' row.names row.stored (λ s k. refl))

pub point_apart : (node : Pointer) (id : ExprId) → Correct (point node id) Apart
point_apart node id = correct_as (correct_point node id)
    (λ final ps m m' u g row. apart_stored (pointing node id) m m' row.names row.stored (λ s k. refl))

pub point_field_apart : (id : ExprId) (node : Pointer) → Correct (point_field id node) Apart
point_field_apart id node = correct_as (correct_point_field id node)
    (λ final ps m m' u g row. apart_stored (with_field id node) m m' row.names row.stored (λ s k. refl))

block_times : (n : Option BlockId) (s : Stored) (k : ℕ) → times k (with_block n s) ≡ times k s
block_times None s k = refl
block_times (Some n) s k = refl

pub enter_block_apart : (n : Option BlockId) → Correct (enter_block n) Apart
enter_block_apart n = correct_as (correct_enter_block n)
    (λ final ps m m' u g row. apart_stored (with_block n) m m' row.names row.stored (block_times n))

target_times : (j : Jump) {A : Type 0} (t : Target A) (s : Stored) (k : ℕ) → times k (with_target j t s) ≡ times k s
target_times j (reachable a) s k = refl
target_times j unreachable s k = refl
target_times j undeclared s k = refl

jump_times : (j : Option Jump) {A : Type 0} (rs : List (Rib A)) (s : Stored) (k : ℕ) → times k (with_jump j rs s) ≡ times k s
jump_times None rs s k = refl
jump_times (Some j) rs s k = target_times j (target j rs) s k

pub jump_apart : (j : Option Jump) → Correct (jump_target j) Apart
jump_apart j = correct_as (correct_target j)
    (λ final ps m m' n g row. apart_stored (with_jump j (ribs ps)) m m' row.names row.stored (jump_times j (ribs ps)))

pub try_target_apart : Correct try_target Apart
try_target_apart = correct_as correct_try_target (λ final ps m m' t g row. apart_still m m' row.still)

pub define_apart : (id : BindingId) (p : PatId) → Correct (define id p) Apart
define_apart id p = correct_as (correct_define id p)
    (λ final ps m m' u g row. apart_stored (defining id p) m m' (ap (λ c. c.7) row.counts_are) row.stored (λ s k. refl))

pub point_pat_field_apart : (id : PatId) (node : Pointer) → Correct (point_pat_field id node) Apart
point_pat_field_apart id node = correct_as (correct_point_pat_field id node)
    (λ final ps m m' u g row. apart_stored (with_field_pat id node) m m' (ap (λ c. c.7) row.counts_are) row.stored (λ s k. refl))

bound_at : (k n : ℕ) (problem : Option BindingProblems) (bs : List Binding)
    → times_bound k (at_place n (problem_set problem) bs) ≡ times_bound k bs
bound_at k n problem [] = refl
bound_at k zero problem (b ∷ bs) = refl
bound_at k (suc n) problem (b ∷ bs) = ap (λ t. times_named k b.name + t) (bound_at k n problem bs)

pub set_problem_apart : (id : BindingId) (problem : Option BindingProblems) → Correct (set_problem id problem) Apart
set_problem_apart id problem = correct_as (correct_set_problem id problem)
    (λ final ps m m' u g row. apart_stored (with_problem_of id problem) m m' (ap (λ c. c.7) row.counts_are) row.stored
    (λ s k. ap (λ t. (t, times_labelled k s.labels.entries)) (bound_at k id.0 problem s.bindings.entries)))

-- names are the same, whatever owns bindings
pub owning_apart : {A : Type 0} (owner : A → ExprId) {p : Lowering A} → Correct p Apart → Correct (owning owner p) Apart
owning_apart owner h = owning_keeps owner (λ final ps m left start id a row. record {
  names = row.names;
  old = row.old;
  apart = λ d. let x = row.apart d in record { once = x.once; later = x.later };
}) h

-- bodies inside

root_times : (i : ExprId) (s : Stored) (k : ℕ) → times k (with_root i s) ≡ times k s
root_times i s k = refl

pub inner_apart : {p : ExprSteps} → Correct p Apart → Correct (inner_form p) Apart
inner_apart h = correct_as (correct_inner h) (λ final ps m m' i g row.
    let names = ap (λ c. c.7) row.counts_are in
    let still : (k : ℕ) → times k m'.stored ≡ times k row.left.stored =
    λ k. ⊎_elim (λ e. ap (times k) e) (λ e. ap (times k) e ∙ root_times i row.left.stored k) row.stored in
    apart_trans (apart_of {qs = ps} {b = i} row.first) (apart_same row.left m' names still))

pub constant_apart : {p : ExprSteps} → Correct p Apart → Correct (constant_form p) Apart
constant_apart h = correct_as (correct_constant h) (λ final ps m m' c g row.
    let still : (k : ℕ) → times k m'.stored ≡ times k row.left.stored =
    λ k. ⊎_elim (λ e. ap (times k) e) (λ e. ap (times k) e ∙ root_times c.expr row.left.stored k) row.stored in
    apart_trans (apart_of {qs = ps} {b = c} row.first) (apart_same row.left m' row.names still))

pub closure_apart : (at : Pointer) (moves is_static : Bool) {p : Lowering ClosureParams} {t : Lowering (Option TypeRefId)} {e : ExprSteps}
    → Correct p Apart → Correct t Apart → Correct e Apart → Correct (closure_form at moves is_static p t e) Apart
closure_apart at moves is_static hp ht he = correct_as (correct_closure at moves is_static hp ht he) (λ final ps m m' i g row.
    let node = stored_closure moves is_static row.params row.ret row.body row.yields in
    apart_trans (apart_of {qs = ps} {b = i} row.in_params) (apart_trans (apart_of {qs = ps} {b = i} row.in_ret)
    (apart_trans (apart_of {qs = ps} {b = i} row.in_body)
    (apart_stored (with_expr node (Some at)) row.left m' row.made.names row.made.stored (λ s k. refl)))))

pub coroutine_apart : {p : ExprSteps} → Correct p Apart → Correct (coroutine_form p) Apart
coroutine_apart h = correct_as (correct_coroutine h) (λ final ps m m' i g row. apart_of {qs = ps} {b = i} row.inside)

-- names

bound_push : (k : ℕ) (bs : List Binding) (b : Binding) → times_bound k (bs ++ b ∷ []) ≡ times_bound k bs + times_named k b.name
bound_push k [] b = omega arith
bound_push k (c ∷ bs) b = let e = bound_push k bs b in omega (arith, e)

labelled_push : (k : ℕ) (ls : List HirLabel) (l : HirLabel) → times_labelled k (ls ++ l ∷ []) ≡ times_labelled k ls + times_named k l.name
labelled_push k [] l = omega arith
labelled_push k (c ∷ ls) l = let e = labelled_push k ls l in omega (arith, e)

-- so much more of the bindings, or of the labels
abbrev pub more_of : Bool → ℕ → Times → Times
more_of true d t = (t.0 + d, t.1)
more_of false d t = (t.0, t.1 + d)

pub none_more : (bound : Bool) (d : ℕ) (t : Times) → d ≡ 0 → more_of bound d t ≡ t
none_more true d t e = let same : t.0 + d ≡ t.0 = omega (arith, e) in ap (λ n. (n, t.1)) same
none_more false d t e = let same : t.1 + d ≡ t.1 = omega (arith, e) in ap (λ n. (t.0, n)) same

pub sum_more : (bound : Bool) (d : ℕ) (t : Times) → sum (more_of bound d t) ≡ sum t + d
sum_more true d t = omega arith
sum_more false d t = omega arith

pub binding_push : (s : Stored) (b : Binding) (k : ℕ) → times k (with_new_binding b s) ≡ more_of true (times_named k b.name) (times k s)
binding_push s b k = ap (λ n. (n, times_labelled k s.labels.entries)) (bound_push k s.bindings.entries b)

label_push : (s : Stored) (l : Label) (k : ℕ) → times k (with_label l s) ≡ more_of false (times_named k l.name) (times k s)
label_push s l k =
    let x : HirLabel = record { name = l.name } in
    ap (λ n. (times_bound k s.bindings.entries, n)) (labelled_push k s.labels.entries x)

pub written_never : (k : ℕ) (n : Name) → IsWritten n → times_named k n ≡ 0
written_never k (name.Text t) w = refl
written_never k name.Missing w = refl
written_never k (name.Generated n) w = absurd w

abbrev one_if : Bool → ℕ
one_if t = if t then 1 else 0

-- no other name than its own
pub named_other : (k n : ℕ) → (n ≡ k → ⊥) → times_named k (name.Generated n) ≡ 0
named_other k n differ = by (nat_eq n k) refl
  where
    by : (t : Bool) → nat_eq n k ≡ t → one_if t ≡ 0
    by true e = absurd (differ (eqb-true n k e))
    by false e = refl

-- once where it stood nowhere
once_more : (final : Stored) (bound : Bool) (k n : ℕ) (t : Times) → Once final k t → (n ≡ k → sum t ≡ 0)
    → Once final k (more_of bound (times_named k (name.Generated n)) t)
once_more final bound k n t once free = by (nat_eq n k) refl
  where
    by : (named : Bool) → nat_eq n k ≡ named → Once final k (more_of bound (one_if named) t)
    by true e = let none = free (eqb-true n k e) in let more = sum_more bound 1 t in inl (omega (arith, none, more))
    by false e = subst (Once final k) (sym (none_more bound 0 t refl)) once

-- A name that is written is of a binding or a label more.
apart_written : {A : Type 0} {final : Stored} {ps : List Frame} {a : A} (bound : Bool) (m m' : Mark) (n : Name) → IsWritten n
    → m'.names ≡ m.names → ((k : ℕ) → times k m'.stored ≡ more_of bound (times_named k n) (times k m.stored)) → Apart final ps m m' a
apart_written bound m m' n w names h =
    apart_same m m' names (λ k. h k ∙ none_more bound (times_named k n) (times k m.stored) (written_never k n w))

-- The name of the next number is made up, other steps are taken, and then it is of a binding or a label more.
apart_made : {A B : Type 0} {final : Stored} {ps : List Frame} {a : A} {b : B} (bound : Bool) (m m1 m2 m3 : Mark) (n : ℕ) → n ≡ m.names
    → m1.names ≡ suc m.names → m1.stored ≡ m.stored → Apart final ps m1 m2 a → m3.names ≡ m2.names
    → ((k : ℕ) → times k m3.stored ≡ more_of bound (times_named k (name.Generated n)) (times k m2.stored)) → Apart final ps m m3 b
apart_made {final = final} bound m m1 m2 m3 n is next stored between names h = record {
  names = let x = between.names in omega (arith, next, x, names);
  old = λ k lt.
      let other = named_other k n (λ same. omega (arith, same, is, lt)) in
      h k ∙ (none_more bound (times_named k (name.Generated n)) (times k m2.stored) other ∙ was k (omega (arith, next, lt)));
  apart = λ p. record {
    once = λ k. subst (Once final k) (sym (h k)) (once_more final bound k n (times k m2.stored) ((between.apart (first p)).once k)
        (λ same. ap sum (was k (omega (arith, same, is, next))) ∙ p.later k (omega (arith, same, is))));
    later = λ k le.
        let x = between.names in
        let other = named_other k n (λ same. omega (arith, same, is, next, x, names, le)) in
        ap sum (h k ∙ none_more bound (times_named k (name.Generated n)) (times k m2.stored) other)
        ∙ (between.apart (first p)).later k (omega (arith, names, le));
  };
}
  where
    was : (k : ℕ) → k < m1.names → times k m2.stored ≡ times k m.stored
    was k lt = between.old k lt ∙ ap (times k) stored

    first : ApartIn final m.names m.stored → ApartIn final m1.names m1.stored
    first p = record {
      once = λ k. subst (Once final k) (sym (ap (times k) stored)) (p.once k);
      later = λ k le. ap (λ s. times_made k s) stored ∙ p.later k (omega (arith, next, le));
    }

-- a binding of a written name
pub binding_apart : (b : Binding) → IsWritten b.name → Correct (alloc_binding b) Apart
binding_apart b w = correct_as (correct_alloc_binding b) (λ final ps m m' i g row.
    apart_written true m m' b.name w row.names (λ k. ap (times k) row.stored ∙ binding_push m.stored b k))

-- one of a name that is made up some steps before
pub named_apart : (mode : BindingAnnotation) {A B : Type 0} {p : Lowering A} {f : ℕ → A → PatId → Lowering B} → Correct p Apart
    → ((n : ℕ) (a : A) (q : PatId) → Correct (f n a q) Apart)
    → Correct (made_number >>= (λ n. p >>= (λ a. made_bind_form mode n >>= (λ q. f n a q)))) Apart
named_apart mode hp hf = correct_as
    (correct_bind correct_made_number (λ n. correct_bind hp (λ a. correct_bind (correct_made_bind mode n) (λ q. hf n a q))))
    (λ final ps m m' b g row.
    let next = row.first in
    let own = row.second.second.first in
    apart_trans
    (apart_made {b = row.second.second.one} true m row.middle row.second.middle row.second.second.middle row.one next.is next.names
    next.stored row.second.first own.names
    (λ k. ap (times k) own.stored ∙ binding_push row.second.middle.stored (made_binding mode row.one) k))
    row.second.second.second)

-- labels

pub opened_apart : {A B : Type 0} (at : Label → LabelId → Frame) (l : Label) → IsWritten l.name
    → {p : LabelId → Lowering A} {f : LabelId → A → Lowering B}
    → ((n : LabelId) (ps : List Frame) → ribs (at l n ∷ ps) ≡ rib l n ∷ ribs ps)
    → ((n : LabelId) → Correct (p n) Apart) → ((n : LabelId) (a : A) → Correct (f n a) Apart)
    → Correct (open_label l >>= (λ n. p n >>= (λ a. close >>= (λ _. f n a)))) Apart
opened_apart at l w frame hp hf = correct_as (correct_opened at l frame hp hf) (λ final ps m m' b g row.
    let names = row.names in
    let opened = apart_written {ps = ps} {a = row.number} false m row.entered l.name w (omega (arith, names))
    (λ k. ap (times k) row.stored ∙ label_push m.stored l k) in
    apart_trans opened (apart_trans (apart_of {qs = ps} {b = row.one} row.first) row.second))

-- one of a made name
pub opened_try_apart : {A B C : Type 0} (at : Pointer) (typed : Bool) {s : Lowering C} {p : Lowering A} {f : LabelId → A → Lowering B}
    → Correct s Apart → Correct p Apart → ((n : LabelId) (a : A) → Correct (f n a) Apart)
    → Correct (open_try at typed >>= (λ n. s >>= (λ u. p >>= (λ a. close >>= (λ _. f n a))))) Apart
opened_try_apart at typed hs hp hf = correct_as (correct_opened_try at typed hs hp hf) (λ final ps m m' b g row.
    let names = row.names in
    let numbered : Mark = record m { names = suc m.names } in
    let still = apart_still {final = final} {ps = ps} {a = row.number} numbered numbered refl in
    let opened = apart_made {b = row.number} false m numbered numbered row.entered m.names refl refl refl still (omega (arith, names))
    (λ k. ap (times k) row.stored ∙ label_push m.stored (made_label at m.names) k) in
    let inside = apart_trans row.first.first row.first.second in
    apart_trans opened (apart_trans (apart_of {qs = ps} {b = row.one} inside) row.second))
