-- A name that is made up for a parameter of a function with `async` or `gen` is bound in its coroutine, and then once more by what the
-- outside hands the argument to. Each other one stands as it stands elsewhere.
use Rattle.std.proofs.Common.{◌≡◌, ◌∙◌, ◌⊎◌, ⊎_elim, inl, inr, refl, sym, ap, subst, ℕ, ◌≤◌, arith, Bool, true, false, List, []}
use Rattle.std.proofs.Common.{◌∷◌, ◌++◌, map, Option, Some, None, option_map}
use Rattle.std.proofs.lemmas.Bool.{cases_lt}
use Rattle.std.proofs.lemmas.Option.{same_Some}
use Rattle.hir_store.specs.Bindings.{without_problem}
use Rattle.hir_store.specs.Names.{IsWritten}
use Rattle.hir_store.specs.Stored.{Stored, store_of}
use Rattle.hir_store.specs.StoreSink.{Extends}
use Rattle.hir_store.specs.declared.hir.CoroutineKind.{CoroutineKind}
use Rattle.hir_store.specs.declared.hir.CoroutineSource.TheVariants as source
use Rattle.hir_store.specs.declared.hir.Statement.{Statement}
use Rattle.hir_store.specs.declared.ids.BindingId.{BindingId}
use Rattle.hir_store.specs.declared.ids.ExprId.{ExprId}
use Rattle.hir_store.specs.declared.ids.PatId.{PatId}
use Rattle.hir_store.specs.declared.pat.Binding.{Binding}
use Rattle.hir_store.proofs.Extending.{extends_refl, extends_trans}
use Rattle.hir_env.specs.ResolvedTree as tree
use Rattle.hir_env.specs.ResolvedTree.{Formal, Formals, OptionExpr, SelfFormal}
use Rattle.hir_lower_builder.specs.Forms.{push_some}
use Rattle.hir_lower_builder.specs.Pats.{new_binding}
use Rattle.hir_lower_builder.specs.Preludes.{let_self}
use Rattle.hir_lower_builder.specs.declared.preludes.Prelude.{Prelude}
use Rattle.thm_logic.specs.Keeps.{IsOneOf, name_alone}
use Rattle.thm_logic.proofs.Always.{correct_always}
use Rattle.thm_logic.proofs.Apart.{Apart, ApartIn, Once, Times, apart_of, apart_same, apart_trans, binding_apart, more_of}
use Rattle.thm_logic.proofs.Apart.{pure_apart, report_apart, sum, then_apart, times}
use Rattle.thm_logic.proofs.AsApart.{apart_graded}
use Rattle.thm_logic.proofs.GradedPats.{missing_pat_graded}
use Rattle.thm_logic.proofs.ApartPreludes.{NewNames, bound_twice, coroutine_names, coroutine_times, handed_hand_out, let_params_add}
use Rattle.thm_logic.proofs.ApartPreludes.{names_of, rebound_apart, times_handed}
use Rattle.thm_logic.proofs.ApartTree.{part_apart, top_apart}
use Rattle.thm_logic.proofs.Frames.{Frame}
use Rattle.thm_logic.proofs.Owning.{correct_owning}
use Rattle.thm_logic.proofs.Preludes.{Rebound, binding_at, correct_let_self, correct_made_coroutine}
use Rattle.thm_logic.proofs.Steps.{Correct, Mark, Rel, correct_as, correct_bind, correct_both, correct_pure}
use Rattle.thm_body_result.specs.Formals.{Given, InFunction, coroutine_body, each_formal, in_function, lower_body, lower_formal}
use Rattle.thm_body_result.specs.Formals.{lower_formals, lower_self, plain_body}
use Rattle.thm_body_result.proofs.Formals.{HasSelf, self_known}

-- parameters

self_apart : (s : SelfFormal) → Correct (lower_self s) Apart
self_apart tree.no_self = pure_apart None
self_apart (tree.disabled_self at by) = then_apart (report_apart _) (λ u. pure_apart None)
self_apart (tree.self_formal at u w) = then_apart (binding_apart (new_binding u) w) (λ a. pure_apart (Some a))

formal_apart : (skipped : Bool) (f : Formal) → Correct (lower_formal skipped f) Apart
formal_apart skipped (tree.disabled_formal at by) = then_apart (report_apart _) (λ u. pure_apart None)
formal_apart true (tree.formal p) = then_apart (missing_pat_graded apart_graded) (λ a. pure_apart (Some a))
formal_apart false (tree.formal p) = then_apart (top_apart p) (λ a. pure_apart (Some a))

each_apart : (skipped : Bool) (done : List PatId) (fs : List Formal) → Correct (each_formal skipped done fs) Apart
each_apart skipped done [] = pure_apart done
each_apart skipped done (f ∷ fs) = then_apart (formal_apart skipped f) (λ x. each_apart skipped (push_some done x) fs)

formals_apart : (skipped : Bool) (f : Formals) → Correct (lower_formals skipped f) Apart
unfolding lower_formals
formals_apart skipped f =
    then_apart (self_apart f.receiver) (λ s. then_apart (each_apart skipped [] f.formals) (λ ps. pure_apart (s, ps)))

-- `self`

-- its name is written, also in each later store
abbrev SelfWritten : Option BindingId → Stored → Type 0
SelfWritten None s = Unit {0}
SelfWritten (Some id) s = (later : Stored) → Extends s later → (x : Binding) → binding_at id later ≡ Some x → IsWritten x.name

self_later : (o : Option BindingId) (s t : Stored) → Extends s t → SelfWritten o s → SelfWritten o t
self_later None s t e h = tt
self_later (Some id) s t e h = λ later f. h later (extends_trans e f)

self_is_written : (r : SelfFormal) (o : Option BindingId) (s : Stored) → HasSelf r o s → SelfWritten o s
self_is_written tree.no_self o s h = subst (λ z. SelfWritten z s) (sym h) tt
self_is_written (tree.disabled_self at by) o s h = subst (λ z. SelfWritten z s) (sym h) tt
self_is_written (tree.self_formal at u w) o s h = subst (λ z. SelfWritten z s) (sym h.1) (λ later e x found.
    let same : without_problem x ≡ new_binding u =
    same_Some (without_problem x) (new_binding u) (sym (ap (option_map without_problem) found) ∙ h.2 later e) in
    subst IsWritten (sym (ap (λ (y : Binding). y.name) same)) w)

-- no parameter is handed in yet
record LetSelfApart (o : Option BindingId) (final : Stored) (ps : List Frame) (m m' : Mark) (begun : Option BindingId × Prelude)
    : Type 0 where
  none : begun.1.handed ≡ []
  apart : SelfWritten o m.stored → Apart final ps m m' begun

rebound_once : (id : BindingId) (x : Option Binding) {final : Stored} {ps : List Frame} {m m' : Mark} {r : BindingId × List Statement}
    → ((y : Binding) → x ≡ Some y → IsWritten y.name) → Rebound id x final ps m m' r → Apart final ps m m' r
rebound_once id None {m = m} {m' = m'} w row =
    apart_same m m' (ap (λ (z : Mark). z.names) row.1) (λ k. ap (λ (z : Mark). times k z.stored) row.1)
rebound_once id (Some y) w row = rebound_apart y (w y refl) row

let_self_apart : (o : Option BindingId) → Correct (let_self o) (LetSelfApart o)
let_self_apart None = correct_as (correct_let_self None) (λ final ps m m' begun g row. record {
  none = ap (λ (z : Option BindingId × Prelude). z.1.handed) row.0;
  apart = λ w. apart_same m m' (ap (λ (z : Mark). z.names) row.1) (λ k. ap (λ (z : Mark). times k z.stored) row.1);
})
let_self_apart (Some id) = correct_as (correct_let_self (Some id)) (λ final ps m m' begun g row. record {
  none = ap (λ (z : Option BindingId × Prelude). z.1.handed) row.is;
  apart = λ w. apart_of (rebound_once id (binding_at id m.stored) (w m.stored (extends_refl m.stored)) row.made);
})

-- what is in such a function

-- Steps by which made names stay apart, and then what hands arguments in.
record InFunctionApart (final : Stored) (ps : List Frame) (m m' : Mark) (x : InFunction) : Type 0 where
  at : Mark
  before : Apart final ps m at x
  names : at.names ≤ m'.names
  times_are : (k : ℕ) → times k m'.stored ≡ more_of true (times_handed k x.1.0) (times k at.stored)
  new_names : NewNames at.names m'.names x.1.0

abbrev IfWritten : Option BindingId → Rel InFunction
IfWritten self final ps m m' x = SelfWritten self m.stored → InFunctionApart final ps m m' x

in_function_apart : (kind : CoroutineKind) (skipped : Bool) (self : Option BindingId) (fs : List Formal) (e : OptionExpr)
    → Correct (in_function kind skipped self fs e) (IfWritten self)
unfolding in_function
in_function_apart kind skipped self fs e = correct_as
    (correct_bind (correct_always (each_apart skipped [] fs)) (λ is. correct_bind (correct_always (part_apart e))
    (λ body. correct_bind (let_self_apart self) (λ begun. correct_bind (let_params_add begun.1 is)
    (λ l. correct_bind (correct_made_coroutine kind source.Fn l.lets body) (λ c. correct_pure ((begun.0, is), (l.handed, c))))))))
    (λ final ps m m' x g row written.
    let two = row.second in let three = two.second in let four = three.second in let five = four.second in
    let lets = four.first in
    let known = self_later self _ _ (extends_trans row.first.stays two.first.stays) written in
    let same : x.1.0 ≡ lets.more = ap (λ (z : InFunction). z.1.0) five.second.is
    ∙ (lets.handed ∙ ap (λ h. h ++ lets.more) three.first.none) in
    let more = lets.names in
    let names : m'.names ≡ four.middle.names = ap (λ (z : Mark). z.names) five.second.still ∙ coroutine_names five.first in
    let still : (k : ℕ) → times k m'.stored ≡ times k four.middle.stored =
    λ k. ap (λ (z : Mark). times k z.stored) five.second.still ∙ coroutine_times five.first k in record {
      at = three.middle;
      before = apart_trans (apart_of {qs = ps} {b = x} row.first.rel)
          (apart_trans (apart_of {qs = ps} {b = x} two.first.rel) (apart_of {qs = ps} {b = x} (three.first.apart known)));
      names = omega (arith, more, names);
      times_are = λ k. still k ∙ (lets.times_are k
          ∙ ap (λ xs. more_of true (times_handed k xs) (times k three.middle.stored)) (sym same));
      new_names = subst (λ xs. NewNames three.middle.names m'.names xs) (sym same)
          (subst (λ n. NewNames three.middle.names n lets.more) (sym names) lets.new_names);
    })

-- the whole body

-- It is of two bindings, one of which is just one of these formal parameters in the final store.
pub record OfHanded (final : Stored) (k : ℕ) (formals : List PatId) (t : Times) : Type 0 where
  pub formal : IsOneOf k (store_of final) formals
  pub bound : t.0 ≡ 2
  pub labelled : t.1 ≡ 0

pub record BodyOnce (final : Stored) (ps : List Frame) (m m' : Mark) (r : Given × ExprId) : Type 0 where
  pub once : ApartIn final m.names m.stored → (k : ℕ) → Once final k (times k m'.stored) ⊎ OfHanded final k r.0.0.1 (times k m'.stored)

plain_once : (skipped : Bool) (f : Formals) (e : OptionExpr) → Correct (plain_body skipped f e) BodyOnce
unfolding plain_body
plain_once skipped f e = correct_as
    (then_apart (formals_apart skipped f) (λ given. then_apart (part_apart e) (λ root. pure_apart ((given, given), root))))
    (λ final ps m m' r g row. record { once = λ a k. inl ((row.apart a).once k) })

coroutine_once : (kind : CoroutineKind) (skipped : Bool) (f : Formals) (e : OptionExpr)
    → Correct (coroutine_body kind skipped f e) BodyOnce
unfolding coroutine_body
coroutine_once kind skipped f e = correct_as
    (correct_bind (correct_both (self_apart f.receiver) (self_known f.receiver)) (λ self. correct_bind
    (correct_owning (λ x. x.1.1) (in_function_apart kind skipped self f.formals e)) (λ x. correct_bind (handed_hand_out [] x.1.0)
    (λ is. correct_pure (((self, is), x.0), x.1.1)))))
    (λ final ps m m' r g row.
    let two = row.second in
    let three = two.second in
    let own = two.first in
    let hands = three.first in
    let xs = two.one.1.0 in
    let within = own.first (self_is_written f.receiver row.one row.middle.stored row.first.other.now) in
    let early = within.at in
    let bound : ℕ → ℕ = λ k. times_handed k xs in
    let twice : (k : ℕ) → times k m'.stored ≡ more_of true (bound k) (more_of true (bound k) (times k early.stored)) =
    λ k. ap (λ (z : Mark). times k z.stored) three.second.still ∙ (hands.times_are k ∙ ap (more_of true (bound k))
    (ap (λ (z : Mark). times k z.stored) own.is ∙ within.times_are k)) in
    let formal : (k : ℕ) → bound k ≡ 1 → IsOneOf k (store_of final) r.0.0.1 = λ k one. record {
      names = names_of xs;
      are = ap (λ (z : Given × ExprId). map (name_alone (store_of final)) z.0.0.1) three.second.is
          ∙ (ap (map (name_alone (store_of final))) hands.ids ∙ hands.are);
      once = one;
    } in record {
      once = λ a k.
          let p = within.before.apart (row.first.one.apart a) in
          let free : bound k ≡ 1 → sum (times k early.stored) ≡ 0 = λ one. ⊎_elim
          (λ lt. let none = within.new_names.new k lt in absurd (omega (arith, none, one))) (λ le. p.later k le)
          (cases_lt k early.names) in
          subst (λ t. Once final k t ⊎ OfHanded final k r.0.0.1 t) (sym (twice k)) (⊎_elim (λ o. inl o)
          (λ z. inr (record { formal = formal k z.0; bound = z.1; labelled = z.2 }))
          (bound_twice final k (bound k) (times k early.stored) (within.new_names.once k) (p.once k) free));
    })

pub body_once : (kind : Option CoroutineKind) (skipped : Bool) (f : Formals) (e : OptionExpr)
    → Correct (lower_body kind skipped f e) BodyOnce
body_once None skipped f e = plain_once skipped f e
body_once (Some kind) skipped f e = coroutine_once kind skipped f e
