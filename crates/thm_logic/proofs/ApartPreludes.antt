-- What hands arguments in is made of steps, so that made names stay apart: a name that is made up for a parameter is bound inside of the
-- coroutine and then once more by the formal parameter of the closure.
use Rattle.std.proofs.Common.{◌≡◌, ◌∙◌, ◌⊎◌, ⊎_elim, inl, inr, refl, sym, ap, subst, ℕ, zero, suc, ◌+◌, ◌<◌, ◌≤◌, arith, Bool, true}
use Rattle.std.proofs.Common.{false, nat_eq}
use Rattle.std.proofs.Common.{if◌then◌else◌, List, [], ◌∷◌, ◌++◌, map, append-nil, append_assoc, Option, Some, None, slice_get}
use Rattle.std.proofs.lemmas.Bool.{cases_lt}
use Rattle.std.proofs.lemmas.Option.{none-some, same_Some}
use Rattle.hir_store.specs.Bindings.{without_problem}
use Rattle.hir_store.specs.Names.{IsWritten}
use Rattle.hir_store.specs.Pointers.{Pointer}
use Rattle.hir_store.specs.Stored.{Stored, store_of}
use Rattle.hir_store.specs.declared.hir.CoroutineKind.{CoroutineKind}
use Rattle.hir_store.specs.declared.hir.CoroutineSource.{CoroutineSource}
use Rattle.hir_store.specs.declared.hir.CoroutineSource.TheVariants as source
use Rattle.hir_store.specs.declared.hir.Statement.{Statement}
use Rattle.hir_store.specs.declared.ids.BindingId.{BindingId}
use Rattle.hir_store.specs.declared.ids.ExprId.{ExprId}
use Rattle.hir_store.specs.declared.ids.HygieneId.{HygieneId}
use Rattle.hir_store.specs.declared.ids.PatId.{PatId}
use Rattle.hir_store.specs.declared.ids.TypeRefId.{TypeRefId}
use Rattle.hir_store.specs.declared.name.Name.{Name}
use Rattle.hir_store.specs.declared.name.Name.TheVariants as name
use Rattle.hir_store.specs.declared.pat.Binding.{Binding}
use Rattle.hir_store.specs.declared.pat.Pat.{Pat}
use Rattle.hir_store.specs.declared.pat.Pat.TheVariants as pat
use Rattle.hir_lower_builder.specs.declared.closures.ClosureParams.{ClosureParams}
use Rattle.hir_lower_builder.specs.declared.preludes.Handed.{Handed}
use Rattle.hir_lower_builder.specs.declared.preludes.OwnName.{OwnName}
use Rattle.hir_lower_builder.specs.declared.preludes.Prelude.{Prelude}
use Rattle.hir_lower_builder.specs.declared.preludes.Within.{Within}
use Rattle.hir_lower_builder.specs.Forms.{ExprSteps, root_hygiene}
use Rattle.hir_lower_builder.specs.Lowering.{Lowering}
use Rattle.hir_lower_builder.specs.Preludes.{bound_anew, coroutine_closure_form, handed_as, handed_binding, if_written, is_plain, let_param}
use Rattle.hir_lower_builder.specs.Preludes.{let_params, lower_handed, made_coroutine_form, no_prelude, own_bound, own_in, within_form}
use Rattle.thm_logic.specs.Keeps.{IsOneOf, alone_in, formals_in, formals_of, name_alone, times_among, times_named}
use Rattle.thm_logic.proofs.Apart.{Apart, ApartIn, Once, Times, apart_of, apart_same, apart_trans, binding_push, more_of, named_other}
use Rattle.thm_logic.proofs.Apart.{none_more, sum, times, written_never}
use Rattle.thm_logic.proofs.CoroutineClosures.{CoroutineClosureRow, correct_coroutine_closure}
use Rattle.thm_logic.proofs.Formals.{name_of, named_at}
use Rattle.thm_logic.proofs.Frames.{Frame}
use Rattle.thm_logic.proofs.Preludes.{HandedBind, HandedIn, HandedOwn, LetsOf, MadeCoroutine, ReboundAs}
use Rattle.thm_logic.proofs.Preludes.{correct_handed, correct_let_param, correct_made_coroutine, correct_within, own_at}
use Rattle.thm_logic.proofs.Steps.{Mark, Correct, correct_as, correct_bind, correct_pure}

-- names that are handed in

abbrev pub names_of : List Handed → List Name
names_of xs = map (λ x. x.name) xs

abbrev pub times_handed : ℕ → List Handed → ℕ
times_handed k xs = times_among k (names_of xs)

-- so much more, and then so much more again
more_more : (c d : ℕ) (t : Times) → more_of true d (more_of true c t) ≡ more_of true (c + d) t
more_more c d t = let e : (t.0 + c) + d ≡ t.0 + (c + d) = omega arith in ap (λ n. (n, t.1)) e

handed_times : (x : Handed) {final : Stored} {ps : List Frame} {m m' : Mark} {p : PatId} → HandedBind x final ps m m' p → (k : ℕ)
    → times k m'.stored ≡ more_of true (times_named k x.name) (times k m.stored)
handed_times x {m = m} row k = ap (times k) row.stored ∙ binding_push m.stored (handed_binding x) k

-- what a formal parameter is
handed_alone : (x : Handed) {final : Stored} {ps : List Frame} {m m' : Mark} {p : PatId} → HandedBind x final ps m m' p
    → name_alone (store_of final) p ≡ Some x.name
handed_alone x {final = final} row =
    let bs = final.bindings.entries in
    ap (λ n. alone_in bs (slice_get final.pats.entries n)) row.number
    ∙ (ap (alone_in bs) row.here ∙ (named_at bs row.binding.0
    ∙ (ap (λ n. name_of (slice_get (map without_problem bs) n)) row.is ∙ ap name_of row.bound)))

-- `let`s

module _ (x : Handed) (p : PatId) {final : Stored} {ps : List Frame} {m m' : Mark} {ss : List Statement} where
  lets_times : LetsOf x p final ps m m' ss → (k : ℕ) → times k m'.stored ≡ more_of true (times_named k x.name) (times k m.stored)
  lets_times row k = ap (times k) row.again.stored ∙ (ap (times k) row.read.stored ∙ handed_times x row.binds k)

  lets_names : LetsOf x p final ps m m' ss → m'.names ≡ m.names
  lets_names row = row.again.names ∙ (row.read.names ∙ row.binds.names)

-- a parameter

abbrev one_if : Bool → ℕ
one_if t = if t then 1 else 0

-- a made name is its own once
itself_once : (k n : ℕ) → times_named k (name.Generated n) ≤ 1
itself_once k n = by (nat_eq n k)
  where
    by : (t : Bool) → one_if t ≤ 1
    by true = omega arith
    by false = omega arith

-- One more is handed in, by a name that is written or was not made up before, and that is bound once.
pub record AddsOne (done : Prelude) (final : Stored) (ps : List Frame) (m m' : Mark) (l : Prelude) : Type 0 where
  pub one : Handed
  pub handed : l.handed ≡ done.handed ++ one ∷ []
  pub names : m.names ≤ m'.names
  pub times_are : (k : ℕ) → times k m'.stored ≡ more_of true (times_named k one.name) (times k m.stored)
  pub once : (k : ℕ) → times_named k one.name ≤ 1
  pub new : (k : ℕ) → k < m.names → times_named k one.name ≡ 0
  pub later : (k : ℕ) → m'.names ≤ k → times_named k one.name ≡ 0

module _ (done : Prelude) (p : PatId) {final : Stored} {ps : List Frame} {m m' : Mark} {l : Prelude} where
  own_adds : (alone : Bool) (x : Handed) → IsWritten x.name → HandedOwn done p alone x final ps m m' l → AddsOne done final ps m m' l
  own_adds true x w row = let names = row.made.read.names in record {
    one = x;
    handed = ap (λ k. k.handed) row.is;
    names = omega (arith, names);
    times_are = λ k. ap (times k) row.made.read.stored
        ∙ sym (none_more true (times_named k x.name) (times k m.stored) (written_never k x.name w));
    once = λ k. let never = written_never k x.name w in omega (arith, never);
    new = λ k lt. written_never k x.name w;
    later = λ k le. written_never k x.name w;
  }
  own_adds false x w row = let names = lets_names x p row.made in record {
    one = x;
    handed = ap (λ k. k.handed) row.is;
    names = omega (arith, names);
    times_are = lets_times x p row.made;
    once = λ k. let never = written_never k x.name w in omega (arith, never);
    new = λ k lt. written_never k x.name w;
    later = λ k le. written_never k x.name w;
  }

  in_adds : (own : Option OwnName) → ((o : OwnName) → own ≡ Some o → IsWritten o.name) → HandedIn done p own final ps m m' l
      → AddsOne done final ps m m' l
  in_adds (Some own) w row = own_adds own.is_alone (handed_as own.name own.hygiene p) (w own refl) row
  in_adds None w row =
      let x = handed_as (name.Generated row.number) root_hygiene p in
      let n = row.number in
      let is = row.next.is in
      let next = row.next.names in
      let names = lets_names x p row.more.made in record {
        one = x;
        handed = ap (λ k. k.handed) row.more.is;
        names = omega (arith, next, names);
        times_are = λ k. lets_times x p row.more.made k ∙ ap (λ s. more_of true (times_named k x.name) (times k s)) row.next.stored;
        once = λ k. itself_once k n;
        new = λ k lt. named_other k n (λ same. omega (arith, same, is, lt));
        later = λ k le. named_other k n (λ same. omega (arith, same, is, next, names, le));
      }

-- a name of its own is written
if_is_written : (n : Name) (h : HygieneId) (alone : Bool) (o : OwnName)
    → if_written n (record { name = n; hygiene = h; is_alone = alone }) ≡ Some o → IsWritten o.name
if_is_written (name.Text t) h alone o e = subst (λ y. IsWritten y.name) (same_Some _ o e) tt
if_is_written name.Missing h alone o e = subst (λ y. IsWritten y.name) (same_Some _ o e) tt
if_is_written (name.Generated n) h alone o e = absurd (none-some o e)

bound_is_written : (sub : Option PatId) (b : Option Binding) (o : OwnName) → own_bound sub b ≡ Some o → IsWritten o.name
bound_is_written sub None o e = absurd (none-some o e)
bound_is_written sub (Some x) o e = if_is_written x.name x.hygiene (is_plain x.mode sub) o e

pub own_is_written : (s : Stored) (q : Option Pat) (o : OwnName) → own_in s q ≡ Some o → IsWritten o.name
own_is_written s (Some (pat.Bind id sub)) o e = bound_is_written sub (slice_get s.bindings.entries id.0) o e
own_is_written s q o e = absurd (none-some o e)

pub let_param_adds : (done : Prelude) (p : PatId) → Correct (let_param done p) (AddsOne done)
let_param_adds done p = correct_as (correct_let_param done p) (λ final ps m m' l g row.
    in_adds done p (own_at p m.stored) (own_is_written m.stored (slice_get m.stored.pats.entries p.0)) row.handed)

-- parameters

-- Made names among these were made up between so many and so many, each of them once.
pub record NewNames (from to : ℕ) (xs : List Handed) : Type 0 where
  pub once : (k : ℕ) → times_handed k xs ≤ 1
  pub new : (k : ℕ) → k < from → times_handed k xs ≡ 0
  pub later : (k : ℕ) → to ≤ k → times_handed k xs ≡ 0

-- Some more are handed in, and each of their names is bound once.
pub record AddsEach (done : Prelude) (final : Stored) (ps : List Frame) (m m' : Mark) (l : Prelude) : Type 0 where
  pub more : List Handed
  pub handed : l.handed ≡ done.handed ++ more
  pub names : m.names ≤ m'.names
  pub times_are : (k : ℕ) → times k m'.stored ≡ more_of true (times_handed k more) (times k m.stored)
  pub new_names : NewNames m.names m'.names more

adds_then : {done k l : Prelude} {final : Stored} {ps : List Frame} {m n m' : Mark} → AddsOne done final ps m n k
    → AddsEach k final ps n m' l → AddsEach done final ps m m' l
adds_then {done = done} {m = m} {n = n} x y = record {
  more = x.one ∷ y.more;
  handed = y.handed ∙ (ap (λ h. h ++ y.more) x.handed ∙ append_assoc done.handed (x.one ∷ []) y.more);
  names = let p = x.names in let q = y.names in omega (arith, p, q);
  times_are = λ k. y.times_are k ∙ (ap (more_of true (times_handed k y.more)) (x.times_are k)
      ∙ more_more (times_named k x.one.name) (times_handed k y.more) (times k m.stored));
  new_names = record {
    once = λ k. ⊎_elim
        (λ lt. let none = y.new_names.new k lt in let o = x.once k in omega (arith, none, o))
        (λ le. let none = x.later k le in let o = y.new_names.once k in omega (arith, none, o))
        (cases_lt k n.names);
    new = λ k lt.
        let p = x.names in
        let one = x.new k lt in
        let others = y.new_names.new k (omega (arith, p, lt)) in
        omega (arith, one, others);
    later = λ k le.
        let q = y.names in
        let one = x.later k (omega (arith, q, le)) in
        let others = y.new_names.later k le in
        omega (arith, one, others);
  };
}

pub let_params_add : (done : Prelude) (is : List PatId) → Correct (let_params done is) (AddsEach done)
let_params_add done [] = correct_as (correct_pure done) (λ final ps m m' l g row. rw (row.is, row.still) (record {
  more = [];
  handed = sym (append-nil done.handed);
  names = omega arith;
  times_are = λ k. sym (none_more true 0 (times k m.stored) refl);
  new_names = record { once = λ k. omega arith; new = λ k lt. refl; later = λ k le. refl };
}))
let_params_add done (p ∷ is) = correct_as (correct_bind (let_param_adds done p) (λ l. let_params_add l is))
    (λ final ps m m' l g row. adds_then row.first row.second)

-- what the outside hands its arguments to

-- Each name is bound once more, and by what is answered.
pub record HandsOut (done : List PatId) (xs : List Handed) (final : Stored) (ps : List Frame) (m m' : Mark) (is : List PatId)
    : Type 0 where
  pub new : List PatId
  pub ids : is ≡ done ++ new
  pub names : m'.names ≡ m.names
  pub times_are : (k : ℕ) → times k m'.stored ≡ more_of true (times_handed k xs) (times k m.stored)
  pub are : map (name_alone (store_of final)) new ≡ map Some (names_of xs)

pub handed_hand_out : (done : List PatId) (xs : List Handed) → Correct (lower_handed done xs) (HandsOut done xs)
handed_hand_out done [] = correct_as (correct_pure done) (λ final ps m m' is g row. rw (row.is, row.still) (record {
  new = [];
  ids = sym (append-nil done);
  names = refl;
  times_are = λ k. sym (none_more true 0 (times k m.stored) refl);
  are = refl;
}))
handed_hand_out done (x ∷ xs) = correct_as (correct_bind (correct_handed x) (λ p. handed_hand_out (done ++ p ∷ []) xs))
    (λ final ps m m' is g row. let one = row.first in let rest = row.second in
    let alone = handed_alone x one in let others = rest.are in record {
      new = row.one ∷ rest.new;
      ids = rest.ids ∙ append_assoc done (row.one ∷ []) rest.new;
      names = rest.names ∙ one.names;
      times_are = λ k. rest.times_are k ∙ (ap (more_of true (times_handed k xs)) (handed_times x one k)
          ∙ more_more (times_named k x.name) (times_handed k xs) (times k m.stored));
      are = λ j. alone j ∷ others j;
    })

-- coroutines

-- nothing is named
module _ {which : CoroutineKind} {from : CoroutineSource} {lets : List Statement} {body : ExprId} {final : Stored} {ps : List Frame}
    {m m' : Mark} {c : ExprId} (row : MadeCoroutine which from lets body final ps m m' c) where
  pub coroutine_names : m'.names ≡ m.names
  coroutine_names = row.made.names ∙ row.inside.names

  pub coroutine_times : (k : ℕ) → times k m'.stored ≡ times k m.stored
  coroutine_times k = ap (times k) row.made.stored ∙ ap (times k) row.inside.stored

pub made_coroutine_apart : (which : CoroutineKind) (from : CoroutineSource) (lets : List Statement) (body : ExprId)
    → Correct (made_coroutine_form which from lets body) Apart
made_coroutine_apart which from lets body = correct_as (correct_made_coroutine which from lets body)
    (λ final ps m m' c g row. apart_same m m' (coroutine_names row) (coroutine_times row))

-- Steps by which made names stay apart, and then what hands arguments in.
pub record WithinApart (final : Stored) (ps : List Frame) (m m' : Mark) (w : Within) : Type 0 where
  pub at : Mark
  pub before : Apart final ps m at w
  pub names : at.names ≤ m'.names
  pub times_are : (k : ℕ) → times k m'.stored ≡ more_of true (times_handed k w.handed) (times k at.stored)
  pub new_names : NewNames at.names m'.names w.handed

within_apart : (which : CoroutineKind) {p : Lowering ClosureParams} {t : Lowering (Option TypeRefId)} {e : ExprSteps} → Correct p Apart
    → Correct t Apart → Correct e Apart → Correct (within_form which p t e) WithinApart
within_apart which hp ht he = correct_as
    (correct_within which hp ht he (λ is. let_params_add no_prelude is) (correct_made_coroutine which source.Closure))
    (λ final ps m m' w g row.
    let lets = row.in_prelude in
    let same : w.handed ≡ lets.more = ap (λ x. x.handed) row.is ∙ lets.handed in
    let more = lets.names in
    let names = coroutine_names row.made in record {
      at = row.after_body;
      before = apart_trans (apart_of {qs = ps} {b = w} row.in_params)
          (apart_trans (apart_of {qs = ps} {b = w} row.in_ret) (apart_of {qs = ps} {b = w} row.in_body));
      names = omega (arith, more, names);
      times_are = λ k. coroutine_times row.made k ∙ (lets.times_are k
          ∙ ap (λ xs. more_of true (times_handed k xs) (times k row.after_body.stored)) (sym same));
      new_names = subst (λ xs. NewNames row.after_body.names m'.names xs) (sym same)
          (subst (λ n. NewNames row.after_body.names n lets.more) (sym names) lets.new_names);
    })

-- A name that was made up for a parameter is bound once, and then once more by a formal parameter. Each other one stands where it stood.
pub bound_twice : (final : Stored) (k h : ℕ) (t : Times) → h ≤ 1 → Once final k t → (h ≡ 1 → sum t ≡ 0)
    → Once final k (more_of true h (more_of true h t)) ⊎ ((h ≡ 1) × ((t.0 + h) + h ≡ 2) × (t.1 ≡ 0))
bound_twice final k zero t le once free =
    inl (subst (Once final k) (sym (none_more true 0 (more_of true 0 t) refl ∙ none_more true 0 t refl)) once)
bound_twice final k (suc zero) t le once free = let none = free refl in inr (refl, omega (arith, none), omega (arith, none))
bound_twice final k (suc (suc h)) t le once free = absurd (omega (arith, le))

module _ {at : Pointer} {which : CoroutineKind} {moves : Bool} {final : Stored} {ps : List Frame} {m m' : Mark} {i : ExprId}
    (row : CoroutineClosureRow at which moves WithinApart (λ xs. HandsOut [] xs) final ps m m' i) where
  abbrev bound : ℕ → ℕ
  bound k = times_handed k row.within.handed

  abbrev earlier : Mark
  earlier = row.in_within.at

  same_names : m'.names ≡ row.left.names
  same_names = row.made.names ∙ row.in_formals.names

  twice : (k : ℕ) → times k m'.stored ≡ more_of true (bound k) (more_of true (bound k) (times k earlier.stored))
  twice k = ap (times k) row.made.stored ∙ (row.in_formals.times_are k ∙ ap (more_of true (bound k)) (row.in_within.times_are k))

  none_twice : (k : ℕ) → bound k ≡ 0 → times k m'.stored ≡ times k earlier.stored
  none_twice k none = twice k ∙ (none_more true (bound k) (more_of true (bound k) (times k earlier.stored)) none
      ∙ none_more true (bound k) (times k earlier.stored) none)

  closure_formal : (k : ℕ) → bound k ≡ 1 → IsOneOf k (store_of final) (formals_of (store_of final) row.handed.nodes)
  closure_formal k one = subst (λ o. IsOneOf k (store_of final) (formals_in o)) (sym row.made.here) (record {
    names = names_of row.within.handed;
    are = ap (map (name_alone (store_of final))) row.in_formals.ids ∙ row.in_formals.are;
    once = one;
  })

  closure_once : (k : ℕ) → ApartIn final earlier.names earlier.stored → Once final k (times k m'.stored)
  closure_once k p = subst (Once final k) (sym (twice k)) (⊎_elim (λ o. o)
      (λ x. inr (record { number = row.handed.nodes; formal = closure_formal k x.0; bound = x.1; labelled = x.2 }))
      (bound_twice final k (bound k) (times k earlier.stored) (row.in_within.new_names.once k) (p.once k) free))
    where
      free : bound k ≡ 1 → sum (times k earlier.stored) ≡ 0
      free one = ⊎_elim
          (λ lt. let none = row.in_within.new_names.new k lt in absurd (omega (arith, none, one)))
          (λ le. p.later k le)
          (cases_lt k earlier.names)

  closure_apart : Apart final ps m m' i
  closure_apart =
      let within = row.in_within in
      let before = within.before.names in
      let more = within.names in record {
        names = omega (arith, before, more, same_names);
        old = λ k lt. none_twice k (within.new_names.new k (omega (arith, before, lt))) ∙ within.before.old k lt;
        apart = λ p. let q = within.before.apart p in record {
          once = λ k. closure_once k q;
          later = λ k le. ap sum (none_twice k (within.new_names.later k (omega (arith, same_names, le))))
              ∙ q.later k (omega (arith, more, same_names, le));
        };
      }

pub coroutine_closure_apart : (at : Pointer) (which : CoroutineKind) (moves : Bool) {p : Lowering ClosureParams}
    {t : Lowering (Option TypeRefId)} {e : ExprSteps} → Correct p Apart → Correct t Apart → Correct e Apart
    → Correct (coroutine_closure_form at which moves p t e) Apart
coroutine_closure_apart at which moves hp ht he = correct_as
    (correct_coroutine_closure at which moves _ _ _ (within_apart which hp ht he) (λ xs. handed_hand_out [] xs))
    (λ final ps m m' i g row. closure_apart row)

-- `self`

-- of a written name
module _ (x : Binding) (w : IsWritten x.name) {final : Stored} {ps : List Frame} {m m' : Mark} {r : BindingId × List Statement}
    (row : ReboundAs x final ps m m' r) where
  rebound_names : m'.names ≡ m.names
  rebound_names = row.read.names ∙ (ap (λ c. c.7) row.defines.counts_are ∙ (row.matches.names ∙ row.binding.names))

  rebound_times : (k : ℕ) → times k m'.stored ≡ times k m.stored
  rebound_times k = ap (times k) row.read.stored ∙ (ap (times k) row.defines.stored ∙ (ap (times k) row.matches.stored
      ∙ (ap (times k) row.binding.stored ∙ (binding_push m.stored (bound_anew x) k
      ∙ none_more true (times_named k x.name) (times k m.stored) (written_never k x.name w)))))

  pub rebound_apart : Apart final ps m m' r
  rebound_apart = apart_same m m' rebound_names rebound_times
