-- Steps whose answer names types and patterns that were named before, or that they stored, each once. What they stored besides names
-- others: the expressions of a constant name types, and are stored where its type is.
use Rattle.std.proofs.Common.{◌≡◌, ◌∙◌, ◌⊎◌, inl, inr, ⊎_elim, ap, sym, subst, ℕ, zero, suc, ◌+◌, ◌<◌, ◌≤◌, List, [], ◌∷◌, ◌++◌}
use Rattle.std.proofs.Common.{length, length-append, slice_get, Option, Some, refl, arith}
use Rattle.std.proofs.lemmas.Option.{same_Some}
use Rattle.hir_lower_scope.specs.Each.{Each}
use Rattle.thm_semantics.specs.Reached.{Between}
use Rattle.hir_store.specs.Pointers.{Pointer}
use Rattle.hir_store.specs.Stored.{Stored}
use Rattle.hir_store.specs.declared.hir.Expr.{Expr as HirExpr}
use Rattle.hir_store.specs.declared.ids.ExprId.{ExprId}
use Rattle.hir_store.specs.declared.ids.PatId.{PatId}
use Rattle.hir_store.specs.declared.ids.TypeRefId.{TypeRefId}
use Rattle.hir_store.specs.declared.pat.Pat.{Pat as HirPat}
use Rattle.hir_store.specs.declared.type_ref.TypeRef.{TypeRef}
use Rattle.hir_store.specs.declared.type_ref.TypeRef.TheVariants as ty
use Rattle.hir_store.specs.declared.type_ref.LifetimeRef.{LifetimeRef}
use Rattle.hir_lower_builder.specs.Lowering.{pure, alloc_expr, alloc_desugared, alloc_desugared_pat, alloc_pat, alloc_type}
use Rattle.hir_lower_builder.specs.Lowering.{alloc_lifetime}
use Rattle.hir_lower_builder.specs.Preludes.{alloc_beside}
use Rattle.thm_logic.proofs.Frames.{Frame}
use Rattle.thm_logic.proofs.MadeSteps.{correct_alloc_desugared}
use Rattle.thm_logic.proofs.PatSteps.{AllocatedPatBy, PutPat, correct_alloc_beside, correct_alloc_desugared_pat, correct_alloc_pat}
use Rattle.thm_logic.proofs.Steps.{Mark, Grows, Rel, Correct, correct_as, correct_pure, correct_alloc}
use Rattle.thm_logic.proofs.Steps.{correct_alloc_type, correct_alloc_lifetime}
use Rattle.thm_type_result.specs.Reached.{below, types_reached}
use Rattle.thm_type_result.specs.Named.{Look, of_types_alone, of_pats_alone, of_bindings_alone, of_expr, of_exprs, of_pat, of_pats}
use Rattle.thm_type_result.specs.Pats.{of_type, of_types, pats_reached}
use Rattle.thm_type_result.proofs.Counted.{times, less, same, same_self, ◌⊑◌, one_past, less_grows}
use Rattle.thm_type_result.proofs.Numbers.{each_push}

-- what is counted: types, or patterns

pub data Sort : Type 0 where
  the_types : Sort
  the_pats : Sort

-- how many there are
abbrev pub known : Sort → Mark → ℕ
known the_types m = m.types
known the_pats m = m.pats

pub grows : (s : Sort) {m m' : Mark} → Grows m m' → known s m ≤ known s m'
grows the_types g = g.types
grows the_pats g = g.pats

-- what each reaches, so deep
abbrev pub look : Sort → Stored → ℕ → Look
look the_types final d = of_types_alone (types_reached final.types.entries d)
look the_pats final d = of_pats_alone (pats_reached final.pats.entries d)

-- patterns name patterns as those that are counted, which reach them
abbrev pub chosen : Sort → List HirPat → List HirPat
chosen the_types ps = ps
chosen the_pats ps = []

-- how often a number is named by what the one holds, looked up in the other
abbrev pub holds : Sort → Look → Stored → ℕ → ℕ
holds s l stored k = times k (of_exprs l stored.exprs.entries)
    + (times k (of_pats l (chosen s stored.pats.entries)) + times k (of_types l stored.types.entries))

abbrev pub named : Sort → Stored → ℕ → Stored → ℕ → ℕ
named s final d stored k = holds s (look s final d) stored k

-- the numbers that are named, of what each type and each pattern reaches
abbrev pub Numbers : Type 0
Numbers = Look → List ℕ

abbrev pub none : Numbers
none l = []

-- At some depth at which all is reached that was stored before, no number stands more often in `now`, and in what is held, than it
-- did in `was` and what was held, except for those that were given out, which stand once more.
pub record Earlier (s : Sort) (was : Numbers) (final : Stored) (m m' : Mark) (all : ℕ) (now : List ℕ) : Type 0 where
  pub depth : ℕ
  pub deep : known s m ≤ depth
  pub counted : (k : ℕ)
      → times k now + (named s final all m'.stored k + less k (known s m))
      ≤ times k (was (look s final depth)) + (named s final all m.stored k + less k (known s m'))

-- Patterns that came make bindings from this number on, and that came.
abbrev pub Made : ℕ → Stored → Mark → Mark → Type 0
Made lo final m m' = (n : ℕ) (p : HirPat) → length m.stored.pats.entries ≤ n → n < length m'.stored.pats.entries
    → slice_get final.pats.entries n ≡ Some p → Each (Between lo m'.bindings) (of_pat of_bindings_alone p)

-- where these bindings and those that are named are from that number on
pub record Bound (lo : ℕ) (final : Stored) (m m' : Mark) (bs now : List ℕ) : Type 0 where
  pub known : Each (Between lo m'.bindings) bs
  pub named : Each (Between lo m'.bindings) now
  pub made : Made lo final m m'

-- with these bindings in a table before and behind
pub record Steps {A : Type 0} (bs : List ℕ) (was : Numbers) (cs : A → List ℕ) (now : A → Numbers) (final : Stored) (ps : List Frame)
    (m m' : Mark) (a : A) : Type 0 where
  pub bound : (lo : ℕ) → lo ≤ m.bindings → Each (Between lo m.bindings) bs → Each (Between lo m.bindings) (was of_bindings_alone)
      → Bound lo final m m' (cs a) (now a of_bindings_alone)
  pub grown : (s : Sort) (d k : ℕ) → named s final d m.stored k ≤ named s final d m'.stored k
  pub earlier : (s : Sort) (d all : ℕ) → known s m' ≤ d → known s m' ≤ all → Earlier s was final m m' all (now a (look s final d))

-- without a table
abbrev pub Adds : {A : Type 0} → Numbers → (A → Numbers) → Rel A
Adds {A = A} was now = Steps {A = A} [] was (λ a. []) now

-- the answer names nothing
abbrev pub Quiet : {A : Type 0} → Rel A
Quiet {A = A} = Adds {A = A} none (λ a. none)

-- numbers in a range

pub each_wider : (lo hi hi' : ℕ) (ks : List ℕ) → hi ≤ hi' → Each (Between lo hi) ks → Each (Between lo hi') ks
each_wider lo hi hi' [] le h = tt
each_wider lo hi hi' (k ∷ ks) le h = let a : k < hi = h.0.1 in ((h.0.0, omega (arith, le, a)), each_wider lo hi hi' ks le h.1)

pub both : (P : ℕ → Type 0) (ks js : List ℕ) → Each P ks → Each P js → Each P (ks ++ js)
both P [] js h k = k
both P (i ∷ ks) js h k = (h.0, both P ks js h.1 k)

pub each_parts : (P : ℕ → Type 0) (ks js : List ℕ) → Each P (ks ++ js) → Each P ks × Each P js
each_parts P [] js h = (tt, h)
each_parts P (i ∷ ks) js h = let x = each_parts P ks js h.1 in ((h.0, x.0), x.1)

member : (lo hi k : ℕ) (js : List ℕ) → 1 ≤ times k js → Each (Between lo hi) js → Between lo hi k
member lo hi k [] le h = absurd (omega (arith, le))
member lo hi k (j ∷ js) le h = by (same k j) refl (member lo hi k js)
  where
    is_same : (k j : ℕ) → 1 ≤ same k j → k ≡ j
    is_same zero zero le = refl
    is_same zero (suc j) le = absurd (omega (arith, le))
    is_same (suc k) zero le = absurd (omega (arith, le))
    is_same (suc k) (suc j) le = ap suc (is_same k j le)

    by : (n : ℕ) → same k j ≡ n → (1 ≤ times k js → Each (Between lo hi) js → Between lo hi k) → Between lo hi k
    by zero e later = later (omega (arith, e, le)) h.1
    by (suc n) e later = subst (Between lo hi) (sym (is_same k j (omega (arith, e)))) h.0

-- no number stands in the one that doesn't in the other
pub fewer : (lo hi : ℕ) (ks js : List ℕ) → ks ⊑ js → Each (Between lo hi) js → Each (Between lo hi) ks
fewer lo hi [] js le h = tt
fewer lo hi (k ∷ ks) js le h = (
  member lo hi k js (let a = le k in let s = same_self k in omega (arith, a, s)) h,
  fewer lo hi ks js (λ i. let a = le i in omega (arith, a)) h,
)

pub none_made : (lo : ℕ) (final : Stored) (m m' : Mark) → m'.stored.pats.entries ≡ m.stored.pats.entries → Made lo final m m'
none_made lo final m m' e n p le lt is = let l = ap length e in absurd (omega (arith, le, lt, l))

pub made_then : (lo : ℕ) (final : Stored) (a b c : Mark) → b.bindings ≤ c.bindings → Made lo final a b → Made lo final b c
    → Made lo final a c
made_then lo final a b c le h k n p from to is = by (before n (length b.stored.pats.entries))
  where
    before : (n k : ℕ) → (n < k) ⊎ (k ≤ n)
    before n zero = inr (omega arith)
    before zero (suc k) = inl (omega arith)
    before (suc n) (suc k) = ⊎_elim (λ l. inl (omega (arith, l))) (λ l. inr (omega (arith, l))) (before n k)

    by : (n < length b.stored.pats.entries) ⊎ (length b.stored.pats.entries ≤ n)
        → Each (Between lo c.bindings) (of_pat of_bindings_alone p)
    by (inl l) = each_wider lo b.bindings c.bindings (of_pat of_bindings_alone p) le (h n p from l is)
    by (inr l) = k n p l to is

-- steps

-- the answer has no other bindings in its table
pub adds_done : {A : Type 0} {bs : List ℕ} {was : Numbers} {cs : A → List ℕ} {now : A → Numbers} (a : A)
    → ((l : Look) → now a l ⊑ was l) → ((P : ℕ → Type 0) → Each P bs → Each P (cs a)) → Correct (pure a) (Steps bs was cs now)
adds_done {was = was} {now = now} a h e = correct_as (correct_pure a) (λ final ps m m' b g row. rw (row.is, row.still) (record {
  bound = λ lo le t w. record {
    known = e (Between lo m.bindings) t;
    named = fewer lo m.bindings (now a of_bindings_alone) (was of_bindings_alone) (h of_bindings_alone) w;
    made = none_made lo final m m refl;
  };
  grown = λ s d k. omega arith;
  earlier = λ s d all le le'. record { depth = d; deep = le; counted = λ k. let e = h (look s final d) k in omega arith };
}))

-- what was named is still named where the answer names nothing

-- whatever owns bindings

-- what was stored names as much as before, and no pattern is stored
pub adds_still : {A : Type 0} {was : Numbers} {now : A → Numbers} {final : Stored} {ps : List Frame} {m m' : Mark} {a : A} → Grows m m'
    → m'.stored.pats.entries ≡ m.stored.pats.entries
    → ((s : Sort) (d k : ℕ) → named s final d m'.stored k ≡ named s final d m.stored k) → ((l : Look) → now a l ⊑ was l)
    → Adds was now final ps m m' a
adds_still {was = was} {now = now} {final = final} {m = m} {m' = m'} {a = a} g none e h = record {
  bound = λ lo le t w. record {
    known = tt;
    named = each_wider lo m.bindings m'.bindings (now a of_bindings_alone) g.bindings
        (fewer lo m.bindings (now a of_bindings_alone) (was of_bindings_alone) (h of_bindings_alone) w);
    made = none_made lo final m m' none;
  };
  grown = λ s d k. let n = e s d k in omega arith;
  earlier = λ s d all le le'. record {
    depth = d;
    deep = omega (arith, le, grows s g);
    counted = λ k.
        let n = e s all k in
        let l = less_grows k (known s m) (known s m') (grows s g) in
        let x = h (look s final d) k in omega arith;
  };
}

-- what is stored

-- of types no pattern is named where types are counted
pub no_pats_named : (f : TypeRefId → List ℕ) (t : TypeRef) (k : ℕ) → times k (of_type (of_types_alone f) t) ≡ 0
no_pats_named f (ty.Pattern t p) k = refl
no_pats_named f t k = refl

-- A type names itself and what it holds; a pattern that it holds is named by it.
pub adds_type : {was : Numbers} (t : TypeRef) (source : Option Pointer)
    → ((l : Look) (k : ℕ) → times k (below l.types t) + times k (of_type l t) ≤ times k (was l))
    → Correct (alloc_type t source) (Adds was (λ i l. l.types i))
unfolding types_reached
adds_type {was = was} t source h = correct_as (correct_alloc_type t source) (λ final ps m m' i g row. record {
  bound = λ lo le t w. record { known = tt; named = tt; made = none_made lo final m m' (ap (λ x. x.pats.entries) row.stored) };
  grown = λ s d k.
      let n = ap (λ x. named s final d x k) row.stored in
      let p = each_push (of_type (look s final d)) m.stored.types.entries t k in omega arith;
  earlier = λ s d all le le'. by s final m m' i g d all le le' row.number row.here row.next
      (λ k. ap (λ x. named s final all x k) row.stored);
})
  where
    at_depth : (final : Stored) (m m' : Mark) (i : TypeRefId) (d all : ℕ) → m'.types ≤ d → i.0 ≡ m.types
        → slice_get final.types.entries m.types ≡ Some t → m'.types ≡ suc m.types
        → ((k : ℕ) → named the_types final all m'.stored k ≡ named the_types final all m.stored k)
        → Earlier the_types was final m m' all (types_reached final.types.entries d i)
    at_depth final m m' i zero all le number here next still = absurd (omega (arith, le, next))
    at_depth final m m' i (suc d) all le number here next still = record {
      depth = d;
      deep = omega (arith, le, next);
      counted = λ k.
          let e = h (look the_types final d) k in
          let p = one_past k m.types in
          let n = still k in
          rw (number, here, next) (omega (arith, e, p, n));
    }

    by : (s : Sort) (final : Stored) (m m' : Mark) (i : TypeRefId) → Grows m m' → (d all : ℕ) → known s m' ≤ d → known s m' ≤ all
        → i.0 ≡ m.types → slice_get final.types.entries m.types ≡ Some t → m'.types ≡ suc m.types
        → ((k : ℕ) → named s final all m'.stored k ≡ times k (of_exprs (look s final all) m.stored.exprs.entries)
        + (times k (of_pats (look s final all) (chosen s m.stored.pats.entries))
        + times k (of_types (look s final all) (m.stored.types.entries ++ t ∷ []))))
        → Earlier s was final m m' all ((look s final d).types i)
    by the_types final m m' i g d all le le' number here next new = at_depth final m m' i d all le number here next (λ k.
        let n = new k in
        let z = no_pats_named (types_reached final.types.entries all) t k in
        let p = each_push (of_type (look the_types final all)) m.stored.types.entries t k in omega arith)
    by the_pats final m m' i g d all le le' number here next new = record {
      depth = all;
      deep = omega (arith, le', g.pats);
      counted = λ k.
          let e = h (look the_pats final all) k in
          let n = new k in
          let p = each_push (of_type (look the_pats final all)) m.stored.types.entries t k in
          let l = less_grows k m.pats m'.pats g.pats in omega arith;
    }

-- one that nothing names yet, and that names no pattern
pub adds_unnamed : {was : Numbers} (t : TypeRef) (source : Option Pointer) → ((l : Look) (k : ℕ) → times k (of_type l t) ≡ 0)
    → Correct (alloc_type t source) (Adds was (λ i. was))
adds_unnamed t source none = correct_as (correct_alloc_type t source) (λ final ps m m' i g row. adds_still g
    (ap (λ x. x.pats.entries) row.stored)
    (λ s d k.
    let n = ap (λ x. named s final d x k) row.stored in
    let p = each_push (of_type (look s final d)) m.stored.types.entries t k in
    let z = none (look s final d) k in omega arith)
    (λ l k. omega arith))

pub adds_lifetime : {was : Numbers} (l : LifetimeRef) (source : Option Pointer)
    → Correct (alloc_lifetime l source) (Adds was (λ i. was))
adds_lifetime l source = correct_as (correct_alloc_lifetime l source)
    (λ final ps m m' i g row. adds_still g (ap (λ x. x.pats.entries) row.stored) (λ s d k. ap (λ x. named s final d x k) row.stored)
    (λ l k. omega arith))

-- At some depth at which all is reached that was stored by then, no number stands more often in `now`, and in what is held, than it did
-- in `was` and what was held, except for those that were given out.
abbrev pub CountedAt : Sort → Numbers → Numbers → Stored → Mark → Mark → ℕ → ℕ → Type 0
CountedAt s was now final m m' all k =
    times k (now (look s final all)) + (named s final all m'.stored k + less k (known s m))
    ≤ times k (was (look s final all)) + (named s final all m.stored k + less k (known s m'))

-- where all is looked at so deep, however deep it was stored
pub record AtOnce {A : Type 0} (was : Numbers) (now : A → Numbers) (final : Stored) (ps : List Frame) (m m' : Mark) (a : A) : Type 0 where
  pub bound : (lo : ℕ) → lo ≤ m.bindings → Each (Between lo m.bindings) (was of_bindings_alone)
      → Bound lo final m m' [] (now a of_bindings_alone)
  pub grown : (s : Sort) (d k : ℕ) → named s final d m.stored k ≤ named s final d m'.stored k
  pub counted : (s : Sort) (all k : ℕ) → known s m' ≤ all → CountedAt s was (now a) final m m' all k

-- nothing is named any more
pub at_once_done : {A : Type 0} {was : Numbers} {final : Stored} {ps : List Frame} {m m' : Mark} {a : A} → Grows m m'
    → AtOnce was (λ a. none) final ps m m' a → Adds was (λ a. none) final ps m m' a
at_once_done g row = record {
  bound = λ lo le t w. row.bound lo le w;
  grown = row.grown;
  earlier = λ s d all le le'. record {
    depth = all;
    deep = omega (arith, le', grows s g);
    counted = λ k. row.counted s all k le';
  };
}

-- what is held once this expression is stored
abbrev pub ExprCame : HirExpr → Stored → Mark → Mark → Type 0
ExprCame e final m m' = (s : Sort) (d k : ℕ) → let l = look s final d in
    named s final d m'.stored k ≡ times k (of_exprs l (m.stored.exprs.entries ++ e ∷ []))
    + (times k (of_pats l (chosen s m.stored.pats.entries)) + times k (of_types l m.stored.types.entries))

-- an expression names what was named, whether or not its node leads to it

pub expr_at_once : {was : Numbers} (e : HirExpr) {final : Stored} {ps : List Frame} {m m' : Mark} {i : ExprId} → Grows m m'
    → m'.stored.pats.entries ≡ m.stored.pats.entries → ExprCame e final m m' → ((l : Look) → of_expr l e ⊑ was l)
    → AtOnce was (λ i. none) final ps m m' i
expr_at_once e {final = final} {m = m} {m' = m'} g none new h = record {
  bound = λ lo le w. record { known = tt; named = tt; made = none_made lo final m m' none };
  grown = λ s d k.
      let n = new s d k in
      let p = each_push (of_expr (look s final d)) m.stored.exprs.entries e k in omega arith;
  counted = λ s all k le.
      let x = h (look s final all) k in
      let n = new s all k in
      let p = each_push (of_expr (look s final all)) m.stored.exprs.entries e k in
      let l = less_grows k (known s m) (known s m') (grows s g) in omega arith;
}

pub expr_adds : {was : Numbers} (e : HirExpr) {final : Stored} {ps : List Frame} {m m' : Mark} {i : ExprId} → Grows m m'
    → m'.stored.pats.entries ≡ m.stored.pats.entries → ExprCame e final m m' → ((l : Look) → of_expr l e ⊑ was l)
    → Adds was (λ i. none) final ps m m' i
expr_adds e g none new h = at_once_done g (expr_at_once e g none new h)

pub adds_expr : {was : Numbers} (e : HirExpr) (at : Option Pointer) → ((l : Look) → of_expr l e ⊑ was l)
    → Correct (alloc_expr e at) (Adds was (λ i. none))
adds_expr e at h = correct_as (correct_alloc e at) (λ final ps m m' i g row.
    expr_adds e g (ap (λ x. x.pats.entries) row.stored) (λ s d k. ap (λ x. named s final d x k) row.stored) h)

pub adds_made : {was : Numbers} (e : HirExpr) (at : Option Pointer) → ((l : Look) → of_expr l e ⊑ was l)
    → Correct (alloc_desugared e at) (Adds was (λ i. none))
adds_made e at h = correct_as (correct_alloc_desugared e at) (λ final ps m m' i g row.
    expr_adds e g (ap (λ x. x.pats.entries) row.stored) (λ s d k. ap (λ x. named s final d x k) row.stored) h)

-- what is held once this pattern is stored
abbrev PatCame : HirPat → Sort → Stored → Mark → Mark → ℕ → ℕ → Type 0
PatCame p s final m m' d k = let l = look s final d in
    named s final d m'.stored k ≡ times k (of_exprs l m.stored.exprs.entries)
    + (times k (of_pats l (chosen s (m.stored.pats.entries ++ p ∷ []))) + times k (of_types l m.stored.types.entries))

-- a pattern names itself and what it holds, whether or not its node leads to it; types are named by it
pat_adds : {was : Numbers} (p : HirPat) {put : PutPat} {source : Option Pointer} {final : Stored} {ps : List Frame} {m m' : Mark}
    {i : PatId} → AllocatedPatBy put p source final ps m m' i → Grows m m'
    → m'.stored.pats.entries ≡ m.stored.pats.entries ++ p ∷ [] → ((s : Sort) (d k : ℕ) → PatCame p s final m m' d k)
    → ((l : Look) → of_pat l p ⊑ was l) → Adds was (λ i l. l.pats i) final ps m m' i
unfolding pats_reached
pat_adds {was = was} p {final = final} {m = m} {m' = m'} {i = i} row g new came h = record {
  bound = λ lo le t w. record {
    known = tt;
    named = tt;
    made = made_one lo (each_wider lo m.bindings m'.bindings (of_pat of_bindings_alone p) g.bindings
        (fewer lo m.bindings (of_pat of_bindings_alone p) (was of_bindings_alone) (h of_bindings_alone) w));
  };
  grown = λ s d k. grown s d k (came s d k);
  earlier = λ s d all le le'. by s d all le le' (came s all);
}
  where
    made_one : (lo : ℕ) → Each (Between lo m'.bindings) (of_pat of_bindings_alone p) → Made lo final m m'
    made_one lo w n q from to is =
        let l = ap length new in
        let l' = length-append m.stored.pats.entries (p ∷ []) in
        let at : m.pats ≡ n = omega (arith, l, l', row.last, from, to) in
        let one : Some p ≡ Some q = sym row.here ∙ (ap (λ k. slice_get final.pats.entries k) at ∙ is) in
        subst (λ x. Each (Between lo m'.bindings) (of_pat of_bindings_alone x)) (same_Some p q one) w

    grown : (s : Sort) (d k : ℕ) → PatCame p s final m m' d k → named s final d m.stored k ≤ named s final d m'.stored k
    grown the_types d k new =
        let e = each_push (of_pat (look the_types final d)) m.stored.pats.entries p k in omega (arith, new, e)
    grown the_pats d k new = omega (arith, new)

    at_depth : (d all : ℕ) → m'.pats ≤ d → ((k : ℕ) → named the_pats final all m'.stored k ≡ named the_pats final all m.stored k)
        → Earlier the_pats was final m m' all (pats_reached final.pats.entries d i)
    at_depth zero all le still = absurd (omega (arith, le, row.next))
    at_depth (suc d) all le still = record {
      depth = d;
      deep = omega (arith, le, row.next);
      counted = λ k.
          let e = h (look the_pats final d) k in
          let q = one_past k m.pats in
          let n = still k in
          rw (row.number, row.here, row.next) (omega (arith, e, q, n));
    }

    by : (s : Sort) (d all : ℕ) → known s m' ≤ d → known s m' ≤ all → ((k : ℕ) → PatCame p s final m m' all k)
        → Earlier s was final m m' all ((look s final d).pats i)
    by the_types d all le le' new = record {
      depth = all;
      deep = omega (arith, le', g.types);
      counted = λ k.
          let e = h (look the_types final all) k in
          let n = new k in
          let q = each_push (of_pat (look the_types final all)) m.stored.pats.entries p k in
          let l = less_grows k m.types m'.types g.types in omega (arith, e, n, q, l);
    }
    by the_pats d all le le' new = at_depth d all le new

pub adds_pat : {was : Numbers} (p : HirPat) (source : Option Pointer) → ((l : Look) → of_pat l p ⊑ was l)
    → Correct (alloc_pat p source) (Adds was (λ i l. l.pats i))
adds_pat p source h = correct_as (correct_alloc_pat p source) (λ final ps m m' i g row.
    pat_adds p row g (ap (λ x. x.pats.entries) row.stored) (λ s d k. ap (λ x. named s final d x k) row.stored) h)

-- one to which no written node leads
pub adds_made_pat : {was : Numbers} (p : HirPat) (source : Option Pointer) → ((l : Look) → of_pat l p ⊑ was l)
    → Correct (alloc_desugared_pat p source) (Adds was (λ i l. l.pats i))
adds_made_pat p source h = correct_as (correct_alloc_desugared_pat p source) (λ final ps m m' i g row.
    pat_adds p row g (ap (λ x. x.pats.entries) row.stored) (λ s d k. ap (λ x. named s final d x k) row.stored) h)

-- one that is made up for the node of another one
pub adds_pat_beside : {was : Numbers} (p : HirPat) (own : PatId) → ((l : Look) → of_pat l p ⊑ was l)
    → Correct (alloc_beside p own) (Adds was (λ i l. l.pats i))
adds_pat_beside p own h = correct_as (correct_alloc_beside p own) (λ final ps m m' i g row.
    pat_adds p row g (ap (λ x. x.pats.entries) row.stored) (λ s d k. ap (λ x. named s final d x k) row.stored) h)

pub expr_is_at_once : {was : Numbers} (e : HirExpr) (at : Option Pointer) → ((l : Look) → of_expr l e ⊑ was l)
    → Correct (alloc_expr e at) (AtOnce was (λ i. none))
expr_is_at_once e at h = correct_as (correct_alloc e at) (λ final ps m m' i g row.
    expr_at_once e g (ap (λ x. x.pats.entries) row.stored) (λ s d k. ap (λ x. named s final d x k) row.stored) h)
