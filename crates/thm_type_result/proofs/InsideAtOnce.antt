-- Steps by what they reach and hold where all is looked into so deep: what one of them leaves beside goes on to the next.
use Rattle.std.proofs.Common.{arith, ℕ, ◌+◌, ◌≤◌}
use Rattle.hir_store.specs.Stored.{Stored}
use Rattle.hir_store.proofs.Extending.{extends_refl}
use Rattle.hir_lower_builder.specs.Builder.{Builder}
use Rattle.hir_lower_builder.specs.Lowering.{Lowering, ◌>>=◌, pure}
use Rattle.spec_data.specs.Tracking.{none as nothing}
use Rattle.thm_generics.proofs.Logic.{SideOutput}
use Rattle.thm_logic.proofs.Steps.{mark}
use Rattle.thm_type_result.proofs.Asked.{Correct, correct_as, correct_bind}
use Rattle.thm_type_result.proofs.Counted.{less}
use Rattle.thm_type_result.proofs.Weighed.{Cost, DeepView, View, at_depth, beside, free}
use Rattle.thm_type_result.proofs.Weighing.{Adds, adds_any, asked, came_of, deep_before, still_deep}

-- Looked into so deep, the answer costs no more than what it is made of, with what is asked, except for the numbers that were given out.
pub record AtOnce {A : Type 0} (was : Cost) (now : A → Cost) (final : Stored) (b c : Builder) (a : A) : Type 0 where
  pub asks : (all number : ℕ) → asked final all number b ≤ asked final all number c
  pub counted : (all number : ℕ) (d : ℕ × ℕ × ℕ) → DeepView (mark c) all d
      → now a (at_depth final all number d) + (asked final all number c + less number (mark b).nodes)
      ≤ was (at_depth final all number d) + (asked final all number b + less number (mark c).nodes)

-- beside what was reached
pub at_once_more : {A : Type 0} {now : A → Cost} {p : Lowering A} (more : Cost) → Correct p (Adds free now)
    → Correct p (AtOnce more (λ a. beside more (now a)))
at_once_more more h = correct_as h (λ final b c a g row. record {
  asks = row.asks;
  counted = λ all number d deep. let e = came_of row all number d deep in omega (arith, e);
})

-- what is answered isn't looked at
pub at_once_any : {A : Type 0} {was : Cost} {p : Lowering A} → SideOutput nothing p → Correct p (AtOnce was (λ a. was))
at_once_any {A = A} h = correct_as (adds_any {was = free} h) (λ final b c a g row. record {
  asks = row.asks;
  counted = λ all number d deep. let e = came_of {A = A} row all number d deep in omega (arith, e);
})

pub at_once_pure : {A : Type 0} {was : Cost} {now : A → Cost} (a : A) → ((v : View) → now a v ≤ was v) → Correct (pure a) (AtOnce was now)
at_once_pure a h = record {
  at = λ b d. record {
    paired = d;
    stays = extends_refl b.stored;
    in_final = λ final pre. record {
      asks = λ all number. omega arith;
      counted = λ all number d deep. let e = h (at_depth final all number d) in omega (arith, e);
    };
  };
}

-- one after another
pub at_once_then : {A B : Type 0} {was : Cost} {one : A → Cost} {now : B → Cost} {p : Lowering A} {q : A → Lowering B}
    → Correct p (AtOnce was one) → ((a : A) → Correct (q a) (AtOnce (one a) now)) → Correct (p >>= q) (AtOnce was now)
at_once_then h k = correct_as (correct_bind h k) (λ final b e y g row. record {
  asks = λ all number. let u = row.first.asks all number in let w = row.second.asks all number in omega (arith, u, w);
  counted = λ all number d deep.
      let x = row.first.counted all number d (deep_before d row.after deep) in
      let y = row.second.counted all number d deep in omega (arith, x, y);
})

-- beside what else is reached
pub at_once_beside : {A : Type 0} {was : Cost} {now : A → Cost} {p : Lowering A} (more : Cost) → Correct p (AtOnce was now)
    → Correct p (AtOnce (beside more was) (λ a. beside more (now a)))
at_once_beside more h = correct_as h (λ final b c a g row. record {
  asks = row.asks;
  counted = λ all number d deep. let e = row.counted all number d deep in omega (arith, e);
})

-- of more
pub at_once_from : {A : Type 0} {was was' : Cost} {now : A → Cost} {p : Lowering A} → ((v : View) → was v ≤ was' v)
    → Correct p (AtOnce was now) → Correct p (AtOnce was' now)
at_once_from h q = correct_as q (λ final b c a g row. record {
  asks = row.asks;
  counted = λ all number d deep.
      let e = row.counted all number d deep in
      let l = h (at_depth final all number d) in omega (arith, e, l);
})

-- so it is looked into no further before than behind
pub adds_at_once : {A : Type 0} {was : Cost} {now : A → Cost} {p : Lowering A} → Correct p (AtOnce was now) → Correct p (Adds was now)
adds_at_once h = correct_as h (λ final b c a g row. record {
  asks = row.asks;
  earlier = λ all number reach hold place d. still_deep reach hold place g d (row.counted all number (reach, hold, place) d);
})
