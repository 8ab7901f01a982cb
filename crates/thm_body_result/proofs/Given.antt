-- What the answers of correct steps are, as it is known by how much they store.
use Rattle.std.proofs.Common.{List, Ok, Err}
use Rattle.hir_store.specs.Stored.{Stored}
use Rattle.hir_lower_builder.specs.Builder.{Builder}
use Rattle.hir_lower_builder.specs.Lowering.{Checked, Lowering}
use Rattle.thm_body_result.specs.Size.{Size}
use Rattle.thm_logic.specs.Keeps.{Paired}
use Rattle.thm_logic.proofs.Frames.{Frame}
use Rattle.thm_logic.proofs.Steps as steps
use Rattle.thm_logic.proofs.Steps.{Mark, Rel, Holds, Both}
use Rattle.thm_body_result.proofs.Lasting.{Correct}
use Rattle.thm_body_result.proofs.Emissions.{Emitted, Emits}

pub record Given {A : Type 0} (G : A → Type 0) (final : Stored) (ps : List Frame) (m m' : Mark) (a : A) : Type 0 where
  pub given : G a

pub given_by : {A : Type 0} {n : Size} {G : A → Type 0} {R : Rel A} {p : Lowering A} → steps.Correct p R → Emits n G p
    → steps.Correct p (Both R (Given G))
given_by {A = A} {n = n} {G = G} {R = R} {p = p} h t =
    record { holds = λ final ps b r. go final ps b (p b).0 (p b).1 (h.holds final ps b r) (λ d. t.emits b d) }
  where
    go : (final : Stored) (ps : List Frame) (b : Builder) (o : Checked A) (c : Builder) → Holds R final ps b o c
        → (Paired b.stored → Emitted n G b o c) → Holds (Both R (Given G)) final ps b o c
    go final ps b (Ok a) c y z = record {
      kept = y.kept;
      grows = y.grows;
      in_final = λ d pre. record { one = y.in_final d pre; other = record { given = (z d).1 } };
    }
    go final ps b (Err e) c y z = y

pub with_given : {A : Type 0} {n : Size} {G : A → Type 0} {R : Rel A} {p : Lowering A} → Correct p R → Emits n G p
    → Correct p (Both R (Given G))
with_given h t = steps.correct_as (given_by h t) (λ final ps m m' a g row. record {
  settled = row.one.settled;
  rel = λ s. record { one = row.one.rel s; other = row.other };
})
