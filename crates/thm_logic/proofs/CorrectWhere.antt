-- Correct steps that go on where it is known what the first answers.
use Rattle.std.proofs.Common.{◌≡◌, ◌∙◌, List, Ok, Err}
use Rattle.hir_store.specs.Stored.{Stored}
use Rattle.hir_store.proofs.Extending.{extends_trans}
use Rattle.hir_lower_builder.specs.Builder.{Builder}
use Rattle.hir_lower_builder.specs.Lowering.{Checked, go_on, Lowering, ◌>>=◌}
use Rattle.thm_logic.proofs.Frames.{Frame, ribs}
use Rattle.thm_logic.proofs.Logic.{Rel, Answers, Holds, Correct, Seq, mark, grows_trans, kept_trans}
use Rattle.thm_logic.proofs.Answering.{Answering, AnsweredTo}

pub correct_where : {A B : Type 0} {p : Lowering A} {R : Rel A} {P : A → Type 0} {f : A → Lowering B} {Q : A → Rel B} → Correct p R
    → Answering P p → ((a : A) → P a → Correct (f a) (Q a)) → Correct (p >>= f) (Seq R Q)
correct_where {A = A} {B = B} {p = p} {R = R} {P = P} {f = f} {Q = Q} h t k =
    record { holds = λ final ps b r. first final ps b r (p b).0 (p b).1 (h.holds final ps b r) (t.answers b) }
  where
    second : (final : Stored) (ps : List Frame) (b b' : Builder) (a : A) → Answers R final ps b b' a → (o : Checked B) (c : Builder)
        → Holds (Q a) final ps b' o c → Holds (Seq R Q) final ps b o c
    second final ps b b' a x (Ok e) c y = record {
      kept = kept_trans x.kept y.kept;
      grows = grows_trans x.grows y.grows;
      in_final = λ d pre. record {
        middle = mark b';
        one = a;
        before = x.grows;
        after = y.grows;
        first = x.in_final d (extends_trans y.kept.stays pre);
        second = y.in_final (x.kept.paired d) pre;
      };
    }
    second final ps b b' a x (Err e) c y = extends_trans x.kept.stays y

    first : (final : Stored) (ps : List Frame) (b : Builder) → b.scopes ≡ ribs ps → (o : Checked A) (c : Builder)
        → Holds R final ps b o c → AnsweredTo P o → Holds (Seq R Q) final ps b (go_on o c f).0 (go_on o c f).1
    first final ps b r (Ok a) c x y = second final ps b c a x (f a c).0 (f a c).1 ((k a y).holds final ps c (x.kept.scopes ∙ r))
    first final ps b r (Err e) c x y = x

-- correct steps, with what is known of their answer
pub correct_with : {A : Type 0} {p : Lowering A} {R : Rel A} {P : A → Type 0} → Correct p R → Answering P p
    → Correct p (λ final ps m m' a. R final ps m m' a × P a)
correct_with {A = A} {p = p} {R = R} {P = P} h t =
    record { holds = λ final ps b r. by final ps b (p b).0 (p b).1 (h.holds final ps b r) (t.answers b) }
  where
    by : (final : Stored) (ps : List Frame) (b : Builder) (o : Checked A) (c : Builder) → Holds R final ps b o c → AnsweredTo P o
        → Holds (λ final ps m m' a. R final ps m m' a × P a) final ps b o c
    by final ps b (Ok a) c x y =
        record { kept = x.kept; grows = x.grows; in_final = λ d pre. (x.in_final d pre, y) }
    by final ps b (Err e) c x y = x
