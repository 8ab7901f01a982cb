-- What is promised in terms of what is framed lasts.
use Rattle.std.proofs.Common.{subst}
use Rattle.hir_env.specs.Answers.{Answers}
use Rattle.thm_frame.specs.Questions.{Area, Framed}
use Rattle.thm_calls.specs.Frames.{Lasts}

pub lasting : {X R : Type 0} {a : Answers} {area : Area a} {made : Answers → X} → Framed area made a → (promised : X → R → Type 0)
    → Lasts area (λ b. promised (made b)) a
lasting f promised = record {
  asked = f.asked;
  there = f.there;
  lasts = λ b h r k. subst (λ x. promised x r) (f.frame b h) k;
}
