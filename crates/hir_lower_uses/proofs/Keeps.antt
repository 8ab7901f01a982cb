-- What was kept is what lowering promises by other answers, too, if they answer all that is listed for the call as it was answered.
use Rattle.std.proofs.Common.{subst, Ok}
use Rattle.hir_syntax.specs.declared.items.Fn.{Fn as AstFn}
use Rattle.hir_env.specs.Answers.{Answers}
use Rattle.hir_recorder.specs.Alike.{CoveredAlike, Covers}
use Rattle.hir_recorder.specs.Kept.{AllAnsweredAs}
use Rattle.thm_calls.specs.ByList.{BodyLastsByList, body_call_asks}
use Rattle.hir_lower_uses.specs.Kept.{HoldsBy, IfKept, IsBodyOf, IsCovered, WasLowered, call_of}
use Rattle.hir_lower_uses.specs.declared.kept.Kept.{Kept}

pub valid : CoveredAlike → BodyLastsByList → (b : Answers) (item : AstFn) (kept : Kept) (was : WasLowered item kept) → IsCovered was
    → HoldsBy b kept → IsBodyOf b item kept
valid alike lasts b item kept was covers h =
    let asks = body_call_asks (call_of item) was.by in
    let before = subst (IfKept (AllAnsweredAs was.by)) h.1.0 was.answered in
    let all = subst (IfKept (λ xs. Covers xs asks)) h.1.0 covers in
    lasts was.by b (call_of item) (alike was.by b h.0 asks all before h.1.1) (Ok (kept.body, kept.source_map)) was.is_body
