use Rattle.std.proofs.Common.{Err, refl}
use Rattle.lower_run.specs.declared.failure.Failure.TheVariants as failure
use Rattle.lower_lines.proofs.Sent.{refused, sent}
use Rattle.lower_lines.proofs.lines.answer_one.Goals as goal

pub returns-in-Ok-clause-answered : goal.returns-in-Ok-clause-answered
returns-in-Ok-clause-answered g c = sent _ _ _ _ _ _ _ c.send.result c.of.ensures c.in-Ok.ensures c.as_str.ensures.value c.send.ensures.sent

pub returns-clause-answered : goal.returns-clause-answered
returns-clause-answered g c = sent _ _ _ _ (Err failure.Memory) _ _ c.send-in-Err.result tt refused refl c.send-in-Err.ensures.sent
