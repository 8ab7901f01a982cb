-- Each body that is lowered has the meaning that it has as written.
use Rattle.std.proofs.Common.{[], refl, arith}
use Rattle.spec_semantics.specs.Inner.{inner_bodies}
use Rattle.thm_semantics.specs.Headline.{Headline}
use Rattle.thm_semantics.proofs.Body.{body_is}
use Rattle.thm_semantics.proofs.Induction.{part_fine}
use Rattle.thm_semantics.proofs.HeldTree.{body_holds}
use Rattle.thm_semantics.proofs.Tree.{of_body}

pub headline : Headline
unfolding inner_bodies
headline e b b' i l final x = let r = of_body (part_fine e) l x in let s = of_body (body_holds e) l x in record {
  body = body_is [] r.rel r.nodes tt refl;
  inner = s.rel.same _ (omega (arith, s.nodes, s.entries));
}
