use Rattle.std.proofs.lemmas.Grind.{common_steps}
use Rattle.std.proofs.Common.{◌∙◌, arith}
use Rattle.hir_lower_expr.proofs.DefinitionLemmas.{closes_first}
use Rattle.hir_lower_expr.proofs.definitions.close_definitions.Goals as goal

pub loop-all-preserved-in-MacroDef : goal.loop-all-preserved-in-MacroDef
loop-all-preserved-in-MacroDef g c =
    let l = c.loop-all in record {
      so_far = l.invariant.so_far ∙ closes_first l.all.now _ c.in-MacroDef.field-0 l.state c.close.new.self c.in-MacroDef.is
          c.in-len1-up.len_at_least c.close.ensures.0;
    }

pub returns : goal.returns
returns g c = grind (arith, common_steps)

pub loop-all-preserved : goal.loop-all-preserved
loop-all-preserved g c = grind (arith, common_steps)
