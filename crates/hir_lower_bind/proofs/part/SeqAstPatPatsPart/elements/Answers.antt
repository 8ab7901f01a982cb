use Rattle.std.proofs.Common.{arith, ◌∙◌}
use Rattle.std.proofs.lemmas.Grind.{common_steps}
use Rattle.hir_env.specs.Whole.{elements_part}
use Rattle.hir_lower_builder.specs.Lower.{lower_elements}
use Rattle.hir_lower_builder.specs.Pats.{no_elements}
use Rattle.hir_lower_pat.specs.Bindings.{table_of}
use Rattle.hir_lower_pat.specs.Methods.{HasElements}
use Rattle.hir_lower_pat.proofs.AssigneeFuel.{grows_on}
use Rattle.hir_lower_pat.proofs.Elements.{one_more, refused}
use Rattle.hir_lower_pat.proofs.ElementSteps.{refused_named}
use Rattle.hir_lower_pat.proofs.KindLemmas.{first_of}
use Rattle.hir_lower_bind.proofs.part.SeqAstPatPatsPart.elements.Goals as goal

pub returns : goal.returns
returns g c = grind (arith, common_steps)

pub loop-left-smaller : goal.loop-left-smaller
loop-left-smaller g c = grind (arith, common_steps)

pub loop-left-preserved : goal.loop-left-preserved
loop-left-preserved g c =
    let l = c.loop-left in
    let at = g.S.Here.rctx c.args.parts.now in
    let may = rw (first_of l.left.now c.one-item.result c.one-item.is c.in-len1-up.len_at_least) at l.invariant.may in
    let h = c.in_ok-done.ensures in
    record {
      so_far = l.invariant.so_far ∙ one_more at l.done l.left.now c.one-item.result (table_of l.bindings) l.state c.element.new.state
          (c.in_ok-done.done, table_of c.element.new.bindings) c.one-item.is c.in-len1-up.len_at_least h.0;
      may = may.1;
      placed = (grows_on c.args.state.now.stored l.state.stored c.element.new.state.stored l.invariant.placed.0 h.1, h.2);
      named = (h.3, h.4 ∙ l.invariant.named.1);
    }

pub returns-in_err-done : goal.returns-in_err-done
returns-in_err-done g c =
    let l = c.loop-left in
    let at = g.S.Here.rctx c.args.parts.now in
    refused_named HasElements (lower_elements no_elements (elements_part at c.args.self.now)) c.args.bindings.now c.element.new.bindings
    c.args.state.now c.element.new.state _ c.from_residual.result c.from_residual.ensures.1
    (λ other. let h = c.in_err-done.ensures other in (
      l.invariant.so_far ∙ refused at l.done l.left.now c.one-item.result (table_of l.bindings) l.state c.element.new.state _
          c.one-item.is c.in-len1-up.len_at_least h.0,
      h.1,
    ))

pub slice_bounds-rest-count : goal.slice_bounds-rest-count
slice_bounds-rest-count g c = grind (arith, common_steps)

pub bounds-left-0 : goal.bounds-left-0
bounds-left-0 g c = grind (arith, common_steps)

pub element-requires-clause-part : goal.element-requires-clause-part
element-requires-clause-part g c = grind (arith, common_steps)

pub loop-left-init : goal.loop-left-init
loop-left-init g c = grind (arith, common_steps)

pub slice_bounds-rest-start : goal.slice_bounds-rest-start
slice_bounds-rest-start g c = grind (arith, common_steps)
