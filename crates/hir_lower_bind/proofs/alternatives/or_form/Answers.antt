use Rattle.std.proofs.lemmas.Grind.{common_steps}
use Rattle.std.proofs.Common.{◌∙◌, sym, arith}
use Rattle.hir_lower_pat.proofs.KindLemmas.{first_of, of_alternatives}
use Rattle.hir_lower_bind.proofs.alternatives.or_form.Goals as goal

pub returns-in-len1-up : goal.returns-in-len1-up
returns-in-len1-up g c = of_alternatives (g.S.Here.rctx c.args.parts.now) c.args.at c.args.all.now c.first-item.result
    _ c.args.bindings.now _ c.args.state.now _ _
    (sym c.as_slice.ensures ∙ first_of c.as_slice.result.now c.first-item.result c.first-item.is c.in-len1-up.len_at_least)
    c.alternatives.ensures

pub slice_bounds-left-count : goal.slice_bounds-left-count
slice_bounds-left-count g c = grind (arith, common_steps)

pub alternatives-requires-clause-first : goal.alternatives-requires-clause-first
alternatives-requires-clause-first g c = grind (arith, common_steps)

pub returns-in-empty : goal.returns-in-empty
returns-in-empty g c = grind (arith, common_steps)

pub slice_bounds-left-start : goal.slice_bounds-left-start
slice_bounds-left-start g c = grind (arith, common_steps)

pub bounds-first-0 : goal.bounds-first-0
bounds-first-0 g c = grind (arith, common_steps)

pub alternatives-requires-clause-parts : goal.alternatives-requires-clause-parts
alternatives-requires-clause-parts g c = grind (arith, common_steps)

pub alloc_pat-requires : goal.alloc_pat-requires
alloc_pat-requires g c = grind (arith, common_steps)
