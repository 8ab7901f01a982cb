use Rattle.std.proofs.Common.{◌≡◌, ◌≤◌, ◌+◌, ◌*◌, length, []}
use Rattle.hir_store.specs.Range.{Grows, HasPats}
use Rattle.hir_env.specs.Count.{count_pat, count_pats}
use Rattle.hir_env.specs.TypePats as of
use Rattle.hir_env.specs.Whole.{resolved_pat, pats_part}
use Rattle.hir_lower_builder.specs.Lower.{lower_type_pats}
use Rattle.hir_lower_builder.specs.Methods.{at_place}
use Rattle.hir_lower_builder.specs.Nests.{Each}
use Rattle.hir_lower_pat.specs.Calls.{written_call}
use Rattle.hir_lower_type.proofs.type_pats.+type_pat.Given as goal

abbrev pub decreases-each_type_pat : goal.decreases-each_type_pat
decreases-each_type_pat g l = 3 * count_pats (pats_part (at_place (g.P.LowerParts.rctx l.lowerer.now.parts) l.place) l.left.now) + 2

abbrev pub decreases-alternatives_form : goal.decreases-alternatives_form
decreases-alternatives_form g l = 3 * count_pats (pats_part (at_place (g.P.LowerParts.rctx l.lowerer.now.parts) l.place) l.all.now) + 3

abbrev pub decreases-type_pat : goal.decreases-type_pat
decreases-type_pat g l = 3 * count_pat (resolved_pat (at_place (g.P.LowerParts.rctx l.lowerer.now.parts) l.place) l.node.now) + 1

abbrev pub decreases-called_form : goal.decreases-called_form
decreases-called_form g l = 3 * count_pat (written_call (at_place (g.P.LowerParts.rctx l.lowerer.now.parts) l.place) l.at l.call.now)

-- what is left is no larger than all
abbrev pub invariant-each_type_pat-loop-left : goal.invariant-each_type_pat-loop-left
invariant-each_type_pat-loop-left g l =
    let here = at_place (g.P.LowerParts.rctx l.lowerer.parts) l.fn.place in
    let read = of.type_pats_of here.answers.lang_items in
    record {
      so_far : lower_type_pats [] (read (pats_part here l.fn.left)) l.fn.state
          ≡ lower_type_pats l.done (read (pats_part here l.left)) l.state;
      may : Each ((g.P.LowerParts.can l.lowerer.parts).pat l.fn.place) l.left;
      placed : Grows l.fn.state.stored l.state.stored × HasPats l.state.stored l.done;
      size : count_pats (pats_part here l.left) ≤ count_pats (pats_part here l.fn.left);
    }

abbrev pub decreases-each_type_pat-loop-left : goal.decreases-each_type_pat-loop-left
decreases-each_type_pat-loop-left g l = length l.left
