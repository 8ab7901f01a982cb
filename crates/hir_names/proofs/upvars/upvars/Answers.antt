use Rattle.std.proofs.Common.{[], ◌∙◌, ap}
use Rattle.hir_names.specs.Upvars.{has_expr, with_upvars}
use Rattle.hir_names.proofs.UpvarLemmas.{listed}
use Rattle.hir_names.proofs.upvars.upvars.Goals as goal

pub add_mentions-requires-clause-inside : goal.add_mentions-requires-clause-inside
add_mentions-requires-clause-inside c =
    λ e. c.in_ok-inside.ensures e ∙ ap (λ es. has_expr es e) (c.as_slice-body.ensures ∙ c.in_ok-exprs.ensures)

pub returns : goal.returns
returns c =
    let order = c.in_ok-add_mentions.ensures
    ∙ ap (with_upvars c.args.store.now c.args.resolutions.now c.args.closure []) (c.as_slice-body.ensures ∙ c.in_ok-exprs.ensures) in
    record {
      listed = listed c.args.store.now c.args.resolutions.now c.args.closure c.add_mentions.new.upvars order;
      order = order;
    }
