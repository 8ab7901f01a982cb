use Rattle.std.proofs.Common.{◌∙◌, sym}
use Rattle.hir_names.proofs.UpvarLemmas.{made_inside, made_outside, nothing_meant}
use Rattle.hir_names.proofs.upvars.add_mention.Goals as goal

pub returns-in_default : goal.returns-in_default
returns-in_default c = record {
  seen = c.requires.seen;
  upvars = nothing_meant c.args.store.now c.args.resolutions.now c.args.closure c.args.upvars.now _ c.in_default.ensures;
}

pub returns-then-is_made_in : goal.returns-then-is_made_in
returns-then-is_made_in c = record {
  seen = c.requires.seen;
  upvars = made_inside c.args.store.now c.args.resolutions.now c.args.closure c.args.upvars.now _ c.in-Some.binding c.in-Some.ensures
      (sym c.is_made_in.ensures ∙ c.if-is_made_in.true);
}

pub returns : goal.returns
returns c = record {
  seen = c.in_ok-add_binding.ensures.seen;
  upvars = made_outside c.args.store.now c.args.resolutions.now c.args.closure c.args.upvars.now c.add_binding.new.upvars _
      c.in-Some.binding c.in-Some.ensures (sym c.is_made_in.ensures ∙ c.if-is_made_in.false) c.in_ok-add_binding.ensures.upvars;
}
