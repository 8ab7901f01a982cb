use Rattle.std.proofs.Common.{◌∙◌, sym}
use Rattle.hir_names.proofs.UpvarLemmas.{new_added, new_seen, there_kept, there_seen}
use Rattle.hir_names.proofs.upvars.add_binding.Goals as goal

pub returns-then-not-is_new : goal.returns-then-not-is_new
returns-then-not-is_new c =
    let old = sym c.if-not-is_new.true ∙ c.in_ok-is_new.ensures.added in
    record {
      seen = there_seen c.args.seen.now c.insert.new.self c.args.upvars.now c.args.binding c.requires
          (λ b. c.in_ok-is_new.ensures.updates.0 b) old;
      upvars = there_kept c.args.seen.now c.insert.new.self c.args.upvars.now c.args.binding c.requires
          (λ b. c.in_ok-is_new.ensures.updates.0 b) old;
    }

pub returns : goal.returns
returns c =
    let new = sym c.if-not-is_new.false ∙ c.in_ok-is_new.ensures.added in
    record {
      seen = new_seen c.args.seen.now c.insert.new.self c.args.upvars.now c.args.binding c.requires
          (λ b. c.in_ok-is_new.ensures.updates.0 b) c.push.new.self c.in_ok-push.ensures.ok;
      upvars = new_added c.args.seen.now c.insert.new.self c.args.upvars.now c.args.binding c.requires
          (λ b. c.in_ok-is_new.ensures.updates.0 b) c.push.new.self c.in_ok-push.ensures.ok new;
    }
