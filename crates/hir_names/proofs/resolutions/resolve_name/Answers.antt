use Rattle.hir_names.proofs.AnswerLemmas.{found_means, found_reads, no_name, no_scope, none_reads}
use Rattle.hir_names.proofs.resolutions.resolve_name.Goals as goal

pub returns-in_default : goal.returns-in_default
returns-in_default g c = record {
  here = c.requires;
  means = no_name c.args.store.now c.args.scopes.now (g.E.LowerEnv.answers c.args.env.now).contexts c.args.expr _ c.in_default.ensures;
  reads = none_reads c.args.store.now c.args.scopes.now (g.E.LowerEnv.answers c.args.env.now).contexts c.args.expr;
}

pub returns-in_default-scope_for : goal.returns-in_default-scope_for
returns-in_default-scope_for g c = record {
  here = c.requires;
  means = no_scope c.args.store.now c.args.scopes.now (g.E.LowerEnv.answers c.args.env.now).contexts c.args.expr _
      c.in_default-scope_for.ensures;
  reads = none_reads c.args.store.now c.args.scopes.now (g.E.LowerEnv.answers c.args.env.now).contexts c.args.expr;
}

pub returns : goal.returns
returns g c = record {
  here = c.in_ok-move_to.ensures;
  means = found_means c.args.store.now c.args.scopes.now (g.E.LowerEnv.answers c.args.env.now).contexts c.args.expr c.in-Some.name.now
      c.in-Some-scope_for.scope c.expr_path_hygiene.result c.move_to.new.stacks c.find.result c.in-Some.ensures
      c.in-Some-scope_for.ensures c.expr_path_hygiene.ensures c.in_ok-move_to.ensures c.find.ensures;
  reads = λ b is.
      found_reads c.args.store.now c.args.scopes.now (g.E.LowerEnv.answers c.args.env.now).contexts c.args.expr c.in-Some.name.now
      c.in-Some-scope_for.scope c.in-Some.ensures c.in-Some-scope_for.ensures;
}
