use Rattle.std.proofs.Common.{sym, ap, Option}
use Rattle.std.proofs.lemmas.Option.{slice_get_read}
use Rattle.hir_binding.specs.declared.list.Entry.{Entry}
use Rattle.hir_binding.specs.Bindings.{problem_of}
use Rattle.hir_binding.specs.Steps.{Tracked}
use Rattle.hir_binding.proofs.Theorem.{shows_at, last_at}
use Rattle.hir_binding.proofs.list.BindingList.problem.Goals as goal

pub returns-clause-rule : goal.returns-clause-rule
returns-clause-rule c = λ t e. shows_at _ _ c.args.name t
    (sym (ap (λ (o : Option Entry). problem_of o) (slice_get_read c.args.self.now.entries.items _ c.args.name
    c.index-entry.result.now c.args.self.now.entries.ok.0 c.requires c.index-entry.ensures)))
    (ap (λ (s : Tracked). s.problem) e)

pub returns-clause-last : goal.returns-clause-last
returns-clause-last c = λ t e. last_at _ _ c.args.name t
    (sym (ap (λ (o : Option Entry). problem_of o) (slice_get_read c.args.self.now.entries.items _ c.args.name
    c.index-entry.result.now c.args.self.now.entries.ok.0 c.requires c.index-entry.ensures)))
    (ap (λ (s : Tracked). s.problem) e)
