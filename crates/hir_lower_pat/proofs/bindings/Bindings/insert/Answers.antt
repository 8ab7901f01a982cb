use Rattle.std.proofs.Common.{ap}
use Rattle.hir_lower_pat.proofs.NameLemmas.{goes_last, same_keys}
use Rattle.hir_lower_pat.proofs.bindings.Bindings.insert.Goals as goal

pub insert-requires : goal.insert-requires
insert-requires c = ap (λ name. (name, c.args.key.1)) c.in_ok-clone.ensures.cases

pub returns-clause-ids : goal.returns-clause-ids
returns-clause-ids c =
    goes_last c.insert.result _ same_keys c.args.self.now.ids c.insert.new.self c.args.key c.args.id c.insert.ensures.ok c.requires
