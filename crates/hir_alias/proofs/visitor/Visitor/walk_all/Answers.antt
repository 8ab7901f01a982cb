use Rattle.hir_alias.proofs.Walked.{walk_of_none, walk_started}
use Rattle.hir_alias.proofs.visitor.Visitor.walk_all.Goals as goal

pub go_on-requires-clause-sound : goal.go_on-requires-clause-sound
go_on-requires-clause-sound c =
    let e = c.in_ok-begin.ensures in
    walk_started c.args.self.now c.begin.new.self c.put.new.self c.in-Some.root e.same e.tracks c.in_ok-put-in-Some.ensures

pub returns-in-None-clause-emitted : goal.returns-in-None-clause-emitted
returns-in-None-clause-emitted c =
    let e = c.in_ok-begin.ensures in walk_of_none c.args.self.now c.begin.new.self e.same e.tracks c.in-None.is
