use Rattle.std.proofs.Common.{rules, ◌∙◌, ◌+◌, sym, drop}
use Rattle.json_errors.proofs.Sides.{hit, miss, none_left, this_first}
use Rattle.json_errors.proofs.members.found.Goals as goal

pub returns-then-is_same : goal.returns-then-is_same
returns-then-is_same c =
    let ms = c.args.members.now in
    let i = c.loop-member.member-index in
    sym (c.loop-member.invariant
    ∙ this_first c.args.name.now ms i c.member-item.result c.loop-member-test.true c.member-item.is
    ∙ hit c.args.name.now c.member-item.result (drop (i + 1) ms) (search rules))

pub loop-member-preserved : goal.loop-member-preserved
loop-member-preserved c =
    let ms = c.args.members.now in
    let i = c.loop-member.member-index in
    c.loop-member.invariant
    ∙ this_first c.args.name.now ms i c.member-item.result c.loop-member-test.true c.member-item.is
    ∙ miss c.args.name.now c.member-item.result (drop (i + 1) ms) (search rules)

pub returns : goal.returns
returns c = sym (c.loop-member.invariant
    ∙ none_left c.args.name.now c.args.members.now c.loop-member.member-index c.loop-member-test.false)
