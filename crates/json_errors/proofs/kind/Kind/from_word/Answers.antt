use Rattle.std.proofs.Common.{◌∙◌, sym}
use Rattle.json_errors.proofs.ByLength.{of_length, unknown}
use Rattle.json_errors.proofs.kind.Kind.from_word.Goals as goal

pub returns-then-word-eq2 : goal.returns-then-word-eq2
returns-then-word-eq2 c = c.of_2.ensures ∙ sym (of_length 2 c.args.word.now c.if-word-eq2.true)

pub returns-then-word-eq4 : goal.returns-then-word-eq4
returns-then-word-eq4 c = c.of_4.ensures ∙ sym (of_length 4 c.args.word.now c.if-word-eq4.true)

pub returns-then-word-eq5 : goal.returns-then-word-eq5
returns-then-word-eq5 c = c.of_5.ensures ∙ sym (of_length 5 c.args.word.now c.if-word-eq5.true)

pub returns-then-word-eq6 : goal.returns-then-word-eq6
returns-then-word-eq6 c = c.of_6.ensures ∙ sym (of_length 6 c.args.word.now c.if-word-eq6.true)

pub returns-then-word-eq7 : goal.returns-then-word-eq7
returns-then-word-eq7 c = c.of_7.ensures ∙ sym (of_length 7 c.args.word.now c.if-word-eq7.true)

pub returns-then-word-eq8 : goal.returns-then-word-eq8
returns-then-word-eq8 c = c.of_8.ensures ∙ sym (of_length 8 c.args.word.now c.if-word-eq8.true)

pub returns-then-word-eq9 : goal.returns-then-word-eq9
returns-then-word-eq9 c = c.of_9.ensures ∙ sym (of_length 9 c.args.word.now c.if-word-eq9.true)

pub returns-then-word-eq10 : goal.returns-then-word-eq10
returns-then-word-eq10 c = c.of_10.ensures ∙ sym (of_length 10 c.args.word.now c.if-word-eq10.true)

pub returns-then-word-eq11 : goal.returns-then-word-eq11
returns-then-word-eq11 c = c.of_11.ensures ∙ sym (of_length 11 c.args.word.now c.if-word-eq11.true)

pub returns-then-word-eq12 : goal.returns-then-word-eq12
returns-then-word-eq12 c = c.of_12.ensures ∙ sym (of_length 12 c.args.word.now c.if-word-eq12.true)

pub returns-then-word-eq13 : goal.returns-then-word-eq13
returns-then-word-eq13 c = c.of_13.ensures ∙ sym (of_length 13 c.args.word.now c.if-word-eq13.true)

pub returns-then-word-eq14 : goal.returns-then-word-eq14
returns-then-word-eq14 c = c.of_14.ensures ∙ sym (of_length 14 c.args.word.now c.if-word-eq14.true)

pub returns-then-word-eq15 : goal.returns-then-word-eq15
returns-then-word-eq15 c = c.of_15.ensures ∙ sym (of_length 15 c.args.word.now c.if-word-eq15.true)

pub returns-then-word-eq16 : goal.returns-then-word-eq16
returns-then-word-eq16 c = c.of_16.ensures ∙ sym (of_length 16 c.args.word.now c.if-word-eq16.true)

pub returns-then-word-eq19 : goal.returns-then-word-eq19
returns-then-word-eq19 c = c.of_19.ensures ∙ sym (of_length 19 c.args.word.now c.if-word-eq19.true)

pub returns : goal.returns
returns c = sym (unknown c.args.word.now c.if-word-eq2.false c.if-word-eq4.false c.if-word-eq5.false
    c.if-word-eq6.false c.if-word-eq7.false c.if-word-eq8.false c.if-word-eq9.false
    c.if-word-eq10.false c.if-word-eq11.false c.if-word-eq12.false c.if-word-eq13.false
    c.if-word-eq14.false c.if-word-eq15.false c.if-word-eq16.false c.if-word-eq19.false)
