use Rattle.std.proofs.Common.{ap, ◌∙◌}
use Rattle.std.specs.Prelude.{option_map}
use Rattle.json_nodes.specs.declared.code_parts.ExprPart.TheVariants as expr_part
use Rattle.json_nodes.specs.Others.{of_block}
use Rattle.json_nodes.proofs.others.of_block.Goals as goal

pub returns : goal.returns
unfolding of_block
returns g c = λ e.
    let made = c.in_ok-block.ensures e in
    let tail = c.field-tail.ensures made.0 in
    let stmts = c.field-stmts.ensures tail.0 in
    let ty = c.field-ty.ensures stmts.0 in
    let label = c.field-label.ensures ty.0 in (
      label.0,
      ap (option_map expr_part.Block) made.1 ∙ rw (
        c.id.ensures,
        c.range.ensures,
        c.modifier.ensures,
        c.value.ensures,
        label.1,
        ty.1,
        c.flag.ensures,
        c.value-2.ensures,
        stmts.1,
        tail.1,
      ),
    )

pub returns-in_err-block : goal.returns-in_err-block
returns-in_err-block g c = λ e.
    let made = c.in_err-block.ensures e in
    absurd (cc made.1)

pub field-stmts-requires : goal.field-stmts-requires
field-stmts-requires g c = c.requires

pub field-label-requires : goal.field-label-requires
field-label-requires g c = c.requires

pub field-tail-requires : goal.field-tail-requires
field-tail-requires g c = c.requires

pub field-ty-requires : goal.field-ty-requires
field-ty-requires g c = c.requires
