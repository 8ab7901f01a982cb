use Rattle.std.proofs.Common.{◌∙◌, sym}
use Rattle.hir_syntax.specs.declared.ast.ExprKind.TheVariants as kind
use Rattle.hir_lower_pat.proofs.AssigneeLemmas.{assignees_as, only_places, opened}
use Rattle.hir_lower_pat.proofs.AtNodes.{kept_as}
use Rattle.hir_lower_bind.proofs.targets.kept_assignee.Goals as goal

pub returns-in-UnderscoreExpr : goal.returns-in-UnderscoreExpr
returns-in-UnderscoreExpr g c =
    let is = opened (kind.rolls-UnderscoreExpr ∙ sym c.in-UnderscoreExpr.is) in
    assignees_as (g.T.Here.rctx c.args.parts.now) c.args.call c.args.node.now _ c.args.at _ _ _ c.requires.at c.requires.enabled is
    c.wild.ensures

pub path_assignee-requires : goal.path_assignee-requires
path_assignee-requires g c = rw (opened (kind.rolls-PathExpr _ ∙ sym c.in-PathExpr.is)) at c.requires.parts

pub returns-in-PathExpr : goal.returns-in-PathExpr
returns-in-PathExpr g c =
    let is = opened (kind.rolls-PathExpr _ ∙ sym c.in-PathExpr.is) in
    assignees_as (g.T.Here.rctx c.args.parts.now) c.args.call c.args.node.now _ c.args.at _ _ _ c.requires.at c.requires.enabled is
    c.path_assignee.ensures

pub paren_assignee-requires : goal.paren_assignee-requires
paren_assignee-requires g c = rw (opened (kind.rolls-ParenExpr _ ∙ sym c.in-ParenExpr.is)) at c.requires.parts

pub returns-in-ParenExpr : goal.returns-in-ParenExpr
returns-in-ParenExpr g c =
    let is = opened (kind.rolls-ParenExpr _ ∙ sym c.in-ParenExpr.is) in
    assignees_as (g.T.Here.rctx c.args.parts.now) c.args.call c.args.node.now _ c.args.at _ _ _ c.requires.at c.requires.enabled is
    c.paren_assignee.ensures

pub tuple_assignee-requires : goal.tuple_assignee-requires
tuple_assignee-requires g c = rw (opened (kind.rolls-TupleExpr _ _ ∙ sym c.in-TupleExpr.is)) at c.requires.parts

pub returns-in-TupleExpr : goal.returns-in-TupleExpr
returns-in-TupleExpr g c =
    let is = opened (kind.rolls-TupleExpr _ _ ∙ sym c.in-TupleExpr.is) in
    assignees_as (g.T.Here.rctx c.args.parts.now) c.args.call c.args.node.now _ c.args.at _ _ _ c.requires.at c.requires.enabled is
    c.tuple_assignee.ensures

pub array_assignee-requires : goal.array_assignee-requires
array_assignee-requires g c = rw (opened (kind.rolls-ArrayExpr _ ∙ sym c.in-ArrayExpr.is)) at c.requires.parts

pub returns-in-ArrayExpr : goal.returns-in-ArrayExpr
returns-in-ArrayExpr g c =
    let is = opened (kind.rolls-ArrayExpr _ ∙ sym c.in-ArrayExpr.is) in
    assignees_as (g.T.Here.rctx c.args.parts.now) c.args.call c.args.node.now _ c.args.at _ _ _ c.requires.at c.requires.enabled is
    c.array_assignee.ensures

pub call_assignee-requires : goal.call_assignee-requires
call_assignee-requires g c =
    let is = opened (kind.rolls-CallExpr _ _ ∙ sym c.in-CallExpr.is) in
    let may = rw is at c.requires.parts in
    record {
      callee = may.0;
      args = may.1;
      place = c.requires.place;
      is = kept_as (g.T.Here.rctx c.args.parts.now) c.args.node.now _ c.args.at c.requires.at c.requires.enabled is;
    }

pub returns-in-CallExpr : goal.returns-in-CallExpr
returns-in-CallExpr g c = c.call_assignee.ensures

pub record_assignee-requires : goal.record_assignee-requires
record_assignee-requires g c =
    let is = opened (kind.rolls-RecordExpr _ _ ∙ sym c.in-RecordExpr.is) in
    let may = rw is at c.requires.parts in
    record {
      path = may.0;
      list = may.1;
      place = c.requires.place;
      is = kept_as (g.T.Here.rctx c.args.parts.now) c.args.node.now _ c.args.at c.requires.at c.requires.enabled is;
    }

pub returns-in-RecordExpr : goal.returns-in-RecordExpr
returns-in-RecordExpr g c = c.record_assignee.ensures

pub unreachable-requires : goal.unreachable-requires
unreachable-requires g c = rw (opened (kind.rolls-MacroExpr _ ∙ sym c.in-MacroExpr.is)) at c.requires.uncalled

pub other_assignee-requires : goal.other_assignee-requires
other_assignee-requires g c =
    let no = c.in_default in
    record {
      place = c.requires.place;
      kind = only_places c.args.node.now.kind no.not-UnderscoreExpr no.not-PathExpr no.not-ParenExpr no.not-TupleExpr
          no.not-ArrayExpr no.not-CallExpr no.not-RecordExpr no.not-MacroExpr;
    }

pub returns-in_default : goal.returns-in_default
returns-in_default g c = c.other_assignee.ensures
