use Rattle.std.proofs.lemmas.Grind.{common_steps}
use Rattle.std.proofs.Common.{◌∙◌, [], arith}
use Rattle.hir_store.specs.Range.{HasPatFields}
use Rattle.hir_env.specs.Targets.{target_fields}
use Rattle.hir_env.specs.Whole.{fields_part}
use Rattle.hir_lower_builder.specs.Lower.{lower_target_fields}
use Rattle.hir_lower_pat.specs.Assignees.{found_at}
use Rattle.hir_lower_pat.proofs.AssigneeFuel.{field_left_out, field_more, field_refused, fields_has, fields_stay, grows_on}
use Rattle.hir_lower_pat.proofs.KindLemmas.{first_of}
use Rattle.hir_lower_pat.proofs.TypePats.{handed_on}
use Rattle.hir_lower_bind.proofs.target_records.fields.Goals as goal

pub returns-in_err-field : goal.returns-in_err-field
returns-in_err-field g c =
    let l = c.loop-left in
    let rctx = g.T.Here.rctx c.args.parts.now in
    handed_on HasPatFields (lower_target_fields [] (target_fields (found_at rctx) (fields_part rctx c.args.left.now))) c.args.state.now _
    c.from_residual.result c.field.new.state c.from_residual.ensures.1
    (λ other.
    let h = c.in_err-field.ensures other in
    let is = field_refused rctx l.left.now c.one-item.result l.state c.field.new.state l.done _ c.one-item.is
    c.in-len1-up.len_at_least h.0 in
    (l.invariant.so_far ∙ is, h.1))

pub loop-left-preserved-in_ok-push_pat_field : goal.loop-left-preserved-in_ok-push_pat_field
loop-left-preserved-in_ok-push_pat_field g c =
    let l = c.loop-left in
    let new = c.field.new.state in
    let rctx = g.T.Here.rctx c.args.parts.now in
    let first = first_of l.left.now c.one-item.result c.one-item.is c.in-len1-up.len_at_least in
    let may = rw first at l.invariant.may in
    let put = rw c.in-Some.is at c.in_ok-field.ensures in
    let pushed = c.in_ok-push_pat_field.ensures in
    let more = field_more rctx l.left.now c.one-item.result l.state new l.done c.in-Some.field c.push_pat_field.new.fields c.one-item.is
    c.in-len1-up.len_at_least put.0 pushed.items in
    record {
      so_far = l.invariant.so_far ∙ more;
      may = may.1;
      placed = (
        grows_on c.args.state.now.stored l.state.stored new.stored l.invariant.placed.0 put.1,
        fields_has l.state.stored new.stored l.done c.push_pat_field.new.fields c.in-Some.field
            pushed.past put.1 l.invariant.placed.1 put.2,
      );
    }

pub loop-left-preserved : goal.loop-left-preserved
loop-left-preserved g c =
    let l = c.loop-left in
    let new = c.field.new.state in
    let rctx = g.T.Here.rctx c.args.parts.now in
    let first = first_of l.left.now c.one-item.result c.one-item.is c.in-len1-up.len_at_least in
    let may = rw first at l.invariant.may in
    let left_out = rw c.in_default-2.is at c.in_ok-field.ensures in
    let same = field_left_out rctx l.left.now c.one-item.result l.state new l.done c.one-item.is c.in-len1-up.len_at_least left_out.0 in
    record {
      so_far = l.invariant.so_far ∙ same;
      may = may.1;
      placed = (
        grows_on c.args.state.now.stored l.state.stored new.stored l.invariant.placed.0 left_out.1,
        fields_stay l.state.stored new.stored l.done left_out.1 l.invariant.placed.1,
      );
    }

pub loop-left-init : goal.loop-left-init
loop-left-init g c = grind (arith, common_steps)

pub field-requires : goal.field-requires
field-requires g c = grind (arith, common_steps)

pub slice_bounds-rest-count : goal.slice_bounds-rest-count
slice_bounds-rest-count g c = grind (arith, common_steps)

pub loop-left-smaller : goal.loop-left-smaller
loop-left-smaller g c = grind (arith, common_steps)

pub bounds-left-0 : goal.bounds-left-0
bounds-left-0 g c = grind (arith, common_steps)

pub slice_bounds-rest-start : goal.slice_bounds-rest-start
slice_bounds-rest-start g c = grind (arith, common_steps)

pub loop-left-smaller-in_ok-push_pat_field : goal.loop-left-smaller-in_ok-push_pat_field
loop-left-smaller-in_ok-push_pat_field g c = grind (arith, common_steps)

pub returns : goal.returns
returns g c = grind (arith, common_steps)
