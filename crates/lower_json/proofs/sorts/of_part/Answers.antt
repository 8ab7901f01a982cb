use Rattle.json_nodes.specs.declared.part.AnyOf.TheVariants as part
use Rattle.lower_json.proofs.ByKind.{is_bound, is_branch, is_record, is_macro, is_pat_field, is_param, is_other}
use Rattle.lower_json.proofs.Firsts.{by_group, made}
use Rattle.lower_json.proofs.sorts.of_part.Goals as goal

pub returns-in_ok-of_bound-in-TypeBound : goal.returns-in_ok-of_bound-in-TypeBound
returns-in_ok-of_bound-in-TypeBound g c = by_group (is_bound _ _ c.in-TypeBound.is)
    (made part.Type_ c.in_ok-of_bound-in-TypeBound.ensures)

pub returns-in_err-of_bound-in-TypeBound : goal.returns-in_err-of_bound-in-TypeBound
returns-in_err-of_bound-in-TypeBound g c = by_group (is_bound _ _ c.in-TypeBound.is)
    (rw c.from_residual.ensures (made part.Type_ c.in_err-of_bound-in-TypeBound.ensures))

pub returns-in_ok-of_branch-in-MatchArm : goal.returns-in_ok-of_branch-in-MatchArm
returns-in_ok-of_branch-in-MatchArm g c = by_group (is_branch _ _ c.in-MatchArm.is)
    (made part.Code c.in_ok-of_branch-in-MatchArm.ensures)

pub returns-in_err-of_branch-in-MatchArm : goal.returns-in_err-of_branch-in-MatchArm
returns-in_err-of_branch-in-MatchArm g c = by_group (is_branch _ _ c.in-MatchArm.is)
    (rw c.from_residual-in_err-of_branch-in-MatchArm.ensures (made part.Code c.in_err-of_branch-in-MatchArm.ensures))

pub returns-in_ok-of_record-in-RecordExprFieldList : goal.returns-in_ok-of_record-in-RecordExprFieldList
returns-in_ok-of_record-in-RecordExprFieldList g c = by_group (is_record _ _ c.in-RecordExprFieldList.is)
    (made part.Code c.in_ok-of_record-in-RecordExprFieldList.ensures)

pub returns-in_err-of_record-in-RecordExprFieldList : goal.returns-in_err-of_record-in-RecordExprFieldList
returns-in_err-of_record-in-RecordExprFieldList g c = by_group (is_record _ _ c.in-RecordExprFieldList.is)
    (rw c.from_residual-in_err-of_record-in-RecordExprFieldList.ensures (made part.Code c.in_err-of_record-in-RecordExprFieldList.ensures))

pub returns-in_ok-of_macro-in-MacroCall : goal.returns-in_ok-of_macro-in-MacroCall
returns-in_ok-of_macro-in-MacroCall g c = by_group (is_macro _ _ c.in-MacroCall.is)
    (made part.Code c.in_ok-of_macro-in-MacroCall.ensures)

pub returns-in_err-of_macro-in-MacroCall : goal.returns-in_err-of_macro-in-MacroCall
returns-in_err-of_macro-in-MacroCall g c = by_group (is_macro _ _ c.in-MacroCall.is)
    (rw c.from_residual-in_err-of_macro-in-MacroCall.ensures (made part.Code c.in_err-of_macro-in-MacroCall.ensures))

pub returns-in_ok-of_pat_field-in-RecordPatField : goal.returns-in_ok-of_pat_field-in-RecordPatField
returns-in_ok-of_pat_field-in-RecordPatField g c = by_group (is_pat_field _ _ c.in-RecordPatField.is)
    (made part.Pat c.in_ok-of_pat_field-in-RecordPatField.ensures)

pub returns-in_err-of_pat_field-in-RecordPatField : goal.returns-in_err-of_pat_field-in-RecordPatField
returns-in_err-of_pat_field-in-RecordPatField g c = by_group (is_pat_field _ _ c.in-RecordPatField.is)
    (rw c.from_residual-in_err-of_pat_field-in-RecordPatField.ensures (made part.Pat c.in_err-of_pat_field-in-RecordPatField.ensures))

pub returns-in_ok-of_param-in-Param : goal.returns-in_ok-of_param-in-Param
returns-in_ok-of_param-in-Param g c = by_group (is_param _ _ c.in-Param.is)
    (made part.Param c.in_ok-of_param-in-Param.ensures)

pub returns-in_err-of_param-in-Param : goal.returns-in_err-of_param-in-Param
returns-in_err-of_param-in-Param g c = by_group (is_param _ _ c.in-Param.is)
    (rw c.from_residual-in_err-of_param-in-Param.ensures (made part.Param c.in_err-of_param-in-Param.ensures))

pub returns-in_ok-other-in-Label : goal.returns-in_ok-other-in-Label
returns-in_ok-other-in-Label g c = by_group (is_other _ _ c.in-Label.is)
    (made part.Name c.in_ok-other-in-Label.ensures)

pub returns-in_err-other-in-Label : goal.returns-in_err-other-in-Label
returns-in_err-other-in-Label g c = by_group (is_other _ _ c.in-Label.is)
    (rw c.from_residual-in_err-other-in-Label.ensures (made part.Name c.in_err-other-in-Label.ensures))

pub of_bound-requires : goal.of_bound-requires
of_bound-requires g c = c.requires

pub of_branch-requires : goal.of_branch-requires
of_branch-requires g c = c.requires

pub of_record-requires : goal.of_record-requires
of_record-requires g c = c.requires

pub of_macro-requires : goal.of_macro-requires
of_macro-requires g c = c.requires

pub of_pat_field-requires : goal.of_pat_field-requires
of_pat_field-requires g c = c.requires

pub of_param-requires : goal.of_param-requires
of_param-requires g c = c.requires

pub other-requires : goal.other-requires
other-requires g c = c.requires
