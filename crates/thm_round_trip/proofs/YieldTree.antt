-- What lowering notes of `yield`s is what is written.
use Rattle.std.proofs.Common.{◌≡◌, subst, false, ◌||◌, Ok}
use Rattle.hir_store.specs.declared.ids.ExprId.{ExprId}
use Rattle.hir_env.specs.ResolvedTree.{OptionExpr, OptionType, Params}
use Rattle.spec_data.specs.Yields.{yields_in}
use Rattle.hir_lower_builder.specs.declared.closures.ClosureParams.{ClosureParams}
use Rattle.hir_lower_builder.specs.Builder.{Builder}
use Rattle.hir_lower_builder.specs.Lower.{lower_params, lower_part, present_type}
use Rattle.thm_logic.specs.Keeps.{Paired}
use Rattle.thm_round_trip.proofs.AsYields.{yields_graded}
use Rattle.thm_logic.proofs.GradedTree.{expr_part_graded, params_graded, present_graded}
use Rattle.thm_logic.proofs.Yields.{Raises, RaisedTo, raises_as}
use Rattle.thm_round_trip.proofs.YieldsAgree.{expr_part_is, params_off, present_off}

pub part_raises : (e : OptionExpr) → Raises (yields_in e) (lower_part e)
part_raises e = raises_as (expr_part_is e) (expr_part_graded yields_graded e).1

pub params_raise : (l : ClosureParams) (xs : Params) → Raises false (lower_params l xs)
params_raise l xs = raises_as (params_off xs) (params_graded yields_graded l xs).1

pub present_type_raises : (t : OptionType) → Raises false (present_type t)
present_type_raises t = raises_as (present_off t) (present_graded yields_graded t).1

pub yields_theorem : (e : OptionExpr) (b c : Builder) (i : ExprId) → Paired b.stored → lower_part e b ≡ (Ok i, c)
    → c.yields ≡ (b.yields || yields_in e)
yields_theorem e b c i d is = (subst (λ r. RaisedTo (yields_in e) b r.0 r.1) is ((part_raises e).at b d)).1
