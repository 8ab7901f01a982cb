use Rattle.std.proofs.lemmas.Grind.{common_steps}
use Rattle.std.proofs.Common.{arith}
use Rattle.std.specs.Prelude.{option_copied}
use Rattle.hir_lower.specs.Roots.{type_rctx}
use Rattle.hir_lower.proofs.GeneratedNames.{type_once_if}
use Rattle.hir_lower.proofs.TypeMeanings.{type_expanded_if, type_fits_if, type_result_if, type_stored_if, type_too_large}
use Rattle.hir_lower.proofs.type_ref.lower_type_ref.Goals as goal

pub returns-clause-type_result : goal.returns-clause-type_result
returns-clause-type_result g c =
    type_result_if _ _ 4294967295 (λ r. r.0) (λ r. r.1) (λ r. r.2) c.type_steps.result c.type_steps.ensures.stores

pub returns-clause-expanded : goal.returns-clause-expanded
returns-clause-expanded g c =
    type_expanded_if _ _ 4294967295 (λ r. r.0) (λ r. r.1) (λ r. r.2) c.type_steps.result c.type_steps.ensures.stores

pub returns-clause-stored : goal.returns-clause-stored
returns-clause-stored g c =
    type_stored_if _ _ 4294967295 (λ r. r.0) (λ r. r.1) (λ r. r.2) c.type_steps.result c.type_steps.ensures.stores

pub returns-clause-too_large : goal.returns-clause-too_large
returns-clause-too_large g c = λ is. type_too_large _ _ 4294967295 (c.type_steps.ensures.full is)

pub returns-clause-made_once : goal.returns-clause-made_once
returns-clause-made_once g c =
    let at = type_rctx (g.E.LowerEnv.answers c.args.db.now) c.args.type_ref.file_id c.args.inside in
    type_once_if at (option_copied c.args.type_ref.value) 4294967295 (λ r. r.0) (λ r. r.1) (λ r. r.2) c.type_steps.result
    c.type_steps.ensures.stores

pub returns-clause-fits : goal.returns-clause-fits
returns-clause-fits g c =
    type_fits_if _ _ 4294967295 (λ r. r.0) (λ r. r.1) (λ r. r.2) c.type_steps.result c.type_steps.ensures.stores

pub returns-clause-in_range : goal.returns-clause-in_range
returns-clause-in_range g c = grind (arith, common_steps)

pub returns-clause-own : goal.returns-clause-own
returns-clause-own g c = grind (arith, common_steps)
