use Rattle.std.proofs.lemmas.Grind.{common_steps}
use Rattle.std.proofs.Common.{arith}
use Rattle.hir_lower.proofs.Bodies.{body_expanded_if, body_fits_if, body_stored_if, body_too_large, has_body_if, one_result_if}
use Rattle.hir_lower.proofs.GeneratedNames.{made_once_if}
use Rattle.hir_lower.proofs.Params.{params_if}
use Rattle.hir_lower.proofs.body.lower_body.Goals as goal

pub returns-clause-same_meaning : goal.returns-clause-same_meaning
returns-clause-same_meaning g c =
    has_body_if _ _ _ _ _ _ 4294967295 (λ r. r.0.store) (λ r. r.1.store) (λ r. r.0) c.body_steps.result c.body_steps.ensures.stores
    c.body_steps.ensures.given

pub returns-clause-one_result : goal.returns-clause-one_result
returns-clause-one_result g c =
    one_result_if _ _ _ _ _ _ 4294967295 (λ r. r.0.store) (λ r. r.1.store) (λ r. r.0) c.body_steps.result c.body_steps.ensures.stores
    c.body_steps.ensures.given

pub returns-clause-expanded : goal.returns-clause-expanded
returns-clause-expanded g c =
    body_expanded_if _ _ _ _ _ _ 4294967295 (λ r. r.0.store) (λ r. r.1.store) c.body_steps.result c.body_steps.ensures.stores

pub returns-clause-stored : goal.returns-clause-stored
returns-clause-stored g c =
    body_stored_if _ _ _ _ _ _ 4294967295 (λ r. r.0.store) (λ r. r.1.store) c.body_steps.result c.body_steps.ensures.stores

pub returns-clause-params : goal.returns-clause-params
returns-clause-params g c =
    params_if _ _ _ _ _ _ 4294967295 (λ r. r.0) (λ r. r.0.store) (λ r. r.1.store) c.body_steps.result c.body_steps.ensures.stores
    c.body_steps.ensures.given

pub returns-clause-too_large : goal.returns-clause-too_large
returns-clause-too_large g c = λ is. body_too_large _ _ _ _ _ _ 4294967295 (c.body_steps.ensures.full is)

pub returns-clause-made_once : goal.returns-clause-made_once
returns-clause-made_once g c =
    made_once_if _ _ _ _ _ _ 4294967295 (λ r. r.0) (λ r. r.0.store) (λ r. r.1.store) c.body_steps.result c.body_steps.ensures.stores
    c.body_steps.ensures.given

pub returns-clause-fits : goal.returns-clause-fits
returns-clause-fits g c =
    body_fits_if _ _ _ _ _ _ 4294967295 (λ r. r.0.store) (λ r. r.1.store) c.body_steps.result c.body_steps.ensures.stores

pub returns-clause-steps : goal.returns-clause-steps
returns-clause-steps g c = record {
  stores = c.body_steps.ensures.stores;
  given = c.body_steps.ensures.given;
  full = c.body_steps.ensures.full;
}

pub returns-clause-own : goal.returns-clause-own
returns-clause-own g c = grind (arith, common_steps)

pub returns-clause-self_source : goal.returns-clause-self_source
returns-clause-self_source g c = grind (arith, common_steps)

pub returns-clause-in_range : goal.returns-clause-in_range
returns-clause-in_range g c = grind (arith, common_steps)
