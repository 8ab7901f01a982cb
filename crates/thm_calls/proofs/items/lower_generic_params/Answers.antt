use Rattle.std.specs.Prelude.{option_copied}
use Rattle.thm_calls.specs.Promises.{GenericsPromise}
use Rattle.thm_calls.proofs.Promised.{of_each}
use Rattle.thm_calls.proofs.Ruled as ruled
use Rattle.thm_calls.proofs.items.lower_generic_params.Goals as goal

pub returns-clause-promise : goal.returns-clause-promise
returns-clause-promise g c = record {
  result = c.lower_generic_params.ensures.result;
  stored = c.lower_generic_params.ensures.stored;
  params = c.lower_generic_params.ensures.params;
  reached_once = c.lower_generic_params.ensures.reached_once;
  inside_reached_once = c.lower_generic_params.ensures.inside_reached_once;
  made_once = c.lower_generic_params.ensures.made_once;
  in_range = c.lower_generic_params.ensures.in_range;
  params_in_range = c.lower_generic_params.ensures.params_in_range;
  too_large = c.lower_generic_params.ensures.too_large;
  fits = c.lower_generic_params.ensures.fits;
  own = c.lower_generic_params.ensures.own;
}

pub returns-clause-by_rules : goal.returns-clause-by_rules
returns-clause-by_rules g c =
    let a = c.args in
    let env = g.E.LowerEnv.answers a.db.now in
    of_each (ruled.generic_params env a.file_id a.inside a.mode a.def (option_copied a.param_list) (option_copied a.where_clause))
    (GenericsPromise a.def) (returns-clause-promise g c)
