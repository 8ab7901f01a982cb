use Rattle.thm_calls.specs.Promises.{FunctionPromise}
use Rattle.thm_calls.proofs.Promised.{of_each}
use Rattle.thm_calls.proofs.Ruled as ruled
use Rattle.thm_calls.proofs.items.lower_function.Goals as goal

pub returns-clause-promise : goal.returns-clause-promise
returns-clause-promise g c = record {
  result = c.lower_function.ensures.result;
  stored = c.lower_function.ensures.stored;
  params = c.lower_function.ensures.params;
  reads = c.lower_function.ensures.reads;
  reached_once = c.lower_function.ensures.reached_once;
  inside_reached_once = c.lower_function.ensures.inside_reached_once;
  made_once = c.lower_function.ensures.made_once;
  in_range = c.lower_function.ensures.in_range;
  answer_in_range = c.lower_function.ensures.answer_in_range;
  params_in_range = c.lower_function.ensures.params_in_range;
  too_large = c.lower_function.ensures.too_large;
  fits = c.lower_function.ensures.fits;
  own = c.lower_function.ensures.own;
}

pub returns-clause-by_rules : goal.returns-clause-by_rules
returns-clause-by_rules g c =
    let a = c.args in
    of_each (ruled.function (g.E.LowerEnv.answers a.db.now) a.item.file_id a.inside a.id a.item.value.now) (FunctionPromise a.id)
    (returns-clause-promise g c)
