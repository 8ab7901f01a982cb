use Rattle.thm_calls.specs.Promises.{ImplPromise}
use Rattle.thm_calls.proofs.Promised.{of_each}
use Rattle.thm_calls.proofs.Ruled as ruled
use Rattle.thm_calls.proofs.items.lower_impl.Goals as goal

pub returns-clause-promise : goal.returns-clause-promise
returns-clause-promise g c = record {
  result = c.lower_impl.ensures.result;
  stored = c.lower_impl.ensures.stored;
  params = c.lower_impl.ensures.params;
  reads = c.lower_impl.ensures.reads;
  reached_once = c.lower_impl.ensures.reached_once;
  inside_reached_once = c.lower_impl.ensures.inside_reached_once;
  made_once = c.lower_impl.ensures.made_once;
  in_range = c.lower_impl.ensures.in_range;
  answer_in_range = c.lower_impl.ensures.answer_in_range;
  params_in_range = c.lower_impl.ensures.params_in_range;
  too_large = c.lower_impl.ensures.too_large;
  fits = c.lower_impl.ensures.fits;
  own = c.lower_impl.ensures.own;
}

pub returns-clause-by_rules : goal.returns-clause-by_rules
returns-clause-by_rules g c =
    let a = c.args in
    of_each (ruled.implementation (g.E.LowerEnv.answers a.db.now) a.item.file_id a.inside a.id a.item.value.now) (ImplPromise a.id)
    (returns-clause-promise g c)
