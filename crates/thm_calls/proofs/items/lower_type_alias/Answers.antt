use Rattle.thm_calls.specs.Promises.{AliasPromise}
use Rattle.thm_calls.proofs.Promised.{of_each}
use Rattle.thm_calls.proofs.Ruled as ruled
use Rattle.thm_calls.proofs.items.lower_type_alias.Goals as goal

pub returns-clause-promise : goal.returns-clause-promise
returns-clause-promise g c = record {
  result = c.lower_type_alias.ensures.result;
  stored = c.lower_type_alias.ensures.stored;
  params = c.lower_type_alias.ensures.params;
  reads = c.lower_type_alias.ensures.reads;
  reached_once = c.lower_type_alias.ensures.reached_once;
  inside_reached_once = c.lower_type_alias.ensures.inside_reached_once;
  made_once = c.lower_type_alias.ensures.made_once;
  in_range = c.lower_type_alias.ensures.in_range;
  answer_in_range = c.lower_type_alias.ensures.answer_in_range;
  params_in_range = c.lower_type_alias.ensures.params_in_range;
  too_large = c.lower_type_alias.ensures.too_large;
  fits = c.lower_type_alias.ensures.fits;
  own = c.lower_type_alias.ensures.own;
}

pub returns-clause-by_rules : goal.returns-clause-by_rules
returns-clause-by_rules g c =
    let a = c.args in
    of_each (ruled.type_alias (g.E.LowerEnv.answers a.db.now) a.item.file_id a.container a.id a.item.value.now) (AliasPromise a.id)
    (returns-clause-promise g c)
