use Rattle.thm_calls.specs.Promises.{TraitPromise}
use Rattle.thm_calls.proofs.Promised.{of_each}
use Rattle.thm_calls.proofs.Ruled as ruled
use Rattle.thm_calls.proofs.items.lower_trait.Goals as goal

pub returns-clause-promise : goal.returns-clause-promise
returns-clause-promise g c = record {
  result = c.lower_trait.ensures.result;
  stored = c.lower_trait.ensures.stored;
  params = c.lower_trait.ensures.params;
  reached_once = c.lower_trait.ensures.reached_once;
  inside_reached_once = c.lower_trait.ensures.inside_reached_once;
  made_once = c.lower_trait.ensures.made_once;
  in_range = c.lower_trait.ensures.in_range;
  params_in_range = c.lower_trait.ensures.params_in_range;
  too_large = c.lower_trait.ensures.too_large;
  fits = c.lower_trait.ensures.fits;
  own = c.lower_trait.ensures.own;
}

pub returns-clause-by_rules : goal.returns-clause-by_rules
returns-clause-by_rules g c =
    let a = c.args in
    of_each (ruled.declared_trait (g.E.LowerEnv.answers a.db.now) a.item.file_id a.inside a.id a.item.value.now) (TraitPromise a.id)
    (returns-clause-promise g c)
