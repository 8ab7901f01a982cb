use Rattle.std.specs.Prelude.{option_copied}
use Rattle.thm_calls.specs.Promises.{TypePromise}
use Rattle.thm_calls.proofs.Promised.{of_each}
use Rattle.thm_calls.proofs.Ruled as ruled
use Rattle.thm_calls.proofs.types.lower_type_ref.Goals as goal

pub returns-clause-promise : goal.returns-clause-promise
returns-clause-promise g c = record {
  type_result = c.lower_type_ref.ensures.type_result;
  expanded = c.lower_type_ref.ensures.expanded;
  stored = c.lower_type_ref.ensures.stored;
  made_once = c.lower_type_ref.ensures.made_once;
  in_range = c.lower_type_ref.ensures.in_range;
  too_large = c.lower_type_ref.ensures.too_large;
  fits = c.lower_type_ref.ensures.fits;
  own = c.lower_type_ref.ensures.own;
}

pub returns-clause-by_rules : goal.returns-clause-by_rules
returns-clause-by_rules g c =
    let a = c.args in
    of_each (ruled.type_ref (g.E.LowerEnv.answers a.db.now) a.type_ref.file_id a.inside (option_copied a.type_ref.value)) TypePromise
    (returns-clause-promise g c)
