use Rattle.std.specs.Prelude.{option_copied}
use Rattle.thm_calls.specs.Promises.{BodyPromise}
use Rattle.thm_calls.specs.Readings.{body_call}
use Rattle.thm_calls.proofs.Promised.{of_each}
use Rattle.thm_calls.proofs.Ruled as ruled
use Rattle.thm_calls.proofs.bodies.lower_body.Goals as goal

pub returns-clause-promise : goal.returns-clause-promise
returns-clause-promise g c = record {
  same_meaning = c.lower_body.ensures.same_meaning;
  one_result = c.lower_body.ensures.one_result;
  expanded = c.lower_body.ensures.expanded;
  stored = c.lower_body.ensures.stored;
  params = c.lower_body.ensures.params;
  self_source = c.lower_body.ensures.self_source;
  made_once = c.lower_body.ensures.made_once;
  in_range = c.lower_body.ensures.in_range;
  too_large = c.lower_body.ensures.too_large;
  fits = c.lower_body.ensures.fits;
  own = c.lower_body.ensures.own;
}

pub returns-clause-by_rules : goal.returns-clause-by_rules
returns-clause-by_rules g c =
    let a = c.args in
    let x = body_call a.owner a.syntax_node a.current_file_id a.inside (option_copied a.params) (option_copied a.body) a.is_async_fn
    a.is_gen_fn in
    of_each (ruled.body (g.E.LowerEnv.answers a.db.now) x) BodyPromise (returns-clause-promise g c)

pub returns-clause-lowered : goal.returns-clause-lowered
returns-clause-lowered g c = record {
  steps = c.lower_body.ensures.steps;
  self_source = c.lower_body.ensures.self_source;
  in_range = c.lower_body.ensures.in_range;
  own = c.lower_body.ensures.own;
}
