-- Which macro calls are entered, each behind what else was expanded for it, in the order of lowering.
use Rattle.std.specs.Prelude.{[], ◌++◌}
use Rattle.thm_logic.specs.Calls.{Expansions, expansions_of_called, expansions_of_entered, expansions_of_gone}
use Rattle.thm_body_result.specs.Bodies.{GradingBodies}
use Rattle.thm_logic.specs.Grading.{Grading}

abbrev pub expansions : Grading {0}
expansions = record {
  G = Expansions;
  none = [];
  then' = λ es fs. es ++ fs;
  type_as = λ t. [];
  lifetime_as = λ l. [];
  pat_at = λ at. [];
  made_pat_at = λ at. [];
  target_mapping = λ at. [];
  expr = [];
  binding = [];
  fault = λ d. [];
  param = [];
  tracked = λ c. expansions_of_entered c;
  emitted = λ c. expansions_of_called c;
  gone = λ why. expansions_of_gone why;
  pat_call = λ at. [];
  type_call = λ at. [];
  super = λ n. [];
  dots = λ n. [];
  def = λ k. [];
  jump = λ j. [];
  block = λ n. [];
  generated_name = [];
  yielding = λ es. es;
  looped = λ label es. es;
  labelled = λ l es. es;
  defined = λ d es. es;
  tried = λ typed es fs ks. (es ++ fs) ++ ks;
  inner = λ l es. es;
  constant = λ e es. es;
  rooted = λ e es. es;
  closure = λ es fs ks. es ++ (fs ++ ks);
  coroutine_closure = λ xs es fs ks. es ++ (fs ++ ks);
  coroutine = λ n es. es;
  owned = λ es. es;
}

-- `self`, the other parameters, and the body
abbrev pub bodies_expanded : GradingBodies expansions
bodies_expanded = record { coroutine_body = λ skipped f es fs ks. es ++ (fs ++ ks) }
