-- Whether a `yield` stands in it: one that stands in a body inside counts there.
use Rattle.std.specs.Prelude.{Bool, true, false, ◌||◌}
use Rattle.thm_logic.specs.Grading.{Grading}

abbrev pub yields : Grading {0}
yields = record {
  G = Bool;
  none = false;
  then' = λ y z. y || z;
  type_as = λ t. false;
  lifetime_as = λ l. false;
  pat_at = λ at. false;
  made_pat_at = λ at. false;
  target_mapping = λ at. false;
  expr = false;
  binding = false;
  fault = λ d. false;
  param = false;
  tracked = λ c. false;
  emitted = λ c. false;
  gone = λ why. false;
  pat_call = λ at. false;
  type_call = λ at. false;
  super = λ n. false;
  dots = λ n. false;
  def = λ k. false;
  jump = λ j. false;
  block = λ n. false;
  generated_name = false;
  yielding = λ y. true;
  looped = λ label y. y;
  labelled = λ l y. y;
  defined = λ d y. y;
  tried = λ typed x y z. x || (y || z);
  inner = λ l y. false;
  constant = λ e y. false;
  rooted = λ e y. false;
  closure = λ x y z. false;
  coroutine_closure = λ xs x y z. false;
  coroutine = λ n y. false;
  owned = λ y. y;
}
