-- Where nothing is told.
use Rattle.thm_logic.specs.Grading.{Grading}

abbrev pub silent_grading : Grading {0}
silent_grading = record {
  G = Unit;
  none = tt;
  then' = λ g h. tt;
  type_as = λ t. tt;
  lifetime_as = λ l. tt;
  pat_at = λ at. tt;
  made_pat_at = λ at. tt;
  target_mapping = λ at. tt;
  expr = tt;
  binding = tt;
  fault = λ d. tt;
  param = tt;
  tracked = λ c. tt;
  emitted = λ c. tt;
  gone = λ why. tt;
  pat_call = λ at. tt;
  type_call = λ at. tt;
  super = λ n. tt;
  dots = λ n. tt;
  def = λ k. tt;
  jump = λ j. tt;
  block = λ n. tt;
  generated_name = tt;
  yielding = λ g. tt;
  looped = λ label g. tt;
  labelled = λ l g. tt;
  defined = λ d g. tt;
  tried = λ typed g h k. tt;
  inner = λ l g. tt;
  constant = λ e g. tt;
  rooted = λ e g. tt;
  closure = λ g h k. tt;
  coroutine_closure = λ xs g h k. tt;
  coroutine = λ n g. tt;
  owned = λ g. tt;
}
