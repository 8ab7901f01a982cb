-- How much a tree becomes.
use Rattle.std.specs.Prelude.{map, Option}
use Rattle.hir_store.specs.Pointers.{Pointer}
use Rattle.spec_data.specs.Data as datum
use Rattle.spec_data.specs.Data.{TypeData}
use Rattle.spec_data.specs.Patterns.{written_pat}
use Rattle.spec_data.specs.Tops.{params_tops}
use Rattle.spec_semantics.specs.InnerWritten.{constant_body, limit_body}
use Rattle.thm_body_result.specs.PreludeRoom.{handed_size, prelude_size, self_let_size}
use Rattle.thm_body_result.specs.Room.{formals_data, label_size}
use Rattle.thm_body_result.specs.Size as size
use Rattle.thm_body_result.specs.Size.{Size, a_binding, a_body, a_label, a_lifetime, a_generated_name, a_pat, a_super, a_type}
use Rattle.thm_body_result.specs.Size.{a_def, a_made_pat, a_param, a_pat_call, a_target_mapping, a_type_call}
use Rattle.thm_body_result.specs.Size.{an_expr, dots_behind, nothing, ◌∪◌}
use Rattle.thm_body_result.specs.Bodies.{GradingBodies}
use Rattle.thm_logic.specs.Grading.{Grading}

-- the node that a type came from, where it came from one
abbrev pub type_node : TypeData → Option Pointer
type_node (datum.typed from shape) = from

abbrev pub sizes : Grading {1}
sizes = record {
  G = Size;
  none = nothing;
  then' = λ n k. n ∪ k;
  type_as = λ t. a_type (type_node t);
  lifetime_as = λ l. a_lifetime l.from;
  pat_at = λ at. a_pat at;
  made_pat_at = λ at. a_made_pat at;
  target_mapping = λ at. a_target_mapping at;
  expr = an_expr;
  binding = a_binding;
  fault = λ d. nothing;
  param = a_param;
  tracked = λ c. nothing;
  emitted = λ c. nothing;
  gone = λ why. nothing;
  pat_call = λ at. a_pat_call at;
  type_call = λ at. a_type_call at;
  super = λ n. a_super n;
  dots = λ n. dots_behind n;
  def = λ k. a_def k;
  jump = λ j. nothing;
  block = λ n. nothing;
  generated_name = a_generated_name;
  yielding = λ n. n;
  looped = λ label n. label_size label ∪ (n ∪ an_expr);
  labelled = λ l n. a_label ∪ n;
  defined = λ d n. n;
  tried = λ typed n k j. (a_generated_name ∪ a_label) ∪ (n ∪ (k ∪ j));
  inner = λ l n. a_body (limit_body l) n;
  constant = λ e n. a_body (constant_body e) (size.owned n);
  rooted = λ e n. a_body (constant_body e) n;
  closure = λ n k j. size.owned (n ∪ (k ∪ (j ∪ an_expr)));
  coroutine_closure = λ xs n k j. let ys = map written_pat (params_tops xs) in
      size.owned (size.owned (n ∪ (k ∪ (j ∪ (prelude_size ys ∪ (an_expr ∪ an_expr))))) ∪ (handed_size ys ∪ an_expr));
  coroutine = λ number n. size.owned (n ∪ (an_expr ∪ an_expr));
  owned = λ n. size.owned n;
}

-- `self`, what the coroutine owns, with its prelude, and what the outside hands the parameters to
abbrev pub bodies_sized : GradingBodies sizes
bodies_sized = record {
  coroutine_body = λ skipped f n k j. let ys = formals_data skipped f.formals in
      n ∪ (size.owned (k ∪ (j ∪ (self_let_size f.receiver ∪ (prelude_size ys ∪ (an_expr ∪ an_expr))))) ∪ handed_size ys);
}
