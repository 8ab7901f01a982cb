-- What is added to a list in scopes: what a fault adds, a block that is entered, and what is told of calls.
use Rattle.std.specs.Prelude.{List, [], ◌∷◌, ◌++◌, Option, option_to_list}
use Rattle.hir_store.specs.declared.diagnostics.ExpressionStoreDiagnostics.{ExpressionStoreDiagnostics}
use Rattle.hir_store.specs.declared.ids.BlockId.{BlockId}
use Rattle.hir_lower_scope.specs.Scopes.{Scope, barrier, block_scope, loop_scope, macro_scope, try_scope}
use Rattle.thm_body_result.specs.Diagnostics.{jump_faults}
use Rattle.thm_logic.specs.Calls.{Expansions, called_faults, condition_faults, expansions_of_called, expansions_of_entered}
use Rattle.thm_logic.specs.Calls.{expansions_of_gone}
use Rattle.thm_body_result.specs.Bodies.{GradingBodies}
use Rattle.thm_logic.specs.Grading.{Grading}

module _ {X : Type 0} (of_faults : List ExpressionStoreDiagnostics → List X) (of_block : Option BlockId → List X)
    (of_emitted : Expansions → List ExpressionStoreDiagnostics → List X) where
  abbrev nothing : List Scope → List X
  nothing ss = []

  abbrev pub listed : Grading {0}
  listed = record {
    G = List Scope → List X;
    none = nothing;
    then' = λ D E. λ ss. D ss ++ E ss;
    type_as = λ t. nothing;
    lifetime_as = λ l. nothing;
    pat_at = λ at. nothing;
    made_pat_at = λ at. nothing;
    target_mapping = λ at. nothing;
    expr = nothing;
    binding = nothing;
    fault = λ d. λ ss. of_faults (d ∷ []);
    param = nothing;
    tracked = λ c. λ ss. of_emitted (expansions_of_entered c) [];
    emitted = λ c. λ ss. of_emitted (expansions_of_called c) (called_faults c);
    gone = λ why. λ ss. of_emitted (expansions_of_gone why) (condition_faults why.condition);
    pat_call = λ at. nothing;
    type_call = λ at. nothing;
    super = λ n. nothing;
    dots = λ n. nothing;
    def = λ k. nothing;
    jump = λ j. λ ss. of_faults (jump_faults ss j);
    block = λ n. λ ss. of_block n;
    generated_name = nothing;
    yielding = λ D. D;
    looped = λ label D. λ ss. D (loop_scope label ∷ ss);
    labelled = λ l D. λ ss. D (block_scope l ∷ ss);
    defined = λ d D. λ ss. D (macro_scope d ∷ ss);
    tried = λ typed D E F. λ ss. (D (try_scope typed ∷ ss) ++ E (try_scope typed ∷ ss)) ++ F ss;
    inner = λ l D. λ ss. D (barrier ∷ ss);
    constant = λ e D. λ ss. D (barrier ∷ ss);
    rooted = λ e D. λ ss. D (barrier ∷ ss);
    closure = λ D E F. λ ss. D (barrier ∷ ss) ++ (E (barrier ∷ ss) ++ F (barrier ∷ ss));
    coroutine_closure = λ xs D E F. λ ss. D (barrier ∷ ss) ++ (E (barrier ∷ ss) ++ F (barrier ∷ ss));
    coroutine = λ n D. λ ss. of_block n ++ D (barrier ∷ ss);
    owned = λ D. D;
  }

  -- `self`, the other parameters, and the body
  abbrev pub bodies_listed : GradingBodies listed
  bodies_listed = record { coroutine_body = λ skipped f D E F. λ ss. D ss ++ (E ss ++ F ss) }

-- faults, and the numbers of blocks

abbrev pub faults : Grading {0}
faults = listed {X = ExpressionStoreDiagnostics} (λ ds. ds) (λ n. []) (λ es ds. ds)

abbrev pub blocks : Grading {0}
blocks = listed {X = BlockId} (λ ds. []) option_to_list (λ es ds. [])
