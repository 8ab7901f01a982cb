-- What follows from where a jump finds its target.
use Rattle.std.specs.Prelude.{◌≡◌, ℕ, nat_eq, Bool, true, false, List, [], ◌∷◌, ◌++◌, Option, Some, None, option_map, if◌then◌else◌}
use Rattle.hir_store.specs.Pointers.{Pointer}
use Rattle.hir_store.specs.declared.name.Name.TheVariants as name
use Rattle.hir_env.specs.Answers.{Contexts}
use Rattle.hir_env.specs.ResolvedTree.{Jump}
use Rattle.hir_lower_scope.specs.ScopeRibs.{Target, reachable, unreachable, undeclared, target, Try, map_try, innermost_try_rib}
use Rattle.hir_lower_scope.specs.Scopes.{Scope, barrier, loop_scope, try_scope, macro_scope, Bearer, a_loop, a_block, ribs}
use Rattle.hir_lower_scope.specs.Scopes.{break_target, continue_target, innermost_try}

-- behind a barrier

-- What a body does inside a barrier is what it would do there if nothing were outside.
pub record Alone (inner outer : List Scope) (j : Option Jump) : Type 0 where
  pub breaks : break_target (inner ++ barrier ∷ outer) j ≡ break_target inner j
  pub continues : continue_target (inner ++ barrier ∷ outer) j ≡ continue_target inner j
  pub tries : innermost_try (inner ++ barrier ∷ outer) ≡ innermost_try inner

abbrev pub NothingOutside : Type 0
NothingOutside = (inner outer : List Scope) (j : Option Jump) → Alone inner outer j

-- `'a: loop { macro_rules! m {..} m!() }`, where m!() is `break 'a` with the hygiene 1

abbrev pub here : Pointer
here = record { file_id = record { 0 = 0 }; value = record { node = record { 0 = 0 }; range = record { start = 0; end = 0 } } }

-- `'a: loop`, where 'a has this hygiene
abbrev pub loop_a : ℕ → Scope
loop_a h = loop_scope (Some (record { pointer = here; name = name.Text (97 ∷ []); hygiene = record { 0 = h } }))

abbrev pub defining : ℕ → Scope
defining d = macro_scope (record { 0 = d })

abbrev pub around : List Scope
around = defining 9 ∷ loop_a 0 ∷ []

-- of the context 1
abbrev pub one_of : ℕ → ℕ → ℕ → Contexts
one_of parent opaque outer = record {
  parent = λ c. record { 0 = parent };
  opaque = λ c. record { 0 = opaque };
  outer_macro = λ c. if nat_eq c.0 1 then Some (record { 0 = outer }) else None;
}

abbrev pub jump_by : Contexts → Jump
jump_by contexts = record { pointer = here; name = name.Text (97 ∷ []); hygiene = record { 0 = 1 }; contexts = contexts }

-- where the context came from m and was made in the root
abbrev pub ClimbsOut : Type 0
ClimbsOut = target (jump_by (one_of 0 0 9)) (ribs around) ≡ reachable (a_loop 0)

-- where it came from another macro
abbrev pub StaysInside : Type 0
StaysInside = target (jump_by (one_of 0 0 8)) (ribs around) ≡ undeclared

-- where it is its own parent
abbrev pub TurnsInCircles : Type 0
TurnsInCircles = target (jump_by (one_of 1 1 9)) (ribs around) ≡ undeclared

-- what is found, by `break 'a` with the hygiene 1

-- The context 1 came from the macro 9 and was made in 2, and that came from 8 and was made in 5. All their hygienes differ.
abbrev pub nested_contexts : Contexts
nested_contexts = record {
  parent = λ c. record { 0 = if nat_eq c.0 1 then 2 else 5 };
  opaque = λ c. record { 0 = if nat_eq c.0 1 then 4 else (if nat_eq c.0 2 then 3 else 6) };
  outer_macro = λ c. if nat_eq c.0 1 then Some (record { 0 = 9 }) else (if nat_eq c.0 2 then Some (record { 0 = 8 }) else None);
}

abbrev pub meets : List Scope → Target Bearer
meets ss = target (jump_by nested_contexts) (ribs ss)

-- Outside of the macro 9 it is the label of the hygiene of 2, and of no other number that is at hand; outside of 8 too that
-- of the hygiene of 5.
pub record ClimbsTwice : Type 0 where
  pub once : meets (defining 9 ∷ loop_a 1 ∷ loop_a 2 ∷ loop_a 4 ∷ loop_a 6 ∷ loop_a 3 ∷ []) ≡ reachable (a_loop 4)
  pub twice : meets (defining 9 ∷ defining 8 ∷ loop_a 3 ∷ loop_a 5 ∷ loop_a 6 ∷ []) ≡ reachable (a_loop 2)
  pub again : meets (defining 9 ∷ defining 9 ∷ loop_a 6 ∷ loop_a 3 ∷ []) ≡ reachable (a_loop 1)

-- where each context came from the macro 9, the root too
abbrev pub from_nine : Contexts
from_nine = record { parent = λ c. record { 0 = 5 }; opaque = λ c. record { 0 = 7 }; outer_macro = λ c. Some (record { 0 = 9 }) }

abbrev pub root_jump : Jump
root_jump = record { pointer = here; name = name.Text (97 ∷ []); hygiene = record { 0 = 0 }; contexts = from_nine }

-- What the root wrote keeps its hygiene at each macro.
abbrev pub RootStays : Type 0
RootStays = target root_jump (ribs (defining 9 ∷ loop_a 7 ∷ loop_a 0 ∷ [])) ≡ reachable (a_loop 1)

-- Behind a border, and behind two, a label that is there is out of reach, and one that is nowhere is not declared.
pub record BehindBarriers : Type 0 where
  pub there : meets (barrier ∷ loop_a 1 ∷ []) ≡ unreachable
  pub there_behind_two : meets (barrier ∷ barrier ∷ loop_a 1 ∷ []) ≡ unreachable
  pub nowhere : meets (barrier ∷ loop_a 2 ∷ []) ≡ undeclared
  pub nowhere_behind_two : meets (barrier ∷ barrier ∷ []) ≡ undeclared

-- `'b: loop`, where 'b has the hygiene 1
abbrev pub loop_b : Scope
loop_b = loop_scope (Some (record { pointer = here; name = name.Text (98 ∷ []); hygiene = record { 0 = 1 } }))

-- Of two labels of one name and one hygiene it is the inner one. A label of another name is passed over.
abbrev pub InnerHides : Type 0
InnerHides = meets (loop_b ∷ loop_a 2 ∷ loop_a 1 ∷ loop_a 1 ∷ []) ≡ reachable (a_loop 2)

-- `try`

-- Outward by what a jump meets it is the `try` that it is by kind.
abbrev pub TriesAgree : Type 0
TriesAgree = (ss : List Scope) → innermost_try_rib (ribs ss) ≡ option_map (map_try a_block) (innermost_try ss)

abbrev pub try_out : ℕ → Bool → Option (Try ℕ)
try_out k typed = Some (record { place = k; typed = typed })

-- Of two the inner one counts, also past loops, blocks and macro definitions; one behind a border doesn't, and a jump by name passes it by.
pub record InnermostTry : Type 0 where
  pub inner : innermost_try (try_scope true ∷ try_scope false ∷ []) ≡ try_out 0 true
  pub outer : innermost_try (loop_scope None ∷ defining 9 ∷ loop_a 1 ∷ try_scope false ∷ []) ≡ try_out 2 false
  pub hidden : innermost_try (barrier ∷ try_scope true ∷ []) ≡ None
  pub passed : meets (try_scope false ∷ loop_a 1 ∷ []) ≡ reachable (a_loop 1)
