-- The constructs that enclose an expression, innermost first, and which of them a jump is for (Rust Reference, loop
-- labels, `break` and `continue`, `?`).
use Rattle.std.specs.Prelude.{Bool, ℕ, zero, suc, List, [], ◌∷◌, Option, Some, None}
use Rattle.hir_store.specs.declared.ids.MacroDefId.{MacroDefId}
use Rattle.hir_env.specs.ResolvedTree.{Label, Jump}
use Rattle.hir_lower_scope.specs.ScopeRibs.{Rib, label_rib, try_rib, macro_rib, barrier_rib, Try, Target, reachable, unreachable}
use Rattle.hir_lower_scope.specs.ScopeRibs.{undeclared}
use Rattle.hir_lower_scope.specs.ScopeRibs.{target, map_ribs}

-- A `try` has a written type, or none. A macro definition encloses what follows it in its block. A barrier is the border of a
-- closure, a coroutine or a constant.
pub data Scope : Type 0 where
  loop_scope : Option Label → Scope
  block_scope : Label → Scope
  try_scope : Bool → Scope
  macro_scope : MacroDefId → Scope
  barrier : Scope

-- A jump, by how many scopes that catch jumps it still leaves before its target; None: nothing catches it. A macro
-- definition catches none, and is not counted.
abbrev pub Count : Type 0
Count = Option ℕ

abbrev pub count_further : Count → Count
count_further None = None
count_further (Some k) = Some (suc k)

-- by name

-- what bears the label, so many scopes out
pub data Bearer : Type 0 where
  a_loop : ℕ → Bearer
  a_block : ℕ → Bearer

abbrev pub one_out : Bearer → Bearer
one_out (a_loop k) = a_loop (suc k)
one_out (a_block k) = a_block (suc k)

-- what a jump by name meets
abbrev pub ribs : List Scope → List (Rib Bearer)
ribs [] = []
ribs (loop_scope None ∷ ss) = map_ribs one_out (ribs ss)
ribs (loop_scope (Some l) ∷ ss) = label_rib l.name l.hygiene (a_loop 0) ∷ map_ribs one_out (ribs ss)
ribs (block_scope l ∷ ss) = label_rib l.name l.hygiene (a_block 0) ∷ map_ribs one_out (ribs ss)
ribs (try_scope typed ∷ ss) = try_rib (a_block 0) typed ∷ map_ribs one_out (ribs ss)
ribs (macro_scope d ∷ ss) = macro_rib d ∷ ribs ss
ribs (barrier ∷ ss) = barrier_rib ∷ ribs ss

-- by kind

abbrev pub innermost_loop : List Scope → Count
innermost_loop [] = None
innermost_loop (loop_scope l ∷ ss) = Some 0
innermost_loop (block_scope l ∷ ss) = count_further (innermost_loop ss)
innermost_loop (try_scope typed ∷ ss) = count_further (innermost_loop ss)
innermost_loop (macro_scope d ∷ ss) = innermost_loop ss
innermost_loop (barrier ∷ ss) = None

abbrev pub further_try : Option (Try ℕ) → Option (Try ℕ)
further_try None = None
further_try (Some t) = Some (record { place = suc t.place; typed = t.typed })

abbrev pub innermost_try : List Scope → Option (Try ℕ)
innermost_try [] = None
innermost_try (loop_scope l ∷ ss) = further_try (innermost_try ss)
innermost_try (block_scope l ∷ ss) = further_try (innermost_try ss)
innermost_try (try_scope typed ∷ ss) = Some (record { place = 0; typed = typed })
innermost_try (macro_scope d ∷ ss) = innermost_try ss
innermost_try (barrier ∷ ss) = None

-- targets

-- a jump whose name has no target is read as one without a label
abbrev pub break_found : List Scope → Target Bearer → Count
break_found ss (reachable (a_loop k)) = Some k
break_found ss (reachable (a_block k)) = Some k
break_found ss unreachable = innermost_loop ss
break_found ss undeclared = innermost_loop ss

-- a continue that is for a block is caught by nothing
abbrev pub continue_found : List Scope → Target Bearer → Count
continue_found ss (reachable (a_loop k)) = Some k
continue_found ss (reachable (a_block k)) = None
continue_found ss unreachable = innermost_loop ss
continue_found ss undeclared = innermost_loop ss

-- a jump without a label is for the innermost loop
abbrev pub break_target : List Scope → Option Jump → Count
break_target ss None = innermost_loop ss
break_target ss (Some j) = break_found ss (target j (ribs ss))

abbrev pub continue_target : List Scope → Option Jump → Count
continue_target ss None = innermost_loop ss
continue_target ss (Some j) = continue_found ss (target j (ribs ss))

-- going out

-- out of one scope, which is the target where none is left to leave before it
abbrev pub scope_out : Count → Option Count
scope_out None = Some None
scope_out (Some zero) = None
scope_out (Some (suc k)) = Some (Some k)

-- a continue, outside of a labelled block
abbrev pub continue_past_block : Count → Count
continue_past_block (Some (suc k)) = Some k
continue_past_block j = None

-- the scopes in a block: a block without a label is none
abbrev pub scopes_in_block : Option Label → List Scope → List Scope
scopes_in_block None ss = ss
scopes_in_block (Some l) ss = block_scope l ∷ ss
