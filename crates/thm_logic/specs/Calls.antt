-- What lowering says of macro calls: which it enters, and what is wrong with one.
use Rattle.std.specs.Prelude.{List, [], ◌∷◌, ◌++◌, map, Option, Some, None}
use Rattle.hir_store.specs.Pointers.{Pointer}
use Rattle.hir_store.specs.Stored.{Stored}
use Rattle.hir_store.specs.declared.diagnostics.ExpressionStoreDiagnostics.{ExpressionStoreDiagnostics}
use Rattle.hir_store.specs.declared.diagnostics.ExpressionStoreDiagnostics.TheVariants.{InactiveCode, UnresolvedMacroCall}
use Rattle.hir_store.specs.declared.expansions.ExpandedCall.{ExpandedCall}
use Rattle.hir_store.specs.declared.ids.CfgId.{CfgId}
use Rattle.hir_env.specs.ResolveCtx.{site_of}
use Rattle.hir_env.specs.Answers.{Eager}
use Rattle.hir_env.specs.ResolvedTree as tree
use Rattle.hir_env.specs.ResolvedTree.{Called, Entered, Gone}

abbrev pub Expansions : Type 0
Expansions = List ExpandedCall

abbrev pub eager_expansion : Eager → ExpandedCall
eager_expansion e = record { call = e.0; range = None; file = e.1 }

abbrev pub own_expansion : Entered → ExpandedCall
own_expansion c = record { call = site_of c.call; range = Some c.call.value.range; file = c.file }

-- what was expanded for a call, and then the call
abbrev pub expansions_of_entered : Entered → Expansions
expansions_of_entered c = map eager_expansion c.eager ++ own_expansion c ∷ []

abbrev pub expansions_of_each : List Entered → Expansions
expansions_of_each [] = []
expansions_of_each (c ∷ cs) = expansions_of_entered c ++ expansions_of_each cs

abbrev pub expansions_of_gone : Gone → Expansions
expansions_of_gone why = expansions_of_each why.entered

abbrev pub expansions_of_called : Called → Expansions
expansions_of_called (tree.entered c) = expansions_of_entered c
expansions_of_called _ = []

-- one whose macro isn't found is a fault
abbrev pub called_faults : Called → List ExpressionStoreDiagnostics
called_faults (tree.unresolved at path) = UnresolvedMacroCall at path ∷ []
called_faults _ = []

abbrev pub condition_faults : Option (Pointer × CfgId) → List ExpressionStoreDiagnostics
condition_faults None = []
condition_faults (Some (at, by)) = InactiveCode at by ∷ []

-- with these behind those that were told before
abbrev pub with_emitted : Expansions → List ExpressionStoreDiagnostics → Stored → Stored
with_emitted es ds s = record s { expansions = s.expansions ++ es; diagnostics = s.diagnostics ++ ds }
