-- What a look-up returns and seeks.
use Rattle.std.specs.Prelude.{Bool, false, Option, Some, None, slice_get}
use Rattle.hir_store.specs.declared.ids.BindingId.{BindingId}
use Rattle.hir_store.specs.declared.ids.MacroDefId.{MacroDefId}
use Rattle.hir_store.specs.declared.name.Name.{Name}
use Rattle.hir_store.specs.declared.pat.Binding.{Binding}
use Rattle.hir_store.specs.Stored.{Store}
use Rattle.hir_env.specs.Answers.{Contexts}
use Rattle.hir_lower_scope.specs.ScopeRibs.{Sought, Target, is_for, past_macro, reachable}
use Rattle.hir_scopes.specs.declared.resolve.Wanted.{Wanted}

abbrev pub sought_of : Wanted → Sought
sought_of w = record { hygiene = w.hygiene; context = w.context }

-- what is found, or else the other
abbrev pub or_else : Option BindingId → Target BindingId → Target BindingId
or_else None t = t
or_else (Some b) t = reachable b

-- whether the binding has the name and the hygiene that are sought
abbrev pub is_binding_for : Name → Sought → Option Binding → Bool
is_binding_for name s None = false
is_binding_for name s (Some b) = is_for name s b.name b.hygiene

abbrev pub is_entry_for : Store → Name → Sought → BindingId → Bool
is_entry_for store name s b = is_binding_for name s (slice_get store.bindings b.0)

-- What is sought behind what stands in front of a scope's parent, where this macro is defined in between.
abbrev pub past_def : Contexts → Sought → Option MacroDefId → Sought
past_def contexts s None = s
past_def contexts s (Some d) = past_macro contexts d s s.context
