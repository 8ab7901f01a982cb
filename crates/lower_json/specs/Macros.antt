-- What macro calls are expanded to, and the definitions of macros. What is no entry of a table says nothing.
use Rattle.std.specs.Prelude.{ℕ, List, [], Option, Some, None, option_map, option_and_then}
use Rattle.serde_json.specs.Data.{Data, Items, no_items, item}
use Rattle.serde_json.specs.Find.{as_array, as_str}
use Rattle.hir_env.specs.NodeMap.{Site}
use Rattle.hir_tables.specs.Tables as answered
use Rattle.hir_tables.specs.Tables.{with_first}
use Rattle.hir_tables.specs.declared.table.MacroAnswer.{MacroAnswer}
use Rattle.hir_tables.specs.declared.table.MacroAnswer.TheVariants as answer
use Rattle.hir_store.specs.declared.ids.MacroDefId.{MacroDefId}
use Rattle.hir_store.specs.declared.ids.ModuleId.{ModuleId}
use Rattle.hir_store.specs.declared.name.Name.{Name}
use Rattle.hir_store.specs.declared.name.Name.TheVariants as name
use Rattle.hir_syntax.specs.declared.macros.Fragment.{Fragment}
use Rattle.json_errors.specs.Values.{small_of}
use Rattle.json_errors.specs.declared.kind.Kind.{Kind}
use Rattle.lower_json.specs.Reading.{fragment_at}
use Rattle.lower_json.specs.Tables.{both, path_in, site_of}

-- expansions

-- the call that an entry is for
abbrev pub call_in : Option Items → Option Site
call_in (Some (item f (item n ds))) = site_of (small_of f) (small_of n)
call_in _ = None

-- the tree whose root is named; null names none
abbrev pub tree_in : List (Option Kind) → Items → Data → Option Fragment
tree_in kinds ns d = option_and_then (fragment_at kinds ns) (small_of d)

abbrev pub expanded_in : Option ℕ → Option Fragment → Option MacroAnswer
expanded_in None root = None
expanded_in (Some file) root = Some (answer.Expanded (record { 0 = file }) root [])

-- [file, node, "none"], [file, node, "unresolved", path] or [file, node, "file", new file, root or null]
abbrev pub answer_in : List (Option Kind) → Items → Option Items → Option MacroAnswer
answer_in kinds ns (Some (item f (item n (item w no_items)))) = Some answer.NoExpansion
answer_in kinds ns (Some (item f (item n (item w (item p no_items))))) = option_map answer.Unresolved (path_in p)
answer_in kinds ns (Some (item f (item n (item w (item g (item r no_items)))))) = expanded_in (small_of g) (tree_in kinds ns r)
answer_in kinds ns _ = None

abbrev pub Said : Type 0
Said = List ((ℕ × ℕ) × MacroAnswer)

abbrev pub with_answer : Option Site → Option MacroAnswer → Said → Said
with_answer (Some s) (Some a) es = with_first es s a
with_answer (Some s) None es = es
with_answer None a es = es

abbrev pub with_expansion : List (Option Kind) → Items → Option Items → Said → Said
with_expansion kinds ns ds es = with_answer (call_in ds) (answer_in kinds ns ds) es

-- what is said of calls, with the entries of a list behind
abbrev pub with_expansions : List (Option Kind) → Items → Items → Said → Said
with_expansions kinds ns no_items es = es
with_expansions kinds ns (item d ds) es = with_expansions kinds ns ds (with_expansion kinds ns (as_array d) es)

-- definitions

-- no text stands for the missing name
abbrev pub name_in : Data → Option Name
name_in d = option_map name.Text (as_str d)

abbrev pub definition_in : Option ℕ → Option ℕ → Option (ModuleId × MacroDefId)
definition_in (Some inside) (Some def) = Some (record { 0 = inside }, record { 0 = def })
definition_in _ _ = None

-- [module, name, definition]
abbrev pub defined_of : Option Items → Option (Name × (ModuleId × MacroDefId))
defined_of (Some (item m (item t (item d no_items)))) = both (name_in t) (definition_in (small_of m) (small_of d))
defined_of _ = None

abbrev pub Defined : Type 0
Defined = List (Name × List (ℕ × MacroDefId))

abbrev with_definition : Option (Name × (ModuleId × MacroDefId)) → Defined → Defined
with_definition None es = es
with_definition (Some e) es = answered.with_definition es e.1.0 e.0 e.1.1

-- macros of modules, with those of a list behind
abbrev pub with_definitions : Items → Defined → Defined
with_definitions no_items es = es
with_definitions (item d ds) es = with_definitions ds (with_definition (defined_of (as_array d)) es)

-- [module, name, how many of its name stand before it, definition]
abbrev pub legacy_of : Option Items → Option (Name × (ℕ × (ModuleId × MacroDefId)))
legacy_of (Some (item m (item t (item k (item d no_items))))) =
    both (name_in t) (both (small_of k) (definition_in (small_of m) (small_of d)))
legacy_of _ = None

abbrev pub DefinedByRules : Type 0
DefinedByRules = List (Name × List ((ℕ × ℕ) × MacroDefId))

abbrev with_rules : Option (Name × (ℕ × (ModuleId × MacroDefId))) → DefinedByRules → DefinedByRules
with_rules None es = es
with_rules (Some e) es = answered.with_legacy es e.1.1.0 e.0 e.1.0 e.1.1.1

-- macros that `macro_rules` has defined, with those of a list behind
abbrev pub with_legacy : Items → DefinedByRules → DefinedByRules
with_legacy no_items es = es
with_legacy (item d ds) es = with_legacy ds (with_rules (legacy_of (as_array d)) es)
