-- The answers of tables.
use Rattle.std.specs.Prelude.{ℕ, Bool, false, ◌&&◌, List, [], Option, Some, None, Result, Ok, Err, is_some, unwrap_or}
use Rattle.std.specs.Ordering.{nat_cmp, ordering_then}
use Rattle.std.specs.declared.cmp.Ordering.{Ordering}
use Rattle.hir_alias.specs.Alias.{Alias}
use Rattle.hir_base.specs.declared.node.PredId.{PredId}
use Rattle.hir_env.specs.Answers.{Contexts, Answers, Expanding, unresolved, no_expansion, expanded}
use Rattle.hir_env.specs.NodeMap.{Site}
use Rattle.hir_env.specs.Tables.{module_in, numbered_items}
use Rattle.hir_env.specs.declared.lang.LangItems.{LangItems}
use Rattle.hir_env.specs.declared.resolved.Resolved.{Resolved}
use Rattle.hir_store.specs.NameOrder.{name_cmp, path_cmp}
use Rattle.hir_store.specs.declared.ids.BlockId.{BlockId}
use Rattle.hir_store.specs.declared.ids.CfgId.{CfgId}
use Rattle.hir_store.specs.declared.ids.CtxId.{CtxId}
use Rattle.hir_store.specs.declared.ids.HygieneId.{HygieneId}
use Rattle.hir_store.specs.declared.ids.ItemContainerId.{ItemContainerId}
use Rattle.hir_store.specs.declared.ids.MacroDefId.{MacroDefId}
use Rattle.hir_store.specs.declared.ids.ModuleId.{ModuleId}
use Rattle.hir_store.specs.declared.ids.TypeAliasId.{TypeAliasId}
use Rattle.hir_store.specs.declared.name.Name.{Name}
use Rattle.hir_store.specs.declared.path.ModPath.{ModPath}
use Rattle.hir_tables.specs.FirstOf.{found_by, with_first_by, found_below, with_first_below}
use Rattle.hir_tables.specs.declared.table.Context.{Context}
use Rattle.hir_tables.specs.declared.table.MacroAnswer.{MacroAnswer}
use Rattle.hir_tables.specs.declared.table.MacroAnswer.TheVariants as answer

-- the numbers that a node is known by: its file's, and its own
abbrev pub place : Site → ℕ × ℕ
place s = (s.file_id.0, s.value.0)

abbrev pub place_cmp : ℕ × ℕ → ℕ × ℕ → Ordering
place_cmp x y = ordering_then (nat_cmp x.0 y.0) (nat_cmp x.1 y.1)

-- the first that is said of the node
abbrev pub site_value : {T : Type 0} → List ((ℕ × ℕ) × T) → Site → Option T
site_value es s = found_by place_cmp es (place s)

abbrev pub with_first : {T : Type 0} → List ((ℕ × ℕ) × T) → Site → T → List ((ℕ × ℕ) × T)
with_first es s t = with_first_by place_cmp es (place s) t

-- and of the number
abbrev pub number_found : {T : Type 0} → List (ℕ × T) → ℕ → Option T
number_found es n = found_by nat_cmp es n

abbrev pub with_number : {T : Type 0} → List (ℕ × T) → ℕ → T → List (ℕ × T)
with_number es n t = with_first_by nat_cmp es n t

abbrev pub with_pred : {T : Type 0} → List (ℕ × T) → PredId → T → List (ℕ × T)
with_pred es p t = with_number es p.0 t

abbrev pub with_context : {T : Type 0} → List (ℕ × T) → CtxId → T → List (ℕ × T)
with_context es c t = with_number es c.0 t

abbrev pub alias_found : List (ℕ × Alias) → TypeAliasId → Option Alias
alias_found es id = number_found es id.0

abbrev pub with_alias : List (ℕ × Alias) → TypeAliasId → Alias → List (ℕ × Alias)
with_alias es id a = with_number es id.0 a

-- and of the path in the module
abbrev pub path_found : List (ModPath × List (ℕ × Resolved)) → ModuleId → ModPath → Option Resolved
path_found es inside p = found_below path_cmp nat_cmp es p inside.0

abbrev pub with_path : List (ModPath × List (ℕ × Resolved)) → ModuleId → ModPath → Resolved → List (ModPath × List (ℕ × Resolved))
with_path es inside p r = with_first_below path_cmp nat_cmp es p inside.0 r

-- and of the macro of that name in the module
abbrev pub definition_found : List (Name × List (ℕ × MacroDefId)) → ModuleId → Name → Option MacroDefId
definition_found es inside n = found_below name_cmp nat_cmp es n inside.0

abbrev pub with_definition : List (Name × List (ℕ × MacroDefId)) → ModuleId → Name → MacroDefId → List (Name × List (ℕ × MacroDefId))
with_definition es inside n d = with_first_below name_cmp nat_cmp es n inside.0 d

-- and of the one that `macro_rules` has defined, behind so many others of its name
abbrev pub legacy_found : List (Name × List ((ℕ × ℕ) × MacroDefId)) → ModuleId → Name → ℕ → Option MacroDefId
legacy_found es inside n k = found_below name_cmp place_cmp es n (inside.0, k)

abbrev pub with_legacy : List (Name × List ((ℕ × ℕ) × MacroDefId)) → ModuleId → Name → ℕ → MacroDefId
    → List (Name × List ((ℕ × ℕ) × MacroDefId))
with_legacy es inside n k d = with_first_below name_cmp place_cmp es n (inside.0, k) d

-- tables, by what they say of a call
pub record Saying (M : Type 0) : Type 0 where
  pub disabled : List ((ℕ × ℕ) × CfgId)
  pub preds : List (ℕ × Option Bool)
  pub hygiene : List ((ℕ × ℕ) × HygieneId)
  pub contexts : List (ℕ × Context)
  pub blocks : List ((ℕ × ℕ) × (BlockId × ModuleId))
  pub skip : Bool
  pub container : ItemContainerId
  pub paths : List (ModPath × List (ℕ × Resolved))
  pub aliases : List (ℕ × Alias)
  pub lang_items : LangItems
  pub new_range : Bool
  pub macros : List ((ℕ × ℕ) × M)
  pub macro_defs : List (Name × List (ℕ × MacroDefId))
  pub legacy : List (Name × List ((ℕ × ℕ) × MacroDefId))
  pub limit : ℕ

abbrev pub Tables : Type 0
Tables = Saying MacroAnswer

abbrev pub empty : {M : Type 0} → ItemContainerId → Saying M
empty container = record {
  disabled = [];
  preds = [];
  hygiene = [];
  contexts = [];
  blocks = [];
  skip = false;
  container = container;
  paths = [];
  aliases = [];
  lang_items = numbered_items;
  new_range = false;
  macros = [];
  macro_defs = [];
  legacy = [];
  limit = 16;
}

abbrev pub cfg_result : Option CfgId → Result (Unit {0}) CfgId
cfg_result None = Ok tt
cfg_result (Some by) = Err by

-- what is said of the context; else it was made in the root, has the hygiene of its own number, came from no macro, and
-- its crate has no root
abbrev pub context_in : List (ℕ × Context) → CtxId → Context
context_in es c = unwrap_or (number_found es c.0)
    (record { parent = record { 0 = 0 }; opaque = record { 0 = c.0 }; outer_macro = None; local_inner = false; crate_root = None })

-- where it came from a macro
abbrev pub local_in : List (ℕ × Context) → CtxId → Bool
local_in es c = let of = context_in es c in is_some of.outer_macro && of.local_inner

abbrev pub contexts_of : List (ℕ × Context) → Contexts
contexts_of es = record {
  parent = λ c. (context_in es c).parent;
  opaque = λ c. (context_in es c).opaque;
  outer_macro = λ c. (context_in es c).outer_macro;
}

abbrev pub hygiene_in : List ((ℕ × ℕ) × HygieneId) → Site → HygieneId
hygiene_in es s = unwrap_or (site_value es s) (record { 0 = 0 })

-- a predicate of which nothing is said is undecided
abbrev pub if_said : Option (Option Bool) → Option Bool
if_said None = None
if_said (Some holds) = holds

abbrev pub decision_of : List (ℕ × Option Bool) → Option PredId → Option Bool
decision_of es None = None
decision_of es (Some p) = if_said (number_found es p.0)

-- a path of which nothing is said stands for nothing
abbrev pub resolved_in : List (ModPath × List (ℕ × Resolved)) → ModuleId → ModPath → Resolved
resolved_in es inside p = unwrap_or (path_found es inside p) (record { types = None; values = None; rest = None })

abbrev pub expanded_to : MacroAnswer → Expanding
expanded_to (answer.Unresolved x) = unresolved x
expanded_to answer.NoExpansion = no_expansion
expanded_to (answer.Expanded f root es) = expanded f root es

-- a call of which nothing is said has no expansion
abbrev pub if_expanded : {M : Type 0} → (M → Expanding) → Option M → Expanding
if_expanded expanding None = no_expansion
if_expanded expanding (Some answer) = expanding answer

abbrev pub answers_by : {M : Type 0} → (M → Expanding) → Saying M → Answers
answers_by expanding t = record {
  cfg = λ s. cfg_result (site_value t.disabled s);
  hygiene = λ s. hygiene_in t.hygiene s;
  -- that of its hygiene's number
  context = λ s. record { 0 = (hygiene_in t.hygiene s).0 };
  contexts = contexts_of t.contexts;
  crate_root = λ c. (context_in t.contexts c).crate_root;
  local_inner = local_in t.contexts;
  cfg_pred = λ pred. decision_of t.preds pred;
  block = λ s inside. site_value t.blocks s;
  skip = λ _. t.skip;
  container = λ _. t.container;
  module_of = module_in;
  resolve = λ inside p _. resolved_in t.paths inside p;
  alias = alias_found t.aliases;
  lang_items = t.lang_items;
  new_range = λ _. t.new_range;
  expand = λ s c inside k. if_expanded expanding (site_value t.macros s);
  macro_def = λ inside n. definition_found t.macro_defs inside n;
  legacy_macro = λ inside n k. legacy_found t.legacy inside n k;
  expansion_limit = t.limit;
}

abbrev pub answers_of : Tables → Answers
answers_of t = answers_by expanded_to t
