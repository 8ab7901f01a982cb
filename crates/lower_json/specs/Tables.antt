-- The tables of a document. What is no entry of a table says nothing.
use Rattle.std.specs.Prelude.{ℕ, codes, Bool, true, List, [], ◌∷◌, Option, Some, None, option_map, option_and_then}
use Rattle.serde_json.specs.Data.{Data, null, boolean, number, string, array, object, Items, no_items, item}
use Rattle.serde_json.specs.Find.{get, as_array, as_bool, as_str}
use Rattle.hir_env.specs.NodeMap.{Site}
use Rattle.hir_tables.specs.Tables as answered
use Rattle.hir_env.specs.Tables.{numbered_items}
use Rattle.hir_env.specs.declared.lang.LangItems.{LangItems}
use Rattle.hir_env.specs.declared.resolved.Resolution.{Resolution}
use Rattle.hir_env.specs.declared.resolved.Resolution.TheVariants as resolution
use Rattle.hir_env.specs.declared.resolved.Resolved.{Resolved}
use Rattle.hir_tables.specs.declared.table.Context.{Context}
use Rattle.hir_store.specs.declared.ids.CfgId.{CfgId}
use Rattle.hir_store.specs.declared.ids.HygieneId.{HygieneId}
use Rattle.hir_store.specs.declared.ids.CtxId.{CtxId}
use Rattle.hir_store.specs.declared.ids.MacroDefId.{MacroDefId}
use Rattle.hir_store.specs.declared.ids.CrateId.{CrateId}
use Rattle.hir_store.specs.declared.ids.BlockId.{BlockId}
use Rattle.hir_store.specs.declared.ids.LangItemId.{LangItemId}
use Rattle.hir_store.specs.declared.path.ModPath.{ModPath}
use Rattle.hir_store.specs.declared.ids.ModuleId.{ModuleId}
use Rattle.hir_base.specs.declared.node.PredId.{PredId}
use Rattle.json_errors.specs.Values.{is_alias_word, small_of}
use Rattle.json_errors.specs.ByWord.{with_word}
use Rattle.lower_json.specs.PathTexts.{path_of}

-- the node of a number in a file
abbrev pub site_of : Option ℕ → Option ℕ → Option Site
site_of (Some file) (Some node) = Some (record { file_id = record { 0 = file }; value = record { 0 = node } })
site_of _ _ = None

abbrev pub both : {A B : Type 0} → Option A → Option B → Option (A × B)
both (Some a) (Some b) = Some (a, b)
both _ _ = None

abbrev pub triple_of : Option Items → Option (Site × ℕ)
triple_of (Some (item f (item n (item x no_items)))) = both (site_of (small_of f) (small_of n)) (small_of x)
triple_of _ = None

abbrev pub quadruple_of : Option Items → Option (Site × (ℕ × ℕ))
quadruple_of (Some (item f (item n (item x (item y no_items))))) = both (site_of (small_of f) (small_of n)) (both (small_of x) (small_of y))
quadruple_of _ = None

-- [file, node, condition]
abbrev pub disabled_of : Option Items → Option (Site × CfgId)
disabled_of ds = option_map (λ e. (e.0, record { 0 = e.1 })) (triple_of ds)

-- true, false or null
abbrev pub decision_of : Data → Option (Option Bool)
decision_of (boolean b) = Some (Some b)
decision_of null = Some None
decision_of _ = None

abbrev pred_said : Option ℕ → Option (Option Bool) → Option (PredId × Option Bool)
pred_said (Some n) (Some holds) = Some (record { 0 = n }, holds)
pred_said _ _ = None

-- [predicate, decision]
abbrev pub decided_of : Option Items → Option (PredId × Option Bool)
decided_of (Some (item p (item d no_items))) = pred_said (small_of p) (decision_of d)
decided_of _ = None

-- [file, node, hygiene]
abbrev pub named_of : Option Items → Option (Site × HygieneId)
named_of ds = option_map (λ e. (e.0, record { 0 = e.1 })) (triple_of ds)

-- [file, node, block, module]
abbrev pub numbered_of : Option Items → Option (Site × (BlockId × ModuleId))
numbered_of ds = option_map (λ e. (e.0, (record { 0 = e.1.0 }, record { 0 = e.1.1 }))) (quadruple_of ds)

-- a number, or none where null stands
abbrev pub number_or_null : Data → Option (Option ℕ)
number_or_null null = Some None
number_or_null (boolean b) = None
number_or_null (number n) = option_map Some (small_of (number n))
number_or_null (string s) = None
number_or_null (array ds) = None
number_or_null (object ms) = None

abbrev pub context_id_of : Option ℕ → Option CtxId
context_id_of n = option_map (λ n. record { 0 = n }) n

abbrev pub outer_macro_of : Option (Option ℕ) → Option (Option MacroDefId)
outer_macro_of n = option_map (λ m. option_map (λ n. record { 0 = n }) m) n

abbrev pub crate_root_of : Option (Option ℕ) → Option (Option CrateId)
crate_root_of n = option_map (λ m. option_map (λ n. record { 0 = n }) m) n

abbrev pub frame_of : Option ℕ → Option ℕ → Option (Option MacroDefId) → Option Bool → Option (Option CrateId) → Option Context
frame_of (Some parent) (Some opaque) (Some outer) (Some local) (Some root) = Some (record {
  parent = record { 0 = parent };
  opaque = record { 0 = opaque };
  outer_macro = outer;
  local_inner = local;
  crate_root = root;
})
frame_of _ _ _ _ _ = None

-- [context, parent, opaque, macro or null, whether that is local to its crate, crate or null]
abbrev pub context_of : Option Items → Option (CtxId × Context)
context_of (Some (item c (item p (item o (item m (item l (item r no_items))))))) = both (context_id_of (small_of c))
    (frame_of (small_of p) (small_of o) (outer_macro_of (number_or_null m)) (as_bool l) (crate_root_of (number_or_null r)))
context_of _ = None

abbrev pub with_entry : {K T E : Type 0} → (List E → K → T → List E) → Option (K × T) → List E → List E
with_entry put None es = es
with_entry put (Some e) es = put es e.0 e.1

-- a table with the entries of a list put into it
abbrev pub with_all : {K T E : Type 0} → (List E → K → T → List E) → (Option Items → Option (K × T)) → Items → List E → List E
with_all put entry no_items es = es
with_all put entry (item d ds) es = with_all put entry ds (with_entry put (entry (as_array d)) es)

abbrev items_or_none : Option Items → Items
items_or_none (Some ds) = ds
items_or_none None = no_items

-- the rows of a table, none where it is absent
abbrev pub rows : List ℕ → Data → Items
rows name env = items_or_none (option_and_then as_array (get name env))

-- the word of what a path stands for; an alias has none of its own
abbrev pub resolution_word : Resolution → List ℕ
resolution_word resolution.Module = codes "module"
resolution_word resolution.Function = codes "function"
resolution_word resolution.Struct = codes "struct"
resolution_word resolution.Union = codes "union"
resolution_word resolution.Enum = codes "enum"
resolution_word resolution.Variant = codes "variant"
resolution_word resolution.Const = codes "const"
resolution_word resolution.Static = codes "static"
resolution_word resolution.Trait = codes "trait"
resolution_word resolution.BuiltinType = codes "builtin"
resolution_word (resolution.TypeAlias _) = codes "alias"

-- all but aliases
abbrev pub resolutions : List Resolution
resolutions = resolution.Module ∷ resolution.Function ∷ resolution.Struct ∷ resolution.Union ∷ resolution.Enum
    ∷ resolution.Variant ∷ resolution.Const ∷ resolution.Static ∷ resolution.Trait ∷ resolution.BuiltinType ∷ []

abbrev pub numbered_alias : Bool → Option ℕ → Option Resolution
numbered_alias true (Some n) = Some (resolution.TypeAlias (record { 0 = n }))
numbered_alias _ _ = None

abbrev pub alias_of : Option Items → Option Resolution
alias_of (Some (item word (item n no_items))) = numbered_alias (is_alias_word word) (small_of n)
alias_of _ = None

-- what a path stands for, or nothing where null stands
abbrev pub resolution_of : Data → Option (Option Resolution)
resolution_of null = Some None
resolution_of (string s) = option_map Some (with_word resolution_word resolutions s)
resolution_of (array ds) = option_map Some (alias_of (Some ds))
resolution_of (boolean b) = None
resolution_of (number n) = None
resolution_of (object ms) = None

abbrev pub resolved_of : Option (Option Resolution) → Option (Option Resolution) → Option (Option ℕ) → Option Resolved
resolved_of (Some types) (Some values) (Some rest) = Some (record { types = types; values = values; rest = rest })
resolved_of _ _ _ = None

-- the path that a text is
abbrev pub path_in : Data → Option ModPath
path_in d = option_map path_of (as_str d)

abbrev pub module_of : Option ℕ → Option ModuleId
module_of n = option_map (λ n. record { 0 = n }) n

-- [module, path, as a type, as a value, the first segment that stands for nothing or null]
abbrev pub said_of : Option Items → Option (ModPath × (ModuleId × Resolved))
said_of (Some (item m (item p (item t (item v (item r no_items)))))) = both (path_in p)
    (both (module_of (small_of m)) (resolved_of (resolution_of t) (resolution_of v) (number_or_null r)))
said_of _ = None

abbrev pub Paths : Type 0
Paths = List (ModPath × List (ℕ × Resolved))

abbrev with_path : Option (ModPath × (ModuleId × Resolved)) → Paths → Paths
with_path None es = es
with_path (Some e) es = answered.with_path es e.1.0 e.0 e.1.1

-- paths with those of a list
abbrev pub with_paths : Items → Paths → Paths
with_paths no_items es = es
with_paths (item d ds) es = with_paths ds (with_path (said_of (as_array d)) es)

-- an item of the language, which has its own number where nothing is said
abbrev pub said_item : ℕ → Option (Option ℕ) → Option LangItemId
said_item k None = Some (record { 0 = k })
said_item k (Some None) = None
said_item k (Some (Some n)) = Some (record { 0 = n })

abbrev pub item_in : List ℕ → ℕ → Data → Option LangItemId
item_in name k lang = said_item k (option_and_then number_or_null (get name lang))

abbrev pub items_in : Data → LangItems
items_in lang = record {
  range_full = item_in (codes "RangeFull") 0 lang;
  range_from = item_in (codes "RangeFrom") 1 lang;
  range_from_copy = item_in (codes "RangeFromCopy") 2 lang;
  range_to = item_in (codes "RangeTo") 3 lang;
  range_copy = item_in (codes "RangeCopy") 4 lang;
  range = item_in (codes "Range") 5 lang;
  range_to_inclusive_copy = item_in (codes "RangeToInclusiveCopy") 6 lang;
  range_to_inclusive = item_in (codes "RangeToInclusive") 7 lang;
  range_inclusive_copy = item_in (codes "RangeInclusiveCopy") 8 lang;
  range_inclusive_new = item_in (codes "RangeInclusiveNew") 9 lang;
  try_trait_from_output = item_in (codes "TryTraitFromOutput") 10 lang;
  try_trait_branch = item_in (codes "TryTraitBranch") 11 lang;
  control_flow_continue = item_in (codes "ControlFlowContinue") 12 lang;
  control_flow_break = item_in (codes "ControlFlowBreak") 13 lang;
  residual_into_try_type = item_in (codes "ResidualIntoTryType") 14 lang;
  try_trait_from_residual = item_in (codes "TryTraitFromResidual") 15 lang;
  into_iter_into_iter = item_in (codes "IntoIterIntoIter") 16 lang;
  iterator_next = item_in (codes "IteratorNext") 17 lang;
  option_some = item_in (codes "OptionSome") 18 lang;
  option_none = item_in (codes "OptionNone") 19 lang;
  range_min = item_in (codes "RangeMin") 20 lang;
  range_max = item_in (codes "RangeMax") 21 lang;
  range_sub = item_in (codes "RangeSub") 22 lang;
}

-- the lang items, each with its own number where nothing is said of them
abbrev pub lang_of : Option Data → LangItems
lang_of None = numbered_items
lang_of (Some lang) = items_in lang
