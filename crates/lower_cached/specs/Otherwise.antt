-- What is answered otherwise than it was.
use Rattle.std.specs.Prelude.{◌&&◌, ℕ, Bool, true, false, not, if◌then◌else◌, nat_eq}
use Rattle.std.specs.Prelude.{List, [], Option, Some, None, is_none, Result, Ok, Err}
use Rattle.std.specs.List.{list_any}
use Rattle.hir_alias.specs.Alias.{Alias}
use Rattle.hir_env.specs.Answers.{Answers, Expanding, no_expansion, expanded}
use Rattle.hir_env.specs.declared.lang.LangItems.{LangItems}
use Rattle.hir_env.specs.declared.resolved.Resolution.TheVariants as resolution
use Rattle.hir_env.specs.declared.resolved.Resolved.{Resolved}
use Rattle.hir_recorder.specs.declared.asked.Asked.{Asked}
use Rattle.hir_store.specs.declared.ids.CfgId.{CfgId}
use Rattle.hir_store.specs.declared.ids.CrateId.{CrateId}
use Rattle.hir_store.specs.declared.ids.ItemContainerId.{ItemContainerId}
use Rattle.hir_store.specs.declared.ids.ItemContainerId.TheVariants as container
use Rattle.hir_store.specs.declared.ids.BlockId.{BlockId}
use Rattle.hir_store.specs.declared.ids.MacroDefId.{MacroDefId}
use Rattle.hir_store.specs.declared.ids.ModuleId.{ModuleId}
use Rattle.lower_cached.specs.Questions.{about, about_path, about_macro, about_rules}
use Rattle.lower_cached.specs.declared.question.Question.TheVariants as question

-- what stands in the log is kept, except for what is left out
abbrev pub left_out : Option Asked → (Asked → Bool) → Bool
left_out None is_it = false
left_out (Some a) is_it = is_it a

abbrev pub keeps : List Asked → Option Asked → (Asked → Bool) → Bool
keeps log but is_it = list_any is_it log && not (left_out but is_it)

abbrev pub other : ℕ → ℕ
other n = if nat_eq n 0 then 1 else 0

abbrev pub other_cfg : Result (Unit {0}) CfgId → Result (Unit {0}) CfgId
other_cfg (Ok _) = Err (record { 0 = 0 })
other_cfg (Err _) = Ok tt

abbrev pub other_pred : Option Bool → Option Bool
other_pred (Some holds) = Some (not holds)
other_pred None = Some true

abbrev pub other_root : Option CrateId → Option CrateId
other_root (Some _) = None
other_root None = Some (record { 0 = 0 })

abbrev pub other_definition : Option MacroDefId → Option MacroDefId
other_definition (Some _) = None
other_definition None = Some (record { 0 = 0 })

abbrev pub other_block : ModuleId → Option (BlockId × ModuleId) → Option (BlockId × ModuleId)
other_block m (Some _) = None
other_block m None = Some (record { 0 = 0 }, m)

abbrev pub other_container : ItemContainerId → ItemContainerId
other_container (container.TraitId _) = container.ImplId (record { 0 = 0 })
other_container _ = container.TraitId (record { 0 = 0 })

abbrev pub other_resolved : Resolved → Resolved
other_resolved r = let found = if is_none r.types && is_none r.values then Some resolution.Const else None in
    record { types = found; values = found; rest = None }

abbrev pub other_alias : Option Alias → Option Alias → Option Alias
other_alias spare (Some _) = None
other_alias spare None = spare

abbrev pub other_expanding : Expanding → Expanding
other_expanding no_expansion = expanded (record { 0 = 0 }) None []
other_expanding _ = no_expansion

-- as `a` answers where it is kept, and else otherwise
abbrev pub otherwise : ((Asked → Bool) → Bool) → LangItems → Option Alias → Answers → Answers
otherwise kept items spare a = record {
  cfg = λ s. if kept (about (question.Cfg s)) then a.cfg s else other_cfg (a.cfg s);
  hygiene = λ s. if kept (about (question.Hygiene s)) then a.hygiene s else record { 0 = other (a.hygiene s).0 };
  context = λ s. if kept (about (question.Context s)) then a.context s else record { 0 = other (a.context s).0 };
  contexts = record {
    parent = λ c. if kept (about (question.ContextParent c)) then a.contexts.parent c else record { 0 = other (a.contexts.parent c).0 };
    opaque = λ c. if kept (about (question.Opaque c)) then a.contexts.opaque c else record { 0 = other (a.contexts.opaque c).0 };
    outer_macro = λ c.
        if kept (about (question.OuterMacro c)) then a.contexts.outer_macro c else other_definition (a.contexts.outer_macro c);
  };
  crate_root = λ c. if kept (about (question.CrateRoot c)) then a.crate_root c else other_root (a.crate_root c);
  local_inner = λ c. if kept (about (question.OuterMacro c)) then a.local_inner c else is_none (a.contexts.outer_macro c);
  cfg_pred = λ p. if kept (about (question.CfgPred p)) then a.cfg_pred p else other_pred (a.cfg_pred p);
  block = λ s m. if kept (about (question.Block s m)) then a.block s m else other_block m (a.block s m);
  skip = λ d. if kept (about (question.Skip d)) then a.skip d else not (a.skip d);
  container = λ d. if kept (about (question.Container d)) then a.container d else other_container (a.container d);
  module_of = λ c. if kept (about (question.ModuleOf c)) then a.module_of c else record { 0 = other (a.module_of c).0 };
  resolve = λ m p s. if kept (about_path m p s) then a.resolve m p s else other_resolved (a.resolve m p s);
  alias = λ n. if kept (about (question.Alias n)) then a.alias n else other_alias spare (a.alias n);
  lang_items = if kept (about question.LangItems) then a.lang_items else items;
  new_range = λ m. if kept (about (question.NewRange m)) then a.new_range m else not (a.new_range m);
  expand = λ s c m k. if kept (about (question.Expand s m k)) then a.expand s c m k else other_expanding (a.expand s c m k);
  macro_def = λ m n. if kept (about_macro m n) then a.macro_def m n else other_definition (a.macro_def m n);
  legacy_macro = λ m n i. if kept (about_rules m n i) then a.legacy_macro m n i else other_definition (a.legacy_macro m n i);
  expansion_limit = if kept (about question.ExpansionLimit) then a.expansion_limit else other a.expansion_limit;
}
