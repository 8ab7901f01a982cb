-- The questions, where two environments answer one alike, and what depends on which of them.
use Rattle.std.specs.Prelude.{◌≡◌, ℕ, Bool, true, List, [], ◌∷◌, Option, Some}
use Rattle.hir_base.specs.declared.node.HirFileId.{HirFileId}
use Rattle.hir_syntax.specs.declared.macros.Fragment.{Fragment as AstFragment}
use Rattle.hir_store.specs.declared.ids.BlockId.{BlockId}
use Rattle.hir_env.specs.declared.ctx.LowerCtx.{LowerCtx}
use Rattle.hir_base.specs.declared.node.PredId.{PredId}
use Rattle.hir_syntax.specs.declared.macros.MacroCall.{MacroCall as AstMacroCall}
use Rattle.hir_store.specs.declared.ids.CtxId.{CtxId}
use Rattle.hir_store.specs.declared.ids.DefWithBodyId.{DefWithBodyId}
use Rattle.hir_store.specs.declared.ids.ItemContainerId.{ItemContainerId}
use Rattle.hir_store.specs.declared.ids.ModuleId.{ModuleId}
use Rattle.hir_store.specs.declared.ids.TypeAliasId.{TypeAliasId}
use Rattle.hir_store.specs.declared.name.Name.{Name}
use Rattle.hir_store.specs.declared.path.ModPath.{ModPath}
use Rattle.hir_env.specs.Answers.{Answers, Eager, expanded}
use Rattle.hir_env.specs.NodeMap.{Site}
use Rattle.hir_env.specs.declared.expand.FragmentKind.{FragmentKind}
use Rattle.hir_env.specs.declared.resolved.BuiltinShadowMode.{BuiltinShadowMode}
use Rattle.hir_env.specs.Paths.{flags_of}
use Rattle.thm_frame.specs.Items.{LangItem, item_of}

-- What may be asked. What is answered of all contexts is one question, since a jump has it in it as a whole. Of an alias it is asked which
-- of its lifetime parameters its type names.
pub data Question : Type 0 where
  of_cfg : Site → Question
  of_hygiene : Site → Question
  of_context : Site → Question
  of_contexts : Question
  of_crate_root : CtxId → Question
  of_local_inner : CtxId → Question
  of_cfg_pred : Option PredId → Question
  of_block : Site → ModuleId → Question
  of_skip : DefWithBodyId → Question
  of_container : DefWithBodyId → Question
  of_module : ItemContainerId → Question
  of_resolve : ModuleId → ModPath → BuiltinShadowMode → Question
  of_alias : TypeAliasId → Question
  of_lang_item : LangItem → Question
  of_new_range : ModuleId → Question
  of_expand : Site → AstMacroCall → ModuleId → FragmentKind → Question
  of_macro_def : ModuleId → Name → Question
  of_legacy_macro : ModuleId → Name → ℕ → Question
  of_expansion_limit : Question

-- both answer it alike
abbrev pub Alike : Answers → Answers → Question → Type 0
Alike a b (of_cfg s) = a.cfg s ≡ b.cfg s
Alike a b (of_hygiene s) = a.hygiene s ≡ b.hygiene s
Alike a b (of_context s) = a.context s ≡ b.context s
Alike a b of_contexts = a.contexts ≡ b.contexts
Alike a b (of_crate_root c) = a.crate_root c ≡ b.crate_root c
Alike a b (of_local_inner c) = a.local_inner c ≡ b.local_inner c
Alike a b (of_cfg_pred x) = a.cfg_pred x ≡ b.cfg_pred x
Alike a b (of_block s m) = a.block s m ≡ b.block s m
Alike a b (of_skip d) = a.skip d ≡ b.skip d
Alike a b (of_container d) = a.container d ≡ b.container d
Alike a b (of_module c) = a.module_of c ≡ b.module_of c
Alike a b (of_resolve m x s) = a.resolve m x s ≡ b.resolve m x s
Alike a b (of_alias n) = flags_of (a.alias n) ≡ flags_of (b.alias n)
Alike a b (of_lang_item i) = item_of a.lang_items i ≡ item_of b.lang_items i
Alike a b (of_new_range m) = a.new_range m ≡ b.new_range m
Alike a b (of_expand s c m k) = a.expand s c m k ≡ b.expand s c m k
Alike a b (of_macro_def m n) = a.macro_def m n ≡ b.macro_def m n
Alike a b (of_legacy_macro m n k) = a.legacy_macro m n k ≡ b.legacy_macro m n k
Alike a b of_expansion_limit = a.expansion_limit ≡ b.expansion_limit

-- all of these
abbrev pub AllAlike : Answers → Answers → List Question → Type 0
AllAlike a b [] = Unit {0}
AllAlike a b (q ∷ qs) = Alike a b q × AllAlike a b qs

-- Files and modules that are closed under what this environment answers there: with a file and a module the file of each expansion and
-- the module of each block that has a number.
pub record Area (a : Answers) : Type 0 where
  pub file : HirFileId → Bool
  pub inside : ModuleId → Bool
  pub blocks : (s : Site) (m : ModuleId) (n : BlockId × ModuleId) → file s.file_id ≡ true → inside m ≡ true → a.block s m ≡ Some n
      → inside n.1 ≡ true
  pub expansions : (s : Site) (c : AstMacroCall) (m : ModuleId) (k : FragmentKind) (f : HirFileId) (x : Option AstFragment)
      (es : List Eager) → file s.file_id ≡ true → inside m ≡ true → a.expand s c m k ≡ expanded f x es → file f ≡ true

-- a place there
abbrev pub Here : {a : Answers} → Area a → LowerCtx → Type 0
Here area p = (area.file p.file_id ≡ true) × (area.inside p.module_id ≡ true)

-- A question about a node is about one of these files, and one that is asked in a module about one of these modules.
abbrev pub InArea : {a : Answers} → Area a → Question → Type 0
InArea area (of_cfg s) = area.file s.file_id ≡ true
InArea area (of_hygiene s) = area.file s.file_id ≡ true
InArea area (of_context s) = area.file s.file_id ≡ true
InArea area (of_block s m) = (area.file s.file_id ≡ true) × (area.inside m ≡ true)
InArea area (of_resolve m x s) = area.inside m ≡ true
InArea area (of_new_range m) = area.inside m ≡ true
InArea area (of_expand s c m k) = (area.file s.file_id ≡ true) × (area.inside m ≡ true)
InArea area (of_macro_def m n) = area.inside m ≡ true
InArea area (of_legacy_macro m n k) = area.inside m ≡ true
InArea area _ = Unit {0}

abbrev pub AllIn : {a : Answers} → Area a → List Question → Type 0
AllIn area [] = Unit {0}
AllIn area (q ∷ qs) = InArea area q × AllIn area qs

-- What is made of answers, here of those of one environment, with what is asked of it for that, all of it in this area: each other
-- environment that answers these questions alike has the same made of it.
pub record Within {X : Type 0} {a : Answers} (area : Area a) (made : Answers → X) : Type 0 where
  pub asked : List Question
  pub there : AllIn area asked
  pub frame : (b : Answers) → AllAlike a b asked → made a ≡ made b

abbrev pub Framed : {X : Type 0} {a : Answers} → Area a → (Answers → X) → Answers → Type 0
Framed area made _ = Within area made
