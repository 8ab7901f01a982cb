-- Sets of nodes and of modules, and what may be asked there.
use Rattle.std.specs.Prelude.{◌≡◌, if◌then◌else◌, Bool, true, false, List, [], ◌∷◌, Option, Some}
use Rattle.hir_base.specs.declared.node.HirFileId.{HirFileId}
use Rattle.hir_base.specs.declared.node.NodeId.{NodeId}
use Rattle.hir_syntax.specs.declared.macros.Fragment.{Fragment as AstFragment}
use Rattle.hir_syntax.specs.declared.macros.MacroCall.{MacroCall as AstMacroCall}
use Rattle.hir_store.specs.declared.ids.BlockId.{BlockId}
use Rattle.hir_store.specs.declared.ids.ModuleId.{ModuleId}
use Rattle.hir_env.specs.Answers.{Answers, Eager, expanded}
use Rattle.hir_env.specs.NodeMap.{Site}
use Rattle.hir_env.specs.declared.expand.FragmentKind.{FragmentKind}
use Rattle.hir_env.specs.declared.ctx.LowerCtx.{LowerCtx}
use Rattle.thm_frame.specs.Questions.{Alike, Question, of_block, of_cfg, of_context, of_expand}
use Rattle.thm_frame.specs.Questions.{of_hygiene, of_legacy_macro, of_macro_def, of_new_range, of_resolve}

-- Nodes and modules that are closed under what this environment answers there: with a node and a module all nodes of the file of each
-- expansion, and the module of each block that has a number.
pub record NodeArea (a : Answers) : Type 0 where
  pub node : Site → Bool
  pub inside : ModuleId → Bool
  pub blocks : (s : Site) (m : ModuleId) (n : BlockId × ModuleId) → node s ≡ true → inside m ≡ true → a.block s m ≡ Some n
      → inside n.1 ≡ true
  pub expansions : (s : Site) (c : AstMacroCall) (m : ModuleId) (k : FragmentKind) (f : HirFileId) (x : Option AstFragment)
      (es : List Eager) (id : NodeId) → node s ≡ true → inside m ≡ true → a.expand s c m k ≡ expanded f x es
      → node (record { file_id = f; value = id }) ≡ true

-- these nodes of a file are there
abbrev pub AllThere : {a : Answers} → NodeArea a → HirFileId → List NodeId → Type 0
AllThere area f [] = Unit {0}
AllThere area f (id ∷ ids) = (area.node (record { file_id = f; value = id }) ≡ true) × AllThere area f ids

-- so are a place's module and these nodes of its file
abbrev pub Holds : {a : Answers} → NodeArea a → LowerCtx → List NodeId → Type 0
Holds area p ids = (area.inside p.module_id ≡ true) × AllThere area p.file_id ids

-- A question about a node is about one of these nodes, and one that is asked in a module about one of these modules.
abbrev pub InNodes : {a : Answers} → NodeArea a → Question → Type 0
InNodes area (of_cfg s) = area.node s ≡ true
InNodes area (of_hygiene s) = area.node s ≡ true
InNodes area (of_context s) = area.node s ≡ true
InNodes area (of_block s m) = (area.node s ≡ true) × (area.inside m ≡ true)
InNodes area (of_resolve m x s) = area.inside m ≡ true
InNodes area (of_new_range m) = area.inside m ≡ true
InNodes area (of_expand s c m k) = (area.node s ≡ true) × (area.inside m ≡ true)
InNodes area (of_macro_def m n) = area.inside m ≡ true
InNodes area (of_legacy_macro m n k) = area.inside m ≡ true
InNodes area _ = Unit {0}

abbrev pub AllInNodes : {a : Answers} → NodeArea a → List Question → Type 0
AllInNodes area [] = Unit {0}
AllInNodes area (q ∷ qs) = InNodes area q × AllInNodes area qs

-- whether a question is about a node or asked in a module
abbrev pub is_placed : Question → Bool
is_placed (of_cfg s) = true
is_placed (of_hygiene s) = true
is_placed (of_context s) = true
is_placed (of_block s m) = true
is_placed (of_resolve m x s) = true
is_placed (of_new_range m) = true
is_placed (of_expand s c m k) = true
is_placed (of_macro_def m n) = true
is_placed (of_legacy_macro m n k) = true
is_placed _ = false

-- those of a list that are about no node and asked in no module
abbrev pub elsewhere : List Question → List Question
elsewhere [] = []
elsewhere (q ∷ qs) = if is_placed q then elsewhere qs else q ∷ elsewhere qs

-- another environment that answers alike whatever may be asked about these nodes and in these modules
abbrev pub AgreesAtNodes : {a : Answers} → NodeArea a → Answers → Type 0
AgreesAtNodes {a} area b = (q : Question) → is_placed q ≡ true → InNodes area q → Alike a b q
