-- What is asked by what was kept, and that those who answer it as it was answered answer it alike.
use Rattle.std.specs.Prelude.{◌≡◌, ◌⊎◌, List, [], ◌∷◌, ◌++◌, map, Option, Some, None}
use Rattle.hir_base.specs.declared.node.HirFileId.{HirFileId}
use Rattle.hir_syntax.specs.declared.macros.MacroCall.{MacroCall as AstMacroCall}
use Rattle.hir_store.specs.declared.ids.ModuleId.{ModuleId}
use Rattle.hir_env.specs.Answers.{Answers, Expanding, expanded}
use Rattle.hir_env.specs.NodeMap.{Site}
use Rattle.hir_env.specs.declared.expand.FragmentKind.{FragmentKind}
use Rattle.thm_frame.specs.Items.{all_items}
use Rattle.thm_frame.specs.Questions.{AllAlike, Question}
use Rattle.thm_frame.specs.Questions as question
use Rattle.hir_recorder.specs.Kept.{AllAnsweredAs, AnsweredAs}
use Rattle.hir_recorder.specs.declared.asked.Asked.{Asked}
use Rattle.hir_recorder.specs.declared.asked.Asked.TheVariants as asked

-- Contexts are one question, which no single context answers, and an expansion isn't known to be the same.
abbrev pub questions : Asked → List Question
questions (asked.Cfg s x) = question.of_cfg s ∷ []
questions (asked.CfgPred pred x) = question.of_cfg_pred pred ∷ []
questions (asked.Hygiene s x) = question.of_hygiene s ∷ []
questions (asked.Context s x) = question.of_context s ∷ []
questions (asked.CrateRoot c x) = question.of_crate_root c ∷ []
questions (asked.ContextParent c x) = []
questions (asked.Opaque c x) = []
questions (asked.OuterMacro c x) = question.of_local_inner c ∷ []
questions (asked.Block s m x) = question.of_block s m ∷ []
questions (asked.Skip d x) = question.of_skip d ∷ []
questions (asked.Container d x) = question.of_container d ∷ []
questions (asked.ModuleOf c x) = question.of_module c ∷ []
questions (asked.Resolve m path s x) = question.of_resolve m path s ∷ []
questions (asked.Alias n x) = question.of_alias n ∷ []
questions (asked.LangItems x) = map question.of_lang_item all_items
questions (asked.NewRange m x) = question.of_new_range m ∷ []
questions (asked.Expand s m k x) = []
questions (asked.MacroDef m n x) = question.of_macro_def m n ∷ []
questions (asked.LegacyMacro m n k x) = question.of_legacy_macro m n k ∷ []
questions (asked.ExpansionLimit x) = question.of_expansion_limit ∷ []

abbrev pub all_questions : List Asked → List Question
all_questions [] = []
all_questions (x ∷ xs) = questions x ++ all_questions xs

abbrev pub KeptAlike : Type 0
KeptAlike = (a b : Answers) (xs : List Asked) → AllAnsweredAs a xs → AllAnsweredAs b xs → AllAlike a b (all_questions xs)

-- Lists whose questions are all among what was kept.

abbrev pub IsOneOf : List Question → Question → Type 0
IsOneOf [] q = ⊥
IsOneOf (r ∷ rs) q = (q ≡ r) ⊎ IsOneOf rs q

-- of an expansion the call isn't kept, so it may be of any
abbrev pub IsAbout : Asked → Question → Type 0
IsAbout (asked.Expand s m k f) q = (c : AstMacroCall) × (q ≡ question.of_expand s c m k)
IsAbout x q = IsOneOf (questions x) q

abbrev pub IsAsked : List Asked → Question → Type 0
IsAsked [] q = ⊥
IsAsked (x ∷ xs) q = IsAbout x q ⊎ IsAsked xs q

abbrev pub Covers : List Asked → List Question → Type 0
Covers xs [] = Unit {0}
Covers xs (q ∷ qs) = IsAsked xs q × Covers xs qs

-- So those who answer what was kept as it was answered answer such a list alike.
abbrev pub CoveredAlike : Type 0
CoveredAlike = (a b : Answers) (xs : List Asked) (qs : List Question) → Covers xs qs → AllAnsweredAs a xs → AllAnsweredAs b xs
    → AllAlike a b qs

-- Where expansions were kept, their files are compared.

abbrev pub file_in : Expanding → Option HirFileId
file_in (expanded f x es) = Some f
file_in _ = None

-- a file is of one expansion, if both have an expansion in it
abbrev pub OneExpansion : Answers → Answers → Type 0
OneExpansion a b = (s : Site) (c : AstMacroCall) (m : ModuleId) (k : FragmentKind) (f : HirFileId)
    → file_in (a.expand s c m k) ≡ Some f → file_in (b.expand s c m k) ≡ Some f → a.expand s c m k ≡ b.expand s c m k

-- As it was answered. A call is known by its node, and one without an expansion may be unresolved or not, which wasn't kept.
abbrev pub AnsweredByFile : Answers → Asked → Type 0
AnsweredByFile b (asked.Expand s m k (Some f)) = (c : AstMacroCall) → file_in (b.expand s c m k) ≡ Some f
AnsweredByFile b x = AnsweredAs b x

abbrev pub AllByFile : Answers → List Asked → Type 0
AllByFile b [] = Unit {0}
AllByFile b (x ∷ xs) = AnsweredByFile b x × AllByFile b xs

abbrev pub CoveredByFiles : Type 0
CoveredByFiles = (a b : Answers) → OneExpansion a b → (xs : List Asked) (qs : List Question) → Covers xs qs → AllByFile a xs
    → AllByFile b xs → AllAlike a b qs
