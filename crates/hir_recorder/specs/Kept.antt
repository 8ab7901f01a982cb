-- Who answers a question as it was answered.
use Rattle.std.specs.Prelude.{◌≡◌, List, [], ◌∷◌}
use Rattle.hir_env.specs.Answers.{Answers, definition, is_local}
use Rattle.hir_env.specs.Paths.{flags_of}
use Rattle.hir_recorder.specs.declared.asked.Asked.{Asked}
use Rattle.hir_recorder.specs.declared.asked.Asked.TheVariants as asked

-- of an expansion, which was lent, nobody is known to do so
abbrev pub AnsweredAs : Answers → Asked → Type 0
AnsweredAs b (asked.Cfg s x) = b.cfg s ≡ x
AnsweredAs b (asked.CfgPred pred x) = b.cfg_pred pred ≡ x
AnsweredAs b (asked.Hygiene s x) = b.hygiene s ≡ x
AnsweredAs b (asked.Context s x) = b.context s ≡ x
AnsweredAs b (asked.CrateRoot c x) = b.crate_root c ≡ x
AnsweredAs b (asked.ContextParent c x) = b.contexts.parent c ≡ x
AnsweredAs b (asked.Opaque c x) = b.contexts.opaque c ≡ x
AnsweredAs b (asked.OuterMacro c x) = (b.contexts.outer_macro c ≡ definition x) × (b.local_inner c ≡ is_local x)
AnsweredAs b (asked.Block s m x) = b.block s m ≡ x
AnsweredAs b (asked.Skip d x) = b.skip d ≡ x
AnsweredAs b (asked.Container d x) = b.container d ≡ x
AnsweredAs b (asked.ModuleOf c x) = b.module_of c ≡ x
AnsweredAs b (asked.Resolve m path s x) = b.resolve m path s ≡ x
AnsweredAs b (asked.Alias n fs) = flags_of (b.alias n) ≡ fs.items
AnsweredAs b (asked.LangItems x) = b.lang_items ≡ x
AnsweredAs b (asked.NewRange m x) = b.new_range m ≡ x
AnsweredAs b (asked.Expand s m k f) = ⊥
AnsweredAs b (asked.MacroDef m n x) = b.macro_def m n ≡ x
AnsweredAs b (asked.LegacyMacro m n k x) = b.legacy_macro m n k ≡ x
AnsweredAs b (asked.ExpansionLimit x) = b.expansion_limit ≡ x

abbrev pub AllAnsweredAs : Answers → List Asked → Type 0
AllAnsweredAs b [] = Unit {0}
AllAnsweredAs b (x ∷ xs) = AnsweredAs b x × AllAnsweredAs b xs
