-- Which question was asked.
use Rattle.std.specs.Prelude.{◌&&◌, ℕ, Bool, true, false, Option, nat_eq}
use Rattle.std.specs.Option.{option_eq}
use Rattle.hir_base.specs.declared.node.PredId.{PredId}
use Rattle.hir_env.specs.NodeMap.{Site}
use Rattle.hir_env.specs.contracts.expand.FragmentKindPartialEq.TheImpl as same_kind
use Rattle.hir_env.specs.contracts.resolved.BuiltinShadowModePartialEq.TheImpl as same_shadow
use Rattle.hir_env.specs.declared.resolved.BuiltinShadowMode.{BuiltinShadowMode}
use Rattle.hir_recorder.specs.declared.asked.Asked.{Asked}
use Rattle.hir_recorder.specs.declared.asked.Asked.TheVariants as asked
use Rattle.hir_store.specs.NameOrder.{path_eq}
use Rattle.hir_store.specs.contracts.ids.DefWithBodyIdPartialEq.TheImpl as same_owner
use Rattle.hir_store.specs.contracts.ids.ItemContainerIdPartialEq.TheImpl as same_container
use Rattle.hir_store.specs.contracts.name.NamePartialEq.TheImpl as same_name
use Rattle.hir_store.specs.declared.ids.ModuleId.{ModuleId}
use Rattle.hir_store.specs.declared.name.Name.{Name}
use Rattle.hir_store.specs.declared.path.ModPath.{ModPath}
use Rattle.lower_cached.specs.declared.question.Question.{Question}
use Rattle.lower_cached.specs.declared.question.Question.TheVariants as question

abbrev pub same_node : Site → Site → Bool
same_node s t = nat_eq s.file_id.0 t.file_id.0 && nat_eq s.value.0 t.value.0

abbrev pub same_pred : Option PredId → Option PredId → Bool
same_pred a b = option_eq (λ p q. nat_eq p.0 q.0) a b

-- what the path stands for in the module was asked
abbrev pub about_path : ModuleId → ModPath → BuiltinShadowMode → Asked → Bool
about_path m p s (asked.Resolve n q t _) = nat_eq m.0 n.0 && (path_eq p q && same_shadow.ghosts.eq s t)
about_path m p s _ = false

-- the macro of the name in the module was asked
abbrev pub about_macro : ModuleId → Name → Asked → Bool
about_macro m x (asked.MacroDef n y _) = nat_eq m.0 n.0 && same_name.ghosts.eq x y
about_macro m x _ = false

-- and so that of `macro_rules`, at its place
abbrev pub about_rules : ModuleId → Name → ℕ → Asked → Bool
about_rules m x i (asked.LegacyMacro n y k _) = nat_eq m.0 n.0 && (same_name.ghosts.eq x y && nat_eq i k)
about_rules m x i _ = false

abbrev pub about : Question → Asked → Bool
about (question.Resolve m p s) a = about_path m p.now s a
about (question.MacroDef m x) a = about_macro m x.now a
about (question.LegacyMacro m x i) a = about_rules m x.now i a
about (question.Cfg s) (asked.Cfg t _) = same_node s t
about (question.CfgPred p) (asked.CfgPred q _) = same_pred p q
about (question.Hygiene s) (asked.Hygiene t _) = same_node s t
about (question.Context s) (asked.Context t _) = same_node s t
about (question.CrateRoot c) (asked.CrateRoot d _) = nat_eq c.0 d.0
about (question.ContextParent c) (asked.ContextParent d _) = nat_eq c.0 d.0
about (question.Opaque c) (asked.Opaque d _) = nat_eq c.0 d.0
about (question.OuterMacro c) (asked.OuterMacro d _) = nat_eq c.0 d.0
about (question.Block s m) (asked.Block t n _) = same_node s t && nat_eq m.0 n.0
about (question.Skip d) (asked.Skip e _) = same_owner.ghosts.eq d e
about (question.Container d) (asked.Container e _) = same_owner.ghosts.eq d e
about (question.ModuleOf c) (asked.ModuleOf d _) = same_container.ghosts.eq c d
about (question.Alias i) (asked.Alias k _) = nat_eq i.0 k.0
about question.LangItems (asked.LangItems _) = true
about (question.NewRange m) (asked.NewRange n _) = nat_eq m.0 n.0
about (question.Expand s m k) (asked.Expand t n l _) = same_node s t && (nat_eq m.0 n.0 && same_kind.ghosts.eq k l)
about question.ExpansionLimit (asked.ExpansionLimit _) = true
about _ _ = false
