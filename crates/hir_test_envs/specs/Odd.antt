-- Environments that answer as another one does, except for one thing.
use Rattle.std.specs.Prelude.{false, List, None, Some, if◌then◌else◌, nat_eq}
use Rattle.hir_env.specs.Answers.{Answers, Contexts, Eager, Expanding, expanded}
use Rattle.hir_env.specs.declared.expand.FragmentKind.{FragmentKind}
use Rattle.hir_env.specs.declared.expand.FragmentKind.TheVariants as kind
use Rattle.hir_env.specs.declared.lang.LangItems.{LangItems}
use Rattle.hir_env.specs.declared.resolved.Resolved.{Resolved}
use Rattle.hir_env.specs.declared.resolved.BuiltinShadowMode.{BuiltinShadowMode}
use Rattle.hir_env.specs.declared.resolved.BuiltinShadowMode.TheVariants as shadow
use Rattle.hir_store.specs.declared.ids.MacroDefId.{MacroDefId}
use Rattle.hir_store.specs.declared.ids.ModuleId.{ModuleId}

-- each context was made in itself, and each came from this macro
abbrev pub turning : MacroDefId → Contexts
turning of = record { parent = λ c. c; opaque = λ c. record { 0 = c.0 }; outer_macro = λ c. Some of }

abbrev pub cyclic_answers : MacroDefId → Answers → Answers
cyclic_answers of env = record env { contexts = turning of; local_inner = λ c. false }

-- blocks have numbers, and ranges are the newer ones, in this module
abbrev pub one_module_answers : ModuleId → Answers → Answers
one_module_answers m env = record env {
  block = λ node inside. if nat_eq inside.0 m.0 then env.block node inside else None;
  new_range = λ inside. nat_eq inside.0 m.0;
}

-- the lang items are these, and no alias is known
abbrev pub lacking_answers : LangItems → Answers → Answers
lacking_answers items env = record env { alias = λ id. None; lang_items = items }

-- what is found where the shadow is the one that counts
abbrev pub found_by : BuiltinShadowMode → BuiltinShadowMode → Resolved → Resolved
found_by shadow.Other shadow.Other r = r
found_by shadow.Local shadow.Local r = r
found_by shadow.Module shadow.Module r = r
found_by _ _ r = record { types = None; values = None; rest = None }

-- names stand for something by this shadow alone
abbrev pub one_shadow_answers : BuiltinShadowMode → Answers → Answers
one_shadow_answers s env = record env { resolve = λ inside path asked. found_by s asked (env.resolve inside path asked) }

abbrev pub pairs_of : List Eager → List Eager → List Eager → List Eager → FragmentKind → List Eager
pairs_of exprs stmts pats types kind.Expr = exprs
pairs_of exprs stmts pats types kind.Stmts = stmts
pairs_of exprs stmts pats types kind.Pat = pats
pairs_of exprs stmts pats types kind.Type_ = types

abbrev pub with_pairs : List Eager → Expanding → Expanding
with_pairs es (expanded f root _) = expanded f root es
with_pairs es x = x

-- these were expanded beforehand for each call that is expanded
abbrev pub beforehand_answers : (FragmentKind → List Eager) → Answers → Answers
beforehand_answers pairs env = record env {
  expand = λ node call inside k. with_pairs (pairs k) (env.expand node call inside k);
}
