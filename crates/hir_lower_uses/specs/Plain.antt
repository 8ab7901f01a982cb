-- What the plain environment answers.
use Rattle.std.specs.Prelude.{None, Ok, false}
use Rattle.hir_env.specs.Answers.{Answers, no_expansion}
use Rattle.hir_env.specs.declared.lang.LangItems.{LangItems}
use Rattle.hir_store.specs.declared.ids.ItemContainerId.TheVariants as holder

-- All is enabled and nothing is decided; there is one module, one hygiene and no macro; no name stands for anything.
abbrev pub plain_answers : LangItems → Answers
plain_answers items = record {
  cfg = λ node. Ok tt;
  hygiene = λ node. record { 0 = 0 };
  context = λ node. record { 0 = 0 };
  contexts = record { parent = λ c. c; opaque = λ c. record { 0 = 0 }; outer_macro = λ c. None };
  crate_root = λ c. None;
  local_inner = λ c. false;
  cfg_pred = λ p. None;
  block = λ node inside. None;
  skip = λ owner. false;
  container = λ owner. holder.ModuleId (record { 0 = 0 });
  module_of = λ container. record { 0 = 0 };
  resolve = λ inside path shadow. record { types = None; values = None; rest = None };
  alias = λ id. None;
  lang_items = items;
  new_range = λ inside. false;
  expand = λ node call inside kind. no_expansion;
  macro_def = λ inside name. None;
  legacy_macro = λ inside name place. None;
  expansion_limit = 0;
}
