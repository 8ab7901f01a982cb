-- A call of which something is said already.
use Rattle.std.proofs.Common.{◌≡◌, Option, Some, None, true, is_some, refl}
use Rattle.hir_env.specs.NodeMap.{Site}
use Rattle.hir_tables.specs.Tables.{site_value}
use Rattle.hir_tables.specs.declared.table.MacroAnswer.{MacroAnswer}
use Rattle.lower_json.specs.Macros.{Said, with_answer}

pub said_before : (c : Option Site) (s : Site) (a : Option MacroAnswer) (es : Said) → c ≡ Some s → is_some (site_value es s) ≡ true
    → es ≡ with_answer c a es
said_before c s None es e h = rw e refl
said_before c s (Some a) es e h = rw e (rw h refl)
