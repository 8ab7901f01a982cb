use Rattle.std.proofs.Common.{arith, Option, Some, None}
use Rattle.hir_store.specs.Range.{HasParts, HasPathOption}
use Rattle.hir_store.specs.Stored.{Stored}
use Rattle.hir_store.specs.declared.ids.HygieneId.{HygieneId}
use Rattle.hir_store.specs.declared.path.Path.{Path}
use Rattle.hir_lower_builder.specs.Forms.{path_or_missing}
use Rattle.hir_lower_expr.proofs.typed.read_path_expr.Goals as goal

-- what is in the path exists
path_has : (s : Stored) (h : HygieneId) (o : Option Path) → HasPathOption s o → HasParts s (path_or_missing h o)
path_has s h None w = (omega arith, omega arith, omega arith, omega arith, omega arith)
path_has s h (Some p) w = (w.0, omega arith, w.1, w.2, w.3)

pub alloc_expr-requires : goal.alloc_expr-requires
alloc_expr-requires g c =
    rw c.path_expr.ensures (path_has c.args.state.now.stored c.args.hygiene c.args.path c.requires)
