-- An answer is lowered as its type is, where that is read.
use Rattle.std.proofs.Common.{◌≡◌, subst, sym, Option, Some, None}
use Rattle.hir_store.specs.Range.{HasType}
use Rattle.hir_store.specs.declared.ids.TypeRefId.{TypeRefId}
use Rattle.hir_env.specs.declared.ctx.LowerCtx.{LowerCtx}
use Rattle.hir_env.specs.ResolveCtx.{ResolveCtx}
use Rattle.hir_env.specs.Whole.{ret_part, type_part}
use Rattle.hir_env.specs.Wrapped.{AstRetType}
use Rattle.hir_lower_builder.specs.Builder.{Builder}
use Rattle.hir_lower_builder.specs.Lower.{output_part}
use Rattle.hir_lower_builder.specs.Lowering.{Checked, Lowers}
use Rattle.hir_lower_builder.specs.Methods.{LowersTypeOpt, at_place}

pub output_of : (at : ResolveCtx) (p : LowerCtx) (ret : Option AstRetType) (ty : AstRetType) (old : Builder) (r : Checked TypeRefId)
    (new : Builder)
    → ret ≡ Some ty → p ≡ at.place → LowersTypeOpt None (type_part (at_place at p) ty) old r new
    → Lowers HasType (output_part (ret_part at ret)) old r new
output_of at p ret ty old r new e f h = subst (λ x. Lowers HasType (output_part (ret_part at x)) old r new) (sym e)
    (subst (λ q. LowersTypeOpt None (type_part (at_place at q) ty) old r new) f h)
