-- The path of a bound, wherever it is.
use Rattle.std.proofs.Common.{◌≡◌, refl, Option, Some, None}
use Rattle.hir_syntax.specs.declared.ast.Path.{Path as AstPath}
use Rattle.hir_syntax.specs.declared.types.BoundKind.{BoundKind}
use Rattle.hir_syntax.specs.declared.types.BoundKind.TheVariants as kind
use Rattle.hir_syntax.specs.declared.types.PathType.{PathType as AstPathType, out-PathType}
use Rattle.hir_env.specs.declared.ctx.LowerCtx.{LowerCtx}
use Rattle.hir_env.specs.TypeLayers.{TypeBoundLayer}
use Rattle.hir_env.specs.Whole.{written}
use Rattle.hir_lower_builder.specs.Nests.{Claims, KidsBound}
use Rattle.hir_lower_recursion.proofs.Kids.{so_of_present}

-- what is so of all paths at a place is so of that of a bound
pub bound_kids : (C : Claims) (p : LowerCtx) → ((x : AstPath) → C.path p x) → (b : TypeBoundLayer written) → KidsBound C p b
bound_kids C p paths b = by b.b refl b.ty refl
  where
    by : (k : Option BoundKind) → b.b ≡ k → (t : Option AstPathType) → b.ty ≡ t → KidsBound C p b
    by None e t f = rw e tt
    by (Some kind.Path) e None f = rw (e, f) tt
    by (Some kind.Path) e (Some t) f = rw (e, f) (so_of_present (C.path p) paths (out-PathType t).path)
    by (Some kind.Lifetime) e t f = rw e tt
    by (Some kind.Use) e t f = rw e tt
