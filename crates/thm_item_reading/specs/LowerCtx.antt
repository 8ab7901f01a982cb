-- Where the parts of an item are read, said without the reading, and which shapes of written items the rules tell apart.
use Rattle.std.specs.Prelude.{Bool, true, false}
use Rattle.hir_syntax.specs.declared.ast.ElseBranch.TheOpen.{TypeKind-F}
use Rattle.hir_syntax.specs.declared.items.GenericParam.{GenericParam as AstGenericParam}
use Rattle.hir_syntax.specs.declared.items.GenericParam.TheVariants as param
use Rattle.hir_store.specs.Pointers.{Pointer}
use Rattle.hir_env.specs.TypeLayers.{TypeKindLayer}
use Rattle.hir_env.specs.Whole.{written}
use Rattle.hir_env.specs.declared.ctx.ImplTrait.{ImplTrait}
use Rattle.hir_env.specs.declared.ctx.LifetimeScope.{LifetimeScope}
use Rattle.hir_env.specs.declared.ctx.LowerCtx.{LowerCtx}
use Rattle.thm_reading.specs.LowerCtx.{node}

-- where an `impl` becomes this and a lifetime counts there; all else is as around the item
abbrev pub where_impls : ImplTrait → LifetimeScope → LowerCtx → LowerCtx
where_impls become counts p = record p { impl_trait = become; lifetimes = counts }

abbrev pub generic_node : LowerCtx → AstGenericParam → Pointer
generic_node p (param.TypeParam id range n bs d) = node p id range
generic_node p (param.ConstParam id range n t d) = node p id range
generic_node p (param.LifetimeParam id range l bs) = node p id range

abbrev pub is_path : TypeKindLayer written → Bool
is_path (TypeKind-F.PathType x) = true
is_path _ = false
