-- What stands behind a name, once it is known whether `<..>` yields any.
use Rattle.std.specs.Prelude.{Bool, Option}
use Rattle.hir_store.specs.declared.path.GenericArgs.{GenericArgs}
use Rattle.hir_lower_builder.specs.Lowering.{Lowering, ◌>>=◌, pure}
use Rattle.hir_lower_builder.specs.Paths.{or_else, or_notation}

abbrev pub found_or : Option GenericArgs → Lowering (Option GenericArgs) → Bool → Lowering (Option GenericArgs)
found_or found parens dots = do
  p ← or_else found parens
  pure (or_notation p dots)
