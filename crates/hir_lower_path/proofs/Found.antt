-- Where `(A) -> C` isn't read, nothing is found.
use Rattle.std.proofs.Common.{ap, Bool, Option, None, Err}
use Rattle.hir_store.specs.Range.{HasArgsOption}
use Rattle.hir_store.specs.declared.error.StoreError.{StoreError}
use Rattle.hir_store.specs.declared.path.GenericArgs.{GenericArgs}
use Rattle.hir_lower_builder.specs.Builder.{Builder}
use Rattle.hir_lower_builder.specs.Lowering.{Lowering, Lowers, go_on, pure}
use Rattle.hir_lower_builder.specs.Paths.{or_notation}
use Rattle.hir_lower_path.specs.Found.{found_or}

pub parens_fail : (p : Lowering (Option GenericArgs)) (dots : Bool) (old new : Builder) (e : StoreError)
    → Lowers HasArgsOption p old (Err e) new → Lowers HasArgsOption (found_or None p dots) old (Err e) new
parens_fail p dots old new e h = λ n. (ap (λ o. go_on o.0 o.1 (λ q. pure (or_notation q dots))) (h n).0, (h n).1)
