-- What a visitor is once it was handed parts, one after another.
use Rattle.std.specs.Prelude.{Bool, if◌then◌else◌}
use Rattle.hir_store.specs.declared.ids.TypeRefId.{TypeRefId}
use Rattle.hir_store.specs.declared.ids.LifetimeRefId.{LifetimeRefId}
use Rattle.hir_store.specs.declared.path.GenericArgs.{GenericArgs}
use Rattle.hir_store.specs.Parts.{Parts, no_parts, type_and, lifetime_and, args_and}

-- It says of arguments by what it is then whether what they hold follows, and may be another from there on.
module _ {V : Type 0} (after_type : V → TypeRefId → V) (after_lifetime : V → LifetimeRefId → V) (after_args : V → GenericArgs → V)
    (enters : V → GenericArgs → Bool) where
  abbrev pub handed : Parts → V → V
  handed no_parts v = v
  handed (type_and t ps) v = handed ps (after_type v t)
  handed (lifetime_and l ps) v = handed ps (after_lifetime v l)
  handed (args_and a inside ps) v =
      handed ps (if enters v a then handed inside (after_args v a) else after_args v a)
