-- Arguments of segments. They hold bindings that hold arguments, so antt sees them through one level.
use Rattle.std.specs.Prelude.{Bool, true, List, [], ◌∷◌, Option, Some, None}
use Rattle.hir_store.specs.declared.ids.TypeRefId.{TypeRefId}
use Rattle.hir_store.specs.declared.name.Name.{Name}
use Rattle.hir_store.specs.declared.type_ref.TypeBound.{TypeBound}
use Rattle.hir_store.specs.declared.path.GenericArg.{GenericArg}
use Rattle.hir_store.specs.declared.path.GenericArg.TheVariants as arg
use Rattle.hir_store.specs.declared.path.GenericArgsParentheses.{GenericArgsParentheses}
use Rattle.hir_store.specs.declared.path.GenericArgsParentheses.TheVariants.{No}
use Rattle.hir_store.specs.declared.path.GenericArgs.{GenericArgs}
use Rattle.hir_store.specs.declared.path.AssociatedTypeBinding.{AssociatedTypeBinding}
use Rattle.hir_store.specs.declared.path.AssociatedTypeBinding.TheOpen.{GenericArgs-F}
use Rattle.hir_store.specs.declared.path.AssociatedTypeBinding.TheViews.{out-GenericArgs}
use Rattle.hir_store.specs.declared.path.AssociatedTypeBinding.TheViews.{roll-AssociatedTypeBinding, roll-GenericArgs}

abbrev pub of_args : List GenericArg → Bool → List AssociatedTypeBinding → GenericArgsParentheses → GenericArgs
of_args args has_self_type bindings parenthesized =
    roll-GenericArgs (record { args = args; has_self_type = has_self_type; bindings = bindings; parenthesized = parenthesized })

abbrev pub of_binding : Name → Option GenericArgs → Option TypeRefId → List TypeBound → AssociatedTypeBinding
of_binding name args type_ref bounds =
    roll-AssociatedTypeBinding (record { name = name; args = args; type_ref = type_ref; bounds = bounds })

-- arguments, and this type in front of them for `Self`
abbrev pub self_before : TypeRefId → GenericArgs-F AssociatedTypeBinding GenericArgs → GenericArgs
self_before ty a = of_args (arg.Type_ ty ∷ a.args) true a.bindings a.parenthesized

abbrev pub self_first : TypeRefId → Option GenericArgs → GenericArgs
self_first ty None = of_args (arg.Type_ ty ∷ []) true [] No
self_first ty (Some a) = self_before ty (out-GenericArgs a)
