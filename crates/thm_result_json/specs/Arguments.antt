-- Arguments as a list. An associated type that is bound tells its own arguments by their place there, and they stand in front of
-- those that it stands in. So what is written of them doesn't nest, however deep they do.
use Rattle.std.specs.Prelude.{ℕ, Bool, List, [], ◌∷◌, ◌++◌, length, slice_get, Option, Some, None, option_and_then, option_map}
use Rattle.hir_store.specs.Generics.{of_args, of_binding}
use Rattle.hir_store.specs.declared.ids.TypeRefId.{TypeRefId}
use Rattle.hir_store.specs.declared.name.Name.{Name}
use Rattle.hir_store.specs.declared.path.AssociatedTypeBinding.{AssociatedTypeBinding}
use Rattle.hir_store.specs.declared.path.AssociatedTypeBinding.TheFolds.{fold-GenericArgs, fold-AssociatedTypeBinding}
use Rattle.hir_store.specs.declared.path.AssociatedTypeBinding.TheOpen.{AssociatedTypeBinding-F, GenericArgs-F}
use Rattle.hir_store.specs.declared.path.GenericArg.{GenericArg}
use Rattle.hir_store.specs.declared.path.GenericArgs.{GenericArgs}
use Rattle.hir_store.specs.declared.path.GenericArgsParentheses.{GenericArgsParentheses}
use Rattle.hir_store.specs.declared.type_ref.TypeBound.{TypeBound}

pub record FlatBinding : Type 0 where
  pub name : Name
  pub args : Option ℕ
  pub type_ref : Option TypeRefId
  pub bounds : List TypeBound

pub record FlatArgs : Type 0 where
  pub args : List GenericArg
  pub has_self_type : Bool
  pub bindings : List FlatBinding
  pub parenthesized : GenericArgsParentheses

-- what stands in front, and what comes of it behind that
abbrev pub Behind : Type 0 → Type 0
Behind A = List FlatArgs → List FlatArgs × A

abbrev pub all_bindings : List (Behind FlatBinding) → Behind (List FlatBinding)
all_bindings [] before = (before, [])
all_bindings (b ∷ bs) before = ((all_bindings bs (b before).0).0, (b before).1 ∷ (all_bindings bs (b before).0).1)

-- the list with the last of it
abbrev pub list_of_behind : {A : Type 0} → List A × A → List A
list_of_behind r = r.0 ++ r.1 ∷ []

abbrev pub own_args : Option (Behind FlatArgs) → Behind (Option ℕ)
own_args None before = (before, None)
own_args (Some a) before = (list_of_behind (a before), Some (length (a before).0))

abbrev pub binding_step : AssociatedTypeBinding-F (Behind FlatBinding) (Behind FlatArgs) → Behind FlatBinding
binding_step b before = (
  (own_args b.args before).0,
  record { name = b.name; args = (own_args b.args before).1; type_ref = b.type_ref; bounds = b.bounds },
)

abbrev pub args_step : GenericArgs-F (Behind FlatBinding) (Behind FlatArgs) → Behind FlatArgs
args_step a before = (
  (all_bindings a.bindings before).0,
  record {
    args = a.args;
    has_self_type = a.has_self_type;
    bindings = (all_bindings a.bindings before).1;
    parenthesized = a.parenthesized;
  },
)

unfoldable pub args_behind : GenericArgs → Behind FlatArgs
args_behind = fold-GenericArgs (Behind FlatBinding) (Behind FlatArgs) binding_step args_step

unfoldable pub binding_behind : AssociatedTypeBinding → Behind FlatBinding
binding_behind = fold-AssociatedTypeBinding (Behind FlatBinding) (Behind FlatArgs) binding_step args_step

-- the arguments as a list, whose last they are
abbrev pub flat_list : GenericArgs → List FlatArgs
flat_list a = list_of_behind (args_behind a [])

-- and back: each by those that were made of what stands in front

abbrev pub picked : List GenericArgs → Option ℕ → Option (Option GenericArgs)
picked made None = Some None
picked made (Some n) = option_map (λ a. Some a) (slice_get made n)

abbrev pub binding_from : List GenericArgs → FlatBinding → Option AssociatedTypeBinding
binding_from made b = option_map (λ args. of_binding b.name args b.type_ref b.bounds) (picked made b.args)

abbrev pub bindings_from : List GenericArgs → List FlatBinding → Option (List AssociatedTypeBinding)
bindings_from made [] = Some []
bindings_from made (b ∷ bs) =
    option_and_then (λ x. option_map (λ xs. x ∷ xs) (bindings_from made bs)) (binding_from made b)

abbrev pub args_from : List GenericArgs → FlatArgs → Option GenericArgs
args_from made a = option_map (λ bs. of_args a.args a.has_self_type bs a.parenthesized) (bindings_from made a.bindings)

abbrev pub all_from : List GenericArgs → List FlatArgs → Option (List GenericArgs)
all_from made [] = Some made
all_from made (a ∷ rest) = option_and_then (λ x. all_from (made ++ x ∷ []) rest) (args_from made a)

abbrev pub last_of : {A : Type 0} → List A → Option A
last_of [] = None
last_of (x ∷ []) = Some x
last_of (x ∷ y ∷ rest) = last_of (y ∷ rest)

abbrev pub args_of_flat : List FlatArgs → Option GenericArgs
args_of_flat all = option_and_then last_of (all_from [] all)
