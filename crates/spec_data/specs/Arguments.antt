-- The written arguments and bindings that those of a stored list came from: the reverse mappings from them.
use Rattle.std.specs.Prelude.{◌≡◌, if◌then◌else◌, Bool, true, false, ◌&&◌, not, List, [], ◌∷◌, map, Some, is_some}
use Rattle.hir_syntax.specs.declared.types.GenericArg.{GenericArg as AstGenericArg, out-GenericArg}
use Rattle.hir_syntax.specs.declared.ast.ElseBranch.TheOpen.{GenericArg-F}
use Rattle.hir_syntax.specs.declared.types.AssocTypeArg.{AssocTypeArg as AstAssocTypeArg, out-AssocTypeArg}
use Rattle.hir_env.specs.ResolveCtx.{ResolveCtx}
use Rattle.hir_env.specs.Wrapped.{AstGenericArgList}
use Rattle.hir_env.specs.TypeLayers.{GenericArgLayer}
use Rattle.hir_env.specs.Whole.{written, resolved_arg, resolved_assoc_arg, resolved_arg_list}
use Rattle.spec_data.specs.Data.{ArgumentData, ArgumentsData, no_arguments, more_arguments, BindingData, BindingsData, no_bindings}
use Rattle.spec_data.specs.Data.{more_bindings}
use Rattle.spec_data.specs.Written.{arguments_of, argument_of, bindings_of, binding_of}

-- each but a binding and a lifetime that is absent
abbrev pub argument_corresponds : GenericArgLayer written → Bool
argument_corresponds (GenericArg-F.TypeArg x) = true
argument_corresponds (GenericArg-F.AssocTypeArg x) = false
argument_corresponds (GenericArg-F.LifetimeArg x) = is_some x.lifetime
argument_corresponds (GenericArg-F.ConstArg x) = true

abbrev pub arguments_among : List AstGenericArg → List AstGenericArg
arguments_among [] = []
arguments_among (a ∷ as') = if argument_corresponds (out-GenericArg a) then a ∷ arguments_among as' else arguments_among as'

abbrev pub kept_args : AstGenericArgList → List AstGenericArg
kept_args l = arguments_among l

-- one that has a name and no parameter list
abbrev pub binding_corresponds : AstAssocTypeArg → Bool
binding_corresponds b = let level = out-AssocTypeArg b in not level.params && is_some level.name

abbrev pub put_written : GenericArgLayer written → List AstAssocTypeArg → List AstAssocTypeArg
put_written (GenericArg-F.AssocTypeArg b) bs = if binding_corresponds b then b ∷ bs else bs
put_written a bs = bs

abbrev pub bindings_among : List AstGenericArg → List AstAssocTypeArg
bindings_among [] = []
bindings_among (a ∷ as') = put_written (out-GenericArg a) (bindings_among as')

abbrev pub kept_bindings : AstGenericArgList → List AstAssocTypeArg
kept_bindings l = bindings_among l

abbrev pub arguments_in : ArgumentsData → List ArgumentData
arguments_in no_arguments = []
arguments_in (more_arguments a as') = a ∷ arguments_in as'

abbrev pub bindings_in : BindingsData → List BindingData
bindings_in no_bindings = []
bindings_in (more_bindings b bs) = b ∷ bindings_in bs

-- The arguments of a list are those of its kept ones, in their order, and its bindings are those of its kept ones.
abbrev pub ArgumentTheorem : Type 0
ArgumentTheorem = (at : ResolveCtx) (l : AstGenericArgList)
    → (map Some (arguments_in (arguments_of (resolved_arg_list at l))) ≡ map (λ a. argument_of (resolved_arg at a)) (kept_args l))
    × (map Some (bindings_in (bindings_of (resolved_arg_list at l))) ≡ map (λ b. binding_of (resolved_assoc_arg at b)) (kept_bindings l))
