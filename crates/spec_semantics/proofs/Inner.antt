-- The lists of bodies, computed.
use Rattle.std.proofs.Common.{◌≡◌, ◌∷◌, ◌++◌, [], false, refl, ap}
use Rattle.hir_store.specs.Generics.{of_args as args_of}
use Rattle.hir_store.specs.declared.ids.ExprId.{ExprId}
use Rattle.hir_store.specs.declared.path.GenericArg.TheVariants as arg
use Rattle.hir_store.specs.declared.path.GenericArgsParentheses.TheVariants.{No}
use Rattle.hir_store.specs.declared.path.AssociatedTypeBinding.TheFolds.{fold-roll-GenericArgs}
use Rattle.std.specs.Prelude.{List}
use Rattle.spec_semantics.specs.Inner.{Inners, Inside, by_itself, of_args, binding_step, args_step, inners, inner_bodies}
use Rattle.spec_semantics.specs.InnerRows.{TypesInOrder, PathsInOrder, ExprsInOrder, PatternsInOrder, StoredInOrder}
use Rattle.spec_semantics.specs.InnerRows.{constant_of_method}
use Rattle.spec_semantics.specs.Small.{id}
use Rattle.spec_semantics.specs.Typed.{store_with}

pub types_in_order : TypesInOrder
types_in_order at a b head = (refl, refl, refl)

pub paths_in_order : PathsInOrder
paths_in_order at a b c d = (refl, refl, refl, refl, refl, refl)

pub exprs_in_order : ExprsInOrder
exprs_in_order at a b e f n items k block = (refl, refl, refl, refl, refl, refl, refl, refl)

pub patterns_in_order : PatternsInOrder
patterns_in_order at a b c d l i = (refl, refl, refl, refl, refl, refl)

-- in the list of one constant, by one step
one_constant : (r : Inners) (i : ExprId)
    → of_args r (args_of (arg.Const (record { expr = i }) ∷ []) false [] No) ≡ ((by_itself i ∷ r.expr i) ++ []) ++ []
unfolding of_args
one_constant r i = fold-roll-GenericArgs (List Inside) (List Inside) (binding_step r) (args_step r)
    (record { args = arg.Const (record { expr = i }) ∷ []; has_self_type = false; bindings = []; parenthesized = No })

pub stored_in_order : StoredInOrder
unfolding inner_bodies inners
stored_in_order = (
  record { written = refl; stored = refl },
  record {
    written = refl;
    stored = ap (λ is. is ++ (by_itself (id 2) ∷ [])) (one_constant (inners (store_with constant_of_method) 7) (id 4));
  },
)
