-- What stored arguments and bindings hold, each through one level of the other.
use Rattle.std.proofs.Common.{◌≡◌, ◌∙◌, refl, sym, ap, Bool, true, List, [], ◌∷◌, ◌++◌, append-nil, append_assoc, Option, Some, None}
use Rattle.hir_store.specs.Generics.{of_args as args_of_parts, of_binding as binding_of_parts, self_first}
use Rattle.hir_store.specs.declared.ids.TypeRefId.{TypeRefId}
use Rattle.hir_store.specs.declared.name.Name.{Name}
use Rattle.hir_store.specs.declared.name.Name.TheVariants.{Missing}
use Rattle.hir_store.specs.declared.type_ref.TypeBound.{TypeBound}
use Rattle.hir_store.specs.declared.path.GenericArg.{GenericArg}
use Rattle.hir_store.specs.declared.path.GenericArg.TheVariants as arg
use Rattle.hir_store.specs.declared.path.GenericArgs.{GenericArgs}
use Rattle.hir_store.specs.declared.path.GenericArgsParentheses.{GenericArgsParentheses}
use Rattle.hir_store.specs.declared.path.GenericArgsParentheses.TheVariants.{No}
use Rattle.hir_store.specs.declared.path.AssociatedTypeBinding.{AssociatedTypeBinding}
use Rattle.hir_store.specs.declared.path.AssociatedTypeBinding.TheFolds as folds
use Rattle.hir_store.specs.declared.path.AssociatedTypeBinding.TheViews.{out-GenericArgs}
use Rattle.spec_semantics.specs.Inner.{Inners, Inside, all_of, of_present, of_arg, of_bound, binding_step, args_step, of_args, of_list}

pub all_append : {A : Type 0} (f : A → List Inside) (xs ys : List A) → all_of f (xs ++ ys) ≡ all_of f xs ++ all_of f ys
all_append f [] ys = refl
all_append f (x ∷ xs) ys = ap (λ is. f x ++ is) (all_append f xs ys) ∙ sym (append_assoc (f x) (all_of f xs) (all_of f ys))

-- how a fold passes bindings and arguments on
abbrev mapped : {A B C D : Type 0} → (A → C) → (B → D) → List A → List C
mapped {A} {B} {C} {D} f g xs =
    (folds.map-GenericArgs A B C D f g (record { args = []; has_self_type = true; bindings = xs; parenthesized = No })).bindings

abbrev one_mapped : {A B C D : Type 0} → (A → C) → (B → D) → Option B → Option D
one_mapped {A} {B} {C} {D} f g x =
    (folds.map-AssociatedTypeBinding A B C D f g (record { name = Missing; args = x; type_ref = None; bounds = [] })).args

module _ (r : Inners) where
  -- what a binding holds
  unfoldable pub of_binding : AssociatedTypeBinding → List Inside
  of_binding = folds.fold-AssociatedTypeBinding (List Inside) (List Inside) (binding_step r) (args_step r)

  joined_is : (xs : List AssociatedTypeBinding) → all_of (λ is. is) (mapped (of_binding) (of_args r) xs) ≡ all_of of_binding xs
  joined_is [] = refl
  joined_is (x ∷ xs) = ap (λ is. of_binding x ++ is) (joined_is xs)

  present_is : (x : Option GenericArgs) → of_present (λ is. is) (one_mapped of_binding (of_args r) x) ≡ of_list r x
  present_is None = refl
  present_is (Some x) = refl

  pub args_roll : (as' : List GenericArg) (self : Bool) (bs : List AssociatedTypeBinding) (ps : GenericArgsParentheses)
      → of_args r (args_of_parts as' self bs ps) ≡ all_of (of_arg r) as' ++ all_of of_binding bs
  unfolding of_args of_binding
  args_roll as' self bs ps =
      folds.fold-roll-GenericArgs (List Inside) (List Inside) (binding_step r) (args_step r)
      (record { args = as'; has_self_type = self; bindings = bs; parenthesized = ps })
      ∙ ap (λ is. all_of (of_arg r) as' ++ is) (joined_is bs)

  pub binding_roll : (n : Name) (a : Option GenericArgs) (t : Option TypeRefId) (bs : List TypeBound)
      → of_binding (binding_of_parts n a t bs) ≡ of_list r a ++ (of_present r.type t ++ all_of (of_bound r) bs)
  unfolding of_args of_binding
  binding_roll n a t bs =
      folds.fold-roll-AssociatedTypeBinding (List Inside) (List Inside) (binding_step r) (args_step r)
      (record { name = n; args = a; type_ref = t; bounds = bs })
      ∙ ap (λ is. is ++ (of_present r.type t ++ all_of (of_bound r) bs)) (present_is a)

  args_out : (a : GenericArgs) → let o = out-GenericArgs a in of_args r a ≡ all_of (of_arg r) o.args ++ all_of of_binding o.bindings
  unfolding of_args of_binding
  args_out a =
      let o = out-GenericArgs a in
      folds.fold_out-GenericArgs (List Inside) (List Inside) (binding_step r) (args_step r) a
      ∙ ap (λ is. all_of (of_arg r) o.args ++ is) (joined_is o.bindings)

  -- a type for `Self` in front
  pub self_first_is : (t : TypeRefId) (a : Option GenericArgs) → of_args r (self_first t a) ≡ r.type t ++ of_list r a
  self_first_is t None = args_roll (arg.Type_ t ∷ []) true [] No ∙ append-nil (r.type t ++ [])
  self_first_is t (Some a) =
      let o = out-GenericArgs a in
      args_roll (arg.Type_ t ∷ o.args) true o.bindings o.parenthesized
      ∙ append_assoc (r.type t) (all_of (of_arg r) o.args) (all_of of_binding o.bindings)
      ∙ ap (λ is. r.type t ++ is) (sym (args_out a))
