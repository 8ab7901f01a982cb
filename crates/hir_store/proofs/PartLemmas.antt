-- Arguments and bindings, each in one level of the other.
use Rattle.std.proofs.Common.{◌≡◌, ◌∙◌, refl, sym, ap, true, List, [], ◌∷◌, Option, Some, None}
use Rattle.hir_store.specs.declared.name.Name.TheVariants.{Missing}
use Rattle.hir_store.specs.declared.path.GenericArgs.{GenericArgs}
use Rattle.hir_store.specs.declared.path.GenericArgsParentheses.TheVariants.{No}
use Rattle.hir_store.specs.declared.path.AssociatedTypeBinding.{AssociatedTypeBinding}
use Rattle.hir_store.specs.declared.path.AssociatedTypeBinding.TheFolds as folds
use Rattle.hir_store.specs.declared.path.AssociatedTypeBinding.TheViews.{out-GenericArgs, out-AssociatedTypeBinding}
use Rattle.hir_store.specs.declared.path.AssociatedTypeBinding.TheViews.{roll-out-GenericArgs, roll-out-AssociatedTypeBinding}
use Rattle.hir_store.specs.Parts.{Parts, and_then, of_args, of_binding, of_arg, of_bound, of_each, of_present, of_type, inside_args}
use Rattle.hir_store.specs.Parts.{args_beside, binding_step, args_step}

abbrev mapped : {A B C D : Type 0} → (A → C) → (B → D) → List A → List C
mapped {A} {B} {C} {D} f g xs =
    (folds.map-GenericArgs A B C D f g (record { args = []; has_self_type = true; bindings = xs; parenthesized = No })).bindings

abbrev one_mapped : {A B C D : Type 0} → (A → C) → (B → D) → Option B → Option D
one_mapped {A} {B} {C} {D} f g x =
    (folds.map-AssociatedTypeBinding A B C D f g (record { name = Missing; args = x; type_ref = None; bounds = [] })).args

-- what is stored, and its parts
abbrev binding_beside : AssociatedTypeBinding → AssociatedTypeBinding × Parts
binding_beside b = (b, of_binding b)

abbrev inside_beside : GenericArgs → GenericArgs × Parts
inside_beside a = (a, inside_args a)

each_is : (xs : List AssociatedTypeBinding)
    → of_each (λ p. p.1) (mapped binding_beside inside_beside xs) ≡ of_each of_binding xs
each_is [] = refl
each_is (x ∷ xs) = ap (and_then (of_binding x)) (each_is xs)

present_is : (x : Option GenericArgs)
    → of_present args_beside (one_mapped binding_beside inside_beside x) ≡ of_present of_args x
present_is None = refl
present_is (Some x) = refl

pub inside_out : (a : GenericArgs) → let o = out-GenericArgs a in
    inside_args a ≡ and_then (of_each of_arg o.args) (of_each of_binding o.bindings)
unfolding inside_args of_binding
inside_out a =
    let o = out-GenericArgs a in
    sym (ap inside_args (roll-out-GenericArgs a))
    ∙ (folds.para-roll-GenericArgs Parts Parts binding_step args_step o
    ∙ ap (and_then (of_each of_arg o.args)) (each_is o.bindings))

pub binding_out : (b : AssociatedTypeBinding) → let o = out-AssociatedTypeBinding b in
    of_binding b ≡ and_then (of_present of_args o.args) (and_then (of_present of_type o.type_ref) (of_each of_bound o.bounds))
unfolding inside_args of_binding
binding_out b =
    let o = out-AssociatedTypeBinding b in
    sym (ap of_binding (roll-out-AssociatedTypeBinding b))
    ∙ (folds.para-roll-AssociatedTypeBinding Parts Parts binding_step args_step o
    ∙ ap (λ ps. and_then ps (and_then (of_present of_type o.type_ref) (of_each of_bound o.bounds))) (present_is o.args))
