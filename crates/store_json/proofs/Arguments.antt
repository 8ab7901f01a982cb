-- Arguments and associated types, in one level of what they name.
use Rattle.std.proofs.Common.{◌≡◌, ◌∙◌, refl, sym, ap, map, true, List, [], ◌∷◌, Option, Some, None, option_map}
use Rattle.hir_store.specs.declared.name.Name.TheVariants.{Missing}
use Rattle.hir_store.specs.declared.path.AssociatedTypeBinding.{AssociatedTypeBinding}
use Rattle.hir_store.specs.declared.path.AssociatedTypeBinding.TheFolds as folds
use Rattle.hir_store.specs.declared.path.AssociatedTypeBinding.TheViews.{out-AssociatedTypeBinding, out-GenericArgs}
use Rattle.hir_store.specs.declared.path.AssociatedTypeBinding.TheViews.{roll-out-AssociatedTypeBinding, roll-out-GenericArgs}
use Rattle.hir_store.specs.declared.path.GenericArgs.{GenericArgs}
use Rattle.hir_store.specs.declared.path.GenericArgsParentheses.TheVariants.{No}
use Rattle.thm_result_json.specs.Arguments.{Behind, FlatArgs, FlatBinding, all_bindings, args_behind, args_step, binding_behind}
use Rattle.thm_result_json.specs.Arguments.{binding_step, own_args}

abbrev mapped : {A B C D : Type 0} → (A → C) → (B → D) → List A → List C
mapped {A} {B} {C} {D} f g xs =
    (folds.map-GenericArgs A B C D f g (record { args = []; has_self_type = true; bindings = xs; parenthesized = No })).bindings

abbrev one_mapped : {A B C D : Type 0} → (A → C) → (B → D) → Option B → Option D
one_mapped {A} {B} {C} {D} f g x =
    (folds.map-AssociatedTypeBinding A B C D f g (record { name = Missing; args = x; type_ref = None; bounds = [] })).args

mapped_is : (xs : List AssociatedTypeBinding) → mapped binding_behind args_behind xs ≡ map binding_behind xs
mapped_is [] = refl
mapped_is (x ∷ xs) = ap (λ ys. binding_behind x ∷ ys) (mapped_is xs)

one_mapped_is : (x : Option GenericArgs) → one_mapped binding_behind args_behind x ≡ option_map args_behind x
one_mapped_is None = refl
one_mapped_is (Some x) = refl

-- one level of arguments
abbrev pub args_level : GenericArgs → Behind FlatArgs
args_level a front =
    let o = out-GenericArgs a in
    let inside = all_bindings (map binding_behind o.bindings) front in
    (inside.0, record { args = o.args; has_self_type = o.has_self_type; bindings = inside.1; parenthesized = o.parenthesized })

abbrev pub binding_level : AssociatedTypeBinding → Behind FlatBinding
binding_level b front =
    let o = out-AssociatedTypeBinding b in
    let own = own_args (option_map args_behind o.args) front in
    (own.0, record { name = o.name; args = own.1; type_ref = o.type_ref; bounds = o.bounds })

pub args_out : (a : GenericArgs) (front : List FlatArgs) → args_behind a front ≡ args_level a front
unfolding args_behind binding_behind
args_out a front =
    let o = out-GenericArgs a in
    ap (λ f. f front) (sym (ap args_behind (roll-out-GenericArgs a))
    ∙ folds.fold-roll-GenericArgs (Behind FlatBinding) (Behind FlatArgs) binding_step args_step o)
    ∙ ap (λ bs. (
      (all_bindings bs front).0,
      record {
        args = o.args;
        has_self_type = o.has_self_type;
        bindings = (all_bindings bs front).1;
        parenthesized = o.parenthesized;
      },
    )) (mapped_is o.bindings)

pub binding_out : (b : AssociatedTypeBinding) (front : List FlatArgs) → binding_behind b front ≡ binding_level b front
unfolding args_behind binding_behind
binding_out b front =
    let o = out-AssociatedTypeBinding b in
    ap (λ f. f front) (sym (ap binding_behind (roll-out-AssociatedTypeBinding b))
    ∙ folds.fold-roll-AssociatedTypeBinding (Behind FlatBinding) (Behind FlatArgs) binding_step args_step o)
    ∙ ap (λ own. (
      (own_args own front).0,
      record {
        name = o.name;
        args = (own_args own front).1;
        type_ref = o.type_ref;
        bounds = o.bounds;
      },
    )) (one_mapped_is o.args)
