-- Stored arguments, read through one level of them.
use Rattle.std.proofs.Common.{◌≡◌, ◌∙◌, refl, sym, ap, Bool, true, List, [], ◌∷◌, Option, Some, None}
use Rattle.hir_store.specs.Stored.{Store, SourceMap}
use Rattle.hir_store.specs.Generics.{of_args, of_binding, self_first}
use Rattle.hir_store.specs.declared.ids.TypeRefId.{TypeRefId}
use Rattle.hir_store.specs.declared.name.Name.{Name}
use Rattle.hir_store.specs.declared.name.Name.TheVariants.{Missing}
use Rattle.hir_store.specs.declared.type_ref.TypeBound.{TypeBound}
use Rattle.hir_store.specs.declared.path.GenericArg.{GenericArg}
use Rattle.hir_store.specs.declared.path.GenericArg.TheVariants as arg
use Rattle.hir_store.specs.declared.path.GenericArgsParentheses.{GenericArgsParentheses}
use Rattle.hir_store.specs.declared.path.GenericArgsParentheses.TheVariants.{No}
use Rattle.hir_store.specs.declared.path.GenericArgs.{GenericArgs}
use Rattle.hir_store.specs.declared.path.AssociatedTypeBinding.{AssociatedTypeBinding}
use Rattle.hir_store.specs.declared.path.AssociatedTypeBinding.TheFolds as folds
use Rattle.hir_store.specs.declared.path.AssociatedTypeBinding.TheViews.{out-GenericArgs}
use Rattle.spec_data.specs.Data as datum
use Rattle.spec_data.specs.Data.{ArgsData, args_data, BindingData, binding_data, BindingsData}
use Rattle.spec_data.specs.Reading as reading
use Rattle.spec_data.specs.Reading.{Readers, args_layer, binding_layer}
use Rattle.spec_data.specs.Rule as rule

-- how a fold passes bindings and arguments on
abbrev mapped : {A B C D : Type 0} → (A → C) → (B → D) → List A → List C
mapped {A} {B} {C} {D} f g xs =
    (folds.map-GenericArgs A B C D f g (record { args = []; has_self_type = true; bindings = xs; parenthesized = No })).bindings

abbrev one_mapped : {A B C D : Type 0} → (A → C) → (B → D) → Option B → Option D
one_mapped {A} {B} {C} {D} f g x =
    (folds.map-AssociatedTypeBinding A B C D f g (record { name = Missing; args = x; type_ref = None; bounds = [] })).args

module _ (store : Store) (source_map : SourceMap) (r : Readers) where
  abbrev arguments : List GenericArg → datum.ArgumentsData
  arguments as' = reading.arguments_layer store source_map r as' datum.no_arguments

  abbrev bindings : List AssociatedTypeBinding → BindingsData
  bindings bs = reading.bindings_layer store source_map r bs datum.no_bindings

  listed_is : (xs : List AssociatedTypeBinding)
      → reading.bindings_listed store source_map r (mapped (binding_layer store source_map r) (args_layer store source_map r) xs)
      ≡ bindings xs
  listed_is [] = refl
  listed_is (x ∷ xs) = ap (datum.more_bindings (binding_layer store source_map r x)) (listed_is xs)

  present_is : (x : Option GenericArgs)
      → reading.listed store source_map r (one_mapped (binding_layer store source_map r) (args_layer store source_map r) x)
      ≡ reading.list_layer store source_map r x
  present_is None = refl
  present_is (Some x) = refl

  pub args_roll : (as' : List GenericArg) (self : Bool) (bs : List AssociatedTypeBinding) (ps : GenericArgsParentheses)
      → args_layer store source_map r (of_args as' self bs ps) ≡ args_data (arguments as') self (bindings bs) ps
  unfolding args_layer binding_layer
  args_roll as' self bs ps =
      folds.fold-roll-GenericArgs BindingData ArgsData (reading.binding_step store source_map r) (reading.args_step store source_map r)
      (record { args = as'; has_self_type = self; bindings = bs; parenthesized = ps })
      ∙ ap (λ x. args_data (arguments as') self x ps) (listed_is bs)

  pub binding_roll : (n : Name) (a : Option GenericArgs) (t : Option TypeRefId) (bs : List TypeBound)
      → binding_layer store source_map r (of_binding n a t bs)
      ≡ binding_data n (reading.list_layer store source_map r a) (reading.present_layer store source_map r t)
      (reading.bounds_layer store source_map r bs)
  unfolding args_layer binding_layer
  binding_roll n a t bs =
      folds.fold-roll-AssociatedTypeBinding BindingData ArgsData (reading.binding_step store source_map r)
      (reading.args_step store source_map r) (record { name = n; args = a; type_ref = t; bounds = bs })
      ∙ ap (λ x. binding_data n x (reading.present_layer store source_map r t) (reading.bounds_layer store source_map r bs)) (present_is a)

  pub args_out : (a : GenericArgs) → let o = out-GenericArgs a in
      args_layer store source_map r a ≡ args_data (arguments o.args) o.has_self_type (bindings o.bindings) o.parenthesized
  unfolding args_layer binding_layer
  args_out a =
      let o = out-GenericArgs a in
      folds.fold_out-GenericArgs BindingData ArgsData (reading.binding_step store source_map r) (reading.args_step store source_map r) a
      ∙ ap (λ x. args_data (arguments o.args) o.has_self_type x o.parenthesized) (listed_is o.bindings)

  -- a type for `Self` in front
  pub self_first_read : (t : TypeRefId) (a : Option GenericArgs)
      → reading.list_layer store source_map r (Some (self_first t a)) ≡ rule.self_first (r.type t) (reading.list_layer store source_map r a)
  self_first_read t None = ap datum.some_args (args_roll (arg.Type_ t ∷ []) true [] No)
  self_first_read t (Some a) =
      let o = out-GenericArgs a in
      ap datum.some_args (args_roll (arg.Type_ t ∷ o.args) true o.bindings o.parenthesized
      ∙ ap (rule.behind_self (r.type t)) (sym (args_out a)))

  -- whether one stands in front
  pub self_flag : (a : GenericArgs) → rule.has_self (args_layer store source_map r a) ≡ (out-GenericArgs a).has_self_type
  self_flag a = ap rule.has_self (args_out a)
