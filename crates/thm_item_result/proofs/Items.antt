-- Lowering an item reads its parts in this order, whatever is claimed of that.
use Rattle.std.proofs.Common.{◌∙◌, refl, sym, subst, List, [], ◌∷◌, ◌++◌, Option, Some, None}
use Rattle.hir_store.specs.Pointers.{Pointer}
use Rattle.hir_store.specs.declared.diagnostics.MissingBodyItemKind.{MissingBodyItemKind}
use Rattle.hir_store.specs.declared.generics.TypeParamProvenance.{TypeParamProvenance}
use Rattle.hir_store.specs.declared.generics.TypeParamProvenance.TheVariants as provenance
use Rattle.hir_store.specs.declared.hir.CoroutineKind.{CoroutineKind}
use Rattle.hir_store.specs.declared.ids.GenericDefId.{GenericDefId}
use Rattle.hir_store.specs.declared.ids.TypeRefId.{TypeRefId}
use Rattle.hir_store.specs.declared.name.Name.{Name}
use Rattle.hir_store.specs.declared.type_ref.LifetimeRef.TheVariants as lifetime
use Rattle.hir_store.specs.declared.type_ref.TypeBound.{TypeBound}
use Rattle.hir_store.specs.declared.type_ref.TypeBound.TheVariants as bound
use Rattle.hir_store.specs.declared.type_ref.TypeRef.TheVariants as type
use Rattle.hir_env.specs.ResolvedTree as tree
use Rattle.hir_env.specs.ResolvedTree.{Binder, Bounds, Constant, Lifetime, OptionRet, OptionType}
use Rattle.hir_env.specs.TypeLayers.{PathTypeReading}
use Rattle.spec_data.specs.Data.{error_shape, parameter_shape}
use Rattle.spec_data.specs.Written.{written_type}
use Rattle.hir_lower_builder.specs.Lowering.{◌>>=◌, param_type, pure}
use Rattle.hir_lower_builder.specs.Lower.{lower_bounds, present_type, push_some, type_part}
use Rattle.hir_lower_builder.specs.Types.{error_type}
use Rattle.hir_lower_item.specs.declared.predicates.Bounded.{Bounded}
use Rattle.hir_lower_item.specs.declared.predicates.Bounded.TheVariants as bounded_by
use Rattle.hir_lower_item.specs.Items as item
use Rattle.hir_lower_item.specs.Items.{Alias, Argument, Function, Generics, Impl, Param, Predicate, Receiver, Trait}
use Rattle.hir_lower_item.specs.Lower as steps
use Rattle.thm_item_result.specs.Parts.{alias_parts, all_inactive_parts, argument_parts, arguments_parts, bounds_parts, coroutine_parts}
use Rattle.thm_item_result.specs.Parts.{default_parts}
use Rattle.thm_item_result.specs.Parts.{function_parts, generics_parts, impl_parts, inactive_parts, input_parts}
use Rattle.thm_item_result.specs.Parts.{missing_parts, output_parts, param_parts, params_parts, placeholder_parts, predicate_parts}
use Rattle.thm_item_result.specs.Parts.{predicates_parts, present_parts, receiver_parts, trait_parts, trait_path_parts, type_parts}
use Rattle.thm_item_result.specs.Parts.{typed_parts}
use Rattle.thm_item_result.specs.Items.{OfItems}
use Rattle.thm_item_result.proofs.Reading.{Reading, bind_assoc}
use Rattle.thm_item_result.proofs.Walk.{Walk, coroutine_of, ends, maps, walking}

module _ (W : Walk) where
  -- what may be absent

  part_type : (t : OptionType) → W.Reads (type_parts t) (type_part None t)
  unfolding error_type
  part_type tree.no_type = W.made_is type.Error error_shape tt (λ final r. refl)
  part_type (tree.some_type t) = W.type_is t

  present : (t : OptionType) → W.Reads (present_parts t) (present_type t)
  present tree.no_type = W.none None
  present (tree.some_type t) = maps W (λ i. Some i) (W.type_is t)

  default : (c : Option Constant) → W.Reads (default_parts c) (steps.present_constant c)
  default None = W.none None
  default (Some c) = maps W (λ i. Some i) (W.constant_is c)

  placeholder : (l : Option Lifetime) → W.Reads (placeholder_parts l) (steps.lifetime_or_placeholder l)
  placeholder None = W.made_lifetime_is lifetime.Placeholder
  placeholder (Some l) = W.lifetime_is l

  bounds_from : (done : List TypeBound) (bs : Bounds) → W.Reads (bounds_parts bs) (lower_bounds done bs)
  bounds_from done tree.no_bounds = W.none done
  bounds_from done (tree.more_bounds b bs) = W.next (W.bound_is b) (λ x. bounds_from (done ++ x ∷ []) bs)

  -- predicates

  asked : (binder : Option Binder) (x : Bounded) (y : TypeBound) → W.Reads [] (steps.ask binder x y)
  asked binder x bound.Error = W.none tt
  asked binder x (bound.Use us) = W.none tt
  asked binder (bounded_by.Type_ t) (bound.Path p m) = W.predicate _
  asked binder (bounded_by.Type_ t) (bound.ForLifetime ns p) = W.predicate _
  asked binder (bounded_by.Type_ t) (bound.Lifetime l) = W.predicate _
  asked binder (bounded_by.Lifetime text l) (bound.Path p m) = W.none tt
  asked binder (bounded_by.Lifetime text l) (bound.ForLifetime ns p) = W.none tt
  asked binder (bounded_by.Lifetime text l) (bound.Lifetime m) = W.next (W.named_in_bound text) (λ u. W.predicate _)

  each_asked : (binder : Option Binder) (x : Bounded) (bs : Bounds) → W.Reads (bounds_parts bs) (steps.ask_each binder x bs)
  each_asked binder x tree.no_bounds = W.none tt
  each_asked binder x (tree.more_bounds b bs) =
      W.next (W.bound_is b) (λ y. W.next (asked binder x y) (λ u. each_asked binder x bs))

  one_predicate : (x : Predicate) → W.Reads (predicate_parts x) (steps.lower_predicate x)
  one_predicate (item.of_type t binder bs) = W.next (W.type_is t) (λ id. each_asked binder (bounded_by.Type_ id) bs)
  one_predicate (item.of_lifetime l bs) = W.next (W.lifetime_is l) (λ id. each_asked None (bounded_by.Lifetime l.lifetime id) bs)
  one_predicate item.of_nothing = W.none tt

  all_predicates : (xs : List Predicate) → W.Reads (predicates_parts xs) (steps.lower_predicates xs)
  all_predicates [] = W.none tt
  all_predicates (x ∷ xs) = W.next (one_predicate x) (λ u. all_predicates xs)

  -- parameters

  typed : (def : GenericDefId) (n : Name) (d : Option TypeRefId) (from : TypeParamProvenance) (bs : Bounds)
      → W.Reads (typed_parts def bs) (steps.type_param_form def n d from bs)
  typed def n d from bs = W.next (W.param_is _)
      (λ k. W.next (W.made_is (param_type def k) (parameter_shape def) tt (λ final r. refl))
      (λ id. each_asked None (bounded_by.Type_ id) bs))

  one_param : (def : GenericDefId) (x : Param) → W.Reads (param_parts def x) (steps.lower_param def x)
  one_param def (item.disabled_param at by) = W.fault_is _
  one_param def (item.type_param n d bs) = W.next (present d) (λ t. typed def n t provenance.TypeParamList bs)
  one_param def (item.const_param n t d) =
      W.next (part_type t) (λ i. W.next (default d) (λ x. ends W (W.param_is _) (λ k. W.none tt)))
  one_param def (item.lifetime_param n l bs) = W.next (W.lifetime_is l)
      (λ id. W.next (W.lifetime_param_is _) (λ u. each_asked None (bounded_by.Lifetime l.lifetime id) bs))
  one_param def (item.nameless_param l) = ends W (placeholder l) (λ i. W.none tt)

  all_params : (def : GenericDefId) (xs : List Param) → W.Reads (params_parts def xs) (steps.lower_params def xs)
  all_params def [] = W.none tt
  all_params def (x ∷ xs) = W.next (one_param def x) (λ u. all_params def xs)

  generics_read : (def : GenericDefId) (g : Generics) → W.Reads (generics_parts def g) (steps.lower_generics def g)
  generics_read def g = W.next (all_params def g.params) (λ u. all_predicates g.predicates)

  -- traits, implementations and aliases

  trait_read : (def : GenericDefId) (x : Trait) → W.Reads (trait_parts def x) (steps.lower_trait def x)
  trait_read def x = W.next (typed def steps.self_text None provenance.TraitSelf x.bounds) (λ u. generics_read def x.generics)

  trait_path : (x : Option PathTypeReading) → W.Reads (trait_path_parts x) (steps.lower_trait_ref x)
  trait_path None = W.none None
  trait_path (Some x) = W.trait_is x.pointer x.path

  impl_read : (def : GenericDefId) (x : Impl) → W.Reads (impl_parts def x) (steps.lower_impl def x)
  impl_read def x = W.next (part_type x.self_type)
      (λ self. W.next (trait_path x.trait_) (λ t. ends W (generics_read def x.generics) (λ u. W.none (self, t))))

  missing : (f : Option (Pointer × MissingBodyItemKind)) → W.Reads (missing_parts f) (steps.report_missing f)
  missing None = W.none tt
  missing (Some f) = W.fault_is _

  alias_read : (def : GenericDefId) (x : Alias) → W.Reads (alias_parts def x) (steps.lower_alias def x)
  alias_read def x = W.next (bounds_from [] x.bounds) (λ bs. W.next (generics_read def x.generics)
      (λ u. W.next (present x.type_) (λ t. ends W (missing x.missing) (λ v. W.none (bs, t)))))

  -- functions

  receiver : (x : Receiver) → W.Reads (receiver_parts x) (steps.lower_receiver x)
  receiver item.no_receiver = W.none None
  receiver (item.disabled_receiver at by) = ends W (W.fault_is _) (λ u. W.none None)
  receiver (item.typed_receiver t) = maps W (λ i. Some i) (W.type_is t)
  receiver (item.self_receiver borrow l) = maps W (λ i. Some i) (W.self_is borrow l)

  inactive : (x : Argument) → W.Reads (inactive_parts x) (steps.report_inactive x)
  inactive (item.disabled_argument at by) = W.fault_is _
  inactive item.variadic_argument = W.none tt
  inactive (item.argument t) = W.none tt

  all_inactive : (xs : List Argument) → W.Reads (all_inactive_parts xs) (steps.report_each xs)
  all_inactive [] = W.none tt
  all_inactive (x ∷ xs) = W.next (inactive x) (λ u. all_inactive xs)

  one_argument : (x : Argument) → W.Reads (argument_parts x) (steps.argument_type x)
  one_argument (item.disabled_argument at by) = W.none None
  one_argument item.variadic_argument = W.none None
  one_argument (item.argument t) = maps W (λ i. Some i) (part_type t)

  all_arguments : (done : List TypeRefId) (xs : List Argument) → W.Reads (arguments_parts xs) (steps.argument_types done xs)
  all_arguments done [] = W.none done
  all_arguments done (x ∷ xs) = W.next (one_argument x) (λ t. all_arguments (push_some done t) xs)

  input_read : (r : Receiver) (xs : List Argument) → W.Reads (input_parts r xs) (steps.input_types r xs)
  input_read r xs = W.next (receiver r) (λ self. W.next (all_inactive xs) (λ u. all_arguments (push_some [] self) xs))

  -- what a coroutine gives, and then the `impl` of its trait
  given_read : (k : CoroutineKind) (t : OptionType) → let p = type_part None t in
      W.Reads (type_parts t ++ coroutine_parts k (written_type t)) ((p >>= (λ i. pure (Some i))) >>= steps.answer_form (Some k))
  given_read k t =
      let p = type_part None t in
      subst (λ q. W.Reads (type_parts t ++ coroutine_parts k (written_type t)) q)
      (bind_assoc p (coroutine_of k) (λ i. pure (Some i)) ∙ sym (bind_assoc p (λ i. pure (Some i)) (steps.answer_form (Some k))))
      (maps W (λ i. Some i) (W.coroutine_is k t))

  output_read : (k : Option CoroutineKind) (r : OptionRet) → W.Reads (output_parts k r) (steps.output_type k r)
  output_read None tree.no_ret = W.none None
  output_read None (tree.some_ret t) = ends W (maps W (λ i. Some i) (part_type t)) (λ i. W.none i)
  output_read (Some k) tree.no_ret = maps W (λ i. Some i) (W.unit_coroutine_is k)
  output_read (Some k) (tree.some_ret t) = given_read k t

  function_read : (def : GenericDefId) (x : Function) → W.Reads (function_parts def x) (steps.lower_function def x)
  function_read def x = W.next (generics_read def x.generics) (λ u. W.next (input_read x.receiver x.arguments)
      (λ args. ends W (output_read x.kind x.ret) (λ ret. W.none _)))

  pub items_walked : OfItems (λ A xs p. W.Claim xs p)
  items_walked def = (
    λ g. W.whole (generics_read def g),
    λ x. W.whole (trait_read def x),
    λ x. W.whole (impl_read def x),
    λ x. W.whole (alias_read def x),
    λ x. W.whole (function_read def x),
  )

pub items_read : (R : Reading) → OfItems (λ A xs p. R.Claim xs p)
unfolding walking
items_read R def = items_walked (walking R) def
