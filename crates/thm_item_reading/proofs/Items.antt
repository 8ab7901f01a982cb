-- An item is read as the rules allow where its parts are.
use Rattle.std.proofs.Common.{◌≡◌, refl, sym, Bool, true, false, List, [], ◌∷◌, Option, Some, None, option_map, Result, Ok, Err}
use Rattle.hir_syntax.specs.declared.ast.ElseBranch.TheOpen.{TypeKind-F}
use Rattle.hir_syntax.specs.declared.ast.Lifetime.{Lifetime as AstLifetime}
use Rattle.hir_syntax.specs.declared.params.ParamList.{ParamList as AstParamList}
use Rattle.hir_syntax.specs.declared.params.SelfParam.{SelfParam as AstSelfParam}
use Rattle.hir_syntax.specs.declared.types.ForBinder.{ForBinder as AstForBinder}
use Rattle.hir_syntax.specs.declared.types.Param.{Param as AstParam, out-Param}
use Rattle.hir_syntax.specs.declared.types.TypeBound.{TypeBound as AstTypeBound}
use Rattle.hir_syntax.specs.declared.types.Type_.{Type_ as AstType}
use Rattle.hir_syntax.specs.declared.items.Fn.{Fn as AstFn}
use Rattle.hir_syntax.specs.declared.items.GenericParam.{GenericParam as AstGenericParam}
use Rattle.hir_syntax.specs.declared.items.GenericParam.TheVariants as param
use Rattle.hir_syntax.specs.declared.items.Impl.{Impl as AstImpl}
use Rattle.hir_syntax.specs.declared.items.Trait.{Trait as AstTrait}
use Rattle.hir_syntax.specs.declared.items.TypeAlias.{TypeAlias as AstTypeAlias}
use Rattle.hir_syntax.specs.declared.items.WherePred.{WherePred as AstWherePred}
use Rattle.hir_store.specs.Pointers.{Pointer}
use Rattle.hir_store.specs.declared.ids.CfgId.{CfgId}
use Rattle.hir_store.specs.declared.ids.GenericDefId.{GenericDefId}
use Rattle.hir_store.specs.declared.ids.ItemContainerId.{ItemContainerId}
use Rattle.hir_store.specs.declared.ids.ItemContainerId.TheVariants as holder
use Rattle.hir_store.specs.declared.type_ref.LifetimeRef.{LifetimeRef}
use Rattle.hir_store.specs.declared.type_ref.LifetimeRef.TheVariants as lifetime
use Rattle.hir_env.specs.Answering.{coroutine_kind}
use Rattle.hir_env.specs.Answers.{Answers}
use Rattle.hir_env.specs.Formals.{resolved_formals, are_bare}
use Rattle.hir_env.specs.Paths.{lifetime_of, lifetime_ref}
use Rattle.hir_env.specs.TypeLayers.{TypeKindLayer}
use Rattle.hir_env.specs.Whole.{bounds_part, written}
use Rattle.hir_env.specs.declared.ctx.LowerCtx.{LowerCtx}
use Rattle.thm_reading.specs.Theorems.{rctx}
use Rattle.thm_reading.specs.LowerCtx.{node, param_node, site, type_kind, type_node}
use Rattle.thm_reading.proofs.Formals.{formals_said}
use Rattle.hir_lower_item.specs.Answering as of
use Rattle.thm_item_reading.specs.LowerCtx.{generic_node}
use Rattle.thm_item_reading.specs.Rules as rule
use Rattle.thm_item_reading.specs.Rules.{AliasAs, ArgumentAs, ArgumentsAs, BareAs, BodyParamsAs, CoroutineAs, ForAs, ForNamesAs, FunctionAs}
use Rattle.thm_item_reading.specs.Rules.{GenericsAs, ImplAs, InputsAs, KeptArgumentAs, KeptSelfAs, LifetimeParamAs, OwesAs, ParamAs}
use Rattle.thm_item_reading.specs.Rules.{ParamListAs, ParamsAs, PredicateAs, PredicatesAs, SelfAs, TraitAs, TraitKindAs, TraitRefAs}
use Rattle.thm_item_reading.specs.Rules.{WhereAs}
use Rattle.thm_item_reading.proofs.Parts.{bounds_said, default_said, output_said, path_said, type_said}

for_names_said : (ls : List (Option AstLifetime)) → ForNamesAs ls (of.binder_names ls)
for_names_said [] = rule.no_names
for_names_said (None ∷ ls) = rule.lacking_name (for_names_said ls)
for_names_said (Some l ∷ ls) = rule.written_name (for_names_said ls)

for_said : (b : Option AstForBinder) → ForAs b (option_map of.where_binder b)
for_said None = rule.without_for
for_said (Some b) = rule.with_for (for_names_said b.params)

pub coroutine_said : (is_async is_gen : Bool) → CoroutineAs is_async is_gen (coroutine_kind is_async is_gen)
coroutine_said false false = rule.no_coroutine
coroutine_said true false = rule.async_fn
coroutine_said false true = rule.gen_fn
coroutine_said true true = rule.async_gen_fn

owes_said : (c : ItemContainerId) (s : Pointer) (t : Option AstType) → OwesAs c s t (of.missing_type s t (of.required_type c))
owes_said c s (Some t) = rule.has_type
owes_said (holder.ModuleId m) s None = rule.owes_in_module
owes_said (holder.ImplId i) s None = rule.owes_in_impl
owes_said (holder.ExternBlockId b) s None = rule.free_in_extern_block
owes_said (holder.TraitId t) s None = rule.free_in_trait

bare_said : (c : ItemContainerId) (has_body : Bool) → BareAs c has_body (are_bare c has_body)
bare_said (holder.ExternBlockId b) has_body = rule.bare_in_extern_block
bare_said (holder.TraitId t) false = rule.bare_without_body
bare_said (holder.TraitId t) true = rule.any_with_body
bare_said (holder.ModuleId m) has_body = rule.any_in_module
bare_said (holder.ImplId i) has_body = rule.any_in_impl

module _ (a : Answers) where
  -- what is generic

  lifetime_param_said : (p : LowerCtx) (def : GenericDefId) (l : AstLifetime) (bs : List AstTypeBound) (r : LifetimeRef)
      → LifetimeParamAs a p def l bs r (of.named_param r (lifetime_of (of.in_plain p) l)
      (bounds_part (of.at_place (of.in_bounds def) (rctx p a)) bs))
  lifetime_param_said p def l bs (lifetime.Named n) = rule.named_lifetime (bounds_said a (of.in_bounds def p) bs)
  lifetime_param_said p def l bs lifetime.Static = rule.static_lifetime
  lifetime_param_said p def l bs lifetime.Placeholder = rule.placeholder_lifetime
  lifetime_param_said p def l bs lifetime.Error = rule.broken_lifetime

  param_by : (p : LowerCtx) (def : GenericDefId) (x : AstGenericParam) (r : Result (Unit {0}) CfgId) → a.cfg (site (generic_node p x)) ≡ r
      → ParamAs a p def x (of.asked_param (of.param_pointer p x) r (of.kept_param (rctx p a) def x))
  param_by p def (param.TypeParam id range None bs d) (Ok u) is =
      rule.type_param is (type_said a (of.in_plain p) d) (bounds_said a (of.in_bounds def p) bs)
  param_by p def (param.TypeParam id range (Some n) bs d) (Ok u) is =
      rule.type_param is (type_said a (of.in_plain p) d) (bounds_said a (of.in_bounds def p) bs)
  param_by p def (param.ConstParam id range None t d) (Ok u) is =
      rule.const_param is (type_said a (of.in_plain p) t) (default_said a (of.in_plain p) d)
  param_by p def (param.ConstParam id range (Some n) t d) (Ok u) is =
      rule.const_param is (type_said a (of.in_plain p) t) (default_said a (of.in_plain p) d)
  param_by p def (param.LifetimeParam id range None bs) (Ok u) is = rule.lacking_lifetime is
  param_by p def (param.LifetimeParam id range (Some l) bs) (Ok u) is =
      rule.lifetime_param is (lifetime_param_said p def l bs (lifetime_ref l.t))
  param_by p def (param.TypeParam id range n bs d) (Err by) is = rule.disabled_param is
  param_by p def (param.ConstParam id range n t d) (Err by) is = rule.disabled_param is
  param_by p def (param.LifetimeParam id range l bs) (Err by) is = rule.disabled_param is

  node_same : (p : LowerCtx) (x : AstGenericParam) → of.param_pointer p x ≡ generic_node p x
  node_same p (param.TypeParam id range n bs d) = refl
  node_same p (param.ConstParam id range n t d) = refl
  node_same p (param.LifetimeParam id range l bs) = refl

  param_said : (p : LowerCtx) (def : GenericDefId) (x : AstGenericParam) → ParamAs a p def x (of.resolved_param (rctx p a) def x)
  param_said p def x = param_by p def x (a.cfg (site (of.param_pointer p x))) (λ i. a.cfg (site (sym (node_same p x) i)))

  params_said : (p : LowerCtx) (def : GenericDefId) (xs : List AstGenericParam) → ParamsAs a p def xs (of.params_part (rctx p a) def xs)
  params_said p def [] = rule.no_params
  params_said p def (x ∷ xs) = rule.more_params (param_said p def x) (params_said p def xs)

  list_said : (p : LowerCtx) (def : GenericDefId) (xs : Option (List AstGenericParam))
      → ParamListAs a p def xs (of.list_part (rctx p a) def xs)
  list_said p def None = rule.without_params
  list_said p def (Some xs) = rule.with_params (params_said p def xs)

  predicate_said : (p : LowerCtx) (def : GenericDefId) (t : Option AstType) (l : Option AstLifetime) (b : Option AstForBinder)
      (bs : List AstTypeBound) → PredicateAs a p def t l b bs (of.predicate_of (rctx p a) def t l b bs)
  predicate_said p def (Some t) l b bs =
      rule.type_predicate (type_said a (of.in_target p) (Some t)) (for_said b) (bounds_said a (of.in_bounds def p) bs)
  predicate_said p def None (Some l) b bs = rule.lifetime_predicate (bounds_said a (of.in_bounds def p) bs)
  predicate_said p def None None b bs = rule.predicate_of_nothing

  predicates_said : (p : LowerCtx) (def : GenericDefId) (xs : List AstWherePred)
      → PredicatesAs a p def xs (of.predicates_part (rctx p a) def xs)
  predicates_said p def [] = rule.no_predicates
  predicates_said p def (x ∷ xs) =
      rule.more_predicates (predicate_said p def x.ty x.lifetime x.binder x.bounds) (predicates_said p def xs)

  where_said : (p : LowerCtx) (def : GenericDefId) (xs : Option (List AstWherePred)) → WhereAs a p def xs (of.where_part (rctx p a) def xs)
  where_said p def None = rule.without_where
  where_said p def (Some xs) = rule.with_where (predicates_said p def xs)

  pub generics_said : (p : LowerCtx) (def : GenericDefId) (ps : Option (List AstGenericParam)) (ws : Option (List AstWherePred))
      → GenericsAs a p def ps ws (of.resolved_generics (rctx p a) def ps ws)
  generics_said p def ps ws = rule.generics (list_said p def ps) (where_said p def ws)

  -- functions

  kept_self_said : (p : LowerCtx) (t : Option AstType) (is_ref is_mut : Bool) (l : Option AstLifetime)
      → KeptSelfAs a p t is_ref is_mut l (of.receiver_of (rctx p a) t is_ref is_mut l)
  kept_self_said p (Some t) is_ref is_mut l = rule.typed_self (type_said a p (Some t))
  kept_self_said p None false is_mut l = rule.plain_self
  kept_self_said p None true is_mut l = rule.borrowed_self

  self_by : (p : LowerCtx) (def : GenericDefId) (x : AstSelfParam) (r : Result (Unit {0}) CfgId) → a.cfg (site (node p x.id x.range)) ≡ r
      → SelfAs a p def (Some x) (of.asked_receiver (node p x.id x.range) r
      (of.receiver_of (of.at_place (of.in_arguments def) (rctx p a)) x.ty x.ref_ x.mut_ x.lifetime))
  self_by p def x (Ok u) is = rule.enabled_self is (kept_self_said (of.in_arguments def p) x.ty x.ref_ x.mut_ x.lifetime)
  self_by p def x (Err by) is = rule.disabled_self is

  self_said : (p : LowerCtx) (def : GenericDefId) (x : Option AstSelfParam) → SelfAs a p def x (of.resolved_receiver (rctx p a) def x)
  self_said p def None = rule.no_self
  self_said p def (Some x) = self_by p def x (a.cfg (site (node p x.id x.range))) refl

  kept_argument_said : (p : LowerCtx) (is_variadic : Bool) (t : Option AstType)
      → KeptArgumentAs a p is_variadic t (of.argument_of (rctx p a) is_variadic t)
  kept_argument_said p true t = rule.variadic_argument
  kept_argument_said p false t = rule.typed_argument (type_said a p t)

  argument_by : (p : LowerCtx) (def : GenericDefId) (x : AstParam) (r : Result (Unit {0}) CfgId) → a.cfg (site (param_node p x)) ≡ r
      → ArgumentAs a p def x (of.asked_argument (param_node p x) r
      (of.argument_of (of.at_place (of.in_arguments def) (rctx p a)) (out-Param x).variadic (out-Param x).ty))
  argument_by p def x (Ok u) is =
      rule.enabled_argument is (kept_argument_said (of.in_arguments def p) (out-Param x).variadic (out-Param x).ty)
  argument_by p def x (Err by) is = rule.disabled_argument is

  arguments_said : (p : LowerCtx) (def : GenericDefId) (xs : List AstParam) → ArgumentsAs a p def xs (of.arguments_of (rctx p a) def xs)
  arguments_said p def [] = rule.no_arguments
  arguments_said p def (x ∷ xs) =
      rule.more_arguments (argument_by p def x (a.cfg (site (param_node p x))) refl) (arguments_said p def xs)

  inputs_said : (p : LowerCtx) (def : GenericDefId) (x : Option AstParamList)
      → InputsAs a p def x (of.receiver_part (rctx p a) def x) (of.arguments_part (rctx p a) def x)
  inputs_said p def None = rule.without_list
  inputs_said p def (Some x) = rule.with_list (self_said p def x.self_) (arguments_said p def x.params)

  pub function_said : (p : LowerCtx) (def : GenericDefId) (x : AstFn) → FunctionAs a p def x (of.resolved_function (rctx p a) def x)
  function_said p def x = rule.function (generics_said p def x.generics x.where_) (inputs_said p def x.params)
      (output_said a (of.in_output p) x.ret) (coroutine_said x.async_ x.gen_)

  pub body_params_said : (p : LowerCtx) (c : ItemContainerId) (has_body : Bool) (x : Option AstParamList)
      → BodyParamsAs a p c has_body x (resolved_formals (rctx p a) (are_bare c has_body) x)
  body_params_said p c has_body x = rule.body_params (bare_said c has_body) (formals_said a p (are_bare c has_body) x)

  -- other items

  trait_kind_said : (p : LowerCtx) (s : Pointer) (k : TypeKindLayer written) → TraitKindAs a p s k (of.trait_by (rctx p a) s k)
  trait_kind_said p s (TypeKind-F.PathType x) = rule.trait_path (path_said a p x)
  trait_kind_said p s (TypeKind-F.ParenType t) = rule.other_trait refl
  trait_kind_said p s (TypeKind-F.TupleType ts) = rule.other_trait refl
  trait_kind_said p s (TypeKind-F.PtrType m t) = rule.other_trait refl
  trait_kind_said p s (TypeKind-F.ArrayType t n) = rule.other_trait refl
  trait_kind_said p s (TypeKind-F.SliceType t) = rule.other_trait refl
  trait_kind_said p s (TypeKind-F.RefType l m t) = rule.other_trait refl
  trait_kind_said p s (TypeKind-F.FnPtrType is_unsafe abi ps r) = rule.other_trait refl
  trait_kind_said p s (TypeKind-F.ForType b t) = rule.other_trait refl
  trait_kind_said p s (TypeKind-F.ImplTraitType bs) = rule.other_trait refl
  trait_kind_said p s (TypeKind-F.DynTraitType bs) = rule.other_trait refl
  trait_kind_said p s (TypeKind-F.PatternType t x) = rule.other_trait refl
  trait_kind_said p s (TypeKind-F.MacroType c) = rule.other_trait refl
  trait_kind_said p s TypeKind-F.NeverType = rule.other_trait refl
  trait_kind_said p s TypeKind-F.InferType = rule.other_trait refl

  trait_said : (p : LowerCtx) (t : Option AstType) → TraitRefAs a p t (of.trait_of (rctx p a) t)
  trait_said p None = rule.no_trait
  trait_said p (Some t) = rule.some_trait (trait_kind_said p (type_node p t) (type_kind t))

  pub implementation_said : (p : LowerCtx) (def : GenericDefId) (x : AstImpl) → ImplAs a p def x (of.resolved_impl (rctx p a) def x)
  implementation_said p def x = rule.implementation (type_said a (of.in_plain p) x.self_ty) (trait_said (of.in_opaque p) x.trait_)
      (generics_said p def x.generics x.where_)

  pub trait_item_said : (p : LowerCtx) (def : GenericDefId) (x : AstTrait) → TraitAs a p def x (of.resolved_trait (rctx p a) def x)
  trait_item_said p def x = rule.trait_item (bounds_said a (of.in_self_bounds def p) x.bounds) (generics_said p def x.generics x.where_)

  pub type_alias_said : (p : LowerCtx) (def : GenericDefId) (c : ItemContainerId) (x : AstTypeAlias)
      → AliasAs a p def c x (of.resolved_alias (rctx p a) def c x)
  type_alias_said p def c x = rule.type_alias (bounds_said a (of.in_opaque p) x.bounds) (generics_said p def x.generics x.where_)
      (type_said a (of.in_opaque p) x.ty) (owes_said c (node p x.id x.range) x.ty)
