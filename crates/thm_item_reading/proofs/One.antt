-- The rules of items allow one item alone.
use Rattle.std.proofs.Common.{◌≡◌, ◌∙◌, refl, sym, subst, Bool, ◌∷◌, Option, Some}
use Rattle.hir_syntax.specs.declared.params.ParamList.{ParamList as AstParamList}
use Rattle.hir_store.specs.declared.name.Name.TheVariants as name
use Rattle.hir_env.specs.ResolvedTree as tree
use Rattle.hir_env.specs.ResolvedTree.{Formals}
use Rattle.hir_env.specs.Answers.{Answers}
use Rattle.hir_env.specs.declared.ctx.ImplTrait.TheVariants as becomes
use Rattle.hir_env.specs.declared.ctx.LifetimeScope.TheVariants as counts
use Rattle.hir_env.specs.declared.ctx.LowerCtx.{LowerCtx}
use Rattle.thm_reading.specs.Formals.{FormalsAs}
use Rattle.thm_reading.specs.LowerCtx.{lifetime_here, name_text, node, param_node}
use Rattle.thm_reading.proofs.Alone.{Two, bool_clash, ok_not_err, error_or, type_in}
use Rattle.thm_reading.proofs.One.{one_bounds}
use Rattle.thm_reading.proofs.OneFormals.{one_formals}
use Rattle.hir_lower_item.specs.Items as item
use Rattle.thm_item_reading.specs.LowerCtx.{generic_node, where_impls}
use Rattle.thm_item_reading.specs.Rules as rule
use Rattle.thm_item_reading.specs.Rules.{AliasAs, ArgumentAs, ArgumentsAs, BareAs, BodyParamsAs, CoroutineAs, DefaultAs, ForAs, ForNamesAs}
use Rattle.thm_item_reading.specs.Rules.{FunctionAs, GenericsAs, ImplAs, InputsAs, KeptArgumentAs, KeptSelfAs, LifetimeParamAs, OutputAs}
use Rattle.thm_item_reading.specs.Rules.{OwesAs, ParamAs, ParamListAs, ParamsAs, PredicateAs, PredicatesAs, SelfAs, TraitAs, TraitKindAs}
use Rattle.thm_item_reading.specs.Rules.{TraitRefAs, WhereAs}
use Rattle.thm_item_reading.proofs.Alone.{one_opt_expr, one_opt_path, one_opt_type}

one_for_names : {ls ns ms : _} → ForNamesAs ls ns → ForNamesAs ls ms → ns ≡ ms
one_for_names rule.no_names rule.no_names = refl
one_for_names (rule.lacking_name h) (rule.lacking_name k) = λ i. name.Missing ∷ one_for_names h k i
one_for_names (rule.written_name {l = l} h) (rule.written_name k) = λ i. name.Text l.t ∷ one_for_names h k i

one_for : {b x y : _} → ForAs b x → ForAs b y → x ≡ y
one_for rule.without_for rule.without_for = refl
one_for (rule.with_for h) (rule.with_for k) = λ i. Some (one_for_names h k i)

pub one_coroutine : {is_async is_gen x y : _} → CoroutineAs is_async is_gen x → CoroutineAs is_async is_gen y → x ≡ y
one_coroutine rule.no_coroutine rule.no_coroutine = refl
one_coroutine rule.async_fn rule.async_fn = refl
one_coroutine rule.gen_fn rule.gen_fn = refl
one_coroutine rule.async_gen_fn rule.async_gen_fn = refl

one_owes : {c s t x y : _} → OwesAs c s t x → OwesAs c s t y → x ≡ y
one_owes rule.has_type rule.has_type = refl
one_owes rule.owes_in_module rule.owes_in_module = refl
one_owes rule.owes_in_impl rule.owes_in_impl = refl
one_owes rule.free_in_extern_block rule.free_in_extern_block = refl
one_owes rule.free_in_trait rule.free_in_trait = refl

one_bare : {c has_body x y : _} → BareAs c has_body x → BareAs c has_body y → x ≡ y
one_bare rule.bare_in_extern_block rule.bare_in_extern_block = refl
one_bare rule.bare_without_body rule.bare_without_body = refl
one_bare rule.any_with_body rule.any_with_body = refl
one_bare rule.any_in_module rule.any_in_module = refl
one_bare rule.any_in_impl rule.any_in_impl = refl

module _ (env : Answers) where
  -- what is generic

  one_default : {p d x y : _} → DefaultAs env p d x → DefaultAs env p d y → x ≡ y
  one_default rule.no_default rule.no_default = refl
  one_default (rule.some_default h) (rule.some_default k) = λ i. Some (tree.constant (one_opt_expr env h k i))

  one_lifetime_param : {p def l bs r x y : _} → LifetimeParamAs env p def l bs r x → LifetimeParamAs env p def l bs r y → x ≡ y
  one_lifetime_param (rule.named_lifetime {p = p} {l = l} {n = n} h) (rule.named_lifetime k) =
      λ i. item.lifetime_param n (lifetime_here (where_impls becomes.Error counts.Nowhere p) l) (one_bounds env h k i)
  one_lifetime_param rule.static_lifetime rule.static_lifetime = refl
  one_lifetime_param rule.placeholder_lifetime rule.placeholder_lifetime = refl
  one_lifetime_param rule.broken_lifetime rule.broken_lifetime = refl

  one_param : {p def x y z : _} → ParamAs env p def x y → ParamAs env p def x z → y ≡ z
  one_param (rule.type_param {n = n} _ h1 h2) (rule.type_param _ k1 k2) =
      λ i. item.type_param (name_text n) (one_opt_type env h1 k1 i) (one_bounds env h2 k2 i)
  one_param (rule.type_param h _ _) (rule.disabled_param k) = ok_not_err (sym h ∙ k)
  one_param (rule.const_param {n = n} _ h1 h2) (rule.const_param _ k1 k2) =
      λ i. item.const_param (name_text n) (one_opt_type env h1 k1 i) (one_default h2 k2 i)
  one_param (rule.const_param h _ _) (rule.disabled_param k) = ok_not_err (sym h ∙ k)
  one_param (rule.lifetime_param _ h) (rule.lifetime_param _ k) = one_lifetime_param h k
  one_param (rule.lifetime_param h _) (rule.disabled_param k) = ok_not_err (sym h ∙ k)
  one_param (rule.lacking_lifetime _) (rule.lacking_lifetime _) = refl
  one_param (rule.lacking_lifetime h) (rule.disabled_param k) = ok_not_err (sym h ∙ k)
  one_param (rule.disabled_param h) (rule.type_param k _ _) = ok_not_err (sym k ∙ h)
  one_param (rule.disabled_param h) (rule.const_param k _ _) = ok_not_err (sym k ∙ h)
  one_param (rule.disabled_param h) (rule.lifetime_param k _) = ok_not_err (sym k ∙ h)
  one_param (rule.disabled_param h) (rule.lacking_lifetime k) = ok_not_err (sym k ∙ h)
  one_param (rule.disabled_param {p = p} {x = x} {by = by} h) (rule.disabled_param k) =
      λ i. item.disabled_param (generic_node p x) (error_or by ((sym h ∙ k) i))

  one_params : {p def xs ys zs : _} → ParamsAs env p def xs ys → ParamsAs env p def xs zs → ys ≡ zs
  one_params rule.no_params rule.no_params = refl
  one_params (rule.more_params h hs) (rule.more_params k ks) = λ i. one_param h k i ∷ one_params hs ks i

  one_param_list : {p def xs ys zs : _} → ParamListAs env p def xs ys → ParamListAs env p def xs zs → ys ≡ zs
  one_param_list rule.without_params rule.without_params = refl
  one_param_list (rule.with_params h) (rule.with_params k) = one_params h k

  one_predicate : {p def t l b bs x y : _} → PredicateAs env p def t l b bs x → PredicateAs env p def t l b bs y → x ≡ y
  one_predicate (rule.type_predicate {y = y} h1 h2 h3) (rule.type_predicate k1 k2 k3) =
      λ i. item.of_type (type_in y (one_opt_type env h1 k1 i)) (one_for h2 k2 i) (one_bounds env h3 k3 i)
  one_predicate (rule.lifetime_predicate {p = p} {l = l} h) (rule.lifetime_predicate k) =
      λ i. item.of_lifetime (lifetime_here (where_impls becomes.Error counts.Bound p) l) (one_bounds env h k i)
  one_predicate rule.predicate_of_nothing rule.predicate_of_nothing = refl

  one_predicates : {p def xs ys zs : _} → PredicatesAs env p def xs ys → PredicatesAs env p def xs zs → ys ≡ zs
  one_predicates rule.no_predicates rule.no_predicates = refl
  one_predicates (rule.more_predicates h hs) (rule.more_predicates k ks) = λ i. one_predicate h k i ∷ one_predicates hs ks i

  one_where : {p def xs ys zs : _} → WhereAs env p def xs ys → WhereAs env p def xs zs → ys ≡ zs
  one_where rule.without_where rule.without_where = refl
  one_where (rule.with_where h) (rule.with_where k) = one_predicates h k

  pub one_generics : {p def ps ws x y : _} → GenericsAs env p def ps ws x → GenericsAs env p def ps ws y → x ≡ y
  one_generics (rule.generics h1 h2) (rule.generics k1 k2) =
      λ i. record { params = one_param_list h1 k1 i; predicates = one_where h2 k2 i }

  -- functions

  one_kept_self : {p t r m l x y : _} → KeptSelfAs env p t r m l x → KeptSelfAs env p t r m l y → x ≡ y
  one_kept_self (rule.typed_self {y = y} h) (rule.typed_self k) = λ i. item.typed_receiver (type_in y (one_opt_type env h k i))
  one_kept_self rule.plain_self rule.plain_self = refl
  one_kept_self rule.borrowed_self rule.borrowed_self = refl

  one_self : {p def x y z : _} → SelfAs env p def x y → SelfAs env p def x z → y ≡ z
  one_self rule.no_self rule.no_self = refl
  one_self (rule.enabled_self _ h) (rule.enabled_self _ k) = one_kept_self h k
  one_self (rule.enabled_self h _) (rule.disabled_self k) = ok_not_err (sym h ∙ k)
  one_self (rule.disabled_self h) (rule.enabled_self k _) = ok_not_err (sym k ∙ h)
  one_self (rule.disabled_self {p = p} {x = x} {by = by} h) (rule.disabled_self k) =
      λ i. item.disabled_receiver (node p x.id x.range) (error_or by ((sym h ∙ k) i))

  one_kept_argument : {p v t x y : _} → KeptArgumentAs env p v t x → KeptArgumentAs env p v t y → x ≡ y
  one_kept_argument rule.variadic_argument rule.variadic_argument = refl
  one_kept_argument (rule.typed_argument h) (rule.typed_argument k) = λ i. item.argument (one_opt_type env h k i)

  one_argument : {p def x y z : _} → ArgumentAs env p def x y → ArgumentAs env p def x z → y ≡ z
  one_argument (rule.enabled_argument _ h) (rule.enabled_argument _ k) = one_kept_argument h k
  one_argument (rule.enabled_argument h _) (rule.disabled_argument k) = ok_not_err (sym h ∙ k)
  one_argument (rule.disabled_argument h) (rule.enabled_argument k _) = ok_not_err (sym k ∙ h)
  one_argument (rule.disabled_argument {p = p} {x = x} {by = by} h) (rule.disabled_argument k) =
      λ i. item.disabled_argument (param_node p x) (error_or by ((sym h ∙ k) i))

  one_arguments : {p def xs ys zs : _} → ArgumentsAs env p def xs ys → ArgumentsAs env p def xs zs → ys ≡ zs
  one_arguments rule.no_arguments rule.no_arguments = refl
  one_arguments (rule.more_arguments h hs) (rule.more_arguments k ks) = λ i. one_argument h k i ∷ one_arguments hs ks i

  one_inputs : {p def x y ys z zs : _} → InputsAs env p def x y ys → InputsAs env p def x z zs → Two y ys z zs
  one_inputs rule.without_list rule.without_list = refl
  one_inputs (rule.with_list h hs) (rule.with_list k ks) = λ i. (one_self h k i, one_arguments hs ks i)

  one_output : {p t x y : _} → OutputAs env p t x → OutputAs env p t y → x ≡ y
  one_output rule.no_output rule.no_output = refl
  one_output (rule.some_output h) (rule.some_output k) = λ i. tree.some_ret (one_opt_type env h k i)

  pub one_function : {p def x y z : _} → FunctionAs env p def x y → FunctionAs env p def x z → y ≡ z
  one_function (rule.function h1 h2 h3 h4) (rule.function k1 k2 k3 k4) = λ i. record {
    generics = one_generics h1 k1 i;
    receiver = (one_inputs h2 k2 i).0;
    arguments = (one_inputs h2 k2 i).1;
    ret = one_output h3 k3 i;
    kind = one_coroutine h4 k4 i;
  }

  at_bare : {p : LowerCtx} {x : Option AstParamList} {y z : Formals} {b c : Bool} → b ≡ c → FormalsAs env p b x y → FormalsAs env p c x z
      → y ≡ z
  at_bare {p = p} {x = x} {z = z} e h k = one_formals env h (subst (λ b. FormalsAs env p b x z) (sym e) k)

  pub one_body_params : {p c has_body x y z : _} → BodyParamsAs env p c has_body x y → BodyParamsAs env p c has_body x z → y ≡ z
  one_body_params (rule.body_params h1 h2) (rule.body_params k1 k2) = at_bare (one_bare h1 k1) h2 k2

  -- other items

  one_trait_kind : {p s k x y : _} → TraitKindAs env p s k x → TraitKindAs env p s k y → x ≡ y
  one_trait_kind (rule.trait_path {s = s} h) (rule.trait_path k) = λ i. Some (record { pointer = s; path = one_opt_path env h k i })
  one_trait_kind (rule.trait_path _) (rule.other_trait k) = bool_clash (sym k)
  one_trait_kind (rule.other_trait h) (rule.trait_path _) = bool_clash (sym h)
  one_trait_kind (rule.other_trait _) (rule.other_trait _) = refl

  one_trait_ref : {p t x y : _} → TraitRefAs env p t x → TraitRefAs env p t y → x ≡ y
  one_trait_ref rule.no_trait rule.no_trait = refl
  one_trait_ref (rule.some_trait h) (rule.some_trait k) = one_trait_kind h k

  pub one_impl : {p def x y z : _} → ImplAs env p def x y → ImplAs env p def x z → y ≡ z
  one_impl (rule.implementation h1 h2 h3) (rule.implementation k1 k2 k3) =
      λ i. record { self_type = one_opt_type env h1 k1 i; trait_ = one_trait_ref h2 k2 i; generics = one_generics h3 k3 i }

  pub one_trait : {p def x y z : _} → TraitAs env p def x y → TraitAs env p def x z → y ≡ z
  one_trait (rule.trait_item h1 h2) (rule.trait_item k1 k2) =
      λ i. record { bounds = one_bounds env h1 k1 i; generics = one_generics h2 k2 i }

  pub one_alias : {p def c x y z : _} → AliasAs env p def c x y → AliasAs env p def c x z → y ≡ z
  one_alias (rule.type_alias h1 h2 h3 h4) (rule.type_alias k1 k2 k3 k4) = λ i. record {
    bounds = one_bounds env h1 k1 i;
    generics = one_generics h2 k2 i;
    type_ = one_opt_type env h3 k3 i;
    missing = one_owes h4 k4 i;
  }
