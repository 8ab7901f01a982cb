-- Which answered item a written one is, at a place: a rule for each kind, which says of each written part where it is read. No other rules
-- are there, so what no rule allows isn't the reading.
use Rattle.std.specs.Prelude.{◌≡◌, Bool, true, false, List, [], ◌∷◌, Option, Some, None, option_map}
use Rattle.hir_syntax.specs.declared.ast.ElseBranch.TheOpen.{TypeKind-F}
use Rattle.hir_syntax.specs.declared.ast.Lifetime.{Lifetime as AstLifetime}
use Rattle.hir_syntax.specs.declared.params.ParamList.{ParamList as AstParamList}
use Rattle.hir_syntax.specs.declared.params.SelfParam.{SelfParam as AstSelfParam}
use Rattle.hir_syntax.specs.declared.types.ForBinder.{ForBinder as AstForBinder}
use Rattle.hir_syntax.specs.declared.types.Param.{Param as AstParam, out-Param}
use Rattle.hir_syntax.specs.declared.types.TypeBound.{TypeBound as AstTypeBound}
use Rattle.hir_syntax.specs.declared.types.Type_.{Type_ as AstType}
use Rattle.hir_syntax.specs.declared.items.Fn.{Fn as AstFn}
use Rattle.hir_syntax.specs.declared.items.GenericParam.{GenericParam as AstGenericParam}
use Rattle.hir_syntax.specs.declared.items.GenericParam.TheVariants as param
use Rattle.hir_syntax.specs.declared.items.Impl.{Impl as AstImpl}
use Rattle.hir_syntax.specs.declared.items.Trait.{Trait as AstTrait}
use Rattle.hir_syntax.specs.declared.items.TypeAlias.{TypeAlias as AstTypeAlias}
use Rattle.hir_syntax.specs.declared.items.WherePred.{WherePred as AstWherePred}
use Rattle.hir_store.specs.Pointers.{Pointer}
use Rattle.hir_store.specs.declared.diagnostics.MissingBodyItemKind.{MissingBodyItemKind}
use Rattle.hir_store.specs.declared.diagnostics.MissingBodyItemKind.TheVariants as missing
use Rattle.hir_store.specs.declared.hir.CoroutineKind.{CoroutineKind}
use Rattle.hir_store.specs.declared.hir.CoroutineKind.TheVariants as coroutine
use Rattle.hir_store.specs.declared.ids.GenericDefId.{GenericDefId}
use Rattle.hir_store.specs.declared.ids.ItemContainerId.{ItemContainerId}
use Rattle.hir_store.specs.declared.ids.ItemContainerId.TheVariants as holder
use Rattle.hir_store.specs.declared.name.Name.TheVariants as name
use Rattle.hir_store.specs.declared.type_ref.LifetimeRef.{LifetimeRef}
use Rattle.hir_store.specs.declared.type_ref.LifetimeRef.TheVariants as lifetime
use Rattle.hir_env.specs.ResolvedTree as tree
use Rattle.hir_env.specs.ResolvedTree.{Binder, Constant, Formals, OptionRet}
use Rattle.hir_env.specs.Answers.{Answers}
use Rattle.hir_env.specs.Paths.{lifetime_ref, mutability}
use Rattle.hir_env.specs.TypeLayers.{PathTypeReading, TypeKindLayer}
use Rattle.hir_env.specs.Whole.{written}
use Rattle.hir_env.specs.Wrapped.{AstConstArg, AstRetType}
use Rattle.hir_env.specs.declared.ctx.ImplTrait.TheVariants as becomes
use Rattle.hir_env.specs.declared.ctx.LifetimeScope.TheVariants as counts
use Rattle.hir_env.specs.declared.ctx.LowerCtx.{LowerCtx}
use Rattle.thm_reading.specs.Formals.{FormalsAs}
use Rattle.thm_reading.specs.LowerCtx.{IsDisabled, IsEnabled, in_constant, lifetime_here, name_text, node, param_node, type_kind, type_node}
use Rattle.thm_reading.specs.Rules.{BoundsAs, OptExprAs, OptPathAs, OptTypeAs}
use Rattle.hir_lower_item.specs.Items as item
use Rattle.hir_lower_item.specs.Items.{Alias, Argument, Function, Generics, Impl, Param, Predicate, Receiver, Trait}
use Rattle.thm_item_reading.specs.LowerCtx.{generic_node, is_path, where_impls}

-- the names of a `for<..>` in a where clause, of which one that a text lacks is missing
pub data ForNamesAs : List (Option AstLifetime) → Binder → Type 0 where
  no_names : ForNamesAs [] []
  lacking_name : {ls ns : _} → ForNamesAs ls ns → ForNamesAs (None ∷ ls) (name.Missing ∷ ns)
  written_name : {l : AstLifetime} {ls ns : _} → ForNamesAs ls ns → ForNamesAs (Some l ∷ ls) (name.Text l.t ∷ ns)

pub data ForAs : Option AstForBinder → Option Binder → Type 0 where
  without_for : ForAs None None
  with_for : {b : AstForBinder} {ns : _} → ForNamesAs b.params ns → ForAs (Some b) (Some ns)

-- what kind of coroutine the body of a function is, which has `async` or `gen` in front of it
pub data CoroutineAs : Bool → Bool → Option CoroutineKind → Type 0 where
  no_coroutine : CoroutineAs false false None
  async_fn : CoroutineAs true false (Some coroutine.Async)
  gen_fn : CoroutineAs false true (Some coroutine.Gen)
  async_gen_fn : CoroutineAs true true (Some coroutine.AsyncGen)

-- An alias without a type is a fault in a module and in an `impl`.
pub data OwesAs : ItemContainerId → Pointer → Option AstType → Option (Pointer × MissingBodyItemKind) → Type 0 where
  has_type : {c s t : _} → OwesAs c s (Some t) None
  owes_in_module : {m s : _} → OwesAs (holder.ModuleId m) s None (Some (s, missing.TypeAlias))
  owes_in_impl : {i s : _} → OwesAs (holder.ImplId i) s None (Some (s, missing.AssocType))
  free_in_extern_block : {b s : _} → OwesAs (holder.ExternBlockId b) s None None
  free_in_trait : {t s : _} → OwesAs (holder.TraitId t) s None None

-- Whether a parameter may only be a plain name or `_`: by what the function stands in, and whether it has a body.
pub data BareAs : ItemContainerId → Bool → Bool → Type 0 where
  bare_in_extern_block : {b has_body : _} → BareAs (holder.ExternBlockId b) has_body true
  bare_without_body : {t : _} → BareAs (holder.TraitId t) false true
  any_with_body : {t : _} → BareAs (holder.TraitId t) true false
  any_in_module : {m has_body : _} → BareAs (holder.ModuleId m) has_body false
  any_in_impl : {i has_body : _} → BareAs (holder.ImplId i) has_body false

module _ (env : Answers) where
  -- parameters

  -- the default of a constant
  pub data DefaultAs : LowerCtx → Option AstConstArg → Option Constant → Type 0 where
    no_default : {p : _} → DefaultAs p None None
    some_default : {p e x : _} → OptExprAs env (in_constant p) e x → DefaultAs p (Some e) (Some (tree.constant x))

  -- A lifetime that is written, by what its text says. Without a name it is no parameter, and its bounds aren't read.
  pub data LifetimeParamAs : LowerCtx → GenericDefId → AstLifetime → List AstTypeBound → LifetimeRef → Param → Type 0 where
    named_lifetime : {p def l bs n xs : _} → BoundsAs env (where_impls (becomes.Argument def) counts.Bound p) bs xs
        → LifetimeParamAs p def l bs (lifetime.Named n)
        (item.lifetime_param n (lifetime_here (where_impls becomes.Error counts.Nowhere p) l) xs)
    static_lifetime : {p def l bs : _} → LifetimeParamAs p def l bs lifetime.Static
        (item.nameless_param (Some (lifetime_here (where_impls becomes.Error counts.Nowhere p) l)))
    placeholder_lifetime : {p def l bs : _} → LifetimeParamAs p def l bs lifetime.Placeholder
        (item.nameless_param (Some (lifetime_here (where_impls becomes.Error counts.Nowhere p) l)))
    broken_lifetime : {p def l bs : _} → LifetimeParamAs p def l bs lifetime.Error
        (item.nameless_param (Some (lifetime_here (where_impls becomes.Error counts.Nowhere p) l)))

  -- one that a condition disables is its node and the condition, and nothing in it is read
  pub data ParamAs : LowerCtx → GenericDefId → AstGenericParam → Param → Type 0 where
    type_param : {p def id range n bs d x xs : _} → IsEnabled env (node p id range)
        → OptTypeAs env (where_impls becomes.Error counts.Nowhere p) d x
        → BoundsAs env (where_impls (becomes.Argument def) counts.Bound p) bs xs
        → ParamAs p def (param.TypeParam id range n bs d) (item.type_param (name_text n) x xs)
    const_param : {p def id range n t d x y : _} → IsEnabled env (node p id range)
        → OptTypeAs env (where_impls becomes.Error counts.Nowhere p) t x
        → DefaultAs (where_impls becomes.Error counts.Nowhere p) d y
        → ParamAs p def (param.ConstParam id range n t d) (item.const_param (name_text n) x y)
    lifetime_param : {p def id range : _} {l : AstLifetime} {bs x : _} → IsEnabled env (node p id range)
        → LifetimeParamAs p def l bs (lifetime_ref l.t) x
        → ParamAs p def (param.LifetimeParam id range (Some l) bs) x
    lacking_lifetime : {p def id range bs : _} → IsEnabled env (node p id range)
        → ParamAs p def (param.LifetimeParam id range None bs) (item.nameless_param None)
    disabled_param : {p def x by : _} → IsDisabled env (generic_node p x) by
        → ParamAs p def x (item.disabled_param (generic_node p x) by)

  pub data ParamsAs : LowerCtx → GenericDefId → List AstGenericParam → List Param → Type 0 where
    no_params : {p def : _} → ParamsAs p def [] []
    more_params : {p def x xs y ys : _} → ParamAs p def x y → ParamsAs p def xs ys → ParamsAs p def (x ∷ xs) (y ∷ ys)

  -- `<..>` behind the name of an item
  pub data ParamListAs : LowerCtx → GenericDefId → Option (List AstGenericParam) → List Param → Type 0 where
    without_params : {p def : _} → ParamListAs p def None []
    with_params : {p def xs ys : _} → ParamsAs p def xs ys → ParamListAs p def (Some xs) ys

  -- where predicates

  -- Its type, its lifetime, `for<..>` and its bounds. The lifetime counts where a type is absent, and `for<..>` where one is there.
  pub data PredicateAs : LowerCtx → GenericDefId → Option AstType → Option AstLifetime → Option AstForBinder → List AstTypeBound
      → Predicate → Type 0 where
    type_predicate : {p def t l b bs y ns xs : _} → OptTypeAs env (where_impls becomes.Error counts.Bound p) (Some t) (tree.some_type y)
        → ForAs b ns → BoundsAs env (where_impls (becomes.Argument def) counts.Bound p) bs xs
        → PredicateAs p def (Some t) l b bs (item.of_type y ns xs)
    lifetime_predicate : {p def l b bs xs : _} → BoundsAs env (where_impls (becomes.Argument def) counts.Bound p) bs xs
        → PredicateAs p def None (Some l) b bs (item.of_lifetime (lifetime_here (where_impls becomes.Error counts.Bound p) l) xs)
    predicate_of_nothing : {p def b bs : _} → PredicateAs p def None None b bs item.of_nothing

  pub data PredicatesAs : LowerCtx → GenericDefId → List AstWherePred → List Predicate → Type 0 where
    no_predicates : {p def : _} → PredicatesAs p def [] []
    more_predicates : {p def : _} {x : AstWherePred} {xs y ys : _} → PredicateAs p def x.ty x.lifetime x.binder x.bounds y
        → PredicatesAs p def xs ys → PredicatesAs p def (x ∷ xs) (y ∷ ys)

  -- what stands behind `where`
  pub data WhereAs : LowerCtx → GenericDefId → Option (List AstWherePred) → List Predicate → Type 0 where
    without_where : {p def : _} → WhereAs p def None []
    with_where : {p def xs ys : _} → PredicatesAs p def xs ys → WhereAs p def (Some xs) ys

  pub data GenericsAs : LowerCtx → GenericDefId → Option (List AstGenericParam) → Option (List AstWherePred) → Generics → Type 0 where
    generics : {p def ps ws xs ys : _} → ParamListAs p def ps xs → WhereAs p def ws ys
        → GenericsAs p def ps ws (record { params = xs; predicates = ys })

  -- functions

  -- `self` that no condition disables: its type, whether `&` and `mut` stand in front of it, and its lifetime. A written type counts alone.
  pub data KeptSelfAs : LowerCtx → Option AstType → Bool → Bool → Option AstLifetime → Receiver → Type 0 where
    typed_self : {p t r m l y : _} → OptTypeAs env p (Some t) (tree.some_type y) → KeptSelfAs p (Some t) r m l (item.typed_receiver y)
    plain_self : {p m l : _} → KeptSelfAs p None false m l (item.self_receiver None (option_map (lifetime_here p) l))
    borrowed_self : {p m l : _} → KeptSelfAs p None true m l (item.self_receiver (Some (mutability m)) (option_map (lifetime_here p) l))

  pub data SelfAs : LowerCtx → GenericDefId → Option AstSelfParam → Receiver → Type 0 where
    no_self : {p def : _} → SelfAs p def None item.no_receiver
    enabled_self : {p def : _} {x : AstSelfParam} {y : _} → IsEnabled env (node p x.id x.range)
        → KeptSelfAs (where_impls (becomes.Argument def) counts.Input p) x.ty x.ref_ x.mut_ x.lifetime y
        → SelfAs p def (Some x) y
    disabled_self : {p def : _} {x : AstSelfParam} {by : _} → IsDisabled env (node p x.id x.range) by
        → SelfAs p def (Some x) (item.disabled_receiver (node p x.id x.range) by)

  -- another parameter that no condition disables: whether it is `...`, and its type, which isn't read of `...`
  pub data KeptArgumentAs : LowerCtx → Bool → Option AstType → Argument → Type 0 where
    variadic_argument : {p t : _} → KeptArgumentAs p true t item.variadic_argument
    typed_argument : {p t x : _} → OptTypeAs env p t x → KeptArgumentAs p false t (item.argument x)

  pub data ArgumentAs : LowerCtx → GenericDefId → AstParam → Argument → Type 0 where
    enabled_argument : {p def x y : _} → IsEnabled env (param_node p x)
        → KeptArgumentAs (where_impls (becomes.Argument def) counts.Input p) (out-Param x).variadic (out-Param x).ty y
        → ArgumentAs p def x y
    disabled_argument : {p def x by : _} → IsDisabled env (param_node p x) by
        → ArgumentAs p def x (item.disabled_argument (param_node p x) by)

  pub data ArgumentsAs : LowerCtx → GenericDefId → List AstParam → List Argument → Type 0 where
    no_arguments : {p def : _} → ArgumentsAs p def [] []
    more_arguments : {p def x xs y ys : _} → ArgumentAs p def x y → ArgumentsAs p def xs ys → ArgumentsAs p def (x ∷ xs) (y ∷ ys)

  -- `(..)` behind its name and its parameters
  pub data InputsAs : LowerCtx → GenericDefId → Option AstParamList → Receiver → List Argument → Type 0 where
    without_list : {p def : _} → InputsAs p def None item.no_receiver []
    with_list : {p def : _} {x : AstParamList} {y ys : _} → SelfAs p def x.self_ y → ArgumentsAs p def x.params ys
        → InputsAs p def (Some x) y ys

  -- what stands behind `->`
  pub data OutputAs : LowerCtx → Option AstRetType → OptionRet → Type 0 where
    no_output : {p : _} → OutputAs p None tree.no_ret
    some_output : {p t x : _} → OptTypeAs env p t x → OutputAs p (Some t) (tree.some_ret x)

  pub data FunctionAs : LowerCtx → GenericDefId → AstFn → Function → Type 0 where
    function : {p def : _} {x : AstFn} {g y ys r k : _} → GenericsAs p def x.generics x.where_ g → InputsAs p def x.params y ys
        → OutputAs (where_impls becomes.Opaque counts.Output p) x.ret r → CoroutineAs x.async_ x.gen_ k
        → FunctionAs p def x (record { generics = g; receiver = y; arguments = ys; ret = r; kind = k })

  -- the parameters of a body
  pub data BodyParamsAs : LowerCtx → ItemContainerId → Bool → Option AstParamList → Formals → Type 0 where
    body_params : {p c has_body bare x y : _} → BareAs c has_body bare → FormalsAs env p bare x y → BodyParamsAs p c has_body x y

  -- other items

  -- the trait of an `impl`: its node and its path, where it is written as a path, and else none
  pub data TraitKindAs : LowerCtx → Pointer → TypeKindLayer written → Option PathTypeReading → Type 0 where
    trait_path : {p s x y : _} → OptPathAs env p x y → TraitKindAs p s (TypeKind-F.PathType x) (Some (record { pointer = s; path = y }))
    other_trait : {p s k : _} → is_path k ≡ false → TraitKindAs p s k None

  pub data TraitRefAs : LowerCtx → Option AstType → Option PathTypeReading → Type 0 where
    no_trait : {p : _} → TraitRefAs p None None
    some_trait : {p t y : _} → TraitKindAs p (type_node p t) (type_kind t) y → TraitRefAs p (Some t) y

  pub data ImplAs : LowerCtx → GenericDefId → AstImpl → Impl → Type 0 where
    implementation : {p def : _} {x : AstImpl} {t y g : _} → OptTypeAs env (where_impls becomes.Error counts.Nowhere p) x.self_ty t
        → TraitRefAs (where_impls becomes.Opaque counts.Nowhere p) x.trait_ y → GenericsAs p def x.generics x.where_ g
        → ImplAs p def x (record { self_type = t; trait_ = y; generics = g })

  -- a trait, with the bounds of its `Self`
  pub data TraitAs : LowerCtx → GenericDefId → AstTrait → Trait → Type 0 where
    trait_item : {p def : _} {x : AstTrait} {bs g : _} → BoundsAs env (where_impls (becomes.Argument def) counts.Nowhere p) x.bounds bs
        → GenericsAs p def x.generics x.where_ g → TraitAs p def x (record { bounds = bs; generics = g })

  pub data AliasAs : LowerCtx → GenericDefId → ItemContainerId → AstTypeAlias → Alias → Type 0 where
    type_alias : {p def c : _} {x : AstTypeAlias} {bs g t m : _} → BoundsAs env (where_impls becomes.Opaque counts.Nowhere p) x.bounds bs
        → GenericsAs p def x.generics x.where_ g → OptTypeAs env (where_impls becomes.Opaque counts.Nowhere p) x.ty t
        → OwesAs c (node p x.id x.range) x.ty m
        → AliasAs p def c x (record { bounds = bs; generics = g; type_ = t; missing = m })
