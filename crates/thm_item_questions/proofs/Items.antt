-- An item is framed by the lists of its parts.
use Rattle.std.proofs.Common.{◌≡◌, Bool, true, false, List, [], ◌∷◌, ◌++◌, Option, Some, None, option_map, Result, Ok, Err}
use Rattle.hir_base.specs.declared.node.NodeId.{NodeId}
use Rattle.hir_syntax.specs.declared.ast.ElseBranch.TheOpen.{TypeKind-F}
use Rattle.hir_syntax.specs.declared.ast.Lifetime.{Lifetime as AstLifetime}
use Rattle.hir_syntax.specs.declared.params.ParamList.{ParamList as AstParamList}
use Rattle.hir_syntax.specs.declared.params.SelfParam.{SelfParam as AstSelfParam}
use Rattle.hir_syntax.specs.declared.types.ForBinder.{ForBinder as AstForBinder}
use Rattle.hir_syntax.specs.declared.types.Param.{Param as AstParam, out-Param}
use Rattle.hir_syntax.specs.declared.types.TypeBound.{TypeBound as AstTypeBound}
use Rattle.hir_syntax.specs.declared.types.TypeKind.{out-TypeKind}
use Rattle.hir_syntax.specs.declared.types.Type_.{Type_ as AstType}
use Rattle.hir_syntax.specs.declared.items.Fn.{Fn as AstFn}
use Rattle.hir_syntax.specs.declared.items.GenericParam.{GenericParam as AstGenericParam}
use Rattle.hir_syntax.specs.declared.items.GenericParam.TheVariants as param
use Rattle.hir_syntax.specs.declared.items.Impl.{Impl as AstImpl}
use Rattle.hir_syntax.specs.declared.items.Trait.{Trait as AstTrait}
use Rattle.hir_syntax.specs.declared.items.TypeAlias.{TypeAlias as AstTypeAlias}
use Rattle.hir_syntax.specs.declared.items.WherePred.{WherePred as AstWherePred}
use Rattle.hir_store.specs.Pointers.{Pointer}
use Rattle.hir_store.specs.declared.ids.CfgId.{CfgId}
use Rattle.hir_store.specs.declared.ids.GenericDefId.{GenericDefId}
use Rattle.hir_store.specs.declared.ids.ItemContainerId.{ItemContainerId}
use Rattle.hir_store.specs.declared.type_ref.LifetimeRef.{LifetimeRef}
use Rattle.hir_store.specs.declared.type_ref.LifetimeRef.TheVariants as lifetime
use Rattle.hir_env.specs.ResolvedTree.{Lifetime}
use Rattle.hir_env.specs.Answering.{coroutine_kind, name_or_missing}
use Rattle.hir_env.specs.Answers.{Answers}
use Rattle.hir_env.specs.NodeMap.{Site}
use Rattle.hir_env.specs.Paths.{lifetime_of}
use Rattle.hir_env.specs.ResolveCtx.{in_file, ptr}
use Rattle.hir_env.specs.TypeLayers.{TypeKindLayer}
use Rattle.hir_env.specs.Whole.{bounds_part, written}
use Rattle.hir_env.specs.declared.ctx.LowerCtx.{LowerCtx}
use Rattle.thm_frame.specs.Theorems.{with_limit, rctx}
use Rattle.thm_frame.specs.Questions as question
use Rattle.thm_frame.specs.Questions.{Question}
use Rattle.thm_questions.specs.Areas.{NodeArea}
use Rattle.thm_questions.specs.Asked.{own_site}
use Rattle.thm_questions.specs.Parts.{of_each, of_option}
use Rattle.thm_questions.proofs.Asks.{cfg_asked}
use Rattle.thm_questions.proofs.Framing.{At, ask, four, go_on, none, one, still, three, two}
use Rattle.thm_questions.proofs.Tree.{below, of_type}
use Rattle.hir_lower_item.specs.Answering as of
use Rattle.hir_lower_item.specs.Items as item
use Rattle.thm_item_frame.specs.Theorems.{alias_at, function_at, generics_at, impl_at, in_container, trait_at}
use Rattle.thm_item_questions.specs.Lists as list
use Rattle.thm_item_questions.specs.Nodes as node
use Rattle.thm_item_questions.proofs.Parts.{bounds_by, default_by, each_by, path_by, ret_by, type_by}

-- Behind a condition: where that disables, what is made asks nothing else.
abbrev Behind : {X : Type 0} {a : Answers} → NodeArea a → LowerCtx → List NodeId → (Result (Unit {0}) CfgId → Answers → X)
    → List Question → Type 0
Behind {a = a} area p ns made qs = (c : Result (Unit {0}) CfgId) → At area p ns (made c) (list.where_enabled c qs)

module _ (a : Answers) (area : NodeArea a) where
  behind_cfg : {X : Type 0} (p : LowerCtx) (id : NodeId) (ns : List NodeId) (made : Result (Unit {0}) CfgId → Answers → X)
      (qs : List Question) → Behind area p ns made qs
      → At area p (id ∷ ns) (λ b. made (b.cfg (own_site p id)) b) (list.behind_cfg a (own_site p id) qs)
  behind_cfg p id ns made qs h = go_on (λ b c. made c b) (cfg_asked a area id) (h (a.cfg (own_site p id)))

  -- what is generic

  named_by : (p : LowerCtx) (def : GenericDefId) (r : LifetimeRef) (l : Lifetime) (bs : List AstTypeBound)
      → At area p (node.bounds_nodes bs) (λ b. of.named_param r l (bounds_part (rctx (of.in_bounds def p) b) bs))
      (list.where_named r (list.bounds_in (rctx (of.in_bounds def p) a) bs))
  named_by p def (lifetime.Named n) l bs = one (item.lifetime_param n l) (bounds_by a area (of.in_bounds def p) bs)
  named_by p def lifetime.Static l bs = none (item.nameless_param (Some l))
  named_by p def lifetime.Placeholder l bs = none (item.nameless_param (Some l))
  named_by p def lifetime.Error l bs = none (item.nameless_param (Some l))

  lifetime_by : (p : LowerCtx) (def : GenericDefId) (l : Option Lifetime) (bs : List AstTypeBound)
      → At area p (node.bounds_nodes bs) (λ b. of.lifetime_param_of l (bounds_part (rctx (of.in_bounds def p) b) bs))
      (list.where_parameter l (list.bounds_in (rctx (of.in_bounds def p) a) bs))
  lifetime_by p def None bs = none (item.nameless_param None)
  lifetime_by p def (Some l) bs = named_by p def l.lifetime l bs

  kept_by : (p : LowerCtx) (def : GenericDefId) (x : AstGenericParam)
      → At area p (node.in_param x) (λ b. of.kept_param (rctx p b) def x) (list.kept_param_in (rctx p a) def x)
  kept_by p def (param.TypeParam id range n bs d) = two (item.type_param (name_or_missing n)) (type_by a area (of.in_plain p) d)
      (bounds_by a area (of.in_bounds def p) bs)
  kept_by p def (param.ConstParam id range n t d) = two (item.const_param (name_or_missing n)) (type_by a area (of.in_plain p) t)
      (default_by a area (of.in_plain p) d)
  kept_by p def (param.LifetimeParam id range l bs) = lifetime_by p def (option_map (lifetime_of (of.in_plain p)) l) bs

  param_by_cfg : (p : LowerCtx) (def : GenericDefId) (x : AstGenericParam) (s : Pointer)
      → Behind area p (node.in_param x) (λ c b. of.asked_param s c (of.kept_param (rctx p b) def x)) (list.kept_param_in (rctx p a) def x)
  param_by_cfg p def x s (Ok u) = kept_by p def x
  param_by_cfg p def x s (Err by) = none (item.disabled_param s by)

  param_by : (p : LowerCtx) (def : GenericDefId) (x : AstGenericParam)
      → At area p (node.param_nodes x) (λ b. of.resolved_param (rctx p b) def x) (list.param_in (rctx p a) def x)
  param_by p def (param.TypeParam id range n bs d) = let x = param.TypeParam id range n bs d in
      behind_cfg p id (node.in_param x) _ _ (param_by_cfg p def x (in_file p (ptr id range)))
  param_by p def (param.ConstParam id range n t d) = let x = param.ConstParam id range n t d in
      behind_cfg p id (node.in_param x) _ _ (param_by_cfg p def x (in_file p (ptr id range)))
  param_by p def (param.LifetimeParam id range l bs) = let x = param.LifetimeParam id range l bs in
      behind_cfg p id (node.in_param x) _ _ (param_by_cfg p def x (in_file p (ptr id range)))

  params_by : (p : LowerCtx) (def : GenericDefId) (xs : Option (List AstGenericParam))
      → At area p (of_option (of_each node.param_nodes) xs) (λ b. of.list_part (rctx p b) def xs)
      (of_option (of_each (list.param_in (rctx p a) def)) xs)
  params_by p def None = still []
  params_by p def (Some xs) =
      each_by a area p (λ b x. of.resolved_param (rctx p b) def x) node.param_nodes (list.param_in (rctx p a) def) (param_by p def) xs

  predicate_of_by : (p : LowerCtx) (def : GenericDefId) (t : Option AstType) (l : Option AstLifetime) (binder : Option AstForBinder)
      (bs : List AstTypeBound)
      → At area p (node.types_nodes t ++ node.bounds_nodes bs) (λ b. of.predicate_of (rctx p b) def t l binder bs)
      (list.predicate_of_in (rctx p a) def t l bs)
  predicate_of_by p def (Some t) l binder bs = two (λ t bs. item.of_type t (option_map of.where_binder binder) bs)
      (of_type a area p.left (below a area p.left) t (of.in_target p)) (bounds_by a area (of.in_bounds def p) bs)
  predicate_of_by p def None (Some l) binder bs =
      one (item.of_lifetime (lifetime_of (of.in_target p) l)) (bounds_by a area (of.in_bounds def p) bs)
  predicate_of_by p def None None binder bs = none item.of_nothing

  predicates_by : (p : LowerCtx) (def : GenericDefId) (xs : Option (List AstWherePred))
      → At area p (of_option (of_each node.predicate_nodes) xs) (λ b. of.where_part (rctx p b) def xs)
      (of_option (of_each (list.predicate_in (rctx p a) def)) xs)
  predicates_by p def None = still []
  predicates_by p def (Some xs) = each_by a area p (λ b x. of.resolved_predicate (rctx p b) def x) node.predicate_nodes
      (list.predicate_in (rctx p a) def) (λ x. predicate_of_by p def x.ty x.lifetime x.binder x.bounds) xs

  generics_by : (p : LowerCtx) (def : GenericDefId) (ps : Option (List AstGenericParam)) (ws : Option (List AstWherePred))
      → At area p (node.generics_nodes ps ws) (λ b. of.resolved_generics (rctx p b) def ps ws) (list.generics_in (rctx p a) def ps ws)
  generics_by p def ps ws = two (λ xs ys. record { params = xs; predicates = ys }) (params_by p def ps) (predicates_by p def ws)

  -- functions

  receiver_of_by : (p : LowerCtx) (t : Option AstType) (is_ref is_mut : Bool) (l : Option AstLifetime)
      → At area p (node.types_nodes t) (λ b. of.receiver_of (rctx p b) t is_ref is_mut l) (list.types_in (rctx p a) t)
  receiver_of_by p (Some t) is_ref is_mut l = one item.typed_receiver (of_type a area p.left (below a area p.left) t p)
  receiver_of_by p None is_ref is_mut l = still _

  receiver_by_cfg : (p : LowerCtx) (def : GenericDefId) (x : AstSelfParam) (s : Pointer)
      → Behind area p (node.types_nodes x.ty)
      (λ c b. of.asked_receiver s c (of.receiver_of (rctx (of.in_arguments def p) b) x.ty x.ref_ x.mut_ x.lifetime))
      (list.types_in (rctx (of.in_arguments def p) a) x.ty)
  receiver_by_cfg p def x s (Ok u) = receiver_of_by (of.in_arguments def p) x.ty x.ref_ x.mut_ x.lifetime
  receiver_by_cfg p def x s (Err by) = none (item.disabled_receiver s by)

  self_by : (p : LowerCtx) (def : GenericDefId) (x : Option AstSelfParam)
      → At area p (of_option node.receiver_nodes x) (λ b. of.resolved_receiver (rctx p b) def x)
      (of_option (list.receiver_in (rctx p a) def) x)
  self_by p def None = still item.no_receiver
  self_by p def (Some x) = behind_cfg p x.id (node.types_nodes x.ty) _ _ (receiver_by_cfg p def x (in_file p (ptr x.id x.range)))

  receiver_by : (p : LowerCtx) (def : GenericDefId) (x : Option AstParamList)
      → At area p (node.receivers_nodes x) (λ b. of.receiver_part (rctx p b) def x) (list.receivers_in (rctx p a) def x)
  receiver_by p def None = still item.no_receiver
  receiver_by p def (Some x) = self_by p def x.self_

  argument_of_by : (p : LowerCtx) (is_variadic : Bool) (t : Option AstType)
      → At area p (node.types_nodes t) (λ b. of.argument_of (rctx p b) is_variadic t) (list.argument_of_in (rctx p a) is_variadic t)
  argument_of_by p true t = none item.variadic_argument
  argument_of_by p false t = one item.argument (type_by a area p t)

  argument_by_cfg : (p : LowerCtx) (def : GenericDefId) (is_variadic : Bool) (t : Option AstType) (s : Pointer)
      → Behind area p (node.types_nodes t)
      (λ c b. of.asked_argument s c (of.argument_of (rctx (of.in_arguments def p) b) is_variadic t))
      (list.argument_of_in (rctx (of.in_arguments def p) a) is_variadic t)
  argument_by_cfg p def is_variadic t s (Ok u) = argument_of_by (of.in_arguments def p) is_variadic t
  argument_by_cfg p def is_variadic t s (Err by) = none (item.disabled_argument s by)

  argument_by : (p : LowerCtx) (def : GenericDefId) (x : AstParam)
      → At area p (node.argument_nodes x) (λ b. of.resolved_argument (rctx p b) def x) (list.argument_in (rctx p a) def x)
  argument_by p def x = let level = out-Param x in behind_cfg p level.id (node.types_nodes level.ty) _ _
      (argument_by_cfg p def level.variadic level.ty (in_file p (ptr level.id level.range)))

  arguments_by : (p : LowerCtx) (def : GenericDefId) (x : Option AstParamList)
      → At area p (node.arguments_nodes x) (λ b. of.arguments_part (rctx p b) def x) (list.arguments_in (rctx p a) def x)
  arguments_by p def None = still []
  arguments_by p def (Some x) = each_by a area p (λ b x. of.resolved_argument (rctx p b) def x) node.argument_nodes
      (list.argument_in (rctx p a) def) (argument_by p def) x.params

  -- items

  function_by : (p : LowerCtx) (def : GenericDefId) (x : AstFn)
      → At area p (node.function_nodes x) (λ b. of.resolved_function (rctx p b) def x) (list.function_in (rctx p a) def x)
  function_by p def x =
      four (λ g s xs r. record { generics = g; receiver = s; arguments = xs; ret = r; kind = coroutine_kind x.async_ x.gen_ })
      (generics_by p def x.generics x.where_) (receiver_by p def x.params) (arguments_by p def x.params)
      (ret_by a area (of.in_output p) x.ret)

  trait_kind_by : (p : LowerCtx) (s : Pointer) (k : TypeKindLayer written)
      → At area p (node.trait_by_nodes k) (λ b. of.trait_by (rctx p b) s k) (list.trait_by_in (rctx p a) k)
  trait_kind_by p s (TypeKind-F.PathType x) = one (λ x. Some (record { pointer = s; path = x })) (path_by a area p x)
  trait_kind_by p s _ = still None

  trait_of_by : (p : LowerCtx) (t : Option AstType)
      → At area p (node.trait_of_nodes t) (λ b. of.trait_of (rctx p b) t) (list.trait_of_in (rctx p a) t)
  trait_of_by p None = still None
  trait_of_by p (Some t) = trait_kind_by p (in_file p (ptr t.id t.range)) (out-TypeKind t.kind)

  impl_by : (p : LowerCtx) (def : GenericDefId) (x : AstImpl)
      → At area p (node.impl_nodes x) (λ b. of.resolved_impl (rctx p b) def x) (list.impl_in (rctx p a) def x)
  impl_by p def x = three (λ t u g. record { self_type = t; trait_ = u; generics = g }) (type_by a area (of.in_plain p) x.self_ty)
      (trait_of_by (of.in_opaque p) x.trait_) (generics_by p def x.generics x.where_)

  trait_by : (p : LowerCtx) (def : GenericDefId) (x : AstTrait)
      → At area p (node.trait_nodes x) (λ b. of.resolved_trait (rctx p b) def x) (list.trait_in (rctx p a) def x)
  trait_by p def x = two (λ bs g. record { bounds = bs; generics = g }) (bounds_by a area (of.in_self_bounds def p) x.bounds)
      (generics_by p def x.generics x.where_)

  alias_by : (p : LowerCtx) (def : GenericDefId) (container : ItemContainerId) (x : AstTypeAlias)
      → At area p (node.alias_nodes x) (λ b. of.resolved_alias (rctx p b) def container x) (list.alias_in (rctx p a) def x)
  alias_by p def container x = three
      (λ bs g t. record {
        bounds = bs;
        generics = g;
        type_ = t;
        missing = of.missing_type (in_file p (ptr x.id x.range)) x.ty (of.required_type container);
      })
      (bounds_by a area (of.in_opaque p) x.bounds) (generics_by p def x.generics x.where_) (type_by a area (of.in_opaque p) x.ty)

  -- where as many calls may be entered as the environment says

  limit_asked : (p : LowerCtx) → At area p [] (λ b. b.expansion_limit) (question.of_expansion_limit ∷ [])
  limit_asked p = ask [] (λ b. b.expansion_limit) question.of_expansion_limit (λ i h. tt) (λ b h. h.0)

  pub generics_at_by : (p : LowerCtx) (def : GenericDefId) (ps : Option (List AstGenericParam)) (ws : Option (List AstWherePred))
      → At area p (node.generics_nodes ps ws) (λ b. generics_at b p def ps ws) (list.generics_questions a p def ps ws)
  generics_at_by p def ps ws = go_on (λ b n. of.resolved_generics (rctx (record p { left = n }) b) def ps ws) (limit_asked p)
      (generics_by (with_limit p a) def ps ws)

  pub function_at_by : (p : LowerCtx) (def : GenericDefId) (x : AstFn)
      → At area p (node.function_nodes x) (λ b. function_at b p def x) (list.function_questions a p def x)
  function_at_by p def x =
      go_on (λ b n. of.resolved_function (rctx (record p { left = n }) b) def x) (limit_asked p) (function_by (with_limit p a) def x)

  pub impl_at_by : (p : LowerCtx) (def : GenericDefId) (x : AstImpl)
      → At area p (node.impl_nodes x) (λ b. impl_at b p def x) (list.impl_questions a p def x)
  impl_at_by p def x =
      go_on (λ b n. of.resolved_impl (rctx (record p { left = n }) b) def x) (limit_asked p) (impl_by (with_limit p a) def x)

  pub trait_at_by : (p : LowerCtx) (def : GenericDefId) (x : AstTrait)
      → At area p (node.trait_nodes x) (λ b. trait_at b p def x) (list.trait_questions a p def x)
  trait_at_by p def x =
      go_on (λ b n. of.resolved_trait (rctx (record p { left = n }) b) def x) (limit_asked p) (trait_by (with_limit p a) def x)

  pub alias_at_by : (p : LowerCtx) (def : GenericDefId) (container : ItemContainerId) (x : AstTypeAlias)
      → At area (in_container a container p) (node.alias_nodes x) (λ b. alias_at b p def container x)
      (list.alias_questions a p def container x)
  alias_at_by p def container x =
      go_on (λ b n. of.resolved_alias (rctx (record p { left = n; module_id = b.module_of container }) b) def container x)
      (limit_asked (in_container a container p))
      (go_on (λ b m. of.resolved_alias (rctx (record p { left = a.expansion_limit; module_id = m }) b) def container x)
      (ask [] (λ b. b.module_of container) (question.of_module container) (λ i h. tt) (λ b h. h.0))
      (alias_by (in_container a container (with_limit p a)) def container x))

-- of what is disabled

pub behind_disabled : (a : Answers) (s : Site) (qs : List Question) (by : CfgId) → a.cfg s ≡ Err by
    → list.behind_cfg a s qs ≡ question.of_cfg s ∷ []
behind_disabled a s qs by h = λ i. question.of_cfg s ∷ list.where_enabled (h i) qs
