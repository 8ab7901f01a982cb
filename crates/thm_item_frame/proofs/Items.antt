-- An item is framed where its parts are.
use Rattle.std.proofs.Common.{Bool, true, false, List, Option, Some, None, option_map}
use Rattle.hir_syntax.specs.declared.ast.ElseBranch.TheOpen.{TypeKind-F}
use Rattle.hir_syntax.specs.declared.ast.Lifetime.{Lifetime as AstLifetime}
use Rattle.hir_syntax.specs.declared.params.ParamList.{ParamList as AstParamList}
use Rattle.hir_syntax.specs.declared.params.SelfParam.{SelfParam as AstSelfParam}
use Rattle.hir_syntax.specs.declared.types.ForBinder.{ForBinder as AstForBinder}
use Rattle.hir_syntax.specs.declared.types.Param.{Param as AstParam, out-Param}
use Rattle.hir_syntax.specs.declared.types.TypeBound.{TypeBound as AstTypeBound}
use Rattle.hir_syntax.specs.declared.types.TypeKind.{out-TypeKind}
use Rattle.hir_syntax.specs.declared.types.Type_.{Type_ as AstType}
use Rattle.hir_syntax.specs.declared.items.Fn.{Fn as AstFn}
use Rattle.hir_syntax.specs.declared.items.GenericParam.{GenericParam as AstGenericParam}
use Rattle.hir_syntax.specs.declared.items.GenericParam.TheVariants as param
use Rattle.hir_syntax.specs.declared.items.Impl.{Impl as AstImpl}
use Rattle.hir_syntax.specs.declared.items.Trait.{Trait as AstTrait}
use Rattle.hir_syntax.specs.declared.items.TypeAlias.{TypeAlias as AstTypeAlias}
use Rattle.hir_syntax.specs.declared.items.WherePred.{WherePred as AstWherePred}
use Rattle.hir_store.specs.Pointers.{Pointer}
use Rattle.hir_store.specs.declared.ids.GenericDefId.{GenericDefId}
use Rattle.hir_store.specs.declared.ids.ItemContainerId.{ItemContainerId}
use Rattle.hir_env.specs.Answering.{coroutine_kind, name_or_missing}
use Rattle.hir_env.specs.Answers.{Answers}
use Rattle.hir_env.specs.Paths.{lifetime_of}
use Rattle.hir_env.specs.ResolveCtx.{in_file, ptr, site_of}
use Rattle.hir_env.specs.TypeLayers.{TypeKindLayer}
use Rattle.hir_env.specs.Whole.{written}
use Rattle.hir_env.specs.declared.ctx.LowerCtx.{LowerCtx}
use Rattle.thm_frame.specs.Theorems.{with_limit, rctx}
use Rattle.thm_frame.specs.Questions.{Area, Framed, Here}
use Rattle.thm_frame.specs.Questions as question
use Rattle.thm_frame.proofs.Asks.{cfg_asked}
use Rattle.thm_frame.proofs.Bodies.{limit_asked}
use Rattle.thm_frame.proofs.Framing.{ask, go_on, one, still, two, three, four}
use Rattle.thm_frame.proofs.Tree.{below, of_type}
use Rattle.hir_lower_item.specs.Answering as of
use Rattle.hir_lower_item.specs.Items as item
use Rattle.thm_item_frame.proofs.Parts.{bounds_framed, default_framed, each_framed, path_framed, ret_framed, type_framed}
use Rattle.thm_item_frame.specs.Theorems.{alias_at, function_at, generics_at, impl_at, in_container, trait_at}

module _ (a : Answers) (area : Area a) where
  -- what is generic

  kept_framed : (p : LowerCtx) (w : Here area p) (def : GenericDefId) (x : AstGenericParam)
      → Framed area (λ b. of.kept_param (rctx p b) def x) a
  kept_framed p w def (param.TypeParam id range n bs d) = two (item.type_param (name_or_missing n))
      (type_framed a area (of.in_plain p) w d) (bounds_framed a area (of.in_bounds def p) w bs)
  kept_framed p w def (param.ConstParam id range n t d) = two (item.const_param (name_or_missing n))
      (type_framed a area (of.in_plain p) w t) (default_framed a area (of.in_plain p) w d)
  kept_framed p w def (param.LifetimeParam id range l bs) =
      one (of.lifetime_param_of (option_map (lifetime_of (of.in_plain p)) l)) (bounds_framed a area (of.in_bounds def p) w bs)

  asked_framed : (p : LowerCtx) (w : Here area p) (x : AstGenericParam)
      → Framed area (λ b. b.cfg (site_of (of.param_pointer p x))) a
  asked_framed p w (param.TypeParam id range n bs d) = cfg_asked a area (site_of (in_file p (ptr id range))) w.0
  asked_framed p w (param.ConstParam id range n t d) = cfg_asked a area (site_of (in_file p (ptr id range))) w.0
  asked_framed p w (param.LifetimeParam id range l bs) = cfg_asked a area (site_of (in_file p (ptr id range))) w.0

  param_framed : (p : LowerCtx) (w : Here area p) (def : GenericDefId) (x : AstGenericParam)
      → Framed area (λ b. of.resolved_param (rctx p b) def x) a
  param_framed p w def x = two (of.asked_param (of.param_pointer p x)) (asked_framed p w x) (kept_framed p w def x)

  list_framed : (p : LowerCtx) (w : Here area p) (def : GenericDefId) (xs : Option (List AstGenericParam))
      → Framed area (λ b. of.list_part (rctx p b) def xs) a
  list_framed p w def None = still _
  list_framed p w def (Some xs) = each_framed a area (λ b x. of.resolved_param (rctx p b) def x) (param_framed p w def) xs

  predicate_of_framed : (p : LowerCtx) (w : Here area p) (def : GenericDefId) (t : Option AstType) (l : Option AstLifetime)
      (binder : Option AstForBinder) (bs : List AstTypeBound) → Framed area (λ b. of.predicate_of (rctx p b) def t l binder bs) a
  predicate_of_framed p w def (Some t) l binder bs = two (λ t bs. item.of_type t (option_map of.where_binder binder) bs)
      (of_type a area p.left (below a area p.left) t (of.in_target p) w) (bounds_framed a area (of.in_bounds def p) w bs)
  predicate_of_framed p w def None (Some l) binder bs =
      one (item.of_lifetime (lifetime_of (of.in_target p) l)) (bounds_framed a area (of.in_bounds def p) w bs)
  predicate_of_framed p w def None None binder bs = still item.of_nothing

  where_framed : (p : LowerCtx) (w : Here area p) (def : GenericDefId) (xs : Option (List AstWherePred))
      → Framed area (λ b. of.where_part (rctx p b) def xs) a
  where_framed p w def None = still _
  where_framed p w def (Some xs) = each_framed a area (λ b x. of.resolved_predicate (rctx p b) def x)
      (λ x. predicate_of_framed p w def x.ty x.lifetime x.binder x.bounds) xs

  generics_framed : (p : LowerCtx) (w : Here area p) (def : GenericDefId) (ps : Option (List AstGenericParam))
      (ws : Option (List AstWherePred)) → Framed area (λ b. of.resolved_generics (rctx p b) def ps ws) a
  generics_framed p w def ps ws =
      two (λ xs ys. record { params = xs; predicates = ys }) (list_framed p w def ps) (where_framed p w def ws)

  -- functions

  receiver_of_framed : (p : LowerCtx) (w : Here area p) (t : Option AstType) (is_ref is_mut : Bool) (l : Option AstLifetime)
      → Framed area (λ b. of.receiver_of (rctx p b) t is_ref is_mut l) a
  receiver_of_framed p w (Some t) is_ref is_mut l = one item.typed_receiver (of_type a area p.left (below a area p.left) t p w)
  receiver_of_framed p w None is_ref is_mut l = still _

  self_framed : (p : LowerCtx) (w : Here area p) (def : GenericDefId) (x : Option AstSelfParam)
      → Framed area (λ b. of.resolved_receiver (rctx p b) def x) a
  self_framed p w def None = still item.no_receiver
  self_framed p w def (Some x) = let s = in_file p (ptr x.id x.range) in
      two (of.asked_receiver s) (cfg_asked a area (site_of s) w.0)
      (receiver_of_framed (of.in_arguments def p) w x.ty x.ref_ x.mut_ x.lifetime)

  receiver_framed : (p : LowerCtx) (w : Here area p) (def : GenericDefId) (x : Option AstParamList)
      → Framed area (λ b. of.receiver_part (rctx p b) def x) a
  receiver_framed p w def None = still item.no_receiver
  receiver_framed p w def (Some x) = self_framed p w def x.self_

  argument_of_framed : (p : LowerCtx) (w : Here area p) (is_variadic : Bool) (t : Option AstType)
      → Framed area (λ b. of.argument_of (rctx p b) is_variadic t) a
  argument_of_framed p w true t = still item.variadic_argument
  argument_of_framed p w false t = one item.argument (type_framed a area p w t)

  argument_framed : (p : LowerCtx) (w : Here area p) (def : GenericDefId) (x : AstParam)
      → Framed area (λ b. of.resolved_argument (rctx p b) def x) a
  argument_framed p w def x = let level = out-Param x in let s = in_file p (ptr level.id level.range) in
      two (of.asked_argument s) (cfg_asked a area (site_of s) w.0)
      (argument_of_framed (of.in_arguments def p) w level.variadic level.ty)

  arguments_framed : (p : LowerCtx) (w : Here area p) (def : GenericDefId) (x : Option AstParamList)
      → Framed area (λ b. of.arguments_part (rctx p b) def x) a
  arguments_framed p w def None = still _
  arguments_framed p w def (Some x) = each_framed a area (λ b x. of.resolved_argument (rctx p b) def x) (argument_framed p w def) x.params

  -- items

  fn_framed : (p : LowerCtx) (w : Here area p) (def : GenericDefId) (x : AstFn)
      → Framed area (λ b. of.resolved_function (rctx p b) def x) a
  fn_framed p w def x =
      four (λ g s xs r. record { generics = g; receiver = s; arguments = xs; ret = r; kind = coroutine_kind x.async_ x.gen_ })
      (generics_framed p w def x.generics x.where_) (receiver_framed p w def x.params) (arguments_framed p w def x.params)
      (ret_framed a area (of.in_output p) w x.ret)

  trait_by_framed : (p : LowerCtx) (w : Here area p) (s : Pointer) (k : TypeKindLayer written)
      → Framed area (λ b. of.trait_by (rctx p b) s k) a
  trait_by_framed p w s (TypeKind-F.PathType x) = one (λ x. Some (record { pointer = s; path = x })) (path_framed a area p w x)
  trait_by_framed p w s _ = still None

  trait_of_framed : (p : LowerCtx) (w : Here area p) (t : Option AstType) → Framed area (λ b. of.trait_of (rctx p b) t) a
  trait_of_framed p w None = still None
  trait_of_framed p w (Some t) = trait_by_framed p w (in_file p (ptr t.id t.range)) (out-TypeKind t.kind)

  implementation_framed : (p : LowerCtx) (w : Here area p) (def : GenericDefId) (x : AstImpl)
      → Framed area (λ b. of.resolved_impl (rctx p b) def x) a
  implementation_framed p w def x = three (λ t u g. record { self_type = t; trait_ = u; generics = g })
      (type_framed a area (of.in_plain p) w x.self_ty) (trait_of_framed (of.in_opaque p) w x.trait_)
      (generics_framed p w def x.generics x.where_)

  declared_framed : (p : LowerCtx) (w : Here area p) (def : GenericDefId) (x : AstTrait)
      → Framed area (λ b. of.resolved_trait (rctx p b) def x) a
  declared_framed p w def x = two (λ bs g. record { bounds = bs; generics = g })
      (bounds_framed a area (of.in_self_bounds def p) w x.bounds) (generics_framed p w def x.generics x.where_)

  type_alias_framed : (p : LowerCtx) (w : Here area p) (def : GenericDefId) (container : ItemContainerId) (x : AstTypeAlias)
      → Framed area (λ b. of.resolved_alias (rctx p b) def container x) a
  type_alias_framed p w def container x = three
      (λ bs g t. record {
        bounds = bs;
        generics = g;
        type_ = t;
        missing = of.missing_type (in_file p (ptr x.id x.range)) x.ty (of.required_type container);
      })
      (bounds_framed a area (of.in_opaque p) w x.bounds) (generics_framed p w def x.generics x.where_)
      (type_framed a area (of.in_opaque p) w x.ty)

  -- where as many calls may be entered as the environment says

  pub generics_at_framed : (p : LowerCtx) (w : Here area p) (def : GenericDefId) (ps : Option (List AstGenericParam))
      (ws : Option (List AstWherePred)) → Framed area (λ b. generics_at b p def ps ws) a
  generics_at_framed p w def ps ws = go_on (λ b n. of.resolved_generics (rctx (record p { left = n }) b) def ps ws)
      (limit_asked a area) (generics_framed (with_limit p a) w def ps ws)

  pub function_at_framed : (p : LowerCtx) (w : Here area p) (def : GenericDefId) (x : AstFn) → Framed area (λ b. function_at b p def x) a
  function_at_framed p w def x = go_on (λ b n. of.resolved_function (rctx (record p { left = n }) b) def x)
      (limit_asked a area) (fn_framed (with_limit p a) w def x)

  pub impl_at_framed : (p : LowerCtx) (w : Here area p) (def : GenericDefId) (x : AstImpl) → Framed area (λ b. impl_at b p def x) a
  impl_at_framed p w def x = go_on (λ b n. of.resolved_impl (rctx (record p { left = n }) b) def x)
      (limit_asked a area) (implementation_framed (with_limit p a) w def x)

  pub trait_at_framed : (p : LowerCtx) (w : Here area p) (def : GenericDefId) (x : AstTrait) → Framed area (λ b. trait_at b p def x) a
  trait_at_framed p w def x = go_on (λ b n. of.resolved_trait (rctx (record p { left = n }) b) def x)
      (limit_asked a area) (declared_framed (with_limit p a) w def x)

  pub alias_at_framed : (p : LowerCtx) (container : ItemContainerId) (w : Here area (in_container a container p)) (def : GenericDefId)
      (x : AstTypeAlias) → Framed area (λ b. alias_at b p def container x) a
  alias_at_framed p container w def x =
      go_on (λ b n. of.resolved_alias (rctx (record p { left = n; module_id = b.module_of container }) b) def container x)
      (limit_asked a area)
      (go_on (λ b m. of.resolved_alias (rctx (record p { left = a.expansion_limit; module_id = m }) b) def container x)
      (ask (λ b. b.module_of container) (question.of_module container) tt (λ b h. h.0))
      (type_alias_framed (in_container a container (with_limit p a)) w def container x))
