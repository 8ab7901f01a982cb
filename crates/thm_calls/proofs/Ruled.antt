-- What each call reads is what the rules allow, and they allow nothing else.
use Rattle.std.proofs.Common.{◌≡◌, ◌∙◌, refl, subst, sym, Bool, true, false, List, Option, Some, None, is_some}
use Rattle.hir_base.specs.declared.node.HirFileId.{HirFileId}
use Rattle.hir_syntax.specs.declared.ast.Expr.{Expr as AstExpr}
use Rattle.hir_syntax.specs.declared.ast.Path.{Path as AstPath}
use Rattle.hir_syntax.specs.declared.types.Type_.{Type_ as AstType_}
use Rattle.hir_store.specs.Pointers.{Pointer}
use Rattle.hir_store.specs.declared.diagnostics.MissingBodyItemKind.{MissingBodyItemKind}
use Rattle.hir_syntax.specs.declared.items.Fn.{Fn}
use Rattle.hir_syntax.specs.declared.items.GenericParam.{GenericParam}
use Rattle.hir_syntax.specs.declared.items.Impl.{Impl}
use Rattle.hir_syntax.specs.declared.items.Trait.{Trait}
use Rattle.hir_syntax.specs.declared.items.TypeAlias.{TypeAlias}
use Rattle.hir_syntax.specs.declared.items.WherePred.{WherePred}
use Rattle.hir_store.specs.declared.hir.CoroutineKind.{CoroutineKind}
use Rattle.hir_store.specs.declared.ids.FunctionId.{FunctionId}
use Rattle.hir_store.specs.declared.ids.GenericDefId.{GenericDefId}
use Rattle.hir_store.specs.declared.ids.GenericDefId.TheVariants as definition
use Rattle.hir_store.specs.declared.ids.ImplId.{ImplId}
use Rattle.hir_store.specs.declared.ids.ItemContainerId.{ItemContainerId}
use Rattle.hir_store.specs.declared.ids.ModuleId.{ModuleId}
use Rattle.hir_store.specs.declared.ids.TraitId.{TraitId}
use Rattle.hir_store.specs.declared.ids.TypeAliasId.{TypeAliasId}
use Rattle.hir_env.specs.ResolvedTree as tree
use Rattle.hir_env.specs.ResolvedTree.{Formals, OptionExpr, OptionPath, OptionType}
use Rattle.hir_env.specs.Answering.{coroutine_kind}
use Rattle.hir_env.specs.Answers.{Answers}
use Rattle.hir_env.specs.Formals.{resolved_formals, are_bare}
use Rattle.hir_env.specs.Whole.{resolved_path, expr_part, type_part}
use Rattle.hir_env.specs.Wrapped.{AstConstArg}
use Rattle.hir_env.specs.declared.ctx.ImplTrait.{ImplTrait}
use Rattle.hir_env.specs.declared.ctx.LoweringMode.{LoweringMode}
use Rattle.hir_env.specs.declared.ctx.LoweringMode.TheVariants.{Analysis}
use Rattle.hir_env.specs.declared.ctx.LowerCtx.{LowerCtx}
use Rattle.thm_reading.specs.Theorems.{rctx}
use Rattle.thm_reading.specs.LowerCtx.{in_constant}
use Rattle.thm_reading.specs.Rules as rules
use Rattle.thm_reading.specs.Rules.{OptExprAs, OptPathAs, OptTypeAs}
use Rattle.thm_reading.proofs.Alone.{bool_clash, presence}
use Rattle.thm_reading.proofs.Tree.{below, of_expr, of_path, of_type}
use Rattle.thm_item_reading.proofs.Items.{body_params_said, coroutine_said, function_said, generics_said, implementation_said}
use Rattle.thm_item_reading.proofs.Items.{trait_item_said, type_alias_said}
use Rattle.thm_item_reading.proofs.One.{one_alias, one_body_params, one_coroutine, one_function, one_generics, one_impl, one_trait}
use Rattle.thm_item_reading.proofs.Alone.{one_opt_expr, one_opt_path, one_opt_type}
use Rattle.thm_body_result.specs.Diagnostics.{Faults}
use Rattle.hir_lower.specs.Formals.{are_read, formals_if}
use Rattle.thm_item_reading.specs.Rules.{AliasAs, FunctionAs, GenericsAs, ImplAs, TraitAs}
use Rattle.hir_lower.specs.Inputs.{BodyInput}
use Rattle.hir_lower.specs.Items.{read_alias, read_function, read_generics, read_impl, read_trait}
use Rattle.hir_lower.specs.Means.{kind_unless_skipped, missing_fault, owed_faults, required_body, unless_skipped}
use Rattle.hir_lower.specs.Roots.{await_location}
use Rattle.thm_calls.specs.ByRules as rule
use Rattle.thm_calls.specs.ByRules.{AreReadAs, BodyAs, IsJust, KindAs, NeedsAs, OwedAs, ParamsAs, TreeAs, fault_at, in_alias}
use Rattle.thm_calls.specs.ByRules.{in_body, in_item, in_params, in_path, in_type}
use Rattle.thm_calls.proofs.Owners.{are_read_said, awaits_said, needs_said, one_are_read, one_awaits, one_needs}
use Rattle.thm_calls.specs.Readings.{BodyCall, body_reading, const_reading_at, path_reading_at, type_reading}

module _ (a : Answers) where
  expr_said : (p : LowerCtx) (e : Option AstExpr) → OptExprAs a p e (expr_part (rctx p a) e)
  expr_said p None = rules.no_expr
  expr_said p (Some e) = rules.some_expr ((of_expr a p.left (below a p.left) e).expr p)

  type_said : (p : LowerCtx) (t : Option AstType_) → OptTypeAs a p t (type_part (rctx p a) t)
  type_said p None = rules.no_type
  type_said p (Some t) = rules.some_type (of_type a p.left (below a p.left) t p)

  path_said : (p : LowerCtx) (x : AstPath) → OptPathAs a p (Some x) (tree.some_path (resolved_path (rctx p a) x))
  path_said p x = rules.some_path ((of_path a p.left (below a p.left) x).alone p)

  pub type_ref : (file : HirFileId) (inside : ModuleId) (t : Option AstType_)
      → IsJust (OptTypeAs a (in_type a file inside) t) (type_reading file inside t a)
  type_ref file inside t = record { allowed = type_said (in_type a file inside) t; alone = λ x y. one_opt_type a }

  pub const_arg : (p : LowerCtx) (x : AstConstArg) → IsJust (OptExprAs a (in_constant p) x) (const_reading_at p x a)
  const_arg p x = record { allowed = expr_said (in_constant p) x; alone = λ y z. one_opt_expr a }

  pub path : (p : LowerCtx) (impl : ImplTrait) (x : AstPath)
      → IsJust (OptPathAs a (in_path p impl) (Some x)) (path_reading_at p impl x a).read
  path p impl x = record { allowed = path_said (in_path p impl) x; alone = λ y z. one_opt_path a }

  -- items

  pub generic_params : (file : HirFileId) (inside : ModuleId) (mode : LoweringMode) (def : GenericDefId)
      (ps : Option (List GenericParam)) (ws : Option (List WherePred))
      → IsJust (GenericsAs a (in_item a file inside mode) def ps ws) (read_generics a file inside mode def ps ws)
  generic_params file inside mode def ps ws =
      record { allowed = generics_said a (in_item a file inside mode) def ps ws; alone = λ x y. one_generics a }

  pub implementation : (file : HirFileId) (inside : ModuleId) (id : ImplId) (x : Impl)
      → IsJust (ImplAs a (in_item a file inside Analysis) (definition.ImplId id) x) (read_impl a file inside id x)
  implementation file inside id x = record {
    allowed = implementation_said a (in_item a file inside Analysis) (definition.ImplId id) x;
    alone = λ y z. one_impl a;
  }

  pub declared_trait : (file : HirFileId) (inside : ModuleId) (id : TraitId) (x : Trait)
      → IsJust (TraitAs a (in_item a file inside Analysis) (definition.TraitId id) x) (read_trait a file inside id x)
  declared_trait file inside id x = record {
    allowed = trait_item_said a (in_item a file inside Analysis) (definition.TraitId id) x;
    alone = λ y z. one_trait a;
  }

  pub type_alias : (file : HirFileId) (container : ItemContainerId) (id : TypeAliasId) (x : TypeAlias)
      → IsJust (AliasAs a (in_alias a file container) (definition.TypeAliasId id) container x) (read_alias a file container id x)
  type_alias file container id x = record {
    allowed = type_alias_said a (in_alias a file container) (definition.TypeAliasId id) container x;
    alone = λ y z. one_alias a;
  }

  pub function : (file : HirFileId) (inside : ModuleId) (id : FunctionId) (x : Fn)
      → IsJust (FunctionAs a (in_item a file inside Analysis) (definition.FunctionId id) x) (read_function a file inside id x)
  function file inside id x = record {
    allowed = function_said a (in_item a file inside Analysis) (definition.FunctionId id) x;
    alone = λ y z. one_function a;
  }

  -- bodies

  module _ (c : BodyCall) where
    abbrev node : Pointer
    node = record { file_id = c.file_id; value = c.node }

    tree_said : (s : Bool) → a.skip c.owner ≡ s
        → TreeAs a c (unless_skipped s (expr_part (rctx (in_body a c (await_location c.is_async c.owner)) a) c.body))
    tree_said true is = rule.skipped_tree is
    tree_said false is =
        rule.read_tree is (awaits_said c.is_async c.owner) (expr_said (in_body a c (await_location c.is_async c.owner)) c.body)

    kind_said : (s : Bool) → a.skip c.owner ≡ s → KindAs a c (kind_unless_skipped s (coroutine_kind c.is_async c.is_gen))
    kind_said true is = rule.skipped_kind is
    kind_said false is = rule.written_kind is (coroutine_said c.is_async c.is_gen)

    params_said : (r : Bool) → AreReadAs (a.skip c.owner) c.owner r → ParamsAs a c
        (formals_if r (resolved_formals (rctx (in_params a c) a) (are_bare (a.container c.owner) (is_some c.body)) c.params))
    params_said true h = rule.read_params h (body_params_said a (in_params a c) (a.container c.owner) (is_some c.body) c.params)
    params_said false h = rule.no_params h

    absent_said : a.skip c.owner ≡ false → c.body ≡ None → (k : Option MissingBodyItemKind) → NeedsAs c.owner (a.container c.owner) k
        → OwedAs a c (missing_fault node k)
    absent_said is body None h = rule.absent_body is body h
    absent_said is body (Some k) h = rule.absent_body is body h

    owed_said : (s : Bool) → a.skip c.owner ≡ s → (e : Option AstExpr) → c.body ≡ e → OwedAs a c
        (owed_faults s node (required_body c.owner (a.container c.owner))
        (expr_part (rctx (in_body a c (await_location c.is_async c.owner)) a) e))
    owed_said true is e body = rule.skipped_body is
    owed_said false is (Some e) body = rule.has_body is body
    owed_said false is None body =
        absent_said is body (required_body c.owner (a.container c.owner)) (needs_said c.owner (a.container c.owner))

    one_tree : {x y : OptionExpr} → TreeAs a c x → TreeAs a c y → x ≡ y
    one_tree (rule.skipped_tree _) (rule.skipped_tree _) = refl
    one_tree (rule.skipped_tree h) (rule.read_tree k _ _) = bool_clash (sym k ∙ h)
    one_tree (rule.read_tree h _ _) (rule.skipped_tree k) = bool_clash (sym h ∙ k)
    one_tree {y = y} (rule.read_tree _ h x) (rule.read_tree _ k z) =
        one_opt_expr a x (subst (λ l. OptExprAs a (in_body a c l) c.body y) (one_awaits k h) z)

    one_kind : {x y : Option CoroutineKind} → KindAs a c x → KindAs a c y → x ≡ y
    one_kind (rule.skipped_kind _) (rule.skipped_kind _) = refl
    one_kind (rule.skipped_kind h) (rule.written_kind k _) = bool_clash (sym k ∙ h)
    one_kind (rule.written_kind h _) (rule.skipped_kind k) = bool_clash (sym h ∙ k)
    one_kind (rule.written_kind _ h) (rule.written_kind _ k) = one_coroutine h k

    one_params : {x y : Formals} → ParamsAs a c x → ParamsAs a c y → x ≡ y
    one_params (rule.no_params _) (rule.no_params _) = refl
    one_params (rule.no_params h) (rule.read_params k _) = bool_clash (one_are_read h k)
    one_params (rule.read_params h _) (rule.no_params k) = bool_clash (one_are_read k h)
    one_params (rule.read_params _ h) (rule.read_params _ k) = one_body_params a h k

    one_owed : {x y : Faults} → OwedAs a c x → OwedAs a c y → x ≡ y
    one_owed (rule.skipped_body _) (rule.skipped_body _) = refl
    one_owed (rule.skipped_body h) (rule.has_body k _) = bool_clash (sym k ∙ h)
    one_owed (rule.skipped_body h) (rule.absent_body k _ _) = bool_clash (sym k ∙ h)
    one_owed (rule.has_body h _) (rule.skipped_body k) = bool_clash (sym h ∙ k)
    one_owed (rule.has_body _ _) (rule.has_body _ _) = refl
    one_owed (rule.has_body _ h) (rule.absent_body _ k _) = presence (sym k ∙ h)
    one_owed (rule.absent_body h _ _) (rule.skipped_body k) = bool_clash (sym h ∙ k)
    one_owed (rule.absent_body _ h _) (rule.has_body _ k) = presence (sym h ∙ k)
    one_owed (rule.absent_body _ _ h) (rule.absent_body _ _ k) = λ i. fault_at node (one_needs h k i)

    one_body : {x y : BodyInput} → BodyAs a c x → BodyAs a c y → x ≡ y
    one_body h k = λ i. record {
      skipped = (h.skipped ∙ sym k.skipped) i;
      kind = one_kind h.kind k.kind i;
      owed = one_owed h.owed k.owed i;
      formals = one_params h.formals k.formals i;
      read = one_tree h.read k.read i;
    }

    pub body : IsJust (BodyAs a c) (body_reading c a)
    body = record {
      allowed = record {
        skipped = refl;
        kind = kind_said (a.skip c.owner) refl;
        owed = owed_said (a.skip c.owner) refl c.body refl;
        formals = params_said (are_read (a.skip c.owner) c.owner) (are_read_said (a.skip c.owner) c.owner);
        read = tree_said (a.skip c.owner) refl;
      };
      alone = λ x y. one_body;
    }
