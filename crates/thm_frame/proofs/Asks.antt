-- What is asked of the environment itself.
use Rattle.std.proofs.Common.{◌≡◌, Bool, true, false, Option, Some, None, if◌then◌else◌, bytes_eq, codes}
use Rattle.hir_base.specs.declared.node.NodeId.{NodeId}
use Rattle.hir_base.specs.declared.node.PredId.{PredId}
use Rattle.hir_syntax.specs.declared.ast.Name.{Name as AstName}
use Rattle.hir_syntax.specs.declared.ast.SegmentKind.{SegmentKind}
use Rattle.hir_syntax.specs.declared.ast.SegmentKind.TheVariants as kind
use Rattle.hir_store.specs.declared.ids.CtxId.{CtxId}
use Rattle.hir_store.specs.declared.ids.ModuleId.{ModuleId}
use Rattle.hir_store.specs.declared.name.Name.TheVariants as name
use Rattle.hir_store.specs.declared.path.ModPath.{ModPath}
use Rattle.hir_env.specs.ResolvedTree as tree
use Rattle.hir_env.specs.ResolvedTree.{OptionType, Path, SegmentArgs}
use Rattle.hir_env.specs.Answers.{Answers}
use Rattle.hir_env.specs.LocalPaths.{local_root}
use Rattle.hir_env.specs.NodeMap.{Site}
use Rattle.hir_env.specs.PathNames.{mod_path_of}
use Rattle.hir_env.specs.Layers.{PathTypeReading}
use Rattle.hir_env.specs.Paths.{alias_at, alias_found, alias_in, alias_or_none, context_at, crate_root_at, flags_of, kinded_segment}
use Rattle.hir_env.specs.Paths.{qualified_segment, named_segment, with_alias}
use Rattle.hir_env.specs.declared.ctx.LifetimeScope.{LifetimeScope}
use Rattle.hir_env.specs.declared.ctx.LifetimeScope.TheVariants as scope
use Rattle.hir_env.specs.declared.ctx.LowerCtx.{LowerCtx}
use Rattle.hir_env.specs.declared.resolved.Resolution.{Resolution}
use Rattle.hir_env.specs.declared.resolved.Resolution.TheVariants as resolution
use Rattle.hir_env.specs.declared.resolved.BuiltinShadowMode.{BuiltinShadowMode}
use Rattle.hir_env.specs.declared.resolved.BuiltinShadowMode.TheVariants as shadow
use Rattle.thm_frame.specs.Questions.{Area, Framed, Here}
use Rattle.thm_frame.specs.Items.{LangItem, item_of}
use Rattle.thm_frame.specs.Questions as question
use Rattle.thm_frame.proofs.Framing.{ask, one, still, go_on, two}

module _ (a : Answers) (area : Area a) where
  pub cfg_asked : (s : Site) → area.file s.file_id ≡ true → Framed area (λ b. b.cfg s) a
  cfg_asked s k = ask (λ b. b.cfg s) (question.of_cfg s) k (λ b h. h.0)

  pub hygiene_asked : (s : Site) → area.file s.file_id ≡ true → Framed area (λ b. b.hygiene s) a
  hygiene_asked s k = ask (λ b. b.hygiene s) (question.of_hygiene s) k (λ b h. h.0)

  pub context_asked : (s : Site) → area.file s.file_id ≡ true → Framed area (λ b. b.context s) a
  context_asked s k = ask (λ b. b.context s) (question.of_context s) k (λ b h. h.0)

  pub contexts_asked : Framed area (λ b. b.contexts) a
  contexts_asked = ask (λ b. b.contexts) question.of_contexts tt (λ b h. h.0)

  pub crate_root_asked : (c : CtxId) → Framed area (λ b. b.crate_root c) a
  crate_root_asked c = ask (λ b. b.crate_root c) (question.of_crate_root c) tt (λ b h. h.0)

  pub local_asked : (c : CtxId) → Framed area (λ b. b.local_inner c) a
  local_asked c = ask (λ b. b.local_inner c) (question.of_local_inner c) tt (λ b h. h.0)

  pub pred_asked : (x : Option PredId) → Framed area (λ b. b.cfg_pred x) a
  pred_asked x = ask (λ b. b.cfg_pred x) (question.of_cfg_pred x) tt (λ b h. h.0)

  pub block_asked : (s : Site) (m : ModuleId) → area.file s.file_id ≡ true → area.inside m ≡ true → Framed area (λ b. b.block s m) a
  block_asked s m k l = ask (λ b. b.block s m) (question.of_block s m) (k, l) (λ b h. h.0)

  pub resolve_asked : (m : ModuleId) (x : ModPath) (s : BuiltinShadowMode) → area.inside m ≡ true → Framed area (λ b. b.resolve m x s) a
  resolve_asked m x s k = ask (λ b. b.resolve m x s) (question.of_resolve m x s) k (λ b h. h.0)

  pub item_asked : (i : LangItem) → Framed area (λ b. item_of b.lang_items i) a
  item_asked i = ask (λ b. item_of b.lang_items i) (question.of_lang_item i) tt (λ b h. h.0)

  pub new_range_asked : (m : ModuleId) → area.inside m ≡ true → Framed area (λ b. b.new_range m) a
  new_range_asked m k = ask (λ b. b.new_range m) (question.of_new_range m) k (λ b h. h.0)

  -- the root of a crate, and of a macro that is local to it

  pub root_framed : (p : LowerCtx) (w : Here area p) (id : NodeId) → Framed area (λ b. crate_root_at b p id) a
  root_framed p w id = go_on (λ b c. b.crate_root c) (context_asked _ w.0) (crate_root_asked _)

  local_framed : (c : CtxId) → Framed area (λ b. local_root b c) a
  local_framed c = go_on (λ b l. if l then Some (b.crate_root c) else None) (local_asked c) (by (a.local_inner c))
    where
      by : (l : Bool) → Framed area (λ b. if l then Some (b.crate_root c) else None) a
      by true = one (λ r. Some r) (crate_root_asked c)
      by false = still None

  pub at_local_framed : (p : LowerCtx) (w : Here area p) (id : NodeId) → Framed area (λ b. local_root b (context_at b p id)) a
  at_local_framed p w id = go_on (λ b c. local_root b c) (context_asked _ w.0) (local_framed _)

  -- an alias in an argument

  found_framed : (r : Option Resolution) → Framed area (λ b. alias_found b r) a
  found_framed (Some (resolution.TypeAlias n)) =
      one (λ x. Some x) (ask (λ b. flags_of (b.alias n)) (question.of_alias n) tt (λ b h. h.0))
  found_framed _ = still None

  in_framed : (l : LifetimeScope) (m : ModuleId) (x : ModPath) → area.inside m ≡ true → Framed area (λ b. alias_in l b m x) a
  in_framed scope.Input m x k = go_on (λ b r. alias_found b r.types) (resolve_asked m x shadow.Module k) (found_framed _)
  in_framed scope.Nowhere m x k = still None
  in_framed scope.Bound m x k = still None
  in_framed scope.Projection m x k = still None
  in_framed scope.Output m x k = still None

  or_none_framed : (p : LowerCtx) (w : Here area p) (x : Option ModPath) → Framed area (λ b. alias_or_none b p x) a
  or_none_framed p w None = still None
  or_none_framed p w (Some x) = in_framed p.lifetimes p.module_id x w.1

  pub aliased : (p : LowerCtx) (w : Here area p) (x : Path) → Framed area (λ b. with_alias (alias_at b p x) x) a
  aliased p w x = one (λ f. with_alias f x) (or_none_framed p w (mod_path_of (tree.some_path x)))

  -- segments

  named_by : (is_root : Bool) (p : LowerCtx) (w : Here area p) (n : AstName) (args : Answers → SegmentArgs) → Framed area args a
      → Framed area
      (λ b. if is_root then tree.dollar_crate_segment (crate_root_at b p n.id) else tree.name_segment (name.Text n.t) tt (args b)) a
  named_by true p w n args h = one tree.dollar_crate_segment (root_framed p w n.id)
  named_by false p w n args h = one (tree.name_segment (name.Text n.t) tt) h

  named_framed : (p : LowerCtx) (w : Here area p) (n : Option AstName) (args : Answers → SegmentArgs) → Framed area args a
      → Framed area (λ b. named_segment b p n (args b)) a
  named_framed p w None args h = still tree.broken_segment
  named_framed p w (Some n) args h = named_by (bytes_eq n.t (codes "$crate")) p w n args h

  pub kinded_framed : (p : LowerCtx) (w : Here area p) (k : Option SegmentKind) (n : Option AstName) (args : Answers → SegmentArgs)
      (ty : Answers → OptionType) (t : Answers → Option PathTypeReading) → Framed area args a → Framed area ty a → Framed area t a
      → Framed area (λ b. kinded_segment b p k n (args b) (ty b) (t b)) a
  kinded_framed p w None n args ty t h ht hp = still tree.broken_segment
  kinded_framed p w (Some kind.Name) n args ty t h ht hp = named_framed p w n args h
  kinded_framed p w (Some kind.SelfKw) n args ty t h ht hp = still tree.self_segment
  kinded_framed p w (Some kind.CrateKw) n args ty t h ht hp = still tree.crate_segment
  kinded_framed p w (Some kind.SuperKw) n args ty t h ht hp = still tree.super_segment
  kinded_framed p w (Some kind.SelfTypeKw) n args ty t h ht hp = still tree.self_type_segment
  kinded_framed p w (Some kind.Qualified) n args ty t h ht hp = two qualified_segment ht hp
