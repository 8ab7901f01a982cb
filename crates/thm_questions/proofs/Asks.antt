-- What is asked of the environment itself.
use Rattle.std.proofs.Common.{Bool, true, false, option_map, List, [], ◌∷◌, ◌++◌, Option, Some, None, if◌then◌else◌, bytes_eq, codes}
use Rattle.hir_base.specs.declared.node.HirFileId.{HirFileId}
use Rattle.hir_base.specs.declared.node.NodeId.{NodeId}
use Rattle.hir_base.specs.declared.node.PredId.{PredId}
use Rattle.hir_syntax.specs.declared.ast.Lifetime.{Lifetime as AstLifetime}
use Rattle.hir_syntax.specs.declared.ast.Label.{Label as AstLabel}
use Rattle.hir_syntax.specs.declared.ast.Name.{Name as AstName}
use Rattle.hir_syntax.specs.declared.ast.SegmentKind.{SegmentKind}
use Rattle.hir_syntax.specs.declared.ast.SegmentKind.TheVariants as kind
use Rattle.hir_store.specs.declared.ids.CtxId.{CtxId}
use Rattle.hir_store.specs.declared.ids.ModuleId.{ModuleId}
use Rattle.hir_store.specs.declared.name.Name.TheVariants as name
use Rattle.hir_store.specs.declared.path.ModPath.{ModPath}
use Rattle.hir_env.specs.ResolvedTree as tree
use Rattle.hir_env.specs.ResolvedTree.{OptionType, Path, SegmentArgs}
use Rattle.hir_env.specs.Answering as reading
use Rattle.hir_env.specs.Answers.{Answers}
use Rattle.hir_env.specs.LocalPaths.{local_root}
use Rattle.hir_env.specs.NodeMap.{Site}
use Rattle.hir_env.specs.PathNames.{mod_path_of}
use Rattle.hir_env.specs.Layers.{PathTypeReading}
use Rattle.hir_env.specs.Paths.{alias_at, alias_found, alias_in, alias_or_none, context_at, crate_root_at, flags_of, kinded_segment}
use Rattle.hir_env.specs.Paths.{named_segment, qualified_segment, with_alias}
use Rattle.hir_env.specs.Pats.{name_hygiene}
use Rattle.hir_env.specs.ResolveCtx.{in_file, ptr, site_of}
use Rattle.hir_env.specs.declared.ctx.LifetimeScope.{LifetimeScope}
use Rattle.hir_env.specs.declared.ctx.LifetimeScope.TheVariants as scope
use Rattle.hir_env.specs.declared.ctx.LowerCtx.{LowerCtx}
use Rattle.hir_env.specs.declared.resolved.Resolution.{Resolution}
use Rattle.hir_env.specs.declared.resolved.Resolution.TheVariants as resolution
use Rattle.hir_env.specs.declared.resolved.BuiltinShadowMode.{BuiltinShadowMode}
use Rattle.hir_env.specs.declared.resolved.BuiltinShadowMode.TheVariants as shadow
use Rattle.thm_frame.specs.Items.{LangItem, item_of}
use Rattle.thm_frame.specs.Questions as question
use Rattle.thm_frame.specs.Questions.{Question}
use Rattle.thm_questions.specs.Asked as asked
use Rattle.thm_questions.specs.Areas.{NodeArea}
use Rattle.thm_questions.specs.Nodes as node
use Rattle.thm_questions.specs.Parts.{of_option}
use Rattle.thm_questions.proofs.Framing.{At, ByList, also, ask, first_there, none, of_these, one, rest_there, still, two}

abbrev at : HirFileId → NodeId → Site
at f id = record { file_id = f; value = id }

module _ (a : Answers) (area : NodeArea a) where
  module _ {file : HirFileId} {m : ModuleId} where
    pub cfg_asked : (id : NodeId) → ByList area file m (id ∷ []) (λ b. b.cfg (at file id)) (question.of_cfg (at file id) ∷ [])
    cfg_asked id = ask (id ∷ []) (λ b. b.cfg (at file id)) (question.of_cfg (at file id)) (λ i h. h.0) (λ b h. h.0)

    pub hygiene_asked : (id : NodeId) → ByList area file m (id ∷ []) (λ b. b.hygiene (at file id)) (question.of_hygiene (at file id) ∷ [])
    hygiene_asked id = ask (id ∷ []) (λ b. b.hygiene (at file id)) (question.of_hygiene (at file id)) (λ i h. h.0) (λ b h. h.0)

    pub context_asked : (id : NodeId) → ByList area file m (id ∷ []) (λ b. b.context (at file id)) (question.of_context (at file id) ∷ [])
    context_asked id = ask (id ∷ []) (λ b. b.context (at file id)) (question.of_context (at file id)) (λ i h. h.0) (λ b h. h.0)

    pub block_asked : (id : NodeId) → ByList area file m (id ∷ []) (λ b. b.block (at file id) m) (question.of_block (at file id) m ∷ [])
    block_asked id = ask (id ∷ []) (λ b. b.block (at file id) m) (question.of_block (at file id) m) (λ i h. (h.0, i)) (λ b h. h.0)

    pub contexts_asked : ByList area file m [] (λ b. b.contexts) (question.of_contexts ∷ [])
    contexts_asked = ask [] (λ b. b.contexts) question.of_contexts (λ i h. tt) (λ b h. h.0)

    pub crate_root_asked : {ns : List NodeId} (c : CtxId) → ByList area file m ns (λ b. b.crate_root c) (question.of_crate_root c ∷ [])
    crate_root_asked {ns = ns} c = ask ns (λ b. b.crate_root c) (question.of_crate_root c) (λ i h. tt) (λ b h. h.0)

    pub local_asked : {ns : List NodeId} (c : CtxId) → ByList area file m ns (λ b. b.local_inner c) (question.of_local_inner c ∷ [])
    local_asked {ns = ns} c = ask ns (λ b. b.local_inner c) (question.of_local_inner c) (λ i h. tt) (λ b h. h.0)

    pub pred_asked : (x : Option PredId) → ByList area file m [] (λ b. b.cfg_pred x) (question.of_cfg_pred x ∷ [])
    pred_asked x = ask [] (λ b. b.cfg_pred x) (question.of_cfg_pred x) (λ i h. tt) (λ b h. h.0)

    pub resolve_asked : (x : ModPath) (s : BuiltinShadowMode)
        → ByList area file m [] (λ b. b.resolve m x s) (question.of_resolve m x s ∷ [])
    resolve_asked x s = ask [] (λ b. b.resolve m x s) (question.of_resolve m x s) (λ i h. i) (λ b h. h.0)

    pub item_asked : (i : LangItem) → ByList area file m [] (λ b. item_of b.lang_items i) (question.of_lang_item i ∷ [])
    item_asked i = ask [] (λ b. item_of b.lang_items i) (question.of_lang_item i) (λ i h. tt) (λ b h. h.0)

    pub new_range_asked : ByList area file m [] (λ b. b.new_range m) (question.of_new_range m ∷ [])
    new_range_asked = ask [] (λ b. b.new_range m) (question.of_new_range m) (λ i h. i) (λ b h. h.0)

  -- labels, jumps and names

  pub label_by : (p : LowerCtx) (l : AstLabel)
      → At area p (l.id ∷ []) (λ b. b.hygiene (site_of (in_file p (ptr l.id l.range))))
      (question.of_hygiene (site_of (in_file p (ptr l.id l.range))) ∷ [])
  label_by p l = hygiene_asked l.id

  pub jump_by : (p : LowerCtx) (l : Option AstLifetime)
      → At area p (node.lifetime_node l) (λ b. option_map (reading.jump_of b p) l) (asked.of_jump p l)
  jump_by p None = still None
  jump_by p (Some l) = let s = in_file p (ptr l.id l.range) in
      two (λ h c. Some (record { pointer = s; name = name.Text l.t; hygiene = h; contexts = c })) (hygiene_asked l.id) contexts_asked

  pub name_by : (p : LowerCtx) (x : Option AstName) → At area p (node.name_node x) (λ b. name_hygiene b p x) (asked.of_name p x)
  name_by p None = still _
  name_by p (Some x) = hygiene_asked x.id

  -- the root of a crate, and of a macro that is local to it

  pub root_by : (p : LowerCtx) (id : NodeId) → At area p (id ∷ []) (λ b. crate_root_at b p id) (asked.of_root a p id)
  root_by p id = also (λ b c. b.crate_root c) (context_asked id) (crate_root_asked _)

  local_from : {file : HirFileId} {m : ModuleId} {ns : List NodeId} (c : CtxId)
      → ByList area file m ns (λ b. local_root b c) (asked.of_local_root a c)
  local_from c = also (λ b l. if l then Some (b.crate_root c) else None) (local_asked c) (by (a.local_inner c))
    where
      by : {file : HirFileId} {m : ModuleId} {ns : List NodeId} (l : Bool)
          → ByList area file m ns (λ b. if l then Some (b.crate_root c) else None) (if l then question.of_crate_root c ∷ [] else [])
      by true = one (λ r. Some r) (crate_root_asked c)
      by false = none None

  pub local_by : (p : LowerCtx) (id : NodeId)
      → At area p (id ∷ []) (λ b. local_root b (context_at b p id))
      (question.of_context (asked.own_site p id) ∷ asked.of_local_root a (a.context (asked.own_site p id)))
  local_by p id = also (λ b c. local_root b c) (context_asked id) (local_from _)

  -- an alias in an argument

  module _ {file : HirFileId} {m : ModuleId} where
    found_by : (r : Option Resolution) → ByList area file m [] (λ b. alias_found b r) (asked.of_found a r)
    found_by (Some (resolution.TypeAlias n)) =
        one (λ x. Some x) (ask [] (λ b. flags_of (b.alias n)) (question.of_alias n) (λ i h. tt) (λ b h. h.0))
    found_by _ = still None

    in_by : (l : LifetimeScope) (x : ModPath) → ByList area file m [] (λ b. alias_in l b m x) (asked.of_alias_in a l m x)
    in_by scope.Input x = also (λ b r. alias_found b r.types) (resolve_asked x shadow.Module) (found_by _)
    in_by scope.Nowhere x = still None
    in_by scope.Bound x = still None
    in_by scope.Projection x = still None
    in_by scope.Output x = still None

  pub aliased : (p : LowerCtx) (x : Path) → At area p [] (λ b. with_alias (alias_at b p x) x) (asked.of_alias_at a p x)
  aliased p x = one (λ f. with_alias f x) (by (mod_path_of (tree.some_path x)))
    where
      by : (x : Option ModPath)
          → At area p [] (λ b. alias_or_none b p x) (of_option (asked.of_alias_in a p.lifetimes p.module_id) x)
      by None = still None
      by (Some x) = in_by p.lifetimes x

  -- segments

  module _ (p : LowerCtx) where
    named_from : (is_root : Bool) (n : AstName) {as' : List NodeId} (quals : List NodeId) {args : Answers → SegmentArgs}
        {qs : List Question} → At area p as' args qs
        → At area p (n.id ∷ (as' ++ quals))
        (λ b. if is_root then tree.dollar_crate_segment (crate_root_at b p n.id) else tree.name_segment (name.Text n.t) tt (args b))
        (if is_root then asked.of_root a p n.id else qs)
    named_from true n quals h = one tree.dollar_crate_segment (of_these (λ i k. (i, (k.0, tt))) (root_by p n.id))
    named_from false n {as' = as'} quals h =
        one (tree.name_segment (name.Text n.t) tt) (of_these (λ i k. (i, first_there area p.file_id as' quals k.1)) h)

    named_by : (n : Option AstName) {as' : List NodeId} (quals : List NodeId) {args : Answers → SegmentArgs} {qs : List Question}
        → At area p as' args qs
        → At area p (node.name_node n ++ (as' ++ quals)) (λ b. named_segment b p n (args b))
        (of_option (λ n. asked.of_named a p n qs) n)
    named_by None quals h = none tree.broken_segment
    named_by (Some n) quals h = named_from (bytes_eq n.t (codes "$crate")) n quals h

    pub kinded_by : (k : Option SegmentKind) (n : Option AstName) {as' ts xs : List NodeId} {args : Answers → SegmentArgs}
        {ty : Answers → OptionType} {t : Answers → Option PathTypeReading} {qs rs ss : List Question}
        → At area p as' args qs → At area p ts ty rs → At area p xs t ss
        → At area p (node.name_node n ++ (as' ++ (ts ++ xs))) (λ b. kinded_segment b p k n (args b) (ty b) (t b))
        (asked.of_segment a p k n qs (rs ++ ss))
    kinded_by None n h v w = none tree.broken_segment
    kinded_by (Some kind.Name) n {ts = ts} {xs = xs} h v w = named_by n (ts ++ xs) h
    kinded_by (Some kind.SelfKw) n h v w = none tree.self_segment
    kinded_by (Some kind.CrateKw) n h v w = none tree.crate_segment
    kinded_by (Some kind.SuperKw) n h v w = none tree.super_segment
    kinded_by (Some kind.SelfTypeKw) n h v w = none tree.self_type_segment
    kinded_by (Some kind.Qualified) n {as' = as'} {ts = ts} {xs = xs} h v w =
        of_these (λ i k. (
          i,
          rest_there area p.file_id as' (ts ++ xs)
              (rest_there area p.file_id (node.name_node n) (as' ++ (ts ++ xs)) k),
        )) (two qualified_segment v w)
