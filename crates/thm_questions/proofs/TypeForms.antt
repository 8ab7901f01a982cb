-- One level of a type, a path or an argument is framed where its parts are.
use Rattle.std.proofs.Common.{ℕ, Bool, true, false, List, [], ◌∷◌, ◌++◌, Option, Some, None, map, option_map, if◌then◌else◌}
use Rattle.hir_base.specs.declared.node.AstPtr.{AstPtr}
use Rattle.hir_base.specs.declared.node.HirFileId.{HirFileId}
use Rattle.hir_base.specs.declared.node.NodeId.{NodeId}
use Rattle.hir_syntax.specs.declared.ast.ElseBranch.TheOpen.{GenericArg-F, TypeKind-F}
use Rattle.hir_syntax.specs.declared.ast.Name.{Name as AstName}
use Rattle.hir_syntax.specs.declared.ast.Path.{Path as AstPath}
use Rattle.hir_syntax.specs.declared.ast.PathSegment.{PathSegment as AstPathSegment, out-PathSegment}
use Rattle.hir_syntax.specs.declared.pats.Pat.{Pat as AstPat}
use Rattle.hir_syntax.specs.declared.types.TypeBound.{TypeBound as AstTypeBound}
use Rattle.hir_store.specs.declared.ids.ModuleId.{ModuleId}
use Rattle.hir_store.specs.declared.name.Name.TheVariants as name
use Rattle.hir_env.specs.ResolvedTree as tree
use Rattle.hir_env.specs.ResolvedTree.{Bounds, OptionArgs, OptionPat, OptionType, OptionTypePat, Path}
use Rattle.hir_env.specs.Answers.{Answers}
use Rattle.hir_env.specs.Folds as read
use Rattle.hir_env.specs.Folds.{entering}
use Rattle.hir_env.specs.Layers.{itself, written}
use Rattle.hir_env.specs.LocalPaths.{at_local_root, or_broken, local_root}
use Rattle.hir_env.specs.Paths as of
use Rattle.hir_env.specs.ResolveCtx.{in_file, ptr}
use Rattle.hir_env.specs.TypeLayers.{GenericArgLayer, TypeKindLayer, PathLayer, PathSegmentLayer, AssocTypeArgLayer}
use Rattle.hir_env.specs.TypeLayers.{ParamLayer, PathTypeLayer, TypeBoundLayer}
use Rattle.hir_env.specs.TypePats.{name_given, type_pat_or_none}
use Rattle.hir_env.specs.declared.ctx.LowerCtx.{LowerCtx}
use Rattle.hir_env.proofs.Mapped.{beside}
use Rattle.hir_env.proofs.Mapped.{mapped_generic_arg, mapped_type_kind, mapped_path, mapped_segment, mapped_assoc_type_arg, mapped_param}
use Rattle.hir_env.proofs.Mapped.{mapped_path_type, mapped_type_bound}
use Rattle.thm_frame.specs.Questions.{Question}
use Rattle.spec_fold.proofs.Maps.{Maps, map_assoc_type_arg, map_generic_arg, map_param, map_path, map_path_type, map_segment}
use Rattle.spec_fold.proofs.Maps.{map_type_bound, map_type_kind, drop_claims}
use Rattle.thm_questions.specs.Asked as asked
use Rattle.thm_questions.specs.Decided.{of_type_pat_part}
use Rattle.thm_questions.specs.Areas.{NodeArea}
use Rattle.thm_questions.specs.Lists.{entered_calls}
use Rattle.thm_questions.specs.Nodes as node
use Rattle.thm_questions.specs.Parts.{of_present}
use Rattle.thm_questions.proofs.Asks.{aliased, cfg_asked, kinded_by, local_by}
use Rattle.thm_questions.proofs.Called.{type_called}
use Rattle.thm_questions.proofs.Claims.{Below, OfBound, OfPat, OfPath, OfSegment, claimed, claims, in_asked, in_nodes, lst, opt, opts}
use Rattle.thm_questions.proofs.Framing.{At, ByList, also, both, no_more, no_node, none, of_these, one, still, three, two}
use Rattle.thm_questions.proofs.ItemForms.{type_pat_or_by}
use Rattle.thm_questions.proofs.Parts.{answer_by, arg_list_by, bounds_by, constant_by, expr_by, first_and_rest_by, names_by, params_by}
use Rattle.thm_questions.proofs.Parts.{parens_by, pat_by, path_by, path_type_by, ret_by, type_by, types_by, use_tree_by, varargs_by}

abbrev in_type : OptionPat → OptionTypePat → OptionPat × OptionTypePat
in_type q t = (q, t)

-- a binding, which may be skipped
binding_by : {a : Answers} {area : NodeArea a} {f : HirFileId} {m : ModuleId} {ns : List NodeId} {xs : Answers → OptionArgs}
    {t : Answers → OptionType} {bs : Answers → Bounds} {qs : List Question} (is_skipped : Bool) (x : Option AstName) (dots : Bool)
    → ByList {X = OptionArgs × (OptionType × Bounds)} area f m ns (λ b. (xs b, (t b, bs b))) qs
    → ByList area f m ns (λ b. of.binding_of is_skipped x (xs b) dots (t b) (bs b)) (asked.of_binding is_skipped x qs)
binding_by true x dots h = none tree.skipped_arg
binding_by false None dots h = none tree.skipped_arg
binding_by false (Some x) dots h = one (λ v. tree.assoc_arg (name.Text x.t) v.0 dots v.1.0 v.1.1) h

module _ (a : Answers) (area : NodeArea a) (n : ℕ) (below : Below a area n) where
  abbrev bare : Maps (claimed a area n) written
  bare = drop_claims (claims a area n)

  -- a pattern with what it is in a type
  type_pat_by : (x : Option ((y : AstPat) × OfPat a area n y)) (p : LowerCtx)
      → At area p (node.some (opt in_nodes.pat x))
      (λ b. in_type (of.pat_or_none (λ y. y.1) (opt (beside (read.fold_pat b (entering b n))) x) p)
      (type_pat_or_none b.lang_items (of.pat_or_none (λ y. y.1) (opt (beside (read.fold_pat b (entering b n))) x) p)))
      (asked.some (opt (in_asked a n).pat x) p
      ++ of_type_pat_part (of.pat_or_none (λ y. read.read_pat a (entering a n) y.0) (opt (in_asked a n).pat x) p))
  type_pat_by None p = still (in_type tree.no_pat tree.no_type_pat)
  type_pat_by (Some x) p = let q = tree.some_pat (read.fold_pat a (entering a n) x.0 p) in
      also (λ b q. in_type q (type_pat_or_none b.lang_items q)) (pat_by a area n (Some x) p)
      (one (in_type q) (no_node (type_pat_or_by a area q)))

  impl_by : (nested : Bool) (s : AstPtr) (p : LowerCtx) (bs : List ((y : AstTypeBound) × OfBound a area n y))
      → At area p (node.each (lst in_nodes.type_bound bs))
      (λ b. of.impl_at nested p.impl_trait (in_file p s)
      (of.bounds_of (λ y. y.1) (lst (beside (read.fold_type_bound b (entering b n))) bs) (of.inside_impl p)))
      (if nested then [] else asked.each (lst (in_asked a n).type_bound bs) (of.inside_impl p))
  impl_by true s p bs = none (tree.nested_impl (in_file p s))
  impl_by false s p bs = one (tree.impl_type (in_file p s) p.impl_trait) (bounds_by a area n bs (of.inside_impl p))

  pub type_kind_by : (y : TypeKindLayer (claimed a area n)) (s : AstPtr) (p : LowerCtx)
      → At area p (node.type_nodes (map_type_kind in_nodes (map_type_kind bare y)))
      (λ b. of.type_kind_step b (itself (entering b n)) (mapped_type_kind b (entering b n) (map_type_kind bare y)) s p)
      (asked.type_asked a n (entered_calls a n) (map_type_kind (in_asked a n) (map_type_kind bare y)) p)
  type_kind_by (TypeKind-F.ParenType t) s p = one tree.paren_type (type_by a area n t p)
  type_kind_by (TypeKind-F.SliceType t) s p = one (tree.over_type (in_file p s) tree.slice_of) (type_by a area n t p)
  type_kind_by (TypeKind-F.ArrayType t c) s p = two (tree.array_type (in_file p s)) (constant_by a area n c p) (type_by a area n t p)
  type_kind_by (TypeKind-F.TupleType ts) s p = one (tree.tuple_type (in_file p s)) (types_by a area n ts p)
  type_kind_by (TypeKind-F.PathType x) s p = one (tree.path_type (in_file p s)) (path_by a area n x p)
  type_kind_by (TypeKind-F.PtrType m t) s p = one (tree.over_type (in_file p s) (tree.pointer_to (of.mutability m))) (type_by a area n t p)
  type_kind_by (TypeKind-F.RefType l m t) s p =
      one (tree.ref_type (in_file p s) (option_map (of.lifetime_of p) l) (of.mutability m)) (type_by a area n t p)
  type_kind_by (TypeKind-F.FnPtrType is_unsafe text ps r) s p =
      two (λ v t. tree.fn_type (in_file p s) (of.fn_head is_unsafe text v.0 v.1.0) v.1.1 t)
      (both (varargs_by a area n ps p) (both (names_by a area n ps p) (params_by a area n ps p))) (answer_by a area n r p)
  type_kind_by (TypeKind-F.ForType b t) s p = one (tree.for_type (of.binder_of b)) (type_by a area n t p)
  type_kind_by (TypeKind-F.ImplTraitType bs) s p =
      impl_by p.in_impl s p bs
  type_kind_by (TypeKind-F.DynTraitType bs) s p = one (tree.dyn_type (in_file p s)) (bounds_by a area n bs p)
  type_kind_by (TypeKind-F.PatternType t x) s p = two (λ t read. tree.pattern_type (in_file p s) t read.0 read.1)
      (type_by a area n t p) (type_pat_by x (of.inside_constant p))
  type_kind_by (TypeKind-F.MacroType None) s p = still (tree.macro_type (in_file p s) tree.callless tree.no_type)
  type_kind_by (TypeKind-F.MacroType (Some c)) s p = type_called a area n below c.0 p (in_file p s)
  type_kind_by TypeKind-F.NeverType s p = still (tree.leaf_type (in_file p s) tree.never_leaf)
  type_kind_by TypeKind-F.InferType s p = still (tree.leaf_type (in_file p s) tree.infer_leaf)

  pub param_by : (y : ParamLayer (claimed a area n)) (p : LowerCtx)
      → At area p (node.node_steps.param (map_param in_nodes (map_param bare y)))
      (λ b. of.param_step b (itself (entering b n)) (mapped_param b (entering b n) (map_param bare y)) p)
      (asked.param_asked a n (entered_calls a n) (map_param (in_asked a n) (map_param bare y)) p)
  param_by y p = let s = in_file p (ptr y.id y.range) in
      three (λ c q t. record {
        variadic = y.variadic;
        name = name_given q;
        ty = t;
        own = of.asked_param s c (tree.param q t);
      })
      (cfg_asked a area y.id) (pat_by a area n y.pat p) (type_by a area n y.ty p)

  pub plain_path_by : (y : PathLayer (claimed a area n)) (p : LowerCtx)
      → At area p (node.node_steps.path (map_path in_nodes (map_path bare y)))
      (λ b. of.plain_path b (itself (entering b n)) (mapped_path b (entering b n) (map_path bare y)) p)
      (asked.plain_asked a n (entered_calls a n) (map_path (in_asked a n) (map_path bare y)) p)
  plain_path_by y p = two (λ s u. tree.path None y.leading s.0 s.1 u) (first_and_rest_by a area n y.segs p) (use_tree_by a area n y.use_ p)

  called_by : (in_macro leading : Bool) (ss : List (Option ((s : AstPathSegment) × OfSegment a area n s)))
      (u : Option ((x : AstPath) × OfPath a area n x)) (p : LowerCtx) {made : Answers → Path} {qs : List Question}
      → At area p (of_present node.segment_nodes (opts in_nodes.segment ss) ++ node.some (opt in_nodes.path u)) made qs
      → At area p (of_present node.segment_nodes (opts in_nodes.segment ss) ++ node.some (opt in_nodes.path u))
      (λ b. of.called_path b (itself (entering b n)) in_macro leading (opts (beside (read.fold_segment b (entering b n))) ss)
      (opt (beside (read.fold_path b (entering b n))) u) p (made b))
      (qs ++ asked.of_local a in_macro (opts (in_asked a n).segment ss) (opt (in_asked a n).path u) p)
  called_by false leading ss u p h = no_more h
  called_by true leading [] None p h = no_more (one (or_broken leading) h)
  called_by true leading [] (Some u) p h = no_more h
  called_by true leading (None ∷ []) None p h = no_more (one (or_broken leading) h)
  called_by true leading (None ∷ []) (Some u) p h = no_more h
  called_by true leading (Some s ∷ []) None p {made = made} h = let id = (out-PathSegment s.0).id in
      also (λ b x. at_local_root (local_root b (of.context_at b p id)) x) h
      (one (λ r. at_local_root r (made a)) (of_these (λ i k. (i, (k.0, tt))) (local_by a area p id)))
  called_by true leading (Some s ∷ []) (Some u) p h = no_more h
  called_by true leading (None ∷ x ∷ ss) u p h = no_more h
  called_by true leading (Some s ∷ x ∷ ss) u p h = no_more h

  -- with what is asked of an alias of the path that is read here
  pub path_level_by : (y : PathLayer (claimed a area n)) (p : LowerCtx)
      → At area p (node.node_steps.path (map_path in_nodes (map_path bare y)))
      (λ b. of.path_step b (itself (entering b n)) (mapped_path b (entering b n) (map_path bare y)) p)
      ((asked.plain_asked a n (entered_calls a n) (map_path (in_asked a n) (map_path bare y)) p
      ++ asked.of_local a y.in_macro (opts (in_asked a n).segment y.segs) (opt (in_asked a n).path y.use_) p)
      ++ asked.of_alias_at a p (of.called_path a (itself (entering a n)) y.in_macro y.leading
      (opts (beside (read.fold_segment a (entering a n))) y.segs) (opt (beside (read.fold_path a (entering a n))) y.use_) p
      (of.plain_path a (itself (entering a n)) (mapped_path a (entering a n) (map_path bare y)) p)))
  path_level_by y p = also (λ b x. of.with_alias (of.alias_at b p x) x)
      (called_by y.in_macro y.leading y.segs y.use_ p (plain_path_by y p))
      (no_node (aliased a area p _))

  pub segment_level_by : (y : PathSegmentLayer (claimed a area n)) (p : LowerCtx)
      → At area p (node.in_segment (map_segment in_nodes (map_segment bare y)))
      (λ b. of.segment_step b (itself (entering b n)) (mapped_segment b (entering b n) (map_segment bare y)) p)
      (asked.segment_asked a n (entered_calls a n) (map_segment (in_asked a n) (map_segment bare y)) p)
  segment_level_by y p = kinded_by a area p y.seg y.name
      (two (λ xs ps. tree.segment_args xs ps y.rtn) (arg_list_by a area n y.generics p)
      (parens_by a area n y.parens p (ret_by a area n y.ret p)))
      (type_by a area n y.ty (of.inside_projection p)) (path_type_by a area n y.trait_ (of.inside_projection p))

  pub path_type_level_by : (y : PathTypeLayer (claimed a area n)) (p : LowerCtx)
      → At area p (node.node_steps.path_type (map_path_type in_nodes (map_path_type bare y)))
      (λ b. of.path_type_step b (itself (entering b n)) (mapped_path_type b (entering b n) (map_path_type bare y)) p)
      (asked.some_path (opt (in_asked a n).path y.path) p)
  path_type_level_by y p = one (λ x. record { pointer = in_file p (ptr y.id y.range); path = x }) (path_by a area n y.path p)

  pub arg_by : (y : GenericArgLayer (claimed a area n)) (p : LowerCtx)
      → At area p (node.arg_nodes (map_generic_arg in_nodes (map_generic_arg bare y)))
      (λ b. of.generic_arg_step b (itself (entering b n)) (mapped_generic_arg b (entering b n) (map_generic_arg bare y)) p)
      (asked.arg_asked a n (entered_calls a n) (map_generic_arg (in_asked a n) (map_generic_arg bare y)) p)
  arg_by (GenericArg-F.TypeArg x) p = one tree.type_arg (type_by a area n x p)
  arg_by (GenericArg-F.AssocTypeArg x) p = x.1 p
  arg_by (GenericArg-F.LifetimeArg x) p = still (of.lifetime_arg_of p x.lifetime)
  arg_by (GenericArg-F.ConstArg x) p = one (λ e. tree.const_arg (tree.constant e)) (expr_by a area n x (of.inside_constant p))

  pub assoc_arg_by : (y : AssocTypeArgLayer (claimed a area n)) (p : LowerCtx)
      → At area p (node.node_steps.assoc_type_arg (map_assoc_type_arg in_nodes (map_assoc_type_arg bare y)))
      (λ b. of.assoc_type_arg_step b (itself (entering b n)) (mapped_assoc_type_arg b (entering b n) (map_assoc_type_arg bare y)) p)
      (asked.assoc_arg_asked a n (entered_calls a n) (map_assoc_type_arg (in_asked a n) (map_assoc_type_arg bare y)) p)
  assoc_arg_by y p = let inner = of.outside_impl p in
      binding_by y.params y.name y.rtn (three {W = OptionArgs × (OptionType × Bounds)} (λ xs t bs. (xs, (t, bs)))
      (arg_list_by a area n y.generics inner) (type_by a area n y.ty inner) (bounds_by a area n y.bounds inner))

  pub bound_by : (y : TypeBoundLayer (claimed a area n)) (p : LowerCtx)
      → At area p (node.node_steps.type_bound (map_type_bound in_nodes (map_type_bound bare y)))
      (λ b. of.type_bound_step b (itself (entering b n)) (mapped_type_bound b (entering b n) (map_type_bound bare y)) p)
      (asked.some (opt (in_asked a n).path_type y.ty) p)
  bound_by y p = one (λ t. of.bound_of y.b t y.maybe (of.binder_of y.binder)
      (option_map (of.lifetime_of p) y.lifetime) (map (of.use_of p) y.uses)) (path_type_by a area n y.ty p)
