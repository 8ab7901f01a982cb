-- One level of a type, a path or an argument is framed where its parts are.
use Rattle.std.proofs.Common.{ℕ, Bool, true, false, List, [], ◌∷◌, Option, Some, None, map, option_map}
use Rattle.hir_base.specs.declared.node.AstPtr.{AstPtr}
use Rattle.hir_syntax.specs.declared.ast.ElseBranch.TheOpen.{GenericArg-F, TypeKind-F}
use Rattle.hir_syntax.specs.declared.ast.Path.{Path as AstPath}
use Rattle.hir_syntax.specs.declared.ast.PathSegment.{PathSegment as AstPathSegment, out-PathSegment}
use Rattle.hir_env.specs.ResolvedTree as tree
use Rattle.hir_env.specs.ResolvedTree.{OptionPat, OptionTypePat, Path}
use Rattle.hir_env.specs.Answers.{Answers}
use Rattle.hir_env.specs.Folds.{entering, fold_path, fold_segment}
use Rattle.hir_env.specs.Layers.{itself}
use Rattle.hir_env.specs.LocalPaths.{at_local_root, or_broken}
use Rattle.hir_env.specs.Paths as of
use Rattle.hir_env.specs.ResolveCtx.{in_file, ptr, site_of}
use Rattle.hir_env.specs.TypeLayers.{GenericArgLayer, TypeKindLayer, PathLayer, PathSegmentLayer, AssocTypeArgLayer}
use Rattle.hir_env.specs.TypeLayers.{ParamLayer, PathTypeLayer, TypeBoundLayer}
use Rattle.hir_env.specs.TypePats.{name_given, type_pat_or_none}
use Rattle.hir_env.specs.declared.ctx.LowerCtx.{LowerCtx}
use Rattle.hir_env.proofs.Mapped.{beside, listed_options, optional}
use Rattle.hir_env.proofs.Mapped.{mapped_generic_arg, mapped_type_kind, mapped_path, mapped_segment, mapped_assoc_type_arg, mapped_param}
use Rattle.hir_env.proofs.Mapped.{mapped_path_type, mapped_type_bound}
use Rattle.thm_frame.specs.Questions.{Area, Framed, Here}
use Rattle.thm_frame.proofs.Framing.{one, still, go_on, two, three, four}
use Rattle.thm_frame.proofs.Motives.{Below, OfPath, OfSegment, claimed}
use Rattle.thm_frame.proofs.Bare.{bare_generic_arg, bare_type_kind, bare_path, bare_segment, bare_assoc_type_arg, bare_param}
use Rattle.thm_frame.proofs.Bare.{bare_path_type, bare_type_bound}
use Rattle.thm_frame.proofs.Asks.{aliased, at_local_framed, cfg_asked, kinded_framed}
use Rattle.thm_frame.proofs.ItemForms.{type_pat_or_framed}
use Rattle.thm_frame.proofs.Called.{type_called}
use Rattle.thm_frame.proofs.Parts.{answer_framed, arg_list_framed, bounds_framed, constant_framed, expr_framed, first_framed}
use Rattle.thm_frame.proofs.Parts.{names_or_framed, params_or_framed, parens_framed, pat_framed, path_framed, path_type_framed}
use Rattle.thm_frame.proofs.Parts.{rest_framed, ret_framed, type_framed, types_framed, use_tree_framed, varargs_framed}

abbrev in_type : OptionPat → OptionTypePat → OptionPat × OptionTypePat
in_type q t = (q, t)

module _ (a : Answers) (area : Area a) (n : ℕ) (below : Below a area n) where
  pub type_kind_framed : (y : TypeKindLayer (claimed a area n)) (s : AstPtr) (p : LowerCtx) (w : Here area p)
      → Framed area (λ b. of.type_kind_step b (itself (entering b n)) (mapped_type_kind b (entering b n) (bare_type_kind a area n y)) s p) a
  type_kind_framed (TypeKind-F.ParenType t) s p w = one tree.paren_type (type_framed a area n t p w)
  type_kind_framed (TypeKind-F.SliceType t) s p w = one (tree.over_type (in_file p s) tree.slice_of) (type_framed a area n t p w)
  type_kind_framed (TypeKind-F.ArrayType t c) s p w =
      two (tree.array_type (in_file p s)) (constant_framed a area n c p w) (type_framed a area n t p w)
  type_kind_framed (TypeKind-F.TupleType ts) s p w = one (tree.tuple_type (in_file p s)) (types_framed a area n ts p w)
  type_kind_framed (TypeKind-F.PathType x) s p w = one (tree.path_type (in_file p s)) (path_framed a area n x p w)
  type_kind_framed (TypeKind-F.PtrType m t) s p w =
      one (tree.over_type (in_file p s) (tree.pointer_to (of.mutability m))) (type_framed a area n t p w)
  type_kind_framed (TypeKind-F.RefType l m t) s p w =
      one (tree.ref_type (in_file p s) (option_map (of.lifetime_of p) l) (of.mutability m)) (type_framed a area n t p w)
  type_kind_framed (TypeKind-F.FnPtrType is_unsafe text ps r) s p w =
      four (λ v ns ts t. tree.fn_type (in_file p s) (of.fn_head is_unsafe text v ns) ts t)
      (varargs_framed a area n ps p w) (names_or_framed a area n ps p w) (params_or_framed a area n ps p w) (answer_framed a area n r p w)
  type_kind_framed (TypeKind-F.ForType b t) s p w = one (tree.for_type (of.binder_of b)) (type_framed a area n t p w)
  type_kind_framed (TypeKind-F.ImplTraitType bs) s p w =
      one (of.impl_at p.in_impl p.impl_trait (in_file p s)) (bounds_framed a area n bs (of.inside_impl p) w)
  type_kind_framed (TypeKind-F.DynTraitType bs) s p w = one (tree.dyn_type (in_file p s)) (bounds_framed a area n bs p w)
  type_kind_framed (TypeKind-F.PatternType t x) s p w =
      two (λ t read. tree.pattern_type (in_file p s) t read.0 read.1) (type_framed a area n t p w)
      (go_on (λ b q. in_type q (type_pat_or_none b.lang_items q)) (pat_framed a area n x (of.inside_constant p) w)
      (one (in_type _) (type_pat_or_framed a area _)))
  type_kind_framed (TypeKind-F.MacroType None) s p w = still (tree.macro_type (in_file p s) tree.callless tree.no_type)
  type_kind_framed (TypeKind-F.MacroType (Some c)) s p w = type_called a area n below c.0 p w (in_file p s)
  type_kind_framed TypeKind-F.NeverType s p w = still (tree.leaf_type (in_file p s) tree.never_leaf)
  type_kind_framed TypeKind-F.InferType s p w = still (tree.leaf_type (in_file p s) tree.infer_leaf)

  pub param_framed : (y : ParamLayer (claimed a area n)) (p : LowerCtx) (w : Here area p)
      → Framed area (λ b. of.param_step b (itself (entering b n)) (mapped_param b (entering b n) (bare_param a area n y)) p) a
  param_framed y p w = let s = in_file p (ptr y.id y.range) in
      three (λ c q t. record {
        variadic = y.variadic;
        name = name_given q;
        ty = t;
        own = of.asked_param s c (tree.param q t);
      })
      (cfg_asked a area (site_of s) w.0) (pat_framed a area n y.pat p w) (type_framed a area n y.ty p w)

  pub plain_path_framed : (y : PathLayer (claimed a area n)) (p : LowerCtx) (w : Here area p)
      → Framed area (λ b. of.plain_path b (itself (entering b n)) (mapped_path b (entering b n) (bare_path a area n y)) p) a
  plain_path_framed y p w = three (λ f r u. tree.path None y.leading f r u)
      (first_framed a area n y.segs p w) (rest_framed a area n y.segs p w) (use_tree_framed a area n y.use_ p w)

  called_path_framed : (in_macro leading : Bool) (ss : List (Option ((s : AstPathSegment) × OfSegment a area n s)))
      (u : Option ((x : AstPath) × OfPath a area n x)) (p : LowerCtx) (w : Here area p) (made : Answers → Path) → Framed area made a
      → Framed area (λ b. of.called_path b (itself (entering b n)) in_macro leading
      (listed_options (beside (fold_segment b (entering b n))) (listed_options (λ e. e.0) ss))
      (optional (beside (fold_path b (entering b n))) (optional (λ e. e.0) u)) p (made b)) a
  called_path_framed false leading ss u p w made h = h
  called_path_framed true leading [] None p w made h = one (or_broken leading) h
  called_path_framed true leading [] (Some u) p w made h = h
  called_path_framed true leading (None ∷ []) None p w made h = one (or_broken leading) h
  called_path_framed true leading (None ∷ []) (Some u) p w made h = h
  called_path_framed true leading (Some s ∷ []) None p w made h = two at_local_root (at_local_framed a area p w (out-PathSegment s.0).id) h
  called_path_framed true leading (Some s ∷ []) (Some u) p w made h = h
  called_path_framed true leading (None ∷ x ∷ ss) u p w made h = h
  called_path_framed true leading (Some s ∷ x ∷ ss) u p w made h = h

  pub path_level_framed : (y : PathLayer (claimed a area n)) (p : LowerCtx) (w : Here area p)
      → Framed area (λ b. of.path_step b (itself (entering b n)) (mapped_path b (entering b n) (bare_path a area n y)) p) a
  path_level_framed y p w = go_on (λ b x. of.with_alias (of.alias_at b p x) x)
      (called_path_framed y.in_macro y.leading y.segs y.use_ p w
      (λ b. of.plain_path b (itself (entering b n)) (mapped_path b (entering b n) (bare_path a area n y)) p) (plain_path_framed y p w))
      (aliased a area p w _)

  pub segment_framed : (y : PathSegmentLayer (claimed a area n)) (p : LowerCtx) (w : Here area p)
      → Framed area (λ b. of.segment_step b (itself (entering b n)) (mapped_segment b (entering b n) (bare_segment a area n y)) p) a
  segment_framed y p w = kinded_framed a area p w y.seg y.name _ _ _
      (two (λ xs ps. tree.segment_args xs ps y.rtn) (arg_list_framed a area n y.generics p w)
      (parens_framed a area n y.parens _ p w (ret_framed a area n y.ret p w)))
      (type_framed a area n y.ty (of.inside_projection p) w) (path_type_framed a area n y.trait_ (of.inside_projection p) w)

  pub path_type_level_framed : (y : PathTypeLayer (claimed a area n)) (p : LowerCtx) (w : Here area p)
      → Framed area (λ b. of.path_type_step b (itself (entering b n)) (mapped_path_type b (entering b n) (bare_path_type a area n y)) p) a
  path_type_level_framed y p w = one (λ x. record { pointer = in_file p (ptr y.id y.range); path = x }) (path_framed a area n y.path p w)

  pub arg_framed : (y : GenericArgLayer (claimed a area n)) (p : LowerCtx) (w : Here area p)
      → Framed area
      (λ b. of.generic_arg_step b (itself (entering b n)) (mapped_generic_arg b (entering b n) (bare_generic_arg a area n y)) p) a
  arg_framed (GenericArg-F.TypeArg x) p w = one tree.type_arg (type_framed a area n x p w)
  arg_framed (GenericArg-F.AssocTypeArg x) p w = x.1 p w
  arg_framed (GenericArg-F.LifetimeArg x) p w = still (of.lifetime_arg_of p x.lifetime)
  arg_framed (GenericArg-F.ConstArg x) p w = one (λ e. tree.const_arg (tree.constant e)) (expr_framed a area n x (of.inside_constant p) w)

  pub assoc_arg_framed : (y : AssocTypeArgLayer (claimed a area n)) (p : LowerCtx) (w : Here area p)
      → Framed area (λ b. of.assoc_type_arg_step b (itself (entering b n))
      (mapped_assoc_type_arg b (entering b n) (bare_assoc_type_arg a area n y)) p) a
  assoc_arg_framed y p w = let inner = of.outside_impl p in
      three (λ xs t bs. of.binding_of y.params y.name xs y.rtn t bs)
      (arg_list_framed a area n y.generics inner w) (type_framed a area n y.ty inner w) (bounds_framed a area n y.bounds inner w)

  pub bound_framed : (y : TypeBoundLayer (claimed a area n)) (p : LowerCtx) (w : Here area p)
      → Framed area
      (λ b. of.type_bound_step b (itself (entering b n)) (mapped_type_bound b (entering b n) (bare_type_bound a area n y)) p) a
  bound_framed y p w = one (λ t. of.bound_of y.b t y.maybe (of.binder_of y.binder)
      (option_map (of.lifetime_of p) y.lifetime) (map (of.use_of p) y.uses)) (path_type_framed a area n y.ty p w)
