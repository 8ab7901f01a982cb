-- One level of a type, a path or an argument is what the rules allow where its parts are.
use Rattle.std.proofs.Common.{◌≡◌, refl, sym, subst, ℕ, zero, suc, Bool, true, false, List, [], ◌∷◌, Option, Some, None, codes, bytes_eq}
use Rattle.std.proofs.Common.{map, option_map, if◌then◌else◌}
use Rattle.hir_base.specs.declared.node.AstPtr.{AstPtr}
use Rattle.hir_syntax.specs.declared.ast.ElseBranch.TheOpen.{GenericArg-F, TypeKind-F}
use Rattle.hir_syntax.specs.declared.ast.Lifetime.{Lifetime as AstLifetime}
use Rattle.hir_syntax.specs.declared.ast.Name.{Name as AstName}
use Rattle.hir_syntax.specs.declared.ast.Path.{Path as AstPath}
use Rattle.hir_syntax.specs.declared.ast.PathSegment.{PathSegment as AstPathSegment, out-PathSegment}
use Rattle.hir_syntax.specs.declared.ast.SegmentKind.{SegmentKind}
use Rattle.hir_syntax.specs.declared.ast.SegmentKind.TheVariants as kind
use Rattle.hir_syntax.specs.declared.macros.Fragment.TheVariants as fragment
use Rattle.hir_syntax.specs.declared.macros.MacroCall.{MacroCall as AstMacroCall}
use Rattle.hir_syntax.specs.declared.types.BoundKind.{BoundKind}
use Rattle.hir_syntax.specs.declared.types.BoundKind.TheVariants as bound
use Rattle.hir_syntax.specs.declared.types.ForBinder.{ForBinder as AstForBinder}
use Rattle.hir_syntax.specs.declared.types.GenericArg.{GenericArg as AstGenericArg}
use Rattle.hir_syntax.specs.declared.types.LifetimeArg.{LifetimeArg as AstLifetimeArg}
use Rattle.hir_syntax.specs.declared.types.PathType.{PathType as AstPathType, out-PathType}
use Rattle.hir_syntax.specs.declared.types.Type_.{Type_ as AstType_}
use Rattle.hir_syntax.specs.declared.types.TypeBound.{TypeBound as AstTypeBound}
use Rattle.hir_syntax.specs.declared.types.UseArg.{UseArg as AstUseArg}
use Rattle.hir_store.specs.Pointers.{Pointer}
use Rattle.hir_store.specs.declared.name.Name.TheVariants as name
use Rattle.hir_env.specs.ResolvedTree as tree
use Rattle.hir_env.specs.ResolvedTree.{Called, OptionPath, OptionType, Parts, Path, Segment, Segments, SegmentArgs}
use Rattle.hir_env.specs.Wrapped.{AstRetType}
use Rattle.hir_syntax.specs.declared.types.Param.{Param as AstParam}
use Rattle.hir_store.specs.declared.name.Name.{Name}
use Rattle.hir_env.specs.Answers.{Answers, Expanding, unresolved, no_expansion, expanded}
use Rattle.hir_env.specs.Calls.{asked_call, called, entered_type, type_in}
use Rattle.hir_env.specs.Folds.{entering, fold_generic_arg, fold_path, fold_path_type, fold_segment, fold_type, fold_type_bound}
use Rattle.hir_env.specs.Folds.{read_expr, read_pat, read_stmt, read_type, read_value}
use Rattle.hir_env.specs.Layers.{Entering, itself}
use Rattle.hir_env.specs.LocalPaths.{at_local_root, local_root}
use Rattle.hir_env.specs.Paths as of
use Rattle.hir_env.specs.ResolveCtx.{in_file}
use Rattle.hir_env.specs.TypeLayers.{GenericArgLayer, TypeKindLayer, PathLayer, PathSegmentLayer, AssocTypeArgLayer}
use Rattle.hir_env.specs.TypeLayers.{TypeBoundLayer}
use Rattle.hir_env.specs.declared.expand.FragmentKind.TheVariants as fragments
use Rattle.hir_env.specs.declared.ctx.LowerCtx.{LowerCtx}
use Rattle.hir_env.proofs.Mapped.{beside, map_list, listed_options, optional}
use Rattle.hir_env.proofs.Mapped.{mapped_generic_arg, mapped_type_kind, mapped_path, mapped_segment, mapped_assoc_type_arg}
use Rattle.hir_env.proofs.Mapped.{mapped_type_bound}
use Rattle.thm_reading.specs.Rules as rule
use Rattle.thm_reading.specs.Shapes as shape
use Rattle.thm_reading.specs.Rules.{AnswerAs, ArgAs, BindingAs, BoundAs, BoundsAs, FirstAs, FnParamsAs, OptTypeAs, OptPathAs, OptUseTreeAs}
use Rattle.thm_reading.specs.Rules.{PathAs, SegmentAs, TypeKindAs, UseTreeAs}
use Rattle.thm_reading.specs.Shapes.{at_root, ends_variadic, start_of}
use Rattle.thm_reading.specs.LowerCtx as says
use Rattle.thm_reading.specs.LowerCtx.{CallAs, in_constant, impl_scope, projection_scope}
use Rattle.thm_reading.proofs.Bare.{bare_generic_arg, bare_type_kind, bare_path, bare_segment, bare_assoc_type_arg}
use Rattle.thm_reading.proofs.Bare.{bare_type_bound}
use Rattle.thm_reading.proofs.Motives.{AllByRules, Below, OfArg, OfBound, OfPath, OfPathType, OfSegment, OfType, at, claimed}
use Rattle.thm_reading.proofs.Parts.{answer_part, arg_list_part, bounds_part, expr_part, first_part, len_part, params_part, parens_part}
use Rattle.thm_reading.proofs.Parts.{pat_part}
use Rattle.thm_reading.proofs.Parts.{path_part, type_part, types_part, use_tree_part, varargs_part}
use Rattle.thm_reading.proofs.Same.{alias_same, impl_same, projection_same, root_same, use_args_same}

-- calls

pub call_said : (s : Pointer) (x : Expanding) → CallAs s (Some x) (called s x)
call_said s (unresolved x) = says.not_found
call_said s no_expansion = says.not_expanded
call_said s (expanded f x es) = says.goes_in

-- how that is read which stands there, with so many calls more
abbrev pub fresh : Answers → ℕ → Entering
fresh b n = record {
  left = n;
  expr = read_expr b (entering b n);
  value = read_value b (entering b n);
  stmt = read_stmt b (entering b n);
  pat = read_pat b (entering b n);
  type_ = read_type b (entering b n);
}

module _ (a : Answers) where
  type_within : (n : ℕ) (h : AllByRules a n) (p : LowerCtx) (x : Expanding)
      → OptTypeAs a (says.within (Some x) (at (suc n) p)) (says.its_type (Some x)) (type_in (fresh a n) (at (suc n) p) x)
  type_within n h p (expanded f (Some (fragment.Type_ t)) es) = rule.some_type (h.type_ t (record p { file_id = f }))
  type_within n h p (expanded f (Some (fragment.Expr t)) es) = rule.no_type
  type_within n h p (expanded f (Some (fragment.Pat t)) es) = rule.no_type
  type_within n h p (expanded f (Some (fragment.Stmts t)) es) = rule.no_type
  type_within n h p (expanded f None es) = rule.no_type
  type_within n h p (unresolved x) = rule.no_type
  type_within n h p no_expansion = rule.no_type

  pub type_called : (n : ℕ) (h : Below a n) (c : AstMacroCall) (p : LowerCtx) (s : Pointer)
      → TypeKindAs a (at n p) s (TypeKind-F.MacroType (Some c)) (entered_type a (entering a n) c (at n p) s)
  type_called zero h c p s = rule.called_type says.too_deep rule.no_type
  type_called (suc n) h c p s = rule.called_type (call_said _ (asked_call a fragments.Type_ c p))
      (type_within n h p (asked_call a fragments.Type_ c p))

module _ (a : Answers) {p : LowerCtx} where
  fn_of : {s : Pointer} (is_unsafe : Bool) (text : Option (List ℕ)) (ps : List AstParam) (r : Option AstRetType) {v : Bool}
      {ns : List (Option Name)} {ts : Parts} {t : OptionType} → v ≡ ends_variadic false ps → FnParamsAs a p ps ns ts → AnswerAs a p r t
      → TypeKindAs a p s (TypeKind-F.FnPtrType is_unsafe text (Some ps) r) (tree.fn_type s (of.fn_head is_unsafe text v ns) ts t)
  fn_of {s = s} is_unsafe text ps r {ns = ns} {ts = ts} {t = t} e h k = subst
      (λ v. TypeKindAs a p s (TypeKind-F.FnPtrType is_unsafe text (Some ps) r) (tree.fn_type s (of.fn_head is_unsafe text v ns) ts t))
      (sym e) (rule.fn_type h k)

  path_of : {m l : Bool} {ss : List (Option AstPathSegment)} {us : Option AstPath} {f : Segment} {r : Segments} {u : OptionPath}
      → start_of m ss us l ≡ shape.as_written → FirstAs a p ss f r → OptUseTreeAs a p us u
      → PathAs a p m l ss us (of.with_alias (of.alias_at a p (tree.path None l f r u)) (tree.path None l f r u))
  path_of {l = l} {f = f} {r = r} {u = u} e h k = rule.path e h k (alias_same a p (tree.path None l f r u))

  broken_of : {m l : Bool} {ss : List (Option AstPathSegment)} {us : Option AstPath} → start_of m ss us l ≡ shape.lacking
      → (let z = tree.path None false tree.broken_segment tree.no_segments tree.no_path in
      PathAs a p m l ss us (of.with_alias (of.alias_at a p z) z))
  broken_of e = rule.broken_path e (alias_same a p (tree.path None false tree.broken_segment tree.no_segments tree.no_path))

  root_of : (leading : Bool) (s : AstPathSegment) {f : Segment} {r : Segments} → FirstAs a p (Some s ∷ []) f r
      → (let z = at_local_root (local_root a (of.context_at a p (out-PathSegment s).id)) (tree.path None leading f r tree.no_path) in
      PathAs a p true leading (Some s ∷ []) None (of.with_alias (of.alias_at a p z) z))
  root_of leading s {f = f} {r = r} h = let c = of.context_at a p (out-PathSegment s).id in
      subst (λ z. PathAs a p true leading (Some s ∷ []) None (of.with_alias (of.alias_at a p z) z))
      (sym (root_same a c (a.local_inner c) leading f r))
      (rule.root_path refl h refl (alias_same a p (tree.path None leading f r (at_root a p s (tree.path None leading f r tree.no_path)))))

module _ (a : Answers) (n : ℕ) (below : Below a n) where
  impl_level : (bs : List ((y : AstTypeBound) × OfBound a n y)) (p : LowerCtx) (s : Pointer) (inner : Bool) → p.in_impl ≡ inner
      → TypeKindAs a (at n p) s (TypeKind-F.ImplTraitType (map_list (λ e. e.0) bs)) (of.impl_at inner p.impl_trait s
      (of.bounds_of (λ y. y.1) (map_list (beside (fold_type_bound a (entering a n))) (map_list (λ e. e.0) bs)) (of.inside_impl (at n p))))
  impl_level bs p s true is = rule.impl_in_impl is
  impl_level bs p s false is = rule.impl_type is
      (subst (λ l. BoundsAs a (record p { left = n; in_impl = true; lifetimes = l }) (map_list (λ e. e.0) bs)
      (of.bounds_of (λ y. y.1) (map_list (beside (fold_type_bound a (entering a n))) (map_list (λ e. e.0) bs)) (of.inside_impl (at n p))))
      (impl_same p.lifetimes) (bounds_part a n bs (of.inside_impl p)))

  pub type_kind_level : (y : TypeKindLayer (claimed a n)) (s : AstPtr) (p : LowerCtx)
      → TypeKindAs a (at n p) (in_file (at n p) s) (bare_type_kind a n y)
      (of.type_kind_step a (itself (entering a n)) (mapped_type_kind a (entering a n) (bare_type_kind a n y)) s (at n p))
  type_kind_level (TypeKind-F.ParenType t) s p = rule.paren_type (type_part a n t p)
  type_kind_level (TypeKind-F.SliceType t) s p = rule.slice_type (type_part a n t p)
  type_kind_level (TypeKind-F.ArrayType t c) s p = rule.array_type (type_part a n t p) (len_part a n c p)
  type_kind_level (TypeKind-F.TupleType ts) s p = rule.tuple_type (types_part a n ts p)
  type_kind_level (TypeKind-F.PathType x) s p = rule.path_type (path_part a n x p)
  type_kind_level (TypeKind-F.PtrType m t) s p = rule.ptr_type (type_part a n t p)
  type_kind_level (TypeKind-F.RefType l m t) s p = rule.ref_type (type_part a n t p)
  type_kind_level (TypeKind-F.FnPtrType is_unsafe text (Some ps) r) s p =
      fn_of a is_unsafe text _ _ (varargs_part a n false ps p) (params_part a n ps p) (answer_part a n r p)
  type_kind_level (TypeKind-F.FnPtrType is_unsafe text None r) s p = rule.fn_without_list (answer_part a n r p)
  type_kind_level (TypeKind-F.ForType b t) s p = rule.for_type (type_part a n t p)
  type_kind_level (TypeKind-F.ImplTraitType bs) s p = impl_level bs p (in_file p s) p.in_impl refl
  type_kind_level (TypeKind-F.DynTraitType bs) s p = rule.dyn_type (bounds_part a n bs p)
  type_kind_level (TypeKind-F.PatternType t x) s p = rule.pattern_type (type_part a n t p) (pat_part a n x (in_constant p))
  type_kind_level (TypeKind-F.MacroType None) s p = rule.callless_type
  type_kind_level (TypeKind-F.MacroType (Some c)) s p = type_called a n below c.0 p (in_file p s)
  type_kind_level TypeKind-F.NeverType s p = rule.never_type
  type_kind_level TypeKind-F.InferType s p = rule.infer_type

  path_by : (in_macro leading : Bool) (ss : List (Option ((s : AstPathSegment) × OfSegment a n s)))
      (u : Option ((x : AstPath) × OfPath a n x)) (p : LowerCtx)
      → (let z = of.called_path a (itself (entering a n)) in_macro leading
      (listed_options (beside (fold_segment a (entering a n))) (listed_options (λ e. e.0) ss))
      (optional (beside (fold_path a (entering a n))) (optional (λ e. e.0) u)) (at n p)
      (tree.path None leading
      (of.first_of (λ y. y.1) (listed_options (beside (fold_segment a (entering a n))) (listed_options (λ e. e.0) ss)) (at n p))
      (of.rest_of (λ y. y.1) (listed_options (beside (fold_segment a (entering a n))) (listed_options (λ e. e.0) ss)) (at n p))
      (of.path_or_none (λ y. y.1.use_tree) (optional (beside (fold_path a (entering a n))) (optional (λ e. e.0) u)) (at n p))) in
      PathAs a (at n p) in_macro leading (listed_options (λ e. e.0) ss) (optional (λ e. e.0) u)
      (of.with_alias (of.alias_at a (at n p) z) z))
  path_by false leading ss u p = path_of a refl (first_part a n ss p) (use_tree_part a n u p)
  path_by true false [] None p = broken_of a refl
  path_by true true [] None p = path_of a refl (first_part a n [] p) (use_tree_part a n None p)
  path_by true leading [] (Some u) p = path_of a refl (first_part a n [] p) (use_tree_part a n (Some u) p)
  path_by true false (None ∷ []) None p = broken_of a refl
  path_by true true (None ∷ []) None p = path_of a refl (first_part a n (None ∷ []) p) (use_tree_part a n None p)
  path_by true leading (None ∷ []) (Some u) p = path_of a refl (first_part a n (None ∷ []) p) (use_tree_part a n (Some u) p)
  path_by true leading (Some s ∷ []) None p = root_of a leading s.0 (first_part a n (Some s ∷ []) p)
  path_by true leading (Some s ∷ []) (Some u) p = path_of a refl (first_part a n (Some s ∷ []) p) (use_tree_part a n (Some u) p)
  path_by true leading (None ∷ x ∷ ss) u p = path_of a refl (first_part a n (None ∷ x ∷ ss) p) (use_tree_part a n u p)
  path_by true leading (Some s ∷ x ∷ ss) u p = path_of a refl (first_part a n (Some s ∷ x ∷ ss) p) (use_tree_part a n u p)

  pub path_level : (y : PathLayer (claimed a n)) (p : LowerCtx)
      → PathAs a (at n p) (bare_path a n y).in_macro (bare_path a n y).leading (bare_path a n y).segs (bare_path a n y).use_
      (of.path_step a (itself (entering a n)) (mapped_path a (entering a n) (bare_path a n y)) (at n p))
  path_level y p = path_by y.in_macro y.leading y.segs y.use_ p

  pub use_tree_level : (y : PathLayer (claimed a n)) (p : LowerCtx)
      → UseTreeAs a (at n p) (bare_path a n y).leading (bare_path a n y).segs (bare_path a n y).use_
      (of.plain_path a (itself (entering a n)) (mapped_path a (entering a n) (bare_path a n y)) (at n p))
  use_tree_level y p = rule.use_tree (first_part a n y.segs p) (use_tree_part a n y.use_ p)

  -- segments

  named_by : (n' : AstName) (b : Bool) → bytes_eq n'.t (codes "$crate") ≡ b
      → (g : Option (List ((y : AstGenericArg) × OfArg a n y))) (ar : Option (List (Option ((t : AstType_) × OfType a n t))))
      (r : Option (Option ((t : AstType_) × OfType a n t))) (d : Bool) (t : Option AstType_) (x : Option AstPathType) (p : LowerCtx)
      → SegmentAs a (at n p) (Some kind.Name) (Some n') (optional (map_list (λ e. e.0)) g) (optional (listed_options (λ e. e.0)) ar)
      (optional (optional (λ e. e.0)) r) d t x
      (if b then tree.dollar_crate_segment (of.crate_root_at a (at n p) n'.id) else tree.name_segment (name.Text n'.t) tt
      (tree.segment_args (of.arg_list_or_none (of.generic_args_of (λ y. y.1))
      (optional (map_list (beside (fold_generic_arg a (entering a n)))) (optional (map_list (λ e. e.0)) g)) (at n p))
      (of.parens_or_none (of.parts_of (of.type_or_none (λ y. y.1)))
      (optional (listed_options (beside (fold_type a (entering a n)))) (optional (listed_options (λ e. e.0)) ar))
      (of.ret_or_none (of.type_or_none (λ y. y.1))
      (optional (optional (beside (fold_type a (entering a n)))) (optional (optional (λ e. e.0)) r)) (at n p)) (at n p)) d))
  named_by n' true is g ar r d t x p = rule.dollar_crate is
  named_by n' false is g ar r d t x p = rule.named is (arg_list_part a n g p) (parens_part a n ar r p)

  at_projection : (t : (y : AstType_) × OfType a n y) (p : LowerCtx)
      → OptTypeAs a (record p { left = n; lifetimes = projection_scope p.lifetimes })
      (Some t.0) (tree.some_type (fold_type a (entering a n) t.0 (of.inside_projection (at n p))))
  at_projection t p = subst (λ l. OptTypeAs a (record p { left = n; lifetimes = l }) (Some t.0)
      (tree.some_type (fold_type a (entering a n) t.0 (of.inside_projection (at n p)))))
      (projection_same p.lifetimes) (rule.some_type (t.1 (of.inside_projection p)))

  of_trait_at : (x : (y : AstPathType) × OfPathType a n y) (p : LowerCtx)
      → OptPathAs a (record p { left = n; lifetimes = projection_scope p.lifetimes })
      (out-PathType x.0).path (fold_path_type a (entering a n) x.0 (of.inside_projection (at n p))).path
  of_trait_at x p = subst (λ l. OptPathAs a (record p { left = n; lifetimes = l }) (out-PathType x.0).path
      (fold_path_type a (entering a n) x.0 (of.inside_projection (at n p))).path)
      (projection_same p.lifetimes) (x.1 (of.inside_projection p)).path

  segment_by : (k : Option SegmentKind) (m : Option AstName)
      (g : Option (List ((y : AstGenericArg) × OfArg a n y))) (ar : Option (List (Option ((t : AstType_) × OfType a n t))))
      (r : Option (Option ((t : AstType_) × OfType a n t))) (d : Bool) (t : Option ((t : AstType_) × OfType a n t))
      (x : Option ((y : AstPathType) × OfPathType a n y)) (p : LowerCtx)
      → SegmentAs a (at n p) k m (optional (map_list (λ e. e.0)) g) (optional (listed_options (λ e. e.0)) ar)
      (optional (optional (λ e. e.0)) r) d (optional (λ e. e.0) t) (optional (λ e. e.0) x)
      (of.kinded_segment a (at n p) k m
      (tree.segment_args (of.arg_list_or_none (of.generic_args_of (λ y. y.1))
      (optional (map_list (beside (fold_generic_arg a (entering a n)))) (optional (map_list (λ e. e.0)) g)) (at n p))
      (of.parens_or_none (of.parts_of (of.type_or_none (λ y. y.1)))
      (optional (listed_options (beside (fold_type a (entering a n)))) (optional (listed_options (λ e. e.0)) ar))
      (of.ret_or_none (of.type_or_none (λ y. y.1))
      (optional (optional (beside (fold_type a (entering a n)))) (optional (optional (λ e. e.0)) r)) (at n p)) (at n p)) d)
      (of.type_or_none (λ y. y.1) (optional (beside (fold_type a (entering a n))) (optional (λ e. e.0) t)) (of.inside_projection (at n p)))
      (of.path_type_or_none (λ y. y.1) (optional (beside (fold_path_type a (entering a n))) (optional (λ e. e.0) x))
      (of.inside_projection (at n p))))
  segment_by None m g ar r d t x p = rule.kindless
  segment_by (Some kind.Name) None g ar r d t x p = rule.nameless
  segment_by (Some kind.Name) (Some m) g ar r d t x p = named_by m (bytes_eq m.t (codes "$crate")) refl g ar r d _ _ p
  segment_by (Some kind.SelfKw) m g ar r d t x p = rule.self
  segment_by (Some kind.CrateKw) m g ar r d t x p = rule.crate
  segment_by (Some kind.SuperKw) m g ar r d t x p = rule.super
  segment_by (Some kind.SelfTypeKw) m g ar r d t x p = rule.self_type
  segment_by (Some kind.Qualified) m g ar r d None x p = rule.untyped
  segment_by (Some kind.Qualified) m g ar r d (Some t) None p = rule.of_type (at_projection t p)
  segment_by (Some kind.Qualified) m g ar r d (Some t) (Some x) p = subst
      (λ w. SegmentAs a (at n p) (Some kind.Qualified) m (optional (map_list (λ e. e.0)) g) (optional (listed_options (λ e. e.0)) ar)
      (optional (optional (λ e. e.0)) r) d (Some t.0) (Some x.0)
      (tree.trait_segment (fold_type a (entering a n) t.0 (of.inside_projection (at n p))) w
      (fold_path_type a (entering a n) x.0 (of.inside_projection (at n p))).path))
      (sym (x.1 (of.inside_projection p)).pointer) (rule.of_trait (at_projection t p) (of_trait_at x p))

  pub segment_level : (y : PathSegmentLayer (claimed a n)) (p : LowerCtx)
      → (let s = bare_segment a n y in SegmentAs a (at n p) s.seg s.name s.generics s.parens s.ret s.rtn s.ty s.trait_
      (of.segment_step a (itself (entering a n)) (mapped_segment a (entering a n) s) (at n p)))
  segment_level y p = segment_by y.seg y.name y.generics y.parens y.ret y.rtn y.ty y.trait_ p

  -- arguments

  lifetime_by : (l : AstLifetimeArg) (x : Option AstLifetime) (p : LowerCtx) → l.lifetime ≡ x
      → ArgAs a (at n p) (GenericArg-F.LifetimeArg l) (of.lifetime_arg_of (at n p) x)
  lifetime_by l None p is = rule.lacking_lifetime is
  lifetime_by l (Some x) p is = rule.lifetime_arg is

  pub arg_level : (y : GenericArgLayer (claimed a n)) (p : LowerCtx)
      → ArgAs a (at n p) (bare_generic_arg a n y)
      (of.generic_arg_step a (itself (entering a n)) (mapped_generic_arg a (entering a n) (bare_generic_arg a n y)) (at n p))
  arg_level (GenericArg-F.TypeArg x) p = rule.type_arg (type_part a n x p)
  arg_level (GenericArg-F.AssocTypeArg x) p = rule.assoc_arg (x.1 p)
  arg_level (GenericArg-F.LifetimeArg x) p = lifetime_by x x.lifetime p refl
  arg_level (GenericArg-F.ConstArg x) p = rule.const_arg (expr_part a n x (in_constant p))

  binding_by : (b : Bool) (m : Option AstName) (g : Option (List ((y : AstGenericArg) × OfArg a n y))) (d : Bool)
      (t : Option ((t : AstType_) × OfType a n t)) (bs : List ((y : AstTypeBound) × OfBound a n y)) (p : LowerCtx)
      → BindingAs a (at n p) b m (optional (map_list (λ e. e.0)) g) d (optional (λ e. e.0) t) (map_list (λ e. e.0) bs)
      (of.binding_of b m (of.arg_list_or_none (of.generic_args_of (λ y. y.1))
      (optional (map_list (beside (fold_generic_arg a (entering a n)))) (optional (map_list (λ e. e.0)) g)) (of.outside_impl (at n p))) d
      (of.type_or_none (λ y. y.1) (optional (beside (fold_type a (entering a n))) (optional (λ e. e.0) t)) (of.outside_impl (at n p)))
      (of.bounds_of (λ y. y.1) (map_list (beside (fold_type_bound a (entering a n))) (map_list (λ e. e.0) bs)) (of.outside_impl (at n p))))
  binding_by true m g d t bs p = rule.with_list
  binding_by false None g d t bs p = rule.unnamed
  binding_by false (Some m) g d t bs p =
      rule.binding (arg_list_part a n g (of.outside_impl p)) (type_part a n t (of.outside_impl p)) (bounds_part a n bs (of.outside_impl p))

  pub assoc_arg_level : (y : AssocTypeArgLayer (claimed a n)) (p : LowerCtx)
      → (let b = bare_assoc_type_arg a n y in BindingAs a (at n p) b.params b.name b.generics b.rtn b.ty b.bounds
      (of.assoc_type_arg_step a (itself (entering a n)) (mapped_assoc_type_arg a (entering a n) b) (at n p)))
  assoc_arg_level y p = binding_by y.params y.name y.generics y.rtn y.ty y.bounds p

  bound_by : (k : Option BoundKind) (t : Option ((y : AstPathType) × OfPathType a n y)) (m : Bool) (b : Option AstForBinder)
      (l : Option AstLifetime) (us : List AstUseArg) (p : LowerCtx)
      → BoundAs a (at n p) k (optional (λ e. e.0) t) m b l us
      (of.bound_of k (of.path_type_or_none (λ y. y.1) (optional (beside (fold_path_type a (entering a n))) (optional (λ e. e.0) t))
      (at n p)) m
      (of.binder_of b) (option_map (of.lifetime_of (at n p)) l) (map (of.use_of (at n p)) us))
  bound_by None t m b l us p = rule.kindless_bound
  bound_by (Some bound.Path) None m b l us p = rule.pathless_bound
  bound_by (Some bound.Path) (Some t) m b l us p = subst
      (λ w. BoundAs a (at n p) (Some bound.Path) (Some t.0) m b l us
      (tree.path_bound w (fold_path_type a (entering a n) t.0 (at n p)).path m (of.binder_of b)))
      (sym (t.1 p).pointer) (rule.path_bound (t.1 p).path)
  bound_by (Some bound.Lifetime) t m b None us p = rule.lacking_bound
  bound_by (Some bound.Lifetime) t m b (Some l) us p = rule.lifetime_bound
  bound_by (Some bound.Use) t m b l us p =
      subst (λ xs. BoundAs a (at n p) (Some bound.Use) (optional (λ e. e.0) t) m b l us (tree.use_bound xs))
      (sym (use_args_same (at n p) us)) rule.use_bound

  pub bound_level : (y : TypeBoundLayer (claimed a n)) (p : LowerCtx)
      → (let b = bare_type_bound a n y in BoundAs a (at n p) b.b b.ty b.maybe b.binder b.lifetime b.uses
      (of.type_bound_step a (itself (entering a n)) (mapped_type_bound a (entering a n) b) (at n p)))
  bound_level y p = bound_by y.b y.ty y.maybe y.binder y.lifetime y.uses p
