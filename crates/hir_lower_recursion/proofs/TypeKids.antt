-- The parts of a type, of a path and of a list of arguments are smaller than the whole, as they are answered.
use Rattle.std.proofs.Common.{arith, ◌≡◌, refl, ap, subst, ℕ, suc, ◌<◌, ◌≤◌, ◌+◌, Bool, true, false, Option, Some, None, List, [], ◌∷◌}
use Rattle.std.specs.Prelude.{codes, bytes_eq, if◌then◌else◌, map, option_map}
use Rattle.hir_syntax.specs.declared.ast.Expr.{Expr as AstExpr}
use Rattle.hir_syntax.specs.declared.ast.Name.{Name as AstName}
use Rattle.hir_syntax.specs.declared.ast.Path.{Path as AstPath}
use Rattle.hir_syntax.specs.declared.ast.PathSegment.{PathSegment as AstSegment, out-PathSegment}
use Rattle.hir_syntax.specs.declared.ast.SegmentKind.{SegmentKind}
use Rattle.hir_syntax.specs.declared.ast.SegmentKind.TheVariants as kind
use Rattle.hir_syntax.specs.declared.pats.Pat.{Pat as AstPat}
use Rattle.hir_syntax.specs.declared.types.BoundKind.{BoundKind}
use Rattle.hir_syntax.specs.declared.types.BoundKind.TheVariants as bound_kind
use Rattle.hir_syntax.specs.declared.macros.MacroCall.{MacroCall as AstMacroCall}
use Rattle.hir_syntax.specs.declared.types.Type_.{Type_ as AstType_}
use Rattle.hir_syntax.specs.declared.types.Param.{Param as AstParam, out-Param}
use Rattle.hir_syntax.specs.declared.types.PathType.{PathType as AstPathType, out-PathType}
use Rattle.hir_syntax.specs.declared.types.TypeBound.{TypeBound as AstTypeBound, out-TypeBound}
use Rattle.hir_syntax.specs.declared.types.AssocTypeArg.{out-AssocTypeArg}
use Rattle.hir_syntax.specs.declared.types.GenericArg.{GenericArg as AstGenericArg, out-GenericArg}
use Rattle.hir_syntax.specs.declared.ast.ElseBranch.TheOpen.{GenericArg-F, TypeKind-F}
use Rattle.hir_store.specs.Pointers.{Pointer}
use Rattle.hir_store.specs.declared.name.Name.TheVariants as name_of
use Rattle.hir_store.specs.declared.path.GenericArgs.{GenericArgs}
use Rattle.hir_env.specs.declared.ctx.LowerCtx.{LowerCtx}
use Rattle.hir_env.specs.ResolveCtx.{ResolveCtx}
use Rattle.hir_env.specs.ResolvedTree as tree
use Rattle.hir_env.specs.ResolvedTree.{Parts}
use Rattle.hir_env.specs.Answers.{Answers}
use Rattle.hir_env.specs.Paths as of
use Rattle.hir_env.specs.Paths.{inside_constant, inside_impl, inside_projection, outside_impl}
use Rattle.hir_env.specs.Wrapped.{AstConstArg, AstGenericArgList, AstParenArgs, AstRetType, AstTypeArg}
use Rattle.hir_env.specs.Whole.{entering, written, reader, read_param, read_type_arg, read_ret_type, read_path_type}
use Rattle.hir_env.specs.TypeLayers.{GenericArgLayer, TypeKindLayer, AssocTypeArgLayer, ParamLayer}
use Rattle.hir_env.specs.TypeLayers.{PathLayer, PathSegmentLayer, TypeBoundLayer}
use Rattle.hir_env.specs.Count.{count_type, count_option_type, count_parts, count_path, count_option_path, count_segments, count_segment}
use Rattle.hir_env.specs.Count.{count_option_parens, count_option_ret, count_option_args, count_args, count_arg}
use Rattle.hir_env.specs.Count.{count_bounds, count_bound, count_constant, count_expr, count_option_pat, count_pat}
use Rattle.hir_env.specs.Whole.{resolved_pat, pat_part}
use Rattle.hir_env.specs.Whole.{resolved_expr, resolved_type, resolved_path, resolved_use_tree, resolved_arg_list, type_part, path_part}
use Rattle.hir_env.specs.Whole.{use_tree_part, arg_list_part, types_part}
use Rattle.hir_env.specs.Whole.{type_args_part, params_part, answer_part, ret_part, parens_part, path_type_part, segment_part}
use Rattle.hir_env.specs.Whole.{segments_part, first_part, rest_part, generic_args_part, bounds_part, resolved_constant, constant_part}
use Rattle.hir_env.proofs.LocalPaths.{use_tree_counts}
use Rattle.hir_env.proofs.PathLevels.{param_is_level, segment_is_level, path_type_is_level}
use Rattle.hir_env.proofs.PathLevels.{arg_is_level, assoc_arg_is_level, bound_is_level}
use Rattle.hir_lower_builder.proofs.Inside.{type_call_more}
use Rattle.hir_lower_builder.specs.Inside.{inside_type_call}
use Rattle.hir_lower_builder.specs.Nests.{Claims, IfPresent, Each, KidsTypeArg, KidsRet, KidsParam, KidsTrait, KidsBound, KidsBounds}
use Rattle.hir_lower_builder.specs.Nests.{KidsImpl}
use Rattle.hir_lower_builder.specs.Nests.{Unless, KidsBinding, KidsAssoc, KidsType, KidsArg, KidsArgs, KidsParens, KidsSegmentArgs}
use Rattle.hir_lower_builder.specs.Nests.{KidsName}
use Rattle.hir_lower_builder.specs.Nests.{KidsQualified, KidsSegment, KidsSegments, KidsPath, const_expr}
use Rattle.hir_lower_builder.specs.Builder.{Builder}
use Rattle.hir_lower_builder.specs.Lowering.{Checked}
use Rattle.hir_lower_builder.specs.Methods.{LowersArgs, constant_at}
use Rattle.hir_lower_callbacks.specs.ResolveCtxs.{rctx_at}

-- what holds of each node smaller than n, at whatever place it is read
pub record Below (env : Answers) (C : Claims) (n : ℕ) : Type 0 where
  pub types : (p : LowerCtx) (t : AstType_) → count_type (resolved_type (rctx_at env p) t) < n → C.type_ p t
  -- by what is read of it as a use tree, which is no more than by itself
  pub paths : (p : LowerCtx) (x : AstPath) → count_path (resolved_use_tree (rctx_at env p) x) < n → C.path p x
  -- by the expression, which is read inside of it
  pub constants : (p : LowerCtx) (e : AstExpr) → count_expr (resolved_expr (rctx_at env (inside_constant p)) e) < n → C.constant p (Some e)
  pub no_constant : (p : LowerCtx) → C.constant p None
  -- of a call by what it stands for
  pub type_calls : (p : LowerCtx) (c : AstMacroCall) → count_option_type (inside_type_call env (entering env p.left) p c) < n
      → C.type_call p c
  pub pats : (p : LowerCtx) (x : AstPat) → count_pat (resolved_pat (rctx_at env (inside_constant p)) x) < n → C.pat (inside_constant p) x
  pub lists : (p : LowerCtx) (l : AstGenericArgList) → suc (count_args (resolved_arg_list (rctx_at env p) l)) < n → C.args p l

pub path_less : (env : Answers) (p : LowerCtx) (x : AstPath) (n : ℕ) → count_path (resolved_path (rctx_at env p) x) < n
    → count_path (resolved_use_tree (rctx_at env p) x) < n
path_less env p x n h = let more = use_tree_counts (rctx_at env p) x in omega (arith, h, more)

module _ (env : Answers) (C : Claims) (n : ℕ) (below : Below env C n) where
  type_ : (p : LowerCtx) (o : Option AstType_) → count_option_type (type_part (rctx_at env p) o) < n → IfPresent (C.type_ p) o
  type_ p None h = tt
  type_ p (Some t) h = below.types p t h

  pub path_below : (p : LowerCtx) (o : Option AstPath) → count_option_path (path_part (rctx_at env p) o) < n → IfPresent (C.path p) o
  path_below p None h = tt
  path_below p (Some x) h = below.paths p x (path_less env p x n h)

  use_tree_below : (p : LowerCtx) (o : Option AstPath) → count_option_path (use_tree_part (rctx_at env p) o) < n → IfPresent (C.path p) o
  use_tree_below p None h = tt
  use_tree_below p (Some x) h = below.paths p x h

  list : (p : LowerCtx) (o : Option AstGenericArgList) → count_option_args (arg_list_part (rctx_at env p) o) < n → IfPresent (C.args p) o
  list p None h = tt
  list p (Some l) h = below.lists p l h

  const_part : (p : LowerCtx) (o : Option AstExpr) → count_constant (constant_at (rctx_at env p) o) < n → C.constant p o
  const_part p None h = below.no_constant p
  const_part p (Some e) h = below.constants p e (omega (arith, h))

  const_arg : (p : LowerCtx) (x : AstConstArg) → count_constant (resolved_constant (rctx_at env p) x) < n
      → C.constant p x
  const_arg p x h = const_part p x h

  constant : (p : LowerCtx) (o : Option AstConstArg) → count_constant (constant_part (rctx_at env p) o) < n → C.constant p (const_expr o)
  constant p None h = const_part p None h
  constant p (Some x) h = const_arg p x h

  types : (p : LowerCtx) (ts : List AstType_) → count_parts (types_part (rctx_at env p) ts) < n → Each (C.type_ p) ts
  types p [] h = tt
  types p (t ∷ ts) h = (below.types p t (omega (arith, h)), types p ts (omega (arith, h)))

  pat : (p : LowerCtx) (o : Option AstPat) → count_option_pat (pat_part (rctx_at env (inside_constant p)) o) < n
      → IfPresent (C.pat (inside_constant p)) o
  pat p None h = tt
  pat p (Some x) h = below.pats p x h

  type_arg : (p : LowerCtx) (x : AstTypeArg) → count_option_type (read_type_arg env (entering env p.left) x p) < n → KidsTypeArg C p x
  type_arg p x h = type_ p x h

  type_args : (p : LowerCtx) (xs : List AstTypeArg) → count_parts (type_args_part (rctx_at env p) xs) < n → Each (KidsTypeArg C p) xs
  type_args p [] h = tt
  type_args p (x ∷ xs) h = (type_arg p x (omega (arith, h)), type_args p xs (omega (arith, h)))

  ret : (p : LowerCtx) (r : AstRetType) → count_option_type (read_ret_type env (entering env p.left) r p) < n → KidsRet C p r
  ret p r h = type_ p r h

  answer : (p : LowerCtx) (o : Option AstRetType) → count_option_type (answer_part (rctx_at env p) o) < n → IfPresent (KidsRet C p) o
  answer p None h = tt
  answer p (Some r) h = ret p r h

  ret_option : (p : LowerCtx) (o : Option AstRetType) → count_option_ret (ret_part (rctx_at env p) o) < n → IfPresent (KidsRet C p) o
  ret_option p None h = tt
  ret_option p (Some r) h = ret p r h

  params : (p : LowerCtx) (xs : List AstParam) → count_parts (of.params_of (read_param env (entering env p.left)) xs p) < n
      → Each (λ x. KidsParam C p (out-Param x)) xs
  params p [] h = tt
  params p (x ∷ xs) h =
      split (out-Param x) (of.params_of (read_param env (entering env p.left)) xs p) (params p xs) (out-Param x).variadic refl
      (rw (param_is_level (rctx_at env p) x) at h)
    where
      split : (y : ParamLayer written) (behind : Parts) → (count_parts behind < n → Each (λ x. KidsParam C p (out-Param x)) xs)
          → (b : Bool) → y.variadic ≡ b
          → count_parts (if b then behind else tree.more_parts (type_part (rctx_at env p) y.ty) behind) < n
          → KidsParam C p y × Each (λ x. KidsParam C p (out-Param x)) xs
      split y behind more true e h = (rw e tt, more h)
      split y behind more false e h = (rw e (type_ p y.ty (omega (arith, h))), more (omega (arith, h)))

  params_option : (p : LowerCtx) (o : Option (List AstParam)) → count_parts (params_part (rctx_at env p) o) < n
      → IfPresent (Each (λ x. KidsParam C p (out-Param x))) o
  params_option p None h = tt
  params_option p (Some xs) h = params p xs h

  trait_ : (p : LowerCtx) (t : AstPathType) → count_option_path (read_path_type env (entering env p.left) t p).path < n → KidsTrait C p t
  trait_ p t h = let s = ap (λ r. count_option_path r.path) (path_type_is_level (rctx_at env p) t) in
      path_below p (out-PathType t).path (omega (arith, h, s))

  bound : (p : LowerCtx) (x : TypeBoundLayer written)
      → count_bound (of.type_bound_step env (reader env (entering env p.left)) x p) < n → KidsBound C p x
  bound p x h = by x.b refl x.ty refl h
    where
      by : (k : Option BoundKind) → x.b ≡ k → (t : Option AstPathType) → x.ty ≡ t
          → count_bound (of.bound_of k (path_type_part (rctx_at env p) t) x.maybe (of.binder_of x.binder)
          (option_map (of.lifetime_of p) x.lifetime) (map (of.use_of p) x.uses)) < n
          → KidsBound C p x
      by None e t f h = rw e tt
      by (Some bound_kind.Path) e None f h = rw (e, f) tt
      by (Some bound_kind.Path) e (Some t) f h = rw (e, f) (trait_ p t h)
      by (Some bound_kind.Lifetime) e t f h = rw e tt
      by (Some bound_kind.Use) e t f h = rw e tt

  bounds : (p : LowerCtx) (bs : List AstTypeBound) → count_bounds (bounds_part (rctx_at env p) bs) < n → KidsBounds C p bs
  bounds p [] h = tt
  bounds p (b ∷ bs) h =
      let s = ap count_bound (bound_is_level (rctx_at env p) b) in
      (bound p (out-TypeBound b) (omega (arith, h, s)), bounds p bs (omega (arith, h)))

  impl_bounds : (p : LowerCtx) (s : Pointer) (bs : List AstTypeBound)
      → count_type (of.impl_at p.in_impl p.impl_trait s (bounds_part (rctx_at env (inside_impl p)) bs)) ≤ n → KidsImpl C p bs
  impl_bounds p s bs h = by p.in_impl h
    where
      by : (b : Bool) → count_type (of.impl_at b p.impl_trait s (bounds_part (rctx_at env (inside_impl p)) bs)) ≤ n
          → Unless b (KidsBounds C (inside_impl p) bs)
      by true h = tt
      by false h = bounds (inside_impl p) bs (omega (arith, h))

  pub kids_type : (p : LowerCtx) (at : Pointer) (k : TypeKindLayer written)
      → count_type (of.type_at env (reader env (entering env p.left)) k p at) ≤ n → KidsType C p k
  kids_type p at (TypeKind-F.ParenType t) h = type_ p t (omega (arith, h))
  kids_type p at (TypeKind-F.SliceType t) h = type_ p t (omega (arith, h))
  kids_type p at (TypeKind-F.ArrayType t c) h = (constant p c (omega (arith, h)), type_ p t (omega (arith, h)))
  kids_type p at (TypeKind-F.TupleType ts) h = types p ts (omega (arith, h))
  kids_type p at (TypeKind-F.PathType x) h = path_below p x (omega (arith, h))
  kids_type p at (TypeKind-F.PtrType m t) h = type_ p t (omega (arith, h))
  kids_type p at (TypeKind-F.RefType l m t) h = type_ p t (omega (arith, h))
  kids_type p at (TypeKind-F.FnPtrType is_unsafe text ps r) h = (params_option p ps (omega (arith, h)), answer p r (omega (arith, h)))
  kids_type p at (TypeKind-F.ForType b t) h = type_ p t (omega (arith, h))
  kids_type p at (TypeKind-F.ImplTraitType bs) h = impl_bounds p at bs h
  kids_type p at (TypeKind-F.DynTraitType bs) h = bounds p bs (omega (arith, h))
  kids_type p at (TypeKind-F.PatternType t x) h = (type_ p t (omega (arith, h)), pat p x (omega (arith, h)))
  kids_type p at (TypeKind-F.MacroType None) h = tt
  kids_type p at (TypeKind-F.MacroType (Some c)) h =
      let more = type_call_more env (entering env p.left) p c at in below.type_calls p c (omega (arith, h, more))
  kids_type p at TypeKind-F.NeverType h = tt
  kids_type p at TypeKind-F.InferType h = tt

  assoc : (p : LowerCtx) (a : AssocTypeArgLayer written) → count_arg (of.assoc_type_arg_step env (reader env (entering env p.left)) a p) < n
      → KidsAssoc C p a
  assoc p a h = by a.params a.name h
    where
      inner : ResolveCtx
      inner = rctx_at env (outside_impl p)

      by : (b : Bool) (m : Option AstName)
          → count_arg (of.binding_of b m (arg_list_part inner a.generics) a.rtn (type_part inner a.ty) (bounds_part inner a.bounds)) < n
          → Unless b (IfPresent (λ k. KidsBinding C (outside_impl p) a) m)
      by true m h = tt
      by false None h = tt
      by false (Some m) h = record {
        args = list (outside_impl p) a.generics (omega (arith, h));
        type_ = type_ (outside_impl p) a.ty (omega (arith, h));
        bounds = bounds (outside_impl p) a.bounds (omega (arith, h));
      }

  arg : (p : LowerCtx) (k : GenericArgLayer written)
      → count_arg (of.generic_arg_step env (reader env (entering env p.left)) k p) < n → KidsArg C p k
  arg p (GenericArg-F.TypeArg x) h = type_arg p x h
  arg p (GenericArg-F.AssocTypeArg x) h =
      let s = ap count_arg (assoc_arg_is_level (rctx_at env p) x) in assoc p (out-AssocTypeArg x) (omega (arith, h, s))
  arg p (GenericArg-F.LifetimeArg x) h = tt
  arg p (GenericArg-F.ConstArg x) h = const_arg p x h

  args : (p : LowerCtx) (as' : List AstGenericArg) → count_args (generic_args_part (rctx_at env p) as') < n
      → Each (λ a. KidsArg C p (out-GenericArg a)) as'
  args p [] h = tt
  args p (a ∷ as') h =
      let s = ap count_arg (arg_is_level (rctx_at env p) a) in
      (arg p (out-GenericArg a) (omega (arith, h, s)), args p as' (omega (arith, h)))

  pub kids_args : (p : LowerCtx) (l : AstGenericArgList)
      → suc (count_args (of.generic_arg_list_step env (reader env (entering env p.left)) l p)) ≤ n → KidsArgs C p l
  kids_args p l h = args p l h

  parens : (p : LowerCtx) (o : Option AstParenArgs) (r : Option AstRetType) → count_option_parens (parens_part (rctx_at env p) o r) < n
      → KidsParens C p o r
  parens p None r h = tt
  parens p (Some x) r h = (type_args p x (omega (arith, h)), ret_option p r (omega (arith, h)))

  qualified : (p : LowerCtx) (o : Option AstType_) (t : Option AstPathType)
      → let inner = rctx_at env (inside_projection p) in
      count_segment (of.qualified_segment (type_part inner o) (path_type_part inner t)) < n → KidsQualified C p o t
  qualified p None t h = tt
  qualified p (Some x) None h = (below.types (inside_projection p) x h, tt)
  qualified p (Some x) (Some t) h =
      (below.types (inside_projection p) x (omega (arith, h)), trait_ (inside_projection p) t (omega (arith, h)))

  name : (p : LowerCtx) (o : Option AstName) (s : PathSegmentLayer written)
      → count_segment (of.named_segment env p o (tree.segment_args (arg_list_part (rctx_at env p) s.generics)
      (parens_part (rctx_at env p) s.parens s.ret) s.rtn)) < n
      → KidsName C p o s
  name p None s h = tt
  name p (Some m) s h = by (bytes_eq m.t (codes "$crate")) h
    where
      by : (b : Bool) → count_segment (if b then tree.dollar_crate_segment (of.crate_root_at env p m.id) else
          tree.name_segment (name_of.Text m.t) tt (tree.segment_args (arg_list_part (rctx_at env p) s.generics)
          (parens_part (rctx_at env p) s.parens s.ret) s.rtn)) < n
          → Unless b (KidsSegmentArgs C p s)
      by true h = tt
      by false h = (list p s.generics (omega (arith, h)), parens p s.parens s.ret (omega (arith, h)))

  segment : (p : LowerCtx) (s : PathSegmentLayer written) → count_segment (of.segment_step env (reader env (entering env p.left)) s p) < n
      → KidsSegment C p s
  segment p s h = by s.seg refl h
    where
      by : (k : Option SegmentKind) → s.seg ≡ k
          → count_segment (of.kinded_segment env p k s.name (tree.segment_args (arg_list_part (rctx_at env p) s.generics)
          (parens_part (rctx_at env p) s.parens s.ret) s.rtn) (type_part (rctx_at env (inside_projection p)) s.ty)
          (path_type_part (rctx_at env (inside_projection p)) s.trait_)) < n
          → KidsSegment C p s
      by None e h = rw e tt
      by (Some kind.Name) e h = rw e (name p s.name (record s { seg = Some kind.Name }) h)
      by (Some kind.SelfKw) e h = rw e tt
      by (Some kind.CrateKw) e h = rw e tt
      by (Some kind.SuperKw) e h = rw e tt
      by (Some kind.SelfTypeKw) e h = rw e tt
      by (Some kind.Qualified) e h = rw e (qualified p s.ty s.trait_ h)

  one_segment : (p : LowerCtx) (o : Option AstSegment) → count_segment (segment_part (rctx_at env p) o) < n
      → IfPresent (λ s. KidsSegment C p (out-PathSegment s)) o
  one_segment p None h = tt
  one_segment p (Some s) h =
      let e = ap count_segment (segment_is_level (rctx_at env p) s) in segment p (out-PathSegment s) (omega (arith, h, e))

  segments : (p : LowerCtx) (ss : List (Option AstSegment)) → count_segments (segments_part (rctx_at env p) ss) < n → KidsSegments C p ss
  segments p [] h = tt
  segments p (s ∷ ss) h = (one_segment p s (omega (arith, h)), segments p ss (omega (arith, h)))

  all_segments : (p : LowerCtx) (ss : List (Option AstSegment))
      → count_segment (first_part (rctx_at env p) ss) + count_segments (rest_part (rctx_at env p) ss) < n → KidsSegments C p ss
  all_segments p [] h = tt
  all_segments p (s ∷ ss) h = (one_segment p s (omega (arith, h)), segments p ss (omega (arith, h)))

  pub kids_path : (p : LowerCtx) (x : PathLayer written)
      → count_path (of.plain_path env (reader env (entering env p.left)) x p) ≤ n → KidsPath C p x
  kids_path p x h = (all_segments p x.segs (omega (arith, h)), use_tree_below p x.use_ (omega (arith, h)))

-- of the same list in the same environment the same is so
pub args_read : {E : Type 0} (answers : E → Answers) (p : LowerCtx) {v env : E} {l m : AstGenericArgList} (old new : Builder)
    (r : Checked (Option GenericArgs)) → v ≡ env → l ≡ m
    → LowersArgs (tree.some_arg_list (resolved_arg_list (rctx_at (answers v) p) l)) old r new
    → LowersArgs (tree.some_arg_list (resolved_arg_list (rctx_at (answers env) p) m)) old r new
args_read answers p {v = v} {m = m} old new r same is h =
    subst (λ e. LowersArgs (tree.some_arg_list (resolved_arg_list (rctx_at (answers e) p) m)) old r new) same
    (subst (λ x. LowersArgs (tree.some_arg_list (resolved_arg_list (rctx_at (answers v) p) x)) old r new) is h)
