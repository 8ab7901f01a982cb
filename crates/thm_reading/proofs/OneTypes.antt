-- The rules of types, paths and arguments allow one tree alone, where those of other parts do, of trees that are allowed by fewer rules.
use Rattle.std.proofs.Common.{◌≡◌, ◌∙◌, ◌≤◌, ℕ, refl, sym}
use Rattle.std.specs.Prelude.{List, Bool, false, Option, None, option_map, [], ◌∷◌}
use Rattle.hir_syntax.specs.declared.ast.Lifetime.{Lifetime as AstLifetime}
use Rattle.hir_syntax.specs.declared.ast.Name.{Name as AstName}
use Rattle.hir_syntax.specs.declared.ast.Path.{Path as AstPath}
use Rattle.hir_syntax.specs.declared.ast.PathSegment.{PathSegment as AstPathSegment}
use Rattle.hir_syntax.specs.declared.ast.SegmentKind.{SegmentKind}
use Rattle.hir_syntax.specs.declared.types.BoundKind.{BoundKind}
use Rattle.hir_syntax.specs.declared.types.ForBinder.{ForBinder as AstForBinder}
use Rattle.hir_syntax.specs.declared.types.GenericArg.{GenericArg as AstGenericArg}
use Rattle.hir_syntax.specs.declared.types.Param.{Param as AstParam}
use Rattle.hir_syntax.specs.declared.types.PathType.{PathType as AstPathType}
use Rattle.hir_syntax.specs.declared.types.Type_.{Type_ as AstType_}
use Rattle.hir_syntax.specs.declared.types.TypeBound.{TypeBound as AstTypeBound}
use Rattle.hir_syntax.specs.declared.types.UseArg.{UseArg as AstUseArg}
use Rattle.hir_env.specs.ResolvedTree.{Arg, Args, Bound}
use Rattle.hir_env.specs.ResolvedTree.{Bounds, Constant, OptionArgs, OptionParens, OptionPath, OptionType, Parts}
use Rattle.hir_env.specs.ResolvedTree.{Path, Segment, Segments, Type_}
use Rattle.hir_env.specs.Layers.{written}
use Rattle.hir_env.specs.Wrapped.{AstConstArg, AstRetType, AstTypeArg, AstParenArgs, AstGenericArgList}
use Rattle.hir_store.specs.Pointers.{Pointer}
use Rattle.hir_store.specs.declared.name.Name.{Name}
use Rattle.hir_store.specs.declared.name.Name.TheVariants as name
use Rattle.hir_env.specs.ResolvedTree as tree
use Rattle.hir_env.specs.Paths.{binder_of, fn_head, mutability}
use Rattle.hir_env.specs.TypeLayers.{GenericArgLayer, TypeKindLayer}
use Rattle.hir_env.specs.TypePats.{name_given, type_pat_or_none}
use Rattle.hir_env.specs.declared.ctx.LowerCtx.{LowerCtx}
use Rattle.thm_reading.specs.LowerCtx.{lifetime_here, trait_node}
use Rattle.thm_reading.specs.Shapes.{ends_variadic}
use Rattle.thm_reading.specs.Rules as rule
use Rattle.thm_reading.specs.Rules.{LenAs, OptTypeAs, TypesAs, PartsAs, AnswerAs, FnParamsAs, TypeKindAs, OptPathAs, PathAs, OptUseTreeAs}
use Rattle.thm_reading.specs.Rules.{UseTreeAs, FirstAs, SegmentsAs, OptSegmentAs, SegmentAs, ParensAs, ArgListAs, ArgsAs, ArgAs, BindingAs}
use Rattle.thm_reading.specs.Rules.{BoundsAs, BoundAs}
use Rattle.thm_reading.proofs.Alone.{Two, bool_clash, presence, some_of, type_in, starts, path_as, root_as, one_called}
use Rattle.hir_env.specs.Answers.{Answers}
use Rattle.thm_reading.proofs.Sizes.{size_len, size_opt_type, size_types, size_parts, size_answer, size_fn_params, size_type_kind}
use Rattle.thm_reading.proofs.Sizes.{size_opt_path, size_path, size_opt_use_tree, size_use_tree, size_first, size_segments}
use Rattle.thm_reading.proofs.Sizes.{size_opt_segment}
use Rattle.thm_reading.proofs.Sizes.{size_segment, size_parens, size_arg_list, size_args, size_arg, size_binding, size_bounds, size_bound}
use Rattle.thm_reading.proofs.Below.{Below, left, less, right}

module _ (env : Answers) {n : ℕ} (below : Below env n) where
  mutual
    pub one_len : {a1 : LowerCtx} {a2 : Option AstConstArg} {x y : Constant} → (h : LenAs env a1 a2 x) → size_len env h ≤ n
        → LenAs env a1 a2 y
        → x ≡ y
    one_len rule.no_len _ rule.no_len = refl
    one_len (rule.some_len h1) e (rule.some_len k1) = λ i. tree.constant (below.opt_expr _ _ _ _ h1 e k1 i)

    pub one_opt_type : {a1 : LowerCtx} {a2 : Option AstType_} {x y : OptionType} → (h : OptTypeAs env a1 a2 x) → size_opt_type env h ≤ n
        → OptTypeAs env a1 a2 y → x ≡ y
    one_opt_type rule.no_type _ rule.no_type = refl
    one_opt_type (rule.some_type h1) e (rule.some_type k1) = λ i. tree.some_type (one_type_kind h1 (less e) k1 i)

    pub one_types : {a1 : LowerCtx} {a2 : List AstType_} {x y : Parts} → (h : TypesAs env a1 a2 x) → size_types env h ≤ n
        → TypesAs env a1 a2 y
        → x ≡ y
    one_types rule.no_types _ rule.no_types = refl
    one_types (rule.more_types h1 h2) e (rule.more_types k1 k2) =
        λ i. tree.more_parts (one_opt_type h1 (less (left _ e)) k1 i) (one_types h2 (less (right _ e)) k2 i)

    pub one_parts : {a1 : LowerCtx} {a2 : List AstTypeArg} {x y : Parts} → (h : PartsAs env a1 a2 x) → size_parts env h ≤ n
        → PartsAs env a1 a2 y → x ≡ y
    one_parts rule.no_parts _ rule.no_parts = refl
    one_parts (rule.more_parts h1 h2) e (rule.more_parts k1 k2) =
        λ i. tree.more_parts (one_opt_type h1 (less (left _ e)) k1 i) (one_parts h2 (less (right _ e)) k2 i)

    pub one_answer : {a1 : LowerCtx} {a2 : Option AstRetType} {x y : OptionType} → (h : AnswerAs env a1 a2 x) → size_answer env h ≤ n
        → AnswerAs env a1 a2 y → x ≡ y
    one_answer rule.no_answer _ rule.no_answer = refl
    one_answer (rule.answer_type h1) e (rule.answer_type k1) = one_opt_type h1 (less e) k1

    pub one_fn_params : {a1 : LowerCtx} {a2 : List AstParam} {x1 y1 : List (Option Name)} {x2 y2 : Parts} → (h : FnParamsAs env a1 a2 x1 x2)
        → size_fn_params env h ≤ n → FnParamsAs env a1 a2 y1 y2 → Two x1 x2 y1 y2
    one_fn_params rule.no_params _ rule.no_params = refl
    one_fn_params (rule.variadic_param _ h2) e (rule.variadic_param _ k2) =
        λ i. ((one_fn_params h2 (less e) k2 i).0, (one_fn_params h2 (less e) k2 i).1)
    one_fn_params (rule.variadic_param h _) _ (rule.fn_param k _ _ _) = bool_clash (sym k ∙ h)
    one_fn_params (rule.fn_param h _ _ _) _ (rule.variadic_param k _) = bool_clash (sym h ∙ k)
    one_fn_params (rule.fn_param _ h2 h3 h4) e (rule.fn_param _ k2 k3 k4) =
        λ i. (
          name_given (below.opt_pat _ _ _ _ h2 (left _ e) k2 i) ∷ (one_fn_params h4 (less (right _ (right _ e))) k4 i).0,
          tree.more_parts (one_opt_type h3 (less (left _ (right _ e))) k3 i) (one_fn_params h4 (less (right _ (right _ e))) k4 i).1,
        )

    pub one_type_kind : {a1 : LowerCtx} {a2 : Pointer} {a3 : TypeKindLayer written} {x y : Type_} → (h : TypeKindAs env a1 a2 a3 x)
        → size_type_kind env h ≤ n → TypeKindAs env a1 a2 a3 y → x ≡ y
    one_type_kind (rule.paren_type h1) e (rule.paren_type k1) = λ i. tree.paren_type (one_opt_type h1 (less e) k1 i)
    one_type_kind (rule.slice_type {s = s} h1) e (rule.slice_type k1) = λ i. tree.over_type s tree.slice_of (one_opt_type h1 (less e) k1 i)
    one_type_kind (rule.array_type {s = s} h1 h2) e (rule.array_type k1 k2) =
        λ i. tree.array_type s (one_len h2 (less (right _ e)) k2 i) (one_opt_type h1 (less (left _ e)) k1 i)
    one_type_kind (rule.tuple_type {s = s} h1) e (rule.tuple_type k1) = λ i. tree.tuple_type s (one_types h1 (less e) k1 i)
    one_type_kind (rule.path_type {s = s} h1) e (rule.path_type k1) = λ i. tree.path_type s (one_opt_path h1 (less e) k1 i)
    one_type_kind (rule.ptr_type {s = s} {m = m} h1) e (rule.ptr_type k1) =
        λ i. tree.over_type s (tree.pointer_to (mutability m)) (one_opt_type h1 (less e) k1 i)
    one_type_kind (rule.ref_type {p = p} {s = s} {l = l} {m = m} h1) e (rule.ref_type k1) =
        λ i. tree.ref_type s (option_map (lifetime_here p) l) (mutability m) (one_opt_type h1 (less e) k1 i)
    one_type_kind (rule.fn_type {s = s} {is_unsafe = is_unsafe} {abi = abi} {ps = ps} h1 h2) e (rule.fn_type k1 k2) =
        λ i. tree.fn_type s (fn_head is_unsafe abi (ends_variadic false ps) (one_fn_params h1 (less (left _ e)) k1 i).0)
        (one_fn_params h1 (less (left _ e)) k1 i).1 (one_answer h2 (less (right _ e)) k2 i)
    one_type_kind (rule.fn_without_list {s = s} {is_unsafe = is_unsafe} {abi = abi} h1) e (rule.fn_without_list k1) =
        λ i. tree.fn_type s (fn_head is_unsafe abi false []) tree.no_parts (one_answer h1 (less e) k1 i)
    one_type_kind (rule.for_type {b = b} h1) e (rule.for_type k1) = λ i. tree.for_type (binder_of b) (one_opt_type h1 (less e) k1 i)
    one_type_kind (rule.impl_type {p = p} {s = s} _ h2) e (rule.impl_type _ k2) =
        λ i. tree.impl_type s p.impl_trait (one_bounds h2 (less e) k2 i)
    one_type_kind (rule.impl_type h _) _ (rule.impl_in_impl k) = bool_clash (sym h ∙ k)
    one_type_kind (rule.impl_in_impl h) _ (rule.impl_type k _) = bool_clash (sym k ∙ h)
    one_type_kind (rule.impl_in_impl _) _ (rule.impl_in_impl _) = refl
    one_type_kind (rule.dyn_type {s = s} h1) e (rule.dyn_type k1) = λ i. tree.dyn_type s (one_bounds h1 (less e) k1 i)
    one_type_kind (rule.pattern_type {s = s} h1 h2) e (rule.pattern_type k1 k2) =
        λ i. tree.pattern_type s (one_opt_type h1 (less (left _ e)) k1 i) (below.opt_pat _ _ _ _ h2 (right _ e) k2 i)
        (type_pat_or_none env.lang_items (below.opt_pat _ _ _ _ h2 (right _ e) k2 i))
    one_type_kind rule.never_type _ rule.never_type = refl
    one_type_kind rule.infer_type _ rule.infer_type = refl
    one_type_kind rule.callless_type _ rule.callless_type = refl
    one_type_kind (rule.called_type {s = s} h1 h2) e (rule.called_type k1 k2) =
        λ i. tree.macro_type s (one_called h1 k1 i) (one_opt_type h2 (less e) k2 i)

    pub one_opt_path : {a1 : LowerCtx} {a2 : Option AstPath} {x y : OptionPath} → (h : OptPathAs env a1 a2 x) → size_opt_path env h ≤ n
        → OptPathAs env a1 a2 y → x ≡ y
    one_opt_path rule.no_path _ rule.no_path = refl
    one_opt_path (rule.some_path h1) e (rule.some_path k1) = λ i. tree.some_path (one_path h1 (less e) k1 i)

    pub one_path : {a1 : LowerCtx} {a2 a3 : Bool} {a4 : List (Option AstPathSegment)} {a5 : Option AstPath} {x y : Path}
        → (h : PathAs env a1 a2 a3 a4 a5 x) → size_path env h ≤ n → PathAs env a1 a2 a3 a4 a5 y → x ≡ y
    one_path (rule.path {p = p} {leading = leading} _ h k e) b (rule.path _ h' k' e') =
        path_as env p leading (one_first h (less (left _ b)) h') (one_opt_use_tree k (less (right _ b)) k') e e'
    one_path (rule.path s _ _ _) _ (rule.broken_path s' _) = starts (sym s ∙ s') (λ x. x)
    one_path (rule.path s _ _ _) _ (rule.root_path s' _ _ _) = starts (sym s ∙ s') (λ x. x)
    one_path (rule.broken_path s _) _ (rule.path s' _ _ _) = starts (sym s ∙ s') (λ x. x)
    one_path (rule.broken_path _ e) _ (rule.broken_path _ e') =
        λ i. tree.path ((e ∙ sym e') i) false tree.broken_segment tree.no_segments tree.no_path
    one_path (rule.broken_path s _) _ (rule.root_path s' _ _ _) = starts (sym s ∙ s') (λ x. x)
    one_path (rule.root_path s _ _ _) _ (rule.path s' _ _ _) = starts (sym s ∙ s') (λ x. x)
    one_path (rule.root_path s _ _ _) _ (rule.broken_path s' _) = starts (sym s ∙ s') (λ x. x)
    one_path (rule.root_path {p = p} {leading = leading} {s = w} s h k e) b (rule.root_path s' h' k' e') =
        path_as env p leading (one_first h (less b) h') (root_as env p leading w (sym s ∙ s') (one_first h (less b) h') k k') e e'

    pub one_opt_use_tree : {a1 : LowerCtx} {a2 : Option AstPath} {x y : OptionPath} → (h : OptUseTreeAs env a1 a2 x)
        → size_opt_use_tree env h ≤ n → OptUseTreeAs env a1 a2 y → x ≡ y
    one_opt_use_tree rule.no_use_tree _ rule.no_use_tree = refl
    one_opt_use_tree (rule.some_use_tree h1) e (rule.some_use_tree k1) = λ i. tree.some_path (one_use_tree h1 (less e) k1 i)

    pub one_use_tree : {a1 : LowerCtx} {a2 : Bool} {a3 : List (Option AstPathSegment)} {a4 : Option AstPath} {x y : Path}
        → (h : UseTreeAs env a1 a2 a3 a4 x) → size_use_tree env h ≤ n → UseTreeAs env a1 a2 a3 a4 y → x ≡ y
    one_use_tree (rule.use_tree {leading = leading} h1 h2) e (rule.use_tree k1 k2) =
        λ i. tree.path None leading (one_first h1 (less (left _ e)) k1 i).0 (one_first h1 (less (left _ e)) k1 i).1
        (one_opt_use_tree h2 (less (right _ e)) k2 i)

    pub one_first : {a1 : LowerCtx} {a2 : List (Option AstPathSegment)} {x1 y1 : Segment} {x2 y2 : Segments} → (h : FirstAs env a1 a2 x1 x2)
        → size_first env h ≤ n → FirstAs env a1 a2 y1 y2 → Two x1 x2 y1 y2
    one_first rule.none_first _ rule.none_first = refl
    one_first (rule.some_first h1 h2) e (rule.some_first k1 k2) =
        λ i. (one_opt_segment h1 (less (left _ e)) k1 i, one_segments h2 (less (right _ e)) k2 i)

    pub one_segments : {a1 : LowerCtx} {a2 : List (Option AstPathSegment)} {x y : Segments} → (h : SegmentsAs env a1 a2 x)
        → size_segments env h ≤ n → SegmentsAs env a1 a2 y → x ≡ y
    one_segments rule.no_segments _ rule.no_segments = refl
    one_segments (rule.more_segments h1 h2) e (rule.more_segments k1 k2) =
        λ i. tree.more_segments (one_opt_segment h1 (less (left _ e)) k1 i) (one_segments h2 (less (right _ e)) k2 i)

    pub one_opt_segment : {a1 : LowerCtx} {a2 : Option AstPathSegment} {x y : Segment} → (h : OptSegmentAs env a1 a2 x)
        → size_opt_segment env h ≤ n → OptSegmentAs env a1 a2 y → x ≡ y
    one_opt_segment rule.absent_segment _ rule.absent_segment = refl
    one_opt_segment (rule.some_segment h1) e (rule.some_segment k1) = one_segment h1 (less e) k1

    pub one_segment : {a1 : LowerCtx} {a2 : Option SegmentKind} {a3 : Option AstName} {a4 : Option AstGenericArgList}
        {a5 : Option AstParenArgs} {a6 : Option AstRetType} {a7 : Bool} {a8 : Option AstType_} {a9 : Option AstPathType} {x y : Segment}
        → (h : SegmentAs env a1 a2 a3 a4 a5 a6 a7 a8 a9 x) → size_segment env h ≤ n → SegmentAs env a1 a2 a3 a4 a5 a6 a7 a8 a9 y → x ≡ y
    one_segment rule.kindless _ rule.kindless = refl
    one_segment rule.nameless _ rule.nameless = refl
    one_segment (rule.named {n = n} {d = d} _ h2 h3) e (rule.named _ k2 k3) =
        λ i. tree.name_segment (name.Text n.t) tt (tree.segment_args (one_arg_list h2 (less (left _ e)) k2 i)
        (one_parens h3 (less (right _ e)) k3 i) d)
    one_segment (rule.named h _ _) _ (rule.dollar_crate k) = bool_clash (sym h ∙ k)
    one_segment (rule.dollar_crate h) _ (rule.named k _ _) = bool_clash (sym k ∙ h)
    one_segment (rule.dollar_crate _) _ (rule.dollar_crate _) = refl
    one_segment rule.self _ rule.self = refl
    one_segment rule.crate _ rule.crate = refl
    one_segment rule.super _ rule.super = refl
    one_segment rule.self_type _ rule.self_type = refl
    one_segment rule.untyped _ rule.untyped = refl
    one_segment (rule.of_type {y = y} h1) e (rule.of_type k1) = λ i. tree.type_segment (type_in y (one_opt_type h1 (less e) k1 i))
    one_segment (rule.of_trait {p = p} {x = x} {y = y} h1 h2) e (rule.of_trait k1 k2) =
        λ i. tree.trait_segment (type_in y (one_opt_type h1 (less (left _ e)) k1 i)) (trait_node p x)
        (one_opt_path h2 (less (right _ e)) k2 i)

    pub one_parens : {a1 : LowerCtx} {a2 : Option AstParenArgs} {a3 : Option AstRetType} {x y : OptionParens}
        → (h : ParensAs env a1 a2 a3 x)
        → size_parens env h ≤ n → ParensAs env a1 a2 a3 y → x ≡ y
    one_parens rule.no_parens _ rule.no_parens = refl
    one_parens (rule.without_answer h1) e (rule.without_answer k1) = λ i. tree.some_parens (one_parts h1 (less e) k1 i) tree.no_ret
    one_parens (rule.with_answer h1 h2) e (rule.with_answer k1 k2) =
        λ i. tree.some_parens (one_parts h1 (less (left _ e)) k1 i) (tree.some_ret (one_opt_type h2 (less (right _ e)) k2 i))

    pub one_arg_list : {a1 : LowerCtx} {a2 : Option AstGenericArgList} {x y : OptionArgs} → (h : ArgListAs env a1 a2 x)
        → size_arg_list env h ≤ n → ArgListAs env a1 a2 y → x ≡ y
    one_arg_list rule.no_list _ rule.no_list = refl
    one_arg_list (rule.some_list h1) e (rule.some_list k1) = λ i. tree.some_arg_list (one_args h1 (less e) k1 i)

    pub one_args : {a1 : LowerCtx} {a2 : List AstGenericArg} {x y : Args} → (h : ArgsAs env a1 a2 x) → size_args env h ≤ n
        → ArgsAs env a1 a2 y
        → x ≡ y
    one_args rule.no_args _ rule.no_args = refl
    one_args (rule.more_args h1 h2) e (rule.more_args k1 k2) =
        λ i. tree.more_args (one_arg h1 (less (left _ e)) k1 i) (one_args h2 (less (right _ e)) k2 i)

    pub one_arg : {a1 : LowerCtx} {a2 : GenericArgLayer written} {x y : Arg} → (h : ArgAs env a1 a2 x) → size_arg env h ≤ n
        → ArgAs env a1 a2 y
        → x ≡ y
    one_arg (rule.type_arg h1) e (rule.type_arg k1) = λ i. tree.type_arg (one_opt_type h1 (less e) k1 i)
    one_arg (rule.lifetime_arg {p = p} {x = x} h1) _ (rule.lifetime_arg k1) =
        λ i. tree.lifetime_arg (lifetime_here p (some_of x ((sym h1 ∙ k1) i)))
    one_arg (rule.lifetime_arg h) _ (rule.lacking_lifetime k) = presence (sym k ∙ h)
    one_arg (rule.lacking_lifetime h) _ (rule.lifetime_arg k) = presence (sym h ∙ k)
    one_arg (rule.lacking_lifetime _) _ (rule.lacking_lifetime _) = refl
    one_arg (rule.const_arg h1) e (rule.const_arg k1) = λ i. tree.const_arg (tree.constant (below.opt_expr _ _ _ _ h1 e k1 i))
    one_arg (rule.assoc_arg h1) e (rule.assoc_arg k1) = one_binding h1 (less e) k1

    pub one_binding : {a1 : LowerCtx} {a2 : Bool} {a3 : Option AstName} {a4 : Option AstGenericArgList} {a5 : Bool} {a6 : Option AstType_}
        {a7 : List AstTypeBound} {x y : Arg}
        → (h : BindingAs env a1 a2 a3 a4 a5 a6 a7 x) → size_binding env h ≤ n → BindingAs env a1 a2 a3 a4 a5 a6 a7 y → x ≡ y
    one_binding rule.with_list _ rule.with_list = refl
    one_binding rule.unnamed _ rule.unnamed = refl
    one_binding (rule.binding {n = n} {d = d} h1 h2 h3) e (rule.binding k1 k2 k3) =
        λ i. tree.assoc_arg (name.Text n.t) (one_arg_list h1 (less (left _ e)) k1 i) d (one_opt_type h2 (less (left _ (right _ e))) k2 i)
        (one_bounds h3 (less (right _ (right _ e))) k3 i)

    pub one_bounds : {a1 : LowerCtx} {a2 : List AstTypeBound} {x y : Bounds} → (h : BoundsAs env a1 a2 x) → size_bounds env h ≤ n
        → BoundsAs env a1 a2 y → x ≡ y
    one_bounds rule.no_bounds _ rule.no_bounds = refl
    one_bounds (rule.more_bounds h1 h2) e (rule.more_bounds k1 k2) =
        λ i. tree.more_bounds (one_bound h1 (less (left _ e)) k1 i) (one_bounds h2 (less (right _ e)) k2 i)

    pub one_bound : {a1 : LowerCtx} {a2 : Option BoundKind} {a3 : Option AstPathType} {a4 : Bool} {a5 : Option AstForBinder}
        {a6 : Option AstLifetime} {a7 : List AstUseArg} {x y : Bound}
        → (h : BoundAs env a1 a2 a3 a4 a5 a6 a7 x) → size_bound env h ≤ n → BoundAs env a1 a2 a3 a4 a5 a6 a7 y → x ≡ y
    one_bound (rule.path_bound {p = p} {t = t} {m = m} {b = b} h1) e (rule.path_bound k1) =
        λ i. tree.path_bound (trait_node p t) (one_opt_path h1 (less e) k1 i) m (binder_of b)
    one_bound rule.lifetime_bound _ rule.lifetime_bound = refl
    one_bound rule.use_bound _ rule.use_bound = refl
    one_bound rule.kindless_bound _ rule.kindless_bound = refl
    one_bound rule.pathless_bound _ rule.pathless_bound = refl
    one_bound rule.lacking_bound _ rule.lacking_bound = refl
