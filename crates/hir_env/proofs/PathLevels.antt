-- A resolved type, path, argument or bound is one level of it around its answered parts.
use Rattle.std.proofs.Common.{◌≡◌, ◌∙◌, refl, Bool, true, false, Option, Some, None, List, [], ◌∷◌}
use Rattle.std.specs.Prelude.{option_map, map, if◌then◌else◌}
use Rattle.hir_base.specs.declared.node.AstPtr.{AstPtr}
use Rattle.hir_syntax.specs.declared.types.GenericArg.{GenericArg as AstGenericArg, out-GenericArg}
use Rattle.hir_syntax.specs.declared.types.TypeKind.{TypeKind as AstTypeKind, out-TypeKind}
use Rattle.hir_syntax.specs.declared.ast.Path.{Path as AstPath, out-Path}
use Rattle.hir_syntax.specs.declared.ast.PathSegment.{PathSegment as AstPathSegment, out-PathSegment}
use Rattle.hir_syntax.specs.declared.types.AssocTypeArg.{AssocTypeArg as AstAssocTypeArg, out-AssocTypeArg}
use Rattle.hir_syntax.specs.declared.types.Param.{Param as AstParam, out-Param}
use Rattle.hir_syntax.specs.declared.types.PathType.{PathType as AstPathType, out-PathType}
use Rattle.hir_syntax.specs.declared.types.TypeBound.{TypeBound as AstTypeBound, out-TypeBound}
use Rattle.hir_syntax.specs.declared.types.Type_.{Type_ as AstType_}
use Rattle.hir_syntax.specs.declared.ast.ElseBranch.TheOpen.{GenericArg-F, TypeKind-F}
use Rattle.hir_store.specs.Pointers.{Pointer}
use Rattle.hir_env.specs.declared.ctx.LowerCtx.{LowerCtx}
use Rattle.hir_env.specs.Answers.{Answers}
use Rattle.hir_env.specs.Wrapped.{AstGenericArgList, AstParenArgs, AstRetType, AstTypeArg}
use Rattle.hir_env.specs.ResolveCtx.{ResolveCtx, in_file, ptr, site_of}
use Rattle.hir_env.specs.Layers.{Reader, itself}
use Rattle.hir_env.specs.TypeLayers.{ParamReading, PathReading, PathTypeReading, GenericArgLayer, TypeKindLayer, PathLayer}
use Rattle.hir_env.specs.TypeLayers.{PathSegmentLayer, AssocTypeArgLayer, ParamLayer, PathTypeLayer}
use Rattle.hir_env.specs.TypeLayers.{TypeBoundLayer}
use Rattle.hir_env.specs.Paths as of
use Rattle.hir_env.specs.Folds.{written, reader, read_generic_arg, read_type_kind, read_path, read_use_tree, read_segment}
use Rattle.hir_env.specs.Folds.{read_assoc_type_arg, read_param, read_path_type}
use Rattle.hir_env.specs.Folds.{read_type_bound, read_type}
use Rattle.hir_env.proofs.Mapped.{beside, optional, map_list, listed_options, mapped_generic_arg, mapped_type_kind, mapped_path}
use Rattle.hir_env.proofs.Mapped.{mapped_segment, mapped_assoc_type_arg, mapped_param}
use Rattle.hir_env.proofs.Mapped.{mapped_path_type, mapped_type_bound}
use Rattle.hir_env.proofs.OpenedTypes.{opened_generic_arg, opened_type_kind, opened_path, opened_segment, opened_assoc_type_arg}
use Rattle.hir_env.proofs.OpenedTypes.{opened_param, opened_path_type}
use Rattle.hir_env.proofs.OpenedTypes.{opened_type_bound, opened_type}
use Rattle.hir_env.specs.ResolvedTree as tree
use Rattle.hir_env.specs.ResolvedTree.{Expr, Type_, OptionType, Parts, Path, Segment, OptionRet, Args, Arg, Bound, Constant, Pat}
use Rattle.hir_env.specs.TypePats.{type_pat_or_none, name_given}
use Rattle.hir_env.specs.Whole.{resolved_type, resolved_param, resolved_ret, resolved_path, resolved_path_as, resolved_use_tree}
use Rattle.hir_env.specs.Whole.{resolved_segment, resolved_path_type, path_level_as, use_tree_level}
use Rattle.hir_env.specs.Whole.{resolved_paren_args, resolved_arg_list, resolved_arg, resolved_type_arg, resolved_assoc_arg}
use Rattle.hir_env.specs.Whole.{resolved_bound, type_level, param_level, ret_level, path_level, segment_level, path_type_level}
use Rattle.hir_env.specs.Whole.{paren_args_level, arg_list_level, arg_level, type_arg_level, assoc_arg_level, bound_level}
use Rattle.hir_env.specs.Layers.{Entering, ExprReading}
use Rattle.hir_env.specs.Whole.{into}
use Rattle.hir_env.specs.Folds.{fold_expr, fold_generic_arg, fold_param, fold_pat, fold_path, fold_path_type, fold_segment, fold_type}
use Rattle.hir_env.specs.Folds.{fold_type_bound}

-- parts that may be absent, and lists

pub type_is : {A : Type 0} (h : A → LowerCtx → Type_) (x : Option A) (p : LowerCtx)
    → of.type_or_none (λ y. y.1) (optional (beside h) x) p ≡ of.type_or_none h x p
type_is h None p = refl
type_is h (Some x) p = refl

pub path_is : {A : Type 0} (h : A → PathReading) (x : Option A) (p : LowerCtx)
    → of.path_or_none (λ y. y.1.alone) (optional (beside h) x) p ≡ of.path_or_none (λ y. (h y).alone) x p
path_is h None p = refl
path_is h (Some x) p = refl

use_tree_is : {A : Type 0} (h : A → PathReading) (x : Option A) (p : LowerCtx)
    → of.path_or_none (λ y. y.1.use_tree) (optional (beside h) x) p ≡ of.path_or_none (λ y. (h y).use_tree) x p
use_tree_is h None p = refl
use_tree_is h (Some x) p = refl

pub pat_is : {A : Type 0} (h : A → LowerCtx → Pat) (x : Option A) (p : LowerCtx)
    → of.pat_or_none (λ y. y.1) (optional (beside h) x) p ≡ of.pat_or_none h x p
pat_is h None p = refl
pat_is h (Some x) p = refl

path_type_is : {A : Type 0} (h : A → LowerCtx → PathTypeReading) (x : Option A) (p : LowerCtx)
    → of.path_type_or_none (λ y. y.1) (optional (beside h) x) p ≡ of.path_type_or_none h x p
path_type_is h None p = refl
path_type_is h (Some x) p = refl

pub answer_is : {A : Type 0} (h : A → LowerCtx → Type_) (x : Option (Option A)) (p : LowerCtx)
    → of.answer_or_none (of.type_or_none (λ y. y.1)) (optional (optional (beside h)) x) p ≡ of.answer_or_none (of.type_or_none h) x p
answer_is h None p = refl
answer_is h (Some None) p = refl
answer_is h (Some (Some x)) p = refl

ret_is : {A : Type 0} (h : A → LowerCtx → Type_) (x : Option (Option A)) (p : LowerCtx)
    → of.ret_or_none (of.type_or_none (λ y. y.1)) (optional (optional (beside h)) x) p ≡ of.ret_or_none (of.type_or_none h) x p
ret_is h None p = refl
ret_is h (Some None) p = refl
ret_is h (Some (Some x)) p = refl

constant_is : {A : Type 0} (h : A → ExprReading) (x : Option (Option A)) (p : LowerCtx)
    → of.constant_or_absent (λ y q. tree.constant (of.expr_or_none (λ z. z.1.expr) y (of.inside_constant q)))
    (optional (optional (beside h)) x) p
    ≡ of.constant_or_absent (λ y q. tree.constant (of.expr_or_none (λ z. (h z).expr) y (of.inside_constant q))) x p
constant_is h None p = refl
constant_is h (Some None) p = refl
constant_is h (Some (Some x)) p = refl

types_is : {A : Type 0} (h : A → LowerCtx → Type_) (xs : List A) (p : LowerCtx) → of.types_of (λ y. y.1) (map_list (beside h) xs) p
    ≡ of.types_of h xs p
types_is h [] p = refl
types_is h (x ∷ xs) p = λ j. tree.more_parts (tree.some_type (h x p)) (types_is h xs p j)

parts_is : {A : Type 0} (h : A → LowerCtx → Type_) (xs : List (Option A)) (p : LowerCtx)
    → of.parts_of (of.type_or_none (λ y. y.1)) (listed_options (beside h) xs) p ≡ of.parts_of (of.type_or_none h) xs p
parts_is h [] p = refl
parts_is h (None ∷ xs) p = λ j. tree.more_parts tree.no_type (parts_is h xs p j)
parts_is h (Some x ∷ xs) p = λ j. tree.more_parts (tree.some_type (h x p)) (parts_is h xs p j)

parens_is : {A : Type 0} (h : A → LowerCtx → Type_) (x : Option (List (Option A))) (r : OptionRet) (p : LowerCtx)
    → of.parens_or_none (of.parts_of (of.type_or_none (λ y. y.1))) (optional (listed_options (beside h)) x) r p
    ≡ of.parens_or_none (of.parts_of (of.type_or_none h)) x r p
parens_is h None r p = refl
parens_is h (Some xs) r p = λ j. of.parens_or_none (λ y q. y) (Some (parts_is h xs p j)) r p

generic_args_is : {A : Type 0} (h : A → LowerCtx → Arg) (xs : List A) (p : LowerCtx)
    → of.generic_args_of (λ y. y.1) (map_list (beside h) xs) p ≡ of.generic_args_of h xs p
generic_args_is h [] p = refl
generic_args_is h (x ∷ xs) p = λ j. tree.more_args (h x p) (generic_args_is h xs p j)

pub arg_list_is : {A : Type 0} (h : A → LowerCtx → Arg) (x : Option (List A)) (p : LowerCtx)
    → of.arg_list_or_none (of.generic_args_of (λ y. y.1)) (optional (map_list (beside h)) x) p
    ≡ of.arg_list_or_none (of.generic_args_of h) x p
arg_list_is h None p = refl
arg_list_is h (Some xs) p = λ j. tree.some_arg_list (generic_args_is h xs p j)

bounds_is : {A : Type 0} (h : A → LowerCtx → Bound) (xs : List A) (p : LowerCtx)
    → of.bounds_of (λ y. y.1) (map_list (beside h) xs) p ≡ of.bounds_of h xs p
bounds_is h [] p = refl
bounds_is h (x ∷ xs) p = λ j. tree.more_bounds (h x p) (bounds_is h xs p j)

params_is : {A : Type 0} (h : A → LowerCtx → ParamReading) (xs : List A) (p : LowerCtx)
    → of.params_of (λ y. y.1) (map_list (beside h) xs) p ≡ of.params_of h xs p
params_is h [] p = refl
params_is h (x ∷ xs) p = λ j. let r = h x p in if r.variadic then params_is h xs p j else tree.more_parts r.ty (params_is h xs p j)

names_is : {A : Type 0} (h : A → LowerCtx → ParamReading) (xs : List A) (p : LowerCtx)
    → of.names_given (λ y. y.1) (map_list (beside h) xs) p ≡ of.names_given h xs p
names_is h [] p = refl
names_is h (x ∷ xs) p = λ j. let r = h x p in if r.variadic then names_is h xs p j else r.name ∷ names_is h xs p j

closure_params_is : {A : Type 0} (h : A → LowerCtx → ParamReading) (xs : List A) (p : LowerCtx)
    → of.closure_params_of (λ y. y.1) (map_list (beside h) xs) p ≡ of.closure_params_of h xs p
closure_params_is h [] p = refl
closure_params_is h (x ∷ xs) p = λ j. tree.more_params (h x p).own (closure_params_is h xs p j)

pub closure_params_are : {A : Type 0} (h : A → LowerCtx → ParamReading) (x : Option (List A)) (p : LowerCtx)
    → of.closure_params_or_none (λ y. y.1) (optional (map_list (beside h)) x) p ≡ of.closure_params_or_none h x p
closure_params_are h None p = refl
closure_params_are h (Some xs) p = closure_params_is h xs p

last_is : {A : Type 0} (h : A → LowerCtx → ParamReading) (b : Bool) (xs : List A) (p : LowerCtx)
    → of.last_variadic (λ y. y.1) b (map_list (beside h) xs) p ≡ of.last_variadic h b xs p
last_is h b [] p = refl
last_is h b (x ∷ xs) p = last_is h (h x p).variadic xs p

segments_is : {A : Type 0} (h : A → LowerCtx → Segment) (xs : List (Option A)) (p : LowerCtx)
    → of.segments_of (λ y. y.1) (listed_options (beside h) xs) p ≡ of.segments_of h xs p
segments_is h [] p = refl
segments_is h (None ∷ xs) p = λ j. tree.more_segments tree.absent_segment (segments_is h xs p j)
segments_is h (Some x ∷ xs) p = λ j. tree.more_segments (h x p) (segments_is h xs p j)

first_is : {A : Type 0} (h : A → LowerCtx → Segment) (xs : List (Option A)) (p : LowerCtx)
    → of.first_of (λ y. y.1) (listed_options (beside h) xs) p ≡ of.first_of h xs p
first_is h [] p = refl
first_is h (None ∷ xs) p = refl
first_is h (Some x ∷ xs) p = refl

rest_is : {A : Type 0} (h : A → LowerCtx → Segment) (xs : List (Option A)) (p : LowerCtx)
    → of.rest_of (λ y. y.1) (listed_options (beside h) xs) p ≡ of.rest_of h xs p
rest_is h [] p = refl
rest_is h (None ∷ xs) p = segments_is h xs p
rest_is h (Some x ∷ xs) p = segments_is h xs p

module _ (env : Answers) (into : Option Entering) where
  abbrev rd : Reader written
  rd = reader env into

  type_at_is : (k : TypeKindLayer written) (p : LowerCtx) (s : Pointer)
      → of.type_at env (itself into) (mapped_type_kind env into k) p s ≡ of.type_at env rd k p s
  type_at_is (TypeKind-F.ParenType t) p s = λ j. tree.paren_type (type_is (fold_type env into) t p j)
  type_at_is (TypeKind-F.SliceType t) p s = λ j. tree.over_type s tree.slice_of (type_is (fold_type env into) t p j)
  type_at_is (TypeKind-F.ArrayType t c) p s = λ j. tree.array_type s (constant_is (fold_expr env into) c p j)
      (type_is (fold_type env into) t p j)
  type_at_is (TypeKind-F.TupleType ts) p s = λ j. tree.tuple_type s (types_is (fold_type env into) ts p j)
  type_at_is (TypeKind-F.PathType x) p s = λ j. tree.path_type s (path_is (fold_path env into) x p j)
  type_at_is (TypeKind-F.PtrType m t) p s = λ j. tree.over_type s (tree.pointer_to (of.mutability m)) (type_is (fold_type env into) t p j)
  type_at_is (TypeKind-F.RefType l m t) p s = λ j.
      tree.ref_type s (option_map (of.lifetime_of p) l) (of.mutability m) (type_is (fold_type env into) t p j)
  type_at_is (TypeKind-F.FnPtrType is_unsafe text None r) p s = λ j.
      tree.fn_type s (of.fn_head is_unsafe text false []) tree.no_parts (answer_is (fold_type env into) r p j)
  type_at_is (TypeKind-F.FnPtrType is_unsafe text (Some ps) r) p s = λ j.
      tree.fn_type s (of.fn_head is_unsafe text (last_is (fold_param env into) false ps p j) (names_is (fold_param env into) ps p j))
      (params_is (fold_param env into) ps p j) (answer_is (fold_type env into) r p j)
  type_at_is (TypeKind-F.ForType b t) p s = λ j. tree.for_type (of.binder_of b) (type_is (fold_type env into) t p j)
  type_at_is (TypeKind-F.ImplTraitType bs) p s = λ j.
      of.impl_at p.in_impl p.impl_trait s (bounds_is (fold_type_bound env into) bs (of.inside_impl p) j)
  type_at_is (TypeKind-F.DynTraitType bs) p s = λ j. tree.dyn_type s (bounds_is (fold_type_bound env into) bs p j)
  type_at_is (TypeKind-F.PatternType t x) p s = λ j. let q = pat_is (fold_pat env into) x (of.inside_constant p) j in
      tree.pattern_type s (type_is (fold_type env into) t p j) q (type_pat_or_none env.lang_items q)
  type_at_is (TypeKind-F.MacroType None) p s = refl
  type_at_is (TypeKind-F.MacroType (Some c)) p s = refl
  type_at_is TypeKind-F.NeverType p s = refl
  type_at_is TypeKind-F.InferType p s = refl

  type_kind_step_is : (k : TypeKindLayer written) (n : AstPtr) (p : LowerCtx)
      → of.type_kind_step env (itself into) (mapped_type_kind env into k) n p ≡ of.type_kind_step env rd k n p
  type_kind_step_is k n p = type_at_is k p (in_file p n)

  param_step_is : (x : ParamLayer written) (p : LowerCtx)
      → of.param_step env (itself into) (mapped_param env into x) p ≡ of.param_step env rd x p
  param_step_is x p = λ j. let s = in_file p (ptr x.id x.range) in record {
    variadic = x.variadic;
    name = name_given (pat_is (fold_pat env into) x.pat p j);
    ty = type_is (fold_type env into) x.ty p j;
    own = of.asked_param s (env.cfg (site_of s)) (tree.param (pat_is (fold_pat env into) x.pat p j)
        (type_is (fold_type env into) x.ty p j));
  }

  plain_path_is : (x : PathLayer written) (p : LowerCtx)
      → of.plain_path env (itself into) (mapped_path env into x) p ≡ of.plain_path env rd x p
  plain_path_is x p = λ j. tree.path None x.leading (first_is (fold_segment env into) x.segs p j)
      (rest_is (fold_segment env into) x.segs p j) (use_tree_is (fold_path env into) x.use_ p j)

  called_path_is : (in_macro leading : Bool) (ss : List (Option AstPathSegment)) (u : Option AstPath) (p : LowerCtx) (y : Path)
      → of.called_path env (itself into) in_macro leading (listed_options (beside (fold_segment env into)) ss)
      (optional (beside (fold_path env into)) u) p y
      ≡ of.called_path env rd in_macro leading ss u p y
  called_path_is false leading ss u p y = refl
  called_path_is true leading [] None p y = refl
  called_path_is true leading [] (Some u) p y = refl
  called_path_is true leading (None ∷ []) None p y = refl
  called_path_is true leading (None ∷ []) (Some u) p y = refl
  called_path_is true leading (Some s ∷ []) None p y = refl
  called_path_is true leading (Some s ∷ []) (Some u) p y = refl
  called_path_is true leading (None ∷ x ∷ ss) u p y = refl
  called_path_is true leading (Some s ∷ x ∷ ss) u p y = refl

  called_is : (x : PathLayer written) (p : LowerCtx)
      → of.called_path env (itself into) x.in_macro x.leading (mapped_path env into x).segs (mapped_path env into x).use_ p
      (of.plain_path env (itself into) (mapped_path env into x) p)
      ≡ of.called_path env rd x.in_macro x.leading x.segs x.use_ p (of.plain_path env rd x p)
  called_is x p = called_path_is x.in_macro x.leading x.segs x.use_ p (of.plain_path env (itself into) (mapped_path env into x) p)
      ∙ (λ j. of.called_path env rd x.in_macro x.leading x.segs x.use_ p (plain_path_is x p j))

  path_step_is : (x : PathLayer written) (p : LowerCtx)
      → of.path_step env (itself into) (mapped_path env into x) p ≡ of.path_step env rd x p
  path_step_is x p = λ j. of.with_alias (of.alias_at env p (called_is x p j)) (called_is x p j)

  parens_then : (x : Option AstParenArgs) (r : Option AstRetType) (p : LowerCtx)
      → of.parens_or_none (of.paren_args_step env (itself into)) (optional (listed_options (beside (fold_type env into))) x)
      (of.ret_or_none (of.ret_type_step env (itself into)) (optional (optional (beside (fold_type env into))) r) p) p
      ≡ of.parens_or_none (of.paren_args_step env rd) x (of.ret_or_none (of.ret_type_step env rd) r p) p
  parens_then x r p = parens_is (fold_type env into) x
      (of.ret_or_none (of.ret_type_step env (itself into)) (optional (optional (beside (fold_type env into))) r) p) p
      ∙ (λ j. of.parens_or_none (of.paren_args_step env rd) x (ret_is (fold_type env into) r p j) p)

  segment_step_is : (x : PathSegmentLayer written) (p : LowerCtx)
      → of.segment_step env (itself into) (mapped_segment env into x) p ≡ of.segment_step env rd x p
  segment_step_is x p = λ j. of.kinded_segment env p x.seg x.name
      (tree.segment_args (arg_list_is (fold_generic_arg env into) x.generics p j)
      (parens_then x.parens x.ret p j) x.rtn)
      (type_is (fold_type env into) x.ty (of.inside_projection p) j)
      (path_type_is (fold_path_type env into) x.trait_ (of.inside_projection p) j)

  path_type_step_is : (x : PathTypeLayer written) (p : LowerCtx)
      → of.path_type_step env (itself into) (mapped_path_type env into x) p ≡ of.path_type_step env rd x p
  path_type_step_is x p = λ j. record { pointer = in_file p (ptr x.id x.range); path = path_is (fold_path env into) x.path p j }

  generic_arg_step_is : (x : GenericArgLayer written) (p : LowerCtx)
      → of.generic_arg_step env (itself into) (mapped_generic_arg env into x) p ≡ of.generic_arg_step env rd x p
  generic_arg_step_is (GenericArg-F.TypeArg None) p = refl
  generic_arg_step_is (GenericArg-F.TypeArg (Some x)) p = refl
  generic_arg_step_is (GenericArg-F.AssocTypeArg x) p = refl
  generic_arg_step_is (GenericArg-F.LifetimeArg x) p = refl
  generic_arg_step_is (GenericArg-F.ConstArg None) p = refl
  generic_arg_step_is (GenericArg-F.ConstArg (Some x)) p = refl

  assoc_type_arg_step_is : (x : AssocTypeArgLayer written) (p : LowerCtx)
      → of.assoc_type_arg_step env (itself into) (mapped_assoc_type_arg env into x) p ≡ of.assoc_type_arg_step env rd x p
  assoc_type_arg_step_is x p = λ j. let inner = of.outside_impl p in
      of.binding_of x.params x.name (arg_list_is (fold_generic_arg env into) x.generics inner j) x.rtn
      (type_is (fold_type env into) x.ty inner j) (bounds_is (fold_type_bound env into) x.bounds inner j)

  type_bound_step_is : (x : TypeBoundLayer written) (p : LowerCtx)
      → of.type_bound_step env (itself into) (mapped_type_bound env into x) p ≡ of.type_bound_step env rd x p
  type_bound_step_is x p = λ j. of.bound_of x.b (path_type_is (fold_path_type env into) x.ty p j) x.maybe (of.binder_of x.binder)
      (option_map (of.lifetime_of p) x.lifetime) (map (of.use_of p) x.uses)

  read_type_kind_is : (k : AstTypeKind) (n : AstPtr) (p : LowerCtx) → read_type_kind env into k n p
      ≡ of.type_kind_step env rd (out-TypeKind k) n p
  read_type_kind_is k n p = (λ j. opened_type_kind env into k j n p) ∙ type_kind_step_is (out-TypeKind k) n p

  read_type_is : (x : AstType_) (p : LowerCtx)
      → read_type env into x p ≡ of.type_kind_step env rd (out-TypeKind x.kind) (ptr x.id x.range) p
  read_type_is x p = (λ j. opened_type env into x j p) ∙ read_type_kind_is x.kind (ptr x.id x.range) p

  read_param_is : (x : AstParam) (p : LowerCtx) → read_param env into x p ≡ of.param_step env rd (out-Param x) p
  read_param_is x p = (λ j. opened_param env into x j p) ∙ param_step_is (out-Param x) p

  read_path_is : (x : AstPath) (p : LowerCtx) → read_path env into x p ≡ of.path_step env rd (out-Path x) p
  read_path_is x p = (λ j. (opened_path env into x j).alone p) ∙ path_step_is (out-Path x) p

  read_use_tree_is : (x : AstPath) (p : LowerCtx) → read_use_tree env into x p ≡ of.plain_path env rd (out-Path x) p
  read_use_tree_is x p = (λ j. (opened_path env into x j).use_tree p) ∙ plain_path_is (out-Path x) p

  read_segment_is : (x : AstPathSegment) (p : LowerCtx) → read_segment env into x p ≡ of.segment_step env rd (out-PathSegment x) p
  read_segment_is x p = (λ j. opened_segment env into x j p) ∙ segment_step_is (out-PathSegment x) p

  read_path_type_is : (x : AstPathType) (p : LowerCtx) → read_path_type env into x p ≡ of.path_type_step env rd (out-PathType x) p
  read_path_type_is x p = (λ j. opened_path_type env into x j p) ∙ path_type_step_is (out-PathType x) p

  read_generic_arg_is : (x : AstGenericArg) (p : LowerCtx) → read_generic_arg env into x p ≡ of.generic_arg_step env rd (out-GenericArg x) p
  read_generic_arg_is x p = (λ j. opened_generic_arg env into x j p) ∙ generic_arg_step_is (out-GenericArg x) p

  read_assoc_type_arg_is : (x : AstAssocTypeArg) (p : LowerCtx)
      → read_assoc_type_arg env into x p ≡ of.assoc_type_arg_step env rd (out-AssocTypeArg x) p
  read_assoc_type_arg_is x p = (λ j. opened_assoc_type_arg env into x j p) ∙ assoc_type_arg_step_is (out-AssocTypeArg x) p

  read_type_bound_is : (x : AstTypeBound) (p : LowerCtx) → read_type_bound env into x p ≡ of.type_bound_step env rd (out-TypeBound x) p
  read_type_bound_is x p = (λ j. opened_type_bound env into x j p) ∙ type_bound_step_is (out-TypeBound x) p

pub type_is_level : (at : ResolveCtx) (x : AstType_) → resolved_type at x ≡ type_level at x
type_is_level at x = read_type_is at.answers (into at) x at.place

pub param_is_level : (at : ResolveCtx) (x : AstParam) → resolved_param at x ≡ param_level at x
param_is_level at x = read_param_is at.answers (into at) x at.place

pub path_is_level : (at : ResolveCtx) (x : AstPath) → resolved_path at x ≡ path_level at x
path_is_level at x = read_path_is at.answers (into at) x at.place

pub use_tree_is_level : (at : ResolveCtx) (x : AstPath) → resolved_use_tree at x ≡ use_tree_level at x
use_tree_is_level at x = read_use_tree_is at.answers (into at) x at.place

pub path_as_is_level : (alone : Bool) (at : ResolveCtx) (x : AstPath) → resolved_path_as alone at x ≡ path_level_as alone at x
path_as_is_level true at x = path_is_level at x
path_as_is_level false at x = use_tree_is_level at x

pub segment_is_level : (at : ResolveCtx) (x : AstPathSegment) → resolved_segment at x ≡ segment_level at x
segment_is_level at x = read_segment_is at.answers (into at) x at.place

pub path_type_is_level : (at : ResolveCtx) (x : AstPathType) → resolved_path_type at x ≡ path_type_level at x
path_type_is_level at x = read_path_type_is at.answers (into at) x at.place

pub arg_is_level : (at : ResolveCtx) (x : AstGenericArg) → resolved_arg at x ≡ arg_level at x
arg_is_level at x = read_generic_arg_is at.answers (into at) x at.place

pub assoc_arg_is_level : (at : ResolveCtx) (x : AstAssocTypeArg) → resolved_assoc_arg at x ≡ assoc_arg_level at x
assoc_arg_is_level at x = read_assoc_type_arg_is at.answers (into at) x at.place

pub bound_is_level : (at : ResolveCtx) (x : AstTypeBound) → resolved_bound at x ≡ bound_level at x
bound_is_level at x = read_type_bound_is at.answers (into at) x at.place
