-- Which resolved tree a written one is, at a place: a rule for each kind, which says of each written part where it is read. No other rules
-- are there, so what no rule allows isn't the reading.
use Rattle.std.specs.Prelude.{◌≡◌, List, [], ◌∷◌, map, Bool, true, false, codes, bytes_eq, Option, Some, None, option_map, is_some}
use Rattle.hir_syntax.specs.declared.ast.ElseBranch.TheOpen.{GenericArg-F, TypeKind-F, PatKind-F, ElseBranch-F, ExprKind-F, StmtKind-F}
use Rattle.hir_syntax.specs.declared.ast.Expr.{Expr as AstExpr}
use Rattle.hir_syntax.specs.declared.ast.Lifetime.{Lifetime as AstLifetime}
use Rattle.hir_syntax.specs.declared.ast.Name.{Name as AstName}
use Rattle.hir_syntax.specs.declared.ast.Path.{Path as AstPath, out-Path}
use Rattle.hir_syntax.specs.declared.ast.PathSegment.{PathSegment as AstPathSegment, out-PathSegment}
use Rattle.hir_syntax.specs.declared.ast.SegmentKind.{SegmentKind}
use Rattle.hir_syntax.specs.declared.ast.SegmentKind.TheVariants as kind
use Rattle.hir_syntax.specs.declared.pats.Pat.{Pat as AstPat}
use Rattle.hir_syntax.specs.declared.pats.PatLiteral.{PatLiteral}
use Rattle.hir_syntax.specs.declared.pats.RecordPatField.{RecordPatField as AstRecordPatField, out-RecordPatField}
use Rattle.hir_syntax.specs.declared.types.AssocTypeArg.{out-AssocTypeArg}
use Rattle.hir_syntax.specs.declared.types.BoundKind.{BoundKind}
use Rattle.hir_syntax.specs.declared.types.BoundKind.TheVariants as bound
use Rattle.hir_syntax.specs.declared.types.ForBinder.{ForBinder as AstForBinder}
use Rattle.hir_syntax.specs.declared.types.GenericArg.{GenericArg as AstGenericArg, out-GenericArg}
use Rattle.hir_syntax.specs.declared.types.LifetimeArg.{LifetimeArg as AstLifetimeArg}
use Rattle.hir_syntax.specs.declared.types.Param.{Param as AstParam, out-Param}
use Rattle.hir_syntax.specs.declared.types.PathType.{PathType as AstPathType, out-PathType}
use Rattle.hir_syntax.specs.declared.types.Type_.{Type_ as AstType_}
use Rattle.hir_syntax.specs.declared.types.TypeBound.{TypeBound as AstTypeBound, out-TypeBound}
use Rattle.hir_syntax.specs.declared.types.UseArg.{UseArg as AstUseArg}
use Rattle.hir_base.specs.declared.op.BinaryOp.TheVariants as op
use Rattle.hir_syntax.specs.declared.ast.BlockExpr.{BlockExpr as AstBlockExpr, out-BlockExpr}
use Rattle.hir_syntax.specs.declared.ast.BlockModifier.{BlockModifier}
use Rattle.hir_syntax.specs.declared.ast.BlockModifier.TheVariants as modifier
use Rattle.hir_syntax.specs.declared.ast.ElseBranch.{ElseBranch as AstElseBranch, out-ElseBranch}
use Rattle.hir_syntax.specs.declared.ast.RecordExprField.{RecordExprField as AstRecordExprField, out-RecordExprField}
use Rattle.hir_syntax.specs.declared.ast.RecordExprFieldList.{out-RecordExprFieldList}
use Rattle.hir_syntax.specs.declared.ast.Stmt.{Stmt as AstStmt, out-Stmt}
use Rattle.hir_syntax.specs.declared.ast.StmtKind.{out-StmtKind}
use Rattle.hir_syntax.specs.declared.branches.MatchArm.{MatchArm as AstMatchArm, out-MatchArm}
use Rattle.hir_syntax.specs.declared.macros.Fragment.TheVariants as fragment
use Rattle.hir_store.specs.declared.diagnostics.AwaitLocation.TheVariants as location
use Rattle.hir_store.specs.declared.hir.CoroutineKind.TheVariants as coroutine
use Rattle.hir_store.specs.declared.ids.BlockId.{BlockId}
use Rattle.hir_env.specs.ResolvedTree.{Arm, Arms, Block, Exprs, Field, Fields, Guard, OptionBlock, Params, Spread, Stmts, Arg, Args, Bound}
use Rattle.hir_env.specs.ResolvedTree.{Bounds, Constant, Expr, OptionArgs, OptionExpr, OptionParens, OptionPat, OptionPath, OptionType}
use Rattle.hir_env.specs.ResolvedTree.{Parts}
use Rattle.hir_env.specs.ResolvedTree.{Pat, PatField, PatFields, Pats, Path, Segment, Segments, Type_, Use}
use Rattle.hir_env.specs.Answering.{for_items, name_or_missing, names_of, question_items, rawness, truth}
use Rattle.hir_env.specs.Answers.{Expanding, unresolved, no_expansion, expanded, Answers}
use Rattle.hir_env.specs.Calls.{append, times}
use Rattle.hir_env.specs.Layers.{BlockExprLayer, Defined, ElseBranchLayer, ExprKindLayer, StmtKindLayer, written}
use Rattle.hir_env.specs.Pats.{minus_fits, side_of}
use Rattle.hir_env.specs.Ranges.{range_form}
use Rattle.hir_env.specs.Wrapped.{AstGuard, AstLetElse, AstConstArg, AstRetType, AstTypeArg, AstParenArgs, AstGenericArgList}
use Rattle.hir_store.specs.Pointers.{Pointer}
use Rattle.hir_store.specs.declared.name.Name.{Name}
use Rattle.hir_store.specs.declared.name.Name.TheVariants as name
use Rattle.hir_env.specs.ResolvedTree as tree
use Rattle.hir_env.specs.PatLayers.{PatKindLayer}
use Rattle.hir_env.specs.PathNames.{mod_path_of}
use Rattle.hir_env.specs.Paths.{binder_of, fn_head, mutability}
use Rattle.hir_env.specs.TypeLayers.{GenericArgLayer, TypeKindLayer}
use Rattle.hir_env.specs.TypePats.{name_given, type_pat_or_none}
use Rattle.hir_env.specs.declared.expand.FragmentKind.TheVariants as fragments
use Rattle.hir_env.specs.declared.ctx.LowerCtx.{LowerCtx}
use Rattle.thm_reading.specs.LowerCtx.{CallAs, IsDisabled, IsEnabled, alias_here, answer, arm_node, awaiting, block_node, call_node}
use Rattle.thm_reading.specs.LowerCtx.{def_here, expr_kind, expr_node, field_node, in_an_impl, in_constant, in_module, in_projection}
use Rattle.thm_reading.specs.LowerCtx.{its_expr, its_pat, its_type, jump_here, label_here, lifetime_here, names_it, node, number_here}
use Rattle.thm_reading.specs.LowerCtx.{outside_impl, param_node, pat_field_node, pat_kind, pat_node, root_at, site, corresponds_to_value}
use Rattle.thm_reading.specs.LowerCtx.{stmt_node, trait_node, type_kind, type_node, use_here, within}
use Rattle.thm_reading.specs.Shapes.{AroundAs, LastAs, are_stmts, as_elements, as_written, at_root, by_its_macro, ends_variadic, is_call}
use Rattle.thm_reading.specs.Shapes.{is_operator, lacking, start_of}
use Rattle.thm_reading.specs.Targets.{OptTargetAs}

module _ (env : Answers) where
  mutual
    -- expressions that may be absent, and constants
    pub data OptExprAs : LowerCtx → Option AstExpr → OptionExpr → Type 0 where
      no_expr : {p : _} → OptExprAs p None tree.no_expr
      some_expr : {p e x : _} → ExprAs p (expr_node p e) (expr_kind e) x → OptExprAs p (Some e) (tree.some_expr x)

    -- a constant is read where an `impl` is an error and an `await` stands in a constant
    pub data LenAs : LowerCtx → Option AstConstArg → Constant → Type 0 where
      no_len : {p : _} → LenAs p None (tree.constant tree.no_expr)
      some_len : {p e x : _} → OptExprAs (in_constant p) e x → LenAs p (Some e) (tree.constant x)

    -- types
    pub data OptTypeAs : LowerCtx → Option AstType_ → OptionType → Type 0 where
      no_type : {p : _} → OptTypeAs p None tree.no_type
      some_type : {p t x : _} → TypeKindAs p (type_node p t) (type_kind t) x → OptTypeAs p (Some t) (tree.some_type x)

    pub data TypesAs : LowerCtx → List AstType_ → Parts → Type 0 where
      no_types : {p : _} → TypesAs p [] tree.no_parts
      more_types : {p t ts x xs : _} → OptTypeAs p (Some t) x → TypesAs p ts xs → TypesAs p (t ∷ ts) (tree.more_parts x xs)

    pub data PartsAs : LowerCtx → List AstTypeArg → Parts → Type 0 where
      no_parts : {p : _} → PartsAs p [] tree.no_parts
      more_parts : {p t ts x xs : _} → OptTypeAs p t x → PartsAs p ts xs → PartsAs p (t ∷ ts) (tree.more_parts x xs)

    -- what stands behind `->`
    pub data AnswerAs : LowerCtx → Option AstRetType → OptionType → Type 0 where
      no_answer : {p : _} → AnswerAs p None tree.no_type
      answer_type : {p t x : _} → OptTypeAs p t x → AnswerAs p (Some t) x

    -- the parameters of a function pointer: the names and types of those that aren't variadic
    pub data FnParamsAs : LowerCtx → List AstParam → List (Option Name) → Parts → Type 0 where
      no_params : {p : _} → FnParamsAs p [] [] tree.no_parts
      variadic_param : {p x xs ns ts : _} → (out-Param x).variadic ≡ true → FnParamsAs p xs ns ts → FnParamsAs p (x ∷ xs) ns ts
      fn_param : {p x xs q t ns ts : _} → (out-Param x).variadic ≡ false → OptPatAs p (out-Param x).pat q → OptTypeAs p (out-Param x).ty t
          → FnParamsAs p xs ns ts → FnParamsAs p (x ∷ xs) (name_given q ∷ ns) (tree.more_parts t ts)

    pub data TypeKindAs : LowerCtx → Pointer → TypeKindLayer written → Type_ → Type 0 where
      paren_type : {p s t x : _} → OptTypeAs p t x → TypeKindAs p s (TypeKind-F.ParenType t) (tree.paren_type x)
      slice_type : {p s t x : _} → OptTypeAs p t x → TypeKindAs p s (TypeKind-F.SliceType t) (tree.over_type s tree.slice_of x)
      array_type : {p s t n x y : _} → OptTypeAs p t x → LenAs p n y → TypeKindAs p s (TypeKind-F.ArrayType t n) (tree.array_type s y x)
      tuple_type : {p s ts xs : _} → TypesAs p ts xs → TypeKindAs p s (TypeKind-F.TupleType ts) (tree.tuple_type s xs)
      path_type : {p s x y : _} → OptPathAs p x y → TypeKindAs p s (TypeKind-F.PathType x) (tree.path_type s y)
      ptr_type : {p s m t x : _} → OptTypeAs p t x
          → TypeKindAs p s (TypeKind-F.PtrType m t) (tree.over_type s (tree.pointer_to (mutability m)) x)
      ref_type : {p s l m t x : _} → OptTypeAs p t x
          → TypeKindAs p s (TypeKind-F.RefType l m t) (tree.ref_type s (option_map (lifetime_here p) l) (mutability m) x)
      fn_type : {p s is_unsafe abi ps r ns ts y : _} → FnParamsAs p ps ns ts → AnswerAs p r y
          → TypeKindAs p s (TypeKind-F.FnPtrType is_unsafe abi (Some ps) r)
          (tree.fn_type s (fn_head is_unsafe abi (ends_variadic false ps) ns) ts y)
      fn_without_list : {p s is_unsafe abi r y : _} → AnswerAs p r y
          → TypeKindAs p s (TypeKind-F.FnPtrType is_unsafe abi None r) (tree.fn_type s (fn_head is_unsafe abi false []) tree.no_parts y)
      for_type : {p s b t x : _} → OptTypeAs p t x → TypeKindAs p s (TypeKind-F.ForType b t) (tree.for_type (binder_of b) x)
      -- the bounds of an `impl` are inside of it, and in another scope of lifetimes
      impl_type : {p : LowerCtx} {s bs xs : _} → p.in_impl ≡ false → BoundsAs (in_an_impl p) bs xs
          → TypeKindAs p s (TypeKind-F.ImplTraitType bs) (tree.impl_type s p.impl_trait xs)
      impl_in_impl : {p : LowerCtx} {s bs : _} → p.in_impl ≡ true → TypeKindAs p s (TypeKind-F.ImplTraitType bs) (tree.nested_impl s)
      dyn_type : {p s bs xs : _} → BoundsAs p bs xs → TypeKindAs p s (TypeKind-F.DynTraitType bs) (tree.dyn_type s xs)
      pattern_type : {p s t q x y : _} → OptTypeAs p t x → OptPatAs (in_constant p) q y
          → TypeKindAs p s (TypeKind-F.PatternType t q) (tree.pattern_type s x y (type_pat_or_none env.lang_items y))
      never_type : {p s : _} → TypeKindAs p s TypeKind-F.NeverType (tree.leaf_type s tree.never_leaf)
      infer_type : {p s : _} → TypeKindAs p s TypeKind-F.InferType (tree.leaf_type s tree.infer_leaf)
      callless_type : {p s : _} → TypeKindAs p s (TypeKind-F.MacroType None) (tree.macro_type s tree.callless tree.no_type)
      -- what a call stands for is read in the file of its expansion; all else of the place is as at the call
      called_type : {p s c y x : _} → CallAs (call_node p c) (answer env p c fragments.Type_) y
          → OptTypeAs (within (answer env p c fragments.Type_) p) (its_type (answer env p c fragments.Type_)) x
          → TypeKindAs p s (TypeKind-F.MacroType (Some c)) (tree.macro_type s y x)

    -- paths
    pub data OptPathAs : LowerCtx → Option AstPath → OptionPath → Type 0 where
      no_path : {p : _} → OptPathAs p None tree.no_path
      some_path : {p x y : _} → PathAs p (out-Path x).in_macro (out-Path x).leading (out-Path x).segs (out-Path x).use_ y
          → OptPathAs p (Some x) (tree.some_path y)

    -- The first segment, those behind it, and the path of the use tree in front of it. An alias is looked for by all names of what it is.
    pub data PathAs : LowerCtx → Bool → Bool → List (Option AstPathSegment) → Option AstPath → Path → Type 0 where
      path : {p : LowerCtx} {in_macro leading : Bool} {segs : List (Option AstPathSegment)} {use_ : Option AstPath} {f r u a : _}
          → start_of in_macro segs use_ leading ≡ as_written → FirstAs p segs f r → OptUseTreeAs p use_ u
          → a ≡ alias_here env p p.lifetimes (mod_path_of (tree.some_path (tree.path None leading f r u)))
          → PathAs p in_macro leading segs use_ (tree.path a leading f r u)
      broken_path : {p : LowerCtx} {in_macro leading : Bool} {segs : List (Option AstPathSegment)} {use_ : Option AstPath} {a : _}
          → start_of in_macro segs use_ leading ≡ lacking
          → a ≡ alias_here env p p.lifetimes (mod_path_of (tree.some_path
          (tree.path None false tree.broken_segment tree.no_segments tree.no_path)))
          → PathAs p in_macro leading segs use_ (tree.path a false tree.broken_segment tree.no_segments tree.no_path)
      root_path : {p : LowerCtx} {in_macro leading : Bool} {segs : List (Option AstPathSegment)} {use_ : Option AstPath} {s f r u a : _}
          → start_of in_macro segs use_ leading ≡ by_its_macro s → FirstAs p segs f r
          → u ≡ at_root env p s (tree.path None leading f r tree.no_path)
          → a ≡ alias_here env p p.lifetimes (mod_path_of (tree.some_path (tree.path None leading f r u)))
          → PathAs p in_macro leading segs use_ (tree.path a leading f r u)

    -- The use tree around a path is a part of a longer list of names: no alias is looked for by it, and it is never directly in a call.
    pub data OptUseTreeAs : LowerCtx → Option AstPath → OptionPath → Type 0 where
      no_use_tree : {p : _} → OptUseTreeAs p None tree.no_path
      some_use_tree : {p x y : _} → UseTreeAs p (out-Path x).leading (out-Path x).segs (out-Path x).use_ y
          → OptUseTreeAs p (Some x) (tree.some_path y)

    pub data UseTreeAs : LowerCtx → Bool → List (Option AstPathSegment) → Option AstPath → Path → Type 0 where
      use_tree : {p leading segs use_ f r u : _} → FirstAs p segs f r → OptUseTreeAs p use_ u
          → UseTreeAs p leading segs use_ (tree.path None leading f r u)

    pub data FirstAs : LowerCtx → List (Option AstPathSegment) → Segment → Segments → Type 0 where
      none_first : {p : _} → FirstAs p [] tree.absent_segment tree.no_segments
      some_first : {p s ss f r : _} → OptSegmentAs p s f → SegmentsAs p ss r → FirstAs p (s ∷ ss) f r

    pub data SegmentsAs : LowerCtx → List (Option AstPathSegment) → Segments → Type 0 where
      no_segments : {p : _} → SegmentsAs p [] tree.no_segments
      more_segments : {p s ss y ys : _} → OptSegmentAs p s y → SegmentsAs p ss ys → SegmentsAs p (s ∷ ss) (tree.more_segments y ys)

    pub data OptSegmentAs : LowerCtx → Option AstPathSegment → Segment → Type 0 where
      absent_segment : {p : _} → OptSegmentAs p None tree.absent_segment
      some_segment : {p s y : _}
          → SegmentAs p (out-PathSegment s).seg (out-PathSegment s).name (out-PathSegment s).generics (out-PathSegment s).parens
          (out-PathSegment s).ret (out-PathSegment s).rtn (out-PathSegment s).ty (out-PathSegment s).trait_ y
          → OptSegmentAs p (Some s) y

    -- its kind, its name, `<..>`, `(..)`, `-> ..`, whether `(..)` has two dots in it, and the type and trait of a qualified one
    pub data SegmentAs : LowerCtx → Option SegmentKind → Option AstName → Option AstGenericArgList → Option AstParenArgs
        → Option AstRetType → Bool → Option AstType_ → Option AstPathType → Segment → Type 0 where
      kindless : {p n g a r d t x : _} → SegmentAs p None n g a r d t x tree.broken_segment
      nameless : {p g a r d t x : _} → SegmentAs p (Some kind.Name) None g a r d t x tree.broken_segment
      named : {p : LowerCtx} {n : AstName} {g a r d t x gs ps : _} → bytes_eq n.t (codes "$crate") ≡ false → ArgListAs p g gs
          → ParensAs p a r ps
          → SegmentAs p (Some kind.Name) (Some n) g a r d t x (tree.name_segment (name.Text n.t) tt (tree.segment_args gs ps d))
      -- by the context of the name
      dollar_crate : {p : LowerCtx} {n : AstName} {g a r d t x : _} → bytes_eq n.t (codes "$crate") ≡ true
          → SegmentAs p (Some kind.Name) (Some n) g a r d t x (tree.dollar_crate_segment (root_at env p n.id))
      self : {p n g a r d t x : _} → SegmentAs p (Some kind.SelfKw) n g a r d t x tree.self_segment
      crate : {p n g a r d t x : _} → SegmentAs p (Some kind.CrateKw) n g a r d t x tree.crate_segment
      super : {p n g a r d t x : _} → SegmentAs p (Some kind.SuperKw) n g a r d t x tree.super_segment
      self_type : {p n g a r d t x : _} → SegmentAs p (Some kind.SelfTypeKw) n g a r d t x tree.self_type_segment
      untyped : {p n g a r d x : _} → SegmentAs p (Some kind.Qualified) n g a r d None x tree.broken_segment
      of_type : {p n g a r d t y : _} → OptTypeAs (in_projection p) (Some t) (tree.some_type y)
          → SegmentAs p (Some kind.Qualified) n g a r d (Some t) None (tree.type_segment y)
      of_trait : {p n g a r d t x y z : _} → OptTypeAs (in_projection p) (Some t) (tree.some_type y)
          → OptPathAs (in_projection p) (out-PathType x).path z
          → SegmentAs p (Some kind.Qualified) n g a r d (Some t) (Some x) (tree.trait_segment y (trait_node p x) z)

    -- `-> ..` counts behind `(..)` alone
    pub data ParensAs : LowerCtx → Option AstParenArgs → Option AstRetType → OptionParens → Type 0 where
      no_parens : {p r : _} → ParensAs p None r tree.no_parens
      without_answer : {p a xs : _} → PartsAs p a xs → ParensAs p (Some a) None (tree.some_parens xs tree.no_ret)
      with_answer : {p a r xs y : _} → PartsAs p a xs → OptTypeAs p r y
          → ParensAs p (Some a) (Some r) (tree.some_parens xs (tree.some_ret y))

    -- arguments
    pub data ArgListAs : LowerCtx → Option AstGenericArgList → OptionArgs → Type 0 where
      no_list : {p : _} → ArgListAs p None tree.no_arg_list
      some_list : {p g xs : _} → ArgsAs p g xs → ArgListAs p (Some g) (tree.some_arg_list xs)

    pub data ArgsAs : LowerCtx → List AstGenericArg → Args → Type 0 where
      no_args : {p : _} → ArgsAs p [] tree.no_args
      more_args : {p g gs x xs : _} → ArgAs p (out-GenericArg g) x → ArgsAs p gs xs → ArgsAs p (g ∷ gs) (tree.more_args x xs)

    pub data ArgAs : LowerCtx → GenericArgLayer written → Arg → Type 0 where
      type_arg : {p t x : _} → OptTypeAs p t x → ArgAs p (GenericArg-F.TypeArg t) (tree.type_arg x)
      lifetime_arg : {p : LowerCtx} {l : AstLifetimeArg} {x : _} → l.lifetime ≡ Some x
          → ArgAs p (GenericArg-F.LifetimeArg l) (tree.lifetime_arg (lifetime_here p x))
      lacking_lifetime : {p : LowerCtx} {l : AstLifetimeArg} → l.lifetime ≡ None → ArgAs p (GenericArg-F.LifetimeArg l) tree.skipped_arg
      const_arg : {p e x : _} → OptExprAs (in_constant p) e x → ArgAs p (GenericArg-F.ConstArg e) (tree.const_arg (tree.constant x))
      assoc_arg : {p b y : _}
          → BindingAs p (out-AssocTypeArg b).params (out-AssocTypeArg b).name (out-AssocTypeArg b).generics (out-AssocTypeArg b).rtn
          (out-AssocTypeArg b).ty (out-AssocTypeArg b).bounds y
          → ArgAs p (GenericArg-F.AssocTypeArg b) y

    -- whether it has a parameter list, its name, `<..>`, whether `(..)` has two dots in it, its type and its bounds
    pub data BindingAs : LowerCtx → Bool → Option AstName → Option AstGenericArgList → Bool → Option AstType_ → List AstTypeBound
        → Arg → Type 0 where
      with_list : {p n g d t bs : _} → BindingAs p true n g d t bs tree.skipped_arg
      unnamed : {p g d t bs : _} → BindingAs p false None g d t bs tree.skipped_arg
      -- an `impl` may stand in it, wherever it stands
      binding : {p : LowerCtx} {n : AstName} {g d t bs xs x ys : _} → ArgListAs (outside_impl p) g xs → OptTypeAs (outside_impl p) t x
          → BoundsAs (outside_impl p) bs ys → BindingAs p false (Some n) g d t bs (tree.assoc_arg (name.Text n.t) xs d x ys)

    pub data BoundsAs : LowerCtx → List AstTypeBound → Bounds → Type 0 where
      no_bounds : {p : _} → BoundsAs p [] tree.no_bounds
      more_bounds : {p b bs x xs : _}
          → BoundAs p (out-TypeBound b).b (out-TypeBound b).ty (out-TypeBound b).maybe (out-TypeBound b).binder (out-TypeBound b).lifetime
          (out-TypeBound b).uses x
          → BoundsAs p bs xs → BoundsAs p (b ∷ bs) (tree.more_bounds x xs)

    pub data BoundAs : LowerCtx → Option BoundKind → Option AstPathType → Bool → Option AstForBinder → Option AstLifetime
        → List AstUseArg → Bound → Type 0 where
      path_bound : {p t m b l us x : _} → OptPathAs p (out-PathType t).path x
          → BoundAs p (Some bound.Path) (Some t) m b l us (tree.path_bound (trait_node p t) x m (binder_of b))
      lifetime_bound : {p t m b l us : _} → BoundAs p (Some bound.Lifetime) t m b (Some l) us (tree.lifetime_bound (lifetime_here p l))
      use_bound : {p t m b l us : _} → BoundAs p (Some bound.Use) t m b l us (tree.use_bound (map (use_here p) us))
      kindless_bound : {p t m b l us : _} → BoundAs p None t m b l us tree.error_bound
      pathless_bound : {p m b l us : _} → BoundAs p (Some bound.Path) None m b l us tree.error_bound
      lacking_bound : {p t m b us : _} → BoundAs p (Some bound.Lifetime) t m b None us tree.error_bound

    -- patterns
    pub data OptPatAs : LowerCtx → Option AstPat → OptionPat → Type 0 where
      no_pat : {p : _} → OptPatAs p None tree.no_pat
      some_pat : {p x y : _} → PatKindAs p (pat_node p x) (pat_kind x) y → OptPatAs p (Some x) (tree.some_pat y)

    pub data PatsAs : LowerCtx → List AstPat → Pats → Type 0 where
      no_pats : {p : _} → PatsAs p [] tree.no_pats
      more_pats : {p x xs y ys : _} → PatKindAs p (pat_node p x) (pat_kind x) y → PatsAs p xs ys → PatsAs p (x ∷ xs) (tree.more_pats y ys)

    pub data PatKindAs : LowerCtx → Pointer → PatKindLayer written → Pat → Type 0 where
      -- a plain name that stands for a constant, a variant or a struct
      value_pat : {p s n u w : _} → corresponds_to_value env p n ≡ true → u ≡ names_it env p n false false
          → PatKindAs p s (PatKind-F.IdentPat n false false None) (tree.name_pat s u w)
      plain_pat : {p s n u w : _} → corresponds_to_value env p n ≡ false → u ≡ names_it env p n false false
          → PatKindAs p s (PatKind-F.IdentPat n false false None) (tree.bind_pat s u w tree.no_pat)
      ref_pat_of : {p s n m x u w y : _} → u ≡ names_it env p n true m → OptPatAs p x y
          → PatKindAs p s (PatKind-F.IdentPat n true m x) (tree.bind_pat s u w y)
      mut_pat : {p s n x u w y : _} → u ≡ names_it env p n false true → OptPatAs p x y
          → PatKindAs p s (PatKind-F.IdentPat n false true x) (tree.bind_pat s u w y)
      sub_pat : {p s n x u w y : _} → u ≡ names_it env p n false false → OptPatAs p (Some x) y
          → PatKindAs p s (PatKind-F.IdentPat n false false (Some x)) (tree.bind_pat s u w y)
      -- `..` is taken out of its calls, in tuples and calls alone
      tuple_struct_pat : {p s x c xs y ys : _} → OptPathAs p x y → PatsAs p xs ys
          → PatKindAs p s (PatKind-F.TupleStructPat x c xs) (tree.tuple_struct_pat s y c (as_elements ys))
      tuple_pat : {p s c xs ys : _} → PatsAs p xs ys → PatKindAs p s (PatKind-F.TuplePat c xs) (tree.tuple_pat s c (as_elements ys))
      ref_pat : {p s m x y : _} → OptPatAs p x y → PatKindAs p s (PatKind-F.RefPat m x) (tree.over_pat s (tree.ref_to (mutability m)) y)
      path_pat : {p s x y : _} → OptPathAs p x y → PatKindAs p s (PatKind-F.PathPat x) (tree.path_pat s y)
      or_pat : {p s xs ys : _} → PatsAs p xs ys → PatKindAs p s (PatKind-F.OrPat xs) (tree.or_pat s ys)
      paren_pat : {p s x y : _} → OptPatAs p x y → PatKindAs p s (PatKind-F.ParenPat x) (tree.paren_pat s y)
      box_pat : {p s x y : _} → OptPatAs p x y → PatKindAs p s (PatKind-F.BoxPat x) (tree.over_pat s tree.box_of y)
      deref_pat : {p s x y : _} → OptPatAs p x y → PatKindAs p s (PatKind-F.DerefPat x) (tree.over_pat s tree.deref_of y)
      record_pat : {p s x fs d y ys : _} → OptPathAs p x y → PatFieldsAs p fs ys
          → PatKindAs p s (PatKind-F.RecordPat x fs d) (tree.record_pat s y ys d)
      slice_pat : {p s xs m zs x y z : _} → PatsAs p xs x → OptPatAs p m y → PatsAs p zs z
          → PatKindAs p s (PatKind-F.SlicePat xs m zs) (tree.slice_pat s x y z)
      lacking_literal : {p s m : _} → PatKindAs p s (PatKind-F.LiteralPat None m) (tree.leaf_pat s tree.broken_leaf)
      literal_pat : {p : LowerCtx} {s : Pointer} {l : PatLiteral} {m : _} → minus_fits m l.literal.lit ≡ true
          → PatKindAs p s (PatKind-F.LiteralPat (Some l) m) (tree.literal_pat s (Some (node p l.id l.range))
          (record { minus = m; literal = l.literal }))
      broken_literal : {p : LowerCtx} {s : Pointer} {l : PatLiteral} {m : _} → minus_fits m l.literal.lit ≡ false
          → PatKindAs p s (PatKind-F.LiteralPat (Some l) m) (tree.leaf_pat s tree.broken_leaf)
      range_pat : {p s o a b x y : _} → OptPatAs p a x → OptPatAs p b y
          → PatKindAs p s (PatKind-F.RangePat o a b) (tree.range_pat s o (side_of x) (side_of y))
      cfg_pat : {p s c : _}
          → PatKindAs p s (PatKind-F.CfgPredPat c) (tree.literal_pat s None (record { minus = false; literal = truth (env.cfg_pred c) }))
      callless_pat : {p s : _} → PatKindAs p s (PatKind-F.MacroPat None) (tree.macro_pat s tree.callless tree.no_pat)
      called_pat : {p s c y x : _} → CallAs (call_node p c) (answer env p c fragments.Pat) y
          → OptPatAs (within (answer env p c fragments.Pat) p) (its_pat (answer env p c fragments.Pat)) x
          → PatKindAs p s (PatKind-F.MacroPat (Some c)) (tree.macro_pat s y x)
      wild_pat : {p s : _} → PatKindAs p s PatKind-F.WildcardPat (tree.leaf_pat s tree.wild_leaf)
      rest_pat : {p s : _} → PatKindAs p s PatKind-F.RestPat (tree.leaf_pat s tree.rest_leaf)
      not_null_pat : {p s : _} → PatKindAs p s PatKind-F.NotNullPat (tree.leaf_pat s tree.not_null_leaf)
      const_block_pat : {p s : _} → PatKindAs p s PatKind-F.ConstBlockPat (tree.leaf_pat s tree.broken_leaf)

    pub data PatFieldsAs : LowerCtx → List AstRecordPatField → PatFields → Type 0 where
      no_pat_fields : {p : _} → PatFieldsAs p [] tree.no_pat_fields
      more_pat_fields : {p x xs y ys : _} → PatFieldAs p (pat_field_node p x) (out-RecordPatField x).name (out-RecordPatField x).pat y
          → PatFieldsAs p xs ys → PatFieldsAs p (x ∷ xs) (tree.more_pat_fields y ys)

    -- its name and its pattern, where its condition holds
    pub data PatFieldAs : LowerCtx → Pointer → Option AstName → Option AstPat → PatField → Type 0 where
      enabled_pat_field : {p s n x y : _} → IsEnabled env s → PatPartAs p s n x y → PatFieldAs p s n x y
      disabled_pat_field : {p s n x y by : _} → IsDisabled env s by → PatPartAs p s n x y
          → PatFieldAs p s n x (tree.disabled_pat_field s by y)

    pub data PatPartAs : LowerCtx → Pointer → Option AstName → Option AstPat → PatField → Type 0 where
      partless_pat_field : {p s n : _} → PatPartAs p s n None tree.partless_pat_field
      pat_field : {p s n x y : _} → PatKindAs p (pat_node p x) (pat_kind x) y
          → PatPartAs p s n (Some x) (tree.pat_field s (option_map (λ m. name.Text m.t) n) y)

    -- the parameters of a closure
    pub data ParamsAs : LowerCtx → Option (List AstParam) → Params → Type 0 where
      without_params : {p : _} → ParamsAs p None tree.no_params
      last_param : {p : _} → ParamsAs p (Some []) tree.no_params
      enabled_param : {p x xs q t ys : _} → IsEnabled env (param_node p x) → OptPatAs p (out-Param x).pat q → OptTypeAs p (out-Param x).ty t
          → ParamsAs p (Some xs) ys → ParamsAs p (Some (x ∷ xs)) (tree.more_params (tree.param q t) ys)
      disabled_param : {p x xs q t ys by : _} → IsDisabled env (param_node p x) by → OptPatAs p (out-Param x).pat q
          → OptTypeAs p (out-Param x).ty t → ParamsAs p (Some xs) ys
          → ParamsAs p (Some (x ∷ xs)) (tree.more_params (tree.disabled_param (param_node p x) by (tree.param q t)) ys)

    -- expressions
    -- an expression, where its condition holds
    pub data ExprAs : LowerCtx → Pointer → ExprKindLayer written → Expr → Type 0 where
      enabled : {p s k x : _} → IsEnabled env s → ExprKindAs p s k x → ExprAs p s k x
      disabled : {p s k x by : _} → IsDisabled env s by → ExprKindAs p s k x
          → ExprAs p s k (tree.disabled_expr (record { entered = []; condition = Some (s, by) }) x)

    pub data ExprsAs : LowerCtx → List AstExpr → Exprs → Type 0 where
      no_exprs : {p : _} → ExprsAs p [] tree.no_exprs
      more_exprs : {p e es x xs : _} → ExprAs p (expr_node p e) (expr_kind e) x → ExprsAs p es xs
          → ExprsAs p (e ∷ es) (tree.more_exprs x xs)

    pub data OptExprsAs : LowerCtx → Option (List AstExpr) → Exprs → Type 0 where
      without_exprs : {p : _} → OptExprsAs p None tree.no_exprs
      with_exprs : {p es xs : _} → ExprsAs p es xs → OptExprsAs p (Some es) xs

    pub data ElseAs : LowerCtx → Option AstElseBranch → OptionExpr → Type 0 where
      no_else : {p : _} → ElseAs p None tree.no_expr
      some_else : {p e x : _} → ElseKindAs p (out-ElseBranch e) x → ElseAs p (Some e) (tree.some_expr x)

    -- the condition of a block behind `else` isn't asked for
    pub data ElseKindAs : LowerCtx → ElseBranchLayer written → Expr → Type 0 where
      else_block : {p b x : _} → PlainAs p (out-BlockExpr b) x → ElseKindAs p (ElseBranch-F.ElseBlock b) (tree.block_expr x)
      else_if : {p e x : _} → ExprAs p (expr_node p e) (expr_kind e) x → ElseKindAs p (ElseBranch-F.ElseIf e) x

    pub data OptPlainAs : LowerCtx → Option AstBlockExpr → OptionBlock → Type 0 where
      no_block : {p : _} → OptPlainAs p None tree.no_block
      some_block : {p b x : _} → PlainAs p (out-BlockExpr b) x → OptPlainAs p (Some b) (tree.some_block x)

    -- the body of a `for` is an expression, with its modifiers, its label and its condition
    pub data ForBodyAs : LowerCtx → Option AstBlockExpr → OptionExpr → Type 0 where
      no_body : {p : _} → ForBodyAs p None tree.no_expr
      enabled_body : {p b x : _} → IsEnabled env (block_node p b) → OwnAs p (out-BlockExpr b).mod_ (out-BlockExpr b) x
          → ForBodyAs p (Some b) (tree.some_expr x)
      disabled_body : {p b x by : _} → IsDisabled env (block_node p b) by → OwnAs p (out-BlockExpr b).mod_ (out-BlockExpr b) x
          → ForBodyAs p (Some b) (tree.some_expr (tree.disabled_expr (record { entered = []; condition = Some (block_node p b, by) }) x))

    pub data ExprKindAs : LowerCtx → Pointer → ExprKindLayer written → Expr → Type 0 where
      if_expr : {p s c t e x y z : _} → OptExprAs p c x → OptPlainAs p t y → ElseAs p e z
          → ExprKindAs p s (ExprKind-F.IfExpr c t e) (tree.if_expr s x y z)
      block_expr : {p s b x : _} → OwnAs p (out-BlockExpr b).mod_ (out-BlockExpr b) x → ExprKindAs p s (ExprKind-F.BlockExpr b) x
      loop_expr : {p s l b m w x : _} → m ≡ label_here env p l → OptPlainAs p b x
          → ExprKindAs p s (ExprKind-F.LoopExpr l b) (tree.loop_expr s m w x)
      while_expr : {p s l c b m w x y : _} → m ≡ label_here env p l → OptExprAs p c x → OptPlainAs p b y
          → ExprKindAs p s (ExprKind-F.WhileExpr l c b) (tree.while_expr s m w x y)
      for_expr : {p s l q h b is m w x y z : _} → for_items env.lang_items ≡ Some is → m ≡ label_here env p l → OptPatAs p q x
          → OptExprAs p h y → ForBodyAs p b z → ExprKindAs p s (ExprKind-F.ForExpr l q h b) (tree.for_expr s is m w x y z)
      itemless_for : {p s l q h b : _} → for_items env.lang_items ≡ None
          → ExprKindAs p s (ExprKind-F.ForExpr l q h b) (tree.itemless_expr s)
      question_expr : {p s e is x : _} → question_items env.lang_items ≡ Some is → OptExprAs p e x
          → ExprKindAs p s (ExprKind-F.TryExpr e) (tree.question_expr s is x)
      itemless_question : {p s e : _} → question_items env.lang_items ≡ None → ExprKindAs p s (ExprKind-F.TryExpr e) (tree.itemless_expr s)
      call_expr : {p s f es x xs : _} → OptExprAs p f x → OptExprsAs p es xs
          → ExprKindAs p s (ExprKind-F.CallExpr f es) (tree.call_expr s x (is_some es) xs)
      -- the hygiene of a path is that of the expression
      path_expr : {p s x y : _} → OptPathAs p x y → ExprKindAs p s (ExprKind-F.PathExpr x) (tree.path_expr s y (env.hygiene (site s)))
      continue_expr : {p s l : _} → ExprKindAs p s (ExprKind-F.ContinueExpr l) (tree.continue_expr s (option_map (jump_here env p) l))
      break_expr : {p s l e x : _} → OptExprAs p e x
          → ExprKindAs p s (ExprKind-F.BreakExpr l e) (tree.break_expr s (option_map (jump_here env p) l) x)
      paren_expr : {p s e x : _} → OptExprAs p e x → ExprKindAs p s (ExprKind-F.ParenExpr e) (tree.paren_expr s x)
      literal_expr : {p s l : _} → ExprKindAs p s (ExprKind-F.Literal l) (tree.literal_expr s l)
      method_call_expr : {p s e n g es x xs gs : _} → OptExprAs p e x → OptExprsAs p es xs → ArgListAs p g gs
          → ExprKindAs p s (ExprKind-F.MethodCallExpr e n g es) (tree.method_call_expr s x (name_or_missing n) xs gs)
      field_expr : {p s e n x : _} → OptExprAs p e x
          → ExprKindAs p s (ExprKind-F.FieldExpr e n) (tree.unary_expr s (tree.field_of (name_or_missing n)) x)
      prefix_expr : {p s o e x : _} → OptExprAs p e x
          → ExprKindAs p s (ExprKind-F.PrefixExpr (Some o) e) (tree.unary_expr s (tree.prefix_of o) x)
      nameless_expr : {p s e x : _} → OptExprAs p e x → ExprKindAs p s (ExprKind-F.PrefixExpr None e) (tree.nameless_expr s x)
      logic_expr : {p s o a b x y : _} → OptExprAs p a x → OptExprAs p b y
          → ExprKindAs p s (ExprKind-F.BinExpr (Some (op.LogicOp o)) a b) (tree.lazy_expr s o x y)
      assign_expr : {p s a b x t y : _} → OptExprAs p a x → OptTargetAs env p None x t → OptExprAs p b y
          → ExprKindAs p s (ExprKind-F.BinExpr (Some op.Assign) a b) (tree.assign_expr s x t y)
      operator_expr : {p s o a b x y : _} → is_operator o ≡ true → OptExprAs p a x → OptExprAs p b y
          → ExprKindAs p s (ExprKind-F.BinExpr o a b) (tree.binary_expr s (tree.operator o) x y)
      index_expr : {p s a b x y : _} → OptExprAs p a x → OptExprAs p b y
          → ExprKindAs p s (ExprKind-F.IndexExpr a b) (tree.binary_expr s tree.index_of x y)
      ref_expr : {p s r m e x : _} → OptExprAs p e x
          → ExprKindAs p s (ExprKind-F.RefExpr r m e) (tree.unary_expr s (tree.reference_to (rawness r) (mutability m)) x)
      tuple_expr : {p s c es xs : _} → ExprsAs p es xs → ExprKindAs p s (ExprKind-F.TupleExpr c es) (tree.list_expr s (tree.tuple_of c) xs)
      array_expr : {p s es xs : _} → ExprsAs p es xs → ExprKindAs p s (ExprKind-F.ArrayExpr es) (tree.list_expr s tree.array_of xs)
      repeat_expr : {p s e n x y : _} → OptExprAs p e x → OptExprAs (in_constant p) n y
          → ExprKindAs p s (ExprKind-F.RepeatExpr e n) (tree.repeat_expr s x (tree.constant y))
      -- what stands in front of the body is read outside of the closure
      closure_expr : {p s ps r e m t xs y x : _} → ParamsAs p ps xs → AnswerAs p r y
          → OptExprAs (awaiting (Some location.NonAsyncClosure) p) e x
          → ExprKindAs p s (ExprKind-F.ClosureExpr ps r e false false m t) (tree.closure_expr s m t xs y x)
      gen_closure : {p s ps r e m t xs y x : _} → ParamsAs p ps xs → AnswerAs p r y
          → OptExprAs (awaiting (Some location.NonAsyncClosure) p) e x
          → ExprKindAs p s (ExprKind-F.ClosureExpr ps r e false true m t) (tree.coroutine_closure_expr s coroutine.Gen m xs y x)
      async_closure : {p s ps r e m t xs y x : _} → ParamsAs p ps xs → AnswerAs p r y → OptExprAs (awaiting None p) e x
          → ExprKindAs p s (ExprKind-F.ClosureExpr ps r e true false m t) (tree.coroutine_closure_expr s coroutine.Async m xs y x)
      async_gen_closure : {p s ps r e m t xs y x : _} → ParamsAs p ps xs → AnswerAs p r y → OptExprAs (awaiting None p) e x
          → ExprKindAs p s (ExprKind-F.ClosureExpr ps r e true true m t) (tree.coroutine_closure_expr s coroutine.AsyncGen m xs y x)
      return_expr : {p s e x : _} → OptExprAs p e x → ExprKindAs p s (ExprKind-F.ReturnExpr e) (tree.leaving_expr s tree.returning x)
      yeet_expr : {p s e x : _} → OptExprAs p e x → ExprKindAs p s (ExprKind-F.YeetExpr e) (tree.leaving_expr s tree.yeeting x)
      become_expr : {p s e x : _} → OptExprAs p e x → ExprKindAs p s (ExprKind-F.BecomeExpr e) (tree.become_expr s x)
      yield_expr : {p s e x : _} → OptExprAs p e x → ExprKindAs p s (ExprKind-F.YieldExpr e) (tree.yield_expr s x)
      await_expr : {p : LowerCtx} {s e x : _} → OptExprAs p e x
          → ExprKindAs p s (ExprKind-F.AwaitExpr e) (tree.await_expr s p.await_location x)
      cast_expr : {p s e t x y : _} → OptExprAs p e x → OptTypeAs p t y → ExprKindAs p s (ExprKind-F.CastExpr e t) (tree.cast_expr s x y)
      record_expr : {p s x l y fs z : _} → OptPathAs p x y → FieldsAs p (out-RecordExprFieldList l).fields fs
          → SpreadAs p (out-RecordExprFieldList l).spread (out-RecordExprFieldList l).dotdot z
          → ExprKindAs p s (ExprKind-F.RecordExpr x (Some l))
          (tree.record_expr s y (record { has_list = true; has_dots = (out-RecordExprFieldList l).dotdot }) fs z)
      record_without_list : {p s x y : _} → OptPathAs p x y
          → ExprKindAs p s (ExprKind-F.RecordExpr x None) (tree.record_expr s y (record { has_list = false; has_dots = false })
          tree.no_fields tree.no_spread)
      offset_of_expr : {p s t ns x : _} → OptTypeAs p t x
          → ExprKindAs p s (ExprKind-F.OffsetOfExpr t ns) (tree.offset_of_expr s x (names_of ns))
      cfg_expr : {p s c : _} → ExprKindAs p s (ExprKind-F.CfgPredExpr c) (tree.literal_expr s (truth (env.cfg_pred c)))
      let_expr : {p s q e x y : _} → OptPatAs p q x → OptExprAs p e y → ExprKindAs p s (ExprKind-F.LetExpr q e) (tree.let_expr s x y)
      match_expr : {p s e as' x xs : _} → OptExprAs p e x → ArmsAs p as' xs
          → ExprKindAs p s (ExprKind-F.MatchExpr e (Some as')) (tree.match_expr s x xs)
      match_without_arms : {p s e x : _} → OptExprAs p e x → ExprKindAs p s (ExprKind-F.MatchExpr e None) (tree.match_expr s x tree.no_arms)
      range_expr : {p : LowerCtx} {s o a b x y : _} → OptExprAs p a x → OptExprAs p b y
          → ExprKindAs p s (ExprKind-F.RangeExpr o a b) (tree.range_expr s
          (range_form env.lang_items (env.new_range p.module_id) o (is_some a) (is_some b)) x y)
      underscore_expr : {p s : _} → ExprKindAs p s ExprKind-F.UnderscoreExpr (tree.leaf_expr s tree.underscore)
      include_bytes_expr : {p s : _} → ExprKindAs p s ExprKind-F.IncludeBytesExpr (tree.leaf_expr s tree.include_bytes)
      asm_expr : {p s : _} → ExprKindAs p s ExprKind-F.AsmExpr (tree.leaf_expr s tree.left_out)
      format_args_expr : {p s : _} → ExprKindAs p s ExprKind-F.FormatArgsExpr (tree.leaf_expr s tree.left_out)
      callless_expr : {p s : _}
          → ExprKindAs p s (ExprKind-F.MacroExpr None) (tree.disabled_expr (record { entered = []; condition = None })
          (tree.macro_expr s tree.callless tree.no_expr))
      called_expr : {p s c y x z : _} → CallAs (call_node p c) (answer env p c fragments.Expr) y
          → OptExprAs (within (answer env p c fragments.Expr) p) (its_expr (answer env p c fragments.Expr)) x → AroundAs s y x z
          → ExprKindAs p s (ExprKind-F.MacroExpr (Some c)) z

    -- records and matches
    pub data FieldsAs : LowerCtx → List AstRecordExprField → Fields → Type 0 where
      no_fields : {p : _} → FieldsAs p [] tree.no_fields
      more_fields : {p x xs y ys : _} → FieldAs p (field_node p x) (out-RecordExprField x).name (out-RecordExprField x).expr y
          → FieldsAs p xs ys → FieldsAs p (x ∷ xs) (tree.more_fields y ys)

    pub data FieldAs : LowerCtx → Pointer → Option AstName → Option AstExpr → Field → Type 0 where
      enabled_field : {p s n e x : _} → IsEnabled env s → FieldPartAs p s n e x → FieldAs p s n e x
      disabled_field : {p s n e x by : _} → IsDisabled env s by → FieldPartAs p s n e x → FieldAs p s n e (tree.disabled_field s by x)

    pub data FieldPartAs : LowerCtx → Pointer → Option AstName → Option AstExpr → Field → Type 0 where
      nameless_field : {p s e x : _} → OptExprAs p e x → FieldPartAs p s None e (tree.nameless_field s x)
      named_field : {p : LowerCtx} {s : Pointer} {n : AstName} {e x : _} → OptExprAs p e x
          → FieldPartAs p s (Some n) e (tree.named_field s (name.Text n.t) x)

    pub data SpreadAs : LowerCtx → Option AstExpr → Bool → Spread → Type 0 where
      spread_of : {p e d x : _} → ExprAs p (expr_node p e) (expr_kind e) x → SpreadAs p (Some e) d (tree.spread_of x)
      field_defaults : {p : _} → SpreadAs p None true tree.field_defaults
      no_spread : {p : _} → SpreadAs p None false tree.no_spread

    pub data ArmsAs : LowerCtx → List AstMatchArm → Arms → Type 0 where
      no_arms : {p : _} → ArmsAs p [] tree.no_arms
      more_arms : {p x xs y ys : _} → ArmAs p (arm_node p x) (out-MatchArm x).pat (out-MatchArm x).guard (out-MatchArm x).expr y
          → ArmsAs p xs ys → ArmsAs p (x ∷ xs) (tree.more_arms y ys)

    -- its pattern, its guard and its body
    pub data ArmAs : LowerCtx → Pointer → Option AstPat → Option AstGuard → Option AstExpr → Arm → Type 0 where
      enabled_arm : {p s q g e x y z : _} → IsEnabled env s → OptPatAs p q x → GuardAs p g y → OptExprAs p e z
          → ArmAs p s q g e (tree.arm x z y)
      disabled_arm : {p s q g e x y z by : _} → IsDisabled env s by → OptPatAs p q x → GuardAs p g y → OptExprAs p e z
          → ArmAs p s q g e (tree.disabled_arm s by (tree.arm x z y))

    pub data GuardAs : LowerCtx → Option AstGuard → Guard → Type 0 where
      no_guard : {p : _} → GuardAs p None tree.no_guard
      some_guard : {p e x : _} → OptExprAs p e x → GuardAs p (Some e) (tree.guard x)

    -- blocks
    pub data OwnAs : LowerCtx → Option BlockModifier → BlockExprLayer written → Expr → Type 0 where
      -- a label counts where no modifier stands
      labelled : {p : LowerCtx} {b : BlockExprLayer written} {m w k ss e : _} → m ≡ label_here env p b.label → InBlockAs p b k ss e
          → OwnAs p None b (tree.block_expr (tree.block (node p b.id b.range) false m w k ss e))
      unsafe_block : {p : LowerCtx} {b : BlockExprLayer written} {k ss e : _} → InBlockAs p b k ss e
          → OwnAs p (Some modifier.Unsafe) b (tree.block_expr (tree.block (node p b.id b.range) true None tt k ss e))
      try_block : {p : LowerCtx} {b : BlockExprLayer written} {t k ss e : _} → OptTypeAs p b.ty t → InBlockAs p b k ss e
          → OwnAs p (Some modifier.Try) b (tree.try_expr (node p b.id b.range) env.lang_items.try_trait_from_output t k ss e)
      const_block : {p : LowerCtx} {b : BlockExprLayer written} {x : _} → PlainAs (awaiting (Some location.ConstantBlock) p) b x
          → OwnAs p (Some modifier.Const) b (tree.const_expr (node p b.id b.range) (tree.constant (tree.some_expr (tree.block_expr x))))
      async_block : {p : LowerCtx} {b : BlockExprLayer written} {k ss e : _} → InBlockAs (awaiting None p) b k ss e
          → OwnAs p (Some modifier.Async) b (tree.coroutine_expr (node p b.id b.range) coroutine.Async b.move_ k ss e)
      gen_block : {p : LowerCtx} {b : BlockExprLayer written} {k ss e : _}
          → InBlockAs (awaiting (Some location.NonAsyncGenBlock) p) b k ss e
          → OwnAs p (Some modifier.Gen) b (tree.coroutine_expr (node p b.id b.range) coroutine.Gen b.move_ k ss e)
      async_gen_block : {p : LowerCtx} {b : BlockExprLayer written} {k ss e : _} → InBlockAs (awaiting None p) b k ss e
          → OwnAs p (Some modifier.AsyncGen) b (tree.coroutine_expr (node p b.id b.range) coroutine.AsyncGen b.move_ k ss e)

    -- where only a block may stand
    pub data PlainAs : LowerCtx → BlockExprLayer written → Block → Type 0 where
      plain_block : {p : LowerCtx} {b : BlockExprLayer written} {k ss e : _} → InBlockAs p b k ss e
          → PlainAs p b (tree.block (node p b.id b.range) false None tt k ss e)

    -- what is in a block is read in its module, where it has a number, and no macro is defined at its start
    pub data InBlockAs : LowerCtx → BlockExprLayer written → Option BlockId → Stmts → OptionExpr → Type 0 where
      in_block : {p : LowerCtx} {b : BlockExprLayer written} {ss e d : _} → number_here env p b.id ≡ None
          → ContentsAs p b.stmts b.tail [] ss e d → InBlockAs p b None ss e
      in_numbered : {p : LowerCtx} {b : BlockExprLayer written} {k m ss e d : _} → number_here env p b.id ≡ Some (k, m)
          → ContentsAs (in_module m p) b.stmts b.tail [] ss e d → InBlockAs p b (Some k) ss e

    -- Statements and what stands behind them, and which macros are defined before and after them: what they stand for, one after the other.
    pub data ContentsAs : LowerCtx → List AstStmt → Option AstExpr → Defined → Stmts → OptionExpr → Defined → Type 0 where
      contents : {p ss t d xs d1 ys e d2 : _} → StmtsAs p ss d xs d1 → TailAs p t d1 ys e d2 → ContentsAs p ss t d (append xs ys) e d2

    pub data StmtsAs : LowerCtx → List AstStmt → Defined → Stmts → Defined → Type 0 where
      no_stmts : {p d : _} → StmtsAs p [] d tree.no_stmts d
      more_stmts : {p s ss d xs d1 ys d2 : _} → StmtAs p (stmt_node p s) (out-StmtKind (out-Stmt s).kind) d xs d1 → StmtsAs p ss d1 ys d2
          → StmtsAs p (s ∷ ss) d (append xs ys) d2

    pub data TailAs : LowerCtx → Option AstExpr → Defined → Stmts → OptionExpr → Defined → Type 0 where
      no_tail : {p d : _} → TailAs p None d tree.no_stmts tree.no_expr d
      some_tail : {p e d xs x d1 : _} → ValueAs p (expr_node p e) (expr_kind e) d xs x d1 → TailAs p (Some e) d xs x d1

    -- An expression as a statement or behind the statements: a call stands for the statements of its expansion and what stands behind them.
    pub data ValueAs : LowerCtx → Pointer → ExprKindLayer written → Defined → Stmts → OptionExpr → Defined → Type 0 where
      whole_value : {p s k d x : _} → is_call k ≡ false → ExprAs p s k x → ValueAs p s k d tree.no_stmts (tree.some_expr x) d
      disabled_value : {p s k d by : _} → is_call k ≡ true → IsDisabled env s by
          → ValueAs p s k d (tree.more_stmts (tree.disabled_stmt s by tree.item_stmt) tree.no_stmts) tree.no_expr d
      callless_value : {p s d : _} → IsEnabled env s → ValueAs p s (ExprKind-F.MacroExpr None) d tree.no_stmts tree.no_expr d
      called_value : {p s c d xs x d1 : _} → IsEnabled env s → SpliceAs p s (call_node p c) (answer env p c fragments.Stmts) d xs x d1
          → ValueAs p s (ExprKind-F.MacroExpr (Some c)) d xs x d1

    pub data SpliceAs : LowerCtx → Pointer → Pointer → Option Expanding → Defined → Stmts → OptionExpr → Defined → Type 0 where
      too_deep_for_stmts : {p : LowerCtx} {s : Pointer} {c : Pointer} {d : _} → SpliceAs p s c None d tree.no_stmts tree.no_expr d
      not_expanded_to_stmts : {p : LowerCtx} {s : Pointer} {c : Pointer} {d : _}
          → SpliceAs p s c (Some no_expansion) d tree.no_stmts tree.no_expr d
      not_found_for_stmts : {p : LowerCtx} {s : Pointer} {c : Pointer} {x d : _}
          → SpliceAs p s c (Some (unresolved x)) d tree.no_stmts tree.no_expr d
      no_stmts_in_it : {p : LowerCtx} {s : Pointer} {c : Pointer} {f x es d : _} → are_stmts x ≡ false
          → SpliceAs p s c (Some (expanded f x es)) d (tree.more_stmts (tree.call_stmt (record { call = c; file = f; eager = es }))
          tree.no_stmts) tree.no_expr d
      spliced : {p : LowerCtx} {s : Pointer} {c : Pointer} {f es ms d xs e x d1 : _}
          → ContentsAs (within (Some (expanded f (Some (fragment.Stmts ms)) es)) p) ms.stmts ms.expr d xs e d1 → LastAs s e x
          → SpliceAs p s c (Some (expanded f (Some (fragment.Stmts ms)) es)) d
          (tree.more_stmts (tree.call_stmt (record { call = c; file = f; eager = es })) xs) x d1

    pub data StmtAs : LowerCtx → Pointer → StmtKindLayer written → Defined → Stmts → Defined → Type 0 where
      enabled_let : {p s q t e b d x y z v : _} → IsEnabled env s → OptPatAs p q x → OptTypeAs p t y → OptExprAs p e z → LetElseAs p b v
          → StmtAs p s (StmtKind-F.LetStmt q t e b) d (tree.more_stmts (tree.let_stmt x y z v) tree.no_stmts) d
      disabled_let : {p s q t e b d x y z v by : _} → IsDisabled env s by → OptPatAs p q x → OptTypeAs p t y → OptExprAs p e z
          → LetElseAs p b v
          → StmtAs p s (StmtKind-F.LetStmt q t e b) d (tree.more_stmts (tree.disabled_stmt s by (tree.let_stmt x y z v)) tree.no_stmts) d
      expr_stmt : {p s e semi d xs x d1 : _} → TailAs p e d xs x d1
          → StmtAs p s (StmtKind-F.ExprStmt e semi) d (append xs (tree.more_stmts (tree.expr_stmt x semi) tree.no_stmts)) d1
      -- the next of its name in this block
      enabled_rules : {p : LowerCtx} {s : Pointer} {n : AstName} {d : _} → IsEnabled env s
          → StmtAs p s (StmtKind-F.MacroRules (Some n)) d (tree.more_stmts
          (tree.macro_stmt (times (name.Text n.t) d) (env.legacy_macro p.module_id (name.Text n.t) (times (name.Text n.t) d)))
          tree.no_stmts) (name.Text n.t ∷ d)
      nameless_rules : {p s d : _} → IsEnabled env s
          → StmtAs p s (StmtKind-F.MacroRules None) d (tree.more_stmts (tree.macro_stmt 0 None) tree.no_stmts) d
      disabled_rules : {p s n d by : _} → IsDisabled env s by
          → StmtAs p s (StmtKind-F.MacroRules n) d (tree.more_stmts (tree.disabled_stmt s by tree.item_stmt) tree.no_stmts) d
      enabled_def : {p s n d : _} → IsEnabled env s
          → StmtAs p s (StmtKind-F.MacroDef n) d (tree.more_stmts (tree.macro_stmt 0 (def_here env p n)) tree.no_stmts) d
      disabled_def : {p s n d by : _} → IsDisabled env s by
          → StmtAs p s (StmtKind-F.MacroDef n) d (tree.more_stmts (tree.disabled_stmt s by (tree.macro_stmt 0 (def_here env p n)))
          tree.no_stmts) d
      item_stmt : {p s d : _} → StmtAs p s StmtKind-F.Item d (tree.more_stmts tree.item_stmt tree.no_stmts) d

    pub data LetElseAs : LowerCtx → Option AstLetElse → OptionBlock → Type 0 where
      no_let_else : {p : _} → LetElseAs p None tree.no_block
      some_let_else : {p b x : _} → OptPlainAs p b x → LetElseAs p (Some b) x
