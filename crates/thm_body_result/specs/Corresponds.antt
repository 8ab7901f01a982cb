-- What stands in a store for a written tree: for each kept expression a stored one of its form, from its own node, whose parts stand for
-- its parts. An absent or disabled part is a missing expression from no node, or none where the form knows none. What is made up for a form
-- came from the form's node, but what makes the iterator of a `for` from that of its head; from none came a pattern, the block in a
-- coroutine, and of a closure that is a coroutine its coroutine and what stands in front of the body, where what is made up for a pattern
-- came from the pattern's node. With it come its ways: from the node of each written expression and label to what it became, and to each
-- missing one and each made up from none; and to each binding with its owner: the innermost closure, coroutine, `const` block, length or
-- argument around it. What its constants became stands for them, named or not. A top pattern reads back as written, and so does one in a
-- field without a name, part of nothing; the names of a top pattern have one binding each, and what is in it stands for what is written.
use Rattle.std.specs.Prelude.{◌≡◌, Bool, true, false, List, [], ◌∷◌, ◌++◌, map, Option, Some, None, option_to_list, unwrap_or}
use Rattle.hir_store.specs.Stored.{Store, SourceMap}
use Rattle.hir_store.specs.declared.hir.Array.TheVariants as array
use Rattle.hir_store.specs.declared.hir.Expr.TheVariants as hir
use Rattle.hir_store.specs.declared.hir.LoopSource.TheVariants as source
use Rattle.hir_store.specs.declared.hir.MatchArm.{MatchArm}
use Rattle.hir_store.specs.declared.hir.Statement.{Statement}
use Rattle.hir_store.specs.declared.hir.Statement.TheVariants as statement
use Rattle.hir_store.specs.declared.hir.RecordLitField.{RecordLitField}
use Rattle.hir_store.specs.declared.hir.RecordSpread.{RecordSpread}
use Rattle.hir_store.specs.declared.hir.RecordSpread.TheVariants as spread
use Rattle.hir_store.specs.declared.pat.Pat.TheVariants as pat
use Rattle.hir_store.specs.declared.pat.RecordFieldPat.{RecordFieldPat}
use Rattle.hir_store.specs.declared.path.Path.{Path}
use Rattle.hir_store.specs.declared.ids.BindingId.{BindingId}
use Rattle.hir_store.specs.declared.ids.ExprId.{ExprId}
use Rattle.hir_store.specs.declared.ids.PatId.{PatId}
use Rattle.hir_store.specs.declared.ids.TypeRefId.{TypeRefId}
use Rattle.hir_store.specs.declared.type_ref.ConstRef.{ConstRef}
use Rattle.hir_lower_scope.specs.ScopeRibs.{macro_rib, try_rib, barrier_rib, jump_number, innermost_try_rib}
use Rattle.hir_env.specs.ResolvedTree as tree
use Rattle.hir_env.specs.ResolvedTree.{Type_, OptionType, Parts, Path as WrittenPath, OptionPath, Segments, Segment, SegmentArgs}
use Rattle.hir_env.specs.ResolvedTree.{OptionParens, OptionRet, OptionArgs, Args, Arg, Bounds, Bound, Constant, Expr, OptionExpr, Exprs}
use Rattle.hir_env.specs.ResolvedTree.{Fields, Spread, Block, OptionBlock, Stmts, Arms, Guard, Pat, OptionPat, Pats, PatFields, Side}
use Rattle.hir_env.specs.ResolvedTree.{TypePat, OptionTypePat, TypePats, Limit, Params, Target, Targets, TargetFields}
use Rattle.hir_env.specs.Conditions.{holds_let}
use Rattle.hir_env.specs.Targets.{head_pointer}
use Rattle.spec_data.specs.Closures.{capture_of, kind_of}
use Rattle.spec_data.specs.Patterns.{is_dots, pattern_data, uses_after, uses_after_part, uses_after_each, written_pat}
use Rattle.spec_data.specs.Reading.{stored_type, stored_args}
use Rattle.spec_data.specs.Tops.{params_tops}
use Rattle.spec_data.specs.Uses.{FirstUses}
use Rattle.spec_data.specs.Written.{written_path, written_type, written_args}
use Rattle.spec_semantics.specs.Left.{is_kept, is_left, gives_value}
use Rattle.spec_semantics.specs.Contents.{BlockContents}
use Rattle.thm_body_result.specs.Forms.{leaf_form, unary_form, binary_form, lazy_form, leaving_form, pat_unary_form}
use Rattle.thm_logic.specs.PathSeen.{Seen, nothing_seen, at_first, segments_read, own_read, yields}
use Rattle.thm_body_result.specs.Leads.{Mappings, No, OneMapping, OneUnled, OneFieldMapping, OnePatFieldMapping, OwnedBy, Overtaken, ◌&◌}
pub use Rattle.thm_body_result.specs.CorrespondsParts.{ExprAt, LabelAt, Open, opened, Absent, There, ThereIf, ReadsAs, SomeExpr, SomeConst}
pub use Rattle.thm_body_result.specs.CorrespondsParts.{WhereOn, Unless, CorrespondsBefore, WherePath, BehindFront, Names, CorrespondsName}
pub use Rattle.thm_logic.specs.Statements.{statement_of}
use Rattle.thm_body_result.specs.CorrespondsMade.{CorrespondsTo, CorrespondsToLoop, CorrespondsToIteration, CorrespondsQuestion}
use Rattle.thm_body_result.specs.CorrespondsMade.{CorrespondsTry, CorrespondsTypedTry, CorrespondsWhile, CorrespondsClosure}
use Rattle.thm_body_result.specs.CorrespondsMade.{CorrespondsCondition, CorrespondsCoroutine, CorrespondsParam, StoredParams}
use Rattle.thm_body_result.specs.CorrespondsPreludes.{CorrespondsCoroutineClosure}
pub use Rattle.thm_body_result.specs.CorrespondsReads.{NamesOf, WithNames, ReadsAsPat, ReadsAsTarget, ReadsAsType}
pub use Rattle.thm_body_result.specs.CorrespondsNodes.{CorrespondsMissing, CorrespondsAlone, CorrespondsOver, CorrespondsOverTwo}
pub use Rattle.thm_body_result.specs.CorrespondsNodes.{CorrespondsOverThree, CorrespondsRecord, CorrespondsList, CorrespondsPath}
pub use Rattle.thm_body_result.specs.CorrespondsNodes.{CorrespondsLiteral, InLabel, CorrespondsItem, CorrespondsRange, PatIs}
pub use Rattle.thm_body_result.specs.CorrespondsNodes.{CorrespondsSigned, CorrespondsSidePath, CorrespondsOneName, CorrespondsNameSide}
pub use Rattle.thm_body_result.specs.CorrespondsNodes.{CorrespondsTuple, OrIs, RangeIs}

module _ (store : Store) (source_map : SourceMap) where
  abbrev mutual
    -- what stands for the constants of types, paths, arguments and bounds

    pub TypeMappings : Open → Type_ → Mappings
    TypeMappings rs (tree.paren_type t) = TypePartMappings rs t
    TypeMappings rs (tree.macro_type at called t) = TypePartMappings rs t
    TypeMappings rs (tree.for_type names t) = TypePartMappings rs t
    TypeMappings rs (tree.leaf_type at form) = No
    TypeMappings rs (tree.over_type at form t) = TypePartMappings rs t
    -- its length first
    TypeMappings rs (tree.array_type at c t) = SomeConst (λ n. CorrespondsConstant rs c n) & TypePartMappings rs t
    TypeMappings rs (tree.tuple_type at ts) = PartsMappings rs ts
    TypeMappings rs (tree.path_type at p) = WholeMappings rs p
    TypeMappings rs (tree.ref_type at l mutability t) = TypePartMappings rs t
    TypeMappings rs (tree.fn_type at head ts r) = TypePartMappings rs r & PartsMappings rs ts
    TypeMappings rs (tree.impl_type at mode bs) = BoundsMappings rs bs
    TypeMappings rs (tree.nested_impl at) = No
    TypeMappings rs (tree.dyn_type at bs) = BoundsMappings rs bs
    TypeMappings rs (tree.pattern_type at t own p) = TypePartMappings rs t & TypePatPartMappings rs p

    pub TypePartMappings : Open → OptionType → Mappings
    TypePartMappings rs tree.no_type = No
    TypePartMappings rs (tree.some_type t) = TypeMappings rs t

    pub PresentTypeMappings : Open → OptionType → Mappings
    PresentTypeMappings rs tree.no_type = No
    PresentTypeMappings rs (tree.some_type t) = TypeMappings rs t

    pub PartsMappings : Open → Parts → Mappings
    PartsMappings rs tree.no_parts = No
    PartsMappings rs (tree.more_parts t ts) = TypePartMappings rs t & PartsMappings rs ts

    pub SegmentMappings : Open → Bool → Segment → Seen → Mappings
    SegmentMappings rs first (tree.name_segment n _ as') x = BesideMappings rs as'
    SegmentMappings rs first tree.super_segment x = No
    SegmentMappings rs true (tree.type_segment t) x = TypeMappings rs t
    SegmentMappings rs true (tree.trait_segment t at p) x = TypeMappings rs t & WholeMappings rs p
    SegmentMappings rs first s x = No

    pub SegmentsMappings : Open → Segments → Seen → Mappings
    SegmentsMappings rs tree.no_segments x = No
    SegmentsMappings rs (tree.more_segments s more) x =
        SegmentsMappings rs more x & WhereOn (segments_read more x) (λ y. SegmentMappings rs false s y)

    pub PathMappings : Open → WrittenPath → Seen → Mappings
    PathMappings rs (tree.path alias leading first rest use_) x =
        (SegmentsMappings rs rest x & WhereOn (segments_read rest x) (λ y. SegmentMappings rs true first (at_first leading y)))
        & WhereOn (own_read leading first rest x) (λ y. OuterMappings rs use_ y)

    pub OuterMappings : Open → OptionPath → Seen → Mappings
    OuterMappings rs tree.no_path x = No
    OuterMappings rs (tree.some_path p) x = PathMappings rs p x

    -- of a path from its end
    pub WholeMappings : Open → OptionPath → Mappings
    WholeMappings rs tree.no_path = No
    WholeMappings rs (tree.some_path p) = PathMappings rs p nothing_seen

    -- `(A) -> C` is read where `<..>` yields none
    pub BesideMappings : Open → SegmentArgs → Mappings
    BesideMappings rs (tree.segment_args as' ps dots) = ArgsMappings rs as' & Unless (yields as') (ParensMappings rs ps)

    pub ParensMappings : Open → OptionParens → Mappings
    ParensMappings rs tree.no_parens = No
    ParensMappings rs (tree.some_parens ts r) = PartsMappings rs ts & OutputMappings rs r

    pub OutputMappings : Open → OptionRet → Mappings
    OutputMappings rs tree.no_ret = No
    OutputMappings rs (tree.some_ret t) = TypePartMappings rs t

    pub ArgsMappings : Open → OptionArgs → Mappings
    ArgsMappings rs tree.no_arg_list = No
    ArgsMappings rs (tree.some_arg_list as') = EachArgMappings rs as'

    pub EachArgMappings : Open → Args → Mappings
    EachArgMappings rs tree.no_args = No
    EachArgMappings rs (tree.more_args a as') = ArgMappings rs a & EachArgMappings rs as'

    pub ArgMappings : Open → Arg → Mappings
    ArgMappings rs tree.skipped_arg = No
    ArgMappings rs (tree.type_arg t) = TypePartMappings rs t
    ArgMappings rs (tree.lifetime_arg l) = No
    ArgMappings rs (tree.const_arg c) = SomeConst (λ n. CorrespondsConstant rs c n)
    ArgMappings rs (tree.assoc_arg n as' dots t bs) = ArgsMappings rs as' & (PresentTypeMappings rs t & BoundsMappings rs bs)

    pub BoundsMappings : Open → Bounds → Mappings
    BoundsMappings rs tree.no_bounds = No
    BoundsMappings rs (tree.more_bounds b bs) = BoundMappings rs b & BoundsMappings rs bs

    pub BoundMappings : Open → Bound → Mappings
    BoundMappings rs tree.error_bound = No
    BoundMappings rs (tree.path_bound at p maybe binder) = WholeMappings rs p
    BoundMappings rs (tree.lifetime_bound l) = No
    BoundMappings rs (tree.use_bound us) = No

    -- a length or an argument, of which the expression owns what is bound in it; no jump in it reaches what is open around it
    pub CorrespondsConstant : Open → Constant → ConstRef → Mappings
    CorrespondsConstant rs (tree.constant e) n = OwnedBy n.expr (CorrespondsPart (barrier_rib ∷ rs) e n.expr)

    -- that of a `const` block: what is bound in it is owned by the expression around it
    pub CorrespondsRooted : Open → Constant → ConstRef → Mappings
    CorrespondsRooted rs (tree.constant e) n = CorrespondsPart (barrier_rib ∷ rs) e n.expr

    pub TypePatMappings : Open → TypePat → Mappings
    TypePatMappings rs (tree.not_null_type_pat at) = No
    TypePatMappings rs (tree.macro_type_pat at called p) = TypePatPartMappings rs p
    TypePatMappings rs (tree.or_type_pat at ps) = TypePatsMappings rs ps
    TypePatMappings rs (tree.range_type_pat at low high) =
        SomeExpr (λ i. CorrespondsLimit (barrier_rib ∷ rs) low i) & SomeExpr (λ i. CorrespondsLimit (barrier_rib ∷ rs) high i)
    TypePatMappings rs (tree.other_type_pat at) = No

    pub TypePatPartMappings : Open → OptionTypePat → Mappings
    TypePatPartMappings rs tree.no_type_pat = No
    TypePatPartMappings rs (tree.some_type_pat p) = TypePatMappings rs p

    pub TypePatsMappings : Open → TypePats → Mappings
    TypePatsMappings rs tree.no_type_pats = No
    TypePatsMappings rs (tree.more_type_pats p ps) = TypePatMappings rs p & TypePatsMappings rs ps

    -- an end of a range in a type: the side, an item, or a call of an item with the side
    pub CorrespondsLimit : Open → Limit → ExprId → Mappings
    CorrespondsLimit rs (tree.item_limit item) i = CorrespondsItem store source_map item i
    CorrespondsLimit rs (tree.side_limit s) i = CorrespondsLimitSide rs s i
    CorrespondsLimit rs (tree.before_limit item s) i = λ ws.
        (side : ExprId) × (callee : ExprId) × ExprAt store source_map i (hir.Call callee (side ∷ [])) None
        × (CorrespondsLimitSide rs s side & CorrespondsItem store source_map item callee & OneUnled i) ws

    -- what is no side is missing
    pub CorrespondsLimitSide : Open → Side → ExprId → Mappings
    CorrespondsLimitSide rs tree.no_side i = CorrespondsMissing store source_map i
    CorrespondsLimitSide rs (tree.literal_side at l) i = CorrespondsSigned store source_map at l i
    CorrespondsLimitSide rs (tree.name_side at n _) i = CorrespondsOneName store source_map at n i
    CorrespondsLimitSide rs (tree.path_side at p) i =
        WholeMappings rs p & WherePath (written_path p) (λ d. CorrespondsSidePath store source_map at d i)
        (CorrespondsAlone store source_map hir.Missing at i)
    CorrespondsLimitSide rs tree.other_side i = CorrespondsMissing store source_map i

    -- expressions

    pub Corresponds : Open → Expr → ExprId → Mappings
    Corresponds rs (tree.disabled_expr why e) i = CorrespondsMissing store source_map i
    Corresponds rs (tree.if_expr at c t e) i = λ ws.
        (condition : ExprId) × (then_branch : ExprId) × (else_branch : Option ExprId)
        × ExprAt store source_map i (hir.If condition then_branch else_branch) (Some at)
        × (CorrespondsPart rs c condition & CorrespondsBlockPart rs t then_branch & CorrespondsPresent rs e else_branch
        & OneMapping at i) ws
    Corresponds rs (tree.block_expr b) i = CorrespondsBlock rs b i
    Corresponds rs (tree.loop_expr at label _ b) i =
        InLabel store source_map rs label (λ inner n ws. (body : ExprId) × ExprAt store source_map i (hir.Loop body n source.Loop) (Some at)
        × (CorrespondsBlockPart inner b body & OneMapping at i) ws)
    -- its condition lies under its label, too
    Corresponds rs (tree.while_expr at label _ c b) i =
        InLabel store source_map rs label (λ inner n. CorrespondsWhile store source_map at n
        (λ x. CorrespondsCondition store source_map at (holds_let c) (λ y. CorrespondsPart inner c y) x)
        (λ x. CorrespondsBlockPart inner b x) i)
    -- its head and its pattern lie outside of its label
    Corresponds rs (tree.for_expr at items label _ p h b) i =
        CorrespondsTo store source_map at (head_pointer at h) items (λ x. CorrespondsPart rs h x)
        (λ q. WithNames store source_map p (λ ks. CorrespondsPatPart ks rs p [] q) q)
        (λ n q l. InLabel store source_map rs label (λ inner k. CorrespondsToLoop store source_map at k
        (λ t. CorrespondsToIteration store source_map at items n q (λ x. CorrespondsPart inner b x) t) l)) i
    Corresponds rs (tree.question_expr at items e) i =
        CorrespondsQuestion store source_map at items (innermost_try_rib rs) (λ x. CorrespondsPart rs e x) i
    Corresponds rs (tree.itemless_expr at) i = CorrespondsMissing store source_map i
    Corresponds rs (tree.try_expr at item tree.no_type number ss e) i =
        CorrespondsTry store source_map at item number (gives_value ss (is_left e))
        (λ label is o. CorrespondsContents (try_rib label false ∷ rs) ss (λ around o. CorrespondsKept around e o) is o) i
    Corresponds rs (tree.try_expr at item (tree.some_type t) number ss e) i = CorrespondsTypedTry store source_map at
        (λ x. CorrespondsTry store source_map at item number (gives_value ss (is_left e))
        (λ label is o. CorrespondsContents (try_rib label true ∷ rs) ss (λ around o. CorrespondsKept around e o) is o) x)
        (λ y. TypeMappings rs t & ReadsAs (stored_type store source_map) (written_type (tree.some_type t)) y) i
    -- no jump in it reaches what is open around it, and it owns what is bound in it
    Corresponds rs (tree.coroutine_expr at kind moves number ss e) i =
        OwnedBy i (CorrespondsCoroutine store source_map at kind (capture_of moves) number (gives_value ss (is_left e))
        (λ is o. CorrespondsContents (barrier_rib ∷ rs) ss (λ around o. CorrespondsKept around e o) is o) i)
    Corresponds rs (tree.call_expr at f has_list es) i = λ ws.
        (callee : ExprId) × (arguments : List ExprId) × ExprAt store source_map i (hir.Call callee arguments) (Some at)
        × (CorrespondsPart rs f callee & CorrespondsEach rs es arguments & OneMapping at i) ws
    Corresponds rs (tree.path_expr at p h) i = WholeMappings rs p & CorrespondsPath store source_map at (written_path p) h i
    Corresponds rs (tree.continue_expr at jump) i = CorrespondsAlone store source_map (hir.Continue (jump_number rs jump)) at i
    Corresponds rs (tree.break_expr at jump e) i = λ ws.
        (value : Option ExprId) × ExprAt store source_map i (hir.Break (jump_number rs jump) value) (Some at)
        × (CorrespondsPresent rs e value & OneMapping at i) ws
    -- the parentheses became what is in them
    Corresponds rs (tree.paren_expr at e) i = CorrespondsPart rs e i & OneMapping at i
    -- a call that stands for no expression is missing, and the node of another one leads to what it stands for
    Corresponds rs (tree.macro_expr at called tree.no_expr) i = CorrespondsAlone store source_map hir.Missing at i
    Corresponds rs (tree.macro_expr at called (tree.some_expr e)) i = Corresponds rs e i & OneMapping at i
    Corresponds rs (tree.literal_expr at l) i = CorrespondsLiteral store source_map at l i
    Corresponds rs (tree.leaf_expr at form) i = CorrespondsAlone store source_map (leaf_form form) at i
    Corresponds rs (tree.unary_expr at form e) i = CorrespondsOver store source_map (unary_form form) at (λ x. CorrespondsPart rs e x) i
    Corresponds rs (tree.binary_expr at form a b) i =
        CorrespondsOverTwo store source_map (binary_form form) at (λ x. CorrespondsPart rs a x) (λ y. CorrespondsPart rs b y) i
    Corresponds rs (tree.lazy_expr at op a b) i =
        CorrespondsOverTwo store source_map (lazy_form op) at (λ x. CorrespondsPart rs a x) (λ y. CorrespondsPart rs b y) i
    Corresponds rs (tree.list_expr at form es) i = CorrespondsList store source_map at form (λ is. CorrespondsEach rs es is) i
    Corresponds rs (tree.repeat_expr at e c) i =
        CorrespondsOverTwo store source_map (λ x n. hir.Array (array.Repeat x n)) at
        (λ x. CorrespondsPart rs e x) (λ n. CorrespondsConstant rs c n) i
    -- the block in it came from the same node, which leads to the const block alone
    Corresponds rs (tree.const_expr at c) i =
        OwnedBy i (CorrespondsOver store source_map hir.Const at (λ n. Overtaken at (CorrespondsRooted rs c n)) i)
    -- no jump in it reaches what is open around it, and it owns what is bound in it
    Corresponds rs (tree.closure_expr at moves is_static xs t e) i =
        OwnedBy i (CorrespondsClosure store source_map at (kind_of is_static e) (capture_of moves)
        (λ l. CorrespondsParams (barrier_rib ∷ rs) xs l)
        (λ y. ReadsAsType store source_map t (PresentTypeMappings (barrier_rib ∷ rs) t) y) (λ x. CorrespondsPart (barrier_rib ∷ rs) e x) i)
    -- and its coroutine owns what is bound in that
    Corresponds rs (tree.coroutine_closure_expr at kind moves xs t e) i =
        OwnedBy i (CorrespondsCoroutineClosure store source_map at kind (capture_of moves) (map written_pat (params_tops xs))
        (λ l. CorrespondsParams (barrier_rib ∷ rs) xs l) (λ y. ReadsAsType store source_map t (PresentTypeMappings (barrier_rib ∷ rs) t) y)
        (λ x. CorrespondsPart (barrier_rib ∷ rs) e x) i)
    Corresponds rs (tree.method_call_expr at e name es generics) i =
        CorrespondsOverThree store source_map (λ receiver arguments g. hir.MethodCall receiver name g arguments) at
        (λ x. CorrespondsPart rs e x) (λ is. CorrespondsEach rs es is)
        (λ g. ArgsMappings rs generics & ReadsAs (stored_args store source_map) (written_args generics) g) i
    Corresponds rs (tree.cast_expr at e t) i =
        CorrespondsOverTwo store source_map hir.Cast at (λ x. CorrespondsPart rs e x)
        (λ y. TypePartMappings rs t & ReadsAs (stored_type store source_map) (written_type t) y) i
    Corresponds rs (tree.record_expr at p head fs s) i =
        WholeMappings rs p & CorrespondsRecord store source_map at (written_path p)
        (λ r. CorrespondsFields rs fs r.0 & CorrespondsOthers rs s r.1) i
    Corresponds rs (tree.offset_of_expr at t names) i =
        CorrespondsOver store source_map (λ container. hir.OffsetOf container names) at
        (λ y. TypePartMappings rs t & ReadsAs (stored_type store source_map) (written_type t) y) i
    Corresponds rs (tree.leaving_expr at form e) i =
        CorrespondsOver store source_map (leaving_form form) at (λ o. CorrespondsPresent rs e o) i
    Corresponds rs (tree.become_expr at e) i = CorrespondsOver store source_map hir.Become at (λ x. CorrespondsPart rs e x) i
    Corresponds rs (tree.yield_expr at e) i = CorrespondsOver store source_map hir.Yield at (λ o. CorrespondsPresent rs e o) i
    Corresponds rs (tree.await_expr at location e) i = CorrespondsOver store source_map hir.Await at (λ x. CorrespondsPart rs e x) i
    -- the operand stands in the store, and is part of nothing
    Corresponds rs (tree.nameless_expr at e) i = CorrespondsOver store source_map (λ x. hir.Missing) at (λ x. CorrespondsPart rs e x) i
    Corresponds rs (tree.let_expr at p e) i =
        CorrespondsOverTwo store source_map hir.Let at (λ q. WithNames store source_map p (λ ks. CorrespondsPatPart ks rs p [] q) q)
        (λ x. CorrespondsPart rs e x) i
    Corresponds rs (tree.match_expr at e arms) i =
        CorrespondsOverTwo store source_map hir.Match at (λ x. CorrespondsPart rs e x) (λ as'. CorrespondsArms rs arms as') i
    Corresponds rs (tree.range_expr at form low high) i =
        CorrespondsRange store source_map at form (λ o. CorrespondsPresent rs low o) (λ o. CorrespondsPresent rs high o) i
    -- the target before the value
    Corresponds rs (tree.assign_expr at own t e) i =
        CorrespondsOverTwo store source_map hir.Assignment at (λ q. ReadsAsTarget store source_map t (CorrespondsTarget rs t q) q)
        (λ x. CorrespondsPart rs e x) i

    -- a disabled parameter becomes nothing
    pub CorrespondsParams : Open → Params → StoredParams → Mappings
    CorrespondsParams rs tree.no_params l = λ ws. (l ≡ ([], [])) × No ws
    CorrespondsParams rs (tree.more_params (tree.disabled_param at by x) xs) l = CorrespondsParams rs xs l
    CorrespondsParams rs (tree.more_params (tree.param p t) xs) l = CorrespondsParam
        (λ q. WithNames store source_map p (λ ks. CorrespondsPatPart ks rs p [] q) q)
        (λ y. ReadsAsType store source_map t (PresentTypeMappings rs t) y) (λ others. CorrespondsParams rs xs others) l

    pub CorrespondsPart : Open → OptionExpr → ExprId → Mappings
    CorrespondsPart rs tree.no_expr i = CorrespondsMissing store source_map i
    CorrespondsPart rs (tree.some_expr e) i = Corresponds rs e i

    pub CorrespondsPresent : Open → OptionExpr → Option ExprId → Mappings
    CorrespondsPresent rs tree.no_expr o = Absent o
    CorrespondsPresent rs (tree.some_expr e) o = There (λ i. Corresponds rs e i) o

    pub CorrespondsKept : Open → OptionExpr → Option ExprId → Mappings
    CorrespondsKept rs tree.no_expr o = Absent o
    CorrespondsKept rs (tree.some_expr e) o = ThereIf (is_kept e) (λ i. Corresponds rs e i) o

    pub CorrespondsEach : Open → Exprs → List ExprId → Mappings
    CorrespondsEach rs tree.no_exprs is = λ ws. (is ≡ []) × No ws
    CorrespondsEach rs (tree.more_exprs e es) is = λ ws.
        (o : Option ExprId) × (others : List ExprId) × (is ≡ option_to_list o ++ others)
        × (ThereIf (is_kept e) (λ i. Corresponds rs e i) o & CorrespondsEach rs es others) ws

    -- a disabled field becomes nothing, and so does one without a name
    pub CorrespondsFields : Open → Fields → List RecordLitField → Mappings
    CorrespondsFields rs tree.no_fields is = λ ws. (is ≡ []) × No ws
    CorrespondsFields rs (tree.more_fields (tree.named_field at name e) fs) is = λ ws.
        (value : ExprId) × (others : List RecordLitField) × (is ≡ record { name = name; expr = value } ∷ others)
        × ((CorrespondsPart rs e value & OneFieldMapping value at) & CorrespondsFields rs fs others) ws
    CorrespondsFields rs (tree.more_fields f fs) is = CorrespondsFields rs fs is

    pub CorrespondsOthers : Open → Spread → RecordSpread → Mappings
    CorrespondsOthers rs tree.no_spread o = λ ws. (o ≡ spread.None) × No ws
    CorrespondsOthers rs tree.field_defaults o = λ ws. (o ≡ spread.FieldDefaults) × No ws
    CorrespondsOthers rs (tree.spread_of e) o = λ ws. (value : ExprId) × (o ≡ spread.Expr value) × Corresponds rs e value ws

    -- a disabled arm becomes nothing
    pub CorrespondsArms : Open → Arms → List MatchArm → Mappings
    CorrespondsArms rs tree.no_arms is = λ ws. (is ≡ []) × No ws
    CorrespondsArms rs (tree.more_arms (tree.disabled_arm at by a) arms) is = CorrespondsArms rs arms is
    CorrespondsArms rs (tree.more_arms (tree.arm p e g) arms) is = λ ws.
        (q : PatId) × (x : ExprId) × (o : Option ExprId) × (others : List MatchArm)
        × (is ≡ record { pat = q; guard = o; expr = x } ∷ others)
        × ((WithNames store source_map p (λ ks. CorrespondsPatPart ks rs p [] q) q & CorrespondsPart rs e x & CorrespondsGuard rs g o)
        & CorrespondsArms rs arms others) ws

    pub CorrespondsGuard : Open → Guard → Option ExprId → Mappings
    CorrespondsGuard rs tree.no_guard o = Absent o
    CorrespondsGuard rs (tree.guard e) o = There (λ x. CorrespondsPart rs e x) o

    -- it has what its statements and its tail became, of which the last statement may be its tail
    pub CorrespondsBlock : Open → Block → ExprId → Mappings
    CorrespondsBlock rs (tree.block at is_unsafe label _ number ss e) i =
        InLabel store source_map rs label (λ inner n ws. (kept : List Statement) × (last : Option ExprId)
        × (contents : List Statement × Option ExprId)
        × BlockContents (gives_value ss (is_left e)) kept last contents
        × ExprAt store source_map i (hir.Block is_unsafe n number contents.0 contents.1) (Some at)
        × (CorrespondsContents inner ss (λ around o. CorrespondsKept around e o) kept last & OneMapping at i) ws)

    pub CorrespondsBlockPart : Open → OptionBlock → ExprId → Mappings
    CorrespondsBlockPart rs tree.no_block i = CorrespondsMissing store source_map i
    CorrespondsBlockPart rs (tree.some_block b) i = CorrespondsBlock rs b i

    pub CorrespondsPresentBlock : Open → OptionBlock → Option ExprId → Mappings
    CorrespondsPresentBlock rs tree.no_block o = Absent o
    CorrespondsPresentBlock rs (tree.some_block b) o = There (λ i. CorrespondsBlock rs b i) o

    -- the statements, and then the tail, inside all that the statements open
    pub CorrespondsContents : Open → Stmts → (Open → Option ExprId → Mappings) → List Statement → Option ExprId → Mappings
    CorrespondsContents rs tree.no_stmts Tail is tail = λ ws. (is ≡ []) × Tail rs tail ws
    CorrespondsContents rs (tree.more_stmts (tree.expr_stmt e semi) ss) Tail is tail = λ ws.
        (o : Option ExprId) × (others : List Statement) × (is ≡ option_to_list (statement_of semi o) ++ others)
        × (CorrespondsKept rs e o & CorrespondsContents rs ss Tail others tail) ws
    CorrespondsContents rs (tree.more_stmts tree.item_stmt ss) Tail is tail = λ ws.
        (others : List Statement) × (is ≡ statement.Item ∷ others) × CorrespondsContents rs ss Tail others tail ws
    CorrespondsContents rs (tree.more_stmts (tree.disabled_stmt at by s) ss) Tail is tail = CorrespondsContents rs ss Tail is tail
    CorrespondsContents rs (tree.more_stmts (tree.call_stmt c) ss) Tail is tail = CorrespondsContents rs ss Tail is tail
    -- a definition that has no number is an item; behind another one all that follows stands inside of it
    CorrespondsContents rs (tree.more_stmts (tree.macro_stmt k None) ss) Tail is tail = λ ws.
        (others : List Statement) × (is ≡ statement.Item ∷ others) × CorrespondsContents rs ss Tail others tail ws
    CorrespondsContents rs (tree.more_stmts (tree.macro_stmt k (Some d)) ss) Tail is tail = λ ws.
        (others : List Statement) × (is ≡ statement.MacroDef d ∷ others) × CorrespondsContents (macro_rib d ∷ rs) ss Tail others tail ws
    CorrespondsContents rs (tree.more_stmts (tree.let_stmt p t e b) ss) Tail is tail = λ ws.
        (q : PatId) × (y : Option TypeRefId) × (x : Option ExprId) × (z : Option ExprId) × (others : List Statement)
        × (is ≡ statement.Let q y x z ∷ others)
        × ((WithNames store source_map p (λ ks. CorrespondsPatPart ks rs p [] q) q
        & ReadsAsType store source_map t (PresentTypeMappings rs t) y & CorrespondsPresent rs e x & CorrespondsPresentBlock rs b z)
        & CorrespondsContents rs ss Tail others tail) ws

    -- patterns

    -- one of which these names have a use
    pub CorrespondsPat : Names → Open → Pat → FirstUses → PatId → Mappings
    CorrespondsPat ks rs (tree.leaf_pat at form) us i = No
    CorrespondsPat ks rs (tree.bind_pat at u _ sub) us i = λ ws.
        (b : BindingId) × (o : Option PatId) × PatIs store source_map i (pat.Bind b o)
        × (CorrespondsSubpat ks rs sub us o & CorrespondsName ks (uses_after_part sub us) u b) ws
    CorrespondsPat ks rs (tree.name_pat at u _) us i = No
    CorrespondsPat ks rs (tree.path_pat at p) us i = WholeMappings rs p
    CorrespondsPat ks rs (tree.tuple_struct_pat at p comma ps) us i =
        WholeMappings rs p
        & WherePath (written_path p) (λ d ws. (path : Path)
        × CorrespondsTuple store source_map (λ dots is. pat.TupleStruct path dots is) comma
        (λ is. CorrespondsElements ks rs ps us is) i ws) No
    CorrespondsPat ks rs (tree.tuple_pat at comma ps) us i =
        CorrespondsTuple store source_map (λ dots is. pat.Tuple dots is) comma (λ is. CorrespondsElements ks rs ps us is) i
    CorrespondsPat ks rs (tree.record_pat at p fs dots) us i =
        WholeMappings rs p
        & WherePath (written_path p) (λ d ws. (path : Path) × (is : List RecordFieldPat)
        × PatIs store source_map i (pat.Record path is dots)
        × CorrespondsPatFields ks rs fs us is ws) No
    CorrespondsPat ks rs (tree.or_pat at ps) us i = λ ws. (is : List PatId) × OrIs store source_map is i × CorrespondsPats ks rs ps us is ws
    CorrespondsPat ks rs (tree.paren_pat at p) us i = CorrespondsPatPart ks rs p us i
    CorrespondsPat ks rs (tree.macro_pat at called p) us i = CorrespondsPatPart ks rs p us i
    CorrespondsPat ks rs (tree.barred_pat at) us i = No
    CorrespondsPat ks rs (tree.slice_pat at before middle behind) us i = λ ws.
        (bs : List PatId) × (m : Option PatId) × (as' : List PatId) × PatIs store source_map i (pat.Slice bs m as')
        × (CorrespondsPats ks rs before us bs & CorrespondsSubpat ks rs middle (uses_after_each before us) m
        & CorrespondsPats ks rs behind (uses_after_part middle (uses_after_each before us)) as') ws
    CorrespondsPat ks rs (tree.over_pat at form p) us i = λ ws.
        (j : PatId) × PatIs store source_map i (pat_unary_form form j) × CorrespondsPatPart ks rs p us j ws
    CorrespondsPat ks rs (tree.literal_pat at own l) us i = λ ws.
        (e : ExprId) × PatIs store source_map i (pat.Lit e) × CorrespondsSigned store source_map (unwrap_or own at) l e ws
    CorrespondsPat ks rs (tree.range_pat at op low high) us i = λ ws.
        (s : Option ExprId) × (e : Option ExprId) × RangeIs store source_map op i s e
        × (CorrespondsSide rs low s & CorrespondsSide rs high e) ws

    pub CorrespondsPatPart : Names → Open → OptionPat → FirstUses → PatId → Mappings
    CorrespondsPatPart ks rs tree.no_pat us i = No
    CorrespondsPatPart ks rs (tree.some_pat p) us i = CorrespondsPat ks rs p us i

    pub CorrespondsSubpat : Names → Open → OptionPat → FirstUses → Option PatId → Mappings
    CorrespondsSubpat ks rs tree.no_pat us o = Absent o
    CorrespondsSubpat ks rs (tree.some_pat p) us o = There (λ i. CorrespondsPat ks rs p us i) o

    pub CorrespondsPats : Names → Open → Pats → FirstUses → List PatId → Mappings
    CorrespondsPats ks rs tree.no_pats us is = λ ws. (is ≡ []) × No ws
    CorrespondsPats ks rs (tree.more_pats p ps) us is =
        CorrespondsBefore false (λ i. CorrespondsPat ks rs p us i) (λ others. CorrespondsPats ks rs ps (uses_after p us) others) is
    CorrespondsPats ks rs (tree.tracked_pats called ps) us is = CorrespondsPats ks rs ps us is

    -- two dots are no part of a tuple
    pub CorrespondsElements : Names → Open → Pats → FirstUses → List PatId → Mappings
    CorrespondsElements ks rs tree.no_pats us is = λ ws. (is ≡ []) × No ws
    CorrespondsElements ks rs (tree.more_pats p ps) us is =
        CorrespondsBefore (is_dots p) (λ i. CorrespondsPat ks rs p us i)
        (λ others. CorrespondsElements ks rs ps (uses_after p us) others) is
    CorrespondsElements ks rs (tree.tracked_pats called ps) us is = CorrespondsElements ks rs ps us is

    -- one without a name is no part of the record, and a disabled one becomes nothing
    pub CorrespondsPatFields : Names → Open → PatFields → FirstUses → List RecordFieldPat → Mappings
    CorrespondsPatFields ks rs tree.no_pat_fields us is = λ ws. (is ≡ []) × No ws
    CorrespondsPatFields ks rs (tree.more_pat_fields (tree.pat_field at None p) fs) us is = λ ws.
        (i : PatId)
        × (ReadsAsPat store source_map (pattern_data p us) (CorrespondsPat ks rs p us i) i
        & CorrespondsPatFields ks rs fs (uses_after p us) is) ws
    CorrespondsPatFields ks rs (tree.more_pat_fields (tree.pat_field at (Some n) p) fs) us is = λ ws.
        (i : PatId) × (others : List RecordFieldPat) × (is ≡ record { name = n; pat = i } ∷ others)
        × ((CorrespondsPat ks rs p us i & OnePatFieldMapping i at) & CorrespondsPatFields ks rs fs (uses_after p us) others) ws
    CorrespondsPatFields ks rs (tree.more_pat_fields f fs) us is = CorrespondsPatFields ks rs fs us is

    -- what is no side is absent
    pub CorrespondsSide : Open → Side → Option ExprId → Mappings
    CorrespondsSide rs tree.no_side o = Absent o
    CorrespondsSide rs (tree.literal_side at l) o = There (λ i. CorrespondsSigned store source_map at l i) o
    CorrespondsSide rs (tree.name_side at n _) o = CorrespondsNameSide store source_map at n o
    CorrespondsSide rs (tree.path_side at p) o =
        WholeMappings rs p & WherePath (written_path p) (λ d. There (λ i. CorrespondsSidePath store source_map at d i) o) (Absent o)
    CorrespondsSide rs tree.other_side o = Absent o

    -- the assignee expression

    pub CorrespondsTarget : Open → Target → PatId → Mappings
    CorrespondsTarget rs (tree.absent_target call) i = No
    CorrespondsTarget rs (tree.place_target at e) i = λ ws. (x : ExprId) × PatIs store source_map i (pat.Expr x) × Corresponds rs e x ws
    CorrespondsTarget rs (tree.macro_target at called t) i = CorrespondsTarget rs t i
    CorrespondsTarget rs (tree.wild_target at) i = No
    CorrespondsTarget rs (tree.path_target at p h) i = PathMappings rs p nothing_seen
    CorrespondsTarget rs (tree.tuple_target at ts) i =
        CorrespondsTuple store source_map (λ dots is. pat.Tuple dots is) false (λ is. CorrespondsTargets rs ts is) i
    CorrespondsTarget rs (tree.call_target at p ts) i =
        WholeMappings rs p
        & WherePath (written_path p) (λ d ws. (path : Path)
        × CorrespondsTuple store source_map (λ dots is. pat.TupleStruct path dots is) false (λ is. CorrespondsTargets rs ts is) i ws) No
    CorrespondsTarget rs (tree.array_target at before dots behind) i = λ ws.
        (bs : List PatId) × (m : Option PatId) × (as' : List PatId) × PatIs store source_map i (pat.Slice bs m as')
        × (CorrespondsTargets rs before bs & CorrespondsTargets rs behind as') ws
    CorrespondsTarget rs (tree.record_target at p fs dots spread) i =
        WholeMappings rs p
        & WherePath (written_path p) (λ d ws. (path : Path) × (is : List RecordFieldPat)
        × PatIs store source_map i (pat.Record path is dots)
        × CorrespondsTargetFields rs fs is ws) No

    pub CorrespondsTargets : Open → Targets → List PatId → Mappings
    CorrespondsTargets rs tree.no_targets is = λ ws. (is ≡ []) × No ws
    CorrespondsTargets rs (tree.more_targets t ts) is =
        CorrespondsBefore false (λ i. CorrespondsTarget rs t i) (λ others. CorrespondsTargets rs ts others) is
    CorrespondsTargets rs (tree.dots_targets ts) is = CorrespondsTargets rs ts is
    CorrespondsTargets rs (tree.tracked_targets called ts) is = CorrespondsTargets rs ts is

    pub CorrespondsTargetFields : Open → TargetFields → List RecordFieldPat → Mappings
    CorrespondsTargetFields rs tree.no_target_fields is = λ ws. (is ≡ []) × No ws
    CorrespondsTargetFields rs (tree.more_target_fields (tree.target_field at None t) fs) is = λ ws.
        (i : PatId) × (ReadsAsTarget store source_map t (CorrespondsTarget rs t i) i & CorrespondsTargetFields rs fs is) ws
    CorrespondsTargetFields rs (tree.more_target_fields (tree.target_field at (Some n) t) fs) is = λ ws.
        (i : PatId) × (others : List RecordFieldPat) × (is ≡ record { name = n; pat = i } ∷ others)
        × ((CorrespondsTarget rs t i & OnePatFieldMapping i at) & CorrespondsTargetFields rs fs others) ws
    CorrespondsTargetFields rs (tree.more_target_fields f fs) is = CorrespondsTargetFields rs fs is
