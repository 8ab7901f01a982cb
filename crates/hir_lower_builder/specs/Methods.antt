-- What each kind of method does: the steps of one part, and what it answers.
use Rattle.std.specs.Prelude.{◌≤◌, suc, length, Bool, true, false, List, [], Option, Some, None}
use Rattle.hir_syntax.specs.declared.ast.BlockExpr.{BlockExpr as AstBlockExpr, out-BlockExpr}
use Rattle.hir_syntax.specs.declared.ast.BlockModifier.{BlockModifier}
use Rattle.hir_syntax.specs.declared.ast.BlockModifier.TheVariants as modifier
use Rattle.hir_syntax.specs.declared.ast.Expr.{Expr as AstExpr}
use Rattle.hir_store.specs.Stored.{Stored}
use Rattle.hir_store.specs.Range.{HasExpr, HasExprOption, HasExprs, HasLabelOption, HasStatements, HasStatementOption}
use Rattle.hir_store.specs.Range.{HasBindingId, HasFields, HasSpread, past_field, HasPat}
use Rattle.hir_store.specs.Arenas.{past_option}
use Rattle.hir_store.specs.declared.hir.CoroutineKind.{CoroutineKind}
use Rattle.hir_store.specs.declared.hir.CoroutineKind.TheVariants as coroutine
use Rattle.hir_store.specs.declared.hir.RecordLitField.{RecordLitField}
use Rattle.hir_env.specs.Layers.{RecordReading}
use Rattle.hir_store.specs.Range.{Has, HasConst, HasType, HasTypeOption, HasTypes, HasArgsOption, HasBounds, HasPathOption}
use Rattle.hir_store.specs.declared.ids.TypeRefId.{TypeRefId}
use Rattle.hir_store.specs.declared.path.GenericArgs.{GenericArgs}
use Rattle.hir_store.specs.declared.type_ref.ConstRef.{ConstRef}
use Rattle.hir_store.specs.declared.type_ref.TypeBound.{TypeBound}
use Rattle.hir_store.specs.declared.type_ref.UseArgRef.{UseArgRef}
use Rattle.hir_store.specs.Past.{Past, join, past_arm, past_expr_id, past_pat_ids, past_present, past_type_id, past_type_options}
use Rattle.hir_store.specs.Past.{past_use_arg}
use Rattle.hir_store.specs.declared.hir.MatchArm.{MatchArm}
use Rattle.hir_store.specs.declared.hir.Statement.{Statement}
use Rattle.hir_store.specs.declared.ids.BindingId.{BindingId}
use Rattle.hir_store.specs.declared.ids.ExprId.{ExprId}
use Rattle.hir_store.specs.declared.ids.PatId.{PatId}
use Rattle.hir_store.specs.declared.ids.BlockId.{BlockId}
use Rattle.hir_syntax.specs.declared.ast.ExprKind.{ExprKind as AstExprKind, out-ExprKind}
use Rattle.hir_store.specs.Pointers.{Pointer}
use Rattle.hir_env.specs.ResolveCtx.{ResolveCtx}
use Rattle.hir_env.specs.Answering.{expr_at}
use Rattle.hir_env.specs.ResolvedTree as tree
use Rattle.hir_env.specs.declared.ctx.LowerCtx.{LowerCtx}
use Rattle.hir_env.specs.ResolvedTree.{Binder, Type_, OptionType, Parts, Path, OptionPath, Segment, OptionArgs, Bounds, Constant}
use Rattle.hir_env.specs.ResolvedTree.{Expr, OptionExpr, Exprs, Block, OptionBlock, Stmts, Stmt}
use Rattle.hir_env.specs.ResolvedTree.{OptionPat, Param, Params, Side, OptionTypePat, Limit, Target}
use Rattle.hir_env.specs.Whole.{resolved_plain, expr_part, in_const_block, in_constant, in_coroutine, label_part, pointer_at}
use Rattle.hir_env.specs.Whole.{contents_part, into, reader}
use Rattle.hir_env.specs.Whole.{type_part}
use Rattle.hir_store.specs.declared.path.Path.{Path as HirPath}
use Rattle.hir_lower_builder.specs.Builder.{Builder}
use Rattle.hir_lower_builder.specs.Walks.{past_walk, past_reading}
use Rattle.hir_lower_builder.specs.Types.{past_lists}
use Rattle.hir_lower_builder.specs.declared.args.ArgLists.{ArgLists}
use Rattle.hir_lower_builder.specs.declared.closures.ClosureParams.{ClosureParams}
use Rattle.hir_lower_builder.specs.declared.parts.BlockRole.{BlockRole}
use Rattle.hir_lower_builder.specs.declared.parts.BlockRole.TheVariants as role
use Rattle.hir_lower_builder.specs.declared.preludes.Prelude.{Prelude}
use Rattle.hir_lower_builder.specs.declared.preludes.Within.{Within}
use Rattle.hir_lower_builder.specs.declared.walk.PathWalk.{PathWalk}
use Rattle.hir_lower_builder.specs.declared.walk.Reading.{Reading}
use Rattle.hir_lower_builder.specs.Lowering.{Lowering, Checked, Lowers, ◌>>=◌, pure}
use Rattle.hir_lower_builder.specs.Lower as spec
use Rattle.hir_lower_builder.specs.Lower.{ExprSteps, StoredContents, StoredFields}

abbrev pub LowersExpr : Expr → Builder → Checked ExprId → Builder → Type 0
LowersExpr e old result new = Lowers HasExpr (spec.lower e) old result new

-- an expression of this kind, at this node
abbrev pub kind_at : ResolveCtx → Pointer → AstExprKind → Expr
kind_at at s k = expr_at at.answers (reader at.answers (into at)) (out-ExprKind k) at.place s

-- none where a condition disables it
abbrev pub MaybeLowersExpr : Expr → Builder → Checked (Option ExprId) → Builder → Type 0
MaybeLowersExpr e old result new = Lowers HasExprOption (spec.lower_kept e) old result new

-- missing where it is absent
abbrev pub LowersExprOpt : OptionExpr → Builder → Checked ExprId → Builder → Type 0
LowersExprOpt e old result new = Lowers HasExpr (spec.lower_part e) old result new

-- none where it is absent
abbrev pub LowersIfPresent : OptionExpr → Builder → Checked (Option ExprId) → Builder → Type 0
LowersIfPresent e old result new = Lowers HasExprOption (spec.present e) old result new

-- none where it is absent or a condition disables it
abbrev pub MaybeLowersExprOpt : OptionExpr → Builder → Checked (Option ExprId) → Builder → Type 0
MaybeLowersExprOpt e old result new = Lowers HasExprOption (spec.kept_part e) old result new

abbrev pub LowersEach : Exprs → Builder → Checked (List ExprId) → Builder → Type 0
LowersEach es old result new = Lowers HasExprs (spec.lower_each [] es) old result new

-- the label that it names exists
abbrev pub HasRole : Stored → BlockRole → Type 0
HasRole s (role.Plain is_unsafe label) = HasLabelOption s label
HasRole s (role.Try item typed) = Unit {0}
HasRole s (role.Coroutine kind moves) = Unit {0}

-- as a block of this role
abbrev pub LowersInside : BlockRole → Block → Builder → Checked ExprId → Builder → Type 0
LowersInside r b old result new = Lowers HasExpr (spec.lower_inside r b) old result new

abbrev pub LowersBlock : Block → Builder → Checked ExprId → Builder → Type 0
LowersBlock b old result new = Lowers HasExpr (spec.lower_block b) old result new

-- missing where it is absent
abbrev pub LowersBlockOpt : OptionBlock → Builder → Checked ExprId → Builder → Type 0
LowersBlockOpt b old result new = Lowers HasExpr (spec.lower_block_part b) old result new

-- none where it is absent
abbrev pub LowersBlockIfPresent : OptionBlock → Builder → Checked (Option ExprId) → Builder → Type 0
LowersBlockIfPresent b old result new = Lowers HasExprOption (spec.present_block b) old result new

-- those of a closure
abbrev pub past_params : ClosureParams → Past
past_params l = join (past_pat_ids l.args) (past_type_options l.arg_types)

abbrev pub HasClosureParams : Stored → ClosureParams → Type 0
HasClosureParams s l = Has s (past_params l)

-- behind those that are lowered already
abbrev pub LowersParams : ClosureParams → Params → Builder → Checked ClosureParams → Builder → Type 0
LowersParams l ps old result new = Lowers HasClosureParams (spec.lower_params l ps) old result new

abbrev pub LowersParam : ClosureParams → Param → Builder → Checked ClosureParams → Builder → Type 0
LowersParam l x old result new = Lowers HasClosureParams (spec.lower_param l x) old result new

-- what is read of what is stored already
abbrev pub HasRead : {A : Type 0} → Stored → A → Type 0
HasRead s a = Unit {0}

-- the `let`s in front of the body of a coroutine
abbrev pub HasPrelude : Stored → Prelude → Type 0
HasPrelude s l = HasStatements s l.lets

abbrev pub HasRebound : Stored → BindingId × List Statement → Type 0
HasRebound s r = HasBindingId s r.0 × HasStatements s r.1

-- `self`, where there is one
abbrev pub HasSelf : Stored → Option BindingId → Type 0
HasSelf s o = past_option (λ i. suc i.0) o ≤ length s.bindings.entries

abbrev pub HasSelfPrelude : Stored → Option BindingId × Prelude → Type 0
HasSelfPrelude s r = HasSelf s r.0 × HasPrelude s r.1

-- what is in a closure whose body is a coroutine
abbrev pub past_within : Within → Past
past_within w = join (past_type_options w.arg_types) (join (past_present past_type_id w.ret) (past_expr_id w.coroutine))

abbrev pub HasWithin : Stored → Within → Type 0
HasWithin s w = Has s (past_within w)

abbrev pub HasArm : Stored → MatchArm → Type 0
HasArm s a = Has s (past_arm a)

abbrev pub HasArmOption : Stored → Option MatchArm → Type 0
HasArmOption s a = Has s (past_present past_arm a)

abbrev pub LowersStmt : Stmt → Builder → Checked (Option Statement) → Builder → Type 0
LowersStmt s old result new = Lowers HasStatementOption (spec.lower_stmt s) old result new

-- patterns

-- as a whole pattern, which has bindings of its own
abbrev pub LowersTop : OptionPat → Builder → Checked PatId → Builder → Type 0
LowersTop p old result new = Lowers HasPat (spec.lower_top p) old result new

-- as a side of a range, none where it is no side
abbrev pub LowersSide : Side → Builder → Checked (Option ExprId) → Builder → Type 0
LowersSide s old result new = Lowers HasExprOption (spec.lower_side s) old result new

-- as a pattern of a type, missing where it is absent
abbrev pub LowersTypePat : OptionTypePat → Builder → Checked PatId → Builder → Type 0
LowersTypePat p old result new = Lowers HasPat (spec.lower_type_pat_part p) old result new

-- as an end of a range in a type
abbrev pub LowersLimit : Limit → Builder → Checked ExprId → Builder → Type 0
LowersLimit l old result new = Lowers HasExpr (spec.lower_limit l) old result new

-- as the assignee expression
abbrev pub LowersTarget : Target → Builder → Checked PatId → Builder → Type 0
LowersTarget t old result new = Lowers HasPat (spec.lower_target t) old result new

-- types and paths

-- the spot with another place
abbrev pub at_place : ResolveCtx → LowerCtx → ResolveCtx
at_place at p = record at { place = p }

abbrev pub HasWalk : Stored → PathWalk → Type 0
HasWalk s w = Has s (past_walk w)

abbrev pub HasReading : Stored → Reading → Type 0
HasReading s r = Has s (past_reading r)

abbrev pub HasLists : Stored → ArgLists → Type 0
HasLists s l = Has s (past_lists l)

abbrev pub HasUseArg : Stored → UseArgRef → Type 0
HasUseArg s a = Has s (past_use_arg a)

abbrev pub LowersType : Option Binder → Type_ → Builder → Checked TypeRefId → Builder → Type 0
LowersType binder t old result new = Lowers HasType (spec.lower_type binder t) old result new

-- an error where it is absent
abbrev pub LowersTypeOpt : Option Binder → OptionType → Builder → Checked TypeRefId → Builder → Type 0
LowersTypeOpt binder t old result new = Lowers HasType (spec.type_part binder t) old result new

-- none where it is absent
abbrev pub LowersTypeIfPresent : OptionType → Builder → Checked (Option TypeRefId) → Builder → Type 0
LowersTypeIfPresent t old result new = Lowers HasTypeOption (spec.present_type t) old result new

abbrev pub LowersParts : Parts → Builder → Checked (List TypeRefId) → Builder → Type 0
LowersParts ts old result new = Lowers HasTypes (spec.lower_parts [] ts) old result new

-- none where it is absent or yields nothing
abbrev pub LowersArgs : OptionArgs → Builder → Checked (Option GenericArgs) → Builder → Type 0
LowersArgs as' old result new = Lowers HasArgsOption (spec.args_part as') old result new

-- the constant of this expression, which is written at this spot
abbrev pub constant_at : ResolveCtx → Option AstExpr → Constant
constant_at at e = tree.constant (expr_part (in_constant at) e)

abbrev pub LowersConstant : Constant → Builder → Checked ConstRef → Builder → Type 0
LowersConstant c old result new = Lowers HasConst (spec.lower_constant c) old result new

abbrev pub LowersBounds : Bounds → Builder → Checked (List TypeBound) → Builder → Type 0
LowersBounds bs old result new = Lowers HasBounds (spec.lower_bounds [] bs) old result new

abbrev pub ReadsSegment : Bool → Segment → PathWalk → Builder → Checked Reading → Builder → Type 0
ReadsSegment first s w old result new = Lowers HasReading (spec.read_segment first s w) old result new

abbrev pub ReadsPath : Path → PathWalk → Builder → Checked Reading → Builder → Type 0
ReadsPath p w old result new = Lowers HasReading (spec.read_path p w) old result new

-- none where it is absent or refused
abbrev pub LowersPath : OptionPath → Builder → Checked (Option HirPath) → Builder → Type 0
LowersPath p old result new = Lowers HasPathOption (spec.lower_path p) old result new

-- what upstream does to make an expression of one that may be disabled
abbrev pub or_missing : Option ExprId → ExprSteps
or_missing None = spec.missing
or_missing (Some id) = pure id

-- the contents of a record

abbrev pub HasField : Stored → Option RecordLitField → Type 0
HasField s f = past_option past_field f ≤ length s.exprs.entries

abbrev pub HasRecord : Stored → StoredFields → Type 0
HasRecord s c = HasFields s c.0 × HasSpread s c.1

abbrev pub record_at : RecordReading → Lowering StoredFields
record_at r = spec.record_contents (spec.lower_fields [] r.fields) (spec.lower_spread r.spread)

-- the contents of a block

abbrev pub HasContents : Stored → StoredContents → Type 0
HasContents s c = HasStatements s c.0 × HasExprOption s c.1

-- what is in a block that is read at this spot
abbrev pub contents_at : ResolveCtx → AstBlockExpr → Lowering StoredContents
contents_at at b =
    let node = out-BlockExpr b in
    let c = contents_part at node.stmts node.tail in
    spec.lower_stmts [] c.0 (spec.kept_part c.1)

-- the block with these contents, of this role
abbrev pub block_steps_at : ResolveCtx → BlockRole → Option BlockId → AstBlockExpr → ExprSteps
block_steps_at at r number b =
    let node = out-BlockExpr b in spec.as_role r (pointer_at at node.id node.range) number (contents_at at b)

-- a `try` that is written here, with this type
abbrev pub try_steps_at : ResolveCtx → OptionType → AstBlockExpr → ExprSteps
try_steps_at at t b =
    let node = out-BlockExpr b in
    let item = at.answers.lang_items.try_trait_from_output in
    spec.try_form (pointer_at at node.id node.range) t (λ typed. spec.lower_inside (role.Try item typed) (resolved_plain at b))

-- a `const` block that is written here
abbrev pub const_steps_at : ResolveCtx → AstBlockExpr → ExprSteps
const_steps_at at b =
    let node = out-BlockExpr b in
    spec.owning (λ i. i) (spec.const_form (pointer_at at node.id node.range)
    (spec.constant_form (spec.lower_inside (role.Plain false None) (resolved_plain (in_const_block at) b))))

-- an `async`, `gen` or `async gen` block that is written here
abbrev pub coroutine_steps_at : ResolveCtx → CoroutineKind → AstBlockExpr → ExprSteps
coroutine_steps_at at kind b =
    let node = out-BlockExpr b in
    let inner = spec.lower_inside (role.Coroutine kind node.move_) (resolved_plain (in_coroutine kind at) b) in
    spec.owning (λ i. i) (spec.coroutine_form inner)

-- a block as an expression, by its modifier, where only without one its label counts
abbrev pub own_steps_at : ResolveCtx → Option BlockModifier → AstBlockExpr → ExprSteps
own_steps_at at None b =
    spec.labelled (label_part at (out-BlockExpr b).label) (λ id. spec.lower_inside (role.Plain false id) (resolved_plain at b))
own_steps_at at (Some modifier.Unsafe) b = spec.lower_inside (role.Plain true None) (resolved_plain at b)
own_steps_at at (Some modifier.Try) b = try_steps_at at (type_part at (out-BlockExpr b).ty) b
own_steps_at at (Some modifier.Const) b = const_steps_at at b
own_steps_at at (Some modifier.Async) b = coroutine_steps_at at coroutine.Async b
own_steps_at at (Some modifier.Gen) b = coroutine_steps_at at coroutine.Gen b
own_steps_at at (Some modifier.AsyncGen) b = coroutine_steps_at at coroutine.AsyncGen b
