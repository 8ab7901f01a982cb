-- The forms of expressions: what is stored of their parts, and the steps, of those that lower the parts.
use Rattle.std.specs.Prelude.{nat_le, if◌then◌else◌, Bool, true, false}
use Rattle.std.specs.Prelude.{List, [], ◌∷◌, ◌++◌, length, Option, Some, None}
use Rattle.hir_syntax.specs.declared.ast.Literal.{Literal as AstLiteral}
use Rattle.hir_base.specs.declared.op.LogicOp.{LogicOp}
use Rattle.hir_base.specs.declared.op.BinaryOp.TheVariants as operator
use Rattle.hir_store.specs.Pointers.{Pointer}
use Rattle.hir_store.specs.declared.hir.Expr.{Expr as HirExpr}
use Rattle.hir_store.specs.declared.hir.Expr.TheVariants as hir
use Rattle.hir_store.specs.declared.hir.Array.TheVariants as array
use Rattle.hir_store.specs.declared.hir.CaptureBy.{CaptureBy}
use Rattle.hir_store.specs.declared.hir.CaptureBy.TheVariants as capture
use Rattle.hir_store.specs.declared.hir.ClosureKind.{ClosureKind}
use Rattle.hir_store.specs.declared.hir.ClosureKind.TheVariants as closure
use Rattle.hir_store.specs.declared.hir.CoroutineKind.{CoroutineKind}
use Rattle.hir_store.specs.declared.hir.CoroutineSource.TheVariants as source
use Rattle.hir_store.specs.declared.hir.Movability.{Movability}
use Rattle.hir_store.specs.declared.hir.Movability.TheVariants as movable
use Rattle.hir_store.specs.declared.hir.LoopSource.{LoopSource}
use Rattle.hir_store.specs.declared.hir.MatchArm.{MatchArm}
use Rattle.hir_store.specs.declared.hir.Statement.{Statement}
use Rattle.hir_store.specs.declared.hir.Statement.TheVariants as statement
use Rattle.hir_store.specs.declared.hir.Literal.{Literal}
use Rattle.hir_store.specs.declared.hir.RecordLitField.{RecordLitField}
use Rattle.hir_store.specs.declared.hir.RecordSpread.{RecordSpread}
use Rattle.hir_store.specs.declared.name.Name.{Name}
use Rattle.hir_store.specs.declared.path.GenericArgs.{GenericArgs}
use Rattle.hir_store.specs.declared.path.Path.{Path as HirPath}
use Rattle.hir_store.specs.declared.path.Path.TheVariants.{BarePath, Normal, LangItem}
use Rattle.hir_store.specs.declared.ids.ExprId.{ExprId}
use Rattle.hir_store.specs.declared.ids.LabelId.{LabelId}
use Rattle.hir_store.specs.declared.ids.BlockId.{BlockId}
use Rattle.hir_store.specs.declared.ids.HygieneId.{HygieneId}
use Rattle.hir_store.specs.declared.ids.PatId.{PatId}
use Rattle.hir_store.specs.declared.ids.TypeRefId.{TypeRefId}
use Rattle.hir_store.specs.declared.type_ref.ConstRef.{ConstRef}
use Rattle.hir_store.specs.declared.diagnostics.AwaitLocation.{AwaitLocation}
use Rattle.hir_env.specs.ResolvedTree as tree
use Rattle.hir_env.specs.ResolvedTree.{Called, Leaf, Unary, Binary, Leaving, Listing, Label, Jump, Expr}
use Rattle.hir_lower_builder.specs.Calls.{track_gone, emitted}
use Rattle.hir_lower_builder.specs.Lowering.{Lowering, ◌>>=◌, ◌>>◌, pure, alloc_expr, point, point_field, enter_block}
use Rattle.hir_lower_builder.specs.Lowering.{report_await, track_yield, open_label, open_barrier, close, close_barrier, jump_target}
use Rattle.hir_lower_builder.specs.Lowering.{enter_root, leave_root}
use Rattle.hir_lower_builder.specs.Types.{TypeSteps}
use Rattle.hir_lower_builder.specs.declared.closures.ClosureParams.{ClosureParams}

-- steps that make an expression
abbrev pub ExprSteps : Type 0
ExprSteps = Lowering ExprId

abbrev pub push_some : {A : Type 0} → List A → Option A → List A
push_some done None = done
push_some done (Some x) = done ++ x ∷ []

abbrev pub some : {A : Type 0} → Lowering A → Lowering (Option A)
some p = do pure (Some (← p))

-- families of forms

-- what is left out is missing
abbrev pub stored_leaf : Leaf → HirExpr
stored_leaf tree.underscore = hir.Underscore
stored_leaf tree.include_bytes = hir.IncludeBytes
stored_leaf tree.left_out = hir.Missing

abbrev pub stored_unary : Unary → ExprId → HirExpr
stored_unary (tree.field_of name) e = hir.Field e name
stored_unary (tree.prefix_of op) e = hir.UnaryOp op e
stored_unary (tree.reference_to rawness mutability) e = hir.Ref rawness mutability e

abbrev pub stored_binary : Binary → ExprId → ExprId → HirExpr
stored_binary (tree.operator op) a b = hir.BinaryOp op a b
stored_binary tree.index_of a b = hir.Index a b

abbrev pub stored_lazy : LogicOp → ExprId → ExprId → HirExpr
stored_lazy op a b = hir.BinaryOp (Some (operator.LogicOp op)) a b

abbrev pub stored_leaving : Leaving → Option ExprId → HirExpr
stored_leaving tree.returning e = hir.Return e
stored_leaving tree.yeeting e = hir.Yeet e

-- literals and paths

abbrev pub stored_literal : AstLiteral → Literal
stored_literal l = record { negative = false; kind = l.lit; text = l.t; suffix = l.suffix }

-- the hygiene of what no macro made
abbrev pub root_hygiene : HygieneId
root_hygiene = record { 0 = 0 }

-- a path that isn't bare, or of more than one name, is looked up by none of its own
abbrev pub path_hygiene : HirPath → HygieneId → HygieneId
path_hygiene (BarePath p) h = if nat_le (length p.segments) 1 then h else root_hygiene
path_hygiene (Normal p) h = root_hygiene
path_hygiene (LangItem item) h = root_hygiene

-- a path that is absent or refused is missing
abbrev pub path_or_missing : HygieneId → Option HirPath → HirExpr
path_or_missing h None = hir.Missing
path_or_missing h (Some p) = hir.Path p (path_hygiene p h)

-- records and blocks

-- what is in a record: its fields, and what the others come from
abbrev pub StoredFields : Type 0
StoredFields = List RecordLitField × RecordSpread

-- the statements and the tail: where no tail is left, a last expression statement without a semicolon becomes it
abbrev pub settled : List Statement → Option ExprId → List Statement × Option ExprId
settled ss (Some t) = (ss, Some t)
settled [] None = ([], None)
settled (statement.Expr id false ∷ []) None = ([], Some id)
settled (s ∷ ss) None = let r = settled ss None in (s ∷ r.0, r.1)

-- the expression of a statement without a semicolon
abbrev pub value_of : Option Statement → Option ExprId
value_of (Some (statement.Expr id false)) = Some id
value_of _ = None

abbrev pub settled_block : Bool → Option LabelId → Option BlockId → List Statement × Option ExprId → HirExpr
settled_block is_unsafe label number r = hir.Block is_unsafe label number r.0 r.1

-- what is in a block: its statements and its tail
abbrev pub StoredContents : Type 0
StoredContents = List Statement × Option ExprId

-- forms, of the steps that lower their parts

unfoldable pub missing : ExprSteps
missing = alloc_expr hir.Missing None

unfoldable pub if_form : Pointer → ExprSteps → ExprSteps → Lowering (Option ExprId) → ExprSteps
if_form at condition then_branch else_branch = do
  t ← then_branch
  e ← else_branch
  c ← condition
  alloc_expr (hir.If c t e) (Some at)

-- with what the loop was written as
unfoldable pub loop_form : Pointer → LoopSource → Option Label → ExprSteps → ExprSteps
loop_form at from None body = do
  b ← body
  alloc_expr (hir.Loop b None from) (Some at)
loop_form at from (Some l) body = do
  id ← open_label l
  b ← body
  close
  alloc_expr (hir.Loop b (Some id) from) (Some at)

-- The turn of a `while`, which is the body of a loop: the body where the condition holds, else a break. The body is lowered before
-- the condition.
unfoldable pub iteration_form : Pointer → ExprSteps → ExprSteps → ExprSteps
iteration_form at condition body = do
  b ← body
  c ← condition
  out ← alloc_expr (hir.Break None None) (Some at)
  alloc_expr (hir.If c b (Some out)) (Some at)

unfoldable pub call_form : Pointer → ExprSteps → Lowering (List ExprId) → ExprSteps
call_form at callee arguments = do
  f ← callee
  xs ← arguments
  alloc_expr (hir.Call f xs) (Some at)

unfoldable pub continue_form : Pointer → Option Jump → ExprSteps
continue_form at jump = do
  label ← jump_target jump
  alloc_expr (hir.Continue label) (Some at)

unfoldable pub break_form : Pointer → Option Jump → Lowering (Option ExprId) → ExprSteps
break_form at jump value = do
  label ← jump_target jump
  v ← value
  alloc_expr (hir.Break label v) (Some at)

unfoldable pub operand_form : Pointer → (ExprId → HirExpr) → ExprSteps → ExprSteps
operand_form at form operand = do
  e ← operand
  alloc_expr (form e) (Some at)

unfoldable pub operands_form : Pointer → (ExprId → ExprId → HirExpr) → ExprSteps → ExprSteps → ExprSteps
operands_form at form left right = do
  a ← left
  b ← right
  alloc_expr (form a b) (Some at)

-- with a value that may be absent
unfoldable pub value_form : Pointer → (Option ExprId → HirExpr) → Lowering (Option ExprId) → ExprSteps
value_form at form value = do
  v ← value
  alloc_expr (form v) (Some at)

-- It is noted before its value is lowered.
unfoldable pub yield_form : Pointer → Lowering (Option ExprId) → ExprSteps
yield_form at value = do
  track_yield
  v ← value
  alloc_expr (hir.Yield v) (Some at)

-- a leading comma stands for a missing element in front, which is made last
unfoldable pub list_form : Pointer → Listing → Lowering (List ExprId) → ExprSteps
list_form at (tree.tuple_of false) elements = do
  es ← elements
  alloc_expr (hir.Tuple es) (Some at)
list_form at (tree.tuple_of true) elements = do
  es ← elements
  first ← missing
  alloc_expr (hir.Tuple (first ∷ es)) (Some at)
list_form at tree.array_of elements = do
  es ← elements
  alloc_expr (hir.Array (array.ElementList es)) (Some at)

-- what is repeated before how often
unfoldable pub repeat_form : Pointer → ExprSteps → Lowering ConstRef → ExprSteps
repeat_form at initializer repeat = do
  e ← initializer
  c ← repeat
  alloc_expr (hir.Array (array.Repeat e c)) (Some at)

-- a `const` block
unfoldable pub const_form : Pointer → Lowering ConstRef → ExprSteps
const_form at inner = do
  c ← inner
  alloc_expr (hir.Const c) (Some at)

-- the generic arguments behind the others
unfoldable pub method_call_form : Pointer → ExprSteps → Name → Lowering (List ExprId) → Lowering (Option GenericArgs) → ExprSteps
method_call_form at receiver name arguments generics = do
  r ← receiver
  es ← arguments
  as' ← generics
  alloc_expr (hir.MethodCall r name as' es) (Some at)

unfoldable pub cast_form : Pointer → ExprSteps → TypeSteps → ExprSteps
cast_form at operand type_ref = do
  e ← operand
  t ← type_ref
  alloc_expr (hir.Cast e t) (Some at)

unfoldable pub offset_of_form : Pointer → TypeSteps → List Name → ExprSteps
offset_of_form at container names = do
  t ← container
  alloc_expr (hir.OffsetOf t names) (Some at)

unfoldable pub record_contents : Lowering (List RecordLitField) → Lowering RecordSpread → Lowering StoredFields
record_contents fields spread = do
  fs ← fields
  s ← spread
  pure (fs, s)

-- where the path is absent or refused nothing else is lowered
abbrev pub record_of : Pointer → Lowering StoredFields → Option HirPath → ExprSteps
record_of at contents None = missing
record_of at contents (Some p) = do
  r ← contents
  alloc_expr (hir.RecordLit p r.0 r.1) (Some at)

unfoldable pub record_form : Pointer → Lowering (Option HirPath) → Lowering StoredFields → ExprSteps
record_form at path contents = do
  p ← path
  record_of at contents p

-- a field, whose value leads to it
unfoldable pub field_form : Pointer → Name → ExprSteps → Lowering (Option RecordLitField)
field_form at name value = do
  e ← value
  point_field e at
  pure (Some (record { name = name; expr = e }))

unfoldable pub await_form : Pointer → Option AwaitLocation → ExprSteps → ExprSteps
await_form at location operand = do
  e ← operand
  report_await at location
  alloc_expr (hir.Await e) (Some at)

-- the parentheses lead to what is in them
unfoldable pub paren_form : Pointer → ExprSteps → ExprSteps
paren_form at inner = do
  id ← inner
  point at id
  pure id

-- a call that stands for no expression is missing
unfoldable pub uncalled_form : Pointer → Called → ExprSteps
uncalled_form at called = emitted called >> alloc_expr hir.Missing (Some at)

-- the call leads to what it stands for
unfoldable pub called_form : Pointer → Called → ExprSteps → ExprSteps
called_form at called inner = emitted called >> paren_form at inner

unfoldable pub path_form : Pointer → HygieneId → Lowering (Option HirPath) → ExprSteps
path_form at h path = do
  p ← path
  alloc_expr (path_or_missing h p) (Some at)

-- a `let` as a condition: the pattern before the expression
unfoldable pub let_form : Pointer → Lowering PatId → ExprSteps → ExprSteps
let_form at pattern value = do
  p ← pattern
  e ← value
  alloc_expr (hir.Let p e) (Some at)

-- what is matched before the arms
unfoldable pub match_form : Pointer → ExprSteps → Lowering (List MatchArm) → ExprSteps
match_form at scrutinee arms = do
  e ← scrutinee
  as' ← arms
  alloc_expr (hir.Match e as') (Some at)

-- the guard behind the expression
unfoldable pub arm_form : Lowering PatId → ExprSteps → Lowering (Option ExprId) → Lowering (Option MatchArm)
arm_form pattern body guard = do
  p ← pattern
  e ← body
  g ← guard
  pure (Some (record { pat = p; guard = g; expr = e }))

-- the target before the value
unfoldable pub assign_form : Pointer → Lowering PatId → ExprSteps → ExprSteps
assign_form at target value = do
  t ← target
  v ← value
  alloc_expr (hir.Assignment t v) (Some at)

unfoldable pub let_stmt_form : Lowering PatId → Lowering (Option TypeRefId) → Lowering (Option ExprId) → Lowering (Option ExprId)
    → Lowering (Option Statement)
let_stmt_form pattern type_ref initializer else_branch = do
  p ← pattern
  t ← type_ref
  i ← initializer
  b ← else_branch
  pure (Some (statement.Let p t i b))

-- blocks

unfoldable pub block_form : Pointer → Bool → Option LabelId → Option BlockId → Lowering StoredContents → ExprSteps
block_form at is_unsafe label number contents = do
  enter_block number
  r ← contents
  alloc_expr (settled_block is_unsafe label number (settled r.0 r.1)) (Some at)

unfoldable pub labelled : Option Label → (Option LabelId → ExprSteps) → ExprSteps
labelled None f = f None
labelled (Some l) f = do
  id ← open_label l
  x ← f (Some id)
  close
  pure x

-- the expression, where something is left of it
abbrev pub kept : Expr → ExprSteps → Lowering (Option ExprId)
kept (tree.disabled_expr why e) node = do
  track_gone why
  pure None
kept e node = some node

-- constants

-- No jump in it reaches what is open around it, and it is recorded where no other root is being lowered.
unfoldable pub constant_form : ExprSteps → Lowering ConstRef
constant_form contents = do
  outside ← open_barrier
  outer ← enter_root
  id ← contents
  close_barrier outside
  leave_root outer id
  pure (record { expr = id })

-- closures

abbrev pub no_closure_params : ClosureParams
no_closure_params = record { args = []; arg_types = [] }

abbrev pub add_param : ClosureParams → PatId → Option TypeRefId → ClosureParams
add_param l p t = record { args = l.args ++ p ∷ []; arg_types = l.arg_types ++ t ∷ [] }

unfoldable pub param_form : ClosureParams → Lowering PatId → Lowering (Option TypeRefId) → Lowering ClosureParams
param_form l pattern type_ref = do
  p ← pattern
  t ← type_ref
  pure (add_param l p t)

abbrev pub movability : Bool → Movability
movability true = movable.Static
movability false = movable.Movable

-- one whose body yields is an old coroutine
abbrev pub closure_kind : Bool → Bool → ClosureKind
closure_kind false is_static = closure.Closure
closure_kind true is_static = closure.OldCoroutine (movability is_static)

abbrev pub capture_by : Bool → CaptureBy
capture_by true = capture.Value
capture_by false = capture.Ref

abbrev pub stored_closure : Bool → Bool → ClosureParams → Option TypeRefId → ExprId → Bool → HirExpr
stored_closure moves is_static l t e yields = hir.Closure l.args l.arg_types t e (closure_kind yields is_static) (capture_by moves)

-- The parameters, what it returns, its body. No jump in it reaches what is open around it.
unfoldable pub closure_form : Pointer → Bool → Bool → Lowering ClosureParams → Lowering (Option TypeRefId) → ExprSteps → ExprSteps
closure_form at moves is_static params ret body = do
  outside ← open_barrier
  l ← params
  t ← ret
  e ← body
  yields ← close_barrier outside
  alloc_expr (stored_closure moves is_static l t e yields) (Some at)

-- coroutine blocks

-- around the block that is its body
abbrev pub stored_coroutine : CoroutineKind → Bool → ExprId → HirExpr
stored_coroutine kind moves body = hir.Closure [] [] None body (closure.Coroutine kind source.Block) (capture_by moves)

-- the block of what is lowered, which comes from no node, and the coroutine around it
unfoldable pub coroutine_around_form : Pointer → CoroutineKind → Bool → Option BlockId → StoredContents → ExprSteps
coroutine_around_form at kind moves number r = do
  b ← alloc_expr (settled_block false None number (settled r.0 r.1)) None
  alloc_expr (stored_coroutine kind moves b) (Some at)

-- the same, of what is to be lowered
unfoldable pub coroutine_block_form : Pointer → CoroutineKind → Bool → Option BlockId → Lowering StoredContents → ExprSteps
coroutine_block_form at kind moves number contents = do
  enter_block number
  r ← contents
  coroutine_around_form at kind moves number r

-- No jump in it reaches what is open around it, and a `yield` in it is its own.
unfoldable pub coroutine_form : ExprSteps → ExprSteps
coroutine_form inner = do
  outside ← open_barrier
  id ← inner
  close_barrier outside
  pure id
