-- The forms that lowering makes up nodes for: the condition of a `while`, `for`, `?` and `try` (rust-analyzer, `collect_while_loop`,
-- `collect_for_loop`, `collect_try_operator` and `desugar_try_block`; Rust Reference, predicate and iterator loops, the question mark
-- operator).
use Rattle.std.specs.Prelude.{ℕ, Bool, false, true, if◌then◌else◌, [], ◌∷◌, Option, Some, None}
use Rattle.hir_binding.specs.declared.binding.BindingAnnotation.{BindingAnnotation}
use Rattle.hir_binding.specs.declared.binding.BindingAnnotation.TheVariants.{Mutable, Unannotated}
use Rattle.hir_store.specs.Pointers.{Pointer}
use Rattle.hir_store.specs.declared.hir.Expr.{Expr as HirExpr}
use Rattle.hir_store.specs.declared.hir.Expr.TheVariants as hir
use Rattle.hir_store.specs.declared.hir.LoopSource.TheVariants.{ForLoop}
use Rattle.hir_store.specs.declared.hir.MatchArm.{MatchArm}
use Rattle.hir_store.specs.declared.hir.Mutability.TheVariants.{Mut}
use Rattle.hir_store.specs.declared.hir.Rawness.TheVariants.{Ref}
use Rattle.hir_store.specs.declared.hir.Statement.{Statement}
use Rattle.hir_store.specs.declared.hir.Statement.TheVariants as statement
use Rattle.hir_store.specs.declared.name.Name.TheVariants.{Generated}
use Rattle.hir_store.specs.declared.pat.Binding.{Binding}
use Rattle.hir_store.specs.declared.pat.Pat.{Pat}
use Rattle.hir_store.specs.declared.pat.Pat.TheVariants as pat
use Rattle.hir_store.specs.declared.path.Path.{Path as HirPath}
use Rattle.hir_store.specs.declared.path.Path.TheVariants.{BarePath, LangItem}
use Rattle.hir_store.specs.declared.path.PathKind.TheVariants as kind
use Rattle.hir_store.specs.declared.ids.BlockId.{BlockId}
use Rattle.hir_store.specs.declared.ids.ExprId.{ExprId}
use Rattle.hir_store.specs.declared.ids.LabelId.{LabelId}
use Rattle.hir_store.specs.declared.ids.LangItemId.{LangItemId}
use Rattle.hir_store.specs.declared.ids.PatId.{PatId}
use Rattle.hir_store.specs.declared.ids.TypeRefId.{TypeRefId}
use Rattle.hir_env.specs.ResolvedTree.{ForItems, Label, QuestionItems}
use Rattle.hir_lower_scope.specs.ScopeRibs.{Try}
use Rattle.hir_lower_builder.specs.Lowering.{Lowering, ◌>>=◌, ◌>>◌, pure, alloc_expr, alloc_desugared, alloc_pat, alloc_binding, define}
use Rattle.hir_lower_builder.specs.Lowering.{made_number, open_label, open_try, try_target, close, enter_block}
use Rattle.hir_lower_builder.specs.Forms.{ExprSteps, StoredContents, root_hygiene, settled, settled_block}

-- names that are made up

abbrev pub made_path : ℕ → HirPath
made_path n = BarePath (record { kind = kind.Plain; segments = Generated n ∷ [] })

-- the name of this number, as a path
unfoldable pub made_path_form : Pointer → ℕ → ExprSteps
made_path_form at n = alloc_desugared (hir.Path (made_path n) root_hygiene) (Some at)

abbrev pub made_binding : BindingAnnotation → ℕ → Binding
made_binding mode n = record { name = Generated n; mode = mode; hygiene = root_hygiene; problems = None }

-- the name of this number, as a pattern that binds it
unfoldable pub made_bind_form : BindingAnnotation → ℕ → Lowering PatId
made_bind_form mode n = do
  i ← alloc_binding (made_binding mode n)
  p ← alloc_pat (pat.Bind i None) None
  define i p
  pure p

-- items

-- an item that is absent is missing
abbrev pub item_or_missing : Option LangItemId → HirExpr
item_or_missing None = hir.Missing
item_or_missing (Some i) = hir.Path (LangItem i) root_hygiene

abbrev pub made_call : ExprId → ExprId → HirExpr
made_call callee argument = hir.Call callee (argument ∷ [])

-- a call of the item with one argument
unfoldable pub item_call_form : Pointer → Option LangItemId → ExprId → ExprSteps
item_call_form at item argument = do
  f ← alloc_desugared (item_or_missing item) (Some at)
  alloc_desugared (made_call f argument) (Some at)

-- the pattern that an item fits which holds what this pattern fits
abbrev pub item_pat : LangItemId → PatId → Pat
item_pat item p = pat.TupleStruct (LangItem item) None (p ∷ [])

-- `?`

-- what makes of a residual the value of what it is for: a `try` without a written type has a way of its own
abbrev pub conversion : {A : Type 0} → QuestionItems → Option (Try A) → Option LangItemId
conversion items None = items.from_residual
conversion items (Some t) = if t.typed then items.from_residual else items.into_try_type

-- what leaves for the innermost `try`, or else returns
abbrev pub leaving_node : Option (Try LabelId) → ExprId → HirExpr
leaving_node None e = hir.Return (Some e)
leaving_node (Some t) e = hir.Break (Some t.place) (Some e)

-- an arm for the item, with what is done with what it holds
unfoldable pub flow_arm_form : LangItemId → (ℕ → ExprSteps) → Lowering MatchArm
flow_arm_form item body = do
  n ← made_number
  p ← made_bind_form Unannotated n
  q ← alloc_pat (item_pat item p) None
  e ← body n
  pure (record { pat = q; guard = None; expr = e })

-- the residual of this name is made a value, which leaves
unfoldable pub residual_form : Pointer → QuestionItems → ℕ → ExprSteps
residual_form at items n = do
  r ← made_path_form at n
  t ← try_target
  e ← item_call_form at (conversion items t) r
  alloc_desugared (leaving_node t e) (Some at)

-- `match branch(e) { Continue(g) => g, Break(h) => .. }`
unfoldable pub question_form : Pointer → QuestionItems → ExprSteps → ExprSteps
question_form at items operand = do
  e ← operand
  b ← item_call_form at (Some items.branch) e
  a ← flow_arm_form items.goes_on (made_path_form at)
  c ← flow_arm_form items.breaks (residual_form at items)
  alloc_expr (hir.Match b (a ∷ c ∷ [])) (Some at)

-- `try`

-- the value of a block without a tail
unfoldable pub value_or_unit : Pointer → Option ExprId → ExprSteps
value_or_unit at (Some e) = pure e
value_or_unit at None = alloc_desugared (hir.Tuple []) (Some at)

-- a call of the item with the value
unfoldable pub wrapped_form : Pointer → Option LangItemId → Option ExprId → ExprSteps
wrapped_form at item tail = do
  f ← alloc_desugared (item_or_missing item) (Some at)
  v ← value_or_unit at tail
  alloc_desugared (made_call f v) (Some at)

-- a block with a label of its own, whose value goes through the item
unfoldable pub try_block_form : Pointer → Option LangItemId → Bool → Option BlockId → Lowering StoredContents → ExprSteps
try_block_form at item typed number contents = do
  l ← open_try at typed
  enter_block number
  r ← contents
  close
  v ← wrapped_form at item (settled r.0 r.1).1
  alloc_expr (settled_block false (Some l) number ((settled r.0 r.1).0, Some v)) (Some at)

-- what binds a value of this type by the pattern
abbrev pub bound : PatId → TypeRefId → ExprId → Statement
bound p t value = statement.Let p (Some t) (Some value) None

-- a block that does so, and then is what stands behind it
abbrev pub bound_block : PatId → TypeRefId → ExprId → ExprId → HirExpr
bound_block p t value e = hir.Block false None None (bound p t value ∷ []) (Some e)

-- `{ let g: T = block; g }`
unfoldable pub typed_try_form : Pointer → ExprSteps → Lowering TypeRefId → ExprSteps
typed_try_form at block type_ref = do
  b ← block
  n ← made_number
  t ← type_ref
  p ← made_bind_form Unannotated n
  e ← made_path_form at n
  alloc_desugared (bound_block p t b e) (Some at)

-- `for`

-- an arm without a guard
abbrev pub arm_for : PatId → ExprId → MatchArm
arm_for p e = record { pat = p; guard = None; expr = e }

-- `&mut` of the name of this number
unfoldable pub made_reference_form : Pointer → ℕ → ExprSteps
made_reference_form at n = do
  e ← made_path_form at n
  alloc_desugared (hir.Ref Ref Mut e) (Some at)

-- a call of the item with such a reference
unfoldable pub next_form : Pointer → LangItemId → ℕ → ExprSteps
next_form at item n = do
  r ← made_reference_form at n
  item_call_form at (Some item) r

-- the arm for the item that holds nothing, which ends the loop
unfoldable pub done_arm_form : Pointer → LangItemId → Lowering MatchArm
done_arm_form at item = do
  p ← alloc_pat (pat.Path (LangItem item) root_hygiene) None
  e ← alloc_desugared (hir.Break None None) (Some at)
  pure (arm_for p e)

-- the arm for the item that holds what this pattern fits, with the body
unfoldable pub gives_arm_form : LangItemId → PatId → ExprSteps → Lowering MatchArm
gives_arm_form item p body = do
  q ← alloc_pat (item_pat item p) None
  e ← body
  pure (arm_for q e)

-- a block whose value this is, and which has nothing else in it
abbrev pub only_tail : ExprId → HirExpr
only_tail e = hir.Block false None None [] (Some e)

-- `{ match next(&mut g) { None => break, Some(p) => body } }`
unfoldable pub for_iteration_form : Pointer → ForItems → ℕ → PatId → ExprSteps → ExprSteps
for_iteration_form at items n p body = do
  c ← next_form at items.next n
  a ← done_arm_form at items.is_done
  b ← gives_arm_form items.gives p body
  e ← alloc_desugared (hir.Match c (a ∷ b ∷ [])) (Some at)
  alloc_desugared (only_tail e) (Some at)

-- a loop to which its node doesn't lead
unfoldable pub made_loop_form : Pointer → Option Label → ExprSteps → ExprSteps
made_loop_form at None body = do
  b ← body
  alloc_desugared (hir.Loop b None ForLoop) (Some at)
made_loop_form at (Some l) body = do
  id ← open_label l
  b ← body
  close
  alloc_desugared (hir.Loop b (Some id) ForLoop) (Some at)

-- `match into_iter(head) { mut g => label: loop { .. } }`, where what makes an iterator of the head comes from the head's node. Head and
-- pattern lie outside of the label.
unfoldable pub for_form : Pointer → Pointer → ForItems → Option Label → ExprSteps → Lowering PatId → ExprSteps → ExprSteps
for_form at head_at items label head pattern body = do
  h ← head
  i ← item_call_form head_at (Some items.into_iter) h
  p ← pattern
  n ← made_number
  q ← made_bind_form Mutable n
  l ← made_loop_form at label (for_iteration_form at items n p body)
  alloc_expr (hir.Match i (arm_for q l ∷ [])) (Some at)

-- a condition whose temporaries end

-- what binds a value by the pattern
abbrev pub held : PatId → ExprId → Statement
held p value = statement.Let p None (Some value) None

-- a block that does so, and then is what stands behind it
abbrev pub held_block : PatId → ExprId → ExprId → HirExpr
held_block p value e = hir.Block false None None (held p value ∷ []) (Some e)

-- `{ let g = value; g }`
unfoldable pub hold_form : Pointer → ExprId → ExprSteps
hold_form at value = do
  n ← made_number
  p ← made_bind_form Unannotated n
  e ← made_path_form at n
  alloc_desugared (held_block p value e) (Some at)

unfoldable pub held_form : Pointer → ExprSteps → ExprSteps
held_form at condition = do
  c ← condition
  hold_form at c

-- one that holds a `let` stands as it is
abbrev pub condition_form : Bool → Pointer → ExprSteps → ExprSteps
condition_form true at condition = condition
condition_form false at condition = held_form at condition
