-- How the answers are written into one level of a tree. The steps ask; nothing above them does.
use Rattle.std.specs.Prelude.{List, [], ◌∷◌, Bool, true, false, codes, Option, Some, None, is_some, Result, Ok, Err, option_map, map}
use Rattle.hir_base.specs.declared.op.UnaryOp.{UnaryOp}
use Rattle.hir_base.specs.declared.op.BinaryOp.{BinaryOp}
use Rattle.hir_base.specs.declared.op.BinaryOp.TheVariants as op
use Rattle.hir_syntax.specs.declared.ast.BlockModifier.{BlockModifier}
use Rattle.hir_syntax.specs.declared.ast.BlockModifier.TheVariants as modifier
use Rattle.hir_syntax.specs.declared.ast.Literal.{Literal}
use Rattle.hir_base.specs.declared.op.LiteralKind.TheVariants as literal
use Rattle.hir_store.specs.declared.hir.CoroutineKind.{CoroutineKind}
use Rattle.hir_store.specs.declared.hir.CoroutineKind.TheVariants as coroutine
use Rattle.hir_store.specs.declared.hir.Rawness.{Rawness}
use Rattle.hir_store.specs.declared.hir.Rawness.TheVariants as raw
use Rattle.hir_base.specs.declared.node.NodeId.{NodeId}
use Rattle.hir_base.specs.declared.node.AstPtr.{AstPtr}
use Rattle.hir_syntax.specs.declared.ast.Name.{Name as AstName}
use Rattle.hir_syntax.specs.declared.ast.Label.{Label as AstLabel}
use Rattle.hir_syntax.specs.declared.ast.Lifetime.{Lifetime as AstLifetime}
use Rattle.hir_syntax.specs.declared.ast.ElseBranch.TheOpen.{ElseBranch-F, ExprKind-F, StmtKind-F}
use Rattle.hir_store.specs.Pointers.{Pointer}
use Rattle.hir_store.specs.declared.ids.CfgId.{CfgId}
use Rattle.hir_store.specs.declared.ids.HygieneId.{HygieneId}
use Rattle.hir_store.specs.declared.ids.BlockId.{BlockId}
use Rattle.hir_store.specs.declared.ids.LangItemId.{LangItemId}
use Rattle.hir_store.specs.declared.ids.ModuleId.{ModuleId}
use Rattle.hir_store.specs.declared.name.Name.{Name}
use Rattle.hir_store.specs.Names.{IsWritten}
use Rattle.hir_store.specs.declared.name.Name.TheVariants as name
use Rattle.hir_env.specs.declared.ctx.LowerCtx.{LowerCtx}
use Rattle.hir_env.specs.declared.ctx.LoweringMode.{LoweringMode}
use Rattle.hir_env.specs.declared.ctx.LoweringMode.TheVariants as mode
use Rattle.hir_env.specs.declared.lang.LangItems.{LangItems}
use Rattle.hir_env.specs.Answers.{Answers}
pub use Rattle.hir_env.specs.ResolveCtx.{in_file, ptr, site_of}
pub use Rattle.hir_env.specs.Paths.{mutability, expr_or_none, constant_step, generic_arg_list_step}
use Rattle.hir_env.specs.Paths.{inside_closure, inside_const_block, inside_coroutine, path_or_none, type_or_none, pat_or_none}
use Rattle.hir_env.specs.Paths.{arg_list_or_none}
use Rattle.hir_env.specs.Paths.{answer_or_none, closure_params_or_none, ret_type_step}
use Rattle.hir_env.specs.Ranges.{range_form}
use Rattle.hir_env.specs.Targets.{resolves, target_of}
use Rattle.hir_env.specs.Layers.{BlockReading, StmtReading, RecordReading, Sorts, Reader, ElseBranchLayer, ExprKindLayer}
use Rattle.hir_env.specs.Layers.{Defined, ExprReading, KindReading, MacroCallLayer, Spliced}
use Rattle.hir_env.specs.Calls.{lacking_call, append, entered_expr, entered_splice, nothing, splice_of, times, value_or_none}
use Rattle.hir_store.specs.declared.ids.MacroDefId.{MacroDefId}
use Rattle.hir_env.specs.Layers.{StmtKindLayer, BlockExprLayer, ExprLayer, RecordExprFieldLayer}
use Rattle.hir_env.specs.Layers.{RecordExprFieldListLayer, StmtLayer, MatchArmLayer}
use Rattle.hir_env.specs.ResolvedTree as tree
use Rattle.hir_env.specs.ResolvedTree.{Label, Jump, Path, Expr, OptionExpr, Exprs, RecordHead, Fields, Field, Spread, Block, OptionBlock}
use Rattle.hir_env.specs.ResolvedTree.{Stmts, Stmt, Constant, Arms, Arm, Guard, IsWrittenLabel, OptionPat}
use Rattle.hir_env.specs.ResolvedTree.{ForItems, OptionType, Params, QuestionItems}

-- names and labels

abbrev pub label_name : Option AstLifetime → Name
label_name None = name.Missing
label_name (Some l) = name.Text l.t

abbrev pub label_of : Answers → LowerCtx → AstLabel → Label
label_of env p l =
    let s = in_file p (ptr l.id l.range) in
    record { pointer = s; name = label_name l.lifetime; hygiene = env.hygiene (site_of s) }

abbrev pub label_name_written : (l : Option AstLifetime) → IsWritten (label_name l)
label_name_written None = tt
label_name_written (Some l) = tt

abbrev pub label_written : (env : Answers) (p : LowerCtx) (l : Option AstLabel) → IsWrittenLabel (option_map (label_of env p) l)
label_written env p None = tt
label_written env p (Some l) = label_name_written l.lifetime

-- a jump to this name, with what is answered about contexts
abbrev pub jump : Answers → Pointer → Name → HygieneId → Jump
jump env s n h = record { pointer = s; name = n; hygiene = h; contexts = env.contexts }

abbrev pub jump_of : Answers → LowerCtx → AstLifetime → Jump
jump_of env p l = let s = in_file p (ptr l.id l.range) in jump env s (name.Text l.t) (env.hygiene (site_of s))

-- the name that a form has, which is missing where it is absent
abbrev pub name_or_missing : Option AstName → Name
name_or_missing None = name.Missing
name_or_missing (Some n) = name.Text n.t

abbrev pub name_written : (n : Option AstName) → IsWritten (name_or_missing n)
name_written None = tt
name_written (Some n) = tt

abbrev pub names_of : List AstName → List Name
names_of ns = map (λ n. name.Text n.t) ns

-- operators

-- `&&`, `||` and `=` have a meaning of their own; the assignee expression depends on which paths are no places
abbrev pub bin_expr : (Path → Bool) → Pointer → Option BinaryOp → OptionExpr → OptionExpr → Expr
bin_expr is_found s (Some (op.LogicOp o)) a b = tree.lazy_expr s o a b
bin_expr is_found s (Some op.Assign) a b = tree.assign_expr s a (target_of is_found a) b
bin_expr is_found s o a b = tree.binary_expr s (tree.operator o) a b

abbrev pub prefix_expr : Pointer → Option UnaryOp → OptionExpr → Expr
prefix_expr s None e = tree.nameless_expr s e
prefix_expr s (Some o) e = tree.unary_expr s (tree.prefix_of o) e

abbrev pub rawness : Bool → Rawness
rawness true = raw.RawPtr
rawness false = raw.Ref

-- a predicate is true unless it is known not to be
abbrev pub truth : Option Bool → Literal
truth (Some false) = record { lit = literal.Bool; t = codes "false"; suffix = None }
truth _ = record { lit = literal.Bool; t = codes "true"; suffix = None }

-- `?`

abbrev pub items_if : Option LangItemId → Option LangItemId → Option LangItemId → LangItems → Option QuestionItems
items_if (Some branch) (Some goes_on) (Some breaks) items = Some (record {
  branch = branch;
  goes_on = goes_on;
  breaks = breaks;
  into_try_type = items.residual_into_try_type;
  from_residual = items.try_trait_from_residual;
})
items_if _ _ _ items = None

-- where all that it can't do without is there
abbrev pub question_items : LangItems → Option QuestionItems
question_items items = items_if items.try_trait_branch items.control_flow_continue items.control_flow_break items

abbrev pub question_of : Option QuestionItems → Pointer → OptionExpr → Expr
question_of None s e = tree.itemless_expr s
question_of (Some items) s e = tree.question_expr s items e

-- `for`

abbrev pub for_items_if : Option LangItemId → Option LangItemId → Option LangItemId → Option LangItemId → Option ForItems
for_items_if (Some into_iter) (Some next) (Some gives) (Some is_done) =
    Some (record { into_iter = into_iter; next = next; gives = gives; is_done = is_done })
for_items_if _ _ _ _ = None

-- where all four are there
abbrev pub for_items : LangItems → Option ForItems
for_items items = for_items_if items.into_iter_into_iter items.iterator_next items.option_some items.option_none

abbrev pub for_of : Option ForItems → Pointer → (label : Option Label) → IsWrittenLabel label → OptionPat → OptionExpr → OptionExpr → Expr
for_of None s label w p h b = tree.itemless_expr s
for_of (Some items) s label w p h b = tree.for_expr s items label w p h b

-- closures and functions

-- what `async` and `gen` make of a body
abbrev pub coroutine_kind : Bool → Bool → Option CoroutineKind
coroutine_kind false false = None
coroutine_kind true false = Some coroutine.Async
coroutine_kind false true = Some coroutine.Gen
coroutine_kind true true = Some coroutine.AsyncGen

abbrev pub closure_of : Option CoroutineKind → Pointer → Bool → Bool → Params → OptionType → OptionExpr → Expr
closure_of None s moves is_static ps r e = tree.closure_expr s moves is_static ps r e
closure_of (Some kind) s moves is_static ps r e = tree.coroutine_closure_expr s kind moves ps r e

-- blocks

-- whether a block is unsafe, and its label
pub record BlockHead : Type 0 where
  pub is_unsafe : Bool
  pub label : Option Label
  pub written : IsWrittenLabel label

abbrev pub labelled_head : (label : Option Label) → IsWrittenLabel label → BlockHead
labelled_head label w = record { is_unsafe = false; label = label; written = w }

abbrev pub plain_head : BlockHead
plain_head = labelled_head None tt

abbrev pub unsafe_head : BlockHead
unsafe_head = record { is_unsafe = true; label = None; written = tt }

-- what is in a block, with the block's number
pub record Held : Type 0 where
  pub number : Option BlockId
  pub stmts : Stmts
  pub last : OptionExpr

abbrev pub block_holding : Pointer → BlockHead → Held → Block
block_holding s head held = tree.block s head.is_unsafe head.label head.written held.number held.stmts held.last

abbrev pub try_holding : Pointer → Option LangItemId → OptionType → Held → Expr
try_holding s item t held = tree.try_expr s item t held.number held.stmts held.last

abbrev pub coroutine_holding : Pointer → CoroutineKind → Bool → Held → Expr
coroutine_holding s kind moves held = tree.coroutine_expr s kind moves held.number held.stmts held.last

-- a `const` block around this one
abbrev pub const_of : Pointer → Block → Expr
const_of s b = tree.const_expr s (tree.constant (tree.some_expr (tree.block_expr b)))

-- the number and the module of a block, where numbers are asked for
abbrev pub numbered : Answers → LowerCtx → NodeId → Option (BlockId × ModuleId)
numbered env p id = by p.mode
  where
    by : LoweringMode → Option (BlockId × ModuleId)
    by mode.Analysis = env.block (record { file_id = p.file_id; value = id }) p.module_id
    by mode.Untracked = None

abbrev pub module_or : Option (BlockId × ModuleId) → ModuleId → ModuleId
module_or None m = m
module_or (Some n) m = n.1

abbrev pub inside : Option (BlockId × ModuleId) → LowerCtx → LowerCtx
inside number p = record p { module_id = module_or number p.module_id }

-- parts that may be absent, and lists

abbrev pub plain_or_none : {A : Type 0} → (A → BlockReading) → Option A → LowerCtx → OptionBlock
plain_or_none read None p = tree.no_block
plain_or_none read (Some b) p = tree.some_block ((read b).plain p)

-- a block that is read as an expression, with the condition that disables it
abbrev pub asked_or_none : {A : Type 0} → (A → BlockReading) → Option A → LowerCtx → OptionExpr
asked_or_none read None p = tree.no_expr
asked_or_none read (Some b) p = tree.some_expr ((read b).asked p)

abbrev pub exprs_of : {A : Type 0} → (A → LowerCtx → Expr) → List A → LowerCtx → Exprs
exprs_of read [] p = tree.no_exprs
exprs_of read (e ∷ es) p = tree.more_exprs (read e p) (exprs_of read es p)

abbrev pub exprs_or_none : {A : Type 0} → (A → LowerCtx → Expr) → Option (List A) → LowerCtx → Exprs
exprs_or_none read None p = tree.no_exprs
exprs_or_none read (Some es) p = exprs_of read es p

abbrev pub fields_of : {A : Type 0} → (A → LowerCtx → Field) → List A → LowerCtx → Fields
fields_of read [] p = tree.no_fields
fields_of read (x ∷ xs) p = tree.more_fields (read x p) (fields_of read xs p)

-- an expression behind two dots, or two dots alone
abbrev pub spread_or_none : {A : Type 0} → (A → LowerCtx → Expr) → Option A → Bool → LowerCtx → Spread
spread_or_none read (Some e) dots p = tree.spread_of (read e p)
spread_or_none read None true p = tree.field_defaults
spread_or_none read None false p = tree.no_spread

abbrev pub no_list : RecordHead
no_list = record { has_list = false; has_dots = false }

abbrev pub list_with : Bool → RecordHead
list_with dots = record { has_list = true; has_dots = dots }

abbrev pub record_or_empty : {A : Type 0} → (A → LowerCtx → RecordReading) → Option A → LowerCtx → RecordReading
record_or_empty read None p = record { head = no_list; fields = tree.no_fields; spread = tree.no_spread }
record_or_empty read (Some x) p = read x p

abbrev pub arms_of : {A : Type 0} → (A → LowerCtx → Arm) → List A → LowerCtx → Arms
arms_of read [] p = tree.no_arms
arms_of read (x ∷ xs) p = tree.more_arms (read x p) (arms_of read xs p)

abbrev pub arms_or_none : {A : Type 0} → (A → LowerCtx → Arm) → Option (List A) → LowerCtx → Arms
arms_or_none read None p = tree.no_arms
arms_or_none read (Some xs) p = arms_of read xs p

abbrev pub guard_or_none : {A : Type 0} → (A → LowerCtx → OptionExpr) → Option A → LowerCtx → Guard
guard_or_none read None p = tree.no_guard
guard_or_none read (Some x) p = tree.guard (read x p)

-- the block behind the `else` of a `let`
abbrev pub let_else_or_none : {A : Type 0} → (A → LowerCtx → OptionBlock) → Option A → LowerCtx → OptionBlock
let_else_or_none read None p = tree.no_block
let_else_or_none read (Some x) p = read x p

-- what is in a block: its statements, and its written tail, which is read where the last of them leaves off
abbrev pub Contents : Type 0
Contents = Stmts × OptionExpr

abbrev pub contents_of : {A B : Type 0} → (A → LowerCtx → Defined → StmtReading) → (B → LowerCtx → Defined → Spliced) → List A → Option B
    → LowerCtx → Contents
contents_of stmt value ss e p = let c = splice_of stmt value ss e p [] in (c.stmts, c.last)

-- the expression by itself
abbrev pub whole_value : Expr → Defined → Spliced
whole_value e d = record { stmts = tree.no_stmts; last = tree.some_expr e; defined = d }

abbrev pub alone : Stmt → Defined → StmtReading
alone s d = record { stmts = tree.more_stmts s tree.no_stmts; defined = d }

-- an expression statement
abbrev pub ended : Bool → Spliced → StmtReading
ended semi r = record { stmts = append r.stmts (tree.more_stmts (tree.expr_stmt r.last semi) tree.no_stmts); defined = r.defined }

-- one that a condition disables stands for nothing
abbrev pub asked_splice : Pointer → Result (Unit {0}) CfgId → Spliced → Defined → Spliced
asked_splice s (Ok _) r d = r
asked_splice s (Err by) r d =
    record { stmts = tree.more_stmts (tree.disabled_stmt s by tree.item_stmt) tree.no_stmts; last = tree.no_expr; defined = d }

abbrev pub def_named : Answers → LowerCtx → Option AstName → Option MacroDefId
def_named env p None = None
def_named env p (Some n) = env.macro_def p.module_id (name.Text n.t)

-- one without a name isn't counted
abbrev pub rules_named : Answers → LowerCtx → Option AstName → Defined → StmtReading
rules_named env p None d = alone (tree.macro_stmt 0 None) d
rules_named env p (Some n) d =
    let k = times (name.Text n.t) d in
    alone (tree.macro_stmt k (env.legacy_macro p.module_id (name.Text n.t) k)) (name.Text n.t ∷ d)

abbrev pub asked_rules : Pointer → Result (Unit {0}) CfgId → StmtReading → Defined → StmtReading
asked_rules s (Ok _) r d = r
asked_rules s (Err by) r d = alone (tree.disabled_stmt s by tree.item_stmt) d

-- one level

-- the expression, with the condition that disables it
abbrev pub asked : Pointer → Result (Unit {0}) CfgId → Expr → Expr
asked s (Ok _) e = e
asked s (Err by) e = tree.disabled_expr (record { entered = []; condition = Some (s, by) }) e

-- the field, with the condition that disables it
abbrev pub asked_field : Pointer → Result (Unit {0}) CfgId → Field → Field
asked_field s (Ok _) f = f
asked_field s (Err by) f = tree.disabled_field s by f

-- the arm, with the condition that disables it
abbrev pub asked_arm : Pointer → Result (Unit {0}) CfgId → Arm → Arm
asked_arm s (Ok _) a = a
asked_arm s (Err by) a = tree.disabled_arm s by a

-- the statement, with the condition that disables it
abbrev pub asked_stmt : Pointer → Result (Unit {0}) CfgId → Stmt → Stmt
asked_stmt s (Ok _) st = st
asked_stmt s (Err by) st = tree.disabled_stmt s by st

abbrev pub field_of : Pointer → Option AstName → OptionExpr → Field
field_of s None e = tree.nameless_field s e
field_of s (Some n) e = tree.named_field s (name.Text n.t) e

module _ (env : Answers) {S : Sorts} (part : Reader S) where
  abbrev pub else_branch : ElseBranchLayer S → LowerCtx → Expr
  else_branch (ElseBranch-F.ElseBlock b) p = tree.block_expr ((part.block_expr b).plain p)
  else_branch (ElseBranch-F.ElseIf e) p = part.expr e p

  abbrev pub expr_at : ExprKindLayer S → LowerCtx → Pointer → Expr
  expr_at (ExprKind-F.IfExpr c t e) p s =
      tree.if_expr s (expr_or_none part.expr c p) (plain_or_none part.block_expr t p) (expr_or_none part.else_branch e p)
  expr_at (ExprKind-F.BlockExpr b) p s = (part.block_expr b).own p
  expr_at (ExprKind-F.LoopExpr l b) p s =
      tree.loop_expr s (option_map (label_of env p) l) (label_written env p l) (plain_or_none part.block_expr b p)
  expr_at (ExprKind-F.WhileExpr l c b) p s =
      tree.while_expr s (option_map (label_of env p) l) (label_written env p l) (expr_or_none part.expr c p)
      (plain_or_none part.block_expr b p)
  expr_at (ExprKind-F.ForExpr l x h b) p s =
      for_of (for_items env.lang_items) s (option_map (label_of env p) l) (label_written env p l) (pat_or_none part.pat x p)
      (expr_or_none part.expr h p) (asked_or_none part.block_expr b p)
  expr_at (ExprKind-F.TryExpr e) p s = question_of (question_items env.lang_items) s (expr_or_none part.expr e p)
  expr_at (ExprKind-F.CallExpr f es) p s = tree.call_expr s (expr_or_none part.expr f p) (is_some es) (exprs_or_none part.expr es p)
  expr_at (ExprKind-F.PathExpr x) p s = tree.path_expr s (path_or_none part.path x p) (env.hygiene (site_of s))
  expr_at (ExprKind-F.ContinueExpr l) p s = tree.continue_expr s (option_map (jump_of env p) l)
  expr_at (ExprKind-F.BreakExpr l e) p s = tree.break_expr s (option_map (jump_of env p) l) (expr_or_none part.expr e p)
  expr_at (ExprKind-F.ParenExpr e) p s = tree.paren_expr s (expr_or_none part.expr e p)
  expr_at (ExprKind-F.Literal l) p s = tree.literal_expr s l
  expr_at (ExprKind-F.MethodCallExpr e n as' es) p s =
      tree.method_call_expr s (expr_or_none part.expr e p) (name_or_missing n) (exprs_or_none part.expr es p)
      (arg_list_or_none (generic_arg_list_step env part) as' p)
  expr_at (ExprKind-F.FieldExpr e n) p s = tree.unary_expr s (tree.field_of (name_or_missing n)) (expr_or_none part.expr e p)
  expr_at (ExprKind-F.PrefixExpr o e) p s = prefix_expr s o (expr_or_none part.expr e p)
  expr_at (ExprKind-F.BinExpr o a b) p s = bin_expr (resolves env p) s o (expr_or_none part.expr a p) (expr_or_none part.expr b p)
  expr_at (ExprKind-F.IndexExpr a b) p s = tree.binary_expr s tree.index_of (expr_or_none part.expr a p) (expr_or_none part.expr b p)
  expr_at (ExprKind-F.RefExpr r m e) p s = tree.unary_expr s (tree.reference_to (rawness r) (mutability m)) (expr_or_none part.expr e p)
  expr_at (ExprKind-F.TupleExpr comma es) p s = tree.list_expr s (tree.tuple_of comma) (exprs_of part.expr es p)
  expr_at (ExprKind-F.ArrayExpr es) p s = tree.list_expr s tree.array_of (exprs_of part.expr es p)
  expr_at (ExprKind-F.RepeatExpr e n) p s = tree.repeat_expr s (expr_or_none part.expr e p) (constant_step env part n p)
  -- the parameters and what it returns are read outside of it
  expr_at (ExprKind-F.ClosureExpr ps r e is_async is_gen moves is_static) p s =
      closure_of (coroutine_kind is_async is_gen) s moves is_static (closure_params_or_none part.param ps p)
      (answer_or_none (ret_type_step env part) r p) (expr_or_none part.expr e (inside_closure is_async p))
  expr_at (ExprKind-F.ReturnExpr e) p s = tree.leaving_expr s tree.returning (expr_or_none part.expr e p)
  expr_at (ExprKind-F.BecomeExpr e) p s = tree.become_expr s (expr_or_none part.expr e p)
  expr_at (ExprKind-F.YieldExpr e) p s = tree.yield_expr s (expr_or_none part.expr e p)
  expr_at (ExprKind-F.YeetExpr e) p s = tree.leaving_expr s tree.yeeting (expr_or_none part.expr e p)
  expr_at (ExprKind-F.AwaitExpr e) p s = tree.await_expr s p.await_location (expr_or_none part.expr e p)
  expr_at (ExprKind-F.CastExpr e t) p s = tree.cast_expr s (expr_or_none part.expr e p) (type_or_none part.type_ t p)
  expr_at (ExprKind-F.RecordExpr x l) p s = let r = record_or_empty part.field_list l p in
      tree.record_expr s (path_or_none part.path x p) r.head r.fields r.spread
  expr_at (ExprKind-F.OffsetOfExpr t ns) p s = tree.offset_of_expr s (type_or_none part.type_ t p) (names_of ns)
  expr_at (ExprKind-F.CfgPredExpr pred) p s = tree.literal_expr s (truth (env.cfg_pred pred))
  expr_at (ExprKind-F.LetExpr x e) p s = tree.let_expr s (pat_or_none part.pat x p) (expr_or_none part.expr e p)
  expr_at (ExprKind-F.MatchExpr e as') p s = tree.match_expr s (expr_or_none part.expr e p) (arms_or_none part.arm as' p)
  expr_at (ExprKind-F.RangeExpr o a b) p s =
      tree.range_expr s (range_form env.lang_items (env.new_range p.module_id) o (is_some a) (is_some b))
      (expr_or_none part.expr a p) (expr_or_none part.expr b p)
  expr_at (ExprKind-F.MacroExpr None) p s = lacking_call s
  expr_at (ExprKind-F.MacroExpr (Some c)) p s = entered_expr env part.into (part.macro_call c) p s
  expr_at ExprKind-F.UnderscoreExpr p s = tree.leaf_expr s tree.underscore
  expr_at ExprKind-F.IncludeBytesExpr p s = tree.leaf_expr s tree.include_bytes
  expr_at ExprKind-F.AsmExpr p s = tree.leaf_expr s tree.left_out
  expr_at ExprKind-F.FormatArgsExpr p s = tree.leaf_expr s tree.left_out

  abbrev pub expr_kind : ExprKindLayer S → AstPtr → LowerCtx → Expr
  expr_kind k n p = let s = in_file p n in asked s (env.cfg (site_of s)) (expr_at k p s)

  abbrev pub value_kind : ExprKindLayer S → AstPtr → LowerCtx → Defined → Spliced
  value_kind (ExprKind-F.MacroExpr None) n p d = let s = in_file p n in asked_splice s (env.cfg (site_of s)) (nothing d) d
  value_kind (ExprKind-F.MacroExpr (Some c)) n p d = let s = in_file p n in
      asked_splice s (env.cfg (site_of s)) (entered_splice env part.into (part.macro_call c) p s d) d
  value_kind k n p d = whole_value (expr_kind k n p) d

  abbrev pub kind_step : ExprKindLayer S → KindReading
  kind_step k = record { expr = expr_kind k; value = value_kind k }

  abbrev pub expr_step : ExprLayer S → ExprReading
  expr_step e = record { expr = part.expr_kind e.kind (ptr e.id e.range); value = part.value_kind e.kind (ptr e.id e.range) }

  abbrev pub call_step : MacroCallLayer S → Unit {0}
  call_step c = tt

  abbrev pub field_at : RecordExprFieldLayer S → LowerCtx → Pointer → Field
  field_at x p s = asked_field s (env.cfg (site_of s)) (field_of s x.name (expr_or_none part.expr x.expr p))

  abbrev pub field_step : RecordExprFieldLayer S → LowerCtx → Field
  field_step x p = field_at x p (in_file p (ptr x.id x.range))

  abbrev pub record_step : RecordExprFieldListLayer S → LowerCtx → RecordReading
  record_step x p = record {
    head = list_with x.dotdot;
    fields = fields_of part.field x.fields p;
    spread = spread_or_none part.expr x.spread x.dotdot p;
  }

  abbrev pub guard_step : Option S.Expr → LowerCtx → OptionExpr
  guard_step x p = expr_or_none part.expr x p

  abbrev pub arm_at : MatchArmLayer S → LowerCtx → Pointer → Arm
  arm_at x p s = asked_arm s (env.cfg (site_of s))
      (tree.arm (pat_or_none part.pat x.pat p) (expr_or_none part.expr x.expr p) (guard_or_none guard_step x.guard p))

  abbrev pub arm_step : MatchArmLayer S → LowerCtx → Arm
  arm_step x p = arm_at x p (in_file p (ptr x.id x.range))

  -- the only reading of what is in a block, of whatever sort that is, at the place where the block is read
  abbrev pub held_at : BlockExprLayer S → LowerCtx → Held
  held_at b p =
      let number = numbered env p b.id in
      let c = contents_of part.stmt part.value b.stmts b.tail (inside number p) in
      record { number = option_map (λ n. n.0) number; stmts = c.0; last = c.1 }

  abbrev pub block_at : BlockExprLayer S → BlockHead → LowerCtx → Block
  block_at b head p = block_holding (in_file p (ptr b.id b.range)) head (held_at b p)

  abbrev pub try_at : BlockExprLayer S → LowerCtx → Expr
  try_at b p =
      try_holding (in_file p (ptr b.id b.range)) env.lang_items.try_trait_from_output (type_or_none part.type_ b.ty p) (held_at b p)

  -- a coroutine block, at the place inside of it
  abbrev pub coroutine_at : CoroutineKind → BlockExprLayer S → LowerCtx → Expr
  coroutine_at kind b p = coroutine_holding (in_file p (ptr b.id b.range)) kind b.move_ (held_at b p)

  -- A label counts only where no modifier stands, and a type only behind `try`. What is in a `const` block is a plain block.
  abbrev pub own_block : Option BlockModifier → BlockExprLayer S → LowerCtx → Expr
  own_block None b p = tree.block_expr (block_at b (labelled_head (option_map (label_of env p) b.label) (label_written env p b.label)) p)
  own_block (Some modifier.Unsafe) b p = tree.block_expr (block_at b unsafe_head p)
  own_block (Some modifier.Try) b p = try_at b p
  own_block (Some modifier.Const) b p = const_of (in_file p (ptr b.id b.range)) (block_at b plain_head (inside_const_block p))
  own_block (Some modifier.Async) b p = coroutine_at coroutine.Async b (inside_coroutine coroutine.Async p)
  own_block (Some modifier.Gen) b p = coroutine_at coroutine.Gen b (inside_coroutine coroutine.Gen p)
  own_block (Some modifier.AsyncGen) b p = coroutine_at coroutine.AsyncGen b (inside_coroutine coroutine.AsyncGen p)

  abbrev pub block_step : BlockExprLayer S → BlockReading
  block_step b = record {
    plain = λ p. block_at b plain_head p;
    own = λ p. own_block b.mod_ b p;
    asked = λ p. let s = in_file p (ptr b.id b.range) in asked s (env.cfg (site_of s)) (own_block b.mod_ b p);
  }

  abbrev pub let_else_step : Option S.BlockExpr → LowerCtx → OptionBlock
  let_else_step x p = plain_or_none part.block_expr x p

  -- what it stands for
  abbrev pub stmt_at : StmtKindLayer S → LowerCtx → Pointer → Defined → StmtReading
  stmt_at (StmtKind-F.LetStmt x t e b) p s d = alone (asked_stmt s (env.cfg (site_of s))
      (tree.let_stmt (pat_or_none part.pat x p) (type_or_none part.type_ t p) (expr_or_none part.expr e p)
      (let_else_or_none let_else_step b p))) d
  stmt_at (StmtKind-F.ExprStmt e semi) p s d = ended semi (value_or_none part.stmt part.value e p d)
  stmt_at (StmtKind-F.MacroRules x) p s d = asked_rules s (env.cfg (site_of s)) (rules_named env p x d) d
  stmt_at (StmtKind-F.MacroDef x) p s d = alone (asked_stmt s (env.cfg (site_of s)) (tree.macro_stmt 0 (def_named env p x))) d
  stmt_at StmtKind-F.Item p s d = alone tree.item_stmt d

  abbrev pub stmt_kind : StmtKindLayer S → AstPtr → LowerCtx → Defined → StmtReading
  stmt_kind k n p d = stmt_at k p (in_file p n) d

  abbrev pub stmt_step : StmtLayer S → LowerCtx → Defined → StmtReading
  stmt_step s = part.stmt_kind s.kind (ptr s.id s.range)
