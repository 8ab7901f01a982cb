-- The parts of a level are smaller than the whole, as they are answered.
use Rattle.std.proofs.Common.{arith, ◌≡◌, ◌∙◌, ap, refl, ℕ, suc, ◌+◌, ◌<◌, ◌≤◌}
use Rattle.std.proofs.Common.{Bool, Option, Some, None, List, [], ◌∷◌}
use Rattle.std.specs.Prelude.{Result, Ok, Err}
use Rattle.hir_syntax.specs.declared.ast.ElseBranch.TheOpen.{ElseBranch-F, ExprKind-F}
use Rattle.hir_syntax.specs.declared.ast.ElseBranch.{ElseBranch as AstElseBranch, out-ElseBranch}
use Rattle.hir_syntax.specs.declared.ast.Expr.{Expr as AstExpr}
use Rattle.hir_syntax.specs.declared.macros.MacroCall.{MacroCall as AstMacroCall}
use Rattle.hir_syntax.specs.declared.branches.MatchArm.{MatchArm as AstMatchArm, out-MatchArm}
use Rattle.hir_syntax.specs.declared.pats.Pat.{Pat as AstPat}
use Rattle.hir_syntax.specs.declared.ast.BlockExpr.{BlockExpr as AstBlockExpr, out-BlockExpr}
use Rattle.hir_syntax.specs.declared.ast.BlockModifier.{BlockModifier}
use Rattle.hir_syntax.specs.declared.ast.BlockModifier.TheVariants as modifier
use Rattle.hir_syntax.specs.declared.ast.Path.{Path as AstPath}
use Rattle.hir_syntax.specs.declared.ast.Name.{Name as AstName}
use Rattle.hir_syntax.specs.declared.ast.RecordExprField.{RecordExprField as AstField, out-RecordExprField}
use Rattle.hir_syntax.specs.declared.ast.RecordExprFieldList.{RecordExprFieldList as AstFieldList, out-RecordExprFieldList}
use Rattle.hir_syntax.specs.declared.types.Param.{Param as AstParam, out-Param}
use Rattle.hir_syntax.specs.declared.types.Type_.{Type_ as AstType_}
use Rattle.hir_base.specs.declared.op.BinaryOp.{BinaryOp}
use Rattle.hir_base.specs.declared.op.BinaryOp.TheVariants as operator
use Rattle.hir_base.specs.declared.node.AstPtr.{AstPtr}
use Rattle.hir_base.specs.declared.node.NodeId.{NodeId}
use Rattle.hir_store.specs.Pointers.{Pointer}
use Rattle.hir_store.specs.declared.hir.CoroutineKind.{CoroutineKind}
use Rattle.hir_store.specs.declared.hir.CoroutineKind.TheVariants as coroutine
use Rattle.hir_store.specs.declared.ids.CfgId.{CfgId}
use Rattle.hir_store.specs.declared.ids.BlockId.{BlockId}
use Rattle.hir_store.specs.declared.ids.ModuleId.{ModuleId}
use Rattle.hir_env.specs.declared.ctx.LoweringMode.{LoweringMode}
use Rattle.hir_env.specs.declared.ctx.LoweringMode.TheVariants as mode
use Rattle.hir_env.specs.declared.ctx.LowerCtx.{LowerCtx}
use Rattle.hir_env.specs.Answers.{Answers}
use Rattle.hir_env.specs.ResolveCtx.{ResolveCtx}
use Rattle.hir_env.specs.Answering.{asked, asked_arm, asked_field, bin_expr, closure_of, coroutine_kind, expr_at, field_of}
use Rattle.hir_env.specs.Answering.{in_file, inside, numbered, plain_head, ptr, site_of}
use Rattle.hir_env.specs.Calls.{around, entered_expr}
use Rattle.hir_env.specs.ResolvedTree as tree
use Rattle.hir_env.specs.ResolvedTree.{Arm, Expr, Field, OptionExpr, OptionType, Param, Params, Path}
use Rattle.hir_env.specs.Paths.{asked_param, inside_closure, inside_const_block, inside_constant, inside_coroutine}
use Rattle.hir_env.specs.Targets.{resolves}
use Rattle.hir_env.specs.Layers.{ElseBranchLayer, Entering, ExprKindLayer}
use Rattle.hir_env.specs.Count.{count_path, count_option_path, count_type, count_option_type, count_args, count_option_args}
use Rattle.hir_env.specs.Count.{count_expr, count_option_expr, count_exprs, count_fields, count_field, count_spread}
use Rattle.hir_env.specs.Count.{count_block, count_option_block, count_arm, count_arms, count_guard}
use Rattle.hir_env.specs.Count.{count_option_pat, count_param, count_params}
use Rattle.hir_env.specs.Wrapped.{AstGenericArgList, AstGuard, AstRetType}
use Rattle.hir_env.specs.Whole.{entering}
use Rattle.hir_env.specs.Whole.{written, reader, resolved_expr, resolved_path, resolved_plain, resolved_block, pointer_at, else_level}
use Rattle.hir_env.specs.Whole.{resolved_type, resolved_arg_list, resolved_field, type_part, arg_list_part}
use Rattle.hir_env.specs.Whole.{fields_part, spread_part, record_part}
use Rattle.hir_env.specs.Whole.{path_part, expr_part, else_part, block_part, exprs_part, pat_part}
use Rattle.hir_env.specs.Whole.{resolved_arm, arms_part, arms_or_none_part, guard_part}
use Rattle.hir_env.specs.Whole.{resolved_body, block_level, body_level, body_part, in_closure, in_const_block, in_coroutine, own_level}
use Rattle.hir_env.specs.Whole.{try_level}
use Rattle.hir_env.proofs.Levels.{plain_is_level, block_is_level, body_is_level, else_is_level, field_is_level, record_is_level}
use Rattle.hir_env.specs.Whole.{answer_part, resolved_closure_param, closure_params_or_none_part, closure_params_part}
use Rattle.hir_env.proofs.Levels.{arm_is_level}
use Rattle.hir_env.proofs.PathLevels.{param_is_level}
use Rattle.hir_lower_builder.proofs.Inside.{call_more}
use Rattle.hir_lower_builder.proofs.Runs.{kids_run}
use Rattle.hir_lower_builder.specs.Inside.{InCall, InPatCall, InSplice, InTargetCall, InTypeCall, resolved_run, count_spliced, inside_call}
use Rattle.hir_lower_builder.specs.Nests.{Claims, IfPresent, Each, KidsElse, KidsExpr, KidsBlock, KidsField, KidsFields, KidsRecord}
use Rattle.hir_lower_builder.specs.Nests.{KidsArm, KidsArms, KidsBody, KidsClosureParam, KidsClosureParams, KidsGuard, KidsRet}
use Rattle.hir_lower_pat.specs.Nested.{InPat, InTarget}
use Rattle.hir_lower_callbacks.specs.ResolveCtxs.{with_all_items, rctx_at}

-- whatever the operator
pub count_binary : (is_found : Path → Bool) (at : Pointer) (o : Option BinaryOp) (a b : OptionExpr)
    → count_expr (bin_expr is_found at o a b) ≡ suc (count_option_expr a + count_option_expr b)
count_binary is_found at None a b = refl
count_binary is_found at (Some (operator.LogicOp o)) a b = refl
count_binary is_found at (Some (operator.ArithOp o)) a b = refl
count_binary is_found at (Some (operator.CmpOp o)) a b = refl
count_binary is_found at (Some (operator.Assignment o)) a b = refl
count_binary is_found at (Some operator.Assign) a b = refl

-- be there `async` or `gen` in front of it or not
count_closure : (o : Option CoroutineKind) (at : Pointer) (moves is_static : Bool) (ps : Params) (r : OptionType) (e : OptionExpr)
    → count_expr (closure_of o at moves is_static ps r e) ≡ suc (count_params ps + (count_option_type r + count_option_expr e))
count_closure None at moves is_static ps r e = refl
count_closure (Some kind) at moves is_static ps r e = refl

-- where what is in a block as an expression is read, by its modifier
abbrev own_rctx : ResolveCtx → Option BlockModifier → ResolveCtx
own_rctx at (Some modifier.Const) = in_const_block at
own_rctx at (Some modifier.Async) = in_coroutine coroutine.Async at
own_rctx at (Some modifier.Gen) = in_coroutine coroutine.Gen at
own_rctx at (Some modifier.AsyncGen) = in_coroutine coroutine.AsyncGen at
own_rctx at _ = at

-- what stands in a block counts in it as an expression, whatever its modifier
own_more : (at : ResolveCtx) (b : AstBlockExpr) (m : Option BlockModifier)
    → suc (count_block (block_level (own_rctx at m) plain_head b)) ≤ count_expr (own_level at m b)
own_more at b None = omega arith
own_more at b (Some modifier.Unsafe) = omega arith
own_more at b (Some modifier.Try) = omega arith
own_more at b (Some modifier.Const) = omega arith
own_more at b (Some modifier.Async) = omega arith
own_more at b (Some modifier.Gen) = omega arith
own_more at b (Some modifier.AsyncGen) = omega arith

count_own : (at : ResolveCtx) (b : AstBlockExpr) (m : Option BlockModifier) → (out-BlockExpr b).mod_ ≡ m
    → suc (count_block (resolved_plain (own_rctx at m) b)) ≤ count_expr (resolved_block at b)
count_own at b m e =
    let own : count_expr (resolved_block at b) ≡ count_expr (own_level at m b)
    = ap count_expr (block_is_level at b) ∙ ap (λ x. count_expr (own_level at x b)) e in
    let plain = ap count_block (plain_is_level (own_rctx at m) b) in
    let more = own_more at b m in
    omega (arith, own, plain, more)

-- and so does the type of a `try`
count_typed : (at : ResolveCtx) (b : AstBlockExpr) → (out-BlockExpr b).mod_ ≡ Some modifier.Try
    → count_option_type (type_part at (out-BlockExpr b).ty) < count_expr (resolved_block at b)
count_typed at b h =
    let own : count_expr (resolved_block at b) ≡ count_expr (try_level at b)
    = ap count_expr (block_is_level at b) ∙ ap (λ m. count_expr (own_level at m b)) h in
    omega (arith, own)

-- what a condition may disable counts in full
asked_more : (s : Pointer) (r : Result (Unit {0}) CfgId) (e : Expr) → count_expr e ≤ count_expr (asked s r e)
asked_more s (Ok _) e = omega arith
asked_more s (Err by) e = omega arith

-- and so does a block as the body of a `for`
count_body : (at : ResolveCtx) (b : AstBlockExpr) → count_expr (resolved_block at b) ≤ count_expr (resolved_body at b)
count_body at b =
    let level = out-BlockExpr b in
    let s = pointer_at at level.id level.range in
    let own = ap count_expr (block_is_level at b) in
    let whole : count_expr (resolved_body at b) ≡ count_expr (body_level at b) = ap count_expr (body_is_level at b) in
    let more = asked_more s (at.answers.cfg (site_of s)) (own_level at level.mod_ b) in
    omega (arith, own, whole, more)

-- a condition counts for nothing
pub count_kept : (s : Pointer) (r : Result (Unit {0}) CfgId) (f : Field) → count_field (asked_field s r f) ≡ count_field f
count_kept s (Ok _) f = refl
count_kept s (Err by) f = refl

count_kept_arm : (s : Pointer) (r : Result (Unit {0}) CfgId) (a : Arm) → count_arm (asked_arm s r a) ≡ count_arm a
count_kept_arm s (Ok _) a = refl
count_kept_arm s (Err by) a = refl

count_kept_param : (s : Pointer) (r : Result (Unit {0}) CfgId) (x : Param) → count_param (asked_param s r x) ≡ count_param x
count_kept_param s (Ok _) x = refl
count_kept_param s (Err by) x = refl

-- a block with a number lies in the file that it stands in
pub in_inside : (number : Option (BlockId × ModuleId)) (p : LowerCtx) (x : AstPtr) → in_file (inside number p) x ≡ in_file p x
in_inside None p x = refl
in_inside (Some n) p x = refl

-- no item decides on the number of a block
pub same_number : (env : Answers) (p : LowerCtx) (id : NodeId) → numbered (with_all_items env) p id ≡ numbered env p id
same_number env p id = by p.mode
  where
    by : (m : LoweringMode) → numbered (with_all_items env) (record p { mode = m }) id ≡ numbered env (record p { mode = m }) id
    by mode.Analysis = refl
    by mode.Untracked = refl

module _ (base : Answers) (P : LowerCtx → AstExpr → Type 0) (R : LowerCtx → AstBlockExpr → Type 0) (Q : LowerCtx → AstPath → Type 0)
    (T : LowerCtx → AstType_ → Type 0) (G : LowerCtx → AstGenericArgList → Type 0) (K : LowerCtx → Option AstExpr → Type 0) (n : ℕ)
    (exprs : (p : LowerCtx) (e : AstExpr) → count_expr (resolved_expr (rctx_at (with_all_items base) p) e) < n → P p e)
    (blocks : (p : LowerCtx) (b : AstBlockExpr) → count_block (resolved_plain (rctx_at (with_all_items base) p) b) < n → R p b)
    (paths : (p : LowerCtx) (x : AstPath) → count_path (resolved_path (rctx_at (with_all_items base) p) x) < n → Q p x)
    (types : (p : LowerCtx) (t : AstType_) → count_type (resolved_type (rctx_at (with_all_items base) p) t) < n → T p t)
    (lists : (p : LowerCtx) (l : AstGenericArgList) → suc (count_args (resolved_arg_list (rctx_at (with_all_items base) p) l)) < n → G p l)
    (constants : (p : LowerCtx) (e : AstExpr) → count_expr (resolved_expr (rctx_at (with_all_items base) (inside_constant p)) e) < n
    → K p (Some e))
    (no_constant : (p : LowerCtx) → K p None) where
  abbrev env : Answers
  env = with_all_items base

  abbrev C : LowerCtx → Claims
  C p = record {
    expr = P p;
    inner = P;
    block = R;
    path = Q;
    type_ = T;
    args = G;
    constant = K;
    pat = InPat env Q;
    target = InTarget env P Q;
    call = InCall env P;
    pat_call = InPatCall env Q;
    target_call = InTargetCall env P Q;
    type_call = InTypeCall env T;
    splice = InSplice env P R Q T;
  }

  path : (p : LowerCtx) (o : Option AstPath) → count_option_path (path_part (rctx_at env p) o) < n → IfPresent (Q p) o
  path p None h = tt
  path p (Some x) h = paths p x h

  type_ : (p : LowerCtx) (o : Option AstType_) → count_option_type (type_part (rctx_at env p) o) < n → IfPresent (T p) o
  type_ p None h = tt
  type_ p (Some t) h = types p t h

  list : (p : LowerCtx) (o : Option AstGenericArgList) → count_option_args (arg_list_part (rctx_at env p) o) < n → IfPresent (G p) o
  list p None h = tt
  list p (Some l) h = lists p l h

  pat : (p : LowerCtx) (o : Option AstPat) → count_option_pat (pat_part (rctx_at env p) o) < n → IfPresent (InPat env Q p) o
  pat p None h = tt
  pat p (Some x) h = λ q y less. paths q y (omega (arith, h, less))

  target : (p : LowerCtx) (o : Option AstExpr) → count_option_expr (expr_part (rctx_at env p) o) < n → IfPresent (InTarget env P Q p) o
  target p None h = tt
  target p (Some e) h = (λ q x less. exprs q x (omega (arith, h, less)), λ q y less. paths q y (omega (arith, h, less)))

  expr : (p : LowerCtx) (o : Option AstExpr) → count_option_expr (expr_part (rctx_at env p) o) < n → IfPresent (C p).expr o
  expr p None h = tt
  expr p (Some e) h = exprs p e h

  block : (p : LowerCtx) (o : Option AstBlockExpr) → count_option_block (block_part (rctx_at env p) o) < n → IfPresent (R p) o
  block p None h = tt
  block p (Some b) h = blocks p b h

  each : (p : LowerCtx) (es : List AstExpr) → count_exprs (exprs_part (rctx_at env p) es) < n → Each (C p).expr es
  each p [] h = tt
  each p (e ∷ es) h = (exprs p e (omega (arith, h)), each p es (omega (arith, h)))

  in_else : (p : LowerCtx) (k : ElseBranchLayer written) (e : AstElseBranch)
      → out-ElseBranch e ≡ k → count_expr (else_level (rctx_at env p) e) < n → KidsElse (C p) p k
  in_else p (ElseBranch-F.ElseBlock b) e is h = let s = rw is at h in blocks p b (omega (arith, s))
  in_else p (ElseBranch-F.ElseIf x) e is h = let s = rw is at h in exprs p x s

  else_branch : (p : LowerCtx) (o : Option AstElseBranch)
      → count_option_expr (else_part (rctx_at env p) o) < n → IfPresent (λ x. KidsElse (C p) p (out-ElseBranch x)) o
  else_branch p None h = tt
  else_branch p (Some e) h =
      let s = ap count_expr (else_is_level (rctx_at env p) e) in in_else p (out-ElseBranch e) e refl (omega (arith, h, s))

  -- the value of a field without a name counts for nothing
  named : (p : LowerCtx) (s : Pointer) (m : Option AstName) (e : Option AstExpr)
      → count_field (field_of s m (expr_part (rctx_at env p) e)) < n → IfPresent (λ k. IfPresent (C p).expr e) m
  named p s None e h = tt
  named p s (Some m) e h = expr p e h

  field : (p : LowerCtx) (x : AstField) → count_field (resolved_field (rctx_at env p) x) < n → KidsField (C p) p (out-RecordExprField x)
  field p x h =
      let at = rctx_at env p in
      let y = out-RecordExprField x in
      let s = in_file p (ptr y.id y.range) in
      let own = field_of s y.name (expr_part at y.expr) in
      let same : count_field (resolved_field at x) ≡ count_field own =
      ap count_field (field_is_level at x) ∙ count_kept s (env.cfg (site_of s)) own in
      named p s y.name y.expr (omega (arith, h, same))

  fields : (p : LowerCtx) (fs : List AstField) → count_fields (fields_part (rctx_at env p) fs) < n → KidsFields (C p) p fs
  fields p [] h = tt
  fields p (f ∷ fs) h = (field p f (omega (arith, h)), fields p fs (omega (arith, h)))

  spread : (p : LowerCtx) (e : Option AstExpr) (dots : Bool) → count_spread (spread_part (rctx_at env p) e dots) < n
      → IfPresent (C p).expr e
  spread p None dots h = tt
  spread p (Some e) dots h = exprs p e h

  in_record : (p : LowerCtx) (o : Option AstFieldList)
      → count_fields (record_part (rctx_at env p) o).fields + count_spread (record_part (rctx_at env p) o).spread < n
      → IfPresent (λ r. KidsRecord (C p) p (out-RecordExprFieldList r)) o
  in_record p None h = tt
  in_record p (Some x) h =
      let at = rctx_at env p in
      let y = out-RecordExprFieldList x in
      let s = ap (λ r. count_fields r.fields + count_spread r.spread) (record_is_level at x) in
      (fields p y.fields (omega (arith, h, s)), spread p y.spread y.dotdot (omega (arith, h, s)))

  guard : (p : LowerCtx) (o : Option AstGuard) → count_guard (guard_part (rctx_at env p) o) < n
      → IfPresent (KidsGuard (C p)) o
  guard p None h = tt
  guard p (Some g) h = expr p g (omega (arith, h))

  arm : (p : LowerCtx) (x : AstMatchArm) → count_arm (resolved_arm (rctx_at env p) x) < n → KidsArm (C p) p (out-MatchArm x)
  arm p x h =
      let at = rctx_at env p in
      let y = out-MatchArm x in
      let s = pointer_at at y.id y.range in
      let own = tree.arm (pat_part at y.pat) (expr_part at y.expr) (guard_part at y.guard) in
      let same : count_arm (resolved_arm at x) ≡ count_arm own =
      ap count_arm (arm_is_level at x) ∙ count_kept_arm s (env.cfg (site_of s)) own in
      (pat p y.pat (omega (arith, h, same)), expr p y.expr (omega (arith, h, same)), guard p y.guard (omega (arith, h, same)))

  arms : (p : LowerCtx) (xs : List AstMatchArm) → count_arms (arms_part (rctx_at env p) xs) < n → KidsArms (C p) p xs
  arms p [] h = tt
  arms p (x ∷ xs) h = (arm p x (omega (arith, h)), arms p xs (omega (arith, h)))

  arms_option : (p : LowerCtx) (o : Option (List AstMatchArm)) → count_arms (arms_or_none_part (rctx_at env p) o) < n
      → IfPresent (KidsArms (C p) p) o
  arms_option p None h = tt
  arms_option p (Some xs) h = arms p xs h

  constant : (p : LowerCtx) (o : Option AstExpr) → count_option_expr (expr_part (rctx_at env (inside_constant p)) o) < n → K p o
  constant p None h = no_constant p
  constant p (Some e) h = constants p e h

  param : (p : LowerCtx) (x : AstParam) → count_param (resolved_closure_param (rctx_at env p) x) < n
      → KidsClosureParam (C p) p (out-Param x)
  param p x h =
      let at = rctx_at env p in
      let y = out-Param x in
      let s = pointer_at at y.id y.range in
      let own = tree.param (pat_part at y.pat) (type_part at y.ty) in
      let same : count_param (resolved_closure_param at x) ≡ count_param own =
      ap (λ r. count_param r.own) (param_is_level at x) ∙ count_kept_param s (env.cfg (site_of s)) own in
      (pat p y.pat (omega (arith, h, same)), type_ p y.ty (omega (arith, h, same)))

  params : (p : LowerCtx) (xs : List AstParam) → count_params (closure_params_part (rctx_at env p) xs) < n → KidsClosureParams (C p) p xs
  params p [] h = tt
  params p (x ∷ xs) h = (param p x (omega (arith, h)), params p xs (omega (arith, h)))

  params_option : (p : LowerCtx) (o : Option (List AstParam)) → count_params (closure_params_or_none_part (rctx_at env p) o) < n
      → IfPresent (KidsClosureParams (C p) p) o
  params_option p None h = tt
  params_option p (Some xs) h = params p xs h

  ret : (p : LowerCtx) (o : Option AstRetType) → count_option_type (answer_part (rctx_at env p) o) < n → IfPresent (KidsRet (C p) p) o
  ret p None h = tt
  ret p (Some t) h = type_ p t h

  own_block : (p : LowerCtx) (b : AstBlockExpr) → count_expr (resolved_block (rctx_at env p) b) ≤ n → KidsBody (C p) p b
  own_block p b h = by (out-BlockExpr b).mod_ refl
    where
      by : (m : Option BlockModifier) → (out-BlockExpr b).mod_ ≡ m → KidsBody (C p) p b
      by None e = let s = count_own (rctx_at env p) b None e in rw e (blocks p b (omega (arith, h, s)))
      by (Some modifier.Unsafe) e =
          let s = count_own (rctx_at env p) b (Some modifier.Unsafe) e in rw e (blocks p b (omega (arith, h, s)))
      by (Some modifier.Try) e =
          let s = count_own (rctx_at env p) b (Some modifier.Try) e in
          let t = count_typed (rctx_at env p) b e in
          rw e (blocks p b (omega (arith, h, s)), type_ p (out-BlockExpr b).ty (omega (arith, h, t)))
      by (Some modifier.Const) e =
          let s = count_own (rctx_at env p) b (Some modifier.Const) e in rw e (blocks (inside_const_block p) b (omega (arith, h, s)))
      by (Some modifier.Async) e =
          let s = count_own (rctx_at env p) b (Some modifier.Async) e in
          rw e (blocks (inside_coroutine coroutine.Async p) b (omega (arith, h, s)))
      by (Some modifier.Gen) e =
          let s = count_own (rctx_at env p) b (Some modifier.Gen) e in
          rw e (blocks (inside_coroutine coroutine.Gen p) b (omega (arith, h, s)))
      by (Some modifier.AsyncGen) e =
          let s = count_own (rctx_at env p) b (Some modifier.AsyncGen) e in
          rw e (blocks (inside_coroutine coroutine.AsyncGen p) b (omega (arith, h, s)))

  -- the body of a `for`
  body : (p : LowerCtx) (o : Option AstBlockExpr) → count_option_expr (body_part (rctx_at env p) o) < n → IfPresent (KidsBody (C p) p) o
  body p None h = tt
  body p (Some b) h = let s = count_body (rctx_at env p) b in own_block p b (omega (arith, h, s))

  call : (p : LowerCtx) (at : Pointer) (o : Option Entering) (c : AstMacroCall) → o ≡ entering env p.left
      → count_expr (entered_expr env o c p at) ≤ n → InCall env P p c
  call p at o c same h q e less =
      let more = call_more env o p c at in
      let inside = ap (λ x. count_option_expr (inside_call env x p c)) same in
      exprs q e (omega (arith, h, less, more, inside))

  pub kids_expr : (p : LowerCtx) (at : Pointer) (k : ExprKindLayer written)
      → count_expr (expr_at env (reader env (entering env p.left)) k p at) ≤ n → KidsExpr (C p) p k
  kids_expr p at (ExprKind-F.IfExpr c t e) h =
      (expr p c (omega (arith, h)), block p t (omega (arith, h)), else_branch p e (omega (arith, h)))
  kids_expr p at (ExprKind-F.BlockExpr b) h = own_block p b h
  kids_expr p at (ExprKind-F.LoopExpr l b) h = block p b (omega (arith, h))
  kids_expr p at (ExprKind-F.WhileExpr l c b) h = (expr p c (omega (arith, h)), block p b (omega (arith, h)))
  kids_expr p at (ExprKind-F.ForExpr l x e b) h =
      (pat p x (omega (arith, h)), expr p e (omega (arith, h)), body p b (omega (arith, h)))
  kids_expr p at (ExprKind-F.TryExpr e) h = expr p e (omega (arith, h))
  kids_expr p at (ExprKind-F.CallExpr f None) h = (expr p f (omega (arith, h)), tt)
  kids_expr p at (ExprKind-F.CallExpr f (Some es)) h = (expr p f (omega (arith, h)), each p es (omega (arith, h)))
  kids_expr p at (ExprKind-F.PathExpr x) h = path p x (omega (arith, h))
  kids_expr p at (ExprKind-F.ContinueExpr l) h = tt
  kids_expr p at (ExprKind-F.BreakExpr l e) h = expr p e (omega (arith, h))
  kids_expr p at (ExprKind-F.ParenExpr e) h = expr p e (omega (arith, h))
  kids_expr p at (ExprKind-F.Literal l) h = tt
  kids_expr p at (ExprKind-F.MethodCallExpr e x as' None) h = (expr p e (omega (arith, h)), list p as' (omega (arith, h)), tt)
  kids_expr p at (ExprKind-F.MethodCallExpr e x as' (Some es)) h =
      (expr p e (omega (arith, h)), list p as' (omega (arith, h)), each p es (omega (arith, h)))
  kids_expr p at (ExprKind-F.FieldExpr e x) h = expr p e (omega (arith, h))
  kids_expr p at (ExprKind-F.PrefixExpr None e) h = expr p e (omega (arith, h))
  kids_expr p at (ExprKind-F.PrefixExpr (Some o) e) h = expr p e (omega (arith, h))
  kids_expr p at (ExprKind-F.BinExpr o a b) h =
      let s = count_binary (resolves env p) at o (expr_part (rctx_at env p) a) (expr_part (rctx_at env p) b) in
      (expr p a (omega (arith, h, s)), expr p b (omega (arith, h, s)), target p a (omega (arith, h, s)))
  kids_expr p at (ExprKind-F.IndexExpr a b) h = (expr p a (omega (arith, h)), expr p b (omega (arith, h)))
  kids_expr p at (ExprKind-F.RefExpr r m e) h = expr p e (omega (arith, h))
  kids_expr p at (ExprKind-F.TupleExpr comma es) h = each p es (omega (arith, h))
  kids_expr p at (ExprKind-F.ArrayExpr es) h = each p es (omega (arith, h))
  kids_expr p at (ExprKind-F.RepeatExpr e m) h = (expr p e (omega (arith, h)), constant p m (omega (arith, h)))
  kids_expr p at (ExprKind-F.ClosureExpr ps r e is_async is_gen moves is_static) h =
      let around = rctx_at env p in
      let body = expr_part (in_closure is_async around) e in
      let s = count_closure (coroutine_kind is_async is_gen) at moves is_static (closure_params_or_none_part around ps)
      (answer_part around r) body in
      (params_option p ps (omega (arith, h, s)), ret p r (omega (arith, h, s)), expr (inside_closure is_async p) e (omega (arith, h, s)))
  kids_expr p at (ExprKind-F.ReturnExpr e) h = expr p e (omega (arith, h))
  kids_expr p at (ExprKind-F.BecomeExpr e) h = expr p e (omega (arith, h))
  kids_expr p at (ExprKind-F.YieldExpr e) h = expr p e (omega (arith, h))
  kids_expr p at (ExprKind-F.YeetExpr e) h = expr p e (omega (arith, h))
  kids_expr p at (ExprKind-F.AwaitExpr e) h = expr p e (omega (arith, h))
  kids_expr p at (ExprKind-F.CastExpr e t) h = (expr p e (omega (arith, h)), type_ p t (omega (arith, h)))
  kids_expr p at (ExprKind-F.RecordExpr x l) h = (path p x (omega (arith, h)), in_record p l (omega (arith, h)))
  kids_expr p at (ExprKind-F.OffsetOfExpr t ns) h = type_ p t (omega (arith, h))
  kids_expr p at (ExprKind-F.CfgPredExpr pred) h = tt
  kids_expr p at (ExprKind-F.LetExpr x e) h = (pat p x (omega (arith, h)), expr p e (omega (arith, h)))
  kids_expr p at (ExprKind-F.MatchExpr e as') h = (expr p e (omega (arith, h)), arms_option p as' (omega (arith, h)))
  kids_expr p at (ExprKind-F.RangeExpr o a b) h = (expr p a (omega (arith, h)), expr p b (omega (arith, h)))
  kids_expr p at (ExprKind-F.MacroExpr None) h = tt
  kids_expr p at (ExprKind-F.MacroExpr (Some c)) h = call p at (entering env p.left) c refl h
  kids_expr p at ExprKind-F.UnderscoreExpr h = tt
  kids_expr p at ExprKind-F.IncludeBytesExpr h = tt
  kids_expr p at ExprKind-F.AsmExpr h = tt
  kids_expr p at ExprKind-F.FormatArgsExpr h = tt

  -- the parts of a block, which are read at the place q
  pub kids_block : (q : LowerCtx) (b : AstBlockExpr)
      → suc (count_spliced (resolved_run (rctx_at env q) [] (out-BlockExpr b).stmts (out-BlockExpr b).tail)) ≤ n
      → KidsBlock (C q) q (out-BlockExpr b)
  kids_block q b h = kids_run env (C q) n (record {
    exprs = exprs;
    blocks = blocks;
    types = types;
    pats = λ p x less r y m. paths r y (omega (arith, less, m));
    splices = λ p e d less. record {
      defined = d;
      exprs = λ r x m. exprs r x (omega (arith, less, m));
      blocks = λ r x m. blocks r x (omega (arith, less, m));
      paths = λ r x m. paths r x (omega (arith, less, m));
      types = λ r x m. types r x (omega (arith, less, m));
    };
  }) q [] (out-BlockExpr b).stmts (out-BlockExpr b).tail h

-- what is so of all is so of one that is present
pub so_of_present : {A : Type 0} (K : A → Type 0) → ((x : A) → K x) → (o : Option A) → IfPresent K o
so_of_present K all None = tt
so_of_present K all (Some x) = all x
