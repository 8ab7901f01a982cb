-- The parts of the assignee expression are smaller than the whole, as they are answered.
use Rattle.std.proofs.Common.{arith, ◌≡◌, ◌∙◌, ap, refl, ℕ, ◌+◌, ◌<◌, ◌≤◌, List, [], ◌∷◌, Option}
use Rattle.std.proofs.Common.{Some, None}
use Rattle.std.specs.Prelude.{Result, Ok, Err}
use Rattle.hir_syntax.specs.declared.ast.ElseBranch.TheOpen.{ExprKind-F}
use Rattle.hir_syntax.specs.declared.ast.Expr.{Expr as AstExpr}
use Rattle.hir_syntax.specs.declared.ast.Name.{Name as AstName}
use Rattle.hir_syntax.specs.declared.ast.RecordExprField.{RecordExprField as AstField, out-RecordExprField}
use Rattle.hir_syntax.specs.declared.ast.RecordExprFieldList.{RecordExprFieldList as AstFieldList, out-RecordExprFieldList}
use Rattle.hir_store.specs.Pointers.{Pointer}
use Rattle.hir_store.specs.declared.ids.CfgId.{CfgId}
use Rattle.hir_env.specs.ResolvedTree.{Field}
use Rattle.hir_env.specs.Answering.{asked_field, expr_at, field_of}
use Rattle.hir_env.specs.Count.{count_expr, count_exprs, count_field, count_fields, count_option_expr, count_spread}
use Rattle.hir_env.specs.Layers.{ExprKindLayer}
use Rattle.hir_env.specs.ResolveCtx.{ResolveCtx, site_of}
use Rattle.hir_env.specs.Whole.{resolved_expr, resolved_field, expr_part, exprs_part, fields_part, into, pointer_at, reader, record_part}
use Rattle.hir_env.specs.Whole.{written}
use Rattle.hir_env.proofs.Levels.{field_is_level, record_is_level}
use Rattle.hir_lower_builder.specs.Nests.{Claims, Each, IfPresent, KidsTarget, KidsTargetFields}
use Rattle.hir_lower_pat.specs.Assignees.{KidsOfFields, KidsOfTarget}

-- a condition counts for nothing
count_kept : (s : Pointer) (r : Result (Unit {0}) CfgId) (f : Field) → count_field (asked_field s r f) ≡ count_field f
count_kept s (Ok _) f = refl
count_kept s (Err by) f = refl

-- with what may be handed in to one lowering, as far as it is smaller, and to another
module _ (at : ResolveCtx) (C : Claims) (inside : AstExpr → Type 0) (n : ℕ)
    (below : (x : AstExpr) → C.target at.place x → count_expr (resolved_expr at x) < n → inside x) where
  part : (o : Option AstExpr) → IfPresent (C.target at.place) o → count_option_expr (expr_part at o) < n → IfPresent inside o
  part None c h = tt
  part (Some x) c h = below x c h

  each : (xs : List AstExpr) → Each (C.target at.place) xs → count_exprs (exprs_part at xs) < n → Each inside xs
  each [] c h = tt
  each (x ∷ xs) c h = (below x c.0 (omega (arith, h)), each xs c.1 (omega (arith, h)))

  -- the expression of a field counts, be it without a name
  named : (s : Pointer) (m : Option AstName) (o : Option AstExpr) → IfPresent (C.target at.place) o
      → count_field (field_of s m (expr_part at o)) < n → IfPresent inside o
  named s None o c h = part o c h
  named s (Some m) o c h = part o c h

  field : (f : AstField) → IfPresent (C.target at.place) (out-RecordExprField f).expr → count_field (resolved_field at f) < n
      → IfPresent inside (out-RecordExprField f).expr
  field f c h =
      let y = out-RecordExprField f in
      let s = pointer_at at y.id y.range in
      let read = field_of s y.name (expr_part at y.expr) in
      let same : count_field (resolved_field at f) ≡ count_field read =
      ap count_field (field_is_level at f) ∙ count_kept s (at.answers.cfg (site_of s)) read in
      named s y.name y.expr c (omega (arith, h, same))

  fields : (fs : List AstField) → Each (λ f. IfPresent (C.target at.place) (out-RecordExprField f).expr) fs
      → count_fields (fields_part at fs) < n → KidsOfFields inside fs
  fields [] c h = tt
  fields (f ∷ fs) c h = (field f c.0 (omega (arith, h)), fields fs c.1 (omega (arith, h)))

  in_record : (o : Option AstFieldList) → IfPresent (λ r. KidsTargetFields C at.place (out-RecordExprFieldList r)) o
      → count_fields (record_part at o).fields + count_spread (record_part at o).spread < n
      → IfPresent (λ r. KidsOfFields inside (out-RecordExprFieldList r).fields) o
  in_record None c h = tt
  in_record (Some x) c h =
      let s = ap (λ r. count_fields r.fields + count_spread r.spread) (record_is_level at x) in
      fields (out-RecordExprFieldList x).fields c (omega (arith, h, s))

  pub kids : (s : Pointer) (k : ExprKindLayer written) → KidsTarget C at.place k
      → count_expr (expr_at at.answers (reader at.answers (into at)) k at.place s) ≤ n
      → KidsOfTarget inside (C.target at.place) (C.path at.place) k
  kids s (ExprKind-F.IfExpr e t b) c h = tt
  kids s (ExprKind-F.BlockExpr b) c h = tt
  kids s (ExprKind-F.LoopExpr l b) c h = tt
  kids s (ExprKind-F.WhileExpr l e b) c h = tt
  kids s (ExprKind-F.ForExpr l q e b) c h = tt
  kids s (ExprKind-F.TryExpr e) c h = tt
  kids s (ExprKind-F.CallExpr f None) c h = (c.0, tt)
  kids s (ExprKind-F.CallExpr f (Some es)) c h = (c.0, each es c.1 (omega (arith, h)))
  kids s (ExprKind-F.PathExpr x) c h = c
  kids s (ExprKind-F.ContinueExpr l) c h = tt
  kids s (ExprKind-F.BreakExpr l e) c h = tt
  kids s (ExprKind-F.ParenExpr e) c h = part e c (omega (arith, h))
  kids s (ExprKind-F.MacroExpr call) c h = tt
  kids s (ExprKind-F.Literal l) c h = tt
  kids s (ExprKind-F.MethodCallExpr e x as' es) c h = tt
  kids s (ExprKind-F.FieldExpr e x) c h = tt
  kids s (ExprKind-F.PrefixExpr o e) c h = tt
  kids s (ExprKind-F.BinExpr o a b) c h = tt
  kids s (ExprKind-F.IndexExpr a b) c h = tt
  kids s (ExprKind-F.RefExpr r m e) c h = tt
  kids s (ExprKind-F.TupleExpr comma es) c h = each es c (omega (arith, h))
  kids s (ExprKind-F.ArrayExpr es) c h = each es c (omega (arith, h))
  kids s (ExprKind-F.RepeatExpr e m) c h = tt
  kids s (ExprKind-F.ClosureExpr ps r e is_async is_gen moves is_static) c h = tt
  kids s (ExprKind-F.ReturnExpr e) c h = tt
  kids s (ExprKind-F.BecomeExpr e) c h = tt
  kids s (ExprKind-F.YieldExpr e) c h = tt
  kids s (ExprKind-F.YeetExpr e) c h = tt
  kids s (ExprKind-F.AwaitExpr e) c h = tt
  kids s (ExprKind-F.CastExpr e t) c h = tt
  kids s (ExprKind-F.RecordExpr x l) c h = (c.0, in_record l c.1 (omega (arith, h)))
  kids s (ExprKind-F.OffsetOfExpr t ns) c h = tt
  kids s (ExprKind-F.CfgPredExpr pred) c h = tt
  kids s (ExprKind-F.LetExpr q e) c h = tt
  kids s (ExprKind-F.MatchExpr e arms) c h = tt
  kids s (ExprKind-F.RangeExpr o a b) c h = tt
  kids s ExprKind-F.UnderscoreExpr c h = tt
  kids s ExprKind-F.IncludeBytesExpr c h = tt
  kids s ExprKind-F.AsmExpr c h = tt
  kids s ExprKind-F.FormatArgsExpr c h = tt
