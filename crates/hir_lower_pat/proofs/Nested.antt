-- The parts of a pattern, and of the assignee expression, are smaller than the whole, as they are answered.
use Rattle.std.proofs.Common.{arith, ◌≡◌, ◌∙◌, ap, refl, ℕ, ◌+◌, ◌<◌, ◌≤◌}
use Rattle.std.proofs.Common.{Bool, ◌&&◌, List, [], ◌∷◌, Option, Some, None}
use Rattle.std.specs.Prelude.{Result, Ok, Err}
use Rattle.hir_syntax.specs.declared.ast.ElseBranch.TheOpen.{ExprKind-F, PatKind-F}
use Rattle.hir_syntax.specs.declared.ast.Expr.{Expr as AstExpr}
use Rattle.hir_syntax.specs.declared.ast.ExprKind.{out-ExprKind}
use Rattle.hir_syntax.specs.declared.ast.Name.{Name as AstName}
use Rattle.hir_syntax.specs.declared.ast.Path.{Path as AstPath}
use Rattle.hir_syntax.specs.declared.ast.RecordExprField.{RecordExprField as AstField, out-RecordExprField}
use Rattle.hir_syntax.specs.declared.ast.RecordExprFieldList.{RecordExprFieldList as AstFieldList, out-RecordExprFieldList}
use Rattle.hir_syntax.specs.declared.macros.MacroCall.{MacroCall as AstMacroCall}
use Rattle.hir_syntax.specs.declared.pats.Pat.{Pat as AstPat}
use Rattle.hir_syntax.specs.declared.pats.PatKind.{out-PatKind}
use Rattle.hir_syntax.specs.declared.pats.RecordPatField.{RecordPatField as AstPatField, out-RecordPatField}
use Rattle.hir_store.specs.Names.{IsWritten}
use Rattle.hir_store.specs.Pointers.{Pointer}
use Rattle.hir_store.specs.declared.ids.CfgId.{CfgId}
use Rattle.hir_env.specs.Answers.{Answers}
use Rattle.hir_env.specs.ResolvedTree as tree
use Rattle.hir_env.specs.ResolvedTree.{Field, PatField, Use}
use Rattle.hir_env.specs.Answering.{asked_field, expr_at, field_of, name_written}
use Rattle.hir_env.specs.Calls.{entered_expr, entered_pat}
use Rattle.hir_env.specs.Count.{count_expr, count_exprs, count_field, count_fields, count_option_expr, count_option_path, count_path}
use Rattle.hir_env.specs.Count.{count_option_pat, count_pat, count_pat_field, count_pat_fields, count_pats, count_side, count_spread}
use Rattle.hir_env.specs.Layers.{Entering, ExprKindLayer}
use Rattle.hir_env.specs.PatLayers.{PatKindLayer}
use Rattle.hir_env.specs.Pats.{asked_pat_field, name_or_bind, pat_at, pat_field_of, side_of, use_at}
use Rattle.hir_env.specs.ResolveCtx.{site_of}
use Rattle.hir_env.specs.TypePats.{is_plain}
use Rattle.hir_env.specs.Whole.{resolved_expr, resolved_field, resolved_pat, resolved_pat_field, resolved_path, expr_part, exprs_part}
use Rattle.hir_env.specs.Whole.{fields_part, into, pat_fields_part, pat_part, path_part, pats_part, pointer_at, reader}
use Rattle.hir_env.specs.Whole.{elements_part, record_part, written}
use Rattle.hir_env.specs.declared.ctx.LowerCtx.{LowerCtx}
use Rattle.hir_env.proofs.Levels.{field_is_level, record_is_level}
use Rattle.hir_env.proofs.PatLevels.{pat_field_is_level, pat_is_level}
use Rattle.hir_lower_builder.specs.Nests.{Claims, Each, IfPresent, KidsOfPat, KidsPatFields, KidsSide, KidsSidePart}
use Rattle.hir_lower_builder.specs.Nests.{KidsTarget, KidsTargetFields}
use Rattle.hir_lower_builder.specs.Inside.{InPatCall, InTargetCall, inside_pat_call}
use Rattle.hir_lower_builder.proofs.Inside.{call_more}
use Rattle.hir_lower_pat.specs.Nested.{InPat, InTarget, read_at}
use Rattle.hir_lower_pat.proofs.AssigneeLemmas.{kept_below}
use Rattle.hir_lower_pat.proofs.Elements.{count_in}

-- a condition counts for nothing
count_kept : (s : Pointer) (r : Result (Unit {0}) CfgId) (f : Field) → count_field (asked_field s r f) ≡ count_field f
count_kept s (Ok _) f = refl
count_kept s (Err by) f = refl

count_kept_part : (s : Pointer) (r : Result (Unit {0}) CfgId) (f : PatField) → count_pat_field (asked_pat_field s r f) ≡ count_pat_field f
count_kept_part s (Ok _) f = refl
count_kept_part s (Err by) f = refl

-- patterns

module _ (env : Answers) (Q : LowerCtx → AstPath → Type 0) (p : LowerCtx) (n : ℕ)
    (paths : (q : LowerCtx) (x : AstPath) → count_path (resolved_path (read_at env q) x) < n → Q q x) where
  path : (o : Option AstPath) → count_option_path (path_part (read_at env p) o) < n → IfPresent (Q p) o
  path None h = tt
  path (Some x) h = paths p x h

  whole : (x : AstPat) → count_pat (resolved_pat (read_at env p) x) ≤ n → InPat env Q p x
  whole x h q y less = paths q y (omega (arith, h, less))

  -- what a call stands for is smaller than the call
  in_call : (c : AstMacroCall) (s : Pointer) (o : Option Entering) → count_pat (entered_pat env o c p s) ≤ n
      → (q : LowerCtx) (y : AstPath) → count_path (resolved_path (read_at env q) y) < count_option_pat (inside_pat_call env o p c) → Q q y
  in_call c s None h q y less = absurd (omega (arith, less))
  in_call c s (Some into) h q y less = paths q y (omega (arith, h, less))

  part : (o : Option AstPat) → count_option_pat (pat_part (read_at env p) o) ≤ n → IfPresent (InPat env Q p) o
  part None h = tt
  part (Some x) h = whole x h

  each : (xs : List AstPat) → count_pats (pats_part (read_at env p) xs) ≤ n → Each (InPat env Q p) xs
  each [] h = tt
  each (x ∷ xs) h = (whole x (omega (arith, h)), each xs (omega (arith, h)))

  each_element : (xs : List AstPat) → count_pats (elements_part (read_at env p) xs) ≤ n → Each (InPat env Q p) xs
  each_element [] h = tt
  each_element (x ∷ xs) h =
      let same = count_in (resolved_pat (read_at env p) x) (elements_part (read_at env p) xs) in
      (whole x (omega (arith, h, same)), each_element xs (omega (arith, h, same)))

  -- a field without its part counts for nothing
  own : (s : Pointer) (m : Option AstName) (o : Option AstPat)
      → count_pat_field (pat_field_of s m (pat_part (read_at env p) o)) ≤ n → IfPresent (InPat env Q p) o
  own s m None h = tt
  own s m (Some x) h = whole x h

  field : (f : AstPatField) → count_pat_field (resolved_pat_field (read_at env p) f) ≤ n
      → IfPresent (InPat env Q p) (out-RecordPatField f).pat
  field f h =
      let at = read_at env p in
      let y = out-RecordPatField f in
      let s = pointer_at at y.id y.range in
      let read = pat_field_of s y.name (pat_part at y.pat) in
      let same : count_pat_field (resolved_pat_field at f) ≡ count_pat_field read =
      ap count_pat_field (pat_field_is_level at f) ∙ count_kept_part s (env.cfg (site_of s)) read in
      own s y.name y.pat (omega (arith, h, same))

  fields : (fs : List AstPatField) → count_pat_fields (pat_fields_part (read_at env p) fs) ≤ n → KidsPatFields (InPat env Q p) fs
  fields [] h = tt
  fields (f ∷ fs) h = (field f (omega (arith, h)), fields fs (omega (arith, h)))

  -- a name with something behind `@` binds
  ident : (s : Pointer) (u : Use) (w : IsWritten u.name) (found : Bool) (o : Option AstPat)
      → count_pat (name_or_bind (is_plain u (pat_part (read_at env p) o) && found) s u w (pat_part (read_at env p) o)) ≤ n
      → IfPresent (InPat env Q p) o
  ident s u w found None h = tt
  ident s u w found (Some x) h = whole x (omega (arith, h))

  in_side : (s : Pointer) (k : PatKindLayer written)
      → count_side (side_of (tree.some_pat (pat_at env (reader env (into (read_at env p))) k p s))) < n → KidsSide (Q p) k
  in_side s (PatKind-F.IdentPat m is_ref is_mut x) h = tt
  in_side s (PatKind-F.TupleStructPat x comma ps) h = tt
  in_side s (PatKind-F.TuplePat comma ps) h = tt
  in_side s (PatKind-F.RefPat is_mut x) h = tt
  in_side s (PatKind-F.PathPat x) h = path x h
  in_side s (PatKind-F.OrPat ps) h = tt
  in_side s (PatKind-F.ParenPat x) h = tt
  in_side s (PatKind-F.BoxPat x) h = tt
  in_side s (PatKind-F.DerefPat x) h = tt
  in_side s (PatKind-F.RecordPat x fs dots) h = tt
  in_side s (PatKind-F.SlicePat before x after) h = tt
  in_side s (PatKind-F.LiteralPat l minus) h = tt
  in_side s (PatKind-F.RangePat op low high) h = tt
  in_side s (PatKind-F.CfgPredPat pred) h = tt
  in_side s (PatKind-F.MacroPat call) h = tt
  in_side s PatKind-F.WildcardPat h = tt
  in_side s PatKind-F.RestPat h = tt
  in_side s PatKind-F.NotNullPat h = tt
  in_side s PatKind-F.ConstBlockPat h = tt

  side : (o : Option AstPat) → count_side (side_of (pat_part (read_at env p) o)) < n → KidsSidePart (Q p) o
  side None h = tt
  side (Some x) h =
      let at = read_at env p in
      let same = ap (λ q. count_side (side_of (tree.some_pat q))) (pat_is_level at x) in
      in_side (pointer_at at x.id x.range) (out-PatKind x.kind) (omega (arith, h, same))

  kids : (s : Pointer) (k : PatKindLayer written) → count_pat (pat_at env (reader env (into (read_at env p))) k p s) ≤ n
      → KidsOfPat (InPat env Q p) (Q p) (InPatCall env Q p) k
  kids s (PatKind-F.IdentPat m is_ref is_mut x) h = ident s (use_at env p m is_ref is_mut) (name_written m) _ x h
  kids s (PatKind-F.TupleStructPat x comma ps) h = (path x (omega (arith, h)), each_element ps (omega (arith, h)))
  kids s (PatKind-F.TuplePat comma ps) h = each_element ps (omega (arith, h))
  kids s (PatKind-F.RefPat is_mut x) h = part x (omega (arith, h))
  kids s (PatKind-F.PathPat x) h = path x (omega (arith, h))
  kids s (PatKind-F.OrPat ps) h = each ps (omega (arith, h))
  kids s (PatKind-F.ParenPat x) h = part x (omega (arith, h))
  kids s (PatKind-F.BoxPat x) h = part x (omega (arith, h))
  kids s (PatKind-F.DerefPat x) h = part x (omega (arith, h))
  kids s (PatKind-F.RecordPat x fs dots) h = (path x (omega (arith, h)), fields fs (omega (arith, h)))
  kids s (PatKind-F.SlicePat before x after) h =
      (each before (omega (arith, h)), part x (omega (arith, h)), each after (omega (arith, h)))
  kids s (PatKind-F.LiteralPat l minus) h = tt
  kids s (PatKind-F.RangePat op low high) h = (side low (omega (arith, h)), side high (omega (arith, h)))
  kids s (PatKind-F.CfgPredPat pred) h = tt
  kids s (PatKind-F.MacroPat None) h = tt
  kids s (PatKind-F.MacroPat (Some c)) h = in_call c s (into (read_at env p)) h
  kids s PatKind-F.WildcardPat h = tt
  kids s PatKind-F.RestPat h = tt
  kids s PatKind-F.NotNullPat h = tt
  kids s PatKind-F.ConstBlockPat h = tt

-- what may be handed in may be gone into
pub pat_nests : (env : Answers) (Q : LowerCtx → AstPath → Type 0) (p : LowerCtx) (x : AstPat) → InPat env Q p x
    → KidsOfPat (InPat env Q p) (Q p) (InPatCall env Q p) (out-PatKind x.kind)
pat_nests env Q p x c =
    let at = read_at env p in
    let same = ap count_pat (pat_is_level at x) in
    kids env Q p (count_pat (resolved_pat at x)) c (pointer_at at x.id x.range) (out-PatKind x.kind) (omega (arith, same))

-- the assignee expression

-- the claims with these of paths and of the assignee expression
abbrev claims : Claims → Answers → (LowerCtx → AstExpr → Type 0) → (LowerCtx → AstPath → Type 0) → Claims
claims C env P Q = record C { path = Q; target = InTarget env P Q; target_call = InTargetCall env P Q }

module _ (C : Claims) (env : Answers) (P : LowerCtx → AstExpr → Type 0) (Q : LowerCtx → AstPath → Type 0) (p : LowerCtx) (n : ℕ)
    (exprs : (q : LowerCtx) (x : AstExpr) → count_expr (resolved_expr (read_at env q) x) ≤ n → P q x)
    (paths : (q : LowerCtx) (y : AstPath) → count_path (resolved_path (read_at env q) y) < n → Q q y) where
  target_path : (o : Option AstPath) → count_option_path (path_part (read_at env p) o) < n → IfPresent (Q p) o
  target_path None h = tt
  target_path (Some x) h = paths p x h

  target : (e : AstExpr) → count_expr (resolved_expr (read_at env p) e) ≤ n → InTarget env P Q p e
  target e h = (λ q x less. exprs q x (omega (arith, h, less)), λ q y less. paths q y (omega (arith, h, less)))

  target_part : (o : Option AstExpr) → count_option_expr (expr_part (read_at env p) o) ≤ n → IfPresent (InTarget env P Q p) o
  target_part None h = tt
  target_part (Some e) h = target e h

  targets : (es : List AstExpr) → count_exprs (exprs_part (read_at env p) es) ≤ n → Each (InTarget env P Q p) es
  targets [] h = tt
  targets (e ∷ es) h = (target e (omega (arith, h)), targets es (omega (arith, h)))

  -- the expression of a field counts, be it without a name
  named : (s : Pointer) (m : Option AstName) (o : Option AstExpr)
      → count_field (field_of s m (expr_part (read_at env p) o)) ≤ n → IfPresent (InTarget env P Q p) o
  named s None o h = target_part o h
  named s (Some m) o h = target_part o h

  target_field : (f : AstField) → count_field (resolved_field (read_at env p) f) ≤ n
      → IfPresent (InTarget env P Q p) (out-RecordExprField f).expr
  target_field f h =
      let at = read_at env p in
      let y = out-RecordExprField f in
      let s = pointer_at at y.id y.range in
      let read = field_of s y.name (expr_part at y.expr) in
      let same : count_field (resolved_field at f) ≡ count_field read =
      ap count_field (field_is_level at f) ∙ count_kept s (env.cfg (site_of s)) read in
      named s y.name y.expr (omega (arith, h, same))

  target_fields : (fs : List AstField) → count_fields (fields_part (read_at env p) fs) ≤ n
      → Each (λ f. IfPresent (InTarget env P Q p) (out-RecordExprField f).expr) fs
  target_fields [] h = tt
  target_fields (f ∷ fs) h = (target_field f (omega (arith, h)), target_fields fs (omega (arith, h)))

  target_record : (o : Option AstFieldList)
      → count_fields (record_part (read_at env p) o).fields + count_spread (record_part (read_at env p) o).spread ≤ n
      → IfPresent (λ r. KidsTargetFields (claims C env P Q) p (out-RecordExprFieldList r)) o
  target_record None h = tt
  target_record (Some x) h =
      let s = ap (λ r. count_fields r.fields + count_spread r.spread) (record_is_level (read_at env p) x) in
      target_fields (out-RecordExprFieldList x).fields (omega (arith, h, s))

  -- what a call stands for is smaller than the call
  in_target_call : (c : AstMacroCall) (s : Pointer) → count_expr (entered_expr env (into (read_at env p)) c p s) ≤ n
      → InTargetCall env P Q p c
  in_target_call c s h =
      let more = call_more env (into (read_at env p)) p c s in
      (λ q x less. exprs q x (omega (arith, h, more, less)), λ q y less. paths q y (omega (arith, h, more, less)))

  target_kids : (s : Pointer) (k : ExprKindLayer written) → count_expr (expr_at env (reader env (into (read_at env p))) k p s) ≤ n
      → KidsTarget (claims C env P Q) p k
  target_kids s (ExprKind-F.IfExpr c t e) h = tt
  target_kids s (ExprKind-F.BlockExpr b) h = tt
  target_kids s (ExprKind-F.LoopExpr l b) h = tt
  target_kids s (ExprKind-F.WhileExpr l c b) h = tt
  target_kids s (ExprKind-F.ForExpr l q e b) h = tt
  target_kids s (ExprKind-F.TryExpr e) h = tt
  target_kids s (ExprKind-F.CallExpr f None) h = (target_part f (omega (arith, h)), tt)
  target_kids s (ExprKind-F.CallExpr f (Some es)) h = (target_part f (omega (arith, h)), targets es (omega (arith, h)))
  target_kids s (ExprKind-F.PathExpr x) h = target_path x (omega (arith, h))
  target_kids s (ExprKind-F.ContinueExpr l) h = tt
  target_kids s (ExprKind-F.BreakExpr l e) h = tt
  target_kids s (ExprKind-F.ParenExpr e) h = target_part e (omega (arith, h))
  target_kids s (ExprKind-F.MacroExpr None) h = tt
  target_kids s (ExprKind-F.MacroExpr (Some c)) h = in_target_call c s h
  target_kids s (ExprKind-F.Literal l) h = tt
  target_kids s (ExprKind-F.MethodCallExpr e x as' es) h = tt
  target_kids s (ExprKind-F.FieldExpr e x) h = tt
  target_kids s (ExprKind-F.PrefixExpr o e) h = tt
  target_kids s (ExprKind-F.BinExpr o a b) h = tt
  target_kids s (ExprKind-F.IndexExpr a b) h = tt
  target_kids s (ExprKind-F.RefExpr r m e) h = tt
  target_kids s (ExprKind-F.TupleExpr comma es) h = targets es (omega (arith, h))
  target_kids s (ExprKind-F.ArrayExpr es) h = targets es (omega (arith, h))
  target_kids s (ExprKind-F.RepeatExpr e m) h = tt
  target_kids s (ExprKind-F.ClosureExpr ps r e is_async is_gen moves is_static) h = tt
  target_kids s (ExprKind-F.ReturnExpr e) h = tt
  target_kids s (ExprKind-F.BecomeExpr e) h = tt
  target_kids s (ExprKind-F.YieldExpr e) h = tt
  target_kids s (ExprKind-F.YeetExpr e) h = tt
  target_kids s (ExprKind-F.AwaitExpr e) h = tt
  target_kids s (ExprKind-F.CastExpr e t) h = tt
  target_kids s (ExprKind-F.RecordExpr x l) h = (target_path x (omega (arith, h)), target_record l (omega (arith, h)))
  target_kids s (ExprKind-F.OffsetOfExpr t ns) h = tt
  target_kids s (ExprKind-F.CfgPredExpr pred) h = tt
  target_kids s (ExprKind-F.LetExpr q e) h = tt
  target_kids s (ExprKind-F.MatchExpr e arms) h = tt
  target_kids s (ExprKind-F.RangeExpr o a b) h = tt
  target_kids s ExprKind-F.UnderscoreExpr h = tt
  target_kids s ExprKind-F.IncludeBytesExpr h = tt
  target_kids s ExprKind-F.AsmExpr h = tt
  target_kids s ExprKind-F.FormatArgsExpr h = tt

-- what may be handed in may be gone into
pub target_nests : (C : Claims) (env : Answers) (P : LowerCtx → AstExpr → Type 0) (Q : LowerCtx → AstPath → Type 0) (p : LowerCtx)
    (e : AstExpr)
    → InTarget env P Q p e → KidsTarget (claims C env P Q) p (out-ExprKind e.kind)
target_nests C env P Q p e c =
    let at = read_at env p in
    target_kids C env P Q p (count_expr (resolved_expr at e)) c.0 c.1 (pointer_at at e.id e.range) (out-ExprKind e.kind) (kept_below at e)

-- the assignee expression may be a place
pub target_is_place : (env : Answers) (P : LowerCtx → AstExpr → Type 0) (Q : LowerCtx → AstPath → Type 0) (p : LowerCtx) (e : AstExpr)
    → InTarget env P Q p e → P p e
target_is_place env P Q p e c = c.0 p e (omega arith)
