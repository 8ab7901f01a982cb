-- What a kind is made of, and that no kind of a family is left where each was taken.
use Rattle.std.proofs.Common.{◌≡◌, ◌∙◌, ap, sym, refl, Bool, List, Ok, Err, Option, None}
use Rattle.hir_syntax.specs.declared.ast.ElseBranch.TheOpen.{ExprKind-F}
use Rattle.hir_syntax.specs.declared.ast.ExprKind.{ExprKind as AstExprKind, out-ExprKind, roll-ExprKind}
use Rattle.hir_syntax.specs.declared.ast.ExprKind.{out-roll-ExprKind, roll-out-ExprKind}
use Rattle.hir_syntax.specs.declared.ast.ExprKind.TheVariants as kind
use Rattle.hir_syntax.specs.declared.ast.Expr.{Expr as AstExpr}
use Rattle.hir_syntax.specs.declared.ast.BlockExpr.{BlockExpr as AstBlockExpr}
use Rattle.hir_syntax.specs.declared.ast.ElseBranch.{ElseBranch as AstElseBranch}
use Rattle.hir_syntax.specs.declared.ast.Label.{Label as AstLabel}
use Rattle.hir_syntax.specs.declared.ast.Lifetime.{Lifetime as AstLifetime}
use Rattle.hir_syntax.specs.declared.ast.Literal.{Literal as AstLiteral}
use Rattle.hir_syntax.specs.declared.ast.Name.{Name as AstName}
use Rattle.hir_syntax.specs.declared.ast.Path.{Path as AstPath}
use Rattle.hir_syntax.specs.declared.ast.RecordExprFieldList.{RecordExprFieldList as AstFieldList}
use Rattle.hir_syntax.specs.declared.types.Param.{Param as AstParam}
use Rattle.hir_syntax.specs.declared.types.Type_.{Type_ as AstType_}
use Rattle.hir_base.specs.declared.op.BinaryOp.{BinaryOp}
use Rattle.hir_base.specs.declared.op.UnaryOp.{UnaryOp}
use Rattle.hir_syntax.specs.declared.branches.MatchArm.{MatchArm as AstMatchArm}
use Rattle.hir_syntax.specs.declared.pats.Pat.{Pat as AstPat}
use Rattle.hir_base.specs.declared.op.RangeOp.{RangeOp}
use Rattle.hir_base.specs.declared.node.PredId.{PredId}
use Rattle.hir_store.specs.declared.diagnostics.ExpressionStoreDiagnostics.TheVariants.{InactiveCode}
use Rattle.hir_store.specs.declared.ids.CfgId.{CfgId}
use Rattle.hir_store.specs.declared.ids.ExprId.{ExprId}
use Rattle.hir_env.specs.Answering.{asked, site_of}
use Rattle.hir_env.specs.Layers.{ExprKindLayer}
use Rattle.hir_env.specs.ResolveCtx.{ResolveCtx}
use Rattle.hir_env.specs.Whole.{asked_expr, kept_expr, pointer_at, written}
use Rattle.hir_env.specs.Wrapped.{AstGenericArgList, AstRetType}
use Rattle.hir_lower_builder.specs.Builder.{Builder}
use Rattle.hir_lower_builder.specs.Calls.{track_gone}
use Rattle.hir_lower_builder.specs.Lower.{lower_kept}
use Rattle.hir_lower_builder.specs.Lowering.{Lowering, go_on, pure, report}
use Rattle.hir_lower_builder.specs.Families.{IsControl, IsMatching, IsListing, IsAccess, IsOperator, IsLeaving, IsTyped, IsLeaf}

made : (k : AstExprKind) (l : ExprKindLayer written) → out-ExprKind k ≡ l → k ≡ roll-ExprKind l
made k l h = sym (roll-out-ExprKind k) ∙ ap roll-ExprKind h

pub opened : {k : AstExprKind} {l : ExprKindLayer written} → roll-ExprKind l ≡ k → out-ExprKind k ≡ l
opened {k} {l} h = ap out-ExprKind (sym h) ∙ out-roll-ExprKind l

-- what no condition disables stands for itself
pub enabled_is : (at : ResolveCtx) (e : AstExpr) (u : Unit {0}) → at.answers.cfg (site_of (pointer_at at e.id e.range)) ≡ Ok u
    → asked_expr at e ≡ kept_expr at e
enabled_is at e u h = ap (λ r. asked (pointer_at at e.id e.range) r (kept_expr at e)) h

abbrev pub nothing_kept : Unit {0} → Lowering (Option ExprId)
nothing_kept _ = pure None

-- and of what one disables it is told that it does
pub disabled_on : (at : ResolveCtx) (e : AstExpr) (by : CfgId) (b : Builder)
    → at.answers.cfg (site_of (pointer_at at e.id e.range)) ≡ Err by
    → lower_kept (asked_expr at e) b
    ≡ go_on (report (InactiveCode (pointer_at at e.id e.range) by) b).0 (report (InactiveCode (pointer_at at e.id e.range) by) b).1
    nothing_kept
unfolding track_gone
disabled_on at e by b h = ap (λ r. lower_kept (asked (pointer_at at e.id e.range) r (kept_expr at e)) b) h

pub only_control : (k : AstExprKind) → IsControl (out-ExprKind k)
    → ((c : Option AstExpr) (t : Option AstBlockExpr) (e : Option AstElseBranch) → k ≡ kind.IfExpr c t e → ⊥)
    → ((b : AstBlockExpr) → k ≡ kind.BlockExpr b → ⊥)
    → ((l : Option AstLabel) (b : Option AstBlockExpr) → k ≡ kind.LoopExpr l b → ⊥)
    → ((l : Option AstLabel) (c : Option AstExpr) (b : Option AstBlockExpr) → k ≡ kind.WhileExpr l c b → ⊥)
    → ((e : Option AstExpr) → k ≡ kind.TryExpr e → ⊥)
    → ((l : Option AstLifetime) → k ≡ kind.ContinueExpr l → ⊥)
    → ((l : Option AstLifetime) (e : Option AstExpr) → k ≡ kind.BreakExpr l e → ⊥) → ⊥
only_control k is no_if no_block no_loop no_while no_try no_continue no_break = by (out-ExprKind k) refl is
  where
    by : (l : ExprKindLayer written) → out-ExprKind k ≡ l → IsControl l → ⊥
    by (ExprKind-F.IfExpr c t e) h is = no_if c t e (made k _ h ∙ kind.rolls-IfExpr c t e)
    by (ExprKind-F.BlockExpr b) h is = no_block b (made k _ h ∙ kind.rolls-BlockExpr b)
    by (ExprKind-F.LoopExpr l b) h is = no_loop l b (made k _ h ∙ kind.rolls-LoopExpr l b)
    by (ExprKind-F.WhileExpr l c b) h is = no_while l c b (made k _ h ∙ kind.rolls-WhileExpr l c b)
    by (ExprKind-F.TryExpr e) h is = no_try e (made k _ h ∙ kind.rolls-TryExpr e)
    by (ExprKind-F.ContinueExpr l) h is = no_continue l (made k _ h ∙ kind.rolls-ContinueExpr l)
    by (ExprKind-F.BreakExpr l e) h is = no_break l e (made k _ h ∙ kind.rolls-BreakExpr l e)
    by _ h is = is

pub only_matching : (k : AstExprKind) → IsMatching (out-ExprKind k)
    → ((p : Option AstPat) (e : Option AstExpr) → k ≡ kind.LetExpr p e → ⊥)
    → ((e : Option AstExpr) (as' : Option (List AstMatchArm)) → k ≡ kind.MatchExpr e as' → ⊥)
    → ((l : Option AstLabel) (p : Option AstPat) (e : Option AstExpr) (b : Option AstBlockExpr) → k ≡ kind.ForExpr l p e b → ⊥)
    → ((ps : Option (List AstParam)) (r : Option AstRetType) (e : Option AstExpr) (is_async is_gen moves is_static : Bool)
    → k ≡ kind.ClosureExpr ps r e is_async is_gen moves is_static → ⊥) → ⊥
only_matching k is no_let no_match no_for no_closure = by (out-ExprKind k) refl is
  where
    by : (l : ExprKindLayer written) → out-ExprKind k ≡ l → IsMatching l → ⊥
    by (ExprKind-F.LetExpr p e) h is = no_let p e (made k _ h ∙ kind.rolls-LetExpr p e)
    by (ExprKind-F.MatchExpr e as') h is = no_match e as' (made k _ h ∙ kind.rolls-MatchExpr e as')
    by (ExprKind-F.ForExpr l p e b) h is = no_for l p e b (made k _ h ∙ kind.rolls-ForExpr l p e b)
    by (ExprKind-F.ClosureExpr ps r e is_async is_gen moves is_static) h is =
        no_closure ps r e is_async is_gen moves is_static (made k _ h ∙ kind.rolls-ClosureExpr ps r e is_async is_gen moves is_static)
    by _ h is = is

pub only_listing : (k : AstExprKind) → IsListing (out-ExprKind k)
    → ((f : Option AstExpr) (es : Option (List AstExpr)) → k ≡ kind.CallExpr f es → ⊥)
    → ((e : Option AstExpr) (n : Option AstName) (as' : Option AstGenericArgList) (es : Option (List AstExpr))
    → k ≡ kind.MethodCallExpr e n as' es → ⊥)
    → ((comma : Bool) (es : List AstExpr) → k ≡ kind.TupleExpr comma es → ⊥)
    → ((es : List AstExpr) → k ≡ kind.ArrayExpr es → ⊥)
    → ((e n : Option AstExpr) → k ≡ kind.RepeatExpr e n → ⊥) → ⊥
only_listing k is no_call no_methodcall no_tuple no_array no_repeat = by (out-ExprKind k) refl is
  where
    by : (l : ExprKindLayer written) → out-ExprKind k ≡ l → IsListing l → ⊥
    by (ExprKind-F.CallExpr f es) h is = no_call f es (made k _ h ∙ kind.rolls-CallExpr f es)
    by (ExprKind-F.MethodCallExpr e n as' es) h is = no_methodcall e n as' es (made k _ h ∙ kind.rolls-MethodCallExpr e n as' es)
    by (ExprKind-F.TupleExpr comma es) h is = no_tuple comma es (made k _ h ∙ kind.rolls-TupleExpr comma es)
    by (ExprKind-F.ArrayExpr es) h is = no_array es (made k _ h ∙ kind.rolls-ArrayExpr es)
    by (ExprKind-F.RepeatExpr e n) h is = no_repeat e n (made k _ h ∙ kind.rolls-RepeatExpr e n)
    by _ h is = is

pub only_access : (k : AstExprKind) → IsAccess (out-ExprKind k)
    → ((e : Option AstExpr) → k ≡ kind.ParenExpr e → ⊥)
    → ((e : Option AstExpr) (n : Option AstName) → k ≡ kind.FieldExpr e n → ⊥)
    → ((a : Option AstExpr) (b : Option AstExpr) → k ≡ kind.IndexExpr a b → ⊥)
    → ((r : Bool) (m : Bool) (e : Option AstExpr) → k ≡ kind.RefExpr r m e → ⊥) → ⊥
only_access k is no_paren no_field no_index no_ref = by (out-ExprKind k) refl is
  where
    by : (l : ExprKindLayer written) → out-ExprKind k ≡ l → IsAccess l → ⊥
    by (ExprKind-F.ParenExpr e) h is = no_paren e (made k _ h ∙ kind.rolls-ParenExpr e)
    by (ExprKind-F.FieldExpr e n) h is = no_field e n (made k _ h ∙ kind.rolls-FieldExpr e n)
    by (ExprKind-F.IndexExpr a b) h is = no_index a b (made k _ h ∙ kind.rolls-IndexExpr a b)
    by (ExprKind-F.RefExpr r m e) h is = no_ref r m e (made k _ h ∙ kind.rolls-RefExpr r m e)
    by _ h is = is

pub only_operator : (k : AstExprKind) → IsOperator (out-ExprKind k)
    → ((o : Option UnaryOp) (e : Option AstExpr) → k ≡ kind.PrefixExpr o e → ⊥)
    → ((o : Option BinaryOp) (a : Option AstExpr) (b : Option AstExpr) → k ≡ kind.BinExpr o a b → ⊥)
    → ((e : Option AstExpr) → k ≡ kind.AwaitExpr e → ⊥)
    → ((o : Option RangeOp) (a : Option AstExpr) (b : Option AstExpr) → k ≡ kind.RangeExpr o a b → ⊥) → ⊥
only_operator k is no_prefix no_bin no_await no_range = by (out-ExprKind k) refl is
  where
    by : (l : ExprKindLayer written) → out-ExprKind k ≡ l → IsOperator l → ⊥
    by (ExprKind-F.PrefixExpr o e) h is = no_prefix o e (made k _ h ∙ kind.rolls-PrefixExpr o e)
    by (ExprKind-F.BinExpr o a b) h is = no_bin o a b (made k _ h ∙ kind.rolls-BinExpr o a b)
    by (ExprKind-F.AwaitExpr e) h is = no_await e (made k _ h ∙ kind.rolls-AwaitExpr e)
    by (ExprKind-F.RangeExpr o a b) h is = no_range o a b (made k _ h ∙ kind.rolls-RangeExpr o a b)
    by _ h is = is

pub only_leaving : (k : AstExprKind) → IsLeaving (out-ExprKind k)
    → ((e : Option AstExpr) → k ≡ kind.ReturnExpr e → ⊥)
    → ((e : Option AstExpr) → k ≡ kind.BecomeExpr e → ⊥)
    → ((e : Option AstExpr) → k ≡ kind.YieldExpr e → ⊥)
    → ((e : Option AstExpr) → k ≡ kind.YeetExpr e → ⊥) → ⊥
only_leaving k is no_return no_become no_yield no_yeet = by (out-ExprKind k) refl is
  where
    by : (l : ExprKindLayer written) → out-ExprKind k ≡ l → IsLeaving l → ⊥
    by (ExprKind-F.ReturnExpr e) h is = no_return e (made k _ h ∙ kind.rolls-ReturnExpr e)
    by (ExprKind-F.BecomeExpr e) h is = no_become e (made k _ h ∙ kind.rolls-BecomeExpr e)
    by (ExprKind-F.YieldExpr e) h is = no_yield e (made k _ h ∙ kind.rolls-YieldExpr e)
    by (ExprKind-F.YeetExpr e) h is = no_yeet e (made k _ h ∙ kind.rolls-YeetExpr e)
    by _ h is = is

pub only_typed : (k : AstExprKind) → IsTyped (out-ExprKind k)
    → ((x : Option AstPath) → k ≡ kind.PathExpr x → ⊥)
    → ((e : Option AstExpr) (t : Option AstType_) → k ≡ kind.CastExpr e t → ⊥)
    → ((x : Option AstPath) (l : Option AstFieldList) → k ≡ kind.RecordExpr x l → ⊥)
    → ((t : Option AstType_) (ns : List AstName) → k ≡ kind.OffsetOfExpr t ns → ⊥) → ⊥
only_typed k is no_path no_cast no_record no_offset = by (out-ExprKind k) refl is
  where
    by : (l : ExprKindLayer written) → out-ExprKind k ≡ l → IsTyped l → ⊥
    by (ExprKind-F.PathExpr x) h is = no_path x (made k _ h ∙ kind.rolls-PathExpr x)
    by (ExprKind-F.CastExpr e t) h is = no_cast e t (made k _ h ∙ kind.rolls-CastExpr e t)
    by (ExprKind-F.RecordExpr x l) h is = no_record x l (made k _ h ∙ kind.rolls-RecordExpr x l)
    by (ExprKind-F.OffsetOfExpr t ns) h is = no_offset t ns (made k _ h ∙ kind.rolls-OffsetOfExpr t ns)
    by _ h is = is

pub only_leaf : (k : AstExprKind) → IsLeaf (out-ExprKind k)
    → ((l : AstLiteral) → k ≡ kind.Literal l → ⊥)
    → ((pred : Option PredId) → k ≡ kind.CfgPredExpr pred → ⊥)
    → (k ≡ kind.UnderscoreExpr → ⊥)
    → (k ≡ kind.IncludeBytesExpr → ⊥)
    → (k ≡ kind.AsmExpr → ⊥)
    → (k ≡ kind.FormatArgsExpr → ⊥) → ⊥
only_leaf k is no_literal no_cfgpred no_underscore no_includebytes no_asm no_formatargs = by (out-ExprKind k) refl is
  where
    by : (l : ExprKindLayer written) → out-ExprKind k ≡ l → IsLeaf l → ⊥
    by (ExprKind-F.Literal l) h is = no_literal l (made k _ h ∙ kind.rolls-Literal l)
    by (ExprKind-F.CfgPredExpr pred) h is = no_cfgpred pred (made k _ h ∙ kind.rolls-CfgPredExpr pred)
    by ExprKind-F.UnderscoreExpr h is = no_underscore (made k _ h ∙ kind.rolls-UnderscoreExpr)
    by ExprKind-F.IncludeBytesExpr h is = no_includebytes (made k _ h ∙ kind.rolls-IncludeBytesExpr)
    by ExprKind-F.AsmExpr h is = no_asm (made k _ h ∙ kind.rolls-AsmExpr)
    by ExprKind-F.FormatArgsExpr h is = no_formatargs (made k _ h ∙ kind.rolls-FormatArgsExpr)
    by _ h is = is
