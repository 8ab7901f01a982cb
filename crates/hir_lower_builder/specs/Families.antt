-- The kinds of expressions by family. A method for each takes its own kinds apart, so that no method takes all.
use Rattle.hir_syntax.specs.declared.ast.ElseBranch.TheOpen.{ExprKind-F}
use Rattle.hir_env.specs.Layers.{ExprKindLayer}
use Rattle.hir_env.specs.Whole.{written}

-- blocks, branches, `?`, loops but `for`, and jumps
abbrev pub IsControl : ExprKindLayer written → Type 0
IsControl (ExprKind-F.IfExpr c t e) = Unit {0}
IsControl (ExprKind-F.BlockExpr b) = Unit {0}
IsControl (ExprKind-F.LoopExpr l b) = Unit {0}
IsControl (ExprKind-F.WhileExpr l c b) = Unit {0}
IsControl (ExprKind-F.TryExpr e) = Unit {0}
IsControl (ExprKind-F.ContinueExpr l) = Unit {0}
IsControl (ExprKind-F.BreakExpr l e) = Unit {0}
IsControl _ = ⊥

-- with a list of parts, or one part again and again
abbrev pub IsListing : ExprKindLayer written → Type 0
IsListing (ExprKind-F.CallExpr f es) = Unit {0}
IsListing (ExprKind-F.MethodCallExpr e n as' es) = Unit {0}
IsListing (ExprKind-F.TupleExpr comma es) = Unit {0}
IsListing (ExprKind-F.ArrayExpr es) = Unit {0}
IsListing (ExprKind-F.RepeatExpr e n) = Unit {0}
IsListing _ = ⊥

-- what stands for a thing in memory, or refers to one
abbrev pub IsAccess : ExprKindLayer written → Type 0
IsAccess (ExprKind-F.ParenExpr e) = Unit {0}
IsAccess (ExprKind-F.FieldExpr e n) = Unit {0}
IsAccess (ExprKind-F.IndexExpr a b) = Unit {0}
IsAccess (ExprKind-F.RefExpr r m e) = Unit {0}
IsAccess _ = ⊥

-- with patterns of their own
abbrev pub IsMatching : ExprKindLayer written → Type 0
IsMatching (ExprKind-F.LetExpr p e) = Unit {0}
IsMatching (ExprKind-F.MatchExpr e arms) = Unit {0}
IsMatching (ExprKind-F.ForExpr l p h b) = Unit {0}
IsMatching (ExprKind-F.ClosureExpr ps r e is_async is_gen moves is_static) = Unit {0}
IsMatching _ = ⊥

-- what works on the values of operands
abbrev pub IsOperator : ExprKindLayer written → Type 0
IsOperator (ExprKind-F.PrefixExpr o e) = Unit {0}
IsOperator (ExprKind-F.BinExpr o a b) = Unit {0}
IsOperator (ExprKind-F.AwaitExpr e) = Unit {0}
IsOperator (ExprKind-F.RangeExpr o a b) = Unit {0}
IsOperator _ = ⊥

-- by which the body is left, for good or for a while
abbrev pub IsLeaving : ExprKindLayer written → Type 0
IsLeaving (ExprKind-F.ReturnExpr e) = Unit {0}
IsLeaving (ExprKind-F.BecomeExpr e) = Unit {0}
IsLeaving (ExprKind-F.YieldExpr e) = Unit {0}
IsLeaving (ExprKind-F.YeetExpr e) = Unit {0}
IsLeaving _ = ⊥

-- with a path or a type
abbrev pub IsTyped : ExprKindLayer written → Type 0
IsTyped (ExprKind-F.PathExpr x) = Unit {0}
IsTyped (ExprKind-F.CastExpr e t) = Unit {0}
IsTyped (ExprKind-F.RecordExpr x l) = Unit {0}
IsTyped (ExprKind-F.OffsetOfExpr t ns) = Unit {0}
IsTyped _ = ⊥

-- without a part
abbrev pub IsLeaf : ExprKindLayer written → Type 0
IsLeaf (ExprKind-F.Literal l) = Unit {0}
IsLeaf (ExprKind-F.CfgPredExpr pred) = Unit {0}
IsLeaf ExprKind-F.UnderscoreExpr = Unit {0}
IsLeaf ExprKind-F.IncludeBytesExpr = Unit {0}
IsLeaf ExprKind-F.AsmExpr = Unit {0}
IsLeaf ExprKind-F.FormatArgsExpr = Unit {0}
IsLeaf _ = ⊥

-- what is no macro call, of which nothing may be left
abbrev pub IsNoCall : ExprKindLayer written → Type 0
IsNoCall (ExprKind-F.MacroExpr c) = ⊥
IsNoCall _ = Unit {0}
