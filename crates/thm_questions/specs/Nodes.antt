-- The nodes of a written tree about which something may be asked. What its macro calls stand for is no part of it.
use Rattle.std.specs.Prelude.{List, [], ◌∷◌, ◌++◌, Option, Some, None}
use Rattle.hir_base.specs.declared.node.NodeId.{NodeId}
use Rattle.hir_syntax.specs.declared.ast.ElseBranch.TheOpen.{ElseBranch-F, ExprKind-F, StmtKind-F, PatKind-F, GenericArg-F, TypeKind-F}
use Rattle.hir_syntax.specs.declared.ast.Expr.{Expr as AstExpr}
use Rattle.hir_syntax.specs.declared.ast.Label.{Label as AstLabel}
use Rattle.hir_syntax.specs.declared.ast.Lifetime.{Lifetime as AstLifetime}
use Rattle.hir_syntax.specs.declared.ast.Name.{Name as AstName}
use Rattle.hir_syntax.specs.declared.ast.Path.{Path as AstPath}
use Rattle.hir_syntax.specs.declared.ast.PathSegment.{PathSegment as AstPathSegment, out-PathSegment}
use Rattle.hir_syntax.specs.declared.macros.MacroCall.{MacroCall as AstMacroCall, out-MacroCall}
use Rattle.hir_syntax.specs.declared.params.ParamList.{ParamList as AstParamList}
use Rattle.hir_syntax.specs.declared.params.SelfParam.{SelfParam as AstSelfParam}
use Rattle.hir_syntax.specs.declared.pats.Pat.{Pat as AstPat}
use Rattle.hir_syntax.specs.declared.types.Param.{Param as AstParam, out-Param}
use Rattle.hir_syntax.specs.declared.types.TypeBound.{TypeBound as AstTypeBound}
use Rattle.hir_syntax.specs.declared.types.Type_.{Type_ as AstType_}
use Rattle.hir_env.specs.Layers.{BlockExprLayer, ElseBranchLayer, ExprKindLayer}
use Rattle.hir_env.specs.Layers.{Sorts, StmtKindLayer}
use Rattle.hir_env.specs.PatLayers.{PatKindLayer}
use Rattle.hir_env.specs.TypeLayers.{GenericArgLayer, PathSegmentLayer}
use Rattle.hir_env.specs.TypeLayers.{TypeKindLayer}
use Rattle.spec_fold.specs.Folds.{Steps, fold_expr, fold_pat, fold_path, fold_segment, fold_type, fold_type_bound, with_made}
use Rattle.thm_questions.specs.Parts.{of_each, of_option, of_present}

-- of each sort the nodes in it, with its own, which a kind is given
abbrev pub nodes : Sorts
nodes = record {
  ElseBranch = List NodeId;
  ExprKind = NodeId → List NodeId;
  StmtKind = NodeId → List NodeId;
  PatKind = List NodeId;
  GenericArg = List NodeId;
  TypeKind = List NodeId;
  BlockExpr = List NodeId;
  Expr = List NodeId;
  Path = List NodeId;
  PathSegment = List NodeId;
  RecordExprField = List NodeId;
  RecordExprFieldList = List NodeId;
  Stmt = List NodeId;
  MatchArm = List NodeId;
  MacroCall = Unit {0};
  Pat = List NodeId;
  RecordPatField = List NodeId;
  AssocTypeArg = List NodeId;
  Param = List NodeId;
  PathType = List NodeId;
  TypeBound = List NodeId;
  Type_ = List NodeId;
}

-- parts

module _ {A : Type 0} where
  abbrev pub some : Option (A × List NodeId) → List NodeId
  some x = of_option (λ y. y.1) x

  abbrev pub each : List (A × List NodeId) → List NodeId
  each xs = of_each (λ y. y.1) xs

  abbrev pub some_each : Option (List (A × List NodeId)) → List NodeId
  some_each x = of_option each x

  abbrev pub some_some : Option (Option (A × List NodeId)) → List NodeId
  some_some x = of_option some x

abbrev pub label_node : Option AstLabel → List NodeId
label_node l = of_option (λ l. l.id ∷ []) l

abbrev pub lifetime_node : Option AstLifetime → List NodeId
lifetime_node l = of_option (λ l. l.id ∷ []) l

abbrev pub name_node : Option AstName → List NodeId
name_node n = of_option (λ n. n.id ∷ []) n

abbrev pub call_node : Option (AstMacroCall × Unit {0}) → List NodeId
call_node c = of_option (λ c. (out-MacroCall c.0).id ∷ []) c

-- its own, and those in it
abbrev pub segment_nodes : AstPathSegment × List NodeId → List NodeId
segment_nodes s = (out-PathSegment s.0).id ∷ s.1

-- one level

abbrev pub expr_nodes : ExprKindLayer (with_made nodes) → NodeId → List NodeId
expr_nodes (ExprKind-F.IfExpr c t e) id = some c ++ (some t ++ some e)
expr_nodes (ExprKind-F.BlockExpr b) id = b.1
expr_nodes (ExprKind-F.LoopExpr l b) id = label_node l ++ some b
expr_nodes (ExprKind-F.WhileExpr l c b) id = label_node l ++ (some c ++ some b)
expr_nodes (ExprKind-F.ForExpr l x h b) id = label_node l ++ (some x ++ (some h ++ some b))
expr_nodes (ExprKind-F.TryExpr e) id = some e
expr_nodes (ExprKind-F.CallExpr f es) id = some f ++ some_each es
expr_nodes (ExprKind-F.PathExpr x) id = some x ++ (id ∷ [])
expr_nodes (ExprKind-F.ContinueExpr l) id = lifetime_node l
expr_nodes (ExprKind-F.BreakExpr l e) id = lifetime_node l ++ some e
expr_nodes (ExprKind-F.ParenExpr e) id = some e
expr_nodes (ExprKind-F.MethodCallExpr e n as' es) id = some e ++ (some_each es ++ some_each as')
expr_nodes (ExprKind-F.FieldExpr e n) id = some e
expr_nodes (ExprKind-F.PrefixExpr o e) id = some e
expr_nodes (ExprKind-F.BinExpr o a b) id = some a ++ some b
expr_nodes (ExprKind-F.IndexExpr a b) id = some a ++ some b
expr_nodes (ExprKind-F.RefExpr r m e) id = some e
expr_nodes (ExprKind-F.TupleExpr comma es) id = each es
expr_nodes (ExprKind-F.ArrayExpr es) id = each es
expr_nodes (ExprKind-F.RepeatExpr e n) id = some e ++ some n
expr_nodes (ExprKind-F.ClosureExpr ps r e is_async is_gen moves is_static) id = some_each ps ++ (some_some r ++ some e)
expr_nodes (ExprKind-F.ReturnExpr e) id = some e
expr_nodes (ExprKind-F.BecomeExpr e) id = some e
expr_nodes (ExprKind-F.YieldExpr e) id = some e
expr_nodes (ExprKind-F.YeetExpr e) id = some e
expr_nodes (ExprKind-F.AwaitExpr e) id = some e
expr_nodes (ExprKind-F.CastExpr e t) id = some e ++ some t
expr_nodes (ExprKind-F.RecordExpr x l) id = some x ++ some l
expr_nodes (ExprKind-F.OffsetOfExpr t ns) id = some t
expr_nodes (ExprKind-F.LetExpr x e) id = some x ++ some e
expr_nodes (ExprKind-F.MatchExpr e as') id = some e ++ some_each as'
expr_nodes (ExprKind-F.RangeExpr o a b) id = some a ++ some b
expr_nodes (ExprKind-F.MacroExpr c) id = call_node c
expr_nodes _ id = []

abbrev pub else_nodes : ElseBranchLayer (with_made nodes) → List NodeId
else_nodes (ElseBranch-F.ElseBlock b) = b.1
else_nodes (ElseBranch-F.ElseIf e) = e.1

abbrev pub stmt_nodes : StmtKindLayer (with_made nodes) → NodeId → List NodeId
stmt_nodes (StmtKind-F.LetStmt x t e b) id = id ∷ (some x ++ (some t ++ (some e ++ some_some b)))
stmt_nodes (StmtKind-F.ExprStmt e semi) id = some e
stmt_nodes (StmtKind-F.MacroRules x) id = id ∷ []
stmt_nodes (StmtKind-F.MacroDef x) id = id ∷ []
stmt_nodes StmtKind-F.Item id = []

abbrev pub block_nodes : BlockExprLayer (with_made nodes) → List NodeId
block_nodes b = b.id ∷ (label_node b.label ++ (some b.ty ++ (each b.stmts ++ some b.tail)))

abbrev pub pat_nodes : PatKindLayer (with_made nodes) → List NodeId
pat_nodes (PatKind-F.IdentPat n is_ref is_mut x) = name_node n ++ some x
pat_nodes (PatKind-F.TupleStructPat x comma xs) = some x ++ each xs
pat_nodes (PatKind-F.TuplePat comma xs) = each xs
pat_nodes (PatKind-F.RefPat is_mut x) = some x
pat_nodes (PatKind-F.PathPat x) = some x
pat_nodes (PatKind-F.OrPat xs) = each xs
pat_nodes (PatKind-F.ParenPat x) = some x
pat_nodes (PatKind-F.BoxPat x) = some x
pat_nodes (PatKind-F.DerefPat x) = some x
pat_nodes (PatKind-F.RecordPat x fs dots) = some x ++ each fs
pat_nodes (PatKind-F.SlicePat xs y zs) = each xs ++ (some y ++ each zs)
pat_nodes (PatKind-F.RangePat o x y) = some x ++ some y
pat_nodes (PatKind-F.MacroPat c) = call_node c
pat_nodes _ = []

abbrev pub type_nodes : TypeKindLayer (with_made nodes) → List NodeId
type_nodes (TypeKind-F.ParenType t) = some t
type_nodes (TypeKind-F.SliceType t) = some t
type_nodes (TypeKind-F.ArrayType t c) = some_some c ++ some t
type_nodes (TypeKind-F.TupleType ts) = each ts
type_nodes (TypeKind-F.PathType x) = some x
type_nodes (TypeKind-F.PtrType m t) = some t
type_nodes (TypeKind-F.RefType l m t) = some t
type_nodes (TypeKind-F.FnPtrType is_unsafe text ps r) = some_each ps ++ some_some r
type_nodes (TypeKind-F.ForType b t) = some t
type_nodes (TypeKind-F.ImplTraitType bs) = each bs
type_nodes (TypeKind-F.DynTraitType bs) = each bs
type_nodes (TypeKind-F.PatternType t x) = some t ++ some x
type_nodes (TypeKind-F.MacroType c) = call_node c
type_nodes _ = []

abbrev pub arg_nodes : GenericArgLayer (with_made nodes) → List NodeId
arg_nodes (GenericArg-F.TypeArg x) = some x
arg_nodes (GenericArg-F.AssocTypeArg x) = x.1
arg_nodes (GenericArg-F.LifetimeArg x) = []
arg_nodes (GenericArg-F.ConstArg x) = some x

abbrev pub in_parens : Option (List (Option (AstType_ × List NodeId))) → List NodeId
in_parens x = of_option (of_each some) x

-- its name, its arguments, and what is qualified
abbrev pub in_segment : PathSegmentLayer (with_made nodes) → List NodeId
in_segment s = name_node s.name ++ ((some_each s.generics ++ (in_parens s.parens ++ some_some s.ret)) ++ (some s.ty ++ some s.trait_))

abbrev pub node_steps : Steps nodes
node_steps = record {
  else_branch = else_nodes;
  expr_kind = λ k id. id ∷ expr_nodes k id;
  stmt_kind = stmt_nodes;
  pat_kind = pat_nodes;
  generic_arg = arg_nodes;
  type_kind = type_nodes;
  block = block_nodes;
  expr = λ e. e.kind.1 e.id;
  path = λ x. of_present segment_nodes x.segs ++ some x.use_;
  segment = in_segment;
  field = λ x. x.id ∷ some x.expr;
  field_list = λ x. each x.fields ++ some x.spread;
  stmt = λ s. s.kind.1 s.id;
  arm = λ x. x.id ∷ (some x.pat ++ (some x.expr ++ some_some x.guard));
  call = λ c. tt;
  pat = λ x. x.kind.1;
  pat_field = λ x. x.id ∷ some x.pat;
  assoc_type_arg = λ x. some_each x.generics ++ (some x.ty ++ each x.bounds);
  param = λ x. x.id ∷ (some x.pat ++ some x.ty);
  path_type = λ t. some t.path;
  type_bound = λ b. some b.ty;
  type = λ t. t.kind.1;
}

-- whole trees

abbrev pub nodes_of : AstExpr → List NodeId
nodes_of = fold_expr nodes node_steps

abbrev pub pat_nodes_of : AstPat → List NodeId
pat_nodes_of = fold_pat nodes node_steps

abbrev pub path_nodes_of : AstPath → List NodeId
path_nodes_of = fold_path nodes node_steps

abbrev pub type_nodes_of : AstType_ → List NodeId
type_nodes_of = fold_type nodes node_steps

abbrev pub segment_nodes_of : AstPathSegment → List NodeId
segment_nodes_of = fold_segment nodes node_steps

abbrev pub bound_nodes_of : AstTypeBound → List NodeId
bound_nodes_of = fold_type_bound nodes node_steps

-- those of the parameters of an item
abbrev pub self_nodes : Option AstSelfParam → List NodeId
self_nodes None = []
self_nodes (Some x) = x.id ∷ name_node x.name

abbrev pub formal_nodes : AstParam → List NodeId
formal_nodes x = (out-Param x).id ∷ of_option pat_nodes_of (out-Param x).pat

abbrev pub formals_nodes : Option AstParamList → List NodeId
formals_nodes None = []
formals_nodes (Some x) = self_nodes x.self_ ++ of_each formal_nodes x.params
