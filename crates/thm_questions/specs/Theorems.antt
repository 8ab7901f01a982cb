-- What the lists say: what is read depends on them alone, and they are about the nodes of what is read.
use Rattle.std.specs.Prelude.{◌≡◌, List, Option}
use Rattle.hir_syntax.specs.declared.ast.Expr.{Expr as AstExpr}
use Rattle.hir_syntax.specs.declared.ast.Path.{Path as AstPath}
use Rattle.hir_syntax.specs.declared.params.ParamList.{ParamList as AstParamList}
use Rattle.hir_syntax.specs.declared.pats.Pat.{Pat as AstPat}
use Rattle.hir_syntax.specs.declared.types.Type_.{Type_ as AstType_}
use Rattle.hir_store.specs.declared.ids.DefWithBodyId.{DefWithBodyId}
use Rattle.hir_env.specs.Answers.{Answers}
use Rattle.hir_env.specs.Whole.{resolved_expr, resolved_pat, resolved_path, resolved_type}
use Rattle.hir_env.specs.declared.ctx.LowerCtx.{LowerCtx}
use Rattle.thm_frame.specs.Theorems.{body_at, rctx}
use Rattle.thm_frame.specs.Questions.{AllAlike, AllIn, Area, Here, Question}
use Rattle.thm_questions.specs.Nodes.{formals_nodes, nodes_of, pat_nodes_of, path_nodes_of, type_nodes_of}
use Rattle.thm_questions.specs.Parts.{of_option}
use Rattle.thm_questions.specs.Areas.{AgreesAtNodes, AllInNodes, Holds, NodeArea, elsewhere}
use Rattle.thm_questions.specs.Lists.{body_questions, pat_questions, path_questions, questions, type_questions}

-- Two environments that answer the list alike read the same.

abbrev pub TypesByList : Type 0
TypesByList = (a b : Answers) (p : LowerCtx) (t : AstType_) → AllAlike a b (type_questions (rctx p a) t)
    → resolved_type (rctx p a) t ≡ resolved_type (rctx p b) t

abbrev pub PathsByList : Type 0
PathsByList = (a b : Answers) (p : LowerCtx) (x : AstPath) → AllAlike a b (path_questions (rctx p a) x)
    → resolved_path (rctx p a) x ≡ resolved_path (rctx p b) x

abbrev pub PatsByList : Type 0
PatsByList = (a b : Answers) (p : LowerCtx) (x : AstPat) → AllAlike a b (pat_questions (rctx p a) x)
    → resolved_pat (rctx p a) x ≡ resolved_pat (rctx p b) x

abbrev pub ExprsByList : Type 0
ExprsByList = (a b : Answers) (p : LowerCtx) (e : AstExpr) → AllAlike a b (questions (rctx p a) e)
    → resolved_expr (rctx p a) e ≡ resolved_expr (rctx p b) e

abbrev pub BodiesByList : Type 0
BodiesByList = (a b : Answers) (item : DefWithBodyId) (p q : LowerCtx) (ps : Option AstParamList) (e : Option AstExpr)
    → AllAlike a b (body_questions a item p q ps e) → body_at a item p q ps e ≡ body_at b item p q ps e

-- What is asked of a tree is asked in each area that holds its nodes.

abbrev pub TypesAtNodes : Type 0
TypesAtNodes = (a : Answers) (area : NodeArea a) (p : LowerCtx) (t : AstType_) → Holds area p (type_nodes_of t)
    → AllInNodes area (type_questions (rctx p a) t)

abbrev pub PathsAtNodes : Type 0
PathsAtNodes = (a : Answers) (area : NodeArea a) (p : LowerCtx) (x : AstPath) → Holds area p (path_nodes_of x)
    → AllInNodes area (path_questions (rctx p a) x)

abbrev pub PatsAtNodes : Type 0
PatsAtNodes = (a : Answers) (area : NodeArea a) (p : LowerCtx) (x : AstPat) → Holds area p (pat_nodes_of x)
    → AllInNodes area (pat_questions (rctx p a) x)

abbrev pub ExprsAtNodes : Type 0
ExprsAtNodes = (a : Answers) (area : NodeArea a) (p : LowerCtx) (e : AstExpr) → Holds area p (nodes_of e)
    → AllInNodes area (questions (rctx p a) e)

-- So an environment reads the same that answers alike what may be asked there, and those of the list that are about no node and asked in no
-- module.

abbrev pub ListsKeepNodes : Type 0
ListsKeepNodes = (a : Answers) (area : NodeArea a) (b : Answers) → AgreesAtNodes area b → (qs : List Question) → AllInNodes area qs
    → AllAlike a b (elsewhere qs) → AllAlike a b qs

abbrev pub TypesKeepNodes : Type 0
TypesKeepNodes = (a : Answers) (area : NodeArea a) (b : Answers) → AgreesAtNodes area b
    → (p : LowerCtx) (t : AstType_) → Holds area p (type_nodes_of t)
    → AllAlike a b (elsewhere (type_questions (rctx p a) t)) → resolved_type (rctx p a) t ≡ resolved_type (rctx p b) t

abbrev pub PathsKeepNodes : Type 0
PathsKeepNodes = (a : Answers) (area : NodeArea a) (b : Answers) → AgreesAtNodes area b
    → (p : LowerCtx) (x : AstPath) → Holds area p (path_nodes_of x)
    → AllAlike a b (elsewhere (path_questions (rctx p a) x)) → resolved_path (rctx p a) x ≡ resolved_path (rctx p b) x

abbrev pub PatsKeepNodes : Type 0
PatsKeepNodes = (a : Answers) (area : NodeArea a) (b : Answers) → AgreesAtNodes area b
    → (p : LowerCtx) (x : AstPat) → Holds area p (pat_nodes_of x)
    → AllAlike a b (elsewhere (pat_questions (rctx p a) x)) → resolved_pat (rctx p a) x ≡ resolved_pat (rctx p b) x

abbrev pub ExprsKeepNodes : Type 0
ExprsKeepNodes = (a : Answers) (area : NodeArea a) (b : Answers) → AgreesAtNodes area b
    → (p : LowerCtx) (e : AstExpr) → Holds area p (nodes_of e)
    → AllAlike a b (elsewhere (questions (rctx p a) e)) → resolved_expr (rctx p a) e ≡ resolved_expr (rctx p b) e

abbrev pub BodiesKeepNodes : Type 0
BodiesKeepNodes = (a : Answers) (area : NodeArea a) (b : Answers) → AgreesAtNodes area b → (item : DefWithBodyId) (p q : LowerCtx)
    (ps : Option AstParamList) (e : Option AstExpr) → Holds area p (of_option nodes_of e) → Holds area q (formals_nodes ps)
    → AllAlike a b (elsewhere (body_questions a item p q ps e)) → body_at a item p q ps e ≡ body_at b item p q ps e

-- A set of files and modules that is closed under expansions and blocks is one of all nodes of these files.
abbrev pub nodes_in : {a : Answers} → Area a → NodeArea a
nodes_in area = record {
  node = λ s. area.file s.file_id;
  inside = area.inside;
  blocks = area.blocks;
  expansions = λ s c m k f x es id h i e. area.expansions s c m k f x es h i e;
}

-- What is asked of a tree that stands there is asked there.

abbrev pub TypesInFiles : Type 0
TypesInFiles = (a : Answers) (area : Area a) (p : LowerCtx) → Here area p → (t : AstType_) → AllIn area (type_questions (rctx p a) t)

abbrev pub PathsInFiles : Type 0
PathsInFiles = (a : Answers) (area : Area a) (p : LowerCtx) → Here area p → (x : AstPath) → AllIn area (path_questions (rctx p a) x)

abbrev pub PatsInFiles : Type 0
PatsInFiles = (a : Answers) (area : Area a) (p : LowerCtx) → Here area p → (x : AstPat) → AllIn area (pat_questions (rctx p a) x)

abbrev pub ExprsInFiles : Type 0
ExprsInFiles = (a : Answers) (area : Area a) (p : LowerCtx) → Here area p → (e : AstExpr) → AllIn area (questions (rctx p a) e)
