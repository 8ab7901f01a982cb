-- What is so of whatever a node is answered as: with a condition or without, be there its items or not, whatever its modifier.
use Rattle.std.proofs.Common.{◌≡◌, refl, Bool, Option, Some, None, Result, Ok, Err}
use Rattle.hir_syntax.specs.declared.ast.BlockExpr.{BlockExpr as AstBlockExpr}
use Rattle.hir_syntax.specs.declared.ast.BlockModifier.{BlockModifier}
use Rattle.hir_syntax.specs.declared.ast.BlockModifier.TheVariants as modifier
use Rattle.hir_syntax.specs.declared.macros.MacroCall.{MacroCall as AstMacroCall}
use Rattle.hir_store.specs.Pointers.{Pointer}
use Rattle.hir_store.specs.declared.hir.CoroutineKind.{CoroutineKind}
use Rattle.hir_store.specs.declared.ids.BlockId.{BlockId}
use Rattle.hir_store.specs.declared.ids.CfgId.{CfgId}
use Rattle.hir_store.specs.declared.ids.LangItemId.{LangItemId}
use Rattle.hir_env.specs.Answers.{Answers}
use Rattle.hir_env.specs.Calls.{around, around_if, asked_call, call_pointer, called, entered_expr, expr_in, gone_in}
use Rattle.hir_env.specs.Layers.{Entering}
use Rattle.hir_env.specs.ResolveCtx.{ResolveCtx}
use Rattle.hir_env.specs.ResolvedTree as tree
use Rattle.hir_env.specs.ResolvedTree.{Block, Called, Constant, Expr, ForItems, Gone, IsWrittenLabel, Label, OptionExpr, OptionPat}
use Rattle.hir_env.specs.ResolvedTree.{OptionType}
use Rattle.hir_env.specs.ResolvedTree.{Params, QuestionItems, Stmts}
use Rattle.hir_env.specs.Answering.{asked, closure_of, for_of, question_of}
use Rattle.hir_env.specs.Whole.{own_level}
use Rattle.hir_env.specs.declared.expand.FragmentKind.TheVariants as fragment
use Rattle.hir_env.specs.declared.ctx.LowerCtx.{LowerCtx}

pub through_asked : {A : Type 0} (f : Expr → A) → ((why : Gone) (e : Expr) → f (tree.disabled_expr why e) ≡ f e)
    → (s : Pointer) (r : Result (Unit {0}) CfgId) (e : Expr) → f (asked s r e) ≡ f e
through_asked f h s (Ok _) e = refl
through_asked f h s (Err by) e = h _ e

-- what is so of a `?`, be there its items or not
pub of_question : {A : Type 0} (f : Expr → A) (a : A) (s : Pointer) (e : OptionExpr)
    → ((items : QuestionItems) → f (tree.question_expr s items e) ≡ a) → f (tree.itemless_expr s) ≡ a
    → (o : Option QuestionItems) → f (question_of o s e) ≡ a
of_question f a s e h k None = k
of_question f a s e h k (Some items) = h items

-- what is so of a `for`, be there its items or not
pub of_for : {A : Type 0} (f : Expr → A) (a : A)
    → ((s : Pointer) (items : ForItems) (label : Option Label) (w : IsWrittenLabel label) (p : OptionPat) (h b : OptionExpr)
    → f (tree.for_expr s items label w p h b) ≡ a)
    → ((s : Pointer) → f (tree.itemless_expr s) ≡ a)
    → (o : Option ForItems) (s : Pointer) (label : Option Label) (w : IsWrittenLabel label) (p : OptionPat) (h b : OptionExpr)
    → f (for_of o s label w p h b) ≡ a
of_for f a k j None s label w p h b = j s
of_for f a k j (Some items) s label w p h b = k s items label w p h b

-- what is so of a block as an expression, whatever its modifier
pub of_own : {A : Type 0} (f : Expr → A) (a : A) → ((b : Block) → f (tree.block_expr b) ≡ a)
    → ((s : Pointer) (item : Option LangItemId) (t : OptionType) (number : Option BlockId) (ss : Stmts) (e : OptionExpr)
    → f (tree.try_expr s item t number ss e) ≡ a)
    → ((s : Pointer) (c : Constant) → f (tree.const_expr s c) ≡ a)
    → ((s : Pointer) (kind : CoroutineKind) (moves : Bool) (number : Option BlockId) (ss : Stmts) (e : OptionExpr)
    → f (tree.coroutine_expr s kind moves number ss e) ≡ a)
    → (at : ResolveCtx) (m : Option BlockModifier) (b : AstBlockExpr) → f (own_level at m b) ≡ a
of_own f a h k j l at None b = h _
of_own f a h k j l at (Some modifier.Unsafe) b = h _
of_own f a h k j l at (Some modifier.Try) b = k _ _ _ _ _ _
of_own f a h k j l at (Some modifier.Const) b = j _ _
of_own f a h k j l at (Some modifier.Async) b = l _ _ _ _ _ _
of_own f a h k j l at (Some modifier.Gen) b = l _ _ _ _ _ _
of_own f a h k j l at (Some modifier.AsyncGen) b = l _ _ _ _ _ _

-- what is so of a closure, be there `async` or `gen` in front of it or not
pub of_closure : {A : Type 0} (f : Expr → A) (a : A)
    → ((s : Pointer) (moves is_static : Bool) (ps : Params) (r : OptionType) (e : OptionExpr)
    → f (tree.closure_expr s moves is_static ps r e) ≡ a)
    → ((s : Pointer) (kind : CoroutineKind) (moves : Bool) (ps : Params) (r : OptionType) (e : OptionExpr)
    → f (tree.coroutine_closure_expr s kind moves ps r e) ≡ a)
    → (o : Option CoroutineKind) (s : Pointer) (moves is_static : Bool) (ps : Params) (r : OptionType) (e : OptionExpr)
    → f (closure_of o s moves is_static ps r e) ≡ a
of_closure f a h k None s moves is_static ps r e = h s moves is_static ps r e
of_closure f a h k (Some kind) s moves is_static ps r e = k s kind moves ps r e

-- what is so of a call, be it entered or not, and of one that is gone
module _ {A : Type 0} (f : Expr → A) (a : A) (h : (s : Pointer) (c : Called) (e : OptionExpr) → f (tree.macro_expr s c e) ≡ a)
    (k : (why : Gone) (s : Pointer) (c : Called) (e : OptionExpr) → f (tree.disabled_expr why (tree.macro_expr s c e)) ≡ a) where
  of_around_if : (o : Option Gone) (s : Pointer) (c : Called) (e : OptionExpr) → f (around_if o s c e) ≡ a
  of_around_if None s c e = h s c e
  of_around_if (Some why) s c e = k _ s c e

  of_around : (s : Pointer) (c : Called) (e : OptionExpr) → f (around s c e) ≡ a
  of_around s c tree.no_expr = h s c tree.no_expr
  of_around s c (tree.some_expr e) = of_around_if (gone_in e) s c (tree.some_expr e)

  pub of_called : (env : Answers) (into : Option Entering) (c : AstMacroCall) (p : LowerCtx) (s : Pointer)
      → f (entered_expr env into c p s) ≡ a
  of_called env None c p s = h s tree.unentered tree.no_expr
  of_called env (Some into) c p s = let x = asked_call env fragment.Expr c p in of_around s (called (call_pointer p c) x) (expr_in into p x)
