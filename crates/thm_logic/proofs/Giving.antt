-- What steps answer, whatever they store.
use Rattle.std.proofs.Common.{◌≡◌, ◌∙◌, refl, sym, ap, subst, ℕ, Bool, true, false, ◌||◌, List, [], ◌∷◌, ◌++◌, append-nil, option_to_list}
use Rattle.std.proofs.Common.{Option, Some, None, is_some}
use Rattle.hir_store.specs.declared.hir.Statement.{Statement}
use Rattle.hir_store.specs.declared.hir.Statement.TheVariants as statement
use Rattle.hir_store.specs.declared.ids.ExprId.{ExprId}
use Rattle.hir_store.specs.declared.ids.MacroDefId.{MacroDefId}
use Rattle.hir_store.specs.declared.ids.PatId.{PatId}
use Rattle.hir_store.specs.declared.ids.TypeRefId.{TypeRefId}
use Rattle.hir_env.specs.ResolvedTree as tree
use Rattle.hir_env.specs.ResolvedTree.{Expr, OptionExpr, Stmts}
use Rattle.spec_semantics.specs.Left.{is_kept, is_left, none_left, gives_value}
use Rattle.hir_lower_builder.specs.Calls.{define_form, defined, inside_macro}
use Rattle.hir_lower_builder.specs.Forms.{let_stmt_form}
use Rattle.hir_lower_builder.specs.Lower.{ExprSteps, StoredContents, kept, kept_part, lower, lower_stmts, push_some, settled, some}
use Rattle.hir_lower_builder.specs.Lowering.{Lowering, ◌>>=◌, close, open_macro}
use Rattle.thm_logic.specs.Statements.{statement_of}
use Rattle.thm_logic.proofs.Settled.{IsThere, IsEmpty, Settled, before, of_expr, empty_expr, has_value}
use Rattle.thm_logic.proofs.Settled.{push_append}
use Rattle.thm_logic.proofs.Answering.{Answering, answering_any, answering_less, answering_pure, answering_then}

-- parts that are kept

some_gives : (p : ExprSteps) → Answering (IsThere true) (some p)
some_gives p = answering_then (answering_any p) (λ i u. answering_pure (Some i) (i, refl))

kept_gives : (e : Expr) (p : ExprSteps) → Answering (IsThere (is_kept e)) (kept e p)
kept_gives (tree.disabled_expr why e) p = answering_then (answering_any _) (λ u v. answering_pure None refl)
kept_gives e p = some_gives p

kept_part_gives : (e : OptionExpr) → Answering (IsThere (is_left e)) (kept_part e)
kept_part_gives tree.no_expr = answering_pure None refl
kept_part_gives (tree.some_expr e) = kept_gives e (lower e)

-- what is in a block

-- what the statements became, behind what was there, and what the tail did
pub record Contained (ss : Stmts) (left : Bool) (done : List Statement) (r : StoredContents) : Type 0 where
  pub new : List Statement
  pub is : r.0 ≡ done ++ new
  pub empty : IsEmpty (none_left ss) new
  pub settled : Settled (gives_value ss false) new
  pub tail : IsThere left r.1

-- A statement of which this is so, before others.
more_given : {ss ts : Stmts} {left : Bool} (X : Option Statement → Type 0) {p : Lowering (Option Statement)}
    {q : List Statement → Lowering StoredContents} → Answering X p
    → ((x : Option Statement) → X x → (new : List Statement) → IsEmpty (none_left ss) new
    → IsEmpty (none_left ts) (option_to_list x ++ new))
    → ((x : Option Statement) → X x → (new : List Statement) → IsEmpty (none_left ss) new → Settled (gives_value ss false) new
    → Settled (gives_value ts false) (option_to_list x ++ new))
    → ((ys : List Statement) → Answering (λ r. Contained ss left ys r) (q ys)) → (done : List Statement)
    → Answering (λ r. Contained ts left done r) (p >>= (λ x. q (push_some done x)))
more_given X h empty settled more done = answering_then h (λ x is. answering_less (λ r c. record {
  new = option_to_list x ++ c.new;
  is = c.is ∙ push_append done x c.new;
  empty = empty x is c.new c.empty;
  settled = settled x is c.new c.empty c.settled;
  tail = c.tail;
}) (more (push_some done x)))

-- one that stays before them
stays_empty : (x : Option Statement) (s : Statement) (new : List Statement) → x ≡ Some s → IsEmpty false (option_to_list x ++ new)
stays_empty x s new e = (s, new, ap (λ y. option_to_list y ++ new) e)

stays_settled : (gives : Bool) (x : Option Statement) (s : Statement) (new : List Statement) → x ≡ Some s
    → Settled gives (s ∷ new) → Settled gives (option_to_list x ++ new)
stays_settled gives x s new e h = subst (λ y. Settled gives (option_to_list y ++ new)) (sym e) h

-- what an expression statement became, of which the expression became this
abbrev OfExpr : OptionExpr → Bool → Option Statement → Type 0
OfExpr e semi x = (o : Option ExprId) × IsThere (is_left e) o × (x ≡ statement_of semi o)

abbrev IsLet : Option Statement → Type 0
IsLet x = (p : PatId) × (t : Option TypeRefId) × (e : Option ExprId) × (b : Option ExprId) × (x ≡ Some (statement.Let p t e b))

let_gives : (p : Lowering PatId) (t : Lowering (Option TypeRefId)) (e b : Lowering (Option ExprId))
    → Answering IsLet (let_stmt_form p t e b)
unfolding let_stmt_form
let_gives p t e b = answering_then (answering_any p) (λ q u. answering_then (answering_any t) (λ y u.
    answering_then (answering_any e) (λ x u. answering_then (answering_any b) (λ z u. answering_pure _ (q, y, x, z, refl)))))

define_gives : (k : ℕ) (d : Option MacroDefId) → Answering (λ x. x ≡ Some (defined d)) (define_form k d)
unfolding define_form
define_gives k d = answering_then (answering_any _) (λ u v. answering_pure (Some (defined d)) refl)

inside_gives : {A : Type 0} {P : A → Type 0} (d : MacroDefId) {p : Lowering A} → Answering P p → Answering P (inside_macro d p)
unfolding inside_macro
inside_gives d h = answering_then (answering_any (open_macro d)) (λ u v.
    answering_then h (λ x is. answering_then (answering_any close) (λ y z. answering_pure x is)))

pub stmts_give : (ss : Stmts) (e : OptionExpr) (done : List Statement)
    → Answering (λ r. Contained ss (is_left e) done r) (lower_stmts done ss (kept_part e))
stmts_give tree.no_stmts e done = answering_then (kept_part_gives e) (λ t there. answering_pure (done, t) (record {
  new = [];
  is = sym (append-nil done);
  empty = refl;
  settled = refl;
  tail = there;
}))
stmts_give (tree.more_stmts (tree.expr_stmt x semi) ss) e done =
    more_given (OfExpr x semi) (answering_then (kept_part_gives x) (λ o there. answering_pure _ (o, there, refl)))
    (λ y k new n. empty_expr (is_left x) semi (none_left ss) k.0 (option_to_list y ++ new) new k.1
    (ap (λ z. option_to_list z ++ new) k.2) n)
    (λ y k new n s. of_expr (is_left x) semi (none_left ss) (gives_value ss false) k.0 (option_to_list y ++ new) new k.1
    (ap (λ z. option_to_list z ++ new) k.2) n s)
    (λ ys. stmts_give ss e ys) done
stmts_give (tree.more_stmts (tree.disabled_stmt at by s) ss) e done =
    more_given (λ x. x ≡ None) (answering_then (answering_any _) (λ u v. answering_pure None refl))
    (λ x k new n. subst (λ y. IsEmpty (none_left ss) (option_to_list y ++ new)) (sym k) n)
    (λ x k new n s. subst (λ y. Settled (gives_value ss false) (option_to_list y ++ new)) (sym k) s)
    (λ ys. stmts_give ss e ys) done
stmts_give (tree.more_stmts (tree.call_stmt c) ss) e done =
    more_given (λ x. x ≡ None) (answering_then (answering_any _) (λ u v. answering_pure None refl))
    (λ x k new n. subst (λ y. IsEmpty (none_left ss) (option_to_list y ++ new)) (sym k) n)
    (λ x k new n s. subst (λ y. Settled (gives_value ss false) (option_to_list y ++ new)) (sym k) s)
    (λ ys. stmts_give ss e ys) done
stmts_give (tree.more_stmts (tree.macro_stmt n None) ss) e done =
    more_given (λ x. x ≡ Some statement.Item) (define_gives n None)
    (λ x k new n. stays_empty x statement.Item new k)
    (λ x k new n s. stays_settled (gives_value ss false) x statement.Item new k
    (before (gives_value ss false) statement.Item new refl s))
    (λ ys. stmts_give ss e ys) done
stmts_give (tree.more_stmts (tree.macro_stmt n (Some d)) ss) e done =
    more_given (λ x. x ≡ Some (statement.MacroDef d)) (define_gives n (Some d))
    (λ x k new n. stays_empty x (statement.MacroDef d) new k)
    (λ x k new n s. stays_settled (gives_value ss false) x (statement.MacroDef d) new k
    (before (gives_value ss false) (statement.MacroDef d) new refl s))
    (λ ys. inside_gives d (stmts_give ss e ys)) done
stmts_give (tree.more_stmts tree.item_stmt ss) e done =
    more_given (λ x. x ≡ Some statement.Item) (answering_pure _ refl)
    (λ x k new n. stays_empty x statement.Item new k)
    (λ x k new n s. stays_settled (gives_value ss false) x statement.Item new k
    (before (gives_value ss false) statement.Item new refl s))
    (λ ys. stmts_give ss e ys) done
stmts_give (tree.more_stmts (tree.let_stmt p t x b) ss) e done =
    more_given IsLet (let_gives _ _ _ _)
    (λ y k new n. stays_empty y (statement.Let k.0 k.1 k.2 k.3) new k.4)
    (λ y k new n s. stays_settled (gives_value ss false) y (statement.Let k.0 k.1 k.2 k.3) new k.4
    (before (gives_value ss false) (statement.Let k.0 k.1 k.2 k.3) new refl s))
    (λ ys. stmts_give ss e ys) done

-- whether the block has a value
pub stmts_value : (ss : Stmts) (e : OptionExpr)
    → Answering (λ r. is_some (settled r.0 r.1).1 ≡ (is_left e || gives_value ss false)) (lower_stmts [] ss (kept_part e))
stmts_value ss e = answering_less (λ r c. subst (λ is. is_some (settled is r.1).1 ≡ (is_left e || gives_value ss false)) (sym c.is)
    (has_value (is_left e) (gives_value ss false) c.new r.1 c.tail c.settled)) (stmts_give ss e [])
