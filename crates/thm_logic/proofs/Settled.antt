-- What the statements and the tail of a block are settled to.
use Rattle.std.proofs.Common.{◌≡◌, ◌∙◌, refl, sym, ap, subst, Bool, true, false, not, ◌&&◌, ◌||◌, List, [], ◌∷◌, ◌++◌, option_to_list}
use Rattle.std.proofs.Common.{append_assoc, Option, Some, None, is_some}
use Rattle.hir_store.specs.declared.hir.Statement.{Statement}
use Rattle.hir_store.specs.declared.hir.Statement.TheVariants as statement
use Rattle.hir_store.specs.declared.ids.ExprId.{ExprId}
use Rattle.hir_lower_builder.specs.Forms.{push_some}
use Rattle.hir_lower_builder.specs.Lower.{settled}
use Rattle.spec_semantics.specs.Contents.{BlockContents}
use Rattle.thm_logic.specs.Statements.{statement_of}

pub push_append : {A : Type 0} (done : List A) (x : Option A) (more : List A)
    → push_some done x ++ more ≡ done ++ (option_to_list x ++ more)
push_append done None more = refl
push_append done (Some x) more = append_assoc done (x ∷ []) more

abbrev pub IsThere : Bool → Option ExprId → Type 0
IsThere true o = (i : ExprId) × (o ≡ Some i)
IsThere false o = o ≡ None

abbrev pub IsEmpty : Bool → List Statement → Type 0
IsEmpty true is = is ≡ []
IsEmpty false is = (s : Statement) × (others : List Statement) × (is ≡ s ∷ others)

abbrev pub Settled : Bool → List Statement → Type 0
Settled gives is = BlockContents gives is None (settled is None)

-- a statement before others
pub before : (gives : Bool) (s : Statement) (others : List Statement)
    → settled (s ∷ others) None ≡ (s ∷ (settled others None).0, (settled others None).1)
    → BlockContents gives others None (settled others None) → BlockContents gives (s ∷ others) None (settled (s ∷ others) None)
before false s others e h = e ∙ ap (λ r. (s ∷ r.0, r.1)) h
before true s others e h = (h.0, ap (λ is. s ∷ is) h.1 ∙ ap (λ r. r.0 ++ statement.Expr h.0 false ∷ []) (sym e), ap (λ r. r.1) e ∙ h.2)

-- an expression statement that is left
last : (semi none gives : Bool) (v : ExprId) (others : List Statement) → IsEmpty none others
    → BlockContents gives others None (settled others None)
    → Settled ((not semi && (none && true)) || gives) (statement.Expr v semi ∷ others)
last true none gives v others n h = before gives (statement.Expr v true) others refl h
last false true gives v others n h =
    subst (λ is. BlockContents true (statement.Expr v false ∷ is) None (settled (statement.Expr v false ∷ is) None)) (sym n) (v, refl, refl)
last false false gives v others n h = before gives (statement.Expr v false) others (subst Later (sym n.2) refl) h
  where
    Later : List Statement → Type 0
    Later is = settled (statement.Expr v false ∷ is) None ≡ (statement.Expr v false ∷ (settled is None).0, (settled is None).1)

pub of_expr : (left semi none gives : Bool) (o : Option ExprId) (is others : List Statement) → IsThere left o
    → is ≡ option_to_list (statement_of semi o) ++ others
    → IsEmpty none others → Settled gives others → Settled ((left && (not semi && (none && true))) || gives) is
of_expr true semi none gives o is others t e n h =
    subst (Settled ((not semi && (none && true)) || gives))
    (sym (e ∙ ap (λ x. option_to_list (statement_of semi x) ++ others) t.1))
    (last semi none gives t.0 others n h)
of_expr false semi none gives o is others t e n h =
    subst (Settled gives) (sym (e ∙ ap (λ x. option_to_list (statement_of semi x) ++ others) t)) h

pub empty_expr : (left semi none : Bool) (o : Option ExprId) (is others : List Statement) → IsThere left o
    → is ≡ option_to_list (statement_of semi o) ++ others
    → IsEmpty none others → IsEmpty (not left && none) is
empty_expr true semi none o is others t e n =
    (statement.Expr t.0 semi, others, e ∙ ap (λ x. option_to_list (statement_of semi x) ++ others) t.1)
empty_expr false semi none o is others t e n =
    subst (IsEmpty none) (sym (e ∙ ap (λ x. option_to_list (statement_of semi x) ++ others) t)) n

-- whether anything gives the value
pub has_value : (left gives : Bool) (is : List Statement) (tail : Option ExprId) → IsThere left tail → Settled gives is
    → is_some (settled is tail).1 ≡ (left || gives)
has_value true gives is tail t h = ap (λ o. is_some (settled is o).1) t.1
has_value false true is tail t h = ap (λ o. is_some (settled is o).1) t ∙ ap is_some h.2
has_value false false is tail t h = ap (λ o. is_some (settled is o).1) t ∙ ap (λ r. is_some r.1) h
