-- Steps whose answer reaches expressions, or holds them inside, that were reached before or that they stored, each once.
use Rattle.std.proofs.Common.{◌≡◌, ◌∙◌, refl, ap, ℕ, zero, suc, ◌+◌, ◌≤◌, List, [], ◌∷◌, ◌++◌, length, slice_get, Option, Some, arith}
use Rattle.hir_store.specs.Pointers.{Pointer}
use Rattle.hir_store.specs.Stored.{Store, Stored, store_of}
use Rattle.hir_store.specs.declared.hir.Expr.{Expr as HirExpr}
use Rattle.hir_store.specs.declared.ids.ExprId.{ExprId}
use Rattle.hir_store.specs.declared.ids.PatId.{PatId}
use Rattle.hir_store.specs.declared.ids.TypeRefId.{TypeRefId}
use Rattle.hir_store.specs.declared.pat.Pat.{Pat}
use Rattle.hir_store.specs.declared.type_ref.ConstRef.{ConstRef}
use Rattle.hir_store.specs.declared.type_ref.TypeRef.{TypeRef}
use Rattle.hir_lower_builder.specs.Lowering.{alloc_expr, alloc_desugared, alloc_desugared_pat, alloc_pat, alloc_type}
use Rattle.hir_lower_builder.specs.Lower.{ExprSteps}
use Rattle.hir_lower_builder.specs.Preludes.{alloc_beside}
use Rattle.spec_semantics.specs.Inner.{Inners, Inside, handed_to, of_type, of_expr, of_constant, of_limit, of_type_pat}
use Rattle.spec_semantics.specs.Places.{places_in, places_to}
use Rattle.thm_logic.proofs.Frames.{Frame}
use Rattle.thm_logic.proofs.MadeSteps.{correct_alloc_desugared}
use Rattle.thm_logic.proofs.PatSteps.{AllocatedPatBy, PutPat, correct_alloc_beside, correct_alloc_desugared_pat, correct_alloc_pat}
use Rattle.thm_logic.proofs.Steps.{Mark, Grows, Correct, correct_as, correct_in_store, correct_alloc}
use Rattle.thm_logic.proofs.Steps.{correct_alloc_type, Put, AllocatedBy}
use Rattle.thm_semantics.specs.Reached.{below, of_each, reached_to}
use Rattle.thm_type_result.specs.Unrun.{unrun_of_pat, unruns}
use Rattle.thm_type_result.proofs.Counted.{times, less, one_past}

-- weights

abbrev pub sum : (ExprId → ℕ) → List Inside → ℕ
sum k [] = 0
sum k (x ∷ xs) = k x.expr + sum k xs

pub sum_append : (k : ExprId → ℕ) (xs ys : List Inside) → sum k (xs ++ ys) ≡ sum k xs + sum k ys
sum_append k [] ys = omega arith
sum_append k (x ∷ xs) ys = let e = sum_append k xs ys in omega arith

-- whatever they are handed
pub sum_handed : (k : ExprId → ℕ) (ps : List PatId) (xs : List Inside) → sum k (handed_to ps xs) ≡ sum k xs
sum_handed k ps [] = refl
sum_handed k ps (x ∷ xs) = refl

-- costs: how often a number is reached

-- what each expression reaches, how often that number is in what one inside reaches, what is inside, and how deep places are
pub record View : Type 0 where
  pub store : Store
  pub number : ℕ
  pub reach : ExprId → List ℕ
  pub weight : ExprId → ℕ
  pub held : Inners
  pub place : ℕ

abbrev pub view : Stored → ℕ → ℕ → ℕ → ℕ → ℕ → View
view final all number reach hold place = record {
  store = store_of final;
  number = number;
  reach = reached_to (store_of final) reach;
  weight = λ i. times number (reached_to (store_of final) all i);
  held = unruns (store_of final) hold;
  place = place;
}

abbrev pub Cost : Type 0
Cost = View → ℕ

abbrev pub free : Cost
free v = 0

-- with as much beside it
abbrev pub beside : Cost → Cost → Cost
beside more now v = more v + now v

abbrev pub an_expr : ExprId → Cost
an_expr i v = times v.number (v.reach i) + sum v.weight (v.held.expr i)

abbrev pub a_type : TypeRefId → Cost
a_type i v = sum v.weight (v.held.type i)

abbrev pub a_constant : ConstRef → Cost
a_constant c v = sum v.weight (of_constant v.held c)

-- the end of a range in a type
abbrev pub a_limit : ExprId → Cost
a_limit e v = sum v.weight (of_limit v.held e)

abbrev pub a_pat : PatId → Cost
a_pat p v = sum v.weight (v.held.pat p)

-- a pattern of a type
abbrev pub a_type_pat : PatId → Cost
a_type_pat p v = sum v.weight (v.held.type_pat p)

-- the assignee expression, whose places are reached
abbrev pub a_target : PatId → Cost
a_target p v = times v.number (of_each v.reach (places_to v.store v.place p [])) + sum v.weight (v.held.pat p)

-- what an expression reaches and holds
abbrev pub in_expr : HirExpr → Cost
in_expr e v = times v.number (below v.reach v.store e) + sum v.weight (of_expr v.held e)

-- Looked into so deep as was stored before, `was` costs no less than the answer does now, except for the number that was given out.
pub record Earlier (was : Cost) (final : Stored) (m m' : Mark) (all number now : ℕ) : Type 0 where
  pub reach : ℕ
  pub hold : ℕ
  pub place : ℕ
  pub deep : m.nodes ≤ reach
  pub inside : m.nodes + m.entries ≤ hold
  pub placed : m.pats ≤ place
  pub counted : now + less number m.nodes ≤ was (view final all number reach hold place) + less number m'.nodes

-- looked into so deep that all is reached that is stored by then
pub record Deep (m : Mark) (all reach hold place : ℕ) : Type 0 where
  pub all_of : m.nodes ≤ all
  pub deep : m.nodes ≤ reach
  pub inside : m.nodes + m.entries ≤ hold
  pub placed : m.pats ≤ place

-- how far in is looked at what is reached, at what is held, and for places

abbrev pub DeepView : Mark → ℕ → ℕ × ℕ × ℕ → Type 0
DeepView m all d = Deep m all d.0 d.1 d.2

abbrev pub at_depth : Stored → ℕ → ℕ → ℕ × ℕ × ℕ → View
at_depth final all number d = view final all number d.0 d.1 d.2

pub record Adds {A : Type 0} (was : Cost) (now : A → Cost) (final : Stored) (ps : List Frame) (m m' : Mark) (a : A) : Type 0 where
  pub earlier : (all number reach hold place : ℕ) → Deep m' all reach hold place
      → Earlier was final m m' all number (now a (view final all number reach hold place))

-- beside what was reached

-- An expression that is held and not run costs what it reaches by itself.

-- whatever owns bindings

-- what is stored

-- a type holds what it names
pub adds_type : {was : Cost} (t : TypeRef) (source : Option Pointer) → ((v : View) → sum v.weight (of_type v.held t) ≤ was v)
    → Correct (alloc_type t source) (Adds was a_type)
unfolding unruns
adds_type {was = was} t source h = correct_as (correct_alloc_type t source) (λ final ps m m' i g row. record {
  earlier = λ all number reach hold place d.
      at_depth final m m' i all number reach hold place g d row.number row.here row.entries row.nodes;
})
  where
    at_depth : (final : Stored) (m m' : Mark) (i : TypeRefId) (all number reach hold place : ℕ) → Grows m m'
        → Deep m' all reach hold place → i.0 ≡ m.types → slice_get final.types.entries m.types ≡ Some t
        → m'.entries ≡ suc m.entries → m'.nodes ≡ m.nodes
        → Earlier was final m m' all number (a_type i (view final all number reach hold place))
    at_depth final m m' i all number reach zero place g d at here next still = absurd (omega (arith, d.inside, next))
    at_depth final m m' i all number reach (suc hold) place g d at here next still = record {
      reach = reach;
      hold = hold;
      place = place;
      deep = omega (arith, d.deep, still);
      inside = omega (arith, d.inside, next, still);
      placed = omega (arith, d.placed, g.pats);
      counted =
          let e = h (view final all number reach hold place) in
          let l = ap (less number) still in rw (at, here) (omega (arith, e, l));
    }

-- A pattern costs what this step says of it, one level further in.

abbrev OneFurther : (PatId → Cost) → Cost → Pat → Type 0
OneFurther cost step p = (final : Stored) (all number reach hold place : ℕ) (i : PatId) → slice_get final.pats.entries i.0 ≡ Some p
    → cost i (view final all number reach (suc hold) (suc place)) ≡ step (view final all number reach hold place)

added_pat : {was : Cost} {cost : PatId → Cost} {step : Cost} (p : Pat) {put : PutPat} {source : Option Pointer} {final : Stored}
    {ps : List Frame} {m m' : Mark} {i : PatId} → OneFurther cost step p → ((v : View) → step v ≤ was v)
    → AllocatedPatBy put p source final ps m m' i → Adds was cost final ps m m' i
added_pat {was = was} {cost = cost} p {final = final} {m = m} {m' = m'} {i = i} theorem h row = record {
  earlier = λ all number reach hold place d. at_depth all number reach hold place d;
}
  where
    here : slice_get final.pats.entries i.0 ≡ Some p
    here = ap (λ n. slice_get final.pats.entries n) row.number ∙ row.here

    at_depth : (all number reach hold place : ℕ) → Deep m' all reach hold place
        → Earlier was final m m' all number (cost i (view final all number reach hold place))
    at_depth all number reach zero place d = absurd (omega (arith, d.inside, row.entries))
    at_depth all number reach (suc hold) zero d = absurd (omega (arith, d.placed, row.next))
    at_depth all number reach (suc hold) (suc place) d = record {
      reach = reach;
      hold = hold;
      place = place;
      deep = omega (arith, d.deep, row.nodes);
      inside = omega (arith, d.inside, row.entries, row.nodes);
      placed = omega (arith, d.placed, row.next);
      counted =
          let c = theorem final all number reach hold place i here in
          let e = h (view final all number reach hold place) in
          let l = ap (less number) row.nodes in omega (arith, c, e, l);
    }

adds_pat_as : {was : Cost} {cost : PatId → Cost} {step : Cost} (p : Pat) (source : Option Pointer) → OneFurther cost step p
    → ((v : View) → step v ≤ was v) → Correct (alloc_pat p source) (Adds was cost)
adds_pat_as p source theorem h = correct_as (correct_alloc_pat p source) (λ final ps m m' i g row. added_pat p theorem h row)

-- a pattern holds what it names
abbrev pub in_pat : Pat → Cost
in_pat p v = sum v.weight (unrun_of_pat v.held p)

pub adds_pat : {was : Cost} (p : Pat) (source : Option Pointer) → ((v : View) → in_pat p v ≤ was v)
    → Correct (alloc_pat p source) (Adds was a_pat)
unfolding unruns
adds_pat p source h = adds_pat_as {cost = a_pat} {step = in_pat p} p source (λ final all number reach hold place i here. rw here refl) h

-- one that is made up for the node of another one
pub adds_pat_beside : {was : Cost} (p : Pat) (own : PatId) → ((v : View) → in_pat p v ≤ was v)
    → Correct (alloc_beside p own) (Adds was a_pat)
unfolding unruns
adds_pat_beside p own h = correct_as (correct_alloc_beside p own) (λ final ps m m' i g row.
    added_pat {cost = a_pat} {step = in_pat p} p (λ final all number reach hold place i here. rw here refl) h row)

abbrev pub in_type_pat : Pat → Cost
in_type_pat p v = sum v.weight (of_type_pat v.held p)

pub adds_type_pat : {was : Cost} (p : Pat) (source : Option Pointer) → ((v : View) → in_type_pat p v ≤ was v)
    → Correct (alloc_pat p source) (Adds was a_type_pat)
unfolding unruns
adds_type_pat p source h =
    adds_pat_as {cost = a_type_pat} {step = in_type_pat p} p source (λ final all number reach hold place i here. rw here refl) h

-- and its places are reached where it is assigned to
abbrev pub in_target : Pat → Cost
in_target p v = times v.number (of_each v.reach (places_in (places_to v.store v.place) p [])) + sum v.weight (unrun_of_pat v.held p)

-- whether or not a node leads to it, and whichever does
pub adds_made_target : {was : Cost} (p : Pat) (source : Option Pointer) → ((v : View) → in_target p v ≤ was v)
    → Correct (alloc_desugared_pat p source) (Adds was a_target)
unfolding unruns places_to
adds_made_target p source h = correct_as (correct_alloc_desugared_pat p source) (λ final ps m m' i g row.
    added_pat {cost = a_target} {step = in_target p} p (λ final all number reach hold place i here. rw here refl) h row)

-- an expression reaches itself and what it names, with all places looked for, whether or not its node leads to it

pub added_expr : {was : Cost} {put : Put} (e : HirExpr) {source : Option Pointer} {final : Stored} {ps qs : List Frame} {m m' : Mark}
    {i : ExprId} → AllocatedBy put e source final qs m m' i → Grows m m' → m'.pats ≤ length final.pats.entries
    → ((all number reach hold : ℕ)
    → in_expr e (view final all number reach hold (length final.pats.entries))
    ≤ was (view final all number reach hold (length final.pats.entries)))
    → Adds was an_expr final ps m m' i
unfolding unruns reached_to
added_expr {was = was} e {final = final} {m = m} {m' = m'} {i = i} row g pats h =
    record { earlier = λ all number reach hold place d. at_depth all number reach hold place d }
  where
    at_depth : (all number reach hold place : ℕ) → Deep m' all reach hold place
        → Earlier was final m m' all number (an_expr i (view final all number reach hold place))
    at_depth all number zero hold place d = absurd (omega (arith, d.deep, row.next))
    at_depth all number (suc reach) zero place d = absurd (omega (arith, d.inside, row.next))
    at_depth all number (suc reach) (suc hold) place d = record {
      reach = reach;
      hold = hold;
      place = length final.pats.entries;
      deep = omega (arith, d.deep, row.next);
      inside = omega (arith, d.inside, row.next, g.entries);
      placed = omega (arith, pats, g.pats);
      counted =
          let x = h all number reach hold in
          let p = one_past number m.nodes in rw (row.number, row.here, row.next) (omega (arith, x, p));
    }

adds_expr_by : {was : Cost} {put : Put} {p : ExprSteps} (e : HirExpr) {source : Option Pointer} → Correct p (AllocatedBy put e source)
    → ((final : Stored) (all number reach hold : ℕ)
    → in_expr e (view final all number reach hold (length final.pats.entries))
    ≤ was (view final all number reach hold (length final.pats.entries)))
    → Correct p (Adds was an_expr)
adds_expr_by e stored h =
    correct_as (correct_in_store stored) (λ final ps m m' i g row. added_expr e row.rel g row.pats (h final))

pub adds_expr_at : {was : Cost} (e : HirExpr) (source : Option Pointer)
    → ((final : Stored) (all number reach hold : ℕ)
    → in_expr e (view final all number reach hold (length final.pats.entries))
    ≤ was (view final all number reach hold (length final.pats.entries)))
    → Correct (alloc_expr e source) (Adds was an_expr)
adds_expr_at e source h = adds_expr_by e (correct_alloc e source) h

pub adds_made : {was : Cost} (e : HirExpr) (source : Option Pointer) → ((v : View) → in_expr e v ≤ was v)
    → Correct (alloc_desugared e source) (Adds was an_expr)
adds_made e source h = adds_expr_by e (correct_alloc_desugared e source)
    (λ final all number reach hold. h (view final all number reach hold (length final.pats.entries)))

pub adds_expr : {was : Cost} (e : HirExpr) (source : Option Pointer) → ((v : View) → in_expr e v ≤ was v)
    → Correct (alloc_expr e source) (Adds was an_expr)
adds_expr e source h =
    adds_expr_at e source (λ final all number reach hold. h (view final all number reach hold (length final.pats.entries)))
