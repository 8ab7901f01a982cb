-- Forms that run their operands from left to right and then make an event or leave.
use Rattle.std.proofs.Common.{◌≡◌, ℕ, List, [], Option, Some, refl, arith}
use Rattle.hir_store.specs.Pointers.{Pointer}
use Rattle.hir_store.specs.Stored.{Stored, Store, SourceMap, store_of, map_of}
use Rattle.hir_store.specs.declared.hir.Expr.{Expr}
use Rattle.hir_store.specs.declared.ids.ExprId.{ExprId}
use Rattle.hir_store.specs.declared.ids.LabelId.{LabelId}
use Rattle.hir_env.specs.NodeMap.{Site}
use Rattle.hir_env.specs.Answering.{site_of}
use Rattle.hir_lower_builder.specs.Lowering.{Lowering, ◌>>=◌ as ◌then◌, alloc_expr}
use Rattle.thm_logic.proofs.Frames.{Frame}
use Rattle.thm_logic.proofs.Steps.{Mark, Allocated, Correct, correct_bind, correct_as, correct_alloc}
use Rattle.spec_semantics.specs.Run.{Value, Operation, Leave, leave, ◌>>=◌, ends, ask, made_tuple}
use Rattle.spec_semantics.specs.Syntax.{SyntaxRun}
use Rattle.spec_semantics.specs.Store.{StoreRun, run_stored}
use Rattle.spec_semantics.specs.Jumps.{StoredEnclosed, EnclosedTo}
use Rattle.thm_semantics.proofs.Views.{numbers}
use Rattle.thm_semantics.proofs.Relation.{SameWhere, same_ends, same_bind, same_ask, same_made_tuple}
use Rattle.thm_semantics.proofs.Senses.{Base}
use Rattle.thm_semantics.proofs.Senses.{Walk, Reading, run_in, one, Goes, Runs, goes_within, goes_at}

-- where a stored expression is run: what runs its parts, and its site
pub record Where : Type 0 where
  pub store : Store
  pub source_map : SourceMap
  pub fuel : ℕ
  pub part : ExprId → StoreRun Value
  pub site : Option Site

abbrev pub node_run : Where → Expr → StoreRun Value
node_run w e = run_stored w.store w.source_map w.fuel w.part e w.site

-- in a final store, looked into so deep, from this node
abbrev looked_into : Stored → ℕ → ℕ → Pointer → Where
looked_into final d fuel at = record {
  store = store_of final;
  source_map = map_of final;
  fuel = fuel;
  part = run_in final d fuel;
  site = Some (site_of at);
}

-- what the jumps of its parts are to name
abbrev pub JumpsOf : Type 1
JumpsOf = List LabelId → ExprId → Type 0

-- no operand

pub record Event0 (e : Expr) (o : Operation) : Type 1 where
  pub runs : (w : Where) → node_run w e ≡ ask o [] w.site
  pub jumps : (s : Store) (P : JumpsOf) (ls : List LabelId) → StoredEnclosed s P ls e

pub event0_fine : {e : Expr} {o : Operation} (at : Pointer) → Event0 e o
    → Correct (alloc_expr e (Some at)) (Runs one (λ fuel ss. ask o [] (Some (site_of at))))
event0_fine {e = e} {o = o} at is = correct_as (correct_alloc e (Some at)) (λ final ps m m' i g a.
    goes_at a
    (λ fuel d le f. rw (is.runs (looked_into final d fuel at))
    (same_ask o [] (Some (site_of at))))
    (λ d le. is.jumps (store_of final) (EnclosedTo (store_of final) d) (numbers ps)))

-- one operand, or one that may be absent, or a list of them

-- how a form ends once its operands have their values
pub record Finish (B : Type 0) : Type 1 where
  pub stored : B → Option Site → StoreRun Value
  pub written : B → Option Site → SyntaxRun Value
  pub same : (names : ℕ) (ps : List Frame) (b : B) (site : Option Site) → SameWhere names ps (stored b site) (written b site)

abbrev pub asks : {B : Type 0} → Operation → (B → List Value) → Finish B
asks o values = record {
  stored = λ b site. ask o (values b) site;
  written = λ b site. ask o (values b) site;
  same = λ names ps b site. same_ask o (values b) site;
}

abbrev pub leaves : (Value → Leave) → Finish Value
leaves x = record {
  stored = λ v site. ends (leave (x v));
  written = λ v site. ends (leave (x v));
  same = λ names ps v site. same_ends (leave (x v)) refl;
}

abbrev pub makes_tuple : Finish (List Value)
makes_tuple = record {
  stored = λ vs site. made_tuple vs site;
  written = λ vs site. made_tuple vs site;
  same = λ names ps vs site. same_made_tuple vs site;
}

pub record Form1 {A B : Type 0} (e : A → Expr) (r : Reading A B) (f : Finish B) : Type 1 where
  pub runs : (w : Where) (a : A) → node_run w (e a) ≡ r.run w.fuel w.part a >>= (λ b. f.stored b w.site)
  pub jumps : (s : Store) (P : JumpsOf) (ls : List LabelId) (a : A) → r.Jumps (P ls) a → StoredEnclosed s P ls (e a)

-- the walk of such a form
abbrev pub finished : {B : Type 0} → Pointer → Walk B → Finish B → Walk Value
finished at x f fuel ss = x fuel ss >>= (λ b. f.written b (Some (site_of at)))

pub goes1 : {A B : Type 0} {e : A → Expr} {r : Reading A B} {f : Finish B} {x : Walk B} {at : Pointer} {base : Base} {m m' : Mark}
    {final : Stored} {ps qs : List Frame} {a : A} {i : ExprId} → Form1 e r f → Goes base m.nodes r x final ps a
    → Allocated (e a) (Some at) final qs m m' i → Goes base m'.nodes one (finished at x f) final ps i
goes1 {f = f} {at = at} {base = base} {final = final} {ps = ps} {a = a} is h here = goes_at here
    (λ fuel d le falls. rw (is.runs (looked_into final d fuel at) a)
    (same_bind (h.same fuel d le falls) (λ b. f.same base.names ps b (Some (site_of at)))))
    (λ d le. is.jumps (store_of final) (EnclosedTo (store_of final) d) (numbers ps) a (h.jumps d le))

pub form1_fine : {A B : Type 0} {e : A → Expr} {r : Reading A B} {f : Finish B} {p : Lowering A} {x : Walk B} (at : Pointer) → Form1 e r f
    → Correct p (Runs r x) → Correct (◌then◌ p (λ a. alloc_expr (e a) (Some at))) (Runs one (finished at x f))
form1_fine {e = e} at is hp = correct_as (correct_bind hp (λ a. correct_alloc (e a) (Some at)))
    (λ final ps m m' i g row. goes1 is (goes_within (omega arith) row.first) row.second)

-- two operands, or lists of them

pub record Event2 {A B C D : Type 0} (e : A → C → Expr) (r : Reading A B) (q : Reading C D) (o : Operation)
    (values : B → D → List Value) : Type 1 where
  pub runs : (w : Where) (a : A) (c : C)
      → node_run w (e a c) ≡ r.run w.fuel w.part a >>= (λ b. q.run w.fuel w.part c >>= (λ d. ask o (values b d) w.site))
  pub jumps : (s : Store) (P : JumpsOf) (ls : List LabelId) (a : A) (c : C) → r.Jumps (P ls) a × q.Jumps (P ls) c
      → StoredEnclosed s P ls (e a c)

pub event2_fine : {A B C D : Type 0} {e : A → C → Expr} {r : Reading A B} {q : Reading C D} {o : Operation} {values : B → D → List Value}
    {p : Lowering A} {s : Lowering C} {x : Walk B} {y : Walk D} (at : Pointer) → Event2 e r q o values
    → Correct p (Runs r x) → Correct s (Runs q y)
    → Correct (◌then◌ p (λ a. ◌then◌ s (λ c. alloc_expr (e a c) (Some at))))
    (Runs one (λ fuel ss. x fuel ss >>= (λ b. y fuel ss >>= (λ d. ask o (values b d) (Some (site_of at))))))
event2_fine {e = e} {r = r} {q = q} {o = o} {values = values} at is hp hs = correct_as
    (correct_bind hp (λ a. correct_bind hs (λ c. correct_alloc (e a c) (Some at))))
    (λ final ps m m' i g row.
    let rest = row.second in
    let h = goes_within (omega arith) row.first in
    let k = goes_within (omega arith) rest.first in
    goes_at rest.second
    (λ fuel d le f. rw (is.runs (looked_into final d fuel at) row.one rest.one)
    (same_bind (h.same fuel d le f) (λ b. same_bind (k.same fuel d le f) (λ v. same_ask o (values b v) (Some (site_of at))))))
    (λ d le. is.jumps (store_of final) (EnclosedTo (store_of final) d) (numbers ps) row.one rest.one (h.jumps d le, k.jumps d le)))
