-- What a number of the store stands for.
use Rattle.std.proofs.Common.{ℕ, zero, suc, ◌≤◌, List, Option, option_map, arith}
use Rattle.hir_store.specs.Pointers.{Pointer}
use Rattle.hir_store.specs.Stored.{Stored, store_of, map_of}
use Rattle.hir_store.specs.declared.hir.Expr.{Expr}
use Rattle.hir_store.specs.declared.hir.Statement.{Statement}
use Rattle.hir_store.specs.declared.hir.RecordSpread.{RecordSpread}
use Rattle.hir_store.specs.declared.ids.ExprId.{ExprId}
use Rattle.hir_store.specs.declared.ids.LabelId.{LabelId}
use Rattle.hir_env.specs.NodeMap.{Site}
use Rattle.hir_env.specs.Answering.{site_of}
use Rattle.hir_lower_builder.specs.Lowering.{Lowering, owning}
use Rattle.spec_semantics.specs.Run.{Value}
use Rattle.hir_lower_scope.specs.Scopes.{Scope}
use Rattle.spec_semantics.specs.Syntax.{SyntaxRun}
use Rattle.spec_semantics.specs.Store.{StoreRun, run_or_unit, run_each, run_others, run_present, run_statements, run_stored, run_to}
use Rattle.hir_lower_scope.specs.Each.{Each, IfPresent}
use Rattle.spec_semantics.specs.Jumps.{EachStatement, OthersEnclosed, StoredEnclosed, EnclosedTo}
use Rattle.thm_logic.proofs.Frames.{Frame, scopes, Falls, falls_more}
use Rattle.thm_logic.proofs.Owning.{owning_keeps}
use Rattle.thm_logic.proofs.Steps.{Mark, Grows, Rel, Correct, AllocatedBy, Put}
use Rattle.thm_semantics.proofs.Views.{numbers}
use Rattle.thm_semantics.proofs.Relation.{SameWhere, same_fewer}

-- a run of the syntax, with so many turns and under these scopes
abbrev pub Walk : Type 0 → Type 0
Walk B = ℕ → List Scope → SyntaxRun B

-- the run of an expression of a final store, where it is looked into so deep
abbrev pub run_in : Stored → ℕ → ℕ → ExprId → StoreRun Value
run_in final d fuel = run_to (store_of final) (map_of final) d fuel

-- the run of a node whose parts are looked into so deep
abbrev pub node_in : Stored → ℕ → ℕ → Expr → Option Site → StoreRun Value
node_in final d fuel e site = run_stored (store_of final) (map_of final) fuel (run_in final d fuel) e site

-- how numbers are read: one, an optional one, a list, what the other fields of a record come from
pub record Reading (A B : Type 0) : Type 1 where
  pub run : ℕ → (ExprId → StoreRun Value) → A → StoreRun B
  pub Jumps : (ExprId → Type 0) → A → Type 0

abbrev pub one : Reading ExprId Value
one = record { run = λ fuel part i. part i; Jumps = λ P i. P i }

abbrev pub optional : Reading (Option ExprId) Value
optional = record { run = run_or_unit; Jumps = IfPresent }

abbrev pub many : Reading (List ExprId) (List Value)
many = record { run = run_each; Jumps = Each }

abbrev pub others : Reading RecordSpread (List Value)
others = record { run = run_others; Jumps = OthersEnclosed }

-- an initializer, or an end of a range
abbrev pub present : Reading (Option ExprId) (List Value)
present = record { run = run_present; Jumps = IfPresent }

-- the patterns of statements stand in a store
abbrev pub contents : Stored → Reading (List Statement × Option ExprId) Value
contents final = record {
  run = λ fuel part r. run_statements (store_of final) (map_of final) fuel part r.0 r.1;
  Jumps = λ P r. EachStatement P r.0 × IfPresent P r.1;
}

-- how many labels and made names there are where something begins
pub record Base : Type 0 where
  pub labels : ℕ
  pub names : ℕ

abbrev pub base_of : Mark → Base
base_of m = record { labels = m.labels; names = m.names }

-- no more than there
pub record Under (base' base : Base) : Type 0 where
  pub labels : base'.labels ≤ base.labels
  pub names : base'.names ≤ base.names

pub under_grown : {m m' : Mark} → Grows m m' → Under (base_of m) (base_of m')
under_grown g = record { labels = g.labels; names = g.names }

pub under_refl : (base : Base) → Under base base
under_refl base = record { labels = omega arith; names = omega arith }

pub under_trans : {a b c : Base} → Under a b → Under b c → Under a c
under_trans h k = record { labels = omega (arith, h.labels, k.labels); names = omega (arith, h.names, k.names) }

-- What stands at a is x, inside frames whose labels are below those of the base, where the store is looked into past `nodes`. The made
-- names of the base stand for what they did afterwards.
pub record Goes {A B : Type 0} (base : Base) (nodes : ℕ) (r : Reading A B) (x : Walk B) (final : Stored) (ps : List Frame)
    (a : A) : Type 0 where
  pub same : (fuel d : ℕ) → nodes ≤ d → Falls base.labels ps
      → SameWhere base.names ps (r.run fuel (run_in final d fuel) a) (x fuel (scopes ps))
  pub jumps : (d : ℕ) → nodes ≤ d → r.Jumps (EnclosedTo (store_of final) d (numbers ps)) a

abbrev pub Runs : {A B : Type 0} → Reading A B → Walk B → Rel A
Runs r x final ps m m' a = Goes (base_of m) m'.nodes r x final ps a

-- whatever owns the bindings
pub runs_owning : {A B : Type 0} {r : Reading A B} {x : Walk B} (owner : A → ExprId) {p : Lowering A} → Correct p (Runs r x)
    → Correct (owning owner p) (Runs r x)
runs_owning owner h = owning_keeps owner (λ final ps m left start id a goes. goes) h

pub record Wider (base : Base) (nodes : ℕ) (base' : Base) (nodes' : ℕ) : Type 0 where
  pub labels_from : base'.labels ≤ base.labels
  pub names_from : base'.names ≤ base.names
  pub nodes_to : nodes ≤ nodes'

pub wider_of : {base base' : Base} {nodes nodes' : ℕ} → Under base' base → nodes ≤ nodes' → Wider base nodes base' nodes'
wider_of u le = record { labels_from = u.labels; names_from = u.names; nodes_to = le }

pub goes_within : {A B : Type 0} {base base' : Base} {nodes nodes' : ℕ} {r : Reading A B} {x : Walk B} {final : Stored}
    {ps : List Frame} {a : A}
    → Wider base nodes base' nodes' → Goes base nodes r x final ps a → Goes base' nodes' r x final ps a
goes_within {base = base} {base' = base'} {ps = ps} wide h = record {
  same = λ fuel d le f. same_fewer wide.names_from
      (h.same fuel d (omega (arith, le, wide.nodes_to)) (falls_more ps base'.labels base.labels wide.labels_from f));
  jumps = λ d le. h.jumps d (omega (arith, le, wide.nodes_to));
}

-- where its parts' jumps are for what encloses them
pub enclosed_at : {m m' : Mark} {e : Expr} {source : Option Pointer} {final : Stored} {qs : List Frame} {i : ExprId} {put : Put}
    → AllocatedBy put e source final qs m m' i → (ls : List LabelId)
    → ((d : ℕ) → m.nodes ≤ d → StoredEnclosed (store_of final) (EnclosedTo (store_of final) d) ls e)
    → (d : ℕ) → m'.nodes ≤ d → EnclosedTo (store_of final) d ls i
unfolding EnclosedTo
enclosed_at at ls jumps zero le = tt
enclosed_at at ls jumps (suc d) le = rw (at.number, at.here) (jumps d (omega (arith, at.next)))

-- an expression that was stored under the number from
pub goes_at : {base : Base} {m m' : Mark} {e : Expr} {source : Option Pointer} {x : Walk Value} {final : Stored} {ps qs : List Frame}
    {i : ExprId} {put : Put} → AllocatedBy put e source final qs m m' i
    → ((fuel d : ℕ) → m.nodes ≤ d → Falls base.labels ps
    → SameWhere base.names ps (node_in final d fuel e (option_map site_of source)) (x fuel (scopes ps)))
    → ((d : ℕ) → m.nodes ≤ d → StoredEnclosed (store_of final) (EnclosedTo (store_of final) d) (numbers ps) e)
    → Goes base m'.nodes one x final ps i
unfolding run_to EnclosedTo
goes_at {base = base} {m = m} {m' = m'} {x = x} {final = final} {ps = ps} {i = i} at same jumps =
    record { same = λ fuel d le f. at_depth fuel d le f; jumps = jumps_at }
  where
    at_depth : (fuel d : ℕ) → m'.nodes ≤ d → Falls base.labels ps → SameWhere base.names ps (run_in final d fuel i) (x fuel (scopes ps))
    at_depth fuel zero le f = absurd (omega (arith, at.next))
    at_depth fuel (suc d) le f = rw (at.number, at.here, at.from) (same fuel d (omega (arith, at.next)) f)

    jumps_at : (d : ℕ) → m'.nodes ≤ d → EnclosedTo (store_of final) d (numbers ps) i
    jumps_at zero le = tt
    jumps_at (suc d) le = rw (at.number, at.here) (jumps d (omega (arith, at.next)))
