-- Whether a `yield` stood in the body that is being lowered: steps by what they make of that.
use Rattle.std.proofs.Common.{◌≡◌, ◌∙◌, ◌^◌, ℕ, suc, nat_lt, refl, sym, ap, subst, Bool, true, false, ◌||◌, if◌then◌else◌}
use Rattle.std.proofs.Common.{List, Option, Some, None, Ok, Err}
use Rattle.hir_binding.specs.declared.binding.BindingProblems.{BindingProblems}
use Rattle.hir_store.specs.Pointers.{Pointer}
use Rattle.hir_store.specs.Stored.{Stored}
use Rattle.hir_store.specs.StoreSink as store_sink
use Rattle.hir_store.specs.StoreSink.{StoreSink}
use Rattle.hir_store.specs.declared.diagnostics.ExpressionStoreDiagnostics.{ExpressionStoreDiagnostics}
use Rattle.hir_store.specs.declared.hir.Expr.{Expr}
use Rattle.hir_store.specs.declared.ids.BindingId.{BindingId}
use Rattle.hir_store.specs.declared.ids.BlockId.{BlockId}
use Rattle.hir_store.specs.declared.ids.ExprId.{ExprId}
use Rattle.hir_store.specs.declared.ids.LabelId.{LabelId}
use Rattle.hir_store.specs.declared.ids.PatId.{PatId}
use Rattle.hir_store.specs.declared.pat.Binding.{Binding}
use Rattle.hir_store.specs.declared.pat.Pat.{Pat}
use Rattle.hir_store.specs.declared.type_ref.LifetimeRef.{LifetimeRef}
use Rattle.hir_store.specs.declared.type_ref.TypeRef.{TypeRef}
use Rattle.hir_env.specs.ResolvedTree.{Jump, Label}
use Rattle.hir_lower_scope.specs.ScopeRibs.{Target, reachable, unreachable, undeclared, target}
use Rattle.hir_lower_builder.specs.Builder.{Builder}
use Rattle.hir_lower_builder.specs.Lowering.{Checked, go_on, Lowering, ◌>>=◌, pure, stored, alloc_expr, alloc_desugared, alloc_type}
use Rattle.hir_lower_builder.specs.Lowering.{alloc_lifetime}
use Rattle.hir_lower_builder.specs.Lowering.{alloc_pat, alloc_desugared_pat, alloc_binding, define, set_problem, point_pat_field, count_out}
use Rattle.hir_lower_builder.specs.Lowering.{made_number}
use Rattle.hir_lower_builder.specs.Lowering.{open_label, open_as, open_try, open_try_as, open_try_named, try_target, enter_block}
use Rattle.hir_lower_builder.specs.Lowering.{track_yield, jump_target, found_or_fault, report, point, point_field}
use Rattle.thm_logic.specs.Keeps.{Paired}
use Rattle.thm_logic.proofs.Frames.{frames, ribs_frames, Frame}
use Rattle.thm_logic.proofs.Logic.{Rel, Holds, Correct}

-- steps in which none stands

-- it is as it was
abbrev pub LeavesTo : {A : Type 0} → Builder → Checked A → Builder → Type 0
LeavesTo b (Ok a) c = c.yields ≡ b.yields
LeavesTo b (Err e) c = Unit {0}

pub record Still {A : Type 0} (p : Lowering A) : Type 0 where
  pub still : (b : Builder) → LeavesTo b (p b).0 (p b).1

pub still_trans : {A : Type 0} (b c : Builder) → c.yields ≡ b.yields → (o : Checked A) (d : Builder) → LeavesTo c o d → LeavesTo b o d
still_trans b c g (Ok a) d h = h ∙ g
still_trans b c g (Err e) d h = tt

pub still_pure : {A : Type 0} (a : A) → Still (pure a)
still_pure a = record { still = λ b. refl }

pub still_then : {A B : Type 0} {p : Lowering A} {f : A → Lowering B} → Still p → ((a : A) → Still (f a)) → Still (p >>= f)
still_then {A = A} {p = p} {f = f} h k = record { still = λ b. by b (p b).0 (p b).1 (h.still b) }
  where
    by : (b : Builder) (o : Checked A) (c : Builder) → LeavesTo b o c → LeavesTo b (go_on o c f).0 (go_on o c f).1
    by b (Ok a) c x = still_trans b c x (f a c).0 (f a c).1 ((k a).still c)
    by b (Err e) c x = tt

-- what only stores
pub still_stored : {A : Type 0} (p : StoreSink A) → Still (stored p)
still_stored {A = A} p = record { still = λ b. by b (p b.stored).0 }
  where
    by : (b : Builder) (o : Checked A) → LeavesTo b o (record b { stored = (p b.stored).1 })
    by b (Ok a) = refl
    by b (Err e) = tt

pub still_expr : (e : Expr) (at : Option Pointer) → Still (alloc_expr e at)
unfolding alloc_expr
still_expr e at = still_stored (store_sink.alloc_expr e at)

pub still_made : (e : Expr) (at : Option Pointer) → Still (alloc_desugared e at)
unfolding alloc_desugared
still_made e at = still_stored (store_sink.alloc_desugared e at)

pub still_report : (d : ExpressionStoreDiagnostics) → Still (report d)
unfolding report
still_report d = still_stored (store_sink.report d)

pub still_point : (at : Pointer) (i : ExprId) → Still (point at i)
unfolding point
still_point at i = still_stored (store_sink.point at i)

pub still_point_field : (i : ExprId) (at : Pointer) → Still (point_field i at)
unfolding point_field
still_point_field i at = still_stored (store_sink.point_field i at)

pub still_enter_block : (n : Option BlockId) → Still (enter_block n)
unfolding enter_block
still_enter_block None = still_pure tt
still_enter_block (Some n) = still_stored (store_sink.enter_block n)

pub still_count_out : {A : Type 0} → Still (count_out {A = A})
unfolding count_out
still_count_out = record { still = λ b. tt }

-- what names, types and patterns are stored by

pub still_type : (t : TypeRef) (at : Option Pointer) → Still (alloc_type t at)
unfolding alloc_type
still_type t at = still_stored (store_sink.alloc_type t at)

pub still_lifetime : (l : LifetimeRef) (at : Option Pointer) → Still (alloc_lifetime l at)
unfolding alloc_lifetime
still_lifetime l at = still_stored (store_sink.alloc_lifetime l at)

pub still_pat : (p : Pat) (at : Option Pointer) → Still (alloc_pat p at)
unfolding alloc_pat
still_pat p at = still_stored (store_sink.alloc_pat p at)

pub still_made_pat : (p : Pat) (at : Option Pointer) → Still (alloc_desugared_pat p at)
unfolding alloc_desugared_pat
still_made_pat p at = still_stored (store_sink.alloc_desugared_pat p at)

pub still_binding : (b : Binding) → Still (alloc_binding b)
unfolding alloc_binding
still_binding b = still_stored (store_sink.alloc_binding b)

pub still_define : (i : BindingId) (p : PatId) → Still (define i p)
unfolding define
still_define i p = still_stored (store_sink.define i p)

pub still_problem : (i : BindingId) (problem : Option BindingProblems) → Still (set_problem i problem)
unfolding set_problem
still_problem i problem = still_stored (store_sink.set_problem i problem)

pub still_point_pat_field : (i : PatId) (at : Pointer) → Still (point_pat_field i at)
unfolding point_pat_field
still_point_pat_field i at = still_stored (store_sink.point_pat_field i at)

pub still_made_number : Still made_number
unfolding made_number count_out
still_made_number = record { still = λ b. by b (nat_lt (suc b.names) (2 ^ 32)) }
  where
    numbered : Bool → Lowering ℕ
    numbered room = λ b. if room then (Ok b.names, record b { names = suc b.names }) else count_out b

    by : (b : Builder) (room : Bool) → LeavesTo b (numbered room b).0 (numbered room b).1
    by b true = refl
    by b false = tt

-- what is open

still_open_as : (l : Label) (i : LabelId) → Still (open_as l i)
still_open_as l i = record { still = λ b. refl }

pub still_open_label : (l : Label) → Still (open_label l)
unfolding open_label
still_open_label l = still_then (still_stored _) (λ i. still_then (still_open_as l i) (λ u. still_pure i))

still_open_try_as : (i : LabelId) (typed : Bool) → Still (open_try_as i typed)
still_open_try_as i typed = record { still = λ b. refl }

still_try_named : (at : Pointer) (typed : Bool) (n : ℕ) → Still (open_try_named at typed n)
still_try_named at typed n = still_then (still_stored _) (λ i. still_then (still_open_try_as i typed) (λ u. still_pure i))

pub still_open_try : (at : Pointer) (typed : Bool) → Still (open_try at typed)
unfolding open_try
still_open_try at typed = still_then still_made_number (λ n. still_try_named at typed n)

pub still_try_target : Still try_target
unfolding try_target
still_try_target = record { still = λ b. refl }

still_found : (j : Jump) (t : Target LabelId) → Still (found_or_fault j t)
still_found j (reachable i) = still_pure (Some i)
still_found j unreachable = still_then (still_report _) (λ u. still_pure None)
still_found j undeclared = still_then (still_report _) (λ u. still_pure None)

pub still_jump_target : (j : Option Jump) → Still (jump_target j)
unfolding jump_target
still_jump_target None = still_pure None
still_jump_target (Some j) = record { still = λ b. (still_found j (target j b.scopes)).still b }

-- one of two

pub or_false : (x : Bool) → (x || false) ≡ x
or_false true = refl
or_false false = refl

or_true : (x : Bool) → (x || true) ≡ true
or_true true = refl
or_true false = refl

pub or_assoc : (x y z : Bool) → ((x || y) || z) ≡ (x || (y || z))
or_assoc true y z = refl
or_assoc false y z = refl

-- steps in which one stands, or none does: what each of their answers says of that

abbrev pub RaisedTo : {A : Type 0} → Bool → Builder → Checked A → Builder → Type 0
RaisedTo y b (Ok a) c = Paired c.stored × (c.yields ≡ (b.yields || y))
RaisedTo y b (Err e) c = Unit {0}

-- from a store in which each entry has its source
pub record Raises {A : Type 0} (y : Bool) (p : Lowering A) : Type 0 where
  pub at : (b : Builder) → Paired b.stored → RaisedTo y b (p b).0 (p b).1

-- what keeps the pairs
abbrev PairsTo : {A : Type 0} → Builder → Checked A → Builder → Type 0
PairsTo b (Ok a) c = Paired b.stored → Paired c.stored
PairsTo b (Err e) c = Unit {0}

pairs_of : {A : Type 0} (R : Rel A) (final : Stored) (ps : List Frame) (b : Builder) (o : Checked A) (c : Builder) → Holds R final ps b o c
    → PairsTo b o c
pairs_of R final ps b (Ok a) c h = h.kept.paired
pairs_of R final ps b (Err e) c h = tt

as_raised : {A : Type 0} (b : Builder) (o : Checked A) (c : Builder) → PairsTo b o c → LeavesTo b o c → Paired b.stored
    → RaisedTo false b o c
as_raised b (Ok a) c pairs e d = (pairs d, e ∙ sym (or_false b.yields))
as_raised b (Err e) c pairs u d = tt

pub raises_still : {A : Type 0} {p : Lowering A} {R : Rel A} → Correct p R → Still p → Raises false p
raises_still {p = p} {R = R} h s = record {
  at = λ b d. let ps = frames b.scopes in
      as_raised b (p b).0 (p b).1 (pairs_of R b.stored ps b (p b).0 (p b).1 (h.holds b.stored ps b (ribs_frames b.scopes))) (s.still b) d;
}

pub raised_trans : {A : Type 0} (y z : Bool) (b c : Builder) → c.yields ≡ (b.yields || y) → (o : Checked A) (d : Builder) → RaisedTo z c o d
    → RaisedTo (y || z) b o d
raised_trans y z b c e (Ok a) d x = (x.0, x.1 ∙ (ap (λ t. t || z) e ∙ or_assoc b.yields y z))
raised_trans y z b c e (Err f) d x = tt

pub raises_then : {A B : Type 0} {y z : Bool} {p : Lowering A} {f : A → Lowering B} → Raises y p → ((a : A) → Raises z (f a))
    → Raises (y || z) (p >>= f)
raises_then {A = A} {y = y} {z = z} {p = p} {f = f} h k = record { at = λ b d. by b (p b).0 (p b).1 (h.at b d) }
  where
    by : (b : Builder) (o : Checked A) (c : Builder) → RaisedTo y b o c → RaisedTo (y || z) b (go_on o c f).0 (go_on o c f).1
    by b (Ok a) c x = raised_trans y z b c x.1 (f a c).0 (f a c).1 ((k a).at c x.0)
    by b (Err e) c x = tt

-- nothing stands in the first
pub raises_begin : {A B : Type 0} {y : Bool} {p : Lowering A} {f : A → Lowering B} → Raises false p → ((a : A) → Raises y (f a))
    → Raises y (p >>= f)
raises_begin {y = y} h k = raises_then {y = false} {z = y} h k

-- the same, otherwise told
pub raises_as : {A : Type 0} {y z : Bool} {p : Lowering A} → y ≡ z → Raises y p → Raises z p
raises_as {p = p} e h = subst (λ t. Raises t p) e h

-- nothing stands in the second
pub raises_end : {A B : Type 0} {y : Bool} {p : Lowering A} {f : A → Lowering B} → Raises y p → ((a : A) → Raises false (f a))
    → Raises y (p >>= f)
raises_end {y = y} h k = raises_as (or_false y) (raises_then {y = y} {z = false} h k)

pub raises_pure : {A : Type 0} (a : A) → Raises false (pure a)
raises_pure a = record { at = λ b d. (d, sym (or_false b.yields)) }

pub raises_tracked : Raises true track_yield
unfolding track_yield
raises_tracked = record { at = λ b d. (d, sym (or_true b.yields)) }
