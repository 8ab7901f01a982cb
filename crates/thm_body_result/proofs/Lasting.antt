-- Steps by what they bring about in a final store in which the bindings that they make stay as they are by then.
use Rattle.std.proofs.Common.{arith, ◌≡◌, ◌∙◌, ◌⊎◌, inl, inr, refl, sym, ap, subst, ℕ, zero, suc, ◌≤◌, List, [], ◌∷◌, ◌++◌, length}
use Rattle.std.proofs.Common.{slice_get, Bool, Option, Some, None, Ok, Err, is_some, true≢false}
use Rattle.hir_store.specs.Arenas.{Prefix}
use Rattle.hir_store.specs.Pointers.{Pointer}
use Rattle.hir_store.specs.Stored.{Stored}
use Rattle.hir_store.specs.declared.diagnostics.ExpressionStoreDiagnostics.{ExpressionStoreDiagnostics}
use Rattle.hir_store.specs.declared.diagnostics.AwaitLocation.{AwaitLocation}
use Rattle.hir_store.specs.declared.hir.Expr.{Expr}
use Rattle.hir_store.specs.declared.ids.BlockId.{BlockId}
use Rattle.hir_store.specs.declared.ids.ExprId.{ExprId}
use Rattle.hir_store.specs.declared.ids.LabelId.{LabelId}
use Rattle.hir_store.specs.declared.ids.PatId.{PatId}
use Rattle.hir_store.specs.declared.ids.TypeRefId.{TypeRefId}
use Rattle.hir_store.specs.declared.pat.Binding.{Binding}
use Rattle.hir_store.specs.declared.pat.Pat.{Pat}
use Rattle.hir_store.specs.declared.type_ref.LifetimeRef.{LifetimeRef}
use Rattle.hir_store.specs.declared.type_ref.TypeRef.{TypeRef}
use Rattle.hir_store.proofs.Arenas.{prefix_refl, prefix_push, prefix_trans}
use Rattle.hir_env.specs.ResolvedTree.{Jump, Label}
use Rattle.hir_lower_scope.specs.ScopeRibs.{Rib, Target, reachable, unreachable, undeclared, target}
use Rattle.hir_store.specs.declared.hir.CoroutineKind.{CoroutineKind}
use Rattle.hir_lower_builder.specs.Builder.{Builder}
use Rattle.hir_lower_builder.specs.declared.closures.ClosureParams.{ClosureParams}
use Rattle.hir_lower_builder.specs.declared.preludes.Handed.{Handed}
use Rattle.hir_lower_builder.specs.declared.preludes.Within.{Within}
use Rattle.hir_lower_builder.specs.Preludes.{coroutine_closure_form, lower_handed, within_form}
use Rattle.hir_lower_builder.specs.Lower.{ExprSteps, closure_form, constant_form, coroutine_form}
use Rattle.hir_lower_builder.specs.Lowering.{Checked, Lowering, ◌>>=◌, pure, alloc_binding, alloc_expr, alloc_lifetime, alloc_pat}
use Rattle.hir_lower_builder.specs.Lowering.{alloc_type}
use Rattle.hir_lower_builder.specs.Lowering.{close, count_out, enter_block, jump_target, open_label, point, point_field, point_pat_field}
use Rattle.hir_lower_builder.specs.Lowering.{report, report_await, alloc_desugared, alloc_desugared_pat, made_number, open_try, owning}
use Rattle.hir_lower_builder.specs.Lowering.{try_target}
use Rattle.hir_lower_builder.specs.Ranges.{inner_form}
use Rattle.thm_logic.proofs.Barriers as barriers
use Rattle.thm_logic.proofs.Barriers.{ClosureRow, CoroutineRow}
use Rattle.thm_logic.proofs.Constants as constants
use Rattle.thm_logic.proofs.Constants.{Constant, Inner}
use Rattle.thm_logic.proofs.CoroutineClosures as closures
use Rattle.thm_logic.proofs.CoroutineClosures.{CoroutineClosureRow}
use Rattle.thm_logic.proofs.Frames.{Frame, rib, ribs}
use Rattle.thm_logic.proofs.Logic.{longer}
use Rattle.thm_logic.proofs.MadeSteps as made
use Rattle.thm_logic.proofs.MadeSteps.{AllocatedMade, MadeNumber, OpenedTry, TryTargeted}
use Rattle.thm_logic.proofs.Owning as owners
use Rattle.thm_logic.proofs.Owning.{Owning}
use Rattle.thm_logic.proofs.PatSteps as pats
use Rattle.thm_logic.proofs.PatSteps.{AllocatedBinding, AllocatedMadePat, AllocatedPat, PatWrites, with_field_pat}
use Rattle.thm_logic.proofs.Steps as steps
use Rattle.thm_logic.proofs.Steps.{Allocated, AllocatedLifetime, AllocatedType, Both, Holds, IsPure, Mark, Opened, OpenedBy, Rel, Seq}
use Rattle.thm_logic.proofs.Steps.{Targeted}
use Rattle.thm_logic.proofs.Steps.{Writes, Grows}
use Rattle.thm_logic.proofs.Steps.{pointing, with_await, with_block, with_fault, with_field, with_jump, with_target}
use Rattle.thm_body_result.specs.Theorems.{Settled}

-- from this number on the bindings stay as they are, also what is wrong about them
pub record Unchanged (from : ℕ) (a b : Stored) : Type 0 where
  pub at : (n : ℕ) (x : Binding) → from ≤ n → slice_get a.bindings.entries n ≡ Some x → slice_get b.bindings.entries n ≡ Some x

abbrev pub bound : Stored → ℕ
bound s = length s.bindings.entries

-- What was settled of older bindings stays; and so it is in a final store in which the bindings that are new stay.
pub record Lasts {A : Type 0} (R : Rel A) (final : Stored) (ps : List Frame) (m m' : Mark) (a : A) : Type 0 where
  pub settled : Settled m.stored m'.stored
  pub rel : Unchanged (bound m.stored) m'.stored final → R final ps m m' a

abbrev pub Correct : {A : Type 0} → Lowering A → Rel A → Type 0
Correct p R = steps.Correct p (Lasts R)

found_behind : {A : Type 0} (xs more : List A) (n : ℕ) (x : A) → slice_get xs n ≡ Some x → slice_get (xs ++ more) n ≡ Some x
found_behind [] more n x h = absurd (true≢false (sym (ap is_some h)))
found_behind (y ∷ xs) more zero x h = h
found_behind (y ∷ xs) more (suc n) x h = found_behind xs more n x h

pub in_prefix : {A : Type 0} {xs ys : List A} → Prefix xs ys → (n : ℕ) (x : A) → slice_get xs n ≡ Some x → slice_get ys n ≡ Some x
in_prefix {xs = xs} p n x h = ap (λ l. slice_get l n) p.is ∙ found_behind xs p.more n x h

pub unchanged_settled : {a b : Stored} (from : ℕ) → Settled a b → Unchanged from a b
unchanged_settled from s = record { at = λ n x le h. in_prefix s n x h }

-- of the first of two steps, and of the second
pub unchanged_first : {a b c : Stored} {from : ℕ} → Settled a b → Unchanged from b c → Unchanged from a c
unchanged_first s u = record { at = λ n x le h. u.at n x le (in_prefix s n x h) }

pub unchanged_behind : {xs ys : List Binding} {a b : Stored} → Prefix xs ys → Unchanged (length xs) a b → Unchanged (length ys) a b
unchanged_behind s u = let more = longer s in record { at = λ n x le h. u.at n x (omega (arith, le, more)) h }

-- the bindings are what they were
pub settled_as : (a b : Stored) → b.bindings ≡ a.bindings → Settled a b
settled_as a b e = subst (λ xs. Prefix a.bindings.entries xs) (sym (ap (λ x. x.entries) e)) (prefix_refl a.bindings.entries)

-- steps that are known to keep them
pub keeping : {A : Type 0} {p : Lowering A} {R : Rel A} → steps.Correct p R
    → ((final : Stored) (ps : List Frame) (m m' : Mark) (a : A) → R final ps m m' a → Settled m.stored m'.stored) → Correct p R
keeping h k = steps.correct_as h (λ final ps m m' a g row. record { settled = k final ps m m' a row; rel = λ s. row })

pub correct_as : {A : Type 0} {p : Lowering A} {R Q : Rel A} → Correct p R
    → ((final : Stored) (ps : List Frame) (m m' : Mark) (a : A) → Grows m m' → R final ps m m' a → Q final ps m m' a) → Correct p Q
correct_as h less = steps.correct_as h (λ final ps m m' a g row.
    record { settled = row.settled; rel = λ s. less final ps m m' a g (row.rel s) })

-- where they begin, as many bindings are counted as are stored
pub record Counted {A : Type 0} (R : Rel A) (final : Stored) (ps : List Frame) (m m' : Mark) (a : A) : Type 0 where
  pub counted : m.bindings ≡ bound m.stored
  pub row : R final ps m m' a

with_count : {A : Type 0} {p : Lowering A} {R : Rel A} → steps.Correct p R → steps.Correct p (Counted R)
with_count {A = A} {p = p} {R = R} h =
    record { holds = λ final ps b r. by final ps b (p b).0 (p b).1 (h.holds final ps b r) }
  where
    by : (final : Stored) (ps : List Frame) (b : Builder) (o : Checked A) (c : Builder) → Holds R final ps b o c
        → Holds (Counted R) final ps b o c
    by final ps b (Ok a) c y =
        record { kept = y.kept; grows = y.grows; in_final = λ d pre. record { counted = refl; row = y.in_final d pre } }
    by final ps b (Err e) c y = y

pub correct_counted : {A : Type 0} {p : Lowering A} {R : Rel A} → Correct p R → Correct p (Counted R)
correct_counted h = steps.correct_as (with_count h) (λ final ps m m' a g x.
    record { settled = x.row.settled; rel = λ s. record { counted = x.counted; row = x.row.rel s } })

seq_lasts : {A B : Type 0} {R : Rel A} {Q : A → Rel B} {final : Stored} {ps : List Frame} {m m' : Mark} {b : B}
    → Seq (Lasts R) (λ a. Lasts (Q a)) final ps m m' b → Lasts (Seq R Q) final ps m m' b
seq_lasts row = record {
  settled = prefix_trans row.first.settled row.second.settled;
  rel = λ s. record {
    middle = row.middle;
    one = row.one;
    before = row.before;
    after = row.after;
    first = row.first.rel (unchanged_first row.second.settled s);
    second = row.second.rel (unchanged_behind row.first.settled s);
  };
}

pub correct_bind : {A B : Type 0} {p : Lowering A} {R : Rel A} {f : A → Lowering B} {Q : A → Rel B} → Correct p R
    → ((a : A) → Correct (f a) (Q a)) → Correct (p >>= f) (Seq R Q)
correct_bind h k = steps.correct_as (steps.correct_bind h k) (λ final ps m m' b g row. seq_lasts row)

-- with what is so of the steps in each final store
pub correct_both : {A : Type 0} {p : Lowering A} {R Q : Rel A} → Correct p R → steps.Correct p Q → Correct p (Both R Q)
correct_both h k = steps.correct_as (steps.correct_both h k) (λ final ps m m' a g row. record {
  settled = row.one.settled;
  rel = λ s. record { one = row.one.rel s; other = row.other };
})

-- what is refused at the end of a counter
pub correct_count_out : {A : Type 0} (R : Rel A) → Correct {A = A} count_out R
correct_count_out R = steps.correct_count_out (Lasts R)

pub correct_pure : {A : Type 0} (a : A) → Correct (pure a) (IsPure a)
correct_pure a = keeping (steps.correct_pure a)
    (λ final ps m m' b row. settled_as m.stored m'.stored (ap (λ x. x.stored.bindings) row.still))

pub correct_alloc : (e : Expr) (source : Option Pointer) → Correct (alloc_expr e source) (Allocated e source)
correct_alloc e source =
    keeping (steps.correct_alloc e source) (λ final ps m m' i row. settled_as m.stored m'.stored (ap (λ s. s.bindings) row.stored))

pub correct_alloc_type : (t : TypeRef) (source : Option Pointer) → Correct (alloc_type t source) (AllocatedType t source)
correct_alloc_type t source =
    keeping (steps.correct_alloc_type t source) (λ final ps m m' i row. settled_as m.stored m'.stored (ap (λ s. s.bindings) row.stored))

pub correct_alloc_lifetime : (l : LifetimeRef) (source : Option Pointer) → Correct (alloc_lifetime l source) (AllocatedLifetime l source)
correct_alloc_lifetime l source =
    keeping (steps.correct_alloc_lifetime l source) (λ final ps m m' i row. settled_as m.stored m'.stored (ap (λ s. s.bindings) row.stored))

pub correct_alloc_pat : (p : Pat) (source : Option Pointer) → Correct (alloc_pat p source) (AllocatedPat p source)
correct_alloc_pat p source =
    keeping (pats.correct_alloc_pat p source) (λ final ps m m' i row. settled_as m.stored m'.stored (ap (λ s. s.bindings) row.stored))

pub correct_alloc_desugared_pat : (p : Pat) (source : Option Pointer) → Correct (alloc_desugared_pat p source) (AllocatedMadePat p source)
correct_alloc_desugared_pat p source = keeping (pats.correct_alloc_desugared_pat p source)
    (λ final ps m m' i row. settled_as m.stored m'.stored (ap (λ s. s.bindings) row.stored))

pub correct_alloc_binding : (b : Binding) → Correct (alloc_binding b) (AllocatedBinding b)
correct_alloc_binding b = keeping (pats.correct_alloc_binding b) (λ final ps m m' i row.
    subst (λ xs. Prefix m.stored.bindings.entries xs) (sym (ap (λ s. s.bindings.entries) row.stored)) (prefix_push _ b))

pub correct_report : (d : ExpressionStoreDiagnostics) → Correct (report d) (Writes tt (with_fault d))
correct_report d = keeping (steps.correct_report d) (λ final ps m m' u row. settled_as m.stored m'.stored (ap (λ s. s.bindings) row.stored))

pub correct_point : (at : Pointer) (i : ExprId) → Correct (point at i) (Writes tt (pointing at i))
correct_point at i = keeping (steps.correct_point at i)
    (λ final ps m m' u row. settled_as m.stored m'.stored (ap (λ s. s.bindings) row.stored))

pub correct_point_field : (i : ExprId) (at : Pointer) → Correct (point_field i at) (Writes tt (with_field i at))
correct_point_field i at = keeping (steps.correct_point_field i at)
    (λ final ps m m' u row. settled_as m.stored m'.stored (ap (λ s. s.bindings) row.stored))

pub correct_point_pat_field : (i : PatId) (at : Pointer) → Correct (point_pat_field i at) (PatWrites (with_field_pat i at))
correct_point_pat_field i at =
    keeping (pats.correct_point_pat_field i at) (λ final ps m m' u row. settled_as m.stored m'.stored (ap (λ s. s.bindings) row.stored))

await_bindings : (at : Pointer) (location : Option AwaitLocation) (s : Stored) → (with_await at location s).bindings ≡ s.bindings
await_bindings at None s = refl
await_bindings at (Some location) s = refl

pub correct_report_await : (at : Pointer) (location : Option AwaitLocation)
    → Correct (report_await at location) (Writes tt (with_await at location))
correct_report_await at location = keeping (steps.correct_report_await at location)
    (λ final ps m m' u row. settled_as m.stored m'.stored (ap (λ s. s.bindings) row.stored ∙ await_bindings at location m.stored))

block_bindings : (n : Option BlockId) (s : Stored) → (with_block n s).bindings ≡ s.bindings
block_bindings None s = refl
block_bindings (Some n) s = refl

pub correct_enter_block : (n : Option BlockId) → Correct (enter_block n) (Writes tt (with_block n))
correct_enter_block n = keeping (steps.correct_enter_block n)
    (λ final ps m m' u row. settled_as m.stored m'.stored (ap (λ s. s.bindings) row.stored ∙ block_bindings n m.stored))

target_bindings : {A : Type 0} (j : Jump) (t : Target A) (s : Stored) → (with_target j t s).bindings ≡ s.bindings
target_bindings j (reachable n) s = refl
target_bindings j unreachable s = refl
target_bindings j undeclared s = refl

jump_bindings : {A : Type 0} (j : Option Jump) (rs : List (Rib A)) (s : Stored) → (with_jump j rs s).bindings ≡ s.bindings
jump_bindings None rs s = refl
jump_bindings (Some j) rs s = target_bindings j (target j rs) s

pub correct_target : (j : Option Jump) → Correct (jump_target j) (Targeted j)
correct_target j = keeping (steps.correct_target j)
    (λ final ps m m' n row. settled_as m.stored m'.stored (ap (λ s. s.bindings) row.stored ∙ jump_bindings j (ribs ps) m.stored))

-- with what is so of what runs in it
opened_as : {made : ℕ} {A B : Type 0} {at : Label → LabelId → Frame} {l : Label} {R R' : LabelId → Rel A} {Q : LabelId → A → Rel B}
    {final : Stored} {ps : List Frame} {m m' : Mark} {b : B} (row : OpenedBy made at l R Q final ps m m' b)
    → R' row.number final (at l row.number ∷ ps) row.entered row.left row.one → OpenedBy made at l R' Q final ps m m' b
opened_as row first = record {
  number = row.number;
  entered = row.entered;
  left = row.left;
  one = row.one;
  new = row.new;
  here = row.here;
  from = row.from;
  labels = row.labels;
  nodes = row.nodes;
  types = row.types;
  entries = row.entries;
  names = row.names;
  last = row.last;
  stored = row.stored;
  before = row.before;
  after = row.after;
  first = first;
  second = row.second;
}

-- of what is opened, and what stands behind it
opened_lasts : {made : ℕ} {A B : Type 0} {at : Label → LabelId → Frame} {l : Label} {R : LabelId → Rel A} {Q : LabelId → A → Rel B}
    {final : Stored} {ps : List Frame} {m m' : Mark} {b : B}
    → OpenedBy made at l (λ n. Lasts (R n)) (λ n a. Lasts (Q n a)) final ps m m' b → Lasts (OpenedBy made at l R Q) final ps m m' b
opened_lasts {m = m} row =
    let entered = settled_as m.stored row.entered.stored (ap (λ s. s.bindings) row.stored) in record {
      settled = prefix_trans entered (prefix_trans row.first.settled row.second.settled);
      rel = λ s. record {
        number = row.number;
        entered = row.entered;
        left = row.left;
        one = row.one;
        new = row.new;
        here = row.here;
        from = row.from;
        labels = row.labels;
        nodes = row.nodes;
        types = row.types;
        entries = row.entries;
        names = row.names;
        last = row.last;
        stored = row.stored;
        before = row.before;
        after = row.after;
        first = row.first.rel (unchanged_first row.second.settled (unchanged_behind entered s));
        second = row.second.rel (unchanged_behind (prefix_trans entered row.first.settled) s);
      };
    }

pub correct_opened : {A B : Type 0} (at : Label → LabelId → Frame) (l : Label)
    {p : LabelId → Lowering A} {R : LabelId → Rel A} {f : LabelId → A → Lowering B} {Q : LabelId → A → Rel B}
    → ((n : LabelId) (ps : List Frame) → ribs (at l n ∷ ps) ≡ rib l n ∷ ribs ps)
    → ((n : LabelId) → Correct (p n) (R n)) → ((n : LabelId) (a : A) → Correct (f n a) (Q n a))
    → Correct (open_label l >>= (λ n. p n >>= (λ a. close >>= (λ _. f n a)))) (Opened at l R Q)
correct_opened at l frame hp hf =
    steps.correct_as (steps.correct_opened at l frame hp hf) (λ final ps m m' b g row. opened_lasts row)

-- what is made up

pub correct_alloc_desugared : (e : Expr) (source : Option Pointer) → Correct (alloc_desugared e source) (AllocatedMade e source)
correct_alloc_desugared e source =
    keeping (made.correct_alloc_desugared e source) (λ final ps m m' i row. settled_as m.stored m'.stored (ap (λ s. s.bindings) row.stored))

pub correct_made_number : Correct made_number MadeNumber
correct_made_number =
    keeping made.correct_made_number (λ final ps m m' n row. settled_as m.stored m'.stored (ap (λ s. s.bindings) row.stored))

pub correct_try_target : Correct try_target TryTargeted
correct_try_target =
    keeping made.correct_try_target (λ final ps m m' t row. settled_as m.stored m'.stored (ap (λ x. x.stored.bindings) row.still))

-- two things run in it
pub correct_opened_try : {A B C : Type 0} (at : Pointer) (typed : Bool) {s : Lowering C} {S : Rel C} {p : Lowering A} {R : Rel A}
    {f : LabelId → A → Lowering B} {Q : LabelId → A → Rel B} → Correct s S → Correct p R → ((n : LabelId) (a : A) → Correct (f n a) (Q n a))
    → Correct (open_try at typed >>= (λ n. s >>= (λ u. p >>= (λ a. close >>= (λ _. f n a))))) (OpenedTry at typed (λ n. Seq S (λ u. R)) Q)
correct_opened_try at typed hs hp hf = steps.correct_as (made.correct_opened_try at typed hs hp hf)
    (λ final ps m m' b g row. let x = opened_lasts (opened_as row (seq_lasts row.first)) in
    record { settled = x.settled; rel = λ s. x.rel s })

root_bindings : (i : ExprId) {a b : Stored} → (b ≡ a) ⊎ (b ≡ constants.with_root i a) → b.bindings ≡ a.bindings
root_bindings i (inl e) = ap (λ s. s.bindings) e
root_bindings i (inr e) = ap (λ s. s.bindings) e

pub correct_constant : {p : ExprSteps} {R : Rel ExprId} → Correct p R → Correct (constant_form p) (Constant R)
correct_constant h = steps.correct_as (constants.correct_constant h) (λ final ps m m' c g row.
    let same : Settled row.left.stored m'.stored = settled_as row.left.stored m'.stored (root_bindings c.expr row.stored) in record {
      settled = prefix_trans row.first.settled same;
      rel = λ s. record {
        left = row.left;
        before = row.before;
        after = row.after;
        nodes = row.nodes;
        labels = row.labels;
        types = row.types;
        lifetimes = row.lifetimes;
        entries = row.entries;
        names = row.names;
        first = row.first.rel (unchanged_first same s);
        stored = row.stored;
      };
    })

pub correct_closure : {p : Lowering ClosureParams} {t : Lowering (Option TypeRefId)} {e : ExprSteps} {P : Rel ClosureParams}
    {T : Rel (Option TypeRefId)} {S : Rel ExprId} (at : Pointer) (moves is_static : Bool) → Correct p P → Correct t T → Correct e S
    → Correct (closure_form at moves is_static p t e) (ClosureRow at moves is_static p t e P T S)
correct_closure at moves is_static hp ht he = steps.correct_as (barriers.correct_closure at moves is_static hp ht he)
    (λ final ps m m' i g row.
    let made : Settled row.left.stored m'.stored = settled_as row.left.stored m'.stored (ap (λ s. s.bindings) row.made.stored) in
    let from_body = prefix_trans row.in_body.settled made in
    let from_ret = prefix_trans row.in_ret.settled from_body in record {
      settled = prefix_trans row.in_params.settled from_ret;
      rel = λ s. record {
        params = row.params;
        ret = row.ret;
        body = row.body;
        yields = row.yields;
        raised = row.raised;
        after_params = row.after_params;
        after_ret = row.after_ret;
        left = row.left;
        to_params = row.to_params;
        to_ret = row.to_ret;
        to_body = row.to_body;
        to_end = row.to_end;
        in_params = row.in_params.rel (unchanged_first from_ret s);
        in_ret = row.in_ret.rel (unchanged_first from_body (unchanged_behind row.in_params.settled s));
        in_body = row.in_body.rel (unchanged_first made (unchanged_behind (prefix_trans row.in_params.settled row.in_ret.settled) s));
        made = row.made;
      };
    })

pub correct_coroutine : {p : ExprSteps} {R : Rel ExprId} → Correct p R → Correct (coroutine_form p) (CoroutineRow R)
correct_coroutine h = steps.correct_as (barriers.correct_coroutine h)
    (λ final ps m m' i g row. record { settled = row.inside.settled; rel = λ s. record { inside = row.inside.rel s } })

pub correct_coroutine_closure : (at : Pointer) (which : CoroutineKind) (moves : Bool) (p : Lowering ClosureParams)
    (t : Lowering (Option TypeRefId)) (e : ExprSteps) {W : Rel Within} {H : List Handed → Rel (List PatId)}
    → Correct (within_form which p t e) W → ((xs : List Handed) → Correct (lower_handed [] xs) (H xs))
    → Correct (coroutine_closure_form at which moves p t e) (CoroutineClosureRow at which moves W H)
correct_coroutine_closure at which moves p t e hw hh =
    steps.correct_as (closures.correct_coroutine_closure at which moves p t e hw hh) (λ final ps m m' i g row.
    let made : Settled row.handed.stored m'.stored = settled_as row.handed.stored m'.stored (ap (λ s. s.bindings) row.made.stored) in
    let behind = prefix_trans row.in_formals.settled made in record {
      settled = prefix_trans row.in_within.settled behind;
      rel = λ s. record {
        within = row.within;
        formals = row.formals;
        left = row.left;
        handed = row.handed;
        to_left = row.to_left;
        to_handed = row.to_handed;
        to_end = row.to_end;
        in_within = row.in_within.rel (unchanged_first behind s);
        in_formals = row.in_formals.rel (unchanged_first made (unchanged_behind row.in_within.settled s));
        made = row.made;
      };
    })

-- what owns them is no part of what stays
pub correct_owning : {A : Type 0} (owner : A → ExprId) {p : Lowering A} {R : Rel A} → Correct p R
    → Correct (owning owner p) (Owning owner R)
correct_owning owner h = steps.correct_as (owners.correct_owning owner h) (λ final ps m m' a g row.
    let same : Settled row.left.stored m'.stored =
    subst (λ k. Settled row.left.stored k.stored) (sym row.is) (prefix_refl row.left.stored.bindings.entries) in record {
      settled = prefix_trans row.first.settled same;
      rel = λ s. record { left = row.left; before = row.before; first = row.first.rel (unchanged_first same s); is = row.is };
    })

pub correct_inner : {p : ExprSteps} {R : Rel ExprId} → Correct p R → Correct (inner_form p) (Inner R)
correct_inner h = steps.correct_as (constants.correct_inner h) (λ final ps m m' i g row.
    let same : Settled row.left.stored m'.stored = settled_as row.left.stored m'.stored (root_bindings i row.stored) in record {
      settled = prefix_trans row.first.settled same;
      rel = λ s. record {
        left = row.left;
        before = row.before;
        after = row.after;
        counts_are = row.counts_are;
        first = row.first.rel (unchanged_first same s);
        stored = row.stored;
      };
    })
