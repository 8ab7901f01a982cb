-- What steps store of types and lifetimes, by what that reads back as in a final store.
use Rattle.std.proofs.Common.{◌≡◌, ◌∙◌, ◌⊎◌, inl, inr, refl, sym, ap, add-one, append-nil, append_assoc, length-append, ℕ, suc, length}
use Rattle.std.proofs.Common.{subst, List, [], ◌∷◌, ◌++◌, Bool, Option, Some, None}
use Rattle.hir_binding.specs.declared.binding.BindingAnnotation.{BindingAnnotation}
use Rattle.hir_store.specs.Pointers.{Pointer}
use Rattle.hir_store.specs.Stored.{Stored, store_of, map_of}
use Rattle.hir_store.specs.StoreSink.{lifetime_id, type_id}
use Rattle.hir_store.specs.declared.hir.Expr.{Expr as HirExpr}
use Rattle.hir_store.specs.declared.hir.CoroutineKind.{CoroutineKind}
use Rattle.hir_store.specs.declared.ids.BindingId.{BindingId}
use Rattle.hir_store.specs.declared.ids.BlockId.{BlockId}
use Rattle.hir_store.specs.declared.ids.ExprId.{ExprId}
use Rattle.hir_store.specs.declared.ids.LabelId.{LabelId}
use Rattle.hir_store.specs.declared.ids.PatId.{PatId}
use Rattle.hir_store.specs.declared.ids.TypeRefId.{TypeRefId}
use Rattle.hir_store.specs.declared.pat.Binding.{Binding}
use Rattle.hir_store.specs.declared.pat.Pat.{Pat as HirPat}
use Rattle.hir_store.specs.declared.type_ref.LifetimeRef.{LifetimeRef}
use Rattle.hir_store.specs.declared.type_ref.TypeRef.{TypeRef}
use Rattle.hir_env.specs.ResolvedTree.{Jump, Label}
use Rattle.hir_lower_scope.specs.ScopeRibs.{Rib, Target, reachable, target, undeclared, unreachable}
use Rattle.spec_data.specs.Data.{LifetimeData, Shape, TypeData, typed}
use Rattle.spec_data.specs.Reading.{stored_lifetime, stored_type}
use Rattle.hir_lower_builder.specs.declared.closures.ClosureParams.{ClosureParams}
use Rattle.hir_lower_builder.specs.Forms.{ExprSteps, StoredContents, closure_form, constant_form, coroutine_block_form, coroutine_form}
use Rattle.hir_lower_builder.specs.Lowering.{Lowering, ◌>>=◌, alloc_binding, alloc_expr, alloc_lifetime, alloc_pat, alloc_type, close}
use Rattle.hir_lower_builder.specs.Lowering.{define, enter_block, jump_target, open_label, open_try, owning, pure}
use Rattle.hir_lower_builder.specs.Made.{made_bind_form}
use Rattle.hir_lower_builder.specs.Pats as forms
use Rattle.hir_lower_builder.specs.Pats.{Key, SideOutput, Table, counted_dots, counted_place, small_place}
use Rattle.hir_lower_builder.specs.Paths.{or_count_out}
use Rattle.hir_lower_builder.specs.Ranges.{inner_form}
use Rattle.hir_lower_builder.specs.declared.walk.Reading.{Reading}
use Rattle.hir_lower_builder.specs.Forms.{coroutine_around_form}
use Rattle.thm_logic.proofs.Barriers.{correct_closure, correct_coroutine}
use Rattle.thm_logic.proofs.Constants.{correct_constant, correct_inner, with_root}
use Rattle.thm_logic.proofs.Frames.{Frame, rib, ribs}
use Rattle.thm_logic.proofs.MadeSteps.{correct_opened_try}
use Rattle.thm_logic.proofs.Owning.{owning_keeps}
use Rattle.thm_logic.proofs.PatSteps.{correct_alloc_binding, correct_alloc_pat, correct_define, correct_set_problem}
use Rattle.thm_logic.proofs.Steps.{Correct, Mark, Rel, correct_alloc, correct_alloc_lifetime, correct_alloc_type, correct_as, correct_bind}
use Rattle.thm_logic.proofs.Steps.{correct_count_out, correct_enter_block, correct_opened, correct_pure, correct_target}
use Rattle.thm_logic.proofs.Steps.{with_block, with_jump, with_target}
use Rattle.thm_body_result.specs.StoredData.{StoredData, and_then, each_below, lifetimes_in, no_data, types_in}
use Rattle.thm_logic.proofs.Answering.{Answering}
use Rattle.thm_logic.proofs.CorrectWhere.{correct_where, correct_with}
use Rattle.thm_logic.proofs.ReadBack.{TypeIs}

-- between two stores, read in a final one
pub record More (d : StoredData) (final a b : Stored) : Type 0 where
  pub types : types_in final b ≡ types_in final a ++ d.types
  pub lifetimes : lifetimes_in final b ≡ lifetimes_in final a ++ d.lifetimes

abbrev pub Stores : {A : Type 0} → StoredData → Rel A
Stores d final ps m m' a = More d final m.stored m'.stored

-- all types and all lifetimes
abbrev pub data_of : Stored → List TypeRef × List LifetimeRef
data_of s = (s.types.entries, s.lifetimes.entries)

same_types : (final a b : Stored) → data_of b ≡ data_of a → types_in final b ≡ types_in final a
same_types final a b e = ap (λ d. each_below (length d.0) (λ n. stored_type (store_of final) (map_of final) (type_id n))) e

same_lifetimes : (final a b : Stored) → data_of b ≡ data_of a → lifetimes_in final b ≡ lifetimes_in final a
same_lifetimes final a b e = ap (λ d. each_below (length d.1) (λ n. stored_lifetime (store_of final) (map_of final) (lifetime_id n))) e

pub more_none : {final a b : Stored} → data_of b ≡ data_of a → More no_data final a b
more_none {final = final} {a = a} {b = b} e = record {
  types = same_types final a b e ∙ sym (append-nil (types_in final a));
  lifetimes = same_lifetimes final a b e ∙ sym (append-nil (lifetimes_in final a));
}

pub more_then : {d e : StoredData} {final a b c : Stored} → More d final a b → More e final b c → More (and_then d e) final a c
more_then {d = d} {e = e} {final = final} {a = a} g h = record {
  types = h.types ∙ (ap (λ xs. xs ++ e.types) g.types ∙ append_assoc (types_in final a) d.types e.types);
  lifetimes = h.lifetimes ∙ (ap (λ xs. xs ++ e.lifetimes) g.lifetimes ∙ append_assoc (lifetimes_in final a) d.lifetimes e.lifetimes);
}

-- and nothing more
pub more_last : {d : StoredData} {final a b c : Stored} → More d final a b → More no_data final b c → More d final a c
more_last {final = final} {b = b} g h = record {
  types = h.types ∙ (append-nil (types_in final b) ∙ g.types);
  lifetimes = h.lifetimes ∙ (append-nil (lifetimes_in final b) ∙ g.lifetimes);
}

-- what is told last is nothing
pub more_last_of : {d : StoredData} {final a b : Stored} → More (and_then d no_data) final a b → More d final a b
more_last_of {d = d} {final = final} {a = a} g = record {
  types = g.types ∙ ap (λ xs. types_in final a ++ xs) (append-nil d.types);
  lifetimes = g.lifetimes ∙ ap (λ xs. lifetimes_in final a ++ xs) (append-nil d.lifetimes);
}

pub more_end : {d : StoredData} {final a b c : Stored} → More d final a b → data_of c ≡ data_of b → More d final a c
more_end g e = more_last g (more_none e)

pub more_begin : {d : StoredData} {final a b c : Stored} → data_of b ≡ data_of a → More d final b c → More d final a c
more_begin {d = d} {final = final} {a = a} {b = b} e h = record {
  types = h.types ∙ ap (λ xs. xs ++ d.types) (same_types final a b e);
  lifetimes = h.lifetimes ∙ ap (λ xs. xs ++ d.lifetimes) (same_lifetimes final a b e);
}

-- steps

-- that store neither types nor lifetimes
pub still : {A : Type 0} {p : Lowering A} {R : Rel A} → Correct p R
    → ((final : Stored) (ps : List Frame) (m m' : Mark) (a : A) → R final ps m m' a → data_of m'.stored ≡ data_of m.stored)
    → Correct p (Stores no_data)
still h same = correct_as h (λ final ps m m' a g row. more_none (same final ps m m' a row))

pub pure_stores : {A : Type 0} (a : A) → Correct (pure a) (Stores no_data)
pure_stores a = still (correct_pure a) (λ final ps m m' b row. ap (λ k. data_of k.stored) row.still)

pub stores_then : {A B : Type 0} {d e : StoredData} {p : Lowering A} {f : A → Lowering B} → Correct p (Stores d)
    → ((a : A) → Correct (f a) (Stores e)) → Correct (p >>= f) (Stores (and_then d e))
stores_then h k = correct_as (correct_bind h k) (λ final ps m m' b g row. more_then row.first row.second)

pub stores_where : {A B : Type 0} {P : A → Type 0} {d e : StoredData} {p : Lowering A} {f : A → Lowering B} → Correct p (Stores d)
    → Answering P p → ((a : A) → P a → Correct (f a) (Stores e)) → Correct (p >>= f) (Stores (and_then d e))
stores_where h t k = correct_as (correct_where h t k) (λ final ps m m' b g row. more_then row.first row.second)

pub stores_end : {A B : Type 0} {d : StoredData} {p : Lowering A} {f : A → Lowering B} → Correct p (Stores d)
    → ((a : A) → Correct (f a) (Stores no_data)) → Correct (p >>= f) (Stores d)
stores_end h k = correct_as (correct_bind h k) (λ final ps m m' b g row. more_last row.first row.second)

pub stores_begin : {A B : Type 0} {d : StoredData} {p : Lowering A} {f : A → Lowering B} → Correct p (Stores no_data)
    → ((a : A) → Correct (f a) (Stores d)) → Correct (p >>= f) (Stores d)
stores_begin h k = stores_then h k

-- one more than these
one_more : {X Y : Type 0} (xs : List X) (x : X) (f : ℕ → Y)
    → each_below (length (xs ++ x ∷ [])) f ≡ each_below (length xs) f ++ f (length xs) ∷ []
one_more xs x f = ap (λ n. each_below n f) (length-append xs (x ∷ []) ∙ add-one (length xs))

pub type_stores : (t : TypeRef) (at : Option Pointer) (shape : Shape) → Correct (alloc_type t at) (λ final ps m m' i.
    TypeIs (typed at shape) final m i → More (record { types = typed at shape ∷ []; lifetimes = [] }) final m.stored m'.stored)
type_stores t at shape = correct_as (correct_alloc_type t at) (λ final ps m m' i g row. λ is.
    let read : ℕ → TypeData = λ n. stored_type (store_of final) (map_of final) (type_id n) in
    let xs = m.stored.types.entries in record {
      types = ap (types_in final) row.stored ∙ (one_more xs t read
          ∙ ap (λ x. types_in final m.stored ++ x ∷ []) (ap read (sym (row.number ∙ row.last)) ∙ is));
      lifetimes = ap (lifetimes_in final) row.stored ∙ sym (append-nil _);
    })

pub lifetime_stores : (l : LifetimeRef) (at : Option Pointer) → Correct (alloc_lifetime l at)
    (Stores (record { types = []; lifetimes = record { lifetime = l; from = at } ∷ [] }))
lifetime_stores l at = correct_as (correct_alloc_lifetime l at) (λ final ps m m' i g row.
    let read : ℕ → LifetimeData = λ n. stored_lifetime (store_of final) (map_of final) (lifetime_id n) in
    let one : read m.lifetimes ≡ record { lifetime = l; from = at } = rw (row.here, row.from) refl in
    let xs = m.stored.lifetimes.entries in record {
      types = ap (types_in final) row.stored ∙ sym (append-nil _);
      lifetimes = ap (lifetimes_in final) row.stored ∙ (one_more xs l read
          ∙ ap (λ x. lifetimes_in final m.stored ++ x ∷ []) (ap read (sym row.last) ∙ one));
    })

pub expr_stores : (e : HirExpr) (at : Option Pointer) → Correct (alloc_expr e at) (Stores no_data)
expr_stores e at = still (correct_alloc e at) (λ final ps m m' i row. ap data_of row.stored)

pub binding_stores : (b : Binding) → Correct (alloc_binding b) (Stores no_data)
binding_stores b = still (correct_alloc_binding b) (λ final ps m m' i row. ap data_of row.stored)

pub pat_stores : (p : HirPat) (at : Option Pointer) → Correct (alloc_pat p at) (Stores no_data)
pat_stores p at = still (correct_alloc_pat p at) (λ final ps m m' i row. ap data_of row.stored)

pub define_stores : (b : BindingId) (p : PatId) → Correct (define b p) (Stores no_data)
define_stores b p = still (correct_define b p) (λ final ps m m' u row. ap data_of row.stored)

pub made_bind_stores : (mode : BindingAnnotation) (n : ℕ) → Correct (made_bind_form mode n) (Stores no_data)
unfolding made_bind_form
made_bind_stores mode n = stores_end (binding_stores _) (λ b. stores_end (pat_stores _ None)
    (λ p. stores_end (define_stores b p) (λ u. pure_stores p)))

problems_stored : (tracked : SideOutput) (number : ℕ) (es : List (Key × BindingId))
    → Correct (forms.settle_from tracked number es) (Stores no_data)
problems_stored tracked number [] = pure_stores tt
problems_stored tracked number (e ∷ es) = stores_end
    (still (correct_set_problem _ _) (λ final ps m m' u row. ap data_of row.stored)) (λ u. problems_stored tracked (suc number) es)

pub settle_stores : (t : Table) → Correct (forms.settle t) (Stores no_data)
unfolding forms.settle
settle_stores t = problems_stored t.tracked 0 t.bindings

place_stored : (place : Option ℕ) → Correct (counted_place place) (Stores no_data)
place_stored None = correct_count_out (Stores no_data)
place_stored (Some n) = pure_stores (Some n)

pub dots_stored : (comma : Bool) (place : Option ℕ) → Correct (counted_dots comma place) (Stores no_data)
dots_stored comma None = pure_stores None
dots_stored comma (Some n) = place_stored (small_place comma n)

pub super_stored : (r : Option Reading) → Correct (or_count_out r) (Stores no_data)
super_stored (Some r) = pure_stores r
super_stored None = correct_count_out (Stores no_data)

-- the fault of a jump without a target stores neither
jump_still : {A : Type 0} (j : Jump) (t : Target A) (s : Stored) → data_of (with_target j t s) ≡ data_of s
jump_still j (reachable n) s = refl
jump_still j unreachable s = refl
jump_still j undeclared s = refl

jumps_still : {A : Type 0} (j : Option Jump) (rs : List (Rib A)) (s : Stored) → data_of (with_jump j rs s) ≡ data_of s
jumps_still None rs s = refl
jumps_still (Some j) rs s = jump_still j (target j rs) s

pub jump_stores : (j : Option Jump) → Correct (jump_target j) (Stores no_data)
jump_stores j = still (correct_target j) (λ final ps m m' n row. ap data_of row.stored ∙ jumps_still j (ribs ps) m.stored)

block_still : (n : Option BlockId) (s : Stored) → data_of (with_block n s) ≡ data_of s
block_still None s = refl
block_still (Some n) s = refl

pub block_stores : (n : Option BlockId) → Correct (enter_block n) (Stores no_data)
block_stores n = still (correct_enter_block n) (λ final ps m m' u row. ap data_of row.stored ∙ block_still n m.stored)

-- around steps

-- nothing is told of what comes behind
pub stores_opened : {A : Type 0} {d : StoredData} {p : Lowering A} → Correct p (Stores (and_then d no_data)) → Correct p (Stores d)
stores_opened h = correct_as h (λ final ps m m' a g row. more_last_of row)

pub owning_stores : {A : Type 0} (owner : A → ExprId) {d : StoredData} {p : Lowering A} → Correct p (Stores d)
    → Correct (owning owner p) (Stores d)
owning_stores owner h = owning_keeps owner (λ final ps m left start id a row. more_end row refl) h

pub opened_stores : {A B : Type 0} {d e : StoredData} (at : Label → LabelId → Frame) (l : Label) {p : LabelId → Lowering A}
    {f : LabelId → A → Lowering B} → ((n : LabelId) (ps : List Frame) → ribs (at l n ∷ ps) ≡ rib l n ∷ ribs ps)
    → ((n : LabelId) → Correct (p n) (Stores d)) → ((n : LabelId) (a : A) → Correct (f n a) (Stores e))
    → Correct (open_label l >>= (λ n. p n >>= (λ a. close >>= (λ _. f n a)))) (Stores (and_then d e))
opened_stores at l frame hp hf = correct_as (correct_opened at l frame hp hf)
    (λ final ps m m' b g row. more_then (more_begin (ap data_of row.stored) row.first) row.second)

pub try_stores : (at : Pointer) (is_typed : Bool) {c d : StoredData} (k : Bool → StoredData) (of : StoredContents → Bool) (b : Bool)
    {s : Lowering (Unit {0})} {p : Lowering StoredContents} {f : LabelId → StoredContents → ExprSteps} → Correct s (Stores c)
    → Correct p (Stores d) → Answering (λ r. of r ≡ b) p → ((n : LabelId) (r : StoredContents) → Correct (f n r) (Stores (k (of r))))
    → Correct (open_try at is_typed >>= (λ n. s >>= (λ _. p >>= (λ r. close >>= (λ _. f n r)))))
    (Stores (and_then (and_then c d) (k b)))
try_stores at is_typed k of b hs hp t more = correct_as (correct_opened_try at is_typed hs (correct_with hp t) more)
    (λ final ps m m' i g row.
    let inner = more_then row.first.first row.first.second.0 in
    more_then (more_begin (ap data_of row.stored) inner)
    (subst (λ x. More (k x) final row.left.stored m'.stored) row.first.second.1 row.second))

root_still : (i : ExprId) {a b : Stored} → (b ≡ a) ⊎ (b ≡ with_root i a) → data_of b ≡ data_of a
root_still i (inl e) = ap data_of e
root_still i (inr e) = ap data_of e

pub inner_stores : {d : StoredData} {p : ExprSteps} → Correct p (Stores d) → Correct (inner_form p) (Stores d)
inner_stores h = correct_as (correct_inner h) (λ final ps m m' i g row. more_end row.first (root_still i row.stored))

pub rooted_stores : {d : StoredData} {p : ExprSteps} → Correct p (Stores d) → Correct (constant_form p) (Stores d)
rooted_stores h = correct_as (correct_constant h) (λ final ps m m' c g row. more_end row.first (root_still c.expr row.stored))

pub closure_stores : (at : Pointer) (moves is_static : Bool) {c d e : StoredData} {p : Lowering ClosureParams}
    {t : Lowering (Option TypeRefId)} {b : ExprSteps} → Correct p (Stores c) → Correct t (Stores d) → Correct b (Stores e)
    → Correct (owning (λ i. i) (closure_form at moves is_static p t b)) (Stores (and_then c (and_then d e)))
closure_stores at moves is_static hp ht hb = owning_stores (λ i. i) (correct_as (correct_closure at moves is_static hp ht hb)
    (λ final ps m m' i g row. more_then row.in_params (more_then row.in_ret (more_end row.in_body (ap data_of row.made.stored)))))

coroutine_block_stores : (at : Pointer) (kind : CoroutineKind) (moves : Bool) (number : Option BlockId) {d : StoredData}
    {c : Lowering StoredContents} → Correct c (Stores d) → Correct (coroutine_block_form at kind moves number c) (Stores d)
unfolding coroutine_block_form coroutine_around_form
coroutine_block_stores at kind moves number h = stores_begin (block_stores number)
    (λ u. stores_end h (λ r. stores_end (expr_stores _ None) (λ b. expr_stores _ (Some at))))

pub coroutine_stores : (at : Pointer) (kind : CoroutineKind) (moves : Bool) (number : Option BlockId) {d : StoredData}
    {c : Lowering StoredContents} → Correct c (Stores d)
    → Correct (owning (λ i. i) (coroutine_form (coroutine_block_form at kind moves number c))) (Stores d)
coroutine_stores at kind moves number h = owning_stores (λ i. i)
    (correct_as (correct_coroutine (coroutine_block_stores at kind moves number h)) (λ final ps m m' i g row. row.inside))
