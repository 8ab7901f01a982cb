-- Steps whose bindings are owned, and coroutine blocks, are made of such steps.
use Rattle.std.proofs.Common.{arith, ◌≤◌, ◌∙◌, refl, sym, ap, subst, ℕ, zero, suc, Bool, List, [], ◌∷◌, ◌++◌, length}
use Rattle.std.proofs.Common.{Option, Some, None, Ok, Err}
use Rattle.hir_store.specs.Arenas.{Prefix}
use Rattle.hir_store.specs.Bindings.{binding_id, own_from}
use Rattle.hir_store.specs.Pointers.{Pointer}
use Rattle.hir_store.specs.Stored.{Stored}
use Rattle.hir_store.specs.StoreSink as store_sink
use Rattle.hir_store.specs.declared.hir.CoroutineKind.{CoroutineKind}
use Rattle.hir_store.specs.declared.ids.BlockId.{BlockId}
use Rattle.hir_store.specs.declared.ids.ExprId.{ExprId}
use Rattle.hir_store.proofs.OwnerLemmas.{length_owned}
use Rattle.hir_lower_builder.specs.Builder.{Builder}
use Rattle.hir_lower_builder.specs.Forms.{ExprSteps, StoredContents, coroutine_block_form, coroutine_form}
use Rattle.hir_lower_builder.specs.Lowering.{Checked, Lowering, ◌>>=◌, bindings_end, close_barrier, go_on, own, owning, pure}
use Rattle.hir_lower_builder.specs.Forms.{coroutine_around_form}
use Rattle.thm_logic.proofs.Owning.{with_owned}
use Rattle.thm_body_result.specs.LeadsOn.{OwnersStay, Went}
use Rattle.thm_body_result.proofs.Onward.{Goes, Leading, Low, any, makes, since}
use Rattle.thm_body_result.proofs.Mappings.{leading_alloc, leading_barrier, leading_block}

-- owners from a place on that is behind a list
owned_beyond : (os more : List (Option ExprId)) (n : ℕ) (id : ExprId) → length os ≤ n → Prefix os (own_from n id (os ++ more))
owned_beyond [] more n id h = record { more = own_from n id more; is = refl }
owned_beyond (o ∷ os) more zero id h = absurd (omega (arith, h))
owned_beyond (o ∷ os) more (suc n) id h =
    let r = owned_beyond os more n id (omega (arith, h)) in record { more = r.more; is = ap (λ ps. o ∷ ps) r.is }

-- what owns the bindings that came is written, and no other
owners_stay : (a b : Stored) (id : ExprId) → OwnersStay a b → OwnersStay a (with_owned (binding_id (length a.bindings.entries)) id b)
owners_stay a b id h = λ m.
    let x = h m in
    let n = length a.bindings.entries in
    let first = subst (λ os. Prefix a.bindings.owners (own_from n id os)) (sym x.0.is)
    (owned_beyond a.bindings.owners x.0.more n id (omega (arith, m))) in
    (first, length_owned n id b.bindings.owners ∙ x.1)

pub went_owned : (a b : Stored) (id : ExprId) → Went a b → Went a (with_owned (binding_id (length a.bindings.entries)) id b)
went_owned a b id w = record {
  exprs = w.exprs;
  labels = w.labels;
  pats = w.pats;
  types = w.types;
  targets = w.targets;
  lifetimes = w.lifetimes;
  bindings = w.bindings;
  owners = owners_stay a b id w.owners;
}

pub leading_owning : {A : Type 0} {L : Low A} (owner : A → ExprId) {p : Lowering A} → Leading L p → Leading L (owning owner p)
unfolding owning bindings_end own store_sink.own
leading_owning {A = A} {L = L} owner {p = p} h = record { goes = λ b. by b (p b).0 (p b).1 (h.goes b) }
  where
    owned : ℕ → A → Lowering A
    owned n x = own (binding_id n) (owner x) >>= (λ _. pure x)

    by : (b : Builder) (o : Checked A) (c : Builder) → Goes L b o c
        → let n = length b.stored.bindings.entries in Goes L b (go_on o c (owned n)).0 (go_on o c (owned n)).1
    by b (Ok x) c g = (went_owned b.stored c.stored (owner x) g.0, g.1)
    by b (Err e) c g = g

-- behind a barrier, an expression
leading_behind : (outside : Bool) {p : ExprSteps} → Leading since p
    → Leading since (p >>= (λ i. close_barrier outside >>= (λ _. pure i)))
unfolding close_barrier
leading_behind outside {p = p} h = record { goes = λ b. by b (p b).0 (p b).1 (h.goes b) }
  where
    left : ExprId → ExprSteps
    left i = close_barrier outside >>= (λ _. pure i)

    by : (b : Builder) (o : Checked ExprId) (c : Builder) → Goes since b o c → Goes since b (go_on o c left).0 (go_on o c left).1
    by b (Ok i) c x = x
    by b (Err e) c x = x

pub coroutine_leads : {p : ExprSteps} → Leading since p → Leading since (coroutine_form p)
unfolding coroutine_form
coroutine_leads h = makes leading_barrier (λ outside. leading_behind outside h)

pub coroutine_block_leads : (at : Pointer) (kind : CoroutineKind) (moves : Bool) (number : Option BlockId) {c : Lowering StoredContents}
    → Leading any c → Leading since (coroutine_block_form at kind moves number c)
unfolding coroutine_block_form coroutine_around_form
coroutine_block_leads at kind moves number h = makes (leading_block number)
    (λ u. makes h (λ r. makes (leading_alloc _ None) (λ b. leading_alloc _ (Some at))))
