-- How much a closure and its parameters store, and a coroutine block; and whatever else owns what is bound in it.
use Rattle.std.proofs.Common.{◌∙◌, Bool, length, Option, Some, None, Ok, Err}
use Rattle.hir_store.specs.Bindings.{binding_id, with_owner}
use Rattle.hir_store.specs.Pointers.{Pointer}
use Rattle.hir_store.specs.StoreSink as store_sink
use Rattle.hir_store.specs.declared.hir.CoroutineKind.{CoroutineKind}
use Rattle.hir_store.specs.declared.ids.BindingId.{BindingId}
use Rattle.hir_store.specs.declared.ids.BlockId.{BlockId}
use Rattle.hir_store.specs.declared.ids.ExprId.{ExprId}
use Rattle.hir_store.specs.declared.ids.TypeRefId.{TypeRefId}
use Rattle.hir_lower_builder.specs.Builder.{Builder}
use Rattle.hir_lower_builder.specs.declared.closures.ClosureParams.{ClosureParams}
use Rattle.hir_lower_builder.specs.Lower.{ExprSteps, StoredContents, closure_form, constant_form, coroutine_block_form}
use Rattle.hir_lower_builder.specs.Lower.{coroutine_form}
use Rattle.hir_lower_builder.specs.Lowering.{Checked, go_on, Lowering, bindings_end, own, owning}
use Rattle.hir_lower_builder.specs.Forms.{coroutine_around_form}
use Rattle.spec_semantics.specs.InnerWritten.{InnerBody}
use Rattle.thm_body_result.specs.Size.{Size, a_body, an_expr, owned, ◌∪◌}
use Rattle.thm_body_result.proofs.Knowing.{Known, TakesIf, takes_always, takes_any}
use Rattle.thm_body_result.proofs.Last.{EndsWith, IsLast, Last, constant_last, coroutine_last}
use Rattle.thm_body_result.proofs.Last.{closure_last, coroutine_block_last}
use Rattle.thm_body_result.proofs.Owners.{as_many_owned, last_owns}
use Rattle.thm_body_result.proofs.Rooms.{Takes, takes_alloc, takes_barrier, takes_begin, takes_block, takes_close_barrier, takes_constant}
use Rattle.thm_body_result.proofs.Rooms.{takes_end, takes_pure, takes_then}
use Rattle.thm_body_result.proofs.Took.{Room}

-- what owns

-- where this is what owns the bindings from this one on that nothing owned
abbrev owned_from : {A : Type 0} → (A → ExprId) → BindingId → A → Lowering A
owned_from owner start a = λ c.
    (Ok a, record c { stored = record c.stored { bindings = with_owner c.stored.bindings start (owner a) } })

-- also where something is known of what is stored
pub owning_takes : {A : Type 0} {owner : A → ExprId} {P : Known} {n : Size} {p : Lowering A} → Last owner p → TakesIf P n p
    → TakesIf P (owned n) (owning owner p)
unfolding owning bindings_end own store_sink.own
owning_takes {A = A} {owner = owner} {n = n} {p = p} h k =
    record { takes = λ b d x. by b (p b).0 (p b).1 (h.last b) (k.takes b d x) }
  where
    by : (b : Builder) (o : Checked A) (c : Builder) → EndsWith owner o c → Room n b o c
        → let start = binding_id (length b.stored.bindings.entries) in
        Room (owned n) b (go_on o c (owned_from owner start)).0 (go_on o c (owned_from owner start)).1
    by b (Ok a) c last took = record {
      exprs = took.exprs;
      labels = took.labels;
      bindings = took.bindings;
      pats = took.pats;
      types = took.types;
      lifetimes = took.lifetimes;
      paired = λ d. let now = took.paired d in record {
        exprs = now.exprs;
        labels = now.labels;
        pats = now.pats;
        types = now.types;
        lifetimes = now.lifetimes;
      };
      pat_sources = took.pat_sources;
      pat_mappings = took.pat_mappings;
      target_mappings = took.target_mappings;
      type_sources = took.type_sources;
      lifetime_sources = took.lifetime_sources;
      type_mappings = took.type_mappings;
      pat_leads = took.pat_leads;
      type_leads = took.type_leads;
      names = took.names;
      params = took.params;
      as_many = as_many_owned n.exprs n.owners took.as_many;
      owners = λ m. last_owns b.stored.bindings.owners (length b.stored.exprs.entries) n.exprs n.owners (owner a)
          (length b.stored.bindings.entries) m (last ∙ took.exprs.more) (took.owners m);
    }
    by b (Err e) c last short = short

pub takes_owning : {A : Type 0} {owner : A → ExprId} {n : Size} {p : Lowering A} → Last owner p → Takes n p
    → Takes (owned n) (owning owner p)
takes_owning h k = takes_always {P = λ s. Unit {0}} (λ s. tt) (owning_takes h (takes_any k))

-- a length or an argument
pub takes_owned : (x : InnerBody) {n : Size} {p : ExprSteps} → IsLast p → Takes n p
    → Takes (a_body x (owned n)) (owning (λ c. c.expr) (constant_form p))
takes_owned x h k = takes_owning (constant_last h) (takes_constant x k)

-- forms

behind_takes : {n : Size} {p : ExprSteps} → Takes n p → Takes n (coroutine_form p)
unfolding coroutine_form
behind_takes h = takes_begin takes_barrier (λ outside. takes_end h (λ id. takes_end (takes_close_barrier outside) (λ y. takes_pure id)))

module _ (at : Pointer) where
  bordered_takes : (moves is_static : Bool) {n k j : Size} {p : Lowering ClosureParams} {t : Lowering (Option TypeRefId)} {e : ExprSteps}
      → Takes n p → Takes k t → Takes j e → Takes (n ∪ (k ∪ (j ∪ an_expr))) (closure_form at moves is_static p t e)
  unfolding closure_form
  bordered_takes moves is_static hp ht he = takes_begin takes_barrier (λ outside. takes_then hp (λ l. takes_then ht (λ r. takes_then he
      (λ i. takes_begin (takes_close_barrier outside) (λ y. takes_alloc _ (Some at))))))

  pub closure_takes : (moves is_static : Bool) {n k j : Size} {p : Lowering ClosureParams} {t : Lowering (Option TypeRefId)} {e : ExprSteps}
      → Takes n p → Takes k t → Takes j e
      → Takes (owned (n ∪ (k ∪ (j ∪ an_expr)))) (owning (λ i. i) (closure_form at moves is_static p t e))
  closure_takes moves is_static hp ht he =
      takes_owning (closure_last at moves is_static _ _ _) (bordered_takes moves is_static hp ht he)

  coroutine_block_takes : (kind : CoroutineKind) (moves : Bool) (number : Option BlockId) {n : Size} {c : Lowering StoredContents}
      → Takes n c → Takes (n ∪ (an_expr ∪ an_expr)) (coroutine_block_form at kind moves number c)
  unfolding coroutine_block_form coroutine_around_form
  coroutine_block_takes kind moves number h = takes_begin (takes_block number) (λ u. takes_then h (λ r.
      takes_then (takes_alloc _ None) (λ b. takes_alloc _ (Some at))))

  pub coroutine_takes : (kind : CoroutineKind) (moves : Bool) (number : Option BlockId) {n : Size} {c : Lowering StoredContents}
      → Takes n c
      → Takes (owned (n ∪ (an_expr ∪ an_expr))) (owning (λ i. i) (coroutine_form (coroutine_block_form at kind moves number c)))
  coroutine_takes kind moves number h =
      takes_owning (coroutine_last (coroutine_block_last at kind moves number _)) (behind_takes (coroutine_block_takes kind moves number h))
