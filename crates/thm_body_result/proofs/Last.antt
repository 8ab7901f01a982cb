-- Steps whose answer is the last expression that is stored.
use Rattle.std.proofs.Common.{arith, refl, Bool, true, false, nat_lt, length, length-append, List, [], ◌∷◌}
use Rattle.std.proofs.Common.{Option, Some, None}
use Rattle.hir_store.specs.Pointers.{Pointer}
use Rattle.hir_store.specs.StoreSink as store_sink
use Rattle.hir_store.specs.declared.hir.CoroutineKind.{CoroutineKind}
use Rattle.hir_store.specs.declared.hir.CoroutineSource.{CoroutineSource}
use Rattle.hir_store.specs.declared.hir.CoroutineSource.TheVariants as source
use Rattle.hir_store.specs.declared.hir.Expr.{Expr}
use Rattle.hir_store.specs.declared.hir.Statement.{Statement}
use Rattle.hir_store.specs.declared.ids.BindingId.{BindingId}
use Rattle.hir_store.specs.declared.ids.BlockId.{BlockId}
use Rattle.hir_store.specs.declared.ids.ExprId.{ExprId}
use Rattle.hir_store.specs.declared.ids.TypeRefId.{TypeRefId}
use Rattle.hir_lower_builder.specs.Builder.{Builder}
use Rattle.hir_lower_builder.specs.declared.closures.ClosureParams.{ClosureParams}
use Rattle.hir_lower_builder.specs.Forms.{ExprSteps, StoredContents, closure_form, constant_form, coroutine_around_form}
use Rattle.hir_lower_builder.specs.Forms.{coroutine_block_form}
use Rattle.hir_lower_builder.specs.Forms.{coroutine_form}
use Rattle.hir_lower_builder.specs.Lowering.{Checked, Lowering, ◌>>=◌, pure, alloc_expr, alloc_desugared, bindings_end, close}
use Rattle.hir_lower_builder.specs.Lowering.{close_barrier}
use Rattle.hir_lower_builder.specs.Lowering.{enter_block, enter_root, leave_root, open_barrier, outside_root, own, owning, point}
use Rattle.hir_lower_builder.specs.Lowering.{record_root}
use Rattle.hir_lower_builder.specs.Preludes.{coroutine_closure_form, let_params, lower_handed, made_coroutine_form, no_prelude, within_form}
use Rattle.thm_body_result.proofs.LastStored.{Counted, EndsAt, LastOf, Stays, hands_pure, hands_then, last_before, last_hands, lastly}
use Rattle.thm_body_result.proofs.MadeRooms.{hidden_expr}
use Rattle.thm_body_result.proofs.Rooms.{made_expr}

abbrev pub in_exprs : Counted ExprId
in_exprs = record { place = λ i. i.0; count = λ s. length s.exprs.entries }

-- the expression of the answer, where there is one
abbrev pub EndsWith : {A : Type 0} → (A → ExprId) → Checked A → Builder → Type 0
EndsWith owner o c = EndsAt in_exprs owner o c

abbrev pub Last : {A : Type 0} → (A → ExprId) → Lowering A → Type 0
Last owner p = LastOf in_exprs owner p

abbrev pub IsLast : ExprSteps → Type 0
IsLast p = Last (λ i. i) p

-- whatever comes before
pub last_then : {A B : Type 0} {owner : B → ExprId} (p : Lowering A) {f : A → Lowering B} → ((a : A) → Last owner (f a))
    → Last owner (p >>= f)
last_then p h = lastly in_exprs p h

-- steps that store no expression

pub quiet_close : Stays in_exprs close
unfolding close
quiet_close = record { stays = λ b. refl }

quiet_close_barrier : (outside : Bool) → Stays in_exprs (close_barrier outside)
unfolding close_barrier
quiet_close_barrier outside = record { stays = λ b. refl }

quiet_leave : (outer : Bool) (id : ExprId) → Stays in_exprs (leave_root outer id)
unfolding leave_root record_root outside_root store_sink.record_root
quiet_leave true id = record { stays = λ b. refl }
quiet_leave false id = record { stays = λ b. refl }

quiet_own : (start : BindingId) (id : ExprId) → Stays in_exprs (own start id)
unfolding own store_sink.own
quiet_own start id = record { stays = λ b. refl }

quiet_point : (at : Pointer) (id : ExprId) → Stays in_exprs (point at id)
unfolding point store_sink.point
quiet_point at id = record { stays = λ b. refl }

-- expressions that are stored

pub last_alloc : (e : Expr) (source : Option Pointer) → IsLast (alloc_expr e source)
unfolding alloc_expr store_sink.alloc_expr
last_alloc e source = record { last = λ b. by b (nat_lt (length b.stored.exprs.entries) b.stored.exprs.limit) }
  where
    by : (b : Builder) (t : Bool) → EndsWith (λ i. i) (made_expr t e source b.stored.exprs).0
        (record b { stored = record b.stored { exprs = (made_expr t e source b.stored.exprs).1 } })
    by b true = let more = length-append b.stored.exprs.entries (e ∷ []) in omega (arith, more)
    by b false = tt

pub last_made : (e : Expr) (source : Option Pointer) → IsLast (alloc_desugared e source)
unfolding alloc_desugared store_sink.alloc_desugared
last_made e source = record { last = λ b. by b (nat_lt (length b.stored.exprs.entries) b.stored.exprs.limit) }
  where
    by : (b : Builder) (t : Bool) → EndsWith (λ i. i) (hidden_expr t e source b.stored.exprs).0
        (record b { stored = record b.stored { exprs = (hidden_expr t e source b.stored.exprs).1 } })
    by b true = let more = length-append b.stored.exprs.entries (e ∷ []) in omega (arith, more)
    by b false = tt

-- what hands on an expression

pub pointed_last : (at : Pointer) {p : ExprSteps} → IsLast p → IsLast (p >>= (λ i. point at i >>= (λ _. pure i)))
pointed_last at h = last_before in_exprs (λ i. i) (λ i. refl) h (λ i. quiet_point at i)

pub owning_last : {A : Type 0} {owner : A → ExprId} {p : Lowering A} → Last owner p → Last owner (owning owner p)
unfolding owning
owning_last {owner = owner} h = last_then bindings_end (λ start. last_hands in_exprs h
    (λ x. hands_then in_exprs (quiet_own start (owner x)) (λ u. hands_pure in_exprs x refl)))

pub constant_last : {p : ExprSteps} → IsLast p → Last (λ c. c.expr) (constant_form p)
unfolding constant_form
constant_last h = last_then open_barrier (λ outside. last_then enter_root (λ outer. last_hands in_exprs h
    (λ id. hands_then in_exprs (quiet_close_barrier outside) (λ y.
    hands_then in_exprs (quiet_leave outer id) (λ u. hands_pure in_exprs _ refl)))))

pub made_coroutine_last : (kind : CoroutineKind) (from : CoroutineSource) (lets : List Statement) (body : ExprId)
    → IsLast (made_coroutine_form kind from lets body)
unfolding made_coroutine_form
made_coroutine_last kind from lets body = last_then (alloc_expr _ None) (λ b. last_alloc _ None)

-- the coroutine of a closure
pub within_last : (kind : CoroutineKind) (p : Lowering ClosureParams) (t : Lowering (Option TypeRefId)) (e : ExprSteps)
    → Last (λ w. w.coroutine) (within_form kind p t e)
unfolding within_form
within_last kind p t e = last_then p (λ l. last_then t (λ r. last_then e (λ i. last_then (let_params no_prelude l.args)
    (λ k. last_hands in_exprs (made_coroutine_last kind source.Closure k.lets i) (λ c. hands_pure in_exprs _ refl)))))

pub coroutine_last : {p : ExprSteps} → IsLast p → IsLast (coroutine_form p)
unfolding coroutine_form
coroutine_last h = last_then open_barrier
    (λ outside. last_hands in_exprs h (λ id. hands_then in_exprs (quiet_close_barrier outside) (λ y. hands_pure in_exprs id refl)))

-- closures and coroutines

module _ (at : Pointer) where
  pub closure_last : (moves is_static : Bool) (p : Lowering ClosureParams) (t : Lowering (Option TypeRefId)) (e : ExprSteps)
      → IsLast (closure_form at moves is_static p t e)
  unfolding closure_form
  closure_last moves is_static p t e = last_then open_barrier (λ outside. last_then p (λ l. last_then t (λ r. last_then e
      (λ i. last_then (close_barrier outside) (λ y. last_alloc _ (Some at))))))

  pub coroutine_closure_last : (kind : CoroutineKind) (moves : Bool) (p : Lowering ClosureParams) (t : Lowering (Option TypeRefId))
      (e : ExprSteps) → IsLast (coroutine_closure_form at kind moves p t e)
  unfolding coroutine_closure_form
  coroutine_closure_last kind moves p t e = last_then open_barrier (λ outside.
      last_then (owning (λ w. w.coroutine) (within_form kind p t e)) (λ w. last_then (lower_handed [] w.handed)
      (λ ps. last_then (close_barrier outside) (λ y. last_alloc _ (Some at)))))

  pub coroutine_block_last : (kind : CoroutineKind) (moves : Bool) (number : Option BlockId) (c : Lowering StoredContents)
      → IsLast (coroutine_block_form at kind moves number c)
  unfolding coroutine_block_form coroutine_around_form
  coroutine_block_last kind moves number c =
      last_then (enter_block number) (λ u. last_then c (λ r. last_then (alloc_expr _ None) (λ b. last_alloc _ (Some at))))
