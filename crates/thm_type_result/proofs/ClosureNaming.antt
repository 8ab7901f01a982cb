-- A closure names the types and the patterns of its parameters and what it returns; a coroutine names by what is in it, also by the `let`s
-- in front of its body.
use Rattle.std.proofs.Common.{arith, List, [], ◌∷◌, ◌++◌, Bool, Option, Some, None}
use Rattle.hir_store.specs.Pointers.{Pointer}
use Rattle.hir_store.specs.declared.hir.CoroutineKind.{CoroutineKind}
use Rattle.hir_store.specs.declared.hir.CoroutineSource.TheVariants as source
use Rattle.hir_store.specs.declared.ids.BlockId.{BlockId}
use Rattle.hir_store.specs.declared.ids.ExprId.{ExprId}
use Rattle.hir_store.specs.declared.ids.PatId.{PatId}
use Rattle.hir_store.specs.declared.ids.TypeRefId.{TypeRefId}
use Rattle.hir_lower_builder.specs.declared.closures.ClosureParams.{ClosureParams}
use Rattle.hir_lower_builder.specs.declared.preludes.Within.{Within}
use Rattle.hir_lower_builder.specs.Forms.{ExprSteps, StoredContents, add_param, stored_closure, stored_coroutine}
use Rattle.hir_lower_builder.specs.Lower.{closure_form, coroutine_block_form, coroutine_form, param_form, yield_form}
use Rattle.hir_lower_builder.specs.Lowering.{Lowering}
use Rattle.hir_lower_builder.specs.Preludes.{coroutine_closure_form, no_prelude, stored_coroutine_closure, within_form}
use Rattle.hir_lower_builder.specs.Forms.{coroutine_around_form}
use Rattle.thm_logic.proofs.Preludes.{within_of}
use Rattle.thm_type_result.specs.Named.{Look, of_expr}
use Rattle.thm_type_result.specs.Reached.{of_each, of_present}
use Rattle.thm_type_result.proofs.Counted.{◌⊑◌, times_append}
use Rattle.thm_type_result.proofs.Numbers.{each_push}
use Rattle.thm_type_result.proofs.Adding.{Numbers, none}
use Rattle.thm_type_result.proofs.Asked.{Correct, Adds, Quiet, adds_beside, adds_expr, adds_pure, adds_then, adds_quiet}
use Rattle.thm_type_result.proofs.Naming.{quiet_alloc, quiet_close_barrier, quiet_enter_block, quiet_track_yield, quiet_open_barrier}
use Rattle.thm_type_result.proofs.Naming.{quiet_pure, quiet_then}
use Rattle.thm_type_result.proofs.NamingForms.{contents, settled_less}
use Rattle.thm_type_result.proofs.NamingAtOnce.{AtOnce, at_once, at_once_beside, at_once_expr, at_once_from, at_once_more}
use Rattle.thm_type_result.proofs.NamingAtOnce.{at_once_owning, at_once_pure, at_once_still, at_once_then, quiet_at_once}
use Rattle.thm_type_result.proofs.NamingPreludes.{handed_add, let_params_name, made_coroutine_names, prelude}
use Rattle.thm_type_result.proofs.Owned.{a_pat, beside, maybe_type}
use Rattle.thm_type_result.proofs.OwnedPats.{pats}

-- the patterns, and then the types
abbrev pub params_named : ClosureParams → Numbers
params_named c l = of_each l.pats c.args ++ of_each (of_present l.types) c.arg_types

pushed : (c : ClosureParams) (i : PatId) (r : Option TypeRefId) (l : Look)
    → params_named (add_param c i r) l ⊑ (params_named c l ++ a_pat i l) ++ maybe_type r l
pushed c i r l k =
    let types = of_present l.types in
    let a = each_push l.pats c.args i k in
    let b = each_push types c.arg_types r k in
    let d = times_append k (of_each l.pats (c.args ++ i ∷ [])) (of_each types (c.arg_types ++ r ∷ [])) in
    let e = times_append k (of_each l.pats c.args) (of_each types c.arg_types) in
    let f = times_append k (params_named c l) (l.pats i) in
    let g = times_append k (params_named c l ++ l.pats i) (types r) in omega arith

pub param_adds : (c : ClosureParams) {p : Lowering PatId} {t : Lowering (Option TypeRefId)} → Correct p (Adds none a_pat)
    → Correct t (Adds none maybe_type) → Correct (param_form c p t) (Adds (params_named c) params_named)
unfolding param_form
param_adds c hp ht = adds_then (adds_beside (params_named c) hp)
    (λ i. adds_then (adds_beside (λ l. params_named c l ++ a_pat i l) ht) (λ r. adds_pure (add_param c i r) (pushed c i r)))

-- what the closure names
abbrev all_named : ClosureParams → Option TypeRefId → Numbers
all_named c r l = params_named c l ++ maybe_type r l

node_named : (moves is_static : Bool) (c : ClosureParams) (r : Option TypeRefId) (body : ExprId) (y : Bool) (l : Look)
    → of_expr l (stored_closure moves is_static c r body y) ⊑ all_named c r l
node_named moves is_static c r body y l k =
    let types = of_present l.types in
    let a = times_append k (of_each l.pats c.args) (of_each types c.arg_types ++ types r) in
    let b = times_append k (of_each types c.arg_types) (types r) in
    let d = times_append k (of_each l.pats c.args) (of_each types c.arg_types) in
    let e = times_append k (params_named c l) (types r) in omega arith

module _ (at : Pointer) where
  -- its body names by itself
  pub closure_quiet : (moves is_static : Bool) {p : Lowering ClosureParams} {t : Lowering (Option TypeRefId)} {e : ExprSteps}
      → Correct p (Adds none params_named) → Correct t (Adds none maybe_type) → Correct e Quiet
      → Correct (closure_form at moves is_static p t e) Quiet
  unfolding closure_form
  closure_quiet moves is_static hp ht he = adds_then quiet_open_barrier (λ outside. adds_then hp
      (λ c. adds_then (adds_beside (params_named c) ht)
      (λ r. adds_then (adds_quiet he) (λ e. adds_then (adds_quiet (quiet_close_barrier outside))
      (λ y. adds_expr (stored_closure moves is_static c r e y) (Some at) (node_named moves is_static c r e y))))))

  pub yield_quiet : {e : Lowering (Option ExprId)} → Correct e Quiet → Correct (yield_form at e) Quiet
  unfolding yield_form
  yield_quiet h = quiet_then quiet_track_yield (λ u. quiet_then h (λ v. quiet_alloc _ (Some at) (λ l k. omega arith)))

-- coroutine blocks

module _ (at : Pointer) where
  pub coroutine_block_quiet : (kind : CoroutineKind) (moves : Bool) (number : Option BlockId) {c : Lowering StoredContents}
      → Correct c (Adds none contents) → Correct (coroutine_block_form at kind moves number c) Quiet
  unfolding coroutine_block_form coroutine_around_form
  coroutine_block_quiet kind moves number h = quiet_then (quiet_enter_block number)
      (λ u. adds_then h (λ r. adds_then (adds_expr _ None (settled_less r.0 r.1))
      (λ b. adds_expr (stored_coroutine kind moves b) (Some at) (λ l k. omega arith))))

-- behind the barrier
pub coroutine_quiet : {p : ExprSteps} → Correct p Quiet → Correct (coroutine_form p) Quiet
unfolding coroutine_form
coroutine_quiet h = quiet_then quiet_open_barrier (λ outside. quiet_then h
    (λ i. quiet_then (quiet_close_barrier outside) (λ y. quiet_pure i)))

-- closures that make a coroutine

-- The patterns of the parameters are named in the coroutine, the types are not.

abbrev types_named : ClosureParams → Option TypeRefId → Numbers
types_named c r l = of_each (of_present l.types) c.arg_types ++ maybe_type r l

abbrev within_named : Within → Numbers
within_named w l = of_each (of_present l.types) w.arg_types ++ maybe_type w.ret l

types_beside : (c : ClosureParams) (r : Option TypeRefId) (l : Look)
    → beside (types_named c r) (beside (prelude no_prelude) (pats c.args)) l ⊑ beside (params_named c) (maybe_type r) l
types_beside c r l k =
    let types = of_each (of_present l.types) c.arg_types in
    let a = times_append k (types_named c r l) (pats c.args l) in
    let b = times_append k types (maybe_type r l) in
    let d = times_append k (params_named c l) (maybe_type r l) in
    let e = times_append k (pats c.args l) types in omega arith

within_names : (which : CoroutineKind) {p : Lowering ClosureParams} {t : Lowering (Option TypeRefId)} {e : ExprSteps}
    → Correct p (Adds none params_named) → Correct t (Adds none maybe_type) → Correct e Quiet
    → Correct (within_form which p t e) (AtOnce none within_named)
unfolding within_form
within_names which hp ht he = at_once_then (at_once hp) (λ c. at_once_then (at_once_more (params_named c) ht)
    (λ r. at_once_then (at_once_still he) (λ i. at_once_then (at_once_from (types_beside c r)
    (at_once_beside (types_named c r) (let_params_name no_prelude c.args)))
    (λ d. at_once_then (at_once_beside (types_named c r) (made_coroutine_names which source.Closure d.lets i))
    (λ o. at_once_pure (within_of c r d o) (λ l k. let x = times_append k (types_named c r l) [] in omega arith))))))

coroutine_node : (which : CoroutineKind) (moves : Bool) (formals : List PatId) (w : Within) (l : Look)
    → of_expr l (stored_coroutine_closure which moves formals w) ⊑ beside (within_named w) (pats formals) l
coroutine_node which moves formals w l k =
    let x = times_append k (pats formals l) (within_named w l) in
    let y = times_append k (within_named w l) (pats formals l) in omega arith

pub coroutine_closure_quiet : (at : Pointer) (which : CoroutineKind) (moves : Bool) {p : Lowering ClosureParams}
    {t : Lowering (Option TypeRefId)} {e : ExprSteps} → Correct p (Adds none params_named) → Correct t (Adds none maybe_type)
    → Correct e Quiet → Correct (coroutine_closure_form at which moves p t e) Quiet
unfolding coroutine_closure_form
coroutine_closure_quiet at which moves hp ht he = quiet_at_once (at_once_then (at_once_still quiet_open_barrier) (λ outside.
    at_once_then (at_once_owning (λ w. w.coroutine) (within_names which hp ht he)) (λ w.
    at_once_then (at_once_more (within_named w) (handed_add [] w.handed)) (λ formals.
    at_once_then (at_once_still (quiet_close_barrier outside)) (λ y.
    at_once_expr (stored_coroutine_closure which moves formals w) (Some at) (coroutine_node which moves formals w))))))
