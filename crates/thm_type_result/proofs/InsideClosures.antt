-- A closure holds what its parameters, its type and its body hold, and its body, which is reached by itself; so does a coroutine, also one
-- that a closure makes.
use Rattle.std.proofs.Common.{◌≡◌, arith, ℕ, ◌+◌, ◌≤◌, List, [], ◌∷◌, ◌++◌, Bool, true, false, Option, Some, None}
use Rattle.hir_store.specs.Pointers.{Pointer}
use Rattle.hir_store.specs.Stored.{Stored}
use Rattle.hir_store.specs.declared.hir.CoroutineKind.{CoroutineKind}
use Rattle.hir_store.specs.declared.hir.CoroutineSource.TheVariants as source
use Rattle.hir_store.specs.declared.hir.Expr.TheVariants as hir
use Rattle.hir_store.specs.declared.ids.BlockId.{BlockId}
use Rattle.hir_store.specs.declared.ids.ExprId.{ExprId}
use Rattle.hir_store.specs.declared.ids.PatId.{PatId}
use Rattle.hir_store.specs.declared.ids.TypeRefId.{TypeRefId}
use Rattle.hir_lower_builder.specs.declared.closures.ClosureParams.{ClosureParams}
use Rattle.hir_lower_builder.specs.declared.preludes.Within.{Within}
use Rattle.hir_lower_builder.specs.Forms.{ExprSteps, StoredContents, add_param, stored_closure, stored_coroutine}
use Rattle.hir_lower_builder.specs.Lower.{closure_form, coroutine_block_form, coroutine_form, no_closure_params, param_form, yield_form}
use Rattle.hir_lower_builder.specs.Lowering.{Lowering, ◌>>=◌, pure}
use Rattle.hir_lower_builder.specs.Preludes.{coroutine_closure_form, no_prelude, stored_coroutine_closure, within_form}
use Rattle.hir_lower_builder.specs.Forms.{coroutine_around_form}
use Rattle.spec_semantics.specs.Inner.{Inners, all_of, by_itself, handed_to, of_params, of_present}
use Rattle.thm_type_result.proofs.Counted.{less}
use Rattle.thm_type_result.proofs.InsideForms.{contents, maybe, settled_block_less, value_less}
use Rattle.thm_type_result.proofs.InsidePats.{pats}
use Rattle.thm_type_result.proofs.InsidePreludes.{each_handed_adds, let_params_add, made_coroutine_adds}
use Rattle.thm_type_result.proofs.InsideTypes.{maybe_type}
use Rattle.hir_lower_builder.specs.Builder.{Builder}
use Rattle.spec_data.specs.Tracking.{none as nothing}
use Rattle.thm_type_result.proofs.InsideAtOnce.{at_once_pure}
use Rattle.thm_generics.proofs.Logic.{SideOutput}
use Rattle.thm_generics.proofs.Steps.{tracks_close_barrier, tracks_track_yield, tracks_open_barrier}
use Rattle.thm_logic.proofs.Preludes.{within_of}
use Rattle.thm_logic.proofs.Steps.{mark}
use Rattle.thm_type_result.proofs.Asked.{Correct, correct_as, correct_bind, correct_pure}
use Rattle.thm_type_result.proofs.Weighed.{Cost, DeepView, View, a_limit, a_pat, an_expr, at_depth, beside, free, in_expr, sum}
use Rattle.thm_type_result.proofs.Weighed.{sum_append, sum_handed}
use Rattle.thm_type_result.proofs.Weighing.{Adds, adds_any, adds_aside, adds_beside, adds_expr, adds_owning, adds_pure, adds_then, asked}
use Rattle.thm_type_result.proofs.Weighing.{body_aside, came_of, deep_before, still_deep}
use Rattle.thm_generics.proofs.Steps.{tracks_enter_block}
use Rattle.thm_type_result.proofs.Weights as weights

-- parameters

-- in the types
abbrev types : List (Option TypeRefId) → Cost
types ts v = sum v.weight (all_of (of_present v.held.type) ts)

-- More parameters come behind these. The patterns may lie deeper than the types: where a closure makes a coroutine, they stand in that.
pub record Params (c : ClosureParams) (final : Stored) (b e : Builder) (l : ClosureParams) : Type 0 where
  pub asks : (all number : ℕ) → asked final all number b ≤ asked final all number e
  pub counted : (all number : ℕ) (d d' : ℕ × ℕ × ℕ) → DeepView (mark e) all d → DeepView (mark e) all d'
      → pats l.args (at_depth final all number d) + types l.arg_types (at_depth final all number d')
      + (asked final all number e + less number (mark b).nodes)
      ≤ pats c.args (at_depth final all number d) + types c.arg_types (at_depth final all number d')
      + (asked final all number b + less number (mark e).nodes)

pub no_more_params : (c : ClosureParams) → Correct (pure c) (Params c)
no_more_params c = correct_as (correct_pure c) (λ final b e l g row. rw (row.is, row.still) (record {
  asks = λ all number. omega arith;
  counted = λ all number d d' deep deep'. omega arith;
}))

pub params_then : (c : ClosureParams) {p : Lowering ClosureParams} {q : ClosureParams → Lowering ClosureParams} → Correct p (Params c)
    → ((l : ClosureParams) → Correct (q l) (Params l)) → Correct (p >>= q) (Params c)
params_then c h k = correct_as (correct_bind h k) (λ final b e l g row. record {
  asks = λ all number. let u = row.first.asks all number in let w = row.second.asks all number in omega (arith, u, w);
  counted = λ all number d d' deep deep'.
      let x = row.first.counted all number d d' (deep_before d row.after deep) (deep_before d' row.after deep') in
      let y = row.second.counted all number d d' deep deep' in omega (arith, x, y);
})

pub param_off : {A : Type 0} (c : ClosureParams) {p : Lowering A} → SideOutput nothing p → Correct (p >>= (λ u. pure c)) (Params c)
param_off {A = A} c h = correct_as (correct_bind (adds_any {was = free} h) (λ u. no_more_params c)) (λ final b e l g row. record {
  asks = λ all number. let u = row.first.asks all number in let w = row.second.asks all number in omega (arith, u, w);
  counted = λ all number d d' deep deep'.
      let x = came_of {A = A} row.first all number d (deep_before d row.after deep) in
      let y = row.second.counted all number d d' deep deep' in omega (arith, x, y);
})

pub param_adds : (c : ClosureParams) {p : Lowering PatId} {t : Lowering (Option TypeRefId)} → Correct p (Adds free a_pat)
    → Correct t (Adds free maybe_type) → Correct (param_form c p t) (Params c)
unfolding param_form
param_adds c hp ht = correct_as (correct_bind hp (λ i. correct_bind ht (λ r. no_more_params (add_param c i r)))) (λ final b e l g row.
    let two = row.second in
    let last = two.second in record {
      asks = λ all number.
          let u = row.first.asks all number in
          let w = two.first.asks all number in
          let z = last.asks all number in omega (arith, u, w, z);
      counted = λ all number d d' deep deep'.
          let v = at_depth final all number d in
          let w = at_depth final all number d' in
          let before = deep_before d two.after deep in
          let x = came_of row.first all number d (deep_before d two.before before) in
          let y = came_of two.first all number d' (deep_before d' two.after deep') in
          let z = last.counted all number d d' deep deep' in
          let a = weights.each_push v.weight v.held.pat c.args row.one in
          let b = weights.each_push w.weight (of_present w.held.type) c.arg_types two.one in omega (arith, x, y, z, a, b);
    })

-- both looked into alike
abbrev params : ClosureParams → Cost
params c = beside (pats c.args) (types c.arg_types)

all_params_add : {p : Lowering ClosureParams} → Correct p (Params no_closure_params) → Correct p (Adds free params)
all_params_add h = correct_as h (λ final b e c g row. record {
  asks = row.asks;
  earlier = λ all number reach hold place d.
      let here : ℕ × ℕ × ℕ = (reach, hold, place) in
      still_deep reach hold place g d (let e = row.counted all number here here d d in omega (arith, e));
})

-- each pattern stands before its type, of which there may be as many or not
params_sum : (k : ExprId → ℕ) (r : Inners) (ps : List PatId) (ts : List (Option TypeRefId))
    → sum k (of_params r ps ts) ≡ sum k (all_of r.pat ps) + sum k (all_of (of_present r.type) ts)
params_sum k r [] ts = omega arith
params_sum k r (p ∷ ps) [] =
    let a = sum_append k (r.pat p) (of_params r ps []) in
    let b = sum_append k (r.pat p) (all_of r.pat ps) in
    let c = params_sum k r ps [] in omega arith
params_sum k r (p ∷ ps) (t ∷ ts) =
    let a = sum_append k (r.pat p ++ of_present r.type t) (of_params r ps ts) in
    let b = sum_append k (r.pat p) (of_present r.type t) in
    let c = sum_append k (r.pat p) (all_of r.pat ps) in
    let d = sum_append k (of_present r.type t) (all_of (of_present r.type) ts) in
    let e = params_sum k r ps ts in omega arith

-- closures

-- what the closure costs
abbrev all_costs : ClosureParams → Option TypeRefId → ExprId → Cost
all_costs c r body = beside (beside (params c) (maybe_type r)) (a_limit body)

held_less : (c : ClosureParams) (r : Option TypeRefId) (body : ExprId) (v : View)
    → sum v.weight (of_params v.held c.args c.arg_types ++ (of_present v.held.type r ++ (by_itself body ∷ v.held.expr body)))
    ≤ all_costs c r body v
held_less c r body v =
    let held = v.held in
    let more = of_present held.type r in
    let a = sum_append v.weight (of_params held c.args c.arg_types) (more ++ (by_itself body ∷ held.expr body)) in
    let b = sum_append v.weight more (by_itself body ∷ held.expr body) in
    let d = params_sum v.weight held c.args c.arg_types in omega arith

-- whether a `yield` stands in it or not
node_less : (moves is_static : Bool) (c : ClosureParams) (r : Option TypeRefId) (body : ExprId) (y : Bool) (v : View)
    → in_expr (stored_closure moves is_static c r body y) v ≤ all_costs c r body v
node_less moves is_static c r body true v = let e = held_less c r body v in omega arith
node_less moves is_static c r body false v = let e = held_less c r body v in omega arith

module _ (at : Pointer) where
  pub closure_adds : (moves is_static : Bool) {p : Lowering ClosureParams} {t : Lowering (Option TypeRefId)} {e : ExprSteps}
      → Correct p (Params no_closure_params) → Correct t (Adds free maybe_type) → Correct e (Adds free an_expr)
      → Correct (closure_form at moves is_static p t e) (Adds free an_expr)
  unfolding closure_form
  closure_adds moves is_static hp ht he = adds_then (adds_any tracks_open_barrier) (λ outside. adds_then (all_params_add hp)
      (λ c. adds_then (adds_beside (params c) ht) (λ r. adds_then
      (adds_beside (beside (params c) (maybe_type r)) (adds_aside {held = a_limit} body_aside he))
      (λ e. adds_then (adds_any (tracks_close_barrier outside)) (λ y. adds_expr (stored_closure moves is_static c r e y) (Some at)
      (node_less moves is_static c r e y))))))

  pub yield_adds : {e : Lowering (Option ExprId)} → Correct e (Adds free (maybe an_expr)) → Correct (yield_form at e) (Adds free an_expr)
  unfolding yield_form
  yield_adds h = adds_then (adds_any tracks_track_yield) (λ u. adds_then h (λ v. adds_expr (hir.Yield v) (Some at) (value_less v)))

-- coroutine blocks

-- its block is its body
coroutine_less : (kind : CoroutineKind) (moves : Bool) (body : ExprId) (v : View)
    → in_expr (stored_coroutine kind moves body) v ≤ a_limit body v
coroutine_less kind moves body v = omega arith

pub coroutine_block_adds : (at : Pointer) (kind : CoroutineKind) (moves : Bool) (number : Option BlockId) {c : Lowering StoredContents}
    → Correct c (Adds free contents) → Correct (coroutine_block_form at kind moves number c) (Adds free an_expr)
unfolding coroutine_block_form coroutine_around_form
coroutine_block_adds at kind moves number h = adds_then (adds_any (tracks_enter_block number)) (λ u. adds_then h
    (λ r. adds_then (adds_aside {held = a_limit} body_aside (adds_expr {was = contents r} _ None (settled_block_less false None number r)))
    (λ b. adds_expr _ (Some at) (coroutine_less kind moves b))))

-- behind the barrier
pub coroutine_adds : {p : ExprSteps} → Correct p (Adds free an_expr) → Correct (coroutine_form p) (Adds free an_expr)
unfolding coroutine_form
coroutine_adds h = adds_then (adds_any tracks_open_barrier) (λ outside. adds_then h
    (λ i. adds_then (adds_any (tracks_close_barrier outside)) (λ y. adds_pure i (λ v. omega arith))))

-- closures that make a coroutine

-- beside what the parameters are handed to
abbrev within_costs : Within → Cost
within_costs w = beside (beside (types w.arg_types) (maybe_type w.ret)) (a_limit w.coroutine)

module _ (which : CoroutineKind) {p : Lowering ClosureParams} {t : Lowering (Option TypeRefId)} {e : ExprSteps}
    (hp : Correct p (Params no_closure_params)) (ht : Correct t (Adds free maybe_type)) (he : Correct e (Adds free an_expr)) where
  -- The patterns and the body stand in the coroutine, which is held.
  within_adds : Correct (within_form which p t e) (Adds free within_costs)
  unfolding within_form
  within_adds = correct_as (correct_bind hp (λ c. correct_bind ht (λ r. correct_bind he (λ i.
      correct_bind (let_params_add no_prelude c.args) (λ d. correct_bind (made_coroutine_adds which source.Closure d.lets i)
      (λ o. at_once_pure {was = within_costs (within_of c r d o)} {now = within_costs} (within_of c r d o) (λ v. omega arith)))))))
      (λ final b e w g row.
      let q = row.second in
      let s = q.second in
      let u = s.second in
      let x = u.second in record {
        asks = λ all number.
            let f = row.first.asks all number in
            let h = q.first.asks all number in
            let i = s.first.asks all number in
            let j = u.first.asks all number in
            let k = x.first.asks all number in
            let l = x.second.asks all number in omega (arith, f, h, i, j, k, l);
        earlier = λ all number reach hold place d.
            let here : ℕ × ℕ × ℕ = (reach, hold, place) in
            let last = x.second.counted all number here d in
            let behind = deep_before here x.after d in
            let made = x.first.earlier all number all hold place (record {
              all_of = behind.all_of;
              deep = behind.all_of;
              inside = behind.inside;
              placed = behind.placed;
            }) in
            let inner : ℕ × ℕ × ℕ = (made.reach, made.hold, made.place) in
            let near = x.before.exprs in
            let to_prelude : DeepView (mark u.middle) all inner = record {
              all_of = omega (arith, behind.all_of, near);
              deep = made.deep;
              inside = made.inside;
              placed = made.placed;
            } in
            let to_body = deep_before inner u.before to_prelude in
            let to_params = deep_before inner q.before (deep_before inner s.before to_body) in
            let to_ret = deep_before here s.before (deep_before here u.before (deep_before here x.before behind)) in
            let lets = u.first.counted all number inner to_prelude in
            let body = came_of s.first all number inner to_body in
            let ret = came_of q.first all number here to_ret in
            let params = row.first.counted all number inner here to_params (deep_before here q.before to_ret) in
            still_deep reach hold place g d (let c = made.counted in omega (arith, last, c, lets, body, ret, params));
      })

  coroutine_node_less : (moves : Bool) (formals : List PatId) (w : Within) (v : View)
      → in_expr (stored_coroutine_closure which moves formals w) v ≤ beside (within_costs w) (pats formals) v
  coroutine_node_less moves formals w v =
      let held = v.held in
      let more = of_present held.type w.ret in
      let inside = handed_to formals (held.expr w.coroutine) in
      let a = sum_append v.weight (of_params held formals w.arg_types) (more ++ inside) in
      let b = sum_append v.weight more inside in
      let c = sum_handed v.weight formals (held.expr w.coroutine) in
      let d = params_sum v.weight held formals w.arg_types in omega arith

  pub coroutine_closure_adds : (at : Pointer) (moves : Bool) → Correct (coroutine_closure_form at which moves p t e) (Adds free an_expr)
  unfolding coroutine_closure_form
  coroutine_closure_adds at moves = adds_then (adds_any tracks_open_barrier) (λ outside.
      adds_then (adds_owning (λ w. w.coroutine) within_adds) (λ w.
      adds_then (adds_beside (within_costs w) (each_handed_adds [] w.handed)) (λ formals.
      adds_then (adds_any (tracks_close_barrier outside)) (λ y.
      adds_expr (stored_coroutine_closure which moves formals w) (Some at) (coroutine_node_less moves formals w)))))
