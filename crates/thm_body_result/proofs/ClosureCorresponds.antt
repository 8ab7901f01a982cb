-- What a closure and its parameters become stands for them, and what a coroutine block becomes for that.
use Rattle.std.proofs.Common.{◌≡◌, ◌∙◌, refl, sym, ap, subst, List, [], ◌∷◌, ◌++◌, append-nil, append_assoc, Bool, false, Option}
use Rattle.std.proofs.Common.{Some, None}
use Rattle.hir_store.specs.Pointers.{Pointer}
use Rattle.hir_store.specs.Stored.{Stored, store_of, map_of}
use Rattle.hir_store.specs.declared.diagnostics.ExpressionStoreDiagnostics.TheVariants.{InactiveCode}
use Rattle.hir_store.specs.declared.hir.CaptureBy.{CaptureBy}
use Rattle.hir_store.specs.declared.hir.ClosureKind.{ClosureKind}
use Rattle.hir_store.specs.declared.hir.ClosureKind.TheVariants as closure
use Rattle.hir_store.specs.declared.hir.CoroutineKind.{CoroutineKind}
use Rattle.hir_store.specs.declared.hir.CoroutineSource.TheVariants as source
use Rattle.hir_store.specs.declared.hir.Expr.TheVariants as hir
use Rattle.hir_store.specs.declared.ids.BlockId.{BlockId}
use Rattle.hir_store.specs.declared.ids.CfgId.{CfgId}
use Rattle.hir_store.specs.declared.ids.ExprId.{ExprId}
use Rattle.hir_store.specs.declared.ids.PatId.{PatId}
use Rattle.hir_store.specs.declared.ids.TypeRefId.{TypeRefId}
use Rattle.hir_lower_scope.specs.ScopeRibs.{barrier_rib}
use Rattle.hir_env.specs.ResolvedTree.{OptionExpr, OptionType, Params, Stmts}
use Rattle.spec_data.specs.Closures.{capture_of, kind_of}
use Rattle.spec_data.specs.Yields.{yields_in}
use Rattle.hir_lower_builder.specs.declared.closures.ClosureParams.{ClosureParams}
use Rattle.hir_lower_builder.specs.Forms.{StoredContents, add_param, settled, settled_block, stored_coroutine}
use Rattle.hir_lower_builder.specs.Lower.{closure_form, coroutine_block_form, coroutine_form, kept_part, lower_params, lower_part}
use Rattle.hir_lower_builder.specs.Lower.{lower_stmts}
use Rattle.hir_lower_builder.specs.Lower.{no_closure_params, param_form, present_type, push_some}
use Rattle.hir_lower_builder.specs.Lowering.{Lowering, ◌>>=◌, ◌>>◌, owning, pure, report}
use Rattle.hir_lower_builder.specs.Forms.{coroutine_around_form}
use Rattle.spec_semantics.specs.Left.{is_left, gives_value}
use Rattle.thm_round_trip.proofs.ClosureKinds.{captures_as, kind_as}
use Rattle.thm_round_trip.proofs.YieldTree.{params_raise, part_raises, present_type_raises}
use Rattle.thm_logic.proofs.Frames.{ribs}
use Rattle.thm_body_result.specs.Leads.{OneUnled, OneMapping, OwnedBy, Mappings, ◌&◌}
use Rattle.thm_body_result.specs.Corresponds.{Open, CorrespondsParams}
use Rattle.thm_body_result.specs.CorrespondsMade.{CorrespondsClosure, CorrespondsCoroutine, CorrespondsParam, StoredParams}
use Rattle.thm_body_result.proofs.Contents.{has_contents}
use Rattle.thm_body_result.proofs.Lasting.{Correct, correct_alloc, correct_as, correct_bind, correct_closure, correct_coroutine}
use Rattle.thm_body_result.proofs.Lasting.{correct_enter_block, correct_pure, correct_report}
use Rattle.thm_body_result.proofs.Leading.{Shown, moved_then, moved_to, shown_after, shown_as, shown_before, shown_both, shown_none}
use Rattle.thm_body_result.proofs.PatStanding.{Behind}
use Rattle.thm_body_result.proofs.Standing.{Of, Placed, Shows, block_leads, expr_at, moved_fault, moved_pure, own, owning_shows, unled}
use Rattle.thm_body_result.proofs.TreeParts.{behind_none, contents}

-- what a condition disables

-- one leaves a fault, and nothing else of a list
pub off_corresponds : {A B : Type 0} (at : Pointer) (by : CfgId) (done : List A) {q : List A → Lowering B}
    (T : Stored → Open → List A → B → Mappings)
    → ((d : List A) → Correct (q d) (Shows (λ final rs r. T final rs d r)))
    → Correct ((report (InactiveCode at by) >>= (λ u. pure None)) >>= (λ x. q (push_some done x))) (Shows (λ final rs r. T final rs done r))
off_corresponds at by done T h = correct_as
    (correct_bind (correct_bind (correct_report (InactiveCode at by)) (λ u. correct_pure None)) (λ x. h (push_some done x)))
    (λ final ps m m' r g row.
    let moved = moved_then (moved_fault (InactiveCode at by) row.first.first.stored) (moved_pure row.first.second.still) in record {
      shown = shown_after moved
          (subst (λ x. Shown (T final (ribs ps) (push_some done x) r) row.middle.stored m'.stored) row.first.second.is row.second.shown);
    })

-- parameters

-- these behind those that there were
abbrev pub ParamsBehind : ClosureParams → (StoredParams → Mappings) → ClosureParams → Mappings
ParamsBehind done S l = λ ws. (new : StoredParams) × (l.args ≡ done.args ++ new.0) × (l.arg_types ≡ done.arg_types ++ new.1) × S new ws

-- what stands for them
abbrev pub params_for : Params → Stored → Open → StoredParams → Mappings
params_for xs final rs l = CorrespondsParams (store_of final) (map_of final) rs xs l

pub params_none : (done : ClosureParams)
    → Correct (pure done) (Shows (λ final rs l. ParamsBehind done (λ new ws. (new ≡ ([], [])) × (ws ≡ [])) l))
params_none done = correct_as (correct_pure done) (λ final ps m m' l g row. record {
  shown = shown_none (moved_pure row.still) (
    ([], []),
    ap (λ k. k.args) row.is ∙ sym (append-nil done.args),
    ap (λ k. k.arg_types) row.is ∙ sym (append-nil done.arg_types),
    (refl, refl),
  );
})

pub params_off : (S : Stored → Open → StoredParams → Mappings) (at : Pointer) (by : CfgId) (done : ClosureParams)
    {q : ClosureParams → Lowering ClosureParams}
    → ((k : ClosureParams) → Correct (q k) (Shows (λ final rs l. ParamsBehind k (S final rs) l)))
    → Correct ((report (InactiveCode at by) >> pure done) >>= q) (Shows (λ final rs l. ParamsBehind done (S final rs) l))
params_off S at by done h = correct_as
    (correct_bind (correct_bind (correct_report (InactiveCode at by)) (λ u. correct_pure done)) h)
    (λ final ps m m' l g row.
    let moved = moved_then (moved_fault (InactiveCode at by) row.first.first.stored) (moved_pure row.first.second.still) in record {
      shown = shown_after moved
          (subst (λ k. Shown (ParamsBehind k (S final (ribs ps)) l) row.middle.stored m'.stored) row.first.second.is row.second.shown);
    })

module _ {P : Of PatId} {T : Of (Option TypeRefId)} where
  param_corresponds : (done : ClosureParams) {p : Lowering PatId} {t : Lowering (Option TypeRefId)} → Correct p (Shows P)
      → Correct t (Shows T)
      → Correct (param_form done p t) (Shows (λ final rs l ws. (q : PatId) × (y : Option TypeRefId) × (l ≡ add_param done q y)
      × (P final rs q & T final rs y) ws))
  unfolding param_form
  param_corresponds done hp ht = correct_as (correct_bind hp (λ q. correct_bind ht (λ y. correct_pure (add_param done q y))))
      (λ final ps m m' l g row. let s = row.second in record {
        shown = shown_as (shown_both row.first.shown (shown_before s.first.shown (moved_pure s.second.still)))
            (λ ws z. (row.one, s.one, s.second.is, z));
      })

  pub params_more : (S : Stored → Open → StoredParams → Mappings) (done : ClosureParams) {p : Lowering PatId}
      {t : Lowering (Option TypeRefId)}
      {q : ClosureParams → Lowering ClosureParams} → Correct p (Shows P) → Correct t (Shows T)
      → ((k : ClosureParams) → Correct (q k) (Shows (λ final rs l. ParamsBehind k (S final rs) l)))
      → Correct (param_form done p t >>= q) (Shows (λ final rs l.
      ParamsBehind done (λ new. CorrespondsParam (P final rs) (T final rs) (S final rs) new) l))
  params_more S done hp ht h = correct_as (correct_bind (param_corresponds done hp ht) h) (λ final ps m m' l g row. record {
    shown = shown_as (shown_both row.first.shown row.second.shown) (λ ws z.
        let x = z.first in
        let y = z.second in
        let args = y.1 ∙ (ap (λ k. k.args ++ y.0.0) x.2 ∙ append_assoc done.args (x.0 ∷ []) y.0.0) in
        let types = y.2 ∙ (ap (λ k. k.arg_types ++ y.0.1) x.2 ∙ append_assoc done.arg_types (x.1 ∷ []) y.0.1) in (
          (x.0 ∷ y.0.0, x.1 ∷ y.0.1),
          args,
          types,
          (x.0, x.1, y.0, refl, record { left = z.left; right = z.right; is = z.is; first = x.3; second = y.3 }),
        ));
  })

-- the closure

-- of the same parts
closure_as : {a a' : List PatId} {b b' : List (Option TypeRefId)} {k k' : ClosureKind} {c c' : CaptureBy} (t : Option TypeRefId)
    (body : ExprId) → a ≡ a' → b ≡ b' → k ≡ k' → c ≡ c' → hir.Closure a b t body k c ≡ hir.Closure a' b' t body k' c'
closure_as {a' = a'} {b = b} {b' = b'} {k = k} {k' = k'} {c = c} t body f g h i =
    ap (λ x. hir.Closure x b t body k c) f ∙ (ap (λ x. hir.Closure a' x t body k c) g
    ∙ (ap (λ x. hir.Closure a' b' t body x c) h ∙ ap (λ x. hir.Closure a' b' t body k' x) i))

pub closure_corresponds : (P : Stored → Open → StoredParams → Mappings) {T : Of (Option TypeRefId)} {S : Of ExprId} (at : Pointer)
    (moves is_static : Bool) (xs : Params) (t : OptionType) (e : OptionExpr)
    → Correct (lower_params no_closure_params xs) (Shows (λ final rs l. ParamsBehind no_closure_params (P final rs) l))
    → Correct (present_type t) (Shows T) → Correct (lower_part e) (Shows S)
    → Correct (owning (λ i. i) (closure_form at moves is_static (lower_params no_closure_params xs) (present_type t) (lower_part e)))
    (Shows (λ final rs i. OwnedBy i (CorrespondsClosure (store_of final) (map_of final) at (kind_of is_static e) (capture_of moves)
    (λ l. P final (barrier_rib ∷ rs) l) (λ y. T final (barrier_rib ∷ rs) y) (λ x. S final (barrier_rib ∷ rs) x) i)))
closure_corresponds P at moves is_static xs t e hp ht he = owning_shows (λ i. i)
    (correct_as (correct_closure at moves is_static hp ht he) (λ final ps m m' i g row.
    let tracked = row.raised (params_raise no_closure_params xs) (present_type_raises t) (yields_in e) (part_raises e) in record {
      shown = shown_as (shown_both row.in_params.shown (shown_both row.in_ret.shown (shown_both row.in_body.shown (own row.made))))
          (λ ws z. let x = z.first in
          let is = closure_as row.ret row.body x.1 x.2 (kind_as is_static e tracked) (captures_as moves) in (
            x.0,
            row.ret,
            row.body,
            subst (λ k. Placed final i k (Some at)) is (expr_at row.made),
            record { left = z.left; right = z.right; is = z.is; first = x.3; second = z.second },
          ));
    }))

-- coroutine blocks

-- over what is in the block
abbrev Inside : Pointer → CoroutineKind → Bool → Option BlockId → Of StoredContents → Of ExprId
Inside at kind moves number C final rs i = λ ws. (r : StoredContents) × (body : ExprId)
    × Placed final i (stored_coroutine kind moves body) (Some at)
    × Placed final body (settled_block false None number (settled r.0 r.1)) None
    × (C final rs r & OneUnled body & OneMapping at i) ws

coroutine_block_corresponds : (at : Pointer) (kind : CoroutineKind) (moves : Bool) (number : Option BlockId) {c : Lowering StoredContents}
    {C : Of StoredContents} → Correct c (Shows C)
    → Correct (coroutine_block_form at kind moves number c) (Shows (Inside at kind moves number C))
unfolding coroutine_block_form coroutine_around_form
coroutine_block_corresponds at kind moves number h = correct_as
    (correct_bind (correct_enter_block number) (λ u. correct_bind h (λ r.
    correct_bind (correct_alloc (settled_block false None number (settled r.0 r.1)) None)
    (λ b. correct_alloc (stored_coroutine kind moves b) (Some at)))))
    (λ final ps m m' i g row.
    let q = row.second in
    let t = q.second in
    let enters = moved_to row.first.stored (block_leads number m.stored) in
    let parts = shown_after enters (shown_both q.first.shown (shown_both (unled t.first) (own t.second))) in
    record { shown = shown_as parts (λ ws y. (q.one, t.one, expr_at t.second, expr_at t.first, y)) })

pub coroutine_corresponds : (at : Pointer) (kind : CoroutineKind) (moves : Bool) (number : Option BlockId) (ss : Stmts) (e : OptionExpr)
    → Correct (lower_stmts [] ss (kept_part e)) (Shows (λ final rs r. Behind [] (λ is. contents final rs ss e is r.1) r.0))
    → Correct (owning (λ i. i) (coroutine_form (coroutine_block_form at kind moves number (lower_stmts [] ss (kept_part e)))))
    (Shows (λ final rs i. OwnedBy i (CorrespondsCoroutine (store_of final) (map_of final) at kind (capture_of moves) number
    (gives_value ss (is_left e)) (λ is o. contents final (barrier_rib ∷ rs) ss e is o) i)))
coroutine_corresponds at kind moves number ss e h = owning_shows (λ i. i) (correct_as
    (correct_coroutine (coroutine_block_corresponds at kind moves number {C = λ final rs r. contents final rs ss e r.0 r.1}
    (correct_as h (λ final ps m m' r g row. record { shown = behind_none (λ is. contents final (ribs ps) ss e is r.1) row.shown }))))
    (λ final ps m m' i g row. record {
      shown = shown_as row.inside.shown (λ ws y.
          let r = y.0 in
          let is = has_contents (store_of final) (map_of final) (barrier_rib ∷ ribs ps) ss e r.0 r.1 y.4.left y.4.first in
          let placed = subst (λ c. Placed final i (hir.Closure [] [] None y.1 (closure.Coroutine kind source.Block) c) (Some at))
          (captures_as moves) y.2 in
          (r.0, r.1, settled r.0 r.1, is, y.1, placed, y.3, y.4));
    }))
