-- What a closure that is a coroutine becomes stands for it.
use Rattle.std.proofs.Common.{◌≡◌, ◌∙◌, refl, sym, ap, subst, suc, Bool, map, List, [], ◌∷◌, ◌++◌, Option, Some, Ok, Err}
use Rattle.hir_store.specs.Bindings.{binding_id}
use Rattle.hir_store.specs.Pointers.{Pointer}
use Rattle.hir_store.specs.Stored.{Stored, store_of, map_of}
use Rattle.hir_store.proofs.Extending.{extends_owner, extends_trans}
use Rattle.hir_store.specs.declared.hir.CaptureBy.{CaptureBy}
use Rattle.hir_store.specs.declared.hir.CoroutineKind.{CoroutineKind}
use Rattle.hir_store.specs.declared.hir.ClosureKind.TheVariants as closure
use Rattle.hir_store.specs.declared.hir.CoroutineSource.TheVariants as source
use Rattle.hir_store.specs.declared.hir.Expr.TheVariants as hir
use Rattle.hir_store.specs.declared.hir.Statement.{Statement}
use Rattle.hir_store.specs.declared.ids.ExprId.{ExprId}
use Rattle.hir_store.specs.declared.ids.PatId.{PatId}
use Rattle.hir_store.specs.declared.ids.TypeRefId.{TypeRefId}
use Rattle.hir_lower_scope.specs.ScopeRibs.{barrier_rib}
use Rattle.hir_env.specs.ResolvedTree.{OptionExpr, OptionType, Params}
use Rattle.spec_data.specs.Closures.{capture_of}
use Rattle.spec_data.specs.Data.{PatData}
use Rattle.hir_lower_builder.specs.Builder.{Builder}
use Rattle.hir_lower_builder.specs.declared.preludes.Handed.{Handed}
use Rattle.hir_lower_builder.specs.declared.preludes.Within.{Within}
use Rattle.hir_lower_builder.specs.Lower.{lower_params, lower_part, no_closure_params, present_type}
use Rattle.hir_lower_builder.specs.Lowering.{Checked, Lowering, owning}
use Rattle.hir_lower_builder.specs.Preludes.{coroutine_closure_form, lower_handed, no_prelude, within_form}
use Rattle.thm_round_trip.proofs.ClosureKinds.{captures_as}
use Rattle.thm_round_trip.proofs.CoroutineClosures.{params_data}
use Rattle.thm_round_trip.proofs.Params.{params_now}
use Rattle.thm_round_trip.proofs.Preludes.{ReadAs}
use Rattle.thm_logic.proofs.Always.{correct_always}
use Rattle.thm_logic.proofs.Frames.{Frame}
use Rattle.thm_logic.proofs.Keeping.{Any, any, part_any, present_type_any}
use Rattle.thm_logic.proofs.Owning.{with_owned}
use Rattle.thm_logic.proofs.Preludes.{correct_handed}
use Rattle.thm_logic.proofs.Steps as steps
use Rattle.thm_logic.proofs.Steps.{Holds, Mark}
use Rattle.thm_body_result.specs.Leads.{OneUnled, OwnedBy, Mappings, ◌&◌}
use Rattle.thm_body_result.specs.CorrespondsMade.{StoredParams}
use Rattle.thm_body_result.specs.CorrespondsPreludes.{IsCoroutine, CorrespondsCoroutineClosure, CorrespondsLets}
use Rattle.thm_body_result.specs.Corresponds.{Open}
use Rattle.thm_body_result.proofs.ClosureCorresponds.{ParamsBehind}
use Rattle.thm_body_result.proofs.CoroutineRooms.{handed_known, written_lasts}
use Rattle.thm_body_result.proofs.Knowing.{Now}
use Rattle.thm_body_result.proofs.Last.{EndsWith, Last, within_last}
use Rattle.thm_body_result.proofs.Lasting.{Correct, correct_as, correct_bind, correct_both, correct_coroutine_closure, correct_counted}
use Rattle.thm_body_result.proofs.Lasting.{correct_pure}
use Rattle.thm_body_result.proofs.Leading.{shown_as, shown_before, shown_both}
use Rattle.thm_body_result.proofs.OwnedMappings.{shown_owned}
use Rattle.thm_body_result.proofs.PreludeRooms.{Froms, froms_last}
use Rattle.thm_body_result.proofs.PreludeStanding.{handed_stand, lets_stand, made_coroutine_corresponds, named}
use Rattle.thm_body_result.proofs.Standing.{Of, Placed, Shows, expr_at, moved_pure, own, owning_shows}

-- the number of what is stored last

pub record EndsAt {A : Type 0} (owner : A → ExprId) (final : Stored) (ps : List Frame) (m m' : Mark) (a : A) : Type 0 where
  pub is : m'.nodes ≡ suc (owner a).0

pub ends_at : {A : Type 0} {owner : A → ExprId} {p : Lowering A} → Last owner p → steps.Correct p Any → steps.Correct p (EndsAt owner)
ends_at {A = A} {owner = owner} {p = p} h k =
    record { holds = λ final ps b r. go final ps b (p b).0 (p b).1 (h.last b) (k.holds final ps b r) }
  where
    go : (final : Stored) (ps : List Frame) (b : Builder) (o : Checked A) (c : Builder) → EndsWith owner o c → Holds Any final ps b o c
        → Holds (EndsAt owner) final ps b o c
    go final ps b (Ok a) c e y = record { kept = y.kept; grows = y.grows; in_final = λ d pre. record { is = sym e } }
    go final ps b (Err f) c e y = y

-- no expression more is stored
pub record SameNodes {A : Type 0} (final : Stored) (ps : List Frame) (m m' : Mark) (a : A) : Type 0 where
  pub is : m'.nodes ≡ m.nodes

handed_nodes : (done : List PatId) (xs : List Handed) → steps.Correct (lower_handed done xs) SameNodes
handed_nodes done [] =
    steps.correct_as (steps.correct_pure done) (λ final ps m m' is g row. record { is = ap (λ k. k.nodes) row.still })
handed_nodes done (x ∷ xs) = steps.correct_as
    (steps.correct_bind (correct_handed x) (λ p. handed_nodes (done ++ p ∷ []) xs))
    (λ final ps m m' is g row. record { is = row.second.is ∙ row.first.nodes })

-- of the same parts
closure_as : {a a' : List PatId} {b b' : List (Option TypeRefId)} {c c' : CaptureBy} (t : Option TypeRefId) (coroutine : ExprId)
    (kind : CoroutineKind) → a ≡ a' → b ≡ b' → c ≡ c'
    → hir.Closure a b t coroutine (closure.CoroutineClosure kind) c ≡ hir.Closure a' b' t coroutine (closure.CoroutineClosure kind) c'
closure_as t coroutine kind f g h = λ j. hir.Closure (f j) (g j) t coroutine (closure.CoroutineClosure kind) (h j)

-- what is in it

-- the parameters that were written, what it returns, its body, and in front of that the `let`s
abbrev In : CoroutineKind → List PatData → (Stored → Open → StoredParams → Mappings) → Of (Option TypeRefId) → Of ExprId → Of Within
In kind ys P T S final rs w = λ ws. (l : StoredParams) × (body : ExprId) × (lets : List Statement) × (block : ExprId)
    × (w.arg_types ≡ l.1) × IsCoroutine (store_of final) (map_of final) kind source.Closure lets body block w.coroutine
    × (P final rs l & T final rs w.ret & S final rs body
    & CorrespondsLets (store_of final) (map_of final) (map named w.handed) ys l.0 lets & OneUnled block & OneUnled w.coroutine) ws

module _ (P : Stored → Open → StoredParams → Mappings) {T : Of (Option TypeRefId)} {S : Of ExprId} (kind : CoroutineKind) (xs : Params)
    (t : OptionType) (e : OptionExpr) where
  within_corresponds : Correct (lower_params no_closure_params xs) (Shows (λ final rs l. ParamsBehind no_closure_params (P final rs) l))
      → Correct (present_type t) (Shows T) → Correct (lower_part e) (Shows S)
      → Correct (within_form kind (lower_params no_closure_params xs) (present_type t) (lower_part e))
      (Shows (In kind (params_data xs) P T S))
  unfolding within_form
  within_corresponds hp ht he = correct_as
      (correct_bind (correct_both hp (correct_always (params_now no_closure_params xs))) (λ l.
      correct_bind (correct_both ht (correct_always (present_type_any t))) (λ r.
      correct_bind (correct_both he (correct_always (part_any e))) (λ i.
      correct_bind (lets_stand no_prelude l.args (params_data xs)) (λ k.
      correct_bind (made_coroutine_corresponds kind source.Closure k.lets i) (λ c. correct_pure _))))))
      (λ final ps m m' w g row.
      let two = row.second in let three = two.second in let four = three.second in let five = four.second in
      let written : ReadAs row.middle.stored row.one.args (params_data xs) = λ later f. (row.first.other.always later f).pats in
      let to_prelude = extends_trans two.first.other.stays three.first.other.stays in
      let before = written_lasts row.one.args (params_data xs) row.middle.stored three.middle.stored to_prelude written in
      let made = shown_before five.first.shown (moved_pure five.second.still) in
      let front = shown_both (four.first.shown before) made in
      let parts = shown_both row.first.one.shown (shown_both two.first.one.shown (shown_both three.first.one.shown front)) in
      rw five.second.is (record {
        shown = shown_as parts (λ ws z.
            let params = z.first in
            let rest = z.second in
            let inner = rest.second in
            let lets = inner.second.first in
            let last = inner.second.second in
            let coroutine = subst (λ ss. IsCoroutine (store_of final) (map_of final) kind source.Closure ss three.one last.0 five.one)
            lets.3 last.1 in
            let vs = inner.second.left in
            let there = subst (λ is. CorrespondsLets (store_of final) (map_of final) (map named lets.0) (params_data xs) is lets.1 vs)
            params.1 lets.5 in
            let these = subst (λ hs. CorrespondsLets (store_of final) (map_of final) (map named hs) (params_data xs) params.0.0 lets.1 vs)
            (sym lets.2) there in (
              params.0,
              three.one,
              lets.1,
              last.0,
              params.2,
              coroutine,
              record {
                left = z.left;
                right = z.right;
                is = z.is;
                first = params.3;
                second = record {
                  left = rest.left;
                  right = rest.right;
                  is = rest.is;
                  first = rest.first;
                  second = record {
                    left = inner.left;
                    right = inner.right;
                    is = inner.is;
                    first = inner.first;
                    second = record {
                      left = inner.second.left;
                      right = inner.second.right;
                      is = inner.second.is;
                      first = these;
                      second = last.2;
                    };
                  };
                };
              },
            ));
      }))

  -- the closure

  pub coroutine_closure_corresponds : (at : Pointer) (moves : Bool)
      → Correct (lower_params no_closure_params xs) (Shows (λ final rs l. ParamsBehind no_closure_params (P final rs) l))
      → Correct (present_type t) (Shows T) → Correct (lower_part e) (Shows S)
      → Correct (owning (λ i. i) (coroutine_closure_form at kind moves (lower_params no_closure_params xs) (present_type t) (lower_part e)))
      (Shows (λ final rs i. OwnedBy i
      (CorrespondsCoroutineClosure (store_of final) (map_of final) at kind (capture_of moves) (params_data xs)
      (λ l. P final (barrier_rib ∷ rs) l) (λ y. T final (barrier_rib ∷ rs) y) (λ x. S final (barrier_rib ∷ rs) x) i)))
  coroutine_closure_corresponds at moves hp ht he = owning_shows (λ i. i) (correct_as
      (correct_counted (correct_coroutine_closure at kind moves _ _ _
      (correct_both (within_corresponds hp ht he) (steps.correct_both known (ends_at (within_last kind _ _ _) (any known))))
      (λ hs. correct_both (handed_stand [] hs (params_data xs)) (handed_nodes [] hs))))
      (λ final ps m m' i g x.
      let row = x.row in
      let w = row.within in
      let start = binding_id m.bindings in
      let emitted = row.in_within.other in
      let left = row.left.stored in
      let after = with_owned start w.coroutine left in
      let from = froms_last w.handed (params_data xs) left after (extends_owner left start w.coroutine) emitted.one.now in
      let inside = shown_owned start w.coroutine x.counted row.in_within.one.shown refl in
      let formals = row.in_formals.one.shown from in
      let number = row.made.number ∙ (row.in_formals.other.is ∙ emitted.other.is) in
      record {
        shown = shown_as (shown_both inside (shown_both formals (own row.made))) (λ ws z.
            let x = z.first.2 in
            let y = z.second in
            let new = y.first in
            let is = closure_as w.ret w.coroutine kind new.1 x.4 (captures_as moves) in
            let placed = subst (λ k. Placed final i k (Some at)) is (expr_at row.made) in (
              x.0,
              w.ret,
              x.1,
              map named w.handed,
              x.2,
              x.3,
              w.coroutine,
              new.0,
              placed,
              sym number,
              x.5,
              record {
                left = z.left;
                right = z.right;
                is = z.is;
                first = (z.first.0, z.first.1, x.6);
                second = record { left = y.left; right = y.right; is = y.is; first = new.2; second = y.second };
              },
            ));
      }))
    where
      known : steps.Correct (within_form kind (lower_params no_closure_params xs) (present_type t) (lower_part e))
          (Now (λ w. Froms w.handed (params_data xs)))
      known = handed_known kind xs t e
