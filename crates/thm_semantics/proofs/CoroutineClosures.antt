-- An `async` or `gen` closure runs as it is written: what its arguments are handed to is in its event, as it is read back.
use Rattle.std.proofs.Common.{◌≡◌, ◌∙◌, refl, sym, ap, subst, Bool, List, [], map, Option, Some}
use Rattle.hir_store.specs.Bindings.{binding_id}
use Rattle.hir_store.specs.Pointers.{Pointer}
use Rattle.hir_store.specs.Stored.{Stored, store_of, map_of}
use Rattle.hir_store.specs.declared.hir.ClosureKind.TheVariants as closure_kind
use Rattle.hir_store.specs.declared.hir.CoroutineKind.{CoroutineKind}
use Rattle.hir_store.specs.declared.hir.CoroutineSource.TheVariants as source
use Rattle.hir_store.specs.declared.ids.ExprId.{ExprId}
use Rattle.hir_store.specs.declared.ids.PatId.{PatId}
use Rattle.hir_store.specs.declared.ids.TypeRefId.{TypeRefId}
use Rattle.hir_store.proofs.Extending.{extends_owner, extends_trans}
use Rattle.hir_env.specs.ResolvedTree.{OptionExpr, OptionType, Params}
use Rattle.hir_env.specs.Answering.{site_of}
use Rattle.hir_lower_builder.specs.declared.closures.ClosureParams.{ClosureParams}
use Rattle.hir_lower_builder.specs.declared.preludes.Within.{Within}
use Rattle.hir_lower_builder.specs.Forms.{ExprSteps, capture_by}
use Rattle.hir_lower_builder.specs.Lower.{lower_params, lower_part, no_closure_params, present_type}
use Rattle.hir_lower_builder.specs.Lowering.{Lowering}
use Rattle.hir_lower_builder.specs.Preludes.{coroutine_closure_form, no_prelude, stored_coroutine_closure, within_form}
use Rattle.spec_data.specs.Data.{PatData}
use Rattle.spec_data.specs.Patterns.{written_pat}
use Rattle.spec_data.specs.Preludes.{formal_patterns}
use Rattle.spec_data.specs.Reading.{stored_option_type}
use Rattle.spec_data.specs.Tops.{params_tops}
use Rattle.spec_data.specs.Written.{written_option_type}
use Rattle.thm_round_trip.proofs.ClosureKinds.{captures_as}
use Rattle.thm_round_trip.proofs.Now.{OptionTypeNow, option_type_now}
use Rattle.thm_round_trip.proofs.Params.{ParamsNow, params_now, pats_in, types_in}
use Rattle.thm_round_trip.proofs.Preludes.{FormalsNow, HandIn, ReadAs, formals_now}
use Rattle.spec_semantics.specs.Run.{Operation, ask, closure}
use Rattle.spec_semantics.specs.Syntax.{coroutine_closure_of}
use Rattle.thm_logic.proofs.Always.{Always, correct_always}
use Rattle.thm_logic.proofs.CoroutineClosures.{CoroutineClosureRow, correct_coroutine_closure}
use Rattle.thm_logic.proofs.Frames.{Frame}
use Rattle.thm_logic.proofs.Preludes.{MadeCoroutine, WithinRow, correct_made_coroutine, correct_within}
use Rattle.thm_logic.proofs.Steps.{Allocated, Both, Correct, Mark, Rel, correct_as, correct_both}
use Rattle.thm_semantics.proofs.Closures.{event_as}
use Rattle.thm_semantics.proofs.Handing.{DoesEach, HandsNow, each_in, hands_now}
use Rattle.thm_semantics.proofs.Relation.{same_ask}
use Rattle.thm_semantics.proofs.Senses.{Base, Goes, Runs, goes_at, one}

-- what stands behind the barrier

-- What is written of the parameters is read back, in the final store and in each that goes on. Besides them P, T and S are so.
abbrev pub WithinIs : CoroutineKind → Params → Rel ClosureParams → Rel (Option TypeRefId) → Rel ExprId → Rel Within
WithinIs which xs P T S = WithinRow (Always (Both (ParamsNow no_closure_params xs) P)) (Always T) (Always S)
    (λ is. Always (HandsNow no_prelude is)) (λ ss i. Always (MadeCoroutine which source.Closure ss i))

abbrev pub tops_data : Params → List PatData
tops_data xs = map written_pat (params_tops xs)

module _ (which : CoroutineKind) (xs : Params) (P : Rel ClosureParams) (T : Rel (Option TypeRefId)) (S : Rel ExprId) where
  module _ {final : Stored} {ps : List Frame} {m m' : Mark} {w : Within} (row : WithinIs which xs P T S final ps m m' w) where
    pub params_read : ReadAs row.after_body.stored row.params.args (tops_data xs)
    params_read later e = (row.in_params.always later (extends_trans row.in_ret.stays (extends_trans row.in_body.stays e))).one.pats

    pub hands : DoesEach no_prelude row.params.args (tops_data xs) final row.after_body row.after_prelude row.prelude
    hands = row.in_prelude.rel.each (tops_data xs) params_read (each_in final row.params.args (params_tops xs) row.in_params.rel.one.pats)

    pub handed_are : w.handed ≡ hands.more
    handed_are = ap (λ z. z.handed) row.is ∙ hands.handed

  pub correct_within_is : {t : Lowering (Option TypeRefId)} {e : ExprSteps} → Correct (lower_params no_closure_params xs) P → Correct t T
      → Correct e S → Correct (within_form which (lower_params no_closure_params xs) t e) (WithinIs which xs P T S)
  correct_within_is hp ht he = correct_within which (correct_always (correct_both (params_now no_closure_params xs) hp))
      (correct_always ht) (correct_always he) (λ is. correct_always (hands_now no_prelude is))
      (λ ss i. correct_always (correct_made_coroutine which source.Closure ss i))

  module _ (at : Pointer) (moves : Bool) where
    -- and what its arguments are handed to is made of those of the prelude
    abbrev pub ClosureIs : Rel ExprId
    ClosureIs = CoroutineClosureRow at which moves (WithinIs which xs P T S) (λ hs. FormalsNow [] hs)

    pub correct_closure_is : {t : Lowering (Option TypeRefId)} {e : ExprSteps} → Correct (lower_params no_closure_params xs) P
        → Correct t T → Correct e S
        → Correct (coroutine_closure_form at which moves (lower_params no_closure_params xs) t e) ClosureIs
    correct_closure_is {t = t} {e = e} hp ht he = correct_coroutine_closure at which moves (lower_params no_closure_params xs) t e
        (correct_within_is hp ht he) (λ hs. formals_now [] hs)

    -- they read back as what is written says
    pub formals_are : {final : Stored} {ps : List Frame} {m m' : Mark} {i : ExprId} (row : ClosureIs final ps m m' i)
        → pats_in final row.formals ≡ formal_patterns (tops_data xs)
    formals_are {final = final} {m = m} row =
        let x = row.in_within in
        let start = binding_id m.bindings in
        let owned = extends_owner row.left.stored start row.within.coroutine in
        let hand = subst (λ hs. HandIn hs x.params.args (tops_data xs)) (sym (handed_are x)) (hands x).hand in
        ap (pats_in final) row.in_formals.ids
        ∙ row.in_formals.reads x.params.args (tops_data xs) hand
        (λ later e. params_read x later (extends_trans x.in_prelude.stays (extends_trans x.made.stays (extends_trans owned e))))

-- that it runs so

module _ (at : Pointer) (which : CoroutineKind) (moves : Bool) where
  -- the event of what is stored
  abbrev event_in : Stored → List PatId → Within → Operation
  event_in final formals w = closure (closure_kind.CoroutineClosure which) (capture_by moves) (pats_in final formals)
      (types_in final w.arg_types) (stored_option_type (store_of final) (map_of final) w.ret)

  goes_closure : {base : Base} {m m' : Mark} {final : Stored} {ps qs : List Frame} {i : ExprId} (formals : List PatId) (w : Within)
      (o : Operation) → event_in final formals w ≡ o → Allocated (stored_coroutine_closure which moves formals w) (Some at) final qs m m' i
      → Goes base m'.nodes one (λ fuel ss. ask o [] (Some (site_of at))) final ps i
  goes_closure {base = base} {m' = m'} {final = final} {ps = ps} {i = i} formals w o is a =
      subst (λ k. Goes base m'.nodes one (λ fuel ss. ask k [] (Some (site_of at))) final ps i) is
      (goes_at a (λ fuel d le f. same_ask (event_in final formals w) [] (Some (site_of at))) (λ d le. tt))

  pub coroutine_closure_fine : (xs : Params) (t : OptionType) (e : OptionExpr) {R : Rel ExprId} → Correct (lower_part e) R
      → Correct (coroutine_closure_form at which moves (lower_params no_closure_params xs) (present_type t) (lower_part e))
      (Runs one (λ fuel ss. ask (coroutine_closure_of which moves xs t) [] (Some (site_of at))))
  coroutine_closure_fine xs t e {R = R} h = correct_as
      (correct_closure_is which xs (ParamsNow no_closure_params xs) (OptionTypeNow (written_option_type t)) R at moves
      (params_now no_closure_params xs) (option_type_now t) h)
      (λ final fs m m' i g row. let x = row.in_within in
      goes_closure row.formals row.within (coroutine_closure_of which moves xs t)
      (event_as refl (captures_as moves)
      (formals_are which xs (ParamsNow no_closure_params xs) (OptionTypeNow (written_option_type t)) R at moves row)
      (ap (λ z. types_in final z.arg_types) x.is ∙ x.in_params.rel.one.types)
      (ap (λ z. stored_option_type (store_of final) (map_of final) z.ret) x.is ∙ x.in_ret.rel.is)) row.made)
