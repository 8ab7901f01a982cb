-- What is in a closure whose body is a coroutine reads back as what is written: what it is handed its arguments by, their types and what
-- it returns. Its `let`s are those of what is written.
use Rattle.std.proofs.Common.{◌≡◌, ◌∙◌, ap, subst, sym, List, [], map, Bool}
use Rattle.hir_store.specs.Bindings.{binding_id}
use Rattle.hir_store.specs.Pointers.{Pointer}
use Rattle.hir_store.specs.Stored.{Stored, store_of, map_of}
use Rattle.hir_store.specs.declared.hir.CoroutineKind.{CoroutineKind}
use Rattle.hir_store.specs.declared.hir.CoroutineSource.TheVariants as source
use Rattle.hir_store.specs.declared.ids.ExprId.{ExprId}
use Rattle.hir_store.proofs.Extending.{extends_owner, extends_trans}
use Rattle.hir_env.specs.ResolvedTree.{OptionType, Params}
use Rattle.hir_lower_builder.specs.declared.preludes.Within.{Within}
use Rattle.hir_lower_builder.specs.Forms.{ExprSteps}
use Rattle.hir_lower_builder.specs.Lower.{lower_params, no_closure_params, present_type}
use Rattle.hir_lower_builder.specs.Preludes.{coroutine_closure_form, no_prelude, within_form}
use Rattle.thm_logic.proofs.Always.{Always, correct_always}
use Rattle.thm_logic.proofs.CoroutineClosures.{CoroutineClosureRow, correct_coroutine_closure}
use Rattle.thm_logic.proofs.Frames.{Frame}
use Rattle.thm_logic.proofs.Preludes.{MadeCoroutine, WithinRow, correct_made_coroutine, correct_within}
use Rattle.thm_logic.proofs.Steps.{Mark, Rel, Correct}
use Rattle.spec_data.specs.Closures.{params_types}
use Rattle.spec_data.specs.Data.{PatData}
use Rattle.spec_data.specs.Patterns.{written_pat}
use Rattle.spec_data.specs.Preludes.{formal_patterns}
use Rattle.spec_data.specs.Reading.{stored_option_type}
use Rattle.spec_data.specs.Tops.{params_tops}
use Rattle.spec_data.specs.Written.{written_option_type}
use Rattle.thm_round_trip.proofs.Now.{OptionTypeNow, option_type_now}
use Rattle.thm_round_trip.proofs.Params.{ParamsNow, params_now, pats_in, types_in}
use Rattle.thm_round_trip.proofs.Preludes.{FormalsNow, HandIn, HandedParams, LetsNow, ReadAs, all_handed, formals_now, lets_now}

-- the data of its parameters
abbrev pub params_data : Params → List PatData
params_data xs = map written_pat (params_tops xs)

module _ (which : CoroutineKind) (xs : Params) (t : OptionType) (S : Rel ExprId) where
  -- its parts, with what is so of them in each store that goes on
  abbrev pub WithinReads : Rel Within
  WithinReads = WithinRow (Always (ParamsNow no_closure_params xs)) (Always (OptionTypeNow (written_option_type t))) (Always S)
      (λ is. Always (LetsNow no_prelude is)) (λ ss i. Always (MadeCoroutine which source.Closure ss i))

  pub within_reads : {e : ExprSteps} → Correct e S
      → Correct (within_form which (lower_params no_closure_params xs) (present_type t) e) WithinReads
  within_reads h = correct_within which (correct_always (params_now no_closure_params xs)) (correct_always (option_type_now t))
      (correct_always h) (λ is. correct_always (lets_now no_prelude is))
      (λ ss i. correct_always (correct_made_coroutine which source.Closure ss i))

  module _ {final : Stored} {ps : List Frame} {m m' : Mark} {w : Within} (row : WithinReads final ps m m' w) where
    -- the patterns as they are written
    pub params_read : ReadAs row.after_params.stored row.params.args (params_data xs)
    params_read = λ s e. (row.in_params.always s e).pats

    read_in_body : ReadAs row.after_body.stored row.params.args (params_data xs)
    read_in_body = λ s e. params_read s (extends_trans row.in_ret.stays (extends_trans row.in_body.stays e))

    pub read_at_end : ReadAs m'.stored row.params.args (params_data xs)
    read_at_end = λ s e. read_in_body s (extends_trans row.in_prelude.stays (extends_trans row.made.stays e))

    -- the `let`s of what is written
    pub within_lets : HandedParams no_prelude row.params.args (params_data xs) final ps row.after_body row.after_prelude row.prelude
    within_lets = row.in_prelude.rel.each (params_data xs) read_in_body

    pub within_hands : HandIn w.handed row.params.args (params_data xs)
    within_hands =
        let l = row.prelude in
        let all = all_handed no_prelude row.params.args (params_data xs) final ps row.after_body row.after_prelude l within_lets in
        let same : w.handed ≡ all.more = ap (λ x. x.handed) row.is ∙ all.handed in
        subst (λ hs. HandIn hs row.params.args (params_data xs)) (sym same) all.hand

module _ (at : Pointer) (which : CoroutineKind) (moves : Bool) (xs : Params) (t : OptionType) (S : Rel ExprId) where
  abbrev pub ClosureReads : Rel ExprId
  ClosureReads = CoroutineClosureRow at which moves (WithinReads which xs t S) (λ hs. FormalsNow [] hs)

  pub closure_reads : {e : ExprSteps} → Correct e S
      → Correct (coroutine_closure_form at which moves (lower_params no_closure_params xs) (present_type t) e) ClosureReads
  closure_reads h = correct_coroutine_closure at which moves _ _ _ (within_reads which xs t S h) (formals_now [])

  -- what it is handed its arguments by
  pub formals_alike : {final : Stored} {ps : List Frame} {m m' : Mark} {i : ExprId} (row : ClosureReads final ps m m' i)
      → pats_in final row.formals ≡ formal_patterns (params_data xs)
  formals_alike {final = final} {m = m} row =
      let inner = row.in_within in
      let start = binding_id m.bindings in
      let owned = extends_owner row.left.stored start row.within.coroutine in
      ap (pats_in final) row.in_formals.ids
      ∙ row.in_formals.reads inner.params.args (params_data xs) (within_hands which xs t S inner)
      (λ s e. read_at_end which xs t S inner s (extends_trans owned e))
