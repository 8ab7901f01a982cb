-- A closure runs as it is written: what is read back of its parameters and its type is in its event, and of its kind what stands in its
-- body.
use Rattle.std.proofs.Common.{◌≡◌, ◌∙◌, ap, subst, Bool, List, [], Option, Some}
use Rattle.hir_store.specs.Pointers.{Pointer}
use Rattle.hir_store.specs.Stored.{Stored, store_of, map_of}
use Rattle.hir_store.specs.declared.hir.CaptureBy.{CaptureBy}
use Rattle.hir_store.specs.declared.hir.ClosureKind.{ClosureKind}
use Rattle.hir_store.specs.declared.ids.ExprId.{ExprId}
use Rattle.hir_store.specs.declared.ids.TypeRefId.{TypeRefId}
use Rattle.hir_env.specs.ResolvedTree.{OptionExpr, OptionType, Params}
use Rattle.hir_env.specs.Answering.{site_of}
use Rattle.hir_lower_builder.specs.declared.closures.ClosureParams.{ClosureParams}
use Rattle.hir_lower_builder.specs.Forms.{capture_by, closure_kind, stored_closure}
use Rattle.hir_lower_builder.specs.Lower.{closure_form, lower_params, lower_part, no_closure_params, present_type}
use Rattle.spec_data.specs.Data.{OptionTypeData, PatData}
use Rattle.spec_data.specs.Reading.{stored_option_type}
use Rattle.spec_data.specs.Yields.{yields_in}
use Rattle.thm_round_trip.proofs.ClosureKinds.{captures_as, kind_as}
use Rattle.thm_round_trip.proofs.Now.{option_type_now}
use Rattle.thm_round_trip.proofs.Params.{params_now, pats_in, types_in}
use Rattle.thm_round_trip.proofs.YieldTree.{params_raise, part_raises, present_type_raises}
use Rattle.spec_semantics.specs.Run.{Operation, ask, closure}
use Rattle.spec_semantics.specs.Syntax.{closure_of}
use Rattle.thm_logic.proofs.Barriers.{correct_closure}
use Rattle.thm_logic.proofs.Frames.{Frame}
use Rattle.thm_logic.proofs.Steps.{Allocated, Correct, Mark, Rel, correct_as}
use Rattle.thm_semantics.proofs.Relation.{same_ask}
use Rattle.thm_semantics.proofs.Senses.{Base, Goes, Runs, goes_at, one}

-- events of the same parts
pub event_as : {k k' : ClosureKind} {c c' : CaptureBy} {ps ps' : List PatData} {ts ts' : List OptionTypeData} {t t' : OptionTypeData}
    → k ≡ k' → c ≡ c' → ps ≡ ps' → ts ≡ ts' → t ≡ t' → closure k c ps ts t ≡ closure k' c' ps' ts' t'
event_as {k' = k'} {c = c} {c' = c'} {ps = ps} {ps' = ps'} {ts = ts} {ts' = ts'} {t = t} a b d e f =
    ap (λ x. closure x c ps ts t) a ∙ (ap (λ x. closure k' x ps ts t) b ∙ (ap (λ x. closure k' c' x ts t) d
    ∙ (ap (λ x. closure k' c' ps' x t) e ∙ ap (λ x. closure k' c' ps' ts' x) f)))

-- that it runs so

-- the event of what is stored
abbrev event_in : Stored → Bool → Bool → ClosureParams → Option TypeRefId → Bool → Operation
event_in final moves is_static l t y = closure (closure_kind y is_static) (capture_by moves) (pats_in final l.args)
    (types_in final l.arg_types) (stored_option_type (store_of final) (map_of final) t)

module _ (at : Pointer) (moves is_static : Bool) where
  goes_closure : {base : Base} {m m' : Mark} {final : Stored} {ps qs : List Frame} {i : ExprId} (l : ClosureParams)
      (t : Option TypeRefId) (body : ExprId) (y : Bool) (o : Operation) → event_in final moves is_static l t y ≡ o
      → Allocated (stored_closure moves is_static l t body y) (Some at) final qs m m' i
      → Goes base m'.nodes one (λ fuel ss. ask o [] (Some (site_of at))) final ps i
  goes_closure {base = base} {m' = m'} {final = final} {ps = ps} {i = i} l t body y o is a =
      subst (λ k. Goes base m'.nodes one (λ fuel ss. ask k [] (Some (site_of at))) final ps i) is
      (goes_at a (λ fuel d le f. same_ask (event_in final moves is_static l t y) [] (Some (site_of at))) (λ d le. tt))

  pub closure_fine : (ps : Params) (t : OptionType) (e : OptionExpr) {R : Rel ExprId} → Correct (lower_part e) R
      → Correct (closure_form at moves is_static (lower_params no_closure_params ps) (present_type t) (lower_part e))
      (Runs one (λ fuel ss. ask (closure_of moves is_static ps t e) [] (Some (site_of at))))
  closure_fine ps t e h = correct_as
      (correct_closure at moves is_static (params_now no_closure_params ps) (option_type_now t) h)
      (λ final fs m m' i g row.
      let yields = row.raised (params_raise no_closure_params ps) (present_type_raises t) (yields_in e) (part_raises e) in
      goes_closure row.params row.ret row.body row.yields (closure_of moves is_static ps t e)
      (event_as (kind_as is_static e yields) (captures_as moves)
      row.in_params.pats row.in_params.types row.in_ret.is) row.made)
