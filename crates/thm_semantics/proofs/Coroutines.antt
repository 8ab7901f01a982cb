-- A coroutine block runs as it is written: it is one event, and what is in it is a body inside.
use Rattle.std.proofs.Common.{subst, Bool, false, List, [], Option, Some, None}
use Rattle.hir_store.specs.Pointers.{Pointer}
use Rattle.hir_store.specs.Stored.{Stored}
use Rattle.hir_store.specs.declared.hir.CaptureBy.{CaptureBy}
use Rattle.hir_store.specs.declared.hir.ClosureKind.TheVariants as closure_kind
use Rattle.hir_store.specs.declared.hir.CoroutineKind.{CoroutineKind}
use Rattle.hir_store.specs.declared.hir.CoroutineSource.TheVariants as source
use Rattle.hir_store.specs.declared.ids.BlockId.{BlockId}
use Rattle.hir_store.specs.declared.ids.ExprId.{ExprId}
use Rattle.hir_env.specs.Answering.{site_of}
use Rattle.hir_lower_builder.specs.Forms.{StoredContents, capture_by, settled, settled_block, stored_coroutine}
use Rattle.hir_lower_builder.specs.Lower.{coroutine_block_form, coroutine_form}
use Rattle.hir_lower_builder.specs.Lowering.{Lowering}
use Rattle.hir_lower_builder.specs.Forms.{coroutine_around_form}
use Rattle.spec_data.specs.Data.{no_type}
use Rattle.spec_data.specs.Reading.{stored_option_type}
use Rattle.thm_round_trip.proofs.ClosureKinds.{captures_as}
use Rattle.spec_semantics.specs.Run.{Operation, ask, closure}
use Rattle.spec_semantics.specs.Syntax.{coroutine_of}
use Rattle.thm_logic.proofs.Barriers.{correct_coroutine}
use Rattle.thm_logic.proofs.Frames.{Frame}
use Rattle.thm_logic.proofs.Steps.{Allocated, Correct, Grows, Mark, Rel, correct_alloc, correct_as, correct_bind, correct_enter_block}
use Rattle.thm_semantics.proofs.Relation.{same_ask}
use Rattle.thm_semantics.proofs.Senses.{Base, Goes, Runs, goes_at, one}

-- What is in it, the block of that, and the coroutine around it.
pub record CoroutineIs (at : Pointer) (kind : CoroutineKind) (moves : Bool) (number : Option BlockId) (R : Rel StoredContents)
    (final : Stored) (ps : List Frame) (m m' : Mark) (i : ExprId) : Type 0 where
  pub contents : StoredContents
  pub body : ExprId
  pub entered : Mark
  pub filled : Mark
  pub left : Mark
  pub to_entered : Grows m entered
  pub to_filled : Grows entered filled
  pub to_left : Grows filled left
  pub to_end : Grows left m'
  pub inside : R final ps entered filled contents
  pub block : Allocated (settled_block false None number (settled contents.0 contents.1)) None final ps filled left body
  pub made : Allocated (stored_coroutine kind moves body) (Some at) final ps left m' i

-- the event of what is stored
abbrev event_with : CoroutineKind → CaptureBy → Operation
event_with kind c = closure (closure_kind.Coroutine kind source.Block) c [] [] no_type

module _ (at : Pointer) (kind : CoroutineKind) (moves : Bool) (number : Option BlockId) where
  pub coroutine_is : {p : Lowering StoredContents} {R : Rel StoredContents} → Correct p R
      → Correct (coroutine_block_form at kind moves number p) (CoroutineIs at kind moves number R)
  unfolding coroutine_block_form coroutine_around_form
  coroutine_is h = correct_as
      (correct_bind (correct_enter_block number) (λ u. correct_bind h (λ r.
      correct_bind (correct_alloc (settled_block false None number (settled r.0 r.1)) None)
      (λ b. correct_alloc (stored_coroutine kind moves b) (Some at)))))
      (λ final ps m m' i g row. let r = row.second in let b = r.second in record {
        contents = r.one;
        body = b.one;
        entered = row.middle;
        filled = r.middle;
        left = b.middle;
        to_entered = row.before;
        to_filled = r.before;
        to_left = b.before;
        to_end = b.after;
        inside = r.first;
        block = b.first;
        made = b.second;
      })

  goes_coroutine : {base : Base} {m m' : Mark} {final : Stored} {ps qs : List Frame} {i : ExprId} (body : ExprId)
      → Allocated (stored_coroutine kind moves body) (Some at) final qs m m' i
      → Goes base m'.nodes one (λ fuel ss. ask (coroutine_of kind moves) [] (Some (site_of at))) final ps i
  unfolding stored_option_type
  goes_coroutine {base = base} {m' = m'} {final = final} {ps = ps} {i = i} body a =
      subst (λ c. Goes base m'.nodes one (λ fuel ss. ask (event_with kind c) [] (Some (site_of at))) final ps i) (captures_as moves)
      (goes_at a (λ fuel d le f. same_ask (event_with kind (capture_by moves)) [] (Some (site_of at))) (λ d le. tt))

  pub coroutine_fine : {p : Lowering StoredContents} {R : Rel StoredContents} → Correct p R
      → Correct (coroutine_form (coroutine_block_form at kind moves number p))
      (Runs one (λ fuel ss. ask (coroutine_of kind moves) [] (Some (site_of at))))
  coroutine_fine h = correct_as (correct_coroutine (coroutine_is h))
      (λ final ps m m' i g row. let x = row.inside in goes_coroutine x.body x.made)
