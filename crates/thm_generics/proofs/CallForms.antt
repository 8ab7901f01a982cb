-- What macro calls, closures and definitions of macros note: as much as what stands in them.
use Rattle.hir_store.specs.Pointers.{Pointer}
use Rattle.hir_store.specs.declared.ids.PatId.{PatId}
use Rattle.hir_store.specs.declared.ids.TypeRefId.{TypeRefId}
use Rattle.hir_env.specs.ResolvedTree as tree
use Rattle.hir_env.specs.ResolvedTree.{Called, Entered, Gone}
use Rattle.hir_lower_builder.specs.Forms.{ExprSteps, called_form, uncalled_form}
use Rattle.hir_lower_builder.specs.Lowering.{Lowering}
use Rattle.hir_lower_builder.specs.Pats.{called_pat_form, uncalled_pat}
use Rattle.hir_lower_builder.specs.Types.{TypeSteps, called_type_form, uncalled_type}
use Rattle.std.proofs.Common.{Bool, Option, Some, None}
use Rattle.hir_store.specs.declared.hir.CoroutineKind.{CoroutineKind}
use Rattle.hir_store.specs.declared.ids.BlockId.{BlockId}
use Rattle.hir_store.specs.declared.ids.ExprId.{ExprId}
use Rattle.hir_lower_builder.specs.declared.closures.ClosureParams.{ClosureParams}
use Rattle.hir_lower_builder.specs.Lower.{ExprSteps, StoredContents, closure_form, coroutine_block_form, coroutine_form, param_form}
use Rattle.hir_lower_builder.specs.Lower.{yield_form}
use Rattle.hir_lower_builder.specs.Lowering.{Lowering, owning}
use Rattle.std.proofs.Common.{ℕ, Option, Some}
use Rattle.hir_store.specs.declared.ids.MacroDefId.{MacroDefId}
use Rattle.hir_env.specs.ResolvedTree.{Stmt}
use Rattle.hir_lower_builder.specs.Calls.{behind, define_form, inside_macro}
use Rattle.hir_lower_builder.specs.Lowering.{Lowering}
use Rattle.hir_lower_builder.specs.Forms.{coroutine_around_form}
use Rattle.spec_data.specs.Tracking.{Tracking, none, ◌⊕◌}
use Rattle.thm_generics.proofs.Forms.{paren_tracks}
use Rattle.thm_generics.proofs.Logic.{SideOutput, tracks_begin, tracks_end, tracks_pure, tracks_then}
use Rattle.thm_generics.proofs.PatForms.{missing_pat_tracks}
use Rattle.thm_generics.proofs.TypeForms.{error_tracks}
use Rattle.thm_generics.proofs.Steps.{tracks_close, tracks_close_barrier, tracks_count_def, tracks_enter_block, tracks_expr}
use Rattle.thm_generics.proofs.Steps.{tracks_track_yield}
use Rattle.thm_generics.proofs.Steps.{tracks_open_barrier, tracks_open_macro, tracks_owning, tracks_point_pat, tracks_point_type}
use Rattle.thm_generics.proofs.Steps.{tracks_emitted}
use Rattle.thm_generics.proofs.Steps.{tracks_type}

-- calls

module _ (at : Pointer) where
  pub uncalled_tracks : (c : Called)
      → SideOutput none (uncalled_form at c)
  unfolding uncalled_form
  uncalled_tracks c = tracks_then (tracks_emitted c) (λ u. tracks_expr _ _)

  pub called_tracks : (c : Called) {D : Tracking} {e : ExprSteps} → SideOutput D e
      → SideOutput D (called_form at c e)
  unfolding called_form
  called_tracks c h = tracks_then (tracks_emitted c) (λ u. paren_tracks at h)

  pub called_type_tracks : (c : Called) {D : Tracking} {t : TypeSteps} → SideOutput D t
      → SideOutput D (called_type_form at c t)
  unfolding called_type_form
  called_type_tracks c h =
      tracks_then (tracks_emitted c) (λ u. tracks_end h (λ i. tracks_end (tracks_point_type at i) (λ v. tracks_pure i)))

  pub uncalled_type_tracks : (c : Called)
      → SideOutput none (uncalled_type at c)
  uncalled_type_tracks tree.callless = tracks_type _ _
  uncalled_type_tracks c = called_type_tracks c (error_tracks)

  pub called_pat_tracks : {A : Type 0} (c : Called) (pat_in : A → PatId) {D : Tracking} {p : Lowering A}
      → SideOutput D p
      → SideOutput D (called_pat_form at c pat_in p)
  unfolding called_pat_form
  called_pat_tracks c pat_in h =
      tracks_then (tracks_emitted c) (λ u. tracks_end h (λ r. tracks_end (tracks_point_pat at (pat_in r)) (λ v. tracks_pure r)))

  pub uncalled_pat_tracks : (c : Called)
      → SideOutput none (uncalled_pat at c)
  uncalled_pat_tracks tree.callless = missing_pat_tracks
  uncalled_pat_tracks c = called_pat_tracks c (λ i. i) (missing_pat_tracks)

-- closures

pub closure_tracks : (at : Pointer) (moves is_static : Bool) {D E F : Tracking} {p : Lowering ClosureParams}
    {t : Lowering (Option TypeRefId)} {e : ExprSteps} → SideOutput D p → SideOutput E t → SideOutput F e
    → SideOutput (D ⊕ (E ⊕ F)) (owning (λ i. i) (closure_form at moves is_static p t e))
unfolding closure_form
closure_tracks at moves is_static hp ht he = tracks_owning (λ i. i) (tracks_begin tracks_open_barrier (λ outside. tracks_then hp
    (λ l. tracks_then ht (λ r. tracks_end he (λ i. tracks_begin (tracks_close_barrier outside) (λ y. tracks_expr _ (Some at)))))))

coroutine_block_tracks : (at : Pointer) (kind : CoroutineKind) (moves : Bool) (number : Option BlockId) {D : Tracking}
    {c : Lowering StoredContents} → SideOutput D c
    → SideOutput D (coroutine_block_form at kind moves number c)
unfolding coroutine_block_form coroutine_around_form
coroutine_block_tracks at kind moves number h = tracks_then (tracks_enter_block number)
    (λ u. tracks_end h (λ r. tracks_end (tracks_expr _ None) (λ b. tracks_expr _ (Some at))))

pub coroutine_tracks : (at : Pointer) (kind : CoroutineKind) (moves : Bool) (number : Option BlockId) {D : Tracking}
    {c : Lowering StoredContents} → SideOutput D c
    → SideOutput D (owning (λ i. i) (coroutine_form (coroutine_block_form at kind moves number c)))
unfolding coroutine_form
coroutine_tracks at kind moves number h = tracks_owning (λ i. i) (tracks_begin tracks_open_barrier
    (λ outside. tracks_end (coroutine_block_tracks at kind moves number h)
    (λ i. tracks_begin (tracks_close_barrier outside) (λ y. tracks_pure i))))

pub param_tracks : (l : ClosureParams) {D E : Tracking} {p : Lowering PatId} {t : Lowering (Option TypeRefId)}
    → SideOutput D p → SideOutput E t → SideOutput (D ⊕ E) (param_form l p t)
unfolding param_form
param_tracks l hp ht = tracks_then hp (λ i. tracks_end ht (λ r. tracks_pure _))

pub yield_tracks : (at : Pointer) {D : Tracking} {e : Lowering (Option ExprId)} → SideOutput D e
    → SideOutput D (yield_form at e)
unfolding yield_form
yield_tracks at h = tracks_begin tracks_track_yield (λ u. tracks_end h (λ v. tracks_expr _ (Some at)))

-- definitions

pub define_tracks : (k : ℕ) (d : Option MacroDefId) → SideOutput none (define_form k d)
unfolding define_form
define_tracks k d = tracks_begin (tracks_count_def k) (λ u. tracks_pure _)

pub inside_tracks : (d : MacroDefId) {A : Type 0} {D : Tracking} {p : Lowering A} → SideOutput D p
    → SideOutput D (inside_macro d p)
unfolding inside_macro
inside_tracks d h = tracks_begin (tracks_open_macro d) (λ u. tracks_end h (λ x. tracks_begin tracks_close (λ v. tracks_pure x)))

pub behind_tracks : (s : Stmt) {A : Type 0} {D : Tracking} {p : Lowering A} → SideOutput D p
    → SideOutput D (behind s p)
behind_tracks (tree.macro_stmt k (Some d)) h = inside_tracks d h
behind_tracks s h = h
