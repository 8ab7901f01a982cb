-- Nothing that is noted is a `yield`.
use Rattle.std.proofs.Common.{refl, ℕ, nat_lt, length, Bool, true, false, List, Option, Some, None}
use Rattle.hir_store.specs.Pointers.{Pointer}
use Rattle.hir_store.specs.Stored.{Stored}
use Rattle.hir_store.specs.declared.generics.TypeOrConstParamData.{TypeOrConstParamData}
use Rattle.hir_store.specs.declared.path.Path.{Path as HirPath}
use Rattle.hir_store.specs.declared.type_ref.TypeBound.{TypeBound}
use Rattle.hir_env.specs.declared.ctx.ImplTrait.{ImplTrait}
use Rattle.hir_env.specs.declared.ctx.ImplTrait.TheVariants as becomes
use Rattle.hir_lower_builder.specs.declared.generics.SideOutput.{SideOutput}
use Rattle.hir_lower_builder.specs.Lowering.{Lowering, ◌>>◌, add_param, argument_form, becoming, input_end}
use Rattle.hir_lower_builder.specs.Lowering.{track_down, param_numbered, with_side_output, with_stored}
use Rattle.hir_lower_builder.specs.Paths.{with_alias, cut_back}
use Rattle.thm_logic.proofs.Tracked.{correct_cut_back, correct_input_end, correct_track_down}
use Rattle.thm_logic.proofs.Yields.{Raises, Still, raises_begin, raises_end, raises_pure, raises_still, still_count_out, still_pure}
use Rattle.thm_logic.proofs.Yields.{still_then}
use Rattle.thm_logic.proofs.Yields.{still_type}

pub still_with_tracks : {A : Type 0} {f : SideOutput → Lowering A} → ((n : SideOutput) → Still (f n)) → Still (with_side_output f)
unfolding with_side_output
still_with_tracks h = record { still = λ b. (h b.tracks).still b }

pub still_with_stored : {A : Type 0} {f : Stored → Lowering A} → ((s : Stored) → Still (f s)) → Still (with_stored f)
unfolding with_stored
still_with_stored h = record { still = λ b. (h b.stored).still b }

pub still_track_down : (f : SideOutput → SideOutput) → Still (track_down f)
unfolding track_down
still_track_down f = record { still = λ b. refl }

pub still_tracked : (f : SideOutput → SideOutput) {A : Type 0} {p : Lowering A} → Still p → Still (track_down f >> p)
still_tracked f h = still_then (still_track_down f) (λ u. h)

pub still_input_end : Still input_end
unfolding input_end
still_input_end = still_with_tracks (λ n. still_pure _)

pub still_cut_back : (n : ℕ) (places : List Bool) (p : Option HirPath) → Still (cut_back n places p)
unfolding cut_back
still_cut_back n places p = still_with_stored (λ s. still_track_down _)

pub still_add_param : (x : TypeOrConstParamData) → Still (add_param x)
unfolding add_param
still_add_param x = still_with_tracks (λ n. by (length n.generics.type_or_consts) (nat_lt (length n.generics.type_or_consts) 4294967295))
  where
    by : (k : ℕ) (b : Bool) → Still (param_numbered x k b)
    by k true = still_tracked _ (still_pure k)
    by k false = still_count_out

pub still_becoming : (at : Pointer) (mode : ImplTrait) (bounds : List TypeBound) → Still (becoming at mode bounds)
unfolding argument_form
still_becoming at becomes.Error bounds = still_type _ _
still_becoming at becomes.Opaque bounds = still_type _ _
still_becoming at (becomes.Argument def) bounds = still_then (still_add_param _)
    (λ k. still_then (still_type _ _) (λ t. still_then (still_track_down _) (λ u. still_pure t)))

-- where one may stand

pub raises_tracked_down : (f : SideOutput → SideOutput) {A : Type 0} {y : Bool} {p : Lowering A} → Raises y p → Raises y (track_down f >> p)
raises_tracked_down f h = raises_begin (raises_still (correct_track_down f) (still_track_down f)) (λ u. h)

pub raises_aliased : (alias : Option (List Bool)) {y : Bool} {p : Lowering (Option HirPath)} → Raises y p → Raises y (with_alias alias p)
raises_aliased None h = h
raises_aliased (Some places) h = raises_begin (raises_still correct_input_end still_input_end) (λ n. raises_end h
    (λ p. raises_begin (raises_still (correct_cut_back n places p) (still_cut_back n places p)) (λ u. raises_pure p)))
