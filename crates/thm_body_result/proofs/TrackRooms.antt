-- What is noted takes no room except for parameters, of which there may be only so many.
use Rattle.std.proofs.Common.{◌≡◌, refl, arith, ℕ, ◌+◌, ◌≤◌, nat_lt, length, length-append, Bool, true, false, [], ◌∷◌}
use Rattle.std.proofs.Common.{List, Option, Some, None, inr}
use Rattle.std.proofs.lemmas.Bool.{ltb-false}
use Rattle.hir_store.specs.Pointers.{Pointer}
use Rattle.hir_store.specs.Stored.{Stored}
use Rattle.hir_store.specs.declared.generics.TypeOrConstParamData.{TypeOrConstParamData}
use Rattle.hir_store.specs.declared.path.GenericArgs.{GenericArgs}
use Rattle.hir_store.specs.declared.path.Path.{Path as HirPath}
use Rattle.hir_store.specs.declared.type_ref.LifetimeRef.{LifetimeRef}
use Rattle.hir_store.specs.declared.type_ref.TypeBound.{TypeBound}
use Rattle.hir_env.specs.declared.ctx.ImplTrait.{ImplTrait}
use Rattle.hir_env.specs.declared.ctx.ImplTrait.TheVariants as becomes
use Rattle.hir_lower_builder.specs.declared.generics.SideOutput.{SideOutput}
use Rattle.hir_lower_builder.specs.Builder.{Builder}
use Rattle.hir_lower_builder.specs.Generics.{cut_args}
use Rattle.hir_lower_builder.specs.Lowering.{Lowering, ◌>>◌, add_param, argument_form, becoming, count_out, input_end, track_down}
use Rattle.hir_lower_builder.specs.Lowering.{param_numbered, with_side_output, with_stored}
use Rattle.hir_lower_builder.specs.Paths.{with_alias, cut_back, cut_path, last_args}
use Rattle.thm_logic.proofs.Tracked.{KeepsParams}
use Rattle.thm_body_result.specs.Size.{Size, nothing, a_param, an_impl}
use Rattle.thm_body_result.proofs.Owners.{no_owners}
use Rattle.thm_body_result.proofs.Rooms.{Takes, takes_begin, takes_end, takes_pure, takes_then, takes_type}
use Rattle.thm_body_result.proofs.Emissions.{Emits, takes_of, emits_any, emits_as, emits_end, emits_pure, emits_then}
use Rattle.thm_body_result.proofs.Took.{Room, grew_none, no_sources, none_before, still, took_besides, unnamed}

pub takes_with_tracks : {A : Type 0} {n : Size} {f : SideOutput → Lowering A} → ((ns : SideOutput) → Takes n (f ns))
    → Takes n (with_side_output f)
unfolding with_side_output
takes_with_tracks h = record { takes = λ b d. (h b.tracks).takes b d }

pub takes_with_stored : {A : Type 0} {n : Size} {f : Stored → Lowering A} → ((s : Stored) → Takes n (f s)) → Takes n (with_stored f)
unfolding with_stored
takes_with_stored h = record { takes = λ b d. (h b.stored).takes b d }

args_keep : (mark : ℕ) (places : List Bool) (ls : List LifetimeRef) (a : Option GenericArgs) → KeepsParams (cut_args mark places ls a)
args_keep mark places ls None n = refl
args_keep mark places ls (Some a) n = refl

pub cut_keeps : (mark : ℕ) (places : List Bool) (ls : List LifetimeRef) (p : Option HirPath) → KeepsParams (cut_path mark places ls p)
cut_keeps mark places ls None n = refl
cut_keeps mark places ls (Some p) n = args_keep mark places ls (last_args p) n

pub takes_track_down : (f : SideOutput → SideOutput) → KeepsParams f → Takes nothing (track_down f)
unfolding track_down
takes_track_down f h = record {
  takes = λ b d. took_besides _ _ refl refl refl refl refl refl refl refl refl refl refl refl (h b.tracks);
}

pub takes_tracked : {A : Type 0} {n : Size} {p : Lowering A} (f : SideOutput → SideOutput) → KeepsParams f → Takes n p
    → Takes n (track_down f >> p)
takes_tracked f k h = takes_begin (takes_track_down f k) (λ u. h)

-- a parameter more

far_enough : (n : ℕ) → 4294967295 ≤ n → 4294967296 ≤ n + 1
far_enough n h = omega (arith, h)

pub takes_add_param : (x : TypeOrConstParamData) → Takes a_param (add_param x)
unfolding add_param count_out track_down with_side_output
takes_add_param x = record { takes = λ b d. by b (nat_lt (length b.tracks.generics.type_or_consts) 4294967295) refl }
  where
    by : (b : Builder) (t : Bool) → nat_lt (length b.tracks.generics.type_or_consts) 4294967295 ≡ t
        → let r = param_numbered x (length b.tracks.generics.type_or_consts) t b in Room a_param b r.0 r.1
    by b true is = record {
      exprs = grew_none refl refl;
      labels = still b.stored.labels refl;
      bindings = grew_none refl refl;
      pats = still b.stored.pats refl;
      types = still b.stored.types refl;
      lifetimes = still b.stored.lifetimes refl;
      paired = λ d. d;
      pat_sources = no_sources b.stored.pats refl;
      pat_mappings = refl;
      target_mappings = refl;
      type_sources = no_sources b.stored.types refl;
      lifetime_sources = no_sources b.stored.lifetimes refl;
      type_mappings = refl;
      pat_leads = refl;
      type_leads = refl;
      names = unnamed refl;
      params = length-append b.tracks.generics.type_or_consts (x ∷ []);
      as_many = refl;
      owners = λ h. no_owners b.stored.bindings.owners refl;
    }
    by b false is = let full = ltb-false (length b.tracks.generics.type_or_consts) 4294967295 is in
        inr (inr (inr (inr (inr (inr (inr (inr (far_enough (length b.tracks.generics.type_or_consts) full))))))))

-- what an `impl` becomes
pub becoming_takes : (at : Pointer) (mode : ImplTrait) (bounds : List TypeBound) → Takes (an_impl mode at) (becoming at mode bounds)
unfolding argument_form
becoming_takes at becomes.Error bounds = takes_type _ _
becoming_takes at becomes.Opaque bounds = takes_type _ _
becoming_takes at (becomes.Argument def) bounds = takes_then (takes_add_param _)
    (λ k. takes_end (takes_type _ _) (λ t. takes_end (takes_track_down _ (λ n. refl)) (λ u. takes_pure t)))

-- a path that is an alias in an argument

takes_input_end : Takes nothing input_end
unfolding input_end
takes_input_end = takes_with_tracks (λ n. takes_pure _)

takes_cut_back : (mark : ℕ) (places : List Bool) (p : Option HirPath) → Takes nothing (cut_back mark places p)
unfolding cut_back
takes_cut_back mark places p = takes_with_stored (λ s. takes_track_down _ (cut_keeps mark places s.lifetimes.entries p))

pub emits_aliased : (alias : Option (List Bool)) {n : Size} {P : Option HirPath → Type 0} {p : Lowering (Option HirPath)} → Emits n P p
    → Emits n P (with_alias alias p)
emits_aliased None h = h
emits_aliased (Some places) {n = n} {P = P} h =
    emits_as (none_before n) (emits_then (emits_any takes_input_end) (λ mark u. emits_end h (λ p e.
    emits_end (emits_any (takes_cut_back mark places p)) (λ v w. emits_pure P p e))))

pub aliased_takes : (alias : Option (List Bool)) {n : Size} {p : Lowering (Option HirPath)} → Takes n p → Takes n (with_alias alias p)
aliased_takes alias h = takes_of (emits_aliased alias (emits_any h))
