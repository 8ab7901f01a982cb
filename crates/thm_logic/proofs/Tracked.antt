-- Steps that note something beside what is stored, of which no relation on the store tells.
use Rattle.std.proofs.Common.{◌≡◌, ◌∙◌, refl, sym, subst, ℕ, nat_lt, length, Bool, true, false, List, Option, Some, None}
use Rattle.hir_store.specs.Pointers.{Pointer}
use Rattle.hir_store.specs.Stored.{Stored}
use Rattle.hir_store.specs.declared.generics.TypeOrConstParamData.{TypeOrConstParamData}
use Rattle.hir_store.specs.declared.ids.TypeRefId.{TypeRefId}
use Rattle.hir_store.specs.declared.path.Path.{Path as HirPath}
use Rattle.hir_store.specs.declared.type_ref.LifetimeRef.{LifetimeRef}
use Rattle.hir_store.specs.declared.type_ref.LifetimeRef.TheVariants as lifetime
use Rattle.hir_store.specs.declared.type_ref.TypeBound.{TypeBound}
use Rattle.hir_store.specs.declared.type_ref.TypeRef.{TypeRef}
use Rattle.hir_store.specs.declared.type_ref.TypeRef.TheVariants as type
use Rattle.hir_store.proofs.Extending.{extends_refl}
use Rattle.hir_env.specs.declared.ctx.ImplTrait.{ImplTrait}
use Rattle.hir_env.specs.declared.ctx.ImplTrait.TheVariants as becomes
use Rattle.hir_env.specs.declared.ctx.LifetimeScope.{LifetimeScope}
use Rattle.hir_lower_builder.specs.declared.generics.SideOutput.{SideOutput}
use Rattle.hir_lower_builder.specs.Generics.{naming}
use Rattle.hir_lower_builder.specs.Lowering.{Lowering, ◌>>=◌, ◌>>◌, pure, add_param, alloc_type, argument_form, becoming, input_end}
use Rattle.hir_lower_builder.specs.Lowering.{track_down, param_numbered, param_type, with_side_output, with_stored}
use Rattle.hir_lower_builder.specs.Paths.{with_alias, cut_back}
use Rattle.thm_logic.proofs.Frames.{Frame}
use Rattle.thm_logic.proofs.Logic.{Mark, mark, Rel, Correct, IsPure, correct_as, correct_bind, correct_pure, grows_refl}
use Rattle.thm_logic.proofs.Steps.{correct_count_out}

pub correct_with_tracks : {A : Type 0} {f : SideOutput → Lowering A} {R : Rel A} → ((n : SideOutput) → Correct (f n) R)
    → Correct (with_side_output f) R
unfolding with_side_output
correct_with_tracks h = record { holds = λ final ps b r. (h b.tracks).holds final ps b r }

pub correct_with_stored : {A : Type 0} {f : Stored → Lowering A} {R : Rel A} → ((s : Stored) → Correct (f s) R)
    → Correct (with_stored f) R
unfolding with_stored
correct_with_stored h = record { holds = λ final ps b r. (h b.stored).holds final ps b r }

-- nothing is stored, whatever is answered
pub record Idle {A : Type 0} (final : Stored) (ps : List Frame) (m m' : Mark) (a : A) : Type 0 where
  pub still : m' ≡ m

pub idle_of : {A : Type 0} {a : A} {p : Lowering A} → Correct p (IsPure a) → Correct p Idle
idle_of h = correct_as h (λ final ps m m' b g row. record { still = row.still })

pub correct_track_down : (f : SideOutput → SideOutput) → Correct (track_down f) (IsPure tt)
unfolding track_down
correct_track_down f = record {
  holds = λ final ps b r. record {
    kept = record {
      scopes = refl;
      in_root = refl;
      roots = λ t. refl;
      paired = λ d. d;
      mapped = λ d w. w;
      stays = extends_refl b.stored;
    };
    grows = grows_refl (mark b);
    in_final = λ d pre. record { is = refl; still = refl };
  };
}

-- in front of steps, and behind them

pub correct_begin : {A B : Type 0} {p : Lowering A} {f : A → Lowering B} {R : Rel B} → Correct p Idle → ((a : A) → Correct (f a) R)
    → Correct (p >>= f) R
correct_begin {R = R} h k = correct_as (correct_bind h k)
    (λ final ps m m' b g row. subst (λ k. R final ps k m' b) row.first.still row.second)

pub correct_tracked : (f : SideOutput → SideOutput) {A : Type 0} {p : Lowering A} {R : Rel A} → Correct p R → Correct (track_down f >> p) R
correct_tracked f h = correct_begin (idle_of (correct_track_down f)) (λ u. h)

pub correct_kept : {A B : Type 0} {p : Lowering A} {q : A → Lowering B} {R : Rel A} → Correct p R → ((a : A) → Correct (q a) Idle)
    → Correct (p >>= (λ a. q a >>= (λ v. pure a))) R
correct_kept {R = R} h k = correct_as (correct_bind h (λ a. correct_bind (k a) (λ v. correct_pure a))) (λ final ps m m' b g row.
    let rest = row.second in
    subst (λ k. R final ps m k b) (sym (rest.second.still ∙ rest.first.still))
    (subst (λ x. R final ps m row.middle x) (sym rest.second.is) row.first))

-- a path that is an alias in an argument

pub correct_input_end : Correct input_end Idle
unfolding input_end
correct_input_end = correct_with_tracks (λ n. idle_of (correct_pure _))

pub correct_cut_back : (n : ℕ) (places : List Bool) (p : Option HirPath) → Correct (cut_back n places p) Idle
unfolding cut_back
correct_cut_back n places p = correct_with_stored (λ s. idle_of (correct_track_down _))

pub correct_aliased : (alias : Option (List Bool)) {p : Lowering (Option HirPath)} {R : Rel (Option HirPath)} → Correct p R
    → Correct (with_alias alias p) R
correct_aliased None h = h
correct_aliased (Some places) h = correct_begin correct_input_end (λ n. correct_kept h (λ p. correct_cut_back n places p))

-- what an `impl` becomes

-- as what it is stored
abbrev pub BecomesType : ImplTrait → List TypeBound → TypeRef → Type 0
BecomesType becomes.Error bounds t = t ≡ type.Error
BecomesType becomes.Opaque bounds t = t ≡ type.ImplTrait bounds
BecomesType (becomes.Argument def) bounds t = (k : ℕ) × (t ≡ param_type def k)

pub correct_add_param : (x : TypeOrConstParamData) → Correct (add_param x) Idle
unfolding add_param
correct_add_param x =
    correct_with_tracks (λ n. by (length n.generics.type_or_consts) (nat_lt (length n.generics.type_or_consts) 4294967295))
  where
    by : (k : ℕ) (b : Bool) → Correct (param_numbered x k b) Idle
    by k true = correct_tracked _ (idle_of (correct_pure k))
    by k false = correct_count_out Idle

-- where it is so of each type that it may be stored as
pub correct_becoming : (at : Pointer) (mode : ImplTrait) (bounds : List TypeBound) {R : Rel TypeRefId}
    → ((t : TypeRef) → BecomesType mode bounds t → Correct (alloc_type t (Some at)) R) → Correct (becoming at mode bounds) R
unfolding argument_form
correct_becoming at becomes.Error bounds h = h type.Error refl
correct_becoming at becomes.Opaque bounds h = h (type.ImplTrait bounds) refl
correct_becoming at (becomes.Argument def) bounds h = correct_begin (correct_add_param _) (λ k.
    correct_kept (h (param_type def k) (k, refl)) (λ t. idle_of (correct_track_down _)))

-- there are as many parameters as before
abbrev pub KeepsParams : (SideOutput → SideOutput) → Type 0
KeepsParams f = (n : SideOutput) → length (f n).generics.type_or_consts ≡ length n.generics.type_or_consts

pub naming_keeps : (s : LifetimeScope) (l : LifetimeRef) → KeepsParams (naming s l)
naming_keeps s (lifetime.Named x) n = refl
naming_keeps s lifetime.Static n = refl
naming_keeps s lifetime.Placeholder n = refl
naming_keeps s lifetime.Error n = refl
