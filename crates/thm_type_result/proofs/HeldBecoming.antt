-- What an `impl` in an argument becomes: it is a parameter, which holds nothing, and what is asked of it holds what its bounds do.
use Rattle.std.proofs.Common.{◌≡◌, ◌∙◌, refl, ap, arith, ℕ, ◌+◌, nat_lt, length, Bool, true, false, List, [], ◌∷◌, ◌++◌, Option, Some}
use Rattle.std.proofs.Common.{None, Ok}
use Rattle.std.proofs.Common.{Err}
use Rattle.hir_store.specs.Pointers.{Pointer}
use Rattle.hir_store.specs.Stored.{Stored}
use Rattle.hir_store.specs.StoreSink.{Extends}
use Rattle.hir_store.specs.declared.generics.TypeOrConstParamData.{TypeOrConstParamData}
use Rattle.hir_store.specs.declared.ids.GenericDefId.{GenericDefId}
use Rattle.hir_store.specs.declared.ids.TypeRefId.{TypeRefId}
use Rattle.hir_store.specs.declared.path.Path.{Path as HirPath}
use Rattle.hir_store.specs.declared.type_ref.LifetimeRef.{LifetimeRef}
use Rattle.hir_store.specs.declared.type_ref.LifetimeRef.TheVariants as lifetime
use Rattle.hir_store.specs.declared.type_ref.TypeBound.{TypeBound}
use Rattle.hir_store.specs.declared.type_ref.TypeRef.TheVariants as ty
use Rattle.hir_store.specs.declared.type_ref.UseArgRef.{UseArgRef}
use Rattle.hir_store.proofs.Extending.{extends_refl}
use Rattle.hir_env.specs.ResolvedTree as tree
use Rattle.hir_env.specs.ResolvedTree.{Lifetime, UseRead}
use Rattle.hir_env.specs.declared.ctx.ImplTrait.{ImplTrait}
use Rattle.hir_env.specs.declared.ctx.ImplTrait.TheVariants as becomes
use Rattle.hir_env.specs.declared.ctx.LifetimeScope.{LifetimeScope}
use Rattle.hir_env.specs.declared.ctx.LifetimeScope.TheVariants as scope
use Rattle.hir_lower_builder.specs.declared.generics.SideOutput.{SideOutput}
use Rattle.hir_lower_builder.specs.Builder.{Builder}
use Rattle.hir_lower_builder.specs.Generics.{predicates_of, unnamed_param, with_bounds}
use Rattle.hir_lower_builder.specs.Lowering.{Checked, go_on, Lowering, ◌>>=◌, ◌>>◌, add_param, argument_form, becoming, input_end}
use Rattle.hir_lower_builder.specs.Lowering.{track_down, param_numbered, param_type, pure, with_side_output, with_stored}
use Rattle.hir_lower_builder.specs.Paths.{with_alias, cut_back}
use Rattle.hir_lower_builder.specs.Types.{lower_lifetime, lower_lifetime_option, lower_uses}
use Rattle.spec_semantics.specs.Inner.{all_of, of_bound}
use Rattle.spec_data.specs.Fold.{of_use, of_uses}
use Rattle.spec_data.specs.Tracking.{of_lifetime, of_lifetime_option, one_ref}
use Rattle.thm_generics.proofs.TypeForms.{lifetime_tracks, lifetime_option_tracks, uses_track}
use Rattle.thm_logic.proofs.Logic.{longer as no_shorter}
use Rattle.thm_logic.proofs.Steps.{mark}
use Rattle.thm_type_result.proofs.Asked.{AnswersTo, Correct, Longer, Rel, longer_of, count_out_correct}
use Rattle.thm_type_result.proofs.Becoming.{path_still}
use Rattle.thm_type_result.proofs.Meaning.{held_deep}
use Rattle.thm_type_result.proofs.Weighed.{Cost, View, a_type, free, sum}
use Rattle.thm_type_result.proofs.Weighing.{Adds, adds_tracking, adds_pure, adds_then, adds_type, any_row, asked, by_predicate, whole}
use Rattle.thm_type_result.proofs.Weights as weights

-- names of lifetimes

ref_impls : (s : LifetimeScope) (l : LifetimeRef) → (one_ref s l).impls ≡ []
ref_impls scope.Nowhere (lifetime.Named n) = refl
ref_impls scope.Bound (lifetime.Named n) = refl
ref_impls scope.Input (lifetime.Named n) = refl
ref_impls scope.Projection (lifetime.Named n) = refl
ref_impls scope.Output (lifetime.Named n) = refl
ref_impls s lifetime.Static = refl
ref_impls s lifetime.Placeholder = refl
ref_impls s lifetime.Error = refl

pub lifetime_adds : {was : Cost} (l : Lifetime) → Correct (lower_lifetime l) (Adds was (λ i. was))
lifetime_adds l = adds_tracking (of_lifetime l) (ref_impls l.scope l.lifetime) (lifetime_tracks l)

option_impls : (l : Option Lifetime) → (of_lifetime_option l).impls ≡ []
option_impls None = refl
option_impls (Some l) = ref_impls l.scope l.lifetime

pub lifetime_option_adds : {was : Cost} (l : Option Lifetime) → Correct (lower_lifetime_option l) (Adds was (λ i. was))
lifetime_option_adds l = adds_tracking (of_lifetime_option l) (option_impls l) (lifetime_option_tracks l)

use_impls : (u : UseRead) → (of_use u).impls ≡ []
use_impls (tree.used_name n) = refl
use_impls (tree.used_lifetime l) = ref_impls l.scope l.lifetime

uses_impls : (us : List UseRead) → (of_uses us).impls ≡ []
uses_impls [] = refl
uses_impls (u ∷ us) = ap (λ xs. xs ++ (of_uses us).impls) (use_impls u) ∙ uses_impls us

pub uses_add : {was : Cost} (done : List UseArgRef) (us : List UseRead) → Correct (lower_uses done us) (Adds was (λ xs. was))
uses_add done us = adds_tracking (of_uses us) (uses_impls us) (uses_track done us)

-- what is noted otherwise

tracked_any : {was : Cost} (f : SideOutput → SideOutput)
    → ((n : SideOutput) → (f n).generics.where_predicates ≡ n.generics.where_predicates)
    → Correct (track_down f) (Adds was (λ u. was))
unfolding track_down
tracked_any f h = record {
  at = λ b d. record {
    paired = d;
    stays = extends_refl b.stored;
    in_final = λ final pre. any_row (longer_of (extends_refl b.stored)) (h b.tracks);
  };
}

with_tracked : {A : Type 0} {f : SideOutput → Lowering A} {R : Rel A} → ((n : SideOutput) → Correct (f n) R)
    → Correct (with_side_output f) R
unfolding with_side_output
with_tracked h = record { at = λ b d. (h b.tracks).at b d }

with_store : {A : Type 0} {f : Stored → Lowering A} {R : Rel A} → ((s : Stored) → Correct (f s) R) → Correct (with_stored f) R
unfolding with_stored
with_store h = record { at = λ b d. (h b.stored).at b d }

param_any : {was : Cost} (x : TypeOrConstParamData) → Correct (add_param x) (Adds was (λ k. was))
unfolding add_param
param_any {was = was} x = with_tracked (λ n. by (length n.generics.type_or_consts) (nat_lt (length n.generics.type_or_consts) 4294967295))
  where
    by : (k : ℕ) (room : Bool) → Correct (param_numbered x k room) (Adds was (λ k. was))
    by k true = adds_then (tracked_any _ (λ n. refl)) (λ u. adds_pure k (λ v. omega arith))
    by k false = count_out_correct

-- `impl`s

-- the predicates of one hold what its bounds do
asked_of : (v : View) (t : TypeRefId) (bs : List TypeBound) → all_of (by_predicate v) (predicates_of t bs) ≡ all_of (of_bound v.held) bs
asked_of v t [] = refl
asked_of v t (b ∷ bs) = ap (λ xs. of_bound v.held b ++ xs) (asked_of v t bs)

module _ (bs : List TypeBound) where
  abbrev bounded : Cost
  bounded v = sum v.weight (all_of (of_bound v.held) bs)

  abbrev asking : TypeRefId → Builder → Builder
  asking t b = record b { tracks = with_bounds t bs b.tracks }

  more_asked : (final : Stored) (all number : ℕ) (t : TypeRefId) (c : Builder)
      → asked final all number (asking t c) ≡ asked final all number c + bounded (whole final all number)
  more_asked final all number t c =
      let v = whole final all number in
      weights.each_append v.weight (by_predicate v) c.tracks.generics.where_predicates (predicates_of t bs)
      ∙ ap (λ xs. asked final all number c + sum v.weight xs) (asked_of v t bs)

  -- with these bounds asked of what it answers
  asked_row : {final : Stored} {b c : Builder} {t : TypeRefId} → Extends c.stored final → Longer b c → Adds free a_type final b c t
      → Adds bounded a_type final b (asking t c) t
  asked_row {final = final} {b = b} {c = c} {t = t} pre g row = record {
    asks = λ all number. let x = row.asks all number in let a = more_asked final all number t c in omega (arith, x, a);
    earlier = λ all number reach hold place d.
        let x = row.earlier all number reach hold place d in
        let n = no_shorter pre.exprs.entries in
        let m = no_shorter pre.types.entries in
        let l = no_shorter pre.pats.entries in record {
          reach = all;
          hold = held_deep final;
          place = length final.pats.entries;
          deep = omega (arith, d.all_of, g.exprs);
          inside = omega (arith, g.exprs, g.types, g.pats, n, m, l);
          placed = omega (arith, g.pats, l);
          counted = let e = x.counted in let a = more_asked final all number t c in omega (arith, e, a);
        };
  }

  asked_to : (b : Builder) (o : Checked TypeRefId) (c : Builder) → AnswersTo (Adds free a_type) b o c
      → let q = go_on o c (λ t. track_down (with_bounds t bs) >> pure t) in AnswersTo (Adds bounded a_type) b q.0 q.1
  unfolding track_down
  asked_to b (Ok t) c g = record {
    paired = g.paired;
    stays = g.stays;
    in_final = λ final pre. asked_row pre (longer_of g.stays) (g.in_final final pre);
  }
  asked_to b (Err e) c g = tt

  -- behind what it is
  asked_then : {p : Lowering TypeRefId} → Correct p (Adds free a_type)
      → Correct (p >>= (λ t. track_down (with_bounds t bs) >> pure t)) (Adds bounded a_type)
  asked_then {p = p} h = record { at = λ b d. asked_to b (p b).0 (p b).1 (h.at b d) }

argument_adds : (def : GenericDefId) (at : Pointer) (bs : List TypeBound) → Correct (argument_form def at bs) (Adds (bounded bs) a_type)
unfolding argument_form
argument_adds def at bs = adds_then (param_any unnamed_param)
    (λ k. asked_then bs (adds_type (param_type def k) (Some at) (λ v. omega arith)))

-- an error drops the bounds
pub becoming_adds : (at : Pointer) (mode : ImplTrait) (bs : List TypeBound) → Correct (becoming at mode bs) (Adds (bounded bs) a_type)
becoming_adds at becomes.Error bs = adds_type ty.Error (Some at) (λ v. omega arith)
becoming_adds at becomes.Opaque bs = adds_type (ty.ImplTrait bs) (Some at) (λ v. omega arith)
becoming_adds at (becomes.Argument def) bs = argument_adds def at bs

-- a path that is an alias in an argument

input_any : {was : Cost} → Correct input_end (Adds was (λ n. was))
unfolding input_end
input_any = with_tracked (λ n. adds_pure _ (λ v. omega arith))

cut_any : {was : Cost} (mark : ℕ) (places : List Bool) (p : Option HirPath) → Correct (cut_back mark places p) (Adds was (λ u. was))
unfolding cut_back
cut_any mark places p = with_store (λ s. tracked_any _ (path_still mark places s.lifetimes.entries p))

pub aliased_adds : (alias : Option (List Bool)) {p : Lowering (Option HirPath)} {now : Option HirPath → Cost}
    → Correct p (Adds free now) → Correct (with_alias alias p) (Adds free now)
aliased_adds None h = h
aliased_adds (Some places) h = adds_then input_any (λ n. adds_then h (λ p. adds_then (cut_any n places p)
    (λ u. adds_pure p (λ v. omega arith))))
