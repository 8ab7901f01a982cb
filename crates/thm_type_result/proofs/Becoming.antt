-- What an `impl` in an argument becomes: it is a parameter, which names nothing, and what is asked of it names what its bounds do.
use Rattle.std.proofs.Common.{◌≡◌, refl, ap, arith, ℕ, nat_lt, length, Bool, true, false, List, [], ◌∷◌, ◌++◌, Option, Some, None}
use Rattle.std.proofs.Common.{Ok, Err}
use Rattle.hir_store.specs.Pointers.{Pointer}
use Rattle.hir_store.specs.Stored.{Stored}
use Rattle.hir_store.specs.declared.generics.TypeOrConstParamData.{TypeOrConstParamData}
use Rattle.hir_store.specs.declared.ids.GenericDefId.{GenericDefId}
use Rattle.hir_store.specs.declared.ids.TypeRefId.{TypeRefId}
use Rattle.hir_store.specs.declared.path.GenericArgs.{GenericArgs}
use Rattle.hir_store.specs.declared.path.Path.{Path as HirPath}
use Rattle.hir_store.specs.declared.type_ref.LifetimeRef.{LifetimeRef}
use Rattle.hir_store.specs.declared.type_ref.TypeBound.{TypeBound}
use Rattle.hir_store.specs.declared.type_ref.TypeRef.TheVariants as ty
use Rattle.hir_env.specs.declared.ctx.ImplTrait.{ImplTrait}
use Rattle.hir_env.specs.declared.ctx.ImplTrait.TheVariants as becomes
use Rattle.hir_lower_builder.specs.declared.generics.SideOutput.{SideOutput}
use Rattle.hir_lower_builder.specs.Builder.{Builder}
use Rattle.hir_lower_builder.specs.Generics.{cut_args, predicates_of, unnamed_param, with_bounds}
use Rattle.hir_lower_builder.specs.Lowering.{Checked, go_on, Lowering, ◌>>=◌, ◌>>◌, add_param, argument_form, becoming, input_end}
use Rattle.hir_lower_builder.specs.Lowering.{track_down, param_numbered, param_type, pure, with_side_output, with_stored}
use Rattle.hir_lower_builder.specs.Paths.{with_alias, cut_back, cut_path, last_args}
use Rattle.thm_type_result.specs.Named.{Look}
use Rattle.thm_type_result.specs.Reached.{of_bound, of_each}
use Rattle.thm_type_result.proofs.Adding.{Numbers, look, none}
use Rattle.thm_type_result.proofs.Asked.{Adds, AnswersTo, Correct, Quiet, adds_pure, adds_quiet, adds_refused, adds_then, adds_type}
use Rattle.thm_type_result.proofs.Asked.{asked_by}
use Rattle.thm_type_result.proofs.Asked.{Longer, longer, longer_of, quiet_tracked}
use Rattle.thm_type_result.proofs.Counted.{times}
use Rattle.thm_type_result.proofs.Naming.{quiet_pure, quiet_then}
use Rattle.thm_type_result.proofs.Numbers.{each_append}

-- the predicates of one name what its bounds do
asked_of : (l : Look) (t : TypeRefId) (bs : List TypeBound) → of_each (asked_by l) (predicates_of t bs) ≡ of_each (of_bound l.types) bs
asked_of l t [] = refl
asked_of l t (b ∷ bs) = ap (λ ks. of_bound l.types b ++ ks) (asked_of l t bs)

module _ (bs : List TypeBound) where
  abbrev bounded : Numbers
  bounded l = of_each (of_bound l.types) bs

  abbrev asking : TypeRefId → Builder → Builder
  asking t b = record b { tracks = with_bounds t bs b.tracks }

  -- with these bounds asked of what it answers
  asked_row : {final : Stored} {b c : Builder} {t : TypeRefId} → Longer b c → Adds none (λ i l. l.types i) final b c t
      → Adds bounded (λ i l. l.types i) final b (asking t c) t
  asked_row {final = final} {c = c} {t = t} g row = record {
    bound = λ lo le u w. let x = row.bound lo le tt tt in record { known = tt; named = tt; made = x.made };
    grown = row.grown;
    asks = λ l k.
        let x = row.asks l k in
        let a = each_append (asked_by l) c.tracks.generics.where_predicates (predicates_of t bs) k in omega (arith, x, a);
    earlier = λ s d all le le'.
        let x = row.earlier s d all le le' in record {
          depth = all;
          deep = let far = longer s g in omega (arith, le', far);
          counted = λ k.
              let l = look s final all in
              let e = x.counted k in
              let a = each_append (asked_by l) c.tracks.generics.where_predicates (predicates_of t bs) k in
              let o = ap (times k) (asked_of l t bs) in omega (arith, e, a, o);
        };
  }

  asked_to : (p : Lowering TypeRefId) (b : Builder) (o : Checked TypeRefId) (c : Builder) → AnswersTo (Adds none (λ i l. l.types i)) b o c
      → let q = go_on o c (λ t. track_down (with_bounds t bs) >> pure t) in AnswersTo (Adds bounded (λ i l. l.types i)) b q.0 q.1
  unfolding track_down
  asked_to p b (Ok t) c g = record {
    paired = g.paired;
    stays = g.stays;
    in_final = λ final pre. asked_row (longer_of g.stays) (g.in_final final pre);
  }
  asked_to p b (Err e) c g = tt

  -- behind what it is
  asked_then : {p : Lowering TypeRefId} → Correct p (Adds none (λ i l. l.types i))
      → Correct (p >>= (λ t. track_down (with_bounds t bs) >> pure t)) (Adds bounded (λ i l. l.types i))
  asked_then {p = p} h = record { at = λ b d. asked_to p b (p b).0 (p b).1 (h.at b d) }

pub with_tracked : {A : Type 0} {f : SideOutput → Lowering A} {was : Numbers} {now : A → Numbers}
    → ((n : SideOutput) → Correct (f n) (Adds was now))
    → Correct (with_side_output f) (Adds was now)
unfolding with_side_output
with_tracked h = record { at = λ b d. (h b.tracks).at b d }

pub param_quiet : (x : TypeOrConstParamData) → Correct (add_param x) Quiet
unfolding add_param
param_quiet x = with_tracked (λ n. by (length n.generics.type_or_consts) (nat_lt (length n.generics.type_or_consts) 4294967295))
  where
    by : (k : ℕ) (room : Bool) → Correct (param_numbered x k room) Quiet
    by k true = quiet_then (quiet_tracked _ (λ n. refl)) (λ u. quiet_pure k)
    by k false = adds_refused

argument_adds : (def : GenericDefId) (at : Pointer) (bs : List TypeBound)
    → Correct (argument_form def at bs) (Adds (bounded bs) (λ i l. l.types i))
unfolding argument_form
argument_adds def at bs = adds_then (adds_quiet (param_quiet unnamed_param))
    (λ k. asked_then bs (adds_type (param_type def k) (Some at) (λ l n. omega arith)))

-- an error drops the bounds
pub becoming_adds : (at : Pointer) (mode : ImplTrait) (bs : List TypeBound)
    → Correct (becoming at mode bs) (Adds (bounded bs) (λ i l. l.types i))
becoming_adds at becomes.Error bs = adds_type ty.Error (Some at) (λ l k. omega arith)
becoming_adds at becomes.Opaque bs = adds_type (ty.ImplTrait bs) (Some at) (λ l k. omega arith)
becoming_adds at (becomes.Argument def) bs = argument_adds def at bs

-- a path that is an alias in an argument

input_quiet : Correct input_end Quiet
unfolding input_end
input_quiet = with_tracked (λ n. quiet_pure _)

cut_still : (mark : ℕ) (places : List Bool) (ls : List LifetimeRef) (a : Option GenericArgs) (n : SideOutput)
    → (cut_args mark places ls a n).generics.where_predicates ≡ n.generics.where_predicates
cut_still mark places ls None n = refl
cut_still mark places ls (Some a) n = refl

pub path_still : (mark : ℕ) (places : List Bool) (ls : List LifetimeRef) (p : Option HirPath) (n : SideOutput)
    → (cut_path mark places ls p n).generics.where_predicates ≡ n.generics.where_predicates
path_still mark places ls None n = refl
path_still mark places ls (Some p) n = cut_still mark places ls (last_args p) n

with_store : {A : Type 0} {f : Stored → Lowering A} {was : Numbers} {now : A → Numbers} → ((s : Stored) → Correct (f s) (Adds was now))
    → Correct (with_stored f) (Adds was now)
unfolding with_stored
with_store h = record { at = λ b d. (h b.stored).at b d }

cut_quiet : (mark : ℕ) (places : List Bool) (p : Option HirPath) → Correct (cut_back mark places p) Quiet
unfolding cut_back
cut_quiet mark places p = with_store (λ s. quiet_tracked _ (path_still mark places s.lifetimes.entries p))

pub aliased_adds : (alias : Option (List Bool)) {p : Lowering (Option HirPath)} {now : Option HirPath → Numbers}
    → Correct p (Adds none now) → Correct (with_alias alias p) (Adds none now)
aliased_adds None h = h
aliased_adds (Some places) h = adds_then input_quiet (λ n. adds_then h (λ p. adds_then (adds_quiet (cut_quiet n places p))
    (λ u. adds_pure p (λ l k. omega arith))))
