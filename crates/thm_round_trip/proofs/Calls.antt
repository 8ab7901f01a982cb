-- What a macro call becomes reads back as what the call stands for.
use Rattle.std.proofs.Common.{refl, arith, List, Option, Some, None}
use Rattle.hir_store.specs.Pointers.{Pointer}
use Rattle.hir_store.specs.declared.hir.Expr.TheVariants as hir
use Rattle.hir_store.specs.declared.ids.PatId.{PatId}
use Rattle.hir_store.specs.declared.type_ref.TypeRef.TheVariants as ty
use Rattle.hir_env.specs.ResolvedTree as tree
use Rattle.hir_env.specs.ResolvedTree.{Called}
use Rattle.hir_env.specs.NodeMap.{Site}
use Rattle.hir_env.specs.ResolveCtx.{site_of}
use Rattle.hir_lower_builder.specs.Calls.{emitted}
use Rattle.hir_lower_builder.specs.Forms.{ExprSteps, called_form, uncalled_form}
use Rattle.hir_lower_builder.specs.Lowering.{Lowering, ◌>>=◌, ◌>>◌, pure}
use Rattle.hir_lower_builder.specs.Pats.{Table, barred_pat_form, called_pat_form, uncalled_pat}
use Rattle.hir_lower_builder.specs.Targets.{called_target}
use Rattle.hir_lower_builder.specs.Types.{TypeSteps, called_type_form, uncalled_type}
use Rattle.thm_logic.proofs.Calls.{correct_point_pat, correct_point_target, correct_point_type, correct_emitted}
use Rattle.thm_logic.proofs.Steps.{Correct, Rel, correct_as, correct_bind, correct_pure, correct_report}
use Rattle.spec_data.specs.Data as datum
use Rattle.spec_data.specs.Data.{PatData, TypeData, absent_pattern, typed}
use Rattle.spec_data.specs.Uses.{FirstUses}
use Rattle.spec_data.specs.Written.{call_source}
use Rattle.thm_round_trip.proofs.Layers.{Layer, Reads, a_type, type0}
use Rattle.thm_round_trip.proofs.Pats.{PatFine, PatIs, PushedNamed, a_pat}
use Rattle.thm_round_trip.proofs.Sites as sites
use Rattle.thm_round_trip.proofs.Sites.{From}
use Rattle.thm_round_trip.proofs.TypePats.{missing_pattern_reads}
use Rattle.thm_round_trip.proofs.Types.{error_type_reads}

-- behind what is told of a call
emitted_reads : {A D : Type 0} {l : Layer A D} {x : D} (c : Called) {p : Lowering A} → Correct p (Reads l x)
    → Correct (emitted c >> p) (Reads l x)
emitted_reads c h = correct_as (correct_bind (correct_emitted c) (λ u. h)) (λ final ps m m' a g row. record { is = row.second.is })

-- in front of what stores no type and no pattern
reads_before : {A B D : Type 0} {l : Layer A D} {x : D} {p : Lowering A} {q : A → Lowering B} {R : A → Rel B} → Correct p (Reads l x)
    → ((a : A) → Correct (q a) (R a)) → Correct (p >>= (λ a. q a >>= (λ b. pure a))) (Reads l x)
reads_before h k = correct_as (correct_bind h (λ a. correct_bind (k a) (λ b. correct_pure a)))
    (λ final ps m m' a g row. rw row.second.second.is (record { is = λ d le. row.first.is d (omega (le, row.after.entries, arith)) }))

-- the same of a pattern, and of a list of them
pub emitted_is : {A D : Type 0} {l : Layer A D} {x : FirstUses → D} {f : FirstUses → FirstUses} {t : Table} {p : Lowering (A × Table)}
    (c : Called) → Correct p (PatIs l x f t) → Correct (emitted c >> p) (PatIs l x f t)
emitted_is c h = correct_as (correct_bind (correct_emitted c) (λ u. h))
    (λ final ps m m' r g row. record { uses = row.second.uses; reads = row.second.reads })

pub emitted_named : {A D : Type 0} {l : Layer (List A) D} {x : FirstUses → D} {f : FirstUses → FirstUses} {t : Table} {done : List A}
    {p : Lowering (List A × Table)} (c : Called) → Correct p (PushedNamed done l x f t)
    → Correct (emitted c >> p) (PushedNamed done l x f t)
emitted_named c h = correct_as (correct_bind (correct_emitted c) (λ u. h)) (λ final ps m m' r g row. let s = row.second in
    record { new = s.new; is = s.is; rel = record { uses = s.rel.uses; reads = s.rel.reads } })

module _ (at : Pointer) where
  pub called_type_reads : (c : Called) {x : TypeData} {t : TypeSteps} → Correct t (Reads a_type x)
      → Correct (called_type_form at c t) (Reads a_type x)
  unfolding called_type_form
  called_type_reads c h = emitted_reads c (reads_before h (λ i. correct_point_type at i))

  pub uncalled_type_reads : (c : Called) → Correct (uncalled_type at c) (Reads a_type (typed (call_source at c) datum.error_shape))
  uncalled_type_reads tree.callless = type0 ty.Error (Some at) (λ final r. refl)
  uncalled_type_reads c = called_type_reads c error_type_reads

  pub called_type_pat_reads : (c : Called) {x : PatData} {p : Lowering PatId} → Correct p (Reads a_pat x)
      → Correct (called_pat_form at c (λ i. i) p) (Reads a_pat x)
  unfolding called_pat_form
  called_type_pat_reads c h = emitted_reads c (reads_before h (λ i. correct_point_pat at i))

  pub uncalled_pat_reads : (c : Called) → Correct (uncalled_pat at c) (Reads a_pat absent_pattern)
  uncalled_pat_reads tree.callless = missing_pattern_reads
  uncalled_pat_reads c = called_type_pat_reads c missing_pattern_reads

  pub barred_pat_reads : Correct (barred_pat_form at) (Reads a_pat absent_pattern)
  barred_pat_reads = correct_as (correct_bind (correct_report _) (λ u. missing_pattern_reads))
      (λ final ps m m' i g row. record { is = row.second.is })

  pub called_pat_reads : (c : Called) {x : FirstUses → PatData} {f : FirstUses → FirstUses} {p : Table → Lowering (PatId × Table)}
      → PatFine a_pat p x f → PatFine a_pat (λ t. called_pat_form at c (λ r. r.0) (p t)) x f
  unfolding called_pat_form
  called_pat_reads c h t = correct_as
      (correct_bind (correct_emitted c) (λ u. correct_bind (h t) (λ r. correct_bind (correct_point_pat at r.0) (λ v. correct_pure r))))
      (λ final ps m m' r g row. let s = row.second in rw s.second.second.is (record {
        uses = s.first.uses;
        reads = λ us named d le. s.first.reads us named d (omega (le, s.after.entries, arith));
      }))

  -- where it comes from

  pub uncalled_from : (c : Called) → From (Some (site_of at)) (uncalled_form at c)
  unfolding uncalled_form
  uncalled_from c = emitted_reads c (sites.alloc_from hir.Missing (Some at))

  pub called_from : (c : Called) {x : Option Site} {e : ExprSteps} → From x e → From x (called_form at c e)
  unfolding called_form
  called_from c h = emitted_reads c (sites.paren_from at h)

-- the assignee expression by a call
pub called_target_reads : (at : Option Pointer) (c : Called) {x : PatData} {p : Lowering PatId} → Correct p (Reads a_pat x)
    → Correct (called_target at c p) (Reads a_pat x)
called_target_reads None c h = emitted_reads c h
called_target_reads (Some at) c h = emitted_reads c (reads_before h (λ i. correct_point_target at i))
