-- What lowering stores for a pattern reads back as what is written: by induction, a line for each kind.
use Rattle.std.proofs.Common.{◌≡◌, ◌⊎◌, inl, inr, refl, sym, subst, List, [], Some, None, arith}
use Rattle.std.specs.Prelude.{if◌then◌else◌, length, ◌+◌, suc, option_map}
use Rattle.hir_store.specs.Pointers.{Pointer}
use Rattle.hir_store.specs.Stored.{Stored, store_of, map_of}
use Rattle.hir_store.specs.declared.ids.PatId.{PatId}
use Rattle.hir_store.specs.declared.ids.CfgId.{CfgId}
use Rattle.hir_store.specs.declared.pat.Pat.TheVariants as pat
use Rattle.hir_store.specs.declared.pat.RecordFieldPat.{RecordFieldPat}
use Rattle.hir_env.specs.ResolvedTree as tree
use Rattle.hir_env.specs.ResolvedTree.{Pat, OptionPat, Pats, PatFields, PatField, Side}
use Rattle.hir_lower_builder.specs.Lowering.{◌>>=◌}
use Rattle.hir_lower_builder.specs.Lower as lower
use Rattle.hir_lower_builder.specs.Pats as forms
use Rattle.hir_lower_builder.specs.Pats.{Table, no_names, Elements, no_elements}
use Rattle.thm_logic.proofs.Frames.{Frame}
use Rattle.thm_logic.proofs.Steps.{Mark, Correct, correct_bind, correct_as, correct_pure, correct_in_store, correct_report}
use Rattle.thm_logic.proofs.Calls.{correct_emitted}
use Rattle.thm_logic.proofs.PatAny.{settle_any}
use Rattle.thm_logic.proofs.PatSteps.{correct_alloc_pat}
use Rattle.spec_data.specs.Data as datum
use Rattle.spec_data.specs.Data.{PatData}
use Rattle.spec_data.specs.Patterns as written
use Rattle.spec_data.specs.Patterns.{written_pat}
use Rattle.spec_data.specs.Reading.{stored_pat}
use Rattle.spec_data.specs.Written.{path_of}
use Rattle.thm_round_trip.proofs.Calls as calls
use Rattle.thm_round_trip.proofs.Layers.{Reads}
use Rattle.thm_round_trip.proofs.Names.{none_named as nothing_named}
use Rattle.thm_round_trip.proofs.Pats as kinds
use Rattle.thm_round_trip.proofs.Pats.{a_pat, maybe_pat, many_pats, many_fields, maybe_side, PatFine, PushedNamed, pat_stored}
use Rattle.thm_round_trip.proofs.Pats.{none_named, all_named}
use Rattle.thm_round_trip.proofs.PatParts as parts
use Rattle.thm_round_trip.proofs.PatParts.{ElementsAre, maybe_field}
use Rattle.thm_logic.proofs.TupleDots.{IsDots, IsPart, dots_or_part}
use Rattle.thm_round_trip.proofs.Tree.{path_reads}

side_reads : (s : Side) → Correct (lower.lower_side s) (Reads maybe_side (written.side_data s))
side_reads tree.no_side = parts.no_side_reads
side_reads (tree.literal_side at l) = parts.literal_side_reads at l
side_reads (tree.name_side at n _) = parts.name_side_reads at n
side_reads (tree.path_side at p) = parts.path_side_reads (path_of p) at (path_reads p)
side_reads tree.other_side = parts.no_side_reads

-- a part of a tuple, or two dots
element_before : (p : Pat) (ps : Pats) → IsDots p ⊎ IsPart p
    → PatFine a_pat (lower.lower_pat p) (written.pattern_data p) (written.uses_after p)
    → ((done : Elements) (t : Table) → Correct (lower.lower_elements done ps t)
    (ElementsAre done (written.tuple_parts_data ps) (written.dots_among ps) (written.uses_after_each ps) t)) → (done : Elements) (t : Table)
    → Correct (lower.lower_elements done (tree.more_pats p ps) t)
    (ElementsAre done (written.tuple_parts_data (tree.more_pats p ps)) (written.dots_among (tree.more_pats p ps))
    (written.uses_after_each (tree.more_pats p ps)) t)
element_before p ps (inl is) h hs done t = correct_as
    (subst (λ b. Correct (forms.element_form b done (lower.lower_pat p) t >>= (λ r. lower.lower_elements r.0 ps r.1))
    (ElementsAre done (written.tuple_parts_data ps) (Some 0) (written.uses_after_each ps) t))
    (sym is.0) (parts.dots_are (lower.lower_pat p) hs done t))
    (λ final ps' m m' r g row. subst (λ b. ElementsAre done
    (λ us. if b then written.tuple_parts_data ps us
    else datum.more_patterns (written.pattern_data p us) (written.tuple_parts_data ps (written.uses_after p us)))
    (if b then Some 0 else option_map suc (written.dots_among ps))
    (written.uses_after_each (tree.more_pats p ps)) t final ps' m m' r) (sym is.1) (record {
      new = row.new;
      ids = row.ids;
      place = row.place;
      rel = record {
        uses = λ us named. rw (is.2 us) (row.rel.uses us named);
        reads = row.rel.reads;
      };
    }))
element_before p ps (inr is) h hs done t = correct_as
    (subst (λ b. Correct (forms.element_form b done (lower.lower_pat p) t >>= (λ r. lower.lower_elements r.0 ps r.1))
    (ElementsAre done
    (λ us. datum.more_patterns (written.pattern_data p us) (written.tuple_parts_data ps (written.uses_after p us)))
    (option_map suc (written.dots_among ps)) (λ us. written.uses_after_each ps (written.uses_after p us)) t))
    (sym is.0) (parts.part_is h hs done t))
    (λ final ps' m m' r g row. subst (λ b. ElementsAre done
    (λ us. if b then written.tuple_parts_data ps us
    else datum.more_patterns (written.pattern_data p us) (written.tuple_parts_data ps (written.uses_after p us)))
    (if b then Some 0 else option_map suc (written.dots_among ps))
    (written.uses_after_each (tree.more_pats p ps)) t final ps' m m' r) (sym is.1)
    (record { new = row.new; ids = row.ids; place = row.place; rel = row.rel }))

disabled_field_reads : (at : Pointer) (by : CfgId) (f : PatField)
    → PatFine maybe_field (lower.lower_pat_field (tree.disabled_pat_field at by f)) (λ us fs. fs) (λ us. us)
disabled_field_reads at by f t = correct_as (correct_bind (correct_report _) (λ u. parts.no_field_reads t))
    (λ final ps m m' r g row. record { uses = row.second.uses; reads = row.second.reads })

mutual
  pub pat_reads : (p : Pat) → PatFine a_pat (lower.lower_pat p) (written.pattern_data p) (written.uses_after p)
  pat_reads (tree.leaf_pat at form) = kinds.leaf_reads at form
  pat_reads (tree.bind_pat at u w sub) = kinds.bind_reads at u w (subpattern_reads sub)
  pat_reads (tree.name_pat at u _) = kinds.plain_reads at (forms.name_pat_of u) (λ final r. refl)
  pat_reads (tree.path_pat at p) = kinds.path_reads (path_of p) at (path_reads p)
  pat_reads (tree.tuple_struct_pat at p comma ps) =
      parts.tuple_struct_reads (path_of p) at comma (path_reads p) (elements_read ps no_elements)
  pat_reads (tree.tuple_pat at comma ps) = parts.tuple_reads at comma (elements_read ps no_elements)
  pat_reads (tree.record_pat at p fs dots) =
      parts.record_reads (path_of p) at dots (path_reads p) (λ t. all_named (fields_read fs [] t))
  pat_reads (tree.or_pat at ps) = alternatives_read at ps
  pat_reads (tree.paren_pat at p) = pat_part_reads p
  pat_reads (tree.macro_pat at c tree.no_pat) = kinds.alone_reads (calls.uncalled_pat_reads at c)
  pat_reads (tree.macro_pat at c (tree.some_pat p)) = calls.called_pat_reads at c (pat_reads p)
  pat_reads (tree.barred_pat at) = kinds.alone_reads (calls.barred_pat_reads at)
  pat_reads (tree.slice_pat at before middle behind) = parts.slice_reads at (λ t. all_named (pats_read before [] t))
      (subpattern_reads middle) (λ t. all_named (pats_read behind [] t))
  pat_reads (tree.over_pat at form p) = kinds.over_reads at form (pat_part_reads p)
  pat_reads (tree.literal_pat at node l) = parts.literal_reads at node l
  pat_reads (tree.range_pat at op start end) = parts.range_reads at op (side_reads start) (side_reads end)

  pat_part_reads : (p : OptionPat) → PatFine a_pat (lower.pat_part p) (written.pattern_part_data p) (written.uses_after_part p)
  pat_part_reads tree.no_pat = kinds.absent_reads
  pat_part_reads (tree.some_pat p) = pat_reads p

  subpattern_reads : (p : OptionPat) → PatFine maybe_pat (lower.present_pat p) (written.subpattern_data p) (written.uses_after_part p)
  subpattern_reads tree.no_pat = kinds.no_pat_reads
  subpattern_reads (tree.some_pat p) = kinds.some_pat_reads (pat_reads p)

  alternatives_read : (at : Pointer) (ps : Pats) → PatFine a_pat (lower.lower_alternatives at ps)
      (λ us. written.alternatives_data at (written.patterns_data ps us)) (written.uses_after_each ps)
  alternatives_read at tree.no_pats = kinds.plain_reads at (pat.Or []) (λ final r. refl)
  alternatives_read at (tree.more_pats p ps) = parts.or_reads at (pat_reads p) (later_read ps)
  alternatives_read at (tree.tracked_pats called ps) = λ t. calls.emitted_is called (alternatives_read at ps t)

  pats_read : (ps : Pats) (done : List PatId) (t : Table) → Correct (lower.lower_pats done ps t)
      (PushedNamed done many_pats (written.patterns_data ps) (written.uses_after_each ps) t)
  pats_read tree.no_pats done t = none_named many_pats datum.no_patterns (λ final r. refl) done t
  pats_read (tree.more_pats p ps) done t = kinds.more_named (pat_reads p) (pats_read ps) done t
  pats_read (tree.tracked_pats called ps) done t = calls.emitted_named called (pats_read ps done t)

  later_read : (ps : Pats) (done : List PatId) (t : Table) → Correct (lower.lower_later ps done t)
      (PushedNamed done many_pats (written.patterns_data ps) (written.uses_after_each ps) t)
  later_read tree.no_pats done t = none_named many_pats datum.no_patterns (λ final r. refl) done t
  later_read (tree.more_pats p ps) done t = parts.later_named (pat_reads p) (later_read ps) done t
  later_read (tree.tracked_pats called ps) done t = calls.emitted_named called (later_read ps done t)

  elements_read : (ps : Pats) (done : Elements) (t : Table) → Correct (lower.lower_elements done ps t)
      (ElementsAre done (written.tuple_parts_data ps) (written.dots_among ps) (written.uses_after_each ps) t)
  elements_read tree.no_pats done t = parts.no_elements_are done t
  elements_read (tree.more_pats p ps) done t = element_before p ps (dots_or_part p) (pat_reads p) (elements_read ps) done t
  elements_read (tree.tracked_pats called ps) done t = correct_as (correct_bind (correct_emitted called) (λ u. elements_read ps done t))
      (λ final ps' m m' r g row. let s = row.second in record {
        new = s.new;
        ids = s.ids;
        place = s.place;
        rel = record { uses = s.rel.uses; reads = s.rel.reads };
      })

  fields_read : (fs : PatFields) (done : List RecordFieldPat) (t : Table) → Correct (lower.lower_pat_fields done fs t)
      (PushedNamed done many_fields (written.fields_data fs) (written.uses_after_fields fs) t)
  fields_read tree.no_pat_fields done t = none_named many_fields datum.no_pattern_fields (λ final r. refl) done t
  fields_read (tree.more_pat_fields (tree.disabled_pat_field at by f) fs) done t =
      parts.more_fields_named (disabled_field_reads at by f) (fields_read fs) done t
  fields_read (tree.more_pat_fields tree.partless_pat_field fs) done t =
      parts.more_fields_named parts.no_field_reads (fields_read fs) done t
  fields_read (tree.more_pat_fields (tree.pat_field at n p) fs) done t =
      parts.more_fields_named (parts.field_reads at n (pat_reads p)) (fields_read fs) done t

-- whole patterns

-- before a top pattern no name has a use
pub top_reads : (p : OptionPat) → Correct (lower.lower_top p) (Reads a_pat (written_pat p))
unfolding forms.missing_pat
top_reads tree.no_pat = correct_as (correct_alloc_pat pat.Missing None)
    (λ final ps m m' i g row. record { is = pat_stored row (λ d le. refl) })
top_reads (tree.some_pat p) =
    correct_as (correct_bind (pat_reads p no_names) (λ r. correct_bind (settle_any r.1) (λ u. correct_pure r.0)))
    (λ final ps m m' i g row. let s = row.second in rw s.second.is (record {
      is = λ d le. row.first.reads [] (nothing_named final) d (omega (le, row.after.entries, arith));
    }))

pub record PatNow (x : PatData) (final : Stored) (ps : List Frame) (m m' : Mark) (i : PatId) : Type 0 where
  pub is : stored_pat (store_of final) (map_of final) i ≡ x

pub top_now : (p : OptionPat) → Correct (lower.lower_top p) (PatNow (written_pat p))
unfolding stored_pat
top_now p = correct_as (correct_in_store (top_reads p))
    (λ final ps m m' i g row. record { is = row.rel.is (length final.types.entries + length final.pats.entries) row.entries })
