-- What is made up reads back as made.
use Rattle.std.proofs.Common.{◌≡◌, refl, ℕ, ◌+◌, ◌≤◌, slice_get, length, List, Some, None, arith}
use Rattle.hir_binding.specs.declared.binding.BindingAnnotation.{BindingAnnotation}
use Rattle.hir_store.specs.Stored.{Stored, store_of, map_of}
use Rattle.hir_store.specs.declared.ids.BindingId.{BindingId}
use Rattle.hir_store.specs.declared.ids.LangItemId.{LangItemId}
use Rattle.hir_store.specs.declared.ids.PatId.{PatId}
use Rattle.hir_store.specs.declared.pat.Pat.TheVariants as pat
use Rattle.hir_store.specs.declared.path.Path.TheVariants.{LangItem}
use Rattle.hir_lower_builder.specs.Forms.{root_hygiene}
use Rattle.hir_lower_builder.specs.Lowering.{alloc_pat}
use Rattle.hir_lower_builder.specs.Made.{item_pat, made_bind_form, made_binding, made_path}
use Rattle.thm_logic.proofs.Frames.{Frame}
use Rattle.thm_logic.proofs.PatSteps.{correct_alloc_binding, correct_alloc_pat, correct_define}
use Rattle.thm_logic.proofs.Steps.{Mark, Correct, correct_as, correct_bind, correct_pure}
use Rattle.spec_data.specs.Data as datum
use Rattle.spec_data.specs.Data.{PatData, pat_at, item_path}
use Rattle.spec_data.specs.GeneratedNames.{generated_name}
use Rattle.spec_data.specs.Reading.{stored_pat, stored_path}
use Rattle.thm_round_trip.proofs.Layers.{Reads, within}
use Rattle.thm_round_trip.proofs.Names.{found_in}
use Rattle.thm_round_trip.proofs.Pats.{a_pat, pat_stored}

-- what nobody wrote: a name
abbrev pub made_pattern : PatData
made_pattern = pat_at None datum.generated_pattern

-- The pattern binds the name of this number, and nothing else.
pub record BindsMade (n : ℕ) (final : Stored) (p : PatId) : Type 0 where
  pub binding : BindingId
  pub here : slice_get final.pats.entries p.0 ≡ Some (pat.Bind binding None)
  pub mode : BindingAnnotation
  pub found : found_in final binding ≡ Some (made_binding mode n)

pub record MadeRead (n : ℕ) (final : Stored) (ps : List Frame) (m m' : Mark) (p : PatId) : Type 0 where
  pub binds : BindsMade n final p
  pub reads : (d : ℕ) → m'.entries ≤ d → a_pat final (within final d) p ≡ made_pattern

pub made_reads : (mode : BindingAnnotation) (n : ℕ) → Correct (made_bind_form mode n) (MadeRead n)
unfolding made_bind_form
made_reads mode n = correct_as (correct_bind (correct_alloc_binding (made_binding mode n))
    (λ i. correct_bind (correct_alloc_pat (pat.Bind i None) None) (λ p. correct_bind (correct_define i p) (λ u. correct_pure p))))
    (λ final ps m m' q g row.
    let bound = row.first in let s = row.second in let stored = s.first in let v = s.second in
    let found : found_in final row.one ≡ Some (made_binding mode n) = rw bound.number bound.here in
    rw (v.second.is, v.second.still) (record {
      binds = record { binding = row.one; here = rw stored.number stored.here; mode = mode; found = found };
      reads = λ d le. pat_stored stored (λ c ge. rw found refl) d (omega (le, v.after.entries, v.before.entries, s.after.entries, arith));
    }))

-- the pattern of an item, around one that binds a made name
pub record ItemRead (item : LangItemId) (part : PatId) (final : Stored) (ps : List Frame) (m m' : Mark) (q : PatId) : Type 0 where
  pub here : slice_get final.pats.entries q.0 ≡ Some (item_pat item part)
  pub reads : (x : PatData) → ((d : ℕ) → m.entries ≤ d → a_pat final (within final d) part ≡ x) → (d : ℕ) → m'.entries ≤ d
      → a_pat final (within final d) q
      ≡ pat_at None (datum.tuple_struct_pattern (item_path item) None (datum.more_patterns x datum.no_patterns))

pub item_reads : (item : LangItemId) (part : PatId) → Correct (alloc_pat (item_pat item part) None) (ItemRead item part)
item_reads item part = correct_as (correct_alloc_pat (item_pat item part) None)
    (λ final ps m m' q g row. record {
      here = rw row.number row.here;
      reads = λ x h. pat_stored row (λ d le. λ j.
          datum.tuple_struct_pattern (item_path item) None (datum.more_patterns (h d le j) datum.no_patterns));
    })

-- the pattern of an item by itself
pub item_path_reads : (item : LangItemId)
    → Correct (alloc_pat (pat.Path (LangItem item) root_hygiene) None)
    (Reads a_pat (pat_at None (datum.path_pattern (item_path item) root_hygiene)))
item_path_reads item = correct_as (correct_alloc_pat (pat.Path (LangItem item) root_hygiene) None)
    (λ final ps m m' q g row. record { is = pat_stored row (λ d le. refl) })

-- a made name as a path
pub made_path_read : (final : Stored) (n : ℕ) → generated_name (stored_path (store_of final) (map_of final) (made_path n)) ≡ Some n
unfolding stored_path
made_path_read final n = refl

-- read in full
pub pat_in_full : (final : Stored) (p : PatId) (x : PatData)
    → a_pat final (within final (length final.types.entries + length final.pats.entries)) p ≡ x
    → stored_pat (store_of final) (map_of final) p ≡ x
unfolding stored_pat
pat_in_full final p x h = h
