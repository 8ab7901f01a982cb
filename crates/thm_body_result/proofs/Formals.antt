-- What is known of the parameters of a body once they are lowered.
use Rattle.std.proofs.Common.{◌≡◌, ◌∙◌, refl, sym, ap, map, Bool, true, false, List, [], ◌∷◌, ◌++◌, append-nil, append_assoc}
use Rattle.std.proofs.Common.{Option, Some, None, option_map, option_to_list, slice_get}
use Rattle.std.proofs.lemmas.List.{map-append}
use Rattle.std.proofs.lemmas.Option.{slice_get-map}
use Rattle.hir_store.specs.Bindings.{without_problem}
use Rattle.hir_store.specs.Stored.{Stored, store_of, map_of}
use Rattle.hir_store.specs.StoreSink.{Extends}
use Rattle.hir_store.specs.declared.ids.BindingId.{BindingId}
use Rattle.hir_store.specs.declared.ids.PatId.{PatId}
use Rattle.hir_store.proofs.Extending.{extends_trans}
use Rattle.hir_env.specs.ResolvedTree as tree
use Rattle.hir_env.specs.ResolvedTree.{Formal, SelfFormal}
use Rattle.spec_data.specs.Data.{PatData}
use Rattle.spec_data.specs.Reading.{stored_pat}
use Rattle.hir_lower_builder.specs.Forms.{push_some, some}
use Rattle.hir_lower_builder.specs.Lowering.{Lowering}
use Rattle.hir_lower_builder.specs.Pats.{new_binding}
use Rattle.thm_logic.proofs.Always.{Always, correct_always}
use Rattle.thm_logic.proofs.Frames.{Frame}
use Rattle.thm_logic.proofs.PatSteps.{correct_alloc_binding}
use Rattle.thm_logic.proofs.Preludes.{binding_at}
use Rattle.thm_logic.proofs.Steps.{Mark, Correct, correct_as, correct_bind, correct_pure, correct_report}
use Rattle.thm_round_trip.proofs.Params.{pats_in}
use Rattle.thm_round_trip.proofs.PatTree.{PatNow, top_now}
use Rattle.thm_round_trip.proofs.Preludes.{ReadAs}
use Rattle.thm_body_result.specs.Formals.{each_formal, lower_formal, lower_self}
use Rattle.thm_body_result.specs.Room.{formals_data}
use Rattle.thm_body_result.proofs.Knowing.{Known, Lasting, Now}

-- patterns

record FormalNow (xs : List PatData) (final : Stored) (ps : List Frame) (m m' : Mark) (o : Option PatId) : Type 0 where
  is : pats_in final (option_to_list o) ≡ xs

some_now : {p : Lowering PatId} {x : PatData} → Correct p (PatNow x) → Correct (some p) (FormalNow (x ∷ []))
some_now h = correct_as (correct_bind h (λ i. correct_pure (Some i)))
    (λ final ps m m' o g row. rw row.second.is (record { is = ap (λ d. d ∷ []) row.first.is }))

formal_now : (skipped : Bool) (f : Formal) → Correct (lower_formal skipped f) (FormalNow (formals_data skipped (f ∷ [])))
formal_now skipped (tree.disabled_formal at by) = correct_as (correct_bind (correct_report _) (λ u. correct_pure None))
    (λ final ps m m' o g row. rw row.second.is (record { is = refl }))
formal_now true (tree.formal p) = some_now (top_now tree.no_pat)
formal_now false (tree.formal p) = some_now (top_now p)

read_apart : (skipped : Bool) (f : Formal) (fs : List Formal)
    → formals_data skipped (f ∷ fs) ≡ formals_data skipped (f ∷ []) ++ formals_data skipped fs
read_apart skipped (tree.disabled_formal at by) fs = refl
read_apart true (tree.formal p) fs = refl
read_apart false (tree.formal p) fs = refl

pushed : (done : List PatId) (o : Option PatId) → push_some done o ≡ done ++ option_to_list o
pushed done None = sym (append-nil done)
pushed done (Some i) = refl

-- behind those that are lowered
pub record FormalsNow (done : List PatId) (xs : List PatData) (final : Stored) (ps : List Frame) (m m' : Mark) (ids : List PatId)
    : Type 0 where
  pub more : List PatId
  pub is : ids ≡ done ++ more
  pub reads : pats_in final more ≡ xs

pub each_now : (skipped : Bool) (done : List PatId) (fs : List Formal)
    → Correct (each_formal skipped done fs) (FormalsNow done (formals_data skipped fs))
each_now skipped done [] = correct_as (correct_pure done)
    (λ final ps m m' ids g row. record { more = []; is = row.is ∙ sym (append-nil done); reads = refl })
each_now skipped done (f ∷ fs) =
    correct_as (correct_bind (formal_now skipped f) (λ o. each_now skipped (push_some done o) fs)) (λ final ps m m' ids g row.
    let own = option_to_list row.one in
    let others = row.second in
    let read : PatId → PatData = λ p. stored_pat (store_of final) (map_of final) p in record {
      more = own ++ others.more;
      is = others.is ∙ (ap (λ ds. ds ++ others.more) (pushed done row.one) ∙ append_assoc done own others.more);
      reads = map-append read own others.more ∙ (ap (λ ds. ds ++ map read others.more) row.first.is
          ∙ (ap (λ ds. formals_data skipped (f ∷ []) ++ ds) others.reads ∙ sym (read_apart skipped f fs)));
    })

-- they read as they are written, also in each later store
pub formals_read_as : (skipped : Bool) (fs : List Formal) {final : Stored} {ps : List Frame} {m m' : Mark} {is : List PatId}
    → Always (FormalsNow [] (formals_data skipped fs)) final ps m m' is → ReadAs m'.stored is (formals_data skipped fs)
formals_read_as skipped fs row = λ later e. let now = row.always later e in ap (pats_in later) now.is ∙ now.reads

-- `self`

-- the binding of its name, where there is one, also in each later store
abbrev pub HasSelf : SelfFormal → Option BindingId → Known
HasSelf tree.no_self o s = o ≡ None
HasSelf (tree.disabled_self at by) o s = o ≡ None
HasSelf (tree.self_formal at u _) o s = (b : BindingId) × (o ≡ Some b)
    × ((later : Stored) → Extends s later → option_map without_problem (binding_at b later) ≡ Some (new_binding u))

pub self_lasts : (r : SelfFormal) (o : Option BindingId) → Lasting (HasSelf r o)
self_lasts tree.no_self o s t e h = h
self_lasts (tree.disabled_self at by) o s t e h = h
self_lasts (tree.self_formal at u w) o s t e h = (h.0, h.1, λ later f. h.2 later (extends_trans e f))

pub self_known : (r : SelfFormal) → Correct (lower_self r) (Now (HasSelf r))
self_known tree.no_self = correct_as (correct_pure None) (λ final ps m m' o g row. record { now = row.is })
self_known (tree.disabled_self at by) = correct_as (correct_bind (correct_report _) (λ u. correct_pure None))
    (λ final ps m m' o g row. record { now = row.second.is })
self_known (tree.self_formal at u w) = correct_as
    (correct_bind (correct_always (correct_alloc_binding (new_binding u))) (λ b. correct_pure (Some b)))
    (λ final ps m m' o g row. rw row.second.still (record {
      now = (
        row.one,
        row.second.is,
        λ later f. let x = row.first.always later f in
            sym (slice_get-map without_problem later.bindings.entries row.one.0)
            ∙ (ap (slice_get (map without_problem later.bindings.entries)) x.number ∙ x.here),
      );
    }))
