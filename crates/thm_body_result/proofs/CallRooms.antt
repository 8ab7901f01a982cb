-- How much macro calls take.
use Rattle.std.proofs.Common.{arith, ◌≡◌, refl, ap, ℕ, suc, ◌-◌, length, Ok, Err}
use Rattle.hir_store.specs.Pointers.{Pointer}
use Rattle.hir_store.specs.StoreSink as store_sink
use Rattle.hir_store.specs.StoreSink.{pat_id, type_id}
use Rattle.hir_store.specs.declared.ids.PatId.{PatId}
use Rattle.hir_store.specs.declared.ids.TypeRefId.{TypeRefId}
use Rattle.indexmap.specs.IndexMap.{insert_entry}
use Rattle.hir_store.specs.Pointers.{same_pointer}
use Rattle.hir_env.specs.ResolvedTree.{Called, Gone}
use Rattle.hir_lower_builder.specs.Builder.{Builder}
use Rattle.hir_lower_builder.specs.Calls.{track_gone, emitted}
use Rattle.hir_lower_builder.specs.Lowering.{Checked, go_on, Lowering, ◌>>=◌, pure, point_pat, point_type}
use Rattle.thm_logic.proofs.Calls.{only_gone, only_emitted, pointing_pat, pointing_type}
use Rattle.thm_body_result.specs.Size.{Size, a_pat_call, a_type_call, nothing}
use Rattle.thm_body_result.specs.Size.{◌∪◌}
use Rattle.thm_body_result.proofs.LastStored.{EndsAt, LastPat, LastType, in_pats, in_types}
use Rattle.thm_body_result.proofs.Owners.{no_owners}
use Rattle.thm_body_result.proofs.Rooms.{Takes, takes_only}
use Rattle.thm_body_result.proofs.Emissions.{Emits, Emitted}
use Rattle.thm_body_result.proofs.Took.{Room, Took, grew_none, no_sources, short_first, still, took_then, unnamed}

pub takes_emitted : (c : Called) → Takes nothing (emitted c)
takes_emitted c = takes_only (only_emitted c)

pub takes_gone : (why : Gone) → Takes nothing (track_gone why)
takes_gone why = takes_only (only_gone why)

-- the node of a call leads to the last

pub before_one : (n k : ℕ) → suc k ≡ n → k ≡ n - 1
before_one n k e = omega (arith, e)

pats_called : (b : Builder) (at : Pointer) (i : PatId) → suc i.0 ≡ length b.stored.pats.entries
    → Took (a_pat_call at) b (record b { stored = pointing_pat at i b.stored })
pats_called b at i e = record {
  exprs = still b.stored.exprs refl;
  labels = still b.stored.labels refl;
  bindings = grew_none refl refl;
  pats = grew_none refl refl;
  types = still b.stored.types refl;
  lifetimes = still b.stored.lifetimes refl;
  paired = λ d. record { exprs = d.exprs; labels = d.labels; pats = d.pats; types = d.types; lifetimes = d.lifetimes };
  pat_sources = no_sources b.stored.pats refl;
  pat_mappings = ap (λ n. insert_entry same_pointer b.stored.pats.map at (pat_id n)) (before_one (length b.stored.pats.entries) i.0 e);
  target_mappings = refl;
  type_sources = no_sources b.stored.types refl;
  lifetime_sources = no_sources b.stored.lifetimes refl;
  type_mappings = refl;
  pat_leads = refl;
  type_leads = refl;
  names = unnamed refl;
  params = unnamed refl;
  as_many = refl;
  owners = λ h. no_owners b.stored.bindings.owners refl;
}

types_called : (b : Builder) (at : Pointer) (i : TypeRefId) → suc i.0 ≡ length b.stored.types.entries
    → Took (a_type_call at) b (record b { stored = pointing_type at i b.stored })
types_called b at i e = record {
  exprs = still b.stored.exprs refl;
  labels = still b.stored.labels refl;
  bindings = grew_none refl refl;
  pats = still b.stored.pats refl;
  types = grew_none refl refl;
  lifetimes = still b.stored.lifetimes refl;
  paired = λ d. record { exprs = d.exprs; labels = d.labels; pats = d.pats; types = d.types; lifetimes = d.lifetimes };
  pat_sources = no_sources b.stored.pats refl;
  pat_mappings = refl;
  target_mappings = refl;
  type_sources = no_sources b.stored.types refl;
  lifetime_sources = no_sources b.stored.lifetimes refl;
  type_mappings = ap (λ n. insert_entry same_pointer b.stored.types.map at (type_id n)) (before_one (length b.stored.types.entries) i.0 e);
  pat_leads = refl;
  type_leads = refl;
  names = unnamed refl;
  params = unnamed refl;
  as_many = refl;
  owners = λ h. no_owners b.stored.bindings.owners refl;
}

-- where the answer is the last pattern
pub emits_called : (at : Pointer) {A : Type 0} (pat_in : A → PatId) {n : Size} {P : A → Type 0} {p : Lowering A} → LastPat pat_in p
    → Emits n P p → Emits (n ∪ a_pat_call at) P (p >>= (λ r. point_pat at (pat_in r) >>= (λ v. pure r)))
unfolding point_pat store_sink.point_pat
emits_called at {A = A} pat_in {n = n} {P = P} {p = p} l h =
    record { emits = λ b d. by b (p b).0 (p b).1 (l.last b) (h.emits b d) }
  where
    by : (b : Builder) (o : Checked A) (c : Builder) → EndsAt in_pats pat_in o c → Emitted n P b o c
        → Emitted (n ∪ a_pat_call at) P b (go_on o c (λ r. point_pat at (pat_in r) >>= (λ v. pure r))).0
        (go_on o c (λ r. point_pat at (pat_in r) >>= (λ v. pure r))).1
    by b (Ok r) c e x = (took_then b c _ x.0 (pats_called c at (pat_in r) e), x.1)
    by b (Err f) c e x = short_first n (a_pat_call at) b x

pub takes_called_type : (at : Pointer) {n : Size} {p : Lowering TypeRefId} → LastType p → Takes n p
    → Takes (n ∪ a_type_call at) (p >>= (λ r. point_type at r >>= (λ v. pure r)))
unfolding point_type store_sink.point_type
takes_called_type at {n = n} {p = p} l h = record { takes = λ b d. by b (p b).0 (p b).1 (l.last b) (h.takes b d) }
  where
    by : (b : Builder) (o : Checked TypeRefId) (c : Builder) → EndsAt in_types (λ i. i) o c → Room n b o c
        → Room (n ∪ a_type_call at) b (go_on o c (λ r. point_type at r >>= (λ v. pure r))).0
        (go_on o c (λ r. point_type at r >>= (λ v. pure r))).1
    by b (Ok r) c e x = took_then b c _ x (types_called c at r e)
    by b (Err f) c e x = short_first n (a_type_call at) b x

-- forms
