-- A node that is assigned to leads to the last pattern.
use Rattle.std.proofs.Common.{◌≡◌, refl, ap, suc, length, Ok, Err}
use Rattle.indexmap.specs.IndexMap.{insert_entry}
use Rattle.hir_store.specs.Pointers.{Pointer, same_pointer}
use Rattle.hir_store.specs.StoreSink as store_sink
use Rattle.hir_store.specs.StoreSink.{pat_id}
use Rattle.hir_store.specs.declared.ids.PatId.{PatId}
use Rattle.hir_lower_builder.specs.Builder.{Builder}
use Rattle.hir_lower_builder.specs.Lowering.{Checked, go_on, Lowering, ◌>>=◌, pure, point_target}
use Rattle.thm_logic.proofs.Calls.{pointing_target}
use Rattle.thm_body_result.specs.Size.{Size, a_target_mapping, ◌∪◌}
use Rattle.thm_body_result.proofs.CallRooms.{before_one}
use Rattle.thm_body_result.proofs.LastStored.{EndsAt, LastPat, in_pats}
use Rattle.thm_body_result.proofs.Owners.{no_owners}
use Rattle.thm_body_result.proofs.Rooms.{Takes}
use Rattle.thm_body_result.proofs.Took.{Room, Took, grew_none, no_sources, short_first, still, took_then, unnamed}

-- the node leads to the last

targets_pointed : (b : Builder) (at : Pointer) (i : PatId) → suc i.0 ≡ length b.stored.pats.entries
    → Took (a_target_mapping at) b (record b { stored = pointing_target at i b.stored })
targets_pointed b at i e = record {
  exprs = still b.stored.exprs refl;
  labels = still b.stored.labels refl;
  bindings = grew_none refl refl;
  pats = still b.stored.pats refl;
  types = still b.stored.types refl;
  lifetimes = still b.stored.lifetimes refl;
  paired = λ d. record { exprs = d.exprs; labels = d.labels; pats = d.pats; types = d.types; lifetimes = d.lifetimes };
  pat_sources = no_sources b.stored.pats refl;
  pat_mappings = refl;
  target_mappings = ap (λ n. insert_entry same_pointer b.stored.target_map at (pat_id n))
      (before_one (length b.stored.pats.entries) i.0 e);
  type_sources = no_sources b.stored.types refl;
  lifetime_sources = no_sources b.stored.lifetimes refl;
  type_mappings = refl;
  pat_leads = refl;
  type_leads = refl;
  names = unnamed refl;
  params = unnamed refl;
  as_many = refl;
  owners = λ h. no_owners b.stored.bindings.owners refl;
}

pub takes_pointed : (at : Pointer) {n : Size} {p : Lowering PatId} → LastPat (λ i. i) p → Takes n p
    → Takes (n ∪ a_target_mapping at) (p >>= (λ i. point_target at i >>= (λ v. pure i)))
unfolding point_target store_sink.point_target
takes_pointed at {n = n} {p = p} l h = record { takes = λ b d. by b (p b).0 (p b).1 (l.last b) (h.takes b d) }
  where
    by : (b : Builder) (o : Checked PatId) (c : Builder) → EndsAt in_pats (λ i. i) o c → Room n b o c
        → Room (n ∪ a_target_mapping at) b (go_on o c (λ i. point_target at i >>= (λ v. pure i))).0
        (go_on o c (λ i. point_target at i >>= (λ v. pure i))).1
    by b (Ok i) c e x = took_then b c _ x (targets_pointed c at i e)
    by b (Err f) c e x = short_first n (a_target_mapping at) b x
