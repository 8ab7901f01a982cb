-- Steps that store types and lifetimes.
use Rattle.std.proofs.Common.{◌≡◌, suc, slice_get, List}
use Rattle.std.proofs.Common.{length, Option, Some, refl, arith}
use Rattle.hir_store.specs.Pointers.{Pointer}
use Rattle.hir_store.specs.Arenas.{with_entry}
use Rattle.hir_store.specs.Stored.{Stored}
use Rattle.hir_store.specs.StoreSink as store_sink
use Rattle.hir_store.specs.StoreSink.{type_id, lifetime_id}
use Rattle.hir_store.specs.declared.type_ref.TypeRef.{TypeRef}
use Rattle.hir_store.specs.declared.type_ref.LifetimeRef.{LifetimeRef}
use Rattle.hir_store.specs.declared.ids.TypeRefId.{TypeRefId}
use Rattle.hir_store.specs.declared.ids.LifetimeRefId.{LifetimeRefId}
use Rattle.hir_store.proofs.Maps.{maps_back_entry}
use Rattle.hir_store.proofs.Extending.{extends_refl}
use Rattle.thm_logic.proofs.Extended.{types_go_on, lifetimes_go_on}
use Rattle.hir_lower_builder.specs.Builder.{Builder}
use Rattle.hir_lower_builder.specs.Lowering.{alloc_type, alloc_lifetime}
use Rattle.thm_logic.proofs.Frames.{Frame}
use Rattle.thm_logic.proofs.Logic.{Mark, Correct, Answers}
use Rattle.thm_logic.proofs.Mapping.{leads_entry}
use Rattle.thm_logic.proofs.Entries.{answers_stored, correct_added, counted_more, entry_at, entry_more, has_room, paired_more, source_at}

-- a type

abbrev pub with_type : TypeRef → Option Pointer → Stored → Stored
with_type t source s = record s { types = with_entry type_id s.types t source }

pub record AllocatedType (t : TypeRef) (source : Option Pointer) (final : Stored) (ps : List Frame) (m m' : Mark) (i : TypeRefId)
    : Type 0 where
  pub number : i.0 ≡ m.types
  pub here : slice_get final.types.entries m.types ≡ Some t
  pub from : slice_get final.types.sources m.types ≡ Some source
  pub next : m'.types ≡ suc m.types
  pub entries : m'.entries ≡ suc m.entries
  pub nodes : m'.nodes ≡ m.nodes
  pub labels : m'.labels ≡ m.labels
  pub pats : m'.pats ≡ m.pats
  pub bindings : m'.bindings ≡ m.bindings
  pub lifetimes : m'.lifetimes ≡ m.lifetimes
  pub last : m.types ≡ length m.stored.types.entries
  pub names : m'.names ≡ m.names
  pub stored : m'.stored ≡ with_type t source m.stored

pub correct_alloc_type : (t : TypeRef) (source : Option Pointer) → Correct (alloc_type t source) (AllocatedType t source)
unfolding alloc_type store_sink.alloc_type
correct_alloc_type t source = correct_added (λ s. s.types) (λ s a. record s { types = a }) has_room (λ a. type_id (length a.entries))
    (λ a. with_entry type_id a t source) new extends_refl
  where
    new : (final : Stored) (ps : List Frame) (b : Builder)
        → Answers (AllocatedType t source) final ps b (record b { stored = with_type t source b.stored })
        (type_id (length b.stored.types.entries))
    new final ps b =
        let more = entry_more type_id t source b.stored.types in
        let next = counted_more more in answers_stored b (with_type t source b.stored) refl
        (λ d. record {
          exprs = d.exprs;
          labels = d.labels;
          pats = d.pats;
          types = paired_more more d.types;
          lifetimes = d.lifetimes;
        })
        (λ d w. record { types = leads_entry b.stored.types t w.types type_id source; lifetimes = w.lifetimes })
        (types_go_on b.stored _ more.continues)
        (λ d pre. record {
          number = refl;
          here = entry_at more pre.types;
          from = source_at more d.types pre.types;
          next = next;
          entries = omega (arith, next);
          nodes = refl;
          labels = refl;
          pats = refl;
          bindings = refl;
          lifetimes = refl;
          last = refl;
          names = refl;
          stored = refl;
        })

-- a lifetime

abbrev pub with_lifetime : LifetimeRef → Option Pointer → Stored → Stored
with_lifetime l source s = record s { lifetimes = with_entry lifetime_id s.lifetimes l source }

pub record AllocatedLifetime (l : LifetimeRef) (source : Option Pointer) (final : Stored) (ps : List Frame) (m m' : Mark)
    (i : LifetimeRefId) : Type 0 where
  pub number : i.0 ≡ m.lifetimes
  pub here : slice_get final.lifetimes.entries m.lifetimes ≡ Some l
  pub from : slice_get final.lifetimes.sources m.lifetimes ≡ Some source
  pub next : m'.lifetimes ≡ suc m.lifetimes
  pub entries : m'.entries ≡ m.entries
  pub nodes : m'.nodes ≡ m.nodes
  pub labels : m'.labels ≡ m.labels
  pub pats : m'.pats ≡ m.pats
  pub bindings : m'.bindings ≡ m.bindings
  pub types : m'.types ≡ m.types
  pub last : m.lifetimes ≡ length m.stored.lifetimes.entries
  pub names : m'.names ≡ m.names
  pub stored : m'.stored ≡ with_lifetime l source m.stored

pub correct_alloc_lifetime : (l : LifetimeRef) (source : Option Pointer) → Correct (alloc_lifetime l source) (AllocatedLifetime l source)
unfolding alloc_lifetime store_sink.alloc_lifetime
correct_alloc_lifetime l source = correct_added (λ s. s.lifetimes) (λ s a. record s { lifetimes = a }) has_room
    (λ a. lifetime_id (length a.entries)) (λ a. with_entry lifetime_id a l source) new extends_refl
  where
    new : (final : Stored) (ps : List Frame) (b : Builder)
        → Answers (AllocatedLifetime l source) final ps b (record b { stored = with_lifetime l source b.stored })
        (lifetime_id (length b.stored.lifetimes.entries))
    new final ps b =
        let more = entry_more lifetime_id l source b.stored.lifetimes in
        answers_stored b (with_lifetime l source b.stored) refl
        (λ d. record {
          exprs = d.exprs;
          labels = d.labels;
          pats = d.pats;
          types = d.types;
          lifetimes = paired_more more d.lifetimes;
        })
        (λ d w. record {
          types = w.types;
          lifetimes = maps_back_entry (λ i. i.0) lifetime_id (λ n. refl) b.stored.lifetimes l d.lifetimes w.lifetimes source;
        })
        (lifetimes_go_on b.stored _ more.continues)
        (λ d pre. record {
          number = refl;
          here = entry_at more pre.lifetimes;
          from = source_at more d.lifetimes pre.lifetimes;
          next = counted_more more;
          entries = refl;
          nodes = refl;
          labels = refl;
          pats = refl;
          bindings = refl;
          types = refl;
          last = refl;
          names = refl;
          stored = refl;
        })
