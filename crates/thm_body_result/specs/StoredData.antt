-- The data of all types and of all lifetimes that are stored, in the order in which they are: also of those that nothing reaches.
use Rattle.std.specs.Prelude.{◌≡◌, ℕ, zero, suc, List, [], ◌∷◌, ◌++◌, length}
use Rattle.hir_store.specs.Stored.{SourceMap, Store, Stored, store_of, map_of}
use Rattle.hir_store.specs.StoreSink.{Extends, lifetime_id, type_id}
use Rattle.spec_data.specs.Data.{LifetimeData, TypeData}
use Rattle.spec_data.specs.Reading.{stored_lifetime, stored_type}
use Rattle.thm_body_result.specs.Bodies.{GradingBodies}
use Rattle.thm_logic.specs.Grading.{Grading}

pub record StoredData : Type 0 where
  pub types : List TypeData
  pub lifetimes : List LifetimeData

abbrev pub no_data : StoredData
no_data = record { types = []; lifetimes = [] }

abbrev pub and_then : StoredData → StoredData → StoredData
and_then a b = record { types = a.types ++ b.types; lifetimes = a.lifetimes ++ b.lifetimes }

abbrev pub stored_data : Grading {0}
stored_data = record {
  G = StoredData;
  none = no_data;
  then' = λ a b. and_then a b;
  type_as = λ t. record { types = t ∷ []; lifetimes = [] };
  lifetime_as = λ l. record { types = []; lifetimes = l ∷ [] };
  pat_at = λ at. no_data;
  made_pat_at = λ at. no_data;
  target_mapping = λ at. no_data;
  expr = no_data;
  binding = no_data;
  fault = λ d. no_data;
  param = no_data;
  tracked = λ c. no_data;
  emitted = λ c. no_data;
  gone = λ why. no_data;
  pat_call = λ at. no_data;
  type_call = λ at. no_data;
  super = λ n. no_data;
  dots = λ n. no_data;
  def = λ k. no_data;
  jump = λ j. no_data;
  block = λ n. no_data;
  generated_name = no_data;
  yielding = λ a. a;
  looped = λ label a. a;
  labelled = λ l a. a;
  defined = λ d a. a;
  tried = λ typed a b c. and_then (and_then a b) c;
  inner = λ l a. a;
  constant = λ e a. a;
  rooted = λ e a. a;
  closure = λ a b c. and_then a (and_then b c);
  coroutine_closure = λ xs a b c. and_then a (and_then b c);
  coroutine = λ n a. a;
  owned = λ a. a;
}

-- `self`, the other parameters, and the body
abbrev pub bodies_stored : GradingBodies stored_data
bodies_stored = record { coroutine_body = λ skipped f a b c. and_then a (and_then b c) }

-- what each of the first so many is, in order
abbrev pub each_below : {X : Type 0} → ℕ → (ℕ → X) → List X
each_below zero f = []
each_below (suc n) f = each_below n f ++ f n ∷ []

-- what all types that are stored by then read back as in a later store, and all lifetimes
abbrev pub types_in : Stored → Stored → List TypeData
types_in later by = each_below (length by.types.entries) (λ n. stored_type (store_of later) (map_of later) (type_id n))

abbrev pub lifetimes_in : Stored → Stored → List LifetimeData
lifetimes_in later by = each_below (length by.lifetimes.entries) (λ n. stored_lifetime (store_of later) (map_of later) (lifetime_id n))

-- Behind what was stored before is stored what reads back so, in each later store.
pub record DataAdded (d : StoredData) (old new : Stored) : Type 0 where
  pub types : (later : Stored) → Extends new later → types_in later new ≡ types_in later old ++ d.types
  pub lifetimes : (later : Stored) → Extends new later → lifetimes_in later new ≡ lifetimes_in later old ++ d.lifetimes

-- All that is stored reads back so.
pub record ReadsAs (d : StoredData) (store : Store) (source_map : SourceMap) : Type 0 where
  pub types : each_below (length store.types) (λ n. stored_type store source_map (type_id n)) ≡ d.types
  pub lifetimes : each_below (length store.lifetimes) (λ n. stored_lifetime store source_map (lifetime_id n)) ≡ d.lifetimes
