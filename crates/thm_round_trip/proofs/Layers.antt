-- What is read back at what was answered.
use Rattle.std.proofs.Common.{◌≡◌, ◌∙◌, sym, ap, ℕ, zero, suc, ◌≤◌, List, [], ◌∷◌, ◌++◌, append-nil, append_assoc, arith}
use Rattle.std.specs.Prelude.{map, Option, option_map}
use Rattle.hir_store.specs.Pointers.{Pointer}
use Rattle.hir_store.specs.Stored.{Stored, store_of, map_of}
use Rattle.hir_store.specs.declared.ids.TypeRefId.{TypeRefId}
use Rattle.hir_store.specs.declared.ids.LifetimeRefId.{LifetimeRefId}
use Rattle.hir_store.specs.declared.path.GenericArg.{GenericArg}
use Rattle.hir_store.specs.declared.path.GenericArgs.{GenericArgs}
use Rattle.hir_store.specs.declared.path.AssociatedTypeBinding.{AssociatedTypeBinding}
use Rattle.hir_store.specs.declared.path.Path.{Path as HirPath}
use Rattle.hir_store.specs.declared.ids.ExprId.{ExprId}
use Rattle.hir_store.specs.declared.type_ref.ConstRef.{ConstRef}
use Rattle.hir_store.specs.declared.type_ref.TypeRef.{TypeRef}
use Rattle.hir_store.specs.declared.type_ref.TypeBound.{TypeBound}
use Rattle.hir_store.specs.declared.type_ref.UseArgRef.{UseArgRef}
use Rattle.hir_env.specs.NodeMap.{Site}
use Rattle.hir_lower_builder.specs.Lowering.{Lowering, ◌>>=◌, pure, alloc_type}
use Rattle.thm_logic.proofs.Frames.{Frame}
use Rattle.thm_logic.proofs.Steps.{Mark, Rel, Correct, correct_bind, correct_as, correct_pure}
use Rattle.thm_logic.proofs.TypeSteps.{correct_alloc_type, AllocatedType}
use Rattle.spec_data.specs.Data.{LifetimeData, UseData, TypeData, typed, Shape, OptionTypeData, TypesData, PathData, OptionArgsData}
use Rattle.spec_data.specs.Data.{ArgumentsData, BindingData, BindingsData, BoundData, BoundsData}
use Rattle.spec_data.specs.Reading as reading
use Rattle.spec_data.specs.Reading.{Readers, readers}

-- how an answer is read: the data of a with these readings of its parts
abbrev pub Layer : Type 0 → Type 0 → Type 0
Layer A D = Stored → Readers → A → D

abbrev pub a_lifetime : Layer LifetimeRefId LifetimeData
a_lifetime final r l = reading.stored_lifetime (store_of final) (map_of final) l

abbrev pub maybe_lifetime : Layer (Option LifetimeRefId) (Option LifetimeData)
maybe_lifetime final r l = option_map (reading.stored_lifetime (store_of final) (map_of final)) l

abbrev pub a_constant : Layer ConstRef (Option Site)
a_constant final r c = reading.stored_constant (store_of final) (map_of final) c

-- the node that an expression came from
abbrev pub a_source : Layer ExprId (Option Site)
a_source final r i = reading.stored_constant (store_of final) (map_of final) (record { expr = i })

abbrev pub a_use : Layer UseArgRef UseData
a_use final r u = reading.use_layer (store_of final) (map_of final) u

abbrev pub many_uses : Layer (List UseArgRef) (List UseData)
many_uses final r us = map (reading.use_layer (store_of final) (map_of final)) us

abbrev pub a_type : Layer TypeRefId TypeData
a_type final r t = r.type t

-- types before these
abbrev pub types_before : TypesData → Layer (List TypeRefId) TypesData
types_before behind final r ts = reading.types_layer (store_of final) (map_of final) r ts behind

abbrev pub maybe_type : Layer (Option TypeRefId) OptionTypeData
maybe_type final r t = reading.present_layer (store_of final) (map_of final) r t

abbrev pub a_shape : Layer TypeRef Shape
a_shape final r t = reading.shape_layer (store_of final) (map_of final) r t

abbrev pub a_bound : Layer TypeBound BoundData
a_bound final r b = reading.bound_layer (store_of final) (map_of final) r b

abbrev pub many_bounds : Layer (List TypeBound) BoundsData
many_bounds final r bs = reading.bounds_layer (store_of final) (map_of final) r bs

abbrev pub arguments_before : ArgumentsData → Layer (List GenericArg) ArgumentsData
arguments_before behind final r as' = reading.arguments_layer (store_of final) (map_of final) r as' behind

abbrev pub a_binding : Layer AssociatedTypeBinding BindingData
a_binding final r b = reading.binding_layer (store_of final) (map_of final) r b

abbrev pub bindings_before : BindingsData → Layer (List AssociatedTypeBinding) BindingsData
bindings_before behind final r bs = reading.bindings_layer (store_of final) (map_of final) r bs behind

abbrev pub a_list : Layer (Option GenericArgs) OptionArgsData
a_list final r a = reading.list_layer (store_of final) (map_of final) r a

abbrev pub a_path : Layer HirPath PathData
a_path final r p = reading.path_layer (store_of final) (map_of final) r p

-- the readers of so many types inside one another
abbrev pub within : Stored → ℕ → Readers
within final d = readers (store_of final) (map_of final) d

-- Read by any depth past the types that are stored by then, a gives x.
pub record Reads {A D : Type 0} (layer : Layer A D) (x : D) (final : Stored) (ps : List Frame) (m m' : Mark) (a : A) : Type 0 where
  pub is : (d : ℕ) → m'.entries ≤ d → layer final (within final d) a ≡ x

-- values

-- without parts
pub value0 : {A D : Type 0} {l : Layer A D} {x : D} (a : A) → ((final : Stored) (r : Readers) → l final r a ≡ x)
    → Correct (pure a) (Reads l x)
value0 a e = correct_as (correct_pure a) (λ final ps m m' b g row. rw row.is (record { is = λ d le. e final (within final d) }))

-- of one part
pub value1 : {A B D E : Type 0} {l : Layer A D} {k : Layer B E} {x : D} {p : Lowering A} (con : A → B) (f : D → E)
    → Correct p (Reads l x) → ((final : Stored) (r : Readers) (a : A) → k final r (con a) ≡ f (l final r a))
    → Correct (p >>= (λ a. pure (con a))) (Reads k (f x))
value1 con f h e = correct_as (correct_bind h (λ a. correct_pure (con a)))
    (λ final ps m m' b g row. rw (row.second.is, row.second.still) (record {
      is = λ d le. e final (within final d) row.one ∙ ap f (row.first.is d le);
    }))

-- lists

-- what is pushed on a list that grows
pub record Pushed {A : Type 0} (done : List A) (R : Rel (List A))
    (final : Stored) (ps : List Frame) (m m' : Mark) (r : List A) : Type 0 where
  pub new : List A
  pub is : r ≡ done ++ new
  pub rel : R final ps m m' new

pub pushed_all : {A : Type 0} {R : Rel (List A)} {p : Lowering (List A)} → Correct p (Pushed [] R) → Correct p R
pushed_all h = correct_as h (λ final ps m m' r g row. rw row.is row.rel)

pub none_read : {A E : Type 0} (ls : Layer (List A) E) {y : E} → ((final : Stored) (r : Readers) → ls final r [] ≡ y)
    → (done : List A) → Correct (pure done) (Pushed done (Reads ls y))
none_read ls e done = correct_as (correct_pure done) (λ final ps m m' r g row. rw (row.is, row.still) (record {
  new = [];
  is = sym (append-nil done);
  rel = record { is = λ d le. e final (within final d) };
}))

-- the data of a list, an item at a time
pub more_read : {A D E : Type 0} {l : Layer A D} {ls : Layer (List A) E} {x : D} {y : E} {p : Lowering A}
    {q : List A → Lowering (List A)} (cons : D → E → E)
    → ((final : Stored) (r : Readers) (a : A) (as' : List A) → ls final r (a ∷ as') ≡ cons (l final r a) (ls final r as'))
    → Correct p (Reads l x) → ((done : List A) → Correct (q done) (Pushed done (Reads ls y)))
    → (done : List A) → Correct (p >>= (λ a. q (done ++ a ∷ []))) (Pushed done (Reads ls (cons x y)))
more_read cons e h k done = correct_as (correct_bind h (λ a. k (done ++ a ∷ [])))
    (λ final ps m m' r g row. let s = row.second in record {
      new = row.one ∷ s.new;
      is = s.is ∙ append_assoc done (row.one ∷ []) s.new;
      rel = record {
        is = λ d le. e final (within final d) row.one s.new
            ∙ (λ j. cons (row.first.is d (omega (le, row.after.entries, arith)) j) (s.rel.is d le j));
      };
    })

-- types

-- one that is stored under the number from the source
pub type_at : {t : TypeRef} {source : Option Pointer} {x : Shape} {final : Stored} {ps : List Frame} {m m0 m' : Mark} {i : TypeRefId}
    → AllocatedType t source final ps m m' i → ((d : ℕ) → m.entries ≤ d → a_shape final (within final d) t ≡ x)
    → Reads a_type (typed source x) final ps m0 m' i
unfolding readers
type_at {source = source} {x = x} {final = final} {m' = m'} {i = i} at h = record { is = λ d le. at_depth d le }
  where
    at_depth : (d : ℕ) → m'.entries ≤ d → (readers (store_of final) (map_of final) d).type i ≡ typed source x
    at_depth zero le = absurd (omega (arith, le, at.entries))
    at_depth (suc d) le = rw (at.number, at.here, at.from) (ap (typed source) (h d (omega (arith, le, at.entries))))

pub type0 : {x : Shape} (t : TypeRef) (source : Option Pointer) → ((final : Stored) (r : Readers) → a_shape final r t ≡ x)
    → Correct (alloc_type t source) (Reads a_type (typed source x))
type0 t source e = correct_as (correct_alloc_type t source) (λ final ps m m' i g at. type_at at (λ d le. e final (within final d)))

pub type1 : {A D : Type 0} {l : Layer A D} {x : D} {p : Lowering A} (source : Option Pointer) (con : A → TypeRef) (f : D → Shape)
    → Correct p (Reads l x) → ((final : Stored) (r : Readers) (a : A) → a_shape final r (con a) ≡ f (l final r a))
    → Correct (p >>= (λ a. alloc_type (con a) source)) (Reads a_type (typed source (f x)))
type1 source con f h e = correct_as (correct_bind h (λ a. correct_alloc_type (con a) source))
    (λ final ps m m' i g row. type_at row.second (λ d le. e final (within final d) row.one ∙ ap f (row.first.is d le)))

pub type2 : {A B D E : Type 0} {l : Layer A D} {k : Layer B E} {x : D} {y : E} {p : Lowering A} {q : Lowering B} (source : Option Pointer)
    (con : A → B → TypeRef) (f : D → E → Shape) → Correct p (Reads l x) → Correct q (Reads k y)
    → ((final : Stored) (r : Readers) (a : A) (b : B) → a_shape final r (con a b) ≡ f (l final r a) (k final r b))
    → Correct (p >>= (λ a. q >>= (λ b. alloc_type (con a b) source))) (Reads a_type (typed source (f x y)))
type2 source con f h h' e = correct_as (correct_bind h (λ a. correct_bind h' (λ b. correct_alloc_type (con a b) source)))
    (λ final ps m m' i g row. let s = row.second in
    type_at s.second (λ d le. e final (within final d) row.one s.one
    ∙ (λ j. f (row.first.is d (omega (le, s.before.entries, arith)) j) (s.first.is d le j))))
