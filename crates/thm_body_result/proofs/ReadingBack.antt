-- What a type reads back as in a final store, handed in where a property asks for it.
use Rattle.std.proofs.Common.{◌≡◌, refl, ap, ℕ, ◌≤◌, ◌+◌, List, [], length, Option, Some, None}
use Rattle.hir_store.specs.Pointers.{Pointer}
use Rattle.hir_store.specs.Stored.{Stored}
use Rattle.hir_store.specs.declared.ids.TypeRefId.{TypeRefId}
use Rattle.hir_store.specs.declared.path.Path.{Path as HirPath}
use Rattle.hir_store.specs.declared.type_ref.TypeRef.{TypeRef}
use Rattle.hir_store.specs.declared.type_ref.TypeRef.TheVariants as ty
use Rattle.hir_env.specs.ResolvedTree as tree
use Rattle.hir_env.specs.ResolvedTree.{Binder, Parts, Type_}
use Rattle.hir_lower_builder.specs.Lower.{lower_parts, lower_type}
use Rattle.hir_lower_builder.specs.Lowering.{alloc_type}
use Rattle.hir_lower_builder.specs.Types.{TypeSteps}
use Rattle.thm_logic.proofs.Steps.{Correct, Mark, correct_alloc_type, correct_as, correct_in_store}
use Rattle.spec_data.specs.Data as datum
use Rattle.spec_data.specs.Data.{Shape, TypeData, TypesData, typed}
use Rattle.spec_data.specs.Reading.{stored_type}
use Rattle.spec_data.specs.Rule.{PathRead}
use Rattle.spec_data.specs.Written.{parts_data, shape_of_path, type_data}
use Rattle.thm_round_trip.proofs.Layers.{Pushed, Reads, a_type, a_shape, pushed_all, type0, type_at, types_before, within}
use Rattle.thm_round_trip.proofs.Tree.{part_reads, path_reads, type_reads}
use Rattle.thm_round_trip.proofs.Types.{types_more, types_none, unit_type_reads}
use Rattle.thm_round_trip.proofs.Walk.{Answers, matches_read}
use Rattle.thm_logic.proofs.ReadBack.{Knowing, ReadBack, TypeIs}

pub type_in_store : {t : TypeData} {p : TypeSteps} → Correct p (Reads a_type t) → Correct p (λ final ps m m' i. TypeIs t final m i)
unfolding stored_type
type_in_store h = correct_as (correct_in_store h)
    (λ final ps m m' i g row. row.rel.is (length final.types.entries + length final.pats.entries) row.entries)

type_in : (b : Option Binder) (t : Type_) → Correct (lower_type b t) (λ final ps m m' i. TypeIs (type_data b t) final m i)
type_in b t = type_in_store (type_reads b t)

parts_pushed : (ps : Parts) (behind : TypesData) (done : List TypeRefId)
    → Correct (lower_parts done ps) (Pushed done (Reads (types_before behind) (parts_data ps behind)))
parts_pushed tree.no_parts behind done = types_none behind done
parts_pushed (tree.more_parts p ps) behind done = types_more behind (part_reads None p) (parts_pushed ps behind) done

parts_read : (ps : Parts) → Correct (lower_parts [] ps) (Reads (types_before datum.no_types) (parts_data ps datum.no_types))
parts_read ps = pushed_all (parts_pushed ps datum.no_types [])

-- where a type's shape reads back so at each depth past what was stored before
shaped : (t : TypeRef) (at : Option Pointer) (shape : Shape) (K : Stored → Mark → Type 0)
    → ((final : Stored) (m : Mark) → K final m → (d : ℕ) → m.entries ≤ d → a_shape final (within final d) t ≡ shape)
    → Correct (alloc_type t at) (λ final ps m m' i. K final m → TypeIs (typed at shape) final m i)
unfolding stored_type
shaped t at shape K e = correct_as (correct_in_store (correct_alloc_type t at)) (λ final ps m m' i g row. λ k.
    let read : Reads a_type (typed at shape) final ps m m' i = type_at row.rel (e final m k) in
    read.is (length final.types.entries + length final.pats.entries) row.entries)

-- the parts that a tuple is made of
abbrev PartsAre : TypesData → List TypeRefId → Stored → Mark → Type 0
PartsAre ts is final m = (d : ℕ) → m.entries ≤ d → types_before datum.no_types final (within final d) is ≡ ts

tuple_in : (ts : TypesData) (is : List TypeRefId) → Correct (alloc_type (ty.Tuple is) None)
    (λ final ps m m' i. PartsAre ts is final m → TypeIs (typed None (datum.tuple_shape ts)) final m i)
tuple_in ts is = shaped (ty.Tuple is) None (datum.tuple_shape ts) (PartsAre ts is) (λ final m k d le. ap datum.tuple_shape (k d le))

-- the path that a type is made of
abbrev PathFound : Option PathRead → Option HirPath → Stored → Mark → Type 0
PathFound y o final m = Answers final m.entries y o

path_in : (y : Option PathRead) (at : Pointer) (p : HirPath) → Correct (alloc_type (ty.Path p) (Some at))
    (λ final ps m m' i. PathFound y (Some p) final m → TypeIs (typed (Some at) (shape_of_path y)) final m i)
path_in None at p = shaped (ty.Path p) (Some at) (shape_of_path None) (PathFound None (Some p)) (λ final m k d le. absurd k)
path_in (Some x) at p = shaped (ty.Path p) (Some at) (shape_of_path (Some x)) (PathFound (Some x) (Some p))
    (λ final m k d le. ap datum.path_shape (matches_read final m.entries x p k d le))

-- handed in

-- what is so of correct steps
abbrev pub Surely : Knowing
Surely A p R = Correct p (λ final ps m m' a. R final m m' a)

pub read_back : ReadBack Surely
read_back = record {
  type_reads = λ b t. type_in b t;
  error_reads = λ at. type_in_store (type0 ty.Error at (λ final r. refl));
  unit_reads = type_in_store unit_type_reads;
  PartsAre = λ ts is final m. PartsAre ts is final m;
  parts_read = λ ts. correct_as (parts_read ts) (λ final ps m m' is g row. row.is);
  tuple_reads = λ ts is. tuple_in ts is;
  PathFound = λ y o final m. PathFound y o final m;
  path_reads = λ p. correct_as (path_reads p) (λ final ps m m' o g row. row.is);
  path_type_reads = λ y at p. path_in y at p;
}
