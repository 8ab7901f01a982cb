-- What is told of types goes by what they read back as: what of that is handed in, where a property asks for it.
use Rattle.std.proofs.Common.{◌≡◌, List, [], Option, Some, None}
use Rattle.hir_store.specs.Pointers.{Pointer}
use Rattle.hir_store.specs.Stored.{Stored, store_of, map_of}
use Rattle.hir_store.specs.declared.ids.TypeRefId.{TypeRefId}
use Rattle.hir_store.specs.declared.path.Path.{Path as HirPath}
use Rattle.hir_store.specs.declared.type_ref.TypeRef.TheVariants as ty
use Rattle.hir_env.specs.ResolvedTree.{Binder, OptionPath, Parts, Type_}
use Rattle.spec_data.specs.Data as datum
use Rattle.spec_data.specs.Data.{TypeData, TypesData, typed}
use Rattle.spec_data.specs.Reading.{stored_type}
use Rattle.spec_data.specs.Rule.{PathRead}
use Rattle.spec_data.specs.Written.{parts_data, path_of, shape_of_path, type_data, unit_data}
use Rattle.hir_lower_builder.specs.Lower.{lower_parts, lower_path, lower_type}
use Rattle.hir_lower_builder.specs.Lowering.{Lowering, alloc_type}
use Rattle.hir_lower_builder.specs.Types.{unit_type}
use Rattle.thm_logic.proofs.Logic.{Mark}

-- of steps, where they are in a final store before and behind them, with what they answer
abbrev pub Knowing : Type 1
Knowing = (A : Type 0) → Lowering A → (Stored → Mark → Mark → A → Type 0) → Type 0

-- a type that reads back so
abbrev pub TypeIs : TypeData → Stored → Mark → TypeRefId → Type 0
TypeIs t final m i = stored_type (store_of final) (map_of final) i ≡ t

pub record ReadBack (K : Knowing) : Type 1 where
  pub type_reads : (b : Option Binder) (t : Type_) → K TypeRefId (lower_type b t) (λ final m m' i. TypeIs (type_data b t) final m i)
  pub error_reads : (at : Option Pointer) → K TypeRefId (alloc_type ty.Error at)
      (λ final m m' i. TypeIs (typed at datum.error_shape) final m i)
  pub unit_reads : K TypeRefId unit_type (λ final m m' i. TypeIs unit_data final m i)
  -- the parts that a tuple is made of
  pub PartsAre : TypesData → List TypeRefId → Stored → Mark → Type 0
  pub parts_read : (ts : Parts) → K (List TypeRefId) (lower_parts [] ts)
      (λ final m m' is. PartsAre (parts_data ts datum.no_types) is final m')
  pub tuple_reads : (ts : TypesData) (is : List TypeRefId) → K TypeRefId (alloc_type (ty.Tuple is) None)
      (λ final m m' i. PartsAre ts is final m → TypeIs (typed None (datum.tuple_shape ts)) final m i)
  -- the path that a type is made of
  pub PathFound : Option PathRead → Option HirPath → Stored → Mark → Type 0
  pub path_reads : (p : OptionPath) → K (Option HirPath) (lower_path p) (λ final m m' o. PathFound (path_of p) o final m')
  pub path_type_reads : (y : Option PathRead) (at : Pointer) (p : HirPath) → K TypeRefId (alloc_type (ty.Path p) (Some at))
      (λ final m m' i. PathFound y (Some p) final m → TypeIs (typed (Some at) (shape_of_path y)) final m i)

-- nothing is, where nothing is asked
abbrev pub Unknown : Knowing
Unknown A p R = Unit {0}

abbrev pub unknown_reads : ReadBack Unknown
unknown_reads = record {
  type_reads = λ b t. tt;
  error_reads = λ at. tt;
  unit_reads = tt;
  PartsAre = λ ts is final m. Unit {0};
  parts_read = λ ts. tt;
  tuple_reads = λ ts is. tt;
  PathFound = λ y o final m. Unit {0};
  path_reads = λ p. tt;
  path_type_reads = λ y at p. tt;
}
