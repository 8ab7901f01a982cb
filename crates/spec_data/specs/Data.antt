-- What lifetimes, types, paths, arguments, bounds and patterns are, without the numbers of a store: as they are written and as
-- they are stored. Each type, each lifetime and each pattern has the node that it came from, where it came from one. A constant
-- is named by the node that it came from.
use Rattle.std.specs.Prelude.{ℕ, Bool, true, List, [], ◌∷◌, Option, None, option_map}
use Rattle.hir_base.specs.declared.op.RangeOp.{RangeOp}
use Rattle.hir_binding.specs.declared.binding.BindingAnnotation.{BindingAnnotation}
use Rattle.hir_store.specs.Pointers.{Pointer}
use Rattle.hir_store.specs.declared.ids.GenericDefId.{GenericDefId}
use Rattle.hir_store.specs.declared.ids.HygieneId.{HygieneId}
use Rattle.hir_store.specs.declared.ids.LangItemId.{LangItemId}
use Rattle.hir_store.specs.declared.name.Name.{Name}
use Rattle.hir_store.specs.declared.hir.Mutability.{Mutability}
use Rattle.hir_store.specs.declared.path.PathKind.{PathKind}
use Rattle.hir_store.specs.declared.path.PathKind.TheVariants as kind
use Rattle.hir_store.specs.declared.path.GenericArgsParentheses.{GenericArgsParentheses}
use Rattle.hir_store.specs.declared.type_ref.LifetimeRef.{LifetimeRef}
use Rattle.hir_store.specs.declared.type_ref.TraitBoundModifier.{TraitBoundModifier}
use Rattle.hir_env.specs.NodeMap.{Site}
use Rattle.hir_env.specs.ResolveCtx.{site_of}
use Rattle.hir_env.specs.ResolvedTree.{Binder, FnHead}
use Rattle.spec_data.specs.Literals.{LiteralData}

pub record LifetimeData : Type 0 where
  pub lifetime : LifetimeRef
  pub from : Option Pointer

-- what `use<..>` names
pub data UseData : Type 0 where
  name_used : Name → UseData
  lifetime_used : LifetimeData → UseData

mutual
  pub data TypeData : Type 0 where
    typed : Option Pointer → Shape → TypeData

  pub data Shape : Type 0 where
    error_shape : Shape
    never_shape : Shape
    infer_shape : Shape
    tuple_shape : TypesData → Shape
    path_shape : PathData → Shape
    pointer_shape : Mutability → TypeData → Shape
    slice_shape : TypeData → Shape
    -- of such elements, and this long
    array_shape : TypeData → Option Site → Shape
    reference_shape : TypeData → Option LifetimeData → Mutability → Shape
    -- its binder, its parameters, and behind them what it returns
    fn_shape : FnHead → Option Binder → TypesData → Shape
    impl_shape : BoundsData → Shape
    dyn_shape : BoundsData → Shape
    -- the values of the type that the pattern fits
    pattern_shape : TypeData → PatData → Shape
    -- a type parameter of this definition: which one isn't told
    parameter_shape : GenericDefId → Shape

  pub data OptionTypeData : Type 0 where
    no_type : OptionTypeData
    some_type : TypeData → OptionTypeData

  pub data TypesData : Type 0 where
    no_types : TypesData
    more_types : TypeData → TypesData → TypesData

  pub data PathData : Type 0 where
    -- where it begins, the type that it is relative to, its names, and whether neither such a type nor arguments were found in it
    path_data : PathKind → OptionTypeData → NamesData → Bool → PathData
    -- what the language itself names
    item_path : LangItemId → PathData

  -- names, and what stands beside each
  pub data NamesData : Type 0 where
    no_names : NamesData
    more_names : Name → OptionArgsData → NamesData → NamesData

  pub data OptionArgsData : Type 0 where
    no_args : OptionArgsData
    some_args : ArgsData → OptionArgsData

  -- its arguments, whether the first stands for `Self`, its bindings, and how they were written
  pub data ArgsData : Type 0 where
    args_data : ArgumentsData → Bool → BindingsData → GenericArgsParentheses → ArgsData

  pub data ArgumentsData : Type 0 where
    no_arguments : ArgumentsData
    more_arguments : ArgumentData → ArgumentsData → ArgumentsData

  pub data ArgumentData : Type 0 where
    type_argument : TypeData → ArgumentData
    lifetime_argument : LifetimeData → ArgumentData
    constant_argument : Option Site → ArgumentData

  pub data BindingsData : Type 0 where
    no_bindings : BindingsData
    more_bindings : BindingData → BindingsData → BindingsData

  pub data BindingData : Type 0 where
    binding_data : Name → OptionArgsData → OptionTypeData → BoundsData → BindingData

  pub data BoundsData : Type 0 where
    no_bounds : BoundsData
    more_bounds : BoundData → BoundsData → BoundsData

  -- a path is a type
  pub data BoundData : Type 0 where
    error_bound : BoundData
    path_bound : TypeData → TraitBoundModifier → BoundData
    for_bound : List Name → TypeData → BoundData
    lifetime_bound : LifetimeData → BoundData
    use_bound : List UseData → BoundData

  -- a pattern, or the assignee expression, with the node that it came from, where it came from one
  pub data PatData : Type 0 where
    pat_at : Option Pointer → PatShape → PatData

  -- An ellipsis is the place among the parts at which two dots stand. A path has the hygiene that its name is looked up with.
  pub data PatShape : Type 0 where
    missing_pattern : PatShape
    wild_pattern : PatShape
    rest_pattern : PatShape
    not_null_pattern : PatShape
    -- a name with its hygiene, the mode of its first use in the top pattern, and what stands behind `@`
    bind_pattern : Name → HygieneId → BindingAnnotation → OptionPatData → PatShape
    -- a name that lowering made up
    generated_pattern : PatShape
    path_pattern : PathData → HygieneId → PatShape
    tuple_struct_pattern : PathData → Option ℕ → PatsData → PatShape
    tuple_pattern : Option ℕ → PatsData → PatShape
    -- its fields, and whether two dots stand behind them
    record_pattern : PathData → PatFieldsData → Bool → PatShape
    or_pattern : PatsData → PatShape
    slice_pattern : PatsData → OptionPatData → PatsData → PatShape
    ref_pattern : Mutability → PatData → PatShape
    box_pattern : PatData → PatShape
    deref_pattern : PatData → PatShape
    literal_pattern : LiteralData → PatShape
    range_pattern : RangeOp → OptionSideData → OptionSideData → PatShape
    -- a place that is assigned to: which one, the operands of the assignment tell
    place_pattern : PatShape
    -- what is stored for no tree: a binding that isn't there, or a literal that is none
    unwritten_pattern : PatShape

  pub data OptionPatData : Type 0 where
    no_pattern : OptionPatData
    some_pattern : PatData → OptionPatData

  pub data PatsData : Type 0 where
    no_patterns : PatsData
    more_patterns : PatData → PatsData → PatsData

  -- the fields of a record, each with its name
  pub data PatFieldsData : Type 0 where
    no_pattern_fields : PatFieldsData
    more_pattern_fields : Name → PatData → PatFieldsData → PatFieldsData

  pub data SideData : Type 0 where
    missing_side : SideData
    literal_side : LiteralData → SideData
    path_side : PathData → HygieneId → SideData
    -- a call with this side as its one argument, of a language item, which may be missing
    called_side : Option LangItemId → SideData → SideData

  pub data OptionSideData : Type 0 where
    no_side : OptionSideData
    some_side : SideData → OptionSideData

abbrev pub path_kind : PathData → PathKind
path_kind (path_data k anchor ns bare) = k
path_kind (item_path i) = kind.Plain

abbrev pub names_in : NamesData → List Name
names_in no_names = []
names_in (more_names n a ns) = n ∷ names_in ns

abbrev pub path_names : PathData → List Name
path_names (path_data k anchor ns bare) = names_in ns
path_names (item_path i) = []

-- the node of a pattern, where it came from one
abbrev pub pattern_site : PatData → Option Site
pattern_site (pat_at source shape) = option_map site_of source

-- a name alone, and the path of it
abbrev pub name_alone : Name → NamesData
name_alone n = more_names n no_args no_names

abbrev pub bare_path : Name → PathData
bare_path n = path_data kind.Plain no_type (name_alone n) true

-- a pattern that is missing, from no node
abbrev pub absent_pattern : PatData
absent_pattern = pat_at None missing_pattern
