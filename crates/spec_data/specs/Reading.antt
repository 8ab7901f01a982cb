-- The data of what is stored, read back from numbers.
use Rattle.std.specs.Prelude.{ℕ, zero, suc, ◌+◌, true, false, List, [], ◌∷◌, length, map, slice_get, Option, Some, None, option_map}
use Rattle.hir_binding.specs.declared.binding.BindingAnnotation.{BindingAnnotation}
use Rattle.hir_store.specs.Bindings.{without_problem}
use Rattle.hir_store.specs.Pointers.{Pointer, flat_option}
use Rattle.hir_store.specs.Stored.{Store, SourceMap}
use Rattle.hir_store.specs.declared.hir.Expr.{Expr}
use Rattle.hir_store.specs.declared.hir.Expr.TheVariants as hir
use Rattle.hir_store.specs.declared.ids.BindingId.{BindingId}
use Rattle.hir_store.specs.declared.ids.ExprId.{ExprId}
use Rattle.hir_store.specs.declared.ids.HygieneId.{HygieneId}
use Rattle.hir_store.specs.declared.ids.LangItemId.{LangItemId}
use Rattle.hir_store.specs.declared.ids.LifetimeRefId.{LifetimeRefId}
use Rattle.hir_store.specs.declared.ids.PatId.{PatId}
use Rattle.hir_store.specs.declared.ids.TypeRefId.{TypeRefId}
use Rattle.hir_store.specs.declared.name.Name.{Name}
use Rattle.hir_store.specs.declared.name.Name.TheVariants as name
use Rattle.hir_store.specs.declared.pat.Binding.{Binding}
use Rattle.hir_store.specs.declared.pat.Pat.{Pat}
use Rattle.hir_store.specs.declared.pat.Pat.TheVariants as pat
use Rattle.hir_store.specs.declared.pat.RecordFieldPat.{RecordFieldPat}
use Rattle.hir_store.specs.declared.path.Path.{Path}
use Rattle.hir_store.specs.declared.path.Path.TheVariants.{BarePath, Normal, LangItem}
use Rattle.hir_store.specs.declared.path.GenericArg.{GenericArg}
use Rattle.hir_store.specs.declared.path.GenericArg.TheVariants as arg
use Rattle.hir_store.specs.declared.path.GenericArgs.{GenericArgs}
use Rattle.hir_store.specs.declared.path.GenericArgsParentheses.TheVariants as parens
use Rattle.hir_store.specs.declared.path.AssociatedTypeBinding.TheOpen.{AssociatedTypeBinding-F, GenericArgs-F}
use Rattle.hir_store.specs.declared.path.AssociatedTypeBinding.{AssociatedTypeBinding}
use Rattle.hir_store.specs.declared.path.AssociatedTypeBinding.TheFolds.{fold-AssociatedTypeBinding, fold-GenericArgs}
use Rattle.hir_store.specs.declared.type_ref.LifetimeRef.{LifetimeRef}
use Rattle.hir_store.specs.declared.type_ref.LifetimeRef.TheVariants as lifetime
use Rattle.hir_store.specs.declared.type_ref.UseArgRef.{UseArgRef}
use Rattle.hir_store.specs.declared.type_ref.UseArgRef.TheVariants as use_arg
use Rattle.hir_store.specs.declared.type_ref.TypeBound.{TypeBound}
use Rattle.hir_store.specs.declared.type_ref.TypeBound.TheVariants as bound
use Rattle.hir_store.specs.declared.type_ref.TypeRef.{TypeRef}
use Rattle.hir_store.specs.declared.type_ref.TypeRef.TheVariants as ty
use Rattle.hir_store.specs.declared.type_ref.FnType.{FnType}
use Rattle.hir_store.specs.declared.type_ref.ConstRef.{ConstRef}
use Rattle.hir_env.specs.ResolvedTree.{FnHead}
use Rattle.hir_env.specs.NodeMap.{Site}
use Rattle.hir_env.specs.ResolveCtx.{site_of}
use Rattle.spec_data.specs.Data as datum
use Rattle.spec_data.specs.Data.{LifetimeData, UseData, TypeData, typed, Shape, OptionTypeData, TypesData, PathData, NamesData}
use Rattle.spec_data.specs.Data.{OptionArgsData, no_args, some_args, ArgsData, args_data, ArgumentData, ArgumentsData}
use Rattle.spec_data.specs.Data.{BindingData, BindingsData, BoundData, BoundsData}
use Rattle.spec_data.specs.Data.{PatData, pat_at, absent_pattern, PatShape, OptionPatData, PatsData, PatFieldsData}
use Rattle.spec_data.specs.Data.{SideData, OptionSideData}
use Rattle.spec_data.specs.Literals.{literal_read}

-- how the parts of an entry are read
pub record Readers : Type 0 where
  pub type : TypeRefId → TypeData
  pub pat : PatId → PatData

-- the names of a bare path, beside which nothing stands
abbrev pub names_alone : List Name → NamesData
names_alone [] = datum.no_names
names_alone (n ∷ ns) = datum.more_names n no_args (names_alone ns)

-- A plain list with nothing in it is never written, so names that have it beside them are those of no written path.
abbrev pub never_written : NamesData
never_written = datum.more_names name.Missing
    (some_args (args_data datum.no_arguments false datum.no_bindings parens.No)) datum.no_names

-- names, each with what stands beside it, where they are as many
abbrev pub names_beside : List Name → List OptionArgsData → NamesData
names_beside [] [] = datum.no_names
names_beside [] (a ∷ as') = never_written
names_beside (n ∷ ns) [] = never_written
names_beside (n ∷ ns) (a ∷ as') = datum.more_names n a (names_beside ns as')

module _ (store : Store) (source_map : SourceMap) where
  abbrev pub lifetime_found : Option LifetimeRef → LifetimeRef
  lifetime_found None = lifetime.Error
  lifetime_found (Some l) = l

  -- a lifetime, and the node that it came from, where it came from one
  abbrev pub stored_lifetime : LifetimeRefId → LifetimeData
  stored_lifetime i = record {
    lifetime = lifetime_found (slice_get store.lifetimes i.0);
    from = flat_option (slice_get source_map.lifetime_sources i.0);
  }

  -- the node that a constant came from, where it came from one
  abbrev pub stored_constant : ConstRef → Option Site
  stored_constant c = option_map site_of (flat_option (slice_get source_map.expr_sources c.expr.0))

  abbrev pub expr_found : ExprId → Option Expr
  expr_found i = slice_get store.exprs i.0

  -- a binding, whose problem is no part of it
  abbrev pub binding_found : BindingId → Option Binding
  binding_found i = slice_get (map without_problem store.bindings) i.0

  abbrev pub use_layer : UseArgRef → UseData
  use_layer (use_arg.Name n) = datum.name_used n
  use_layer (use_arg.Lifetime l) = datum.lifetime_used (stored_lifetime l)

  -- one entry

  module _ (r : Readers) where
    -- types before others
    abbrev pub types_layer : List TypeRefId → TypesData → TypesData
    types_layer [] behind = behind
    types_layer (t ∷ ts) behind = datum.more_types (r.type t) (types_layer ts behind)

    abbrev pub present_layer : Option TypeRefId → OptionTypeData
    present_layer None = datum.no_type
    present_layer (Some t) = datum.some_type (r.type t)

    abbrev pub bound_layer : TypeBound → BoundData
    bound_layer (bound.Path t m) = datum.path_bound (r.type t) m
    bound_layer (bound.ForLifetime ns t) = datum.for_bound ns (r.type t)
    bound_layer (bound.Lifetime l) = datum.lifetime_bound (stored_lifetime l)
    bound_layer (bound.Use us) = datum.use_bound (map use_layer us)
    bound_layer bound.Error = datum.error_bound

    abbrev pub bounds_layer : List TypeBound → BoundsData
    bounds_layer [] = datum.no_bounds
    bounds_layer (b ∷ bs) = datum.more_bounds (bound_layer b) (bounds_layer bs)

    abbrev pub argument_layer : GenericArg → ArgumentData
    argument_layer (arg.Type_ t) = datum.type_argument (r.type t)
    argument_layer (arg.Lifetime l) = datum.lifetime_argument (stored_lifetime l)
    argument_layer (arg.Const c) = datum.constant_argument (stored_constant c)

    abbrev pub arguments_layer : List GenericArg → ArgumentsData → ArgumentsData
    arguments_layer [] behind = behind
    arguments_layer (a ∷ as') behind = datum.more_arguments (argument_layer a) (arguments_layer as' behind)

    -- arguments hold bindings, which hold arguments

    abbrev pub listed : Option ArgsData → OptionArgsData
    listed None = no_args
    listed (Some a) = some_args a

    abbrev pub bindings_listed : List BindingData → BindingsData
    bindings_listed [] = datum.no_bindings
    bindings_listed (b ∷ bs) = datum.more_bindings b (bindings_listed bs)

    abbrev pub binding_step : AssociatedTypeBinding-F BindingData ArgsData → BindingData
    binding_step b = datum.binding_data b.name (listed b.args) (present_layer b.type_ref) (bounds_layer b.bounds)

    abbrev pub args_step : GenericArgs-F BindingData ArgsData → ArgsData
    args_step a = args_data (arguments_layer a.args datum.no_arguments) a.has_self_type (bindings_listed a.bindings) a.parenthesized

    unfoldable pub args_layer : GenericArgs → ArgsData
    args_layer = fold-GenericArgs BindingData ArgsData binding_step args_step

    unfoldable pub binding_layer : AssociatedTypeBinding → BindingData
    binding_layer = fold-AssociatedTypeBinding BindingData ArgsData binding_step args_step

    abbrev pub bindings_layer : List AssociatedTypeBinding → BindingsData → BindingsData
    bindings_layer [] behind = behind
    bindings_layer (b ∷ bs) behind = datum.more_bindings (binding_layer b) (bindings_layer bs behind)

    abbrev pub list_layer : Option GenericArgs → OptionArgsData
    list_layer None = no_args
    list_layer (Some a) = some_args (args_layer a)

    abbrev pub path_layer : Path → PathData
    path_layer (BarePath p) = datum.path_data p.kind datum.no_type (names_alone p.segments) true
    path_layer (Normal p) =
        let ns = names_beside p.mod_path.segments (map list_layer p.generic_args) in
        datum.path_data p.mod_path.kind (present_layer p.type_anchor) ns false
    path_layer (LangItem i) = datum.item_path i

    abbrev pub fn_layer : FnType → Shape
    fn_layer f =
        let head : FnHead = record { is_unsafe = f.is_unsafe; abi = f.abi; is_varargs = f.is_varargs; names = f.names } in
        datum.fn_shape head f.binder (types_layer f.params datum.no_types)

    abbrev pub shape_layer : TypeRef → Shape
    shape_layer ty.Never = datum.never_shape
    shape_layer ty.Placeholder = datum.infer_shape
    shape_layer ty.Error = datum.error_shape
    shape_layer (ty.Tuple ts) = datum.tuple_shape (types_layer ts datum.no_types)
    shape_layer (ty.Path p) = datum.path_shape (path_layer p)
    shape_layer (ty.RawPtr t m) = datum.pointer_shape m (r.type t)
    shape_layer (ty.Reference x) = datum.reference_shape (r.type x.ty) (option_map stored_lifetime x.lifetime) x.mutability
    shape_layer (ty.Slice t) = datum.slice_shape (r.type t)
    shape_layer (ty.Array x) = datum.array_shape (r.type x.ty) (stored_constant x.len)
    shape_layer (ty.Fn f) = fn_layer f
    shape_layer (ty.ImplTrait bs) = datum.impl_shape (bounds_layer bs)
    shape_layer (ty.DynTrait bs) = datum.dyn_shape (bounds_layer bs)
    shape_layer (ty.Pattern t p) = datum.pattern_shape (r.type t) (r.pat p)
    shape_layer (ty.TypeParam p) = datum.parameter_shape p.parent

    abbrev pub shape_found : Option TypeRef → Shape
    shape_found None = datum.error_shape
    shape_found (Some t) = shape_layer t

    -- patterns

    abbrev pub subpattern_layer : Option PatId → OptionPatData
    subpattern_layer None = datum.no_pattern
    subpattern_layer (Some p) = datum.some_pattern (r.pat p)

    abbrev pub patterns_layer : List PatId → PatsData
    patterns_layer [] = datum.no_patterns
    patterns_layer (p ∷ ps) = datum.more_patterns (r.pat p) (patterns_layer ps)

    -- a field before others
    abbrev pub pattern_field_layer : RecordFieldPat → PatFieldsData → PatFieldsData
    pattern_field_layer f behind = datum.more_pattern_fields f.name (r.pat f.pat) behind

    abbrev pub pattern_fields_layer : List RecordFieldPat → PatFieldsData
    pattern_fields_layer [] = datum.no_pattern_fields
    pattern_fields_layer (f ∷ fs) = pattern_field_layer f (pattern_fields_layer fs)

    -- which name it is that was made up isn't told
    abbrev pub name_layer : Name → HygieneId → BindingAnnotation → OptionPatData → PatShape
    name_layer (name.Text t) h m sub = datum.bind_pattern (name.Text t) h m sub
    name_layer name.Missing h m sub = datum.bind_pattern name.Missing h m sub
    name_layer (name.Generated n) h m sub = datum.generated_pattern

    -- a binding has the mode of its first use
    abbrev pub bind_layer : Option Binding → OptionPatData → PatShape
    bind_layer None sub = datum.unwritten_pattern
    bind_layer (Some b) sub = name_layer b.name b.hygiene b.mode sub

    abbrev pub literal_layer : Option Expr → PatShape
    literal_layer (Some (hir.Literal l)) = datum.literal_pattern (literal_read l)
    literal_layer e = datum.unwritten_pattern

    -- a side that is a literal or a path
    abbrev pub plain_side_layer : Option Expr → SideData
    plain_side_layer (Some (hir.Literal l)) = datum.literal_side (literal_read l)
    plain_side_layer (Some (hir.Path p h)) = datum.path_side (path_layer p) h
    plain_side_layer e = datum.missing_side

    abbrev pub item_called : Option Expr → Option LangItemId
    item_called (Some (hir.Path (LangItem i) h)) = Some i
    item_called e = None

    abbrev pub side_layer : Option Expr → SideData
    side_layer (Some (hir.Call f (x ∷ []))) = datum.called_side (item_called (expr_found f)) (plain_side_layer (expr_found x))
    side_layer e = plain_side_layer e

    abbrev pub option_side_layer : Option ExprId → OptionSideData
    option_side_layer None = datum.no_side
    option_side_layer (Some e) = datum.some_side (side_layer (expr_found e))

    abbrev pub pattern_layer : Pat → PatShape
    pattern_layer pat.Missing = datum.missing_pattern
    pattern_layer pat.Wild = datum.wild_pattern
    pattern_layer pat.Rest = datum.rest_pattern
    pattern_layer pat.NotNull = datum.not_null_pattern
    pattern_layer (pat.Bind i sub) = bind_layer (binding_found i) (subpattern_layer sub)
    pattern_layer (pat.Path p h) = datum.path_pattern (path_layer p) h
    pattern_layer (pat.TupleStruct p ellipsis ps) = datum.tuple_struct_pattern (path_layer p) ellipsis (patterns_layer ps)
    pattern_layer (pat.Tuple ellipsis ps) = datum.tuple_pattern ellipsis (patterns_layer ps)
    pattern_layer (pat.Record p fs ellipsis) = datum.record_pattern (path_layer p) (pattern_fields_layer fs) ellipsis
    pattern_layer (pat.Or ps) = datum.or_pattern (patterns_layer ps)
    pattern_layer (pat.Slice before middle behind) =
        datum.slice_pattern (patterns_layer before) (subpattern_layer middle) (patterns_layer behind)
    pattern_layer (pat.Ref m p) = datum.ref_pattern m (r.pat p)
    pattern_layer (pat.Box p) = datum.box_pattern (r.pat p)
    pattern_layer (pat.Deref p) = datum.deref_pattern (r.pat p)
    pattern_layer (pat.Lit e) = literal_layer (expr_found e)
    pattern_layer (pat.Range op start end) = datum.range_pattern op (option_side_layer start) (option_side_layer end)
    pattern_layer (pat.Expr e) = datum.place_pattern

    abbrev pub pattern_found : Option Pat → PatShape
    pattern_found None = datum.unwritten_pattern
    pattern_found (Some p) = pattern_layer p

  -- all

  abbrev pub type_source : TypeRefId → Option Pointer
  type_source i = flat_option (slice_get source_map.type_sources i.0)

  abbrev pub pattern_source : PatId → Option Pointer
  pattern_source i = flat_option (slice_get source_map.pat_sources i.0)

  -- with at most so many types and patterns inside one another
  unfoldable pub readers : ℕ → Readers
  readers zero = record { type = λ i. typed None datum.error_shape; pat = λ i. absent_pattern }
  readers (suc d) = record {
    type = λ i. typed (type_source i) (shape_found (readers d) (slice_get store.types i.0));
    pat = λ i. pat_at (pattern_source i) (pattern_found (readers d) (slice_get store.pats i.0));
  }

  -- no more than there are can be inside one another
  abbrev pub entries : ℕ
  entries = length store.types + length store.pats

  unfoldable pub stored_type : TypeRefId → TypeData
  stored_type i = (readers entries).type i

  -- one that may stay absent
  unfoldable pub stored_option_type : Option TypeRefId → OptionTypeData
  stored_option_type t = present_layer (readers entries) t

  unfoldable pub stored_path : Path → PathData
  stored_path p = path_layer (readers entries) p

  unfoldable pub stored_args : Option GenericArgs → OptionArgsData
  stored_args a = list_layer (readers entries) a

  unfoldable pub stored_pat : PatId → PatData
  stored_pat i = (readers entries).pat i
