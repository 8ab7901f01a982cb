-- Small items as they are stored, and what is counted of each: all types and expressions that it is answered with reach, each once.
use Rattle.std.specs.Prelude.{◌≡◌, ℕ, codes, false, List, [], ◌∷◌, ◌++◌, map, Some, None}
use Rattle.hir_store.specs.Generics.{of_args}
use Rattle.hir_store.specs.Pointers.{Pointer}
use Rattle.hir_store.specs.Stored.{SourceMap, Store, map_of}
use Rattle.hir_store.specs.StoreSink.{expr_id, lifetime_id, type_id}
use Rattle.hir_store.specs.declared.generics.WherePredicate.{WherePredicate}
use Rattle.hir_store.specs.declared.generics.WherePredicate.TheVariants as predicate
use Rattle.hir_store.specs.declared.hir.Expr.TheVariants as hir
use Rattle.hir_store.specs.declared.ids.GenericDefId.{GenericDefId}
use Rattle.hir_store.specs.declared.name.Name.TheVariants as name
use Rattle.hir_store.specs.declared.generics.TypeOrConstParamData.{TypeOrConstParamData}
use Rattle.hir_store.specs.declared.generics.TypeOrConstParamData.TheVariants as param
use Rattle.hir_store.specs.declared.generics.TypeParamProvenance.TheVariants as provenance
use Rattle.hir_store.specs.declared.path.GenericArg.{GenericArg}
use Rattle.hir_store.specs.declared.path.GenericArg.TheVariants as arg
use Rattle.hir_store.specs.declared.path.GenericArgsParentheses.TheVariants as parens
use Rattle.hir_store.specs.declared.path.Path.TheVariants as path
use Rattle.hir_store.specs.declared.path.PathKind.TheVariants as kind
use Rattle.hir_store.specs.declared.type_ref.TraitBoundModifier.TheVariants as modifier
use Rattle.hir_store.specs.declared.type_ref.LifetimeRef.TheVariants as lifetime
use Rattle.hir_store.specs.declared.type_ref.TypeBound.TheVariants as bound
use Rattle.hir_store.specs.declared.type_ref.TypeRef.{TypeRef}
use Rattle.hir_store.specs.declared.type_ref.TypeRef.TheVariants as ty
use Rattle.hir_lower_builder.specs.Builder.{new_builder}
use Rattle.hir_lower_builder.specs.Generics.{unnamed_param}
use Rattle.hir_lower_builder.specs.Lowering.{param_type}
use Rattle.spec_semantics.specs.Small.{stored_digit}
use Rattle.thm_type_result.specs.Reached.{types_reached}
use Rattle.thm_type_result.specs.Unrun.{all_unruns, exprs_of}
use Rattle.thm_item_result.specs.Inside.{held_by_alias, held_by_function, held_by_impl, held_by_params}
use Rattle.thm_item_result.specs.Once.{named_by_alias, named_by_function, named_by_impl, named_by_params}

-- `A` with this argument
abbrev a_with : GenericArg → TypeRef
a_with x = ty.Path (path.Normal (record {
  type_anchor = None;
  mod_path = record { kind = kind.Plain; segments = name.Text (codes "A") ∷ [] };
  generic_args = Some (of_args (x ∷ []) false [] parens.No) ∷ [];
}))

abbrev array_of : ℕ → ℕ → TypeRef
array_of t e = ty.Array (record { ty = type_id t; len = record { expr = expr_id e } })

-- `fn(_: impl A<[!; 1]>)`: the path, the array, its element and its length are reached through what is asked of the parameter that
-- the `impl` became

module _ (def : GenericDefId) (at : Pointer) where
  -- the element, the array, the path of the bound, and the parameter
  abbrev pub small_types : List TypeRef
  small_types = ty.Never ∷ array_of 0 0 ∷ a_with (arg.Type_ (type_id 1)) ∷ param_type def 0 ∷ []

  abbrev pub small_store : Store
  small_store = record {
    exprs = hir.Literal (stored_digit 49) ∷ [];
    labels = [];
    pats = [];
    bindings = [];
    binding_owners = [];
    types = small_types;
    lifetimes = [];
    roots = [];
  }

  -- the parameter comes from the node of the `impl`
  abbrev pub small_map : SourceMap
  small_map = record (map_of (new_builder 9).stored) { type_sources = None ∷ None ∷ None ∷ Some at ∷ [] }

  abbrev pub small_predicates : List WherePredicate
  small_predicates = predicate.TypeBound None (type_id 3) (bound.Path (type_id 2) modifier.None) ∷ []

  pub record CountsArgument : Type 0 where
    pub types : let f = types_reached small_types 4 in
        named_by_function (type_id 3 ∷ []) None f ++ named_by_params small_store small_map (unnamed_param ∷ []) small_predicates f
        ≡ 3 ∷ 2 ∷ 1 ∷ 0 ∷ []
    pub exprs : let r = all_unruns small_store in
        exprs_of (held_by_function (type_id 3 ∷ []) None r
        ++ held_by_params small_store small_map (unnamed_param ∷ []) small_predicates r)
        ≡ expr_id 0 ∷ []

abbrev pub CountsArguments : Type 0
CountsArguments = (def : GenericDefId) (at : Pointer) → CountsArgument def at

-- `<T = [!; 1], const N: [!; 2] = 3>` with `where 'static: 'static, [!; 4]: A<5> + A<6>`

abbrev pub part_params : List TypeOrConstParamData
part_params = param.TypeParamData (record {
  name = Some (name.Text (codes "T"));
  default = Some (type_id 1);
  provenance = provenance.TypeParamList;
})
    ∷ param.ConstParamData (record { name = name.Text (codes "N"); ty = type_id 4; default = Some (record { expr = expr_id 2 }) })
    ∷ []

abbrev pub part_predicates : List WherePredicate
part_predicates = predicate.Lifetime (lifetime_id 0) (lifetime_id 1)
    ∷ predicate.TypeBound None (type_id 6) (bound.Path (type_id 7) modifier.None)
    ∷ predicate.TypeBound None (type_id 6) (bound.Path (type_id 8) modifier.None)
    ∷ []

module _ (def : GenericDefId) where
  -- behind the array of its default `T` itself, which nothing reaches
  abbrev pub part_types : List TypeRef
  part_types = ty.Never ∷ array_of 0 0 ∷ param_type def 0 ∷ ty.Never ∷ array_of 3 1 ∷ ty.Never ∷ array_of 5 3
      ∷ a_with (arg.Const (record { expr = expr_id 4 })) ∷ a_with (arg.Const (record { expr = expr_id 5 })) ∷ []

  abbrev pub part_store : Store
  part_store = record {
    exprs = map (λ c. hir.Literal (stored_digit c)) (49 ∷ 50 ∷ 51 ∷ 52 ∷ 53 ∷ 54 ∷ []);
    labels = [];
    pats = [];
    bindings = [];
    binding_owners = [];
    types = part_types;
    lifetimes = lifetime.Static ∷ lifetime.Static ∷ [];
    roots = [];
  }

  -- nothing in it comes from a node
  abbrev pub part_map : SourceMap
  part_map = map_of (new_builder 9).stored

  pub record CountsPart : Type 0 where
    pub types : named_by_params part_store part_map part_params part_predicates (types_reached part_types 9)
        ≡ 1 ∷ 0 ∷ 4 ∷ 3 ∷ 6 ∷ 5 ∷ 7 ∷ 8 ∷ []
    pub exprs : exprs_of (held_by_params part_store part_map part_params part_predicates (all_unruns part_store))
        ≡ expr_id 0 ∷ expr_id 1 ∷ expr_id 2 ∷ expr_id 3 ∷ expr_id 4 ∷ expr_id 5 ∷ []
    -- of an alias, `: A<5> = [!; 1]`
    pub alias_types : named_by_alias (bound.Path (type_id 7) modifier.None ∷ []) (Some (type_id 1)) (types_reached part_types 9)
        ≡ 7 ∷ 1 ∷ 0 ∷ []
    pub alias_exprs :
        exprs_of (held_by_alias (bound.Path (type_id 7) modifier.None ∷ []) (Some (type_id 1)) (all_unruns part_store))
        ≡ expr_id 4 ∷ expr_id 0 ∷ []
    -- of `impl A<5> for [!; 1]`
    pub impl_types : named_by_impl (type_id 1) (Some (record { path = type_id 7 })) (types_reached part_types 9) ≡ 1 ∷ 0 ∷ 7 ∷ []
    pub impl_exprs : exprs_of (held_by_impl (type_id 1) (Some (record { path = type_id 7 })) (all_unruns part_store))
        ≡ expr_id 0 ∷ expr_id 4 ∷ []
    -- of `fn() -> [!; 1]`
    pub return_types : named_by_function [] (Some (type_id 1)) (types_reached part_types 9) ≡ 1 ∷ 0 ∷ []
    pub return_exprs : exprs_of (held_by_function [] (Some (type_id 1)) (all_unruns part_store)) ≡ expr_id 0 ∷ []

abbrev pub CountsParts : Type 0
CountsParts = (def : GenericDefId) → CountsPart def
