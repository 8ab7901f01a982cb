-- Small generic parameters and where clauses, and what is read off them.
use Rattle.std.specs.Prelude.{◌≡◌, ℕ, codes, List, [], ◌∷◌, map, Option, Some, None}
use Rattle.hir_syntax.specs.declared.ast.ElseBranch.TheOpen.{ExprKind-F}
use Rattle.hir_syntax.specs.declared.ast.Expr.{Expr as AstExpr}
use Rattle.hir_syntax.specs.declared.ast.ExprKind.{roll-ExprKind}
use Rattle.hir_syntax.specs.declared.types.TypeBound.{TypeBound as AstTypeBound}
use Rattle.hir_syntax.specs.declared.items.GenericParam.{GenericParam as AstGenericParam}
use Rattle.hir_syntax.specs.declared.items.WherePred.{WherePred as AstWherePred}
use Rattle.hir_store.specs.declared.ids.CfgId.{CfgId}
use Rattle.hir_store.specs.declared.ids.GenericDefId.{GenericDefId}
use Rattle.hir_store.specs.declared.name.Name.TheVariants as name
use Rattle.hir_store.specs.declared.type_ref.LifetimeRef.{LifetimeRef}
use Rattle.hir_store.specs.declared.type_ref.LifetimeRef.TheVariants as lifetime
use Rattle.hir_store.specs.declared.type_ref.TraitBoundModifier.TheVariants as modifier
use Rattle.hir_env.specs.declared.ctx.ImplTrait.TheVariants as becomes
use Rattle.hir_env.specs.ResolvedTree as tree
use Rattle.hir_env.specs.ResolvedTree.{Expr}
use Rattle.hir_env.specs.ResolveCtx.{ResolveCtx, site_of}
use Rattle.spec_data.specs.Data as datum
use Rattle.spec_data.specs.Data.{BoundData, TypeData}
use Rattle.spec_data.specs.Trees.{bare_segment, error_data, impl_at, never_at, never_data, no_range, node, pointer}
use Rattle.hir_lower_item.specs.Answering.{resolved_generics}
use Rattle.thm_item_generics.specs.AskedFold.{Asking}
use Rattle.thm_item_examples.specs.Trees.{enabled, disabling, lifetime_at, trait_at, maybe_at, for_trait_at, outlives_at, uses_at}
use Rattle.thm_item_examples.specs.Trees.{broken_bound, binder_of, cast_at, impl_by, type_param_at, const_param_at, lifetime_param_at}
use Rattle.thm_item_examples.specs.Trees.{where_of, impl_inside}
use Rattle.thm_item_examples.specs.Read.{Read, generics_read, a_type, type_made, a_bound, a_constant, a_lifetime, lifetime_made}
use Rattle.thm_item_examples.specs.Read.{a_param, a_lifetime_param, Seen}
use Rattle.thm_item_examples.specs.Expected.{text, named_data, data_with, args_of, lifetime_from, bounded_by, parameter_from, absent}
use Rattle.thm_item_examples.specs.Expected.{plain_param, default_param, from_impl, const_alone, const_by, const_with, early, of_parameter}
use Rattle.thm_item_examples.specs.Expected.{of_impl}
use Rattle.thm_item_examples.specs.Expected.{nameless_param, parameter_made, of_bound_type, of_written, outlives, inactive, fault_alone}

module _ (at : ResolveCtx) (def : GenericDefId) where
  -- these parameters and this where clause
  abbrev pub Reads : List AstGenericParam → List AstWherePred → Read → Type 0
  Reads ps ws r = generics_read def (resolved_generics (enabled at) def (Some ps) (Some ws)) ≡ r

  -- these parameters, where a condition disables the first
  abbrev pub ReadsBehind : CfgId → List AstGenericParam → Read → Type 0
  ReadsBehind by ps r = generics_read def (resolved_generics (disabling 1 by at) def (Some ps) None) ≡ r

  -- type parameters

  -- `<T>`, one without a name, and `<T: A = !>`
  pub record ReadsTypeParams : Type 0 where
    pub named : Reads (type_param_at 1 (Some (codes "T")) [] None ∷ []) []
        (record { params = plain_param def (codes "T") ∷ []; lifetimes = []; asks = []; parts = a_param ∷ parameter_made def ∷ [] })
    pub nameless : Reads (type_param_at 1 None [] None ∷ []) []
        (record {
          params = nameless_param def ∷ [];
          lifetimes = [];
          asks = [];
          parts = a_param ∷ parameter_made def ∷ [];
        })
    pub whole : Reads (type_param_at 1 (Some (codes "T")) (trait_at 3 (bare_segment (codes "A")) ∷ []) (Some (never_at 2)) ∷ []) []
        (record {
          params = default_param def (codes "T") (never_data at 2) ∷ [];
          lifetimes = [];
          asks = of_parameter def 0 (bounded_by (named_data at 3 (codes "A"))) ∷ [];
          parts = a_type (never_data at 2) ∷ a_param ∷ parameter_made def ∷ a_bound (bounded_by (named_data at 3 (codes "A"))) ∷ [];
        })

  -- constants

  -- `_`, as a constant
  abbrev pub constant_at : ℕ → Option AstExpr
  constant_at n = Some (record { id = node n; range = no_range; kind = roll-ExprKind ExprKind-F.UnderscoreExpr })

  -- `<const N: !>`, one that lacks its name and its type, and `<const N: ! = _>`
  pub record ReadsConstParams : Type 0 where
    pub named : Reads (const_param_at 1 (Some (codes "N")) (Some (never_at 2)) None ∷ []) []
        (record {
          params = const_alone (text (codes "N")) (never_data at 2) ∷ [];
          lifetimes = [];
          asks = [];
          parts = a_type (never_data at 2) ∷ a_param ∷ [];
        })
    pub nameless : Reads (const_param_at 1 None None None ∷ []) []
        (record { params = const_alone name.Missing absent ∷ []; lifetimes = []; asks = []; parts = type_made absent ∷ a_param ∷ [] })
    pub whole : Reads (const_param_at 1 (Some (codes "N")) (Some (never_at 2)) (Some (constant_at 3)) ∷ []) []
        (record {
          params = const_with (text (codes "N")) (never_data at 2) (pointer at 3) ∷ [];
          lifetimes = [];
          asks = [];
          parts = a_type (never_data at 2) ∷ a_constant (Some (site_of (pointer at 3))) ∷ a_param ∷ [];
        })

  -- lifetimes

  -- of a lifetime with this text, which is none that has a name
  abbrev pub NamelessLifetime : List ℕ → LifetimeRef → Type 0
  NamelessLifetime t l = Reads (lifetime_param_at 1 (Some (lifetime_at 2 t)) (impl_inside ∷ []) ∷ []) []
      (record { params = []; lifetimes = []; asks = []; parts = a_lifetime (record { lifetime = l; from = Some (pointer at 2) }) ∷ [] })

  -- `<'a>`, and with a bound that an `impl` is in: `<'static: ..>`, `<'_: ..>`, `<': ..>`, and one that a text lacks
  pub record ReadsLifetimeParams : Type 0 where
    pub named : Reads (lifetime_param_at 1 (Some (lifetime_at 2 (codes "'a"))) [] ∷ []) []
        (record {
          params = [];
          lifetimes = early (codes "'a") ∷ [];
          asks = [];
          parts = a_lifetime (lifetime_from at 2 (codes "'a")) ∷ a_lifetime_param ∷ [];
        })
    pub static_ : NamelessLifetime (codes "'static") lifetime.Static
    pub placeholder : NamelessLifetime (codes "'_") lifetime.Placeholder
    pub lone : NamelessLifetime (codes "'") lifetime.Error
    pub lacking : Reads (lifetime_param_at 1 None (impl_inside ∷ []) ∷ []) []
        (record {
          params = [];
          lifetimes = [];
          asks = [];
          parts = lifetime_made (record { lifetime = lifetime.Placeholder; from = None }) ∷ [];
        })

  -- order, and what is disabled

  -- `<'a, T, const N: !, U: A>`
  abbrev pub InWrittenOrder : Type 0
  InWrittenOrder = Reads
      (lifetime_param_at 1 (Some (lifetime_at 2 (codes "'a"))) []
      ∷ type_param_at 3 (Some (codes "T")) [] None
      ∷ const_param_at 4 (Some (codes "N")) (Some (never_at 5)) None
      ∷ type_param_at 6 (Some (codes "U")) (trait_at 7 (bare_segment (codes "A")) ∷ []) None ∷ []) []
      (record {
        params = plain_param def (codes "T") ∷ const_alone (text (codes "N")) (never_data at 5) ∷ plain_param def (codes "U") ∷ [];
        lifetimes = early (codes "'a") ∷ [];
        asks = of_parameter def 2 (bounded_by (named_data at 7 (codes "A"))) ∷ [];
        parts = a_lifetime (lifetime_from at 2 (codes "'a")) ∷ a_lifetime_param
            ∷ a_param ∷ parameter_made def
            ∷ a_type (never_data at 5) ∷ a_param
            ∷ a_param ∷ parameter_made def ∷ a_bound (bounded_by (named_data at 7 (codes "A"))) ∷ [];
      })

  -- a type parameter with bound and default, a constant with type and default, and a lifetime with a bound, each disabled; and the first
  -- in front of `U: A`
  pub record ReadsDisabled (by : CfgId) : Type 0 where
    pub type_ : ReadsBehind by (type_param_at 1 (Some (codes "T")) (impl_inside ∷ []) (Some (never_at 2)) ∷ []) (fault_alone at 1 by)
    pub const_ : ReadsBehind by (const_param_at 1 (Some (codes "N")) (Some (never_at 2)) (Some (constant_at 3)) ∷ [])
        (fault_alone at 1 by)
    pub lifetime_ : ReadsBehind by (lifetime_param_at 1 (Some (lifetime_at 2 (codes "'a"))) (outlives_at 3 (codes "'b") ∷ []) ∷ [])
        (fault_alone at 1 by)
    pub before : ReadsBehind by (type_param_at 1 (Some (codes "T")) (impl_inside ∷ []) None
        ∷ type_param_at 2 (Some (codes "U")) (trait_at 3 (bare_segment (codes "A")) ∷ []) None ∷ [])
        (record {
          params = plain_param def (codes "U") ∷ [];
          lifetimes = [];
          asks = of_parameter def 0 (bounded_by (named_data at 3 (codes "A"))) ∷ [];
          parts = inactive at 1 by ∷ a_param ∷ parameter_made def ∷ a_bound (bounded_by (named_data at 3 (codes "A"))) ∷ [];
        })

  -- bounds

  -- `A + ?A + 'a + use<'a> + for<'b> A`, and a bound that a broken text lacks
  abbrev pub all_bounds : List AstTypeBound
  all_bounds =
      trait_at 2 (bare_segment (codes "A")) ∷ maybe_at 3 (bare_segment (codes "A")) ∷ outlives_at 4 (codes "'a") ∷ uses_at 5 (codes "'a")
      ∷ for_trait_at 6 (codes "'b") (bare_segment (codes "A")) ∷ broken_bound ∷ []

  abbrev pub maybe_data : BoundData
  maybe_data = datum.path_bound (named_data at 3 (codes "A")) modifier.Maybe

  abbrev pub for_data : BoundData
  for_data = datum.for_bound (text (codes "'b") ∷ []) (named_data at 6 (codes "A"))

  -- all of them
  abbrev pub all_data : List BoundData
  all_data = bounded_by (named_data at 2 (codes "A")) ∷ maybe_data ∷ datum.lifetime_bound (lifetime_from at 4 (codes "'a"))
      ∷ datum.use_bound (datum.lifetime_used (lifetime_from at 5 (codes "'a")) ∷ []) ∷ for_data ∷ datum.error_bound ∷ []

  abbrev pub all_read : List Seen
  all_read = map a_bound all_data

  -- of a type parameter, and of a lifetime
  pub record AsksByBounds : Type 0 where
    pub of_type : Reads (type_param_at 1 (Some (codes "T")) all_bounds None ∷ []) []
        (record {
          params = plain_param def (codes "T") ∷ [];
          lifetimes = [];
          asks = of_parameter def 0 (bounded_by (named_data at 2 (codes "A"))) ∷ of_parameter def 0 maybe_data
              ∷ of_parameter def 0 (datum.lifetime_bound (lifetime_from at 4 (codes "'a"))) ∷ of_parameter def 0 for_data ∷ [];
          parts = a_param ∷ parameter_made def ∷ all_read;
        })
    pub of_lifetime : Reads (lifetime_param_at 1 (Some (lifetime_at 1 (codes "'c"))) all_bounds ∷ []) []
        (record {
          params = [];
          lifetimes = early (codes "'c") ∷ [];
          asks = outlives (lifetime_from at 1 (codes "'c")) (lifetime_from at 4 (codes "'a")) ∷ [];
          parts = a_lifetime (lifetime_from at 1 (codes "'c")) ∷ a_lifetime_param ∷ all_read;
        })

  -- where clauses

  abbrev pub bounded : List AstTypeBound
  bounded = trait_at 2 (bare_segment (codes "A")) ∷ []

  -- what is asked and read alone
  abbrev pub asking_alone : List Asking → List Seen → Read
  asking_alone xs parts = record { params = []; lifetimes = []; asks = xs; parts = parts }

  -- `where !: A`, `where for<'b, > !: A` with a lifetime that the text lacks, `where for<> !: A`, `where 'c: ..` with all bounds above,
  -- and with neither type nor lifetime
  pub record ReadsWhereClauses : Type 0 where
    pub of_type : Reads [] (where_of (Some (never_at 1)) None None bounded ∷ [])
        (asking_alone (of_written (never_data at 1) (bounded_by (named_data at 2 (codes "A"))) ∷ [])
        (a_type (never_data at 1) ∷ a_bound (bounded_by (named_data at 2 (codes "A"))) ∷ []))
    pub binding : Reads []
        (where_of (Some (never_at 1)) None (Some (binder_of (Some (lifetime_at 9 (codes "'b")) ∷ None ∷ []))) bounded ∷ [])
        (asking_alone (of_bound_type (Some (text (codes "'b") ∷ name.Missing ∷ [])) (never_data at 1)
        (bounded_by (named_data at 2 (codes "A"))) ∷ [])
        (a_type (never_data at 1) ∷ a_bound (bounded_by (named_data at 2 (codes "A"))) ∷ []))
    pub empty : Reads [] (where_of (Some (never_at 1)) None (Some (binder_of [])) bounded ∷ [])
        (asking_alone (of_bound_type (Some []) (never_data at 1) (bounded_by (named_data at 2 (codes "A"))) ∷ [])
        (a_type (never_data at 1) ∷ a_bound (bounded_by (named_data at 2 (codes "A"))) ∷ []))
    pub of_lifetime : Reads [] (where_of None (Some (lifetime_at 1 (codes "'c"))) None all_bounds ∷ [])
        (asking_alone (outlives (lifetime_from at 1 (codes "'c")) (lifetime_from at 4 (codes "'a")) ∷ [])
        (a_lifetime (lifetime_from at 1 (codes "'c")) ∷ all_read))
    pub of_nothing : Reads [] (where_of None None None (impl_inside ∷ []) ∷ []) (asking_alone [] [])

  -- `<T: A> where !: B`
  abbrev pub ParametersFirst : Type 0
  ParametersFirst = Reads (type_param_at 1 (Some (codes "T")) bounded None ∷ [])
      (where_of (Some (never_at 3)) None None (trait_at 4 (bare_segment (codes "B")) ∷ []) ∷ [])
      (record {
        params = plain_param def (codes "T") ∷ [];
        lifetimes = [];
        asks = of_parameter def 0 (bounded_by (named_data at 2 (codes "A")))
            ∷ of_written (never_data at 3) (bounded_by (named_data at 4 (codes "B"))) ∷ [];
        parts = a_param ∷ parameter_made def ∷ a_bound (bounded_by (named_data at 2 (codes "A")))
            ∷ a_type (never_data at 3) ∷ a_bound (bounded_by (named_data at 4 (codes "B"))) ∷ [];
      })

  -- `impl`s

  -- `A<impl B>`, where the `impl` is a parameter
  abbrev pub with_parameter : BoundData
  with_parameter = bounded_by (data_with at 4 (codes "A") (args_of (datum.type_argument (parameter_from at 5 def))))

  -- `as impl`, where the `impl` is an error
  abbrev pub cast_to_error : Expr
  cast_to_error = tree.cast_expr (pointer at 3) tree.no_expr (tree.some_type (tree.impl_type (pointer at 4) becomes.Error tree.no_bounds))

  -- `<T: A<impl B>, U: A>`, `<'c: A<impl B>>`, `where !: A<impl B>`, `where 'c: A<impl B>`, `<T = impl B>`, `<const N: impl B>`,
  -- `<const N: ! = as impl>`, and `where impl B: A`
  pub record ReadsImpls : Type 0 where
    pub in_bound : Reads (type_param_at 1 (Some (codes "T")) (impl_inside ∷ []) None ∷ type_param_at 2 (Some (codes "U")) bounded None ∷ [])
        []
        (record {
          params = plain_param def (codes "T") ∷ from_impl def (pointer at 5) ∷ plain_param def (codes "U") ∷ [];
          lifetimes = [];
          asks = of_impl def 1 (pointer at 5) (bounded_by (named_data at 9 (codes "B"))) ∷ of_parameter def 0 with_parameter
              ∷ of_parameter def 2 (bounded_by (named_data at 2 (codes "A"))) ∷ [];
          parts = a_param ∷ parameter_made def ∷ a_bound with_parameter
              ∷ a_param ∷ parameter_made def ∷ a_bound (bounded_by (named_data at 2 (codes "A"))) ∷ [];
        })
    pub of_lifetime : Reads (lifetime_param_at 1 (Some (lifetime_at 1 (codes "'c"))) (impl_inside ∷ []) ∷ []) []
        (record {
          params = from_impl def (pointer at 5) ∷ [];
          lifetimes = early (codes "'c") ∷ [];
          asks = of_impl def 0 (pointer at 5) (bounded_by (named_data at 9 (codes "B"))) ∷ [];
          parts = a_lifetime (lifetime_from at 1 (codes "'c")) ∷ a_lifetime_param ∷ a_bound with_parameter ∷ [];
        })
    pub in_where : Reads [] (where_of (Some (never_at 1)) None None (impl_inside ∷ []) ∷ [])
        (record {
          params = from_impl def (pointer at 5) ∷ [];
          lifetimes = [];
          asks = of_impl def 0 (pointer at 5) (bounded_by (named_data at 9 (codes "B"))) ∷ of_written (never_data at 1) with_parameter ∷ [];
          parts = a_type (never_data at 1) ∷ a_bound with_parameter ∷ [];
        })
    pub where_lifetime : Reads [] (where_of None (Some (lifetime_at 1 (codes "'c"))) None (impl_inside ∷ []) ∷ [])
        (record {
          params = from_impl def (pointer at 5) ∷ [];
          lifetimes = [];
          asks = of_impl def 0 (pointer at 5) (bounded_by (named_data at 9 (codes "B"))) ∷ [];
          parts = a_lifetime (lifetime_from at 1 (codes "'c")) ∷ a_bound with_parameter ∷ [];
        })
    pub in_default : Reads (type_param_at 1 (Some (codes "T")) [] (Some (impl_at 2 (bare_segment (codes "B")))) ∷ []) []
        (record {
          params = default_param def (codes "T") (error_data at 2) ∷ [];
          lifetimes = [];
          asks = [];
          parts = a_type (error_data at 2) ∷ a_param ∷ parameter_made def ∷ [];
        })
    pub in_const : Reads (const_param_at 1 (Some (codes "N")) (Some (impl_at 2 (bare_segment (codes "B")))) None ∷ []) []
        (record {
          params = const_alone (text (codes "N")) (error_data at 2) ∷ [];
          lifetimes = [];
          asks = [];
          parts = a_type (error_data at 2) ∷ a_param ∷ [];
        })
    pub in_constant : Reads (const_param_at 1 (Some (codes "N")) (Some (never_at 2)) (Some (Some (cast_at 3 (impl_by 4 [])))) ∷ []) []
        (record {
          params = const_by (text (codes "N")) (never_data at 2) (pointer at 3) cast_to_error ∷ [];
          lifetimes = [];
          asks = [];
          parts = a_type (never_data at 2) ∷ a_constant (Some (site_of (pointer at 3))) ∷ a_param ∷ [];
        })
    pub in_target : Reads [] (where_of (Some (impl_at 1 (bare_segment (codes "B")))) None None bounded ∷ [])
        (asking_alone (of_written (error_data at 1) (bounded_by (named_data at 2 (codes "A"))) ∷ [])
        (a_type (error_data at 1) ∷ a_bound (bounded_by (named_data at 2 (codes "A"))) ∷ []))

-- theorems, for each environment, wherever an item stands

abbrev pub Everywhere : (ResolveCtx → GenericDefId → Type 0) → Type 0
Everywhere Claim = (at : ResolveCtx) (def : GenericDefId) → Claim at def

abbrev pub DisabledAnywhere : Type 0
DisabledAnywhere = (at : ResolveCtx) (def : GenericDefId) (by : CfgId) → ReadsDisabled at def by
