-- Small functions with lifetime parameters, and whether these are bound early or late.
use Rattle.std.specs.Prelude.{◌≡◌, codes, true, false, List, [], ◌∷◌, map, Option, Some, None, option_map}
use Rattle.hir_syntax.specs.declared.ast.ElseBranch.TheOpen.{TypeKind-F}
use Rattle.hir_syntax.specs.declared.ast.Path.{roll-Path}
use Rattle.hir_syntax.specs.declared.ast.PathSegment.{PathSegment as AstPathSegment, roll-PathSegment}
use Rattle.hir_syntax.specs.declared.ast.SegmentKind.TheVariants as segment
use Rattle.hir_syntax.specs.declared.params.SelfParam.{SelfParam as AstSelfParam}
use Rattle.hir_syntax.specs.declared.types.TypeBound.{TypeBound as AstTypeBound}
use Rattle.hir_syntax.specs.declared.types.Type_.{Type_ as AstType}
use Rattle.hir_syntax.specs.declared.items.Fn.{Fn as AstFn}
use Rattle.hir_syntax.specs.declared.items.GenericParam.{GenericParam as AstGenericParam}
use Rattle.hir_syntax.specs.declared.items.WherePred.{WherePred as AstWherePred}
use Rattle.hir_store.specs.declared.generics.LifetimeParamData.{LifetimeParamData}
use Rattle.hir_store.specs.declared.ids.GenericDefId.{GenericDefId}
use Rattle.hir_store.specs.declared.ids.TypeAliasId.{TypeAliasId}
use Rattle.hir_alias.specs.Alias.{Alias}
use Rattle.hir_env.specs.declared.resolved.Resolution.{Resolution}
use Rattle.hir_env.specs.declared.resolved.Resolution.TheVariants as resolution
use Rattle.hir_env.specs.ResolveCtx.{ResolveCtx}
use Rattle.spec_data.specs.Trees.{bare_segment, impl_at, never_at, no_range, node, segment_of, type_at, with_argument}
use Rattle.hir_lower_item.specs.Answering.{resolved_function}
use Rattle.thm_item_examples.specs.Trees.{binder_of, cast_at, const_param_at, enabled, lifetime_arg_at, lifetime_at, lifetime_param_at}
use Rattle.thm_item_examples.specs.Trees.{outlives_at}
use Rattle.thm_item_examples.specs.Trees.{param_at, param_list, path_at, reference_at, self_at, trait_at, trait_path_at, type_param_at}
use Rattle.thm_item_examples.specs.Trees.{where_of}
use Rattle.thm_item_examples.specs.Read.{function_read}
use Rattle.thm_item_examples.specs.Expected.{early, late}
use Rattle.thm_item_examples.specs.FunctionRows.{fn_of}

-- functions: `'a` in what follows is a parameter of each

-- where all types are answered as this, and all aliases as that
abbrev pub resolving : Option Resolution → Option Alias → ResolveCtx → ResolveCtx
resolving r x at = record (enabled at) {
  answers = record (enabled at).answers { resolve = λ m names s. record { types = r; values = None; rest = None }; alias = λ n. x };
}

abbrev pub a_param_of : List AstTypeBound → AstGenericParam
a_param_of bs = lifetime_param_at 1 (Some (lifetime_at 1 (codes "'a"))) bs

abbrev pub b_param : AstGenericParam
b_param = lifetime_param_at 2 (Some (lifetime_at 2 (codes "'b"))) []

-- `&'a !`, and `&'b !`
abbrev pub a_reference : AstType
a_reference = reference_at 3 (codes "'a")

abbrev pub b_reference : AstType
b_reference = reference_at 6 (codes "'b")

-- `A<'a>`, as a bound, and an `impl` of it
abbrev pub with_a : AstPathSegment
with_a = with_argument (codes "A") (lifetime_arg_at 4 (codes "'a"))

abbrev pub bound_with_a : AstTypeBound
bound_with_a = trait_at 5 with_a

abbrev pub impl_with_a : AstType
impl_with_a = impl_at 6 with_a

-- with these parameters and this where clause, given this, and returning that
abbrev pub from_to : List AstGenericParam → List AstWherePred → List AstType → Option AstType → AstFn
from_to ps ws ts r =
    fn_of (Some ps) (Some ws) (Some (param_list None (map (λ t. param_at 7 (Some t)) ts))) (option_map Some r) false false

-- with `'a` alone
abbrev pub of_a : List AstGenericParam
of_a = a_param_of [] ∷ []

-- given this `self`, and returning `&'a !`
abbrev pub of_self : AstSelfParam → AstFn
of_self x = fn_of (Some of_a) None (Some (param_list (Some x) [])) (Some (Some a_reference)) false false

-- `for<'a> &'a !`
abbrev pub for_a : AstType
for_a = type_at 8 (TypeKind-F.ForType (Some (binder_of (Some (lifetime_at 9 (codes "'a")) ∷ []))) (Some a_reference))

-- `<! as A<'a>>::B`, and `<&'a ! as A>::B`
abbrev pub qualified : AstType → AstPathSegment → AstPathSegment
qualified t s = roll-PathSegment (record {
  id = node 9;
  range = no_range;
  seg = Some segment.Qualified;
  name = None;
  generics = None;
  parens = None;
  ret = None;
  rtn = false;
  ty = Some t;
  trait_ = Some (trait_path_at 8 s);
})

abbrev pub projection : AstType → AstPathSegment → AstType
projection t s = type_at 9 (TypeKind-F.PathType (Some (roll-Path (record {
  id = node 9;
  range = no_range;
  leading = false;
  use_ = None;
  segs = Some (qualified t s) ∷ Some (bare_segment (codes "B")) ∷ [];
  in_macro = false;
}))))

-- `A<'a, 'b>`, and `(&'a !, &'b !)`
abbrev pub with_both : AstType
with_both =
    path_at 8 (segment_of (codes "A") (Some (lifetime_arg_at 4 (codes "'a") ∷ lifetime_arg_at 5 (codes "'b") ∷ [])) None None)

abbrev pub both_references : AstType
both_references = type_at 9 (TypeKind-F.TupleType (a_reference ∷ b_reference ∷ []))

-- `fn<'a, 'b>(_: A<'a, 'b>) -> (&'a !, &'b !)`
abbrev pub by_alias : AstFn
by_alias = from_to (a_param_of [] ∷ b_param ∷ []) [] (with_both ∷ []) (Some both_references)

module _ (at : ResolveCtx) (def : GenericDefId) where
  -- its lifetimes, where no path is an alias
  abbrev pub Kinds : AstFn → List LifetimeParamData → Type 0
  Kinds x ls = (function_read def (resolved_function (resolving None None at) def x)).lifetimes ≡ ls

  abbrev pub Early : AstFn → Type 0
  Early x = Kinds x (early (codes "'a") ∷ [])

  abbrev pub Late : AstFn → Type 0
  Late x = Kinds x (late (codes "'a") ∷ [])

  -- `fn()`, `fn() -> &'a !`, `fn(_: &'a !)`, `fn(_: &'a !) -> &'a !`, `fn(_: A<'a>) -> &'a !`, `fn(&'a self) -> &'a !`,
  -- `fn(self: &'a !) -> &'a !`, and both in one: `fn<'a, 'b>(_: &'a !) -> (&'a !, &'b !)`
  pub record KindsByTypes : Type 0 where
    pub unnamed : Late (from_to of_a [] [] None)
    pub returned : Early (from_to of_a [] [] (Some a_reference))
    pub given : Late (from_to of_a [] (a_reference ∷ []) None)
    pub both : Late (from_to of_a [] (a_reference ∷ []) (Some a_reference))
    pub in_path : Late (from_to of_a [] (path_at 8 with_a ∷ []) (Some a_reference))
    pub behind_self : Late (of_self (self_at 8 true false (Some (lifetime_at 8 (codes "'a"))) None))
    pub typed_self : Late (of_self (self_at 8 false false None (Some a_reference)))
    pub of_two : Kinds (from_to (a_param_of [] ∷ b_param ∷ []) [] (a_reference ∷ []) (Some both_references))
        (late (codes "'a") ∷ early (codes "'b") ∷ [])

  -- each given `&'a !`: `<'a: 'b, 'b>`, `<'a: A>`, `<'a, T: 'a>`, `<'a, T: A<'a>>`, `where 'a: 'static`, `where 'a: A`, `where !: A<'a>`,
  -- and `where &'a !: A`; and `where 'a: 'b` of `<'a, 'b>`, given `&'b !`
  pub record KindsByBounds : Type 0 where
    pub of_lifetime : Kinds (from_to (a_param_of (outlives_at 3 (codes "'b") ∷ []) ∷ b_param ∷ []) [] (a_reference ∷ []) None)
        (early (codes "'a") ∷ early (codes "'b") ∷ [])
    pub by_trait : Late (from_to (a_param_of (trait_at 3 (bare_segment (codes "A")) ∷ []) ∷ []) [] (a_reference ∷ []) None)
    pub of_type : Early (from_to (a_param_of [] ∷ type_param_at 2 None (outlives_at 3 (codes "'a") ∷ []) None ∷ []) []
        (a_reference ∷ []) None)
    pub inside : Early (from_to (a_param_of [] ∷ type_param_at 2 None (bound_with_a ∷ []) None ∷ []) [] (a_reference ∷ []) None)
    pub where_of_it : Early (from_to of_a
        (where_of None (Some (lifetime_at 2 (codes "'a"))) None (outlives_at 3 (codes "'static") ∷ []) ∷ []) (a_reference ∷ []) None)
    pub where_by_other : Kinds (from_to (a_param_of [] ∷ b_param ∷ [])
        (where_of None (Some (lifetime_at 2 (codes "'a"))) None (outlives_at 3 (codes "'b") ∷ []) ∷ []) (b_reference ∷ []) None)
        (early (codes "'a") ∷ early (codes "'b") ∷ [])
    pub where_by_trait : Early (from_to of_a
        (where_of None (Some (lifetime_at 2 (codes "'a"))) None (trait_at 3 (bare_segment (codes "A")) ∷ []) ∷ []) (a_reference ∷ []) None)
    pub where_inside : Early (from_to of_a (where_of (Some (never_at 2)) None None (bound_with_a ∷ []) ∷ []) (a_reference ∷ []) None)
    pub where_target : Early (from_to of_a (where_of (Some a_reference) None None (trait_at 3 (bare_segment (codes "A")) ∷ []) ∷ [])
        (a_reference ∷ []) None)

  -- `fn(_: impl A<'a>)`, `fn() -> impl A<'a>`, `fn(_: &'a !) -> impl A<'a>`, `fn<'a, T = &'a !>(_: &'a !)`, `fn<'a, T = impl A<'a>>()`,
  -- and `fn<'a, const N: &'a !>(_: &'a !)`
  pub record KindsByImpls : Type 0 where
    pub given : Early (from_to of_a [] (impl_with_a ∷ []) None)
    pub returned : Early (from_to of_a [] [] (Some impl_with_a))
    pub both : Late (from_to of_a [] (a_reference ∷ []) (Some impl_with_a))
    pub in_default : Late (from_to (a_param_of [] ∷ type_param_at 2 None [] (Some a_reference) ∷ []) [] (a_reference ∷ []) None)
    pub default_impl : Early (from_to (a_param_of [] ∷ type_param_at 2 None [] (Some impl_with_a) ∷ []) [] [] None)
    pub in_const : Late (from_to (a_param_of [] ∷ const_param_at 2 None (Some a_reference) None ∷ []) [] (a_reference ∷ []) None)

  -- Beside this parameter `'a` is late bound where nothing is given or returned, and early bound where `&'a !` is returned: so it isn't
  -- named there.
  pub record NamesNothing (x : AstGenericParam) : Type 0 where
    pub alone : Late (from_to (a_param_of [] ∷ x ∷ []) [] [] None)
    pub returned : Early (from_to (a_param_of [] ∷ x ∷ []) [] [] (Some a_reference))

  -- `T = &'a !`, `const N: &'a !`, and `const N: ! = as &'a !`
  pub record KindsByDefaults : Type 0 where
    pub of_type : NamesNothing (type_param_at 2 None [] (Some a_reference))
    pub typed : NamesNothing (const_param_at 2 None (Some a_reference) None)
    pub of_const : NamesNothing (const_param_at 2 None (Some (never_at 8)) (Some (Some (cast_at 8 a_reference))))

  -- each returning `&'a !`: `fn(_: <! as A<'a>>::B)`, `fn(_: <&'a ! as A>::B)`, and `fn(_: for<'a> &'a !)`
  pub record KindsByProjections : Type 0 where
    pub in_trait : Early (from_to of_a [] (projection (never_at 7) with_a ∷ []) (Some a_reference))
    pub in_type : Early (from_to of_a [] (projection a_reference (bare_segment (codes "A")) ∷ []) (Some a_reference))
    pub bound_inside : Late (from_to of_a [] (for_a ∷ []) (Some a_reference))

  -- where A is no alias, an alias whose type names its second lifetime alone, and one that isn't answered
  pub record KindsByAliases (n : TypeAliasId) (x : Alias) : Type 0 where
    pub no_alias : Kinds by_alias (late (codes "'a") ∷ late (codes "'b") ∷ [])
    pub second : let at' = resolving (Some (resolution.TypeAlias n)) (Some (record x { named = false ∷ true ∷ [] })) at in
        (function_read def (resolved_function at' def by_alias)).lifetimes ≡ early (codes "'a") ∷ late (codes "'b") ∷ []
    pub unanswered : (function_read def (resolved_function (resolving (Some (resolution.TypeAlias n)) None at) def by_alias)).lifetimes
        ≡ early (codes "'a") ∷ early (codes "'b") ∷ []

-- theorems, for each environment, wherever a function stands

abbrev pub TypesDecide : Type 0
TypesDecide = (at : ResolveCtx) (def : GenericDefId) → KindsByTypes at def

abbrev pub BoundsDecide : Type 0
BoundsDecide = (at : ResolveCtx) (def : GenericDefId) → KindsByBounds at def

abbrev pub ImplsDecide : Type 0
ImplsDecide = (at : ResolveCtx) (def : GenericDefId) → KindsByImpls at def

abbrev pub DefaultsNameNothing : Type 0
DefaultsNameNothing = (at : ResolveCtx) (def : GenericDefId) → KindsByDefaults at def

abbrev pub ProjectionsConstrainNothing : Type 0
ProjectionsConstrainNothing = (at : ResolveCtx) (def : GenericDefId) → KindsByProjections at def

abbrev pub AliasesConstrainWhatTheyName : Type 0
AliasesConstrainWhatTheyName = (at : ResolveCtx) (def : GenericDefId) (n : TypeAliasId) (x : Alias) → KindsByAliases at def n x
