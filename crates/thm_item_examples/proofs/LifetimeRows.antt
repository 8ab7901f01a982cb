-- Small functions with lifetime parameters, computed.
use Rattle.std.proofs.Common.{◌≡◌, ◌∙◌, refl, ap, codes, true, false, List, [], ◌∷◌, Option, Some, None}
use Rattle.hir_syntax.specs.declared.ast.PathSegment.{PathSegment as AstPathSegment}
use Rattle.hir_syntax.specs.declared.types.Type_.{Type_ as AstType}
use Rattle.hir_store.specs.declared.generics.LifetimeParamData.{LifetimeParamData}
use Rattle.hir_store.specs.declared.hir.Mutability.TheVariants.{Shared}
use Rattle.hir_store.specs.declared.ids.GenericDefId.{GenericDefId}
use Rattle.hir_store.specs.declared.name.Name.TheVariants as name
use Rattle.hir_alias.specs.Alias.{Alias}
use Rattle.hir_env.specs.declared.resolved.Resolution.{Resolution}
use Rattle.hir_env.specs.declared.resolved.Resolution.TheVariants as resolution
use Rattle.hir_env.specs.ResolvedTree as tree
use Rattle.hir_env.specs.ResolvedTree.{Arg, Bounds, Constant, OptionRet, OptionType, Path, Segment, Type_}
use Rattle.hir_env.specs.Paths as of
use Rattle.hir_env.specs.Paths.{inside_projection}
use Rattle.hir_env.specs.ResolveCtx.{ResolveCtx}
use Rattle.hir_env.specs.TypeLayers.{PathTypeReading}
use Rattle.hir_env.specs.Whole.{resolved_bound, resolved_constant, resolved_path_type, resolved_segment, resolved_type, in_constant}
use Rattle.hir_env.specs.Whole.{in_impl}
use Rattle.hir_lower_item.specs.Answering.{resolved_argument, resolved_function, at_place, in_arguments, in_bounds, in_output, in_plain}
use Rattle.hir_lower_item.specs.Answering.{in_target}
use Rattle.hir_lower_item.specs.Items as item
use Rattle.hir_lower_item.specs.Items.{Argument, Function, Generics, Param, Predicate, Receiver}
use Rattle.spec_data.specs.Trees.{bare_segment, never_at, pointer, segment_of}
use Rattle.spec_data.proofs.Trees.{never_is, path_made, path_type_made, segment_made, type_made}
use Rattle.thm_item_examples.specs.Trees.{cast_at, lifetime_arg_at, param_at, path_at, trait_path_at}
use Rattle.thm_item_examples.specs.Read.{function_read}
use Rattle.thm_item_examples.specs.Expected.{text}
use Rattle.thm_item_examples.specs.LifetimeRows.{AliasesConstrainWhatTheyName, BoundsDecide, DefaultsNameNothing, ImplsDecide}
use Rattle.thm_item_examples.specs.LifetimeRows.{ProjectionsConstrainNothing, TypesDecide, a_reference, b_reference, both_references}
use Rattle.thm_item_examples.specs.LifetimeRows.{bound_with_a, by_alias}
use Rattle.thm_item_examples.specs.LifetimeRows.{for_a, impl_with_a, projection}
use Rattle.thm_item_examples.specs.LifetimeRows.{qualified, resolving, with_a, with_both}
use Rattle.thm_item_examples.proofs.Levels.{a_is, a_with, aliased, alone, b_is, impl_in, impl_is, lifetime_arg_is, lifetime_in, list_with}
use Rattle.thm_item_examples.proofs.Levels.{cast_in, cast_is, outlives_is, path_is, reference_in, reference_is, segment_with, trait_in}
use Rattle.thm_item_examples.proofs.Levels.{trait_is}
use Rattle.thm_item_examples.proofs.Small.{one, trait_a}
use Rattle.thm_item_examples.proofs.FunctionRows.{typed_is}

-- types at any spot

module _ (at : ResolveCtx) where
  pub a_ref_is : resolved_type at a_reference ≡ reference_in at 3 (codes "'a")
  a_ref_is = reference_is at 3 (codes "'a")

  -- `A<'a>`
  abbrev pub with_in : Segment
  with_in = segment_with at (codes "A") (list_with at (tree.lifetime_arg (lifetime_in at 4 (codes "'a"))))

  pub with_is : resolved_segment at with_a ≡ with_in
  with_is = a_with at _ (lifetime_arg_is at 4 (codes "'a"))

  pub bound_is : resolved_bound at bound_with_a ≡ trait_in at 5 with_in false []
  bound_is = trait_is at 5 with_a with_is

  pub impl_a_is : resolved_type at impl_with_a ≡ impl_in at 6 (segment_with (in_impl at) (codes "A")
      (list_with (in_impl at) (tree.lifetime_arg (lifetime_in (in_impl at) 4 (codes "'a")))))
  impl_a_is = impl_is at 6 with_a (a_with (in_impl at) _ (lifetime_arg_is (in_impl at) 4 (codes "'a")))

  pub path_a_is : resolved_type at (path_at 8 with_a) ≡ tree.path_type (pointer at 8) (tree.some_path (aliased at with_in))
  path_a_is = path_is at 8 with_a with_is

  pub for_a_is : resolved_type at for_a ≡ tree.for_type (text (codes "'a") ∷ []) (tree.some_type (reference_in at 3 (codes "'a")))
  for_a_is = type_made at 8 _ ∙ ap (λ t. tree.for_type (text (codes "'a") ∷ []) (tree.some_type t)) a_ref_is

  abbrev pub pair_of : Type_ → Type_ → Type_
  pair_of t u = tree.tuple_type (pointer at 9) (tree.more_parts (tree.some_type t) (tree.more_parts (tree.some_type u) tree.no_parts))

  pub both_refs_are : resolved_type at both_references ≡ pair_of (reference_in at 3 (codes "'a")) (reference_in at 6 (codes "'b"))
  both_refs_are = type_made at 9 _ ∙ (λ i. pair_of (a_ref_is i) (reference_is at 6 (codes "'b") i))

  -- `A<'a, 'b>`
  abbrev both_args : Arg → Arg → Segment
  both_args a b = segment_with at (codes "A")
      (tree.segment_args (tree.some_arg_list (tree.more_args a (tree.more_args b tree.no_args))) tree.no_parens false)

  abbrev pub both_in : Segment
  both_in = both_args (tree.lifetime_arg (lifetime_in at 4 (codes "'a"))) (tree.lifetime_arg (lifetime_in at 5 (codes "'b")))

  both_args_are : resolved_segment at
      (segment_of (codes "A") (Some (lifetime_arg_at 4 (codes "'a") ∷ lifetime_arg_at 5 (codes "'b") ∷ [])) None None) ≡ both_in
  both_args_are = segment_made at _
      ∙ (λ i. both_args (lifetime_arg_is at 4 (codes "'a") i) (lifetime_arg_is at 5 (codes "'b") i))

  pub with_both_is : resolved_type at with_both ≡ tree.path_type (pointer at 8) (tree.some_path (aliased at both_in))
  with_both_is = path_is at 8 _ both_args_are

  -- the type and the trait of a projection
  abbrev pub projected : ResolveCtx
  projected = record at { place = inside_projection at.place }

  trait_read_is : (s : AstPathSegment) {x : Segment} → resolved_segment projected s ≡ x
      → resolved_path_type projected (trait_path_at 8 s)
      ≡ record { pointer = pointer at 8; path = tree.some_path (aliased projected x) }
  trait_read_is s h = path_type_made projected _
      ∙ (ap (λ p. record { pointer = pointer at 8; path = tree.some_path p }) (path_made projected _)
      ∙ ap (λ x. record { pointer = pointer at 8; path = tree.some_path (aliased projected x) }) h)

  abbrev behind : Type_ → PathTypeReading → Path
  behind t x = tree.path None false (tree.trait_segment t x.pointer x.path)
      (tree.more_segments (segment_with at (codes "B") (alone at)) tree.no_segments) tree.no_path

  abbrev of_two : Segment → Segment → Path
  of_two s r = tree.path None false s (tree.more_segments r tree.no_segments) tree.no_path

  abbrev as_type : Path → Type_
  as_type p = tree.path_type (pointer at 9) (tree.some_path (of.with_alias (of.alias_at at.answers at.place p) p))

  qualified_is : (t : AstType) (s : AstPathSegment) → let x = resolved_path_type projected (trait_path_at 8 s) in
      resolved_segment at (qualified t s) ≡ tree.trait_segment (resolved_type projected t) x.pointer x.path
  qualified_is t s = segment_made at _

  pub projection_is : (t : AstType) (s : AstPathSegment) {u : Type_} {x : Segment}
      → resolved_type projected t ≡ u → resolved_segment projected s ≡ x
      → resolved_type at (projection t s)
      ≡ as_type (behind u (record { pointer = pointer at 8; path = tree.some_path (aliased projected x) }))
  projection_is t s h g = type_made at 9 _
      ∙ (ap (λ p. tree.path_type (pointer at 9) (tree.some_path p)) (path_made at _)
      ∙ ((λ i. as_type (of_two (qualified_is t s i) (b_is at i)))
      ∙ (λ i. as_type (behind (h i) (trait_read_is s g i)))))

-- functions

module _ (at : ResolveCtx) (def : GenericDefId) (r : Option Resolution) (x : Option Alias) where
  abbrev pub here : ResolveCtx
  here = resolving r x at

  abbrev pub bound_at : ResolveCtx
  bound_at = at_place (in_bounds def) here

  abbrev pub plainly : ResolveCtx
  plainly = at_place in_plain here

  abbrev pub target_at : ResolveCtx
  target_at = at_place in_target here

  abbrev pub given_at : ResolveCtx
  given_at = at_place (in_arguments def) here

  abbrev pub output_at : ResolveCtx
  output_at = at_place in_output here

  abbrev pub a_param : Bounds → Param
  a_param bs = item.lifetime_param (text (codes "'a")) (lifetime_in plainly 1 (codes "'a")) bs

  abbrev pub b_param : Param
  b_param = item.lifetime_param (text (codes "'b")) (lifetime_in plainly 2 (codes "'b")) tree.no_bounds

  abbrev pub t_param : OptionType → Bounds → Param
  t_param d bs = item.type_param name.Missing d bs

  abbrev pub kinds : List Param → List Predicate → List Argument → OptionRet → List LifetimeParamData
  kinds ps ws xs t = (function_read def (record {
    generics = record { params = ps; predicates = ws };
    receiver = item.no_receiver;
    arguments = xs;
    ret = t;
    kind = None;
  })).lifetimes

  abbrev pub alone_a : List Param
  alone_a = a_param tree.no_bounds ∷ []

  abbrev pub with_b : List Param
  with_b = a_param tree.no_bounds ∷ b_param ∷ []

  abbrev pub ret : Type_ → OptionRet
  ret t = tree.some_ret (tree.some_type t)

  -- `_: &'a !`
  pub ref_given : resolved_argument here def (param_at 7 (Some a_reference))
      ≡ item.argument (tree.some_type (reference_in given_at 3 (codes "'a")))
  ref_given = typed_is here def 7 a_reference (a_ref_is given_at)

  -- given and returning these
  abbrev pub arg : Type_ → Argument
  arg t = item.argument (tree.some_type t)

module _ (at : ResolveCtx) (def : GenericDefId) where
  abbrev a_alone : List Param
  a_alone = alone_a at def None None

  abbrev a_by : Bounds → Param
  a_by bs = a_param at def None None bs

  abbrev said : List Param → List Predicate → List Argument → OptionRet → List LifetimeParamData
  said ps ws xs t = kinds at def None None ps ws xs t

  abbrev in_bound : ResolveCtx
  in_bound = bound_at at def None None

  abbrev in_given : ResolveCtx
  in_given = given_at at def None None

  abbrev in_out : ResolveCtx
  in_out = output_at at def None None

  abbrev in_it : ResolveCtx
  in_it = plainly at def None None

  abbrev in_where : ResolveCtx
  in_where = target_at at def None None

  abbrev to : Type_ → OptionRet
  to t = ret at def None None t

  abbrev t_by : OptionType → Bounds → Param
  t_by d bs = t_param at def None None d bs

  -- given a value of a type
  takes : (t : AstType) {u : Type_} → resolved_type in_given t ≡ u
      → resolved_argument (here at def None None) def (param_at 7 (Some t)) ≡ arg at def None None u
  takes t h = typed_is (here at def None None) def 7 t h

  takes_a : resolved_argument (here at def None None) def (param_at 7 (Some a_reference))
      ≡ arg at def None None (reference_in in_given 3 (codes "'a"))
  takes_a = ref_given at def None None

  -- bounds of the first parameter, of a second one, and where clauses, with `_: &'a !`
  abbrev by_first : Bounds → Argument → List LifetimeParamData
  by_first bs x = said (a_by bs ∷ b_param at def None None ∷ []) [] (x ∷ []) tree.no_ret

  abbrev by_second : OptionType → Bounds → Argument → List LifetimeParamData
  by_second d bs x = said (a_by tree.no_bounds ∷ t_by d bs ∷ []) [] (x ∷ []) tree.no_ret

  abbrev by_where : Predicate → Argument → List LifetimeParamData
  by_where w x = said a_alone (w ∷ []) (x ∷ []) tree.no_ret

  -- with `'a` alone, given this `self`
  abbrev by_self : Receiver → Type_ → List LifetimeParamData
  by_self x t = (function_read def (record {
    generics = record { params = a_alone; predicates = [] };
    receiver = x;
    arguments = [];
    ret = to t;
    kind = None;
  })).lifetimes

  -- beside this parameter, given nothing
  abbrev beside : Param → OptionRet → List LifetimeParamData
  beside x r = said (a_by tree.no_bounds ∷ x ∷ []) [] [] r

  abbrev constant_by : Type_ → Option Constant → Param
  constant_by t d = item.const_param name.Missing (tree.some_type t) d

  cast_a : resolved_constant in_it (Some (cast_at 8 a_reference)) ≡ cast_in in_it 8 (reference_in (in_constant in_it) 3 (codes "'a"))
  cast_a = cast_is in_it 8 a_reference refl (a_ref_is (in_constant in_it))

  abbrev of_a : Bounds → Predicate
  of_a bs = item.of_lifetime (lifetime_in in_where 2 (codes "'a")) bs

pub types_decide : TypesDecide
types_decide at def = record {
  unnamed = refl;
  returned = λ i. said at def (a_alone at def) [] [] (to at def (a_ref_is (in_out at def) i));
  given = λ i. said at def (a_alone at def) [] (takes_a at def i ∷ []) tree.no_ret;
  both = λ i. said at def (a_alone at def) [] (takes_a at def i ∷ []) (to at def (a_ref_is (in_out at def) i));
  in_path = λ i. said at def (a_alone at def) [] (takes at def (path_at 8 with_a) (path_a_is (in_given at def)) i ∷ [])
      (to at def (a_ref_is (in_out at def) i));
  behind_self = λ i. by_self at def (item.self_receiver (Some Shared) (Some (lifetime_in (in_given at def) 8 (codes "'a"))))
      (a_ref_is (in_out at def) i);
  typed_self = λ i. by_self at def (item.typed_receiver (a_ref_is (in_given at def) i)) (a_ref_is (in_out at def) i);
  of_two = λ i. said at def (with_b at def None None) [] (takes_a at def i ∷ []) (to at def (both_refs_are (in_out at def) i));
}

pub bounds_decide : BoundsDecide
bounds_decide at def = record {
  of_lifetime = λ i. by_first at def (one (outlives_is (in_bound at def) 3 (codes "'b") i)) (takes_a at def i);
  by_trait = λ i. said at def (a_by at def (one (trait_a (in_bound at def) 3 i)) ∷ []) [] (takes_a at def i ∷ []) tree.no_ret;
  of_type = λ i. by_second at def tree.no_type (one (outlives_is (in_bound at def) 3 (codes "'a") i)) (takes_a at def i);
  inside = λ i. by_second at def tree.no_type (one (bound_is (in_bound at def) i)) (takes_a at def i);
  where_of_it = λ i. by_where at def (of_a at def (one (outlives_is (in_bound at def) 3 (codes "'static") i))) (takes_a at def i);
  where_by_other = λ i. said at def (with_b at def None None)
      (of_a at def (one (outlives_is (in_bound at def) 3 (codes "'b") i)) ∷ [])
      (takes at def b_reference (reference_is (in_given at def) 6 (codes "'b")) i ∷ []) tree.no_ret;
  where_by_trait = λ i. by_where at def (of_a at def (one (trait_a (in_bound at def) 3 i))) (takes_a at def i);
  where_inside = λ i. by_where at def
      (item.of_type (never_is (in_where at def) 2 i) None (one (bound_is (in_bound at def) i))) (takes_a at def i);
  where_target = λ i. by_where at def
      (item.of_type (a_ref_is (in_where at def) i) None (one (trait_a (in_bound at def) 3 i))) (takes_a at def i);
}

pub impls_decide : ImplsDecide
impls_decide at def = record {
  given = λ i. said at def (a_alone at def) [] (takes at def impl_with_a (impl_a_is (in_given at def)) i ∷ []) tree.no_ret;
  returned = λ i. said at def (a_alone at def) [] [] (to at def (impl_a_is (in_out at def) i));
  both = λ i. said at def (a_alone at def) [] (takes_a at def i ∷ []) (to at def (impl_a_is (in_out at def) i));
  in_default = λ i. by_second at def (tree.some_type (a_ref_is (in_it at def) i)) tree.no_bounds (takes_a at def i);
  default_impl = λ i. said at def
      (a_by at def tree.no_bounds ∷ t_by at def (tree.some_type (impl_a_is (in_it at def) i)) tree.no_bounds ∷ []) [] [] tree.no_ret;
  in_const = λ i. said at def
      (a_by at def tree.no_bounds ∷ item.const_param name.Missing (tree.some_type (a_ref_is (in_it at def) i)) None ∷ []) []
      (takes_a at def i ∷ []) tree.no_ret;
}

pub defaults_name_nothing : DefaultsNameNothing
defaults_name_nothing at def = record {
  of_type = record {
    alone = λ i. beside at def (t_by at def (tree.some_type (a_ref_is (in_it at def) i)) tree.no_bounds) tree.no_ret;
    returned = λ i. beside at def (t_by at def (tree.some_type (a_ref_is (in_it at def) i)) tree.no_bounds)
        (to at def (a_ref_is (in_out at def) i));
  };
  typed = record {
    alone = λ i. beside at def (constant_by at def (a_ref_is (in_it at def) i) None) tree.no_ret;
    returned = λ i. beside at def (constant_by at def (a_ref_is (in_it at def) i) None) (to at def (a_ref_is (in_out at def) i));
  };
  of_const = record {
    alone = λ i. beside at def (constant_by at def (never_is (in_it at def) 8 i) (Some (cast_a at def i))) tree.no_ret;
    returned = λ i. beside at def (constant_by at def (never_is (in_it at def) 8 i) (Some (cast_a at def i)))
        (to at def (a_ref_is (in_out at def) i));
  };
}

pub projections_constrain_nothing : ProjectionsConstrainNothing
projections_constrain_nothing at def = let s = projected (in_given at def) in record {
  in_trait = λ i. said at def (a_alone at def) []
      (takes at def (projection (never_at 7) with_a)
      (projection_is (in_given at def) (never_at 7) with_a (never_is s 7) (with_is s)) i ∷ [])
      (to at def (a_ref_is (in_out at def) i));
  in_type = λ i. said at def (a_alone at def) []
      (takes at def (projection a_reference (bare_segment (codes "A")))
      (projection_is (in_given at def) a_reference (bare_segment (codes "A")) (a_ref_is s) (a_is s)) i ∷ [])
      (to at def (a_ref_is (in_out at def) i));
  bound_inside = λ i. said at def (a_alone at def) []
      (takes at def for_a (for_a_is (in_given at def)) i ∷ []) (to at def (a_ref_is (in_out at def) i));
}

-- of any answer
module _ (at : ResolveCtx) (def : GenericDefId) (r : Option Resolution) (x : Option Alias) where
  by_alias_is : (function_read def (resolved_function (here at def r x) def by_alias)).lifetimes
      ≡ kinds at def r x (with_b at def r x) []
      (arg at def r x (tree.path_type (pointer at 8) (tree.some_path (aliased (given_at at def r x) (both_in (given_at at def r x))))) ∷ [])
      (ret at def r x (pair_of (output_at at def r x) (reference_in (output_at at def r x) 3 (codes "'a"))
      (reference_in (output_at at def r x) 6 (codes "'b"))))
  by_alias_is = λ i. kinds at def r x (with_b at def r x) []
      (typed_is (here at def r x) def 7 with_both (with_both_is (given_at at def r x)) i ∷ [])
      (ret at def r x (both_refs_are (output_at at def r x) i))

pub aliases_constrain_what_they_name : AliasesConstrainWhatTheyName
aliases_constrain_what_they_name at def n x = record {
  no_alias = by_alias_is at def None None;
  second = by_alias_is at def (Some (resolution.TypeAlias n)) (Some (record x { named = false ∷ true ∷ [] }));
  unanswered = by_alias_is at def (Some (resolution.TypeAlias n)) None;
}
