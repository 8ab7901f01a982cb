-- Small functions, computed.
use Rattle.std.proofs.Common.{◌≡◌, ◌∙◌, refl, ap, ℕ, codes, false, List, [], ◌∷◌, Option, Some, None}
use Rattle.hir_syntax.specs.declared.types.Param.{out-roll-Param}
use Rattle.hir_syntax.specs.declared.types.Type_.{Type_ as AstType}
use Rattle.hir_store.specs.declared.hir.CoroutineKind.{CoroutineKind}
use Rattle.hir_store.specs.declared.hir.CoroutineKind.TheVariants as coroutine
use Rattle.hir_store.specs.declared.hir.Mutability.TheVariants.{Shared}
use Rattle.hir_store.specs.declared.ids.GenericDefId.{GenericDefId}
use Rattle.hir_store.specs.declared.name.Name.TheVariants as name
use Rattle.hir_env.specs.ResolvedTree as tree
use Rattle.hir_env.specs.ResolvedTree.{Arg, OptionRet, OptionType, Segment, Type_}
use Rattle.hir_env.specs.ResolveCtx.{ResolveCtx, site_of}
use Rattle.hir_env.specs.TypeLayers.{ParamLayer}
use Rattle.hir_env.specs.Whole.{resolved_arg, resolved_type, in_binding, in_impl, pointer_at, type_part, written}
use Rattle.hir_lower_item.specs.Answering.{resolved_argument, asked_argument, argument_of, at_place, in_arguments}
use Rattle.hir_lower_item.specs.Answering.{in_output}
use Rattle.hir_lower_item.specs.Items as item
use Rattle.hir_lower_item.specs.Items.{Argument, Function, Generics, Receiver}
use Rattle.spec_data.specs.Trees.{bare_segment, binding_of, impl_at, never_at, pointer, with_argument}
use Rattle.spec_data.proofs.Trees.{arg_made, assoc_arg_made, never_is}
use Rattle.thm_item_examples.specs.Trees.{disabling, dots_at, enabled, impl_by, param_at, with_impl}
use Rattle.thm_item_examples.specs.Read.{function_seen}
use Rattle.thm_item_examples.specs.Expected.{text}
use Rattle.thm_item_examples.specs.FunctionRows.{ArgumentImplsAreRead, ArgumentsAreRead, CoroutinesAreRead, FunctionsAreRead}
use Rattle.thm_item_examples.specs.FunctionRows.{ReceiversAreRead, ReturnedIsRead, binding_impl}
use Rattle.thm_item_examples.specs.ParamRows.{all_bounds}
use Rattle.thm_item_examples.proofs.ParamRows.{all_are}
use Rattle.thm_item_examples.proofs.ItemRows.{both_are}
use Rattle.thm_item_examples.proofs.Levels.{a_with, impl_by_is, impl_in, impl_is, list_with, segment_with}
use Rattle.thm_item_examples.proofs.Small.{around_in, around_is, b_in, impl_b}

-- parameters at any spot, with the condition that may disable one

module _ (at : ResolveCtx) (def : GenericDefId) where
  abbrev pub given_at : ResolveCtx
  given_at = at_place (in_arguments def) at

  abbrev asked_at : ℕ → Argument → Argument
  asked_at n x = asked_argument (pointer at n) (at.answers.cfg (site_of (pointer at n))) x

  abbrev by_layer : ParamLayer written → Argument
  by_layer l = let s = pointer_at at l.id l.range in
      asked_argument s (at.answers.cfg (site_of s)) (argument_of given_at l.variadic l.ty)

  pub param_is : (n : ℕ) (t : Option AstType) {u : OptionType} → type_part given_at t ≡ u
      → resolved_argument at def (param_at n t) ≡ asked_at n (item.argument u)
  param_is n t h = ap by_layer (out-roll-Param _) ∙ ap (λ u. asked_at n (item.argument u)) h

  pub dots_are : (n : ℕ) (t : Option AstType) → resolved_argument at def (dots_at n t) ≡ asked_at n item.variadic_argument
  dots_are n t = ap by_layer (out-roll-Param _)

  pub typed_is : (n : ℕ) (t : AstType) {u : Type_} → resolved_type given_at t ≡ u
      → resolved_argument at def (param_at n (Some t)) ≡ asked_at n (item.argument (tree.some_type u))
  typed_is n t h = param_is n (Some t) (ap tree.some_type h)

abbrev pub nothing : Generics
nothing = record { params = []; predicates = [] }

abbrev pub function_with : Generics → Receiver → List Argument → OptionRet → Option CoroutineKind → Function
function_with g r xs t k = record { generics = g; receiver = r; arguments = xs; ret = t; kind = k }

abbrev taking : Receiver → List Argument → Function
taking r xs = function_with nothing r xs tree.no_ret None

pub reads_receivers : ReceiversAreRead
reads_receivers at def = let s = given_at (enabled at) def in record {
  plain = refl;
  mutable = refl;
  borrowed = refl;
  borrowed_mutable = refl;
  named = refl;
  named_mutable = refl;
  unborrowed = refl;
  with_type = λ i. function_seen def (taking (item.typed_receiver (never_is s 3 i)) []);
  all = λ i. function_seen def (taking (item.typed_receiver (never_is s 3 i)) []);
}

pub reads_arguments : ArgumentsAreRead
reads_arguments at def by =
    let here = enabled at in
    let there = disabling 1 by at in record {
      variadic = λ i. function_seen def (taking item.no_receiver
          (typed_is here def 2 (never_at 3) (never_is (given_at here def) 3) i ∷ param_is here def 4 None refl i
          ∷ dots_are here def 5 (Some (impl_at 6 (bare_segment (codes "B")))) i ∷ []));
      self_disabled = λ i. function_seen def (taking (item.disabled_receiver (pointer at 1) by)
          (typed_is there def 2 (never_at 3) (never_is (given_at there def) 3) i ∷ []));
      one_disabled = λ i. function_seen def (taking item.no_receiver
          (typed_is there def 2 (never_at 3) (never_is (given_at there def) 3) i
          ∷ param_is there def 1 (Some (impl_at 6 (bare_segment (codes "B")))) refl i
          ∷ param_is there def 4 None refl i ∷ dots_are there def 5 None i ∷ []));
      behind_self = λ i. function_seen def (taking (item.typed_receiver (never_is (given_at there def) 3 i))
          (param_is there def 1 (Some (impl_at 6 (bare_segment (codes "B")))) refl i
          ∷ typed_is there def 4 (never_at 5) (never_is (given_at there def) 5) i ∷ []));
      dots_disabled = λ i. function_seen def (taking item.no_receiver (dots_are there def 1 None i ∷ []));
      listless = refl;
    }

-- `impl`s

module _ (at : ResolveCtx) where
  -- `A<T = impl B>`, and an `impl` of it
  abbrev bound_in : ResolveCtx
  bound_in = in_binding (in_impl at)

  abbrev binding_in : Arg
  binding_in = tree.assoc_arg (name.Text (codes "T")) tree.no_arg_list false (tree.some_type (b_in bound_in 5)) tree.no_bounds

  binding_is : resolved_arg (in_impl at) (binding_of (codes "T") (impl_at 5 (bare_segment (codes "B")))) ≡ binding_in
  binding_is = arg_made (in_impl at) _ ∙ (assoc_arg_made (in_impl at) _
      ∙ ap (λ t. tree.assoc_arg (name.Text (codes "T")) tree.no_arg_list false (tree.some_type t) tree.no_bounds) (impl_b bound_in 5))

  abbrev with_binding : Segment
  with_binding = segment_with (in_impl at) (codes "A") (list_with (in_impl at) binding_in)

  binding_impl_is : resolved_type at binding_impl ≡ impl_in at 4 with_binding
  binding_impl_is = impl_is at 4 (with_argument (codes "A") _) (a_with (in_impl at) _ binding_is)

  -- `impl A<impl B>`
  nested_is : resolved_type at (impl_at 4 with_impl) ≡ impl_in at 4 (around_in (in_impl at))
  nested_is = impl_is at 4 with_impl (around_is (in_impl at))

pub reads_argument_impls : ArgumentImplsAreRead
reads_argument_impls at def =
    let here = enabled at in
    let s = given_at here def in record {
      in_binding = λ i. function_seen def (taking item.no_receiver (typed_is here def 2 binding_impl (binding_impl_is s) i ∷ []));
      in_argument = λ i. function_seen def (taking item.no_receiver (typed_is here def 2 (impl_at 4 with_impl) (nested_is s) i ∷ []));
      by_each = λ i. function_seen def (taking item.no_receiver
          (typed_is here def 1 (impl_by 8 (all_bounds at def)) (impl_by_is s 8 (all_bounds at def) (all_are at def (in_impl s))) i ∷ []));
      boundless = λ i. function_seen def (taking item.no_receiver (typed_is here def 1 (impl_by 8 []) (impl_by_is s 8 [] refl) i ∷ []));
      behind_others = λ i. function_seen def (function_with
          (record { params = item.type_param (text (codes "T")) tree.no_type tree.no_bounds ∷ []; predicates = [] })
          (item.typed_receiver (impl_b s 3 i)) (typed_is here def 4 (impl_at 5 (bare_segment (codes "B"))) (impl_b s 5) i ∷ [])
          tree.no_ret None);
    }

-- what is returned

abbrev returning : Option CoroutineKind → Type_ → Function
returning k t = function_with nothing item.no_receiver [] (tree.some_ret (tree.some_type t)) k

module _ (at : ResolveCtx) (def : GenericDefId) where
  abbrev pub output_at : ResolveCtx
  output_at = at_place in_output (enabled at)

pub reads_what_is_returned : ReturnedIsRead
reads_what_is_returned at def = let s = output_at at def in record {
  nothing = refl;
  typeless = refl;
  never = λ i. function_seen def (returning None (never_is s 1 i));
  of_impl = λ i. function_seen def (returning None (impl_b s 1 i));
  nested = λ i. function_seen def (returning None (nested_is s i));
}

pub reads_coroutines : CoroutinesAreRead
reads_coroutines at def = let s = output_at at def in record {
  async_ = record {
    nothing = refl;
    typeless = refl;
    never = λ i. function_seen def (returning (Some coroutine.Async) (never_is s 1 i));
    of_impl = λ i. function_seen def (returning (Some coroutine.Async) (impl_b s 1 i));
  };
  gen_ = record {
    nothing = refl;
    typeless = refl;
    never = λ i. function_seen def (returning (Some coroutine.Gen) (never_is s 1 i));
    of_impl = λ i. function_seen def (returning (Some coroutine.Gen) (impl_b s 1 i));
  };
  async_gen = record {
    nothing = refl;
    typeless = refl;
    never = λ i. function_seen def (returning (Some coroutine.AsyncGen) (never_is s 1 i));
    of_impl = λ i. function_seen def (returning (Some coroutine.AsyncGen) (impl_b s 1 i));
  };
}

pub reads_functions : FunctionsAreRead
reads_functions at def =
    let here = enabled at in λ i. function_seen def (function_with (both_are at def i)
    (item.self_receiver (Some Shared) None)
    (typed_is here def 4 (impl_at 5 (bare_segment (codes "B"))) (impl_b (given_at here def) 5) i ∷ [])
    (tree.some_ret (tree.some_type (never_is (output_at at def) 8 i))) None)
