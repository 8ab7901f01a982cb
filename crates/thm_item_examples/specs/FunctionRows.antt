-- Small functions, and what is read off them.
use Rattle.std.specs.Prelude.{◌≡◌, ℕ, codes, Bool, true, false, List, [], ◌∷◌, map, Option, Some, None}
use Rattle.hir_syntax.specs.declared.ast.Lifetime.{Lifetime as AstLifetime}
use Rattle.hir_syntax.specs.declared.params.ParamList.{ParamList as AstParamList}
use Rattle.hir_syntax.specs.declared.params.SelfParam.{SelfParam as AstSelfParam}
use Rattle.hir_syntax.specs.declared.types.Param.{Param as AstParam}
use Rattle.hir_syntax.specs.declared.types.Type_.{Type_ as AstType}
use Rattle.hir_syntax.specs.declared.items.Fn.{Fn as AstFn}
use Rattle.hir_syntax.specs.declared.items.GenericParam.{GenericParam as AstGenericParam}
use Rattle.hir_syntax.specs.declared.items.WherePred.{WherePred as AstWherePred}
use Rattle.hir_store.specs.declared.hir.Mutability.{Mutability}
use Rattle.hir_store.specs.declared.hir.Mutability.TheVariants.{Shared, Mut}
use Rattle.hir_store.specs.declared.ids.CfgId.{CfgId}
use Rattle.hir_store.specs.declared.ids.GenericDefId.{GenericDefId}
use Rattle.hir_store.specs.declared.path.PathKind.TheVariants as kind
use Rattle.hir_env.specs.ResolveCtx.{ResolveCtx}
use Rattle.hir_env.specs.Wrapped.{AstRetType}
use Rattle.spec_data.specs.Data as datum
use Rattle.spec_data.specs.Data.{LifetimeData, NamesData, OptionTypeData, TypeData, TypesData, typed}
use Rattle.spec_data.specs.Trees.{bare_segment, binding_of, error_data, impl_at, impl_data, never_at, never_data, no_range, node}
use Rattle.spec_data.specs.Trees.{one_binding}
use Rattle.spec_data.specs.Trees.{pointer, with_argument}
use Rattle.hir_lower_item.specs.Answering.{resolved_function}
use Rattle.thm_item_examples.specs.Trees.{disabling, dots_at, enabled, impl_by, lifetime_at, param_at, param_list, self_at, type_param_at}
use Rattle.thm_item_examples.specs.Trees.{with_impl}
use Rattle.thm_item_examples.specs.Read.{Read, Seen, Signed, a_bound, a_lifetime, a_param, a_type, function_seen, type_made}
use Rattle.thm_item_examples.specs.Expected.{absent, args_of, bounded_by, data_with, from_impl, inactive, lifetime_from, named_data}
use Rattle.thm_item_examples.specs.Expected.{of_impl}
use Rattle.thm_item_examples.specs.Expected.{of_parameter, of_written, one_bound, only, parameter_from, parameter_made, plain_param, text}
use Rattle.thm_item_examples.specs.ParamRows.{all_bounds, all_data}
use Rattle.thm_item_examples.specs.ItemRows.{a_bound_at, b_of_never, never_of_b, t_of_a}

abbrev pub fn_of : Option (List AstGenericParam) → Option (List AstWherePred) → Option AstParamList → Option AstRetType → Bool → Bool
    → AstFn
fn_of ps ws xs r is_async is_gen = record {
  id = node 0;
  range = no_range;
  generics = ps;
  where_ = ws;
  params = xs;
  ret = r;
  body = None;
  async_ = is_async;
  gen_ = is_gen;
}

-- with these parameters, and with this behind `->`, alone
abbrev pub given : Option AstSelfParam → List AstParam → AstFn
given self xs = fn_of None None (Some (param_list self xs)) None false false

abbrev pub returning : Option AstRetType → AstFn
returning r = fn_of None None (Some (param_list None [])) r false false

-- of nothing that is generic, with these parts
abbrev pub of_parts : List Seen → Read
of_parts xs = record { params = []; lifetimes = []; asks = []; parts = xs }

-- given these types, and returning nothing
abbrev pub taking : TypesData → Bool → Bool → Signed
taking ts has_self has_variadic = record { args = ts; ret = datum.no_type; has_self = has_self; has_variadic = has_variadic }

-- given nothing
abbrev pub giving : OptionTypeData → Signed
giving t = record { args = datum.no_types; ret = t; has_self = false; has_variadic = false }

module _ (def : GenericDefId) where
  abbrev pub FunctionReads : ResolveCtx → AstFn → Read → Signed → Type 0
  FunctionReads at x r answers = function_seen def (resolved_function at def x) ≡ (r, answers)

-- `self`

-- `Self`, and a reference to it
abbrev pub self_type : TypeData
self_type = typed None
    (datum.path_shape (datum.path_data kind.Plain datum.no_type (datum.more_names (text (codes "Self")) datum.no_args datum.no_names) true))

abbrev pub self_behind : Option LifetimeData → Mutability → TypeData
self_behind l m = typed None (datum.reference_shape self_type l m)

module _ (at : ResolveCtx) (def : GenericDefId) where
  -- of this type, with these parts
  abbrev pub Receives : AstSelfParam → TypeData → List Seen → Type 0
  Receives self t xs = FunctionReads def (enabled at) (given (Some self) []) (of_parts xs) (taking (only t) true false)

  abbrev pub behind_a : Option AstLifetime
  behind_a = Some (lifetime_at 2 (codes "'a"))

  abbrev pub a_there : Option LifetimeData
  a_there = Some (lifetime_from at 2 (codes "'a"))

  -- `self`, `mut self`, `&self`, `&mut self`, `&'a self`, `&'a mut self`, `'a self`, `self: !`, and `&'a mut self: !`
  pub record ReadsReceivers : Type 0 where
    pub plain : Receives (self_at 1 false false None None) self_type (type_made self_type ∷ [])
    pub mutable : Receives (self_at 1 false true None None) self_type (type_made self_type ∷ [])
    pub borrowed : Receives (self_at 1 true false None None) (self_behind None Shared)
        (type_made self_type ∷ type_made (self_behind None Shared) ∷ [])
    pub borrowed_mutable : Receives (self_at 1 true true None None) (self_behind None Mut)
        (type_made self_type ∷ type_made (self_behind None Mut) ∷ [])
    pub named : Receives (self_at 1 true false behind_a None) (self_behind a_there Shared)
        (type_made self_type ∷ a_lifetime (lifetime_from at 2 (codes "'a")) ∷ type_made (self_behind a_there Shared) ∷ [])
    pub named_mutable : Receives (self_at 1 true true behind_a None) (self_behind a_there Mut)
        (type_made self_type ∷ a_lifetime (lifetime_from at 2 (codes "'a")) ∷ type_made (self_behind a_there Mut) ∷ [])
    pub unborrowed : Receives (self_at 1 false false behind_a None) self_type
        (type_made self_type ∷ a_lifetime (lifetime_from at 2 (codes "'a")) ∷ [])
    pub with_type : Receives (self_at 1 false false None (Some (never_at 3))) (never_data at 3) (a_type (never_data at 3) ∷ [])
    pub all : Receives (self_at 1 true true behind_a (Some (never_at 3))) (never_data at 3) (a_type (never_data at 3) ∷ [])

-- other parameters

-- `A<T = impl B>`: the node of the inner `impl` is 5
abbrev pub binding_impl : AstType
binding_impl = impl_at 4 (with_argument (codes "A") (binding_of (codes "T") (impl_at 5 (bare_segment (codes "B")))))

module _ (at : ResolveCtx) (def : GenericDefId) where
  -- where a condition disables the node 1
  abbrev pub Disabled : CfgId → AstFn → Read → Signed → Type 0
  Disabled by x r answers = FunctionReads def (disabling 1 by at) x r answers

  -- `fn(_: !, _, ...: impl B)`, a disabled `self: impl B` in front of `_: !`, a disabled `_: impl B` between `_: !` and `_`, with dots
  -- behind them, one between `self: !` and `_: !`, disabled dots, and a function without a list
  pub record ReadsArguments (by : CfgId) : Type 0 where
    pub variadic : FunctionReads def (enabled at)
        (given None (param_at 2 (Some (never_at 3)) ∷ param_at 4 None ∷ dots_at 5 (Some (impl_at 6 (bare_segment (codes "B")))) ∷ []))
        (of_parts (a_type (never_data at 3) ∷ type_made absent ∷ []))
        (taking (datum.more_types (never_data at 3) (only absent)) false true)
    pub self_disabled : Disabled by
        (given (Some (self_at 1 false false None (Some (impl_at 6 (bare_segment (codes "B")))))) (param_at 2 (Some (never_at 3)) ∷ []))
        (of_parts (inactive at 1 by ∷ a_type (never_data at 3) ∷ [])) (taking (only (never_data at 3)) false false)
    pub one_disabled : Disabled by
        (given None (param_at 2 (Some (never_at 3)) ∷ param_at 1 (Some (impl_at 6 (bare_segment (codes "B")))) ∷ param_at 4 None
        ∷ dots_at 5 None ∷ []))
        (of_parts (inactive at 1 by ∷ a_type (never_data at 3) ∷ type_made absent ∷ []))
        (taking (datum.more_types (never_data at 3) (only absent)) false true)
    pub behind_self : Disabled by
        (given (Some (self_at 2 false false None (Some (never_at 3))))
        (param_at 1 (Some (impl_at 6 (bare_segment (codes "B")))) ∷ param_at 4 (Some (never_at 5)) ∷ []))
        (of_parts (a_type (never_data at 3) ∷ inactive at 1 by ∷ a_type (never_data at 5) ∷ []))
        (taking (datum.more_types (never_data at 3) (only (never_data at 5))) true false)
    pub dots_disabled : Disabled by (given None (dots_at 1 None ∷ [])) (of_parts (inactive at 1 by ∷ []))
        (taking datum.no_types false false)
    pub listless : FunctionReads def (enabled at) (fn_of None None None None false false) (of_parts []) (taking datum.no_types false false)

  -- `A<T = ..>` with the parameter that the inner `impl` became, and `A<..>` with an error
  abbrev pub bound_to_parameter : TypeData
  bound_to_parameter = data_with at 9 (codes "A") (one_binding (codes "T") (parameter_from at 5 def))

  abbrev pub bound_to_error : TypeData
  bound_to_error = data_with at 9 (codes "A") (args_of (datum.type_argument (error_data at 5)))

  -- `fn(_: impl A<T = impl B>)`, `fn(_: impl A<impl B>)`, an `impl` with `A + ?A + 'a + use<'a> + for<'b> A` and a bound that the text
  -- lacks, one without bounds, and `fn<T>(self: impl B, _: impl B)`
  pub record ReadsArgumentImpls : Type 0 where
    pub in_binding : FunctionReads def (enabled at) (given None (param_at 2 (Some binding_impl) ∷ []))
        (record {
          params = from_impl def (pointer at 5) ∷ from_impl def (pointer at 4) ∷ [];
          lifetimes = [];
          asks = of_impl def 0 (pointer at 5) (bounded_by (named_data at 9 (codes "B")))
              ∷ of_impl def 1 (pointer at 4) (bounded_by bound_to_parameter) ∷ [];
          parts = a_type (parameter_from at 4 def) ∷ [];
        })
        (taking (only (parameter_from at 4 def)) false false)
    pub in_argument : FunctionReads def (enabled at) (given None (param_at 2 (Some (impl_at 4 with_impl)) ∷ []))
        (record {
          params = from_impl def (pointer at 4) ∷ [];
          lifetimes = [];
          asks = of_impl def 0 (pointer at 4) (bounded_by bound_to_error) ∷ [];
          parts = a_type (parameter_from at 4 def) ∷ [];
        })
        (taking (only (parameter_from at 4 def)) false false)
    pub by_each : FunctionReads def (enabled at) (given None (param_at 1 (Some (impl_by 8 (all_bounds at def))) ∷ []))
        (record {
          params = from_impl def (pointer at 8) ∷ [];
          lifetimes = [];
          asks = map (of_impl def 0 (pointer at 8)) (all_data at def);
          parts = a_type (parameter_from at 8 def) ∷ [];
        })
        (taking (only (parameter_from at 8 def)) false false)
    pub boundless : FunctionReads def (enabled at) (given None (param_at 1 (Some (impl_by 8 [])) ∷ []))
        (record { params = from_impl def (pointer at 8) ∷ []; lifetimes = []; asks = []; parts = a_type (parameter_from at 8 def) ∷ [] })
        (taking (only (parameter_from at 8 def)) false false)
    pub behind_others : FunctionReads def (enabled at)
        (fn_of (Some (type_param_at 1 (Some (codes "T")) [] None ∷ [])) None
        (Some (param_list (Some (self_at 2 false false None (Some (impl_at 3 (bare_segment (codes "B"))))))
        (param_at 4 (Some (impl_at 5 (bare_segment (codes "B")))) ∷ []))) None false false)
        (record {
          params = plain_param def (codes "T") ∷ from_impl def (pointer at 3) ∷ from_impl def (pointer at 5) ∷ [];
          lifetimes = [];
          asks = of_impl def 1 (pointer at 3) (bounded_by (named_data at 9 (codes "B")))
              ∷ of_impl def 2 (pointer at 5) (bounded_by (named_data at 9 (codes "B"))) ∷ [];
          parts = a_param ∷ parameter_made def ∷ a_type (parameter_from at 3 def) ∷ a_type (parameter_from at 5 def) ∷ [];
        })
        (taking (datum.more_types (parameter_from at 3 def) (only (parameter_from at 5 def))) true false)

-- what is returned

module _ (at : ResolveCtx) (def : GenericDefId) where
  abbrev pub Returns : Option AstRetType → OptionTypeData → List Seen → Type 0
  Returns r t xs = FunctionReads def (enabled at) (returning r) (of_parts xs) (giving t)

  -- an `impl` that stays, with an error inside
  abbrev pub with_error : TypeData
  with_error = impl_data at 4 (codes "A") (args_of (datum.type_argument (error_data at 5))) false

  -- `fn()`, `fn() ->`, `fn() -> !`, `fn() -> impl B`, and `fn() -> impl A<impl B>`
  pub record ReadsReturned : Type 0 where
    pub nothing : Returns None datum.no_type []
    pub typeless : Returns (Some None) (datum.some_type absent) (type_made absent ∷ [])
    pub never : Returns (Some (Some (never_at 1))) (datum.some_type (never_data at 1)) (a_type (never_data at 1) ∷ [])
    pub of_impl : Returns (Some (Some (impl_at 1 (bare_segment (codes "B")))))
        (datum.some_type (impl_data at 1 (codes "B") datum.no_args true))
        (a_type (impl_data at 1 (codes "B") datum.no_args true) ∷ [])
    pub nested : Returns (Some (Some (impl_at 4 with_impl))) (datum.some_type with_error) (a_type with_error ∷ [])

-- `::core::m::t<g = given>`, and an `impl` of it
abbrev pub trait_of : List ℕ → List ℕ → List ℕ → TypeData → TypeData
trait_of m t g given =
    let last : NamesData = datum.more_names (text t) (one_binding g given) datum.no_names in
    let names = datum.more_names (text (codes "core")) datum.no_args (datum.more_names (text m) datum.no_args last) in
    typed None (datum.path_shape (datum.path_data kind.Abs datum.no_type names false))

abbrev pub impl_of_trait : TypeData → TypeData
impl_of_trait t = typed None (datum.impl_shape (one_bound (bounded_by t)))

abbrev pub future_trait : TypeData → TypeData
future_trait t = trait_of (codes "future") (codes "Future") (codes "Output") t

abbrev pub iterator_trait : TypeData → TypeData
iterator_trait t = trait_of (codes "iter") (codes "Iterator") (codes "Item") t

abbrev pub async_iterator_trait : TypeData → TypeData
async_iterator_trait t = trait_of (codes "async_iter") (codes "AsyncIterator") (codes "Item") t

abbrev pub unit_type : TypeData
unit_type = typed None (datum.tuple_shape datum.no_types)

module _ (at : ResolveCtx) (def : GenericDefId) where
  abbrev pub CoroutineReads : Bool → Bool → Option AstRetType → TypeData → List Seen → Type 0
  CoroutineReads is_async is_gen r t xs = FunctionReads def (enabled at)
      (fn_of None None (Some (param_list None [])) r is_async is_gen) (of_parts xs) (giving (datum.some_type t))

  -- of a function with these words in front, without `->`, with that alone, with `!`, and with `impl B`
  pub record ReadsCoroutine (is_async is_gen : Bool) (of : TypeData → TypeData) : Type 0 where
    pub nothing : CoroutineReads is_async is_gen None (impl_of_trait (of unit_type))
        (type_made unit_type ∷ type_made (of unit_type) ∷ type_made (impl_of_trait (of unit_type)) ∷ [])
    pub typeless : CoroutineReads is_async is_gen (Some None) (impl_of_trait (of absent))
        (type_made absent ∷ type_made (of absent) ∷ type_made (impl_of_trait (of absent)) ∷ [])
    pub never : CoroutineReads is_async is_gen (Some (Some (never_at 1))) (impl_of_trait (of (never_data at 1)))
        (a_type (never_data at 1) ∷ type_made (of (never_data at 1)) ∷ type_made (impl_of_trait (of (never_data at 1))) ∷ [])
    pub of_impl : let t = impl_data at 1 (codes "B") datum.no_args true in
        CoroutineReads is_async is_gen (Some (Some (impl_at 1 (bare_segment (codes "B"))))) (impl_of_trait (of t))
        (a_type t ∷ type_made (of t) ∷ type_made (impl_of_trait (of t)) ∷ [])

  -- `async fn`, `gen fn`, and `async gen fn`
  pub record ReadsCoroutines : Type 0 where
    pub async_ : ReadsCoroutine true false future_trait
    pub gen_ : ReadsCoroutine false true iterator_trait
    pub async_gen : ReadsCoroutine true true async_iterator_trait

-- all in one

-- `fn<T: A>(&self, _: impl B) -> ! where !: B`
abbrev pub WholeFunction : ResolveCtx → GenericDefId → Type 0
WholeFunction at def = FunctionReads def (enabled at)
    (fn_of (Some t_of_a) (Some never_of_b)
    (Some (param_list (Some (self_at 3 true false None None)) (param_at 4 (Some (impl_at 5 (bare_segment (codes "B")))) ∷ [])))
    (Some (Some (never_at 8))) false false)
    (record {
      params = plain_param def (codes "T") ∷ from_impl def (pointer at 5) ∷ [];
      lifetimes = [];
      asks = of_parameter def 0 (a_bound_at at 7) ∷ of_written (never_data at 1) (b_of_never at)
          ∷ of_impl def 1 (pointer at 5) (bounded_by (named_data at 9 (codes "B"))) ∷ [];
      parts = a_param ∷ parameter_made def ∷ a_bound (a_bound_at at 7) ∷ a_type (never_data at 1) ∷ a_bound (b_of_never at)
          ∷ type_made self_type ∷ type_made (self_behind None Shared) ∷ a_type (parameter_from at 5 def) ∷ a_type (never_data at 8) ∷ [];
    })
    (record {
      args = datum.more_types (self_behind None Shared) (only (parameter_from at 5 def));
      ret = datum.some_type (never_data at 8);
      has_self = true;
      has_variadic = false;
    })

-- theorems, for each environment, wherever an item stands

abbrev pub ReceiversAreRead : Type 0
ReceiversAreRead = (at : ResolveCtx) (def : GenericDefId) → ReadsReceivers at def

abbrev pub ArgumentsAreRead : Type 0
ArgumentsAreRead = (at : ResolveCtx) (def : GenericDefId) (by : CfgId) → ReadsArguments at def by

abbrev pub ArgumentImplsAreRead : Type 0
ArgumentImplsAreRead = (at : ResolveCtx) (def : GenericDefId) → ReadsArgumentImpls at def

abbrev pub ReturnedIsRead : Type 0
ReturnedIsRead = (at : ResolveCtx) (def : GenericDefId) → ReadsReturned at def

abbrev pub CoroutinesAreRead : Type 0
CoroutinesAreRead = (at : ResolveCtx) (def : GenericDefId) → ReadsCoroutines at def

abbrev pub FunctionsAreRead : Type 0
FunctionsAreRead = (at : ResolveCtx) (def : GenericDefId) → WholeFunction at def
