-- Worked trees: where an `impl` may stand, what texts of lifetimes and of ABIs are, and which parameter makes varargs.
use Rattle.std.specs.Prelude.{◌≡◌, ℕ, codes, Bool, true, false, List, [], ◌∷◌, Option, Some, None}
use Rattle.hir_base.specs.declared.node.NodeId.{NodeId}
use Rattle.hir_base.specs.declared.node.TextRange.{TextRange}
use Rattle.hir_syntax.specs.declared.ast.Name.{Name as AstName}
use Rattle.hir_syntax.specs.declared.ast.SegmentKind.TheVariants as segment
use Rattle.hir_syntax.specs.declared.ast.Path.{roll-Path}
use Rattle.hir_syntax.specs.declared.ast.PathSegment.{PathSegment as AstPathSegment, roll-PathSegment}
use Rattle.hir_syntax.specs.declared.types.AssocTypeArg.{roll-AssocTypeArg}
use Rattle.hir_syntax.specs.declared.types.BoundKind.TheVariants as bound
use Rattle.hir_syntax.specs.declared.types.GenericArg.{GenericArg as AstGenericArg, roll-GenericArg}
use Rattle.hir_syntax.specs.declared.ast.ElseBranch.TheOpen.{GenericArg-F, TypeKind-F}
use Rattle.hir_syntax.specs.declared.types.Param.{Param as AstParam, roll-Param}
use Rattle.hir_syntax.specs.declared.types.PathType.{roll-PathType}
use Rattle.hir_syntax.specs.declared.types.TypeBound.{roll-TypeBound}
use Rattle.hir_syntax.specs.declared.types.TypeKind.{roll-TypeKind}
use Rattle.hir_syntax.specs.declared.types.Type_.{Type_ as AstType_}
use Rattle.hir_store.specs.Pointers.{Pointer}
use Rattle.hir_store.specs.declared.hir.Mutability.TheVariants.{Shared}
use Rattle.hir_store.specs.declared.name.Name.TheVariants as name
use Rattle.hir_store.specs.declared.path.GenericArgsParentheses.TheVariants as parens
use Rattle.hir_store.specs.declared.path.PathKind.TheVariants.{Plain}
use Rattle.hir_store.specs.declared.type_ref.ExternAbi.{ExternAbi}
use Rattle.hir_store.specs.declared.type_ref.ExternAbi.TheVariants as abi
use Rattle.hir_store.specs.declared.type_ref.LifetimeRef.{LifetimeRef}
use Rattle.hir_store.specs.declared.type_ref.LifetimeRef.TheVariants as lifetime
use Rattle.hir_store.specs.declared.type_ref.TraitBoundModifier.TheVariants as modifier
use Rattle.hir_env.specs.declared.ctx.ImplTrait.TheVariants as impl
use Rattle.hir_env.specs.ResolveCtx.{ResolveCtx}
use Rattle.hir_env.specs.Wrapped.{AstGenericArgList, AstParenArgs, AstRetType, AstTypeArg}
use Rattle.hir_env.specs.TypeLayers.{TypeKindLayer}
use Rattle.hir_env.specs.Whole.{written, resolved_type, pointer_at}
use Rattle.spec_data.specs.Data as datum
use Rattle.spec_data.specs.Data.{TypeData, OptionArgsData}
use Rattle.spec_data.specs.Written.{type_data, unit_data}
use Rattle.spec_data.specs.Examples.{sugar_args}

-- trees: the numbers of nodes are written beside types and lifetimes, all others are 9

abbrev pub node : ℕ → NodeId
node n = record { 0 = n }

abbrev pub no_range : TextRange
no_range = record { start = 0; end = 0 }

abbrev pub ast_name : List ℕ → AstName
ast_name t = record { id = node 9; range = no_range; t = t }

abbrev pub type_at : ℕ → TypeKindLayer written → AstType_
type_at n k = record { id = node n; range = no_range; kind = roll-TypeKind k }

-- a name, with what stands behind it
abbrev pub segment_of : List ℕ → Option AstGenericArgList → Option AstParenArgs → Option AstRetType → AstPathSegment
segment_of t l ps r = roll-PathSegment (record {
  id = node 9;
  range = no_range;
  seg = Some segment.Name;
  name = Some (ast_name t);
  generics = l;
  parens = ps;
  ret = r;
  rtn = false;
  ty = None;
  trait_ = None;
})

abbrev pub bare_segment : List ℕ → AstPathSegment
bare_segment t = segment_of t None None None

-- `t<a>`
abbrev pub with_argument : List ℕ → AstGenericArg → AstPathSegment
with_argument t a = segment_of t (Some (a ∷ [])) None None

abbrev pub type_arg_of : AstType_ → AstTypeArg
type_arg_of t = Some t

-- `n = t`
abbrev pub binding_of : List ℕ → AstType_ → AstGenericArg
binding_of n t = roll-GenericArg (GenericArg-F.AssocTypeArg (roll-AssocTypeArg (record {
  id = node 9;
  range = no_range;
  name = Some (ast_name n);
  params = false;
  generics = None;
  rtn = false;
  ty = Some t;
  bounds = [];
})))

abbrev pub ret_of : AstType_ → AstRetType
ret_of t = Some t

-- `t(a) -> b`
abbrev pub fn_trait : List ℕ → AstType_ → AstType_ → AstPathSegment
fn_trait t a b = segment_of t None (Some (type_arg_of a ∷ [])) (Some (ret_of b))

-- `impl s`
abbrev pub impl_at : ℕ → AstPathSegment → AstType_
impl_at n s =
    let path = roll-Path (record {
      id = node 9;
      range = no_range;
      leading = false;
      use_ = None;
      segs = Some s ∷ [];
      in_macro = false;
    }) in
    type_at n (TypeKind-F.ImplTraitType (roll-TypeBound (record {
      id = node 9;
      range = no_range;
      b = Some bound.Path;
      ty = Some (roll-PathType (record { id = node 9; range = no_range; path = Some path }));
      binder = None;
      maybe = false;
      lifetime = None;
      uses = [];
    }) ∷ []))

abbrev pub never_at : ℕ → AstType_
never_at n = type_at n TypeKind-F.NeverType

-- what they are

-- in no `impl`, where one stays
abbrev pub outside_impl : ResolveCtx → ResolveCtx
outside_impl at = record at { place = record at.place { impl_trait = impl.Opaque; in_impl = false } }

abbrev pub pointer : ResolveCtx → ℕ → Pointer
pointer at n = pointer_at at (node n) no_range

-- an `impl` at this node of one name, with what stands beside it
abbrev pub impl_data : ResolveCtx → ℕ → List ℕ → OptionArgsData → Bool → TypeData
impl_data at n t a is_bare = datum.typed (Some (pointer at n)) (datum.impl_shape (datum.more_bounds
    (datum.path_bound (datum.typed (Some (pointer at 9))
    (datum.path_shape (datum.path_data Plain datum.no_type (datum.more_names (name.Text t) a datum.no_names) is_bare))) modifier.None)
    datum.no_bounds))

abbrev pub error_data : ResolveCtx → ℕ → TypeData
error_data at n = datum.typed (Some (pointer at n)) datum.error_shape

abbrev pub never_data : ResolveCtx → ℕ → TypeData
never_data at n = datum.typed (Some (pointer at n)) datum.never_shape

-- `<t>`
abbrev pub argument_data : TypeData → OptionArgsData
argument_data t = datum.some_args
    (datum.args_data (datum.more_arguments (datum.type_argument t) datum.no_arguments) false datum.no_bindings parens.No)

-- `<n = t>`
abbrev pub one_binding : List ℕ → TypeData → OptionArgsData
one_binding n t =
    let bindings = datum.more_bindings (datum.binding_data (name.Text n) datum.no_args (datum.some_type t) datum.no_bounds)
    datum.no_bindings in
    datum.some_args (datum.args_data datum.no_arguments false bindings parens.No)

-- an `impl` inside of one

abbrev pub reads_impl : ResolveCtx → AstPathSegment → TypeData → Type 0
reads_impl at s t = type_data None (resolved_type (outside_impl at) (impl_at 0 s)) ≡ t

-- `impl A<impl B>`, `impl A<T = impl B>`, and `impl Fn(!) -> impl B`
abbrev pub ImplsInside : Type 0
ImplsInside = (at : ResolveCtx)
    → reads_impl at (with_argument (codes "A")
    (roll-GenericArg (GenericArg-F.TypeArg (type_arg_of (impl_at 1 (bare_segment (codes "B")))))))
    (impl_data at 0 (codes "A") (argument_data (error_data at 1)) false)
    × reads_impl at (with_argument (codes "A") (binding_of (codes "T") (impl_at 1 (bare_segment (codes "B")))))
    (impl_data at 0 (codes "A") (one_binding (codes "T") (impl_data at 1 (codes "B") datum.no_args true)) false)
    × reads_impl at (fn_trait (codes "Fn") (never_at 2) (impl_at 1 (bare_segment (codes "B"))))
    (impl_data at 0 (codes "Fn") (sugar_args (never_data at 2) (error_data at 1)) false)

-- lifetimes

-- `&t !`
abbrev pub reference_with : List ℕ → AstType_
reference_with t =
    type_at 0 (TypeKind-F.RefType (Some (record { id = node 1; range = no_range; t = t })) false (Some (never_at 2)))

abbrev pub reads_lifetime : ResolveCtx → List ℕ → LifetimeRef → Type 0
reads_lifetime at t l = type_data None (resolved_type at (reference_with t)) ≡ datum.typed (Some (pointer at 0))
    (datum.reference_shape (never_data at 2) (Some (record { lifetime = l; from = Some (pointer at 1) })) Shared)

-- the empty text, `'`, `'static`, `'_`, and `'a`
abbrev pub LifetimesOfTexts : Type 0
LifetimesOfTexts = (at : ResolveCtx)
    → reads_lifetime at [] lifetime.Error
    × reads_lifetime at (codes "'") lifetime.Error
    × reads_lifetime at (codes "'static") lifetime.Static
    × reads_lifetime at (codes "'_") lifetime.Placeholder
    × reads_lifetime at (codes "'a") (lifetime.Named (name.Text (codes "'a")))

-- function pointers

abbrev pub fn_at : Option (List ℕ) → List AstParam → AstType_
fn_at a ps = type_at 0 (TypeKind-F.FnPtrType false a (Some ps) None)

abbrev pub reads_abi : ResolveCtx → Option (List ℕ) → ExternAbi → Type 0
reads_abi at t a = type_data None (resolved_type at (fn_at t [])) ≡ datum.typed (Some (pointer at 0))
    (datum.fn_shape (record { is_unsafe = false; abi = a; is_varargs = false; names = [] }) None
    (datum.more_types unit_data datum.no_types))

-- `fn()`, `extern fn()`, and `extern "C" fn()`, with "efiapi" and with "x" for "C"
abbrev pub AbisOfTexts : Type 0
AbisOfTexts = (at : ResolveCtx)
    → reads_abi at None abi.Rust
    × reads_abi at (Some []) abi.C
    × reads_abi at (Some (codes "C")) abi.C
    × reads_abi at (Some (codes "efiapi")) abi.Efiapi
    × reads_abi at (Some (codes "x")) abi.C

abbrev pub plain_param : AstParam
plain_param = roll-Param (record { id = node 9; range = no_range; pat = None; ty = Some (never_at 1); variadic = false })

abbrev pub dots_param : AstParam
dots_param = roll-Param (record { id = node 9; range = no_range; pat = None; ty = None; variadic = true })

-- a function pointer with `!` as its one parameter that isn't variadic
abbrev pub reads_params : ResolveCtx → List AstParam → Bool → Type 0
reads_params at ps varargs = type_data None (resolved_type at (fn_at None ps)) ≡ datum.typed (Some (pointer at 0))
    (datum.fn_shape (record { is_unsafe = false; abi = abi.Rust; is_varargs = varargs; names = None ∷ [] }) None
    (datum.more_types (never_data at 1) (datum.more_types unit_data datum.no_types)))

-- `fn(!, ...)` has varargs, `fn(..., !)` has none
abbrev pub VarargsAtTheEnd : Type 0
VarargsAtTheEnd = (at : ResolveCtx)
    → reads_params at (plain_param ∷ dots_param ∷ []) true
    × reads_params at (dots_param ∷ plain_param ∷ []) false
