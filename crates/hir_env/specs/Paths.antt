-- How the answers are written into paths and types.
use Rattle.std.specs.Prelude.{ℕ, List, [], ◌∷◌, map, Bool, true, false, ◌||◌, if◌then◌else◌, codes, bytes_eq}
use Rattle.std.specs.Prelude.{Option, Some, None, option_map, Result, Ok, Err}
use Rattle.hir_base.specs.declared.node.NodeId.{NodeId}
use Rattle.hir_base.specs.declared.node.AstPtr.{AstPtr}
use Rattle.hir_syntax.specs.declared.ast.Name.{Name as AstName}
use Rattle.hir_syntax.specs.declared.ast.Lifetime.{Lifetime as AstLifetime}
use Rattle.hir_syntax.specs.declared.ast.SegmentKind.{SegmentKind}
use Rattle.hir_syntax.specs.declared.ast.SegmentKind.TheVariants as kind
use Rattle.hir_syntax.specs.declared.types.BoundKind.{BoundKind}
use Rattle.hir_syntax.specs.declared.types.BoundKind.TheVariants as bound
use Rattle.hir_syntax.specs.declared.types.ForBinder.{ForBinder as AstForBinder}
use Rattle.hir_syntax.specs.declared.types.UseArg.{UseArg as AstUseArg}
use Rattle.hir_syntax.specs.declared.types.UseArg.TheVariants as used
use Rattle.hir_syntax.specs.declared.ast.ElseBranch.TheOpen.{GenericArg-F, TypeKind-F}
use Rattle.hir_store.specs.Pointers.{Pointer}
use Rattle.hir_store.specs.declared.ids.CfgId.{CfgId}
use Rattle.hir_store.specs.declared.ids.CrateId.{CrateId}
use Rattle.hir_store.specs.declared.ids.CtxId.{CtxId}
use Rattle.hir_store.specs.declared.ids.ModuleId.{ModuleId}
use Rattle.hir_store.specs.declared.name.Name.{Name}
use Rattle.hir_store.specs.declared.name.Name.TheVariants as name
use Rattle.hir_store.specs.declared.hir.CoroutineKind.{CoroutineKind}
use Rattle.hir_store.specs.declared.hir.CoroutineKind.TheVariants as coroutine
use Rattle.hir_store.specs.declared.hir.Mutability.{Mutability}
use Rattle.hir_store.specs.declared.hir.Mutability.TheVariants as mutable
use Rattle.hir_store.specs.declared.type_ref.LifetimeRef.{LifetimeRef}
use Rattle.hir_store.specs.declared.type_ref.LifetimeRef.TheVariants as lifetime
use Rattle.hir_store.specs.declared.type_ref.ExternAbi.{ExternAbi}
use Rattle.hir_store.specs.declared.type_ref.ExternAbi.TheVariants as abi
use Rattle.hir_store.specs.declared.diagnostics.AwaitLocation.{AwaitLocation}
use Rattle.hir_store.specs.declared.diagnostics.AwaitLocation.TheVariants as location
use Rattle.hir_store.specs.declared.path.ModPath.{ModPath}
use Rattle.hir_env.specs.declared.ctx.LowerCtx.{LowerCtx}
use Rattle.hir_env.specs.declared.ctx.ImplTrait.{ImplTrait}
use Rattle.hir_env.specs.declared.ctx.ImplTrait.TheVariants as becomes
use Rattle.hir_env.specs.declared.ctx.LifetimeScope.{LifetimeScope}
use Rattle.hir_env.specs.declared.ctx.LifetimeScope.TheVariants as scope
use Rattle.hir_env.specs.declared.resolved.Resolution.{Resolution}
use Rattle.hir_env.specs.declared.resolved.Resolution.TheVariants as resolution
use Rattle.hir_env.specs.declared.resolved.BuiltinShadowMode.TheVariants as shadow
use Rattle.hir_alias.specs.Alias.{Alias}
use Rattle.hir_env.specs.Answers.{Answers}
use Rattle.hir_env.specs.ResolveCtx.{in_file, ptr, site_of}
use Rattle.hir_env.specs.Layers.{Sorts, Reader}
use Rattle.hir_env.specs.TypePats.{type_pat_or_none, name_given}
use Rattle.hir_env.specs.Calls.{entered_type}
use Rattle.hir_env.specs.LocalPaths.{at_local_root, or_broken, local_root}
use Rattle.hir_env.specs.PathNames.{mod_path_of}
use Rattle.hir_env.specs.TypeLayers.{ParamReading, PathReading, PathTypeReading, GenericArgLayer, TypeKindLayer, PathLayer}
use Rattle.hir_env.specs.TypeLayers.{PathSegmentLayer, AssocTypeArgLayer, ParamLayer, PathTypeLayer}
use Rattle.hir_env.specs.TypeLayers.{TypeBoundLayer, Type_Layer}
use Rattle.hir_env.specs.ResolvedTree as tree
use Rattle.hir_env.specs.ResolvedTree.{Lifetime, Binder, UseRead, FnHead, Type_, OptionType, Parts, Path, OptionPath, Segments, Segment}
use Rattle.hir_env.specs.ResolvedTree.{SegmentArgs, OptionParens, OptionRet, OptionArgs, Args, Arg, Bounds, Bound, Constant, Pat}
use Rattle.hir_env.specs.ResolvedTree.{OptionPat, Expr, OptionExpr, Param, Params}

-- names, lifetimes and texts

abbrev pub mutability : Bool → Mutability
mutability true = mutable.Mut
mutability false = mutable.Shared

abbrev pub lifetime_ref : List ℕ → LifetimeRef
lifetime_ref t =
    if bytes_eq t (codes "") || bytes_eq t (codes "'") then lifetime.Error else
    (if bytes_eq t (codes "'static") then lifetime.Static else
    (if bytes_eq t (codes "'_") then lifetime.Placeholder else lifetime.Named (name.Text t)))

abbrev pub lifetime_of : LowerCtx → AstLifetime → Lifetime
lifetime_of p l = record { pointer = in_file p (ptr l.id l.range); lifetime = lifetime_ref l.t; scope = p.lifetimes }

-- the lifetimes that are there
abbrev pub binder_names : List (Option AstLifetime) → Binder
binder_names [] = []
binder_names (None ∷ ls) = binder_names ls
binder_names (Some l ∷ ls) = name.Text l.t ∷ binder_names ls

abbrev pub binder_of : Option AstForBinder → Binder
binder_of None = []
binder_of (Some b) = binder_names b.params

abbrev pub use_of : LowerCtx → AstUseArg → UseRead
use_of p (used.Lifetime l) = tree.used_lifetime (lifetime_of p l)
use_of p (used.Name n) = tree.used_name (name.Text n.t)

-- any other text, and the empty one, is `C`
abbrev pub abi_named : List ℕ → ExternAbi
abi_named t =
    if bytes_eq t (codes "Rust") then abi.Rust else
    (if bytes_eq t (codes "C-unwind") then abi.CUnwind else
    (if bytes_eq t (codes "system") then abi.System else
    (if bytes_eq t (codes "system-unwind") then abi.SystemUnwind else
    (if bytes_eq t (codes "cdecl") then abi.Cdecl else
    (if bytes_eq t (codes "stdcall") then abi.Stdcall else
    (if bytes_eq t (codes "fastcall") then abi.Fastcall else
    (if bytes_eq t (codes "vectorcall") then abi.Vectorcall else
    (if bytes_eq t (codes "thiscall") then abi.Thiscall else
    (if bytes_eq t (codes "aapcs") then abi.Aapcs else
    (if bytes_eq t (codes "win64") then abi.Win64 else
    (if bytes_eq t (codes "sysv64") then abi.Sysv64 else
    (if bytes_eq t (codes "efiapi") then abi.Efiapi else
    (if bytes_eq t (codes "rust-call") then abi.RustCall else
    abi.C)))))))))))))

-- where no `extern` is written it is `Rust`
abbrev pub abi_of : Option (List ℕ) → ExternAbi
abi_of None = abi.Rust
abi_of (Some t) = abi_named t

abbrev pub fn_head : Bool → Option (List ℕ) → Bool → List (Option Name) → FnHead
fn_head is_unsafe text is_varargs names = record { is_unsafe = is_unsafe; abi = abi_of text; is_varargs = is_varargs; names = names }

-- places

-- A lifetime in an `impl` counts as one in a bound where that stands in an argument, in a projection of one or in a bound, and else as
-- one in what is returned.
abbrev pub in_impl_scope : LifetimeScope → LifetimeScope
in_impl_scope scope.Nowhere = scope.Output
in_impl_scope scope.Bound = scope.Bound
in_impl_scope scope.Input = scope.Bound
in_impl_scope scope.Projection = scope.Bound
in_impl_scope scope.Output = scope.Output

-- one in the type or the trait of a projection in an argument doesn't count
abbrev pub in_projection_scope : LifetimeScope → LifetimeScope
in_projection_scope scope.Input = scope.Projection
in_projection_scope s = s

-- inside of an `impl`, and inside of a written binding, where another may stand
abbrev pub inside_impl : LowerCtx → LowerCtx
inside_impl p = record p { in_impl = true; lifetimes = in_impl_scope p.lifetimes }

-- the type and the trait of a projection
abbrev pub inside_projection : LowerCtx → LowerCtx
inside_projection p = record p { lifetimes = in_projection_scope p.lifetimes }

abbrev pub outside_impl : LowerCtx → LowerCtx
outside_impl p = record p { in_impl = false }

-- Inside of a constant, or of the pattern of a type, where an `impl` is an error, and which is what an `await` there stands in.
abbrev pub inside_constant : LowerCtx → LowerCtx
inside_constant p = record p { impl_trait = becomes.Error; await_location = Some location.Constant }

-- Inside of a `const` block, which is what an `await` there stands in.
abbrev pub inside_const_block : LowerCtx → LowerCtx
inside_const_block p = record p { await_location = Some location.ConstantBlock }

abbrev pub awaits : CoroutineKind → Option AwaitLocation
awaits coroutine.Async = None
awaits coroutine.Gen = Some location.NonAsyncGenBlock
awaits coroutine.AsyncGen = None

-- Inside of an `async`, `gen` or `async gen` block, of which one that is only `gen` is what an `await` there stands in.
abbrev pub inside_coroutine : CoroutineKind → LowerCtx → LowerCtx
inside_coroutine kind p = record p { await_location = awaits kind }

-- Inside of the body of a closure, which is what an `await` there stands in, where the closure isn't async.
abbrev pub inside_closure : Bool → LowerCtx → LowerCtx
inside_closure is_async p = record p { await_location = if is_async then None else Some location.NonAsyncClosure }

-- aliases

-- of each lifetime parameter of an alias whether the alias's type names it; none is named where the alias has no answer
abbrev pub flags_of : Option Alias → List Bool
flags_of None = []
flags_of (Some s) = s.named

abbrev pub alias_found : Answers → Option Resolution → Option (List Bool)
alias_found env (Some (resolution.TypeAlias n)) = Some (flags_of (env.alias n))
alias_found env _ = None

-- none is looked for outside of arguments
abbrev pub alias_in : LifetimeScope → Answers → ModuleId → ModPath → Option (List Bool)
alias_in scope.Input env m names = alias_found env (env.resolve m names shadow.Module).types
alias_in scope.Nowhere env m names = None
alias_in scope.Bound env m names = None
alias_in scope.Projection env m names = None
alias_in scope.Output env m names = None

abbrev pub alias_named : Answers → LowerCtx → ModPath → Option (List Bool)
alias_named env p names = alias_in p.lifetimes env p.module_id names

abbrev pub alias_or_none : Answers → LowerCtx → Option ModPath → Option (List Bool)
alias_or_none env p None = None
alias_or_none env p (Some names) = alias_named env p names

-- what is answered of an alias in an argument; a path that is refused is none
abbrev pub alias_at : Answers → LowerCtx → Path → Option (List Bool)
alias_at env p x = alias_or_none env p (mod_path_of (tree.some_path x))

abbrev pub with_alias : Option (List Bool) → Path → Path
with_alias alias (tree.path _ leading first rest use_) = tree.path alias leading first rest use_

abbrev pub alias_of : Path → Option (List Bool)
alias_of (tree.path alias leading first rest use_) = alias

-- segments

abbrev pub context_at : Answers → LowerCtx → NodeId → CtxId
context_at env p id = env.context (record { file_id = p.file_id; value = id })

-- the root of the crate that `$crate` at the node stands for
abbrev pub crate_root_at : Answers → LowerCtx → NodeId → Option CrateId
crate_root_at env p id = env.crate_root (context_at env p id)

-- a name, or `$crate`
abbrev pub named_segment : Answers → LowerCtx → Option AstName → SegmentArgs → Segment
named_segment env p None args = tree.broken_segment
named_segment env p (Some n) args =
    if bytes_eq n.t (codes "$crate")
    then tree.dollar_crate_segment (crate_root_at env p n.id)
    else tree.name_segment (name.Text n.t) tt args

-- `<T>` or `<T as Trait>`
abbrev pub qualified_segment : OptionType → Option PathTypeReading → Segment
qualified_segment tree.no_type t = tree.broken_segment
qualified_segment (tree.some_type ty) None = tree.type_segment ty
qualified_segment (tree.some_type ty) (Some t) = tree.trait_segment ty t.pointer t.path

abbrev pub kinded_segment : Answers → LowerCtx → Option SegmentKind → Option AstName → SegmentArgs
    → OptionType → Option PathTypeReading → Segment
kinded_segment env p None n args ty t = tree.broken_segment
kinded_segment env p (Some kind.Name) n args ty t = named_segment env p n args
kinded_segment env p (Some kind.SelfKw) n args ty t = tree.self_segment
kinded_segment env p (Some kind.CrateKw) n args ty t = tree.crate_segment
kinded_segment env p (Some kind.SuperKw) n args ty t = tree.super_segment
kinded_segment env p (Some kind.SelfTypeKw) n args ty t = tree.self_type_segment
kinded_segment env p (Some kind.Qualified) n args ty t = qualified_segment ty t

-- types, arguments and bounds

-- an `impl` inside of another one is an error whose bounds aren't read
abbrev pub impl_at : Bool → ImplTrait → Pointer → Bounds → Type_
impl_at true mode s bs = tree.nested_impl s
impl_at false mode s bs = tree.impl_type s mode bs

abbrev pub lifetime_arg_of : LowerCtx → Option AstLifetime → Arg
lifetime_arg_of p None = tree.skipped_arg
lifetime_arg_of p (Some l) = tree.lifetime_arg (lifetime_of p l)

-- a binding with a parameter list, and one without a name, is skipped
abbrev pub binding_of : Bool → Option AstName → OptionArgs → Bool → OptionType → Bounds → Arg
binding_of true n args dots ty bs = tree.skipped_arg
binding_of false None args dots ty bs = tree.skipped_arg
binding_of false (Some n) args dots ty bs = tree.assoc_arg (name.Text n.t) args dots ty bs

abbrev pub bound_of : Option BoundKind → Option PathTypeReading → Bool → Binder → Option Lifetime → List UseRead → Bound
bound_of (Some bound.Path) (Some t) maybe binder l us = tree.path_bound t.pointer t.path maybe binder
bound_of (Some bound.Lifetime) t maybe binder (Some l) us = tree.lifetime_bound l
bound_of (Some bound.Use) t maybe binder l us = tree.use_bound us
bound_of b t maybe binder l us = tree.error_bound

-- the parameter of a closure, with the condition that disables it
abbrev pub asked_param : Pointer → Result (Unit {0}) CfgId → Param → Param
asked_param s (Ok _) x = x
asked_param s (Err by) x = tree.disabled_param s by x

-- parts that may be absent, and lists

module _ {A : Type 0} where
  abbrev pub type_or_none : (A → LowerCtx → Type_) → Option A → LowerCtx → OptionType
  type_or_none read None p = tree.no_type
  type_or_none read (Some x) p = tree.some_type (read x p)

  abbrev pub pat_or_none : (A → LowerCtx → Pat) → Option A → LowerCtx → OptionPat
  pat_or_none read None p = tree.no_pat
  pat_or_none read (Some x) p = tree.some_pat (read x p)

  abbrev pub expr_or_none : (A → LowerCtx → Expr) → Option A → LowerCtx → OptionExpr
  expr_or_none read None p = tree.no_expr
  expr_or_none read (Some x) p = tree.some_expr (read x p)

  -- a constant that a text lacks has no expression
  abbrev pub constant_or_absent : (A → LowerCtx → Constant) → Option A → LowerCtx → Constant
  constant_or_absent read None p = tree.constant tree.no_expr
  constant_or_absent read (Some x) p = read x p

  abbrev pub types_of : (A → LowerCtx → Type_) → List A → LowerCtx → Parts
  types_of read [] p = tree.no_parts
  types_of read (x ∷ xs) p = tree.more_parts (tree.some_type (read x p)) (types_of read xs p)

  abbrev pub parts_of : (A → LowerCtx → OptionType) → List A → LowerCtx → Parts
  parts_of read [] p = tree.no_parts
  parts_of read (x ∷ xs) p = tree.more_parts (read x p) (parts_of read xs p)

  -- the types of the parameters that aren't variadic
  abbrev pub params_of : (A → LowerCtx → ParamReading) → List A → LowerCtx → Parts
  params_of read [] p = tree.no_parts
  params_of read (x ∷ xs) p = let r = read x p in
      if r.variadic then params_of read xs p else tree.more_parts r.ty (params_of read xs p)

  abbrev pub params_or_none : (A → LowerCtx → ParamReading) → Option (List A) → LowerCtx → Parts
  params_or_none read None p = tree.no_parts
  params_or_none read (Some xs) p = params_of read xs p

  abbrev pub names_given : (A → LowerCtx → ParamReading) → List A → LowerCtx → List (Option Name)
  names_given read [] p = []
  names_given read (x ∷ xs) p = let r = read x p in if r.variadic then names_given read xs p else r.name ∷ names_given read xs p

  abbrev pub names_or_none : (A → LowerCtx → ParamReading) → Option (List A) → LowerCtx → List (Option Name)
  names_or_none read None p = []
  names_or_none read (Some xs) p = names_given read xs p

  -- whether the last is variadic, or else what is said where there is none
  abbrev pub last_variadic : (A → LowerCtx → ParamReading) → Bool → List A → LowerCtx → Bool
  last_variadic read b [] p = b
  last_variadic read b (x ∷ xs) p = last_variadic read (read x p).variadic xs p

  abbrev pub is_varargs : (A → LowerCtx → ParamReading) → Option (List A) → LowerCtx → Bool
  is_varargs read None p = false
  is_varargs read (Some xs) p = last_variadic read false xs p

  -- those of a closure
  abbrev pub closure_params_of : (A → LowerCtx → ParamReading) → List A → LowerCtx → Params
  closure_params_of read [] p = tree.no_params
  closure_params_of read (x ∷ xs) p = tree.more_params (read x p).own (closure_params_of read xs p)

  abbrev pub closure_params_or_none : (A → LowerCtx → ParamReading) → Option (List A) → LowerCtx → Params
  closure_params_or_none read None p = tree.no_params
  closure_params_or_none read (Some xs) p = closure_params_of read xs p

  -- what a function pointer or a closure answers
  abbrev pub answer_or_none : (A → LowerCtx → OptionType) → Option A → LowerCtx → OptionType
  answer_or_none read None p = tree.no_type
  answer_or_none read (Some x) p = read x p

  abbrev pub ret_or_none : (A → LowerCtx → OptionType) → Option A → LowerCtx → OptionRet
  ret_or_none read None p = tree.no_ret
  ret_or_none read (Some x) p = tree.some_ret (read x p)

  -- `-> C` counts beside `(A)` alone
  abbrev pub parens_or_none : (A → LowerCtx → Parts) → Option A → OptionRet → LowerCtx → OptionParens
  parens_or_none read None r p = tree.no_parens
  parens_or_none read (Some x) r p = tree.some_parens (read x p) r

  abbrev pub path_or_none : (A → LowerCtx → Path) → Option A → LowerCtx → OptionPath
  path_or_none read None p = tree.no_path
  path_or_none read (Some x) p = tree.some_path (read x p)

  abbrev pub path_type_or_none : (A → LowerCtx → PathTypeReading) → Option A → LowerCtx → Option PathTypeReading
  path_type_or_none read None p = None
  path_type_or_none read (Some x) p = Some (read x p)

  abbrev pub segment_or_absent : (A → LowerCtx → Segment) → Option A → LowerCtx → Segment
  segment_or_absent read None p = tree.absent_segment
  segment_or_absent read (Some s) p = read s p

  abbrev pub segments_of : (A → LowerCtx → Segment) → List (Option A) → LowerCtx → Segments
  segments_of read [] p = tree.no_segments
  segments_of read (s ∷ ss) p = tree.more_segments (segment_or_absent read s p) (segments_of read ss p)

  -- a path without segments has one, which is absent
  abbrev pub first_of : (A → LowerCtx → Segment) → List (Option A) → LowerCtx → Segment
  first_of read [] p = tree.absent_segment
  first_of read (s ∷ ss) p = segment_or_absent read s p

  abbrev pub rest_of : (A → LowerCtx → Segment) → List (Option A) → LowerCtx → Segments
  rest_of read [] p = tree.no_segments
  rest_of read (s ∷ ss) p = segments_of read ss p

  abbrev pub arg_list_or_none : (A → LowerCtx → Args) → Option A → LowerCtx → OptionArgs
  arg_list_or_none read None p = tree.no_arg_list
  arg_list_or_none read (Some x) p = tree.some_arg_list (read x p)

  abbrev pub generic_args_of : (A → LowerCtx → Arg) → List A → LowerCtx → Args
  generic_args_of read [] p = tree.no_args
  generic_args_of read (x ∷ xs) p = tree.more_args (read x p) (generic_args_of read xs p)

  abbrev pub bounds_of : (A → LowerCtx → Bound) → List A → LowerCtx → Bounds
  bounds_of read [] p = tree.no_bounds
  bounds_of read (x ∷ xs) p = tree.more_bounds (read x p) (bounds_of read xs p)

-- one level

abbrev pub macro_type_at : Answers → {S : Sorts} → Reader S → Option S.MacroCall → LowerCtx → Pointer → Type_
macro_type_at env part None p s = tree.macro_type s tree.callless tree.no_type
macro_type_at env part (Some c) p s = entered_type env part.into (part.macro_call c) p s

module _ (env : Answers) {S : Sorts} (part : Reader S) where
  abbrev pub constant_step : Option S.Expr → LowerCtx → Constant
  constant_step x p = tree.constant (expr_or_none part.expr x (inside_constant p))

  abbrev pub ret_type_step : Option S.Type_ → LowerCtx → OptionType
  ret_type_step x p = type_or_none part.type_ x p

  abbrev pub type_arg_step : Option S.Type_ → LowerCtx → OptionType
  type_arg_step x p = type_or_none part.type_ x p

  abbrev pub paren_args_step : List (Option S.Type_) → LowerCtx → Parts
  paren_args_step xs p = parts_of type_arg_step xs p

  abbrev pub generic_arg_list_step : List S.GenericArg → LowerCtx → Args
  generic_arg_list_step xs p = generic_args_of part.generic_arg xs p

  abbrev pub type_at : TypeKindLayer S → LowerCtx → Pointer → Type_
  type_at (TypeKind-F.ParenType t) p s = tree.paren_type (type_or_none part.type_ t p)
  type_at (TypeKind-F.SliceType t) p s = tree.over_type s tree.slice_of (type_or_none part.type_ t p)
  type_at (TypeKind-F.ArrayType t c) p s = tree.array_type s (constant_or_absent constant_step c p) (type_or_none part.type_ t p)
  type_at (TypeKind-F.TupleType ts) p s = tree.tuple_type s (types_of part.type_ ts p)
  type_at (TypeKind-F.PathType x) p s = tree.path_type s (path_or_none part.path x p)
  type_at (TypeKind-F.PtrType m t) p s = tree.over_type s (tree.pointer_to (mutability m)) (type_or_none part.type_ t p)
  type_at (TypeKind-F.RefType l m t) p s = tree.ref_type s (option_map (lifetime_of p) l) (mutability m) (type_or_none part.type_ t p)
  type_at (TypeKind-F.FnPtrType is_unsafe text ps r) p s =
      tree.fn_type s (fn_head is_unsafe text (is_varargs part.param ps p) (names_or_none part.param ps p))
      (params_or_none part.param ps p) (answer_or_none ret_type_step r p)
  type_at (TypeKind-F.ForType b t) p s = tree.for_type (binder_of b) (type_or_none part.type_ t p)
  type_at (TypeKind-F.ImplTraitType bs) p s = impl_at p.in_impl p.impl_trait s (bounds_of part.type_bound bs (inside_impl p))
  type_at (TypeKind-F.DynTraitType bs) p s = tree.dyn_type s (bounds_of part.type_bound bs p)
  type_at (TypeKind-F.PatternType t x) p s = let q = pat_or_none part.pat x (inside_constant p) in
      tree.pattern_type s (type_or_none part.type_ t p) q (type_pat_or_none env.lang_items q)
  type_at (TypeKind-F.MacroType call) p s = macro_type_at env part call p s
  type_at TypeKind-F.NeverType p s = tree.leaf_type s tree.never_leaf
  type_at TypeKind-F.InferType p s = tree.leaf_type s tree.infer_leaf

  abbrev pub type_kind_step : TypeKindLayer S → AstPtr → LowerCtx → Type_
  type_kind_step k n p = type_at k p (in_file p n)

  abbrev pub type_step : Type_Layer S → LowerCtx → Type_
  type_step t = part.type_kind t.kind (ptr t.id t.range)

  abbrev pub param_step : ParamLayer S → LowerCtx → ParamReading
  param_step x p = let s = in_file p (ptr x.id x.range) in record {
    variadic = x.variadic;
    name = name_given (pat_or_none part.pat x.pat p);
    ty = type_or_none part.type_ x.ty p;
    own = asked_param s (env.cfg (site_of s)) (tree.param (pat_or_none part.pat x.pat p) (type_or_none part.type_ x.ty p));
  }

  -- the segments of a path, and those of the use tree around it
  abbrev pub plain_path : PathLayer S → LowerCtx → Path
  plain_path x p = tree.path None x.leading (first_of part.segment x.segs p) (rest_of part.segment x.segs p)
      (path_or_none part.use_tree x.use_ p)

  -- by itself it may stand directly in a macro call
  abbrev pub called_path : Bool → Bool → List (Option S.PathSegment) → Option S.Path → LowerCtx → Path → Path
  called_path true leading [] None p x = or_broken leading x
  called_path true leading (None ∷ []) None p x = or_broken leading x
  called_path true leading (Some s ∷ []) None p x = at_local_root (local_root env (context_at env p (part.segment_node s))) x
  called_path in_macro leading ss u p x = x

  abbrev pub path_step : PathLayer S → LowerCtx → Path
  path_step x p = let y = called_path x.in_macro x.leading x.segs x.use_ p (plain_path x p) in with_alias (alias_at env p y) y

  -- as the use tree around another path it is a part of a longer list of segments, wherever it stands
  abbrev pub path_reading : PathLayer S → PathReading
  path_reading x = record { alone = path_step x; use_tree = plain_path x }

  abbrev pub segment_step : PathSegmentLayer S → LowerCtx → Segment
  segment_step s p = kinded_segment env p s.seg s.name
      (tree.segment_args (arg_list_or_none generic_arg_list_step s.generics p)
      (parens_or_none paren_args_step s.parens (ret_or_none ret_type_step s.ret p) p) s.rtn)
      (type_or_none part.type_ s.ty (inside_projection p)) (path_type_or_none part.path_type s.trait_ (inside_projection p))

  abbrev pub path_type_step : PathTypeLayer S → LowerCtx → PathTypeReading
  path_type_step t p = record { pointer = in_file p (ptr t.id t.range); path = path_or_none part.path t.path p }

  abbrev pub generic_arg_step : GenericArgLayer S → LowerCtx → Arg
  generic_arg_step (GenericArg-F.TypeArg x) p = tree.type_arg (type_arg_step x p)
  generic_arg_step (GenericArg-F.AssocTypeArg x) p = part.assoc_type_arg x p
  generic_arg_step (GenericArg-F.LifetimeArg x) p = lifetime_arg_of p x.lifetime
  generic_arg_step (GenericArg-F.ConstArg x) p = tree.const_arg (constant_step x p)

  abbrev pub assoc_type_arg_step : AssocTypeArgLayer S → LowerCtx → Arg
  assoc_type_arg_step x p = let inner = outside_impl p in
      binding_of x.params x.name (arg_list_or_none generic_arg_list_step x.generics inner) x.rtn
      (type_or_none part.type_ x.ty inner) (bounds_of part.type_bound x.bounds inner)

  abbrev pub type_bound_step : TypeBoundLayer S → LowerCtx → Bound
  type_bound_step b p = bound_of b.b (path_type_or_none part.path_type b.ty p) b.maybe (binder_of b.binder)
      (option_map (lifetime_of p) b.lifetime) (map (use_of p) b.uses)
