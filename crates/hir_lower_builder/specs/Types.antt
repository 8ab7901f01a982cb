-- What is done with the parts of a type, of a list of arguments and of a bound.
use Rattle.std.specs.Prelude.{Bool, true, false, ◌&&◌, if◌then◌else◌, List, [], ◌∷◌, ◌++◌, Option, Some, None}
use Rattle.hir_store.specs.Pointers.{Pointer}
use Rattle.hir_store.specs.Generics.{of_args, of_binding}
use Rattle.hir_store.specs.Past.{Past, join, past_args, past_bindings}
use Rattle.hir_store.specs.declared.hir.Mutability.{Mutability}
use Rattle.hir_store.specs.declared.ids.TypeRefId.{TypeRefId}
use Rattle.hir_store.specs.declared.ids.LifetimeRefId.{LifetimeRefId}
use Rattle.hir_store.specs.declared.ids.PatId.{PatId}
use Rattle.hir_store.specs.declared.name.Name.{Name}
use Rattle.hir_store.specs.declared.path.Path.{Path as HirPath}
use Rattle.hir_store.specs.declared.path.GenericArg.{GenericArg}
use Rattle.hir_store.specs.declared.path.GenericArgs.{GenericArgs}
use Rattle.hir_store.specs.declared.path.AssociatedTypeBinding.{AssociatedTypeBinding}
use Rattle.hir_store.specs.declared.path.GenericArgsParentheses.TheVariants as parens
use Rattle.hir_store.specs.declared.type_ref.ConstRef.{ConstRef}
use Rattle.hir_store.specs.declared.type_ref.TypeRef.{TypeRef}
use Rattle.hir_store.specs.declared.type_ref.TypeRef.TheVariants as ty
use Rattle.hir_store.specs.declared.type_ref.UseArgRef.{UseArgRef}
use Rattle.hir_store.specs.declared.type_ref.UseArgRef.TheVariants as use_arg
use Rattle.hir_store.specs.declared.type_ref.TypeBound.{TypeBound}
use Rattle.hir_store.specs.declared.type_ref.TypeBound.TheVariants as bound
use Rattle.hir_store.specs.declared.type_ref.TraitBoundModifier.{TraitBoundModifier}
use Rattle.hir_store.specs.declared.type_ref.TraitBoundModifier.TheVariants as modifier
use Rattle.hir_env.specs.declared.ctx.ImplTrait.{ImplTrait}
use Rattle.hir_env.specs.ResolvedTree as tree
use Rattle.hir_env.specs.ResolvedTree.{Binder, Called, FnHead, Lifetime, TypeLeaf, TypeUnary, UseRead}
use Rattle.hir_lower_builder.specs.declared.args.ArgLists.{ArgLists}
use Rattle.hir_lower_builder.specs.Calls.{emitted}
use Rattle.hir_lower_builder.specs.Generics.{naming}
use Rattle.hir_lower_builder.specs.Lowering.{Lowering, ◌>>=◌, ◌>>◌, pure, alloc_type, alloc_lifetime, becoming, track_down, point_type}
use Rattle.hir_lower_builder.specs.Paths.{or_notation}

-- steps that make a type
abbrev pub TypeSteps : Type 0
TypeSteps = Lowering TypeRefId

-- a type that is absent is an error without source
unfoldable pub error_type : TypeSteps
error_type = alloc_type ty.Error None

unfoldable pub unit_type : TypeSteps
unit_type = alloc_type (ty.Tuple []) None

-- the call leads to what it stands for
unfoldable pub called_type_form : Pointer → Called → TypeSteps → TypeSteps
called_type_form at called inner = do
  emitted called
  id ← inner
  point_type at id
  pure id

-- A call that the text lacks is an error at its own node; the node of another one that stands for no type leads
-- to an error that comes from none.
abbrev pub uncalled_type : Pointer → Called → TypeSteps
uncalled_type at tree.callless = alloc_type ty.Error (Some at)
uncalled_type at called = called_type_form at called error_type

-- lifetimes

-- it counts where it stands
unfoldable pub lower_lifetime : Lifetime → Lowering LifetimeRefId
lower_lifetime l = do
  track_down (naming l.scope l.lifetime)
  alloc_lifetime l.lifetime (Some l.pointer)

-- the lifetime, where one is written
abbrev pub lower_lifetime_option : Option Lifetime → Lowering (Option LifetimeRefId)
lower_lifetime_option None = pure None
lower_lifetime_option (Some l) = do
  id ← lower_lifetime l
  pure (Some id)

-- what a `use<..>` names
abbrev pub lower_use : UseRead → Lowering UseArgRef
lower_use (tree.used_name n) = pure (use_arg.Name n)
lower_use (tree.used_lifetime l) = do
  id ← lower_lifetime l
  pure (use_arg.Lifetime id)

abbrev pub lower_uses : List UseArgRef → List UseRead → Lowering (List UseArgRef)
lower_uses done [] = pure done
lower_uses done (u ∷ us) = do
  x ← lower_use u
  lower_uses (done ++ x ∷ []) us

-- types

abbrev pub stored_leaf_type : TypeLeaf → TypeRef
stored_leaf_type tree.never_leaf = ty.Never
stored_leaf_type tree.infer_leaf = ty.Placeholder

abbrev pub stored_over_type : TypeUnary → TypeRefId → TypeRef
stored_over_type (tree.pointer_to mutability) t = ty.RawPtr t mutability
stored_over_type tree.slice_of t = ty.Slice t

unfoldable pub over_form : Pointer → TypeUnary → TypeSteps → TypeSteps
over_form at form inner = do
  t ← inner
  alloc_type (stored_over_type form t) (Some at)

unfoldable pub tuple_type_form : Pointer → Lowering (List TypeRefId) → TypeSteps
tuple_type_form at fields = do
  ts ← fields
  alloc_type (ty.Tuple ts) (Some at)

abbrev pub array_of_length : Pointer → ConstRef → TypeSteps → TypeSteps
array_of_length at length element = do
  t ← element
  alloc_type (ty.Array (record { ty = t; len = length })) (Some at)

-- the length before the type of the elements
unfoldable pub array_type_form : Pointer → Lowering ConstRef → TypeSteps → TypeSteps
array_type_form at length element = do
  n ← length
  array_of_length at n element

-- a path that is absent or refused is an error
abbrev pub path_or_error : Option HirPath → TypeRef
path_or_error None = ty.Error
path_or_error (Some p) = ty.Path p

unfoldable pub path_type_form : Pointer → Lowering (Option HirPath) → TypeSteps
path_type_form at path = do
  p ← path
  alloc_type (path_or_error p) (Some at)

-- the type before the lifetime
unfoldable pub ref_type_form : Pointer → Mutability → TypeSteps → Lowering (Option LifetimeRefId) → TypeSteps
ref_type_form at mutability inner lifetime = do
  t ← inner
  l ← lifetime
  alloc_type (ty.Reference (record { ty = t; lifetime = l; mutability = mutability })) (Some at)

-- a function pointer of these types, the last of which it answers
abbrev pub stored_fn : Option Binder → FnHead → List TypeRefId → TypeRef
stored_fn binder head ts = ty.Fn (record {
  params = ts;
  names = head.names;
  is_varargs = head.is_varargs;
  is_unsafe = head.is_unsafe;
  abi = head.abi;
  binder = binder;
})

-- what it answers is lowered first
unfoldable pub fn_type_form : Pointer → Option Binder → FnHead → Lowering (List TypeRefId) → TypeSteps → TypeSteps
fn_type_form at binder head params output = do
  r ← output
  ts ← params
  alloc_type (stored_fn binder head (ts ++ r ∷ [])) (Some at)

unfoldable pub impl_type_form : Pointer → ImplTrait → Lowering (List TypeBound) → TypeSteps
impl_type_form at mode bounds = do
  bs ← bounds
  becoming at mode bs

unfoldable pub dyn_type_form : Pointer → Lowering (List TypeBound) → TypeSteps
dyn_type_form at bounds = do
  bs ← bounds
  alloc_type (ty.DynTrait bs) (Some at)

-- a type with a pattern behind it
unfoldable pub pattern_type_form : Pointer → TypeSteps → Lowering PatId → TypeSteps
pattern_type_form at inner pattern = do
  t ← inner
  p ← pattern
  alloc_type (ty.Pattern t p) (Some at)

-- lists of arguments

abbrev pub no_lists : ArgLists
no_lists = record { args = []; bindings = [] }

abbrev pub add_arg : ArgLists → GenericArg → ArgLists
add_arg l a = record l { args = l.args ++ a ∷ [] }

abbrev pub add_binding : ArgLists → AssociatedTypeBinding → ArgLists
add_binding l b = record l { bindings = l.bindings ++ b ∷ [] }

abbrev pub is_none_of : {A : Type 0} → List A → Bool
is_none_of [] = true
is_none_of (x ∷ xs) = false

-- a list without argument and binding is none
abbrev pub yielded : ArgLists → Option GenericArgs
yielded l = if is_none_of l.args && is_none_of l.bindings then None else Some (of_args l.args false l.bindings parens.No)

abbrev pub past_lists : ArgLists → Past
past_lists l = join (past_args l.args) (past_bindings l.bindings)

-- a binding: its arguments, its type, its bounds
unfoldable pub binding_form : Name → Bool → Lowering (Option GenericArgs) → Lowering (Option TypeRefId) → Lowering (List TypeBound)
    → Lowering AssociatedTypeBinding
binding_form name dots args type_ref bounds = do
  a ← args
  t ← type_ref
  bs ← bounds
  pure (of_binding name (or_notation a dots) t bs)

-- bounds

abbrev pub stored_modifier : Bool → TraitBoundModifier
stored_modifier true = modifier.Maybe
stored_modifier false = modifier.None

-- behind a binder that isn't empty no `?` counts
abbrev pub stored_path_bound : Bool → Binder → TypeRefId → TypeBound
stored_path_bound maybe [] id = bound.Path id (stored_modifier maybe)
stored_path_bound maybe (n ∷ ns) id = bound.ForLifetime (n ∷ ns) id

-- a path is stored as a type, and an error where it is absent or refused
abbrev pub path_bound_of : Pointer → Bool → Binder → Option HirPath → Lowering TypeBound
path_bound_of at maybe binder None = pure bound.Error
path_bound_of at maybe binder (Some p) = do
  id ← alloc_type (ty.Path p) (Some at)
  pure (stored_path_bound maybe binder id)

unfoldable pub path_bound_form : Pointer → Bool → Binder → Lowering (Option HirPath) → Lowering TypeBound
path_bound_form at maybe binder path = do
  p ← path
  path_bound_of at maybe binder p
