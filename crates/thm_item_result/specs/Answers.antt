-- What lowering an item answers: it reads back as what is written, and each body inside it does what the written one does.
use Rattle.std.specs.Prelude.{codes, ◌≡◌, ℕ, Bool, true, false, List, [], ◌∷◌, ◌++◌, Option, Some, None, option_map, Ok}
use Rattle.hir_store.specs.Stored.{Store, SourceMap, Stored, map_of, store_of}
use Rattle.hir_store.specs.StoreSink.{Extends}
use Rattle.hir_store.specs.declared.hir.CoroutineKind.{CoroutineKind}
use Rattle.hir_store.specs.declared.hir.CoroutineKind.TheVariants as coroutine
use Rattle.hir_store.specs.declared.hir.Mutability.{Mutability}
use Rattle.hir_store.specs.declared.ids.GenericDefId.{GenericDefId}
use Rattle.hir_store.specs.declared.ids.TypeRefId.{TypeRefId}
use Rattle.hir_store.specs.declared.name.Name.{Name}
use Rattle.hir_store.specs.declared.name.Name.TheVariants as name
use Rattle.hir_store.specs.declared.path.GenericArgsParentheses.TheVariants as parens
use Rattle.hir_store.specs.declared.path.PathKind.TheVariants as kind
use Rattle.hir_store.specs.declared.type_ref.TraitBoundModifier.TheVariants as modifier
use Rattle.hir_store.specs.declared.type_ref.TraitRef.{TraitRef}
use Rattle.hir_store.specs.declared.type_ref.TypeBound.{TypeBound}
use Rattle.hir_store.specs.declared.type_ref.TypeRef.{TypeRef}
use Rattle.hir_store.specs.declared.type_ref.TypeRef.TheVariants as type
use Rattle.hir_env.specs.ResolvedTree as tree
use Rattle.hir_env.specs.ResolvedTree.{OptionRet}
use Rattle.hir_env.specs.TypeLayers.{PathTypeReading}
use Rattle.spec_data.specs.Data as datum
use Rattle.spec_data.specs.Data.{LifetimeData, OptionTypeData, PathData, Shape, TypeData, TypesData, typed}
use Rattle.spec_data.specs.Reading.{Readers, bounds_layer, entries, names_beside, readers, stored_option_type, stored_type, types_layer}
use Rattle.spec_data.specs.Written.{bounds_data, lifetime_data, type_data, unit_data, written_option_type, written_path, written_type}
use Rattle.spec_semantics.specs.Inner.{Bodies, all_inners, all_of, bounds_bodies, of_bound, of_present, part_bodies, path_bodies}
use Rattle.spec_semantics.specs.Inner.{type_inner_bodies}
use Rattle.spec_semantics.specs.Same.{SameBodies}
use Rattle.hir_lower_builder.specs.Builder.{Builder}
use Rattle.hir_lower_builder.specs.Lowering.{Lowering}
use Rattle.hir_lower_item.specs.Items as item
use Rattle.hir_lower_item.specs.Items.{Alias, Argument, Function, Impl, Receiver}
use Rattle.hir_lower_item.specs.Lower.{lower_alias, lower_function, lower_impl}
use Rattle.thm_logic.specs.Keeps.{Paired}

-- words

abbrev pub self_name : Name
self_name = name.Text (codes "Self")

-- the names of the trait of a coroutine
abbrev pub coroutine_trait : CoroutineKind → List Name
coroutine_trait coroutine.Async = name.Text (codes "core") ∷ name.Text (codes "future") ∷ name.Text (codes "Future") ∷ []
coroutine_trait coroutine.Gen = name.Text (codes "core") ∷ name.Text (codes "iter") ∷ name.Text (codes "Iterator") ∷ []
coroutine_trait coroutine.AsyncGen = name.Text (codes "core") ∷ name.Text (codes "async_iter") ∷ name.Text (codes "AsyncIterator") ∷ []

-- and that of the type in it which the coroutine gives
abbrev pub coroutine_item : CoroutineKind → Name
coroutine_item coroutine.Async = name.Text (codes "Output")
coroutine_item coroutine.Gen = name.Text (codes "Item")
coroutine_item coroutine.AsyncGen = name.Text (codes "Item")

-- whether a `self` is there and kept, with a type or without
abbrev pub keeps_self : Receiver → Bool
keeps_self item.no_receiver = false
keeps_self (item.disabled_receiver at by) = false
keeps_self (item.typed_receiver t) = true
keeps_self (item.self_receiver borrow l) = true

-- whether one of the others is variadic and kept
abbrev pub keeps_variadic : List Argument → Bool
keeps_variadic [] = false
keeps_variadic (item.disabled_argument at by ∷ xs) = keeps_variadic xs
keeps_variadic (item.variadic_argument ∷ xs) = true
keeps_variadic (item.argument t ∷ xs) = keeps_variadic xs

-- the type that the parameter of this definition with this number is
abbrev pub parameter_type : GenericDefId → ℕ → TypeRef
parameter_type def k = type.TypeParam (record { parent = def; local_id = record { 0 = k } })

-- what is written

-- the trait of an `impl`, which comes from its node, where its path isn't refused
abbrev pub trait_data : Option PathTypeReading → Option TypeData
trait_data None = None
trait_data (Some x) = option_map (λ d. typed (Some x.pointer) (datum.path_shape d)) (written_path x.path)

abbrev pub trait_bodies : Option PathTypeReading → Bodies
trait_bodies None = []
trait_bodies (Some x) = path_bodies x.path

-- `Self`, which comes from no node
abbrev pub self_shape : Shape
self_shape = datum.path_shape (datum.path_data kind.Plain datum.no_type (datum.more_names self_name datum.no_args datum.no_names) true)

abbrev pub self_data : TypeData
self_data = typed None self_shape

-- or a reference to it, which comes from no node either
abbrev pub borrowed_data : Option Mutability → Option LifetimeData → TypeData
borrowed_data None l = self_data
borrowed_data (Some m) l = typed None (datum.reference_shape self_data l m)

-- what is given: `self`, where it is kept, in front of these
abbrev pub receiver_data : Receiver → TypesData → TypesData
receiver_data item.no_receiver behind = behind
receiver_data (item.disabled_receiver at by) behind = behind
receiver_data (item.typed_receiver t) behind = datum.more_types (type_data None t) behind
receiver_data (item.self_receiver borrow l) behind = datum.more_types (borrowed_data borrow (option_map lifetime_data l)) behind

-- and the others that are kept and aren't variadic
abbrev pub arguments_data : List Argument → TypesData
arguments_data [] = datum.no_types
arguments_data (item.disabled_argument at by ∷ xs) = arguments_data xs
arguments_data (item.variadic_argument ∷ xs) = arguments_data xs
arguments_data (item.argument t ∷ xs) = datum.more_types (written_type t) (arguments_data xs)

abbrev pub receiver_bodies : Receiver → Bodies
receiver_bodies item.no_receiver = []
receiver_bodies (item.disabled_receiver at by) = []
receiver_bodies (item.typed_receiver t) = part_bodies (tree.some_type t)
receiver_bodies (item.self_receiver borrow l) = []

abbrev pub arguments_bodies : List Argument → Bodies
arguments_bodies [] = []
arguments_bodies (item.disabled_argument at by ∷ xs) = arguments_bodies xs
arguments_bodies (item.variadic_argument ∷ xs) = arguments_bodies xs
arguments_bodies (item.argument t ∷ xs) = part_bodies t ++ arguments_bodies xs

-- the path of the trait of a coroutine, with what it gives
abbrev pub coroutine_path_data : CoroutineKind → TypeData → PathData
coroutine_path_data k given =
    let b = datum.binding_data (coroutine_item k) datum.no_args (datum.some_type given) datum.no_bounds in
    let a = datum.args_data datum.no_arguments false (datum.more_bindings b datum.no_bindings) parens.No in
    let beside = datum.no_args ∷ (datum.no_args ∷ (datum.some_args a ∷ [])) in
    datum.path_data kind.Abs datum.no_type (names_beside (coroutine_trait k) beside) false

-- an `impl` of it
abbrev pub coroutine_shape : CoroutineKind → TypeData → Shape
coroutine_shape k given = datum.impl_shape
    (datum.more_bounds (datum.path_bound (typed None (datum.path_shape (coroutine_path_data k given))) modifier.None) datum.no_bounds)

abbrev pub coroutine_data : CoroutineKind → TypeData → TypeData
coroutine_data k given = typed None (coroutine_shape k given)

-- what is returned; a coroutine gives `()` where nothing is written
abbrev pub output_data : Option CoroutineKind → OptionRet → OptionTypeData
output_data None tree.no_ret = datum.no_type
output_data None (tree.some_ret t) = datum.some_type (written_type t)
output_data (Some k) tree.no_ret = datum.some_type (coroutine_data k unit_data)
output_data (Some k) (tree.some_ret t) = datum.some_type (coroutine_data k (written_type t))

abbrev pub output_bodies : OptionRet → Bodies
output_bodies tree.no_ret = []
output_bodies (tree.some_ret t) = part_bodies t

-- what is answered

-- where all is read that is in a store
module _ (store : Store) (source_map : SourceMap) where
  abbrev pub whole : Readers
  whole = readers store source_map (entries store source_map)

  -- its type, and its trait
  pub record ImplReads (x : Impl) (self : TypeRefId) (trait_ : Option TraitRef) : Type 0 where
    pub self_reads : stored_type store source_map self ≡ written_type x.self_type
    pub trait_reads : option_map (λ t. stored_type store source_map t.path) trait_ ≡ trait_data x.trait_
    pub bodies : SameBodies store source_map
        (type_inner_bodies store self ++ of_present (λ t. type_inner_bodies store t.path) trait_)
        (part_bodies x.self_type ++ trait_bodies x.trait_)

  -- its bounds, and its type
  pub record AliasReads (x : Alias) (bounds : List TypeBound) (ty : Option TypeRefId) : Type 0 where
    pub bounds_read : bounds_layer store source_map whole bounds ≡ bounds_data x.bounds
    pub type_reads : stored_option_type store source_map ty ≡ written_option_type x.type_
    pub bodies : SameBodies store source_map
        (all_of (of_bound (all_inners store)) bounds ++ of_present (type_inner_bodies store) ty)
        (bounds_bodies x.bounds ++ part_bodies x.type_)

  -- the types of what is given, and of what is returned; whether it has a `self`, and whether it is variadic
  pub record FunctionReads (x : Function) (args : List TypeRefId) (ret : Option TypeRefId) (self variadic : Bool) : Type 0 where
    pub args_read : types_layer store source_map whole args datum.no_types ≡ receiver_data x.receiver (arguments_data x.arguments)
    pub ret_reads : stored_option_type store source_map ret ≡ output_data x.kind x.ret
    pub has_self : self ≡ keeps_self x.receiver
    pub has_variadic : variadic ≡ keeps_variadic x.arguments
    pub bodies : SameBodies store source_map
        (all_of (type_inner_bodies store) args ++ of_present (type_inner_bodies store) ret)
        ((receiver_bodies x.receiver ++ arguments_bodies x.arguments) ++ output_bodies x.ret)

-- theorems

-- from any builder on in which each entry has its source, and in each store that goes on with what is stored then
abbrev pub Answers : {A : Type 0} → (Store → SourceMap → A → Type 0) → Lowering A → Type 0
Answers {A} R p = (b c : Builder) (a : A) → Paired b.stored → p b ≡ (Ok a, c) → (later : Stored) → Extends c.stored later
    → R (store_of later) (map_of later) a

abbrev pub ImplsRead : Type 0
ImplsRead = (def : GenericDefId) (x : Impl)
    → Answers (λ store source_map a. ImplReads store source_map x a.0 a.1) (lower_impl def x)

abbrev pub AliasesRead : Type 0
AliasesRead = (def : GenericDefId) (x : Alias)
    → Answers (λ store source_map a. AliasReads store source_map x a.0 a.1) (lower_alias def x)

abbrev pub FunctionsRead : Type 0
FunctionsRead = (def : GenericDefId) (x : Function)
    → Answers (λ store source_map a. FunctionReads store source_map x a.args a.ret a.has_self a.has_variadic) (lower_function def x)
