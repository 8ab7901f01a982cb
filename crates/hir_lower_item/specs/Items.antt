-- Items with the answers written into them: what is generic in them, and the types that they hold. What isn't read isn't there.
use Rattle.std.specs.Prelude.{List, Option}
use Rattle.hir_store.specs.Pointers.{Pointer}
use Rattle.hir_store.specs.declared.diagnostics.MissingBodyItemKind.{MissingBodyItemKind}
use Rattle.hir_store.specs.declared.hir.CoroutineKind.{CoroutineKind}
use Rattle.hir_store.specs.declared.hir.Mutability.{Mutability}
use Rattle.hir_store.specs.declared.ids.CfgId.{CfgId}
use Rattle.hir_store.specs.declared.name.Name.{Name}
use Rattle.hir_env.specs.ResolvedTree.{Binder, Bounds, Constant, Lifetime, OptionRet, OptionType, Type_}
use Rattle.hir_env.specs.TypeLayers.{PathTypeReading}

-- a generic parameter
pub data Param : Type 0 where
  -- a condition disables it
  disabled_param : Pointer → CfgId → Param
  -- its name, its default and its bounds
  type_param : Name → OptionType → Bounds → Param
  -- its name, its type and its default
  const_param : Name → OptionType → Option Constant → Param
  -- its name, the lifetime that it is, and its bounds
  lifetime_param : Name → Lifetime → Bounds → Param
  -- a lifetime that a text lacks or that has no name: it makes no parameter, and its bounds aren't read
  nameless_param : Option Lifetime → Param

-- a predicate of a where clause
pub data Predicate : Type 0 where
  -- the type, the names of its `for<..>`, where one stands there, and the bounds
  of_type : Type_ → Option Binder → Bounds → Predicate
  of_lifetime : Lifetime → Bounds → Predicate
  -- what it is of is absent, and its bounds aren't read
  of_nothing : Predicate

pub record Generics : Type 0 where
  pub params : List Param
  pub predicates : List Predicate

-- `self` among the parameters of a function
pub data Receiver : Type 0 where
  no_receiver : Receiver
  -- a condition disables it
  disabled_receiver : Pointer → CfgId → Receiver
  -- with a type that is written
  typed_receiver : Type_ → Receiver
  -- by itself, or behind a reference of this mutability; and the lifetime, which may stand there without a reference
  self_receiver : Option Mutability → Option Lifetime → Receiver

-- another parameter of a function
pub data Argument : Type 0 where
  -- a condition disables it
  disabled_argument : Pointer → CfgId → Argument
  -- its type isn't read
  variadic_argument : Argument
  argument : OptionType → Argument

pub record Function : Type 0 where
  pub generics : Generics
  pub receiver : Receiver
  pub arguments : List Argument
  pub ret : OptionRet
  -- what kind of coroutine its body is, where it is one
  pub kind : Option CoroutineKind

pub record Impl : Type 0 where
  pub self_type : OptionType
  -- the node of the trait and its path, where it is written as a path as it stands
  pub trait_ : Option PathTypeReading
  pub generics : Generics

pub record Trait : Type 0 where
  -- those of `Self`
  pub bounds : Bounds
  pub generics : Generics

pub record Alias : Type 0 where
  pub bounds : Bounds
  pub generics : Generics
  pub type_ : OptionType
  -- its node, where it owes a type that it lacks
  pub missing : Option (Pointer × MissingBodyItemKind)
