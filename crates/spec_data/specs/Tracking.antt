-- What is noted of a part of a tree: which `impl`s become parameters, and the names of lifetimes, by where they stand.
use Rattle.std.specs.Prelude.{Bool, true, false, List, [], ◌∷◌, ◌++◌, Option, Some, None}
use Rattle.hir_store.specs.Pointers.{Pointer}
use Rattle.hir_store.specs.declared.ids.GenericDefId.{GenericDefId}
use Rattle.hir_store.specs.declared.name.Name.{Name}
use Rattle.hir_store.specs.declared.type_ref.LifetimeRef.{LifetimeRef}
use Rattle.hir_store.specs.declared.type_ref.LifetimeRef.TheVariants as lifetime
use Rattle.hir_env.specs.declared.ctx.LifetimeScope.{LifetimeScope}
use Rattle.hir_env.specs.declared.ctx.LifetimeScope.TheVariants as scope
use Rattle.hir_env.specs.ResolvedTree.{Bounds, Lifetime}

-- an `impl` that becomes a parameter: of which definition, at which node, and with which bounds
pub record Impl : Type 0 where
  pub parent : GenericDefId
  pub at : Pointer
  pub bounds : Bounds

-- The `impl`s that become parameters, in the order in which they do, those inside of the bounds of another in front of it; and the names
-- in bounds, in arguments and in what is returned, in the order in which they are read.
pub record Tracking : Type 0 where
  pub impls : List Impl
  pub bounds : List Name
  pub input : List Name
  pub output : List Name

abbrev pub none : Tracking
none = record { impls = []; bounds = []; input = []; output = [] }

infixr 20 ◌⊕◌
-- one after another
abbrev pub ◌⊕◌ : Tracking → Tracking → Tracking
a ⊕ b = record {
  impls = a.impls ++ b.impls;
  bounds = a.bounds ++ b.bounds;
  input = a.input ++ b.input;
  output = a.output ++ b.output;
}

-- a name, by where it stands; in a projection of an argument it counts nowhere
abbrev pub one_name : LifetimeScope → Name → Tracking
one_name scope.Nowhere n = none
one_name scope.Bound n = record none { bounds = n ∷ [] }
one_name scope.Input n = record none { input = n ∷ [] }
one_name scope.Projection n = none
one_name scope.Output n = record none { output = n ∷ [] }

abbrev pub one_ref : LifetimeScope → LifetimeRef → Tracking
one_ref s (lifetime.Named n) = one_name s n
one_ref s lifetime.Static = none
one_ref s lifetime.Placeholder = none
one_ref s lifetime.Error = none

abbrev pub of_lifetime : Lifetime → Tracking
of_lifetime l = one_ref l.scope l.lifetime

abbrev pub of_lifetime_option : Option Lifetime → Tracking
of_lifetime_option None = none
of_lifetime_option (Some l) = of_lifetime l

-- the names at the chosen places
abbrev pub names_at : List Bool → List (Option Name) → List Name
names_at [] ns = []
names_at (c ∷ cs) [] = []
names_at (true ∷ cs) (Some n ∷ ns) = n ∷ names_at cs ns
names_at (true ∷ cs) (None ∷ ns) = names_at cs ns
names_at (false ∷ cs) (n ∷ ns) = names_at cs ns

-- Of an alias in an argument only the lifetimes at the chosen places of its arguments count, in place of all that is named in it; without
-- arguments, and where it is refused, all that is named counts.
abbrev pub cut : Option (List Bool) → Option (List (Option Name)) → Tracking → Tracking
cut None names n = n
cut (Some places) None n = n
cut (Some places) (Some names) n = record n { input = names_at places names }
