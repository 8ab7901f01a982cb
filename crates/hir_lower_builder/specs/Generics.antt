-- What lowering notes beside what it stores: parameters, predicates, and the names of lifetimes.
use Rattle.std.specs.Prelude.{Bool, true, false, ℕ, List, [], ◌∷◌, ◌++◌, take, slice_get, Option, Some, None}
use Rattle.hir_store.specs.declared.generics.LifetimeParamData.{LifetimeParamData}
use Rattle.hir_store.specs.declared.generics.TypeOrConstParamData.{TypeOrConstParamData}
use Rattle.hir_store.specs.declared.generics.TypeOrConstParamData.TheVariants as param
use Rattle.hir_store.specs.declared.generics.TypeParamProvenance.TheVariants as provenance
use Rattle.hir_store.specs.declared.generics.WherePredicate.{WherePredicate}
use Rattle.hir_store.specs.declared.generics.WherePredicate.TheVariants as where_
use Rattle.hir_store.specs.declared.ids.TypeRefId.{TypeRefId}
use Rattle.hir_store.specs.declared.name.Name.{Name}
use Rattle.hir_store.specs.declared.path.GenericArg.{GenericArg}
use Rattle.hir_store.specs.declared.path.GenericArg.TheVariants as arg
use Rattle.hir_store.specs.declared.path.GenericArgs.{GenericArgs}
use Rattle.hir_store.specs.declared.path.AssociatedTypeBinding.TheViews.{out-GenericArgs}
use Rattle.hir_store.specs.declared.type_ref.LifetimeRef.{LifetimeRef}
use Rattle.hir_store.specs.declared.type_ref.LifetimeRef.TheVariants as lifetime
use Rattle.hir_store.specs.declared.type_ref.TypeBound.{TypeBound}
use Rattle.hir_env.specs.declared.ctx.LifetimeScope.{LifetimeScope}
use Rattle.hir_lower_scope.specs.NameSets.{none_named, tracked, with_names}
use Rattle.hir_lower_builder.specs.declared.generics.SideOutput.{SideOutput}

abbrev pub no_side_output : SideOutput
no_side_output = record {
  generics = record { type_or_consts = []; lifetimes = []; where_predicates = [] };
  named = none_named;
}

-- parameters and predicates

-- the parameter that an `impl` becomes in an argument
abbrev pub unnamed_param : TypeOrConstParamData
unnamed_param = param.TypeParamData (record { name = None; default = None; provenance = provenance.ArgumentImplTrait })

-- a parameter behind those that there are
abbrev pub with_param : TypeOrConstParamData → SideOutput → SideOutput
with_param x n = record n { generics = record n.generics { type_or_consts = n.generics.type_or_consts ++ x ∷ [] } }

abbrev pub with_lifetime_param : LifetimeParamData → SideOutput → SideOutput
with_lifetime_param x n = record n { generics = record n.generics { lifetimes = n.generics.lifetimes ++ x ∷ [] } }

abbrev pub with_predicate : WherePredicate → SideOutput → SideOutput
with_predicate x n = record n { generics = record n.generics { where_predicates = n.generics.where_predicates ++ x ∷ [] } }

-- one for each bound, in their order
abbrev pub predicates_of : TypeRefId → List TypeBound → List WherePredicate
predicates_of target [] = []
predicates_of target (b ∷ bs) = where_.TypeBound None target b ∷ predicates_of target bs

-- what must hold of a type, behind what must hold already
abbrev pub with_bounds : TypeRefId → List TypeBound → SideOutput → SideOutput
with_bounds target bs n =
    record n { generics = record n.generics { where_predicates = n.generics.where_predicates ++ predicates_of target bs } }

-- the names of lifetimes

-- a lifetime counts where it has a name
abbrev pub naming : LifetimeScope → LifetimeRef → SideOutput → SideOutput
naming s (lifetime.Named x) n = record n { named = tracked s x n.named }
naming s lifetime.Static n = n
naming s lifetime.Placeholder n = n
naming s lifetime.Error n = n

-- an alias in an argument

-- the name of a lifetime that is there and has one
abbrev pub name_of : Option LifetimeRef → Option Name
name_of (Some (lifetime.Named x)) = Some x
name_of _ = None

-- of each lifetime among arguments its name, where it has one
abbrev pub lifetime_names : List LifetimeRef → List GenericArg → List (Option Name)
lifetime_names ls [] = []
lifetime_names ls (arg.Type_ t ∷ as') = lifetime_names ls as'
lifetime_names ls (arg.Lifetime l ∷ as') = name_of (slice_get ls l.0) ∷ lifetime_names ls as'
lifetime_names ls (arg.Const c ∷ as') = lifetime_names ls as'

-- the first name, where its place is chosen
abbrev pub first_chosen : List Bool → Option Name → List Name
first_chosen (true ∷ cs) (Some n) = n ∷ []
first_chosen cs n = []

-- the names at the chosen places
abbrev pub names_at : List Bool → List (Option Name) → List Name
names_at [] ns = []
names_at (c ∷ cs) [] = []
names_at (true ∷ cs) (Some n ∷ ns) = n ∷ names_at cs ns
names_at (true ∷ cs) (None ∷ ns) = names_at cs ns
names_at (false ∷ cs) (n ∷ ns) = names_at cs ns

-- of the names in arguments those in front of the mark stay, and these come behind them
abbrev pub kept_input : ℕ → List Name → SideOutput → SideOutput
kept_input mark names n = record n {
  named = record n.named { constrained_by_input = with_names (take mark n.named.constrained_by_input) names };
}

-- Of what was noted in the arguments of an alias, behind the mark, the lifetimes at the chosen places stay. Without arguments all does.
abbrev pub cut_args : ℕ → List Bool → List LifetimeRef → Option GenericArgs → SideOutput → SideOutput
cut_args mark places ls None n = n
cut_args mark places ls (Some a) n = kept_input mark (names_at places (lifetime_names ls (out-GenericArgs a).args)) n
