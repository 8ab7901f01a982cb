-- What a stored form names: for each arena the least number above those that stand in it.
use Rattle.std.specs.Prelude.{ℕ, suc, ◌≤◌, max, List, [], ◌∷◌, length, Option, Some, None}
use Rattle.hir_store.specs.Stored.{Store}
use Rattle.hir_store.specs.declared.hir.MatchArm.{MatchArm}
use Rattle.hir_store.specs.declared.hir.Statement.{Statement}
use Rattle.hir_store.specs.declared.hir.Statement.TheVariants as statement
use Rattle.hir_store.specs.declared.pat.Pat.{Pat}
use Rattle.hir_store.specs.declared.pat.Pat.TheVariants as pat
use Rattle.hir_store.specs.declared.pat.RecordFieldPat.{RecordFieldPat}
use Rattle.hir_store.specs.declared.ids.ExprId.{ExprId}
use Rattle.hir_store.specs.declared.ids.PatId.{PatId}
use Rattle.hir_store.specs.declared.ids.TypeRefId.{TypeRefId}
use Rattle.hir_store.specs.declared.ids.LifetimeRefId.{LifetimeRefId}
use Rattle.hir_store.specs.declared.type_ref.UseArgRef.{UseArgRef}
use Rattle.hir_store.specs.declared.type_ref.UseArgRef.TheVariants as use_arg
use Rattle.hir_store.specs.declared.type_ref.TypeBound.{TypeBound}
use Rattle.hir_store.specs.declared.type_ref.TypeBound.TheVariants as bound
use Rattle.hir_store.specs.declared.type_ref.ConstRef.{ConstRef}
use Rattle.hir_store.specs.declared.type_ref.ArrayType.{ArrayType}
use Rattle.hir_store.specs.declared.type_ref.RefType.{RefType}
use Rattle.hir_store.specs.declared.type_ref.TypeRef.{TypeRef}
use Rattle.hir_store.specs.declared.type_ref.TypeRef.TheVariants as ty
use Rattle.hir_store.specs.declared.path.GenericArg.{GenericArg}
use Rattle.hir_store.specs.declared.path.GenericArg.TheVariants as arg
use Rattle.hir_store.specs.declared.path.GenericArgs.{GenericArgs}
use Rattle.hir_store.specs.declared.path.AssociatedTypeBinding.{AssociatedTypeBinding}
use Rattle.hir_store.specs.declared.path.AssociatedTypeBinding.TheOpen.{AssociatedTypeBinding-F, GenericArgs-F}
use Rattle.hir_store.specs.declared.path.AssociatedTypeBinding.TheFolds.{fold-AssociatedTypeBinding, fold-GenericArgs}
use Rattle.hir_store.specs.declared.path.NormalPath.{NormalPath}
use Rattle.hir_store.specs.declared.path.Path.{Path}
use Rattle.hir_store.specs.declared.path.Path.TheVariants as path

pub record Past : Type 0 where
  pub exprs : ℕ
  pub types : ℕ
  pub lifetimes : ℕ
  pub pats : ℕ

abbrev pub nothing : Past
nothing = record { exprs = 0; types = 0; lifetimes = 0; pats = 0 }

abbrev pub join : Past → Past → Past
join p q = record {
  exprs = max p.exprs q.exprs;
  types = max p.types q.types;
  lifetimes = max p.lifetimes q.lifetimes;
  pats = max p.pats q.pats;
}

abbrev pub joined : List Past → Past
joined [] = nothing
joined (p ∷ ps) = join p (joined ps)

abbrev pub past_present : {A : Type 0} → (A → Past) → Option A → Past
past_present past None = nothing
past_present past (Some a) = past a

abbrev pub past_each : {A : Type 0} → (A → Past) → List A → Past
past_each past [] = nothing
past_each past (a ∷ as') = join (past a) (past_each past as')

-- numbers, arguments and bounds

abbrev pub past_type_id : TypeRefId → Past
past_type_id id = record nothing { types = suc id.0 }

abbrev pub past_expr_id : ExprId → Past
past_expr_id id = record nothing { exprs = suc id.0 }

abbrev pub past_pat_id : PatId → Past
past_pat_id id = record nothing { pats = suc id.0 }

abbrev pub past_lifetime_id : LifetimeRefId → Past
past_lifetime_id id = record nothing { lifetimes = suc id.0 }

abbrev pub past_constant : ConstRef → Past
past_constant c = past_expr_id c.expr

abbrev pub past_type_ids : List TypeRefId → Past
past_type_ids = past_each past_type_id

abbrev pub past_pat_ids : List PatId → Past
past_pat_ids = past_each past_pat_id

-- a type each, where there is one
abbrev pub past_type_options : List (Option TypeRefId) → Past
past_type_options = past_each (past_present past_type_id)

abbrev pub past_arg : GenericArg → Past
past_arg (arg.Type_ id) = past_type_id id
past_arg (arg.Lifetime id) = past_lifetime_id id
past_arg (arg.Const c) = past_constant c

abbrev pub past_args : List GenericArg → Past
past_args = past_each past_arg

abbrev pub past_use_arg : UseArgRef → Past
past_use_arg (use_arg.Name n) = nothing
past_use_arg (use_arg.Lifetime id) = past_lifetime_id id

abbrev pub past_use_args : List UseArgRef → Past
past_use_args = past_each past_use_arg

abbrev pub past_bound : TypeBound → Past
past_bound (bound.Path id modifier) = past_type_id id
past_bound (bound.ForLifetime names id) = past_type_id id
past_bound (bound.Lifetime id) = past_lifetime_id id
past_bound (bound.Use args) = past_use_args args
past_bound bound.Error = nothing

abbrev pub past_bounds : List TypeBound → Past
past_bounds = past_each past_bound

-- arguments, which hold bindings that hold arguments

abbrev pub args_step : GenericArgs-F Past Past → Past
args_step a = join (past_args a.args) (joined a.bindings)

abbrev pub binding_step : AssociatedTypeBinding-F Past Past → Past
binding_step b = join (past_present (λ p. p) b.args) (join (past_present past_type_id b.type_ref) (past_bounds b.bounds))

unfoldable pub past_generic : GenericArgs → Past
past_generic = fold-GenericArgs Past Past binding_step args_step

unfoldable pub past_binding : AssociatedTypeBinding → Past
past_binding = fold-AssociatedTypeBinding Past Past binding_step args_step

abbrev pub past_bindings : List AssociatedTypeBinding → Past
past_bindings = past_each past_binding

abbrev pub past_arg_lists : List (Option GenericArgs) → Past
past_arg_lists = past_each (past_present past_generic)

-- paths and types

abbrev pub past_normal : NormalPath → Past
past_normal p = join (past_present past_type_id p.type_anchor) (past_arg_lists p.generic_args)

abbrev pub past_path : Path → Past
past_path (path.BarePath p) = nothing
past_path (path.Normal p) = past_normal p
past_path (path.LangItem item) = nothing

abbrev pub past_array : ArrayType → Past
past_array a = join (past_type_id a.ty) (past_constant a.len)

abbrev pub past_reference : RefType → Past
past_reference r = join (past_type_id r.ty) (past_present past_lifetime_id r.lifetime)

abbrev pub past_type : TypeRef → Past
past_type ty.Never = nothing
past_type ty.Placeholder = nothing
past_type ty.Error = nothing
past_type (ty.Tuple ids) = past_type_ids ids
past_type (ty.Path p) = past_path p
past_type (ty.RawPtr id mutability) = past_type_id id
past_type (ty.Reference r) = past_reference r
past_type (ty.Slice id) = past_type_id id
past_type (ty.Array a) = past_array a
past_type (ty.Fn f) = past_type_ids f.params
past_type (ty.ImplTrait bounds) = past_bounds bounds
past_type (ty.DynTrait bounds) = past_bounds bounds
past_type (ty.Pattern id p) = join (past_type_id id) (past_pat_id p)
past_type (ty.TypeParam p) = nothing

-- patterns, statements and arms

abbrev pub past_pat_field : RecordFieldPat → Past
past_pat_field f = past_pat_id f.pat

abbrev pub past_pat_fields : List RecordFieldPat → Past
past_pat_fields = past_each past_pat_field

-- except for the binding
abbrev pub past_pat : Pat → Past
past_pat pat.Missing = nothing
past_pat pat.Wild = nothing
past_pat pat.Rest = nothing
past_pat pat.NotNull = nothing
past_pat (pat.Bind id subpat) = past_present past_pat_id subpat
past_pat (pat.Path p hygiene) = past_path p
past_pat (pat.TupleStruct p ellipsis args) = join (past_path p) (past_pat_ids args)
past_pat (pat.Tuple ellipsis args) = past_pat_ids args
past_pat (pat.Record p args ellipsis) = join (past_path p) (past_pat_fields args)
past_pat (pat.Or pats) = past_pat_ids pats
past_pat (pat.Slice before middle after) = join (past_pat_ids before) (join (past_present past_pat_id middle) (past_pat_ids after))
past_pat (pat.Ref mutability p) = past_pat_id p
past_pat (pat.Box inner) = past_pat_id inner
past_pat (pat.Deref inner) = past_pat_id inner
past_pat (pat.Lit e) = past_expr_id e
past_pat (pat.Range op low high) = join (past_present past_expr_id low) (past_present past_expr_id high)
past_pat (pat.Expr e) = past_expr_id e

abbrev pub past_pats : List Pat → Past
past_pats = past_each past_pat

abbrev pub past_statement : Statement → Past
past_statement (statement.Let p type_ref initializer else_branch) = join (past_pat_id p)
    (join (past_present past_type_id type_ref) (join (past_present past_expr_id initializer) (past_present past_expr_id else_branch)))
past_statement (statement.Expr id semi) = past_expr_id id
past_statement statement.Item = nothing
past_statement (statement.MacroDef d) = nothing

abbrev pub past_statements : List Statement → Past
past_statements = past_each past_statement

abbrev pub past_arm : MatchArm → Past
past_arm a = join (past_pat_id a.pat) (join (past_present past_expr_id a.guard) (past_expr_id a.expr))

abbrev pub past_arms : List MatchArm → Past
past_arms = past_each past_arm

-- what is named exists

abbrev pub Within : Store → Past → Type 0
Within s p =
    (p.exprs ≤ length s.exprs) × (p.types ≤ length s.types) × (p.lifetimes ≤ length s.lifetimes) × (p.pats ≤ length s.pats)
