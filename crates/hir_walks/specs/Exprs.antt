-- The expressions that an expression or a pattern names: children, constants among arguments, and those inside its patterns.
use Rattle.std.specs.Prelude.{List, [], ◌∷◌, ◌++◌, map, slice_get, Option, Some, None}
use Rattle.std.specs.List.{flat_map}
use Rattle.std.specs.Option.{option_to_list}
use Rattle.hir_store.specs.Stored.{Store}
use Rattle.hir_store.specs.Children.{children}
use Rattle.hir_store.specs.Parts.{Parts, no_parts, type_and, lifetime_and, args_and, of_args}
use Rattle.hir_store.specs.declared.hir.Expr.{Expr}
use Rattle.hir_store.specs.declared.hir.Expr.TheVariants as hir
use Rattle.hir_store.specs.declared.hir.Statement.{Statement}
use Rattle.hir_store.specs.declared.hir.Statement.TheVariants as statement
use Rattle.hir_store.specs.declared.hir.MatchArm.{MatchArm}
use Rattle.hir_store.specs.declared.pat.Pat.{Pat}
use Rattle.hir_store.specs.declared.pat.Pat.TheVariants as pat
use Rattle.hir_store.specs.declared.path.Path.{Path}
use Rattle.hir_store.specs.declared.path.Path.TheVariants.{BarePath, Normal, LangItem}
use Rattle.hir_store.specs.declared.path.GenericArg.{GenericArg}
use Rattle.hir_store.specs.declared.path.GenericArg.TheVariants as arg
use Rattle.hir_store.specs.declared.path.GenericArgs.{GenericArgs}
use Rattle.hir_store.specs.declared.path.AssociatedTypeBinding.TheViews.{out-GenericArgs}
use Rattle.hir_store.specs.declared.ids.ExprId.{ExprId}
use Rattle.hir_store.specs.declared.ids.PatId.{PatId}
use Rattle.hir_walks.specs.Pats.{of_found, pats_in, pats_in_all}

-- constants among arguments

abbrev pub arg_constant : GenericArg → List ExprId
arg_constant (arg.Type_ t) = []
arg_constant (arg.Lifetime l) = []
arg_constant (arg.Const c) = c.expr ∷ []

-- those that stand in the list itself
abbrev pub own_constants : GenericArgs → List ExprId
own_constants a = flat_map arg_constant (out-GenericArgs a).args

-- those of all arguments among these parts, each before the arguments that its bindings hold
abbrev pub constants_in : Parts → List ExprId
constants_in no_parts = []
constants_in (type_and t ps) = constants_in ps
constants_in (lifetime_and l ps) = constants_in ps
constants_in (args_and a inside ps) = own_constants a ++ (constants_in inside ++ constants_in ps)

abbrev pub args_constants : Option GenericArgs → List ExprId
args_constants None = []
args_constants (Some a) = constants_in (of_args a)

abbrev pub path_constants : Path → List ExprId
path_constants (BarePath p) = []
path_constants (Normal p) = flat_map args_constants p.generic_args
path_constants (LangItem i) = []

-- expressions

abbrev pub expr_constants : Expr → List ExprId
expr_constants (hir.Path p h) = path_constants p
expr_constants (hir.MethodCall receiver name generics es) = args_constants generics
expr_constants (hir.RecordLit p fields spread) = path_constants p
expr_constants _ = []

abbrev pub statement_pats : Statement → List PatId
statement_pats (statement.Let p type_ref initializer else_branch) = p ∷ []
statement_pats _ = []

abbrev pub arm_pat : MatchArm → PatId
arm_pat a = a.pat

-- the patterns that an expression names, in the order in which its parts stand in it
abbrev pub expr_pats : Expr → List PatId
expr_pats (hir.Let p e) = p ∷ []
expr_pats (hir.Block is_unsafe label id ss tail) = flat_map statement_pats ss
expr_pats (hir.Match e arms) = map arm_pat arms
expr_pats (hir.Assignment target value) = target ∷ []
expr_pats (hir.Closure args arg_types ret_type body kind capture) = args
expr_pats _ = []

-- the children, and constants among the arguments of its path or method
abbrev pub exprs_without_pats : Expr → List ExprId
exprs_without_pats f = children f ++ expr_constants f

-- patterns

-- the expressions that a pattern itself names
abbrev pub pat_exprs : Pat → List ExprId
pat_exprs (pat.Path p h) = path_constants p
pat_exprs (pat.TupleStruct p ellipsis ps) = path_constants p
pat_exprs (pat.Record p fs ellipsis) = path_constants p
pat_exprs (pat.Lit e) = e ∷ []
pat_exprs (pat.Range op low high) = option_to_list low ++ option_to_list high
pat_exprs (pat.Expr e) = e ∷ []
pat_exprs _ = []

module _ (store : Store) where
  abbrev pub exprs_at : PatId → List ExprId
  exprs_at i = of_found pat_exprs (slice_get store.pats i.0)

  -- those that the pattern and the patterns inside it name
  abbrev pub exprs_in_pat : PatId → List ExprId
  exprs_in_pat i = flat_map exprs_at (pats_in store i)

  -- those of `exprs_without_pats`, and behind them those that its patterns and the patterns inside these name
  abbrev pub exprs_with_pats : Expr → List ExprId
  exprs_with_pats f = exprs_without_pats f ++ flat_map exprs_at (pats_in_all store (expr_pats f))
