-- The parts of an expression or a pattern, in the order in which a visitor is handed them.
use Rattle.std.specs.Prelude.{List, [], ◌∷◌, ◌++◌, map, Option}
use Rattle.std.specs.List.{flat_map}
use Rattle.std.specs.Option.{option_to_list}
use Rattle.hir_store.specs.Children.{children}
use Rattle.hir_store.specs.Parts.{Parts, no_parts, type_and, lifetime_and, args_and, of_args, of_path, of_present}
use Rattle.hir_store.specs.declared.hir.Expr.{Expr}
use Rattle.hir_store.specs.declared.hir.Expr.TheVariants as hir
use Rattle.hir_store.specs.declared.hir.Array.TheVariants as array
use Rattle.hir_store.specs.declared.hir.Statement.{Statement}
use Rattle.hir_store.specs.declared.hir.Statement.TheVariants as statement
use Rattle.hir_store.specs.declared.pat.Pat.{Pat}
use Rattle.hir_store.specs.declared.pat.Pat.TheVariants as pat
use Rattle.hir_store.specs.declared.ids.ExprId.{ExprId}
use Rattle.hir_store.specs.declared.ids.PatId.{PatId}
use Rattle.hir_store.specs.declared.ids.TypeRefId.{TypeRefId}
use Rattle.hir_store.specs.declared.ids.LifetimeRefId.{LifetimeRefId}
use Rattle.hir_walks.specs.Pats.{pat_children}
use Rattle.hir_walks.specs.Exprs.{expr_pats, own_constants}

pub data EntryPart : Type 0 where
  expr_part : ExprId → EntryPart
  -- a constant among arguments, or how often an array repeats
  const_part : ExprId → EntryPart
  pat_part : PatId → EntryPart
  type_part : TypeRefId → EntryPart
  lifetime_part : LifetimeRefId → EntryPart

-- the types, lifetimes and constants among these parts
abbrev pub parts_in : Parts → List EntryPart
parts_in no_parts = []
parts_in (type_and t ps) = type_part t ∷ parts_in ps
parts_in (lifetime_and l ps) = lifetime_part l ∷ parts_in ps
parts_in (args_and a inside ps) = map const_part (own_constants a) ++ (parts_in inside ++ parts_in ps)

abbrev pub option_types : List (Option TypeRefId) → List EntryPart
option_types ts = map type_part (flat_map option_to_list ts)

abbrev pub statement_types : Statement → List TypeRefId
statement_types (statement.Let p type_ref initializer else_branch) = option_to_list type_ref
statement_types _ = []

-- the types that an expression names, and what the arguments of its path or method do
abbrev pub expr_types : Expr → List EntryPart
expr_types (hir.Path p h) = parts_in (of_path p)
expr_types (hir.Block is_unsafe label id ss tail) = map type_part (flat_map statement_types ss)
expr_types (hir.MethodCall receiver name generics es) = parts_in (of_present of_args generics)
expr_types (hir.RecordLit p fields spread) = parts_in (of_path p)
expr_types (hir.Closure args arg_types ret_type body kind capture) = option_types arg_types ++ map type_part (option_to_list ret_type)
expr_types (hir.Cast e type_ref) = type_part type_ref ∷ []
expr_types (hir.OffsetOf container fields) = type_part container ∷ []
expr_types _ = []

-- the children; of an array that repeats, the second is a constant
abbrev pub expr_children : Expr → List EntryPart
expr_children (hir.Array (array.Repeat e c)) = expr_part e ∷ const_part c.expr ∷ []
expr_children f = map expr_part (children f)

abbrev pub expr_parts : Expr → List EntryPart
expr_parts f = expr_children f ++ (map pat_part (expr_pats f) ++ expr_types f)

-- the expressions that a pattern itself names: literals, ends of a range, and a place that is assigned to
abbrev pub pat_own : Pat → List ExprId
pat_own (pat.Lit e) = e ∷ []
pat_own (pat.Range op low high) = option_to_list low ++ option_to_list high
pat_own (pat.Expr e) = e ∷ []
pat_own _ = []

-- what the arguments of its path name
abbrev pub pat_types : Pat → List EntryPart
pat_types (pat.Path p h) = parts_in (of_path p)
pat_types (pat.TupleStruct p ellipsis ps) = parts_in (of_path p)
pat_types (pat.Record p fs ellipsis) = parts_in (of_path p)
pat_types _ = []

abbrev pub pat_parts : Pat → List EntryPart
pat_parts p = map expr_part (pat_own p) ++ (map pat_part (pat_children p) ++ pat_types p)
