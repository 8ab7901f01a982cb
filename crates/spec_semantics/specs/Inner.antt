-- The bodies inside a body, written and stored: the constants of its expressions, types, paths and arguments, the bodies of its closures
-- and of its coroutines, and the ends of ranges in its types, each before those that are inside it, in the order of parts.
use Rattle.std.specs.Prelude.{ℕ, zero, suc, ◌+◌, List, [], ◌∷◌, ◌++◌, length, slice_get}
use Rattle.std.specs.Prelude.{Option, Some, None}
use Rattle.hir_store.specs.Stored.{Store}
use Rattle.hir_store.specs.declared.hir.Expr.{Expr as HirExpr}
use Rattle.hir_store.specs.declared.hir.Array.TheVariants as array
use Rattle.hir_store.specs.declared.hir.ClosureKind.{ClosureKind}
use Rattle.hir_store.specs.declared.hir.ClosureKind.TheVariants as kind
use Rattle.hir_store.specs.declared.hir.Expr.TheVariants as hir
use Rattle.hir_store.specs.declared.hir.MatchArm.{MatchArm}
use Rattle.hir_store.specs.declared.hir.RecordLitField.{RecordLitField}
use Rattle.hir_store.specs.declared.hir.RecordSpread.{RecordSpread}
use Rattle.hir_store.specs.declared.hir.RecordSpread.TheVariants as spread
use Rattle.hir_store.specs.declared.hir.Statement.{Statement}
use Rattle.hir_store.specs.declared.hir.Statement.TheVariants as statement
use Rattle.hir_store.specs.declared.ids.ExprId.{ExprId}
use Rattle.hir_store.specs.declared.ids.PatId.{PatId}
use Rattle.hir_store.specs.declared.ids.TypeRefId.{TypeRefId}
use Rattle.hir_store.specs.declared.pat.Pat.{Pat as HirPat}
use Rattle.hir_store.specs.declared.pat.Pat.TheVariants as pat
use Rattle.hir_store.specs.declared.pat.RecordFieldPat.{RecordFieldPat}
use Rattle.hir_store.specs.declared.path.AssociatedTypeBinding.TheOpen.{AssociatedTypeBinding-F, GenericArgs-F}
use Rattle.hir_store.specs.declared.path.AssociatedTypeBinding.TheFolds.{fold-GenericArgs}
use Rattle.hir_store.specs.declared.path.GenericArg.{GenericArg}
use Rattle.hir_store.specs.declared.path.GenericArg.TheVariants as arg
use Rattle.hir_store.specs.declared.path.GenericArgs.{GenericArgs}
use Rattle.hir_store.specs.declared.path.Path.{Path as HirPath}
use Rattle.hir_store.specs.declared.path.Path.TheVariants.{BarePath, Normal, LangItem}
use Rattle.hir_store.specs.declared.type_ref.ConstRef.{ConstRef}
use Rattle.hir_store.specs.declared.type_ref.TypeBound.{TypeBound}
use Rattle.hir_store.specs.declared.type_ref.TypeBound.TheVariants as bound
use Rattle.hir_store.specs.declared.type_ref.TypeRef.{TypeRef}
use Rattle.hir_store.specs.declared.type_ref.TypeRef.TheVariants as ty
pub use Rattle.spec_semantics.specs.InnerWritten.{InnerBody, Bodies, all_in, Part, items_of, read_parts, in_anchor_or, in_anchor}
pub use Rattle.spec_semantics.specs.InnerWritten.{beside_names, begins_with_self, first_cut, last_cut, first_behind, last_behind}
pub use Rattle.spec_semantics.specs.InnerWritten.{Held, nothing_held, held_in, where_read, held_of, in_held, if_read, if_made}
pub use Rattle.spec_semantics.specs.InnerWritten.{if_present, if_opaque, constant_bodies, limit_bodies, side_bodies, type_bodies}
pub use Rattle.spec_semantics.specs.InnerWritten.{part_bodies, parts_bodies, bounds_bodies, bound_bodies, type_pat_bodies}
pub use Rattle.spec_semantics.specs.InnerWritten.{type_pat_part_bodies, type_pats_bodies, list_bodies, arguments_bodies}
pub use Rattle.spec_semantics.specs.InnerWritten.{argument_bodies, bindings_bodies, binding_bodies, beside_bodies, parens_bodies}
pub use Rattle.spec_semantics.specs.InnerWritten.{output_bodies, path_bodies, held, path_parts, outer_parts, behind_parts}
pub use Rattle.spec_semantics.specs.InnerWritten.{anchor_bodies, names_bodies, expr_bodies, params_bodies, bodies_in, each_bodies}
pub use Rattle.spec_semantics.specs.InnerWritten.{fields_bodies}
pub use Rattle.spec_semantics.specs.InnerWritten.{field_bodies, spread_bodies, arms_bodies, arm_bodies, guard_bodies, block_bodies}
pub use Rattle.spec_semantics.specs.InnerWritten.{block_part_bodies, stmts_bodies, stmt_bodies, pat_bodies, pat_part_bodies}
pub use Rattle.spec_semantics.specs.InnerWritten.{pats_bodies, pat_fields_bodies, target_bodies, targets_bodies}
pub use Rattle.spec_semantics.specs.InnerWritten.{target_fields_bodies, constant_body, coroutine_body, limit_body, making_body}
pub use Rattle.spec_semantics.specs.InnerWritten.{prelude_body}
pub use Rattle.spec_semantics.specs.InnerWritten.{param_types_bodies, param_pats_bodies, tops_bodies, function_bodies}

-- A body inside: its expression, and the parameters whose arguments it begins with, which the coroutine of a closure or a function has.
pub record Inside : Type 0 where
  pub expr : ExprId
  pub formals : List PatId

abbrev pub by_itself : ExprId → Inside
by_itself i = record { expr = i; formals = [] }

-- the first of these is handed the arguments of these parameters
abbrev pub handed_to : List PatId → List Inside → List Inside
handed_to ps [] = []
handed_to ps (x ∷ xs) = record x { formals = ps } ∷ xs

-- the bodies inside the parts of an entry
pub record Inners : Type 0 where
  pub expr : ExprId → List Inside
  pub type : TypeRefId → List Inside
  pub pat : PatId → List Inside
  -- of a pattern in a type, in which the ends of a range are bodies themselves
  pub type_pat : PatId → List Inside

-- of each, in order
abbrev pub all_of : {A : Type 0} → (A → List Inside) → List A → List Inside
all_of f [] = []
all_of f (a ∷ as') = f a ++ all_of f as'

abbrev pub of_present : {A : Type 0} → (A → List Inside) → Option A → List Inside
of_present f None = []
of_present f (Some a) = f a

module _ (r : Inners) where
  abbrev pub of_constant : ConstRef → List Inside
  of_constant c = by_itself c.expr ∷ r.expr c.expr

  abbrev pub of_arg : GenericArg → List Inside
  of_arg (arg.Type_ t) = r.type t
  of_arg (arg.Lifetime l) = []
  of_arg (arg.Const c) = of_constant c

  abbrev pub of_bound : TypeBound → List Inside
  of_bound (bound.Path t modifier) = r.type t
  of_bound (bound.ForLifetime ns t) = r.type t
  of_bound (bound.Lifetime l) = []
  of_bound (bound.Use us) = []
  of_bound bound.Error = []

  -- arguments hold bindings, which hold arguments

  abbrev pub binding_step : AssociatedTypeBinding-F (List Inside) (List Inside) → List Inside
  binding_step b = of_present (λ is. is) b.args ++ (of_present r.type b.type_ref ++ all_of of_bound b.bounds)

  abbrev pub args_step : GenericArgs-F (List Inside) (List Inside) → List Inside
  args_step a = all_of of_arg a.args ++ all_of (λ is. is) a.bindings

  unfoldable pub of_args : GenericArgs → List Inside
  of_args = fold-GenericArgs (List Inside) (List Inside) binding_step args_step

  abbrev pub of_list : Option GenericArgs → List Inside
  of_list a = of_present of_args a

  abbrev pub of_path : HirPath → List Inside
  of_path (BarePath p) = []
  of_path (Normal p) = of_present r.type p.type_anchor ++ all_of of_list p.generic_args
  of_path (LangItem i) = []

  abbrev pub of_type : TypeRef → List Inside
  of_type ty.Never = []
  of_type ty.Placeholder = []
  of_type ty.Error = []
  of_type (ty.Tuple ts) = all_of r.type ts
  of_type (ty.Path p) = of_path p
  of_type (ty.RawPtr t m) = r.type t
  of_type (ty.Reference x) = r.type x.ty
  of_type (ty.Slice t) = r.type t
  of_type (ty.Array x) = r.type x.ty ++ of_constant x.len
  of_type (ty.Fn f) = all_of r.type f.params
  of_type (ty.ImplTrait bs) = all_of of_bound bs
  of_type (ty.DynTrait bs) = all_of of_bound bs
  of_type (ty.Pattern t p) = r.type t ++ r.type_pat p
  of_type (ty.TypeParam p) = []

  abbrev pub of_limit : ExprId → List Inside
  of_limit e = by_itself e ∷ r.expr e

  abbrev pub of_type_pat : HirPat → List Inside
  of_type_pat (pat.Or ps) = all_of r.type_pat ps
  of_type_pat (pat.Range op start end) = of_present of_limit start ++ of_present of_limit end
  of_type_pat p = []

  abbrev pub of_pat_field : RecordFieldPat → List Inside
  of_pat_field f = r.pat f.pat

  abbrev pub of_pat : HirPat → List Inside
  of_pat pat.Missing = []
  of_pat pat.Wild = []
  of_pat pat.Rest = []
  of_pat pat.NotNull = []
  of_pat (pat.Bind i sub) = of_present r.pat sub
  of_pat (pat.Path p h) = of_path p
  of_pat (pat.TupleStruct p ellipsis ps) = of_path p ++ all_of r.pat ps
  of_pat (pat.Tuple ellipsis ps) = all_of r.pat ps
  of_pat (pat.Record p fs ellipsis) = of_path p ++ all_of of_pat_field fs
  of_pat (pat.Or ps) = all_of r.pat ps
  of_pat (pat.Slice before middle behind) = all_of r.pat before ++ (of_present r.pat middle ++ all_of r.pat behind)
  of_pat (pat.Ref m p) = r.pat p
  of_pat (pat.Box p) = r.pat p
  of_pat (pat.Deref p) = r.pat p
  of_pat (pat.Lit e) = []
  of_pat (pat.Range op start end) = of_present r.expr start ++ of_present r.expr end
  of_pat (pat.Expr e) = r.expr e

  abbrev pub of_field : RecordLitField → List Inside
  of_field f = r.expr f.expr

  abbrev pub of_others : RecordSpread → List Inside
  of_others spread.None = []
  of_others spread.FieldDefaults = []
  of_others (spread.Expr i) = r.expr i

  abbrev pub of_statement : Statement → List Inside
  of_statement statement.Item = []
  of_statement (statement.MacroDef def) = []
  of_statement (statement.Expr i semi) = r.expr i
  of_statement (statement.Let p t e b) = r.pat p ++ (of_present r.type t ++ (of_present r.expr e ++ of_present r.expr b))

  abbrev pub of_arm : MatchArm → List Inside
  of_arm a = r.pat a.pat ++ (of_present r.expr a.guard ++ r.expr a.expr)

  -- the parameters of a closure: the pattern of each before its type
  abbrev pub of_params : List PatId → List (Option TypeRefId) → List Inside
  of_params [] ts = all_of (of_present r.type) ts
  of_params (p ∷ ps) [] = r.pat p ++ of_params ps []
  of_params (p ∷ ps) (t ∷ ts) = (r.pat p ++ of_present r.type t) ++ of_params ps ts

  -- Its body stands behind what is in its parameters and in what it returns. One that makes a coroutine stands in front of them, and what
  -- is inside of it behind them: first the coroutine, which is handed the parameters.
  abbrev pub of_closure : List PatId → List (Option TypeRefId) → Option TypeRefId → ExprId → ClosureKind → List Inside
  of_closure args types ret body (kind.CoroutineClosure k) =
      by_itself body ∷ (of_params args types ++ (of_present r.type ret ++ handed_to args (r.expr body)))
  of_closure args types ret body which = of_params args types ++ (of_present r.type ret ++ (by_itself body ∷ r.expr body))

  abbrev pub of_expr : HirExpr → List Inside
  of_expr hir.Missing = []
  of_expr (hir.Literal l) = []
  of_expr (hir.Path p h) = of_path p
  of_expr (hir.Call f xs) = r.expr f ++ all_of r.expr xs
  of_expr (hir.If c t e) = r.expr c ++ (r.expr t ++ of_present r.expr e)
  of_expr (hir.Loop b l source) = r.expr b
  of_expr (hir.Block is_unsafe l number ss tail) = all_of of_statement ss ++ of_present r.expr tail
  of_expr (hir.Break l e) = of_present r.expr e
  of_expr (hir.Continue l) = []
  of_expr hir.Underscore = []
  of_expr hir.IncludeBytes = []
  of_expr (hir.Field e name) = r.expr e
  of_expr (hir.UnaryOp op e) = r.expr e
  of_expr (hir.Ref rawness mutability e) = r.expr e
  of_expr (hir.Await e) = r.expr e
  of_expr (hir.Become e) = r.expr e
  of_expr (hir.BinaryOp op a b) = r.expr a ++ r.expr b
  of_expr (hir.Index a b) = r.expr a ++ r.expr b
  of_expr (hir.Tuple es) = all_of r.expr es
  of_expr (hir.Array (array.ElementList es)) = all_of r.expr es
  of_expr (hir.Array (array.Repeat e c)) = r.expr e ++ of_constant c
  of_expr (hir.Const c) = of_constant c
  of_expr (hir.Closure args types ret body which capture) = of_closure args types ret body which
  of_expr (hir.MethodCall e name generics es) = r.expr e ++ (of_list generics ++ all_of r.expr es)
  of_expr (hir.Cast e t) = r.expr e ++ r.type t
  of_expr (hir.RecordLit p fields others) = of_path p ++ (all_of of_field fields ++ of_others others)
  of_expr (hir.OffsetOf t names) = r.type t
  of_expr (hir.Return e) = of_present r.expr e
  of_expr (hir.Yeet e) = of_present r.expr e
  of_expr (hir.Yield e) = of_present r.expr e
  of_expr (hir.Let p e) = r.pat p ++ r.expr e
  of_expr (hir.Match e arms) = r.expr e ++ all_of of_arm arms
  of_expr (hir.Assignment t v) = r.pat t ++ r.expr v

module _ (store : Store) where
  -- with at most so many entries inside one another
  unfoldable pub inners : ℕ → Inners
  inners zero = record { expr = λ i. []; type = λ i. []; pat = λ i. []; type_pat = λ i. [] }
  inners (suc d) = record {
    expr = λ i. of_present (of_expr (inners d)) (slice_get store.exprs i.0);
    type = λ i. of_present (of_type (inners d)) (slice_get store.types i.0);
    pat = λ i. of_present (of_pat (inners d)) (slice_get store.pats i.0);
    type_pat = λ i. of_present (of_type_pat (inners d)) (slice_get store.pats i.0);
  }

  -- no more entries than there are can be inside one another
  abbrev pub all_inners : Inners
  all_inners = inners (length store.exprs + (length store.types + length store.pats))

  unfoldable pub inner_bodies : ExprId → List Inside
  inner_bodies i = all_inners.expr i

  -- inside a type, and inside a path
  unfoldable pub type_inner_bodies : TypeRefId → List Inside
  type_inner_bodies i = all_inners.type i

  unfoldable pub path_inner_bodies : HirPath → List Inside
  path_inner_bodies p = of_path all_inners p
