-- What stands in front of the body of a coroutine that a closure or a function has: `let`s of its parameters, in order (rust-analyzer,
-- `lower_coroutine_body_with_moved_arguments`).
use Rattle.std.specs.Prelude.{Bool, true, false, List, [], ◌∷◌, ◌++◌, Option, Some, None, Ok, slice_get}
use Rattle.hir_binding.specs.declared.binding.BindingAnnotation.{BindingAnnotation}
use Rattle.hir_binding.specs.declared.binding.BindingAnnotation.TheVariants.{Unannotated, Mutable}
use Rattle.hir_store.specs.Pointers.{Pointer, flat_option}
use Rattle.hir_store.specs.Stored.{Stored}
use Rattle.hir_store.specs.declared.hir.CoroutineKind.{CoroutineKind}
use Rattle.hir_store.specs.declared.hir.CoroutineSource.{CoroutineSource}
use Rattle.hir_store.specs.declared.hir.CoroutineSource.TheVariants as source
use Rattle.hir_store.specs.declared.hir.CaptureBy.TheVariants as capture
use Rattle.hir_store.specs.declared.hir.ClosureKind.TheVariants as closure
use Rattle.hir_store.specs.declared.hir.Expr.{Expr as HirExpr}
use Rattle.hir_store.specs.declared.hir.Expr.TheVariants as hir
use Rattle.hir_store.specs.declared.hir.Statement.{Statement}
use Rattle.hir_store.specs.declared.hir.Statement.TheVariants as statement
use Rattle.hir_store.specs.declared.name.Name.{Name}
use Rattle.hir_store.specs.declared.name.Name.TheVariants.{Generated}
use Rattle.hir_store.specs.declared.pat.Binding.{Binding}
use Rattle.hir_store.specs.declared.pat.Pat.{Pat}
use Rattle.hir_store.specs.declared.pat.Pat.TheVariants as pat
use Rattle.hir_store.specs.declared.path.Path.{Path as HirPath}
use Rattle.hir_store.specs.declared.path.Path.TheVariants.{BarePath}
use Rattle.hir_store.specs.declared.path.PathKind.TheVariants as kind
use Rattle.hir_store.specs.declared.ids.BindingId.{BindingId}
use Rattle.hir_store.specs.declared.ids.ExprId.{ExprId}
use Rattle.hir_store.specs.declared.ids.HygieneId.{HygieneId}
use Rattle.hir_store.specs.declared.ids.PatId.{PatId}
use Rattle.hir_store.specs.declared.ids.TypeRefId.{TypeRefId}
use Rattle.hir_lower_builder.specs.declared.closures.ClosureParams.{ClosureParams}
use Rattle.hir_lower_builder.specs.declared.preludes.Handed.{Handed}
use Rattle.hir_lower_builder.specs.declared.preludes.OwnName.{OwnName}
use Rattle.hir_lower_builder.specs.declared.preludes.Prelude.{Prelude}
use Rattle.hir_lower_builder.specs.declared.preludes.Within.{Within}
use Rattle.hir_lower_builder.specs.Lowering.{Lowering, ◌>>=◌, ◌>>◌, pure, alloc_expr, alloc_desugared_pat, alloc_pat, alloc_binding, define}
use Rattle.hir_lower_builder.specs.Lowering.{made_number, open_barrier, close_barrier, owning}
use Rattle.hir_lower_builder.specs.Forms.{ExprSteps, capture_by, root_hygiene}

-- names that are handed in

abbrev pub name_path : Name → HirPath
name_path n = BarePath (record { kind = kind.Plain; segments = n ∷ [] })

-- a name that is read where the prelude stands, which comes from no node
unfoldable pub name_form : Name → HygieneId → ExprSteps
name_form n h = alloc_expr (hir.Path (name_path n) h) None

abbrev pub handed_binding : Handed → Binding
handed_binding x = record { name = x.name; mode = Mutable; hygiene = x.hygiene; problems = None }

-- the node that it came from
unfoldable pub pat_source : PatId → Lowering (Option Pointer)
pat_source p = λ b. (Ok (flat_option (slice_get b.stored.pats.sources p.0)), b)

-- a pattern more from the node that this one came from, which doesn't lead to it
unfoldable pub alloc_beside : Pat → PatId → Lowering PatId
alloc_beside x p = do
  at ← pat_source p
  alloc_desugared_pat x at

-- A pattern that binds it so that it can be changed, from the node of the parameter's own pattern.
unfoldable pub handed_form : Handed → Lowering PatId
handed_form x = do
  i ← alloc_binding (handed_binding x)
  p ← alloc_beside (pat.Bind i None) x.pat
  define i p
  pure p

-- `let`s

abbrev pub let_from : PatId → ExprId → Statement
let_from p e = statement.Let p None (Some e) None

-- a `let` of the pattern
unfoldable pub let_form : Handed → PatId → Lowering (List Statement)
let_form x p = do
  e ← name_form x.name x.hygiene
  pure (let_from p e ∷ [])

-- a `let` of a name in between, and then one of the pattern
unfoldable pub two_lets_form : Handed → PatId → Lowering (List Statement)
two_lets_form x p = do
  q ← handed_form x
  e ← name_form x.name x.hygiene
  f ← name_form x.name x.hygiene
  pure (let_from q e ∷ let_from p f ∷ [])

-- how a pattern is handed in, which is seen by what is stored

abbrev pub is_plain : BindingAnnotation → Option PatId → Bool
is_plain Unannotated None = true
is_plain Mutable None = true
is_plain _ _ = false

-- a name that is made up is none of its own
abbrev pub if_written : {A : Type 0} → Name → A → Option A
if_written (Generated n) a = None
if_written _ a = Some a

abbrev pub own_of : Option PatId → Binding → Option OwnName
own_of sub x = if_written x.name (record { name = x.name; hygiene = x.hygiene; is_alone = is_plain x.mode sub })

abbrev pub own_bound : Option PatId → Option Binding → Option OwnName
own_bound sub None = None
own_bound sub (Some x) = own_of sub x

abbrev pub own_in : Stored → Option Pat → Option OwnName
own_in s (Some (pat.Bind id sub)) = own_bound sub (slice_get s.bindings.entries id.0)
own_in s _ = None

-- the name that the pattern is as a whole, where it is one that is written
unfoldable pub own_name_of : PatId → Lowering (Option OwnName)
own_name_of p = λ b. (Ok (own_in b.stored (slice_get b.stored.pats.entries p.0)), b)

-- preludes

abbrev pub no_prelude : Prelude
no_prelude = record { handed = []; lets = [] }

abbrev pub add_handed : Prelude → Handed → List Statement → Prelude
add_handed done x ss = record { handed = done.handed ++ x ∷ []; lets = done.lets ++ ss }

-- `let p = x`
unfoldable pub handed_by_name : Prelude → PatId → Handed → Lowering Prelude
handed_by_name done p x = do
  ss ← let_form x p
  pure (add_handed done x ss)

-- `let mut x = x; let p = x`
unfoldable pub handed_between : Prelude → PatId → Handed → Lowering Prelude
handed_between done p x = do
  ss ← two_lets_form x p
  pure (add_handed done x ss)

abbrev pub handed_as : Name → HygieneId → PatId → Handed
handed_as n h p = record { name = n; hygiene = h; pat = p }

-- by its own name where the pattern is one
abbrev pub handed_own : Prelude → PatId → Bool → Handed → Lowering Prelude
handed_own done p true x = handed_by_name done p x
handed_own done p false x = handed_between done p x

unfoldable pub handed_in : Prelude → PatId → Option OwnName → Lowering Prelude
handed_in done p (Some own) = handed_own done p own.is_alone (handed_as own.name own.hygiene p)
handed_in done p None = do
  n ← made_number
  handed_between done p (handed_as (Generated n) root_hygiene p)

unfoldable pub let_param : Prelude → PatId → Lowering Prelude
let_param done p = do
  own ← own_name_of p
  handed_in done p own

abbrev pub let_params : Prelude → List PatId → Lowering Prelude
let_params done [] = pure done
let_params done (p ∷ ps) = do
  l ← let_param done p
  let_params l ps

-- what the outside hands them to
abbrev pub lower_handed : List PatId → List Handed → Lowering (List PatId)
lower_handed done [] = pure done
lower_handed done (x ∷ xs) = do
  p ← handed_form x
  lower_handed (done ++ p ∷ []) xs

-- `self`

unfoldable pub binding_of : BindingId → Lowering (Option Binding)
binding_of id = λ b. (Ok (slice_get b.stored.bindings.entries id.0), b)

-- the same once more, in which nothing is wrong
abbrev pub bound_anew : Binding → Binding
bound_anew x = record { name = x.name; mode = x.mode; hygiene = x.hygiene; problems = None }

-- `let self = self`, of which neither the pattern nor the path comes from a node: what `self` is from there on, and the `let`
unfoldable pub rebind_form : Binding → Lowering (BindingId × List Statement)
rebind_form x = do
  i ← alloc_binding (bound_anew x)
  p ← alloc_pat (pat.Bind i None) None
  define i p
  e ← name_form x.name x.hygiene
  pure (i, let_from p e ∷ [])

abbrev pub rebound : BindingId → Option Binding → Lowering (BindingId × List Statement)
rebound id None = pure (id, [])
rebound id (Some x) = rebind_form x

-- What `self` is in the body, where there is one, and the prelude with its `let`, to which those of the others are added.
unfoldable pub let_self : Option BindingId → Lowering (Option BindingId × Prelude)
let_self None = pure (None, no_prelude)
let_self (Some id) = do
  x ← binding_of id
  r ← rebound id x
  pure (Some r.0, record { handed = []; lets = r.1 })

-- coroutines

abbrev pub coroutine_of : CoroutineKind → CoroutineSource → ExprId → HirExpr
coroutine_of which from body = hir.Closure [] [] None body (closure.Coroutine which from) capture.Ref

-- the block with these in front of the body, and the coroutine around it, both from no node
unfoldable pub made_coroutine_form : CoroutineKind → CoroutineSource → List Statement → ExprId → ExprSteps
made_coroutine_form which from lets body = do
  b ← alloc_expr (hir.Block false None None lets (Some body)) None
  alloc_expr (coroutine_of which from b) None

-- the same, where it is handed these parameters
unfoldable pub within_form : CoroutineKind → Lowering ClosureParams → Lowering (Option TypeRefId) → ExprSteps → Lowering Within
within_form which params ret body = do
  l ← params
  t ← ret
  e ← body
  p ← let_params no_prelude l.args
  c ← made_coroutine_form which source.Closure p.lets e
  pure (record { arg_types = l.arg_types; ret = t; handed = p.handed; coroutine = c })

abbrev pub stored_coroutine_closure : CoroutineKind → Bool → List PatId → Within → HirExpr
stored_coroutine_closure which moves args w =
    hir.Closure args w.arg_types w.ret w.coroutine (closure.CoroutineClosure which) (capture_by moves)

-- The parameters, what it returns, its body, the coroutine, and then what the parameters are handed to. The coroutine owns what is bound
-- in it. No jump in it reaches what is open around it.
unfoldable pub coroutine_closure_form : Pointer → CoroutineKind → Bool → Lowering ClosureParams → Lowering (Option TypeRefId) → ExprSteps
    → ExprSteps
coroutine_closure_form at which moves params ret body = do
  outside ← open_barrier
  w ← owning (λ w. w.coroutine) (within_form which params ret body)
  ps ← lower_handed [] w.handed
  close_barrier outside
  alloc_expr (stored_coroutine_closure which moves ps w) (Some at)
