-- What is done with the parts of the assignee expression.
use Rattle.std.specs.Prelude.{Bool, false, List, [], ◌∷◌, ◌++◌, Option, Some, None}
use Rattle.hir_store.specs.Pointers.{Pointer}
use Rattle.hir_store.specs.declared.diagnostics.ExpressionStoreDiagnostics.TheVariants.{FruInDestructuringAssignment}
use Rattle.hir_store.specs.declared.ids.HygieneId.{HygieneId}
use Rattle.hir_store.specs.declared.ids.PatId.{PatId}
use Rattle.hir_store.specs.declared.name.Name.{Name}
use Rattle.hir_store.specs.declared.pat.Pat.{Pat as HirPat}
use Rattle.hir_store.specs.declared.pat.Pat.TheVariants as pat
use Rattle.hir_store.specs.declared.pat.RecordFieldPat.{RecordFieldPat}
use Rattle.hir_store.specs.declared.path.Path.{Path as HirPath}
use Rattle.hir_env.specs.ResolvedTree.{Called, Origin}
use Rattle.hir_env.specs.Targets.{origin, source_of}
use Rattle.hir_lower_builder.specs.Calls.{emitted}
use Rattle.hir_lower_builder.specs.Lowering.{Lowering, ◌>>=◌, ◌>>◌, pure, alloc_desugared_pat, point_target, report}
use Rattle.hir_lower_builder.specs.Forms.{ExprSteps, path_hygiene}
use Rattle.hir_lower_builder.specs.declared.targets.Origin.{Origin as LentOrigin}
use Rattle.hir_lower_builder.specs.Pats.{Elements, dots_after, elements_form, named_part}

abbrev pub origin_of : LentOrigin → Origin
origin_of at = origin at.call at.node

-- steps that make a pattern that binds no name
abbrev pub TargetSteps : Type 0
TargetSteps = Lowering PatId

-- The assignee expression leads to its pattern. One that is an element that comes out of calls comes from the outermost of these.
unfoldable pub alloc_target : HirPat → Origin → TargetSteps
alloc_target p at = do
  i ← alloc_desugared_pat p (Some (source_of at))
  point_target at.node i
  pure i

-- a place is an expression, and its node leads to that
unfoldable pub place_form : Pointer → ExprSteps → TargetSteps
place_form at expr = do
  e ← expr
  alloc_desugared_pat (pat.Expr e) (Some at)

-- what is missing as an element that comes out of calls comes from the outermost of these, and else from no node
abbrev pub missing_target : Option Pointer → TargetSteps
missing_target call = alloc_desugared_pat pat.Missing call

-- The node of a call leads to what the call stands for, where one is handed in, as for no element and no callee.
abbrev pub called_target : Option Pointer → Called → TargetSteps → TargetSteps
called_target None called inner = emitted called >> inner
called_target (Some at) called inner = do
  emitted called
  i ← inner
  point_target at i
  pure i

abbrev pub path_target_of : HygieneId → Option HirPath → HirPat
path_target_of h None = pat.Missing
path_target_of h (Some p) = pat.Path p (path_hygiene p h)

unfoldable pub path_target_form : Origin → HygieneId → Lowering (Option HirPath) → TargetSteps
path_target_form at h path = do
  p ← path
  alloc_target (path_target_of h p) at

-- the parts so far, with one more, and with two dots behind them
abbrev pub add_target : Elements → PatId → Elements
add_target done i = (done.0 ++ i ∷ [], done.1)

abbrev pub add_target_dots : Elements → Elements
add_target_dots done = (done.0, dots_after done.0 done.1)

unfoldable pub tuple_target_form : Origin → Lowering Elements → TargetSteps
tuple_target_form at parts = do
  r ← parts
  es ← elements_form false r
  alloc_target (pat.Tuple es.0 es.1) at

-- where the path is absent or refused it is missing, and nothing else of it is read
abbrev pub call_target_of : Origin → Lowering Elements → Option HirPath → TargetSteps
call_target_of at parts None = missing_target at.call
call_target_of at parts (Some p) = do
  r ← parts
  es ← elements_form false r
  alloc_target (pat.TupleStruct p es.0 es.1) at

unfoldable pub call_target_form : Origin → Lowering Elements → Lowering (Option HirPath) → TargetSteps
call_target_form at parts path = do
  p ← path
  call_target_of at parts p

-- the two dots of an array
abbrev pub rest_target : Option Pointer → Lowering (Option PatId)
rest_target None = pure None
rest_target (Some at) = do
  i ← alloc_target pat.Rest (origin None at)
  pure (Some i)

-- the dots come behind the parts on both sides of them
unfoldable pub array_target_form : Origin → Option Pointer → Lowering Elements → Lowering Elements → TargetSteps
array_target_form at dots before after = do
  b ← before
  a ← after
  m ← rest_target dots
  alloc_target (pat.Slice b.0 m a.0) at

-- an expression behind the two dots of a record has no meaning here
abbrev pub report_spread : Option Pointer → Lowering (Unit {0})
report_spread None = pure tt
report_spread (Some spread) = report (FruInDestructuringAssignment spread)

abbrev pub record_target_of : Origin → Bool → Option Pointer → Lowering (List RecordFieldPat) → Option HirPath → TargetSteps
record_target_of at dots spread fields None = missing_target at.call
record_target_of at dots spread fields (Some p) = do
  report_spread spread
  fs ← fields
  alloc_target (pat.Record p fs dots) at

unfoldable pub record_target_form : Origin → Bool → Option Pointer → Lowering (List RecordFieldPat) → Lowering (Option HirPath)
    → TargetSteps
record_target_form at dots spread fields path = do
  p ← path
  record_target_of at dots spread fields p

unfoldable pub target_field_form : Pointer → Option Name → TargetSteps → Lowering (Option RecordFieldPat)
target_field_form at n part = do
  i ← part
  named_part at n i
