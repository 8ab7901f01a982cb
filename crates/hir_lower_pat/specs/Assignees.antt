-- What comes of an expression that is assigned to, before it is known which parentheses stand around it.
use Rattle.std.specs.Prelude.{◌≡◌, if◌then◌else◌, Bool, true, false, List, Option, Some, None, is_none}
use denote.Ref.{Bor, MutBor}
use Rattle.hir_syntax.specs.declared.ast.Expr.{Expr as AstExpr}
use Rattle.hir_syntax.specs.declared.ast.ElseBranch.TheOpen.{ExprKind-F}
use Rattle.hir_syntax.specs.declared.ast.Path.{Path as AstPath}
use Rattle.hir_syntax.specs.declared.ast.RecordExprField.{RecordExprField as AstField, out-RecordExprField}
use Rattle.hir_syntax.specs.declared.ast.RecordExprFieldList.{RecordExprFieldList as AstFieldList, out-RecordExprFieldList}
use Rattle.hir_store.specs.Pointers.{Pointer}
use Rattle.hir_store.specs.Stored.{Stored}
use Rattle.hir_store.specs.Range.{HasExpr, HasPat, HasPatOption}
use Rattle.hir_store.specs.declared.hir.Expr.TheVariants as hir
use Rattle.hir_store.specs.declared.ids.ExprId.{ExprId}
use Rattle.hir_store.specs.declared.ids.HygieneId.{HygieneId}
use Rattle.hir_store.specs.declared.ids.PatId.{PatId}
use Rattle.hir_store.specs.declared.path.Path.{Path as HirPath}
use Rattle.hir_store.specs.declared.pat.Pat.TheVariants as pat
use Rattle.hir_env.specs.ResolveCtx.{ResolveCtx}
use Rattle.hir_env.specs.Layers.{ExprKindLayer}
use Rattle.hir_env.specs.Whole.{written, resolved_expr, fields_part, path_part, spread_part}
use Rattle.hir_env.specs.ResolvedTree as tree
use Rattle.hir_env.specs.ResolvedTree.{Expr, OptionPath, Origin, Path, Target}
use Rattle.hir_env.specs.Targets.{comes_to_dots, element_of, names_target, resolves, spread_pointer, target_fields, target_or}
use Rattle.hir_lower_builder.specs.Builder.{Builder}
use Rattle.hir_lower_builder.specs.Calls.{emitted}
use Rattle.hir_lower_builder.specs.Forms.{missing, path_hygiene, some}
use Rattle.hir_lower_builder.specs.Lowering.{Checked, Lowering, Lowers, ◌>>=◌, ◌>>◌, pure, alloc_expr, alloc_desugared_pat, point}
use Rattle.hir_lower_builder.specs.Lowering.{point_target}
use Rattle.hir_lower_builder.specs.Lower.{lower_kept, lower_path, lower_target}
use Rattle.hir_lower_builder.specs.Targets.{alloc_target, missing_target}
use Rattle.hir_lower_builder.specs.Nests.{Each, IfPresent}
use Rattle.hir_lower_builder.specs.Walks.{names_in}
use Rattle.hir_lower_builder.specs.declared.parts.Lowerer.{Lowerer}
use Rattle.hir_lower_pat.specs.declared.assignees.Assignee.{Assignee}
use Rattle.hir_lower_pat.specs.declared.assignees.Assignee.TheVariants as assignee

abbrev pub HasAssignee : Stored → Assignee → Type 0
HasAssignee s (assignee.Pat i) = HasPat s i
HasAssignee s (assignee.Place e) = HasExpr s e
HasAssignee s assignee.Gone = Unit {0}

-- a place, by what is left of its expression
abbrev pub place_left : Option ExprId → Assignee
place_left None = assignee.Gone
place_left (Some e) = assignee.Place e

-- the expression of a place
abbrev pub place_assignee : Expr → Lowering Assignee
place_assignee e = do
  o ← lower_kept e
  pure (place_left o)

-- a target of its own
abbrev pub target_assignee : Target → Lowering Assignee
target_assignee t = do
  i ← lower_target t
  pure (assignee.Pat i)

-- what isn't a target of its own is a place
abbrev pub target_or_place : Target → Expr → Lowering Assignee
target_or_place (tree.absent_target call) e = place_assignee e
target_or_place t e = target_assignee t

-- with the outermost call, where it is an element that comes out of calls
abbrev pub assignee_of : (Path → Bool) → Option Pointer → Expr → Lowering Assignee
assignee_of is_found call e = target_or_place (target_or is_found call (tree.absent_target None) e) e

-- the pattern of a place, of which something is left or nothing is
abbrev pub place_pat : Pointer → ExprId → Lowering PatId
place_pat at e = alloc_desugared_pat (pat.Expr e) (Some at)

abbrev pub gone_place : Pointer → Lowering PatId
gone_place at = do
  e ← missing
  place_pat at e

-- the pattern of it, where nothing stands around it
abbrev pub pat_of_assignee : Pointer → Assignee → Lowering PatId
pat_of_assignee at (assignee.Pat i) = pure i
pat_of_assignee at (assignee.Place e) = place_pat at e
pat_of_assignee at assignee.Gone = gone_place at

-- what comes of an expression, which as a place comes from this node
abbrev pub assignee_pat : (Path → Bool) → Option Pointer → Pointer → Expr → Lowering PatId
assignee_pat is_found call at e = do
  a ← assignee_of is_found call e
  pat_of_assignee at a

-- whether a path that is read here is no place
abbrev pub found_at : ResolveCtx → Path → Bool
found_at at = resolves at.answers at.place

abbrev pub Assignees : ResolveCtx → Option Pointer → Expr → Builder → Checked Assignee → Builder → Type 0
Assignees at call e old result new = Lowers HasAssignee (assignee_of (found_at at) call e) old result new

-- elements

-- tells the calls that an element or a callee comes out of
abbrev pub track_calls : Expr → Lowering (Unit {0})
track_calls (tree.disabled_expr why e) = track_calls e
track_calls (tree.macro_expr s c tree.no_expr) = emitted c
track_calls (tree.macro_expr s c (tree.some_expr e)) = emitted c >> track_calls e
track_calls _ = pure tt

-- an element of a tuple or a call, or in front of the two dots of an array; none where it comes to two dots
abbrev pub element_found : (Path → Bool) → Option Pointer → Expr → Lowering (Option PatId)
element_found is_found call e = if comes_to_dots e then track_calls e >> pure None else some (lower_target (element_of is_found call e))

abbrev pub AssigneesElement : ResolveCtx → Option Pointer → Expr → Builder → Checked (Option PatId) → Builder → Type 0
AssigneesElement at call e old result new = Lowers HasPatOption (element_found (found_at at) call e) old result new

-- parentheses

-- they lead to the expression of a place
abbrev pub through_place : Pointer → ExprId → Lowering Assignee
through_place at e = do
  point at e
  pure (assignee.Place e)

abbrev pub through : Pointer → Assignee → Lowering Assignee
through at (assignee.Pat i) = pure (assignee.Pat i)
through at (assignee.Place e) = through_place at e
through at assignee.Gone = do
  e ← missing
  through_place at e

-- what stands in parentheses that don't stand around two dots
abbrev pub through_parens : (Path → Bool) → Option Pointer → Pointer → Expr → Lowering Assignee
through_parens is_found call at e = do
  a ← assignee_of is_found call e
  through at a

-- two dots in parentheses
abbrev pub dots_tuple : Origin → Target
dots_tuple at = tree.tuple_target at (tree.dots_targets tree.no_targets)

-- calls

-- The node of a call leads to the pattern of what it stands for, which as a place comes from the other node.
abbrev pub led : Pointer → PatId → Lowering Assignee
led at i = do
  point_target at i
  pure (assignee.Pat i)

abbrev pub called_assignee : Pointer → Pointer → Assignee → Lowering Assignee
called_assignee at source a = do
  i ← pat_of_assignee source a
  led at i

-- one that stands for no expression
abbrev pub uncalled_assignee : Option Pointer → Pointer → Lowering Assignee
uncalled_assignee call at = do
  i ← missing_target call
  led at i

-- paths

-- those of a language item are none
abbrev pub is_no_place : ResolveCtx → HirPath → Bool
is_no_place at p = names_target at.answers at.place (names_in p)

-- a path, once it is known whether it is no place
abbrev pub path_aimed : Bool → Origin → HygieneId → HirPath → Lowering Assignee
path_aimed true at h p = do
  i ← alloc_target (pat.Path p (path_hygiene p h)) at
  pure (assignee.Pat i)
path_aimed false at h p = do
  i ← alloc_expr (hir.Path p (path_hygiene p h)) (Some at.node)
  pure (assignee.Place i)

abbrev pub path_assignee : ResolveCtx → Origin → HygieneId → Option HirPath → Lowering Assignee
path_assignee rctx at h None = do
  i ← alloc_expr hir.Missing (Some at.node)
  pure (assignee.Place i)
path_assignee rctx at h (Some p) = path_aimed (is_no_place rctx p) at h p

-- with the path, where it is read
abbrev pub path_steps : ResolveCtx → Origin → HygieneId → OptionPath → Lowering Assignee
path_steps rctx at h path = do
  r ← lower_path path
  path_assignee rctx at h r

-- records

-- with the fields of a list
abbrev pub record_with : ResolveCtx → Origin → Option AstPath → AstFieldList → Target
record_with rctx at path list =
    let level = out-RecordExprFieldList list in
    tree.record_target at (path_part rctx path) (target_fields (found_at rctx) (fields_part rctx level.fields)) level.dotdot
    (spread_pointer (spread_part rctx level.spread level.dotdot))

-- two dots as they are written

abbrev pub no_ends : {A : Type 0} → Option A → Option A → Bool
no_ends None b = is_none b
no_ends (Some a) b = false

abbrev pub dots_kind : ExprKindLayer written → Bool
dots_kind (ExprKind-F.RangeExpr op a b) = no_ends a b
dots_kind _ = false

-- what may be handed in

abbrev pub KidsOfFields : (AstExpr → Type 0) → List AstField → Type 0
KidsOfFields target fs = Each (λ f. IfPresent target (out-RecordExprField f).expr) fs

-- of the parts of the assignee expression, of what is claimed of targets, of callees and of paths
module _ (target : AstExpr → Type 0) (callee : AstExpr → Type 0) (path : AstPath → Type 0) where
  abbrev pub KidsOfTarget : ExprKindLayer written → Type 0
  KidsOfTarget (ExprKind-F.ParenExpr e) = IfPresent target e
  KidsOfTarget (ExprKind-F.TupleExpr comma es) = Each target es
  KidsOfTarget (ExprKind-F.ArrayExpr es) = Each target es
  KidsOfTarget (ExprKind-F.CallExpr f es) = IfPresent callee f × IfPresent (Each target) es
  KidsOfTarget (ExprKind-F.PathExpr x) = IfPresent path x
  KidsOfTarget (ExprKind-F.RecordExpr x l) = IfPresent path x × IfPresent (λ r. KidsOfFields target (out-RecordExprFieldList r).fields) l
  KidsOfTarget _ = Unit {0}

-- a kind that is always a place
abbrev pub IsPlace : ExprKindLayer written → Type 0
IsPlace ExprKind-F.UnderscoreExpr = ⊥
IsPlace (ExprKind-F.PathExpr x) = ⊥
IsPlace (ExprKind-F.ParenExpr e) = ⊥
IsPlace (ExprKind-F.TupleExpr comma es) = ⊥
IsPlace (ExprKind-F.ArrayExpr es) = ⊥
IsPlace (ExprKind-F.CallExpr f es) = ⊥
IsPlace (ExprKind-F.RecordExpr x l) = ⊥
IsPlace (ExprKind-F.MacroExpr call) = ⊥
IsPlace _ = Unit {0}

-- function values that aim at a given expression, and that lower it as an element

abbrev pub Pre : Type 0 → Type 1
Pre P = Bor (Lowerer P) → MutBor Builder → Option Pointer → Bor AstExpr → Type 0

abbrev pub PostOf : Type 0 → Type 0 → Type 1
PostOf P A = Bor (Lowerer P) → MutBor Builder → Option Pointer → Bor AstExpr → Checked A → MutBor Builder → Type 0

abbrev pub Post : Type 0 → Type 1
Post P = PostOf P Assignee

-- the function may be called on the expression, and then does what the description says
pub record HandlesTarget {P : Type 0} (rctx : P → ResolveCtx) (pre : Pre P) (post : Post P) (lowerer : Lowerer P)
    (e : AstExpr) : Type 0 where
  pub callable : (v : Bor (Lowerer P)) (old : MutBor Builder) (call : Option Pointer) (b : Bor AstExpr)
      → v.now ≡ lowerer → b.now ≡ e → pre v old call b
  pub assignees : (v : Bor (Lowerer P)) (old new : MutBor Builder) (call : Option Pointer) (b : Bor AstExpr) (r : Checked Assignee)
      → v.now ≡ lowerer → b.now ≡ e → post v old call b r new
      → Assignees (rctx lowerer.parts) call (resolved_expr (rctx lowerer.parts) e) old.now r new.now

abbrev pub ElementPost : Type 0 → Type 1
ElementPost P = PostOf P (Option PatId)

pub record HandlesTargetElement {P : Type 0} (rctx : P → ResolveCtx) (pre : Pre P) (post : ElementPost P) (lowerer : Lowerer P)
    (e : AstExpr)
    : Type 0 where
  pub callable : (v : Bor (Lowerer P)) (old : MutBor Builder) (call : Option Pointer) (b : Bor AstExpr)
      → v.now ≡ lowerer → b.now ≡ e → pre v old call b
  pub assignees : (v : Bor (Lowerer P)) (old new : MutBor Builder) (call : Option Pointer) (b : Bor AstExpr) (r : Checked (Option PatId))
      → v.now ≡ lowerer → b.now ≡ e → post v old call b r new
      → AssigneesElement (rctx lowerer.parts) call (resolved_expr (rctx lowerer.parts) e) old.now r new.now
