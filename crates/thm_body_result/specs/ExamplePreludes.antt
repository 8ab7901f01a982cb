-- Small closures and functions that are coroutines: what whatever stands for one has stored, where nodes of patterns lead, and what owns
-- bindings.
use Rattle.std.specs.Prelude.{◌≡◌, suc, Bool, true, false, List, [], ◌∷◌, Option, Some, None, slice_get}
use Rattle.hir_binding.specs.declared.binding.BindingAnnotation.TheVariants.{Mutable, Ref}
use Rattle.hir_store.specs.Pointers.{Pointer}
use Rattle.hir_store.specs.StoreSink.{pat_id}
use Rattle.hir_store.specs.Stored.{Store, SourceMap}
use Rattle.hir_store.specs.declared.diagnostics.ExpressionStoreDiagnostics.TheVariants.{UnreachableLabel}
use Rattle.hir_store.specs.declared.hir.CaptureBy.{CaptureBy}
use Rattle.hir_store.specs.declared.hir.CaptureBy.TheVariants as capture
use Rattle.hir_store.specs.declared.hir.ClosureKind.TheVariants as closure
use Rattle.hir_store.specs.declared.hir.CoroutineKind.{CoroutineKind}
use Rattle.hir_store.specs.declared.hir.CoroutineSource.TheVariants as source
use Rattle.hir_store.specs.declared.hir.Expr.TheVariants as hir
use Rattle.hir_store.specs.declared.ids.BindingId.{BindingId}
use Rattle.hir_store.specs.declared.ids.ExprId.{ExprId}
use Rattle.hir_store.specs.declared.ids.LabelId.{LabelId}
use Rattle.hir_store.specs.declared.ids.PatId.{PatId}
use Rattle.hir_store.specs.declared.ids.TypeRefId.{TypeRefId}
use Rattle.hir_store.specs.declared.pat.Pat.TheVariants as pat
use Rattle.hir_lower_scope.specs.Scopes.{loop_scope}
use Rattle.hir_env.specs.ResolvedTree as tree
use Rattle.hir_env.specs.ResolvedTree.{Expr, OptionExpr, OptionPat, Params}
use Rattle.spec_semantics.specs.Small.{at, jump_a, label_a, root}
use Rattle.thm_body_result.specs.Blocks.{blocks_of}
use Rattle.thm_body_result.specs.Diagnostics.{diagnostics}
use Rattle.thm_body_result.specs.Forms.{path_of_name}
use Rattle.thm_body_result.specs.Leads.{Mapping}
use Rattle.thm_body_result.specs.Room.{body_size, size}
use Rattle.thm_body_result.specs.Size.{led_by, placed_owners}
use Rattle.thm_body_result.specs.Corresponds.{Corresponds, opened}
use Rattle.thm_body_result.specs.CorrespondsPreludes.{let_from}
use Rattle.thm_body_result.specs.Examples.{block_id, break_a, closure_of, just, letter, literal_part, owner, owners_in, self_and_x, use_x}
use Rattle.thm_body_result.specs.Examples.{x_at}

-- `async |..| e`, of this kind, with `move` or without
abbrev pub coroutine_closure_of : CoroutineKind → Bool → Params → OptionExpr → Expr
coroutine_closure_of kind moves xs e = tree.coroutine_closure_expr (at 0) kind moves xs tree.no_type e

-- one parameter before others
abbrev pub and_then : OptionPat → Params → Params
and_then p xs = tree.more_params (tree.param p tree.no_type) xs

-- `x`, `ref x`, and a pattern that is absent
abbrev pub plain_x : OptionPat
plain_x = tree.some_pat (x_at 8)

abbrev pub ref_x : OptionPat
ref_x = tree.some_pat (tree.bind_pat (at 8) (record use_x { mode = Ref }) tt tree.no_pat)

abbrev pub only : OptionPat → Params
only p = and_then p tree.no_params

-- what stands for one

-- `async |x| break 'a`: a formal parameter from the node of the pattern, the closure right behind the coroutine, and in that a block from
-- no node, with a `let` of the pattern in front of the body.
pub record IsCoroutineClosure (kind : CoroutineKind) (takes : CaptureBy) (store : Store) (source_map : SourceMap) (i : ExprId)
    : Type 0 where
  pub formal : PatId
  pub types : List (Option TypeRefId)
  pub ret : Option TypeRefId
  pub coroutine : ExprId
  pub block : ExprId
  pub written : PatId
  pub value : ExprId
  pub body : ExprId
  pub binding : BindingId
  pub whole : slice_get store.exprs i.0 ≡ Some (hir.Closure (formal ∷ []) types ret coroutine (closure.CoroutineClosure kind) takes)
  pub behind : suc coroutine.0 ≡ i.0
  pub around : slice_get store.exprs coroutine.0
      ≡ Some (hir.Closure [] [] None block (closure.Coroutine kind source.Closure) capture.Ref)
  pub inside : slice_get store.exprs block.0 ≡ Some (hir.Block false None None (let_from written value ∷ []) (Some body))
  pub from_none : slice_get source_map.expr_sources block.0 ≡ Some None
  pub reads : slice_get store.exprs value.0 ≡ Some (hir.Path (path_of_name (letter 120)) root)
  pub breaks : slice_get store.exprs body.0 ≡ Some (hir.Break None None)
  pub binds : slice_get store.pats formal.0 ≡ Some (pat.Bind binding None)
  pub from : slice_get source_map.pat_sources formal.0 ≡ Some (Some (at 8))
  pub bound : slice_get store.bindings binding.0
      ≡ Some (record { name = letter 120; mode = Mutable; hygiene = root; problems = None })

abbrev pub async_break : CoroutineKind → Bool → Expr
async_break kind moves = coroutine_closure_of kind moves (only plain_x) (tree.some_expr break_a)

abbrev pub BecomesClosure : Bool → CaptureBy → Type 0
BecomesClosure moves takes =
    (kind : CoroutineKind) (outer : LabelId) (store : Store) (source_map : SourceMap) (i : ExprId) (ws : List Mapping)
    → Corresponds store source_map (opened label_a outer []) (async_break kind moves) i ws
    → IsCoroutineClosure kind takes store source_map i

-- where patterns come from

abbrev pub patterns_of : CoroutineKind → OptionPat → List (Option Pointer)
patterns_of kind p = (size (coroutine_closure_of kind false (only p) (literal_part 1))).pats

abbrev pub nodes_of : CoroutineKind → OptionPat → List (Pointer × PatId)
nodes_of kind p = led_by pat_id 0 (size (coroutine_closure_of kind false (only p) (literal_part 1))).pat_leads []

abbrev pub from_eight : Option Pointer
from_eight = Some (at 8)

pub record CoroutineClosures : Type 0 where
  -- also where the closure is `move` its coroutine takes by reference; a label that is open around it isn't in it, and that is told
  pub moves : BecomesClosure true capture.Value
  pub refers : BecomesClosure false capture.Ref
  pub unreachable : (kind : CoroutineKind) (moves : Bool)
      → diagnostics (loop_scope (Some label_a) ∷ []) (async_break kind moves) ≡ UnreachableLabel jump_a.pointer jump_a.name ∷ []
  -- one that is made up for a pattern's node, and for `ref x` one in between
  pub plain : (kind : CoroutineKind) → patterns_of kind plain_x ≡ from_eight ∷ from_eight ∷ []
  pub between : (kind : CoroutineKind)
      → patterns_of kind ref_x ≡ from_eight ∷ from_eight ∷ from_eight ∷ []
  -- the node leads to what was written
  pub led : (kind : CoroutineKind) → nodes_of kind ref_x ≡ (at 8, pat_id 0) ∷ []
  -- a name is made up for what has none
  pub named : (kind : CoroutineKind) → (size (coroutine_closure_of kind false (only ref_x) (literal_part 1))).names ≡ 0
  pub unnamed : (kind : CoroutineKind) → (size (coroutine_closure_of kind false (only tree.no_pat) (literal_part 1))).names ≡ 1
  pub parameters_first : (kind : CoroutineKind) (moves : Bool)
      → blocks_of (coroutine_closure_of kind moves tree.no_params (just 3)) ≡ block_id 3 ∷ []

-- what owns bindings

pub record OwnersOfCoroutines : Type 0 where
  -- `async |x| 1`: the body 1, the name that is read 2, the block 3, the coroutine 4, the closure 5
  pub of_closure : (kind : CoroutineKind) (moves : Bool)
      → owners_in (coroutine_closure_of kind moves (only plain_x) (literal_part 1)) ≡ owner 4 ∷ owner 5 ∷ []
  -- `async |ref x| 1`: the names that are read 2 and 3, the coroutine 5, the closure 6
  pub of_between : (kind : CoroutineKind) (moves : Bool)
      → owners_in (coroutine_closure_of kind moves (only ref_x) (literal_part 1)) ≡ owner 5 ∷ owner 5 ∷ owner 6 ∷ []
  -- `|| async |x| 1`
  pub innermost : (kind : CoroutineKind) (moves : Bool)
      → owners_in (closure_of tree.no_params (tree.some_expr (coroutine_closure_of kind moves (only plain_x) (literal_part 1))))
      ≡ owner 4 ∷ owner 5 ∷ []
  -- `self` and `x` of a function whose body is 0: `self` in front of the coroutine, `x` in it, `self` once more, and what is handed to `x`;
  -- the names that are read are 1 and 2, the block is 3
  pub of_function : (kind : CoroutineKind)
      → placed_owners 0 (body_size (Some kind) false self_and_x (literal_part 3)).owners ≡ None ∷ owner 4 ∷ owner 4 ∷ None ∷ []
