-- What stands for `while`, closures, coroutine blocks, `for`, `?` and `try`. All that lowering makes up for one came from its node, but
-- what makes an iterator of the head of a `for` from the head's, and patterns and the block in a coroutine from none. The node leads to
-- the outermost alone, but that of a `try` with a written type to the block in front of which its `let` stands.
use Rattle.std.specs.Prelude.{◌≡◌, ℕ, Bool, true, false, List, [], ◌∷◌, Option, Some, None, slice_get}
use Rattle.hir_binding.specs.declared.binding.BindingAnnotation.{BindingAnnotation}
use Rattle.hir_binding.specs.declared.binding.BindingAnnotation.TheVariants.{Mutable, Unannotated}
use Rattle.hir_store.specs.Pointers.{Pointer}
use Rattle.hir_store.specs.Stored.{Store, SourceMap}
use Rattle.hir_store.specs.declared.hir.CaptureBy.{CaptureBy}
use Rattle.hir_store.specs.declared.hir.ClosureKind.{ClosureKind}
use Rattle.hir_store.specs.declared.hir.ClosureKind.TheVariants as closure
use Rattle.hir_store.specs.declared.hir.CoroutineKind.{CoroutineKind}
use Rattle.hir_store.specs.declared.hir.CoroutineSource.TheVariants as source
use Rattle.hir_store.specs.declared.hir.Expr.{Expr as HirExpr}
use Rattle.hir_store.specs.declared.hir.Expr.TheVariants as hir
use Rattle.hir_store.specs.declared.hir.LoopSource.TheVariants.{ForLoop, While}
use Rattle.hir_store.specs.declared.hir.MatchArm.{MatchArm}
use Rattle.hir_store.specs.declared.hir.Mutability.TheVariants.{Mut}
use Rattle.hir_store.specs.declared.hir.Rawness.TheVariants.{Ref}
use Rattle.hir_store.specs.declared.hir.Statement.{Statement}
use Rattle.hir_store.specs.declared.hir.Statement.TheVariants as statement
use Rattle.hir_store.specs.declared.name.Name.TheVariants as name
use Rattle.hir_store.specs.declared.pat.Pat.{Pat as HirPat}
use Rattle.hir_store.specs.declared.pat.Pat.TheVariants as pat
use Rattle.hir_store.specs.declared.path.Path.TheVariants.{LangItem}
use Rattle.hir_store.specs.declared.ids.BindingId.{BindingId}
use Rattle.hir_store.specs.declared.ids.BlockId.{BlockId}
use Rattle.hir_store.specs.declared.ids.ExprId.{ExprId}
use Rattle.hir_store.specs.declared.ids.LabelId.{LabelId}
use Rattle.hir_store.specs.declared.ids.LangItemId.{LangItemId}
use Rattle.hir_store.specs.declared.ids.PatId.{PatId}
use Rattle.hir_store.specs.declared.ids.TypeRefId.{TypeRefId}
use Rattle.hir_lower_scope.specs.ScopeRibs.{Try}
use Rattle.hir_env.specs.ResolvedTree.{ForItems, QuestionItems}
use Rattle.spec_semantics.specs.Contents.{BlockContents}
use Rattle.thm_body_result.specs.Forms.{item_or_missing, no_macro, generated_name, generated_binding, conversion, leaving_node}
use Rattle.thm_body_result.specs.Leads.{Mappings, No, OneMapping, OneUnled, OneLabelMapping, OneBindingMapping, ◌&◌}
use Rattle.thm_body_result.specs.CorrespondsParts.{ExprAt}

-- what is stored for parameters: their patterns, and their types
abbrev pub StoredParams : Type 0
StoredParams = List PatId × List (Option TypeRefId)

-- one parameter before others
abbrev pub CorrespondsParam : (PatId → Mappings) → (Option TypeRefId → Mappings) → (StoredParams → Mappings) → StoredParams → Mappings
CorrespondsParam P T O l = λ ws. (p : PatId) × (t : Option TypeRefId) × (others : StoredParams)
    × (l ≡ (p ∷ others.0, t ∷ others.1)) × ((P p & T t) & O others) ws

module _ (store : Store) (source_map : SourceMap) where
  -- a pattern that came from no node
  pub record PatMade (i : PatId) (p : HirPat) : Type 0 where
    pub stored : slice_get store.pats i.0 ≡ Some p
    pub source : slice_get source_map.pat_sources i.0 ≡ Some None

  -- a label that came from the node, with a name that was made up for it
  pub record LabelMade (n : LabelId) (number : ℕ) (at : Pointer) : Type 0 where
    pub stored : slice_get store.labels n.0 ≡ Some (record { name = name.Generated number })
    pub source : slice_get source_map.label_sources n.0 ≡ Some (Some at)

  abbrev pub CorrespondsMade : HirExpr → Pointer → ExprId → Mappings
  CorrespondsMade e at i = λ ws. ExprAt store source_map i e (Some at) × OneUnled i ws

  -- it binds the name of this number in this way, and nothing is wrong about that
  abbrev pub CorrespondsMadeBind : BindingAnnotation → ℕ → PatId → Mappings
  CorrespondsMadeBind mode n p = λ ws. (b : BindingId) × PatMade p (pat.Bind b None)
      × (slice_get store.bindings b.0 ≡ Some (generated_binding mode n)) × OneBindingMapping b ws

  -- a call of the item
  abbrev pub CorrespondsItemCall : Pointer → Option LangItemId → ExprId → ExprId → Mappings
  CorrespondsItemCall at item argument i = λ ws. (callee : ExprId)
      × (CorrespondsMade (item_or_missing item) at callee & CorrespondsMade (hir.Call callee (argument ∷ [])) at i) ws

  -- `while`

  -- The turn of a `while` is its body where the condition holds, else a break. It, the break and the loop came from the node of the
  -- `while`, which leads to the loop alone.
  abbrev pub CorrespondsWhile : Pointer → Option LabelId → (ExprId → Mappings) → (ExprId → Mappings) → ExprId → Mappings
  CorrespondsWhile at n C B i = λ ws.
      (condition : ExprId) × (body : ExprId) × (out : ExprId) × (iteration : ExprId)
      × ExprAt store source_map i (hir.Loop iteration n While) (Some at)
      × ExprAt store source_map iteration (hir.If condition body (Some out)) (Some at)
      × ExprAt store source_map out (hir.Break None None) (Some at)
      × (C condition & B body & OneUnled out & OneUnled iteration & OneMapping at i) ws

  -- A condition that holds a `let` stands as it is written. Any other one is bound to a name that is made up, which stands behind that in
  -- a block.
  abbrev pub CorrespondsCondition : Pointer → Bool → (ExprId → Mappings) → ExprId → Mappings
  CorrespondsCondition at true C i = C i
  CorrespondsCondition at false C i = λ ws. (condition : ExprId) × (n : ℕ) × (p : PatId) × (e : ExprId)
      × (C condition & CorrespondsMadeBind Unannotated n p & CorrespondsMade (generated_name n) at e
      & CorrespondsMade (hir.Block false None None (statement.Let p None (Some condition) None ∷ []) (Some e)) at i) ws

  -- closures

  -- Its parameters, what it returns and its body, and then the closure; it is what is written.
  abbrev pub CorrespondsClosure : Pointer → ClosureKind → CaptureBy → (StoredParams → Mappings) → (Option TypeRefId → Mappings)
      → (ExprId → Mappings)
      → ExprId → Mappings
  CorrespondsClosure at kind capture P T B i = λ ws. (l : StoredParams) × (ret : Option TypeRefId) × (body : ExprId)
      × ExprAt store source_map i (hir.Closure l.0 l.1 ret body kind capture) (Some at)
      × (P l & T ret & B body & OneMapping at i) ws

  -- coroutine blocks

  -- A block with this number, which comes from no node, and then a closure that takes nothing and does what the block does.
  abbrev pub CorrespondsCoroutine : Pointer → CoroutineKind → CaptureBy → Option BlockId → Bool
      → (List Statement → Option ExprId → Mappings)
      → ExprId → Mappings
  CorrespondsCoroutine at kind capture number gives C i = λ ws. (kept : List Statement) × (last : Option ExprId)
      × (contents : List Statement × Option ExprId) × BlockContents gives kept last contents × (body : ExprId)
      × ExprAt store source_map i (hir.Closure [] [] None body (closure.Coroutine kind source.Block) capture) (Some at)
      × ExprAt store source_map body (hir.Block false None number contents.0 contents.1) None
      × (C kept last & OneUnled body & OneMapping at i) ws

  -- `?`

  -- an arm for the item, in which what the item holds has the name of a number
  abbrev pub CorrespondsFlowArm : LangItemId → (ℕ → ExprId → Mappings) → MatchArm → Mappings
  CorrespondsFlowArm item S a = λ ws. (n : ℕ) × (p : PatId) × (q : PatId) × (e : ExprId) × (a ≡ record { pat = q; guard = None; expr = e })
      × PatMade q (pat.TupleStruct (LangItem item) None (p ∷ [])) × (CorrespondsMadeBind Unannotated n p & S n e) ws

  -- the residual of that name, what is made of it, and what leaves with that
  abbrev pub CorrespondsResidual : Pointer → QuestionItems → Option (Try LabelId) → ℕ → ExprId → Mappings
  CorrespondsResidual at items t n i = λ ws. (r : ExprId) × (e : ExprId)
      × (CorrespondsMade (generated_name n) at r & CorrespondsItemCall at (conversion items t) r e
      & CorrespondsMade (leaving_node t e) at i) ws

  abbrev pub CorrespondsQuestion : Pointer → QuestionItems → Option (Try LabelId) → (ExprId → Mappings) → ExprId → Mappings
  CorrespondsQuestion at items t S i = λ ws. (e : ExprId) × (b : ExprId) × (goes_on : MatchArm) × (breaks : MatchArm)
      × ExprAt store source_map i (hir.Match b (goes_on ∷ breaks ∷ [])) (Some at)
      × (S e & CorrespondsItemCall at (Some items.branch) e b
      & CorrespondsFlowArm items.goes_on (λ n x. CorrespondsMade (generated_name n) at x) goes_on
      & CorrespondsFlowArm items.breaks (λ n x. CorrespondsResidual at items t n x) breaks & OneMapping at i) ws

  -- `try`

  -- the tail, or `()` where there is none
  abbrev pub CorrespondsValue : Pointer → Option ExprId → ExprId → Mappings
  CorrespondsValue at (Some e) v = λ ws. (v ≡ e) × No ws
  CorrespondsValue at None v = CorrespondsMade (hir.Tuple []) at v

  -- a call of the item with the value, which is stored between the item and the call
  abbrev pub CorrespondsWrapped : Pointer → Option LangItemId → Option ExprId → ExprId → Mappings
  CorrespondsWrapped at item tail i = λ ws. (callee : ExprId) × (v : ExprId)
      × (CorrespondsMade (item_or_missing item) at callee & CorrespondsValue at tail v & CorrespondsMade (hir.Call callee (v ∷ [])) at i) ws

  -- a block with a label of its own, whose value goes through the item
  abbrev pub CorrespondsTry : Pointer → Option LangItemId → Option BlockId → Bool → (LabelId → List Statement → Option ExprId → Mappings)
      → ExprId → Mappings
  CorrespondsTry at item number gives C i = λ ws. (label : LabelId) × (n : ℕ) × LabelMade label n at
      × (kept : List Statement) × (last : Option ExprId) × (contents : List Statement × Option ExprId)
      × BlockContents gives kept last contents × (value : ExprId)
      × ExprAt store source_map i (hir.Block false (Some label) number contents.0 (Some value)) (Some at)
      × (OneLabelMapping at label & C label kept last & CorrespondsWrapped at item contents.1 value & OneMapping at i) ws

  -- `{ let g: T = block; g }`, where the block is the `try` without its type
  abbrev pub CorrespondsTypedTry : Pointer → (ExprId → Mappings) → (TypeRefId → Mappings) → ExprId → Mappings
  CorrespondsTypedTry at B T i = λ ws. (b : ExprId) × (t : TypeRefId) × (n : ℕ) × (p : PatId) × (e : ExprId)
      × (B b & T t & CorrespondsMadeBind Unannotated n p & CorrespondsMade (generated_name n) at e
      & CorrespondsMade (hir.Block false None None (statement.Let p (Some t) (Some b) None ∷ []) (Some e)) at i) ws

  -- `for`

  -- a call of the item with `&mut` of the name of this number
  abbrev pub CorrespondsNext : Pointer → LangItemId → ℕ → ExprId → Mappings
  CorrespondsNext at item n i = λ ws. (g : ExprId) × (r : ExprId)
      × ((CorrespondsMade (generated_name n) at g & CorrespondsMade (hir.Ref Ref Mut g) at r)
      & CorrespondsItemCall at (Some item) r i) ws

  -- the arm for the item that holds nothing: it ends the loop
  abbrev pub CorrespondsDoneArm : Pointer → LangItemId → MatchArm → Mappings
  CorrespondsDoneArm at item a = λ ws. (q : PatId) × (e : ExprId) × (a ≡ record { pat = q; guard = None; expr = e })
      × PatMade q (pat.Path (LangItem item) no_macro) × CorrespondsMade (hir.Break None None) at e ws

  -- the arm for the item that holds what this pattern fits
  abbrev pub CorrespondsGivesArm : LangItemId → PatId → (ExprId → Mappings) → MatchArm → Mappings
  CorrespondsGivesArm item p B a = λ ws. (q : PatId) × (e : ExprId) × (a ≡ record { pat = q; guard = None; expr = e })
      × PatMade q (pat.TupleStruct (LangItem item) None (p ∷ [])) × B e ws

  -- `{ match next(&mut g) { None => break, Some(p) => body } }`
  abbrev pub CorrespondsToIteration : Pointer → ForItems → ℕ → PatId → (ExprId → Mappings) → ExprId → Mappings
  CorrespondsToIteration at items n p B i = λ ws. (next : ExprId) × (is_done : MatchArm) × (gives : MatchArm) × (choice : ExprId)
      × (CorrespondsNext at items.next n next & CorrespondsDoneArm at items.is_done is_done & CorrespondsGivesArm items.gives p B gives
      & CorrespondsMade (hir.Match next (is_done ∷ gives ∷ [])) at choice
      & CorrespondsMade (hir.Block false None None [] (Some choice)) at i) ws

  -- a loop of that turn, to which no node leads
  abbrev pub CorrespondsToLoop : Pointer → Option LabelId → (ExprId → Mappings) → ExprId → Mappings
  CorrespondsToLoop at label T i = λ ws. (iteration : ExprId) × (T iteration & CorrespondsMade (hir.Loop iteration label ForLoop) at i) ws

  -- `match into_iter(head) { mut g => loop { .. } }`, where the loop refers to the name of g, and has the pattern in it
  abbrev pub CorrespondsTo : Pointer → Pointer → ForItems → (ExprId → Mappings) → (PatId → Mappings) → (ℕ → PatId → ExprId → Mappings)
      → ExprId
      → Mappings
  CorrespondsTo at head_at items H P L i = λ ws. (head : ExprId) × (iterator : ExprId) × (p : PatId) × (n : ℕ) × (q : PatId) × (l : ExprId)
      × ExprAt store source_map i (hir.Match iterator (record { pat = q; guard = None; expr = l } ∷ [])) (Some at)
      × (H head & CorrespondsItemCall head_at (Some items.into_iter) head iterator & P p & CorrespondsMadeBind Mutable n q & L n p l
      & OneMapping at i) ws
