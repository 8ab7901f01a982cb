-- What stands for a closure or a function that is a coroutine: in front of its body `let`s of its parameters, and what the outside hands
-- them to. Patterns that are made up for that came from the node of the parameter's own pattern, and all else from none; no node leads
-- to any of it.
use Rattle.std.specs.Prelude.{◌≡◌, ℕ, suc, false, List, [], ◌∷◌, ◌++◌, Option, Some, None, slice_get}
use Rattle.hir_binding.specs.declared.binding.BindingAnnotation.{BindingAnnotation}
use Rattle.hir_binding.specs.declared.binding.BindingAnnotation.TheVariants.{Mutable}
use Rattle.hir_store.specs.Pointers.{Pointer}
use Rattle.hir_store.specs.Stored.{Store, SourceMap}
use Rattle.hir_store.specs.declared.hir.CaptureBy.{CaptureBy}
use Rattle.hir_store.specs.declared.hir.CaptureBy.TheVariants as capture
use Rattle.hir_store.specs.declared.hir.ClosureKind.TheVariants as closure
use Rattle.hir_store.specs.declared.hir.CoroutineKind.{CoroutineKind}
use Rattle.hir_store.specs.declared.hir.CoroutineSource.{CoroutineSource}
use Rattle.hir_store.specs.declared.hir.CoroutineSource.TheVariants as source
use Rattle.hir_store.specs.declared.hir.Expr.TheVariants as hir
use Rattle.hir_store.specs.declared.hir.Statement.{Statement}
use Rattle.hir_store.specs.declared.hir.Statement.TheVariants as statement
use Rattle.hir_store.specs.declared.ids.BindingId.{BindingId}
use Rattle.hir_store.specs.declared.ids.ExprId.{ExprId}
use Rattle.hir_store.specs.declared.ids.HygieneId.{HygieneId}
use Rattle.hir_store.specs.declared.ids.PatId.{PatId}
use Rattle.hir_store.specs.declared.ids.TypeRefId.{TypeRefId}
use Rattle.hir_store.specs.declared.name.Name.{Name}
use Rattle.hir_store.specs.declared.name.Name.TheVariants as name
use Rattle.hir_store.specs.declared.pat.Pat.{Pat as HirPat}
use Rattle.hir_store.specs.declared.pat.Pat.TheVariants as pat
use Rattle.hir_env.specs.ResolvedTree as tree
use Rattle.hir_env.specs.ResolvedTree.{SelfFormal}
use Rattle.spec_data.specs.Data.{PatData}
use Rattle.spec_data.specs.Preludes.{HandedIn, by_name, by_its_name, by_generated_name, handed_in, source_of}
use Rattle.thm_body_result.specs.Forms.{no_macro, path_of_name}
use Rattle.thm_body_result.specs.Leads.{Mappings, No, OneBindingMapping, OneUnled, OneMapping, OwnedBy, ◌&◌}
use Rattle.thm_body_result.specs.CorrespondsMade.{StoredParams}
use Rattle.thm_body_result.specs.CorrespondsParts.{ExprAt, CorrespondsBefore}

-- a name with what it is looked up as
pub record Named : Type 0 where
  pub name : Name
  pub hygiene : HygieneId

abbrev pub the_name : Name → HygieneId → Named
the_name n h = record { name = n; hygiene = h }

-- a parameter is handed in by this name
abbrev pub IsHandedBy : HandedIn → Named → Type 0
IsHandedBy (by_name n h) x = x ≡ the_name n h
IsHandedBy (by_its_name n h) x = x ≡ the_name n h
IsHandedBy by_generated_name x = (k : ℕ) × (x ≡ the_name (name.Generated k) no_macro)

-- `let p = x`
abbrev pub let_from : PatId → ExprId → Statement
let_from p e = statement.Let p None (Some e) None

module _ (store : Store) (source_map : SourceMap) where
  -- the pattern of this number, and the node that it came from, or that it was made up for
  pub record PatFound (i : PatId) (p : HirPat) (from : Option Pointer) : Type 0 where
    pub stored : slice_get store.pats i.0 ≡ Some p
    pub source : slice_get source_map.pat_sources i.0 ≡ Some from

  -- it binds the name in this way, alone, and nothing is wrong about that
  abbrev pub CorrespondsBind : BindingAnnotation → Named → Option Pointer → PatId → Mappings
  CorrespondsBind mode x from q = λ ws. (b : BindingId) × PatFound q (pat.Bind b None) from
      × (slice_get store.bindings b.0 ≡ Some (record { name = x.name; mode = mode; hygiene = x.hygiene; problems = None }))
      × OneBindingMapping b ws

  -- a path of the name, from no node
  abbrev pub CorrespondsRead : Named → ExprId → Mappings
  CorrespondsRead x i = λ ws. ExprAt store source_map i (hir.Path (path_of_name x.name) x.hygiene) None × OneUnled i ws

  -- `let`s

  -- `let p = x`
  abbrev pub CorrespondsLet : Named → PatId → List Statement → Mappings
  CorrespondsLet x p ss = λ ws. (e : ExprId) × (ss ≡ let_from p e ∷ []) × CorrespondsRead x e ws

  -- `let mut x = x; let p = x`, where the name in between is bound as the outside binds it
  abbrev pub CorrespondsTwoLets : Named → Option Pointer → PatId → List Statement → Mappings
  CorrespondsTwoLets x from p ss = λ ws. (q : PatId) × (e : ExprId) × (f : ExprId) × (ss ≡ let_from q e ∷ let_from p f ∷ [])
      × (CorrespondsBind Mutable x from q & CorrespondsRead x e & CorrespondsRead x f) ws

  abbrev pub CorrespondsLetAs : HandedIn → Named → Option Pointer → PatId → List Statement → Mappings
  CorrespondsLetAs (by_name n h) x from p ss = CorrespondsLet x p ss
  CorrespondsLetAs (by_its_name n h) x from p ss = CorrespondsTwoLets x from p ss
  CorrespondsLetAs by_generated_name x from p ss = CorrespondsTwoLets x from p ss

  -- Those of these patterns, which are written so, in order, each by one of the names.
  abbrev pub CorrespondsLets : List Named → List PatData → List PatId → List Statement → Mappings
  CorrespondsLets [] [] [] ss = λ ws. (ss ≡ []) × No ws
  CorrespondsLets (x ∷ xs) (y ∷ ys) (p ∷ ps) ss = λ ws. (own : List Statement) × (others : List Statement) × (ss ≡ own ++ others)
      × IsHandedBy (handed_in y) x × (CorrespondsLetAs (handed_in y) x (source_of y) p own & CorrespondsLets xs ys ps others) ws
  CorrespondsLets xs ys ps ss = λ ws. ⊥

  -- what the outside hands them to: a name each, which can be changed
  abbrev pub CorrespondsHanded : List Named → List PatData → List PatId → Mappings
  CorrespondsHanded [] [] is = λ ws. (is ≡ []) × No ws
  CorrespondsHanded (x ∷ xs) (y ∷ ys) is =
      CorrespondsBefore false (λ q. CorrespondsBind Mutable x (source_of y) q) (λ others. CorrespondsHanded xs ys others) is
  CorrespondsHanded xs ys is = λ ws. ⊥

  -- `let self = self`, where there is one: what `self` is from there on, and the `let`
  abbrev pub CorrespondsSelfLet : SelfFormal → Option BindingId → List Statement → Mappings
  CorrespondsSelfLet tree.no_self o ss = λ ws. (o ≡ None) × (ss ≡ []) × No ws
  CorrespondsSelfLet (tree.disabled_self at by) o ss = λ ws. (o ≡ None) × (ss ≡ []) × No ws
  CorrespondsSelfLet (tree.self_formal at u _) o ss = λ ws. (b : BindingId) × (q : PatId) × (e : ExprId) × (o ≡ Some b)
      × (ss ≡ let_from q e ∷ []) × PatFound q (pat.Bind b None) None
      × (slice_get store.bindings b.0 ≡ Some (record { name = u.name; mode = u.mode; hygiene = u.hygiene; problems = None }))
      × (OneBindingMapping b & CorrespondsRead (the_name u.name u.hygiene) e) ws

  -- coroutines

  -- A block with these in front of the body, and around it a closure that takes nothing, and what it uses of the outside by reference.
  pub record IsCoroutine (kind : CoroutineKind) (from : CoroutineSource) (lets : List Statement) (body block coroutine : ExprId)
      : Type 0 where
    pub around : ExprAt store source_map coroutine (hir.Closure [] [] None block (closure.Coroutine kind from) capture.Ref) None
    pub inside : ExprAt store source_map block (hir.Block false None None lets (Some body)) None

  -- The parameters that were written, what it returns, its body, and in front of that the `let`s, all of which the coroutine owns; behind
  -- that what the outside hands arguments to; and then the closure, which has the number behind the coroutine's.
  abbrev pub CorrespondsCoroutineClosure : Pointer → CoroutineKind → CaptureBy → List PatData → (StoredParams → Mappings)
      → (Option TypeRefId → Mappings) → (ExprId → Mappings) → ExprId → Mappings
  CorrespondsCoroutineClosure at kind by ys P T B i = λ ws. (l : StoredParams) × (ret : Option TypeRefId) × (body : ExprId)
      × (xs : List Named) × (lets : List Statement) × (block : ExprId) × (coroutine : ExprId) × (formals : List PatId)
      × ExprAt store source_map i (hir.Closure formals l.1 ret coroutine (closure.CoroutineClosure kind) by) (Some at)
      × (suc coroutine.0 ≡ i.0) × IsCoroutine kind source.Closure lets body block coroutine
      × (OwnedBy coroutine (P l & T ret & B body & CorrespondsLets xs ys l.0 lets & OneUnled block & OneUnled coroutine)
      & CorrespondsHanded xs ys formals & OneMapping at i) ws
