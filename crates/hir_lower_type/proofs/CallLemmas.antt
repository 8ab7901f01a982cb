-- A call is what the code makes of it: what is told of it, and then what it stands for.
use Rattle.std.proofs.Common.{◌≡◌, ◌∙◌, ap, refl, sym, ℕ, zero, suc, List, Option, Some, None, Ok, Err}
use Rattle.hir_base.specs.declared.node.HirFileId.{HirFileId}
use Rattle.hir_syntax.specs.declared.macros.Fragment.TheVariants as fragment
use Rattle.hir_syntax.specs.declared.macros.MacroCall.{MacroCall as AstMacroCall}
use Rattle.hir_syntax.specs.declared.types.Type_.{Type_ as AstType_}
use Rattle.hir_store.specs.Pointers.{Pointer}
use Rattle.hir_env.specs.declared.expand.FragmentKind.TheVariants as kind
use Rattle.hir_env.specs.declared.ctx.LowerCtx.{LowerCtx}
use Rattle.hir_env.specs.Answers.{Answers, Eager, Expanding, unresolved, no_expansion, expanded}
use Rattle.hir_env.specs.ResolvedTree as tree
use Rattle.hir_env.specs.ResolvedTree.{Binder}
use Rattle.hir_env.specs.Calls.{asked_call, call_pointer, called, entered_type, inside_file, type_in}
use Rattle.hir_env.specs.Layers.{Entering}
use Rattle.hir_env.specs.ResolveCtx.{ResolveCtx}
use Rattle.hir_env.specs.Whole.{entering, read_expr, read_pat, read_stmt, read_type, read_value}
use Rattle.hir_lower_builder.specs.Builder.{Builder}
use Rattle.hir_lower_builder.specs.Calls.{Found, enter_left, entered_at, found_in, track, emitted}
use Rattle.hir_lower_builder.specs.Lower.{lower_type}
use Rattle.hir_lower_builder.specs.Lowering.{Checked, ◌>>=◌, ◌>>◌, go_on, pure}
use Rattle.hir_lower_builder.specs.Types.{TypeSteps, called_type_form}
use Rattle.hir_lower_type.specs.Calls.{There, lower_there, point_at, type_there, written_call}

-- what is told, and then what stands there
found_on : (o : Checked (Unit {0})) (b : Builder) (x : Found) (F : Found → TypeSteps) (q : TypeSteps) → F x ≡ q
    → go_on o b (λ _. q) ≡ go_on (go_on o b (λ _. pure x)).0 (go_on o b (λ _. pure x)).1 F
found_on (Ok _) b x F q h = λ i. sym h i b
found_on (Err e) b x F q h = refl

-- how that is read which calls stand for where one of so many is entered
abbrev fresh : Answers → ℕ → Entering
fresh env n = record {
  left = n;
  expr = read_expr env (entering env n);
  value = read_value env (entering env n);
  stmt = read_stmt env (entering env n);
  pat = read_pat env (entering env n);
  type_ = read_type env (entering env n);
}

abbrev there : ResolveCtx → Pointer → Option Binder → Found → TypeSteps
there at s binder f = lower_there at binder (type_there f) >>= point_at s

called_by : (at : ResolveCtx) (s c : Pointer) (binder : Option Binder) (n : ℕ) (x : Expanding) (b : Builder)
    → lower_type binder (tree.macro_type s (called c x) (type_in (fresh at.answers n) at.place x)) b
    ≡ ((emitted (called c x) >> pure (found_in n at.place x)) >>= there at s binder) b
unfolding called_type_form
called_by at s c binder n (unresolved y) b =
    let t = emitted (tree.unresolved c y) b in found_on t.0 t.1 None (there at s binder) _ refl
called_by at s c binder n no_expansion b = found_on (Ok tt) b None (there at s binder) _ refl
called_by at s c binder n (expanded f None es) b =
    let t = track (record { call = c; file = f; eager = es }) b in
    found_on t.0 t.1 (Some (inside_file f n at.place, None)) (there at s binder) _ refl
called_by at s c binder n (expanded f (Some (fragment.Expr e)) es) b =
    let t = track (record { call = c; file = f; eager = es }) b in
    found_on t.0 t.1 (Some (inside_file f n at.place, Some (fragment.Expr e))) (there at s binder) _ refl
called_by at s c binder n (expanded f (Some (fragment.Stmts e)) es) b =
    let t = track (record { call = c; file = f; eager = es }) b in
    found_on t.0 t.1 (Some (inside_file f n at.place, Some (fragment.Stmts e))) (there at s binder) _ refl
called_by at s c binder n (expanded f (Some (fragment.Pat e)) es) b =
    let t = track (record { call = c; file = f; eager = es }) b in
    found_on t.0 t.1 (Some (inside_file f n at.place, Some (fragment.Pat e))) (there at s binder) _ refl
called_by at s c binder n (expanded f (Some (fragment.Type_ e)) es) b =
    let t = track (record { call = c; file = f; eager = es }) b in
    found_on t.0 t.1 (Some (inside_file f n at.place, Some (fragment.Type_ e))) (there at s binder) _ refl

pub call_on : (at : ResolveCtx) (s : Pointer) (binder : Option Binder) (c : AstMacroCall) (b : Builder)
    → lower_type binder (written_call at s c) b
    ≡ (entered_at at kind.Type_ c >>= (λ f. lower_there at binder (type_there f) >>= point_at s)) b
unfolding called_type_form
call_on at s binder c b = by at.place.left
  where
    by : (l : ℕ) → lower_type binder (entered_type at.answers (entering at.answers l) c at.place s) b
        ≡ (enter_left at.answers kind.Type_ c l at.place >>= there at s binder) b
    by zero = refl
    by (suc n) = called_by at s (call_pointer at.place c) binder n (asked_call at.answers kind.Type_ c at.place) b

-- what is found may be handed in

abbrev nowhere : There
nowhere = None

abbrev place_or : LowerCtx → There → LowerCtx
place_or q None = q
place_or q (Some x) = x.0

abbrev type_or : AstType_ → There → AstType_
type_or e None = e
type_or e (Some x) = x.1

abbrev found_or : Found → Checked Found → Found
found_or f (Ok x) = x
found_or f (Err y) = f

module _ (at : ResolveCtx) (c : AstMacroCall) (Inner : LowerCtx → AstType_ → Type 0)
    (nests : (n : ℕ) (f : HirFileId) (e : AstType_) (es : List Eager) → at.place.left ≡ suc n
    → asked_call at.answers kind.Type_ c at.place ≡ expanded f (Some (fragment.Type_ e)) es → Inner (inside_file f n at.place) e) where
  found_there : (n : ℕ) → at.place.left ≡ suc n → (x : Expanding) → asked_call at.answers kind.Type_ c at.place ≡ x
      → (q : LowerCtx) (e : AstType_) → type_there (found_in n at.place x) ≡ Some (q, e) → Inner q e
  found_there n h (unresolved y) k q e is = cc
  found_there n h no_expansion k q e is = cc
  found_there n h (expanded f None es) k q e is = cc
  found_there n h (expanded f (Some (fragment.Expr x)) es) k q e is = cc
  found_there n h (expanded f (Some (fragment.Stmts x)) es) k q e is = cc
  found_there n h (expanded f (Some (fragment.Pat x)) es) k q e is = cc
  found_there n h (expanded f (Some (fragment.Type_ x)) es) k q e is =
      let place : inside_file f n at.place ≡ q = ap (place_or q) is in
      let same : x ≡ e = ap (type_or e) is in
      rw (← place) (rw (← same) (nests n f x es h k))

  emitted_there : (n : ℕ) → at.place.left ≡ suc n → (o : Checked (Unit {0})) (b d : Builder) (found : Found)
      → go_on o b (λ _. pure (found_in n at.place (asked_call at.answers kind.Type_ c at.place))) ≡ (Ok found, d)
      → (q : LowerCtx) (e : AstType_) → type_there found ≡ Some (q, e) → Inner q e
  emitted_there n h (Err y) b d found k q e is = let apart : Err y ≡ Ok found = ap (λ z. z.0) k in cc
  emitted_there n h (Ok _) b d found k q e is =
      let same : found_in n at.place (asked_call at.answers kind.Type_ c at.place) ≡ found = ap (λ z. found_or found z.0) k in
      found_there n h (asked_call at.answers kind.Type_ c at.place) refl q e (ap type_there same ∙ is)

  pub was_entered : (b d : Builder) (found : Found) → entered_at at kind.Type_ c b ≡ (Ok found, d)
      → (q : LowerCtx) (e : AstType_) → type_there found ≡ Some (q, e) → Inner q e
  was_entered b d found k q e is = by at.place.left refl k
    where
      by : (l : ℕ) → at.place.left ≡ l → enter_left at.answers kind.Type_ c l at.place b ≡ (Ok found, d) → Inner q e
      by zero h m =
          let apart : nowhere ≡ Some (q, e) = ap (λ z. type_there (found_or found z.0)) m ∙ is in cc
      by (suc n) h m =
          let t = emitted (called (call_pointer at.place c) (asked_call at.answers kind.Type_ c at.place)) b in
          emitted_there n h t.0 t.1 d found m q e is
