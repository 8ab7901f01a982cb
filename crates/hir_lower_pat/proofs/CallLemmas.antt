-- A call is what the code makes of it: what is told of it, and then what it stands for.
use Rattle.std.proofs.Common.{true≢false, is_some}
use Rattle.std.proofs.Common.{◌≡◌, ◌∙◌, ap, refl, sym, ℕ, zero, suc, List, Option, Some, None, Ok, Err}
use Rattle.hir_base.specs.declared.node.HirFileId.{HirFileId}
use Rattle.hir_syntax.specs.declared.macros.Fragment.TheVariants as fragment
use Rattle.hir_syntax.specs.declared.macros.MacroCall.{MacroCall as AstMacroCall}
use Rattle.hir_syntax.specs.declared.ast.ElseBranch.TheOpen.{PatKind-F}
use Rattle.hir_syntax.specs.declared.pats.Pat.{Pat as AstPat}
use Rattle.hir_syntax.specs.declared.pats.PatKind.{out-PatKind}
use Rattle.hir_store.specs.Pointers.{Pointer}
use Rattle.hir_store.specs.declared.ids.PatId.{PatId}
use Rattle.hir_env.specs.declared.expand.FragmentKind.TheVariants as kind
use Rattle.hir_env.specs.declared.ctx.LowerCtx.{LowerCtx}
use Rattle.hir_env.specs.Answers.{Answers, Eager, Expanding, unresolved, no_expansion, expanded}
use Rattle.hir_env.specs.ResolvedTree as tree
use Rattle.hir_env.specs.ResolvedTree.{Pat}
use Rattle.hir_env.specs.Calls.{asked_call, call_pointer, called, entered_pat, inside_file, pat_in}
use Rattle.hir_env.specs.Layers.{Entering}
use Rattle.hir_env.specs.ResolveCtx.{ResolveCtx}
use Rattle.hir_env.specs.TypePats.{type_pat_of}
use Rattle.hir_env.specs.Pats.{pat_at}
use Rattle.hir_env.specs.Whole.{resolved_pat, entering, into, pointer_at, read_expr, read_pat, read_stmt, read_type, read_value}
use Rattle.hir_env.specs.Whole.{reader}
use Rattle.hir_env.proofs.PatLevels.{pat_is_level}
use Rattle.hir_lower_builder.specs.Builder.{Builder}
use Rattle.hir_lower_builder.specs.Calls.{Found, enter_left, entered_at, found_in, track, emitted}
use Rattle.hir_lower_builder.specs.Lower.{lower_pat, lower_type_pat}
use Rattle.hir_lower_builder.specs.Lowering.{Checked, Lowering, ◌>>=◌, ◌>>◌, go_on, point_pat, pure}
use Rattle.hir_lower_builder.specs.Pats.{Table, called_pat_form, missing_pat}
use Rattle.hir_lower_pat.specs.Calls.{There, element_there, lower_there, missing_led, pat_there, point_lone, point_named, type_pat_there}
use Rattle.hir_lower_pat.specs.Calls.{written_call}
use Rattle.hir_lower_pat.specs.Methods.{element_steps, point_element}

-- how that is read which calls stand for where one of so many is entered
abbrev pub fresh : Answers → ℕ → Entering
fresh env n = record {
  left = n;
  expr = read_expr env (entering env n);
  value = read_value env (entering env n);
  stmt = read_stmt env (entering env n);
  pat = read_pat env (entering env n);
  type_ = read_type env (entering env n);
}

-- what is told, and then what stands there
pub found_on : {A : Type 0} (o : Checked (Unit {0})) (b : Builder) (x : Found) (F : Found → Lowering A) (q : Lowering A) → F x ≡ q
    → go_on o b (λ _. q) ≡ go_on (go_on o b (λ _. pure x)).0 (go_on o b (λ _. pure x)).1 F
found_on (Ok _) b x F q h = λ i. sym h i b
found_on (Err e) b x F q h = refl

abbrev pub plain : Pointer → PatId → Lowering PatId
plain s i = point_pat s i >> pure i

-- where it stands for no pattern it is missing, and its node leads there: by what is answered with the names, and how that is pointed to
module _ {A : Type 0} (s : Pointer) (G : PatId → A) (P : A → Lowering A)
    (leads : (i : PatId) (b : Builder) → P (G i) b ≡ (point_pat s i >> pure (G i)) b) where
  pointed : (o : Checked (Unit {0})) (b : Builder) (i : PatId)
      → go_on (go_on o b (λ _. pure i)).0 (go_on o b (λ _. pure i)).1 (λ j. pure (G j)) ≡ go_on o b (λ _. pure (G i))
  pointed (Ok _) b i = refl
  pointed (Err e) b i = refl

  led : (o : Checked PatId) (b : Builder)
      → go_on (go_on o b (plain s)).0 (go_on o b (plain s)).1 (λ j. pure (G j))
      ≡ go_on (go_on o b (λ j. pure (G j))).0 (go_on o b (λ j. pure (G j))).1 P
  led (Ok i) b = let q = point_pat s i b in pointed q.0 q.1 i ∙ sym (leads i b)
  led (Err e) b = refl

  abbrev nothing : Lowering A
  nothing = (missing_pat >>= (λ i. pure (G i))) >>= P

  uncalled : (o : Checked (Unit {0})) (b : Builder)
      → go_on (go_on o b (λ _. missing_pat >>= plain s)).0 (go_on o b (λ _. missing_pat >>= plain s)).1 (λ j. pure (G j))
      ≡ go_on o b (λ _. nothing)
  uncalled (Ok _) b = let q = missing_pat b in led q.0 q.1
  uncalled (Err e) b = refl

-- as a pattern

abbrev there : ResolveCtx → Pointer → Table → Found → Lowering (PatId × Table)
there at s t f = lower_there at (pat_there f) t >>= point_named s

abbrev pub with_names : Table → PatId → PatId × Table
with_names t i = (i, t)

pub named : (s : Pointer) (t : Table) (o : Checked (Unit {0})) (b : Builder)
    → go_on (go_on o b (λ _. missing_pat >>= plain s)).0 (go_on o b (λ _. missing_pat >>= plain s)).1 (λ j. pure (with_names t j))
    ≡ go_on o b (λ _. (missing_pat >>= (λ i. pure (with_names t i))) >>= point_named s)
named s t = uncalled s (with_names t) (point_named s) (λ i b. refl)

called_by : (at : ResolveCtx) (s c : Pointer) (t : Table) (n : ℕ) (x : Expanding) (b : Builder)
    → lower_pat (tree.macro_pat s (called c x) (pat_in (fresh at.answers n) at.place x)) t b
    ≡ ((emitted (called c x) >> pure (found_in n at.place x)) >>= there at s t) b
unfolding called_pat_form
called_by at s c t n (unresolved y) b =
    let o = emitted (tree.unresolved c y) b in named s t o.0 o.1 ∙ found_on o.0 o.1 None (there at s t) _ refl
called_by at s c t n no_expansion b = named s t (Ok tt) b ∙ found_on (Ok tt) b None (there at s t) _ refl
called_by at s c t n (expanded f None es) b =
    let o = track (record { call = c; file = f; eager = es }) b in
    named s t o.0 o.1 ∙ found_on o.0 o.1 (Some (inside_file f n at.place, None)) (there at s t) _ refl
called_by at s c t n (expanded f (Some (fragment.Expr e)) es) b =
    let o = track (record { call = c; file = f; eager = es }) b in
    named s t o.0 o.1 ∙ found_on o.0 o.1 (Some (inside_file f n at.place, Some (fragment.Expr e))) (there at s t) _ refl
called_by at s c t n (expanded f (Some (fragment.Stmts e)) es) b =
    let o = track (record { call = c; file = f; eager = es }) b in
    named s t o.0 o.1 ∙ found_on o.0 o.1 (Some (inside_file f n at.place, Some (fragment.Stmts e))) (there at s t) _ refl
called_by at s c t n (expanded f (Some (fragment.Type_ e)) es) b =
    let o = track (record { call = c; file = f; eager = es }) b in
    named s t o.0 o.1 ∙ found_on o.0 o.1 (Some (inside_file f n at.place, Some (fragment.Type_ e))) (there at s t) _ refl
called_by at s c t n (expanded f (Some (fragment.Pat e)) es) b =
    let o = track (record { call = c; file = f; eager = es }) b in
    found_on o.0 o.1 (Some (inside_file f n at.place, Some (fragment.Pat e))) (there at s t) _ refl

pub pat_on : (at : ResolveCtx) (s : Pointer) (c : AstMacroCall) (t : Table) (b : Builder)
    → lower_pat (written_call at s c) t b
    ≡ (entered_at at kind.Pat c >>= (λ f. lower_there at (pat_there f) t >>= point_named s)) b
unfolding called_pat_form
pat_on at s c t b = by at.place.left
  where
    by : (l : ℕ) → lower_pat (entered_pat at.answers (entering at.answers l) c at.place s) t b
        ≡ (enter_left at.answers kind.Pat c l at.place >>= there at s t) b
    by zero = named s t (Ok tt) b
    by (suc n) = called_by at s (call_pointer at.place c) t n (asked_call at.answers kind.Pat c at.place) b

-- as an element

abbrev as_element : ResolveCtx → Pointer → Table → Found → Lowering (Option PatId × Table)
as_element at s t f = element_there at (pat_there f) t >>= point_element s

-- what is told, and then it is one
abbrev pub some_named : Table → PatId → Option PatId × Table
some_named t i = (Some i, t)

abbrev present : PatId × Table → Lowering (Option PatId × Table)
present r = pure (Some r.0, r.1)

some_on : (o : Checked PatId) (b : Builder) (t : Table)
    → go_on (go_on o b (λ i. pure (with_names t i))).0 (go_on o b (λ i. pure (with_names t i))).1 present
    ≡ go_on o b (λ i. pure (some_named t i))
some_on (Ok i) b t = refl
some_on (Err e) b t = refl

some_pointed : (o : Checked (Unit {0})) (b : Builder) (i : PatId) (t : Table)
    → go_on {B = Option PatId × Table} (go_on o b (λ _. pure (Some i))).0 (go_on o b (λ _. pure (Some i))).1 (λ x. pure (x, t))
    ≡ go_on o b (λ _. pure (some_named t i))
some_pointed (Ok _) b i t = refl
some_pointed (Err e) b i t = refl

lone : (s : Pointer) (t : Table) (o : Checked (Unit {0})) (b : Builder)
    → let q = go_on o b (λ _. missing_pat >>= plain s) in
    go_on (go_on q.0 q.1 (λ i. pure (with_names t i))).0 (go_on q.0 q.1 (λ i. pure (with_names t i))).1 present
    ≡ go_on o b (λ _. (missing_pat >>= (λ i. pure (some_named t i))) >>= point_element s)
lone s t o b =
    let q = go_on o b (λ _. missing_pat >>= plain s) in
    some_on q.0 q.1 t ∙ uncalled s (some_named t) (point_element s) (λ i c. let p = point_pat s i c in some_pointed p.0 p.1 i t) o b

-- what stands for no pattern is one, to which the node leads
pub lone_led : (s : Pointer) (t : Table) (b : Builder)
    → ((missing_pat >>= (λ i. pure (some_named t i))) >>= point_element s) b ≡ (missing_led s >>= (λ i. pure (some_named t i))) b
lone_led s t b = sym (uncalled s (some_named t) (point_element s) (λ i c. let p = point_pat s i c in some_pointed p.0 p.1 i t) (Ok tt) b)

element_by : (at : ResolveCtx) (s c : Pointer) (t : Table) (n : ℕ) (x : Expanding) (b : Builder)
    → element_steps (tree.macro_pat s (called c x) (pat_in (fresh at.answers n) at.place x)) t b
    ≡ ((emitted (called c x) >> pure (found_in n at.place x)) >>= as_element at s t) b
unfolding called_pat_form
element_by at s c t n (unresolved y) b =
    let o = emitted (tree.unresolved c y) b in lone s t o.0 o.1 ∙ found_on o.0 o.1 None (as_element at s t) _ refl
element_by at s c t n no_expansion b = lone s t (Ok tt) b ∙ found_on (Ok tt) b None (as_element at s t) _ refl
element_by at s c t n (expanded f None es) b =
    let o = track (record { call = c; file = f; eager = es }) b in
    lone s t o.0 o.1 ∙ found_on o.0 o.1 (Some (inside_file f n at.place, None)) (as_element at s t) _ refl
element_by at s c t n (expanded f (Some (fragment.Expr e)) es) b =
    let o = track (record { call = c; file = f; eager = es }) b in
    lone s t o.0 o.1 ∙ found_on o.0 o.1 (Some (inside_file f n at.place, Some (fragment.Expr e))) (as_element at s t) _ refl
element_by at s c t n (expanded f (Some (fragment.Stmts e)) es) b =
    let o = track (record { call = c; file = f; eager = es }) b in
    lone s t o.0 o.1 ∙ found_on o.0 o.1 (Some (inside_file f n at.place, Some (fragment.Stmts e))) (as_element at s t) _ refl
element_by at s c t n (expanded f (Some (fragment.Type_ e)) es) b =
    let o = track (record { call = c; file = f; eager = es }) b in
    lone s t o.0 o.1 ∙ found_on o.0 o.1 (Some (inside_file f n at.place, Some (fragment.Type_ e))) (as_element at s t) _ refl
element_by at s c t n (expanded f (Some (fragment.Pat e)) es) b =
    let o = track (record { call = c; file = f; eager = es }) b in
    found_on o.0 o.1 (Some (inside_file f n at.place, Some (fragment.Pat e))) (as_element at s t) _ refl

pub element_on : (at : ResolveCtx) (s : Pointer) (c : AstMacroCall) (t : Table) (b : Builder)
    → element_steps (written_call at s c) t b
    ≡ (entered_at at kind.Pat c >>= (λ f. element_there at (pat_there f) t >>= point_element s)) b
unfolding called_pat_form
element_on at s c t b = by at.place.left
  where
    by : (l : ℕ) → element_steps (entered_pat at.answers (entering at.answers l) c at.place s) t b
        ≡ (enter_left at.answers kind.Pat c l at.place >>= as_element at s t) b
    by zero = lone s t (Ok tt) b
    by (suc n) = element_by at s (call_pointer at.place c) t n (asked_call at.answers kind.Pat c at.place) b

-- as the pattern of a type

abbrev in_type : ResolveCtx → Pointer → Found → Lowering PatId
in_type at s f = type_pat_there at (pat_there f) >>= point_lone s

type_by : (at : ResolveCtx) (s c : Pointer) (n : ℕ) (x : Expanding) (b : Builder)
    → lower_type_pat (type_pat_of at.answers.lang_items (tree.macro_pat s (called c x) (pat_in (fresh at.answers n) at.place x))) b
    ≡ ((emitted (called c x) >> pure (found_in n at.place x)) >>= in_type at s) b
unfolding called_pat_form
type_by at s c n (unresolved y) b =
    let o = emitted (tree.unresolved c y) b in found_on o.0 o.1 None (in_type at s) _ refl
type_by at s c n no_expansion b = found_on (Ok tt) b None (in_type at s) _ refl
type_by at s c n (expanded f None es) b =
    let o = track (record { call = c; file = f; eager = es }) b in
    found_on o.0 o.1 (Some (inside_file f n at.place, None)) (in_type at s) _ refl
type_by at s c n (expanded f (Some (fragment.Expr e)) es) b =
    let o = track (record { call = c; file = f; eager = es }) b in
    found_on o.0 o.1 (Some (inside_file f n at.place, Some (fragment.Expr e))) (in_type at s) _ refl
type_by at s c n (expanded f (Some (fragment.Stmts e)) es) b =
    let o = track (record { call = c; file = f; eager = es }) b in
    found_on o.0 o.1 (Some (inside_file f n at.place, Some (fragment.Stmts e))) (in_type at s) _ refl
type_by at s c n (expanded f (Some (fragment.Type_ e)) es) b =
    let o = track (record { call = c; file = f; eager = es }) b in
    found_on o.0 o.1 (Some (inside_file f n at.place, Some (fragment.Type_ e))) (in_type at s) _ refl
type_by at s c n (expanded f (Some (fragment.Pat e)) es) b =
    let o = track (record { call = c; file = f; eager = es }) b in
    found_on o.0 o.1 (Some (inside_file f n at.place, Some (fragment.Pat e))) (in_type at s) _ refl

pub type_pat_on : (at : ResolveCtx) (s : Pointer) (c : AstMacroCall) (b : Builder)
    → lower_type_pat (type_pat_of at.answers.lang_items (written_call at s c)) b
    ≡ (entered_at at kind.Pat c >>= (λ f. type_pat_there at (pat_there f) >>= point_lone s)) b
unfolding called_pat_form
type_pat_on at s c b = by at.place.left
  where
    by : (l : ℕ) → lower_type_pat (type_pat_of at.answers.lang_items (entered_pat at.answers (entering at.answers l) c at.place s)) b
        ≡ (enter_left at.answers kind.Pat c l at.place >>= in_type at s) b
    by zero = refl
    by (suc n) = type_by at s (call_pointer at.place c) n (asked_call at.answers kind.Pat c at.place) b

-- what is found may be handed in, and counts less

abbrev nowhere : There
nowhere = None

abbrev place_or : LowerCtx → There → LowerCtx
place_or q None = q
place_or q (Some x) = x.0

abbrev pat_or : AstPat → There → AstPat
pat_or e None = e
pat_or e (Some x) = x.1

abbrev found_or : Found → Checked Found → Found
found_or f (Ok x) = x
found_or f (Err y) = f

module _ (at : ResolveCtx) (c : AstMacroCall) (Inner : LowerCtx → AstPat → Type 0)
    (nests : (n : ℕ) (f : HirFileId) (e : AstPat) (es : List Eager) → at.place.left ≡ suc n
    → asked_call at.answers kind.Pat c at.place ≡ expanded f (Some (fragment.Pat e)) es → Inner (inside_file f n at.place) e) where
  found_there : (n : ℕ) → at.place.left ≡ suc n → (x : Expanding) → asked_call at.answers kind.Pat c at.place ≡ x
      → (q : LowerCtx) (e : AstPat) → pat_there (found_in n at.place x) ≡ Some (q, e) → Inner q e
  found_there n h (unresolved y) k q e is = absurd (true≢false (sym (ap is_some is)))
  found_there n h no_expansion k q e is = absurd (true≢false (sym (ap is_some is)))
  found_there n h (expanded f None es) k q e is = absurd (true≢false (sym (ap is_some is)))
  found_there n h (expanded f (Some (fragment.Expr x)) es) k q e is = absurd (true≢false (sym (ap is_some is)))
  found_there n h (expanded f (Some (fragment.Stmts x)) es) k q e is = absurd (true≢false (sym (ap is_some is)))
  found_there n h (expanded f (Some (fragment.Type_ x)) es) k q e is = absurd (true≢false (sym (ap is_some is)))
  found_there n h (expanded f (Some (fragment.Pat x)) es) k q e is =
      let place : inside_file f n at.place ≡ q = ap (place_or q) is in
      let same : x ≡ e = ap (pat_or e) is in
      rw (← place) (rw (← same) (nests n f x es h k))

  emitted_there : (n : ℕ) → at.place.left ≡ suc n → (o : Checked (Unit {0})) (b d : Builder) (found : Found)
      → go_on o b (λ _. pure (found_in n at.place (asked_call at.answers kind.Pat c at.place))) ≡ (Ok found, d)
      → (q : LowerCtx) (e : AstPat) → pat_there found ≡ Some (q, e) → Inner q e
  emitted_there n h (Err y) b d found k q e is = let apart : Err y ≡ Ok found = ap (λ z. z.0) k in cc
  emitted_there n h (Ok _) b d found k q e is =
      let same : found_in n at.place (asked_call at.answers kind.Pat c at.place) ≡ found = ap (λ z. found_or found z.0) k in
      found_there n h (asked_call at.answers kind.Pat c at.place) refl q e (ap pat_there same ∙ is)

  pub was_entered : (b d : Builder) (found : Found) → entered_at at kind.Pat c b ≡ (Ok found, d)
      → (q : LowerCtx) (e : AstPat) → pat_there found ≡ Some (q, e) → Inner q e
  was_entered b d found k q e is = by at.place.left refl k
    where
      by : (l : ℕ) → at.place.left ≡ l → enter_left at.answers kind.Pat c l at.place b ≡ (Ok found, d) → Inner q e
      by zero h m =
          let apart : nowhere ≡ Some (q, e) = ap (λ z. pat_there (found_or found z.0)) m ∙ is in
          absurd (true≢false (sym (ap is_some apart)))
      by (suc n) h m =
          let t = emitted (called (call_pointer at.place c) (asked_call at.answers kind.Pat c at.place)) b in
          emitted_there n h t.0 t.1 d found m q e is

-- by their kinds

pub call_is : (at : ResolveCtx) (p : AstPat) (c : AstMacroCall) → out-PatKind p.kind ≡ PatKind-F.MacroPat (Some c)
    → resolved_pat at p ≡ written_call at (pointer_at at p.id p.range) c
call_is at p c h = pat_is_level at p
    ∙ ap (λ k. pat_at at.answers (reader at.answers (into at)) k at.place (pointer_at at p.id p.range)) h

pub lacking_is : (at : ResolveCtx) (p : AstPat) → out-PatKind p.kind ≡ PatKind-F.MacroPat None
    → resolved_pat at p ≡ tree.macro_pat (pointer_at at p.id p.range) tree.callless tree.no_pat
lacking_is at p h = pat_is_level at p
    ∙ ap (λ k. pat_at at.answers (reader at.answers (into at)) k at.place (pointer_at at p.id p.range)) h

pub rest_is : (at : ResolveCtx) (p : AstPat) → out-PatKind p.kind ≡ PatKind-F.RestPat
    → resolved_pat at p ≡ tree.leaf_pat (pointer_at at p.id p.range) tree.rest_leaf
rest_is at p h = pat_is_level at p
    ∙ ap (λ k. pat_at at.answers (reader at.answers (into at)) k at.place (pointer_at at p.id p.range)) h
