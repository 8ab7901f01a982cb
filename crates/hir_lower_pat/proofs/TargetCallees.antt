-- Callees: a macro call is what the code makes of it, and what is no call is a path as it stands or none.
use Rattle.std.proofs.Common.{◌≡◌, ◌∙◌, ap, refl, sym, ℕ, zero, suc, ◌≤◌, arith, List, Option, Some, None, Ok}
use Rattle.std.specs.Prelude.{Result, option_map}
use Rattle.hir_base.specs.declared.node.HirFileId.{HirFileId}
use Rattle.hir_syntax.specs.declared.ast.ElseBranch.TheOpen.{ExprKind-F}
use Rattle.hir_syntax.specs.declared.ast.Expr.{Expr as AstExpr}
use Rattle.hir_syntax.specs.declared.ast.ExprKind.{out-ExprKind, roll-ExprKind, roll-out-ExprKind}
use Rattle.hir_syntax.specs.declared.ast.ExprKind.TheVariants as ast_kind
use Rattle.hir_syntax.specs.declared.ast.Path.{Path as AstPath}
use Rattle.hir_syntax.specs.declared.macros.Fragment.TheVariants as fragment
use Rattle.hir_syntax.specs.declared.macros.MacroCall.{MacroCall as AstMacroCall}
use Rattle.hir_store.specs.Pointers.{Pointer}
use Rattle.hir_store.specs.declared.ids.CfgId.{CfgId}
use Rattle.hir_store.specs.declared.path.Path.{Path as HirPath}
use Rattle.hir_env.specs.Answers.{Eager, Expanding, unresolved, no_expansion, expanded}
use Rattle.hir_env.specs.ResolvedTree as tree
use Rattle.hir_env.specs.ResolvedTree.{Called, Entered, Expr, Gone, OptionExpr, OptionPath}
use Rattle.hir_env.specs.Answering.{asked}
use Rattle.hir_env.specs.Calls.{around, around_if, asked_call, call_pointer, called, entered_expr, expr_in, gone_in, inside_file}
use Rattle.hir_env.specs.Calls.{lacking_call}
use Rattle.hir_env.specs.Count.{count_expr, count_option_expr}
use Rattle.hir_env.specs.Layers.{ExprKindLayer}
use Rattle.hir_env.specs.ResolveCtx.{ResolveCtx, site_of}
use Rattle.hir_env.specs.Targets.{callee_path}
use Rattle.hir_env.specs.Whole.{resolved_expr, entering, into, path_part, pointer_at, written}
use Rattle.hir_env.specs.declared.expand.FragmentKind.TheVariants as kind
use Rattle.hir_env.specs.declared.ctx.LowerCtx.{LowerCtx}
use Rattle.hir_lower_builder.specs.Builder.{Builder}
use Rattle.hir_lower_builder.specs.Calls.{Found, enter_left, found_in, track, emitted}
use Rattle.hir_lower_builder.specs.Families.{IsNoCall}
use Rattle.hir_lower_builder.specs.Inside.{inside_call}
use Rattle.hir_lower_builder.specs.Lower.{lower_path}
use Rattle.hir_lower_builder.specs.Lowering.{Checked, Lowering, ◌>>=◌, ◌>>◌, go_on, pure}
use Rattle.hir_lower_builder.specs.Methods.{at_place}
use Rattle.hir_lower_pat.specs.Assignees.{track_calls}
use Rattle.hir_lower_pat.specs.Calls.{expr_there, written_expr}
use Rattle.hir_lower_pat.specs.TargetLists.{behind_left, callee_call, callee_read, callee_steps, callee_there, expr_behind, path_there}
use Rattle.hir_lower_builder.proofs.Inside.{call_more, expr_inside}
use Rattle.hir_lower_pat.proofs.AssigneeLemmas.{kept_below, no_call_left}
use Rattle.hir_lower_pat.proofs.CallLemmas.{found_on, fresh}
use Rattle.hir_lower_pat.proofs.OfKinds.{through_asked}
use Rattle.hir_lower_pat.proofs.TargetCalls.{expr_call_is, found_there}
use Rattle.hir_lower_pat.proofs.TargetElements.{callee_is, leveled, no_emitted, path_of_callee, then_on}

-- what is so of a callee is so of it whatever disables it

module _ {A : Type 0} (f : Expr → A) (gone : (why : Gone) (e : Expr) → f (tree.disabled_expr why e) ≡ f e) where
  through_if : (o : Option Gone) (s : Pointer) (c : Called) (x : OptionExpr) → f (around_if o s c x) ≡ f (tree.macro_expr s c x)
  through_if None s c x = refl
  through_if (Some why) s c x = gone _ _

  through_around : (s : Pointer) (c : Called) (x : OptionExpr) → f (around s c x) ≡ f (tree.macro_expr s c x)
  through_around s c tree.no_expr = refl
  through_around s c (tree.some_expr e) = through_if (gone_in e) s c (tree.some_expr e)

-- whether it is a path

path_by : (at : ResolveCtx) (s c : Pointer) (n : ℕ) (x : Expanding)
    → callee_path (around s (called c x) (expr_in (fresh at.answers n) at.place x)) ≡ path_there at (expr_there (found_in n at.place x))
path_by at s c n (unresolved y) = refl
path_by at s c n no_expansion = refl
path_by at s c n (expanded f None es) = refl
path_by at s c n (expanded f (Some (fragment.Expr e)) es) =
    let entered : Entered = record { call = c; file = f; eager = es } in
    through_around callee_path (λ why x. refl) s (tree.entered entered)
    (tree.some_expr (resolved_expr (at_place at (inside_file f n at.place)) e))
path_by at s c n (expanded f (Some (fragment.Stmts e)) es) = refl
path_by at s c n (expanded f (Some (fragment.Pat e)) es) = refl
path_by at s c n (expanded f (Some (fragment.Type_ e)) es) = refl

path_on : (at : ResolveCtx) (s : Pointer) (c : AstMacroCall) → callee_path (written_expr at s c) ≡ path_there at (expr_behind at c)
path_on at s c = by at.place.left
  where
    by : (l : ℕ) → callee_path (entered_expr at.answers (entering at.answers l) c at.place s)
        ≡ path_there at (expr_there (behind_left at.answers c l at.place))
    by zero = refl
    by (suc n) = path_by at s (call_pointer at.place c) n (asked_call at.answers kind.Expr c at.place)

-- what its steps are

module _ (at : ResolveCtx) (s : Pointer) where
  abbrev there : Found → Lowering (Option HirPath)
  there f = callee_there at (expr_there f)

  none_read : (o : Checked (Unit {0})) (b : Builder) (x : Found) → there x ≡ pure None
      → go_on o b (λ _. callee_read None) ≡ go_on (go_on o b (λ _. pure x)).0 (go_on o b (λ _. pure x)).1 there
  none_read o b x is = found_on o b x there (pure None) is

  callee_by : (c : Pointer) (n : ℕ) (x : Expanding) (b : Builder)
      → callee_steps (around s (called c x) (expr_in (fresh at.answers n) at.place x)) b
      ≡ ((emitted (called c x) >> pure (found_in n at.place x)) >>= there) b
  callee_by c n (unresolved y) b = let o = emitted (tree.unresolved c y) b in none_read o.0 o.1 None refl
  callee_by c n no_expansion b = none_read (Ok tt) b None refl
  callee_by c n (expanded f None es) b =
      let o = track (record { call = c; file = f; eager = es }) b in none_read o.0 o.1 (Some (inside_file f n at.place, None)) refl
  callee_by c n (expanded f (Some (fragment.Expr e)) es) b =
      let entered : Entered = record { call = c; file = f; eager = es } in
      let o = track entered b in
      let place = inside_file f n at.place in
      let inner = resolved_expr (at_place at place) e in
      ap (λ m. m b) (through_around callee_steps (λ why x. refl) s (tree.entered entered) (tree.some_expr inner))
      ∙ (then_on o.0 o.1 (track_calls inner) (λ _. callee_read (callee_path inner))
      ∙ found_on o.0 o.1 (Some (place, Some (fragment.Expr e))) there (callee_steps inner) refl)
  callee_by c n (expanded f (Some (fragment.Stmts e)) es) b =
      let o = track (record { call = c; file = f; eager = es }) b in
      none_read o.0 o.1 (Some (inside_file f n at.place, Some (fragment.Stmts e))) refl
  callee_by c n (expanded f (Some (fragment.Pat e)) es) b =
      let o = track (record { call = c; file = f; eager = es }) b in
      none_read o.0 o.1 (Some (inside_file f n at.place, Some (fragment.Pat e))) refl
  callee_by c n (expanded f (Some (fragment.Type_ e)) es) b =
      let o = track (record { call = c; file = f; eager = es }) b in
      none_read o.0 o.1 (Some (inside_file f n at.place, Some (fragment.Type_ e))) refl

  callee_on : (c : AstMacroCall) (b : Builder) → callee_steps (written_expr at s c) b ≡ callee_call at c b
  callee_on c b = by at.place.left
    where
      by : (l : ℕ) → callee_steps (entered_expr at.answers (entering at.answers l) c at.place s) b
          ≡ (enter_left at.answers kind.Expr c l at.place >>= there) b
      by zero = refl
      by (suc n) = callee_by (call_pointer at.place c) n (asked_call at.answers kind.Expr c at.place) b

-- by their kinds

module _ (at : ResolveCtx) (e : AstExpr) where
  abbrev node : Pointer
  node = pointer_at at e.id e.range

  abbrev condition : Result (Unit {0}) CfgId
  condition = at.answers.cfg (site_of node)

  pub call_path : (c : AstMacroCall) → out-ExprKind e.kind ≡ ExprKind-F.MacroExpr (Some c)
      → callee_path (resolved_expr at e) ≡ path_there at (expr_behind at c)
  call_path c h =
      ap callee_path (leveled at None e _ h)
      ∙ (through_asked callee_path (λ why x. refl) node condition (written_expr at node c) ∙ path_on at node c)

  pub call_callee : (c : AstMacroCall) (b : Builder) → out-ExprKind e.kind ≡ ExprKind-F.MacroExpr (Some c)
      → callee_steps (resolved_expr at e) b ≡ callee_call at c b
  call_callee c b h =
      ap (λ x. callee_steps x b) (leveled at None e _ h)
      ∙ (ap (λ m. m b) (through_asked callee_steps (λ why x. refl) node condition (written_expr at node c)) ∙ callee_on at node c b)

  pub lacking_path : out-ExprKind e.kind ≡ ExprKind-F.MacroExpr None → callee_path (resolved_expr at e) ≡ None
  lacking_path h = ap callee_path (leveled at None e _ h) ∙ through_asked callee_path (λ why x. refl) node condition (lacking_call node)

  pub lacking_callee : (b : Builder) → out-ExprKind e.kind ≡ ExprKind-F.MacroExpr None → callee_steps (resolved_expr at e) b ≡ (Ok None, b)
  lacking_callee b h =
      ap (λ x. callee_steps x b) (leveled at None e _ h)
      ∙ ap (λ m. m b) (through_asked callee_steps (λ why x. refl) node condition (lacking_call node))

  uncalled_steps : IsNoCall (out-ExprKind e.kind) → (p : Option OptionPath) (b : Builder) → callee_path (resolved_expr at e) ≡ p
      → callee_steps (resolved_expr at e) b ≡ callee_read p b
  uncalled_steps alone p b is =
      ap (λ m. (m >> callee_read (callee_path (resolved_expr at e))) b) (no_emitted at e alone) ∙ ap (λ q. callee_read q b) is

  no_call : (x : Option AstPath) → out-ExprKind e.kind ≡ ExprKind-F.PathExpr x → IsNoCall (out-ExprKind e.kind)
  no_call x h = rw h tt

  pub path_path : (x : Option AstPath) → out-ExprKind e.kind ≡ ExprKind-F.PathExpr x
      → callee_path (resolved_expr at e) ≡ Some (path_part at x)
  path_path x h = callee_is at e (no_call x h) ∙ ap (λ k. option_map (path_part at) (path_of_callee k)) h

  pub path_callee : (x : Option AstPath) (b : Builder) → out-ExprKind e.kind ≡ ExprKind-F.PathExpr x
      → callee_steps (resolved_expr at e) b ≡ lower_path (path_part at x) b
  path_callee x b h = uncalled_steps (no_call x h) (Some (path_part at x)) b (path_path x h)

  made : (l : ExprKindLayer written) → out-ExprKind e.kind ≡ l → e.kind ≡ roll-ExprKind l
  made l h = sym (roll-out-ExprKind e.kind) ∙ ap roll-ExprKind h

  -- what is neither a path nor a call
  module _ (no_path : (x : Option AstPath) → e.kind ≡ ast_kind.PathExpr x → ⊥)
      (no_macro : (c : Option AstMacroCall) → e.kind ≡ ast_kind.MacroExpr c → ⊥) where
    is_no_path : path_of_callee (out-ExprKind e.kind) ≡ None
    is_no_path = by (out-ExprKind e.kind) refl
      where
        by : (l : ExprKindLayer written) → out-ExprKind e.kind ≡ l → path_of_callee l ≡ None
        by (ExprKind-F.PathExpr x) h = absurd (no_path x (made _ h ∙ ast_kind.rolls-PathExpr x))
        by _ h = refl

    pub other_path : callee_path (resolved_expr at e) ≡ None
    other_path = callee_is at e (no_call_left e.kind no_macro) ∙ ap (option_map (path_part at)) is_no_path

    pub other_callee : (b : Builder) → callee_steps (resolved_expr at e) b ≡ (Ok None, b)
    other_callee b = uncalled_steps (no_call_left e.kind no_macro) None b other_path

-- what a call stands for, of which nothing is told, may be handed in
module _ (at : ResolveCtx) (c : AstMacroCall) (Inner : LowerCtx → AstExpr → Type 0)
    (nests : (n : ℕ) (f : HirFileId) (e : AstExpr) (es : List Eager) → at.place.left ≡ suc n
    → asked_call at.answers kind.Expr c at.place ≡ expanded f (Some (fragment.Expr e)) es → Inner (inside_file f n at.place) e) where
  pub is_behind : (q : LowerCtx) (e : AstExpr) → expr_behind at c ≡ Some (q, e) → Inner q e
  is_behind q e is = by at.place.left refl is
    where
      by : (l : ℕ) → at.place.left ≡ l → expr_there (behind_left at.answers c l at.place) ≡ Some (q, e) → Inner q e
      by zero h k = cc
      by (suc n) h k = found_there at c Inner nests n h (asked_call at.answers kind.Expr c at.place) refl q e k

-- how much they count

module _ (at : ResolveCtx) (c : AstMacroCall) where
  abbrev pub size_inside : ℕ
  size_inside = count_option_expr (inside_call at.answers (into at) at.place c)

  pub inside_size : (n : ℕ) (f : HirFileId) (e : AstExpr) (es : List Eager) → at.place.left ≡ suc n
      → asked_call at.answers kind.Expr c at.place ≡ expanded f (Some (fragment.Expr e)) es
      → count_expr (resolved_expr (at_place at (inside_file f n at.place)) e) ≤ size_inside
  inside_size n f e es left asked = let h = ap count_option_expr (expr_inside at c n f left e es asked) in omega (arith, h)

  pub call_size : (e : AstExpr) → out-ExprKind e.kind ≡ ExprKind-F.MacroExpr (Some c) → suc size_inside ≤ count_expr (resolved_expr at e)
  call_size e h =
      let more = call_more at.answers (into at) at.place c (pointer_at at e.id e.range) in
      let kept = kept_below at e in
      let same = ap count_expr (expr_call_is at e c h) in
      omega (arith, more, kept, same)
