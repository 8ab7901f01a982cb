-- What one of a kind is at its node.
use Rattle.std.proofs.Common.{◌≡◌, ◌∙◌, ap, refl, subst, sym, Ok, Err}
use Rattle.hir_syntax.specs.declared.ast.Expr.{Expr as AstExpr}
use Rattle.hir_syntax.specs.declared.ast.ExprKind.{out-ExprKind}
use Rattle.hir_syntax.specs.declared.pats.Pat.{Pat as AstPat}
use Rattle.hir_syntax.specs.declared.pats.PatKind.{out-PatKind}
use Rattle.hir_store.specs.Pointers.{Pointer}
use Rattle.hir_store.specs.Range.{HasPat}
use Rattle.hir_store.specs.declared.error.StoreError.{StoreError}
use Rattle.hir_store.specs.declared.ids.PatId.{PatId}
use Rattle.hir_env.specs.ResolveCtx.{ResolveCtx}
use Rattle.hir_env.specs.ResolvedTree.{Pat, Target}
use Rattle.hir_env.specs.Layers.{ExprKindLayer}
use Rattle.hir_env.specs.PatLayers.{PatKindLayer}
use Rattle.hir_env.specs.Pats.{pat_at}
use Rattle.hir_env.specs.Whole.{resolved_expr, into, kept_expr, pat_level, pointer_at, reader, written}
use Rattle.hir_lower_builder.specs.Builder.{Builder}
use Rattle.hir_lower_builder.specs.Lower.{lower_target}
use Rattle.hir_lower_builder.specs.Lowering.{Checked, Lowering, Lowers, go_on, pure}
use Rattle.hir_lower_builder.specs.Methods.{LowersTarget}
use Rattle.hir_lower_builder.specs.Pats.{alone}
use Rattle.hir_lower_pat.specs.Assignees.{HasAssignee, target_assignee}
use Rattle.hir_lower_pat.specs.Bindings.{HasNames, LowersNamed, table_of}
use Rattle.hir_lower_pat.specs.Methods.{LowersPat}
use Rattle.hir_lower_pat.specs.declared.assignees.Assignee.TheVariants as assignee
use Rattle.hir_lower_pat.specs.declared.bindings.Bindings.{Bindings}
use Rattle.hir_lower_pat.proofs.AssigneeLemmas.{level as expr_level}
use Rattle.hir_lower_pat.proofs.NameLemmas.{names_grow}

-- expressions that are assigned to

pub kept_as : (at : ResolveCtx) (e : AstExpr) (k : ExprKindLayer written) (s : Pointer) → s ≡ pointer_at at e.id e.range
    → resolved_expr at e ≡ kept_expr at e → out-ExprKind e.kind ≡ k → resolved_expr at e ≡ expr_level at k s
kept_as at e k s here is h =
    is ∙ (ap (λ l. expr_level at l (pointer_at at e.id e.range)) h ∙ ap (expr_level at k) (sym here))

-- a pattern of its own
pub patterned_lowers : (t : Target) (old : Builder) (i : PatId) (new : Builder) → LowersTarget t old (Ok i) new
    → Lowers HasAssignee (target_assignee t) old (Ok (assignee.Pat i)) new
patterned_lowers t old i new h = (ap (λ r. go_on r.0 r.1 (λ j. pure (assignee.Pat j))) h.0, h.1, h.2)

pub patterned_refused : (t : Target) (old : Builder) (e : StoreError) (new : Builder) → lower_target t old ≡ (Err e, new)
    → target_assignee t old ≡ (Err e, new)
patterned_refused t old e new h = ap (λ r. go_on r.0 r.1 (λ j. pure (assignee.Pat j))) h

-- patterns

abbrev level : ResolveCtx → PatKindLayer written → Pointer → Pat
level at k s = pat_at at.answers (reader at.answers (into at)) k at.place s

pub pat_as : (at : ResolveCtx) (p : AstPat) (k : PatKindLayer written) (s : Pointer) (was is : Bindings) (old : Builder) (r : Checked PatId)
    (new : Builder) → s ≡ pointer_at at p.id p.range → out-PatKind p.kind ≡ k → LowersPat (level at k s) was old r is new
    → LowersPat (pat_level at p) was old r is new
pat_as at p k s was is old r new here h =
    let same : level at k s ≡ pat_level at p =
    ap (level at k) here ∙ ap (λ l. level at l (pointer_at at p.id p.range)) (sym h) in
    subst (λ q. LowersPat q was old r is new) same

-- names

-- steps that know of no name leave the names as they are
pub alone_lowers : (p : Lowering PatId) (b : Bindings) (old : Builder) (r : Checked PatId) (new : Builder) → HasNames old.stored b
    → Lowers HasPat p old r new → LowersNamed HasPat (alone p) b old r b new
alone_lowers p b old (Ok i) new names h =
    let named = ap (λ q. go_on q.0 q.1 (λ j. pure (j, table_of b))) h.0 in
    (named, h.1, h.2, names_grow old.stored new.stored b h.1 names, refl)
alone_lowers p b old (Err e) new names h = λ other.
    let k = h other in (ap (λ q. go_on q.0 q.1 (λ j. pure (j, table_of b))) k.0, k.1)
