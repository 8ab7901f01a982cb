-- One part more of a list in a tree corresponds, before others that do: an expression, a field, an arm and a statement.
use Rattle.std.proofs.Common.{◌∙◌, refl, ap, List, ◌∷◌, ◌++◌, option_to_list, Bool}
use Rattle.hir_store.specs.Pointers.{Pointer}
use Rattle.hir_store.specs.Stored.{store_of, map_of}
use Rattle.hir_store.specs.declared.hir.MatchArm.{MatchArm}
use Rattle.hir_store.specs.declared.hir.RecordLitField.{RecordLitField}
use Rattle.hir_store.specs.declared.hir.Statement.{Statement}
use Rattle.hir_store.specs.declared.hir.Statement.TheVariants as statement
use Rattle.hir_store.specs.declared.ids.ExprId.{ExprId}
use Rattle.hir_store.specs.declared.name.Name.{Name}
use Rattle.hir_env.specs.ResolvedTree as tree
use Rattle.hir_env.specs.ResolvedTree.{Expr, OptionExpr, Exprs, Fields, OptionBlock, Stmts, OptionType, Arms, Guard, OptionPat}
use Rattle.hir_lower_builder.specs.Lower.{lower_fields, push_some, lower, lower_part, present, kept_part, lower_each, lower_stmts}
use Rattle.hir_lower_builder.specs.Lower.{present_type, lower_arms, lower_guard, present_block, lower_top}
use Rattle.thm_logic.proofs.Frames.{ribs}
use Rattle.thm_body_result.specs.Leads.{OneFieldMapping, ◌&◌}
use Rattle.thm_body_result.specs.Corresponds.{Corresponds, CorrespondsPresent, PresentTypeMappings, CorrespondsGuard}
use Rattle.thm_body_result.specs.Corresponds.{CorrespondsPresentBlock}
use Rattle.thm_body_result.specs.CorrespondsWhole.{CorrespondsTop}
use Rattle.thm_body_result.proofs.Lasting.{Correct, correct_as, correct_bind}
use Rattle.thm_body_result.proofs.Leading.{Shown, shown_as, shown_both}
use Rattle.thm_body_result.proofs.DefStanding.{beside_mappings}
use Rattle.thm_body_result.proofs.PatStanding.{Behind}
use Rattle.thm_logic.proofs.Settled.{push_append}
use Rattle.thm_body_result.proofs.Standing.{field_corresponds, Shows, Leaves, option_type_shown, arm_corresponds, let_stmt_corresponds}
use Rattle.thm_body_result.proofs.TreeParts.{kept_corresponds, expr_stmt_corresponds, part, each, fields, arms, kept_or_none, contents}

pub each_more : (e : Expr) (es : Exprs) → Correct (lower e) (Shows (λ final rs i. Corresponds (store_of final) (map_of final) rs e i))
    → ((done : List ExprId) → Correct (lower_each done es) (Shows (λ final rs is. Behind done (each final rs es) is)))
    → (done : List ExprId)
    → Correct (lower_each done (tree.more_exprs e es)) (Shows (λ final rs is. Behind done (each final rs (tree.more_exprs e es)) is))
each_more e es h hs done =
    correct_as (correct_bind (kept_corresponds e h) (λ x. hs (push_some done x)))
    (λ final ps m m' is g row.
    let r = row.second.shown in
    let others : Shown (each final (ribs ps) es r.shown.0) row.middle.stored m'.stored =
    record { mappings = r.mappings; shown = r.shown.2; moved = r.moved } in
    record {
      shown = shown_as (shown_both row.first.shown others)
          (λ ws y. (option_to_list row.one ++ r.shown.0, r.shown.1 ∙ push_append done row.one r.shown.0, (row.one, r.shown.0, refl, y)));
    })

pub named_field_more : (at : Pointer) (name : Name) (e : OptionExpr) (fs : Fields)
    → Correct (lower_part e) (Shows (λ final rs i. part final rs e i))
    → ((done : List RecordLitField) → Correct (lower_fields done fs) (Shows (λ final rs is. Behind done (fields final rs fs) is)))
    → (done : List RecordLitField)
    → Correct (lower_fields done (tree.more_fields (tree.named_field at name e) fs))
    (Shows (λ final rs is. Behind done (fields final rs (tree.more_fields (tree.named_field at name e) fs)) is))
named_field_more at name e fs h hs done = correct_as
    (correct_bind (field_corresponds at name h) (λ x. hs (push_some done x)))
    (λ final ps m m' is g row.
    let s = row.first.shown in
    let q = row.second.shown in
    let v = s.shown.0 in
    let field : RecordLitField = record { name = name; expr = v } in
    let w = s.shown.2 in
    let others : Shown (fields final (ribs ps) fs q.shown.0) row.middle.stored m'.stored =
    record { mappings = q.mappings; shown = q.shown.2; moved = q.moved } in
    let is' = q.shown.1 ∙ (push_append done row.one q.shown.0 ∙ ap (λ o. done ++ (option_to_list o ++ q.shown.0)) s.shown.1) in
    let own : Shown (part final (ribs ps) e v & OneFieldMapping v at) m.stored row.middle.stored =
    record { mappings = s.mappings; shown = w; moved = s.moved } in
    record { shown = shown_as (shown_both own others) (λ ws y. (field ∷ q.shown.0, is', (v, q.shown.0, refl, y))) })

pub arm_more : (p : OptionPat) (e : OptionExpr) (g : Guard) (as' : Arms)
    → Correct (lower_top p) (Shows (λ final rs i. CorrespondsTop (store_of final) (map_of final) rs p i))
    → Correct (lower_part e) (Shows (λ final rs i. part final rs e i))
    → Correct (lower_guard g) (Shows (λ final rs o. CorrespondsGuard (store_of final) (map_of final) rs g o))
    → ((done : List MatchArm) → Correct (lower_arms done as') (Shows (λ final rs is. Behind done (arms final rs as') is)))
    → (done : List MatchArm)
    → Correct (lower_arms done (tree.more_arms (tree.arm p e g) as'))
    (Shows (λ final rs is. Behind done (arms final rs (tree.more_arms (tree.arm p e g) as')) is))
arm_more p e g as' hp he hg hs done = correct_as
    (correct_bind (arm_corresponds hp he hg) (λ x. hs (push_some done x)))
    (λ final ps m m' is u row. record {
      shown = shown_as (shown_both row.first.shown row.second.shown) (λ ws z.
          let x = z.first in
          let y = z.second in
          let made : MatchArm = record { pat = x.0; guard = x.2; expr = x.1 } in
          let is' = y.1 ∙ (push_append done row.one y.0 ∙ ap (λ o. done ++ (option_to_list o ++ y.0)) x.3) in (
            made ∷ y.0,
            is',
            (
              x.0,
              x.1,
              x.2,
              y.0,
              refl,
              record { left = z.left; right = z.right; is = z.is; first = x.4; second = y.2 },
            ),
          ));
    })

pub expr_stmt_more : (x : OptionExpr) (semi : Bool) (ss : Stmts) (e : OptionExpr)
    → Correct (kept_part x) (Shows (λ final rs o. kept_or_none final rs x o))
    → ((done : List Statement) → Correct (lower_stmts done ss (kept_part e))
    (Shows (λ final rs r. Behind done (λ is. contents final rs ss e is r.1) r.0)))
    → (done : List Statement)
    → Correct (lower_stmts done (tree.more_stmts (tree.expr_stmt x semi) ss) (kept_part e))
    (Shows (λ final rs r. Behind done (λ is. contents final rs (tree.more_stmts (tree.expr_stmt x semi) ss) e is r.1) r.0))
expr_stmt_more x semi ss e h hs done =
    correct_as (correct_bind (expr_stmt_corresponds semi h) (λ y. hs (push_some done y)))
    (λ final ps m m' r g row.
    let s = row.first.shown in
    let q = row.second.shown in
    let v = s.shown.0 in
    let own : Shown (kept_or_none final (ribs ps) x v) m.stored row.middle.stored =
    record { mappings = s.mappings; shown = s.shown.2; moved = s.moved } in
    let others : Shown (contents final (ribs ps) ss e q.shown.0 r.1) row.middle.stored m'.stored =
    record { mappings = q.mappings; shown = q.shown.2; moved = q.moved } in
    record {
      shown = shown_as (shown_both own others) (λ ws y.
          let is = q.shown.1 ∙ push_append done row.one q.shown.0 in
          (option_to_list row.one ++ q.shown.0, is, (v, q.shown.0, ap (λ o. option_to_list o ++ q.shown.0) s.shown.1, y)));
    })

pub let_stmt_more : (p : OptionPat) (t : OptionType) (x : OptionExpr) (b : OptionBlock) (ss : Stmts) (e : OptionExpr)
    → Correct (lower_top p) (Shows (λ final rs i. CorrespondsTop (store_of final) (map_of final) rs p i))
    → Correct (present_type t) (Leaves (λ final rs. PresentTypeMappings (store_of final) (map_of final) rs t))
    → Correct (present x) (Shows (λ final rs o. CorrespondsPresent (store_of final) (map_of final) rs x o))
    → Correct (present_block b) (Shows (λ final rs o. CorrespondsPresentBlock (store_of final) (map_of final) rs b o))
    → ((done : List Statement) → Correct (lower_stmts done ss (kept_part e))
    (Shows (λ final rs r. Behind done (λ is. contents final rs ss e is r.1) r.0)))
    → (done : List Statement)
    → Correct (lower_stmts done (tree.more_stmts (tree.let_stmt p t x b) ss) (kept_part e))
    (Shows (λ final rs r. Behind done (λ is. contents final rs (tree.more_stmts (tree.let_stmt p t x b) ss) e is r.1) r.0))
let_stmt_more p t x b ss e hp ht hx hb hs done = correct_as
    (correct_bind (let_stmt_corresponds hp (option_type_shown t ht) hx hb) (λ y. hs (push_some done y)))
    (λ final ps m m' r g row. record {
      shown = shown_as (shown_both row.first.shown row.second.shown) (λ ws z.
          let x = z.first in
          let y = z.second in
          let made = statement.Let x.0 x.1 x.2 x.3 in
          let is = y.1 ∙ (push_append done row.one y.0 ∙ ap (λ o. done ++ (option_to_list o ++ y.0)) x.4) in
          (made ∷ y.0, is, (x.0, x.1, x.2, x.3, y.0, refl, beside_mappings z x.5 y.2)));
    })
