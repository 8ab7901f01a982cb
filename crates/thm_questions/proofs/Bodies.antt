-- Parameters and body of an item are framed by what is asked of the item, of them and of how many calls may be entered.
use Rattle.std.proofs.Common.{◌≡◌, ◌∙◌, refl, if◌then◌else◌, Bool, true, false, List, [], ◌∷◌, Option, Some, None, is_some, codes}
use Rattle.hir_base.specs.declared.node.HirFileId.{HirFileId}
use Rattle.hir_base.specs.declared.node.NodeId.{NodeId}
use Rattle.hir_syntax.specs.declared.ast.Expr.{Expr as AstExpr}
use Rattle.hir_syntax.specs.declared.params.ParamList.{ParamList as AstParamList}
use Rattle.hir_syntax.specs.declared.params.SelfParam.{SelfParam as AstSelfParam}
use Rattle.hir_syntax.specs.declared.pats.Pat.{Pat as AstPat}
use Rattle.hir_syntax.specs.declared.types.Param.{Param as AstParam, out-Param}
use Rattle.hir_store.specs.declared.ids.DefWithBodyId.{DefWithBodyId}
use Rattle.hir_store.specs.declared.ids.ModuleId.{ModuleId}
use Rattle.hir_store.specs.declared.name.Name.TheVariants as name
use Rattle.hir_env.specs.ResolvedTree as tree
use Rattle.hir_env.specs.Answers.{Answers}
use Rattle.hir_env.specs.Formals as of
use Rattle.hir_env.specs.Whole.{expr_part, pat_part, pointer_at}
use Rattle.hir_env.specs.declared.ctx.LowerCtx.{LowerCtx}
use Rattle.thm_frame.specs.Theorems.{body_at, with_limit, rctx}
use Rattle.thm_frame.specs.Questions.{AllAlike, Question}
use Rattle.thm_questions.specs.Lists as list
use Rattle.thm_questions.specs.Areas.{AgreesAtNodes, AllInNodes, AllThere, Holds, NodeArea, elsewhere, is_placed}
use Rattle.thm_questions.specs.Nodes as node
use Rattle.thm_questions.specs.Parts.{of_each, of_option}
use Rattle.thm_questions.proofs.Asks.{cfg_asked, name_by}
use Rattle.thm_questions.proofs.Framing.{At, ByList, all_in, first_alike, one, rest_alike, still, two}
use Rattle.thm_questions.proofs.Tree.{below, of_expr, of_pat}

-- all nodes and all modules, which are closed
pub everywhere : (a : Answers) → NodeArea a
everywhere a = record {
  node = λ s. true;
  inside = λ m. true;
  blocks = λ s m n h i e. refl;
  expansions = λ s c m k f x es id h i e. refl;
}

module _ (a : Answers) (area : NodeArea a) where
  part_by : (p : LowerCtx) (x : Option AstExpr)
      → At area p (of_option node.nodes_of x) (λ b. expr_part (rctx p b) x) (of_option (list.questions (rctx p a)) x)
  part_by p None = still tree.no_expr
  part_by p (Some x) = one tree.some_expr ((of_expr a area p.left (below a area p.left) x).expr p)

  pat_part_by : (p : LowerCtx) (x : Option AstPat)
      → At area p (of_option node.pat_nodes_of x) (λ b. pat_part (rctx p b) x) (of_option (list.pat_questions (rctx p a)) x)
  pat_part_by p None = still tree.no_pat
  pat_part_by p (Some x) = one tree.some_pat (of_pat a area p.left (below a area p.left) x p)

  self_by : (p : LowerCtx) (x : Option AstSelfParam)
      → At area p (node.self_nodes x) (λ b. of.resolved_self (rctx p b) x) (list.self_questions (rctx p a) x)
  self_by p None = still tree.no_self
  self_by p (Some x) = let s = pointer_at (rctx p a) x.id x.range in
      two (λ c h. of.asked_self s c (record { name = name.Text (codes "self"); hygiene = h; mode = of.self_mode x.ref_ x.mut_ }) tt)
      (cfg_asked a area x.id) (name_by a area p x.name)

  formal_by : (p : LowerCtx) (bare : Bool) (x : AstParam)
      → At area p (node.formal_nodes x) (λ b. of.resolved_formal (rctx p b) bare x) (list.formal_questions (rctx p a) x)
  formal_by p bare x = let level = out-Param x in let s = pointer_at (rctx p a) level.id level.range in
      two (λ c q. of.asked_formal s c (tree.formal (of.formal_part bare q))) (cfg_asked a area level.id) (pat_part_by p level.pat)

  each_by : (p : LowerCtx) (bare : Bool) (xs : List AstParam)
      → At area p (of_each node.formal_nodes xs) (λ b. of.formals_part (rctx p b) bare xs)
      (of_each (list.formal_questions (rctx p a)) xs)
  each_by p bare [] = still []
  each_by p bare (x ∷ xs) = two (λ f fs. f ∷ fs) (formal_by p bare x) (each_by p bare xs)

  formals_by : (p : LowerCtx) (bare : Bool) (x : Option AstParamList)
      → At area p (node.formals_nodes x) (λ b. of.resolved_formals (rctx p b) bare x) (list.formals_questions (rctx p a) x)
  formals_by p bare None = still _
  formals_by p bare (Some x) = two (λ s fs. record { receiver = s; formals = fs }) (self_by p x.self_) (each_by p bare x.params)

  -- where as many calls may be entered as the environment says

  abbrev in_formals : LowerCtx → Option AstParamList → List Question
  in_formals q ps = list.formals_questions (rctx (with_limit q a) a) ps

  abbrev in_body : LowerCtx → Option AstExpr → List Question
  in_body p e = of_option (list.questions (rctx (with_limit p a) a)) e

  pub bodies_alike : (b : Answers) (item : DefWithBodyId) (p q : LowerCtx) (ps : Option AstParamList) (e : Option AstExpr)
      → AllAlike a b (list.body_questions a item p q ps e) → body_at a item p q ps e ≡ body_at b item p q ps e
  bodies_alike b item p q ps e h =
      let formals = (formals_by (with_limit q a) (of.are_bare (a.container item) (is_some e)) ps).same b
      (first_alike a b (in_formals q ps) (in_body p e) h.1.1.1) in
      let body = (part_by (with_limit p a) e).same b (rest_alike a b (in_formals q ps) (in_body p e) h.1.1.1) in
      λ i. record {
        skipped = h.0 i;
        container = h.1.0 i;
        formals = (formals ∙ (λ j. of.resolved_formals (rctx (record q { left = h.1.1.0 j }) b) (of.are_bare (h.1.0 j) (is_some e)) ps)) i;
        read = (body ∙ (λ j. expr_part (rctx (record p { left = h.1.1.0 j }) b) e)) i;
      }

  -- where all that may be asked there is answered alike, and so is what of a list is asked elsewhere
  pub alike_there : (b : Answers) → AgreesAtNodes area b → (qs : List Question) → AllInNodes area qs → AllAlike a b (elsewhere qs)
      → AllAlike a b qs
  alike_there b h [] k l = tt
  alike_there b h (q ∷ qs) k l = by (is_placed q) refl (alike_there b h qs k.1) l
    where
      by : (placed : Bool) → is_placed q ≡ placed → (AllAlike a b (elsewhere qs) → AllAlike a b qs)
          → AllAlike a b (if placed then elsewhere qs else q ∷ elsewhere qs) → AllAlike a b (q ∷ qs)
      by true is rest l = (h q is k.0, rest l)
      by false is rest l = (l.0, rest l.1)

  pub keeps : (b : Answers) → AgreesAtNodes area b → {X : Type 0} {f : HirFileId} {m : ModuleId} {ns : List NodeId} {made : Answers → X}
      {qs : List Question} → ByList area f m ns made qs → area.inside m ≡ true → AllThere area f ns → AllAlike a b (elsewhere qs)
      → made a ≡ made b
  keeps b h {qs = qs} x i k l = x.same b (alike_there b h qs (x.there i k) l)

  -- a body with its parameters, whose item and limit are asked of elsewhere
  pub body_there : (item : DefWithBodyId) (p q : LowerCtx) (ps : Option AstParamList) (e : Option AstExpr)
      → Holds area p (of_option node.nodes_of e) → Holds area q (node.formals_nodes ps)
      → AllInNodes area (list.body_questions a item p q ps e)
  body_there item p q ps e in_p in_q = (
    tt {0},
    (
      tt {0},
      (
        tt {0},
        all_in area (in_formals q ps) (in_body p e)
            ((formals_by (with_limit q a) (of.are_bare (a.container item) (is_some e)) ps).there in_q.0 in_q.1)
            ((part_by (with_limit p a) e).there in_p.0 in_p.1),
      ),
    ),
  )

  pub bodies_keep : (b : Answers) → AgreesAtNodes area b → (item : DefWithBodyId) (p q : LowerCtx) (ps : Option AstParamList)
      (e : Option AstExpr) → Holds area p (of_option node.nodes_of e) → Holds area q (node.formals_nodes ps)
      → AllAlike a b (elsewhere (list.body_questions a item p q ps e)) → body_at a item p q ps e ≡ body_at b item p q ps e
  bodies_keep b h item p q ps e in_p in_q l =
      bodies_alike b item p q ps e (alike_there b h (list.body_questions a item p q ps e) (body_there item p q ps e in_p in_q) l)
