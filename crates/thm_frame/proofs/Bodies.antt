-- Parameters and body of an item are framed by what is asked of the item, of them and of how many calls may be entered.
use Rattle.std.proofs.Common.{◌≡◌, Bool, List, [], ◌∷◌, Option, Some, None, is_some, codes}
use Rattle.hir_syntax.specs.declared.ast.Expr.{Expr as AstExpr}
use Rattle.hir_syntax.specs.declared.params.ParamList.{ParamList as AstParamList}
use Rattle.hir_syntax.specs.declared.params.SelfParam.{SelfParam as AstSelfParam}
use Rattle.hir_syntax.specs.declared.pats.Pat.{Pat as AstPat}
use Rattle.hir_syntax.specs.declared.types.Param.{Param as AstParam, out-Param}
use Rattle.hir_store.specs.declared.ids.DefWithBodyId.{DefWithBodyId}
use Rattle.hir_store.specs.declared.name.Name.TheVariants as name
use Rattle.hir_env.specs.ResolvedTree as tree
use Rattle.hir_env.specs.ResolvedTree.{Formals, OptionExpr}
use Rattle.hir_env.specs.Answers.{Answers}
use Rattle.hir_env.specs.Formals as of
use Rattle.hir_env.specs.ResolveCtx.{site_of}
use Rattle.hir_env.specs.Whole.{expr_part, pat_part, pointer_at}
use Rattle.hir_env.specs.declared.ctx.LowerCtx.{LowerCtx}
use Rattle.thm_frame.specs.Theorems.{AgreesIn, body_at, with_limit, rctx}
use Rattle.thm_frame.specs.Questions.{AllAlike, AllIn, Area, Framed, Here, Question}
use Rattle.thm_frame.specs.Questions as question
use Rattle.thm_frame.proofs.Asks.{cfg_asked}
use Rattle.thm_frame.proofs.Framing.{app, ask, go_on, one, still, two, three}
use Rattle.thm_frame.proofs.PatForms.{name_hygiene_framed}
use Rattle.thm_frame.proofs.Tree.{below, of_expr, of_pat}

module _ (a : Answers) (area : Area a) where
  part_framed : (p : LowerCtx) (w : Here area p) (x : Option AstExpr) → Framed area (λ b. expr_part (rctx p b) x) a
  part_framed p w None = still tree.no_expr
  part_framed p w (Some x) = one tree.some_expr ((of_expr a area p.left (below a area p.left) x).expr p w)

  pat_part_framed : (p : LowerCtx) (w : Here area p) (x : Option AstPat) → Framed area (λ b. pat_part (rctx p b) x) a
  pat_part_framed p w None = still tree.no_pat
  pat_part_framed p w (Some x) = one tree.some_pat (of_pat a area p.left (below a area p.left) x p w)

  self_framed : (p : LowerCtx) (w : Here area p) (x : Option AstSelfParam) → Framed area (λ b. of.resolved_self (rctx p b) x) a
  self_framed p w None = still tree.no_self
  self_framed p w (Some x) = let s = pointer_at (rctx p a) x.id x.range in
      two (λ c h. of.asked_self s c (record { name = name.Text (codes "self"); hygiene = h; mode = of.self_mode x.ref_ x.mut_ }) tt)
      (cfg_asked a area (site_of s) w.0) (name_hygiene_framed a area p.left (below a area p.left) p w x.name)

  formal_framed : (p : LowerCtx) (w : Here area p) (bare : Bool) (x : AstParam) → Framed area (λ b. of.resolved_formal (rctx p b) bare x) a
  formal_framed p w bare x = let level = out-Param x in let s = pointer_at (rctx p a) level.id level.range in
      two (λ c q. of.asked_formal s c (tree.formal (of.formal_part bare q))) (cfg_asked a area (site_of s) w.0)
      (pat_part_framed p w level.pat)

  each_framed : (p : LowerCtx) (w : Here area p) (bare : Bool) (xs : List AstParam)
      → Framed area (λ b. of.formals_part (rctx p b) bare xs) a
  each_framed p w bare [] = still []
  each_framed p w bare (x ∷ xs) = two (λ f fs. f ∷ fs) (formal_framed p w bare x) (each_framed p w bare xs)

  formals_framed : (p : LowerCtx) (w : Here area p) (bare : Bool) (x : Option AstParamList)
      → Framed area (λ b. of.resolved_formals (rctx p b) bare x) a
  formals_framed p w bare None = still _
  formals_framed p w bare (Some x) =
      two (λ s fs. record { receiver = s; formals = fs }) (self_framed p w x.self_) (each_framed p w bare x.params)

  -- where as many calls may be entered as the environment says
  pub limit_asked : Framed area (λ b. b.expansion_limit) a
  limit_asked = ask (λ b. b.expansion_limit) question.of_expansion_limit tt (λ b h. h.0)

  container_asked : (item : DefWithBodyId) → Framed area (λ b. b.container item) a
  container_asked item = ask (λ b. b.container item) (question.of_container item) tt (λ b h. h.0)

  item_formals_framed : (item : DefWithBodyId) (q : LowerCtx) (w : Here area q) (has_body : Bool) (ps : Option AstParamList)
      → Framed area (λ b. of.resolved_formals (rctx (with_limit q b) b) (of.are_bare (b.container item) has_body) ps) a
  item_formals_framed item q w has_body ps =
      go_on (λ b n. of.resolved_formals (rctx (record q { left = n }) b) (of.are_bare (b.container item) has_body) ps) limit_asked
      (go_on (λ b c. of.resolved_formals (rctx (record q { left = a.expansion_limit }) b) (of.are_bare c has_body) ps)
      (container_asked item) (formals_framed (record q { left = a.expansion_limit }) w _ ps))

  read_framed : (p : LowerCtx) (w : Here area p) (e : Option AstExpr) → Framed area (λ b. expr_part (rctx (with_limit p b) b) e) a
  read_framed p w e = go_on (λ b n. expr_part (rctx (record p { left = n }) b) e) limit_asked
      (part_framed (record p { left = a.expansion_limit }) w e)

  pub body_framed : (item : DefWithBodyId) (p q : LowerCtx) (v : Here area p) (w : Here area q) (ps : Option AstParamList)
      (e : Option AstExpr)
      → Framed area (λ b. body_at b item p q ps e) a
  body_framed item p q v w ps e =
      app (three (λ s c fs x. record { skipped = s; container = c; formals = fs; read = x })
      (ask (λ b. b.skip item) (question.of_skip item) tt (λ b h. h.0)) (container_asked item)
      (item_formals_framed item q w (is_some e) ps)) (read_framed p v e)

-- where all that may be asked there is answered alike
alike_in : (a : Answers) (area : Area a) (b : Answers) → AgreesIn area b → (qs : List Question) → AllIn area qs → AllAlike a b qs
alike_in a area b h [] k = tt
alike_in a area b h (q ∷ qs) k = (h q k.0, alike_in a area b h qs k.1)

pub keeps : {X : Type 0} {a : Answers} {area : Area a} {made : Answers → X} → Framed area made a → (b : Answers) → AgreesIn area b
    → made a ≡ made b
keeps {a = a} {area = area} f b h = f.frame b (alike_in a area b h f.asked f.there)

pub body_keeps : (a : Answers) (area : Area a) (b : Answers) → AgreesIn area b → (item : DefWithBodyId) (p q : LowerCtx) (v : Here area p)
    (w : Here area q) (ps : Option AstParamList) (e : Option AstExpr) → body_at a item p q ps e ≡ body_at b item p q ps e
body_keeps a area b h item p q v w ps e = keeps (body_framed a area item p q v w ps e) b h
