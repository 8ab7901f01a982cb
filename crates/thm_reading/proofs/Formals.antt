-- What is read of parameters is what the rules allow.
use Rattle.std.proofs.Common.{◌≡◌, refl, Bool, true, false, codes, List, [], ◌∷◌, Option, Some, None, Result, Ok, Err}
use Rattle.hir_syntax.specs.declared.params.ParamList.{ParamList as AstParamList}
use Rattle.hir_syntax.specs.declared.params.SelfParam.{SelfParam as AstSelfParam}
use Rattle.hir_syntax.specs.declared.pats.Pat.{Pat as AstPat}
use Rattle.hir_syntax.specs.declared.types.Param.{Param as AstParam, out-Param}
use Rattle.hir_syntax.specs.declared.ast.Name.{Name as AstName}
use Rattle.hir_store.specs.declared.ids.CfgId.{CfgId}
use Rattle.hir_store.specs.declared.name.Name.TheVariants as name
use Rattle.hir_env.specs.ResolvedTree as tree
use Rattle.hir_env.specs.ResolvedTree.{OptionPat}
use Rattle.hir_env.specs.Answers.{Answers}
use Rattle.hir_env.specs.Formals as of
use Rattle.hir_env.specs.Pats.{name_hygiene}
use Rattle.hir_env.specs.Whole.{pat_part}
use Rattle.hir_env.specs.declared.ctx.LowerCtx.{LowerCtx}
use Rattle.thm_reading.specs.Formals as rule
use Rattle.thm_reading.specs.Formals.{FormalAs, FormalListAs, FormalsAs, SelfAs, self_binding, self_here}
use Rattle.thm_reading.specs.Theorems.{rctx}
use Rattle.thm_reading.specs.Rules as rules
use Rattle.thm_reading.specs.Rules.{OptPatAs}
use Rattle.thm_reading.specs.LowerCtx.{hygiene_of_name, node, site}
use Rattle.thm_reading.proofs.Tree.{below, of_pat}

self_same : (r m : Bool) → of.self_mode r m ≡ self_binding r m
self_same true true = refl
self_same true false = refl
self_same false true = refl
self_same false false = refl

module _ (a : Answers) where
  hygiene_same : (p : LowerCtx) (n : Option AstName) → name_hygiene a p n ≡ hygiene_of_name a p n
  hygiene_same p None = refl
  hygiene_same p (Some n) = refl

  use_same : (p : LowerCtx) (x : AstSelfParam) → of.self_use (rctx p a) x ≡ self_here a p x
  use_same p x = λ i. record { name = name.Text (codes "self"); hygiene = hygiene_same p x.name i; mode = self_same x.ref_ x.mut_ i }

  self_by : (p : LowerCtx) (x : AstSelfParam) (r : Result (Unit {0}) CfgId) → a.cfg (site (node p x.id x.range)) ≡ r
      → SelfAs a p (Some x) (of.asked_self (node p x.id x.range) r (of.self_use (rctx p a) x) tt)
  self_by p x (Ok u) is = rule.enabled_self is (use_same p x)
  self_by p x (Err by) is = rule.disabled_self is

  self_said : (p : LowerCtx) (x : Option AstSelfParam) → SelfAs a p x (of.resolved_self (rctx p a) x)
  self_said p None = rule.no_self
  self_said p (Some x) = self_by p x (a.cfg (site (node p x.id x.range))) refl

  pat_said : (p : LowerCtx) (x : Option AstPat) → OptPatAs a p x (pat_part (rctx p a) x)
  pat_said p None = rules.no_pat
  pat_said p (Some x) = rules.some_pat (of_pat a p.left (below a p.left) x p)

  formal_by : (p : LowerCtx) (bare : Bool) (x : AstParam) (r : Result (Unit {0}) CfgId)
      → a.cfg (site (node p (out-Param x).id (out-Param x).range)) ≡ r
      → FormalAs a p bare x (of.asked_formal (node p (out-Param x).id (out-Param x).range) r
      (tree.formal (of.formal_part bare (pat_part (rctx p a) (out-Param x).pat))))
  formal_by p true x (Ok u) is = rule.bare_formal is (pat_said p (out-Param x).pat)
  formal_by p false x (Ok u) is = rule.any_formal is (pat_said p (out-Param x).pat)
  formal_by p bare x (Err by) is = rule.disabled_formal is

  list_said : (p : LowerCtx) (bare : Bool) (xs : List AstParam) → FormalListAs a p bare xs (of.formals_part (rctx p a) bare xs)
  list_said p bare [] = rule.no_formals
  list_said p bare (x ∷ xs) = rule.more_formals (formal_by p bare x (a.cfg (site (node p (out-Param x).id (out-Param x).range))) refl)
      (list_said p bare xs)

  pub formals_said : (p : LowerCtx) (bare : Bool) (x : Option AstParamList) → FormalsAs a p bare x (of.resolved_formals (rctx p a) bare x)
  formals_said p bare None = rule.without_list
  formals_said p bare (Some x) = rule.with_list (self_said p x.self_) (list_said p bare x.params)
