-- The rules of parameters of a body allow one tree alone.
use Rattle.std.proofs.Common.{◌≡◌, ◌∙◌, refl, sym, ◌∷◌}
use Rattle.hir_syntax.specs.declared.types.Param.{out-Param}
use Rattle.hir_env.specs.ResolvedTree as tree
use Rattle.hir_env.specs.Answers.{Answers}
use Rattle.hir_env.specs.TypePats.{bare_part}
use Rattle.thm_reading.specs.Formals as rule
use Rattle.thm_reading.specs.Formals.{FormalAs, FormalListAs, FormalsAs, SelfAs}
use Rattle.thm_reading.specs.LowerCtx.{node}
use Rattle.thm_reading.proofs.Alone.{ok_not_err, error_or, uses}
use Rattle.thm_reading.proofs.One.{one_opt_pat}

module _ (env : Answers) where
  one_self : {p x y z : _} → SelfAs env p x y → SelfAs env p x z → y ≡ z
  one_self rule.no_self rule.no_self = refl
  one_self (rule.enabled_self {p = p} {x = x} {w = w} _ h) (rule.enabled_self {w = v} _ k) =
      λ i. tree.self_formal (node p x.id x.range) (uses w v h k i).0 (uses w v h k i).1
  one_self (rule.enabled_self h _) (rule.disabled_self k) = ok_not_err (sym h ∙ k)
  one_self (rule.disabled_self h) (rule.enabled_self k _) = ok_not_err (sym k ∙ h)
  one_self (rule.disabled_self {p = p} {x = x} {by = by} h) (rule.disabled_self k) =
      λ i. tree.disabled_self (node p x.id x.range) (error_or by ((sym h ∙ k) i))

  one_formal : {p bare x y z : _} → FormalAs env p bare x y → FormalAs env p bare x z → y ≡ z
  one_formal (rule.any_formal _ h) (rule.any_formal _ k) = λ i. tree.formal (one_opt_pat env h k i)
  one_formal (rule.any_formal h _) (rule.disabled_formal k) = ok_not_err (sym h ∙ k)
  one_formal (rule.bare_formal _ h) (rule.bare_formal _ k) = λ i. tree.formal (bare_part (one_opt_pat env h k i))
  one_formal (rule.bare_formal h _) (rule.disabled_formal k) = ok_not_err (sym h ∙ k)
  one_formal (rule.disabled_formal h) (rule.any_formal k _) = ok_not_err (sym k ∙ h)
  one_formal (rule.disabled_formal h) (rule.bare_formal k _) = ok_not_err (sym k ∙ h)
  one_formal (rule.disabled_formal {p = p} {x = x} {by = by} h) (rule.disabled_formal k) =
      λ i. tree.disabled_formal (node p (out-Param x).id (out-Param x).range) (error_or by ((sym h ∙ k) i))

  one_formal_list : {p bare xs ys zs : _} → FormalListAs env p bare xs ys → FormalListAs env p bare xs zs → ys ≡ zs
  one_formal_list rule.no_formals rule.no_formals = refl
  one_formal_list (rule.more_formals h hs) (rule.more_formals k ks) = λ i. one_formal h k i ∷ one_formal_list hs ks i

  pub one_formals : {p bare x y z : _} → FormalsAs env p bare x y → FormalsAs env p bare x z → y ≡ z
  one_formals rule.without_list rule.without_list = refl
  one_formals (rule.with_list h hs) (rule.with_list k ks) =
      λ i. record { receiver = one_self h k i; formals = one_formal_list hs ks i }
