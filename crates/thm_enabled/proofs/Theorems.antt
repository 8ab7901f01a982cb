-- Who answers alike what is asked reads the same.
use Rattle.std.proofs.Common.{◌∙◌}
use Rattle.hir_env.specs.Whole.{resolved_expr, resolved_pat, resolved_path, resolved_type}
use Rattle.thm_reading.specs.Theorems.{rctx}
use Rattle.thm_enabled.specs.Asked.{asked_expr}
use Rattle.thm_enabled.specs.Theorems.{ExprsAsked, OutsideAsked, PathsAsked, PatsAsked, TypesAsked}
use Rattle.thm_enabled.specs.Pruned.{pruned}
use Rattle.thm_enabled.specs.Whole.{whole_expr, whole_pat_kind, whole_path, whole_type_kind}
use Rattle.thm_enabled.proofs.Agreed.{agree_of}
use Rattle.thm_enabled.proofs.Allowed.{ByRules, inside}
use Rattle.thm_enabled.proofs.Kept.{kept_expr, kept_pat_kind, kept_path, kept_type_kind}
use Rattle.thm_enabled.proofs.Moved.{moved_expr}

module _ (laws : ByRules) where
  pub types_asked : TypesAsked
  types_asked a b p t x h g = laws.one_type b p _ _ x (resolved_type (rctx p b) t)
      (kept_type_kind a b h (agree_of a b (whole_type_kind a h) g)) (laws.types b p t)

  pub paths_asked : PathsAsked
  paths_asked a b p x y h g = laws.one_path b p _ _ _ _ y (resolved_path (rctx p b) x) (kept_path a b h (agree_of a b (whole_path a h) g))
      (laws.paths b p x)

  pub pats_asked : PatsAsked
  pats_asked a b p x y h g = laws.one_pat b p _ _ y (resolved_pat (rctx p b) x)
      (kept_pat_kind a b h (agree_of a b (whole_pat_kind a h) g)) (laws.pats b p x)

  pub exprs_asked : ExprsAsked
  exprs_asked a b p e x h g = laws.one_expr b p _ _ x (resolved_expr (rctx p b) e) (kept_expr a b h (agree_of a b (whole_expr a h) g))
      (laws.exprs b p e)

  pub outside_asked : OutsideAsked
  outside_asked a b p e x h g =
      let m = moved_expr laws a b h (agree_of a b (asked_expr a h) g) (inside laws b p e) in
      m.same ∙ (λ i. pruned (laws.one_expr b p _ _ m.tree (resolved_expr (rctx p b) e) m.by (laws.exprs b p e) i))
