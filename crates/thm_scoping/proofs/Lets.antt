-- The operand of a `let` that is a condition.
use Rattle.std.proofs.Common.{◌≡◌, refl, inl, List, [], ◌∷◌, Option, Some}
use Rattle.hir_store.specs.Pointers.{Pointer}
use Rattle.hir_store.specs.Stored.{Store, SourceMap}
use Rattle.hir_store.specs.declared.hir.Expr.{Expr as StoredExpr}
use Rattle.hir_store.specs.declared.hir.Expr.TheVariants as hir
use Rattle.hir_store.specs.declared.ids.BindingId.{BindingId}
use Rattle.hir_store.specs.declared.ids.ExprId.{ExprId}
use Rattle.hir_env.specs.ResolvedTree as tree
use Rattle.hir_env.specs.ResolvedTree.{OptionExpr, OptionPat}
use Rattle.spec_scopes.specs.Placed.{Spot}
use Rattle.spec_scoping.specs.Scoping.{Where, in_turn, part}
use Rattle.thm_body_result.specs.Corresponds.{Corresponds, Open}
use Rattle.thm_body_result.specs.Leads.{Mapping}
use Rattle.thm_scoping.proofs.Orderly.{Orderly}
use Rattle.thm_scoping.proofs.Operands.{part_lined}
use Rattle.thm_scoping.proofs.Steps.{AllSee, At, line_see, step}

module _ (store : Store) (source_map : SourceMap) (self : Option BindingId) (o : Orderly store) (root : ExprId) (start : Spot) where
  pub let_see : (rs : Open) (at : Pointer) (p : OptionPat) (e : OptionExpr) (i : ExprId) (ms : List Mapping) (w : Where)
      → Corresponds store source_map rs (tree.let_expr at p e) i ms → At store source_map self o root start i w
      → AllSee store source_map self o root start (in_turn (part e) w)
  let_see rs at p e i ms w h a =
      let f : StoredExpr = hir.Let h.0 h.1 in
      line_see store source_map self o root start i (h.1 ∷ []) (part e) a.spot w
      (part_lined store source_map self i.0 rs e h.1 h.3.second.left (o.parts i f h.2.stored).0 h.3.second.first)
      (λ c y less among. step store source_map self o root start i f w a h.2.stored c y less among) a.same
