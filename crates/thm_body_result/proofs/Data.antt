-- The expression that is stored for a path stands for the path that was written.
use Rattle.std.proofs.Common.{◌≡◌, refl, ap, subst, Option, Some, None, option_map}
use Rattle.hir_store.specs.Stored.{Store, SourceMap}
use Rattle.hir_store.specs.declared.hir.Expr.{Expr as HirExpr}
use Rattle.hir_store.specs.declared.hir.Expr.TheVariants as hir
use Rattle.hir_store.specs.declared.path.Path.{Path}
use Rattle.hir_store.specs.declared.ids.HygieneId.{HygieneId}
use Rattle.spec_data.specs.Data.{PathData}
use Rattle.spec_data.specs.Lookup.{lookup_hygiene}
use Rattle.spec_data.specs.Reading.{stored_path}
use Rattle.hir_lower_builder.specs.Lower.{path_or_missing}
use Rattle.thm_round_trip.proofs.Lookup.{looked_up}

module _ (store : Store) (source_map : SourceMap) where
  -- the expression that stands for what is known of a path
  abbrev pub PathIs : Option PathData → HygieneId → HirExpr → Type 0
  PathIs None h e = e ≡ hir.Missing
  PathIs (Some p) h e = (path : Path) × (stored_path store source_map path ≡ p) × (e ≡ hir.Path path (lookup_hygiene p h))

  pub path_is : (r : Option Path) (d : Option PathData) (h : HygieneId) → option_map (stored_path store source_map) r ≡ d
      → PathIs d h (path_or_missing h r)
  path_is r d h is = subst (λ k. PathIs k h (path_or_missing h r)) is (by r)
    where
      by : (r : Option Path) → PathIs (option_map (stored_path store source_map) r) h (path_or_missing h r)
      by None = refl
      by (Some p) = (p, refl, ap (λ x. hir.Path p x) (looked_up store source_map p h))
