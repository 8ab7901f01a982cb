-- Where one arena goes on, what is stored stays.
use Rattle.hir_store.specs.Arenas.{Continues, Sourced}
use Rattle.hir_store.specs.Bindings.{Bindings, BindingsContinue}
use Rattle.hir_store.specs.StoreSink.{Extends}
use Rattle.hir_store.specs.Stored.{Stored}
use Rattle.hir_store.specs.declared.hir.Expr.{Expr}
use Rattle.hir_store.specs.declared.hir.Label.{Label}
use Rattle.hir_store.specs.declared.ids.ExprId.{ExprId}
use Rattle.hir_store.specs.declared.ids.LabelId.{LabelId}
use Rattle.hir_store.specs.declared.ids.LifetimeRefId.{LifetimeRefId}
use Rattle.hir_store.specs.declared.ids.PatId.{PatId}
use Rattle.hir_store.specs.declared.ids.TypeRefId.{TypeRefId}
use Rattle.hir_store.specs.declared.pat.Pat.{Pat}
use Rattle.hir_store.specs.declared.type_ref.LifetimeRef.{LifetimeRef}
use Rattle.hir_store.specs.declared.type_ref.TypeRef.{TypeRef}
use Rattle.hir_store.proofs.Arenas.{continues_refl, prefix_refl}
use Rattle.hir_store.proofs.BindingLemmas.{bindings_refl}

arenas_go_on : (s : Stored) {exprs : Sourced Expr ExprId} {labels : Sourced Label LabelId} {pats : Sourced Pat PatId}
    {bindings : Bindings} {types : Sourced TypeRef TypeRefId} {lifetimes : Sourced LifetimeRef LifetimeRefId}
    → Continues s.exprs exprs → Continues s.labels labels → Continues s.pats pats → BindingsContinue s.bindings bindings
    → Continues s.types types → Continues s.lifetimes lifetimes
    → Extends s
    (record s { exprs = exprs; labels = labels; pats = pats; bindings = bindings; types = types; lifetimes = lifetimes })
arenas_go_on s exprs labels pats bindings types lifetimes = record {
  exprs = exprs;
  labels = labels;
  pats = pats;
  bindings = bindings;
  types = types;
  lifetimes = lifetimes;
  roots = prefix_refl s.roots;
  target_nodes = prefix_refl _;
  field_map_back = prefix_refl s.field_map_back;
  pat_field_map_back = prefix_refl s.pat_field_map_back;
  block_scopes = prefix_refl s.block_scopes;
  expansions = prefix_refl s.expansions;
  diagnostics = prefix_refl s.diagnostics;
}

module _ (s : Stored) where
  pub exprs_go_on : (a : Sourced Expr ExprId) → Continues s.exprs a → Extends s (record s { exprs = a })
  exprs_go_on a h = arenas_go_on s h (continues_refl s.labels) (continues_refl s.pats) (bindings_refl s.bindings) (continues_refl s.types)
      (continues_refl s.lifetimes)

  pub labels_go_on : (a : Sourced Label LabelId) → Continues s.labels a → Extends s (record s { labels = a })
  labels_go_on a h = arenas_go_on s (continues_refl s.exprs) h (continues_refl s.pats) (bindings_refl s.bindings) (continues_refl s.types)
      (continues_refl s.lifetimes)

  pub pats_go_on : (a : Sourced Pat PatId) → Continues s.pats a → Extends s (record s { pats = a })
  pats_go_on a h = arenas_go_on s (continues_refl s.exprs) (continues_refl s.labels) h (bindings_refl s.bindings) (continues_refl s.types)
      (continues_refl s.lifetimes)

  pub bindings_go_on : (a : Bindings) → BindingsContinue s.bindings a → Extends s (record s { bindings = a })
  bindings_go_on a h = arenas_go_on s (continues_refl s.exprs) (continues_refl s.labels) (continues_refl s.pats) h (continues_refl s.types)
      (continues_refl s.lifetimes)

  pub types_go_on : (a : Sourced TypeRef TypeRefId) → Continues s.types a → Extends s (record s { types = a })
  types_go_on a h = arenas_go_on s (continues_refl s.exprs) (continues_refl s.labels) (continues_refl s.pats) (bindings_refl s.bindings) h
      (continues_refl s.lifetimes)

  pub lifetimes_go_on : (a : Sourced LifetimeRef LifetimeRefId) → Continues s.lifetimes a → Extends s (record s { lifetimes = a })
  lifetimes_go_on a h = arenas_go_on s (continues_refl s.exprs) (continues_refl s.labels) (continues_refl s.pats)
      (bindings_refl s.bindings) (continues_refl s.types) h
