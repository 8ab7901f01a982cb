-- Steps that store beside expressions and labels at most: they report nothing and enter no block. What stores one type or one
-- lifetime is such; a whole type or path isn't, since the constants in it are expressions.
use Rattle.std.proofs.Common.{◌≡◌, ap, List, Option, Some, None}
use Rattle.hir_store.specs.Pointers.{Pointer}
use Rattle.hir_store.specs.Stored.{Stored}
use Rattle.hir_store.specs.declared.type_ref.TypeRef.{TypeRef}
use Rattle.hir_store.specs.declared.type_ref.LifetimeRef.{LifetimeRef}
use Rattle.hir_lower_builder.specs.declared.walk.Reading.{Reading}
use Rattle.hir_lower_builder.specs.Lowering.{pure, alloc_type, alloc_lifetime}
use Rattle.hir_lower_builder.specs.Paths.{or_count_out}
use Rattle.thm_logic.proofs.Frames.{Frame}
use Rattle.thm_logic.proofs.Steps.{Mark, Correct, correct_as, correct_pure, correct_count_out, correct_alloc_type}
use Rattle.thm_logic.proofs.Steps.{correct_alloc_lifetime}

pub record Aside {A : Type 0} (final : Stored) (ps : List Frame) (m m' : Mark) (a : A) : Type 0 where
  pub nodes : m'.nodes ≡ m.nodes
  pub labels : m'.labels ≡ m.labels
  pub exprs_are : m'.stored.exprs ≡ m.stored.exprs
  pub labels_are : m'.stored.labels ≡ m.stored.labels
  pub diagnostics : m'.stored.diagnostics ≡ m.stored.diagnostics
  pub block_scopes : m'.stored.block_scopes ≡ m.stored.block_scopes
  pub expansions : m'.stored.expansions ≡ m.stored.expansions
  pub field_map_back : m'.stored.field_map_back ≡ m.stored.field_map_back

pub aside_pure : {A : Type 0} (a : A) → Correct (pure a) Aside
aside_pure a = correct_as (correct_pure a) (λ final ps m m' b g row. record {
  nodes = ap (λ x. x.nodes) row.still;
  labels = ap (λ x. x.labels) row.still;
  exprs_are = ap (λ x. x.stored.exprs) row.still;
  labels_are = ap (λ x. x.stored.labels) row.still;
  diagnostics = ap (λ x. x.stored.diagnostics) row.still;
  block_scopes = ap (λ x. x.stored.block_scopes) row.still;
  expansions = ap (λ x. x.stored.expansions) row.still;
  field_map_back = ap (λ x. x.stored.field_map_back) row.still;
})

pub aside_type : (t : TypeRef) (source : Option Pointer) → Correct (alloc_type t source) Aside
aside_type t source = correct_as (correct_alloc_type t source) (λ final ps m m' i g row. record {
  nodes = row.nodes;
  labels = row.labels;
  exprs_are = ap (λ s. s.exprs) row.stored;
  labels_are = ap (λ s. s.labels) row.stored;
  diagnostics = ap (λ s. s.diagnostics) row.stored;
  block_scopes = ap (λ s. s.block_scopes) row.stored;
  expansions = ap (λ s. s.expansions) row.stored;
  field_map_back = ap (λ s. s.field_map_back) row.stored;
})

pub aside_lifetime : (l : LifetimeRef) (source : Option Pointer) → Correct (alloc_lifetime l source) Aside
aside_lifetime l source = correct_as (correct_alloc_lifetime l source) (λ final ps m m' i g row. record {
  nodes = row.nodes;
  labels = row.labels;
  exprs_are = ap (λ s. s.exprs) row.stored;
  labels_are = ap (λ s. s.labels) row.stored;
  diagnostics = ap (λ s. s.diagnostics) row.stored;
  block_scopes = ap (λ s. s.block_scopes) row.stored;
  expansions = ap (λ s. s.expansions) row.stored;
  field_map_back = ap (λ s. s.field_map_back) row.stored;
})

-- paths

pub counted_aside : (r : Option Reading) → Correct (or_count_out r) Aside
counted_aside (Some r) = aside_pure r
counted_aside None = correct_count_out Aside
