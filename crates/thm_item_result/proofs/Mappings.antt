-- What the parts of an item leave in the store.
use Rattle.std.proofs.Common.{refl, List, [], Option, Some, None}
use Rattle.hir_store.specs.Pointers.{Pointer}
use Rattle.hir_store.specs.Stored.{map_of, store_of}
use Rattle.hir_store.specs.declared.diagnostics.ExpressionStoreDiagnostics.{ExpressionStoreDiagnostics}
use Rattle.hir_store.specs.declared.path.Path.{Path as HirPath}
use Rattle.hir_store.specs.declared.type_ref.LifetimeRef.{LifetimeRef}
use Rattle.hir_env.specs.ResolvedTree as tree
use Rattle.hir_env.specs.ResolvedTree.{Bound, Constant, OptionPath}
use Rattle.hir_lower_builder.specs.declared.generics.SideOutput.{SideOutput}
use Rattle.hir_lower_builder.specs.Lowering.{Lowering, ◌>>=◌, alloc_lifetime, track_down, report}
use Rattle.hir_lower_builder.specs.Lower.{lower_bound, lower_constant, lower_path}
use Rattle.hir_lower_item.specs.Lower.{stored_trait}
use Rattle.thm_logic.proofs.Tracked.{correct_tracked}
use Rattle.thm_logic.proofs.Steps.{with_lifetime}
use Rattle.thm_body_result.specs.Corresponds.{BoundMappings}
use Rattle.thm_body_result.specs.CorrespondsWhole.{ConstantMappings}
use Rattle.thm_body_result.proofs.Lasting.{Correct, correct_alloc_lifetime, correct_as, correct_report}
use Rattle.thm_body_result.proofs.Leading.{moved_report, moved_still, moved_to, shown_none}
use Rattle.thm_body_result.proofs.PathStanding.{constant_leaves, lifetime_leaves, nothing, path_bound_leaves, type_leaves, uses_leave}
use Rattle.thm_body_result.proofs.PathStanding.{mappings_bind, mappings_end, mappings_pure}
use Rattle.thm_body_result.proofs.Standing.{Leaves}
use Rattle.thm_body_result.proofs.TreeCorresponds.{part_corresponds, type_left, whole_left}
use Rattle.thm_item_result.specs.Parts as part
use Rattle.thm_item_result.specs.Parts.{Part}
use Rattle.thm_item_result.specs.Emitted.{ItemMappings, PartMappings}
use Rattle.thm_item_result.specs.Items.{OfItems}
use Rattle.thm_item_result.proofs.Items.{items_read}
use Rattle.thm_item_result.proofs.Reading.{Reading}
use Rattle.thm_item_result.proofs.Steps.{correct_lifetime_param, correct_param}

pub record LeavesAll {A : Type 0} (xs : List Part) (p : Lowering A) : Type 0 where
  pub leaves : Correct p (Leaves (λ final rs. ItemMappings (store_of final) (map_of final) rs xs))

record LeavesOne {A : Type 0} (x : Part) (p : Lowering A) : Type 0 where
  leaves : Correct p (Leaves (λ final rs. PartMappings (store_of final) (map_of final) rs x))

lifetime_made : (l : LifetimeRef) (source : Option Pointer) → Correct (alloc_lifetime l source) (Leaves nothing)
lifetime_made l source = correct_as (correct_alloc_lifetime l source) (λ final ps m m' i g row. record {
  shown = shown_none (moved_to row.stored (moved_still m.stored (with_lifetime l source m.stored) refl refl refl refl refl refl)) refl;
})

fault_leaves : (d : ExpressionStoreDiagnostics) → Correct (report d) (Leaves nothing)
fault_leaves d = correct_as (correct_report d) (λ final ps m m' u g row. record {
  shown = shown_none (moved_to row.stored (moved_report d m.stored)) refl;
})

bound_left : (b : Bound) → Correct (lower_bound b) (Leaves (λ final rs. BoundMappings (store_of final) (map_of final) rs b))
bound_left tree.error_bound = mappings_pure _
bound_left (tree.path_bound at p maybe binder) = path_bound_leaves at maybe binder (whole_left p)
bound_left (tree.lifetime_bound l) = mappings_end (lifetime_leaves l) (λ i. mappings_pure _)
bound_left (tree.use_bound us) = mappings_end (uses_leave [] us) (λ xs. mappings_pure _)

constant_left : (c : Constant) → Correct (lower_constant c) (Leaves (λ final rs. ConstantMappings (store_of final) (map_of final) rs c))
constant_left (tree.constant e) = constant_leaves (part_corresponds e)

stored_left : (at : Pointer) (p : Option HirPath) → Correct (stored_trait at p) (Leaves nothing)
stored_left at None = mappings_pure None
stored_left at (Some p) = mappings_end (type_leaves _ _) (λ id. mappings_pure _)

trait_left : (at : Pointer) (p : OptionPath)
    → Correct (lower_path p >>= stored_trait at)
    (Leaves (λ final rs. PartMappings (store_of final) (map_of final) rs (part.trait_read at p)))
trait_left at p = mappings_end (whole_left p) (λ r. stored_left at r)

-- in front of others
beside : {B : Type 0} {ys : List Part} (f : SideOutput → SideOutput) {k : Unit {0} → Lowering B} → ((u : Unit {0}) → LeavesAll ys (k u))
    → LeavesAll ys (track_down f >>= k)
unfolding track_down
beside f k = record { leaves = correct_tracked f (k tt).leaves }

leaving : Reading
leaving = record {
  Claim = λ xs p. LeavesAll xs p;
  One = λ x p. LeavesOne x p;
  pure_is = λ a. record { leaves = mappings_pure a };
  one_is = λ h k. record { leaves = mappings_bind h.leaves (λ a. (k a).leaves) };
  tracked_is = λ f h k. beside f k;
  type_is = λ t. record { leaves = type_left None (tree.some_type t) };
  made_is = λ t shape h. record { leaves = type_leaves t None };
  bound_is = λ b. record { leaves = bound_left b };
  trait_is = λ at p. record { leaves = trait_left at p };
  constant_is = λ c. record { leaves = constant_left c };
  lifetime_is = λ l. record { leaves = lifetime_leaves l };
  made_lifetime_is = λ l. record { leaves = lifetime_made l None };
  fault_is = λ d. record { leaves = fault_leaves d };
  param_is = λ x. record { leaves = correct_param x (λ k. mappings_pure k) };
  lifetime_param_is = λ x. record { leaves = correct_lifetime_param x (mappings_pure tt) };
}

pub items_leave : OfItems (λ A xs p. LeavesAll xs p)
unfolding leaving
items_leave def = items_read leaving def
