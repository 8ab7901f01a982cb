-- Names that lowering an item makes up stand apart.
use Rattle.std.proofs.Common.{List, Option, Some, None}
use Rattle.hir_store.specs.Pointers.{Pointer}
use Rattle.hir_store.specs.declared.path.Path.{Path as HirPath}
use Rattle.hir_env.specs.ResolvedTree.{OptionPath}
use Rattle.hir_lower_builder.specs.declared.generics.SideOutput.{SideOutput}
use Rattle.hir_lower_builder.specs.Lowering.{Lowering, ◌>>=◌, track_down}
use Rattle.hir_lower_builder.specs.Lower.{lower_path}
use Rattle.hir_lower_item.specs.Lower.{stored_trait}
use Rattle.thm_logic.proofs.Apart.{Apart, pure_apart, report_apart, stored_lifetime_apart, stored_type_apart, then_apart}
use Rattle.thm_logic.proofs.ApartTree.{a_constant_apart, lower_path_apart, one_type_apart}
use Rattle.thm_logic.proofs.AsApart.{apart_graded}
use Rattle.thm_logic.proofs.GradedTree.{bound_graded}
use Rattle.thm_logic.proofs.GradedTypes.{lifetime_graded}
use Rattle.thm_logic.proofs.Keeping.{apart_by}
use Rattle.thm_logic.proofs.Tracked.{correct_tracked}
use Rattle.thm_logic.proofs.Steps.{Correct}
use Rattle.thm_item_result.specs.Apart.{ItemsApart, KeepsApart}
use Rattle.thm_item_result.specs.Items.{OfItems}
use Rattle.thm_item_result.specs.Parts.{Part}
use Rattle.thm_item_result.proofs.Items.{items_read}
use Rattle.thm_item_result.proofs.Reading.{Reading}
use Rattle.thm_item_result.proofs.Steps.{correct_lifetime_param, correct_param}

pub record ApartAll {A : Type 0} (xs : List Part) (p : Lowering A) : Type 0 where
  pub apart : Correct p Apart

record ApartOne {A : Type 0} (x : Part) (p : Lowering A) : Type 0 where
  apart : Correct p Apart

stored_apart : (at : Pointer) (p : Option HirPath) → Correct (stored_trait at p) Apart
stored_apart at None = pure_apart None
stored_apart at (Some p) = then_apart (stored_type_apart _ _) (λ id. pure_apart _)

trait_apart : (at : Pointer) (p : OptionPath) → Correct (lower_path p >>= stored_trait at) Apart
trait_apart at p = then_apart (lower_path_apart p) (λ r. stored_apart at r)

-- in front of others
beside : {B : Type 0} {ys : List Part} (f : SideOutput → SideOutput) {k : Unit {0} → Lowering B} → ((u : Unit {0}) → ApartAll ys (k u))
    → ApartAll ys (track_down f >>= k)
unfolding track_down
beside f k = record { apart = correct_tracked f (k tt).apart }

apart : Reading
apart = record {
  Claim = λ xs p. ApartAll xs p;
  One = λ x p. ApartOne x p;
  pure_is = λ a. record { apart = pure_apart a };
  one_is = λ h k. record { apart = then_apart h.apart (λ a. (k a).apart) };
  tracked_is = λ f h k. beside f k;
  type_is = λ t. record { apart = one_type_apart None t };
  made_is = λ t shape h. record { apart = stored_type_apart t None };
  bound_is = λ b. record { apart = bound_graded apart_graded b };
  trait_is = λ at p. record { apart = trait_apart at p };
  constant_is = λ c. record { apart = a_constant_apart c };
  lifetime_is = λ l. record { apart = lifetime_graded apart_graded l };
  made_lifetime_is = λ l. record { apart = stored_lifetime_apart l None };
  fault_is = λ d. record { apart = report_apart d };
  param_is = λ x. record { apart = correct_param x (λ k. pure_apart k) };
  lifetime_param_is = λ x. record { apart = correct_lifetime_param x (pure_apart tt) };
}

pub items_stand_apart : OfItems (λ A xs p. ApartAll xs p)
unfolding apart
items_stand_apart def = items_read apart def

keeps : {A : Type 0} {xs : List Part} {p : Lowering A} → ApartAll xs p → KeepsApart p
keeps h b c a d is m = apart_by h.apart b c a d is m

pub items_apart : ItemsApart
items_apart def = let r = items_stand_apart def in (
  λ g. keeps (r.0 g),
  λ x. keeps (r.1 x),
  λ x. keeps (r.2 x),
  λ x. keeps (r.3 x),
  λ x. keeps (r.4 x),
)
