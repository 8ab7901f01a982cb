-- What is told of the parts of an item is claimed of its lowering.
use Rattle.std.proofs.Common.{◌≡◌, refl, ℕ, [], List, Option, Some, None, is_some, Ok}
use Rattle.hir_store.specs.Pointers.{Pointer}
use Rattle.hir_store.specs.declared.generics.LifetimeParamData.{LifetimeParamData}
use Rattle.hir_store.specs.declared.generics.TypeOrConstParamData.{TypeOrConstParamData}
use Rattle.hir_store.specs.declared.path.Path.{Path as HirPath}
use Rattle.hir_store.specs.declared.type_ref.TypeRef.{TypeRef}
use Rattle.hir_env.specs.ResolvedTree as tree
use Rattle.hir_env.specs.ResolvedTree.{Constant, OptionPath}
use Rattle.spec_data.specs.Data.{TypeData, typed}
use Rattle.spec_data.specs.Rule.{PathRead}
use Rattle.spec_data.specs.Written.{path_of, shape_of_path}
use Rattle.hir_lower_builder.specs.Builder.{Builder, new_builder}
use Rattle.hir_lower_builder.specs.declared.generics.SideOutput.{SideOutput}
use Rattle.hir_lower_builder.specs.Lowering.{Lowering, ◌>>=◌, add_lifetime_param, add_param, alloc_type, track_down}
use Rattle.hir_lower_builder.specs.Lower.{lower_constant, lower_path}
use Rattle.hir_lower_item.specs.Lower.{stored_trait}
use Rattle.thm_logic.specs.Keeps.{Paired}
use Rattle.thm_logic.proofs.Aside.{aside_type}
use Rattle.thm_body_result.proofs.Emission.{Listing, emits_aside, emits_pure}
use Rattle.thm_logic.proofs.PathAnswers.{option_seen}
use Rattle.thm_body_result.specs.Expanded.{expansions}
use Rattle.thm_logic.specs.Grades.{grade_constant}
use Rattle.thm_logic.specs.Grading.{Grading, if_so}
use Rattle.thm_body_result.specs.Lists.{blocks, faults}
use Rattle.thm_body_result.proofs.AsExpansions.{expansions_graded}
use Rattle.thm_body_result.proofs.AsEmitting.{behind, entered, fault_listing, emits_graded}
use Rattle.thm_logic.proofs.Graded.{Graded, next}
use Rattle.thm_logic.proofs.GradedTree.{bound_graded, expr_part_graded, path_graded, type_graded}
use Rattle.thm_logic.proofs.GradedTypes as forms
use Rattle.thm_item_result.specs.Parts as part
use Rattle.thm_item_result.specs.Parts.{Part}
use Rattle.thm_item_result.specs.Emitted.{grade_item, grade_item_part}
use Rattle.thm_item_result.specs.Items.{OfItems}
use Rattle.thm_item_result.proofs.Items.{items_read}
use Rattle.thm_item_result.proofs.Reading.{Beside, Reading}
use Rattle.thm_item_result.proofs.Steps.{correct_lifetime_param, correct_param}

-- how what is told is claimed of parameters that are made, and of types, whatever is told of what these read back as
pub record GradedParams {ℓ} {S : Grading {ℓ}} (L : Graded S) : Type (ℓ ⊔ 1) where
  pub type_is : (t : TypeRef) (x : TypeData) → L.Claim (S.type_as x) (alloc_type t None)
  pub param_is : (x : TypeOrConstParamData) → L.Claim S.param (add_param x)
  pub lifetime_param_is : (x : LifetimeParamData) → L.Claim S.none (add_lifetime_param x)

module _ {ℓ} {S : Grading {ℓ}} (L : Graded S) where
  pub record EmitsAll {A : Type 0} (xs : List Part) (p : Lowering A) : Type 0 where
    pub claim : L.Claim (grade_item S xs) p

  record EmitsOne {A : Type 0} (x : Part) (p : Lowering A) : Type 0 where
    claim : L.Claim (grade_item_part S x) p

  pub constant_graded : (c : Constant) → L.Claim (grade_constant S c) (lower_constant c)
  constant_graded (tree.constant e) = L.constant_is e (expr_part_graded L e)

  stored_graded : (y : Option PathRead) (at : Pointer) (p : Option HirPath) → L.Where (λ final m t. L.reads.PathFound y p final m)
      (if_so S (is_some (option_seen p)) (S.type_as (typed (Some at) (shape_of_path y)))) (stored_trait at p)
  stored_graded y at None = L.where_any (L.pure_is None)
  stored_graded y at (Some p) = L.where_end (forms.type_of_path L y at p) (λ i. L.pure_is _)

  pub trait_graded : (at : Pointer) (p : OptionPath)
      → L.Claim (grade_item_part S (part.trait_read at p)) (lower_path p >>= stored_trait at)
  trait_graded at p =
      let y = path_of p in
      forms.claim_of_path L y (λ z. if_so S (is_some z) (S.type_as (typed (Some at) (shape_of_path y)))) (path_graded L p)
      (L.reads.path_reads p) (λ o. stored_graded y at o)

  -- in front of others
  beside : {B : Type 0} {ys : List Part} (f : SideOutput → SideOutput) → Beside f → {k : Unit {0} → Lowering B}
      → ((u : Unit {0}) → EmitsAll ys (k u)) → EmitsAll ys (track_down f >>= k)
  unfolding track_down
  beside f h k = record { claim = L.tracked_down_is f h.params (k tt).claim }

  emission : GradedParams L → Reading
  emission ps = record {
    Claim = λ xs p. EmitsAll xs p;
    One = λ x p. EmitsOne x p;
    pure_is = λ a. record { claim = L.pure_is a };
    one_is = λ h k. record { claim = next L h.claim (λ a. (k a).claim) };
    tracked_is = λ f h k. beside f h k;
    type_is = λ t. record { claim = type_graded L None t };
    made_is = λ t shape h. record { claim = ps.type_is t (typed None shape) };
    bound_is = λ b. record { claim = bound_graded L b };
    trait_is = λ at p. record { claim = trait_graded at p };
    constant_is = λ c. record { claim = constant_graded c };
    lifetime_is = λ l. record { claim = forms.lifetime_graded L l };
    made_lifetime_is = λ l. record { claim = L.lifetime_is l None };
    fault_is = λ d. record { claim = L.fault_is d };
    param_is = λ x. record { claim = ps.param_is x };
    lifetime_param_is = λ x. record { claim = ps.lifetime_param_is x };
  }

  pub items_emit : GradedParams L → OfItems (λ A xs p. EmitsAll xs p)
  unfolding emission
  items_emit ps def = items_read (emission ps) def

-- lists

lists_params : {X : Type 0} (L : Listing X) → GradedParams (emits_graded L)
lists_params L = record {
  type_is = λ t x. emits_aside L (aside_type t None);
  param_is = λ x. correct_param x (λ k. emits_pure L k);
  lifetime_param_is = λ x. correct_lifetime_param x (emits_pure L tt);
}

expansions_params : GradedParams expansions_graded
expansions_params = record {
  type_is = λ t x. emits_aside _ (aside_type t None);
  param_is = λ x. correct_param x (λ k. expansions_graded.pure_is k);
  lifetime_param_is = λ x. correct_lifetime_param x (expansions_graded.pure_is tt);
}

pub items_enter : OfItems (λ A xs p. EmitsAll (emits_graded entered) xs p)
items_enter = items_emit (emits_graded entered) (lists_params entered)

pub items_report : OfItems (λ A xs p. EmitsAll (emits_graded fault_listing) xs p)
items_report = items_emit (emits_graded fault_listing) (lists_params fault_listing)

pub items_expand : OfItems (λ A xs p. EmitsAll expansions_graded xs p)
items_expand = items_emit expansions_graded expansions_params

-- from nothing on

module _ {A : Type 0} {xs : List Part} {p : Lowering A} (limit : ℕ) (new : Builder) (a : A) (paired : Paired (new_builder limit).stored)
    (is : p (new_builder limit) ≡ (Ok a, new)) where
  pub first_faults : EmitsAll (emits_graded fault_listing) xs p → new.stored.diagnostics ≡ grade_item faults xs []
  first_faults h = behind fault_listing (λ xs ys like. like) h.claim (new_builder limit) new a paired is [] refl

  pub first_blocks : EmitsAll (emits_graded entered) xs p → new.stored.block_scopes ≡ grade_item blocks xs []
  first_blocks h = behind entered (λ xs ys like. like) h.claim (new_builder limit) new a paired is [] refl

  pub first_expansions : EmitsAll expansions_graded xs p → new.stored.expansions ≡ grade_item expansions xs
  first_expansions h = behind _ (λ xs ys like. like) h.claim (new_builder limit) new a paired is [] refl
