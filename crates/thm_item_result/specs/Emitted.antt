-- What is told of the parts of an item, one after another: their faults, the blocks that are entered in them, the macro calls, and what
-- the types and lifetimes read back as that are stored.
-- What they leave in a store.
use Rattle.std.specs.Prelude.{List, [], ◌∷◌, None, is_some}
use Rattle.hir_store.specs.Stored.{Store, SourceMap}
use Rattle.hir_env.specs.ResolvedTree as tree
use Rattle.spec_data.specs.Data.{typed}
use Rattle.spec_data.specs.Written.{lifetime_data, type_data}
use Rattle.thm_logic.specs.PathSeen.{whole_read}
use Rattle.thm_body_result.specs.Leads.{Mappings, No, ◌&◌}
use Rattle.thm_body_result.specs.Corresponds.{BoundMappings, Open, TypePartMappings, WholeMappings}
use Rattle.thm_body_result.specs.CorrespondsWhole.{ConstantMappings}
use Rattle.thm_logic.specs.Grades.{grade_bound, grade_constant, grade_type, grade_whole}
use Rattle.thm_logic.specs.Grading.{Grading, if_so}
use Rattle.thm_item_result.specs.Parts as part
use Rattle.thm_item_result.specs.Parts.{Part}

module _ {ℓ} (S : Grading {ℓ}) where
  abbrev pub grade_item_part : Part → S.G
  grade_item_part (part.type_read t) = grade_type S t
  grade_item_part (part.type_made shape) = S.type_as (typed None shape)
  grade_item_part (part.bound_read b) = grade_bound S b
  grade_item_part (part.trait_read at p) =
      S.then' (grade_whole S p) (if_so S (is_some (whole_read p)) (S.type_as (type_data None (tree.path_type at p))))
  grade_item_part (part.constant_read c) = grade_constant S c
  grade_item_part (part.lifetime_read l) = S.lifetime_as (lifetime_data l)
  grade_item_part (part.lifetime_made l) = S.lifetime_as (record { lifetime = l; from = None })
  grade_item_part (part.fault_emitted d) = S.fault d
  grade_item_part part.param_made = S.param
  grade_item_part part.lifetime_param_made = S.none

  abbrev pub grade_item : List Part → S.G
  grade_item [] = S.none
  grade_item (x ∷ xs) = S.then' (grade_item_part x) (grade_item xs)

module _ (store : Store) (source_map : SourceMap) where
  abbrev pub PartMappings : Open → Part → Mappings
  PartMappings rs (part.type_read t) = TypePartMappings store source_map rs (tree.some_type t)
  PartMappings rs (part.bound_read b) = BoundMappings store source_map rs b
  PartMappings rs (part.trait_read at p) = WholeMappings store source_map rs p
  PartMappings rs (part.constant_read c) = ConstantMappings store source_map rs c
  PartMappings rs x = No

  -- one after another
  abbrev pub ItemMappings : Open → List Part → Mappings
  ItemMappings rs [] = No
  ItemMappings rs (x ∷ xs) = PartMappings rs x & ItemMappings rs xs
