-- Numbers, nodes and names read back.
use Rattle.std.proofs.Common.{◌≡◌, ◌≤◌, Some, arith, refl}
use Rattle.hir_store.specs.declared.name.Name.{Name}
use Rattle.hir_store.specs.declared.name.Name.TheVariants as name_of
use Rattle.serde_json.specs.Data.{depth}
use Rattle.thm_result_json.specs.Codec.{Faithful, IsNull}
use Rattle.thm_result_json.specs.Numbers.{expr_id, pat_id, binding_id, label_id, type_id, lifetime_id, crate_id, lang_item, cfg, hygiene}
use Rattle.thm_result_json.specs.Numbers.{macro_def, block, type_place, lifetime_place, adt_id, const_id, function_id, impl_id, static_id}
use Rattle.thm_result_json.specs.Numbers.{trait_id, alias_id, file, call, const_ref, data_name, name, name_data, pointer, range}
use Rattle.thm_result_json.proofs.Codecs.{by_mapping, counts, both_faithful, reads}

pub expr_id_theorem : Faithful expr_id 0
expr_id_theorem = by_mapping _ _ (λ i. refl) counts

pub pat_id_theorem : Faithful pat_id 0
pat_id_theorem = by_mapping _ _ (λ i. refl) counts

pub binding_id_theorem : Faithful binding_id 0
binding_id_theorem = by_mapping _ _ (λ i. refl) counts

pub label_id_theorem : Faithful label_id 0
label_id_theorem = by_mapping _ _ (λ i. refl) counts

pub type_id_theorem : Faithful type_id 0
type_id_theorem = by_mapping _ _ (λ i. refl) counts

pub lifetime_id_theorem : Faithful lifetime_id 0
lifetime_id_theorem = by_mapping _ _ (λ i. refl) counts

pub crate_id_theorem : Faithful crate_id 0
crate_id_theorem = by_mapping _ _ (λ i. refl) counts

pub lang_item_theorem : Faithful lang_item 0
lang_item_theorem = by_mapping _ _ (λ i. refl) counts

pub cfg_theorem : Faithful cfg 0
cfg_theorem = by_mapping _ _ (λ i. refl) counts

pub hygiene_theorem : Faithful hygiene 0
hygiene_theorem = by_mapping _ _ (λ i. refl) counts

pub macro_def_theorem : Faithful macro_def 0
macro_def_theorem = by_mapping _ _ (λ i. refl) counts

pub block_theorem : Faithful block 0
block_theorem = by_mapping _ _ (λ i. refl) counts

pub type_place_theorem : Faithful type_place 0
type_place_theorem = by_mapping _ _ (λ i. refl) counts

pub adt_id_theorem : Faithful adt_id 0
adt_id_theorem = by_mapping _ _ (λ i. refl) counts

pub const_id_theorem : Faithful const_id 0
const_id_theorem = by_mapping _ _ (λ i. refl) counts

pub function_id_theorem : Faithful function_id 0
function_id_theorem = by_mapping _ _ (λ i. refl) counts

pub impl_id_theorem : Faithful impl_id 0
impl_id_theorem = by_mapping _ _ (λ i. refl) counts

pub static_id_theorem : Faithful static_id 0
static_id_theorem = by_mapping _ _ (λ i. refl) counts

pub trait_id_theorem : Faithful trait_id 0
trait_id_theorem = by_mapping _ _ (λ i. refl) counts

pub alias_id_theorem : Faithful alias_id 0
alias_id_theorem = by_mapping _ _ (λ i. refl) counts

pub file_theorem : Faithful file 0
file_theorem = by_mapping _ _ (λ i. refl) counts

pub const_ref_theorem : Faithful const_ref 0
const_ref_theorem = by_mapping _ _ (λ c. refl) expr_id_theorem

pub range_theorem : Faithful range 1
range_theorem = by_mapping _ _ (λ r. refl) (both_faithful (reads counts) (reads counts))

pub call_theorem : Faithful call 1
call_theorem = by_mapping _ _ (λ p. refl) (both_faithful (reads counts) (reads counts))

pub pointer_theorem : Faithful pointer 1
pointer_theorem = record { back = λ p. refl; solid = λ p h. h; depths = λ p. omega arith }

name_back : (n : Name) → data_name (name_data n) ≡ Some n
name_back (name_of.Text t) = refl
name_back name_of.Missing = refl
name_back (name_of.Generated n) = refl

name_solid : (n : Name) → IsNull (name_data n) → ⊥
name_solid (name_of.Text t) h = h
name_solid name_of.Missing h = h
name_solid (name_of.Generated n) h = h

name_depths : (n : Name) → depth (name_data n) ≤ 0
name_depths (name_of.Text t) = omega arith
name_depths name_of.Missing = omega arith
name_depths (name_of.Generated n) = omega arith

pub name_theorem : Faithful name 0
name_theorem = record { back = name_back; solid = name_solid; depths = name_depths }
