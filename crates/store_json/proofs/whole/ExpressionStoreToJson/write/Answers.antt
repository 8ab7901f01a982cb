use Rattle.std.proofs.Common.{ap, refl}
use Rattle.thm_result_json.specs.Codec.{listing, maybe}
use Rattle.thm_result_json.specs.Exprs.{expr, label}
use Rattle.thm_result_json.specs.Maps.{root}
use Rattle.thm_result_json.specs.Numbers.{expr_id}
use Rattle.thm_result_json.specs.Pats.{binding, pat}
use Rattle.thm_result_json.specs.Types.{lifetime, type_ref}
use Rattle.store_json.proofs.Lists.{entries_alone}
use Rattle.store_json.proofs.Object.{object_is, rest_end, rest_more, same_member}
use Rattle.store_json.proofs.whole.ExpressionStoreToJson.write.Goals as goal

pub returns : goal.returns
returns c =
    object_is c.in_ok-begin_object.ensures
    (rest_more (same_member (ap (listing (maybe expr_id)).to c.binding_owners.ensures) c.in_ok-list_field.ensures)
    (rest_more (entries_alone binding _ _ c.bindings.ensures c.in_ok-entries_field.ensures)
    (rest_more (entries_alone expr _ _ c.exprs.ensures c.in_ok-entries_field-2.ensures)
    (rest_more (entries_alone label _ _ c.labels.ensures c.in_ok-entries_field-3.ensures)
    (rest_more (entries_alone lifetime _ _ c.lifetimes-every_lifetime.ensures c.in_ok-entries_field-4.ensures)
    (rest_more (entries_alone pat _ _ c.pats.ensures c.in_ok-entries_field-5.ensures)
    (rest_more (same_member (ap (listing root).to c.expr_roots.ensures) c.in_ok-list_field-2.ensures)
    (rest_more (entries_alone type_ref _ _ c.types.ensures c.in_ok-entries_field-6.ensures)
    (rest_end c.end_object.ensures) refl) refl) refl) refl) refl) refl) refl) refl)
