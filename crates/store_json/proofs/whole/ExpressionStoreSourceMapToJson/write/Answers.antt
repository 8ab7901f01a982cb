use Rattle.std.proofs.Common.{ap, refl}
use Rattle.thm_result_json.specs.Codec.{both, listing, maybe}
use Rattle.thm_result_json.specs.Maps.{diagnostic, expanded_call}
use Rattle.thm_result_json.specs.Numbers.{block, expr_id, label_id, lifetime_id, pat_id, pointer, type_id}
use Rattle.store_json.proofs.Object.{object_is, rest_end, rest_more, same_member}
use Rattle.store_json.proofs.whole.ExpressionStoreSourceMapToJson.write.Goals as goal

pub returns : goal.returns
returns c =
    object_is c.in_ok-begin_object.ensures
    (rest_more (same_member (ap (listing (listing pat_id)).to c.definitions.ensures) c.in_ok-list_field.ensures)
    (rest_more (same_member (ap (listing block).to c.block_scopes.ensures) c.in_ok-list_field-2.ensures)
    (rest_more (same_member (ap (listing diagnostic).to c.diagnostics.ensures) c.in_ok-list_field-3.ensures)
    (rest_more (same_member (ap (listing expanded_call).to c.expansions.ensures) c.in_ok-list_field-4.ensures)
    (rest_more (same_member (ap (listing (both pointer expr_id)).to c.expr_entries.ensures) c.in_ok-list_field-5.ensures)
    (rest_more (same_member (ap (listing (maybe pointer)).to c.expr_sources.ensures) c.in_ok-list_field-6.ensures)
    (rest_more (same_member (ap (listing (both expr_id pointer)).to c.field_entries.ensures) c.in_ok-list_field-7.ensures)
    (rest_more (same_member (ap (listing (both pointer label_id)).to c.label_entries.ensures) c.in_ok-list_field-8.ensures)
    (rest_more (same_member (ap (listing (maybe pointer)).to c.label_sources.ensures) c.in_ok-list_field-9.ensures)
    (rest_more (same_member (ap (listing (both pointer lifetime_id)).to c.lifetime_entries.ensures) c.in_ok-list_field-10.ensures)
    (rest_more (same_member (ap (listing (maybe pointer)).to c.lifetime_sources.ensures) c.in_ok-list_field-11.ensures)
    (rest_more (same_member (ap (listing (both pat_id pointer)).to c.pat_field_entries.ensures) c.in_ok-list_field-12.ensures)
    (rest_more (same_member (ap (listing (both pointer pat_id)).to c.pat_entries.ensures) c.in_ok-list_field-13.ensures)
    (rest_more (same_member (ap (listing (maybe pointer)).to c.pat_sources.ensures) c.in_ok-list_field-14.ensures)
    (rest_more (same_member (ap (listing (both pointer pat_id)).to c.target_entries.ensures) c.in_ok-list_field-15.ensures)
    (rest_more (same_member (ap (listing (maybe pointer)).to c.type_sources.ensures) c.in_ok-list_field-16.ensures)
    (rest_more (same_member (ap (listing (both pointer type_id)).to c.type_entries.ensures) c.in_ok-list_field-17.ensures)
    (rest_end c.end_object.ensures) refl) refl) refl) refl) refl) refl) refl) refl) refl) refl) refl) refl) refl) refl) refl) refl) refl)
