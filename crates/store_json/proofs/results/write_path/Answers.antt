use Rattle.std.proofs.Common.{refl}
use Rattle.store_json.proofs.Object.{object_is, rest_end, rest_more}
use Rattle.store_json.proofs.results.write_path.Goals as goal

pub returns : goal.returns
returns c = object_is c.in_ok-begin_object.ensures (rest_more c.in_ok-field.ensures
    (rest_more c.in_ok-field-2.ensures
    (rest_more c.in_ok-field-3.ensures
    (rest_more c.in_ok-field-4.ensures
    (rest_end c.end_object.ensures) refl) refl) refl) refl)
