use Rattle.std.proofs.Common.{◌∙◌, OnOk, ap, refl, sym, subst}
use Rattle.thm_result_json.specs.Codec.{count_codec, maybe}
use Rattle.thm_result_json.specs.Paths.{flat_binding}
use Rattle.store_json.specs.Append.{Appends}
use Rattle.store_json.proofs.Arguments.{binding_out}
use Rattle.store_json.proofs.Object.{object_is, rest_end, rest_more, same_member}
use Rattle.store_json.proofs.args.write_binding.Goals as goal

pub returns : goal.returns
returns c = λ front fits.
    let out = binding_out c.args.binding.now front in
    let own = c.own_place-own.ensures front fits ∙ ap (λ r. r.1.args) out in
    subst (λ r. OnOk c.end_object.result (Appends ((flat_binding).to r.1) c.args.out.now c.end_object.new.self)) (sym out)
    (object_is c.in_ok-begin_object.ensures (rest_more (same_member (ap (maybe count_codec).to own) c.in_ok-field.ensures)
    (rest_more c.in_ok-field-2.ensures
    (rest_more c.in_ok-field-3.ensures
    (rest_more c.in_ok-field-4.ensures
    (rest_end c.end_object.ensures) refl) refl) refl) refl))
