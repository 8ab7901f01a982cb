use Rattle.std.proofs.Common.{OnOk, refl, sym, subst}
use Rattle.thm_result_json.specs.Paths.{flat_args}
use Rattle.store_json.specs.Append.{Appends}
use Rattle.store_json.proofs.Arguments.{args_out}
use Rattle.store_json.proofs.Object.{object_is, rest_end, rest_more}
use Rattle.store_json.proofs.args.write_entry.Goals as goal

pub returns : goal.returns
returns c = λ front fits.
    subst (λ r. OnOk c.end_object.result (Appends ((flat_args).to r.1) c.args.out.now c.end_object.new.self))
    (sym (args_out c.args.args.now front))
    (object_is c.in_ok-begin_object.ensures (rest_more c.in_ok-field.ensures
    (rest_more (c.in_ok-bindings_field.ensures front fits)
    (rest_more c.in_ok-field-2.ensures
    (rest_more c.in_ok-field-3.ensures
    (rest_end c.end_object.ensures) refl) refl) refl) refl))
