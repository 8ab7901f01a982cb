use Rattle.std.proofs.Common.{codes, map, subst}
use Rattle.std.proofs.lemmas.Result.{on_ok_weaker}
use Rattle.thm_result_json.specs.Arguments.{all_bindings, binding_behind}
use Rattle.thm_result_json.specs.Codec.{listing}
use Rattle.thm_result_json.specs.Paths.{flat_binding}
use Rattle.store_json.specs.Append.{AppendsMember}
use Rattle.store_json.proofs.Entry.{member_is}
use Rattle.store_json.proofs.args.bindings_field.Goals as goal

pub returns : goal.returns
returns c = λ front fits.
    on_ok_weaker c.write_bindings.result (λ t.
    subst (λ xs. AppendsMember (codes "bindings") ((listing flat_binding).to (all_bindings (map binding_behind xs) front).1)
    c.args.out.now c.write_bindings.new.out) c.as_slice.ensures (member_is c.in_ok-key.ensures t)) (c.write_bindings.ensures front fits)
