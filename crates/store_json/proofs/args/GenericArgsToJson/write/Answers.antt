use Rattle.std.proofs.Common.{[], refl}
use Rattle.store_json.proofs.Entry.{list_is}
use Rattle.store_json.proofs.args.GenericArgsToJson.write.Goals as goal

pub returns : goal.returns
returns c =
    let begun = c.begin_array.new.self in
    list_is c.in_ok-begin_array.ensures
    (c.in_ok-write_args.ensures [] begun (record { text = refl; reads = tt; as_many = refl; before = refl }))
    c.end_array.ensures
