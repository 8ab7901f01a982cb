use Rattle.std.proofs.Common.{arith, ◌≡◌, None, Ok}
use Rattle.std.proofs.lemmas.Grind.{common_steps}
use Rattle.hir_env.specs.ResolvedTree as tree
use Rattle.hir_env.specs.LocalPaths as crate_local
use Rattle.hir_lower_builder.specs.Lower as spec
use Rattle.hir_lower_builder.specs.declared.walk.Reading.TheVariants.{Refused}
use Rattle.hir_lower_path.proofs.Rooted.{absent_read, refused_read}
use Rattle.hir_lower_path.proofs.local.absent_path.Goals as goal

pub returns-in_ok-named : goal.returns-in_ok-named
returns-in_ok-named g c =
    let plain = tree.path None c.args.leading tree.absent_segment tree.no_segments tree.no_path in
    let e : spec.read_path (crate_local.or_broken c.args.leading plain) c.args.walk c.args.state.now
    ≡ (Ok c.in_ok-named.field-0, c.args.state.now) =
    absent_read c.args.leading c.args.walk c.at_first.result c.args.state.now c.in_ok-named.field-0 c.if-leading.true
    c.at_first.ensures.value c.in_ok-named.ensures.value in
    grind (arith, common_steps)

pub returns-else-leading : goal.returns-else-leading
returns-else-leading g c =
    let plain = tree.path None c.args.leading tree.absent_segment tree.no_segments tree.no_path in
    let e : spec.read_path (crate_local.or_broken c.args.leading plain) c.args.walk c.args.state.now ≡ (Ok Refused, c.args.state.now) =
    refused_read c.args.leading c.args.walk c.args.state.now c.if-leading.false in
    grind (arith, common_steps)
