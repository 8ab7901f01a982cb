use Rattle.std.proofs.Common.{◌∙◌, ap, length, sym}
use Rattle.serde_json.proofs.Views.{view-Object}
use Rattle.serde_json.specs.View.{view}
use Rattle.json_errors.specs.Members.{pairs_of}
use Rattle.json_errors.proofs.Sides.{count}
use Rattle.json_errors.proofs.members.count.Goals as goal

pub returns-in-Object : goal.returns-in-Object
returns-in-Object c = c.len.ensures.len ∙ sym (count c.in-Object.members.entries)
    ∙ ap (λ d. length (pairs_of d)) (sym (ap view c.in-Object.is ∙ view-Object c.in-Object.members))
