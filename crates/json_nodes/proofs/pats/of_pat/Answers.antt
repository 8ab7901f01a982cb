use Rattle.std.proofs.Common.{◌∙◌, sym}
use Rattle.json_nodes.proofs.ByKind.{is_named, is_around, is_pieces, is_value, is_partless}
use Rattle.json_nodes.proofs.pats.of_pat.Goals as goal

pub returns-in-IdentPat : goal.returns-in-IdentPat
returns-in-IdentPat g c = λ e. let it = c.named.ensures e in (it.0, it.1 ∙ sym (is_named _ _ c.in-IdentPat.is))

pub returns-in-RefPat : goal.returns-in-RefPat
returns-in-RefPat g c = λ e. let it = c.around.ensures e in (it.0, it.1 ∙ sym (is_around _ _ c.in-RefPat.is))

pub returns-in-RecordPat : goal.returns-in-RecordPat
returns-in-RecordPat g c = λ e. let it = c.pieces.ensures e in (it.0, it.1 ∙ sym (is_pieces _ _ c.in-RecordPat.is))

pub returns-in-LiteralPat : goal.returns-in-LiteralPat
returns-in-LiteralPat g c = λ e. let it = c.values.ensures e in (it.0, it.1 ∙ sym (is_value _ _ c.in-LiteralPat.is))

pub returns-in-CfgPredPat : goal.returns-in-CfgPredPat
returns-in-CfgPredPat g c = λ e. let it = c.partless_pat.ensures e in (it.0, it.1 ∙ sym (is_partless _ _ c.in-CfgPredPat.is))

pub around-requires : goal.around-requires
around-requires g c = c.requires

pub values-requires : goal.values-requires
values-requires g c = c.requires

pub named-requires : goal.named-requires
named-requires g c = c.requires

pub pieces-requires : goal.pieces-requires
pieces-requires g c = c.requires
