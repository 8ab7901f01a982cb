use Rattle.std.proofs.Common.{arith}
use Rattle.std.proofs.lemmas.Grind.{common_steps}
use Rattle.hir_lower_pat.proofs.KindLemmas.{only_plain}
use Rattle.hir_lower_bind.proofs.plain.plain_kind.Goals as goal

pub unreachable-requires : goal.unreachable-requires
unreachable-requires g c = grind (arith, only_plain)

pub alloc_pat-requires-in-ConstBlockPat : goal.alloc_pat-requires-in-ConstBlockPat
alloc_pat-requires-in-ConstBlockPat g c = grind (arith, common_steps, only_plain)

pub returns-in-NotNullPat : goal.returns-in-NotNullPat
returns-in-NotNullPat g c = grind (arith, common_steps, only_plain)

pub returns-in-RestPat : goal.returns-in-RestPat
returns-in-RestPat g c = grind (arith, common_steps, only_plain)

pub alloc_pat-requires-in-RestPat : goal.alloc_pat-requires-in-RestPat
alloc_pat-requires-in-RestPat g c = grind (arith, common_steps, only_plain)

pub returns-in-WildcardPat : goal.returns-in-WildcardPat
returns-in-WildcardPat g c = grind (arith, common_steps, only_plain)

pub alloc_pat-requires : goal.alloc_pat-requires
alloc_pat-requires g c = grind (arith, common_steps, only_plain)

pub returns-in-ConstBlockPat : goal.returns-in-ConstBlockPat
returns-in-ConstBlockPat g c = grind (arith, common_steps, only_plain)

pub alloc_pat-requires-in-NotNullPat : goal.alloc_pat-requires-in-NotNullPat
alloc_pat-requires-in-NotNullPat g c = grind (arith, common_steps, only_plain)
