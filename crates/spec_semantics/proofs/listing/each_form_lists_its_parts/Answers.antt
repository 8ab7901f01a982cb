use Rattle.std.proofs.Common.{refl}
use Rattle.spec_semantics.proofs.listing.each_form_lists_its_parts.Goals as goal

pub returns-clause-exprs : goal.returns-clause-exprs
returns-clause-exprs c at l k n by_move op un bin m r lo i name items called = (
  refl,
  refl,
  refl,
  refl,
  refl,
  refl,
  refl,
  refl,
  refl,
  refl,
  refl,
  refl,
  refl,
  refl,
  refl,
  refl,
  refl,
  refl,
  refl,
  refl,
  refl,
  refl,
  refl,
  refl,
  refl,
  refl,
)

pub returns-clause-types : goal.returns-clause-types
returns-clause-types c at l k un m h binder maybe def called = (refl, refl, refl, refl, refl, refl, refl, refl, refl, refl, refl)

pub returns-clause-pats : goal.returns-clause-pats
returns-clause-pats c at l k n u w form op called = (refl, refl, refl, refl, refl, refl, refl, refl, refl, refl, refl, refl)

pub returns-clause-targets : goal.returns-clause-targets
returns-clause-targets c at l k n o called = (refl, refl, refl, refl, refl, refl)
