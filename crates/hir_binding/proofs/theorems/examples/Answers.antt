use Rattle.std.proofs.Common.{refl}
use Rattle.hir_binding.proofs.theorems.examples.Goals as goal

pub returns : goal.returns
returns c = record {
  subpattern = refl;
  last_corresponds = refl;
  two_modes = refl;
  one_alternative = refl;
  first_goes = refl;
  new_later = refl;
  back_again = refl;
}
