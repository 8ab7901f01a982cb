-- What is read while memory may be refused.
use Rattle.std.specs.Prelude.{◌≡◌, Bool, false}

-- where memory is not refused by now, it was not before, and the claim holds
abbrev pub Kept : Bool → Bool → Type 0 → Type 0
Kept old new claim = new ≡ false → (old ≡ false) × claim
