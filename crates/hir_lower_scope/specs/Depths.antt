-- At which depths something is open.
use Rattle.std.specs.Prelude.{◌≡◌, ◌<◌, ℕ, nat_lt, if◌then◌else◌, Bool, true, false, Option, Some, None}
use Rattle.std.specs.Ordering.{ordering_then, nat_cmp}
use Rattle.std.specs.declared.cmp.Ordering.{Ordering}

-- by what it is, and then by depth
abbrev pub by_key : {K : Type 0} → (K → K → Ordering) → K × ℕ → K × ℕ → Ordering
by_key cmp x y = ordering_then (cmp x.0 y.0) (nat_cmp x.1 y.1)

-- the greatest number below this one of which this holds; or none, where it holds of none
abbrev pub IsDeepest : (ℕ → Bool) → ℕ → Option ℕ → Type 0
IsDeepest is below None = (r : ℕ) → r < below → is r ≡ false
IsDeepest is below (Some q) = (q < below) × (is q ≡ true) × ((r : ℕ) → q < r → r < below → is r ≡ false)

abbrev pub deeper : Option ℕ → Option ℕ → Option ℕ
deeper None r = r
deeper (Some l) None = Some l
deeper (Some l) (Some r) = Some (if nat_lt l r then r else l)
