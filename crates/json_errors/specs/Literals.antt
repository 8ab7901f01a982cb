-- Texts of literals.
use Rattle.std.specs.Prelude.{ℕ, ◌+◌, ◌*◌, ◌-◌, ◌^◌, ◌==◌, List, [], ◌∷◌, Bool, not, ◌&&◌, ◌||◌, length, nat_lt, bytes_eq, codes}
use Rattle.std.specs.Str.{all_ascii_digits}

-- the number that digits write, after what is written in front of them
abbrev pub written_after : ℕ → List ℕ → ℕ
written_after n [] = n
written_after n (b ∷ bs) = written_after (n * 10 + (b - 48)) bs

-- digits of a number of 128 bits
abbrev pub is_integer : List ℕ → Bool
is_integer t = not (length t == 0) && all_ascii_digits t && nat_lt (written_after 0 t) (2 ^ 128)

abbrev pub is_truth : List ℕ → Bool
is_truth t = bytes_eq t (codes "true") || bytes_eq t (codes "false")
