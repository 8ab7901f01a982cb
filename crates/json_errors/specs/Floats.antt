-- Numbers that are no whole ones of 64 bits, beside a member.
use Rattle.std.specs.Prelude.{ℕ, List, Bool, true, false, not, ◌&&◌, ◌||◌, bytes_eq, if◌then◌else◌}
use Rattle.serde_json.specs.Data.{Data, null, boolean, number, string, array, object, Members, no_members, member}
use Rattle.serde_json.specs.Written.{has_float}

-- one stands in a member other than the first of that name, which was met before, or comes
abbrev pub others_have_float : List ℕ → Bool → Members → Bool
others_have_float name met no_members = false
others_have_float name met (member k d ms) = if not met && bytes_eq name k
    then others_have_float name true ms
    else has_float d || others_have_float name met ms

abbrev pub has_float_beside : List ℕ → Data → Bool
has_float_beside name (object ms) = others_have_float name false ms
has_float_beside name null = false
has_float_beside name (boolean b) = false
has_float_beside name (number n) = has_float (number n)
has_float_beside name (string s) = false
has_float_beside name (array ds) = has_float (array ds)
