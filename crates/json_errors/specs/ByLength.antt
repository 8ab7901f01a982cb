-- Kinds by the length of their words.
use Rattle.std.specs.Prelude.{ℕ, List, [], ◌∷◌, Option, length, ◌==◌, if◌then◌else◌}
use Rattle.json_errors.specs.ByWord.{or_else}
use Rattle.json_errors.specs.Table.{row, kind_with, exprs, operations, keywords, typed, branches, pats, other_pats}
use Rattle.json_errors.specs.Table.{types, other_types, paths, type_parts, macros, items, others}
use Rattle.json_errors.specs.declared.kind.Kind.{Kind}

-- those of some kinds whose words have the length
abbrev pub keep : ℕ → List Kind → List Kind
keep n [] = []
keep n (k ∷ ks) = if length (row k).word == n then k ∷ keep n ks else keep n ks

-- the kind with a word of that length
abbrev pub kind_of_length : ℕ → List ℕ → Option Kind
kind_of_length n t = or_else (or_else (kind_with (keep n exprs) t) (or_else (kind_with (keep n operations) t)
    (or_else (kind_with (keep n keywords) t) (or_else (kind_with (keep n typed) t) (kind_with (keep n branches) t)))))
    (or_else (or_else (kind_with (keep n pats) t) (kind_with (keep n other_pats) t))
    (or_else (or_else (kind_with (keep n types) t) (kind_with (keep n other_types) t))
    (or_else (kind_with (keep n paths) t) (or_else (kind_with (keep n type_parts) t) (or_else (kind_with (keep n macros) t)
    (or_else (kind_with (keep n items) t) (kind_with (keep n others) t)))))))
