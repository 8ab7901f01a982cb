-- The words that fields hold.
use Rattle.std.specs.Prelude.{ℕ, List, [], ◌∷◌, ◌++◌, map, codes}
use Rattle.json_errors.specs.declared.words.Words.{Words}
use Rattle.json_errors.specs.declared.words.Words.TheVariants as set

abbrev literals : List (List ℕ)
literals = codes "str" ∷ codes "bytestr" ∷ codes "cstr" ∷ codes "char" ∷ codes "bool" ∷ codes "int" ∷ codes "float" ∷ []

-- what a segment of a path is written as
abbrev segments : List (List ℕ)
segments = codes "name" ∷ codes "self" ∷ codes "crate" ∷ codes "super" ∷ codes "Self" ∷ codes "type" ∷ []

abbrev comparisons : List (List ℕ)
comparisons = codes "==" ∷ codes "!=" ∷ codes "<=" ∷ codes "<" ∷ codes ">=" ∷ codes ">" ∷ []

abbrev ariths : List (List ℕ)
ariths = codes "+" ∷ codes "*" ∷ codes "-" ∷ codes "/" ∷ codes "%" ∷ codes "<<" ∷ codes ">>" ∷ codes "^" ∷ codes "|" ∷ codes "&" ∷ []

abbrev binary_ops : List (List ℕ)
binary_ops = codes "||" ∷ codes "&&" ∷ (comparisons ++ (ariths ++ codes "=" ∷ map (λ w. w ++ codes "=") ariths))

-- what a path may stand for, except for aliases
abbrev pub resolutions : List (List ℕ)
resolutions = codes "module" ∷ codes "function" ∷ codes "struct" ∷ codes "union" ∷ codes "enum" ∷ codes "variant"
    ∷ codes "const" ∷ codes "static" ∷ codes "trait" ∷ codes "builtin" ∷ []

-- the items that the language itself names, in the order of their numbers
abbrev pub lang_names : List (List ℕ)
lang_names = codes "RangeFull" ∷ codes "RangeFrom" ∷ codes "RangeFromCopy" ∷ codes "RangeTo" ∷ codes "RangeCopy"
    ∷ codes "Range" ∷ codes "RangeToInclusiveCopy" ∷ codes "RangeToInclusive" ∷ codes "RangeInclusiveCopy"
    ∷ codes "RangeInclusiveNew" ∷ codes "TryTraitFromOutput" ∷ codes "TryTraitBranch" ∷ codes "ControlFlowContinue"
    ∷ codes "ControlFlowBreak" ∷ codes "ResidualIntoTryType" ∷ codes "TryTraitFromResidual" ∷ codes "IntoIterIntoIter"
    ∷ codes "IteratorNext" ∷ codes "OptionSome" ∷ codes "OptionNone" ∷ codes "RangeMin" ∷ codes "RangeMax"
    ∷ codes "RangeSub" ∷ []

-- the words of a set
abbrev pub words : Words → List (List ℕ)
words set.Literals = literals
words set.Segments = segments
words set.Bounds = codes "path" ∷ codes "use" ∷ codes "lifetime" ∷ []
words set.Modifiers = codes "unsafe" ∷ codes "try" ∷ codes "const" ∷ codes "async" ∷ codes "gen" ∷ codes "asyncgen" ∷ []
words set.UnaryOps = codes "*" ∷ codes "!" ∷ codes "-" ∷ []
words set.BinaryOps = binary_ops
words set.RangeOps = codes ".." ∷ codes "..=" ∷ []
words set.Owners = codes "fn" ∷ codes "static" ∷ codes "const" ∷ codes "variant" ∷ []
words set.Containers = codes "module" ∷ codes "extern" ∷ codes "impl" ∷ codes "trait" ∷ []
words set.Resolutions = resolutions
words set.LangItems = lang_names
