-- What is asked of a tree, put together of what is asked of its parts.
use Rattle.std.specs.Prelude.{List, [], ◌∷◌, ◌++◌}
use Rattle.thm_frame.specs.Questions.{Question}

pub data Asks : Type 0 where
  nothing : Asks
  ask : Question → Asks
  both : Asks → Asks → Asks

-- as a list
abbrev pub listed : Asks → List Question
listed nothing = []
listed (ask q) = q ∷ []
listed (both x y) = listed x ++ listed y
