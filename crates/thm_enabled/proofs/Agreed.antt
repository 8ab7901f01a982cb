-- Two environments answer alike all that is asked.
use Rattle.hir_env.specs.Answers.{Answers}
use Rattle.thm_frame.specs.Questions.{Alike, AllAlike}
use Rattle.thm_frame.proofs.Framing.{first_alike, rest_alike}
use Rattle.thm_enabled.specs.Asks.{Asks, nothing, ask, both, listed}

abbrev pub Agree : Answers → Answers → Asks → Type 0
Agree a b nothing = Unit {0}
Agree a b (ask q) = Alike a b q
Agree a b (both x y) = Agree a b x × Agree a b y

pub agree_of : (a b : Answers) (x : Asks) → AllAlike a b (listed x) → Agree a b x
agree_of a b nothing h = tt
agree_of a b (ask q) h = h.0
agree_of a b (both x y) h =
    (agree_of a b x (first_alike a b (listed x) (listed y) h), agree_of a b y (rest_alike a b (listed x) (listed y) h))
