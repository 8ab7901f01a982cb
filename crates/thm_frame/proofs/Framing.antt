-- How what is made of parts is framed by what frames the parts.
use Rattle.std.proofs.Common.{◌≡◌, ◌∙◌, ap, refl, sym, List, [], ◌∷◌, ◌++◌}
use Rattle.hir_env.specs.Answers.{Answers}
use Rattle.thm_frame.specs.Questions.{AllAlike, AllIn, Area, Framed, InArea, Question}

pub first_alike : (a b : Answers) (qs rs : List Question) → AllAlike a b (qs ++ rs) → AllAlike a b qs
first_alike a b [] rs h = tt
first_alike a b (q ∷ qs) rs h = (h.0, first_alike a b qs rs h.1)

pub rest_alike : (a b : Answers) (qs rs : List Question) → AllAlike a b (qs ++ rs) → AllAlike a b rs
rest_alike a b [] rs h = h
rest_alike a b (q ∷ qs) rs h = rest_alike a b qs rs h.1

all_in : {a : Answers} (area : Area a) (qs rs : List Question) → AllIn area qs → AllIn area rs → AllIn area (qs ++ rs)
all_in area [] rs h k = k
all_in area (q ∷ qs) rs h k = (h.0, all_in area qs rs h.1 k)

module _ {a : Answers} {area : Area a} where
  -- what asks nothing
  pub still : {X : Type 0} (x : X) → Framed area (λ b. x) a
  still x = record { asked = []; there = tt; frame = λ b h. refl }

  -- one question
  pub ask : {X : Type 0} (made : Answers → X) (q : Question) → InArea area q → ((b : Answers) → AllAlike a b (q ∷ []) → made a ≡ made b)
      → Framed area made a
  ask made q k same = record { asked = q ∷ []; there = (k, tt); frame = same }

  pub app : {X Y : Type 0} {g : Answers → X → Y} {f : Answers → X} → Framed area g a → Framed area f a → Framed area (λ b. g b (f b)) a
  app g f = record {
    asked = g.asked ++ f.asked;
    there = all_in area g.asked f.asked g.there f.there;
    frame = λ b h i. g.frame b (first_alike a b g.asked f.asked h) i (f.frame b (rest_alike a b g.asked f.asked h) i);
  }

  pub one : {X Y : Type 0} {f : Answers → X} (g : X → Y) → Framed area f a → Framed area (λ b. g (f b)) a
  one g x = record { asked = x.asked; there = x.there; frame = λ b h i. g (x.frame b h i) }

  pub two : {X Y Z : Type 0} {f : Answers → X} {f2 : Answers → Y} (g : X → Y → Z) → Framed area f a → Framed area f2 a
      → Framed area (λ b. g (f b) (f2 b)) a
  two g x y = app (one g x) y

  pub three : {X Y Z W : Type 0} {f : Answers → X} {f2 : Answers → Y} {f3 : Answers → Z} (g : X → Y → Z → W)
      → Framed area f a → Framed area f2 a → Framed area f3 a → Framed area (λ b. g (f b) (f2 b) (f3 b)) a
  three g x y z = app (app (one g x) y) z

  pub four : {X Y Z W V : Type 0} {f : Answers → X} {f2 : Answers → Y} {f3 : Answers → Z} {f4 : Answers → W} (g : X → Y → Z → W → V)
      → Framed area f a → Framed area f2 a → Framed area f3 a → Framed area f4 a → Framed area (λ b. g (f b) (f2 b) (f3 b) (f4 b)) a
  four g x y z w = app (app (app (one g x) y) z) w

  -- what goes on by what was made before, which only has to be framed where it goes on by what is made here
  pub go_on : {X Y : Type 0} {f : Answers → X} (g : Answers → X → Y) → Framed area f a → Framed area (λ b. g b (f a)) a
      → Framed area (λ b. g b (f b)) a
  go_on {f = f} g x y = record {
    asked = x.asked ++ y.asked;
    there = all_in area x.asked y.asked x.there y.there;
    frame = λ b h. y.frame b (rest_alike a b x.asked y.asked h) ∙ ap (g b) (x.frame b (first_alike a b x.asked y.asked h));
  }

  -- the same, made otherwise
  pub as_made : {X : Type 0} {f g : Answers → X} → ((b : Answers) → g b ≡ f b) → Framed area f a → Framed area g a
  as_made {f = f} {g = g} same x = record { asked = x.asked; there = x.there; frame = λ b h. same a ∙ (x.frame b h ∙ sym (same b)) }
