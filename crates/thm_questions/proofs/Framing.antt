-- How what is made of parts is framed by the lists of the parts, and how these stand in an area that holds the nodes of the parts.
use Rattle.std.proofs.Common.{◌≡◌, ◌∙◌, ap, refl, sym, subst, true, List, [], ◌∷◌, ◌++◌}
use Rattle.hir_base.specs.declared.node.HirFileId.{HirFileId}
use Rattle.hir_base.specs.declared.node.NodeId.{NodeId}
use Rattle.hir_store.specs.declared.ids.ModuleId.{ModuleId}
use Rattle.hir_env.specs.Answers.{Answers}
use Rattle.hir_env.specs.declared.ctx.LowerCtx.{LowerCtx}
use Rattle.thm_frame.specs.Questions.{AllAlike, Question}
use Rattle.thm_questions.specs.Areas.{AllInNodes, AllThere, InNodes, NodeArea}

-- What is made of answers, with these nodes of a file in a module, and these questions: they are asked in the area where it holds the
-- nodes, and each environment that answers them as this one has the same made of it.
pub record ByList {X : Type 0} {a : Answers} (area : NodeArea a) (f : HirFileId) (m : ModuleId) (ns : List NodeId) (made : Answers → X)
    (qs : List Question) : Type 0 where
  pub there : area.inside m ≡ true → AllThere area f ns → AllInNodes area qs
  pub same : (b : Answers) → AllAlike a b qs → made a ≡ made b

abbrev pub At : {X : Type 0} {a : Answers} → NodeArea a → LowerCtx → List NodeId → (Answers → X) → List Question → Type 0
At area p ns made qs = ByList area p.file_id p.module_id ns made qs

pub first_alike : (a b : Answers) (qs rs : List Question) → AllAlike a b (qs ++ rs) → AllAlike a b qs
first_alike a b [] rs h = tt
first_alike a b (q ∷ qs) rs h = (h.0, first_alike a b qs rs h.1)

pub rest_alike : (a b : Answers) (qs rs : List Question) → AllAlike a b (qs ++ rs) → AllAlike a b rs
rest_alike a b [] rs h = h
rest_alike a b (q ∷ qs) rs h = rest_alike a b qs rs h.1

pub first_there : {a : Answers} (area : NodeArea a) (f : HirFileId) (ns ms : List NodeId) → AllThere area f (ns ++ ms)
    → AllThere area f ns
first_there area f [] ms h = tt
first_there area f (n ∷ ns) ms h = (h.0, first_there area f ns ms h.1)

pub rest_there : {a : Answers} (area : NodeArea a) (f : HirFileId) (ns ms : List NodeId) → AllThere area f (ns ++ ms)
    → AllThere area f ms
rest_there area f [] ms h = h
rest_there area f (n ∷ ns) ms h = rest_there area f ns ms h.1

-- where each node of a file is there
pub all_there : {a : Answers} (area : NodeArea a) (f : HirFileId) → ((id : NodeId) → area.node (record { file_id = f; value = id }) ≡ true)
    → (ns : List NodeId) → AllThere area f ns
all_there area f h [] = tt
all_there area f h (n ∷ ns) = (h n, all_there area f h ns)

pub all_in : {a : Answers} (area : NodeArea a) (qs rs : List Question) → AllInNodes area qs → AllInNodes area rs
    → AllInNodes area (qs ++ rs)
all_in area [] rs h k = k
all_in area (q ∷ qs) rs h k = (h.0, all_in area qs rs h.1 k)

module _ {a : Answers} {area : NodeArea a} {file : HirFileId} {m : ModuleId} where
  -- what asks nothing, whatever nodes are in it, and where none are
  pub none : {X : Type 0} {ns : List NodeId} (x : X) → ByList area file m ns (λ b. x) []
  none x = record { there = λ i h. tt; same = λ b h. refl }

  pub still : {X : Type 0} (x : X) → ByList area file m [] (λ b. x) []
  still x = none x

  -- one question
  pub ask : {X : Type 0} (ns : List NodeId) (made : Answers → X) (q : Question)
      → (area.inside m ≡ true → AllThere area file ns → InNodes area q)
      → ((b : Answers) → AllAlike a b (q ∷ []) → made a ≡ made b) → ByList area file m ns made (q ∷ [])
  ask ns made q k same = record { there = λ i h. (k i h, tt); same = same }

  pub app : {X Y : Type 0} {g : Answers → X → Y} {f : Answers → X} {ns ms : List NodeId} {qs rs : List Question}
      → ByList area file m ns g qs → ByList area file m ms f rs → ByList area file m (ns ++ ms) (λ b. g b (f b)) (qs ++ rs)
  app {ns = ns} {ms = ms} {qs = qs} {rs = rs} g f = record {
    there = λ i h. all_in area qs rs (g.there i (first_there area file ns ms h)) (f.there i (rest_there area file ns ms h));
    same = λ b h i. g.same b (first_alike a b qs rs h) i (f.same b (rest_alike a b qs rs h) i);
  }

  pub one : {X Y : Type 0} {f : Answers → X} {ns : List NodeId} {qs : List Question} (g : X → Y) → ByList area file m ns f qs
      → ByList area file m ns (λ b. g (f b)) qs
  one g x = record { there = x.there; same = λ b h i. g (x.same b h i) }

  pub two : {X Y Z : Type 0} {f : Answers → X} {f2 : Answers → Y} {ns ms : List NodeId} {qs rs : List Question} (g : X → Y → Z)
      → ByList area file m ns f qs → ByList area file m ms f2 rs → ByList area file m (ns ++ ms) (λ b. g (f b) (f2 b)) (qs ++ rs)
  two g x y = app (one g x) y

  pub three : {X Y Z W : Type 0} {f : Answers → X} {f2 : Answers → Y} {f3 : Answers → Z} {ns ms ks : List NodeId} {qs rs ss : List Question}
      (g : X → Y → Z → W) → ByList area file m ns f qs → ByList area file m ms f2 rs → ByList area file m ks f3 ss
      → ByList area file m (ns ++ (ms ++ ks)) (λ b. g (f b) (f2 b) (f3 b)) (qs ++ (rs ++ ss))
  three {Y = Y} {Z = Z} g x y z = app {X = Y × Z} (one (λ u v. g u v.0 v.1) x) (two (λ v w. (v, w)) y z)

  pub four : {X Y Z W V : Type 0} {f : Answers → X} {f2 : Answers → Y} {f3 : Answers → Z} {f4 : Answers → W} {ns ms ks ls : List NodeId}
      {qs rs ss ts : List Question} (g : X → Y → Z → W → V) → ByList area file m ns f qs → ByList area file m ms f2 rs
      → ByList area file m ks f3 ss → ByList area file m ls f4 ts
      → ByList area file m (ns ++ (ms ++ (ks ++ ls))) (λ b. g (f b) (f2 b) (f3 b) (f4 b)) (qs ++ (rs ++ (ss ++ ts)))
  four {Y = Y} {Z = Z} {W = W} g x y z w = app {X = Y × (Z × W)} (one (λ u v. g u v.0 v.1.0 v.1.1) x) (three (λ u v w. (u, (v, w))) y z w)

  -- what goes on by what was made before, which only has to be framed where it goes on by what is made here
  pub go_on : {X Y : Type 0} {f : Answers → X} {ns ms : List NodeId} {qs rs : List Question} (g : Answers → X → Y)
      → ByList area file m ns f qs → ByList area file m ms (λ b. g b (f a)) rs
      → ByList area file m (ns ++ ms) (λ b. g b (f b)) (qs ++ rs)
  go_on {f = f} {ns = ns} {ms = ms} {qs = qs} {rs = rs} g x y = record {
    there = λ i h. all_in area qs rs (x.there i (first_there area file ns ms h)) (y.there i (rest_there area file ns ms h));
    same = λ b h. y.same b (rest_alike a b qs rs h) ∙ ap (g b) (x.same b (first_alike a b qs rs h));
  }

  -- the same, of the same nodes
  pub also : {X Y : Type 0} {f : Answers → X} {ns : List NodeId} {qs rs : List Question} (g : Answers → X → Y)
      → ByList area file m ns f qs → ByList area file m ns (λ b. g b (f a)) rs → ByList area file m ns (λ b. g b (f b)) (qs ++ rs)
  also {f = f} {qs = qs} {rs = rs} g x y = record {
    there = λ i h. all_in area qs rs (x.there i h) (y.there i h);
    same = λ b h. y.same b (rest_alike a b qs rs h) ∙ ap (g b) (x.same b (first_alike a b qs rs h));
  }

  -- what goes on without a question
  pub no_more : {X : Type 0} {f : Answers → X} {ns : List NodeId} {qs : List Question} → ByList area file m ns f qs
      → ByList area file m ns f (qs ++ [])
  no_more {f = f} x = also (λ b y. y) x (none (f a))

  -- two that are made of the same questions
  pub both : {X Y : Type 0} {f : Answers → X} {g : Answers → Y} {ns : List NodeId} {qs : List Question}
      → ByList area file m ns f qs → ByList area file m ns g qs → ByList {X = X × Y} area file m ns (λ b. (f b, g b)) qs
  both x y = record { there = x.there; same = λ b h i. (x.same b h i, y.same b h i) }

  -- one that other questions stand in front of
  pub behind : {X : Type 0} {f : Answers → X} (ns : List NodeId) (qs : List Question) {ms : List NodeId} {rs : List Question}
      → (area.inside m ≡ true → AllThere area file ns → AllInNodes area qs) → ByList area file m ms f rs
      → ByList area file m (ns ++ ms) f (qs ++ rs)
  behind ns qs {ms = ms} {rs = rs} k x = record {
    there = λ i h. all_in area qs rs (k i (first_there area file ns ms h)) (x.there i (rest_there area file ns ms h));
    same = λ b h. x.same b (rest_alike a b qs rs h);
  }

  -- where the area holds other nodes, of another file or in another module
  pub of_these : {X : Type 0} {f : Answers → X} {g : HirFileId} {k : ModuleId} {ns ms : List NodeId} {qs : List Question}
      → (area.inside m ≡ true → AllThere area file ns → (area.inside k ≡ true) × AllThere area g ms) → ByList area g k ms f qs
      → ByList area file m ns f qs
  of_these h x = record { there = λ i k. let l = h i k in x.there l.0 l.1; same = x.same }

  pub no_node : {X : Type 0} {f : Answers → X} {ns : List NodeId} {qs : List Question} → ByList area file m [] f qs
      → ByList area file m ns f qs
  no_node x = of_these (λ i h. (i, tt)) x

  -- the same, made otherwise, of nodes and questions that are listed otherwise
  pub as_made : {X : Type 0} {f g : Answers → X} {ns ms : List NodeId} {qs rs : List Question} → ((b : Answers) → g b ≡ f b) → ms ≡ ns
      → rs ≡ qs → ByList area file m ns f qs → ByList area file m ms g rs
  as_made {f = f} {g = g} {rs = rs} made nodes asked x = record {
    there = λ i h. subst (AllInNodes area) (sym asked) (x.there i (subst (AllThere area file) nodes h));
    same = λ b h. made a ∙ (x.same b (subst (AllAlike a b) asked h) ∙ sym (made b));
  }

  pub as_listed : {X : Type 0} {f : Answers → X} {ns : List NodeId} {qs rs : List Question} → rs ≡ qs → ByList area file m ns f qs
      → ByList area file m ns f rs
  as_listed asked x = as_made (λ b. refl) refl asked x
