-- All that is inside the expressions that are left, in order.
use Rattle.std.proofs.Common.{arith, ◌≡◌, ◌∙◌, refl, sym, ap, ◌+◌, ◌<◌, ◌≤◌, ℕ, zero, suc, Bool, true, false, if◌then◌else◌}
use Rattle.std.proofs.Common.{List, [], ◌∷◌, ◌++◌, Option, Some, None, length, length-append, reverse}
use Rattle.std.proofs.lemmas.Bool.Decides.{nat_tests}
use Rattle.std.proofs.lemmas.List.{append_assoc, append-nil, reverse-append}
use Rattle.std.specs.List.{flat_map}
use Rattle.std.specs.Prelude.{nat_lt}
use Rattle.hir_store.specs.Stored.{Store}
use Rattle.hir_store.specs.declared.ids.ExprId.{ExprId}
use Rattle.hir_names.specs.Upvars.{exprs_in, exprs_of_body, exprs_to, if_below, parts_of}

flat_same : {A B : Type 0} (f g : A → List B) (xs : List A) → ((x : A) → f x ≡ g x) → flat_map f xs ≡ flat_map g xs
flat_same f g [] same = refl
flat_same f g (x ∷ xs) same = ap (λ ys. ys ++ flat_map f xs) (same x) ∙ ap (λ ys. g x ++ ys) (flat_same f g xs same)

flat_last : {A B : Type 0} (f : A → List B) (xs : List A) (x : A) → flat_map f (xs ++ x ∷ []) ≡ flat_map f xs ++ f x
flat_last f [] x = append-nil (f x)
flat_last f (y ∷ xs) x = ap (λ zs. f y ++ zs) (flat_last f xs x) ∙ sym (append_assoc (f y) (flat_map f xs) (f x))

module _ (store : Store) where
  one_part : (d n : ℕ) (e c : ExprId) (t : Bool) → nat_lt c.0 e.0 ≡ t → (c.0 < e.0 → exprs_to store d c ≡ exprs_to store n c)
      → (if t then exprs_to store d c else []) ≡ (if t then exprs_to store n c else [])
  one_part d n e c true below same = let inside : c.0 < e.0 = grind (arith, nat_tests) in same inside
  one_part d n e c false below same = refl

  -- more levels change nothing
  deeper : (d n : ℕ) (e : ExprId) → e.0 < d → e.0 < n → exprs_to store d e ≡ exprs_to store n e
  unfolding exprs_to
  deeper zero n e less more = absurd (omega (arith, less))
  deeper (suc d) zero e less more = absurd (omega (arith, more))
  deeper (suc d) (suc n) e less more =
      ap (λ es. e ∷ es)
      (flat_same (if_below store e (exprs_to store d)) (if_below store e (exprs_to store n)) (parts_of store e)
      (λ c. one_part d n e c (nat_lt c.0 e.0) refl
      (λ inside. deeper d n c (omega (arith, inside, less)) (omega (arith, inside, more)))))

  -- the expression, and then all inside its parts
  first_then_parts : (e : ExprId) → exprs_in store e ≡ e ∷ flat_map (if_below store e (exprs_in store)) (parts_of store e)
  unfolding exprs_to
  first_then_parts e =
      ap (λ es. e ∷ es)
      (flat_same (if_below store e (exprs_to store e.0)) (if_below store e (exprs_in store)) (parts_of store e)
      (λ c. one_part e.0 (suc c.0) e c (nat_lt c.0 e.0) refl (λ inside. deeper e.0 (suc c.0) c inside (omega arith))))

  pub left_last : (es : List ExprId) (e : ExprId) → flat_map (exprs_in store) (reverse (es ++ e ∷ []))
      ≡ exprs_in store e ++ flat_map (exprs_in store) (reverse es)
  left_last es e = ap (flat_map (exprs_in store)) (reverse-append es (e ∷ []))

  -- one part is put on top, if it is below the whole
  pub part_added : (es fs : List ExprId) (whole part : ExprId) → part.0 < whole.0 → fs ≡ es ++ part ∷ []
      → flat_map (exprs_in store) (reverse fs)
      ≡ if_below store whole (exprs_in store) part ++ flat_map (exprs_in store) (reverse es)
  part_added es fs whole part less is =
      let below : nat_lt part.0 whole.0 ≡ true = grind (arith, nat_tests) in
      ap (λ gs. flat_map (exprs_in store) (reverse gs)) is
      ∙ (left_last es part
      ∙ ap (λ (t : Bool). (if t then exprs_in store part else []) ++ flat_map (exprs_in store) (reverse es)) (sym below))

  pub part_passed : (es : List ExprId) (whole part : ExprId) → whole.0 ≤ part.0
      → flat_map (exprs_in store) (reverse es)
      ≡ if_below store whole (exprs_in store) part ++ flat_map (exprs_in store) (reverse es)
  part_passed es whole part more =
      let above : nat_lt part.0 whole.0 ≡ false = grind (arith, nat_tests) in
      ap (λ (t : Bool). (if t then exprs_in store part else []) ++ flat_map (exprs_in store) (reverse es)) (sym above)

  -- the last of these parts is put on top
  pub last_added : (parts rest : List ExprId) (part whole : ExprId) (es fs : List ExprId) → parts ≡ rest ++ part ∷ []
      → flat_map (exprs_in store) (reverse fs)
      ≡ if_below store whole (exprs_in store) part ++ flat_map (exprs_in store) (reverse es)
      → flat_map (if_below store whole (exprs_in store)) parts ++ flat_map (exprs_in store) (reverse es)
      ≡ flat_map (if_below store whole (exprs_in store)) rest ++ flat_map (exprs_in store) (reverse fs)
  last_added parts rest part whole es fs is added =
      ap (λ gs. flat_map (if_below store whole (exprs_in store)) gs ++ flat_map (exprs_in store) (reverse es)) is
      ∙ (ap (λ gs. gs ++ flat_map (exprs_in store) (reverse es)) (flat_last (if_below store whole (exprs_in store)) rest part)
      ∙ (append_assoc (flat_map (if_below store whole (exprs_in store)) rest) (if_below store whole (exprs_in store) part)
      (flat_map (exprs_in store) (reverse es))
      ∙ ap (λ gs. flat_map (if_below store whole (exprs_in store)) rest ++ gs) (sym added)))

  pub none_added : (parts es : List ExprId) (whole : ExprId) → parts ≡ []
      → flat_map (if_below store whole (exprs_in store)) parts ++ flat_map (exprs_in store) (reverse es)
      ≡ flat_map (exprs_in store) (reverse es)
  none_added parts es whole none =
      ap (λ gs. flat_map (if_below store whole (exprs_in store)) gs ++ flat_map (exprs_in store) (reverse es)) none

  -- one expression is taken from the top, and its parts are put there
  pub next_expr : (left rest more parts done next : List ExprId) (e : ExprId) → left ≡ rest ++ e ∷ [] → next ≡ done ++ e ∷ []
      → parts ≡ parts_of store e
      → flat_map (exprs_in store) (reverse more)
      ≡ flat_map (if_below store e (exprs_in store)) parts ++ flat_map (exprs_in store) (reverse rest)
      → done ++ flat_map (exprs_in store) (reverse left) ≡ next ++ flat_map (exprs_in store) (reverse more)
  next_expr left rest more parts done next e is pushed named added =
      ap (λ gs. done ++ flat_map (exprs_in store) (reverse gs)) is
      ∙ (ap (λ gs. done ++ gs) (left_last rest e)
      ∙ (ap (λ gs. done ++ (gs ++ flat_map (exprs_in store) (reverse rest))) (first_then_parts e)
      ∙ (ap (λ gs. done ++ (e ∷ (flat_map (if_below store e (exprs_in store)) gs ++ flat_map (exprs_in store) (reverse rest)))) (sym named)
      ∙ (ap (λ gs. done ++ (e ∷ gs)) (sym added)
      ∙ (sym (append_assoc done (e ∷ []) (flat_map (exprs_in store) (reverse more)))
      ∙ ap (λ gs. gs ++ flat_map (exprs_in store) (reverse more)) (sym pushed))))))

  pub fewer_left : (left rest more parts : List ExprId) (e : ExprId) → left ≡ rest ++ e ∷ [] → parts ≡ parts_of store e
      → flat_map (exprs_in store) (reverse more)
      ≡ flat_map (if_below store e (exprs_in store)) parts ++ flat_map (exprs_in store) (reverse rest)
      → length (flat_map (exprs_in store) (reverse more)) < length (flat_map (exprs_in store) (reverse left))
  fewer_left left rest more parts e is named added =
      let all = ap length (next_expr left rest more parts [] (e ∷ []) e is refl named added) in omega (arith, all)

  pub none_left : (left done : List ExprId) → left ≡ [] → done ++ flat_map (exprs_in store) (reverse left) ≡ done
  none_left left done none = ap (λ gs. done ++ flat_map (exprs_in store) (reverse gs)) none ∙ append-nil done

  -- at the start

  pub no_body : (closure : ExprId) (left : List ExprId) (o : Option ExprId) → left ≡ [] → None ≡ o
      → flat_map (exprs_in store) (reverse left) ≡ exprs_of_body store closure o
  no_body closure left o none is =
      ap (λ gs. flat_map (exprs_in store) (reverse gs)) none ∙ ap (exprs_of_body store closure) is

  pub one_body : (closure : ExprId) (left fs : List ExprId) (o : Option ExprId) (b : ExprId) → left ≡ [] → Some b ≡ o
      → flat_map (exprs_in store) (reverse fs)
      ≡ if_below store closure (exprs_in store) b ++ flat_map (exprs_in store) (reverse left)
      → flat_map (exprs_in store) (reverse fs) ≡ exprs_of_body store closure o
  one_body closure left fs o b none is added =
      added
      ∙ (ap (λ gs. if_below store closure (exprs_in store) b ++ flat_map (exprs_in store) (reverse gs)) none
      ∙ (append-nil (if_below store closure (exprs_in store) b) ∙ ap (exprs_of_body store closure) is))

pub begun : (es done : List ExprId) → done ≡ [] → es ≡ done ++ es
begun es done none = ap (λ gs. gs ++ es) (sym none)
