-- What is in a list of ways, and in one of what becomes of them.
use Rattle.std.proofs.Common.{arith, ◌≡◌, subst, ◌<◌, map, List, [], ◌∷◌, Contains, ⊎_elim}
use Rattle.std.proofs.lemmas.List.Elements.{Contains-append_left, Contains-append_right, Contains-append_cases, Contains-push}
use Rattle.std.proofs.lemmas.List.Elements.{Contains-push_cases}
use Rattle.thm_body_result.specs.Leads.{Mapping}

pub none_in : {X C : Type 0} (x : X) → Contains [] x → C
none_in x c = let below : c.0 < 0 = c.1 in absurd (omega arith)

pub only_one : {X : Type 0} (y x : X) → Contains (y ∷ []) x → y ≡ x
only_one y x c = ⊎_elim (λ n. none_in x n) (λ e. e) (Contains-push_cases [] y x c)

module _ (f : Mapping → Mapping) where
  pub contains_map : (ws : List Mapping) (w : Mapping) → Contains ws w → Contains (map f ws) (f w)
  contains_map [] w c = none_in w c
  contains_map (v ∷ ws) w c = ⊎_elim
      (λ x. Contains-append_left (f v ∷ []) (map f ws) (f w)
      (subst (λ y. Contains (f v ∷ []) (f y)) (only_one v w x) (Contains-push [] (f v))))
      (λ x. Contains-append_right (f v ∷ []) (map f ws) (f w) (contains_map ws w x))
      (Contains-append_cases (v ∷ []) ws w c)

  -- what is in the list, and became this
  pub map_contains : (ws : List Mapping) (w : Mapping) → Contains (map f ws) w → (v : Mapping) × Contains ws v × (f v ≡ w)
  map_contains [] w c = none_in w c
  map_contains (v ∷ ws) w c = ⊎_elim
      (λ x. (v, Contains-append_left (v ∷ []) ws v (Contains-push [] v), only_one (f v) w x))
      (λ x. let r = map_contains ws w x in (r.0, Contains-append_right (v ∷ []) ws r.0 r.1, r.2))
      (Contains-append_cases (f v ∷ []) (map f ws) w c)
