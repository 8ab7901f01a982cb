-- What is found, however the labels are told apart.
use Rattle.std.proofs.Common.{◌≡◌, Bool, true, false, if◌then◌else◌, ℕ, List, [], ◌∷◌, Option, Some, None, option_map, refl, ap, ◌∙◌}
use Rattle.hir_store.specs.declared.name.Name.{Name}
use Rattle.hir_env.specs.Answers.{Contexts}
use Rattle.hir_env.specs.ResolvedTree.{Jump}
use Rattle.hir_lower_scope.specs.ScopeRibs.{Rib, label_rib, try_rib, macro_rib, barrier_rib, Sought, sought_first, is_for, Target}
use Rattle.hir_lower_scope.specs.ScopeRibs.{reachable}
use Rattle.hir_lower_scope.specs.ScopeRibs.{unreachable, undeclared, behind, past_macro, search, target, map_ribs, map_target, Try, map_try}
use Rattle.hir_lower_scope.specs.ScopeRibs.{innermost_try_rib}
use Rattle.hir_lower_scope.specs.Scopes.{Scope, loop_scope, block_scope, try_scope, macro_scope, barrier, further_try, a_block, one_out}
use Rattle.hir_lower_scope.specs.Scopes.{ribs, innermost_try}
use Rattle.hir_lower_scope.specs.Theorems.{TriesAgree}

module _ {A B : Type 0} (f : A → B) (contexts : Contexts) (name : Name) where
  nearer : (t : Bool) (a : A) (x : Target A) (y : Target B) → y ≡ map_target f x
      → (if t then reachable (f a) else y) ≡ map_target f (if t then reachable a else x)
  nearer true a x y e = refl
  nearer false a x y e = e

  outside : (x : Target A) → behind (map_target f x) ≡ map_target f (behind x)
  outside (reachable a) = refl
  outside unreachable = refl
  outside undeclared = refl

  pub search_map : (s : Sought) (rs : List (Rib A)) → search contexts name s (map_ribs f rs) ≡ map_target f (search contexts name s rs)
  search_map s [] = refl
  search_map s (label_rib n h a ∷ rs) =
      nearer (is_for name s n h) a (search contexts name s rs) (search contexts name s (map_ribs f rs)) (search_map s rs)
  search_map s (try_rib a typed ∷ rs) = search_map s rs
  search_map s (macro_rib d ∷ rs) = search_map (past_macro contexts d s s.context) rs
  search_map s (barrier_rib ∷ rs) = ap behind (search_map s rs) ∙ outside (search contexts name s rs)

-- Which label is found does not depend on what is known of the labels.
pub target_map : {A B : Type 0} (f : A → B) (j : Jump) (rs : List (Rib A)) → target j (map_ribs f rs) ≡ map_target f (target j rs)
target_map f j rs = search_map f j.contexts j.name (sought_first j.hygiene) rs

-- what is found is one of those that are in reach

-- what holds of each label before the first border
abbrev pub InReach : {A : Type 0} → (A → Type 0) → List (Rib A) → Type 0
InReach P [] = Unit {0}
InReach P (label_rib n h a ∷ rs) = P a × InReach P rs
InReach P (try_rib a typed ∷ rs) = P a × InReach P rs
InReach P (macro_rib d ∷ rs) = InReach P rs
InReach P (barrier_rib ∷ rs) = Unit {0}

abbrev pub IfFound : {A : Type 0} → (A → Type 0) → Target A → Type 0
IfFound P (reachable a) = P a
IfFound P unreachable = Unit {0}
IfFound P undeclared = Unit {0}

module _ {A : Type 0} (P : A → Type 0) (contexts : Contexts) (name : Name) where
  one_of_two : (t : Bool) (a : A) (x : Target A) → P a → IfFound P x → IfFound P (if t then reachable a else x)
  one_of_two true a x h k = h
  one_of_two false a x h k = k

  none_behind : (x : Target A) → IfFound P (behind x)
  none_behind (reachable a) = tt
  none_behind unreachable = tt
  none_behind undeclared = tt

  pub search_in_reach : (s : Sought) (rs : List (Rib A)) → InReach P rs → IfFound P (search contexts name s rs)
  search_in_reach s [] h = tt
  search_in_reach s (label_rib n y a ∷ rs) h = one_of_two (is_for name s n y) a (search contexts name s rs) h.0 (search_in_reach s rs h.1)
  search_in_reach s (try_rib a typed ∷ rs) h = search_in_reach s rs h.1
  search_in_reach s (macro_rib d ∷ rs) h = search_in_reach (past_macro contexts d s s.context) rs h
  search_in_reach s (barrier_rib ∷ rs) h = none_behind (search contexts name s rs)

pub target_in_reach : {A : Type 0} (P : A → Type 0) (j : Jump) (rs : List (Rib A)) → InReach P rs → IfFound P (target j rs)
target_in_reach P j rs h = search_in_reach P j.contexts j.name (sought_first j.hygiene) rs h

pub in_reach_map : {A B : Type 0} (f : A → B) (P : A → Type 0) (Q : B → Type 0) (rs : List (Rib A)) → ((a : A) → P a → Q (f a))
    → InReach P rs → InReach Q (map_ribs f rs)
in_reach_map f P Q [] k h = tt
in_reach_map f P Q (label_rib n y a ∷ rs) k h = (k a h.0, in_reach_map f P Q rs k h.1)
in_reach_map f P Q (try_rib a typed ∷ rs) k h = (k a h.0, in_reach_map f P Q rs k h.1)
in_reach_map f P Q (macro_rib d ∷ rs) k h = in_reach_map f P Q rs k h
in_reach_map f P Q (barrier_rib ∷ rs) k h = tt

pub map_ribs_twice : {A B C : Type 0} (f : A → B) (g : B → C) (rs : List (Rib A)) → map_ribs g (map_ribs f rs) ≡ map_ribs (λ a. g (f a)) rs
map_ribs_twice f g [] = refl
map_ribs_twice f g (label_rib n y a ∷ rs) = ap (λ x. label_rib n y (g (f a)) ∷ x) (map_ribs_twice f g rs)
map_ribs_twice f g (try_rib a typed ∷ rs) = ap (λ x. try_rib (g (f a)) typed ∷ x) (map_ribs_twice f g rs)
map_ribs_twice f g (macro_rib d ∷ rs) = ap (λ x. macro_rib d ∷ x) (map_ribs_twice f g rs)
map_ribs_twice f g (barrier_rib ∷ rs) = ap (λ x. barrier_rib ∷ x) (map_ribs_twice f g rs)

-- the innermost `try`

-- Which it is does not depend on what is known of it.
pub innermost_try_map : {A B : Type 0} (f : A → B) (rs : List (Rib A))
    → innermost_try_rib (map_ribs f rs) ≡ option_map (map_try f) (innermost_try_rib rs)
innermost_try_map f [] = refl
innermost_try_map f (label_rib n y a ∷ rs) = innermost_try_map f rs
innermost_try_map f (try_rib a typed ∷ rs) = refl
innermost_try_map f (macro_rib d ∷ rs) = innermost_try_map f rs
innermost_try_map f (barrier_rib ∷ rs) = refl

abbrev pub IfTry : {A : Type 0} → (A → Type 0) → Option (Try A) → Type 0
IfTry P None = Unit {0}
IfTry P (Some t) = P t.place

one_further : (t : Option (Try ℕ))
    → option_map (map_try one_out) (option_map (map_try a_block) t) ≡ option_map (map_try a_block) (further_try t)
one_further None = refl
one_further (Some t) = refl

-- of what a jump meets, one scope out
tries_out : (ss : List Scope) → innermost_try_rib (ribs ss) ≡ option_map (map_try a_block) (innermost_try ss)
    → innermost_try_rib (map_ribs one_out (ribs ss)) ≡ option_map (map_try a_block) (further_try (innermost_try ss))
tries_out ss e = innermost_try_map one_out (ribs ss) ∙ (ap (option_map (map_try one_out)) e ∙ one_further (innermost_try ss))

pub tries_agree : TriesAgree
tries_agree [] = refl
tries_agree (loop_scope None ∷ ss) = tries_out ss (tries_agree ss)
tries_agree (loop_scope (Some l) ∷ ss) = tries_out ss (tries_agree ss)
tries_agree (block_scope l ∷ ss) = tries_out ss (tries_agree ss)
tries_agree (try_scope typed ∷ ss) = refl
tries_agree (macro_scope d ∷ ss) = tries_agree ss
tries_agree (barrier ∷ ss) = refl
