-- Behind a barrier.
use Rattle.std.proofs.Common.{◌≡◌, Bool, true, false, if◌then◌else◌, List, [], ◌∷◌, ◌++◌, Some, None, refl, ap, ◌∙◌}
use Rattle.hir_store.specs.declared.name.Name.{Name}
use Rattle.hir_env.specs.Answers.{Contexts}
use Rattle.hir_env.specs.ResolvedTree.{Jump}
use Rattle.hir_lower_scope.specs.ScopeRibs.{Rib, label_rib, try_rib, macro_rib, barrier_rib, Sought, sought_first, is_for, Target}
use Rattle.hir_lower_scope.specs.ScopeRibs.{reachable}
use Rattle.hir_lower_scope.specs.ScopeRibs.{unreachable, undeclared, behind, past_macro, search, target, map_rib, map_ribs}
use Rattle.hir_lower_scope.specs.Scopes.{Scope, loop_scope, block_scope, try_scope, macro_scope, barrier, count_further, further_try}
use Rattle.hir_lower_scope.specs.Scopes.{Bearer}
use Rattle.hir_lower_scope.specs.Scopes.{a_loop, a_block, one_out, ribs, innermost_loop, innermost_try, break_found, continue_found}
use Rattle.hir_lower_scope.specs.Theorems.{NothingOutside}

loop_alone : (inner outer : List Scope) → innermost_loop (inner ++ barrier ∷ outer) ≡ innermost_loop inner
loop_alone [] outer = refl
loop_alone (loop_scope l ∷ ss) outer = refl
loop_alone (block_scope l ∷ ss) outer = ap count_further (loop_alone ss outer)
loop_alone (try_scope typed ∷ ss) outer = ap count_further (loop_alone ss outer)
loop_alone (macro_scope d ∷ ss) outer = loop_alone ss outer
loop_alone (barrier ∷ ss) outer = refl

try_alone : (inner outer : List Scope) → innermost_try (inner ++ barrier ∷ outer) ≡ innermost_try inner
try_alone [] outer = refl
try_alone (loop_scope l ∷ ss) outer = ap further_try (try_alone ss outer)
try_alone (block_scope l ∷ ss) outer = ap further_try (try_alone ss outer)
try_alone (try_scope typed ∷ ss) outer = refl
try_alone (macro_scope d ∷ ss) outer = try_alone ss outer
try_alone (barrier ∷ ss) outer = refl

map_append : (rs os : List (Rib Bearer)) → map_ribs one_out (rs ++ os) ≡ map_ribs one_out rs ++ map_ribs one_out os
map_append [] os = refl
map_append (r ∷ rs) os = ap (λ x. map_rib one_out r ∷ x) (map_append rs os)

-- how the ribs outside are told depends on what is inside, but not that they are outside
pub record Split (inner outer : List Scope) : Type 0 where
  pub more : List (Rib Bearer)
  pub is : ribs (inner ++ barrier ∷ outer) ≡ ribs inner ++ barrier_rib ∷ more

farther : (rs more : List (Rib Bearer)) (all : List (Rib Bearer)) → all ≡ rs ++ barrier_rib ∷ more
    → map_ribs one_out all ≡ map_ribs one_out rs ++ barrier_rib ∷ map_ribs one_out more
farther rs more all e = ap (map_ribs one_out) e ∙ map_append rs (barrier_rib ∷ more)

-- one scope more, in which no rib is met
no_rib : {ss outer : List Scope} → Split ss outer → (all : List (Rib Bearer)) → all ≡ ribs (ss ++ barrier ∷ outer)
    → (more : List (Rib Bearer)) × (map_ribs one_out all ≡ map_ribs one_out (ribs ss) ++ barrier_rib ∷ more)
no_rib {ss = ss} h all e = (map_ribs one_out h.more, farther (ribs ss) h.more all (e ∙ h.is))

split : (inner outer : List Scope) → Split inner outer
split [] outer = record { more = ribs outer; is = refl }
split (loop_scope None ∷ ss) outer =
    let h = no_rib (split ss outer) (ribs (ss ++ barrier ∷ outer)) refl in record { more = h.0; is = h.1 }
split (loop_scope (Some l) ∷ ss) outer =
    let h = no_rib (split ss outer) (ribs (ss ++ barrier ∷ outer)) refl in
    record { more = h.0; is = ap (λ x. label_rib l.name l.hygiene (a_loop 0) ∷ x) h.1 }
split (block_scope l ∷ ss) outer =
    let h = no_rib (split ss outer) (ribs (ss ++ barrier ∷ outer)) refl in
    record { more = h.0; is = ap (λ x. label_rib l.name l.hygiene (a_block 0) ∷ x) h.1 }
split (try_scope typed ∷ ss) outer =
    let h = no_rib (split ss outer) (ribs (ss ++ barrier ∷ outer)) refl in
    record { more = h.0; is = ap (λ x. try_rib (a_block 0) typed ∷ x) h.1 }
split (macro_scope d ∷ ss) outer = let h = split ss outer in record { more = h.more; is = ap (λ x. macro_rib d ∷ x) h.is }
split (barrier ∷ ss) outer = let h = split ss outer in record { more = h.more; is = ap (λ x. barrier_rib ∷ x) h.is }

-- the same is found, or nothing in reach
pub data Like : Target Bearer → Target Bearer → Type 0 where
  both : (a : Bearer) → Like (reachable a) (reachable a)
  hidden : Like unreachable undeclared
  unreachable_both : Like unreachable unreachable
  undeclared_both : Like undeclared undeclared

module _ (contexts : Contexts) (name : Name) where
  like_nearer : (t : Bool) (a : Bearer) (x y : Target Bearer) → Like x y
      → Like (if t then reachable a else x) (if t then reachable a else y)
  like_nearer true a x y h = both a
  like_nearer false a x y h = h

  like_behind : (x y : Target Bearer) → Like x y → Like (behind x) (behind y)
  like_behind x y (both a) = unreachable_both
  like_behind x y hidden = hidden
  like_behind x y unreachable_both = unreachable_both
  like_behind x y undeclared_both = undeclared_both

  like_none : (x : Target Bearer) → Like (behind x) undeclared
  like_none (reachable a) = hidden
  like_none unreachable = hidden
  like_none undeclared = undeclared_both

  like : (s : Sought) (rs more : List (Rib Bearer)) → Like (search contexts name s (rs ++ barrier_rib ∷ more)) (search contexts name s rs)
  like s [] more = like_none (search contexts name s more)
  like s (label_rib n h a ∷ rs) more =
      like_nearer (is_for name s n h) a (search contexts name s (rs ++ barrier_rib ∷ more)) (search contexts name s rs) (like s rs more)
  like s (try_rib a typed ∷ rs) more = like s rs more
  like s (macro_rib d ∷ rs) more = like (past_macro contexts d s s.context) rs more
  like s (barrier_rib ∷ rs) more =
      like_behind (search contexts name s (rs ++ barrier_rib ∷ more)) (search contexts name s rs) (like s rs more)

break_like : (inner outer : List Scope) (x y : Target Bearer) → Like x y → break_found (inner ++ barrier ∷ outer) x ≡ break_found inner y
break_like inner outer x y (both (a_loop k)) = refl
break_like inner outer x y (both (a_block k)) = refl
break_like inner outer x y hidden = loop_alone inner outer
break_like inner outer x y unreachable_both = loop_alone inner outer
break_like inner outer x y undeclared_both = loop_alone inner outer

continue_like : (inner outer : List Scope) (x y : Target Bearer) → Like x y
    → continue_found (inner ++ barrier ∷ outer) x ≡ continue_found inner y
continue_like inner outer x y (both (a_loop k)) = refl
continue_like inner outer x y (both (a_block k)) = refl
continue_like inner outer x y hidden = loop_alone inner outer
continue_like inner outer x y unreachable_both = loop_alone inner outer
continue_like inner outer x y undeclared_both = loop_alone inner outer

target_like : (inner outer : List Scope) (j : Jump) → Like (target j (ribs (inner ++ barrier ∷ outer))) (target j (ribs inner))
target_like inner outer j = let h = split inner outer in rw h.is (like j.contexts j.name (sought_first j.hygiene) (ribs inner) h.more)

pub nothing_outside : NothingOutside
nothing_outside inner outer None = record {
  breaks = loop_alone inner outer;
  continues = loop_alone inner outer;
  tries = try_alone inner outer;
}
nothing_outside inner outer (Some j) = let h = target_like inner outer j in record {
  breaks = break_like inner outer (target j (ribs (inner ++ barrier ∷ outer))) (target j (ribs inner)) h;
  continues = continue_like inner outer (target j (ribs (inner ++ barrier ∷ outer))) (target j (ribs inner)) h;
  tries = try_alone inner outer;
}
