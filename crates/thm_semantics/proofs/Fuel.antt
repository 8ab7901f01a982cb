-- Turns of loops that are alike: what is stored for a `while` goes as a turn with a break in it, and to a loop that is the turn of a
-- `while`. Here nothing is known of any store.
use Rattle.std.proofs.Common.{◌≡◌, ◌∙◌, Bool, true, false, if◌then◌else◌, [], ◌∷◌, Option, Some, None, refl, sym, ap}
use Rattle.hir_env.specs.NodeMap.{Site}
use Rattle.hir_lower_scope.specs.Scopes.{Count, scope_out}
use Rattle.spec_semantics.specs.Run.{Value, unit, item, mutable_to, is_true, matches, call, Outcome, value, break, continue, leave}
use Rattle.spec_semantics.specs.Run.{unmatched}
use Rattle.spec_semantics.specs.Run.{World, ends, ends_temps, event, temps, pure, after, ◌>>=◌, ask, tests}
use Rattle.spec_data.specs.Data.{PatData}
use Rattle.hir_env.specs.ResolvedTree.{ForItems}
use Rattle.spec_semantics.specs.Catching.{iteration, iteration_end}
use Rattle.spec_semantics.specs.Syntax.{SyntaxRun, done_pattern, for_iteration, gives_pattern, while_iteration}
use Rattle.thm_semantics.proofs.Relation.{FuelAlike}

pub alike_same : (m : SyntaxRun Value) → FuelAlike m (iteration m)
alike_same m = record { steps = λ w. refl; worlds = λ w. refl }

abbrev nothing : Value → SyntaxRun (Option Value)
nothing _ = pure None

steps_after : {A : Type 0} {f : A → SyntaxRun Value} {g : A → SyntaxRun (Option Value)} → ((a : A) → FuelAlike (f a) (g a))
    → (o : Outcome Count A) (w : World (Unit {0}))
    → iteration_end scope_out (after (after o w f).0 (after o w f).1 nothing).0 ≡ iteration_end scope_out (after o w g).0
unfolding ◌>>=◌
steps_after h (value a) w = (h a).steps w
steps_after h (break j v) w = refl
steps_after h (continue j) w = refl
steps_after h (leave x) w = refl

worlds_after : {A : Type 0} {f : A → SyntaxRun Value} {g : A → SyntaxRun (Option Value)} → ((a : A) → FuelAlike (f a) (g a))
    → (o : Outcome Count A) (w : World (Unit {0})) → (after (after o w f).0 (after o w f).1 nothing).1 ≡ (after o w g).1
unfolding ◌>>=◌
worlds_after h (value a) w = (h a).worlds w
worlds_after h (break j v) w = refl
worlds_after h (continue j) w = refl
worlds_after h (leave x) w = refl

-- behind the same steps
alike_bind : {A : Type 0} (m : SyntaxRun A) {f : A → SyntaxRun Value} {g : A → SyntaxRun (Option Value)}
    → ((a : A) → FuelAlike (f a) (g a)) → FuelAlike (m >>= f) (m >>= g)
unfolding ◌>>=◌
alike_bind m h = record { steps = λ w. steps_after h (m w).0 (m w).1; worlds = λ w. worlds_after h (m w).0 (m w).1 }

alike_if : (b : Bool) {m m' : SyntaxRun Value} {n n' : SyntaxRun (Option Value)} → FuelAlike m n → FuelAlike m' n'
    → FuelAlike (if b then m else m') (if b then n else n')
alike_if true h h' = h
alike_if false h h' = h'

-- a break without value for the loop
abbrev pub out : SyntaxRun Value
out = pure unit >>= (λ v. ends (break (Some 0) v))

-- Such a break is a turn that ends the loop with unit.
alike_out : FuelAlike out (pure (Some unit))
unfolding ◌>>=◌ ends
alike_out = record { steps = λ w. refl; worlds = λ w. refl }

-- A turn that runs the body where the condition holds, and else breaks, is one of `while`.
abbrev pub branched : SyntaxRun Value → SyntaxRun Value → SyntaxRun Value → Option Site → SyntaxRun Value
branched condition body other site = condition >>= (λ v. tests is_true v site >>= (λ holds. if holds then body else other))

-- A condition whose temporaries end is wrapped, so that they end with its statement; one that holds a `let` stands as it is.
abbrev pub with_ends : Bool → SyntaxRun Value → SyntaxRun Value
with_ends true condition = condition
with_ends false condition = condition >>= (λ v. ends_temps (pure v))

-- Wrapped, the steps are those of the condition, then the end of its temporaries.
wrapped_row : (c : SyntaxRun Value) (g : Value → SyntaxRun Value) (w : World (Unit {0}))
    → (c >>= (λ v. ends_temps (g v))) w ≡ ((c >>= (λ v. ends_temps (pure v))) >>= g) w
unfolding ◌>>=◌ ends event
wrapped_row c g w = by (c w).0 (c w).1
  where
    by : (o : Outcome Count Value) (w : World (Unit {0}))
        → after o w (λ v. ends_temps (g v))
        ≡ after (after o w (λ v. ends_temps (pure v))).0 (after o w (λ v. ends_temps (pure v))).1 g
    by (value a) w = refl
    by (break j v) w = refl
    by (continue j) w = refl
    by (leave x) w = refl

alike_as : {m m' : SyntaxRun Value} {n : SyntaxRun (Option Value)} → ((w : World (Unit {0})) → m w ≡ m' w) → FuelAlike m n
    → FuelAlike m' n
unfolding ◌>>=◌
alike_as e h = record {
  steps = λ w. ap (λ r. iteration_end scope_out (after r.0 r.1 nothing).0) (sym (e w)) ∙ h.steps w;
  worlds = λ w. ap (λ r. (after r.0 r.1 nothing).1) (sym (e w)) ∙ h.worlds w;
}

tested_alike : (v : Value) (body : SyntaxRun Value) (site : Option Site)
    → FuelAlike (tests is_true v site >>= (λ holds. if holds then body else out))
    (tests is_true v site >>= (λ holds. if holds then iteration body else pure (Some unit)))
tested_alike v body site = alike_bind (tests is_true v site) (λ holds. alike_if holds (alike_same body) alike_out)

pub while_alike : (lets : Bool) (condition body : SyntaxRun Value) (site : Option Site)
    → FuelAlike (branched (with_ends lets condition) body out site) (while_iteration lets condition body site)
while_alike true condition body site = alike_bind condition (λ v. tested_alike v body site)
while_alike false condition body site =
    alike_as (wrapped_row condition (λ v. tests is_true v site >>= (λ holds. if holds then body else out)))
    (alike_bind condition (λ v. alike_bind (event temps [] None) (λ a. tested_alike v body site)))

-- what leaves the body is no turn that goes on
alike_unmatched : FuelAlike (ends (leave unmatched)) (ends (leave unmatched))
unfolding ◌>>=◌ ends
alike_unmatched = record { steps = λ w. refl; worlds = λ w. refl }

-- A turn that asks for the next one, breaks where there is none, and runs the body where there is one that fits, is one of `for`.
abbrev pub asked_next : ForItems → PatData → Value → SyntaxRun Value → Option Site → SyntaxRun Value
asked_next items p iterator body site = ask call (item items.next ∷ mutable_to iterator ∷ []) site
    >>= (λ v. tests (matches (done_pattern items.is_done)) v None
    >>= (λ is_done. if is_done then out else (tests (matches (gives_pattern items.gives p)) v None
    >>= (λ fits. if fits then body else ends (leave unmatched)))))

pub for_alike : (items : ForItems) (p : PatData) (iterator : Value) (body : SyntaxRun Value) (site : Option Site)
    → FuelAlike (asked_next items p iterator body site) (for_iteration items p iterator body site)
for_alike items p iterator body site = alike_bind (ask call (item items.next ∷ mutable_to iterator ∷ []) site)
    (λ v. alike_bind (tests (matches (done_pattern items.is_done)) v None)
    (λ is_done. alike_if is_done alike_out (alike_bind (tests (matches (gives_pattern items.gives p)) v None)
    (λ fits. alike_if fits (alike_same body) alike_unmatched))))
