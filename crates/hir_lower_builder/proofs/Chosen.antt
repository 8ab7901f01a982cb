-- The names at the chosen places, taken one after another.
use Rattle.std.proofs.Common.{arith, ◌≡◌, ◌∙◌, ◌<◌, refl, sym, ap, Bool, true, false, List, [], ◌∷◌, ◌++◌, length, drop}
use Rattle.std.proofs.Common.{Option, Some, None}
use Rattle.hir_store.specs.declared.name.Name.{Name}
use Rattle.hir_store.specs.declared.path.GenericArg.{GenericArg}
use Rattle.hir_store.specs.declared.type_ref.LifetimeRef.{LifetimeRef}
use Rattle.hir_lower_scope.specs.NameSets.{with_names}
use Rattle.hir_lower_scope.proofs.NameLists.{with_both}
use Rattle.hir_lower_builder.specs.Generics.{names_at, first_chosen, lifetime_names}

none_chosen : (cs : List Bool) → names_at cs [] ≡ []
none_chosen [] = refl
none_chosen (c ∷ cs) = refl

-- behind the last argument nothing is chosen
pub all_chosen : (ns ms : List Name) (cs : List Bool) (ls : List LifetimeRef) (as' : List GenericArg) → length as' < 1
    → with_names ns (names_at cs (lifetime_names ls as')) ≡ ms → ns ≡ ms
all_chosen ns ms cs ls [] h e = ap (λ xs. with_names ns xs) (sym (none_chosen cs)) ∙ e
all_chosen ns ms cs ls (a ∷ as') h e = absurd (omega (arith, h))

next_is : (cs : List Bool) (n : Option Name) (ns : List (Option Name)) → names_at cs (n ∷ ns) ≡ first_chosen cs n ++ names_at (drop 1 cs) ns
next_is [] n ns = refl
next_is (true ∷ cs) (Some n) ns = refl
next_is (true ∷ cs) None ns = refl
next_is (false ∷ cs) (Some n) ns = refl
next_is (false ∷ cs) None ns = refl

pub next_chosen : (xs : List Name) (cs : List Bool) (n : Option Name) (ns : List (Option Name))
    → with_names xs (names_at cs (n ∷ ns)) ≡ with_names (with_names xs (first_chosen cs n)) (names_at (drop 1 cs) ns)
next_chosen xs cs n ns = ap (λ ms. with_names xs ms) (next_is cs n ns) ∙ sym (with_both xs (first_chosen cs n) (names_at (drop 1 cs) ns))
