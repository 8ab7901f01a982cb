-- The table with which a coroutine begins says of each made name that a parameter is which argument it stands for.
use Rattle.std.proofs.Common.{◌≡◌, ◌∙◌, refl, ap, subst, sym, ℕ, suc, ◌<◌, ◌≤◌, List, [], ◌∷◌, map, Option, Some, None, arith}
use Rattle.std.proofs.lemmas.Bool.{eq-eqb, ne_eqb}
use Rattle.hir_store.specs.Stored.{Stored, store_of, map_of}
use Rattle.hir_store.specs.declared.ids.PatId.{PatId}
use Rattle.spec_semantics.specs.Run.{Value, argument}
use Rattle.spec_semantics.specs.Store.{RunTable, arguments, new_table, with_argument, with_name}
use Rattle.thm_semantics.proofs.Unmade.{made_whole}

-- The numbers of names, where they are made, each of a parameter. The first of these has this number.

-- a made name stands for the argument of this number
abbrev pub ArgumentIn : RunTable → ℕ → Option ℕ → Type 0
ArgumentIn table i None = Unit {0}
ArgumentIn table i (Some n) = table n ≡ Some (argument i)

abbrev pub ArgumentsIn : RunTable → ℕ → List (Option ℕ) → Type 0
ArgumentsIn table i [] = Unit {0}
ArgumentsIn table i (o ∷ os) = ArgumentIn table i o × ArgumentsIn table (suc i) os

abbrev pub given : ℕ → List (Option ℕ) → RunTable
given i [] = new_table
given i (o ∷ os) = with_argument o i (given (suc i) os)

-- made names that rise

abbrev pub AtLeast : ℕ → Option ℕ → Type 0
AtLeast lo None = Unit {0}
AtLeast lo (Some n) = lo ≤ n

abbrev pub next : ℕ → Option ℕ → ℕ
next lo None = lo
next lo (Some n) = suc n

abbrev pub Rising : ℕ → List (Option ℕ) → Type 0
Rising lo [] = Unit {0}
Rising lo (o ∷ os) = AtLeast lo o × Rising (next lo o) os

pub rising_from : (lo lo' : ℕ) (os : List (Option ℕ)) → lo' ≤ lo → Rising lo os → Rising lo' os
rising_from lo lo' [] le h = tt
rising_from lo lo' (None ∷ os) le h = (tt, rising_from lo lo' os le h.1)
rising_from lo lo' (Some n ∷ os) le h = let least : lo ≤ n = h.0 in (omega (arith, le, least), h.1)

-- what they stand for

-- where a name below them takes a value
put_below : (n : ℕ) (v : Value) (table : RunTable) (i lo : ℕ) (os : List (Option ℕ)) → n < lo → Rising lo os → ArgumentsIn table i os
    → ArgumentsIn (with_name n v table) i os
put_below n v table i lo [] lt r h = tt
put_below n v table i lo (None ∷ os) lt r h = (tt, put_below n v table (suc i) lo os lt r.1 h.1)
put_below n v table i lo (Some k ∷ os) lt r h =
    let least : lo ≤ k = r.0 in (
      rw (ne_eqb k n (λ e. omega (arith, e, lt, least))) h.0,
      put_below n v table (suc i) (suc k) os (omega (arith, lt, least)) r.1 h.1,
    )

pub stand_for : (i lo : ℕ) (os : List (Option ℕ)) → Rising lo os → ArgumentsIn (given i os) i os
stand_for i lo [] r = tt
stand_for i lo (None ∷ os) r = (tt, stand_for (suc i) lo os r.1)
stand_for i lo (Some n ∷ os) r = (
  rw (eq-eqb n n refl) refl,
  put_below n (argument i) (given (suc i) os) (suc i) (suc n) os (omega arith) r.1 (stand_for (suc i) (suc n) os r.1),
)

-- of stored patterns
given_by : (final : Stored) (i : ℕ) (ps : List PatId) → arguments (store_of final) (map_of final) i ps ≡ given i (map (made_whole final) ps)
given_by final i [] = refl
given_by final i (p ∷ ps) = ap (with_argument (made_whole final p) i) (given_by final (suc i) ps)

pub arguments_stand : (final : Stored) (i lo : ℕ) (ps : List PatId) (os : List (Option ℕ)) → map (made_whole final) ps ≡ os → Rising lo os
    → ArgumentsIn (arguments (store_of final) (map_of final) i ps) i os
arguments_stand final i lo ps os e r =
    subst (λ table. ArgumentsIn table i os) (sym (given_by final i ps ∙ ap (given i) e)) (stand_for i lo os r)
