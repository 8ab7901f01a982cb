-- Formal parameters by whose names arguments are handed in are so in each store that goes on.
use Rattle.std.proofs.Common.{◌≡◌, ◌∙◌, ⊎_elim, inl, inr, sym, ap, subst, refl, ℕ, zero, suc, Bool, true, false, true≢false, arith}
use Rattle.std.proofs.Common.{List, [], ◌∷◌, ◌++◌, map, Option, Some, None, option_map, is_some, slice_get}
use Rattle.std.proofs.lemmas.Option.{none-some, slice_get-map}
use Rattle.hir_store.specs.Arenas.{Prefix}
use Rattle.hir_store.specs.Bindings.{without_problem}
use Rattle.hir_store.specs.Stored.{Stored, store_of}
use Rattle.hir_store.specs.StoreSink.{Extends}
use Rattle.hir_store.specs.declared.hir.Expr.{Expr}
use Rattle.hir_store.specs.declared.ids.PatId.{PatId}
use Rattle.hir_store.specs.declared.name.Name.{Name}
use Rattle.hir_store.specs.declared.pat.Binding.{Binding}
use Rattle.hir_store.specs.declared.pat.Pat.{Pat}
use Rattle.hir_store.specs.declared.pat.Pat.TheVariants as pat
use Rattle.thm_logic.specs.Keeps.{IsOneOf, MadeApart, alone_in, formals_in, formals_of, name_alone, times_among}
use Rattle.thm_logic.proofs.Apart.{ApartIn}

-- lists

found_behind : {A : Type 0} (xs more : List A) (n : ℕ) (x : A) → slice_get xs n ≡ Some x → slice_get (xs ++ more) n ≡ Some x
found_behind [] more n x h = absurd (true≢false (sym (ap is_some h)))
found_behind (y ∷ xs) more zero x h = h
found_behind (y ∷ xs) more (suc n) x h = found_behind xs more n x h

pub found_stays : {A : Type 0} {xs ys : List A} → Prefix xs ys → (n : ℕ) (x : A) → slice_get xs n ≡ Some x → slice_get ys n ≡ Some x
found_stays {xs = xs} p n x h = ap (λ l. slice_get l n) p.is ∙ found_behind xs p.more n x h

abbrev is_empty : {A : Type 0} → List A → Bool
is_empty [] = true
is_empty (x ∷ xs) = false

abbrev first_or : {A : Type 0} → A → List A → A
first_or d [] = d
first_or d (x ∷ xs) = x

abbrev others : {A : Type 0} → List A → List A
others [] = []
others (x ∷ xs) = xs

-- names

abbrev pub name_of : Option Binding → Option Name
name_of x = option_map (λ b. b.name) x

-- what is wrong about a binding is no part of its name
pub named_at : (bs : List Binding) (n : ℕ) → name_of (slice_get bs n) ≡ name_of (slice_get (map without_problem bs) n)
named_at bs n = by (slice_get bs n) ∙ ap name_of (sym (slice_get-map without_problem bs n))
  where
    by : (x : Option Binding) → name_of x ≡ name_of (option_map without_problem x)
    by None = refl
    by (Some b) = refl

module _ {s final : Stored} (pre : Extends s final) where
  name_stays : (n : ℕ) (x : Name) → name_of (slice_get s.bindings.entries n) ≡ Some x
      → name_of (slice_get final.bindings.entries n) ≡ Some x
  name_stays n x h = by (slice_get s.bindings.entries n) refl h
    where
      by : (o : Option Binding) → slice_get s.bindings.entries n ≡ o → name_of o ≡ Some x
          → name_of (slice_get final.bindings.entries n) ≡ Some x
      by None e k = absurd (none-some x k)
      by (Some b) e k =
          let here = slice_get-map without_problem s.bindings.entries n ∙ ap (option_map without_problem) e in
          named_at final.bindings.entries n ∙ (ap name_of (found_stays pre.bindings.entries n (without_problem b) here) ∙ k)

  alone_stays : (p : PatId) (x : Name) → name_alone (store_of s) p ≡ Some x → name_alone (store_of final) p ≡ Some x
  alone_stays p x h = by (slice_get s.pats.entries p.0) refl h
    where
      by : (o : Option Pat) → slice_get s.pats.entries p.0 ≡ o → alone_in s.bindings.entries o ≡ Some x
          → alone_in final.bindings.entries (slice_get final.pats.entries p.0) ≡ Some x
      by (Some (pat.Bind id None)) e k =
          ap (alone_in final.bindings.entries) (found_stays pre.pats.entries p.0 (pat.Bind id None) e) ∙ name_stays id.0 x k
      by o e k = absurd (none-some x k)

  each_stays : (ps : List PatId) (ns : List Name) → map (name_alone (store_of s)) ps ≡ map Some ns
      → map (name_alone (store_of final)) ps ≡ map Some ns
  each_stays [] [] h = refl
  each_stays [] (n ∷ ns) h = absurd (true≢false (ap is_empty h))
  each_stays (p ∷ ps) [] h = absurd (true≢false (sym (ap is_empty h)))
  each_stays (p ∷ ps) (n ∷ ns) h =
      let first = alone_stays p n (ap (first_or None) h) in
      let rest = each_stays ps ns (ap others h) in
      λ j. first j ∷ rest j

  no_name : (k : ℕ) (ns : List Name) → map (name_alone (store_of s)) [] ≡ map Some ns → times_among k ns ≡ 1 → ⊥
  no_name k [] h e = omega (arith, e)
  no_name k (n ∷ ns) h e = true≢false (ap is_empty h)

  formals_stay : (k n : ℕ) → IsOneOf k (store_of s) (formals_of (store_of s) n)
      → IsOneOf k (store_of final) (formals_of (store_of final) n)
  formals_stay k n x = by (slice_get s.exprs.entries n) refl x
    where
      by : (o : Option Expr) → slice_get s.exprs.entries n ≡ o → IsOneOf k (store_of s) (formals_in o)
          → IsOneOf k (store_of final) (formals_of (store_of final) n)
      by None e y = absurd (no_name k y.names y.are y.once)
      by (Some z) e y = subst (λ o. IsOneOf k (store_of final) (formals_in o)) (sym (found_stays pre.exprs.entries n z e))
          (record { names = y.names; are = each_stays (formals_in (Some z)) y.names y.are; once = y.once })

  -- made names

  pub apart_in : {names : ℕ} → MadeApart names s → ApartIn final names s
  apart_in m = record {
    once = λ k. ⊎_elim (λ le. inl le)
        (λ x. inr (record { number = x.number; formal = formals_stay k x.number x.formal; bound = x.two.bound; labelled = x.two.labelled }))
        (m.once k);
    later = m.later;
  }

pub apart_now : {names : ℕ} {s : Stored} → ApartIn s names s → MadeApart names s
apart_now m = record {
  once = λ k. ⊎_elim (λ le. inl le)
      (λ x. inr (record { number = x.number; formal = x.formal; two = record { bound = x.bound; labelled = x.labelled } }))
      (m.once k);
  later = m.later;
}
