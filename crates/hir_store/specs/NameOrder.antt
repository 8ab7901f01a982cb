-- The order of names, and of paths.
use Rattle.std.specs.Prelude.{◌≡◌, ◌&&◌, ℕ, Bool, true, false, List, [], ◌∷◌, Some, refl}
use Rattle.std.proofs.Common.{◌∙◌}
use Rattle.std.specs.Cmp.{IsTotalOrder, IsPartialOrder, IsEquivalence, IsPartialEquivalence, partial_equiv_from_equiv}
use Rattle.std.specs.Cmp.{eq_by_cmp_equiv, nat_cmp_total, on_total, partial_order_from_agreeing_total, partial_order_from_total, then_total}
use Rattle.std.specs.Cmp.Lexicographic.{slice_cmp, lists_total, on_texts, texts_ties}
use Rattle.std.specs.Ordering.{eq_by_cmp, nat_cmp, ordering_then}
use Rattle.std.specs.declared.cmp.Ordering.{Ordering}
use Rattle.hir_store.specs.contracts.name.NamePartialEq.TheImpl as same
use Rattle.hir_store.specs.declared.name.Name.{Name}
use Rattle.hir_store.specs.declared.name.Name.TheVariants as name
use Rattle.hir_store.specs.declared.path.ModPath.{ModPath}
use Rattle.hir_store.specs.declared.path.PathKind.{PathKind}
use Rattle.hir_store.specs.declared.path.PathKind.TheVariants as kind

-- a name as numbers, in whose order names stand: texts, the missing name, those that lowering made up
abbrev pub name_code : Name → List ℕ
name_code (name.Text t) = 0 ∷ t
name_code name.Missing = 1 ∷ []
name_code (name.Generated n) = 2 ∷ n ∷ []

abbrev pub name_cmp : Name → Name → Ordering
name_cmp a b = slice_cmp nat_cmp (name_code a) (name_code b)

pub name_total : IsTotalOrder name_cmp
name_total = on_texts name_code

with_true : (b : Bool) → b ≡ (b && true)
with_true true = refl
with_true false = refl

pub name_ties : (a b : Name) → same.ghosts.eq a b ≡ eq_by_cmp name_cmp a b
name_ties (name.Text a) (name.Text b) = texts_ties a b
name_ties (name.Text a) name.Missing = refl
name_ties (name.Text a) (name.Generated k) = refl
name_ties name.Missing (name.Text b) = refl
name_ties name.Missing name.Missing = refl
name_ties name.Missing (name.Generated k) = refl
name_ties (name.Generated i) (name.Text b) = refl
name_ties (name.Generated i) name.Missing = refl
name_ties (name.Generated i) (name.Generated k) =
    with_true (same.ghosts.eq (name.Generated i) (name.Generated k)) ∙ texts_ties (i ∷ []) (k ∷ [])

pub name_po : IsPartialOrder same.ghosts.eq (λ a b. Some (name_cmp a b))
name_po = partial_order_from_agreeing_total name_cmp name_total (λ a b. refl) name_ties

-- where a path begins, as two numbers
abbrev pub kind_pair : PathKind → ℕ × ℕ
kind_pair kind.Plain = (0, 0)
kind_pair (kind.Super n) = (1, n)
kind_pair kind.Crate = (2, 0)
kind_pair kind.Abs = (3, 0)
kind_pair (kind.DollarCrate c) = (4, c.0)

-- paths stand in the order of where they begin, and then of their names
abbrev pub path_cmp : ModPath → ModPath → Ordering
path_cmp a b = ordering_then
    (ordering_then (nat_cmp (kind_pair a.kind).0 (kind_pair b.kind).0) (nat_cmp (kind_pair a.kind).1 (kind_pair b.kind).1))
    (slice_cmp name_cmp a.segments b.segments)

pub path_total : IsTotalOrder path_cmp
path_total = then_total
    (then_total (on_total (λ p. (kind_pair p.kind).0) nat_cmp_total) (on_total (λ p. (kind_pair p.kind).1) nat_cmp_total))
    (on_total (λ p. p.segments) (lists_total name_total))

-- two of which none stands in front of the other are one
abbrev pub path_eq : ModPath → ModPath → Bool
path_eq a b = eq_by_cmp path_cmp a b

pub path_equiv : IsEquivalence path_eq
path_equiv = eq_by_cmp_equiv path_total

pub path_partial_equiv : IsPartialEquivalence path_eq
path_partial_equiv = partial_equiv_from_equiv path_equiv

pub path_po : IsPartialOrder path_eq (λ a b. Some (path_cmp a b))
path_po = partial_order_from_total path_total
