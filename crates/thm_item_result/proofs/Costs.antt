-- What is noted of an item and what it is answered with cost, where each type and each constant that they name costs something.
use Rattle.std.proofs.Common.{◌≡◌, ◌∙◌, refl, sym, ap, arith, ℕ, ◌+◌, ◌≤◌, Bool, true, false, ◌||◌, if◌then◌else◌, true≢false, nat_eq}
use Rattle.std.proofs.Common.{List, [], ◌∷◌, ◌++◌, Option, Some, None}
use Rattle.hir_store.specs.Stored.{Store, SourceMap}
use Rattle.hir_store.specs.declared.generics.TypeOrConstParamData.{TypeOrConstParamData}
use Rattle.hir_store.specs.declared.generics.TypeOrConstParamData.TheVariants as param
use Rattle.hir_store.specs.declared.generics.WherePredicate.{WherePredicate}
use Rattle.hir_store.specs.declared.generics.WherePredicate.TheVariants as predicate
use Rattle.hir_store.specs.declared.ids.TypeRefId.{TypeRefId}
use Rattle.hir_store.specs.declared.type_ref.ConstRef.{ConstRef}
use Rattle.hir_store.specs.declared.type_ref.TraitRef.{TraitRef}
use Rattle.hir_store.specs.declared.type_ref.TypeBound.{TypeBound}
use Rattle.hir_store.specs.declared.type_ref.TypeBound.TheVariants as bound
use Rattle.hir_lower_builder.specs.Generics.{predicates_of}
use Rattle.thm_item_result.specs.Once.{among, is_of_impl}

-- what a type costs, and what a constant does
pub record Meter : Type 0 where
  pub types : TypeRefId → ℕ
  pub constants : ConstRef → ℕ

abbrev pub Cost : Type 0
Cost = Meter → ℕ

abbrev pub free : Cost
free q = 0

abbrev pub beside : Cost → Cost → Cost
beside more now q = more q + now q

abbrev pub present : {A : Type 0} → (A → ℕ) → Option A → ℕ
present f None = 0
present f (Some a) = f a

abbrev pub each : {A : Type 0} → (A → ℕ) → List A → ℕ
each f [] = 0
each f (a ∷ as') = f a + each f as'

pub each_append : {A : Type 0} (f : A → ℕ) (xs ys : List A) → each f (xs ++ ys) ≡ each f xs + each f ys
each_append f [] ys = omega arith
each_append f (x ∷ xs) ys = let e = each_append f xs ys in omega (arith, e)

-- what is answered

abbrev pub a_type : TypeRefId → Cost
a_type t q = q.types t

abbrev pub maybe_type : Option TypeRefId → Cost
maybe_type t q = present q.types t

abbrev pub types : List TypeRefId → Cost
types ts q = each q.types ts

abbrev pub a_trait : Option TraitRef → Cost
a_trait t q = present (λ t. q.types t.path) t

abbrev pub a_constant : ConstRef → Cost
a_constant c q = q.constants c

abbrev pub maybe_constant : Option ConstRef → Cost
maybe_constant c q = present q.constants c

abbrev pub a_bound : TypeBound → Cost
a_bound (bound.Path t modifier) q = q.types t
a_bound (bound.ForLifetime names t) q = q.types t
a_bound (bound.Lifetime l) q = 0
a_bound (bound.Use args) q = 0
a_bound bound.Error q = 0

abbrev pub bounds : List TypeBound → Cost
bounds bs q = each (λ b. a_bound b q) bs

-- parameters, and predicates behind those that are of these types

abbrev pub a_param : TypeOrConstParamData → Cost
a_param (param.TypeParamData x) q = present q.types x.default
a_param (param.ConstParamData x) q = q.types x.ty + present q.constants x.default

abbrev pub params : List TypeOrConstParamData → Cost
params xs q = each (λ x. a_param x q) xs

abbrev pub unless : Bool → ℕ → ℕ
unless b n = if b then 0 else n

module _ (store : Store) (source_map : SourceMap) where
  abbrev pub predicates : List TypeRefId → List WherePredicate → Cost
  predicates seen [] q = 0
  predicates seen (predicate.TypeBound binder t b ∷ ps) q =
      unless (is_of_impl store source_map t) (unless (among t seen) (q.types t))
      + (a_bound b q + predicates (t ∷ seen) ps q)
  predicates seen (predicate.Lifetime l m ∷ ps) q = predicates seen ps q

-- what the bounds of all predicates cost, whatever these are of
abbrev pub by_predicate : WherePredicate → Cost
by_predicate (predicate.TypeBound binder t b) q = a_bound b q
by_predicate (predicate.Lifetime l m) q = 0

abbrev pub asked : List WherePredicate → Cost
asked ps q = each (λ p. by_predicate p q) ps

-- what predicates are of, the last first
abbrev pub before_all : List TypeRefId → List WherePredicate → List TypeRefId
before_all seen [] = seen
before_all seen (predicate.TypeBound binder t b ∷ ps) = before_all (t ∷ seen) ps
before_all seen (predicate.Lifetime l m ∷ ps) = before_all seen ps

pub before_append : (seen : List TypeRefId) (ps qs : List WherePredicate)
    → before_all seen (ps ++ qs) ≡ before_all (before_all seen ps) qs
before_append seen [] qs = refl
before_append seen (predicate.TypeBound binder t b ∷ ps) qs = before_append (t ∷ seen) ps qs
before_append seen (predicate.Lifetime l m ∷ ps) qs = before_append seen ps qs

or_true : (b : Bool) → (b || true) ≡ true
or_true true = refl
or_true false = refl

among_more : (t : TypeRefId) (seen : List TypeRefId) (ps : List WherePredicate) → among t seen ≡ true
    → among t (before_all seen ps) ≡ true
among_more t seen [] h = h
among_more t seen (predicate.TypeBound binder u b ∷ ps) h =
    among_more t (u ∷ seen) ps (ap (λ x. nat_eq t.0 u.0 || x) h ∙ or_true (nat_eq t.0 u.0))
among_more t seen (predicate.Lifetime l m ∷ ps) h = among_more t seen ps h

same_number : (n : ℕ) → nat_eq n n ≡ true
same_number n = grind arith

pub among_first : (t : TypeRefId) (seen : List TypeRefId) → among t (t ∷ seen) ≡ true
among_first t seen = ap (λ x. x || among t seen) (same_number t.0)

pub unless_less : (b : Bool) (n : ℕ) → unless b n ≤ n
unless_less true n = omega arith
unless_less false n = omega arith

-- what is left of a type that predicates behind these may be of
abbrev pub left : List WherePredicate → TypeRefId → Cost
left ps t q = unless (among t (before_all [] ps)) (q.types t)

pub left_less : (ps qs : List WherePredicate) (t : TypeRefId) (q : Meter) → left (ps ++ qs) t q ≤ left ps t q
left_less ps qs t q = by (among t (before_all [] ps)) refl (among t (before_all [] (ps ++ qs))) refl
  where
    by : (x : Bool) → among t (before_all [] ps) ≡ x → (y : Bool) → among t (before_all [] (ps ++ qs)) ≡ y
        → unless y (q.types t) ≤ unless x (q.types t)
    by false e y g = unless_less y (q.types t)
    by true e true g = omega arith
    by true e false g =
        absurd (true≢false (sym (ap (among t) (before_append [] ps qs) ∙ among_more t (before_all [] ps) qs e) ∙ g))

module _ (store : Store) (source_map : SourceMap) where
  pub predicates_append : (seen : List TypeRefId) (ps qs : List WherePredicate) (q : Meter)
      → predicates store source_map seen (ps ++ qs) q
      ≡ predicates store source_map seen ps q + predicates store source_map (before_all seen ps) qs q
  predicates_append seen [] qs q = omega arith
  predicates_append seen (predicate.TypeBound binder t b ∷ ps) qs q =
      let e = predicates_append (t ∷ seen) ps qs q in omega (arith, e)
  predicates_append seen (predicate.Lifetime l m ∷ ps) qs q = predicates_append seen ps qs q

one_asked : (seen : List TypeRefId) (t : TypeRefId) (b : TypeBound) (ps : List WherePredicate) (q : Meter) (n : ℕ) (i : Bool)
    → i ≡ true → n ≡ asked ps q
    → unless i (unless (among t seen) (q.types t)) + (a_bound b q + n) ≡ asked (predicate.TypeBound None t b ∷ ps) q
one_asked seen t b ps q n true e h = omega (arith, h)
one_asked seen t b ps q n false e h = absurd (true≢false (sym e))

-- What is of what an `impl` became costs what its bounds do.
module _ (store : Store) (source_map : SourceMap) where
  pub of_impl_asked : (seen : List TypeRefId) (t : TypeRefId) (bs : List TypeBound) (qs : List WherePredicate) (q : Meter)
      → is_of_impl store source_map t ≡ true
      → ((before : List TypeRefId) → predicates store source_map before qs q ≡ asked qs q)
      → predicates store source_map seen (predicates_of t bs ++ qs) q ≡ asked (predicates_of t bs ++ qs) q
  of_impl_asked seen t [] qs q is h = h seen
  of_impl_asked seen t (b ∷ bs) qs q is h = one_asked seen t b (predicates_of t bs ++ qs) q
      (predicates store source_map (t ∷ seen) (predicates_of t bs ++ qs) q) (is_of_impl store source_map t) is
      (of_impl_asked (t ∷ seen) t bs qs q is h)
