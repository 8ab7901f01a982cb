-- The parts that a visitor is handed of arguments.
use Rattle.std.proofs.Common.{◌≡◌, ◌∙◌, refl, sym, ap, true, List, [], ◌∷◌, ◌++◌, map}
use Rattle.std.proofs.lemmas.List.{append_assoc}
use Rattle.hir_store.specs.Handed.{handed}
use Rattle.hir_store.specs.Parts.{Parts, no_parts, type_and, lifetime_and, args_and, and_then}
use Rattle.hir_store.specs.declared.ids.TypeRefId.{TypeRefId}
use Rattle.hir_store.specs.declared.ids.LifetimeRefId.{LifetimeRefId}
use Rattle.hir_store.specs.declared.path.GenericArgs.{GenericArgs}
use Rattle.hir_walks.specs.Pats.{taken}
use Rattle.hir_walks.specs.Exprs.{own_constants}
use Rattle.hir_walks.specs.EntryParts.{EntryPart, const_part, lifetime_part, parts_in, type_part}
use Rattle.hir_walks.proofs.PatLemmas.{taken_append}

pub map_both : {A B : Type 0} (f : A → B) (xs ys : List A) → map f (xs ++ ys) ≡ map f xs ++ map f ys
map_both f [] ys = refl
map_both f (x ∷ xs) ys = ap (λ zs. f x ∷ zs) (map_both f xs ys)

pub parts_in_both : (ps qs : Parts) → parts_in (and_then ps qs) ≡ parts_in ps ++ parts_in qs
parts_in_both no_parts qs = refl
parts_in_both (type_and t ps) qs = ap (λ xs. type_part t ∷ xs) (parts_in_both ps qs)
parts_in_both (lifetime_and l ps) qs = ap (λ xs. lifetime_part l ∷ xs) (parts_in_both ps qs)
parts_in_both (args_and a inside ps) qs =
    let own = map const_part (own_constants a) in
    ap (λ xs. own ++ (parts_in inside ++ xs)) (parts_in_both ps qs)
    ∙ sym (append_assoc own (parts_in inside ++ parts_in ps) (parts_in qs)
    ∙ ap (λ xs. own ++ xs) (append_assoc (parts_in inside) (parts_in ps) (parts_in qs)))

-- `put u v` is `u` with `v` for the visitor that is handed on to
module _ {U V : Type 0} (get : U → V) (put : U → V → U) (f : V → EntryPart → V) (on_type : U → TypeRefId → U)
    (on_lifetime : U → LifetimeRefId → U) (on_args : U → GenericArgs → U) (u : U)
    (types : (w : V) (t : TypeRefId) → on_type (put u w) t ≡ put u (f w (type_part t)))
    (lifetimes : (w : V) (l : LifetimeRefId) → on_lifetime (put u w) l ≡ put u (f w (lifetime_part l)))
    (args : (w : V) (a : GenericArgs) → on_args (put u w) a ≡ put u (taken f (map const_part (own_constants a)) w)) where
  abbrev hand : Parts → U → U
  hand = handed on_type on_lifetime on_args (λ s a. true)

  parts_put : (ps : Parts) (v : V) → hand ps (put u v) ≡ put u (taken f (parts_in ps) v)
  parts_put no_parts v = refl
  parts_put (type_and t ps) v = ap (hand ps) (types v t) ∙ parts_put ps (f v (type_part t))
  parts_put (lifetime_and l ps) v = ap (hand ps) (lifetimes v l) ∙ parts_put ps (f v (lifetime_part l))
  parts_put (args_and a inside ps) v =
      let own = map const_part (own_constants a) in
      let w = taken f own v in
      ap (λ s. hand ps (hand inside s)) (args v a)
      ∙ (ap (hand ps) (parts_put inside w)
      ∙ (parts_put ps (taken f (parts_in inside) w)
      ∙ ap (put u) (sym (taken_append f own (parts_in inside ++ parts_in ps) v ∙ taken_append f (parts_in inside) (parts_in ps) w))))

  pub parts_within : u ≡ put u (get u) → (ps : Parts) → hand ps u ≡ put u (taken f (parts_in ps) (get u))
  parts_within same ps = ap (hand ps) same ∙ parts_put ps (get u)
