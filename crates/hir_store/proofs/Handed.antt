-- Parts are handed one after another.
use Rattle.std.proofs.Common.{◌≡◌, ◌∙◌, refl, sym, ap, Bool, ℕ, ◌+◌, ◌<◌, List, length, drop, if◌then◌else◌}
use Rattle.std.specs.Prelude.{get_or}
use Rattle.std.proofs.lemmas.List.{drop_more}
use Rattle.hir_store.specs.declared.ids.TypeRefId.{TypeRefId}
use Rattle.hir_store.specs.declared.ids.LifetimeRefId.{LifetimeRefId}
use Rattle.hir_store.specs.declared.path.GenericArgs.{GenericArgs}
use Rattle.hir_store.specs.Parts.{Parts, no_parts, type_and, lifetime_and, args_and, and_then, of_each}
use Rattle.hir_store.specs.Handed.{handed}

pub handed_append : {V : Type 0} (f : V → TypeRefId → V) (g : V → LifetimeRefId → V) (h : V → GenericArgs → V) (e : V → GenericArgs → Bool)
    (ps qs : Parts) (v : V) → handed f g h e (and_then ps qs) v ≡ handed f g h e qs (handed f g h e ps v)
handed_append f g h e no_parts qs v = refl
handed_append f g h e (type_and t ps) qs v = handed_append f g h e ps qs (f v t)
handed_append f g h e (lifetime_and l ps) qs v = handed_append f g h e ps qs (g v l)
handed_append f g h e (args_and a inside ps) qs v =
    handed_append f g h e ps qs (if e v a then handed f g h e inside (h v a) else h v a)

-- the parts of the element at a place, and then those of the elements behind it
pub each_next : {A V : Type 0} (f : V → TypeRefId → V) (g : V → LifetimeRefId → V) (h : V → GenericArgs → V) (e : V → GenericArgs → Bool)
    (one : A → Parts) (xs : List A) (i : ℕ) (x : A) (v : V) → i < length xs → x ≡ get_or xs i x
    → handed f g h e (of_each one (drop i xs)) v ≡ handed f g h e (of_each one (drop (i + 1) xs)) (handed f g h e (one x) v)
each_next f g h e one xs i x v within is =
    ap (λ ys. handed f g h e (of_each one ys) v) (drop_more xs i x within)
    ∙ (ap (λ y. handed f g h e (and_then (one y) (of_each one (drop (i + 1) xs))) v) (sym is)
    ∙ handed_append f g h e (one x) (of_each one (drop (i + 1) xs)) v)
