-- Of places that are said of a name one after another the first is found.
use Rattle.std.proofs.Common.{◌≡◌, ℕ, Bool, true, false, ◌&&◌, if◌then◌else◌, cond, List, [], ◌∷◌, Option, Some, None, is_some}
use Rattle.std.proofs.Common.{refl, sym, ap, ◌∙◌, true≢false, Ordering, Less, Equal, Greater, nat_eq, ◌+◌, ◌<◌, ◌≤◌, length, drop}
use Rattle.std.specs.Prelude.{get_or}
use Rattle.std.proofs.lemmas.List.{drop_all, drop_more}
use Rattle.std.specs.BTreeMap.{insert_entry}
use Rattle.std.specs.Cmp.{Equal-is, alike_right, eq_by_cmp_equiv}
use Rattle.std.specs.Cmp.Lexicographic.{texts_ties}
use Rattle.std.specs.Map.{lookup}
use Rattle.std.specs.Ordering.{is_eq, eq_by_cmp, match_ordering}
use Rattle.hir_store.specs.NameOrder.{name_cmp, name_total}
use Rattle.hir_store.specs.Names.{same_name}
use Rattle.std.specs.List.{position_from}
use Rattle.hir_store.specs.Params.{is_called}
use Rattle.hir_store.specs.declared.generics.LifetimeParamData.{LifetimeParamData}
use Rattle.hir_store.specs.declared.name.Name.{Name}
use Rattle.hir_store.specs.declared.name.Name.TheVariants as name
use Rattle.hir_alias.specs.Placing.{place_of_name, with_first}

-- what was said before counts, and else what is said later
abbrev pub or_later : Option ℕ → Option ℕ → Option ℕ
or_later (Some k) later = Some k
or_later None later = later

with_true : (b : Bool) → b ≡ (b && true)
with_true true = refl
with_true false = refl

same_names : (a b : Name) → same_name a b ≡ eq_by_cmp name_cmp a b
same_names (name.Text a) (name.Text b) = texts_ties a b
same_names (name.Text a) name.Missing = refl
same_names (name.Text a) (name.Generated k) = refl
same_names name.Missing (name.Text b) = refl
same_names name.Missing name.Missing = refl
same_names name.Missing (name.Generated k) = refl
same_names (name.Generated i) (name.Text b) = refl
same_names (name.Generated i) name.Missing = refl
same_names (name.Generated i) (name.Generated k) = with_true (nat_eq i k) ∙ texts_ties (i ∷ []) (k ∷ [])

twice : {X : Type 0} (b : Bool) (x y z : X) → cond b x z ≡ cond b x (cond b y z)
twice true x y z = refl
twice false x y z = refl

swap : {X : Type 0} (b c : Bool) (x y z : X) → (b ≡ true → c ≡ true → ⊥) → cond c y (cond b x z) ≡ cond b x (cond c y z)
swap true true x y z never = absurd (never refl refl)
swap true false x y z never = refl
swap false c x y z never = refl

apart : (q k x : Name) → name_cmp k x ≡ Greater → is_eq (name_cmp q k) ≡ true → is_eq (name_cmp q x) ≡ true → ⊥
apart q k x greater b c =
    true≢false (sym c ∙ (ap is_eq (name_total.congr q k x ((Equal-is (name_cmp q k)).0 b)) ∙ ap is_eq greater))

found_alike : (es : List (Name × ℕ)) (q k : Name) → eq_by_cmp name_cmp q k ≡ true → place_of_name es q ≡ place_of_name es k
found_alike es q k e = λ i. lookup (λ x. is_eq (name_total.congr q k x ((Equal-is (name_cmp q k)).0 e) i)) es

found_inserted : (es : List (Name × ℕ)) (k : Name) (t : ℕ) (q : Name)
    → place_of_name (insert_entry name_cmp es k t) q ≡ cond (eq_by_cmp name_cmp q k) (Some t) (place_of_name es q)
found_inserted [] k t q = refl
found_inserted (e ∷ es) k t q = by (found_inserted es k t q) (name_cmp k e.0) refl
  where
    by : place_of_name (insert_entry name_cmp es k t) q ≡ cond (eq_by_cmp name_cmp q k) (Some t) (place_of_name es q) → (r : Ordering)
        → name_cmp k e.0 ≡ r
        → place_of_name (match_ordering r ((k, t) ∷ e ∷ es) ((e.0, t) ∷ es) (e ∷ insert_entry name_cmp es k t)) q
        ≡ cond (eq_by_cmp name_cmp q k) (Some t) (place_of_name (e ∷ es) q)
    by behind Less is = refl
    by behind Equal is =
        twice (is_eq (name_cmp q e.0)) (Some t) (Some e.1) (place_of_name es q)
        ∙ ap (λ r. cond (is_eq r) (Some t) (place_of_name (e ∷ es) q)) (sym (alike_right name_total k e.0 q is))
    by behind Greater is =
        ap (cond (is_eq (name_cmp q e.0)) (Some e.1)) behind
        ∙ swap (is_eq (name_cmp q k)) (is_eq (name_cmp q e.0)) (Some t) (Some e.1) (place_of_name es q) (apart q k e.0 is)

flipped : (p n : Name) → same_name p n ≡ eq_by_cmp name_cmp n p
flipped p n = same_names p n ∙ (eq_by_cmp_equiv name_total).symm p n

-- one more is said, and then the others
first_by : (es : List (Name × ℕ)) (k : Name) (t : ℕ) (q : Name) (later before : Option ℕ) (b : Bool)
    → place_of_name es k ≡ before → eq_by_cmp name_cmp q k ≡ b
    → or_later (place_of_name es q) (cond b (Some t) later)
    ≡ or_later (place_of_name (if is_some before then es else insert_entry name_cmp es k t) q) later
first_by es k t q later (Some x) true is same =
    let found_it = found_alike es q k same ∙ is in
    ap (λ m. or_later m (Some t)) found_it ∙ sym (ap (λ m. or_later m later) found_it)
first_by es k t q later (Some x) false is same = refl
first_by es k t q later None true is same =
    let not_yet = found_alike es q k same ∙ is in
    ap (λ m. or_later m (Some t)) not_yet
    ∙ sym (ap (λ m. or_later m later) (found_inserted es k t q ∙ ap (λ b. cond b (Some t) (place_of_name es q)) same))
first_by es k t q later None false is same =
    sym (ap (λ m. or_later m later) (found_inserted es k t q ∙ ap (λ b. cond b (Some t) (place_of_name es q)) same))

pub said_first : (es : List (Name × ℕ)) (p : LifetimeParamData) (ps : List LifetimeParamData) (k : ℕ) (n : Name)
    → or_later (place_of_name es n) (position_from (is_called n) k (p ∷ ps))
    ≡ or_later (place_of_name (with_first es p.name k) n) (position_from (is_called n) (k + 1) ps)
said_first es p ps k n =
    let later = position_from (is_called n) (k + 1) ps in
    ap (λ b. or_later (place_of_name es n) (cond b (Some k) later)) (flipped p.name n)
    ∙ first_by es p.name k n later (place_of_name es p.name) (eq_by_cmp name_cmp n p.name) refl refl

-- the same of the parameter at a place
pub said_next : (es : List (Name × ℕ)) (params : List LifetimeParamData) (i : ℕ) (p : LifetimeParamData) (k : ℕ) (n : Name)
    → i < length params → p ≡ get_or params i p
    → or_later (place_of_name es n) (position_from (is_called n) k (drop i params))
    ≡ or_later (place_of_name (with_first es p.name k) n) (position_from (is_called n) (k + 1) (drop (i + 1) params))
said_next es params i p k n within is =
    ap (λ ps. or_later (place_of_name es n) (position_from (is_called n) k ps)) (drop_more params i p within)
    ∙ ap (λ q. or_later (place_of_name es n) (position_from (is_called n) k (q ∷ drop (i + 1) params))) (sym is)
    ∙ said_first es p (drop (i + 1) params) k n

nothing_later : (o : Option ℕ) → or_later o None ≡ o
nothing_later (Some k) = refl
nothing_later None = refl

pub said_all : (es : List (Name × ℕ)) (params : List LifetimeParamData) (i k : ℕ) (n : Name) → length params ≤ i
    → or_later (place_of_name es n) (position_from (is_called n) k (drop i params)) ≡ position_from (is_called n) 0 params
    → place_of_name es n ≡ position_from (is_called n) 0 params
said_all es params i k n over said =
    sym (nothing_later (place_of_name es n))
    ∙ ap (λ ps. or_later (place_of_name es n) (position_from (is_called n) k ps)) (sym (drop_all i params over))
    ∙ said
