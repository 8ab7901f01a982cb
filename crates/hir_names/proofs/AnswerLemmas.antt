-- Each name has its answer, but for those that are left.
use Rattle.std.proofs.Common.{arith, ◌≡◌, ◌⊎◌, ◌∙◌, inl, inr, refl, sym, ap, subst, ◌<◌, ◌≤◌, ℕ, zero, suc, Bool, true, false, true≢false}
use Rattle.std.proofs.Common.{List, [], ◌∷◌, ◌++◌, Option, Some, None, length, slice_get, slice_set}
use Rattle.std.proofs.lemmas.Bool.Decides.{nat_tests}
use Rattle.std.proofs.lemmas.Option.{same_Some, slice_get_within}
use Rattle.std.specs.List.{Contains}
use Rattle.std.specs.Prelude.{◌+◌, nat_eq, nat_lt, is_some, slice_index_or}
use Rattle.hir_env.specs.Answers.{Contexts}
use Rattle.hir_lower_scope.specs.ScopeRibs.{Rib, number_found, search, sought_first}
use Rattle.hir_scopes.specs.Bounds.{ScopeLists}
use Rattle.hir_scopes.specs.Chains.{IsChain}
use Rattle.hir_scopes.specs.Parts.{joined}
use Rattle.hir_scopes.specs.Records.{HasScope}
use Rattle.hir_scopes.specs.declared.scope.ScopeId.{ScopeId}
use Rattle.hir_store.specs.Stored.{Store}
use Rattle.hir_store.specs.declared.hir.Expr.{Expr}
use Rattle.hir_store.specs.declared.ids.BindingId.{BindingId}
use Rattle.hir_store.specs.declared.ids.ExprId.{ExprId}
use Rattle.hir_store.specs.declared.ids.HygieneId.{HygieneId}
use Rattle.hir_store.specs.declared.name.Name.{Name}
use Rattle.hir_walks.specs.Paths.{expr_hygiene}
use Rattle.spec_scopes.specs.Scopes.{read_of}
use Rattle.hir_names.specs.Reads.{Means, Reads, name_in}
use Rattle.hir_names.specs.Walk.{IsInScope, IsLeft, Resolved}
use Rattle.hir_names.proofs.WayLemmas.{in_scope_chain}

-- lists in which one place is written

get_set : {A : Type 0} (xs : List A) (i : ℕ) (x : A) → i < length xs → slice_get (slice_set xs i x) i ≡ Some x
get_set [] i x less = absurd (omega (arith, less))
get_set (y ∷ xs) zero x less = refl
get_set (y ∷ xs) (suc i) x less = get_set xs i x (omega (arith, less))

get_other : {A : Type 0} (xs : List A) (i j : ℕ) (x : A) → nat_eq j i ≡ false → slice_get (slice_set xs i x) j ≡ slice_get xs j
get_other [] i j x other = refl
get_other (y ∷ xs) zero zero x other = absurd (true≢false other)
get_other (y ∷ xs) zero (suc j) x other = refl
get_other (y ∷ xs) (suc i) zero x other = refl
get_other (y ∷ xs) (suc i) (suc j) x other = let apart : nat_eq j i ≡ false = grind (arith, nat_tests) in get_other xs i j x apart

length_set : {A : Type 0} (xs : List A) (i : ℕ) (x : A) → length (slice_set xs i x) ≡ length xs
length_set [] i x = refl
length_set (y ∷ xs) zero x = refl
length_set (y ∷ xs) (suc i) x = ap suc (length_set xs i x)

-- what is read where it was written, if anything is
get_written : (xs : List (Option BindingId)) (i : ℕ) (x : Option BindingId) (b : BindingId)
    → joined (slice_get (slice_set xs i x) i) ≡ Some b → x ≡ Some b
get_written [] i x b is = absurd (true≢false (sym (ap is_some is)))
get_written (y ∷ xs) zero x b is = is
get_written (y ∷ xs) (suc i) x b is = get_written xs i x b is

joined_as : (o : Option (Option BindingId)) (b : BindingId) → joined o ≡ Some b → o ≡ Some (Some b)
joined_as None b is = absurd (true≢false (sym (ap is_some is)))
joined_as (Some x) b is = ap Some is

joined_scope : (o : Option (Option ScopeId)) (s : ScopeId) → joined o ≡ Some s → o ≡ Some (Some s)
joined_scope None s is = absurd (true≢false (sym (ap is_some is)))
joined_scope (Some x) s is = ap Some is

-- membership

pub left_of : (rs : List (ℕ × ExprId)) (r : ℕ × ExprId) → Contains rs r → IsLeft r.1 rs
left_of rs r there = by rs there.0 there.1 there.2
  where
    by : (rs : List (ℕ × ExprId)) (k : ℕ) → k < length rs → slice_index_or rs k r ≡ r → IsLeft r.1 rs
    by [] k less is = absurd (omega (arith, less))
    by (q ∷ rs) zero less is = inl (sym (ap (λ (p : ℕ × ExprId). p.1) is))
    by (q ∷ rs) (suc k) less is = inr (by rs k (omega (arith, less)) is)

module _ (store : Store) (m : ScopeLists) where
  name_within : (e : ExprId) (n : Name) → name_in (slice_get store.exprs e.0) ≡ Some n → e.0 < length store.exprs
  name_within e n is = by (slice_get store.exprs e.0) refl is
    where
      by : (o : Option Expr) → slice_get store.exprs e.0 ≡ o → name_in o ≡ Some n → e.0 < length store.exprs
      by None was named = absurd (true≢false (sym (ap is_some named)))
      by (Some f) was named = slice_get_within store.exprs e.0 f was

  pub reads_within : (e : ExprId) → Reads store m e → e.0 < length store.exprs
  reads_within e reads = name_within e reads.0 reads.2

  pub not_named : (e : ExprId) → None ≡ name_in (slice_get store.exprs e.0) → Reads store m e → ⊥
  not_named e none reads = true≢false (sym (ap is_some (none ∙ reads.2)))

  pub not_scoped : (e : ExprId) → None ≡ joined (slice_get m.by_expr e.0) → Reads store m e → ⊥
  not_scoped e none reads = true≢false (sym (ap is_some (none ∙ ap joined reads.3)))

  -- one expression more is listed, if it is a name
  pub next_listed : (rs us : List (ℕ × ExprId)) (n : ℕ)
      → ((e : ExprId) → e.0 < n → Reads store m e → (place : ℕ) × Contains rs (place, e))
      → ((r : ℕ × ExprId) → Contains rs r → Contains us r)
      → (Reads store m (record { 0 = n }) → (place : ℕ) × Contains us (place, record { 0 = n }))
      → (e : ExprId) → e.0 < n + 1 → Reads store m e → (place : ℕ) × Contains us (place, e)
  next_listed rs us n all kept added e less reads = by (nat_lt e.0 n) refl
    where
      by : (t : Bool) → nat_lt e.0 n ≡ t → (place : ℕ) × Contains us (place, e)
      by true t =
          let before : e.0 < n = grind (arith, nat_tests) in
          let it = all e before reads in (it.0, kept (it.0, e) it.1)
      by false t =
          let same : n ≡ e.0 = grind (arith, nat_tests) in
          subst (λ (k : ℕ). Reads store m (record { 0 = k }) → (place : ℕ) × Contains us (place, record { 0 = k })) same added reads

  module _ (contexts : Contexts) where
    pub no_name : (e : ExprId) (b : Option BindingId) → None ≡ name_in (slice_get store.exprs e.0) → Means store m contexts e b
    no_name e b none n s ss named there chain = absurd (true≢false (sym (ap is_some (none ∙ named))))

    pub no_scope : (e : ExprId) (b : Option BindingId) → None ≡ joined (slice_get m.by_expr e.0) → Means store m contexts e b
    no_scope e b none n s ss named there chain = absurd (true≢false (sym (ap is_some (none ∙ ap joined there))))

    pub none_reads : (e : ExprId) (b : BindingId) → None ≡ Some b → Reads store m e
    none_reads e b is = absurd (true≢false (sym (ap is_some is)))

    pub found_reads : (e : ExprId) (n : Name) (s : ScopeId) → Some n ≡ name_in (slice_get store.exprs e.0)
        → Some s ≡ joined (slice_get m.by_expr e.0) → Reads store m e
    found_reads e n s named there = (n, s, sym named, joined_scope (slice_get m.by_expr e.0) s (sym there))

    -- what is found where the walk stands in the name's scope
    pub found_means : (e : ExprId) (n : Name) (s : ScopeId) (h : HygieneId) (rs : List (Rib BindingId)) (b : Option BindingId)
        → Some n ≡ name_in (slice_get store.exprs e.0) → Some s ≡ joined (slice_get m.by_expr e.0)
        → h ≡ expr_hygiene (slice_get store.exprs e.0) → IsInScope store m (Some s) rs
        → b ≡ number_found (search contexts n (sought_first h) rs) → Means store m contexts e b
    found_means e n s h rs b named there hygiene at found k t ss is has chain =
        let same_name : n ≡ k = same_Some n k (named ∙ is) in
        let same_scope : s ≡ t = same_Some s t (there ∙ ap joined has) in
        found
        ∙ (ap (λ us. number_found (search contexts n (sought_first h) us))
        (in_scope_chain store m (Some s) rs ss at (subst (λ (u : ScopeId). IsChain m (Some u) ss) (sym same_scope) chain))
        ∙ (ap (λ (x : Name). read_of store contexts x h ss) same_name ∙ ap (λ y. read_of store contexts k y ss) hygiene))

    -- at the start all are left
    pub all_left : (bs : List (Option BindingId)) (rs : List (ℕ × ExprId)) → length bs ≡ length store.exprs
        → ((e : ℕ) (b : BindingId) → slice_get bs e ≡ Some (Some b) → ⊥)
        → ((e : ExprId) → Reads store m e → (place : ℕ) × Contains rs (place, e)) → Resolved store m contexts bs rs
    all_left bs rs exprs none all = record {
      exprs = exprs;
      means = λ e reads. inl (left_of rs ((all e reads).0, e) (all e reads).1);
      reads = λ e b is. absurd (none e.0 b (joined_as (slice_get bs e.0) b is));
    }

    -- one more has its answer
    pub one_more : (bs : List (Option BindingId)) (rest : List (ℕ × ExprId)) (r : ℕ × ExprId) (b : Option BindingId)
        → Resolved store m contexts bs (r ∷ rest) → Means store m contexts r.1 b → ((d : BindingId) → b ≡ Some d → Reads store m r.1)
        → Resolved store m contexts (slice_set bs r.1.0 b) rest
    one_more bs rest r b resolved means reads = record {
      exprs = length_set bs r.1.0 b ∙ resolved.exprs;
      means = λ e it. mean e it (nat_eq e.0 r.1.0) refl;
      reads = λ e d is. read e d is (nat_eq e.0 r.1.0) refl;
    }
      where
        same : (e : ExprId) → nat_eq e.0 r.1.0 ≡ true → r.1 ≡ e
        same e t =
            let number : r.1.0 ≡ e.0 = grind (arith, nat_tests) in
            ap (λ i. record { 0 = i }) number

        mean : (e : ExprId) → Reads store m e → (t : Bool) → nat_eq e.0 r.1.0 ≡ t
            → IsLeft e rest ⊎ Means store m contexts e (joined (slice_get (slice_set bs r.1.0 b) e.0))
        mean e it true t =
            inr (subst (λ d. Means store m contexts d (joined (slice_get (slice_set bs r.1.0 b) d.0))) (same e t)
            (subst (λ o. Means store m contexts r.1 (joined o))
            (sym (get_set bs r.1.0 b (within (subst (Reads store m) (sym (same e t)) it)))) means))
          where
            within : Reads store m r.1 → r.1.0 < length bs
            within there = let inside = reads_within r.1 there in omega (arith, inside, resolved.exprs)
        mean e it false t =
            elim (resolved.means e it) [
              | inl there ↦ other there
              | inr there ↦ inr (subst (λ o. Means store m contexts e (joined o)) (sym (get_other bs r.1.0 e.0 b t)) there)
            ]
          where
            other : IsLeft e (r ∷ rest) → IsLeft e rest ⊎ Means store m contexts e (joined (slice_get (slice_set bs r.1.0 b) e.0))
            other (inl now) =
                let hit : nat_eq e.0 r.1.0 ≡ true = grind (arith, nat_tests, ap (λ (d : ExprId). d.0) now) in
                absurd (true≢false (sym hit ∙ t))
            other (inr later) = inl later

        read : (e : ExprId) (d : BindingId) → joined (slice_get (slice_set bs r.1.0 b) e.0) ≡ Some d → (t : Bool) → nat_eq e.0 r.1.0 ≡ t
            → Reads store m e
        read e d is true t =
            subst (Reads store m) (same e t)
            (reads d (get_written bs r.1.0 b d
            (subst (λ (c : ExprId). joined (slice_get (slice_set bs r.1.0 b) c.0) ≡ Some d) (sym (same e t)) is)))
        read e d is false t = resolved.reads e d (ap joined (sym (get_other bs r.1.0 e.0 b t)) ∙ is)

    pub next_resolved : (left rest : List (ℕ × ExprId)) (r : ℕ × ExprId) (bs cs : List (Option BindingId)) → left ≡ r ∷ rest
        → ((ts : List (ℕ × ExprId)) → Resolved store m contexts bs (r ∷ ts) → Resolved store m contexts cs ts)
        → Resolved store m contexts bs left → Resolved store m contexts cs rest
    next_resolved left rest r bs cs is step resolved = step rest (subst (Resolved store m contexts bs) is resolved)

    -- none is left
    pub none_left : (bs : List (Option BindingId)) (left : List (ℕ × ExprId)) → left ≡ [] → Resolved store m contexts bs left
        → Resolved store m contexts bs []
    none_left bs left is resolved = subst (Resolved store m contexts bs) is resolved

    pub all_mean : (bs : List (Option BindingId)) → Resolved store m contexts bs [] → (e : ExprId)
        → Means store m contexts e (joined (slice_get bs e.0))
    all_mean bs resolved e n s ss named there chain =
        elim (resolved.means e (n, s, named, there)) [
          | inl it ↦ elim it [ ]
          | inr means ↦ means n s ss named there chain
        ]
