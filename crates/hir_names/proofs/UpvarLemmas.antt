-- What is added to the upvars, and that these are just what the body mentions from outside.
use Rattle.std.proofs.Common.{arith, ◌≡◌, ◌⊎◌, ◌∙◌, inl, inr, refl, sym, ap, subst, ℕ, Bool, true, false, true≢false, ◌||◌, cond}
use Rattle.std.proofs.Common.{if◌then◌else◌, List, [], ◌∷◌, ◌++◌, Option, Some, None}
use Rattle.std.proofs.lemmas.Bool.Decides.{nat_tests}
use Rattle.std.proofs.lemmas.Option.{same_Some}
use Rattle.std.specs.BTreeMap.{is_at}
use Rattle.std.specs.BTreeSet.{BTreeSet, contains}
use Rattle.std.specs.Ordering.{is_eq, nat_cmp}
use Rattle.std.specs.Prelude.{◌↔◌, nat_eq, not, slice_get}
use Rattle.hir_scopes.specs.Parts.{joined}
use Rattle.hir_store.specs.Stored.{Store}
use Rattle.hir_store.specs.declared.ids.BindingId.{BindingId}
use Rattle.hir_store.specs.declared.ids.ExprId.{ExprId}
use Rattle.hir_names.specs.Sets.{binding_cmp, expr_cmp, has_in, has_seen}
use Rattle.hir_names.specs.Upvars.{IsUpvar, body_exprs, has_binding, has_expr, is_inside, is_made_in, with_upvar, with_upvars}

at_number : (k j : ℕ) → is_eq (nat_cmp k j) ≡ nat_eq k j
at_number k j = grind (arith, nat_tests)

same_id : (b d : BindingId) → nat_eq b.0 d.0 ≡ true → b ≡ d
same_id b d t = let number : b.0 ≡ d.0 = grind (arith, nat_tests) in ap (λ i. record { 0 = i }) number

same_expr : (d e : ExprId) → nat_eq d.0 e.0 ≡ true → d ≡ e
same_expr d e t = let number : d.0 ≡ e.0 = grind (arith, nat_tests) in ap (λ i. record { 0 = i }) number

either : (t u : Bool) → cond t true u ≡ (t || u)
either true u = refl
either false u = refl

shift : (t u v : Bool) → (cond t true u || v) ≡ (u || (t || v))
shift true true v = refl
shift true false v = refl
shift false u v = refl

or_false : (t : Bool) → (t || false) ≡ t
or_false true = refl
or_false false = refl

swap : (t u v : Bool) → (t || (u || v)) ≡ (u || (t || v))
swap true true v = refl
swap true false v = refl
swap false u v = refl

-- the set of the expressions inside

pub one_more_in : (s t : BTreeSet ExprId) (left rest : List ExprId) (d : ExprId) → left ≡ d ∷ rest
    → ((e : ExprId) → has_in t e ≡ cond (is_at (expr_cmp d) e) true (has_in s e))
    → (e : ExprId) → (has_in t e || has_expr rest e) ≡ (has_in s e || has_expr left e)
one_more_in s t left rest d is added e =
    ap (λ u. u || has_expr rest e) (added e)
    ∙ (ap (λ u. cond u true (has_in s e) || has_expr rest e) (at_number d.0 e.0)
    ∙ (shift (nat_eq d.0 e.0) (has_in s e) (has_expr rest e) ∙ ap (λ es. has_in s e || has_expr es e) (sym is)))

pub all_in : (s : BTreeSet ExprId) (left : List ExprId) (e : ExprId) → left ≡ [] → (has_in s e || has_expr left e) ≡ has_in s e
all_in s left e none = ap (λ es. has_in s e || has_expr es e) none ∙ or_false (has_in s e)

-- the set of the upvars

pub has_push : (bs : List BindingId) (d b : BindingId) → has_binding (bs ++ d ∷ []) b ≡ (nat_eq d.0 b.0 || has_binding bs b)
has_push [] d b = refl
has_push (c ∷ bs) d b =
    ap (λ u. nat_eq c.0 b.0 || u) (has_push bs d b) ∙ swap (nat_eq c.0 b.0) (nat_eq d.0 b.0) (has_binding bs b)

module _ (s t : BTreeSet BindingId) (bs : List BindingId) (d : BindingId) (same : (b : BindingId) → has_seen s b ≡ has_binding bs b)
    (added : (b : BindingId) → has_seen t b ≡ cond (is_at (binding_cmp d) b) true (has_seen s b)) where
  now_has : (b : BindingId) → has_seen t b ≡ (nat_eq d.0 b.0 || has_binding bs b)
  now_has b =
      added b
      ∙ (ap (λ u. cond u true (has_seen s b)) (at_number d.0 b.0)
      ∙ (either (nat_eq d.0 b.0) (has_seen s b) ∙ ap (λ u. nat_eq d.0 b.0 || u) (same b)))

  was_there : false ≡ not (has_seen s d) → has_binding bs d ≡ true
  was_there old = by (has_seen s d) refl old
    where
      by : (u : Bool) → has_seen s d ≡ u → false ≡ not u → has_binding bs d ≡ true
      by true is e = sym (same d) ∙ is
      by false is e = absurd (true≢false (sym e))

  wasnt_there : true ≡ not (has_seen s d) → has_binding bs d ≡ false
  wasnt_there new = by (has_seen s d) refl new
    where
      by : (u : Bool) → has_seen s d ≡ u → true ≡ not u → has_binding bs d ≡ false
      by true is e = absurd (true≢false e)
      by false is e = sym (same d) ∙ is

  pub there_seen : false ≡ not (has_seen s d) → (b : BindingId) → has_seen t b ≡ has_binding bs b
  there_seen old b = now_has b ∙ by (nat_eq d.0 b.0) refl
    where
      by : (u : Bool) → nat_eq d.0 b.0 ≡ u → (u || has_binding bs b) ≡ has_binding bs b
      by true is = sym (ap (has_binding bs) (sym (same_id d b is)) ∙ was_there old)
      by false is = refl

  pub there_kept : false ≡ not (has_seen s d) → bs ≡ (if has_binding bs d then bs else bs ++ d ∷ [])
  there_kept old = ap (λ (u : Bool). if u then bs else bs ++ d ∷ []) (sym (was_there old))

  pub new_seen : (cs : List BindingId) → cs ≡ bs ++ d ∷ [] → (b : BindingId) → has_seen t b ≡ has_binding cs b
  new_seen cs pushed b = now_has b ∙ (sym (has_push bs d b) ∙ ap (λ es. has_binding es b) (sym pushed))

  pub new_added : (cs : List BindingId) → cs ≡ bs ++ d ∷ [] → true ≡ not (has_seen s d)
      → cs ≡ (if has_binding bs d then bs else bs ++ d ∷ [])
  new_added cs pushed new = pushed ∙ ap (λ (u : Bool). if u then bs else bs ++ d ∷ []) (sym (wasnt_there new))

-- whether an owner is inside
module _ (store : Store) (closure : ExprId) (o : Option ExprId) where
  pub no_owner : None ≡ o → false ≡ is_inside store closure o
  no_owner is = ap (is_inside store closure) is

  pub owner_itself : (w : ExprId) → Some w ≡ o → nat_eq w.0 closure.0 ≡ true → true ≡ is_inside store closure o
  owner_itself w is same = ap (λ t. t || has_expr (body_exprs store closure) w) (sym same) ∙ ap (is_inside store closure) is

  pub owner_inside : (w : ExprId) (r : Bool) → Some w ≡ o → nat_eq w.0 closure.0 ≡ false → r ≡ has_expr (body_exprs store closure) w
      → r ≡ is_inside store closure o
  owner_inside w r is other inside =
      inside ∙ (ap (λ t. t || has_expr (body_exprs store closure) w) (sym other) ∙ ap (is_inside store closure) is)

module _ (store : Store) (meanings : List (Option BindingId)) (closure : ExprId) where
  -- one expression

  pub nothing_meant : (bs : List BindingId) (o : Option BindingId) → None ≡ o → bs ≡ with_upvar store meanings closure bs o
  nothing_meant bs o none = ap (with_upvar store meanings closure bs) none

  pub made_inside : (bs : List BindingId) (o : Option BindingId) (b : BindingId) → Some b ≡ o → is_made_in store closure b ≡ true
      → bs ≡ with_upvar store meanings closure bs o
  made_inside bs o b is made =
      ap (λ (t : Bool). if t || has_binding bs b then bs else bs ++ b ∷ []) (sym made) ∙ ap (with_upvar store meanings closure bs) is

  pub made_outside : (bs cs : List BindingId) (o : Option BindingId) (b : BindingId) → Some b ≡ o → is_made_in store closure b ≡ false
      → cs ≡ (if has_binding bs b then bs else bs ++ b ∷ []) → cs ≡ with_upvar store meanings closure bs o
  made_outside bs cs o b is made added =
      added
      ∙ (ap (λ (t : Bool). if t || has_binding bs b then bs else bs ++ b ∷ []) (sym made) ∙ ap (with_upvar store meanings closure bs) is)

  -- one after another

  pub next_mention : (left rest : List ExprId) (e : ExprId) (bs cs : List BindingId) → left ≡ e ∷ rest
      → cs ≡ with_upvar store meanings closure bs (joined (slice_get meanings e.0))
      → with_upvars store meanings closure bs left ≡ with_upvars store meanings closure cs rest
  next_mention left rest e bs cs is added =
      ap (with_upvars store meanings closure bs) is ∙ ap (λ ds. with_upvars store meanings closure ds rest) (sym added)

  pub no_mention : (left : List ExprId) (bs : List BindingId) → left ≡ [] → with_upvars store meanings closure bs left ≡ bs
  no_mention left bs none = ap (with_upvars store meanings closure bs) none

  -- what is among them

  abbrev Meant : List ExprId → BindingId → Type 0
  Meant es b = ((e : ExprId) × (has_expr es e ≡ true) × (joined (slice_get meanings e.0) ≡ Some b)) × (is_made_in store closure b ≡ false)

  or_right : (t u : Bool) → u ≡ true → (t || u) ≡ true
  or_right true u is = refl
  or_right false u is = is

  or_cases : (t u : Bool) → (t || u) ≡ true → (t ≡ true) ⊎ (u ≡ true)
  or_cases true u is = inl refl
  or_cases false u is = inr is

  one_kept : (bs : List BindingId) (o : Option BindingId) (b : BindingId) → has_binding bs b ≡ true
      → has_binding (with_upvar store meanings closure bs o) b ≡ true
  one_kept bs None b is = is
  one_kept bs (Some d) b is = by (is_made_in store closure d || has_binding bs d)
    where
      by : (t : Bool) → has_binding (if t then bs else bs ++ d ∷ []) b ≡ true
      by true = is
      by false = has_push bs d b ∙ or_right (nat_eq d.0 b.0) (has_binding bs b) is

  all_kept : (es : List ExprId) (bs : List BindingId) (b : BindingId) → has_binding bs b ≡ true
      → has_binding (with_upvars store meanings closure bs es) b ≡ true
  all_kept [] bs b is = is
  all_kept (e ∷ es) bs b is =
      all_kept es (with_upvar store meanings closure bs (joined (slice_get meanings e.0))) b
      (one_kept bs (joined (slice_get meanings e.0)) b is)

  one_there : (bs : List BindingId) (b : BindingId) → is_made_in store closure b ≡ false
      → has_binding (with_upvar store meanings closure bs (Some b)) b ≡ true
  one_there bs b made =
      ap (λ (t : Bool). has_binding (if t || has_binding bs b then bs else bs ++ b ∷ []) b) made ∙ by (has_binding bs b) refl
    where
      by : (t : Bool) → has_binding bs b ≡ t → has_binding (if t then bs else bs ++ b ∷ []) b ≡ true
      by true is = is
      by false is =
          let hit : nat_eq b.0 b.0 ≡ true = grind (arith, nat_tests) in
          has_push bs b b ∙ ap (λ (t : Bool). t || has_binding bs b) hit

  pub meant_there : (es : List ExprId) (bs : List BindingId) (b : BindingId) → Meant es b
      → has_binding (with_upvars store meanings closure bs es) b ≡ true
  meant_there [] bs b meant = absurd (true≢false (sym meant.0.1))
  meant_there (d ∷ es) bs b meant =
      elim (or_cases (nat_eq d.0 meant.0.0.0) (has_expr es meant.0.0) meant.0.1) [
        | inl now ↦ all_kept es (with_upvar store meanings closure bs (joined (slice_get meanings d.0))) b (here now)
        | inr later ↦ meant_there es (with_upvar store meanings closure bs (joined (slice_get meanings d.0))) b
            ((meant.0.0, later, meant.0.2), meant.1)
      ]
    where
      here : nat_eq d.0 meant.0.0.0 ≡ true
          → has_binding (with_upvar store meanings closure bs (joined (slice_get meanings d.0))) b ≡ true
      here now =
          let means = ap (λ (e : ExprId). joined (slice_get meanings e.0)) (same_expr d meant.0.0 now) ∙ meant.0.2 in
          ap (λ o. has_binding (with_upvar store meanings closure bs o) b) means ∙ one_there bs b meant.1

  one_from : (bs : List BindingId) (o : Option BindingId) (b : BindingId) → has_binding (with_upvar store meanings closure bs o) b ≡ true
      → (has_binding bs b ≡ true) ⊎ ((o ≡ Some b) × (is_made_in store closure b ≡ false))
  one_from bs None b is = inl is
  one_from bs (Some d) b is = by (is_made_in store closure d) refl (has_binding bs d) is
    where
      pushed : is_made_in store closure d ≡ false → (nat_eq d.0 b.0 ≡ true) ⊎ (has_binding bs b ≡ true)
          → (has_binding bs b ≡ true) ⊎ ((Some d ≡ Some b) × (is_made_in store closure b ≡ false))
      pushed made (inl same) =
          let id = same_id d b same in inr (ap Some id, subst (λ (c : BindingId). is_made_in store closure c ≡ false) id made)
      pushed made (inr old) = inl old

      by : (t : Bool) → is_made_in store closure d ≡ t → (u : Bool) → has_binding (if t || u then bs else bs ++ d ∷ []) b ≡ true
          → (has_binding bs b ≡ true) ⊎ ((Some d ≡ Some b) × (is_made_in store closure b ≡ false))
      by true made u it = inl it
      by false made true it = inl it
      by false made false it = pushed made (or_cases (nat_eq d.0 b.0) (has_binding bs b) (sym (has_push bs d b) ∙ it))

  all_from : (es : List ExprId) (bs : List BindingId) (b : BindingId) → has_binding (with_upvars store meanings closure bs es) b ≡ true
      → (has_binding bs b ≡ true) ⊎ Meant es b
  all_from [] bs b is = inl is
  all_from (d ∷ es) bs b is =
      elim (all_from es (with_upvar store meanings closure bs (joined (slice_get meanings d.0))) b is) [
        | inl old ↦ here (one_from bs (joined (slice_get meanings d.0)) b old)
        | inr meant ↦ inr ((meant.0.0, or_right (nat_eq d.0 meant.0.0.0) (has_expr es meant.0.0) meant.0.1, meant.0.2), meant.1)
      ]
    where
      here : (has_binding bs b ≡ true) ⊎ ((joined (slice_get meanings d.0) ≡ Some b) × (is_made_in store closure b ≡ false))
          → (has_binding bs b ≡ true) ⊎ Meant (d ∷ es) b
      here (inl old) = inl old
      here (inr now) =
          let hit : nat_eq d.0 d.0 ≡ true = grind (arith, nat_tests) in
          inr ((d, ap (λ (t : Bool). t || has_expr es d) hit, now.0), now.1)

  pub listed : (bs : List BindingId) → bs ≡ with_upvars store meanings closure [] (body_exprs store closure) → (b : BindingId)
      → (has_binding bs b ≡ true) ↔ IsUpvar store meanings closure b
  listed bs is b = (
    λ there.
        elim (all_from (body_exprs store closure) [] b (ap (λ cs. has_binding cs b) (sym is) ∙ there)) [
          | inl old ↦ absurd (true≢false (sym old))
          | inr meant ↦ meant
        ],
    λ meant. ap (λ cs. has_binding cs b) is ∙ meant_there (body_exprs store closure) [] b meant,
  )

pub ruleset owners = (no_owner, owner_itself, owner_inside)
