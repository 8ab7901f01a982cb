-- What reaches each expression in one way only holds no expression twice.
use Rattle.std.proofs.Common.{◌≡◌, ◌≢◌, refl, sym, ap, subst, arith, ℕ, zero, suc, ◌+◌, ◌≤◌, length, List, [], ◌∷◌, ◌++◌}
use Rattle.hir_store.specs.Stored.{Store, map_of, store_of}
use Rattle.hir_store.specs.declared.generics.TypeOrConstParamData.TheVariants as param
use Rattle.hir_store.specs.declared.ids.ExprId.{ExprId}
use Rattle.hir_lower_scope.specs.Each.{Each}
use Rattle.thm_semantics.specs.Reached.{Distinct, of_each, reached_to}
use Rattle.thm_type_result.specs.Unrun.{all_unruns, exprs_of}
use Rattle.thm_type_result.proofs.Counted.{same, same_self, times}
use Rattle.thm_type_result.proofs.Weighed.{sum, sum_append}
use Rattle.thm_item_result.specs.Inside.{HeldApart, TwoDefaults, held_by_params}
use Rattle.thm_item_result.proofs.Costs.{a_param, each_append, params, predicates, present}
use Rattle.thm_item_result.proofs.Inside.{generics_hold_once, meter_of, params_held, weighed}

differ : (k j : ℕ) → k ≢ j → same k j ≡ 0
differ zero zero h = absurd (h refl)
differ zero (suc j) h = refl
differ (suc k) zero h = refl
differ (suc k) (suc j) h = differ k j (λ e. h (ap suc e))

is_same : (k j : ℕ) → 1 ≤ same k j → k ≡ j
is_same zero zero le = refl
is_same zero (suc j) le = absurd (omega (arith, le))
is_same (suc k) zero le = absurd (omega (arith, le))
is_same (suc k) (suc j) le = ap suc (is_same k j le)

at_most_one : (k j : ℕ) → same k j ≤ 1
at_most_one zero zero = omega arith
at_most_one zero (suc j) = omega arith
at_most_one (suc k) zero = omega arith
at_most_one (suc k) (suc j) = at_most_one k j

none_of : (k : ℕ) (js : List ℕ) → Each (λ j. k ≢ j) js → times k js ≡ 0
none_of k [] h = refl
none_of k (j ∷ js) h = let e = differ k j h.0 in let r = none_of k js h.1 in omega (arith, e, r)

once_only : (k : ℕ) (ks : List ℕ) → Distinct ks → times k ks ≤ 1
once_only k [] h = omega arith
once_only k (j ∷ js) h = by (same k j) refl (once_only k js h.1)
  where
    by : (n : ℕ) → same k j ≡ n → times k js ≤ 1 → same k j + times k js ≤ 1
    by zero e r = omega (arith, e, r)
    by (suc n) e r =
        let i = is_same k j (omega (arith, e)) in
        let z = none_of k js (subst (λ m. Each (λ i. m ≢ i) js) (sym i) h.0) in
        let m = at_most_one k j in omega (arith, z, m)

-- how often a number is reached
abbrev ways : Store → ℕ → ExprId → ℕ
ways store k i = times k (reached_to store (suc (length store.exprs)) i)

reaches_itself : (store : Store) (i : ExprId) → 1 ≤ ways store i.0 i
unfolding reached_to
reaches_itself store i = let s = same_self i.0 in omega (arith, s)

pub held_apart : HeldApart
held_apart store held once before between behind x y is same_expr =
    let deep = suc (length store.exprs) in
    let k = x.expr.0 in
    let w : ExprId → ℕ = λ i. ways store k i in
    let all = before ++ (x ∷ (between ++ (y ∷ behind))) in
    let o = once_only k (of_each (reached_to store deep) (exprs_of (held (all_unruns store)))) (once deep (omega arith)).distinct in
    let t = weighed (reached_to store deep) k (held (all_unruns store)) in
    let e = ap (sum w) is in
    let a = sum_append w before (x ∷ (between ++ (y ∷ behind))) in
    let b = sum_append w between (y ∷ behind) in
    let m = reaches_itself store x.expr in
    let n : 1 ≤ w y.expr = subst (λ i. 1 ≤ w i) same_expr m in
    absurd (many (sum w before) (w x.expr) (sum w between) (w y.expr) (sum w behind) o t e a b m n)
  where
    many : (p x q y r : ℕ) {n s u v : ℕ} → n ≤ 1 → n ≡ s → s ≡ u → u ≡ p + (x + v) → v ≡ q + (y + r) → 1 ≤ x → 1 ≤ y → ⊥
    many p x q y r g h i j l m n = omega (arith, g, h, i, j, l, m, n)

pub two_defaults : TwoDefaults
two_defaults def g limit new a is before between behind x y are c d first second same_expr =
    let s = store_of new.stored in
    let m = map_of new.stored in
    let lists = new.tracks.generics in
    let deep = suc (length s.exprs) in
    let k = c.expr.0 in
    let w : ExprId → ℕ = λ i. ways s k i in
    let r = all_unruns s in
    let q = meter_of w r in
    let held = held_by_params s m lists.type_or_consts lists.where_predicates r in
    let later = param.ConstParamData y ∷ behind in
    let spread = generics_hold_once def g limit new a is deep (omega arith) in
    let o = once_only k (of_each (reached_to s deep) (exprs_of held)) spread.distinct in
    let n = reaches_itself s c.expr in
    let l : 1 ≤ w d.expr = subst (λ z. 1 ≤ w z) same_expr n in
    absurd (many (params before q) (q.types x.ty) (w c.expr) (sum w (r.expr c.expr)) (params between q) (q.types y.ty) (w d.expr)
    (sum w (r.expr d.expr)) (params behind q) (predicates s m [] lists.where_predicates q) o (weighed (reached_to s deep) k held)
    (params_held w r s m lists.type_or_consts lists.where_predicates) (ap (λ xs. params xs q) are)
    (each_append (λ x. a_param x q) before (param.ConstParamData x ∷ (between ++ later)))
    (each_append (λ x. a_param x q) between later) (ap (present q.constants) first) (ap (present q.constants) second) n l)
  where
    many : (before x1 c1 c2 between y1 d1 d2 behind rest : ℕ) {n s p u v x2 y2 : ℕ} → n ≤ 1 → n ≡ s → s ≡ p + rest → p ≡ u
        → u ≡ before + ((x1 + x2) + v) → v ≡ between + ((y1 + y2) + behind) → x2 ≡ c1 + c2 → y2 ≡ d1 + d2 → 1 ≤ c1 → 1 ≤ d1 → ⊥
    many before x1 c1 c2 between y1 d1 d2 behind rest g h i j k l m n o p = omega (arith, g, h, i, j, k, l, m, n, o, p)
