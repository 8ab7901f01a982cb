-- What stands behind a barrier: no `yield` in it is one of the body around it, and a closure tells whether one stood in it.
use Rattle.std.proofs.Common.{◌≡◌, ◌∙◌, refl, sym, ap, subst, List, ◌∷◌, Bool, true, false, Option, Some, Ok, Err}
use Rattle.hir_store.specs.Pointers.{Pointer}
use Rattle.hir_store.specs.Stored.{Stored}
use Rattle.hir_store.specs.StoreSink as store_sink
use Rattle.hir_store.specs.declared.hir.Expr.TheVariants as hir
use Rattle.hir_store.specs.declared.ids.ExprId.{ExprId}
use Rattle.hir_store.specs.declared.ids.TypeRefId.{TypeRefId}
use Rattle.hir_store.proofs.Extending.{extends_trans}
use Rattle.hir_lower_scope.specs.ScopeRibs.{barrier_rib}
use Rattle.hir_lower_scope.specs.Labels.{rest}
use Rattle.hir_lower_builder.specs.declared.closures.ClosureParams.{ClosureParams}
use Rattle.hir_lower_builder.specs.Builder.{Builder}
use Rattle.hir_lower_builder.specs.Forms.{ExprSteps, stored_closure}
use Rattle.hir_lower_builder.specs.Lowering.{Checked, go_on, Lowering, ◌>>=◌, ◌>>◌, pure, alloc_expr, open_barrier, close_barrier}
use Rattle.hir_lower_builder.specs.Lowering.{enter_root, leave_root, outside_root, record_root, track_yield}
use Rattle.hir_lower_builder.specs.Lower.{closure_form, constant_form, coroutine_form, value_form, yield_form}
use Rattle.hir_lower_builder.specs.Ranges.{inner_form}
use Rattle.thm_logic.specs.Keeps.{Paired}
use Rattle.thm_logic.proofs.Constants.{entered, leaving}
use Rattle.thm_logic.proofs.Frames.{Frame, barrier_at, ribs}
use Rattle.thm_logic.proofs.Logic.{Mark, mark, Grows, Rel, Answers, Holds, Correct, correct_as, correct_bind, correct_pure}
use Rattle.thm_logic.proofs.Logic.{grows_trans}
use Rattle.thm_logic.proofs.MadeSteps.{behind, correct_like}
use Rattle.thm_logic.proofs.Steps.{Allocated, correct_alloc}
use Rattle.thm_logic.proofs.Yields.{LeavesTo, Still, Raises, RaisedTo, raises_begin, raises_end, raises_tracked, raises_pure}
use Rattle.thm_logic.proofs.Yields.{raises_then}
use Rattle.thm_logic.proofs.Yields.{still_expr, still_trans}

-- constants

still_behind : {A : Type 0} (make : ExprId → A) (p : ExprSteps)
    → Still (open_barrier >>= (λ outside. enter_root >>= (λ outer. p >>= leaving make outside outer)))
unfolding open_barrier enter_root close_barrier leave_root outside_root record_root store_sink.record_root
still_behind make p = record { still = λ b. by b b.in_root (p (entered b)).0 (p (entered b)).1 }
  where
    by : (b : Builder) (outer : Bool) (o : Checked ExprId) (c : Builder)
        → LeavesTo b (go_on o c (leaving make b.yields outer)).0 (go_on o c (leaving make b.yields outer)).1
    by b true (Ok i) c = refl
    by b false (Ok i) c = refl
    by b outer (Err e) c = tt

pub still_inner : (p : ExprSteps) → Still (inner_form p)
unfolding inner_form
still_inner p = still_behind (λ i. i) p

pub still_constant : (p : ExprSteps) → Still (constant_form p)
unfolding constant_form
still_constant p = still_behind (λ i. record { expr = i }) p

-- a barrier by itself

-- behind it
abbrev pub shut : Builder → Builder
shut b = record b { scopes = barrier_rib ∷ b.scopes; yields = false }

-- outside of it again
abbrev pub outside_again : Bool → Builder → Builder
outside_again outside b = record b { scopes = rest b.scopes; yields = outside }

-- What runs behind the barrier, and what then runs outside of it, which is told whether a `yield` stood in it.
pub record Behind {A B : Type 0} (p : Lowering A) (R : Rel A) (Q : A → Bool → Rel B) (final : Stored) (ps : List Frame) (m m' : Mark)
    (b : B) : Type 0 where
  pub left : Mark
  pub one : A
  pub yields : Bool
  pub raised : (z : Bool) → Raises z p → yields ≡ z
  pub before : Grows m left
  pub after : Grows left m'
  pub first : R final (barrier_at ∷ ps) m left one
  pub second : Q one yields final ps left m' b

module _ {A B : Type 0} (p : Lowering A) (R : Rel A) (f : A → Bool → Lowering B) (Q : A → Bool → Rel B) where
  -- what is done with what was made behind it
  abbrev go_out : Bool → A → Lowering B
  go_out outside a = λ c. f a c.yields (outside_again outside c)

  emitted : (b c : Builder) (a : A) → p (shut b) ≡ (Ok a, c) → Paired b.stored → (z : Bool) → Raises z p → c.yields ≡ z
  emitted b c a is d z h = (subst (λ r. RaisedTo z (shut b) r.0 r.1) is (h.at (shut b) d)).1

  outside_of : (final : Stored) (ps : List Frame) (b c : Builder) (a : A) → p (shut b) ≡ (Ok a, c)
      → Answers R final (barrier_at ∷ ps) (shut b) c a → (o : Checked B) (c' : Builder)
      → Holds (Q a c.yields) final ps (outside_again b.yields c) o c' → Holds (Behind p R Q) final ps b o c'
  outside_of final ps b c a is x (Ok e) c' y = record {
    kept = record {
      scopes = y.kept.scopes ∙ ap rest x.kept.scopes;
      in_root = y.kept.in_root ∙ x.kept.in_root;
      roots = λ t. y.kept.roots (x.kept.in_root ∙ t) ∙ x.kept.roots t;
      paired = λ d. y.kept.paired (x.kept.paired d);
      mapped = λ d w. y.kept.mapped (x.kept.paired d) (x.kept.mapped d w);
      stays = extends_trans x.kept.stays y.kept.stays;
    };
    grows = grows_trans x.grows y.grows;
    in_final = λ d pre. record {
      left = mark c;
      one = a;
      yields = c.yields;
      raised = emitted b c a is d;
      before = x.grows;
      after = y.grows;
      first = x.in_final d (extends_trans y.kept.stays pre);
      second = y.in_final (x.kept.paired d) pre;
    };
  }
  outside_of final ps b c a is x (Err e) c' y = extends_trans x.kept.stays y

  inside_of : ((a : A) (y : Bool) → Correct (f a y) (Q a y)) → (final : Stored) (ps : List Frame) (b : Builder) → b.scopes ≡ ribs ps
      → (o : Checked A) (c : Builder) → p (shut b) ≡ (o, c) → Holds R final (barrier_at ∷ ps) (shut b) o c
      → Holds (Behind p R Q) final ps b (go_on o c (go_out b.yields)).0 (go_on o c (go_out b.yields)).1
  inside_of k final ps b r (Ok a) c is x =
      let out = outside_again b.yields c in
      outside_of final ps b c a is x (f a c.yields out).0 (f a c.yields out).1
      ((k a c.yields).holds final ps out (ap rest x.kept.scopes ∙ r))
  inside_of k final ps b r (Err e) c is x = x

pub correct_behind_barrier : {A B : Type 0} {p : Lowering A} {R : Rel A} {f : A → Bool → Lowering B} {Q : A → Bool → Rel B} → Correct p R
    → ((a : A) (y : Bool) → Correct (f a y) (Q a y))
    → Correct (open_barrier >>= (λ outside. p >>= (λ a. close_barrier outside >>= (λ y. f a y)))) (Behind p R Q)
unfolding open_barrier close_barrier
correct_behind_barrier {p = p} {R = R} {f = f} {Q = Q} h k = record {
  holds = λ final ps b r. inside_of p R f Q k final ps b r (p (shut b)).0 (p (shut b)).1 refl
      (h.holds final (barrier_at ∷ ps) (shut b) (ap (λ rs. barrier_rib ∷ rs) r));
}

-- coroutine blocks

-- what is so of its block behind the barrier
pub record CoroutineRow (R : Rel ExprId) (final : Stored) (ps : List Frame) (m m' : Mark) (i : ExprId) : Type 0 where
  pub inside : R final (barrier_at ∷ ps) m m' i

pub correct_coroutine : {p : ExprSteps} {R : Rel ExprId} → Correct p R → Correct (coroutine_form p) (CoroutineRow R)
unfolding coroutine_form
correct_coroutine h = correct_as (correct_behind_barrier h (λ i y. correct_pure i))
    (λ final ps m m' i g row. rw (row.second.is, row.second.still) (record { inside = row.first }))

-- none of its block is one of the body around it
pub still_coroutine : (p : ExprSteps) → Still (coroutine_form p)
unfolding coroutine_form open_barrier close_barrier
still_coroutine p = record { still = λ b. by b (p (shut b)).0 (p (shut b)).1 }
  where
    by : (b : Builder) (o : Checked ExprId) (c : Builder)
        → let r = go_on o c (λ i d. (Ok i, outside_again b.yields d)) in LeavesTo b r.0 r.1
    by b (Ok i) c = refl
    by b (Err e) c = tt

-- steps of a closure, grouped otherwise

pub bind_assoc : {A B C : Type 0} (p : Lowering A) (f : A → Lowering B) (g : B → Lowering C) (b : Builder)
    → ((p >>= f) >>= g) b ≡ (p >>= (λ a. f a >>= g)) b
bind_assoc {A = A} p f g b = by (p b).0 (p b).1
  where
    by : (o : Checked A) (c : Builder)
        → go_on (go_on o c f).0 (go_on o c f).1 g ≡ go_on o c (λ a d. go_on (f a d).0 (f a d).1 g)
    by (Ok a) c = refl
    by (Err e) c = refl

-- what is made behind the barrier of a closure
abbrev Made : Type 0
Made = ClosureParams × Option TypeRefId × ExprId

module _ (p : Lowering ClosureParams) (t : Lowering (Option TypeRefId)) (e : ExprSteps) where
  abbrev all_of : Lowering Made
  all_of = p >>= (λ l. t >>= (λ r. e >>= (λ i. pure (l, r, i))))

  all_grouped : {B : Type 0} (f : Made → Lowering B) (b : Builder)
      → (all_of >>= f) b ≡ (p >>= (λ l. t >>= (λ r. e >>= (λ i. f (l, r, i))))) b
  all_grouped f b = bind_assoc p (λ l. t >>= (λ r. e >>= (λ i. pure (l, r, i)))) f b
      ∙ behind p (λ l c. bind_assoc t (λ r. e >>= (λ i. pure (l, r, i))) f c
      ∙ behind t (λ r d. bind_assoc e (λ i. pure (l, r, i)) f d) c) b

-- none stands in its parameters, nor in its type
raises_all : {p : Lowering ClosureParams} {t : Lowering (Option TypeRefId)} {e : ExprSteps} {y : Bool} → Raises false p → Raises false t
    → Raises y e → Raises y (all_of p t e)
raises_all hp ht he = raises_begin hp (λ l. raises_begin ht (λ r. raises_end he (λ i. raises_pure _)))

-- Its parameters, its type and its body behind a barrier, and then the node, which is of a kind by whether its body yields.
pub record ClosureRow (at : Pointer) (moves is_static : Bool) (p : Lowering ClosureParams) (t : Lowering (Option TypeRefId)) (e : ExprSteps)
    (P : Rel ClosureParams) (T : Rel (Option TypeRefId)) (S : Rel ExprId) (final : Stored) (ps : List Frame) (m m' : Mark) (i : ExprId)
    : Type 0 where
  pub params : ClosureParams
  pub ret : Option TypeRefId
  pub body : ExprId
  pub yields : Bool
  pub raised : Raises false p → Raises false t → (z : Bool) → Raises z e → yields ≡ z
  pub after_params : Mark
  pub after_ret : Mark
  pub left : Mark
  pub to_params : Grows m after_params
  pub to_ret : Grows after_params after_ret
  pub to_body : Grows after_ret left
  pub to_end : Grows left m'
  pub in_params : P final (barrier_at ∷ ps) m after_params params
  pub in_ret : T final (barrier_at ∷ ps) after_params after_ret ret
  pub in_body : S final (barrier_at ∷ ps) after_ret left body
  pub made : Allocated (stored_closure moves is_static params ret body yields) (Some at) final ps left m' i

-- the node, of what was made behind the barrier
abbrev node_of : Pointer → Bool → Bool → Made → Bool → ExprSteps
node_of at moves is_static a y = alloc_expr (stored_closure moves is_static a.0 a.1 a.2 y) (Some at)

module _ (at : Pointer) (moves is_static : Bool) {p : Lowering ClosureParams} {t : Lowering (Option TypeRefId)} {e : ExprSteps}
    {P : Rel ClosureParams} {T : Rel (Option TypeRefId)} {S : Rel ExprId} where
  pub correct_closure : Correct p P → Correct t T → Correct e S
      → Correct (closure_form at moves is_static p t e) (ClosureRow at moves is_static p t e P T S)
  unfolding closure_form
  correct_closure hp ht he = correct_as
      (correct_like (behind open_barrier (λ outside.
      all_grouped p t e (λ a. close_barrier outside >>= (λ y. node_of at moves is_static a y))))
      (correct_behind_barrier {p = all_of p t e}
      (correct_bind hp (λ l. correct_bind ht (λ r. correct_bind he (λ i. correct_pure (l, r, i)))))
      (λ a y. correct_alloc (stored_closure moves is_static a.0 a.1 a.2 y) (Some at))))
      (λ final ps m m' i g row.
      let one = row.first in let two = one.second in let three = two.second in let last = three.second in record {
        params = one.one;
        ret = two.one;
        body = three.one;
        yields = row.yields;
        raised = λ rp rt z h. row.raised z (raises_all rp rt h);
        after_params = one.middle;
        after_ret = two.middle;
        left = row.left;
        to_params = one.before;
        to_ret = two.before;
        to_body = subst (λ k. Grows two.middle k) (sym last.still) three.before;
        to_end = row.after;
        in_params = one.first;
        in_ret = two.first;
        in_body = subst (λ k. S final (barrier_at ∷ ps) two.middle k three.one) (sym last.still) three.first;
        made = subst (λ a. Allocated (stored_closure moves is_static a.0 a.1 a.2 row.yields) (Some at) final ps row.left m' i)
            last.is row.second;
      })

module _ (at : Pointer) (moves is_static : Bool) (p : Lowering ClosureParams) (t : Lowering (Option TypeRefId)) (e : ExprSteps) where
  -- none of its body is one of the body around it
  pub still_closure : Still (closure_form at moves is_static p t e)
  unfolding closure_form open_barrier close_barrier
  still_closure = record { still = λ b. by_params b (p (shut b)).0 (p (shut b)).1 }
    where
      after_body : Bool → ClosureParams → Option TypeRefId → ExprId → ExprSteps
      after_body outside l r i = λ c. node_of at moves is_static (l, r, i) c.yields (outside_again outside c)

      after_type : Bool → ClosureParams → Option TypeRefId → ExprSteps
      after_type outside l r = e >>= after_body outside l r

      after_list : Bool → ClosureParams → ExprSteps
      after_list outside l = t >>= after_type outside l

      by_body : (b : Builder) (l : ClosureParams) (r : Option TypeRefId) (o : Checked ExprId) (c : Builder)
          → LeavesTo b (go_on o c (after_body b.yields l r)).0 (go_on o c (after_body b.yields l r)).1
      by_body b l r (Ok i) c =
          let out = outside_again b.yields c in
          still_trans b out refl (node_of at moves is_static (l, r, i) c.yields out).0 (node_of at moves is_static (l, r, i) c.yields out).1
          ((still_expr (stored_closure moves is_static l r i c.yields) (Some at)).still out)
      by_body b l r (Err f) c = tt

      by_type : (b : Builder) (l : ClosureParams) (o : Checked (Option TypeRefId)) (c : Builder)
          → LeavesTo b (go_on o c (after_type b.yields l)).0 (go_on o c (after_type b.yields l)).1
      by_type b l (Ok r) c = by_body b l r (e c).0 (e c).1
      by_type b l (Err f) c = tt

      by_params : (b : Builder) (o : Checked ClosureParams) (c : Builder)
          → LeavesTo b (go_on o c (after_list b.yields)).0 (go_on o c (after_list b.yields)).1
      by_params b (Ok l) c = by_type b l (t c).0 (t c).1
      by_params b (Err f) c = tt

-- `yield`

-- that one stands here, and nothing else
abbrev tracked : Builder → Builder
tracked b = record b { yields = true }

-- nothing is stored by noting it
correct_tracked : {A : Type 0} {p : Lowering A} {R : Rel A} → Correct p R → Correct (track_yield >> p) R
unfolding track_yield
correct_tracked {A = A} {p = p} {R = R} h = record {
  holds = λ final ps b r. by final ps b (p (tracked b)).0 (p (tracked b)).1 (h.holds final ps (tracked b) r);
}
  where
    by : (final : Stored) (ps : List Frame) (b : Builder) (o : Checked A) (c : Builder) → Holds R final ps (tracked b) o c
        → Holds R final ps b o c
    by final ps b (Ok a) c x = record {
      kept = record {
        scopes = x.kept.scopes;
        in_root = x.kept.in_root;
        roots = x.kept.roots;
        paired = x.kept.paired;
        mapped = x.kept.mapped;
        stays = x.kept.stays;
      };
      grows = x.grows;
      in_final = x.in_final;
    }
    by final ps b (Err e) c x = x

-- it is an expression with a value that may be absent
pub correct_yield : (at : Pointer) (v : Lowering (Option ExprId)) {R : Rel ExprId} → Correct (value_form at hir.Yield v) R
    → Correct (yield_form at v) R
unfolding yield_form value_form
correct_yield at v h = correct_tracked h

pub raises_yield : (at : Pointer) (v : Lowering (Option ExprId)) {y : Bool} → Raises y (value_form at hir.Yield v)
    → Raises true (yield_form at v)
unfolding yield_form value_form
raises_yield at v {y = y} h = raises_then {y = true} {z = y} raises_tracked (λ u. h)
