-- What `?` and `try` become reaches and holds what their parts do, and what is made up, each once.
use Rattle.std.proofs.Common.{◌≡◌, ◌∙◌, refl, sym, ap, ℕ, ◌+◌, ◌≤◌, Bool, true, false, List, [], ◌∷◌, ◌++◌, Option, Some, None, arith}
use Rattle.hir_binding.specs.declared.binding.BindingAnnotation.{BindingAnnotation}
use Rattle.hir_store.specs.Pointers.{Pointer}
use Rattle.hir_store.specs.Stored.{Stored}
use Rattle.hir_store.specs.declared.hir.Expr.TheVariants as hir
use Rattle.hir_store.specs.declared.hir.MatchArm.{MatchArm}
use Rattle.hir_store.specs.declared.hir.Statement.{Statement}
use Rattle.hir_store.specs.declared.hir.Statement.TheVariants as statement
use Rattle.hir_store.specs.declared.ids.BlockId.{BlockId}
use Rattle.hir_store.specs.declared.ids.ExprId.{ExprId}
use Rattle.hir_store.specs.declared.ids.LabelId.{LabelId}
use Rattle.hir_store.specs.declared.ids.LangItemId.{LangItemId}
use Rattle.hir_store.specs.declared.ids.PatId.{PatId}
use Rattle.hir_store.specs.declared.ids.TypeRefId.{TypeRefId}
use Rattle.hir_store.specs.declared.pat.Pat.TheVariants as pat
use Rattle.hir_env.specs.ResolvedTree.{QuestionItems}
use Rattle.hir_lower_scope.specs.ScopeRibs.{Try}
use Rattle.hir_lower_builder.specs.Forms.{ExprSteps, StoredContents, push_some, settled, settled_block}
use Rattle.hir_lower_builder.specs.Lowering.{Lowering, ◌>>=◌, pure, alloc_desugared}
use Rattle.hir_lower_builder.specs.Made.{made_path_form, made_binding, made_bind_form, item_or_missing, made_call, item_call_form, item_pat}
use Rattle.hir_lower_builder.specs.Made.{conversion, leaving_node, flow_arm_form, residual_form, question_form, value_or_unit, wrapped_form}
use Rattle.hir_lower_builder.specs.Made.{try_block_form, bound, bound_block, typed_try_form}
use Rattle.hir_lower_builder.specs.Made.{condition_form, held, held_block, held_form, hold_form}
use Rattle.spec_semantics.specs.Inner as inner
use Rattle.spec_semantics.specs.Inner.{all_of}
use Rattle.thm_semantics.specs.Reached.{of_arms}
use Rattle.thm_type_result.proofs.Counted.{less}
use Rattle.hir_store.specs.declared.ids.MacroDefId.{MacroDefId}
use Rattle.hir_lower_builder.specs.Builder.{Builder}
use Rattle.hir_lower_builder.specs.Calls.{inside_macro}
use Rattle.thm_logic.proofs.Steps.{mark}
use Rattle.thm_type_result.proofs.Asked.{Correct, Longer, correct_as, correct_bind, correct_pure}
use Rattle.thm_type_result.proofs.Weighed.{View, Cost, free, beside, an_expr, a_type, a_pat, in_expr, in_pat, sum_append, DeepView}
use Rattle.thm_type_result.proofs.Weighed.{at_depth}
use Rattle.thm_type_result.proofs.Weighing.{Adds, adds_any, adds_beside, adds_expr, adds_made, adds_pat, adds_pure, adds_then, asked}
use Rattle.thm_type_result.proofs.Weighing.{came_of, deep_before, still_deep}
use Rattle.thm_generics.proofs.Steps.{tracks_binding, tracks_close, tracks_define, tracks_enter_block, tracks_made_number}
use Rattle.thm_generics.proofs.Steps.{tracks_open_macro}
use Rattle.thm_generics.proofs.Steps.{tracks_open_try, tracks_try_target}
use Rattle.thm_type_result.proofs.InsideForms.{maybe, each, each_push, both, a_statement, block_less, first_less, value_less}
use Rattle.thm_type_result.proofs.InsidePats.{an_arm, arms_are, arm_less, let_less}

-- what is made up

item_less : (item : Option LangItemId) (v : View) → in_expr (item_or_missing item) v ≤ 0
item_less None v = omega arith
item_less (Some i) v = omega arith

made_call_less : (f a : ExprId) (v : View) → in_expr (made_call f a) v ≤ an_expr a v + an_expr f v
made_call_less f a v = let x = first_less f (a ∷ []) v in omega (arith, x)

pub item_pat_less : (item : LangItemId) (p : PatId) (v : View) → in_pat (item_pat item p) v ≤ a_pat p v
item_pat_less item p v = let x = sum_append v.weight (v.held.pat p) [] in omega (arith, x)

leaving_less : (t : Option (Try LabelId)) (e : ExprId) (v : View) → in_expr (leaving_node t e) v ≤ an_expr e v
leaving_less None e v = value_less (Some e) v
leaving_less (Some t) e v = value_less (Some e) v

pub made_bind_adds : (mode : BindingAnnotation) (n : ℕ) → Correct (made_bind_form mode n) (Adds free a_pat)
unfolding made_bind_form
made_bind_adds mode n = adds_then (adds_any (tracks_binding (made_binding mode n)))
    (λ b. adds_then (adds_pat (pat.Bind b None) None (λ v. omega arith))
    (λ p. adds_then (adds_any (tracks_define b p)) (λ u. adds_pure p (λ v. omega arith))))

module _ (at : Pointer) where
  pub made_path_adds : (n : ℕ) → Correct (made_path_form at n) (Adds free an_expr)
  unfolding made_path_form
  made_path_adds n = adds_made _ (Some at) (λ v. omega arith)

  item_adds : (item : Option LangItemId) → Correct (alloc_desugared (item_or_missing item) (Some at)) (Adds free an_expr)
  item_adds item = adds_made (item_or_missing item) (Some at) (item_less item)

  pub item_call_adds : (item : Option LangItemId) (a : ExprId) → Correct (item_call_form at item a) (Adds (an_expr a) an_expr)
  unfolding item_call_form
  item_call_adds item a = adds_then (adds_beside (an_expr a) (item_adds item))
      (λ f. adds_made (made_call f a) (Some at) (made_call_less f a))

  -- `?`

  flow_arm_adds : (item : LangItemId) {body : ℕ → ExprSteps} → ((n : ℕ) → Correct (body n) (Adds free an_expr))
      → Correct (flow_arm_form item body) (Adds free an_arm)
  unfolding flow_arm_form
  flow_arm_adds item h = adds_then (adds_any tracks_made_number) (λ n. adds_then (made_bind_adds _ n)
      (λ p. adds_then (adds_pat (item_pat item p) None (item_pat_less item p))
      (λ q. adds_then (adds_beside (a_pat q) (h n))
      (λ e. adds_pure _ (λ v. let x = arm_less q None e v in omega (arith, x))))))

  residual_adds : (items : QuestionItems) (n : ℕ) → Correct (residual_form at items n) (Adds free an_expr)
  unfolding residual_form
  residual_adds items n = adds_then (made_path_adds n) (λ r. adds_then (adds_any tracks_try_target)
      (λ t. adds_then (item_call_adds (conversion items t) r) (λ e. adds_made (leaving_node t e) (Some at) (leaving_less t e))))

  pub two_arms_less : (e : ExprId) (a c : MatchArm) (v : View)
      → in_expr (hir.Match e (a ∷ c ∷ [])) v ≤ (an_expr e v + an_arm a v) + an_arm c v
  two_arms_less e a c v =
      let arms = a ∷ c ∷ [] in
      let x = both v (v.reach e) (of_arms v.reach arms) (v.held.expr e) (all_of (inner.of_arm v.held) arms) in
      let y = arms_are arms v in omega (arith, x, y)

  pub question_adds : (items : QuestionItems) {e : ExprSteps} → Correct e (Adds free an_expr)
      → Correct (question_form at items e) (Adds free an_expr)
  unfolding question_form
  question_adds items h = adds_then h (λ e. adds_then (item_call_adds (Some items.branch) e)
      (λ b. adds_then (adds_beside (an_expr b) (flow_arm_adds items.goes_on made_path_adds))
      (λ a. adds_then (adds_beside (beside (an_expr b) (an_arm a)) (flow_arm_adds items.breaks (residual_adds items)))
      (λ c. adds_expr (hir.Match b (a ∷ c ∷ [])) (Some at) (two_arms_less b a c)))))

  -- the value of a `try`

  wrapped_adds : (item : Option LangItemId) (tail : Option ExprId)
      → Correct (wrapped_form at item tail) (Adds (maybe an_expr tail) an_expr)
  unfolding wrapped_form value_or_unit
  wrapped_adds item (Some e) = adds_then (adds_beside (maybe an_expr (Some e)) (item_adds item))
      (λ f. adds_then (adds_pure {now = λ x. beside (an_expr x) (an_expr f)} e (λ v. omega arith))
      (λ x. adds_made (made_call f x) (Some at) (made_call_less f x)))
  wrapped_adds item None = adds_then (adds_beside (maybe an_expr None) (item_adds item))
      (λ f. adds_then (adds_beside (beside (maybe an_expr None) (an_expr f)) (adds_made (hir.Tuple []) (Some at) (λ v. omega arith)))
      (λ x. adds_made (made_call f x) (Some at) (λ v. let y = made_call_less f x v in omega (arith, y))))

-- what is in a block, of which the tail lies deeper than the rest

-- What is reached by these statements, and once the last of them may have become the tail, was given out from this number on, where so
-- much was asked before.
pub record Front (from owed : ℕ) (final : Stored) (m : Builder) (all number : ℕ) (done : List Statement) : Type 0 where
  pub listed : (d : ℕ × ℕ × ℕ) → DeepView (mark m) all d
      → each a_statement done (at_depth final all number d) + (asked final all number m + less number from)
      ≤ owed + less number (mark m).nodes
  pub settles : (d d' : ℕ × ℕ × ℕ) → DeepView (mark m) all d → DeepView (mark m) all d'
      → each a_statement (settled done None).0 (at_depth final all number d)
      + maybe an_expr (settled done None).1 (at_depth final all number d') + (asked final all number m + less number from)
      ≤ owed + less number (mark m).nodes

-- so it is of what is settled, however deep its tail is looked into
pub record Settles (from owed : ℕ) (final : Stored) (m : Builder) (all number : ℕ) (r : StoredContents) : Type 0 where
  pub both_of : (d d' : ℕ × ℕ × ℕ) → DeepView (mark m) all d → DeepView (mark m) all d'
      → each a_statement (settled r.0 r.1).0 (at_depth final all number d)
      + maybe an_expr (settled r.0 r.1).1 (at_depth final all number d') + (asked final all number m + less number from)
      ≤ owed + less number (mark m).nodes

pub record Contains (done : List Statement) (final : Stored) (b c : Builder) (r : StoredContents) : Type 0 where
  pub asks : (all number : ℕ) → asked final all number b ≤ asked final all number c
  pub settles : (from owed all number : ℕ) → Front from owed final b all number done → Settles from owed final c all number r

front_none : (final : Stored) (m : Builder) (all number : ℕ) → Front (mark m).nodes (asked final all number m) final m all number []
front_none final m all number = record {
  listed = λ d h. omega arith;
  settles = λ d d' h h'. omega arith;
}

-- a last expression without a semicolon becomes the tail
abbrev Pushed : List Statement → Statement → Type 0
Pushed done (statement.Expr i false) = settled (done ++ statement.Expr i false ∷ []) None ≡ (done, Some i)
Pushed done s = settled (done ++ s ∷ []) None ≡ (done ++ s ∷ [], None)

-- before another
pushed_behind : (x y : Statement) (done : List Statement) (s : Statement) → Pushed (y ∷ done) s → Pushed (x ∷ (y ∷ done)) s
pushed_behind x y done s h = behind x s h
  where
    front : (x : Statement) (r : List Statement) → settled (x ∷ (y ∷ r)) None ≡ (x ∷ (settled (y ∷ r) None).0, (settled (y ∷ r) None).1)
    front statement.Item r = refl
    front (statement.MacroDef d) r = refl
    front (statement.Let p t e b) r = refl
    front (statement.Expr i true) r = refl
    front (statement.Expr i false) r = refl

    behind : (x s : Statement) → Pushed (y ∷ done) s → Pushed (x ∷ (y ∷ done)) s
    behind x statement.Item h = front x (done ++ statement.Item ∷ []) ∙ ap (λ q. (x ∷ q.0, q.1)) h
    behind x (statement.MacroDef d) h = front x (done ++ statement.MacroDef d ∷ []) ∙ ap (λ q. (x ∷ q.0, q.1)) h
    behind x (statement.Let p t e b) h = front x (done ++ statement.Let p t e b ∷ []) ∙ ap (λ q. (x ∷ q.0, q.1)) h
    behind x (statement.Expr i true) h = front x (done ++ statement.Expr i true ∷ []) ∙ ap (λ q. (x ∷ q.0, q.1)) h
    behind x (statement.Expr i false) h = front x (done ++ statement.Expr i false ∷ []) ∙ ap (λ q. (x ∷ q.0, q.1)) h

pushed_alone : (x s : Statement) → Pushed (x ∷ []) s
pushed_alone (statement.MacroDef d) statement.Item = refl
pushed_alone (statement.MacroDef d) (statement.MacroDef f) = refl
pushed_alone (statement.MacroDef d) (statement.Let p t e b) = refl
pushed_alone (statement.MacroDef d) (statement.Expr i true) = refl
pushed_alone (statement.MacroDef d) (statement.Expr i false) = refl
pushed_alone statement.Item (statement.MacroDef d) = refl
pushed_alone statement.Item statement.Item = refl
pushed_alone statement.Item (statement.Let p t e b) = refl
pushed_alone statement.Item (statement.Expr i true) = refl
pushed_alone statement.Item (statement.Expr i false) = refl
pushed_alone (statement.Let p t e b) (statement.MacroDef d) = refl
pushed_alone (statement.Let p t e b) statement.Item = refl
pushed_alone (statement.Let p t e b) (statement.Let q u f c) = refl
pushed_alone (statement.Let p t e b) (statement.Expr i true) = refl
pushed_alone (statement.Let p t e b) (statement.Expr i false) = refl
pushed_alone (statement.Expr j true) (statement.MacroDef d) = refl
pushed_alone (statement.Expr j true) statement.Item = refl
pushed_alone (statement.Expr j true) (statement.Let p t e b) = refl
pushed_alone (statement.Expr j true) (statement.Expr i true) = refl
pushed_alone (statement.Expr j true) (statement.Expr i false) = refl
pushed_alone (statement.Expr j false) (statement.MacroDef d) = refl
pushed_alone (statement.Expr j false) statement.Item = refl
pushed_alone (statement.Expr j false) (statement.Let p t e b) = refl
pushed_alone (statement.Expr j false) (statement.Expr i true) = refl
pushed_alone (statement.Expr j false) (statement.Expr i false) = refl

pushed_first : (s : Statement) → Pushed [] s
pushed_first statement.Item = refl
pushed_first (statement.MacroDef d) = refl
pushed_first (statement.Let p t e b) = refl
pushed_first (statement.Expr i true) = refl
pushed_first (statement.Expr i false) = refl

pushed : (done : List Statement) (s : Statement) → Pushed done s
pushed [] s = pushed_first s
pushed (x ∷ []) s = pushed_alone x s
pushed (x ∷ (y ∷ done)) s = pushed_behind x y done s (pushed (y ∷ done) s)

-- what a step gave out that costs so much
abbrev Gave : Stored → Builder → Builder → ℕ → ℕ → Cost → Type 0
Gave final m m' all number cost = (d : ℕ × ℕ × ℕ) → DeepView (mark m') all d
    → cost (at_depth final all number d) + (asked final all number m' + less number (mark m).nodes)
    ≤ asked final all number m + less number (mark m').nodes

-- a statement more
module _ {from owed : ℕ} {final : Stored} {m m' : Builder} {all number : ℕ} {done : List Statement} (g : Longer m m')
    (f : Front from owed final m all number done) where
  front_still : Gave final m m' all number free → Front from owed final m' all number done
  front_still came = record {
    listed = λ d h. let l = came d h in let x = f.listed d (deep_before d g h) in omega (arith, x, l);
    settles = λ d d' h h'. let l = came d h in let x = f.settles d d' (deep_before d g h) (deep_before d' g h') in omega (arith, x, l);
  }

  module _ (s : Statement) (came : Gave final m m' all number (a_statement s)) where
    all_listed : (d : ℕ × ℕ × ℕ) → DeepView (mark m') all d
        → each a_statement (done ++ s ∷ []) (at_depth final all number d) + (asked final all number m' + less number from)
        ≤ owed + less number (mark m').nodes
    all_listed d h =
        let x = f.listed d (deep_before d g h) in
        let y = came d h in
        let e = each_push a_statement done s (at_depth final all number d) in omega (arith, x, y, e)

  front_settles : (s : Statement) → Gave final m m' all number (a_statement s) → (r : StoredContents)
      → settled (done ++ s ∷ []) None ≡ r → Pushed done s → (d d' : ℕ × ℕ × ℕ) → DeepView (mark m') all d → DeepView (mark m') all d'
      → each a_statement r.0 (at_depth final all number d) + maybe an_expr r.1 (at_depth final all number d')
      + (asked final all number m' + less number from) ≤ owed + less number (mark m').nodes
  front_settles (statement.Expr i false) came r is h d d' deep deep' = rw (sym is ∙ h) (
      let x = f.listed d (deep_before d g deep) in
      let y = came d' deep' in omega (arith, x, y))
  front_settles (statement.Expr i true) came r is h d d' deep deep' = rw (sym is ∙ h) (
      let x = all_listed (statement.Expr i true) came d deep in omega (arith, x))
  front_settles statement.Item came r is h d d' deep deep' = rw (sym is ∙ h) (
      let x = all_listed statement.Item came d deep in omega (arith, x))
  front_settles (statement.MacroDef q) came r is h d d' deep deep' = rw (sym is ∙ h) (
      let x = all_listed (statement.MacroDef q) came d deep in omega (arith, x))
  front_settles (statement.Let p t e b) came r is h d d' deep deep' = rw (sym is ∙ h) (
      let x = all_listed (statement.Let p t e b) came d deep in omega (arith, x))

  front_more : (s : Statement) → Gave final m m' all number (a_statement s) → Front from owed final m' all number (done ++ s ∷ [])
  front_more s came = record {
    listed = all_listed s came;
    settles = front_settles s came (settled (done ++ s ∷ []) None) refl (pushed done s);
  }

  front_pushed : (o : Option Statement) → Gave final m m' all number (maybe a_statement o)
      → Front from owed final m' all number (push_some done o)
  front_pushed None came = front_still came
  front_pushed (Some s) came = front_more s came

  -- the tail
  front_ends : (t : Option ExprId) → Gave final m m' all number (maybe an_expr t) → Settles from owed final m' all number (done, t)
  front_ends None came = let x = front_still came in record { both_of = x.settles }
  front_ends (Some i) came = record {
    both_of = λ d d' h h'.
        let x = f.listed d (deep_before d g h) in
        let y = came d' h' in omega (arith, x, y);
  }

-- what is settled stays so
settles_still : {from owed : ℕ} {final : Stored} {m m' : Builder} {all number : ℕ} {r : StoredContents} → Longer m m'
    → Gave final m m' all number free → Settles from owed final m all number r → Settles from owed final m' all number r
settles_still g came s = record {
  both_of = λ d d' h h'. let l = came d h in let x = s.both_of d d' (deep_before d g h) (deep_before d' g h') in omega (arith, x, l);
}

pub contains_tail : (done : List Statement) {tail : Lowering (Option ExprId)} → Correct tail (Adds free (maybe an_expr))
    → Correct (tail >>= (λ t. pure (done, t))) (Contains done)
contains_tail done h = correct_as (correct_bind h (λ t. correct_pure (done, t)))
    (λ final b c r g row. rw (row.second.is, row.second.still) (record {
      asks = row.first.asks;
      settles = λ from owed all number f. front_ends row.before f row.one (came_of row.first all number);
    }))

pub contains_more : (done : List Statement) {s : Lowering (Option Statement)} {q : List Statement → Lowering StoredContents}
    → Correct s (Adds free (maybe a_statement)) → ((ss : List Statement) → Correct (q ss) (Contains ss))
    → Correct (s >>= (λ x. q (push_some done x))) (Contains done)
contains_more done h k = correct_as (correct_bind h (λ x. k (push_some done x))) (λ final b c r g row. record {
  asks = λ all number. let u = row.first.asks all number in let w = row.second.asks all number in omega (arith, u, w);
  settles = λ from owed all number f.
      row.second.settles from owed all number (front_pushed row.before f row.one (came_of row.first all number));
})

-- inside of a definition of a macro
pub contains_defined : {done : List Statement} (d : MacroDefId) {p : Lowering StoredContents} → Correct p (Contains done)
    → Correct (inside_macro d p) (Contains done)
unfolding inside_macro
contains_defined d h = correct_as (correct_bind (adds_any {was = free} (tracks_open_macro d)) (λ u. correct_bind h
    (λ r. correct_bind (adds_any {was = free} tracks_close) (λ v. correct_pure r)))) (λ final b c r g row.
    let q = row.second in
    let s = q.second in rw (s.second.is, s.second.still) (record {
      asks = λ all number.
          let u = row.first.asks all number in
          let w = q.first.asks all number in
          let x = s.first.asks all number in omega (arith, u, w, x);
      settles = λ from owed all number f. settles_still s.before (came_of {A = Unit {0}} s.first all number)
          (q.first.settles from owed all number (front_still row.before f (came_of {A = Unit {0}} row.first all number)));
    }))

-- `try`

-- the statements beside the value
abbrev over_value : StoredContents → ExprId → Cost
over_value r x v = each a_statement (settled r.0 r.1).0 v + maybe an_expr (Some x) v

pub try_block_adds : (at : Pointer) (item : Option LangItemId) (typed : Bool) (number : Option BlockId) {c : Lowering StoredContents}
    → Correct c (Contains []) → Correct (try_block_form at item typed number c) (Adds free an_expr)
unfolding try_block_form
try_block_adds at item typed number h = correct_as (correct_bind (adds_any {was = free} (tracks_open_try at typed)) (λ l.
    correct_bind (adds_any {was = free} (tracks_enter_block number)) (λ u. correct_bind h (λ r.
    correct_bind (adds_any {was = free} tracks_close) (λ v. correct_bind (wrapped_adds at item (settled r.0 r.1).1)
    (λ x. adds_expr {was = over_value r x} (settled_block false (Some l) number ((settled r.0 r.1).0, Some x)) (Some at)
    (block_less false (Some l) number (settled r.0 r.1).0 (Some x))))))))
    (λ final b c i g row.
    let entered = row.second in
    let filled = entered.second in
    let closed = filled.second in
    let last = closed.second in record {
      asks = λ all k.
          let f = row.first.asks all k in
          let h = entered.first.asks all k in
          let j = filled.first.asks all k in
          let l = closed.first.asks all k in
          let m = last.first.asks all k in
          let n = last.second.asks all k in omega (arith, f, h, j, l, m, n);
      earlier = λ all k reach hold place d.
          let far = last.after.exprs in
          let y = last.second.earlier all k reach hold place d in
          let seen : ℕ × ℕ × ℕ = (y.reach, y.hold, y.place) in
          let deep : DeepView (mark last.middle) all seen = record {
            all_of = omega (arith, d.all_of, far);
            deep = y.deep;
            inside = y.inside;
            placed = y.placed;
          } in
          let x = last.first.earlier all k y.reach y.hold y.place deep in
          let looked : ℕ × ℕ × ℕ = (x.reach, x.hold, x.place) in
          let behind = deep_before seen last.before deep in
          let deeper : DeepView (mark closed.middle) all looked = record {
            all_of = behind.all_of;
            deep = x.deep;
            inside = x.inside;
            placed = x.placed;
          } in
          let within = deep_before seen closed.before behind in
          let first = deep_before seen filled.before within in
          let z = (filled.first.settles (mark entered.middle).nodes (asked final all k entered.middle) all k
          (front_none final entered.middle all k)).both_of seen looked within (deep_before looked closed.before deeper) in
          let p = came_of {A = LabelId} row.first all k seen (deep_before seen entered.before first) in
          let q = came_of {A = Unit {0}} entered.first all k seen first in
          let s = came_of {A = Unit {0}} closed.first all k seen behind in
          still_deep reach hold place g d (let a = y.counted in let b = x.counted in omega (arith, a, b, z, p, q, s));
    })

bound_less : (p : PatId) (t : TypeRefId) (b e : ExprId) (v : View)
    → in_expr (bound_block p t b e) v ≤ ((an_expr b v + a_type t v) + a_pat p v) + an_expr e v
bound_less p t b e v =
    let x = block_less false None None (bound p t b ∷ []) (Some e) v in
    let y = let_less p (Some t) (Some b) None v in
    let z = sum_append v.weight (v.held.type t) [] in omega (arith, x, y, z)

pub typed_try_adds : (at : Pointer) {b : ExprSteps} {t : Lowering TypeRefId} → Correct b (Adds free an_expr)
    → Correct t (Adds free a_type) → Correct (typed_try_form at b t) (Adds free an_expr)
unfolding typed_try_form
typed_try_adds at hb ht = adds_then hb (λ b. adds_then (adds_any tracks_made_number)
    (λ n. adds_then (adds_beside (an_expr b) ht)
    (λ t. adds_then (adds_beside (beside (an_expr b) (a_type t)) (made_bind_adds _ n))
    (λ p. adds_then (adds_beside (beside (beside (an_expr b) (a_type t)) (a_pat p)) (made_path_adds at n))
    (λ e. adds_made (bound_block p t b e) (Some at) (bound_less p t b e))))))

-- a condition, where its temporaries end

held_less : (p : PatId) (c e : ExprId) (v : View) → in_expr (held_block p c e) v ≤ (an_expr c v + a_pat p v) + an_expr e v
held_less p c e v =
    let x = block_less false None None (held p c ∷ []) (Some e) v in
    let y = let_less p None (Some c) None v in omega (arith, x, y)

held_adds : (at : Pointer) {c : ExprSteps} → Correct c (Adds free an_expr) → Correct (held_form at c) (Adds free an_expr)
unfolding held_form hold_form
held_adds at hc = adds_then hc (λ c. adds_then (adds_any tracks_made_number)
    (λ n. adds_then (adds_beside (an_expr c) (made_bind_adds _ n))
    (λ p. adds_then (adds_beside (beside (an_expr c) (a_pat p)) (made_path_adds at n))
    (λ e. adds_made (held_block p c e) (Some at) (held_less p c e)))))

pub condition_adds : (at : Pointer) (lets : Bool) {c : ExprSteps} → Correct c (Adds free an_expr)
    → Correct (condition_form lets at c) (Adds free an_expr)
condition_adds at true h = h
condition_adds at false h = held_adds at h
