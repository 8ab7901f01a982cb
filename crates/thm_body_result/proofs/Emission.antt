-- Steps that add to one of the lists of what is stored: which they are, and what a label, an owner and a body inside add around them.
use Rattle.std.proofs.Common.{◌≡◌, ◌∙◌, refl, sym, ap, subst, List, [], ◌∷◌, ◌++◌, append_assoc, append-nil, Option, Some, None}
use Rattle.std.proofs.Common.{◌⊎◌, inl, inr}
use Rattle.hir_store.specs.Pointers.{Pointer}
use Rattle.hir_store.specs.Stored.{Stored}
use Rattle.hir_store.specs.declared.hir.Expr.{Expr as HirExpr}
use Rattle.hir_store.specs.declared.ids.ExprId.{ExprId}
use Rattle.hir_store.specs.declared.ids.LabelId.{LabelId}
use Rattle.hir_store.specs.declared.ids.BlockId.{BlockId}
use Rattle.hir_store.specs.declared.diagnostics.ExpressionStoreDiagnostics.{ExpressionStoreDiagnostics}
use Rattle.hir_store.specs.declared.diagnostics.ExpressionStoreDiagnostics.TheVariants.{UndeclaredLabel, UnreachableLabel}
use Rattle.hir_env.specs.ResolvedTree.{Label, Jump}
use Rattle.hir_lower_scope.specs.ScopeRibs.{Rib, label_rib, Target, reachable, unreachable, undeclared, target, map_ribs, map_target}
use Rattle.hir_lower_scope.specs.ScopeRibs.{barrier_rib}
use Rattle.hir_lower_scope.specs.Scopes as scope
use Rattle.hir_lower_scope.specs.Scopes.{Scope, barrier}
use Rattle.hir_lower_scope.proofs.Ribs.{target_map}
use Rattle.hir_lower_builder.specs.Lowering.{Lowering, ◌>>=◌, pure, alloc_expr, point, report, enter_block, open_label, close}
use Rattle.hir_lower_builder.specs.Lowering.{jump_target, owning, point_field}
use Rattle.hir_lower_builder.specs.Lower.{ExprSteps}
use Rattle.hir_lower_builder.specs.Lower.{constant_form}
use Rattle.thm_logic.proofs.Steps.{correct_point_field, with_field, Mark, Correct, correct_bind, correct_as, correct_pure}
use Rattle.thm_logic.proofs.Steps.{correct_report, correct_point, correct_enter_block, correct_alloc, correct_opened}
use Rattle.thm_logic.proofs.Steps.{correct_target, with_fault, with_block, with_expr, with_label, pointing, with_target}
use Rattle.thm_logic.proofs.Steps.{with_jump}
use Rattle.thm_logic.specs.Calls.{Expansions, with_emitted}
use Rattle.thm_logic.proofs.Aside.{Aside}
use Rattle.thm_logic.proofs.Frames.{Frame, ribs}
use Rattle.thm_body_result.specs.Diagnostics.{forget, Around, target_faults, jump_faults}
use Rattle.thm_body_result.proofs.Around.{IsRib}
use Rattle.hir_lower_builder.specs.Ranges.{inner_form}
use Rattle.thm_logic.proofs.Constants.{correct_constant, correct_inner, with_root}
use Rattle.thm_logic.proofs.Owning.{owning_keeps, with_owned}

-- A list of what is stored, which faults, entered blocks and calls add to, and in which way a list may be another.
pub record Listing (X : Type 0) : Type 1 where
  pub list : Stored → List X
  pub of_faults : List ExpressionStoreDiagnostics → List X
  pub of_block : Option BlockId → List X
  -- what is told of calls, and of why something is gone
  pub of_emitted : Expansions → List ExpressionStoreDiagnostics → List X
  pub fault : (d : ExpressionStoreDiagnostics) (s : Stored) → list (with_fault d s) ≡ list s ++ of_faults (d ∷ [])
  pub no_fault : of_faults [] ≡ []
  pub block : (n : Option BlockId) (s : Stored) → list (with_block n s) ≡ list s ++ of_block n
  pub emits : (es : Expansions) (ds : List ExpressionStoreDiagnostics) (s : Stored)
      → list (with_emitted es ds s) ≡ list s ++ of_emitted es ds
  pub emitted_nothing : of_emitted [] [] ≡ []
  pub expr : (e : HirExpr) (at : Option Pointer) (s : Stored) → list (with_expr e at s) ≡ list s
  pub label : (l : Label) (s : Stored) → list (with_label l s) ≡ list s
  pub mapping : (p : Pointer) (i : ExprId) (s : Stored) → list (pointing p i s) ≡ list s
  pub unchanged : (a b : Stored) → b.diagnostics ≡ a.diagnostics → b.block_scopes ≡ a.block_scopes → b.expansions ≡ a.expansions
      → list b ≡ list a
  pub Like : List X → List X → Type 0
  pub same : (xs : List X) → Like xs xs
  pub trans : (xs ys zs : List X) → Like xs ys → Like ys zs → Like xs zs
  pub both : (as' bs cs ds : List X) → Like as' bs → Like cs ds → Like (as' ++ cs) (bs ++ ds)

module _ {X : Type 0} (L : Listing X) where
  pub record Added (xs : List X) (a b : Stored) : Type 0 where
    pub more : List X
    pub is : L.list b ≡ L.list a ++ more
    pub like : L.Like xs more

  pub added_none : {a b : Stored} → L.list b ≡ L.list a → Added [] a b
  added_none e = record { more = []; is = e ∙ sym (append-nil _); like = L.same [] }

  pub added_these : (xs : List X) {a b : Stored} → L.list b ≡ L.list a ++ xs → Added xs a b
  added_these xs e = record { more = xs; is = e; like = L.same xs }

  pub added_then : {xs ys : List X} {a b c : Stored} → Added xs a b → Added ys b c → Added (xs ++ ys) a c
  added_then {xs = xs} {ys = ys} {a = a} g h = record {
    more = g.more ++ h.more;
    is = h.is ∙ (ap (λ zs. zs ++ h.more) g.is ∙ append_assoc (L.list a) g.more h.more);
    like = L.both xs g.more ys h.more g.like h.like;
  }

  added_as : {xs ys : List X} {a b : Stored} → L.Like ys xs → Added xs a b → Added ys a b
  added_as {xs = xs} {ys = ys} e g = record { more = g.more; is = g.is; like = L.trans ys xs g.more e g.like }

  -- in whatever scopes
  pub record Emits {A : Type 0} (D : List Scope → List X) (final : Stored) (ps : List Frame) (m m' : Mark) (a : A) : Type 0 where
    pub emitted : (ss : List Scope) → Around ss (ribs ps) → Added (D ss) m.stored m'.stored

  abbrev pub nothing : List Scope → List X
  nothing ss = []

  -- one after another

  pub emits_bind : {A B : Type 0} {D E : List Scope → List X} {p : Lowering A} {f : A → Lowering B} → Correct p (Emits D)
      → ((a : A) → Correct (f a) (Emits E))
      → Correct (p >>= f) (Emits (λ ss. D ss ++ E ss))
  emits_bind h k =
      correct_as (correct_bind h k) (λ final ps m m' a g row.
      record { emitted = λ ss e. added_then (row.first.emitted ss e) (row.second.emitted ss e) })

  pub emits_as : {A : Type 0} {D E : List Scope → List X} {p : Lowering A} → Correct p (Emits D)
      → ((ss : List Scope) → L.Like (E ss) (D ss)) → Correct p (Emits E)
  emits_as h like = correct_as h (λ final ps m m' a g row. record { emitted = λ ss e. added_as (like ss) (row.emitted ss e) })

  -- what comes after adds nothing
  pub emits_end : {A B : Type 0} {D : List Scope → List X} {p : Lowering A} {f : A → Lowering B} → Correct p (Emits D)
      → ((a : A) → Correct (f a) (Emits nothing))
      → Correct (p >>= f) (Emits D)
  emits_end {D = D} h k = emits_as (emits_bind h k) (λ ss. subst (L.Like (D ss)) (sym (append-nil (D ss))) (L.same (D ss)))

  -- steps

  pub emits_pure : {A : Type 0} (a : A) → Correct (pure a) (Emits nothing)
  emits_pure a =
      correct_as (correct_pure a) (λ final ps m m' b g row. record { emitted = λ ss e. added_none (ap (λ x. L.list x.stored) row.still) })

  pub emits_alloc : (e : HirExpr) (at : Option Pointer) → Correct (alloc_expr e at) (Emits nothing)
  emits_alloc e at =
      correct_as (correct_alloc e at) (λ final ps m m' i g row.
      record { emitted = λ ss x. added_none (ap L.list row.stored ∙ L.expr e at m.stored) })

  pub emits_point : (at : Pointer) (i : ExprId) → Correct (point at i) (Emits nothing)
  emits_point at i =
      correct_as (correct_point at i) (λ final ps m m' u g row.
      record { emitted = λ ss e. added_none (ap L.list row.stored ∙ L.mapping at i m.stored) })

  pub emits_aside : {A : Type 0} {p : Lowering A} → Correct p Aside → Correct p (Emits nothing)
  emits_aside h = correct_as h (λ final ps m m' a g row.
      record { emitted = λ ss e. added_none (L.unchanged m.stored m'.stored row.diagnostics row.block_scopes row.expansions) })

  pub emits_point_field : (i : ExprId) (at : Pointer) → Correct (point_field i at) (Emits nothing)
  emits_point_field i at =
      correct_as (correct_point_field i at) (λ final ps m m' u g row.
      record { emitted = λ ss e. added_none (ap L.list row.stored ∙ L.unchanged m.stored (with_field i at m.stored) refl refl refl) })

  pub emits_report : (d : ExpressionStoreDiagnostics) → Correct (report d) (Emits (λ ss. L.of_faults (d ∷ [])))
  emits_report d =
      correct_as (correct_report d) (λ final ps m m' u g row.
      record { emitted = λ ss e. added_these (L.of_faults (d ∷ [])) (ap L.list row.stored ∙ L.fault d m.stored) })

  pub emits_enter_block : (n : Option BlockId) → Correct (enter_block n) (Emits (λ ss. L.of_block n))
  emits_enter_block n =
      correct_as (correct_enter_block n) (λ final ps m m' u g row.
      record { emitted = λ ss e. added_these (L.of_block n) (ap L.list row.stored ∙ L.block n m.stored) })

  -- jumps

  none_more : (s : Stored) → L.list s ≡ L.list s ++ L.of_faults []
  none_more s = sym (ap (λ xs. L.list s ++ xs) L.no_fault ∙ append-nil (L.list s))

  faults_of : {A : Type 0} (j : Jump) (t : Target A) (s : Stored) → L.list (with_target j t s) ≡ L.list s ++ L.of_faults (target_faults j t)
  faults_of j (reachable n) s = none_more s
  faults_of j unreachable s = L.fault (UnreachableLabel j.pointer j.name) s
  faults_of j undeclared s = L.fault (UndeclaredLabel j.pointer j.name) s

  target_like : {A B : Type 0} (f : A → B) (j : Jump) (t : Target A) → target_faults j (map_target f t) ≡ target_faults j t
  target_like f j (reachable a) = refl
  target_like f j unreachable = refl
  target_like f j undeclared = refl

  forgotten : {A : Type 0} (j : Jump) (rs : List (Rib A)) → target_faults j (target j (map_ribs forget rs)) ≡ target_faults j (target j rs)
  forgotten j rs = ap (λ t. target_faults j t) (target_map forget j rs) ∙ target_like forget j (target j rs)

  as_around : (j : Jump) (ss : List Scope) (rs : List (Rib LabelId)) → Around ss rs
      → target_faults j (target j rs) ≡ target_faults j (target j (scope.ribs ss))
  as_around j ss rs e = sym (forgotten j rs) ∙ (ap (λ qs. target_faults j (target j qs)) (sym e) ∙ forgotten j (scope.ribs ss))

  jump_adds : (j : Option Jump) (ss : List Scope) (rs : List (Rib LabelId)) → Around ss rs → (s : Stored)
      → L.list (with_jump j rs s) ≡ L.list s ++ L.of_faults (jump_faults ss j)
  jump_adds None ss rs e s = none_more s
  jump_adds (Some j) ss rs e s = faults_of j (target j rs) s ∙ ap (λ ds. L.list s ++ L.of_faults ds) (as_around j ss rs e)

  pub emits_target : (j : Option Jump) → Correct (jump_target j) (Emits (λ ss. L.of_faults (jump_faults ss j)))
  emits_target j = correct_as (correct_target j) (λ final ps m m' n g row.
      record {
        emitted = λ ss e. added_these (L.of_faults (jump_faults ss j))
            (ap L.list row.stored ∙ jump_adds j ss (ribs ps) e m.stored);
      })

  -- a label around steps

  pub last_none : {xs : List X} {a b : Stored} → Added (xs ++ []) a b → Added xs a b
  last_none {xs = xs} {a = a} {b = b} g = subst (λ ys. Added ys a b) (append-nil xs) g

  pub opened_emits : {A B : Type 0} {D : List Scope → List X} (at : Label → LabelId → Frame) (l : Label) (c : Scope)
      {p : LabelId → Lowering A} {f : LabelId → A → Lowering B}
      → ((n : LabelId) (ps : List Frame) → ribs (at l n ∷ ps) ≡ label_rib l.name l.hygiene n ∷ ribs ps)
      → ((n : LabelId) → IsRib c (label_rib l.name l.hygiene n))
      → ((n : LabelId) → Correct (p n) (Emits D)) → ((n : LabelId) (a : A) → Correct (f n a) (Emits nothing))
      → Correct (open_label l >>= (λ n. p n >>= (λ a. close >>= (λ _. f n a)))) (Emits (λ ss. D (c ∷ ss)))
  opened_emits {D = D} at l c frame is hp hf = correct_as (correct_opened at l frame hp hf) (λ final ps m m' b g row. record {
    emitted = λ ss e.
        let inner = subst (Around (c ∷ ss)) (sym (frame row.number ps)) ((is row.number).around ss (ribs ps) e) in
        let entered : Added [] m.stored row.entered.stored = added_none (ap L.list row.stored ∙ L.label l m.stored) in
        last_none (added_then (added_then entered (row.first.emitted (c ∷ ss) inner)) (row.second.emitted ss e));
  })

  -- whatever owns bindings
  pub owning_emits : {A : Type 0} (owner : A → ExprId) {D : List Scope → List X} {p : Lowering A} → Correct p (Emits D)
      → Correct (owning owner p) (Emits D)
  owning_emits owner h = owning_keeps owner
      (λ final ps m left start id a row. record {
        emitted = λ ss e. last_none (added_then (row.emitted ss e)
            (added_none (L.unchanged left.stored (with_owned start id left.stored) refl refl refl)));
      })
      h

  -- constants

  root_none : (i : ExprId) {a b : Stored} → (b ≡ a) ⊎ (b ≡ with_root i a) → Added [] a b
  root_none i (inl e) = added_none (ap L.list e)
  root_none i {a = a} (inr e) = added_none (ap L.list e ∙ L.unchanged a (with_root i a) refl refl refl)

  -- what is behind a barrier, as a body of its own
  pub rooted_emits : {D : List Scope → List X} {p : ExprSteps} → Correct p (Emits D)
      → Correct (constant_form p) (Emits (λ ss. D (barrier ∷ ss)))
  rooted_emits h = correct_as (correct_constant h) (λ final ps m m' c g row. record {
    emitted = λ ss e. last_none (added_then (row.first.emitted (barrier ∷ ss) (ap (λ y. barrier_rib ∷ y) e)) (root_none c.expr row.stored));
  })

  pub constant_emits : {D : List Scope → List X} {p : ExprSteps} → Correct p (Emits D)
      → Correct (owning (λ c. c.expr) (constant_form p)) (Emits (λ ss. D (barrier ∷ ss)))
  constant_emits h = owning_emits (λ c. c.expr) (rooted_emits h)

  pub inner_emits : {D : List Scope → List X} {p : ExprSteps} → Correct p (Emits D)
      → Correct (inner_form p) (Emits (λ ss. D (barrier ∷ ss)))
  inner_emits h = correct_as (correct_inner h) (λ final ps m m' i g row. record {
    emitted = λ ss e. last_none (added_then (row.first.emitted (barrier ∷ ss) (ap (λ y. barrier_rib ∷ y) e)) (root_none i row.stored));
  })
