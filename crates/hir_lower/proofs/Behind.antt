-- The steps of a body as a root.
use Rattle.std.proofs.Common.{◌≡◌, ◌∙◌, refl, sym, ap, subst, ℕ, Bool, true, false, [], ◌∷◌, ◌++◌, Option, Some, None, Result, Ok, Err}
use Rattle.hir_store.specs.Pointers.{Pointer}
use Rattle.hir_store.specs.Stored.{Stored, store_of}
use Rattle.hir_store.specs.StoreSink as store_sink
use Rattle.hir_store.specs.StoreSink.{Extends, root_at}
use Rattle.hir_store.specs.declared.diagnostics.MissingBodyItemKind.{MissingBodyItemKind}
use Rattle.hir_store.specs.declared.error.StoreError.{StoreError}
use Rattle.hir_store.specs.declared.hir.CoroutineKind.{CoroutineKind}
use Rattle.hir_store.specs.declared.ids.ExprId.{ExprId}
use Rattle.hir_env.specs.ResolvedTree.{Formals, OptionExpr}
use Rattle.hir_lower_builder.specs.Builder.{Builder}
use Rattle.hir_lower_builder.specs.Lowering.{Checked, Lowering, ◌>>=◌, go_on, close_labels, enter_root, outside_root, pure, record_root}
use Rattle.hir_lower_builder.specs.Lowering.{report}
use Rattle.hir_lower_builder.specs.Lower.{lower_part}
use Rattle.thm_logic.specs.Keeps.{Paired}
use Rattle.thm_logic.proofs.Frames.{frames, ribs_frames}
use Rattle.thm_logic.proofs.Steps.{Correct, Holds, Rel, mark}
use Rattle.thm_body_result.specs.Formals.{lower_body, lower_formals, plain_body}
use Rattle.thm_body_result.specs.OneResult.{fresh_owing}
use Rattle.hir_lower.specs.Formals.{Given, Received}
use Rattle.hir_lower.specs.Means.{body_fault, kind_unless_skipped, missing_fault, owed_faults, unless_skipped}
use Rattle.hir_lower.specs.Roots.{behind, body_of, new_builder, report_missing}

-- what a step that is correct answers
pub answered : {A : Type 0} {p : Lowering A} {R : Rel A} → Correct p R → (o o' : Builder) (a : A) → Paired o.stored → p o ≡ (Ok a, o')
    → (final : Stored) → Extends o'.stored final → R final (frames o.scopes) (mark o) (mark o') a
answered {R = R} h o o' a d e final x =
    let ps = frames o.scopes in
    let held : Holds R final ps o (Ok a) o' = subst (λ r. Holds R final ps o r.0 r.1) e (h.holds final ps o (ribs_frames o.scopes)) in
    held.in_final d x

-- inside of a root no label is open
abbrev pub inside_root : Builder → Builder
inside_root b = record b { scopes = []; in_root = true }

abbrev pub with_root : Builder → ExprId → Builder
with_root b i = record b {
  stored = record b.stored { roots = b.stored.roots ++ root_at (store_of b.stored) i ∷ [] };
  in_root = false;
}

ok_same : {A E : Type 0} (a c : A) → ◌≡◌ {A = Result A E} (Ok a) (Ok c) → a ≡ c
ok_same a c h = cc

not_refused : {A E : Type 0} (e : E) (a : A) → ◌≡◌ {A = Result A E} (Err e) (Ok a) → ⊥
not_refused e a h = cc

err_same : {A E : Type 0} (e x : E) → ◌≡◌ {A = Result A E} (Err e) (Err x) → e ≡ x
err_same e x h = cc

abbrev Ending : Type 0
Ending = Checked (Given × ExprId) × Builder

pub record Steps (body : Lowering (Given × ExprId)) (b : Builder) (given : Given) (i : ExprId) (b' : Builder) : Type 0 where
  pub inner : Builder
  pub lowered : body (inside_root b) ≡ (Ok (given, i), inner)
  pub left : with_root inner i ≡ b'

module _ (body : Lowering (Given × ExprId)) (b : Builder) where
  abbrev ended : Given × ExprId → Lowering (Given × ExprId)
  ended r = λ t. (Ok r, with_root t r.1)

  pub steps : (b' : Builder) (given : Given) (i : ExprId) → behind body b ≡ (Ok (given, i), b') → Steps body b given i b'
  unfolding behind close_labels enter_root record_root outside_root store_sink.record_root
  steps b' given i h = by (body (inside_root b)).0 (body (inside_root b)).1 refl h
    where
      by : (o : Checked (Given × ExprId)) (c : Builder) → body (inside_root b) ≡ (o, c) → go_on o c ended ≡ (Ok (given, i), b')
          → Steps body b given i b'
      by (Ok r) c is k =
          let same : r ≡ (given, i) = ok_same r (given, i) (ap (λ (q : Ending). q.0) k) in
          let end : with_root c r.1 ≡ b' = ap (λ (q : Ending). q.1) k in record {
            inner = c;
            lowered = is ∙ ap (λ x. (Ok x, c)) same;
            left = sym (ap (λ x. with_root c x.1) same) ∙ end;
          }
      by (Err x) c is k = absurd (not_refused x (given, i) (ap (λ (q : Ending). q.0) k))

  -- where they are refused so is the body
  pub refused : (b' : Builder) (x : StoreError) → behind body b ≡ (Err x, b') → (body (inside_root b)).0 ≡ Err x
  unfolding behind close_labels enter_root record_root outside_root store_sink.record_root
  refused b' x h = by (body (inside_root b)).0 (body (inside_root b)).1 h
    where
      by : (o : Checked (Given × ExprId)) (c : Builder) → go_on o c ended ≡ (Err x, b') → o ≡ Err x
      by (Ok r) c k = absurd (not_refused x r (sym (ap (λ (q : Ending). q.0) k)))
      by (Err y) c k = ap Err (err_same y x (ap (λ (q : Ending). q.0) k))

-- a body that is no coroutine, behind its parameters

pub record PlainSteps (skipped : Bool) (f : Formals) (e : OptionExpr) (b : Builder) (given : Given) (i : ExprId) (b' : Builder)
    : Type 0 where
  pub received : Received
  pub middle : Builder
  pub formals : lower_formals skipped f b ≡ (Ok received, middle)
  pub body : lower_part e middle ≡ (Ok i, b')
  pub is : given ≡ (received, received)

abbrev together : Received → ExprId → Lowering (Given × ExprId)
together r i = pure ((r, r), i)

module _ (skipped : Bool) (f : Formals) (e : OptionExpr) (b : Builder) where
  pub plain_steps : (b' : Builder) (given : Given) (i : ExprId) → plain_body skipped f e b ≡ (Ok (given, i), b')
      → PlainSteps skipped f e b given i b'
  unfolding plain_body
  plain_steps b' given i h = first (lower_formals skipped f b).0 (lower_formals skipped f b).1 refl h
    where
      second : (r : Received) (c : Builder) → lower_formals skipped f b ≡ (Ok r, c) → (o : Checked ExprId) (d : Builder)
          → lower_part e c ≡ (o, d) → go_on o d (together r) ≡ (Ok (given, i), b') → PlainSteps skipped f e b given i b'
      second r c own_is (Ok j) d is k =
          let same : ((r, r), j) ≡ (given, i) = ok_same ((r, r), j) (given, i) (ap (λ (q : Ending). q.0) k) in
          let end : d ≡ b' = ap (λ (q : Ending). q.1) k in record {
            received = r;
            middle = c;
            formals = own_is;
            body = is ∙ (λ x. (Ok (same x).1, end x));
            is = sym (ap (λ (x : Given × ExprId). x.0) same);
          }
      second r c own_is (Err x) d is k = absurd (not_refused x (given, i) (ap (λ (q : Ending). q.0) k))

      first : (o : Checked Received) (c : Builder) → lower_formals skipped f b ≡ (o, c)
          → go_on o c (λ r. lower_part e >>= together r) ≡ (Ok (given, i), b') → PlainSteps skipped f e b given i b'
      first (Ok r) c own_is k = second r c own_is (lower_part e c).0 (lower_part e c).1 refl k
      first (Err x) c own_is k = absurd (not_refused x (given, i) (ap (λ (q : Ending). q.0) k))

-- the body of an item, from nothing

pub item_is : (kind : Option CoroutineKind) (skipped : Bool) (node : Pointer) (k : Option MissingBodyItemKind) (f : Formals)
    (e : OptionExpr) (limit : ℕ) → body_of kind skipped node k f e (new_builder limit)
    ≡ behind (lower_body (kind_unless_skipped skipped kind) skipped f (unless_skipped skipped e))
    (fresh_owing limit (owed_faults skipped node k e))
unfolding body_of report_missing report store_sink.report
item_is kind true node k f e limit = refl
item_is kind false node k f e limit = by (body_fault k e)
  where
    by : (fault : Option MissingBodyItemKind)
        → go_on (report_missing node fault (new_builder limit)).0 (report_missing node fault (new_builder limit)).1
        (λ u. behind (lower_body kind false f e))
        ≡ behind (lower_body kind false f e) (fresh_owing limit (missing_fault node fault))
    by None = refl
    by (Some fault) = refl
