-- A constant: an expression behind a barrier, which is a root where no other is being lowered.
use Rattle.std.proofs.Common.{◌≡◌, ◌⊎◌, ◌∙◌, inl, inr, refl, sym, ap, subst, List, [], ◌∷◌, ◌++◌, Bool, true, false, true≢false, Ok, Err}
use Rattle.hir_store.specs.Stored.{Stored, store_of}
use Rattle.hir_store.specs.StoreSink as store_sink
use Rattle.hir_store.specs.StoreSink.{root_at}
use Rattle.hir_store.specs.declared.ids.ExprId.{ExprId}
use Rattle.hir_store.specs.declared.type_ref.ConstRef.{ConstRef}
use Rattle.hir_store.proofs.Extending.{extends_root, extends_trans}
use Rattle.hir_lower_scope.specs.ScopeRibs.{barrier_rib}
use Rattle.hir_lower_scope.specs.Labels.{rest}
use Rattle.hir_lower_builder.specs.Builder.{Builder}
use Rattle.hir_lower_builder.specs.Lowering.{Checked, go_on, Lowering, ◌>>=◌, ◌>>◌, pure, open_barrier, enter_root, close_barrier}
use Rattle.hir_lower_builder.specs.Lowering.{leave_root, outside_root, record_root}
use Rattle.hir_lower_builder.specs.Lower.{ExprSteps, constant_form}
use Rattle.hir_lower_builder.specs.Ranges.{inner_form}
use Rattle.thm_logic.proofs.Frames.{Frame, barrier_at}
use Rattle.thm_logic.proofs.Logic.{Mark, mark, counts, Grows, Rel, Holds, Correct, correct_as, grows_refl, grows_trans}
use Rattle.thm_logic.proofs.Logic.{grows_still}

abbrev pub with_root : ExprId → Stored → Stored
with_root i s = record s { roots = s.roots ++ root_at (store_of s) i ∷ [] }

-- What is so of the expression behind the barrier; and then nothing more is stored, or it is recorded.
pub record Inner (R : Rel ExprId) (final : Stored) (ps : List Frame) (m m' : Mark) (i : ExprId) : Type 0 where
  pub left : Mark
  pub before : Grows m left
  pub after : Grows left m'
  pub counts_are : counts m' ≡ counts left
  pub first : R final (barrier_at ∷ ps) m left i
  pub stored : (m'.stored ≡ left.stored) ⊎ (m'.stored ≡ with_root i left.stored)

-- behind the barrier, in a root
abbrev pub entered : Builder → Builder
entered b = record b { scopes = barrier_rib ∷ b.scopes; in_root = true; yields = false }

module _ {A : Type 0} (make : ExprId → A) where
  -- the number, as what is made of it
  record MadeOf (R : Rel ExprId) (final : Stored) (ps : List Frame) (m m' : Mark) (a : A) : Type 0 where
    number : ExprId
    is : a ≡ make number
    inner : Inner R final ps m m' number

  -- what is done when its expression is there; whether a `yield` stood outside of it
  abbrev pub leaving : Bool → Bool → ExprId → Lowering A
  leaving outside outer id = close_barrier outside >> (leave_root outer id >> pure (make id))

  correct_behind : {p : ExprSteps} {R : Rel ExprId} → Correct p R
      → Correct (open_barrier >>= (λ outside. enter_root >>= (λ outer. p >>= leaving outside outer))) (MadeOf R)
  unfolding open_barrier enter_root close_barrier leave_root outside_root record_root store_sink.record_root
  correct_behind {p = p} {R = R} h = record {
    holds = λ final ps b r.
        by final ps b b.in_root refl (p (entered b)).0 (p (entered b)).1
        (h.holds final (barrier_at ∷ ps) (entered b) (ap (λ rs. barrier_rib ∷ rs) r));
  }
    where
      by : (final : Stored) (ps : List Frame) (b : Builder) (outer : Bool) → b.in_root ≡ outer → (o : Checked ExprId) (c : Builder)
          → Holds R final (barrier_at ∷ ps) (entered b) o c
          → Holds (MadeOf R) final ps b (go_on o c (leaving b.yields outer)).0 (go_on o c (leaving b.yields outer)).1
      by final ps b true e (Ok i) c x = record {
        kept = record {
          scopes = ap rest x.kept.scopes;
          in_root = x.kept.in_root ∙ sym e;
          roots = λ t. x.kept.roots refl;
          paired = x.kept.paired;
          mapped = x.kept.mapped;
          stays = x.kept.stays;
        };
        grows = x.grows;
        in_final = λ d pre. record {
          number = i;
          is = refl;
          inner = record {
            left = mark c;
            before = x.grows;
            after = grows_refl (mark c);
            counts_are = refl;
            first = x.in_final d pre;
            stored = inl refl;
          };
        };
      }
      by final ps b false e (Ok i) c x =
          let more = extends_root c.stored (root_at (store_of c.stored) i) in record {
            kept = record {
              scopes = ap rest x.kept.scopes;
              in_root = sym e;
              roots = λ t. absurd (true≢false (sym t ∙ e));
              paired = λ d. let y = x.kept.paired d in
                  record { exprs = y.exprs; labels = y.labels; pats = y.pats; types = y.types; lifetimes = y.lifetimes };
              mapped = λ d w. let y = x.kept.mapped d w in record { types = y.types; lifetimes = y.lifetimes };
              stays = extends_trans x.kept.stays more;
            };
            grows = grows_trans x.grows (grows_still (mark c) _ refl);
            in_final = λ d pre. record {
              number = i;
              is = refl;
              inner = record {
                left = mark c;
                before = x.grows;
                after = grows_still (mark c) _ refl;
                counts_are = refl;
                first = x.in_final d (extends_trans more pre);
                stored = inr refl;
              };
            };
          }
      by final ps b outer e (Err f) c x = x

pub correct_inner : {p : ExprSteps} {R : Rel ExprId} → Correct p R → Correct (inner_form p) (Inner R)
unfolding inner_form
correct_inner {R = R} h = correct_as (correct_behind (λ i. i) h)
    (λ final ps m m' i g row. subst (Inner R final ps m m') (sym row.is) row.inner)

-- the same, for the number as a constant
pub record Constant (R : Rel ExprId) (final : Stored) (ps : List Frame) (m m' : Mark) (c : ConstRef) : Type 0 where
  pub left : Mark
  pub before : Grows m left
  pub after : Grows left m'
  pub nodes : m'.nodes ≡ left.nodes
  pub labels : m'.labels ≡ left.labels
  pub types : m'.types ≡ left.types
  pub lifetimes : m'.lifetimes ≡ left.lifetimes
  pub entries : m'.entries ≡ left.entries
  pub names : m'.names ≡ left.names
  pub first : R final (barrier_at ∷ ps) m left c.expr
  pub stored : (m'.stored ≡ left.stored) ⊎ (m'.stored ≡ with_root c.expr left.stored)

pub correct_constant : {p : ExprSteps} {R : Rel ExprId} → Correct p R → Correct (constant_form p) (Constant R)
unfolding constant_form
correct_constant {R = R} h = correct_as (correct_behind (λ i. record { expr = i }) h)
    (λ final ps m m' c g row. let n = row.inner in subst (Constant R final ps m m') (sym row.is) (record {
      left = n.left;
      before = n.before;
      after = n.after;
      nodes = ap (λ k. k.0) n.counts_are;
      labels = ap (λ k. k.1) n.counts_are;
      types = ap (λ k. k.4) n.counts_are;
      lifetimes = ap (λ k. k.5) n.counts_are;
      entries = ap (λ k. k.6) n.counts_are;
      names = ap (λ k. k.7) n.counts_are;
      first = n.first;
      stored = n.stored;
    }))
