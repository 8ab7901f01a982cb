-- Steps whose bindings are owned by what they answer: nothing else is other than without it.
use Rattle.std.proofs.Common.{◌≡◌, ◌∙◌, refl, sym, ap, subst, Bool, List}
use Rattle.hir_store.specs.Bindings.{binding_id, with_owner}
use Rattle.hir_store.specs.Stored.{Stored}
use Rattle.hir_store.specs.StoreSink as store_sink
use Rattle.hir_store.specs.declared.ids.BindingId.{BindingId}
use Rattle.hir_store.specs.declared.ids.ExprId.{ExprId}
use Rattle.hir_store.proofs.Extending.{extends_owner}
use Rattle.hir_lower_builder.specs.Lowering.{Lowering, bindings_end, own, owning}
use Rattle.thm_logic.proofs.Frames.{Frame}
use Rattle.thm_logic.proofs.Logic.{Mark, mark, Grows, Rel, Correct, correct_as, correct_bind, correct_pure, grows_refl}
use Rattle.thm_logic.proofs.Logic.{kept_still}
use Rattle.thm_logic.proofs.Yields.{Still, Raises, raises_begin, raises_end, raises_pure, raises_still}
use Rattle.thm_logic.proofs.Yields.{still_pure, still_stored, still_then}
use Rattle.thm_logic.proofs.Entries.{correct_write}

-- steps

-- the number of the next binding is answered, and nothing is stored
pub record NextBinding (final : Stored) (ps : List Frame) (m m' : Mark) (start : BindingId) : Type 0 where
  pub is : start ≡ binding_id m.bindings
  pub still : m' ≡ m

pub correct_bindings_end : Correct bindings_end NextBinding
unfolding bindings_end
correct_bindings_end = record {
  holds = λ final ps b r. record {
    kept = kept_still b;
    grows = grows_refl (mark b);
    in_final = λ d pre. record { is = refl; still = refl };
  };
}

abbrev pub with_owned : BindingId → ExprId → Stored → Stored
with_owned start id s = record s { bindings = with_owner s.bindings start id }

-- as far, with what owns the bindings from this one on that nothing owned
abbrev pub owned_by : BindingId → ExprId → Mark → Mark
owned_by start id m = record m { stored = with_owned start id m.stored }

pub record Owned (start : BindingId) (id : ExprId) (final : Stored) (ps : List Frame) (m m' : Mark) (u : Unit {0}) : Type 0 where
  pub is : m' ≡ owned_by start id m

pub correct_own : (start : BindingId) (id : ExprId) → Correct (own start id) (Owned start id)
unfolding own store_sink.own
correct_own start id = correct_write (with_owned start id) (λ s. refl) (λ s. extends_owner s start id) (λ final ps b. record { is = refl })

-- no `yield` stands in them

still_bindings_end : Still bindings_end
unfolding bindings_end
still_bindings_end = record { still = λ b. refl }

still_own : (start : BindingId) (id : ExprId) → Still (own start id)
unfolding own
still_own start id = still_stored (store_sink.own start id)

-- steps that own

module _ {A : Type 0} (owner : A → ExprId) where
  -- What is so of the steps, and then only owners are written.
  pub record Owning (R : Rel A) (final : Stored) (ps : List Frame) (m m' : Mark) (a : A) : Type 0 where
    pub left : Mark
    pub before : Grows m left
    pub first : R final ps m left a
    pub is : m' ≡ owned_by (binding_id m.bindings) (owner a) left

  pub correct_owning : {p : Lowering A} {R : Rel A} → Correct p R → Correct (owning owner p) (Owning R)
  unfolding owning
  correct_owning {R = R} h = correct_as
      (correct_bind correct_bindings_end
      (λ start. correct_bind h (λ x. correct_bind (correct_own start (owner x)) (λ u. correct_pure x))))
      (λ final ps m m' a g row. let two = row.second in let three = two.second in let last = three.second in
      rw last.is (record {
        left = two.middle;
        before = subst (λ k. Grows k two.middle) row.first.still two.before;
        first = subst (λ k. R final ps k two.middle two.one) row.first.still two.first;
        is = last.still ∙ (three.first.is ∙ ap (λ k. owned_by k (owner two.one) two.middle) row.first.is);
      }))

  -- what is so whatever owns bindings
  pub owning_keeps : {p : Lowering A} {R : Rel A}
      → ((final : Stored) (ps : List Frame) (m left : Mark) (start : BindingId) (id : ExprId) (a : A) → R final ps m left a
      → R final ps m (owned_by start id left) a)
      → Correct p R → Correct (owning owner p) R
  owning_keeps {R = R} keeps h = correct_as (correct_owning h) (λ final ps m m' a g row.
      subst (λ k. R final ps m k a) (sym row.is) (keeps final ps m row.left (binding_id m.bindings) (owner a) a row.first))

  pub still_owning : {p : Lowering A} → Still p → Still (owning owner p)
  unfolding owning
  still_owning h = still_then still_bindings_end (λ start. still_then h (λ x. still_then (still_own start (owner x)) (λ u. still_pure x)))

  pub raises_owning : {y : Bool} {p : Lowering A} → Raises y p → Raises y (owning owner p)
  unfolding owning
  raises_owning h = raises_begin (raises_still correct_bindings_end still_bindings_end) (λ start. raises_end h
      (λ x. raises_begin (raises_still (correct_own start (owner x)) (still_own start (owner x))) (λ u. raises_pure x)))
