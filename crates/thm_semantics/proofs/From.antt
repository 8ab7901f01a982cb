-- Runs of the store from a table that says what made names stand for: each does what is written, and the names stand for it afterwards.
use Rattle.std.proofs.Common.{◌≡◌, ◌∙◌, refl, sym, ap, subst, ℕ, suc, Bool, true, false, if◌then◌else◌, nat_eq, List, [], ◌∷◌}
use Rattle.std.proofs.Common.{Option, Some, None, arith}
use Rattle.std.proofs.lemmas.Bool.{eqb-true}
use Rattle.spec_data.specs.Data.{PatData, no_type}
use Rattle.spec_semantics.specs.Catching.{block}
use Rattle.spec_semantics.specs.Run.{Value, Outcome, value, break, continue, leave, World, Run, pure, after, ends, ◌>>=◌}
use Rattle.spec_semantics.specs.Run.{event, temps, ends_temps}
use Rattle.spec_semantics.specs.Store.{JumpLabel, RunTable, StoreRun, binds_or_takes, looked_up, looks_up, past_block, takes, with_name}
use Rattle.spec_semantics.specs.Syntax.{SyntaxRun}
use Rattle.hir_lower_scope.specs.Scopes.{Count}
use Rattle.thm_logic.proofs.Frames.{Frame}
use Rattle.thm_semantics.proofs.Relation.{Agrees, SameWhere, agrees_as, bare, same_event}
use Rattle.thm_semantics.proofs.Views.{plain_block_ends, view}

-- Each name stands for the same in both.
abbrev pub SameTable : RunTable → RunTable → Type 0
SameTable t u = (k : ℕ) → t k ≡ u k

-- From each world with this table the same.
pub record SameFrom {A : Type 0} (table : RunTable) (ps : List Frame) (m : StoreRun A) (s : SyntaxRun A) : Type 0 where
  pub same : (w : World RunTable) → SameTable w.table table → Agrees ps (m w).0 (m w).1 (s (bare w)).0 (s (bare w)).1

-- steps, however they are grouped

module _ {T J A B C : Type 0} where
  pub grouped : (p : Run T J A) (f : A → Run T J B) (g : B → Run T J C) (w : World T)
      → ((p >>= f) >>= g) w ≡ (p >>= (λ a. f a >>= g)) w
  unfolding ◌>>=◌
  grouped p f g w = by (p w).0 (p w).1
    where
      by : (o : Outcome J A) (w : World T) → after (after o w f).0 (after o w f).1 g ≡ after o w (λ a. f a >>= g)
      by (value a) w = refl
      by (break j v) w = refl
      by (continue j) w = refl
      by (leave x) w = refl

-- what comes first does the same
pub first_same : {T J A B : Type 0} {p q : Run T J A} (g : A → Run T J B) → ((w : World T) → p w ≡ q w) → (w : World T)
    → (p >>= g) w ≡ (q >>= g) w
unfolding ◌>>=◌
first_same g e w = ap (λ r. after r.0 r.1 g) (e w)

-- what follows the end of temporaries
pub first_row : {T J A : Type 0} {p q : Run T J A} → ((w : World T) → p w ≡ q w) → (w : World T) → ends_temps p w ≡ ends_temps q w
unfolding ◌>>=◌ event
first_row e w = e _

-- a statement by itself, and what follows it
module _ {T J A : Type 0} where
  pub alone_then : (b : Run T J Bool) (s : Run T J A) (w : World T)
      → (b >>= (λ holds. ends_temps s)) w ≡ ((b >>= (λ fits. ends_temps (pure fits))) >>= (λ u. s)) w
  unfolding ◌>>=◌ ends event
  alone_then b s w = by (b w).0 (b w).1
    where
      by : (o : Outcome J Bool) (w : World T)
          → after o w (λ holds. ends_temps s)
          ≡ after (after o w (λ fits. ends_temps (pure fits))).0 (after o w (λ fits. ends_temps (pure fits))).1 (λ u. s)
      by (value a) w = refl
      by (break j v) w = refl
      by (continue j) w = refl
      by (leave x) w = refl

-- steps from such a table

-- what an answered name stands for
found : {A : Type 0} {ps : List Frame} {v : Value} (o : Option Value) → o ≡ Some v → (f : Value → StoreRun A) (w : World RunTable)
    (r : Outcome Count A × World (Unit {0})) → Agrees ps (f v w).0 (f v w).1 r.0 r.1
    → Agrees ps (after (looked_up o) w f).0 (after (looked_up o) w f).1 r.0 r.1
found o is f w r h = rw is h

-- a name that takes what it stands for
stays_at : (n : ℕ) (v : Value) (table u : RunTable) → table n ≡ Some v → (k : ℕ) → u k ≡ table k → (b : Bool) → nat_eq k n ≡ b
    → (if b then Some v else u k) ≡ table k
stays_at n v table u known k e true is = sym (subst (λ j. table j ≡ Some v) (sym (eqb-true k n is)) known)
stays_at n v table u known k e false is = e

pub stays : (n : ℕ) (v : Value) (table u : RunTable) → table n ≡ Some v → SameTable u table → SameTable (with_name n v u) table
stays n v table u known t k = stays_at n v table u known k (t k) (nat_eq k n) refl

module _ {table : RunTable} {ps : List Frame} where
  -- whatever names stand for
  pub from_where : {A : Type 0} {names : ℕ} {m : StoreRun A} {s : SyntaxRun A} → SameWhere names ps m s → SameFrom table ps m s
  from_where h = record { same = λ w t. h.same w }

  pub from_stored : {A : Type 0} {m m' : StoreRun A} {s : SyntaxRun A} → ((w : World RunTable) → m w ≡ m' w) → SameFrom table ps m s
      → SameFrom table ps m' s
  from_stored {s = s} e h = record {
    same = λ w t. subst (λ r. Agrees ps r.0 r.1 (s (bare w)).0 (s (bare w)).1) (e w) (h.same w t);
  }

  pub from_written : {A : Type 0} {m : StoreRun A} {s s' : SyntaxRun A} → ((w : World (Unit {0})) → s w ≡ s' w) → SameFrom table ps m s
      → SameFrom table ps m s'
  from_written {m = m} e h = record { same = λ w t. subst (λ r. Agrees ps (m w).0 (m w).1 r.0 r.1) (e (bare w)) (h.same w t) }

  after_from : {A B : Type 0} {f : A → StoreRun B} {g : A → SyntaxRun B} → ((a : A) → SameFrom table ps (f a) (g a))
      → (o : Outcome JumpLabel A) (w : World RunTable) → SameTable w.table table
      → Agrees ps (after o w f).0 (after o w f).1 (after (view ps o) (bare w) g).0 (after (view ps o) (bare w) g).1
  after_from h (value a) w t = (h a).same w t
  after_from h (break j v) w t = record { outcome = refl; world = refl }
  after_from h (continue j) w t = record { outcome = refl; world = refl }
  after_from h (leave x) w t = record { outcome = refl; world = refl }

  -- behind steps that leave each name as it is
  pub from_bind : {A B : Type 0} {m : StoreRun A} {s : SyntaxRun A} {f : A → StoreRun B} {g : A → SyntaxRun B}
      → ((names : ℕ) → SameWhere names ps m s) → ((a : A) → SameFrom table ps (f a) (g a)) → SameFrom table ps (m >>= f) (s >>= g)
  unfolding ◌>>=◌
  from_bind {m = m} {g = g} p h = record {
    same = λ w t.
        let a = (p 0).same w in
        agrees_as (λ o u. after o u g) a.outcome a.world
        (after_from h (m w).0 (m w).1 (λ k. (p (suc k)).keeps.still w k (omega arith) ∙ t k));
  }

  -- where temporaries end
  pub from_temps : {A : Type 0} {m : StoreRun A} {s : SyntaxRun A} → SameFrom table ps m s → SameFrom table ps (ends_temps m) (ends_temps s)
  from_temps h = from_bind (λ names. same_event temps [] None) (λ a. h)

  pub from_pure : {A B : Type 0} {a : A} (f : A → StoreRun B) {s : SyntaxRun B} → SameFrom table ps (f a) s
      → SameFrom table ps (pure a >>= f) s
  unfolding ends ◌>>=◌
  from_pure f h = record { same = h.same }

  -- a name that stands for this
  pub from_look : {A : Type 0} (n : ℕ) (v : Value) (f : Value → StoreRun A) {s : SyntaxRun A} → table n ≡ Some v
      → SameFrom table ps (f v) s → SameFrom table ps (looks_up n >>= f) s
  unfolding looks_up ◌>>=◌
  from_look n v f {s = s} known h = record { same = λ w t. found (w.table n) (t n ∙ known) f w (s (bare w)) (h.same w t) }

  pub from_takes : {A : Type 0} (n : ℕ) (v : Value) (f : Unit {0} → StoreRun A) {s : SyntaxRun A} → table n ≡ Some v
      → SameFrom table ps (f tt) s → SameFrom table ps (takes n v >>= f) s
  unfolding takes ◌>>=◌
  from_takes n v f known h = record {
    same = λ w t. h.same (record w { table = with_name n v w.table }) (stays n v table w.table known t);
  }

  -- a block without a label catches nothing
  pub from_plain_block : {m : StoreRun Value} {s : SyntaxRun Value} → SameFrom table ps m s
      → SameFrom table ps (block (past_block None) (λ j. j) m) s
  unfolding block
  from_plain_block {m = m} h = record {
    same = λ w t. let a = h.same w t in record {
      outcome = ap (view ps) (plain_block_ends (m w).0) ∙ a.outcome;
      world = a.world;
    };
  }

-- `let`s

-- what is read, as the operand of a `let`
abbrev pub operand_of : StoreRun Value → StoreRun (List Value)
operand_of x = x >>= (λ v. pure (v ∷ []))

module _ {table : RunTable} {ps : List Frame} {others : StoreRun Value} {s : SyntaxRun Value} (h : SameFrom table ps others s) where
  -- of what is written
  pub from_let : (x : StoreRun Value) (y : List Value → StoreRun Bool) {r : SyntaxRun Bool}
      → ((names : ℕ) → SameWhere names ps (operand_of x >>= y) r)
      → SameFrom table ps (operand_of x >>= (λ vs. y vs >>= (λ holds. others))) (r >>= (λ holds. s))
  from_let x y p = from_stored (grouped (operand_of x) y (λ holds. others)) (from_bind p (λ holds. h))

  -- of a made name with itself, which is silent
  pub from_silent : (n : ℕ) (v : Value) (made : Option ℕ) (d : PatData) {x : StoreRun Value} → x ≡ looks_up n → made ≡ Some n
      → table n ≡ Some v → SameFrom table ps (operand_of x >>= (λ vs. binds_or_takes made d no_type vs >>= (λ holds. others))) s
  from_silent n v made d e e' known =
      let behind : List Value → StoreRun Value = λ vs. binds_or_takes (Some n) d no_type vs >>= (λ holds. others) in
      rw (e, e') (from_stored (λ w. sym (grouped (looks_up n) (λ u. pure (u ∷ [])) behind w))
      (from_look n v (λ u. pure (u ∷ []) >>= behind) known (from_pure behind
      (from_stored (λ w. sym (grouped (takes n v) (λ u. pure true) (λ holds. others) w))
      (from_takes n v (λ u. pure true >>= (λ holds. others)) known (from_pure (λ holds. others) h))))))

  -- of what is written with a made name
  pub from_named : (n : ℕ) (v : Value) {x : StoreRun Value} (y : List Value → StoreRun Bool) {r : SyntaxRun Bool} → x ≡ looks_up n
      → table n ≡ Some v → ((names : ℕ) → SameWhere names ps (y (v ∷ [])) r)
      → SameFrom table ps (operand_of x >>= (λ vs. y vs >>= (λ holds. others))) (r >>= (λ holds. s))
  from_named n v y e known p =
      let behind : List Value → StoreRun Value = λ vs. y vs >>= (λ holds. others) in
      rw e (from_stored (λ w. sym (grouped (looks_up n) (λ u. pure (u ∷ [])) behind w))
      (from_look n v (λ u. pure (u ∷ []) >>= behind) known (from_pure behind (from_bind p (λ holds. h)))))
