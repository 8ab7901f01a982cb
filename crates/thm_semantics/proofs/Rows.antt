-- Steps in a row, however they are grouped.
use Rattle.std.proofs.Common.{ℕ, List}
use Rattle.spec_semantics.specs.Run.{Outcome, value, break, continue, leave, World, ends, pure, after, ◌>>=◌}
use Rattle.spec_semantics.specs.Store.{JumpLabel, RunTable, StoreRun}
use Rattle.spec_semantics.specs.Syntax.{SyntaxRun}
use Rattle.hir_lower_scope.specs.Scopes.{Count}
use Rattle.thm_logic.proofs.Frames.{Frame}
use Rattle.thm_semantics.proofs.NamesKept.{keeps_pure, keeps_row}
use Rattle.thm_semantics.proofs.Relation.{Agrees, SameWhere, bare}

module _ {A B C : Type 0} {names : ℕ} {ps : List Frame} where
  pub stored_row : (m : StoreRun A) (f : A → StoreRun B) (g : B → StoreRun C) {n : SyntaxRun C}
      → SameWhere names ps (m >>= (λ a. f a >>= g)) n → SameWhere names ps ((m >>= f) >>= g) n
  unfolding ◌>>=◌
  stored_row m f g {n = n} h = record { same = λ w. by (m w).0 (m w).1 (n (bare w)) (h.same w); keeps = keeps_row m f g h.keeps }
    where
      by : (o : Outcome JumpLabel A) (w : World RunTable) (r : Outcome Count C × World (Unit {0}))
          → Agrees ps (after o w (λ a. f a >>= g)).0 (after o w (λ a. f a >>= g)).1 r.0 r.1
          → Agrees ps (after (after o w f).0 (after o w f).1 g).0 (after (after o w f).0 (after o w f).1 g).1 r.0 r.1
      by (value a) w r h = h
      by (break j v) w r h = h
      by (continue j) w r h = h
      by (leave x) w r h = h

  pub written_row : {m : StoreRun C} (n : SyntaxRun A) (f : A → SyntaxRun B) (g : B → SyntaxRun C)
      → SameWhere names ps m (n >>= (λ a. f a >>= g)) → SameWhere names ps m ((n >>= f) >>= g)
  unfolding ◌>>=◌
  written_row {m = m} n f g h = record { same = λ w. by (n (bare w)).0 (n (bare w)).1 (m w) (h.same w); keeps = h.keeps }
    where
      by : (o : Outcome Count A) (w : World (Unit {0})) (r : Outcome JumpLabel C × World RunTable)
          → Agrees ps r.0 r.1 (after o w (λ a. f a >>= g)).0 (after o w (λ a. f a >>= g)).1
          → Agrees ps r.0 r.1 (after (after o w f).0 (after o w f).1 g).0 (after (after o w f).0 (after o w f).1 g).1
      by (value a) w r h = h
      by (break j v) w r h = h
      by (continue j) w r h = h
      by (leave x) w r h = h

  pub written_apart : {m : StoreRun C} (n : SyntaxRun A) (f : A → SyntaxRun B) (g : B → SyntaxRun C)
      → SameWhere names ps m ((n >>= f) >>= g) → SameWhere names ps m (n >>= (λ a. f a >>= g))
  unfolding ◌>>=◌
  written_apart {m = m} n f g h = record { same = λ w. by (n (bare w)).0 (n (bare w)).1 (m w) (h.same w); keeps = h.keeps }
    where
      by : (o : Outcome Count A) (w : World (Unit {0})) (r : Outcome JumpLabel C × World RunTable)
          → Agrees ps r.0 r.1 (after (after o w f).0 (after o w f).1 g).0 (after (after o w f).0 (after o w f).1 g).1
          → Agrees ps r.0 r.1 (after o w (λ a. f a >>= g)).0 (after o w (λ a. f a >>= g)).1
      by (value a) w r h = h
      by (break j v) w r h = h
      by (continue j) w r h = h
      by (leave x) w r h = h

module _ {A B : Type 0} {names : ℕ} {ps : List Frame} where
  pub stored_pure : {a : A} (f : A → StoreRun B) {n : SyntaxRun B} → SameWhere names ps (f a) n → SameWhere names ps (pure a >>= f) n
  unfolding ends ◌>>=◌
  stored_pure f h = record { same = λ w. h.same w; keeps = keeps_pure f h.keeps }

  pub written_pure : {a : A} {m : StoreRun B} (g : A → SyntaxRun B) → SameWhere names ps m (g a) → SameWhere names ps m (pure a >>= g)
  unfolding ends ◌>>=◌
  written_pure g h = record { same = λ w. h.same w; keeps = h.keeps }

  pub written_value : {m : StoreRun B} (a : A) (g : A → SyntaxRun B) → SameWhere names ps m (pure a >>= g) → SameWhere names ps m (g a)
  unfolding ends ◌>>=◌
  written_value a g h = record { same = λ w. h.same w; keeps = h.keeps }
