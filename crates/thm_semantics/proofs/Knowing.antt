-- Runs of the store from where a made name stands for a value, which it does afterwards.
use Rattle.std.proofs.Common.{◌≡◌, refl, ap, subst, ◌∙◌, ℕ, zero, suc, ◌≤◌, List, [], ◌∷◌, Option, Some, None, option_map, arith}
use Rattle.hir_store.specs.Pointers.{Pointer}
use Rattle.hir_store.specs.Stored.{Stored, store_of}
use Rattle.hir_store.specs.declared.hir.Expr.{Expr}
use Rattle.hir_store.specs.declared.hir.Expr.TheVariants as hir
use Rattle.hir_store.specs.declared.ids.ExprId.{ExprId}
use Rattle.hir_store.specs.declared.ids.HygieneId.{HygieneId}
use Rattle.hir_store.specs.declared.ids.LangItemId.{LangItemId}
use Rattle.hir_env.specs.NodeMap.{Site}
use Rattle.hir_env.specs.Answering.{site_of}
use Rattle.spec_data.specs.Data.{PathData}
use Rattle.hir_lower_builder.specs.Forms.{root_hygiene}
use Rattle.hir_lower_builder.specs.Made.{item_or_missing, made_call, made_path}
use Rattle.spec_semantics.specs.Jumps.{EnclosedTo, StoredEnclosed}
use Rattle.spec_semantics.specs.Run.{Value, Operation, call, leave, missing, Outcome, value, break, continue, World, ends, pure, after}
use Rattle.spec_semantics.specs.Run.{◌>>=◌}
use Rattle.spec_semantics.specs.Run.{ask, item, temps, ends_temps}
use Rattle.spec_semantics.specs.Store.{JumpLabel, RunTable, StoreRun, looked_up, looks_up, read_or_look, run_to}
use Rattle.spec_semantics.specs.Syntax.{SyntaxRun, run_item}
use Rattle.hir_lower_scope.specs.Scopes.{Count}
use Rattle.thm_round_trip.proofs.Made.{made_path_read}
use Rattle.thm_logic.proofs.Frames.{Frame, Falls, falls_more}
use Rattle.thm_logic.proofs.Steps.{AllocatedBy, Mark, Put}
use Rattle.thm_semantics.proofs.Ranges.{item_is}
use Rattle.thm_semantics.proofs.NamesKept.{KeepsBelow, keeps_bind, keeps_ends, keeps_fewer, keeps_pure, keeps_row}
use Rattle.thm_semantics.proofs.Relation.{Agrees, SameWhere, agrees_as, bare, same_ask, same_event}
use Rattle.thm_semantics.proofs.Senses.{Base, Under, node_in, run_in}
use Rattle.thm_semantics.proofs.Views.{numbers, view}

-- From each world where the name of this number stands for this value the same. It stands for it afterwards, and so does each name that
-- was made before.
pub record SameKnowing {A : Type 0} (n : ℕ) (v : Value) (ps : List Frame) (m : StoreRun A) (s : SyntaxRun A) : Type 0 where
  pub same : (w : World RunTable) → w.table n ≡ Some v → Agrees ps (m w).0 (m w).1 (s (bare w)).0 (s (bare w)).1
  pub keeps : KeepsBelow (suc n) m

module _ {n : ℕ} {v : Value} {ps : List Frame} where
  -- where nothing is known of what the name stands for
  pub known_from : {A : Type 0} {names : ℕ} {m : StoreRun A} {s : SyntaxRun A} → suc n ≤ names → SameWhere names ps m s
      → SameKnowing n v ps m s
  known_from le h = record { same = λ w k. h.same w; keeps = keeps_fewer le h.keeps }

  pub known_ends : {A : Type 0} (o : Outcome JumpLabel A) {o' : Outcome Count A} → view ps o ≡ o' → SameKnowing n v ps (ends o) (ends o')
  unfolding ends
  known_ends o e = record { same = λ w k. record { outcome = e; world = refl }; keeps = keeps_ends o }

  after_known : {A B : Type 0} {f : A → StoreRun B} {g : A → SyntaxRun B} → ((a : A) → SameKnowing n v ps (f a) (g a))
      → (o : Outcome JumpLabel A) (w : World RunTable) → w.table n ≡ Some v
      → Agrees ps (after o w f).0 (after o w f).1 (after (view ps o) (bare w) g).0 (after (view ps o) (bare w) g).1
  after_known h (value a) w k = (h a).same w k
  after_known h (break j x) w k = record { outcome = refl; world = refl }
  after_known h (continue j) w k = record { outcome = refl; world = refl }
  after_known h (leave x) w k = record { outcome = refl; world = refl }

  pub known_bind : {A B : Type 0} {m : StoreRun A} {s : SyntaxRun A} {f : A → StoreRun B} {g : A → SyntaxRun B}
      → SameKnowing n v ps m s → ((a : A) → SameKnowing n v ps (f a) (g a)) → SameKnowing n v ps (m >>= f) (s >>= g)
  unfolding ◌>>=◌
  known_bind {m = m} {g = g} p h = record {
    same = λ w k.
        let a = p.same w k in
        agrees_as (λ o u. after o u g) a.outcome a.world
        (after_known h (m w).0 (m w).1 (p.keeps.still w n (omega arith) ∙ k));
    keeps = keeps_bind p.keeps (λ a. (h a).keeps);
  }

  pub known_temps : {A : Type 0} {m : StoreRun A} {s : SyntaxRun A} → SameKnowing n v ps m s
      → SameKnowing n v ps (ends_temps m) (ends_temps s)
  known_temps h = known_bind (known_from {names = suc n} (omega arith) (same_event temps [] None)) (λ a. h)

  pub known_ask : (o : Operation) (vs : List Value) (site : Option Site) → SameKnowing n v ps (ask o vs site) (ask o vs site)
  known_ask o vs site = known_from {names = suc n} (omega arith) (same_ask o vs site)

  pub known_like : {A : Type 0} {m : StoreRun A} {s s' : SyntaxRun A} → ((w : World (Unit {0})) → s w ≡ s' w) → SameKnowing n v ps m s
      → SameKnowing n v ps m s'
  known_like {m = m} e h = record {
    same = λ w k. subst (λ r. Agrees ps (m w).0 (m w).1 r.0 r.1) (e (bare w)) (h.same w k);
    keeps = h.keeps;
  }

  -- what is read of the name
  known_looks : SameKnowing n v ps (looks_up n) (pure v)
  unfolding looks_up ends
  known_looks = record {
    same = λ w k. record { outcome = ap (λ o. view ps (looked_up o)) k; world = refl };
    keeps = record { still = λ w k lt. refl };
  }

  known_name : (o : Option ℕ) → o ≡ Some n → (d : PathData) (h : HygieneId) (site : Option Site)
      → SameKnowing n v ps (read_or_look o d h site) (pure v)
  known_name o e d h site = rw e known_looks

  after_single : {B : Type 0} (f : List Value → StoreRun B) (g : Value → SyntaxRun B)
      → ((x : Value) → SameKnowing n v ps (f (x ∷ [])) (g x)) → (o : Outcome JumpLabel Value) (w : World RunTable) → w.table n ≡ Some v
      → let r = after o w (λ x. pure [] >>= (λ xs. pure (x ∷ xs))) in
      let u = after (view ps o) (bare w) g in Agrees ps (after r.0 r.1 f).0 (after r.0 r.1 f).1 u.0 u.1
  unfolding ends ◌>>=◌
  after_single f g h (value x) w k = (h x).same w k
  after_single f g h (break j x) w k = record { outcome = refl; world = refl }
  after_single f g h (continue j) w k = record { outcome = refl; world = refl }
  after_single f g h (leave x) w k = record { outcome = refl; world = refl }

  -- one argument
  pub known_single : {B : Type 0} {m : StoreRun Value} {s : SyntaxRun Value} (f : List Value → StoreRun B) (g : Value → SyntaxRun B)
      → SameKnowing n v ps m s → ((x : Value) → SameKnowing n v ps (f (x ∷ [])) (g x))
      → SameKnowing n v ps ((m >>= (λ x. pure [] >>= (λ xs. pure (x ∷ xs)))) >>= f) (s >>= g)
  unfolding ◌>>=◌
  known_single {m = m} f g p h = record {
    same = λ w k.
        let a = p.same w k in
        agrees_as (λ o u. after o u g) a.outcome a.world
        (after_single f g h (m w).0 (m w).1 (p.keeps.still w n (omega arith) ∙ k));
    keeps = keeps_row m (λ x. pure [] >>= (λ xs. pure (x ∷ xs))) f (keeps_bind p.keeps
        (λ x. keeps_row (pure []) (λ xs. pure (x ∷ xs)) f (keeps_pure _ (keeps_pure f (h x).keeps))));
  }

-- nodes

pub record GoesKnowing (base : Base) (nodes n : ℕ) (v : Value) (x : SyntaxRun Value) (final : Stored) (ps : List Frame)
    (i : ExprId) : Type 0 where
  pub same : (fuel d : ℕ) → nodes ≤ d → Falls base.labels ps → SameKnowing n v ps (run_in final d fuel i) x
  pub jumps : (d : ℕ) → nodes ≤ d → EnclosedTo (store_of final) d (numbers ps) i

pub known_within : {base base' : Base} {nodes nodes' n : ℕ} {v : Value} {x : SyntaxRun Value} {final : Stored} {ps : List Frame}
    {i : ExprId}
    → Under base' base → nodes ≤ nodes' → GoesKnowing base nodes n v x final ps i → GoesKnowing base' nodes' n v x final ps i
known_within {base = base} {base' = base'} {ps = ps} le le' h = record {
  same = λ fuel d ge f. h.same fuel d (omega (arith, le', ge)) (falls_more ps base'.labels base.labels le.labels f);
  jumps = λ d ge. h.jumps d (omega (arith, le', ge));
}

module _ {base : Base} {n : ℕ} {v : Value} {m m' : Mark} {final : Stored} {ps qs : List Frame} {i : ExprId} {put : Put} where
  pub known_at : {e : Expr} {source : Option Pointer} {x : SyntaxRun Value} → AllocatedBy put e source final qs m m' i
      → ((fuel d : ℕ) → m.nodes ≤ d → Falls base.labels ps → SameKnowing n v ps (node_in final d fuel e (option_map site_of source)) x)
      → ((d : ℕ) → m.nodes ≤ d → StoredEnclosed (store_of final) (EnclosedTo (store_of final) d) (numbers ps) e)
      → GoesKnowing base m'.nodes n v x final ps i
  unfolding run_to EnclosedTo
  known_at {x = x} at same jumps = record { same = λ fuel d le f. at_depth fuel d le f; jumps = jumps_at }
    where
      at_depth : (fuel d : ℕ) → m'.nodes ≤ d → Falls base.labels ps → SameKnowing n v ps (run_in final d fuel i) x
      at_depth fuel zero le f = absurd (omega (arith, at.next))
      at_depth fuel (suc d) le f = rw (at.number, at.here, at.from) (same fuel d (omega (arith, at.next)) f)

      jumps_at : (d : ℕ) → m'.nodes ≤ d → EnclosedTo (store_of final) d (numbers ps) i
      jumps_at zero le = tt
      jumps_at (suc d) le = rw (at.number, at.here) (jumps d (omega (arith, at.next)))

  -- the name itself
  pub known_path : {source : Option Pointer} → AllocatedBy put (hir.Path (made_path n) root_hygiene) source final qs m m' i
      → GoesKnowing base m'.nodes n v (pure v) final ps i
  known_path {source = source} a = known_at a
      (λ fuel d le f. known_name _ (made_path_read final n) _ root_hygiene (option_map site_of source)) (λ d le. tt)

  pub known_item : {source : Option Pointer} (o : Option LangItemId) → AllocatedBy put (item_or_missing o) source final qs m m' i
      → GoesKnowing base m'.nodes n v (run_item o) final ps i
  known_item None a = known_at a (λ fuel d le f. known_ends (leave missing) refl) (λ d le. tt)
  known_item (Some j) a = known_at a (λ fuel d le f. rw (item_is final j) (known_ends (value (item j)) refl)) (λ d le. tt)

  -- a call with one argument
  pub known_call : {at : Pointer} {f e : ExprId} {x y : SyntaxRun Value} → GoesKnowing base m.nodes n v x final ps f
      → GoesKnowing base m.nodes n v y final ps e → AllocatedBy put (made_call f e) (Some at) final qs m m' i
      → GoesKnowing base m'.nodes n v (x >>= (λ u. y >>= (λ w. ask call (u ∷ w ∷ []) (Some (site_of at))))) final ps i
  known_call {at = at} h k a = known_at a
      (λ fuel d le falls. known_bind (h.same fuel d le falls)
      (λ u. known_single _ _ (k.same fuel d le falls) (λ w. known_ask call (u ∷ w ∷ []) (Some (site_of at)))))
      (λ d le. (h.jumps d le, (k.jumps d le, tt)))
