-- What holds of each body that is lowered.
use Rattle.std.specs.Prelude.{◌≡◌, ℕ, ◌≤◌, [], length, Ok}
use Rattle.hir_store.specs.Stored.{Stored, store_of, map_of}
use Rattle.hir_store.specs.StoreSink.{Extends}
use Rattle.hir_store.specs.declared.ids.ExprId.{ExprId}
use Rattle.hir_env.specs.ResolvedTree.{OptionExpr}
use Rattle.hir_lower_builder.specs.Builder.{Builder}
use Rattle.hir_lower_builder.specs.Lower.{lower_part}
use Rattle.thm_logic.specs.Keeps.{Paired}
use Rattle.spec_semantics.specs.Syntax.{written_body}
use Rattle.spec_semantics.specs.Store.{StoreBody, new_table, run_to}
use Rattle.spec_semantics.specs.Same.{SameRun, SameMeaning}

-- The body became i: nothing was open, the store was `Paired`, and lowering was not refused. The store may hold other
-- bodies already.
pub record Lowered (e : OptionExpr) (b : Builder) (i : ExprId) (b' : Builder) : Type 0 where
  pub none_open : b.scopes ≡ []
  pub paired : Paired b.stored
  pub is : lower_part e b ≡ (Ok i, b')

-- of each body that is lowered, in each store that has what was stored by then and maybe more
abbrev pub InLaterStores : (OptionExpr → Builder → ExprId → Builder → Stored → Type 0) → Type 0
InLaterStores P =
    (e : OptionExpr) (b b' : Builder) (i : ExprId) → Lowered e b i b' → (final : Stored) → Extends b'.stored final → P e b i b' final

-- The stored body has the meaning of the written one.
abbrev pub Headline : Type 0
Headline = InLaterStores (λ e b i b' final. SameMeaning (store_of final) (map_of final) i e)

-- the stored body, where it is looked into so deep
abbrev pub body_to : Stored → ℕ → ExprId → StoreBody
body_to final depth i = record { table = new_table; run = λ fuel. run_to (store_of final) (map_of final) depth fuel i }

-- To look deeper into the store than it has expressions changes nothing.
abbrev pub Deeper : Type 0
Deeper = InLaterStores (λ e b i b' final.
    (depth : ℕ) → length final.exprs.entries ≤ depth → SameRun (body_to final depth i) (written_body e))
