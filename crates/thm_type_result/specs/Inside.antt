-- Which expressions a lowered body, type or path reaches through what it holds and doesn't run too, and that it reaches each in one
-- way only.
use Rattle.std.specs.Prelude.{◌≡◌, ℕ, ◌≤◌, length, Bool, ◌∷◌, ◌++◌, Option, Ok}
use Rattle.hir_store.specs.StoreSink.{Extends}
use Rattle.hir_store.specs.Stored.{Stored, store_of}
use Rattle.hir_store.specs.declared.hir.CoroutineKind.{CoroutineKind}
use Rattle.hir_store.specs.declared.ids.ExprId.{ExprId}
use Rattle.hir_store.specs.declared.ids.TypeRefId.{TypeRefId}
use Rattle.hir_store.specs.declared.path.Path.{Path}
use Rattle.hir_env.specs.ResolvedTree.{Binder, Formals, OptionExpr, OptionPath, OptionType}
use Rattle.hir_lower_builder.specs.Builder.{Builder}
use Rattle.hir_lower_builder.specs.Lower.{lower_path, type_part}
use Rattle.thm_logic.specs.Keeps.{Paired}
use Rattle.thm_semantics.specs.Headline.{InLaterStores}
use Rattle.thm_semantics.specs.Reached.{Spread, of_each, reached_to}
use Rattle.thm_body_result.specs.Formals.{Given, lower_body}
use Rattle.thm_type_result.specs.Unrun.{unrun_in, unrun_in_path, unrun_in_pats, unrun_in_type}

-- However deep one looks, each expression that a lowered body reaches, or that one does which it holds and doesn't run, is reached in
-- one way by one of these, and is one of those that lowering it stored.
abbrev pub InsideReachedOnce : Type 0
InsideReachedOnce = InLaterStores (λ e b i b' final.
    (depth : ℕ) → length final.exprs.entries ≤ depth
    → Spread (length b.stored.exprs.entries) (length b'.stored.exprs.entries)
    (of_each (reached_to (store_of final) depth) (i ∷ unrun_in (store_of final) i)))

-- So it is of what a type holds that is lowered by itself,
abbrev pub TypeInsideReachedOnce : Type 0
TypeInsideReachedOnce =
    (binder : Option Binder) (t : OptionType) (b b' : Builder) (i : TypeRefId) → Paired b.stored → type_part binder t b ≡ (Ok i, b')
    → (final : Stored) → Extends b'.stored final → (depth : ℕ) → length final.exprs.entries ≤ depth
    → Spread (length b.stored.exprs.entries) (length b'.stored.exprs.entries)
    (of_each (reached_to (store_of final) depth) (unrun_in_type (store_of final) i))

-- of what a path holds,
abbrev pub PathInsideReachedOnce : Type 0
PathInsideReachedOnce =
    (p : OptionPath) (b b' : Builder) (r : Option Path) → Paired b.stored → lower_path p b ≡ (Ok r, b')
    → (final : Stored) → Extends b'.stored final → (depth : ℕ) → length final.exprs.entries ≤ depth
    → Spread (length b.stored.exprs.entries) (length b'.stored.exprs.entries)
    (of_each (reached_to (store_of final) depth) (unrun_in_path (store_of final) r))

-- and of a body behind its parameters, with what the patterns hold that the outside hands its arguments to.
abbrev pub BodyInsideReachedOnce : Type 0
BodyInsideReachedOnce =
    (kind : Option CoroutineKind) (skipped : Bool) (f : Formals) (e : OptionExpr) (b b' : Builder) (given : Given) (i : ExprId)
    → Paired b.stored → lower_body kind skipped f e b ≡ (Ok (given, i), b')
    → (final : Stored) → Extends b'.stored final → (depth : ℕ) → length final.exprs.entries ≤ depth
    → let s = store_of final in
    Spread (length b.stored.exprs.entries) (length b'.stored.exprs.entries)
    (of_each (reached_to s depth) (unrun_in_pats s given.0.1 ++ i ∷ unrun_in s i))
