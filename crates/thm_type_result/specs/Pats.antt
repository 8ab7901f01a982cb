-- Which patterns expressions, types and patterns reach that are stored, and that each is reached in one way only; and which bindings
-- patterns make.
use Rattle.std.specs.Prelude.{◌≡◌, ℕ, zero, suc, ◌≤◌, length, Bool, List, [], ◌∷◌, ◌++◌, Option, Some, None, slice_get, Ok}
use Rattle.hir_store.specs.StoreSink.{Extends}
use Rattle.hir_store.specs.Stored.{Stored}
use Rattle.hir_store.specs.declared.hir.CoroutineKind.{CoroutineKind}
use Rattle.hir_store.specs.declared.hir.Expr.{Expr as HirExpr}
use Rattle.hir_store.specs.declared.ids.ExprId.{ExprId}
use Rattle.hir_store.specs.declared.ids.PatId.{PatId}
use Rattle.hir_store.specs.declared.ids.TypeRefId.{TypeRefId}
use Rattle.hir_store.specs.declared.pat.Pat.{Pat as HirPat}
use Rattle.hir_store.specs.declared.path.Path.{Path}
use Rattle.hir_store.specs.declared.type_ref.TypeRef.{TypeRef}
use Rattle.hir_store.specs.declared.type_ref.TypeRef.TheVariants as ty
use Rattle.hir_env.specs.ResolvedTree.{Binder, Formals, OptionExpr, OptionPath, OptionType}
use Rattle.hir_lower_builder.specs.Builder.{Builder}
use Rattle.hir_lower_builder.specs.Lower.{lower_part, lower_path, type_part}
use Rattle.thm_logic.specs.Keeps.{Paired}
use Rattle.hir_lower_scope.specs.Each.{Each}
use Rattle.thm_semantics.specs.Reached.{Between, Spread}
use Rattle.thm_body_result.specs.Formals.{Given, lower_body}
use Rattle.thm_type_result.specs.Reached.{of_each}
use Rattle.thm_type_result.specs.Named.{Look, of_bindings_alone, of_exprs, of_pat, of_pats, of_pats_alone}

abbrev pub pats_below : (PatId → List ℕ) → Option HirPat → List ℕ
pats_below f None = []
pats_below f (Some p) = of_pat (of_pats_alone f) p

-- so deep, through parts
unfoldable pub pats_reached : List HirPat → ℕ → PatId → List ℕ
pats_reached pats zero i = []
pats_reached pats (suc depth) i = i.0 ∷ pats_below (pats_reached pats depth) (slice_get pats i.0)

-- of types those that a pattern stands in
module _ (l : Look) where
  abbrev pub of_type : TypeRef → List ℕ
  of_type (ty.Pattern t p) = l.pats p
  of_type t = []

  abbrev pub of_types : List TypeRef → List ℕ
  of_types = of_each of_type

-- However deep one looks, each pattern that these ones, and the expressions and types that came, reach is reached in one way, so
-- none reaches itself, and is one of those that came.
abbrev pub PatsSpread : Stored → Stored → Stored → List PatId → Type 0
PatsSpread old new final ps =
    (depth : ℕ) → length final.pats.entries ≤ depth
    → (es : List HirExpr) → new.exprs.entries ≡ old.exprs.entries ++ es
    → (ts : List TypeRef) → new.types.entries ≡ old.types.entries ++ ts
    → let l = of_pats_alone (pats_reached final.pats.entries depth) in
    Spread (length old.pats.entries) (length new.pats.entries) (of_each l.pats ps ++ (of_exprs l es ++ of_types l ts))

-- So it is of a lowered tree, which ends in `let`s, arms and assignments,
abbrev pub ExprPatsReachedOnce : Type 0
ExprPatsReachedOnce =
    (e : OptionExpr) (b b' : Builder) (i : ExprId) → Paired b.stored → lower_part e b ≡ (Ok i, b')
    → (final : Stored) → Extends b'.stored final → PatsSpread b.stored b'.stored final []

-- of a type that is lowered by itself,
abbrev pub TypePatsReachedOnce : Type 0
TypePatsReachedOnce =
    (binder : Option Binder) (t : OptionType) (b b' : Builder) (i : TypeRefId) → Paired b.stored → type_part binder t b ≡ (Ok i, b')
    → (final : Stored) → Extends b'.stored final → PatsSpread b.stored b'.stored final []

-- of a path,
abbrev pub PathPatsReachedOnce : Type 0
PathPatsReachedOnce =
    (p : OptionPath) (b b' : Builder) (r : Option Path) → Paired b.stored → lower_path p b ≡ (Ok r, b')
    → (final : Stored) → Extends b'.stored final → PatsSpread b.stored b'.stored final []

-- And of a body behind its parameters, with the patterns that the outside hands its arguments to. Where the function is a coroutine, what
-- was written of its parameters is reached by the `let`s in front of its body.
abbrev pub BodyPatsReachedOnce : Type 0
BodyPatsReachedOnce =
    (kind : Option CoroutineKind) (skipped : Bool) (f : Formals) (e : OptionExpr) (b b' : Builder) (given : Given) (i : ExprId)
    → Paired b.stored → lower_body kind skipped f e b ≡ (Ok (given, i), b')
    → (final : Stored) → Extends b'.stored final → PatsSpread b.stored b'.stored final given.0.1

-- Each binding that a pattern makes which came is one that came with it, or with others of its tree.
abbrev pub BindingsCame : Stored → Stored → Type 0
BindingsCame old new =
    (ps : List HirPat) → new.pats.entries ≡ old.pats.entries ++ ps
    → Each (Between (length old.bindings.entries) (length new.bindings.entries)) (of_pats of_bindings_alone ps)

-- so it is of a lowered tree, of a type, of a path, and of a body behind its parameters

abbrev pub ExprBindingsCame : Type 0
ExprBindingsCame =
    (e : OptionExpr) (b b' : Builder) (i : ExprId) → Paired b.stored → lower_part e b ≡ (Ok i, b') → BindingsCame b.stored b'.stored

abbrev pub TypeBindingsCame : Type 0
TypeBindingsCame =
    (binder : Option Binder) (t : OptionType) (b b' : Builder) (i : TypeRefId) → Paired b.stored → type_part binder t b ≡ (Ok i, b')
    → BindingsCame b.stored b'.stored

abbrev pub PathBindingsCame : Type 0
PathBindingsCame =
    (p : OptionPath) (b b' : Builder) (r : Option Path) → Paired b.stored → lower_path p b ≡ (Ok r, b') → BindingsCame b.stored b'.stored

abbrev pub BodyBindingsCame : Type 0
BodyBindingsCame =
    (kind : Option CoroutineKind) (skipped : Bool) (f : Formals) (e : OptionExpr) (b b' : Builder) (given : Given) (i : ExprId)
    → Paired b.stored → lower_body kind skipped f e b ≡ (Ok (given, i), b') → BindingsCame b.stored b'.stored
