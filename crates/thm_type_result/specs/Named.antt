-- Which types paths, expressions and patterns reach that are stored, and that each is reached in one way only.
use Rattle.std.specs.Prelude.{◌≡◌, ℕ, ◌≤◌, length, Bool, List, [], ◌∷◌, ◌++◌, Option, Ok}
use Rattle.hir_store.specs.StoreSink.{Extends}
use Rattle.hir_store.specs.Stored.{Stored}
use Rattle.hir_store.specs.declared.hir.CoroutineKind.{CoroutineKind}
use Rattle.hir_store.specs.declared.hir.Expr.{Expr as HirExpr}
use Rattle.hir_store.specs.declared.hir.Expr.TheVariants as hir
use Rattle.hir_store.specs.declared.hir.MatchArm.{MatchArm}
use Rattle.hir_store.specs.declared.hir.Statement.{Statement}
use Rattle.hir_store.specs.declared.hir.Statement.TheVariants as statement
use Rattle.hir_store.specs.declared.ids.BindingId.{BindingId}
use Rattle.hir_store.specs.declared.ids.ExprId.{ExprId}
use Rattle.hir_store.specs.declared.ids.PatId.{PatId}
use Rattle.hir_store.specs.declared.ids.TypeRefId.{TypeRefId}
use Rattle.hir_store.specs.declared.pat.Pat.{Pat as HirPat}
use Rattle.hir_store.specs.declared.pat.Pat.TheVariants as pat
use Rattle.hir_store.specs.declared.pat.RecordFieldPat.{RecordFieldPat}
use Rattle.hir_store.specs.declared.path.Path.{Path}
use Rattle.hir_env.specs.ResolvedTree.{Binder, Formals, OptionExpr, OptionPath, OptionType}
use Rattle.hir_lower_builder.specs.Builder.{Builder}
use Rattle.hir_lower_builder.specs.Lower.{lower_part, lower_path, type_part}
use Rattle.thm_logic.specs.Keeps.{Paired}
use Rattle.thm_semantics.specs.Reached.{Spread}
use Rattle.thm_body_result.specs.Formals.{Given, lower_body}
use Rattle.thm_type_result.specs.Reached.{of_args, of_each, of_path, of_present, types_reached}

-- what is reached from each type, from each pattern, and from each binding
pub record Look : Type 0 where
  pub types : TypeRefId → List ℕ
  pub pats : PatId → List ℕ
  pub bindings : BindingId → List ℕ

-- of types alone
abbrev pub of_types_alone : (TypeRefId → List ℕ) → Look
of_types_alone f = record { types = f; pats = λ i. []; bindings = λ b. [] }

-- of patterns alone
abbrev pub of_pats_alone : (PatId → List ℕ) → Look
of_pats_alone f = record { types = λ i. []; pats = f; bindings = λ b. [] }

-- of bindings alone, their numbers
abbrev pub of_bindings_alone : Look
of_bindings_alone = record { types = λ i. []; pats = λ i. []; bindings = λ b. b.0 ∷ [] }

-- but through expressions that are parts
module _ (l : Look) where
  abbrev pub of_statement : Statement → List ℕ
  of_statement statement.Item = []
  of_statement (statement.MacroDef d) = []
  of_statement (statement.Expr e semi) = []
  of_statement (statement.Let p t e b) = l.pats p ++ of_present l.types t

  abbrev pub of_arm : MatchArm → List ℕ
  of_arm a = l.pats a.pat

  abbrev pub of_expr : HirExpr → List ℕ
  of_expr (hir.Path p h) = of_path l.types p
  of_expr (hir.MethodCall e name generics es) = of_present (of_args l.types) generics
  of_expr (hir.Cast e t) = l.types t
  of_expr (hir.RecordLit p fields others) = of_path l.types p
  of_expr (hir.OffsetOf t names) = l.types t
  of_expr (hir.Block is_unsafe label number ss tail) = of_each of_statement ss
  of_expr (hir.Let p e) = l.pats p
  of_expr (hir.Match e arms) = of_each of_arm arms
  of_expr (hir.Assignment p e) = l.pats p
  -- its parameters, and what it returns
  of_expr (hir.Closure args types ret body kind capture) =
      of_each l.pats args ++ (of_each (of_present l.types) types ++ of_present l.types ret)
  of_expr e = []

  abbrev pub of_exprs : List HirExpr → List ℕ
  of_exprs = of_each of_expr

  abbrev pub of_pat_field : RecordFieldPat → List ℕ
  of_pat_field f = l.pats f.pat

  -- through its path, its binding and its parts
  abbrev pub of_pat : HirPat → List ℕ
  of_pat pat.Missing = []
  of_pat pat.Wild = []
  of_pat pat.Rest = []
  of_pat pat.NotNull = []
  of_pat (pat.Bind b sub) = l.bindings b ++ of_present l.pats sub
  of_pat (pat.Path p h) = of_path l.types p
  of_pat (pat.TupleStruct p dots ps) = of_path l.types p ++ of_each l.pats ps
  of_pat (pat.Tuple dots ps) = of_each l.pats ps
  of_pat (pat.Record p fs dots) = of_path l.types p ++ of_each of_pat_field fs
  of_pat (pat.Or ps) = of_each l.pats ps
  of_pat (pat.Slice before middle behind) = of_each l.pats before ++ (of_present l.pats middle ++ of_each l.pats behind)
  of_pat (pat.Ref mutability p) = l.pats p
  of_pat (pat.Box p) = l.pats p
  of_pat (pat.Deref p) = l.pats p
  of_pat (pat.Lit e) = []
  of_pat (pat.Range op start end) = []
  of_pat (pat.Expr e) = []

  abbrev pub of_pats : List HirPat → List ℕ
  of_pats = of_each of_pat

-- However deep one looks, each type that is reached from here, or by the expressions and patterns that came, is reached in one way by
-- one of them, so none reaches itself, and is one of those that came.
abbrev pub TypesSpread : Stored → Stored → Stored → ((TypeRefId → List ℕ) → List ℕ) → Type 0
TypesSpread old new final here =
    (depth : ℕ) → length final.types.entries ≤ depth
    → (more : List HirExpr) → new.exprs.entries ≡ old.exprs.entries ++ more
    → (pats : List HirPat) → new.pats.entries ≡ old.pats.entries ++ pats
    → let f = types_reached final.types.entries depth in let l = of_types_alone f in
    Spread (length old.types.entries) (length new.types.entries) (here f ++ (of_exprs l more ++ of_pats l pats))

-- so it is of a lowered type,
abbrev pub TypesReachedOnce : Type 0
TypesReachedOnce =
    (binder : Option Binder) (t : OptionType) (b b' : Builder) (i : TypeRefId) → Paired b.stored → type_part binder t b ≡ (Ok i, b')
    → (final : Stored) → Extends b'.stored final → TypesSpread b.stored b'.stored final (λ f. f i)

-- of a lowered path,
abbrev pub PathTypesReachedOnce : Type 0
PathTypesReachedOnce =
    (p : OptionPath) (b b' : Builder) (r : Option Path) → Paired b.stored → lower_path p b ≡ (Ok r, b')
    → (final : Stored) → Extends b'.stored final → TypesSpread b.stored b'.stored final (λ f. of_present (of_path f) r)

-- of a lowered tree,
abbrev pub ExprTypesReachedOnce : Type 0
ExprTypesReachedOnce =
    (e : OptionExpr) (b b' : Builder) (i : ExprId) → Paired b.stored → lower_part e b ≡ (Ok i, b')
    → (final : Stored) → Extends b'.stored final → TypesSpread b.stored b'.stored final (λ f. [])

-- and of a body behind its parameters.
abbrev pub BodyTypesReachedOnce : Type 0
BodyTypesReachedOnce =
    (kind : Option CoroutineKind) (skipped : Bool) (f : Formals) (e : OptionExpr) (b b' : Builder) (given : Given) (i : ExprId)
    → Paired b.stored → lower_body kind skipped f e b ≡ (Ok (given, i), b')
    → (final : Stored) → Extends b'.stored final → TypesSpread b.stored b'.stored final (λ f. [])
