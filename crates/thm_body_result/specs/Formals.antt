-- The parameters of a body, and what lowering makes of them. `self` comes first, then the others in order, and then the body. Where the
-- function is a coroutine, that begins with `let`s of its parameters, and what the outside hands them to comes last.
use Rattle.std.specs.Prelude.{Bool, true, false, List, [], ◌∷◌, Option, Some, None}
use Rattle.hir_store.specs.declared.diagnostics.ExpressionStoreDiagnostics.TheVariants.{InactiveCode}
use Rattle.hir_store.specs.declared.hir.CoroutineKind.{CoroutineKind}
use Rattle.hir_store.specs.declared.hir.CoroutineSource.TheVariants as source
use Rattle.hir_store.specs.declared.ids.BindingId.{BindingId}
use Rattle.hir_store.specs.declared.ids.ExprId.{ExprId}
use Rattle.hir_store.specs.declared.ids.PatId.{PatId}
use Rattle.hir_env.specs.ResolvedTree as tree
use Rattle.hir_env.specs.ResolvedTree.{Formal, Formals, OptionExpr, SelfFormal}
use Rattle.spec_data.specs.Tops.{Tops}
use Rattle.hir_lower_builder.specs.Forms.{push_some, some}
use Rattle.hir_lower_builder.specs.Lower.{lower_part, lower_top}
use Rattle.hir_lower_builder.specs.Lowering.{Lowering, ◌>>=◌, ◌>>◌, pure, alloc_binding, owning, report}
use Rattle.hir_lower_builder.specs.Pats.{missing_pat, new_binding}
use Rattle.hir_lower_builder.specs.Preludes.{let_params, let_self, lower_handed, made_coroutine_form}
use Rattle.hir_lower_builder.specs.declared.preludes.Handed.{Handed}

-- What is read of the parameters that no condition disables: nothing where the body is skipped.
abbrev pub formals_read : Bool → List Formal → Tops
formals_read skipped [] = []
formals_read skipped (tree.disabled_formal at by ∷ fs) = formals_read skipped fs
formals_read true (f ∷ fs) = tree.no_pat ∷ formals_read true fs
formals_read false (tree.formal p ∷ fs) = p ∷ formals_read false fs

-- the binding of `self`, and the patterns of the others that are kept
abbrev pub Received : Type 0
Received = Option BindingId × List PatId

-- what the outside hands its arguments to, and what was written, which is the same where the body is no coroutine
abbrev pub Given : Type 0
Given = Received × Received

abbrev pub lower_self : SelfFormal → Lowering (Option BindingId)
lower_self tree.no_self = pure None
lower_self (tree.disabled_self at by) = do
  report (InactiveCode at by)
  pure None
lower_self (tree.self_formal at u _) = some (alloc_binding (new_binding u))

-- none where a condition disables it; whether the body is skipped, and so nothing of the parameter is read
abbrev pub lower_formal : Bool → Formal → Lowering (Option PatId)
lower_formal skipped (tree.disabled_formal at by) = do
  report (InactiveCode at by)
  pure None
lower_formal true (tree.formal p) = some missing_pat
lower_formal false (tree.formal p) = some (lower_top p)

abbrev pub each_formal : Bool → List PatId → List Formal → Lowering (List PatId)
each_formal skipped done [] = pure done
each_formal skipped done (f ∷ fs) = do
  x ← lower_formal skipped f
  each_formal skipped (push_some done x) fs

unfoldable pub lower_formals : Bool → Formals → Lowering Received
lower_formals skipped f = do
  s ← lower_self f.receiver
  ps ← each_formal skipped [] f.formals
  pure (s, ps)

-- bodies

unfoldable pub plain_body : Bool → Formals → OptionExpr → Lowering (Given × ExprId)
plain_body skipped f e = do
  given ← lower_formals skipped f
  root ← lower_part e
  pure ((given, given), root)

-- what is in a function that is a coroutine: what was written of its parameters, how each but `self` is handed in, and the coroutine
abbrev pub InFunction : Type 0
InFunction = Received × (List Handed × ExprId)

-- The parameters behind `self`, the body, the `let`s, that of `self` first, and the coroutine.
unfoldable pub in_function : CoroutineKind → Bool → Option BindingId → List Formal → OptionExpr → Lowering InFunction
in_function kind skipped self fs e = do
  ps ← each_formal skipped [] fs
  body ← lower_part e
  begun ← let_self self
  l ← let_params begun.1 ps
  c ← made_coroutine_form kind source.Fn l.lets body
  pure ((begun.0, ps), (l.handed, c))

-- The coroutine owns what is bound in it. Nothing owns `self` in front of it, and what the outside hands the other arguments to, behind.
unfoldable pub coroutine_body : CoroutineKind → Bool → Formals → OptionExpr → Lowering (Given × ExprId)
coroutine_body kind skipped f e = do
  self ← lower_self f.receiver
  inside ← owning (λ x. x.1.1) (in_function kind skipped self f.formals e)
  ps ← lower_handed [] inside.1.0
  pure (((self, ps), inside.0), inside.1.1)

-- A body behind its parameters, which may be one of a function that is a coroutine, and may be skipped.
abbrev pub lower_body : Option CoroutineKind → Bool → Formals → OptionExpr → Lowering (Given × ExprId)
lower_body None skipped f e = plain_body skipped f e
lower_body (Some kind) skipped f e = coroutine_body kind skipped f e
