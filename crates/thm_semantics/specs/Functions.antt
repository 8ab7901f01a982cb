-- What holds of each function with `async` or `gen` that is lowered: its expression makes its coroutine, and that does what is written.
use Rattle.std.specs.Prelude.{◌≡◌, List, [], ◌∷◌, ◌++◌, Option, None, Ok}
use Rattle.hir_store.specs.Stored.{Stored, store_of, map_of}
use Rattle.hir_store.specs.StoreSink.{Extends}
use Rattle.hir_store.specs.declared.hir.CoroutineKind.{CoroutineKind}
use Rattle.hir_store.specs.declared.hir.CoroutineSource.TheVariants as source
use Rattle.hir_store.specs.declared.ids.BindingId.{BindingId}
use Rattle.hir_store.specs.declared.ids.ExprId.{ExprId}
use Rattle.hir_store.specs.declared.ids.PatId.{PatId}
use Rattle.hir_env.specs.ResolvedTree as tree
use Rattle.hir_env.specs.ResolvedTree.{OptionExpr, SelfFormal}
use Rattle.spec_data.specs.Tops.{Tops}
use Rattle.hir_lower_builder.specs.declared.preludes.Handed.{Handed}
use Rattle.hir_lower_builder.specs.Builder.{Builder}
use Rattle.hir_lower_builder.specs.Forms.{ExprSteps, some}
use Rattle.hir_lower_builder.specs.Lower.{lower_part, lower_top}
use Rattle.hir_lower_builder.specs.Lowering.{Lowering, ◌>>=◌, pure, alloc_binding, owning}
use Rattle.hir_lower_builder.specs.Pats.{new_binding}
use Rattle.hir_lower_builder.specs.Preludes.{let_params, let_self, lower_handed, made_coroutine_form}
use Rattle.thm_logic.specs.Keeps.{Paired}
use Rattle.spec_semantics.specs.Same.{SameCoroutine}

-- how one is lowered

-- `self`, and the patterns of the other parameters
abbrev pub Received : Type 0
Received = Option BindingId × List PatId

-- what was written of the parameters, how each but `self` is handed in, and the coroutine
abbrev pub InFunction : Type 0
InFunction = Received × (List Handed × ExprId)

module _ (kind : CoroutineKind) (params : Lowering (List PatId)) (body : ExprSteps) where
  -- The parameters behind `self`, the body, the `let`s, that of `self` first, and the coroutine.
  unfoldable pub in_function : Option BindingId → Lowering InFunction
  in_function self = do
    ps ← params
    e ← body
    begun ← let_self self
    l ← let_params begun.1 ps
    c ← made_coroutine_form kind source.Fn l.lets e
    pure ((begun.0, ps), (l.handed, c))

  -- What the outside hands the arguments to comes behind. What is answered is that, then what was written, and the coroutine.
  unfoldable pub coroutine_function : Lowering (Option BindingId) → Lowering ((Received × Received) × ExprId)
  coroutine_function receiver = do
    self ← receiver
    inside ← owning (λ x. x.1.1) (in_function self)
    ps ← lower_handed [] inside.1.0
    pure (((self, ps), inside.0), inside.1.1)

-- where no condition disables a parameter

abbrev pub lower_receiver : SelfFormal → Lowering (Option BindingId)
lower_receiver (tree.self_formal at u _) = some (alloc_binding (new_binding u))
lower_receiver s = pure None

abbrev pub lower_tops : List PatId → Tops → Lowering (List PatId)
lower_tops done [] = pure done
lower_tops done (p ∷ ps) = do
  i ← lower_top p
  lower_tops (done ++ i ∷ []) ps

-- what it does

-- The function became i, whose arguments are handed to these: nothing was open, and the store was `Paired`.
pub record LoweredFunction (kind : CoroutineKind) (self : SelfFormal) (ps : Tops) (e : OptionExpr) (b : Builder) (formals : List PatId)
    (i : ExprId) (b' : Builder) : Type 0 where
  pub receiver : Option BindingId
  pub written : Received
  pub none_open : b.scopes ≡ []
  pub paired : Paired b.stored
  pub is : coroutine_function kind (lower_tops [] ps) (lower_part e) (lower_receiver self) b ≡ (Ok (((receiver, formals), written), i), b')

-- in each store that has what was stored by then and maybe more
abbrev pub FunctionHeadline : Type 0
FunctionHeadline =
    (kind : CoroutineKind) (self : SelfFormal) (ps : Tops) (e : OptionExpr) (b b' : Builder) (formals : List PatId) (i : ExprId)
    → LoweredFunction kind self ps e b formals i b' → (final : Stored) → Extends b'.stored final
    → SameCoroutine (store_of final) (map_of final) formals i kind self ps e
