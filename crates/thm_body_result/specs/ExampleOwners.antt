-- Small trees with bindings in closures, coroutines and constants: of whatever stands for one, what owns each binding.
use Rattle.std.specs.Prelude.{◌≡◌, suc, Bool, false, List, [], ◌∷◌, Some, None}
use Rattle.hir_store.specs.Stored.{Store, SourceMap}
use Rattle.hir_store.specs.declared.hir.CoroutineKind.{CoroutineKind}
use Rattle.hir_store.specs.declared.ids.BindingId.{BindingId}
use Rattle.hir_store.specs.declared.ids.ExprId.{ExprId}
use Rattle.hir_env.specs.ResolvedTree as tree
use Rattle.hir_env.specs.ResolvedTree.{Expr}
use Rattle.spec_semantics.specs.Small.{at}
use Rattle.thm_body_result.specs.Formals.{Given}
use Rattle.thm_body_result.specs.Leads.{Mapping, binding_mapping, expr_mapping, unled_mapping}
use Rattle.thm_body_result.specs.OneResult.{CorrespondsBody}
use Rattle.thm_body_result.specs.Corresponds.{Corresponds}
use Rattle.thm_body_result.specs.Examples.{closure_of, lets_x, literal_part, param_x, self_and_x, with_argument}
use Rattle.thm_body_result.specs.ExamplePreludes.{coroutine_closure_of, only, plain_x}

-- so it is of the ways of whatever stands for the tree
abbrev pub HasMappings : Expr → (ExprId → List Mapping → Type 0) → Type 0
HasMappings e P =
    (store : Store) (source_map : SourceMap) (i : ExprId) (ws : List Mapping) → Corresponds store source_map [] e i ws → P i ws

pub record OwnersStand : Type 0 where
  -- `|x| || { let x; }`: each closure owns the binding in it
  pub of_closures : HasMappings (closure_of param_x (tree.some_expr (closure_of tree.no_params lets_x))) (λ i ws.
      (b : BindingId) × (c : BindingId) × (block : ExprId) × (inner : ExprId)
      × (ws ≡ binding_mapping b (Some i) ∷ binding_mapping c (Some inner) ∷ expr_mapping (at 9) block ∷ expr_mapping (at 5) inner
      ∷ expr_mapping (at 5) i ∷ []))
  -- `a::<{ let x; }>`: the argument does
  pub of_argument : HasMappings with_argument (λ i ws.
      (b : BindingId) × (block : ExprId) × (ws ≡ binding_mapping b (Some block) ∷ expr_mapping (at 9) block ∷ expr_mapping (at 2) i ∷ []))
  -- `const { let x; }`: what is around the block does
  pub of_const : HasMappings (tree.const_expr (at 2) (tree.constant lets_x)) (λ i ws.
      (b : BindingId) × (block : ExprId) × (ws ≡ binding_mapping b (Some i) ∷ expr_mapping (at 9) block ∷ expr_mapping (at 2) i ∷ []))
  -- `async |x| 1`: the coroutine owns what is written, and the closure the formal parameter
  pub of_coroutine_closure : (kind : CoroutineKind) (moves : Bool)
      → HasMappings (coroutine_closure_of kind moves (only plain_x) (literal_part 1)) (λ i ws. (b : BindingId) × (formal : BindingId)
      × (body : ExprId) × (read : ExprId) × (block : ExprId) × (coroutine : ExprId) × (suc coroutine.0 ≡ i.0)
      × (ws ≡ binding_mapping b (Some coroutine) ∷ expr_mapping (at 1) body ∷ unled_mapping read ∷ unled_mapping block
      ∷ unled_mapping coroutine
      ∷ binding_mapping formal (Some i) ∷ expr_mapping (at 0) i ∷ []))
  -- `async fn f(self, x) { 1 }`: nothing owns `self` in front of the coroutine, and the formal parameter behind it
  pub of_function : (kind : CoroutineKind) (store : Store) (source_map : SourceMap) (given : Given) (i : ExprId) (ws : List Mapping)
      → CorrespondsBody store source_map [] (Some kind) false self_and_x (literal_part 3) given i ws
      → (outer : BindingId) × (b : BindingId) × (inner : BindingId) × (formal : BindingId) × (body : ExprId) × (own : ExprId)
      × (read : ExprId) × (block : ExprId) × (given.0.0 ≡ Some outer) × (given.1.0 ≡ Some inner)
      × (ws ≡ binding_mapping outer None ∷ binding_mapping b (Some i) ∷ expr_mapping (at 3) body ∷ binding_mapping inner (Some i)
      ∷ unled_mapping own
      ∷ unled_mapping read ∷ unled_mapping block ∷ unled_mapping i ∷ binding_mapping formal None ∷ [])
