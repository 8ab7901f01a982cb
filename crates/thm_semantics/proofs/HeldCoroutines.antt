-- What is stored for a coroutine block holds what is in it, as a body, and what that holds.
use Rattle.std.proofs.Common.{refl, Bool, false, [], ◌∷◌, ◌++◌, Option, None, arith}
use Rattle.hir_store.specs.Pointers.{Pointer}
use Rattle.hir_store.specs.declared.hir.CoroutineKind.{CoroutineKind}
use Rattle.hir_store.specs.declared.ids.BlockId.{BlockId}
use Rattle.hir_env.specs.ResolvedTree.{OptionExpr, Stmts}
use Rattle.hir_lower_builder.specs.Lower.{StoredContents, coroutine_block_form, coroutine_form}
use Rattle.hir_lower_builder.specs.Lowering.{Lowering}
use Rattle.spec_semantics.specs.Inner.{Bodies, coroutine_body}
use Rattle.thm_logic.proofs.Barriers.{correct_coroutine}
use Rattle.thm_logic.proofs.Frames.{barrier_at}
use Rattle.thm_logic.proofs.Steps.{Correct, correct_as, correct_both, correct_in_store}
use Rattle.thm_semantics.proofs.Body.{body_is}
use Rattle.thm_semantics.proofs.Coroutines.{coroutine_is}
use Rattle.thm_semantics.proofs.Forms.{BlockRel, settled_go}
use Rattle.thm_semantics.proofs.HeldForms.{Filled, block_held}
use Rattle.thm_semantics.proofs.Holding.{Holds, an_expr, expr_held}
use Rattle.thm_semantics.proofs.Nodes.{goes_plain_block}
use Rattle.thm_semantics.proofs.Senses.{base_of}

-- It runs as written: nothing that is open around its barrier is in its frames, and its block comes from no node.
pub coroutine_held : {es fs : Bodies} (at : Pointer) (kind : CoroutineKind) (moves : Bool) (number : Option BlockId) (ss : Stmts)
    (e : OptionExpr) {p : Lowering StoredContents} → Correct p (BlockRel ss e) → Correct p (Filled [] es fs)
    → Correct (coroutine_form (coroutine_block_form at kind moves number p))
    (Holds an_expr (coroutine_body number ss e ∷ (es ++ fs)))
coroutine_held at kind moves number ss e h k = correct_as
    (correct_in_store (correct_coroutine (coroutine_is at kind moves number (correct_both h k))))
    (λ final ps m m' i g x.
    let row = x.rel.inside in
    let contents = settled_go (base_of row.entered) ss e (omega arith) row.inside.one in
    expr_held row.made row.to_end (λ d le. (
      body_is (barrier_at ∷ ps) (goes_plain_block false number contents row.block) (omega (x.nodes, row.to_end.nodes, arith)) tt refl,
      (block_held {k = row.filled} false None number row.inside.other row.block row.to_left).same d le,
    )))
