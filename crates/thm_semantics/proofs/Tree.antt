-- What holds of whole bodies by themselves: how deep one looks, and which numbers they reach.
use Rattle.std.proofs.Common.{[], arith}
use Rattle.hir_store.specs.Stored.{Stored}
use Rattle.hir_store.specs.StoreSink.{Extends}
use Rattle.hir_store.specs.declared.ids.ExprId.{ExprId}
use Rattle.hir_env.specs.ResolvedTree.{OptionExpr}
use Rattle.hir_lower_builder.specs.Builder.{Builder}
use Rattle.hir_lower_builder.specs.Lower.{lower_part}
use Rattle.thm_logic.proofs.Steps.{mark, Rel, Answers, InStore, Correct, correct_in_store}
use Rattle.thm_semantics.specs.Headline.{Lowered, Deeper}
use Rattle.thm_semantics.specs.Reached.{ReachedOnce}
use Rattle.thm_semantics.proofs.Owned.{part_owns}
use Rattle.thm_semantics.proofs.Body.{runs_at}
use Rattle.thm_semantics.proofs.Induction.{part_fine}

-- what is so of each lowering is so of this body, of which nothing encloses
pub of_body : {R : Rel ExprId} {e : OptionExpr} {b b' : Builder} {i : ExprId} {final : Stored} → Correct (lower_part e) R → Lowered e b i b'
    → Extends b'.stored final → InStore R final [] (mark b) (mark b') i
of_body {R = R} {e = e} {b = b} {b' = b'} {i = i} {final = final} c l x =
    let h = (correct_in_store c).holds final [] b l.none_open in
    let r : Answers (InStore R) final [] b b' i = rw l.is at h in
    r.in_final l.paired x

pub deeper : Deeper
deeper e b b' i l final x d le = let r = of_body (part_fine e) l x in let nodes = r.nodes in runs_at [] d r.rel (omega arith) tt

pub reached_once : ReachedOnce
reached_once e b b' i l final x d le = let r = of_body (part_owns e) l x in let nodes = r.nodes in r.rel.spread d (omega arith)
