-- What a closure whose body is a coroutine is handed its arguments by, as its node says it.
use Rattle.std.proofs.Common.{◌≡◌, ◌∙◌, ap, List, Bool, Ok}
use Rattle.hir_store.specs.Pointers.{Pointer}
use Rattle.hir_store.specs.Stored.{Stored, store_of}
use Rattle.hir_store.specs.StoreSink.{Extends}
use Rattle.hir_store.specs.declared.hir.CoroutineKind.{CoroutineKind}
use Rattle.hir_store.specs.declared.ids.ExprId.{ExprId}
use Rattle.hir_env.specs.ResolvedTree as tree
use Rattle.hir_env.specs.ResolvedTree.{OptionExpr, OptionType, Params}
use Rattle.hir_lower_builder.specs.Builder.{Builder}
use Rattle.hir_lower_builder.specs.Lower.{lower}
use Rattle.thm_logic.specs.Keeps.{Paired, formals_in, formals_of}
use Rattle.thm_logic.proofs.Frames.{Frame}
use Rattle.thm_logic.proofs.Keeping.{Any, part_any}
use Rattle.thm_logic.proofs.Owning.{owning_keeps}
use Rattle.thm_logic.proofs.Steps.{Mark, Correct, correct_as}
use Rattle.spec_data.specs.Preludes.{formal_patterns}
use Rattle.thm_round_trip.proofs.CoroutineClosures.{closure_reads, formals_alike, params_data}
use Rattle.thm_round_trip.proofs.Now.{answered}
use Rattle.thm_round_trip.proofs.Params.{pats_in}

record FormalsOf (ps : Params) (final : Stored) (fs : List Frame) (m m' : Mark) (i : ExprId) : Type 0 where
  are : pats_in final (formals_of (store_of final) i.0) ≡ formal_patterns (params_data ps)

formals : (at : Pointer) (kind : CoroutineKind) (moves : Bool) (ps : Params) (t : OptionType) (e : OptionExpr)
    → Correct (lower (tree.coroutine_closure_expr at kind moves ps t e)) (FormalsOf ps)
formals at kind moves ps t e = owning_keeps (λ i. i) (λ final fs m left start id i row. record { are = row.are })
    (correct_as (closure_reads at kind moves ps t Any (part_any e)) (λ final fs m m' i g row. record {
      are = ap (λ n. pats_in final (formals_of (store_of final) n)) row.made.number
          ∙ (ap (λ x. pats_in final (formals_in x)) row.made.here ∙ formals_alike at kind moves ps t Any row);
    }))

pub formals_theorem : (at : Pointer) (kind : CoroutineKind) (moves : Bool) (ps : Params) (t : OptionType) (e : OptionExpr) (o o' : Builder)
    (i : ExprId) → Paired o.stored → lower (tree.coroutine_closure_expr at kind moves ps t e) o ≡ (Ok i, o')
    → (final : Stored) → Extends o'.stored final
    → pats_in final (formals_of (store_of final) i.0) ≡ formal_patterns (params_data ps)
formals_theorem at kind moves ps t e o o' i d is final x = (answered (formals at kind moves ps t e) o o' i d is final x).are
