-- No `yield` stands in what opens and closes labels, and each entry keeps its source there.
use Rattle.std.proofs.Common.{false, Bool, ℕ, Ok, Err, sym, ◌∙◌}
use Rattle.hir_store.specs.Pointers.{Pointer}
use Rattle.hir_store.specs.declared.ids.LabelId.{LabelId}
use Rattle.hir_env.specs.ResolvedTree.{Label}
use Rattle.hir_lower_scope.specs.ScopeRibs.{Rib, try_rib}
use Rattle.hir_lower_builder.specs.Builder.{Builder}
use Rattle.hir_lower_builder.specs.Lowering.{Checked, close, open_label, open_try}
use Rattle.thm_logic.specs.Keeps.{Paired}
use Rattle.thm_logic.proofs.Frames.{rib}
use Rattle.thm_logic.proofs.MadeSteps.{made_label, opens_try}
use Rattle.thm_logic.proofs.Steps.{Opens, opens}
use Rattle.thm_logic.proofs.Yields.{LeavesTo, Raises, RaisedTo, or_false, still_open_label, still_open_try}

opened_off : (made : ℕ) (r : LabelId → Rib LabelId) (l : Label) (b : Builder) (o : Checked LabelId) (c : Builder)
    → Opens made r l b o c → LeavesTo b o c → Paired b.stored → RaisedTo false b o c
opened_off made r l b (Ok n) c h e d = (h.paired d, e ∙ sym (or_false b.yields))
opened_off made r l b (Err e) c h u d = tt

pub raises_open_label : (l : Label) → Raises false (open_label l)
raises_open_label l = record {
  at = λ b d. opened_off 0 (rib l) l b (open_label l b).0 (open_label l b).1 (opens l b)
      ((still_open_label l).still b) d;
}

pub raises_open_try : (at : Pointer) (typed : Bool) → Raises false (open_try at typed)
raises_open_try at typed = record {
  at = λ b d. opened_off 1 (λ n. try_rib n typed) (made_label at b.names) b (open_try at typed b).0 (open_try at typed b).1
      (opens_try at typed b) ((still_open_try at typed).still b) d;
}

pub raises_close : Raises false close
unfolding close
raises_close = record { at = λ b d. (d, sym (or_false b.yields)) }
