-- What is correct of a lowering, where it answered.
use Rattle.std.proofs.Common.{◌≡◌, subst, Ok}
use Rattle.hir_store.specs.Stored.{Stored}
use Rattle.hir_store.specs.StoreSink.{Extends}
use Rattle.hir_lower_builder.specs.Builder.{Builder}
use Rattle.hir_lower_builder.specs.Lowering.{Lowering}
use Rattle.thm_logic.specs.Keeps.{Paired}
use Rattle.thm_logic.proofs.Frames.{frames, ribs_frames}
use Rattle.thm_logic.proofs.Steps.{Rel, Correct, Holds, mark}

pub after_lowering : {A : Type 0} {p : Lowering A} {R : Rel A} → Correct p R → (old : Builder) (a : A) (new : Builder) → Paired old.stored
    → p old ≡ (Ok a, new) → (final : Stored) → Extends new.stored final → R final (frames old.scopes) (mark old) (mark new) a
after_lowering {R = R} h old a new paired is final ext =
    let ps = frames old.scopes in
    let g : Holds R final ps old (Ok a) new =
    subst (λ r. Holds R final ps old r.0 r.1) is (h.holds final ps old (ribs_frames old.scopes)) in
    g.in_final paired ext
