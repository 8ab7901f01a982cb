-- What steps bring about in each store that goes on.
use Rattle.std.proofs.Common.{List, Ok, Err}
use Rattle.hir_store.specs.Stored.{Stored}
use Rattle.hir_store.specs.StoreSink.{Extends}
use Rattle.hir_lower_builder.specs.Builder.{Builder}
use Rattle.hir_lower_builder.specs.Lowering.{Checked, Lowering}
use Rattle.thm_logic.specs.Keeps.{Paired}
use Rattle.thm_logic.proofs.Frames.{Frame}
use Rattle.thm_logic.proofs.Logic.{Mark, Rel, Holds, Correct}

-- It is so in each store that begins with what is stored by then, as in the final one; each entry had its source before.
pub record Always {A : Type 0} (R : Rel A) (final : Stored) (ps : List Frame) (m m' : Mark) (a : A) : Type 0 where
  pub rel : R final ps m m' a
  pub always : (s : Stored) → Extends m'.stored s → R s ps m m' a
  pub paired : Paired m.stored
  pub stays : Extends m.stored m'.stored
  pub lasts : Extends m'.stored final

pub correct_always : {A : Type 0} {p : Lowering A} {R : Rel A} → Correct p R → Correct p (Always R)
correct_always {A = A} {p = p} {R = R} h = record {
  holds = λ final ps b r. go final ps b (p b).0 (p b).1 (h.holds final ps b r) (λ s. h.holds s ps b r);
}
  where
    go : (final : Stored) (ps : List Frame) (b : Builder) (o : Checked A) (c : Builder) → Holds R final ps b o c
        → ((s : Stored) → Holds R s ps b o c) → Holds (Always R) final ps b o c
    go final ps b (Ok a) c x y = record {
      kept = x.kept;
      grows = x.grows;
      in_final = λ d pre. record {
        rel = x.in_final d pre;
        always = λ s e. (y s).in_final d e;
        paired = d;
        stays = x.kept.stays;
        lasts = pre;
      };
    }
    go final ps b (Err e) c x y = x
