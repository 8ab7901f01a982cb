-- What lowering a tree answers stands for it, in each store that goes on.
use Rattle.std.proofs.Common.{◌≡◌, sym, subst, Ok}
use Rattle.hir_store.specs.Stored.{Stored, store_of, map_of}
use Rattle.hir_store.specs.StoreSink.{Extends}
use Rattle.hir_store.specs.declared.ids.ExprId.{ExprId}
use Rattle.hir_env.specs.ResolvedTree.{OptionExpr}
use Rattle.hir_lower_builder.specs.Builder.{Builder}
use Rattle.hir_lower_builder.specs.Lower.{lower_part}
use Rattle.thm_logic.specs.Keeps.{Paired}
use Rattle.thm_logic.proofs.Frames.{ribs_frames}
use Rattle.thm_body_result.specs.Theorems.{AllStand, Settled}
use Rattle.thm_body_result.specs.Corresponds.{CorrespondsPart}
use Rattle.thm_body_result.proofs.AfterLowering.{after_lowering}
use Rattle.thm_body_result.proofs.Lasting.{bound, unchanged_settled}
use Rattle.thm_body_result.proofs.Leading.{Shown}
use Rattle.thm_body_result.proofs.TreeCorresponds.{part_corresponds}

module _ (e : OptionExpr) (old : Builder) (id : ExprId) (new : Builder) (paired : Paired old.stored)
    (is : lower_part e old ≡ (Ok id, new)) (final : Stored) (ext : Extends new.stored final) where
  part_settles : Settled old.stored new.stored
  part_settles = (after_lowering (part_corresponds e) old id new paired is final ext).settled

  pub part_shown : Settled new.stored final
      → Shown (CorrespondsPart (store_of final) (map_of final) old.scopes e id) old.stored new.stored
  part_shown settled =
      let lasts = after_lowering (part_corresponds e) old id new paired is final ext in
      subst (λ rs. Shown (CorrespondsPart (store_of final) (map_of final) rs e id) old.stored new.stored) (sym (ribs_frames old.scopes))
      (lasts.rel (unchanged_settled (bound old.stored) settled)).shown

pub all_stand : AllStand
all_stand e old id new paired is final ext settled =
    let x = part_shown e old id new paired is final ext settled in
    let m = x.moved in
    record {
      mappings = x.mappings;
      corresponds = x.shown;
      reaches = record {
        covers = m.covers;
        covers_labels = m.covers_labels;
        covers_bindings = m.covers_bindings;
        led = m.led;
        labels = m.labels;
        settled = part_settles e old id new paired is final ext;
        defined = m.defined;
        owner_mappings = λ may. (m.owners may).are;
      };
    }
