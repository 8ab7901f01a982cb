-- What is lowered fits, or there is no room for it.
use Rattle.std.proofs.Common.{Ok, Err}
use Rattle.hir_lower_builder.specs.Builder.{Builder}
use Rattle.hir_lower_builder.specs.Lowering.{Checked, Lowering}
use Rattle.thm_logic.specs.Keeps.{Paired}
use Rattle.thm_body_result.specs.Size.{Size}
use Rattle.thm_body_result.specs.Theorems.{GrownUnless, AllFit, TypesFit, PathsFit, BodiesFit}
use Rattle.thm_body_result.proofs.Rooms.{Takes}
use Rattle.thm_body_result.proofs.Took.{Room, may_be_owned}
use Rattle.thm_body_result.proofs.Emissions.{takes_of}
use Rattle.thm_body_result.proofs.TreeRooms.{body_takes, part_takes, path_emits, type_part_takes}

pub fits : {A : Type 0} {n : Size} {p : Lowering A} → Takes n p → (old : Builder) → Paired old.stored
    → GrownUnless n old (p old).0 (p old).1
fits {A = A} {n = n} {p = p} h old d = by (p old).0 (p old).1 (h.takes old d)
  where
    by : (o : Checked A) (new : Builder) → Room n old o new → GrownUnless n old o new
    by (Ok a) new h = record {
      exprs = h.exprs.more;
      labels = h.labels.more;
      bindings = h.bindings.more;
      owners = h.owners;
      may_be_owned = may_be_owned h;
      pats = h.pats.more;
      types = h.types.more;
      lifetimes = h.lifetimes.more;
      pat_sources = h.pat_sources;
      pat_map = h.pat_mappings;
      target_map = h.target_mappings;
      type_sources = h.type_sources;
      lifetime_sources = h.lifetime_sources;
      types_map = h.type_mappings;
    }
    by (Err f) new h = h

pub all_fit : AllFit
all_fit e old d = fits (part_takes e) old d

pub types_fit : TypesFit
types_fit binder t old d = fits (type_part_takes binder t) old d

pub paths_fit : PathsFit
paths_fit p old d = fits (takes_of (path_emits p)) old d

pub bodies_fit : BodiesFit
bodies_fit kind skipped f e old d = fits (body_takes kind skipped f e) old d
