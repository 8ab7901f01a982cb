-- What steps leave of what was stored.
use Rattle.hir_store.proofs.Arenas.{prefix_refl}
use Rattle.hir_store.proofs.Extending.{extends_refl}
use Rattle.hir_store.specs.Stored.{Stored}
use Rattle.hir_store.specs.StoreSink.{Extends}
use Rattle.thm_body_result.specs.Theorems.{MayBeOwned}
use Rattle.hir_lower.specs.Stays.{Stays}
use Rattle.thm_body_result.specs.LeadsOn.{Went, expr_place, label_place, lifetime_place, pat_place, type_place}
use Rattle.thm_body_result.proofs.Onward.{on_refl}

pub stays_refl : (a : Stored) → Stays a a
stays_refl a = record {
  extends = extends_refl a;
  bindings = prefix_refl _;
  owners = prefix_refl _;
  exprs = on_refl expr_place _ _;
  labels = on_refl label_place _ _;
  pats = on_refl pat_place _ _;
  targets = on_refl pat_place _ _;
  types = on_refl type_place _ _;
  lifetimes = on_refl lifetime_place _ _;
}

pub stays_on : {a b : Stored} → Extends a b → Went a b → MayBeOwned a → Stays a b
stays_on x w m = record {
  extends = x;
  bindings = w.bindings;
  owners = (w.owners m).0;
  exprs = w.exprs.mappings;
  labels = w.labels.mappings;
  pats = w.pats.mappings;
  targets = w.targets;
  types = w.types.mappings;
  lifetimes = w.lifetimes.mappings;
}
