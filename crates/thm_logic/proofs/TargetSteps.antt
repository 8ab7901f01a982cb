-- The assignee expression: a pattern, which a node leads to by a map of its own.
use Rattle.std.proofs.Common.{◌∙◌, refl, ap, Option, Some}
use Rattle.hir_store.specs.Pointers.{Pointer}
use Rattle.hir_store.specs.declared.ids.PatId.{PatId}
use Rattle.hir_store.specs.declared.pat.Pat.{Pat}
use Rattle.hir_env.specs.ResolvedTree.{Origin}
use Rattle.hir_env.specs.Targets.{source_of}
use Rattle.hir_lower_builder.specs.Lowering.{alloc_desugared_pat}
use Rattle.hir_lower_builder.specs.Targets.{alloc_target}
use Rattle.thm_logic.proofs.Apart.{Apart, apart_stored}
use Rattle.thm_logic.proofs.Calls.{correct_point_target, pointing_target}
use Rattle.thm_logic.proofs.Logic.{Rel, Correct, correct_as, correct_bind, correct_pure}
use Rattle.thm_logic.proofs.PatSteps.{AllocatedPatBy, correct_alloc_desugared_pat, put_made_pat}

-- Its node leads to it, and no other map changes.
abbrev pub AllocatedTarget : Pat → Origin → Rel PatId
AllocatedTarget p at = λ final ps m m' i.
    AllocatedPatBy (λ x source s. pointing_target at.node i (put_made_pat x source s)) p (Some (source_of at)) final ps m m' i

pub correct_alloc_target : (p : Pat) (at : Origin) → Correct (alloc_target p at) (AllocatedTarget p at)
unfolding alloc_target
correct_alloc_target p at = correct_as (correct_bind (correct_alloc_desugared_pat p (Some (source_of at)))
    (λ i. correct_bind (correct_point_target at.node i) (λ u. correct_pure i)))
    (λ final ps m m' j g row. let one = row.first in let two = row.second.first in let last = row.second.second in
    let counts_are = two.counts_are in rw (last.is, last.still) (record {
      number = one.number;
      here = one.here;
      from = one.from;
      next = ap (λ c. c.2) counts_are ∙ one.next;
      entries = ap (λ c. c.6) counts_are ∙ one.entries;
      nodes = ap (λ c. c.0) counts_are ∙ one.nodes;
      labels = ap (λ c. c.1) counts_are ∙ one.labels;
      bindings = ap (λ c. c.3) counts_are ∙ one.bindings;
      types = ap (λ c. c.4) counts_are ∙ one.types;
      lifetimes = ap (λ c. c.5) counts_are ∙ one.lifetimes;
      last = one.last;
      names = ap (λ c. c.7) counts_are ∙ one.names;
      stored = two.stored ∙ ap (pointing_target at.node row.one) one.stored;
    }))

-- made names

pub made_pat_apart : (p : Pat) (source : Option Pointer) → Correct (alloc_desugared_pat p source) Apart
made_pat_apart p source = correct_as (correct_alloc_desugared_pat p source)
    (λ final ps m m' i g row. apart_stored (put_made_pat p source) m m' row.names row.stored (λ s k. refl))
