use Rattle.std.proofs.Common.{◌≡◌, ◌≢◌, ◌<◌, ℕ}
use Rattle.std.specs.BTreeMap.{get}
use Rattle.std.specs.Ordering.{nat_cmp}
use Rattle.hir_binding.specs.declared.binding.Mark.TheVariants.{Unseen}
use Rattle.hir_binding.specs.Seen.{mark_of}
use Rattle.hir_binding.specs.Bindings.{tracked, name_count, depth, seen_at}
use Rattle.hir_binding.proofs.Loops.{is_before}
use Rattle.hir_binding.proofs.list.BindingList.end_or.Given as goal

abbrev pub invariant-loop-place : goal.invariant-loop-place
invariant-loop-place l = record {
  tracked : (k : ℕ) → tracked l.self k ≡ seen_at (is_before l.place (get nat_cmp l.names.last k)) (tracked l.initial.self k);
  known : (k : ℕ) → mark_of l.names k ≢ Unseen → k < name_count l.self;
  count : name_count l.self ≡ name_count l.initial.self;
  depth : depth l.self ≡ depth l.initial.self;
}
