use Rattle.std.proofs.Common.{◌≡◌, Some, sym, ◌∙◌, arith, rules, slice_get}
use Rattle.std.specs.BTreeMap.{get}
use Rattle.std.specs.Ordering.{nat_cmp}
use Rattle.hir_binding.proofs.Loops.{is_seen, entry_step, entry_other}
use Rattle.hir_binding.proofs.list.end_alternative.Goals.{in-Some, in_default}
use Rattle.hir_binding.proofs.list.end_alternative.Goals as goal

pub bounds-entries-name : goal.bounds-entries-name
bounds-entries-name c = let h = c.requires c.in-Some.name (is_seen c.args.names.now.previous c.args.names.now.start c.loop-place.place
    (get nat_cmp c.args.names.now.last c.in-Some.name) ((c.last_marked_at.ensures c.in-Some.name).0 c.in-Some.is)) in omega arith

pub offset_bounds-entries-name : goal.offset_bounds-entries-name
offset_bounds-entries-name c = let h = c.requires c.in-Some.name
    (is_seen c.args.names.now.previous c.args.names.now.start c.loop-place.place (get nat_cmp c.args.names.now.last c.in-Some.name)
    ((c.last_marked_at.ensures c.in-Some.name).0 c.in-Some.is)) in search rules

pub loop-place-preserved : goal.loop-place-preserved
loop-place-preserved c = record {
  from = let h = c.loop-place.invariant.from in omega arith;
  entries = λ k. let i = c.loop-place.invariant.entries k in elim c.match-last_marked_at.branch [
    | in-Some w ↦
        let s = (c.last_marked_at.ensures w.in-Some.name).0 w.in-Some.is in
        let h = c.requires w.in-Some.name (is_seen c.args.names.now.previous c.args.names.now.start c.loop-place.place
        (get nat_cmp c.args.names.now.last w.in-Some.name) s) in
        entry_step _ _ w.in-Some.name k c.args.names.now.previous c.loop-place.place _ (get nat_cmp c.args.names.now.last k)
        (slice_get c.args.entries.now k) w.entries-is (omega arith) c.loop-place.invariant.from
        (λ e. rw (← e) s)
        (λ e. let f = (c.last_marked_at.ensures k).1 e in let g : Some w.in-Some.name ≡ Some k = sym w.in-Some.is ∙ f in cc) i
    | in_default w ↦ rw w.entries-is (entry_other c.args.names.now.previous c.loop-place.place
        (get nat_cmp c.args.names.now.last k) (slice_get c.args.entries.now k) _ i
        (λ e. w.in_default.not-Some k ((c.last_marked_at.ensures k).1 e)))
  ];
}
