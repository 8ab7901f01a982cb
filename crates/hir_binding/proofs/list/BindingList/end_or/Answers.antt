use Rattle.std.proofs.Common.{◌≡◌, Some, sym, ◌∙◌, ap, arith}
use Rattle.std.specs.BTreeMap.{get}
use Rattle.std.specs.Ordering.{nat_cmp}
use Rattle.hir_binding.specs.declared.list.BindingList.{BindingList}
use Rattle.hir_binding.specs.Bindings.{tracked, seen_at}
use Rattle.hir_binding.proofs.Loops.{is_seen}
use Rattle.hir_binding.proofs.Lists.{seen_step, seen_not, before_end}
use Rattle.std.proofs.lemmas.Option.{slice_get_within}
use Rattle.hir_binding.proofs.list.BindingList.end_or.Goals.{in-Some+in_ok-see, in_default}
use Rattle.hir_binding.proofs.list.BindingList.end_or.Goals as goal

pub see-requires : goal.see-requires
see-requires c = c.loop-place.invariant.known c.in-Some.name (is_seen c.close-names.result.previous c.close-names.result.start
    c.loop-place.place (get nat_cmp c.close-names.result.last c.in-Some.name) ((c.last_marked_at.ensures c.in-Some.name).0 c.in-Some.is))

pub loop-place-preserved : goal.loop-place-preserved
loop-place-preserved c = elim c.match-last_marked_at.branch [
  | in-Some+in_ok-see w ↦ record {
    tracked = λ k.
        seen_step c.loop-place.place w.in-Some.name k (get nat_cmp c.close-names.result.last k) (tracked c.close-names.new.self k)
        (tracked c.loop-place.self k) (tracked c.match-last_marked_at.self k)
        (ap (λ (b : BindingList). tracked b k) w.self-is ∙ w.in_ok-see.ensures.tracked k) (c.loop-place.invariant.tracked k)
        (λ e. rw (← e) ((c.last_marked_at.ensures w.in-Some.name).0 w.in-Some.is))
        (λ e. let f = (c.last_marked_at.ensures k).1 e in let g : Some w.in-Some.name ≡ Some k = sym w.in-Some.is ∙ f in cc);
    known = λ k h. let i = c.loop-place.invariant.known k h in let e = w.in_ok-see.ensures.count in rw w.self-is (omega arith);
    count = rw w.self-is (w.in_ok-see.ensures.count ∙ c.loop-place.invariant.count);
    depth = rw w.self-is (w.in_ok-see.ensures.depth ∙ c.loop-place.invariant.depth);
  }
  | in_default w ↦ record {
    tracked = λ k. ap (λ (b : BindingList). tracked b k) w.self-is ∙ seen_not c.loop-place.place k (get nat_cmp c.close-names.result.last k)
        (tracked c.close-names.new.self k) (tracked c.loop-place.self k) (c.loop-place.invariant.tracked k)
        (λ e. w.in_default.not-Some k ((c.last_marked_at.ensures k).1 e));
    known = λ k h. rw w.self-is (c.loop-place.invariant.known k h);
    count = rw w.self-is c.loop-place.invariant.count;
    depth = rw w.self-is c.loop-place.invariant.depth;
  }
]

pub returns-clause-tracked : goal.returns-clause-tracked
returns-clause-tracked c = λ k. c.loop-place.invariant.tracked k ∙ (ap (λ b. seen_at b (tracked c.close-names.new.self k))
    (before_end c.close-names.result.marked.items c.loop-place.place c.close-names.result.previous c.close-names.result.start k
    (get nat_cmp c.close-names.result.last k) (let e = c.place_count-place-end.ensures in let f =
    c.close-names.result.marked.ok.0 in omega arith) (λ p e. slice_get_within c.close-names.result.marked.items p k
    (c.close-names.result.placed k p e)))
    ∙ sym (c.close-names.ensures.tracked k))
