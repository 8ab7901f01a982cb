use Rattle.std.proofs.Common.{◌≡◌, ◌+◌, ◌∙◌, ◌++◌, [], ◌∷◌, ap, arith, drop, map, option_map, refl, sym, subst}
use Rattle.std.proofs.lemmas.List.{drop_all, drop_more}
use Rattle.std.proofs.lemmas.Result.{IfOk-weaker}
use Rattle.thm_result_json.specs.Arguments.{all_bindings, args_behind, binding_behind, own_args}
use Rattle.store_json.specs.Entries.{HasEntries}
use Rattle.store_json.proofs.Arguments.{args_out, binding_out}
use Rattle.store_json.proofs.Entry.{entries_more}
use Rattle.store_json.proofs.args.+arguments.Goals as goal

pub write_args-returns : goal.write_args-returns
write_args-returns t c = λ front start s.
    let a = c.args.args.now in
    let inside = c.in_ok-at.ensures front start s in
    let entry = c.in_ok-write_entry.ensures front s.as_many in
    let is = ap (λ xs. (all_bindings (map binding_behind xs) front).0) c.as_slice.ensures ∙ sym (ap (λ r. r.0) (args_out a front)) in
    IfOk-weaker c.next.result _ _ (λ n more.
    subst (λ xs. HasEntries start (xs ++ (args_behind a front).1 ∷ []) n c.write_entry.new.out) is
    (entries_more start _ _ _ _ _ n inside entry more)) c.next.ensures

pub write_owns-loop-binding-init : goal.write_owns-loop-binding-init
write_owns-loop-binding-init t c = λ front start s. (front, s, refl)

pub write_owns-loop-binding-preserved : goal.write_owns-loop-binding-preserved
write_owns-loop-binding-preserved t c = λ front start s.
    let l = c.loop-binding in
    let xs = c.args.bindings.now in
    let x = c.binding-item.result in
    let here : drop l.binding-index xs ≡ x ∷ drop (l.binding-index + 1) xs =
    drop_more xs l.binding-index x (omega arith) ∙ ap (λ y. y ∷ drop (l.binding-index + 1) xs) (sym c.binding-item.is) in
    let i = l.invariant front start s in (
      (binding_behind x i.0).0,
      c.in_ok-at.ensures i.0 start i.1,
      sym (ap (λ ys. (all_bindings (map binding_behind ys) i.0).0) here) ∙ i.2,
    )

pub write_owns-returns : goal.write_owns-returns
write_owns-returns t c = λ front start s.
    let l = c.loop-binding in
    let i = l.invariant front start s in
    let none = ap (λ ys. (all_bindings (map binding_behind ys) i.0).0) (drop_all l.binding-index c.args.bindings.now (omega arith)) in
    subst (λ ys. HasEntries start ys l.at l.out) (sym none ∙ i.2) i.1

pub write_own-returns-in-None : goal.write_own-returns-in-None
write_own-returns-in-None t c = λ front start s.
    let b = c.args.binding.now in
    let none = ap (λ r. r.0) (binding_out b front) ∙ ap (λ o. (own_args (option_map args_behind o) front).0) c.in-None.is in
    subst (λ xs. HasEntries start xs c.args.before c.args.out.now) (sym none) s

pub write_own-returns-in-Some : goal.write_own-returns-in-Some
write_own-returns-in-Some t c = λ front start s.
    let b = c.args.binding.now in
    let some = ap (λ r. r.0) (binding_out b front) ∙ ap (λ o. (own_args (option_map args_behind o) front).0) c.in-Some.is in
    IfOk-weaker c.write_args.result _ _ (λ n h. subst (λ xs. HasEntries start xs n c.write_args.new.out) (sym some) h)
    (c.write_args.ensures front start s)
