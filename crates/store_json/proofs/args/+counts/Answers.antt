use Rattle.std.proofs.Common.{◌≡◌, ◌+◌, ◌∙◌, [], ◌∷◌, ap, arith, drop, length, map, option_map, refl, sym}
use Rattle.std.proofs.lemmas.List.{drop_all, drop_more, length-append}
use Rattle.std.proofs.lemmas.Result.{IfOk-weaker}
use Rattle.thm_result_json.specs.Arguments.{all_bindings, args_behind, binding_behind, own_args}
use Rattle.store_json.proofs.Arguments.{args_out, binding_out}
use Rattle.store_json.proofs.args.+counts.Goals as goal

pub args_end-returns : goal.args_end-returns
args_end-returns t c = λ front fits.
    let a = c.args.args.now in
    let inside = c.in_ok-at.ensures front fits in
    let is = ap (λ xs. (all_bindings (map binding_behind xs) front).0) c.as_slice.ensures ∙ sym (ap (λ r. r.0) (args_out a front)) in
    IfOk-weaker c.next.result _ _ (λ n more.
    omega (arith, more, inside, ap length is, length-append (args_behind a front).0 ((args_behind a front).1 ∷ []))) c.next.ensures

pub bindings_end-loop-binding-init : goal.bindings_end-loop-binding-init
bindings_end-loop-binding-init t c = λ front fits. (front, fits, refl)

pub bindings_end-loop-binding-preserved : goal.bindings_end-loop-binding-preserved
bindings_end-loop-binding-preserved t c = λ front fits.
    let l = c.loop-binding in
    let xs = c.args.bindings.now in
    let x = c.binding-item.result in
    let here : drop l.binding-index xs ≡ x ∷ drop (l.binding-index + 1) xs =
    drop_more xs l.binding-index x (omega arith) ∙ ap (λ y. y ∷ drop (l.binding-index + 1) xs) (sym c.binding-item.is) in
    let i = l.invariant front fits in (
      (binding_behind x i.0).0,
      sym (c.in_ok-at.ensures i.0 i.1),
      sym (ap (λ ys. (all_bindings (map binding_behind ys) i.0).0) here) ∙ i.2,
    )

pub bindings_end-returns : goal.bindings_end-returns
bindings_end-returns t c = λ front fits.
    let l = c.loop-binding in
    let i = l.invariant front fits in
    let none = ap (λ ys. (all_bindings (map binding_behind ys) i.0).0) (drop_all l.binding-index c.args.bindings.now (omega arith)) in
    sym i.1 ∙ ap length (sym none ∙ i.2)

pub binding_end-returns-in-None : goal.binding_end-returns-in-None
binding_end-returns-in-None t c = λ front fits.
    let b = c.args.binding.now in
    let none = ap (λ r. r.0) (binding_out b front) ∙ ap (λ o. (own_args (option_map args_behind o) front).0) c.in-None.is in
    sym fits ∙ ap length (sym none)

pub binding_end-returns-in-Some : goal.binding_end-returns-in-Some
binding_end-returns-in-Some t c = λ front fits.
    let b = c.args.binding.now in
    let some = ap (λ r. r.0) (binding_out b front) ∙ ap (λ o. (own_args (option_map args_behind o) front).0) c.in-Some.is in
    IfOk-weaker c.args_end.result _ _ (λ n h. h ∙ ap length (sym some)) (c.args_end.ensures front fits)
