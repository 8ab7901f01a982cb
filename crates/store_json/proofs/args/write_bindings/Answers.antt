use Rattle.std.proofs.Common.{◌≡◌, ◌+◌, ◌∙◌, ◌∷◌, ap, arith, drop, map, refl, sym, subst}
use Rattle.std.proofs.lemmas.List.{drop_all, drop_more}
use Rattle.std.proofs.lemmas.Result.{on_ok_weaker}
use Rattle.thm_result_json.specs.Arguments.{all_bindings, binding_behind}
use Rattle.thm_result_json.specs.Codec.{to_items}
use Rattle.thm_result_json.specs.Paths.{flat_binding}
use Rattle.store_json.specs.Append.{AreReadable, with_items}
use Rattle.store_json.proofs.args.write_bindings.Goals as goal

pub loop-binding-init : goal.loop-binding-init
loop-binding-init c = λ front fits. (front, fits, refl, λ h. h, refl)

pub loop-binding-preserved : goal.loop-binding-preserved
loop-binding-preserved c = λ front fits.
    let l = c.loop-binding in
    let xs = c.args.bindings.now in
    let x = c.binding-item.result in
    let here : drop l.binding-index xs ≡ x ∷ drop (l.binding-index + 1) xs =
    drop_more xs l.binding-index x (omega arith) ∙ ap (λ y. y ∷ drop (l.binding-index + 1) xs) (sym c.binding-item.is) in
    let i = l.invariant front fits in
    let now = (binding_behind x i.0).0 in
    let end = sym (c.in_ok-at.ensures i.0 i.1) in
    let done = c.in_ok-write_binding.ensures i.0 end in
    let left = ap (λ ys. to_items flat_binding (all_bindings (map binding_behind ys) i.0).1) here in
    let rest = to_items flat_binding (all_bindings (map binding_behind (drop (l.binding-index + 1) xs)) now).1 in (
      now,
      end,
      ap (with_items rest) done.text ∙ ap (λ ds. with_items ds l.out.tokens) (sym left) ∙ i.2,
      λ later. i.3 (subst AreReadable (sym left) (done.reads, later)),
      done.before ∙ i.4,
    )

pub returns : goal.returns
returns c = λ front fits.
    let l = c.loop-binding in
    let xs = c.args.bindings.now in
    let i = l.invariant front fits in
    let none = ap (λ ys. to_items flat_binding (all_bindings (map binding_behind ys) i.0).1) (drop_all l.binding-index xs (omega arith)) in
    let all = to_items flat_binding (all_bindings (map binding_behind xs) front).1 in
    let opened = c.in_ok-begin_array.ensures in
    on_ok_weaker c.end_array.result (λ e. record {
      text = e ∙ sym (ap (λ ds. with_items ds l.out.tokens) none) ∙ i.2 ∙ ap (with_items all) opened.ok;
      reads = i.3 (subst AreReadable (sym none) tt);
      before = c.end_array.ensures.room.0 ∙ i.4 ∙ opened.room.0;
    }) c.end_array.ensures.ok
