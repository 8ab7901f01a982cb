use Rattle.std.proofs.Common.{◌≡◌, ◌∙◌, ◌-◌, [], ◌∷◌, Some, ap, arith, length, option_map, sym}
use Rattle.std.proofs.lemmas.List.{length-append}
use Rattle.thm_result_json.specs.Arguments.{args_behind, own_args}
use Rattle.store_json.proofs.Arguments.{binding_out}
use Rattle.store_json.proofs.args.own_place.Goals as goal

pub returns-in-None : goal.returns-in-None
returns-in-None c = λ front fits.
    sym (ap (λ r. r.1.args) (binding_out c.args.binding.now front) ∙ ap (λ o. (own_args (option_map args_behind o) front).1) c.in-None.is)

pub returns-in-Some : goal.returns-in-Some
returns-in-Some c = λ front fits.
    let b = c.args.binding.now in
    let a = c.in-Some.field-0 in
    let inside = ap (λ r. r.0) (binding_out b front) ∙ ap (λ o. (own_args (option_map args_behind o) front).0) c.in-Some.is in
    let place : c.args.end - 1 ≡ length (args_behind a front).0 =
    omega (arith, fits, ap length inside, length-append (args_behind a front).0 ((args_behind a front).1 ∷ [])) in
    ap (λ n. Some n) (c.saturating_sub.ensures ∙ place)
    ∙ sym (ap (λ r. r.1.args) (binding_out b front) ∙ ap (λ o. (own_args (option_map args_behind o) front).1) c.in-Some.is)
