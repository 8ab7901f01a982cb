use Rattle.std.proofs.Common.{◌∙◌, ap, sym, get_or, arith}
use Rattle.std.specs.Prelude.{option_map}
use Rattle.std.specs.List.{position_or_len}
use Rattle.std.specs.Map.{keys_of, lookup}
use Rattle.std.proofs.lemmas.Grind.{common_steps}
use Rattle.hir_store.proofs.KeyLemmas.{found_at, is_found, nothing_found, numbered, corresponds}
use Rattle.hir_store.proofs.keyed.Keyed.find.Goals as goal

pub returns-in_err-number-clause-value : goal.returns-in_err-number-clause-value
returns-in_err-number-clause-value g c =
    let nothing = nothing_found g.K.Ord.cmp g.met.K.Ord.total g.K.PartialEq.eq g.met.K.Ord.matches_eq c.self.inside.entries.items
    c.self.inside.places.entries c.self.invariant c.args.key.now (sym c.in_err-number.ensures.value) in
    ap (option_map (λ found. found.1)) c.from_residual.ensures
    ∙ (sym nothing ∙ ap (lookup (g.K.PartialEq.eq c.args.key.now)) c.self.view_is)

pub returns-in_err-value-clause-value : goal.returns-in_err-value-clause-value
returns-in_err-value-clause-value g c =
    let within = corresponds g.K.Ord.cmp g.met.K.Ord.total g.K.PartialEq.eq g.met.K.Ord.matches_eq c.self.inside.entries.items
    c.self.inside.places.entries c.self.invariant c.args.key.now c.in_ok-number.field-0.now (sym c.in_ok-number.ensures.value) in
    grind (arith, common_steps, within, c.in_err-value.ensures.lookup, c.deref.ensures.value)

pub returns-clause-value : goal.returns-clause-value
returns-clause-value g c =
    let es = c.self.inside.entries.items in
    let places = c.self.inside.places.entries in
    let number = c.in_ok-number.field-0.now in
    let found = c.in_ok-value.field-0.now in
    let is = sym c.in_ok-number.ensures.value in
    let at_number = c.in_ok-value.ensures.lookup.1 ∙ ap (λ xs. get_or xs number found) c.deref.ensures.value in
    let within = corresponds g.K.Ord.cmp g.met.K.Ord.total g.K.PartialEq.eq g.met.K.Ord.matches_eq es places c.self.invariant c.args.key.now
    number is in
    let is_value = is_found g.K.Ord.cmp g.met.K.Ord.total g.K.PartialEq.eq g.met.K.Ord.matches_eq es places c.self.invariant c.args.key.now
    number is in
    sym (found_at es number found within at_number) ∙ (sym is_value ∙ ap (lookup (g.K.PartialEq.eq c.args.key.now)) c.self.view_is)

pub returns-clause-number : goal.returns-clause-number
returns-clause-number g c =
    let there = numbered g.K.Ord.cmp g.K.PartialEq.eq g.met.K.Ord.matches_eq c.self.inside.entries.items c.args.key.now 0
    c.in_ok-number.field-0.now (sym (c.self.invariant c.args.key.now) ∙ sym c.in_ok-number.ensures.value) in
    omega (arith, there, ap (λ es. position_or_len (g.K.PartialEq.eq c.args.key.now) (keys_of es)) c.self.view_is)
