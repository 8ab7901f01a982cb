use Rattle.std.proofs.Common.{◌≡◌, ◌∙◌, ap, subst, Bool}
use Rattle.std.specs.Prelude.{IfSome}
use Rattle.std.specs.List.{position_or_len}
use Rattle.std.specs.Map.{keys_of, lookup}
use Rattle.hir_lower_builder.specs.Pats.{Key}
use Rattle.hir_lower_pat.proofs.NameLemmas.{same_keys}
use Rattle.hir_lower_pat.proofs.bindings.Bindings.find.Goals as goal

pub returns-clause-binding : goal.returns-clause-binding
returns-clause-binding c =
    c.find.ensures.value ∙ ap (λ (t : Key → Bool). lookup t c.args.self.now.ids) (λ i y. same_keys c.args.key.now y i)

pub returns-clause-number : goal.returns-clause-number
returns-clause-number c =
    let P = λ (t : Key → Bool). IfSome c.find.result (λ found. found.0 ≡ position_or_len t (keys_of c.args.self.now.ids)) in
    subst P (λ i y. same_keys c.args.key.now y i) c.find.ensures.number
