use Rattle.std.proofs.Common.{refl, subst, sym}
use Rattle.std.proofs.lemmas.List.Elements.{Contains-append_left, Contains-push}
use Rattle.std.specs.List.{Contains}
use Rattle.hir_names.proofs.mentions.add_name.Goals as goal

pub returns-in-None : goal.returns-in-None
returns-in-None c = record { kept = λ r it. it; added = λ reads. absurd (c.in-None.ensures refl reads) }

pub returns-in_ok-push-in-Some : goal.returns-in_ok-push-in-Some
returns-in_ok-push-in-Some c = record {
  kept = λ r it.
      subst (λ rs. Contains rs r) (sym c.in_ok-push-in-Some.ensures.items) (Contains-append_left c.args.names.now.items _ r it);
  added = λ reads. (
    c.in-Some.place,
    subst (λ rs. Contains rs (c.in-Some.place, c.args.expr)) (sym c.in_ok-push-in-Some.ensures.items)
        (Contains-push c.args.names.now.items (c.in-Some.place, c.args.expr)),
  );
}
