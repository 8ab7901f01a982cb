use Rattle.std.proofs.Common.{arith, ◌∙◌, ap, refl, sym}
use Rattle.hir_walks.specs.Pats.{binding_at, pats_in}
use Rattle.hir_walks.proofs.PatLemmas.{taken_within}
use Rattle.hir_walks.proofs.walks.walk_bindings_in_pat.Goals as goal

pub returns : goal.returns
returns g c =
    let walked = c.in_ok-walk_pats.ensures
    ∙ taken_within (λ b. b.sink.now) (λ b v. record b { sink = record b.sink { now = v } }) g.S.BindingSink.after
    (binding_at c.args.store.now) _ (pats_in c.args.store.now c.args.id) _ refl (λ v i. refl) in
    let same = sym (ap (λ b. b.sink.ghost_name) walked) in
    let new = ap (λ b. b.sink.now) walked in
    grind (arith, same, new)
