use Rattle.std.proofs.Common.{◌≡◌, ◌∙◌, ap, sym, length, cond, Some}
use Rattle.std.specs.BTreeMap.{is_at, insert_entry}
use Rattle.hir_store.specs.NameOrder.{name_cmp}
use Rattle.hir_lower_scope.specs.Stacks.{number_of}
use Rattle.hir_lower_scope.proofs.StackLemmas.{grown_by}
use Rattle.hir_lower_scope.proofs.stacks.number_for.Goals as goal

pub returns-clause-grown : goal.returns-clause-grown
returns-clause-grown c =
    let n = c.args.name in
    let es = c.args.names.now.entries in
    let last : c.len-number.result ≡ length es = c.len-number.ensures.len in
    grown_by n es c.insert.new.self.entries c.requires (sym c.in_default.ensures.value)
    (c.in_ok-insert.ensures.entries ∙ ap (insert_entry name_cmp es n) last)
    (λ q. c.in_ok-insert.ensures.updates.0 q ∙ ap (λ v. cond (is_at (name_cmp n) q) (Some v) (number_of q es)) last)
