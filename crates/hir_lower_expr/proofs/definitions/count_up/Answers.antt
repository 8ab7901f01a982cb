use Rattle.std.proofs.Common.{arith, ◌≡◌, ◌+◌, ◌∙◌, ap, cond, suc, Some}
use Rattle.std.specs.BTreeMap.{is_at}
use Rattle.std.specs.Map.{lookup}
use Rattle.hir_store.specs.NameOrder.{name_cmp}
use Rattle.hir_lower_expr.proofs.DefinitionLemmas.{counts_more}
use Rattle.hir_lower_expr.proofs.definitions.count_up.Goals as goal

pub returns : goal.returns
returns c =
    let was = c.args.counts.now.entries in
    let next : c.args.before + 1 ≡ suc c.args.before = omega arith in
    λ d counts same. counts_more was c.insert.new.self.entries c.args.name c.args.before d
    (λ q. c.in_ok-insert.ensures.updates.0 q
    ∙ ap (λ n. cond (is_at (name_cmp c.args.name) q) (Some n) (lookup (is_at (name_cmp q)) was)) next) counts same
