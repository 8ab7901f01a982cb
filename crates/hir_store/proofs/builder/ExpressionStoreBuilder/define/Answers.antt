use Rattle.std.proofs.lemmas.Grind.{common_steps}
use Rattle.std.proofs.Common.{subst, sym, arith}
use Rattle.hir_store.specs.declared.builder.ExpressionStoreBuilder.TheView.{view}
use Rattle.hir_store.specs.Bindings.{with_definition}
use Rattle.hir_store.specs.Stored.{Stored}
use Rattle.hir_store.specs.Range.{HasPat}
use Rattle.hir_store.specs.StoreSink.{Extends, define}
use Rattle.hir_store.proofs.Extending.{extends_definition, extends_refl}
use Rattle.hir_store.proofs.Range.{range_definition}
use Rattle.hir_store.proofs.builder.ExpressionStoreBuilder.define.Goals as goal

pub invariant_of-self-2 : goal.invariant_of-self-2
invariant_of-self-2 c =
    let s : Stored = view c.self.inside in
    let P : Stored → Type 0 = λ v. HasPat v c.args.pat in
    rw c.in_ok-define.ensures.ok
    (range_definition s c.args.binding c.args.pat c.self.invariant (subst P (sym c.self.view_is) c.requires.1))

pub returns-clause-stays : goal.returns-clause-stays
returns-clause-stays c =
    let s : Stored = view c.self.inside in
    let P : Stored → Type 0 = λ v. Extends v (record s { bindings = with_definition s.bindings c.args.binding c.args.pat }) in
    rw c.in_ok-define.ensures.ok (subst P c.self.view_is (extends_definition s c.args.binding c.args.pat))

pub returns-in_err-define-clause-stays : goal.returns-in_err-define-clause-stays
returns-in_err-define-clause-stays c =
    let s : Stored = view c.self.inside in
    let P : Stored → Type 0 = λ v. Extends v s in
    rw c.in_err-define.ensures.unchanged (subst P c.self.view_is (extends_refl s))

pub invariant_of-self : goal.invariant_of-self
unfolding define
invariant_of-self c = grind (arith, common_steps, extends_definition)

pub returns-clause-stored : goal.returns-clause-stored
unfolding define
returns-clause-stored c = grind (arith, common_steps, extends_definition)

pub define-requires : goal.define-requires
unfolding define
define-requires c = grind (arith, common_steps, extends_definition)
