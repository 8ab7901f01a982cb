use Rattle.std.proofs.lemmas.Grind.{common_steps}
use Rattle.std.proofs.Common.{arith, ◌≡◌, ◌<◌, ◌-◌, ◌∙◌, List, None, Option, Some, ap, length, map, subst, sym, take, vec_len}
use Rattle.std.specs.Prelude.{slice_get, slice_set}
use Rattle.hir_store.specs.Bindings.{own_from, unowned_from}
use Rattle.hir_store.specs.declared.ids.BindingId.{BindingId}
use Rattle.hir_store.specs.declared.ids.ExprId.{ExprId}
use Rattle.hir_store.proofs.OwnerLemmas.{fewer, found, nothing_left, number}
use Rattle.hir_store.proofs.bindings.Owning.own_last.Goals as goal

pub returns-in_default-clause-none : goal.returns-in_default-clause-none
returns-in_default-clause-none c =
    let i = c.self.inside in
    let Last : List BindingId → Type 0 = λ xs. slice_get xs (length xs - 1) ≡ None in
    let is = subst Last c.deref.ensures.value (sym c.in_default.ensures.value) in
    let P : List (Option ExprId) → Type 0 = λ v. v ≡ own_from c.args.start.0 c.args.owner v in
    λ e. subst P c.self.view_is (sym (nothing_left c.args.owner i.owners.items i.unowned.items c.self.invariant c.args.start.0 is))

pub returns-then-last-start-clause-none : goal.returns-then-last-start-clause-none
returns-then-last-start-clause-none c =
    let i = c.self.inside in
    let last = c.in-Some.last.now in
    let Last : List BindingId → Type 0 = λ xs. slice_get xs (length xs - 1) ≡ Some last in
    let is = subst Last c.deref.ensures.value (sym c.in-Some.ensures.value) in
    let at = found c.args.owner i.owners.items i.unowned.items c.self.invariant last is in
    let P : List (Option ExprId) → Type 0 = λ v. v ≡ own_from c.args.start.0 c.args.owner v in
    λ e. subst P c.self.view_is (sym (at.behind c.args.start.0 c.if-last-start.true))

pub index_mut-requires : goal.index_mut-requires
index_mut-requires c =
    let i = c.self.inside in
    let last = c.in-Some.last.now in
    let Last : List BindingId → Type 0 = λ xs. slice_get xs (length xs - 1) ≡ Some last in
    let is = subst Last c.deref.ensures.value (sym c.in-Some.ensures.value) in
    let below = (found c.args.owner i.owners.items i.unowned.items c.self.invariant last is).below in
    let len = i.owners.ok.0 in
    omega (arith, below, len)

pub invariant_of-self : goal.invariant_of-self
invariant_of-self c =
    let i = c.self.inside in
    let last = c.in-Some.last.now in
    let Last : List BindingId → Type 0 = λ xs. slice_get xs (length xs - 1) ≡ Some last in
    let is = subst Last c.deref.ensures.value (sym c.in-Some.ensures.value) in
    let at = found c.args.owner i.owners.items i.unowned.items c.self.invariant last is in
    let ok = i.unowned.ok.0 in
    let len : vec_len i.unowned ≡ length i.unowned.items = omega (arith, ok) in
    ap (map number) (c.pop.ensures.rest ∙ ap (λ n. take (n - 1) i.unowned.items) len) ∙ sym at.others

pub returns-clause-same : goal.returns-clause-same
returns-clause-same c =
    let i = c.self.inside in
    let last = c.in-Some.last.now in
    let Last : List BindingId → Type 0 = λ xs. slice_get xs (length xs - 1) ≡ Some last in
    let is = subst Last c.deref.ensures.value (sym c.in-Some.ensures.value) in
    let at = found c.args.owner i.owners.items i.unowned.items c.self.invariant last is in
    λ e. at.same c.args.start.0 c.if-last-start.false ∙ ap (own_from c.args.start.0 c.args.owner) c.self.view_is

pub returns-clause-fewer : goal.returns-clause-fewer
returns-clause-fewer c =
    let i = c.self.inside in
    let last = c.in-Some.last.now in
    let Last : List BindingId → Type 0 = λ xs. slice_get xs (length xs - 1) ≡ Some last in
    let is = subst Last c.deref.ensures.value (sym c.in-Some.ensures.value) in
    let now = slice_set i.owners.items last.0 (Some c.args.owner) in
    let P : List (Option ExprId) → Type 0 = λ v. length (unowned_from 0 now) < length (unowned_from 0 v) in
    λ e. subst P c.self.view_is (fewer c.args.owner i.owners.items i.unowned.items c.self.invariant last is)

pub returns-then-last-start-clause-fewer : goal.returns-then-last-start-clause-fewer
returns-then-last-start-clause-fewer c = grind (arith, common_steps)
