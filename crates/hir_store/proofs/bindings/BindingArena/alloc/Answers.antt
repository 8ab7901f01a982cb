use Rattle.std.proofs.Common.{arith, ◌≡◌, ◌∙◌, ap, length, subst, sym, [], ◌∷◌, ◌++◌, Ok}
use Rattle.hir_store.specs.Bindings.{Bindings, AddsBinding, binding_id, bindings_of, with_binding}
use Rattle.hir_store.specs.Pages.{joined}
use Rattle.hir_store.proofs.BindingLemmas.{adds, kept_binding}
use Rattle.hir_store.proofs.bindings.BindingArena.alloc.Goals as goal

pub invariant_of-self-2 : goal.invariant_of-self-2
invariant_of-self-2 c =
    let i = c.self.inside in
    let a : Bindings = bindings_of (joined i.pages.pages.items) i.definitions.items i.owners i.limit in
    let len : c.len-at.result ≡ length a.entries = c.len-at.ensures ∙ ap (λ v. length v.entries) (sym c.self.view_is) in
    let below = c.if-at-self.false in
    let paged = c.put.ensures.paged in
    let more = c.put.ensures.joined ∙ ap (λ v. v ++ c.args.binding ∷ []) (ap joined c.in_ok-page.ensures.same) in
    rw (
      c.put.ensures.joined,
      c.push_reserved.ensures.items,
      ap joined c.in_ok-page.ensures.same,
      c.in_ok-reserve.ensures.items,
      c.in_ok-add.ensures.ok,
      c.new-none.ensures,
    ) (
      kept_binding a c.args.binding c.self.invariant.0 (omega (arith, below, len)),
      c.self.invariant.1,
      (paged.0 ∙ ap length more, paged.1),
    )

pub returns-clause-stored : goal.returns-clause-stored
returns-clause-stored c =
    let i = c.self.inside in
    let a : Bindings = bindings_of (joined i.pages.pages.items) i.definitions.items i.owners i.limit in
    let len : c.len-at.result ≡ length a.entries = c.len-at.ensures ∙ ap (λ v. length v.entries) (sym c.self.view_is) in
    let below = c.if-at-self.false in
    let P : Bindings → Type 0 = λ v.
    AddsBinding c.args.binding v (Ok (binding_id (length a.entries))) (with_binding a c.args.binding) in
    rw (
      c.put.ensures.joined,
      c.push_reserved.ensures.items,
      ap joined c.in_ok-page.ensures.same,
      c.in_ok-reserve.ensures.items,
      c.in_ok-add.ensures.ok,
      c.new-none.ensures,
      len,
    )
    (subst P c.self.view_is (adds a c.args.binding (omega (arith, below, len))))
