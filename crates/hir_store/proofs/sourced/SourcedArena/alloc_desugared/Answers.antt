use Rattle.std.proofs.lemmas.Grind.{common_steps}
use Rattle.std.proofs.Common.{arith, ◌≡◌, ◌∙◌, ap, length, subst, sym, [], ◌∷◌, ◌++◌, Ok}
use Rattle.hir_store.specs.Arenas.{Sourced, AllocsMade, sourced_of, with_made}
use Rattle.hir_store.specs.Pages.{joined}
use Rattle.hir_store.proofs.Arenas.{kept_made, allocs_made}
use Rattle.hir_store.proofs.sourced.SourcedArena.alloc_desugared.Goals as goal

pub invariant_of-self-2 : goal.invariant_of-self-2
invariant_of-self-2 g c =
    let i = c.self.inside in
    let a : Sourced g.row.T.Denot g.row.T-Id.Denot = sourced_of (joined i.pages.pages.items) i.sources.items i.map i.limit in
    let len : c.len-place.result ≡ length a.entries = c.len-place.ensures ∙ ap (λ v. length v.entries) (sym c.self.view_is) in
    let below = c.if-place-self.false in
    let paged = c.put.ensures.paged in
    let more = c.put.ensures.joined ∙ ap (λ v. v ++ c.args.entry ∷ []) (ap joined c.in_ok-page.ensures.same) in
    rw (
      c.put.ensures.joined,
      c.push_reserved.ensures.items,
      ap joined c.in_ok-page.ensures.same,
      c.in_ok-reserve.ensures.items,
    ) (
      kept_made g.T.Entry.place a c.args.entry c.args.source c.self.invariant.0 (omega (arith, below, len)),
      c.self.invariant.1,
      (paged.0 ∙ ap length more, paged.1),
    )

pub returns-clause-stored : goal.returns-clause-stored
returns-clause-stored g c =
    let i = c.self.inside in
    let a : Sourced g.row.T.Denot g.row.T-Id.Denot = sourced_of (joined i.pages.pages.items) i.sources.items i.map i.limit in
    let len : c.len-place.result ≡ length a.entries = c.len-place.ensures ∙ ap (λ v. length v.entries) (sym c.self.view_is) in
    let below = c.if-place-self.false in
    let P : Sourced g.row.T.Denot g.row.T-Id.Denot → Type 0 = λ v.
    AllocsMade g.T.Entry.number c.args.entry c.args.source v (Ok (g.T.Entry.number (length a.entries)))
    (with_made a c.args.entry c.args.source) in
    rw (
      c.put.ensures.joined,
      c.push_reserved.ensures.items,
      ap joined c.in_ok-page.ensures.same,
      c.in_ok-reserve.ensures.items,
      c.number.ensures,
      len,
    )
    (subst P c.self.view_is (allocs_made g.T.Entry.number a c.args.entry c.args.source (omega (arith, below, len))))

pub returns-then-place-self-clause-stored : goal.returns-then-place-self-clause-stored
returns-then-place-self-clause-stored g c = grind (arith, common_steps)

pub put-requires-clause-room : goal.put-requires-clause-room
put-requires-clause-room g c = grind (arith, common_steps)

pub invariant_of-self : goal.invariant_of-self
invariant_of-self g c = grind (arith, common_steps)

pub invariant_of-self-in_err-reserve : goal.invariant_of-self-in_err-reserve
invariant_of-self-in_err-reserve g c = grind (arith, common_steps)
