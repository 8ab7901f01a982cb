use Rattle.std.proofs.lemmas.Grind.{common_steps}
use Rattle.std.proofs.Common.{◌≡◌, ◌∙◌, ◌++◌, ◌∷◌, [], ap, sym, cond, length, ℕ, Some, arith}
use Rattle.std.specs.Map.{lookup}
use Rattle.std.specs.BTreeMap.{is_at}
use Rattle.indexmap.specs.IndexMap.{insert_entry}
use Rattle.hir_store.specs.Keyed.{place_from, written}
use Rattle.hir_store.proofs.KeyLemmas.{comes_last, is_written, placed_back, placed_more, placed_still, corresponds}
use Rattle.hir_store.proofs.keyed.Keyed.insert.Goals as goal

pub write-requires : goal.write-requires
write-requires g c =
    let is = ap (λ key. lookup (is_at (g.K.Ord.cmp key)) c.self.inside.places.entries) (sym c.requires)
    ∙ (sym c.in_ok-place.ensures.old ∙ c.in-Some.is) in
    let within = corresponds g.K.Ord.cmp g.met.K.Ord.total g.K.PartialEq.eq g.met.K.Ord.matches_eq c.self.inside.entries.items
    c.self.inside.places.entries c.self.invariant c.args.key c.in-Some.place is in
    omega (arith, within, ap length c.reserve.ensures.items)

pub invariant_of-self-in-Some : goal.invariant_of-self-in-Some
invariant_of-self-in-Some g c = λ q.
    let es = c.self.inside.entries.items in
    let old = c.self.inside.places.entries in
    let is = ap (λ key. lookup (is_at (g.K.Ord.cmp key)) old) (sym c.requires) ∙ (sym c.in_ok-place.ensures.old ∙ c.in-Some.is) in
    let first = λ (q : g.row.K.Denot). c.in_ok-place.ensures.updates.0 q
    ∙ ap (λ key. cond (is_at (g.K.Ord.cmp key) q) (Some c.len.result) (lookup (is_at (g.K.Ord.cmp q)) old)) c.requires in
    let placed = placed_back g.K.Ord.cmp g.met.K.Ord.total g.K.PartialEq.eq g.met.K.Ord.matches_eq es old c.self.invariant c.args.key
    c.in-Some.place is c.insert.new.self.entries c.insert-in-Some.new.self.entries c.len.result first c.in_ok-insert.ensures.updates.0 in
    placed_still g.K.Ord.cmp g.met.K.Ord.total g.K.PartialEq.eq g.met.K.Ord.matches_eq es c.insert-in-Some.new.self.entries placed
    c.in-Some.place c.args.value q
    ∙ ap (λ xs. place_from g.K.Ord.cmp 0 xs q)
    (sym (c.write.ensures ∙ ap (λ xs. written xs c.in-Some.place c.args.value) c.reserve.ensures.items))

pub returns-in-Some-clause-ok : goal.returns-in-Some-clause-ok
returns-in-Some-clause-ok g c =
    let es = c.self.inside.entries.items in
    let old = c.self.inside.places.entries in
    let is = ap (λ key. lookup (is_at (g.K.Ord.cmp key)) old) (sym c.requires) ∙ (sym c.in_ok-place.ensures.old ∙ c.in-Some.is) in
    let is_there = is_written g.K.Ord.cmp g.met.K.Ord.total g.K.PartialEq.eq g.met.K.Ord.matches_eq es old c.self.invariant c.args.key
    c.in-Some.place is c.args.value in
    c.write.ensures ∙ (ap (λ xs. written xs c.in-Some.place c.args.value) c.reserve.ensures.items
    ∙ (sym is_there ∙ ap (λ xs. insert_entry g.K.PartialEq.eq xs c.args.key c.args.value) c.self.view_is))

pub invariant_of-self-2 : goal.invariant_of-self-2
invariant_of-self-2 g c = λ q.
    let es = c.self.inside.entries.items in
    let old = c.self.inside.places.entries in
    let new = ap (λ key. lookup (is_at (g.K.Ord.cmp key)) old) (sym c.requires) ∙ (sym c.in_ok-place.ensures.old ∙ c.in_default.is) in
    let count : c.len.result ≡ length es = omega (arith, c.len.ensures, ap length c.reserve.ensures.items) in
    let at = λ (k : ℕ) (key : g.row.K.Denot) (q : g.row.K.Denot).
    cond (is_at (g.K.Ord.cmp key) q) (Some k) (lookup (is_at (g.K.Ord.cmp q)) old) in
    let updated = λ (q : g.row.K.Denot).
    c.in_ok-place.ensures.updates.0 q ∙ (ap (λ k. at k c.args.same q) count ∙ ap (λ key. at (length es) key q) c.requires) in
    let items = c.push_reserved.ensures.items ∙ ap (λ xs. xs ++ (c.args.key, c.args.value) ∷ []) c.reserve.ensures.items in
    placed_more g.K.Ord.cmp g.met.K.Ord.total g.K.PartialEq.eq g.met.K.Ord.matches_eq es old c.self.invariant c.args.key c.args.value new
    c.insert.new.self.entries updated q
    ∙ ap (λ xs. place_from g.K.Ord.cmp 0 xs q) (sym items)

pub returns-clause-ok : goal.returns-clause-ok
returns-clause-ok g c =
    let old = c.self.inside.places.entries in
    let new = ap (λ key. lookup (is_at (g.K.Ord.cmp key)) old) (sym c.requires) ∙ (sym c.in_ok-place.ensures.old ∙ c.in_default.is) in
    let last = comes_last g.K.Ord.cmp g.met.K.Ord.total g.K.PartialEq.eq g.met.K.Ord.matches_eq c.self.inside.entries.items old
    c.self.invariant c.args.key new c.args.value in
    c.push_reserved.ensures.items ∙ (ap (λ xs. xs ++ (c.args.key, c.args.value) ∷ []) c.reserve.ensures.items
    ∙ (sym last ∙ ap (λ xs. insert_entry g.K.PartialEq.eq xs c.args.key c.args.value) c.self.view_is))

pub invariant_of-self-in_err-insert : goal.invariant_of-self-in_err-insert
invariant_of-self-in_err-insert g c = grind (arith, common_steps)

pub returns-in_err-insert-clause-err : goal.returns-in_err-insert-clause-err
returns-in_err-insert-clause-err g c = grind (arith, common_steps)

pub invariant_of-self-in_err-place : goal.invariant_of-self-in_err-place
invariant_of-self-in_err-place g c = grind (arith, common_steps)

pub invariant_of-self : goal.invariant_of-self
invariant_of-self g c = grind (arith, common_steps)
