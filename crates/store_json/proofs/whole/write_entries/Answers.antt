use Rattle.std.proofs.Common.{◌≡◌, ◌∙◌, ap, map, refl, rules, sym, subst}
use Rattle.std.proofs.lemmas.Result.{on_ok_weaker}
use Rattle.thm_result_json.specs.Codec.{to_items}
use Rattle.store_json.specs.Append.{AreReadable, with_items}
use Rattle.store_json.proofs.whole.write_entries.Goals as goal

pub loop-entry-init : goal.loop-entry-init
loop-entry-init g c =
    let same : c.into_iter-entry-iterator.result ≡ c.args.entries = search rules in (
      ap (λ es. with_items (to_items g.T.ToJson.codec (map (λ p. p.1) es)) c.begin_array.new.self.tokens) same,
      subst (λ es. AreReadable (to_items g.T.ToJson.codec (map (λ p. p.1) es))) same,
      refl,
    )

pub loop-entry-preserved : goal.loop-entry-preserved
loop-entry-preserved g c =
    let l = c.loop-entry in
    let left = ap (λ es. to_items g.T.ToJson.codec (map (λ p. p.1) es)) c.in-Some.ensures.steps in
    let rest = to_items g.T.ToJson.codec (map (λ p. p.1) c.next.new.self) in
    let done = c.in_ok-write.ensures in (
      ap (with_items rest) done.text ∙ ap (λ ds. with_items ds l.out.tokens) (sym left) ∙ l.invariant.0,
      λ later. l.invariant.1 (subst AreReadable (sym left) (done.reads, later)),
      done.before ∙ l.invariant.2,
    )

pub returns : goal.returns
returns g c =
    let l = c.loop-entry in
    let none = ap (λ es. to_items g.T.ToJson.codec (map (λ p. p.1) es)) c.in-None.ensures.steps.0 in
    let all = to_items g.T.ToJson.codec (map (λ p. p.1) c.args.entries) in
    let opened = c.in_ok-begin_array.ensures in
    on_ok_weaker c.end_array.result (λ e. record {
      text = e ∙ sym (ap (λ ds. with_items ds l.out.tokens) none) ∙ l.invariant.0 ∙ ap (with_items all) opened.ok;
      reads = l.invariant.1 (subst AreReadable (sym none) tt);
      before = c.end_array.ensures.room.0 ∙ l.invariant.2 ∙ opened.room.0;
    }) c.end_array.ensures.ok
