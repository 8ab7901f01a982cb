-- A number that stands for a walk, as a body by itself.
use Rattle.std.proofs.Common.{◌≡◌, ℕ, ◌≤◌, List, [], length, refl, ap, ◌∙◌}
use Rattle.hir_store.specs.Stored.{Stored, store_of, map_of}
use Rattle.hir_store.specs.declared.ids.ExprId.{ExprId}
use Rattle.thm_logic.proofs.Frames.{Frame, scopes, Falls}
use Rattle.spec_semantics.specs.Run.{Value, Outcome, value, break, continue, leave}
use Rattle.spec_semantics.specs.Syntax.{SyntaxBody, SyntaxRun}
use Rattle.spec_semantics.specs.Store.{JumpLabel, RunTable, new_table, run_store, stored_body}
use Rattle.spec_semantics.specs.Jumps.{Enclosed, EnclosedTo}
use Rattle.spec_semantics.specs.Same.{SameRun, SameBody, ending_of, begin_with}
use Rattle.thm_semantics.specs.Headline.{body_to}
use Rattle.thm_semantics.proofs.From.{SameFrom}
use Rattle.thm_semantics.proofs.Views.{numbers, view}
use Rattle.thm_semantics.proofs.Senses.{Base}
use Rattle.thm_semantics.proofs.Senses.{Walk, run_in, one, Goes}

ending_view : (ps : List Frame) (o : Outcome JumpLabel Value) → ending_of o ≡ ending_of (view ps o)
ending_view ps (value v) = refl
ending_view ps (break j v) = refl
ending_view ps (continue j) = refl
ending_view ps (leave x) = refl

-- a walk inside these frames, as a body
abbrev pub walked : Walk Value → List Frame → SyntaxBody
walked x ps = record { table = tt; run = λ fuel. x fuel (scopes ps) }

pub runs_at : {base : Base} {nodes : ℕ} {x : Walk Value} {final : Stored} {i : ExprId} (ps : List Frame) (d : ℕ)
    → Goes base nodes one x final ps i → nodes ≤ d → Falls base.labels ps → SameRun (body_to final d i) (walked x ps)
runs_at {final = final} {i = i} ps d h le f = record {
  events = λ fuel answers. let a = (h.same fuel d le f).same (begin_with new_table answers) in ap (λ w. w.events) a.world;
  endings = λ fuel answers. let w = begin_with new_table answers in let a = (h.same fuel d le f).same w in
      ending_view ps (run_in final d fuel i w).0 ∙ ap ending_of a.outcome;
}

-- inside frames that have no label, as a body and the inside of a barrier have none around them
pub body_is : {base : Base} {nodes : ℕ} {x : Walk Value} {final : Stored} {i : ExprId} (ps : List Frame)
    → Goes base nodes one x final ps i → nodes ≤ length final.exprs.entries → Falls base.labels ps → numbers ps ≡ []
    → SameBody (store_of final) (stored_body (store_of final) (map_of final) i) i (walked x ps)
unfolding run_store Enclosed
body_is {final = final} ps h le f none = record {
  runs = runs_at ps (length final.exprs.entries) h le f;
  jumps = rw (← none) (h.jumps (length final.exprs.entries) le);
}

-- that begins with this table
pub body_from : {x : ℕ → SyntaxRun Value} (final : Stored) {i : ExprId} (table : RunTable) (ps : List Frame)
    → ((fuel : ℕ) → SameFrom table ps (run_in final (length final.exprs.entries) fuel i) (x fuel))
    → EnclosedTo (store_of final) (length final.exprs.entries) [] i
    → SameBody (store_of final) (record { table = table; run = run_store (store_of final) (map_of final) i }) i
    (record { table = tt; run = x })
unfolding run_store Enclosed
body_from final {i = i} table ps same jumps = record {
  runs = record {
    events = λ fuel answers. let a = (same fuel).same (begin_with table answers) (λ k. refl) in ap (λ w. w.events) a.world;
    endings = λ fuel answers. let w = begin_with table answers in let a = (same fuel).same w (λ k. refl) in
        ending_view ps (run_in final (length final.exprs.entries) fuel i w).0 ∙ ap ending_of a.outcome;
  };
  jumps = jumps;
}
