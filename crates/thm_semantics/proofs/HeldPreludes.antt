-- What makes a coroutine is a body inside, and so is the coroutine, which begins with its prelude; behind it come those that are inside of
-- it.
use Rattle.std.proofs.Common.{◌≡◌, ◌∙◌, refl, sym, ap, subst, ℕ, zero, suc, ◌+◌, ◌≤◌, List, [], ◌∷◌, ◌++◌, length, map, append-nil, arith}
use Rattle.std.proofs.Common.{Option, Some, None}
use Rattle.hir_store.specs.Stored.{Stored, store_of, map_of}
use Rattle.hir_store.specs.declared.hir.CaptureBy.TheVariants as capture
use Rattle.hir_store.specs.declared.hir.ClosureKind.TheVariants as closure_kind
use Rattle.hir_store.specs.declared.hir.CoroutineKind.{CoroutineKind}
use Rattle.hir_store.specs.declared.hir.CoroutineSource.{CoroutineSource}
use Rattle.hir_store.specs.declared.hir.Statement.{Statement}
use Rattle.hir_store.specs.declared.ids.ExprId.{ExprId}
use Rattle.hir_store.specs.declared.ids.LabelId.{LabelId}
use Rattle.hir_store.specs.declared.ids.PatId.{PatId}
use Rattle.hir_env.specs.ResolvedTree as tree
use Rattle.hir_env.specs.ResolvedTree.{SelfFormal}
use Rattle.spec_data.specs.Data.{PatData, no_type}
use Rattle.spec_data.specs.Reading.{stored_option_type}
use Rattle.hir_lower_builder.specs.declared.preludes.Handed.{Handed}
use Rattle.hir_lower_builder.specs.declared.preludes.Prelude.{Prelude}
use Rattle.hir_lower_builder.specs.Preludes.{no_prelude}
use Rattle.spec_semantics.specs.Inner.{Bodies, InnerBody, all_of, by_itself, handed_to, inners, of_statement}
use Rattle.spec_semantics.specs.Jumps.{EachStatement, EnclosedTo}
use Rattle.spec_semantics.specs.Limits.{stored_inside, written_inner}
use Rattle.spec_semantics.specs.Prelude.{hands_in, hands_in_self}
use Rattle.spec_semantics.specs.Run.{Value, ask, closure}
use Rattle.spec_semantics.specs.Same.{SameBody}
use Rattle.spec_semantics.specs.Store.{RunTable, arguments}
use Rattle.spec_semantics.specs.Syntax.{SyntaxRun, made_coroutine}
use Rattle.thm_round_trip.proofs.Preludes.{BindEach, BindsName}
use Rattle.thm_logic.proofs.Frames.{Falls, Frame, scopes}
use Rattle.thm_logic.proofs.Preludes.{MadeCoroutine}
use Rattle.thm_logic.proofs.Steps.{Mark}
use Rattle.thm_semantics.proofs.Arguments.{ArgumentsIn, Rising, arguments_stand}
use Rattle.thm_semantics.proofs.Body.{body_from, body_is}
use Rattle.thm_semantics.proofs.From.{SameFrom, from_plain_block, from_where}
use Rattle.thm_semantics.proofs.Handing.{DoesEach, number_handed, numbers_handed}
use Rattle.thm_semantics.proofs.HeldArgs.{all_append}
use Rattle.thm_semantics.proofs.Holding.{Holds, SameIn, an_expr, expr_held, inners_in, same_ids}
use Rattle.thm_semantics.proofs.Preludes.{node_runs, run_lets}
use Rattle.thm_semantics.proofs.Relation.{same_ask}
use Rattle.thm_semantics.proofs.Senses.{Base, Goes, Walk, enclosed_at, goes_at, one}
use Rattle.thm_semantics.proofs.Unmade.{made_whole}
use Rattle.thm_semantics.proofs.Views.{numbers}

-- what the parameters are

-- names that bind what is handed in
binds_one : (x : Handed) {final : Stored} (p : PatId) → BindsName x final p → made_whole final p ≡ number_handed x
binds_one x p b = rw (b.here, b.found) refl

pub formals_made : (final : Stored) (is : List PatId) (xs : List Handed) → BindEach final is xs
    → map (made_whole final) is ≡ numbers_handed xs
formals_made final [] [] h = refl
formals_made final (p ∷ is) (x ∷ xs) h = let first = binds_one x p h.0 in let rest = formals_made final is xs h.1 in λ j. first j ∷ rest j
formals_made final [] (x ∷ xs) h = absurd h
formals_made final (p ∷ is) [] h = absurd h

-- nothing is inside of them
holds_none_in : (x : Handed) {final : Stored} (p : PatId) → BindsName x final p → (d : ℕ) → (inners_in final d).pat p ≡ []
unfolding inners
holds_none_in x p b zero = refl
holds_none_in x p b (suc d) = rw b.here refl

abbrev pub NoneIn : Stored → ℕ → List PatId → Type 0
NoneIn final d [] = Unit {0}
NoneIn final d (p ∷ is) = ((inners_in final d).pat p ≡ []) × NoneIn final d is

pub formals_hold : (final : Stored) (is : List PatId) (xs : List Handed) → BindEach final is xs → (d : ℕ) → NoneIn final d is
formals_hold final [] [] h d = tt
formals_hold final (p ∷ is) (x ∷ xs) h d = (holds_none_in x p h.0 d, formals_hold final is xs h.1 d)
formals_hold final [] (x ∷ xs) h d = absurd h
formals_hold final (p ∷ is) [] h d = absurd h

-- a prelude

-- Where the made names of these numbers stand for their arguments, the `let`s do x to what is behind them. What is inside of them is
-- inside of these patterns.
pub record PreludeDoes (final : Stored) (nodes : ℕ) (made : List (Option ℕ)) (is : List PatId) (lets : List Statement)
    (x : SyntaxRun Value → SyntaxRun Value) : Type 0 where
  pub runs : (fuel d : ℕ) → nodes ≤ d → {table : RunTable} {fs : List Frame} → ArgumentsIn table 0 made → (tail : Option ExprId)
      (s : SyntaxRun Value) → SameFrom table fs (run_lets final fuel d [] tail) s
      → SameFrom table fs (run_lets final fuel d lets tail) (x s)
  pub jumps : (ls : List LabelId) (d : ℕ) → nodes ≤ d → EachStatement (EnclosedTo (store_of final) d ls) lets
  pub holds : (d : ℕ) → all_of (of_statement (inners_in final d)) lets ≡ all_of (inners_in final d).pat is

-- What a prelude begins with: `self` bound to itself, where it is a parameter.
pub record SelfDoes (self : SelfFormal) (final : Stored) (nodes : ℕ) (begun : Prelude) : Type 0 where
  pub none : begun.handed ≡ []
  pub runs : (fuel d : ℕ) → nodes ≤ d → {table : RunTable} {fs : List Frame} (rest : List Statement) (tail : Option ExprId)
      (s : SyntaxRun Value) → SameFrom table fs (run_lets final fuel d rest tail) s
      → SameFrom table fs (run_lets final fuel d (begun.lets ++ rest) tail) (hands_in_self self s)
  pub jumps : (ls : List LabelId) (d : ℕ) → nodes ≤ d → (rest : List Statement) → EachStatement (EnclosedTo (store_of final) d ls) rest
      → EachStatement (EnclosedTo (store_of final) d ls) (begun.lets ++ rest)
  pub holds : (d : ℕ) → all_of (of_statement (inners_in final d)) begun.lets ≡ []

-- that of a closure
pub no_self_does : (final : Stored) (nodes : ℕ) → SelfDoes tree.no_self final nodes no_prelude
no_self_does final nodes = record {
  none = refl;
  runs = λ fuel d le rest tail s behind. behind;
  jumps = λ ls d le rest h. h;
  holds = λ d. refl;
}

-- and the parameters behind it
pub prelude_does : {self : SelfFormal} {begun : Prelude} {is : List PatId} {ys : List PatData} {final : Stored} {n : ℕ} {m m' : Mark}
    {l : Prelude} → SelfDoes self final n begun → n ≤ m'.nodes → DoesEach begun is ys final m m' l
    → PreludeDoes final m'.nodes (numbers_handed l.handed) is l.lets (λ s. hands_in_self self (hands_in 0 ys s))
prelude_does {self = self} {begun = begun} {is = is} {ys = ys} {final = final} {m' = m'} b le h =
    subst (λ xs. PreludeDoes final m'.nodes (numbers_handed xs) is _ (λ s. hands_in_self self (hands_in 0 ys s)))
    (sym (h.handed ∙ ap (λ xs. xs ++ h.more) b.none))
    (subst (λ ks. PreludeDoes final m'.nodes (numbers_handed h.more) is ks (λ s. hands_in_self self (hands_in 0 ys s))) (sym h.lets)
    (record {
      runs = λ fuel d ge {table} {fs} given tail s behind. b.runs fuel d (omega (arith, le, ge)) h.new tail (hands_in 0 ys s)
          (subst (λ ks. SameFrom table fs (run_lets final fuel d ks tail) (hands_in 0 ys s)) (append-nil h.new)
          (h.runs fuel d ge 0 given [] tail s behind));
      jumps = λ ls d ge. b.jumps ls d (omega (arith, le, ge)) h.new
          (subst (EachStatement (EnclosedTo (store_of final) d ls)) (append-nil h.new) (h.jumps ls d ge [] tt));
      holds = λ d. let r = inners_in final d in
          all_append (of_statement r) begun.lets h.new ∙ (λ j. b.holds d j ++ h.holds d j);
    }))

-- coroutines

module _ {which : CoroutineKind} {from : CoroutineSource} {lets : List Statement} {body : ExprId} {final : Stored} {qs : List Frame}
    {m m' : Mark} {c : ExprId} (row : MadeCoroutine which from lets body final qs m m' c) where
  -- what makes it
  making_goes : {base : Base} {ps : List Frame}
      → Goes base m'.nodes one (λ fuel ss. ask (made_coroutine which from capture.Ref) [] None) final ps c
  unfolding stored_option_type
  making_goes = goes_at row.made (λ fuel d le f. same_ask (closure (closure_kind.Coroutine which from) capture.Ref [] [] no_type) [] None)
      (λ d le. tt)

  module _ (base : Base) (fs : List Frame) (falls : Falls base.labels fs) (none : numbers fs ≡ []) where
    pub making_is : m'.nodes ≤ length final.exprs.entries
        → SameBody (store_of final) (stored_inside (store_of final) (map_of final) (by_itself c)) c
        (record { table = tt; run = λ fuel. ask (made_coroutine which from capture.Ref) [] None })
    making_is le = body_is {base = base} fs making_goes le falls none

    -- the coroutine, handed the arguments of these parameters
    pub coroutine_is : {x : SyntaxRun Value → SyntaxRun Value} {y : Walk Value} {is : List PatId} (formals : List PatId) (lo : ℕ)
        (made : List (Option ℕ)) → map (made_whole final) formals ≡ made → Rising lo made → PreludeDoes final m.nodes made is lets x
        → Goes base m.nodes one y final fs body → row.left.nodes ≤ length final.exprs.entries
        → SameBody (store_of final) (stored_inside (store_of final) (map_of final) (record { expr = row.block; formals = formals }))
        row.block (record { table = tt; run = λ fuel. x (y fuel (scopes fs)) })
    coroutine_is {x = x} {y = y} formals lo made are rising does h le =
        let table = arguments (store_of final) (map_of final) 0 formals in
        let given = arguments_stand final 0 lo formals made are rising in
        body_from final table fs
        (λ fuel. node_runs row.inside fuel (λ k. SameFrom table fs k (x (y fuel (scopes fs))))
        (λ d ge. from_plain_block (does.runs fuel d ge given (Some body) (y fuel (scopes fs)) (from_where (h.same fuel d ge falls))))
        (length final.exprs.entries) le)
        (enclosed_at row.inside [] (λ d ge. (does.jumps [] d ge, subst (λ ls. EnclosedTo (store_of final) d ls body) none (h.jumps d ge)))
        (length final.exprs.entries) le)

  -- and what is inside of it
  pub coroutine_holds : {x : SyntaxRun Value → SyntaxRun Value} {is : List PatId} (es : Bodies) (formals : List PatId)
      (made : List (Option ℕ)) (b : InnerBody) → PreludeDoes final m.nodes made is lets x
      → SameBody (store_of final) (stored_inside (store_of final) (map_of final) (record { expr = row.block; formals = formals }))
      row.block (written_inner b)
      → ((d : ℕ) → m.nodes + m.entries ≤ d → let r = inners_in final d in SameIn final (all_of r.pat is ++ r.expr body) es)
      → (d : ℕ) → m'.nodes + m'.entries ≤ d → SameIn final (handed_to formals ((inners_in final d).expr c)) (b ∷ es)
  unfolding inners
  coroutine_holds {is = is} es formals made b does first contents d le = at_depth d le
    where
      in_block : Holds an_expr es final qs m row.left row.block
      in_block = expr_held row.inside row.to_block (λ d le. let r = inners_in final d in
          same_ids final es (ap (λ ks. ks ++ r.expr body) (does.holds d)) (contents d le))

      at_depth : (d : ℕ) → m'.nodes + m'.entries ≤ d → SameIn final (handed_to formals ((inners_in final d).expr c)) (b ∷ es)
      at_depth zero le = let next = row.made.next in absurd (omega (arith, le, next))
      at_depth (suc d) le = rw (row.made.number, row.made.here)
          (first, in_block.same d (let next = row.made.next in let more = row.to_end.entries in omega (arith, le, next, more)))
