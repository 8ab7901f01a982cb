-- What is stored for an `async` or `gen` closure holds what makes its coroutine, what its types hold, and the coroutine, with what is
-- inside of the patterns of its parameters and of its body.
use Rattle.std.proofs.Common.{◌≡◌, ◌∙◌, refl, sym, ap, subst, ℕ, ◌+◌, ◌≤◌, Bool, List, [], ◌∷◌, ◌++◌, length, append-nil, append_assoc}
use Rattle.std.proofs.Common.{Option, arith}
use Rattle.hir_store.specs.Pointers.{Pointer}
use Rattle.hir_store.specs.Stored.{Stored, store_of, map_of}
use Rattle.hir_store.specs.declared.diagnostics.ExpressionStoreDiagnostics.{ExpressionStoreDiagnostics}
use Rattle.hir_store.specs.declared.hir.CoroutineKind.{CoroutineKind}
use Rattle.hir_store.specs.declared.hir.CoroutineSource.TheVariants as source
use Rattle.hir_store.specs.declared.ids.ExprId.{ExprId}
use Rattle.hir_store.specs.declared.ids.PatId.{PatId}
use Rattle.hir_store.specs.declared.ids.TypeRefId.{TypeRefId}
use Rattle.hir_env.specs.ResolvedTree as tree
use Rattle.hir_env.specs.ResolvedTree.{OptionExpr, Params}
use Rattle.hir_lower_builder.specs.declared.closures.ClosureParams.{ClosureParams}
use Rattle.hir_lower_builder.specs.declared.preludes.Within.{Within}
use Rattle.hir_lower_builder.specs.Forms.{add_param}
use Rattle.hir_lower_builder.specs.Lower.{lower_params, lower_part, no_closure_params, param_form}
use Rattle.hir_lower_builder.specs.Lowering.{Lowering, ◌>>=◌, ◌>>◌, pure, report}
use Rattle.hir_lower_builder.specs.Preludes.{coroutine_closure_form, no_prelude, stored_coroutine_closure}
use Rattle.spec_data.specs.Tops.{params_tops}
use Rattle.spec_semantics.specs.Inner.{Bodies, all_of, bodies_in, handed_to, making_body, of_expr, of_params, of_present, prelude_body}
use Rattle.spec_semantics.specs.Limits.{stored_inside, written_inner}
use Rattle.spec_semantics.specs.Same.{SameBody}
use Rattle.thm_round_trip.proofs.Preludes.{BindEach}
use Rattle.thm_logic.proofs.Frames.{Frame, barrier_at}
use Rattle.thm_logic.proofs.Logic.{grows_trans}
use Rattle.thm_logic.proofs.Steps.{Both, Correct, Mark, Rel, correct_as, correct_bind, correct_both, correct_in_store, correct_pure}
use Rattle.thm_logic.proofs.Steps.{correct_report}
use Rattle.thm_semantics.proofs.Arguments.{Rising}
use Rattle.thm_semantics.proofs.Blocks.{part_walk}
use Rattle.thm_semantics.proofs.CoroutineClosures.{WithinIs, correct_closure_is, hands, tops_data}
use Rattle.thm_semantics.proofs.Handing.{DoesEach, numbers_handed}
use Rattle.thm_semantics.proofs.HeldPreludes.{NoneIn, coroutine_holds, coroutine_is, formals_hold, formals_made, making_is}
use Rattle.thm_semantics.proofs.HeldPreludes.{no_self_does, prelude_does}
use Rattle.thm_semantics.proofs.Holding.{Holds, SameIn, a_pat, a_type, an_expr, expr_held, inners_in, maybe, same_append, same_ids}
use Rattle.thm_semantics.proofs.Induction.{part_fine}
use Rattle.thm_semantics.proofs.Senses.{Runs, base_of, goes_within, one, under_refl, wider_of}

-- parameters

-- one more than there were
pub record ParamApart (done : ClosureParams) (es fs : Bodies) (final : Stored) (ps : List Frame) (m m' : Mark) (l : ClosureParams)
    : Type 0 where
  pub pattern : PatId
  pub type_ref : Option TypeRefId
  pub is : l ≡ add_param done pattern type_ref
  pub pats : (d : ℕ) → m'.nodes + m'.entries ≤ d → SameIn final ((inners_in final d).pat pattern) es
  pub types : (d : ℕ) → m'.nodes + m'.entries ≤ d → SameIn final (of_present (inners_in final d).type type_ref) fs

pub param_apart : {es fs : Bodies} (done : ClosureParams) {p : Lowering PatId} {t : Lowering (Option TypeRefId)}
    → Correct p (Holds a_pat es) → Correct t (Holds (maybe a_type) fs) → Correct (param_form done p t) (ParamApart done es fs)
unfolding param_form
param_apart done hp ht = correct_as
    (correct_bind hp (λ p. correct_bind ht (λ t. correct_pure (add_param done p t))))
    (λ final ps m m' l g row. let s = row.second in rw (s.second.is, s.second.still) (record {
      pattern = row.one;
      type_ref = s.one;
      is = refl;
      pats = λ d le. row.first.same d (omega (le, s.before.nodes, s.before.entries, arith));
      types = s.first.same;
    }))

-- these behind those that there were, what is inside of their patterns and what is inside of their types
pub record ParamsApart (done : ClosureParams) (es fs : Bodies) (final : Stored) (ps : List Frame) (m m' : Mark) (l : ClosureParams)
    : Type 0 where
  pub new_args : List PatId
  pub new_types : List (Option TypeRefId)
  pub args : l.args ≡ done.args ++ new_args
  pub arg_types : l.arg_types ≡ done.arg_types ++ new_types
  pub pats : (d : ℕ) → m'.nodes + m'.entries ≤ d → SameIn final (all_of (inners_in final d).pat new_args) es
  pub types : (d : ℕ) → m'.nodes + m'.entries ≤ d → SameIn final (all_of (of_present (inners_in final d).type) new_types) fs

pub apart_none : (done : ClosureParams) → Correct (pure done) (ParamsApart done [] [])
apart_none done = correct_as (correct_pure done) (λ final ps m m' l g row. record {
  new_args = [];
  new_types = [];
  args = ap (λ k. k.args) row.is ∙ sym (append-nil done.args);
  arg_types = ap (λ k. k.arg_types) row.is ∙ sym (append-nil done.arg_types);
  pats = λ d le. tt;
  types = λ d le. tt;
})

-- a disabled one leaves a fault
pub apart_skip : {es fs : Bodies} (done : ClosureParams) (fault : ExpressionStoreDiagnostics) {q : ClosureParams → Lowering ClosureParams}
    → ((k : ClosureParams) → Correct (q k) (ParamsApart k es fs)) → Correct ((report fault >> pure done) >>= q) (ParamsApart done es fs)
apart_skip {es = es} {fs = fs} done fault h = correct_as
    (correct_bind (correct_bind (correct_report fault) (λ u. correct_pure done)) h)
    (λ final ps m m' l g row.
    let rest = subst (λ k. ParamsApart k es fs final ps row.middle m' l) row.first.second.is row.second in record {
      new_args = rest.new_args;
      new_types = rest.new_types;
      args = rest.args;
      arg_types = rest.arg_types;
      pats = rest.pats;
      types = rest.types;
    })

pub apart_more : {es fs es' fs' : Bodies} (done : ClosureParams) {p : Lowering ClosureParams} {q : ClosureParams → Lowering ClosureParams}
    → Correct p (ParamApart done es fs) → ((k : ClosureParams) → Correct (q k) (ParamsApart k es' fs'))
    → Correct (p >>= q) (ParamsApart done (es ++ es') (fs ++ fs'))
apart_more {es = es} {fs = fs} {es' = es'} {fs' = fs'} done hp hq = correct_as (correct_bind hp hq) (λ final ps m m' l g row.
    let x = row.first in
    let rest = subst (λ k. ParamsApart k es' fs' final ps row.middle m' l) x.is row.second in record {
      new_args = x.pattern ∷ rest.new_args;
      new_types = x.type_ref ∷ rest.new_types;
      args = rest.args ∙ append_assoc done.args (x.pattern ∷ []) rest.new_args;
      arg_types = rest.arg_types ∙ append_assoc done.arg_types (x.type_ref ∷ []) rest.new_types;
      pats = λ d le. let r = inners_in final d in same_append final (r.pat x.pattern) (all_of r.pat rest.new_args) es es'
          (x.pats d (omega (le, row.after.nodes, row.after.entries, arith))) (rest.pats d le);
      types = λ d le. let r = inners_in final d in
          same_append final (of_present r.type x.type_ref) (all_of (of_present r.type) rest.new_types) fs fs'
          (x.types d (omega (le, row.after.nodes, row.after.entries, arith))) (rest.types d le);
    })

-- the closure

-- where nothing is inside of the patterns, what is inside of the types
types_alone : (final : Stored) (d : ℕ) (is : List PatId) (ts : List (Option TypeRefId)) → NoneIn final d is
    → let r = inners_in final d in of_params r is ts ≡ all_of (of_present r.type) ts
types_alone final d [] ts h = refl
types_alone final d (p ∷ is) [] h = let r = inners_in final d in ap (λ ks. ks ++ of_params r is []) h.0 ∙ types_alone final d is [] h.1
types_alone final d (p ∷ is) (t ∷ ts) h = let r = inners_in final d in
    ap (λ ks. (ks ++ of_present r.type t) ++ of_params r is ts) h.0 ∙ ap (λ ks. of_present r.type t ++ ks) (types_alone final d is ts h.1)

-- its coroutine, handed what its arguments are handed to
abbrev pub coroutine_bodies : Params → OptionExpr → Bodies → Bodies
coroutine_bodies xs e es = prelude_body tree.no_self (params_tops xs) e ∷ (es ++ bodies_in e)

-- what is so of its body
abbrev BodyRel : OptionExpr → Rel ExprId
BodyRel e = Both (Runs one (part_walk e)) (Holds an_expr (bodies_in e))

abbrev PartsRel : CoroutineKind → Params → OptionExpr → Bodies → Bodies → Bodies → Rel Within
PartsRel which xs e es fs ts = WithinIs which xs (ParamsApart no_closure_params es fs) (Holds (maybe a_type) ts) (BodyRel e)

module _ (which : CoroutineKind) (xs : Params) (e : OptionExpr) (es fs ts : Bodies) (final : Stored) (ps : List Frame) (m m' : Mark)
    (w : Within) (x : PartsRel which xs e es fs ts final (barrier_at ∷ ps) m m' w) (stored : m'.nodes ≤ length final.exprs.entries)
    (formals : List PatId) (binds : BindEach final formals w.handed) where
  abbrev parts_hand : DoesEach no_prelude x.params.args (tops_data xs) final x.after_body x.after_prelude x.prelude
  parts_hand = hands which xs (ParamsApart no_closure_params es fs) (Holds (maybe a_type) ts) (BodyRel e) x

  -- it runs as written: nothing that is open around the barrier is in its frames
  runs_inside : SameBody (store_of final)
      (stored_inside (store_of final) (map_of final) (record { expr = x.made.rel.block; formals = formals })) x.made.rel.block
      (written_inner (prelude_body tree.no_self (params_tops xs) e))
  runs_inside =
      let all = parts_hand in
      let made = x.made.rel in
      let same : numbers_handed w.handed ≡ numbers_handed x.prelude.handed = ap (λ z. numbers_handed z.handed) x.is in
      coroutine_is made (base_of x.after_ret) (barrier_at ∷ ps) tt refl formals x.after_body.names (numbers_handed x.prelude.handed)
      (formals_made final formals w.handed binds ∙ same)
      (subst (λ hs. Rising x.after_body.names (numbers_handed hs)) (sym all.handed) all.rising)
      (prelude_does (no_self_does final x.after_prelude.nodes) (omega arith) all)
      (goes_within (wider_of (under_refl (base_of x.after_ret)) x.to_prelude.nodes) x.in_body.rel.one)
      (omega (arith, stored, made.to_end.nodes))

  contents_inside : (d : ℕ) → x.after_prelude.nodes + x.after_prelude.entries ≤ d
      → let r = inners_in final d in SameIn final (all_of r.pat x.params.args ++ r.expr x.body) (es ++ bodies_in e)
  contents_inside d le =
      let r = inners_in final d in
      let apart = x.in_params.rel.other in
      let far = grows_trans x.to_ret (grows_trans x.to_body x.to_prelude) in
      same_append final (all_of r.pat x.params.args) (r.expr x.body) es (bodies_in e)
      (same_ids final es (ap (all_of r.pat) apart.args) (apart.pats d (omega (arith, le, far.nodes, far.entries))))
      (x.in_body.rel.other.same d (omega (arith, le, x.to_prelude.nodes, x.to_prelude.entries)))

  inside_coroutine : (d : ℕ) → m'.nodes + m'.entries ≤ d
      → SameIn final (handed_to formals ((inners_in final d).expr x.coroutine)) (coroutine_bodies xs e es)
  inside_coroutine d le = coroutine_holds x.made.rel (es ++ bodies_in e) formals (numbers_handed x.prelude.handed)
      (prelude_body tree.no_self (params_tops xs) e) (prelude_does (no_self_does final x.after_prelude.nodes) (omega arith) parts_hand)
      runs_inside contents_inside d le

  -- what is inside of the types
  inside_types : (d : ℕ) → m'.nodes + m'.entries ≤ d → let r = inners_in final d in
      SameIn final (of_params r formals x.params.arg_types ++ (of_present r.type x.ret ++ handed_to formals (r.expr x.coroutine)))
      (fs ++ (ts ++ coroutine_bodies xs e es))
  inside_types d le =
      let r = inners_in final d in
      let apart = x.in_params.rel.other in
      let none = formals_hold final formals w.handed binds d in
      let near = grows_trans x.to_body (grows_trans x.to_prelude x.to_end) in
      let far = grows_trans x.to_ret near in
      same_append final (of_params r formals x.params.arg_types) (of_present r.type x.ret ++ handed_to formals (r.expr x.coroutine))
      fs (ts ++ coroutine_bodies xs e es)
      (same_ids final fs (types_alone final d formals x.params.arg_types none ∙ ap (all_of (of_present r.type)) apart.arg_types)
      (apart.types d (omega (arith, le, far.nodes, far.entries))))
      (same_append final (of_present r.type x.ret) (handed_to formals (r.expr x.coroutine)) ts (coroutine_bodies xs e es)
      (x.in_ret.rel.same d (omega (arith, le, near.nodes, near.entries)))
      (inside_coroutine d le))

  -- and what makes it
  inside_closure : (moves : Bool) (d : ℕ) → m'.nodes + m'.entries ≤ d
      → SameIn final (of_expr (inners_in final d) (stored_coroutine_closure which moves formals w))
      (making_body which source.Closure ∷ (fs ++ (ts ++ coroutine_bodies xs e es)))
  inside_closure moves d le =
      subst (λ z. SameIn final (of_expr (inners_in final d) (stored_coroutine_closure which moves formals z))
      (making_body which source.Closure ∷ (fs ++ (ts ++ coroutine_bodies xs e es)))) (sym x.is)
      (making_is x.made.rel (base_of m) (barrier_at ∷ ps) tt refl stored, inside_types d le)

pub coroutine_closure_held : {es fs ts : Bodies} (at : Pointer) (which : CoroutineKind) (moves : Bool) (xs : Params) (e : OptionExpr)
    {t : Lowering (Option TypeRefId)} → Correct (lower_params no_closure_params xs) (ParamsApart no_closure_params es fs)
    → Correct t (Holds (maybe a_type) ts) → Correct (lower_part e) (Holds an_expr (bodies_in e))
    → Correct (coroutine_closure_form at which moves (lower_params no_closure_params xs) t (lower_part e))
    (Holds an_expr (making_body which source.Closure ∷ (fs ++ (ts ++ coroutine_bodies xs e es))))
coroutine_closure_held {es = es} {fs = fs} {ts = ts} at which moves xs e hp ht h = correct_as
    (correct_in_store (correct_closure_is which xs (ParamsApart no_closure_params es fs) (Holds (maybe a_type) ts) (BodyRel e) at moves
    hp ht (correct_both (part_fine e) h)))
    (λ final ps m m' i g stored. let row = stored.rel in let f = row.in_formals in
    expr_held row.made row.to_end (λ d le.
    subst (λ is. SameIn final (of_expr (inners_in final d) (stored_coroutine_closure which moves is row.within))
    (making_body which source.Closure ∷ (fs ++ (ts ++ coroutine_bodies xs e es)))) (sym f.ids)
    (inside_closure which xs e es fs ts final ps m row.left row.within row.in_within
    (omega (arith, stored.nodes, row.to_handed.nodes, row.to_end.nodes)) f.new f.binds moves d
    (omega (arith, le, row.to_handed.nodes, row.to_handed.entries)))))
