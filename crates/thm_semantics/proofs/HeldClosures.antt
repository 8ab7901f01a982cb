-- What is stored for a closure holds what its parameters, its type and its body hold, and its body.
use Rattle.std.proofs.Common.{◌≡◌, ◌∙◌, refl, sym, ap, subst, ℕ, ◌+◌, ◌≤◌, Bool, true, false, List, [], ◌∷◌, ◌++◌, map, append-nil}
use Rattle.std.proofs.Common.{append_assoc, Option, arith}
use Rattle.hir_store.specs.Pointers.{Pointer}
use Rattle.hir_store.specs.Stored.{Stored}
use Rattle.hir_store.specs.declared.diagnostics.ExpressionStoreDiagnostics.{ExpressionStoreDiagnostics}
use Rattle.hir_store.specs.declared.ids.ExprId.{ExprId}
use Rattle.hir_store.specs.declared.ids.PatId.{PatId}
use Rattle.hir_store.specs.declared.ids.TypeRefId.{TypeRefId}
use Rattle.hir_env.specs.ResolvedTree.{OptionExpr}
use Rattle.hir_lower_builder.specs.declared.closures.ClosureParams.{ClosureParams}
use Rattle.hir_lower_builder.specs.Forms.{add_param, closure_kind}
use Rattle.hir_lower_builder.specs.Lower.{closure_form, lower_part, no_closure_params, param_form}
use Rattle.hir_lower_builder.specs.Lowering.{Lowering, ◌>>=◌, ◌>>◌, pure, report}
use Rattle.spec_semantics.specs.Inner.{Bodies, Inners, all_of, bodies_in, by_itself, constant_body, of_closure, of_params, of_present}
use Rattle.thm_logic.proofs.Barriers.{correct_closure}
use Rattle.thm_logic.proofs.Frames.{Frame, barrier_at}
use Rattle.thm_logic.proofs.Steps.{Mark, Correct, correct_as, correct_bind, correct_both, correct_in_store, correct_pure, correct_report}
use Rattle.thm_semantics.proofs.Body.{body_is}
use Rattle.thm_semantics.proofs.Holding.{Holds, Ids, SameIn, a_pat, a_type, an_expr, expr_held, inners_in, maybe, same_append, same_ids}
use Rattle.thm_semantics.proofs.Induction.{part_fine}

-- a parameter: what is in its pattern, and what is in its type
abbrev pub Param : Type 0
Param = PatId × Option TypeRefId

abbrev pub a_param : Ids Param
a_param r x = r.pat x.0 ++ of_present r.type x.1

-- one more than there were
pub record ParamHeld (done : ClosureParams) (es : Bodies) (final : Stored) (ps : List Frame) (m m' : Mark) (l : ClosureParams)
    : Type 0 where
  pub pattern : PatId
  pub type_ref : Option TypeRefId
  pub is : l ≡ add_param done pattern type_ref
  pub same : (d : ℕ) → m'.nodes + m'.entries ≤ d → SameIn final (a_param (inners_in final d) (pattern, type_ref)) es

pub param_held : {es fs : Bodies} (done : ClosureParams) {p : Lowering PatId} {t : Lowering (Option TypeRefId)} → Correct p (Holds a_pat es)
    → Correct t (Holds (maybe a_type) fs) → Correct (param_form done p t) (ParamHeld done (es ++ fs))
unfolding param_form
param_held {es = es} {fs = fs} done hp ht = correct_as
    (correct_bind hp (λ p. correct_bind ht (λ t. correct_pure (add_param done p t))))
    (λ final ps m m' l g row. let s = row.second in rw (s.second.is, s.second.still) (record {
      pattern = row.one;
      type_ref = s.one;
      is = refl;
      same = λ d le. let r = inners_in final d in same_append final (r.pat row.one) (of_present r.type s.one) es fs
          (row.first.same d (omega (le, s.before.nodes, s.before.entries, arith))) (s.first.same d le);
    }))

-- these behind those that there were
pub record ParamsHeld (done : ClosureParams) (es : Bodies) (final : Stored) (ps : List Frame) (m m' : Mark) (l : ClosureParams)
    : Type 0 where
  pub new : List Param
  pub args : l.args ≡ done.args ++ map (λ x. x.0) new
  pub types : l.arg_types ≡ done.arg_types ++ map (λ x. x.1) new
  pub same : (d : ℕ) → m'.nodes + m'.entries ≤ d → SameIn final (all_of (a_param (inners_in final d)) new) es

pub params_none : (done : ClosureParams) → Correct (pure done) (ParamsHeld done [])
params_none done = correct_as (correct_pure done) (λ final ps m m' l g row. record {
  new = [];
  args = ap (λ k. k.args) row.is ∙ sym (append-nil done.args);
  types = ap (λ k. k.arg_types) row.is ∙ sym (append-nil done.arg_types);
  same = λ d le. tt;
})

-- a disabled one leaves a fault
pub params_skip : {es : Bodies} (done : ClosureParams) (fault : ExpressionStoreDiagnostics) {q : ClosureParams → Lowering ClosureParams}
    → ((k : ClosureParams) → Correct (q k) (ParamsHeld k es)) → Correct ((report fault >> pure done) >>= q) (ParamsHeld done es)
params_skip {es = es} done fault h = correct_as
    (correct_bind (correct_bind (correct_report fault) (λ u. correct_pure done)) h)
    (λ final ps m m' l g row.
    let rest = subst (λ k. ParamsHeld k es final ps row.middle m' l) row.first.second.is row.second in
    record { new = rest.new; args = rest.args; types = rest.types; same = rest.same })

pub params_more : {es fs : Bodies} (done : ClosureParams) {p : Lowering ClosureParams} {q : ClosureParams → Lowering ClosureParams}
    → Correct p (ParamHeld done es) → ((k : ClosureParams) → Correct (q k) (ParamsHeld k fs))
    → Correct (p >>= q) (ParamsHeld done (es ++ fs))
params_more {es = es} {fs = fs} done hp hq = correct_as (correct_bind hp hq) (λ final ps m m' l g row.
    let x = row.first in
    let rest = subst (λ k. ParamsHeld k fs final ps row.middle m' l) x.is row.second in record {
      new = (x.pattern, x.type_ref) ∷ rest.new;
      args = rest.args ∙ append_assoc done.args (x.pattern ∷ []) (map (λ y. y.0) rest.new);
      types = rest.types ∙ append_assoc done.arg_types (x.type_ref ∷ []) (map (λ y. y.1) rest.new);
      same = λ d le. let r = inners_in final d in
          same_append final (a_param r (x.pattern, x.type_ref)) (all_of (a_param r) rest.new) es fs
          (x.same d (omega (le, row.after.nodes, row.after.entries, arith))) (rest.same d le);
    })

-- what is in two lists of one length
params_roll : (r : Inners) (new : List Param) → of_params r (map (λ x. x.0) new) (map (λ x. x.1) new) ≡ all_of (a_param r) new
params_roll r [] = refl
params_roll r (x ∷ new) = ap (λ is. a_param r x ++ is) (params_roll r new)

-- Whether a `yield` stands in it or not, its body comes behind the others.
closure_list : (r : Inners) (args : List PatId) (types : List (Option TypeRefId)) (ret : Option TypeRefId) (body : ExprId)
    (y is_static : Bool) → of_closure r args types ret body (closure_kind y is_static)
    ≡ of_params r args types ++ (of_present r.type ret ++ (by_itself body ∷ r.expr body))
closure_list r args types ret body true is_static = refl
closure_list r args types ret body false is_static = refl

-- Its body runs as written: nothing that is open around its barrier is in its frames.
pub closure_held : {ps ts : Bodies} (at : Pointer) (moves is_static : Bool) (e : OptionExpr) {p : Lowering ClosureParams}
    {t : Lowering (Option TypeRefId)} → Correct p (ParamsHeld no_closure_params ps) → Correct t (Holds (maybe a_type) ts)
    → Correct (lower_part e) (Holds an_expr (bodies_in e))
    → Correct (closure_form at moves is_static p t (lower_part e)) (Holds an_expr (ps ++ (ts ++ (constant_body e ∷ bodies_in e))))
closure_held {ps = es} {ts = ts} at moves is_static e hp ht h = correct_as
    (correct_closure at moves is_static hp ht (correct_both (correct_in_store (part_fine e)) h))
    (λ final ps m m' i g row.
    let l = row.params in
    let held = row.in_params in
    let x = row.in_body.one in
    let behind : Bodies = constant_body e ∷ bodies_in e in
    expr_held row.made row.to_end (λ d le. let r = inners_in final d in
    let roll = ap (λ k. of_params r k l.arg_types) held.args ∙ (ap (λ k. of_params r (map (λ y. y.0) held.new) k) held.types
    ∙ params_roll r held.new) in
    same_ids final (es ++ (ts ++ behind)) (closure_list r l.args l.arg_types row.ret row.body row.yields is_static)
    (same_append final (of_params r l.args l.arg_types) (of_present r.type row.ret ++ (by_itself row.body ∷ r.expr row.body))
    es (ts ++ behind)
    (same_ids final es roll (held.same d
    (omega (le, row.to_ret.nodes, row.to_ret.entries, row.to_body.nodes, row.to_body.entries, arith))))
    (same_append final (of_present r.type row.ret) (by_itself row.body ∷ r.expr row.body) ts behind
    (row.in_ret.same d (omega (le, row.to_body.nodes, row.to_body.entries, arith)))
    (body_is (barrier_at ∷ ps) x.rel x.nodes tt refl, row.in_body.other.same d le)))))
