-- What the steps of lowering a body leave is promised by each environment under which they are the same steps.
use Rattle.std.proofs.Common.{◌≡◌, ◌∙◌, refl, subst, sym, Bool, true, false, Option, Result}
use Rattle.std.specs.Prelude.{IfOk}
use Rattle.hir_store.specs.Pointers.{Pointer}
use Rattle.hir_store.specs.declared.diagnostics.MissingBodyItemKind.{MissingBodyItemKind}
use Rattle.hir_store.specs.declared.hir.CoroutineKind.{CoroutineKind}
use Rattle.hir_env.specs.ResolvedTree as tree
use Rattle.hir_env.specs.ResolvedTree.{Formals, OptionExpr}
use Rattle.hir_env.specs.Answering.{coroutine_kind}
use Rattle.hir_env.specs.Answers.{Answers}
use Rattle.hir_lower_builder.specs.Lowering.{◌>>◌}
use Rattle.thm_enabled.specs.Pruned.{pruned_part}
use Rattle.thm_enabled.specs.Theorems.{OutsideBodies}
use Rattle.thm_enabled.proofs.BodySteps.{body_is}
use Rattle.thm_enabled.proofs.Lowered.{parts_alike}
use Rattle.hir_lower.specs.Formals.{are_read, formals_if, outside_place, self_source}
use Rattle.hir_lower.specs.Means.{body_fault, required_body}
use Rattle.hir_lower.specs.Roots.{FromSteps, behind, body_of, report_missing}
use Rattle.hir_lower.specs.declared.body.Body.{Body}
use Rattle.hir_lower.specs.declared.body.BodySourceMap.{BodySourceMap}
use Rattle.hir_lower.specs.declared.error.LowerError.{LowerError}
use Rattle.hir_lower.proofs.Bodies.{body_expanded_if, body_fits_if, body_stored_if, body_too_large, has_body_if, one_result_if}
use Rattle.hir_lower.proofs.GeneratedNames.{made_once_if}
use Rattle.hir_lower.proofs.Params.{params_if}
use Rattle.thm_calls.specs.Outside.{BodyLastsOutside, BodyLowered, call_read, call_steps, in_call}
use Rattle.thm_calls.specs.Promises.{BodyPromise}
use Rattle.thm_calls.specs.Readings.{BodyCall, body_reading}

fault_pruned : (k : Option MissingBodyItemKind) (e : OptionExpr) → body_fault k (pruned_part e) ≡ body_fault k e
fault_pruned k tree.no_expr = refl
fault_pruned k (tree.some_expr e) = refl

fault_is : (k : Option MissingBodyItemKind) (x y : OptionExpr) → pruned_part x ≡ pruned_part y → body_fault k x ≡ body_fault k y
fault_is k x y h = sym (fault_pruned k x) ∙ ((λ i. body_fault k (h i)) ∙ fault_pruned k y)

-- the steps look at what is read of the body outside of what is disabled alone
steps_is : (kind : Option CoroutineKind) (skipped : Bool) (at : Pointer) (k : Option MissingBodyItemKind) (f : Formals) (x y : OptionExpr)
    → pruned_part x ≡ pruned_part y → body_of kind skipped at k f x ≡ body_of kind skipped at k f y
unfolding body_of
steps_is kind true at k f x y h = refl
steps_is kind false at k f x y h =
    λ i. report_missing at (fault_is k x y h i) >> behind (body_is kind false f x y (parts_alike x y h) i)

module _ (c : BodyCall) where
  abbrev node : Pointer
  node = record { file_id = c.file_id; value = c.node }

  abbrev kind : Option CoroutineKind
  kind = coroutine_kind c.is_async c.is_gen

  -- where the steps are these, all is promised
  promised : (b : Answers) (answer : Result (Body × BodySourceMap) LowerError) → BodyLowered c b answer
      → BodyPromise (body_reading c b) answer
  promised b answer l =
      let s = l.steps in
      let skipped = b.skip c.owner in
      let k = required_body c.owner (b.container c.owner) in
      let f = (body_reading c b).formals in
      let e = (call_read c b).read in record {
        same_meaning = has_body_if kind skipped node k f e 4294967295 (λ r. r.0.store) (λ r. r.1.store) (λ r. r.0) answer s.stores s.given;
        one_result = one_result_if kind skipped node k f e 4294967295 (λ r. r.0.store) (λ r. r.1.store) (λ r. r.0) answer s.stores s.given;
        expanded = body_expanded_if kind skipped node k f e 4294967295 (λ r. r.0.store) (λ r. r.1.store) answer s.stores;
        stored = body_stored_if kind skipped node k f e 4294967295 (λ r. r.0.store) (λ r. r.1.store) answer s.stores;
        params = params_if kind skipped node k f e 4294967295 (λ r. r.0) (λ r. r.0.store) (λ r. r.1.store) answer s.stores s.given;
        self_source = l.self_source;
        made_once = made_once_if kind skipped node k f e 4294967295 (λ r. r.0) (λ r. r.0.store) (λ r. r.1.store) answer s.stores s.given;
        in_range = l.in_range;
        too_large = λ is. body_too_large kind skipped node k f e 4294967295 (s.full is);
        fits = body_fits_if kind skipped node k f e 4294967295 (λ r. r.0.store) (λ r. r.1.store) answer s.stores;
        own = l.own;
      }

pub body_outside : OutsideBodies → BodyLastsOutside
body_outside theorem a b c h k g answer l =
    let p = in_call c a in
    let x = (call_read c a).read in
    let y = (call_read c b).read in
    let same = theorem a b c.owner p (outside_place p) c.params c.body (call_read c a).formals x h k g in
    let formals : (body_reading c a).formals ≡ (body_reading c b).formals =
    λ i. formals_if (are_read (same i).skipped c.owner) (same i).formals in
    let steps : call_steps c a ≡ call_steps c b =
    steps_is (kind c) (a.skip c.owner) (node c) (required_body c.owner (a.container c.owner)) (body_reading c a).formals x y
    (λ j. (same j).read)
    ∙ (λ i. body_of (kind c) (same i).skipped (node c) (required_body c.owner (same i).container) (formals i) y) in
    let so : BodyLowered c b answer = record {
      steps = subst (λ s. FromSteps s 4294967295 answer) steps l.steps;
      self_source = subst (λ (f : Formals). IfOk answer (λ r. r.1.self_param ≡ self_source f.receiver)) formals l.self_source;
      in_range = l.in_range;
      own = l.own;
    } in
    (so, promised c b answer so)
