-- What is made up for `?` and `try` names the patterns and types that are made up for them or are written there, each once.
use Rattle.std.proofs.Common.{arith, ℕ, Bool, true, false, [], ◌∷◌, ◌++◌, Option, Some, None}
use Rattle.hir_binding.specs.declared.binding.BindingAnnotation.{BindingAnnotation}
use Rattle.hir_store.specs.Pointers.{Pointer}
use Rattle.hir_store.specs.declared.hir.Expr.TheVariants as hir
use Rattle.hir_store.specs.declared.hir.MatchArm.{MatchArm}
use Rattle.hir_store.specs.declared.ids.BlockId.{BlockId}
use Rattle.hir_store.specs.declared.ids.ExprId.{ExprId}
use Rattle.hir_store.specs.declared.ids.LabelId.{LabelId}
use Rattle.hir_store.specs.declared.ids.LangItemId.{LangItemId}
use Rattle.hir_store.specs.declared.ids.PatId.{PatId}
use Rattle.hir_store.specs.declared.ids.TypeRefId.{TypeRefId}
use Rattle.hir_store.specs.declared.pat.Pat.TheVariants as pat
use Rattle.hir_env.specs.ResolvedTree.{QuestionItems}
use Rattle.hir_lower_scope.specs.ScopeRibs.{Try}
use Rattle.hir_lower_builder.specs.Forms.{ExprSteps, StoredContents}
use Rattle.hir_lower_builder.specs.Lowering.{Lowering}
use Rattle.hir_lower_builder.specs.Made.{made_path_form, made_binding, made_bind_form, item_or_missing, made_call, item_call_form, item_pat}
use Rattle.hir_lower_builder.specs.Made.{conversion, leaving_node, flow_arm_form, residual_form, question_form, value_or_unit, wrapped_form}
use Rattle.hir_lower_builder.specs.Made.{try_block_form, bound_block, typed_try_form, condition_form, held_block, held_form, hold_form}
use Rattle.thm_type_result.specs.Named.{Look, of_arm, of_expr}
use Rattle.thm_type_result.proofs.Counted.{◌⊑◌, times_append}
use Rattle.thm_type_result.proofs.Adding.{Numbers, none}
use Rattle.thm_type_result.proofs.Asked.{Correct, Adds, Quiet, adds_pure, adds_then, adds_beside, adds_quiet, adds_expr, adds_made}
use Rattle.thm_type_result.proofs.Asked.{adds_pat}
use Rattle.thm_type_result.proofs.Naming.{new_made_binding, quiet_pure, quiet_then, quiet_made, quiet_define, quiet_number}
use Rattle.thm_type_result.proofs.Naming.{quiet_try_target, quiet_enter_block, opened_try_names}
use Rattle.thm_type_result.proofs.NamingForms.{contents, settled_less}
use Rattle.thm_type_result.proofs.Owned.{a_pat, a_type}

item_named : (item : Option LangItemId) (l : Look) → of_expr l (item_or_missing item) ⊑ []
item_named None l k = omega arith
item_named (Some i) l k = omega arith

leaving_named : (t : Option (Try LabelId)) (e : ExprId) (l : Look) → of_expr l (leaving_node t e) ⊑ []
leaving_named None e l k = omega arith
leaving_named (Some t) e l k = omega arith

-- an arm
abbrev pub an_arm : MatchArm → Numbers
an_arm a l = of_arm l a

pub made_bind_names : (mode : BindingAnnotation) (n : ℕ) → Correct (made_bind_form mode n) (Adds none a_pat)
unfolding made_bind_form
made_bind_names mode n = adds_then (new_made_binding (made_binding mode n))
    (λ b. adds_then (adds_pat (pat.Bind b None) None (λ l k. let x = times_append k (l.bindings b) [] in omega arith))
    (λ p. adds_then (adds_quiet (quiet_define b p)) (λ u. adds_pure p (λ l k. omega arith))))

module _ (at : Pointer) where
  pub made_path_quiet : (n : ℕ) → Correct (made_path_form at n) Quiet
  unfolding made_path_form
  made_path_quiet n = quiet_made _ (Some at) (λ l k. omega arith)

  pub item_call_quiet : (item : Option LangItemId) (a : ExprId) → Correct (item_call_form at item a) Quiet
  unfolding item_call_form
  item_call_quiet item a = quiet_then (quiet_made _ (Some at) (item_named item)) (λ f. quiet_made _ (Some at) (λ l k. omega arith))

  flow_arm_names : (item : LangItemId) {body : ℕ → ExprSteps} → ((n : ℕ) → Correct (body n) Quiet)
      → Correct (flow_arm_form item body) (Adds none an_arm)
  unfolding flow_arm_form
  flow_arm_names item h = adds_then quiet_number (λ n. adds_then (made_bind_names _ n)
      (λ p. adds_then (adds_pat (item_pat item p) None (λ l k. let x = times_append k (l.pats p) [] in omega arith))
      (λ q. adds_then (adds_quiet (h n)) (λ e. adds_pure _ (λ l k. omega arith)))))

  residual_quiet : (items : QuestionItems) (n : ℕ) → Correct (residual_form at items n) Quiet
  unfolding residual_form
  residual_quiet items n = quiet_then (made_path_quiet n) (λ r. quiet_then quiet_try_target
      (λ t. quiet_then (item_call_quiet (conversion items t) r) (λ e. quiet_made _ (Some at) (leaving_named t e))))

  pub two_arms : (b : ExprId) (a c : MatchArm) (l : Look) → of_expr l (hir.Match b (a ∷ c ∷ [])) ⊑ an_arm a l ++ an_arm c l
  two_arms b a c l k =
      let x = times_append k (of_arm l a) (of_arm l c ++ []) in
      let y = times_append k (of_arm l c) [] in
      let z = times_append k (of_arm l a) (of_arm l c) in omega arith

  pub question_quiet : (items : QuestionItems) {e : ExprSteps} → Correct e Quiet → Correct (question_form at items e) Quiet
  unfolding question_form
  question_quiet items h = quiet_then h (λ e. quiet_then (item_call_quiet (Some items.branch) e)
      (λ b. adds_then (flow_arm_names items.goes_on made_path_quiet)
      (λ a. adds_then (adds_beside (an_arm a) (flow_arm_names items.breaks (residual_quiet items)))
      (λ c. adds_expr (hir.Match b (a ∷ c ∷ [])) (Some at) (two_arms b a c)))))

  wrapped_quiet : (item : Option LangItemId) (tail : Option ExprId) → Correct (wrapped_form at item tail) Quiet
  unfolding wrapped_form value_or_unit
  wrapped_quiet item (Some e) = quiet_then (quiet_made _ (Some at) (item_named item))
      (λ f. quiet_then (quiet_pure e) (λ v. quiet_made (made_call f v) (Some at) (λ l k. omega arith)))
  wrapped_quiet item None = quiet_then (quiet_made _ (Some at) (item_named item))
      (λ f. quiet_then (quiet_made (hir.Tuple []) (Some at) (λ l k. omega arith))
      (λ v. quiet_made (made_call f v) (Some at) (λ l k. omega arith)))

  pub try_block_quiet : (item : Option LangItemId) (typed : Bool) (number : Option BlockId) {c : Lowering StoredContents}
      → Correct c (Adds none contents) → Correct (try_block_form at item typed number c) Quiet
  unfolding try_block_form
  try_block_quiet item typed number h = opened_try_names at typed {one = contents} (quiet_enter_block number) h
      (λ l r. adds_then (adds_quiet (wrapped_quiet item _)) (λ v. adds_expr _ (Some at) (settled_less r.0 r.1)))

  bound_named : (p : PatId) (t : TypeRefId) (b e : ExprId) (l : Look) → of_expr l (bound_block p t b e) ⊑ a_type t l ++ a_pat p l
  bound_named p t b e l k =
      let x = times_append k (l.pats p ++ l.types t) [] in
      let y = times_append k (l.pats p) (l.types t) in
      let z = times_append k (l.types t) (l.pats p) in omega arith

  pub typed_try_quiet : {b : ExprSteps} {t : Lowering TypeRefId} → Correct b Quiet → Correct t (Adds none a_type)
      → Correct (typed_try_form at b t) Quiet
  unfolding typed_try_form
  typed_try_quiet hb ht = quiet_then hb (λ b. adds_then quiet_number (λ n. adds_then ht
      (λ t. adds_then (adds_beside (a_type t) (made_bind_names _ n))
      (λ p. adds_then (adds_quiet (made_path_quiet n)) (λ e. adds_made (bound_block p t b e) (Some at) (bound_named p t b e))))))

  -- a condition, where its temporaries end

  held_named : (p : PatId) (c e : ExprId) (l : Look) → of_expr l (held_block p c e) ⊑ a_pat p l
  held_named p c e l k =
      let x = times_append k (l.pats p ++ []) [] in
      let y = times_append k (l.pats p) [] in omega arith

  held_quiet : {c : ExprSteps} → Correct c Quiet → Correct (held_form at c) Quiet
  unfolding held_form hold_form
  held_quiet h = quiet_then h (λ c. adds_then quiet_number (λ n. adds_then (made_bind_names _ n)
      (λ p. adds_then (adds_quiet (made_path_quiet n)) (λ e. adds_made (held_block p c e) (Some at) (held_named p c e)))))

  pub condition_quiet : (lets : Bool) {c : ExprSteps} → Correct c Quiet → Correct (condition_form lets at c) Quiet
  condition_quiet true h = h
  condition_quiet false h = held_quiet h
