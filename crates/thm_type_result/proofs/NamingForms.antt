-- What is done with the parts of expressions names no type and no pattern in the end: the expressions that are stored do.
use Rattle.std.proofs.Common.{arith, Bool, true, false, List, [], ◌∷◌, Option, Some, None}
use Rattle.hir_store.specs.Pointers.{Pointer}
use Rattle.hir_store.specs.declared.diagnostics.AwaitLocation.{AwaitLocation}
use Rattle.hir_store.specs.declared.hir.Expr.{Expr as HirExpr}
use Rattle.hir_store.specs.declared.hir.LoopSource.{LoopSource}
use Rattle.hir_store.specs.declared.hir.RecordLitField.{RecordLitField}
use Rattle.hir_store.specs.declared.hir.RecordSpread.{RecordSpread}
use Rattle.hir_store.specs.declared.hir.Statement.{Statement}
use Rattle.hir_store.specs.declared.hir.Statement.TheVariants as statement
use Rattle.hir_store.specs.declared.ids.BlockId.{BlockId}
use Rattle.hir_store.specs.declared.ids.ExprId.{ExprId}
use Rattle.hir_store.specs.declared.ids.HygieneId.{HygieneId}
use Rattle.hir_store.specs.declared.ids.LabelId.{LabelId}
use Rattle.hir_store.specs.declared.name.Name.{Name}
use Rattle.hir_store.specs.declared.path.Path.{Path}
use Rattle.hir_store.specs.declared.path.GenericArgs.{GenericArgs}
use Rattle.hir_store.specs.declared.type_ref.ConstRef.{ConstRef}
use Rattle.hir_env.specs.ResolvedTree as tree
use Rattle.hir_env.specs.ResolvedTree.{Called, Leaf, Unary, Binary, Listing, Leaving, Label, Jump, Expr}
use Rattle.hir_lower_builder.specs.Lowering.{Lowering}
use Rattle.hir_lower_builder.specs.Types.{TypeSteps}
use Rattle.hir_lower_builder.specs.Lower.{ExprSteps, StoredContents, StoredFields, missing, if_form, loop_form, iteration_form, call_form}
use Rattle.hir_lower_builder.specs.Lower.{continue_form, break_form, operand_form, operands_form, value_form, list_form}
use Rattle.hir_lower_builder.specs.Lower.{called_form, method_call_form, await_form, paren_form, uncalled_form, path_form, path_or_missing}
use Rattle.hir_lower_builder.specs.Lower.{cast_form}
use Rattle.hir_lower_builder.specs.Lower.{offset_of_form, record_contents, record_of, record_form, field_form, block_form, labelled}
use Rattle.hir_lower_builder.specs.Lower.{stored_leaf, stored_unary, stored_binary, stored_leaving, settled, kept, repeat_form, const_form}
use Rattle.thm_logic.proofs.Calls.{only_gone, only_emitted}
use Rattle.thm_type_result.specs.Reached.{of_path}
use Rattle.thm_type_result.specs.Named.{Look, of_expr, of_statement}
use Rattle.thm_type_result.proofs.Counted.{◌⊑◌, times_append}
use Rattle.thm_type_result.proofs.Adding.{Numbers, none}
use Rattle.thm_type_result.proofs.Asked.{Correct, Adds, Quiet, adds_then, adds_beside, adds_expr}
use Rattle.thm_type_result.proofs.Owned.{a_type, arguments, maybe_path}
use Rattle.thm_type_result.proofs.OwnedPats.{statements}
use Rattle.thm_type_result.proofs.Naming.{quiet_pure, quiet_then, quiet_some, quiet_alloc, quiet_only, quiet_point}
use Rattle.thm_type_result.proofs.Naming.{quiet_point_field, quiet_enter_block, quiet_report_await, quiet_target, quiet_opened}

pub missing_quiet : Correct missing Quiet
unfolding missing
missing_quiet = quiet_alloc _ None (λ f k. omega arith)

pub leaf_quiet : (form : Leaf) (l : Look) → of_expr l (stored_leaf form) ⊑ []
leaf_quiet tree.underscore f k = omega arith
leaf_quiet tree.include_bytes f k = omega arith
leaf_quiet tree.left_out f k = omega arith

pub unary_quiet : (form : Unary) (i : ExprId) (l : Look) → of_expr l (stored_unary form i) ⊑ []
unary_quiet (tree.field_of name) i f k = omega arith
unary_quiet (tree.prefix_of op) i f k = omega arith
unary_quiet (tree.reference_to rawness mutability) i f k = omega arith

pub binary_quiet : (form : Binary) (i j : ExprId) (l : Look) → of_expr l (stored_binary form i j) ⊑ []
binary_quiet (tree.operator op) i j f k = omega arith
binary_quiet tree.index_of i j f k = omega arith

pub leaving_quiet : (form : Leaving) (v : Option ExprId) (l : Look) → of_expr l (stored_leaving form v) ⊑ []
leaving_quiet tree.returning v f k = omega arith
leaving_quiet tree.yeeting v f k = omega arith

path_named : (h : HygieneId) (p : Option Path) (l : Look) → of_expr l (path_or_missing h p) ⊑ maybe_path p l
path_named h None f k = omega arith
path_named h (Some p) f k = omega arith

abbrev NamesNothing : HirExpr → Type 0
NamesNothing e = (l : Look) → of_expr l e ⊑ []

-- a last expression without a semicolon becomes the tail
pub settled_less : (ss : List Statement) (o : Option ExprId) (l : Look) → statements (settled ss o).0 l ⊑ statements ss l
settled_less ss (Some i) l k = omega arith
settled_less [] None l k = omega arith
settled_less (statement.Item ∷ ss) None l k = settled_less ss None l k
settled_less (statement.MacroDef d ∷ ss) None l k = settled_less ss None l k
settled_less (statement.Let p t e b ∷ ss) None l k =
    let r = settled_less ss None l k in
    let x = times_append k (of_statement l (statement.Let p t e b)) (statements ss l) in
    let y = times_append k (of_statement l (statement.Let p t e b)) (statements (settled ss None).0 l) in omega arith
settled_less (statement.Expr i true ∷ ss) None l k = settled_less ss None l k
settled_less (statement.Expr i false ∷ []) None l k = omega arith
settled_less (statement.Expr i false ∷ (s ∷ ss)) None l k = settled_less (s ∷ ss) None l k

-- what is in a block names what its statements do
abbrev pub contents : StoredContents → Numbers
contents r l = statements r.0 l

module _ (at : Pointer) where
  pub if_quiet : {c t : ExprSteps} {e : Lowering (Option ExprId)} → Correct c Quiet → Correct t Quiet → Correct e Quiet
      → Correct (if_form at c t e) Quiet
  unfolding if_form
  if_quiet hc ht he = quiet_then ht (λ i. quiet_then he (λ j. quiet_then hc (λ k. quiet_alloc _ (Some at) (λ f n. omega arith))))

  pub loop_quiet : (from : LoopSource) (label : Option Label) {b : ExprSteps} → Correct b Quiet
      → Correct (loop_form at from label b) Quiet
  unfolding loop_form
  loop_quiet from None h = quiet_then h (λ i. quiet_alloc _ (Some at) (λ f k. omega arith))
  loop_quiet from (Some l) h =
      quiet_opened l (λ n. h) (λ n i. quiet_alloc _ (Some at) (λ f k. omega arith))

  pub iteration_quiet : {c b : ExprSteps} → Correct c Quiet → Correct b Quiet → Correct (iteration_form at c b) Quiet
  unfolding iteration_form
  iteration_quiet hc hb = quiet_then hb (λ i. quiet_then hc (λ k. quiet_then (quiet_alloc _ (Some at) (λ f n. omega arith))
      (λ o. quiet_alloc _ (Some at) (λ f n. omega arith))))

  pub call_quiet : {g : ExprSteps} {xs : Lowering (List ExprId)} → Correct g Quiet → Correct xs Quiet → Correct (call_form at g xs) Quiet
  unfolding call_form
  call_quiet hf hx = quiet_then hf (λ i. quiet_then hx (λ is. quiet_alloc _ (Some at) (λ f k. omega arith)))

  pub continue_quiet : (j : Option Jump) → Correct (continue_form at j) Quiet
  unfolding continue_form
  continue_quiet j = quiet_then (quiet_target j) (λ n. quiet_alloc _ (Some at) (λ f k. omega arith))

  pub break_quiet : (j : Option Jump) {e : Lowering (Option ExprId)} → Correct e Quiet → Correct (break_form at j e) Quiet
  unfolding break_form
  break_quiet j h = quiet_then (quiet_target j) (λ n. quiet_then h (λ v. quiet_alloc _ (Some at) (λ f k. omega arith)))

  pub paren_quiet : {e : ExprSteps} → Correct e Quiet → Correct (paren_form at e) Quiet
  unfolding paren_form
  paren_quiet h = quiet_then h (λ i. quiet_then (quiet_point at i) (λ u. quiet_pure i))

  pub uncalled_quiet : (c : Called) → Correct (uncalled_form at c) Quiet
  unfolding uncalled_form
  uncalled_quiet c = quiet_then (quiet_only (only_emitted c)) (λ u. quiet_alloc _ (Some at) (λ f k. omega arith))

  pub called_quiet : (c : Called) {e : ExprSteps} → Correct e Quiet → Correct (called_form at c e) Quiet
  unfolding called_form
  called_quiet c h = quiet_then (quiet_only (only_emitted c)) (λ u. paren_quiet h)

  pub operand_quiet : (form : ExprId → HirExpr) {e : ExprSteps} → ((i : ExprId) → NamesNothing (form i)) → Correct e Quiet
      → Correct (operand_form at form e) Quiet
  unfolding operand_form
  operand_quiet form is h = quiet_then h (λ i. quiet_alloc _ (Some at) (is i))

  pub operands_quiet : (form : ExprId → ExprId → HirExpr) {a b : ExprSteps} → ((i j : ExprId) → NamesNothing (form i j))
      → Correct a Quiet → Correct b Quiet → Correct (operands_form at form a b) Quiet
  unfolding operands_form
  operands_quiet form is ha hb = quiet_then ha (λ i. quiet_then hb (λ j. quiet_alloc _ (Some at) (is i j)))

  pub value_quiet : (form : Option ExprId → HirExpr) {e : Lowering (Option ExprId)} → ((v : Option ExprId) → NamesNothing (form v))
      → Correct e Quiet → Correct (value_form at form e) Quiet
  unfolding value_form
  value_quiet form is h = quiet_then h (λ v. quiet_alloc _ (Some at) (is v))

  pub list_quiet : (form : Listing) {xs : Lowering (List ExprId)} → Correct xs Quiet → Correct (list_form at form xs) Quiet
  unfolding list_form
  list_quiet (tree.tuple_of false) h = quiet_then h (λ is. quiet_alloc _ (Some at) (λ f k. omega arith))
  list_quiet (tree.tuple_of true) h =
      quiet_then h (λ is. quiet_then missing_quiet (λ i. quiet_alloc _ (Some at) (λ f k. omega arith)))
  list_quiet tree.array_of h = quiet_then h (λ is. quiet_alloc _ (Some at) (λ f k. omega arith))

  pub repeat_quiet : {e : ExprSteps} {n : Lowering ConstRef} → Correct e Quiet → Correct n Quiet → Correct (repeat_form at e n) Quiet
  unfolding repeat_form
  repeat_quiet h k = quiet_then h (λ i. quiet_then k (λ c. quiet_alloc _ (Some at) (λ f k. omega arith)))

  pub const_quiet : {n : Lowering ConstRef} → Correct n Quiet → Correct (const_form at n) Quiet
  unfolding const_form
  const_quiet h = quiet_then h (λ c. quiet_alloc _ (Some at) (λ f k. omega arith))

  pub await_quiet : (l : Option AwaitLocation) {e : ExprSteps} → Correct e Quiet → Correct (await_form at l e) Quiet
  unfolding await_form
  await_quiet l h = quiet_then h (λ i. quiet_then (quiet_report_await at l) (λ u. quiet_alloc _ (Some at) (λ f k. omega arith)))

  pub field_quiet : (name : Name) {e : ExprSteps} → Correct e Quiet → Correct (field_form at name e) Quiet
  unfolding field_form
  field_quiet name h = quiet_then h (λ i. quiet_then (quiet_point_field i at) (λ u. quiet_pure _))

  pub block_form_quiet : (is_unsafe : Bool) (label : Option LabelId) (number : Option BlockId) {c : Lowering StoredContents}
      → Correct c (Adds none contents) → Correct (block_form at is_unsafe label number c) Quiet
  unfolding block_form
  block_form_quiet is_unsafe label number h = quiet_then (quiet_enter_block number)
      (λ u. adds_then h (λ r. adds_expr _ (Some at) (settled_less r.0 r.1)))

  -- those that name types

  pub path_quiet : (h : HygieneId) {p : Lowering (Option Path)} → Correct p (Adds none maybe_path) → Correct (path_form at h p) Quiet
  unfolding path_form
  path_quiet h hp = adds_then hp (λ r. adds_expr _ (Some at) (path_named h r))

  pub cast_quiet : {e : ExprSteps} {t : TypeSteps} → Correct e Quiet → Correct t (Adds none a_type) → Correct (cast_form at e t) Quiet
  unfolding cast_form
  cast_quiet h ht = quiet_then h (λ e. adds_then ht (λ i. adds_expr _ (Some at) (λ f k. omega arith)))

  pub offset_of_quiet : (names : List Name) {t : TypeSteps} → Correct t (Adds none a_type) → Correct (offset_of_form at t names) Quiet
  unfolding offset_of_form
  offset_of_quiet names ht = adds_then ht (λ i. adds_expr _ (Some at) (λ f k. omega arith))

  pub method_call_quiet : (name : Name) {e : ExprSteps} {xs : Lowering (List ExprId)} {g : Lowering (Option GenericArgs)} → Correct e Quiet
      → Correct xs Quiet → Correct g (Adds none arguments) → Correct (method_call_form at e name xs g) Quiet
  unfolding method_call_form
  method_call_quiet name he hx hg =
      quiet_then he (λ i. quiet_then hx (λ is. adds_then hg (λ a. adds_expr _ (Some at) (λ f k. omega arith))))

  record_of_quiet : {c : Lowering StoredFields} → Correct c Quiet → (p : Option Path)
      → Correct (record_of at c p) (Adds (maybe_path p) (λ i. none))
  record_of_quiet h None = missing_quiet
  record_of_quiet h (Some p) = adds_then (adds_beside (maybe_path (Some p)) h)
      (λ r. adds_expr _ (Some at) (λ l k. let s = times_append k (of_path l.types p) [] in omega arith))

  pub record_quiet : {p : Lowering (Option Path)} {c : Lowering StoredFields} → Correct p (Adds none maybe_path) → Correct c Quiet
      → Correct (record_form at p c) Quiet
  unfolding record_form
  record_quiet hp h = adds_then hp (λ o. record_of_quiet h o)

pub contents_quiet : {fs : Lowering (List RecordLitField)} {s : Lowering RecordSpread} → Correct fs Quiet → Correct s Quiet
    → Correct (record_contents fs s) Quiet
unfolding record_contents
contents_quiet hf hs = quiet_then hf (λ fs. quiet_then hs (λ s. quiet_pure (fs, s)))

pub labelled_quiet : (label : Option Label) {f : Option LabelId → ExprSteps} → ((o : Option LabelId) → Correct (f o) Quiet)
    → Correct (labelled label f) Quiet
unfolding labelled
labelled_quiet None h = h None
labelled_quiet (Some l) h = quiet_opened l (λ n. h (Some n)) (λ n i. quiet_pure i)

pub kept_quiet : (e : Expr) {p : ExprSteps} → Correct p Quiet → Correct (kept e p) Quiet
kept_quiet (tree.disabled_expr why e) h = quiet_then (quiet_only (only_gone why)) (λ u. quiet_pure None)
kept_quiet e h = quiet_some h
