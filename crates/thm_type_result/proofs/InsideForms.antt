-- What each form of an expression becomes reaches and holds what its parts do, and itself.
use Rattle.std.proofs.Common.{◌≡◌, refl, ℕ, ◌+◌, ◌≤◌, Bool, true, false, List, [], ◌∷◌, ◌++◌, Option, Some, None, option_map, arith}
use Rattle.hir_store.specs.Pointers.{Pointer}
use Rattle.hir_store.specs.declared.diagnostics.AwaitLocation.{AwaitLocation}
use Rattle.hir_store.specs.declared.hir.Array.TheVariants as array
use Rattle.hir_store.specs.declared.hir.Expr.{Expr as HirExpr}
use Rattle.hir_store.specs.declared.hir.Expr.TheVariants as hir
use Rattle.hir_store.specs.declared.hir.LoopSource.{LoopSource}
use Rattle.hir_store.specs.declared.hir.RecordLitField.{RecordLitField}
use Rattle.hir_store.specs.declared.hir.RecordSpread.{RecordSpread}
use Rattle.hir_store.specs.declared.hir.Statement.{Statement}
use Rattle.hir_store.specs.declared.hir.Statement.TheVariants as statement
use Rattle.hir_store.specs.declared.ids.BlockId.{BlockId}
use Rattle.hir_store.specs.declared.ids.ExprId.{ExprId}
use Rattle.hir_store.specs.declared.ids.HygieneId.{HygieneId}
use Rattle.hir_store.specs.declared.ids.LabelId.{LabelId}
use Rattle.hir_store.specs.declared.name.Name.{Name}
use Rattle.hir_store.specs.declared.path.GenericArgs.{GenericArgs}
use Rattle.hir_store.specs.declared.path.Path.{Path}
use Rattle.hir_store.specs.declared.type_ref.ConstRef.{ConstRef}
use Rattle.hir_env.specs.ResolvedTree as tree
use Rattle.hir_env.specs.ResolvedTree.{Called, Leaf, Unary, Binary, Listing, Leaving, Label, Jump, Expr}
use Rattle.hir_lower_builder.specs.Lowering.{Lowering, ◌>>=◌, pure, alloc_expr}
use Rattle.hir_lower_builder.specs.Types.{TypeSteps}
use Rattle.hir_lower_builder.specs.Lower.{ExprSteps, StoredContents, StoredFields, push_some, missing, some, if_form, loop_form, call_form}
use Rattle.hir_lower_builder.specs.Lower.{iteration_form, repeat_form, const_form}
use Rattle.hir_lower_builder.specs.Lower.{continue_form, break_form, operand_form, operands_form, value_form, list_form}
use Rattle.hir_lower_builder.specs.Lower.{called_form, method_call_form, await_form, paren_form, uncalled_form, path_form, path_or_missing}
use Rattle.hir_lower_builder.specs.Lower.{cast_form}
use Rattle.hir_lower_builder.specs.Lower.{offset_of_form, record_contents, record_of, record_form, field_form, block_form, labelled}
use Rattle.hir_lower_builder.specs.Lower.{stored_leaf, stored_unary, stored_binary, stored_leaving, settled, settled_block, kept}
use Rattle.spec_semantics.specs.Inner as inner
use Rattle.spec_semantics.specs.Inner.{Inside, all_of, of_constant, of_present, of_list, of_path}
use Rattle.thm_semantics.specs.Reached.{of_some, of_each, of_fields, of_others, of_statement, of_statements}
use Rattle.thm_type_result.proofs.Counted.{times, times_append}
use Rattle.thm_type_result.proofs.Asked.{Correct}
use Rattle.thm_type_result.proofs.Weighed.{View, Cost, free, beside, an_expr, a_type, a_constant, in_expr, sum, sum_append}
use Rattle.thm_type_result.proofs.Weighing.{Adds, adds_pure, adds_then, adds_beside, adds_any, adds_from, adds_expr, adds_opened}
use Rattle.thm_generics.proofs.Steps.{tracks_enter_block, tracks_gone, tracks_jump_target, tracks_point, tracks_point_field}
use Rattle.thm_generics.proofs.Steps.{tracks_report_await}
use Rattle.thm_generics.proofs.Steps.{tracks_emitted}
use Rattle.thm_type_result.proofs.InsideTypes.{arguments, maybe_path}

-- costs of lists and options

abbrev pub maybe : {A : Type 0} → (A → Cost) → Option A → Cost
maybe cost None v = 0
maybe cost (Some a) v = cost a v

abbrev pub each : {A : Type 0} → (A → Cost) → List A → Cost
each cost [] v = 0
each cost (a ∷ as') v = cost a v + each cost as' v

pub each_push : {A : Type 0} (cost : A → Cost) (done : List A) (a : A) (v : View)
    → each cost (done ++ a ∷ []) v ≡ each cost done v + cost a v
each_push cost [] a v = omega arith
each_push cost (b ∷ done) a v = let e = each_push cost done a v in omega arith

pub each_append : {A : Type 0} (cost : A → Cost) (xs ys : List A) (v : View) → each cost (xs ++ ys) v ≡ each cost xs v + each cost ys v
each_append cost [] ys v = omega arith
each_append cost (x ∷ xs) ys v = let e = each_append cost xs ys v in omega arith

pub pushed : {A : Type 0} (cost : A → Cost) (done : List A) (o : Option A) (v : View)
    → each cost (push_some done o) v ≤ each cost done v + maybe cost o v
pushed cost done None v = omega arith
pushed cost done (Some a) v = let e = each_push cost done a v in omega arith

pub some_more : {A B : Type 0} {cost : A → Cost} {now : B → Cost} {p : Lowering (Option A)} {q : List A → Lowering B}
    → Correct p (Adds free (maybe cost)) → ((done : List A) → Correct (q done) (Adds (each cost done) now))
    → (done : List A) → Correct (p >>= (λ o. q (push_some done o))) (Adds (each cost done) now)
some_more {cost = cost} h k done =
    adds_then (adds_beside (each cost done) h) (λ o. adds_from (pushed cost done o) (k (push_some done o)))

-- what is reached and what is inside, together

pub both : (v : View) (js ks : List ℕ) (is ls : List Inside)
    → times v.number (js ++ ks) + sum v.weight (is ++ ls) ≡ (times v.number js + sum v.weight is) + (times v.number ks + sum v.weight ls)
both v js ks is ls =
    let x = times_append v.number js ks in
    let y = sum_append v.weight is ls in omega arith

pub maybe_is : (o : Option ExprId) (v : View)
    → times v.number (of_some v.reach o) + sum v.weight (of_present v.held.expr o) ≡ maybe an_expr o v
maybe_is None v = refl
maybe_is (Some i) v = refl

pub each_is : (is : List ExprId) (v : View) → times v.number (of_each v.reach is) + sum v.weight (all_of v.held.expr is) ≡ each an_expr is v
each_is [] v = refl
each_is (i ∷ is) v =
    let x = both v (v.reach i) (of_each v.reach is) (v.held.expr i) (all_of v.held.expr is) in
    let r = each_is is v in omega arith

abbrev pub a_field : RecordLitField → Cost
a_field f v = an_expr f.expr v

fields_are : (fs : List RecordLitField) (v : View)
    → times v.number (of_fields v.reach fs) + sum v.weight (all_of (inner.of_field v.held) fs) ≡ each a_field fs v
fields_are [] v = refl
fields_are (f ∷ fs) v =
    let x = both v (v.reach f.expr) (of_fields v.reach fs) (v.held.expr f.expr) (all_of (inner.of_field v.held) fs) in
    let r = fields_are fs v in omega arith

abbrev pub a_spread : RecordSpread → Cost
a_spread s v = times v.number (of_others v.reach s) + sum v.weight (inner.of_others v.held s)

abbrev pub a_statement : Statement → Cost
a_statement s v = times v.number (of_statement v.reach s) + sum v.weight (inner.of_statement v.held s)

statements_are : (ss : List Statement) (v : View)
    → times v.number (of_statements v.reach ss) + sum v.weight (all_of (inner.of_statement v.held) ss) ≡ each a_statement ss v
statements_are [] v = refl
statements_are (s ∷ ss) v =
    let x = both v (of_statement v.reach s) (of_statements v.reach ss) (inner.of_statement v.held s)
    (all_of (inner.of_statement v.held) ss) in
    let r = statements_are ss v in omega arith

abbrev pub a_record : StoredFields → Cost
a_record r v = each a_field r.0 v + a_spread r.1 v

abbrev pub contents : StoredContents → Cost
contents r v = each a_statement r.0 v + maybe an_expr r.1 v

-- what is kept

pub missing_adds : Correct missing (Adds free an_expr)
unfolding missing
missing_adds = adds_expr hir.Missing None (λ v. omega arith)

pub some_adds : {p : ExprSteps} → Correct p (Adds free an_expr) → Correct (some p) (Adds free (maybe an_expr))
some_adds h = adds_then h (λ i. adds_pure (Some i) (λ v. omega arith))

pub kept_adds : (e : Expr) {p : ExprSteps} → Correct p (Adds free an_expr) → Correct (kept e p) (Adds free (maybe an_expr))
kept_adds (tree.disabled_expr why e) h =
    adds_then (adds_any (tracks_gone why)) (λ u. adds_pure None (λ v. omega arith))
kept_adds e h = some_adds h

-- forms

leaf_less : (form : Leaf) (v : View) → in_expr (stored_leaf form) v ≤ 0
leaf_less tree.underscore v = omega arith
leaf_less tree.include_bytes v = omega arith
leaf_less tree.left_out v = omega arith

pub unary_less : (form : Unary) (i : ExprId) (v : View) → in_expr (stored_unary form i) v ≤ an_expr i v
unary_less (tree.field_of name) i v = omega arith
unary_less (tree.prefix_of op) i v = omega arith
unary_less (tree.reference_to rawness mutability) i v = omega arith

pub two_less : (i j : ExprId) (v : View)
    → times v.number (v.reach i ++ v.reach j) + sum v.weight (v.held.expr i ++ v.held.expr j) ≤ an_expr i v + an_expr j v
two_less i j v = let x = both v (v.reach i) (v.reach j) (v.held.expr i) (v.held.expr j) in omega arith

pub binary_less : (form : Binary) (i j : ExprId) (v : View) → in_expr (stored_binary form i j) v ≤ an_expr i v + an_expr j v
binary_less (tree.operator op) i j v = two_less i j v
binary_less tree.index_of i j v = two_less i j v

pub value_less : (o : Option ExprId) (v : View)
    → times v.number (of_some v.reach o) + sum v.weight (of_present v.held.expr o) ≤ maybe an_expr o v
value_less o v = let e = maybe_is o v in omega arith

pub leaving_less : (form : Leaving) (o : Option ExprId) (v : View) → in_expr (stored_leaving form o) v ≤ maybe an_expr o v
leaving_less tree.returning o v = value_less o v
leaving_less tree.yeeting o v = value_less o v

path_less : (h : HygieneId) (p : Option Path) (v : View) → in_expr (path_or_missing h p) v ≤ maybe_path p v
path_less h None v = omega arith
path_less h (Some p) v = omega arith

pub first_less : (i : ExprId) (is : List ExprId) (v : View)
    → times v.number (v.reach i ++ of_each v.reach is) + sum v.weight (v.held.expr i ++ all_of v.held.expr is)
    ≤ an_expr i v + each an_expr is v
first_less i is v =
    let x = both v (v.reach i) (of_each v.reach is) (v.held.expr i) (all_of v.held.expr is) in
    let e = each_is is v in omega arith

if_less : (c t : ExprId) (e : Option ExprId) (v : View) → in_expr (hir.If c t e) v ≤ (an_expr t v + maybe an_expr e v) + an_expr c v
if_less c t e v =
    let x = both v (v.reach c) (v.reach t ++ of_some v.reach e) (v.held.expr c) (v.held.expr t ++ of_present v.held.expr e) in
    let y = both v (v.reach t) (of_some v.reach e) (v.held.expr t) (of_present v.held.expr e) in
    let z = maybe_is e v in omega arith

iteration_less : (c t e : ExprId) (v : View) → in_expr (hir.If c t (Some e)) v ≤ (an_expr t v + an_expr c v) + an_expr e v
iteration_less c t e v = let x = if_less c t (Some e) v in omega arith

method_call_less : (i : ExprId) (name : Name) (a : Option GenericArgs) (is : List ExprId) (v : View)
    → in_expr (hir.MethodCall i name a is) v ≤ (an_expr i v + each an_expr is v) + arguments a v
method_call_less i name a is v =
    let x = times_append v.number (v.reach i) (of_each v.reach is) in
    let y = sum_append v.weight (v.held.expr i) (of_list v.held a ++ all_of v.held.expr is) in
    let z = sum_append v.weight (of_list v.held a) (all_of v.held.expr is) in
    let e = each_is is v in omega arith

pub record_less : (p : Path) (r : StoredFields) (v : View) → in_expr (hir.RecordLit p r.0 r.1) v ≤ maybe_path (Some p) v + a_record r v
record_less p r v =
    let x = times_append v.number (of_fields v.reach r.0) (of_others v.reach r.1) in
    let y = sum_append v.weight (of_path v.held p) (all_of (inner.of_field v.held) r.0 ++ inner.of_others v.held r.1) in
    let z = sum_append v.weight (all_of (inner.of_field v.held) r.0) (inner.of_others v.held r.1) in
    let e = fields_are r.0 v in omega arith

-- a last expression without a semicolon becomes the tail
pub settled_less : (ss : List Statement) (o : Option ExprId) (v : View) → contents (settled ss o) v ≤ contents (ss, o) v
settled_less ss (Some i) v = omega arith
settled_less [] None v = omega arith
settled_less (statement.Item ∷ ss) None v = let r = settled_less ss None v in omega arith
settled_less (statement.MacroDef d ∷ ss) None v = let r = settled_less ss None v in omega arith
settled_less (statement.Let p t e b ∷ ss) None v = let r = settled_less ss None v in omega arith
settled_less (statement.Expr i true ∷ ss) None v = let r = settled_less ss None v in omega arith
settled_less (statement.Expr i false ∷ []) None v = omega arith
settled_less (statement.Expr i false ∷ (s ∷ ss)) None v = let r = settled_less (s ∷ ss) None v in omega arith

pub block_less : (is_unsafe : Bool) (label : Option LabelId) (number : Option BlockId) (ss : List Statement) (o : Option ExprId) (v : View)
    → in_expr (hir.Block is_unsafe label number ss o) v ≤ contents (ss, o) v
block_less is_unsafe label number ss o v =
    let x = both v (of_statements v.reach ss) (of_some v.reach o) (all_of (inner.of_statement v.held) ss) (of_present v.held.expr o) in
    let y = statements_are ss v in
    let z = maybe_is o v in omega arith

pub settled_block_less : (is_unsafe : Bool) (label : Option LabelId) (number : Option BlockId) (r : StoredContents) (v : View)
    → in_expr (settled_block is_unsafe label number (settled r.0 r.1)) v ≤ contents r v
settled_block_less is_unsafe label number r v =
    let s = settled r.0 r.1 in
    let x = block_less is_unsafe label number s.0 s.1 v in
    let y = settled_less r.0 r.1 v in omega arith

module _ (at : Pointer) where
  pub leaf_adds : (form : Leaf) → Correct (alloc_expr (stored_leaf form) (Some at)) (Adds free an_expr)
  leaf_adds form = adds_expr _ (Some at) (leaf_less form)

  pub if_adds : {c t : ExprSteps} {e : Lowering (Option ExprId)} → Correct c (Adds free an_expr) → Correct t (Adds free an_expr)
      → Correct e (Adds free (maybe an_expr)) → Correct (if_form at c t e) (Adds free an_expr)
  unfolding if_form
  if_adds hc ht he = adds_then ht (λ t. adds_then (adds_beside (an_expr t) he)
      (λ e. adds_then (adds_beside (beside (an_expr t) (maybe an_expr e)) hc) (λ c. adds_expr _ (Some at) (if_less c t e))))

  pub loop_adds : (from : LoopSource) (label : Option Label) {b : ExprSteps} → Correct b (Adds free an_expr)
      → Correct (loop_form at from label b) (Adds free an_expr)
  unfolding loop_form
  loop_adds from None h = adds_then h (λ i. adds_expr _ (Some at) (λ v. omega arith))
  loop_adds from (Some l) h = adds_opened l (λ n. h) (λ n i. adds_expr _ (Some at) (λ v. omega arith))

  -- the condition behind the body, and behind both a break
  pub iteration_adds : {c b : ExprSteps} → Correct c (Adds free an_expr) → Correct b (Adds free an_expr)
      → Correct (iteration_form at c b) (Adds free an_expr)
  unfolding iteration_form
  iteration_adds hc hb = adds_then hb (λ b. adds_then (adds_beside (an_expr b) hc)
      (λ c. adds_then (adds_beside (beside (an_expr b) (an_expr c)) (adds_expr (hir.Break None None) (Some at) (λ v. omega arith)))
      (λ o. adds_expr _ (Some at) (iteration_less c b o))))

  pub call_adds : {g : ExprSteps} {xs : Lowering (List ExprId)} → Correct g (Adds free an_expr) → Correct xs (Adds free (each an_expr))
      → Correct (call_form at g xs) (Adds free an_expr)
  unfolding call_form
  call_adds hf hx = adds_then hf (λ i. adds_then (adds_beside (an_expr i) hx) (λ is. adds_expr _ (Some at) (first_less i is)))

  pub continue_adds : (j : Option Jump) → Correct (continue_form at j) (Adds free an_expr)
  unfolding continue_form
  continue_adds j = adds_then (adds_any (tracks_jump_target j)) (λ n. adds_expr _ (Some at) (λ v. omega arith))

  pub break_adds : (j : Option Jump) {e : Lowering (Option ExprId)} → Correct e (Adds free (maybe an_expr))
      → Correct (break_form at j e) (Adds free an_expr)
  unfolding break_form
  break_adds j h = adds_then (adds_any (tracks_jump_target j)) (λ n. adds_then h (λ o. adds_expr _ (Some at) (value_less o)))

  pub paren_adds : {e : ExprSteps} → Correct e (Adds free an_expr) → Correct (paren_form at e) (Adds free an_expr)
  unfolding paren_form
  paren_adds h = adds_then h (λ i. adds_then (adds_any (tracks_point at i)) (λ u. adds_pure i (λ v. omega arith)))

  pub uncalled_adds : (c : Called) → Correct (uncalled_form at c) (Adds free an_expr)
  unfolding uncalled_form
  uncalled_adds c = adds_then (adds_any (tracks_emitted c)) (λ u. adds_expr _ (Some at) (λ v. omega arith))

  pub called_adds : (c : Called) {e : ExprSteps} → Correct e (Adds free an_expr) → Correct (called_form at c e) (Adds free an_expr)
  unfolding called_form
  called_adds c h = adds_then (adds_any (tracks_emitted c)) (λ u. paren_adds h)

  pub operand_adds : (form : ExprId → HirExpr) {e : ExprSteps} → ((i : ExprId) (v : View) → in_expr (form i) v ≤ an_expr i v)
      → Correct e (Adds free an_expr) → Correct (operand_form at form e) (Adds free an_expr)
  unfolding operand_form
  operand_adds form less h = adds_then h (λ i. adds_expr _ (Some at) (less i))

  pub operands_adds : (form : ExprId → ExprId → HirExpr) {a b : ExprSteps}
      → ((i j : ExprId) (v : View) → in_expr (form i j) v ≤ an_expr i v + an_expr j v) → Correct a (Adds free an_expr)
      → Correct b (Adds free an_expr) → Correct (operands_form at form a b) (Adds free an_expr)
  unfolding operands_form
  operands_adds form less ha hb = adds_then ha (λ i. adds_then (adds_beside (an_expr i) hb) (λ j. adds_expr _ (Some at) (less i j)))

  pub value_adds : (form : Option ExprId → HirExpr) {e : Lowering (Option ExprId)}
      → ((o : Option ExprId) (v : View) → in_expr (form o) v ≤ maybe an_expr o v) → Correct e (Adds free (maybe an_expr))
      → Correct (value_form at form e) (Adds free an_expr)
  unfolding value_form
  value_adds form less h = adds_then h (λ o. adds_expr _ (Some at) (less o))

  pub list_adds : (form : Listing) {xs : Lowering (List ExprId)} → Correct xs (Adds free (each an_expr))
      → Correct (list_form at form xs) (Adds free an_expr)
  unfolding list_form
  list_adds (tree.tuple_of false) h = adds_then h (λ is. adds_expr _ (Some at) (λ v. let e = each_is is v in omega arith))
  list_adds (tree.tuple_of true) h = adds_then h (λ is. adds_then (adds_beside (each an_expr is) missing_adds)
      (λ i. adds_expr _ (Some at) (λ v. let e = first_less i is v in omega arith)))
  list_adds tree.array_of h = adds_then h (λ is. adds_expr _ (Some at) (λ v. let e = each_is is v in omega arith))

  pub await_adds : (l : Option AwaitLocation) {e : ExprSteps} → Correct e (Adds free an_expr)
      → Correct (await_form at l e) (Adds free an_expr)
  unfolding await_form
  await_adds l h = adds_then h (λ i. adds_then (adds_any (tracks_report_await at l)) (λ u. adds_expr _ (Some at) (λ v. omega arith)))

  pub field_adds : (name : Name) {e : ExprSteps} → Correct e (Adds free an_expr)
      → Correct (field_form at name e) (Adds free (maybe a_field))
  unfolding field_form
  field_adds name h = adds_then h (λ i. adds_then (adds_any (tracks_point_field i at)) (λ u. adds_pure _ (λ v. omega arith)))

  pub block_form_adds : (is_unsafe : Bool) (label : Option LabelId) (number : Option BlockId) {c : Lowering StoredContents}
      → Correct c (Adds free contents) → Correct (block_form at is_unsafe label number c) (Adds free an_expr)
  unfolding block_form
  block_form_adds is_unsafe label number h = adds_then (adds_any (tracks_enter_block number))
      (λ u. adds_then h (λ r. adds_expr _ (Some at) (settled_block_less is_unsafe label number r)))

  -- those that name types

  pub path_adds : (h : HygieneId) {p : Lowering (Option Path)} → Correct p (Adds free maybe_path)
      → Correct (path_form at h p) (Adds free an_expr)
  unfolding path_form
  path_adds h hp = adds_then hp (λ r. adds_expr _ (Some at) (path_less h r))

  pub cast_adds : {e : ExprSteps} {t : TypeSteps} → Correct e (Adds free an_expr) → Correct t (Adds free a_type)
      → Correct (cast_form at e t) (Adds free an_expr)
  unfolding cast_form
  cast_adds h ht = adds_then h (λ e. adds_then (adds_beside (an_expr e) ht) (λ t. adds_expr _ (Some at)
      (λ v. let x = sum_append v.weight (v.held.expr e) (v.held.type t) in omega arith)))

  pub repeat_adds : {e : ExprSteps} {n : Lowering ConstRef} → Correct e (Adds free an_expr) → Correct n (Adds free a_constant)
      → Correct (repeat_form at e n) (Adds free an_expr)
  unfolding repeat_form
  repeat_adds h k = adds_then h (λ e. adds_then (adds_beside (an_expr e) k) (λ c. adds_expr (hir.Array (array.Repeat e c)) (Some at)
      (λ v. let x = sum_append v.weight (v.held.expr e) (of_constant v.held c) in omega arith)))

  pub const_adds : {n : Lowering ConstRef} → Correct n (Adds free a_constant) → Correct (const_form at n) (Adds free an_expr)
  unfolding const_form
  const_adds h = adds_then h (λ c. adds_expr (hir.Const c) (Some at) (λ v. omega arith))

  pub offset_of_adds : (names : List Name) {t : TypeSteps} → Correct t (Adds free a_type)
      → Correct (offset_of_form at t names) (Adds free an_expr)
  unfolding offset_of_form
  offset_of_adds names ht = adds_then ht (λ i. adds_expr _ (Some at) (λ v. omega arith))

  pub method_call_adds : (name : Name) {e : ExprSteps} {xs : Lowering (List ExprId)} {g : Lowering (Option GenericArgs)}
      → Correct e (Adds free an_expr) → Correct xs (Adds free (each an_expr)) → Correct g (Adds free arguments)
      → Correct (method_call_form at e name xs g) (Adds free an_expr)
  unfolding method_call_form
  method_call_adds name he hx hg = adds_then he (λ i. adds_then (adds_beside (an_expr i) hx)
      (λ is. adds_then (adds_beside (beside (an_expr i) (each an_expr is)) hg)
      (λ a. adds_expr _ (Some at) (method_call_less i name a is))))

  record_of_adds : {c : Lowering StoredFields} → Correct c (Adds free a_record) → (p : Option Path)
      → Correct (record_of at c p) (Adds (maybe_path p) an_expr)
  record_of_adds h None = missing_adds
  record_of_adds h (Some p) = adds_then (adds_beside (maybe_path (Some p)) h) (λ r. adds_expr _ (Some at) (record_less p r))

  pub record_adds : {p : Lowering (Option Path)} {c : Lowering StoredFields} → Correct p (Adds free maybe_path)
      → Correct c (Adds free a_record) → Correct (record_form at p c) (Adds free an_expr)
  unfolding record_form
  record_adds hp h = adds_then hp (λ o. record_of_adds h o)

pub contents_adds : {fs : Lowering (List RecordLitField)} {s : Lowering RecordSpread} → Correct fs (Adds free (each a_field))
    → Correct s (Adds free a_spread) → Correct (record_contents fs s) (Adds free a_record)
unfolding record_contents
contents_adds hf hs = adds_then hf (λ fs. adds_then (adds_beside (each a_field fs) hs) (λ s. adds_pure (fs, s) (λ v. omega arith)))

pub labelled_adds : (label : Option Label) {f : Option LabelId → ExprSteps} → ((o : Option LabelId) → Correct (f o) (Adds free an_expr))
    → Correct (labelled label f) (Adds free an_expr)
unfolding labelled
labelled_adds None h = h None
labelled_adds (Some l) h =
    adds_opened l (λ n. h (Some n)) (λ n i. adds_pure i (λ v. omega arith))

statement_less : (semi : Bool) (o : Option ExprId) (v : View)
    → maybe a_statement (option_map (λ i. statement.Expr i semi) o) v ≤ maybe an_expr o v
statement_less semi None v = omega arith
statement_less semi (Some i) v = omega arith

pub statement_adds : (semi : Bool) {p : Lowering (Option ExprId)} → Correct p (Adds free (maybe an_expr))
    → Correct (p >>= (λ x. pure (option_map (λ i. statement.Expr i semi) x))) (Adds free (maybe a_statement))
statement_adds semi h = adds_then h (λ o. adds_pure _ (statement_less semi o))
