-- What is read of a single node is the same where all that is asked there is answered alike.
use Rattle.std.proofs.Common.{◌≡◌, ◌∙◌, refl, sym, ℕ, zero, suc, Bool, true, false, Option, Some, None, option_map}
use Rattle.hir_base.specs.declared.node.NodeId.{NodeId}
use Rattle.hir_base.specs.declared.op.RangeOp.{RangeOp}
use Rattle.hir_base.specs.declared.op.RangeOp.TheVariants as range
use Rattle.hir_syntax.specs.declared.ast.Label.{Label as AstLabel}
use Rattle.hir_syntax.specs.declared.ast.Lifetime.{Lifetime as AstLifetime}
use Rattle.hir_syntax.specs.declared.ast.Name.{Name as AstName}
use Rattle.hir_syntax.specs.declared.ast.PathSegment.{PathSegment as AstPathSegment, out-PathSegment}
use Rattle.hir_syntax.specs.declared.macros.MacroCall.{MacroCall as AstMacroCall}
use Rattle.hir_alias.specs.Alias.{Alias}
use Rattle.hir_store.specs.declared.ids.CtxId.{CtxId}
use Rattle.hir_store.specs.declared.ids.LangItemId.{LangItemId}
use Rattle.hir_store.specs.declared.name.Name.TheVariants as name
use Rattle.hir_store.specs.declared.path.ModPath.{ModPath}
use Rattle.hir_env.specs.ResolvedTree as tree
use Rattle.hir_env.specs.ResolvedTree.{OptionPat, Pat, Pats, Path, QuestionItems, Side}
use Rattle.hir_env.specs.Answering.{for_items, for_items_if, items_if, question_items}
use Rattle.hir_env.specs.Answers.{Answers}
use Rattle.hir_env.specs.LocalPaths.{is_bare}
use Rattle.hir_env.specs.PathNames.{mod_path_of}
use Rattle.hir_env.specs.Paths.{flags_of}
use Rattle.hir_env.specs.Ranges.{between_form, end_name, is_inclusive, last_name, newer, range_form, record_of, to_form}
use Rattle.hir_env.specs.TypePats.{end_at, end_limit, start_limit, type_pat_of, type_pat_or_none, type_pats_of}
use Rattle.hir_env.specs.declared.expand.FragmentKind.{FragmentKind}
use Rattle.hir_env.specs.declared.lang.LangItems.{LangItems}
use Rattle.hir_env.specs.declared.ctx.LifetimeScope.{LifetimeScope}
use Rattle.hir_env.specs.declared.ctx.LifetimeScope.TheVariants as scope
use Rattle.hir_env.specs.declared.ctx.LoweringMode.{LoweringMode}
use Rattle.hir_env.specs.declared.ctx.LoweringMode.TheVariants as reads
use Rattle.hir_env.specs.declared.ctx.LowerCtx.{LowerCtx}
use Rattle.hir_env.specs.declared.resolved.Resolution.{Resolution}
use Rattle.hir_env.specs.declared.resolved.Resolution.TheVariants as resolution
use Rattle.thm_frame.specs.Questions.{Alike}
use Rattle.thm_frame.specs.Questions as question
use Rattle.thm_reading.specs.LowerCtx.{alias_here, answer, answer_at, binding_mode, def_here, is_named_value, jump_here, label_here}
use Rattle.thm_reading.specs.LowerCtx.{label_text}
use Rattle.thm_reading.specs.LowerCtx.{lifetimes_named, names_it, node, number_here, of_alias, root_at, corresponds_to_value}
use Rattle.thm_reading.specs.LowerCtx as place
use Rattle.thm_reading.specs.Shapes.{at_root, root_if}
use Rattle.thm_enabled.specs.Own as own
use Rattle.thm_enabled.proofs.Agreed.{Agree}

abbrev items_with : Option LangItemId → Option LangItemId → Option LangItemId → Option LangItemId → Option LangItemId → Option QuestionItems
items_with (Some x) (Some y) (Some z) t r = Some (record {
  branch = x;
  goes_on = y;
  breaks = z;
  into_try_type = t;
  from_residual = r;
})
items_with _ _ _ t r = None

items_are : (x y z : Option LangItemId) (i : LangItems)
    → items_if x y z i ≡ items_with x y z i.residual_into_try_type i.try_trait_from_residual
items_are (Some x) (Some y) (Some z) i = refl
items_are (Some x) (Some y) None i = refl
items_are (Some x) None z i = refl
items_are None y z i = refl

questions_are : (i : LangItems)
    → question_items i
    ≡ items_with i.try_trait_branch i.control_flow_continue i.control_flow_break i.residual_into_try_type i.try_trait_from_residual
questions_are i = items_are i.try_trait_branch i.control_flow_continue i.control_flow_break i

flags_named : (x : Option Alias) → flags_of x ≡ lifetimes_named x
flags_named None = refl
flags_named (Some x) = refl

module _ (env other : Answers) where
  -- labels and names

  pub label_same : (p : LowerCtx) (l : Option AstLabel) → Agree env other (own.label_asked p l) → label_here env p l ≡ label_here other p l
  label_same p None g = refl
  label_same p (Some l) g =
      λ i. Some (record { pointer = node p l.id l.range; name = label_text l.lifetime; hygiene = g i })

  pub jump_same : (p : LowerCtx) (l : Option AstLifetime) → Agree env other (own.jump_asked p l)
      → option_map (jump_here env p) l ≡ option_map (jump_here other p) l
  jump_same p None g = refl
  jump_same p (Some l) g =
      λ i. Some (record { pointer = node p l.id l.range; name = name.Text l.t; hygiene = g.0 i; contexts = g.1 i })

  pub name_same : (p : LowerCtx) (n : Option AstName) (by_ref is_mut : Bool) → Agree env other (own.name_asked p n)
      → names_it env p n by_ref is_mut ≡ names_it other p n by_ref is_mut
  name_same p None by_ref is_mut g = refl
  name_same p (Some n) by_ref is_mut g = λ i. record { name = name.Text n.t; hygiene = g i; mode = binding_mode by_ref is_mut }

  pub value_same : (p : LowerCtx) (n : Option AstName) → Agree env other (own.value_asked p n)
      → corresponds_to_value env p n ≡ corresponds_to_value other p n
  value_same p n g = λ i. is_named_value (g i).values

  -- blocks, definitions and calls

  number_by : (m : LoweringMode) (p : LowerCtx) (id : NodeId) → Agree env other (own.number_in m p id)
      → place.number_in env m p id ≡ place.number_in other m p id
  number_by reads.Analysis p id g = g
  number_by reads.Untracked p id g = refl

  pub number_same : (p : LowerCtx) (id : NodeId) → Agree env other (own.number_asked p id) → number_here env p id ≡ number_here other p id
  number_same p id g = number_by p.mode p id g

  pub def_same : (p : LowerCtx) (n : Option AstName) → Agree env other (own.def_asked p n) → def_here env p n ≡ def_here other p n
  def_same p None g = refl
  def_same p (Some n) g = g

  call_by : (n : ℕ) (p : LowerCtx) (c : AstMacroCall) (k : FragmentKind) → Agree env other (own.call_left n p c k)
      → answer_at env n p c k ≡ answer_at other n p c k
  call_by zero p c k g = refl
  call_by (suc n) p c k g = λ i. Some (g i)

  pub call_same : (p : LowerCtx) (c : AstMacroCall) (k : FragmentKind) → Agree env other (own.call_asked p c k)
      → answer env p c k ≡ answer other p c k
  call_same p c k g = call_by p.left p c k g

  -- roots and aliases

  pub root_same : (p : LowerCtx) (id : NodeId) → Agree env other (own.root_asked env p id) → root_at env p id ≡ root_at other p id
  root_same p id g = g.1 ∙ (λ i. other.crate_root (g.0 i))

  root_by : (c : CtxId) (local is_bare : Bool) → Agree env other (own.local_asked env c local)
      → root_if env c local is_bare ≡ root_if other c local is_bare
  root_by c true true g =
      λ i. tree.some_path (tree.path None false (tree.dollar_crate_segment (g i)) tree.no_segments tree.no_path)
  root_by c true false g = refl
  root_by c false true g = refl
  root_by c false false g = refl

  pub local_root_same : (p : LowerCtx) (s : AstPathSegment) (y : Path) → Agree env other (own.local_root_asked env p s)
      → at_root env p s y ≡ at_root other p s y
  local_root_same p s y g =
      let c = env.context (record { file_id = p.file_id; value = (out-PathSegment s).id }) in
      let bare = is_bare (mod_path_of (tree.some_path y)) in
      root_by c (env.local_inner c) bare g.1.1
      ∙ ((λ i. root_if other c (g.1.0 i) bare) ∙ (λ i. root_if other (g.0 i) (other.local_inner (g.0 i)) bare))

  found_same : (r : Option Resolution) → Agree env other (own.alias_found env r) → of_alias env r ≡ of_alias other r
  found_same (Some (resolution.TypeAlias n)) g =
      λ i. Some ((sym (flags_named (env.alias n)) ∙ (g ∙ flags_named (other.alias n))) i)
  found_same _ g = refl

  pub alias_same : (p : LowerCtx) (s : LifetimeScope) (x : Option ModPath) → Agree env other (own.alias_asked env p s x)
      → alias_here env p s x ≡ alias_here other p s x
  alias_same p scope.Input (Some x) g = found_same _ g.1 ∙ (λ i. of_alias other (g.0 i).types)
  alias_same p scope.Input None g = refl
  alias_same p scope.Nowhere x g = refl
  alias_same p scope.Bound x g = refl
  alias_same p scope.Projection x g = refl
  alias_same p scope.Output x g = refl

  -- lang items

  pub for_same : Agree env other own.for_asked → for_items env.lang_items ≡ for_items other.lang_items
  for_same g = λ i. for_items_if (g.0.0 i) (g.0.1 i) (g.1.0 i) (g.1.1 i)

  pub question_same : Agree env other own.question_asked → question_items env.lang_items ≡ question_items other.lang_items
  question_same g = questions_are env.lang_items
      ∙ ((λ i. items_with (g.0.0 i) (g.0.1 i) (g.1.0 i) (g.1.1.0 i) (g.1.1.1 i)) ∙ sym (questions_are other.lang_items))

  from_by : (r : Bool) → Alike env other (question.of_lang_item (own.from_item r))
      → record_of (newer r env.lang_items.range_from_copy env.lang_items.range_from) end_name
      ≡ record_of (newer r other.lang_items.range_from_copy other.lang_items.range_from) end_name
  from_by true g = λ i. record_of (g i) end_name
  from_by false g = λ i. record_of (g i) end_name

  to_by : (r is_inclusive : Bool) → Alike env other (question.of_lang_item (own.to_item r is_inclusive))
      → to_form env.lang_items r is_inclusive ≡ to_form other.lang_items r is_inclusive
  to_by true false g = λ i. record_of (g i) end_name
  to_by false false g = λ i. record_of (g i) end_name
  to_by true true g = λ i. record_of (g i) last_name
  to_by false true g = λ i. record_of (g i) end_name

  between_by : (r is_inclusive : Bool) → Alike env other (question.of_lang_item (own.between_item r is_inclusive))
      → between_form env.lang_items r is_inclusive ≡ between_form other.lang_items r is_inclusive
  between_by true false g = λ i. record_of (g i) end_name
  between_by false false g = λ i. record_of (g i) end_name
  between_by true true g = λ i. record_of (g i) last_name
  between_by false true g = λ i. tree.call_range (g i)

  pub range_same : (p : LowerCtx) (o : Option RangeOp) (x y : Bool) → Agree env other (own.range_asked env p o x y)
      → range_form env.lang_items (env.new_range p.module_id) o x y ≡ range_form other.lang_items (other.new_range p.module_id) o x y
  range_same p o false false g = λ i. record_of (g i) end_name
  range_same p o true false g = from_by (env.new_range p.module_id) g.1
      ∙ (λ i. record_of (newer (g.0 i) other.lang_items.range_from_copy other.lang_items.range_from) end_name)
  range_same p o false true g = to_by (env.new_range p.module_id) (is_inclusive o) g.1
      ∙ (λ i. to_form other.lang_items (g.0 i) (is_inclusive o))
  range_same p o true true g = between_by (env.new_range p.module_id) (is_inclusive o) g.1
      ∙ (λ i. between_form other.lang_items (g.0 i) (is_inclusive o))

  -- patterns in types

  start_same : (s : Side) → Agree env other (own.start_asked s) → start_limit env.lang_items s ≡ start_limit other.lang_items s
  start_same tree.no_side g = λ i. tree.item_limit (g i)
  start_same _ g = refl

  before_same : (o : Option RangeOp) (s : Side) → Agree env other (own.before_asked o)
      → end_at env.lang_items o s ≡ end_at other.lang_items o s
  before_same (Some range.Exclusive) s g = λ i. tree.before_limit (g i) s
  before_same (Some range.Inclusive) s g = refl
  before_same None s g = refl

  end_same : (o : Option RangeOp) (s : Side) → Agree env other (own.end_asked o s)
      → end_limit env.lang_items o s ≡ end_limit other.lang_items o s
  end_same o tree.no_side g = λ i. tree.item_limit (g i)
  end_same o s g = before_same o s g

  mutual
    pat_same : (q : Pat) → Agree env other (own.type_pat_of q) → type_pat_of env.lang_items q ≡ type_pat_of other.lang_items q
    pat_same (tree.leaf_pat at tree.not_null_leaf) g = refl
    pat_same (tree.or_pat at ps) g = λ i. tree.or_type_pat at (pats_same ps g i)
    pat_same (tree.range_pat at o x y) g = λ i. tree.range_type_pat at (start_same x g.0 i) (end_same o y g.1 i)
    pat_same (tree.macro_pat at called tree.no_pat) g = refl
    pat_same (tree.macro_pat at called (tree.some_pat q)) g = λ i. tree.macro_type_pat at called (tree.some_type_pat (pat_same q g i))
    pat_same _ g = refl

    pats_same : (ps : Pats) → Agree env other (own.type_pats_of ps) → type_pats_of env.lang_items ps ≡ type_pats_of other.lang_items ps
    pats_same tree.no_pats g = refl
    pats_same (tree.more_pats q ps) g = λ i. tree.more_type_pats (pat_same q g.0 i) (pats_same ps g.1 i)
    pats_same (tree.tracked_pats called ps) g = pats_same ps g

  pub type_pat_same : (q : OptionPat) → Agree env other (own.type_pat_asked q)
      → type_pat_or_none env.lang_items q ≡ type_pat_or_none other.lang_items q
  type_pat_same tree.no_pat g = refl
  type_pat_same (tree.some_pat q) g = λ i. tree.some_type_pat (pat_same q g i)
