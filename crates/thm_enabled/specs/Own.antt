-- What is asked at a single node, as the rules of reading name it.
use Rattle.std.specs.Prelude.{ℕ, zero, suc, Bool, true, false, [], ◌∷◌, Option, Some, None}
use Rattle.hir_base.specs.declared.node.NodeId.{NodeId}
use Rattle.hir_base.specs.declared.op.RangeOp.{RangeOp}
use Rattle.hir_base.specs.declared.op.RangeOp.TheVariants as range
use Rattle.hir_syntax.specs.declared.ast.Label.{Label as AstLabel}
use Rattle.hir_syntax.specs.declared.ast.Lifetime.{Lifetime as AstLifetime}
use Rattle.hir_syntax.specs.declared.ast.Name.{Name as AstName}
use Rattle.hir_syntax.specs.declared.ast.PathSegment.{PathSegment as AstPathSegment, out-PathSegment}
use Rattle.hir_syntax.specs.declared.macros.MacroCall.{MacroCall as AstMacroCall}
use Rattle.hir_store.specs.Pointers.{Pointer}
use Rattle.hir_store.specs.declared.ids.CtxId.{CtxId}
use Rattle.hir_store.specs.declared.name.Name.TheVariants as name
use Rattle.hir_store.specs.declared.path.ModPath.{ModPath}
use Rattle.hir_store.specs.declared.path.PathKind.TheVariants as start
use Rattle.hir_env.specs.ResolvedTree as tree
use Rattle.hir_env.specs.ResolvedTree.{Expr, Exprs, Field, Fields, OptionExpr, OptionPat, Pat, Pats, Path, Side}
use Rattle.hir_env.specs.Answers.{Answers}
use Rattle.hir_env.specs.Calls.{times}
use Rattle.hir_env.specs.Layers.{Defined}
use Rattle.hir_env.specs.NodeMap.{Site}
use Rattle.hir_env.specs.PathNames.{mod_path_of}
use Rattle.hir_env.specs.Ranges.{is_inclusive}
use Rattle.hir_env.specs.declared.expand.FragmentKind.{FragmentKind}
use Rattle.hir_env.specs.declared.ctx.LifetimeScope.{LifetimeScope}
use Rattle.hir_env.specs.declared.ctx.LifetimeScope.TheVariants as scope
use Rattle.hir_env.specs.declared.ctx.LoweringMode.{LoweringMode}
use Rattle.hir_env.specs.declared.ctx.LoweringMode.TheVariants as reads
use Rattle.hir_env.specs.declared.ctx.LowerCtx.{LowerCtx}
use Rattle.hir_env.specs.declared.resolved.Resolution.{Resolution}
use Rattle.hir_env.specs.declared.resolved.Resolution.TheVariants as resolution
use Rattle.hir_env.specs.declared.resolved.BuiltinShadowMode.TheVariants as shadow
use Rattle.thm_frame.specs.Items.{LangItem}
use Rattle.thm_frame.specs.Items as item
use Rattle.thm_frame.specs.Questions as question
use Rattle.thm_reading.specs.LowerCtx.{call_node, name_text, node, site}
use Rattle.thm_enabled.specs.Asks.{Asks, nothing, ask, both}

-- conditions, hygiene, labels and names

abbrev pub cfg_asked : Pointer → Asks
cfg_asked s = ask (question.of_cfg (site s))

abbrev pub hygiene_asked : Pointer → Asks
hygiene_asked s = ask (question.of_hygiene (site s))

abbrev pub label_asked : LowerCtx → Option AstLabel → Asks
label_asked p None = nothing
label_asked p (Some l) = hygiene_asked (node p l.id l.range)

abbrev pub jump_asked : LowerCtx → Option AstLifetime → Asks
jump_asked p None = nothing
jump_asked p (Some l) = both (hygiene_asked (node p l.id l.range)) (ask question.of_contexts)

abbrev pub name_asked : LowerCtx → Option AstName → Asks
name_asked p None = nothing
name_asked p (Some n) = hygiene_asked (node p n.id n.range)

-- what a plain name stands for where it might not bind
abbrev pub value_asked : LowerCtx → Option AstName → Asks
value_asked p n = ask (question.of_resolve p.module_id (record { kind = start.Plain; segments = name_text n ∷ [] }) shadow.Other)

-- blocks and definitions

abbrev pub number_in : LoweringMode → LowerCtx → NodeId → Asks
number_in reads.Analysis p id = ask (question.of_block (record { file_id = p.file_id; value = id }) p.module_id)
number_in reads.Untracked p id = nothing

abbrev pub number_asked : LowerCtx → NodeId → Asks
number_asked p id = number_in p.mode p id

abbrev pub def_asked : LowerCtx → Option AstName → Asks
def_asked p None = nothing
def_asked p (Some n) = ask (question.of_macro_def p.module_id (name.Text n.t))

abbrev pub rules_asked : LowerCtx → AstName → Defined → Asks
rules_asked p n d = ask (question.of_legacy_macro p.module_id (name.Text n.t) (times (name.Text n.t) d))

-- calls, where one may be entered

abbrev pub call_left : ℕ → LowerCtx → AstMacroCall → FragmentKind → Asks
call_left zero p c k = nothing
call_left (suc n) p c k = ask (question.of_expand (site (call_node p c)) c p.module_id k)

abbrev pub call_asked : LowerCtx → AstMacroCall → FragmentKind → Asks
call_asked p c k = call_left p.left p c k

-- lang items

abbrev pub item_asked : LangItem → Asks
item_asked i = ask (question.of_lang_item i)

abbrev pub for_asked : Asks
for_asked = both (both (item_asked item.into_iter_into_iter) (item_asked item.iterator_next))
    (both (item_asked item.option_some) (item_asked item.option_none))

abbrev pub question_asked : Asks
question_asked = both (both (item_asked item.try_trait_branch) (item_asked item.control_flow_continue))
    (both (item_asked item.control_flow_break)
    (both (item_asked item.residual_into_try_type) (item_asked item.try_trait_from_residual)))

-- by whether ranges are made as the newer items
abbrev pub from_item : Bool → LangItem
from_item true = item.range_from_copy
from_item false = item.range_from

abbrev pub to_item : Bool → Bool → LangItem
to_item is_new false = item.range_to
to_item true true = item.range_to_inclusive_copy
to_item false true = item.range_to_inclusive

abbrev pub between_item : Bool → Bool → LangItem
between_item true false = item.range_copy
between_item false false = item.range
between_item true true = item.range_inclusive_copy
between_item false true = item.range_inclusive_new

-- a limit of a range in a type that isn't written, and the last before the end

abbrev pub start_asked : Side → Asks
start_asked tree.no_side = item_asked item.range_min
start_asked _ = nothing

abbrev pub before_asked : Option RangeOp → Asks
before_asked (Some range.Exclusive) = item_asked item.range_sub
before_asked _ = nothing

abbrev pub end_asked : Option RangeOp → Side → Asks
end_asked o tree.no_side = item_asked item.range_max
end_asked o _ = before_asked o

abbrev mutual
  pub type_pat_of : Pat → Asks
  type_pat_of (tree.or_pat at ps) = type_pats_of ps
  type_pat_of (tree.range_pat at o a b) = both (start_asked a) (end_asked o b)
  type_pat_of (tree.macro_pat at called tree.no_pat) = nothing
  type_pat_of (tree.macro_pat at called (tree.some_pat p)) = type_pat_of p
  type_pat_of _ = nothing

  pub type_pats_of : Pats → Asks
  type_pats_of tree.no_pats = nothing
  type_pats_of (tree.more_pats p ps) = both (type_pat_of p) (type_pats_of ps)
  type_pats_of (tree.tracked_pats called ps) = type_pats_of ps

abbrev pub type_pat_asked : OptionPat → Asks
type_pat_asked tree.no_pat = nothing
type_pat_asked (tree.some_pat p) = type_pat_of p

-- the assignee expression: what each path stands for that may be a pattern

abbrev pub names : Path → Option ModPath
names x = mod_path_of (tree.some_path x)

abbrev pub found_asked : LowerCtx → Option ModPath → Asks
found_asked p None = nothing
found_asked p (Some x) = ask (question.of_resolve p.module_id x shadow.Local)

abbrev mutual
  pub target_of : LowerCtx → Expr → Asks
  target_of p (tree.disabled_expr why e) = target_of p e
  target_of p (tree.paren_expr at e) = target_asked p e
  target_of p (tree.macro_expr at called e) = target_asked p e
  target_of p (tree.list_expr at form es) = targets_of p es
  target_of p (tree.call_expr at f has_list es) = targets_of p es
  target_of p (tree.path_expr at tree.no_path h) = nothing
  target_of p (tree.path_expr at (tree.some_path x) h) = found_asked p (names x)
  target_of p (tree.record_expr at x head fs s) = target_fields_of p fs
  target_of p _ = nothing

  pub target_asked : LowerCtx → OptionExpr → Asks
  target_asked p tree.no_expr = nothing
  target_asked p (tree.some_expr e) = target_of p e

  pub targets_of : LowerCtx → Exprs → Asks
  targets_of p tree.no_exprs = nothing
  targets_of p (tree.more_exprs e es) = both (target_of p e) (targets_of p es)

  pub target_fields_of : LowerCtx → Fields → Asks
  target_fields_of p tree.no_fields = nothing
  target_fields_of p (tree.more_fields f fs) = both (target_field_of p f) (target_fields_of p fs)

  pub target_field_of : LowerCtx → Field → Asks
  target_field_of p (tree.disabled_field at by f) = nothing
  target_field_of p (tree.nameless_field at e) = target_asked p e
  target_field_of p (tree.named_field at n e) = target_asked p e

-- what depends on what was answered
module _ (env : Answers) where
  abbrev pub root_asked : LowerCtx → NodeId → Asks
  root_asked p id = let s : Site = record { file_id = p.file_id; value = id } in
      both (ask (question.of_context s)) (ask (question.of_crate_root (env.context s)))

  -- the root of the crate of its macro, which is asked for where the macro is local
  abbrev pub local_asked : CtxId → Bool → Asks
  local_asked c true = ask (question.of_crate_root c)
  local_asked c false = nothing

  abbrev pub local_root_asked : LowerCtx → AstPathSegment → Asks
  local_root_asked p s =
      let at : Site = record { file_id = p.file_id; value = (out-PathSegment s).id } in
      let c = env.context at in
      both (ask (question.of_context at)) (both (ask (question.of_local_inner c)) (local_asked c (env.local_inner c)))

  -- an alias in an argument
  abbrev pub alias_found : Option Resolution → Asks
  alias_found (Some (resolution.TypeAlias n)) = ask (question.of_alias n)
  alias_found _ = nothing

  abbrev pub alias_asked : LowerCtx → LifetimeScope → Option ModPath → Asks
  alias_asked p scope.Input (Some x) =
      both (ask (question.of_resolve p.module_id x shadow.Module)) (alias_found (env.resolve p.module_id x shadow.Module).types)
  alias_asked p _ _ = nothing

  -- a range, by whether there is a start and an end
  abbrev pub range_asked : LowerCtx → Option RangeOp → Bool → Bool → Asks
  range_asked p o false false = item_asked item.range_full
  range_asked p o true false = both (ask (question.of_new_range p.module_id)) (item_asked (from_item (env.new_range p.module_id)))
  range_asked p o false true = both (ask (question.of_new_range p.module_id))
      (item_asked (to_item (env.new_range p.module_id) (is_inclusive o)))
  range_asked p o true true = both (ask (question.of_new_range p.module_id))
      (item_asked (between_item (env.new_range p.module_id) (is_inclusive o)))
