-- What is told of `yield`s is whether one stands in it, and in none of the bodies inside: none does in a type, a path or a pattern.
use Rattle.std.proofs.Common.{◌≡◌, ◌∙◌, refl, sym, Bool, true, false, true≢false, not, ◌||◌, List, [], ◌∷◌}
use Rattle.std.proofs.Common.{Option, Some, None, is_some, option_map}
use Rattle.hir_store.specs.Pointers.{Pointer}
use Rattle.hir_store.specs.declared.diagnostics.AwaitLocation.{AwaitLocation}
use Rattle.hir_store.specs.declared.ids.BlockId.{BlockId}
use Rattle.hir_store.specs.declared.name.Name.{Name}
use Rattle.hir_store.specs.declared.name.Name.TheVariants as name
use Rattle.hir_env.specs.declared.ctx.ImplTrait.{ImplTrait}
use Rattle.hir_env.specs.declared.ctx.ImplTrait.TheVariants as becomes
use Rattle.hir_env.specs.ResolvedTree as tree
use Rattle.hir_env.specs.ResolvedTree.{Arg, Args, Arms, Binder, Block, Bound, Bounds, Called, Constant, Expr, Exprs, Fields, Guard, Label}
use Rattle.hir_env.specs.ResolvedTree.{Lifetime, Limit, Listing, OptionArgs, OptionBlock, OptionExpr, OptionParens, OptionPat, OptionPath}
use Rattle.hir_env.specs.ResolvedTree.{OptionRet, OptionType, OptionTypePat, Param, Params, Parts, Pat, PatField, PatFields, Path, Pats}
use Rattle.hir_env.specs.ResolvedTree.{RangeForm, Segment, SegmentArgs, Segments, Side, Spread, Stmts, Target, TargetFields, Targets}
use Rattle.hir_env.specs.ResolvedTree.{TypePat}
use Rattle.hir_env.specs.ResolvedTree.{TypePats, Type_, UseRead}
use Rattle.hir_env.specs.Conditions.{holds_let}
use Rattle.spec_data.specs.Data.{TypeData}
use Rattle.spec_data.specs.Rule.{PathRead, data_of}
use Rattle.spec_data.specs.Uses.{FirstUses}
use Rattle.spec_data.specs.Written.{path_of}
use Rattle.spec_data.specs.Yields as now
use Rattle.spec_semantics.specs.Left.{gives_value, is_left}
use Rattle.thm_logic.specs.Grades as g
use Rattle.thm_logic.specs.Grading as p
use Rattle.thm_logic.specs.PatNames.{names_after, names_after_each, names_after_field, names_after_part}
use Rattle.thm_logic.specs.PathSeen.{Read, Seen, at_first, ended, goes_on, nothing_seen, own_read, refused, segments_read, whole_read}
use Rattle.thm_round_trip.specs.Yields.{yields}
use Rattle.thm_round_trip.proofs.PathsAgree.{read_alike}
use Rattle.thm_logic.proofs.Yields.{or_assoc, or_false}

-- small parts

both : {a b c d : Bool} → a ≡ b → c ≡ d → (a || c) ≡ (b || d)
both e f = λ i. e i || f i

behind : {a b : Bool} → a ≡ b → (a || false) ≡ b
behind {a = a} e = or_false a ∙ e

-- where none stands in the other
first : {a b c : Bool} → a ≡ b → c ≡ false → (a || c) ≡ b
first {b = b} e f = both e f ∙ or_false b

off_if : (b : Bool) {x : Bool} → x ≡ false → p.if_so yields b x ≡ false
off_if true e = e
off_if false e = refl

missing_off : (b : Bool) {x : Bool} → x ≡ false → p.or_missing yields b x ≡ false
missing_off true e = e
missing_off false e = refl

before_off : (r : Read) (k : Seen → Bool) → ((y : Seen) → k y ≡ false) → p.before yields r k ≡ false
before_off refused k h = refl
before_off (ended x) k h = refl
before_off (goes_on x) k h = h x

lifetime_off : (l : Option Lifetime) → p.grade_lifetime yields l ≡ false
lifetime_off None = refl
lifetime_off (Some l) = refl

impl_off : (mode : ImplTrait) (t : TypeData) → p.grade_impl yields mode t ≡ false
impl_off becomes.Error t = refl
impl_off becomes.Opaque t = refl
impl_off (becomes.Argument def) t = refl

uses_off : (us : List UseRead) → p.grade_uses yields us ≡ false
uses_off [] = refl
uses_off (tree.used_name n ∷ us) = uses_off us
uses_off (tree.used_lifetime l ∷ us) = uses_off us

comma_off : (comma : Bool) → p.behind_comma yields comma false ≡ false
comma_off false = refl
comma_off true = refl

or_off : (at : Pointer) (ps : Pats) → p.grade_or yields at ps ≡ false
or_off at tree.no_pats = refl
or_off at (tree.more_pats q ps) = refl
or_off at (tree.tracked_pats c ps) = or_off at ps

name_off : (n : Name) → p.grade_name_side yields n ≡ false
name_off name.Missing = refl
name_off n = refl

rest_off : (dots : Option Pointer) → p.grade_rest yields dots ≡ false
rest_off None = refl
rest_off (Some at) = refl

target_spread_off : (spread : Option Pointer) → p.grade_spread yields spread ≡ false
target_spread_off None = refl
target_spread_off (Some at) = refl

front_off : (form : Listing) → p.grade_front yields form ≡ false
front_off (tree.tuple_of false) = refl
front_off (tree.tuple_of true) = refl
front_off tree.array_of = refl

await_off : (at : Pointer) (location : Option AwaitLocation) → p.grade_await yields at location ≡ false
await_off at None = refl
await_off at (Some location) = refl

range_off : (form : RangeForm) → p.grade_range yields form ≡ false
range_off (tree.record_range item last) = refl
range_off (tree.call_range item) = refl
range_off tree.itemless_range = refl

uncalled_pat_off : (at : Pointer) (c : Called) → p.grade_uncalled_pat yields at c ≡ false
uncalled_pat_off at tree.callless = refl
uncalled_pat_off at c = refl

uncalled_type_off : (at : Pointer) (c : Called) → p.grade_uncalled_type yields at c ≡ false
uncalled_type_off at tree.callless = refl
uncalled_type_off at c = refl

-- those in bodies inside count there
constant_off : (c : Constant) → g.grade_constant yields c ≡ false
constant_off (tree.constant e) = refl

rooted_off : (c : Constant) → g.grade_rooted yields c ≡ false
rooted_off (tree.constant e) = refl

limit_off : (l : Limit) → g.grade_limit yields l ≡ false
limit_off (tree.item_limit item) = refl
limit_off (tree.side_limit s) = refl
limit_off (tree.before_limit item s) = refl

-- what stands beside a path
beside_path : (F : Bool → Bool → Bool) → ((y : Bool) → F true y ≡ y) → ((y : Bool) → F false y ≡ false) → (q : OptionPath) {x y : Bool}
    → x ≡ y → F (is_some (whole_read q)) x ≡ now.yields_if_read (path_of q) y
beside_path F there gone q {x = x} {y = y} e = by (path_of q) (is_some (whole_read q)) (read_alike q)
  where
    by : (o : Option PathRead) (b : Bool) → is_some (option_map data_of o) ≡ b → F b x ≡ now.yields_if_read o y
    by None true k = absurd (true≢false (sym k))
    by None false k = gone x
    by (Some a) true k = there x ∙ e
    by (Some a) false k = absurd (true≢false k)

-- a disabled one is nothing
kept_is : (e : Expr) {x : Bool} → x ≡ now.expr_yields e → p.kept_of yields e x ≡ now.expr_yields e
kept_is (tree.disabled_expr why e) h = refl
kept_is e h = h

condition_is : (lets : Bool) {x y : Bool} → x ≡ y → p.condition yields lets x ≡ y
condition_is true e = e
condition_is false e = behind e

labelled_is : (label : Option Label) {x y : Bool} → x ≡ y → p.labelled_of yields label x ≡ y
labelled_is None e = e
labelled_is (Some l) e = e

try_is : (typed : Bool) (number : Option BlockId) (st : Stmts) (e : OptionExpr) {x y : Bool} → x ≡ y
    → p.grade_try yields typed number st e x ≡ y
try_is typed number st e h = first h (behind (first (off_if (not (is_left e || gives_value st false)) refl) refl))

mutual
  -- types, paths, arguments and bounds

  type_off : (b : Option Binder) (t : Type_) → g.grade_type_in yields b t ≡ false
  type_off b (tree.paren_type t) = part_off b t
  type_off b (tree.macro_type at c tree.no_type) = uncalled_type_off at c
  type_off b (tree.macro_type at c (tree.some_type t)) = behind (type_off b t)
  type_off b (tree.for_type names t) = part_off (Some names) t
  type_off b (tree.leaf_type at form) = refl
  type_off b (tree.over_type at form t) = behind (part_off None t)
  type_off b (tree.array_type at c t) = both (constant_off c) (behind (part_off None t))
  type_off b (tree.tuple_type at ts) = behind (parts_off ts)
  type_off b (tree.path_type at q) = behind (whole_off q)
  type_off b (tree.ref_type at l mutability t) = first (part_off None t) (behind (lifetime_off l))
  type_off b (tree.fn_type at head ts r) = both (ret_off r) (behind (parts_off ts))
  type_off b (tree.impl_type at mode bs) = first (bounds_off bs) (impl_off mode _)
  type_off b (tree.nested_impl at) = refl
  type_off b (tree.dyn_type at bs) = behind (bounds_off bs)
  type_off b (tree.pattern_type at t own q) = both (part_off None t) (behind (type_pat_part_off q))

  part_off : (b : Option Binder) (t : OptionType) → g.grade_part_in yields b t ≡ false
  part_off b tree.no_type = refl
  part_off b (tree.some_type t) = type_off b t

  ret_off : (t : OptionType) → g.grade_ret yields t ≡ false
  ret_off tree.no_type = refl
  ret_off (tree.some_type t) = type_off None t

  pub present_off : (t : OptionType) → g.grade_present yields t ≡ false
  present_off tree.no_type = refl
  present_off (tree.some_type t) = type_off None t

  parts_off : (ts : Parts) → g.grade_parts yields ts ≡ false
  parts_off tree.no_parts = refl
  parts_off (tree.more_parts t ts) = both (part_off None t) (parts_off ts)

  segment_off : (first' : Bool) (s : Segment) (x : Seen) → g.grade_segment yields first' s x ≡ false
  segment_off f (tree.name_segment n _ as') x = beside_off as'
  segment_off f tree.super_segment x = refl
  segment_off true (tree.type_segment t) x = type_off None t
  segment_off true (tree.trait_segment t at q) x =
      both (type_off None t) (first (whole_off q) (off_if (is_some (whole_read q)) refl))
  segment_off true tree.absent_segment x = refl
  segment_off true tree.broken_segment x = refl
  segment_off true tree.self_type_segment x = refl
  segment_off true tree.crate_segment x = refl
  segment_off true (tree.dollar_crate_segment r) x = refl
  segment_off true tree.self_segment x = refl
  segment_off false tree.absent_segment x = refl
  segment_off false tree.broken_segment x = refl
  segment_off false tree.self_type_segment x = refl
  segment_off false tree.crate_segment x = refl
  segment_off false (tree.dollar_crate_segment r) x = refl
  segment_off false tree.self_segment x = refl
  segment_off false (tree.type_segment t) x = refl
  segment_off false (tree.trait_segment t at q) x = refl

  segments_off : (st : Segments) (x : Seen) → g.grade_segments yields st x ≡ false
  segments_off tree.no_segments x = refl
  segments_off (tree.more_segments s st) x =
      both (segments_off st x) (before_off (segments_read st x) _ (λ y. segment_off false s y))

  path_off : (q : Path) (x : Seen) → g.grade_path yields q x ≡ false
  path_off (tree.path alias leading s rest use_) x =
      both (both (segments_off rest x) (before_off (segments_read rest x) _ (λ y. segment_off true s (at_first leading y))))
      (before_off (own_read leading s rest x) _ (λ y. outer_off use_ y))

  outer_off : (q : OptionPath) (x : Seen) → g.grade_outer yields q x ≡ false
  outer_off tree.no_path x = refl
  outer_off (tree.some_path q) x = path_off q x

  whole_off : (q : OptionPath) → g.grade_whole yields q ≡ false
  whole_off tree.no_path = refl
  whole_off (tree.some_path q) = path_off q nothing_seen

  beside_off : (as' : SegmentArgs) → g.grade_beside yields as' ≡ false
  beside_off (tree.segment_args as' ps dots) = both (args_off as') (off_if _ (parens_off ps))

  parens_off : (ps : OptionParens) → g.grade_parens yields ps ≡ false
  parens_off tree.no_parens = refl
  parens_off (tree.some_parens ts r) = both (parts_off ts) (output_off r)

  output_off : (r : OptionRet) → g.grade_output yields r ≡ false
  output_off tree.no_ret = refl
  output_off (tree.some_ret t) = part_off None t

  args_off : (as' : OptionArgs) → g.grade_args yields as' ≡ false
  args_off tree.no_arg_list = refl
  args_off (tree.some_arg_list as') = each_arg_off as'

  each_arg_off : (as' : Args) → g.grade_each yields as' ≡ false
  each_arg_off tree.no_args = refl
  each_arg_off (tree.more_args a as') = both (arg_off a) (each_arg_off as')

  arg_off : (a : Arg) → g.grade_arg yields a ≡ false
  arg_off tree.skipped_arg = refl
  arg_off (tree.type_arg t) = part_off None t
  arg_off (tree.lifetime_arg l) = refl
  arg_off (tree.const_arg c) = constant_off c
  arg_off (tree.assoc_arg n as' dots t bs) = both (args_off as') (both (present_off t) (bounds_off bs))

  bounds_off : (bs : Bounds) → g.grade_bounds yields bs ≡ false
  bounds_off tree.no_bounds = refl
  bounds_off (tree.more_bounds b bs) = both (bound_off b) (bounds_off bs)

  bound_off : (b : Bound) → g.grade_bound yields b ≡ false
  bound_off tree.error_bound = refl
  bound_off (tree.path_bound at q maybe binder) = first (whole_off q) (off_if (is_some (whole_read q)) refl)
  bound_off (tree.lifetime_bound l) = refl
  bound_off (tree.use_bound us) = uses_off us

  -- patterns of types

  type_pat_off : (q : TypePat) → g.grade_type_pat yields q ≡ false
  type_pat_off (tree.not_null_type_pat at) = refl
  type_pat_off (tree.macro_type_pat at c tree.no_type_pat) = uncalled_pat_off at c
  type_pat_off (tree.macro_type_pat at c (tree.some_type_pat q)) = behind (type_pat_off q)
  type_pat_off (tree.or_type_pat at ps) = behind (type_pats_off ps)
  type_pat_off (tree.range_type_pat at low high) = both (limit_off low) (behind (limit_off high))
  type_pat_off (tree.other_type_pat at) = refl

  type_pat_part_off : (q : OptionTypePat) → g.grade_type_pat_part yields q ≡ false
  type_pat_part_off tree.no_type_pat = refl
  type_pat_part_off (tree.some_type_pat q) = type_pat_off q

  type_pats_off : (ps : TypePats) → g.grade_type_pats yields ps ≡ false
  type_pats_off tree.no_type_pats = refl
  type_pats_off (tree.more_type_pats q ps) = both (type_pat_off q) (type_pats_off ps)

  -- patterns

  side_off : (s : Side) → g.grade_side yields s ≡ false
  side_off tree.no_side = refl
  side_off (tree.literal_side at l) = refl
  side_off (tree.name_side at n _) = name_off n
  side_off (tree.path_side at q) = first (whole_off q) (off_if (is_some (whole_read q)) refl)
  side_off tree.other_side = refl

  pat_off : (q : Pat) (us : FirstUses) → g.grade_pat yields q us ≡ false
  pat_off (tree.leaf_pat at form) us = refl
  pat_off (tree.bind_pat at u _ sub) us = first (subpat_off sub us) (behind (off_if _ refl))
  pat_off (tree.name_pat at u _) us = refl
  pat_off (tree.path_pat at q) us = behind (whole_off q)
  pat_off (tree.tuple_struct_pat at q comma ps) us = both (whole_off q)
      (missing_off (is_some (whole_read q)) (first (elements_off ps us) (behind (comma_off comma))))
  pat_off (tree.tuple_pat at comma ps) us = first (elements_off ps us) (behind (comma_off comma))
  pat_off (tree.record_pat at q fs dots) us = both (whole_off q) (missing_off (is_some (whole_read q)) (behind (pat_fields_off fs us)))
  pat_off (tree.or_pat at ps) us = alternatives_off at ps us
  pat_off (tree.paren_pat at q) us = pat_part_off q us
  pat_off (tree.macro_pat at c tree.no_pat) us = uncalled_pat_off at c
  pat_off (tree.macro_pat at c (tree.some_pat q)) us = behind (pat_off q us)
  pat_off (tree.barred_pat at) us = refl
  pat_off (tree.slice_pat at before middle after) us =
      both (pats_off before us) (both (subpat_off middle (names_after_each before us))
      (behind (pats_off after (names_after_part middle (names_after_each before us)))))
  pat_off (tree.over_pat at form q) us = behind (pat_part_off q us)
  pat_off (tree.literal_pat at own l) us = refl
  pat_off (tree.range_pat at op low high) us = both (side_off low) (behind (side_off high))

  alternatives_off : (at : Pointer) (ps : Pats) (us : FirstUses) → g.grade_alternatives yields at ps us ≡ false
  alternatives_off at tree.no_pats us = refl
  alternatives_off at (tree.more_pats q ps) us =
      both (pat_off q us) (first (pats_off ps (names_after q us)) (or_off at ps))
  alternatives_off at (tree.tracked_pats c ps) us = alternatives_off at ps us

  pat_part_off : (q : OptionPat) (us : FirstUses) → g.grade_pat_part yields q us ≡ false
  pat_part_off tree.no_pat us = refl
  pat_part_off (tree.some_pat q) us = pat_off q us

  subpat_off : (q : OptionPat) (us : FirstUses) → g.grade_subpat yields q us ≡ false
  subpat_off tree.no_pat us = refl
  subpat_off (tree.some_pat q) us = pat_off q us

  pub top_off : (q : OptionPat) → g.grade_top yields q ≡ false
  top_off tree.no_pat = refl
  top_off (tree.some_pat q) = pat_off q []

  pats_off : (ps : Pats) (us : FirstUses) → g.grade_pats yields ps us ≡ false
  pats_off tree.no_pats us = refl
  pats_off (tree.more_pats q ps) us = both (pat_off q us) (pats_off ps (names_after q us))
  pats_off (tree.tracked_pats c ps) us = pats_off ps us

  elements_off : (ps : Pats) (us : FirstUses) → g.grade_elements yields ps us ≡ false
  elements_off tree.no_pats us = refl
  elements_off (tree.more_pats q ps) us = both (off_if _ (pat_off q us)) (elements_off ps (names_after q us))
  elements_off (tree.tracked_pats c ps) us = elements_off ps us

  pat_fields_off : (fs : PatFields) (us : FirstUses) → g.grade_pat_fields yields fs us ≡ false
  pat_fields_off tree.no_pat_fields us = refl
  pat_fields_off (tree.more_pat_fields f fs) us = both (pat_field_off f us) (pat_fields_off fs (names_after_field f us))

  pat_field_off : (f : PatField) (us : FirstUses) → g.grade_pat_field yields f us ≡ false
  pat_field_off (tree.disabled_pat_field at by f) us = refl
  pat_field_off tree.partless_pat_field us = refl
  pat_field_off (tree.pat_field at n q) us = pat_off q us

mutual
  -- the assignee expression

  target_is : (t : Target) → g.grade_target yields t ≡ now.target_yields t
  target_is (tree.absent_target call) = refl
  target_is (tree.place_target at e) = behind (expr_is e)
  target_is (tree.macro_target None c t) = target_is t
  target_is (tree.macro_target (Some at) c t) = behind (target_is t)
  target_is (tree.wild_target at) = refl
  target_is (tree.path_target at q h) = behind (path_off q nothing_seen)
  target_is (tree.tuple_target at ts) = behind (targets_are ts)
  target_is (tree.call_target at q ts) = both (whole_off q)
      (beside_path (p.or_missing_target yields at.call) (λ y. refl) (λ y. refl) q (behind (targets_are ts)))
  target_is (tree.array_target at before dots after) =
      both (targets_are before) (first (targets_are after) (behind (rest_off dots)))
  target_is (tree.record_target at q fs dots spread) = both (whole_off q)
      (beside_path (p.or_missing_target yields at.call) (λ y. refl) (λ y. refl) q
      (both (target_spread_off spread) (behind (target_fields_are fs))))

  targets_are : (ts : Targets) → g.grade_targets yields ts ≡ now.targets_yields ts
  targets_are tree.no_targets = refl
  targets_are (tree.more_targets t ts) = both (target_is t) (targets_are ts)
  targets_are (tree.dots_targets ts) = targets_are ts
  targets_are (tree.tracked_targets c ts) = targets_are ts

  target_fields_are : (fs : TargetFields) → g.grade_target_fields yields fs ≡ now.target_fields_yields fs
  target_fields_are tree.no_target_fields = refl
  target_fields_are (tree.more_target_fields (tree.disabled_target_field at by) fs) = target_fields_are fs
  target_fields_are (tree.more_target_fields tree.partless_target_field fs) = target_fields_are fs
  target_fields_are (tree.more_target_fields (tree.target_field at n t) fs) = both (target_is t) (target_fields_are fs)

  -- expressions

  expr_is : (e : Expr) → g.grade_expr yields e ≡ now.expr_yields e
  expr_is (tree.disabled_expr why e) = refl
  expr_is (tree.if_expr at c t e) = both (block_part_is t) (both (present_is e) (behind (expr_part_is c)))
  expr_is (tree.block_expr b) = block_is b
  expr_is (tree.loop_expr at label _ b) = block_part_is b
  expr_is (tree.while_expr at label _ c b) = both (block_part_is b) (behind (condition_is (holds_let c) (expr_part_is c)))
  expr_is (tree.for_expr at items label _ q h b) = both (expr_part_is h) (both (top_off q) (behind (behind (expr_part_is b))))
  expr_is (tree.question_expr at items e) = behind (expr_part_is e)
  expr_is (tree.itemless_expr at) = refl
  expr_is (tree.try_expr at item tree.no_type number st e) = try_is false number st e (stmts_are st e (kept_part_is e))
  expr_is (tree.try_expr at item (tree.some_type t) number st e) =
      first (try_is true number st e (stmts_are st e (kept_part_is e))) (behind (type_off None t))
  expr_is (tree.coroutine_expr at kind moves number st e) = refl
  expr_is (tree.call_expr at f has_list es) = both (expr_part_is f) (behind (exprs_are es))
  expr_is (tree.path_expr at q h) = behind (whole_off q)
  expr_is (tree.continue_expr at jump) = refl
  expr_is (tree.break_expr at jump e) = behind (present_is e)
  expr_is (tree.paren_expr at e) = expr_part_is e
  expr_is (tree.macro_expr at c e) = expr_part_is e
  expr_is (tree.literal_expr at l) = refl
  expr_is (tree.leaf_expr at form) = refl
  expr_is (tree.unary_expr at form e) = behind (expr_part_is e)
  expr_is (tree.binary_expr at form a b) = both (expr_part_is a) (behind (expr_part_is b))
  expr_is (tree.lazy_expr at op a b) = both (expr_part_is a) (behind (expr_part_is b))
  expr_is (tree.list_expr at form es) = first (exprs_are es) (front_off form)
  expr_is (tree.repeat_expr at e c) = first (expr_part_is e) (behind (constant_off c))
  expr_is (tree.const_expr at c) = behind (rooted_off c)
  expr_is (tree.closure_expr at moves is_static xs t e) = refl
  expr_is (tree.coroutine_closure_expr at kind moves xs t e) = refl
  expr_is (tree.method_call_expr at e n es generics) = both (expr_part_is e) (first (exprs_are es) (behind (args_off generics)))
  expr_is (tree.cast_expr at e t) = first (expr_part_is e) (behind (part_off None t))
  expr_is (tree.record_expr at q head fs s) = both (whole_off q)
      (beside_path (p.record_of yields) (λ y. or_false y) (λ y. refl) q (both (fields_are fs) (spread_is s)))
  expr_is (tree.offset_of_expr at t names) = behind (part_off None t)
  expr_is (tree.leaving_expr at form e) = behind (present_is e)
  expr_is (tree.become_expr at e) = behind (expr_part_is e)
  expr_is (tree.yield_expr at e) = refl
  expr_is (tree.await_expr at location e) = first (expr_part_is e) (behind (await_off at location))
  expr_is (tree.nameless_expr at e) = behind (expr_part_is e)
  expr_is (tree.let_expr at q e) = both (top_off q) (behind (expr_part_is e))
  expr_is (tree.match_expr at e arms) = both (expr_part_is e) (behind (arms_are arms))
  expr_is (tree.range_expr at form low high) = both (present_is low) (first (present_is high) (range_off form))
  expr_is (tree.assign_expr at own t e) = both (target_is t) (behind (expr_part_is e))

  pub expr_part_is : (e : OptionExpr) → g.grade_expr_part yields e ≡ now.yields_in e
  expr_part_is tree.no_expr = refl
  expr_part_is (tree.some_expr e) = expr_is e

  present_is : (e : OptionExpr) → g.grade_expr_present yields e ≡ now.yields_in e
  present_is tree.no_expr = refl
  present_is (tree.some_expr e) = expr_is e

  kept_part_is : (e : OptionExpr) → g.grade_kept yields e ≡ now.yields_in e
  kept_part_is tree.no_expr = refl
  kept_part_is (tree.some_expr e) = kept_is e (expr_is e)

  exprs_are : (es : Exprs) → g.grade_exprs yields es ≡ now.each_yields es
  exprs_are tree.no_exprs = refl
  exprs_are (tree.more_exprs e es) = both (kept_is e (expr_is e)) (exprs_are es)

  fields_are : (fs : Fields) → g.grade_fields yields fs ≡ now.fields_yields fs
  fields_are tree.no_fields = refl
  fields_are (tree.more_fields (tree.disabled_field at by f) fs) = fields_are fs
  fields_are (tree.more_fields (tree.nameless_field at e) fs) = fields_are fs
  fields_are (tree.more_fields (tree.named_field at n e) fs) = both (expr_part_is e) (fields_are fs)

  arms_are : (arms : Arms) → g.grade_arms yields arms ≡ now.arms_yields arms
  arms_are tree.no_arms = refl
  arms_are (tree.more_arms (tree.disabled_arm at by a) arms) = arms_are arms
  arms_are (tree.more_arms (tree.arm q e when) arms) = both (both (top_off q) (both (expr_part_is e) (guard_is when))) (arms_are arms)

  guard_is : (when : Guard) → g.grade_guard yields when ≡ now.guard_yields when
  guard_is tree.no_guard = refl
  guard_is (tree.guard e) = expr_part_is e

  spread_is : (s : Spread) → g.grade_expr_spread yields s ≡ now.spread_yields s
  spread_is tree.no_spread = refl
  spread_is tree.field_defaults = refl
  spread_is (tree.spread_of e) = expr_is e

  block_is : (b : Block) → g.grade_block yields b ≡ now.block_yields b
  block_is (tree.block at is_unsafe label _ number st e) = labelled_is label (behind (stmts_are st e (kept_part_is e)))

  block_part_is : (b : OptionBlock) → g.grade_block_part yields b ≡ now.block_part_yields b
  block_part_is tree.no_block = refl
  block_part_is (tree.some_block b) = block_is b

  block_present_is : (b : OptionBlock) → g.grade_block_present yields b ≡ now.block_part_yields b
  block_present_is tree.no_block = refl
  block_present_is (tree.some_block b) = block_is b

  stmts_are : (st : Stmts) (e : OptionExpr) → g.grade_kept yields e ≡ now.yields_in e
      → g.grade_stmts yields st (g.grade_kept yields e) ≡ (now.stmts_yields st || now.yields_in e)
  stmts_are tree.no_stmts e h = h
  stmts_are (tree.more_stmts (tree.disabled_stmt at by s) st) e h = stmts_are st e h
  stmts_are (tree.more_stmts (tree.expr_stmt x semi) st) e h =
      both (kept_part_is x) (stmts_are st e h) ∙ sym (or_assoc (now.yields_in x) (now.stmts_yields st) (now.yields_in e))
  stmts_are (tree.more_stmts tree.item_stmt st) e h = stmts_are st e h
  stmts_are (tree.more_stmts (tree.call_stmt c) st) e h = stmts_are st e h
  stmts_are (tree.more_stmts (tree.macro_stmt k None) st) e h = stmts_are st e h
  stmts_are (tree.more_stmts (tree.macro_stmt k (Some d)) st) e h = stmts_are st e h
  stmts_are (tree.more_stmts (tree.let_stmt q t x b) st) e h =
      both (both (top_off q) (both (present_off t) (both (present_is x) (block_present_is b)))) (stmts_are st e h)
      ∙ sym (or_assoc (now.yields_in x || now.block_part_yields b) (now.stmts_yields st) (now.yields_in e))

-- parameters of closures

param_off : (x : Param) → g.grade_param yields x ≡ false
param_off (tree.disabled_param at by x) = refl
param_off (tree.param q t) = both (top_off q) (present_off t)

pub params_off : (xs : Params) → g.grade_params yields xs ≡ false
params_off tree.no_params = refl
params_off (tree.more_params x xs) = both (param_off x) (params_off xs)
