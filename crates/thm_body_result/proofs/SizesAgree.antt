-- As much as is told of a tree is its size.
use Rattle.std.proofs.Common.{Bool, true, false, not, ◌||◌, List, [], ◌∷◌, map, Option, Some, None, is_some}
use Rattle.hir_store.specs.Pointers.{Pointer}
use Rattle.hir_store.specs.declared.diagnostics.AwaitLocation.{AwaitLocation}
use Rattle.hir_store.specs.declared.hir.CoroutineKind.{CoroutineKind}
use Rattle.hir_store.specs.declared.ids.BlockId.{BlockId}
use Rattle.hir_store.specs.declared.name.Name.{Name}
use Rattle.hir_store.specs.declared.name.Name.TheVariants as name
use Rattle.hir_env.specs.declared.ctx.ImplTrait.{ImplTrait}
use Rattle.hir_env.specs.declared.ctx.ImplTrait.TheVariants as becomes
use Rattle.hir_env.specs.ResolvedTree as tree
use Rattle.hir_env.specs.ResolvedTree.{Arg, Args, Arm, Arms, Binder, Block, Bound, Bounds, Called, Constant, Expr, Exprs, Field, Fields}
use Rattle.hir_env.specs.ResolvedTree.{Formal}
use Rattle.hir_env.specs.ResolvedTree.{Formals, Guard, Label, Lifetime, Limit, Listing, OptionArgs, OptionBlock, OptionExpr, OptionParens}
use Rattle.hir_env.specs.ResolvedTree.{OptionPat, OptionPath, OptionRet, OptionType, OptionTypePat, Param, Params, Parts, Pat, PatField}
use Rattle.hir_env.specs.ResolvedTree.{PatFields, Path, Pats, RangeForm, Segment, SegmentArgs, Segments, SelfFormal, Side, Spread, Stmt}
use Rattle.hir_env.specs.ResolvedTree.{Stmts}
use Rattle.hir_env.specs.ResolvedTree.{Target, TargetField, TargetFields, Targets, TypePat, TypePats, Type_, UseRead}
use Rattle.hir_env.specs.Conditions.{holds_let}
use Rattle.spec_data.specs.Patterns.{ellipsis_of, is_dots, written_pat}
use Rattle.spec_data.specs.Targets.{target_dots}
use Rattle.spec_data.specs.Tops.{params_tops}
use Rattle.spec_data.specs.Uses.{FirstUses}
use Rattle.spec_data.specs.Written.{type_data}
use Rattle.spec_semantics.specs.InnerWritten.{constant_body, limit_body}
use Rattle.spec_semantics.specs.Left.{gives_value, is_kept, is_left}
use Rattle.thm_body_result.specs.Bodies.{grade_body, grade_formals, grade_self}
use Rattle.thm_body_result.specs.Formals.{formals_read}
use Rattle.thm_logic.specs.Grades as g
use Rattle.thm_logic.specs.Grading as p
use Rattle.thm_body_result.specs.PatRoom as now
use Rattle.thm_logic.specs.PatNames.{is_known, names_after, names_after_each, names_after_field, names_after_part}
use Rattle.thm_body_result.specs.PathRoom as walk
use Rattle.thm_logic.specs.PathSeen.{Read, Seen, at_first, ended, goes_on, nothing_seen, own_read, refused, segments_read, whole_read}
use Rattle.thm_logic.specs.PathSeen.{yields}
use Rattle.thm_body_result.specs.PreludeRoom.{handed_size, prelude_size, self_let_size}
use Rattle.thm_body_result.specs.Room as room
use Rattle.thm_body_result.specs.Size as size
use Rattle.thm_body_result.specs.Size.{Size, an_expr, dots_behind, nothing, ◌∪◌}
use Rattle.thm_body_result.specs.Sizes.{bodies_sized, sizes}
use Rattle.thm_body_result.proofs.SameSizes.{all_owned, behind, both, in_body, in_front, same, same_then}
use Rattle.thm_body_result.proofs.Took.{Same, moved_in, moved_out, nothing_first}

-- small parts

if_is : (b : Bool) {n k : Size} → Same n k → Same (p.if_so sizes b n) (size.if_so b k)
if_is true h = h
if_is false h = same nothing

before_is : (r : Read) (k : Seen → Size) {f : Seen → Size} → ((y : Seen) → Same (k y) (f y)) → Same (p.before sizes r k) (walk.before r f)
before_is refused k h = same nothing
before_is (ended x) k h = same nothing
before_is (goes_on x) k h = h x

lifetime_is : (l : Option Lifetime) → Same (p.grade_lifetime sizes l) (walk.lifetime_size l)
lifetime_is None = same nothing
lifetime_is (Some l) = same _

use_is : (u : UseRead) → Same (p.grade_use sizes u) (walk.use_size u)
use_is (tree.used_name n) = same nothing
use_is (tree.used_lifetime l) = same _

uses_are : (us : List UseRead) → Same (p.grade_uses sizes us) (walk.uses_size us)
uses_are [] = same nothing
uses_are (u ∷ us) = both (use_is u) (uses_are us)

impl_is : (b : Option Binder) (at : Pointer) (mode : ImplTrait) (bs : Bounds)
    → Same (p.grade_impl sizes mode (type_data b (tree.impl_type at mode bs))) (size.an_impl mode at)
impl_is b at becomes.Error bs = same _
impl_is b at becomes.Opaque bs = same _
impl_is b at (becomes.Argument def) bs = same _

missing_is : (b : Bool) {n k : Size} → Same n k → Same (p.or_missing sizes b n) (size.or_missing b k)
missing_is true h = h
missing_is false h = same _

missing_target_is : (call : Option Pointer) (b : Bool) {n k : Size} → Same n k
    → Same (p.or_missing_target sizes call b n) (size.or_missing_target call b k)
missing_target_is call true h = h
missing_target_is call false h = same _

-- the expression of a record, behind what it has where its path is read
record_is : (b : Bool) {n k : Size} → Same n k → Same (p.record_of sizes b n) (size.if_so b k ∪ an_expr)
record_is true h = both h (same an_expr)
record_is false h = nothing_first an_expr

comma_is : (comma : Bool) (n : Size) → Same (p.behind_comma sizes comma n) (n ∪ now.front_pat_size comma)
comma_is false n = in_front n
comma_is true n = same _

or_is : (at : Pointer) (ps : Pats) → Same (p.grade_or sizes at ps) (now.or_behind at ps)
or_is at tree.no_pats = same nothing
or_is at (tree.more_pats q ps) = same _
or_is at (tree.tracked_pats c ps) = or_is at ps

behind_is : (s : Stmt) {n k : Size} → Same n k → Same (p.grade_behind sizes s n) k
behind_is (tree.macro_stmt k (Some d)) h = h
behind_is s h = h

name_side_is : (n : Name) → Same (p.grade_name_side sizes n) (now.name_side_size n)
name_side_is name.Missing = same nothing
name_side_is n = same _

rest_is : (dots : Option Pointer) → Same (p.grade_rest sizes dots) (now.rest_size dots)
rest_is None = same nothing
rest_is (Some at) = same _

spread_none : (spread : Option Pointer) {n k : Size} → Same n k → Same (p.grade_spread sizes spread ∪ n) k
spread_none None h = behind h
spread_none (Some at) h = behind h

front_is : (form : Listing) → Same (p.grade_front sizes form) (room.front_size form ∪ an_expr)
front_is (tree.tuple_of false) = nothing_first an_expr
front_is (tree.tuple_of true) = same _
front_is tree.array_of = nothing_first an_expr

await_none : (at : Pointer) (location : Option AwaitLocation) {n k : Size} → Same n k → Same (p.grade_await sizes at location ∪ n) k
await_none at None h = behind h
await_none at (Some location) h = behind h

range_is : (form : RangeForm) → Same (p.grade_range sizes form) (now.range_size form)
range_is (tree.record_range item last) = same _
range_is (tree.call_range item) = same _
range_is tree.itemless_range = same _

condition_is : (lets : Bool) {n k : Size} → Same n k → Same (p.condition sizes lets n) (size.a_condition lets k)
condition_is true h = h
condition_is false h = both h (same (size.a_generated_name ∪ size.a_made_bind ∪ an_expr ∪ an_expr))

for_iteration_is : {n k : Size} → Same n k → Same (p.for_iteration sizes n) (size.a_for_iteration k)
for_iteration_is h = both (same ((an_expr ∪ an_expr) ∪ size.an_item_call))
    (both (same (size.a_pat None ∪ an_expr)) (both (both (same (size.a_pat None)) h) (same (an_expr ∪ an_expr))))

-- a disabled one is nothing
kept_is : (e : Expr) {n k : Size} → Same n k → Same (p.kept_of sizes e n) (size.if_so (is_kept e) k)
kept_is (tree.disabled_expr why e) h = same nothing
kept_is e h = h

uncalled_pat_is : (at : Pointer) (c : Called) → Same (p.grade_uncalled_pat sizes at c) (size.uncalled_pat_size at c)
uncalled_pat_is at tree.callless = same _
uncalled_pat_is at c = behind (same (size.a_pat None ∪ size.a_pat_call at))

uncalled_type_is : (at : Pointer) (c : Called) → Same (p.grade_uncalled_type sizes at c) (size.uncalled_type_size at c)
uncalled_type_is at tree.callless = same _
uncalled_type_is at c = behind (same (size.a_type None ∪ size.a_type_call at))

labelled_is : (label : Option Label) {n k : Size} → Same n k → Same (p.labelled_of sizes label n) (room.label_size label ∪ k)
labelled_is None {k = k} h = same_then h (nothing_first k)
labelled_is (Some l) h = both (same size.a_label) h

looped_is : (label : Option Label) {n k : Size} → Same n k → Same (sizes.looped label n) (room.label_size label ∪ (k ∪ an_expr))
looped_is label h = both (same (room.label_size label)) (both h (same an_expr))

abbrev try_size : Stmts → OptionExpr → Size
try_size st e =
    (size.a_generated_name ∪ size.a_label) ∪ (room.stmts_size st ∪ room.size_kept e) ∪ (an_expr ∪ room.unit_size st e ∪ an_expr) ∪ an_expr

try_is : (has_type : Bool) (number : Option BlockId) (st : Stmts) (e : OptionExpr) {n : Size}
    → Same n (room.stmts_size st ∪ room.size_kept e)
    → Same (p.grade_try sizes has_type number st e n) (try_size st e)
try_is has_type number st e h = both (same (size.a_generated_name ∪ size.a_label)) (behind (both h
    (both (both (same an_expr) (both (if_is (not (is_left e || gives_value st false)) (same an_expr)) (same an_expr))) (same an_expr))))

mutual
  -- types, paths, arguments and bounds

  pub type_is : (b : Option Binder) (t : Type_) → Same (g.grade_type_in sizes b t) (room.type_size t)
  type_is b (tree.paren_type t) = part_is b t
  type_is b (tree.macro_type at c tree.no_type) = uncalled_type_is at c
  type_is b (tree.macro_type at c (tree.some_type t)) = behind (both (type_is b t) (same (size.a_type_call at)))
  type_is b (tree.for_type names t) = part_is (Some names) t
  type_is b (tree.leaf_type at form) = same _
  type_is b (tree.over_type at form t) = both (part_is None t) (same (size.a_type (Some at)))
  type_is b (tree.array_type at c t) = both (constant_is c) (both (part_is None t) (same (size.a_type (Some at))))
  type_is b (tree.tuple_type at ts) = both (parts_are ts) (same (size.a_type (Some at)))
  type_is b (tree.path_type at q) = both (whole_is q) (same (size.a_type (Some at)))
  type_is b (tree.ref_type at l mutability t) = both (part_is None t) (both (lifetime_is l) (same (size.a_type (Some at))))
  type_is b (tree.fn_type at head ts r) = both (ret_is r) (both (parts_are ts) (same (size.a_type (Some at))))
  type_is b (tree.impl_type at mode bs) = both (bounds_are bs) (impl_is b at mode bs)
  type_is b (tree.nested_impl at) = same _
  type_is b (tree.dyn_type at bs) = both (bounds_are bs) (same (size.a_type (Some at)))
  type_is b (tree.pattern_type at t own q) = both (part_is None t) (both (type_pat_part_is q) (same (size.a_type (Some at))))

  pub part_is : (b : Option Binder) (t : OptionType) → Same (g.grade_part_in sizes b t) (room.type_part_size t)
  part_is b tree.no_type = same _
  part_is b (tree.some_type t) = type_is b t

  ret_is : (t : OptionType) → Same (g.grade_ret sizes t) (room.type_part_size t)
  ret_is tree.no_type = same _
  ret_is (tree.some_type t) = type_is None t

  present_is : (t : OptionType) → Same (g.grade_present sizes t) (room.present_size t)
  present_is tree.no_type = same nothing
  present_is (tree.some_type t) = type_is None t

  parts_are : (ts : Parts) → Same (g.grade_parts sizes ts) (room.parts_size ts)
  parts_are tree.no_parts = same nothing
  parts_are (tree.more_parts t ts) = both (part_is None t) (parts_are ts)

  pub segment_is : (first : Bool) (s : Segment) (x : Seen) → Same (g.grade_segment sizes first s x) (room.segment_size first s x)
  segment_is first (tree.name_segment n _ as') x = beside_is as'
  segment_is first tree.super_segment x = same _
  segment_is true (tree.type_segment t) x = type_is None t
  segment_is true (tree.trait_segment t at q) x =
      both (type_is None t) (both (whole_is q) (if_is (is_some (whole_read q)) (same (size.a_type (Some at)))))
  segment_is true tree.absent_segment x = same nothing
  segment_is true tree.broken_segment x = same nothing
  segment_is true tree.self_type_segment x = same nothing
  segment_is true tree.crate_segment x = same nothing
  segment_is true (tree.dollar_crate_segment r) x = same nothing
  segment_is true tree.self_segment x = same nothing
  segment_is false tree.absent_segment x = same nothing
  segment_is false tree.broken_segment x = same nothing
  segment_is false tree.self_type_segment x = same nothing
  segment_is false tree.crate_segment x = same nothing
  segment_is false (tree.dollar_crate_segment r) x = same nothing
  segment_is false tree.self_segment x = same nothing
  segment_is false (tree.type_segment t) x = same nothing
  segment_is false (tree.trait_segment t at q) x = same nothing

  pub segments_are : (st : Segments) (x : Seen) → Same (g.grade_segments sizes st x) (room.segments_size st x)
  segments_are tree.no_segments x = same nothing
  segments_are (tree.more_segments s st) x =
      both (segments_are st x) (before_is (segments_read st x) (λ y. g.grade_segment sizes false s y) (λ y. segment_is false s y))

  path_is : (q : Path) (x : Seen) → Same (g.grade_path sizes q x) (room.path_size q x)
  path_is (tree.path alias leading s rest use_) x =
      both (both (segments_are rest x) (before_is (segments_read rest x)
      (λ y. g.grade_segment sizes true s (at_first leading y)) (λ y. segment_is true s (at_first leading y))))
      (before_is (own_read leading s rest x) (λ y. g.grade_outer sizes use_ y) (λ y. outer_is use_ y))

  outer_is : (q : OptionPath) (x : Seen) → Same (g.grade_outer sizes q x) (room.outer_size q x)
  outer_is tree.no_path x = same nothing
  outer_is (tree.some_path q) x = path_is q x

  pub whole_is : (q : OptionPath) → Same (g.grade_whole sizes q) (room.whole_size q)
  whole_is tree.no_path = same nothing
  whole_is (tree.some_path q) = path_is q nothing_seen

  beside_is : (as' : SegmentArgs) → Same (g.grade_beside sizes as') (room.beside_size as')
  beside_is (tree.segment_args as' ps dots) = both (args_are as') (if_is (not (yields as')) (parens_are ps))

  parens_are : (ps : OptionParens) → Same (g.grade_parens sizes ps) (room.parens_size ps)
  parens_are tree.no_parens = same nothing
  parens_are (tree.some_parens ts r) = both (parts_are ts) (both (same (size.a_type None)) (output_is r))

  output_is : (r : OptionRet) → Same (g.grade_output sizes r) (room.output_size r)
  output_is tree.no_ret = same _
  output_is (tree.some_ret t) = part_is None t

  pub args_are : (as' : OptionArgs) → Same (g.grade_args sizes as') (room.args_size as')
  args_are tree.no_arg_list = same nothing
  args_are (tree.some_arg_list as') = each_arg_is as'

  each_arg_is : (as' : Args) → Same (g.grade_each sizes as') (room.each_arg_size as')
  each_arg_is tree.no_args = same nothing
  each_arg_is (tree.more_args a as') = both (arg_is a) (each_arg_is as')

  arg_is : (a : Arg) → Same (g.grade_arg sizes a) (room.arg_size a)
  arg_is tree.skipped_arg = same nothing
  arg_is (tree.type_arg t) = part_is None t
  arg_is (tree.lifetime_arg l) = same _
  arg_is (tree.const_arg c) = constant_is c
  arg_is (tree.assoc_arg n as' dots t bs) = both (args_are as') (both (present_is t) (bounds_are bs))

  bounds_are : (bs : Bounds) → Same (g.grade_bounds sizes bs) (room.bounds_size bs)
  bounds_are tree.no_bounds = same nothing
  bounds_are (tree.more_bounds b bs) = both (bound_is b) (bounds_are bs)

  bound_is : (b : Bound) → Same (g.grade_bound sizes b) (room.bound_size b)
  bound_is tree.error_bound = same nothing
  bound_is (tree.path_bound at q maybe binder) = both (whole_is q) (if_is (is_some (whole_read q)) (same (size.a_type (Some at))))
  bound_is (tree.lifetime_bound l) = same _
  bound_is (tree.use_bound us) = uses_are us

  constant_is : (c : Constant) → Same (g.grade_constant sizes c) (room.constant_size c)
  constant_is (tree.constant e) = in_body (constant_body e) (all_owned (expr_part_is e))

  rooted_is : (c : Constant) → Same (g.grade_rooted sizes c) (room.rooted_size c)
  rooted_is (tree.constant e) = in_body (constant_body e) (expr_part_is e)

  -- patterns of types

  type_pat_is : (q : TypePat) → Same (g.grade_type_pat sizes q) (room.type_pat_size q)
  type_pat_is (tree.not_null_type_pat at) = same _
  type_pat_is (tree.macro_type_pat at c tree.no_type_pat) = uncalled_pat_is at c
  type_pat_is (tree.macro_type_pat at c (tree.some_type_pat q)) = behind (both (type_pat_is q) (same (size.a_pat_call at)))
  type_pat_is (tree.or_type_pat at ps) = both (type_pats_are ps) (same (size.a_pat (Some at)))
  type_pat_is (tree.range_type_pat at low high) = both (limit_is low) (both (limit_is high) (same (size.a_pat (Some at))))
  type_pat_is (tree.other_type_pat at) = same _

  type_pat_part_is : (q : OptionTypePat) → Same (g.grade_type_pat_part sizes q) (room.type_pat_part_size q)
  type_pat_part_is tree.no_type_pat = same _
  type_pat_part_is (tree.some_type_pat q) = type_pat_is q

  type_pats_are : (ps : TypePats) → Same (g.grade_type_pats sizes ps) (room.type_pats_size ps)
  type_pats_are tree.no_type_pats = same nothing
  type_pats_are (tree.more_type_pats q ps) = both (type_pat_is q) (type_pats_are ps)

  limit_is : (l : Limit) → Same (g.grade_limit sizes l) (room.limit_size l)
  limit_is (tree.item_limit item) = same _
  limit_is (tree.side_limit s) = in_body (limit_body (tree.side_limit s)) (limit_side_is s)
  limit_is (tree.before_limit item s) = in_body (limit_body (tree.before_limit item s)) (both (limit_side_is s) (same (an_expr ∪ an_expr)))

  limit_side_is : (s : Side) → Same (g.grade_limit_side sizes s) (room.limit_side_size s)
  limit_side_is tree.no_side = same _
  limit_side_is (tree.literal_side at l) = same _
  limit_side_is (tree.name_side at n _) = same _
  limit_side_is (tree.path_side at q) = both (whole_is q) (same an_expr)
  limit_side_is tree.other_side = same _

  -- patterns

  side_is : (s : Side) → Same (g.grade_side sizes s) (room.side_size s)
  side_is tree.no_side = same nothing
  side_is (tree.literal_side at l) = same _
  side_is (tree.name_side at n _) = name_side_is n
  side_is (tree.path_side at q) = both (whole_is q) (if_is (is_some (whole_read q)) (same an_expr))
  side_is tree.other_side = same nothing

  pat_is : (q : Pat) (us : FirstUses) → Same (g.grade_pat sizes q us) (room.pat_size q us)
  pat_is (tree.leaf_pat at form) us = same _
  pat_is (tree.bind_pat at u _ sub) us =
      both (subpat_is sub us) (both (if_is (not (is_known (names_after_part sub us) u)) (same size.a_binding))
      (same (size.a_pat (Some at))))
  pat_is (tree.name_pat at u _) us = same _
  pat_is (tree.path_pat at q) us = both (whole_is q) (same (size.a_pat (Some at)))
  pat_is (tree.tuple_struct_pat at q comma ps) us = both (whole_is q)
      (missing_is (is_some (whole_read q)) (both (elements_are ps us)
      (both (comma_is comma (dots_behind (ellipsis_of comma ps))) (same (size.a_pat (Some at))))))
  pat_is (tree.tuple_pat at comma ps) us = both (elements_are ps us)
      (both (comma_is comma (dots_behind (ellipsis_of comma ps))) (same (size.a_pat (Some at))))
  pat_is (tree.record_pat at q fs dots) us =
      both (whole_is q) (missing_is (is_some (whole_read q)) (both (pat_fields_are fs us) (same (size.a_pat (Some at)))))
  pat_is (tree.or_pat at ps) us = alternatives_are at ps us
  pat_is (tree.paren_pat at q) us = pat_part_is q us
  pat_is (tree.macro_pat at c tree.no_pat) us = uncalled_pat_is at c
  pat_is (tree.macro_pat at c (tree.some_pat q)) us = behind (both (pat_is q us) (same (size.a_pat_call at)))
  pat_is (tree.barred_pat at) us = behind (same (size.a_pat None))
  pat_is (tree.slice_pat at before middle after) us =
      both (pats_are before us) (both (subpat_is middle (names_after_each before us))
      (both (pats_are after (names_after_part middle (names_after_each before us))) (same (size.a_pat (Some at)))))
  pat_is (tree.over_pat at form q) us = both (pat_part_is q us) (same (size.a_pat (Some at)))
  pat_is (tree.literal_pat at own l) us = same _
  pat_is (tree.range_pat at op low high) us = both (side_is low) (both (side_is high) (same (size.a_pat (Some at))))

  alternatives_are : (at : Pointer) (ps : Pats) (us : FirstUses)
      → Same (g.grade_alternatives sizes at ps us) (room.pats_size ps us ∪ now.or_size at ps)
  alternatives_are at tree.no_pats us = nothing_first (size.a_pat (Some at))
  alternatives_are at (tree.more_pats q ps) us =
      same_then (both (pat_is q us) (both (pats_are ps (names_after q us)) (or_is at ps)))
      (moved_in (room.pat_size q us) (room.pats_size ps (names_after q us)) (now.or_behind at ps))
  alternatives_are at (tree.tracked_pats c ps) us = behind (alternatives_are at ps us)

  pat_part_is : (q : OptionPat) (us : FirstUses) → Same (g.grade_pat_part sizes q us) (room.pat_part_size q us)
  pat_part_is tree.no_pat us = same _
  pat_part_is (tree.some_pat q) us = pat_is q us

  subpat_is : (q : OptionPat) (us : FirstUses) → Same (g.grade_subpat sizes q us) (room.subpat_size q us)
  subpat_is tree.no_pat us = same nothing
  subpat_is (tree.some_pat q) us = pat_is q us

  top_is : (q : OptionPat) → Same (g.grade_top sizes q) (room.top_size q)
  top_is tree.no_pat = same _
  top_is (tree.some_pat q) = pat_is q []

  pats_are : (ps : Pats) (us : FirstUses) → Same (g.grade_pats sizes ps us) (room.pats_size ps us)
  pats_are tree.no_pats us = same nothing
  pats_are (tree.more_pats q ps) us = both (pat_is q us) (pats_are ps (names_after q us))
  pats_are (tree.tracked_pats c ps) us = behind (pats_are ps us)

  elements_are : (ps : Pats) (us : FirstUses) → Same (g.grade_elements sizes ps us) (room.elements_size ps us)
  elements_are tree.no_pats us = same nothing
  elements_are (tree.more_pats q ps) us = both (if_is (not (is_dots q)) (pat_is q us)) (elements_are ps (names_after q us))
  elements_are (tree.tracked_pats c ps) us = behind (elements_are ps us)

  pat_fields_are : (fs : PatFields) (us : FirstUses) → Same (g.grade_pat_fields sizes fs us) (room.pat_fields_size fs us)
  pat_fields_are tree.no_pat_fields us = same nothing
  pat_fields_are (tree.more_pat_fields f fs) us = both (pat_field_is f us) (pat_fields_are fs (names_after_field f us))

  pat_field_is : (f : PatField) (us : FirstUses) → Same (g.grade_pat_field sizes f us) (room.pat_field_size f us)
  pat_field_is (tree.disabled_pat_field at by f) us = same nothing
  pat_field_is tree.partless_pat_field us = same nothing
  pat_field_is (tree.pat_field at n q) us = pat_is q us

  -- the assignee expression

  target_is : (t : Target) → Same (g.grade_target sizes t) (room.target_size t)
  target_is (tree.absent_target call) = same _
  target_is (tree.place_target at e) = both (expr_is e) (same (size.a_made_pat (Some at)))
  target_is (tree.macro_target None c t) = behind (target_is t)
  target_is (tree.macro_target (Some at) c t) = behind (both (target_is t) (same (size.a_target_mapping at)))
  target_is (tree.wild_target at) = same _
  target_is (tree.path_target at q h) = both (path_is q nothing_seen) (same (size.a_target at))
  target_is (tree.tuple_target at ts) = both (targets_are ts) (same (dots_behind (target_dots ts) ∪ size.a_target at))
  target_is (tree.call_target at q ts) =
      both (whole_is q) (missing_target_is at.call (is_some (whole_read q))
      (both (targets_are ts) (same (dots_behind (target_dots ts) ∪ size.a_target at))))
  target_is (tree.array_target at before dots after) =
      both (targets_are before) (both (targets_are after) (both (rest_is dots) (same (size.a_target at))))
  target_is (tree.record_target at q fs dots spread) = both (whole_is q)
      (missing_target_is at.call (is_some (whole_read q)) (spread_none spread (both (target_fields_are fs) (same (size.a_target at)))))

  targets_are : (ts : Targets) → Same (g.grade_targets sizes ts) (room.targets_size ts)
  targets_are tree.no_targets = same nothing
  targets_are (tree.more_targets t ts) = both (target_is t) (targets_are ts)
  targets_are (tree.dots_targets ts) = targets_are ts
  targets_are (tree.tracked_targets c ts) = behind (targets_are ts)

  target_fields_are : (fs : TargetFields) → Same (g.grade_target_fields sizes fs) (room.target_fields_size fs)
  target_fields_are tree.no_target_fields = same nothing
  target_fields_are (tree.more_target_fields f fs) = both (target_field_is f) (target_fields_are fs)

  target_field_is : (f : TargetField) → Same (g.grade_target_field sizes f) (room.target_field_size f)
  target_field_is (tree.disabled_target_field at by) = same nothing
  target_field_is tree.partless_target_field = same nothing
  target_field_is (tree.target_field at n t) = target_is t

  -- expressions

  expr_is : (e : Expr) → Same (g.grade_expr sizes e) (room.size e)
  expr_is (tree.disabled_expr why e) = behind (same an_expr)
  expr_is (tree.if_expr at c t e) = both (block_part_is t) (both (expr_present_is e) (both (expr_part_is c) (same an_expr)))
  expr_is (tree.block_expr b) = block_is b
  expr_is (tree.loop_expr at label _ b) = looped_is label (block_part_is b)
  expr_is (tree.while_expr at label _ c b) =
      looped_is label (both (block_part_is b) (both (condition_is (holds_let c) (expr_part_is c)) (same (an_expr ∪ an_expr))))
  expr_is (tree.for_expr at items label _ q h b) = both (expr_part_is h) (both (same size.an_item_call) (both (top_is q)
      (both (same size.a_generated_name)
      (both (same size.a_made_bind) (both (looped_is label (for_iteration_is (expr_part_is b))) (same an_expr))))))
  expr_is (tree.question_expr at items e) = both (expr_part_is e) (same (size.an_item_call ∪ size.a_flow_arm an_expr
      ∪ size.a_flow_arm (an_expr ∪ size.an_item_call ∪ an_expr) ∪ an_expr))
  expr_is (tree.itemless_expr at) = same _
  expr_is (tree.try_expr at item tree.no_type number st e) = try_is false number st e (stmts_are st e (kept_part_is e))
  expr_is (tree.try_expr at item (tree.some_type t) number st e) =
      both (try_is true number st e (stmts_are st e (kept_part_is e))) (both (same size.a_generated_name)
      (both (type_is None t) (same (size.a_made_bind ∪ an_expr ∪ an_expr))))
  expr_is (tree.coroutine_expr at kind moves number st e) = all_owned (both (stmts_are st e (kept_part_is e)) (same (an_expr ∪ an_expr)))
  expr_is (tree.call_expr at f has_list es) = both (expr_part_is f) (both (exprs_are es) (same an_expr))
  expr_is (tree.path_expr at q h) = both (whole_is q) (same an_expr)
  expr_is (tree.continue_expr at jump) = behind (same an_expr)
  expr_is (tree.break_expr at jump e) = behind (both (expr_present_is e) (same an_expr))
  expr_is (tree.paren_expr at e) = expr_part_is e
  expr_is (tree.macro_expr at c e) = behind (expr_part_is e)
  expr_is (tree.literal_expr at l) = same _
  expr_is (tree.leaf_expr at form) = same _
  expr_is (tree.unary_expr at form e) = both (expr_part_is e) (same an_expr)
  expr_is (tree.binary_expr at form a b) = both (expr_part_is a) (both (expr_part_is b) (same an_expr))
  expr_is (tree.lazy_expr at op a b) = both (expr_part_is a) (both (expr_part_is b) (same an_expr))
  expr_is (tree.list_expr at form es) = both (exprs_are es) (front_is form)
  expr_is (tree.repeat_expr at e c) = both (expr_part_is e) (both (constant_is c) (same an_expr))
  expr_is (tree.const_expr at c) = all_owned (both (rooted_is c) (same an_expr))
  expr_is (tree.closure_expr at moves is_static xs t e) =
      all_owned (both (params_are xs) (both (present_is t) (both (expr_part_is e) (same an_expr))))
  expr_is (tree.coroutine_closure_expr at kind moves xs t e) =
      let ys = map written_pat (params_tops xs) in
      all_owned (both (all_owned (both (params_are xs) (both (present_is t)
      (both (expr_part_is e) (same (prelude_size ys ∪ an_expr ∪ an_expr)))))) (same (handed_size ys ∪ an_expr)))
  expr_is (tree.method_call_expr at e n es generics) =
      both (expr_part_is e) (both (exprs_are es) (both (args_are generics) (same an_expr)))
  expr_is (tree.cast_expr at e t) = both (expr_part_is e) (both (part_is None t) (same an_expr))
  expr_is (tree.record_expr at q head fs s) =
      both (whole_is q) (record_is (is_some (whole_read q)) (both (fields_are fs) (expr_spread_is s)))
  expr_is (tree.offset_of_expr at t names) = both (part_is None t) (same an_expr)
  expr_is (tree.leaving_expr at form e) = both (expr_present_is e) (same an_expr)
  expr_is (tree.become_expr at e) = both (expr_part_is e) (same an_expr)
  expr_is (tree.yield_expr at e) = both (expr_present_is e) (same an_expr)
  expr_is (tree.await_expr at location e) = both (expr_part_is e) (await_none at location (same an_expr))
  expr_is (tree.nameless_expr at e) = both (expr_part_is e) (same an_expr)
  expr_is (tree.let_expr at q e) = both (top_is q) (both (expr_part_is e) (same an_expr))
  expr_is (tree.match_expr at e arms) = both (expr_part_is e) (both (arms_are arms) (same an_expr))
  expr_is (tree.range_expr at form low high) = both (expr_present_is low) (both (expr_present_is high) (range_is form))
  expr_is (tree.assign_expr at own t e) = both (target_is t) (both (expr_part_is e) (same an_expr))

  params_are : (xs : Params) → Same (g.grade_params sizes xs) (room.params_size xs)
  params_are tree.no_params = same nothing
  params_are (tree.more_params x xs) = both (param_is x) (params_are xs)

  param_is : (x : Param) → Same (g.grade_param sizes x) (room.param_size x)
  param_is (tree.disabled_param at by x) = same nothing
  param_is (tree.param q t) = both (top_is q) (present_is t)

  pub expr_part_is : (e : OptionExpr) → Same (g.grade_expr_part sizes e) (room.size_part e)
  expr_part_is tree.no_expr = same _
  expr_part_is (tree.some_expr e) = expr_is e

  expr_present_is : (e : OptionExpr) → Same (g.grade_expr_present sizes e) (room.size_present e)
  expr_present_is tree.no_expr = same nothing
  expr_present_is (tree.some_expr e) = expr_is e

  kept_part_is : (e : OptionExpr) → Same (g.grade_kept sizes e) (room.size_kept e)
  kept_part_is tree.no_expr = same nothing
  kept_part_is (tree.some_expr e) = kept_is e (expr_is e)

  exprs_are : (es : Exprs) → Same (g.grade_exprs sizes es) (room.size_each es)
  exprs_are tree.no_exprs = same nothing
  exprs_are (tree.more_exprs e es) = both (kept_is e (expr_is e)) (exprs_are es)

  fields_are : (fs : Fields) → Same (g.grade_fields sizes fs) (room.fields_size fs)
  fields_are tree.no_fields = same nothing
  fields_are (tree.more_fields f fs) = both (field_is f) (fields_are fs)

  field_is : (f : Field) → Same (g.grade_field sizes f) (room.field_size f)
  field_is (tree.disabled_field at by f) = same nothing
  field_is (tree.nameless_field at e) = same nothing
  field_is (tree.named_field at n e) = expr_part_is e

  arms_are : (arms : Arms) → Same (g.grade_arms sizes arms) (room.arms_size arms)
  arms_are tree.no_arms = same nothing
  arms_are (tree.more_arms a arms) = both (arm_is a) (arms_are arms)

  arm_is : (a : Arm) → Same (g.grade_arm sizes a) (room.arm_size a)
  arm_is (tree.disabled_arm at by a) = same nothing
  arm_is (tree.arm q e when) = both (top_is q) (both (expr_part_is e) (guard_is when))

  guard_is : (when : Guard) → Same (g.grade_guard sizes when) (room.guard_size when)
  guard_is tree.no_guard = same nothing
  guard_is (tree.guard e) = expr_part_is e

  expr_spread_is : (s : Spread) → Same (g.grade_expr_spread sizes s) (room.spread_size s)
  expr_spread_is tree.no_spread = same nothing
  expr_spread_is tree.field_defaults = same nothing
  expr_spread_is (tree.spread_of e) = expr_is e

  block_is : (b : Block) → Same (g.grade_block sizes b) (room.block_size b)
  block_is (tree.block at is_unsafe label _ number st e) =
      labelled_is label (behind (same_then (both (stmts_are st e (kept_part_is e)) (same an_expr))
      (moved_out (room.stmts_size st) (room.size_kept e) an_expr)))

  block_part_is : (b : OptionBlock) → Same (g.grade_block_part sizes b) (room.block_part_size b)
  block_part_is tree.no_block = same _
  block_part_is (tree.some_block b) = block_is b

  block_present_is : (b : OptionBlock) → Same (g.grade_block_present sizes b) (room.block_present_size b)
  block_present_is tree.no_block = same nothing
  block_present_is (tree.some_block b) = block_is b

  stmts_are : (st : Stmts) (e : OptionExpr) → Same (g.grade_kept sizes e) (room.size_kept e)
      → Same (g.grade_stmts sizes st (g.grade_kept sizes e)) (room.stmts_size st ∪ room.size_kept e)
  stmts_are tree.no_stmts e h = same_then h (nothing_first (room.size_kept e))
  stmts_are (tree.more_stmts s st) e h =
      same_then (both (stmt_is s) (behind_is s (stmts_are st e h))) (moved_in (room.stmt_size s) (room.stmts_size st) (room.size_kept e))

  stmt_is : (s : Stmt) → Same (g.grade_stmt sizes s) (room.stmt_size s)
  stmt_is (tree.expr_stmt e semi) = kept_part_is e
  stmt_is (tree.disabled_stmt at by s) = same nothing
  stmt_is tree.item_stmt = same nothing
  stmt_is (tree.call_stmt c) = same nothing
  stmt_is (tree.macro_stmt k d) = same _
  stmt_is (tree.let_stmt q t e b) = both (top_is q) (both (present_is t) (both (expr_present_is e) (block_present_is b)))

-- bodies behind their parameters

self_is : (s : SelfFormal) → Same (grade_self sizes s) (room.self_size s)
self_is tree.no_self = same nothing
self_is (tree.disabled_self at by) = same nothing
self_is (tree.self_formal at u _) = same _

formals_are : (skipped : Bool) (fs : List Formal) → Same (grade_formals sizes skipped fs) (room.tops_size (formals_read skipped fs))
formals_are skipped [] = same nothing
formals_are false (tree.disabled_formal at by ∷ fs) = behind (formals_are false fs)
formals_are true (tree.disabled_formal at by ∷ fs) = behind (formals_are true fs)
formals_are true (tree.formal q ∷ fs) = both (same (size.a_pat None)) (formals_are true fs)
formals_are false (tree.formal q ∷ fs) = both (top_is q) (formals_are false fs)

pub body_is : (kind : Option CoroutineKind) (skipped : Bool) (f : Formals) (e : OptionExpr)
    → Same (grade_body sizes bodies_sized kind skipped f e) (room.body_size kind skipped f e)
body_is None skipped f e = both (both (self_is f.receiver) (formals_are skipped f.formals)) (expr_part_is e)
body_is (Some kind) skipped f e =
    let ys = room.formals_data skipped f.formals in
    both (self_is f.receiver) (both (all_owned (both (formals_are skipped f.formals)
    (both (expr_part_is e) (same (self_let_size f.receiver ∪ prelude_size ys ∪ an_expr ∪ an_expr))))) (same (handed_size ys)))
