-- The faults that are told of a tree are those that `Diagnostics` lists.
use Rattle.std.proofs.Common.{◌≡◌, refl, sym, Bool, true, false, true≢false, not, ◌||◌, List, [], ◌∷◌, ◌++◌}
use Rattle.std.proofs.Common.{Option, Some, None, is_some}
use Rattle.hir_store.specs.Pointers.{Pointer}
use Rattle.hir_store.specs.declared.diagnostics.AwaitLocation.{AwaitLocation}
use Rattle.hir_store.specs.declared.ids.BlockId.{BlockId}
use Rattle.hir_store.specs.declared.name.Name.{Name}
use Rattle.hir_store.specs.declared.name.Name.TheVariants as name
use Rattle.hir_env.specs.declared.ctx.ImplTrait.{ImplTrait}
use Rattle.hir_env.specs.declared.ctx.ImplTrait.TheVariants as becomes
use Rattle.hir_env.specs.ResolvedTree as tree
use Rattle.hir_env.specs.ResolvedTree.{Type_, OptionType, Parts, Path, OptionPath, Segments, Segment, SegmentArgs, OptionParens, OptionRet}
use Rattle.hir_env.specs.ResolvedTree.{OptionArgs, Args, Arg, Bounds, Bound, Constant, Expr, OptionExpr, Exprs, Fields, Field, Spread}
use Rattle.hir_env.specs.ResolvedTree.{Block}
use Rattle.hir_env.specs.ResolvedTree.{OptionBlock, Stmts, Stmt, Arms, Arm, Guard, Pat, OptionPat, Pats, PatFields, PatField, Side, TypePat}
use Rattle.hir_env.specs.ResolvedTree.{OptionTypePat, TypePats, Limit, Param, Params, Called}
use Rattle.hir_env.specs.ResolvedTree.{Binder, Target, Targets, TargetFields, TargetField, Label, Lifetime, Listing, RangeForm, UseRead}
use Rattle.hir_env.specs.Conditions.{holds_let}
use Rattle.spec_data.specs.Data.{TypeData}
use Rattle.spec_data.specs.Patterns.{is_dots}
use Rattle.spec_data.specs.Uses.{FirstUses}
use Rattle.spec_data.specs.Written.{written_path}
use Rattle.spec_semantics.specs.Left.{gives_value, is_left}
use Rattle.hir_lower_scope.specs.Scopes.{Scope, barrier, block_scope, loop_scope, macro_scope, scopes_in_block, try_scope}
use Rattle.thm_logic.specs.Calls.{called_faults}
use Rattle.thm_body_result.specs.Blocks.{unless, where_goes_on, where_some}
use Rattle.thm_body_result.specs.Diagnostics as now
use Rattle.thm_body_result.specs.Diagnostics.{Faults, await_faults, spread_faults}
use Rattle.thm_logic.specs.PatNames.{names_after, names_after_each, names_after_field, names_after_part}
use Rattle.thm_logic.specs.PathSeen.{Read, Seen, at_first, ended, goes_on, nothing_seen, own_read, refused, segments_read, whole_read}
use Rattle.thm_logic.specs.PathSeen.{yields}
use Rattle.thm_logic.specs.Grades as g
use Rattle.thm_logic.specs.Grading as p
use Rattle.thm_body_result.specs.Lists.{faults}
use Rattle.thm_body_result.proofs.Joined.{behind, both, first, then_none}
use Rattle.thm_body_result.proofs.ConditionsAgree.{faults_of_condition}
use Rattle.thm_round_trip.proofs.PathsAgree.{read_alike}

-- small parts

abbrev Emitted : Type 0
Emitted = List Scope → Faults

abbrev none : Emitted
none ss = []

none_if : (b : Bool) (ss : List Scope) → p.if_so faults b none ss ≡ []
none_if true ss = refl
none_if false ss = refl

unless_yields : (b : Bool) (D : Emitted) {xs : Faults} (ss : List Scope) → D ss ≡ xs → p.if_so faults (not b) D ss ≡ unless b xs
unless_yields true D ss e = refl
unless_yields false D ss e = e

before_is : (r : Read) (k : Seen → Emitted) {f : Seen → Faults} (ss : List Scope) → ((y : Seen) → k y ss ≡ f y)
    → p.before faults r k ss ≡ where_goes_on r f
before_is refused k ss h = refl
before_is (ended x) k ss h = refl
before_is (goes_on x) k ss h = h x

lifetime_none : (l : Option Lifetime) (ss : List Scope) → p.grade_lifetime faults l ss ≡ []
lifetime_none None ss = refl
lifetime_none (Some l) ss = refl

impl_none : (mode : ImplTrait) (t : TypeData) (ss : List Scope) → p.grade_impl faults mode t ss ≡ []
impl_none becomes.Error t ss = refl
impl_none becomes.Opaque t ss = refl
impl_none (becomes.Argument def) t ss = refl

uses_none : (us : List UseRead) (ss : List Scope) → p.grade_uses faults us ss ≡ []
uses_none [] ss = refl
uses_none (tree.used_name n ∷ us) ss = uses_none us ss
uses_none (tree.used_lifetime l ∷ us) ss = uses_none us ss

-- what stands beside a path
missing_is : (q : OptionPath) (D : Emitted) {xs : Faults} (ss : List Scope) → D ss ≡ xs
    → p.or_missing faults (is_some (whole_read q)) D ss ≡ where_some (written_path q) xs
missing_is q D {xs = xs} ss e = by (written_path q) (is_some (whole_read q)) (read_alike q)
  where
    by : {A : Type 0} (o : Option A) (b : Bool) → is_some o ≡ b → p.or_missing faults b D ss ≡ where_some o xs
    by None true k = absurd (true≢false (sym k))
    by None false k = refl
    by (Some a) true k = e
    by (Some a) false k = absurd (true≢false k)

-- the same of the assignee expression
missing_target_is : (call : Option Pointer) (q : OptionPath) (D : Emitted) {xs : Faults} (ss : List Scope) → D ss ≡ xs
    → p.or_missing_target faults call (is_some (whole_read q)) D ss ≡ where_some (written_path q) xs
missing_target_is call q D {xs = xs} ss e = by (written_path q) (is_some (whole_read q)) (read_alike q)
  where
    by : {A : Type 0} (o : Option A) (b : Bool) → is_some o ≡ b → p.or_missing_target faults call b D ss ≡ where_some o xs
    by None true k = absurd (true≢false (sym k))
    by None false k = refl
    by (Some a) true k = e
    by (Some a) false k = absurd (true≢false k)

record_is : (q : OptionPath) (D : Emitted) {xs : Faults} (ss : List Scope) → D ss ≡ xs
    → p.record_of faults (is_some (whole_read q)) D ss ≡ where_some (written_path q) xs
record_is q D {xs = xs} ss e = by (written_path q) (is_some (whole_read q)) (read_alike q)
  where
    by : {A : Type 0} (o : Option A) (b : Bool) → is_some o ≡ b → p.record_of faults b D ss ≡ where_some o xs
    by None true k = absurd (true≢false (sym k))
    by None false k = refl
    by (Some a) true k = behind e
    by (Some a) false k = absurd (true≢false k)

comma_none : (comma : Bool) (ss : List Scope) → p.behind_comma faults comma none ss ≡ []
comma_none false ss = refl
comma_none true ss = refl

or_none : (at : Pointer) (ps : Pats) (ss : List Scope) → p.grade_or faults at ps ss ≡ []
or_none at tree.no_pats ss = refl
or_none at (tree.more_pats q ps) ss = refl
or_none at (tree.tracked_pats c ps) ss = or_none at ps ss

-- behind a statement
behind_is : (s : Stmt) (D E : Emitted) → ((ss : List Scope) → D ss ≡ E ss) → (ss : List Scope)
    → p.grade_behind faults s D ss ≡ E (now.behind_stmt s ss)
behind_is (tree.macro_stmt k (Some d)) D E h ss = h (macro_scope d ∷ ss)
behind_is s D E h ss = h ss

name_none : (n : Name) (ss : List Scope) → p.grade_name_side faults n ss ≡ []
name_none name.Missing ss = refl
name_none n ss = refl

rest_none : (dots : Option Pointer) (ss : List Scope) → p.grade_rest faults dots ss ≡ []
rest_none None ss = refl
rest_none (Some at) ss = refl

spread_is : (spread : Option Pointer) (ss : List Scope) → p.grade_spread faults spread ss ≡ spread_faults spread
spread_is None ss = refl
spread_is (Some at) ss = refl

front_none : (form : Listing) (ss : List Scope) → p.grade_front faults form ss ≡ []
front_none (tree.tuple_of false) ss = refl
front_none (tree.tuple_of true) ss = refl
front_none tree.array_of ss = refl

await_is : (at : Pointer) (location : Option AwaitLocation) (ss : List Scope)
    → p.grade_await faults at location ss ≡ await_faults at location
await_is at None ss = refl
await_is at (Some location) ss = refl

range_none : (form : RangeForm) (ss : List Scope) → p.grade_range faults form ss ≡ []
range_none (tree.record_range item last) ss = refl
range_none (tree.call_range item) ss = refl
range_none tree.itemless_range ss = refl

wrapped_none : (b : Bool) (ss : List Scope) → p.wrapped faults b ss ≡ []
wrapped_none b ss = behind (none_if (not b) ss)

-- two dots are no part
element_is : (q : Pat) (D : Emitted) (ss : List Scope) → D ss ≡ now.pat_faults ss q
    → p.if_so faults (not (is_dots q)) D ss ≡ now.pat_faults ss q
element_is (tree.leaf_pat at tree.rest_leaf) D ss e = refl
element_is q D ss e = e

-- a disabled one is a fault and nothing else
kept_is : (e : Expr) (D : Emitted) (ss : List Scope) → D ss ≡ now.diagnostics ss e → p.kept_of faults e D ss
    ≡ now.diagnostics ss e
kept_is (tree.disabled_expr why e) D ss h = refl
kept_is e D ss h = h

-- a call that stands for nothing is what is told of it
uncalled_pat_is : (at : Pointer) (c : Called) (ss : List Scope) → p.grade_uncalled_pat faults at c ss ≡ called_faults c ++ []
uncalled_pat_is at tree.callless ss = refl
uncalled_pat_is at c ss = refl

uncalled_type_is : (at : Pointer) (c : Called) (ss : List Scope) → p.grade_uncalled_type faults at c ss ≡ called_faults c ++ []
uncalled_type_is at tree.callless ss = refl
uncalled_type_is at c ss = refl

labelled_is : (label : Option Label) (D f : Emitted) (ss : List Scope) → ((ss : List Scope) → D ss ≡ f ss)
    → p.labelled_of faults label D ss ≡ f (scopes_in_block label ss)
labelled_is None D f ss h = h ss
labelled_is (Some l) D f ss h = h (block_scope l ∷ ss)

try_is : (typed : Bool) (number : Option BlockId) (st : Stmts) (e : OptionExpr) (D : Emitted) {xs : Faults} (ss : List Scope)
    → D (try_scope typed ∷ ss) ≡ xs → p.grade_try faults typed number st e D ss ≡ xs
try_is typed number st e D ss h = first h (behind (wrapped_none (is_left e || gives_value st false) ss))

mutual
  -- types, paths, arguments and bounds

  type_is : (b : Option Binder) (t : Type_) (ss : List Scope) → g.grade_type_in faults b t ss ≡ now.type_faults ss t
  type_is b (tree.paren_type t) ss = part_is b t ss
  type_is b (tree.macro_type at c tree.no_type) ss = uncalled_type_is at c ss
  type_is b (tree.macro_type at c (tree.some_type t)) ss = both refl (behind (type_is b t ss))
  type_is b (tree.for_type names t) ss = part_is (Some names) t ss
  type_is b (tree.leaf_type at form) ss = refl
  type_is b (tree.over_type at form t) ss = behind (part_is None t ss)
  type_is b (tree.array_type at c t) ss = both (constant_is c ss) (behind (part_is None t ss))
  type_is b (tree.tuple_type at ts) ss = behind (parts_is ts ss)
  type_is b (tree.path_type at q) ss = behind (whole_is q ss)
  type_is b (tree.ref_type at l mutability t) ss = first (part_is None t ss) (behind (lifetime_none l ss))
  type_is b (tree.fn_type at head ts r) ss = both (ret_is r ss) (behind (parts_is ts ss))
  type_is b (tree.impl_type at mode bs) ss = first (bounds_are bs ss) (impl_none mode _ ss)
  type_is b (tree.nested_impl at) ss = refl
  type_is b (tree.dyn_type at bs) ss = behind (bounds_are bs ss)
  type_is b (tree.pattern_type at t own q) ss = both (part_is None t ss) (behind (type_pat_part_is q ss))

  pub part_is : (b : Option Binder) (t : OptionType) (ss : List Scope) → g.grade_part_in faults b t ss ≡ now.type_part_faults ss t
  part_is b tree.no_type ss = refl
  part_is b (tree.some_type t) ss = type_is b t ss

  ret_is : (t : OptionType) (ss : List Scope) → g.grade_ret faults t ss ≡ now.type_part_faults ss t
  ret_is tree.no_type ss = refl
  ret_is (tree.some_type t) ss = type_is None t ss

  present_is : (t : OptionType) (ss : List Scope) → g.grade_present faults t ss ≡ now.present_type_faults ss t
  present_is tree.no_type ss = refl
  present_is (tree.some_type t) ss = type_is None t ss

  parts_is : (ts : Parts) (ss : List Scope) → g.grade_parts faults ts ss ≡ now.parts_faults ss ts
  parts_is tree.no_parts ss = refl
  parts_is (tree.more_parts t ts) ss = both (part_is None t ss) (parts_is ts ss)

  segment_is : (first' : Bool) (s : Segment) (x : Seen) (ss : List Scope)
      → g.grade_segment faults first' s x ss ≡ now.segment_faults ss first' s x
  segment_is f (tree.name_segment n _ as') x ss = beside_is as' ss
  segment_is f tree.super_segment x ss = refl
  segment_is true (tree.type_segment t) x ss = type_is None t ss
  segment_is true (tree.trait_segment t at q) x ss =
      both (type_is None t ss) (first (whole_is q ss) (none_if (is_some (whole_read q)) ss))
  segment_is true tree.absent_segment x ss = refl
  segment_is true tree.broken_segment x ss = refl
  segment_is true tree.self_type_segment x ss = refl
  segment_is true tree.crate_segment x ss = refl
  segment_is true (tree.dollar_crate_segment r) x ss = refl
  segment_is true tree.self_segment x ss = refl
  segment_is false tree.absent_segment x ss = refl
  segment_is false tree.broken_segment x ss = refl
  segment_is false tree.self_type_segment x ss = refl
  segment_is false tree.crate_segment x ss = refl
  segment_is false (tree.dollar_crate_segment r) x ss = refl
  segment_is false tree.self_segment x ss = refl
  segment_is false (tree.type_segment t) x ss = refl
  segment_is false (tree.trait_segment t at q) x ss = refl

  segments_are : (st : Segments) (x : Seen) (ss : List Scope) → g.grade_segments faults st x ss ≡ now.segments_faults ss st x
  segments_are tree.no_segments x ss = refl
  segments_are (tree.more_segments s st) x ss =
      both (segments_are st x ss) (before_is (segments_read st x) (λ y. g.grade_segment faults false s y) ss (λ y. segment_is false s y ss))

  path_is : (q : Path) (x : Seen) (ss : List Scope) → g.grade_path faults q x ss ≡ now.path_faults ss q x
  path_is (tree.path alias leading s rest use_) x ss =
      both (both (segments_are rest x ss) (before_is (segments_read rest x)
      (λ y. g.grade_segment faults true s (at_first leading y)) ss (λ y. segment_is true s (at_first leading y) ss)))
      (before_is (own_read leading s rest x) (λ y. g.grade_outer faults use_ y) ss (λ y. outer_is use_ y ss))

  outer_is : (q : OptionPath) (x : Seen) (ss : List Scope) → g.grade_outer faults q x ss ≡ now.outer_faults ss q x
  outer_is tree.no_path x ss = refl
  outer_is (tree.some_path q) x ss = path_is q x ss

  pub whole_is : (q : OptionPath) (ss : List Scope) → g.grade_whole faults q ss ≡ now.whole_faults ss q
  whole_is tree.no_path ss = refl
  whole_is (tree.some_path q) ss = path_is q nothing_seen ss

  beside_is : (as' : SegmentArgs) (ss : List Scope) → g.grade_beside faults as' ss ≡ now.beside_faults ss as'
  beside_is (tree.segment_args as' ps dots) ss = both (args_are as' ss) (unless_yields (yields as') _ ss (parens_is ps ss))

  parens_is : (ps : OptionParens) (ss : List Scope) → g.grade_parens faults ps ss ≡ now.parens_faults ss ps
  parens_is tree.no_parens ss = refl
  parens_is (tree.some_parens ts r) ss = both (parts_is ts ss) (output_is r ss)

  output_is : (r : OptionRet) (ss : List Scope) → g.grade_output faults r ss ≡ now.output_faults ss r
  output_is tree.no_ret ss = refl
  output_is (tree.some_ret t) ss = part_is None t ss

  args_are : (as' : OptionArgs) (ss : List Scope) → g.grade_args faults as' ss ≡ now.args_faults ss as'
  args_are tree.no_arg_list ss = refl
  args_are (tree.some_arg_list as') ss = each_arg_is as' ss

  each_arg_is : (as' : Args) (ss : List Scope) → g.grade_each faults as' ss ≡ now.each_arg_faults ss as'
  each_arg_is tree.no_args ss = refl
  each_arg_is (tree.more_args a as') ss = both (arg_is a ss) (each_arg_is as' ss)

  arg_is : (a : Arg) (ss : List Scope) → g.grade_arg faults a ss ≡ now.arg_faults ss a
  arg_is tree.skipped_arg ss = refl
  arg_is (tree.type_arg t) ss = part_is None t ss
  arg_is (tree.lifetime_arg l) ss = refl
  arg_is (tree.const_arg c) ss = constant_is c ss
  arg_is (tree.assoc_arg n as' dots t bs) ss = both (args_are as' ss) (both (present_is t ss) (bounds_are bs ss))

  bounds_are : (bs : Bounds) (ss : List Scope) → g.grade_bounds faults bs ss ≡ now.bounds_faults ss bs
  bounds_are tree.no_bounds ss = refl
  bounds_are (tree.more_bounds b bs) ss = both (bound_is b ss) (bounds_are bs ss)

  bound_is : (b : Bound) (ss : List Scope) → g.grade_bound faults b ss ≡ now.bound_faults ss b
  bound_is tree.error_bound ss = refl
  bound_is (tree.path_bound at q maybe binder) ss = first (whole_is q ss) (none_if (is_some (whole_read q)) ss)
  bound_is (tree.lifetime_bound l) ss = refl
  bound_is (tree.use_bound us) ss = uses_none us ss

  constant_is : (c : Constant) (ss : List Scope) → g.grade_constant faults c ss ≡ now.constant_faults ss c
  constant_is (tree.constant e) ss = expr_part_is e (barrier ∷ ss)

  rooted_is : (c : Constant) (ss : List Scope) → g.grade_rooted faults c ss ≡ now.constant_faults ss c
  rooted_is (tree.constant e) ss = expr_part_is e (barrier ∷ ss)

  -- patterns of types

  type_pat_is : (q : TypePat) (ss : List Scope) → g.grade_type_pat faults q ss ≡ now.type_pat_faults ss q
  type_pat_is (tree.not_null_type_pat at) ss = refl
  type_pat_is (tree.macro_type_pat at c tree.no_type_pat) ss = uncalled_pat_is at c ss
  type_pat_is (tree.macro_type_pat at c (tree.some_type_pat q)) ss = both refl (behind (type_pat_is q ss))
  type_pat_is (tree.or_type_pat at ps) ss = behind (type_pats_are ps ss)
  type_pat_is (tree.range_type_pat at low high) ss = both (limit_is low ss) (behind (limit_is high ss))
  type_pat_is (tree.other_type_pat at) ss = refl

  type_pat_part_is : (q : OptionTypePat) (ss : List Scope) → g.grade_type_pat_part faults q ss ≡ now.type_pat_part_faults ss q
  type_pat_part_is tree.no_type_pat ss = refl
  type_pat_part_is (tree.some_type_pat q) ss = type_pat_is q ss

  type_pats_are : (ps : TypePats) (ss : List Scope) → g.grade_type_pats faults ps ss ≡ now.type_pats_faults ss ps
  type_pats_are tree.no_type_pats ss = refl
  type_pats_are (tree.more_type_pats q ps) ss = both (type_pat_is q ss) (type_pats_are ps ss)

  limit_is : (l : Limit) (ss : List Scope) → g.grade_limit faults l ss ≡ now.limit_faults ss l
  limit_is (tree.item_limit item) ss = refl
  limit_is (tree.side_limit s) ss = limit_side_is s (barrier ∷ ss)
  limit_is (tree.before_limit item s) ss = behind (limit_side_is s (barrier ∷ ss))

  limit_side_is : (s : Side) (ss : List Scope) → g.grade_limit_side faults s ss ≡ now.side_faults ss s
  limit_side_is tree.no_side ss = refl
  limit_side_is (tree.literal_side at l) ss = refl
  limit_side_is (tree.name_side at n _) ss = refl
  limit_side_is (tree.path_side at q) ss = behind (whole_is q ss)
  limit_side_is tree.other_side ss = refl

  -- patterns

  side_is : (s : Side) (ss : List Scope) → g.grade_side faults s ss ≡ now.side_faults ss s
  side_is tree.no_side ss = refl
  side_is (tree.literal_side at l) ss = refl
  side_is (tree.name_side at n _) ss = name_none n ss
  side_is (tree.path_side at q) ss = first (whole_is q ss) (none_if (is_some (whole_read q)) ss)
  side_is tree.other_side ss = refl

  pat_is : (q : Pat) (us : FirstUses) (ss : List Scope) → g.grade_pat faults q us ss ≡ now.pat_faults ss q
  pat_is (tree.leaf_pat at form) us ss = refl
  pat_is (tree.bind_pat at u _ sub) us ss = first (subpat_is sub us ss) (behind (none_if _ ss))
  pat_is (tree.name_pat at u _) us ss = refl
  pat_is (tree.path_pat at q) us ss = behind (whole_is q ss)
  pat_is (tree.tuple_struct_pat at q comma ps) us ss = both (whole_is q ss)
      (missing_is q _ ss (first (elements_are ps us ss) (behind (comma_none comma ss))))
  pat_is (tree.tuple_pat at comma ps) us ss = first (elements_are ps us ss) (behind (comma_none comma ss))
  pat_is (tree.record_pat at q fs dots) us ss = both (whole_is q ss) (missing_is q _ ss (behind (pat_fields_are fs us ss)))
  pat_is (tree.or_pat at ps) us ss = alternatives_are at ps us ss
  pat_is (tree.paren_pat at q) us ss = pat_part_is q us ss
  pat_is (tree.macro_pat at c tree.no_pat) us ss = uncalled_pat_is at c ss
  pat_is (tree.macro_pat at c (tree.some_pat q)) us ss = both refl (behind (pat_is q us ss))
  pat_is (tree.barred_pat at) us ss = refl
  pat_is (tree.slice_pat at before middle after) us ss =
      both (pats_are before us ss) (both (subpat_is middle (names_after_each before us) ss)
      (behind (pats_are after (names_after_part middle (names_after_each before us)) ss)))
  pat_is (tree.over_pat at form q) us ss = behind (pat_part_is q us ss)
  pat_is (tree.literal_pat at own l) us ss = refl
  pat_is (tree.range_pat at op low high) us ss = both (side_is low ss) (behind (side_is high ss))

  alternatives_are : (at : Pointer) (ps : Pats) (us : FirstUses) (ss : List Scope)
      → g.grade_alternatives faults at ps us ss ≡ now.pats_faults ss ps
  alternatives_are at tree.no_pats us ss = refl
  alternatives_are at (tree.more_pats q ps) us ss =
      both (pat_is q us ss) (first (pats_are ps (names_after q us) ss) (or_none at ps ss))
  alternatives_are at (tree.tracked_pats c ps) us ss = both refl (alternatives_are at ps us ss)

  pat_part_is : (q : OptionPat) (us : FirstUses) (ss : List Scope) → g.grade_pat_part faults q us ss ≡ now.top_faults ss q
  pat_part_is tree.no_pat us ss = refl
  pat_part_is (tree.some_pat q) us ss = pat_is q us ss

  subpat_is : (q : OptionPat) (us : FirstUses) (ss : List Scope) → g.grade_subpat faults q us ss ≡ now.top_faults ss q
  subpat_is tree.no_pat us ss = refl
  subpat_is (tree.some_pat q) us ss = pat_is q us ss

  pub top_is : (q : OptionPat) (ss : List Scope) → g.grade_top faults q ss ≡ now.top_faults ss q
  top_is tree.no_pat ss = refl
  top_is (tree.some_pat q) ss = pat_is q [] ss

  pats_are : (ps : Pats) (us : FirstUses) (ss : List Scope) → g.grade_pats faults ps us ss ≡ now.pats_faults ss ps
  pats_are tree.no_pats us ss = refl
  pats_are (tree.more_pats q ps) us ss = both (pat_is q us ss) (pats_are ps (names_after q us) ss)
  pats_are (tree.tracked_pats c ps) us ss = both refl (pats_are ps us ss)

  elements_are : (ps : Pats) (us : FirstUses) (ss : List Scope) → g.grade_elements faults ps us ss ≡ now.pats_faults ss ps
  elements_are tree.no_pats us ss = refl
  elements_are (tree.more_pats q ps) us ss = both (element_is q _ ss (pat_is q us ss)) (elements_are ps (names_after q us) ss)
  elements_are (tree.tracked_pats c ps) us ss = both refl (elements_are ps us ss)

  pat_fields_are : (fs : PatFields) (us : FirstUses) (ss : List Scope) → g.grade_pat_fields faults fs us ss
      ≡ now.pat_fields_faults ss fs
  pat_fields_are tree.no_pat_fields us ss = refl
  pat_fields_are (tree.more_pat_fields f fs) us ss = both (pat_field_is f us ss) (pat_fields_are fs (names_after_field f us) ss)

  pat_field_is : (f : PatField) (us : FirstUses) (ss : List Scope) → g.grade_pat_field faults f us ss ≡ now.pat_field_faults ss f
  pat_field_is (tree.disabled_pat_field at by f) us ss = refl
  pat_field_is tree.partless_pat_field us ss = refl
  pat_field_is (tree.pat_field at n q) us ss = pat_is q us ss

  -- the assignee expression

  target_is : (t : Target) (ss : List Scope) → g.grade_target faults t ss ≡ now.target_faults_in ss t
  target_is (tree.absent_target call) ss = refl
  target_is (tree.place_target at e) ss = behind (expr_is e ss)
  target_is (tree.macro_target None c t) ss = both refl (target_is t ss)
  target_is (tree.macro_target (Some at) c t) ss = both refl (behind (target_is t ss))
  target_is (tree.wild_target at) ss = refl
  target_is (tree.path_target at q h) ss = behind (path_is q nothing_seen ss)
  target_is (tree.tuple_target at ts) ss = behind (targets_are ts ss)
  target_is (tree.call_target at q ts) ss = both (whole_is q ss) (missing_target_is at.call q _ ss (behind (targets_are ts ss)))
  target_is (tree.array_target at before dots after) ss =
      both (targets_are before ss) (first (targets_are after ss) (behind (rest_none dots ss)))
  target_is (tree.record_target at q fs dots spread) ss =
      both (whole_is q ss) (missing_target_is at.call q _ ss (both (spread_is spread ss) (behind (target_fields_are fs ss))))

  targets_are : (ts : Targets) (ss : List Scope) → g.grade_targets faults ts ss ≡ now.targets_faults ss ts
  targets_are tree.no_targets ss = refl
  targets_are (tree.more_targets t ts) ss = both (target_is t ss) (targets_are ts ss)
  targets_are (tree.dots_targets ts) ss = targets_are ts ss
  targets_are (tree.tracked_targets c ts) ss = both refl (targets_are ts ss)

  target_fields_are : (fs : TargetFields) (ss : List Scope) → g.grade_target_fields faults fs ss ≡ now.target_fields_faults ss fs
  target_fields_are tree.no_target_fields ss = refl
  target_fields_are (tree.more_target_fields f fs) ss = both (target_field_is f ss) (target_fields_are fs ss)

  target_field_is : (f : TargetField) (ss : List Scope) → g.grade_target_field faults f ss ≡ now.target_field_faults ss f
  target_field_is (tree.disabled_target_field at by) ss = refl
  target_field_is tree.partless_target_field ss = refl
  target_field_is (tree.target_field at n t) ss = target_is t ss

  -- expressions

  expr_is : (e : Expr) (ss : List Scope) → g.grade_expr faults e ss ≡ now.diagnostics ss e
  expr_is (tree.disabled_expr why e) ss = behind refl
  expr_is (tree.if_expr at c t e) ss = both (block_part_is t ss) (both (expr_present_is e ss) (behind (expr_part_is c ss)))
  expr_is (tree.block_expr b) ss = block_is b ss
  expr_is (tree.loop_expr at label _ b) ss = block_part_is b (loop_scope label ∷ ss)
  expr_is (tree.while_expr at label _ c b) ss =
      let inside = loop_scope label ∷ ss in
      both (block_part_is b inside)
      (behind (faults_of_condition (holds_let c) (g.grade_expr_part faults c) inside (expr_part_is c inside)))
  expr_is (tree.for_expr at items label _ q h b) ss =
      both (expr_part_is h ss) (both (top_is q ss) (behind (behind (expr_part_is b (loop_scope label ∷ ss)))))
  expr_is (tree.question_expr at items e) ss = behind (expr_part_is e ss)
  expr_is (tree.itemless_expr at) ss = refl
  expr_is (tree.try_expr at item tree.no_type number st e) ss =
      then_none (try_is false number st e (g.grade_stmts faults st (g.grade_kept faults e)) ss
      (stmts_are st e (λ at. kept_part_is e at) (try_scope false ∷ ss)))
  expr_is (tree.try_expr at item (tree.some_type t) number st e) ss =
      both (try_is true number st e (g.grade_stmts faults st (g.grade_kept faults e)) ss
      (stmts_are st e (λ at. kept_part_is e at) (try_scope true ∷ ss))) (behind (type_is None t ss))
  expr_is (tree.coroutine_expr at kind moves number st e) ss = stmts_are st e (λ at. kept_part_is e at) (barrier ∷ ss)
  expr_is (tree.call_expr at f has_list es) ss = both (expr_part_is f ss) (behind (exprs_are es ss))
  expr_is (tree.path_expr at q h) ss = behind (whole_is q ss)
  expr_is (tree.continue_expr at jump) ss = behind refl
  expr_is (tree.break_expr at jump e) ss = both refl (behind (expr_present_is e ss))
  expr_is (tree.paren_expr at e) ss = expr_part_is e ss
  expr_is (tree.macro_expr at c e) ss = both refl (expr_part_is e ss)
  expr_is (tree.literal_expr at l) ss = refl
  expr_is (tree.leaf_expr at form) ss = refl
  expr_is (tree.unary_expr at form e) ss = behind (expr_part_is e ss)
  expr_is (tree.binary_expr at form a b) ss = both (expr_part_is a ss) (behind (expr_part_is b ss))
  expr_is (tree.lazy_expr at op a b) ss = both (expr_part_is a ss) (behind (expr_part_is b ss))
  expr_is (tree.list_expr at form es) ss = first (exprs_are es ss) (front_none form ss)
  expr_is (tree.repeat_expr at e c) ss = both (expr_part_is e ss) (behind (constant_is c ss))
  expr_is (tree.const_expr at c) ss = behind (rooted_is c ss)
  expr_is (tree.closure_expr at moves is_static xs t e) ss =
      both (params_are xs (barrier ∷ ss)) (both (present_is t (barrier ∷ ss)) (expr_part_is e (barrier ∷ ss)))
  expr_is (tree.coroutine_closure_expr at kind moves xs t e) ss =
      both (params_are xs (barrier ∷ ss)) (both (present_is t (barrier ∷ ss)) (expr_part_is e (barrier ∷ ss)))
  expr_is (tree.method_call_expr at e n es generics) ss =
      both (expr_part_is e ss) (both (exprs_are es ss) (behind (args_are generics ss)))
  expr_is (tree.cast_expr at e t) ss = both (expr_part_is e ss) (behind (part_is None t ss))
  expr_is (tree.record_expr at q head fs s) ss =
      both (whole_is q ss) (record_is q _ ss (both (fields_are fs ss) (expr_spread_is s ss)))
  expr_is (tree.offset_of_expr at t names) ss = behind (part_is None t ss)
  expr_is (tree.leaving_expr at form e) ss = behind (expr_present_is e ss)
  expr_is (tree.become_expr at e) ss = behind (expr_part_is e ss)
  expr_is (tree.yield_expr at e) ss = behind (expr_present_is e ss)
  expr_is (tree.await_expr at location e) ss = both (expr_part_is e ss) (behind (await_is at location ss))
  expr_is (tree.nameless_expr at e) ss = behind (expr_part_is e ss)
  expr_is (tree.let_expr at q e) ss = both (top_is q ss) (behind (expr_part_is e ss))
  expr_is (tree.match_expr at e arms) ss = both (expr_part_is e ss) (behind (arms_are arms ss))
  expr_is (tree.range_expr at form low high) ss =
      both (expr_present_is low ss) (first (expr_present_is high ss) (range_none form ss))
  expr_is (tree.assign_expr at own t e) ss = both (target_is t ss) (behind (expr_part_is e ss))

  params_are : (xs : Params) (ss : List Scope) → g.grade_params faults xs ss ≡ now.params_faults ss xs
  params_are tree.no_params ss = refl
  params_are (tree.more_params x xs) ss = both (param_is x ss) (params_are xs ss)

  param_is : (x : Param) (ss : List Scope) → g.grade_param faults x ss ≡ now.param_faults ss x
  param_is (tree.disabled_param at by x) ss = refl
  param_is (tree.param q t) ss = both (top_is q ss) (present_is t ss)

  pub expr_part_is : (e : OptionExpr) (ss : List Scope) → g.grade_expr_part faults e ss ≡ now.part_diagnostics ss e
  expr_part_is tree.no_expr ss = refl
  expr_part_is (tree.some_expr e) ss = expr_is e ss

  expr_present_is : (e : OptionExpr) (ss : List Scope) → g.grade_expr_present faults e ss ≡ now.part_diagnostics ss e
  expr_present_is tree.no_expr ss = refl
  expr_present_is (tree.some_expr e) ss = expr_is e ss

  kept_part_is : (e : OptionExpr) (ss : List Scope) → g.grade_kept faults e ss ≡ now.part_diagnostics ss e
  kept_part_is tree.no_expr ss = refl
  kept_part_is (tree.some_expr e) ss = kept_is e _ ss (expr_is e ss)

  exprs_are : (es : Exprs) (ss : List Scope) → g.grade_exprs faults es ss ≡ now.each_diagnostics ss es
  exprs_are tree.no_exprs ss = refl
  exprs_are (tree.more_exprs e es) ss = both (kept_is e _ ss (expr_is e ss)) (exprs_are es ss)

  fields_are : (fs : Fields) (ss : List Scope) → g.grade_fields faults fs ss ≡ now.fields_diagnostics ss fs
  fields_are tree.no_fields ss = refl
  fields_are (tree.more_fields f fs) ss = both (field_is f ss) (fields_are fs ss)

  field_is : (f : Field) (ss : List Scope) → g.grade_field faults f ss ≡ now.field_diagnostics ss f
  field_is (tree.disabled_field at by f) ss = refl
  field_is (tree.nameless_field at e) ss = refl
  field_is (tree.named_field at n e) ss = expr_part_is e ss

  arms_are : (arms : Arms) (ss : List Scope) → g.grade_arms faults arms ss ≡ now.arms_diagnostics ss arms
  arms_are tree.no_arms ss = refl
  arms_are (tree.more_arms a arms) ss = both (arm_is a ss) (arms_are arms ss)

  arm_is : (a : Arm) (ss : List Scope) → g.grade_arm faults a ss ≡ now.arm_diagnostics ss a
  arm_is (tree.disabled_arm at by a) ss = refl
  arm_is (tree.arm q e when) ss = both (top_is q ss) (both (expr_part_is e ss) (guard_is when ss))

  guard_is : (when : Guard) (ss : List Scope) → g.grade_guard faults when ss ≡ now.guard_diagnostics ss when
  guard_is tree.no_guard ss = refl
  guard_is (tree.guard e) ss = expr_part_is e ss

  expr_spread_is : (s : Spread) (ss : List Scope) → g.grade_expr_spread faults s ss ≡ now.spread_diagnostics ss s
  expr_spread_is tree.no_spread ss = refl
  expr_spread_is tree.field_defaults ss = refl
  expr_spread_is (tree.spread_of e) ss = expr_is e ss

  block_is : (b : Block) (ss : List Scope) → g.grade_block faults b ss ≡ now.block_diagnostics ss b
  block_is (tree.block at is_unsafe label _ number st e) ss =
      labelled_is label _ (λ inside. now.contents_diagnostics inside st (λ inner. now.part_diagnostics inner e)) ss
      (λ inside. behind (stmts_are st e (λ at. kept_part_is e at) inside))

  block_part_is : (b : OptionBlock) (ss : List Scope) → g.grade_block_part faults b ss ≡ now.block_part_diagnostics ss b
  block_part_is tree.no_block ss = refl
  block_part_is (tree.some_block b) ss = block_is b ss

  block_present_is : (b : OptionBlock) (ss : List Scope) → g.grade_block_present faults b ss ≡ now.block_part_diagnostics ss b
  block_present_is tree.no_block ss = refl
  block_present_is (tree.some_block b) ss = block_is b ss

  stmts_are : (st : Stmts) (e : OptionExpr) → ((ss : List Scope) → g.grade_kept faults e ss ≡ now.part_diagnostics ss e)
      → (ss : List Scope) → g.grade_stmts faults st (g.grade_kept faults e) ss
      ≡ now.contents_diagnostics ss st (λ inner. now.part_diagnostics inner e)
  stmts_are tree.no_stmts e h ss = h ss
  stmts_are (tree.more_stmts s st) e h ss = both (stmt_is s ss) (behind_is s (g.grade_stmts faults st (g.grade_kept faults e))
      (λ at. now.contents_diagnostics at st (λ inner. now.part_diagnostics inner e)) (λ at. stmts_are st e h at) ss)

  stmt_is : (s : Stmt) (ss : List Scope) → g.grade_stmt faults s ss ≡ now.stmt_diagnostics ss s
  stmt_is (tree.expr_stmt e semi) ss = kept_part_is e ss
  stmt_is (tree.disabled_stmt at by s) ss = refl
  stmt_is tree.item_stmt ss = refl
  stmt_is (tree.call_stmt c) ss = refl
  stmt_is (tree.macro_stmt k d) ss = refl
  stmt_is (tree.let_stmt q t e b) ss =
      both (top_is q ss) (both (present_is t ss) (both (expr_present_is e ss) (block_present_is b ss)))
