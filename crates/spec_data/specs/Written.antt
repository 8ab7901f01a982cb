-- The data of what is written, patterns that bind apart.
use Rattle.std.specs.Prelude.{codes, Bool, true, false, List, [], ◌∷◌, map, Option, Some, None, option_map}
use Rattle.hir_store.specs.Pointers.{Pointer}
use Rattle.hir_base.specs.declared.op.RangeOp.TheVariants.{Inclusive}
use Rattle.hir_store.specs.declared.ids.CrateId.{CrateId}
use Rattle.hir_store.specs.declared.ids.HygieneId.{HygieneId}
use Rattle.hir_store.specs.declared.ids.LangItemId.{LangItemId}
use Rattle.hir_store.specs.declared.name.Name.TheVariants as name
use Rattle.hir_store.specs.declared.path.PathKind.{PathKind}
use Rattle.hir_store.specs.declared.path.PathKind.TheVariants as kind
use Rattle.hir_store.specs.declared.path.GenericArgsParentheses.TheVariants as parens
use Rattle.hir_store.specs.declared.type_ref.TraitBoundModifier.{TraitBoundModifier}
use Rattle.hir_store.specs.declared.type_ref.TraitBoundModifier.TheVariants as modifier
use Rattle.hir_env.specs.declared.ctx.ImplTrait.{ImplTrait}
use Rattle.hir_env.specs.declared.ctx.ImplTrait.TheVariants.{Error, Opaque, Argument}
use Rattle.hir_env.specs.ResolvedTree as tree
use Rattle.hir_env.specs.ResolvedTree.{Lifetime, Binder, UseRead, TypeLeaf, TypeUnary, Type_, OptionType, Parts, Path, OptionPath}
use Rattle.hir_env.specs.ResolvedTree.{Segments, Segment, SegmentArgs, OptionParens, OptionRet, OptionArgs, Args, Arg, Bounds, Bound}
use Rattle.hir_env.specs.ResolvedTree.{Constant, Called, Expr, OptionExpr, Block, Side, Limit, TypePat, OptionTypePat, TypePats, Signed}
use Rattle.hir_env.specs.NodeMap.{Site}
use Rattle.hir_env.specs.ResolveCtx.{site_of}
use Rattle.spec_data.specs.Data as datum
use Rattle.spec_data.specs.Data.{LifetimeData, UseData, TypeData, typed, Shape, OptionTypeData, TypesData, PathData}
use Rattle.spec_data.specs.Data.{OptionArgsData, no_args, some_args, args_data, ArgumentData, ArgumentsData}
use Rattle.spec_data.specs.Data.{BindingData, BindingsData, BoundsData, BoundData, bare_path}
use Rattle.spec_data.specs.Data.{PatData, pat_at, absent_pattern, PatsData, SideData}
use Rattle.spec_data.specs.Literals.{LiteralData, signed_literal}
use Rattle.spec_data.specs.Rule.{PathRead, What, broken, named, root, self_, super_, anchor, projection, Item}
use Rattle.spec_data.specs.Rule.{read, path_read, data_of}

-- parts without parts

abbrev pub lifetime_data : Lifetime → LifetimeData
lifetime_data l = record { lifetime = l.lifetime; from = Some l.pointer }

abbrev pub use_data : UseRead → UseData
use_data (tree.used_name n) = datum.name_used n
use_data (tree.used_lifetime l) = datum.lifetime_used (lifetime_data l)

-- `$crate` is the root of the context's crate, or `crate` where there is none
abbrev pub crate_kind : Option CrateId → PathKind
crate_kind None = kind.Crate
crate_kind (Some c) = kind.DollarCrate c

abbrev pub modifier_of : Bool → TraitBoundModifier
modifier_of false = modifier.None
modifier_of true = modifier.Maybe

abbrev pub leaf_shape : TypeLeaf → Shape
leaf_shape tree.never_leaf = datum.never_shape
leaf_shape tree.infer_leaf = datum.infer_shape

abbrev pub unary_shape : TypeUnary → TypeData → Shape
unary_shape (tree.pointer_to m) t = datum.pointer_shape m t
unary_shape tree.slice_of t = datum.slice_shape t

-- `()`, and a type that is absent
abbrev pub unit_data : TypeData
unit_data = typed None (datum.tuple_shape datum.no_types)

abbrev pub absent_data : TypeData
absent_data = typed None datum.error_shape

-- the node of an error in place of a call that stands for no type
abbrev pub call_source : Pointer → Called → Option Pointer
call_source at tree.callless = Some at
call_source at _ = None

-- what is absent or refused

abbrev pub shape_of_path : Option PathRead → Shape
shape_of_path None = datum.error_shape
shape_of_path (Some p) = datum.path_shape (data_of p)

-- an `impl` where none is allowed is an error, and in an argument it is a parameter
abbrev pub impl_shape_of : ImplTrait → BoundsData → Shape
impl_shape_of Error bs = datum.error_shape
impl_shape_of Opaque bs = datum.impl_shape bs
impl_shape_of (Argument def) bs = datum.parameter_shape def

-- one behind an empty binder is a plain one
abbrev pub bound_behind : Binder → TraitBoundModifier → TypeData → BoundData
bound_behind [] m t = datum.path_bound t m
bound_behind (n ∷ ns) m t = datum.for_bound (n ∷ ns) t

abbrev pub bound_of_path : Pointer → Binder → Bool → Option PathRead → BoundData
bound_of_path at binder maybe None = datum.error_bound
bound_of_path at binder maybe (Some p) = bound_behind binder (modifier_of maybe) (typed (Some at) (datum.path_shape (data_of p)))

-- what a record becomes whose path is absent or refused comes from no node
abbrev pub record_site : Pointer → Option PathRead → Option Site
record_site at None = None
record_site at (Some p) = Some (site_of at)

-- sides of ranges

-- A path in a pattern is looked up with the root's hygiene.
abbrev pub root_hygiene : HygieneId
root_hygiene = record { 0 = 0 }

abbrev pub signed_data : Signed → LiteralData
signed_data l = signed_literal l.minus l.literal

abbrev pub side_of_path : Option PathRead → SideData
side_of_path None = datum.missing_side
side_of_path (Some p) = datum.path_side (data_of p) root_hygiene

-- the item that stands for an absent end, which may be absent itself
abbrev pub side_of_item : Option LangItemId → SideData
side_of_item None = datum.missing_side
side_of_item (Some i) = datum.path_side (datum.item_path i) root_hygiene

abbrev pub block_site : Block → Option Site
block_site (tree.block at is_unsafe label _ number ss e) = Some (site_of at)

-- lists of arguments

abbrev pub put_argument : Option ArgumentData → ArgumentsData → ArgumentsData
put_argument None behind = behind
put_argument (Some a) behind = datum.more_arguments a behind

abbrev pub put_binding : Option BindingData → BindingsData → BindingsData
put_binding None behind = behind
put_binding (Some b) behind = datum.more_bindings b behind

-- neither arguments nor bindings are none
abbrev pub yielded : ArgumentsData → BindingsData → OptionArgsData
yielded datum.no_arguments datum.no_bindings = no_args
yielded as' bs = some_args (args_data as' false bs parens.No)

abbrev pub first_list : OptionArgsData → OptionArgsData → OptionArgsData
first_list (some_args a) behind = some_args a
first_list no_args behind = behind

-- `(..)`
abbrev pub notation : Bool → OptionArgsData
notation false = no_args
notation true = some_args (args_data datum.no_arguments false datum.no_bindings parens.ReturnTypeNotation)

-- `(A, B) -> C` is one tuple and the binding `Output = C`
abbrev pub output_is : TypeData → BindingsData
output_is t =
    datum.more_bindings (datum.binding_data (name.Text (codes "Output")) no_args (datum.some_type t) datum.no_bounds) datum.no_bindings

abbrev pub function_args : TypesData → TypeData → OptionArgsData
function_args ts output =
    let tuple = typed None (datum.tuple_shape ts) in
    some_args (args_data (datum.more_arguments (datum.type_argument tuple) datum.no_arguments) false (output_is output) parens.ParenSugar)

abbrev mutual
  -- types

  -- A `for` before a function pointer binds its lifetimes, also through parentheses; before any other type it binds nothing. Of
  -- two the inner does.
  pub type_data : Option Binder → Type_ → TypeData
  type_data b (tree.paren_type t) = part_data b t
  -- what isn't there is an error, from the node of a call that the text lacks alone
  type_data b (tree.macro_type at called tree.no_type) = typed (call_source at called) datum.error_shape
  type_data b (tree.macro_type at called (tree.some_type t)) = type_data b t
  type_data b (tree.for_type binder t) = part_data (Some binder) t
  type_data b (tree.leaf_type at l) = typed (Some at) (leaf_shape l)
  type_data b (tree.over_type at u t) = typed (Some at) (unary_shape u (part_data None t))
  type_data b (tree.array_type at c t) = typed (Some at) (datum.array_shape (part_data None t) (constant_site c))
  type_data b (tree.tuple_type at ps) = typed (Some at) (datum.tuple_shape (parts_data ps datum.no_types))
  type_data b (tree.path_type at p) = typed (Some at) (shape_of_path (path_of p))
  type_data b (tree.ref_type at l m t) = typed (Some at) (datum.reference_shape (part_data None t) (option_map lifetime_data l) m)
  type_data b (tree.fn_type at h ps r) = typed (Some at) (datum.fn_shape h b (parts_data ps (datum.more_types (ret_data r) datum.no_types)))
  type_data b (tree.impl_type at mode bs) = typed (Some at) (impl_shape_of mode (bounds_data bs))
  type_data b (tree.nested_impl at) = typed (Some at) datum.error_shape
  type_data b (tree.dyn_type at bs) = typed (Some at) (datum.dyn_shape (bounds_data bs))
  type_data b (tree.pattern_type at t p q) = typed (Some at) (datum.pattern_shape (part_data None t) (type_pat_part_data q))

  pub part_data : Option Binder → OptionType → TypeData
  part_data b tree.no_type = absent_data
  part_data b (tree.some_type t) = type_data b t

  -- what a function pointer returns
  pub ret_data : OptionType → TypeData
  ret_data tree.no_type = unit_data
  ret_data (tree.some_type t) = type_data None t

  pub present_data : OptionType → OptionTypeData
  present_data tree.no_type = datum.no_type
  present_data (tree.some_type t) = datum.some_type (type_data None t)

  pub parts_data : Parts → TypesData → TypesData
  parts_data tree.no_parts behind = behind
  parts_data (tree.more_parts p ps) behind = datum.more_types (part_data None p) (parts_data ps behind)

  -- bounds

  pub bounds_data : Bounds → BoundsData
  bounds_data tree.no_bounds = datum.no_bounds
  bounds_data (tree.more_bounds b bs) = datum.more_bounds (bound_data b) (bounds_data bs)

  pub bound_data : Bound → BoundData
  bound_data tree.error_bound = datum.error_bound
  bound_data (tree.path_bound at p maybe binder) = bound_of_path at binder maybe (path_of p)
  bound_data (tree.lifetime_bound l) = datum.lifetime_bound (lifetime_data l)
  bound_data (tree.use_bound us) = datum.use_bound (map use_data us)

  -- arguments

  pub list_data : OptionArgs → OptionArgsData
  list_data tree.no_arg_list = no_args
  list_data (tree.some_arg_list as') = yielded (arguments_of as') (bindings_of as')

  pub arguments_of : Args → ArgumentsData
  arguments_of tree.no_args = datum.no_arguments
  arguments_of (tree.more_args a as') = put_argument (argument_of a) (arguments_of as')

  -- none of what is no argument
  pub argument_of : Arg → Option ArgumentData
  argument_of (tree.type_arg t) = Some (datum.type_argument (part_data None t))
  argument_of (tree.lifetime_arg l) = Some (datum.lifetime_argument (lifetime_data l))
  argument_of (tree.const_arg c) = Some (datum.constant_argument (constant_site c))
  argument_of tree.skipped_arg = None
  argument_of (tree.assoc_arg n a dots t bs) = None

  pub bindings_of : Args → BindingsData
  bindings_of tree.no_args = datum.no_bindings
  bindings_of (tree.more_args a as') = put_binding (binding_of a) (bindings_of as')

  -- none of what is no binding
  pub binding_of : Arg → Option BindingData
  binding_of (tree.assoc_arg n a dots t bs) =
      Some (datum.binding_data n (first_list (list_data a) (notation dots)) (present_data t) (bounds_data bs))
  binding_of (tree.type_arg t) = None
  binding_of (tree.lifetime_arg l) = None
  binding_of (tree.const_arg c) = None
  binding_of tree.skipped_arg = None

  pub parens_data : OptionParens → OptionArgsData
  parens_data tree.no_parens = no_args
  parens_data (tree.some_parens ps r) = function_args (parts_data ps datum.no_types) (output_data r)

  -- what `Fn(A) -> C` returns
  pub output_data : OptionRet → TypeData
  output_data tree.no_ret = unit_data
  output_data (tree.some_ret t) = part_data None t

  -- the first of `<..>`, `(A) -> C` and `(..)` that has any
  pub segment_args_data : SegmentArgs → OptionArgsData
  segment_args_data (tree.segment_args l p dots) = first_list (list_data l) (first_list (parens_data p) (notation dots))

  -- paths

  -- `crate`, `$crate`, `self` and a type only stand first
  pub what : Bool → Segment → What
  what first tree.absent_segment = named (record { name = name.Missing; args = no_args })
  what first tree.broken_segment = broken
  what first (tree.name_segment n _ a) = named (record { name = n; args = segment_args_data a })
  what first tree.self_type_segment = named (record { name = name.Text (codes "Self"); args = no_args })
  what first tree.super_segment = super_
  what false tree.crate_segment = broken
  what true tree.crate_segment = root kind.Crate
  what false (tree.dollar_crate_segment c) = broken
  what true (tree.dollar_crate_segment c) = root (crate_kind c)
  what false tree.self_segment = broken
  what true tree.self_segment = self_
  what false (tree.type_segment t) = broken
  what true (tree.type_segment t) = anchor (type_data None t)
  what false (tree.trait_segment t at p) = broken
  what true (tree.trait_segment t at p) = projection (type_data None t) (path_of p)

  pub items : Segments → List Item → List Item
  items tree.no_segments behind = behind
  items (tree.more_segments s ss) behind = record { leading = false; what = what false s } ∷ items ss behind

  -- the segments of a path and of the use trees around it, before these
  pub segments : Path → List Item → List Item
  segments (tree.path alias leading first rest use_) behind =
      outer use_ (record { leading = leading; what = what true first } ∷ items rest behind)

  pub outer : OptionPath → List Item → List Item
  outer tree.no_path behind = behind
  outer (tree.some_path p) behind = segments p behind

  -- none where it is absent or refused
  pub path_of : OptionPath → Option PathRead
  path_of tree.no_path = None
  path_of (tree.some_path p) = path_read (read (segments p []))

  -- patterns of types: in them a range has both ends, and each is part of it

  pub type_pat_data : TypePat → PatData
  type_pat_data (tree.not_null_type_pat at) = pat_at (Some at) datum.not_null_pattern
  type_pat_data (tree.macro_type_pat at called p) = type_pat_part_data p
  type_pat_data (tree.or_type_pat at ps) = pat_at (Some at) (datum.or_pattern (type_pats_data ps))
  type_pat_data (tree.range_type_pat at start end) =
      pat_at (Some at) (datum.range_pattern Inclusive (datum.some_side (limit_data start)) (datum.some_side (limit_data end)))
  type_pat_data (tree.other_type_pat at) = pat_at (Some at) datum.missing_pattern

  pub type_pat_part_data : OptionTypePat → PatData
  type_pat_part_data tree.no_type_pat = absent_pattern
  type_pat_part_data (tree.some_type_pat p) = type_pat_data p

  pub type_pats_data : TypePats → PatsData
  type_pats_data tree.no_type_pats = datum.no_patterns
  type_pats_data (tree.more_type_pats p ps) = datum.more_patterns (type_pat_data p) (type_pats_data ps)

  -- the last before an excluded end is found by a call
  pub limit_data : Limit → SideData
  limit_data (tree.item_limit i) = side_of_item i
  limit_data (tree.side_limit s) = limit_side s
  limit_data (tree.before_limit i s) = datum.called_side i (limit_side s)

  pub limit_side : Side → SideData
  limit_side tree.no_side = datum.missing_side
  limit_side (tree.literal_side at l) = datum.literal_side (signed_data l)
  limit_side (tree.name_side at n _) = datum.path_side (bare_path n) root_hygiene
  limit_side (tree.path_side at p) = side_of_path (path_of p)
  limit_side tree.other_side = datum.missing_side

  -- constants, by the node that the expression comes from which they become

  pub constant_site : Constant → Option Site
  constant_site (tree.constant e) = part_site e

  -- an expression that is absent or disabled comes from none
  pub part_site : OptionExpr → Option Site
  part_site tree.no_expr = None
  part_site (tree.some_expr e) = expr_site e

  -- parentheses become what is in them
  pub expr_site : Expr → Option Site
  expr_site (tree.disabled_expr why e) = None
  expr_site (tree.paren_expr at e) = part_site e
  -- what a call doesn't stand for is missing at the call
  expr_site (tree.macro_expr at called tree.no_expr) = Some (site_of at)
  expr_site (tree.macro_expr at called (tree.some_expr e)) = expr_site e
  expr_site (tree.block_expr b) = block_site b
  expr_site (tree.record_expr at p head fs s) = record_site at (path_of p)
  expr_site (tree.if_expr at c t e) = Some (site_of at)
  expr_site (tree.loop_expr at label _ b) = Some (site_of at)
  expr_site (tree.while_expr at label _ c b) = Some (site_of at)
  expr_site (tree.for_expr at _ label _ p h b) = Some (site_of at)
  expr_site (tree.question_expr at _ e) = Some (site_of at)
  -- what is missing comes from none
  expr_site (tree.itemless_expr at) = None
  expr_site (tree.try_expr at item t number ss e) = Some (site_of at)
  expr_site (tree.coroutine_expr at kind moves number ss e) = Some (site_of at)
  expr_site (tree.call_expr at f has_list es) = Some (site_of at)
  expr_site (tree.path_expr at p h) = Some (site_of at)
  expr_site (tree.continue_expr at jump) = Some (site_of at)
  expr_site (tree.break_expr at jump e) = Some (site_of at)
  expr_site (tree.literal_expr at l) = Some (site_of at)
  expr_site (tree.leaf_expr at form) = Some (site_of at)
  expr_site (tree.unary_expr at form e) = Some (site_of at)
  expr_site (tree.binary_expr at form a b) = Some (site_of at)
  expr_site (tree.lazy_expr at op a b) = Some (site_of at)
  expr_site (tree.list_expr at form es) = Some (site_of at)
  expr_site (tree.repeat_expr at e c) = Some (site_of at)
  expr_site (tree.const_expr at c) = Some (site_of at)
  expr_site (tree.closure_expr at by_move is_static ps t e) = Some (site_of at)
  expr_site (tree.coroutine_closure_expr at kind by_move ps t e) = Some (site_of at)
  expr_site (tree.method_call_expr at e name es as') = Some (site_of at)
  expr_site (tree.leaving_expr at form e) = Some (site_of at)
  expr_site (tree.become_expr at e) = Some (site_of at)
  expr_site (tree.yield_expr at e) = Some (site_of at)
  expr_site (tree.await_expr at location e) = Some (site_of at)
  expr_site (tree.cast_expr at e t) = Some (site_of at)
  expr_site (tree.offset_of_expr at t names) = Some (site_of at)
  expr_site (tree.nameless_expr at e) = Some (site_of at)
  expr_site (tree.let_expr at p e) = Some (site_of at)
  expr_site (tree.match_expr at e arms) = Some (site_of at)
  expr_site (tree.range_expr at form start end) = Some (site_of at)
  expr_site (tree.assign_expr at e t v) = Some (site_of at)

-- by their names for those above

abbrev pub written_type : OptionType → TypeData
written_type t = part_data None t

-- one that may stay absent
abbrev pub written_option_type : OptionType → OptionTypeData
written_option_type t = present_data t

abbrev pub written_args : OptionArgs → OptionArgsData
written_args as' = list_data as'

-- none where it is absent or refused
abbrev pub written_path : OptionPath → Option PathData
written_path p = option_map data_of (path_of p)
