-- A tree with all that the environment says of it written into it. What lowering does, how a body runs and what is
-- wrong with it are each a recursion over this one family.
use Rattle.std.specs.Prelude.{List, ℕ, Option, Some, None, Bool}
use Rattle.hir_base.specs.declared.node.HirFileId.{HirFileId}
use Rattle.hir_store.specs.declared.path.ModPath.{ModPath}
use Rattle.hir_store.specs.declared.ids.MacroDefId.{MacroDefId}
use Rattle.hir_base.specs.declared.op.UnaryOp.{UnaryOp}
use Rattle.hir_base.specs.declared.op.LogicOp.{LogicOp}
use Rattle.hir_base.specs.declared.op.BinaryOp.{BinaryOp}
use Rattle.hir_syntax.specs.declared.ast.Literal.{Literal}
use Rattle.hir_base.specs.declared.op.RangeOp.{RangeOp}
use Rattle.hir_binding.specs.declared.binding.BindingAnnotation.{BindingAnnotation}
use Rattle.hir_store.specs.Pointers.{Pointer}
use Rattle.hir_store.specs.declared.ids.CfgId.{CfgId}
use Rattle.hir_store.specs.declared.ids.CrateId.{CrateId}
use Rattle.hir_store.specs.declared.ids.HygieneId.{HygieneId}
use Rattle.hir_store.specs.declared.ids.BlockId.{BlockId}
use Rattle.hir_store.specs.declared.ids.LangItemId.{LangItemId}
use Rattle.hir_store.specs.declared.name.Name.{Name}
use Rattle.hir_store.specs.Names.{IsWritten}
use Rattle.hir_store.specs.declared.hir.CoroutineKind.{CoroutineKind}
use Rattle.hir_store.specs.declared.hir.Rawness.{Rawness}
use Rattle.hir_store.specs.declared.hir.Mutability.{Mutability}
use Rattle.hir_store.specs.declared.type_ref.LifetimeRef.{LifetimeRef}
use Rattle.hir_store.specs.declared.type_ref.ExternAbi.{ExternAbi}
use Rattle.hir_store.specs.declared.diagnostics.AwaitLocation.{AwaitLocation}
use Rattle.hir_env.specs.declared.ctx.ImplTrait.{ImplTrait}
use Rattle.hir_env.specs.declared.ctx.LifetimeScope.{LifetimeScope}
use Rattle.hir_env.specs.Answers.{Contexts, Eager}

-- a label, with the hygiene of its node; its name is missing where it has no lifetime
pub record Label : Type 0 where
  pub pointer : Pointer
  pub name : Name
  pub hygiene : HygieneId

-- its name is one that a text has or lacks
abbrev pub IsWrittenLabel : Option Label → Type 0
IsWrittenLabel None = Unit {0}
IsWrittenLabel (Some l) = IsWritten l.name

-- the lifetime of a jump, with what is answered about the contexts that its hygiene came from
pub record Jump : Type 0 where
  pub pointer : Pointer
  pub name : Name
  pub hygiene : HygieneId
  pub contexts : Contexts

-- a lifetime, with its node
pub record Lifetime : Type 0 where
  pub pointer : Pointer
  pub lifetime : LifetimeRef
  -- where it counts, if it has a name
  pub scope : LifetimeScope

-- the lifetimes that a `for` introduces
abbrev pub Binder : Type 0
Binder = List Name

-- what a `use<..>` names
pub data UseRead : Type 0 where
  used_name : Name → UseRead
  used_lifetime : Lifetime → UseRead

-- How a function pointer is written around its types; it has varargs where the last of its parameters is variadic. A name for
-- each of those that aren't: the one that its pattern gives it.
pub record FnHead : Type 0 where
  pub is_unsafe : Bool
  pub abi : ExternAbi
  pub is_varargs : Bool
  pub names : List (Option Name)

-- one use of a name that is bound, with the hygiene of its node
pub record Use : Type 0 where
  pub name : Name
  pub hygiene : HygieneId
  pub mode : BindingAnnotation

-- the literal of a pattern, and whether a minus stands in front of it
pub record Signed : Type 0 where
  pub minus : Bool
  pub literal : Literal

-- what stands around the fields of a record: whether it has a list of them, and whether two dots stand in that
pub record RecordHead : Type 0 where
  pub has_list : Bool
  pub has_dots : Bool

-- families of types, by their parts

pub data TypeLeaf : Type 0 where
  never_leaf : TypeLeaf
  infer_leaf : TypeLeaf

pub data TypeUnary : Type 0 where
  pointer_to : Mutability → TypeUnary
  slice_of : TypeUnary

-- families of forms, by their operands

-- no operand; what is left out (inline assembly, format strings) does nothing
pub data Leaf : Type 0 where
  underscore : Leaf
  include_bytes : Leaf
  left_out : Leaf

-- something is done with the value of one operand
pub data Unary : Type 0 where
  field_of : Name → Unary
  prefix_of : UnaryOp → Unary
  reference_to : Rawness → Mutability → Unary

-- with the values of two
pub data Binary : Type 0 where
  operator : Option BinaryOp → Binary
  index_of : Binary

-- with those of many; a tuple may begin with a comma
pub data Listing : Type 0 where
  tuple_of : Bool → Listing
  array_of : Listing

-- the body is left, with a value that may be absent
pub data Leaving : Type 0 where
  returning : Leaving
  yeeting : Leaving

-- what a range is made as
pub data RangeForm : Type 0 where
  -- a record of the item, whose field for the start is `start`, with the name of the one for the end
  record_range : LangItemId → Name → RangeForm
  -- a call of the item, or of nothing where that is none
  call_range : Option LangItemId → RangeForm
  -- there is no item to make a record of, so it is missing
  itemless_range : RangeForm

-- The items that a `?` takes: what it calls, the two kinds of what that answers, and what makes of a residual the value of the `try`
-- around it, or of the body; these two may be absent.
pub record QuestionItems : Type 0 where
  pub branch : LangItemId
  pub goes_on : LangItemId
  pub breaks : LangItemId
  pub into_try_type : Option LangItemId
  pub from_residual : Option LangItemId

-- The items that a `for` takes: what makes an iterator of its head, what that is asked with for the next one, and the two kinds of what
-- it answers.
pub record ForItems : Type 0 where
  pub into_iter : LangItemId
  pub next : LangItemId
  pub gives : LangItemId
  pub is_done : LangItemId

-- families of patterns, by their parts

-- a broken one is missing: a block of a constant, and a literal that isn't there
pub data PatLeaf : Type 0 where
  wild_leaf : PatLeaf
  rest_leaf : PatLeaf
  not_null_leaf : PatLeaf
  broken_leaf : PatLeaf

pub data PatUnary : Type 0 where
  ref_to : Mutability → PatUnary
  box_of : PatUnary
  deref_of : PatUnary

-- a call that is entered: its node, the file of its expansion, and what was expanded for it
pub record Entered : Type 0 where
  pub call : Pointer
  pub file : HirFileId
  pub eager : List Eager

-- what a macro call comes to before that is read which it stands for
pub data Called : Type 0 where
  -- that the text lacks
  callless : Called
  -- without an expansion, or one too deep
  unentered : Called
  -- with its node and the path of its macro
  unresolved : Pointer → ModPath → Called
  entered : Entered → Called
  -- one that stood for statements, of which this is what stands behind them
  spliced : Called

-- Where a pattern of the assignee expression comes from: its node, which leads to it, and the node of the outermost call, where it is an
-- element that comes out of calls.
pub record Origin : Type 0 where
  pub node : Pointer
  pub call : Option Pointer

-- Why nothing is left of an expression: the calls that were entered to find that out, outermost first, and the condition that disables
-- it. A call that the text lacks is gone without one.
pub record Gone : Type 0 where
  pub entered : List Entered
  pub condition : Option (Pointer × CfgId)

mutual
  pub data Type_ : Type 0 where
    paren_type : OptionType → Type_
    for_type : Binder → OptionType → Type_
    leaf_type : Pointer → TypeLeaf → Type_
    over_type : Pointer → TypeUnary → OptionType → Type_
    -- its length, and what it is an array of
    array_type : Pointer → Constant → OptionType → Type_
    tuple_type : Pointer → Parts → Type_
    path_type : Pointer → OptionPath → Type_
    ref_type : Pointer → Option Lifetime → Mutability → OptionType → Type_
    -- its parameters that aren't variadic, and what it returns
    fn_type : Pointer → FnHead → Parts → OptionType → Type_
    -- with what an `impl` becomes here
    impl_type : Pointer → ImplTrait → Bounds → Type_
    -- an `impl` inside of an `impl`
    nested_impl : Pointer → Type_
    dyn_type : Pointer → Bounds → Type_
    -- what the pattern is as such, and what it is in a type
    pattern_type : Pointer → OptionType → OptionPat → OptionTypePat → Type_
    -- what it stands for, where it is entered and that is a type
    macro_type : Pointer → Called → OptionType → Type_

  pub data OptionType : Type 0 where
    no_type : OptionType
    some_type : Type_ → OptionType

  -- the fields of a tuple, the parameters of a function pointer, or the types in `(A, B)`
  pub data Parts : Type 0 where
    no_parts : Parts
    more_parts : OptionType → Parts → Parts

  -- Where it is an alias in an argument, of each lifetime parameter of the alias whether the alias's type names it; whether `::` stands
  -- in front of it, its first segment, those behind it, and the path of the use tree around it.
  pub data Path : Type 0 where
    path : Option (List Bool) → Bool → Segment → Segments → OptionPath → Path

  pub data OptionPath : Type 0 where
    no_path : OptionPath
    some_path : Path → OptionPath

  pub data Segments : Type 0 where
    no_segments : Segments
    more_segments : Segment → Segments → Segments

  pub data Segment : Type 0 where
    -- that a text lacks
    absent_segment : Segment
    -- without a kind
    broken_segment : Segment
    name_segment : (n : Name) → IsWritten n → SegmentArgs → Segment
    self_type_segment : Segment
    crate_segment : Segment
    -- `$crate`, with the root of its context's crate
    dollar_crate_segment : Option CrateId → Segment
    self_segment : Segment
    super_segment : Segment
    -- `<T>`
    type_segment : Type_ → Segment
    -- `<T as Trait>`, with the node of the trait and its path
    trait_segment : Type_ → Pointer → OptionPath → Segment

  -- what stands behind a name: `<..>`, `(A) -> C`, and whether `(..)` with two dots in it
  pub data SegmentArgs : Type 0 where
    segment_args : OptionArgs → OptionParens → Bool → SegmentArgs

  pub data OptionParens : Type 0 where
    no_parens : OptionParens
    some_parens : Parts → OptionRet → OptionParens

  -- `-> C`, whose type may be absent
  pub data OptionRet : Type 0 where
    no_ret : OptionRet
    some_ret : OptionType → OptionRet

  pub data OptionArgs : Type 0 where
    no_arg_list : OptionArgs
    some_arg_list : Args → OptionArgs

  pub data Args : Type 0 where
    no_args : Args
    more_args : Arg → Args → Args

  pub data Arg : Type 0 where
    type_arg : OptionType → Arg
    lifetime_arg : Lifetime → Arg
    const_arg : Constant → Arg
    -- a lifetime that a text lacks, and a binding with a parameter list or without a name
    skipped_arg : Arg
    -- a binding: its name, its `<..>`, whether `(..)` with two dots in it stands there, its type and its bounds
    assoc_arg : Name → OptionArgs → Bool → OptionType → Bounds → Arg

  pub data Bounds : Type 0 where
    no_bounds : Bounds
    more_bounds : Bound → Bounds → Bounds

  pub data Bound : Type 0 where
    error_bound : Bound
    -- the node of the trait, its path, whether `?` stands in front of it, and the lifetimes of its `for`
    path_bound : Pointer → OptionPath → Bool → Binder → Bound
    lifetime_bound : Lifetime → Bound
    use_bound : List UseRead → Bound

  -- An argument, the length of an array, or a `const` block. A length that a text lacks is a constant, too.
  pub data Constant : Type 0 where
    constant : OptionExpr → Constant

  pub data Expr : Type 0 where
    -- nothing is left of it
    disabled_expr : Gone → Expr → Expr
    if_expr : Pointer → OptionExpr → OptionBlock → OptionExpr → Expr
    block_expr : Block → Expr
    loop_expr : Pointer → (label : Option Label) → IsWrittenLabel label → OptionBlock → Expr
    while_expr : Pointer → (label : Option Label) → IsWrittenLabel label → OptionExpr → OptionBlock → Expr
    -- `for`: its label, its pattern, its head, and its body, which is read as an expression
    for_expr : Pointer → ForItems → (label : Option Label) → IsWrittenLabel label → OptionPat → OptionExpr → OptionExpr → Expr
    -- `e?`
    question_expr : Pointer → QuestionItems → OptionExpr → Expr
    -- a `for` or a `?` for which the language lacks an item: it is missing, and nothing in it is read
    itemless_expr : Pointer → Expr
    -- A `try` block: the item through which its value goes, its type, where one is written, its number, its statements and its
    -- written tail.
    try_expr : Pointer → Option LangItemId → OptionType → Option BlockId → Stmts → OptionExpr → Expr
    -- An `async`, `gen` or `async gen` block: which of these, whether `move` stands behind it, its number, its statements and its
    -- written tail. It is a body of its own.
    coroutine_expr : Pointer → CoroutineKind → Bool → Option BlockId → Stmts → OptionExpr → Expr
    -- with whether it has a list of arguments
    call_expr : Pointer → OptionExpr → Bool → Exprs → Expr
    path_expr : Pointer → OptionPath → HygieneId → Expr
    continue_expr : Pointer → Option Jump → Expr
    break_expr : Pointer → Option Jump → OptionExpr → Expr
    paren_expr : Pointer → OptionExpr → Expr
    literal_expr : Pointer → Literal → Expr
    leaf_expr : Pointer → Leaf → Expr
    unary_expr : Pointer → Unary → OptionExpr → Expr
    binary_expr : Pointer → Binary → OptionExpr → OptionExpr → Expr
    lazy_expr : Pointer → LogicOp → OptionExpr → OptionExpr → Expr
    list_expr : Pointer → Listing → Exprs → Expr
    -- `[e; n]`: what is repeated, and how often, which is a body of its own
    repeat_expr : Pointer → OptionExpr → Constant → Expr
    -- a `const` block, which is a body of its own
    const_expr : Pointer → Constant → Expr
    -- A closure: whether `move` and whether `static` stands in front of it, its parameters, what it returns, and its body, which is a
    -- body of its own.
    closure_expr : Pointer → Bool → Bool → Params → OptionType → OptionExpr → Expr
    -- A closure with `async`, `gen` or both: which of these, whether `move` stands in front of it, its parameters, what it returns, and its
    -- body, which is a coroutine.
    coroutine_closure_expr : Pointer → CoroutineKind → Bool → Params → OptionType → OptionExpr → Expr
    method_call_expr : Pointer → OptionExpr → Name → Exprs → OptionArgs → Expr
    leaving_expr : Pointer → Leaving → OptionExpr → Expr
    become_expr : Pointer → OptionExpr → Expr
    yield_expr : Pointer → OptionExpr → Expr
    -- with what it stands in, where that isn't async
    await_expr : Pointer → Option AwaitLocation → OptionExpr → Expr
    cast_expr : Pointer → OptionExpr → OptionType → Expr
    record_expr : Pointer → OptionPath → RecordHead → Fields → Spread → Expr
    offset_of_expr : Pointer → OptionType → List Name → Expr
    -- a prefix without its operator
    nameless_expr : Pointer → OptionExpr → Expr
    -- a `let` that is a condition
    let_expr : Pointer → OptionPat → OptionExpr → Expr
    match_expr : Pointer → OptionExpr → Arms → Expr
    range_expr : Pointer → RangeForm → OptionExpr → OptionExpr → Expr
    -- what it stands for, where it is entered and that is an expression
    macro_expr : Pointer → Called → OptionExpr → Expr
    -- the assignee expression, as an expression and as a target, and the value
    assign_expr : Pointer → OptionExpr → Target → OptionExpr → Expr

  -- the parameters of a closure
  pub data Params : Type 0 where
    no_params : Params
    more_params : Param → Params → Params

  -- its pattern and its type
  pub data Param : Type 0 where
    disabled_param : Pointer → CfgId → Param → Param
    param : OptionPat → OptionType → Param

  pub data OptionExpr : Type 0 where
    no_expr : OptionExpr
    some_expr : Expr → OptionExpr

  pub data Exprs : Type 0 where
    no_exprs : Exprs
    more_exprs : Expr → Exprs → Exprs

  -- the fields of a record
  pub data Fields : Type 0 where
    no_fields : Fields
    more_fields : Field → Fields → Fields

  pub data Field : Type 0 where
    -- with the condition that disables it
    disabled_field : Pointer → CfgId → Field → Field
    nameless_field : Pointer → OptionExpr → Field
    named_field : Pointer → Name → OptionExpr → Field

  pub data Arms : Type 0 where
    no_arms : Arms
    more_arms : Arm → Arms → Arms

  -- an arm of a `match`
  pub data Arm : Type 0 where
    disabled_arm : Pointer → CfgId → Arm → Arm
    arm : OptionPat → OptionExpr → Guard → Arm

  -- `if` behind the pattern of an arm, whose condition may be absent
  pub data Guard : Type 0 where
    no_guard : Guard
    guard : OptionExpr → Guard

  -- what stands behind the fields of a record: nothing, two dots, or two dots with an expression
  pub data Spread : Type 0 where
    no_spread : Spread
    field_defaults : Spread
    spread_of : Expr → Spread

  -- whether it is unsafe, its label, its number, its statements and its written tail; a block that stands where only a
  -- block may is neither unsafe nor labelled
  pub data Block : Type 0 where
    block : Pointer → Bool → (label : Option Label) → IsWrittenLabel label → Option BlockId → Stmts → OptionExpr → Block

  pub data OptionBlock : Type 0 where
    no_block : OptionBlock
    some_block : Block → OptionBlock

  pub data Stmts : Type 0 where
    no_stmts : Stmts
    more_stmts : Stmt → Stmts → Stmts

  -- an expression with or without a semicolon, an item, or a `let` with its pattern, type, initializer and `else`
  pub data Stmt : Type 0 where
    disabled_stmt : Pointer → CfgId → Stmt → Stmt
    expr_stmt : OptionExpr → Bool → Stmt
    item_stmt : Stmt
    -- a call that stood here for the statements behind it
    call_stmt : Entered → Stmt
    -- the definition of a macro: how many of its name were counted before it in the block, and its number, without which it is an item
    macro_stmt : ℕ → Option MacroDefId → Stmt
    let_stmt : OptionPat → OptionType → OptionExpr → OptionBlock → Stmt

  pub data Pat : Type 0 where
    leaf_pat : Pointer → PatLeaf → Pat
    -- a name that is bound, with what stands behind `@`
    bind_pat : Pointer → (u : Use) → IsWritten u.name → OptionPat → Pat
    -- A plain name that stands for a constant, a variant or a struct: a path. Where names always bind it is the use.
    name_pat : Pointer → (u : Use) → IsWritten u.name → Pat
    path_pat : Pointer → OptionPath → Pat
    -- with whether a comma stands in front of all parts
    tuple_struct_pat : Pointer → OptionPath → Bool → Pats → Pat
    tuple_pat : Pointer → Bool → Pats → Pat
    -- with whether two dots stand behind the fields
    record_pat : Pointer → OptionPath → PatFields → Bool → Pat
    or_pat : Pointer → Pats → Pat
    paren_pat : Pointer → OptionPat → Pat
    -- those in front of the middle, the middle, and those behind it
    slice_pat : Pointer → Pats → OptionPat → Pats → Pat
    over_pat : Pointer → PatUnary → OptionPat → Pat
    -- with the node of the literal, where that isn't the pattern's own
    literal_pat : Pointer → Option Pointer → Signed → Pat
    -- without its operator it is missing
    range_pat : Pointer → Option RangeOp → Side → Side → Pat
    -- what it stands for, where it is entered and that is a pattern
    macro_pat : Pointer → Called → OptionPat → Pat
    -- one where only a plain name or `_` may stand
    barred_pat : Pointer → Pat

  pub data OptionPat : Type 0 where
    no_pat : OptionPat
    some_pat : Pat → OptionPat

  pub data Pats : Type 0 where
    no_pats : Pats
    more_pats : Pat → Pats → Pats
    -- a call in front of the two dots that it stands for
    tracked_pats : Called → Pats → Pats

  pub data PatFields : Type 0 where
    no_pat_fields : PatFields
    more_pat_fields : PatField → PatFields → PatFields

  pub data PatField : Type 0 where
    disabled_pat_field : Pointer → CfgId → PatField → PatField
    -- without its pattern
    partless_pat_field : PatField
    -- one without a name is no part of the record, but its pattern is read
    pat_field : Pointer → Option Name → Pat → PatField

  -- a side of a range, with the node of its pattern
  pub data Side : Type 0 where
    no_side : Side
    literal_side : Pointer → Signed → Side
    -- a plain name, always a path; it is missing where the text lacks it
    name_side : Pointer → (n : Name) → IsWritten n → Side
    path_side : Pointer → OptionPath → Side
    -- another pattern
    other_side : Side

  -- a pattern in a type
  pub data TypePat : Type 0 where
    not_null_type_pat : Pointer → TypePat
    or_type_pat : Pointer → TypePats → TypePat
    range_type_pat : Pointer → Limit → Limit → TypePat
    macro_type_pat : Pointer → Called → OptionTypePat → TypePat
    -- another one, which is missing
    other_type_pat : Pointer → TypePat

  pub data OptionTypePat : Type 0 where
    no_type_pat : OptionTypePat
    some_type_pat : TypePat → OptionTypePat

  pub data TypePats : Type 0 where
    no_type_pats : TypePats
    more_type_pats : TypePat → TypePats → TypePats

  -- an end of a range in a type, which is itself part of the range
  pub data Limit : Type 0 where
    -- the item that stands for an absent one
    item_limit : Option LangItemId → Limit
    side_limit : Side → Limit
    -- the last before the side, found by a call of the item
    before_limit : Option LangItemId → Side → Limit

  -- the assignee expression
  pub data Target : Type 0 where
    -- with the node of the outermost call, where it is an element that comes out of calls
    absent_target : Option Pointer → Target
    -- any other expression, and the node that its pattern comes from: that of its outermost parentheses inside of the nearest call, or,
    -- where it is an element that comes out of calls, of the outermost one
    place_target : Pointer → Expr → Target
    wild_target : Origin → Target
    -- What a call stands for, and the node of the call, which leads there. One that is an element or leads to a callee leads nowhere, but
    -- for one that the text lacks.
    macro_target : Option Pointer → Called → Target → Target
    -- a path that stands for a constant, a variant, a struct, a union or an enum, with the hygiene of its node
    path_target : Origin → Path → HygieneId → Target
    tuple_target : Origin → Targets → Target
    call_target : Origin → OptionPath → Targets → Target
    -- those in front of the first two dots, the node of the dots, and those behind
    array_target : Origin → Targets → Option Pointer → Targets → Target
    -- with whether two dots stand behind the fields, and the node of an expression behind these
    record_target : Origin → OptionPath → TargetFields → Bool → Option Pointer → Target

  pub data Targets : Type 0 where
    no_targets : Targets
    more_targets : Target → Targets → Targets
    -- two dots stand in front of these
    dots_targets : Targets → Targets
    -- a call in front of the two dots that it stands for
    tracked_targets : Called → Targets → Targets

  pub data TargetFields : Type 0 where
    no_target_fields : TargetFields
    more_target_fields : TargetField → TargetFields → TargetFields

  pub data TargetField : Type 0 where
    disabled_target_field : Pointer → CfgId → TargetField
    -- without its expression
    partless_target_field : TargetField
    -- one without a name is no part of the record, but its expression is read
    target_field : Pointer → Option Name → Target → TargetField

-- the parameters of a body

-- `self` binds that name
pub data SelfFormal : Type 0 where
  no_self : SelfFormal
  disabled_self : Pointer → CfgId → SelfFormal
  self_formal : Pointer → (u : Use) → IsWritten u.name → SelfFormal

pub data Formal : Type 0 where
  disabled_formal : Pointer → CfgId → Formal
  formal : OptionPat → Formal

pub record Formals : Type 0 where
  pub receiver : SelfFormal
  pub formals : List Formal
