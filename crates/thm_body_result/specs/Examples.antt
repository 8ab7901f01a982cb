-- Small trees: their faults, their blocks, what whatever stands for them has stored, and what owns their bindings.
use Rattle.std.specs.Prelude.{Option, ◌≡◌, ℕ, Bool, true, false, List, [], ◌∷◌, Some, None, slice_get}
use Rattle.hir_binding.specs.declared.binding.BindingAnnotation.TheVariants as mode
use Rattle.hir_binding.specs.declared.binding.BindingAnnotation.TheVariants.{Mutable, Unannotated}
use Rattle.hir_binding.specs.declared.binding.BindingProblems.TheVariants.{BoundMoreThanOnce}
use Rattle.hir_store.specs.Stored.{Store, SourceMap}
use Rattle.hir_store.specs.declared.diagnostics.ExpressionStoreDiagnostics.TheVariants.{AwaitOutsideOfAsync, InactiveCode}
use Rattle.hir_store.specs.declared.diagnostics.ExpressionStoreDiagnostics.TheVariants.{UndeclaredLabel, UnreachableLabel}
use Rattle.hir_store.specs.declared.diagnostics.AwaitLocation.{AwaitLocation}
use Rattle.hir_store.specs.declared.hir.Array.TheVariants as array
use Rattle.hir_store.specs.declared.hir.CaptureBy.{CaptureBy}
use Rattle.hir_store.specs.declared.hir.CaptureBy.TheVariants as capture
use Rattle.hir_store.specs.declared.hir.ClosureKind.TheVariants as closure
use Rattle.hir_store.specs.declared.hir.CoroutineKind.{CoroutineKind}
use Rattle.hir_store.specs.declared.hir.CoroutineSource.TheVariants as source
use Rattle.hir_store.specs.declared.hir.Expr.{Expr as HirExpr}
use Rattle.hir_store.specs.declared.hir.Expr.TheVariants as hir
use Rattle.hir_store.specs.declared.hir.LoopSource.TheVariants.{ForLoop}
use Rattle.hir_store.specs.declared.hir.MatchArm.{MatchArm}
use Rattle.hir_store.specs.declared.hir.Mutability.TheVariants.{Mut}
use Rattle.hir_store.specs.declared.hir.Rawness.TheVariants.{Ref}
use Rattle.hir_store.specs.declared.hir.Statement.TheVariants as statement
use Rattle.hir_store.specs.declared.name.Name.{Name}
use Rattle.hir_store.specs.declared.name.Name.TheVariants as name
use Rattle.hir_store.specs.declared.path.Path.TheVariants.{BarePath}
use Rattle.hir_store.specs.declared.path.PathKind.TheVariants as kind
use Rattle.hir_store.specs.declared.ids.BlockId.{BlockId}
use Rattle.hir_store.specs.declared.ids.CfgId.{CfgId}
use Rattle.hir_store.specs.declared.ids.BindingId.{BindingId}
use Rattle.hir_store.specs.declared.ids.ExprId.{ExprId}
use Rattle.hir_store.specs.declared.ids.LabelId.{LabelId}
use Rattle.hir_store.specs.declared.ids.PatId.{PatId}
use Rattle.hir_store.specs.declared.ids.TypeRefId.{TypeRefId}
use Rattle.hir_store.specs.declared.pat.Binding.{Binding}
use Rattle.hir_store.specs.declared.pat.Pat.TheVariants as pat
use Rattle.hir_lower_scope.specs.ScopeRibs.{try_rib, barrier_rib}
use Rattle.hir_lower_scope.specs.Scopes.{loop_scope, barrier}
use Rattle.hir_env.specs.ResolvedTree as tree
use Rattle.hir_env.specs.ResolvedTree.{ForItems, QuestionItems, Segment, Expr, OptionExpr, Exprs, Block, Stmts, Use, Pat, OptionPat}
use Rattle.hir_env.specs.ResolvedTree.{Formals, Gone, Params}
use Rattle.spec_data.specs.Examples.{whole}
use Rattle.spec_semantics.specs.Small.{at, root, one, two, literal_at, label_with, label_a, jump_a, first, in_braces, loop_of}
use Rattle.spec_semantics.specs.Small.{stored_one, stored_two, none_beside}
pub use Rattle.spec_semantics.specs.Fuel.{other}
use Rattle.spec_semantics.specs.Forms.{plus}
use Rattle.thm_body_result.specs.Leads.{Mapping, expr_mapping, unled_mapping, binding_mapping}
use Rattle.thm_body_result.specs.Corresponds.{NamesOf, Open, opened, Corresponds}
use Rattle.thm_body_result.specs.CorrespondsParts.{Names}
use Rattle.thm_body_result.specs.CorrespondsReads.{made_for}
use Rattle.thm_body_result.specs.CorrespondsWhole.{CorrespondsTop}
use Rattle.thm_body_result.specs.Diagnostics.{diagnostics}
use Rattle.thm_body_result.specs.Blocks.{blocks_of}
use Rattle.thm_body_result.specs.Room.{body_size, size}
use Rattle.thm_body_result.specs.Size.{placed_owners}

-- Whatever stands for the tree, where these labels are open, has this expression stored.
abbrev pub StoredAs : Open → Expr → HirExpr → Type 0
StoredAs rs e x =
    (store : Store) (source_map : SourceMap) (i : ExprId) (ws : List Mapping) → Corresponds store source_map rs e i ws
    → slice_get store.exprs i.0 ≡ Some x

-- an expression that names one other
abbrev pub StoredOver : Expr → (ExprId → HirExpr) → Type 0
StoredOver e x = (store : Store) (source_map : SourceMap) (i : ExprId) (ws : List Mapping) → Corresponds store source_map [] e i ws
    → (part : ExprId) × (slice_get store.exprs i.0 ≡ Some (x part))

-- jumps

abbrev pub break_a : Expr
break_a = tree.break_expr (at 4) (Some jump_a) tree.no_expr

-- `'a: loop { 'a: loop { break 'a } }`, where the inner label is a macro's
abbrev pub two_loops : Expr
two_loops = loop_of 0 (Some root) (in_braces 2 None (loop_of 3 (Some other) (in_braces 5 None break_a)))

-- the inner loop alone
abbrev pub one_label : Expr
one_label = loop_of 3 (Some other) (in_braces 5 None break_a)

pub record Jumps : Type 0 where
  pub no_fault : diagnostics [] two_loops ≡ []
  pub named : (inner outer : LabelId)
      → StoredAs (opened (label_with other) inner (opened label_a outer [])) break_a (hir.Break (Some outer) None)
  pub undeclared : diagnostics [] one_label ≡ UndeclaredLabel jump_a.pointer jump_a.name ∷ []
  pub nearer : diagnostics (barrier ∷ loop_scope (Some label_a) ∷ []) two_loops ≡ []
  pub unreachable : diagnostics (barrier ∷ loop_scope (Some label_a) ∷ []) break_a ≡ UnreachableLabel jump_a.pointer jump_a.name ∷ []

-- statements

-- why something is gone at this node, without a call
abbrev pub disabled_at : ℕ → CfgId → Gone
disabled_at n by = record { entered = []; condition = Some (at n, by) }

-- a block with a number, in which is a fault, disabled
abbrev pub disabled_block : CfgId → Expr
disabled_block by =
    let number : BlockId = record { 0 = 7 } in
    tree.disabled_expr (disabled_at 2 by)
    (tree.block_expr (tree.block (at 2) false None tt (Some number) tree.no_stmts (tree.some_expr break_a)))

-- a literal, with or without a semicolon, and then what is disabled
abbrev pub literal_first : CfgId → Bool → Stmts
literal_first by semi = tree.more_stmts (tree.expr_stmt (tree.some_expr (literal_at 1 one)) semi) (first (disabled_block by) tree.no_stmts)

abbrev pub block_with : CfgId → Bool → OptionExpr → Expr
block_with by semi tail = tree.block_expr (tree.block (at 0) false None tt None (literal_first by semi) tail)

pub record Statements : Type 0 where
  pub becomes_tail : (by : CfgId) → StoredOver (block_with by false tree.no_expr) (λ last. hir.Block false None None [] (Some last))
  pub has_semicolon : (by : CfgId)
      → StoredOver (block_with by true tree.no_expr) (λ v. hir.Block false None None (statement.Expr v true ∷ []) None)
  pub disabled_tail : (by : CfgId)
      → StoredOver (block_with by false (tree.some_expr (disabled_block by))) (λ last. hir.Block false None None [] (Some last))
  pub faults : (by : CfgId) (semi : Bool) → diagnostics [] (block_with by semi tree.no_expr) ≡ InactiveCode (at 2) by ∷ []
  pub blocks : (by : CfgId) (semi : Bool) → blocks_of (block_with by semi tree.no_expr) ≡ []

-- blocks

-- a block with this number, with this in it
abbrev pub block_numbered : ℕ → Stmts → OptionExpr → Block
block_numbered n ss tail = tree.block (at n) false None tt (Some (record { 0 = n })) ss tail

abbrev pub empty_block : ℕ → Block
empty_block n = block_numbered n tree.no_stmts tree.no_expr

abbrev pub just : ℕ → OptionExpr
just n = tree.some_expr (tree.block_expr (empty_block n))

abbrev pub block_id : ℕ → BlockId
block_id n = record { 0 = n }

-- `{ if {} {} else {}; {} }`
abbrev pub branches : Expr
branches = tree.block_expr (block_numbered 1
    (first (tree.if_expr (at 2) (just 3) (tree.some_block (empty_block 4)) (just 5)) tree.no_stmts) (just 6))

-- the condition's block is entered after those of the branches
abbrev pub EntersInOrder : Type 0
EntersInOrder = blocks_of branches ≡ block_id 1 ∷ block_id 4 ∷ block_id 5 ∷ block_id 3 ∷ block_id 6 ∷ []

-- paths and parentheses

abbrev pub letter : ℕ → Name
letter c = name.Text (c ∷ [])

abbrev pub named : ℕ → Segment
named c = tree.name_segment (letter c) tt none_beside

pub record Leaves : Type 0 where
  pub one_name : StoredAs [] (tree.path_expr (at 0) (whole (named 97) []) other)
      (hir.Path (BarePath (record { kind = kind.Plain; segments = letter 97 ∷ [] })) other)
  pub two_names : StoredAs [] (tree.path_expr (at 0) (whole (named 97) (named 98 ∷ [])) other)
      (hir.Path (BarePath (record { kind = kind.Plain; segments = letter 97 ∷ letter 98 ∷ [] })) root)
  -- keywords are no names
  pub from_crate : StoredAs [] (tree.path_expr (at 0) (whole tree.crate_segment (tree.super_segment ∷ named 97 ∷ [])) other)
      (hir.Path (BarePath (record { kind = kind.Crate; segments = letter 97 ∷ [] })) other)
  pub self_alone : StoredAs [] (tree.path_expr (at 0) (whole tree.self_segment []) other)
      (hir.Path (BarePath (record { kind = kind.Super 0; segments = [] })) other)
  pub refused : StoredAs [] (tree.path_expr (at 0) (whole (named 97) (tree.broken_segment ∷ [])) root) hir.Missing
  -- both nodes lead to what is in the parentheses
  pub parentheses : (store : Store) (source_map : SourceMap) (i : ExprId) (ws : List Mapping)
      → Corresponds store source_map [] (tree.paren_expr (at 0) (tree.some_expr (literal_at 1 one))) i ws
      → ws ≡ expr_mapping (at 1) i ∷ expr_mapping (at 0) i ∷ []

-- plain forms

abbrev pub literal_part : ℕ → OptionExpr
literal_part n = tree.some_expr (literal_at n one)

-- `1 + 2`
abbrev pub sum_expr : Expr
sum_expr = tree.binary_expr (at 0) (tree.operator plus) (literal_part 1) (tree.some_expr (literal_at 2 two))

-- an expression that names these two
pub record StoredWith (x : ExprId → ExprId → HirExpr) (left right : HirExpr) (store : Store) (i : ExprId) : Type 0 where
  pub one : ExprId
  pub other : ExprId
  pub whole : slice_get store.exprs i.0 ≡ Some (x one other)
  pub first : slice_get store.exprs one.0 ≡ Some left
  pub second : slice_get store.exprs other.0 ≡ Some right

abbrev pub IsStoredWith : Expr → (ExprId → ExprId → HirExpr) → HirExpr → HirExpr → Type 0
IsStoredWith e x left right = (store : Store) (source_map : SourceMap) (i : ExprId) (ws : List Mapping)
    → Corresponds store source_map [] e i ws → StoredWith x left right store i

-- `1.m(2)`
abbrev pub call_m : Expr
call_m = tree.method_call_expr (at 0) (literal_part 1) (letter 109) (tree.more_exprs (literal_at 2 two) tree.no_exprs) tree.no_arg_list

-- a literal, and then what is disabled
abbrev pub elements : CfgId → Exprs
elements by = tree.more_exprs (literal_at 1 one) (tree.more_exprs (disabled_block by) tree.no_exprs)

abbrev pub half_tuple : CfgId → Bool → Expr
half_tuple by leading_comma = tree.list_expr (at 0) (tree.tuple_of leading_comma) (elements by)

-- await of `break 'a`
abbrev pub await_break : Option AwaitLocation → Expr
await_break location = tree.await_expr (at 0) location (tree.some_expr break_a)

-- `unsafe {}` with a number
abbrev pub unsafe_empty : Expr
unsafe_empty = tree.block_expr (tree.block (at 0) true None tt (Some (block_id 7)) tree.no_stmts tree.no_expr)

-- the block and another one
abbrev pub two_blocks : Expr
two_blocks = tree.binary_expr (at 1) (tree.operator plus) (tree.some_expr unsafe_empty) (just 3)

pub record PlainForms : Type 0 where
  pub adds : IsStoredWith sum_expr (λ left right. hir.BinaryOp plus left right) stored_one stored_two
  pub calls : IsStoredWith call_m (λ receiver argument. hir.MethodCall receiver (letter 109) None (argument ∷ [])) stored_one stored_two
  pub disabled_element : (by : CfgId) → StoredOver (half_tuple by false) (λ v. hir.Tuple (v ∷ []))
  pub leading_comma : (by : CfgId) → IsStoredWith (half_tuple by true) (λ front v. hir.Tuple (front ∷ v ∷ [])) hir.Missing stored_one
  pub awaits : (location : AwaitLocation) → diagnostics [] (await_break (Some location))
      ≡ UndeclaredLabel jump_a.pointer jump_a.name ∷ AwaitOutsideOfAsync (at 0) location ∷ []
  pub awaits_in_async : diagnostics [] (await_break None) ≡ UndeclaredLabel jump_a.pointer jump_a.name ∷ []
  pub is_unsafe : StoredAs [] unsafe_empty (hir.Block true None (Some (block_id 7)) [] None)
  pub left_first : blocks_of two_blocks ≡ block_id 7 ∷ block_id 3 ∷ []
  -- the operand of a prefix without operator has its way, and the form its own
  pub nameless : (store : Store) (source_map : SourceMap) (i : ExprId) (ws : List Mapping)
      → Corresponds store source_map [] (tree.nameless_expr (at 0) (literal_part 1)) i ws
      → (part : ExprId) × (slice_get store.exprs i.0 ≡ Some hir.Missing) × (ws ≡ expr_mapping (at 1) part ∷ expr_mapping (at 0) i ∷ [])

-- patterns

abbrev pub use_x : Use
use_x = record { name = letter 120; hygiene = root; mode = Unannotated }

abbrev pub x_at : ℕ → Pat
x_at n = tree.bind_pat (at n) use_x tt tree.no_pat

-- `(x, .., x)`
abbrev pub twice : OptionPat
twice = tree.some_pat (tree.tuple_pat (at 0) false
    (tree.more_pats (x_at 1) (tree.more_pats (tree.leaf_pat (at 2) tree.rest_leaf) (tree.more_pats (x_at 3) tree.no_pats))))

-- Both are the one binding, which its first use alone leads to, and which shows that it is bound more than once; two dots are no part.
pub record BindsTwice (store : Store) (q : PatId) (ws : List Mapping) : Type 0 where
  pub one : BindingId
  pub first : PatId
  pub second : PatId
  pub dots : Option ℕ
  pub tuple : slice_get store.pats q.0 ≡ Some (pat.Tuple dots (first ∷ second ∷ []))
  pub first_binds : slice_get store.pats first.0 ≡ Some (pat.Bind one None)
  pub second_binds : slice_get store.pats second.0 ≡ Some (pat.Bind one None)
  pub made : made_for store one ≡ Some use_x
  pub shows : (x : Binding) → slice_get store.bindings one.0 ≡ Some x → x.problems ≡ Some BoundMoreThanOnce
  pub mappings : ws ≡ binding_mapping one None ∷ []

-- `(x, ref x)`
abbrev pub in_two_modes : OptionPat
in_two_modes = tree.some_pat (tree.tuple_pat (at 0) false
    (tree.more_pats (x_at 1)
    (tree.more_pats (tree.bind_pat (at 2) (record use_x { mode = mode.Ref }) tt tree.no_pat) tree.no_pats)))

-- `1 = 2`
abbrev pub assign_one : Expr
assign_one = tree.assign_expr (at 0) tree.no_expr (tree.place_target (at 1) (literal_at 1 one)) (tree.some_expr (literal_at 2 two))

-- what stands on the left is a pattern, which is that expression; it comes first
pub record Assigns (store : Store) (i : ExprId) (ws : List Mapping) : Type 0 where
  pub target : PatId
  pub place : ExprId
  pub value : ExprId
  pub whole : slice_get store.exprs i.0 ≡ Some (hir.Assignment target value)
  pub is_place : slice_get store.pats target.0 ≡ Some (pat.Expr place)
  pub first : slice_get store.exprs place.0 ≡ Some stored_one
  pub second : slice_get store.exprs value.0 ≡ Some stored_two
  pub mappings : ws ≡ expr_mapping (at 1) place ∷ expr_mapping (at 2) value ∷ expr_mapping (at 0) i ∷ []

pub record Patterned : Type 0 where
  pub binds_twice : (store : Store) (source_map : SourceMap) (q : PatId) (ws : List Mapping) → CorrespondsTop store source_map [] twice q ws
      → BindsTwice store q ws
  -- it is bound more than once, and in two modes: it shows what is noted last
  pub last_shows : (store : Store) (source_map : SourceMap) (q : PatId) (ks : Names) → NamesOf store source_map in_two_modes q ks
      → (b : BindingId) (x : Binding) → slice_get ks 0 ≡ Some b
      → slice_get store.bindings b.0 ≡ Some x → x.problems ≡ Some BoundMoreThanOnce
  pub assigns : (store : Store) (source_map : SourceMap) (i : ExprId) (ws : List Mapping) → Corresponds store source_map [] assign_one i ws
      → Assigns store i ws

-- `?` and `try`

-- `1?`
abbrev pub question : QuestionItems → Expr
question items = tree.question_expr (at 0) items (literal_part 1)

-- its second arm leaves with a value
pub record LeavesWith (store : Store) (i : ExprId) (x : ExprId → HirExpr) : Type 0 where
  pub choice : ExprId
  pub goes_on : MatchArm
  pub breaks : PatId
  pub out : ExprId
  pub value : ExprId
  pub whole : slice_get store.exprs i.0
      ≡ Some (hir.Match choice (goes_on ∷ record { pat = breaks; guard = None; expr = out } ∷ []))
  pub leaves : slice_get store.exprs out.0 ≡ Some (x value)

-- what leaves with the residual, whatever items the language has for that
abbrev pub LeavesAs : Open → (ExprId → HirExpr) → Type 0
LeavesAs rs x =
    (items : QuestionItems) (store : Store) (source_map : SourceMap) (i : ExprId) (ws : List Mapping)
    → Corresponds store source_map rs (question items) i ws → LeavesWith store i x

-- `'a: loop { try { break 'a } }`
abbrev pub break_in_try : Expr
break_in_try = loop_of 0 (Some root)
    (in_braces 2 None (tree.try_expr (at 3) None tree.no_type None tree.no_stmts (tree.some_expr break_a)))

-- `try { {} }`
abbrev pub try_numbered : Expr
try_numbered = tree.try_expr (at 0) None tree.no_type (Some (block_id 7)) tree.no_stmts (just 3)

pub record Tries : Type 0 where
  -- of two the inner one is meant, past a label
  pub innermost : (label inner outer : LabelId)
      → LeavesAs (opened label_a label (try_rib inner true ∷ try_rib outer false ∷ [])) (λ v. hir.Break (Some inner) (Some v))
  -- behind a border none is
  pub returns : (outer : LabelId) → LeavesAs (barrier_rib ∷ try_rib outer false ∷ []) (λ v. hir.Return (Some v))
  -- a jump by name passes it by
  pub passed : diagnostics [] break_in_try ≡ []
  pub enters : blocks_of try_numbered ≡ block_id 7 ∷ block_id 3 ∷ []

-- `for`

-- `'a: for x in head body`
abbrev pub for_over : ForItems → OptionExpr → OptionExpr → Expr
for_over items head body = tree.for_expr (at 0) items (Some label_a) tt (tree.some_pat (x_at 8)) head body

-- `'a: for x in 1 { break 'a }`
abbrev pub for_one : ForItems → Expr
for_one items = for_over items (literal_part 1) (tree.some_expr break_a)

-- What the head became is called upon, from the head's node. The value of that has a name, which may be changed, and the turn of the loop
-- asks with a reference to what has that very name.
pub record Iterates (store : Store) (source_map : SourceMap) (i : ExprId) : Type 0 where
  pub callee : ExprId
  pub head : ExprId
  pub iterator : ExprId
  pub named : PatId
  pub binding : BindingId
  pub number : ℕ
  pub repeats : ExprId
  pub iteration : ExprId
  pub label : LabelId
  pub choice : ExprId
  pub done : MatchArm
  pub given : MatchArm
  pub next : ExprId
  pub next_callee : ExprId
  pub reference : ExprId
  pub made : ExprId
  pub whole : slice_get store.exprs i.0 ≡ Some (hir.Match iterator (record { pat = named; guard = None; expr = repeats } ∷ []))
  pub calls : slice_get store.exprs iterator.0 ≡ Some (hir.Call callee (head ∷ []))
  pub from_head : slice_get source_map.expr_sources iterator.0 ≡ Some (Some (at 1))
  pub is_one : slice_get store.exprs head.0 ≡ Some stored_one
  pub binds : slice_get store.pats named.0 ≡ Some (pat.Bind binding None)
  pub is_mutable : slice_get store.bindings binding.0
      ≡ Some (record { name = name.Generated number; mode = Mutable; hygiene = root; problems = None })
  pub loops : slice_get store.exprs repeats.0 ≡ Some (hir.Loop iteration (Some label) ForLoop)
  pub fuel : slice_get store.exprs iteration.0 ≡ Some (hir.Block false None None [] (Some choice))
  pub chooses : slice_get store.exprs choice.0 ≡ Some (hir.Match next (done ∷ given ∷ []))
  pub asks : slice_get store.exprs next.0 ≡ Some (hir.Call next_callee (reference ∷ []))
  pub refers : slice_get store.exprs reference.0 ≡ Some (hir.Ref Ref Mut made)
  pub to_it : slice_get store.exprs made.0
      ≡ Some (hir.Path (BarePath (record { kind = kind.Plain; segments = name.Generated number ∷ [] })) root)

pub record Fors : Type 0 where
  pub iterates : (items : ForItems) (store : Store) (source_map : SourceMap) (i : ExprId) (ws : List Mapping)
      → Corresponds store source_map [] (for_one items) i ws → Iterates store source_map i
  -- its label is open in the body, and isn't in the head
  pub no_fault : (items : ForItems) → diagnostics [] (for_one items) ≡ []
  pub undeclared : (items : ForItems) → diagnostics [] (for_over items (tree.some_expr break_a) (literal_part 1))
      ≡ UndeclaredLabel jump_a.pointer jump_a.name ∷ []
  pub head_first : (items : ForItems) → blocks_of (for_over items (just 2) (just 3)) ≡ block_id 2 ∷ block_id 3 ∷ []

-- repeat arrays and const blocks

-- `[1; break 'a]`
abbrev pub repeat_break : Expr
repeat_break = tree.repeat_expr (at 5) (literal_part 1) (tree.constant (tree.some_expr break_a))

-- `const { 1 }`
abbrev pub const_one : Expr
const_one = tree.const_expr (at 0) (tree.constant (tree.some_expr (tree.block_expr (in_braces 0 None (literal_at 1 one)))))

-- what is repeated, and the length
abbrev pub repeat_array : ExprId → ExprId → HirExpr
repeat_array x n = hir.Array (array.Repeat x (record { expr = n }))

-- Its node leads to it, and no node to the block in it.
pub record IsConst (store : Store) (i : ExprId) (ws : List Mapping) : Type 0 where
  pub block : ExprId
  pub value : ExprId
  pub whole : slice_get store.exprs i.0 ≡ Some (hir.Const (record { expr = block }))
  pub inner : slice_get store.exprs block.0 ≡ Some (hir.Block false None None [] (Some value))
  pub is_one : slice_get store.exprs value.0 ≡ Some stored_one
  pub mappings : ws ≡ expr_mapping (at 1) value ∷ unled_mapping block ∷ expr_mapping (at 0) i ∷ []

pub record Consts : Type 0 where
  -- a label that is open around the array isn't in its length, and that is told
  pub repeats : (outer : LabelId) (store : Store) (source_map : SourceMap) (i : ExprId) (ws : List Mapping)
      → Corresponds store source_map (opened label_a outer []) repeat_break i ws
      → StoredWith repeat_array stored_one (hir.Break None None) store i
  pub unreachable : diagnostics (loop_scope (Some label_a) ∷ []) repeat_break ≡ UnreachableLabel jump_a.pointer jump_a.name ∷ []
  pub is_const : (store : Store) (source_map : SourceMap) (i : ExprId) (ws : List Mapping) → Corresponds store source_map [] const_one i ws
      → IsConst store i ws
  pub length_last : blocks_of (tree.repeat_expr (at 0) (just 2) (tree.constant (just 3))) ≡ block_id 2 ∷ block_id 3 ∷ []

-- closures

-- `move || break 'a`
abbrev pub closure_break : Expr
closure_break = tree.closure_expr (at 0) true false tree.no_params tree.no_type (tree.some_expr break_a)

-- `|_: [!; { .. }]| { .. }`, of numbered blocks
abbrev pub closure_blocks : Expr
closure_blocks =
    let never = tree.some_type (tree.leaf_type (at 7) tree.never_leaf) in
    let nevers = tree.some_type (tree.array_type (at 6) (tree.constant (just 2)) never) in
    tree.closure_expr (at 0) false false (tree.more_params (tree.param tree.no_pat nevers) tree.no_params) tree.no_type (just 3)

-- `|#[cfg(..)] _| 1`
abbrev pub closure_disabled : CfgId → OptionPat → Expr
closure_disabled by p = tree.closure_expr (at 0) false false
    (tree.more_params (tree.disabled_param (at 1) by (tree.param p tree.no_type)) tree.no_params) tree.no_type (literal_part 1)

-- It has no parameter, and a body.
pub record IsClosure (store : Store) (i : ExprId) : Type 0 where
  pub ret : Option TypeRefId
  pub body : ExprId
  pub whole : slice_get store.exprs i.0 ≡ Some (hir.Closure [] [] ret body closure.Closure capture.Value)
  pub inner : slice_get store.exprs body.0 ≡ Some (hir.Break None None)

pub record Closures : Type 0 where
  -- a label that is open around it isn't in its body, and that is told
  pub is_closure : (outer : LabelId) (store : Store) (source_map : SourceMap) (i : ExprId) (ws : List Mapping)
      → Corresponds store source_map (opened label_a outer []) closure_break i ws → IsClosure store i
  pub unreachable : diagnostics (loop_scope (Some label_a) ∷ []) closure_break ≡ UnreachableLabel jump_a.pointer jump_a.name ∷ []
  pub parameters_first : blocks_of closure_blocks ≡ block_id 2 ∷ block_id 3 ∷ []
  pub disabled : (by : CfgId) (p : OptionPat) → diagnostics [] (closure_disabled by p) ≡ InactiveCode (at 1) by ∷ []

-- coroutine blocks

-- `async { ss e }` with a number, of this kind, with `move` or without
abbrev pub coroutine_of : CoroutineKind → Bool → Stmts → OptionExpr → Expr
coroutine_of kind moves ss e = tree.coroutine_expr (at 0) kind moves (Some (block_id 7)) ss e

-- `async { break 'a }`
abbrev pub coroutine_break : CoroutineKind → Bool → Expr
coroutine_break kind moves = coroutine_of kind moves tree.no_stmts (tree.some_expr break_a)

-- Its node leads to it, and no node to the block in it.
pub record IsCoroutine (kind : CoroutineKind) (takes : CaptureBy) (store : Store) (i : ExprId) (ws : List Mapping) : Type 0 where
  pub block : ExprId
  pub value : ExprId
  pub whole : slice_get store.exprs i.0 ≡ Some (hir.Closure [] [] None block (closure.Coroutine kind source.Block) takes)
  pub inner : slice_get store.exprs block.0 ≡ Some (hir.Block false None (Some (block_id 7)) [] (Some value))
  pub breaks : slice_get store.exprs value.0 ≡ Some (hir.Break None None)
  pub mappings : ws ≡ expr_mapping (at 4) value ∷ unled_mapping block ∷ expr_mapping (at 0) i ∷ []

abbrev pub BecomesCoroutine : Bool → CaptureBy → Type 0
BecomesCoroutine moves takes =
    (kind : CoroutineKind) (outer : LabelId) (store : Store) (source_map : SourceMap) (i : ExprId) (ws : List Mapping)
    → Corresponds store source_map (opened label_a outer []) (coroutine_break kind moves) i ws → IsCoroutine kind takes store i ws

pub record Coroutines : Type 0 where
  -- a label that is open around it isn't in it, and that is told
  pub moves : BecomesCoroutine true capture.Value
  pub refers : BecomesCoroutine false capture.Ref
  pub unreachable : (kind : CoroutineKind) (moves : Bool)
      → diagnostics (loop_scope (Some label_a) ∷ []) (coroutine_break kind moves) ≡ UnreachableLabel jump_a.pointer jump_a.name ∷ []
  pub own_number_first : (kind : CoroutineKind) (moves : Bool)
      → blocks_of (coroutine_of kind moves tree.no_stmts (just 3)) ≡ block_id 7 ∷ block_id 3 ∷ []

-- what owns bindings

-- `let x;`
abbrev pub let_x : Stmts
let_x = tree.more_stmts (tree.let_stmt (tree.some_pat (x_at 8)) tree.no_type tree.no_expr tree.no_block) tree.no_stmts

-- `{ ss }`
abbrev pub braces : Stmts → Expr
braces ss = tree.block_expr (tree.block (at 9) false None tt None ss tree.no_expr)

-- `{ let x; }`
abbrev pub lets_x : OptionExpr
lets_x = tree.some_expr (braces let_x)

abbrev pub closure_of : Params → OptionExpr → Expr
closure_of xs e = tree.closure_expr (at 5) false false xs tree.no_type e

-- `x` between bars
abbrev pub param_x : Params
param_x = tree.more_params (tree.param (tree.some_pat (x_at 8)) tree.no_type) tree.no_params

-- `a::<{ let x; }>`
abbrev pub with_argument : Expr
with_argument =
    let arguments = tree.some_arg_list (tree.more_args (tree.const_arg (tree.constant lets_x)) tree.no_args) in
    tree.path_expr (at 2) (whole (tree.name_segment (letter 97) tt (tree.segment_args arguments tree.no_parens false)) []) root

-- `x` behind `self`
abbrev pub self_and_x : Formals
self_and_x = record { receiver = tree.self_formal (at 1) use_x tt; formals = tree.formal (tree.some_pat (x_at 2)) ∷ [] }

-- What owns each binding of the tree where it stands behind a literal, which is the expression 0, in a tuple.
abbrev pub owners_in : Expr → List (Option ExprId)
owners_in e =
    let elements = tree.more_exprs (literal_at 1 one) (tree.more_exprs e tree.no_exprs) in
    placed_owners 0 (size (tree.list_expr (at 0) (tree.tuple_of false) elements)).owners

abbrev pub owner : ℕ → Option ExprId
owner n = Some (record { 0 = n })

pub record Owners : Type 0 where
  -- `|x| || { let x; }`: the block 1, the inner closure 2, the outer one 3
  pub of_closures : owners_in (closure_of param_x (tree.some_expr (closure_of tree.no_params lets_x))) ≡ owner 3 ∷ owner 2 ∷ []
  -- `{ || 1; let x; }`
  pub behind : owners_in (braces (first (closure_of tree.no_params (literal_part 2)) let_x)) ≡ None ∷ []
  -- `[1; { let x; }]`: the literal 1, the block 2, the array 3
  pub of_length : owners_in (tree.repeat_expr (at 2) (literal_part 3) (tree.constant lets_x)) ≡ owner 2 ∷ []
  -- in a closure, which is 4
  pub innermost : owners_in (closure_of tree.no_params (tree.some_expr (tree.repeat_expr (at 2) (literal_part 3) (tree.constant lets_x))))
      ≡ owner 2 ∷ []
  -- `a::<{ let x; }>`: the block 1, the path 2
  pub of_argument : owners_in with_argument ≡ owner 1 ∷ []
  -- `const { let x; }`: the block 1, around it 2
  pub of_const : owners_in (tree.const_expr (at 2) (tree.constant lets_x)) ≡ owner 2 ∷ []
  -- `async { let x; || { let x; } }`: the inner block 1, the closure 2, the outer block 3, around it 4
  pub of_coroutine : (kind : CoroutineKind) (moves : Bool)
      → owners_in (coroutine_of kind moves let_x (tree.some_expr (closure_of tree.no_params lets_x))) ≡ owner 4 ∷ owner 2 ∷ []
  -- `|| 1?`, of which both names are made up: the literal 1, what it becomes 2 to 9, the closure 10
  pub of_generated_names : (items : QuestionItems)
      → owners_in (closure_of tree.no_params (tree.some_expr (question items))) ≡ owner 10 ∷ owner 10 ∷ []
  -- `|x| 1` behind five others: the literal 5, the closure 6
  pub behind_others : placed_owners 5 (size (closure_of param_x (literal_part 1))).owners ≡ owner 6 ∷ []
  -- `self` and `x` of a function
  pub of_function : placed_owners 0 (body_size None false self_and_x (literal_part 3)).owners ≡ None ∷ None ∷ []
