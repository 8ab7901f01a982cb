-- What a run reports and what it is told.
use Rattle.std.specs.Prelude.{ℕ, Bool, List, Option}
use Rattle.hir_store.specs.declared.ids.HygieneId.{HygieneId}
use Rattle.hir_store.specs.declared.ids.BlockId.{BlockId}
use Rattle.hir_store.specs.declared.ids.LangItemId.{LangItemId}
use Rattle.hir_base.specs.declared.op.UnaryOp.{UnaryOp}
use Rattle.hir_base.specs.declared.op.BinaryOp.{BinaryOp}
use Rattle.hir_store.specs.declared.hir.Rawness.{Rawness}
use Rattle.hir_store.specs.declared.hir.Mutability.{Mutability}
use Rattle.hir_store.specs.declared.hir.CaptureBy.{CaptureBy}
use Rattle.hir_store.specs.declared.hir.ClosureKind.{ClosureKind}
use Rattle.hir_store.specs.declared.name.Name.{Name}
use Rattle.hir_env.specs.NodeMap.{Site}
use Rattle.spec_data.specs.Data.{TypeData, OptionTypeData, PathData, PatData, OptionArgsData}
use Rattle.spec_data.specs.Literals.{LiteralData}

-- a value: what an event was answered, `()`, `true` or `false`, what the language itself names, a mutable reference to one that
-- nobody wrote a name for, or what a coroutine is handed for its parameter of this number, of those that no condition disables
pub data Value : Type 0 where
  reply : ℕ → Value
  unit : Value
  truth : Bool → Value
  item : LangItemId → Value
  mutable_to : Value → Value
  argument : ℕ → Value

-- what is asked of a value (Rust Reference, `if` expressions and patterns)
pub data Test : Type 0 where
  is_true : Test
  matches : PatData → Test

-- what stands behind the fields of a record: nothing, two dots, or two dots with a record, whose value is the last operand
pub data SpreadForm : Type 0 where
  no_spread : SpreadForm
  field_defaults : SpreadForm
  rest_of : SpreadForm

-- what happens: a literal with its data, the read of a path with the hygiene that it is looked up with, a call, the
-- entering of a block with its number and whether it is unsafe, a test, a `let` statement and an assignment; and what is done with
-- the values of operands (Rust Reference, the expressions and statements of these names)
pub data Operation : Type 0 where
  literal : LiteralData → Operation
  read : PathData → HygieneId → Operation
  call : Operation
  enter : Option BlockId → Bool → Operation
  underscore : Operation
  include_bytes : Operation
  field : Name → Operation
  prefix : UnaryOp → Operation
  reference : Rawness → Mutability → Operation
  operator : Option BinaryOp → Operation
  index : Operation
  tuple : Operation
  array : Operation
  -- an array of one operand again and again; its length is a body inside
  repeated : Operation
  -- what is in it is a body inside
  const_block : Operation
  -- what it is, how it takes what its body uses of the outside, its parameters, a type for each where one is written, and what it
  -- returns; its body is a body inside. A coroutine is one with the first two alone.
  closure : ClosureKind → CaptureBy → List PatData → List OptionTypeData → OptionTypeData → Operation
  method_call : Name → OptionArgsData → Operation
  cast : TypeData → Operation
  -- with the names of its fields
  made_record : PathData → List Name → SpreadForm → Operation
  offset_of : TypeData → List Name → Operation
  yielding : Operation
  awaiting : Operation
  test : Test → Operation
  -- to a pattern and a type, where one is written; its operand is the initializer, where there is one
  bound : PatData → OptionTypeData → Operation
  -- its operands are the value and the places in the assignee expression, in their order
  assigned : PatData → Operation
  -- the temporaries of a statement, or of the condition of a `while`, end; it has neither operands nor a site
  temps : Operation

-- what happens to which values, and at which node of which file, where it has one
pub record Event : Type 0 where
  pub operation : Operation
  pub operands : List Value
  pub site : Option Site

-- what the surroundings say to one event
pub record Answer : Type 0 where
  pub yes : Bool
  pub value : ℕ

-- the k-th answer goes to the k-th event
abbrev pub Oracle : Type 0
Oracle = List Answer

-- What ends a whole body, since neither a loop nor a block catches it: it answers a value early, nothing fits, something
-- is missing, or it is cut short.
pub data Leave : Type 0 where
  returned : Value → Leave
  became : Value → Leave
  yeeted : Value → Leave
  unmatched : Leave
  missing : Leave
  cut : Leave

-- How a run ends: with a value, by a jump, or by what ends the whole body. J is what is known of a jump.
pub data Outcome (J A : Type 0) : Type 0 where
  value : A → Outcome J A
  break : J → Value → Outcome J A
  continue : J → Outcome J A
  leave : Leave → Outcome J A

-- T is what a run keeps besides, such as the values of generated names.
pub record World (T : Type 0) : Type 0 where
  pub answers : Oracle
  pub events : List Event
  pub table : T
