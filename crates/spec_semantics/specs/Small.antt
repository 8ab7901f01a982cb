-- What small bodies are made of, as they are written and as they are stored.
use Rattle.std.specs.Prelude.{◌≡◌, ℕ, true, false, List, [], ◌∷◌, map, Option, Some, None, option_map}
use Rattle.hir_syntax.specs.declared.ast.Literal.{Literal as AstLiteral}
use Rattle.hir_base.specs.declared.op.LiteralKind.TheVariants.{Int}
use Rattle.hir_store.specs.Pointers.{Pointer}
use Rattle.hir_store.specs.Stored.{Store, SourceMap}
use Rattle.hir_store.specs.declared.hir.Expr.{Expr as Stored}
use Rattle.hir_store.specs.declared.hir.Expr.TheVariants as hir
use Rattle.hir_store.specs.declared.hir.Literal.{Literal}
use Rattle.hir_store.specs.declared.hir.LoopSource.TheVariants as source
use Rattle.hir_store.specs.declared.hir.Statement.{Statement}
use Rattle.hir_store.specs.declared.name.Name.{Name}
use Rattle.hir_store.specs.declared.name.Name.TheVariants as name
use Rattle.hir_store.specs.declared.path.Path.{Path}
use Rattle.hir_store.specs.declared.path.Path.TheVariants.{BarePath}
use Rattle.hir_store.specs.declared.path.PathKind.TheVariants.{Plain}
use Rattle.hir_store.specs.declared.ids.ExprId.{ExprId}
use Rattle.hir_store.specs.declared.ids.LabelId.{LabelId}
use Rattle.hir_store.specs.declared.ids.HygieneId.{HygieneId}
use Rattle.hir_env.specs.Answering.{site_of}
use Rattle.hir_env.specs.Tables.{no_contexts}
use Rattle.hir_env.specs.ResolvedTree as tree
use Rattle.hir_env.specs.ResolvedTree.{OptionPath, SegmentArgs, Label, IsWrittenLabel, Jump, Expr, OptionExpr, Block, Stmts}
use Rattle.spec_data.specs.Data.{PathData, path_data, no_type, more_names, no_names, no_args}
use Rattle.spec_semantics.specs.Data.{literal_data}
use Rattle.spec_semantics.specs.Run.{Value, Operation, literal, read, temps, Event, event_at, Oracle, Body}
use Rattle.spec_semantics.specs.Syntax.{written_body}
use Rattle.spec_semantics.specs.Store.{stored_body}
use Rattle.spec_semantics.specs.Same.{Ending, ending_of, does}

-- node n of the file 0
abbrev pub at : ℕ → Pointer
at n = record { file_id = record { 0 = 0 }; value = record { node = record { 0 = n }; range = record { start = 0; end = 0 } } }

abbrev pub root : HygieneId
root = record { 0 = 0 }

-- written

-- the literal of one byte
abbrev pub digit : ℕ → AstLiteral
digit c = record { lit = Int; t = c ∷ []; suffix = None }

abbrev pub one : AstLiteral
one = digit 49

abbrev pub two : AstLiteral
two = digit 50

abbrev pub literal_at : ℕ → AstLiteral → Expr
literal_at n l = tree.literal_expr (at n) l

-- a name without arguments
abbrev pub none_beside : SegmentArgs
none_beside = tree.segment_args tree.no_arg_list tree.no_parens false

-- the path of a name of one byte
abbrev pub path_of : ℕ → OptionPath
path_of c = tree.some_path (tree.path None false (tree.name_segment (name.Text (c ∷ [])) tt none_beside) tree.no_segments tree.no_path)

abbrev pub name_at : ℕ → ℕ → Expr
name_at c n = tree.path_expr (at n) (path_of c) root

-- `'a`, with this hygiene
abbrev pub label_with : HygieneId → Label
label_with h = record { pointer = at 1; name = name.Text (97 ∷ []); hygiene = h }

abbrev pub jump_with : HygieneId → Jump
jump_with h = record { pointer = at 9; name = name.Text (97 ∷ []); hygiene = h; contexts = no_contexts }

abbrev pub label_a : Label
label_a = label_with root

-- that, where there is a hygiene
abbrev pub label_if : Option HygieneId → Option Label
label_if h = option_map label_with h

abbrev pub written_if : (h : Option HygieneId) → IsWrittenLabel (label_if h)
written_if None = tt
written_if (Some h) = tt

abbrev pub jump_a : Jump
jump_a = jump_with root

-- `{ e }`, with a label `'a` of this hygiene or none
abbrev pub in_braces : ℕ → Option HygieneId → Expr → Block
in_braces n h e = tree.block (at n) false (label_if h) (written_if h) None tree.no_stmts (tree.some_expr e)

-- `e;`, before others
abbrev pub first : Expr → Stmts → Stmts
first e ss = tree.more_stmts (tree.expr_stmt (tree.some_expr e) true) ss

-- `{ ss e }`
abbrev pub block_of : ℕ → Option HygieneId → Stmts → Expr → Block
block_of n h ss e = tree.block (at n) false (label_if h) (written_if h) None ss (tree.some_expr e)

abbrev pub loop_of : ℕ → Option HygieneId → Block → Expr
loop_of n h b = tree.loop_expr (at n) (label_if h) (written_if h) (tree.some_block b)

abbrev pub break_of : ℕ → Option Jump → Expr → Expr
break_of n jump e = tree.break_expr (at n) jump (tree.some_expr e)

-- stored

-- expressions, each with the node that it came from, where it came from one
abbrev pub StoredExprs : Type 0
StoredExprs = List (Stored × Option ℕ)

-- A store of these alone. No run asks what owns a binding.
abbrev pub only : StoredExprs → Store
only ns = record {
  exprs = map (λ n. n.0) ns;
  labels = [];
  pats = [];
  bindings = [];
  binding_owners = [];
  types = [];
  lifetimes = [];
  roots = [];
}

abbrev pub from : StoredExprs → SourceMap
from ns = record {
  expr_sources = map (λ n. option_map at n.1) ns;
  label_sources = [];
  pat_sources = [];
  type_sources = [];
  lifetime_sources = [];
  expr_map = [];
  label_map = [];
  pat_map = [];
  target_map = [];
  binding_definitions = [];
  types_map = [];
  lifetime_map = [];
  field_map_back = [];
  pat_field_map_back = [];
  block_scopes = [];
  expansions = [];
  diagnostics = [];
}

abbrev pub id : ℕ → ExprId
id n = record { 0 = n }

abbrev pub number : ℕ → LabelId
number n = record { 0 = n }

abbrev pub stored_digit : ℕ → Literal
stored_digit c = record { negative = false; kind = Int; text = c ∷ []; suffix = None }

-- the path of a name of one byte
abbrev pub stored_name : ℕ → Path
stored_name c = BarePath (record { kind = Plain; segments = name.Text (c ∷ []) ∷ [] })

abbrev pub stored_one : Stored
stored_one = hir.Literal (stored_digit 49)

abbrev pub stored_two : Stored
stored_two = hir.Literal (stored_digit 50)

-- a safe block without a number
abbrev pub stored_block : Option LabelId → List Statement → ℕ → Stored
stored_block label ss tail = hir.Block false label None ss (Some (id tail))

abbrev pub stored_loop : Option LabelId → ℕ → Stored
stored_loop label body = hir.Loop (id body) label source.Loop

-- what both do

-- temporaries end
abbrev pub end_of_temps : Event
end_of_temps = event_at temps [] None

abbrev pub event_of : Operation → List Value → ℕ → Event
event_of o vs n = event_at o vs (Some (site_of (at n)))

abbrev pub literal_event : AstLiteral → ℕ → Event
literal_event l n = event_of (literal (literal_data l)) [] n

abbrev pub bare_data : Name → PathData
bare_data n = path_data Plain no_type (more_names n no_args no_names) true

abbrev pub read_name : ℕ → Operation
read_name c = read (bare_data (name.Text (c ∷ []))) root

-- a body as it is written, and expressions, of which this one is the body as it is stored
pub record Example : Type 0 where
  pub written : OptionExpr
  pub nodes : StoredExprs
  pub root : ℕ

-- the body, told these answers, makes these events and ends so
pub record Does {T J : Type 0} (b : Body T J) (fuel : ℕ) (answers : Oracle) (es : List Event) (end : Ending) : Type 0 where
  pub events : (does b fuel answers).1.events ≡ es
  pub ends : ending_of (does b fuel answers).0 ≡ end

-- as it is written and as it is stored
pub record BothDo (x : Example) (fuel : ℕ) (answers : Oracle) (es : List Event) (end : Ending) : Type 0 where
  pub written : Does (written_body x.written) fuel answers es end
  pub stored : Does (stored_body (only x.nodes) (from x.nodes) (id x.root)) fuel answers es end
