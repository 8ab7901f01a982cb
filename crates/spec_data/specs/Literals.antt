-- Literals as data, read from the tree and from the store (Rust Reference, literal expressions and literal patterns).
use Rattle.std.specs.Prelude.{ℕ, Bool, false, List, Option}
use Rattle.hir_syntax.specs.declared.ast.Literal.{Literal as AstLiteral}
use Rattle.hir_base.specs.declared.op.LiteralKind.{LiteralKind}
use Rattle.hir_store.specs.declared.hir.Literal.{Literal}

-- a literal, its text and its suffix as bytes; `negative` where a minus belongs to it
pub record LiteralData : Type 0 where
  pub negative : Bool
  pub kind : LiteralKind
  pub text : List ℕ
  pub suffix : Option (List ℕ)

abbrev pub signed_literal : Bool → AstLiteral → LiteralData
signed_literal negative l = record { negative = negative; kind = l.lit; text = l.t; suffix = l.suffix }

-- a literal of an expression has no minus before it
abbrev pub literal_data : AstLiteral → LiteralData
literal_data l = signed_literal false l

abbrev pub literal_read : Literal → LiteralData
literal_read l = record { negative = l.negative; kind = l.kind; text = l.text; suffix = l.suffix }
