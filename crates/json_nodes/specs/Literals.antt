-- Literals.
use Rattle.std.specs.Prelude.{ℕ, List, [], ◌∷◌, Option, Some, None, codes, option_and_then}
use Rattle.serde_json.specs.Data.{Data}
use Rattle.hir_syntax.specs.declared.ast.Literal.{Literal}
use Rattle.hir_base.specs.declared.op.LiteralKind.{LiteralKind}
use Rattle.hir_base.specs.declared.op.LiteralKind.TheVariants as literal
use Rattle.json_nodes.specs.Fields.{text_in}
use Rattle.json_errors.specs.ByWord.{with_word}

-- the word of a kind of literals
abbrev pub literal_word : LiteralKind → List ℕ
literal_word literal.Str = codes "str"
literal_word literal.ByteStr = codes "bytestr"
literal_word literal.CStr = codes "cstr"
literal_word literal.Char = codes "char"
literal_word literal.Bool = codes "bool"
literal_word literal.Int = codes "int"
literal_word literal.Float = codes "float"

-- all kinds of literals
abbrev pub literal_kinds : List LiteralKind
literal_kinds = literal.Str ∷ literal.ByteStr ∷ literal.CStr ∷ literal.Char ∷ literal.Bool ∷ literal.Int ∷ literal.Float ∷ []

-- the kind of literals whose word it is
abbrev pub literal_kind_of : List ℕ → Option LiteralKind
literal_kind_of word = with_word literal_word literal_kinds word

-- the kind of the literal that a node writes
abbrev pub kind_in : Data → Option LiteralKind
kind_in d = option_and_then literal_kind_of (text_in (codes "lit") d)

abbrev with_text : Data → LiteralKind → Option (List ℕ) → Option Literal
with_text d kind None = None
with_text d kind (Some t) = Some (record { lit = kind; t = t; suffix = text_in (codes "suffix") d })

-- the literal that a node writes, where it says its kind and its text
abbrev pub literal_of : Data → Option Literal
literal_of d = option_and_then (λ kind. with_text d kind (text_in (codes "t") d)) (kind_in d)
