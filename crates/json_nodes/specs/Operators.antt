-- Operators, by their words.
use Rattle.std.specs.Prelude.{ℕ, List, [], ◌∷◌, ◌++◌, Bool, true, false, Option, Some, None}
use Rattle.std.specs.Prelude.{bytes_eq, codes, option_and_then, option_map}
use Rattle.serde_json.specs.Data.{Data}
use Rattle.hir_base.specs.declared.op.ArithOp.{ArithOp}
use Rattle.hir_base.specs.declared.op.ArithOp.TheVariants as arith
use Rattle.hir_base.specs.declared.op.BinaryOp.{BinaryOp}
use Rattle.hir_base.specs.declared.op.BinaryOp.TheVariants as binary
use Rattle.hir_base.specs.declared.op.CmpOp.{CmpOp}
use Rattle.hir_base.specs.declared.op.CmpOp.TheVariants as cmp
use Rattle.hir_base.specs.declared.op.LogicOp.{LogicOp}
use Rattle.hir_base.specs.declared.op.LogicOp.TheVariants as logic
use Rattle.hir_base.specs.declared.op.Ordering.TheVariants.{Less, Greater}
use Rattle.hir_base.specs.declared.op.RangeOp.{RangeOp}
use Rattle.hir_base.specs.declared.op.RangeOp.TheVariants as range
use Rattle.hir_base.specs.declared.op.UnaryOp.{UnaryOp}
use Rattle.hir_base.specs.declared.op.UnaryOp.TheVariants as unary
use Rattle.json_nodes.specs.Fields.{text_in}
use Rattle.json_errors.specs.ByWord.{with_word, or_else}

abbrev unary_word : UnaryOp → List ℕ
unary_word unary.Deref = codes "*"
unary_word unary.Not = codes "!"
unary_word unary.Neg = codes "-"

-- the operator of a prefix expression that a word is
abbrev pub unary_op_of : List ℕ → Option UnaryOp
unary_op_of word = with_word unary_word (unary.Deref ∷ unary.Not ∷ unary.Neg ∷ []) word

abbrev pub logic_word : LogicOp → List ℕ
logic_word logic.Or = codes "||"
logic_word logic.And = codes "&&"

abbrev pub logic_ops : List LogicOp
logic_ops = logic.Or ∷ logic.And ∷ []

abbrev pub cmp_word : CmpOp → List ℕ
cmp_word (cmp.Eq false) = codes "=="
cmp_word (cmp.Eq true) = codes "!="
cmp_word (cmp.Ord Less false) = codes "<="
cmp_word (cmp.Ord Less true) = codes "<"
cmp_word (cmp.Ord Greater false) = codes ">="
cmp_word (cmp.Ord Greater true) = codes ">"

-- the comparisons; an order is strict, or not
abbrev pub cmp_ops : List CmpOp
cmp_ops = cmp.Eq false ∷ cmp.Eq true ∷ cmp.Ord Less false ∷ cmp.Ord Less true
    ∷ cmp.Ord Greater false ∷ cmp.Ord Greater true ∷ []

abbrev pub arith_word : ArithOp → List ℕ
arith_word arith.Add = codes "+"
arith_word arith.Mul = codes "*"
arith_word arith.Sub = codes "-"
arith_word arith.Div = codes "/"
arith_word arith.Rem = codes "%"
arith_word arith.Shl = codes "<<"
arith_word arith.Shr = codes ">>"
arith_word arith.BitXor = codes "^"
arith_word arith.BitOr = codes "|"
arith_word arith.BitAnd = codes "&"

-- in front of `=`
abbrev pub assigned_word : ArithOp → List ℕ
assigned_word op = arith_word op ++ codes "="

abbrev pub arith_ops : List ArithOp
arith_ops = arith.Add ∷ arith.Mul ∷ arith.Sub ∷ arith.Div ∷ arith.Rem
    ∷ arith.Shl ∷ arith.Shr ∷ arith.BitXor ∷ arith.BitOr ∷ arith.BitAnd ∷ []

abbrev assign_of : Bool → Option BinaryOp
assign_of true = Some binary.Assign
assign_of false = None

-- the operator of a binary expression that a word is
abbrev pub binary_op_of : List ℕ → Option BinaryOp
binary_op_of word = or_else (option_map binary.LogicOp (with_word logic_word logic_ops word))
    (or_else (option_map binary.CmpOp (with_word cmp_word cmp_ops word))
    (or_else (option_map binary.ArithOp (with_word arith_word arith_ops word))
    (or_else (option_map binary.Assignment (with_word assigned_word arith_ops word))
    (assign_of (bytes_eq word (codes "="))))))

abbrev pub unary_op_in : Data → Option UnaryOp
unary_op_in d = option_and_then unary_op_of (text_in (codes "op") d)

abbrev pub binary_op_in : Data → Option BinaryOp
binary_op_in d = option_and_then binary_op_of (text_in (codes "op") d)

abbrev range_word : RangeOp → List ℕ
range_word range.Exclusive = codes ".."
range_word range.Inclusive = codes "..="

-- the operator of a range that a word is
abbrev pub range_op_of : List ℕ → Option RangeOp
range_op_of word = with_word range_word (range.Exclusive ∷ range.Inclusive ∷ []) word

abbrev pub range_op_in : Data → Option RangeOp
range_op_in d = option_and_then range_op_of (text_in (codes "op") d)
