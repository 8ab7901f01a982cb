-- The table of kinds.
use Rattle.std.specs.Prelude.{ℕ, List, [], ◌∷◌, Option, codes}
use Rattle.json_errors.specs.ByWord.{with_word, or_else}
use Rattle.json_errors.specs.Rows.{Row, ◌∶◌}
use Rattle.json_errors.specs.Exprs.{expr_row}
use Rattle.json_errors.specs.Stmts.{stmt_row}
use Rattle.json_errors.specs.Pats.{pat_row}
use Rattle.json_errors.specs.Types.{type_row}
use Rattle.json_errors.specs.Paths.{path_row}
use Rattle.json_errors.specs.Items.{item_row}
use Rattle.json_errors.specs.Parts.{part_row}
use Rattle.json_errors.specs.declared.kind.Kind.{Kind}
use Rattle.json_errors.specs.declared.kind.Kind.TheVariants as kind
use Rattle.json_errors.specs.declared.kind.ExprNode.TheVariants as expr
use Rattle.json_errors.specs.declared.kind.StmtNode.TheVariants as stmt
use Rattle.json_errors.specs.declared.kind.PatNode.TheVariants as pat
use Rattle.json_errors.specs.declared.kind.TypeNode.TheVariants as type
use Rattle.json_errors.specs.declared.kind.PathNode.TheVariants as path
use Rattle.json_errors.specs.declared.kind.ItemNode.TheVariants as item
use Rattle.json_errors.specs.declared.kind.PartNode.TheVariants as part
use Rattle.json_errors.specs.declared.group.Group.TheVariants as group
use Rattle.json_errors.specs.declared.words.Words.TheVariants as words
use Rattle.json_errors.specs.declared.field.Sort.TheVariants as sort

abbrev pub row : Kind → Row
row kind.IfExpr = record {
  word = codes "IfExpr";
  groups = group.Expr ∷ group.Else ∷ [];
  fields = (codes "condition" ∶ sort.Part group.Expr)
      ∷ (codes "then" ∶ sort.Part group.Block)
      ∷ (codes "else" ∶ sort.Part group.Else)
      ∷ [];
}
row kind.BlockExpr = record {
  word = codes "BlockExpr";
  groups = group.Expr ∷ group.Block ∷ group.Else ∷ [];
  fields = (codes "mod" ∶ sort.WordIfThere words.Modifiers)
      ∷ (codes "label" ∶ sort.PlainLabel)
      ∷ (codes "move" ∶ sort.Flag)
      ∷ (codes "ty" ∶ sort.TryType)
      ∷ (codes "stmts" ∶ sort.List group.Stmt)
      ∷ (codes "tail" ∶ sort.Part group.Expr)
      ∷ [];
}
row kind.Literal = record {
  word = codes "Literal";
  groups = group.Expr ∷ group.Literal ∷ [];
  fields = (codes "lit" ∶ sort.Word words.Literals)
      ∷ (codes "t" ∶ sort.LiteralText)
      ∷ (codes "suffix" ∶ sort.TextIfThere)
      ∷ [];
}
row kind.PathType = record {
  word = codes "PathType";
  groups = group.Type_ ∷ group.PathType ∷ [];
  fields = (codes "path" ∶ sort.Part group.Path) ∷ [];
}
row (kind.Expr k) = expr_row k
row (kind.Stmt k) = stmt_row k
row (kind.Pat k) = pat_row k
row (kind.Type_ k) = type_row k
row (kind.Path k) = path_row k
row (kind.Item k) = item_row k
row (kind.Part k) = part_row k

-- the kinds that serve as expressions: those of the core
abbrev pub exprs : List Kind
exprs = kind.IfExpr ∷ kind.BlockExpr ∷ kind.Expr expr.LoopExpr ∷ kind.Expr expr.WhileExpr ∷ kind.Expr expr.ForExpr
    ∷ kind.Expr expr.TryExpr ∷ kind.Expr expr.CallExpr ∷ kind.Expr expr.PathExpr ∷ kind.Expr expr.ContinueExpr
    ∷ kind.Expr expr.BreakExpr ∷ kind.Expr expr.ParenExpr ∷ kind.Literal ∷ []

-- those that are made of operands
abbrev pub operations : List Kind
operations = kind.Expr expr.MethodCallExpr ∷ kind.Expr expr.FieldExpr ∷ kind.Expr expr.PrefixExpr
    ∷ kind.Expr expr.BinExpr ∷ kind.Expr expr.IndexExpr ∷ kind.Expr expr.RefExpr ∷ kind.Expr expr.RangeExpr
    ∷ kind.Expr expr.TupleExpr ∷ kind.Expr expr.ArrayExpr ∷ []

-- those that a word of their own writes
abbrev pub keywords : List Kind
keywords = kind.Expr expr.ReturnExpr ∷ kind.Expr expr.BecomeExpr ∷ kind.Expr expr.YieldExpr ∷ kind.Expr expr.YeetExpr
    ∷ kind.Expr expr.AwaitExpr ∷ kind.Expr expr.CfgPredExpr ∷ kind.Expr expr.UnderscoreExpr
    ∷ kind.Expr expr.IncludeBytesExpr ∷ kind.Expr expr.AsmExpr ∷ kind.Expr expr.FormatArgsExpr ∷ []

-- expressions with types or paths, and the parts of a record
abbrev pub typed : List Kind
typed = kind.Expr expr.CastExpr ∷ kind.Expr expr.RecordExpr ∷ kind.Expr expr.OffsetOfExpr ∷ kind.Expr expr.ClosureExpr
    ∷ kind.Part part.RecordExprFieldList ∷ kind.Part part.RecordExprField ∷ []

-- what has patterns, and its parts
abbrev pub branches : List Kind
branches = kind.Expr expr.LetExpr ∷ kind.Expr expr.MatchExpr ∷ kind.Part part.MatchArm ∷ kind.Part part.Guard
    ∷ kind.Stmt stmt.LetStmt ∷ kind.Part part.LetElse ∷ []

-- patterns made of names, paths and patterns
abbrev pub pats : List Kind
pats = kind.Pat pat.IdentPat ∷ kind.Pat pat.TupleStructPat ∷ kind.Pat pat.TuplePat ∷ kind.Pat pat.RefPat
    ∷ kind.Pat pat.PathPat ∷ kind.Pat pat.OrPat ∷ kind.Pat pat.ParenPat ∷ kind.Pat pat.BoxPat ∷ kind.Pat pat.DerefPat
    ∷ []

-- patterns with fields, lists or values, and those that are a word
abbrev pub other_pats : List Kind
other_pats = kind.Pat pat.RecordPat ∷ kind.Part part.RecordPatField ∷ kind.Pat pat.SlicePat ∷ kind.Pat pat.LiteralPat
    ∷ kind.Pat pat.RangePat ∷ kind.Pat pat.CfgPredPat ∷ kind.Pat pat.WildcardPat ∷ kind.Pat pat.RestPat
    ∷ kind.Pat pat.NotNullPat ∷ kind.Pat pat.ConstBlockPat ∷ []

-- types made of types, paths, lifetimes and constants
abbrev pub types : List Kind
types = kind.Type_ type.ParenType ∷ kind.Type_ type.SliceType ∷ kind.Type_ type.TupleType ∷ kind.PathType
    ∷ kind.Type_ type.PtrType ∷ kind.Type_ type.RefType ∷ kind.Type_ type.ArrayType ∷ []

-- types with parameters, bounds or patterns, and those that are a word
abbrev pub other_types : List Kind
other_types = kind.Type_ type.FnPtrType ∷ kind.Type_ type.ForType ∷ kind.Type_ type.ImplTraitType
    ∷ kind.Type_ type.DynTraitType ∷ kind.Type_ type.PatternType ∷ kind.Type_ type.NeverType
    ∷ kind.Type_ type.InferType ∷ []

-- paths, and what stands beside a name
abbrev pub paths : List Kind
paths = kind.Path path.Path ∷ kind.Path path.PathSegment ∷ kind.Path path.GenericArgList ∷ kind.Path path.TypeArg
    ∷ kind.Path path.AssocTypeArg ∷ kind.Path path.LifetimeArg ∷ kind.Path path.ConstArg ∷ []

-- other parts of types
abbrev pub type_parts : List Kind
type_parts = kind.Path path.ParenArgs ∷ kind.Part part.TypeBound ∷ kind.Part part.ForBinder ∷ kind.Part part.RetType
    ∷ kind.Part part.Param ∷ []

-- macro calls, definitions of macros, and what a call may be expanded to
abbrev pub macros : List Kind
macros = kind.Expr expr.MacroExpr ∷ kind.Pat pat.MacroPat ∷ kind.Type_ type.MacroType ∷ kind.Part part.MacroCall
    ∷ kind.Part part.MacroStmts ∷ kind.Stmt stmt.MacroRules ∷ kind.Stmt stmt.MacroDef ∷ []

-- items, and what is generic in them
abbrev pub items : List Kind
items = kind.Item item.TypeParam ∷ kind.Item item.ConstParam ∷ kind.Item item.LifetimeParam ∷ kind.Item item.GenericParamList
    ∷ kind.Item item.WherePred ∷ kind.Item item.WhereClause ∷ kind.Item item.Fn ∷ kind.Item item.Impl ∷ kind.Item item.Trait
    ∷ kind.Item item.TypeAlias ∷ []

-- all other kinds
abbrev pub others : List Kind
others = kind.Stmt stmt.ExprStmt ∷ kind.Stmt stmt.Item ∷ kind.Part part.SelfParam ∷ kind.Part part.ParamList
    ∷ kind.Part part.Label ∷ kind.Part part.Lifetime ∷ kind.Part part.Name ∷ []

-- the first of some kinds with a word
abbrev pub kind_with : List Kind → List ℕ → Option Kind
kind_with ks t = with_word (λ k. (row k).word) ks t

abbrev pub code_of : List ℕ → Option Kind
code_of t = or_else (kind_with exprs t) (or_else (kind_with operations t) (or_else (kind_with keywords t)
    (or_else (kind_with typed t) (kind_with branches t))))

abbrev pub pat_of : List ℕ → Option Kind
pat_of t = or_else (kind_with pats t) (kind_with other_pats t)

abbrev pub type_of : List ℕ → Option Kind
type_of t = or_else (kind_with types t) (kind_with other_types t)

abbrev pub other_of : List ℕ → Option Kind
other_of t = or_else (kind_with paths t) (or_else (kind_with type_parts t) (or_else (kind_with macros t)
    (or_else (kind_with items t) (kind_with others t))))

-- the kind with a word
abbrev pub kind_of : List ℕ → Option Kind
kind_of t = or_else (code_of t) (or_else (pat_of t) (or_else (type_of t) (other_of t)))
