-- What a node of a kind says is what the group of its kind reads.
use Rattle.std.proofs.Common.{◌≡◌, ◌⊎◌, inl, inr, refl}
use Rattle.std.specs.Prelude.{option_map}
use Rattle.json_errors.specs.declared.kind.ExprNode.{ExprNode}
use Rattle.json_errors.specs.declared.kind.ExprNode.TheVariants as expr_kind
use Rattle.json_errors.specs.declared.kind.PartNode.{PartNode}
use Rattle.json_errors.specs.declared.kind.PartNode.TheVariants as part_kind
use Rattle.json_errors.specs.declared.kind.PathNode.{PathNode}
use Rattle.json_errors.specs.declared.kind.PathNode.TheVariants as path_kind
use Rattle.json_nodes.specs.Args.{arg, arg_list, of_args}
use Rattle.json_nodes.specs.Bounds.{of_bound}
use Rattle.json_nodes.specs.Branches.{branching, of_branch}
use Rattle.json_nodes.specs.Exprs.{flow, plain, operation, member, leaving, partless}
use Rattle.json_nodes.specs.Macros.{of_macro}
use Rattle.json_nodes.specs.Others.{other}
use Rattle.json_nodes.specs.Params.{of_param}
use Rattle.json_nodes.specs.Parts.{Here}
use Rattle.json_nodes.specs.Paths.{of_path}
use Rattle.json_nodes.specs.Typed.{typed, of_record, of_pat_field}
use Rattle.json_nodes.specs.declared.part.AnyOf.TheVariants as part
use Rattle.lower_json.specs.Reading.{of_expr, of_part, of_path_part}

pub is_flow : (h : Here) (k : ExprNode)
    → (k ≡ expr_kind.LoopExpr) ⊎ (k ≡ expr_kind.WhileExpr) ⊎ (k ≡ expr_kind.ForExpr)
    ⊎ (k ≡ expr_kind.TryExpr) ⊎ (k ≡ expr_kind.ContinueExpr) ⊎ (k ≡ expr_kind.BreakExpr)
    → of_expr h k ≡ flow h k
unfolding flow plain branching operation member leaving typed partless
is_flow h k s =
    elim s [
      | inl e ↦ rw e
      | inr s ↦ elim s [
        | inl e ↦ rw e
        | inr s ↦
            elim s [ inl e ↦ rw e | inr s ↦ elim s [ inl e ↦ rw e | inr s ↦ elim s [ inl e ↦ rw e | inr e ↦ rw e ] ] ]
      ]
    ]

pub is_plain : (h : Here) (k : ExprNode)
    → (k ≡ expr_kind.CallExpr) ⊎ (k ≡ expr_kind.MacroExpr)
    ⊎ (k ≡ expr_kind.PathExpr) ⊎ (k ≡ expr_kind.ParenExpr) ⊎ (k ≡ expr_kind.RangeExpr)
    → of_expr h k ≡ plain h k
unfolding flow plain branching operation member leaving typed partless
is_plain h k s =
    elim s [
      | inl e ↦ rw e
      | inr s ↦ elim s [
        | inl e ↦ rw e
        | inr s ↦
            elim s [ inl e ↦ rw e | inr s ↦ elim s [ inl e ↦ rw e | inr e ↦ rw e ] ]
      ]
    ]

pub is_branching : (h : Here) (k : ExprNode) → (k ≡ expr_kind.LetExpr) ⊎ (k ≡ expr_kind.MatchExpr) → of_expr h k ≡ branching h k
unfolding flow plain branching operation member leaving typed partless
is_branching h k s = elim s [ inl e ↦ rw e | inr e ↦ rw e ]

pub is_operation : (h : Here) (k : ExprNode)
    → (k ≡ expr_kind.PrefixExpr) ⊎ (k ≡ expr_kind.BinExpr) ⊎ (k ≡ expr_kind.IndexExpr) ⊎ (k ≡ expr_kind.RefExpr)
    → of_expr h k ≡ operation h k
unfolding flow plain branching operation member leaving typed partless
is_operation h k s = elim s [ inl e ↦ rw e | inr s ↦ elim s [ inl e ↦ rw e | inr s ↦ elim s [ inl e ↦ rw e | inr e ↦ rw e ] ] ]

pub is_member : (h : Here) (k : ExprNode)
    → (k ≡ expr_kind.MethodCallExpr) ⊎ (k ≡ expr_kind.FieldExpr) ⊎ (k ≡ expr_kind.TupleExpr) ⊎ (k ≡ expr_kind.ArrayExpr)
    → of_expr h k ≡ member h k
unfolding flow plain branching operation member leaving typed partless
is_member h k s = elim s [ inl e ↦ rw e | inr s ↦ elim s [ inl e ↦ rw e | inr s ↦ elim s [ inl e ↦ rw e | inr e ↦ rw e ] ] ]

pub is_leaving : (h : Here) (k : ExprNode)
    → (k ≡ expr_kind.ReturnExpr) ⊎ (k ≡ expr_kind.BecomeExpr)
    ⊎ (k ≡ expr_kind.YieldExpr) ⊎ (k ≡ expr_kind.YeetExpr) ⊎ (k ≡ expr_kind.AwaitExpr)
    → of_expr h k ≡ leaving h k
unfolding flow plain branching operation member leaving typed partless
is_leaving h k s =
    elim s [
      | inl e ↦ rw e
      | inr s ↦ elim s [
        | inl e ↦ rw e
        | inr s ↦
            elim s [ inl e ↦ rw e | inr s ↦ elim s [ inl e ↦ rw e | inr e ↦ rw e ] ]
      ]
    ]

pub is_typed : (h : Here) (k : ExprNode)
    → (k ≡ expr_kind.CastExpr) ⊎ (k ≡ expr_kind.RecordExpr) ⊎ (k ≡ expr_kind.OffsetOfExpr) ⊎ (k ≡ expr_kind.ClosureExpr)
    → of_expr h k ≡ typed h k
unfolding flow plain branching operation member leaving typed partless
is_typed h k s = elim s [ inl e ↦ rw e | inr s ↦ elim s [ inl e ↦ rw e | inr s ↦ elim s [ inl e ↦ rw e | inr e ↦ rw e ] ] ]

pub is_partless : (h : Here) (k : ExprNode)
    → (k ≡ expr_kind.CfgPredExpr) ⊎ (k ≡ expr_kind.UnderscoreExpr)
    ⊎ (k ≡ expr_kind.IncludeBytesExpr) ⊎ (k ≡ expr_kind.AsmExpr) ⊎ (k ≡ expr_kind.FormatArgsExpr)
    → of_expr h k ≡ partless h k
unfolding flow plain branching operation member leaving typed partless
is_partless h k s =
    elim s [
      | inl e ↦ rw e
      | inr s ↦ elim s [
        | inl e ↦ rw e
        | inr s ↦
            elim s [ inl e ↦ rw e | inr s ↦ elim s [ inl e ↦ rw e | inr e ↦ rw e ] ]
      ]
    ]

pub is_bound : (h : Here) (k : PartNode)
    → (k ≡ part_kind.TypeBound) ⊎ (k ≡ part_kind.ForBinder) ⊎ (k ≡ part_kind.RetType)
    → of_part h k ≡ option_map part.Type_ (of_bound h k)
unfolding of_bound of_branch of_record of_macro of_pat_field of_param
is_bound h k s = elim s [ inl e ↦ rw e | inr s ↦ elim s [ inl e ↦ rw e | inr e ↦ rw e ] ]

pub is_branch : (h : Here) (k : PartNode)
    → (k ≡ part_kind.MatchArm) ⊎ (k ≡ part_kind.Guard) ⊎ (k ≡ part_kind.LetElse)
    → of_part h k ≡ option_map part.Code (of_branch h k)
unfolding of_bound of_branch of_record of_macro of_pat_field of_param
is_branch h k s = elim s [ inl e ↦ rw e | inr s ↦ elim s [ inl e ↦ rw e | inr e ↦ rw e ] ]

pub is_record : (h : Here) (k : PartNode)
    → (k ≡ part_kind.RecordExprFieldList) ⊎ (k ≡ part_kind.RecordExprField)
    → of_part h k ≡ option_map part.Code (of_record h k)
unfolding of_bound of_branch of_record of_macro of_pat_field of_param
is_record h k s = elim s [ inl e ↦ rw e | inr e ↦ rw e ]

pub is_macro : (h : Here) (k : PartNode)
    → (k ≡ part_kind.MacroCall) ⊎ (k ≡ part_kind.MacroStmts)
    → of_part h k ≡ option_map part.Code (of_macro h k)
unfolding of_bound of_branch of_record of_macro of_pat_field of_param
is_macro h k s = elim s [ inl e ↦ rw e | inr e ↦ rw e ]

pub is_pat_field : (h : Here) (k : PartNode) → k ≡ part_kind.RecordPatField → of_part h k ≡ option_map part.Pat (of_pat_field h k)
unfolding of_bound of_branch of_record of_macro of_pat_field of_param
is_pat_field h k s = rw s

pub is_param : (h : Here) (k : PartNode)
    → (k ≡ part_kind.Param) ⊎ (k ≡ part_kind.SelfParam) ⊎ (k ≡ part_kind.ParamList)
    → of_part h k ≡ option_map part.Param (of_param h k)
unfolding of_bound of_branch of_record of_macro of_pat_field of_param
is_param h k s = elim s [ inl e ↦ rw e | inr s ↦ elim s [ inl e ↦ rw e | inr e ↦ rw e ] ]

pub is_other : (h : Here) (k : PartNode)
    → (k ≡ part_kind.Label) ⊎ (k ≡ part_kind.Lifetime) ⊎ (k ≡ part_kind.Name)
    → of_part h k ≡ option_map part.Name (other h k)
unfolding of_bound of_branch of_record of_macro of_pat_field of_param
is_other h k s = elim s [ inl e ↦ rw e | inr s ↦ elim s [ inl e ↦ rw e | inr e ↦ rw e ] ]

pub is_path : (h : Here) (k : PathNode) → (k ≡ path_kind.Path) ⊎ (k ≡ path_kind.PathSegment) → of_path_part h k ≡ of_path h k
unfolding arg arg_list
is_path h k s = elim s [ inl e ↦ rw e | inr e ↦ rw e ]

pub is_args : (h : Here) (k : PathNode) → (k ≡ path_kind.Path → ⊥) → (k ≡ path_kind.PathSegment → ⊥) → of_path_part h k ≡ of_args h k
is_args h path_kind.Path n m = absurd (n refl)
is_args h path_kind.PathSegment n m = absurd (m refl)
is_args h _ n m = refl
