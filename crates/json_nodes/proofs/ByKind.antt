-- What a node of a kind says is what the group of its kind reads.
use Rattle.std.proofs.Common.{◌≡◌, ◌⊎◌, inl, inr, refl}
use Rattle.json_errors.specs.declared.kind.PathNode.{PathNode}
use Rattle.json_errors.specs.declared.kind.PathNode.TheVariants as path_kind
use Rattle.json_errors.specs.declared.kind.PatNode.{PatNode}
use Rattle.json_errors.specs.declared.kind.PatNode.TheVariants as pat_kind
use Rattle.json_errors.specs.declared.kind.TypeNode.{TypeNode}
use Rattle.json_errors.specs.declared.kind.TypeNode.TheVariants as type_kind
use Rattle.json_nodes.specs.Args.{arg, arg_list, of_args}
use Rattle.json_nodes.specs.Parts.{Here}
use Rattle.json_nodes.specs.Pats.{named, around, pieces, values, partless_pat, of_pat}
use Rattle.json_nodes.specs.Types.{over_types, beside_types, bounded, of_type}

pub is_named : (h : Here) (k : PatNode)
    → (k ≡ pat_kind.IdentPat) ⊎ (k ≡ pat_kind.TupleStructPat) ⊎ (k ≡ pat_kind.TuplePat) ⊎ (k ≡ pat_kind.PathPat)
    → of_pat h k ≡ named h k
unfolding named around pieces values partless_pat
is_named h k s = elim s [ inl e ↦ rw e | inr s ↦ elim s [ inl e ↦ rw e | inr s ↦ elim s [ inl e ↦ rw e | inr e ↦ rw e ] ] ]

pub is_around : (h : Here) (k : PatNode)
    → (k ≡ pat_kind.RefPat) ⊎ (k ≡ pat_kind.OrPat) ⊎ (k ≡ pat_kind.ParenPat) ⊎ (k ≡ pat_kind.BoxPat) ⊎ (k ≡ pat_kind.DerefPat)
    → of_pat h k ≡ around h k
unfolding named around pieces values partless_pat
is_around h k s =
    elim s [
      | inl e ↦ rw e
      | inr s ↦ elim s [
        | inl e ↦ rw e
        | inr s ↦
            elim s [ inl e ↦ rw e | inr s ↦ elim s [ inl e ↦ rw e | inr e ↦ rw e ] ]
      ]
    ]

pub is_pieces : (h : Here) (k : PatNode) → (k ≡ pat_kind.RecordPat) ⊎ (k ≡ pat_kind.SlicePat) → of_pat h k ≡ pieces h k
unfolding named around pieces values partless_pat
is_pieces h k s = elim s [ inl e ↦ rw e | inr e ↦ rw e ]

pub is_value : (h : Here) (k : PatNode)
    → (k ≡ pat_kind.LiteralPat) ⊎ (k ≡ pat_kind.RangePat) ⊎ (k ≡ pat_kind.MacroPat)
    → of_pat h k ≡ values h k
unfolding named around pieces values partless_pat
is_value h k s = elim s [ inl e ↦ rw e | inr s ↦ elim s [ inl e ↦ rw e | inr e ↦ rw e ] ]

pub is_partless : (h : Here) (k : PatNode)
    → (k ≡ pat_kind.CfgPredPat) ⊎ (k ≡ pat_kind.WildcardPat)
    ⊎ (k ≡ pat_kind.RestPat) ⊎ (k ≡ pat_kind.NotNullPat) ⊎ (k ≡ pat_kind.ConstBlockPat)
    → of_pat h k ≡ partless_pat h k
unfolding named around pieces values partless_pat
is_partless h k s =
    elim s [
      | inl e ↦ rw e
      | inr s ↦ elim s [
        | inl e ↦ rw e
        | inr s ↦
            elim s [ inl e ↦ rw e | inr s ↦ elim s [ inl e ↦ rw e | inr e ↦ rw e ] ]
      ]
    ]

pub is_over_types : (h : Here) (k : TypeNode)
    → (k ≡ type_kind.ParenType) ⊎ (k ≡ type_kind.SliceType) ⊎ (k ≡ type_kind.TupleType) ⊎ (k ≡ type_kind.PtrType)
    → of_type h k ≡ over_types h k
unfolding over_types beside_types bounded
is_over_types h k s = elim s [ inl e ↦ rw e | inr s ↦ elim s [ inl e ↦ rw e | inr s ↦ elim s [ inl e ↦ rw e | inr e ↦ rw e ] ] ]

pub is_beside_types : (h : Here) (k : TypeNode)
    → (k ≡ type_kind.RefType) ⊎ (k ≡ type_kind.ArrayType) ⊎ (k ≡ type_kind.FnPtrType)
    ⊎ (k ≡ type_kind.ForType) ⊎ (k ≡ type_kind.PatternType) ⊎ (k ≡ type_kind.MacroType)
    → of_type h k ≡ beside_types h k
unfolding over_types beside_types bounded
is_beside_types h k s =
    elim s [
      | inl e ↦ rw e
      | inr s ↦ elim s [
        | inl e ↦ rw e
        | inr s ↦
            elim s [ inl e ↦ rw e | inr s ↦ elim s [ inl e ↦ rw e | inr s ↦ elim s [ inl e ↦ rw e | inr e ↦ rw e ] ] ]
      ]
    ]

pub is_bounded : (h : Here) (k : TypeNode)
    → (k ≡ type_kind.ImplTraitType) ⊎ (k ≡ type_kind.DynTraitType) ⊎ (k ≡ type_kind.NeverType) ⊎ (k ≡ type_kind.InferType)
    → of_type h k ≡ bounded h k
unfolding over_types beside_types bounded
is_bounded h k s = elim s [ inl e ↦ rw e | inr s ↦ elim s [ inl e ↦ rw e | inr s ↦ elim s [ inl e ↦ rw e | inr e ↦ rw e ] ] ]

pub is_list : (h : Here) (k : PathNode) → (k ≡ path_kind.GenericArgList) ⊎ (k ≡ path_kind.ParenArgs) → of_args h k ≡ arg_list h k
unfolding arg arg_list
is_list h k s = elim s [ inl e ↦ rw e | inr e ↦ rw e ]

pub is_single : (h : Here) (k : PathNode) → (k ≡ path_kind.GenericArgList → ⊥) → (k ≡ path_kind.ParenArgs → ⊥) → of_args h k ≡ arg h k
unfolding arg arg_list
is_single h path_kind.GenericArgList n m = absurd (n refl)
is_single h path_kind.ParenArgs n m = absurd (m refl)
is_single h _ n m = refl
