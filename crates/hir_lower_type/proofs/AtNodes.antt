-- What one of a kind is at its node.
use Rattle.std.proofs.Common.{◌≡◌, ◌∙◌, ap, subst, sym, Option}
use Rattle.hir_syntax.specs.declared.types.Type_.{Type_ as AstType_}
use Rattle.hir_syntax.specs.declared.types.TypeKind.{TypeKind as AstTypeKind, out-TypeKind, out-roll-TypeKind, roll-TypeKind}
use Rattle.hir_store.specs.Pointers.{Pointer}
use Rattle.hir_store.specs.declared.ids.TypeRefId.{TypeRefId}
use Rattle.hir_env.specs.ResolvedTree.{Binder, Type_}
use Rattle.hir_env.specs.Paths.{type_at}
use Rattle.hir_env.specs.ResolveCtx.{ResolveCtx}
use Rattle.hir_env.specs.TypeLayers.{TypeKindLayer}
use Rattle.hir_env.specs.Whole.{into, pointer_at, reader, type_level, written}
use Rattle.hir_lower_builder.specs.Builder.{Builder}
use Rattle.hir_lower_builder.specs.Lowering.{Checked}
use Rattle.hir_lower_builder.specs.Methods.{LowersType}

abbrev level : ResolveCtx → TypeKindLayer written → Pointer → Type_
level at k s = type_at at.answers (reader at.answers (into at)) k at.place s

pub opened : {k : AstTypeKind} {l : TypeKindLayer written} → roll-TypeKind l ≡ k → out-TypeKind k ≡ l
opened {k} {l} h = ap out-TypeKind (sym h) ∙ out-roll-TypeKind l

-- one of this kind, at this node
pub type_as : (at : ResolveCtx) (binder : Option Binder) (t : AstType_) (k : TypeKindLayer written) (s : Pointer) (old : Builder)
    (r : Checked TypeRefId) (new : Builder) → s ≡ pointer_at at t.id t.range → out-TypeKind t.kind ≡ k
    → LowersType binder (level at k s) old r new → LowersType binder (type_level at t) old r new
type_as at binder t k s old r new here is h =
    let same : level at k s ≡ type_level at t =
    ap (level at k) here ∙ ap (λ l. level at l (pointer_at at t.id t.range)) (sym is) in
    subst (λ x. LowersType binder x old r new) same h
