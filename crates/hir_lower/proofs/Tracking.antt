-- What is noted where a constant is lowered as a root, or a path or a type alone.
use Rattle.std.proofs.Common.{Option, None, Ok, Err}
use Rattle.std.specs.Prelude.{IfOk}
use Rattle.hir_store.specs.Range.{HasExpr, HasType}
use Rattle.hir_store.specs.declared.ids.ExprId.{ExprId}
use Rattle.hir_store.specs.declared.ids.TypeRefId.{TypeRefId}
use Rattle.hir_store.specs.declared.path.Path.{Path}
use Rattle.hir_syntax.specs.declared.ast.Path.{Path as AstPath}
use Rattle.hir_syntax.specs.declared.types.Type_.{Type_ as AstType_}
use Rattle.hir_env.specs.ResolvedTree.{OptionExpr}
use Rattle.hir_env.specs.ResolveCtx.{ResolveCtx}
use Rattle.hir_lower_builder.specs.Builder.{Builder}
use Rattle.hir_lower_builder.specs.Lower.{type_part}
use Rattle.hir_lower_builder.specs.Lowering.{Checked, Lowers}
use Rattle.hir_lower_builder.specs.Methods.{LowersPath}
use Rattle.thm_logic.specs.Keeps.{Paired}
use Rattle.spec_data.specs.Fold.{tracked_in_part, tracked_in_type_part, tracked_in_whole}
use Rattle.thm_generics.specs.Lists.{Tracked}
use Rattle.thm_generics.proofs.Logic.{SideOutput, tracked_by, tracks_begin, tracks_end, tracks_pure}
use Rattle.thm_generics.proofs.Steps.{tracks_bindings_end, tracks_close_labels, tracks_enter_root, tracks_outside_root, tracks_own}
use Rattle.thm_generics.proofs.Steps.{tracks_record_root}
use Rattle.thm_generics.proofs.Tree.{part_tracked, paths_tracked, types_tracked}
use Rattle.hir_lower.specs.Means.{whole_path, whole_type}
use Rattle.hir_lower.specs.Roots.{root_of}

root_tracks : (e : OptionExpr) → SideOutput (tracked_in_part e) (root_of e)
unfolding root_of
root_tracks e = tracks_begin tracks_close_labels (λ u. tracks_begin tracks_enter_root (λ outer. tracks_begin tracks_bindings_end (λ start.
    tracks_end (part_tracked e) (λ i. tracks_begin (tracks_own start i) (λ u. tracks_begin (tracks_record_root i) (λ u.
    tracks_begin tracks_outside_root (λ u. tracks_pure i)))))))

pub root_tracked : (e : OptionExpr) (b b' : Builder) (r : Checked ExprId) → Lowers HasExpr (root_of e) b r b' → Paired b.stored
    → IfOk r (λ i. Tracked (tracked_in_part e) b b')
root_tracked e b b' (Ok i) l d = tracked_by (root_tracks e) b b' i d l.0
root_tracked e b b' (Err f) l d = tt

pub path_tracked : (at : ResolveCtx) (x : AstPath) (b b' : Builder) (r : Checked (Option Path)) → LowersPath (whole_path at x) b r b'
    → Paired b.stored → IfOk r (λ y. Tracked (tracked_in_whole (whole_path at x)) b b')
path_tracked at x b b' (Ok y) l d = paths_tracked (whole_path at x) b b' y d l.0
path_tracked at x b b' (Err f) l d = tt

pub type_ref_tracked : (at : ResolveCtx) (x : Option AstType_) (b b' : Builder) (r : Checked TypeRefId)
    → Lowers HasType (type_part None (whole_type at x)) b r b'
    → Paired b.stored → IfOk r (λ i. Tracked (tracked_in_type_part (whole_type at x)) b b')
type_ref_tracked at x b b' (Ok i) l d = types_tracked None (whole_type at x) b b' i d l.0
type_ref_tracked at x b b' (Err f) l d = tt
