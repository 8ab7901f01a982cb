-- The parameters of a body with the answers written into them.
use Rattle.std.specs.Prelude.{codes, Bool, true, false, not, if◌then◌else◌, List, [], map, Option, Some, None, Result, Ok, Err}
use Rattle.hir_syntax.specs.declared.params.ParamList.{ParamList as AstParamList}
use Rattle.hir_syntax.specs.declared.params.SelfParam.{SelfParam as AstSelfParam}
use Rattle.hir_syntax.specs.declared.types.Param.{Param as AstParam, out-Param}
use Rattle.hir_binding.specs.declared.binding.BindingAnnotation.{BindingAnnotation}
use Rattle.hir_binding.specs.declared.binding.BindingAnnotation.TheVariants as binding
use Rattle.hir_store.specs.Pointers.{Pointer}
use Rattle.hir_store.specs.declared.ids.CfgId.{CfgId}
use Rattle.hir_store.specs.declared.ids.ItemContainerId.{ItemContainerId}
use Rattle.hir_store.specs.declared.ids.ItemContainerId.TheVariants as holder
use Rattle.hir_store.specs.Names.{IsWritten}
use Rattle.hir_store.specs.declared.name.Name.TheVariants as name
use Rattle.hir_env.specs.ResolveCtx.{ResolveCtx, site_of}
use Rattle.hir_env.specs.TypePats.{bare_part}
use Rattle.hir_env.specs.Pats.{name_hygiene}
use Rattle.hir_env.specs.Whole.{pointer_at, pat_part}
use Rattle.hir_env.specs.ResolvedTree as tree
use Rattle.hir_env.specs.ResolvedTree.{Use, OptionPat, SelfFormal, Formal, Formals}

-- whether the parameters of a function may only be plain names: in an extern block, and in a trait where it has no body
abbrev pub are_bare : ItemContainerId → Bool → Bool
are_bare (holder.ExternBlockId block) has_body = true
are_bare (holder.TraitId trait_) has_body = not has_body
are_bare _ has_body = false

-- it is `mut` where `mut` stands without `&`
abbrev pub self_mode : Bool → Bool → BindingAnnotation
self_mode false true = binding.Mutable
self_mode _ _ = binding.Unannotated

abbrev pub asked_self : Pointer → Result (Unit {0}) CfgId → (u : Use) → IsWritten u.name → SelfFormal
asked_self s (Ok _) u w = tree.self_formal s u w
asked_self s (Err by) u w = tree.disabled_self s by

abbrev pub self_use : ResolveCtx → AstSelfParam → Use
self_use at x = record {
  name = name.Text (codes "self");
  hygiene = name_hygiene at.answers at.place x.name;
  mode = self_mode x.ref_ x.mut_;
}

abbrev pub resolved_self : ResolveCtx → Option AstSelfParam → SelfFormal
resolved_self at None = tree.no_self
resolved_self at (Some x) = let s = pointer_at at x.id x.range in asked_self s (at.answers.cfg (site_of s)) (self_use at x) tt

abbrev pub asked_formal : Pointer → Result (Unit {0}) CfgId → Formal → Formal
asked_formal s (Ok _) f = f
asked_formal s (Err by) f = tree.disabled_formal s by

-- what is read of a pattern that may only be a plain name or `_`, or may be any
abbrev pub formal_part : Bool → OptionPat → OptionPat
formal_part bare q = if bare then bare_part q else q

-- of a function whose parameters may only be plain names, or may not
abbrev pub resolved_formal : ResolveCtx → Bool → AstParam → Formal
resolved_formal at bare x = let level = out-Param x in
    let s = pointer_at at level.id level.range in
    asked_formal s (at.answers.cfg (site_of s)) (tree.formal (formal_part bare (pat_part at level.pat)))

abbrev pub formals_part : ResolveCtx → Bool → List AstParam → List Formal
formals_part at bare xs = map (resolved_formal at bare) xs

abbrev pub resolved_formals : ResolveCtx → Bool → Option AstParamList → Formals
resolved_formals at bare None = record { receiver = tree.no_self; formals = [] }
resolved_formals at bare (Some x) = record { receiver = resolved_self at x.self_; formals = formals_part at bare x.params }
