-- Which parameters of a body the written ones are, where they are read, and where only plain names and `_` may stand or any pattern may.
use Rattle.std.specs.Prelude.{◌≡◌, Bool, true, false, codes, List, [], ◌∷◌, Option, Some, None}
use Rattle.hir_syntax.specs.declared.params.ParamList.{ParamList as AstParamList}
use Rattle.hir_syntax.specs.declared.params.SelfParam.{SelfParam as AstSelfParam}
use Rattle.hir_syntax.specs.declared.types.Param.{Param as AstParam, out-Param}
use Rattle.hir_store.specs.declared.name.Name.TheVariants as name
use Rattle.hir_binding.specs.declared.binding.BindingAnnotation.{BindingAnnotation}
use Rattle.hir_binding.specs.declared.binding.BindingAnnotation.TheVariants as mode
use Rattle.hir_env.specs.ResolvedTree as tree
use Rattle.hir_env.specs.ResolvedTree.{Formal, Formals, SelfFormal, Use}
use Rattle.hir_env.specs.Answers.{Answers}
use Rattle.hir_env.specs.Formals.{resolved_formals}
use Rattle.hir_env.specs.TypePats.{bare_part}
use Rattle.hir_env.specs.declared.ctx.LowerCtx.{LowerCtx}
use Rattle.thm_reading.specs.Theorems.{rctx}
use Rattle.thm_reading.specs.Rules.{OptPatAs}
use Rattle.thm_reading.specs.LowerCtx.{IsDisabled, IsEnabled, hygiene_of_name, node, param_node}

-- it is `mut` where `mut` stands without `&`
abbrev pub self_binding : Bool → Bool → BindingAnnotation
self_binding true is_mut = mode.Unannotated
self_binding false true = mode.Mutable
self_binding false false = mode.Unannotated

abbrev pub self_here : Answers → LowerCtx → AstSelfParam → Use
self_here env p x = record {
  name = name.Text (codes "self");
  hygiene = hygiene_of_name env p x.name;
  mode = self_binding x.ref_ x.mut_;
}

module _ (env : Answers) where
  pub data SelfAs : LowerCtx → Option AstSelfParam → SelfFormal → Type 0 where
    no_self : {p : LowerCtx} → SelfAs p None tree.no_self
    enabled_self : {p : LowerCtx} {x : AstSelfParam} {u w : _} → IsEnabled env (node p x.id x.range) → u ≡ self_here env p x
        → SelfAs p (Some x) (tree.self_formal (node p x.id x.range) u w)
    disabled_self : {p : LowerCtx} {x : AstSelfParam} {by : _} → IsDisabled env (node p x.id x.range) by
        → SelfAs p (Some x) (tree.disabled_self (node p x.id x.range) by)

  pub data FormalAs : LowerCtx → Bool → AstParam → Formal → Type 0 where
    any_formal : {p : LowerCtx} {x q : _} → IsEnabled env (param_node p x)
        → OptPatAs env p (out-Param x).pat q → FormalAs p false x (tree.formal q)
    bare_formal : {p : LowerCtx} {x q : _} → IsEnabled env (param_node p x)
        → OptPatAs env p (out-Param x).pat q → FormalAs p true x (tree.formal (bare_part q))
    disabled_formal : {p : LowerCtx} {bare : Bool} {x by : _} → IsDisabled env (param_node p x) by
        → FormalAs p bare x (tree.disabled_formal (param_node p x) by)

  pub data FormalListAs : LowerCtx → Bool → List AstParam → List Formal → Type 0 where
    no_formals : {p : LowerCtx} {bare : Bool} → FormalListAs p bare [] []
    more_formals : {p : LowerCtx} {bare : Bool} {x xs y ys : _} → FormalAs p bare x y → FormalListAs p bare xs ys
        → FormalListAs p bare (x ∷ xs) (y ∷ ys)

  pub data FormalsAs : LowerCtx → Bool → Option AstParamList → Formals → Type 0 where
    without_list : {p : LowerCtx} {bare : Bool} → FormalsAs p bare None (record { receiver = tree.no_self; formals = [] })
    with_list : {p : LowerCtx} {bare : Bool} {x : AstParamList} {s fs : _} → SelfAs p x.self_ s → FormalListAs p bare x.params fs
        → FormalsAs p bare (Some x) (record { receiver = s; formals = fs })

abbrev pub FormalsByRules : Type 0
FormalsByRules = (a : Answers) (p : LowerCtx) (bare : Bool) (x : Option AstParamList)
    → FormalsAs a p bare x (resolved_formals (rctx p a) bare x)
