-- What a written pattern is where only a plain name or `_` may stand.
use Rattle.std.specs.Prelude.{Bool, true, false, Option, Some, None}
use Rattle.hir_syntax.specs.declared.ast.ElseBranch.TheOpen.{PatKind-F}
use Rattle.hir_syntax.specs.declared.ast.Name.{Name as AstName}
use Rattle.hir_syntax.specs.declared.macros.MacroCall.{MacroCall as AstMacroCall}
use Rattle.hir_syntax.specs.declared.pats.Pat.{Pat as AstPat}
use Rattle.hir_binding.specs.declared.binding.BindingAnnotation.TheVariants.{Unannotated}
use Rattle.hir_env.specs.ResolvedTree as tree
use Rattle.hir_env.specs.ResolvedTree.{Pat}
use Rattle.hir_env.specs.Answering.{name_written}
use Rattle.hir_env.specs.PatLayers.{PatKindLayer}
use Rattle.hir_env.specs.ResolveCtx.{ResolveCtx}
use Rattle.hir_env.specs.TypePats.{bare_pat}
use Rattle.hir_env.specs.Whole.{resolved_pat, pointer_at, written}
use Rattle.hir_store.specs.declared.ids.PatId.{PatId}
use Rattle.hir_lower_builder.specs.Lower.{lower_pat}
use Rattle.hir_lower_builder.specs.Lowering.{Lowering}
use Rattle.hir_lower_builder.specs.Methods.{at_place}
use Rattle.hir_lower_builder.specs.Pats.{Table, alone, missing_pat}
use Rattle.hir_lower_pat.specs.Calls.{There, written_call}
use Rattle.hir_lower_pat.specs.Methods.{use_with}

-- `_`, a name that binds, a call that the text lacks, what a call stands for, or a fault
pub data Bare : Type 0 where
  wild : Bare
  plain_name : Option AstName → Bare
  uncalled : Bare
  called : AstMacroCall → Bare
  barred : Bare

-- without `ref`, `mut` and `@`
abbrev pub is_bare_ident : Bool → Bool → Option AstPat → Bool
is_bare_ident false false None = true
is_bare_ident _ _ _ = false

abbrev pub name_if : Bool → Option AstName → Bare
name_if true n = plain_name n
name_if false n = barred

abbrev pub call_or_none : Option AstMacroCall → Bare
call_or_none None = uncalled
call_or_none (Some c) = called c

abbrev pub bare_kind : PatKindLayer written → Bare
bare_kind (PatKind-F.IdentPat n is_ref is_mut p) = name_if (is_bare_ident is_ref is_mut p) n
bare_kind PatKind-F.WildcardPat = wild
bare_kind (PatKind-F.MacroPat c) = call_or_none c
bare_kind _ = barred

abbrev pub bare_as : ResolveCtx → AstPat → Bare → Pat
bare_as at p wild = tree.leaf_pat (pointer_at at p.id p.range) tree.wild_leaf
bare_as at p (plain_name n) =
    tree.bind_pat (pointer_at at p.id p.range) (use_with at n Unannotated) (name_written n) tree.no_pat
bare_as at p uncalled = tree.macro_pat (pointer_at at p.id p.range) tree.callless tree.no_pat
bare_as at p (called c) = bare_pat (written_call at (pointer_at at p.id p.range) c)
bare_as at p barred = tree.barred_pat (pointer_at at p.id p.range)

-- what the code does with the pattern that a call stands for
abbrev pub bare_there : ResolveCtx → There → Table → Lowering (PatId × Table)
bare_there at None t = alone missing_pat t
bare_there at (Some x) t = lower_pat (bare_pat (resolved_pat (at_place at x.0) x.1)) t
