-- What a path says of an alias is what is answered of it as it is read.
use Rattle.std.proofs.Common.{◌≡◌, refl, sym, subst, Bool, List, Option}
use Rattle.hir_syntax.specs.declared.ast.Path.{Path as AstPath, out-Path}
use Rattle.hir_env.specs.declared.ctx.LowerCtx.{LowerCtx}
use Rattle.hir_env.specs.Answers.{Answers}
use Rattle.hir_env.specs.ResolvedTree as tree
use Rattle.hir_env.specs.ResolvedTree.{Path}
use Rattle.hir_env.specs.PathNames.{mod_path_of}
use Rattle.hir_env.specs.Paths.{alias_at, alias_of, called_path, plain_path, with_alias}
use Rattle.hir_env.specs.ResolveCtx.{ResolveCtx}
use Rattle.hir_env.specs.Whole.{resolved_path, into, reader}
use Rattle.hir_env.proofs.PathLevels.{path_is_level}

abbrev ResolvedAlias : Answers → LowerCtx → Path → Type 0
ResolvedAlias env p x = alias_of x ≡ alias_at env p x

-- the same, as it stands in code
pub with_resolved_alias : (env : Answers) (p : LowerCtx) (x : Path) → ResolvedAlias env p (with_alias (alias_at env p x) x)
with_resolved_alias env p (tree.path _ leading first rest use_) = refl

pub resolved_alias : (at : ResolveCtx) (x : AstPath) → alias_of (resolved_path at x) ≡ alias_at at.answers at.place (resolved_path at x)
resolved_alias at x =
    let rd = reader at.answers (into at) in
    let l = out-Path x in
    let plain = plain_path at.answers rd l at.place in
    subst (ResolvedAlias at.answers at.place) (sym (path_is_level at x))
    (with_resolved_alias at.answers at.place (called_path at.answers rd l.in_macro l.leading l.segs l.use_ at.place plain))
