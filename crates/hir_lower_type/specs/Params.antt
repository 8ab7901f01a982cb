-- The parameters of a function pointer, read at a spot.
use Rattle.std.specs.Prelude.{if◌then◌else◌, Bool, List, [], ◌∷◌, Option, Some, None}
use Rattle.hir_syntax.specs.declared.ast.ElseBranch.TheOpen.{PatKind-F}
use Rattle.hir_syntax.specs.declared.pats.Pat.{Pat as AstPat}
use Rattle.hir_syntax.specs.declared.pats.PatKind.{out-PatKind}
use Rattle.hir_syntax.specs.declared.types.Param.{Param as AstParam, out-Param}
use Rattle.hir_store.specs.declared.name.Name.{Name}
use Rattle.hir_store.specs.declared.ids.TypeRefId.{TypeRefId}
use Rattle.hir_env.specs.ResolveCtx.{ResolveCtx}
use Rattle.hir_env.specs.ResolvedTree.{Parts}
use Rattle.hir_env.specs.TypeLayers.{ParamReading}
use Rattle.hir_env.specs.Paths.{params_of}
use Rattle.hir_env.specs.Answering.{name_or_missing}
use Rattle.hir_env.specs.PatLayers.{PatKindLayer}
use Rattle.hir_env.specs.Whole.{into, read_param, written}
use Rattle.hir_lower_builder.specs.Lowering.{Lowering, pure}
use Rattle.hir_lower_builder.specs.Lower.{some, type_part}

abbrev pub params_at : ResolveCtx → List AstParam → Parts
params_at at xs = params_of (read_param at.answers (into at)) xs at.place

-- whether the last is variadic, or else what is said where there is none
abbrev pub variadic_last : Bool → List AstParam → Bool
variadic_last b [] = b
variadic_last b (x ∷ xs) = variadic_last (out-Param x).variadic xs

-- none where it is variadic
abbrev pub lower_param : ParamReading → Lowering (Option TypeRefId)
lower_param r = if r.variadic then pure None else some (type_part None r.ty)

-- names

-- a name, in whatever way it binds
abbrev pub name_of_kind : PatKindLayer written → Option Name
name_of_kind (PatKind-F.IdentPat n is_ref is_mut p) = Some (name_or_missing n)
name_of_kind _ = None

abbrev pub name_of_pat : Option AstPat → Option Name
name_of_pat None = None
name_of_pat (Some p) = name_of_kind (out-PatKind p.kind)

abbrev pub param_name : AstParam → Option Name
param_name x = name_of_pat (out-Param x).pat

-- of those that aren't variadic
abbrev pub param_names : List AstParam → List (Option Name)
param_names [] = []
param_names (x ∷ xs) = if (out-Param x).variadic then param_names xs else param_name x ∷ param_names xs
