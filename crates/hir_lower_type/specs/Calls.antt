-- A macro call as a type, as the code reads it.
use Rattle.std.specs.Prelude.{Option, Some, None}
use denote.Ref.{Bor}
use Rattle.hir_syntax.specs.declared.macros.Fragment.{Fragment as AstFragment}
use Rattle.hir_syntax.specs.declared.macros.Fragment.TheVariants as fragment
use Rattle.hir_syntax.specs.declared.macros.MacroCall.{MacroCall as AstMacroCall}
use Rattle.hir_syntax.specs.declared.types.Type_.{Type_ as AstType_}
use Rattle.hir_store.specs.Pointers.{Pointer}
use Rattle.hir_store.specs.declared.ids.TypeRefId.{TypeRefId}
use Rattle.hir_env.specs.ResolvedTree.{Binder, Type_}
use Rattle.hir_env.specs.Calls.{entered_type}
use Rattle.hir_env.specs.ResolveCtx.{ResolveCtx}
use Rattle.hir_env.specs.Whole.{resolved_type, into}
use Rattle.hir_env.specs.declared.ctx.LowerCtx.{LowerCtx}
use Rattle.hir_lower_builder.specs.Calls.{Found}
use Rattle.hir_lower_builder.specs.Lower.{lower_type}
use Rattle.hir_lower_builder.specs.Lowering.{◌>>◌, point_type, pure}
use Rattle.hir_lower_builder.specs.Methods.{at_place}
use Rattle.hir_lower_builder.specs.Types.{TypeSteps, error_type}

abbrev pub written_call : ResolveCtx → Pointer → AstMacroCall → Type_
written_call at s c = entered_type at.answers (into at) c at.place s

-- the type that is found, and where it is read
abbrev pub There : Type 0
There = Option (LowerCtx × AstType_)

abbrev pub type_in : LowerCtx → Option AstFragment → There
type_in q (Some (fragment.Type_ t)) = Some (q, t)
type_in q _ = None

abbrev pub type_there : Found → There
type_there None = None
type_there (Some x) = type_in x.0 x.1

-- the same as it is lent
abbrev pub type_lent : Option (LowerCtx × Bor AstType_) → There
type_lent None = None
type_lent (Some x) = Some (x.0, x.1.now)

-- the node leads to the type
abbrev pub point_at : Pointer → TypeRefId → TypeSteps
point_at s id = point_type s id >> pure id

-- what the code does with it, which is an error where there is none
abbrev pub lower_there : ResolveCtx → Option Binder → There → TypeSteps
lower_there at binder None = error_type
lower_there at binder (Some x) = lower_type binder (resolved_type (at_place at x.0) x.1)
