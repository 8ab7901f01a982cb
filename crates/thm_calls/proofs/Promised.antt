-- What is promised of what is read is promised of whatever the rules allow, where they allow just that.
use Rattle.std.proofs.Common.{subst, Option, Some, None, Result, Ok, Err}
use Rattle.std.specs.Prelude.{IfOk}
use Rattle.hir_syntax.specs.declared.ast.Path.{Path as AstPath, out-Path}
use Rattle.hir_store.specs.Stored.{Stored}
use Rattle.hir_store.specs.declared.path.Path.{Path}
use Rattle.hir_env.specs.ResolveCtx.{ResolveCtx}
use Rattle.spec_data.specs.Segments.{first_trait}
use Rattle.hir_lower.specs.Beside.{TakesArguments, args_of_named}
use Rattle.hir_lower.specs.declared.error.LowerError.{LowerError}
use Rattle.thm_calls.specs.ByRules.{IsJust}
use Rattle.thm_calls.specs.Promises.{BearsArguments}

pub of_each : {X R : Type 0} {F : X → Type 0} {x : X} {r : R} → IsJust F x → (promised : X → R → Type 0) → promised x r → (y : X) → F y
    → promised y r
of_each {x = x} {r = r} just promised p y h = subst (λ z. promised z r) (just.alone x y just.allowed h) p

-- what is said of the arguments beside the names of a path, with the arguments as a value
pub these_arguments : (new : Stored) (at : ResolveCtx) (x : AstPath) (result : Result (Option Path) LowerError)
    → IfOk result (λ r. TakesArguments new at x r)
    → IfOk result (λ r. BearsArguments new (args_of_named at (first_trait (out-Path x).segs) (out-Path x).segs) x r)
these_arguments new at x (Err e) h = tt
these_arguments new at x (Ok None) h = tt
these_arguments new at x (Ok (Some p)) h = h
