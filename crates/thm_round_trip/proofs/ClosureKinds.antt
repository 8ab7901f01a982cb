-- What a closure is as it is stored is what it is as it is written.
use Rattle.std.proofs.Common.{◌≡◌, ◌∙◌, refl, ap, Bool, true, false, if◌then◌else◌}
use Rattle.hir_store.specs.declared.hir.ClosureKind.TheVariants as kind
use Rattle.hir_env.specs.ResolvedTree.{OptionExpr}
use Rattle.hir_lower_builder.specs.Forms.{capture_by, closure_kind, movability}
use Rattle.spec_data.specs.Closures.{capture_of, kind_of, movability_of}
use Rattle.spec_data.specs.Yields.{yields_in}

moves_as : (is_static : Bool) → movability is_static ≡ movability_of is_static
moves_as true = refl
moves_as false = refl

pub captures_as : (by_move : Bool) → capture_by by_move ≡ capture_of by_move
captures_as true = refl
captures_as false = refl

kind_by : (y is_static : Bool) → closure_kind y is_static ≡ (if y then kind.OldCoroutine (movability_of is_static) else kind.Closure)
kind_by true is_static = ap kind.OldCoroutine (moves_as is_static)
kind_by false is_static = refl

-- where what was noted is what is written
pub kind_as : (is_static : Bool) (e : OptionExpr) {y : Bool} → y ≡ yields_in e → closure_kind y is_static ≡ kind_of is_static e
kind_as is_static e h = ap (λ y. closure_kind y is_static) h ∙ kind_by (yields_in e) is_static
