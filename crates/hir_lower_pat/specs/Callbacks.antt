-- Function values that lower a given pattern.
use Rattle.std.specs.Prelude.{◌≡◌, Option}
use denote.Ref.{Bor, MutBor}
use Rattle.hir_syntax.specs.declared.pats.Pat.{Pat as AstPat}
use Rattle.hir_store.specs.declared.ids.PatId.{PatId}
use Rattle.hir_env.specs.ResolveCtx.{ResolveCtx}
use Rattle.hir_env.specs.Whole.{resolved_pat}
use Rattle.hir_lower_builder.specs.Builder.{Builder}
use Rattle.hir_lower_builder.specs.Lowering.{Checked}
use Rattle.hir_lower_builder.specs.declared.parts.Lowerer.{Lowerer}
use Rattle.hir_lower_pat.specs.Bindings.{HasNames}
use Rattle.hir_lower_pat.specs.Methods.{LowersElement, LowersPat}
use Rattle.hir_lower_pat.specs.declared.bindings.Bindings.{Bindings}

abbrev pub Pre : Type 0 → Type 1
Pre P = Bor (Lowerer P) → MutBor Builder → MutBor Bindings → Bor AstPat → Type 0

abbrev pub Post : Type 0 → Type 1
Post P = Bor (Lowerer P) → MutBor Builder → MutBor Bindings → Bor AstPat → Checked PatId → MutBor Builder → MutBor Bindings → Type 0

-- the function may be called on the pattern, and then does what the description says
pub record HandlesPat {P : Type 0} (rctx : P → ResolveCtx) (pre : Pre P) (post : Post P) (lowerer : Lowerer P) (p : AstPat) : Type 0 where
  pub callable : (v : Bor (Lowerer P)) (old : MutBor Builder) (was : MutBor Bindings) (b : Bor AstPat)
      → v.now ≡ lowerer → b.now ≡ p → HasNames old.now.stored was.now → pre v old was b
  pub lowers : (v : Bor (Lowerer P)) (old new : MutBor Builder) (was is : MutBor Bindings) (b : Bor AstPat) (r : Checked PatId)
      → v.now ≡ lowerer → b.now ≡ p → post v old was b r new is
      → LowersPat (resolved_pat (rctx lowerer.parts) p) was.now old.now r is.now new.now

-- the same as an element of a tuple or a call

abbrev pub ElementPost : Type 0 → Type 1
ElementPost P = Bor (Lowerer P) → MutBor Builder → MutBor Bindings → Bor AstPat → Checked (Option PatId) → MutBor Builder
    → MutBor Bindings → Type 0

pub record HandlesElement {P : Type 0} (rctx : P → ResolveCtx) (pre : Pre P) (post : ElementPost P) (lowerer : Lowerer P) (p : AstPat)
    : Type 0 where
  pub callable : (v : Bor (Lowerer P)) (old : MutBor Builder) (was : MutBor Bindings) (b : Bor AstPat)
      → v.now ≡ lowerer → b.now ≡ p → HasNames old.now.stored was.now → pre v old was b
  pub lowers : (v : Bor (Lowerer P)) (old new : MutBor Builder) (was is : MutBor Bindings) (b : Bor AstPat)
      (r : Checked (Option PatId)) → v.now ≡ lowerer → b.now ≡ p → post v old was b r new is
      → LowersElement (resolved_pat (rctx lowerer.parts) p) was.now old.now r is.now new.now
