-- Steps of which nothing is claimed.
use Rattle.std.proofs.Common.{List, Option}
use Rattle.hir_store.specs.Stored.{Stored}
use Rattle.hir_store.specs.declared.type_ref.UseArgRef.{UseArgRef}
use Rattle.hir_env.specs.ResolvedTree.{Lifetime, UseRead}
use Rattle.hir_lower_builder.specs.Lowering.{Lowering, ◌>>=◌, pure}
use Rattle.hir_lower_builder.specs.Types.{lower_lifetime, lower_lifetime_option, lower_uses}
use Rattle.thm_logic.proofs.AsApart.{apart_graded}
use Rattle.thm_logic.proofs.Frames.{Frame}
use Rattle.thm_logic.proofs.GradedTypes.{lifetime_graded, lifetime_option_graded, uses_graded}
use Rattle.thm_logic.proofs.Steps.{Mark, Rel, Correct, correct_as, correct_bind, correct_pure}

pub record Any {A : Type 0} (final : Stored) (ps : List Frame) (m m' : Mark) (a : A) : Type 0 where
  pub any : Unit {0}

pub any : {A : Type 0} {p : Lowering A} {R : Rel A} → Correct p R → Correct p Any
any h = correct_as h (λ final ps m m' a g row. record { any = tt })

pub then_any : {A B : Type 0} {p : Lowering A} {f : A → Lowering B} → Correct p Any → ((a : A) → Correct (f a) Any)
    → Correct (p >>= f) Any
then_any h k = any (correct_bind h k)

pub pure_any : {A : Type 0} (a : A) → Correct (pure a) Any
pure_any a = any (correct_pure a)

pub lifetime_any : (l : Lifetime) → Correct (lower_lifetime l) Any
lifetime_any l = any (lifetime_graded apart_graded l)

pub lifetime_option_any : (l : Option Lifetime) → Correct (lower_lifetime_option l) Any
lifetime_option_any l = any (lifetime_option_graded apart_graded l)

pub uses_any : (done : List UseArgRef) (us : List UseRead) → Correct (lower_uses done us) Any
uses_any done us = any (uses_graded apart_graded done us)
