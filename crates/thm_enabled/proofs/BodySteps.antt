-- The steps of a body with its parameters look at what is read of it by what it is lowered to alone.
use Rattle.std.proofs.Common.{◌≡◌, ◌∙◌, Bool, List, [], Option, Some, None}
use Rattle.hir_store.specs.declared.hir.CoroutineKind.{CoroutineKind}
use Rattle.hir_store.specs.declared.hir.CoroutineSource.TheVariants as source
use Rattle.hir_store.specs.declared.ids.BindingId.{BindingId}
use Rattle.hir_env.specs.ResolvedTree.{Formal, Formals, OptionExpr}
use Rattle.thm_frame.specs.Theorems.{body_at}
use Rattle.hir_lower_builder.specs.Lower.{lower_part}
use Rattle.hir_lower_builder.specs.Lowering.{◌>>=◌, owning, pure}
use Rattle.hir_lower_builder.specs.Preludes.{let_params, let_self, lower_handed, made_coroutine_form}
use Rattle.thm_body_result.specs.Formals.{coroutine_body, each_formal, in_function, lower_body, lower_formals, lower_self, plain_body}
use Rattle.thm_enabled.specs.Theorems.{OutsideBodies}
use Rattle.thm_enabled.specs.Lowered.{BodiesLowered}
use Rattle.thm_enabled.proofs.Lowered.{parts_alike}

plain_is : (skipped : Bool) (f : Formals) (x y : OptionExpr) → lower_part x ≡ lower_part y → plain_body skipped f x ≡ plain_body skipped f y
unfolding plain_body
plain_is skipped f x y h = λ i. lower_formals skipped f >>= (λ given. h i >>= (λ root. pure ((given, given), root)))

inside_is : (kind : CoroutineKind) (skipped : Bool) (self : Option BindingId) (fs : List Formal) (x y : OptionExpr)
    → lower_part x ≡ lower_part y → in_function kind skipped self fs x ≡ in_function kind skipped self fs y
unfolding in_function
inside_is kind skipped self fs x y h = λ i. each_formal skipped [] fs >>= (λ ps. h i >>= (λ body. let_self self >>= (λ begun.
    let_params begun.1 ps >>= (λ l. made_coroutine_form kind source.Fn l.lets body >>= (λ c. pure ((begun.0, ps), (l.handed, c)))))))

coroutine_is : (kind : CoroutineKind) (skipped : Bool) (f : Formals) (x y : OptionExpr) → lower_part x ≡ lower_part y
    → coroutine_body kind skipped f x ≡ coroutine_body kind skipped f y
unfolding coroutine_body
coroutine_is kind skipped f x y h = λ i. lower_self f.receiver >>= (λ self.
    owning (λ z. z.1.1) (inside_is kind skipped self f.formals x y h i) >>= (λ inside.
    lower_handed [] inside.1.0 >>= (λ ps. pure (((self, ps), inside.0), inside.1.1))))

pub body_is : (kind : Option CoroutineKind) (skipped : Bool) (f : Formals) (x y : OptionExpr) → lower_part x ≡ lower_part y
    → lower_body kind skipped f x ≡ lower_body kind skipped f y
body_is None skipped f x y h = plain_is skipped f x y h
body_is (Some kind) skipped f x y h = coroutine_is kind skipped f x y h

pub bodies_lowered : OutsideBodies → BodiesLowered
bodies_lowered theorem a b item p q ps e fs x h k g kind =
    let same = theorem a b item p q ps e fs x h k g in
    let read = (body_at b item p q ps e).read in
    body_is kind (a.skip item) fs x read (parts_alike x read (λ j. (same j).read))
    ∙ (λ i. lower_body kind (same i).skipped (same i).formals read)
