-- Steps one after another, of which one may be refused.
use Rattle.std.proofs.Common.{arith, ◌≡◌, ◌∙◌, ap, Ok, Err}
use Rattle.std.specs.Prelude.{IsErrAnd}
use Rattle.hir_store.specs.Stored.{Stored}
use Rattle.hir_store.specs.Range.{Grows}
use Rattle.hir_store.specs.declared.error.StoreError.{StoreError}
use Rattle.hir_lower_builder.specs.Builder.{Builder}
use Rattle.hir_lower_builder.specs.Lowering.{Checked, go_on, Lowering, Lowers, ◌>>=◌}

grows_on : (a b c : Stored) → Grows a b → Grows b c → Grows a c
grows_on a b c g h = (omega arith, omega arith, omega arith, omega arith, omega arith, omega arith)

-- the steps go on from where the first ones came to
behind : {A B : Type 0} (p : Lowering A) (f : A → Lowering B) (b : Builder) (o : Checked A) (c : Builder) → p b ≡ (o, c)
    → (p >>= f) b ≡ go_on o c f
behind {A = A} {B = B} p f b o c e = let on : Checked A × Builder → Checked B × Builder = λ s. go_on s.0 s.1 f in ap on e

pub then_lowers : {A B : Type 0} (HasA : Stored → A → Type 0) (HasB : Stored → B → Type 0) (p : Lowering A) (f : A → Lowering B)
    (b c d : Builder) (a : A) (r : Checked B) → Lowers HasA p b (Ok a) c → Lowers HasB (f a) c r d → Lowers HasB (p >>= f) b r d
then_lowers HasA HasB p f b c d a (Ok x) h k =
    (behind p f b (Ok a) c h.0 ∙ k.0, grows_on b.stored c.stored d.stored h.1 k.1, k.2)
then_lowers HasA HasB p f b c d a (Err e) h k = λ other. let y = k other in (behind p f b (Ok a) c h.0 ∙ y.0, y.1)

-- what the first steps are refused for
pub refused_first : {A B : Type 0} (HasA : Stored → A → Type 0) (HasB : Stored → B → Type 0) (p : Lowering A) (f : A → Lowering B)
    (b c : Builder) (e : StoreError) (r : Checked B) → IsErrAnd r (λ x. x ≡ e) → Lowers HasA p b (Err e) c → Lowers HasB (p >>= f) b r c
refused_first HasA HasB p f b c e (Ok x) is h = absurd is
refused_first HasA HasB p f b c e (Err x) is h = rw is (λ other. let y = h other in (behind p f b (Err e) c y.0, y.1))
