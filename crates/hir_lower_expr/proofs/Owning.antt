-- What is refused inside of what owns is refused.
use Rattle.std.proofs.Common.{◌≡◌, ap, Ok, Err, length}
use Rattle.std.specs.Prelude.{IsErrAnd}
use Rattle.hir_store.specs.Stored.{Stored}
use Rattle.hir_store.specs.Bindings.{binding_id}
use Rattle.hir_store.specs.declared.error.StoreError.{StoreError}
use Rattle.hir_store.specs.declared.ids.ExprId.{ExprId}
use Rattle.hir_lower_builder.specs.Builder.{Builder}
use Rattle.hir_lower_builder.specs.Lowering.{Checked, go_on, Lowering, Lowers, bindings_end, own, owning, pure, ◌>>=◌}

-- the steps go on from where the first ones came to
behind : {A B : Type 0} (p : Lowering A) (f : A → Lowering B) (b : Builder) (o : Checked A) (c : Builder) → p b ≡ (o, c)
    → (p >>= f) b ≡ go_on o c f
behind {A = A} {B = B} p f b o c e = let on : Checked A × Builder → Checked B × Builder = λ s. go_on s.0 s.1 f in ap on e

pub owning_refused : {A : Type 0} (Has : Stored → A → Type 0) (owner : A → ExprId) (p : Lowering A) (b c : Builder) (e : StoreError)
    (r : Checked A) → IsErrAnd r (λ x. x ≡ e) → Lowers Has p b (Err e) c → Lowers Has (owning owner p) b r c
unfolding owning bindings_end
owning_refused Has owner p b c e (Ok x) is h = absurd is
owning_refused Has owner p b c e (Err x) is h = rw is (λ other.
    let y = h other in
    (behind p (λ a. own (binding_id (length b.stored.bindings.entries)) (owner a) >>= (λ u. pure a)) b (Err e) c y.0, y.1))
