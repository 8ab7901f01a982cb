-- Steps by how much they store, and by what their answers are.
use Rattle.std.proofs.Common.{Ok, Err}
use Rattle.hir_lower_builder.specs.Builder.{Builder}
use Rattle.hir_lower_builder.specs.Lowering.{Checked, go_on, Lowering, ◌>>=◌, pure}
use Rattle.thm_logic.specs.Keeps.{Paired}
use Rattle.thm_body_result.specs.Size.{Size, nothing, ◌∪◌}
use Rattle.thm_body_result.specs.Room.{Short}
use Rattle.thm_body_result.proofs.Rooms.{Takes}
use Rattle.thm_body_result.proofs.Took.{Took, Room, Same, took_none, took_then, took_as, short_first, short_then, short_as, none_after}

abbrev pub Emitted : {A : Type 0} → Size → (A → Type 0) → Builder → Checked A → Builder → Type 0
Emitted n P b (Ok a) c = Took n b c × P a
Emitted n P b (Err e) c = Short n b

pub record Emits {A : Type 0} (n : Size) (P : A → Type 0) (p : Lowering A) : Type 0 where
  pub emits : (b : Builder) → Paired b.stored → Emitted n P b (p b).0 (p b).1

pub emits_then : {A B : Type 0} {n k : Size} {P : A → Type 0} {Q : B → Type 0} {p : Lowering A} {f : A → Lowering B} → Emits n P p
    → ((a : A) → P a → Emits k Q (f a)) → Emits (n ∪ k) Q (p >>= f)
emits_then {A = A} {B = B} {n = n} {k = k} {P = P} {Q = Q} {p = p} {f = f} h more =
    record { emits = λ b d. first b d (p b).0 (p b).1 (h.emits b d) }
  where
    second : (b b' : Builder) → Took n b b' → (o : Checked B) (c : Builder) → Emitted k Q b' o c → Emitted (n ∪ k) Q b o c
    second b b' x (Ok e) c y = (took_then b b' c x y.0, y.1)
    second b b' x (Err e) c y = short_then k b b' x y

    first : (b : Builder) → Paired b.stored → (o : Checked A) (c : Builder) → Emitted n P b o c
        → Emitted (n ∪ k) Q b (go_on o c f).0 (go_on o c f).1
    first b d (Ok a) c x = second b c x.0 (f a c).0 (f a c).1 ((more a x.1).emits c (x.0.paired d))
    first b d (Err e) c x = short_first n k b x

pub emits_as : {A : Type 0} {n k : Size} {P : A → Type 0} {p : Lowering A} → Same n k → Emits n P p → Emits k P p
emits_as {A = A} {n = n} {k = k} {P = P} {p = p} same h = record { emits = λ b d. by b (p b).0 (p b).1 (h.emits b d) }
  where
    by : (b : Builder) (o : Checked A) (c : Builder) → Emitted n P b o c → Emitted k P b o c
    by b (Ok a) c x = (took_as same x.0, x.1)
    by b (Err e) c x = short_as b same x

pub emits_pure : {A : Type 0} (P : A → Type 0) (a : A) → P a → Emits nothing P (pure a)
emits_pure P a h = record { emits = λ b d. (took_none b, h) }

pub emits_end : {A B : Type 0} {n : Size} {P : A → Type 0} {Q : B → Type 0} {p : Lowering A} {f : A → Lowering B} → Emits n P p
    → ((a : A) → P a → Emits nothing Q (f a)) → Emits n Q (p >>= f)
emits_end h more = emits_as (none_after _) (emits_then h more)

abbrev pub anything : {A : Type 0} → A → Type 0
anything a = Unit {0}

-- of steps that only take
pub emits_any : {A : Type 0} {n : Size} {p : Lowering A} → Takes n p → Emits n anything p
emits_any {A = A} {n = n} {p = p} h = record { emits = λ b d. by b (p b).0 (p b).1 (h.takes b d) }
  where
    by : (b : Builder) (o : Checked A) (c : Builder) → Room n b o c → Emitted n anything b o c
    by b (Ok a) c x = (x, tt)
    by b (Err e) c x = x

pub takes_of : {A : Type 0} {n : Size} {P : A → Type 0} {p : Lowering A} → Emits n P p → Takes n p
takes_of {A = A} {n = n} {P = P} {p = p} h = record { takes = λ b d. by b (p b).0 (p b).1 (h.emits b d) }
  where
    by : (b : Builder) (o : Checked A) (c : Builder) → Emitted n P b o c → Room n b o c
    by b (Ok a) c x = x.0
    by b (Err e) c x = x
