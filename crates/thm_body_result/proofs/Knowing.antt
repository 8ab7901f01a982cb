-- Steps by how much they store, where something is known of what is stored by then.
use Rattle.std.proofs.Common.{List, Ok, Err}
use Rattle.hir_store.specs.Stored.{Stored}
use Rattle.hir_store.specs.StoreSink.{Extends}
use Rattle.hir_store.proofs.Extending.{extends_owner, extends_refl}
use Rattle.hir_store.specs.declared.ids.ExprId.{ExprId}
use Rattle.hir_lower_builder.specs.Builder.{Builder}
use Rattle.hir_lower_builder.specs.Lowering.{Checked, go_on, Lowering, ◌>>=◌, owning}
use Rattle.hir_store.specs.Bindings.{binding_id}
use Rattle.thm_logic.specs.Keeps.{Keeps, Paired}
use Rattle.thm_logic.proofs.Frames.{Frame, frames, ribs_frames}
use Rattle.thm_logic.proofs.Keeping.{Any, kept_by}
use Rattle.thm_logic.proofs.Owning as owners
use Rattle.thm_logic.proofs.Owning.{with_owned}
use Rattle.thm_logic.proofs.Steps.{Correct, Holds, Mark, correct_as}
use Rattle.thm_body_result.specs.Size.{Size, nothing, ◌∪◌}
use Rattle.thm_body_result.proofs.Rooms.{Takes}
use Rattle.thm_body_result.proofs.Took.{Room, Took, none_after, short_as, short_first, short_then, took_as, took_then}

-- what may be known of what is stored
abbrev pub Known : Type 1
Known = Stored → Type 0

-- it lasts, whatever else is stored
abbrev pub Lasting : Known → Type 0
Lasting P = (s t : Stored) → Extends s t → P s → P t

pub record TakesIf {A : Type 0} (P : Known) (n : Size) (p : Lowering A) : Type 0 where
  pub takes : (b : Builder) → Paired b.stored → P b.stored → Room n b (p b).0 (p b).1

-- whatever is known
pub takes_any : {A : Type 0} {P : Known} {n : Size} {p : Lowering A} → Takes n p → TakesIf P n p
takes_any h = record { takes = λ b d k. h.takes b d }

-- one after another, where what is known before tells enough behind
pub takes_if_then : {A B : Type 0} {P Q : Known} {n k : Size} {p : Lowering A} {f : A → Lowering B}
    → ((s t : Stored) → Extends s t → P s → Q t) → TakesIf P n p → Correct p Any → ((a : A) → TakesIf Q k (f a))
    → TakesIf P (n ∪ k) (p >>= f)
takes_if_then {A = A} {B = B} {P = P} {Q = Q} {n = n} {k = k} {p = p} {f = f} lasts h keeps more =
    record { takes = λ b d x. first b d x (p b).0 (p b).1 (h.takes b d x) (kept_by keeps b) }
  where
    second : (b b' : Builder) → Took n b b' → (o : Checked B) (c : Builder) → Room k b' o c → Room (n ∪ k) b o c
    second b b' x (Ok e) c y = took_then b b' c x y
    second b b' x (Err e) c y = short_then k b b' x y

    first : (b : Builder) → Paired b.stored → P b.stored → (o : Checked A) (c : Builder) → Room n b o c → Keeps b o c
        → Room (n ∪ k) b (go_on o c f).0 (go_on o c f).1
    first b d x (Ok a) c y z = second b c y (f a c).0 (f a c).1 ((more a).takes c (y.paired d) (lasts b.stored c.stored z.stays x))
    first b d x (Err e) c y z = short_first n k b y

-- what comes after stores nothing
pub takes_if_end : {A B : Type 0} {P : Known} {n : Size} {p : Lowering A} {f : A → Lowering B} → TakesIf P n p
    → ((a : A) → Takes nothing (f a)) → TakesIf P n (p >>= f)
takes_if_end {A = A} {B = B} {P = P} {n = n} {p = p} {f = f} h more =
    record { takes = λ b d x. first b d (p b).0 (p b).1 (h.takes b d x) }
  where
    second : (b b' : Builder) → Took n b b' → (o : Checked B) (c : Builder) → Room nothing b' o c → Room n b o c
    second b b' x (Ok e) c y = took_as (none_after n) (took_then b b' c x y)
    second b b' x (Err e) c y = short_as b (none_after n) (short_then nothing b b' x y)

    first : (b : Builder) → Paired b.stored → (o : Checked A) (c : Builder) → Room n b o c → Room n b (go_on o c f).0 (go_on o c f).1
    first b d (Ok a) c x = second b c x (f a c).0 (f a c).1 ((more a).takes c (x.paired d))
    first b d (Err e) c x = x

-- what is known of the answer, once it is there
pub record Now {A : Type 0} (Q : A → Known) (final : Stored) (ps : List Frame) (m m' : Mark) (a : A) : Type 0 where
  pub now : Q a m'.stored

-- steps behind whose answer something is known, with what was known before
pub takes_now : {A B : Type 0} {P : Known} {Q R : A → Known} {n k : Size} {p : Lowering A} {f : A → Lowering B}
    → ((a : A) (s t : Stored) → Extends s t → P s → Q a t → R a t) → TakesIf P n p → Correct p (Now Q)
    → ((a : A) → TakesIf (R a) k (f a)) → TakesIf P (n ∪ k) (p >>= f)
takes_now {A = A} {B = B} {P = P} {Q = Q} {R = R} {n = n} {k = k} {p = p} {f = f} lasts h knows more = record {
  takes = λ b d x. first b d x (p b).0 (p b).1 (h.takes b d x)
      (λ final. knows.holds final (frames b.scopes) b (ribs_frames b.scopes));
}
  where
    second : (b b' : Builder) → Took n b b' → (o : Checked B) (c : Builder) → Room k b' o c → Room (n ∪ k) b o c
    second b b' x (Ok e) c y = took_then b b' c x y
    second b b' x (Err e) c y = short_then k b b' x y

    first : (b : Builder) → Paired b.stored → P b.stored → (o : Checked A) (c : Builder) → Room n b o c
        → ((final : Stored) → Holds (Now Q) final (frames b.scopes) b o c) → Room (n ∪ k) b (go_on o c f).0 (go_on o c f).1
    first b d x (Ok a) c y z =
        let done = z c.stored in
        let known = done.in_final d (extends_refl c.stored) in
        second b c y (f a c).0 (f a c).1 ((more a).takes c (y.paired d) (lasts a b.stored c.stored done.kept.stays x known.now))
    first b d x (Err e) c y z = short_first n k b y

-- of whatever is known nothing is asked
pub takes_always : {A : Type 0} {P : Known} {n : Size} {p : Lowering A} → ((s : Stored) → P s) → TakesIf P n p → Takes n p
takes_always all h = record { takes = λ b d. h.takes b d (all b.stored) }

-- it is known still once something owns what was bound
pub owning_now : {A : Type 0} (owner : A → ExprId) {Q : A → Known} {p : Lowering A} → ((a : A) → Lasting (Q a)) → Correct p (Now Q)
    → Correct (owning owner p) (Now Q)
owning_now owner {Q = Q} lasts h = correct_as (owners.correct_owning owner h) (λ final ps m m' a g row.
    let start = binding_id m.bindings in
    let left = row.left.stored in
    let owned = lasts a left (with_owned start (owner a) left) (extends_owner left start (owner a)) row.first.now in
    rw row.is (record { now = owned }))
