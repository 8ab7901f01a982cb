-- What the answers of steps are, from wherever they begin.
use Rattle.std.proofs.Common.{Bool, List, Option, Some, None, Ok, Err}
use Rattle.hir_store.specs.declared.path.Path.{Path as HirPath}
use Rattle.hir_lower_builder.specs.Builder.{Builder}
use Rattle.hir_lower_builder.specs.Lowering.{Checked, go_on, Lowering, ◌>>=◌, pure, input_end}
use Rattle.hir_lower_builder.specs.Paths.{with_alias, cut_back}

abbrev pub AnsweredTo : {A : Type 0} → (A → Type 0) → Checked A → Type 0
AnsweredTo P (Ok a) = P a
AnsweredTo P (Err e) = Unit {0}

pub record Answering {A : Type 0} (P : A → Type 0) (p : Lowering A) : Type 0 where
  pub answers : (b : Builder) → AnsweredTo P (p b).0

abbrev pub anything : {A : Type 0} → A → Type 0
anything a = Unit {0}

pub answering_any : {A : Type 0} (p : Lowering A) → Answering anything p
answering_any {A = A} p = record { answers = λ b. by (p b).0 }
  where
    by : (o : Checked A) → AnsweredTo anything o
    by (Ok a) = tt
    by (Err e) = tt

pub answering_pure : {A : Type 0} {P : A → Type 0} (a : A) → P a → Answering P (pure a)
answering_pure a h = record { answers = λ b. h }

pub answering_then : {A B : Type 0} {P : A → Type 0} {Q : B → Type 0} {p : Lowering A} {f : A → Lowering B} → Answering P p
    → ((a : A) → P a → Answering Q (f a)) → Answering Q (p >>= f)
answering_then {A = A} {P = P} {Q = Q} {p = p} {f = f} h k = record { answers = λ b. by (p b).0 (p b).1 (h.answers b) }
  where
    by : (o : Checked A) (c : Builder) → AnsweredTo P o → AnsweredTo Q (go_on o c f).0
    by (Ok a) c x = (k a x).answers c
    by (Err e) c x = tt

-- less of what is known
pub answering_less : {A : Type 0} {P Q : A → Type 0} {p : Lowering A} → ((a : A) → P a → Q a) → Answering P p → Answering Q p
answering_less {A = A} {P = P} {Q = Q} {p = p} less h = record { answers = λ b. by (p b).0 (h.answers b) }
  where
    by : (o : Checked A) → AnsweredTo P o → AnsweredTo Q o
    by (Ok a) x = less a x
    by (Err e) x = tt

-- a path that is an alias in an argument answers what it is without it
pub answering_aliased : (alias : Option (List Bool)) {P : Option HirPath → Type 0} {p : Lowering (Option HirPath)} → Answering P p
    → Answering P (with_alias alias p)
answering_aliased None h = h
answering_aliased (Some places) h = answering_then (answering_any input_end) (λ n u. answering_then h (λ p e.
    answering_then (answering_any (cut_back n places p)) (λ v w. answering_pure p e)))
