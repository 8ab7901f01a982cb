-- What is stored goes on: no entry is lost, and nodes lead on to what came since. Steps that keep to it, one after another.
use Rattle.std.proofs.Common.{[], arith, ◌≡◌, ◌∙◌, refl, sym, ap, subst, ℕ, ◌≤◌, Bool, true, false, length}
use Rattle.std.proofs.Common.{if◌then◌else◌, length-append}
use Rattle.std.proofs.Common.{List, ◌∷◌, Option, Some, None, Ok, Err, ◌⊎◌, inl, inr, ⊎_elim, true≢false, is_some}
use Rattle.hir_store.specs.Pointers.{Pointer, same_pointer, value_at}
use Rattle.hir_store.specs.Arenas.{Sourced, insert_pointer, with_entry, with_made, with_mapping}
use Rattle.hir_store.proofs.Arenas.{prefix_refl, prefix_trans}
use Rattle.hir_store.specs.Stored.{Stored}
use Rattle.hir_store.specs.declared.error.StoreError.TheVariants.{Full}
use Rattle.hir_store.specs.declared.hir.Expr.{Expr}
use Rattle.hir_store.specs.declared.hir.Label.{Label}
use Rattle.hir_store.specs.declared.ids.ExprId.{ExprId}
use Rattle.hir_store.specs.declared.ids.LabelId.{LabelId}
use Rattle.hir_store.specs.declared.ids.LifetimeRefId.{LifetimeRefId}
use Rattle.hir_store.specs.declared.ids.PatId.{PatId}
use Rattle.hir_store.specs.declared.ids.TypeRefId.{TypeRefId}
use Rattle.hir_store.specs.declared.pat.Binding.{Binding}
use Rattle.hir_store.specs.declared.pat.Pat.{Pat}
use Rattle.hir_store.specs.declared.type_ref.LifetimeRef.{LifetimeRef}
use Rattle.hir_store.specs.declared.type_ref.TypeRef.{TypeRef}
use Rattle.hir_lower_builder.specs.Builder.{Builder}
use Rattle.hir_lower_builder.specs.Lowering.{Checked, go_on, Lowering, ◌>>=◌, pure, stored}
use Rattle.thm_logic.proofs.Answering.{Answering, AnsweredTo, answering_any}
use Rattle.thm_body_result.specs.LeadsOn.{LeadsOn, Onward, Went, expr_place, label_place, lifetime_place, pat_place, type_place}

-- maps

module _ {I : Type 0} (place : I → ℕ) (n : ℕ) where
  pub on_refl : (es : List (Pointer × I)) → LeadsOn place n es es
  on_refl es = λ p t f. (t, (f, inl refl))

  pub on_trans : (a b c : List (Pointer × I)) → LeadsOn place n a b → LeadsOn place n b c → LeadsOn place n a c
  on_trans a b c g h = λ p t f.
      let x = g p t f in
      let y = h p x.0 x.1.0 in
      (y.0, (y.1.0, ⊎_elim (λ e. by p t x.0 y.0 e x.1.1) (λ l. inr l) y.1.1))
    where
      by : (p : Pointer) (t u v : I) → v ≡ u → (u ≡ t) ⊎ (n ≤ place u) → (v ≡ t) ⊎ (n ≤ place v)
      by p t u v e (inl d) = inl (e ∙ d)
      by p t u v e (inr l) = inr (subst (λ k. n ≤ place k) (sym e) l)

  abbrev There : Pointer → I → List (Pointer × I) → Type 0
  There q t more = (u : I) × ((value_at more q ≡ Some u) × ((u ≡ t) ⊎ (n ≤ place u)))

  pub on_insert : (es : List (Pointer × I)) (p : Pointer) (id : I) → n ≤ place id → LeadsOn place n es (insert_pointer es (Some p) id)
  on_insert [] p id l = λ q t f. absurd (true≢false (sym (ap is_some f)))
  on_insert (e ∷ es) p id l = λ q t f. by q t (on_insert es p id l q t) (same_pointer p e.0) (same_pointer q e.0) refl f
    where
      by : (q : Pointer) (t : I) → (value_at es q ≡ Some t → There q t (insert_pointer es (Some p) id)) → (b c : Bool)
          → same_pointer q e.0 ≡ c
          → value_at (e ∷ es) q ≡ Some t → There q t (if b then (e.0, id) ∷ es else e ∷ insert_pointer es (Some p) id)
      by q t others true true m f = (id, (ap (λ b. if b then Some id else value_at es q) m, inr l))
      by q t others true false m f =
          let was : value_at es q ≡ Some t = sym (ap (λ b. if b then Some e.1 else value_at es q) m) ∙ f in
          (t, (ap (λ b. if b then Some id else value_at es q) m ∙ was, inl refl))
      by q t others false true m f =
          let w : Some e.1 ≡ Some t = sym (ap (λ b. if b then Some e.1 else value_at es q) m) ∙ f in
          (e.1, (ap (λ b. if b then Some e.1 else value_at (insert_pointer es (Some p) id) q) m, inl cc))
      by q t others false false m f =
          let r = others (sym (ap (λ b. if b then Some e.1 else value_at es q) m) ∙ f) in
          (r.0, (ap (λ b. if b then Some e.1 else value_at (insert_pointer es (Some p) id) q) m ∙ r.1.0, r.1.1))

  on_pointed : (es : List (Pointer × I)) (p : Option Pointer) (id : I) → n ≤ place id → LeadsOn place n es (insert_pointer es p id)
  on_pointed es None id l = on_refl es
  on_pointed es (Some p) id l = on_insert es p id l

on_sooner : {I : Type 0} (place : I → ℕ) (n m : ℕ) (a b : List (Pointer × I)) → n ≤ m → LeadsOn place m a b → LeadsOn place n a b
on_sooner place n m a b le h = λ p t f. let x = h p t f in (x.0, (x.1.0, ⊎_elim (λ e. inl e) (λ l. inr (omega arith)) x.1.1))

-- an arena

module _ {E I : Type 0} (place : I → ℕ) where
  pub onward_refl : (a : Sourced E I) → Onward place a a
  onward_refl a = record { grown = omega arith; mappings = on_refl place _ _ }

  onward_trans : (a b c : Sourced E I) → Onward place a b → Onward place b c → Onward place a c
  onward_trans a b c g h =
      let n = g.grown in
      let m = h.grown in record { grown = omega arith; mappings = on_trans place _ _ _ _ g.mappings (on_sooner place _ _ _ _ n h.mappings) }

  -- one entry more, with a number that is its place
  pub onward_entry : (number : ℕ → I) → ((n : ℕ) → place (number n) ≡ n) → (a : Sourced E I) (x : E) (source : Option Pointer)
      → Onward place a (with_entry number a x source)
  onward_entry number placed a x source =
      let grown = length-append a.entries (x ∷ []) in
      let at = placed (length a.entries) in
      record { grown = omega arith; mappings = on_pointed place _ a.map source (number (length a.entries)) (omega (arith, at)) }

  -- and one that was made up, to which no node leads
  pub onward_made : (a : Sourced E I) (x : E) (source : Option Pointer) → Onward place a (with_made a x source)
  onward_made a x source =
      let grown = length-append a.entries (x ∷ []) in record { grown = omega arith; mappings = on_refl place _ _ }

  -- one node more leads to an entry that came since
  pub onward_mapping : {a b : Sourced E I} → Onward place a b → (p : Pointer) (id : I) → length a.entries ≤ place id
      → Onward place a (with_mapping b p id)
  onward_mapping {a = a} {b = b} w p id l =
      record { grown = w.grown; mappings = on_trans place _ _ _ _ w.mappings (on_insert place _ b.map p id l) }

-- an entry, where there is room for one
abbrev pub made : {E I : Type 0} → (ℕ → I) → Bool → E → Option Pointer → Sourced E I → Checked I × Sourced E I
made number t x source a = if t then (Ok (number (length a.entries)), with_entry number a x source) else (Err Full, a)

-- what is stored

pub went_refl : (a : Stored) → Went a a
went_refl a = record {
  exprs = onward_refl expr_place _;
  labels = onward_refl label_place _;
  pats = onward_refl pat_place _;
  targets = on_refl pat_place _ _;
  types = onward_refl type_place _;
  lifetimes = onward_refl lifetime_place _;
  bindings = prefix_refl _;
  owners = λ m. (prefix_refl _, m);
}

-- the arenas, the bindings with their owners, and where assignee expressions lead
abbrev Arenas : Type 0
Arenas = Sourced Expr ExprId × Sourced Label LabelId × Sourced Pat PatId × Sourced TypeRef TypeRefId × Sourced LifetimeRef LifetimeRefId
    × List Binding × List (Option ExprId) × List (Pointer × PatId)

abbrev pub arenas : Stored → Arenas
arenas s = (s.exprs, s.labels, s.pats, s.types, s.lifetimes, s.bindings.entries, s.bindings.owners, s.target_map)

pub went_same : (a b : Stored) → arenas b ≡ arenas a → Went a b
went_same a b e =
    let exprs : b.exprs ≡ a.exprs = ap (λ x. x.0) e in
    let labels : b.labels ≡ a.labels = ap (λ x. x.1) e in
    let pats : b.pats ≡ a.pats = ap (λ x. x.2) e in
    let types : b.types ≡ a.types = ap (λ x. x.3) e in
    let lifetimes : b.lifetimes ≡ a.lifetimes = ap (λ x. x.4) e in
    let bindings : b.bindings.entries ≡ a.bindings.entries = ap (λ x. x.5) e in
    let owners : b.bindings.owners ≡ a.bindings.owners = ap (λ x. x.6) e in
    let targets : b.target_map ≡ a.target_map = ap (λ x. x.7) e in rw (exprs, labels, pats, types, lifetimes, bindings, owners, targets)
    (record {
      exprs = onward_refl expr_place _;
      labels = onward_refl label_place _;
      pats = onward_refl pat_place _;
      targets = on_refl pat_place _ _;
      types = onward_refl type_place _;
      lifetimes = onward_refl lifetime_place _;
      bindings = prefix_refl _;
      owners = λ m. (prefix_refl _, m);
    })

-- one arena becomes another one

pub went_exprs : {s t : Stored} → Went s t → (a : Sourced Expr ExprId) → Onward expr_place s.exprs a → Went s (record t { exprs = a })
went_exprs w a h = record {
  exprs = h;
  labels = w.labels;
  pats = w.pats;
  targets = w.targets;
  types = w.types;
  lifetimes = w.lifetimes;
  bindings = w.bindings;
  owners = w.owners;
}

pub went_pats : {s t : Stored} → Went s t → (a : Sourced Pat PatId) → Onward pat_place s.pats a → Went s (record t { pats = a })
went_pats w a h = record {
  exprs = w.exprs;
  labels = w.labels;
  pats = h;
  targets = w.targets;
  types = w.types;
  lifetimes = w.lifetimes;
  bindings = w.bindings;
  owners = w.owners;
}

pub went_types : {s t : Stored} → Went s t → (a : Sourced TypeRef TypeRefId) → Onward type_place s.types a
    → Went s (record t { types = a })
went_types w a h = record {
  exprs = w.exprs;
  labels = w.labels;
  pats = w.pats;
  targets = w.targets;
  types = h;
  lifetimes = w.lifetimes;
  bindings = w.bindings;
  owners = w.owners;
}

pub went_trans : (a b c : Stored) → Went a b → Went b c → Went a c
went_trans a b c g h = record {
  exprs = onward_trans expr_place _ _ _ g.exprs h.exprs;
  labels = onward_trans label_place _ _ _ g.labels h.labels;
  pats = onward_trans pat_place _ _ _ g.pats h.pats;
  targets = on_trans pat_place _ _ _ _ g.targets (on_sooner pat_place _ _ _ _ g.pats.grown h.targets);
  types = onward_trans type_place _ _ _ g.types h.types;
  lifetimes = onward_trans lifetime_place _ _ _ g.lifetimes h.lifetimes;
  bindings = prefix_trans g.bindings h.bindings;
  owners = λ m. let x = g.owners m in let y = h.owners x.1 in (prefix_trans x.0 y.0, y.1);
}

-- steps

-- what is said of an answer, of what was stored before
abbrev pub Low : Type 0 → Type 1
Low A = Stored → A → Type 0

abbrev pub any : {A : Type 0} → Low A
any s a = Unit {0}

-- it is an entry that came since
abbrev pub since : Low ExprId
since s i = length s.exprs.entries ≤ i.0

-- a pattern, and a type, that came since
abbrev pub new_pat : Low PatId
new_pat s p = length s.pats.entries ≤ p.0

abbrev pub new_type : Low TypeRefId
new_type s i = length s.types.entries ≤ i.0

abbrev pub Goes : {A : Type 0} → Low A → Builder → Checked A → Builder → Type 0
Goes L b (Ok a) c = Went b.stored c.stored × L b.stored a
Goes L b (Err e) c = Went b.stored c.stored

pub record Leading {A : Type 0} (L : Low A) (p : Lowering A) : Type 0 where
  pub goes : (b : Builder) → Goes L b (p b).0 (p b).1

went_of : {A : Type 0} (L : Low A) (b : Builder) (o : Checked A) (c : Builder) → Goes L b o c → Went b.stored c.stored
went_of L b (Ok a) c h = h.0
went_of L b (Err e) c h = h

pub step_went : {A : Type 0} {L : Low A} {p : Lowering A} → Leading L p → (b : Builder) → Went b.stored (p b).1.stored
step_went {L = L} {p = p} h b = went_of L b (p b).0 (p b).1 (h.goes b)

-- one after another, of which the first says L and, after that, the other M, where it is known what the first answers
pub iteration_where : {A B : Type 0} {P : A → Type 0} {L : Low A} {p : Lowering A} {f : A → Lowering B} (M : A → Low B) (N : Low B)
    → ((s t : Stored) (a : A) (x : B) → Went s t → L s a → M a t x → N s x)
    → Leading L p → Answering P p → ((a : A) → P a → Leading (M a) (f a)) → Leading N (p >>= f)
iteration_where {A = A} {B = B} {P = P} {L = L} {p = p} {f = f} M N so h t k =
    record { goes = λ b. first b (p b).0 (p b).1 (h.goes b) (t.answers b) }
  where
    second : (b b' : Builder) (a : A) → Went b.stored b'.stored → L b.stored a → (o : Checked B) (c : Builder) → Goes (M a) b' o c
        → Goes N b o c
    second b b' a x l (Ok e) c y = (went_trans _ _ _ x y.0, so _ _ a e x l y.1)
    second b b' a x l (Err e) c y = went_trans _ _ _ x y

    first : (b : Builder) (o : Checked A) (c : Builder) → Goes L b o c → AnsweredTo P o → Goes N b (go_on o c f).0 (go_on o c f).1
    first b (Ok a) c x is = second b c a x.0 x.1 (f a c).0 (f a c).1 ((k a is).goes c)
    first b (Err e) c x is = x

pub in_turn : {A B : Type 0} {L : Low A} {p : Lowering A} {f : A → Lowering B} (M : A → Low B) (N : Low B)
    → ((s t : Stored) (a : A) (x : B) → Went s t → L s a → M a t x → N s x)
    → Leading L p → ((a : A) → Leading (M a) (f a)) → Leading N (p >>= f)
in_turn {p = p} M N so h k = iteration_where M N so h (answering_any p) (λ a u. k a)

pub then_where : {A B : Type 0} {P : A → Type 0} {L : Low A} {p : Lowering A} {f : A → Lowering B} → Leading L p → Answering P p
    → ((a : A) → P a → Leading any (f a)) → Leading any (p >>= f)
then_where h t k = iteration_where (λ a. any) any (λ s t a x w l y. tt) h t k

pub then' : {A B : Type 0} {L : Low A} {p : Lowering A} {f : A → Lowering B} → Leading L p
    → ((a : A) → Leading any (f a)) → Leading any (p >>= f)
then' {p = p} h k = then_where h (answering_any p) (λ a u. k a)

-- and what it answers came since
pub makes_where : {A : Type 0} {P : A → Type 0} {L : Low A} {p : Lowering A} {f : A → Lowering ExprId} → Leading L p → Answering P p
    → ((a : A) → P a → Leading since (f a)) → Leading since (p >>= f)
makes_where h t k = iteration_where (λ a. since) since (λ s t a x w l y. let grown = w.exprs.grown in omega (arith, grown, y)) h t k

pub makes : {A : Type 0} {L : Low A} {p : Lowering A} {f : A → Lowering ExprId} → Leading L p
    → ((a : A) → Leading since (f a)) → Leading since (p >>= f)
makes {p = p} h k = makes_where h (answering_any p) (λ a u. k a)

pub makes_pat : {A : Type 0} {P : A → Type 0} {L : Low A} {p : Lowering A} {f : A → Lowering PatId} → Leading L p → Answering P p
    → ((a : A) → P a → Leading new_pat (f a)) → Leading new_pat (p >>= f)
makes_pat h t k = iteration_where (λ a. new_pat) new_pat (λ s t a x w l y. let grown = w.pats.grown in omega (arith, grown, y)) h t k

pub makes_type : {A : Type 0} {L : Low A} {p : Lowering A} {f : A → Lowering TypeRefId} → Leading L p
    → ((a : A) → Leading new_type (f a)) → Leading new_type (p >>= f)
makes_type h k = in_turn (λ a. new_type) new_type (λ s t a x w l y. let grown = w.types.grown in omega (arith, grown, y)) h k

-- what is said less of the answer
pub weaker : {A : Type 0} {L M : Low A} {p : Lowering A} → ((s : Stored) (a : A) → L s a → M s a) → Leading L p → Leading M p
weaker {A = A} {L = L} {M = M} {p = p} less h = record { goes = λ b. by b (p b).0 (p b).1 (h.goes b) }
  where
    by : (b : Builder) (o : Checked A) (c : Builder) → Goes L b o c → Goes M b o c
    by b (Ok a) c x = (x.0, less b.stored a x.1)
    by b (Err e) c x = x

pub anyway : {A : Type 0} {L : Low A} {p : Lowering A} → Leading L p → Leading any p
anyway h = weaker (λ s a l. tt) h

-- steps of three kinds, by what they store

-- one that leaves the arenas as they were
pub leading_aside : {A : Type 0} {p : Lowering A} → ((b : Builder) → arenas (p b).1.stored ≡ arenas b.stored) → Leading any p
leading_aside {A = A} {p = p} same = record { goes = λ b. by b (p b).0 (p b).1 (went_same _ _ (same b)) }
  where
    by : (b : Builder) (o : Checked A) (c : Builder) → Went b.stored c.stored → Goes any b o c
    by b (Ok a) c w = (w, tt)
    by b (Err e) c w = w

pub leading_pure : {A : Type 0} (a : A) → Leading any (pure a)
leading_pure a = leading_aside (λ b. refl)

-- one that adds an entry to an arena where there is room, and answers its number
module _ {T I : Type 0} (arena : Stored → T) (put : Stored → T → Stored) (has_room : T → Bool) (number : T → I) (more : T → T) where
  abbrev added : Bool → T → Checked I × T
  added room a = if room then (Ok (number a), more a) else (Err Full, a)

  pub leading_added : {L : Low I} → ((s : Stored) → Went s (put s (more (arena s))) × L s (number (arena s)))
      → ((s : Stored) → Went s (put s (arena s)))
      → Leading L (stored (λ s. ((added (has_room (arena s)) (arena s)).0, put s (added (has_room (arena s)) (arena s)).1)))
  leading_added {L = L} new same = record { goes = λ b. by b (has_room (arena b.stored)) }
    where
      by : (b : Builder) (room : Bool)
          → Goes L b (added room (arena b.stored)).0 (record b { stored = put b.stored (added room (arena b.stored)).1 })
      by b true = new b.stored
      by b false = same b.stored

-- one behind which the builder changes, and which answers what it answers
abbrev pub changing : (Builder → Builder) → Lowering (Unit {0})
changing f = λ b. (Ok tt, f b)

pub leading_changing : {A : Type 0} {L : Low A} {p : Lowering A} (change : A → Builder → Builder)
    → ((s : Stored) (a : A) (c : Builder) → Went s c.stored → L s a → Went s (change a c).stored)
    → Leading L p → Leading L (p >>= (λ a. changing (change a) >>= (λ _. pure a)))
leading_changing {A = A} {L = L} {p = p} change went h = record { goes = λ b. by b (p b).0 (p b).1 (h.goes b) }
  where
    by : (b : Builder) (o : Checked A) (c : Builder) → Goes L b o c
        → let r = go_on o c (λ a. changing (change a) >>= (λ _. pure a)) in Goes L b r.0 r.1
    by b (Ok a) c x = (went b.stored a c x.0 x.1, x.1)
    by b (Err e) c x = x
