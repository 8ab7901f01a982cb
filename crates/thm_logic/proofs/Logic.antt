-- What steps bring about in a final store: the logic.
use Rattle.std.proofs.Common.{◌≡◌, ℕ, ◌+◌, ◌<◌, ◌≤◌, slice_get, List, []}
use Rattle.std.proofs.Common.{◌∷◌, ◌++◌, length, Some, Ok, Err, refl, sym, ap, ◌∙◌, arith, length-append}
use Rattle.std.proofs.Common.{append_assoc}
use Rattle.std.proofs.lemmas.Option.{slice_get-get_or}
use Rattle.std.proofs.Math.Seq.{get_or-append_seam}
use Rattle.hir_store.specs.Arenas.{Prefix}
use Rattle.hir_store.specs.Stored.{Stored}
use Rattle.hir_store.specs.StoreSink.{Extends}
use Rattle.hir_store.proofs.Extending.{extends_refl, extends_trans}
use Rattle.hir_lower_builder.specs.Builder.{Builder}
use Rattle.hir_lower_builder.specs.Lowering.{Checked, go_on, Lowering, ◌>>=◌, pure}
use Rattle.thm_logic.specs.Keeps.{Paired, KeepsAll}
use Rattle.thm_logic.proofs.Frames.{Frame, ribs}

-- how far it has come: how many there are of each kind, how many types and patterns together, how many names are
-- made up, and all that is stored
pub record Mark : Type 0 where
  pub nodes : ℕ
  pub labels : ℕ
  pub pats : ℕ
  pub bindings : ℕ
  pub types : ℕ
  pub lifetimes : ℕ
  pub entries : ℕ
  pub names : ℕ
  pub stored : Stored

abbrev pub mark : Builder → Mark
mark b = record {
  nodes = length b.stored.exprs.entries;
  labels = length b.stored.labels.entries;
  pats = length b.stored.pats.entries;
  bindings = length b.stored.bindings.entries;
  types = length b.stored.types.entries;
  lifetimes = length b.stored.lifetimes.entries;
  entries = length b.stored.types.entries + length b.stored.pats.entries;
  names = b.names;
  stored = b.stored;
}

pub record Grows (m m' : Mark) : Type 0 where
  pub nodes : m.nodes ≤ m'.nodes
  pub labels : m.labels ≤ m'.labels
  pub pats : m.pats ≤ m'.pats
  pub bindings : m.bindings ≤ m'.bindings
  pub types : m.types ≤ m'.types
  pub lifetimes : m.lifetimes ≤ m'.lifetimes
  pub entries : m.entries ≤ m'.entries
  pub names : m.names ≤ m'.names

-- of a final store, the frames around, the marks before and after, and what was answered
abbrev pub Rel : Type 0 → Type 1
Rel A = Stored → List Frame → Mark → Mark → A → Type 0

pub record Answers {A : Type 0} (R : Rel A) (final : Stored) (ps : List Frame) (b b' : Builder) (a : A) : Type 0 where
  pub kept : KeepsAll b b'
  pub grows : Grows (mark b) (mark b')
  pub in_final : Paired b.stored → Extends b'.stored final → R final ps (mark b) (mark b') a

abbrev pub Holds : {A : Type 0} → Rel A → Stored → List Frame → Builder → Checked A → Builder → Type 0
Holds R final ps b (Ok a) b' = Answers R final ps b b' a
Holds R final ps b (Err e) b' = Extends b.stored b'.stored

-- Wherever p answers, what it answers is so in each store that begins with what was stored. Nothing is lost, where it is refused too.
pub record Correct {A : Type 0} (p : Lowering A) (R : Rel A) : Type 0 where
  pub holds : (final : Stored) (ps : List Frame) (b : Builder) → b.scopes ≡ ribs ps → Holds R final ps b (p b).0 (p b).1

-- one after another
pub record Seq {A B : Type 0} (R : Rel A) (Q : A → Rel B) (final : Stored) (ps : List Frame) (m m' : Mark) (b : B) : Type 0 where
  pub middle : Mark
  pub one : A
  pub before : Grows m middle
  pub after : Grows middle m'
  pub first : R final ps m middle one
  pub second : Q one final ps middle m' b

pub grows_trans : {m m' m'' : Mark} → Grows m m' → Grows m' m'' → Grows m m''
grows_trans g h = record {
  nodes = omega arith;
  labels = omega arith;
  pats = omega arith;
  bindings = omega arith;
  types = omega arith;
  lifetimes = omega arith;
  entries = omega arith;
  names = omega arith;
}

pub grows_refl : (m : Mark) → Grows m m
grows_refl m = record {
  nodes = omega arith;
  labels = omega arith;
  pats = omega arith;
  bindings = omega arith;
  types = omega arith;
  lifetimes = omega arith;
  entries = omega arith;
  names = omega arith;
}

-- what is counted
abbrev pub Counts : Type 0
Counts = ℕ × ℕ × ℕ × ℕ × ℕ × ℕ × ℕ × ℕ

abbrev pub counts : Mark → Counts
counts m = (m.nodes, m.labels, m.pats, m.bindings, m.types, m.lifetimes, m.entries, m.names)

-- nothing that is counted is stored
pub grows_still : (m m' : Mark) → counts m' ≡ counts m → Grows m m'
grows_still m m' e =
    let nodes = ap (λ c. c.0) e in
    let labels = ap (λ c. c.1) e in
    let pats = ap (λ c. c.2) e in
    let bindings = ap (λ c. c.3) e in
    let types = ap (λ c. c.4) e in
    let lifetimes = ap (λ c. c.5) e in
    let entries = ap (λ c. c.6) e in
    let names = ap (λ c. c.7) e in record {
      nodes = omega (arith, nodes);
      labels = omega (arith, labels);
      pats = omega (arith, pats);
      bindings = omega (arith, bindings);
      types = omega (arith, types);
      lifetimes = omega (arith, lifetimes);
      entries = omega (arith, entries);
      names = omega (arith, names);
    }

pub kept_still : (b : Builder) → KeepsAll b b
kept_still b = record {
  scopes = refl;
  in_root = refl;
  roots = λ t. refl;
  paired = λ d. d;
  mapped = λ d w. w;
  stays = extends_refl b.stored;
}

pub kept_trans : {a b c : Builder} → KeepsAll a b → KeepsAll b c → KeepsAll a c
kept_trans g h = record {
  scopes = h.scopes ∙ g.scopes;
  in_root = h.in_root ∙ g.in_root;
  roots = λ t. h.roots (g.in_root ∙ t) ∙ g.roots t;
  paired = λ d. h.paired (g.paired d);
  mapped = λ d w. h.mapped (g.paired d) (g.mapped d w);
  stays = extends_trans g.stays h.stays;
}

pub correct_bind : {A B : Type 0} {p : Lowering A} {R : Rel A} {f : A → Lowering B} {Q : A → Rel B} → Correct p R
    → ((a : A) → Correct (f a) (Q a)) → Correct (p >>= f) (Seq R Q)
correct_bind {A = A} {B = B} {p = p} {R = R} {f = f} {Q = Q} h k =
    record { holds = λ final ps b r. first final ps b r (p b).0 (p b).1 (h.holds final ps b r) }
  where
    second : (final : Stored) (ps : List Frame) (b b' : Builder) (a : A) → Answers R final ps b b' a → (o : Checked B) (c : Builder)
        → Holds (Q a) final ps b' o c → Holds (Seq R Q) final ps b o c
    second final ps b b' a x (Ok e) c y = record {
      kept = kept_trans x.kept y.kept;
      grows = grows_trans x.grows y.grows;
      in_final = λ d pre. record {
        middle = mark b';
        one = a;
        before = x.grows;
        after = y.grows;
        first = x.in_final d (extends_trans y.kept.stays pre);
        second = y.in_final (x.kept.paired d) pre;
      };
    }
    second final ps b b' a x (Err e) c y = extends_trans x.kept.stays y

    first : (final : Stored) (ps : List Frame) (b : Builder) → b.scopes ≡ ribs ps → (o : Checked A) (c : Builder)
        → Holds R final ps b o c → Holds (Seq R Q) final ps b (go_on o c f).0 (go_on o c f).1
    first final ps b r (Ok a) c x = second final ps b c a x (f a c).0 (f a c).1 ((k a).holds final ps c (x.kept.scopes ∙ r))
    first final ps b r (Err e) c x = x

-- less of what is so
pub correct_as : {A : Type 0} {p : Lowering A} {R Q : Rel A} → Correct p R
    → ((final : Stored) (ps : List Frame) (m m' : Mark) (a : A) → Grows m m' → R final ps m m' a → Q final ps m m' a) → Correct p Q
correct_as {A = A} {p = p} {R = R} {Q = Q} h less = record { holds = λ final ps b r. go final ps b (p b).0 (p b).1 (h.holds final ps b r) }
  where
    go : (final : Stored) (ps : List Frame) (b : Builder) (o : Checked A) (c : Builder) → Holds R final ps b o c → Holds Q final ps b o c
    go final ps b (Ok a) c y = record {
      kept = y.kept;
      grows = y.grows;
      in_final = λ d pre. less final ps (mark b) (mark c) a y.grows (y.in_final d pre);
    }
    go final ps b (Err e) c y = y

-- both of one lowering
pub record Both {A : Type 0} (R Q : Rel A) (final : Stored) (ps : List Frame) (m m' : Mark) (a : A) : Type 0 where
  pub one : R final ps m m' a
  pub other : Q final ps m m' a

pub correct_both : {A : Type 0} {p : Lowering A} {R Q : Rel A} → Correct p R → Correct p Q → Correct p (Both R Q)
correct_both {A = A} {p = p} {R = R} {Q = Q} h k =
    record { holds = λ final ps b r. go final ps b (p b).0 (p b).1 (h.holds final ps b r) (k.holds final ps b r) }
  where
    go : (final : Stored) (ps : List Frame) (b : Builder) (o : Checked A) (c : Builder) → Holds R final ps b o c
        → Holds Q final ps b o c → Holds (Both R Q) final ps b o c
    go final ps b (Ok a) c y z = record {
      kept = y.kept;
      grows = y.grows;
      in_final = λ d pre. record { one = y.in_final d pre; other = z.in_final d pre };
    }
    go final ps b (Err e) c y z = y

pub longer : {A : Type 0} {xs ys : List A} → Prefix xs ys → length xs ≤ length ys
longer {xs = xs} p = let e = ap length p.is in let n = length-append xs p.more in omega arith

-- what is stored by then is in the final store
pub record InStore {A : Type 0} (R : Rel A) (final : Stored) (ps : List Frame) (m m' : Mark) (a : A) : Type 0 where
  pub rel : R final ps m m' a
  pub nodes : m'.nodes ≤ length final.exprs.entries
  pub labels : m'.labels ≤ length final.labels.entries
  pub pats : m'.pats ≤ length final.pats.entries
  pub types : m'.types ≤ length final.types.entries
  pub lifetimes : m'.lifetimes ≤ length final.lifetimes.entries
  pub entries : m'.entries ≤ length final.types.entries + length final.pats.entries

pub correct_in_store : {A : Type 0} {p : Lowering A} {R : Rel A} → Correct p R → Correct p (InStore R)
correct_in_store {A = A} {p = p} {R = R} h = record { holds = λ final ps b r. go final ps b (p b).0 (p b).1 (h.holds final ps b r) }
  where
    go : (final : Stored) (ps : List Frame) (b : Builder) (o : Checked A) (c : Builder) → Holds R final ps b o c
        → Holds (InStore R) final ps b o c
    go final ps b (Ok a) c y = record {
      kept = y.kept;
      grows = y.grows;
      in_final = λ d pre.
          let types = longer pre.types.entries in
          let pats = longer pre.pats.entries in record {
            rel = y.in_final d pre;
            nodes = longer pre.exprs.entries;
            labels = longer pre.labels.entries;
            pats = pats;
            types = types;
            lifetimes = longer pre.lifetimes.entries;
            entries = omega (arith, types, pats);
          };
    }
    go final ps b (Err e) c y = y

-- steps that store no expression

pub record IsPure {A : Type 0} (a : A) (final : Stored) (ps : List Frame) (m m' : Mark) (b : A) : Type 0 where
  pub is : b ≡ a
  pub still : m' ≡ m

pub correct_pure : {A : Type 0} (a : A) → Correct (pure a) (IsPure a)
correct_pure a = record {
  holds = λ final ps b r. record {
    kept = kept_still b;
    grows = grows_refl (mark b);
    in_final = λ d pre. record { is = refl; still = refl };
  };
}

-- lists with one item more

at_end : {A : Type 0} (xs : List A) (x : A) (more : List A) → slice_get ((xs ++ x ∷ []) ++ more) (length xs) ≡ Some x
at_end xs x more =
    let e : (xs ++ x ∷ []) ++ more ≡ xs ++ x ∷ more = append_assoc xs (x ∷ []) more in
    let n = length-append xs (x ∷ more) in
    let lt : length xs < length (xs ++ x ∷ more) = omega arith in
    rw e (slice_get-get_or (xs ++ x ∷ more) (length xs) x lt ∙ ap Some (get_or-append_seam xs x more x))

pub in_prefix : {A : Type 0} (xs : List A) (x : A) {final : List A} (n : ℕ) → n ≡ length xs → Prefix (xs ++ x ∷ []) final
    → slice_get final n ≡ Some x
in_prefix xs x {final = final} n e p =
    ap (λ f. slice_get f n) p.is ∙ (ap (λ k. slice_get ((xs ++ x ∷ []) ++ p.more) k) e ∙ at_end xs x p.more)

pub one_more : {A B : Type 0} (xs : List A) (x : A) (ys : List B) (y : B) → length ys ≡ length xs
    → length (ys ++ y ∷ []) ≡ length (xs ++ x ∷ [])
one_more xs x ys y e = length-append ys (y ∷ []) ∙ ap (λ n. n + 1) e ∙ sym (length-append xs (x ∷ []))
