-- Steps by what they note: the logic.
use Rattle.std.proofs.Common.{◌≡◌, ◌∙◌, refl, sym, ap, subst, ℕ, suc, ◌+◌, arith, length, length-append, List, [], ◌∷◌, ◌++◌}
use Rattle.std.proofs.Common.{append-nil, append_assoc, Option, Some, None, Ok, Err}
use Rattle.hir_store.specs.Stored.{Stored}
use Rattle.hir_store.specs.StoreSink.{Extends, StoreSink}
use Rattle.hir_store.specs.declared.generics.WherePredicate.{WherePredicate}
use Rattle.hir_store.proofs.Extending.{extends_refl, extends_trans}
use Rattle.hir_lower_scope.proofs.NameLists.{with_twice}
use Rattle.hir_lower_builder.specs.Builder.{Builder}
use Rattle.hir_lower_builder.specs.Generics.{predicates_of, unnamed_param}
use Rattle.hir_lower_builder.specs.Lowering.{Checked, go_on, Lowering, ◌>>=◌, pure, stored}
use Rattle.thm_logic.specs.Keeps.{Paired}
use Rattle.thm_logic.proofs.Formals.{found_stays}
use Rattle.thm_logic.proofs.Frames.{Frame, frames, ribs_frames}
use Rattle.thm_logic.proofs.Logic.{Rel, Holds, Correct}
use Rattle.spec_data.specs.Tracking.{Impl, Tracking, none, ◌⊕◌}
use Rattle.thm_generics.specs.Lists.{Fits, Tracked, unnamed_params}

-- one after another

unnamed_append : (is js : List Impl) → unnamed_params (is ++ js) ≡ unnamed_params is ++ unnamed_params js
unnamed_append [] js = refl
unnamed_append (i ∷ is) js = ap (λ xs. unnamed_param ∷ xs) (unnamed_append is js)

length_unnamed : (is : List Impl) → length (unnamed_params is) ≡ length is
length_unnamed [] = refl
length_unnamed (i ∷ is) = ap suc (length_unnamed is)

fits_stays : (is : List Impl) (ps : List WherePredicate) (k : ℕ) {s t : Stored} → Extends s t → Fits ps k is s → Fits ps k is t
fits_stays [] ps k e f = f
fits_stays (i ∷ is) ps k e f = record {
  target = f.target;
  bounds = f.bounds;
  others = f.others;
  are = f.are;
  read = λ final x. f.read final (extends_trans e x);
  corresponds = found_stays e.types.entries f.target.0 _ f.corresponds;
  from = found_stays e.types.sources f.target.0 _ f.from;
  rest_fits = fits_stays is f.others (suc k) e f.rest_fits;
}

fits_append : (is js : List Impl) (ps qs : List WherePredicate) (k l : ℕ) (s : Stored) → l ≡ k + length is → Fits ps k is s → Fits qs l js s
    → Fits (ps ++ qs) k (is ++ js) s
fits_append [] js ps qs k l s e f g =
    let at_k : l ≡ k = omega (arith, e) in
    subst (λ xs. Fits (xs ++ qs) k js s) (sym f) (subst (λ x. Fits qs x js s) at_k g)
fits_append (i ∷ is) js ps qs k l s e f g = record {
  target = f.target;
  bounds = f.bounds;
  others = f.others ++ qs;
  are = ap (λ xs. xs ++ qs) f.are ∙ append_assoc (predicates_of f.target f.bounds) f.others qs;
  read = f.read;
  corresponds = f.corresponds;
  from = f.from;
  rest_fits = fits_append is js f.others qs (suc k) l s (omega (arith, e)) f.rest_fits g;
}

-- a list that goes on twice
twice : {A : Type 0} (xs : List A) {ys zs : List A} (a b : List A) → ys ≡ xs ++ a → zs ≡ ys ++ b → zs ≡ xs ++ (a ++ b)
twice xs a b e f = f ∙ (ap (λ t. t ++ b) e ∙ append_assoc xs a b)

pub tracked_both : {m n : Tracking} {b c d : Builder} → Tracked m b c → Tracked n c d → Tracked (m ⊕ n) b d
tracked_both {m = m} {n = n} {b = b} {c = c} {d = d} g h =
    let first = length b.tracks.generics.type_or_consts in
    let then = length c.tracks.generics.type_or_consts in
    let at : then ≡ first + length m.impls = ap length g.params
    ∙ (length-append b.tracks.generics.type_or_consts (unnamed_params m.impls) ∙ ap (λ k. first + k) (length_unnamed m.impls)) in record {
      paired = λ p. h.paired (g.paired p);
      stays = extends_trans g.stays h.stays;
      params = twice b.tracks.generics.type_or_consts (unnamed_params m.impls) (unnamed_params n.impls) g.params h.params
          ∙ ap (λ xs. b.tracks.generics.type_or_consts ++ xs) (sym (unnamed_append m.impls n.impls));
      lifetimes = h.lifetimes ∙ g.lifetimes;
      added = g.added ++ h.added;
      predicates = twice b.tracks.generics.where_predicates g.added h.added g.predicates h.predicates;
      fits = fits_append m.impls n.impls g.added h.added first then d.stored at
          (fits_stays m.impls g.added first h.stays g.fits) h.fits;
      bounds = with_twice b.tracks.named.where_clause m.bounds n.bounds g.bounds h.bounds;
      input = with_twice b.tracks.named.constrained_by_input m.input n.input g.input h.input;
      output = with_twice b.tracks.named.output m.output n.output g.output h.output;
      scope = h.scope ∙ g.scope;
    }

-- what is noted stays
pub tracked_none : {b c : Builder} → (Paired b.stored → Paired c.stored) → Extends b.stored c.stored → c.tracks ≡ b.tracks
    → Tracked none b c
tracked_none {b = b} pairs e h = record {
  paired = pairs;
  stays = e;
  params = ap (λ n. n.generics.type_or_consts) h ∙ sym (append-nil b.tracks.generics.type_or_consts);
  lifetimes = ap (λ n. n.generics.lifetimes) h;
  added = [];
  predicates = ap (λ n. n.generics.where_predicates) h ∙ sym (append-nil b.tracks.generics.where_predicates);
  fits = refl;
  bounds = ap (λ n. n.named.where_clause) h;
  input = ap (λ n. n.named.constrained_by_input) h;
  output = ap (λ n. n.named.output) h;
  scope = ap (λ n. n.named.scope) h;
}

pub behind_none : (n : Tracking) → (n ⊕ none) ≡ n
behind_none n = λ j. record {
  impls = append-nil n.impls j;
  bounds = append-nil n.bounds j;
  input = append-nil n.input j;
  output = append-nil n.output j;
}

pub both_assoc : (a b c : Tracking) → ((a ⊕ b) ⊕ c) ≡ (a ⊕ (b ⊕ c))
both_assoc a b c = λ j. record {
  impls = append_assoc a.impls b.impls c.impls j;
  bounds = append_assoc a.bounds b.bounds c.bounds j;
  input = append_assoc a.input b.input c.input j;
  output = append_assoc a.output b.output c.output j;
}

-- steps

abbrev pub TracksTo : {A : Type 0} → Tracking → Builder → Checked A → Builder → Type 0
TracksTo n b (Ok a) c = Paired c.stored × Tracked n b c
TracksTo n b (Err e) c = Unit {0}

-- from a store in which each entry has its source: where it answers it notes this
pub record SideOutput {A : Type 0} (n : Tracking) (p : Lowering A) : Type 0 where
  pub at : (b : Builder) → Paired b.stored → TracksTo n b (p b).0 (p b).1

pub tracks_to_both : {A : Type 0} {m : Tracking} (n : Tracking) (b c : Builder) → Tracked m b c → (o : Checked A) (d : Builder)
    → TracksTo n c o d
    → TracksTo (m ⊕ n) b o d
tracks_to_both n b c g (Ok a) d h = (h.0, tracked_both g h.1)
tracks_to_both n b c g (Err e) d h = tt

pub tracks_then : {A B : Type 0} {m n : Tracking} {p : Lowering A} {f : A → Lowering B} → SideOutput m p → ((a : A) → SideOutput n (f a))
    → SideOutput (m ⊕ n) (p >>= f)
tracks_then {A = A} {m = m} {n = n} {p = p} {f = f} h k = record { at = λ b d. by b (p b).0 (p b).1 (h.at b d) }
  where
    by : (b : Builder) (o : Checked A) (c : Builder) → TracksTo m b o c → TracksTo (m ⊕ n) b (go_on o c f).0 (go_on o c f).1
    by b (Ok a) c x = tracks_to_both n b c x.1 (f a c).0 (f a c).1 ((k a).at c x.0)
    by b (Err e) c x = tt

-- where what the second is depends on what the first answers
pub tracks_by : {A B : Type 0} {m : Tracking} (n : Tracking) {p : Lowering A} (f : A → Lowering B) → SideOutput m p
    → ((b : Builder) (a : A) (c : Builder) → Paired b.stored → Paired c.stored → p b ≡ (Ok a, c) → TracksTo n c (f a c).0 (f a c).1)
    → SideOutput (m ⊕ n) (p >>= f)
tracks_by {A = A} {m = m} n {p = p} f h k = record { at = λ b d. by b d (p b).0 (p b).1 refl (h.at b d) }
  where
    by : (b : Builder) → Paired b.stored → (o : Checked A) (c : Builder) → p b ≡ (o, c) → TracksTo m b o c
        → TracksTo (m ⊕ n) b (go_on o c f).0 (go_on o c f).1
    by b d (Ok a) c is x = tracks_to_both n b c x.1 (f a c).0 (f a c).1 (k b a c d x.0 is)
    by b d (Err e) c is x = tt

-- the same, otherwise told
pub tracks_as : {A : Type 0} {m n : Tracking} {p : Lowering A} → m ≡ n → SideOutput m p → SideOutput n p
tracks_as {p = p} e h = subst (λ n. SideOutput n p) e h

-- nothing is noted in the first, or in the second
pub tracks_begin : {A B : Type 0} {n : Tracking} {p : Lowering A} {f : A → Lowering B} → SideOutput none p → ((a : A) → SideOutput n (f a))
    → SideOutput n (p >>= f)
tracks_begin h k = tracks_then h k

pub tracks_end : {A B : Type 0} {n : Tracking} {p : Lowering A} {f : A → Lowering B} → SideOutput n p → ((a : A) → SideOutput none (f a))
    → SideOutput n (p >>= f)
tracks_end {n = n} h k = tracks_as (behind_none n) (tracks_then h k)

pub tracks_pure : {A : Type 0} (a : A) → SideOutput none (pure a)
tracks_pure a = record { at = λ b d. (d, tracked_none (λ p. p) (extends_refl b.stored) refl) }

-- where something is there
abbrev pub if_there : {A : Type 0} → Option A → Tracking → Tracking
if_there None n = none
if_there (Some a) n = n

-- steps in which nothing is noted

abbrev pub LeavesTo : {A : Type 0} → Builder → Checked A → Builder → Type 0
LeavesTo b (Ok a) c = c.tracks ≡ b.tracks
LeavesTo b (Err e) c = Unit {0}

pub record Quiet {A : Type 0} (p : Lowering A) : Type 0 where
  pub quiet : (b : Builder) → LeavesTo b (p b).0 (p b).1

pub quiet_stored : {A : Type 0} (p : StoreSink A) → Quiet (stored p)
quiet_stored {A = A} p = record { quiet = λ b. by b (p b.stored).0 }
  where
    by : (b : Builder) (o : Checked A) → LeavesTo b o (record b { stored = (p b.stored).1 })
    by b (Ok a) = refl
    by b (Err e) = tt

pub quiet_pure : {A : Type 0} (a : A) → Quiet (pure a)
quiet_pure a = record { quiet = λ b. refl }

quiet_trans : {A : Type 0} (b c : Builder) → c.tracks ≡ b.tracks → (o : Checked A) (d : Builder) → LeavesTo c o d → LeavesTo b o d
quiet_trans b c g (Ok a) d h = h ∙ g
quiet_trans b c g (Err e) d h = tt

pub quiet_then : {A B : Type 0} {p : Lowering A} {f : A → Lowering B} → Quiet p → ((a : A) → Quiet (f a)) → Quiet (p >>= f)
quiet_then {A = A} {p = p} {f = f} h k = record { quiet = λ b. by b (p b).0 (p b).1 (h.quiet b) }
  where
    by : (b : Builder) (o : Checked A) (c : Builder) → LeavesTo b o c → LeavesTo b (go_on o c f).0 (go_on o c f).1
    by b (Ok a) c x = quiet_trans b c x (f a c).0 (f a c).1 ((k a).quiet c)
    by b (Err e) c x = tt

-- a step of which something is so keeps the pairs and what is stored
quiet_to : {A : Type 0} (R : Rel A) (final : Stored) (ps : List Frame) (b : Builder) (o : Checked A) (c : Builder) → Holds R final ps b o c
    → LeavesTo b o c → Paired b.stored → TracksTo none b o c
quiet_to R final ps b (Ok a) c h e d = (h.kept.paired d, tracked_none h.kept.paired h.kept.stays e)
quiet_to R final ps b (Err e) c h u d = tt

pub tracks_quiet : {A : Type 0} {p : Lowering A} {R : Rel A} → Correct p R → Quiet p → SideOutput none p
tracks_quiet {p = p} {R = R} h q = record {
  at = λ b d. let ps = frames b.scopes in
      quiet_to R b.stored ps b (p b).0 (p b).1 (h.holds b.stored ps b (ribs_frames b.scopes)) (q.quiet b) d;
}

-- what only stores
pub tracks_stored : {A : Type 0} (p : StoreSink A) {R : Rel A} → Correct (stored p) R → SideOutput none (stored p)
tracks_stored p h = tracks_quiet h (quiet_stored p)

-- what it comes to
pub tracked_by : {A : Type 0} {n : Tracking} {p : Lowering A} → SideOutput n p → (b c : Builder) (a : A) → Paired b.stored → p b ≡ (Ok a, c)
    → Tracked n b c
tracked_by {n = n} h b c a d is = (subst (λ r. TracksTo n b r.0 r.1) is (h.at b d)).1
