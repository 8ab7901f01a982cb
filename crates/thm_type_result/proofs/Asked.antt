-- Steps by what their answers name, beside what is stored and what is asked: a predicate that is noted names the types of its bound, as
-- one does that an `impl` became.
use Rattle.std.proofs.Common.{◌≡◌, ◌∙◌, refl, ap, subst, arith, ℕ, ◌+◌, ◌≤◌, List, [], ◌∷◌, ◌++◌, append-nil, length, Option}
use Rattle.std.proofs.Common.{Ok, Err}
use Rattle.std.proofs.lemmas.List.{length-map}
use Rattle.hir_lower_scope.specs.Each.{Each}
use Rattle.thm_semantics.specs.Reached.{Between}
use Rattle.hir_store.specs.Pointers.{Pointer}
use Rattle.hir_store.specs.Bindings.{without_problem}
use Rattle.hir_store.specs.Stored.{Stored}
use Rattle.hir_store.specs.StoreSink.{Extends}
use Rattle.hir_store.specs.declared.generics.WherePredicate.{WherePredicate}
use Rattle.hir_store.specs.declared.generics.WherePredicate.TheVariants as predicate
use Rattle.hir_store.specs.declared.hir.Expr.{Expr as HirExpr}
use Rattle.hir_store.specs.declared.ids.PatId.{PatId}
use Rattle.hir_store.specs.declared.pat.Pat.{Pat as HirPat}
use Rattle.hir_store.specs.declared.type_ref.LifetimeRef.{LifetimeRef}
use Rattle.hir_store.specs.declared.type_ref.TypeRef.{TypeRef}
use Rattle.hir_store.proofs.Extending.{extends_refl, extends_trans}
use Rattle.hir_lower_builder.specs.declared.generics.SideOutput.{SideOutput as Tracked}
use Rattle.hir_lower_builder.specs.Builder.{Builder}
use Rattle.hir_lower_builder.specs.Lowering.{Checked, go_on, Lowering, ◌>>=◌, pure, alloc_expr, alloc_lifetime, alloc_desugared}
use Rattle.hir_lower_builder.specs.Lowering.{alloc_desugared_pat}
use Rattle.hir_lower_builder.specs.Lowering.{alloc_pat, alloc_type, count_out, track_down}
use Rattle.hir_lower_builder.specs.Preludes.{alloc_beside}
use Rattle.thm_logic.specs.Keeps.{Paired}
use Rattle.thm_logic.proofs.Frames.{frames, ribs_frames}
use Rattle.thm_logic.proofs.Logic.{longer as no_shorter}
use Rattle.thm_logic.proofs.Steps.{Holds, Rel as PlainRel, mark, Correct as CorrectOf}
use Rattle.spec_data.specs.Tracking.{Impl, Tracking, none as nothing}
use Rattle.thm_generics.specs.Lists.{Fits}
use Rattle.thm_generics.proofs.Logic.{SideOutput, TracksTo, tracks_pure}
use Rattle.thm_generics.proofs.Preludes.{tracks_beside}
use Rattle.thm_generics.proofs.Steps.{tracks_expr, tracks_made, tracks_made_pat, tracks_pat, tracks_type}
use Rattle.thm_generics.proofs.TypeForms.{tracks_lifetime}
use Rattle.thm_type_result.specs.Reached.{below, of_bound, of_each}
use Rattle.thm_type_result.specs.Named.{Look, of_bindings_alone, of_expr, of_exprs, of_pat, of_pats}
use Rattle.thm_type_result.specs.Pats.{of_type, of_types}
use Rattle.thm_type_result.proofs.Counted.{times, less, ◌⊑◌, times_append}
use Rattle.thm_type_result.proofs.Adding as plain
use Rattle.thm_type_result.proofs.Adding.{Bound, Numbers, Sort, chosen, the_types, the_pats, both, fewer, known, look, made_then, named}
use Rattle.thm_type_result.proofs.Adding.{none, none_made, each_wider}

-- what is asked

abbrev pub asked_by : Look → WherePredicate → List ℕ
asked_by l (predicate.TypeBound binder t b) = of_bound l.types b
asked_by l (predicate.Lifetime x y) = []

abbrev pub asked : Look → Builder → List ℕ
asked l b = of_each (asked_by l) b.tracks.generics.where_predicates

-- what a builder holds and was asked names a number so often
abbrev pub owed : Sort → Stored → ℕ → ℕ → Builder → ℕ
owed s final all k b =
    named s final all b.stored k + times k (asked (look s final all) b)

-- what is so of two builders and what was answered, in each store that goes on

abbrev pub Rel : Type 0 → Type 1
Rel A = Stored → Builder → Builder → A → Type 0

-- no less is stored
pub record Longer (b c : Builder) : Type 0 where
  pub exprs : length b.stored.exprs.entries ≤ length c.stored.exprs.entries
  pub types : length b.stored.types.entries ≤ length c.stored.types.entries
  pub pats : length b.stored.pats.entries ≤ length c.stored.pats.entries
  pub bindings : length b.stored.bindings.entries ≤ length c.stored.bindings.entries

pub longer_of : {b c : Builder} → Extends b.stored c.stored → Longer b c
longer_of {b = b} {c = c} e = record {
  exprs = no_shorter e.exprs.entries;
  types = no_shorter e.types.entries;
  pats = no_shorter e.pats.entries;
  bindings =
      let l = no_shorter e.bindings.entries in
      let x = length-map b.stored.bindings.entries without_problem in
      let y = length-map c.stored.bindings.entries without_problem in omega (arith, l, x, y);
}

pub longer : (s : Sort) {b c : Builder} → Longer b c → known s (mark b) ≤ known s (mark c)
longer the_types g = g.types
longer the_pats g = g.pats

pub record Answers {A : Type 0} (R : Rel A) (b c : Builder) (a : A) : Type 0 where
  pub paired : Paired c.stored
  pub stays : Extends b.stored c.stored
  pub in_final : (final : Stored) → Extends c.stored final → R final b c a

abbrev pub AnswersTo : {A : Type 0} → Rel A → Builder → Checked A → Builder → Type 0
AnswersTo R b (Ok a) c = Answers R b c a
AnswersTo R b (Err e) c = Unit {0}

-- wherever it answers, from a store in which each entry has its source
pub record Correct {A : Type 0} (p : Lowering A) (R : Rel A) : Type 0 where
  pub at : (b : Builder) → Paired b.stored → AnswersTo R b (p b).0 (p b).1

pub record Seq {A B : Type 0} (R : Rel A) (Q : A → Rel B) (final : Stored) (b e : Builder) (x : B) : Type 0 where
  pub middle : Builder
  pub one : A
  pub before : Longer b middle
  pub after : Longer middle e
  pub first : R final b middle one
  pub second : Q one final middle e x

answers_then : {A B : Type 0} (R : Rel A) (Q : A → Rel B) (b c : Builder) (a : A) → Answers R b c a → (o : Checked B) (e : Builder)
    → AnswersTo (Q a) c o e → AnswersTo (Seq R Q) b o e
answers_then R Q b c a g (Ok x) e h = record {
  paired = h.paired;
  stays = extends_trans g.stays h.stays;
  in_final = λ final pre. record {
    middle = c;
    one = a;
    before = longer_of g.stays;
    after = longer_of h.stays;
    first = g.in_final final (extends_trans h.stays pre);
    second = h.in_final final pre;
  };
}
answers_then R Q b c a g (Err f) e h = tt

pub correct_bind : {A B : Type 0} {p : Lowering A} {R : Rel A} {q : A → Lowering B} {Q : A → Rel B} → Correct p R
    → ((a : A) → Correct (q a) (Q a)) → Correct (p >>= q) (Seq R Q)
correct_bind {A = A} {p = p} {R = R} {q = q} {Q = Q} h k = record { at = λ b d. by b (p b).0 (p b).1 (h.at b d) }
  where
    by : (b : Builder) (o : Checked A) (c : Builder) → AnswersTo R b o c → AnswersTo (Seq R Q) b (go_on o c q).0 (go_on o c q).1
    by b (Ok a) c g = answers_then R Q b c a g (q a c).0 (q a c).1 ((k a).at c g.paired)
    by b (Err e) c g = tt

-- less of what is so
pub correct_as : {A : Type 0} {p : Lowering A} {R Q : Rel A} → Correct p R
    → ((final : Stored) (b c : Builder) (a : A) → Longer b c → R final b c a → Q final b c a) → Correct p Q
correct_as {A = A} {p = p} {R = R} {Q = Q} h less_is = record { at = λ b d. by b (p b).0 (p b).1 (h.at b d) }
  where
    by : (b : Builder) (o : Checked A) (c : Builder) → AnswersTo R b o c → AnswersTo Q b o c
    by b (Ok a) c g = record {
      paired = g.paired;
      stays = g.stays;
      in_final = λ final pre. less_is final b c a (longer_of g.stays) (g.in_final final pre);
    }
    by b (Err e) c g = tt

pub record IsPure {A : Type 0} (a : A) (final : Stored) (b c : Builder) (x : A) : Type 0 where
  pub is : x ≡ a
  pub still : c ≡ b

pub correct_pure : {A : Type 0} (a : A) → Correct (pure a) (IsPure a)
correct_pure a = record {
  at = λ b d. record { paired = d; stays = extends_refl b.stored; in_final = λ final pre. record { is = refl; still = refl } };
}

pub after_lowering : {A : Type 0} {p : Lowering A} {R : Rel A} → Correct p R → (b : Builder) (a : A) (c : Builder) → Paired b.stored
    → p b ≡ (Ok a, c) → (final : Stored) → Extends c.stored final → R final b c a
after_lowering {R = R} h b a c d is final pre =
    let g : Answers R b c a = subst (λ r. AnswersTo R b r.0 r.1) is (h.at b d) in g.in_final final pre

-- what is named

-- No number stands more often in what is answered, held and asked now than it did before, except for those that were given out.
pub record Earlier (s : Sort) (was : Numbers) (final : Stored) (b c : Builder) (all : ℕ) (now : List ℕ) : Type 0 where
  pub depth : ℕ
  pub deep : known s (mark b) ≤ depth
  pub counted : (k : ℕ)
      → times k now + (owed s final all k c + less k (known s (mark b)))
      ≤ times k (was (look s final depth)) + (owed s final all k b + less k (known s (mark c)))

-- with these bindings in a table before and behind
pub record Steps {A : Type 0} (bs : List ℕ) (was : Numbers) (cs : A → List ℕ) (now : A → Numbers) (final : Stored) (b c : Builder) (a : A)
    : Type 0 where
  pub bound : (lo : ℕ) → let m = mark b in let m' = mark c in
      lo ≤ m.bindings → Each (Between lo m.bindings) bs → Each (Between lo m.bindings) (was of_bindings_alone)
      → Bound lo final m m' (cs a) (now a of_bindings_alone)
  pub grown : (s : Sort) (d k : ℕ) → named s final d b.stored k ≤ named s final d c.stored k
  pub asks : (l : Look) (k : ℕ) → times k (asked l b) ≤ times k (asked l c)
  pub earlier : (s : Sort) (d all : ℕ) → known s (mark c) ≤ d → known s (mark c) ≤ all
      → Earlier s was final b c all (now a (look s final d))

abbrev pub Adds : {A : Type 0} → Numbers → (A → Numbers) → Rel A
Adds {A = A} was now = Steps {A = A} [] was (λ a. []) now

-- the answer names nothing
abbrev pub Quiet : {A : Type 0} → Rel A
Quiet {A = A} = Adds {A = A} none (λ a. none)

-- steps that ask nothing

abbrev pub StillTo : {A : Type 0} → Builder → Checked A → Builder → Type 0
StillTo b (Ok a) c = c.tracks.generics.where_predicates ≡ b.tracks.generics.where_predicates
StillTo b (Err e) c = Unit {0}

pub record Still {A : Type 0} (p : Lowering A) : Type 0 where
  pub still : (b : Builder) → Paired b.stored → StillTo b (p b).0 (p b).1

still_to : {A : Type 0} (R : PlainRel A) (Q : Rel A)
    → ((final : Stored) (b c : Builder) (a : A) → c.tracks.generics.where_predicates ≡ b.tracks.generics.where_predicates
    → R final (frames b.scopes) (mark b) (mark c) a → Q final b c a)
    → (b : Builder) → Paired b.stored → (o : Checked A) (c : Builder)
    → ((final : Stored) → Holds R final (frames b.scopes) b o c) → StillTo b o c → AnswersTo Q b o c
still_to R Q k b d (Ok a) c h e =
    let x = h c.stored in record {
      paired = x.kept.paired d;
      stays = x.kept.stays;
      in_final = λ final pre. k final b c a e ((h final).in_final d pre);
    }
still_to R Q k b d (Err f) c h e = tt

-- what is so of what is stored, where nothing is asked
pub corresponds_as : {A : Type 0} {p : Lowering A} {R : PlainRel A} {Q : Rel A} → Still p → CorrectOf p R
    → ((final : Stored) (b c : Builder) (a : A) → c.tracks.generics.where_predicates ≡ b.tracks.generics.where_predicates
    → R final (frames b.scopes) (mark b) (mark c) a → Q final b c a)
    → Correct p Q
corresponds_as {p = p} {R = R} {Q = Q} e h k = record {
  at = λ b d. still_to R Q k b d (p b).0 (p b).1 (λ final. h.holds final (frames b.scopes) b (ribs_frames b.scopes)) (e.still b d);
}

came_still : {A : Type 0} {bs : List ℕ} {was : Numbers} {cs : A → List ℕ} {now : A → Numbers} {final : Stored} {b c : Builder} {a : A}
    → c.tracks.generics.where_predicates ≡ b.tracks.generics.where_predicates
    → plain.Steps bs was cs now final (frames b.scopes) (mark b) (mark c) a → Steps bs was cs now final b c a
came_still {final = final} e row = record {
  bound = λ lo le t w. row.bound lo le t w;
  grown = row.grown;
  asks = λ l k. let q = ap (λ ps. times k (of_each (asked_by l) ps)) e in omega (arith, q);
  earlier = λ s d all le le'.
      let x = row.earlier s d all le le' in record {
        depth = x.depth;
        deep = x.deep;
        counted = λ k.
            let q = ap (λ ps. times k (of_each (asked_by (look s final all)) ps)) e in
            let g = x.counted k in omega (arith, q, g);
      };
}

pub corresponds_still : {A : Type 0} {bs : List ℕ} {was : Numbers} {cs : A → List ℕ} {now : A → Numbers} {p : Lowering A} → Still p
    → CorrectOf p (plain.Steps bs was cs now) → Correct p (Steps bs was cs now)
corresponds_still e h = corresponds_as e h (λ final b c a same row. came_still same row)

-- it notes nothing but names of lifetimes
pub tracks_to : {A : Type 0} (n : Tracking) → n.impls ≡ [] → (b : Builder) (o : Checked A) (c : Builder) → TracksTo n b o c → StillTo b o c
tracks_to n e b (Ok a) c g = let h = g.1 in by n.impls e h.added h.fits h.predicates
  where
    by : (is : List Impl) → is ≡ [] → (qs : List WherePredicate) → Fits qs (length b.tracks.generics.type_or_consts) is c.stored
        → c.tracks.generics.where_predicates ≡ b.tracks.generics.where_predicates ++ qs
        → c.tracks.generics.where_predicates ≡ b.tracks.generics.where_predicates
    by [] e qs f are = are ∙ (ap (λ xs. b.tracks.generics.where_predicates ++ xs) f ∙ append-nil b.tracks.generics.where_predicates)
    by (i ∷ is) e qs f are = let l = ap length e in absurd (omega (arith, l))
tracks_to n e b (Err f) c g = tt

pub still_tracking : {A : Type 0} (n : Tracking) {p : Lowering A} → n.impls ≡ [] → SideOutput n p → Still p
still_tracking n {p = p} e h = record { still = λ b d. tracks_to n e b (p b).0 (p b).1 (h.at b d) }

pub still_of : {A : Type 0} {p : Lowering A} → SideOutput nothing p → Still p
still_of h = still_tracking nothing refl h

-- what notes nothing
pub corresponds : {A : Type 0} {bs : List ℕ} {was : Numbers} {cs : A → List ℕ} {now : A → Numbers} {p : Lowering A} → SideOutput nothing p
    → CorrectOf p (plain.Steps bs was cs now) → Correct p (Steps bs was cs now)
corresponds e h = corresponds_still (still_of e) h

-- steps that store nothing of what is counted

-- these are the same, and so many bindings
pub record Kept (b c : Builder) : Type 0 where
  pub exprs : c.stored.exprs.entries ≡ b.stored.exprs.entries
  pub pats : c.stored.pats.entries ≡ b.stored.pats.entries
  pub types : c.stored.types.entries ≡ b.stored.types.entries
  pub bindings : length c.stored.bindings.entries ≡ length b.stored.bindings.entries

abbrev pub KeptTo : {A : Type 0} → Builder → Checked A → Builder → Type 0
KeptTo b (Ok a) c = Kept b c
KeptTo b (Err e) c = Unit {0}

same_number : (s : Sort) {b c : Builder} → Kept b c → known s (mark c) ≡ known s (mark b)
same_number the_types k = ap length k.types
same_number the_pats k = ap length k.pats

same_held : (s : Sort) (final : Stored) (d : ℕ) {b c : Builder} → Kept b c → (k : ℕ)
    → named s final d c.stored k ≡ named s final d b.stored k
same_held s final d h k =
    let l = look s final d in
    let x = ap (λ xs. times k (of_exprs l xs)) h.exprs in
    let y = ap (λ xs. times k (of_pats l (chosen s xs))) h.pats in
    let z = ap (λ xs. times k (of_types l xs)) h.types in
    added _ _ _ _ _ _ x y z
  where
    added : (a b c a' b' c' : ℕ) → a' ≡ a → b' ≡ b → c' ≡ c → a' + (b' + c') ≡ a + (b + c)
    added a b c a' b' c' e f g = omega (arith, e, f, g)

kept_quiet : {A : Type 0} {final : Stored} {b c : Builder} (a : A) → c.tracks.generics.where_predicates ≡ b.tracks.generics.where_predicates
    → Kept b c → Quiet final b c a
kept_quiet {final = final} {b = b} {c = c} a e h = record {
  bound = λ lo le t w. record { known = tt; named = tt; made = none_made lo final (mark b) (mark c) h.pats };
  grown = λ s d k. let n = same_held s final d h k in omega (arith, n);
  asks = λ l k. let q = ap (λ ps. times k (of_each (asked_by l) ps)) e in omega (arith, q);
  earlier = λ s d all le le'.
      let n = same_number s h in record {
        depth = d;
        deep = omega (arith, le, n);
        counted = λ k.
            let x = same_held s final all h k in
            let q = ap (λ ps. times k (of_each (asked_by (look s final all)) ps)) e in
            let y = ap (less k) n in omega (arith, x, q, y);
      };
}

kept_to : {A : Type 0} (b : Builder) → (o : Checked A) (c : Builder) → TracksTo nothing b o c → KeptTo b o c
    → AnswersTo Quiet b o c
kept_to b (Ok a) c g h = record {
  paired = g.0;
  stays = g.1.stays;
  in_final = λ final pre. kept_quiet a (tracks_to nothing refl b (Ok a) c g) h;
}
kept_to b (Err f) c g h = tt

pub quiet_kept : {A : Type 0} {p : Lowering A} → SideOutput nothing p → ((b : Builder) → KeptTo b (p b).0 (p b).1) → Correct p Quiet
quiet_kept {p = p} g h = record { at = λ b d. kept_to b (p b).0 (p b).1 (g.at b d) (h b) }

-- where what is noted doesn't change what is asked
pub quiet_tracked : (f : Tracked → Tracked) → ((n : Tracked) → (f n).generics.where_predicates ≡ n.generics.where_predicates)
    → Correct (track_down f) Quiet
unfolding track_down
quiet_tracked f h = record {
  at = λ b d. record {
    paired = d;
    stays = extends_refl b.stored;
    in_final = λ final pre.
        kept_quiet tt (h b.tracks) (record { exprs = refl; pats = refl; types = refl; bindings = refl });
  };
}

-- the logic

pub adds_done : {A : Type 0} {bs : List ℕ} {was : Numbers} {cs : A → List ℕ} {now : A → Numbers} (a : A)
    → ((l : Look) → now a l ⊑ was l) → ((P : ℕ → Type 0) → Each P bs → Each P (cs a)) → Correct (pure a) (Steps bs was cs now)
adds_done a h e = corresponds (tracks_pure a) (plain.adds_done a h e)

pub adds_pure : {A : Type 0} {was : Numbers} {now : A → Numbers} (a : A)
    → ((l : Look) → now a l ⊑ was l) → Correct (pure a) (Adds was now)
adds_pure a h = adds_done a h (λ P x. x)

-- one after another
adds_seq : {A B : Type 0} {bs : List ℕ} {was : Numbers} {cs : A → List ℕ} {one : A → Numbers} {ds : B → List ℕ} {now : B → Numbers}
    {final : Stored} {b e : Builder} {x : B} → Seq (Steps bs was cs one) (λ a. Steps (cs a) (one a) ds now) final b e x
    → Steps bs was ds now final b e x
adds_seq {final = final} {b = b} {e = e} row = record {
  bound = λ lo le t w.
      let near = row.before.bindings in
      let x = row.first.bound lo le t w in
      let y = row.second.bound lo (omega (arith, le, near)) x.known x.named in record {
        known = y.known;
        named = y.named;
        made = made_then lo final (mark b) (mark row.middle) (mark e) row.after.bindings x.made y.made;
      };
  grown = λ s d n. let x = row.first.grown s d n in let y = row.second.grown s d n in omega (arith, x, y);
  asks = λ l n. let x = row.first.asks l n in let y = row.second.asks l n in omega (arith, x, y);
  earlier = λ s d all le le'.
      let far = longer s row.after in
      let y = row.second.earlier s d all le le' in
      let x = row.first.earlier s y.depth all y.deep (omega (arith, le', far)) in record {
        depth = x.depth;
        deep = x.deep;
        counted = λ n. let g = x.counted n in let h = y.counted n in omega (arith, g, h);
      };
}

pub adds_then : {A B : Type 0} {bs : List ℕ} {was : Numbers} {cs : A → List ℕ} {one : A → Numbers} {ds : B → List ℕ} {now : B → Numbers}
    {p : Lowering A} {q : A → Lowering B} → Correct p (Steps bs was cs one) → ((a : A) → Correct (q a) (Steps (cs a) (one a) ds now))
    → Correct (p >>= q) (Steps bs was ds now)
adds_then h k = correct_as (correct_bind h k) (λ final b e x g row. adds_seq row)

-- beside what was named
pub adds_beside : {A : Type 0} {bs : List ℕ} {cs : A → List ℕ} {now : A → Numbers} {p : Lowering A} (more : Numbers)
    → Correct p (Steps bs none cs now) → Correct p (Steps bs more cs (λ a l. more l ++ now a l))
adds_beside {cs = cs} {now = now} more h = correct_as h (λ final b c a g row. record {
  bound = λ lo le t w.
      let x = row.bound lo le t tt in record {
        known = x.known;
        named = both (Between lo (mark c).bindings) (more of_bindings_alone) (now a of_bindings_alone)
            (each_wider lo (mark b).bindings (mark c).bindings (more of_bindings_alone) g.bindings w) x.named;
        made = x.made;
      };
  grown = row.grown;
  asks = row.asks;
  earlier = λ s d all le le'.
      let l = look s final d in
      let far = longer s g in
      let x = row.earlier s d all le le' in record {
        depth = d;
        deep = omega (arith, le, far);
        counted = λ k. let e = x.counted k in let t = times_append k (more l) (now a l) in omega (arith, e, t);
      };
})

-- what was named is still named where the answer names nothing
pub adds_quiet : {A : Type 0} {was : Numbers} {p : Lowering A} → Correct p Quiet → Correct p (Adds was (λ a. was))
adds_quiet {was = was} h = correct_as h (λ final b c a g row. record {
  bound = λ lo le t w.
      let x = row.bound lo le t tt in record {
        known = tt;
        named = each_wider lo (mark b).bindings (mark c).bindings (was of_bindings_alone) g.bindings w;
        made = x.made;
      };
  grown = row.grown;
  asks = row.asks;
  earlier = λ s d all le le'.
      let far = longer s g in
      let x = row.earlier s d all le le' in record {
        depth = d;
        deep = omega (arith, le, far);
        counted = λ k. let e = x.counted k in omega (arith, e);
      };
})

-- beside a table, which stays as it is
pub keeps_table : {A : Type 0} {bs : List ℕ} {was : Numbers} {now : A → Numbers} {p : Lowering A} → Correct p (Adds was now)
    → Correct p (Steps bs was (λ a. bs) now)
keeps_table {bs = bs} h = correct_as h (λ final b c a g row. record {
  bound = λ lo le t w.
      let x = row.bound lo le tt w in
      record { known = each_wider lo (mark b).bindings (mark c).bindings bs g.bindings t; named = x.named; made = x.made };
  grown = row.grown;
  asks = row.asks;
  earlier = row.earlier;
})

-- whatever is in the table then
pub any_table : {A : Type 0} {bs : List ℕ} {was : Numbers} {cs : A → List ℕ} {now : A → Numbers} {p : Lowering A}
    → Correct p (Steps bs was cs now) → Correct p (Steps bs was (λ a. []) now)
any_table h = correct_as h (λ final b c a g row. record {
  bound = λ lo le t w. let x = row.bound lo le t w in record { known = tt; named = x.named; made = x.made };
  grown = row.grown;
  asks = row.asks;
  earlier = row.earlier;
})

-- of more
pub adds_from : {A : Type 0} {bs : List ℕ} {was was' : Numbers} {cs : A → List ℕ} {now : A → Numbers} {p : Lowering A}
    → ((l : Look) → was l ⊑ was' l) → Correct p (Steps bs was cs now) → Correct p (Steps bs was' cs now)
adds_from {was = was} {was' = was'} h c = correct_as c (λ final b c a g row. record {
  bound = λ lo le t w.
      row.bound lo le t (fewer lo (mark b).bindings (was of_bindings_alone) (was' of_bindings_alone) (h of_bindings_alone) w);
  grown = row.grown;
  asks = row.asks;
  earlier = λ s d all le le'. let x = row.earlier s d all le le' in record {
    depth = x.depth;
    deep = x.deep;
    counted = λ k. let e = x.counted k in let l = h (look s final x.depth) k in omega (arith, e, l);
  };
})

-- what is stored

pub adds_type : {was : Numbers} (t : TypeRef) (source : Option Pointer)
    → ((l : Look) (k : ℕ) → times k (below l.types t) + times k (of_type l t) ≤ times k (was l))
    → Correct (alloc_type t source) (Adds was (λ i l. l.types i))
adds_type t source h = corresponds (tracks_type t source) (plain.adds_type t source h)

pub adds_unnamed : {was : Numbers} (t : TypeRef) (source : Option Pointer) → ((l : Look) (k : ℕ) → times k (of_type l t) ≡ 0)
    → Correct (alloc_type t source) (Adds was (λ i. was))
adds_unnamed t source h = corresponds (tracks_type t source) (plain.adds_unnamed t source h)

pub adds_lifetime : {was : Numbers} (l : LifetimeRef) (source : Option Pointer) → Correct (alloc_lifetime l source) (Adds was (λ i. was))
adds_lifetime l source = corresponds (tracks_lifetime l source) (plain.adds_lifetime l source)

pub adds_expr : {was : Numbers} (e : HirExpr) (at : Option Pointer) → ((l : Look) → of_expr l e ⊑ was l)
    → Correct (alloc_expr e at) (Adds was (λ i. none))
adds_expr e at h = corresponds (tracks_expr e at) (plain.adds_expr e at h)

pub adds_made : {was : Numbers} (e : HirExpr) (at : Option Pointer) → ((l : Look) → of_expr l e ⊑ was l)
    → Correct (alloc_desugared e at) (Adds was (λ i. none))
adds_made e at h = corresponds (tracks_made e at) (plain.adds_made e at h)

pub adds_pat : {was : Numbers} (p : HirPat) (source : Option Pointer) → ((l : Look) → of_pat l p ⊑ was l)
    → Correct (alloc_pat p source) (Adds was (λ i l. l.pats i))
adds_pat p source h = corresponds (tracks_pat p source) (plain.adds_pat p source h)

pub adds_made_pat : {was : Numbers} (p : HirPat) (source : Option Pointer) → ((l : Look) → of_pat l p ⊑ was l)
    → Correct (alloc_desugared_pat p source) (Adds was (λ i l. l.pats i))
adds_made_pat p source h = corresponds (tracks_made_pat p source) (plain.adds_made_pat p source h)

pub adds_pat_beside : {was : Numbers} (p : HirPat) (own : PatId) → ((l : Look) → of_pat l p ⊑ was l)
    → Correct (alloc_beside p own) (Adds was (λ i l. l.pats i))
adds_pat_beside p own h = corresponds (tracks_beside p own) (plain.adds_pat_beside p own h)

-- refused at the end of a counter
pub count_out_correct : {A : Type 0} {R : Rel A} → Correct (count_out {A = A}) R
unfolding count_out
count_out_correct = record { at = λ b d. tt }

pub adds_refused : {A : Type 0} {bs : List ℕ} {was : Numbers} {cs : A → List ℕ} {now : A → Numbers}
    → Correct (count_out {A = A}) (Steps bs was cs now)
adds_refused = count_out_correct
