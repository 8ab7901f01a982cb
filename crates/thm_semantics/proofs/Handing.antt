-- What hands in the parameters of a coroutine runs as it is written: each as its pattern says, one after another.
use Rattle.std.proofs.Common.{◌≡◌, ◌∙◌, refl, sym, ap, subst, ℕ, zero, suc, ◌≤◌, List, [], ◌∷◌, ◌++◌, map, append-nil, append_assoc}
use Rattle.std.proofs.Common.{Bool, true, false, true≢false, Option, Some, None, arith}
use Rattle.hir_binding.specs.declared.binding.BindingAnnotation.{BindingAnnotation}
use Rattle.hir_binding.specs.declared.binding.BindingAnnotation.TheVariants.{Mutable}
use Rattle.hir_store.specs.Names.{IsWritten}
use Rattle.hir_store.specs.Stored.{Stored, store_of, map_of}
use Rattle.hir_store.specs.StoreSink.{Extends}
use Rattle.hir_store.specs.declared.hir.Statement.{Statement}
use Rattle.hir_store.specs.declared.ids.ExprId.{ExprId}
use Rattle.hir_store.specs.declared.ids.HygieneId.{HygieneId}
use Rattle.hir_store.specs.declared.ids.LabelId.{LabelId}
use Rattle.hir_store.specs.declared.ids.PatId.{PatId}
use Rattle.hir_store.specs.declared.name.Name.{Name}
use Rattle.hir_store.specs.declared.name.Name.TheVariants as name
use Rattle.hir_store.proofs.Extending.{extends_refl, extends_trans}
use Rattle.spec_data.specs.Data.{PatData, bind_pattern, no_pattern, pat_at}
use Rattle.spec_data.specs.Patterns.{written_pat}
use Rattle.spec_data.specs.Preludes.{HandedIn, by_name, by_its_name, by_generated_name, handed_in, handed_pattern, source_of}
use Rattle.spec_data.specs.Reading.{Readers, name_layer, readers}
use Rattle.spec_data.specs.Tops.{Tops}
use Rattle.spec_data.proofs.GeneratedNames.{Unmade}
use Rattle.hir_lower_builder.specs.declared.preludes.Handed.{Handed}
use Rattle.hir_lower_builder.specs.declared.preludes.OwnName.{OwnName}
use Rattle.hir_lower_builder.specs.declared.preludes.Prelude.{Prelude}
use Rattle.hir_lower_builder.specs.Forms.{root_hygiene}
use Rattle.hir_lower_builder.specs.Preludes.{handed_as, handed_binding, let_params}
use Rattle.spec_semantics.specs.Inner.{Inside, all_of, of_statement}
use Rattle.spec_semantics.specs.Jumps.{EachStatement, EnclosedTo}
use Rattle.spec_semantics.specs.Prelude.{hands_in, hands_in_as}
use Rattle.spec_semantics.specs.Run.{Value}
use Rattle.spec_semantics.specs.Store.{RunTable, number_made}
use Rattle.spec_semantics.specs.Syntax.{SyntaxRun}
use Rattle.thm_round_trip.proofs.Layers.{within}
use Rattle.thm_round_trip.proofs.Made.{pat_in_full}
use Rattle.thm_round_trip.proofs.Names.{found_in}
use Rattle.thm_round_trip.proofs.Params.{pats_in}
use Rattle.thm_round_trip.proofs.Preludes.{HandIn, HandsIn, HasName, IsOwn, ReadAs, ReadsAs, by_alone, handed_alike, handed_of, names_alike}
use Rattle.thm_round_trip.proofs.Preludes.{source_alike}
use Rattle.thm_logic.proofs.Always.{Always, correct_always}
use Rattle.thm_logic.proofs.Frames.{Frame}
use Rattle.thm_logic.proofs.PatSteps.{source_in}
use Rattle.thm_logic.proofs.Preludes.{HandedBind, HandedIn as HandedBy, HandedOwn, LetOf, LetParam, LetsOf, correct_let_param, own_at}
use Rattle.thm_logic.proofs.Steps.{Correct, Grows, InStore, Mark, Seq, correct_as, correct_bind, correct_in_store, correct_pure}
use Rattle.thm_semantics.proofs.Arguments.{ArgumentsIn, AtLeast, Rising, next, rising_from}
use Rattle.thm_semantics.proofs.From.{SameFrom}
use Rattle.thm_semantics.proofs.HeldArgs.{all_append}
use Rattle.thm_semantics.proofs.Holding.{inners_in}
use Rattle.thm_semantics.proofs.Patterned.{pat_in}
use Rattle.thm_semantics.proofs.Preludes.{DoesLets, handed_holds, handed_made, let_runs, lets_run, made_lets_run, name_holds, name_jumps}
use Rattle.thm_semantics.proofs.Preludes.{number_written, run_lets}
use Rattle.thm_semantics.proofs.Unmade.{all_of as entries_of, written_is_unmade}

-- one parameter

-- The pattern reads as y, which is written.
pub record ReadIn (final : Stored) (p : PatId) (y : PatData) : Type 0 where
  pub is : pat_in final p ≡ y
  pub unmade : Unmade y

-- what is inside of a `let`, where nothing is in its operand
pub one_let : (xs e : List Inside) → e ≡ [] → (xs ++ (e ++ [])) ++ [] ≡ xs
one_let xs e is = rw is (append-nil (xs ++ []) ∙ append-nil xs)

two_lets : (q e xs f : List Inside) → q ≡ [] → e ≡ [] → f ≡ [] → (q ++ (e ++ [])) ++ ((xs ++ (f ++ [])) ++ []) ≡ xs
two_lets q e xs f a b c = rw (a, b) (one_let xs f c)

-- what is handed in is no made name, except for one that is made up
handed_unmade : (y : PatData) (n : Name) (h : HygieneId) → Unmade (handed_pattern y (by_its_name n h))
handed_unmade y n h = record { whole = refl; part = refl }

-- these are the `let`s of a parameter that is handed in so
abbrev LetsAs : PatId → PatData → Stored → ℕ → Option ℕ → List Statement → HandedIn → Type 0
LetsAs p y final nodes made ks k = DoesLets p final nodes made ks (λ i. hands_in_as i y k)

module _ {final : Stored} {ps : List Frame} {m m' : Mark} {ss : List Statement} (p : PatId) (y : PatData) (read : ReadIn final p y) where
  let_does : (n : Name) (h : HygieneId) → number_made n ≡ None → LetOf (handed_as n h p) p final ps m m' ss
      → LetsAs p y final m'.nodes (number_made n) ss (by_name n h)
  let_does n h written row = subst (λ ks. LetsAs p y final m'.nodes (number_made n) ks (by_name n h)) (sym row.is) (record {
    runs = λ fuel d le i given more tail s behind. let_runs fuel d more tail behind p y row.read le written read.is read.unmade;
    jumps = λ ls d le more others. (name_jumps row.read ls d le, tt, others);
    holds = λ d. let r = inners_in final d in one_let (r.pat p) (r.expr row.value) (name_holds row.read d);
  })

  lets_do : (n : Name) (h : HygieneId) → number_made n ≡ None → (row : LetsOf (handed_as n h p) p final ps m m' ss)
      → pat_in final row.between ≡ handed_pattern y (by_its_name n h)
      → LetsAs p y final m'.nodes (number_made n) ss (by_its_name n h)
  lets_do n h written row is = subst (λ ks. LetsAs p y final m'.nodes (number_made n) ks (by_its_name n h)) (sym row.is) (record {
    runs = λ fuel d le i given more tail s behind.
        lets_run fuel d more tail p row.between y (handed_pattern y (by_its_name n h)) behind row.read row.again
        (omega (arith, le, row.to_end.nodes)) le written is (handed_unmade y n h) read.is read.unmade;
    jumps = λ ls d le more others.
        (name_jumps row.read ls d (omega (arith, le, row.to_end.nodes)), tt, (name_jumps row.again ls d le, tt, others));
    holds = λ d. let r = inners_in final d in two_lets (r.pat row.between) (r.expr row.first) (r.pat p) (r.expr row.second)
        (handed_holds row.binds d) (name_holds row.read d) (name_holds row.again d);
  })

  made_lets_do : (k : ℕ) → LetsOf (handed_as (name.Generated k) root_hygiene p) p final ps m m' ss
      → LetsAs p y final m'.nodes (Some k) ss by_generated_name
  made_lets_do k row = subst (λ ks. LetsAs p y final m'.nodes (Some k) ks by_generated_name) (sym row.is) (record {
    runs = λ fuel d le i given more tail s behind.
        made_lets_run fuel d more tail behind k i p row.between y row.read row.again (omega (arith, le, row.to_end.nodes)) le
        (handed_made row.binds) given read.is read.unmade;
    jumps = λ ls d le more others.
        (name_jumps row.read ls d (omega (arith, le, row.to_end.nodes)), tt, (name_jumps row.again ls d le, tt, others));
    holds = λ d. let r = inners_in final d in two_lets (r.pat row.between) (r.expr row.first) (r.pat p) (r.expr row.second)
        (handed_holds row.binds d) (name_holds row.read d) (name_holds row.again d);
  })

-- the number of the name that a parameter is handed in by, where it is made
abbrev pub number_handed : Handed → Option ℕ
number_handed x = number_made x.name

abbrev pub numbers_handed : List Handed → List (Option ℕ)
numbers_handed xs = map number_handed xs

-- One more is handed in, by a name that is written or is made up for it.
pub record DoesOne (done : Prelude) (p : PatId) (y : PatData) (final : Stored) (m m' : Mark) (l : Prelude) : Type 0 where
  pub one : Handed
  pub new : List Statement
  pub handed : l.handed ≡ done.handed ++ one ∷ []
  pub lets : l.lets ≡ done.lets ++ new
  pub hands : HandsIn one p y
  pub least : AtLeast m.names (number_handed one)
  pub below : next m.names (number_handed one) ≤ m'.names
  pub does : LetsAs p y final m'.nodes (number_handed one) new (handed_in y)

-- by a name that is written
least_of : (lo hi : ℕ) (o : Option ℕ) → o ≡ None → lo ≤ hi → AtLeast lo o × (next lo o ≤ hi)
least_of lo hi o e le = rw e (tt, le)

-- of the same choice
same_choice : (p : PatId) (y : PatData) {final : Stored} {nodes : ℕ} {made : Option ℕ} {ss : List Statement} {k : HandedIn}
    → k ≡ handed_in y → LetsAs p y final nodes made ss k → LetsAs p y final nodes made ss (handed_in y)
same_choice p y {final = final} {nodes = nodes} {made = made} {ss = ss} e h = subst (LetsAs p y final nodes made ss) e h

same_hands : {x : Handed} {p : PatId} {y : PatData} (k : HandedIn) → k ≡ handed_in y → IsOwn k → HasName k x → x.pat ≡ p → HandsIn x p y
same_hands {x = x} k e w n is = record { own = subst IsOwn e w; named = subst (λ k. HasName k x) e n; pattern = is }

-- a written name
pub bind_layer_is : (final : Stored) (r : Readers) (n : Name) (h : HygieneId) (mode : BindingAnnotation) → IsWritten n
    → name_layer (store_of final) (map_of final) r n h mode no_pattern ≡ bind_pattern n h mode no_pattern
bind_layer_is final r (name.Text t) h mode w = refl
bind_layer_is final r name.Missing h mode w = refl
bind_layer_is final r (name.Generated k) h mode w = absurd w

-- the name between reads as the formal pattern
module _ (x : Handed) {final : Stored} {ps : List Frame} {m m' : Mark} {q : PatId} (row : HandedBind x final ps m m' q) where
  between_found : found_in final row.binding ≡ Some (handed_binding x)
  between_found = rw row.is row.bound

  between_reads : (y : PatData) → IsWritten x.name → source_in m.stored x.pat ≡ source_of y → (d : ℕ) → m'.entries ≤ d
      → (within final d).pat q ≡ handed_pattern y (by_its_name x.name x.hygiene)
  unfolding readers
  between_reads y w from zero le = let more = row.entries in absurd (omega (arith, le, more))
  between_reads y w from (suc d) le =
      let shape = bind_layer_is final (within final d) x.name x.hygiene Mutable w in
      rw (row.number, row.here, row.from) (rw between_found (λ j. pat_at (from j) (shape j)))

module _ {done : Prelude} (p : PatId) (y : PatData) {final : Stored} (ps : List Frame) {m m' : Mark} {l : Prelude}
    (read : ReadIn final p y) (g : Grows m m') (stored : m'.entries ≤ entries_of final) (from : source_in m.stored p ≡ source_of y) where
  does_own : (alone : Bool) (n : Name) (h : HygieneId) → by_alone alone n h ≡ handed_in y → IsOwn (by_alone alone n h)
      → HandedOwn done p alone (handed_as n h p) final ps m m' l → DoesOne done p y final m m' l
  does_own true n h e w x =
      let written = number_written n w in let low = least_of m.names m'.names (number_made n) written g.names in record {
        one = handed_as n h p;
        new = x.lets;
        handed = ap (λ z. z.handed) x.is;
        lets = ap (λ z. z.lets) x.is;
        hands = same_hands (by_name n h) e w (refl, refl) refl;
        least = low.0;
        below = low.1;
        does = same_choice p y e (let_does p y read n h written x.made);
      }
  does_own false n h e w x =
      let written = number_written n w in let low = least_of m.names m'.names (number_made n) written g.names in
      let reads = between_reads (handed_as n h p) x.made.binds y w from (entries_of final)
      (omega (arith, stored, x.made.to_once.entries, x.made.to_end.entries)) in record {
        one = handed_as n h p;
        new = x.lets;
        handed = ap (λ z. z.handed) x.is;
        lets = ap (λ z. z.lets) x.is;
        hands = same_hands (by_its_name n h) e w (refl, refl) refl;
        least = low.0;
        below = low.1;
        does = same_choice p y e (lets_do p y read n h written x.made
            (pat_in_full final x.made.between (handed_pattern y (by_its_name n h)) reads));
      }

  does_by : (own : Option OwnName) → handed_of own ≡ handed_in y → IsOwn (handed_of own)
      → HandedBy done p own final ps m m' l → DoesOne done p y final m m' l
  does_by (Some own) e w x = does_own own.is_alone own.name own.hygiene e w x
  does_by None e w x = record {
    one = handed_as (name.Generated x.number) root_hygiene p;
    new = x.more.lets;
    handed = ap (λ z. z.handed) x.more.is;
    lets = ap (λ z. z.lets) x.more.is;
    hands = same_hands by_generated_name e tt (x.number, refl) refl;
    least = omega (arith, x.next.is);
    below = omega (arith, x.next.is, x.next.names, x.to_end.names);
    does = same_choice p y e (made_lets_do p y read x.number x.more.made);
  }

-- where it reads so in each store that goes on
does_one : {done : Prelude} (p : PatId) (y : PatData) (final : Stored) (ps : List Frame) (m m' : Mark) (l : Prelude)
    → ReadsAs m.stored p y → ReadIn final p y → Grows m m' → Always (InStore (LetParam done p)) final ps m m' l
    → DoesOne done p y final m m' l
does_one p y final ps m m' l reads read g row =
    let now = reads m.stored (extends_refl m.stored) in
    does_by p y ps read g row.rel.entries (source_alike m.stored row.paired p ∙ ap source_of now) (own_at p m.stored)
    (handed_alike m.stored p ∙ ap handed_in now) (subst IsOwn (sym (handed_alike m.stored p)) (names_alike m.stored p)) row.rel.rel.handed

-- one after another

abbrev pub EachIn : Stored → List PatId → List PatData → Type 0
EachIn final [] [] = Unit {0}
EachIn final (p ∷ is) (y ∷ ys) = ReadIn final p y × EachIn final is ys
EachIn final _ _ = ⊥

abbrev is_empty : {A : Type 0} → List A → Bool
is_empty [] = true
is_empty (x ∷ xs) = false

abbrev first_or : {A : Type 0} → A → List A → A
first_or d [] = d
first_or d (x ∷ xs) = x

abbrev others : {A : Type 0} → List A → List A
others [] = []
others (x ∷ xs) = xs

pub each_in : (final : Stored) (is : List PatId) (ts : Tops) → pats_in final is ≡ map written_pat ts
    → EachIn final is (map written_pat ts)
each_in final [] [] e = tt
each_in final (p ∷ is) (t ∷ ts) e =
    (record { is = ap (first_or (written_pat t)) e; unmade = written_is_unmade t }, each_in final is ts (ap others e))
each_in final [] (t ∷ ts) e = absurd (true≢false (ap is_empty e))
each_in final (p ∷ is) [] e = absurd (true≢false (sym (ap is_empty e)))

-- These are handed in, by names that are written or made up for them, and the `let`s do so, the first as this one.
pub record DoesEach (done : Prelude) (is : List PatId) (ys : List PatData) (final : Stored) (m m' : Mark) (l : Prelude) : Type 0 where
  pub more : List Handed
  pub new : List Statement
  pub handed : l.handed ≡ done.handed ++ more
  pub lets : l.lets ≡ done.lets ++ new
  pub hand : HandIn more is ys
  pub rising : Rising m.names (numbers_handed more)
  pub runs : (fuel d : ℕ) → m'.nodes ≤ d → {table : RunTable} {fs : List Frame} (i : ℕ) → ArgumentsIn table i (numbers_handed more)
      → (rest : List Statement) (tail : Option ExprId) (s : SyntaxRun Value) → SameFrom table fs (run_lets final fuel d rest tail) s
      → SameFrom table fs (run_lets final fuel d (new ++ rest) tail) (hands_in i ys s)
  pub jumps : (ls : List LabelId) (d : ℕ) → m'.nodes ≤ d → (rest : List Statement) → EachStatement (EnclosedTo (store_of final) d ls) rest
      → EachStatement (EnclosedTo (store_of final) d ls) (new ++ rest)
  pub holds : (d : ℕ) → all_of (of_statement (inners_in final d)) new ≡ all_of (inners_in final d).pat is

does_none : (done : Prelude) {final : Stored} {m m' : Mark} {l : Prelude} → l ≡ done → DoesEach done [] [] final m m' l
does_none done e = record {
  more = [];
  new = [];
  handed = ap (λ z. z.handed) e ∙ sym (append-nil done.handed);
  lets = ap (λ z. z.lets) e ∙ sym (append-nil done.lets);
  hand = tt;
  rising = tt;
  runs = λ fuel d le i given rest tail s behind. behind;
  jumps = λ ls d le rest h. h;
  holds = λ d. refl;
}

does_more : {done k l : Prelude} {p : PatId} {is : List PatId} {y : PatData} {ys : List PatData} {final : Stored} {m n m' : Mark}
    → DoesOne done p y final m n k → Grows n m' → DoesEach k is ys final n m' l → DoesEach done (p ∷ is) (y ∷ ys) final m m' l
does_more {done = done} {p = p} {is = is} {y = y} {ys = ys} {final = final} {m = m} {n = n} x g z = record {
  more = x.one ∷ z.more;
  new = x.new ++ z.new;
  handed = z.handed ∙ (ap (λ h. h ++ z.more) x.handed ∙ append_assoc done.handed (x.one ∷ []) z.more);
  lets = z.lets ∙ (ap (λ h. h ++ z.new) x.lets ∙ append_assoc done.lets x.new z.new);
  hand = (x.hands, z.hand);
  rising = (x.least, rising_from n.names (next m.names (number_handed x.one)) (numbers_handed z.more) x.below z.rising);
  runs = λ fuel d le {table} {fs} i given rest tail s behind.
      subst (λ ks. SameFrom table fs (run_lets final fuel d ks tail) (hands_in i (y ∷ ys) s)) (sym (append_assoc x.new z.new rest))
      (x.does.runs fuel d (omega (arith, le, g.nodes)) i given.0 (z.new ++ rest) tail (hands_in (suc i) ys s)
      (z.runs fuel d le (suc i) given.1 rest tail s behind));
  jumps = λ ls d le rest h.
      subst (EachStatement (EnclosedTo (store_of final) d ls)) (sym (append_assoc x.new z.new rest))
      (x.does.jumps ls d (omega (arith, le, g.nodes)) (z.new ++ rest) (z.jumps ls d le rest h));
  holds = λ d. let r = inners_in final d in
      all_append (of_statement r) x.new z.new ∙ (λ j. x.does.holds d j ++ z.holds d j);
}

-- Where their patterns read so, in the final store and in each that goes on, they do.
pub record HandsNow (done : Prelude) (is : List PatId) (final : Stored) (ps : List Frame) (m m' : Mark) (l : Prelude) : Type 0 where
  pub each : (ys : List PatData) → ReadAs m.stored is ys → EachIn final is ys → DoesEach done is ys final m m' l

first_reads : (s : Stored) (p : PatId) (is : List PatId) (y : PatData) (ys : List PatData) → ReadAs s (p ∷ is) (y ∷ ys) → ReadsAs s p y
first_reads s p is y ys h = λ later e. ap (first_or y) (h later e)

others_read : (s t : Stored) → Extends s t → (p : PatId) (is : List PatId) (y : PatData) (ys : List PatData)
    → ReadAs s (p ∷ is) (y ∷ ys) → ReadAs t is ys
others_read s t pre p is y ys h = λ later e. ap others (h later (extends_trans pre e))

pub hands_now : (done : Prelude) (is : List PatId) → Correct (let_params done is) (HandsNow done is)
hands_now done [] = correct_as (correct_pure done)
    (λ final ps m m' l g row. record { each = λ ys h reads. by final m m' l ys reads row.is })
  where
    by : (final : Stored) (m m' : Mark) (l : Prelude) (ys : List PatData) → EachIn final [] ys → l ≡ done
        → DoesEach done [] ys final m m' l
    by final m m' l [] reads is = does_none done is
    by final m m' l (y ∷ ys) reads is = absurd reads
hands_now done (p ∷ is) = correct_as
    (correct_bind (correct_always (correct_in_store (correct_let_param done p))) (λ l. hands_now l is))
    (λ final ps m m' l g row. record { each = λ ys h reads. by final ps m m' l row ys h reads })
  where
    by : (final : Stored) (ps : List Frame) (m m' : Mark) (l : Prelude)
        → Seq (Always (InStore (LetParam done p))) (λ k. HandsNow k is) final ps m m' l → (ys : List PatData)
        → ReadAs m.stored (p ∷ is) ys → EachIn final (p ∷ is) ys → DoesEach done (p ∷ is) ys final m m' l
    by final ps m m' l row [] h reads = absurd reads
    by final ps m m' l row (y ∷ ys) h reads = does_more
        (does_one p y final ps m row.middle row.one (first_reads m.stored p is y ys h) reads.0 row.before row.first) row.after
        (row.second.each ys (others_read m.stored row.middle.stored row.first.stays p is y ys h) reads.1)
