-- How much what is noted of an item costs, beside what steps answer and what is stored: the logic, of whatever is counted. Parts name
-- nothing that was there before, so all is counted at one depth.
use Rattle.std.proofs.Common.{◌≡◌, ◌∙◌, refl, sym, ap, subst, arith, ℕ, suc, ◌+◌, ◌≤◌, length, List, [], ◌∷◌, Ok, Err}
use Rattle.hir_store.specs.Stored.{Stored, map_of, store_of}
use Rattle.hir_store.specs.StoreSink.{Extends}
use Rattle.hir_store.specs.declared.generics.WherePredicate.{WherePredicate}
use Rattle.hir_store.specs.declared.ids.TypeRefId.{TypeRefId}
use Rattle.hir_store.proofs.Extending.{extends_refl, extends_trans}
use Rattle.hir_lower_builder.specs.Builder.{Builder}
use Rattle.hir_lower_builder.specs.declared.generics.SideOutput.{SideOutput}
use Rattle.hir_lower_builder.specs.Lowering.{Checked, go_on, Lowering, ◌>>=◌, pure}
use Rattle.thm_logic.specs.Keeps.{Paired}
use Rattle.thm_logic.proofs.Formals.{found_stays}
use Rattle.spec_data.specs.Tracking.{Impl, Tracking}
use Rattle.thm_generics.specs.Lists.{Fits, Tracked, unnamed_params}
use Rattle.thm_generics.proofs.Logic as parts
use Rattle.thm_item_result.specs.Once.{impl_became}
use Rattle.thm_item_result.proofs.Costs.{Cost, Meter, a_param, asked, before_all, beside, by_predicate, each_append, free}
use Rattle.thm_item_result.proofs.Costs.{of_impl_asked, params, predicates, predicates_append}

-- What is counted: how deep one looks, and for what; what each type and each constant costs in the end; what costs that is stored; and how
-- much was given out.
pub record Sort : Type 1 where
  pub View : Type 0
  pub Deep : Stored → Stored → View → Type 0
  pub meter : Stored → View → Meter
  pub held : Stored → View → Stored → ℕ
  pub given : View → Stored → ℕ
  pub deep_before : (b c final : Stored) (v : View) → Extends b c → Deep c final v → Deep b final v

-- what is noted

abbrev pub tracked : Stored → SideOutput → Cost
tracked final n q = params n.generics.type_or_consts q + predicates (store_of final) (map_of final) [] n.generics.where_predicates q

impls_asked : (s final : Stored) → Extends s final → (is : List Impl) (ps : List WherePredicate) (k : ℕ) → Fits ps k is s
    → (q : Meter) (seen : List TypeRefId) → predicates (store_of final) (map_of final) seen ps q ≡ asked ps q
impls_asked s final e [] ps k h q seen =
    ap (λ l. predicates (store_of final) (map_of final) seen l q) h ∙ sym (ap (λ l. asked l q) h)
impls_asked s final e (i ∷ is) ps k h q seen =
    let corresponds = found_stays e.types.entries h.target.0 _ h.corresponds in
    let from = found_stays e.types.sources h.target.0 _ h.from in
    ap (λ l. predicates (store_of final) (map_of final) seen l q) h.are
    ∙ (of_impl_asked (store_of final) (map_of final) seen h.target h.bounds h.others q (λ j. impl_became (corresponds j) (from j))
    (λ before. impls_asked s final e is h.others (suc k) h.rest_fits q before) ∙ sym (ap (λ l. asked l q) h.are))

unnamed_free : (is : List Impl) (q : Meter) → params (unnamed_params is) q ≡ 0
unnamed_free [] q = refl
unnamed_free (i ∷ is) q = let r = unnamed_free is q in omega (arith, r)

-- what parts note costs what is asked by it
part_asked : {n : Tracking} {b c : Builder} → Tracked n b c → (final : Stored) → Extends c.stored final → (q : Meter)
    → tracked final c.tracks q + asked b.tracks.generics.where_predicates q
    ≡ tracked final b.tracks q + asked c.tracks.generics.where_predicates q
part_asked {n = n} {b = b} {c = c} g final e q =
    let s = store_of final in
    let m = map_of final in
    let xs = b.tracks.generics.type_or_consts in
    let ps = b.tracks.generics.where_predicates in
    let x = ap (λ l. params l q) g.params ∙ each_append (λ x. a_param x q) xs (unnamed_params n.impls) in
    let y = unnamed_free n.impls q in
    let p = ap (λ l. predicates s m [] l q) g.predicates ∙ predicates_append s m [] ps g.added q in
    let r = impls_asked c.stored final e n.impls g.added (length xs) g.fits q (before_all [] ps) in
    let o = ap (λ l. asked l q) g.predicates ∙ each_append (λ p. by_predicate p q) ps g.added in
    added (params xs q) (params (unnamed_params n.impls) q) (params c.tracks.generics.type_or_consts q)
    (predicates s m [] ps q) (predicates s m (before_all [] ps) g.added q) (predicates s m [] c.tracks.generics.where_predicates q)
    _ _ _ x y p r o
  where
    added : (a b c p q r u v w : ℕ) → c ≡ a + b → b ≡ 0 → r ≡ p + q → q ≡ v → w ≡ u + v → (c + r) + u ≡ (a + p) + w
    added a b c p q r u v w g h i j k = omega (arith, g, h, i, j, k)

module _ (S : Sort) where
  -- What is answered now, what is noted and what is stored doesn't cost more than it did, except for what was given out.
  pub record Count (was now : Cost) (b c : Builder) : Type 0 where
    pub stays : Extends b.stored c.stored
    pub paired : Paired c.stored
    pub counted : (final : Stored) → Extends c.stored final → (v : S.View) → S.Deep c.stored final v → let q = S.meter final v in
        now q + (tracked final c.tracks q + (S.held final v c.stored + S.given v b.stored))
        ≤ was q + (tracked final b.tracks q + (S.held final v b.stored + S.given v c.stored))

  count_both : {was one now : Cost} {b c d : Builder} → Count was one b c → Count one now c d → Count was now b d
  count_both {was = was} {one = one} {now = now} {b = b} {c = c} {d = d} g h = record {
    stays = extends_trans g.stays h.stays;
    paired = h.paired;
    counted = λ final e v deep.
        let x = g.counted final (extends_trans h.stays e) v (S.deep_before c.stored d.stored final v h.stays deep) in
        let y = h.counted final e v deep in
        let q = S.meter final v in
        added (was q) (one q) (now q) (tracked final b.tracks q) (tracked final c.tracks q) (tracked final d.tracks q)
        (S.held final v b.stored) (S.held final v c.stored) (S.held final v d.stored)
        (S.given v b.stored) (S.given v c.stored) (S.given v d.stored) x y;
  }
    where
      added : (a b c p q r s t u x y z : ℕ) → b + (q + (t + x)) ≤ a + (p + (s + y)) → c + (r + (u + y)) ≤ b + (q + (t + z))
          → c + (r + (u + x)) ≤ a + (p + (s + z))
      added a b c p q r s t u x y z g h = omega (arith, g, h)

  -- what is answered may cost less, and what was answered more
  pub count_as : {was was' now now' : Cost} {b c : Builder} → ((q : Meter) → was q ≤ was' q) → ((q : Meter) → now' q ≤ now q)
      → Count was now b c → Count was' now' b c
  count_as {was = was} {was' = was'} {now = now} {now' = now'} more less_than g = record {
    stays = g.stays;
    paired = g.paired;
    counted = λ final e v deep.
        let x = g.counted final e v deep in
        let q = S.meter final v in
        let y = more q in
        let z = less_than q in weaker (was q) (was' q) (now q) (now' q) _ _ x y z;
  }
    where
      weaker : (a b c d p q : ℕ) → c + p ≤ a + q → a ≤ b → d ≤ c → d + p ≤ b + q
      weaker a b c d p q g h i = omega (arith, g, h, i)

  -- beside what costs besides
  count_beside : {was now : Cost} {b c : Builder} (more : Cost) → Count was now b c → Count (beside more was) (beside more now) b c
  count_beside {was = was} {now = now} more g = record {
    stays = g.stays;
    paired = g.paired;
    counted = λ final e v deep.
        let x = g.counted final e v deep in
        let q = S.meter final v in wider (was q) (now q) (more q) _ _ x;
  }
    where
      wider : (a b m p q : ℕ) → b + p ≤ a + q → (m + b) + p ≤ (m + a) + q
      wider a b m p q g = omega (arith, g)

  -- steps

  abbrev pub CountTo : {A : Type 0} → Cost → (A → Cost) → Builder → Checked A → Builder → Type 0
  CountTo was now b (Ok a) c = Count was (now a) b c
  CountTo was now b (Err e) c = Unit {0}

  -- from a store in which each entry has its source
  pub record Counts {A : Type 0} (was : Cost) (now : A → Cost) (p : Lowering A) : Type 0 where
    pub at : (b : Builder) → Paired b.stored → CountTo was now b (p b).0 (p b).1

  pub counted_both : {A : Type 0} {was one : Cost} (now : A → Cost) (b c : Builder) → Count was one b c → (o : Checked A) (d : Builder)
      → CountTo one now c o d → CountTo was now b o d
  counted_both now b c g (Ok a) d h = count_both g h
  counted_both now b c g (Err e) d h = tt

  -- from this builder on
  pub then_to : {A B : Type 0} {was : Cost} {one : A → Cost} (now : B → Cost) (p : Lowering A) (f : A → Lowering B) (b : Builder)
      → CountTo was one b (p b).0 (p b).1 → ((a : A) (c : Builder) → Count was (one a) b c → p b ≡ (Ok a, c)
      → CountTo (one a) now c (f a c).0 (f a c).1)
      → CountTo was now b ((p >>= f) b).0 ((p >>= f) b).1
  then_to {A = A} {was = was} {one = one} now p f b h k = by (p b).0 (p b).1 refl h
    where
      by : (o : Checked A) (c : Builder) → p b ≡ (o, c) → CountTo was one b o c → CountTo was now b (go_on o c f).0 (go_on o c f).1
      by (Ok a) c is h = counted_both now b c h (f a c).0 (f a c).1 (k a c h is)
      by (Err e) c is h = tt

  pub counts_then : {A B : Type 0} {was : Cost} {one : A → Cost} {now : B → Cost} {p : Lowering A} {f : A → Lowering B}
      → Counts was one p → ((a : A) → Counts (one a) now (f a)) → Counts was now (p >>= f)
  counts_then {now = now} {p = p} {f = f} h k =
      record { at = λ b d. then_to now p f b (h.at b d) (λ a c g is. (k a).at c g.paired) }

  pub to_as : {A : Type 0} (was was' : Cost) (now now' : A → Cost) (b : Builder) (o : Checked A) (c : Builder)
      → ((q : Meter) → was q ≤ was' q) → ((a : A) (q : Meter) → now' a q ≤ now a q) → CountTo was now b o c → CountTo was' now' b o c
  to_as was was' now now' b (Ok a) c more less_than g = count_as more (less_than a) g
  to_as was was' now now' b (Err e) c more less_than g = tt

  pub counts_as : {A : Type 0} {was was' : Cost} {now now' : A → Cost} {p : Lowering A} → ((q : Meter) → was q ≤ was' q)
      → ((a : A) (q : Meter) → now' a q ≤ now a q) → Counts was now p → Counts was' now' p
  counts_as {was = was} {was' = was'} {now = now} {now' = now'} {p = p} more less_than h =
      record { at = λ b d. to_as was was' now now' b (p b).0 (p b).1 more less_than (h.at b d) }

  pub to_beside : {A : Type 0} (was : Cost) (now : A → Cost) (more : Cost) (b : Builder) (o : Checked A) (c : Builder)
      → CountTo was now b o c → CountTo (beside more was) (λ a. beside more (now a)) b o c
  to_beside was now more b (Ok a) c g = count_beside more g
  to_beside was now more b (Err e) c g = tt

  -- where nothing cost before
  pub counts_beside : {A : Type 0} {now : A → Cost} {p : Lowering A} (more : Cost) → Counts free now p
      → Counts more (λ a. beside more (now a)) p
  counts_beside {now = now} {p = p} more h = record {
    at = λ b d. to_as (beside more free) more (λ a. beside more (now a)) (λ a. beside more (now a)) b (p b).0 (p b).1
        (λ q. omega arith) (λ a q. omega arith) (to_beside free now more b (p b).0 (p b).1 (h.at b d));
  }

  -- where nothing costs that is answered
  pub counts_kept : {A : Type 0} {p : Lowering A} (more : Cost) → Counts free (λ a. free) p → Counts more (λ a. more) p
  counts_kept {A = A} {p = p} more h = record {
    at = λ b d. to_as (beside more free) more (λ a. beside more free) (λ a. more) b (p b).0 (p b).1
        (λ q. omega arith) (λ a q. omega arith) (to_beside free (λ a. free) more b (p b).0 (p b).1 (h.at b d));
  }

  -- where what is noted costs as is said, and nothing is stored
  pub count_still : {was now : Cost} {b c : Builder} → c.stored ≡ b.stored → Paired b.stored
      → ((final : Stored) (q : Meter) → now q + tracked final c.tracks q ≤ was q + tracked final b.tracks q)
      → Count was now b c
  count_still {was = was} {now = now} {b = b} {c = c} e d h = record {
    stays = subst (λ s. Extends b.stored s) (sym e) (extends_refl b.stored);
    paired = subst (λ s. Paired s) (sym e) d;
    counted = λ final x v deep.
        let q = S.meter final v in
        let g = h final q in
        let n = ap (λ s. S.held final v s) e in
        let l = ap (λ s. S.given v s) e in
        still (now q) (was q) (tracked final c.tracks q) (tracked final b.tracks q) (S.held final v c.stored) (S.held final v b.stored)
        (S.given v b.stored) (S.given v c.stored) g n l;
  }
    where
      still : (a b p q x y u v : ℕ) → a + p ≤ b + q → x ≡ y → v ≡ u → a + (p + (x + u)) ≤ b + (q + (y + v))
      still a b p q x y u v g h i = omega (arith, g, h, i)

  pub counts_pure : {A : Type 0} {was : Cost} {now : A → Cost} (a : A) → ((q : Meter) → now a q ≤ was q) → Counts was now (pure a)
  counts_pure a h = record { at = λ b d. count_still refl d (λ final q. let x = h q in omega (arith, x)) }

  -- parts

  -- what it answers, and what is asked, costs no more than it gave out
  pub record Part {A : Type 0} (now : A → Cost) (p : Lowering A) : Type 0 where
    pub counted : (b c : Builder) (a : A) → Paired b.stored → p b ≡ (Ok a, c) → (final : Stored) → Extends c.stored final
        → (v : S.View) → S.Deep c.stored final v
        → let q = S.meter final v in
        now a q + (asked c.tracks.generics.where_predicates q + (S.held final v c.stored + S.given v b.stored))
        ≤ asked b.tracks.generics.where_predicates q + (S.held final v b.stored + S.given v c.stored)

  part_to : {A : Type 0} {now : A → Cost} (n : Tracking) {p : Lowering A} → Part now p → (b : Builder) → Paired b.stored
      → (o : Checked A) (c : Builder) → p b ≡ (o, c) → parts.TracksTo n b o c → CountTo free now b o c
  part_to {now = now} n h b d (Ok a) c is g = record {
    stays = g.1.stays;
    paired = g.0;
    counted = λ final e v deep.
        let x = h.counted b c a d is final e v deep in
        let q = S.meter final v in
        let y = part_asked g.1 final e q in
        part (now a q) (tracked final c.tracks q) (tracked final b.tracks q) _ _ _ _ x y;
  }
    where
      part : (a p q x y u v : ℕ) → a + (u + x) ≤ v + y → p + v ≡ q + u → a + (p + x) ≤ 0 + (q + y)
      part a p q x y u v g h = omega (arith, g, h)
  part_to n h b d (Err e) c is g = tt

  -- a part of the item names what it answers
  pub part_counts : {A : Type 0} {now : A → Cost} {n : Tracking} {p : Lowering A} → Part now p → parts.SideOutput n p → Counts free now p
  part_counts {n = n} {p = p} h g = record { at = λ b d. part_to n h b d (p b).0 (p b).1 refl (g.at b d) }

  -- where it answers

  pub to_answer : {A : Type 0} {now : A → Cost} {p : Lowering A} → Counts free now p → (b c : Builder) (a : A) → Paired b.stored
      → p b ≡ (Ok a, c) → Count free (now a) b c
  to_answer {now = now} h b c a d is = subst (λ r. CountTo free now b r.0 r.1) is (h.at b d)
