-- Steps by what they ask: the logic.
use Rattle.std.proofs.Common.{◌≡◌, ◌∙◌, refl, sym, ap, subst, ℕ, suc, ◌+◌, arith, length, length-append, nat_lt, Bool, true, false}
use Rattle.std.proofs.Common.{append-nil, append_assoc, List, [], ◌∷◌, ◌++◌, Some, Ok, Err}
use Rattle.hir_store.specs.Stored.{Store, SourceMap, Stored, map_of, store_of}
use Rattle.hir_store.specs.StoreSink.{Extends}
use Rattle.hir_store.specs.declared.generics.LifetimeParamData.{LifetimeParamData}
use Rattle.hir_store.specs.declared.generics.TypeOrConstParamData.{TypeOrConstParamData}
use Rattle.hir_store.specs.declared.generics.WherePredicate.{WherePredicate}
use Rattle.hir_store.specs.declared.ids.TypeRefId.{TypeRefId}
use Rattle.hir_store.specs.declared.type_ref.TypeBound.{TypeBound}
use Rattle.hir_store.proofs.Extending.{extends_refl, extends_trans}
use Rattle.spec_data.specs.Data as datum
use Rattle.spec_data.specs.Data.{BoundData, BoundsData}
use Rattle.spec_data.specs.Reading.{bounds_layer, entries, readers}
use Rattle.spec_data.specs.Written.{bounds_data}
use Rattle.hir_env.specs.ResolvedTree as tree
use Rattle.hir_env.specs.ResolvedTree.{Bounds}
use Rattle.spec_semantics.specs.Inner.{all_inners}
use Rattle.hir_lower_builder.specs.Builder.{Builder}
use Rattle.hir_lower_builder.specs.Generics.{predicates_of, with_param}
use Rattle.hir_lower_builder.specs.Lowering.{Checked, go_on, Lowering, ◌>>=◌, pure, add_lifetime_param, add_param, add_predicate, count_out}
use Rattle.hir_lower_builder.specs.Lowering.{lifetime_counted, track_down, param_numbered, with_side_output}
use Rattle.thm_logic.specs.Keeps.{Paired}
use Rattle.thm_logic.proofs.Formals.{found_stays}
use Rattle.thm_logic.proofs.Logic.{Correct, correct_in_store}
use Rattle.thm_round_trip.proofs.Layers.{Layer, Reads, within}
use Rattle.thm_round_trip.proofs.Now.{answered}
use Rattle.spec_data.specs.Tracking.{Impl, Tracking}
use Rattle.thm_generics.specs.Lists.{BoundsHold, Fits, Tracked, all_entries, unnamed_params}
use Rattle.thm_generics.proofs.Logic as parts
use Rattle.thm_item_generics.specs.Tracked.{count}
use Rattle.thm_item_generics.specs.AskedFold.{Asked, Asking, Asks, Reached, asking, each_of, nothing, of_impls, of_part, parameter, ◌⊟◌}
use Rattle.thm_item_generics.specs.AskedFold.{one_param}
use Rattle.thm_item_generics.specs.Asked.{IsAsked, Stand, CorrespondsTo, TypeIs}

-- what stands

-- what is so in each store that goes on with this one
abbrev pub Later : Stored → (Store → SourceMap → Type 0) → Type 0
Later s P = (final : Stored) → Extends s final → P (store_of final) (map_of final)

pub still : {s t : Stored} (P : Store → SourceMap → Type 0) → Extends s t → Later s P → Later t P
still P e h = λ final pre. h final (extends_trans e pre)

stand_append : (store : Store) (source_map : SourceMap) (ps qs : List WherePredicate) (as' bs : List Asking)
    → Stand store source_map ps as' → Stand store source_map qs bs → Stand store source_map (ps ++ qs) (as' ++ bs)
stand_append store source_map [] qs [] bs g h = h
stand_append store source_map (p ∷ ps) qs (a ∷ as') bs g h = (g.0, stand_append store source_map ps qs as' bs g.1 h)
stand_append store source_map [] qs (a ∷ as') bs g h = absurd g
stand_append store source_map (p ∷ ps) qs [] bs g h = absurd g

-- one after another

asked_both : {x y : Asks} {b c d : Builder} → IsAsked x b c → IsAsked y c d → IsAsked (x ⊟ y) b d
asked_both {x = x} {y = y} {b = b} g h = record {
  stays = extends_trans g.stays h.stays;
  params = h.params ∙ ap (λ k. (y k).params) g.params;
  added = g.added ++ h.added;
  predicates = h.predicates
      ∙ (ap (λ l. l ++ h.added) g.predicates ∙ append_assoc b.tracks.generics.where_predicates g.added h.added);
  stand = λ final pre. let s = store_of final in let m = map_of final in
      stand_append s m g.added h.added (x (count b)).asks (y (x (count b)).params).asks (g.stand final (extends_trans h.stays pre))
      (subst (λ k. Stand s m h.added (y k).asks) g.params (h.stand final pre));
}

-- nothing is asked
pub asked_nothing : {b c : Builder} → Extends b.stored c.stored → c.tracks.generics.type_or_consts ≡ b.tracks.generics.type_or_consts
    → c.tracks.generics.where_predicates ≡ b.tracks.generics.where_predicates → IsAsked nothing b c
asked_nothing {b = b} e p w = record {
  stays = e;
  params = ap (λ l. length l) p;
  added = [];
  predicates = w ∙ sym (append-nil b.tracks.generics.where_predicates);
  stand = λ final pre. tt;
}

-- parts

abbrev first_of : BoundsData → BoundData
first_of datum.no_bounds = datum.error_bound
first_of (datum.more_bounds d ds) = d

abbrev rest_of : BoundsData → BoundsData
rest_of datum.no_bounds = datum.no_bounds
rest_of (datum.more_bounds d ds) = ds

module _ (store : Store) (source_map : SourceMap) where
  -- as all of them are read
  abbrev bounds_are : List TypeBound → BoundsData
  bounds_are bs = bounds_layer store source_map (readers store source_map (entries store source_map)) bs

  -- what an `impl` became, of each of its bounds
  each_corresponds : (t : TypeRefId) (x : Asked) (ys : List TypeBound) (bs : Bounds) → TypeIs store source_map t x
      → bounds_are ys ≡ bounds_data bs
      → BoundsHold store source_map (all_inners store) ys bs → Stand store source_map (predicates_of t ys) (each_of x bs)
  each_corresponds t x [] tree.no_bounds h e g = tt
  each_corresponds t x [] (tree.more_bounds b bs) h e g = absurd g
  each_corresponds t x (y ∷ ys) tree.no_bounds h e g = absurd g
  each_corresponds t x (y ∷ ys) (tree.more_bounds b bs) h e g =
      ((refl, h, ap first_of e, g.0), each_corresponds t x ys bs h (ap rest_of e) g.1)

impls_stand : (s final : Stored) → Extends s final → (is : List Impl) (ps : List WherePredicate) (k : ℕ) → Fits ps k is s
    → Stand (store_of final) (map_of final) ps (of_impls is k)
impls_stand s final pre [] ps k f = subst (λ l. Stand (store_of final) (map_of final) l []) (sym f) tt
impls_stand s final pre (i ∷ is) ps k f =
    let corresponds = found_stays pre.types.entries f.target.0 _ f.corresponds in
    let from = found_stays pre.types.sources f.target.0 _ f.from in
    let x = parameter i.parent k (Some i.at) in
    let read = f.read final pre in
    subst (λ l. Stand (store_of final) (map_of final) l (each_of x i.bounds ++ of_impls is (suc k))) (sym f.are)
    (stand_append (store_of final) (map_of final) (predicates_of f.target f.bounds) f.others (each_of x i.bounds) (of_impls is (suc k))
    (each_corresponds (store_of final) (map_of final) f.target x f.bounds i.bounds (corresponds, from) read.0 read.1)
    (impls_stand s final pre is f.others (suc k) f.rest_fits))

length_unnamed : (is : List Impl) → length (unnamed_params is) ≡ length is
length_unnamed [] = refl
length_unnamed (i ∷ is) = ap suc (length_unnamed is)

asked_part : {n : Tracking} {b c : Builder} → Tracked n b c → IsAsked (of_part n) b c
asked_part {n = n} {b = b} {c = c} g = record {
  stays = g.stays;
  params = ap (λ l. length l) g.params
      ∙ (length-append b.tracks.generics.type_or_consts (unnamed_params n.impls) ∙ ap (λ k. count b + k) (length_unnamed n.impls));
  added = g.added;
  predicates = g.predicates;
  stand = λ final pre. impls_stand c.stored final pre n.impls g.added (count b) g.fits;
}

-- steps

abbrev pub AskTo : {A : Type 0} → Asks → Builder → Checked A → Builder → Type 0
AskTo x b (Ok a) c = Paired c.stored × IsAsked x b c
AskTo x b (Err e) c = Unit {0}

-- from a store in which each entry has its source: where it answers it asks this
pub record Steps {A : Type 0} (x : Asks) (p : Lowering A) : Type 0 where
  pub at : (b : Builder) → Paired b.stored → AskTo x b (p b).0 (p b).1

pub ask_to_both : {A : Type 0} {x : Asks} (y : Asks) (b c : Builder) → IsAsked x b c → (o : Checked A) (d : Builder) → AskTo y c o d
    → AskTo (x ⊟ y) b o d
ask_to_both y b c g (Ok a) d h = (h.0, asked_both g h.1)
ask_to_both y b c g (Err e) d h = tt

-- what is asked by the parameters that there are
pub ask_at : {A : Type 0} (x y : Asks) (b : Builder) → x (count b) ≡ y (count b) → (o : Checked A) (c : Builder) → AskTo x b o c
    → AskTo y b o c
ask_at x y b e (Ok a) c h = (
  h.0,
  record {
    stays = h.1.stays;
    params = h.1.params ∙ ap (λ r. r.params) e;
    added = h.1.added;
    predicates = h.1.predicates;
    stand = λ final pre. subst (λ r. Stand (store_of final) (map_of final) h.1.added r.asks) e (h.1.stand final pre);
  },
)
ask_at x y b e (Err f) c h = tt

-- from this builder on, where what the second asks depends on what the first answers
pub from_then : {A B : Type 0} (x y : Asks) (p : Lowering A) (f : A → Lowering B) (b : Builder) → AskTo x b (p b).0 (p b).1
    → ((a : A) (c : Builder) → Paired c.stored → IsAsked x b c → p b ≡ (Ok a, c) → AskTo y c (f a c).0 (f a c).1)
    → AskTo (x ⊟ y) b ((p >>= f) b).0 ((p >>= f) b).1
from_then {A = A} x y p f b h k = by (p b).0 (p b).1 refl h
  where
    by : (o : Checked A) (c : Builder) → p b ≡ (o, c) → AskTo x b o c → AskTo (x ⊟ y) b (go_on o c f).0 (go_on o c f).1
    by (Ok a) c is h = ask_to_both y b c h.1 (f a c).0 (f a c).1 (k a c h.0 h.1 is)
    by (Err e) c is h = tt

pub steps_by : {A B : Type 0} {x : Asks} (y : Asks) {p : Lowering A} (f : A → Lowering B) → Steps x p
    → ((b : Builder) (a : A) (c : Builder) → Paired b.stored → Paired c.stored → p b ≡ (Ok a, c) → AskTo y c (f a c).0 (f a c).1)
    → Steps (x ⊟ y) (p >>= f)
steps_by {x = x} y {p = p} f h k = record { at = λ b d. from_then x y p f b (h.at b d) (λ a c e g is. k b a c d e is) }

pub steps_then : {A B : Type 0} {x y : Asks} {p : Lowering A} {f : A → Lowering B} → Steps x p → ((a : A) → Steps y (f a))
    → Steps (x ⊟ y) (p >>= f)
steps_then {y = y} {f = f} h k = steps_by y f h (λ b a c d e is. (k a).at c e)

-- the same, otherwise told
pub steps_as : {A : Type 0} {x y : Asks} {p : Lowering A} → x ≡ y → Steps x p → Steps y p
steps_as {p = p} e h = subst (λ x. Steps x p) e h

pub behind_nothing : (x : Asks) → (x ⊟ nothing) ≡ x
behind_nothing x = λ j k. record { asks = append-nil (x k).asks j; params = (x k).params }

-- nothing is asked in the first, or in the second
pub steps_begin : {A B : Type 0} {x : Asks} {p : Lowering A} {f : A → Lowering B} → Steps nothing p → ((a : A) → Steps x (f a))
    → Steps x (p >>= f)
steps_begin h k = steps_then h k

pub steps_end : {A B : Type 0} {x : Asks} {p : Lowering A} {f : A → Lowering B} → Steps x p → ((a : A) → Steps nothing (f a))
    → Steps x (p >>= f)
steps_end {x = x} h k = steps_as (behind_nothing x) (steps_then h k)

pub steps_pure : {A : Type 0} (a : A) → Steps nothing (pure a)
steps_pure a = record { at = λ b d. (d, asked_nothing (extends_refl b.stored) refl refl) }

part_to : {A : Type 0} (n : Tracking) (b : Builder) (o : Checked A) (c : Builder) → parts.TracksTo n b o c → AskTo (of_part n) b o c
part_to n b (Ok a) c x = (x.0, asked_part x.1)
part_to n b (Err e) c x = tt

-- of a part of the item
pub steps_part : {A : Type 0} {n : Tracking} {p : Lowering A} → parts.SideOutput n p → Steps (of_part n) p
steps_part {n = n} {p = p} h = record { at = λ b d. part_to n b (p b).0 (p b).1 (h.at b d) }

nothing_by_none : (k : ℕ) → k + 0 ≡ k
nothing_by_none k = omega arith

abbrev of_all : List Impl → ℕ → Reached
of_all is k = record { asks = of_impls is k; params = k + length is }

abbrev reached : ℕ → Reached
reached k = record { asks = []; params = k }

none_of : (is : List Impl) (k : ℕ) → is ≡ [] → of_all is k ≡ reached k
none_of is k e = ap (λ l. of_all l k) e ∙ ap reached (nothing_by_none k)

-- of one without an `impl`
pub steps_quiet : {A : Type 0} {n : Tracking} {p : Lowering A} → parts.SideOutput n p → n.impls ≡ [] → Steps nothing p
steps_quiet {n = n} h e = steps_as (λ j k. none_of n.impls k e j) (steps_part h)

-- what it comes to
pub asked_by_steps : {A : Type 0} {x : Asks} {p : Lowering A} → Steps x p → (b c : Builder) (a : A) → Paired b.stored → p b ≡ (Ok a, c)
    → IsAsked x b c
asked_by_steps {x = x} h b c a d is = (subst (λ r. AskTo x b r.0 r.1) is (h.at b d)).1

-- parameters and predicates

asked_param : (x : TypeOrConstParamData) (b : Builder) → IsAsked one_param b (record b { tracks = with_param x b.tracks })
asked_param x b = record {
  stays = extends_refl b.stored;
  params = let n = length-append b.tracks.generics.type_or_consts (x ∷ []) in omega (arith, n);
  added = [];
  predicates = sym (append-nil b.tracks.generics.where_predicates);
  stand = λ final pre. tt;
}

-- a parameter more, and what is done with its number
pub param_then : {B : Type 0} (y : Asks) (x : TypeOrConstParamData) (f : ℕ → Lowering B) (b : Builder)
    → (let c = record b { tracks = with_param x b.tracks } in AskTo y c (f (count b) c).0 (f (count b) c).1)
    → AskTo (one_param ⊟ y) b ((add_param x >>= f) b).0 ((add_param x >>= f) b).1
unfolding add_param with_side_output track_down count_out
param_then y x f b h = by (nat_lt (count b) 4294967295)
  where
    by : (room : Bool) → let p = param_numbered x (count b) room >>= f in AskTo (one_param ⊟ y) b (p b).0 (p b).1
    by true =
        let c = record b { tracks = with_param x b.tracks } in
        ask_to_both y b c (asked_param x b) (f (count b) c).0 (f (count b) c).1 h
    by false = tt

pub steps_param : (x : TypeOrConstParamData) → Steps one_param (add_param x)
unfolding add_param with_side_output track_down count_out
steps_param x = record { at = λ b d. by b d (nat_lt (count b) 4294967295) }
  where
    by : (b : Builder) → Paired b.stored → (room : Bool) → let p = param_numbered x (count b) room in AskTo one_param b (p b).0 (p b).1
    by b d true = (d, asked_param x b)
    by b d false = tt

pub steps_lifetime_param : (x : LifetimeParamData) → Steps nothing (add_lifetime_param x)
unfolding add_lifetime_param with_side_output track_down count_out
steps_lifetime_param x = record { at = λ b d. by b d (nat_lt (length b.tracks.generics.lifetimes) 4294967295) }
  where
    by : (b : Builder) → Paired b.stored → (room : Bool) → let p = lifetime_counted x room in AskTo nothing b (p b).0 (p b).1
    by b d true = (d, asked_nothing (extends_refl b.stored) refl refl)
    by b d false = tt

-- a predicate that stands for what is asked
pub predicate_to : (p : WherePredicate) (a : Asking) (b : Builder) → Paired b.stored → Later b.stored (λ s m. CorrespondsTo s m p a)
    → AskTo (asking (a ∷ [])) b (add_predicate p b).0 (add_predicate p b).1
unfolding add_predicate track_down
predicate_to p a b d h = (
  d,
  record {
    stays = extends_refl b.stored;
    params = refl;
    added = p ∷ [];
    predicates = refl;
    stand = λ final pre. (h final pre, tt);
  },
)

-- what is read back

pub read_as : {A D : Type 0} {l : Layer A D} {x : D} {p : Lowering A} → Correct p (Reads l x) → (b c : Builder) (a : A) → Paired b.stored
    → p b ≡ (Ok a, c) → (final : Stored) → Extends c.stored final → l final (within final (all_entries final)) a ≡ x
read_as h b c a d is final pre = let row = answered (correct_in_store h) b c a d is final pre in row.rel.is (all_entries final) row.entries
