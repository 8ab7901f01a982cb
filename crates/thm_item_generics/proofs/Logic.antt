-- Steps by what they note of an item: the logic.
use Rattle.std.proofs.Common.{arith, ◌≡◌, ◌∙◌, refl, sym, ap, subst, ℕ, ◌+◌, ◌≤◌, nat_lt, Bool, true, false, length, List, [], ◌∷◌}
use Rattle.std.proofs.Common.{◌++◌, length-append, map, suc}
use Rattle.std.proofs.Common.{append-nil, append_assoc, Ok, Err}
use Rattle.std.proofs.lemmas.List.{map-append}
use Rattle.hir_store.specs.Stored.{Store, SourceMap, Stored, map_of, store_of}
use Rattle.hir_store.specs.StoreSink.{Extends}
use Rattle.hir_store.specs.declared.generics.TypeOrConstParamData.{TypeOrConstParamData}
use Rattle.hir_store.specs.declared.generics.WherePredicate.{WherePredicate}
use Rattle.hir_store.specs.declared.name.Name.{Name}
use Rattle.hir_lower_scope.proofs.NameLists.{with_twice}
use Rattle.hir_lower_builder.specs.Builder.{Builder}
use Rattle.hir_store.proofs.Extending.{extends_refl, extends_trans}
use Rattle.hir_lower_builder.specs.Generics.{with_lifetime_param, with_param}
use Rattle.hir_lower_builder.specs.Lowering.{Checked, go_on, Lowering, ◌>>=◌, pure, add_lifetime_param, add_param, add_predicate, count_out}
use Rattle.hir_lower_builder.specs.Lowering.{lifetime_counted, track_down, param_numbered, with_side_output}
use Rattle.thm_logic.specs.Keeps.{Paired}
use Rattle.thm_logic.proofs.Formals.{found_stays}
use Rattle.spec_data.specs.Tracking.{Impl, Tracking}
use Rattle.thm_generics.specs.Lists.{Fits, Tracked, unnamed_params}
use Rattle.thm_generics.proofs.Logic as parts
use Rattle.thm_item_generics.specs.Fold.{ItemTracking, Param, impl_param, nothing, of_part, one_lifetime, one_param, ◌⊞◌}
use Rattle.thm_item_generics.specs.Tracked.{ItemTracked, ParamIs, ParamsFrom, count, early}

-- one after another

-- a list that goes on twice
twice : {A : Type 0} (xs : List A) {ys zs : List A} (a b : List A) → ys ≡ xs ++ a → zs ≡ ys ++ b → zs ≡ xs ++ (a ++ b)
twice xs a b e f = f ∙ (ap (λ t. t ++ b) e ∙ append_assoc xs a b)

params_append : (store : Store) (source_map : SourceMap) (k l : ℕ) (xs ys : List TypeOrConstParamData) (as' bs : List Param)
    → l ≡ k + length xs → ParamsFrom store source_map k xs as' → ParamsFrom store source_map l ys bs
    → ParamsFrom store source_map k (xs ++ ys) (as' ++ bs)
params_append store source_map k l [] ys [] bs e g h =
    let at : l ≡ k = omega (arith, e) in
    subst (λ i. ParamsFrom store source_map i ys bs) at h
params_append store source_map k l (x ∷ xs) ys (a ∷ as') bs e g h =
    (g.0, params_append store source_map (suc k) l xs ys as' bs (omega (arith, e)) g.1 h)
params_append store source_map k l [] ys (a ∷ as') bs e g h = absurd g
params_append store source_map k l (x ∷ xs) ys [] bs e g h = absurd g

tracked_both : {m n : ItemTracking} {b c d : Builder} → ItemTracked m b c → ItemTracked n c d → ItemTracked (m ⊞ n) b d
tracked_both {m = m} {n = n} {b = b} {c = c} g h = record {
  stays = extends_trans g.stays h.stays;
  added = g.added ++ h.added;
  adds = twice b.tracks.generics.type_or_consts g.added h.added g.adds h.adds;
  params = λ final e. params_append (store_of final) (map_of final) (count b) (count c) g.added h.added m.params n.params
      (ap length g.adds ∙ length-append b.tracks.generics.type_or_consts g.added)
      (g.params final (extends_trans h.stays e)) (h.params final e);
  fits = λ le. h.fits (g.fits le);
  lifetimes = twice b.tracks.generics.lifetimes (map early m.lifetimes) (map early n.lifetimes) g.lifetimes h.lifetimes
      ∙ ap (λ l. b.tracks.generics.lifetimes ++ l) (sym (map-append early m.lifetimes n.lifetimes));
  bounds = with_twice b.tracks.named.where_clause m.bounds n.bounds g.bounds h.bounds;
  input = with_twice b.tracks.named.constrained_by_input m.input n.input g.input h.input;
  output = with_twice b.tracks.named.output m.output n.output g.output h.output;
}

-- of what is noted nothing changes but the predicates
tracked_nothing : {b c : Builder} → Extends b.stored c.stored → c.tracks.generics.type_or_consts ≡ b.tracks.generics.type_or_consts
    → c.tracks.generics.lifetimes ≡ b.tracks.generics.lifetimes → c.tracks.named ≡ b.tracks.named → ItemTracked nothing b c
tracked_nothing {b = b} e p l n = record {
  stays = e;
  added = [];
  adds = p ∙ sym (append-nil b.tracks.generics.type_or_consts);
  params = λ final x. tt;
  fits = λ le. subst (λ k. length k ≤ 4294967295) (sym l) le;
  lifetimes = l ∙ sym (append-nil b.tracks.generics.lifetimes);
  bounds = ap (λ x. x.where_clause) n;
  input = ap (λ x. x.constrained_by_input) n;
  output = ap (λ x. x.output) n;
}

-- what `impl`s became, in each store that goes on with this one
impls_are : (s final : Stored) → Extends s final → (is : List Impl) (ps : List WherePredicate) (k : ℕ) → Fits ps k is s
    → ParamsFrom (store_of final) (map_of final) k (unnamed_params is) (map (λ i. impl_param i.parent i.at) is)
impls_are s final e [] ps k f = tt
impls_are s final e (i ∷ is) ps k f = (
  (
    refl,
    refl,
    refl,
    record {
      id = f.target;
      corresponds = found_stays e.types.entries f.target.0 _ f.corresponds;
      from = found_stays e.types.sources f.target.0 _ f.from;
    },
  ),
  impls_are s final e is f.others (suc k) f.rest_fits,
)

tracked_part : {n : Tracking} {b c : Builder} → Tracked n b c → ItemTracked (of_part n) b c
tracked_part {n = n} {b = b} {c = c} g = record {
  stays = g.stays;
  added = unnamed_params n.impls;
  adds = g.params;
  params = λ final e. impls_are c.stored final e n.impls g.added (count b) g.fits;
  fits = λ le. subst (λ k. length k ≤ 4294967295) (sym g.lifetimes) le;
  lifetimes = g.lifetimes ∙ sym (append-nil b.tracks.generics.lifetimes);
  bounds = g.bounds;
  input = g.input;
  output = g.output;
}

behind_nothing : (n : ItemTracking) → (n ⊞ nothing) ≡ n
behind_nothing n = λ j. record {
  params = append-nil n.params j;
  lifetimes = append-nil n.lifetimes j;
  bounds = append-nil n.bounds j;
  input = append-nil n.input j;
  output = append-nil n.output j;
}

-- steps

abbrev pub StepsTo : {A : Type 0} → ItemTracking → Builder → Checked A → Builder → Type 0
StepsTo n b (Ok a) c = Paired c.stored × ItemTracked n b c
StepsTo n b (Err e) c = Unit {0}

-- from a store in which each entry has its source: where it answers it notes this
pub record Steps {A : Type 0} (n : ItemTracking) (p : Lowering A) : Type 0 where
  pub at : (b : Builder) → Paired b.stored → StepsTo n b (p b).0 (p b).1

steps_to_both : {A : Type 0} {m : ItemTracking} (n : ItemTracking) (b c : Builder) → ItemTracked m b c → (o : Checked A) (d : Builder)
    → StepsTo n c o d → StepsTo (m ⊞ n) b o d
steps_to_both n b c g (Ok a) d h = (h.0, tracked_both g h.1)
steps_to_both n b c g (Err e) d h = tt

-- what steps answer

abbrev pub GivesTo : {A : Type 0} → (A → Type 0) → Checked A → Type 0
GivesTo P (Ok a) = P a
GivesTo P (Err e) = Unit {0}

-- wherever it answers
pub record Gives {A : Type 0} (P : A → Type 0) (p : Lowering A) : Type 0 where
  pub gives : (b : Builder) → GivesTo P (p b).0

pub gives_pure : {A : Type 0} {P : A → Type 0} (a : A) → P a → Gives P (pure a)
gives_pure a h = record { gives = λ b. h }

pub gives_then : {A B : Type 0} {P : B → Type 0} (p : Lowering A) {f : A → Lowering B} → ((a : A) → Gives P (f a)) → Gives P (p >>= f)
gives_then {A = A} {P = P} p {f = f} h = record { gives = λ b. by (p b).0 (p b).1 }
  where
    by : (o : Checked A) (c : Builder) → GivesTo P (go_on o c f).0
    by (Ok a) c = (h a).gives c
    by (Err e) c = tt

-- of what is so of the answer of the first
pub steps_given : {A B : Type 0} {m n : ItemTracking} {P : A → Type 0} {p : Lowering A} {f : A → Lowering B} → Steps m p → Gives P p
    → ((a : A) → P a → Steps n (f a)) → Steps (m ⊞ n) (p >>= f)
steps_given {A = A} {m = m} {n = n} {P = P} {p = p} {f = f} h g k = record { at = λ b d. by b (p b).0 (p b).1 (h.at b d) (g.gives b) }
  where
    by : (b : Builder) (o : Checked A) (c : Builder) → StepsTo m b o c → GivesTo P o
        → StepsTo (m ⊞ n) b (go_on o c f).0 (go_on o c f).1
    by b (Ok a) c x y = steps_to_both n b c x.1 (f a c).0 (f a c).1 ((k a y).at c x.0)
    by b (Err e) c x y = tt

pub steps_then : {A B : Type 0} {m n : ItemTracking} {p : Lowering A} {f : A → Lowering B} → Steps m p → ((a : A) → Steps n (f a))
    → Steps (m ⊞ n) (p >>= f)
steps_then {A = A} {m = m} {n = n} {p = p} {f = f} h k = record { at = λ b d. by b (p b).0 (p b).1 (h.at b d) }
  where
    by : (b : Builder) (o : Checked A) (c : Builder) → StepsTo m b o c → StepsTo (m ⊞ n) b (go_on o c f).0 (go_on o c f).1
    by b (Ok a) c x = steps_to_both n b c x.1 (f a c).0 (f a c).1 ((k a).at c x.0)
    by b (Err e) c x = tt

-- the same from one builder on
pub then_at : {A B : Type 0} (m n : ItemTracking) (p : Lowering A) (f : A → Lowering B) (b : Builder) → StepsTo m b (p b).0 (p b).1
    → ((a : A) → Steps n (f a)) → StepsTo (m ⊞ n) b (go_on (p b).0 (p b).1 f).0 (go_on (p b).0 (p b).1 f).1
then_at {A = A} m n p f b x k = by (p b).0 (p b).1 x
  where
    by : (o : Checked A) (c : Builder) → StepsTo m b o c → StepsTo (m ⊞ n) b (go_on o c f).0 (go_on o c f).1
    by (Ok a) c y = steps_to_both n b c y.1 (f a c).0 (f a c).1 ((k a).at c y.0)
    by (Err e) c y = tt

-- where what the second notes depends on what the first answers
pub by_at : {A B : Type 0} (m n : ItemTracking) (p : Lowering A) (f : A → Lowering B) (b : Builder) → StepsTo m b (p b).0 (p b).1
    → ((a : A) (c : Builder) → p b ≡ (Ok a, c) → Extends b.stored c.stored → Paired c.stored → StepsTo n c (f a c).0 (f a c).1)
    → StepsTo (m ⊞ n) b (go_on (p b).0 (p b).1 f).0 (go_on (p b).0 (p b).1 f).1
by_at {A = A} m n p f b x k = by (p b).0 (p b).1 refl x
  where
    by : (o : Checked A) (c : Builder) → p b ≡ (o, c) → StepsTo m b o c → StepsTo (m ⊞ n) b (go_on o c f).0 (go_on o c f).1
    by (Ok a) c is y = steps_to_both n b c y.1 (f a c).0 (f a c).1 (k a c is y.1.stays y.0)
    by (Err e) c is y = tt

pub steps_by : {A B : Type 0} {m : ItemTracking} (n : ItemTracking) {p : Lowering A} (f : A → Lowering B) → Steps m p
    → ((b : Builder) (a : A) (c : Builder) → Paired b.stored → p b ≡ (Ok a, c) → Extends b.stored c.stored → Paired c.stored
    → StepsTo n c (f a c).0 (f a c).1)
    → Steps (m ⊞ n) (p >>= f)
steps_by {m = m} n {p = p} f h k = record { at = λ b d. by_at m n p f b (h.at b d) (λ a c is e paired. k b a c d is e paired) }

-- the same, otherwise told
pub steps_as : {A : Type 0} {m n : ItemTracking} {p : Lowering A} → m ≡ n → Steps m p → Steps n p
steps_as {p = p} e h = subst (λ n. Steps n p) e h

-- nothing is noted in the first, or in the second
pub steps_begin : {A B : Type 0} {n : ItemTracking} {p : Lowering A} {f : A → Lowering B} → Steps nothing p → ((a : A) → Steps n (f a))
    → Steps n (p >>= f)
steps_begin h k = steps_then h k

pub steps_end : {A B : Type 0} {n : ItemTracking} {p : Lowering A} {f : A → Lowering B} → Steps n p → ((a : A) → Steps nothing (f a))
    → Steps n (p >>= f)
steps_end {n = n} h k = steps_as (behind_nothing n) (steps_then h k)

pub steps_pure : {A : Type 0} (a : A) → Steps nothing (pure a)
steps_pure a = record { at = λ b d. (d, tracked_nothing (extends_refl b.stored) refl refl refl) }

part_to : {A : Type 0} (n : Tracking) (b : Builder) (o : Checked A) (c : Builder) → parts.TracksTo n b o c → StepsTo (of_part n) b o c
part_to n b (Ok a) c x = (x.0, tracked_part x.1)
part_to n b (Err e) c x = tt

-- of a part of the item
pub steps_part : {A : Type 0} {n : Tracking} {p : Lowering A} → parts.SideOutput n p → Steps (of_part n) p
steps_part {n = n} {p = p} h = record { at = λ b d. part_to n b (p b).0 (p b).1 (h.at b d) }

-- what it comes to
pub tracked_by : {A : Type 0} {n : ItemTracking} {p : Lowering A} → Steps n p → (b c : Builder) (a : A) → Paired b.stored → p b ≡ (Ok a, c)
    → ItemTracked n b c
tracked_by {n = n} h b c a d is = (subst (λ r. StepsTo n b r.0 r.1) is (h.at b d)).1

-- parameters and predicates

-- a parameter that is this one from here on, whatever its number
abbrev pub IsFrom : Builder → TypeOrConstParamData → Param → Type 0
IsFrom b x y = (final : Stored) → Extends b.stored final → (k : ℕ) → ParamIs (store_of final) (map_of final) k x y

tracked_param : (x : TypeOrConstParamData) (y : Param) (b : Builder) → IsFrom b x y
    → ItemTracked (one_param y) b (record b { tracks = with_param x b.tracks })
tracked_param x y b h = record {
  stays = extends_refl b.stored;
  added = x ∷ [];
  adds = refl;
  params = λ final e. (h final e (count b), tt);
  fits = λ le. le;
  lifetimes = sym (append-nil b.tracks.generics.lifetimes);
  bounds = refl;
  input = refl;
  output = refl;
}

pub param_at : (x : TypeOrConstParamData) (y : Param) (b : Builder) → Paired b.stored → IsFrom b x y
    → StepsTo (one_param y) b (add_param x b).0 (add_param x b).1
unfolding add_param with_side_output track_down count_out
param_at x y b d h = by (nat_lt (length b.tracks.generics.type_or_consts) 4294967295)
  where
    by : (room : Bool) → let p = param_numbered x (length b.tracks.generics.type_or_consts) room in
        StepsTo (one_param y) b (p b).0 (p b).1
    by true = (d, tracked_param x y b h)
    by false = tt

-- with what is stored behind it, where of what is noted nothing else changes
pub param_with : (x : TypeOrConstParamData) (y : Param) (b c : Builder)
    → ItemTracked nothing (record b { tracks = with_param x b.tracks }) c
    → ((final : Stored) → Extends c.stored final → ParamIs (store_of final) (map_of final) (count b) x y) → ItemTracked (one_param y) b c
param_with x y b c g h = by g.added g.adds g.params
  where
    one : List TypeOrConstParamData
    one = x ∷ []

    by : (zs : List TypeOrConstParamData)
        → c.tracks.generics.type_or_consts ≡ (b.tracks.generics.type_or_consts ++ one) ++ zs
        → ((final : Stored) → Extends c.stored final
        → ParamsFrom (store_of final) (map_of final) (length (b.tracks.generics.type_or_consts ++ one)) zs [])
        → ItemTracked (one_param y) b c
    by [] adds ps = record {
      stays = g.stays;
      added = one;
      adds = adds ∙ append-nil (b.tracks.generics.type_or_consts ++ one);
      params = λ final e. (h final e, tt);
      fits = g.fits;
      lifetimes = g.lifetimes;
      bounds = g.bounds;
      input = g.input;
      output = g.output;
    }
    by (z ∷ zs) adds ps = absurd (ps c.stored (extends_refl c.stored))

one_more_fits : (k : ℕ) → nat_lt k 4294967295 ≡ true → k + 1 ≤ 4294967295
one_more_fits k h = grind arith

tracked_lifetime : (n : Name) (b : Builder) → nat_lt (length b.tracks.generics.lifetimes) 4294967295 ≡ true
    → ItemTracked (one_lifetime n) b (record b { tracks = with_lifetime_param (early n) b.tracks })
tracked_lifetime n b h = record {
  stays = extends_refl b.stored;
  added = [];
  adds = sym (append-nil b.tracks.generics.type_or_consts);
  params = λ final e. tt;
  fits = λ le. subst (λ k. k ≤ 4294967295) (sym (length-append b.tracks.generics.lifetimes (early n ∷ [])))
      (one_more_fits (length b.tracks.generics.lifetimes) h);
  lifetimes = refl;
  bounds = refl;
  input = refl;
  output = refl;
}

pub steps_lifetime_param : (n : Name) → Steps (one_lifetime n) (add_lifetime_param (early n))
unfolding add_lifetime_param with_side_output track_down count_out
steps_lifetime_param n = record { at = λ b d. by b d (nat_lt (length b.tracks.generics.lifetimes) 4294967295) refl }
  where
    by : (b : Builder) → Paired b.stored → (room : Bool) → nat_lt (length b.tracks.generics.lifetimes) 4294967295 ≡ room
        → let p = lifetime_counted (early n) room in StepsTo (one_lifetime n) b (p b).0 (p b).1
    by b d true h = (d, tracked_lifetime n b h)
    by b d false h = tt

pub steps_predicate : (x : WherePredicate) → Steps nothing (add_predicate x)
unfolding add_predicate track_down
steps_predicate x = record { at = λ b d. (d, tracked_nothing (extends_refl b.stored) refl refl refl) }
