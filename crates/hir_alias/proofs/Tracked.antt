-- What holds of the notes all the time.
use Rattle.std.proofs.Common.{◌≡◌, ◌∙◌, refl, sym, ap, subst, inl, inr, ◌⊎◌, ℕ, zero, suc, ◌+◌, ◌<◌, ◌≤◌, Bool, true, false}
use Rattle.std.proofs.Common.{List, [], ◌∷◌, ◌++◌, Option, Some, None, length, arith, length-append}
use Rattle.std.specs.Prelude.{slice_get, slice_set, get_or, not, ◌↔◌}
use Rattle.std.proofs.lemmas.List.{set_past}
use Rattle.std.proofs.lemmas.Option.{slice_get_within, slice_get-get_or, none-some}
use Rattle.hir_store.specs.declared.ids.TypeRefId.{TypeRefId}
use Rattle.hir_store.specs.declared.ids.LifetimeRefId.{LifetimeRefId}
use Rattle.hir_store.specs.declared.name.Name.{Name}
use Rattle.hir_store.specs.declared.type_ref.TypeRef.{TypeRef}
use Rattle.hir_store.specs.declared.type_ref.LifetimeRef.{LifetimeRef}
use Rattle.hir_alias.specs.Reaching.{Part, a_type, a_lifetime, alias_parts_found}
use Rattle.hir_alias.specs.declared.visitor.VisitorState.{VisitorState}
use Rattle.hir_alias.specs.Reaching.{Among, Reached, at_root, below, Named, alias_parts, named_place}
use Rattle.hir_alias.specs.Tracking.{track_new, track_type, track_place, track_lifetime, track_part, track_parts, Met, MetAll, Done, OnList}
use Rattle.hir_alias.specs.Tracking.{unseen_count, Sound, falses}

-- lists of flags

abbrev from_some : {A : Type 0} → A → Option A → A
from_some d None = d
from_some d (Some a) = a

pub some_inj : {A : Type 0} {a b : A} → Some a ≡ Some b → a ≡ b
some_inj {A} {a} {b} e = ap (from_some a) e

other_flag : Some true ≡ Some false → ⊥
other_flag e = cc

-- a place that is set is true, and each other one is what it was
pub get_set : (bs : List Bool) (k n : ℕ)
    → (slice_get (slice_set bs k true) n ≡ slice_get bs n) ⊎ ((n ≡ k) × (slice_get (slice_set bs k true) n ≡ Some true))
get_set [] k n = inl refl
get_set (b ∷ bs) zero zero = inr (refl, refl)
get_set (b ∷ bs) zero (suc n) = inl refl
get_set (b ∷ bs) (suc k) zero = inl refl
get_set (b ∷ bs) (suc k) (suc n) =
    elim (get_set bs k n) [ inl e ↦ inl e | inr (e, t) ↦ inr (ap suc e, t) ]

pub get_set_same : (bs : List Bool) (k : ℕ) (b : Bool) → slice_get bs k ≡ Some b → slice_get (slice_set bs k true) k ≡ Some true
get_set_same [] k c e = elim (none-some c e) [ ]
get_set_same (b ∷ bs) zero c e = refl
get_set_same (b ∷ bs) (suc k) c e = get_set_same bs k c e

pub length_set : (bs : List Bool) (k : ℕ) → length (slice_set bs k true) ≡ length bs
length_set [] k = refl
length_set (b ∷ bs) zero = refl
length_set (b ∷ bs) (suc k) = ap suc (length_set bs k)

pub unseen_set : (bs : List Bool) (k : ℕ) → slice_get bs k ≡ Some false → suc (unseen_count (slice_set bs k true)) ≡ unseen_count bs
unseen_set [] k e = elim (none-some false e) [ ]
unseen_set (true ∷ bs) zero e = elim (other_flag e) [ ]
unseen_set (false ∷ bs) zero e = refl
unseen_set (false ∷ bs) (suc k) e = ap suc (unseen_set bs k e)
unseen_set (true ∷ bs) (suc k) e = unseen_set bs k e

pub stays_true : (bs : List Bool) (k n : ℕ) → slice_get bs n ≡ Some true → slice_get (slice_set bs k true) n ≡ Some true
stays_true bs k n e = elim (get_set bs k n) [ inl s ↦ s ∙ e | inr (_, t) ↦ t ]

pub met_true : (bs : List Bool) (n : ℕ) → n < length bs → ((b : Bool) → slice_get bs n ≡ Some b → b ≡ true) → slice_get bs n ≡ Some true
met_true bs n h met =
    let e = slice_get-get_or bs n false h in e ∙ ap Some (met (get_or bs n false) e)

-- the list

pub on_more : (n : ℕ) (ts us : List TypeRefId) → OnList n ts → OnList n (ts ++ us)
on_more n [] us h = elim h [ ]
on_more n (t ∷ ts) us h = elim h [ inl e ↦ inl e | inr r ↦ inr (on_more n ts us r) ]

pub on_last : (ts : List TypeRefId) (t : TypeRefId) → OnList t.0 (ts ++ t ∷ [])
on_last [] t = inl refl
on_last (s ∷ ts) t = inr (on_last ts t)

pub on_split : (n : ℕ) (ts : List TypeRefId) (t : TypeRefId) → OnList n (ts ++ t ∷ []) → OnList n ts ⊎ (t.0 ≡ n)
on_split n [] t h = elim h [ inl e ↦ inr e | inr r ↦ inl r ]
on_split n (s ∷ ts) t h =
    elim h [ inl e ↦ inl (inl e) | inr r ↦ elim (on_split n ts t r) [ inl a ↦ inl (inr a) | inr e ↦ inr e ] ]

-- flags that are down, and what is written past the end

falses_suc : (n : ℕ) → falses n ++ false ∷ [] ≡ falses (suc n)
falses_suc zero = refl
falses_suc (suc n) = ap (λ bs. false ∷ bs) (falses_suc n)

pub falses_push : (n : ℕ) → falses n ++ false ∷ [] ≡ falses (n + 1)
falses_push n = let i : suc n ≡ n + 1 = omega arith in falses_suc n ∙ ap falses i

pub length_falses : (n : ℕ) → length (falses n) ≡ n
length_falses zero = refl
length_falses (suc n) = ap suc (length_falses n)

pub none_up : (n k : ℕ) → slice_get (falses n) k ≡ Some true → ⊥
none_up zero k e = none-some true e
none_up (suc n) zero e = other_flag (sym e)
none_up (suc n) (suc k) e = none_up n k e

pub set_behind : (bs : List Bool) (k : ℕ) → length bs ≤ k → slice_set bs k true ≡ bs
set_behind bs k h = set_past bs k true h

-- the work that is left

left_new : (v : VisitorState) (t : TypeRefId) (o : Option Bool) → slice_get v.tracked t.0 ≡ o
    → unseen_count (track_new v t o).tracked + length (track_new v t o).work ≡ unseen_count v.tracked + length v.work
left_new v t None e = refl
left_new v t (Some true) e = refl
left_new v t (Some false) e =
    let a = unseen_set v.tracked t.0 e in
    let b : length (v.work ++ t ∷ []) ≡ length v.work + 1 = length-append v.work (t ∷ []) in omega arith

left_place : (v : VisitorState) (o : Option ℕ)
    → unseen_count (track_place v o).tracked + length (track_place v o).work ≡ unseen_count v.tracked + length v.work
left_place v None = refl
left_place v (Some k) = refl

pub left_parts : (lifetimes : List LifetimeRef) (find : Name → Option ℕ) (v : VisitorState) (ps : List Part)
    → unseen_count (track_parts lifetimes find v ps).tracked + length (track_parts lifetimes find v ps).work
    ≡ unseen_count v.tracked + length v.work
left_parts lifetimes find v [] = refl
left_parts lifetimes find v (a_type t ∷ ps) =
    left_parts lifetimes find (track_type v t) ps ∙ left_new v t (slice_get v.tracked t.0) refl
left_parts lifetimes find v (a_lifetime l ∷ ps) =
    left_parts lifetimes find (track_lifetime lifetimes find v l) ps ∙ left_place v (named_place lifetimes find l)

-- each place that is found is one of so many
module _ (types : List TypeRef) (lifetimes : List LifetimeRef) (find : Name → Option ℕ) (many : ℕ)
    (within : (l : LifetimeRefId) (k : ℕ) → named_place lifetimes find l ≡ Some k → k < many) where
  -- what was met stays so

  met_new : (v : VisitorState) (t : TypeRefId) (o : Option Bool) (q : Part) → Met lifetimes find v q
      → Met lifetimes find (track_new v t o) q
  met_new v t None q m = m
  met_new v t (Some true) q m = m
  met_new v t (Some false) (a_type u) m = λ b e.
      elim (get_set v.tracked t.0 u.0) [ inl s ↦ m b (sym s ∙ e) | inr (i, s) ↦ sym (some_inj (sym s ∙ e)) ]
  met_new v t (Some false) (a_lifetime l) m = m

  met_place : (v : VisitorState) (o : Option ℕ) (q : Part) → Met lifetimes find v q → Met lifetimes find (track_place v o) q
  met_place v None q m = m
  met_place v (Some k) (a_type u) m = m
  met_place v (Some k) (a_lifetime l) m = λ j e. stays_true v.named k j (m j e)

  all_new : (v : VisitorState) (t : TypeRefId) (o : Option Bool) (qs : List Part)
      → MetAll lifetimes find v qs → MetAll lifetimes find (track_new v t o) qs
  all_new v t o [] m = m
  all_new v t o (q ∷ qs) (m, ms) = (met_new v t o q m, all_new v t o qs ms)

  all_place : (v : VisitorState) (o : Option ℕ) (qs : List Part) → MetAll lifetimes find v qs → MetAll lifetimes find (track_place v o) qs
  all_place v o [] m = m
  all_place v o (q ∷ qs) (m, ms) = (met_place v o q m, all_place v o qs ms)

  pub met_stays : (v : VisitorState) (p q : Part) → Met lifetimes find v q → Met lifetimes find (track_part lifetimes find v p) q
  met_stays v (a_type t) q m = met_new v t (slice_get v.tracked t.0) q m
  met_stays v (a_lifetime l) q m = met_place v (named_place lifetimes find l) q m

  pub met_lasts : (v : VisitorState) (ps : List Part) (q : Part) → Met lifetimes find v q
      → Met lifetimes find (track_parts lifetimes find v ps) q
  met_lasts v [] q m = m
  met_lasts v (p ∷ ps) q m = met_lasts (track_part lifetimes find v p) ps q (met_stays v p q m)

  -- what is noted was met

  new_met : (v : VisitorState) (t : TypeRefId) (o : Option Bool) → slice_get v.tracked t.0 ≡ o
      → Met lifetimes find (track_new v t o) (a_type t)
  new_met v t None e = λ b h. elim (none-some b (sym e ∙ h)) [ ]
  new_met v t (Some true) e = λ b h. sym (some_inj (sym e ∙ h))
  new_met v t (Some false) e = λ b h. sym (some_inj (sym (get_set_same v.tracked t.0 false e) ∙ h))

  place_met : (v : VisitorState) (l : LifetimeRefId) (o : Option ℕ) → named_place lifetimes find l ≡ o → length v.named ≡ many
      → Met lifetimes find (track_place v o) (a_lifetime l)
  place_met v l None e size = λ j h. elim (none-some j (sym e ∙ h)) [ ]
  place_met v l (Some k) e size = λ j h.
      let inside = within l k e in
      let b = slice_get-get_or v.named k false (omega arith) in
      let i : k ≡ j = some_inj (sym e ∙ h) in
      subst (λ x. slice_get (slice_set v.named k true) x ≡ Some true) i (get_set_same v.named k (get_or v.named k false) b)

  part_met : (v : VisitorState) (p : Part) → length v.named ≡ many → Met lifetimes find (track_part lifetimes find v p) p
  part_met v (a_type t) size = new_met v t (slice_get v.tracked t.0) refl
  part_met v (a_lifetime l) size = place_met v l (named_place lifetimes find l) refl size

  -- while the parts of one type are being noted

  module _ (root : TypeRefId) where
    abbrev Right : Part → Type 0
    Right (a_type u) = Reached types root u
    Right (a_lifetime l) = (k : ℕ) → named_place lifetimes find l ≡ Some k → Named types lifetimes find root k

    abbrev RightAll : List Part → Type 0
    RightAll [] = Unit {0}
    RightAll (p ∷ ps) = Right p × RightAll ps

    right_each : (x : TypeRef) (t : TypeRefId) → Reached types root t → slice_get types t.0 ≡ Some x
        → (ps : List Part) → ((p : Part) → Among p ps → Among p (alias_parts x)) → RightAll ps
    right_each x t r e [] among = tt
    right_each x t r e (a_type u ∷ ps) among =
        (below x r e (among (a_type u) (inl refl)), right_each x t r e ps (λ p h. among p (inr h)))
    right_each x t r e (a_lifetime l ∷ ps) among = (
      (λ k i. record {
        at = t;
        reached = r;
        form = x;
        corresponds = e;
        lifetime = l;
        among = among (a_lifetime l) (inl refl);
        names_it = i;
      }),
      right_each x t r e ps (λ p h. among p (inr h)),
    )

    right_found : (t : TypeRefId) (o : Option TypeRef) → slice_get types t.0 ≡ o → Reached types root t → RightAll (alias_parts_found o)
    right_found t None e r = tt
    right_found t (Some x) e r = right_each x t r e (alias_parts x) (λ p h. h)

    -- what holds while the parts of the type of this number are being noted
    record Going (v : VisitorState) (now : ℕ) : Type 0 where
      types_tracked : length v.tracked ≡ length types
      places_tracked : length v.named ≡ many
      reached : (n : TypeRefId) → slice_get v.tracked n.0 ≡ Some true → Reached types root n
      closed : (n : ℕ) → slice_get v.tracked n ≡ Some true → (n ≡ now) ⊎ (OnList n v.work ⊎ Done lifetimes find types v n)
      listed : (n : ℕ) → OnList n v.work → slice_get v.tracked n ≡ Some true
      meant : (k : ℕ) → slice_get v.named k ≡ Some true → Named types lifetimes find root k

    going_new : (v : VisitorState) (now : ℕ) (t : TypeRefId) (o : Option Bool) → slice_get v.tracked t.0 ≡ o → Reached types root t
        → Going v now → Going (track_new v t o) now
    going_new v now t None e r g = g
    going_new v now t (Some true) e r g = g
    going_new v now t (Some false) e r g = record {
      types_tracked = length_set v.tracked t.0 ∙ g.types_tracked;
      places_tracked = g.places_tracked;
      reached = λ n h. elim (get_set v.tracked t.0 n.0) [
        | inl s ↦ g.reached n (sym s ∙ h)
        | inr (i, s) ↦ (let same : t ≡ n = λ j. record { 0 = sym i j } in subst (Reached types root) same r)
      ];
      closed = λ n h. elim (get_set v.tracked t.0 n) [
        | inl s ↦ elim (g.closed n (sym s ∙ h)) [
          | inl a ↦ inl a
          | inr b ↦ elim b [
            | inl c ↦ inr (inl (on_more n v.work (t ∷ []) c))
            | inr d ↦ inr (inr (λ x q. all_new v t (Some false) (alias_parts x) (d x q)))
          ]
        ]
        | inr (i, s) ↦ inr (inl (let P : ℕ → Type 0 = λ k. OnList k (v.work ++ t ∷ []) in subst P (sym i) (on_last v.work t)))
      ];
      listed = λ n h. elim (on_split n v.work t h) [
        | inl a ↦ stays_true v.tracked t.0 n (g.listed n a)
        | inr i ↦ (let P : ℕ → Type 0 = λ k. slice_get (slice_set v.tracked t.0 true) k ≡ Some true in
            subst P i (get_set_same v.tracked t.0 false e))
      ];
      meant = g.meant;
    }

    going_place : (v : VisitorState) (now : ℕ) (o : Option ℕ) → ((k : ℕ) → o ≡ Some k → Named types lifetimes find root k)
        → Going v now → Going (track_place v o) now
    going_place v now None m g = g
    going_place v now (Some k) m g = record {
      types_tracked = g.types_tracked;
      places_tracked = length_set v.named k ∙ g.places_tracked;
      reached = g.reached;
      closed = λ n h. elim (g.closed n h) [
        | inl a ↦ inl a
        | inr b ↦ elim b [
          | inl c ↦ inr (inl c)
          | inr d ↦ inr (inr (λ x q. all_place v (Some k) (alias_parts x) (d x q)))
        ]
      ];
      listed = g.listed;
      meant = λ j h. elim (get_set v.named k j) [
        | inl s ↦ g.meant j (sym s ∙ h)
        | inr (i, s) ↦ (let P : ℕ → Type 0 = Named types lifetimes find root in subst P (sym i) (m k refl))
      ];
    }

    going_part : (v : VisitorState) (now : ℕ) (p : Part) → Right p → Going v now → Going (track_part lifetimes find v p) now
    going_part v now (a_type t) r g = going_new v now t (slice_get v.tracked t.0) refl r g
    going_part v now (a_lifetime l) r g = going_place v now (named_place lifetimes find l) r g

    going_parts : (v : VisitorState) (now : ℕ) (ps : List Part) → RightAll ps → Going v now
        → Going (track_parts lifetimes find v ps) now × MetAll lifetimes find (track_parts lifetimes find v ps) ps
    going_parts v now [] r g = (g, tt)
    going_parts v now (p ∷ ps) (r, rs) g =
        let h = going_part v now p r g in
        let w = going_parts (track_part lifetimes find v p) now ps rs h in
        (w.0, (met_lasts (track_part lifetimes find v p) ps p (part_met v p g.places_tracked), w.1))

    -- one type is taken from the list, and its parts are noted
    pub sound_step : (v : VisitorState) (ws : List TypeRefId) (t : TypeRefId) → v.work ≡ ws ++ t ∷ []
        → Sound types lifetimes find many root v
        → Sound types lifetimes find many root
        (track_parts lifetimes find (record v { work = ws }) (alias_parts_found (slice_get types t.0)))
    sound_step v ws t e s =
        let P : List TypeRefId → Type 0 = λ us. OnList t.0 us in
        let seen = s.listed t.0 (subst P (sym e) (on_last ws t)) in
        let r = right_found t (slice_get types t.0) refl (s.reached t seen) in
        let g : Going (record v { work = ws }) t.0 = record {
          types_tracked = s.types_tracked;
          places_tracked = s.places_tracked;
          reached = s.reached;
          closed = λ n h. elim (s.closed n h) [
            | inl c ↦ (let Q : List TypeRefId → Type 0 = λ us. OnList n us in
                elim (on_split n ws t (subst Q e c)) [ inl a ↦ inr (inl a) | inr i ↦ inl (sym i) ])
            | inr d ↦ inr (inr d)
          ];
          listed = λ n h. (let Q : List TypeRefId → Type 0 = λ us. OnList n us in s.listed n (subst Q (sym e) (on_more n ws (t ∷ []) h)));
          meant = s.meant;
        } in
        let w = going_parts (record v { work = ws }) t.0 (alias_parts_found (slice_get types t.0)) r g in record {
          types_tracked = w.0.types_tracked;
          places_tracked = w.0.places_tracked;
          reached = w.0.reached;
          closed = λ n h. elim (w.0.closed n h) [
            | inl i ↦ inr (λ x q.
                let at : slice_get types t.0 ≡ Some x = ap (slice_get types) (sym i) ∙ q in
                let M : Option TypeRef → Type 0 = λ o. MetAll lifetimes find
                (track_parts lifetimes find (record v { work = ws }) (alias_parts_found (slice_get types t.0))) (alias_parts_found o) in
                subst M at w.1)
            | inr b ↦ b
          ];
          listed = w.0.listed;
          meant = w.0.meant;
        }

    -- nothing was noted, and then the root
    pub sound_root : (v : VisitorState) → v.tracked ≡ falses (length types) → v.named ≡ falses many → v.work ≡ []
        → Sound types lifetimes find many root (track_type v root) × Met lifetimes find (track_type v root) (a_type root)
    sound_root v tracked named work =
        let B : ℕ → List Bool → Type 0 = λ n bs. slice_get bs n ≡ Some true in
        let g : Going v root.0 = record {
          types_tracked = ap length tracked ∙ length_falses (length types);
          places_tracked = ap length named ∙ length_falses many;
          reached = λ n h. elim (none_up (length types) n.0 (subst (B n.0) tracked h)) [ ];
          closed = λ n h. elim (none_up (length types) n (subst (B n) tracked h)) [ ];
          listed = λ n h. (let Q : List TypeRefId → Type 0 = λ us. OnList n us in elim (subst Q work h) [ ]);
          meant = λ k h. elim (none_up many k (subst (B k) named h)) [ ];
        } in
        let w = going_new v root.0 root (slice_get v.tracked root.0) refl at_root g in (
          record {
            types_tracked = w.types_tracked;
            places_tracked = w.places_tracked;
            reached = w.reached;
            closed = λ n h. elim (w.closed n h) [
              | inl i ↦ (let n_on : OnList root.0 (track_type v root).work = root_on v (slice_get v.tracked root.0) refl tracked
                  (let Q : ℕ → Type 0 = λ k. slice_get (track_type v root).tracked k ≡ Some true in subst Q i h) in
                  let Q : ℕ → Type 0 = λ k. OnList k (track_type v root).work in inl (subst Q (sym i) n_on))
              | inr b ↦ b
            ];
            listed = w.listed;
            meant = w.meant;
          },
          new_met v root (slice_get v.tracked root.0) refl,
        )
      where
        root_on : (v : VisitorState) (o : Option Bool) → slice_get v.tracked root.0 ≡ o → v.tracked ≡ falses (length types)
            → slice_get (track_new v root o).tracked root.0 ≡ Some true → OnList root.0 (track_new v root o).work
        root_on v None e tracked h = elim (none-some true (sym e ∙ h)) [ ]
        root_on v (Some true) e tracked h =
            elim (none_up (length types) root.0 (ap (λ bs. slice_get bs root.0) (sym tracked) ∙ e)) [ ]
        root_on v (Some false) e tracked h = on_last v.work root

    -- at the end

    module _ (v : VisitorState) (s : Sound types lifetimes find many root v) (m : Met lifetimes find v (a_type root))
        (over : v.work ≡ []) where
      off : (n : ℕ) → OnList n v.work → ⊥
      off n h = let Q : List TypeRefId → Type 0 = λ us. OnList n us in elim (subst Q over h) [ ]

      done_at : (n : ℕ) → slice_get v.tracked n ≡ Some true → Done lifetimes find types v n
      done_at n h = elim (s.closed n h) [ inl c ↦ elim (off n c) [ ] | inr d ↦ d ]

      met_one : (p : Part) (ps : List Part) → MetAll lifetimes find v ps → Among p ps → Met lifetimes find v p
      met_one p [] ms h = elim h [ ]
      met_one p (q ∷ ps) (n, ns) h = elim h [
        | inl e ↦ (let M : Part → Type 0 = Met lifetimes find v in subst M (sym e) n)
        | inr r ↦ met_one p ps ns r
      ]

      tracked_found : (u : TypeRefId) (y : TypeRef) → slice_get types u.0 ≡ Some y → Met lifetimes find v (a_type u)
          → slice_get v.tracked u.0 ≡ Some true
      tracked_found u y e k = let inside = slice_get_within types u.0 y e in
          met_true v.tracked u.0 (let size = s.types_tracked in omega arith) k

      -- each type that is reached was noted, if it stands in the store
      reached_met : {u : TypeRefId} → Reached types root u → Met lifetimes find v (a_type u)
      reached_met at_root = m
      reached_met (below {t} {u} x r e among) =
          met_one (a_type u) (alias_parts x) (done_at t.0 (tracked_found t x e (reached_met r)) x e) among

      named_met : (k : ℕ) → Named types lifetimes find root k → slice_get v.named k ≡ Some true
      named_met k n =
          met_one (a_lifetime n.lifetime) (alias_parts n.form)
          (done_at n.at.0 (tracked_found n.at n.form n.corresponds (reached_met n.reached)) n.form n.corresponds) n.among k n.names_it

      pub named_at_the_end : (k : ℕ) → (slice_get v.named k ≡ Some true) ↔ Named types lifetimes find root k
      named_at_the_end k = (s.meant k, named_met k)
