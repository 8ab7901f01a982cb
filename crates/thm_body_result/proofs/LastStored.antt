-- Steps whose answer is the last pattern, or the last type, that is stored.
use Rattle.std.proofs.Common.{arith, ◌≡◌, ◌∙◌, refl, sym, ap, subst, ℕ, suc, Bool, true, false, nat_lt, if◌then◌else◌}
use Rattle.std.proofs.Common.{length, length-append}
use Rattle.std.proofs.Common.{List, [], ◌∷◌, ◌++◌, append-nil, append_assoc, Option, Ok, Err}
use Rattle.hir_store.specs.Arenas.{Sourced, with_entry, with_made}
use Rattle.hir_store.specs.Pointers.{Pointer}
use Rattle.hir_store.specs.StoreSink as store_sink
use Rattle.hir_store.specs.StoreSink.{pat_id, type_id}
use Rattle.hir_store.specs.Stored.{Stored}
use Rattle.hir_store.specs.declared.error.StoreError.TheVariants.{Full}
use Rattle.hir_store.specs.declared.ids.BindingId.{BindingId}
use Rattle.hir_store.specs.declared.ids.PatId.{PatId}
use Rattle.hir_store.specs.declared.ids.TypeRefId.{TypeRefId}
use Rattle.hir_store.specs.declared.pat.Pat.{Pat as HirPat}
use Rattle.hir_store.specs.declared.type_ref.TypeBound.{TypeBound}
use Rattle.hir_store.specs.declared.type_ref.TypeRef.{TypeRef}
use Rattle.hir_env.specs.declared.ctx.ImplTrait.{ImplTrait}
use Rattle.hir_env.specs.declared.ctx.ImplTrait.TheVariants as becomes
use Rattle.hir_lower_builder.specs.declared.generics.SideOutput.{SideOutput}
use Rattle.hir_lower_builder.specs.Lowering.{add_param, argument_form, becoming, track_down}
use Rattle.hir_env.specs.ResolvedTree as tree
use Rattle.hir_env.specs.ResolvedTree.{Pats}
use Rattle.hir_lower_builder.specs.Builder.{Builder}
use Rattle.hir_lower_builder.specs.Calls.{emitted}
use Rattle.hir_lower_builder.specs.Lower as lower
use Rattle.hir_lower_builder.specs.Lowering.{Checked, go_on, Lowering, ◌>>=◌, pure, alloc_desugared_pat, alloc_pat, alloc_type, define}
use Rattle.hir_lower_builder.specs.Lowering.{point_pat}
use Rattle.hir_lower_builder.specs.Lowering.{point_target, point_type}
use Rattle.hir_lower_builder.specs.Pats as pats
use Rattle.hir_lower_builder.specs.Pats.{PatSteps, Table, next_alternative}
use Rattle.thm_logic.proofs.Calls.{only_emitted}
use Rattle.thm_logic.proofs.Answering.{Answering, AnsweredTo, answering_any}

-- what is the last of its kind

-- what is counted in a store, by numbers
pub record Counted (I : Type 0) : Type 0 where
  pub place : I → ℕ
  pub count : Stored → ℕ

module _ {I : Type 0} (C : Counted I) where
  abbrev pub EndsAt : {A : Type 0} → (A → I) → Checked A → Builder → Type 0
  EndsAt owner (Ok a) c = suc (C.place (owner a)) ≡ C.count c.stored
  EndsAt owner (Err e) c = Unit {0}

  pub record LastOf {A : Type 0} (owner : A → I) (p : Lowering A) : Type 0 where
    pub last : (b : Builder) → EndsAt owner (p b).0 (p b).1

  -- whatever comes before, and where it is known what that answers
  pub lastly_where : {A B : Type 0} {P : A → Type 0} {owner : B → I} {p : Lowering A} {f : A → Lowering B} → Answering P p
      → ((a : A) → P a → LastOf owner (f a)) → LastOf owner (p >>= f)
  lastly_where {A = A} {P = P} {owner = owner} {p = p} {f = f} t h = record { last = λ b. by (p b).0 (p b).1 (t.answers b) }
    where
      by : (o : Checked A) (c : Builder) → AnsweredTo P o → EndsAt owner (go_on o c f).0 (go_on o c f).1
      by (Ok a) c x = (h a x).last c
      by (Err e) c x = tt

  pub lastly : {A B : Type 0} {owner : B → I} (p : Lowering A) {f : A → Lowering B} → ((a : A) → LastOf owner (f a))
      → LastOf owner (p >>= f)
  lastly p h = lastly_where (answering_any p) (λ a x. h a)

  -- one after another, and then a third
  last_joined : {A B D : Type 0} {owner : D → I} (p : Lowering A) (f : A → Lowering B) (g : B → Lowering D)
      → ((a : A) → LastOf owner (f a >>= g)) → LastOf owner ((p >>= f) >>= g)
  last_joined {A = A} {owner = owner} p f g h = record { last = λ b. by (p b).0 (p b).1 }
    where
      by : (o : Checked A) (c : Builder)
          → EndsAt owner (go_on (go_on o c f).0 (go_on o c f).1 g).0 (go_on (go_on o c f).0 (go_on o c f).1 g).1
      by (Ok a) c = (h a).last c
      by (Err e) c = tt

  -- steps that store none
  abbrev pub StaysAt : {A : Type 0} → Builder → Checked A → Builder → Type 0
  StaysAt b (Ok a) c = C.count c.stored ≡ C.count b.stored
  StaysAt b (Err e) c = Unit {0}

  pub record Stays {A : Type 0} (p : Lowering A) : Type 0 where
    pub stays : (b : Builder) → StaysAt b (p b).0 (p b).1

  -- and answer this one
  abbrev HandsOn : {A : Type 0} → (A → I) → I → Builder → Checked A → Builder → Type 0
  HandsOn owner i b (Ok a) c = (owner a ≡ i) × (C.count c.stored ≡ C.count b.stored)
  HandsOn owner i b (Err e) c = Unit {0}

  pub record Hands {A : Type 0} (owner : A → I) (i : I) (p : Lowering A) : Type 0 where
    pub hands : (b : Builder) → HandsOn owner i b (p b).0 (p b).1

  pub hands_pure : {A : Type 0} {owner : A → I} {i : I} (a : A) → owner a ≡ i → Hands owner i (pure a)
  hands_pure a e = record { hands = λ b. (e, refl) }

  pub hands_then : {A B : Type 0} {owner : B → I} {i : I} {p : Lowering A} {f : A → Lowering B} → Stays p
      → ((a : A) → Hands owner i (f a)) → Hands owner i (p >>= f)
  hands_then {A = A} {B = B} {owner = owner} {i = i} {p = p} {f = f} h k =
      record { hands = λ b. first b (p b).0 (p b).1 (h.stays b) }
    where
      second : (b c : Builder) → C.count c.stored ≡ C.count b.stored → (o : Checked B) (d : Builder) → HandsOn owner i c o d
          → HandsOn owner i b o d
      second b c e (Ok x) d y = (y.0, y.1 ∙ e)
      second b c e (Err g) d y = tt

      first : (b : Builder) (o : Checked A) (c : Builder) → StaysAt b o c → HandsOn owner i b (go_on o c f).0 (go_on o c f).1
      first b (Ok a) c x = second b c x (f a c).0 (f a c).1 ((k a).hands c)
      first b (Err e) c x = tt

  pub last_hands : {A B : Type 0} {made : A → I} {owner : B → I} {p : Lowering A} {f : A → Lowering B} → LastOf made p
      → ((a : A) → Hands owner (made a) (f a)) → LastOf owner (p >>= f)
  last_hands {A = A} {B = B} {made = made} {owner = owner} {p = p} {f = f} h k =
      record { last = λ b. first (p b).0 (p b).1 (h.last b) }
    where
      second : (i : I) (c : Builder) → suc (C.place i) ≡ C.count c.stored → (o : Checked B) (d : Builder) → HandsOn owner i c o d
          → EndsAt owner o d
      second i c e (Ok x) d y = ap (λ j. suc (C.place j)) y.0 ∙ (e ∙ sym y.1)
      second i c e (Err g) d y = tt

      first : (o : Checked A) (c : Builder) → EndsAt made o c → EndsAt owner (go_on o c f).0 (go_on o c f).1
      first (Ok a) c x = second (made a) c x (f a c).0 (f a c).1 ((k a).hands c)
      first (Err e) c x = tt

  -- what is made of the answer holds it, too, and so behind what stores none
  pub last_given : {A B : Type 0} {made : A → I} {owner : B → I} {p : Lowering A} (g : A → B) → ((a : A) → owner (g a) ≡ made a)
      → LastOf made p → LastOf owner (p >>= (λ a. pure (g a)))
  last_given g e h = last_hands h (λ a. hands_pure (g a) (e a))

  pub last_before : {A B D : Type 0} {made : A → I} {owner : D → I} {p : Lowering A} {q : A → Lowering B} (g : A → D)
      → ((a : A) → owner (g a) ≡ made a) → LastOf made p → ((a : A) → Stays (q a))
      → LastOf owner (p >>= (λ a. q a >>= (λ v. pure (g a))))
  last_before g e h k = last_hands h (λ a. hands_then (k a) (λ v. hands_pure (g a) (e a)))

-- patterns

abbrev pub in_pats : Counted PatId
in_pats = record { place = λ i. i.0; count = λ s. length s.pats.entries }

abbrev pub LastPat : {A : Type 0} → (A → PatId) → Lowering A → Type 0
LastPat pat_in p = LastOf in_pats pat_in p

abbrev made_pat : Bool → HirPat → Option Pointer → Sourced HirPat PatId → Checked PatId × Sourced HirPat PatId
made_pat t x source a = if t then (Ok (pat_id (length a.entries)), with_entry pat_id a x source) else (Err Full, a)

pub pat_last : (x : HirPat) (source : Option Pointer) → LastPat (λ i. i) (alloc_pat x source)
unfolding alloc_pat store_sink.alloc_pat
pat_last x source = record { last = λ b. by b (nat_lt (length b.stored.pats.entries) b.stored.pats.limit) }
  where
    by : (b : Builder) (t : Bool) → EndsAt in_pats (λ i. i) (made_pat t x source b.stored.pats).0
        (record b { stored = record b.stored { pats = (made_pat t x source b.stored.pats).1 } })
    by b true = let more = length-append b.stored.pats.entries (x ∷ []) in omega (arith, more)
    by b false = tt

abbrev hidden_pat : Bool → HirPat → Option Pointer → Sourced HirPat PatId → Checked PatId × Sourced HirPat PatId
hidden_pat t x source a = if t then (Ok (pat_id (length a.entries)), with_made a x source) else (Err Full, a)

pub made_pat_last : (x : HirPat) (source : Option Pointer) → LastPat (λ i. i) (alloc_desugared_pat x source)
unfolding alloc_desugared_pat store_sink.alloc_desugared_pat
made_pat_last x source = record { last = λ b. by b (nat_lt (length b.stored.pats.entries) b.stored.pats.limit) }
  where
    by : (b : Builder) (t : Bool) → EndsAt in_pats (λ i. i) (hidden_pat t x source b.stored.pats).0
        (record b { stored = record b.stored { pats = (hidden_pat t x source b.stored.pats).1 } })
    by b true = let more = length-append b.stored.pats.entries (x ∷ []) in omega (arith, more)
    by b false = tt

pub stays_point_pat : (at : Pointer) (i : PatId) → Stays in_pats (point_pat at i)
unfolding point_pat store_sink.point_pat
stays_point_pat at i = record { stays = λ b. refl }

pub stays_define : (b : BindingId) (i : PatId) → Stays in_pats (define b i)
unfolding define store_sink.define
stays_define b i = record { stays = λ c. refl }

pub stays_point_target : (at : Pointer) (i : PatId) → Stays in_pats (point_target at i)
unfolding point_target store_sink.point_target
stays_point_target at i = record { stays = λ b. refl }

-- with a table
abbrev LastWith : Lowering (PatId × Table) → Type 0
LastWith p = LastPat (λ r. r.0) p

-- of several alternatives: those behind the ones that are done are more

abbrev Behind : List PatId → Checked (List PatId × Table) → Type 0
Behind done (Ok r) = (more : List PatId) × (r.0 ≡ done ++ more)
Behind done (Err e) = Unit {0}

behind_more : (done : List PatId) (i : PatId) (o : Checked (List PatId × Table)) → Behind (done ++ i ∷ []) o → Behind done o
behind_more done i (Ok r) h = (i ∷ h.0, h.1 ∙ append_assoc done (i ∷ []) h.0)
behind_more done i (Err e) h = tt

later_behind : (ps : Pats) (done : List PatId) (t : Table) (b : Builder) → Behind done (lower.lower_later ps done t b).0
later_behind tree.no_pats done t b = ([], sym (append-nil done))
later_behind (tree.more_pats p ps) done t b =
    by (lower.lower_pat p (next_alternative t) b).0 (lower.lower_pat p (next_alternative t) b).1
    (λ r c. later_behind ps (done ++ r.0 ∷ []) r.1 c)
  where
    by : (o : Checked (PatId × Table)) (c : Builder)
        → ((r : PatId × Table) (d : Builder) → Behind (done ++ r.0 ∷ []) (lower.lower_later ps (done ++ r.0 ∷ []) r.1 d).0)
        → Behind done (go_on o c (λ r. lower.lower_later ps (done ++ r.0 ∷ []) r.1)).0
    by (Ok r) c later = behind_more done r.0 (lower.lower_later ps (done ++ r.0 ∷ []) r.1 c).0 (later r c)
    by (Err e) c later = tt
later_behind (tree.tracked_pats called ps) done t b = by (emitted called b).0 (emitted called b).1 (λ c. later_behind ps done t c)
  where
    by : (o : Checked (Unit {0})) (c : Builder) → ((d : Builder) → Behind done (lower.lower_later ps done t d).0)
        → Behind done (go_on o c (λ u. lower.lower_later ps done t)).0
    by (Ok u) c later = later c
    by (Err e) c later = tt

module _ (at : Pointer) where
  abbrev chosen : List PatId × Table → Lowering (PatId × Table)
  chosen rs = pats.or_of at rs.0 >>= (λ i. pure (i, pats.leave_or rs.1))

  chosen_last : (i j : PatId) (more : List PatId) (rs : List PatId × Table) → rs.0 ≡ i ∷ (j ∷ more) → LastWith (chosen rs)
  chosen_last i j more rs e = subst (λ is. LastWith (pats.or_of at is >>= (λ k. pure (k, pats.leave_or rs.1)))) (sym e)
      (last_given in_pats (λ k. (k, pats.leave_or rs.1)) (λ k. refl) (pat_last _ _))

  -- behind two of them
  many_last : (ps : Pats) (i j : PatId) (t : Table) → LastWith (lower.lower_later ps (i ∷ (j ∷ [])) t >>= chosen)
  many_last ps i j t = record {
    last = λ b. by (lower.lower_later ps (i ∷ (j ∷ [])) t b).0 (lower.lower_later ps (i ∷ (j ∷ [])) t b).1
        (later_behind ps (i ∷ (j ∷ [])) t b);
  }
    where
      by : (o : Checked (List PatId × Table)) (c : Builder) → Behind (i ∷ (j ∷ [])) o
          → EndsAt in_pats (λ (r : PatId × Table). r.0) (go_on o c chosen).0 (go_on o c chosen).1
      by (Ok rs) c h = (chosen_last i j h.0 rs h.1).last c
      by (Err e) c h = tt

  -- behind one of them, which is the last by then; what is told of a call stores none
  later_last : (ps : Pats) (i : PatId) (t : Table) (b : Builder) → suc i.0 ≡ length b.stored.pats.entries
      → let r = (lower.lower_later ps (i ∷ []) t >>= chosen) b in EndsAt in_pats (λ (x : PatId × Table). x.0) r.0 r.1
  later_last tree.no_pats i t b e = e
  later_last (tree.more_pats q qs) i t b e =
      (last_joined in_pats (lower.lower_pat q (next_alternative t)) (λ s. lower.lower_later qs (i ∷ (s.0 ∷ [])) s.1) chosen
      (λ s. many_last qs i s.0 s.1)).last b
  later_last (tree.tracked_pats called qs) i t b e =
      subst (λ r. EndsFrom r.0 r.1) (sym ((only_emitted called).is b)) (later_last qs i t _ e)
    where
      EndsFrom : Checked (Unit {0}) → Builder → Type 0
      EndsFrom o c =
          let x = go_on o c (λ u. lower.lower_later qs (i ∷ []) t) in
          let y = go_on x.0 x.1 chosen in EndsAt in_pats (λ (z : PatId × Table). z.0) y.0 y.1

  pub or_last : (ps : Pats) (t : Table) (p : PatSteps) → LastWith (p (pats.enter_or t))
      → LastWith (pats.or_form at p (lower.lower_later ps) t)
  unfolding pats.or_form
  or_last ps t p h = record { last = λ b. by (p (pats.enter_or t) b).0 (p (pats.enter_or t) b).1 (h.last b) }
    where
      by : (o : Checked (PatId × Table)) (c : Builder) → EndsAt in_pats (λ r. r.0) o c
          → let x = go_on o c (λ r. lower.lower_later ps (r.0 ∷ []) r.1 >>= chosen) in EndsAt in_pats (λ (x : PatId × Table). x.0) x.0 x.1
      by (Ok r) c e = later_last ps r.0 r.1 c e
      by (Err f) c e = tt

-- types

abbrev pub in_types : Counted TypeRefId
in_types = record { place = λ i. i.0; count = λ s. length s.types.entries }

abbrev pub LastType : Lowering TypeRefId → Type 0
LastType p = LastOf in_types (λ i. i) p

abbrev made_type : Bool → TypeRef → Option Pointer → Sourced TypeRef TypeRefId → Checked TypeRefId × Sourced TypeRef TypeRefId
made_type t x source a = if t then (Ok (type_id (length a.entries)), with_entry type_id a x source) else (Err Full, a)

pub stored_last : (x : TypeRef) (source : Option Pointer) → LastType (alloc_type x source)
unfolding alloc_type store_sink.alloc_type
stored_last x source = record { last = λ b. by b (nat_lt (length b.stored.types.entries) b.stored.types.limit) }
  where
    by : (b : Builder) (t : Bool) → EndsAt in_types (λ i. i) (made_type t x source b.stored.types).0
        (record b { stored = record b.stored { types = (made_type t x source b.stored.types).1 } })
    by b true = let more = length-append b.stored.types.entries (x ∷ []) in omega (arith, more)
    by b false = tt

pub stays_point_type : (at : Pointer) (i : TypeRefId) → Stays in_types (point_type at i)
unfolding point_type store_sink.point_type
stays_point_type at i = record { stays = λ b. refl }

-- what an `impl` becomes

stays_track_down : (f : SideOutput → SideOutput) → Stays in_types (track_down f)
unfolding track_down
stays_track_down f = record { stays = λ b. refl }

pub becoming_last : (at : Pointer) (mode : ImplTrait) (bounds : List TypeBound) → LastType (becoming at mode bounds)
unfolding argument_form
becoming_last at becomes.Error bounds = stored_last _ _
becoming_last at becomes.Opaque bounds = stored_last _ _
becoming_last at (becomes.Argument def) bounds = lastly in_types (add_param _)
    (λ k. last_before in_types (λ i. i) (λ i. refl) (stored_last _ _) (λ t. stays_track_down _))
