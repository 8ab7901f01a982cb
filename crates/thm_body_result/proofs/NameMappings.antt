-- The names of a pattern have bindings that came since, and what settles them changes no other.
use Rattle.std.proofs.Common.{arith, ◌≡◌, ◌∙◌, refl, sym, ap, subst, ℕ, zero, suc, ◌≤◌, Bool, length}
use Rattle.std.proofs.Common.{List, [], ◌∷◌, ◌++◌, append-nil, append_assoc, Option, Some, None, Ok, Err, ◌⊎◌, inl, inr, ⊎_elim}
use Rattle.hir_store.specs.Arenas.{Prefix}
use Rattle.hir_store.specs.Bindings.{at_place, problem_set, with_problem}
use Rattle.hir_store.proofs.BindingLemmas.{length_at}
use Rattle.hir_store.specs.Pointers.{Pointer}
use Rattle.hir_store.specs.Stored.{Stored}
use Rattle.hir_store.specs.StoreSink as store_sink
use Rattle.hir_store.specs.declared.ids.BindingId.{BindingId}
use Rattle.hir_store.specs.declared.ids.PatId.{PatId}
use Rattle.hir_store.specs.declared.pat.Binding.{Binding}
use Rattle.hir_env.specs.ResolvedTree.{Pats, Use}
use Rattle.hir_lower_builder.specs.Builder.{Builder}
use Rattle.hir_lower_builder.specs.Lower.{lower_later}
use Rattle.hir_lower_builder.specs.Lowering.{Checked, Lowering, ◌>>=◌, alloc_binding, define, go_on, pure, set_problem}
use Rattle.hir_lower_builder.specs.Pats.{Key, Table, SideOutput, PatSteps, counted_dots, counted_place, enter_or, key_of, leave_or}
use Rattle.hir_lower_builder.specs.Pats.{new_binding}
use Rattle.hir_lower_builder.specs.Pats.{no_names, or_form, or_of, settle, settle_from, small_place}
use Rattle.hir_lower_scope.specs.Each.{Each}
use Rattle.thm_logic.proofs.Logic.{longer}
use Rattle.thm_logic.proofs.Answering.{Answering}
use Rattle.thm_logic.proofs.Graded.{FirstIs}
use Rattle.thm_body_result.specs.LeadsOn.{Went}
use Rattle.thm_body_result.proofs.Onward.{Leading, Low, Goes, any, in_turn, leading_pure, new_pat, iteration_where, weaker}
use Rattle.thm_body_result.proofs.Mappings.{leading_alloc_binding, leading_alloc_pat, leading_count_out, leading_define}

-- The names of a table are those that were known, and others with bindings that came since.
pub record NewNames (known : List (Key × BindingId)) (s : Stored) (later : List (Key × BindingId)) : Type 0 where
  pub more : List (Key × BindingId)
  pub is : later ≡ known ++ more
  pub since : Each (λ e. length s.bindings.entries ≤ e.1.0) more

abbrev pub names : {A : Type 0} → Table → Low (A × Table)
names t s r = NewNames t.bindings s r.1.bindings

each_sooner : (n m : ℕ) (es : List (Key × BindingId)) → n ≤ m → Each (λ e. m ≤ e.1.0) es → Each (λ e. n ≤ e.1.0) es
each_sooner n m [] le h = tt
each_sooner n m (e ∷ es) le h = let x = h.0 in (omega (arith, le, x), each_sooner n m es le h.1)

each_append : (n : ℕ) (xs ys : List (Key × BindingId)) → Each (λ e. n ≤ e.1.0) xs → Each (λ e. n ≤ e.1.0) ys
    → Each (λ e. n ≤ e.1.0) (xs ++ ys)
each_append n [] ys h k = k
each_append n (x ∷ xs) ys h k = (h.0, each_append n xs ys h.1 k)

none_new : (known : List (Key × BindingId)) (s : Stored) → NewNames known s known
none_new known s = record { more = []; is = sym (append-nil known); since = tt }

new_later : (a b c : List (Key × BindingId)) (s t : Stored) → Went s t → NewNames a s b → NewNames b t c → NewNames a s c
new_later a b c s t w g h = record {
  more = g.more ++ h.more;
  is = h.is ∙ (ap (λ xs. xs ++ h.more) g.is ∙ append_assoc a g.more h.more);
  since = each_append _ g.more h.more g.since (each_sooner _ _ h.more (longer w.bindings) h.since);
}

-- what hands this table on
pub unnamed : {A : Type 0} (a : A) (t u : Table) → u.bindings ≡ t.bindings → Leading (names t) (pure (a, u))
unnamed {A = A} a t u e = record {
  goes = λ b. (
    ((leading_pure {A = A × Table} (a, u)).goes b).0,
    subst (λ es. NewNames t.bindings b.stored es) (sym e) (none_new t.bindings b.stored),
  );
}

-- one table for another with the same names
pub renamed : {A : Type 0} (t u : Table) {p : Lowering (A × Table)} → u.bindings ≡ t.bindings → Leading (names u) p → Leading (names t) p
renamed t u {p = p} e h = subst (λ es. Leading (λ s r. NewNames es s r.1.bindings) p) e h

-- what uses names, and then what goes on with them
pub then_names : {A B : Type 0} {P : A × Table → Type 0} {p : Lowering (A × Table)} {f : A × Table → Lowering (B × Table)} (t : Table)
    → Leading (names t) p → Answering P p → ((r : A × Table) → P r → Leading (names r.1) (f r)) → Leading (names t) (p >>= f)
then_names t h known k = iteration_where (λ r. names r.1) (names t) (λ s u r x w l m. new_later _ _ _ s u w l m) h known k

-- what uses none, and then what does
pub beside : {A B : Type 0} {P : A → Type 0} {L : Low A} {p : Lowering A} {f : A → Lowering (B × Table)} (t : Table) → Leading L p
    → Answering P p → ((a : A) → P a → Leading (names t) (f a)) → Leading (names t) (p >>= f)
beside t h known k =
    iteration_where (λ a. names t) (names t) (λ s u a x w l m. new_later _ _ _ s u w (none_new t.bindings s) m) h known k

-- a name that is bound
pub new_name_leads : (u : Use) (t : Table) (with_it : BindingId → Table)
    → ((b : BindingId) → (with_it b).bindings ≡ t.bindings ++ (key_of u, b) ∷ [])
    → Leading (names t) (alloc_binding (new_binding u) >>= (λ b. pure (b, with_it b)))
new_name_leads u t with_it e = in_turn (λ b. names (with_it b)) (names t)
    (λ s v b x w l m. new_later _ _ _ s v w (record { more = (key_of u, b) ∷ []; is = e b; since = (l, tt) }) m)
    (leading_alloc_binding (new_binding u)) (λ b. unnamed b (with_it b) (with_it b) refl)

-- and a pattern that came since
abbrev pub named_pat : Table → Low (PatId × Table)
named_pat t s r = new_pat s r.0 × names t s r

pub only_names : (t : Table) {p : Lowering (PatId × Table)} → Leading (named_pat t) p → Leading (names t) p
only_names t h = weaker (λ s r l. l.1) h

-- the answer is this pattern
abbrev just : PatId → Table → Low (PatId × Table)
just i t s r = (r.0.0 ≡ i.0) × names t s r

just_this : (i : PatId) (t u : Table) → u.bindings ≡ t.bindings → Leading (just i t) (pure (i, u))
just_this i t u e =
    record { goes = λ b. (((leading_pure {A = PatId × Table} (i, u)).goes b).0, (refl, ((unnamed i t u e).goes b).1)) }

-- what is made, and then handed on
then_just : {p : Lowering PatId} {f : PatId → Lowering (PatId × Table)} (t : Table) → Leading new_pat p
    → ((i : PatId) → Leading (just i t) (f i)) → Leading (named_pat t) (p >>= f)
then_just t h k = in_turn (λ i. just i t) (named_pat t)
    (λ s u i r w l m. let same = m.0 in (omega (arith, l, same), new_later _ _ _ s u w (none_new t.bindings s) m.1)) h k

pub alone_leads : (t u : Table) {p : Lowering PatId} → u.bindings ≡ t.bindings → Leading new_pat p
    → Leading (named_pat t) (p >>= (λ i. pure (i, u)))
alone_leads t u e h = then_just t h (λ i. just_this i t u e)

pub named_alone_leads : (b : BindingId) (t u : Table) {p : Lowering PatId} → u.bindings ≡ t.bindings → Leading new_pat p
    → Leading (named_pat t) (p >>= (λ i. define b i >>= (λ v. pure (i, u))))
named_alone_leads b t u e h = then_just t h (λ i. in_turn (λ v. just i t) (just i t)
    (λ s v x r w l m. (m.0, new_later _ _ _ s v w (none_new t.bindings s) m.1)) (leading_define b i) (λ v. just_this i t u e))

-- what uses names, or none, and then what makes a pattern
pub then_pat : {A : Type 0} {P : A × Table → Type 0} {p : Lowering (A × Table)} {f : A × Table → Lowering (PatId × Table)} (t : Table)
    → Leading (names t) p → Answering P p → ((r : A × Table) → P r → Leading (named_pat r.1) (f r)) → Leading (named_pat t) (p >>= f)
then_pat t h known k = iteration_where (λ r. named_pat r.1) (named_pat t)
    (λ s u r x w l m. let grown = w.pats.grown in let new = m.0 in (omega (arith, grown, new), new_later _ _ _ s u w l m.1)) h known k

pub beside_pat : {A : Type 0} {P : A → Type 0} {L : Low A} {p : Lowering A} {f : A → Lowering (PatId × Table)} (t : Table)
    → Leading L p → Answering P p → ((a : A) → P a → Leading (named_pat t) (f a)) → Leading (named_pat t) (p >>= f)
beside_pat t h known k = iteration_where (λ a. named_pat t) (named_pat t)
    (λ s u a x w l m. let grown = w.pats.grown in let new = m.0 in
    (omega (arith, grown, new), new_later _ _ _ s u w (none_new t.bindings s) m.1)) h known k

-- a place behind a list
beyond : (xs more : List Binding) (n : ℕ) (f : Binding → Binding) → length xs ≤ n → Prefix xs (at_place n f (xs ++ more))
beyond [] more n f h = record { more = at_place n f more; is = refl }
beyond (x ∷ xs) more zero f h = absurd (omega (arith, h))
beyond (x ∷ xs) more (suc n) f h = let r = beyond xs more n f (omega (arith, h)) in record { more = r.more; is = ap (λ ys. x ∷ ys) r.is }

-- a binding that came since is changed
changed : (xs ys : List Binding) (n : ℕ) (f : Binding → Binding) → length xs ≤ n → Prefix xs ys → Prefix xs (at_place n f ys)
changed xs ys n f h p = subst (λ zs. Prefix xs (at_place n f zs)) (sym p.is) (beyond xs p.more n f h)

settled : (tracked : SideOutput) (number : ℕ) (es : List (Key × BindingId)) (s : Stored) (b : Builder) → Went s b.stored
    → Each (λ e. length s.bindings.entries ≤ e.1.0) es → Went s (settle_from tracked number es b).1.stored
unfolding set_problem store_sink.set_problem
settled tracked number [] s b w h = w
settled tracked number (e ∷ es) s b w h =
    let problem = (tracked number).problem in
    let after = record b { stored = record b.stored { bindings = with_problem b.stored.bindings e.1 problem } } in
    settled tracked (suc number) es s after (record {
      exprs = w.exprs;
      labels = w.labels;
      pats = w.pats;
      types = w.types;
      targets = w.targets;
      lifetimes = w.lifetimes;
      bindings = changed s.bindings.entries b.stored.bindings.entries e.1.0 (problem_set problem) h.0 w.bindings;
      owners = λ m. let x = w.owners m in (x.0, x.1 ∙ sym (length_at e.1.0 (problem_set problem) b.stored.bindings.entries));
    }) h.1

-- of a whole pattern the names are settled at its end, and no others
pub top_leads : {p : Lowering (PatId × Table)} → Leading (names no_names) p
    → Leading any (p >>= (λ r. settle r.1 >>= (λ u. pure r.0)))
unfolding settle
top_leads {p = p} h = record { goes = λ b. by b (p b).0 (p b).1 (h.goes b) }
  where
    last : (b : Builder) (i : PatId) (o : Checked (Unit {0})) (c : Builder) → Went b.stored c.stored
        → Goes any b (go_on o c (λ u. pure i)).0 (go_on o c (λ u. pure i)).1
    last b i (Ok u) c w = (w, tt)
    last b i (Err e) c w = w

    by : (b : Builder) (o : Checked (PatId × Table)) (c : Builder) → Goes (names no_names) b o c
        → Goes any b (go_on o c (λ r. settle r.1 >>= (λ u. pure r.0))).0
        (go_on o c (λ r. settle r.1 >>= (λ u. pure r.0))).1
    by b (Ok r) c x =
        let end = settle_from r.1.tracked 0 r.1.bindings c in
        let late = subst (λ es. Each (λ e. length b.stored.bindings.entries ≤ e.1.0) es) (sym x.1.is) x.1.since in
        last b r.0 end.0 end.1 (settled r.1.tracked 0 r.1.bindings b.stored c x.0 late)
    by b (Err e) c x = x

-- how many parts stand in front of two dots

place_leads : (place : Option ℕ) → Leading any (counted_place place)
place_leads None = leading_count_out
place_leads (Some n) = leading_pure (Some n)

pub dots_leads : (comma : Bool) (place : Option ℕ) → Leading any (counted_dots comma place)
dots_leads comma None = leading_pure None
dots_leads comma (Some n) = place_leads (small_place comma n)

-- alternatives

-- the first of them, or one that came since
abbrev one_of : PatId → Low PatId
one_of i s x = (x.0 ≡ i.0) ⊎ new_pat s x

-- one alternative is what it is, and others are made one
chosen_leads : (at : Pointer) (i : PatId) (more : List PatId) → Leading (one_of i) (or_of at (i ∷ more))
chosen_leads at i [] = record { goes = λ b. (((leading_pure i).goes b).0, inl refl) }
chosen_leads at i (j ∷ more) = weaker (λ s x l. inr l) (leading_alloc_pat _ (Some at))

abbrev one_named : PatId → Table → Low (PatId × Table)
one_named i t s x = one_of i s x.0 × names t s x

all_lead : (at : Pointer) (i : PatId) (rs : List PatId × Table) → FirstIs i rs
    → Leading (one_named i rs.1) (or_of at rs.0 >>= (λ j. pure (j, leave_or rs.1)))
all_lead at i rs h = in_turn (λ j. just j rs.1) (one_named i rs.1)
    (λ s u j x w l m. let same = m.0 in
    (⊎_elim (λ e. inl (same ∙ e)) (λ n. inr (omega (arith, same, n))) l, new_later _ _ _ s u w (none_new rs.1.bindings s) m.1))
    (subst (λ is. Leading (one_of i) (or_of at is)) (sym h.1) (chosen_leads at i h.0))
    (λ j. just_this j rs.1 (leave_or rs.1) refl)

pub or_leads : (at : Pointer) (ps : Pats) (t : Table) {P : PatId × Table → Type 0} (p : PatSteps)
    → Leading (named_pat (enter_or t)) (p (enter_or t)) → Answering P (p (enter_or t))
    → ((r : PatId × Table) → P r → Leading (names r.1) (lower_later ps (r.0 ∷ []) r.1))
    → ((r : PatId × Table) → P r → Answering (FirstIs r.0) (lower_later ps (r.0 ∷ []) r.1))
    → Leading (named_pat t) (or_form at p (lower_later ps) t)
unfolding or_form
or_leads at ps t p h known later more = iteration_where (λ r. one_named r.0 r.1) (named_pat t)
    (λ s u r x w l m. let grown = w.pats.grown in let first = l.0 in
    (⊎_elim (λ e. omega (arith, first, e)) (λ n. omega (arith, grown, n)) m.0, new_later _ _ _ s u w l.1 m.1))
    h known
    (λ r y. iteration_where (λ rs. one_named r.0 rs.1) (one_named r.0 r.1)
    (λ s u rs x w l m. let grown = w.pats.grown in
    (⊎_elim (λ e. inl e) (λ n. inr (omega (arith, grown, n))) m.0, new_later _ _ _ s u w l m.1))
    (later r y) (more r y) (λ rs z. all_lead at r.0 rs z))
