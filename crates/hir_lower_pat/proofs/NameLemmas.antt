-- What the bindings of a top pattern know of its names.
use Rattle.std.proofs.Common.{arith, ◌≡◌, ◌∙◌, ◌≤◌, ◌<◌, ◌+◌, ℕ, zero, suc, Bool, true, false, cond, refl}
use Rattle.std.proofs.Common.{sym, ap, subst}
use Rattle.std.proofs.Common.{List, [], ◌∷◌, ◌++◌, length, length-append, None, Option, Some}
use Rattle.std.specs.Prelude.{◌&&◌, drop, nat_eq, slice_get, if◌then◌else◌, Result, Ok, Err, OnOk}
use Rattle.std.specs.Map.{lookup}
use Rattle.std.proofs.lemmas.Bool.{eq-eqb}
use Rattle.std.proofs.lemmas.Bool.Decides.{nat_tests}
use Rattle.std.proofs.lemmas.Option.{same_Some}
use Rattle.indexmap.specs.IndexMap.{insert_entry}
use Rattle.hir_store.specs.Arenas.{past}
use Rattle.hir_store.specs.Names.{same_name}
use Rattle.hir_store.specs.contracts.ids.HygieneIdPartialEq.TheImpl as hygienes
use Rattle.hir_store.specs.contracts.name.NamePartialEq.TheImpl as names
use Rattle.hir_store.specs.declared.ids.BindingId.{BindingId}
use Rattle.hir_store.specs.declared.name.Name.{Name}
use Rattle.hir_store.specs.declared.name.Name.TheVariants as name
use Rattle.hir_store.specs.Range.{Grows, HasBindingId, HasNone}
use Rattle.hir_store.specs.Stored.{Stored}
use Rattle.hir_binding.specs.Bindings.{count_with, depth, name_count, tracked}
use Rattle.hir_binding.specs.declared.binding.BindingProblems.{BindingProblems}
use Rattle.hir_env.specs.ResolvedTree.{Use}
use Rattle.hir_lower_builder.specs.Builder.{Builder}
use Rattle.hir_lower_builder.specs.Lowering.{Lowers, alloc_binding, go_on, pure, set_problem}
use Rattle.hir_lower_builder.specs.Pats.{Key, SideOutput, binding_of, key_of, new_binding, track_use, number_of, same_key, use_name}
use Rattle.hir_lower_builder.specs.Pats.{settle_from, use_of_known, with_name, with_use}
use Rattle.hir_lower_pat.specs.Bindings.{HasNames, LowersNamed, SameDepth, table_of}
use Rattle.hir_lower_pat.specs.declared.bindings.Bindings.{Bindings}

-- what is noted of each is noted of all
pub all_tracked : (f g : SideOutput) → ((n : ℕ) → f n ≡ g n) → f ≡ g
all_tracked f g h = λ i n. h n i

pub all_tracked_on : {A E : Type 0} (r : Result A E) (f g : SideOutput) → OnOk r ((n : ℕ) → f n ≡ g n) → OnOk r (f ≡ g)
all_tracked_on (Ok a) f g h = all_tracked f g h
all_tracked_on (Err e) f g h = tt

-- bindings

-- the bindings of names exist
abbrev past_ids : List (Key × BindingId) → ℕ
past_ids es = past (λ e. suc e.1.0) es

pub found_exists : (test : Key → Bool) (es : List (Key × BindingId)) (b : BindingId) (m : ℕ) → lookup test es ≡ Some b
    → past_ids es ≤ m → suc b.0 ≤ m
found_exists test [] b m h k = cc
found_exists test (e ∷ es) b m h k = by (test e.0) h (λ g. found_exists test es b m g (omega (arith, k)))
  where
    by : (t : Bool) → cond t (Some e.1) (lookup test es) ≡ Some b → (lookup test es ≡ Some b → suc b.0 ≤ m) → suc b.0 ≤ m
    by true g rest = let is = ap (λ i. i.0) (same_Some e.1 b g) in omega (arith, is, k)
    by false g rest = rest g

pub entry_exists : (es : List (Key × BindingId)) (n : ℕ) (e : Key × BindingId) (m : ℕ) → slice_get es n ≡ Some e
    → past_ids es ≤ m → suc e.1.0 ≤ m
entry_exists [] n e m h k = cc
entry_exists (x ∷ es) zero e m h k = let is = ap (λ i. i.1.0) (same_Some x e h) in omega (arith, is, k)
entry_exists (x ∷ es) (suc n) e m h k = entry_exists es n e m h (omega (arith, k))

pub past_more : (es : List (Key × BindingId)) (k : Key) (b : BindingId) (m : ℕ) → past_ids es ≤ m → suc b.0 ≤ m
    → past_ids (es ++ (k, b) ∷ []) ≤ m
past_more [] k b m h j = omega (arith, j)
past_more (e ∷ es) k b m h j = let rest = past_more es k b m (omega (arith, h)) j in omega (arith, h, rest)

-- the test of equal names that the language derives is that of the description
same_names : (x y : Name) → names.ghosts.eq x y ≡ same_name x y
same_names (name.Text a) (name.Text b) = refl
same_names (name.Text a) name.Missing = refl
same_names (name.Text a) (name.Generated b) = refl
same_names name.Missing (name.Text b) = refl
same_names name.Missing name.Missing = refl
same_names name.Missing (name.Generated b) = refl
same_names (name.Generated a) (name.Text b) = refl
same_names (name.Generated a) name.Missing = refl
same_names (name.Generated a) (name.Generated b) = refl

pub same_keys : (x y : Key) → (names.ghosts.eq x.0 y.0 && hygienes.ghosts.eq x.1 y.1) ≡ same_key x y
same_keys x y = λ i. same_names x.0 y.0 i && nat_eq x.1.0 y.1.0

-- a name that has no binding goes last
new_name : (test : Key → Key → Bool) → ((x y : Key) → test x y ≡ same_key x y) → (es : List (Key × BindingId)) (k : Key)
    (b : BindingId) → lookup (same_key k) es ≡ None → insert_entry test es k b ≡ es ++ (k, b) ∷ []
new_name test agree [] k b h = refl
new_name test agree (e ∷ es) k b h = by (same_key k e.0) (agree k e.0) h (new_name test agree es k b)
  where
    by : (c : Bool) → test k e.0 ≡ c → cond c (Some e.1) (lookup (same_key k) es) ≡ None
        → (lookup (same_key k) es ≡ None → insert_entry test es k b ≡ es ++ (k, b) ∷ [])
        → insert_entry test (e ∷ es) k b ≡ e ∷ (es ++ (k, b) ∷ [])
    by true is g rest = cc
    by false is g rest = ap (λ c. if c then (e.0, b) ∷ es else e ∷ insert_entry test es k b) is ∙ ap (λ z. e ∷ z) (rest g)

pub goes_last : {A E : Type 0} (r : Result A E) (test : Key → Key → Bool) → ((x y : Key) → test x y ≡ same_key x y)
    → (was is : List (Key × BindingId)) (k : Key) (b : BindingId) → OnOk r (is ≡ insert_entry test was k b)
    → lookup (same_key k) was ≡ None → OnOk r (is ≡ was ++ (k, b) ∷ [])
goes_last (Ok a) test agree was is k b h none = h ∙ new_name test agree was k b none
goes_last (Err e) test agree was is k b h none = tt

-- counts

differ : (n m : ℕ) → n < m → nat_eq n m ≡ false
differ n m h = grind (arith, nat_tests)

pub known_counted : (n count : ℕ) → n < count → count_with n count ≡ count
known_counted n count h = ap (λ b. if b then count + 1 else count) (differ n count h)

pub ruleset known_names = (found_exists, known_counted)

pub next_counted : (count : ℕ) → count_with count count ≡ count + 1
next_counted count = ap (λ b. if b then count + 1 else count) (eq-eqb count count refl)

-- one binding after another

pub drop_entry : {A : Type 0} (xs : List A) (n : ℕ) (x : A) → slice_get xs n ≡ Some x → drop n xs ≡ x ∷ drop (suc n) xs
drop_entry [] n x h = cc
drop_entry (y ∷ xs) zero x h = ap (λ z. z ∷ xs) (same_Some y x h)
drop_entry (y ∷ xs) (suc n) x h = drop_entry xs n x h

pub drop_none : {A : Type 0} (xs : List A) (n : ℕ) → slice_get xs n ≡ None → drop n xs ≡ []
drop_none [] zero h = refl
drop_none [] (suc n) h = refl
drop_none (y ∷ xs) zero h = cc
drop_none (y ∷ xs) (suc n) h = drop_none xs n h

pub ruleset dropped_entries = (drop_entry, drop_none)

none_after : {A : Type 0} (xs : List A) (n : ℕ) → slice_get xs n ≡ None → slice_get xs (suc n) ≡ None
none_after [] n h = refl
none_after (y ∷ xs) zero h = cc
none_after (y ∷ xs) (suc n) h = none_after xs n h

pub settles_entry : (tracked : SideOutput) (n : ℕ) (es : List (Key × BindingId)) (e : Key × BindingId) (b c : Builder)
    → slice_get es n ≡ Some e
    → set_problem e.1 (tracked n).problem b ≡ (Ok tt, c)
    → settle_from tracked n (drop n es) b ≡ settle_from tracked (suc n) (drop (suc n) es) c
settles_entry tracked n es e b c at done =
    ap (λ xs. settle_from tracked n xs b) (drop_entry es n e at)
    ∙ ap (λ r. go_on r.0 r.1 (λ _. settle_from tracked (suc n) (drop (suc n) es))) done

pub settles_nothing : (tracked : SideOutput) (n : ℕ) (es : List (Key × BindingId)) (b : Builder) → slice_get es n ≡ None
    → settle_from tracked n (drop n es) b ≡ settle_from tracked (suc n) (drop (suc n) es) b
settles_nothing tracked n es b at =
    ap (λ xs. settle_from tracked n xs b) (drop_none es n at)
    ∙ sym (ap (λ xs. settle_from tracked (suc n) xs b) (drop_none es (suc n) (none_after es n at)))

-- uses

pub stays : (s : Stored) → Grows s s
stays s = (omega arith, omega arith, omega arith, omega arith, omega arith, omega arith)

-- a name that has a binding is used again
pub used_again : (u : Use) (was is : Bindings) (b : Builder) (id : BindingId) (number : ℕ)
    → binding_of (key_of u) (table_of was) ≡ Some id → number ≡ number_of (key_of u) (table_of was)
    → number < length was.ids → is.ids ≡ was.ids → tracked is.list ≡ track_use number u.mode (tracked was.list)
    → name_count is.list ≡ count_with number (name_count was.list) → SameDepth was is → HasNames b.stored was
    → LowersNamed HasBindingId (use_name u) was b (Ok id) is b
unfolding use_name
used_again u was is b id number found at within ids tracks count deep names =
    let counted : number < name_count was.list = omega (arith, within, names.0) in (
      ap (λ o. use_of_known u (table_of was) o b) found ∙ (λ j. (
        Ok (
          id,
          record {
            bindings = sym ids j;
            tracked = (ap (λ n. track_use n u.mode (tracked was.list)) (sym at) ∙ sym tracks) j;
          },
        ),
        b,
      )),
      stays b.stored,
      found_exists (same_key (key_of u)) was.ids id (length b.stored.bindings.entries) found names.1,
      (
        count ∙ (known_counted number (name_count was.list) counted ∙ (names.0 ∙ ap length (sym ids))),
        subst (λ i. past_ids i ≤ length b.stored.bindings.entries) (sym ids) names.1,
      ),
      deep,
    )

-- a name that has none is used first
pub used_first : (u : Use) (was mid is : Bindings) (b c : Builder) (id : BindingId) (n : Name) → n ≡ u.name
    → Lowers HasBindingId (alloc_binding (record (new_binding u) { name = n })) b (Ok id) c
    → (number : ℕ) → number ≡ length was.ids
    → mid.ids ≡ was.ids → tracked mid.list ≡ track_use number u.mode (tracked was.list)
    → name_count mid.list ≡ count_with number (name_count was.list) → SameDepth was mid
    → is.ids ≡ mid.ids ++ (key_of u, id) ∷ [] → is.list ≡ mid.list → HasNames b.stored was
    → LowersNamed HasBindingId (λ t. use_of_known u t None) was b (Ok id) is c
used_first u was mid is b c id n copied stored number at ids tracks count deep entries list names =
    let made : Lowers HasBindingId (alloc_binding (new_binding u)) b (Ok id) c
    = subst (λ m. Lowers HasBindingId (alloc_binding (record (new_binding u) { name = m })) b (Ok id) c) copied stored in
    let all : is.ids ≡ was.ids ++ (key_of u, id) ∷ [] = entries ∙ ap (λ i. i ++ (key_of u, id) ∷ []) ids in
    let longer : length is.ids ≡ length was.ids + 1
    = ap length all ∙ length-append was.ids ((key_of u, id) ∷ []) in
    let counted : count_with (length was.ids) (name_count was.list) ≡ length was.ids + 1
    = ap (count_with (length was.ids)) names.0 ∙ next_counted (length was.ids) in
    let tracked_last : tracked mid.list ≡ track_use (length was.ids) u.mode (tracked was.list)
    = tracks ∙ ap (λ k. track_use k u.mode (tracked was.list)) at in
    let counted_last = count ∙ ap (λ k. count_with k (name_count was.list)) at in (
      ap (λ r. go_on r.0 r.1 (λ i. pure (i, with_use (length was.ids) u.mode (with_name (key_of u) i (table_of was))))) made.0
          ∙ (λ j. (Ok (id, record { bindings = sym all j; tracked = (sym tracked_last ∙ ap tracked (sym list)) j }), c)),
      made.1,
      made.2,
      (
        ap name_count list ∙ (counted_last ∙ (counted ∙ sym longer)),
        subst (λ es. past_ids es ≤ length c.stored.bindings.entries) (sym all)
            (past_more was.ids (key_of u) id (length c.stored.bindings.entries) (past_later names.1 made.1) made.2),
      ),
      ap depth list ∙ deep,
    )
  where
    past_later : past_ids was.ids ≤ length b.stored.bindings.entries → Grows b.stored c.stored
        → past_ids was.ids ≤ length c.stored.bindings.entries
    past_later h (_, _, _, _, _, le) = omega (arith, h, le)

-- what is stored further takes no name away
pub names_grow : (s t : Stored) (b : Bindings) → Grows s t → HasNames s b → HasNames t b
names_grow s t b more names = (names.0, omega (arith, names.1, more.5))

grows_on : (a b c : Stored) → Grows a b → Grows b c → Grows a c
grows_on a b c g h = (
  omega (arith, g.0, h.0),
  omega (arith, g.1, h.1),
  omega (arith, g.2, h.2),
  omega (arith, g.3, h.3),
  omega (arith, g.4, h.4),
  omega (arith, g.5, h.5),
)

-- the problems of the first n names are written
abbrev pub Settled : Bindings → ℕ → Builder → Builder → Type 0
Settled b n first now =
    (settle_from (tracked b.list) 0 b.ids first ≡ settle_from (tracked b.list) n (drop n b.ids) now)
    × Grows first.stored now.stored × HasNames now.stored b

pub settled_on : (b : Bindings) (n : ℕ) (first old new : Builder) (e : Key × BindingId) (problem : Option BindingProblems)
    → slice_get b.ids n ≡ Some e → problem ≡ (tracked b.list n).problem → Lowers HasNone (set_problem e.1 problem) old (Ok tt) new
    → Settled b n first old → Settled b (suc n) first new
settled_on b n first old new e problem at is (step, more, _) (so_far, grown, names) = (
  so_far ∙ settles_entry (tracked b.list) n b.ids e old new at (ap (λ p. set_problem e.1 p old) (sym is) ∙ step),
  grows_on first.stored old.stored new.stored grown more,
  names_grow old.stored new.stored b more names,
)

pub settled_past : (b : Bindings) (n : ℕ) (first now : Builder) → slice_get b.ids n ≡ None → Settled b n first now
    → Settled b (suc n) first now
settled_past b n first now at (so_far, grown, names) =
    (so_far ∙ settles_nothing (tracked b.list) n b.ids now at, grown, names)
