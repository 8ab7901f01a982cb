-- What paths note: what their segments do, as far as they are read; and of an alias in an argument only what its type names counts.
use Rattle.std.proofs.Common.{◌≡◌, ◌∙◌, refl, sym, ap, subst, ℕ, arith, length, map, take, List, [], ◌∷◌, ◌++◌, Bool, true, false}
use Rattle.std.proofs.Common.{◌||◌, if◌then◌else◌, Option, Some, None, Ok, Err, slice_get, option_map}
use Rattle.std.proofs.lemmas.List.{reverse-append}
use Rattle.std.specs.Prelude.{reverse}
use Rattle.hir_store.specs.Stored.{Stored, store_of, map_of}
use Rattle.hir_store.specs.StoreSink.{Extends}
use Rattle.hir_store.specs.declared.name.Name.{Name}
use Rattle.hir_store.specs.declared.path.GenericArg.{GenericArg}
use Rattle.hir_store.specs.declared.path.GenericArg.TheVariants as arg
use Rattle.hir_store.specs.declared.path.GenericArgs.{GenericArgs}
use Rattle.hir_store.specs.declared.path.AssociatedTypeBinding.TheViews.{out-GenericArgs}
use Rattle.hir_store.specs.declared.path.Path.{Path as HirPath}
use Rattle.hir_store.specs.declared.path.Path.TheVariants.{BarePath, LangItem, Normal}
use Rattle.hir_store.specs.declared.type_ref.LifetimeRef.{LifetimeRef}
use Rattle.hir_store.specs.declared.type_ref.LifetimeRef.TheVariants as lifetime
use Rattle.hir_store.proofs.Extending.{extends_refl, extends_trans}
use Rattle.hir_lower_builder.specs.declared.walk.PathWalk.{PathWalk}
use Rattle.hir_lower_builder.specs.declared.walk.Reading.{Reading}
use Rattle.hir_lower_builder.specs.declared.walk.Reading.TheVariants.{Refused, Ended, Open}
use Rattle.hir_lower_builder.specs.declared.generics.SideOutput.{SideOutput as Notices}
use Rattle.hir_lower_builder.specs.Builder.{Builder}
use Rattle.hir_lower_scope.specs.NameSets.{with_names}
use Rattle.hir_lower_scope.proofs.NameLists.{taken_first}
use Rattle.hir_lower_builder.specs.Generics.{names_at, cut_args, kept_input, lifetime_names, name_of}
use Rattle.hir_lower_builder.specs.Lowering.{Checked, go_on, Lowering, ◌>>=◌, ◌>>◌, pure, input_end, track_down, with_side_output}
use Rattle.hir_lower_builder.specs.Lowering.{with_stored}
use Rattle.hir_lower_builder.specs.Paths.{with_alias, or_count_out, cut_back, cut_path, first_args, last_args, or_else, or_notation}
use Rattle.hir_lower_builder.specs.Paths.{proceed}
use Rattle.hir_lower_builder.specs.Paths.{segment_args_form, whole}
use Rattle.hir_lower_builder.specs.Walks.{args_of, start}
use Rattle.spec_data.specs.Data as datum
use Rattle.spec_data.specs.Data.{OptionArgsData, no_args, some_args}
use Rattle.spec_data.specs.Reading as reading
use Rattle.spec_data.specs.Reading.{lifetime_found}
use Rattle.spec_data.specs.Rule.{Item, Named, PathRead, ended, read, refused, refuses}
use Rattle.thm_round_trip.proofs.Generics.{args_out}
use Rattle.thm_round_trip.proofs.Going.{Goes, PathIs}
use Rattle.thm_round_trip.proofs.Layers.{Reads, a_list, within}
use Rattle.thm_round_trip.proofs.Now.{answered}
use Rattle.thm_round_trip.proofs.Walk.{Answers, Says, begins, lists}
use Rattle.thm_logic.specs.Keeps.{Paired}
use Rattle.thm_logic.proofs.Logic.{Correct, mark}
use Rattle.spec_data.specs.Fold.{if_open, names_among, names_in_args, names_in_list, names_last, names_of_args, text_of, unless}
use Rattle.spec_data.specs.Tracking as tracking
use Rattle.spec_data.specs.Tracking.{Tracking, none, ◌⊕◌, cut}
use Rattle.thm_generics.specs.Lists.{Tracked}
use Rattle.thm_generics.proofs.Logic.{SideOutput, TracksTo, tracked_none, tracks_by, tracks_end}
use Rattle.thm_generics.proofs.Logic.{tracks_pure, tracks_to_both}
use Rattle.thm_generics.proofs.Steps.{tracks_count_out}

-- segments, as far as they are read

-- in each store that goes on these items are read
abbrev pub Knows : List Item → PathWalk → Builder → Type 0
Knows is w b = (final : Stored) → Extends b.stored final → Says final (mark b).entries is (Open w)

-- where these items are read
pub record Behind {A : Type 0} (is : List Item) (w : PathWalk) (n : Tracking) (p : Lowering A) : Type 0 where
  pub at : (b : Builder) → Paired b.stored → Knows is w b → TracksTo n b (p b).0 (p b).1

pub behind_any : {A : Type 0} {is : List Item} {w : PathWalk} {n : Tracking} {p : Lowering A} → SideOutput n p → Behind is w n p
behind_any h = record { at = λ b d k. h.at b d }

or_true : (a : Bool) → (a || true) ≡ true
or_true true = refl
or_true false = refl

-- what refuses of what is read refuses of all
refused_in : (is : List Item) → refused (read is) ≡ true → refused is ≡ true
refused_in [] h = h
refused_in (i ∷ is) h = one (ended is) (refused_in is) h
  where
    one : (e : Bool) → (refused (read is) ≡ true → refused is ≡ true) → refused (if e then read is else i ∷ is) ≡ true
        → refused (i ∷ is) ≡ true
    one true k h = ap (λ r. refuses i.what || r) (k h) ∙ or_true (refuses i.what)
    one false k h = h

refused_read : (is : List Item) → refused (read is) ≡ true → (ended is || refused is) ≡ true
refused_read is h = ap (λ r. ended is || r) (refused_in is h) ∙ or_true (ended is)

closed_none : (is : List Item) (n : Tracking) → (ended is || refused is) ≡ true → if_open is n ≡ none
closed_none is n h = ap (λ c. if c then none else n) h

open_all : (is : List Item) (n : Tracking) → ended is ≡ false → refused is ≡ false → if_open is n ≡ n
open_all is n e r = λ j. if e j || r j then none else n

-- more is read, unless the path has ended or was refused
pub read_then : {is : List Item} {add : List Item → List Item} {w : PathWalk} {m n : Tracking} {p : Lowering Reading}
    {f : PathWalk → Lowering Reading} → Behind is w m p → Correct p (Goes (Open w) add)
    → ((v : PathWalk) → Behind (add is) v n (f v)) → Behind is w (m ⊕ if_open (add is) n) (p >>= (λ r. proceed r f))
read_then {is = is} {add = add} {w = w} {m = m} {n = n} {p = p} {f = f} h goes k =
    record { at = λ b d knows. by b d knows (p b).0 (p b).1 refl (h.at b d knows) }
  where
    next : Reading → Lowering Reading
    next r = proceed r f

    reached : (r : Reading) (c : Builder) → Paired c.stored
        → ((final : Stored) → Extends c.stored final → Says final (mark c).entries (add is) r)
        → TracksTo (if_open (add is) n) c (next r c).0 (next r c).1
    reached Refused c d says = (
      d,
      subst (λ x. Tracked x c c) (sym (closed_none (add is) n
          (refused_read (add is) (says c.stored (extends_refl c.stored))))) (tracked_none (λ p. p) (extends_refl c.stored) refl),
    )
    reached (Ended v) c d says = (
      d,
      subst (λ x. Tracked x c c) (sym (closed_none (add is) n
          (ap (λ e. e || refused (add is)) (says c.stored (extends_refl c.stored)).0)))
          (tracked_none (λ p. p) (extends_refl c.stored) refl),
    )
    reached (Open v) c d says =
        let now = says c.stored (extends_refl c.stored) in
        subst (λ x. TracksTo x c (f v c).0 (f v c).1) (sym (open_all (add is) n now.0 now.1)) ((k v).at c d says)

    by : (b : Builder) → Paired b.stored → Knows is w b → (o : Checked Reading) (c : Builder) → p b ≡ (o, c) → TracksTo m b o c
        → TracksTo (m ⊕ if_open (add is) n) b (go_on o c next).0 (go_on o c next).1
    by b d knows (Ok r) c e x = tracks_to_both (if_open (add is) n) b c x.1 (next r c).0 (next r c).1 (reached r c x.0
        (λ final pre. (answered goes b c r d e final pre).says is (knows final (extends_trans x.1.stays pre))))
    by b d knows (Err u) c e x = tt

pub whole_tracks : {is : List Item} {add : List Item → List Item} {w : PathWalk} {m n : Tracking} {p : Lowering Reading}
    {f : PathWalk → Lowering Reading} → Behind is w m p → Correct p (Goes (Open w) add)
    → ((v : PathWalk) → Behind (add is) v n (f v)) → Behind is w (m ⊕ if_open (add is) n) (whole p f)
unfolding whole
whole_tracks h goes k = read_then h goes k

pub counted_tracks : (r : Option Reading) → SideOutput none (or_count_out r)
counted_tracks (Some r) = tracks_pure r
counted_tracks None = tracks_count_out

-- arguments

pub beside_tracks : (x : OptionArgsData) {D E : Tracking} {as' ps : Lowering (Option GenericArgs)} → SideOutput D as'
    → Correct as' (Reads a_list x)
    → SideOutput E ps → (dots : Bool) → SideOutput (D ⊕ unless x E) (segment_args_form as' ps dots)
unfolding segment_args_form
beside_tracks x {E = E} {ps = ps} h reads k dots = tracks_by (unless x E) (λ a. or_else a ps >>= (λ p. pure (or_notation p dots))) h
    (λ b a c d e is. let r = answered reads b c a d is c.stored (extends_refl c.stored) in
    (tracks_end (by c.stored (mark c).entries a x (r.is (mark c).entries (omega arith))) (λ p. tracks_pure _)).at c e)
  where
    by : (final : Stored) (m : ℕ) (a : Option GenericArgs) (x : OptionArgsData) → a_list final (within final m) a ≡ x
        → SideOutput (unless x E) (or_else a ps)
    by final m None x h = subst (λ y. SideOutput (unless y E) ps) h k
    by final m (Some a) x h = subst (λ y. SideOutput (unless y E) (pure (Some a))) h (tracks_pure (Some a))

-- aliases

-- beside the last name
abbrev data_last : List OptionArgsData → Option (List (Option Name))
data_last [] = None
data_last (a ∷ []) = names_in_list a
data_last (a ∷ b ∷ as') = data_last (b ∷ as')

last_named : (ns : List Named) → names_last ns ≡ data_last (map (λ n. n.args) ns)
last_named [] = refl
last_named (n ∷ []) = refl
last_named (n ∷ (m ∷ ns)) = last_named (m ∷ ns)

-- the last of a list is the first of it backwards
abbrev last_of : List (Option GenericArgs) → Option GenericArgs
last_of [] = None
last_of (a ∷ []) = a
last_of (a ∷ b ∷ as') = last_of (b ∷ as')

first_still : (xs : List (Option GenericArgs)) (b a : Option GenericArgs)
    → first_args ((xs ++ b ∷ []) ++ a ∷ []) ≡ first_args (xs ++ b ∷ [])
first_still [] b a = refl
first_still (x ∷ xs) b a = refl

reversed_first : (as' : List (Option GenericArgs)) → first_args (reverse as') ≡ last_of as'
reversed_first [] = refl
reversed_first (a ∷ []) = refl
reversed_first (a ∷ (b ∷ as')) =
    let behind = reverse-append (b ∷ []) as' in
    ap first_args (reverse-append (a ∷ []) (b ∷ as') ∙ ap (λ xs. xs ++ a ∷ []) behind)
    ∙ (first_still (reverse as') b a ∙ (ap first_args (sym behind) ∙ reversed_first (b ∷ as')))

-- nothing stands beside the names of a bare path
bare_last : (ns : List Name) → last_of (map (λ n. None) ns) ≡ None
bare_last [] = refl
bare_last (n ∷ []) = refl
bare_last (n ∷ (m ∷ ns)) = bare_last (m ∷ ns)

module _ (s : Stored) (d : ℕ) where
  text_found : (l : Option LifetimeRef) → name_of l ≡ text_of (lifetime_found (store_of s) (map_of s) l)
  text_found None = refl
  text_found (Some (lifetime.Named n)) = refl
  text_found (Some lifetime.Static) = refl
  text_found (Some lifetime.Placeholder) = refl
  text_found (Some lifetime.Error) = refl

  names_are : (as' : List GenericArg) → lifetime_names s.lifetimes.entries as'
      ≡ names_among (reading.arguments_layer (store_of s) (map_of s) (within s d) as' datum.no_arguments)
  names_are [] = refl
  names_are (arg.Type_ t ∷ as') = names_are as'
  names_are (arg.Lifetime l ∷ as') = λ j. text_found (slice_get s.lifetimes.entries l.0) j ∷ names_are as' j
  names_are (arg.Const c ∷ as') = names_are as'

  -- of stored arguments
  abbrev names_stored : Option GenericArgs → Option (List (Option Name))
  names_stored a = option_map (λ x. lifetime_names s.lifetimes.entries (out-GenericArgs x).args) a

  list_names : (a : Option GenericArgs) → names_stored a ≡ names_in_list (a_list s (within s d) a)
  list_names None = refl
  list_names (Some a) = ap Some (names_are (out-GenericArgs a).args
      ∙ ap names_in_args (sym (args_out (store_of s) (map_of s) (within s d) a)))

  last_read : (as' : List (Option GenericArgs)) → names_stored (last_of as') ≡ data_last (lists s d as')
  last_read [] = refl
  last_read (a ∷ []) = list_names a
  last_read (a ∷ (b ∷ as')) = last_read (b ∷ as')

  last_names : (as' : List (Option GenericArgs)) (ns : List Named) → lists s d as' ≡ map (λ n. n.args) ns
      → names_stored (last_of as') ≡ names_last ns
  last_names as' ns h = last_read as' ∙ (ap data_last h ∙ sym (last_named ns))

  pub path_names : (p : HirPath) (ns : List Named) → lists s d (args_of p) ≡ map (λ n. n.args) ns
      → names_stored (last_args p) ≡ names_last ns
  path_names (BarePath p) ns h = ap names_stored (sym (bare_last p.segments)) ∙ last_names (args_of (BarePath p)) ns h
  path_names (Normal p) ns h = ap names_stored (reversed_first p.generic_args) ∙ last_names p.generic_args ns h
  path_names (LangItem item) ns h = last_names [] ns h

-- what becomes of what was noted, where these are the lifetimes
abbrev cut_named : ℕ → List Bool → Option (List (Option Name)) → Notices → Notices
cut_named mark places None k = k
cut_named mark places (Some ns) k = kept_input mark (names_at places ns) k

same_chosen : (cs : List Bool) (ns : List (Option Name)) → names_at cs ns ≡ tracking.names_at cs ns
same_chosen [] ns = refl
same_chosen (c ∷ cs) [] = refl
same_chosen (true ∷ cs) (Some n ∷ ns) = ap (λ xs. n ∷ xs) (same_chosen cs ns)
same_chosen (true ∷ cs) (None ∷ ns) = same_chosen cs ns
same_chosen (false ∷ cs) (n ∷ ns) = same_chosen cs ns

tracked_cut : (places : List Bool) (names : Option (List (Option Name))) {n : Tracking} {b c : Builder} → Tracked n b c
    → Tracked (cut (Some places) names n) b
    (record c { tracks = cut_named (length b.tracks.named.constrained_by_input) places names c.tracks })
tracked_cut places None h = h
tracked_cut places (Some ns) {n = n} {b = b} h = record {
  paired = h.paired;
  stays = h.stays;
  params = h.params;
  lifetimes = h.lifetimes;
  added = h.added;
  predicates = h.predicates;
  fits = h.fits;
  bounds = h.bounds;
  input =
      let was = b.tracks.named.constrained_by_input in
      ap (λ xs. with_names (take (length was) xs) (names_at places ns)) h.input
      ∙ (ap (λ xs. with_names xs (names_at places ns)) (taken_first was n.input) ∙ ap (λ xs. with_names was xs) (same_chosen places ns));
  output = h.output;
  scope = h.scope;
}

cut_is : (mark : ℕ) (places : List Bool) (s : Stored) (a : Option GenericArgs) (k : Notices)
    → cut_named mark places (option_map (λ x. lifetime_names s.lifetimes.entries (out-GenericArgs x).args) a) k
    ≡ cut_args mark places s.lifetimes.entries a k
cut_is mark places s None k = refl
cut_is mark places s (Some a) k = refl

cut_to : (places : List Bool) {n : Tracking} (b c : Builder) (x : Option PathRead) (o : Option HirPath)
    → Answers c.stored (mark c).entries x o → Tracked n b c
    → Tracked (cut (Some places) (names_of_args x) n) b
    (record c { tracks = cut_path (length b.tracks.named.constrained_by_input) places c.stored.lifetimes.entries o c.tracks })
cut_to places b c None None m h = h
cut_to places b c None (Some p) m h = absurd m
cut_to places b c (Some x) None m h = absurd m
cut_to places {n = n} b c (Some x) (Some p) m h =
    let s = c.stored in
    let d = (mark c).entries in
    let stored = names_stored s d (last_args p) in
    let at = length b.tracks.named.constrained_by_input in
    subst (λ k. Tracked (cut (Some places) (names_last x.names) n) b (record c { tracks = k }))
    (cut_is at places s (last_args p) c.tracks)
    (subst (λ ns. Tracked (cut (Some places) ns n) b (record c { tracks = cut_named at places stored c.tracks }))
    (path_names s d p x.names (m.args d (omega arith))) (tracked_cut places stored h))

pub aliased_tracks : (alias : Option (List Bool)) (x : Option PathRead) {n : Tracking} {p : Lowering (Option HirPath)} → SideOutput n p
    → Correct p (PathIs x) → SideOutput (cut alias (names_of_args x) n) (with_alias alias p)
unfolding input_end cut_back with_side_output with_stored track_down
aliased_tracks None x h reads = h
aliased_tracks (Some places) x {n = n} {p = p} h reads = record { at = λ b d. by b d (p b).0 (p b).1 refl (h.at b d) }
  where
    next : Builder → Option HirPath → Lowering (Option HirPath)
    next b r = cut_back (length b.tracks.named.constrained_by_input) places r >> pure r

    by : (b : Builder) → Paired b.stored → (o : Checked (Option HirPath)) (c : Builder) → p b ≡ (o, c) → TracksTo n b o c
        → TracksTo (cut (Some places) (names_of_args x) n) b (go_on o c (next b)).0 (go_on o c (next b)).1
    by b d (Ok r) c is y = (y.0, cut_to places b c x r (answered reads b c r d is c.stored (extends_refl c.stored)).is y.1)
    by b d (Err e) c is y = tt

-- from the end of a path
pub at_start : {A : Type 0} {n : Tracking} {p : Lowering A} → Behind [] start n p → SideOutput n p
at_start h = record { at = λ b d. h.at b d (λ final pre. begins final (mark b).entries) }
