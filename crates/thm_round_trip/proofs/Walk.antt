-- The walk and the rule, segment by segment.
use Rattle.std.proofs.Common.{arith, ◌≡◌, ◌≤◌, ◌∙◌, refl, sym, ap, subst, ℕ, zero, suc, ◌+◌, List, [], ◌∷◌, ◌++◌, Option, Some, None, Bool}
use Rattle.std.proofs.Common.{true, false}
use Rattle.std.specs.Prelude.{reverse, map, ◌&&◌, ◌||◌, not, is_some, is_none, if◌then◌else◌, option_map}
use Rattle.std.proofs.lemmas.List.{reverse-append, reverse-reverse, map-append}
use Rattle.hir_store.specs.Stored.{Stored, store_of, map_of}
use Rattle.hir_store.specs.declared.ids.CrateId.{CrateId}
use Rattle.hir_store.specs.declared.ids.TypeRefId.{TypeRefId}
use Rattle.hir_store.specs.declared.name.Name.{Name}
use Rattle.hir_store.specs.declared.path.PathKind.{PathKind}
use Rattle.hir_store.specs.declared.path.PathKind.TheVariants as kind
use Rattle.hir_store.specs.declared.path.GenericArgs.{GenericArgs}
use Rattle.hir_store.specs.declared.path.Path.{Path as HirPath}
use Rattle.hir_store.specs.declared.path.Path.TheVariants.{BarePath, Normal, LangItem}
use Rattle.hir_env.specs.ResolvedTree as tree
use Rattle.hir_env.specs.ResolvedTree.{Path, OptionPath, Segments}
use Rattle.hir_lower_builder.specs.declared.walk.PathWalk.{PathWalk}
use Rattle.hir_lower_builder.specs.declared.walk.Reading.{Reading}
use Rattle.hir_lower_builder.specs.declared.walk.Reading.TheVariants.{Refused, Ended, Open}
use Rattle.hir_lower_builder.specs.Walks as walks
use Rattle.hir_lower_builder.specs.Walks.{start, at_first, add_name, self_read, anchored, add_trait, projected, mod_path, args_of}
use Rattle.hir_lower_builder.specs.Walks.{with_self, without_last_self, finished, own_path}
use Rattle.spec_data.specs.Data as datum
use Rattle.spec_data.specs.Data.{TypeData, OptionArgsData, no_args}
use Rattle.spec_data.specs.Rule as rule
use Rattle.spec_data.specs.Rule.{Named, PathRead, What, Item, broken, named, root, self_, super_, anchor, projection, empty_list}
use Rattle.spec_data.specs.Rule.{plain_kind, supers, is_list, anchor_data, names_data, data_of, read_of, path_read, ends, ended, read}
use Rattle.spec_data.specs.Rule.{refuses, refused, set_kind, supers_left, counted, open_kind, first_behind_self, last_behind_self}
use Rattle.spec_data.specs.Rule.{first_without_self, last_without_self, ending_self, read_kind, own_kind, anchor_of, found}
use Rattle.spec_data.specs.Reading.{names_alone, names_beside, present_layer}
use Rattle.spec_data.specs.Written as written
use Rattle.thm_round_trip.proofs.Layers.{a_list, a_path, within}
use Rattle.thm_round_trip.proofs.Generics.{self_first_read, self_flag}
use Rattle.thm_round_trip.proofs.WalkItems.{empty_mapped, empty_names, or_swap, or_true, same_crate, same_plain, same_supers}
pub use Rattle.thm_round_trip.proofs.WalkItems.{args_at, clash, map_reverse, name_at, read_whole}

-- what a walk that has read these items has found, when so many types are stored

abbrev pub none_beside : List Name → List (Option GenericArgs)
none_beside xs = map (λ n. None) xs

-- what stands beside each name
abbrev pub lists : Stored → ℕ → List (Option GenericArgs) → List OptionArgsData
lists final d as' = map (a_list final (within final d)) as'

abbrev anchor_read : Stored → ℕ → Option TypeRefId → Option TypeData
anchor_read final d t = option_map (within final d).type t

pub record Found (final : Stored) (n : ℕ) (k : PathKind) (is : List Item) (w : PathWalk) : Type 0 where
  pub kind : w.kind ≡ k
  pub names : w.names ≡ map name_at (reverse (rule.names is))
  pub args : (d : ℕ) → n ≤ d → lists final d w.args ≡ map args_at (reverse (rule.names is))
  pub anchor : (d : ℕ) → n ≤ d → anchor_read final d w.type_anchor ≡ anchor_of is
  pub found : w.found_args ≡ found is
  pub bare : w.found_args ≡ false → w.args ≡ none_beside w.names

abbrev pub Says : Stored → ℕ → List Item → Reading → Type 0
Says final n is Refused = refused (read is) ≡ true
Says final n is (Open w) = (ended is ≡ false) × (refused is ≡ false) × Found final n (open_kind is) is w
Says final n is (Ended w) = (ended is ≡ true) × (refused (read is) ≡ false) × Found final n (read_kind (read is)) (read is) w

-- more may be stored since
found_later : {final : Stored} {n n' : ℕ} {k : PathKind} {is : List Item} {w : PathWalk} → n ≤ n' → Found final n k is w
    → Found final n' k is w
found_later le h = record {
  kind = h.kind;
  names = h.names;
  args = λ d m. h.args d (omega (le, m, arith));
  anchor = λ d m. h.anchor d (omega (le, m, arith));
  found = h.found;
  bare = h.bare;
}

pub says_later : (final : Stored) (n n' : ℕ) (is : List Item) (r : Reading) → n ≤ n' → Says final n is r → Says final n' is r
says_later final n n' is Refused le h = h
says_later final n n' is (Open w) le h = (h.0, h.1, found_later le h.2)
says_later final n n' is (Ended w) le h = (h.0, h.1, found_later le h.2)

-- of items that say the same of a walk
found_same : {final : Stored} {n : ℕ} {k k' : PathKind} {is js : List Item} {w w' : PathWalk} → Found final n k is w
    → w'.kind ≡ k' → w'.names ≡ w.names → w'.args ≡ w.args → w'.type_anchor ≡ w.type_anchor → w'.found_args ≡ w.found_args
    → rule.names js ≡ rule.names is → anchor_of js ≡ anchor_of is → found js ≡ found is → Found final n k' js w'
found_same {final = final} h k ns as' t f nj aj fj = record {
  kind = k;
  names = ns ∙ (h.names ∙ ap (λ xs. map name_at (reverse xs)) (sym nj));
  args = λ d m. ap (lists final d) as' ∙ (h.args d m ∙ ap (λ xs. map args_at (reverse xs)) (sym nj));
  anchor = λ d m. ap (anchor_read final d) t ∙ (h.anchor d m ∙ sym aj);
  found = f ∙ (h.found ∙ sym fj);
  bare = λ b. as' ∙ (h.bare (sym f ∙ b) ∙ ap none_beside (sym ns));
}

-- one segment more

abbrev pub item : Bool → What → Item
item leading x = record { leading = leading; what = x }

abbrev kind_at : Bool → List Item → PathKind
kind_at leading is = if leading then kind.Abs else open_kind is

module _ (final : Stored) (n : ℕ) where
  at_first_found : (l : Bool) (is : List Item) (w : PathWalk) → Found final n (open_kind is) is w
      → Found final n (kind_at l is) is (at_first l w)
  at_first_found false is w h = h
  at_first_found true is w h = found_same h refl refl refl refl refl refl refl refl

  map_more : {A : Type 0} (f : Named → A) (ns xs : List Named) → map f (reverse (ns ++ xs)) ≡ map f (reverse xs) ++ map f (reverse ns)
  map_more f ns xs = ap (map f) (reverse-append ns xs) ∙ map-append f (reverse xs) (reverse ns)

  -- names
  some_listed : (g : Option GenericArgs) → is_some g ≡ is_list (a_list final (within final n) g)
  some_listed None = refl
  some_listed (Some g) = refl

  none_more : (xs : List Name) (as' : List (Option GenericArgs)) (x : Name) → as' ≡ none_beside xs
      → as' ++ None ∷ [] ≡ none_beside (xs ++ x ∷ [])
  none_more xs as' x e = ap (λ l. l ++ None ∷ []) e ∙ sym (map-append (λ y. None) xs (x ∷ []))

  bare_named : (w : PathWalk) (x : Name) (g : Option GenericArgs) → (w.found_args ≡ false → w.args ≡ none_beside w.names)
      → (w.found_args || is_some g) ≡ false → w.args ++ g ∷ [] ≡ none_beside (w.names ++ x ∷ [])
  bare_named w x None h f = none_more w.names w.args x (h (first w.found_args f))
    where
      first : (b : Bool) → (b || false) ≡ false → b ≡ false
      first false f = refl
      first true f = f
  bare_named w x (Some g) h f = by w.found_args f
    where
      by : (b : Bool) → (b || true) ≡ false → w.args ++ Some g ∷ [] ≡ none_beside (w.names ++ x ∷ [])
      by false f = absurd (clash f)
      by true f = absurd (clash f)

  -- these arguments read so
  abbrev Lists : Option GenericArgs → OptionArgsData → Type 0
  Lists g x = (d : ℕ) → n ≤ d → a_list final (within final d) g ≡ x

  found_named : (k : PathKind) (l : Bool) (is : List Item) (x : Named) (g : Option GenericArgs) (w : PathWalk) → Lists g x.args
      → Found final n k is w → Found final n k (item l (named x) ∷ is) (add_name x.name g w)
  found_named k l is x g w e h = record {
    kind = h.kind;
    names = ap (λ xs. xs ++ x.name ∷ []) h.names ∙ sym (map_more name_at (x ∷ []) (rule.names is));
    args = λ d le. map-append (a_list final (within final d)) w.args (g ∷ [])
        ∙ ((λ j. h.args d le j ++ e d le j ∷ []) ∙ sym (map_more args_at (x ∷ []) (rule.names is)));
    anchor = h.anchor;
    found = or_swap w.found_args (is_some g) (found is) (is_list x.args) h.found (some_listed g ∙ ap is_list (e n (omega arith)));
    bare = bare_named w x.name g h.bare;
  }

  pub says_named : (l : Bool) (is : List Item) (x : Named) (g : Option GenericArgs) (w : PathWalk) → Lists g x.args
      → Says final n is (Open w) → Says final n (item l (named x) ∷ is) (Open (add_name x.name g (at_first l w)))
  says_named false is x g w e h = (h.0, h.1, found_named (open_kind is) false is x g w e h.2)
  says_named true is x g w e h = (h.0, h.1, found_named kind.Abs true is x g (at_first true w) e (at_first_found true is w h.2))

  pub says_refused : (i : Item) (is : List Item) (w : PathWalk) → refuses i.what ≡ true → Says final n is (Open w)
      → Says final n (i ∷ is) Refused
  says_refused i is w r h = rw (h.0, r) refl

  -- `crate` and `$crate`
  pub says_root : (l : Bool) (is : List Item) (k : PathKind) (w : PathWalk) → Says final n is (Open w)
      → Says final n (item l (root k) ∷ is) (Ended (record (at_first l w) { kind = k }))
  says_root l is k w h = (refl, rw h.0 h.1, rw h.0 (by l))
    where
      by : (l : Bool) → Found final n k (item l (root k) ∷ is) (record (at_first l w) { kind = k })
      by false = found_same h.2 refl refl refl refl refl refl refl refl
      by true = found_same h.2 refl refl refl refl refl refl refl refl

  pub says_dollar : (l : Bool) (is : List Item) (c : Option CrateId) (w : PathWalk) → Says final n is (Open w)
      → Says final n (item l (root (written.crate_kind c)) ∷ is) (Ended (record (at_first l w) { kind = walks.crate_kind c }))
  says_dollar l is c w h =
      subst (λ k. Says final n (item l (root k) ∷ is) (Ended (record (at_first l w) { kind = walks.crate_kind c }))) (same_crate c)
      (says_root l is (walks.crate_kind c) w h)

  walk_empty : (k : PathKind) (is : List Item) (w : PathWalk) → Found final n k is w → walks.no_names w.names ≡ empty_list (rule.names is)
  walk_empty k is w h = ap walks.no_names h.names ∙ empty_names (rule.names is)

  -- `self`
  kind_self : (l : Bool) (is : List Item) → open_kind (item l self_ ∷ is) ≡ kind_at l is
  kind_self false is = refl
  kind_self true is = refl

  self_says : (l : Bool) (is : List Item) (w : PathWalk) → ended is ≡ false → refused is ≡ false → Found final n (kind_at l is) is w
      → Says final n (item l self_ ∷ is) (self_read w)
  self_says l is w e r h = by (walks.no_names w.names) (walk_empty (kind_at l is) is w h)
    where
      by : (b : Bool) → b ≡ empty_list (rule.names is)
          → Says final n (item l self_ ∷ is) (if b then Open w else Ended (record w { kind = walks.self_kind w.kind }))
      by true m = (rw (← m) e, r, found_same h (h.kind ∙ sym (kind_self l is)) refl refl refl refl refl refl refl)
      by false m = (
        rw (← m) refl,
        rw e r,
        rw e (rw (← m) (rw (kind_self l is)
            (found_same h (ap kind.Super (same_supers w.kind ∙ ap supers h.kind)) refl refl refl refl refl refl refl))),
      )

  pub says_self : (l : Bool) (is : List Item) (w : PathWalk) → Says final n is (Open w)
      → Says final n (item l self_ ∷ is) (self_read (at_first l w))
  says_self l is w h = self_says l is (at_first l w) h.0 h.1 (at_first_found l is w h.2)

  -- `super`
  super_counted : (k : PathKind) (m : ℕ) → kind.Super (supers (counted k m) + 1) ≡ kind.Super (supers k + suc m)
  super_counted k zero = refl
  super_counted k (suc m) = ap kind.Super (omega arith)

  kind_super : (l : Bool) (is : List Item) → kind.Super (supers (kind_at l is) + 1) ≡ open_kind (item l super_ ∷ is)
  kind_super false is = super_counted (set_kind is) (supers_left is)
  kind_super true is = refl

  super_says : (l : Bool) (is : List Item) (w : PathWalk) → ended is ≡ false → refused is ≡ false → Found final n (kind_at l is) is w
      → Says final n (item l super_ ∷ is) (Open (record w { kind = kind.Super (walks.supers w.kind + 1) }))
  super_says l is w e r h = (
    e,
    r,
    found_same h (ap (λ m. kind.Super (m + 1)) (same_supers w.kind ∙ ap supers h.kind) ∙ kind_super l is)
        refl refl refl refl refl refl refl,
  )

  pub says_super : (l : Bool) (is : List Item) (w : PathWalk) → Says final n is (Open w)
      → Says final n (item l super_ ∷ is) (Open (record (at_first l w) { kind = kind.Super (walks.supers (at_first l w).kind + 1) }))
  says_super l is w h = super_says l is (at_first l w) h.0 h.1 (at_first_found l is w h.2)

  -- `<T>`
  abbrev Types : TypeRefId → TypeData → Type 0
  Types id t = (d : ℕ) → n ≤ d → (within final d).type id ≡ t

  found_anchor : (k : PathKind) (l : Bool) (is : List Item) (t : TypeData) (id : TypeRefId) (w : PathWalk) → Types id t
      → Found final n k is w
      → Found final n kind.Plain (item l (anchor t) ∷ is) (record w { kind = kind.Plain; type_anchor = Some id })
  found_anchor k l is t id w e h = record {
    kind = refl;
    names = h.names;
    args = h.args;
    anchor = λ d le. ap Some (e d le);
    found = h.found;
    bare = h.bare;
  }

  pub says_anchor : (l : Bool) (is : List Item) (t : TypeData) (id : TypeRefId) (w : PathWalk) → Types id t → Says final n is (Open w)
      → Says final n (item l (anchor t) ∷ is) (anchored id (at_first l w))
  says_anchor l is t id w e h = (h.0, h.1, found_anchor (kind_at l is) l is t id (at_first l w) e (at_first_found l is w h.2))

  -- a whole path

  -- without names the kind and the rest stand alone
  abbrev is_bare : HirPath → Bool
  is_bare (BarePath p) = true
  is_bare (Normal p) = false
  is_bare (LangItem i) = false

  abbrev anchor_in : HirPath → Option TypeRefId
  anchor_in (BarePath p) = None
  anchor_in (Normal p) = p.type_anchor
  anchor_in (LangItem i) = None

  -- what is written is no item of the language
  abbrev pub IsNamed : HirPath → Type 0
  IsNamed (LangItem i) = ⊥
  IsNamed p = Unit {0}

  pub record Matches (x : PathRead) (p : HirPath) : Type 0 where
    pub named : IsNamed p
    pub kind : (mod_path p).kind ≡ x.kind
    pub names : (mod_path p).segments ≡ map name_at x.names
    pub args : (d : ℕ) → n ≤ d → lists final d (args_of p) ≡ map args_at x.names
    pub anchor : (d : ℕ) → n ≤ d → anchor_read final d (anchor_in p) ≡ x.anchor
    pub bare : is_bare p ≡ x.bare

  -- `<T as Trait>`

  names_last : (t : TypeData) (ns : List Named) → map name_at (first_behind_self t ns) ≡ map name_at ns
  names_last t [] = refl
  names_last t (x ∷ ns) = refl

  abbrev first_put : TypeData → List OptionArgsData → List OptionArgsData
  first_put t [] = []
  first_put t (x ∷ xs) = rule.self_first t x ∷ xs

  args_put : (t : TypeData) (ns : List Named) → map args_at (first_behind_self t ns) ≡ first_put t (map args_at ns)
  args_put t [] = refl
  args_put t (x ∷ ns) = refl

  args_last : (t : TypeData) (id : TypeRefId) (ns : List Named) (as' : List (Option GenericArgs)) (d : ℕ) → n ≤ d → Types id t
      → empty_list ns ≡ false → lists final d as' ≡ map args_at ns
      → lists final d (with_self id as') ≡ map args_at (first_behind_self t ns)
  args_last t id [] as' d le g e h = absurd (clash e)
  args_last t id (x ∷ ns) [] d le g e h = absurd (clash (ap empty_list h))
  args_last t id (x ∷ ns) (a ∷ as') d le g e h =
      ap (λ b. b ∷ lists final d as') (self_first_read (store_of final) (map_of final) (within final d) id a
      ∙ ap (λ u. rule.self_first u (a_list final (within final d) a)) (g d le))
      ∙ (ap (first_put t) h ∙ sym (args_put t (x ∷ ns)))

  empty_reversed : (ns : List Named) → empty_list (reverse ns) ≡ empty_list ns
  empty_reversed [] = refl
  empty_reversed (x ∷ ns) = ap empty_list (reverse-append (x ∷ []) ns) ∙ snoc (reverse ns) x
    where
      snoc : (xs : List Named) (y : Named) → empty_list (xs ++ y ∷ []) ≡ false
      snoc [] y = refl
      snoc (z ∷ xs) y = refl

  found_trait : (k : PathKind) (l : Bool) (is : List Item) (t : TypeData) (id : TypeRefId) (x : PathRead) (p : HirPath) (w : PathWalk)
      → Types id t → Matches x p → empty_list x.names ≡ false → Found final n k is w
      → Found final n x.kind (item l (projection t (Some x)) ∷ is) (add_trait id p w)
  found_trait k l is t id x p w g m e h =
      let ns = last_behind_self t x.names in
      let back : reverse ns ≡ first_behind_self t (reverse x.names) = reverse-reverse (first_behind_self t (reverse x.names)) in
      record {
        kind = m.kind;
        names = (λ j. h.names j ++ (ap reverse m.names ∙ (sym (map_reverse name_at x.names)
            ∙ (sym (names_last t (reverse x.names)) ∙ ap (map name_at) (sym back)))) j)
            ∙ sym (map_more name_at ns (rule.names is));
        args = λ d le. map-append (a_list final (within final d)) w.args (with_self id (reverse (args_of p)))
            ∙ ((λ j. h.args d le j ++ (args_last t id (reverse x.names) (reverse (args_of p)) d le g (empty_reversed x.names ∙ e)
            (map_reverse (a_list final (within final d)) (args_of p) ∙ (ap reverse (m.args d le) ∙ sym (map_reverse args_at x.names)))
            ∙ ap (map args_at) (sym back)) j)
            ∙ sym (map_more args_at ns (rule.names is)));
        anchor = h.anchor;
        found = refl;
        bare = λ f. absurd (clash f);
      }

  pub says_trait : (l : Bool) (is : List Item) (t : TypeData) (id : TypeRefId) (x : PathRead) (p : HirPath) (w : PathWalk) → Types id t
      → Matches x p → Says final n is (Open w) → Says final n (item l (projection t (Some x)) ∷ is) (projected id p (at_first l w))
  says_trait l is t id x p w g m h = by (walks.no_names (mod_path p).segments) (ap walks.no_names m.names ∙ empty_mapped x.names)
    where
      by : (c : Bool) → c ≡ empty_list x.names
          → Says final n (item l (projection t (Some x)) ∷ is) (if c then Refused else Open (add_trait id p (at_first l w)))
      by true e = says_refused (item l (projection t (Some x))) is w (sym e) h
      by false e = (
        h.0,
        rw (← e) h.1,
        found_trait (kind_at l is) l is t id x p (at_first l w) g m (sym e) (at_first_found l is w h.2),
      )

  -- the end of a walk

  not_ending : (x : What) (ns : List Named) (b : Bool) → (ends x ns || b) ≡ false → ending_self x ns ≡ false
  not_ending self_ ns b h = by (not (empty_list ns)) h
    where
      by : (c : Bool) → (c || b) ≡ false → c ≡ false
      by false h = refl
      by true h = h
  not_ending broken ns b h = refl
  not_ending (named x) ns b h = refl
  not_ending (root k) ns b h = refl
  not_ending super_ ns b h = refl
  not_ending (anchor t) ns b h = refl
  not_ending (projection t x) ns b h = refl

  open_is_read : (is : List Item) → ended is ≡ false → open_kind is ≡ read_kind is
  open_is_read [] h = refl
  open_is_read (i ∷ is) h = rw (not_ending i.what (rule.names is) (ended is) h) refl

  none_read : (d : ℕ) (t : Option TypeRefId) → is_none (anchor_read final d t) ≡ is_none t
  none_read d None = refl
  none_read d (Some t) = refl

  anchored_same : (is : List Item) (k : PathKind) (w : PathWalk) → Found final n k is w → is_none w.type_anchor ≡ is_none (anchor_of is)
  anchored_same is k w h = sym (none_read n w.type_anchor) ∙ ap is_none (h.anchor n (omega arith))

  own_kind_same : (is : List Item) (w : PathWalk) → Found final n (read_kind is) is w
      → walks.own_kind w ≡ own_kind (read_kind is) (rule.names is) (anchor_of is)
  own_kind_same is w h = λ j. if walk_empty (read_kind is) is w h j && (same_plain w.kind ∙ ap plain_kind h.kind) j
      && anchored_same is (read_kind is) w h j then kind.Super 0 else h.kind j

  names_without : (ns : List Named) → map name_at (first_without_self ns) ≡ map name_at ns
  names_without [] = refl
  names_without (x ∷ ns) = refl

  final_names : (is : List Item) (w : PathWalk) → Found final n (read_kind is) is w
      → reverse w.names ≡ map name_at (last_without_self (rule.names is))
  final_names is w h =
      ap reverse (h.names ∙ sym (names_without (reverse (rule.names is))))
      ∙ sym (map_reverse name_at (first_without_self (reverse (rule.names is))))

  abbrev first_cut : List OptionArgsData → List OptionArgsData
  first_cut [] = []
  first_cut (x ∷ xs) = rule.without_self x ∷ xs

  args_cut : (ns : List Named) → map args_at (first_without_self ns) ≡ first_cut (map args_at ns)
  args_cut [] = refl
  args_cut (x ∷ ns) = refl

  cut_read : (d : ℕ) (as' : List (Option GenericArgs)) → lists final d (without_last_self as') ≡ first_cut (lists final d as')
  cut_read d [] = refl
  cut_read d (None ∷ as') = refl
  cut_read d (Some a ∷ as') = ap (λ x. x ∷ lists final d as') (by (walks.has_self a)
      ∙ ap (λ b. if b then no_args else a_list final (within final d) (Some a))
      (sym (self_flag (store_of final) (map_of final) (within final d) a)))
    where
      by : (b : Bool) → a_list final (within final d) (if b then None else Some a)
          ≡ (if b then no_args else a_list final (within final d) (Some a))
      by true = refl
      by false = refl

  final_args : (is : List Item) (w : PathWalk) → Found final n (read_kind is) is w → (d : ℕ) → n ≤ d
      → lists final d (reverse (without_last_self w.args)) ≡ map args_at (last_without_self (rule.names is))
  final_args is w h d le =
      map_reverse (a_list final (within final d)) (without_last_self w.args)
      ∙ (ap reverse (cut_read d w.args ∙ (ap first_cut (h.args d le) ∙ sym (args_cut (reverse (rule.names is)))))
      ∙ sym (map_reverse args_at (first_without_self (reverse (rule.names is)))))

  none_without : (xs : List Name) → without_last_self (none_beside xs) ≡ none_beside xs
  none_without [] = refl
  none_without (x ∷ xs) = refl

  both : (a b : Bool) → (a && not b) ≡ true → (a ≡ true) × (b ≡ false)
  both false b h = absurd (clash (sym h))
  both true false h = (refl, refl)
  both true true h = absurd (clash (sym h))

  none_is : (t : Option TypeRefId) → is_none t ≡ true → t ≡ None
  none_is None h = refl
  none_is (Some t) h = absurd (clash (sym h))

  abbrev made : PathWalk → Bool → HirPath
  made w b = if b then BarePath (own_path w) else Normal (walks.normal_path w)

  finished_matches : (is : List Item) (w : PathWalk) → Found final n (read_kind is) is w → Matches (read_of is) (finished w)
  finished_matches is w h =
      by (is_none w.type_anchor && not w.found_args) refl (λ j. anchored_same is (read_kind is) w h j && not (h.found j))
    where
      by : (b : Bool) → (is_none w.type_anchor && not w.found_args) ≡ b
          → (is_none w.type_anchor && not w.found_args) ≡ (is_none (anchor_of is) && not (found is)) → Matches (read_of is) (made w b)
      by true e f =
          let bare = both (is_none w.type_anchor) w.found_args e in
          record {
            named = tt;
            kind = own_kind_same is w h;
            names = final_names is w h;
            args = λ d le. ap (lists final d) (sym (ap (λ as'. reverse (without_last_self as')) (h.bare bare.1)
                ∙ (ap reverse (none_without w.names) ∙ sym (map_reverse (λ y. None) w.names)))) ∙ final_args is w h d le;
            anchor = λ d le. ap (anchor_read final d) (sym (none_is w.type_anchor bare.0)) ∙ h.anchor d le;
            bare = sym e ∙ f;
          }
      by false e f = record {
        named = tt;
        kind = own_kind_same is w h;
        names = final_names is w h;
        args = final_args is w h;
        anchor = h.anchor;
        bare = sym e ∙ f;
      }

  abbrev pub Answers : Option PathRead → Option HirPath → Type 0
  Answers None None = Unit {0}
  Answers None (Some p) = ⊥
  Answers (Some x) None = ⊥
  Answers (Some x) (Some p) = Matches x p

  pub says_answers : (is : List Item) (r : Reading) → Says final n is r → Answers (path_read (read is)) (walks.path_read r)
  says_answers is Refused h = rw h tt
  says_answers is (Ended w) h = rw h.1 (finished_matches (read is) w h.2)
  says_answers is (Open w) h =
      rw (read_whole is h.0) (rw h.1 (finished_matches is w (subst (λ k. Found final n k is w) (open_is_read is h.0) h.2)))

  -- as data

  beside_none : (d : ℕ) (xs : List Name) → names_alone xs ≡ names_beside xs (lists final d (none_beside xs))
  beside_none d [] = refl
  beside_none d (x ∷ xs) = ap (datum.more_names x no_args) (beside_none d xs)

  beside_data : (ns : List Named) → names_beside (map name_at ns) (map args_at ns) ≡ names_data ns
  beside_data [] = refl
  beside_data (x ∷ ns) = ap (datum.more_names x.name x.args) (beside_data ns)

  present_data : (d : ℕ) (t : Option TypeRefId)
      → present_layer (store_of final) (map_of final) (within final d) t ≡ anchor_data (anchor_read final d t)
  present_data d None = refl
  present_data d (Some t) = refl

  pub matches_read : (x : PathRead) (p : HirPath) → Matches x p → (d : ℕ) → n ≤ d → a_path final (within final d) p ≡ data_of x
  matches_read x (BarePath p) m d le = λ j. datum.path_data (m.kind j) (anchor_data (m.anchor d le j))
      ((beside_none d p.segments ∙ ((λ i. names_beside (m.names i) (m.args d le i)) ∙ beside_data x.names)) j) (m.bare j)
  matches_read x (Normal p) m d le = λ j. datum.path_data (m.kind j)
      ((present_data d p.type_anchor ∙ ap anchor_data (m.anchor d le)) j)
      (((λ i. names_beside (m.names i) (m.args d le i)) ∙ beside_data x.names) j) (m.bare j)
  matches_read x (LangItem i) m d le = absurd m.named

  -- segments before those that are read

  abbrev pub Closed : Reading → Type 0
  Closed (Open w) = ⊥
  Closed r = Unit {0}

  refused_still : (i : Item) (is : List Item) → refused (read is) ≡ true → refused (read (i ∷ is)) ≡ true
  refused_still i is h = by (ended is) refl
    where
      by : (b : Bool) → ended is ≡ b → refused (if b then read is else i ∷ is) ≡ true
      by true e = h
      by false e = or_true (refuses i.what) (refused is) (rw (read_whole is e) at h)

  pub one_closed : (r : Reading) → Closed r → (i : Item) (is : List Item) → Says final n is r → Says final n (i ∷ is) r
  one_closed Refused c i is h = refused_still i is h
  one_closed (Ended w) c i is h = (or_true (ends i.what (rule.names is)) (ended is) h.0, rw h.0 h.1, rw h.0 h.2)
  one_closed (Open w) c i is h = absurd c

-- what stays behind one more stays behind all
module _ (Holds : List Item → Type 0) (one : (i : Item) (is : List Item) → Holds is → Holds (i ∷ is)) where
  items_still : (ss : Segments) (is : List Item) → Holds is → Holds (written.items ss is)
  items_still tree.no_segments is h = h
  items_still (tree.more_segments s ss) is h = one (item false (written.what false s)) (written.items ss is) (items_still ss is h)

  mutual
    path_still : (p : Path) (is : List Item) → Holds is → Holds (written.segments p is)
    path_still (tree.path alias leading first rest use_) is h =
        outer_still use_ (item leading (written.what true first) ∷ written.items rest is)
        (one (item leading (written.what true first)) (written.items rest is) (items_still rest is h))

    pub outer_still : (p : OptionPath) (is : List Item) → Holds is → Holds (written.outer p is)
    outer_still tree.no_path is h = h
    outer_still (tree.some_path p) is h = path_still p is h

pub outer_closed : (final : Stored) (n : ℕ) (p : OptionPath) (r : Reading) → Closed final n r → (is : List Item) → Says final n is r
    → Says final n (written.outer p is) r
outer_closed final n p r c is h = outer_still (λ js. Says final n js r) (one_closed final n r c) p is h

pub begins : (final : Stored) (n : ℕ) → Says final n [] (Open start)
begins final n = (
  refl,
  refl,
  record {
    kind = refl;
    names = refl;
    args = λ d le. refl;
    anchor = λ d le. refl;
    found = refl;
    bare = λ f. refl;
  },
)
