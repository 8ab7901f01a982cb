-- What a walk over a path's segments keeps holds, in order, the bodies that are in the segments.
use Rattle.std.proofs.Common.{arith, ◌≡◌, ◌≤◌, ◌∙◌, refl, sym, ap, subst, ℕ, List, [], ◌∷◌, ◌++◌}
use Rattle.std.proofs.Common.{Option, Some, None, Bool, true, false}
use Rattle.std.specs.Prelude.{reverse, map, ◌&&◌, ◌||◌, not, is_none, if◌then◌else◌}
use Rattle.std.proofs.lemmas.List.{reverse-append, reverse-reverse}
use Rattle.hir_store.specs.Stored.{Stored, store_of, map_of}
use Rattle.hir_store.specs.declared.ids.TypeRefId.{TypeRefId}
use Rattle.hir_store.specs.declared.name.Name.{Name}
use Rattle.hir_store.specs.declared.path.PathKind.{PathKind}
use Rattle.hir_store.specs.declared.path.GenericArgs.{GenericArgs}
use Rattle.hir_store.specs.declared.path.Path.{Path as HirPath}
use Rattle.hir_store.specs.declared.path.Path.TheVariants.{BarePath, Normal, LangItem}
use Rattle.hir_lower_builder.specs.declared.walk.PathWalk.{PathWalk}
use Rattle.hir_lower_builder.specs.declared.walk.Reading.{Reading}
use Rattle.hir_lower_builder.specs.declared.walk.Reading.TheVariants.{Refused, Ended, Open}
use Rattle.hir_lower_builder.specs.Walks as walks
use Rattle.hir_lower_builder.specs.Walks.{at_first, add_name, add_trait, mod_path, args_of, with_self, without_last_self, finished}
use Rattle.hir_lower_builder.specs.Walks.{own_path}
use Rattle.spec_data.specs.Data.{OptionArgsData, no_args}
use Rattle.spec_data.specs.Rule as rule
use Rattle.spec_data.specs.Rule.{Named, PathRead, Item, ended, read, empty_list}
use Rattle.thm_round_trip.proofs.Layers.{within}
use Rattle.thm_round_trip.proofs.Generics.{self_flag}
use Rattle.thm_round_trip.proofs.Walk.{Found, Says, Closed, Matches, Answers, lists, args_at, name_at, none_beside, clash}
use Rattle.thm_round_trip.proofs.Walk.{map_reverse, read_whole}
use Rattle.thm_round_trip.proofs.Going.{trait_reading}
use Rattle.spec_semantics.specs.Inner.{Bodies, all_in, Part, items_of, read_parts, in_anchor, beside_names, begins_with_self}
use Rattle.spec_semantics.specs.Inner.{first_cut, last_cut}
use Rattle.spec_semantics.specs.Inner.{first_behind, last_behind, Held, held_in, held_of, in_held, Inners, all_of, of_present}
use Rattle.spec_semantics.specs.Inner.{of_list, of_path}
use Rattle.thm_semantics.proofs.Holding.{SameIn, inners_in, same_append, same_ids}
use Rattle.thm_semantics.proofs.HeldArgs.{self_first_is}

-- lists that are alike, place for place

module _ {A B : Type 0} (R : A → B → Type 0) where
  abbrev pub Each : List A → List B → Type 0
  Each [] [] = Unit {0}
  Each (a ∷ as') (b ∷ bs) = R a b × Each as' bs
  Each [] (b ∷ bs) = ⊥
  Each (a ∷ as') [] = ⊥

  each_append : (as' cs : List A) (bs ds : List B) → Each as' bs → Each cs ds → Each (as' ++ cs) (bs ++ ds)
  each_append [] cs [] ds h k = k
  each_append [] cs (b ∷ bs) ds h k = absurd h
  each_append (a ∷ as') cs [] ds h k = absurd h
  each_append (a ∷ as') cs (b ∷ bs) ds h k = (h.0, each_append as' cs bs ds h.1 k)

  each_reverse : (as' : List A) (bs : List B) → Each as' bs → Each (reverse as') (reverse bs)
  each_reverse [] [] h = tt
  each_reverse [] (b ∷ bs) h = absurd h
  each_reverse (a ∷ as') [] h = absurd h
  each_reverse (a ∷ as') (b ∷ bs) h = rw (reverse-append (a ∷ []) as', reverse-append (b ∷ []) bs)
      (each_append (reverse as') (a ∷ []) (reverse bs) (b ∷ []) (each_reverse as' bs h.1) (h.0, tt))

-- beside each name
abbrev pub Beside : Stored → ℕ → List (Option GenericArgs) → List Bodies → Type 0
Beside final d as' bs = Each (λ a b. SameIn final (of_list (inners_in final d) a) b) as' bs

module _ (final : Stored) where
  same_all : (d : ℕ) (as' : List (Option GenericArgs)) (bs : List Bodies) → Beside final d as' bs
      → SameIn final (all_of (of_list (inners_in final d)) as') (all_in bs)
  same_all d [] [] h = tt
  same_all d [] (b ∷ bs) h = absurd h
  same_all d (a ∷ as') [] h = absurd h
  same_all d (a ∷ as') (b ∷ bs) h =
      same_append final (of_list (inners_in final d) a) (all_of (of_list (inners_in final d)) as') b (all_in bs) h.0 (same_all d as' bs h.1)

-- parts

abbrev pub part : Item → Option Bodies → List Bodies → Part
part i t bs = record { item = i; anchor = t; names = bs }

pub items_read : (ps : List Part) → items_of (read_parts ps) ≡ read (items_of ps)
items_read [] = refl
items_read (p ∷ ps) = by (ended (items_of ps)) (items_read ps)
  where
    by : (b : Bool) → items_of (read_parts ps) ≡ read (items_of ps)
        → items_of (if b then read_parts ps else p ∷ ps) ≡ (if b then read (items_of ps) else p.item ∷ items_of ps)
    by true e = e
    by false e = refl

all_read : (ps : List Part) → ended (items_of ps) ≡ false → read_parts ps ≡ ps
all_read [] h = refl
all_read (p ∷ ps) h = by (rule.ends p.item.what (rule.names (items_of ps))) h
  where
    by : (e : Bool) → (e || ended (items_of ps)) ≡ false → (if ended (items_of ps) then read_parts ps else p ∷ ps) ≡ p ∷ ps
    by false h = rw h refl
    by true h = absurd (clash h)

-- what a walk that has read these parts keeps, when so many expressions, types and patterns are stored

pub record Kept (final : Stored) (n : ℕ) (ps : List Part) (w : PathWalk) : Type 0 where
  pub anchor : (d : ℕ) → n ≤ d → SameIn final (of_present (inners_in final d).type w.type_anchor) (in_anchor ps)
  pub args : (d : ℕ) → n ≤ d → Beside final d w.args (reverse (beside_names ps))

abbrev pub Keeps : Stored → ℕ → List Part → Reading → Type 0
Keeps final n ps Refused = Unit {0}
Keeps final n ps (Open w) = Kept final n ps w
Keeps final n ps (Ended w) = Kept final n (read_parts ps) w

-- more may be stored since
pub kept_later : {final : Stored} {n n' : ℕ} {ps : List Part} {w : PathWalk} → n ≤ n' → Kept final n ps w → Kept final n' ps w
kept_later le h = record {
  anchor = λ d m. h.anchor d (omega (le, m, arith));
  args = λ d m. h.args d (omega (le, m, arith));
}

pub begins_kept : (final : Stored) (n : ℕ) → Kept final n [] walks.start
begins_kept final n = record { anchor = λ d le. tt; args = λ d le. tt }

module _ (final : Stored) (n : ℕ) where
  pub at_first_kept : (l : Bool) (ps : List Part) (w : PathWalk) → Kept final n ps w → Kept final n ps (at_first l w)
  at_first_kept false ps w h = h
  at_first_kept true ps w h = record { anchor = h.anchor; args = h.args }

  -- a name
  pub named_kept : (i : Item) (b : Bodies) (x : Name) (g : Option GenericArgs) (ps : List Part) (w : PathWalk)
      → ((d : ℕ) → n ≤ d → SameIn final (of_list (inners_in final d) g) b) → Kept final n ps w
      → Kept final n (part i None (b ∷ []) ∷ ps) (add_name x g w)
  named_kept i b x g ps w e h = record {
    anchor = h.anchor;
    args = λ d le. rw (reverse-append (b ∷ []) (beside_names ps))
        (each_append (λ a c. SameIn final (of_list (inners_in final d) a) c) w.args (g ∷ []) (reverse (beside_names ps)) (b ∷ [])
        (h.args d le) (e d le, tt));
  }

  -- `<T>`
  pub anchor_kept : (i : Item) (b : Bodies) (t : TypeRefId) (ps : List Part) (w : PathWalk)
      → ((d : ℕ) → n ≤ d → SameIn final ((inners_in final d).type t) b) → Kept final n ps w
      → Keeps final n (part i (Some b) [] ∷ ps) (walks.anchored t w)
  anchor_kept i b t ps w e h = record { anchor = e; args = h.args }

  -- what holds nothing
  pub empty_kept : (i : Item) (ps : List Part) (w : PathWalk) → Kept final n ps w → Kept final n (part i None [] ∷ ps) w
  empty_kept i ps w h = record { anchor = h.anchor; args = h.args }

  -- `self` goes on or ends the reading
  pub self_kept : (i : Item) (ps : List Part) (w : PathWalk) → ended (items_of ps) ≡ false → Kept final n ps w
      → Keeps final n (part i None [] ∷ ps) (walks.self_read w)
  self_kept i ps w e h = by (walks.no_names w.names)
    where
      by : (b : Bool) → Keeps final n (part i None [] ∷ ps) (if b then Open w else Ended (record w { kind = walks.self_kind w.kind }))
      by true = empty_kept i ps w h
      by false = rw e (record { anchor = h.anchor; args = h.args })

  -- `crate` and `$crate`
  pub root_kept : (i : Item) (k : PathKind) (ps : List Part) (w : PathWalk) → ended (items_of ps) ≡ false → Kept final n ps w
      → Keeps final n (part i None [] ∷ ps) (walks.ended k w)
  root_kept i k ps w e h = rw e (record { anchor = h.anchor; args = h.args })

  pub super_kept : (i : Item) (k : PathKind) (ps : List Part) (w : PathWalk) → Kept final n ps w
      → Keeps final n (part i None [] ∷ ps) (Open (record w { kind = k }))
  super_kept i k ps w h = record { anchor = h.anchor; args = h.args }

  -- a whole path

  abbrev anchor_in : HirPath → Option TypeRefId
  anchor_in (BarePath p) = None
  anchor_in (Normal p) = p.type_anchor
  anchor_in (LangItem i) = None

  -- in the type that it is relative to, and beside each of its names
  pub record PathKept (h : Held) (p : HirPath) : Type 0 where
    pub anchor : (d : ℕ) → n ≤ d → SameIn final (of_present (inners_in final d).type (anchor_in p)) h.anchor
    pub names : (d : ℕ) → n ≤ d → Beside final d (args_of p) h.names

  -- a refused path keeps nothing
  abbrev pub MaybeKept : Held → Option HirPath → Type 0
  MaybeKept h None = in_held h ≡ []
  MaybeKept h (Some p) = PathKept h p

  none_beside_all : (r : Inners) (xs : List Name) → all_of (of_list r) (none_beside xs) ≡ []
  none_beside_all r [] = refl
  none_beside_all r (x ∷ xs) = none_beside_all r xs

  pub path_same : (h : Held) (p : HirPath) → PathKept h p → (d : ℕ) → n ≤ d → SameIn final (of_path (inners_in final d) p) (in_held h)
  path_same h (BarePath p) k d le =
      same_append final [] [] h.anchor (all_in h.names) (k.anchor d le)
      (subst (λ is. SameIn final is (all_in h.names)) (none_beside_all (inners_in final d) p.segments)
      (same_all final d (none_beside p.segments) h.names (k.names d le)))
  path_same h (Normal p) k d le =
      same_append final (of_present (inners_in final d).type p.type_anchor) (all_of (of_list (inners_in final d)) p.generic_args) h.anchor
      (all_in h.names) (k.anchor d le) (same_all final d p.generic_args h.names (k.names d le))
  path_same h (LangItem i) k d le =
      same_append final [] [] h.anchor (all_in h.names) (k.anchor d le) (same_all final d [] h.names (k.names d le))

  -- `<T as Trait>`

  with_self_kept : (d : ℕ) (t : TypeRefId) (b : Bodies) (as' : List (Option GenericArgs)) (bs : List Bodies) → empty_list as' ≡ false
      → SameIn final ((inners_in final d).type t) b → Beside final d as' bs → Beside final d (with_self t as') (first_behind b bs)
  with_self_kept d t b [] bs f e h = absurd (clash f)
  with_self_kept d t b (a ∷ as') [] f e h = absurd h
  with_self_kept d t b (a ∷ as') (c ∷ bs) f e h = (
    same_ids final (b ++ c) (self_first_is (inners_in final d) t a)
        (same_append final ((inners_in final d).type t) (of_list (inners_in final d) a) b c e h.0),
    h.1,
  )

  pub trait_kept : (i : Item) (b : Bodies) (x : Held) (t : TypeRefId) (p : HirPath) (ps : List Part) (w : PathWalk)
      → empty_list (reverse (args_of p)) ≡ false → ((d : ℕ) → n ≤ d → SameIn final ((inners_in final d).type t) b) → PathKept x p
      → Kept final n ps w → Kept final n (part i None (last_behind b x.names) ∷ ps) (add_trait t p w)
  trait_kept i b x t p ps w f e k h = record {
    anchor = h.anchor;
    args = λ d le. rw (reverse-append (last_behind b x.names) (beside_names ps), reverse-reverse (first_behind b (reverse x.names)))
        (each_append (λ a c. SameIn final (of_list (inners_in final d) a) c) w.args (with_self t (reverse (args_of p)))
        (reverse (beside_names ps)) (first_behind b (reverse x.names)) (h.args d le)
        (with_self_kept d t b (reverse (args_of p)) (reverse x.names) f (e d le)
        (each_reverse (λ a c. SameIn final (of_list (inners_in final d) a) c) (args_of p) x.names (k.names d le))));
  }

  -- as many arguments as names
  as_many : (k : ℕ) (z : PathRead) (p : HirPath) → Matches final k z p → walks.no_names (mod_path p).segments ≡ false
      → empty_list (reverse (args_of p)) ≡ false
  as_many k z p m f = by (args_of p) z.names (mod_path p).segments (m.args k (omega arith)) m.names f
    where
      more : (as' : List (Option GenericArgs)) (a : Option GenericArgs) → empty_list (as' ++ a ∷ []) ≡ false
      more [] a = refl
      more (c ∷ as') a = refl

      by : (as' : List (Option GenericArgs)) (ns : List Named) (xs : List Name) → lists final k as' ≡ map args_at ns
          → xs ≡ map name_at ns → walks.no_names xs ≡ false → empty_list (reverse as') ≡ false
      by [] [] xs e n f = absurd (clash (sym (ap walks.no_names n) ∙ f))
      by [] (x ∷ ns) xs e n f = absurd (clash (ap empty_list e))
      by (a ∷ as') ns xs e n f = ap empty_list (reverse-append (a ∷ []) as') ∙ more (reverse as') a

  -- a trait that is refused, or without names, refuses
  pub projected_kept : (k : ℕ) (i : Item) (b : Bodies) (x : Held) (t : TypeRefId) (y : Option PathRead) (o : Option HirPath)
      (ps : List Part) (w : PathWalk) → ((d : ℕ) → n ≤ d → SameIn final ((inners_in final d).type t) b) → Answers final k y o
      → MaybeKept x o → Kept final n ps w → Keeps final n (part i None (last_behind b x.names) ∷ ps) (trait_reading t w o)
  projected_kept k i b x t y None ps w e a m h = tt
  projected_kept k i b x t None (Some p) ps w e a m h = absurd a
  projected_kept k i b x t (Some z) (Some p) ps w e a m h = by (walks.no_names (mod_path p).segments) refl
    where
      by : (c : Bool) → walks.no_names (mod_path p).segments ≡ c
          → Keeps final n (part i None (last_behind b x.names) ∷ ps) (if c then Refused else Open (add_trait t p w))
      by true f = tt
      by false f = trait_kept i b x t p ps w (as_many k z p a f) e m h

  -- the end of a walk

  abbrev first_of : List OptionArgsData → OptionArgsData
  first_of [] = no_args
  first_of (x ∷ xs) = x

  -- the data beside the first name, with which the cut is made on both sides
  cut_kept : (d k : ℕ) (ns : List Named) (as' : List (Option GenericArgs)) (bs : List Bodies) → lists final k as' ≡ map args_at ns
      → Beside final d as' bs → Beside final d (without_last_self as') (first_cut ns bs)
  cut_kept d k [] [] bs e h = h
  cut_kept d k (x ∷ ns) [] [] e h = tt
  cut_kept d k (x ∷ ns) [] (b ∷ bs) e h = absurd h
  cut_kept d k [] (a ∷ as') bs e h = absurd (clash (sym (ap empty_list e)))
  cut_kept d k (x ∷ ns) (a ∷ as') [] e h = absurd h
  cut_kept d k (x ∷ ns) (None ∷ as') (b ∷ bs) e h =
      (rw (← ap first_of e) h.0, h.1)
  cut_kept d k (x ∷ ns) (Some a ∷ as') (b ∷ bs) e h =
      by (walks.has_self a) (ap begins_with_self (sym (ap first_of e)) ∙ self_flag (store_of final) (map_of final) (within final k) a)
    where
      by : (c : Bool) → begins_with_self x.args ≡ c
          → Beside final d ((if c then None else Some a) ∷ as') ((if begins_with_self x.args then [] else b) ∷ bs)
      by true f = rw f (tt, h.1)
      by false f = rw f h

  last_kept : (d k : ℕ) (ns : List Named) (as' : List (Option GenericArgs)) (bs : List Bodies)
      → lists final k as' ≡ map args_at (reverse ns)
      → Beside final d as' (reverse bs) → Beside final d (reverse (without_last_self as')) (last_cut ns bs)
  last_kept d k ns as' bs e h =
      each_reverse (λ a c. SameIn final (of_list (inners_in final d) a) c) (without_last_self as') (first_cut (reverse ns) (reverse bs))
      (cut_kept d k (reverse ns) as' (reverse bs) e h)

  none_without : (xs : List Name) → without_last_self (none_beside xs) ≡ none_beside xs
  none_without [] = refl
  none_without (x ∷ xs) = refl

  bare_anchor : (w : PathWalk) (a : Bool) → (is_none w.type_anchor && a) ≡ true → w.type_anchor ≡ None
  bare_anchor w a h = by w.type_anchor h
    where
      by : (t : Option TypeRefId) → (is_none t && a) ≡ true → t ≡ None
      by None h = refl
      by (Some t) h = absurd (clash (sym h))

  bare_found : (a b : Bool) → (a && not b) ≡ true → b ≡ false
  bare_found true false h = refl
  bare_found true true h = absurd (clash (sym h))
  bare_found false b h = absurd (clash (sym h))

  abbrev made : PathWalk → Bool → HirPath
  made w b = if b then BarePath (own_path w) else Normal (walks.normal_path w)

  pub finished_kept : {k : ℕ} {q : PathKind} (ps : List Part) (w : PathWalk) → Found final k q (items_of ps) w → Kept final n ps w
      → PathKept (held_in ps) (finished w)
  finished_kept {k = k} ps w f h = by (is_none w.type_anchor && not w.found_args) refl
    where
      args : (d : ℕ) → n ≤ d → Beside final d (reverse (without_last_self w.args)) (held_in ps).names
      args d le = last_kept d k (rule.names (items_of ps)) w.args (beside_names ps) (f.args k (omega arith)) (h.args d le)

      none : w.found_args ≡ false → reverse (without_last_self w.args) ≡ none_beside (reverse w.names)
      none b = ap (λ as'. reverse (without_last_self as')) (f.bare b)
          ∙ (ap reverse (none_without w.names) ∙ sym (map_reverse (λ y. None) w.names))

      by : (b : Bool) → (is_none w.type_anchor && not w.found_args) ≡ b → PathKept (held_in ps) (made w b)
      by true e = record {
        anchor = λ d le. subst (λ t. SameIn final (of_present (inners_in final d).type t) (in_anchor ps))
            (bare_anchor w (not w.found_args) e) (h.anchor d le);
        names = λ d le. subst (λ as'. Beside final d as' (held_in ps).names)
            (none (bare_found (is_none w.type_anchor) w.found_args e)) (args d le);
      }
      by false e = record { anchor = h.anchor; names = args }

  pub maybe_same : (h : Held) (o : Option HirPath) → MaybeKept h o → (d : ℕ) → n ≤ d
      → SameIn final (of_present (of_path (inners_in final d)) o) (in_held h)
  maybe_same h None k d le = rw k tt
  maybe_same h (Some p) k d le = path_same h p k d le

  pub walk_kept : (k : ℕ) (ps : List Part) (r : Reading) → Says final k (items_of ps) r → Keeps final n ps r
      → MaybeKept (held_of (rule.path_read (read (items_of ps))) ps) (walks.path_read r)
  walk_kept k ps Refused s h = rw s refl
  walk_kept k ps (Ended w) s h = rw s.1
      (finished_kept (read_parts ps) w (subst (λ is. Found final k (rule.read_kind is) is w) (sym (items_read ps)) s.2) h)
  walk_kept k ps (Open w) s h = rw (read_whole (items_of ps) s.0) (rw s.1 (rw (all_read ps s.0) (finished_kept ps w s.2 h)))

  -- segments before those that are read

  pub one_closed_kept : (r : Reading) (x : Part) (ps : List Part) (k : ℕ) → Closed final k r → Says final k (items_of ps) r
      → Keeps final n ps r → Keeps final n (x ∷ ps) r
  one_closed_kept Refused x ps k c s h = tt
  one_closed_kept (Ended w) x ps k c s h = rw s.0 h
  one_closed_kept (Open w) x ps k c s h = absurd c

path_later : {final : Stored} {n n' : ℕ} {h : Held} {p : HirPath} → n ≤ n' → PathKept final n h p → PathKept final n' h p
path_later le h = record {
  anchor = λ d m. h.anchor d (omega (le, m, arith));
  names = λ d m. h.names d (omega (le, m, arith));
}

pub maybe_later : (final : Stored) (n n' : ℕ) (h : Held) (o : Option HirPath) → n ≤ n' → MaybeKept final n h o → MaybeKept final n' h o
maybe_later final n n' h None le k = k
maybe_later final n n' h (Some p) le k = path_later le k
