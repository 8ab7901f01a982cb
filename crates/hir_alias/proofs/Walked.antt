-- What the visitor of an alias notes of parts.
use Rattle.std.proofs.Common.{◌≡◌, ◌∙◌, refl, sym, ap, subst, ℕ, ◌+◌, ◌<◌, Bool, true, false, cond}
use Rattle.std.proofs.Common.{List, [], ◌∷◌, ◌++◌, Option, Some, None, length, arith, length-append}
use Rattle.std.specs.Prelude.{slice_get, if◌then◌else◌}
use Rattle.std.proofs.lemmas.Option.{none-some}
use denote.Ref.{Bor}
use Rattle.hir_store.specs.Stored.{Store}
use Rattle.hir_store.specs.Names.{same_name}
use Rattle.std.specs.List.{position_from}
use Rattle.hir_store.specs.Params.{is_called}
use Rattle.hir_store.specs.Parts.{Parts, no_parts, type_and, lifetime_and, args_and}
use Rattle.hir_store.specs.Handed.{handed}
use Rattle.hir_store.specs.declared.generics.GenericParams.{GenericParams}
use Rattle.hir_store.specs.declared.generics.LifetimeParamData.{LifetimeParamData}
use Rattle.hir_store.specs.declared.ids.TypeRefId.{TypeRefId}
use Rattle.hir_store.specs.declared.ids.LifetimeRefId.{LifetimeRefId}
use Rattle.hir_store.specs.declared.name.Name.{Name}
use Rattle.hir_store.specs.declared.type_ref.LifetimeRef.{LifetimeRef}
use Rattle.hir_store.specs.declared.type_ref.LifetimeRef.TheVariants as lifetime
use Rattle.hir_alias.specs.declared.signature.Lowered.{Lowered}
use Rattle.hir_alias.specs.declared.visitor.Visitor.{Visitor}
use Rattle.hir_alias.specs.declared.visitor.VisitorState.{VisitorState}
use Rattle.hir_alias.specs.Alias.{Flags}
use Rattle.hir_alias.specs.Placing.{place_of_name}
use Rattle.hir_alias.specs.Reaching.{Part, a_type, named_place, place_by, place_of, goes_into, part_list, alias_parts_found}
use Rattle.hir_alias.specs.Tracking.{track_type, track_lifetime, track_part, track_parts, SoundIn, falses, unseen_count}
use Rattle.hir_alias.proofs.Tracked.{sound_root, sound_step, met_lasts, left_parts, none_up, length_falses, named_at_the_end, some_inj}

track_append : (lifetimes : List LifetimeRef) (find : Name → Option ℕ) (v : VisitorState) (ps qs : List Part)
    → track_parts lifetimes find v (ps ++ qs) ≡ track_parts lifetimes find (track_parts lifetimes find v ps) qs
track_append lifetimes find v [] qs = refl
track_append lifetimes find v (p ∷ ps) qs = track_append lifetimes find (track_part lifetimes find v p) ps qs

-- the visitor after parts, and after those of them that are followed
abbrev hand : Parts → Visitor → Visitor
hand = handed (λ w t. record w { tracks = track_type w.tracks t })
    (λ w l. record w { tracks = track_lifetime w.lowered.now.store.lifetimes (place_of_name w.places) w.tracks l })
    (λ w a. w) (λ w a. goes_into a)

abbrev after : Visitor → List Part → Visitor
after v ps = record v { tracks = track_parts v.lowered.now.store.lifetimes (place_of_name v.places) v.tracks ps }

after_append : (v : Visitor) (ps qs : List Part) → after (after v ps) qs ≡ after v (ps ++ qs)
after_append v ps qs =
    ap (λ n. record v { tracks = n }) (sym (track_append v.lowered.now.store.lifetimes (place_of_name v.places) v.tracks ps qs))

asked_tracks : (enters : Bool) (inside ps : Parts) (v : Visitor)
    → hand inside v ≡ after v (part_list inside) → ((w : Visitor) → hand ps w ≡ after w (part_list ps))
    → hand ps (if enters then hand inside v else v) ≡ after v ((if enters then part_list inside else []) ++ part_list ps)
asked_tracks true inside ps v within behind =
    ap (hand ps) within ∙ (behind (after v (part_list inside)) ∙ after_append v (part_list inside) (part_list ps))
asked_tracks false inside ps v within behind = behind v

pub handed_tracks : (ps : Parts) (v : Visitor)
    → handed (λ w t. record w { tracks = track_type w.tracks t })
    (λ w l. record w { tracks = track_lifetime w.lowered.now.store.lifetimes (place_of_name w.places) w.tracks l })
    (λ w a. w) (λ w a. goes_into a) ps v
    ≡ record v { tracks = track_parts v.lowered.now.store.lifetimes (place_of_name v.places) v.tracks (part_list ps) }
handed_tracks no_parts v = refl
handed_tracks (type_and t ps) v = handed_tracks ps (record v { tracks = track_type v.tracks t })
handed_tracks (lifetime_and l ps) v =
    handed_tracks ps (record v { tracks = track_lifetime v.lowered.now.store.lifetimes (place_of_name v.places) v.tracks l })
handed_tracks (args_and a inside ps) v = asked_tracks (goes_into a) inside ps v (handed_tracks inside v) (handed_tracks ps)

-- the place of a name is one of the parameters'

found_within : (t : Bool) (k j : ℕ) (n : Name) (p : LifetimeParamData) (ps : List LifetimeParamData)
    → (position_from (is_called n) (k + 1) ps ≡ Some j → j < k + 1 + length ps)
    → cond t (Some k) (position_from (is_called n) (k + 1) ps) ≡ Some j → j < k + length (p ∷ ps)
found_within true k j n p ps r h = let i : k ≡ j = some_inj h in omega arith
found_within false k j n p ps r h = let i = r h in omega arith

first_within : (k j : ℕ) (n : Name) (ps : List LifetimeParamData) → position_from (is_called n) k ps ≡ Some j → j < k + length ps
first_within k j n [] e = elim (none-some j e) [ ]
first_within k j n (p ∷ ps) e = found_within (same_name p.name n) k j n p ps (first_within (k + 1) j n ps) e

place_within : (params : List LifetimeParamData) (o : Option LifetimeRef) (j : ℕ) → place_by (place_of params) o ≡ Some j
    → j < length params
place_within params None j e = elim (none-some j e) [ ]
place_within params (Some (lifetime.Named n)) j e = let r = first_within 0 j n params e in omega arith
place_within params (Some lifetime.Static) j e = elim (none-some j e) [ ]
place_within params (Some lifetime.Placeholder) j e = elim (none-some j e) [ ]
place_within params (Some lifetime.Error) j e = elim (none-some j e) [ ]

-- the notes once the last type was taken from the list, and the parts of that were noted
abbrev pub stepped : Store → (Name → Option ℕ) → VisitorState → List TypeRefId → TypeRefId → VisitorState
stepped store find v ws t =
    track_parts store.lifetimes find (record v { work = ws }) (alias_parts_found (slice_get store.types t.0))

module _ (store : Store) (params : List LifetimeParamData) where
  within : (l : LifetimeRefId) (k : ℕ) → named_place store.lifetimes (place_of params) l ≡ Some k → k < length params
  within l k e = place_within params (slice_get store.lifetimes l.0) k e

  -- the notes when nothing is noted
  abbrev pub begun : VisitorState
  begun = record { tracked = falses (length store.types); work = []; named = falses (length params) }

  -- Nothing is noted, and then the type of the alias is.
  pub walk_begins : (root : TypeRefId) → SoundIn store params root (track_type begun root)
  walk_begins root = sound_root store.types store.lifetimes (place_of params) (length params) within root begun refl refl refl

  pub step_sound : (root : TypeRefId) (v : VisitorState) (ws : List TypeRefId) (t : TypeRefId) → v.work ≡ ws ++ t ∷ []
      → SoundIn store params root v → SoundIn store params root (stepped store (place_of params) v ws t)
  step_sound root v ws t e s = (
    sound_step store.types store.lifetimes (place_of params) (length params) within root v ws t e s.0,
    met_lasts store.types store.lifetimes (place_of params) (length params) within (record v { work = ws })
        (alias_parts_found (slice_get store.types t.0)) (a_type root) s.1,
  )

abbrev pub left : VisitorState → ℕ
left n = unseen_count n.tracked + length n.work

pub step_less : (store : Store) (find : Name → Option ℕ) (v : VisitorState) (ws : List TypeRefId) (t : TypeRefId) → v.work ≡ ws ++ t ∷ []
    → left (stepped store find v ws t) < left v
step_less store find v ws t e =
    let a = left_parts store.lifetimes find (record v { work = ws }) (alias_parts_found (slice_get store.types t.0)) in
    let b = ap length e in
    let c = length-append ws (t ∷ []) in omega arith

-- for the loop

-- the visitor once the last type was taken from its list, and the parts of that were noted
abbrev pub one_on : Visitor → List TypeRefId → TypeRefId → Visitor
one_on v ws t = record v { tracks = stepped v.lowered.now.store (place_of_name v.places) v.tracks ws t }

pub step_goes_on : (was v w : Visitor) (ws : List TypeRefId) (t root : TypeRefId)
    → ((n : Name) → place_of_name was.places n ≡ place_of was.lowered.now.generic_params.lifetimes n)
    → v.lowered ≡ was.lowered → v.places ≡ was.places → v.tracks.work ≡ ws ++ t ∷ [] → w ≡ one_on v ws t
    → SoundIn was.lowered.now.store was.lowered.now.generic_params.lifetimes root v.tracks
    → (w.lowered ≡ was.lowered) × (w.places ≡ was.places)
    × SoundIn was.lowered.now.store was.lowered.now.generic_params.lifetimes root w.tracks
step_goes_on was v w ws t root placed same kept e k s =
    let store = was.lowered.now.store in
    let params = was.lowered.now.generic_params.lifetimes in
    let P : VisitorState → Type 0 = SoundIn store params root in
    let find : place_of_name v.places ≡ place_of params = λ i n. (ap (λ ps. place_of_name ps n) kept ∙ placed n) i in
    let there : w.tracks ≡ stepped store (place_of params) v.tracks ws t =
    ap (λ u. u.tracks) k ∙ (λ i. stepped (same i).now.store (find i) v.tracks ws t) in
    (ap (λ u. u.lowered) k ∙ same, ap (λ u. u.places) k ∙ kept, subst P (sym there) (step_sound store params root v.tracks ws t e s))

pub step_comes_down : (v w : Visitor) (ws : List TypeRefId) (t : TypeRefId) → v.tracks.work ≡ ws ++ t ∷ [] → w ≡ one_on v ws t
    → left w.tracks < left v.tracks
step_comes_down v w ws t e k =
    let W : Visitor → Type 0 = λ u. left u.tracks < left v.tracks in
    subst W (sym k) (step_less v.lowered.now.store (place_of_name v.places) v.tracks ws t e)

pub walk_ends : (store : Store) (params : GenericParams) (root : TypeRefId) (v : VisitorState) → SoundIn store params.lifetimes root v
    → v.work ≡ [] → Flags store params (Some root) v.named
walk_ends store params root v s over = record {
  counted = s.0.places_tracked;
  emitted = named_at_the_end store.types store.lifetimes (place_of params.lifetimes) (length params.lifetimes)
      (within store params.lifetimes) root v s.0 s.1 over;
}

-- an alias without type names no parameter
pub names_none : (store : Store) (params : GenericParams) → Flags store params None (falses (length params.lifetimes))
names_none store params = record {
  counted = length_falses (length params.lifetimes);
  emitted = λ k. ((λ h. elim (none_up (length params.lifetimes) k h) [ ]), (λ n. elim n [ ]));
}

-- at the beginning

abbrev pub begun_at : Visitor → VisitorState
begun_at was = begun was.lowered.now.store was.lowered.now.generic_params.lifetimes

pub walk_started : (was v : Visitor) (w : VisitorState) (root : TypeRefId) → v.lowered ≡ was.lowered → v.tracks ≡ begun_at was
    → w ≡ track_type v.tracks root → SoundIn v.lowered.now.store v.lowered.now.generic_params.lifetimes root w
walk_started was v w root same e i =
    let P : VisitorState → Type 0 = SoundIn was.lowered.now.store was.lowered.now.generic_params.lifetimes root in
    let Q : Bor Lowered → Type 0 = λ l. SoundIn l.now.store l.now.generic_params.lifetimes root w in
    subst Q (sym same) (subst P (sym (i ∙ ap (λ n. track_type n root) e))
    (walk_begins was.lowered.now.store was.lowered.now.generic_params.lifetimes root))

pub walk_of_none : (was v : Visitor) → v.lowered ≡ was.lowered → v.tracks ≡ begun_at was → v.lowered.now.ty ≡ None
    → Flags was.lowered.now.store was.lowered.now.generic_params was.lowered.now.ty v.tracks.named
walk_of_none was v same e i =
    let l = was.lowered.now in
    let there : l.ty ≡ None = ap (λ b. b.now.ty) (sym same) ∙ i in
    let P : Option TypeRefId → Type 0 = λ ty. Flags l.store l.generic_params ty (begun_at was).named in
    let Q : VisitorState → Type 0 = λ n. Flags l.store l.generic_params l.ty n.named in
    subst Q (sym e) (subst P (sym there) (names_none l.store l.generic_params))
