-- The steps of a walk over a path's segments, as the parts that they add to those that are read; and with them whole paths.
use Rattle.std.proofs.Common.{arith, ◌≡◌, refl, ap, subst, ◌∙◌, ◌+◌, List, [], ◌∷◌, Option, Some, None, Bool, true, false}
use Rattle.std.specs.Prelude.{option_map, ℕ}
use Rattle.hir_store.specs.Pointers.{Pointer}
use Rattle.hir_store.specs.Stored.{Stored}
use Rattle.hir_store.specs.declared.ids.TypeRefId.{TypeRefId}
use Rattle.hir_store.specs.declared.name.Name.{Name}
use Rattle.hir_store.specs.declared.path.PathKind.{PathKind}
use Rattle.hir_store.specs.declared.path.PathKind.TheVariants as kind
use Rattle.hir_store.specs.declared.path.GenericArgs.{GenericArgs}
use Rattle.hir_store.specs.declared.path.Path.{Path as HirPath}
use Rattle.hir_env.specs.ResolvedTree as tree
use Rattle.hir_env.specs.ResolvedTree.{Path, OptionPath, Segments, Segment}
use Rattle.hir_lower_builder.specs.declared.walk.PathWalk.{PathWalk}
use Rattle.hir_lower_builder.specs.declared.walk.Reading.{Reading}
use Rattle.hir_lower_builder.specs.declared.walk.Reading.TheVariants.{Refused, Ended, Open}
use Rattle.hir_lower_builder.specs.Lowering.{Lowering, ◌>>=◌, pure}
use Rattle.hir_lower_builder.specs.Walks as walks
use Rattle.hir_lower_builder.specs.Walks.{start, at_first, missing_name, self_type_name, one_more_super, super_read, path_read}
use Rattle.hir_lower_builder.specs.Paths.{alias_of, proceed, whole, or_count_out, with_trait}
use Rattle.hir_lower_builder.specs.Lower as lower
use Rattle.thm_logic.proofs.Frames.{Frame}
use Rattle.thm_logic.proofs.Tracked.{correct_aliased}
use Rattle.thm_logic.proofs.Steps.{Mark, Correct, correct_bind, correct_as, correct_pure, correct_both, correct_count_out}
use Rattle.spec_data.specs.Rule as rule
use Rattle.spec_data.specs.Rule.{Item, PathRead, ended, read}
use Rattle.spec_data.specs.Written as written
use Rattle.thm_round_trip.proofs.Walk.{Says, Closed, one_closed, begins}
use Rattle.thm_round_trip.proofs.Going.{Goes, PathIs, trait_read}
use Rattle.thm_round_trip.proofs.Tree.{first_goes, behind_goes, path_reads}
use Rattle.spec_semantics.specs.Inner.{Bodies, Part, items_of, last_behind, Held, held_of, in_held, type_bodies}
use Rattle.spec_semantics.specs.Inner.{beside_bodies}
use Rattle.spec_semantics.specs.Inner.{path_bodies, held, path_parts, outer_parts, behind_parts}
use Rattle.spec_semantics.specs.Inner.{anchor_bodies, names_bodies}
use Rattle.thm_semantics.proofs.Holding.{Holds, a_type}
use Rattle.thm_semantics.proofs.HeldTypes.{some_args, a_path}
use Rattle.thm_semantics.proofs.HeldWalk.{part, Kept, Keeps, kept_later, at_first_kept, begins_kept, named_kept}
use Rattle.thm_semantics.proofs.HeldWalk.{anchor_kept, self_kept, root_kept, super_kept, projected_kept, one_closed_kept}
use Rattle.thm_semantics.proofs.HeldWalk.{MaybeKept, maybe_later, maybe_same, walk_kept}

-- how many expressions, types and patterns there are
abbrev total : Mark → ℕ
total m = m.nodes + m.entries

-- what is so once these parts are read
pub record Corresponds (final : Stored) (k n : ℕ) (ps : List Part) (r : Reading) : Type 0 where
  pub says : Says final k (items_of ps) r
  pub keeps : Keeps final n ps r

-- From what was read this is read, where these parts are added.
pub record Moves (from : Reading) (add : List Part → List Part) (final : Stored) (fs : List Frame) (m m' : Mark) (r : Reading)
    : Type 0 where
  pub moves : (ps : List Part) → Corresponds final m.entries (m.nodes + m.entries) ps from
      → Corresponds final m'.entries (m'.nodes + m'.entries) (add ps) r

-- at once
moves_still : {add : List Part → List Part} (r : Reading)
    → ((final : Stored) (k n : ℕ) (ps : List Part) → Corresponds final k n ps r → Corresponds final k n (add ps) r)
    → Correct (pure r) (Moves r add)
moves_still r h = correct_as (correct_pure r)
    (λ final fs m m' x g row. rw (row.is, row.still) (record { moves = λ ps s. h final m.entries (total m) ps s }))

-- more is read, unless it was refused or has ended
then_moves : {from : Reading} {add more : List Part → List Part} {p : Lowering Reading} {f : PathWalk → Lowering Reading}
    → Correct p (Moves from add)
    → ((final : Stored) (k n : ℕ) (r : Reading) → Closed final k r → (ps : List Part) → Corresponds final k n ps r
    → Corresponds final k n (more ps) r)
    → ((w : PathWalk) → Correct (f w) (Moves (Open w) more)) → Correct (p >>= (λ r. proceed r f)) (Moves from (λ ps. more (add ps)))
then_moves {add = add} {more = more} {f = f} h closed k = correct_as (correct_bind h (λ r. proceeds r))
    (λ final fs m m' r g row. record { moves = λ ps s. row.second.moves (add ps) (row.first.moves ps s) })
  where
    proceeds : (r : Reading) → Correct (proceed r f) (Moves r more)
    proceeds Refused = moves_still Refused (λ final k n ps s. closed final k n Refused tt ps s)
    proceeds (Ended w) = moves_still (Ended w) (λ final k n ps s. closed final k n (Ended w) tt ps s)
    proceeds (Open w) = k w

-- a segment

pub record Takes (w : PathWalk) (x : Part) (final : Stored) (fs : List Frame) (m m' : Mark) (r : Reading) : Type 0 where
  pub keeps : (ps : List Part) → ended (items_of ps) ≡ false → Kept final (m.nodes + m.entries) ps w
      → Keeps final (m'.nodes + m'.entries) (x ∷ ps) r

one_moves : {w : PathWalk} {p : Lowering Reading} (x : Part) → Correct p (Goes (Open w) (λ is. x.item ∷ is)) → Correct p (Takes w x)
    → Correct p (Moves (Open w) (λ ps. x ∷ ps))
one_moves x h k = correct_as (correct_both h k) (λ final fs m m' r g row. record {
  moves = λ ps s. let e = s.says in
      record { says = row.one.says (items_of ps) s.says; keeps = row.other.keeps ps e.0 s.keeps };
})

takes_at_once : {w : PathWalk} {x : Part} (r : Reading)
    → ((final : Stored) (n : ℕ) (ps : List Part) → ended (items_of ps) ≡ false → Kept final n ps w → Keeps final n (x ∷ ps) r)
    → Correct (pure r) (Takes w x)
takes_at_once r h = correct_as (correct_pure r)
    (λ final fs m m' a g row. rw (row.is, row.still) (record { keeps = λ ps e k. h final (total m) ps e k }))

broken_takes : {w : PathWalk} {x : Part} → Correct (pure Refused) (Takes w x)
broken_takes = takes_at_once Refused (λ final n ps e k. tt)

-- a name without arguments
bare_takes : (i : Item) (l : Bool) (n : Name) (w : PathWalk)
    → Correct (pure (walks.named n None (at_first l w))) (Takes w (part i None ([] ∷ [])))
bare_takes i l n w = takes_at_once (walks.named n None (at_first l w))
    (λ final k ps e h. named_kept final k i [] n None ps (at_first l w) (λ d le. tt) (at_first_kept final k l ps w h))

named_takes : {b : Bodies} {p : Lowering (Option GenericArgs)} (i : Item) (l : Bool) (n : Name) (w : PathWalk)
    → Correct p (Holds some_args b) → Correct (p >>= (λ a. pure (walks.named n a (at_first l w)))) (Takes w (part i None (b ∷ [])))
named_takes {b = b} i l n w h = correct_as (correct_bind h (λ a. correct_pure (walks.named n a (at_first l w))))
    (λ final fs m m' r g row. rw (row.second.is, row.second.still) (record {
      keeps = λ ps e k. let u = row.before in let c = row.middle in
          named_kept final (total c) i b n row.one ps (at_first l w) row.first.same
          (at_first_kept final (total c) l ps w (kept_later (omega (u.nodes, u.entries, arith)) k));
    }))

super_takes : (i : Item) (l : Bool) (w : PathWalk) → Correct (or_count_out (super_read (at_first l w))) (Takes w (part i None []))
super_takes i l w = by (one_more_super (at_first l w).kind)
  where
    by : (o : Option PathKind)
        → Correct (or_count_out (option_map (λ k. Open (record (at_first l w) { kind = k })) o)) (Takes w (part i None []))
    by None = correct_count_out (Takes w (part i None []))
    by (Some k) = takes_at_once (Open (record (at_first l w) { kind = k }))
        (λ final n ps e h. super_kept final n i k ps (at_first l w) (at_first_kept final n l ps w h))

anchor_takes : {b : Bodies} {p : Lowering TypeRefId} (i : Item) (l : Bool) (w : PathWalk) → Correct p (Holds a_type b)
    → Correct (p >>= (λ t. pure (walks.anchored t (at_first l w)))) (Takes w (part i (Some b) []))
anchor_takes {b = b} i l w h = correct_as (correct_bind h (λ t. correct_pure (walks.anchored t (at_first l w))))
    (λ final fs m m' r g row. rw (row.second.is, row.second.still) (record {
      keeps = λ ps e k. let u = row.before in let c = row.middle in
          anchor_kept final (total c) i b row.one ps (at_first l w) row.first.same
          (at_first_kept final (total c) l ps w (kept_later (omega (u.nodes, u.entries, arith)) k));
    }))

-- a path

-- nothing, or a path that keeps this
pub record PathHolds (h : Held) (final : Stored) (fs : List Frame) (m m' : Mark) (o : Option HirPath) : Type 0 where
  pub kept : MaybeKept final (m'.nodes + m'.entries) h o

trait_takes : {b : Bodies} {p : Lowering TypeRefId} {q : Lowering (Option HirPath)} (y : Option PathRead) (x : Held) (i : Item)
    (l : Bool) (at : Pointer) (w : PathWalk) → Correct p (Holds a_type b) → Correct q (PathIs y) → Correct q (PathHolds x)
    → Correct (p >>= (λ t. with_trait q t at (at_first l w))) (Takes w (part i None (last_behind b x.names)))
unfolding with_trait
trait_takes {b = b} y x i l at w hp hq hk =
    correct_as (correct_bind hp (λ t. correct_bind (correct_both hq hk) (λ o. trait_read t at (at_first l w) o)))
    (λ final fs m m' r g row. let s = row.second in let c = s.middle in let u = s.after in let v = s.before in rw s.second.is (record {
      keeps = λ ps e k. projected_kept final (total m') c.entries i b x row.one y s.one ps (at_first l w)
          (λ d le. row.first.same d (omega (le, u.nodes, u.entries, v.nodes, v.entries, arith)))
          s.first.one.is (maybe_later final (total c) (total m') x s.one (omega (u.nodes, u.entries, arith)) s.first.other.kept)
          (at_first_kept final (total m') l ps w (kept_later (omega (g.nodes, g.entries, arith)) k));
    }))

-- segments in a tree

abbrev pub first_part : Bool → Segment → Part
first_part l s = record {
  item = record { leading = l; what = written.what true s };
  anchor = anchor_bodies s;
  names = names_bodies s;
}

abbrev pub behind_part : Segment → Part
behind_part s = record {
  item = record { leading = false; what = written.what false s };
  anchor = anchor_bodies s;
  names = names_bodies s;
}

-- what is in a segment holds its bodies
abbrev pub SegmentHolds : Segment → Type 0
SegmentHolds (tree.name_segment n _ as') = Correct (lower.lower_segment_args as') (Holds some_args (beside_bodies as'))
SegmentHolds (tree.type_segment t) = Correct (lower.lower_type None t) (Holds a_type (type_bodies t))
SegmentHolds (tree.trait_segment t at p) =
    Correct (lower.lower_type None t) (Holds a_type (type_bodies t)) × Correct (lower.lower_path p) (PathHolds (held p))
SegmentHolds s = Unit {0}

first_takes : (l : Bool) (s : Segment) (w : PathWalk) → SegmentHolds s
    → Correct (lower.read_segment true s (at_first l w)) (Takes w (first_part l s))
first_takes l tree.absent_segment w h = bare_takes _ l missing_name w
first_takes l tree.broken_segment w h = broken_takes
first_takes l (tree.name_segment n _ a) w h = named_takes _ l n w h
first_takes l tree.self_type_segment w h = bare_takes _ l self_type_name w
first_takes l tree.crate_segment w h = takes_at_once _ (λ final n ps e k.
    root_kept final n _ kind.Crate ps (at_first l w) e (at_first_kept final n l ps w k))
first_takes l (tree.dollar_crate_segment c) w h = takes_at_once _ (λ final n ps e k.
    root_kept final n _ (walks.crate_kind c) ps (at_first l w) e (at_first_kept final n l ps w k))
first_takes l tree.self_segment w h = takes_at_once _ (λ final n ps e k.
    self_kept final n _ ps (at_first l w) e (at_first_kept final n l ps w k))
first_takes l tree.super_segment w h = super_takes _ l w
first_takes l (tree.type_segment t) w h = anchor_takes _ l w h
first_takes l (tree.trait_segment t at p) w h = trait_takes (written.path_of p) (held p) _ l at w h.0 (path_reads p) h.1

behind_takes : (s : Segment) (w : PathWalk) → SegmentHolds s → Correct (lower.read_segment false s w) (Takes w (behind_part s))
behind_takes tree.absent_segment w h = bare_takes _ false missing_name w
behind_takes tree.broken_segment w h = broken_takes
behind_takes (tree.name_segment n _ a) w h = named_takes _ false n w h
behind_takes tree.self_type_segment w h = bare_takes _ false self_type_name w
behind_takes tree.crate_segment w h = broken_takes
behind_takes (tree.dollar_crate_segment c) w h = broken_takes
behind_takes tree.self_segment w h = broken_takes
behind_takes tree.super_segment w h = super_takes _ false w
behind_takes (tree.type_segment t) w h = broken_takes
behind_takes (tree.trait_segment t at p) w h = broken_takes

-- segments before those that are read

one_still : (final : Stored) (k n : ℕ) (r : Reading) → Closed final k r → (x : Part) (ps : List Part) → Corresponds final k n ps r
    → Corresponds final k n (x ∷ ps) r
one_still final k n r c x ps s = record {
  says = one_closed final k r c x.item (items_of ps) s.says;
  keeps = one_closed_kept final n r x ps k c s.says s.keeps;
}

-- what stays behind one more stays behind all
module _ (Stays : List Part → Type 0) (one : (x : Part) (ps : List Part) → Stays ps → Stays (x ∷ ps)) where
  parts_still : (ss : Segments) (ps : List Part) → Stays ps → Stays (behind_parts ss ps)
  parts_still tree.no_segments ps h = h
  parts_still (tree.more_segments s ss) ps h = one (behind_part s) (behind_parts ss ps) (parts_still ss ps h)

  mutual
    path_still : (p : Path) (ps : List Part) → Stays ps → Stays (path_parts p ps)
    path_still (tree.path alias leading first rest use_) ps h = outer_still use_ (first_part leading first ∷ behind_parts rest ps)
        (one (first_part leading first) (behind_parts rest ps) (parts_still rest ps h))

    outer_still : (p : OptionPath) (ps : List Part) → Stays ps → Stays (outer_parts p ps)
    outer_still tree.no_path ps h = h
    outer_still (tree.some_path p) ps h = path_still p ps h

-- all segments

abbrev pub SegmentsHold : Segments → Type 0
SegmentsHold tree.no_segments = Unit {0}
SegmentsHold (tree.more_segments s ss) = SegmentHolds s × SegmentsHold ss

-- what is in the segments of a path, and of the use trees around it, holds its bodies
abbrev mutual
  pub AllHold : Path → Type 0
  AllHold (tree.path alias leading first rest use_) = SegmentHolds first × SegmentsHold rest × OuterHolds use_

  pub OuterHolds : OptionPath → Type 0
  OuterHolds tree.no_path = Unit {0}
  OuterHolds (tree.some_path p) = AllHold p

each_moves : (ss : Segments) (w : PathWalk) → SegmentsHold ss → Correct (lower.read_each ss w) (Moves (Open w) (behind_parts ss))
each_moves tree.no_segments w h = moves_still (Open w) (λ final k n ps s. s)
each_moves (tree.more_segments s ss) w h =
    then_moves {add = behind_parts ss} {more = λ ps. behind_part s ∷ ps} (each_moves ss w h.1)
    (λ final k n r c ps s'. one_still final k n r c (behind_part s) ps s')
    (λ v. one_moves (behind_part s) (behind_goes s v) (behind_takes s v h.0))

mutual
  unfolding whole

  path_moves : (p : Path) (w : PathWalk) → AllHold p → Correct (lower.read_path p w) (Moves (Open w) (path_parts p))
  path_moves (tree.path alias leading first rest use_) w h =
      then_moves {add = λ ps. first_part leading first ∷ behind_parts rest ps} {more = outer_parts use_}
      (then_moves {add = behind_parts rest} {more = λ ps. first_part leading first ∷ ps} (each_moves rest w h.1)
      (λ final k n r c ps s. one_still final k n r c (first_part leading first) ps s)
      (λ v. one_moves (first_part leading first) (first_goes leading first v) (first_takes leading first v h.0)))
      (λ final k n r c ps s. outer_still (λ qs. Corresponds final k n qs r) (one_still final k n r c) use_ ps s)
      (λ v. outer_moves use_ v h.2)

  outer_moves : (p : OptionPath) (w : PathWalk) → OuterHolds p → Correct (lower.read_option p w) (Moves (Open w) (outer_parts p))
  outer_moves tree.no_path w h = moves_still (Open w) (λ final k n ps s. s)
  outer_moves (tree.some_path p) w h = path_moves p w h

-- the parts are those of the items

behind_items : (ss : Segments) (ps : List Part) → items_of (behind_parts ss ps) ≡ written.items ss (items_of ps)
behind_items tree.no_segments ps = refl
behind_items (tree.more_segments s ss) ps = ap (λ is. (behind_part s).item ∷ is) (behind_items ss ps)

mutual
  path_items : (p : Path) (ps : List Part) → items_of (path_parts p ps) ≡ written.segments p (items_of ps)
  path_items (tree.path alias leading first rest use_) ps =
      outer_items use_ (first_part leading first ∷ behind_parts rest ps)
      ∙ ap (λ is. written.outer use_ ((first_part leading first).item ∷ is)) (behind_items rest ps)

  outer_items : (p : OptionPath) (ps : List Part) → items_of (outer_parts p ps) ≡ written.outer p (items_of ps)
  outer_items tree.no_path ps = refl
  outer_items (tree.some_path p) ps = path_items p ps

-- whole paths

-- the path keeps, in the type that it is relative to and beside each of its names, the bodies that are written there
pub path_holds : (p : OptionPath) → OuterHolds p → Correct (lower.lower_path p) (PathHolds (held p))
path_holds tree.no_path h = correct_as (correct_pure None) (λ final fs m m' o g row. rw row.is (record { kept = refl }))
path_holds (tree.some_path p) h = correct_aliased (alias_of p) (correct_as
    (correct_bind (path_moves p start h) (λ r. correct_pure (path_read r)))
    (λ final fs m m' o g row. rw (row.second.is, row.second.still) (record {
      kept = let c = row.middle in
          let s = row.first.moves [] (record { says = begins final m.entries; keeps = begins_kept final (total m) }) in
          subst (λ is. MaybeKept final (total c) (held_of (rule.path_read (read is)) (path_parts p [])) (path_read row.one))
          (path_items p []) (walk_kept final (total c) c.entries (path_parts p []) row.one s.says s.keeps);
    })))

path_bodies_held : (p : OptionPath) → path_bodies p ≡ in_held (held p)
path_bodies_held tree.no_path = refl
path_bodies_held (tree.some_path p) = refl

-- and so it holds those bodies
pub path_held : (p : OptionPath) → OuterHolds p → Correct (lower.lower_path p) (Holds a_path (path_bodies p))
path_held p h = correct_as (path_holds p h) (λ final fs m m' o g row. rw (path_bodies_held p) (record {
  same = λ d le. maybe_same final (m'.nodes + m'.entries) (held p) o row.kept d le;
}))
