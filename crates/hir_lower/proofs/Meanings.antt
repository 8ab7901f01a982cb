-- What is lowered as a root is what is written.
use Rattle.std.proofs.Common.{◌≡◌, ◌≢◌, ◌+◌, ◌∙◌, refl, sym, ap, subst, suc, true, length, [], ◌∷◌, ◌++◌, Ok, Err}
use Rattle.std.specs.Prelude.{IfOk, IsErrOf}
use Rattle.std.proofs.Math.Logic.{∥∥₁_map}
use Rattle.hir_store.specs.Bindings.{binding_id}
use Rattle.hir_store.specs.Stored.{SourceMap, Store, Stored, store_of, map_of}
use Rattle.hir_store.specs.StoreSink as store_sink
use Rattle.hir_store.specs.StoreSink.{Extends, root_at}
use Rattle.hir_store.specs.Range.{HasExpr}
use Rattle.hir_store.specs.declared.ids.BindingId.{BindingId}
use Rattle.hir_store.specs.declared.ids.ExprId.{ExprId}
use Rattle.hir_store.specs.declared.error.StoreError.{StoreError}
use Rattle.hir_store.specs.declared.error.StoreError.TheVariants.{Memory, Full}
use Rattle.hir_store.proofs.Arenas.{prefix_refl}
use Rattle.hir_store.proofs.Extending.{extends_owner, extends_refl, extends_root, extends_trans}
use Rattle.hir_store.proofs.OwnerLemmas.{length_owned}
use Rattle.hir_env.specs.ResolvedTree.{OptionExpr}
use Rattle.hir_lower_builder.specs.Builder.{Builder}
use Rattle.hir_lower_builder.specs.Lowering.{Checked, Lowering, Lowers, go_on, bindings_end, close_labels, enter_root, outside_root, own}
use Rattle.hir_lower_builder.specs.Lowering.{record_root}
use Rattle.hir_lower_builder.specs.Lower.{lower_part}
use Rattle.hir_lower_scope.specs.ScopeRibs.{map_ribs}
use Rattle.thm_logic.specs.Keeps.{KeepsAll, Keeps, MadeApart, Mapped, Paired}
use Rattle.thm_logic.proofs.ApartTree.{part_apart}
use Rattle.thm_logic.proofs.Keeping.{apart_by, keeping}
use Rattle.thm_logic.proofs.Owning.{with_owned}
use Rattle.thm_semantics.specs.Headline.{Lowered}
use Rattle.thm_semantics.proofs.Whole.{headline}
use Rattle.thm_logic.proofs.Formals.{apart_in, apart_now}
use Rattle.thm_body_result.specs.Definitions.{DefinitionsAre}
use Rattle.thm_body_result.specs.Theorems.{Defined, FitsUnless, Grown, MayBeOwned, Settled}
use Rattle.thm_body_result.specs.Room.{TooLarge, size_part}
use Rattle.thm_body_result.specs.Size.{owned}
use Rattle.thm_body_result.specs.Diagnostics.{forget}
use Rattle.thm_body_result.specs.Leads.{OwnedBy}
use Rattle.thm_body_result.specs.Corresponds.{CorrespondsPart}
use Rattle.thm_body_result.proofs.Last.{EndsWith}
use Rattle.thm_body_result.proofs.Owners.{last_owns}
use Rattle.thm_body_result.proofs.AllStand.{all_stand, part_shown}
use Rattle.thm_body_result.proofs.Leading.{Shown}
use Rattle.thm_body_result.proofs.OwnedMappings.{shown_owned}
use Rattle.thm_body_result.proofs.TreeFaults.{diagnostics_are}
use Rattle.thm_body_result.proofs.TreeBlocks.{blocks_are}
use Rattle.thm_body_result.proofs.Fits.{all_fit}
use Rattle.thm_body_result.proofs.Took.{Room, Took}
use Rattle.thm_body_result.proofs.TreeRooms.{part_last, part_takes}
use Rattle.thm_body_result.specs.LeadsOn.{Went}
use Rattle.thm_body_result.proofs.AsExpansions.{exprs_expand}
use Rattle.thm_body_result.proofs.AsStoredData.{exprs_store}
use Rattle.thm_type_result.proofs.Inside.{expr_inside}
use Rattle.thm_type_result.proofs.Named.{expr_bindings_came, expr_pats_once, expr_types_once}
use Rattle.thm_item_result.specs.Exceeding.{FitsBehind, HadRoom, InLimits}
use Rattle.thm_item_result.proofs.AsLimits.{room_is_there}
use Rattle.hir_lower.specs.Calls.{Outside}
use Rattle.hir_lower.specs.Roots.{root_of}
use Rattle.hir_lower.specs.Stays.{Stays}
use Rattle.hir_lower.proofs.Behind.{inside_root, with_root}
use Rattle.thm_body_result.proofs.AsMappings.{part_leads}
use Rattle.thm_body_result.proofs.Onward.{step_went}
use Rattle.thm_body_result.proofs.EmittedOwnedMappings.{went_owned}
use Rattle.hir_lower.proofs.StaysOn.{stays_on}
use Rattle.hir_lower.specs.Means.{Lives, Rooted}

-- owned from this binding on by the root, which is recorded
abbrev owned_root : BindingId → Builder → ExprId → Builder
owned_root start b i = with_root (record b { stored = with_owned start i b.stored }) i

abbrev recorded : BindingId → ExprId → Lowering ExprId
recorded start i = λ t. (Ok i, owned_root start t i)

-- the first binding of the root
abbrev first : Builder → BindingId
first b = binding_id (length b.stored.bindings.entries)

root_steps : (e : OptionExpr) (b : Builder)
    → root_of e b ≡ go_on (lower_part e (inside_root b)).0 (lower_part e (inside_root b)).1 (recorded (first b))
unfolding root_of close_labels enter_root bindings_end own store_sink.own record_root outside_root store_sink.record_root
root_steps e b = refl

-- nothing is lost

recorded_extends : (start : BindingId) (c : Builder) (i : ExprId) → Extends c.stored (owned_root start c i).stored
recorded_extends start c i =
    let owned = with_owned start i c.stored in
    extends_trans (extends_owner c.stored start i) (extends_root owned (root_at (store_of owned) i))

recorded_stays : (b : Builder) (o : Checked ExprId) (c : Builder) → Keeps (inside_root b) o c
    → Extends b.stored (go_on o c (recorded (first b))).1.stored
recorded_stays b (Ok i) c h = extends_trans h.stays (recorded_extends (first b) c i)
recorded_stays b (Err x) c h = h

recorded_went : (b : Builder) (o : Checked ExprId) (c : Builder) → Went b.stored c.stored
    → Went b.stored (go_on o c (recorded (first b))).1.stored
recorded_went b (Ok i) c h = let w = went_owned b.stored c.stored i h in record {
  exprs = w.exprs;
  labels = w.labels;
  pats = w.pats;
  types = w.types;
  targets = w.targets;
  lifetimes = w.lifetimes;
  bindings = w.bindings;
  owners = w.owners;
}
recorded_went b (Err x) c h = h

root_went : (e : OptionExpr) (b : Builder) → Went b.stored (root_of e b).1.stored
root_went e b =
    let o = (lower_part e (inside_root b)).0 in
    let c = (lower_part e (inside_root b)).1 in
    rw (root_steps e b) (recorded_went b o c (step_went (part_leads e) (inside_root b)))

root_stays : (e : OptionExpr) (b : Builder) → MayBeOwned b.stored → Stays b.stored (root_of e b).1.stored
root_stays e b m =
    let o = (lower_part e (inside_root b)).0 in
    let c = (lower_part e (inside_root b)).1 in
    let mappings : Went b.stored (go_on o c (recorded (first b))).1.stored = recorded_went b o c
    (step_went (part_leads e) (inside_root b)) in
    rw (root_steps e b)
    (stays_on (recorded_stays b o c (keeping e (inside_root b))) mappings m)

pub stays_unless : (e : OptionExpr) (b b' : Builder) (r : Checked ExprId) → Lowers HasExpr (root_of e) b r b' → MayBeOwned b.stored
    → r ≢ Err Memory → Stays b.stored b'.stored
stays_unless e b b' (Ok i) l m n =
    let P : Checked ExprId × Builder → Type 0 = λ q. Stays b.stored q.1.stored in subst P l.0 (root_stays e b m)
stays_unless e b b' (Err x) l m n =
    let other : x ≢ Memory = λ is. n (ap Err is) in
    let P : Checked ExprId × Builder → Type 0 = λ q. Stays b.stored q.1.stored in
    subst P (l other).0 (root_stays e b m)

-- what owns each binding is stored
pub may_be_owned_if : (e : OptionExpr) (b b' : Builder) (r : Checked ExprId) → Lowers HasExpr (root_of e) b r b' → MayBeOwned b.stored
    → IfOk r (λ i. MayBeOwned b'.stored)
may_be_owned_if e b b' (Ok i) l m =
    let w : Went b.stored b'.stored = subst (λ (q : Checked ExprId × Builder). Went b.stored q.1.stored) l.0 (root_went e b) in
    (w.owners m).1
may_be_owned_if e b b' (Err x) l m = tt

-- where there is no room

root_too_large : (e : OptionExpr) (b b' : Builder) (x : StoreError) → Paired b.stored → root_of e b ≡ (Err x, b') → TooLarge b e
root_too_large e b b' x d h =
    by (lower_part e (inside_root b)).0 (lower_part e (inside_root b)).1 (all_fit e (inside_root b) d) (sym (root_steps e b) ∙ h)
  where
    by : (o : Checked ExprId) (c : Builder) → FitsUnless e b o c → go_on o c (recorded (first b)) ≡ (Err x, b') → TooLarge b e
    by (Ok i) c f g = let no = ap (λ (q : Checked ExprId × Builder). q.0) g in cc
    by (Err y) c f g = f

pub too_large_if : (e : OptionExpr) (b b' : Builder) (r : Checked ExprId) → Lowers HasExpr (root_of e) b r b' → Paired b.stored
    → IsErrOf r Full → TooLarge b e
too_large_if e b b' (Ok i) l d is = cc
too_large_if e b b' (Err x) l d is = let other : x ≢ Memory = λ m. cc in root_too_large e b b' x d (l other).0

-- a root

-- the steps of a root that was lowered
record Parts (e : OptionExpr) (b : Builder) (i : ExprId) (b' : Builder) : Type 0 where
  inner : Builder
  is : lower_part e (inside_root b) ≡ (Ok i, inner)
  left : owned_root (first b) inner i ≡ b'

parts : (e : OptionExpr) (b b' : Builder) (i : ExprId) → root_of e b ≡ (Ok i, b') → Parts e b i b'
parts e b b' i h = by (lower_part e (inside_root b)).0 (lower_part e (inside_root b)).1 refl (sym (root_steps e b) ∙ h)
  where
    by : (o : Checked ExprId) (c : Builder) → lower_part e (inside_root b) ≡ (o, c) → go_on o c (recorded (first b)) ≡ (Ok i, b')
        → Parts e b i b'
    by (Ok j) c is g =
        let ok = ap (λ (q : Checked ExprId × Builder). q.0) g in
        let same : j ≡ i = cc in
        let end = ap (λ (q : Checked ExprId × Builder). q.1) g in
        record { inner = c; is = is ∙ ap (λ k. (Ok k, c)) same; left = sym (ap (owned_root (first b) c) same) ∙ end }
    by (Err x) c is g = let no = ap (λ (q : Checked ExprId × Builder). q.0) g in cc

-- what is so of an expression inside of a root, where no label is open
module _ (e : OptionExpr) (b inner : Builder) (i : ExprId) (none_open : b.scopes ≡ []) (paired : Paired b.stored)
    (is : lower_part e b ≡ (Ok i, inner)) where
  -- what stands for it once it owns what is bound in it
  owns_inside : (later : Stored) → Extends inner.stored later → Settled inner.stored later
      → Shown (OwnedBy i (CorrespondsPart (store_of later) (map_of later) [] e i)) b.stored (with_owned (first b) i inner.stored)
  owns_inside later ext still =
      let x = subst (λ rs. Shown (CorrespondsPart (store_of later) (map_of later) rs e i) b.stored inner.stored) none_open
      (part_shown e b i inner paired is later ext still) in
      shown_owned (first b) i refl x refl

  lives_inside : (later : Stored) → Extends inner.stored later → Settled inner.stored later → MayBeOwned b.stored
      → Lives b.stored (with_owned (first b) i inner.stored) later i e
  lives_inside later ext still may =
      let lowered : Lowered e b i inner = record { none_open = none_open; paired = paired; is = is } in
      let owns = owns_inside later ext still in
      let m = owns.moved in
      record {
        same = headline e b inner i lowered later ext;
        mappings = owns.mappings;
        corresponds = owns.shown;
        reaches = record {
          covers = m.covers;
          covers_labels = m.covers_labels;
          covers_bindings = m.covers_bindings;
          led = m.led;
          labels = m.labels;
          settled = (all_stand e b i inner paired is later ext still).reaches.settled;
          defined = m.defined;
          owner_mappings = λ may. (m.owners may).are;
        };
        owner_mappings = (m.owners may).are;
        reached_once = λ depth le. expr_inside e b inner i lowered later ext depth le;
        types_reached_once = expr_types_once e b inner i paired is later ext;
        pats_reached_once = expr_pats_once e b inner i paired is later ext;
      }

  -- where a root is being lowered, and none is recorded inside of it
  pub roots_inside : b.in_root ≡ true → inner.stored.roots ≡ b.stored.roots
  roots_inside in_root = let kept : KeepsAll b inner = subst (λ r. Keeps b r.0 r.1) is (keeping e b) in kept.roots in_root

  owned_inside : Grown (owned (size_part e)) b.stored (with_owned (first b) i inner.stored)
  owned_inside =
      let size = size_part e in
      let start = length b.stored.bindings.entries in
      let fits : Grown size b.stored inner.stored = subst (λ r. FitsUnless e b r.0 r.1) is (all_fit e b paired) in
      let last : suc i.0 ≡ length inner.stored.exprs.entries =
      subst (λ (r : Checked ExprId × Builder). EndsWith (λ j. j) r.0 r.1) is ((part_last e).last b) in
      record {
        exprs = fits.exprs;
        labels = fits.labels;
        bindings = fits.bindings;
        owners = λ m. last_owns b.stored.bindings.owners (length b.stored.exprs.entries) size.exprs size.owners i start m
            (last ∙ fits.exprs) (fits.owners m);
        may_be_owned = λ m. length_owned start i inner.stored.bindings.owners ∙ fits.may_be_owned m;
        pats = fits.pats;
        types = fits.types;
        lifetimes = fits.lifetimes;
        pat_sources = fits.pat_sources;
        pat_map = fits.pat_map;
        target_map = fits.target_map;
        type_sources = fits.type_sources;
        lifetime_sources = fits.lifetime_sources;
        types_map = fits.types_map;
      }

  -- it is recorded, and owns its bindings
  rooted_inside : b.in_root ≡ true → MayBeOwned b.stored → Rooted b.stored (owned_root (first b) inner i).stored i e
  rooted_inside in_root may =
      let kept : KeepsAll b inner = subst (λ r. Keeps b r.0 r.1) is (keeping e b) in
      let fits = owned_inside in
      let after = kept.paired paired in
      record {
        lives = λ later x still.
            let live = lives_inside later (extends_trans (recorded_extends (first b) inner i) x) still may in record {
              same = live.same;
              mappings = live.mappings;
              corresponds = live.corresponds;
              reaches = record {
                covers = live.reaches.covers;
                covers_labels = live.reaches.covers_labels;
                covers_bindings = live.reaches.covers_bindings;
                led = live.reaches.led;
                labels = live.reaches.labels;
                settled = live.reaches.settled;
                defined = live.reaches.defined;
                owner_mappings = live.reaches.owner_mappings;
              };
              owner_mappings = live.owner_mappings;
              reached_once = live.reached_once;
              types_reached_once = live.types_reached_once;
              pats_reached_once = live.pats_reached_once;
            };
        grown = record {
          exprs = fits.exprs;
          labels = fits.labels;
          bindings = fits.bindings;
          owners = fits.owners;
          may_be_owned = fits.may_be_owned;
          pats = fits.pats;
          types = fits.types;
          lifetimes = fits.lifetimes;
          pat_sources = fits.pat_sources;
          pat_map = fits.pat_map;
          target_map = fits.target_map;
          type_sources = fits.type_sources;
          lifetime_sources = fits.lifetime_sources;
          types_map = fits.types_map;
        };
        stored_data = let d = exprs_store e b i inner paired is in record {
          types = λ later x. d.types later (extends_trans (recorded_extends (first b) inner i) x);
          lifetimes = λ later x. d.lifetimes later (extends_trans (recorded_extends (first b) inner i) x);
        };
        owners = fits.owners may;
        roots = ap (λ rs. rs ++ root_at (store_of inner.stored) i ∷ []) (roots_inside in_root);
        bindings_came = expr_bindings_came e b inner i paired is;
        faults = diagnostics_are e b i inner paired is [] (ap (λ rs. map_ribs forget rs) (sym none_open));
        blocks = blocks_are e b i inner paired is;
        expansions = exprs_expand e b i inner paired is;
        paired = record {
          exprs = after.exprs;
          labels = after.labels;
          pats = after.pats;
          types = after.types;
          lifetimes = after.lifetimes;
        };
        mapped = λ m. let x = kept.mapped paired m in record { types = x.types; lifetimes = x.lifetimes };
      }

root_rooted : (e : OptionExpr) (b b' : Builder) (i : ExprId) → Paired b.stored → MayBeOwned b.stored → root_of e b ≡ (Ok i, b')
    → Rooted b.stored b'.stored i e
root_rooted e b b' i d m h =
    let p : Parts e b i b' = parts e b b' i h in
    subst (λ x. Rooted b.stored x.stored i e) p.left (rooted_inside e (inside_root b) p.inner i refl d p.is refl m)

pub rooted_if : (e : OptionExpr) (b b' : Builder) (r : Checked ExprId) → Lowers HasExpr (root_of e) b r b' → Paired b.stored
    → MayBeOwned b.stored → IfOk r (λ i. Rooted b.stored b'.stored i e)
rooted_if e b b' (Ok i) l d m = root_rooted e b b' i d m l.0
rooted_if e b b' (Err f) l d m = tt

-- made names stay apart
root_apart : (e : OptionExpr) (b b' : Builder) (i : ExprId) → root_of e b ≡ (Ok i, b') → Paired b.stored → MadeApart b.names b.stored
    → MadeApart b'.names b'.stored
root_apart e b b' i h d m =
    let p : Parts e b i b' = parts e b b' i h in
    let kept : MadeApart p.inner.names p.inner.stored = apart_by (part_apart e) (inside_root b) p.inner i d p.is m in
    let corresponds = apart_in (recorded_extends (first b) p.inner i) kept in
    let P : Builder → Type 0 = λ x. MadeApart x.names x.stored in
    subst P p.left (apart_now (record { once = corresponds.once; later = corresponds.later }))

pub apart_if : (e : OptionExpr) (b b' : Builder) (r : Checked ExprId) → Lowers HasExpr (root_of e) b r b' → Paired b.stored
    → ∥ MadeApart b.names b.stored ∥₁ → IfOk r (λ i. ∥ MadeApart b'.names b'.stored ∥₁)
apart_if e b b' (Ok i) l d m = ∥∥₁_map m (root_apart e b b' i l.0 d)
apart_if e b b' (Err f) l d m = tt

-- each binding has the patterns that make it
root_defined : (e : OptionExpr) (b b' : Builder) (i : ExprId) → Paired b.stored → MayBeOwned b.stored → root_of e b ≡ (Ok i, b')
    → Defined b.stored → Defined b'.stored
root_defined e b b' i d m h known =
    let r : Rooted b.stored b'.stored i e = root_rooted e b b' i d m h in
    (r.lives b'.stored (extends_refl b'.stored) (prefix_refl b'.stored.bindings.entries)).reaches.defined known

pub defined_if : (e : OptionExpr) (b b' : Builder) (r : Checked ExprId) → Lowers HasExpr (root_of e) b r b' → Paired b.stored
    → MayBeOwned b.stored → Defined b.stored → IfOk r (λ i. Defined b'.stored)
defined_if e b b' (Ok i) l d m known = root_defined e b b' i d m l.0 known
defined_if e b b' (Err f) l d m known = tt

pub definitions_of : (s : Stored) (store : Store) (source_map : SourceMap) → store ≡ store_of s → source_map ≡ map_of s → Defined s
    → DefinitionsAre store.pats (length store.bindings) source_map.binding_definitions
definitions_of s store source_map is map_is d =
    let P : Store → Type 0 = λ x. DefinitionsAre x.pats (length x.bindings) source_map.binding_definitions in
    let Q : SourceMap → Type 0 = λ m. DefinitionsAre s.pats.entries (length s.bindings.entries) m.binding_definitions in
    subst P (sym is) (subst Q (sym map_is) d)

-- the nodes of types and lifetimes lead to them
root_mapped : (e : OptionExpr) (b b' : Builder) (i : ExprId) → Paired b.stored → root_of e b ≡ (Ok i, b') → Mapped b.stored
    → Mapped b'.stored
root_mapped e b b' i d h m =
    let p : Parts e b i b' = parts e b b' i h in
    let kept : KeepsAll (inside_root b) p.inner = subst (λ r. Keeps (inside_root b) r.0 r.1) p.is (keeping e (inside_root b)) in
    let x = kept.mapped d m in
    subst (λ c. Mapped c.stored) p.left (record { types = x.types; lifetimes = x.lifetimes })

pub mapped_if : (e : OptionExpr) (b b' : Builder) (r : Checked ExprId) → Lowers HasExpr (root_of e) b r b' → Paired b.stored
    → ∥ Mapped b.stored ∥₁ → IfOk r (λ i. ∥ Mapped b'.stored ∥₁)
mapped_if e b b' (Ok i) l d m = ∥∥₁_map m (root_mapped e b b' i d l.0)
mapped_if e b b' (Err f) l d m = tt

-- as many names are made up as are counted in the tree
root_names : (e : OptionExpr) (b b' : Builder) (i : ExprId) → root_of e b ≡ (Ok i, b') → Paired b.stored
    → b'.names ≡ b.names + (size_part e).names
root_names e b b' i h d =
    let p : Parts e b i b' = parts e b b' i h in
    let took : Took (size_part e) (inside_root b) p.inner =
    subst (λ r. Room (size_part e) (inside_root b) r.0 r.1) p.is ((part_takes e).takes (inside_root b) d) in
    subst (λ x. x.names ≡ b.names + (size_part e).names) p.left took.names

pub names_if : (e : OptionExpr) (b b' : Builder) (r : Checked ExprId) → Lowers HasExpr (root_of e) b r b' → Paired b.stored
    → IfOk r (λ i. b'.names ≡ b.names + (size_part e).names)
names_if e b b' (Ok i) l d = root_names e b b' i l.0 d
names_if e b b' (Err f) l d = tt

-- there was room for what came, and for the names that were made up
root_room : (e : OptionExpr) (b b' : Builder) (i : ExprId) → root_of e b ≡ (Ok i, b') → Paired b.stored → InLimits b
    → HadRoom (size_part e) b b'
root_room e b b' i h d w =
    let p : Parts e b i b' = parts e b b' i h in
    let room : HadRoom (size_part e) (inside_root b) p.inner = room_is_there.exprs e (inside_root b) p.inner i d w p.is in record {
      fits = record {
        exprs = room.fits.exprs;
        labels = room.fits.labels;
        pats = room.fits.pats;
        bindings = room.fits.bindings;
        types = room.fits.types;
        lifetimes = room.fits.lifetimes;
        names = room.fits.names;
        params = room.fits.params;
      };
      within = subst InLimits p.left room.within;
    }

pub fits_if : (e : OptionExpr) (b b' : Builder) (r : Checked ExprId) → Lowers HasExpr (root_of e) b r b' → Paired b.stored → InLimits b
    → IfOk r (λ i. FitsBehind (size_part e) b)
fits_if e b b' (Ok i) l d w = (root_room e b b' i l.0 d w).fits
fits_if e b b' (Err f) l d w = tt

pub within_if : (e : OptionExpr) (b b' : Builder) (r : Checked ExprId) → Lowers HasExpr (root_of e) b r b' → Paired b.stored → InLimits b
    → IfOk r (λ i. InLimits b')
within_if e b b' (Ok i) l d w = (root_room e b b' i l.0 d w).within
within_if e b b' (Err f) l d w = tt

-- after a root all is closed again
root_outside : (e : OptionExpr) (b b' : Builder) (i : ExprId) → root_of e b ≡ (Ok i, b') → Outside b'
root_outside e b b' i h =
    let p : Parts e b i b' = parts e b b' i h in
    let kept : KeepsAll (inside_root b) p.inner = subst (λ r. Keeps (inside_root b) r.0 r.1) p.is (keeping e (inside_root b)) in
    subst Outside p.left (record { scopes = kept.scopes; in_root = refl })

pub outside_if : (e : OptionExpr) (b b' : Builder) (r : Checked ExprId) → Lowers HasExpr (root_of e) b r b' → IfOk r (λ i. Outside b')
outside_if e b b' (Ok i) l = root_outside e b b' i l.0
outside_if e b b' (Err f) l = tt
