-- Steps by the bodies inside that they record as roots, where no root is being lowered.
use Rattle.std.proofs.Common.{◌≡◌, ◌∙◌, refl, sym, ap, subst, arith, ℕ, ◌≤◌, length, Bool, true, false, true≢false, List, [], ◌∷◌}
use Rattle.std.proofs.Common.{◌++◌, append_assoc, append-nil, Option, Some, None, Ok, Err}
use Rattle.hir_store.specs.Arenas.{Prefix}
use Rattle.hir_store.specs.Stored.{Store, SourceMap, Stored, store_of, map_of}
use Rattle.hir_store.specs.StoreSink as store_sink
use Rattle.hir_store.specs.StoreSink.{Extends, root_at}
use Rattle.hir_store.specs.Pointers.{Pointer}
use Rattle.hir_store.specs.declared.diagnostics.ExpressionStoreDiagnostics.{ExpressionStoreDiagnostics}
use Rattle.hir_store.specs.declared.ids.BindingId.{BindingId}
use Rattle.hir_store.specs.declared.ids.PatId.{PatId}
use Rattle.hir_store.specs.declared.ids.TypeRefId.{TypeRefId}
use Rattle.hir_store.specs.declared.ids.ExprId.{ExprId}
use Rattle.hir_store.specs.declared.pat.Pat.{Pat}
use Rattle.hir_store.specs.declared.roots.ExprRoot.{ExprRoot}
use Rattle.hir_store.specs.declared.type_ref.ConstRef.{ConstRef}
use Rattle.hir_store.specs.declared.type_ref.LifetimeRef.{LifetimeRef}
use Rattle.hir_store.specs.declared.path.Path.{Path as HirPath}
use Rattle.hir_store.specs.declared.type_ref.TypeBound.{TypeBound}
use Rattle.hir_store.specs.declared.type_ref.TypeRef.{TypeRef}
use Rattle.hir_store.proofs.Arenas.{prefix_refl, prefix_trans}
use Rattle.hir_store.proofs.Extending.{extends_refl, extends_root, extends_trans}
use Rattle.hir_env.specs.declared.ctx.ImplTrait.{ImplTrait}
use Rattle.hir_env.specs.declared.ctx.ImplTrait.TheVariants as becomes
use Rattle.hir_env.specs.ResolvedTree as tree
use Rattle.hir_env.specs.ResolvedTree.{Limit, OptionExpr}
use Rattle.hir_lower_scope.specs.ScopeRibs.{barrier_rib}
use Rattle.hir_lower_builder.specs.Builder.{Builder}
use Rattle.hir_lower_builder.specs.Lowering.{Checked, go_on, Lowering, ◌>>=◌, ◌>>◌, pure, alloc_pat, alloc_type, alloc_lifetime}
use Rattle.hir_lower_builder.specs.Lowering.{open_barrier}
use Rattle.hir_lower_builder.specs.Lowering.{enter_root, close_barrier, leave_root, outside_root, record_root, count_out, bindings_end, own}
use Rattle.hir_lower_builder.specs.declared.generics.SideOutput.{SideOutput as Beside}
use Rattle.hir_lower_builder.specs.Lowering.{argument_form, becoming, track_down, owning, point_pat, point_type}
use Rattle.hir_lower_builder.specs.Paths.{with_alias}
use Rattle.hir_lower_builder.specs.Lower.{ExprSteps, constant_form, lower_limit, lower_part}
use Rattle.hir_lower_builder.specs.Ranges.{inner_form}
use Rattle.spec_semantics.specs.Inner.{Bodies, InnerBody, by_itself, constant_body, limit_body}
use Rattle.thm_logic.specs.Calls.{Expansions}
use Rattle.thm_logic.specs.Keeps.{Paired, KeepsAll, Keeps}
use Rattle.thm_logic.proofs.Calls.{Only, correct_only, correct_point_pat, correct_point_type}
use Rattle.thm_logic.proofs.Frames.{Frame, frames, ribs_frames}
use Rattle.thm_logic.proofs.Constants.{correct_constant, correct_inner}
use Rattle.thm_logic.proofs.Keeping.{kept_by, part_any}
use Rattle.thm_logic.proofs.Logic.{kept_trans, longer}
use Rattle.thm_logic.proofs.Owning.{correct_bindings_end, correct_own}
use Rattle.thm_logic.proofs.PatSteps.{correct_alloc_pat}
use Rattle.thm_logic.proofs.Tracked.{Idle, correct_add_param, correct_cut_back, correct_input_end, correct_track_down, idle_of}
use Rattle.thm_logic.proofs.Steps.{Mark, mark, Rel, Holds, Correct, correct_pure, correct_alloc_type, correct_alloc_lifetime}
use Rattle.thm_logic.proofs.TypeAny.{Any, any}
use Rattle.thm_body_result.specs.Theorems.{Settled}
use Rattle.thm_body_result.specs.Size.{Size, an_impl}
use Rattle.thm_body_result.specs.Corresponds.{Open}
use Rattle.thm_body_result.proofs.Emissions.{Emitted, Emits}
use Rattle.hir_lower_scope.specs.Each.{Each}
use Rattle.thm_semantics.specs.Reached.{Between, Spread, of_each, reached_to}
use Rattle.thm_type_result.specs.Named.{of_bindings_alone, of_exprs, of_pats, of_pats_alone, of_types_alone}
use Rattle.thm_type_result.specs.Pats.{of_types, pats_reached}
use Rattle.thm_type_result.specs.Reached.{types_reached}
use Rattle.thm_type_result.specs.Roots.{Lengths, lengths_now, ends_of, Further, RootIs, RootsAre, RootsOf, SameInner, exprs_between}
use Rattle.thm_type_result.specs.Roots.{pats_between, types_between}
use Rattle.thm_type_result.specs.Unrun.{all_unruns, unrun_in}
use Rattle.thm_type_result.proofs.Asked.{Correct as Names, Quiet}
use Rattle.thm_type_result.proofs.Inside.{inside_once, limit_adds, rooted_adds}
use Rattle.thm_type_result.proofs.Meaning.{constant_means, limit_means}
use Rattle.thm_type_result.proofs.Named.{bindings_came, pats_once, types_came}
use Rattle.thm_type_result.proofs.Ranges.{came_between}
use Rattle.thm_type_result.proofs.RootCorresponds.{ShowsInner, constant_shows, contents, contents_any, limit_shows, rooted, root_settles}
use Rattle.thm_type_result.proofs.TreeNamed.{limit_quiet, rooted_quiet}

-- lengths

further_refl : (a : Lengths) → Further a a
further_refl a = record { exprs = omega arith; pats = omega arith; bindings = omega arith; types = omega arith }

further_trans : {a b c : Lengths} → Further a b → Further b c → Further a c
further_trans g h = record {
  exprs = omega (arith, g.exprs, h.exprs);
  pats = omega (arith, g.pats, h.pats);
  bindings = omega (arith, g.bindings, h.bindings);
  types = omega (arith, g.types, h.types);
}

-- what is stored goes on
pub further_stored : {a b : Stored} → Extends a b → Settled a b → Further (lengths_now a) (lengths_now b)
further_stored e s = record {
  exprs = longer e.exprs.entries;
  pats = longer e.pats.entries;
  bindings = longer s;
  types = longer e.types.entries;
}

settled_trans : (a b c : Stored) → Settled a b → Settled b c → Settled a c
settled_trans a b c g h = prefix_trans g h

-- Nothing is lost, and outside of a root these bodies are recorded.
pub record Tracking (es : Bodies) (b c : Builder) : Type 0 where
  pub kept : KeepsAll b c
  pub settled : Settled b.stored c.stored
  pub tracked : b.in_root ≡ false → (later : Stored) → Extends c.stored later → RootsOf b.scopes b.stored c.stored later es

abbrev pub Tracked : {A : Type 0} → Bodies → Builder → Checked A → Builder → Type 0
Tracked es b (Ok a) c = Tracking es b c
Tracked es b (Err f) c = Unit {0}

pub record SideOutput {A : Type 0} (es : Bodies) (p : Lowering A) : Type 0 where
  pub tracks : (b : Builder) → Paired b.stored → Tracked es b (p b).0 (p b).1

-- one after another

module _ (store : Store) (source_map : SourceMap) (around : Open) where
  -- what stands behind the one also stands behind what was before that
  root_earlier : (lo hi ends : Lengths) (r : ExprRoot) (x : InnerBody) → Further lo hi
      → RootIs store source_map around hi ends r x → RootIs store source_map around lo ends r x
  root_earlier lo hi ends r x le h = record {
    same = h.same;
    mappings = h.mappings;
    corresponds = h.corresponds;
    from = h.from;
    behind = further_trans le h.behind;
    goes_on = h.goes_on;
    reached_once = h.reached_once;
    pats_reached_once = h.pats_reached_once;
    types_reached_once = h.types_reached_once;
    bindings_came = h.bindings_came;
  }

  roots_earlier : (lo mid hi : Lengths) (rs : List ExprRoot) (es : Bodies) → Further lo mid
      → RootsAre store source_map around mid hi rs es → RootsAre store source_map around lo hi rs es
  roots_earlier lo mid hi [] [] le h = further_trans le h
  roots_earlier lo mid hi [] (e ∷ es) le h = absurd h
  roots_earlier lo mid hi (r ∷ rs) [] le h = absurd h
  roots_earlier lo mid hi (r ∷ rs) (e ∷ es) le h = (h.0, root_earlier lo mid (ends_of r h.0) r e le h.1, h.2)

  roots_append : (lo mid hi : Lengths) (rs : List ExprRoot) (es : Bodies) (ss : List ExprRoot) (fs : Bodies)
      → RootsAre store source_map around lo mid rs es → RootsAre store source_map around mid hi ss fs
      → RootsAre store source_map around lo hi (rs ++ ss) (es ++ fs)
  roots_append lo mid hi [] [] ss fs g h = roots_earlier lo mid hi ss fs g h
  roots_append lo mid hi [] (e ∷ es) ss fs g h = absurd g
  roots_append lo mid hi (r ∷ rs) [] ss fs g h = absurd g
  roots_append lo mid hi (r ∷ rs) (e ∷ es) ss fs g h =
      (g.0, g.1, roots_append (ends_of r g.0) mid hi rs es ss fs g.2 h)

roots_then : {around : Open} {a b c later : Stored} {es fs : Bodies} → Settled b c → RootsOf around a b later es
    → RootsOf around b c later fs → RootsOf around a c later (es ++ fs)
roots_then {around = around} {a = a} {b = b} {c = c} {later = later} {es = es} {fs = fs} settled g h = record {
  roots = g.roots ++ h.roots;
  is = h.is ∙ (ap (λ rs. rs ++ h.roots) g.is ∙ append_assoc a.roots g.roots h.roots);
  each = λ s. roots_append (store_of later) (map_of later) around (lengths_now a) (lengths_now b) (lengths_now c) g.roots es h.roots fs
      (g.each (settled_trans b c later settled s)) (h.each s);
}

tracking_then : {es fs : Bodies} {a b c : Builder} → Tracking es a b → Tracking fs b c → Tracking (es ++ fs) a c
tracking_then {fs = fs} {a = a} {b = b} {c = c} g h = record {
  kept = kept_trans g.kept h.kept;
  settled = settled_trans a.stored b.stored c.stored g.settled h.settled;
  tracked = λ outside later x.
      roots_then h.settled (g.tracked outside later (extends_trans h.kept.stays x))
      (subst (λ rs. RootsOf rs b.stored c.stored later fs) g.kept.scopes (h.tracked (g.kept.in_root ∙ outside) later x));
}

then_tracked : {B : Type 0} {es : Bodies} (fs : Bodies) {b b' : Builder} → Tracking es b b' → (o : Checked B) (c : Builder)
    → Tracked fs b' o c → Tracked (es ++ fs) b o c
then_tracked fs x (Ok e) c y = tracking_then x y
then_tracked fs x (Err f) c y = tt

pub tracks_then : {A B : Type 0} {es fs : Bodies} {p : Lowering A} {f : A → Lowering B} → SideOutput es p
    → ((a : A) → SideOutput fs (f a)) → SideOutput (es ++ fs) (p >>= f)
tracks_then {A = A} {es = es} {fs = fs} {p = p} {f = f} h k = record { tracks = λ b d. by b d (p b).0 (p b).1 (h.tracks b d) }
  where
    by : (b : Builder) → Paired b.stored → (o : Checked A) (c : Builder) → Tracked es b o c
        → Tracked (es ++ fs) b (go_on o c f).0 (go_on o c f).1
    by b d (Ok a) c x = then_tracked fs x (f a c).0 (f a c).1 ((k a).tracks c (x.kept.paired d))
    by b d (Err f) c x = tt

-- where it is known what the first answers
pub tracks_given : {A B : Type 0} {n : Size} {G : A → Type 0} {es fs : Bodies} {p : Lowering A} {f : A → Lowering B} → SideOutput es p
    → Emits n G p → ((a : A) → G a → SideOutput fs (f a)) → SideOutput (es ++ fs) (p >>= f)
tracks_given {A = A} {n = n} {G = G} {es = es} {fs = fs} {p = p} {f = f} h t k =
    record { tracks = λ b d. by b d (p b).0 (p b).1 (h.tracks b d) (t.emits b d) }
  where
    by : (b : Builder) → Paired b.stored → (o : Checked A) (c : Builder) → Tracked es b o c → Emitted n G b o c
        → Tracked (es ++ fs) b (go_on o c f).0 (go_on o c f).1
    by b d (Ok a) c x y = then_tracked fs x (f a c).0 (f a c).1 ((k a y.1).tracks c (x.kept.paired d))
    by b d (Err f) c x y = tt

pub tracks_as : {A : Type 0} {es fs : Bodies} {p : Lowering A} → es ≡ fs → SideOutput es p → SideOutput fs p
tracks_as {p = p} e h = subst (λ xs. SideOutput xs p) e h

pub tracks_end : {A B : Type 0} {es : Bodies} {p : Lowering A} {f : A → Lowering B} → SideOutput es p
    → ((a : A) → SideOutput [] (f a)) → SideOutput es (p >>= f)
tracks_end {es = es} h k = tracks_as (append-nil es) (tracks_then h k)

-- steps that record none

pub no_roots : {around : Open} {a b later : Stored} → Further (lengths_now a) (lengths_now b) → b.roots ≡ a.roots
    → RootsOf around a b later []
no_roots {a = a} le e = record { roots = []; is = e ∙ sym (append-nil a.roots); each = λ s. le }

-- neither roots nor bindings come
record Aside (m m' : Mark) : Type 0 where
  roots : m'.stored.roots ≡ m.stored.roots
  bindings : m'.stored.bindings.entries ≡ m.stored.bindings.entries

as_settled : (a b : Stored) → b.bindings.entries ≡ a.bindings.entries → Settled a b
as_settled a b e = subst (λ xs. Prefix a.bindings.entries xs) (sym e) (prefix_refl a.bindings.entries)

tracks_none : {A : Type 0} {R : Rel A} {p : Lowering A} → Correct p R
    → ((final : Stored) (ps : List Frame) (m m' : Mark) (a : A) → R final ps m m' a → Aside m m') → SideOutput [] p
tracks_none {A = A} {R = R} {p = p} h still =
    record { tracks = λ b d. by b d (p b).0 (p b).1 (λ final. h.holds final (frames b.scopes) b (ribs_frames b.scopes)) }
  where
    by : (b : Builder) → Paired b.stored → (o : Checked A) (c : Builder)
        → ((final : Stored) → Holds R final (frames b.scopes) b o c) → Tracked [] b o c
    by b d (Ok a) c x =
        let aside : (later : Stored) → Extends c.stored later → Aside (mark b) (mark c) =
        λ later e. still later (frames b.scopes) (mark b) (mark c) a ((x later).in_final d e) in
        let kept = (x b.stored).kept in
        let settled = as_settled b.stored c.stored (aside c.stored (extends_refl c.stored)).bindings in record {
          kept = kept;
          settled = settled;
          tracked = λ outside later e. no_roots (further_stored kept.stays settled) (aside later e).roots;
        }
    by b d (Err f) c x = tt

pub tracks_pure : {A : Type 0} (a : A) → SideOutput [] (pure a)
tracks_pure a = tracks_none (correct_pure a) (λ final ps m m' b row. record {
  roots = ap (λ x. x.stored.roots) row.still;
  bindings = ap (λ x. x.stored.bindings.entries) row.still;
})

pub tracks_type : (t : TypeRef) (source : Option Pointer) → SideOutput [] (alloc_type t source)
tracks_type t source = tracks_none (correct_alloc_type t source) (λ final ps m m' i row. record {
  roots = ap (λ s. s.roots) row.stored;
  bindings = ap (λ s. s.bindings.entries) row.stored;
})

-- what stores nothing
tracks_idle : {A : Type 0} {p : Lowering A} → Correct p Idle → SideOutput [] p
tracks_idle h = tracks_none h (λ final ps m m' a row. record {
  roots = ap (λ x. x.stored.roots) row.still;
  bindings = ap (λ x. x.stored.bindings.entries) row.still;
})

pub tracks_tracked : (f : Beside → Beside) {A : Type 0} {es : Bodies} {p : Lowering A} → SideOutput es p → SideOutput es (track_down f >> p)
tracks_tracked f h = tracks_then (tracks_idle (idle_of (correct_track_down f))) (λ u. h)

pub tracks_aliased : (alias : Option (List Bool)) {es : Bodies} {p : Lowering (Option HirPath)} → SideOutput es p
    → SideOutput es (with_alias alias p)
tracks_aliased None h = h
tracks_aliased (Some places) h = tracks_then (tracks_idle correct_input_end) (λ n. tracks_end h (λ p.
    tracks_end (tracks_idle (correct_cut_back n places p)) (λ u. tracks_pure p)))

-- what an `impl` becomes
pub tracks_becoming : (at : Pointer) (mode : ImplTrait) (bounds : List TypeBound)
    → SideOutput (an_impl mode at).inner (becoming at mode bounds)
unfolding argument_form
tracks_becoming at becomes.Error bounds = tracks_type _ _
tracks_becoming at becomes.Opaque bounds = tracks_type _ _
tracks_becoming at (becomes.Argument def) bounds = tracks_then (tracks_idle (correct_add_param _)) (λ k. tracks_end (tracks_type _ _)
    (λ t. tracks_end (tracks_idle (idle_of (correct_track_down _))) (λ u. tracks_pure t)))

pub tracks_lifetime : (l : LifetimeRef) (source : Option Pointer) → SideOutput [] (alloc_lifetime l source)
tracks_lifetime l source = tracks_none (correct_alloc_lifetime l source) (λ final ps m m' i row. record {
  roots = ap (λ s. s.roots) row.stored;
  bindings = ap (λ s. s.bindings.entries) row.stored;
})

pub tracks_pat : (p : Pat) (source : Option Pointer) → SideOutput [] (alloc_pat p source)
tracks_pat p source = tracks_none (correct_alloc_pat p source) (λ final ps m m' i row. record {
  roots = ap (λ s. s.roots) row.stored;
  bindings = ap (λ s. s.bindings.entries) row.stored;
})

-- what only tells
pub tracks_only : {es : Expansions} {ds : List ExpressionStoreDiagnostics} {p : Lowering (Unit {0})} → Only es ds p → SideOutput [] p
tracks_only h = tracks_none (correct_only h) (λ final ps m m' u row. record {
  roots = ap (λ s. s.roots) row.stored;
  bindings = ap (λ s. s.bindings.entries) row.stored;
})

-- the node of a call leads somewhere

pub tracks_point_pat : (at : Pointer) (i : PatId) → SideOutput [] (point_pat at i)
tracks_point_pat at i = tracks_none (correct_point_pat at i) (λ final ps m m' u row. record {
  roots = ap (λ s. s.roots) row.stored;
  bindings = ap (λ s. s.bindings.entries) row.stored;
})

pub tracks_point_type : (at : Pointer) (i : TypeRefId) → SideOutput [] (point_type at i)
tracks_point_type at i = tracks_none (correct_point_type at i) (λ final ps m m' u row. record {
  roots = ap (λ s. s.roots) row.stored;
  bindings = ap (λ s. s.bindings.entries) row.stored;
})

pub tracks_count_out : {A : Type 0} → SideOutput {A = A} [] count_out
unfolding count_out
tracks_count_out = record { tracks = λ b d. tt }

tracks_bindings_end : SideOutput [] bindings_end
tracks_bindings_end = tracks_none correct_bindings_end (λ final ps m m' start row. record {
  roots = ap (λ x. x.stored.roots) row.still;
  bindings = ap (λ x. x.stored.bindings.entries) row.still;
})

tracks_own : (start : BindingId) (id : ExprId) → SideOutput [] (own start id)
tracks_own start id = tracks_none (correct_own start id) (λ final ps m m' u row. record {
  roots = ap (λ x. x.stored.roots) row.is;
  bindings = ap (λ x. x.stored.bindings.entries) row.is;
})

-- what owns bindings is no root
pub tracks_owning : {A : Type 0} {es : Bodies} (owner : A → ExprId) {p : Lowering A} → SideOutput es p → SideOutput es (owning owner p)
unfolding owning
tracks_owning owner h =
    tracks_then tracks_bindings_end (λ start. tracks_end h (λ x. tracks_end (tracks_own start (owner x)) (λ u. tracks_pure x)))

-- bodies inside

-- what is so of a body inside by what its lowering stored
record Facts (x : InnerBody) (old new : Stored) (i : ExprId) (later : Stored) : Type 0 where
  same : SameInner (store_of later) (map_of later) i x
  reached_once : (depth : ℕ) → length later.exprs.entries ≤ depth
      → Spread (length old.exprs.entries) (length new.exprs.entries)
      (of_each (reached_to (store_of later) depth) (i ∷ unrun_in (store_of later) i))
  pats_reached_once : (depth : ℕ) → length later.pats.entries ≤ depth
      → let l = of_pats_alone (pats_reached later.pats.entries depth) in
      Spread (length old.pats.entries) (length new.pats.entries)
      (of_exprs l (exprs_between (store_of later) (lengths_now old) (lengths_now new))
      ++ of_types l (types_between (store_of later) (lengths_now old) (lengths_now new)))
  types_reached_once : (depth : ℕ) → length later.types.entries ≤ depth
      → let l = of_types_alone (types_reached later.types.entries depth) in
      Spread (length old.types.entries) (length new.types.entries)
      (of_exprs l (exprs_between (store_of later) (lengths_now old) (lengths_now new))
      ++ of_pats l (pats_between (store_of later) (lengths_now old) (lengths_now new)))
  bindings_came : Each (Between (length old.bindings.entries) (length new.bindings.entries))
      (of_pats of_bindings_alone (pats_between (store_of later) (lengths_now old) (lengths_now new)))

module _ {A : Type 0} {p : Lowering A} (x : InnerBody) (b c : Builder) (a : A) (i : ExprId) (paired : Paired b.stored)
    (is : p b ≡ (Ok a, c)) (later : Stored) (stays : Extends c.stored later) where
  facts_of : Names p Quiet → Keeps b (Ok a) c → SameInner (store_of later) (map_of later) i x
      → ((depth : ℕ) → length later.exprs.entries ≤ depth
      → Spread (length b.stored.exprs.entries) (length c.stored.exprs.entries)
      (of_each (reached_to (store_of later) depth) (i ∷ unrun_in (store_of later) i)))
      → Facts x b.stored c.stored i later
  facts_of quiet kept same once =
      let es = kept.stays.exprs.entries in
      let ts = kept.stays.types.entries in
      let ps = kept.stays.pats.entries in
      let exprs = came_between _ es.more stays.exprs.entries.more _ _ es.is stays.exprs.entries.is in
      let types = came_between _ ts.more stays.types.entries.more _ _ ts.is stays.types.entries.is in
      let pats = came_between _ ps.more stays.pats.entries.more _ _ ps.is stays.pats.entries.is in
      record {
        same = same;
        reached_once = once;
        pats_reached_once = λ depth le. rw (exprs, types)
            (pats_once (λ a. []) quiet (λ a l k. omega arith) b c a paired is later stays depth le es.more es.is ts.more ts.is);
        types_reached_once = λ depth le. rw (exprs, pats)
            (types_came (λ a f. []) quiet (λ a f k. omega arith) b c a paired is later stays depth le es.more es.is ps.more ps.is);
        bindings_came = rw pats (bindings_came quiet b c a paired is ps.more ps.is);
      }

-- behind the barrier, in a root
abbrev entered : Builder → Builder
entered b = record b { scopes = barrier_rib ∷ b.scopes; in_root = true; yields = false }

module _ {A : Type 0} (make : ExprId → A) (x : InnerBody) (p : ExprSteps) where
  abbrev leaving : Bool → Bool → ExprId → Lowering A
  leaving outside outer id = close_barrier outside >> (leave_root outer id >> pure (make id))

  abbrev behind : Lowering A
  behind = open_barrier >>= (λ outside. enter_root >>= (λ outer. p >>= leaving outside outer))

  tracks_behind : ShowsInner x p → Correct p Any → Correct behind Any
      → ((b c : Builder) (i : ExprId) → Paired b.stored → behind b ≡ (Ok (make i), c) → (later : Stored) → Extends c.stored later
      → Facts x b.stored c.stored i later) → SideOutput (x ∷ []) behind
  unfolding open_barrier enter_root close_barrier leave_root outside_root record_root store_sink.record_root
  tracks_behind shows any_inside any_all facts = record {
    tracks = λ b d. by b d b.in_root refl (p (entered b)).0 (p (entered b)).1 refl (kept_by any_inside (entered b))
        (kept_by any_all b) (facts b);
  }
    where
      by : (b : Builder) → Paired b.stored → (outer : Bool) → b.in_root ≡ outer → (o : Checked ExprId) (c : Builder)
          → p (entered b) ≡ (o, c) → Keeps (entered b) o c
          → Keeps b (go_on o c (leaving b.yields outer)).0 (go_on o c (leaving b.yields outer)).1
          → ((e : Builder) (i : ExprId) → Paired b.stored → go_on o c (leaving b.yields outer) ≡ (Ok (make i), e) → (later : Stored)
          → Extends e.stored later → Facts x b.stored e.stored i later)
          → Tracked (x ∷ []) b (go_on o c (leaving b.yields outer)).0 (go_on o c (leaving b.yields outer)).1
      by b d true in' (Ok i) c is inner kept facts = record {
        kept = kept;
        settled = root_settles x shows (entered b) c i d is;
        tracked = λ outside. absurd (true≢false (sym in' ∙ outside));
      }
      by b d false in' (Ok i) c is inner kept facts =
          let root = root_at (store_of c.stored) i in
          let left = (go_on {B = A} (Ok i) c (leaving b.yields false)).1 in record {
            kept = kept;
            settled = root_settles x shows (entered b) c i d is;
            tracked = λ outside later e.
                let stays = extends_trans (extends_root c.stored root) e in
                let f = facts left i d refl later e in
                let goes_on = further_stored inner.stays (root_settles x shows (entered b) c i d is) in
                let types_end = length c.stored.types.entries in
                let begins = lengths_now b.stored in
                let whole : Settled c.stored later
                → RootIs (store_of later) (map_of later) b.scopes begins (ends_of root types_end) root x =
                λ s. let shown = rooted x shows (entered b) c i d is later stays s in record {
                  same = f.same;
                  mappings = shown.mappings;
                  corresponds = shown.corresponds;
                  from = begins;
                  behind = further_refl begins;
                  goes_on = goes_on;
                  reached_once = f.reached_once;
                  pats_reached_once = f.pats_reached_once;
                  types_reached_once = f.types_reached_once;
                  bindings_came = f.bindings_came;
                } in
                record {
                  roots = root ∷ [];
                  is = ap (λ rs. rs ++ root ∷ []) (inner.roots refl);
                  each = λ s. (types_end, whole s, further_refl (ends_of root types_end));
                };
          }
      by b d outer in' (Err f) c is inner kept facts = tt

pub tracks_constant : (e : OptionExpr) → SideOutput (constant_body e ∷ []) (constant_form (lower_part e))
unfolding constant_form unrun_in
tracks_constant e =
    let all = any (correct_constant (part_any e)) in
    tracks_behind (λ i. record { expr = i }) (constant_body e) (lower_part e) (constant_shows e) (part_any e) all
    (λ b c i paired is later stays.
    let x : ConstRef = record { expr = i } in
    facts_of (constant_body e) b c x i paired is later stays (rooted_quiet (tree.constant e))
    (subst (λ r. Keeps b r.0 r.1) is (kept_by all b))
    (constant_means e (frames b.scopes) b c x (ribs_frames b.scopes) paired is later stays)
    (λ depth le. inside_once (rooted_adds (tree.constant e)) b c x paired is later stays depth le
    (by_itself i ∷ (all_unruns (store_of later)).expr i) (λ k. omega arith)))

limit_facts : (l : Limit) (b c : Builder) (i : ExprId) → Paired b.stored → lower_limit l b ≡ (Ok i, c) → Keeps b (Ok i) c
    → (later : Stored) → Extends c.stored later → Facts (limit_body l) b.stored c.stored i later
unfolding unrun_in
limit_facts l b c i paired is kept later stays =
    facts_of (limit_body l) b c i i paired is later stays (limit_quiet l) kept
    (limit_means l (frames b.scopes) b c i (ribs_frames b.scopes) paired is later stays)
    (λ depth le. inside_once (limit_adds l) b c i paired is later stays depth le (by_itself i ∷ (all_unruns (store_of later)).expr i)
    (λ k. omega arith))

limit_tracks : (l : Limit) → lower_limit l ≡ inner_form (contents l) → SideOutput (limit_body l ∷ []) (inner_form (contents l))
unfolding inner_form
limit_tracks l is_form =
    let inside = contents_any l in
    let all = any (correct_inner inside) in
    tracks_behind (λ i. i) (limit_body l) (contents l) (limit_shows l) inside all (λ b c i paired is later stays.
    limit_facts l b c i paired (ap (λ q. q b) is_form ∙ is) (subst (λ r. Keeps b r.0 r.1) is (kept_by all b)) later stays)

pub tracks_limit : (l : Limit) → SideOutput (limit_body l ∷ []) (lower_limit l)
tracks_limit (tree.item_limit item) = limit_tracks (tree.item_limit item) refl
tracks_limit (tree.side_limit s) = limit_tracks (tree.side_limit s) refl
tracks_limit (tree.before_limit item s) = limit_tracks (tree.before_limit item s) refl
