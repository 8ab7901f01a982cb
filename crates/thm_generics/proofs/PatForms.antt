-- What patterns, ranges and the assignee expression note: as much as their parts, in the order in which these are lowered.
use Rattle.std.proofs.Common.{◌≡◌, refl, sym, ℕ, suc, Bool, true, false, List, [], ◌∷◌, Option, Some, None}
use Rattle.hir_base.specs.declared.op.RangeOp.{RangeOp}
use Rattle.hir_store.specs.Pointers.{Pointer}
use Rattle.hir_store.specs.declared.hir.MatchArm.{MatchArm}
use Rattle.hir_store.specs.declared.ids.BindingId.{BindingId}
use Rattle.hir_store.specs.declared.ids.ExprId.{ExprId}
use Rattle.hir_store.specs.declared.ids.HygieneId.{HygieneId}
use Rattle.hir_store.specs.declared.ids.LangItemId.{LangItemId}
use Rattle.hir_store.specs.declared.ids.PatId.{PatId}
use Rattle.hir_store.specs.declared.ids.TypeRefId.{TypeRefId}
use Rattle.hir_store.specs.declared.name.Name.{Name}
use Rattle.hir_store.specs.declared.name.Name.TheVariants as name
use Rattle.hir_store.specs.declared.pat.Pat.{Pat as HirPat}
use Rattle.hir_store.specs.declared.pat.RecordFieldPat.{RecordFieldPat}
use Rattle.hir_store.specs.declared.path.Path.{Path as HirPath}
use Rattle.hir_env.specs.ResolvedTree as tree
use Rattle.hir_env.specs.ResolvedTree.{Origin, OptionPath, PatUnary, RangeForm, Signed, Use}
use Rattle.hir_env.specs.Targets.{origin, source_of}
use Rattle.hir_lower_builder.specs.Forms.{ExprSteps, let_form, match_form, arm_form, assign_form, let_stmt_form}
use Rattle.hir_lower_builder.specs.Lower.{lower_path}
use Rattle.hir_lower_builder.specs.Lowering.{Lowering, ◌>>=◌, pure}
use Rattle.hir_lower_builder.specs.Lowering.{point_target}
use Rattle.hir_lower_builder.specs.Pats as forms
use Rattle.hir_lower_builder.specs.Pats.{Elements, Key, SideOutput as Notices, PatSteps, Table, missing_pat}
use Rattle.hir_lower_builder.specs.Ranges as ranges
use Rattle.hir_lower_builder.specs.Targets as targets
use Rattle.hir_lower_builder.specs.Targets.{alloc_target}
use Rattle.hir_lower_builder.specs.Types.{TypeSteps, pattern_type_form}
use Rattle.std.proofs.Common.{sym}
use Rattle.spec_data.specs.Written.{path_of}
use Rattle.spec_data.specs.Fold.{if_read}
use Rattle.spec_data.specs.Tracking.{Tracking, none, ◌⊕◌}
use Rattle.thm_generics.proofs.Forms.{where_tracks}
use Rattle.thm_generics.proofs.Logic.{if_there, SideOutput, tracks_as, tracks_end, tracks_pure, tracks_then}
use Rattle.thm_generics.proofs.Steps.{tracks_binding, tracks_count_out, tracks_define, tracks_expr, tracks_made_pat, tracks_pat}
use Rattle.thm_generics.proofs.Steps.{tracks_point_pat_field}
use Rattle.thm_generics.proofs.Steps.{tracks_point_target, tracks_problem, tracks_report, tracks_type}

pub missing_pat_tracks : SideOutput none missing_pat
unfolding missing_pat
missing_pat_tracks = tracks_pat _ None

-- steps that hand a table on
abbrev pub Each : {A : Type 0} → Tracking → (Table → Lowering A) → Type 0
Each D p = (t : Table) → SideOutput D (p t)

pub alone_tracks : {D : Tracking} {p : Lowering PatId} → SideOutput D p → Each D (forms.alone p)
alone_tracks h t = tracks_end h (λ i. tracks_pure (i, t))

-- names

known_tracks : (u : Use) (t : Table) (b : Option BindingId) → SideOutput none (forms.use_of_known u t b)
known_tracks u t (Some b) = tracks_pure _
known_tracks u t None = tracks_end (tracks_binding _) (λ b. tracks_pure _)

pub name_tracks : (u : Use) → Each none (forms.use_name u)
unfolding forms.use_name
name_tracks u t = known_tracks u t (forms.binding_of (forms.key_of u) t)

settle_from_tracks : (tracked : Notices) (number : ℕ) (es : List (Key × BindingId))
    → SideOutput none (forms.settle_from tracked number es)
settle_from_tracks tracked number [] = tracks_pure tt
settle_from_tracks tracked number (e ∷ es) = tracks_end (tracks_problem _ _) (λ u. settle_from_tracks tracked (suc number) es)

pub settle_tracks : Each none forms.settle
unfolding forms.settle
settle_tracks t = settle_from_tracks t.tracked 0 t.bindings

-- parts of a tuple: two dots add nothing

pub element_tracks : (dots : Bool) (done : Elements) {D : Tracking} {p : PatSteps} → (dots ≡ true → D ≡ none) → Each D p
    → Each D (forms.element_form dots done p)
element_tracks true done is h t = tracks_as (sym (is refl)) (tracks_pure _)
element_tracks false done is h t = tracks_end (h t) (λ r. tracks_pure _)

place_tracks : (place : Option ℕ) → SideOutput none (forms.counted_place place)
place_tracks None = tracks_count_out
place_tracks (Some n) = tracks_pure (Some n)

pub dots_track : (comma : Bool) (place : Option ℕ) → SideOutput none (forms.counted_dots comma place)
dots_track comma None = tracks_pure None
dots_track comma (Some n) = place_tracks (forms.small_place comma n)

front_tracks : (comma : Bool) (ids : List PatId) → SideOutput none (forms.with_first_missing comma ids)
front_tracks false ids = tracks_pure ids
front_tracks true ids = tracks_end missing_pat_tracks (λ i. tracks_pure (i ∷ ids))

elements_track : (comma : Bool) (es : Elements) → SideOutput none (forms.elements_form comma es)
unfolding forms.elements_form
elements_track comma es =
    tracks_end (dots_track comma es.1) (λ place. tracks_end (front_tracks comma es.0) (λ ids. tracks_pure (place, ids)))

named_tracks : (at : Pointer) (n : Option Name) (i : PatId) → SideOutput none (forms.named_part at n i)
named_tracks at None i = tracks_pure None
named_tracks at (Some n) i = tracks_end (tracks_point_pat_field i at) (λ u. tracks_pure _)

-- forms of patterns

side_of_tracks : (at : Pointer) (p : Option HirPath) → SideOutput none (forms.path_side_of at p)
side_of_tracks at None = tracks_pure None
side_of_tracks at (Some p) = tracks_end (tracks_expr _ (Some at)) (λ e. tracks_pure (Some e))

or_of_tracks : (at : Pointer) (is : List PatId) → SideOutput none (forms.or_of at is)
or_of_tracks at [] = tracks_pat _ (Some at)
or_of_tracks at (i ∷ []) = tracks_pure i
or_of_tracks at (i ∷ (j ∷ is)) = tracks_pat _ (Some at)

module _ (at : Pointer) where
  pub path_pat_tracks : {D : Tracking} {q : Lowering (Option HirPath)} → SideOutput D q
      → SideOutput D (forms.path_pat_form at q)
  unfolding forms.path_pat_form
  path_pat_tracks h = tracks_end h (λ p. tracks_pat _ (Some at))

  pub bind_tracks : (u : Use) {D : Tracking} {s : Table → Lowering (Option PatId × Table)} → Each D s
      → Each D (forms.bind_form at u s)
  unfolding forms.bind_form
  bind_tracks u h t = tracks_end (h t) (λ s. tracks_end (name_tracks u s.1) (λ b. tracks_end (tracks_pat _ (Some at))
      (λ i. tracks_end (tracks_define b.0 i) (λ v. tracks_pure (i, b.1)))))

  pub over_pat_tracks : (form : PatUnary) {D : Tracking} {p : PatSteps} → Each D p → Each D (forms.over_pat_form at form p)
  unfolding forms.over_pat_form
  over_pat_tracks form h t = tracks_end (h t) (λ r. tracks_end (tracks_pat _ (Some at)) (λ i. tracks_pure (i, r.1)))

  pub tuple_pat_tracks : (comma : Bool) {D : Tracking} {p : Table → Lowering (Elements × Table)} → Each D p
      → Each D (forms.tuple_pat_form at comma p)
  unfolding forms.tuple_pat_form
  tuple_pat_tracks comma h t = tracks_end (h t) (λ r. tracks_end (elements_track comma r.0)
      (λ es. tracks_end (tracks_pat _ (Some at)) (λ i. tracks_pure (i, r.1))))

  struct_of_tracks : (comma : Bool) {D : Tracking} {p : Table → Lowering (Elements × Table)} → Each D p → (t : Table)
      → (o : Option HirPath) → SideOutput (if_there o D) (forms.tuple_struct_of at comma p o t)
  struct_of_tracks comma h t None = alone_tracks missing_pat_tracks t
  struct_of_tracks comma h t (Some o) = tracks_end (h t) (λ r. tracks_end (elements_track comma r.0)
      (λ es. tracks_end (tracks_pat _ (Some at)) (λ i. tracks_pure (i, r.1))))

  pub tuple_struct_tracks : (comma : Bool) (q : OptionPath) {W D : Tracking} {p : Table → Lowering (Elements × Table)}
      → SideOutput W (lower_path q) → Each D p
      → Each (W ⊕ if_read (path_of q) D) (forms.tuple_struct_form at comma p (lower_path q))
  unfolding forms.tuple_struct_form
  tuple_struct_tracks comma q hq h t = where_tracks q hq (λ o. struct_of_tracks comma h t o)

  record_pat_of_tracks : (dots : Bool) {D : Tracking} {fs : Table → Lowering (List RecordFieldPat × Table)} → Each D fs
      → (t : Table) → (o : Option HirPath) → SideOutput (if_there o D) (forms.record_pat_of at dots fs o t)
  record_pat_of_tracks dots h t None = alone_tracks missing_pat_tracks t
  record_pat_of_tracks dots h t (Some o) = tracks_end (h t) (λ r. tracks_end (tracks_pat _ (Some at)) (λ i. tracks_pure (i, r.1)))

  pub record_pat_tracks : (dots : Bool) (q : OptionPath) {W D : Tracking}
      {fs : Table → Lowering (List RecordFieldPat × Table)} → SideOutput W (lower_path q) → Each D fs
      → Each (W ⊕ if_read (path_of q) D) (forms.record_pat_form at dots fs (lower_path q))
  unfolding forms.record_pat_form
  record_pat_tracks dots q hq h t = where_tracks q hq (λ o. record_pat_of_tracks dots h t o)

  pub pat_field_tracks : (n : Option Name) {D : Tracking} {p : PatSteps} → Each D p → Each D (forms.pat_field_form at n p)
  unfolding forms.pat_field_form
  pat_field_tracks n h t = tracks_end (h t) (λ r. tracks_end (named_tracks at n r.0) (λ f. tracks_pure (f, r.1)))

  pub slice_pat_tracks : {D E F : Tracking} {b a : Table → Lowering (List PatId × Table)}
      {m : Table → Lowering (Option PatId × Table)} → Each D b → Each E m → Each F a
      → Each (D ⊕ (E ⊕ F)) (forms.slice_pat_form at b m a)
  unfolding forms.slice_pat_form
  slice_pat_tracks hb hm ha t = tracks_then (hb t) (λ b. tracks_then (hm b.1) (λ m. tracks_end (ha m.1)
      (λ a. tracks_end (tracks_pat _ (Some at)) (λ i. tracks_pure (i, a.1)))))

  pub or_tracks : {D E : Tracking} {p : PatSteps} {later : List PatId → Table → Lowering (List PatId × Table)} → Each D p
      → ((done : List PatId) → Each E (later done)) → Each (D ⊕ E) (forms.or_form at p later)
  unfolding forms.or_form
  or_tracks h hs t = tracks_then (h (forms.enter_or t)) (λ r. tracks_end (hs (r.0 ∷ []) r.1)
      (λ rs. tracks_end (or_of_tracks at rs.0) (λ i. tracks_pure (i, forms.leave_or rs.1))))

  pub literal_pat_tracks : (own : Option Pointer) (s : Signed) → SideOutput none (forms.literal_pat_form at own s)
  unfolding forms.literal_pat_form
  literal_pat_tracks own s = tracks_end (tracks_expr _ _) (λ e. tracks_pat _ (Some at))

  pub literal_side_tracks : (s : Signed) → SideOutput none (forms.literal_side_form at s)
  unfolding forms.literal_side_form
  literal_side_tracks s = tracks_end (tracks_expr _ (Some at)) (λ e. tracks_pure (Some e))

  pub name_side_tracks : (n : Name) → SideOutput none (forms.name_side_of at n)
  name_side_tracks name.Missing = tracks_pure None
  name_side_tracks n = side_of_tracks at (Some (forms.name_path n))

  pub path_side_tracks : {D : Tracking} {q : Lowering (Option HirPath)} → SideOutput D q
      → SideOutput D (forms.path_side_form at q)
  unfolding forms.path_side_form
  path_side_tracks h = tracks_end h (λ p. side_of_tracks at p)

  pub range_pat_tracks : (op : Option RangeOp) {D E : Tracking} {s e : Lowering (Option ExprId)} → SideOutput D s
      → SideOutput E e → SideOutput (D ⊕ E) (forms.range_pat_form at op s e)
  unfolding forms.range_pat_form
  range_pat_tracks op hs he = tracks_then hs (λ s. tracks_end he (λ e. tracks_pat _ (Some at)))

  -- ranges, and patterns of types

  made_range_tracks : (form : RangeForm) (s e : Option ExprId) → SideOutput none (ranges.made_range at form s e)
  made_range_tracks (tree.record_range i last) s e = tracks_expr _ (Some at)
  made_range_tracks (tree.call_range i) s e = tracks_end (tracks_expr _ None) (λ f. tracks_expr _ (Some at))
  made_range_tracks tree.itemless_range s e = tracks_expr _ (Some at)

  pub range_tracks : (form : RangeForm) {D E : Tracking} {s e : Lowering (Option ExprId)} → SideOutput D s
      → SideOutput E e → SideOutput (D ⊕ E) (ranges.range_form at form s e)
  unfolding ranges.range_form
  range_tracks form hs he = tracks_then hs (λ s. tracks_end he (λ e. made_range_tracks form s e))

  pub literal_limit_tracks : (s : Signed) → SideOutput none (ranges.literal_limit_form at s)
  unfolding ranges.literal_limit_form
  literal_limit_tracks s = tracks_expr _ (Some at)

  pub name_limit_tracks : (n : Name) → SideOutput none (ranges.name_limit_form at n)
  unfolding ranges.name_limit_form
  name_limit_tracks n = tracks_expr _ (Some at)

  pub path_limit_tracks : {D : Tracking} {q : Lowering (Option HirPath)} → SideOutput D q
      → SideOutput D (ranges.path_limit_form at q)
  unfolding ranges.path_limit_form
  path_limit_tracks h = tracks_end h (λ p. tracks_expr _ (Some at))

  pub limits_track : {D E : Tracking} {s e : ExprSteps} → SideOutput D s → SideOutput E e
      → SideOutput (D ⊕ E) (ranges.limits_form at s e)
  unfolding ranges.limits_form
  limits_track hs he = tracks_then hs (λ s. tracks_end he (λ e. tracks_pat _ (Some at)))

  pub type_alternatives_track : {D : Tracking} {ps : Lowering (List PatId)} → SideOutput D ps
      → SideOutput D (ranges.type_alternatives_form at ps)
  unfolding ranges.type_alternatives_form
  type_alternatives_track h = tracks_end h (λ ps. tracks_pat _ (Some at))

  pub pattern_type_tracks : {D E : Tracking} {t : TypeSteps} {p : Lowering PatId} → SideOutput D t
      → SideOutput E p → SideOutput (D ⊕ E) (pattern_type_form at t p)
  unfolding pattern_type_form
  pattern_type_tracks ht hp = tracks_then ht (λ t. tracks_end hp (λ p. tracks_type _ _))

  -- forms with patterns

  pub let_tracks : {D E : Tracking} {p : Lowering PatId} {e : ExprSteps} → SideOutput D p → SideOutput E e
      → SideOutput (D ⊕ E) (let_form at p e)
  unfolding let_form
  let_tracks hp he = tracks_then hp (λ p. tracks_end he (λ e. tracks_expr _ _))

  pub match_tracks : {D E : Tracking} {e : ExprSteps} {arms : Lowering (List MatchArm)} → SideOutput D e
      → SideOutput E arms → SideOutput (D ⊕ E) (match_form at e arms)
  unfolding match_form
  match_tracks he ha = tracks_then he (λ e. tracks_end ha (λ as'. tracks_expr _ _))

  pub assign_tracks : {D E : Tracking} {t : Lowering PatId} {v : ExprSteps} → SideOutput D t → SideOutput E v
      → SideOutput (D ⊕ E) (assign_form at t v)
  unfolding assign_form
  assign_tracks ht hv = tracks_then ht (λ t. tracks_end hv (λ v. tracks_expr _ _))

-- targets

-- a node that is assigned to leads to the pattern
pub pointed_tracks : (at : Pointer) {D : Tracking} {p : Lowering PatId} → SideOutput D p
    → SideOutput D (p >>= (λ i. point_target at i >>= (λ u. pure i)))
pointed_tracks at h = tracks_end h (λ i. tracks_end (tracks_point_target at i) (λ u. tracks_pure i))

pub target_tracks : (p : HirPat) (at : Origin) → SideOutput none (alloc_target p at)
unfolding alloc_target
target_tracks p at = pointed_tracks at.node (tracks_made_pat p (Some (source_of at)))

pub place_target_tracks : (at : Pointer) {D : Tracking} {e : ExprSteps} → SideOutput D e
    → SideOutput D (targets.place_form at e)
unfolding targets.place_form
place_target_tracks at h = tracks_end h (λ e. tracks_made_pat _ (Some at))

pub target_field_tracks : (at : Pointer) (n : Option Name) {D : Tracking} {p : Lowering PatId} → SideOutput D p
    → SideOutput D (targets.target_field_form at n p)
unfolding targets.target_field_form
target_field_tracks at n h = tracks_end h (λ i. named_tracks at n i)

module _ (at : Origin) where
  pub path_target_tracks : (h : HygieneId) {D : Tracking} {q : Lowering (Option HirPath)} → SideOutput D q
      → SideOutput D (targets.path_target_form at h q)
  unfolding targets.path_target_form
  path_target_tracks h hq = tracks_end hq (λ p. target_tracks _ at)

  pub tuple_target_tracks : {D : Tracking} {ps : Lowering Elements} → SideOutput D ps
      → SideOutput D (targets.tuple_target_form at ps)
  unfolding targets.tuple_target_form
  tuple_target_tracks h = tracks_end h (λ r. tracks_end (elements_track false r) (λ es. target_tracks _ at))

  call_target_of_tracks : {D : Tracking} {ps : Lowering Elements} → SideOutput D ps → (o : Option HirPath)
      → SideOutput (if_there o D) (targets.call_target_of at ps o)
  call_target_of_tracks h None = tracks_made_pat _ at.call
  call_target_of_tracks h (Some o) = tracks_end h (λ r. tracks_end (elements_track false r) (λ es. target_tracks _ at))

  pub call_target_tracks : (q : OptionPath) {W D : Tracking} {ps : Lowering Elements} → SideOutput W (lower_path q)
      → SideOutput D ps
      → SideOutput (W ⊕ if_read (path_of q) D) (targets.call_target_form at ps (lower_path q))
  unfolding targets.call_target_form
  call_target_tracks q hq h = where_tracks q hq (λ o. call_target_of_tracks h o)

  rest_tracks : (dots : Option Pointer) → SideOutput none (targets.rest_target dots)
  rest_tracks None = tracks_pure None
  rest_tracks (Some p) = tracks_end (target_tracks _ (origin None p)) (λ i. tracks_pure (Some i))

  pub array_target_tracks : (dots : Option Pointer) {D E : Tracking} {b a : Lowering Elements} → SideOutput D b
      → SideOutput E a → SideOutput (D ⊕ E) (targets.array_target_form at dots b a)
  unfolding targets.array_target_form
  array_target_tracks dots hb ha =
      tracks_then hb (λ b. tracks_end ha (λ a. tracks_end (rest_tracks dots) (λ m. target_tracks _ at)))

  spread_tracks : (spread : Option Pointer) → SideOutput none (targets.report_spread spread)
  spread_tracks None = tracks_pure tt
  spread_tracks (Some p) = tracks_report _

  record_target_of_tracks : (dots : Bool) (spread : Option Pointer) {D : Tracking} {fs : Lowering (List RecordFieldPat)}
      → SideOutput D fs → (o : Option HirPath)
      → SideOutput (if_there o D) (targets.record_target_of at dots spread fs o)
  record_target_of_tracks dots spread h None = tracks_made_pat _ at.call
  record_target_of_tracks dots spread h (Some o) =
      tracks_then (spread_tracks spread) (λ u. tracks_end h (λ fs. target_tracks _ at))

  pub record_target_tracks : (dots : Bool) (spread : Option Pointer) (q : OptionPath) {W D : Tracking}
      {fs : Lowering (List RecordFieldPat)} → SideOutput W (lower_path q) → SideOutput D fs
      → SideOutput (W ⊕ if_read (path_of q) D) (targets.record_target_form at dots spread fs (lower_path q))
  unfolding targets.record_target_form
  record_target_tracks dots spread q hq h = where_tracks q hq (λ o. record_target_of_tracks dots spread h o)

pub arm_tracks : {D E F : Tracking} {p : Lowering PatId} {e : ExprSteps} {g : Lowering (Option ExprId)}
    → SideOutput D p → SideOutput E e → SideOutput F g
    → SideOutput (D ⊕ (E ⊕ F)) (arm_form p e g)
unfolding arm_form
arm_tracks hp he hg = tracks_then hp (λ p. tracks_then he (λ e. tracks_end hg (λ g. tracks_pure _)))

pub let_stmt_tracks : {D E F G : Tracking} {p : Lowering PatId} {t : Lowering (Option TypeRefId)}
    {i b : Lowering (Option ExprId)} → SideOutput D p → SideOutput E t → SideOutput F i → SideOutput G b
    → SideOutput (D ⊕ (E ⊕ (F ⊕ G))) (let_stmt_form p t i b)
unfolding let_stmt_form
let_stmt_tracks hp ht hi hb =
    tracks_then hp (λ p. tracks_then ht (λ t. tracks_then hi (λ i. tracks_end hb (λ b. tracks_pure _))))

pub item_tracks : (item : Option LangItemId) → SideOutput none (ranges.item_form item)
unfolding ranges.item_form
item_tracks item = tracks_expr _ None

pub before_tracks : (item : Option LangItemId) {D : Tracking} {e : ExprSteps} → SideOutput D e
    → SideOutput D (ranges.before_form item e)
unfolding ranges.before_form
before_tracks item h = tracks_end h (λ e. tracks_end (tracks_expr _ None) (λ f. tracks_expr _ None))
