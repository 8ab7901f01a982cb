-- Whether a `yield` stands in it: an instance, beside that made names stay apart.
use Rattle.std.proofs.Common.{◌≡◌, subst, ◌||◌, ℕ, suc, Bool, false, List, [], ◌∷◌, Option, Some, None, Ok, Err}
use Rattle.hir_binding.specs.declared.binding.BindingAnnotation.{BindingAnnotation}
use Rattle.hir_store.specs.Pointers.{Pointer}
use Rattle.hir_store.specs.declared.ids.BindingId.{BindingId}
use Rattle.hir_store.specs.declared.ids.LabelId.{LabelId}
use Rattle.hir_store.specs.declared.type_ref.TypeBound.{TypeBound}
use Rattle.hir_env.specs.declared.ctx.ImplTrait.{ImplTrait}
use Rattle.hir_env.specs.declared.ctx.ImplTrait.TheVariants as becomes
use Rattle.hir_lower_builder.specs.Lowering.{becoming}
use Rattle.thm_logic.specs.Grading.{grade_impl}
use Rattle.hir_env.specs.ResolvedTree as tree
use Rattle.hir_lower_builder.specs.Builder.{Builder}
use Rattle.hir_lower_builder.specs.Forms.{ExprSteps, StoredContents}
use Rattle.hir_lower_builder.specs.Lowering.{Checked, go_on, Lowering, ◌>>=◌, close, made_number, open_try}
use Rattle.hir_lower_builder.specs.Made.{made_bind_form}
use Rattle.hir_lower_builder.specs.declared.walk.Reading.{Reading}
use Rattle.hir_lower_builder.specs.Paths.{or_count_out}
use Rattle.hir_lower_builder.specs.Pats as forms
use Rattle.hir_lower_builder.specs.Pats.{Key, SideOutput as PatTracks, Table, new_binding}
use Rattle.hir_lower_builder.specs.Walks.{super_read}
use Rattle.thm_round_trip.proofs.Definitions.{behind_raises, define_off}
use Rattle.thm_logic.proofs.Calls.{only_gone, only_track, only_emitted, point_pat_apart, point_target_apart, point_type_apart, still_only}
use Rattle.thm_logic.proofs.Calls.{still_point_pat, still_point_target}
use Rattle.thm_logic.proofs.Calls.{still_point_type}
use Rattle.thm_logic.proofs.Apart.{Apart, binding_apart, point_apart, stored_type_apart, then_apart, try_target_apart}
use Rattle.thm_logic.proofs.Barriers.{raises_yield, still_closure, still_constant, still_coroutine, still_inner}
use Rattle.thm_logic.proofs.CoroutineClosures.{still_coroutine_closure}
use Rattle.thm_logic.proofs.MadeSteps.{correct_made_number}
use Rattle.thm_logic.proofs.Opening.{raises_close, raises_open_label, raises_open_try}
use Rattle.thm_logic.proofs.Owning.{raises_owning, still_owning}
use Rattle.thm_logic.proofs.PatSteps.{correct_alloc_binding, correct_alloc_pat, correct_define}
use Rattle.thm_logic.proofs.StillTracks.{raises_aliased, raises_tracked_down, still_becoming}
use Rattle.thm_logic.proofs.Steps.{Correct}
use Rattle.thm_logic.proofs.Yields.{RaisedTo, Raises, Still, raised_trans, raises_begin, raises_end, raises_pure, raises_still}
use Rattle.thm_logic.proofs.Yields.{raises_then, still_count_out, still_problem, still_pure, still_then}
use Rattle.thm_logic.proofs.Yields.{still_binding, still_define, still_enter_block, still_expr, still_jump_target, still_lifetime}
use Rattle.thm_logic.proofs.Yields.{still_made, still_made_number, still_made_pat, still_pat, still_point, still_point_field}
use Rattle.thm_logic.proofs.Yields.{still_point_pat_field}
use Rattle.thm_logic.proofs.Yields.{still_report, still_try_target, still_type}
use Rattle.thm_round_trip.specs.Yields.{yields}
use Rattle.thm_logic.proofs.Answering.{Answering, AnsweredTo}
use Rattle.spec_data.specs.Data.{TypeData}
use Rattle.thm_logic.proofs.AsApart.{apart_graded, apart_where, impl_apart, settle_apart}
use Rattle.thm_logic.proofs.Graded.{Graded}
use Rattle.thm_logic.proofs.ReadBack.{Unknown, unknown_reads}

abbrev pub SideOutput : {A : Type 0} → Bool → Lowering A → Type 0
SideOutput y p = Correct p Apart × Raises y p

pub raises_where : {A B : Type 0} {P : A → Type 0} {y z : Bool} {p : Lowering A} {f : A → Lowering B} → Raises y p → Answering P p
    → ((a : A) → P a → Raises z (f a)) → Raises (y || z) (p >>= f)
raises_where {A = A} {P = P} {y = y} {z = z} {p = p} {f = f} h t k =
    record { at = λ b d. by b (p b).0 (p b).1 (h.at b d) (t.answers b) }
  where
    by : (b : Builder) (o : Checked A) (c : Builder) → RaisedTo y b o c → AnsweredTo P o
        → RaisedTo (y || z) b (go_on o c f).0 (go_on o c f).1
    by b (Ok a) c x is = raised_trans y z b c x.1 (f a c).0 (f a c).1 ((k a is).at c x.0)
    by b (Err e) c x is = tt

-- none stands in it
pub off : {A : Type 0} {p : Lowering A} → Correct p Apart → Still p → SideOutput false p
off h s = (h, raises_still h s)

-- nor in what is counted

pub counted_still : (r : Option Reading) → Still (or_count_out r)
counted_still (Some r) = still_pure r
counted_still None = still_count_out

place_still : (place : Option ℕ) → Still (forms.counted_place place)
place_still None = still_count_out
place_still (Some n) = still_pure (Some n)

pub dots_still : (comma : Bool) (place : Option ℕ) → Still (forms.counted_dots comma place)
dots_still comma None = still_pure None
dots_still comma (Some n) = place_still (forms.small_place comma n)

-- nor in the names of a top pattern

settle_from_still : (tracks : PatTracks) (number : ℕ) (es : List (Key × BindingId)) → Still (forms.settle_from tracks number es)
settle_from_still tracks number [] = still_pure tt
settle_from_still tracks number (e ∷ es) = still_then (still_problem _ _) (λ u. settle_from_still tracks (suc number) es)

pub settle_still : (t : Table) → Still (forms.settle t)
unfolding forms.settle
settle_still t = settle_from_still t.tracked 0 t.bindings

-- nor in a name that is made up and bound
pub bind_off : (mode : BindingAnnotation) (n : ℕ) → Raises false (made_bind_form mode n)
unfolding made_bind_form
bind_off mode n = raises_end (raises_still (correct_alloc_binding _) (still_binding _)) (λ i.
    raises_end (raises_still (correct_alloc_pat _ None) (still_pat _ None)) (λ p.
    raises_begin (raises_still (correct_define i p) (still_define i p)) (λ u. raises_pure p)))

pub number_off : Raises false made_number
number_off = raises_still correct_made_number still_made_number

-- what comes behind a `try` goes by something of what is in it
pub try_raises : (at : Pointer) (typed : Bool) {y z : Bool} (k : Bool → Bool) (of : StoredContents → Bool) (b : Bool)
    {s : Lowering (Unit {0})} {p : Lowering StoredContents} {f : LabelId → StoredContents → ExprSteps} → Raises y s → Raises z p
    → Answering (λ r. of r ≡ b) p → ((n : LabelId) (r : StoredContents) → Raises (k (of r)) (f n r))
    → Raises (y || (z || k b)) (open_try at typed >>= (λ n. s >>= (λ _. p >>= (λ r. close >>= (λ _. f n r)))))
try_raises at typed k of b {f = f} hs hp t more = raises_begin (raises_open_try at typed) (λ n. raises_then hs (λ u.
    raises_where hp t (λ r is. raises_begin raises_close (λ v. subst (λ x. Raises (k x) (f n r)) is (more n r)))))

-- nor in what an `impl` becomes
pub impls : (at : Pointer) (mode : ImplTrait) (bounds : List TypeBound) (t : TypeData)
    → SideOutput (grade_impl yields mode t) (becoming at mode bounds)
impls at becomes.Error bounds t = off (impl_apart at becomes.Error bounds) (still_becoming at becomes.Error bounds)
impls at becomes.Opaque bounds t = off (impl_apart at becomes.Opaque bounds) (still_becoming at becomes.Opaque bounds)
impls at (becomes.Argument def) bounds t =
    off (impl_apart at (becomes.Argument def) bounds) (still_becoming at (becomes.Argument def) bounds)

abbrev pub yields_graded : Graded yields
yields_graded = let apart = apart_graded in record {
  Claim = λ y p. SideOutput y p;
  Made = λ y p. SideOutput y p;
  Hands = λ t y p. SideOutput y p;
  MadePat = λ y p. SideOutput y p;
  MadeType = λ t y p. SideOutput y p;
  HandsPat = λ t y p. SideOutput y p;
  made_is = λ h. h;
  pat_made_is = λ h. h;
  type_made_is = λ is h. h;
  pure_is = λ a. (apart.pure_is a, raises_pure a);
  bind_is = λ h t k. (apart_where h.0 t (λ a x. (k a x).0), raises_where h.1 t (λ a x. (k a x).1));
  makes_is = λ h t k. (apart_where h.0 t (λ a x. (k a x).0), raises_where h.1 t (λ a x. (k a x).1));
  makes_pat_is = λ h t k. (apart_where h.0 t (λ a x. (k a x).0), raises_where h.1 t (λ a x. (k a x).1));
  makes_type_is = λ h k. (then_apart h.0 (λ a. (k a).0), raises_then h.1 (λ a. (k a).1));
  end_is = λ h k. (apart.end_is h.0 (λ a. (k a).0), raises_end h.1 (λ a. (k a).1));
  hands_pure_is = λ a t u e. (apart.hands_pure_is a t u e, raises_pure (a, u));
  hands_as_is = λ t u e h. h;
  hands_bind_is = λ table h t k. (apart_where h.0 t (λ a x. (k a x).0), raises_where h.1 t (λ a x. (k a x).1));
  beside_is = λ table h t k. (apart_where h.0 t (λ a x. (k a x).0), raises_where h.1 t (λ a x. (k a x).1));
  hands_end_is = λ table h k. (apart.end_is h.0 (λ a. (k a).0), raises_end h.1 (λ a. (k a).1));
  beside_end_is = λ table h k. (apart.end_is h.0 (λ a. (k a).0), raises_end h.1 (λ a. (k a).1));
  hands_pat_is = λ t h. h;
  hands_makes_is = λ table h t k. (apart_where h.0 t (λ a x. (k a x).0), raises_where h.1 t (λ a x. (k a x).1));
  beside_makes_is = λ table h t k. (apart_where h.0 t (λ a x. (k a x).0), raises_where h.1 t (λ a x. (k a x).1));
  alone_is = λ t u e h. (apart.alone_is t u e h.0, raises_end h.1 (λ i. raises_pure (i, u)));
  named_alone_is = λ b t u e h. (
    apart.named_alone_is b t u e h.0,
    raises_end h.1 (λ i. raises_end (raises_still (apart.define_is b i) (still_define b i)) (λ v. raises_pure (i, u))),
  );
  or_is = λ at ps t p first known later more whole. whole;
  new_name_is = λ u is t with_it e. (
    apart.new_name_is u is t with_it e,
    raises_end (raises_still (binding_apart (new_binding u) is) (still_binding (new_binding u))) (λ b. raises_pure (b, with_it b)),
  );
  top_is = λ h. (
    apart.top_is h.0,
    raises_end h.1 (λ r. raises_end (raises_still (settle_apart r.1) (settle_still r.1)) (λ u. raises_pure r.0)),
  );
  Where = λ C y p. SideOutput y p;
  Known = Unknown;
  reads = unknown_reads;
  where_type = λ h. h;
  where_any = λ h. h;
  where_less = λ is h. h;
  where_known = λ h t is k. (apart_where h.0 t (λ a x. (k a x).0), raises_where h.1 t (λ a x. (k a x).1));
  where_first = λ h k. (then_apart h.0 (λ a. (k a).0), raises_then h.1 (λ a. (k a).1));
  where_end = λ h k. (apart.end_is h.0 (λ a. (k a).0), raises_end h.1 (λ a. (k a).1));
  type_is = λ t at shape. off (stored_type_apart t at) (still_type t at);
  lifetime_is = λ l at. off (apart.lifetime_is l at) (still_lifetime l at);
  tracked_down_is = λ f k h. (apart.tracked_down_is f k h.0, raises_tracked_down f h.1);
  aliased_is = λ alias h. (apart.aliased_is alias h.0, raises_aliased alias h.1);
  impl_is = λ at mode bounds shape. impls at mode bounds _;
  pat_is = λ p at. off (apart.pat_is p at) (still_pat p at);
  made_pat_is = λ p at. off (apart.made_pat_is p at) (still_made_pat p at);
  expr_is = λ e at. off (apart.expr_is e at) (still_expr e at);
  made_expr_is = λ e at. off (apart.made_expr_is e at) (still_made e at);
  point_is = λ at h. (
    apart.point_is at h.0,
    raises_end h.1 (λ i. raises_begin (raises_still (point_apart at i) (still_point at i)) (λ u. raises_pure i)),
  );
  point_field_is = λ i at. off (apart.point_field_is i at) (still_point_field i at);
  binding_is = λ u is. off (apart.binding_is u is) (still_binding (new_binding u));
  define_is = λ b p. off (apart.define_is b p) (still_define b p);
  field_is = λ p at. off (apart.field_is p at) (still_point_pat_field p at);
  fault_is = λ d. off (apart.fault_is d) (still_report d);
  tracked_is = λ c. off (apart.tracked_is c) (still_only (only_track c));
  emitted_is = λ c. off (apart.emitted_is c) (still_only (only_emitted c));
  gone_is = λ why. off (apart.gone_is why) (still_only (only_gone why));
  type_call_is = λ at t h. (
    apart.type_call_is at t h.0,
    raises_then h.1 (λ i. raises_begin (raises_still (point_type_apart at i) (still_point_type at i)) (λ u. raises_pure i)),
  );
  pat_call_is = λ at h. (
    apart.pat_call_is at h.0,
    raises_then h.1 (λ i. raises_begin (raises_still (point_pat_apart at i) (still_point_pat at i)) (λ u. raises_pure i)),
  );
  target_mapping_is = λ at h. (
    apart.target_mapping_is at h.0,
    raises_then h.1 (λ i. raises_begin (raises_still (point_target_apart at i) (still_point_target at i)) (λ u. raises_pure i)),
  );
  hands_call_is = λ at t h. (
    apart.hands_call_is at t h.0,
    raises_then h.1 (λ r. raises_begin (raises_still (point_pat_apart at r.0) (still_point_pat at r.0)) (λ u. raises_pure r)),
  );
  super_is = λ w. off (apart.super_is w) (counted_still (super_read w));
  dots_is = λ comma place. off (apart.dots_is comma place) (dots_still comma place);
  def_is = λ k d. (apart.def_is k d, define_off k d);
  block_is = λ n. off (apart.block_is n) (still_enter_block n);
  jump_is = λ j. off (apart.jump_is j) (still_jump_target j);
  yield_is = λ at e h. (apart.yield_is at e h.0, raises_yield at e h.1);
  asked_is = λ k. (apart.asked_is (λ t. (k t).0), raises_begin (raises_still try_target_apart still_try_target) (λ t. (k t).1));
  named_is = λ mode k. (
    apart.named_is mode (λ n q. (k n q).0),
    raises_begin number_off (λ n. raises_begin (bind_off mode n) (λ q. (k n q).1)),
  );
  made_named_is = λ mode k. (
    apart.made_named_is mode (λ n q. (k n q).0),
    raises_begin number_off (λ n. raises_begin (bind_off mode n) (λ q. (k n q).1)),
  );
  named_past_is = λ mode h k. (
    apart.named_past_is mode h.0 (λ n a q. (k n a q).0),
    raises_begin number_off (λ n. raises_then h.1 (λ a. raises_begin (bind_off mode n) (λ q. (k n a q).1))),
  );
  bare_is = λ h k. (apart.bare_is h.0 (λ i. (k i).0), raises_end h.1 (λ i. (k i).1));
  loop_is = λ l is p h k. (
    apart.loop_is l is p h.0 (λ n i. (k n i).0),
    raises_begin (raises_open_label l) (λ n. raises_end h.1 (λ i. raises_begin raises_close (λ u. (k n i).1))),
  );
  labelled_is = λ l is k. (
    apart.labelled_is l is (λ n. (k n).0),
    raises_begin (raises_open_label l) (λ n. raises_end (k n).1 (λ i. raises_begin raises_close (λ u. raises_pure i))),
  );
  defined_is = λ d h. (apart.defined_is d h.0, behind_raises (tree.macro_stmt 0 (Some d)) h.1);
  try_is = λ at typed k of b hs hp t more. (
    apart.try_is at typed (λ x. tt) of b hs.0 hp.0 t (λ n r. (more n r).0),
    try_raises at typed k of b hs.1 hp.1 t (λ n r. (more n r).1),
  );
  inner_is = λ l h. off (apart.inner_is l h.0) (still_inner _);
  constant_is = λ e h. off (apart.constant_is e h.0) (still_owning (λ c. c.expr) (still_constant _));
  rooted_is = λ e h. off (apart.rooted_is e h.0) (still_constant _);
  closure_is = λ at moves is_static hp ht he. off (apart.closure_is at moves is_static hp.0 ht.0 he.0)
      (still_owning (λ i. i) (still_closure at moves is_static _ _ _));
  coroutine_closure_is = λ at kind moves xs t e hp ht he. off (apart.coroutine_closure_is at kind moves xs t e hp.0 ht.0 he.0)
      (still_owning (λ i. i) (still_coroutine_closure at kind moves _ _ _));
  coroutine_is = λ at kind moves number h. off (apart.coroutine_is at kind moves number h.0) (still_owning (λ i. i) (still_coroutine _));
  owning_is = λ h. (apart.owning_is h.0, raises_owning (λ i. i) h.1);
}
