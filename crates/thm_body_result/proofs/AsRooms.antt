-- As much as is told is stored, or there is no room for it: an instance. Of steps that make an expression it is claimed besides that it is
-- the last one.
use Rattle.std.proofs.Common.{◌≡◌, refl, sym, subst, add-one, ℕ, suc, ◌^◌, nat_lt, if◌then◌else◌, Bool, true, false}
use Rattle.std.proofs.Common.{[], Option, Some, None, Ok, Err, List}
use Rattle.std.proofs.lemmas.Bool.{ltb-false}
use Rattle.hir_binding.specs.declared.binding.BindingAnnotation.{BindingAnnotation}
use Rattle.hir_store.specs.Pointers.{Pointer}
use Rattle.hir_store.specs.declared.hir.Expr.TheVariants as hir
use Rattle.hir_store.specs.declared.ids.ExprId.{ExprId}
use Rattle.hir_store.specs.declared.ids.LabelId.{LabelId}
use Rattle.hir_store.specs.declared.ids.PatId.{PatId}
use Rattle.hir_store.specs.declared.hir.CoroutineKind.{CoroutineKind}
use Rattle.hir_env.specs.ResolvedTree as tree
use Rattle.hir_env.specs.ResolvedTree.{Formals, Label, OptionExpr, SelfFormal}
use Rattle.spec_data.specs.Data as datum
use Rattle.spec_data.specs.Data.{Shape}
use Rattle.spec_data.specs.Patterns.{moved_by}
use Rattle.hir_lower_builder.specs.Lower.{lower_part}
use Rattle.hir_lower_builder.specs.Builder.{Builder}
use Rattle.hir_lower_builder.specs.Forms.{ExprSteps, StoredContents, value_form, yield_form}
use Rattle.hir_lower_builder.specs.Lowering.{Checked, Lowering, ◌>>=◌, pure, close, count_out, made_number, track_yield}
use Rattle.hir_store.specs.declared.type_ref.TypeBound.{TypeBound}
use Rattle.hir_env.specs.declared.ctx.ImplTrait.{ImplTrait}
use Rattle.hir_env.specs.declared.ctx.ImplTrait.TheVariants as becomes
use Rattle.hir_lower_builder.specs.Lowering.{becoming}
use Rattle.thm_logic.specs.Grading.{grade_impl}
use Rattle.thm_body_result.proofs.TrackRooms.{aliased_takes, becoming_takes, takes_tracked}
use Rattle.hir_lower_builder.specs.Lowering.{open_label, open_try}
use Rattle.hir_lower_builder.specs.Made.{made_bind_form}
use Rattle.hir_lower_builder.specs.Pats.{counted_dots, counted_place, moved_dots, new_binding, small_place}
use Rattle.spec_semantics.specs.InnerWritten.{constant_body, limit_body}
use Rattle.thm_body_result.specs.Formals.{coroutine_body, each_formal, lower_self}
use Rattle.thm_body_result.specs.Room.{self_size}
use Rattle.thm_body_result.specs.Size.{Size, dots_behind, nothing, a_label, a_generated_name, ◌∪◌}
use Rattle.thm_logic.proofs.Calls.{only_track}
use Rattle.thm_body_result.proofs.CallRooms.{takes_called_type, takes_gone, takes_emitted, emits_called}
use Rattle.thm_body_result.proofs.DefRooms.{define_takes, inside_takes}
use Rattle.thm_body_result.proofs.FunctionRooms.{coroutine_body_takes}
use Rattle.thm_body_result.proofs.ClosureRooms.{closure_takes, coroutine_takes, takes_owned, takes_owning}
use Rattle.thm_body_result.proofs.CoroutineRooms.{coroutine_closure_takes}
use Rattle.thm_body_result.proofs.Last.{IsLast, coroutine_last, in_exprs, last_alloc}
use Rattle.thm_body_result.proofs.Last.{last_made, last_then, owning_last, pointed_last, quiet_close}
use Rattle.thm_body_result.proofs.LastStored.{LastPat, LastType, becoming_last, last_before, last_given, lastly, lastly_where}
use Rattle.thm_body_result.proofs.LastStored.{made_pat_last, or_last, pat_last, in_pats, stays_define, stays_point_pat, stays_point_target}
use Rattle.thm_body_result.proofs.LastStored.{stays_point_type, stored_last, in_types}
use Rattle.thm_body_result.proofs.Last.{closure_last, coroutine_block_last, coroutine_closure_last}
use Rattle.thm_body_result.proofs.MadeRooms.{made_bind_takes, takes_made, takes_number, takes_target, takes_try}
use Rattle.thm_body_result.proofs.PatRooms.{settle_takes}
use Rattle.thm_body_result.proofs.PathRooms.{counted_emits, counts_out}
use Rattle.thm_body_result.proofs.Rooms.{Takes, takes_alloc, takes_as, takes_begin, takes_binding, takes_block, takes_close, takes_constant}
use Rattle.thm_body_result.proofs.Rooms.{takes_only}
use Rattle.thm_body_result.proofs.Rooms.{takes_define, takes_end, takes_inner, takes_jump, takes_lifetime, takes_made_pat, takes_track}
use Rattle.thm_body_result.proofs.Rooms.{takes_open, takes_pat}
use Rattle.thm_body_result.proofs.Rooms.{takes_point, takes_point_field, takes_point_pat_field, takes_pure, takes_report}
use Rattle.thm_body_result.proofs.Rooms.{takes_then, takes_type}
use Rattle.thm_body_result.proofs.TargetRooms.{takes_pointed}
use Rattle.thm_body_result.proofs.Emissions as known
use Rattle.thm_body_result.proofs.Emissions.{takes_of, emits_any, emits_then}
use Rattle.thm_body_result.proofs.Took.{Room, Same, nothing_first}
use Rattle.thm_body_result.specs.Sizes.{bodies_sized, sizes}
use Rattle.thm_body_result.specs.Bodies.{grade_self}
use Rattle.thm_logic.proofs.Answering.{Answering, AnsweredTo}
use Rattle.thm_body_result.proofs.GradedBodies.{GradedBodies}
use Rattle.thm_logic.proofs.Graded.{Graded}
use Rattle.thm_logic.proofs.ReadBack.{Unknown, unknown_reads}

pub given : {A : Type 0} {P : A → Type 0} {n : Size} {p : Lowering A} → Takes n p → Answering P p → known.Emits n P p
given {A = A} {P = P} {n = n} {p = p} h t = record { emits = λ b d. by b (p b).0 (p b).1 (h.takes b d) (t.answers b) }
  where
    by : (b : Builder) (o : Checked A) (c : Builder) → Room n b o c → AnsweredTo P o → known.Emitted n P b o c
    by b (Ok a) c x y = (x, y)
    by b (Err e) c x y = x

-- what an `impl` becomes

pub impls : (at : Pointer) (mode : ImplTrait) (bounds : List TypeBound) (shape : Shape)
    → Takes (grade_impl sizes mode (datum.typed (Some at) shape)) (becoming at mode bounds)
impls at becomes.Error bounds shape = becoming_takes at becomes.Error bounds
impls at becomes.Opaque bounds shape = becoming_takes at becomes.Opaque bounds
impls at (becomes.Argument def) bounds shape = becoming_takes at (becomes.Argument def) bounds

-- two dots

counts : (n : Option ℕ) → Same nothing (dots_behind n)
counts None = record {
  exprs = refl;
  labels = refl;
  bindings = refl;
  owners = refl;
  names = refl;
  params = refl;
  pats = refl;
  types = refl;
  lifetimes = refl;
  pat_leads = refl;
  type_leads = refl;
  overcounts = λ x. x;
}
counts (Some n) = record {
  exprs = refl;
  labels = refl;
  bindings = refl;
  owners = refl;
  names = refl;
  params = refl;
  pats = refl;
  types = refl;
  lifetimes = refl;
  pat_leads = refl;
  type_leads = refl;
  overcounts = λ x. absurd x;
}

place_takes : (comma : Bool) (n k : ℕ) → moved_dots comma n ≡ k → Takes (dots_behind (Some k)) (counted_place (small_place comma n))
unfolding count_out
place_takes comma n k e = subst (λ j. Takes (dots_behind (Some j)) (counted_place (small_place comma n))) e
    (by (nat_lt (moved_dots comma n) (2 ^ 32)) refl)
  where
    by : (b : Bool) → nat_lt (moved_dots comma n) (2 ^ 32) ≡ b
        → Takes (dots_behind (Some (moved_dots comma n))) (counted_place (if b then Some (moved_dots comma n) else None))
    by true is = takes_as (counts (Some (moved_dots comma n))) (takes_pure _)
    by false is = record {
      takes = λ b d. counts_out (dots_behind (Some (moved_dots comma n))) b (ltb-false (moved_dots comma n) (2 ^ 32) is);
    }

pub dots_take : (comma : Bool) (d : Option ℕ) → Takes (dots_behind (moved_by comma d)) (counted_dots comma d)
dots_take false None = takes_pure None
dots_take true None = takes_pure None
dots_take false (Some n) = place_takes false n n refl
dots_take true (Some n) = place_takes true n (suc n) (add-one n)

-- the last expression

pub loop_last : (l : Label) (p : ExprSteps) {f : LabelId → ExprId → ExprSteps} → ((n : LabelId) (i : ExprId) → IsLast (f n i))
    → IsLast (open_label l >>= (λ n. p >>= (λ i. close >>= (λ _. f n i))))
loop_last l p k = last_then (open_label l) (λ n. last_then p (λ i. last_then close (λ u. k n i)))

pub labelled_last : (l : Label) {f : LabelId → ExprSteps} → ((n : LabelId) → IsLast (f n))
    → IsLast (open_label l >>= (λ n. f n >>= (λ i. close >>= (λ _. pure i))))
labelled_last l k = last_then (open_label l) (λ n. last_before in_exprs (λ i. i) (λ i. refl) (k n) (λ i. quiet_close))

try_last : (at : Pointer) (typed : Bool) (s : Lowering (Unit {0})) (p : Lowering StoredContents) {f : LabelId → StoredContents → ExprSteps}
    → ((n : LabelId) (r : StoredContents) → IsLast (f n r))
    → IsLast (open_try at typed >>= (λ n. s >>= (λ _. p >>= (λ r. close >>= (λ _. f n r)))))
try_last at typed s p k =
    last_then (open_try at typed) (λ n. last_then s (λ u. last_then p (λ r. last_then close (λ v. k n r))))

pub named_last : (mode : BindingAnnotation) {f : ℕ → PatId → ExprSteps} → ((n : ℕ) (q : PatId) → IsLast (f n q))
    → IsLast (made_number >>= (λ n. made_bind_form mode n >>= (λ q. f n q)))
named_last mode k = last_then made_number (λ n. last_then (made_bind_form mode n) (λ q. k n q))

pub named_past_last : (mode : BindingAnnotation) {A : Type 0} (p : Lowering A) {f : ℕ → A → PatId → ExprSteps}
    → ((n : ℕ) (a : A) (q : PatId) → IsLast (f n a q))
    → IsLast (made_number >>= (λ n. p >>= (λ a. made_bind_form mode n >>= (λ q. f n a q))))
named_past_last mode p k = last_then made_number (λ n. last_then p (λ a. last_then (made_bind_form mode n) (λ q. k n a q)))

-- the last pattern

pub pats_take : {A B : Type 0} {P : A → Type 0} {pat_in : B → PatId} {n m : Size} {p : Lowering A} {f : A → Lowering B} → Takes n p
    → Answering P p → ((a : A) → P a → Takes m (f a) × LastPat pat_in (f a)) → Takes (n ∪ m) (p >>= f) × LastPat pat_in (p >>= f)
pats_take h t k = (takes_of (emits_then (given h t) (λ a x. emits_any (k a x).0)), lastly_where in_pats t (λ a x. (k a x).1))

-- a `yield`, and a `try`

pub yield_takes : (at : Pointer) (e : Lowering (Option ExprId)) {n : Size} → Takes n (value_form at hir.Yield e) → Takes n (yield_form at e)
unfolding value_form yield_form
yield_takes at e h = takes_begin takes_track (λ u. h)

pub yield_last : (at : Pointer) (e : Lowering (Option ExprId)) → IsLast (value_form at hir.Yield e) → IsLast (yield_form at e)
unfolding value_form yield_form
yield_last at e h = last_then track_yield (λ u. h)

pub try_takes : (at : Pointer) (typed : Bool) {n m : Size} (k : Bool → Size) (of : StoredContents → Bool) (b : Bool)
    {s : Lowering (Unit {0})} {p : Lowering StoredContents} {f : LabelId → StoredContents → ExprSteps} → Takes n s → Takes m p
    → Answering (λ r. of r ≡ b) p → ((l : LabelId) (r : StoredContents) → Takes (k (of r)) (f l r) × IsLast (f l r))
    → let steps : ExprSteps = open_try at typed >>= (λ l. s >>= (λ _. p >>= (λ r. close >>= (λ _. f l r)))) in
    Takes ((a_generated_name ∪ a_label) ∪ (n ∪ (m ∪ k b))) steps × IsLast steps
try_takes at typed k of b {s = s} {p = p} {f = f} hs hp t more = (
  takes_then (takes_try at typed) (λ l. takes_then hs (λ u.
      takes_of (emits_then (given hp t) (λ r is. emits_any (takes_begin takes_close (λ v.
      subst (λ x. Takes (k x) (f l r)) is (more l r).0)))))),
  try_last at typed s p (λ l r. (more l r).1),
)

abbrev pub rooms_graded : Graded sizes
rooms_graded = record {
  Claim = λ n p. Takes n p;
  Made = λ n p. Takes n p × IsLast p;
  Hands = λ t n p. Takes n p;
  MadePat = λ n p. Takes n p × LastPat (λ i. i) p;
  MadeType = λ t n p. Takes n p × LastType p;
  HandsPat = λ t n p. Takes n p × LastPat (λ r. r.0) p;
  made_is = λ h. h.0;
  pat_made_is = λ h. h.0;
  type_made_is = λ is h. h.0;
  pure_is = λ a. takes_pure a;
  bind_is = λ h t k. takes_of (emits_then (given h t) (λ a x. emits_any (k a x)));
  makes_is = λ h t k. (takes_of (emits_then (given h t) (λ a x. emits_any (k a x).0)), lastly_where in_exprs t (λ a x. (k a x).1));
  makes_pat_is = λ h t k. pats_take h t k;
  makes_type_is = λ h k. (takes_then h (λ a. (k a).0), lastly in_types _ (λ a. (k a).1));
  end_is = λ h k. takes_end h k;
  hands_pure_is = λ a t u e. takes_pure (a, u);
  hands_as_is = λ t u e h. h;
  hands_bind_is = λ table h t k. takes_of (emits_then (given h t) (λ a x. emits_any (k a x)));
  beside_is = λ table h t k. takes_of (emits_then (given h t) (λ a x. emits_any (k a x)));
  hands_end_is = λ table h k. takes_end h k;
  beside_end_is = λ table h k. takes_end h k;
  hands_pat_is = λ t h. h.0;
  hands_makes_is = λ table h t k. pats_take h t k;
  beside_makes_is = λ table h t k. pats_take h t k;
  alone_is = λ t u e h. (takes_end h.0 (λ i. takes_pure (i, u)), last_given in_pats (λ i. (i, u)) (λ i. refl) h.1);
  named_alone_is = λ b t u e h. (
    takes_end h.0 (λ i. takes_end (takes_define b i) (λ v. takes_pure (i, u))),
    last_before in_pats (λ i. (i, u)) (λ i. refl) h.1 (λ i. stays_define b i),
  );
  or_is = λ at ps t p first known later more whole. (whole, or_last at ps t p first.1);
  new_name_is = λ u is t with_it e. takes_end (takes_binding (new_binding u)) (λ b. takes_pure (b, with_it b));
  top_is = λ h. takes_end h (λ r. takes_end (settle_takes r.1) (λ u. takes_pure r.0));
  Where = λ C n p. Takes n p;
  Known = Unknown;
  reads = unknown_reads;
  where_type = λ h. h.0;
  where_any = λ h. h;
  where_less = λ is h. h;
  where_known = λ h t is k. takes_of (emits_then (given h t) (λ a x. emits_any (k a x)));
  where_first = λ h k. takes_then h k;
  where_end = λ h k. takes_end h k;
  type_is = λ t at shape. (takes_type t at, stored_last t at);
  lifetime_is = λ l at. takes_lifetime l at;
  tracked_down_is = λ f k h. takes_tracked f k h;
  aliased_is = λ alias h. aliased_takes alias h;
  impl_is = λ at mode bounds shape. (impls at mode bounds shape, becoming_last at mode bounds);
  pat_is = λ p at. (takes_pat p at, pat_last p at);
  made_pat_is = λ p at. (takes_made_pat p at, made_pat_last p at);
  expr_is = λ e at. (takes_alloc e at, last_alloc e at);
  made_expr_is = λ e at. (takes_made e at, last_made e at);
  point_is = λ at h. (takes_end h.0 (λ i. takes_end (takes_point at i) (λ u. takes_pure i)), pointed_last at h.1);
  point_field_is = λ i at. takes_point_field i at;
  binding_is = λ u is. takes_binding (new_binding u);
  define_is = λ b p. takes_define b p;
  field_is = λ p at. takes_point_pat_field p at;
  fault_is = λ d. takes_report d;
  tracked_is = λ c. takes_only (only_track c);
  emitted_is = λ c. takes_emitted c;
  gone_is = λ why. takes_gone why;
  type_call_is = λ at t h. (
    takes_called_type at h.1 h.0,
    last_before in_types (λ i. i) (λ i. refl) h.1 (λ i. stays_point_type at i),
  );
  pat_call_is = λ at h. (
    takes_of (emits_called at (λ i. i) h.1 (emits_any h.0)),
    last_before in_pats (λ i. i) (λ i. refl) h.1 (λ i. stays_point_pat at i),
  );
  target_mapping_is = λ at h. (
    takes_pointed at h.1 h.0,
    last_before in_pats (λ i. i) (λ i. refl) h.1 (λ i. stays_point_target at i),
  );
  hands_call_is = λ at t h. (
    takes_of (emits_called at (λ r. r.0) h.1 (emits_any h.0)),
    last_before in_pats (λ r. r) (λ r. refl) h.1 (λ r. stays_point_pat at r.0),
  );
  super_is = λ w. takes_of (counted_emits w);
  dots_is = λ comma place. dots_take comma place;
  def_is = λ k d. define_takes k d;
  block_is = λ n. takes_block n;
  jump_is = λ j. takes_jump j;
  yield_is = λ at e h. (yield_takes at e h.0, yield_last at e h.1);
  asked_is = λ k. (takes_begin takes_target (λ t. (k t).0), last_then _ (λ t. (k t).1));
  named_is = λ mode k. takes_then takes_number (λ n. takes_then (made_bind_takes mode n) (λ q. k n q));
  made_named_is = λ mode k. (
    takes_then takes_number (λ n. takes_then (made_bind_takes mode n) (λ q. (k n q).0)),
    named_last mode (λ n q. (k n q).1),
  );
  named_past_is = λ mode h k. (
    takes_then takes_number (λ n. takes_then h (λ a. takes_then (made_bind_takes mode n) (λ q. (k n a q).0))),
    named_past_last mode _ (λ n a q. (k n a q).1),
  );
  bare_is = λ h k. (takes_as (nothing_first _) (takes_then h (λ i. (k i).0)), last_then _ (λ i. (k i).1));
  loop_is = λ l is p h k. (
    takes_then (takes_open l) (λ n. takes_then h (λ i. takes_begin takes_close (λ u. (k n i).0))),
    loop_last l p (λ n i. (k n i).1),
  );
  labelled_is = λ l is k. (
    takes_then (takes_open l) (λ n. takes_end (k n).0 (λ i. takes_end takes_close (λ u. takes_pure i))),
    labelled_last l (λ n. (k n).1),
  );
  defined_is = λ d h. inside_takes d h;
  try_is = λ at typed k of b hs hp t more. try_takes at typed k of b hs hp t more;
  inner_is = λ l h. takes_inner (limit_body l) h.0;
  constant_is = λ e h. takes_owned (constant_body e) h.1 h.0;
  rooted_is = λ e h. takes_constant (constant_body e) h.0;
  closure_is = λ at moves is_static hp ht he.
      (closure_takes at moves is_static hp ht he.0, owning_last (closure_last at moves is_static _ _ _));
  coroutine_closure_is = λ at kind moves xs t e hp ht he.
      (coroutine_closure_takes kind xs t e hp ht he.0 at moves, owning_last (coroutine_closure_last at kind moves _ _ _));
  coroutine_is = λ at kind moves number h.
      (coroutine_takes at kind moves number h, owning_last (coroutine_last (coroutine_block_last at kind moves number _)));
  owning_is = λ h. (takes_owning h.1 h.0, owning_last h.1);
}

-- functions that are coroutines

pub self_is : (s : SelfFormal) → grade_self sizes s ≡ self_size s
self_is tree.no_self = refl
self_is (tree.disabled_self at by) = refl
self_is (tree.self_formal at u _) = refl

pub body_takes : (kind : CoroutineKind) (skipped : Bool) (f : Formals) (e : OptionExpr) {n k : Size}
    → Takes (grade_self sizes f.receiver) (lower_self f.receiver) → Takes n (each_formal skipped [] f.formals) → Takes k (lower_part e)
    → Takes (bodies_sized.coroutine_body skipped f (grade_self sizes f.receiver) n k) (coroutine_body kind skipped f e)
body_takes kind skipped f e {n = n} {k = k} hs hf he =
    subst (λ m. Takes (bodies_sized.coroutine_body skipped f m n k) (coroutine_body kind skipped f e)) (sym (self_is f.receiver))
    (coroutine_body_takes kind skipped f e (subst (λ m. Takes m (lower_self f.receiver)) (self_is f.receiver) hs) hf he)

abbrev pub rooms_bodies : GradedBodies rooms_graded bodies_sized
rooms_bodies = record { coroutine_body_is = λ kind skipped f e hs hf he. body_takes kind skipped f e hs hf he.0 }
