-- Lowering holds no more than it may, and counts as far as 32 bits do: an instance, and what there was room for.
use Rattle.std.proofs.Common.{◌≡◌, subst, arith, ℕ, ◌+◌, ◌<◌, ◌≤◌, ◌^◌, length, Bool, List, [], Option, None}
use Rattle.hir_store.specs.declared.hir.CoroutineKind.{CoroutineKind}
use Rattle.hir_store.specs.declared.hir.CoroutineSource.TheVariants as source
use Rattle.hir_store.specs.declared.ids.BindingId.{BindingId}
use Rattle.hir_env.specs.ResolvedTree.{Formal, Formals, OptionExpr}
use Rattle.hir_lower_builder.specs.Builder.{Builder, new_builder}
use Rattle.hir_lower_builder.specs.Lower.{lower_part}
use Rattle.hir_lower_builder.specs.Lowering.{Lowering}
use Rattle.hir_lower_builder.specs.Pats.{new_binding}
use Rattle.hir_lower_builder.specs.Walks.{super_read}
use Rattle.thm_logic.proofs.Calls.{only_gone, only_track, only_emitted}
use Rattle.thm_body_result.specs.Formals.{coroutine_body, each_formal, in_function, lower_self}
use Rattle.thm_body_result.specs.Size.{Size}
use Rattle.thm_body_result.proofs.Rooms.{Takes}
use Rattle.thm_body_result.proofs.Emissions.{takes_of}
use Rattle.thm_body_result.proofs.Took.{Grew, Room, Took}
use Rattle.thm_body_result.proofs.TreeRooms.{body_takes, part_takes, path_emits, type_part_takes}
use Rattle.thm_body_result.specs.Bodies.{GradingBodies}
use Rattle.thm_logic.specs.Silent.{silent_grading}
use Rattle.thm_body_result.proofs.GradedBodies.{GradedBodies, body_graded}
use Rattle.thm_logic.proofs.Graded.{Graded}
use Rattle.thm_logic.proofs.ReadBack.{Unknown, unknown_reads}
use Rattle.thm_logic.proofs.GradedTree.{expr_part_graded, part_graded, path_graded}
use Rattle.thm_item_result.specs.Exceeding.{FitsBehind, FitsIn, HadRoom, HasRoom, InLimits, RoomIsThere}
use Rattle.thm_item_result.proofs.Limits.{Limited, LimitsTo, limited_binding, limited_block, limited_close, limited_define, limited_expr}
use Rattle.thm_item_result.proofs.Limits.{limited_jump, limited_lifetime, limited_made, limited_made_pat, limited_track_down}
use Rattle.thm_item_result.proofs.Limits.{limited_number}
use Rattle.thm_item_result.proofs.Limits.{limited_only, limited_open_label, limited_open_try, limited_owning, limited_pat, limited_point}
use Rattle.thm_item_result.proofs.Limits.{limited_point_field, limited_point_pat, limited_point_pat_field, limited_point_target}
use Rattle.thm_item_result.proofs.Limits.{limited_point_type, limited_pure, limited_report, limited_then, limited_try_target, limited_type}
use Rattle.thm_item_result.proofs.Limits.{limited_where}
use Rattle.thm_item_result.proofs.LimitForms.{limited_aliased, limited_all_handed, limited_becoming, limited_closure, limited_constant}
use Rattle.thm_item_result.proofs.LimitForms.{limited_coroutine, limited_coroutine_closure, limited_counted, limited_define_form}
use Rattle.thm_item_result.proofs.LimitForms.{limited_dots, limited_inner, limited_inside, limited_let_self, limited_lets}
use Rattle.thm_item_result.proofs.LimitForms.{limited_made_bind, limited_made_coroutine, limited_settle, limited_yield}

abbrev pub limits_graded : Graded silent_grading
limits_graded = record {
  Claim = λ g p. Limited p;
  Made = λ g p. Limited p;
  Hands = λ t g p. Limited p;
  MadePat = λ g p. Limited p;
  MadeType = λ t g p. Limited p;
  HandsPat = λ t g p. Limited p;
  made_is = λ h. h;
  pat_made_is = λ h. h;
  type_made_is = λ is h. h;
  pure_is = λ a. limited_pure a;
  bind_is = λ h t k. limited_where h t k;
  makes_is = λ h t k. limited_where h t k;
  makes_pat_is = λ h t k. limited_where h t k;
  makes_type_is = λ h k. limited_then h k;
  end_is = λ h k. limited_then h k;
  hands_pure_is = λ a t u e. limited_pure (a, u);
  hands_as_is = λ t u e h. h;
  hands_bind_is = λ table h t k. limited_where h t k;
  beside_is = λ table h t k. limited_where h t k;
  hands_end_is = λ table h k. limited_then h k;
  beside_end_is = λ table h k. limited_then h k;
  hands_pat_is = λ t h. h;
  hands_makes_is = λ table h t k. limited_where h t k;
  beside_makes_is = λ table h t k. limited_where h t k;
  alone_is = λ t u e h. limited_then h (λ i. limited_pure (i, u));
  named_alone_is = λ b t u e h. limited_then h (λ i. limited_then (limited_define b i) (λ v. limited_pure (i, u)));
  or_is = λ at ps t p first known later more whole. whole;
  new_name_is = λ u is t with_it e. limited_then (limited_binding (new_binding u)) (λ b. limited_pure (b, with_it b));
  top_is = λ h. limited_then h (λ r. limited_then (limited_settle r.1) (λ u. limited_pure r.0));
  Where = λ C g p. Limited p;
  Known = Unknown;
  reads = unknown_reads;
  where_type = λ h. h;
  where_any = λ h. h;
  where_less = λ is h. h;
  where_known = λ h t is k. limited_where h t k;
  where_first = λ h k. limited_then h k;
  where_end = λ h k. limited_then h k;
  type_is = λ t at shape. limited_type t at;
  lifetime_is = λ l at. limited_lifetime l at;
  tracked_down_is = λ f k h. limited_then (limited_track_down f k) (λ u. h);
  aliased_is = λ alias h. limited_aliased alias h;
  impl_is = λ at mode bounds shape. limited_becoming at mode bounds;
  pat_is = λ p at. limited_pat p at;
  made_pat_is = λ p at. limited_made_pat p at;
  expr_is = λ e at. limited_expr e at;
  made_expr_is = λ e at. limited_made e at;
  point_is = λ at h. limited_then h (λ i. limited_then (limited_point at i) (λ u. limited_pure i));
  point_field_is = λ i at. limited_point_field i at;
  binding_is = λ u is. limited_binding (new_binding u);
  define_is = λ b p. limited_define b p;
  field_is = λ p at. limited_point_pat_field p at;
  fault_is = λ d. limited_report d;
  tracked_is = λ c. limited_only (only_track c);
  emitted_is = λ c. limited_only (only_emitted c);
  gone_is = λ why. limited_only (only_gone why);
  type_call_is = λ at t h. limited_then h (λ i. limited_then (limited_point_type at i) (λ u. limited_pure i));
  pat_call_is = λ at h. limited_then h (λ i. limited_then (limited_point_pat at i) (λ u. limited_pure i));
  target_mapping_is = λ at h. limited_then h (λ i. limited_then (limited_point_target at i) (λ u. limited_pure i));
  hands_call_is = λ at t h. limited_then h (λ r. limited_then (limited_point_pat at r.0) (λ u. limited_pure r));
  super_is = λ w. limited_counted (super_read w);
  dots_is = λ comma place. limited_dots comma place;
  def_is = λ k d. limited_define_form k d;
  block_is = λ n. limited_block n;
  jump_is = λ j. limited_jump j;
  yield_is = λ at e h. limited_yield at e h;
  asked_is = λ k. limited_then limited_try_target k;
  named_is = λ mode k. limited_then limited_number (λ n. limited_then (limited_made_bind mode n) (λ q. k n q));
  made_named_is = λ mode k. limited_then limited_number (λ n. limited_then (limited_made_bind mode n) (λ q. k n q));
  named_past_is = λ mode h k. limited_then limited_number (λ n. limited_then h (λ a.
      limited_then (limited_made_bind mode n) (λ q. k n a q)));
  bare_is = λ h k. limited_then h k;
  loop_is = λ l is p h k. limited_then (limited_open_label l) (λ n. limited_then h (λ i. limited_then limited_close (λ u. k n i)));
  labelled_is = λ l is k. limited_then (limited_open_label l) (λ n. limited_then (k n) (λ i.
      limited_then limited_close (λ u. limited_pure i)));
  defined_is = λ d h. limited_inside d h;
  try_is = λ at typed k of b hs hp t more. limited_then (limited_open_try at typed) (λ n. limited_then hs (λ u. limited_then hp (λ r.
      limited_then limited_close (λ v. more n r))));
  inner_is = λ l h. limited_inner h;
  constant_is = λ e h. limited_owning (λ c. c.expr) (limited_constant h);
  rooted_is = λ e h. limited_constant h;
  closure_is = λ at moves is_static hp ht he. limited_owning (λ i. i) (limited_closure at moves is_static hp ht he);
  coroutine_closure_is = λ at kind moves xs t e hp ht he. limited_owning (λ i. i) (limited_coroutine_closure at kind moves hp ht he);
  coroutine_is = λ at kind moves number h. limited_owning (λ i. i) (limited_coroutine at kind moves number h);
  owning_is = λ h. limited_owning (λ i. i) h;
}

-- bodies behind their parameters

limited_in_function : (kind : CoroutineKind) (skipped : Bool) (self : Option BindingId) (fs : List Formal) (e : OptionExpr)
    → Limited (each_formal skipped [] fs) → Limited (lower_part e) → Limited (in_function kind skipped self fs e)
unfolding in_function
limited_in_function kind skipped self fs e hf he = limited_then hf (λ ps. limited_then he (λ i.
    limited_then (limited_let_self self) (λ begun.
    limited_then (limited_lets begun.1 ps) (λ l. limited_then (limited_made_coroutine kind source.Fn l.lets i) (λ c. limited_pure _)))))

limited_body : (kind : CoroutineKind) (skipped : Bool) (f : Formals) (e : OptionExpr) → Limited (lower_self f.receiver)
    → Limited (each_formal skipped [] f.formals) → Limited (lower_part e) → Limited (coroutine_body kind skipped f e)
unfolding coroutine_body
limited_body kind skipped f e hs hf he = limited_then hs (λ self.
    limited_then (limited_owning (λ x. x.1.1) (limited_in_function kind skipped self f.formals e hf he)) (λ inside.
    limited_then (limited_all_handed [] inside.1.0) (λ ps. limited_pure _)))

nothing_emitted : GradingBodies silent_grading
nothing_emitted = record { coroutine_body = λ skipped f g h k. tt }

bodies_limited : GradedBodies limits_graded nothing_emitted
bodies_limited = record { coroutine_body_is = λ kind skipped f e hs hf he. limited_body kind skipped f e hs hf he }

-- what there was room for

fits_one : {n limit held limit' held' : ℕ} → Grew n limit held limit' held' → held' ≤ limit' → held + n ≤ limit
fits_one g h = omega (arith, g.more, g.same, h)

counted_one : (k a n : ℕ) → k ≡ a + n → k < 2 ^ 32 → a + n < 2 ^ 32
counted_one k a n e h = omega (arith, e, h)

pub room_was : {n : Size} {b c : Builder} → Took n b c → InLimits c → HadRoom n b c
room_was {n = n} {b = b} {c = c} t h = let f = h.0 in record {
  fits = record {
    exprs = fits_one t.exprs f.0;
    labels = fits_one t.labels f.1;
    types = fits_one t.types f.2;
    lifetimes = fits_one t.lifetimes f.3;
    pats = fits_one t.pats f.4;
    bindings = fits_one t.bindings f.5;
    names = counted_one c.names b.names n.names t.names h.1;
    params = counted_one (length c.tracks.generics.type_or_consts) (length b.tracks.generics.type_or_consts) n.params t.params h.2;
  };
  within = h;
}

pub has_room : {A : Type 0} {n : Size} {p : Lowering A} → Takes n p → Limited p → HasRoom n p
has_room {n = n} t l b c a d h is =
    let took : Took n b c = subst (λ r. Room n b r.0 r.1) is (t.takes b d) in
    let within : InLimits c = subst (λ r. LimitsTo r.0 r.1) is (l.limited b h) in
    room_was took within

pub room_is_there : RoomIsThere
room_is_there = record {
  exprs = λ e. has_room (part_takes e) (expr_part_graded limits_graded e);
  types = λ t. has_room (type_part_takes None t) (part_graded limits_graded None t);
  paths = λ p. has_room (takes_of (path_emits p)) (path_graded limits_graded p).claim;
  bodies = λ kind skipped f e. has_room (body_takes kind skipped f e) (body_graded limits_graded bodies_limited kind skipped f e);
}

-- nothing is stored yet
pub fresh_within : (limit : ℕ) → InLimits (new_builder limit)
fresh_within limit = (
  (omega (arith), omega (arith), omega (arith), omega (arith), omega (arith), omega (arith)),
  omega (arith),
  omega (arith),
)

pub fits_first : {n : Size} {limit : ℕ} → FitsBehind n (new_builder limit) → FitsIn limit n
fits_first {n = n} {limit = limit} h = record {
  exprs = let f = h.exprs in omega (arith, f);
  labels = let f = h.labels in omega (arith, f);
  pats = let f = h.pats in omega (arith, f);
  bindings = let f = h.bindings in omega (arith, f);
  types = let f = h.types in omega (arith, f);
  lifetimes = let f = h.lifetimes in omega (arith, f);
  names = let f = h.names in omega (arith, f);
  params = let f = h.params in omega (arith, f);
}
