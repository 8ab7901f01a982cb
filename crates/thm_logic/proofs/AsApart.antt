-- Made names stay apart: an instance.
use Rattle.std.proofs.Common.{refl, ℕ, suc, Bool, List, [], ◌∷◌, Option, Some, None}
use Rattle.hir_store.specs.Pointers.{Pointer}
use Rattle.hir_store.specs.declared.hir.CoroutineKind.{CoroutineKind}
use Rattle.hir_store.specs.declared.ids.BindingId.{BindingId}
use Rattle.hir_store.specs.declared.ids.BlockId.{BlockId}
use Rattle.hir_store.specs.declared.type_ref.TypeBound.{TypeBound}
use Rattle.hir_env.specs.declared.ctx.ImplTrait.{ImplTrait}
use Rattle.hir_env.specs.ResolvedTree as tree
use Rattle.hir_lower_builder.specs.declared.walk.Reading.{Reading}
use Rattle.hir_lower_builder.specs.Forms.{StoredContents, coroutine_around_form, coroutine_block_form}
use Rattle.hir_lower_builder.specs.Lowering.{Lowering, ◌>>=◌, becoming, pure}
use Rattle.hir_lower_builder.specs.Paths.{or_count_out}
use Rattle.hir_lower_builder.specs.Pats as forms
use Rattle.hir_lower_builder.specs.Pats.{Key, SideOutput, Table, new_binding}
use Rattle.hir_lower_builder.specs.Walks.{super_read}
use Rattle.thm_logic.proofs.Calls.{apart_only, only_gone, only_track, only_emitted, point_pat_apart, point_target_apart, point_type_apart}
use Rattle.thm_logic.proofs.Apart.{Apart, apart_trans, binding_apart, closure_apart, constant_apart, coroutine_apart}
use Rattle.thm_logic.proofs.Apart.{define_apart}
use Rattle.thm_logic.proofs.Apart.{enter_block_apart, expr_apart, inner_apart, jump_apart, made_apart, named_apart, opened_apart}
use Rattle.thm_logic.proofs.Apart.{opened_try_apart, owning_apart, point_apart, point_field_apart, point_pat_field_apart, pure_apart}
use Rattle.thm_logic.proofs.Apart.{report_apart, stored_lifetime_apart, stored_pat_apart, stored_type_apart, then_apart}
use Rattle.thm_logic.proofs.Apart.{set_problem_apart, try_target_apart}
use Rattle.thm_logic.proofs.ApartPreludes.{coroutine_closure_apart}
use Rattle.thm_logic.proofs.Barriers.{correct_yield}
use Rattle.thm_logic.proofs.Definitions as definitions
use Rattle.thm_logic.proofs.Frames.{block_at, loop_at}
use Rattle.thm_logic.proofs.Tracked.{correct_aliased, correct_becoming, correct_tracked}
use Rattle.thm_logic.proofs.Steps.{Correct, correct_as, correct_count_out}
use Rattle.thm_logic.proofs.TargetSteps.{made_pat_apart}
use Rattle.thm_logic.specs.Silent.{silent_grading}
use Rattle.thm_logic.proofs.Answering.{Answering}
use Rattle.thm_logic.proofs.CorrectWhere.{correct_where}
use Rattle.thm_logic.proofs.Graded.{Graded}
use Rattle.thm_logic.proofs.ReadBack.{Unknown, unknown_reads}

pub apart_where : {A B : Type 0} {P : A → Type 0} {p : Lowering A} {f : A → Lowering B} → Correct p Apart → Answering P p
    → ((a : A) → P a → Correct (f a) Apart) → Correct (p >>= f) Apart
apart_where h t k = correct_as (correct_where h t k) (λ final ps m m' b g row. apart_trans row.first row.second)

pub impl_apart : (at : Pointer) (mode : ImplTrait) (bounds : List TypeBound) → Correct (becoming at mode bounds) Apart
impl_apart at mode bounds = correct_becoming at mode bounds (λ t e. stored_type_apart t (Some at))

-- what is counted

pub counted_apart : (r : Option Reading) → Correct (or_count_out r) Apart
counted_apart (Some r) = pure_apart r
counted_apart None = correct_count_out Apart

place_apart : (place : Option ℕ) → Correct (forms.counted_place place) Apart
place_apart None = correct_count_out Apart
place_apart (Some n) = pure_apart (Some n)

pub dots_apart : (comma : Bool) (place : Option ℕ) → Correct (forms.counted_dots comma place) Apart
dots_apart comma None = pure_apart None
dots_apart comma (Some n) = place_apart (forms.small_place comma n)

-- the names of a top pattern

settle_from_apart : (tracks : SideOutput) (number : ℕ) (es : List (Key × BindingId)) → Correct (forms.settle_from tracks number es) Apart
settle_from_apart tracks number [] = pure_apart tt
settle_from_apart tracks number (e ∷ es) = then_apart (set_problem_apart _ _) (λ u. settle_from_apart tracks (suc number) es)

pub settle_apart : (t : Table) → Correct (forms.settle t) Apart
unfolding forms.settle
settle_apart t = settle_from_apart t.tracked 0 t.bindings

pub coroutine_block_apart : (at : Pointer) (kind : CoroutineKind) (moves : Bool) (number : Option BlockId) {c : Lowering StoredContents}
    → Correct c Apart → Correct (coroutine_block_form at kind moves number c) Apart
unfolding coroutine_block_form coroutine_around_form
coroutine_block_apart at kind moves number h = then_apart (enter_block_apart number)
    (λ u. then_apart h (λ r. then_apart (expr_apart _ None) (λ b. expr_apart _ (Some at))))

abbrev pub apart_graded : Graded silent_grading
apart_graded = record {
  Claim = λ g p. Correct p Apart;
  Made = λ g p. Correct p Apart;
  Hands = λ t g p. Correct p Apart;
  MadePat = λ g p. Correct p Apart;
  MadeType = λ t g p. Correct p Apart;
  HandsPat = λ t g p. Correct p Apart;
  made_is = λ h. h;
  pat_made_is = λ h. h;
  type_made_is = λ is h. h;
  pure_is = λ a. pure_apart a;
  bind_is = λ h t k. apart_where h t k;
  makes_is = λ h t k. apart_where h t k;
  makes_pat_is = λ h t k. apart_where h t k;
  makes_type_is = λ h k. then_apart h k;
  end_is = λ h k. then_apart h k;
  hands_pure_is = λ a t u e. pure_apart (a, u);
  hands_as_is = λ t u e h. h;
  hands_bind_is = λ table h t k. apart_where h t k;
  beside_is = λ table h t k. apart_where h t k;
  hands_end_is = λ table h k. then_apart h k;
  beside_end_is = λ table h k. then_apart h k;
  hands_pat_is = λ t h. h;
  hands_makes_is = λ table h t k. apart_where h t k;
  beside_makes_is = λ table h t k. apart_where h t k;
  alone_is = λ t u e h. then_apart h (λ i. pure_apart (i, u));
  named_alone_is = λ b t u e h. then_apart h (λ i. then_apart (define_apart b i) (λ v. pure_apart (i, u)));
  or_is = λ at ps t p first known later more whole. whole;
  new_name_is = λ u is t with_it e. then_apart (binding_apart (new_binding u) is) (λ b. pure_apart (b, with_it b));
  top_is = λ h. then_apart h (λ r. then_apart (settle_apart r.1) (λ u. pure_apart r.0));
  Where = λ C g p. Correct p Apart;
  Known = Unknown;
  reads = unknown_reads;
  where_type = λ h. h;
  where_any = λ h. h;
  where_less = λ is h. h;
  where_known = λ h t is k. apart_where h t k;
  where_first = λ h k. then_apart h k;
  where_end = λ h k. then_apart h k;
  type_is = λ t at shape. stored_type_apart t at;
  lifetime_is = λ l at. stored_lifetime_apart l at;
  tracked_down_is = λ f k h. correct_tracked f h;
  aliased_is = λ alias h. correct_aliased alias h;
  impl_is = λ at mode bounds shape. impl_apart at mode bounds;
  pat_is = λ p at. stored_pat_apart p at;
  made_pat_is = λ p at. made_pat_apart p at;
  expr_is = λ e at. expr_apart e at;
  made_expr_is = λ e at. made_apart e at;
  point_is = λ at h. then_apart h (λ i. then_apart (point_apart at i) (λ u. pure_apart i));
  point_field_is = λ i at. point_field_apart i at;
  binding_is = λ u is. binding_apart (new_binding u) is;
  define_is = λ b p. define_apart b p;
  field_is = λ p at. point_pat_field_apart p at;
  fault_is = λ d. report_apart d;
  tracked_is = λ c. apart_only (only_track c);
  emitted_is = λ c. apart_only (only_emitted c);
  gone_is = λ why. apart_only (only_gone why);
  type_call_is = λ at t h. then_apart h (λ i. then_apart (point_type_apart at i) (λ u. pure_apart i));
  pat_call_is = λ at h. then_apart h (λ i. then_apart (point_pat_apart at i) (λ u. pure_apart i));
  target_mapping_is = λ at h. then_apart h (λ i. then_apart (point_target_apart at i) (λ u. pure_apart i));
  hands_call_is = λ at t h. then_apart h (λ r. then_apart (point_pat_apart at r.0) (λ u. pure_apart r));
  super_is = λ w. counted_apart (super_read w);
  dots_is = λ comma place. dots_apart comma place;
  def_is = λ k d. definitions.define_apart k d;
  block_is = λ n. enter_block_apart n;
  jump_is = λ j. jump_apart j;
  yield_is = λ at e h. correct_yield at e h;
  asked_is = λ k. then_apart try_target_apart k;
  named_is = λ mode k. named_apart mode {p = pure (tt {0})} (pure_apart (tt {0})) (λ n u q. k n q);
  made_named_is = λ mode k. named_apart mode {p = pure (tt {0})} (pure_apart (tt {0})) (λ n u q. k n q);
  named_past_is = λ mode h k. named_apart mode h k;
  bare_is = λ h k. then_apart h k;
  loop_is = λ l is p h k. opened_apart loop_at l is (λ n ps. refl) (λ n. h) k;
  labelled_is = λ l is k. opened_apart block_at l is (λ n ps. refl) k (λ n i. pure_apart i);
  defined_is = λ d h. definitions.behind_apart (tree.macro_stmt 0 (Some d)) h;
  try_is = λ at typed k of b hs hp t f. opened_try_apart at typed hs hp f;
  inner_is = λ l h. inner_apart h;
  constant_is = λ e h. owning_apart (λ c. c.expr) (constant_apart h);
  rooted_is = λ e h. constant_apart h;
  closure_is = λ at moves is_static hp ht he. owning_apart (λ i. i) (closure_apart at moves is_static hp ht he);
  coroutine_closure_is = λ at kind moves xs t e hp ht he. owning_apart (λ i. i) (coroutine_closure_apart at kind moves hp ht he);
  coroutine_is = λ at kind moves number h. owning_apart (λ i. i) (coroutine_apart (coroutine_block_apart at kind moves number h));
  owning_is = λ h. owning_apart (λ i. i) h;
}
