-- What is added to a list of what is stored, as faults or entered blocks: an instance for both.
use Rattle.std.proofs.Common.{◌≡◌, ◌∙◌, refl, sym, ap, subst, ℕ, List, [], ◌∷◌, ◌++◌, append-nil}
use Rattle.std.proofs.Common.{option_to_list, Bool, Option, Some, None, Ok}
use Rattle.hir_binding.specs.declared.binding.BindingAnnotation.{BindingAnnotation}
use Rattle.hir_store.specs.Pointers.{Pointer}
use Rattle.hir_store.specs.Stored.{Stored}
use Rattle.hir_store.proofs.Extending.{extends_refl}
use Rattle.hir_store.specs.declared.diagnostics.ExpressionStoreDiagnostics.{ExpressionStoreDiagnostics}
use Rattle.hir_store.specs.declared.hir.Expr.{Expr as HirExpr}
use Rattle.hir_store.specs.declared.ids.BlockId.{BlockId}
use Rattle.hir_store.specs.declared.ids.LabelId.{LabelId}
use Rattle.hir_store.specs.declared.ids.PatId.{PatId}
use Rattle.spec_data.specs.Data.{TypeData}
use Rattle.hir_lower_scope.specs.Scopes.{Scope, block_scope, loop_scope, try_scope}
use Rattle.hir_lower_builder.specs.Builder.{Builder}
use Rattle.hir_lower_builder.specs.Forms.{ExprSteps, StoredContents}
use Rattle.hir_lower_builder.specs.Lowering.{Lowering, ◌>>=◌, alloc_desugared, close, open_try, point_pat_field, try_target}
use Rattle.hir_lower_builder.specs.Made.{made_bind_form}
use Rattle.hir_lower_builder.specs.Pats.{counted_dots, counted_place, new_binding, small_place}
use Rattle.hir_lower_builder.specs.Walks.{super_read}
use Rattle.thm_logic.specs.Keeps.{Paired}
use Rattle.thm_logic.proofs.Aside.{aside_lifetime, aside_type, counted_aside}
use Rattle.thm_logic.proofs.Barriers.{correct_yield}
use Rattle.thm_logic.proofs.Frames.{block_at, loop_at, ribs, ribs_frames}
use Rattle.thm_logic.proofs.MadeSteps.{correct_alloc_desugared, correct_opened_try, correct_try_target, made_label, put_made}
use Rattle.thm_logic.proofs.PatSteps.{correct_point_pat_field, with_field_pat}
use Rattle.thm_logic.proofs.Steps.{Correct, correct_as, correct_count_out, with_block}
use Rattle.thm_body_result.specs.Diagnostics.{Around}
use Rattle.hir_store.specs.declared.type_ref.TypeBound.{TypeBound}
use Rattle.hir_env.specs.declared.ctx.ImplTrait.{ImplTrait}
use Rattle.hir_env.specs.declared.ctx.ImplTrait.TheVariants as becomes
use Rattle.hir_lower_builder.specs.Lowering.{becoming}
use Rattle.thm_logic.specs.Grading.{grade_impl}
use Rattle.thm_logic.proofs.Tracked.{correct_aliased, correct_becoming, correct_tracked}
use Rattle.thm_body_result.proofs.AfterLowering.{after_lowering}
use Rattle.thm_body_result.proofs.Around.{block_is_rib, in_loop, loop_is_rib, try_is_rib}
use Rattle.thm_body_result.proofs.CallEmitting.{gone_emits, track_emits, emits_point_pat, emits_point_type, emitted_emits}
use Rattle.thm_body_result.proofs.ClosureEmitting.{closure_emits, coroutine_emits}
use Rattle.thm_body_result.proofs.CoroutineEmitting.{coroutine_body_emits, coroutine_closure_emits}
use Rattle.thm_body_result.proofs.DefEmitting.{define_emits, inside_emits}
use Rattle.thm_body_result.proofs.PatEmitting.{settle_emits, emits_binding, emits_define, emits_made_pat, emits_number, emits_pat}
use Rattle.thm_body_result.proofs.PatEmitting.{emits_point_target}
use Rattle.thm_body_result.proofs.Emission.{Added, Listing, Emits, added_none, added_then, constant_emits, inner_emits, nothing}
use Rattle.thm_body_result.proofs.Emission.{opened_emits}
use Rattle.thm_body_result.proofs.Emission.{owning_emits, rooted_emits, emits_alloc, emits_aside, emits_bind, emits_end, emits_enter_block}
use Rattle.thm_body_result.proofs.Emission.{emits_point, emits_point_field, emits_pure, emits_report, emits_target}
use Rattle.thm_body_result.specs.Lists.{bodies_listed, listed}
use Rattle.thm_logic.proofs.Answering.{Answering}
use Rattle.thm_body_result.proofs.GradedBodies.{GradedBodies}
use Rattle.thm_logic.proofs.CorrectWhere.{correct_where, correct_with}
use Rattle.thm_logic.proofs.Graded.{Graded}
use Rattle.thm_logic.proofs.ReadBack.{Unknown, unknown_reads}

module _ {X : Type 0} (L : Listing X) where
  pub emits_where : {A B : Type 0} {P : A → Type 0} {D E : List Scope → List X} {p : Lowering A} {f : A → Lowering B}
      → Correct p (Emits L D) → Answering P p → ((a : A) → P a → Correct (f a) (Emits L E))
      → Correct (p >>= f) (Emits L (λ ss. D ss ++ E ss))
  emits_where h t k = correct_as (correct_where h t k) (λ final ps m m' a g row. record {
    emitted = λ ss e. added_then L (row.first.emitted ss e) (row.second.emitted ss e);
  })

  -- steps that add nothing

  pub emits_made : (e : HirExpr) (at : Option Pointer) → Correct (alloc_desugared e at) (Emits L (nothing L))
  emits_made e at = correct_as (correct_alloc_desugared e at) (λ final ps m m' i g row. record {
    emitted = λ ss x. added_none L (ap L.list row.stored ∙ L.unchanged m.stored (put_made e at m.stored) refl refl refl);
  })

  place_emits : (place : Option ℕ) → Correct (counted_place place) (Emits L (nothing L))
  place_emits None = correct_count_out (Emits L (nothing L))
  place_emits (Some n) = emits_pure L (Some n)

  pub dots_emit : (comma : Bool) (place : Option ℕ) → Correct (counted_dots comma place) (Emits L (nothing L))
  dots_emit comma None = emits_pure L None
  dots_emit comma (Some n) = place_emits (small_place comma n)

  pub field_emits : (p : PatId) (at : Pointer) → Correct (point_pat_field p at) (Emits L (nothing L))
  field_emits p at = correct_as (correct_point_pat_field p at) (λ final ps m m' u g row. record {
    emitted = λ ss e. added_none L (ap L.list row.stored ∙ L.unchanged m.stored (with_field_pat p at m.stored) refl refl refl);
  })

  pub asked_emits : Correct try_target (Emits L (nothing L))
  asked_emits = correct_as correct_try_target (λ final ps m m' t g row. record {
    emitted = λ ss e. added_none L (ap (λ x. L.list x.stored) row.still);
  })

  pub made_bind_emits : (mode : BindingAnnotation) (n : ℕ) → Correct (made_bind_form mode n) (Emits L (nothing L))
  unfolding made_bind_form
  made_bind_emits mode n = emits_end L (emits_binding L _)
      (λ i. emits_end L (emits_pat L _ None) (λ p. emits_end L (emits_define L i p) (λ u. emits_pure L p)))

  -- what an `impl` becomes

  pub impls_emit : (at : Pointer) (mode : ImplTrait) (bounds : List TypeBound) (t : TypeData)
      → Correct (becoming at mode bounds) (Emits L (grade_impl (listed L.of_faults L.of_block L.of_emitted) mode t))
  impls_emit at becomes.Error bounds t = emits_aside L (aside_type _ (Some at))
  impls_emit at becomes.Opaque bounds t = emits_aside L (aside_type _ (Some at))
  impls_emit at (becomes.Argument def) bounds t =
      correct_becoming at (becomes.Argument def) bounds (λ t e. emits_aside L (aside_type t (Some at)))

  -- a `try`

  added_is : (k : Bool → List X) {b c : Bool} {x y : Stored} → b ≡ c → Added L (k b) x y → Added L (k c) x y
  added_is k {x = x} {y = y} e g = subst (λ z. Added L (k z) x y) e g

  pub try_emits : (at : Pointer) (typed : Bool) {D E : List Scope → List X} (k : Bool → List Scope → List X) (of : StoredContents → Bool)
      (b : Bool) {s : Lowering (Unit {0})} {p : Lowering StoredContents} {f : LabelId → StoredContents → ExprSteps}
      → Correct s (Emits L D) → Correct p (Emits L E) → Answering (λ r. of r ≡ b) p
      → ((n : LabelId) (r : StoredContents) → Correct (f n r) (Emits L (k (of r))))
      → Correct (open_try at typed >>= (λ n. s >>= (λ _. p >>= (λ r. close >>= (λ _. f n r)))))
      (Emits L (λ ss. (D (try_scope typed ∷ ss) ++ E (try_scope typed ∷ ss)) ++ k b ss))
  try_emits at typed k of b hs hp t more =
      correct_as (correct_opened_try at typed hs (correct_with hp t) more) (λ final ps m m' i g row. record {
        emitted = λ ss e.
            let inner = (try_is_rib typed row.number).around ss (ribs ps) e in
            let opened : Added L [] m.stored row.entered.stored =
            added_none L (ap L.list row.stored ∙ L.label (made_label at m.names) m.stored) in
            let first = row.first.first.emitted (try_scope typed ∷ ss) inner in
            let second = row.first.second.0.emitted (try_scope typed ∷ ss) inner in
            added_then L (added_then L opened (added_then L first second))
            (added_is (λ x. k x ss) row.first.second.1 (row.second.emitted ss e));
      })

  abbrev pub emits_graded : Graded (listed L.of_faults L.of_block L.of_emitted)
  emits_graded = record {
    Claim = λ D p. Correct p (Emits L D);
    Made = λ D p. Correct p (Emits L D);
    Hands = λ t D p. Correct p (Emits L D);
    MadePat = λ D p. Correct p (Emits L D);
    MadeType = λ t D p. Correct p (Emits L D);
    HandsPat = λ t D p. Correct p (Emits L D);
    made_is = λ h. h;
    pat_made_is = λ h. h;
    type_made_is = λ is h. h;
    pure_is = λ a. emits_pure L a;
    bind_is = λ h t k. emits_where h t k;
    makes_is = λ h t k. emits_where h t k;
    makes_pat_is = λ h t k. emits_where h t k;
    makes_type_is = λ h k. emits_bind L h k;
    end_is = λ h k. emits_end L h k;
    hands_pure_is = λ a t u e. emits_pure L (a, u);
    hands_as_is = λ t u e h. h;
    hands_bind_is = λ table h t k. emits_where h t k;
    beside_is = λ table h t k. emits_where h t k;
    hands_end_is = λ table h k. emits_end L h k;
    beside_end_is = λ table h k. emits_end L h k;
    hands_pat_is = λ t h. h;
    hands_makes_is = λ table h t k. emits_where h t k;
    beside_makes_is = λ table h t k. emits_where h t k;
    alone_is = λ t u e h. emits_end L h (λ i. emits_pure L (i, u));
    named_alone_is = λ b t u e h. emits_end L h (λ i. emits_end L (emits_define L b i) (λ v. emits_pure L (i, u)));
    or_is = λ at ps t p first known later more whole. whole;
    new_name_is = λ u is t with_it e. emits_end L (emits_binding L (new_binding u)) (λ b. emits_pure L (b, with_it b));
    top_is = λ h. emits_end L h (λ r. emits_end L (settle_emits L r.1) (λ u. emits_pure L r.0));
    Where = λ C D p. Correct p (Emits L D);
    Known = Unknown;
    reads = unknown_reads;
    where_type = λ h. h;
    where_any = λ h. h;
    where_less = λ is h. h;
    where_known = λ h t is k. emits_where h t k;
    where_first = λ h k. emits_bind L h k;
    where_end = λ h k. emits_end L h k;
    type_is = λ t at shape. emits_aside L (aside_type t at);
    lifetime_is = λ l at. emits_aside L (aside_lifetime l at);
    tracked_down_is = λ f k h. correct_tracked f h;
    aliased_is = λ alias h. correct_aliased alias h;
    impl_is = λ at mode bounds shape. impls_emit at mode bounds _;
    pat_is = λ p at. emits_pat L p at;
    made_pat_is = λ p at. emits_made_pat L p at;
    expr_is = λ e at. emits_alloc L e at;
    made_expr_is = λ e at. emits_made e at;
    point_is = λ at h. emits_end L h (λ i. emits_end L (emits_point L at i) (λ u. emits_pure L i));
    point_field_is = λ i at. emits_point_field L i at;
    binding_is = λ u is. emits_binding L (new_binding u);
    define_is = λ b p. emits_define L b p;
    field_is = λ p at. field_emits p at;
    fault_is = λ d. emits_report L d;
    tracked_is = λ c. track_emits L c;
    emitted_is = λ c. emitted_emits L c;
    gone_is = λ why. gone_emits L why;
    type_call_is = λ at t h. emits_bind L h (λ i. emits_end L (emits_point_type L at i) (λ u. emits_pure L i));
    pat_call_is = λ at h. emits_bind L h (λ i. emits_end L (emits_point_pat L at i) (λ u. emits_pure L i));
    target_mapping_is = λ at h. emits_bind L h (λ i. emits_end L (emits_point_target L at i) (λ u. emits_pure L i));
    hands_call_is = λ at t h. emits_bind L h (λ r. emits_end L (emits_point_pat L at r.0) (λ u. emits_pure L r));
    super_is = λ w. emits_aside L (counted_aside (super_read w));
    dots_is = λ comma place. dots_emit comma place;
    def_is = λ k d. define_emits L k d;
    block_is = λ n. emits_enter_block L n;
    jump_is = λ j. emits_target L j;
    yield_is = λ at e h. correct_yield at e h;
    asked_is = λ k. emits_bind L asked_emits k;
    named_is = λ mode k. emits_bind L (emits_number L) (λ n. emits_bind L (made_bind_emits mode n) (λ q. k n q));
    made_named_is = λ mode k. emits_bind L (emits_number L) (λ n. emits_bind L (made_bind_emits mode n) (λ q. k n q));
    named_past_is = λ mode h k. emits_bind L (emits_number L) (λ n. emits_bind L h (λ a. emits_bind L (made_bind_emits mode n) (k n a)));
    bare_is = λ h k. emits_end L (correct_as h (λ final ps m m' a g row. record {
      emitted = λ ss e. row.emitted (loop_scope None ∷ ss) (in_loop ss (ribs ps) e);
    })) k;
    loop_is = λ l is p h k. opened_emits L loop_at l (loop_scope (Some l)) (λ n ps. refl) (λ n. loop_is_rib l n) (λ n. h) k;
    labelled_is = λ l is k.
        opened_emits L block_at l (block_scope l) (λ n ps. refl) (λ n. block_is_rib l n) k (λ n i. emits_pure L i);
    defined_is = λ d h. inside_emits L d h;
    try_is = λ at typed k of b hs hp t more. try_emits at typed k of b hs hp t more;
    inner_is = λ l h. inner_emits L h;
    constant_is = λ e h. constant_emits L h;
    rooted_is = λ e h. rooted_emits L h;
    closure_is = λ at moves is_static hp ht he. closure_emits L at moves is_static hp ht he;
    coroutine_closure_is = λ at kind moves xs t e hp ht he. coroutine_closure_emits L at kind moves hp ht he;
    coroutine_is = λ at kind moves number h. coroutine_emits L at kind moves number h;
    owning_is = λ h. owning_emits L (λ i. i) h;
  }

  abbrev pub emits_bodies : GradedBodies emits_graded (bodies_listed L.of_faults L.of_block L.of_emitted)
  emits_bodies = record {
    coroutine_body_is = λ kind skipped f e hs hf he. coroutine_body_emits L kind skipped f e hs hf he;
  }

  -- what the list is behind what was told, where it is told as it is added
  pub behind : {A : Type 0} {D : List Scope → List X} {p : Lowering A} → ((xs ys : List X) → L.Like xs ys → xs ≡ ys) → Correct p (Emits L D)
      → (old new : Builder) (a : A) → Paired old.stored → p old ≡ (Ok a, new) → (ss : List Scope) → Around ss old.scopes
      → L.list new.stored ≡ L.list old.stored ++ D ss
  behind {D = D} like h old new a paired is ss around =
      let row = after_lowering h old a new paired is new.stored (extends_refl new.stored) in
      let x = row.emitted ss (subst (Around ss) (ribs_frames old.scopes) around) in
      x.is ∙ ap (λ xs. L.list old.stored ++ xs) (sym (like (D ss) x.more x.like))

-- the two lists

-- the numbers of entered blocks, in this order
pub entered_block : (n : Option BlockId) (s : Stored) → (with_block n s).block_scopes ≡ s.block_scopes ++ option_to_list n
entered_block None s = sym (append-nil s.block_scopes)
entered_block (Some n) s = refl

abbrev pub entered : Listing BlockId
entered = record {
  list = λ s. s.block_scopes;
  of_faults = λ ds. [];
  of_block = λ n. option_to_list n;
  of_emitted = λ es ds. [];
  fault = λ d s. sym (append-nil s.block_scopes);
  no_fault = refl;
  block = entered_block;
  emits = λ es ds s. sym (append-nil s.block_scopes);
  emitted_nothing = refl;
  expr = λ e at s. refl;
  label = λ l s. refl;
  mapping = λ p i s. refl;
  unchanged = λ a b faults blocks expansions. blocks;
  Like = λ xs ys. xs ≡ ys;
  same = λ xs. refl;
  trans = λ xs ys zs e f. e ∙ f;
  both = λ xs ys us vs e f. λ i. e i ++ f i;
}

pub no_fault_in_block : (n : Option BlockId) (s : Stored) → (with_block n s).diagnostics ≡ s.diagnostics ++ []
no_fault_in_block None s = sym (append-nil s.diagnostics)
no_fault_in_block (Some n) s = sym (append-nil s.diagnostics)

-- the faults, in this order
abbrev pub fault_listing : Listing ExpressionStoreDiagnostics
fault_listing = record {
  list = λ s. s.diagnostics;
  of_faults = λ ds. ds;
  of_block = λ n. [];
  of_emitted = λ es ds. ds;
  fault = λ d s. refl;
  no_fault = refl;
  block = no_fault_in_block;
  emits = λ es ds s. refl;
  emitted_nothing = refl;
  expr = λ e at s. refl;
  label = λ l s. refl;
  mapping = λ p i s. refl;
  unchanged = λ a b faults blocks expansions. faults;
  Like = λ xs ys. xs ≡ ys;
  same = λ xs. refl;
  trans = λ xs ys zs e f. e ∙ f;
  both = λ xs ys us vs e f. λ i. e i ++ f i;
}
