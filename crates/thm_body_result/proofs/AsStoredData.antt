-- What is stored of types and lifetimes reads back as is told, in each later store: an instance.
use Rattle.std.proofs.Common.{◌≡◌, ◌∙◌, refl, ap, subst, Some, None, Ok, List}
use Rattle.hir_store.specs.Pointers.{Pointer}
use Rattle.hir_store.specs.Stored.{store_of}
use Rattle.hir_store.specs.StoreSink.{record_root, root_at}
use Rattle.hir_store.proofs.Extending.{extends_refl, extends_root}
use Rattle.hir_store.specs.declared.type_ref.TypeBound.{TypeBound}
use Rattle.hir_env.specs.declared.ctx.ImplTrait.{ImplTrait}
use Rattle.hir_env.specs.declared.ctx.ImplTrait.TheVariants as becomes
use Rattle.hir_lower_builder.specs.Builder.{Builder, new_builder}
use Rattle.hir_lower_builder.specs.Lowering.{Lowering, ◌>>=◌, becoming, point_type, pure}
use Rattle.hir_lower_builder.specs.Pats.{new_binding}
use Rattle.hir_lower_builder.specs.Types.{TypeSteps}
use Rattle.hir_lower_builder.specs.Walks.{super_read}
use Rattle.spec_data.specs.Data as datum
use Rattle.spec_data.specs.Data.{Shape, TypeData}
use Rattle.thm_logic.specs.Keeps.{Paired}
use Rattle.thm_logic.proofs.Barriers.{correct_yield}
use Rattle.thm_logic.proofs.Calls.{correct_only, correct_point_pat, correct_point_target, correct_point_type}
use Rattle.thm_logic.proofs.Calls.{only_gone, only_track, only_emitted}
use Rattle.thm_logic.proofs.Definitions as definitions
use Rattle.thm_logic.proofs.Frames.{block_at, loop_at}
use Rattle.thm_logic.proofs.MadeSteps.{correct_alloc_desugared, correct_try_target}
use Rattle.thm_logic.proofs.Tracked.{correct_aliased, correct_becoming, correct_tracked}
use Rattle.thm_logic.proofs.PatSteps.{correct_alloc_desugared_pat, correct_point_pat_field}
use Rattle.thm_logic.proofs.Steps.{Correct, correct_as, correct_bind, correct_both, correct_point, correct_point_field}
use Rattle.thm_logic.proofs.Steps.{correct_pure, correct_report}
use Rattle.thm_body_result.specs.OneResult.{fresh_owing, in_root_of, with_root}
use Rattle.thm_body_result.proofs.AfterLowering.{after_lowering}
use Rattle.thm_logic.specs.Grading.{grade_impl}
use Rattle.thm_body_result.specs.StoredData.{DataAdded, StoredData, and_then, bodies_stored, no_data, stored_data}
use Rattle.thm_body_result.specs.StoredTheorems.{BodiesStore, ExprsStore, PathsStore, PatsStore, TypesStore, WholeBodiesStore}
use Rattle.thm_body_result.specs.StoredTheorems.{WholeTypesStore}
use Rattle.thm_body_result.proofs.GradedBodies.{GradedBodies, body_graded}
use Rattle.thm_logic.proofs.CorrectWhere.{correct_where}
use Rattle.thm_logic.proofs.Graded.{Graded}
use Rattle.thm_logic.proofs.ReadBack.{TypeIs}
use Rattle.thm_body_result.proofs.ReadingBack.{Surely, read_back}
use Rattle.thm_body_result.proofs.StoreSink.{More, Stores, binding_stores, block_stores, closure_stores, coroutine_stores, data_of}
use Rattle.thm_body_result.proofs.StoreSink.{define_stores}
use Rattle.thm_body_result.proofs.StoreSink.{dots_stored, expr_stores, inner_stores, jump_stores, lifetime_stores, made_bind_stores}
use Rattle.thm_body_result.proofs.StoreSink.{more_last}
use Rattle.thm_body_result.proofs.StoreSink.{more_none, more_then, opened_stores, owning_stores, pat_stores, pure_stores}
use Rattle.thm_body_result.proofs.StoreSink.{rooted_stores, settle_stores}
use Rattle.thm_body_result.proofs.StoreSink.{still, stores_begin, stores_end, stores_opened, stores_then, stores_where, super_stored}
use Rattle.thm_body_result.proofs.StoreSink.{try_stores}
use Rattle.thm_body_result.proofs.StoreSink.{type_stores}
use Rattle.thm_body_result.proofs.StoringPreludes.{coroutine_body_stores, coroutine_closure_stores, number_stores}
use Rattle.thm_logic.proofs.GradedTree.{expr_part_graded, part_graded, path_graded, top_graded}

pub impls : (at : Pointer) (mode : ImplTrait) (bounds : List TypeBound) (shape : Shape) → let t = datum.typed (Some at) shape in
    Correct (becoming at mode bounds) (λ final ps m m' i.
    TypeIs t final m i → More (grade_impl stored_data mode t) final m.stored m'.stored)
impls at becomes.Error bounds shape = type_stores _ (Some at) shape
impls at becomes.Opaque bounds shape = type_stores _ (Some at) shape
impls at (becomes.Argument def) bounds shape =
    correct_becoming at (becomes.Argument def) bounds (λ t e. type_stores t (Some at) shape)

-- the node of a call leads to a type, which reads back as before
pub pointed_type : (at : Pointer) {t : TypeData} {d : StoredData} {p : TypeSteps}
    → Correct p (λ final ps m m' i. TypeIs t final m i → More d final m.stored m'.stored)
    → Correct (p >>= (λ i. point_type at i >>= (λ u. pure i)))
    (λ final ps m m' i. TypeIs t final m i → More (and_then d no_data) final m.stored m'.stored)
pointed_type at {t = t} h = correct_as
    (correct_bind h (λ i. correct_bind (correct_point_type at i) (λ u. correct_pure i)))
    (λ final ps m m' i g row. λ is. let same = row.second.second.is in
    more_then (row.first (subst (λ j. TypeIs t final m j) same is))
    (more_none (ap (λ k. data_of k.stored) row.second.second.still ∙ ap data_of row.second.first.stored)))

abbrev pub data_graded : Graded stored_data
data_graded = record {
  Claim = λ d p. Correct p (Stores d);
  Made = λ d p. Correct p (Stores d);
  Hands = λ t d p. Correct p (Stores d);
  MadePat = λ d p. Correct p (Stores d);
  MadeType = λ t d p. Correct p (λ final ps m m' i. TypeIs t final m i → More d final m.stored m'.stored);
  HandsPat = λ t d p. Correct p (Stores d);
  Where = λ C d p. Correct p (λ final ps m m' a. C final m a → More d final m.stored m'.stored);
  made_is = λ h. h;
  pat_made_is = λ h. h;
  type_made_is = λ is h. correct_as (correct_both is h) (λ final ps m m' a g row. row.other row.one);
  pure_is = λ a. pure_stores a;
  bind_is = λ h t k. stores_where h t k;
  makes_is = λ h t k. stores_where h t k;
  makes_pat_is = λ h t k. stores_where h t k;
  makes_type_is = λ h k. correct_as (correct_bind h k) (λ final ps m m' b g row. λ c. more_then row.first (row.second c));
  end_is = λ h k. stores_end h k;
  Known = Surely;
  reads = read_back;
  where_type = λ h. h;
  where_any = λ h. correct_as h (λ final ps m m' a g row. λ c. row);
  where_less = λ is h. correct_as (correct_both is h) (λ final ps m m' a g row. λ d. row.other (row.one d));
  where_known = λ h t is k. correct_as (correct_where (correct_both is h) t k)
      (λ final ps m m' b g row. more_then row.first.other (row.second row.first.one));
  where_first = λ h k. correct_as (correct_bind h k) (λ final ps m m' b g row. λ c. more_then (row.first c) row.second);
  where_end = λ h k. correct_as (correct_bind h k) (λ final ps m m' b g row. λ c. more_last (row.first c) row.second);
  hands_pure_is = λ a t u e. pure_stores (a, u);
  hands_as_is = λ t u e h. h;
  hands_bind_is = λ table h t k. stores_where h t k;
  beside_is = λ table h t k. stores_where h t k;
  hands_end_is = λ table h k. stores_end h k;
  beside_end_is = λ table h k. stores_end h k;
  hands_pat_is = λ t h. h;
  hands_makes_is = λ table h t k. stores_where h t k;
  beside_makes_is = λ table h t k. stores_where h t k;
  alone_is = λ t u e h. stores_end h (λ i. pure_stores (i, u));
  named_alone_is = λ b t u e h. stores_end h (λ i. stores_end (define_stores b i) (λ v. pure_stores (i, u)));
  or_is = λ at ps t p first known later more whole. whole;
  new_name_is = λ u is t with_it e. stores_end (binding_stores (new_binding u)) (λ b. pure_stores (b, with_it b));
  top_is = λ h. stores_end h (λ r. stores_end (settle_stores r.1) (λ u. pure_stores r.0));
  type_is = λ t at shape. type_stores t at shape;
  lifetime_is = λ l at. lifetime_stores l at;
  tracked_down_is = λ f k h. correct_tracked f h;
  aliased_is = λ alias h. correct_aliased alias h;
  impl_is = λ at mode bounds shape. impls at mode bounds shape;
  pat_is = λ p at. pat_stores p at;
  made_pat_is = λ p at. still (correct_alloc_desugared_pat p at) (λ final ps m m' i row. ap data_of row.stored);
  expr_is = λ e at. expr_stores e at;
  made_expr_is = λ e at. still (correct_alloc_desugared e at) (λ final ps m m' i row. ap data_of row.stored);
  point_is = λ at h. stores_end h (λ i.
      stores_end (still (correct_point at i) (λ final ps m m' u row. ap data_of row.stored)) (λ u. pure_stores i));
  point_field_is = λ i at. still (correct_point_field i at) (λ final ps m m' u row. ap data_of row.stored);
  binding_is = λ u is. binding_stores (new_binding u);
  define_is = λ b p. define_stores b p;
  field_is = λ p at. still (correct_point_pat_field p at) (λ final ps m m' u row. ap data_of row.stored);
  fault_is = λ d. still (correct_report d) (λ final ps m m' u row. ap data_of row.stored);
  tracked_is = λ c. still (correct_only (only_track c)) (λ final ps m m' u row. ap data_of row.stored);
  emitted_is = λ c. still (correct_only (only_emitted c)) (λ final ps m m' u row. ap data_of row.stored);
  gone_is = λ why. still (correct_only (only_gone why)) (λ final ps m m' u row. ap data_of row.stored);
  type_call_is = λ at t h. pointed_type at h;
  pat_call_is = λ at h. stores_then h (λ i.
      stores_end (still (correct_point_pat at i) (λ final ps m m' u row. ap data_of row.stored)) (λ u. pure_stores i));
  target_mapping_is = λ at h. stores_then h (λ i.
      stores_end (still (correct_point_target at i) (λ final ps m m' u row. ap data_of row.stored)) (λ u. pure_stores i));
  hands_call_is = λ at t h. stores_then h (λ r.
      stores_end (still (correct_point_pat at r.0) (λ final ps m m' u row. ap data_of row.stored)) (λ u. pure_stores r));
  super_is = λ w. super_stored (super_read w);
  dots_is = λ comma place. dots_stored comma place;
  def_is = λ k d. still (definitions.correct_define k d) (λ final ps m m' o row. ap (λ x. data_of x.stored) row.still);
  block_is = λ n. block_stores n;
  jump_is = λ j. jump_stores j;
  yield_is = λ at e h. correct_yield at e h;
  asked_is = λ k. stores_begin (still correct_try_target (λ final ps m m' t row. ap (λ x. data_of x.stored) row.still)) k;
  named_is = λ mode k. stores_then number_stores (λ n. stores_then (made_bind_stores mode n) (λ q. k n q));
  made_named_is = λ mode k. stores_then number_stores (λ n. stores_then (made_bind_stores mode n) (λ q. k n q));
  named_past_is = λ mode h k. stores_then number_stores (λ n. stores_then h (λ a. stores_then (made_bind_stores mode n) (k n a)));
  bare_is = λ h k. stores_end h k;
  loop_is = λ l is p h k. stores_opened (opened_stores loop_at l (λ n ps. refl) (λ n. h) k);
  labelled_is = λ l is k. stores_opened (opened_stores block_at l (λ n ps. refl) k (λ n i. pure_stores i));
  defined_is = λ d h. correct_as (definitions.correct_inside_macro d h) (λ final ps m m' x g row. row);
  try_is = λ at typed k of b hs hp t more. try_stores at typed k of b hs hp t more;
  inner_is = λ l h. inner_stores h;
  constant_is = λ e h. owning_stores (λ c. c.expr) (rooted_stores h);
  rooted_is = λ e h. rooted_stores h;
  closure_is = λ at moves is_static hp ht he. closure_stores at moves is_static hp ht he;
  coroutine_closure_is = λ at kind moves xs t e hp ht he. coroutine_closure_stores kind at moves hp ht he;
  coroutine_is = λ at kind moves number h. coroutine_stores at kind moves number h;
  owning_is = λ h. owning_stores (λ i. i) h;
}

abbrev pub data_bodies : GradedBodies data_graded bodies_stored
data_bodies = record {
  coroutine_body_is = λ kind skipped f e hs hf he. coroutine_body_stores kind skipped f e hs hf he;
}

-- theorems

-- where the steps answer
pub added : {A : Type 0} {d : StoredData} {p : Lowering A} → Correct p (Stores d) → (old new : Builder) (a : A) → Paired old.stored
    → p old ≡ (Ok a, new) → DataAdded d old.stored new.stored
added h old new a paired is = record {
  types = λ later more. (after_lowering h old a new paired is later more).types;
  lifetimes = λ later more. (after_lowering h old a new paired is later more).lifetimes;
}

pub exprs_store : ExprsStore
exprs_store e old id new paired is = added (expr_part_graded data_graded e) old new id paired is

pub types_store : TypesStore
types_store binder t old new i paired is = added (part_graded data_graded binder t) old new i paired is

pub paths_store : PathsStore
paths_store p old new r paired is = added (path_graded data_graded p).claim old new r paired is

pub pats_store : PatsStore
pats_store p old new i paired is = added (top_graded data_graded p) old new i paired is

pub bodies_store : BodiesStore
bodies_store kind skipped f e old new r paired is =
    added (body_graded data_graded data_bodies kind skipped f e) old new r paired is

pub whole_types_store : WholeTypesStore
whole_types_store limit t i new is =
    let none : Paired (new_builder limit).stored = record { exprs = refl; labels = refl; pats = refl; types = refl; lifetimes = refl } in
    let d = types_store None t (new_builder limit) new i none is in
    let same = extends_refl new.stored in record { types = d.types new.stored same; lifetimes = d.lifetimes new.stored same }

pub whole_bodies_store : WholeBodiesStore
unfolding record_root
whole_bodies_store limit owed kind skipped f e given id new is =
    let old = in_root_of (fresh_owing limit owed) in
    let none : Paired old.stored = record { exprs = refl; labels = refl; pats = refl; types = refl; lifetimes = refl } in
    let d = bodies_store kind skipped f e old new (given, id) none is in
    let final = with_root id new.stored in
    let stays = extends_root new.stored (root_at (store_of new.stored) id) in
    record { types = d.types final stays; lifetimes = d.lifetimes final stays }
