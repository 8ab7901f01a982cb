-- Which macro calls are entered: an instance, by that of lists, of which these are alike in all scopes.
use Rattle.std.proofs.Common.{◌≡◌, ◌∙◌, refl, sym, [], ◌++◌, append-nil, Option, Some, None, Ok, List}
use Rattle.hir_store.specs.Stored.{Stored}
use Rattle.hir_store.specs.declared.expansions.ExpandedCall.{ExpandedCall}
use Rattle.hir_store.specs.declared.ids.BlockId.{BlockId}
use Rattle.hir_store.specs.Pointers.{Pointer}
use Rattle.hir_store.specs.declared.type_ref.TypeBound.{TypeBound}
use Rattle.hir_env.specs.declared.ctx.ImplTrait.{ImplTrait}
use Rattle.hir_env.specs.declared.ctx.ImplTrait.TheVariants as becomes
use Rattle.hir_lower_builder.specs.Lowering.{becoming}
use Rattle.thm_logic.specs.Grading.{grade_impl}
use Rattle.hir_lower_builder.specs.Builder.{Builder}
use Rattle.hir_lower_builder.specs.Lowering.{Lowering}
use Rattle.spec_data.specs.Data as datum
use Rattle.spec_data.specs.Data.{Shape}
use Rattle.thm_logic.specs.Calls.{Expansions}
use Rattle.thm_logic.specs.Keeps.{Paired}
use Rattle.thm_logic.proofs.Steps.{Correct, with_block}
use Rattle.thm_body_result.proofs.Around.{scopes_around}
use Rattle.thm_body_result.proofs.CoroutineEmitting.{coroutine_body_emits}
use Rattle.thm_body_result.proofs.Emission.{Listing, Emits, emits_bind}
use Rattle.thm_body_result.specs.Expanded.{bodies_expanded, expansions}
use Rattle.thm_body_result.specs.EmittedTheorems.{BodiesExpand, ExprsExpand, PathsExpand, TypesExpand}
use Rattle.thm_body_result.proofs.AsEmitting.{behind, emits_graded}
use Rattle.thm_body_result.proofs.GradedBodies.{GradedBodies, body_graded}
use Rattle.thm_logic.proofs.Graded.{Graded}
use Rattle.thm_logic.proofs.ReadBack.{Unknown, unknown_reads}
use Rattle.thm_logic.proofs.GradedTree.{expr_part_graded, part_graded, path_graded}

pub none_in_block : (n : Option BlockId) (s : Stored) → (with_block n s).expansions ≡ s.expansions ++ []
none_in_block None s = sym (append-nil s.expansions)
none_in_block (Some n) s = sym (append-nil s.expansions)

-- in this order
abbrev expanded : Listing ExpandedCall
expanded = record {
  list = λ s. s.expansions;
  of_faults = λ ds. [];
  of_block = λ n. [];
  of_emitted = λ es ds. es;
  fault = λ d s. sym (append-nil s.expansions);
  no_fault = refl;
  block = none_in_block;
  emits = λ es ds s. refl;
  emitted_nothing = refl;
  expr = λ e at s. refl;
  label = λ l s. refl;
  mapping = λ p i s. refl;
  unchanged = λ a b faults blocks expansions. expansions;
  Like = λ xs ys. xs ≡ ys;
  same = λ xs. refl;
  trans = λ xs ys zs e f. e ∙ f;
  both = λ xs ys us vs e f. λ i. e i ++ f i;
}

pub impls : (at : Pointer) (mode : ImplTrait) (bounds : List TypeBound) (shape : Shape)
    → Correct (becoming at mode bounds) (Emits expanded (λ ss. grade_impl expansions mode (datum.typed (Some at) shape)))
impls at becomes.Error bounds shape = (emits_graded expanded).impl_is at becomes.Error bounds shape
impls at becomes.Opaque bounds shape = (emits_graded expanded).impl_is at becomes.Opaque bounds shape
impls at (becomes.Argument def) bounds shape = (emits_graded expanded).impl_is at (becomes.Argument def) bounds shape

abbrev pub expansions_graded : Graded expansions
expansions_graded = let all = emits_graded expanded in record {
  Claim = λ es p. Correct p (Emits expanded (λ ss. es));
  Made = λ es p. Correct p (Emits expanded (λ ss. es));
  Hands = λ t es p. Correct p (Emits expanded (λ ss. es));
  MadePat = λ es p. Correct p (Emits expanded (λ ss. es));
  MadeType = λ t es p. Correct p (Emits expanded (λ ss. es));
  HandsPat = λ t es p. Correct p (Emits expanded (λ ss. es));
  made_is = λ h. h;
  pat_made_is = λ h. h;
  type_made_is = λ is h. h;
  pure_is = λ a. all.pure_is a;
  bind_is = λ h t k. all.bind_is h t k;
  makes_is = λ h t k. all.makes_is h t k;
  makes_pat_is = λ h t k. all.makes_pat_is h t k;
  makes_type_is = λ h k. emits_bind expanded h k;
  end_is = λ h k. all.end_is h k;
  hands_pure_is = λ a t u e. all.hands_pure_is a t u e;
  hands_as_is = λ t u e h. h;
  hands_bind_is = λ table h t k. all.hands_bind_is table h t k;
  beside_is = λ table h t k. all.beside_is table h t k;
  hands_end_is = λ table h k. all.hands_end_is table h k;
  beside_end_is = λ table h k. all.beside_end_is table h k;
  hands_pat_is = λ t h. h;
  hands_makes_is = λ table h t k. all.hands_makes_is table h t k;
  beside_makes_is = λ table h t k. all.beside_makes_is table h t k;
  alone_is = λ t u e h. all.alone_is t u e h;
  named_alone_is = λ b t u e h. all.named_alone_is b t u e h;
  or_is = λ at ps t p first known later more whole. whole;
  new_name_is = λ u is t with_it e. all.new_name_is u is t with_it e;
  top_is = λ h. all.top_is h;
  Where = λ C es p. Correct p (Emits expanded (λ ss. es));
  Known = Unknown;
  reads = unknown_reads;
  where_type = λ h. h;
  where_any = λ h. h;
  where_less = λ is h. h;
  where_known = λ h t is k. all.bind_is h t k;
  where_first = λ h k. emits_bind expanded h k;
  where_end = λ h k. all.end_is h k;
  type_is = λ t at shape. all.type_is t at shape;
  lifetime_is = λ l at. all.lifetime_is l at;
  tracked_down_is = λ f k h. all.tracked_down_is f k h;
  aliased_is = λ alias h. all.aliased_is alias h;
  impl_is = λ at mode bounds shape. impls at mode bounds shape;
  pat_is = λ p at. all.pat_is p at;
  made_pat_is = λ p at. all.made_pat_is p at;
  expr_is = λ e at. all.expr_is e at;
  made_expr_is = λ e at. all.made_expr_is e at;
  point_is = λ at h. all.point_is at h;
  point_field_is = λ i at. all.point_field_is i at;
  binding_is = λ u is. all.binding_is u is;
  define_is = λ b p. all.define_is b p;
  field_is = λ p at. all.field_is p at;
  fault_is = λ d. all.fault_is d;
  tracked_is = λ c. all.tracked_is c;
  emitted_is = λ c. all.emitted_is c;
  gone_is = λ why. all.gone_is why;
  type_call_is = λ at t h. all.type_call_is at t h;
  pat_call_is = λ at h. all.pat_call_is at h;
  target_mapping_is = λ at h. all.target_mapping_is at h;
  hands_call_is = λ at t h. all.hands_call_is at t h;
  super_is = λ w. all.super_is w;
  dots_is = λ comma place. all.dots_is comma place;
  def_is = λ k d. all.def_is k d;
  block_is = λ n. all.block_is n;
  jump_is = λ j. all.jump_is j;
  yield_is = λ at e h. all.yield_is at e h;
  asked_is = λ k. all.asked_is k;
  named_is = λ mode k. all.named_is mode k;
  made_named_is = λ mode k. all.made_named_is mode k;
  named_past_is = λ mode h k. all.named_past_is mode h k;
  bare_is = λ h k. all.bare_is h k;
  loop_is = λ l is p h k. all.loop_is l is p h k;
  labelled_is = λ l is k. all.labelled_is l is k;
  defined_is = λ d h. all.defined_is d h;
  try_is = λ at typed k of b hs hp t more. all.try_is at typed (λ x ss. k x) of b hs hp t more;
  inner_is = λ l h. all.inner_is l h;
  constant_is = λ e h. all.constant_is e h;
  rooted_is = λ e h. all.rooted_is e h;
  closure_is = λ at moves is_static hp ht he. all.closure_is at moves is_static hp ht he;
  coroutine_closure_is = λ at kind moves xs t e hp ht he. all.coroutine_closure_is at kind moves xs t e hp ht he;
  coroutine_is = λ at kind moves number h. all.coroutine_is at kind moves number h;
  owning_is = λ h. all.owning_is h;
}

abbrev pub expansions_bodies : GradedBodies expansions_graded bodies_expanded
expansions_bodies = record {
  coroutine_body_is = λ kind skipped f e hs hf he. coroutine_body_emits expanded kind skipped f e hs hf he;
}

-- theorems

-- in whatever scopes
expands : {A : Type 0} {es : Expansions} {p : Lowering A} → Correct p (Emits expanded (λ ss. es)) → (old new : Builder) (a : A)
    → Paired old.stored → p old ≡ (Ok a, new) → new.stored.expansions ≡ old.stored.expansions ++ es
expands h old new a paired is =
    let scopes = scopes_around old.scopes in
    behind expanded (λ xs ys like. like) h old new a paired is scopes.0 scopes.1

pub exprs_expand : ExprsExpand
exprs_expand e old id new paired is = expands (expr_part_graded expansions_graded e) old new id paired is

pub types_expand : TypesExpand
types_expand binder t old new i paired is = expands (part_graded expansions_graded binder t) old new i paired is

pub paths_expand : PathsExpand
paths_expand p old new r paired is = expands (path_graded expansions_graded p).claim old new r paired is

pub bodies_expand : BodiesExpand
bodies_expand kind skipped f e old new r paired is =
    expands (body_graded expansions_graded expansions_bodies kind skipped f e) old new r paired is
