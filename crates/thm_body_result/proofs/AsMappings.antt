-- Nodes lead to what came since, and no arena gets shorter: an instance.
use Rattle.std.proofs.Common.{◌≡◌, subst, ℕ, Bool, Option, Some, None, Ok, Err}
use Rattle.hir_binding.specs.declared.binding.BindingAnnotation.{BindingAnnotation}
use Rattle.hir_store.specs.Pointers.{Pointer}
use Rattle.hir_store.specs.declared.hir.Expr.TheVariants as hir
use Rattle.hir_store.specs.declared.ids.ExprId.{ExprId}
use Rattle.hir_store.specs.declared.ids.TypeRefId.{TypeRefId}
use Rattle.hir_env.specs.ResolvedTree.{OptionExpr, OptionPath}
use Rattle.hir_lower_builder.specs.Builder.{Builder}
use Rattle.hir_lower_builder.specs.declared.closures.ClosureParams.{ClosureParams}
use Rattle.hir_lower_builder.specs.declared.walk.Reading.{Reading}
use Rattle.hir_lower_builder.specs.Forms.{ExprSteps, closure_form, constant_form, value_form, yield_form}
use Rattle.hir_lower_builder.specs.Lower.{lower_part, lower_path}
use Rattle.hir_lower_builder.specs.Lowering.{Checked, Lowering}
use Rattle.hir_lower_builder.specs.Made.{made_bind_form}
use Rattle.hir_lower_builder.specs.Paths.{or_count_out}
use Rattle.hir_lower_builder.specs.Pats.{new_binding}
use Rattle.hir_lower_builder.specs.Ranges.{inner_form}
use Rattle.hir_lower_builder.specs.Walks.{super_read}
use Rattle.thm_logic.proofs.Answering.{answering_any}
use Rattle.thm_logic.proofs.Graded.{Graded}
use Rattle.thm_logic.proofs.GradedTree.{expr_part_graded, path_graded, target_graded, top_graded, type_made}
use Rattle.thm_body_result.specs.LeadsOn.{ExprsLead, PathsLead, PatsLead, TargetsLead, TypesLead, Went}
use Rattle.thm_logic.proofs.ReadBack.{Unknown, unknown_reads}
use Rattle.thm_logic.specs.Silent.{silent_grading}
use Rattle.thm_body_result.proofs.NameMappings.{alone_leads, beside, beside_pat, dots_leads, named_alone_leads, named_pat, names}
use Rattle.thm_body_result.proofs.NameMappings.{new_name_leads}
use Rattle.thm_body_result.proofs.NameMappings.{only_names, or_leads, renamed, then_names, then_pat, top_leads, unnamed}
use Rattle.thm_body_result.proofs.Onward.{Goes, Leading, Low, any, anyway, leading_pure, makes, makes_pat, makes_type, makes_where, new_pat}
use Rattle.thm_body_result.proofs.Onward.{new_type, since, then', then_where, step_went}
use Rattle.thm_body_result.proofs.EmittedOwnedMappings.{coroutine_block_leads, coroutine_leads, leading_owning}
use Rattle.thm_body_result.proofs.PreludeMappings.{coroutine_closure_leads}
use Rattle.thm_body_result.proofs.Mappings.{leading_aliased, leading_alloc, leading_alloc_binding, leading_alloc_lifetime}
use Rattle.thm_body_result.proofs.Mappings.{leading_alloc_pat}
use Rattle.thm_body_result.proofs.Mappings.{leading_alloc_type, leading_barrier, leading_becoming, leading_block, leading_call}
use Rattle.thm_body_result.proofs.Mappings.{leading_close}
use Rattle.thm_body_result.proofs.Mappings.{leading_close_barrier, leading_closed, leading_count_out, leading_define, leading_define_macro}
use Rattle.thm_body_result.proofs.Mappings.{leading_enter, leading_gone, leading_inside_macro, leading_jump, leading_leave, leading_made}
use Rattle.thm_body_result.proofs.Mappings.{leading_made_pat, leading_track, leading_tracked, leading_number, leading_open}
use Rattle.thm_body_result.proofs.Mappings.{leading_open_try}
use Rattle.thm_body_result.proofs.Mappings.{leading_point, leading_point_field, leading_point_pat, leading_point_pat_field}
use Rattle.thm_body_result.proofs.Mappings.{leading_point_target}
use Rattle.thm_body_result.proofs.Mappings.{leading_point_type, leading_report, leading_emitted, leading_try_target}

pub counted_leads : (r : Option Reading) → Leading any (or_count_out r)
counted_leads (Some r) = leading_pure r
counted_leads None = leading_count_out

pub bind_leads : (mode : BindingAnnotation) (n : ℕ) → Leading any (made_bind_form mode n)
unfolding made_bind_form
bind_leads mode n =
    then' (leading_alloc_binding _) (λ i. then' (leading_alloc_pat _ None) (λ p. then' (leading_define i p) (λ u. leading_pure p)))

pub yield_leads : (at : Pointer) (e : Lowering (Option ExprId)) → Leading since (value_form at hir.Yield e)
    → Leading since (yield_form at e)
unfolding value_form yield_form
yield_leads at e h = makes leading_track (λ u. h)

-- bodies inside

pub inner_leads : {e : ExprSteps} → Leading since e → Leading any (inner_form e)
unfolding inner_form
inner_leads h = then' leading_barrier (λ outside. then' leading_enter (λ outer.
    then' h (λ i. then' (leading_close_barrier outside) (λ y. then' (leading_leave outer i) (λ u. leading_pure i)))))

pub constant_leads : {e : ExprSteps} → Leading since e → Leading any (constant_form e)
unfolding constant_form
constant_leads h = then' leading_barrier (λ outside. then' leading_enter (λ outer.
    then' h (λ i. then' (leading_close_barrier outside) (λ y. then' (leading_leave outer i) (λ u. leading_pure _)))))

pub closure_leads : (at : Pointer) (moves is_static : Bool) {p : Lowering ClosureParams} {t : Lowering (Option TypeRefId)} {e : ExprSteps}
    → Leading any p → Leading any t → Leading since e → Leading since (closure_form at moves is_static p t e)
unfolding closure_form
closure_leads at moves is_static hp ht he = makes leading_barrier (λ outside. makes hp (λ c. makes ht (λ t. makes he
    (λ i. makes (leading_close_barrier outside) (λ y. leading_alloc _ (Some at))))))

abbrev pub mappings_graded : Graded silent_grading
mappings_graded = record {
  Claim = λ g p. Leading any p;
  Made = λ g p. Leading since p;
  MadePat = λ g p. Leading new_pat p;
  MadeType = λ t g p. Leading new_type p;
  Hands = λ t g p. Leading (names t) p;
  HandsPat = λ t g p. Leading (named_pat t) p;
  Where = λ C g p. Leading any p;
  Known = Unknown;
  reads = unknown_reads;
  made_is = λ h. anyway h;
  pat_made_is = λ h. anyway h;
  type_made_is = λ is h. anyway h;
  where_type = λ h. anyway h;
  hands_pat_is = λ t h. only_names t h;
  pure_is = λ a. leading_pure a;
  bind_is = λ h t k. then_where h t k;
  makes_is = λ h t k. makes_where h t k;
  makes_pat_is = λ h t k. makes_pat h t k;
  makes_type_is = λ h k. makes_type h k;
  end_is = λ h k. then' h k;
  where_any = λ h. h;
  where_less = λ is h. h;
  where_known = λ h t is k. then_where h t k;
  where_first = λ h k. then' h k;
  where_end = λ h k. then' h k;
  hands_pure_is = λ a t u e. unnamed a t u e;
  hands_as_is = λ t u e h. renamed t u e h;
  hands_bind_is = λ t h known k. then_names t h known k;
  beside_is = λ t h known k. beside t h known k;
  hands_end_is = λ t h k. then_names t h (answering_any _) (λ r u. k r);
  beside_end_is = λ t h k. beside t h (answering_any _) (λ a u. k a);
  hands_makes_is = λ t h known k. then_pat t h known k;
  beside_makes_is = λ t h known k. beside_pat t h known k;
  alone_is = λ t u e h. alone_leads t u e h;
  named_alone_is = λ b t u e h. named_alone_leads b t u e h;
  or_is = λ at ps t p first known later more whole. or_leads at ps t p first known later more;
  new_name_is = λ u is t with_it e. new_name_leads u t with_it e;
  top_is = λ h. top_leads h;
  type_is = λ t at shape. leading_alloc_type t at;
  lifetime_is = λ l at. leading_alloc_lifetime l at;
  tracked_down_is = λ f k h. leading_tracked f h;
  aliased_is = λ alias h. leading_aliased alias h;
  impl_is = λ at mode bounds shape. leading_becoming at mode bounds;
  pat_is = λ p at. leading_alloc_pat p at;
  made_pat_is = λ p at. leading_made_pat p at;
  expr_is = λ e at. leading_alloc e at;
  made_expr_is = λ e at. leading_made e at;
  point_is = λ at h. leading_point at h;
  point_field_is = λ i at. leading_point_field i at;
  binding_is = λ u is. anyway (leading_alloc_binding (new_binding u));
  define_is = λ b p. leading_define b p;
  field_is = λ p at. leading_point_pat_field p at;
  fault_is = λ d. leading_report d;
  tracked_is = λ c. leading_call c;
  emitted_is = λ c. leading_emitted c;
  gone_is = λ why. leading_gone why;
  type_call_is = λ at t h. leading_point_type at h;
  pat_call_is = λ at h. leading_point_pat at (λ i. i) (λ s i l. l) h;
  target_mapping_is = λ at h. leading_point_target at h;
  hands_call_is = λ at t h. leading_point_pat at (λ r. r.0) (λ s r l. l.0) h;
  super_is = λ w. counted_leads (super_read w);
  dots_is = λ comma place. dots_leads comma place;
  def_is = λ k d. leading_define_macro k d;
  block_is = λ n. leading_block n;
  jump_is = λ j. leading_jump j;
  yield_is = λ at e h. yield_leads at e h;
  asked_is = λ k. makes leading_try_target k;
  named_is = λ mode k. then' leading_number (λ n. then' (bind_leads mode n) (λ q. k n q));
  made_named_is = λ mode k. makes leading_number (λ n. makes (bind_leads mode n) (λ q. k n q));
  named_past_is = λ mode h k. makes leading_number (λ n. makes h (λ a. makes (bind_leads mode n) (λ q. k n a q)));
  bare_is = λ h k. makes h k;
  loop_is = λ l is p h k. makes (leading_open l) (λ n. makes h (λ i. makes leading_close (λ u. k n i)));
  labelled_is = λ l is k. makes (leading_open l) (λ n. leading_closed (k n));
  defined_is = λ d h. leading_inside_macro d h;
  try_is = λ at typed k of b hs hp t more.
      makes (leading_open_try at typed) (λ n. makes hs (λ u. makes hp (λ r. makes leading_close (λ v. more n r))));
  inner_is = λ l h. inner_leads h;
  constant_is = λ e h. leading_owning (λ c. c.expr) (constant_leads h);
  rooted_is = λ e h. constant_leads h;
  closure_is = λ at moves is_static hp ht he. leading_owning (λ i. i) (closure_leads at moves is_static hp ht he);
  coroutine_closure_is = λ at kind moves xs t e hp ht he. leading_owning (λ i. i) (coroutine_closure_leads at kind moves hp ht he);
  coroutine_is = λ at kind moves number h. leading_owning (λ i. i) (coroutine_leads (coroutine_block_leads at kind moves number h));
  owning_is = λ h. leading_owning (λ i. i) h;
}

pub part_leads : (e : OptionExpr) → Leading since (lower_part e)
part_leads e = expr_part_graded mappings_graded e

pub path_leads : (p : OptionPath) → Leading any (lower_path p)
path_leads p = (path_graded mappings_graded p).claim

-- theorems

-- what is said of an answer
said : {A : Type 0} (L : Low A) (b : Builder) (o : Checked A) (c : Builder) → Goes L b o c → (a : A) → o ≡ Ok a → L b.stored a
said L b (Ok x) c h a e = let same : x ≡ a = cc in subst (λ y. L b.stored y) same h.1
said L b (Err x) c h a e = cc

theorem : {A : Type 0} {L : Low A} {p : Lowering A} → Leading L p → (old new : Builder) (o : Checked A) → p old ≡ (o, new)
    → Went old.stored new.stored × ((a : A) → o ≡ Ok a → L old.stored a)
theorem {A = A} {L = L} {p = p} h old new o is =
    subst (λ (q : Checked A × Builder). Went old.stored q.1.stored × ((a : A) → q.0 ≡ Ok a → L old.stored a)) is
    (step_went h old, said L old (p old).0 (p old).1 (h.goes old))

pub exprs_lead : ExprsLead
exprs_lead e old new o is = theorem (part_leads e) old new o is

pub types_lead : TypesLead
types_lead b t old new o is = theorem (type_made mappings_graded b t) old new o is

pub targets_lead : TargetsLead
targets_lead t old new o is = theorem (target_graded mappings_graded t) old new o is

pub pats_lead : PatsLead
pats_lead p old new o is = theorem (top_graded mappings_graded p) old new o is

pub paths_lead : PathsLead
paths_lead p old new o is = theorem (path_leads p) old new o is
