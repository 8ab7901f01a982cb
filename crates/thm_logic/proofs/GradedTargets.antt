-- What is done with the parts of the assignee expression, by what is told of the parts: one lemma a form, for all claims.
use Rattle.std.proofs.Common.{◌≡◌, ℕ, Bool, false, List, Option, Some, None, is_some}
use Rattle.hir_store.specs.Pointers.{Pointer}
use Rattle.hir_store.specs.declared.ids.HygieneId.{HygieneId}
use Rattle.hir_store.specs.declared.ids.PatId.{PatId}
use Rattle.hir_store.specs.declared.name.Name.{Name}
use Rattle.hir_store.specs.declared.pat.Pat.{Pat as HirPat}
use Rattle.hir_store.specs.declared.pat.RecordFieldPat.{RecordFieldPat}
use Rattle.hir_store.specs.declared.path.Path.{Path as HirPath}
use Rattle.hir_env.specs.ResolvedTree.{Origin}
use Rattle.hir_env.specs.Targets.{origin, source_of}
use Rattle.hir_lower_builder.specs.Forms.{ExprSteps}
use Rattle.hir_lower_builder.specs.Lowering.{Lowering}
use Rattle.hir_lower_builder.specs.Pats.{Elements}
use Rattle.hir_lower_builder.specs.Targets as targets
use Rattle.hir_lower_builder.specs.Targets.{alloc_target}
use Rattle.thm_logic.specs.PathSeen.{Seen}
use Rattle.thm_logic.proofs.PathAnswers.{GivesPath, option_seen}
use Rattle.thm_logic.specs.Grading.{Grading, grade_assigned, grade_rest, grade_spread, or_missing_target}
use Rattle.thm_logic.proofs.Graded.{Graded, Emitted, map_is, pat_next}
use Rattle.thm_logic.proofs.GradedPats.{elements_graded, named_graded}
use Rattle.thm_logic.proofs.GradedTypes.{target_by_path}

module _ {ℓ} {S : Grading {ℓ}} (L : Graded S) where
  -- the parts of a tuple or a call, with the place of the first two dots
  abbrev pub TargetsEmitted : S.G → Option ℕ → Lowering Elements → Type 0
  TargetsEmitted g d ps = Emitted L {A = Elements} g (λ r. r.1 ≡ d) ps

  pub assigned_graded : (p : HirPat) (at : Origin) → L.MadePat (grade_assigned S at) (alloc_target p at)
  unfolding alloc_target
  assigned_graded p at = L.target_mapping_is at.node (L.made_pat_is p (Some (source_of at)))

  rest_graded : (dots : Option Pointer) → L.Claim (grade_rest S dots) (targets.rest_target dots)
  rest_graded None = L.pure_is None
  rest_graded (Some p) = map_is L _ (L.pat_made_is (assigned_graded _ (origin None p)))

  spread_graded : (spread : Option Pointer) → L.Claim (grade_spread S spread) (targets.report_spread spread)
  spread_graded None = L.pure_is tt
  spread_graded (Some p) = L.fault_is _

  pub place_graded : (at : Pointer) {g : S.G} {e : ExprSteps} → L.Claim g e
      → L.MadePat (S.then' g (S.made_pat_at (Some at))) (targets.place_form at e)
  unfolding targets.place_form
  place_graded at h = pat_next L h (λ e. L.made_pat_is _ (Some at))

  pub target_field_graded : (at : Pointer) (n : Option Name) {g : S.G} {p : Lowering PatId} → L.Claim g p
      → L.Claim g (targets.target_field_form at n p)
  unfolding targets.target_field_form
  target_field_graded at n h = L.end_is h (λ i. named_graded L at n i)

  module _ (at : Origin) where
    pub path_target_graded : (h : HygieneId) {g : S.G} {q : Lowering (Option HirPath)} → L.Claim g q
        → L.MadePat (S.then' g (grade_assigned S at)) (targets.path_target_form at h q)
    unfolding targets.path_target_form
    path_target_graded h hq = pat_next L hq (λ p. assigned_graded _ at)

    pub tuple_target_graded : {g : S.G} {d : Option ℕ} {ps : Lowering Elements} → TargetsEmitted g d ps
        → L.MadePat (S.then' g (S.then' (S.dots d) (grade_assigned S at))) (targets.tuple_target_form at ps)
    unfolding targets.tuple_target_form
    tuple_target_graded {d = d} h = L.makes_pat_is h.claim h.known (λ r e.
        pat_next L (elements_graded L false r d e) (λ es. assigned_graded _ at))

    call_of_graded : {g : S.G} {d : Option ℕ} {ps : Lowering Elements} → TargetsEmitted g d ps → (o : Option HirPath)
        → L.MadePat (or_missing_target S at.call (is_some (option_seen o)) (S.then' g (S.then' (S.dots d) (grade_assigned S at))))
        (targets.call_target_of at ps o)
    call_of_graded h None = L.made_pat_is _ at.call
    call_of_graded {d = d} h (Some o) = L.makes_pat_is h.claim h.known (λ r e.
        pat_next L (elements_graded L false r d e) (λ es. assigned_graded _ at))

    pub call_target_graded : {x : Option Seen} {f g : S.G} {d : Option ℕ} {q : Lowering (Option HirPath)} {ps : Lowering Elements}
        → Emitted L f (GivesPath x) q → TargetsEmitted g d ps
        → L.MadePat (S.then' f (or_missing_target S at.call (is_some x) (S.then' g (S.then' (S.dots d) (grade_assigned S at)))))
        (targets.call_target_form at ps q)
    unfolding targets.call_target_form
    call_target_graded {g = g} {d = d} hq h = target_by_path L
        (λ y. or_missing_target S at.call (is_some y) (S.then' g (S.then' (S.dots d) (grade_assigned S at)))) hq (λ o. call_of_graded h o)

    pub array_target_graded : (dots : Option Pointer) {g h : S.G} {b a : Lowering Elements} → L.Claim g b → L.Claim h a
        → L.MadePat (S.then' g (S.then' h (S.then' (grade_rest S dots) (grade_assigned S at)))) (targets.array_target_form at dots b a)
    unfolding targets.array_target_form
    array_target_graded dots hb ha =
        pat_next L hb (λ b. pat_next L ha (λ a. pat_next L (rest_graded dots) (λ m. assigned_graded _ at)))

    record_of_graded : (dots : Bool) (spread : Option Pointer) {g : S.G} {fs : Lowering (List RecordFieldPat)} → L.Claim g fs
        → (o : Option HirPath)
        → L.MadePat (or_missing_target S at.call (is_some (option_seen o))
        (S.then' (grade_spread S spread) (S.then' g (grade_assigned S at))))
        (targets.record_target_of at dots spread fs o)
    record_of_graded dots spread h None = L.made_pat_is _ at.call
    record_of_graded dots spread h (Some o) = pat_next L (spread_graded spread) (λ u. pat_next L h (λ fs. assigned_graded _ at))

    pub record_target_graded : (dots : Bool) (spread : Option Pointer) {x : Option Seen} {f g : S.G} {q : Lowering (Option HirPath)}
        {fs : Lowering (List RecordFieldPat)} → Emitted L f (GivesPath x) q → L.Claim g fs
        → L.MadePat
        (S.then' f (or_missing_target S at.call (is_some x) (S.then' (grade_spread S spread) (S.then' g (grade_assigned S at)))))
        (targets.record_target_form at dots spread fs q)
    unfolding targets.record_target_form
    record_target_graded dots spread {g = g} hq h = target_by_path L
        (λ y. or_missing_target S at.call (is_some y) (S.then' (grade_spread S spread) (S.then' g (grade_assigned S at)))) hq
        (λ o. record_of_graded dots spread h o)
