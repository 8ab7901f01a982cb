-- Steps that note nothing, one by one.
use Rattle.std.proofs.Common.{◌≡◌, ◌^◌, refl, ℕ, suc, nat_lt, Bool, true, false, if◌then◌else◌, List, Option, Some, None, Ok, Err}
use Rattle.hir_binding.specs.declared.binding.BindingProblems.{BindingProblems}
use Rattle.hir_store.specs.Bindings.{binding_id}
use Rattle.hir_store.specs.Pointers.{Pointer}
use Rattle.hir_store.specs.Stored.{store_of}
use Rattle.hir_store.specs.StoreSink as store_sink
use Rattle.hir_store.specs.StoreSink.{Extends, root_at}
use Rattle.hir_store.specs.declared.diagnostics.AwaitLocation.{AwaitLocation}
use Rattle.hir_store.specs.declared.diagnostics.ExpressionStoreDiagnostics.{ExpressionStoreDiagnostics}
use Rattle.hir_store.specs.declared.hir.Expr.{Expr}
use Rattle.hir_store.specs.declared.ids.BindingId.{BindingId}
use Rattle.hir_store.specs.declared.ids.BlockId.{BlockId}
use Rattle.hir_store.specs.declared.ids.ExprId.{ExprId}
use Rattle.hir_store.specs.declared.ids.LabelId.{LabelId}
use Rattle.hir_store.specs.declared.ids.MacroDefId.{MacroDefId}
use Rattle.hir_store.specs.declared.ids.PatId.{PatId}
use Rattle.hir_store.specs.declared.ids.TypeRefId.{TypeRefId}
use Rattle.hir_store.specs.declared.pat.Binding.{Binding}
use Rattle.hir_store.specs.declared.pat.Pat.{Pat}
use Rattle.hir_store.specs.declared.type_ref.TypeRef.{TypeRef}
use Rattle.hir_store.proofs.Extending.{extends_refl, extends_root}
use Rattle.hir_env.specs.ResolvedTree.{Called, Entered, Gone, Jump, Label}
use Rattle.hir_lower_scope.specs.ScopeRibs.{Rib, Target, reachable, unreachable, undeclared, target, try_rib}
use Rattle.hir_lower_builder.specs.Builder.{Builder}
use Rattle.hir_lower_builder.specs.Calls.{track, track_gone, emitted}
use Rattle.hir_lower_builder.specs.Lowering.{Checked, Lowering, pure, alloc_binding, alloc_expr, alloc_desugared, alloc_desugared_pat}
use Rattle.hir_lower_builder.specs.Lowering.{alloc_pat, alloc_type, bindings_end, close, close_barrier, count_def, count_out, define}
use Rattle.hir_lower_builder.specs.Lowering.{enter_block}
use Rattle.hir_lower_builder.specs.Lowering.{close_labels, enter_root, found_or_fault, jump_target, leave_root, made_number, track_yield}
use Rattle.hir_lower_builder.specs.Lowering.{open_as}
use Rattle.hir_lower_builder.specs.Lowering.{open_barrier}
use Rattle.hir_lower_builder.specs.Lowering.{open_label, open_macro, open_try, open_try_as, open_try_named, outside_root, own, owning}
use Rattle.hir_lower_builder.specs.Lowering.{point}
use Rattle.hir_lower_builder.specs.Lowering.{point_field, point_pat, point_pat_field, point_target, point_type, record_root, report}
use Rattle.hir_lower_builder.specs.Lowering.{report_await}
use Rattle.hir_lower_builder.specs.Lowering.{set_problem, try_target}
use Rattle.thm_logic.specs.Calls.{Expansions}
use Rattle.thm_logic.specs.Keeps.{Paired}
use Rattle.thm_logic.proofs.Calls.{Only, correct_only, correct_point_pat, correct_point_target, correct_point_type, only_gone, only_track}
use Rattle.thm_logic.proofs.Calls.{only_emitted}
use Rattle.thm_logic.proofs.Frames.{rib}
use Rattle.thm_logic.proofs.MadeSteps.{correct_alloc_desugared, correct_made_number, correct_try_target, made_label, opens_try}
use Rattle.thm_logic.proofs.Owning.{correct_own}
use Rattle.thm_logic.proofs.PatSteps.{correct_alloc_binding, correct_alloc_desugared_pat, correct_alloc_pat, correct_define}
use Rattle.thm_logic.proofs.PatSteps.{correct_point_pat_field, correct_set_problem}
use Rattle.thm_logic.proofs.Steps.{Opens, correct_alloc, correct_alloc_type, correct_enter_block, correct_point}
use Rattle.thm_logic.proofs.Steps.{correct_point_field, correct_report, correct_report_await, correct_target, opens}
use Rattle.std.proofs.Common.{sym, subst, length, [], ◌∷◌, ◌++◌}
use Rattle.spec_data.specs.Tracking.{Tracking, none}
use Rattle.thm_generics.proofs.Logic.{LeavesTo, SideOutput, TracksTo, Quiet, tracked_none, tracks_begin, tracks_end, tracks_pure}
use Rattle.thm_generics.proofs.Logic.{tracks_quiet}
use Rattle.thm_generics.proofs.Logic.{tracks_stored}
use Rattle.thm_generics.proofs.Logic.{quiet_pure, quiet_stored, quiet_then}

-- what is stored

pub tracks_expr : (e : Expr) (at : Option Pointer) → SideOutput none (alloc_expr e at)
unfolding alloc_expr
tracks_expr e at = tracks_stored (store_sink.alloc_expr e at) (correct_alloc e at)

pub tracks_made : (e : Expr) (at : Option Pointer) → SideOutput none (alloc_desugared e at)
unfolding alloc_desugared
tracks_made e at = tracks_stored (store_sink.alloc_desugared e at) (correct_alloc_desugared e at)

pub tracks_pat : (p : Pat) (at : Option Pointer) → SideOutput none (alloc_pat p at)
unfolding alloc_pat
tracks_pat p at = tracks_stored (store_sink.alloc_pat p at) (correct_alloc_pat p at)

pub tracks_made_pat : (p : Pat) (at : Option Pointer) → SideOutput none (alloc_desugared_pat p at)
unfolding alloc_desugared_pat
tracks_made_pat p at = tracks_stored (store_sink.alloc_desugared_pat p at) (correct_alloc_desugared_pat p at)

pub quiet_type : (t : TypeRef) (at : Option Pointer) → Quiet (alloc_type t at)
unfolding alloc_type
quiet_type t at = quiet_stored (store_sink.alloc_type t at)

pub tracks_type : (t : TypeRef) (at : Option Pointer) → SideOutput none (alloc_type t at)
unfolding alloc_type
tracks_type t at = tracks_stored (store_sink.alloc_type t at) (correct_alloc_type t at)

pub tracks_binding : (b : Binding) → SideOutput none (alloc_binding b)
unfolding alloc_binding
tracks_binding b = tracks_stored (store_sink.alloc_binding b) (correct_alloc_binding b)

pub tracks_define : (i : BindingId) (p : PatId) → SideOutput none (define i p)
unfolding define
tracks_define i p = tracks_stored (store_sink.define i p) (correct_define i p)

pub tracks_problem : (i : BindingId) (problem : Option BindingProblems) → SideOutput none (set_problem i problem)
unfolding set_problem
tracks_problem i problem = tracks_stored (store_sink.set_problem i problem) (correct_set_problem i problem)

pub tracks_point : (at : Pointer) (i : ExprId) → SideOutput none (point at i)
unfolding point
tracks_point at i = tracks_stored (store_sink.point at i) (correct_point at i)

pub tracks_point_field : (i : ExprId) (at : Pointer) → SideOutput none (point_field i at)
unfolding point_field
tracks_point_field i at = tracks_stored (store_sink.point_field i at) (correct_point_field i at)

pub tracks_point_pat : (at : Pointer) (i : PatId) → SideOutput none (point_pat at i)
unfolding point_pat
tracks_point_pat at i = tracks_stored (store_sink.point_pat at i) (correct_point_pat at i)

pub tracks_point_target : (at : Pointer) (i : PatId) → SideOutput none (point_target at i)
unfolding point_target
tracks_point_target at i = tracks_stored (store_sink.point_target at i) (correct_point_target at i)

pub tracks_point_type : (at : Pointer) (i : TypeRefId) → SideOutput none (point_type at i)
unfolding point_type
tracks_point_type at i = tracks_stored (store_sink.point_type at i) (correct_point_type at i)

pub tracks_point_pat_field : (i : PatId) (at : Pointer) → SideOutput none (point_pat_field i at)
unfolding point_pat_field
tracks_point_pat_field i at = tracks_stored (store_sink.point_pat_field i at) (correct_point_pat_field i at)

quiet_report : (d : ExpressionStoreDiagnostics) → Quiet (report d)
unfolding report
quiet_report d = quiet_stored (store_sink.report d)

pub tracks_report : (d : ExpressionStoreDiagnostics) → SideOutput none (report d)
tracks_report d = tracks_quiet (correct_report d) (quiet_report d)

quiet_report_await : (at : Pointer) (location : Option AwaitLocation) → Quiet (report_await at location)
unfolding report_await
quiet_report_await at None = quiet_pure tt
quiet_report_await at (Some l) = quiet_report _

pub tracks_report_await : (at : Pointer) (location : Option AwaitLocation) → SideOutput none (report_await at location)
tracks_report_await at location = tracks_quiet (correct_report_await at location) (quiet_report_await at location)

quiet_enter_block : (n : Option BlockId) → Quiet (enter_block n)
unfolding enter_block
quiet_enter_block None = quiet_pure tt
quiet_enter_block (Some n) = quiet_stored (store_sink.enter_block n)

pub tracks_enter_block : (n : Option BlockId) → SideOutput none (enter_block n)
tracks_enter_block n = tracks_quiet (correct_enter_block n) (quiet_enter_block n)

-- counters

pub tracks_count_out : {A : Type 0} → SideOutput none (count_out {A = A})
unfolding count_out
tracks_count_out = record { at = λ b d. tt }

quiet_made_number : Quiet made_number
unfolding made_number count_out
quiet_made_number = record { quiet = λ b. by b (nat_lt (suc b.names) (2 ^ 32)) }
  where
    numbered : Bool → Lowering ℕ
    numbered room = λ b. if room then (Ok b.names, record b { names = suc b.names }) else count_out b

    by : (b : Builder) (room : Bool) → LeavesTo b (numbered room b).0 (numbered room b).1
    by b true = refl
    by b false = tt

pub tracks_made_number : SideOutput none made_number
tracks_made_number = tracks_quiet correct_made_number quiet_made_number

counted : (t : Bool) → SideOutput {A = Unit {0}} none (if t then pure tt else count_out)
counted true = tracks_pure tt
counted false = tracks_count_out

pub tracks_count_def : (k : ℕ) → SideOutput none (count_def k)
unfolding count_def
tracks_count_def k = counted (nat_lt (suc k) (2 ^ 32))

-- what is open

-- what leaves what is stored
left_alone : {b c : Builder} → c.stored ≡ b.stored → c.tracks ≡ b.tracks → {A : Type 0} (a : A) → Paired b.stored → TracksTo none b (Ok a) c
left_alone {b = b} e h a d =
    (subst Paired (sym e) d, tracked_none (subst Paired (sym e)) (subst (Extends b.stored) (sym e) (extends_refl b.stored)) h)

pub tracks_close : SideOutput none close
unfolding close
tracks_close = record { at = λ b d. left_alone refl refl (tt {0}) d }

pub tracks_close_labels : SideOutput none close_labels
unfolding close_labels
tracks_close_labels = record { at = λ b d. left_alone refl refl (tt {0}) d }

pub tracks_open_barrier : SideOutput none open_barrier
unfolding open_barrier
tracks_open_barrier = record { at = λ b d. left_alone refl refl b.yields d }

pub tracks_close_barrier : (outside : Bool) → SideOutput none (close_barrier outside)
unfolding close_barrier
tracks_close_barrier outside = record { at = λ b d. left_alone refl refl b.yields d }

pub tracks_enter_root : SideOutput none enter_root
unfolding enter_root
tracks_enter_root = record { at = λ b d. left_alone refl refl b.in_root d }

pub tracks_outside_root : SideOutput none outside_root
unfolding outside_root
tracks_outside_root = record { at = λ b d. left_alone refl refl (tt {0}) d }

pub tracks_record_root : (i : ExprId) → SideOutput none (record_root i)
unfolding record_root store_sink.record_root
tracks_record_root i = record {
  at = λ b d.
      let pairs : Paired b.stored → Paired (record b.stored { roots = b.stored.roots ++ root_at (store_of b.stored) i ∷ [] }) =
      λ d. record { exprs = d.exprs; labels = d.labels; pats = d.pats; types = d.types; lifetimes = d.lifetimes } in
      (pairs d, tracked_none pairs (extends_root b.stored (root_at (store_of b.stored) i)) refl);
}

pub tracks_leave_root : (outer : Bool) (i : ExprId) → SideOutput none (leave_root outer i)
unfolding leave_root
tracks_leave_root true i = tracks_pure tt
tracks_leave_root false i = tracks_begin (tracks_record_root i) (λ u. tracks_outside_root)

pub tracks_open_macro : (d : MacroDefId) → SideOutput none (open_macro d)
unfolding open_macro
tracks_open_macro d = record { at = λ b p. left_alone refl refl (tt {0}) p }

pub tracks_track_yield : SideOutput none track_yield
unfolding track_yield
tracks_track_yield = record { at = λ b d. left_alone refl refl (tt {0}) d }

pub tracks_bindings_end : SideOutput none bindings_end
unfolding bindings_end
tracks_bindings_end = record { at = λ b d. left_alone refl refl (binding_id (length b.stored.bindings.entries)) d }

quiet_try_target : Quiet try_target
unfolding try_target
quiet_try_target = record { quiet = λ b. refl }

pub tracks_try_target : SideOutput none try_target
tracks_try_target = tracks_quiet correct_try_target quiet_try_target

-- labels

opened_to : (made : ℕ) (r : LabelId → Rib LabelId) (l : Label) (b : Builder) (o : Checked LabelId) (c : Builder) → Opens made r l b o c
    → LeavesTo b o c → Paired b.stored → TracksTo none b o c
opened_to made r l b (Ok n) c h e d = (h.paired d, tracked_none h.paired h.stays e)
opened_to made r l b (Err e) c h u d = tt

quiet_open_as : (l : Label) (i : LabelId) → Quiet (open_as l i)
quiet_open_as l i = record { quiet = λ b. refl }

quiet_open_label : (l : Label) → Quiet (open_label l)
unfolding open_label
quiet_open_label l = quiet_then (quiet_stored _) (λ i. quiet_then (quiet_open_as l i) (λ u. quiet_pure i))

pub tracks_open_label : (l : Label) → SideOutput none (open_label l)
tracks_open_label l = record {
  at = λ b d. opened_to 0 (rib l) l b (open_label l b).0 (open_label l b).1 (opens l b) ((quiet_open_label l).quiet b) d;
}

quiet_open_try_as : (i : LabelId) (typed : Bool) → Quiet (open_try_as i typed)
quiet_open_try_as i typed = record { quiet = λ b. refl }

quiet_try_named : (at : Pointer) (typed : Bool) (n : ℕ) → Quiet (open_try_named at typed n)
quiet_try_named at typed n = quiet_then (quiet_stored _) (λ i. quiet_then (quiet_open_try_as i typed) (λ u. quiet_pure i))

quiet_open_try : (at : Pointer) (typed : Bool) → Quiet (open_try at typed)
unfolding open_try
quiet_open_try at typed = quiet_then quiet_made_number (λ n. quiet_try_named at typed n)

pub tracks_open_try : (at : Pointer) (typed : Bool) → SideOutput none (open_try at typed)
tracks_open_try at typed = record {
  at = λ b d. opened_to 1 (λ n. try_rib n typed) (made_label at b.names) b (open_try at typed b).0 (open_try at typed b).1
      (opens_try at typed b) ((quiet_open_try at typed).quiet b) d;
}

-- jumps

quiet_found : (j : Jump) (t : Target LabelId) → Quiet (found_or_fault j t)
quiet_found j (reachable i) = quiet_pure (Some i)
quiet_found j unreachable = quiet_then (quiet_report _) (λ u. quiet_pure None)
quiet_found j undeclared = quiet_then (quiet_report _) (λ u. quiet_pure None)

quiet_jump_target : (j : Option Jump) → Quiet (jump_target j)
unfolding jump_target
quiet_jump_target None = quiet_pure None
quiet_jump_target (Some j) = record { quiet = λ b. (quiet_found j (target j b.scopes)).quiet b }

pub tracks_jump_target : (j : Option Jump) → SideOutput none (jump_target j)
tracks_jump_target j = tracks_quiet (correct_target j) (quiet_jump_target j)

-- calls

pub only_quiet : {es : Expansions} {ds : List ExpressionStoreDiagnostics} {p : Lowering (Unit {0})} → Only es ds p → SideOutput none p
only_quiet h = tracks_quiet (correct_only h) (record { quiet = λ b. subst (λ r. LeavesTo b r.0 r.1) (sym (h.is b)) refl })

pub tracks_track : (c : Entered) → SideOutput none (track c)
tracks_track c = only_quiet (only_track c)

pub tracks_emitted : (c : Called) → SideOutput none (emitted c)
tracks_emitted c = only_quiet (only_emitted c)

pub tracks_gone : (why : Gone) → SideOutput none (track_gone why)
tracks_gone why = only_quiet (only_gone why)

-- whatever owns bindings

pub tracks_own : (start : BindingId) (i : ExprId) → SideOutput none (own start i)
unfolding own
tracks_own start i = tracks_stored (store_sink.own start i) (correct_own start i)

pub tracks_owning : {A : Type 0} (owner : A → ExprId) {n : Tracking} {p : Lowering A} → SideOutput n p → SideOutput n (owning owner p)
unfolding owning
tracks_owning owner h =
    tracks_begin tracks_bindings_end (λ start. tracks_end h (λ x. tracks_begin (tracks_own start (owner x)) (λ u. tracks_pure x)))
