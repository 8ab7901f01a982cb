-- Steps that name no type and no pattern, and ask for nothing.
use Rattle.std.proofs.Common.{◌≡◌, refl, ap, ℕ, suc, arith, length, Bool, true, false, List, [], ◌∷◌, Option, Some, None, Ok, Err}
use Rattle.hir_lower_scope.specs.ScopeRibs.{Rib, try_rib}
use Rattle.hir_store.specs.Pointers.{Pointer}
use Rattle.hir_store.specs.StoreSink as store_sink
use Rattle.hir_store.specs.declared.diagnostics.AwaitLocation.{AwaitLocation}
use Rattle.hir_store.specs.declared.diagnostics.ExpressionStoreDiagnostics.{ExpressionStoreDiagnostics}
use Rattle.hir_store.specs.declared.hir.Expr.{Expr as HirExpr}
use Rattle.hir_store.specs.declared.ids.BindingId.{BindingId}
use Rattle.hir_store.specs.declared.ids.BlockId.{BlockId}
use Rattle.hir_store.specs.declared.ids.ExprId.{ExprId}
use Rattle.hir_store.specs.declared.ids.LabelId.{LabelId}
use Rattle.hir_store.specs.declared.ids.MacroDefId.{MacroDefId}
use Rattle.hir_store.specs.declared.ids.PatId.{PatId}
use Rattle.hir_store.specs.declared.ids.TypeRefId.{TypeRefId}
use Rattle.hir_store.specs.declared.pat.Binding.{Binding}
use Rattle.hir_env.specs.ResolvedTree.{Called, Jump, Label, Use}
use Rattle.hir_lower_builder.specs.Builder.{Builder}
use Rattle.hir_lower_builder.specs.Lowering.{Checked, Lowering, ◌>>=◌, pure, alloc_binding, alloc_expr, define, point, point_field}
use Rattle.hir_lower_builder.specs.Lowering.{point_pat}
use Rattle.hir_lower_builder.specs.Lowering.{point_pat_field, point_target, point_type, bindings_end, track_yield, open_macro, own, owning}
use Rattle.hir_lower_builder.specs.Lowering.{report, report_await, enter_block, open_label, close, jump_target, alloc_desugared}
use Rattle.hir_lower_builder.specs.Lowering.{made_number}
use Rattle.hir_lower_builder.specs.Lowering.{open_try, try_target, open_barrier, close_barrier, enter_root, leave_root, outside_root}
use Rattle.hir_lower_builder.specs.Lowering.{record_root}
use Rattle.hir_lower_builder.specs.Calls.{inside_macro}
use Rattle.hir_lower_builder.specs.Lower.{ExprSteps, constant_form, some}
use Rattle.hir_lower_builder.specs.Pats.{Key, SideOutput as Notices, Table, binding_of, key_of, settle}
use Rattle.hir_lower_builder.specs.Pats.{called_pat_form, new_binding, settle_from, use_name, use_of_known}
use Rattle.hir_lower_builder.specs.Types.{TypeSteps, called_type_form}
use Rattle.hir_lower_builder.specs.Ranges.{inner_form}
use Rattle.thm_logic.specs.Calls.{Expansions}
use Rattle.thm_logic.proofs.Calls.{Only, only_emitted}
use Rattle.thm_logic.proofs.MadeSteps.{opens_try, made_label}
use Rattle.thm_logic.proofs.Steps.{Opens, opens}
use Rattle.thm_generics.proofs.Logic.{tracks_pure}
use Rattle.thm_generics.proofs.Steps as tracked
use Rattle.thm_type_result.specs.Named.{Look, of_expr}
use Rattle.thm_type_result.proofs.Counted.{◌⊑◌}
use Rattle.thm_type_result.proofs.Adding.{Numbers, none}
use Rattle.thm_type_result.proofs.Asked.{Adds, Correct, KeptTo, Quiet, Steps, adds_done, adds_expr, adds_made, adds_pure, adds_quiet}
use Rattle.thm_type_result.proofs.Asked.{adds_then, keeps_table, quiet_kept, corresponds}
use Rattle.thm_type_result.proofs.PlainNaming as plain
pub use Rattle.thm_type_result.proofs.PlainNaming.{a_binding, ids}
use Rattle.thm_type_result.proofs.PlainNaming.{pushed_in}

pub quiet_pure : {A : Type 0} (a : A) → Correct (pure a) Quiet
quiet_pure a = adds_pure a (λ f k. omega arith)

pub quiet_then : {A B : Type 0} {p : Lowering A} {q : A → Lowering B} → Correct p Quiet → ((a : A) → Correct (q a) Quiet)
    → Correct (p >>= q) Quiet
quiet_then h k = adds_then h k

pub quiet_some : {A : Type 0} {p : Lowering A} → Correct p Quiet → Correct (some p) Quiet
quiet_some h = quiet_then h (λ a. quiet_pure (Some a))

pub quiet_alloc : (e : HirExpr) (at : Option Pointer) → ((l : Look) → of_expr l e ⊑ []) → Correct (alloc_expr e at) Quiet
quiet_alloc e at h = adds_expr e at h

pub quiet_report : (d : ExpressionStoreDiagnostics) → Correct (report d) Quiet
quiet_report d = corresponds (tracked.tracks_report d) (plain.quiet_report d)

pub quiet_point : (at : Pointer) (i : ExprId) → Correct (point at i) Quiet
quiet_point at i = corresponds (tracked.tracks_point at i) (plain.quiet_point at i)

pub quiet_point_field : (i : ExprId) (at : Pointer) → Correct (point_field i at) Quiet
quiet_point_field i at = corresponds (tracked.tracks_point_field i at) (plain.quiet_point_field i at)

pub quiet_enter_block : (n : Option BlockId) → Correct (enter_block n) Quiet
quiet_enter_block n = corresponds (tracked.tracks_enter_block n) (plain.quiet_enter_block n)

pub quiet_report_await : (at : Pointer) (location : Option AwaitLocation) → Correct (report_await at location) Quiet
quiet_report_await at l = corresponds (tracked.tracks_report_await at l) (plain.quiet_report_await at l)

pub quiet_target : (j : Option Jump) → Correct (jump_target j) Quiet
quiet_target j = corresponds (tracked.tracks_jump_target j) (plain.quiet_target j)

-- steps that only tell
pub quiet_only : {es : Expansions} {ds : List ExpressionStoreDiagnostics} {p : Lowering (Unit {0})} → Only es ds p → Correct p Quiet
quiet_only h = corresponds (tracked.only_quiet h) (plain.quiet_only h)

-- the node of a call leads somewhere

pub quiet_point_pat : (at : Pointer) (i : PatId) → Correct (point_pat at i) Quiet
quiet_point_pat at i = corresponds (tracked.tracks_point_pat at i) (plain.quiet_point_pat at i)

-- a node that is assigned to
pub quiet_point_target : (at : Pointer) (i : PatId) → Correct (point_target at i) Quiet
quiet_point_target at i = corresponds (tracked.tracks_point_target at i) (plain.quiet_point_target at i)

quiet_point_type : (at : Pointer) (i : TypeRefId) → Correct (point_type at i) Quiet
quiet_point_type at i = corresponds (tracked.tracks_point_type at i) (plain.quiet_point_type at i)

-- what a call stands for names what it names

pub called_names : (at : Pointer) (c : Called) {A : Type 0} (pat_in : A → PatId) {now : A → Numbers} {p : Lowering A}
    → Correct p (Adds none now) → Correct (called_pat_form at c pat_in p) (Adds none now)
unfolding called_pat_form
called_names at c pat_in h = adds_then (quiet_only (only_emitted c)) (λ u. adds_then h
    (λ r. adds_then (adds_quiet (quiet_point_pat at (pat_in r))) (λ v. adds_pure r (λ l k. omega arith))))

pub called_type_names : (at : Pointer) (c : Called) {now : TypeRefId → Numbers} {t : TypeSteps} → Correct t (Adds none now)
    → Correct (called_type_form at c t) (Adds none now)
unfolding called_type_form
called_type_names at c h = adds_then (quiet_only (only_emitted c)) (λ u. adds_then h
    (λ i. adds_then (adds_quiet (quiet_point_type at i)) (λ v. adds_pure i (λ l k. omega arith))))

pub quiet_point_pat_field : (i : PatId) (at : Pointer) → Correct (point_pat_field i at) Quiet
quiet_point_pat_field i at = corresponds (tracked.tracks_point_pat_field i at) (plain.quiet_point_pat_field i at)

pub quiet_define : (b : BindingId) (i : PatId) → Correct (define b i) Quiet
quiet_define b i = corresponds (tracked.tracks_define b i) (plain.quiet_define b i)

pub quiet_binding : (x : Binding) → Correct (alloc_binding x) Quiet
quiet_binding x = corresponds (tracked.tracks_binding x) (plain.quiet_binding x)

-- names

new_name : (u : Use) (bs : List ℕ) → Correct (alloc_binding (new_binding u)) (Steps bs none (λ b. b.0 ∷ bs) (λ b l. l.bindings b))
new_name u bs = corresponds (tracked.tracks_binding _) (plain.new_name u bs)

-- a binding that is made up
pub new_made_binding : (x : Binding) → Correct (alloc_binding x) (Adds none (λ b l. l.bindings b))
new_made_binding x = corresponds (tracked.tracks_binding x) (plain.new_made_binding x)

name_of : (u : Use) (t : Table) (b : Option BindingId) → binding_of (key_of u) t ≡ b
    → Correct (use_of_known u t b) (Steps (ids t) none (λ r. ids r.1) a_binding)
name_of u t (Some b) e = corresponds (tracks_pure _) (plain.known_name u t b e)
name_of u t None e = adds_then (new_name u (ids t)) (λ b. adds_done _ (λ l k. omega arith)
    (λ P x. pushed_in P t.bindings (key_of u, b) x.0 x.1))

pub name_adds : (u : Use) (t : Table) → Correct (use_name u t) (Steps (ids t) none (λ r. ids r.1) a_binding)
unfolding use_name
name_adds u t = name_of u t (binding_of (key_of u) t) refl

quiet_settle_from : (tracks : Notices) (number : ℕ) (es : List (Key × BindingId)) → Correct (settle_from tracks number es) Quiet
quiet_settle_from tracks number [] = quiet_pure tt
quiet_settle_from tracks number (e ∷ es) = quiet_then (corresponds (tracked.tracks_problem e.1 _) (plain.quiet_problem e.1 _))
    (λ u. quiet_settle_from tracks (suc number) es)

pub quiet_settle : (t : Table) → Correct (settle t) Quiet
unfolding settle
quiet_settle t = quiet_settle_from t.tracked 0 t.bindings

-- what is open

quiet_close : Correct close Quiet
unfolding close
quiet_close = quiet_kept tracked.tracks_close (λ b. record { exprs = refl; pats = refl; types = refl; bindings = refl })

pub quiet_open_barrier : Correct open_barrier Quiet
unfolding open_barrier
quiet_open_barrier = quiet_kept tracked.tracks_open_barrier (λ b. record { exprs = refl; pats = refl; types = refl; bindings = refl })

pub quiet_close_barrier : (outside : Bool) → Correct (close_barrier outside) Quiet
unfolding close_barrier
quiet_close_barrier outside =
    quiet_kept (tracked.tracks_close_barrier outside) (λ b. record { exprs = refl; pats = refl; types = refl; bindings = refl })

quiet_enter_root : Correct enter_root Quiet
unfolding enter_root
quiet_enter_root = quiet_kept tracked.tracks_enter_root (λ b. record { exprs = refl; pats = refl; types = refl; bindings = refl })

quiet_leave_root : (outer : Bool) (i : ExprId) → Correct (leave_root outer i) Quiet
unfolding leave_root record_root outside_root store_sink.record_root
quiet_leave_root outer i = quiet_kept (tracked.tracks_leave_root outer i) (by outer)
  where
    by : (outer : Bool) (b : Builder) → KeptTo b (leave_root outer i b).0 (leave_root outer i b).1
    by true b = record { exprs = refl; pats = refl; types = refl; bindings = refl }
    by false b = record { exprs = refl; pats = refl; types = refl; bindings = refl }

quiet_open_macro : (d : MacroDefId) → Correct (open_macro d) Quiet
unfolding open_macro
quiet_open_macro d = quiet_kept (tracked.tracks_open_macro d) (λ b. record { exprs = refl; pats = refl; types = refl; bindings = refl })

pub quiet_track_yield : Correct track_yield Quiet
unfolding track_yield
quiet_track_yield = quiet_kept tracked.tracks_track_yield (λ b. record { exprs = refl; pats = refl; types = refl; bindings = refl })

pub quiet_bindings_end : Correct bindings_end Quiet
unfolding bindings_end
quiet_bindings_end = quiet_kept tracked.tracks_bindings_end (λ b. record { exprs = refl; pats = refl; types = refl; bindings = refl })

pub quiet_own : (start : BindingId) (i : ExprId) → Correct (own start i) Quiet
unfolding own store_sink.own
quiet_own start i = quiet_kept (tracked.tracks_own start i) (λ b. record { exprs = refl; pats = refl; types = refl; bindings = refl })

-- a label is stored, and nothing else
opened_to : (made : ℕ) (r : LabelId → Rib LabelId) (l : Label) (b : Builder) (o : Checked LabelId) (c : Builder) → Opens made r l b o c
    → KeptTo b o c
opened_to made r l b (Ok n) c h = record {
  exprs = ap (λ s. s.exprs.entries) h.stored;
  pats = ap (λ s. s.pats.entries) h.stored;
  types = ap (λ s. s.types.entries) h.stored;
  bindings = ap (λ s. length s.bindings.entries) h.stored;
}
opened_to made r l b (Err e) c h = tt

quiet_open_label : (l : Label) → Correct (open_label l) Quiet
quiet_open_label l = quiet_kept (tracked.tracks_open_label l)
    (λ b. opened_to 0 _ l b (open_label l b).0 (open_label l b).1 (opens l b))

quiet_open_try : (at : Pointer) (typed : Bool) → Correct (open_try at typed) Quiet
quiet_open_try at typed = quiet_kept (tracked.tracks_open_try at typed)
    (λ b. opened_to 1 (λ n. try_rib n typed) (made_label at b.names) b (open_try at typed b).0 (open_try at typed b).1
    (opens_try at typed b))

-- what is in it may name things, which are named behind it

pub opened_names : {A B : Type 0} (l : Label) {was : Numbers} {one : A → Numbers} {now : B → Numbers}
    {p : LabelId → Lowering A} {f : LabelId → A → Lowering B}
    → ((n : LabelId) → Correct (p n) (Adds was one)) → ((n : LabelId) (a : A) → Correct (f n a) (Adds (one a) now))
    → Correct (open_label l >>= (λ n. p n >>= (λ a. close >>= (λ _. f n a)))) (Adds was now)
opened_names l hp hf = adds_then (adds_quiet (quiet_open_label l))
    (λ n. adds_then (hp n) (λ a. adds_then (adds_quiet quiet_close) (λ u. hf n a)))

pub quiet_opened : {A B : Type 0} (l : Label) {p : LabelId → Lowering A} {f : LabelId → A → Lowering B}
    → ((n : LabelId) → Correct (p n) Quiet) → ((n : LabelId) (a : A) → Correct (f n a) Quiet)
    → Correct (open_label l >>= (λ n. p n >>= (λ a. close >>= (λ _. f n a)))) Quiet
quiet_opened l hp hf = opened_names l hp hf

pub opened_try_names : {A B C : Type 0} (at : Pointer) (typed : Bool) {one : A → Numbers} {s : Lowering C} {p : Lowering A}
    {f : LabelId → A → Lowering B} → Correct s Quiet → Correct p (Adds none one)
    → ((n : LabelId) (a : A) → Correct (f n a) (Adds (one a) (λ b. none)))
    → Correct (open_try at typed >>= (λ n. s >>= (λ u. p >>= (λ a. close >>= (λ _. f n a))))) Quiet
opened_try_names at typed hs hp hf = adds_then (quiet_open_try at typed) (λ n. adds_then hs (λ u. adds_then hp
    (λ a. adds_then (adds_quiet quiet_close) (λ v. hf n a))))

-- what is made up

pub quiet_made : (e : HirExpr) (at : Option Pointer) → ((l : Look) → of_expr l e ⊑ []) → Correct (alloc_desugared e at) Quiet
quiet_made e at h = adds_made e at h

pub quiet_number : Correct made_number Quiet
quiet_number = corresponds tracked.tracks_made_number plain.quiet_number

pub quiet_try_target : Correct try_target Quiet
quiet_try_target = corresponds tracked.tracks_try_target plain.quiet_try_target

-- whatever owns bindings
pub adds_owning : {A : Type 0} {was : Numbers} {now : A → Numbers} (owner : A → ExprId) {p : Lowering A}
    → Correct p (Adds was now) → Correct (owning owner p) (Adds was now)
unfolding owning
adds_owning owner h = adds_then (adds_quiet quiet_bindings_end) (λ start. adds_then h
    (λ a. adds_then (adds_quiet (quiet_own start (owner a))) (λ u. adds_pure a (λ l k. omega arith))))

-- inside of a definition of a macro, with a table
pub defined_names : (d : MacroDefId) {A : Type 0} {bs : List ℕ} {was : Numbers} {cs : A → List ℕ} {now : A → Numbers} {p : Lowering A}
    → Correct p (Steps bs was cs now) → Correct (inside_macro d p) (Steps bs was cs now)
unfolding inside_macro
defined_names d h = adds_then (keeps_table (adds_quiet (quiet_open_macro d)))
    (λ u. adds_then h (λ a. adds_then (keeps_table (adds_quiet quiet_close)) (λ v. adds_done a (λ l k. omega arith) (λ P x. x))))

-- a body inside stores no expression but its own

pub quiet_constant : {p : ExprSteps} → Correct p Quiet → Correct (constant_form p) Quiet
unfolding constant_form
quiet_constant h = quiet_then quiet_open_barrier (λ outside. quiet_then quiet_enter_root (λ outer. quiet_then h
    (λ i. quiet_then (quiet_close_barrier outside) (λ y. quiet_then (quiet_leave_root outer i) (λ u. quiet_pure _)))))

-- the end of a range in a type
pub quiet_inner : {p : ExprSteps} → Correct p Quiet → Correct (inner_form p) Quiet
unfolding inner_form
quiet_inner h = quiet_then quiet_open_barrier (λ outside. quiet_then quiet_enter_root (λ outer. quiet_then h
    (λ i. quiet_then (quiet_close_barrier outside) (λ y. quiet_then (quiet_leave_root outer i) (λ u. quiet_pure _)))))
