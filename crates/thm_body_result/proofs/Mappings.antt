-- Each step of lowering is such a step.
use Rattle.std.proofs.Common.{◌≡◌, [], arith, refl, ℕ, suc, ◌^◌, ◌≤◌, Bool, true, false, nat_lt, length}
use Rattle.std.proofs.Common.{if◌then◌else◌}
use Rattle.std.proofs.Common.{List, ◌∷◌, Option, Some, None, Ok}
use Rattle.indexmap.specs.IndexMap.{insert_entry}
use Rattle.hir_base.specs.declared.node.HirFileId.{HirFileId}
use Rattle.hir_base.specs.declared.node.TextRange.{TextRange}
use Rattle.hir_store.specs.Pointers.{Pointer, same_pointer}
use Rattle.hir_store.proofs.Arenas.{prefix_push, prefix_refl}
use Rattle.hir_store.specs.Arenas.{Sourced, with_entry, with_made, with_mapping}
use Rattle.hir_store.specs.Stored.{Stored}
use Rattle.hir_store.specs.StoreSink as store_sink
use Rattle.hir_store.specs.Bindings.{binding_id, with_binding}
use Rattle.hir_store.specs.StoreSink.{expr_id, label_id, lifetime_id, pat_id, type_id}
use Rattle.hir_store.specs.declared.diagnostics.ExpressionStoreDiagnostics.{ExpressionStoreDiagnostics}
use Rattle.hir_store.specs.declared.hir.Expr.{Expr}
use Rattle.hir_store.specs.declared.hir.Label.{Label as HirLabel}
use Rattle.hir_store.specs.declared.pat.Binding.{Binding}
use Rattle.hir_store.specs.declared.pat.Pat.{Pat as HirPat}
use Rattle.hir_store.specs.declared.ids.ExprId.{ExprId}
use Rattle.hir_store.specs.declared.ids.LabelId.{LabelId}
use Rattle.hir_store.specs.declared.ids.MacroDefId.{MacroDefId}
use Rattle.hir_store.specs.declared.ids.BindingId.{BindingId}
use Rattle.hir_store.specs.declared.ids.PatId.{PatId}
use Rattle.hir_store.specs.declared.ids.TypeRefId.{TypeRefId}
use Rattle.hir_store.specs.declared.type_ref.LifetimeRef.{LifetimeRef}
use Rattle.hir_store.specs.declared.type_ref.TypeRef.{TypeRef}
use Rattle.hir_store.specs.declared.ids.BlockId.{BlockId}
use Rattle.hir_store.specs.declared.ids.CfgId.{CfgId}
use Rattle.hir_store.specs.declared.generics.TypeOrConstParamData.{TypeOrConstParamData}
use Rattle.hir_store.specs.declared.path.Path.{Path as HirPath}
use Rattle.hir_store.specs.declared.type_ref.TypeBound.{TypeBound}
use Rattle.hir_env.specs.declared.ctx.ImplTrait.{ImplTrait}
use Rattle.hir_env.specs.declared.ctx.ImplTrait.TheVariants as becomes
use Rattle.hir_env.specs.ResolvedTree as tree
use Rattle.hir_env.specs.ResolvedTree.{Called, Entered, Gone, Label, Jump}
use Rattle.hir_env.specs.Answers.{Eager}
use Rattle.hir_env.specs.NodeMap.{Site}
use Rattle.hir_lower_scope.specs.ScopeRibs.{Target, reachable, unreachable, undeclared, target}
use Rattle.hir_lower_scope.specs.Labels.{rest}
use Rattle.hir_lower_builder.specs.Builder.{Builder}
use Rattle.hir_lower_builder.specs.Calls.{define_form, defined, inside_macro, track, track_each, track_gone, record_each}
use Rattle.hir_lower_builder.specs.Calls.{report_condition, emitted}
use Rattle.hir_lower_builder.specs.Lowering.{Lowering, ◌>>=◌, pure, alloc_expr, alloc_lifetime, alloc_type, point, report, stored}
use Rattle.hir_lower_builder.specs.Lowering.{alloc_binding, alloc_desugared, alloc_desugared_pat, alloc_pat, define, made_number, point_pat}
use Rattle.hir_lower_builder.specs.Lowering.{count_def, open_macro, point_pat_field, point_target, point_type, record_expansion}
use Rattle.hir_lower_builder.specs.Lowering.{open_try, open_try_as, open_try_named, try_target}
use Rattle.hir_lower_builder.specs.Lowering.{close_barrier, track_yield}
use Rattle.hir_lower_builder.specs.Lowering.{point_field, open_barrier, enter_root, outside_root, leave_root, record_root}
use Rattle.hir_lower_builder.specs.Lowering.{enter_block, open_label, close, jump_target, found_or_fault, open_as, count_out}
use Rattle.hir_lower_builder.specs.declared.generics.SideOutput.{SideOutput}
use Rattle.hir_lower_builder.specs.Generics.{with_bounds}
use Rattle.hir_lower_builder.specs.Lowering.{◌>>◌, add_param, argument_form, becoming, input_end, track_down, param_numbered}
use Rattle.hir_lower_builder.specs.Lowering.{with_side_output, with_stored}
use Rattle.hir_lower_builder.specs.Paths.{with_alias, cut_back}
use Rattle.thm_logic.proofs.Logic.{one_more}
use Rattle.thm_body_result.specs.LeadsOn.{expr_place, label_place, pat_place, type_place, lifetime_place, Went}
use Rattle.thm_body_result.proofs.Onward.{on_refl, on_trans, on_insert, onward_refl, onward_entry, onward_made, onward_mapping}
use Rattle.thm_body_result.proofs.Onward.{arenas, went_refl, went_exprs, went_pats, went_types, Low, any, since, new_pat, new_type}
use Rattle.thm_body_result.proofs.Onward.{Leading, leading_added, leading_aside, leading_changing, leading_pure, makes_type, then'}

pub leading_count_out : {A : Type 0} → Leading any (count_out {A = A})
unfolding count_out
leading_count_out = leading_aside (λ b. refl)

-- what a definition of a macro counts and opens is nothing stored
counted_leads : (t : Bool) → Leading any (if t then pure tt else count_out {A = Unit {0}})
counted_leads true = leading_pure tt
counted_leads false = leading_count_out

pub leading_define_macro : (k : ℕ) (d : Option MacroDefId) → Leading any (define_form k d)
unfolding define_form count_def
leading_define_macro k d = then' (counted_leads (nat_lt (suc k) (2 ^ 32))) (λ u. leading_pure (Some (defined d)))

leading_open_macro : (d : MacroDefId) → Leading any (open_macro d)
unfolding open_macro
leading_open_macro d = leading_aside (λ b. refl)

pub leading_report : (d : ExpressionStoreDiagnostics) → Leading any (report d)
unfolding report store_sink.report
leading_report d = leading_aside (λ b. refl)

-- nor does a call that is recorded
leading_expansion : (call : Site) (range : Option TextRange) (file : HirFileId) → Leading any (record_expansion call range file)
unfolding record_expansion store_sink.record_expansion
leading_expansion call range file = leading_aside (λ b. refl)

leading_each : (es : List Eager) → Leading any (record_each es)
leading_each [] = leading_pure tt
leading_each (e ∷ es) = then' (leading_expansion e.0 None e.1) (λ u. leading_each es)

pub leading_call : (c : Entered) → Leading any (track c)
unfolding track
leading_call c = then' (leading_each c.eager) (λ u. leading_expansion _ _ c.file)

pub leading_emitted : (c : Called) → Leading any (emitted c)
leading_emitted tree.callless = leading_pure tt
leading_emitted tree.unentered = leading_pure tt
leading_emitted (tree.unresolved at path) = leading_report _
leading_emitted (tree.entered c) = leading_call c
leading_emitted tree.spliced = leading_pure tt

leading_calls : (cs : List Entered) → Leading any (track_each cs)
leading_calls [] = leading_pure tt
leading_calls (c ∷ cs) = then' (leading_call c) (λ u. leading_calls cs)

leading_condition : (o : Option (Pointer × CfgId)) → Leading any (report_condition o)
leading_condition None = leading_pure tt
leading_condition (Some c) = leading_report _

pub leading_gone : (why : Gone) → Leading any (track_gone why)
unfolding track_gone
leading_gone why = then' (leading_calls why.entered) (λ u. leading_condition why.condition)

-- where a value leads to is no way of a node
pub leading_point_field : (i : ExprId) (at : Pointer) → Leading any (point_field i at)
unfolding point_field store_sink.point_field
leading_point_field i at = leading_aside (λ b. refl)

pub leading_block : (n : Option BlockId) → Leading any (enter_block n)
unfolding enter_block store_sink.enter_block
leading_block None = leading_pure tt
leading_block (Some n) = leading_aside (λ b. refl)

pub leading_barrier : Leading any open_barrier
unfolding open_barrier
leading_barrier = leading_aside (λ b. refl)

pub leading_close_barrier : (outside : Bool) → Leading any (close_barrier outside)
unfolding close_barrier
leading_close_barrier outside = leading_aside (λ b. refl)

pub leading_track : Leading any track_yield
unfolding track_yield
leading_track = leading_aside (λ b. refl)

pub leading_enter : Leading any enter_root
unfolding enter_root
leading_enter = leading_aside (λ b. refl)

leading_outside : Leading any outside_root
unfolding outside_root
leading_outside = leading_aside (λ b. refl)

leading_record : (i : ExprId) → Leading any (record_root i)
unfolding record_root store_sink.record_root
leading_record i = leading_aside (λ b. refl)

pub leading_leave : (outer : Bool) (i : ExprId) → Leading any (leave_root outer i)
unfolding leave_root
leading_leave true i = leading_pure tt
leading_leave false i = then' (leading_record i) (λ u. leading_outside)

pub leading_close : Leading any close
unfolding close
leading_close = leading_aside (λ b. refl)

pub leading_inside_macro : {A : Type 0} (d : MacroDefId) {p : Lowering A} → Leading any p → Leading any (inside_macro d p)
unfolding inside_macro
leading_inside_macro d h = then' (leading_open_macro d) (λ u. then' h (λ x. then' leading_close (λ v. leading_pure x)))

pub leading_jump : (j : Option Jump) → Leading any (jump_target j)
unfolding jump_target report store_sink.report
leading_jump None = leading_pure None
leading_jump (Some j) = leading_aside (λ b. by b (target j b.scopes))
  where
    by : (b : Builder) (t : Target LabelId) → arenas (found_or_fault j t b).1.stored ≡ arenas b.stored
    by b (reachable n) = refl
    by b unreachable = refl
    by b undeclared = refl

-- entries

-- where another one fits
abbrev has_room : {E I : Type 0} → Sourced E I → Bool
has_room a = nat_lt (length a.entries) a.limit

pub leading_alloc : (e : Expr) (source : Option Pointer) → Leading since (alloc_expr e source)
unfolding alloc_expr store_sink.alloc_expr
leading_alloc e source = leading_added (λ s. s.exprs) (λ s a. record s { exprs = a }) has_room (λ a. expr_id (length a.entries))
    (λ a. with_entry expr_id a e source)
    (λ s. (went_exprs (went_refl s) _ (onward_entry expr_place expr_id (λ n. refl) s.exprs e source), omega arith)) went_refl

-- its node doesn't lead to it
pub leading_made : (e : Expr) (source : Option Pointer) → Leading since (alloc_desugared e source)
unfolding alloc_desugared store_sink.alloc_desugared
leading_made e source = leading_added (λ s. s.exprs) (λ s a. record s { exprs = a }) has_room (λ a. expr_id (length a.entries))
    (λ a. with_made a e source)
    (λ s. (went_exprs (went_refl s) _ (onward_made expr_place s.exprs e source), omega arith)) went_refl

pub leading_alloc_pat : (p : HirPat) (source : Option Pointer) → Leading new_pat (alloc_pat p source)
unfolding alloc_pat store_sink.alloc_pat
leading_alloc_pat p source = leading_added (λ s. s.pats) (λ s a. record s { pats = a }) has_room (λ a. pat_id (length a.entries))
    (λ a. with_entry pat_id a p source)
    (λ s. (went_pats (went_refl s) _ (onward_entry pat_place pat_id (λ n. refl) s.pats p source), omega arith)) went_refl

-- no node leads to it at once
pub leading_made_pat : (p : HirPat) (from : Option Pointer) → Leading new_pat (alloc_desugared_pat p from)
unfolding alloc_desugared_pat store_sink.alloc_desugared_pat
leading_made_pat p from = leading_added (λ s. s.pats) (λ s a. record s { pats = a }) has_room (λ a. pat_id (length a.entries))
    (λ a. with_made a p from)
    (λ s. (went_pats (went_refl s) _ (onward_made pat_place s.pats p from), omega arith)) went_refl

-- no node leads to a binding

-- it is a binding that came since
abbrev pub new : Low BindingId
new s b = length s.bindings.entries ≤ b.0

pub leading_alloc_binding : (x : Binding) → Leading new (alloc_binding x)
unfolding alloc_binding store_sink.alloc_binding
leading_alloc_binding x = leading_added (λ s. s.bindings) (λ s a. record s { bindings = a }) (λ a. nat_lt (length a.entries) a.limit)
    (λ a. binding_id (length a.entries)) (λ a. with_binding a x) (λ s. (bound s, omega arith)) went_refl
  where
    bound : (s : Stored) → Went s (record s { bindings = with_binding s.bindings x })
    bound s = record {
      exprs = onward_refl expr_place _;
      labels = onward_refl label_place _;
      pats = onward_refl pat_place _;
      targets = on_refl pat_place _ _;
      types = onward_refl type_place _;
      lifetimes = onward_refl lifetime_place _;
      bindings = prefix_push s.bindings.entries x;
      owners = λ m. (prefix_push s.bindings.owners None, one_more s.bindings.entries x s.bindings.owners None m);
    }

pub leading_define : (id : BindingId) (p : PatId) → Leading any (define id p)
unfolding define store_sink.define
leading_define id p = leading_aside (λ b. refl)

pub leading_point_pat_field : (id : PatId) (at : Pointer) → Leading any (point_pat_field id at)
unfolding point_pat_field store_sink.point_pat_field
leading_point_pat_field id at = leading_aside (λ b. refl)

pub leading_alloc_type : (e : TypeRef) (source : Option Pointer) → Leading new_type (alloc_type e source)
unfolding alloc_type store_sink.alloc_type
leading_alloc_type e source = leading_added (λ s. s.types) (λ s a. record s { types = a }) has_room (λ a. type_id (length a.entries))
    (λ a. with_entry type_id a e source)
    (λ s. (went_types (went_refl s) _ (onward_entry type_place type_id (λ n. refl) s.types e source), omega arith)) went_refl

pub leading_alloc_lifetime : (e : LifetimeRef) (source : Option Pointer) → Leading any (alloc_lifetime e source)
unfolding alloc_lifetime store_sink.alloc_lifetime
leading_alloc_lifetime e source = leading_added (λ s. s.lifetimes) (λ s a. record s { lifetimes = a }) has_room
    (λ a. lifetime_id (length a.entries)) (λ a. with_entry lifetime_id a e source) (λ s. (entered s, tt)) went_refl
  where
    entered : (s : Stored) → Went s (record s { lifetimes = with_entry lifetime_id s.lifetimes e source })
    entered s = record {
      exprs = onward_refl expr_place _;
      labels = onward_refl label_place _;
      pats = onward_refl pat_place _;
      targets = on_refl pat_place _ _;
      types = onward_refl type_place _;
      lifetimes = onward_entry lifetime_place lifetime_id (λ n. refl) s.lifetimes e source;
      bindings = prefix_refl _;
      owners = λ m. (prefix_refl _, m);
    }

-- what is noted beside it

pub leading_track_down : (f : SideOutput → SideOutput) → Leading any (track_down f)
unfolding track_down
leading_track_down f = leading_aside (λ b. refl)

pub leading_tracked : (f : SideOutput → SideOutput) {A : Type 0} {p : Lowering A} → Leading any p → Leading any (track_down f >> p)
leading_tracked f h = then' (leading_track_down f) (λ u. h)

leading_with_tracks : {A : Type 0} {L : Low A} {f : SideOutput → Lowering A} → ((n : SideOutput) → Leading L (f n))
    → Leading L (with_side_output f)
unfolding with_side_output
leading_with_tracks h = record { goes = λ b. (h b.tracks).goes b }

leading_with_stored : {A : Type 0} {L : Low A} {f : Stored → Lowering A} → ((s : Stored) → Leading L (f s)) → Leading L (with_stored f)
unfolding with_stored
leading_with_stored h = record { goes = λ b. (h b.stored).goes b }

leading_input_end : Leading any input_end
unfolding input_end
leading_input_end = leading_with_tracks (λ n. leading_pure _)

leading_cut_back : (n : ℕ) (places : List Bool) (p : Option HirPath) → Leading any (cut_back n places p)
unfolding cut_back
leading_cut_back n places p = leading_with_stored (λ s. leading_track_down _)

pub leading_aliased : (alias : Option (List Bool)) {p : Lowering (Option HirPath)} → Leading any p → Leading any (with_alias alias p)
leading_aliased None h = h
leading_aliased (Some places) h =
    then' leading_input_end (λ n. then' h (λ p. then' (leading_cut_back n places p) (λ u. leading_pure p)))

leading_add_param : (x : TypeOrConstParamData) → Leading any (add_param x)
unfolding add_param
leading_add_param x =
    leading_with_tracks (λ n. by (length n.generics.type_or_consts) (nat_lt (length n.generics.type_or_consts) 4294967295))
  where
    by : (k : ℕ) (b : Bool) → Leading any (param_numbered x k b)
    by k true = leading_tracked _ (leading_pure k)
    by k false = leading_count_out

-- behind what answers a type that came since
type_and_track : (f : TypeRefId → SideOutput → SideOutput) {p : Lowering TypeRefId} → Leading new_type p
    → Leading new_type (p >>= (λ t. track_down (f t) >>= (λ _. pure t)))
unfolding track_down
type_and_track f h = leading_changing (λ t c. record c { tracks = f t c.tracks }) (λ s t c w l. w) h

-- what an `impl` becomes is a type that came since
pub leading_becoming : (at : Pointer) (mode : ImplTrait) (bounds : List TypeBound) → Leading new_type (becoming at mode bounds)
unfolding argument_form
leading_becoming at becomes.Error bounds = leading_alloc_type _ _
leading_becoming at becomes.Opaque bounds = leading_alloc_type _ _
leading_becoming at (becomes.Argument def) bounds = makes_type (leading_add_param _)
    (λ k. type_and_track (λ t. with_bounds t bounds) (leading_alloc_type _ (Some at)))

-- a label is stored, and then opened

leading_alloc_label : (l : HirLabel) (source : Option Pointer) → Leading any (stored (store_sink.alloc_label l source))
unfolding store_sink.alloc_label
leading_alloc_label l source = leading_added (λ s. s.labels) (λ s a. record s { labels = a }) has_room (λ a. label_id (length a.entries))
    (λ a. with_entry label_id a l source) (λ s. (entered s, tt)) went_refl
  where
    entered : (s : Stored) → Went s (record s { labels = with_entry label_id s.labels l source })
    entered s = record {
      exprs = onward_refl expr_place _;
      labels = onward_entry label_place label_id (λ n. refl) s.labels l source;
      pats = onward_refl pat_place _;
      targets = on_refl pat_place _ _;
      types = onward_refl type_place _;
      lifetimes = onward_refl lifetime_place _;
      bindings = prefix_refl _;
      owners = λ m. (prefix_refl _, m);
    }

pub leading_open : (l : Label) → Leading any (open_label l)
unfolding open_label
leading_open l = then' (leading_alloc_label _ _) (λ n. then' (opened n) (λ u. leading_pure n))
  where
    opened : (n : LabelId) → Leading any (open_as l n)
    opened n = leading_aside (λ b. refl)

-- the number of a made name, where there is one more
pub leading_number : Leading any made_number
unfolding made_number count_out
leading_number = leading_aside (λ b. by b (nat_lt (suc b.names) (2 ^ 32)))
  where
    by : (b : Builder) (room : Bool)
        → arenas (if room then (Ok b.names, record b { names = suc b.names }) else count_out b).1.stored ≡ arenas b.stored
    by b true = refl
    by b false = refl

leading_open_named : (at : Pointer) (typed : Bool) (n : ℕ) → Leading any (open_try_named at typed n)
leading_open_named at typed n = then' (leading_alloc_label _ _) (λ l. then' (opened l) (λ u. leading_pure l))
  where
    opened : (l : LabelId) → Leading any (open_try_as l typed)
    opened l = leading_aside (λ b. refl)

pub leading_open_try : (at : Pointer) (typed : Bool) → Leading any (open_try at typed)
unfolding open_try
leading_open_try at typed = then' leading_number (λ n. leading_open_named at typed n)

pub leading_try_target : Leading any try_target
unfolding try_target
leading_try_target = leading_aside (λ b. refl)

-- a node more leads to what has come since
pub leading_point : (at : Pointer) {p : Lowering ExprId} → Leading since p → Leading since (p >>= (λ i. point at i >>= (λ _. pure i)))
unfolding point store_sink.point
leading_point at h = leading_changing (λ i c. record c { stored = record c.stored { exprs = with_mapping c.stored.exprs at i } })
    (λ s i c w l. went_exprs w _ (onward_mapping expr_place w.exprs at i l)) h

pub leading_point_pat : {A : Type 0} (at : Pointer) (pat_in : A → PatId) {L : Low A} {p : Lowering A}
    → ((s : Stored) (a : A) → L s a → new_pat s (pat_in a)) → Leading L p
    → Leading L (p >>= (λ a. point_pat at (pat_in a) >>= (λ _. pure a)))
unfolding point_pat store_sink.point_pat
leading_point_pat at pat_in new h =
    leading_changing (λ a c. record c { stored = record c.stored { pats = with_mapping c.stored.pats at (pat_in a) } })
    (λ s a c w l. went_pats w _ (onward_mapping pat_place w.pats at (pat_in a) (new s a l))) h

-- of the assignee expression
pub leading_point_target : (at : Pointer) {p : Lowering PatId} → Leading new_pat p
    → Leading new_pat (p >>= (λ i. point_target at i >>= (λ _. pure i)))
unfolding point_target store_sink.point_target
leading_point_target at h = leading_changing
    (λ i c. record c { stored = record c.stored { target_map = insert_entry same_pointer c.stored.target_map at i } })
    (λ s i c w l. record {
      exprs = w.exprs;
      labels = w.labels;
      pats = w.pats;
      targets = on_trans pat_place _ _ _ _ w.targets (on_insert pat_place _ c.stored.target_map at i l);
      types = w.types;
      lifetimes = w.lifetimes;
      bindings = w.bindings;
      owners = w.owners;
    }) h

pub leading_point_type : (at : Pointer) {p : Lowering TypeRefId} → Leading new_type p
    → Leading new_type (p >>= (λ i. point_type at i >>= (λ _. pure i)))
unfolding point_type store_sink.point_type
leading_point_type at h = leading_changing (λ i c. record c { stored = record c.stored { types = with_mapping c.stored.types at i } })
    (λ s i c w l. went_types w _ (onward_mapping type_place w.types at i l)) h

-- what is open is closed behind an expression
pub leading_closed : {p : Lowering ExprId} → Leading since p → Leading since (p >>= (λ i. close >>= (λ _. pure i)))
unfolding close
leading_closed h = leading_changing (λ i c. record c { scopes = rest c.scopes }) (λ s i c w l. w) h
