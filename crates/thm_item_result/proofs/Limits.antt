-- Steps that hold no more than they may, and count as far as 32 bits do.
use Rattle.std.proofs.Common.{◌≡◌, refl, sym, subst, arith, ℕ, suc, ◌<◌, ◌≤◌, ◌^◌, nat_lt, if◌then◌else◌, length, length-append}
use Rattle.std.proofs.Common.{Bool, true, false, List, [], ◌∷◌, ◌++◌, Option, Some, None, Ok, Err}
use Rattle.std.proofs.lemmas.Bool.{ltb-true}
use Rattle.hir_binding.specs.declared.binding.BindingProblems.{BindingProblems}
use Rattle.hir_store.specs.Arenas.{Sourced, with_entry, with_made}
use Rattle.hir_store.specs.Bindings.{Bindings, binding_id, problem_set, with_binding}
use Rattle.hir_store.specs.Pointers.{Pointer}
use Rattle.hir_store.specs.Stored.{Stored}
use Rattle.hir_store.specs.StoreSink as store_sink
use Rattle.hir_store.specs.StoreSink.{expr_id, label_id, lifetime_id, pat_id, type_id}
use Rattle.hir_store.proofs.BindingLemmas.{length_at}
use Rattle.hir_store.specs.declared.diagnostics.ExpressionStoreDiagnostics.{ExpressionStoreDiagnostics}
use Rattle.hir_store.specs.declared.error.StoreError.TheVariants.{Full}
use Rattle.hir_store.specs.declared.generics.TypeOrConstParamData.{TypeOrConstParamData}
use Rattle.hir_store.specs.declared.hir.Expr.{Expr}
use Rattle.hir_store.specs.declared.hir.Label.{Label as HirLabel}
use Rattle.hir_store.specs.declared.ids.BindingId.{BindingId}
use Rattle.hir_store.specs.declared.ids.BlockId.{BlockId}
use Rattle.hir_store.specs.declared.ids.ExprId.{ExprId}
use Rattle.hir_store.specs.declared.ids.LabelId.{LabelId}
use Rattle.hir_store.specs.declared.ids.PatId.{PatId}
use Rattle.hir_store.specs.declared.ids.TypeRefId.{TypeRefId}
use Rattle.hir_store.specs.declared.pat.Binding.{Binding}
use Rattle.hir_store.specs.declared.pat.Pat.{Pat}
use Rattle.hir_store.specs.declared.type_ref.LifetimeRef.{LifetimeRef}
use Rattle.hir_store.specs.declared.type_ref.TypeRef.{TypeRef}
use Rattle.hir_env.specs.ResolvedTree.{Jump, Label}
use Rattle.hir_lower_scope.specs.ScopeRibs.{Target, reachable, undeclared, unreachable, target}
use Rattle.hir_lower_builder.specs.Builder.{Builder}
use Rattle.hir_lower_builder.specs.Lowering.{Checked, go_on, Lowering, ◌>>=◌, pure, add_param, alloc_binding, alloc_expr, alloc_lifetime}
use Rattle.hir_lower_builder.specs.Lowering.{alloc_desugared, alloc_desugared_pat, alloc_pat, alloc_type, bindings_end, close}
use Rattle.hir_lower_builder.specs.Lowering.{close_barrier}
use Rattle.hir_lower_builder.specs.Lowering.{count_out}
use Rattle.hir_lower_builder.specs.Lowering.{define, enter_block, enter_root, found_or_fault, jump_target, leave_root, made_number}
use Rattle.hir_lower_builder.specs.Lowering.{track_down, track_yield, open_as, open_barrier, open_label, open_try, open_try_as}
use Rattle.hir_lower_builder.specs.Lowering.{outside_root, own, owning, param_numbered, point, point_field, point_pat, point_pat_field}
use Rattle.hir_lower_builder.specs.Lowering.{point_target, point_type, record_root, report, set_problem, stored, try_target}
use Rattle.hir_lower_builder.specs.Lowering.{with_side_output}
use Rattle.hir_lower_builder.specs.Lowering.{with_stored}
use Rattle.hir_lower_builder.specs.declared.generics.SideOutput.{SideOutput}
use Rattle.thm_logic.specs.Calls.{Expansions}
use Rattle.thm_logic.proofs.Calls.{Only}
use Rattle.thm_logic.proofs.Tracked.{KeepsParams}
use Rattle.thm_logic.proofs.Answering.{Answering, AnsweredTo}
use Rattle.thm_item_result.specs.Exceeding.{InLimits}

abbrev pub LimitsTo : {A : Type 0} → Checked A → Builder → Type 0
LimitsTo (Ok a) c = InLimits c
LimitsTo (Err e) c = Unit {0}

pub record Limited {A : Type 0} (p : Lowering A) : Type 0 where
  pub limited : (b : Builder) → InLimits b → LimitsTo (p b).0 (p b).1

-- one after another

pub limited_pure : {A : Type 0} (a : A) → Limited (pure a)
limited_pure a = record { limited = λ b h. h }

pub limited_then : {A B : Type 0} {p : Lowering A} {f : A → Lowering B} → Limited p → ((a : A) → Limited (f a)) → Limited (p >>= f)
limited_then {A = A} {p = p} {f = f} h k = record { limited = λ b d. by (p b).0 (p b).1 (h.limited b d) }
  where
    by : (o : Checked A) (c : Builder) → LimitsTo o c → LimitsTo (go_on o c f).0 (go_on o c f).1
    by (Ok a) c x = (k a).limited c x
    by (Err e) c x = tt

-- where it is known what the first answers
pub limited_where : {A B : Type 0} {P : A → Type 0} {p : Lowering A} {f : A → Lowering B} → Limited p → Answering P p
    → ((a : A) → P a → Limited (f a)) → Limited (p >>= f)
limited_where {A = A} {P = P} {p = p} {f = f} h t k =
    record { limited = λ b d. by (p b).0 (p b).1 (h.limited b d) (t.answers b) }
  where
    by : (o : Checked A) (c : Builder) → LimitsTo o c → AnsweredTo P o → LimitsTo (go_on o c f).0 (go_on o c f).1
    by (Ok a) c x y = (k a y).limited c x
    by (Err e) c x y = tt

-- what is stored: one entry more, where the limit allows one

one_fits : {T : Type 0} (xs : List T) (x : T) (limit : ℕ) → nat_lt (length xs) limit ≡ true → length (xs ++ x ∷ []) ≤ limit
one_fits xs x limit is = let n = length-append xs (x ∷ []) in let room = ltb-true (length xs) limit is in omega (arith, n, room)

abbrev added : {T I : Type 0} → Bool → (ℕ → I) → T → Option Pointer → Sourced T I → Checked I × Sourced T I
added t number x at a = if t then (Ok (number (length a.entries)), with_entry number a x at) else (Err Full, a)

-- to which no node leads
abbrev added_alone : {T I : Type 0} → Bool → (ℕ → I) → T → Option Pointer → Sourced T I → Checked I × Sourced T I
added_alone t number x at a = if t then (Ok (number (length a.entries)), with_made a x at) else (Err Full, a)

pub limited_expr : (e : Expr) (at : Option Pointer) → Limited (alloc_expr e at)
unfolding alloc_expr store_sink.alloc_expr
limited_expr e at = record { limited = λ b h. by b h (nat_lt (length b.stored.exprs.entries) b.stored.exprs.limit) refl }
  where
    by : (b : Builder) → InLimits b → (t : Bool) → nat_lt (length b.stored.exprs.entries) b.stored.exprs.limit ≡ t
        → let r = added t expr_id e at b.stored.exprs in LimitsTo r.0 (record b { stored = record b.stored { exprs = r.1 } })
    by b h true is = let f = h.0 in ((one_fits b.stored.exprs.entries e b.stored.exprs.limit is, f.1, f.2, f.3, f.4, f.5), h.1, h.2)
    by b h false is = tt

pub limited_made : (e : Expr) (at : Option Pointer) → Limited (alloc_desugared e at)
unfolding alloc_desugared store_sink.alloc_desugared
limited_made e at = record { limited = λ b h. by b h (nat_lt (length b.stored.exprs.entries) b.stored.exprs.limit) refl }
  where
    by : (b : Builder) → InLimits b → (t : Bool) → nat_lt (length b.stored.exprs.entries) b.stored.exprs.limit ≡ t
        → let r = added_alone t expr_id e at b.stored.exprs in LimitsTo r.0 (record b { stored = record b.stored { exprs = r.1 } })
    by b h true is = let f = h.0 in ((one_fits b.stored.exprs.entries e b.stored.exprs.limit is, f.1, f.2, f.3, f.4, f.5), h.1, h.2)
    by b h false is = tt

limited_label : (l : HirLabel) (at : Option Pointer) → Limited (stored (store_sink.alloc_label l at))
unfolding store_sink.alloc_label
limited_label l at = record { limited = λ b h. by b h (nat_lt (length b.stored.labels.entries) b.stored.labels.limit) refl }
  where
    by : (b : Builder) → InLimits b → (t : Bool) → nat_lt (length b.stored.labels.entries) b.stored.labels.limit ≡ t
        → let r = added t label_id l at b.stored.labels in LimitsTo r.0 (record b { stored = record b.stored { labels = r.1 } })
    by b h true is = let f = h.0 in ((f.0, one_fits b.stored.labels.entries l b.stored.labels.limit is, f.2, f.3, f.4, f.5), h.1, h.2)
    by b h false is = tt

pub limited_type : (t : TypeRef) (at : Option Pointer) → Limited (alloc_type t at)
unfolding alloc_type store_sink.alloc_type
limited_type x at = record { limited = λ b h. by b h (nat_lt (length b.stored.types.entries) b.stored.types.limit) refl }
  where
    by : (b : Builder) → InLimits b → (t : Bool) → nat_lt (length b.stored.types.entries) b.stored.types.limit ≡ t
        → let r = added t type_id x at b.stored.types in LimitsTo r.0 (record b { stored = record b.stored { types = r.1 } })
    by b h true is = let f = h.0 in
        ((f.0, f.1, one_fits b.stored.types.entries x b.stored.types.limit is, f.3, f.4, f.5), h.1, h.2)
    by b h false is = tt

pub limited_lifetime : (l : LifetimeRef) (at : Option Pointer) → Limited (alloc_lifetime l at)
unfolding alloc_lifetime store_sink.alloc_lifetime
limited_lifetime x at = record { limited = λ b h. by b h (nat_lt (length b.stored.lifetimes.entries) b.stored.lifetimes.limit) refl }
  where
    by : (b : Builder) → InLimits b → (t : Bool) → nat_lt (length b.stored.lifetimes.entries) b.stored.lifetimes.limit ≡ t
        → let r = added t lifetime_id x at b.stored.lifetimes in LimitsTo r.0 (record b { stored = record b.stored { lifetimes = r.1 } })
    by b h true is = let f = h.0 in
        ((f.0, f.1, f.2, one_fits b.stored.lifetimes.entries x b.stored.lifetimes.limit is, f.4, f.5), h.1, h.2)
    by b h false is = tt

pub limited_pat : (p : Pat) (at : Option Pointer) → Limited (alloc_pat p at)
unfolding alloc_pat store_sink.alloc_pat
limited_pat x at = record { limited = λ b h. by b h (nat_lt (length b.stored.pats.entries) b.stored.pats.limit) refl }
  where
    by : (b : Builder) → InLimits b → (t : Bool) → nat_lt (length b.stored.pats.entries) b.stored.pats.limit ≡ t
        → let r = added t pat_id x at b.stored.pats in LimitsTo r.0 (record b { stored = record b.stored { pats = r.1 } })
    by b h true is = let f = h.0 in
        ((f.0, f.1, f.2, f.3, one_fits b.stored.pats.entries x b.stored.pats.limit is, f.5), h.1, h.2)
    by b h false is = tt

pub limited_made_pat : (p : Pat) (at : Option Pointer) → Limited (alloc_desugared_pat p at)
unfolding alloc_desugared_pat store_sink.alloc_desugared_pat
limited_made_pat x at = record { limited = λ b h. by b h (nat_lt (length b.stored.pats.entries) b.stored.pats.limit) refl }
  where
    by : (b : Builder) → InLimits b → (t : Bool) → nat_lt (length b.stored.pats.entries) b.stored.pats.limit ≡ t
        → let r = added_alone t pat_id x at b.stored.pats in LimitsTo r.0 (record b { stored = record b.stored { pats = r.1 } })
    by b h true is = let f = h.0 in
        ((f.0, f.1, f.2, f.3, one_fits b.stored.pats.entries x b.stored.pats.limit is, f.5), h.1, h.2)
    by b h false is = tt

abbrev bound_more : Bool → Binding → Bindings → Checked BindingId × Bindings
bound_more t x a = if t then (Ok (binding_id (length a.entries)), with_binding a x) else (Err Full, a)

pub limited_binding : (x : Binding) → Limited (alloc_binding x)
unfolding alloc_binding store_sink.alloc_binding
limited_binding x = record { limited = λ b h. by b h (nat_lt (length b.stored.bindings.entries) b.stored.bindings.limit) refl }
  where
    by : (b : Builder) → InLimits b → (t : Bool) → nat_lt (length b.stored.bindings.entries) b.stored.bindings.limit ≡ t
        → let r = bound_more t x b.stored.bindings in LimitsTo r.0 (record b { stored = record b.stored { bindings = r.1 } })
    by b h true is = let f = h.0 in
        ((f.0, f.1, f.2, f.3, f.4, one_fits b.stored.bindings.entries x b.stored.bindings.limit is), h.1, h.2)
    by b h false is = tt

-- what stores no entry

pub limited_define : (i : BindingId) (p : PatId) → Limited (define i p)
unfolding define store_sink.define
limited_define i p = record { limited = λ b h. h }

pub limited_problem : (i : BindingId) (problem : Option BindingProblems) → Limited (set_problem i problem)
unfolding set_problem store_sink.set_problem
limited_problem i problem = record {
  limited = λ b h. let f = h.0 in
      let l = b.stored.bindings.limit in
      let same = length_at i.0 (problem_set problem) b.stored.bindings.entries in
      ((f.0, f.1, f.2, f.3, f.4, subst (λ n. n ≤ l) (sym same) f.5), h.1, h.2);
}

pub limited_own : (start : BindingId) (i : ExprId) → Limited (own start i)
unfolding own store_sink.own
limited_own start i = record { limited = λ b h. h }

pub limited_bindings_end : Limited bindings_end
unfolding bindings_end
limited_bindings_end = record { limited = λ b h. h }

pub limited_owning : {A : Type 0} (owner : A → ExprId) {p : Lowering A} → Limited p → Limited (owning owner p)
unfolding owning
limited_owning owner h = limited_then limited_bindings_end (λ start.
    limited_then h (λ x. limited_then (limited_own start (owner x)) (λ u. limited_pure x)))

pub limited_point : (at : Pointer) (i : ExprId) → Limited (point at i)
unfolding point store_sink.point
limited_point at i = record { limited = λ b h. h }

pub limited_point_field : (i : ExprId) (at : Pointer) → Limited (point_field i at)
unfolding point_field store_sink.point_field
limited_point_field i at = record { limited = λ b h. h }

pub limited_point_pat : (at : Pointer) (i : PatId) → Limited (point_pat at i)
unfolding point_pat store_sink.point_pat
limited_point_pat at i = record { limited = λ b h. h }

pub limited_point_target : (at : Pointer) (i : PatId) → Limited (point_target at i)
unfolding point_target store_sink.point_target
limited_point_target at i = record { limited = λ b h. h }

pub limited_point_pat_field : (i : PatId) (at : Pointer) → Limited (point_pat_field i at)
unfolding point_pat_field store_sink.point_pat_field
limited_point_pat_field i at = record { limited = λ b h. h }

pub limited_point_type : (at : Pointer) (i : TypeRefId) → Limited (point_type at i)
unfolding point_type store_sink.point_type
limited_point_type at i = record { limited = λ b h. h }

pub limited_report : (d : ExpressionStoreDiagnostics) → Limited (report d)
unfolding report store_sink.report
limited_report d = record { limited = λ b h. h }

-- what only tells
pub limited_only : {es : Expansions} {ds : List ExpressionStoreDiagnostics} {p : Lowering (Unit {0})} → Only es ds p → Limited p
limited_only o = record { limited = λ b h. subst (λ r. LimitsTo r.0 r.1) (sym (o.is b)) h }

pub limited_block : (n : Option BlockId) → Limited (enter_block n)
unfolding enter_block store_sink.enter_block
limited_block None = limited_pure tt
limited_block (Some n) = record { limited = λ b h. h }

limited_record_root : (i : ExprId) → Limited (record_root i)
unfolding record_root store_sink.record_root
limited_record_root i = record { limited = λ b h. h }

limited_outside : Limited outside_root
unfolding outside_root
limited_outside = record { limited = λ b h. h }

pub limited_enter_root : Limited enter_root
unfolding enter_root
limited_enter_root = record { limited = λ b h. h }

pub limited_leave_root : (outer : Bool) (i : ExprId) → Limited (leave_root outer i)
unfolding leave_root
limited_leave_root true i = limited_pure tt
limited_leave_root false i = limited_then (limited_record_root i) (λ u. limited_outside)

-- what is counted

pub limited_count_out : {A : Type 0} → Limited (count_out {A = A})
unfolding count_out
limited_count_out = record { limited = λ b h. tt }

abbrev numbered : Bool → Lowering ℕ
numbered room = λ b. if room then (Ok b.names, record b { names = suc b.names }) else count_out b

pub limited_number : Limited made_number
unfolding made_number count_out
limited_number = record { limited = λ b h. by b h (nat_lt (suc b.names) (2 ^ 32)) refl }
  where
    by : (b : Builder) → InLimits b → (room : Bool) → nat_lt (suc b.names) (2 ^ 32) ≡ room
        → LimitsTo (numbered room b).0 (numbered room b).1
    by b h true is = (h.0, ltb-true (suc b.names) (2 ^ 32) is, h.2)
    by b h false is = tt

far_enough : {T : Type 0} (xs : List T) (x : T) → nat_lt (length xs) 4294967295 ≡ true → length (xs ++ x ∷ []) < 2 ^ 32
far_enough xs x is = let n = length-append xs (x ∷ []) in let room = ltb-true (length xs) 4294967295 is in omega (arith, n, room)

pub limited_add_param : (x : TypeOrConstParamData) → Limited (add_param x)
unfolding add_param count_out track_down with_side_output
limited_add_param x = record { limited = λ b h. by b h (nat_lt (length b.tracks.generics.type_or_consts) 4294967295) refl }
  where
    by : (b : Builder) → InLimits b → (room : Bool) → nat_lt (length b.tracks.generics.type_or_consts) 4294967295 ≡ room
        → let r = param_numbered x (length b.tracks.generics.type_or_consts) room b in LimitsTo r.0 r.1
    by b h true is = (h.0, h.1, far_enough b.tracks.generics.type_or_consts x is)
    by b h false is = tt

-- what is noted and opened

pub limited_track_down : (f : SideOutput → SideOutput) → KeepsParams f → Limited (track_down f)
unfolding track_down
limited_track_down f k = record { limited = λ b h. (h.0, h.1, subst (λ n. n < 2 ^ 32) (sym (k b.tracks)) h.2) }

pub limited_with_tracks : {A : Type 0} {f : SideOutput → Lowering A} → ((n : SideOutput) → Limited (f n)) → Limited (with_side_output f)
unfolding with_side_output
limited_with_tracks k = record { limited = λ b h. (k b.tracks).limited b h }

pub limited_with_stored : {A : Type 0} {f : Stored → Lowering A} → ((s : Stored) → Limited (f s)) → Limited (with_stored f)
unfolding with_stored
limited_with_stored k = record { limited = λ b h. (k b.stored).limited b h }

limited_open_as : (l : Label) (i : LabelId) → Limited (open_as l i)
limited_open_as l i = record { limited = λ b h. h }

pub limited_open_label : (l : Label) → Limited (open_label l)
unfolding open_label
limited_open_label l = limited_then (limited_label _ _) (λ i. limited_then (limited_open_as l i) (λ u. limited_pure i))

limited_open_try_as : (i : LabelId) (typed : Bool) → Limited (open_try_as i typed)
limited_open_try_as i typed = record { limited = λ b h. h }

pub limited_open_try : (at : Pointer) (typed : Bool) → Limited (open_try at typed)
unfolding open_try
limited_open_try at typed = limited_then limited_number (λ n.
    limited_then (limited_label _ _) (λ i. limited_then (limited_open_try_as i typed) (λ u. limited_pure i)))

pub limited_close : Limited close
unfolding close
limited_close = record { limited = λ b h. h }

pub limited_open_barrier : Limited open_barrier
unfolding open_barrier
limited_open_barrier = record { limited = λ b h. h }

pub limited_close_barrier : (outside : Bool) → Limited (close_barrier outside)
unfolding close_barrier
limited_close_barrier outside = record { limited = λ b h. h }

pub limited_track_yield : Limited track_yield
unfolding track_yield
limited_track_yield = record { limited = λ b h. h }

pub limited_try_target : Limited try_target
unfolding try_target
limited_try_target = record { limited = λ b h. h }

limited_found : (j : Jump) (t : Target LabelId) → Limited (found_or_fault j t)
limited_found j (reachable i) = limited_pure (Some i)
limited_found j unreachable = limited_then (limited_report _) (λ u. limited_pure None)
limited_found j undeclared = limited_then (limited_report _) (λ u. limited_pure None)

pub limited_jump : (j : Option Jump) → Limited (jump_target j)
unfolding jump_target
limited_jump None = limited_pure None
limited_jump (Some j) = record { limited = λ b h. (limited_found j (target j b.scopes)).limited b h }
