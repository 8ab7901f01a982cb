-- Forms that hold no more than they may, and count as far as 32 bits do.
use Rattle.std.proofs.Common.{refl, ◌^◌, nat_lt, ℕ, suc, Bool, true, false, if◌then◌else◌, List, [], ◌∷◌, Option, Some, None}
use Rattle.hir_binding.specs.declared.binding.BindingAnnotation.{BindingAnnotation}
use Rattle.hir_store.specs.Pointers.{Pointer}
use Rattle.hir_store.specs.declared.hir.CoroutineKind.{CoroutineKind}
use Rattle.hir_store.specs.declared.hir.CoroutineSource.{CoroutineSource}
use Rattle.hir_store.specs.declared.hir.Expr.TheVariants as hir
use Rattle.hir_store.specs.declared.hir.Statement.{Statement}
use Rattle.hir_store.specs.declared.ids.BindingId.{BindingId}
use Rattle.hir_store.specs.declared.ids.BlockId.{BlockId}
use Rattle.hir_store.specs.declared.ids.ExprId.{ExprId}
use Rattle.hir_store.specs.declared.ids.HygieneId.{HygieneId}
use Rattle.hir_store.specs.declared.ids.MacroDefId.{MacroDefId}
use Rattle.hir_store.specs.declared.ids.PatId.{PatId}
use Rattle.hir_store.specs.declared.ids.TypeRefId.{TypeRefId}
use Rattle.hir_store.specs.declared.name.Name.{Name}
use Rattle.hir_store.specs.declared.pat.Binding.{Binding}
use Rattle.hir_store.specs.declared.pat.Pat.{Pat}
use Rattle.hir_store.specs.declared.path.Path.{Path as HirPath}
use Rattle.hir_store.specs.declared.type_ref.TypeBound.{TypeBound}
use Rattle.hir_env.specs.declared.ctx.ImplTrait.{ImplTrait}
use Rattle.hir_env.specs.declared.ctx.ImplTrait.TheVariants as becomes
use Rattle.hir_lower_builder.specs.declared.closures.ClosureParams.{ClosureParams}
use Rattle.hir_lower_builder.specs.declared.preludes.Handed.{Handed}
use Rattle.hir_lower_builder.specs.declared.preludes.OwnName.{OwnName}
use Rattle.hir_lower_builder.specs.declared.preludes.Prelude.{Prelude}
use Rattle.hir_lower_builder.specs.declared.walk.Reading.{Reading}
use Rattle.hir_lower_builder.specs.Calls.{define_form, inside_macro}
use Rattle.hir_lower_builder.specs.Forms.{ExprSteps, StoredContents, closure_form, constant_form, coroutine_block_form, coroutine_form}
use Rattle.hir_lower_builder.specs.Forms.{value_form, yield_form}
use Rattle.hir_lower_builder.specs.Lowering.{Lowering, pure, argument_form, becoming, count_def, count_out, input_end}
use Rattle.hir_lower_builder.specs.Lowering.{open_macro}
use Rattle.hir_lower_builder.specs.Made.{made_bind_form}
use Rattle.hir_lower_builder.specs.Paths.{with_alias, or_count_out, cut_back}
use Rattle.hir_lower_builder.specs.Pats.{Key, SideOutput, Table, counted_dots, counted_place, settle, settle_from, small_place}
use Rattle.hir_lower_builder.specs.Preludes.{alloc_beside, binding_of, coroutine_closure_form, handed_between, handed_by_name, handed_form}
use Rattle.hir_lower_builder.specs.Preludes.{handed_in, handed_own, let_form, let_param, let_params, let_self, lower_handed}
use Rattle.hir_lower_builder.specs.Preludes.{made_coroutine_form, name_form, own_name_of, pat_source, rebind_form, rebound, two_lets_form}
use Rattle.hir_lower_builder.specs.Preludes.{no_prelude, within_form}
use Rattle.hir_lower_builder.specs.Ranges.{inner_form}
use Rattle.hir_lower_builder.specs.Forms.{coroutine_around_form}
use Rattle.thm_body_result.proofs.TrackRooms.{cut_keeps}
use Rattle.thm_item_result.proofs.Limits.{Limited, limited_add_param, limited_binding, limited_block, limited_close, limited_close_barrier}
use Rattle.thm_item_result.proofs.Limits.{limited_count_out, limited_define, limited_enter_root, limited_expr, limited_leave_root}
use Rattle.thm_item_result.proofs.Limits.{limited_made_pat, limited_track_down, limited_track_yield, limited_number, limited_open_barrier}
use Rattle.thm_item_result.proofs.Limits.{limited_owning, limited_pat, limited_problem, limited_pure, limited_then, limited_type}
use Rattle.thm_item_result.proofs.Limits.{limited_with_tracks, limited_with_stored}

-- bodies inside

pub limited_constant : {p : ExprSteps} → Limited p → Limited (constant_form p)
unfolding constant_form
limited_constant h = limited_then limited_open_barrier (λ outside. limited_then limited_enter_root (λ outer. limited_then h (λ i.
    limited_then (limited_close_barrier outside) (λ y. limited_then (limited_leave_root outer i) (λ u. limited_pure _)))))

pub limited_inner : {p : ExprSteps} → Limited p → Limited (inner_form p)
unfolding inner_form
limited_inner h = limited_then limited_open_barrier (λ outside. limited_then limited_enter_root (λ outer. limited_then h (λ i.
    limited_then (limited_close_barrier outside) (λ y. limited_then (limited_leave_root outer i) (λ u. limited_pure _)))))

pub limited_closure : (at : Pointer) (moves is_static : Bool) {p : Lowering ClosureParams} {t : Lowering (Option TypeRefId)} {e : ExprSteps}
    → Limited p → Limited t → Limited e → Limited (closure_form at moves is_static p t e)
unfolding closure_form
limited_closure at moves is_static hp ht he = limited_then limited_open_barrier (λ outside. limited_then hp (λ l. limited_then ht (λ r.
    limited_then he (λ i. limited_then (limited_close_barrier outside) (λ y. limited_expr _ _)))))

pub limited_coroutine : (at : Pointer) (kind : CoroutineKind) (moves : Bool) (number : Option BlockId) {c : Lowering StoredContents}
    → Limited c → Limited (coroutine_form (coroutine_block_form at kind moves number c))
unfolding coroutine_form coroutine_block_form coroutine_around_form
limited_coroutine at kind moves number h = limited_then limited_open_barrier (λ outside.
    limited_then (limited_then (limited_block number) (λ u. limited_then h (λ r.
    limited_then (limited_expr _ None) (λ b. limited_expr _ _))))
    (λ i. limited_then (limited_close_barrier outside) (λ y. limited_pure i)))

pub limited_yield : (at : Pointer) (e : Lowering (Option ExprId)) → Limited (value_form at hir.Yield e) → Limited (yield_form at e)
unfolding value_form yield_form
limited_yield at e h = limited_then limited_track_yield (λ u. h)

-- what is made up, and what is handed in

pub limited_made_bind : (mode : BindingAnnotation) (n : ℕ) → Limited (made_bind_form mode n)
unfolding made_bind_form
limited_made_bind mode n = limited_then (limited_binding _) (λ i. limited_then (limited_pat _ None)
    (λ p. limited_then (limited_define i p) (λ u. limited_pure p)))

limited_name : (n : Name) (h : HygieneId) → Limited (name_form n h)
unfolding name_form
limited_name n h = limited_expr _ None

limited_pat_source : (p : PatId) → Limited (pat_source p)
unfolding pat_source
limited_pat_source p = record { limited = λ b h. h }

limited_beside : (x : Pat) (p : PatId) → Limited (alloc_beside x p)
unfolding alloc_beside
limited_beside x p = limited_then (limited_pat_source p) (λ at. limited_made_pat x at)

limited_handed : (x : Handed) → Limited (handed_form x)
unfolding handed_form
limited_handed x = limited_then (limited_binding _) (λ i. limited_then (limited_beside _ x.pat)
    (λ p. limited_then (limited_define i p) (λ u. limited_pure p)))

limited_let : (x : Handed) (p : PatId) → Limited (let_form x p)
unfolding let_form
limited_let x p = limited_then (limited_name x.name x.hygiene) (λ e. limited_pure _)

limited_two_lets : (x : Handed) (p : PatId) → Limited (two_lets_form x p)
unfolding two_lets_form
limited_two_lets x p = limited_then (limited_handed x) (λ q. limited_then (limited_name x.name x.hygiene)
    (λ e. limited_then (limited_name x.name x.hygiene) (λ f. limited_pure _)))

limited_by_name : (done : Prelude) (p : PatId) (x : Handed) → Limited (handed_by_name done p x)
unfolding handed_by_name
limited_by_name done p x = limited_then (limited_let x p) (λ ss. limited_pure _)

limited_between : (done : Prelude) (p : PatId) (x : Handed) → Limited (handed_between done p x)
unfolding handed_between
limited_between done p x = limited_then (limited_two_lets x p) (λ ss. limited_pure _)

limited_own_name : (done : Prelude) (p : PatId) (alone : Bool) (x : Handed) → Limited (handed_own done p alone x)
limited_own_name done p true x = limited_by_name done p x
limited_own_name done p false x = limited_between done p x

limited_handed_in : (done : Prelude) (p : PatId) (own : Option OwnName) → Limited (handed_in done p own)
unfolding handed_in
limited_handed_in done p (Some own) = limited_own_name done p own.is_alone _
limited_handed_in done p None = limited_then limited_number (λ n. limited_between done p _)

limited_name_of : (p : PatId) → Limited (own_name_of p)
unfolding own_name_of
limited_name_of p = record { limited = λ b h. h }

limited_let_param : (done : Prelude) (p : PatId) → Limited (let_param done p)
unfolding let_param
limited_let_param done p = limited_then (limited_name_of p) (λ own. limited_handed_in done p own)

pub limited_lets : (done : Prelude) (ps : List PatId) → Limited (let_params done ps)
limited_lets done [] = limited_pure done
limited_lets done (p ∷ ps) = limited_then (limited_let_param done p) (λ l. limited_lets l ps)

pub limited_all_handed : (done : List PatId) (xs : List Handed) → Limited (lower_handed done xs)
limited_all_handed done [] = limited_pure done
limited_all_handed done (x ∷ xs) = limited_then (limited_handed x) (λ p. limited_all_handed _ xs)

pub limited_made_coroutine : (kind : CoroutineKind) (from : CoroutineSource) (lets : List Statement) (i : ExprId)
    → Limited (made_coroutine_form kind from lets i)
unfolding made_coroutine_form
limited_made_coroutine kind from lets i = limited_then (limited_expr _ None) (λ b. limited_expr _ None)

limited_within : (kind : CoroutineKind) {p : Lowering ClosureParams} {t : Lowering (Option TypeRefId)} {e : ExprSteps} → Limited p
    → Limited t → Limited e → Limited (within_form kind p t e)
unfolding within_form
limited_within kind hp ht he = limited_then hp (λ l. limited_then ht (λ r. limited_then he (λ i.
    limited_then (limited_lets no_prelude l.args) (λ p. limited_then (limited_made_coroutine kind _ p.lets i) (λ c. limited_pure _)))))

pub limited_coroutine_closure : (at : Pointer) (kind : CoroutineKind) (moves : Bool) {p : Lowering ClosureParams}
    {t : Lowering (Option TypeRefId)} {e : ExprSteps} → Limited p → Limited t → Limited e
    → Limited (coroutine_closure_form at kind moves p t e)
unfolding coroutine_closure_form
limited_coroutine_closure at kind moves hp ht he = limited_then limited_open_barrier (λ outside.
    limited_then (limited_owning (λ w. w.coroutine) (limited_within kind hp ht he)) (λ w.
    limited_then (limited_all_handed [] w.handed) (λ ps. limited_then (limited_close_barrier outside) (λ y. limited_expr _ _))))

-- `self`

limited_rebind : (x : Binding) → Limited (rebind_form x)
unfolding rebind_form
limited_rebind x = limited_then (limited_binding _) (λ i. limited_then (limited_pat _ None) (λ p.
    limited_then (limited_define i p) (λ u. limited_then (limited_name x.name x.hygiene) (λ e. limited_pure _))))

limited_rebound : (id : BindingId) (x : Option Binding) → Limited (rebound id x)
limited_rebound id None = limited_pure _
limited_rebound id (Some x) = limited_rebind x

limited_binding_of : (id : BindingId) → Limited (binding_of id)
unfolding binding_of
limited_binding_of id = record { limited = λ b h. h }

pub limited_let_self : (o : Option BindingId) → Limited (let_self o)
unfolding let_self
limited_let_self None = limited_pure _
limited_let_self (Some id) = limited_then (limited_binding_of id) (λ x. limited_then (limited_rebound id x) (λ r. limited_pure _))

-- patterns, paths and types

limited_settle_from : (tracked : SideOutput) (n : ℕ) (es : List (Key × BindingId)) → Limited (settle_from tracked n es)
limited_settle_from tracked n [] = limited_pure tt
limited_settle_from tracked n (e ∷ es) = limited_then (limited_problem e.1 _) (λ u. limited_settle_from tracked (suc n) es)

pub limited_settle : (t : Table) → Limited (settle t)
unfolding settle
limited_settle t = limited_settle_from t.tracked 0 t.bindings

limited_place : (n : Option ℕ) → Limited (counted_place n)
limited_place (Some n) = limited_pure (Some n)
limited_place None = limited_count_out

pub limited_dots : (comma : Bool) (n : Option ℕ) → Limited (counted_dots comma n)
limited_dots comma None = limited_pure None
limited_dots comma (Some n) = limited_place (small_place comma n)

pub limited_counted : (r : Option Reading) → Limited (or_count_out r)
limited_counted (Some r) = limited_pure r
limited_counted None = limited_count_out

limited_input_end : Limited input_end
unfolding input_end
limited_input_end = limited_with_tracks (λ n. limited_pure _)

limited_cut_back : (mark : ℕ) (places : List Bool) (p : Option HirPath) → Limited (cut_back mark places p)
unfolding cut_back
limited_cut_back mark places p = limited_with_stored (λ s. limited_track_down _ (cut_keeps mark places s.lifetimes.entries p))

pub limited_aliased : (alias : Option (List Bool)) {p : Lowering (Option HirPath)} → Limited p → Limited (with_alias alias p)
limited_aliased None h = h
limited_aliased (Some places) h = limited_then limited_input_end (λ mark. limited_then h (λ p.
    limited_then (limited_cut_back mark places p) (λ u. limited_pure p)))

pub limited_becoming : (at : Pointer) (mode : ImplTrait) (bounds : List TypeBound) → Limited (becoming at mode bounds)
unfolding argument_form
limited_becoming at becomes.Error bounds = limited_type _ _
limited_becoming at becomes.Opaque bounds = limited_type _ _
limited_becoming at (becomes.Argument def) bounds = limited_then (limited_add_param _) (λ k. limited_then (limited_type _ _)
    (λ t. limited_then (limited_track_down _ (λ n. refl)) (λ u. limited_pure t)))

-- definitions of macros

limited_def : (k : ℕ) → Limited (count_def k)
unfolding count_def
limited_def k = by (nat_lt (suc k) (2 ^ 32))
  where
    by : (room : Bool) → Limited (if room then pure (tt {0}) else count_out)
    by true = limited_pure tt
    by false = limited_count_out

pub limited_define_form : (k : ℕ) (d : Option MacroDefId) → Limited (define_form k d)
unfolding define_form
limited_define_form k d = limited_then (limited_def k) (λ u. limited_pure _)

limited_open_macro : (d : MacroDefId) → Limited (open_macro d)
unfolding open_macro
limited_open_macro d = record { limited = λ b h. h }

pub limited_inside : (d : MacroDefId) {A : Type 0} {p : Lowering A} → Limited p → Limited (inside_macro d p)
unfolding inside_macro
limited_inside d h = limited_then (limited_open_macro d) (λ u. limited_then h (λ x. limited_then limited_close (λ v. limited_pure x)))
