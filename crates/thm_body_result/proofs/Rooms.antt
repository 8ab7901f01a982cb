-- Steps by how much they store.
use Rattle.std.proofs.Common.{arith, ◌≡◌, refl, sym, subst, List, Bool, true, false, nat_lt, if◌then◌else◌, length}
use Rattle.std.proofs.Common.{Option, Some, None, Ok, Err, inl, inr}
use Rattle.std.proofs.lemmas.Bool.{ltb-false}
use Rattle.hir_store.specs.Pointers.{Pointer}
use Rattle.hir_store.specs.Arenas.{Sourced, with_entry, with_made}
use Rattle.hir_store.specs.StoreSink as store_sink
use Rattle.hir_store.specs.StoreSink.{expr_id, label_id, pat_id, type_id, lifetime_id}
use Rattle.hir_store.specs.Bindings.{Bindings, binding_id, problem_set, with_binding}
use Rattle.hir_store.proofs.BindingLemmas.{length_at}
use Rattle.hir_binding.specs.declared.binding.BindingProblems.{BindingProblems}
use Rattle.hir_store.specs.declared.pat.Binding.{Binding}
use Rattle.hir_store.specs.declared.pat.Pat.{Pat}
use Rattle.hir_store.specs.declared.ids.BindingId.{BindingId}
use Rattle.hir_store.specs.declared.ids.PatId.{PatId}
use Rattle.hir_store.specs.declared.error.StoreError.TheVariants.{Full}
use Rattle.hir_store.specs.declared.diagnostics.ExpressionStoreDiagnostics.{ExpressionStoreDiagnostics}
use Rattle.hir_store.specs.declared.hir.Expr.{Expr}
use Rattle.hir_store.specs.declared.ids.ExprId.{ExprId}
use Rattle.hir_store.specs.declared.ids.LabelId.{LabelId}
use Rattle.hir_store.specs.declared.ids.BlockId.{BlockId}
use Rattle.hir_env.specs.ResolvedTree.{Label, Jump}
use Rattle.hir_lower_scope.specs.ScopeRibs.{Target, reachable, unreachable, undeclared, target}
use Rattle.hir_store.specs.declared.hir.Label.{Label as HirLabel}
use Rattle.hir_lower_builder.specs.Builder.{Builder}
use Rattle.hir_lower_builder.specs.Lowering.{Checked, go_on, Lowering, ◌>>=◌, pure, alloc_expr, point, point_field, report, enter_block}
use Rattle.hir_lower_builder.specs.Lowering.{open_label, close, jump_target, found_or_fault, open_as, open_barrier, enter_root}
use Rattle.hir_lower_builder.specs.Lowering.{leave_root, outside_root, record_root, alloc_type, alloc_lifetime, alloc_pat}
use Rattle.hir_lower_builder.specs.Lowering.{alloc_desugared_pat}
use Rattle.hir_lower_builder.specs.Lowering.{alloc_binding, define, set_problem, point_pat_field, close_barrier, track_yield}
use Rattle.hir_lower_builder.specs.Lower.{ExprSteps, constant_form}
use Rattle.hir_lower_builder.specs.Ranges.{inner_form}
use Rattle.spec_semantics.specs.InnerWritten.{InnerBody}
use Rattle.hir_store.specs.declared.type_ref.TypeRef.{TypeRef}
use Rattle.hir_store.specs.declared.type_ref.LifetimeRef.{LifetimeRef}
use Rattle.hir_store.specs.declared.ids.TypeRefId.{TypeRefId}
use Rattle.hir_store.specs.declared.ids.LifetimeRefId.{LifetimeRefId}
use Rattle.thm_logic.specs.Keeps.{Paired}
use Rattle.thm_logic.specs.Calls.{Expansions}
use Rattle.thm_logic.proofs.Calls.{Only}
use Rattle.thm_logic.proofs.Logic.{one_more}
use Rattle.thm_body_result.specs.Size.{Size, nothing, an_expr, a_label, a_binding, a_made_pat, a_pat, a_type, a_lifetime, a_body, ◌∪◌}
use Rattle.thm_body_result.proofs.Owners.{no_owners}
use Rattle.thm_body_result.proofs.Took.{Room, Same, Took, grew_none, grew_one, no_sources, none_after, none_before, short_as, short_first}
use Rattle.thm_body_result.proofs.Took.{short_then, still, took_as, took_besides, took_none, took_then, unnamed}

-- in whatever store, of which each entry has its source
pub record Takes {A : Type 0} (n : Size) (p : Lowering A) : Type 0 where
  pub takes : (b : Builder) → Paired b.stored → Room n b (p b).0 (p b).1

-- one after another

pub takes_then : {A B : Type 0} {n k : Size} {p : Lowering A} {f : A → Lowering B} → Takes n p → ((a : A) → Takes k (f a))
    → Takes (n ∪ k) (p >>= f)
takes_then {A = A} {B = B} {n = n} {k = k} {p = p} {f = f} h more =
    record { takes = λ b d. first b d (p b).0 (p b).1 (h.takes b d) }
  where
    second : (b b' : Builder) → Took n b b' → (o : Checked B) (c : Builder) → Room k b' o c → Room (n ∪ k) b o c
    second b b' x (Ok e) c y = took_then b b' c x y
    second b b' x (Err e) c y = short_then k b b' x y

    first : (b : Builder) → Paired b.stored → (o : Checked A) (c : Builder) → Room n b o c
        → Room (n ∪ k) b (go_on o c f).0 (go_on o c f).1
    first b d (Ok a) c x = second b c x (f a c).0 (f a c).1 ((more a).takes c (x.paired d))
    first b d (Err e) c x = short_first n k b x

pub takes_as : {A : Type 0} {n k : Size} {p : Lowering A} → Same n k → Takes n p → Takes k p
takes_as {A = A} {n = n} {k = k} {p = p} same h = record { takes = λ b d. by b (p b).0 (p b).1 (h.takes b d) }
  where
    by : (b : Builder) (o : Checked A) (c : Builder) → Room n b o c → Room k b o c
    by b (Ok a) c x = took_as same x
    by b (Err e) c x = short_as b same x

-- what comes after, or before, stores nothing
pub takes_end : {A B : Type 0} {n : Size} {p : Lowering A} {f : A → Lowering B} → Takes n p → ((a : A) → Takes nothing (f a))
    → Takes n (p >>= f)
takes_end h more = takes_as (none_after _) (takes_then h more)

pub takes_begin : {A B : Type 0} {n : Size} {p : Lowering A} {f : A → Lowering B} → Takes nothing p → ((a : A) → Takes n (f a))
    → Takes n (p >>= f)
takes_begin h more = takes_as (none_before _) (takes_then h more)

-- steps

pub takes_pure : {A : Type 0} (a : A) → Takes nothing (pure a)
takes_pure a = record { takes = λ b d. took_none b }

pub takes_report : (d : ExpressionStoreDiagnostics) → Takes nothing (report d)
unfolding report store_sink.report
takes_report d = record { takes = λ b d. took_besides _ _ refl refl refl refl refl refl refl refl refl refl refl refl refl }

-- what only tells
pub takes_only : {es : Expansions} {ds : List ExpressionStoreDiagnostics} {p : Lowering (Unit {0})} → Only es ds p → Takes nothing p
takes_only h = record {
  takes = λ b d. subst (λ r. Room nothing b r.0 r.1) (sym (h.is b))
      (took_besides _ _ refl refl refl refl refl refl refl refl refl refl refl refl refl);
}

pub takes_block : (n : Option BlockId) → Takes nothing (enter_block n)
unfolding enter_block store_sink.enter_block
takes_block None = takes_pure tt
takes_block (Some n) = record { takes = λ b d. took_besides _ _ refl refl refl refl refl refl refl refl refl refl refl refl refl }

pub takes_close : Takes nothing close
unfolding close
takes_close = record { takes = λ b d. took_besides _ _ refl refl refl refl refl refl refl refl refl refl refl refl refl }

pub takes_point : (at : Pointer) (i : ExprId) → Takes nothing (point at i)
unfolding point store_sink.point
takes_point at i = record { takes = λ b d. took_besides _ _ refl refl refl refl refl refl refl refl refl refl refl refl refl }

pub takes_point_field : (i : ExprId) (at : Pointer) → Takes nothing (point_field i at)
unfolding point_field store_sink.point_field
takes_point_field i at = record { takes = λ b d. took_besides _ _ refl refl refl refl refl refl refl refl refl refl refl refl refl }

pub takes_jump : (j : Option Jump) → Takes nothing (jump_target j)
unfolding jump_target report store_sink.report
takes_jump None = takes_pure None
takes_jump (Some j) = record { takes = λ b d. by b (target j b.scopes) }
  where
    by : (b : Builder) (t : Target LabelId) → Room nothing b (found_or_fault j t b).0 (found_or_fault j t b).1
    by b (reachable n) = took_besides _ _ refl refl refl refl refl refl refl refl refl refl refl refl refl
    by b unreachable = took_besides _ _ refl refl refl refl refl refl refl refl refl refl refl refl refl
    by b undeclared = took_besides _ _ refl refl refl refl refl refl refl refl refl refl refl refl refl

abbrev pub made_expr : Bool → Expr → Option Pointer → Sourced Expr ExprId → Checked ExprId × Sourced Expr ExprId
made_expr t e source a = if t then (Ok (expr_id (length a.entries)), with_entry expr_id a e source) else (Err Full, a)

pub takes_alloc : (e : Expr) (source : Option Pointer) → Takes an_expr (alloc_expr e source)
unfolding alloc_expr store_sink.alloc_expr
takes_alloc e source = record { takes = λ b d. by b (nat_lt (length b.stored.exprs.entries) b.stored.exprs.limit) refl }
  where
    by : (b : Builder) (t : Bool) → nat_lt (length b.stored.exprs.entries) b.stored.exprs.limit ≡ t
        → Room an_expr b (made_expr t e source b.stored.exprs).0
        (record b { stored = record b.stored { exprs = (made_expr t e source b.stored.exprs).1 } })
    by b true is = record {
      exprs = grew_one b.stored.exprs.entries e b.stored.exprs.limit;
      labels = still b.stored.labels refl;
      bindings = grew_none refl refl;
      pats = still b.stored.pats refl;
      types = still b.stored.types refl;
      lifetimes = still b.stored.lifetimes refl;
      paired = λ d. record {
        exprs = one_more b.stored.exprs.entries e b.stored.exprs.sources source d.exprs;
        labels = d.labels;
        pats = d.pats;
        types = d.types;
        lifetimes = d.lifetimes;
      };
      pat_sources = no_sources b.stored.pats refl;
      pat_mappings = refl;
      target_mappings = refl;
      type_sources = no_sources b.stored.types refl;
      lifetime_sources = no_sources b.stored.lifetimes refl;
      type_mappings = refl;
      pat_leads = refl;
      type_leads = refl;
      names = unnamed refl;
      params = unnamed refl;
      as_many = refl;
      owners = λ h. no_owners b.stored.bindings.owners refl;
    }
    by b false is = let full = ltb-false (length b.stored.exprs.entries) b.stored.exprs.limit is in inl (omega arith)

abbrev pub made_label : Bool → HirLabel → Option Pointer → Sourced HirLabel LabelId → Checked LabelId × Sourced HirLabel LabelId
made_label t l source a = if t then (Ok (label_id (length a.entries)), with_entry label_id a l source) else (Err Full, a)

-- the label is stored, and then opened
abbrev opening : Label → Bool → Builder → Checked LabelId × Builder
opening l t b =
    let r = made_label t (record { name = l.name }) (Some l.pointer) b.stored.labels in
    go_on r.0 (record b { stored = record b.stored { labels = r.1 } }) (λ n. open_as l n >>= (λ _. pure n))

pub takes_open : (l : Label) → Takes a_label (open_label l)
unfolding open_label store_sink.alloc_label
takes_open l = record { takes = λ b d. by b (nat_lt (length b.stored.labels.entries) b.stored.labels.limit) refl }
  where
    by : (b : Builder) (t : Bool) → nat_lt (length b.stored.labels.entries) b.stored.labels.limit ≡ t
        → Room a_label b (opening l t b).0 (opening l t b).1
    by b true is = record {
      exprs = still b.stored.exprs refl;
      labels = grew_one b.stored.labels.entries (record { name = l.name }) b.stored.labels.limit;
      bindings = grew_none refl refl;
      pats = still b.stored.pats refl;
      types = still b.stored.types refl;
      lifetimes = still b.stored.lifetimes refl;
      paired = λ d. record {
        exprs = d.exprs;
        labels = one_more b.stored.labels.entries (record { name = l.name }) b.stored.labels.sources (Some l.pointer) d.labels;
        pats = d.pats;
        types = d.types;
        lifetimes = d.lifetimes;
      };
      pat_sources = no_sources b.stored.pats refl;
      pat_mappings = refl;
      target_mappings = refl;
      type_sources = no_sources b.stored.types refl;
      lifetime_sources = no_sources b.stored.lifetimes refl;
      type_mappings = refl;
      pat_leads = refl;
      type_leads = refl;
      names = unnamed refl;
      params = unnamed refl;
      as_many = refl;
      owners = λ h. no_owners b.stored.bindings.owners refl;
    }
    by b false is = let full = ltb-false (length b.stored.labels.entries) b.stored.labels.limit is in inr (inl (omega arith))

abbrev made_type : Bool → TypeRef → Option Pointer → Sourced TypeRef TypeRefId → Checked TypeRefId × Sourced TypeRef TypeRefId
made_type t x source a = if t then (Ok (type_id (length a.entries)), with_entry type_id a x source) else (Err Full, a)

pub takes_type : (x : TypeRef) (source : Option Pointer) → Takes (a_type source) (alloc_type x source)
unfolding alloc_type store_sink.alloc_type
takes_type x source = record { takes = λ b d. by b (nat_lt (length b.stored.types.entries) b.stored.types.limit) refl }
  where
    by : (b : Builder) (t : Bool) → nat_lt (length b.stored.types.entries) b.stored.types.limit ≡ t
        → Room (a_type source) b (made_type t x source b.stored.types).0
        (record b { stored = record b.stored { types = (made_type t x source b.stored.types).1 } })
    by b true is = record {
      exprs = still b.stored.exprs refl;
      labels = still b.stored.labels refl;
      bindings = grew_none refl refl;
      pats = still b.stored.pats refl;
      types = grew_one b.stored.types.entries x b.stored.types.limit;
      lifetimes = still b.stored.lifetimes refl;
      paired = λ d. record {
        exprs = d.exprs;
        labels = d.labels;
        pats = d.pats;
        types = one_more b.stored.types.entries x b.stored.types.sources source d.types;
        lifetimes = d.lifetimes;
      };
      pat_sources = no_sources b.stored.pats refl;
      pat_mappings = refl;
      target_mappings = refl;
      type_sources = refl;
      lifetime_sources = no_sources b.stored.lifetimes refl;
      type_mappings = refl;
      pat_leads = refl;
      type_leads = refl;
      names = unnamed refl;
      params = unnamed refl;
      as_many = refl;
      owners = λ h. no_owners b.stored.bindings.owners refl;
    }
    by b false is = let full = ltb-false (length b.stored.types.entries) b.stored.types.limit is in
        inr (inr (inr (inr (inl (omega arith)))))

abbrev made_lifetime : Bool → LifetimeRef → Option Pointer → Sourced LifetimeRef LifetimeRefId
    → Checked LifetimeRefId × Sourced LifetimeRef LifetimeRefId
made_lifetime t x source a = if t then (Ok (lifetime_id (length a.entries)), with_entry lifetime_id a x source) else (Err Full, a)

pub takes_lifetime : (x : LifetimeRef) (source : Option Pointer) → Takes (a_lifetime source) (alloc_lifetime x source)
unfolding alloc_lifetime store_sink.alloc_lifetime
takes_lifetime x source = record { takes = λ b d. by b (nat_lt (length b.stored.lifetimes.entries) b.stored.lifetimes.limit) refl }
  where
    by : (b : Builder) (t : Bool) → nat_lt (length b.stored.lifetimes.entries) b.stored.lifetimes.limit ≡ t
        → Room (a_lifetime source) b (made_lifetime t x source b.stored.lifetimes).0
        (record b { stored = record b.stored { lifetimes = (made_lifetime t x source b.stored.lifetimes).1 } })
    by b true is = record {
      exprs = still b.stored.exprs refl;
      labels = still b.stored.labels refl;
      bindings = grew_none refl refl;
      pats = still b.stored.pats refl;
      types = still b.stored.types refl;
      lifetimes = grew_one b.stored.lifetimes.entries x b.stored.lifetimes.limit;
      paired = λ d. record {
        exprs = d.exprs;
        labels = d.labels;
        pats = d.pats;
        types = d.types;
        lifetimes = one_more b.stored.lifetimes.entries x b.stored.lifetimes.sources source d.lifetimes;
      };
      pat_sources = no_sources b.stored.pats refl;
      pat_mappings = refl;
      target_mappings = refl;
      type_sources = no_sources b.stored.types refl;
      lifetime_sources = refl;
      type_mappings = refl;
      pat_leads = refl;
      type_leads = refl;
      names = unnamed refl;
      params = unnamed refl;
      as_many = refl;
      owners = λ h. no_owners b.stored.bindings.owners refl;
    }
    by b false is =
        let full = ltb-false (length b.stored.lifetimes.entries) b.stored.lifetimes.limit is in
        inr (inr (inr (inr (inr (inl (omega arith))))))

-- patterns and bindings

abbrev made_pat : Bool → Pat → Option Pointer → Sourced Pat PatId → Checked PatId × Sourced Pat PatId
made_pat t x source a = if t then (Ok (pat_id (length a.entries)), with_entry pat_id a x source) else (Err Full, a)

pub takes_pat : (x : Pat) (source : Option Pointer) → Takes (a_pat source) (alloc_pat x source)
unfolding alloc_pat store_sink.alloc_pat
takes_pat x source = record { takes = λ b d. by b (nat_lt (length b.stored.pats.entries) b.stored.pats.limit) refl }
  where
    by : (b : Builder) (t : Bool) → nat_lt (length b.stored.pats.entries) b.stored.pats.limit ≡ t
        → Room (a_pat source) b (made_pat t x source b.stored.pats).0
        (record b { stored = record b.stored { pats = (made_pat t x source b.stored.pats).1 } })
    by b true is = record {
      exprs = still b.stored.exprs refl;
      labels = still b.stored.labels refl;
      bindings = grew_none refl refl;
      pats = grew_one b.stored.pats.entries x b.stored.pats.limit;
      types = still b.stored.types refl;
      lifetimes = still b.stored.lifetimes refl;
      paired = λ d. record {
        exprs = d.exprs;
        labels = d.labels;
        pats = one_more b.stored.pats.entries x b.stored.pats.sources source d.pats;
        types = d.types;
        lifetimes = d.lifetimes;
      };
      pat_sources = refl;
      pat_mappings = refl;
      target_mappings = refl;
      type_sources = no_sources b.stored.types refl;
      lifetime_sources = no_sources b.stored.lifetimes refl;
      type_mappings = refl;
      pat_leads = refl;
      type_leads = refl;
      names = unnamed refl;
      params = unnamed refl;
      as_many = refl;
      owners = λ h. no_owners b.stored.bindings.owners refl;
    }
    by b false is = let full = ltb-false (length b.stored.pats.entries) b.stored.pats.limit is in inr (inr (inl (omega arith)))

-- one that is made up for a node

abbrev hidden_pat : Bool → Pat → Option Pointer → Sourced Pat PatId → Checked PatId × Sourced Pat PatId
hidden_pat t x source a = if t then (Ok (pat_id (length a.entries)), with_made a x source) else (Err Full, a)

pub takes_made_pat : (x : Pat) (source : Option Pointer) → Takes (a_made_pat source) (alloc_desugared_pat x source)
unfolding alloc_desugared_pat store_sink.alloc_desugared_pat
takes_made_pat x source = record { takes = λ b d. by b (nat_lt (length b.stored.pats.entries) b.stored.pats.limit) refl }
  where
    by : (b : Builder) (t : Bool) → nat_lt (length b.stored.pats.entries) b.stored.pats.limit ≡ t
        → Room (a_made_pat source) b (hidden_pat t x source b.stored.pats).0
        (record b { stored = record b.stored { pats = (hidden_pat t x source b.stored.pats).1 } })
    by b true is = record {
      exprs = still b.stored.exprs refl;
      labels = still b.stored.labels refl;
      bindings = grew_none refl refl;
      pats = grew_one b.stored.pats.entries x b.stored.pats.limit;
      types = still b.stored.types refl;
      lifetimes = still b.stored.lifetimes refl;
      paired = λ d. record {
        exprs = d.exprs;
        labels = d.labels;
        pats = one_more b.stored.pats.entries x b.stored.pats.sources source d.pats;
        types = d.types;
        lifetimes = d.lifetimes;
      };
      pat_sources = refl;
      pat_mappings = refl;
      target_mappings = refl;
      type_sources = no_sources b.stored.types refl;
      lifetime_sources = no_sources b.stored.lifetimes refl;
      type_mappings = refl;
      pat_leads = refl;
      type_leads = refl;
      names = unnamed refl;
      params = unnamed refl;
      as_many = refl;
      owners = λ h. no_owners b.stored.bindings.owners refl;
    }
    by b false is = let full = ltb-false (length b.stored.pats.entries) b.stored.pats.limit is in inr (inr (inl (omega arith)))

abbrev made_binding : Bool → Binding → Bindings → Checked BindingId × Bindings
made_binding t x a = if t then (Ok (binding_id (length a.entries)), with_binding a x) else (Err Full, a)

pub takes_binding : (x : Binding) → Takes a_binding (alloc_binding x)
unfolding alloc_binding store_sink.alloc_binding
takes_binding x = record { takes = λ b d. by b (nat_lt (length b.stored.bindings.entries) b.stored.bindings.limit) refl }
  where
    by : (b : Builder) (t : Bool) → nat_lt (length b.stored.bindings.entries) b.stored.bindings.limit ≡ t
        → Room a_binding b (made_binding t x b.stored.bindings).0
        (record b { stored = record b.stored { bindings = (made_binding t x b.stored.bindings).1 } })
    by b true is = record {
      exprs = still b.stored.exprs refl;
      labels = still b.stored.labels refl;
      bindings = grew_one b.stored.bindings.entries x b.stored.bindings.limit;
      pats = still b.stored.pats refl;
      types = still b.stored.types refl;
      lifetimes = still b.stored.lifetimes refl;
      paired = λ d. record {
        exprs = d.exprs;
        labels = d.labels;
        pats = d.pats;
        types = d.types;
        lifetimes = d.lifetimes;
      };
      pat_sources = no_sources b.stored.pats refl;
      pat_mappings = refl;
      target_mappings = refl;
      type_sources = no_sources b.stored.types refl;
      lifetime_sources = no_sources b.stored.lifetimes refl;
      type_mappings = refl;
      pat_leads = refl;
      type_leads = refl;
      names = unnamed refl;
      params = unnamed refl;
      as_many = refl;
      owners = λ h. refl;
    }
    by b false is =
        let full = ltb-false (length b.stored.bindings.entries) b.stored.bindings.limit is in inr (inr (inr (inl (omega arith))))

pub takes_define : (id : BindingId) (p : PatId) → Takes nothing (define id p)
unfolding define store_sink.define
takes_define id p = record { takes = λ b d. took_besides _ _ refl refl refl refl refl refl refl refl refl refl refl refl refl }

pub takes_problem : (id : BindingId) (problem : Option BindingProblems) → Takes nothing (set_problem id problem)
unfolding set_problem store_sink.set_problem
takes_problem id problem = record {
  takes = λ b d. took_besides _ _ refl refl refl refl (length_at id.0 (problem_set problem) b.stored.bindings.entries)
      refl refl refl refl refl refl refl refl;
}

pub takes_point_pat_field : (i : PatId) (at : Pointer) → Takes nothing (point_pat_field i at)
unfolding point_pat_field store_sink.point_pat_field
takes_point_pat_field i at = record { takes = λ b d. took_besides _ _ refl refl refl refl refl refl refl refl refl refl refl refl refl }

-- behind a barrier, and a constant there in a root

pub takes_barrier : Takes nothing open_barrier
unfolding open_barrier
takes_barrier = record { takes = λ b d. took_besides _ _ refl refl refl refl refl refl refl refl refl refl refl refl refl }

pub takes_close_barrier : (outside : Bool) → Takes nothing (close_barrier outside)
unfolding close_barrier
takes_close_barrier outside = record { takes = λ b d. took_besides _ _ refl refl refl refl refl refl refl refl refl refl refl refl refl }

pub takes_track : Takes nothing track_yield
unfolding track_yield
takes_track = record { takes = λ b d. took_besides _ _ refl refl refl refl refl refl refl refl refl refl refl refl refl }

takes_enter : Takes nothing enter_root
unfolding enter_root
takes_enter = record { takes = λ b d. took_besides _ _ refl refl refl refl refl refl refl refl refl refl refl refl refl }

takes_leave : (outer : Bool) (id : ExprId) → Takes nothing (leave_root outer id)
unfolding leave_root record_root outside_root store_sink.record_root
takes_leave true id = takes_pure tt
takes_leave false id = record { takes = λ b d. took_besides _ _ refl refl refl refl refl refl refl refl refl refl refl refl refl }

as_body : (x : InnerBody) (n : Size) → Same n (a_body x n)
as_body x n = record {
  exprs = refl;
  labels = refl;
  bindings = refl;
  owners = refl;
  names = refl;
  params = refl;
  pats = refl;
  types = refl;
  lifetimes = refl;
  pat_leads = refl;
  type_leads = refl;
  overcounts = λ x. x;
}

pub takes_constant : (x : InnerBody) {n : Size} {p : ExprSteps} → Takes n p → Takes (a_body x n) (constant_form p)
unfolding constant_form
takes_constant x {n = n} h = takes_as (as_body x n) (takes_begin takes_barrier (λ outside. takes_begin takes_enter (λ outer.
    takes_end h (λ id. takes_end (takes_close_barrier outside) (λ y. takes_end (takes_leave outer id) (λ u. takes_pure _))))))

-- the same for an end of a range in a type
pub takes_inner : (x : InnerBody) {n : Size} {p : ExprSteps} → Takes n p → Takes (a_body x n) (inner_form p)
unfolding inner_form
takes_inner x {n = n} h = takes_as (as_body x n) (takes_begin takes_barrier (λ outside. takes_begin takes_enter (λ outer.
    takes_end h (λ id. takes_end (takes_close_barrier outside) (λ y. takes_end (takes_leave outer id) (λ u. takes_pure _))))))
