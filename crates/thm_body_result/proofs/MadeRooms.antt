-- Steps that make something up store as much as it becomes, or there is no room for it.
use Rattle.std.proofs.Common.{arith, ◌≡◌, refl, sym, subst, ℕ, suc, ◌≤◌, ◌^◌, Bool, true, false, if◌then◌else◌, nat_lt, length}
use Rattle.std.proofs.Common.{Option, Some, None, Ok, Err, inl, inr, add-one}
use Rattle.std.proofs.lemmas.Bool.{ltb-false}
use Rattle.hir_binding.specs.declared.binding.BindingAnnotation.{BindingAnnotation}
use Rattle.hir_store.specs.Pointers.{Pointer}
use Rattle.hir_store.specs.Arenas.{Sourced, with_made}
use Rattle.hir_store.specs.StoreSink as store_sink
use Rattle.hir_store.specs.StoreSink.{expr_id}
use Rattle.hir_store.specs.declared.error.StoreError.TheVariants.{Full}
use Rattle.hir_store.specs.declared.hir.Expr.{Expr}
use Rattle.hir_store.specs.declared.ids.ExprId.{ExprId}
use Rattle.hir_store.specs.declared.ids.LabelId.{LabelId}
use Rattle.hir_store.specs.declared.name.Name.TheVariants.{Generated}
use Rattle.hir_lower_builder.specs.Builder.{Builder}
use Rattle.hir_lower_builder.specs.Lowering.{Checked, go_on, Lowering, ◌>>=◌, pure, alloc_desugared, made_number, count_out, try_target}
use Rattle.hir_lower_builder.specs.Lowering.{open_try}
use Rattle.hir_lower_builder.specs.Lowering.{open_try_as, open_try_named}
use Rattle.hir_lower_builder.specs.Made.{made_bind_form}
use Rattle.thm_logic.proofs.Logic.{one_more}
use Rattle.thm_body_result.specs.Size.{nothing, an_expr, a_label, a_generated_name, a_made_bind}
use Rattle.thm_body_result.specs.Size.{◌∪◌}
use Rattle.thm_body_result.proofs.Owners.{no_owners}
use Rattle.thm_body_result.proofs.Rooms.{Takes, takes_then, takes_end, takes_pure, takes_pat}
use Rattle.thm_body_result.proofs.Rooms.{takes_binding, takes_define, made_label}
use Rattle.thm_body_result.proofs.Took.{Room, took_none, grew_none, grew_one, still, no_sources, unnamed}

-- steps

abbrev pub hidden_expr : Bool → Expr → Option Pointer → Sourced Expr ExprId → Checked ExprId × Sourced Expr ExprId
hidden_expr t e source a = if t then (Ok (expr_id (length a.entries)), with_made a e source) else (Err Full, a)

-- one that its node doesn't lead to
pub takes_made : (e : Expr) (source : Option Pointer) → Takes an_expr (alloc_desugared e source)
unfolding alloc_desugared store_sink.alloc_desugared
takes_made e source = record { takes = λ b d. by b (nat_lt (length b.stored.exprs.entries) b.stored.exprs.limit) refl }
  where
    by : (b : Builder) (t : Bool) → nat_lt (length b.stored.exprs.entries) b.stored.exprs.limit ≡ t
        → Room an_expr b (hidden_expr t e source b.stored.exprs).0
        (record b { stored = record b.stored { exprs = (hidden_expr t e source b.stored.exprs).1 } })
    by b true is = record {
      exprs = grew_one b.stored.exprs.entries e b.stored.exprs.limit;
      labels = still b.stored.labels refl;
      bindings = grew_none refl refl;
      pats = still b.stored.pats refl;
      types = still b.stored.types refl;
      lifetimes = still b.stored.lifetimes refl;
      paired = λ d. record {
        exprs = one_more b.stored.exprs.entries e b.stored.exprs.sources source d.exprs;
        labels = d.labels;
        pats = d.pats;
        types = d.types;
        lifetimes = d.lifetimes;
      };
      pat_sources = no_sources b.stored.pats refl;
      pat_mappings = refl;
      target_mappings = refl;
      type_sources = no_sources b.stored.types refl;
      lifetime_sources = no_sources b.stored.lifetimes refl;
      type_mappings = refl;
      pat_leads = refl;
      type_leads = refl;
      names = unnamed refl;
      params = unnamed refl;
      as_many = refl;
      owners = λ h. no_owners b.stored.bindings.owners refl;
    }
    by b false is = let full = ltb-false (length b.stored.exprs.entries) b.stored.exprs.limit is in inl (omega arith)

abbrev numbered : Bool → Lowering ℕ
numbered room b = if room then (Ok b.names, record b { names = suc b.names }) else count_out b

-- a name is made up
pub takes_number : Takes a_generated_name made_number
unfolding made_number count_out
takes_number = record { takes = λ b d. by b (nat_lt (suc b.names) (2 ^ 32)) refl }
  where
    by : (b : Builder) (t : Bool) → nat_lt (suc b.names) (2 ^ 32) ≡ t → Room a_generated_name b (numbered t b).0 (numbered t b).1
    by b true is = record {
      exprs = grew_none refl refl;
      labels = still b.stored.labels refl;
      bindings = grew_none refl refl;
      pats = still b.stored.pats refl;
      types = still b.stored.types refl;
      lifetimes = still b.stored.lifetimes refl;
      paired = λ d. record {
        exprs = d.exprs;
        labels = d.labels;
        pats = d.pats;
        types = d.types;
        lifetimes = d.lifetimes;
      };
      pat_sources = no_sources b.stored.pats refl;
      pat_mappings = refl;
      target_mappings = refl;
      type_sources = no_sources b.stored.types refl;
      lifetime_sources = no_sources b.stored.lifetimes refl;
      type_mappings = refl;
      pat_leads = refl;
      type_leads = refl;
      names = sym (add-one b.names);
      params = unnamed refl;
      as_many = refl;
      owners = λ h. no_owners b.stored.bindings.owners refl;
    }
    by b false is = let far = ltb-false (suc b.names) (2 ^ 32) is in
        inr (inr (inr (inr (inr (inr (inr (inl (subst (λ k. 2 ^ 32 ≤ k) (sym (add-one b.names)) far))))))))

pub takes_target : Takes nothing try_target
unfolding try_target
takes_target = record { takes = λ b d. took_none b }

-- the same as a `try`, with this name
abbrev trying : LabelId → Bool → Lowering LabelId
trying n typed = open_try_as n typed >>= (λ _. pure n)

abbrev opening_try : Pointer → Bool → ℕ → Bool → Builder → Checked LabelId × Builder
opening_try at typed k t b =
    let r = made_label t (record { name = Generated k }) (Some at) b.stored.labels in
    go_on r.0 (record b { stored = record b.stored { labels = r.1 } }) (λ n. trying n typed)

takes_named : (at : Pointer) (typed : Bool) (k : ℕ) → Takes a_label (open_try_named at typed k)
unfolding store_sink.alloc_label
takes_named at typed k = record { takes = λ b d. by b (nat_lt (length b.stored.labels.entries) b.stored.labels.limit) refl }
  where
    by : (b : Builder) (t : Bool) → nat_lt (length b.stored.labels.entries) b.stored.labels.limit ≡ t
        → Room a_label b (opening_try at typed k t b).0 (opening_try at typed k t b).1
    by b true is = record {
      exprs = still b.stored.exprs refl;
      labels = grew_one b.stored.labels.entries (record { name = Generated k }) b.stored.labels.limit;
      bindings = grew_none refl refl;
      pats = still b.stored.pats refl;
      types = still b.stored.types refl;
      lifetimes = still b.stored.lifetimes refl;
      paired = λ d. record {
        exprs = d.exprs;
        labels = one_more b.stored.labels.entries (record { name = Generated k }) b.stored.labels.sources (Some at) d.labels;
        pats = d.pats;
        types = d.types;
        lifetimes = d.lifetimes;
      };
      pat_sources = no_sources b.stored.pats refl;
      pat_mappings = refl;
      target_mappings = refl;
      type_sources = no_sources b.stored.types refl;
      lifetime_sources = no_sources b.stored.lifetimes refl;
      type_mappings = refl;
      pat_leads = refl;
      type_leads = refl;
      names = unnamed refl;
      params = unnamed refl;
      as_many = refl;
      owners = λ h. no_owners b.stored.bindings.owners refl;
    }
    by b false is = let full = ltb-false (length b.stored.labels.entries) b.stored.labels.limit is in inr (inl (omega arith))

pub takes_try : (at : Pointer) (typed : Bool) → Takes (a_generated_name ∪ a_label) (open_try at typed)
unfolding open_try
takes_try at typed = takes_then takes_number (λ k. takes_named at typed k)

pub made_bind_takes : (mode : BindingAnnotation) (n : ℕ) → Takes a_made_bind (made_bind_form mode n)
unfolding made_bind_form
made_bind_takes mode n = takes_then (takes_binding _)
    (λ b. takes_end (takes_pat _ None) (λ p. takes_end (takes_define b p) (λ u. takes_pure p)))
