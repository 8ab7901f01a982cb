-- What is told of macro calls, and that their nodes lead to what they stand for: steps by what they do.
use Rattle.std.proofs.Common.{[], ◌≡◌, ◌∙◌, refl, sym, ap, subst, List, ◌∷◌, ◌++◌, map, Option, Some, None, Ok}
use Rattle.std.proofs.Common.{append-nil, append_assoc}
use Rattle.hir_base.specs.declared.node.HirFileId.{HirFileId}
use Rattle.hir_base.specs.declared.node.TextRange.{TextRange}
use Rattle.hir_store.specs.Arenas.{with_mapping}
use Rattle.hir_store.specs.Pointers.{Pointer}
use Rattle.hir_store.specs.Stored.{Stored}
use Rattle.hir_store.specs.StoreSink as store_sink
use Rattle.hir_store.specs.StoreSink.{Extends}
use Rattle.hir_store.specs.declared.diagnostics.ExpressionStoreDiagnostics.{ExpressionStoreDiagnostics}
use Rattle.hir_store.specs.declared.ids.CfgId.{CfgId}
use Rattle.hir_store.specs.declared.ids.PatId.{PatId}
use Rattle.hir_store.specs.declared.ids.TypeRefId.{TypeRefId}
use Rattle.hir_store.proofs.Arenas.{continues_refl, prefix_refl}
use Rattle.hir_store.proofs.BindingLemmas.{bindings_refl}
use Rattle.hir_store.proofs.Extending.{extends_point_pat, extends_point_target, extends_point_type}
use Rattle.hir_store.proofs.Maps.{entered}
use Rattle.hir_env.specs.NodeMap.{Site}
use Rattle.hir_env.specs.Answers.{Eager}
use Rattle.hir_env.specs.ResolvedTree as tree
use Rattle.hir_env.specs.ResolvedTree.{Called, Entered, Gone}
use Rattle.hir_lower_builder.specs.Builder.{Builder}
use Rattle.hir_lower_builder.specs.Calls.{track, track_each, track_gone, record_each, report_condition, emitted}
use Rattle.hir_lower_builder.specs.Lowering.{go_on, Lowering, ◌>>◌, pure, point_pat, point_target, point_type, record_expansion}
use Rattle.hir_lower_builder.specs.Lowering.{report}
use Rattle.thm_logic.specs.Calls.{Expansions, called_faults, condition_faults, eager_expansion, expansions_of_called}
use Rattle.thm_logic.specs.Calls.{expansions_of_each, expansions_of_entered, expansions_of_gone, with_emitted}
use Rattle.thm_logic.proofs.Apart.{Apart, apart_stored}
use Rattle.thm_logic.proofs.Logic.{Holds, Correct, correct_as}
use Rattle.thm_logic.proofs.Mapping.{leads_mapping}
use Rattle.thm_logic.proofs.PatSteps.{PatWrites, correct_pat_write}
use Rattle.thm_logic.proofs.Steps.{Writes}
use Rattle.thm_logic.proofs.Yields.{LeavesTo, Still, still_stored}
use Rattle.thm_logic.proofs.Entries.{answers_stored}

abbrev Faults : Type 0
Faults = List ExpressionStoreDiagnostics

-- steps that only tell

-- it tells these, and nothing else
pub record Only (es : Expansions) (ds : Faults) (p : Lowering (Unit {0})) : Type 0 where
  pub is : (b : Builder) → p b ≡ (Ok tt, record b { stored = with_emitted es ds b.stored })

abbrev emission : Expansions → Faults → Builder → Builder
emission es ds b = record b { stored = record b.stored { expansions = es; diagnostics = ds } }

only_pure : Only [] [] (pure tt)
only_pure = record {
  is = λ b. λ i. (Ok tt, emission (sym (append-nil b.stored.expansions) i) (sym (append-nil b.stored.diagnostics) i) b);
}

only_then : {es fs : Expansions} {ds cs : Faults} {p q : Lowering (Unit {0})} → Only es ds p → Only fs cs q
    → Only (es ++ fs) (ds ++ cs) (p >> q)
only_then {es = es} {fs = fs} {ds = ds} {cs = cs} {q = q} h k = record {
  is = λ b. let s = b.stored in ap (λ r. go_on r.0 r.1 (λ u. q)) (h.is b)
      ∙ (k.is (record b { stored = with_emitted es ds s })
      ∙ (λ i. (Ok tt, emission (append_assoc s.expansions es fs i) (append_assoc s.diagnostics ds cs i) b)));
}

only_expansion : (call : Site) (range : Option TextRange) (file : HirFileId)
    → Only (record { call = call; range = range; file = file } ∷ []) [] (record_expansion call range file)
unfolding record_expansion store_sink.record_expansion
only_expansion call range file = record {
  is = λ b. let s = b.stored in
      λ i. (Ok tt, emission (s.expansions ++ record { call = call; range = range; file = file } ∷ []) (sym (append-nil s.diagnostics) i) b);
}

pub only_report : (d : ExpressionStoreDiagnostics) → Only [] (d ∷ []) (report d)
unfolding report store_sink.report
only_report d = record {
  is = λ b. let s = b.stored in λ i. (Ok tt, emission (sym (append-nil s.expansions) i) (s.diagnostics ++ d ∷ []) b);
}

only_each : (es : List Eager) → Only (map eager_expansion es) [] (record_each es)
only_each [] = only_pure
only_each (e ∷ es) = only_then (only_expansion e.0 None e.1) (only_each es)

pub only_track : (c : Entered) → Only (expansions_of_entered c) [] (track c)
unfolding track
only_track c = only_then (only_each c.eager) (only_expansion _ _ _)

pub only_emitted : (c : Called) → Only (expansions_of_called c) (called_faults c) (emitted c)
only_emitted tree.callless = only_pure
only_emitted tree.unentered = only_pure
only_emitted (tree.unresolved at path) = only_report _
only_emitted (tree.entered c) = only_track c
only_emitted tree.spliced = only_pure

only_track_each : (cs : List Entered) → Only (expansions_of_each cs) [] (track_each cs)
only_track_each [] = only_pure
only_track_each (c ∷ cs) = only_then (only_track c) (only_track_each cs)

only_condition : (x : Option (Pointer × CfgId)) → Only [] (condition_faults x) (report_condition x)
only_condition None = only_pure
only_condition (Some (at, by)) = only_report _

pub only_gone : (why : Gone) → Only (expansions_of_gone why) (condition_faults why.condition) (track_gone why)
unfolding track_gone
only_gone why = let h = only_then (only_track_each why.entered) (only_condition why.condition) in
    subst (λ es. Only es (condition_faults why.condition) (track_gone why)) (append-nil (expansions_of_each why.entered)) h

-- what is so of such steps

pub extends_emitted : (es : Expansions) (ds : Faults) (s : Stored) → Extends s (with_emitted es ds s)
extends_emitted es ds s = record {
  exprs = continues_refl s.exprs;
  labels = continues_refl s.labels;
  pats = continues_refl s.pats;
  bindings = bindings_refl s.bindings;
  types = continues_refl s.types;
  lifetimes = continues_refl s.lifetimes;
  roots = prefix_refl s.roots;
  target_nodes = prefix_refl _;
  field_map_back = prefix_refl s.field_map_back;
  pat_field_map_back = prefix_refl s.pat_field_map_back;
  block_scopes = prefix_refl s.block_scopes;
  expansions = record { more = es; is = refl };
  diagnostics = record { more = ds; is = refl };
}

pub correct_only : {es : Expansions} {ds : Faults} {p : Lowering (Unit {0})} → Only es ds p → Correct p (PatWrites (with_emitted es ds))
correct_only {es = es} {ds = ds} {p = p} h = record {
  holds = λ final ps b r. subst (λ r. Holds (PatWrites (with_emitted es ds)) final ps b r.0 r.1) (sym (h.is b))
      ((correct_pat_write (with_emitted es ds) (λ s. refl) (extends_emitted es ds)).holds final ps b r);
}

-- in the terms of what writes
writes_only : {es : Expansions} {ds : Faults} {p : Lowering (Unit {0})} → Only es ds p → Correct p (Writes tt (with_emitted es ds))
writes_only h = correct_as (correct_only h) (λ final ps m m' u g row. record {
  is = refl;
  nodes = ap (λ c. c.0) row.counts_are;
  labels = ap (λ c. c.1) row.counts_are;
  names = ap (λ c. c.7) row.counts_are;
  stored = row.stored;
})

pub correct_track : (c : Entered) → Correct (track c) (Writes tt (with_emitted (expansions_of_entered c) []))
correct_track c = writes_only (only_track c)

pub correct_emitted : (c : Called) → Correct (emitted c) (Writes tt (with_emitted (expansions_of_called c) (called_faults c)))
correct_emitted c = writes_only (only_emitted c)

pub correct_track_gone : (why : Gone)
    → Correct (track_gone why) (Writes tt (with_emitted (expansions_of_gone why) (condition_faults why.condition)))
correct_track_gone why = writes_only (only_gone why)

pub still_only : {es : Expansions} {ds : Faults} {p : Lowering (Unit {0})} → Only es ds p → Still p
still_only h = record { still = λ b. subst (λ r. LeavesTo b r.0 r.1) (sym (h.is b)) refl }

pub apart_only : {es : Expansions} {ds : Faults} {p : Lowering (Unit {0})} → Only es ds p → Correct p Apart
apart_only {es = es} {ds = ds} h = correct_as (correct_only h)
    (λ final ps m m' u g row. apart_stored (with_emitted es ds) m m' (ap (λ c. c.7) row.counts_are) row.stored (λ s k. refl))

-- the node of a call leads to what it stands for

abbrev pub pointing_pat : Pointer → PatId → Stored → Stored
pointing_pat p id s = record s { pats = with_mapping s.pats p id }

pub correct_point_pat : (node : Pointer) (id : PatId) → Correct (point_pat node id) (PatWrites (pointing_pat node id))
unfolding point_pat store_sink.point_pat
correct_point_pat node id = correct_pat_write (pointing_pat node id) (λ s. refl) (λ s. extends_point_pat s node id)

abbrev pub pointing_type : Pointer → TypeRefId → Stored → Stored
pointing_type p id s = record s { types = with_mapping s.types p id }

pub correct_point_type : (node : Pointer) (id : TypeRefId) → Correct (point_type node id) (PatWrites (pointing_type node id))
unfolding point_type store_sink.point_type
correct_point_type node id = record {
  holds = λ final ps b r. answers_stored b (pointing_type node id b.stored) refl
      (λ d. record { exprs = d.exprs; labels = d.labels; pats = d.pats; types = d.types; lifetimes = d.lifetimes })
      (λ d w. record { types = leads_mapping b.stored.types w.types node id; lifetimes = w.lifetimes })
      (extends_point_type b.stored node id) (λ d pre. record { counts_are = refl; stored = refl });
}

abbrev pub pointing_target : Pointer → PatId → Stored → Stored
pointing_target p id s = record s { target_map = entered p id s.target_map }

pub correct_point_target : (node : Pointer) (id : PatId) → Correct (point_target node id) (PatWrites (pointing_target node id))
unfolding point_target store_sink.point_target
correct_point_target node id =
    correct_pat_write (pointing_target node id) (λ s. refl) (λ s. extends_point_target s node id)

pub still_point_pat : (node : Pointer) (id : PatId) → Still (point_pat node id)
unfolding point_pat
still_point_pat node id = still_stored (store_sink.point_pat node id)

pub still_point_target : (node : Pointer) (id : PatId) → Still (point_target node id)
unfolding point_target
still_point_target node id = still_stored (store_sink.point_target node id)

pub still_point_type : (node : Pointer) (id : TypeRefId) → Still (point_type node id)
unfolding point_type
still_point_type node id = still_stored (store_sink.point_type node id)

pub point_pat_apart : (node : Pointer) (id : PatId) → Correct (point_pat node id) Apart
point_pat_apart node id = correct_as (correct_point_pat node id)
    (λ final ps m m' u g row. apart_stored (pointing_pat node id) m m' (ap (λ c. c.7) row.counts_are) row.stored (λ s k. refl))

pub point_target_apart : (node : Pointer) (id : PatId) → Correct (point_target node id) Apart
point_target_apart node id = correct_as (correct_point_target node id)
    (λ final ps m m' u g row. apart_stored (pointing_target node id) m m' (ap (λ c. c.7) row.counts_are) row.stored (λ s k. refl))

pub point_type_apart : (node : Pointer) (id : TypeRefId) → Correct (point_type node id) Apart
point_type_apart node id = correct_as (correct_point_type node id)
    (λ final ps m m' u g row. apart_stored (pointing_type node id) m m' (ap (λ c. c.7) row.counts_are) row.stored (λ s k. refl))
