-- The store and the source map read back.
use Rattle.std.proofs.Common.{arith, refl}
use Rattle.hir_store.specs.declared.diagnostics.ExpressionStoreDiagnostics.{ExpressionStoreDiagnostics}
use Rattle.hir_store.specs.declared.diagnostics.ExpressionStoreDiagnostics.TheVariants as diagnostic_is
use Rattle.thm_result_json.specs.Codec.{Faithful}
use Rattle.thm_result_json.specs.Maps.{diagnostic, diagnostic_await_outside_of_async, diagnostic_fru_in_destructuring_assignment}
use Rattle.thm_result_json.specs.Maps.{diagnostic_inactive_code, diagnostic_kinds, diagnostic_missing_body}
use Rattle.thm_result_json.specs.Maps.{diagnostic_pattern_arg_in_extern_fn, diagnostic_undeclared_label, diagnostic_unreachable_label}
use Rattle.thm_result_json.specs.Maps.{diagnostic_unresolved_macro_call, expanded_call, expanded_call_fields, of_diagnostic, root}
use Rattle.thm_result_json.specs.Maps.{root_fields, source_map, source_map_fields, store, store_fields}
use Rattle.thm_result_json.proofs.Codecs.{Kept, Emitted, keys, kind_keeps, lasts, listing_faithful, lists, makes, maybes, both_faithful}
use Rattle.thm_result_json.proofs.Codecs.{reads, sums, fields_back}
use Rattle.thm_result_json.proofs.Exprs.{expr_theorem, label_theorem}
use Rattle.thm_result_json.proofs.Numbers.{binding_id_theorem, block_theorem, call_theorem, cfg_theorem, expr_id_theorem, file_theorem}
use Rattle.thm_result_json.proofs.Numbers.{label_id_theorem}
use Rattle.thm_result_json.proofs.Numbers.{lifetime_id_theorem, name_theorem, pat_id_theorem, pointer_theorem, range_theorem}
use Rattle.thm_result_json.proofs.Numbers.{type_id_theorem}
use Rattle.thm_result_json.proofs.Paths.{mod_path_theorem}
use Rattle.thm_result_json.proofs.Pats.{binding_theorem, pat_theorem}
use Rattle.thm_result_json.proofs.Types.{lifetime_theorem, type_ref_theorem}
use Rattle.thm_result_json.proofs.Words.{await_location_theorem, missing_body_theorem}

root_kept : Kept root_fields 0
root_kept =
    keys "bindings_end" (reads binding_id_theorem)
    (keys "exprs_end" (reads expr_id_theorem)
    (keys "pats_end" (reads pat_id_theorem)
    (lasts "root" (reads expr_id_theorem)) (λ d x. refl)) (λ d x. refl)) (λ d x. refl)

pub root_theorem : Faithful root 1
root_theorem =
    makes (λ x. (x.bindings_end, (x.exprs_end, (x.pats_end, x.root)))) (λ v. record {
      root = v.1.1.1;
      exprs_end = v.1.0;
      pats_end =
          v.1.1.0;
      bindings_end = v.0;
    }) root_kept (λ x. refl)

expanded_call_kept : Kept expanded_call_fields 1
expanded_call_kept =
    keys "call" (reads call_theorem)
    (keys "file" (reads file_theorem)
    (lasts "range" (maybes range_theorem)) (λ d x. refl)) (λ d x. refl)

pub expanded_call_theorem : Faithful expanded_call 2
expanded_call_theorem =
    makes (λ x. (x.call, (x.file, x.range))) (λ v. record { call = v.0; range = v.1.1; file = v.1.0 }) expanded_call_kept (λ x. refl)

diagnostic_inactive_code_kept : Kept diagnostic_inactive_code 1
diagnostic_inactive_code_kept =
    keys "cfg" (reads cfg_theorem)
    (kind_keeps "InactiveCode"
    (lasts "node" (reads pointer_theorem)) (λ d x. refl)) (λ d x. refl)

diagnostic_unreachable_label_kept : Kept diagnostic_unreachable_label 1
diagnostic_unreachable_label_kept =
    kind_keeps "UnreachableLabel"
    (keys "name" (reads name_theorem)
    (lasts "node" (reads pointer_theorem)) (λ d x. refl)) (λ d x. refl)

diagnostic_undeclared_label_kept : Kept diagnostic_undeclared_label 1
diagnostic_undeclared_label_kept =
    kind_keeps "UndeclaredLabel"
    (keys "name" (reads name_theorem)
    (lasts "node" (reads pointer_theorem)) (λ d x. refl)) (λ d x. refl)

diagnostic_unresolved_macro_call_kept : Kept diagnostic_unresolved_macro_call 2
diagnostic_unresolved_macro_call_kept =
    kind_keeps "UnresolvedMacroCall"
    (keys "node" (reads pointer_theorem)
    (lasts "path" (reads mod_path_theorem)) (λ d x. refl)) (λ d x. refl)

diagnostic_await_outside_of_async_kept : Kept diagnostic_await_outside_of_async 1
diagnostic_await_outside_of_async_kept =
    kind_keeps "AwaitOutsideOfAsync"
    (keys "location" (reads await_location_theorem)
    (lasts "node" (reads pointer_theorem)) (λ d x. refl)) (λ d x. refl)

diagnostic_missing_body_kept : Kept diagnostic_missing_body 1
diagnostic_missing_body_kept =
    kind_keeps "MissingBody"
    (keys "kind" (reads missing_body_theorem)
    (lasts "node" (reads pointer_theorem)) (λ d x. refl)) (λ d x. refl)

diagnostic_fru_in_destructuring_assignment_kept : Kept diagnostic_fru_in_destructuring_assignment 1
diagnostic_fru_in_destructuring_assignment_kept =
    kind_keeps "FruInDestructuringAssignment" (lasts "node" (reads pointer_theorem)) (λ d x. refl)

diagnostic_pattern_arg_in_extern_fn_kept : Kept diagnostic_pattern_arg_in_extern_fn 1
diagnostic_pattern_arg_in_extern_fn_kept = kind_keeps "PatternArgInExternFn" (lasts "node" (reads pointer_theorem)) (λ d x. refl)

diagnostic_emitted : (x : ExpressionStoreDiagnostics) → Emitted diagnostic_kinds (of_diagnostic x) x 2
diagnostic_emitted (diagnostic_is.InactiveCode node condition) =
    fields_back 2 (λ v. diagnostic_is.InactiveCode v.1 v.0) diagnostic_inactive_code_kept (omega arith) (condition, node)
diagnostic_emitted (diagnostic_is.UnreachableLabel node called) =
    fields_back 2 (λ v. diagnostic_is.UnreachableLabel v.1 v.0) diagnostic_unreachable_label_kept (omega arith) (called, node)
diagnostic_emitted (diagnostic_is.UndeclaredLabel node called) =
    fields_back 2 (λ v. diagnostic_is.UndeclaredLabel v.1 v.0) diagnostic_undeclared_label_kept (omega arith) (called, node)
diagnostic_emitted (diagnostic_is.UnresolvedMacroCall node p) =
    fields_back 2 (λ v. diagnostic_is.UnresolvedMacroCall v.0 v.1) diagnostic_unresolved_macro_call_kept (omega arith) (node, p)
diagnostic_emitted (diagnostic_is.AwaitOutsideOfAsync node where_it_is) =
    fields_back 2 (λ v. diagnostic_is.AwaitOutsideOfAsync v.1 v.0) diagnostic_await_outside_of_async_kept (omega arith) (where_it_is, node)
diagnostic_emitted (diagnostic_is.MissingBody node what) =
    fields_back 2 (λ v. diagnostic_is.MissingBody v.1 v.0) diagnostic_missing_body_kept (omega arith) (what, node)
diagnostic_emitted (diagnostic_is.FruInDestructuringAssignment node) =
    fields_back 2 (λ v. diagnostic_is.FruInDestructuringAssignment v) diagnostic_fru_in_destructuring_assignment_kept (omega arith) node
diagnostic_emitted (diagnostic_is.PatternArgInExternFn node) =
    fields_back 2 (λ v. diagnostic_is.PatternArgInExternFn v) diagnostic_pattern_arg_in_extern_fn_kept (omega arith) node

pub diagnostic_theorem : Faithful diagnostic 3
diagnostic_theorem = sums of_diagnostic diagnostic_kinds 2 diagnostic_emitted

store_kept : Kept store_fields 12
store_kept =
    keys "binding_owners" (reads (lists (maybes expr_id_theorem)))
    (keys "bindings" (reads (listing_faithful binding_theorem))
    (keys "exprs" (reads (listing_faithful expr_theorem))
    (keys "labels" (reads (listing_faithful label_theorem))
    (keys "lifetimes" (reads (listing_faithful lifetime_theorem))
    (keys "pats" (reads (listing_faithful pat_theorem))
    (keys "roots" (reads (listing_faithful root_theorem))
    (lasts "types" (reads (listing_faithful type_ref_theorem))) (λ d x. refl)) (λ d x. refl)) (λ d x. refl)) (λ d x. refl))
    (λ d x. refl)) (λ d x. refl)) (λ d x. refl)

pub store_theorem : Faithful store 13
store_theorem =
    makes (λ x. (x.binding_owners, (x.bindings, (x.exprs, (x.labels, (x.lifetimes, (x.pats, (x.roots, x.types)))))))) (λ v. record {
      exprs
          = v.1.1.0;
      labels = v.1.1.1.0;
      pats = v.1.1.1.1.1.0;
      bindings = v.1.0;
      binding_owners = v.0;
      types = v.1.1.1.1.1.1.1;
      lifetimes =
          v.1.1.1.1.0;
      roots = v.1.1.1.1.1.1.0;
    }) store_kept (λ x. refl)

source_map_kept : Kept source_map_fields 4
source_map_kept =
    keys "binding_definitions" (reads (listing_faithful (listing_faithful pat_id_theorem)))
    (keys "block_scopes" (reads (listing_faithful block_theorem))
    (keys "diagnostics" (reads (listing_faithful diagnostic_theorem))
    (keys "expansions" (reads (listing_faithful expanded_call_theorem))
    (keys "expr_map" (reads (listing_faithful (both_faithful (reads pointer_theorem) (reads expr_id_theorem))))
    (keys "expr_sources" (reads (lists (maybes pointer_theorem)))
    (keys "field_map_back" (reads (listing_faithful (both_faithful (reads expr_id_theorem) (reads pointer_theorem))))
    (keys "label_map" (reads (listing_faithful (both_faithful (reads pointer_theorem) (reads label_id_theorem))))
    (keys "label_sources" (reads (lists (maybes pointer_theorem)))
    (keys "lifetime_map" (reads (listing_faithful (both_faithful (reads pointer_theorem) (reads lifetime_id_theorem))))
    (keys "lifetime_sources" (reads (lists (maybes pointer_theorem)))
    (keys "pat_field_map_back" (reads (listing_faithful (both_faithful (reads pat_id_theorem) (reads pointer_theorem))))
    (keys "pat_map" (reads (listing_faithful (both_faithful (reads pointer_theorem) (reads pat_id_theorem))))
    (keys "pat_sources" (reads (lists (maybes pointer_theorem)))
    (keys "target_map" (reads (listing_faithful (both_faithful (reads pointer_theorem) (reads pat_id_theorem))))
    (keys "type_sources" (reads (lists (maybes pointer_theorem)))
    (lasts "types_map" (reads (listing_faithful (both_faithful (reads pointer_theorem) (reads type_id_theorem))))) (λ d x. refl))
    (λ d x. refl)) (λ d x. refl)) (λ d x. refl)) (λ d x. refl)) (λ d x. refl)) (λ d x. refl)) (λ d x. refl))
    (λ d x. refl)) (λ d x. refl)) (λ d x. refl)) (λ d x. refl)) (λ d x. refl)) (λ d x. refl)) (λ d x. refl)) (λ d x. refl)

pub source_map_theorem : Faithful source_map 5
source_map_theorem =
    makes (λ x. (
      x.binding_definitions,
      (
        x.block_scopes,
        (
          x.diagnostics,
          (
            x.expansions,
            (
              x.expr_map,
              (
                x.expr_sources,
                (
                  x.field_map_back,
                  (
                    x.label_map,
                    (
                      x.label_sources,
                      (
                        x.lifetime_map,
                        (
                          x.lifetime_sources,
                          (
                            x.pat_field_map_back,
                            (
                              x.pat_map,
                              (
                                x.pat_sources,
                                (x.target_map, (x.type_sources, x.types_map)),
                              ),
                            ),
                          ),
                        ),
                      ),
                    ),
                  ),
                ),
              ),
            ),
          ),
        ),
      ),
    )) (λ v. record {
      expr_sources = v.1.1.1.1.1.0;
      label_sources =
          v.1.1.1.1.1.1.1.1.0;
      pat_sources = v.1.1.1.1.1.1.1.1.1.1.1.1.1.0;
      type_sources = v.1.1.1.1.1.1.1.1.1.1.1.1.1.1.1.0;
      lifetime_sources =
          v.1.1.1.1.1.1.1.1.1.1.0;
      expr_map = v.1.1.1.1.0;
      label_map = v.1.1.1.1.1.1.1.0;
      pat_map = v.1.1.1.1.1.1.1.1.1.1.1.1.0;
      target_map =
          v.1.1.1.1.1.1.1.1.1.1.1.1.1.1.0;
      binding_definitions = v.0;
      types_map = v.1.1.1.1.1.1.1.1.1.1.1.1.1.1.1.1;
      lifetime_map =
          v.1.1.1.1.1.1.1.1.1.0;
      field_map_back = v.1.1.1.1.1.1.0;
      pat_field_map_back = v.1.1.1.1.1.1.1.1.1.1.1.0;
      block_scopes = v.1.0;
      expansions = v.1.1.1.0;
      diagnostics = v.1.1.0;
    }) source_map_kept (λ x. refl)
