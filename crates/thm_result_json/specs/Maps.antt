-- Diagnostics, the store and the source map.
use Rattle.std.specs.Prelude.{List, [], ◌∷◌, Option}
use Rattle.hir_base.specs.declared.node.HirFileId.{HirFileId}
use Rattle.hir_base.specs.declared.node.InFile.{InFile}
use Rattle.hir_base.specs.declared.node.NodeId.{NodeId}
use Rattle.hir_base.specs.declared.node.TextRange.{TextRange}
use Rattle.hir_store.specs.Pointers.{Pointer}
use Rattle.hir_store.specs.Stored.{SourceMap, Store}
use Rattle.hir_store.specs.declared.diagnostics.AwaitLocation.{AwaitLocation}
use Rattle.hir_store.specs.declared.diagnostics.ExpressionStoreDiagnostics.{ExpressionStoreDiagnostics}
use Rattle.hir_store.specs.declared.diagnostics.MissingBodyItemKind.{MissingBodyItemKind}
use Rattle.hir_store.specs.declared.expansions.ExpandedCall.{ExpandedCall}
use Rattle.hir_store.specs.declared.hir.Expr.{Expr}
use Rattle.hir_store.specs.declared.hir.Label.{Label}
use Rattle.hir_store.specs.declared.ids.BindingId.{BindingId}
use Rattle.hir_store.specs.declared.ids.BlockId.{BlockId}
use Rattle.hir_store.specs.declared.ids.CfgId.{CfgId}
use Rattle.hir_store.specs.declared.ids.ExprId.{ExprId}
use Rattle.hir_store.specs.declared.ids.LabelId.{LabelId}
use Rattle.hir_store.specs.declared.ids.LifetimeRefId.{LifetimeRefId}
use Rattle.hir_store.specs.declared.ids.PatId.{PatId}
use Rattle.hir_store.specs.declared.ids.TypeRefId.{TypeRefId}
use Rattle.hir_store.specs.declared.name.Name.{Name}
use Rattle.hir_store.specs.declared.pat.Binding.{Binding}
use Rattle.hir_store.specs.declared.pat.Pat.{Pat}
use Rattle.hir_store.specs.declared.path.ModPath.{ModPath}
use Rattle.hir_store.specs.declared.roots.ExprRoot.{ExprRoot}
use Rattle.hir_store.specs.declared.type_ref.LifetimeRef.{LifetimeRef}
use Rattle.hir_store.specs.declared.type_ref.TypeRef.{TypeRef}
use Rattle.hir_store.specs.declared.diagnostics.ExpressionStoreDiagnostics.TheVariants as diagnostic_is
use Rattle.serde_json.specs.Data.{Members}
use Rattle.thm_result_json.specs.Codec.{Codec, Fields, Kind, both, key, kind, kinds, last, listing, made, maybe, one}
use Rattle.thm_result_json.specs.Exprs.{expr, label}
use Rattle.thm_result_json.specs.Numbers.{binding_id, block, call, cfg, expr_id, file, label_id, lifetime_id, name, pat_id, pointer, range}
use Rattle.thm_result_json.specs.Numbers.{type_id}
use Rattle.thm_result_json.specs.Paths.{mod_path}
use Rattle.thm_result_json.specs.Pats.{binding, pat}
use Rattle.thm_result_json.specs.Types.{lifetime, type_ref}
use Rattle.thm_result_json.specs.Words.{await_location, missing_body}

-- `{"bindings_end": 0, "exprs_end": 0, "pats_end": 0, "root": 0}`
abbrev pub root_fields : Fields (BindingId × (ExprId × (PatId × ExprId)))
root_fields = key "bindings_end" binding_id (key "exprs_end" expr_id (key "pats_end" pat_id (last "root" expr_id)))

abbrev pub root : Codec ExprRoot
root =
    made (λ x. (x.bindings_end, (x.exprs_end, (x.pats_end, x.root)))) (λ v. record {
      root = v.1.1.1;
      exprs_end = v.1.0;
      pats_end =
          v.1.1.0;
      bindings_end = v.0;
    }) root_fields

-- `{"call": [0, 5], "file": 0, "range": null}`
abbrev pub expanded_call_fields : Fields ((InFile NodeId) × (HirFileId × (Option TextRange)))
expanded_call_fields = key "call" call (key "file" file (last "range" (maybe range)))

abbrev pub expanded_call : Codec ExpandedCall
expanded_call = made (λ x. (x.call, (x.file, x.range))) (λ v. record { call = v.0; range = v.1.1; file = v.1.0 }) expanded_call_fields

-- `{"cfg": 0, "k": "InactiveCode", "node": [0, 5, 5, 6]}`
abbrev pub diagnostic_inactive_code : Fields (CfgId × Pointer)
diagnostic_inactive_code = key "cfg" cfg (kind "InactiveCode" (last "node" pointer))

-- `{"k": "UnreachableLabel", "name": "x", "node": [0, 5, 5, 6]}`
abbrev pub diagnostic_unreachable_label : Fields (Name × Pointer)
diagnostic_unreachable_label = kind "UnreachableLabel" (key "name" name (last "node" pointer))

-- `{"k": "UndeclaredLabel", "name": "x", "node": [0, 5, 5, 6]}`
abbrev pub diagnostic_undeclared_label : Fields (Name × Pointer)
diagnostic_undeclared_label = kind "UndeclaredLabel" (key "name" name (last "node" pointer))

-- `{"k": "UnresolvedMacroCall", "node": [0, 5, 5, 6], "path": ..}`
abbrev pub diagnostic_unresolved_macro_call : Fields (Pointer × ModPath)
diagnostic_unresolved_macro_call = kind "UnresolvedMacroCall" (key "node" pointer (last "path" mod_path))

-- `{"k": "AwaitOutsideOfAsync", "location": "non-async function", "node": [0, 5, 5, 6]}`
abbrev pub diagnostic_await_outside_of_async : Fields (AwaitLocation × Pointer)
diagnostic_await_outside_of_async = kind "AwaitOutsideOfAsync" (key "location" await_location (last "node" pointer))

-- `{"k": "MissingBody", "kind": "Static", "node": [0, 5, 5, 6]}`
abbrev pub diagnostic_missing_body : Fields (MissingBodyItemKind × Pointer)
diagnostic_missing_body = kind "MissingBody" (key "kind" missing_body (last "node" pointer))

-- `{"k": "FruInDestructuringAssignment", "node": [0, 5, 5, 6]}`
abbrev pub diagnostic_fru_in_destructuring_assignment : Fields Pointer
diagnostic_fru_in_destructuring_assignment = kind "FruInDestructuringAssignment" (last "node" pointer)

-- `{"k": "PatternArgInExternFn", "node": [0, 5, 5, 6]}`
abbrev pub diagnostic_pattern_arg_in_extern_fn : Fields Pointer
diagnostic_pattern_arg_in_extern_fn = kind "PatternArgInExternFn" (last "node" pointer)

abbrev pub of_diagnostic : ExpressionStoreDiagnostics → Members
of_diagnostic (diagnostic_is.InactiveCode node condition) = (diagnostic_inactive_code).to (condition, node)
of_diagnostic (diagnostic_is.UnreachableLabel node called) = (diagnostic_unreachable_label).to (called, node)
of_diagnostic (diagnostic_is.UndeclaredLabel node called) = (diagnostic_undeclared_label).to (called, node)
of_diagnostic (diagnostic_is.UnresolvedMacroCall node p) = (diagnostic_unresolved_macro_call).to (node, p)
of_diagnostic (diagnostic_is.AwaitOutsideOfAsync node where_it_is) = (diagnostic_await_outside_of_async).to (where_it_is, node)
of_diagnostic (diagnostic_is.MissingBody node what) = (diagnostic_missing_body).to (what, node)
of_diagnostic (diagnostic_is.FruInDestructuringAssignment node) = (diagnostic_fru_in_destructuring_assignment).to node
of_diagnostic (diagnostic_is.PatternArgInExternFn node) = (diagnostic_pattern_arg_in_extern_fn).to node

abbrev pub diagnostic_kinds : List (Kind ExpressionStoreDiagnostics)
diagnostic_kinds =
    one "InactiveCode" (λ v. diagnostic_is.InactiveCode v.1 v.0) diagnostic_inactive_code ∷
    one "UnreachableLabel" (λ v. diagnostic_is.UnreachableLabel v.1 v.0) diagnostic_unreachable_label ∷
    one "UndeclaredLabel" (λ v. diagnostic_is.UndeclaredLabel v.1 v.0) diagnostic_undeclared_label ∷
    one "UnresolvedMacroCall" (λ v. diagnostic_is.UnresolvedMacroCall v.0 v.1) diagnostic_unresolved_macro_call ∷
    one "AwaitOutsideOfAsync" (λ v. diagnostic_is.AwaitOutsideOfAsync v.1 v.0) diagnostic_await_outside_of_async ∷
    one "MissingBody" (λ v. diagnostic_is.MissingBody v.1 v.0) diagnostic_missing_body ∷
    one "FruInDestructuringAssignment" (λ v. diagnostic_is.FruInDestructuringAssignment v) diagnostic_fru_in_destructuring_assignment ∷
    one "PatternArgInExternFn" (λ v. diagnostic_is.PatternArgInExternFn v) diagnostic_pattern_arg_in_extern_fn ∷ []

abbrev pub diagnostic : Codec ExpressionStoreDiagnostics
diagnostic = kinds of_diagnostic diagnostic_kinds

-- store
abbrev pub store_fields :
    Fields ((List (Option ExprId)) × ((List Binding) × ((List Expr) × ((List Label) × ((List LifetimeRef) × ((List Pat) × ((List ExprRoot)
    × (List TypeRef))))))))
store_fields =
    key "binding_owners" (listing (maybe expr_id))
    (key "bindings" (listing binding)
    (key "exprs" (listing expr)
    (key "labels" (listing label)
    (key "lifetimes" (listing lifetime)
    (key "pats" (listing pat)
    (key "roots" (listing root)
    (last "types" (listing
    type_ref))))))))

abbrev pub store : Codec Store
store =
    made (λ x. (x.binding_owners, (x.bindings, (x.exprs, (x.labels, (x.lifetimes, (x.pats, (x.roots, x.types)))))))) (λ v. record {
      exprs
          = v.1.1.0;
      labels = v.1.1.1.0;
      pats = v.1.1.1.1.1.0;
      bindings = v.1.0;
      binding_owners = v.0;
      types = v.1.1.1.1.1.1.1;
      lifetimes =
          v.1.1.1.1.0;
      roots = v.1.1.1.1.1.1.0;
    }) store_fields

-- source_map
abbrev pub source_map_fields :
    Fields ((List (List PatId)) × ((List BlockId) × ((List ExpressionStoreDiagnostics) × ((List ExpandedCall) × ((List (Pointer × ExprId))
    × ((List (Option Pointer)) × ((List (ExprId × Pointer)) × ((List (Pointer × LabelId)) × ((List (Option Pointer)) × ((List (Pointer ×
    LifetimeRefId)) × ((List (Option Pointer)) × ((List (PatId × Pointer)) × ((List (Pointer × PatId)) × ((List (Option Pointer)) × ((List
    (Pointer × PatId)) × ((List (Option Pointer)) × (List (Pointer × TypeRefId))))))))))))))))))
source_map_fields =
    key "binding_definitions" (listing (listing pat_id))
    (key "block_scopes" (listing block)
    (key "diagnostics" (listing diagnostic)
    (key "expansions" (listing expanded_call)
    (key "expr_map" (listing (both pointer expr_id))
    (key "expr_sources" (listing (maybe pointer))
    (key "field_map_back" (listing (both expr_id pointer))
    (key "label_map" (listing (both pointer label_id))
    (key "label_sources" (listing (maybe pointer))
    (key "lifetime_map" (listing (both pointer lifetime_id))
    (key "lifetime_sources" (listing (maybe pointer))
    (key "pat_field_map_back" (listing (both pat_id pointer))
    (key "pat_map" (listing (both pointer pat_id))
    (key "pat_sources" (listing (maybe pointer))
    (key "target_map" (listing (both pointer pat_id))
    (key "type_sources" (listing (maybe pointer))
    (last "types_map" (listing (both pointer type_id))))))))))))))))))

abbrev pub source_map : Codec SourceMap
source_map =
    made (λ x. (
      x.binding_definitions,
      (
        x.block_scopes,
        (
          x.diagnostics,
          (
            x.expansions,
            (
              x.expr_map,
              (
                x.expr_sources,
                (
                  x.field_map_back,
                  (
                    x.label_map,
                    (
                      x.label_sources,
                      (
                        x.lifetime_map,
                        (
                          x.lifetime_sources,
                          (
                            x.pat_field_map_back,
                            (
                              x.pat_map,
                              (
                                x.pat_sources,
                                (x.target_map, (x.type_sources, x.types_map)),
                              ),
                            ),
                          ),
                        ),
                      ),
                    ),
                  ),
                ),
              ),
            ),
          ),
        ),
      ),
    )) (λ v. record {
      expr_sources = v.1.1.1.1.1.0;
      label_sources =
          v.1.1.1.1.1.1.1.1.0;
      pat_sources = v.1.1.1.1.1.1.1.1.1.1.1.1.1.0;
      type_sources = v.1.1.1.1.1.1.1.1.1.1.1.1.1.1.1.0;
      lifetime_sources =
          v.1.1.1.1.1.1.1.1.1.1.0;
      expr_map = v.1.1.1.1.0;
      label_map = v.1.1.1.1.1.1.1.0;
      pat_map = v.1.1.1.1.1.1.1.1.1.1.1.1.0;
      target_map =
          v.1.1.1.1.1.1.1.1.1.1.1.1.1.1.0;
      binding_definitions = v.0;
      types_map = v.1.1.1.1.1.1.1.1.1.1.1.1.1.1.1.1;
      lifetime_map =
          v.1.1.1.1.1.1.1.1.1.0;
      field_map_back = v.1.1.1.1.1.1.0;
      pat_field_map_back = v.1.1.1.1.1.1.1.1.1.1.1.0;
      block_scopes = v.1.0;
      expansions = v.1.1.1.0;
      diagnostics = v.1.1.0;
    }) source_map_fields
