-- The data of the assignee expression. Of a place it only says that one is there.
use Rattle.std.specs.Prelude.{ℕ, suc, Option, Some, None, option_map}
use Rattle.hir_store.specs.Pointers.{Pointer}
use Rattle.hir_store.specs.declared.ids.HygieneId.{HygieneId}
use Rattle.hir_env.specs.ResolvedTree as tree
use Rattle.hir_env.specs.ResolvedTree.{Target, Targets, TargetFields}
use Rattle.hir_env.specs.Targets.{source_of}
use Rattle.spec_data.specs.Data as datum
use Rattle.spec_data.specs.Data.{PatData, pat_at, PatShape, PatsData, OptionPatData, PatFieldsData}
use Rattle.spec_data.specs.Lookup.{lookup_hygiene}
use Rattle.spec_data.specs.Patterns.{if_path, put_field}
use Rattle.spec_data.specs.Rule.{PathRead, data_of}
use Rattle.spec_data.specs.Written.{path_of}

-- a path of a target is looked up as one of an expression
abbrev pub path_target_of : Option PathRead → HygieneId → PatShape
path_target_of None h = datum.missing_pattern
path_target_of (Some p) h = datum.path_pattern (data_of p) (lookup_hygiene (data_of p) h)

-- the place of the first two dots
abbrev pub target_dots : Targets → Option ℕ
target_dots tree.no_targets = None
target_dots (tree.more_targets t ts) = option_map suc (target_dots ts)
target_dots (tree.dots_targets ts) = Some 0
target_dots (tree.tracked_targets called ts) = target_dots ts

abbrev pub dots_pattern : Option Pointer → OptionPatData
dots_pattern None = datum.no_pattern
dots_pattern (Some at) = datum.some_pattern (pat_at (Some at) datum.rest_pattern)

abbrev mutual
  pub target_data : Target → PatData
  target_data (tree.absent_target call) = pat_at call datum.missing_pattern
  target_data (tree.place_target at e) = pat_at (Some at) datum.place_pattern
  target_data (tree.macro_target at called t) = target_data t
  target_data (tree.wild_target at) = pat_at (Some (source_of at)) datum.wild_pattern
  target_data (tree.path_target at p h) = pat_at (Some (source_of at)) (path_target_of (path_of (tree.some_path p)) h)
  target_data (tree.tuple_target at ts) = pat_at (Some (source_of at)) (datum.tuple_pattern (target_dots ts) (targets_data ts))
  target_data (tree.call_target at p ts) = if_path (path_of p)
      (λ d. pat_at (Some (source_of at)) (datum.tuple_struct_pattern d (target_dots ts) (targets_data ts)))
      (pat_at at.call datum.missing_pattern)
  target_data (tree.array_target at before dots behind) =
      pat_at (Some (source_of at)) (datum.slice_pattern (targets_data before) (dots_pattern dots) (targets_data behind))
  target_data (tree.record_target at p fs dots spread) = if_path (path_of p)
      (λ d. pat_at (Some (source_of at)) (datum.record_pattern d (target_fields_data fs) dots)) (pat_at at.call datum.missing_pattern)

  pub targets_data : Targets → PatsData
  targets_data tree.no_targets = datum.no_patterns
  targets_data (tree.more_targets t ts) = datum.more_patterns (target_data t) (targets_data ts)
  targets_data (tree.dots_targets ts) = targets_data ts
  targets_data (tree.tracked_targets called ts) = targets_data ts

  pub target_fields_data : TargetFields → PatFieldsData
  target_fields_data tree.no_target_fields = datum.no_pattern_fields
  target_fields_data (tree.more_target_fields (tree.target_field at n t) fs) = put_field n (target_data t) (target_fields_data fs)
  target_fields_data (tree.more_target_fields f fs) = target_fields_data fs
