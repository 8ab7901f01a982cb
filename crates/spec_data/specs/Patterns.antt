-- The data of written patterns, and what they do with names. A pattern is read where some names of its top pattern have uses
-- already; what stands behind `@` comes before the name in front of it.
use Rattle.std.specs.Prelude.{ℕ, suc, Bool, true, false, if◌then◌else◌, [], Option, Some, None, option_map}
use Rattle.hir_base.specs.declared.op.RangeOp.{RangeOp}
use Rattle.hir_binding.specs.Uses.{Uses, name_use, product, alternatives, Parts, no_parts, more_parts}
use Rattle.hir_store.specs.Pointers.{Pointer}
use Rattle.hir_store.specs.declared.name.Name.{Name}
use Rattle.hir_store.specs.declared.name.Name.TheVariants as name
use Rattle.hir_env.specs.ResolvedTree as tree
use Rattle.hir_env.specs.ResolvedTree.{PatLeaf, PatUnary, Pat, OptionPat, Pats, PatFields, PatField, Side, Use}
use Rattle.spec_data.specs.Data as datum
use Rattle.spec_data.specs.Data.{PathData, bare_path, PatData, pat_at, absent_pattern, PatShape, PatsData, OptionPatData, PatFieldsData}
use Rattle.spec_data.specs.Data.{SideData, OptionSideData}
use Rattle.spec_data.specs.Rule.{PathRead, data_of}
use Rattle.spec_data.specs.Uses.{FirstUses, first_use, number_of, with_use}
use Rattle.spec_data.specs.Written.{path_of, root_hygiene, signed_data}

-- patterns without patterns in them

abbrev pub leaf_pattern : PatLeaf → PatShape
leaf_pattern tree.wild_leaf = datum.wild_pattern
leaf_pattern tree.rest_leaf = datum.rest_pattern
leaf_pattern tree.not_null_leaf = datum.not_null_pattern
leaf_pattern tree.broken_leaf = datum.missing_pattern

abbrev pub unary_pattern : PatUnary → PatData → PatShape
unary_pattern (tree.ref_to m) p = datum.ref_pattern m p
unary_pattern tree.box_of p = datum.box_pattern p
unary_pattern tree.deref_of p = datum.deref_pattern p

-- a path that is absent or refused is missing
abbrev pub path_pattern_of : Option PathRead → PatShape
path_pattern_of None = datum.missing_pattern
path_pattern_of (Some p) = datum.path_pattern (data_of p) root_hygiene

abbrev pub path_side_of : Option PathRead → OptionSideData
path_side_of None = datum.no_side
path_side_of (Some p) = datum.some_side (datum.path_side (data_of p) root_hygiene)

abbrev pub name_side_of : Name → OptionSideData
name_side_of name.Missing = datum.no_side
name_side_of n = datum.some_side (datum.path_side (bare_path n) root_hygiene)

-- what is no side is absent
abbrev pub side_data : Side → OptionSideData
side_data tree.no_side = datum.no_side
side_data (tree.literal_side at l) = datum.some_side (datum.literal_side (signed_data l))
side_data (tree.name_side at n _) = name_side_of n
side_data (tree.path_side at p) = path_side_of (path_of p)
side_data tree.other_side = datum.no_side

-- a range without its operator is missing
abbrev pub range_shape : Option RangeOp → OptionSideData → OptionSideData → PatShape
range_shape None start end = datum.missing_pattern
range_shape (Some op) start end = datum.range_pattern op start end

-- a name is bound as by its first use
abbrev pub bind_as : Use → OptionPatData → PatShape
bind_as first sub = datum.bind_pattern first.name first.hygiene first.mode sub

-- two dots and commas

abbrev pub is_dots : Pat → Bool
is_dots (tree.leaf_pat at tree.rest_leaf) = true
is_dots p = false

-- the place of the first two dots
abbrev pub dots_among : Pats → Option ℕ
dots_among tree.no_pats = None
dots_among (tree.more_pats p ps) = if is_dots p then Some 0 else option_map suc (dots_among ps)
dots_among (tree.tracked_pats called ps) = dots_among ps

-- a comma in front of all parts stands behind one that is missing
abbrev pub moved_by : Bool → Option ℕ → Option ℕ
moved_by false place = place
moved_by true place = option_map suc place

abbrev pub ellipsis_of : Bool → Pats → Option ℕ
ellipsis_of comma ps = moved_by comma (dots_among ps)

abbrev pub behind_comma : Bool → PatsData → PatsData
behind_comma false ps = ps
behind_comma true ps = datum.more_patterns absent_pattern ps

-- what is more than its parts

-- without its path a pattern is missing, from no node
abbrev pub if_path : {A : Type 0} → Option PathRead → (PathData → A) → A → A
if_path None there absent = absent
if_path (Some p) there absent = there (data_of p)

-- one alternative is that pattern
abbrev pub alternatives_data : Pointer → PatsData → PatData
alternatives_data at (datum.more_patterns p datum.no_patterns) = p
alternatives_data at ps = pat_at (Some at) (datum.or_pattern ps)

-- a field without a name is no part of the record
abbrev pub put_field : Option Name → PatData → PatFieldsData → PatFieldsData
put_field None p fs = fs
put_field (Some n) p fs = datum.more_pattern_fields n p fs

abbrev mutual
  -- the first uses once it is read, too

  pub uses_after : Pat → FirstUses → FirstUses
  uses_after (tree.leaf_pat at form) us = us
  uses_after (tree.bind_pat at u _ sub) us = with_use (uses_after_part sub us) u
  uses_after (tree.name_pat at u _) us = us
  uses_after (tree.path_pat at p) us = us
  uses_after (tree.tuple_struct_pat at p comma ps) us = if_path (path_of p) (λ _. uses_after_each ps us) us
  uses_after (tree.tuple_pat at comma ps) us = uses_after_each ps us
  uses_after (tree.record_pat at p fs dots) us = if_path (path_of p) (λ _. uses_after_fields fs us) us
  uses_after (tree.or_pat at ps) us = uses_after_each ps us
  uses_after (tree.paren_pat at p) us = uses_after_part p us
  uses_after (tree.macro_pat at called p) us = uses_after_part p us
  uses_after (tree.barred_pat at) us = us
  uses_after (tree.slice_pat at before middle behind) us =
      uses_after_each behind (uses_after_part middle (uses_after_each before us))
  uses_after (tree.over_pat at form p) us = uses_after_part p us
  uses_after (tree.literal_pat at own l) us = us
  uses_after (tree.range_pat at op start end) us = us

  pub uses_after_part : OptionPat → FirstUses → FirstUses
  uses_after_part tree.no_pat us = us
  uses_after_part (tree.some_pat p) us = uses_after p us

  pub uses_after_each : Pats → FirstUses → FirstUses
  uses_after_each tree.no_pats us = us
  uses_after_each (tree.more_pats p ps) us = uses_after_each ps (uses_after p us)
  uses_after_each (tree.tracked_pats called ps) us = uses_after_each ps us

  pub uses_after_fields : PatFields → FirstUses → FirstUses
  uses_after_fields tree.no_pat_fields us = us
  uses_after_fields (tree.more_pat_fields f fs) us = uses_after_fields fs (uses_after_field f us)

  pub uses_after_field : PatField → FirstUses → FirstUses
  uses_after_field (tree.disabled_pat_field at by f) us = us
  uses_after_field tree.partless_pat_field us = us
  uses_after_field (tree.pat_field at n p) us = uses_after p us

abbrev mutual
  -- its data

  pub pattern_data : Pat → FirstUses → PatData
  pattern_data (tree.leaf_pat at form) us = pat_at (Some at) (leaf_pattern form)
  pattern_data (tree.bind_pat at u _ sub) us =
      pat_at (Some at) (bind_as (first_use (uses_after_part sub us) u) (subpattern_data sub us))
  pattern_data (tree.name_pat at u _) us = pat_at (Some at) (datum.path_pattern (bare_path u.name) root_hygiene)
  pattern_data (tree.path_pat at p) us = pat_at (Some at) (path_pattern_of (path_of p))
  pattern_data (tree.tuple_struct_pat at p comma ps) us = if_path (path_of p)
      (λ d. pat_at (Some at) (datum.tuple_struct_pattern d (ellipsis_of comma ps) (behind_comma comma (tuple_parts_data ps us))))
      absent_pattern
  pattern_data (tree.tuple_pat at comma ps) us =
      pat_at (Some at) (datum.tuple_pattern (ellipsis_of comma ps) (behind_comma comma (tuple_parts_data ps us)))
  pattern_data (tree.record_pat at p fs dots) us = if_path (path_of p)
      (λ d. pat_at (Some at) (datum.record_pattern d (fields_data fs us) dots)) absent_pattern
  pattern_data (tree.or_pat at ps) us = alternatives_data at (patterns_data ps us)
  pattern_data (tree.paren_pat at p) us = pattern_part_data p us
  pattern_data (tree.macro_pat at called p) us = pattern_part_data p us
  pattern_data (tree.barred_pat at) us = absent_pattern
  pattern_data (tree.slice_pat at before middle behind) us =
      let between = uses_after_each before us in
      let past = uses_after_part middle between in
      pat_at (Some at)
      (datum.slice_pattern (patterns_data before us) (subpattern_data middle between) (patterns_data behind past))
  pattern_data (tree.over_pat at form p) us = pat_at (Some at) (unary_pattern form (pattern_part_data p us))
  pattern_data (tree.literal_pat at own l) us = pat_at (Some at) (datum.literal_pattern (signed_data l))
  pattern_data (tree.range_pat at op start end) us = pat_at (Some at) (range_shape op (side_data start) (side_data end))

  -- an absent pattern is missing, from no node
  pub pattern_part_data : OptionPat → FirstUses → PatData
  pattern_part_data tree.no_pat us = absent_pattern
  pattern_part_data (tree.some_pat p) us = pattern_data p us

  -- what may stay absent
  pub subpattern_data : OptionPat → FirstUses → OptionPatData
  subpattern_data tree.no_pat us = datum.no_pattern
  subpattern_data (tree.some_pat p) us = datum.some_pattern (pattern_data p us)

  pub patterns_data : Pats → FirstUses → PatsData
  patterns_data tree.no_pats us = datum.no_patterns
  patterns_data (tree.more_pats p ps) us = datum.more_patterns (pattern_data p us) (patterns_data ps (uses_after p us))
  patterns_data (tree.tracked_pats called ps) us = patterns_data ps us

  -- those of a tuple, without two dots
  pub tuple_parts_data : Pats → FirstUses → PatsData
  tuple_parts_data tree.no_pats us = datum.no_patterns
  tuple_parts_data (tree.more_pats p ps) us =
      if is_dots p then tuple_parts_data ps us else datum.more_patterns (pattern_data p us) (tuple_parts_data ps (uses_after p us))
  tuple_parts_data (tree.tracked_pats called ps) us = tuple_parts_data ps us

  pub fields_data : PatFields → FirstUses → PatFieldsData
  fields_data tree.no_pat_fields us = datum.no_pattern_fields
  fields_data (tree.more_pat_fields (tree.pat_field at n p) fs) us =
      put_field n (pattern_data p us) (fields_data fs (uses_after p us))
  fields_data (tree.more_pat_fields f fs) us = fields_data fs us

abbrev mutual
  -- what it does with names

  pub uses_of : Pat → FirstUses → Uses
  uses_of (tree.leaf_pat at form) us = product no_parts
  uses_of (tree.bind_pat at u _ sub) us =
      product (more_parts (part_uses sub us) (more_parts (name_use (number_of (uses_after_part sub us) u) u.mode) no_parts))
  uses_of (tree.name_pat at u _) us = product no_parts
  uses_of (tree.path_pat at p) us = product no_parts
  uses_of (tree.tuple_struct_pat at p comma ps) us = product (if_path (path_of p) (λ _. each_uses ps us) no_parts)
  uses_of (tree.tuple_pat at comma ps) us = product (each_uses ps us)
  uses_of (tree.record_pat at p fs dots) us = product (if_path (path_of p) (λ _. field_uses fs us) no_parts)
  uses_of (tree.or_pat at ps) us = alternatives (each_uses ps us)
  uses_of (tree.paren_pat at p) us = part_uses p us
  uses_of (tree.macro_pat at called p) us = part_uses p us
  uses_of (tree.barred_pat at) us = product no_parts
  uses_of (tree.slice_pat at before middle behind) us =
      let between = uses_after_each before us in
      let past = uses_after_part middle between in
      product (more_parts (product (each_uses before us))
      (more_parts (part_uses middle between) (more_parts (product (each_uses behind past)) no_parts)))
  uses_of (tree.over_pat at form p) us = part_uses p us
  uses_of (tree.literal_pat at own l) us = product no_parts
  uses_of (tree.range_pat at op start end) us = product no_parts

  pub part_uses : OptionPat → FirstUses → Uses
  part_uses tree.no_pat us = product no_parts
  part_uses (tree.some_pat p) us = uses_of p us

  pub each_uses : Pats → FirstUses → Parts
  each_uses tree.no_pats us = no_parts
  each_uses (tree.more_pats p ps) us = more_parts (uses_of p us) (each_uses ps (uses_after p us))
  each_uses (tree.tracked_pats called ps) us = each_uses ps us

  -- a field without a name counts
  pub field_uses : PatFields → FirstUses → Parts
  field_uses tree.no_pat_fields us = no_parts
  field_uses (tree.more_pat_fields (tree.pat_field at n p) fs) us = more_parts (uses_of p us) (field_uses fs (uses_after p us))
  field_uses (tree.more_pat_fields f fs) us = field_uses fs us

-- of a whole top pattern, before which no name has a use

abbrev pub written_pat : OptionPat → PatData
written_pat p = pattern_part_data p []

abbrev pub first_uses : OptionPat → FirstUses
first_uses p = uses_after_part p []

abbrev pub written_uses : OptionPat → Uses
written_uses p = part_uses p []
