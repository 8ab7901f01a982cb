-- Which names of a top pattern have a use, as far as it is read. The first use of a name makes its binding.
use Rattle.std.specs.Prelude.{if◌then◌else◌, Bool, true, false, is_some, [], ◌∷◌}
use Rattle.hir_env.specs.ResolvedTree as tree
use Rattle.hir_env.specs.ResolvedTree.{OptionPath, Pat, OptionPat, Pats, PatFields, PatField, Use}
use Rattle.spec_data.specs.Uses.{FirstUses, is_of, with_use}
use Rattle.thm_logic.specs.PathSeen.{whole_read}

-- a name is known where a use of it came before
abbrev pub is_known : FirstUses → Use → Bool
is_known [] u = false
is_known (f ∷ fs) u = if is_of u.name u.hygiene f then true else is_known fs u

-- what stands beside a path that is absent or refused isn't read
abbrev pub where_read : OptionPath → FirstUses → FirstUses → FirstUses
where_read p us vs = if is_some (whole_read p) then vs else us

abbrev mutual
  -- the names that have a use once it is read, too

  pub names_after : Pat → FirstUses → FirstUses
  names_after (tree.leaf_pat at form) us = us
  names_after (tree.bind_pat at u _ sub) us = with_use (names_after_part sub us) u
  names_after (tree.name_pat at u _) us = us
  names_after (tree.path_pat at p) us = us
  names_after (tree.tuple_struct_pat at p comma ps) us = where_read p us (names_after_each ps us)
  names_after (tree.tuple_pat at comma ps) us = names_after_each ps us
  names_after (tree.record_pat at p fs dots) us = where_read p us (names_after_fields fs us)
  names_after (tree.or_pat at ps) us = names_after_each ps us
  names_after (tree.paren_pat at p) us = names_after_part p us
  names_after (tree.macro_pat at called p) us = names_after_part p us
  names_after (tree.barred_pat at) us = us
  names_after (tree.slice_pat at before middle behind) us =
      names_after_each behind (names_after_part middle (names_after_each before us))
  names_after (tree.over_pat at form p) us = names_after_part p us
  names_after (tree.literal_pat at own l) us = us
  names_after (tree.range_pat at op low high) us = us

  pub names_after_part : OptionPat → FirstUses → FirstUses
  names_after_part tree.no_pat us = us
  names_after_part (tree.some_pat p) us = names_after p us

  pub names_after_each : Pats → FirstUses → FirstUses
  names_after_each tree.no_pats us = us
  names_after_each (tree.more_pats p ps) us = names_after_each ps (names_after p us)
  names_after_each (tree.tracked_pats called ps) us = names_after_each ps us

  pub names_after_fields : PatFields → FirstUses → FirstUses
  names_after_fields tree.no_pat_fields us = us
  names_after_fields (tree.more_pat_fields f fs) us = names_after_fields fs (names_after_field f us)

  pub names_after_field : PatField → FirstUses → FirstUses
  names_after_field (tree.disabled_pat_field at by f) us = us
  names_after_field tree.partless_pat_field us = us
  names_after_field (tree.pat_field at n p) us = names_after p us
