-- How much the parts of patterns, and of the assignee expression, become.
use Rattle.std.specs.Prelude.{Bool, not, Option, Some, None}
use Rattle.hir_store.specs.Pointers.{Pointer}
use Rattle.hir_store.specs.declared.name.Name.{Name}
use Rattle.hir_store.specs.declared.name.Name.TheVariants as name
use Rattle.hir_env.specs.ResolvedTree as tree
use Rattle.hir_env.specs.ResolvedTree.{Pats, RangeForm, Use}
use Rattle.hir_env.specs.Targets.{origin}
use Rattle.spec_data.specs.Uses.{FirstUses}
use Rattle.thm_logic.specs.PatNames.{is_known}
use Rattle.thm_body_result.specs.Size.{Size, nothing, an_expr, a_binding, a_pat, a_target, ◌∪◌, if_so}

abbrev pub name_size : FirstUses → Use → Size
name_size us u = if_so (not (is_known us u)) a_binding

-- in front of a pattern with a leading comma stands a missing part
abbrev pub front_pat_size : Bool → Size
front_pat_size comma = if_so comma (a_pat None)

-- one alternative is that pattern; these stand behind it
abbrev pub or_behind : Pointer → Pats → Size
or_behind at tree.no_pats = nothing
or_behind at (tree.more_pats p ps) = a_pat (Some at)
or_behind at (tree.tracked_pats called ps) = or_behind at ps

abbrev pub or_size : Pointer → Pats → Size
or_size at tree.no_pats = a_pat (Some at)
or_size at (tree.more_pats p ps) = or_behind at ps
or_size at (tree.tracked_pats called ps) = or_size at ps

-- a plain name without name is no side
abbrev pub name_side_size : Name → Size
name_side_size name.Missing = nothing
name_side_size n = an_expr

-- the two dots of an array that is assigned to
abbrev pub rest_size : Option Pointer → Size
rest_size None = nothing
rest_size (Some at) = a_target (origin None at)

-- a range, with what it calls
abbrev pub range_size : RangeForm → Size
range_size (tree.record_range item last) = an_expr
range_size (tree.call_range item) = an_expr ∪ an_expr
range_size tree.itemless_range = an_expr
