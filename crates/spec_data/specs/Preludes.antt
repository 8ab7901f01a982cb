-- How a coroutine of a closure or a function is handed its parameters. In front of its body stand `let`s of them, in order.
use Rattle.std.specs.Prelude.{List, [], ◌∷◌, Option}
use Rattle.hir_binding.specs.declared.binding.BindingAnnotation.{BindingAnnotation}
use Rattle.hir_binding.specs.declared.binding.BindingAnnotation.TheVariants.{Unannotated, Mutable}
use Rattle.hir_store.specs.Pointers.{Pointer}
use Rattle.hir_store.specs.declared.ids.HygieneId.{HygieneId}
use Rattle.hir_store.specs.declared.name.Name.{Name}
use Rattle.spec_data.specs.Data.{PatData, pat_at, bind_pattern, generated_pattern, no_pattern, some_pattern}

-- A pattern that is a name alone, plain or `mut`, is handed in by that; another one that is a name as a whole by a name of its own in
-- between; and any other one by a name that is made up.
pub data HandedIn : Type 0 where
  by_name : Name → HygieneId → HandedIn
  by_its_name : Name → HygieneId → HandedIn
  by_generated_name : HandedIn

abbrev pub by_mode : BindingAnnotation → Name → HygieneId → HandedIn
by_mode Unannotated n h = by_name n h
by_mode Mutable n h = by_name n h
by_mode _ n h = by_its_name n h

abbrev pub handed_in : PatData → HandedIn
handed_in (pat_at from (bind_pattern n h mode no_pattern)) = by_mode mode n h
handed_in (pat_at from (bind_pattern n h mode (some_pattern p))) = by_its_name n h
handed_in _ = by_generated_name

abbrev pub source_of : PatData → Option Pointer
source_of (pat_at from shape) = from

-- a `mut` binding of the name that it is handed in by, from the node of the pattern
abbrev pub handed_pattern : PatData → HandedIn → PatData
handed_pattern p (by_name n h) = pat_at (source_of p) (bind_pattern n h Mutable no_pattern)
handed_pattern p (by_its_name n h) = pat_at (source_of p) (bind_pattern n h Mutable no_pattern)
handed_pattern p by_generated_name = pat_at (source_of p) generated_pattern

-- what the outside hands it to
abbrev pub formal_pattern : PatData → PatData
formal_pattern p = handed_pattern p (handed_in p)

abbrev pub formal_patterns : List PatData → List PatData
formal_patterns [] = []
formal_patterns (p ∷ ps) = formal_pattern p ∷ formal_patterns ps
