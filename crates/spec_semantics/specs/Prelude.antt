-- How the coroutine of a closure or a function with `async` or `gen` runs, as it is written: it begins with its prelude, in which `self`
-- and then each parameter is bound to what it is handed, in their order (rust-analyzer, `lower_coroutine_body_with_moved_arguments`).
-- What makes it is a body by itself.
use Rattle.std.specs.Prelude.{ℕ, suc, Bool, List, [], ◌∷◌, map, None}
use Rattle.hir_store.specs.declared.hir.CaptureBy.TheVariants as capture
use Rattle.hir_store.specs.declared.hir.CoroutineKind.{CoroutineKind}
use Rattle.hir_store.specs.declared.hir.CoroutineSource.{CoroutineSource}
use Rattle.hir_store.specs.declared.ids.HygieneId.{HygieneId}
use Rattle.hir_store.specs.declared.name.Name.{Name}
use Rattle.hir_env.specs.ResolvedTree as tree
use Rattle.hir_env.specs.ResolvedTree.{OptionExpr, SelfFormal, Use}
use Rattle.spec_data.specs.Data.{PatData, pat_at, bind_pattern, no_pattern, no_type, bare_path}
use Rattle.spec_data.specs.Patterns.{written_pat}
use Rattle.spec_data.specs.Preludes.{HandedIn, by_name, by_its_name, by_generated_name, handed_in, handed_pattern}
use Rattle.spec_data.specs.Tops.{Tops}
use Rattle.spec_semantics.specs.Run.{Value, argument, ask, binds, ends_temps, pure, read_path, ◌>>=◌, ◌>>◌}
use Rattle.spec_semantics.specs.Syntax.{SyntaxRun, SyntaxBody, made_coroutine, run_part}

-- a name that is read where nobody wrote it
abbrev pub reads_name : Name → HygieneId → SyntaxRun Value
reads_name n h = read_path (bare_path n) h None

-- as a statement, with whose end its temporaries end
abbrev pub binds_alone : PatData → List Value → SyntaxRun Bool
binds_alone p vs = do
  fits ← binds p no_type vs
  ends_temps (pure fits)

-- `let p = x`, or `let mut x = x; let p = x`. A made name is silent, and its statement ends temporaries all the
-- same: there the pattern is bound to the argument of this number.
abbrev pub hands_in_as : ℕ → PatData → HandedIn → SyntaxRun Bool
hands_in_as i p (by_name n h) = do
  v ← reads_name n h
  binds_alone p (v ∷ [])
hands_in_as i p (by_its_name n h) = do
  v ← reads_name n h
  binds_alone (handed_pattern p (by_its_name n h)) (v ∷ [])
  w ← reads_name n h
  binds_alone p (w ∷ [])
hands_in_as i p by_generated_name = ends_temps (binds_alone p (argument i ∷ []))

-- these parameters, the first of which has this number, and then what is behind them
abbrev pub hands_in : ℕ → List PatData → SyntaxRun Value → SyntaxRun Value
hands_in i [] behind = behind
hands_in i (p ∷ ps) behind = hands_in_as i p (handed_in p) >> hands_in (suc i) ps behind

-- its binding once more, which comes from no node
abbrev pub self_pattern : Use → PatData
self_pattern u = pat_at None (bind_pattern u.name u.hygiene u.mode no_pattern)

-- `let self = self`, where `self` is a parameter, and then what is behind it
abbrev pub hands_in_self : SelfFormal → SyntaxRun Value → SyntaxRun Value
hands_in_self tree.no_self behind = behind
hands_in_self (tree.disabled_self at by) behind = behind
hands_in_self (tree.self_formal at u _) behind = do
  v ← reads_name u.name u.hygiene
  binds_alone (self_pattern u) (v ∷ [])
  behind

-- Behind its prelude the coroutine runs what was written as the body.
abbrev pub run_prelude : SelfFormal → Tops → OptionExpr → ℕ → SyntaxRun Value
run_prelude self ps e fuel = hands_in_self self (hands_in 0 (map written_pat ps) (run_part fuel e []))

abbrev pub written_prelude : SelfFormal → Tops → OptionExpr → SyntaxBody
written_prelude self ps e = record { table = tt; run = run_prelude self ps e }

-- What makes it is one event at no node. It captures by reference, also where the closure moves.
abbrev pub written_making : CoroutineKind → CoroutineSource → SyntaxBody
written_making k from = record { table = tt; run = λ fuel. ask (made_coroutine k from capture.Ref) [] None }
