-- How the bodies inside run, as they are written and as they are stored. An end of a range in a type is a literal, a path or a call.
use Rattle.std.specs.Prelude.{[], ◌∷◌, Option, Some, None}
use Rattle.hir_store.specs.Stored.{Store, SourceMap}
use Rattle.hir_env.specs.NodeMap.{Site}
use Rattle.hir_env.specs.Answering.{site_of}
use Rattle.hir_env.specs.ResolvedTree as tree
use Rattle.hir_env.specs.ResolvedTree.{Side, Limit}
use Rattle.spec_data.specs.Data.{PathData, bare_path}
use Rattle.spec_data.specs.Written.{root_hygiene, signed_data, written_path}
use Rattle.spec_semantics.specs.Inner.{InnerBody, Inside, constant_body, coroutine_body, limit_body, making_body, prelude_body}
use Rattle.spec_semantics.specs.Prelude.{written_making, written_prelude}
use Rattle.spec_semantics.specs.Run.{Value, literal, call, leave, missing, ends, ◌>>=◌, ask, read_path}
pub use Rattle.spec_semantics.specs.Syntax.{run_item}
use Rattle.spec_semantics.specs.Store.{StoreBody, arguments, run_store}
use Rattle.spec_semantics.specs.Syntax.{SyntaxRun, SyntaxBody, written_body, written_coroutine}

abbrev pub run_side_path : Option PathData → Option Site → SyntaxRun Value
run_side_path None site = ends (leave missing)
run_side_path (Some p) site = read_path p root_hygiene site

-- what is no side is missing
abbrev pub run_side : Side → SyntaxRun Value
run_side tree.no_side = ends (leave missing)
run_side (tree.literal_side at l) = ask (literal (signed_data l)) [] (Some (site_of at))
run_side (tree.name_side at n _) = read_path (bare_path n) root_hygiene (Some (site_of at))
run_side (tree.path_side at p) = run_side_path (written_path p) (Some (site_of at))
run_side tree.other_side = ends (leave missing)

-- the last before an excluded end is what a call of the item answers, which happens at no node
abbrev pub run_limit : Limit → SyntaxRun Value
run_limit (tree.item_limit i) = run_item i
run_limit (tree.side_limit s) = run_side s
run_limit (tree.before_limit i s) = do
  f ← run_item i
  v ← run_side s
  ask call (f ∷ v ∷ []) None

abbrev pub written_inner : InnerBody → SyntaxBody
written_inner (constant_body e) = written_body e
written_inner (coroutine_body number ss e) = written_coroutine number ss e
written_inner (making_body k from) = written_making k from
written_inner (prelude_body self ps e) = written_prelude self ps e
written_inner (limit_body l) = record { table = tt; run = λ fuel. run_limit l }

abbrev pub stored_inside : Store → SourceMap → Inside → StoreBody
stored_inside store source_map x = record { table = arguments store source_map 0 x.formals; run = run_store store source_map x.expr }
