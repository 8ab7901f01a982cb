-- What small bodies do, computed.
use Rattle.std.proofs.Common.{◌≡◌, ℕ, Bool, false, not, ◌&&◌, if◌then◌else◌, List, [], ◌∷◌, Some, refl, ap, subst, ◌∙◌}
use Rattle.hir_env.specs.Answering.{site_of}
use Rattle.hir_env.specs.ResolvedTree as tree
use Rattle.hir_env.specs.ResolvedTree.{OptionExpr, Stmts, Stmt}
use Rattle.spec_data.specs.Patterns.{written_pat}
use Rattle.spec_data.specs.Reading.{stored_path}
use Rattle.spec_data.specs.Written.{written_option_type}
use Rattle.spec_semantics.specs.Run.{ends_temps, Value, Event, in_block_scope, ends, event, ◌>>=◌, ◌>>◌, binds}
use Rattle.spec_semantics.specs.Catching.{loop, block}
use Rattle.hir_lower_scope.specs.Scopes.{Scope, scopes_in_block}
use Rattle.spec_semantics.specs.Left.{is_left, stmt_is_left, none_left}
use Rattle.spec_semantics.specs.Syntax.{SyntaxRun, run_part, run_present, run_else, run_stmts, run_tail, catch_label, as_it_is}
use Rattle.spec_semantics.specs.Syntax.{behind_def}
use Rattle.spec_semantics.specs.Store.{run_store, run_to}
use Rattle.spec_semantics.specs.Macros.{CallIsNothing}
use Rattle.spec_semantics.specs.Examples.{RunsAsExample}
use Rattle.spec_semantics.specs.Rows.{LeavesTheLoop, LeavesTheBlock, HasNoIteration, StraysFromBlock, HasTwoSites, EntersItsNumber}
use Rattle.spec_semantics.specs.Rows.{MissingIsNoLiteral, ParenthesesAreSilent, DisabledIsNothing, joined, disabled_stmt}
use Rattle.spec_semantics.specs.Fuel.{EndsTheIteration, ContinuesTheOuter, BreaksTheOuter, HygienesDiffer, UndeclaredIsPlain, HasFreshFuel}

pub leaves_the_loop : LeavesTheLoop
unfolding ends event ◌>>=◌ loop block run_store run_to stored_path
leaves_the_loop = record { written = record { events = refl; ends = refl }; stored = record { events = refl; ends = refl } }

pub leaves_the_block : LeavesTheBlock
unfolding ends event ◌>>=◌ loop block run_store run_to stored_path
leaves_the_block = record { written = record { events = refl; ends = refl }; stored = record { events = refl; ends = refl } }

pub has_no_iteration : HasNoIteration
unfolding ends event ◌>>=◌ loop block run_store run_to stored_path
has_no_iteration = record { written = record { events = refl; ends = refl }; stored = record { events = refl; ends = refl } }

pub strays_from_block : StraysFromBlock
unfolding ends event ◌>>=◌ loop block run_store run_to stored_path
strays_from_block = record { written = record { events = refl; ends = refl }; stored = record { events = refl; ends = refl } }

pub has_two_sites : HasTwoSites
unfolding ends event ◌>>=◌ loop block run_store run_to stored_path
has_two_sites = record { written = record { events = refl; ends = refl }; stored = record { events = refl; ends = refl } }

pub enters_its_number : EntersItsNumber
unfolding ends event ◌>>=◌ loop block run_store run_to stored_path
enters_its_number = record { written = record { events = refl; ends = refl }; stored = record { events = refl; ends = refl } }

pub ends_the_iteration : EndsTheIteration
unfolding ends event ◌>>=◌ loop block run_store run_to stored_path
ends_the_iteration = record { written = record { events = refl; ends = refl }; stored = record { events = refl; ends = refl } }

pub continues_the_outer : ContinuesTheOuter
unfolding ends event ◌>>=◌ loop block run_store run_to stored_path
continues_the_outer = record { written = record { events = refl; ends = refl }; stored = record { events = refl; ends = refl } }

pub breaks_the_outer : BreaksTheOuter
unfolding ends event ◌>>=◌ loop block run_store run_to stored_path
breaks_the_outer = record { written = record { events = refl; ends = refl }; stored = record { events = refl; ends = refl } }

pub has_fresh_fuel : HasFreshFuel
unfolding ends event ◌>>=◌ loop block run_store run_to stored_path
has_fresh_fuel = record { written = record { events = refl; ends = refl }; stored = record { events = refl; ends = refl } }

pub hygienes_differ : HygienesDiffer
unfolding ends event ◌>>=◌ loop block run_store run_to stored_path
hygienes_differ = (
  record { written = record { events = refl; ends = refl }; stored = record { events = refl; ends = refl } },
  record { written = record { events = refl; ends = refl }; stored = record { events = refl; ends = refl } },
)

pub undeclared_is_plain : UndeclaredIsPlain
unfolding ends event ◌>>=◌ loop block run_store run_to stored_path
undeclared_is_plain = (
  record { written = record { events = refl; ends = refl }; stored = record { events = refl; ends = refl } },
  record { written = record { events = refl; ends = refl }; stored = record { events = refl; ends = refl } },
)

pub runs_as_example : RunsAsExample
unfolding ends event ◌>>=◌ loop block run_store run_to stored_path
runs_as_example = (refl, refl)

abbrev nothing_happened : List Event → Type 0
nothing_happened [] = Unit {0}
nothing_happened (e ∷ es) = ⊥

pub missing_is_no_literal : MissingIsNoLiteral
unfolding ends event ◌>>=◌ run_store run_to stored_path
missing_is_no_literal h = let e = h.events 0 [] in subst nothing_happened e tt

pub parentheses_are_silent : ParenthesesAreSilent
parentheses_are_silent p e = refl

-- of a statement of which nothing is left, and in front of what follows does nothing
module _ (x : Stmt) (after : Stmts) (gone : stmt_is_left x ≡ false)
    (nothing : (fuel : ℕ) (has_tail : Bool) (tail : List Scope → SyntaxRun Value) (scopes : List Scope)
    → run_stmts fuel (tree.more_stmts x after) has_tail as_it_is tail scopes ≡ run_stmts fuel after has_tail as_it_is tail scopes) where
  -- with it before what follows
  abbrev more : Stmts → Stmts
  more before = joined before (tree.more_stmts x after)

  none_more : (before : Stmts) → none_left (more before) ≡ none_left (joined before after)
  none_more tree.no_stmts = ap (λ b. not b && none_left after) gone
  none_more (tree.more_stmts s ss) = ap (λ t. not (stmt_is_left s) && t) (none_more ss)

  -- a statement before others, of which `none` says whether none is left and whose run this is
  abbrev before_others : ℕ → Bool → List Scope → OptionExpr → Bool → Bool → SyntaxRun Value → SyntaxRun Value
  before_others fuel has_tail scopes e semi none others =
      if is_left e
      then (if not semi && (none && not has_tail) then run_part fuel e scopes else (run_part fuel e scopes >> ends_temps others))
      else others

  run_more : (fuel : ℕ) (has_tail : Bool) (tail : List Scope → SyntaxRun Value) (scopes : List Scope) (before : Stmts)
      → run_stmts fuel (more before) has_tail as_it_is tail scopes ≡ run_stmts fuel (joined before after) has_tail as_it_is tail scopes
  run_more fuel has_tail tail scopes tree.no_stmts = nothing fuel has_tail tail scopes
  run_more fuel has_tail tail scopes (tree.more_stmts tree.item_stmt ss) = run_more fuel has_tail tail scopes ss
  run_more fuel has_tail tail scopes (tree.more_stmts (tree.call_stmt c) ss) = run_more fuel has_tail tail scopes ss
  run_more fuel has_tail tail scopes (tree.more_stmts (tree.macro_stmt k d) ss) = run_more fuel has_tail tail (behind_def d scopes) ss
  run_more fuel has_tail tail scopes (tree.more_stmts (tree.disabled_stmt at c s) ss) = run_more fuel has_tail tail scopes ss
  run_more fuel has_tail tail scopes (tree.more_stmts (tree.let_stmt p t e b) ss) =
      ap (λ m. run_present fuel e scopes >>= (λ vs. binds (written_pat p) (written_option_type t) vs
      >>= (λ fits. run_else fuel b fits (ends_temps m) scopes))) (run_more fuel has_tail tail scopes ss)
  run_more fuel has_tail tail scopes (tree.more_stmts (tree.expr_stmt e semi) ss) =
      ap (λ t. before_others fuel has_tail scopes e semi t (run_stmts fuel (more ss) has_tail as_it_is tail scopes))
      (none_more ss)
      ∙ ap (λ m. before_others fuel has_tail scopes e semi (none_left (joined ss after)) m) (run_more fuel has_tail tail scopes ss)

pub disabled_is_nothing : DisabledIsNothing
disabled_is_nothing fuel p is_unsafe label w number before after why e semi tail ss =
    ap (λ m. in_block_scope is_unsafe number (Some (site_of p)) (catch_label label m))
    (run_more (disabled_stmt why e semi) after refl (λ fuel has_tail tail scopes. refl) fuel (is_left tail) (run_tail fuel tail)
    (scopes_in_block label ss) before)

pub call_is_nothing : CallIsNothing
call_is_nothing fuel p is_unsafe label w number before after c tail ss =
    ap (λ m. in_block_scope is_unsafe number (Some (site_of p)) (catch_label label m))
    (run_more (tree.call_stmt c) after refl (λ fuel has_tail tail scopes. refl) fuel (is_left tail) (run_tail fuel tail)
    (scopes_in_block label ss) before)
