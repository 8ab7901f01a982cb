-- How it is told what the steps of lowering do: of a step, and of one after another. And what is told of small parts of a tree.
use Rattle.std.specs.Prelude.{ℕ, Bool, true, false, not, ◌||◌, List, [], ◌∷◌, Option, Some, None}
use Rattle.hir_store.specs.Pointers.{Pointer}
use Rattle.hir_store.specs.declared.diagnostics.ExpressionStoreDiagnostics.{ExpressionStoreDiagnostics}
use Rattle.hir_store.specs.declared.diagnostics.ExpressionStoreDiagnostics.TheVariants.{AwaitOutsideOfAsync}
use Rattle.hir_store.specs.declared.diagnostics.ExpressionStoreDiagnostics.TheVariants.{FruInDestructuringAssignment}
use Rattle.hir_store.specs.declared.diagnostics.AwaitLocation.{AwaitLocation}
use Rattle.hir_store.specs.declared.ids.BlockId.{BlockId}
use Rattle.hir_store.specs.declared.ids.MacroDefId.{MacroDefId}
use Rattle.hir_store.specs.declared.name.Name.{Name}
use Rattle.hir_store.specs.declared.name.Name.TheVariants as name
use Rattle.hir_env.specs.declared.ctx.ImplTrait.{ImplTrait}
use Rattle.hir_env.specs.declared.ctx.ImplTrait.TheVariants as becomes
use Rattle.hir_env.specs.ResolvedTree as tree
use Rattle.hir_env.specs.ResolvedTree.{Called, Entered, Expr, Gone, Jump, Label, Lifetime, Limit, Listing, OptionExpr, Params, Pats}
use Rattle.hir_env.specs.ResolvedTree.{RangeForm}
use Rattle.hir_env.specs.ResolvedTree.{Origin, Stmt, Stmts, Use, UseRead}
use Rattle.hir_env.specs.Targets.{origin, source_of}
use Rattle.spec_data.specs.Data as datum
use Rattle.spec_data.specs.Data.{LifetimeData, TypeData}
use Rattle.spec_data.specs.Uses.{FirstUses}
use Rattle.spec_data.specs.Written.{absent_data, lifetime_data}
use Rattle.spec_semantics.specs.Left.{is_left, gives_value}
use Rattle.thm_logic.specs.PathSeen.{Seen, Read, goes_on}
use Rattle.thm_logic.specs.PatNames.{is_known}

-- What is told may be nothing, a list in scopes, a size. What no step of its own is told of tells nothing.
pub record Grading {ℓ} : Type (ℓ + 1) where
  pub G : Type ℓ
  pub none : G
  -- the one, and then the other
  pub then' : G → G → G
  -- what is stored: a type and a lifetime that read back so
  pub type_as : TypeData → G
  pub lifetime_as : LifetimeData → G
  -- of a node, where it came from one
  pub pat_at : Option Pointer → G
  -- a pattern to which no written node leads, and a node that is assigned to and leads to the last one
  pub made_pat_at : Option Pointer → G
  pub target_mapping : Pointer → G
  pub expr : G
  pub binding : G
  pub fault : ExpressionStoreDiagnostics → G
  -- what is noted: a type parameter that an `impl` becomes
  pub param : G
  -- macro calls: one that is entered, what a call comes to, and why something is gone; the node of one leads to the last pattern
  -- or to the last type
  pub tracked : Entered → G
  pub emitted : Called → G
  pub gone : Gone → G
  pub pat_call : Pointer → G
  pub type_call : Pointer → G
  -- what is counted: a `super` where so many stand behind it, the parts in front of two dots, and the definition of a macro where so
  -- many of its name were counted
  pub super : ℕ → G
  pub dots : Option ℕ → G
  pub def : ℕ → G
  -- what is asked and noted: a jump for its target, a block that is entered, a name that is made up
  pub jump : Option Jump → G
  pub block : Option BlockId → G
  pub generated_name : G
  -- what is in a `yield`, in a loop, which is stored behind it, in a block with a label, and behind the definition of a macro
  pub yielding : G → G
  pub looped : Option Label → G → G
  pub labelled : Label → G → G
  pub defined : MacroDefId → G → G
  -- a `try`: what is done first in it, what is in it, and what comes behind it
  pub tried : Bool → G → G → G → G
  -- bodies inside: the end of a range in a type, a length or an argument, what is in a `const` block
  pub inner : Limit → G → G
  pub constant : OptionExpr → G → G
  pub rooted : OptionExpr → G → G
  -- the parameters, what is returned, and the body
  pub closure : G → G → G → G
  pub coroutine_closure : Params → G → G → G → G
  pub coroutine : Option BlockId → G → G
  -- what owns the names that are bound in it
  pub owned : G → G

module _ {ℓ} (S : Grading {ℓ}) where
  abbrev pub if_so : Bool → S.G → S.G
  if_so true g = g
  if_so false g = S.none

  -- paths

  -- what stands before is read where the reading goes on
  abbrev pub before : Read → (Seen → S.G) → S.G
  before (goes_on x) f = f x
  before read f = S.none

  abbrev pub grade_lifetime : Option Lifetime → S.G
  grade_lifetime None = S.none
  grade_lifetime (Some l) = S.lifetime_as (lifetime_data l)

  abbrev pub grade_use : UseRead → S.G
  grade_use (tree.used_name n) = S.none
  grade_use (tree.used_lifetime l) = S.lifetime_as (lifetime_data l)

  abbrev pub grade_uses : List UseRead → S.G
  grade_uses [] = S.none
  grade_uses (u ∷ us) = S.then' (grade_use u) (grade_uses us)

  -- types

  -- what an `impl` becomes, without its bounds
  abbrev pub grade_impl : ImplTrait → TypeData → S.G
  grade_impl becomes.Error t = S.type_as t
  grade_impl becomes.Opaque t = S.type_as t
  grade_impl (becomes.Argument def) t = S.then' S.param (S.type_as t)

  -- patterns

  -- a pattern whose path isn't read is missing
  abbrev pub or_missing : Bool → S.G → S.G
  or_missing true g = g
  or_missing false g = S.pat_at None

  -- a name makes a binding at its first use
  abbrev pub grade_name : FirstUses → Use → S.G
  grade_name us u = if_so (not (is_known us u)) S.binding

  -- behind the place of two dots a part is missing where a comma stands in front of all
  abbrev pub behind_comma : Bool → S.G → S.G
  behind_comma false g = g
  behind_comma true g = S.then' g (S.pat_at None)

  -- one alternative is that pattern; these stand behind it
  abbrev pub grade_or : Pointer → Pats → S.G
  grade_or at tree.no_pats = S.none
  grade_or at (tree.more_pats p ps) = S.pat_at (Some at)
  grade_or at (tree.tracked_pats called ps) = grade_or at ps

  -- a plain name without name is no side
  abbrev pub grade_name_side : Name → S.G
  grade_name_side name.Missing = S.none
  grade_name_side n = S.expr

  -- macro calls that stand for nothing

  -- one that the text lacks is missing, and the node of another one leads to what is missing
  abbrev pub grade_uncalled_pat : Pointer → Called → S.G
  grade_uncalled_pat at tree.callless = S.pat_at None
  grade_uncalled_pat at called = S.then' (S.emitted called) (S.then' (S.pat_at None) (S.pat_call at))

  -- or an error, from its node
  abbrev pub grade_uncalled_type : Pointer → Called → S.G
  grade_uncalled_type at tree.callless = S.type_as (datum.typed (Some at) datum.error_shape)
  grade_uncalled_type at called = S.then' (S.emitted called) (S.then' (S.type_as absent_data) (S.type_call at))

  -- the assignee expression

  -- it comes from its node, or from the outermost call around it, and its node leads to it
  abbrev pub grade_assigned : Origin → S.G
  grade_assigned at = S.then' (S.made_pat_at (Some (source_of at))) (S.target_mapping at.node)

  -- where its path isn't read it is missing, at the outermost call around it
  abbrev pub or_missing_target : Option Pointer → Bool → S.G → S.G
  or_missing_target call true g = g
  or_missing_target call false g = S.made_pat_at call

  -- the two dots of an array
  abbrev pub grade_rest : Option Pointer → S.G
  grade_rest None = S.none
  grade_rest (Some at) = grade_assigned (origin None at)

  -- an expression behind the two dots of a record
  abbrev pub grade_spread : Option Pointer → S.G
  grade_spread None = S.none
  grade_spread (Some spread) = S.fault (FruInDestructuringAssignment spread)

  -- expressions

  -- what is gone leaves what is told of that and nothing else
  abbrev pub kept_of : Expr → S.G → S.G
  kept_of (tree.disabled_expr why e) g = S.gone why
  kept_of e g = g

  -- what is told of what stands behind a statement
  abbrev pub grade_behind : Stmt → S.G → S.G
  grade_behind (tree.macro_stmt k (Some d)) g = S.defined d g
  grade_behind s g = g

  abbrev pub labelled_of : Option Label → S.G → S.G
  labelled_of None g = g
  labelled_of (Some l) g = S.labelled l g

  -- in front of a tuple with a leading comma stands a missing element
  abbrev pub grade_front : Listing → S.G
  grade_front (tree.tuple_of false) = S.expr
  grade_front (tree.tuple_of true) = S.then' S.expr S.expr
  grade_front tree.array_of = S.expr

  -- where its path isn't read a record is missing
  abbrev pub record_of : Bool → S.G → S.G
  record_of true g = S.then' g S.expr
  record_of false g = S.expr

  abbrev pub grade_await : Pointer → Option AwaitLocation → S.G
  grade_await at None = S.none
  grade_await at (Some location) = S.fault (AwaitOutsideOfAsync at location)

  -- a range, with what it calls
  abbrev pub grade_range : RangeForm → S.G
  grade_range (tree.record_range item last) = S.expr
  grade_range (tree.call_range item) = S.then' S.expr S.expr
  grade_range tree.itemless_range = S.expr

  -- what is made up

  -- a name that is bound, by a pattern from no node
  abbrev pub made_bind : S.G
  made_bind = S.then' S.binding (S.pat_at None)

  -- a call of an item
  abbrev pub item_call : S.G
  item_call = S.then' S.expr S.expr

  -- the condition of a `while`, by whether it holds a `let`: where it holds none a name is bound to it, and stands behind that in a block
  abbrev pub condition : Bool → S.G → S.G
  condition true g = g
  condition false g = S.then' g (S.then' S.generated_name (S.then' made_bind (S.then' S.expr S.expr)))

  -- an arm for an item, with what is done with what the item holds
  abbrev pub flow_arm : S.G → S.G
  flow_arm g = S.then' S.generated_name (S.then' made_bind (S.then' (S.pat_at None) g))

  -- a name that a call makes a value of, which leaves
  abbrev pub residual : S.G
  residual = S.then' S.expr (S.then' item_call S.expr)

  -- the turn of a `for`: a call on a reference to a name, an arm that ends the loop, an arm around a pattern, with this in it, and the
  -- match in a block
  abbrev pub for_iteration : S.G → S.G
  for_iteration g = S.then' (S.then' (S.then' S.expr S.expr) item_call)
      (S.then' (S.then' (S.pat_at None) S.expr) (S.then' (S.then' (S.pat_at None) g) (S.then' S.expr S.expr)))

  -- a call of an item with the value of a block, or with `()` where it has none
  abbrev pub wrapped : Bool → S.G
  wrapped b = S.then' S.expr (S.then' (if_so (not b) S.expr) S.expr)

  -- a `try` with these contents
  abbrev pub grade_try : Bool → Option BlockId → Stmts → OptionExpr → S.G → S.G
  grade_try typed number ss e g =
      S.tried typed (S.block number) g (S.then' (wrapped (is_left e || gives_value ss false)) S.expr)
