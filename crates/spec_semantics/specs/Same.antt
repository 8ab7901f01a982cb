-- A stored body does what the written one does.
use Rattle.std.specs.Prelude.{ℕ, ◌≡◌, List, [], ◌∷◌}
use Rattle.hir_store.specs.Stored.{Store, SourceMap}
use Rattle.hir_store.specs.declared.hir.CoroutineKind.{CoroutineKind}
use Rattle.hir_store.specs.declared.hir.CoroutineSource.TheVariants as source
use Rattle.hir_store.specs.declared.ids.ExprId.{ExprId}
use Rattle.hir_store.specs.declared.ids.PatId.{PatId}
use Rattle.hir_env.specs.ResolvedTree.{OptionExpr, SelfFormal}
use Rattle.spec_data.specs.Tops.{Tops}
use Rattle.spec_semantics.specs.Run.{Value, Oracle, Leave, Outcome, value, break, continue, leave, World, Body}
use Rattle.spec_semantics.specs.Syntax.{SyntaxBody, written_body}
use Rattle.spec_semantics.specs.Store.{StoreBody, stored_body}
use Rattle.spec_semantics.specs.Jumps.{Enclosed}
use Rattle.spec_semantics.specs.Inner.{Bodies, Inside, bodies_in, function_bodies, handed_to, inner_bodies, making_body}
use Rattle.spec_semantics.specs.Limits.{stored_inside, written_inner}

-- the same run

-- how a body ends: a jump that nothing caught is a stray one
pub data Ending : Type 0 where
  ended : Value → Ending
  stray_break : Value → Ending
  stray_continue : Ending
  left : Leave → Ending

abbrev pub ending_of : {J : Type 0} → Outcome J Value → Ending
ending_of (value v) = ended v
ending_of (break j v) = stray_break v
ending_of (continue j) = stray_continue
ending_of (leave x) = left x

-- nothing has happened yet
abbrev pub begin_with : {T : Type 0} → T → Oracle → World T
begin_with table answers = record { answers = answers; events = []; table = table }

abbrev pub begin : Oracle → World (Unit {0})
begin answers = begin_with tt answers

-- what a body does, told these answers
abbrev pub does : {T J : Type 0} → Body T J → ℕ → Oracle → Outcome J Value × World T
does b fuel answers = b.run fuel (begin_with b.table answers)

-- for every oracle and every number of turns, the same events in the same order, and the same ending
pub record SameRun (stored : StoreBody) (written : SyntaxBody) : Type 0 where
  pub events : (fuel : ℕ) (answers : Oracle) → (does stored fuel answers).1.events ≡ (does written fuel answers).1.events
  pub endings : (fuel : ℕ) (answers : Oracle) → ending_of (does stored fuel answers).0 ≡ ending_of (does written fuel answers).0

-- bodies

-- The stored body, which runs the expression `root`, runs as the written one, and its labelled jumps are for what encloses them.
pub record SameBody (store : Store) (stored : StoreBody) (root : ExprId) (written : SyntaxBody) : Type 0 where
  pub runs : SameRun stored written
  pub jumps : Enclosed store root

-- the stored expression, as a body by itself
abbrev pub SameAlone : Store → SourceMap → ExprId → OptionExpr → Type 0
SameAlone store source_map i e = SameBody store (stored_body store source_map i) i (written_body e)

-- each like the written one in the same place of the list
abbrev pub SameBodies : Store → SourceMap → List Inside → Bodies → Type 0
SameBodies store source_map [] [] = Unit {0}
SameBodies store source_map (x ∷ xs) (b ∷ bs) =
    SameBody store (stored_inside store source_map x) x.expr (written_inner b) × SameBodies store source_map xs bs
SameBodies store source_map [] (b ∷ bs) = ⊥
SameBodies store source_map (x ∷ xs) [] = ⊥

-- the stored expression does what the written one does, and so does each body inside it
pub record SameMeaning (store : Store) (source_map : SourceMap) (root : ExprId) (e : OptionExpr) : Type 0 where
  pub body : SameAlone store source_map root e
  pub inner : SameBodies store source_map (inner_bodies store root) (bodies_in e)

-- Of a function with `async` or `gen` the stored expression makes the coroutine, which is handed these parameters. That does what is
-- written, of the same parameters and this body, and so does each body inside it.
pub record SameCoroutine (store : Store) (source_map : SourceMap) (formals : List PatId) (root : ExprId) (k : CoroutineKind)
    (self : SelfFormal) (ps : Tops) (e : OptionExpr) : Type 0 where
  pub body : SameBody store (stored_body store source_map root) root (written_inner (making_body k source.Fn))
  pub inner : SameBodies store source_map (handed_to formals (inner_bodies store root)) (function_bodies self ps e)
