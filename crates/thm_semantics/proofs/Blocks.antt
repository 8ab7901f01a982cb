-- The statements and the tail of a block, as lowering settles them and as the block is run.
use Rattle.std.proofs.Common.{◌≡◌, ℕ, ◌≤◌, Bool, true, false, not, ◌&&◌, if◌then◌else◌, List, [], ◌∷◌, Option, Some, None, refl, sym, subst}
use Rattle.std.proofs.Common.{arith, true≢false}
use Rattle.hir_store.specs.Stored.{Stored, store_of, map_of}
use Rattle.hir_store.specs.declared.hir.Statement.{Statement}
use Rattle.hir_store.specs.declared.hir.Statement.TheVariants as statement
use Rattle.hir_store.specs.declared.ids.ExprId.{ExprId}
use Rattle.hir_store.specs.declared.ids.MacroDefId.{MacroDefId}
use Rattle.hir_store.specs.declared.ids.PatId.{PatId}
use Rattle.hir_store.specs.declared.ids.TypeRefId.{TypeRefId}
use Rattle.hir_env.specs.ResolvedTree as tree
use Rattle.hir_env.specs.ResolvedTree.{Expr, OptionExpr, OptionBlock, OptionPat, OptionType, Stmts}
use Rattle.spec_data.specs.Patterns.{written_pat}
use Rattle.spec_data.specs.Reading.{stored_pat, stored_option_type}
use Rattle.spec_data.specs.Written.{written_option_type}
use Rattle.hir_lower_builder.specs.Calls.{defined}
use Rattle.hir_lower_builder.specs.Lower.{settled}
use Rattle.spec_semantics.specs.Run.{Value, unit, leave, unmatched, pure, ends_temps, ◌>>=◌, ◌>>◌, binds}
use Rattle.hir_lower_scope.specs.Scopes.{Scope, macro_scope}
use Rattle.spec_semantics.specs.Syntax.{SyntaxRun, as_it_is, behind_def, run_expr, run_part, run_present, run_else, run_block, run_stmts}
use Rattle.spec_semantics.specs.Syntax.{run_tail}
use Rattle.spec_semantics.specs.Left.{is_kept, is_left, none_left}
use Rattle.spec_semantics.specs.Store.{StoreRun, bound_to, run_or_unit, run_statements, run_present as stored_present}
use Rattle.spec_semantics.specs.Store.{run_else as stored_else}
use Rattle.hir_lower_scope.specs.Each.{IfPresent}
use Rattle.spec_semantics.specs.Jumps.{EachStatement, EnclosedTo}
use Rattle.thm_logic.proofs.Frames.{Frame, scopes, Falls}
use Rattle.thm_semantics.proofs.Views.{frames_behind, numbers}
use Rattle.thm_semantics.proofs.Relation.{SameWhere, same_ends, same_inside, same_outside, same_pure, same_bind, same_temps}
use Rattle.thm_semantics.proofs.Senses.{Base}
use Rattle.thm_semantics.proofs.Senses.{Walk, run_in, one, optional, present, contents, Goes, Wider, goes_within}
use Rattle.thm_semantics.proofs.Unmade.{binds_same, written_is_unmade}

-- the walk of a part
abbrev pub part_walk : OptionExpr → Walk Value
part_walk e fuel = run_part fuel e

-- what is kept of an expression

-- an expression where one is kept
abbrev pub KeptIs : Base → ℕ → Stored → List Frame → Bool → Walk Value → Option ExprId → Type 0
KeptIs base nodes final ps true x None = ⊥
KeptIs base nodes final ps true x (Some i) = Goes base nodes one x final ps i
KeptIs base nodes final ps false x None = Unit {0}
KeptIs base nodes final ps false x (Some i) = ⊥

-- the statements that are stored, against those that are written

abbrev pub Stored1 : Base → ℕ → Stored → List Frame → Bool → Walk Value → Bool → (List Statement → Type 0) → List Statement → Type 0
Stored1 base nodes final ps false x semi Rest new = Rest new
Stored1 base nodes final ps true x semi Rest [] = ⊥
Stored1 base nodes final ps true x semi Rest (statement.Item ∷ new) = ⊥
Stored1 base nodes final ps true x semi Rest (statement.MacroDef def ∷ new) = ⊥
Stored1 base nodes final ps true x semi Rest (statement.Let p t e b ∷ new) = ⊥
Stored1 base nodes final ps true x semi Rest (statement.Expr i semi' ∷ new) =
    (semi' ≡ semi) × Goes base nodes one x final ps i × Rest new

-- a statement that does nothing
abbrev pub Silent1 : Statement → (List Statement → Type 0) → List Statement → Type 0
Silent1 s Rest [] = ⊥
Silent1 s Rest (s' ∷ new) = (s' ≡ s) × Rest new

-- a `let` statement that is stored
pub record StoredLet : Type 0 where
  pub pattern : PatId
  pub type_ref : Option TypeRefId
  pub initializer : Option ExprId
  pub else_branch : Option ExprId

abbrev pub let_of : StoredLet → Statement
let_of s = statement.Let s.pattern s.type_ref s.initializer s.else_branch

abbrev pub ElseIs : Base → ℕ → Stored → List Frame → OptionBlock → Option ExprId → Type 0
ElseIs base nodes final ps tree.no_block None = Unit {0}
ElseIs base nodes final ps tree.no_block (Some i) = ⊥
ElseIs base nodes final ps (tree.some_block b) None = ⊥
ElseIs base nodes final ps (tree.some_block b) (Some i) = Goes base nodes one (λ fuel. run_block fuel b) final ps i

-- it stands for the written one
pub record LetIs (base : Base) (nodes : ℕ) (final : Stored) (ps : List Frame) (p : OptionPat) (t : OptionType) (e : OptionExpr)
    (b : OptionBlock)
    (s : StoredLet) : Type 0 where
  pub pattern : stored_pat (store_of final) (map_of final) s.pattern ≡ written_pat p
  pub type_ref : stored_option_type (store_of final) (map_of final) s.type_ref ≡ written_option_type t
  pub initializer : Goes base nodes present (λ fuel. run_present fuel e) final ps s.initializer
  pub else_branch : ElseIs base nodes final ps b s.else_branch

else_within : {base base' : Base} {nodes nodes' : ℕ} (final : Stored) (ps : List Frame) (b : OptionBlock) (o : Option ExprId)
    → Wider base nodes base' nodes' → ElseIs base nodes final ps b o → ElseIs base' nodes' final ps b o
else_within final ps tree.no_block None w h = tt
else_within final ps tree.no_block (Some i) w h = absurd h
else_within final ps (tree.some_block b) None w h = absurd h
else_within final ps (tree.some_block b) (Some i) w h = goes_within w h

pub let_within : {base base' : Base} {nodes nodes' : ℕ} (final : Stored) (ps : List Frame) (p : OptionPat) (t : OptionType) (e : OptionExpr)
    (b : OptionBlock) (s : StoredLet) → Wider base nodes base' nodes' → LetIs base nodes final ps p t e b s
    → LetIs base' nodes' final ps p t e b s
let_within final ps p t e b s w h = record {
  pattern = h.pattern;
  type_ref = h.type_ref;
  initializer = goes_within w h.initializer;
  else_branch = else_within final ps b s.else_branch w h.else_branch;
}

abbrev pub Let1 : (StoredLet → Type 0) → (List Statement → Type 0) → List Statement → Type 0
Let1 Is Rest [] = ⊥
Let1 Is Rest (statement.Item ∷ new) = ⊥
Let1 Is Rest (statement.MacroDef def ∷ new) = ⊥
Let1 Is Rest (statement.Expr i semi ∷ new) = ⊥
Let1 Is Rest (statement.Let p t e b ∷ new) = Is (record { pattern = p; type_ref = t; initializer = e; else_branch = b }) × Rest new

abbrev pub None1 : List Statement → Type 0
None1 [] = Unit {0}
None1 (s ∷ new) = ⊥

-- The statements, and then the tail x, which is kept or not.
module _ (base : Base) (nodes : ℕ) (final : Stored) (kept : Bool) (x : Walk Value) where
  abbrev pub ContentsAre : List Frame → Stmts → List Statement → Option ExprId → Type 0
  ContentsAre ps tree.no_stmts new o = None1 new × KeptIs base nodes final ps kept x o
  ContentsAre ps (tree.more_stmts (tree.disabled_stmt at by s) ss) new o = ContentsAre ps ss new o
  ContentsAre ps (tree.more_stmts (tree.call_stmt call) ss) new o = ContentsAre ps ss new o
  ContentsAre ps (tree.more_stmts tree.item_stmt ss) new o = Silent1 statement.Item (λ more. ContentsAre ps ss more o) new
  ContentsAre ps (tree.more_stmts (tree.macro_stmt k d) ss) new o =
      Silent1 (defined d) (λ more. ContentsAre (frames_behind d ps) ss more o) new
  ContentsAre ps (tree.more_stmts (tree.let_stmt p t e b) ss) new o =
      Let1 (LetIs base nodes final ps p t e b) (λ more. ContentsAre ps ss more o) new
  ContentsAre ps (tree.more_stmts (tree.expr_stmt e semi) ss) new o =
      Stored1 base nodes final ps (is_left e) (part_walk e) semi (λ more. ContentsAre ps ss more o) new

-- which statement is the last

abbrev empty : List Statement → Bool
empty [] = true
empty (s ∷ ss) = false

module _ (base : Base) (nodes : ℕ) (final : Stored) (kept : Bool) (x : Walk Value) where
  none_left_is : (ps : List Frame) (ss : Stmts) (new : List Statement) (o : Option ExprId)
      → ContentsAre base nodes final kept x ps ss new o → none_left ss ≡ empty new
  none_left_is ps tree.no_stmts [] o h = refl
  none_left_is ps tree.no_stmts (s ∷ new) o h = absurd h.0
  none_left_is ps (tree.more_stmts (tree.disabled_stmt at by s) ss) new o h = none_left_is ps ss new o h
  none_left_is ps (tree.more_stmts (tree.call_stmt call) ss) new o h = none_left_is ps ss new o h
  none_left_is ps (tree.more_stmts tree.item_stmt ss) [] o h = absurd h
  none_left_is ps (tree.more_stmts tree.item_stmt ss) (s ∷ new) o h = refl
  none_left_is ps (tree.more_stmts (tree.macro_stmt k d) ss) [] o h = absurd h
  none_left_is ps (tree.more_stmts (tree.macro_stmt k d) ss) (s ∷ new) o h = refl
  none_left_is ps (tree.more_stmts (tree.let_stmt p t e b) ss) [] o h = absurd h
  none_left_is ps (tree.more_stmts (tree.let_stmt p t e b) ss) (statement.Item ∷ new) o h = absurd h
  none_left_is ps (tree.more_stmts (tree.let_stmt p t e b) ss) (statement.MacroDef def ∷ new) o h = absurd h
  none_left_is ps (tree.more_stmts (tree.let_stmt p t e b) ss) (statement.Expr i semi ∷ new) o h = absurd h
  none_left_is ps (tree.more_stmts (tree.let_stmt p t e b) ss) (statement.Let i k j l ∷ new) o h = refl
  none_left_is ps (tree.more_stmts (tree.expr_stmt e semi) ss) new o h =
      go (is_left e) (part_walk e) new (λ more. none_left_is ps ss more o) h
    where
      go : (t : Bool) (y : Walk Value) (new : List Statement)
          → ((more : List Statement) → ContentsAre base nodes final kept x ps ss more o → none_left ss ≡ empty more)
          → Stored1 base nodes final ps t y semi (λ more. ContentsAre base nodes final kept x ps ss more o) new
          → not t && none_left ss ≡ empty new
      go false y new more h = more new h
      go true y [] more h = absurd h
      go true y (statement.Item ∷ new) more h = absurd h
      go true y (statement.MacroDef def ∷ new) more h = absurd h
      go true y (statement.Let i k j l ∷ new) more h = absurd h
      go true y (statement.Expr i semi' ∷ new) more h = refl

and_false : (a b : Bool) → a && (b && false) ≡ false
and_false true true = refl
and_false true false = refl
and_false false b = refl

-- the same run

-- the run of a stored block's contents
abbrev stored_run : Stored → ℕ → ℕ → List Statement × Option ExprId → StoreRun Value
stored_run final fuel d r = run_statements (store_of final) (map_of final) fuel (run_in final d fuel) r.0 r.1

-- an expression statement that is left or not, and others behind it
abbrev before : Bool → Bool → (SyntaxRun Value → SyntaxRun Value) → SyntaxRun Value → SyntaxRun Value → SyntaxRun Value
before left last out y others = if left then (if last then out y else (y >> ends_temps others)) else others

module _ (base : Base) (nodes : ℕ) (final : Stored) (fuel d : ℕ) (deep : nodes ≤ d) where
  same_else : (ps : List Frame) → Falls base.labels ps → (b : OptionBlock) (o : Option ExprId) → ElseIs base nodes final ps b o
      → (fits : Bool)
      {m : StoreRun Value} {n : SyntaxRun Value} → SameWhere base.names ps m n
      → SameWhere base.names ps (stored_else fuel (run_in final d fuel) o fits m) (run_else fuel b fits n (scopes ps))
  same_else ps f tree.no_block None h fits k = k
  same_else ps f tree.no_block (Some i) h fits k = absurd h
  same_else ps f (tree.some_block b) None h fits k = absurd h
  same_else ps f (tree.some_block b) (Some i) h true k = k
  same_else ps f (tree.some_block b) (Some i) h false k =
      same_bind (h.same fuel d deep f) (λ v. same_ends (leave unmatched) refl)

  -- a `let` statement before others
  same_let : (ps : List Frame) → Falls base.labels ps → (p : OptionPat) (t : OptionType) (e : OptionExpr) (b : OptionBlock) (s : StoredLet)
      → LetIs base nodes final ps p t e b s → {m : StoreRun Value} {n : SyntaxRun Value} → SameWhere base.names ps m n
      → SameWhere base.names ps
      (stored_present fuel (run_in final d fuel) s.initializer >>= (λ vs.
      bound_to (store_of final) (map_of final) s.pattern s.type_ref vs
      >>= (λ fits. stored_else fuel (run_in final d fuel) s.else_branch fits m)))
      (run_present fuel e (scopes ps) >>= (λ vs. binds (written_pat p) (written_option_type t) vs
      >>= (λ fits. run_else fuel b fits n (scopes ps))))
  same_let ps f p t e b s h k = same_bind (h.initializer.same fuel d deep f)
      (λ vs. same_bind
      (binds_same final s.pattern s.type_ref (written_pat p) (written_option_type t) h.pattern h.type_ref (written_is_unmade p) vs)
      (λ fits. same_else ps f b s.else_branch h.else_branch fits k))

-- no tail gives unit
no_value : {base : Base} {nodes : ℕ} {final : Stored} {ps : List Frame} → Goes base nodes optional (λ fuel qs. pure unit) final ps None
no_value = record { same = λ fuel d le f. same_pure unit; jumps = λ d le. tt }

-- what a stored tail does, where the value of this one goes through `out`
abbrev Ends : Base → ℕ → Stored → ℕ → ℕ → (SyntaxRun Value → SyntaxRun Value) → List Frame → Option ExprId → Option ExprId → Type 0
Ends base nodes final fuel d out ps tail o = (y : Walk Value) → Goes base nodes optional y final ps tail
    → SameWhere base.names ps (run_or_unit fuel (run_in final d fuel) o) (out (y fuel (scopes ps)))

-- behind the definition of a macro, which catches no jump

falls_behind : (b : ℕ) (def : Option MacroDefId) (ps : List Frame) → Falls b ps → Falls b (frames_behind def ps)
falls_behind b None ps f = f
falls_behind b (Some def) ps f = f

ends_behind : (base : Base) (nodes : ℕ) (final : Stored) (fuel d : ℕ) (out : SyntaxRun Value → SyntaxRun Value) (o : Option ExprId)
    (def : Option MacroDefId) (ps : List Frame) (tail : Option ExprId) → Ends base nodes final fuel d out ps tail o
    → Ends base nodes final fuel d out (frames_behind def ps) tail o
ends_behind base nodes final fuel d out o None ps tail k = k
ends_behind base nodes final fuel d out o (Some def) ps tail k = λ y goes. same_inside (Some def)
    (k (λ fuel qs. y fuel (macro_scope def ∷ qs)) (record {
      same = λ fuel d le f. same_outside (Some def) (goes.same fuel d le f);
      jumps = goes.jumps;
    }))

module _ (final : Stored) (fuel d : ℕ) (o : Option ExprId) where
  same_behind : {names : ℕ} (def : Option MacroDefId) (ps : List Frame) (new : List Statement) (n : List Scope → SyntaxRun Value)
      → SameWhere names (frames_behind def ps) (stored_run final fuel d (new, o)) (n (scopes (frames_behind def ps)))
      → SameWhere names ps (stored_run final fuel d (defined def ∷ new, o)) (n (behind_def def (scopes ps)))
  same_behind None ps new n h = h
  same_behind (Some def) ps new n h = same_outside (Some def) h

module _ (base : Base) (nodes : ℕ) (final : Stored) (fuel d : ℕ) (deep : nodes ≤ d) (x : Walk Value)
    (out : SyntaxRun Value → SyntaxRun Value)
    (o : Option ExprId) where
  -- with a tail, the statements as they are
  with_tail : (ps : List Frame) → Falls base.labels ps → (ss : Stmts) (new : List Statement) (i : ExprId)
      → Ends base nodes final fuel d out ps (Some i) o → ContentsAre base nodes final true x ps ss new (Some i)
      → SameWhere base.names ps (stored_run final fuel d (new, o)) (run_stmts fuel ss true out (x fuel) (scopes ps))
  with_tail ps f tree.no_stmts [] i k h = k x (record { same = h.1.same; jumps = h.1.jumps })
  with_tail ps f tree.no_stmts (s ∷ new) i k h = absurd h.0
  with_tail ps f (tree.more_stmts (tree.disabled_stmt at by s) ss) new i k h = with_tail ps f ss new i k h
  with_tail ps f (tree.more_stmts (tree.call_stmt call) ss) new i k h = with_tail ps f ss new i k h
  with_tail ps f (tree.more_stmts tree.item_stmt ss) [] i k h = absurd h
  with_tail ps f (tree.more_stmts tree.item_stmt ss) (s ∷ new) i k h = rw h.0 (with_tail ps f ss new i k h.1)
  with_tail ps f (tree.more_stmts (tree.macro_stmt n def) ss) [] i k h = absurd h
  with_tail ps f (tree.more_stmts (tree.macro_stmt n def) ss) (s ∷ new) i k h = rw h.0
      (same_behind final fuel d o def ps new (run_stmts fuel ss true out (x fuel))
      (with_tail (frames_behind def ps) (falls_behind base.labels def ps f) ss new i
      (ends_behind base nodes final fuel d out o def ps (Some i) k) h.1))
  with_tail ps f (tree.more_stmts (tree.let_stmt p t e b) ss) [] i k h = absurd h
  with_tail ps f (tree.more_stmts (tree.let_stmt p t e b) ss) (statement.Item ∷ new) i k h = absurd h
  with_tail ps f (tree.more_stmts (tree.let_stmt p t e b) ss) (statement.MacroDef def ∷ new) i k h = absurd h
  with_tail ps f (tree.more_stmts (tree.let_stmt p t e b) ss) (statement.Expr j semi ∷ new) i k h = absurd h
  with_tail ps f (tree.more_stmts (tree.let_stmt p t e b) ss) (statement.Let q t' j l ∷ new) i k h =
      same_let base nodes final fuel d deep ps f p t e b _ h.0 (same_temps (with_tail ps f ss new i k h.1))
  with_tail ps f (tree.more_stmts (tree.expr_stmt e semi) ss) new i k h =
      go (is_left e) (part_walk e) new (λ more h'. with_tail ps f ss more i k h') h
    where
      go : (t : Bool) (y : Walk Value) (new : List Statement)
          → ((more : List Statement) → ContentsAre base nodes final true x ps ss more (Some i)
          → SameWhere base.names ps (stored_run final fuel d (more, o)) (run_stmts fuel ss true out (x fuel) (scopes ps)))
          → Stored1 base nodes final ps t y semi (λ more. ContentsAre base nodes final true x ps ss more (Some i)) new
          → SameWhere base.names ps (stored_run final fuel d (new, o))
          (before t (not semi && (none_left ss && false)) out (y fuel (scopes ps)) (run_stmts fuel ss true out (x fuel) (scopes ps)))
      go false y new more h = more new h
      go true y [] more h = absurd h
      go true y (statement.Item ∷ new) more h = absurd h
      go true y (statement.MacroDef def ∷ new) more h = absurd h
      go true y (statement.Let q t' j l ∷ new) more h = absurd h
      go true y (statement.Expr j semi' ∷ new) more h =
          rw (and_false (not semi) (none_left ss)) (same_bind (h.1.same fuel d deep f) (λ v. same_temps (more new h.2)))

  -- what does nothing is no tail
  silent_first : (ps : List Frame) (n : SyntaxRun Value) (def : Option MacroDefId) (new : List Statement) (s : Statement)
      → s ≡ defined def
      → (Ends base nodes final fuel d out ps (settled new None).1 o
      → SameWhere base.names ps (stored_run final fuel d (defined def ∷ (settled new None).0, o)) n)
      → Ends base nodes final fuel d out ps (settled (s ∷ new) None).1 o
      → SameWhere base.names ps (stored_run final fuel d ((settled (s ∷ new) None).0, o)) n
  silent_first ps n def new s e h = subst (λ s. Ends base nodes final fuel d out ps (settled (s ∷ new) None).1 o
      → SameWhere base.names ps (stored_run final fuel d ((settled (s ∷ new) None).0, o)) n) (sym e) (by def h)
    where
      by : (def : Option MacroDefId)
          → (Ends base nodes final fuel d out ps (settled new None).1 o
          → SameWhere base.names ps (stored_run final fuel d (defined def ∷ (settled new None).0, o)) n)
          → Ends base nodes final fuel d out ps (settled (defined def ∷ new) None).1 o
          → SameWhere base.names ps (stored_run final fuel d ((settled (defined def ∷ new) None).0, o)) n
      by None h = h
      by (Some def) h = h

  -- without one, the last statement may become it
  without_tail : (ps : List Frame) → Falls base.labels ps → (ss : Stmts) (new : List Statement)
      → Ends base nodes final fuel d out ps (settled new None).1 o → ContentsAre base nodes final false x ps ss new None
      → SameWhere base.names ps (stored_run final fuel d ((settled new None).0, o)) (run_stmts fuel ss false out (λ qs. pure unit)
      (scopes ps))
  without_tail ps f tree.no_stmts [] k h = k (λ fuel qs. pure unit) no_value
  without_tail ps f tree.no_stmts (s ∷ new) k h = absurd h.0
  without_tail ps f (tree.more_stmts (tree.disabled_stmt at by s) ss) new k h = without_tail ps f ss new k h
  without_tail ps f (tree.more_stmts (tree.call_stmt call) ss) new k h = without_tail ps f ss new k h
  without_tail ps f (tree.more_stmts tree.item_stmt ss) [] k h = absurd h
  without_tail ps f (tree.more_stmts tree.item_stmt ss) (s ∷ new) k h =
      silent_first ps (run_stmts fuel ss false out (λ qs. pure unit) (scopes ps)) None new s h.0 (λ k'. without_tail ps f ss new k' h.1) k
  without_tail ps f (tree.more_stmts (tree.macro_stmt n def) ss) [] k h = absurd h
  without_tail ps f (tree.more_stmts (tree.macro_stmt n def) ss) (s ∷ new) k h =
      silent_first ps (run_stmts fuel ss false out (λ qs. pure unit) (behind_def def (scopes ps))) def new s h.0
      (λ k'. same_behind final fuel d o def ps (settled new None).0 (run_stmts fuel ss false out (λ qs. pure unit))
      (without_tail (frames_behind def ps) (falls_behind base.labels def ps f) ss new
      (ends_behind base nodes final fuel d out o def ps (settled new None).1 k') h.1)) k
  without_tail ps f (tree.more_stmts (tree.let_stmt p t e b) ss) [] k h = absurd h
  without_tail ps f (tree.more_stmts (tree.let_stmt p t e b) ss) (statement.Item ∷ new) k h = absurd h
  without_tail ps f (tree.more_stmts (tree.let_stmt p t e b) ss) (statement.MacroDef def ∷ new) k h = absurd h
  without_tail ps f (tree.more_stmts (tree.let_stmt p t e b) ss) (statement.Expr j semi ∷ new) k h = absurd h
  without_tail ps f (tree.more_stmts (tree.let_stmt p t e b) ss) (statement.Let q t' j l ∷ new) k h =
      same_let base nodes final fuel d deep ps f p t e b _ h.0 (same_temps (without_tail ps f ss new k h.1))
  without_tail ps f (tree.more_stmts (tree.expr_stmt e semi) ss) new k h =
      go (is_left e) (part_walk e) semi new (without_tail ps f ss) (λ more. none_left_is base nodes final false x ps ss more None) k h
    where
      go : (t : Bool) (y : Walk Value) (semi : Bool) (new : List Statement)
          → ((more : List Statement) → Ends base nodes final fuel d out ps (settled more None).1 o
          → ContentsAre base nodes final false x ps ss more None
          → SameWhere base.names ps (stored_run final fuel d ((settled more None).0, o))
          (run_stmts fuel ss false out (λ qs. pure unit) (scopes ps)))
          → ((more : List Statement) → ContentsAre base nodes final false x ps ss more None → none_left ss ≡ empty more)
          → Ends base nodes final fuel d out ps (settled new None).1 o
          → Stored1 base nodes final ps t y semi (λ more. ContentsAre base nodes final false x ps ss more None) new
          → SameWhere base.names ps (stored_run final fuel d ((settled new None).0, o))
          (before t (not semi && (none_left ss && true)) out (y fuel (scopes ps))
          (run_stmts fuel ss false out (λ qs. pure unit) (scopes ps)))
      go false y semi new more left k h = more new k h
      go true y semi [] more left k h = absurd h
      go true y semi (statement.Item ∷ new) more left k h = absurd h
      go true y semi (statement.MacroDef def ∷ new) more left k h = absurd h
      go true y semi (statement.Let q t' j l ∷ new) more left k h = absurd h
      go true y true (statement.Expr j true ∷ new) more left k h = same_bind (h.1.same fuel d deep f) (λ v. same_temps (more new k h.2))
      go true y true (statement.Expr j false ∷ new) more left k h = absurd (true≢false (sym h.0))
      go true y false (statement.Expr j true ∷ new) more left k h = absurd (true≢false h.0)
      go true y false (statement.Expr j false ∷ []) more left k h =
          rw (left [] h.2) (k y (record { same = h.1.same; jumps = h.1.jumps }))
      go true y false (statement.Expr j false ∷ (s ∷ new)) more left k h =
          rw (left (s ∷ new) h.2) (same_bind (h.1.same fuel d deep f) (λ v. same_temps (more (s ∷ new) k h.2)))

-- jumps

-- each jump of the contents of a block names what encloses it
abbrev AllEnclosed : (ExprId → Type 0) → List Statement → Option ExprId → Type 0
AllEnclosed P ss o = EachStatement P ss × IfPresent P o

jumps_behind : (final : Stored) (d : ℕ) (def : Option MacroDefId) (ps : List Frame) (new : List Statement) (o : Option ExprId)
    → AllEnclosed (EnclosedTo (store_of final) d (numbers (frames_behind def ps))) new o
    → AllEnclosed (EnclosedTo (store_of final) d (numbers ps)) (defined def ∷ new) o
jumps_behind final d None ps new o h = h
jumps_behind final d (Some def) ps new o h = h

module _ (base : Base) (nodes : ℕ) (final : Stored) (d : ℕ) (deep : nodes ≤ d) (kept : Bool) (x : Walk Value) where
  kept_jumps : (ps : List Frame) (t : Bool) (y : Walk Value) (o : Option ExprId) → KeptIs base nodes final ps t y o
      → IfPresent (EnclosedTo (store_of final) d (numbers ps)) o
  kept_jumps ps true y None k = absurd k
  kept_jumps ps true y (Some i) k = k.jumps d deep
  kept_jumps ps false y None k = tt
  kept_jumps ps false y (Some i) k = absurd k

  else_jumps : (ps : List Frame) (b : OptionBlock) (o : Option ExprId) → ElseIs base nodes final ps b o
      → IfPresent (EnclosedTo (store_of final) d (numbers ps)) o
  else_jumps ps tree.no_block None h = tt
  else_jumps ps tree.no_block (Some i) h = absurd h
  else_jumps ps (tree.some_block b) None h = absurd h
  else_jumps ps (tree.some_block b) (Some i) h = h.jumps d deep

  all_jumps : (ps : List Frame) (ss : Stmts) (new : List Statement) (o : Option ExprId) → ContentsAre base nodes final kept x ps ss new o
      → AllEnclosed (EnclosedTo (store_of final) d (numbers ps)) new o
  all_jumps ps tree.no_stmts [] o h = (tt, kept_jumps ps kept x o h.1)
  all_jumps ps tree.no_stmts (s ∷ new) o h = absurd h.0
  all_jumps ps (tree.more_stmts (tree.disabled_stmt at by s) ss) new o h = all_jumps ps ss new o h
  all_jumps ps (tree.more_stmts (tree.call_stmt call) ss) new o h = all_jumps ps ss new o h
  all_jumps ps (tree.more_stmts tree.item_stmt ss) [] o h = absurd h
  all_jumps ps (tree.more_stmts tree.item_stmt ss) (s ∷ new) o h = rw h.0 (all_jumps ps ss new o h.1)
  all_jumps ps (tree.more_stmts (tree.macro_stmt n def) ss) [] o h = absurd h
  all_jumps ps (tree.more_stmts (tree.macro_stmt n def) ss) (s ∷ new) o h =
      rw h.0 (jumps_behind final d def ps new o (all_jumps (frames_behind def ps) ss new o h.1))
  all_jumps ps (tree.more_stmts (tree.let_stmt p t e b) ss) [] o h = absurd h
  all_jumps ps (tree.more_stmts (tree.let_stmt p t e b) ss) (statement.Item ∷ new) o h = absurd h
  all_jumps ps (tree.more_stmts (tree.let_stmt p t e b) ss) (statement.MacroDef def ∷ new) o h = absurd h
  all_jumps ps (tree.more_stmts (tree.let_stmt p t e b) ss) (statement.Expr j semi ∷ new) o h = absurd h
  all_jumps ps (tree.more_stmts (tree.let_stmt p t e b) ss) (statement.Let q k j l ∷ new) o h =
      let r = all_jumps ps ss new o h.1 in
      ((h.0.initializer.jumps d deep, else_jumps ps b l h.0.else_branch, r.0), r.1)
  all_jumps ps (tree.more_stmts (tree.expr_stmt e semi) ss) new o h =
      go (is_left e) (part_walk e) new (λ more. all_jumps ps ss more o) h
    where
      go : (t : Bool) (y : Walk Value) (new : List Statement)
          → ((more : List Statement) → ContentsAre base nodes final kept x ps ss more o
          → AllEnclosed (EnclosedTo (store_of final) d (numbers ps)) more o)
          → Stored1 base nodes final ps t y semi (λ more. ContentsAre base nodes final kept x ps ss more o) new
          → AllEnclosed (EnclosedTo (store_of final) d (numbers ps)) new o
      go false y new more h = more new h
      go true y [] more h = absurd h
      go true y (statement.Item ∷ new) more h = absurd h
      go true y (statement.MacroDef def ∷ new) more h = absurd h
      go true y (statement.Let q k j l ∷ new) more h = absurd h
      go true y (statement.Expr j semi' ∷ new) more h = let r = more new h.2 in ((h.1.jumps d deep, r.0), r.1)

settled_jumps : (P : ExprId → Type 0) (new : List Statement) (o : Option ExprId) → AllEnclosed P new o
    → AllEnclosed P (settled new o).0 (settled new o).1
settled_jumps P new (Some i) h = h
settled_jumps P [] None h = (tt, tt)
settled_jumps P (statement.Item ∷ new) None h = settled_jumps P new None h
settled_jumps P (statement.MacroDef def ∷ new) None h = settled_jumps P new None h
settled_jumps P (statement.Let p t e b ∷ new) None h =
    let r = settled_jumps P new None (h.0.2, tt) in ((h.0.0, h.0.1, r.0), r.1)
settled_jumps P (statement.Expr i true ∷ new) None h = let r = settled_jumps P new None (h.0.1, tt) in ((h.0.0, r.0), r.1)
settled_jumps P (statement.Expr i false ∷ []) None h = (tt, h.0.0)
settled_jumps P (statement.Expr i false ∷ (s ∷ new)) None h = let r = settled_jumps P (s ∷ new) None (h.0.1, tt) in ((h.0.0, r.0), r.1)

-- the tail is stored where it is kept

module _ (base : Base) (nodes : ℕ) (final : Stored) (x : Walk Value) where
  no_tail : (ps : List Frame) (ss : Stmts) (new : List Statement) → ContentsAre base nodes final true x ps ss new None → ⊥
  no_tail ps tree.no_stmts new h = h.1
  no_tail ps (tree.more_stmts (tree.disabled_stmt at by s) ss) new h = no_tail ps ss new h
  no_tail ps (tree.more_stmts (tree.call_stmt call) ss) new h = no_tail ps ss new h
  no_tail ps (tree.more_stmts tree.item_stmt ss) [] h = h
  no_tail ps (tree.more_stmts tree.item_stmt ss) (s ∷ new) h = no_tail ps ss new h.1
  no_tail ps (tree.more_stmts (tree.macro_stmt n def) ss) [] h = h
  no_tail ps (tree.more_stmts (tree.macro_stmt n def) ss) (s ∷ new) h = no_tail (frames_behind def ps) ss new h.1
  no_tail ps (tree.more_stmts (tree.let_stmt p t e b) ss) [] h = h
  no_tail ps (tree.more_stmts (tree.let_stmt p t e b) ss) (statement.Item ∷ new) h = h
  no_tail ps (tree.more_stmts (tree.let_stmt p t e b) ss) (statement.MacroDef def ∷ new) h = h
  no_tail ps (tree.more_stmts (tree.let_stmt p t e b) ss) (statement.Expr j semi ∷ new) h = h
  no_tail ps (tree.more_stmts (tree.let_stmt p t e b) ss) (statement.Let q k j l ∷ new) h = no_tail ps ss new h.1
  no_tail ps (tree.more_stmts (tree.expr_stmt e semi) ss) new h = go (is_left e) (part_walk e) new (no_tail ps ss) h
    where
      go : (t : Bool) (y : Walk Value) (new : List Statement)
          → ((more : List Statement) → ContentsAre base nodes final true x ps ss more None → ⊥)
          → Stored1 base nodes final ps t y semi (λ more. ContentsAre base nodes final true x ps ss more None) new → ⊥
      go false y new more h = more new h
      go true y [] more h = h
      go true y (statement.Item ∷ new) more h = h
      go true y (statement.MacroDef def ∷ new) more h = h
      go true y (statement.Let q k j l ∷ new) more h = h
      go true y (statement.Expr i semi' ∷ new) more h = more new h.2

module _ (base : Base) (nodes : ℕ) (final : Stored) (x : Walk Value) (i : ExprId) where
  a_tail : (ps : List Frame) (ss : Stmts) (new : List Statement) → ContentsAre base nodes final false x ps ss new (Some i) → ⊥
  a_tail ps tree.no_stmts new h = h.1
  a_tail ps (tree.more_stmts (tree.disabled_stmt at by s) ss) new h = a_tail ps ss new h
  a_tail ps (tree.more_stmts (tree.call_stmt call) ss) new h = a_tail ps ss new h
  a_tail ps (tree.more_stmts tree.item_stmt ss) [] h = h
  a_tail ps (tree.more_stmts tree.item_stmt ss) (s ∷ new) h = a_tail ps ss new h.1
  a_tail ps (tree.more_stmts (tree.macro_stmt n def) ss) [] h = h
  a_tail ps (tree.more_stmts (tree.macro_stmt n def) ss) (s ∷ new) h = a_tail (frames_behind def ps) ss new h.1
  a_tail ps (tree.more_stmts (tree.let_stmt p t e b) ss) [] h = h
  a_tail ps (tree.more_stmts (tree.let_stmt p t e b) ss) (statement.Item ∷ new) h = h
  a_tail ps (tree.more_stmts (tree.let_stmt p t e b) ss) (statement.MacroDef def ∷ new) h = h
  a_tail ps (tree.more_stmts (tree.let_stmt p t e b) ss) (statement.Expr j semi ∷ new) h = h
  a_tail ps (tree.more_stmts (tree.let_stmt p t e b) ss) (statement.Let q k j l ∷ new) h = a_tail ps ss new h.1
  a_tail ps (tree.more_stmts (tree.expr_stmt e semi) ss) new h = go (is_left e) (part_walk e) new (a_tail ps ss) h
    where
      go : (t : Bool) (y : Walk Value) (new : List Statement)
          → ((more : List Statement) → ContentsAre base nodes final false x ps ss more (Some i) → ⊥)
          → Stored1 base nodes final ps t y semi (λ more. ContentsAre base nodes final false x ps ss more (Some i)) new → ⊥
      go false y new more h = more new h
      go true y [] more h = h
      go true y (statement.Item ∷ new) more h = h
      go true y (statement.MacroDef def ∷ new) more h = h
      go true y (statement.Let q k j l ∷ new) more h = h
      go true y (statement.Expr i semi' ∷ new) more h = more new h.2

-- both

-- the run of a tail that is written, by whether it is left
abbrev tail_of : Bool → (List Scope → SyntaxRun Value) → List Scope → SyntaxRun Value
tail_of true y = y
tail_of false y = λ qs. pure unit

kept_tail : (t : Bool) (y : List Scope → SyntaxRun Value) → (λ qs. if t then y qs else pure unit) ≡ tail_of t y
kept_tail true y = refl
kept_tail false y = refl

tail_is : (e : OptionExpr) (fuel : ℕ) → run_tail fuel e ≡ tail_of (is_left e) (run_part fuel e)
tail_is tree.no_expr fuel = refl
tail_is (tree.some_expr e) fuel = kept_tail (is_kept e) (run_expr fuel e)

-- What closes a block instead of its settled tail: its value goes through `out`, and it jumps as that tail does.
pub record Closing (base : Base) (nodes nodes' : ℕ) (out : SyntaxRun Value → SyntaxRun Value) (final : Stored) (ps : List Frame)
    (tail o : Option ExprId) : Type 0 where
  pub same : (fuel d : ℕ) → nodes' ≤ d → Falls base.labels ps → Ends base nodes final fuel d out ps tail o
  pub jumps : ((d : ℕ) → nodes ≤ d → IfPresent (EnclosedTo (store_of final) d (numbers ps)) tail)
      → (d : ℕ) → nodes' ≤ d → IfPresent (EnclosedTo (store_of final) d (numbers ps)) o

-- the contents of a block, where `e` is its written tail
pub contents_close : {base : Base} {nodes nodes' : ℕ} {final : Stored} {ps : List Frame}
    (out : SyntaxRun Value → SyntaxRun Value) (ss : Stmts)
    (e : OptionExpr) (new : List Statement) (o c : Option ExprId) → nodes ≤ nodes'
    → Closing base nodes nodes' out final ps (settled new o).1 c
    → ContentsAre base nodes final (is_left e) (part_walk e) ps ss new o
    → Goes base nodes' (contents final) (λ fuel qs. run_stmts fuel ss (is_left e) out (run_tail fuel e) qs) final ps
    ((settled new o).0, c)
contents_close {base = base} {nodes = nodes} {nodes' = nodes'} {final = final} {ps = ps} out ss e new o c le closing h = record {
  same = λ fuel d ge f. rw (tail_is e fuel)
      (runs (is_left e) (part_walk e) o h fuel d (omega (arith, le, ge)) f (closing.same fuel d ge f));
  jumps = λ d ge. ((all d (omega (arith, le, ge))).0, closing.jumps (λ d ge. (all d ge).1) d ge);
}
  where
    all : (d : ℕ) → nodes ≤ d → AllEnclosed (EnclosedTo (store_of final) d (numbers ps)) (settled new o).0 (settled new o).1
    all d ge = settled_jumps (EnclosedTo (store_of final) d (numbers ps)) new o
        (all_jumps base nodes final d ge (is_left e) (part_walk e) ps ss new o h)

    runs : (t : Bool) (x : Walk Value) (o : Option ExprId) → ContentsAre base nodes final t x ps ss new o → (fuel d : ℕ) → nodes ≤ d
        → Falls base.labels ps → Ends base nodes final fuel d out ps (settled new o).1 c
        → SameWhere base.names ps (stored_run final fuel d ((settled new o).0, c)) (run_stmts fuel ss t out (tail_of t (x fuel))
        (scopes ps))
    runs true x None h fuel d le f k = absurd (no_tail base nodes final x ps ss new h)
    runs true x (Some i) h fuel d le f k = with_tail base nodes final fuel d le x out c ps f ss new i k h
    runs false x None h fuel d le f k = without_tail base nodes final fuel d le x out c ps f ss new k h
    runs false x (Some i) h fuel d le f k = absurd (a_tail base nodes final x i ps ss new h)

-- as they are
pub contents_go : {base : Base} {nodes : ℕ} {final : Stored} {ps : List Frame} (ss : Stmts) (e : OptionExpr)
    (new : List Statement) (o : Option ExprId)
    → ContentsAre base nodes final (is_left e) (part_walk e) ps ss new o
    → Goes base nodes (contents final) (λ fuel qs. run_stmts fuel ss (is_left e) as_it_is (run_tail fuel e) qs) final ps
    (settled new o)
contents_go ss e new o h = contents_close as_it_is ss e new o (settled new o).1 (omega arith)
    (record { same = λ fuel d le f y goes. goes.same fuel d le f; jumps = λ k. k }) h
