-- `let`s that hand in a parameter of a coroutine run as they are written, where a made name stands for its argument.
use Rattle.std.proofs.Common.{◌≡◌, ◌∙◌, refl, sym, ℕ, zero, suc, ◌≤◌, Bool, List, [], ◌∷◌, ◌++◌, arith}
use Rattle.std.proofs.Common.{Option, Some, None, option_map}
use Rattle.hir_store.specs.Names.{IsWritten}
use Rattle.hir_store.specs.Pointers.{Pointer}
use Rattle.hir_store.specs.Stored.{Stored, store_of, map_of}
use Rattle.hir_store.specs.declared.hir.Expr.{Expr}
use Rattle.hir_store.specs.declared.hir.Statement.{Statement}
use Rattle.hir_store.specs.declared.ids.ExprId.{ExprId}
use Rattle.hir_store.specs.declared.ids.HygieneId.{HygieneId}
use Rattle.hir_store.specs.declared.ids.LabelId.{LabelId}
use Rattle.hir_store.specs.declared.ids.PatId.{PatId}
use Rattle.hir_store.specs.declared.name.Name.{Name}
use Rattle.hir_store.specs.declared.name.Name.TheVariants as name
use Rattle.hir_env.specs.Answering.{site_of}
use Rattle.spec_data.specs.Data.{PatData, no_type}
use Rattle.spec_data.specs.GeneratedNames.{generated_name}
use Rattle.spec_data.specs.Reading.{stored_option_type, stored_path}
use Rattle.spec_data.proofs.GeneratedNames.{Unmade}
use Rattle.hir_lower_builder.specs.declared.preludes.Handed.{Handed}
use Rattle.hir_lower_builder.specs.Preludes.{let_from, name_path}
use Rattle.spec_semantics.specs.Inner.{all_of, inners, of_statement}
use Rattle.spec_semantics.specs.Jumps.{EachStatement, EnclosedTo}
use Rattle.spec_semantics.specs.Prelude.{binds_alone, reads_name}
use Rattle.spec_semantics.specs.Run.{Value, World, argument, binds, event, temps, ends_temps, pure, ◌>>=◌}
use Rattle.spec_semantics.specs.Store.{RunTable, StoreRun, bound_to, looks_up, number_made, run_statements, run_to}
use Rattle.spec_semantics.specs.Syntax.{SyntaxRun}
use Rattle.thm_logic.proofs.Frames.{Frame}
use Rattle.thm_logic.proofs.Preludes.{HandedBind, NameRead}
use Rattle.thm_logic.proofs.Steps.{AllocatedBy, Mark, Put}
use Rattle.thm_semantics.proofs.Arguments.{ArgumentIn}
use Rattle.thm_semantics.proofs.Forms.{looks_unmade}
use Rattle.thm_semantics.proofs.From.{SameFrom, alone_then, first_row, first_same, from_let, from_named, from_silent, from_temps}
use Rattle.thm_semantics.proofs.From.{from_written, grouped}
use Rattle.thm_semantics.proofs.Holding.{inners_in}
use Rattle.thm_semantics.proofs.Patterned.{pat_in}
use Rattle.thm_semantics.proofs.Relation.{SameWhere, same_bind}
use Rattle.thm_semantics.proofs.Rows.{stored_pure, stored_row}
use Rattle.thm_semantics.proofs.Senses.{enclosed_at, node_in, run_in}
use Rattle.thm_semantics.proofs.Unmade.{binds_same, made_whole}

-- names that are read

-- what runs at the number of a node
pub node_runs : {put : Put} {e : Expr} {source : Option Pointer} {final : Stored} {ps : List Frame} {m m' : Mark} {i : ExprId}
    → AllocatedBy put e source final ps m m' i → (fuel : ℕ) (P : StoreRun Value → Type 0)
    → ((d : ℕ) → m.nodes ≤ d → P (node_in final d fuel e (option_map site_of source))) → (d : ℕ) → m'.nodes ≤ d
    → P (run_in final d fuel i)
unfolding run_to
node_runs at fuel P h zero le = absurd (omega (arith, at.next))
node_runs at fuel P h (suc d) le = rw (at.number, at.here, at.from) (h d (omega (arith, le, at.next)))

pub number_written : (n : Name) → IsWritten n → number_made n ≡ None
number_written (name.Text t) w = refl
number_written name.Missing w = refl
number_written (name.Generated k) w = absurd w

path_number : (final : Stored) (n : Name) → generated_name (stored_path (store_of final) (map_of final) (name_path n)) ≡ number_made n
unfolding stored_path
path_number final (name.Text t) = refl
path_number final name.Missing = refl
path_number final (name.Generated k) = refl

module _ {final : Stored} {ps : List Frame} {m m' : Mark} {e : ExprId} (n : Name) (h : HygieneId) (read : NameRead n h final ps m m' e)
    (fuel d : ℕ) (le : m'.nodes ≤ d) where
  -- a written one at no node
  pub name_read : {names : ℕ} {qs : List Frame} → number_made n ≡ None → SameWhere names qs (run_in final d fuel e) (reads_name n h)
  unfolding stored_path
  name_read {names = names} {qs = qs} written = node_runs read fuel (λ m. SameWhere names qs m (reads_name n h))
      (λ k ge. looks_unmade _ (path_number final n ∙ written) _ h None) d le

  -- a made one silently
  pub name_looked : (k : ℕ) → number_made n ≡ Some k → run_in final d fuel e ≡ looks_up k
  name_looked k made = node_runs read fuel (λ m. m ≡ looks_up k)
      (λ j ge. rw (path_number final n ∙ made) refl) d le

module _ {final : Stored} {ps : List Frame} {m m' : Mark} {e : ExprId} {n : Name} {h : HygieneId}
    (read : NameRead n h final ps m m' e) where
  -- nothing jumps
  pub name_jumps : (ls : List LabelId) (d : ℕ) → m'.nodes ≤ d → EnclosedTo (store_of final) d ls e
  name_jumps ls d le = enclosed_at read ls (λ d le. tt) d le

  -- and nothing is inside
  pub name_holds : (d : ℕ) → (inners_in final d).expr e ≡ []
  unfolding inners
  name_holds zero = refl
  name_holds (suc d) = rw (read.number, read.here) refl

-- what binds a name that is handed in

module _ {x : Handed} {final : Stored} {ps : List Frame} {m m' : Mark} {p : PatId} (row : HandedBind x final ps m m' p) where
  pub handed_made : made_whole final p ≡ number_made x.name
  handed_made = rw (row.number, row.here, row.is, row.bound) refl

  pub handed_holds : (d : ℕ) → (inners_in final d).pat p ≡ []
  unfolding inners
  handed_holds zero = refl
  handed_holds (suc d) = rw (row.number, row.here) refl

-- `let`s

-- a `let` of a pattern that is written
pub binds_it : {names : ℕ} {ps : List Frame} (final : Stored) (p : PatId) (x : PatData) → pat_in final p ≡ x → Unmade x → (vs : List Value)
    → SameWhere names ps (bound_to (store_of final) (map_of final) p None vs) (binds x no_type vs)
unfolding stored_option_type
binds_it final p x is u vs = binds_same final p None x no_type is refl u vs

-- the run of statements and a tail, looked into so deep
abbrev pub run_lets : Stored → ℕ → ℕ → List Statement → Option ExprId → StoreRun Value
run_lets final fuel d ss tail = run_statements (store_of final) (map_of final) fuel (run_in final d fuel) ss tail

-- what a read name is bound to, and with the end of the statement
abbrev read_bound : Name → HygieneId → PatData → SyntaxRun Bool
read_bound n h x = reads_name n h >>= (λ v. binds x no_type (v ∷ []))

abbrev pub read_as : Name → HygieneId → PatData → SyntaxRun Bool
read_as n h x = reads_name n h >>= (λ v. binds_alone x (v ∷ []))

-- however they are grouped
read_rows : {A : Type 0} (n : Name) (h : HygieneId) (x : PatData) (s : SyntaxRun A) (w : World (Unit {0}))
    → (read_bound n h x >>= (λ holds. ends_temps s)) w ≡ (read_as n h x >>= (λ u. s)) w
read_rows n h x s w = alone_then (read_bound n h x) s w
    ∙ first_same (λ u. s) (grouped (reads_name n h) (λ v. binds x no_type (v ∷ [])) (λ fits. ends_temps (pure fits))) w

made_rows : {A : Type 0} (x : PatData) (v : Value) (s : SyntaxRun A) (w : World (Unit {0}))
    → ends_temps (binds x no_type (v ∷ []) >>= (λ holds. ends_temps s)) w ≡ (ends_temps (binds_alone x (v ∷ [])) >>= (λ u. s)) w
made_rows x v s w = first_row (alone_then (binds x no_type (v ∷ [])) s) w
    ∙ sym (grouped (event temps [] None) (λ a. binds_alone x (v ∷ [])) (λ u. s) w)

module _ {final : Stored} {table : RunTable} {fs : List Frame} (fuel d : ℕ) (more : List Statement) (tail : Option ExprId)
    {s : SyntaxRun Value} (behind : SameFrom table fs (run_lets final fuel d more tail) s) where
  -- of a written name
  pub let_runs : {ps : List Frame} {m m' : Mark} {e : ExprId} {n : Name} {h : HygieneId} (p : PatId) (x : PatData)
      → NameRead n h final ps m m' e → m'.nodes ≤ d → number_made n ≡ None → pat_in final p ≡ x → Unmade x
      → SameFrom table fs (run_lets final fuel d (let_from p e ∷ more) tail) (read_as n h x >>= (λ u. s))
  let_runs {e = e} {n = n} {h = h} p x read le written is u = from_written (read_rows n h x s)
      (from_let (from_temps behind) (run_in final d fuel e)
      (λ vs. bound_to (store_of final) (map_of final) p None vs) (λ names. stored_row _ _ _
      (same_bind (name_read n h read fuel d le written) (λ v. stored_pure _ (binds_it final p x is u (v ∷ []))))))

  -- of a made one, which stands for the argument of this number, with itself, and then of the pattern
  pub made_lets_run : {ps : List Frame} {a a' b b' : Mark} {e f : ExprId} {h : HygieneId} (k i : ℕ) (p q : PatId) (x : PatData)
      → NameRead (name.Generated k) h final ps a a' e → NameRead (name.Generated k) h final ps b b' f → a'.nodes ≤ d → b'.nodes ≤ d
      → made_whole final q ≡ Some k → table k ≡ Some (argument i) → pat_in final p ≡ x → Unmade x
      → SameFrom table fs (run_lets final fuel d (let_from q e ∷ let_from p f ∷ more) tail)
      (ends_temps (binds_alone x (argument i ∷ [])) >>= (λ u. s))
  unfolding stored_option_type
  made_lets_run {h = h} k i p q x read again le le' made known is u = from_written (made_rows x (argument i) s) (from_silent
      (from_temps (from_named (from_temps behind) k (argument i) (λ vs. bound_to (store_of final) (map_of final) p None vs)
      (name_looked (name.Generated k) h again fuel d le' k refl) known
      (λ names. binds_it final p x is u (argument i ∷ []))))
      k (argument i) (made_whole final q) (pat_in final q) (name_looked (name.Generated k) h read fuel d le k refl) made known)

-- however they are grouped
two_rows : {A B C : Type 0} (r : SyntaxRun A) (b c : A → SyntaxRun B) (s : SyntaxRun C) (w : World (Unit {0}))
    → ((r >>= b) >>= (λ u. (r >>= c) >>= (λ u. s))) w ≡ ((r >>= (λ v. b v >>= (λ u. r >>= c))) >>= (λ u. s)) w
two_rows r b c s w = sym (first_same (λ u. s) (λ w. sym (grouped r b (λ u. r >>= c) w)) w
    ∙ grouped (r >>= b) (λ u. r >>= c) (λ u. s) w)

-- of a written name, with which the pattern between is bound, and then of the pattern
pub lets_run : {final : Stored} {table : RunTable} {fs : List Frame} (fuel d : ℕ) (more : List Statement) (tail : Option ExprId)
    {s : SyntaxRun Value} {ps : List Frame} {a a' b b' : Mark} {e f : ExprId} {n : Name} {h : HygieneId} (p q : PatId) (x y : PatData)
    → SameFrom table fs (run_lets final fuel d more tail) s → NameRead n h final ps a a' e → NameRead n h final ps b b' f
    → a'.nodes ≤ d → b'.nodes ≤ d → number_made n ≡ None → pat_in final q ≡ y → Unmade y → pat_in final p ≡ x → Unmade x
    → SameFrom table fs (run_lets final fuel d (let_from q e ∷ let_from p f ∷ more) tail)
    ((reads_name n h >>= (λ v. binds_alone y (v ∷ []) >>= (λ u. read_as n h x))) >>= (λ u. s))
lets_run fuel d more tail {s = s} {f = f} {n = n} {h = h} p q x y behind read again le le' written between v is u =
    from_written (two_rows (reads_name n h) (λ v. binds_alone y (v ∷ [])) (λ v. binds_alone x (v ∷ [])) s)
    (let_runs fuel d (let_from p f ∷ more) tail (let_runs fuel d more tail behind p x again le' written is u) q y read le written
    between v)

-- what `let`s of one parameter do

-- As the i-th one they do x i: from each table in which the made name stands for that argument, and in front of all that is done then.
-- They jump nowhere, and what is inside is inside the pattern.
pub record DoesLets (p : PatId) (final : Stored) (nodes : ℕ) (made : Option ℕ) (ss : List Statement) (x : ℕ → SyntaxRun Bool) : Type 0 where
  pub runs : (fuel d : ℕ) → nodes ≤ d → {table : RunTable} {fs : List Frame} (i : ℕ) → ArgumentIn table i made → (more : List Statement)
      (tail : Option ExprId) (s : SyntaxRun Value) → SameFrom table fs (run_lets final fuel d more tail) s
      → SameFrom table fs (run_lets final fuel d (ss ++ more) tail) (x i >>= (λ u. s))
  pub jumps : (ls : List LabelId) (d : ℕ) → nodes ≤ d → (more : List Statement) → EachStatement (EnclosedTo (store_of final) d ls) more
      → EachStatement (EnclosedTo (store_of final) d ls) (ss ++ more)
  pub holds : (d : ℕ) → all_of (of_statement (inners_in final d)) ss ≡ (inners_in final d).pat p
