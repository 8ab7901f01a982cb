-- Definitions of macros: no `yield` stands in one, and in what is behind one as many as before.
use Rattle.std.proofs.Common.{ℕ, suc, Bool, true, false, if◌then◌else◌, nat_lt, ◌^◌, ◌∷◌, Option, Some, Ok, Err}
use Rattle.hir_store.specs.declared.ids.MacroDefId.{MacroDefId}
use Rattle.hir_lower_scope.specs.ScopeRibs.{macro_rib}
use Rattle.hir_lower_scope.specs.Labels.{rest}
use Rattle.hir_lower_builder.specs.Builder.{Builder}
use Rattle.hir_env.specs.ResolvedTree as tree
use Rattle.hir_env.specs.ResolvedTree.{Stmt}
use Rattle.hir_lower_builder.specs.Calls.{behind, define_form, defined, inside_macro}
use Rattle.hir_lower_builder.specs.Lowering.{Checked, go_on, Lowering, pure, close, count_def, count_out, open_macro}
use Rattle.thm_logic.proofs.Definitions.{correct_define}
use Rattle.thm_logic.proofs.Yields.{Raises, RaisedTo, Still, raises_still, still_count_out, still_pure, still_then}

counted_still : (t : Bool) → Still {A = Unit {0}} (if t then pure tt else count_out)
counted_still true = still_pure tt
counted_still false = still_count_out

define_still : (k : ℕ) (d : Option MacroDefId) → Still (define_form k d)
unfolding define_form count_def
define_still k d = still_then (counted_still (nat_lt (suc k) (2 ^ 32))) (λ u. still_pure (Some (defined d)))

pub define_off : (k : ℕ) (d : Option MacroDefId) → Raises false (define_form k d)
define_off k d = raises_still (correct_define k d) (define_still k d)

inside_macro_raises : {A : Type 0} {y : Bool} (d : MacroDefId) {p : Lowering A} → Raises y p → Raises y (inside_macro d p)
unfolding inside_macro open_macro close
inside_macro_raises {A = A} {y = y} d {p = p} h = record {
  at = λ b paired. let c = record b { scopes = macro_rib d ∷ b.scopes } in go b (p c).0 (p c).1 (h.at c paired);
}
  where
    go : (b : Builder) (o : Checked A) (c : Builder) → RaisedTo y b o c
        → let r = go_on o c (λ a t. (Ok a, record t { scopes = rest t.scopes })) in RaisedTo y b r.0 r.1
    go b (Ok a) c x = x
    go b (Err e) c x = tt

pub behind_raises : {A : Type 0} {y : Bool} (s : Stmt) {p : Lowering A} → Raises y p → Raises y (behind s p)
behind_raises (tree.macro_stmt k (Some d)) h = inside_macro_raises d h
behind_raises s h = h
