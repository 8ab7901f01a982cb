-- Definitions of macros: how many stand before one is counted, and steps behind one are inside of it.
use Rattle.std.proofs.Common.{ℕ, suc, Bool, true, false, if◌then◌else◌, nat_lt, ◌^◌, List, ◌∷◌, Option, Some, Ok, Err, ap, ◌∙◌}
use Rattle.hir_store.specs.Stored.{Stored}
use Rattle.hir_store.specs.declared.ids.MacroDefId.{MacroDefId}
use Rattle.hir_lower_scope.specs.ScopeRibs.{macro_rib}
use Rattle.hir_lower_scope.specs.Labels.{rest}
use Rattle.hir_lower_builder.specs.Builder.{Builder}
use Rattle.hir_env.specs.ResolvedTree as tree
use Rattle.hir_env.specs.ResolvedTree.{Stmt}
use Rattle.hir_lower_builder.specs.Calls.{behind, define_form, defined, inside_macro}
use Rattle.hir_lower_builder.specs.Lowering.{Checked, go_on, Lowering, pure, close, count_def, count_out, open_macro}
use Rattle.thm_logic.proofs.Apart.{Apart, apart_of, apart_still}
use Rattle.thm_logic.proofs.Frames.{Frame, macro_at}
use Rattle.thm_logic.proofs.Logic.{Rel, Holds, Correct, IsPure, correct_bind, correct_as, correct_pure}
use Rattle.thm_logic.proofs.Steps.{correct_count_out}

-- inside of a definition

-- What is so there, where it is around. It is no number and nothing stored.
abbrev pub InMacro : {A : Type 0} → MacroDefId → Rel A → Rel A
InMacro d R = λ final ps m m' a. R final (macro_at d ∷ ps) m m' a

pub correct_inside_macro : {A : Type 0} {R : Rel A} (d : MacroDefId) {p : Lowering A} → Correct p R
    → Correct (inside_macro d p) (InMacro d R)
unfolding inside_macro open_macro close
correct_inside_macro {A = A} {R = R} d {p = p} h = record {
  holds = λ final ps b e. let c = opened b in
      go final ps b (p c).0 (p c).1 (h.holds final (macro_at d ∷ ps) c (ap (λ rs. macro_rib d ∷ rs) e));
}
  where
    opened : Builder → Builder
    opened b = record b { scopes = macro_rib d ∷ b.scopes }

    closed : Builder → Builder
    closed b = record b { scopes = rest b.scopes }

    go : (final : Stored) (ps : List Frame) (b : Builder) (o : Checked A) (c : Builder)
        → Holds R final (macro_at d ∷ ps) (opened b) o c
        → let r = go_on o c (λ a t. (Ok a, closed t)) in Holds (InMacro d R) final ps b r.0 r.1
    go final ps b (Ok a) c x = record {
      kept = record {
        scopes = ap rest x.kept.scopes;
        in_root = x.kept.in_root;
        roots = x.kept.roots;
        paired = x.kept.paired;
        mapped = x.kept.mapped;
        stays = x.kept.stays;
      };
      grows = x.grows;
      in_final = x.in_final;
    }
    go final ps b (Err e) c x = x

-- the definition

counted : (t : Bool) → Correct {A = Unit {0}} (if t then pure tt else count_out) (IsPure tt)
counted true = correct_pure tt
counted false = correct_count_out (IsPure tt)

pub correct_count_def : (k : ℕ) → Correct (count_def k) (IsPure tt)
unfolding count_def
correct_count_def k = counted (nat_lt (suc k) (2 ^ 32))

pub correct_define : (k : ℕ) (d : Option MacroDefId) → Correct (define_form k d) (IsPure (Some (defined d)))
unfolding define_form
correct_define k d = correct_as (correct_bind (correct_count_def k) (λ u. correct_pure (Some (defined d))))
    (λ final ps m m' o g row. record { is = row.second.is; still = row.second.still ∙ row.first.still })

-- made names

pub define_apart : (k : ℕ) (d : Option MacroDefId) → Correct (define_form k d) Apart
define_apart k d = correct_as (correct_define k d) (λ final ps m m' o g row. apart_still m m' row.still)

pub behind_apart : {A : Type 0} (s : Stmt) {p : Lowering A} → Correct p Apart → Correct (behind s p) Apart
behind_apart (tree.macro_stmt k (Some d)) h = correct_as (correct_inside_macro d h) (λ final ps m m' a g row. apart_of row)
behind_apart s h = h
