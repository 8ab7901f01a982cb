-- What lowering works on.
use Rattle.std.specs.Prelude.{Bool, false, ℕ, suc, ◌≤◌, max, List, [], ◌∷◌, length}
use Rattle.hir_store.specs.Stored.{Stored}
use Rattle.hir_store.specs.StoreSink.{empty}
use Rattle.hir_store.specs.declared.ids.LabelId.{LabelId}
use Rattle.hir_lower_scope.specs.ScopeRibs.{Rib, label_rib, try_rib, macro_rib, barrier_rib}
use Rattle.hir_lower_builder.specs.declared.generics.SideOutput.{SideOutput}
use Rattle.hir_lower_builder.specs.Generics.{no_side_output}

-- What is stored, what is open, innermost first, how many names were made up, whether a counter came to its end, whether a root is
-- being lowered, whether a kept `yield` stood in the body that is being lowered, so far, and in none inside of it, and what is noted
-- beside what is stored.
pub record Builder : Type 0 where
  pub stored : Stored
  pub scopes : List (Rib LabelId)
  pub names : ℕ
  pub counted_out : Bool
  pub in_root : Bool
  pub yields : Bool
  pub tracks : SideOutput

-- nothing is stored, no label is open, no name is made up, no counter is at its end, no root is being lowered, no `yield` stood there and
-- nothing is noted
abbrev pub new_builder : ℕ → Builder
new_builder limit = record {
  stored = empty limit;
  scopes = [];
  names = 0;
  counted_out = false;
  in_root = false;
  yields = false;
  tracks = no_side_output;
}

-- the least number above those of the labels
abbrev pub past_ribs : List (Rib LabelId) → ℕ
past_ribs [] = 0
past_ribs (label_rib name hygiene label ∷ rs) = max (suc label.0) (past_ribs rs)
past_ribs (try_rib label typed ∷ rs) = max (suc label.0) (past_ribs rs)
past_ribs (macro_rib d ∷ rs) = past_ribs rs
past_ribs (barrier_rib ∷ rs) = past_ribs rs

-- each open label exists
abbrev pub RibsOf : Stored → List (Rib LabelId) → Type 0
RibsOf s rs = past_ribs rs ≤ length s.labels.entries

abbrev pub RibsExist : Builder → Type 0
RibsExist b = RibsOf b.stored b.scopes
