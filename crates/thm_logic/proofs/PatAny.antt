-- Steps of patterns and of ends of ranges of which nothing is claimed.
use Rattle.std.proofs.Common.{ℕ, Bool, Option, Some, None}
use Rattle.hir_store.specs.Pointers.{Pointer}
use Rattle.hir_store.specs.declared.ids.BindingId.{BindingId}
use Rattle.hir_store.specs.declared.ids.LangItemId.{LangItemId}
use Rattle.hir_store.specs.declared.name.Name.{Name}
use Rattle.hir_store.specs.declared.path.Path.{Path as HirPath}
use Rattle.hir_env.specs.ResolvedTree.{Signed, Use}
use Rattle.hir_lower_builder.specs.Forms.{ExprSteps}
use Rattle.hir_lower_builder.specs.Lowering.{Lowering}
use Rattle.hir_lower_builder.specs.Pats as forms
use Rattle.hir_lower_builder.specs.Pats.{Table}
use Rattle.hir_lower_builder.specs.Ranges as ranges
use Rattle.thm_logic.proofs.AsApart.{apart_graded, dots_apart, settle_apart}
use Rattle.thm_logic.proofs.GradedPats.{item_graded, literal_limit_graded, name_limit_graded}
use Rattle.thm_logic.proofs.PatSteps.{correct_alloc_binding}
use Rattle.thm_logic.proofs.Steps.{Correct, correct_alloc}
use Rattle.thm_logic.proofs.TypeAny.{Any, any, pure_any, then_any}

-- steps that hand a table on
abbrev Each : {A : Type 0} → (Table → Lowering A) → Type 0
Each p = (t : Table) → Correct (p t) Any

known_any : (u : Use) (t : Table) (b : Option BindingId) → Correct (forms.use_of_known u t b) Any
known_any u t (Some b) = pure_any _
known_any u t None = then_any (any (correct_alloc_binding _)) (λ b. pure_any _)

pub name_any : (u : Use) → Each (forms.use_name u)
unfolding forms.use_name
name_any u t = known_any u t (forms.binding_of (forms.key_of u) t)

pub settle_any : Each forms.settle
settle_any t = any (settle_apart t)

pub dots_any : (comma : Bool) (place : Option ℕ) → Correct (forms.counted_dots comma place) Any
dots_any comma place = any (dots_apart comma place)

-- ends of ranges in types

module _ (at : Pointer) where
  pub literal_limit_any : (s : Signed) → Correct (ranges.literal_limit_form at s) Any
  literal_limit_any s = any (literal_limit_graded apart_graded at s)

  pub name_limit_any : (n : Name) → Correct (ranges.name_limit_form at n) Any
  name_limit_any n = any (name_limit_graded apart_graded at n)

  pub path_limit_any : {q : Lowering (Option HirPath)} → Correct q Any → Correct (ranges.path_limit_form at q) Any
  unfolding ranges.path_limit_form
  path_limit_any h = then_any h (λ p. any (correct_alloc _ (Some at)))

pub item_any : (item : Option LangItemId) → Correct (ranges.item_form item) Any
item_any item = any (item_graded apart_graded item)

pub before_any : (item : Option LangItemId) {e : ExprSteps} → Correct e Any → Correct (ranges.before_form item e) Any
unfolding ranges.before_form
before_any item h = then_any h (λ e. then_any (any (correct_alloc _ None)) (λ f. any (correct_alloc _ None)))
