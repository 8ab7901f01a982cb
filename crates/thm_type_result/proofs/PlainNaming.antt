-- Steps that name no type and no pattern, by what they do to what is stored alone.
use Rattle.std.proofs.Common.{◌≡◌, ◌∙◌, refl, sym, ap, subst, ℕ, Bool, true, false, true≢false, if◌then◌else◌}
use Rattle.std.proofs.Common.{List, [], ◌∷◌, ◌++◌, map, Option, Some, None, is_some, arith}
use Rattle.std.proofs.lemmas.Option.{same_Some}
use Rattle.std.specs.Map.{lookup}
use Rattle.hir_binding.specs.declared.binding.BindingProblems.{BindingProblems}
use Rattle.hir_lower_scope.specs.Each.{Each}
use Rattle.thm_semantics.specs.Reached.{Between}
use Rattle.hir_store.specs.Pointers.{Pointer}
use Rattle.hir_store.specs.Stored.{Stored}
use Rattle.hir_store.specs.declared.diagnostics.AwaitLocation.{AwaitLocation}
use Rattle.hir_store.specs.declared.diagnostics.ExpressionStoreDiagnostics.{ExpressionStoreDiagnostics}
use Rattle.hir_store.specs.declared.ids.BindingId.{BindingId}
use Rattle.hir_store.specs.declared.ids.BlockId.{BlockId}
use Rattle.hir_store.specs.declared.ids.ExprId.{ExprId}
use Rattle.hir_store.specs.declared.ids.PatId.{PatId}
use Rattle.hir_store.specs.declared.ids.TypeRefId.{TypeRefId}
use Rattle.hir_store.specs.declared.pat.Binding.{Binding}
use Rattle.hir_env.specs.ResolvedTree.{Jump, Use}
use Rattle.hir_lower_scope.specs.ScopeRibs.{Rib, Target, reachable, unreachable, undeclared, target}
use Rattle.hir_lower_builder.specs.Lowering.{Lowering, alloc_binding, define, point, point_field, point_pat}
use Rattle.hir_lower_builder.specs.Lowering.{point_pat_field, point_target, point_type, set_problem}
use Rattle.hir_lower_builder.specs.Lowering.{report, report_await, enter_block, jump_target, made_number}
use Rattle.hir_lower_builder.specs.Lowering.{try_target}
use Rattle.hir_lower_builder.specs.Pats.{Key, Table, binding_of, key_of, new_binding, number_of, same_key}
use Rattle.hir_lower_builder.specs.Pats.{use_of_known, with_use}
use Rattle.thm_logic.specs.Calls.{Expansions}
use Rattle.thm_logic.proofs.Calls.{Only, correct_only, correct_point_pat, correct_point_target, correct_point_type}
use Rattle.thm_logic.proofs.Frames.{ribs}
use Rattle.thm_logic.proofs.MadeSteps.{correct_made_number, correct_try_target}
use Rattle.thm_logic.proofs.PatSteps.{PatWrites, correct_alloc_binding, correct_define, correct_point_pat_field, correct_set_problem}
use Rattle.thm_logic.proofs.Steps.{Correct, correct_as, correct_pure, correct_point, correct_point_field, correct_report}
use Rattle.thm_logic.proofs.Steps.{correct_report_await, correct_enter_block, correct_target}
use Rattle.thm_logic.proofs.Steps.{with_await, with_block, with_jump, with_target}
use Rattle.thm_type_result.proofs.Counted.{times}
use Rattle.thm_type_result.proofs.Adding.{Sort, the_types, the_pats, named, Quiet}
use Rattle.thm_type_result.proofs.Adding.{Adds, adds_still, Numbers, none, Steps, look}
use Rattle.thm_type_result.proofs.Adding.{each_wider}

pub quiet_report : (d : ExpressionStoreDiagnostics) → Correct (report d) Quiet
quiet_report d = correct_as (correct_report d)
    (λ final ps m m' u g row. adds_still g (ap (λ x. x.pats.entries) row.stored)
    (λ s d k. ap (λ x. named s final d x k) row.stored) (λ l k. omega arith))

pub quiet_point : (at : Pointer) (i : ExprId) → Correct (point at i) Quiet
quiet_point at i = correct_as (correct_point at i)
    (λ final ps m m' u g row. adds_still g (ap (λ x. x.pats.entries) row.stored)
    (λ s d k. ap (λ x. named s final d x k) row.stored) (λ l k. omega arith))

pub quiet_point_field : (i : ExprId) (at : Pointer) → Correct (point_field i at) Quiet
quiet_point_field i at = correct_as (correct_point_field i at)
    (λ final ps m m' u g row. adds_still g (ap (λ x. x.pats.entries) row.stored)
    (λ s d k. ap (λ x. named s final d x k) row.stored) (λ l k. omega arith))

-- no pattern comes

entered_pats : (n : Option BlockId) (x : Stored) → (with_block n x).pats.entries ≡ x.pats.entries
entered_pats None x = refl
entered_pats (Some n) x = refl

awaited_pats : (at : Pointer) (location : Option AwaitLocation) (x : Stored) → (with_await at location x).pats.entries ≡ x.pats.entries
awaited_pats at None x = refl
awaited_pats at (Some l) x = refl

targeted_pats : {A : Type 0} (j : Jump) (t : Target A) (x : Stored) → (with_target j t x).pats.entries ≡ x.pats.entries
targeted_pats j (reachable n) x = refl
targeted_pats j unreachable x = refl
targeted_pats j undeclared x = refl

jumped_pats : {A : Type 0} (j : Option Jump) (rs : List (Rib A)) (x : Stored) → (with_jump j rs x).pats.entries ≡ x.pats.entries
jumped_pats None rs x = refl
jumped_pats (Some j) rs x = targeted_pats j (target j rs) x

module _ (s : Sort) (final : Stored) (d k : ℕ) where
  -- how often it is named by what this holds
  abbrev in_all : Stored → ℕ
  in_all x = named s final d x k

  entered : (n : Option BlockId) (x : Stored) → in_all (with_block n x) ≡ in_all x
  entered None x = refl
  entered (Some n) x = refl

  awaited : (at : Pointer) (location : Option AwaitLocation) (x : Stored) → in_all (with_await at location x) ≡ in_all x
  awaited at None x = refl
  awaited at (Some l) x = refl

  targeted : {A : Type 0} (j : Jump) (t : Target A) (x : Stored) → in_all (with_target j t x) ≡ in_all x
  targeted j (reachable n) x = refl
  targeted j unreachable x = refl
  targeted j undeclared x = refl

  jumped : {A : Type 0} (j : Option Jump) (rs : List (Rib A)) (x : Stored) → in_all (with_jump j rs x) ≡ in_all x
  jumped None rs x = refl
  jumped (Some j) rs x = targeted j (target j rs) x

pub quiet_enter_block : (n : Option BlockId) → Correct (enter_block n) Quiet
quiet_enter_block n = correct_as (correct_enter_block n)
    (λ final ps m m' u g row. adds_still g (ap (λ x. x.pats.entries) row.stored ∙ entered_pats n m.stored)
    (λ s d k. ap (λ x. named s final d x k) row.stored ∙ entered s final d k n m.stored)
    (λ l k. omega arith))

pub quiet_report_await : (at : Pointer) (location : Option AwaitLocation) → Correct (report_await at location) Quiet
quiet_report_await at l = correct_as (correct_report_await at l)
    (λ final ps m m' u g row. adds_still g (ap (λ x. x.pats.entries) row.stored ∙ awaited_pats at l m.stored)
    (λ s d k. ap (λ x. named s final d x k) row.stored ∙ awaited s final d k at l m.stored)
    (λ l k. omega arith))

pub quiet_target : (j : Option Jump) → Correct (jump_target j) Quiet
quiet_target j = correct_as (correct_target j)
    (λ final ps m m' n g row. adds_still g (ap (λ x. x.pats.entries) row.stored ∙ jumped_pats j (ribs ps) m.stored)
    (λ s d k. ap (λ x. named s final d x k) row.stored ∙ jumped s final d k j (ribs ps) m.stored)
    (λ l k. omega arith))

-- what is written of patterns and bindings

pub quiet_writes : {p : Lowering (Unit {0})} {f : Stored → Stored} → Correct p (PatWrites f)
    → ((x : Stored) → (f x).pats.entries ≡ x.pats.entries)
    → ((s : Sort) (final : Stored) (d k : ℕ) (x : Stored) → named s final d (f x) k ≡ named s final d x k) → Correct p Quiet
quiet_writes h none still = correct_as h (λ final ps m m' u g row. adds_still g
    (ap (λ x. x.pats.entries) row.stored ∙ none m.stored)
    (λ s d k. ap (λ x. named s final d x k) row.stored ∙ still s final d k m.stored) (λ l k. omega arith))

-- steps that only tell
pub quiet_only : {es : Expansions} {ds : List ExpressionStoreDiagnostics} {p : Lowering (Unit {0})} → Only es ds p → Correct p Quiet
quiet_only h = quiet_writes (correct_only h) (λ x. refl) (λ s final d k x. refl)

-- the node of a call leads somewhere

pub quiet_point_pat : (at : Pointer) (i : PatId) → Correct (point_pat at i) Quiet
quiet_point_pat at i = quiet_writes (correct_point_pat at i) (λ x. refl) (λ s final d k x. refl)

-- a node that is assigned to
pub quiet_point_target : (at : Pointer) (i : PatId) → Correct (point_target at i) Quiet
quiet_point_target at i = quiet_writes (correct_point_target at i) (λ x. refl) (λ s final d k x. refl)

pub quiet_point_type : (at : Pointer) (i : TypeRefId) → Correct (point_type at i) Quiet
quiet_point_type at i = quiet_writes (correct_point_type at i) (λ x. refl) (λ s final d k x. refl)

pub quiet_point_pat_field : (i : PatId) (at : Pointer) → Correct (point_pat_field i at) Quiet
quiet_point_pat_field i at = quiet_writes (correct_point_pat_field i at) (λ x. refl) (λ s final d k x. refl)

pub quiet_problem : (b : BindingId) (problem : Option BindingProblems) → Correct (set_problem b problem) Quiet
quiet_problem b problem = quiet_writes (correct_set_problem b problem) (λ x. refl) (λ s final d k x. refl)

pub quiet_define : (b : BindingId) (i : PatId) → Correct (define b i) Quiet
quiet_define b i = quiet_writes (correct_define b i) (λ x. refl) (λ s final d k x. refl)

pub quiet_binding : (x : Binding) → Correct (alloc_binding x) Quiet
quiet_binding x = correct_as (correct_alloc_binding x)
    (λ final ps m m' u g row. adds_still g (ap (λ x. x.pats.entries) row.stored)
    (λ s d k. ap (λ x. named s final d x k) row.stored) (λ l k. omega arith))

-- names

-- the numbers of the bindings in a table
abbrev pub ids : Table → List ℕ
ids t = map (λ e. e.1.0) t.bindings

-- a binding that is found is in it
found_in : (P : ℕ → Type 0) (is : Key → Bool) (es : List (Key × BindingId)) (b : BindingId) → lookup is es ≡ Some b
    → Each P (map (λ e. e.1.0) es) → P b.0
found_in P is [] b e h = absurd (true≢false (sym (ap is_some e)))
found_in P is (x ∷ es) b e h = by (is x.0) e (found_in P is es b)
  where
    by : (t : Bool) → (if t then Some x.1 else lookup is es) ≡ Some b → (lookup is es ≡ Some b → Each P (map (λ e. e.1.0) es) → P b.0)
        → P b.0
    by true e later = subst (λ c. P c.0) (same_Some x.1 b e) h.0
    by false e later = later e h.1

pub pushed_in : (P : ℕ → Type 0) (es : List (Key × BindingId)) (x : Key × BindingId) → P x.1.0 → Each P (map (λ e. e.1.0) es)
    → Each P (map (λ e. e.1.0) (es ++ x ∷ []))
pushed_in P [] x p h = (p, tt)
pushed_in P (y ∷ es) x p h = (h.0, pushed_in P es x p h.1)

-- no binding is counted
no_bindings : (s : Sort) (final : Stored) (d k : ℕ) (b : BindingId) → times k ((look s final d).bindings b) ≡ 0
no_bindings the_types final d k b = refl
no_bindings the_pats final d k b = refl

-- the binding that is answered
abbrev pub a_binding : {A : Type 0} → BindingId × A → Numbers
a_binding r l = l.bindings r.0

pub known_name : (u : Use) (t : Table) (b : BindingId) → binding_of (key_of u) t ≡ Some b
    → Correct (use_of_known u t (Some b)) (Steps (ids t) none (λ r. ids r.1) a_binding)
known_name u t b is = correct_as (correct_pure (b, with_use (number_of (key_of u) t) u.mode t)) (λ final ps m m' r g row.
    rw (row.is, row.still) (record {
      bound = λ lo le x w. record {
        known = x;
        named = (found_in (Between lo m.bindings) (same_key (key_of u)) t.bindings b is x, tt);
        made = λ n p from to here. absurd (omega (arith, from, to));
      };
      grown = λ s d k. omega arith;
      earlier = λ s d all le le'. record { depth = d; deep = le; counted = λ k. let z = no_bindings s final d k b in omega arith };
    }))

pub new_name : (u : Use) (bs : List ℕ) → Correct (alloc_binding (new_binding u)) (Steps bs none (λ b. b.0 ∷ bs) (λ b l. l.bindings b))
new_name u bs = correct_as (correct_alloc_binding (new_binding u)) (λ final ps m m' b g row.
    let still : Quiet final ps m m' b = adds_still g (ap (λ x. x.pats.entries) row.stored)
    (λ s d k. ap (λ x. named s final d x k) row.stored) (λ l k. omega arith) in record {
      bound = λ lo le x w.
          let y = still.bound lo le tt tt in
          let here : Between lo m'.bindings b.0 = (omega (arith, le, row.number), omega (arith, row.number, row.next)) in
          record { known = (here, each_wider lo m.bindings m'.bindings bs g.bindings x); named = (here, tt); made = y.made };
      grown = still.grown;
      earlier = λ s d all le le'.
          let x = still.earlier s d all le le' in record {
            depth = x.depth;
            deep = x.deep;
            counted = λ k. let z = no_bindings s final d k b in let e = x.counted k in omega arith;
          };
    })

-- a binding that is made up
pub new_made_binding : (x : Binding) → Correct (alloc_binding x) (Adds none (λ b l. l.bindings b))
new_made_binding x = correct_as (correct_alloc_binding x) (λ final ps m m' b g row.
    let still : Quiet final ps m m' b = adds_still g (ap (λ x. x.pats.entries) row.stored)
    (λ s d k. ap (λ x. named s final d x k) row.stored) (λ l k. omega arith) in record {
      bound = λ lo le x w.
          let y = still.bound lo le tt tt in record {
            known = tt;
            named = ((omega (arith, le, row.number), omega (arith, row.number, row.next)), tt);
            made = y.made;
          };
      grown = still.grown;
      earlier = λ s d all le le'.
          let x = still.earlier s d all le le' in record {
            depth = x.depth;
            deep = x.deep;
            counted = λ k. let z = no_bindings s final d k b in let e = x.counted k in omega arith;
          };
    })

pub quiet_number : Correct made_number Quiet
quiet_number = correct_as correct_made_number (λ final ps m m' n g row. adds_still g (ap (λ x. x.pats.entries) row.stored)
    (λ s d k. ap (λ x. named s final d x k) row.stored) (λ l k. omega arith))

pub quiet_try_target : Correct try_target Quiet
quiet_try_target = correct_as correct_try_target
    (λ final ps m m' t g row. adds_still g (ap (λ x. x.stored.pats.entries) row.still)
    (λ s d k. ap (λ x. named s final d x.stored k) row.still) (λ l k. omega arith))
