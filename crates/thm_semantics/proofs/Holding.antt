-- What an answer holds runs as these written bodies, in their order.
use Rattle.std.proofs.Common.{◌≡◌, ◌∙◌, sym, subst, ℕ, zero, suc, ◌+◌, ◌≤◌, List, [], ◌∷◌, ◌++◌, append-nil, append_assoc}
use Rattle.std.proofs.Common.{Option, arith}
use Rattle.hir_store.specs.Pointers.{Pointer}
use Rattle.hir_store.specs.Stored.{Stored, store_of, map_of}
use Rattle.hir_store.specs.declared.hir.Expr.{Expr as HirExpr}
use Rattle.hir_store.specs.declared.ids.ExprId.{ExprId}
use Rattle.hir_store.specs.declared.ids.PatId.{PatId}
use Rattle.hir_store.specs.declared.ids.TypeRefId.{TypeRefId}
use Rattle.hir_store.specs.declared.pat.Pat.{Pat as HirPat}
use Rattle.hir_store.specs.declared.type_ref.TypeRef.{TypeRef}
use Rattle.hir_lower_builder.specs.Lowering.{Lowering, ◌>>=◌, pure, owning, alloc_expr, alloc_pat, alloc_type}
use Rattle.spec_semantics.specs.Inner.{Bodies, Inners, Inside, inners, all_of, of_present, of_type, of_expr, of_pat, of_type_pat}
use Rattle.spec_semantics.specs.Same.{SameBodies}
use Rattle.thm_round_trip.proofs.Layers.{Pushed}
use Rattle.thm_logic.proofs.Frames.{Frame}
use Rattle.thm_logic.proofs.Owning.{owning_keeps}
use Rattle.thm_logic.proofs.PatSteps.{AllocatedPat, AllocatedPatBy, PutPat, correct_alloc_pat}
use Rattle.thm_logic.proofs.Steps.{Mark, Grows, Put, Rel, Correct, AllocatedBy, AllocatedType, correct_bind, correct_as, correct_pure}
use Rattle.thm_logic.proofs.Steps.{correct_alloc, correct_alloc_type}

-- these stored expressions, each as a body by itself, are the written ones
abbrev pub SameIn : Stored → List Inside → Bodies → Type 0
SameIn final is es = SameBodies (store_of final) (map_of final) is es

-- what is inside the parts of an entry, looked into so deep
abbrev pub inners_in : Stored → ℕ → Inners
inners_in final d = inners (store_of final) d

pub same_append : (final : Stored) (is js : List Inside) (es fs : Bodies)
    → SameIn final is es → SameIn final js fs → SameIn final (is ++ js) (es ++ fs)
same_append final [] js [] fs h k = k
same_append final [] js (e ∷ es) fs h k = absurd h
same_append final (i ∷ is) js [] fs h k = absurd h
same_append final (i ∷ is) js (e ∷ es) fs h k = (h.0, same_append final is js es fs h.1 k)

pub same_ids : (final : Stored) {is js : List Inside} (es : Bodies) → is ≡ js → SameIn final js es → SameIn final is es
same_ids final es e h = subst (λ is. SameIn final is es) (sym e) h

pub same_bodies : (final : Stored) (is : List Inside) {es fs : Bodies} → es ≡ fs → SameIn final is es → SameIn final is fs
same_bodies final is e h = subst (λ es. SameIn final is es) e h

-- the bodies that something holds, given those that the parts of entries hold
abbrev pub Ids : Type 0 → Type 0
Ids A = Inners → A → List Inside

abbrev pub an_expr : Ids ExprId
an_expr r i = r.expr i

abbrev pub a_type : Ids TypeRefId
a_type r t = r.type t

abbrev pub nothing : {A : Type 0} → Ids A
nothing r a = []

abbrev pub each : {A : Type 0} → Ids A → Ids (List A)
each f r = all_of (f r)

abbrev pub maybe : {A : Type 0} → Ids A → Ids (Option A)
maybe f r = of_present (f r)

-- However deep one looks, past all types, patterns and expressions that there were by then, what a holds runs as these bodies.
pub record Holds {A : Type 0} (ids : Ids A) (es : Bodies) (final : Stored) (ps : List Frame) (m m' : Mark) (a : A) : Type 0 where
  pub same : (d : ℕ) → m'.nodes + m'.entries ≤ d → SameIn final (ids (inners_in final d) a) es

-- values

pub holds_none : {A : Type 0} {ids : Ids A} (a : A) → ((r : Inners) → ids r a ≡ []) → Correct (pure a) (Holds ids [])
holds_none a e = correct_as (correct_pure a)
    (λ final ps m m' b g row. rw row.is (record { same = λ d le. same_ids final [] (e (inners_in final d)) tt }))

-- of one part
pub holds_one : {A B : Type 0} {f : Ids A} {k : Ids B} {es : Bodies} {p : Lowering A} (con : A → B)
    → ((r : Inners) (a : A) → k r (con a) ≡ f r a) → Correct p (Holds f es) → Correct (p >>= (λ a. pure (con a))) (Holds k es)
holds_one {es = es} con e h = correct_as (correct_bind h (λ a. correct_pure (con a)))
    (λ final ps m m' b g row. rw (row.second.is, row.second.still)
    (record { same = λ d le. same_ids final es (e (inners_in final d) row.one) (row.first.same d le) }))

-- of two parts
pub holds_two : {A B C : Type 0} {f : Ids A} {j : Ids B} {k : Ids C} {es fs : Bodies} {p : Lowering A} {q : Lowering B} (con : A → B → C)
    → ((r : Inners) (a : A) (b : B) → k r (con a b) ≡ f r a ++ j r b) → Correct p (Holds f es) → Correct q (Holds j fs)
    → Correct (p >>= (λ a. q >>= (λ b. pure (con a b)))) (Holds k (es ++ fs))
holds_two {f = f} {j = j} {es = es} {fs = fs} con e hp hq = correct_as
    (correct_bind hp (λ a. correct_bind hq (λ b. correct_pure (con a b))))
    (λ final ps m m' c g row. let s = row.second in rw (s.second.is, s.second.still) (record {
      same = λ d le. let r = inners_in final d in same_ids final (es ++ fs) (e r row.one s.one)
          (same_append final (f r row.one) (j r s.one) es fs
          (row.first.same d (omega (le, s.before.nodes, s.before.entries, arith))) (s.first.same d le));
    }))

-- steps before that hold nothing
pub holds_behind : {A B : Type 0} {R : Rel A} {k : Ids B} {es : Bodies} {p : Lowering A} {q : A → Lowering B}
    → Correct p R → ((a : A) → Correct (q a) (Holds k es)) → Correct (p >>= q) (Holds k es)
holds_behind h k = correct_as (correct_bind h k) (λ final ps m m' b g row. record { same = row.second.same })

-- steps behind that hold nothing
pub holds_before : {A B : Type 0} {R : A → Rel B} {k : Ids A} {es : Bodies} {p : Lowering A} {q : A → Lowering B}
    → Correct p (Holds k es) → ((a : A) → Correct (q a) (R a))
    → Correct (p >>= (λ a. q a >>= (λ b. pure a))) (Holds k es)
holds_before h k = correct_as (correct_bind h (λ a. correct_bind (k a) (λ b. correct_pure a)))
    (λ final ps m m' a g row. rw row.second.second.is (record {
      same = λ d le. row.first.same d (omega (le, row.after.nodes, row.after.entries, arith));
    }))

-- whatever owns the bindings
pub holds_owning : {A : Type 0} {ids : Ids A} {es : Bodies} (owner : A → ExprId) {p : Lowering A} → Correct p (Holds ids es)
    → Correct (owning owner p) (Holds ids es)
holds_owning owner h = owning_keeps owner (λ final ps m left start id a held. record { same = held.same }) h

-- lists that grow

pub none_held : {A : Type 0} (ids : Ids A) (done : List A) → Correct (pure done) (Pushed done (Holds (each ids) []))
none_held ids done = correct_as (correct_pure done)
    (λ final ps m m' r g row. record { new = []; is = row.is ∙ sym (append-nil done); rel = record { same = λ d le. tt } })

pub more_held : {A : Type 0} {ids : Ids A} {es fs : Bodies} {p : Lowering A} {q : List A → Lowering (List A)}
    → Correct p (Holds ids es) → ((done : List A) → Correct (q done) (Pushed done (Holds (each ids) fs)))
    → (done : List A) → Correct (p >>= (λ a. q (done ++ a ∷ []))) (Pushed done (Holds (each ids) (es ++ fs)))
more_held {ids = ids} {es = es} {fs = fs} h k done = correct_as (correct_bind h (λ a. k (done ++ a ∷ [])))
    (λ final ps m m' r g row. let s = row.second in record {
      new = row.one ∷ s.new;
      is = s.is ∙ append_assoc done (row.one ∷ []) s.new;
      rel = record {
        same = λ d le. let r = inners_in final d in same_append final (ids r row.one) (all_of (ids r) s.new) es fs
            (row.first.same d (omega (le, row.after.nodes, row.after.entries, arith))) (s.rel.same d le);
      };
    })

-- types

pub type_held : {t : TypeRef} {source : Option Pointer} {es : Bodies} {final : Stored} {ps qs : List Frame} {m n m' : Mark} {i : TypeRefId}
    → AllocatedType t source final qs m m' i
    → ((d : ℕ) → m.nodes + m.entries ≤ d → SameIn final (of_type (inners_in final d) t) es) → Holds a_type es final ps n m' i
unfolding inners
type_held {es = es} {final = final} {m' = m'} {i = i} at h = record { same = λ d le. at_depth d le }
  where
    at_depth : (d : ℕ) → m'.nodes + m'.entries ≤ d → SameIn final ((inners_in final d).type i) es
    at_depth zero le = absurd (omega (arith, le, at.entries))
    at_depth (suc d) le = rw (at.number, at.here) (h d (omega (arith, le, at.entries, at.nodes)))

pub type0 : (t : TypeRef) (source : Option Pointer) → ((r : Inners) → of_type r t ≡ []) → Correct (alloc_type t source) (Holds a_type [])
type0 t source e = correct_as (correct_alloc_type t source)
    (λ final ps m m' i g at. type_held at (λ d le. same_ids final [] (e (inners_in final d)) tt))

pub type1 : {A : Type 0} {f : Ids A} {es : Bodies} {p : Lowering A} (source : Option Pointer) (con : A → TypeRef)
    → ((r : Inners) (a : A) → of_type r (con a) ≡ f r a) → Correct p (Holds f es)
    → Correct (p >>= (λ a. alloc_type (con a) source)) (Holds a_type es)
type1 {es = es} source con e h = correct_as (correct_bind h (λ a. correct_alloc_type (con a) source))
    (λ final ps m m' i g row. type_held row.second (λ d le. same_ids final es (e (inners_in final d) row.one) (row.first.same d le)))

-- expressions

pub expr_held : {e : HirExpr} {source : Option Pointer} {es : Bodies} {final : Stored} {ps qs : List Frame} {m n m' : Mark} {i : ExprId}
    {put : Put} → AllocatedBy put e source final qs m m' i → Grows m m'
    → ((d : ℕ) → m.nodes + m.entries ≤ d → SameIn final (of_expr (inners_in final d) e) es) → Holds an_expr es final ps n m' i
unfolding inners
expr_held {es = es} {final = final} {m' = m'} {i = i} at g h = record { same = λ d le. at_depth d le }
  where
    at_depth : (d : ℕ) → m'.nodes + m'.entries ≤ d → SameIn final ((inners_in final d).expr i) es
    at_depth zero le = absurd (omega (arith, le, at.next))
    at_depth (suc d) le = rw (at.number, at.here) (h d (omega (arith, le, at.next, g.entries)))

pub expr0 : (e : HirExpr) (source : Option Pointer) → ((r : Inners) → of_expr r e ≡ []) → Correct (alloc_expr e source) (Holds an_expr [])
expr0 e source is = correct_as (correct_alloc e source)
    (λ final ps m m' i g at. expr_held at g (λ d le. same_ids final [] (is (inners_in final d)) tt))

pub expr1 : {A : Type 0} {f : Ids A} {es : Bodies} {p : Lowering A} (source : Option Pointer) (con : A → HirExpr)
    → ((r : Inners) (a : A) → of_expr r (con a) ≡ f r a) → Correct p (Holds f es)
    → Correct (p >>= (λ a. alloc_expr (con a) source)) (Holds an_expr es)
expr1 {es = es} source con is h = correct_as (correct_bind h (λ a. correct_alloc (con a) source))
    (λ final ps m m' i g row. expr_held row.second row.after
    (λ d le. same_ids final es (is (inners_in final d) row.one) (row.first.same d le)))

pub expr2 : {A B : Type 0} {f : Ids A} {k : Ids B} {es fs : Bodies} {p : Lowering A} {q : Lowering B} (source : Option Pointer)
    (con : A → B → HirExpr) → ((r : Inners) (a : A) (b : B) → of_expr r (con a b) ≡ f r a ++ k r b) → Correct p (Holds f es)
    → Correct q (Holds k fs) → Correct (p >>= (λ a. q >>= (λ b. alloc_expr (con a b) source))) (Holds an_expr (es ++ fs))
expr2 {f = f} {k = k} {es = es} {fs = fs} source con is hp hq = correct_as
    (correct_bind hp (λ a. correct_bind hq (λ b. correct_alloc (con a b) source)))
    (λ final ps m m' i g row. let s = row.second in expr_held s.second s.after (λ d le. let r = inners_in final d in
    same_ids final (es ++ fs) (is r row.one s.one) (same_append final (f r row.one) (k r s.one) es fs
    (row.first.same d (omega (le, s.before.nodes, s.before.entries, arith))) (s.first.same d le))))

-- patterns

abbrev pub a_pat : Ids PatId
a_pat r p = r.pat p

-- as one in a type
abbrev pub a_type_pat : Ids PatId
a_type_pat r p = r.type_pat p

pub pat_held : {put : PutPat} {p : HirPat} {source : Option Pointer} {es : Bodies} {final : Stored} {ps qs : List Frame} {m n m' : Mark}
    {i : PatId} → AllocatedPatBy put p source final qs m m' i
    → ((d : ℕ) → m.nodes + m.entries ≤ d → SameIn final (of_pat (inners_in final d) p) es) → Holds a_pat es final ps n m' i
unfolding inners
pat_held {es = es} {final = final} {m' = m'} {i = i} at h = record { same = λ d le. at_depth d le }
  where
    at_depth : (d : ℕ) → m'.nodes + m'.entries ≤ d → SameIn final ((inners_in final d).pat i) es
    at_depth zero le = absurd (omega (arith, le, at.entries))
    at_depth (suc d) le = rw (at.number, at.here) (h d (omega (arith, le, at.entries, at.nodes)))

pub type_pat_held : {p : HirPat} {source : Option Pointer} {es : Bodies} {final : Stored} {ps qs : List Frame} {m n m' : Mark}
    {i : PatId} → AllocatedPat p source final qs m m' i
    → ((d : ℕ) → m.nodes + m.entries ≤ d → SameIn final (of_type_pat (inners_in final d) p) es)
    → Holds a_type_pat es final ps n m' i
unfolding inners
type_pat_held {es = es} {final = final} {m' = m'} {i = i} at h = record { same = λ d le. at_depth d le }
  where
    at_depth : (d : ℕ) → m'.nodes + m'.entries ≤ d → SameIn final ((inners_in final d).type_pat i) es
    at_depth zero le = absurd (omega (arith, le, at.entries))
    at_depth (suc d) le = rw (at.number, at.here) (h d (omega (arith, le, at.entries, at.nodes)))

pub pat0 : (p : HirPat) (source : Option Pointer) → ((r : Inners) → of_pat r p ≡ []) → Correct (alloc_pat p source) (Holds a_pat [])
pat0 p source e = correct_as (correct_alloc_pat p source)
    (λ final ps m m' i g at. pat_held at (λ d le. same_ids final [] (e (inners_in final d)) tt))

pub pat1 : {A : Type 0} {f : Ids A} {es : Bodies} {p : Lowering A} (source : Option Pointer) (con : A → HirPat)
    → ((r : Inners) (a : A) → of_pat r (con a) ≡ f r a) → Correct p (Holds f es)
    → Correct (p >>= (λ a. alloc_pat (con a) source)) (Holds a_pat es)
pat1 {es = es} source con e h = correct_as (correct_bind h (λ a. correct_alloc_pat (con a) source))
    (λ final ps m m' i g row. pat_held row.second (λ d le. same_ids final es (e (inners_in final d) row.one) (row.first.same d le)))
