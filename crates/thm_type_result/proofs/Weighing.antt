-- Steps by what their answers reach and hold, beside what is given out and what is asked: the bound of a predicate that is noted holds
-- expressions too.
use Rattle.std.proofs.Common.{◌≡◌, refl, ap, arith, ℕ, ◌+◌, ◌≤◌, length, List, []}
use Rattle.std.proofs.Common.{Option, Ok, Err}
use Rattle.hir_store.specs.Pointers.{Pointer}
use Rattle.hir_store.specs.Stored.{Stored}
use Rattle.hir_store.specs.declared.generics.WherePredicate.{WherePredicate}
use Rattle.hir_store.specs.declared.generics.WherePredicate.TheVariants as predicate
use Rattle.hir_store.specs.declared.hir.Expr.{Expr as HirExpr}
use Rattle.hir_store.specs.declared.ids.ExprId.{ExprId}
use Rattle.hir_store.specs.declared.ids.LabelId.{LabelId}
use Rattle.hir_store.specs.declared.ids.MacroDefId.{MacroDefId}
use Rattle.hir_store.specs.declared.ids.PatId.{PatId}
use Rattle.hir_store.specs.declared.pat.Pat.{Pat}
use Rattle.hir_store.specs.declared.type_ref.TypeRef.{TypeRef}
use Rattle.hir_store.proofs.Extending.{extends_refl}
use Rattle.hir_env.specs.ResolvedTree.{Label}
use Rattle.hir_lower_builder.specs.Builder.{Builder}
use Rattle.hir_lower_builder.specs.Calls.{inside_macro}
use Rattle.hir_lower_builder.specs.Lower.{ExprSteps, constant_form}
use Rattle.hir_lower_builder.specs.Lowering.{Checked, Lowering, ◌>>=◌, pure, owning, alloc_expr, alloc_desugared, alloc_desugared_pat}
use Rattle.hir_lower_builder.specs.Lowering.{alloc_pat}
use Rattle.hir_lower_builder.specs.Lowering.{alloc_type}
use Rattle.hir_lower_builder.specs.Lowering.{close, count_out, open_label}
use Rattle.hir_lower_builder.specs.Preludes.{alloc_beside}
use Rattle.hir_lower_builder.specs.Ranges.{inner_form}
use Rattle.spec_semantics.specs.Inner.{Inside, all_of, of_bound, of_type}
use Rattle.spec_data.specs.Tracking.{Tracking, none as nothing}
use Rattle.thm_generics.proofs.Logic.{SideOutput, TracksTo}
use Rattle.thm_generics.proofs.Preludes.{tracks_beside}
use Rattle.thm_generics.proofs.Steps as tracked
use Rattle.thm_logic.proofs.Steps.{mark, Correct as CorrectOf}
use Rattle.thm_type_result.proofs.Asked.{AnswersTo, Correct, Longer, correct_as, correct_bind, longer_of}
use Rattle.thm_type_result.proofs.Asked.{tracks_to, count_out_correct, corresponds_as, still_of}
use Rattle.thm_type_result.proofs.Counted.{less, less_grows}
use Rattle.thm_type_result.proofs.Meaning.{held_deep}
use Rattle.thm_type_result.proofs.Weighed as plain
use Rattle.thm_type_result.proofs.Weighed.{Cost, Deep, DeepView, View, a_constant, a_limit, a_pat, a_target, a_type, a_type_pat, an_expr}
use Rattle.thm_type_result.proofs.Weighed.{at_depth, beside, free, in_expr, in_pat, in_target, in_type_pat, sum, view}

-- what is asked

abbrev pub by_predicate : View → WherePredicate → List Inside
by_predicate v (predicate.TypeBound binder t b) = of_bound v.held b
by_predicate v (predicate.Lifetime x y) = []

-- looked into past all that is stored
abbrev pub whole : Stored → ℕ → ℕ → View
whole final all number = view final all number all (held_deep final) (length final.pats.entries)

abbrev pub asked : Stored → ℕ → ℕ → Builder → ℕ
asked final all number b =
    let v = whole final all number in sum v.weight (all_of (by_predicate v) b.tracks.generics.where_predicates)

-- Looked into so deep as was stored before, `was` costs no less than the answer does now, with what is asked, except for the number that
-- was given out.
pub record Earlier (was : Cost) (final : Stored) (b c : Builder) (all number now : ℕ) : Type 0 where
  pub reach : ℕ
  pub hold : ℕ
  pub place : ℕ
  pub deep : (mark b).nodes ≤ reach
  pub inside : (mark b).nodes + (mark b).entries ≤ hold
  pub placed : (mark b).pats ≤ place
  pub counted : now + (asked final all number c + less number (mark b).nodes)
      ≤ was (view final all number reach hold place) + (asked final all number b + less number (mark c).nodes)

-- what was deep enough later was so before
pub deep_before : {b c : Builder} {all : ℕ} (d : ℕ × ℕ × ℕ) → Longer b c → DeepView (mark c) all d → DeepView (mark b) all d
deep_before d g h = record {
  all_of = omega (arith, h.all_of, g.exprs);
  deep = omega (arith, h.deep, g.exprs);
  inside = omega (arith, h.inside, g.exprs, g.types, g.pats);
  placed = omega (arith, h.placed, g.pats);
}

pub record Adds {A : Type 0} (was : Cost) (now : A → Cost) (final : Stored) (b c : Builder) (a : A) : Type 0 where
  pub asks : (all number : ℕ) → asked final all number b ≤ asked final all number c
  pub earlier : (all number reach hold place : ℕ) → Deep (mark c) all reach hold place
      → Earlier was final b c all number (now a (view final all number reach hold place))

-- what a step that reached nothing gave out
pub came_of : {A : Type 0} {cost : A → Cost} {final : Stored} {b c : Builder} {a : A} → Adds free cost final b c a
    → (all number : ℕ) (d : ℕ × ℕ × ℕ) → DeepView (mark c) all d
    → cost a (at_depth final all number d) + (asked final all number c + less number (mark b).nodes)
    ≤ asked final all number b + less number (mark c).nodes
came_of row all number d h = let x = (row.earlier all number d.0 d.1 d.2 h).counted in omega (arith, x)

-- no further into it than into what is answered
pub still_deep : {was : Cost} {final : Stored} {b c : Builder} {all number now : ℕ} (reach hold place : ℕ) → Longer b c
    → Deep (mark c) all reach hold place → now + (asked final all number c + less number (mark b).nodes)
    ≤ was (view final all number reach hold place) + (asked final all number b + less number (mark c).nodes)
    → Earlier was final b c all number now
still_deep reach hold place g d counted = let x = deep_before (reach, hold, place) g d in record {
  reach = reach;
  hold = hold;
  place = place;
  deep = x.deep;
  inside = x.inside;
  placed = x.placed;
  counted = counted;
}

-- the logic

pub adds_pure : {A : Type 0} {was : Cost} {now : A → Cost} (a : A) → ((v : View) → now a v ≤ was v) → Correct (pure a) (Adds was now)
adds_pure a h = record {
  at = λ b d. record {
    paired = d;
    stays = extends_refl b.stored;
    in_final = λ final pre. record {
      asks = λ all number. omega arith;
      earlier = λ all number reach hold place d. record {
        reach = reach;
        hold = hold;
        place = place;
        deep = d.deep;
        inside = d.inside;
        placed = d.placed;
        counted = let e = h (view final all number reach hold place) in omega (arith, e);
      };
    };
  };
}

pub adds_then : {A B : Type 0} {was : Cost} {one : A → Cost} {now : B → Cost} {p : Lowering A} {q : A → Lowering B}
    → Correct p (Adds was one) → ((a : A) → Correct (q a) (Adds (one a) now)) → Correct (p >>= q) (Adds was now)
adds_then h k = correct_as (correct_bind h k) (λ final b e x g row. record {
  asks = λ all number. let u = row.first.asks all number in let w = row.second.asks all number in omega (arith, u, w);
  earlier = λ all number reach hold place d.
      let far = row.after.exprs in
      let y = row.second.earlier all number reach hold place d in
      let x = row.first.earlier all number y.reach y.hold y.place (record {
        all_of = omega (arith, d.all_of, far);
        deep = y.deep;
        inside = y.inside;
        placed = y.placed;
      }) in record {
        reach = x.reach;
        hold = x.hold;
        place = x.place;
        deep = x.deep;
        inside = x.inside;
        placed = x.placed;
        counted = let a = x.counted in let b = y.counted in omega (arith, a, b);
      };
})

-- beside what was reached
pub adds_beside : {A : Type 0} {now : A → Cost} {p : Lowering A} (more : Cost) → Correct p (Adds free now)
    → Correct p (Adds more (λ a. beside more (now a)))
adds_beside more h = correct_as h (λ final b c a g row. record {
  asks = row.asks;
  earlier = λ all number reach hold place d.
      let x = row.earlier all number reach hold place d in
      still_deep reach hold place g d (let e = x.counted in omega (arith, e));
})

-- An expression that is held and not run costs what it reaches by itself.
pub adds_aside : {A : Type 0} {was : Cost} {now held : A → Cost} {p : Lowering A}
    → ((a : A) (final : Stored) (all number reach hold place : ℕ)
    → held a (view final all number reach hold place) ≤ now a (view final all number all hold place))
    → Correct p (Adds was now) → Correct p (Adds was held)
adds_aside less_is h = correct_as h (λ final b c a g row. record {
  asks = row.asks;
  earlier = λ all number reach hold place d.
      let x = row.earlier all number all hold place (record {
        all_of = d.all_of;
        deep = d.all_of;
        inside = d.inside;
        placed = d.placed;
      }) in record {
        reach = x.reach;
        hold = x.hold;
        place = x.place;
        deep = x.deep;
        inside = x.inside;
        placed = x.placed;
        counted = let c = x.counted in let l = less_is a final all number reach hold place in omega (arith, c, l);
      };
})

-- of more
pub adds_from : {A : Type 0} {was was' : Cost} {now : A → Cost} {p : Lowering A} → ((v : View) → was v ≤ was' v)
    → Correct p (Adds was now) → Correct p (Adds was' now)
adds_from h q = correct_as q (λ final b c a g row. record {
  asks = row.asks;
  earlier = λ all number reach hold place d.
      let x = row.earlier all number reach hold place d in record {
        reach = x.reach;
        hold = x.hold;
        place = x.place;
        deep = x.deep;
        inside = x.inside;
        placed = x.placed;
        counted = let e = x.counted in let l = h (view final all number x.reach x.hold x.place) in omega (arith, e, l);
      };
})

-- steps that ask nothing

same_asked : (final : Stored) (all number : ℕ) (b c : Builder) → c.tracks.generics.where_predicates ≡ b.tracks.generics.where_predicates
    → asked final all number c ≡ asked final all number b
same_asked final all number b c e = let v = whole final all number in ap (λ ps. sum v.weight (all_of (by_predicate v) ps)) e

-- what is so of what is stored
corresponds : {A : Type 0} {was : Cost} {now : A → Cost} {p : Lowering A} → SideOutput nothing p → CorrectOf p (plain.Adds was now)
    → Correct p (Adds was now)
corresponds e h = corresponds_as (still_of e) h (λ final b c a same row. record {
  asks = λ all number. let q = same_asked final all number b c same in omega (arith, q);
  earlier = λ all number reach hold place d.
      let x = row.earlier all number reach hold place d in record {
        reach = x.reach;
        hold = x.hold;
        place = x.place;
        deep = x.deep;
        inside = x.inside;
        placed = x.placed;
        counted = let g = x.counted in let q = same_asked final all number b c same in omega (arith, g, q);
      };
})

-- what only notes names of lifetimes, if anything: what is answered isn't looked at
pub any_row : {A : Type 0} {was : Cost} {final : Stored} {b c : Builder} {a : A} → Longer b c
    → c.tracks.generics.where_predicates ≡ b.tracks.generics.where_predicates → Adds was (λ a. was) final b c a
any_row {final = final} {b = b} {c = c} g same = record {
  asks = λ all number. let q = same_asked final all number b c same in omega (arith, q);
  earlier = λ all number reach hold place d.
      let e = less_grows number (mark b).nodes (mark c).nodes g.exprs in
      let q = same_asked final all number b c same in
      still_deep reach hold place g d (omega (arith, e, q));
}

any_to : {A : Type 0} (was : Cost) (n : Tracking) → n.impls ≡ [] → (b : Builder) (o : Checked A) (c : Builder) → TracksTo n b o c
    → AnswersTo (Adds was (λ a. was)) b o c
any_to was n e b (Ok a) c g = record {
  paired = g.0;
  stays = g.1.stays;
  in_final = λ final pre. any_row (longer_of g.1.stays) (tracks_to n e b (Ok a) c g);
}
any_to was n e b (Err f) c g = tt

pub adds_tracking : {A : Type 0} {was : Cost} (n : Tracking) {p : Lowering A} → n.impls ≡ [] → SideOutput n p
    → Correct p (Adds was (λ a. was))
adds_tracking {was = was} n {p = p} e h = record { at = λ b d. any_to was n e b (p b).0 (p b).1 (h.at b d) }

pub adds_any : {A : Type 0} {was : Cost} {p : Lowering A} → SideOutput nothing p → Correct p (Adds was (λ a. was))
adds_any h = adds_tracking nothing refl h

-- whatever owns bindings
pub adds_owning : {A : Type 0} {was : Cost} {now : A → Cost} (owner : A → ExprId) {p : Lowering A} → Correct p (Adds was now)
    → Correct (owning owner p) (Adds was now)
unfolding owning
adds_owning owner h = adds_then (adds_any tracked.tracks_bindings_end) (λ start. adds_then h
    (λ a. adds_then (adds_any (tracked.tracks_own start (owner a))) (λ u. adds_pure a (λ v. omega arith))))

-- what is stored

pub adds_type : {was : Cost} (t : TypeRef) (source : Option Pointer) → ((v : View) → sum v.weight (of_type v.held t) ≤ was v)
    → Correct (alloc_type t source) (Adds was a_type)
adds_type t source h = corresponds (tracked.tracks_type t source) (plain.adds_type t source h)

pub adds_pat : {was : Cost} (p : Pat) (source : Option Pointer) → ((v : View) → in_pat p v ≤ was v)
    → Correct (alloc_pat p source) (Adds was a_pat)
adds_pat p source h = corresponds (tracked.tracks_pat p source) (plain.adds_pat p source h)

pub adds_pat_beside : {was : Cost} (p : Pat) (own : PatId) → ((v : View) → in_pat p v ≤ was v)
    → Correct (alloc_beside p own) (Adds was a_pat)
adds_pat_beside p own h = corresponds (tracks_beside p own) (plain.adds_pat_beside p own h)

pub adds_type_pat : {was : Cost} (p : Pat) (source : Option Pointer) → ((v : View) → in_type_pat p v ≤ was v)
    → Correct (alloc_pat p source) (Adds was a_type_pat)
adds_type_pat p source h = corresponds (tracked.tracks_pat p source) (plain.adds_type_pat p source h)

pub adds_made_target : {was : Cost} (p : Pat) (source : Option Pointer) → ((v : View) → in_target p v ≤ was v)
    → Correct (alloc_desugared_pat p source) (Adds was a_target)
adds_made_target p source h = corresponds (tracked.tracks_made_pat p source) (plain.adds_made_target p source h)

pub adds_expr_at : {was : Cost} (e : HirExpr) (source : Option Pointer)
    → ((final : Stored) (all number reach hold : ℕ)
    → in_expr e (view final all number reach hold (length final.pats.entries))
    ≤ was (view final all number reach hold (length final.pats.entries)))
    → Correct (alloc_expr e source) (Adds was an_expr)
adds_expr_at e source h = corresponds (tracked.tracks_expr e source) (plain.adds_expr_at e source h)

pub adds_made : {was : Cost} (e : HirExpr) (source : Option Pointer) → ((v : View) → in_expr e v ≤ was v)
    → Correct (alloc_desugared e source) (Adds was an_expr)
adds_made e source h = corresponds (tracked.tracks_made e source) (plain.adds_made e source h)

pub adds_expr : {was : Cost} (e : HirExpr) (source : Option Pointer) → ((v : View) → in_expr e v ≤ was v)
    → Correct (alloc_expr e source) (Adds was an_expr)
adds_expr e source h = corresponds (tracked.tracks_expr e source) (plain.adds_expr e source h)

-- what is open around steps

pub adds_opened : {A B : Type 0} (l : Label) {was : Cost} {one : A → Cost} {now : B → Cost}
    {p : LabelId → Lowering A} {f : LabelId → A → Lowering B}
    → ((n : LabelId) → Correct (p n) (Adds was one)) → ((n : LabelId) (a : A) → Correct (f n a) (Adds (one a) now))
    → Correct (open_label l >>= (λ n. p n >>= (λ a. close >>= (λ _. f n a)))) (Adds was now)
adds_opened l hp hf = adds_then (adds_any (tracked.tracks_open_label l))
    (λ n. adds_then (hp n) (λ a. adds_then (adds_any tracked.tracks_close) (λ u. hf n a)))

pub adds_defined : (d : MacroDefId) {A : Type 0} {was : Cost} {now : A → Cost} {p : Lowering A} → Correct p (Adds was now)
    → Correct (inside_macro d p) (Adds was now)
unfolding inside_macro
adds_defined d h = adds_then (adds_any (tracked.tracks_open_macro d)) (λ u. adds_then h
    (λ a. adds_then (adds_any tracked.tracks_close) (λ v. adds_pure a (λ w. omega arith))))

-- bodies inside

-- A body is held like the end of a range in a type.
pub body_aside : (e : ExprId) (final : Stored) (all number reach hold place : ℕ)
    → a_limit e (view final all number reach hold place) ≤ an_expr e (view final all number all hold place)
body_aside e final all number reach hold place = omega arith

-- a constant is inside, and so is what is inside of it
pub adds_constant : {p : ExprSteps} → Correct p (Adds free an_expr) → Correct (constant_form p) (Adds free a_constant)
unfolding constant_form
adds_constant h = adds_then (adds_any tracked.tracks_open_barrier) (λ outside. adds_then (adds_any tracked.tracks_enter_root)
    (λ outer. adds_then (adds_aside {held = a_limit} body_aside h)
    (λ i. adds_then (adds_any (tracked.tracks_close_barrier outside)) (λ y. adds_then (adds_any (tracked.tracks_leave_root outer i))
    (λ u. adds_pure _ (λ v. omega arith))))))

-- so is the end of a range
pub adds_limit : {p : ExprSteps} → Correct p (Adds free an_expr) → Correct (inner_form p) (Adds free a_limit)
unfolding inner_form
adds_limit h = adds_then (adds_any tracked.tracks_open_barrier) (λ outside. adds_then (adds_any tracked.tracks_enter_root)
    (λ outer. adds_then (adds_aside {held = a_limit} body_aside h)
    (λ i. adds_then (adds_any (tracked.tracks_close_barrier outside)) (λ y. adds_then (adds_any (tracked.tracks_leave_root outer i))
    (λ u. adds_pure i (λ v. omega arith))))))

-- refused at the end of a counter
pub adds_refused : {A : Type 0} {was : Cost} {now : A → Cost} → Correct (count_out {A = A}) (Adds was now)
adds_refused = count_out_correct
