-- Steps by what they name where all is looked at so deep: what one of them leaves beside goes on to the next.
use Rattle.std.proofs.Common.{◌≡◌, refl, ap, arith, ℕ, ◌+◌, ◌≤◌, [], Option}
use Rattle.hir_lower_scope.specs.Each.{Each}
use Rattle.thm_semantics.specs.Reached.{Between}
use Rattle.hir_store.specs.Pointers.{Pointer}
use Rattle.hir_store.specs.Stored.{Stored}
use Rattle.hir_store.specs.declared.hir.Expr.{Expr as HirExpr}
use Rattle.hir_store.specs.declared.ids.ExprId.{ExprId}
use Rattle.hir_store.proofs.Extending.{extends_refl}
use Rattle.hir_lower_builder.specs.Builder.{Builder}
use Rattle.hir_lower_builder.specs.Lowering.{Lowering, ◌>>=◌, pure, alloc_expr, owning}
use Rattle.thm_generics.proofs.Steps.{tracks_expr}
use Rattle.thm_logic.proofs.Frames.{frames}
use Rattle.thm_logic.proofs.Steps.{mark}
use Rattle.thm_type_result.specs.Named.{Look, of_bindings_alone, of_expr}
use Rattle.thm_type_result.proofs.Counted.{less, times, times_append, ◌⊑◌}
use Rattle.thm_type_result.proofs.Adding as plain
use Rattle.thm_type_result.proofs.Adding.{Bound, Numbers, Sort, both, fewer, known, look, made_then, named, none, none_made, each_parts}
use Rattle.thm_type_result.proofs.Adding.{each_wider}
use Rattle.thm_type_result.proofs.Asked.{Adds, Correct, Quiet, Seq, asked, asked_by, correct_as, correct_bind, longer, owed, corresponds_as}
use Rattle.thm_type_result.proofs.Asked.{still_of}
use Rattle.thm_type_result.proofs.Naming.{quiet_bindings_end, quiet_own}
use Rattle.thm_type_result.proofs.Owned.{beside}
use Rattle.thm_type_result.specs.Reached.{of_each}

-- of what was named before nothing goes on

abbrev pub CountedAt : Sort → Numbers → Numbers → Stored → Builder → Builder → ℕ → ℕ → Type 0
CountedAt s was now final b c all k =
    times k (now (look s final all)) + (owed s final all k c + less k (known s (mark b)))
    ≤ times k (was (look s final all)) + (owed s final all k b + less k (known s (mark c)))

-- where all is looked at so deep, however deep it was stored
pub record AtOnce {A : Type 0} (was : Numbers) (now : A → Numbers) (final : Stored) (b c : Builder) (a : A) : Type 0 where
  pub bound : (lo : ℕ) → let m = mark b in let m' = mark c in lo ≤ m.bindings → Each (Between lo m.bindings) (was of_bindings_alone)
      → Bound lo final m m' [] (now a of_bindings_alone)
  pub grown : (s : Sort) (d k : ℕ) → named s final d b.stored k ≤ named s final d c.stored k
  pub asks : (l : Look) (k : ℕ) → times k (asked l b) ≤ times k (asked l c)
  pub counted : (s : Sort) (all k : ℕ) → known s (mark c) ≤ all → CountedAt s was (now a) final b c all k

-- beside what was named
pub at_once_more : {A : Type 0} {now : A → Numbers} {p : Lowering A} (more : Numbers) → Correct p (Adds none now)
    → Correct p (AtOnce more (λ a. beside more (now a)))
at_once_more {now = now} more h = correct_as h (λ final b c a g row. record {
  bound = λ lo le w.
      let x = row.bound lo le tt tt in record {
        known = tt;
        named = both (Between lo (mark c).bindings) (more of_bindings_alone) (now a of_bindings_alone)
            (each_wider lo (mark b).bindings (mark c).bindings (more of_bindings_alone) g.bindings w) x.named;
        made = x.made;
      };
  grown = row.grown;
  asks = row.asks;
  counted = λ s all k le.
      let x = row.earlier s all all le le in
      let e = x.counted k in
      let l = look s final all in
      let t = times_append k (more l) (now a l) in omega (arith, e, t);
})

-- beside nothing
pub at_once : {A : Type 0} {now : A → Numbers} {p : Lowering A} → Correct p (Adds none now) → Correct p (AtOnce none now)
at_once h = correct_as h (λ final b c a g row. record {
  bound = λ lo le w. row.bound lo le tt tt;
  grown = row.grown;
  asks = row.asks;
  counted = λ s all k le. let x = row.earlier s all all le le in x.counted k;
})

-- what was named stays where the answer names nothing
pub at_once_still : {A : Type 0} {was : Numbers} {p : Lowering A} → Correct p Quiet → Correct p (AtOnce was (λ a. was))
at_once_still {was = was} h = correct_as h (λ final b c a g row. record {
  bound = λ lo le w.
      let x = row.bound lo le tt tt in record {
        known = tt;
        named = each_wider lo (mark b).bindings (mark c).bindings (was of_bindings_alone) g.bindings w;
        made = x.made;
      };
  grown = row.grown;
  asks = row.asks;
  counted = λ s all k le. let x = row.earlier s all all le le in let e = x.counted k in omega (arith, e);
})

-- one after another

at_once_seq : {A B : Type 0} {was : Numbers} {one : A → Numbers} {now : B → Numbers} {final : Stored} {b e : Builder} {x : B}
    → Seq (AtOnce was one) (λ a. AtOnce (one a) now) final b e x → AtOnce was now final b e x
at_once_seq {final = final} {b = b} {e = e} row = record {
  bound = λ lo le w.
      let near = row.before.bindings in
      let x = row.first.bound lo le w in
      let y = row.second.bound lo (omega (arith, le, near)) x.named in record {
        known = tt;
        named = y.named;
        made = made_then lo final (mark b) (mark row.middle) (mark e) row.after.bindings x.made y.made;
      };
  grown = λ s d k. let x = row.first.grown s d k in let y = row.second.grown s d k in omega (arith, x, y);
  asks = λ l k. let x = row.first.asks l k in let y = row.second.asks l k in omega (arith, x, y);
  counted = λ s all k le.
      let far = longer s row.after in
      let x = row.first.counted s all k (omega (arith, le, far)) in
      let y = row.second.counted s all k le in omega (arith, x, y);
}

pub at_once_then : {A B : Type 0} {was : Numbers} {one : A → Numbers} {now : B → Numbers} {p : Lowering A} {q : A → Lowering B}
    → Correct p (AtOnce was one) → ((a : A) → Correct (q a) (AtOnce (one a) now)) → Correct (p >>= q) (AtOnce was now)
at_once_then h k = correct_as (correct_bind h k) (λ final b e x g row. at_once_seq row)

-- beside what else is named
pub at_once_beside : {A : Type 0} {was : Numbers} {now : A → Numbers} {p : Lowering A} (more : Numbers) → Correct p (AtOnce was now)
    → Correct p (AtOnce (beside more was) (λ a. beside more (now a)))
at_once_beside {was = was} {now = now} more h = correct_as h (λ final b c a g row. record {
  bound = λ lo le w.
      let split = each_parts (Between lo (mark b).bindings) (more of_bindings_alone) (was of_bindings_alone) w in
      let x = row.bound lo le split.1 in record {
        known = tt;
        named = both (Between lo (mark c).bindings) (more of_bindings_alone) (now a of_bindings_alone)
            (each_wider lo (mark b).bindings (mark c).bindings (more of_bindings_alone) g.bindings split.0) x.named;
        made = x.made;
      };
  grown = row.grown;
  asks = row.asks;
  counted = λ s all k le.
      let e = row.counted s all k le in
      let l = look s final all in
      let t = times_append k (more l) (now a l) in
      let u = times_append k (more l) (was l) in omega (arith, e, t, u);
})

-- of more
pub at_once_from : {A : Type 0} {was was' : Numbers} {now : A → Numbers} {p : Lowering A} → ((l : Look) → was l ⊑ was' l)
    → Correct p (AtOnce was now) → Correct p (AtOnce was' now)
at_once_from {was = was} {was' = was'} h q = correct_as q (λ final b c a g row. record {
  bound = λ lo le w.
      row.bound lo le (fewer lo (mark b).bindings (was of_bindings_alone) (was' of_bindings_alone) (h of_bindings_alone) w);
  grown = row.grown;
  asks = row.asks;
  counted = λ s all k le. let e = row.counted s all k le in let l = h (look s final all) k in omega (arith, e, l);
})

-- steps

pub at_once_pure : {A : Type 0} {was : Numbers} {now : A → Numbers} (a : A) → ((l : Look) → now a l ⊑ was l)
    → Correct (pure a) (AtOnce was now)
at_once_pure {was = was} {now = now} a h = record {
  at = λ b d. record {
    paired = d;
    stays = extends_refl b.stored;
    in_final = λ final pre. record {
      bound = λ lo le w. record {
        known = tt;
        named = fewer lo (mark b).bindings (now a of_bindings_alone) (was of_bindings_alone) (h of_bindings_alone) w;
        made = none_made lo final (mark b) (mark b) refl;
      };
      grown = λ s d k. omega arith;
      asks = λ l k. omega arith;
      counted = λ s all k le. let e = h (look s final all) k in omega (arith, e);
    };
  };
}

-- what is so of what is stored
at_once_of : {A : Type 0} {was : Numbers} {now : A → Numbers} {final : Stored} {b c : Builder} {a : A}
    → c.tracks.generics.where_predicates ≡ b.tracks.generics.where_predicates
    → plain.AtOnce was now final (frames b.scopes) (mark b) (mark c) a → AtOnce was now final b c a
at_once_of {final = final} e row = record {
  bound = λ lo le w. row.bound lo le w;
  grown = row.grown;
  asks = λ l k. let q = ap (λ ps. times k (of_each (asked_by l) ps)) e in omega (arith, q);
  counted = λ s all k le.
      let g = row.counted s all k le in
      let q = ap (λ ps. times k (of_each (asked_by (look s final all)) ps)) e in omega (arith, g, q);
}

pub at_once_expr : {was : Numbers} (e : HirExpr) (at : Option Pointer) → ((l : Look) → of_expr l e ⊑ was l)
    → Correct (alloc_expr e at) (AtOnce was (λ i. none))
at_once_expr e at h =
    corresponds_as (still_of (tracks_expr e at)) (plain.expr_is_at_once e at h) (λ final b c a same row. at_once_of same row)

-- nothing is left
pub quiet_at_once : {A : Type 0} {p : Lowering A} → Correct p (AtOnce none (λ a. none)) → Correct p Quiet
quiet_at_once h = correct_as h (λ final b c a g row. record {
  bound = λ lo le t w. row.bound lo le w;
  grown = row.grown;
  asks = row.asks;
  earlier = λ s d all le le'. let far = longer s g in record {
    depth = all;
    deep = omega (arith, le', far);
    counted = λ k. row.counted s all k le';
  };
})

-- whatever owns bindings
pub at_once_owning : {A : Type 0} {was : Numbers} {now : A → Numbers} (owner : A → ExprId) {p : Lowering A}
    → Correct p (AtOnce was now) → Correct (owning owner p) (AtOnce was now)
unfolding owning
at_once_owning owner h = at_once_then (at_once_still quiet_bindings_end) (λ start. at_once_then h
    (λ a. at_once_then (at_once_still (quiet_own start (owner a))) (λ u. at_once_pure a (λ l k. omega arith))))
