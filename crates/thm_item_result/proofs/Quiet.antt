-- What the parts of an item store names types and patterns in one way, whatever of it is named by what they answer, and by what is asked.
use Rattle.std.proofs.Common.{◌≡◌, refl, ap, arith, ℕ, ◌+◌, ◌≤◌, nat_lt, length, Bool, true, false, List, [], Option, Some, None, Ok}
use Rattle.hir_store.specs.Stored.{Stored}
use Rattle.hir_store.specs.StoreSink.{Extends}
use Rattle.hir_store.specs.declared.generics.LifetimeParamData.{LifetimeParamData}
use Rattle.hir_store.specs.declared.generics.TypeOrConstParamData.{TypeOrConstParamData}
use Rattle.hir_store.specs.declared.type_ref.TypeRef.{TypeRef}
use Rattle.hir_store.proofs.Extending.{extends_refl}
use Rattle.hir_store.specs.Pointers.{Pointer}
use Rattle.hir_store.specs.declared.path.Path.{Path as HirPath}
use Rattle.hir_store.specs.declared.type_ref.TypeRef.TheVariants as type
use Rattle.hir_env.specs.ResolvedTree as tree
use Rattle.hir_lower_item.specs.Lower.{stored_trait}
use Rattle.hir_lower_builder.specs.declared.generics.SideOutput.{SideOutput}
use Rattle.hir_lower_builder.specs.Builder.{Builder}
use Rattle.hir_lower_builder.specs.Lowering.{Lowering, ◌>>=◌, add_lifetime_param, add_param, lifetime_counted, track_down, param_numbered}
use Rattle.hir_lower_builder.specs.Lowering.{count_out, pure, with_side_output}
use Rattle.thm_logic.specs.Keeps.{Paired}
use Rattle.thm_logic.proofs.Logic.{longer as no_shorter}
use Rattle.thm_logic.proofs.Steps.{mark}
use Rattle.thm_type_result.specs.Named.{Look, TypesSpread, of_expr, of_exprs, of_pat, of_pats, of_types_alone, of_pats_alone}
use Rattle.thm_type_result.specs.Pats.{PatsSpread, of_type, of_types, pats_reached}
use Rattle.thm_type_result.specs.Reached.{types_reached}
use Rattle.thm_type_result.proofs.Adding.{Numbers, Sort, known, look, named, none, the_pats, the_types}
use Rattle.thm_type_result.proofs.Asked.{Adds, Correct, adds_lifetime, adds_unnamed, after_lowering}
use Rattle.thm_type_result.proofs.Asked.{adds_pure, adds_then, adds_type, correct_as, correct_bind, longer}
use Rattle.thm_type_result.proofs.Counted.{counted_spread, less, times, times_append}
use Rattle.thm_type_result.proofs.Named.{none_held}
use Rattle.thm_type_result.proofs.Naming.{quiet_report}
use Rattle.thm_type_result.proofs.Numbers.{each_append}
use Rattle.thm_type_result.proofs.Owned.{lifetime_adds, maybe_path}
use Rattle.thm_type_result.proofs.TreeNamed.{bound_adds, constant_quiet, part_adds, path_adds}
use Rattle.thm_item_result.specs.Parts.{Part}
use Rattle.thm_item_result.specs.Items.{OfItems}
use Rattle.thm_item_result.proofs.Items.{items_read}
use Rattle.thm_item_result.proofs.Reading.{Patternless, Reading}

-- nothing that is held names more than what was given out
pub record Bare {A : Type 0} (final : Stored) (b c : Builder) (a : A) : Type 0 where
  pub counted : (s : Sort) (all k : ℕ) → known s (mark c) ≤ all
      → named s final all c.stored k + less k (known s (mark b)) ≤ named s final all b.stored k + less k (known s (mark c))

pub record QuietAll {A : Type 0} (xs : List Part) (p : Lowering A) : Type 0 where
  pub quiet : Correct p Bare

record QuietOne {A : Type 0} (x : Part) (p : Lowering A) : Type 0 where
  quiet : Correct p Bare

-- the logic

-- whatever the answer names
forgotten : {A : Type 0} {now : A → Numbers} {p : Lowering A} → Correct p (Adds none now) → Correct p Bare
forgotten h = correct_as h (λ final b c a g row. record {
  counted = λ s all k le.
      let x = row.earlier s all all le le in
      let e = x.counted k in
      let q = row.asks (look s final all) k in omega (arith, e, q);
})

bare_then : {A B : Type 0} {p : Lowering A} {q : A → Lowering B} → Correct p Bare → ((a : A) → Correct (q a) Bare) → Correct (p >>= q) Bare
bare_then h k = correct_as (correct_bind h k) (λ final b e x g row. record {
  counted = λ s all n le.
      let far = longer s row.after in
      let x = row.first.counted s all n (omega (arith, le, far)) in
      let y = row.second.counted s all n le in omega (arith, x, y);
})

-- nothing is stored
bare_still : {A : Type 0} (a : A) (f : SideOutput → SideOutput) → Correct (λ b. (Ok a, record b { tracks = f b.tracks })) Bare
bare_still a f = record {
  at = λ b d. record {
    paired = d;
    stays = extends_refl b.stored;
    in_final = λ final pre. record { counted = λ s all k le. omega arith };
  };
}

bare_pure : {A : Type 0} (a : A) → Correct (pure a) Bare
bare_pure a = bare_still a (λ n. n)

bare_track : (f : SideOutput → SideOutput) → Correct (track_down f) Bare
unfolding track_down
bare_track f = bare_still tt f

bare_with : {A : Type 0} {f : SideOutput → Lowering A} → ((n : SideOutput) → Correct (f n) Bare) → Correct (with_side_output f) Bare
unfolding with_side_output
bare_with h = record { at = λ b d. (h b.tracks).at b d }

refused : {A : Type 0} → Correct (count_out {A = A}) Bare
unfolding count_out
refused = record { at = λ b d. tt }

bare_param : (x : TypeOrConstParamData) → Correct (add_param x) Bare
unfolding add_param
bare_param x = bare_with (λ n. by (length n.generics.type_or_consts) (nat_lt (length n.generics.type_or_consts) 4294967295))
  where
    by : (k : ℕ) (room : Bool) → Correct (param_numbered x k room) Bare
    by k true = bare_then (bare_track _) (λ u. bare_pure k)
    by k false = refused

bare_lifetime_param : (x : LifetimeParamData) → Correct (add_lifetime_param x) Bare
unfolding add_lifetime_param
bare_lifetime_param x = bare_with (λ n. by (nat_lt (length n.generics.lifetimes) 4294967295))
  where
    by : (room : Bool) → Correct (lifetime_counted x room) Bare
    by true = bare_track _
    by false = refused

-- the parts of an item

-- the path of a trait names what is in it
stored_quiet : (at : Pointer) (p : Option HirPath) → Correct (stored_trait at p) (Adds (maybe_path p) (λ r. none))
stored_quiet at None = adds_pure None (λ l k. omega arith)
stored_quiet at (Some p) = adds_then (adds_type (type.Path p) (Some at) (λ l k. omega arith)) (λ id. adds_pure _ (λ l k. omega arith))

no_pattern : (t : TypeRef) → Patternless t → (l : Look) (k : ℕ) → times k (of_type l t) ≡ 0
no_pattern (type.Pattern t p) h l k = absurd h
no_pattern t h l k = refl

quiet : Reading
quiet = record {
  Claim = λ xs p. QuietAll xs p;
  One = λ x p. QuietOne x p;
  pure_is = λ a. record { quiet = bare_pure a };
  one_is = λ h k. record { quiet = bare_then h.quiet (λ a. (k a).quiet) };
  tracked_is = λ f h k. record { quiet = bare_then (bare_track f) (λ u. (k u).quiet) };
  type_is = λ t. record { quiet = forgotten (part_adds None (tree.some_type t)) };
  made_is = λ t shape h. record { quiet = forgotten (adds_unnamed {was = none} t None (no_pattern t h)) };
  bound_is = λ b. record { quiet = forgotten (bound_adds b) };
  trait_is = λ at p. record { quiet = forgotten (adds_then (path_adds p) (λ r. stored_quiet at r)) };
  constant_is = λ c. record { quiet = forgotten (constant_quiet c) };
  lifetime_is = λ l. record { quiet = forgotten (lifetime_adds {was = none} l) };
  made_lifetime_is = λ l. record { quiet = forgotten (adds_lifetime {was = none} l None) };
  fault_is = λ d. record { quiet = forgotten (quiet_report d) };
  param_is = λ x. record { quiet = bare_param x };
  lifetime_param_is = λ x. record { quiet = bare_lifetime_param x };
}

pub items_are_quiet : OfItems (λ A xs p. QuietAll xs p)
unfolding quiet
items_are_quiet def = items_read quiet def

-- what came is named in one way

module _ {A : Type 0} {p : Lowering A} (h : Correct p Bare) (b c : Builder) (a : A) (paired : Paired b.stored) (is : p b ≡ (Ok a, c))
    (final : Stored) (stays : Extends c.stored final) where
  pub types_apart : TypesSpread b.stored c.stored final (λ f. [])
  types_apart depth le more new more_pats new_pats =
      let r = after_lowering h b a c paired is final stays in
      let n = no_shorter stays.types.entries in
      let f = types_reached final.types.entries depth in
      let l = of_types_alone f in
      counted_spread _ _ _ (λ k.
      let g = r.counted the_types depth k (omega (arith, n, le)) in
      let e = each_append (of_expr l) b.stored.exprs.entries more k in
      let s = ap (λ xs. times k (of_exprs l xs)) new in
      let e' = each_append (of_pat l) b.stored.pats.entries more_pats k in
      let s' = ap (λ xs. times k (of_pats l xs)) new_pats in
      let z = none_held f b.stored.types.entries k in
      let z' = none_held f c.stored.types.entries k in
      let w = times_append k (of_exprs l more) (of_pats l more_pats) in omega (arith, g, e, s, e', s', z, z', w))

  pub pats_apart : PatsSpread b.stored c.stored final []
  pats_apart depth le es new ts new_types =
      let r = after_lowering h b a c paired is final stays in
      let n = no_shorter stays.pats.entries in
      let l = of_pats_alone (pats_reached final.pats.entries depth) in
      counted_spread _ _ _ (λ k.
      let g = r.counted the_pats depth k (omega (arith, n, le)) in
      let e = each_append (of_expr l) b.stored.exprs.entries es k in
      let s = ap (λ xs. times k (of_exprs l xs)) new in
      let e' = each_append (of_type l) b.stored.types.entries ts k in
      let s' = ap (λ xs. times k (of_types l xs)) new_types in
      let w = times_append k (of_exprs l es) (of_types l ts) in omega (arith, g, e, s, e', s', w))
