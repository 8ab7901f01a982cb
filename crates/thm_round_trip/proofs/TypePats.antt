-- What is stored for patterns that bind no names reads back: those of types, and the assignee expression.
use Rattle.std.proofs.Common.{◌≡◌, ◌∙◌, refl, ap, ℕ, ◌≤◌, Option, Some, None, List, [], ◌∷◌, ◌++◌, arith}
use Rattle.hir_base.specs.declared.op.RangeOp.TheVariants.{Inclusive}
use Rattle.hir_store.specs.Pointers.{Pointer}
use Rattle.hir_store.specs.Stored.{Stored, store_of, map_of}
use Rattle.hir_store.specs.declared.hir.Expr.{Expr as HirExpr}
use Rattle.hir_store.specs.declared.hir.Expr.TheVariants as hir
use Rattle.hir_store.specs.declared.ids.ExprId.{ExprId}
use Rattle.hir_store.specs.declared.ids.LangItemId.{LangItemId}
use Rattle.hir_store.specs.declared.ids.PatId.{PatId}
use Rattle.hir_store.specs.declared.ids.TypeRefId.{TypeRefId}
use Rattle.hir_store.specs.declared.name.Name.{Name}
use Rattle.hir_store.specs.declared.pat.Pat.{Pat as HirPat}
use Rattle.hir_store.specs.declared.pat.Pat.TheVariants as pat
use Rattle.hir_store.specs.declared.path.Path.{Path as HirPath}
use Rattle.hir_store.specs.declared.type_ref.TypeRef.TheVariants as ty
use Rattle.hir_env.specs.ResolvedTree.{Signed}
use Rattle.hir_lower_builder.specs.Forms.{ExprSteps, missing, root_hygiene}
use Rattle.hir_lower_builder.specs.Lowering.{Lowering, ◌>>=◌, pure, alloc_expr, alloc_pat}
use Rattle.hir_lower_builder.specs.Pats.{missing_pat, signed_literal, name_path}
use Rattle.hir_lower_builder.specs.Ranges as forms
use Rattle.hir_lower_builder.specs.Types.{pattern_type_form}
use Rattle.thm_logic.proofs.Constants.{correct_inner}
use Rattle.thm_logic.proofs.Frames.{Frame}
use Rattle.thm_logic.proofs.Steps.{Mark, Correct, correct_bind, correct_as, correct_alloc}
use Rattle.thm_logic.proofs.PatSteps.{correct_alloc_pat}
use Rattle.spec_data.specs.Data as datum
use Rattle.spec_data.specs.Data.{TypeData, typed, PatData, pat_at, absent_pattern, PatShape, PatsData, SideData}
use Rattle.spec_data.specs.Reading as reading
use Rattle.spec_data.specs.Reading.{Readers}
use Rattle.spec_data.specs.Rule.{PathRead}
use Rattle.spec_data.specs.Written as written
use Rattle.thm_round_trip.proofs.Going.{PathIs}
use Rattle.thm_round_trip.proofs.Layers.{Layer, Reads, Pushed, none_read, more_read, type2, within, a_type}
use Rattle.thm_round_trip.proofs.Pats.{a_pat, many_pats, a_pattern, pat_stored}
use Rattle.thm_round_trip.proofs.Walk.{Answers, matches_read}

-- a side, wherever it was stored
abbrev pub a_side : Layer ExprId SideData
a_side final r e =
    reading.side_layer (store_of final) (map_of final) r (reading.expr_found (store_of final) (map_of final) e)

abbrev pub a_plain_side : Layer ExprId SideData
a_plain_side final r e =
    reading.plain_side_layer (store_of final) (map_of final) r (reading.expr_found (store_of final) (map_of final) e)

abbrev plain_of : Layer HirExpr SideData
plain_of final r e = reading.plain_side_layer (store_of final) (map_of final) r (Some e)

-- an expression as a side
abbrev pub side_of : Layer HirExpr SideData
side_of final r e = reading.side_layer (store_of final) (map_of final) r (Some e)

-- patterns of parts

pub pattern0 : {x : PatShape} (p : HirPat) (source : Option Pointer) → ((final : Stored) (r : Readers) → a_pattern final r p ≡ x)
    → Correct (alloc_pat p source) (Reads a_pat (pat_at source x))
pattern0 p source e = correct_as (correct_alloc_pat p source)
    (λ final ps m m' i g at. record { is = pat_stored at (λ d le. e final (within final d)) })

pub pattern1 : {A D : Type 0} {l : Layer A D} {x : D} {p : Lowering A} (source : Option Pointer) (con : A → HirPat) (f : D → PatShape)
    → Correct p (Reads l x) → ((final : Stored) (r : Readers) (a : A) → a_pattern final r (con a) ≡ f (l final r a))
    → Correct (p >>= (λ a. alloc_pat (con a) source)) (Reads a_pat (pat_at source (f x)))
pattern1 source con f h e = correct_as (correct_bind h (λ a. correct_alloc_pat (con a) source))
    (λ final ps m m' i g row. record {
      is = pat_stored row.second (λ d le. e final (within final d) row.one ∙ ap f (row.first.is d le));
    })

pub pattern2 : {A B D E : Type 0} {l : Layer A D} {k : Layer B E} {x : D} {y : E} {p : Lowering A} {q : Lowering B}
    (source : Option Pointer) (con : A → B → HirPat) (f : D → E → PatShape) → Correct p (Reads l x) → Correct q (Reads k y)
    → ((final : Stored) (r : Readers) (a : A) (b : B) → a_pattern final r (con a b) ≡ f (l final r a) (k final r b))
    → Correct (p >>= (λ a. q >>= (λ b. alloc_pat (con a b) source))) (Reads a_pat (pat_at source (f x y)))
pattern2 source con f h h' e = correct_as (correct_bind h (λ a. correct_bind h' (λ b. correct_alloc_pat (con a b) source)))
    (λ final ps m m' i g row. let s = row.second in record {
      is = pat_stored s.second (λ d le. e final (within final d) row.one s.one
          ∙ (λ j. f (row.first.is d (omega (le, s.before.entries, arith)) j) (s.first.is d le j)));
    })

pub missing_pattern_reads : Correct missing_pat (Reads a_pat absent_pattern)
unfolding missing_pat
missing_pattern_reads = pattern0 pat.Missing None (λ final r. refl)

pub patterns_none : (done : List PatId) → Correct (pure done) (Pushed done (Reads many_pats datum.no_patterns))
patterns_none done = none_read many_pats (λ final r. refl) done

pub patterns_more : {x : PatData} {y : PatsData} {p : Lowering PatId} {q : List PatId → Lowering (List PatId)} → Correct p (Reads a_pat x)
    → ((done : List PatId) → Correct (q done) (Pushed done (Reads many_pats y))) → (done : List PatId)
    → Correct (p >>= (λ i. q (done ++ i ∷ []))) (Pushed done (Reads many_pats (datum.more_patterns x y)))
patterns_more h k done = more_read {l = a_pat} {ls = many_pats} datum.more_patterns (λ final r a as'. refl) h k done

-- ends of ranges in types

-- an expression that was stored
stored_side : {x : SideData} (e : HirExpr) (source : Option Pointer) → ((final : Stored) (r : Readers) → side_of final r e ≡ x)
    → Correct (alloc_expr e source) (Reads a_side x)
stored_side e source h = correct_as (correct_alloc e source)
    (λ final ps m m' i g at. record { is = λ d le. rw (at.number, at.here) (h final (within final d)) })

-- A side is read the same by itself and as the argument of a call: it is a literal, a path or missing, and no call.
pub record SideIs (x : SideData) (final : Stored) (ps : List Frame) (m m' : Mark) (e : ExprId) : Type 0 where
  pub is : (d : ℕ) → m'.entries ≤ d → a_side final (within final d) e ≡ x
  pub plain : (d : ℕ) → m'.entries ≤ d → a_plain_side final (within final d) e ≡ x

pub side_reads : {x : SideData} {p : ExprSteps} → Correct p (SideIs x) → Correct p (Reads a_side x)
side_reads h = correct_as h (λ final ps m m' e g row. record { is = row.is })

both_side : {x : SideData} (e : HirExpr) (source : Option Pointer) → ((final : Stored) (r : Readers) → side_of final r e ≡ x)
    → ((final : Stored) (r : Readers) → plain_of final r e ≡ x) → Correct (alloc_expr e source) (SideIs x)
both_side e source h k = correct_as (correct_alloc e source) (λ final ps m m' i g at. record {
  is = λ d le. rw (at.number, at.here) (h final (within final d));
  plain = λ d le. rw (at.number, at.here) (k final (within final d));
})

pub missing_side_is : Correct missing (SideIs datum.missing_side)
unfolding missing
missing_side_is = both_side hir.Missing None (λ final r. refl) (λ final r. refl)

pub literal_limit_is : (at : Pointer) (l : Signed)
    → Correct (forms.literal_limit_form at l) (SideIs (datum.literal_side (written.signed_data l)))
unfolding forms.literal_limit_form
literal_limit_is at l = both_side (hir.Literal (signed_literal l)) (Some at) (λ final r. refl) (λ final r. refl)

pub name_limit_is : (at : Pointer) (n : Name)
    → Correct (forms.name_limit_form at n) (SideIs (datum.path_side (datum.bare_path n) written.root_hygiene))
unfolding forms.name_limit_form
name_limit_is at n = both_side (hir.Path (name_path n) root_hygiene) (Some at) (λ final r. refl) (λ final r. refl)

pub path_limit_is : (y : Option PathRead) {q : Lowering (Option HirPath)} (at : Pointer) → Correct q (PathIs y)
    → Correct (forms.path_limit_form at q) (SideIs (written.side_of_path y))
unfolding forms.path_limit_form
path_limit_is y at h = correct_as (correct_bind h (λ o. correct_alloc (forms.path_limit_of o) (Some at)))
    (λ final ps m m' i g row. record {
      is = λ d le. rw (row.second.number, row.second.here)
          (go final row.middle.entries y row.one row.first.is d (omega (le, row.after.entries, arith))).0;
      plain = λ d le. rw (row.second.number, row.second.here)
          (go final row.middle.entries y row.one row.first.is d (omega (le, row.after.entries, arith))).1;
    })
  where
    go : (final : Stored) (n : ℕ) (y : Option PathRead) (o : Option HirPath) → Answers final n y o → (d : ℕ) → n ≤ d
        → (side_of final (within final d) (forms.path_limit_of o) ≡ written.side_of_path y)
        × (plain_of final (within final d) (forms.path_limit_of o) ≡ written.side_of_path y)
    go final n None None h d le = (refl, refl)
    go final n None (Some p) h d le = absurd h
    go final n (Some x) None h d le = absurd h
    go final n (Some x) (Some p) h d le =
        let e = ap (λ q. datum.path_side q root_hygiene) (matches_read final n x p h d le) in (e, e)

pub item_reads : (i : Option LangItemId) → Correct (forms.item_form i) (Reads a_side (written.side_of_item i))
unfolding forms.item_form
item_reads None = stored_side hir.Missing None (λ final r. refl)
item_reads (Some i) = stored_side (forms.item_expr (Some i)) None (λ final r. refl)

item_is : (final : Stored) (r : Readers) (i : Option LangItemId)
    → reading.item_called (store_of final) (map_of final) r (Some (forms.item_expr i)) ≡ i
item_is final r None = refl
item_is final r (Some i) = refl

pub before_reads : {x : SideData} {p : ExprSteps} (i : Option LangItemId) → Correct p (SideIs x)
    → Correct (forms.before_form i p) (Reads a_side (datum.called_side i x))
unfolding forms.before_form
before_reads i h = correct_as (correct_bind h (λ e. correct_bind (correct_alloc (forms.item_expr i) None)
    (λ f. correct_alloc (hir.Call f (e ∷ [])) None)))
    (λ final ps m m' k g row. let s = row.second in record {
      is = λ d le. rw (s.second.number, s.second.here, s.first.number, s.first.here)
          (λ j. datum.called_side (item_is final (within final d) i j)
          (row.first.plain d (omega (le, s.before.entries, s.after.entries, arith)) j));
    })

-- behind a barrier, as a root where it stands in none
pub inner_reads : {x : SideData} {p : ExprSteps} → Correct p (Reads a_side x) → Correct (forms.inner_form p) (Reads a_side x)
inner_reads h = correct_as (correct_inner h)
    (λ final ps m m' e g row. record { is = λ d le. row.first.is d (omega (le, row.after.entries, arith)) })

pub limits_reads : {x y : SideData} {p q : ExprSteps} (at : Pointer) → Correct p (Reads a_side x) → Correct q (Reads a_side y)
    → Correct (forms.limits_form at p q)
    (Reads a_pat (pat_at (Some at) (datum.range_pattern Inclusive (datum.some_side x) (datum.some_side y))))
unfolding forms.limits_form
limits_reads at h k = pattern2 (Some at) (λ s e. pat.Range Inclusive (Some s) (Some e))
    (λ x y. datum.range_pattern Inclusive (datum.some_side x) (datum.some_side y)) h k (λ final r a b. refl)

pub type_alternatives_reads : {x : PatsData} {p : Lowering (List PatId)} (at : Pointer) → Correct p (Reads many_pats x)
    → Correct (forms.type_alternatives_form at p) (Reads a_pat (pat_at (Some at) (datum.or_pattern x)))
unfolding forms.type_alternatives_form
type_alternatives_reads at h = pattern1 (Some at) pat.Or datum.or_pattern h (λ final r a. refl)

pub pattern_type_reads : {x : TypeData} {y : PatData} {p : Lowering TypeRefId} {q : Lowering PatId} (at : Pointer)
    → Correct p (Reads a_type x) → Correct q (Reads a_pat y)
    → Correct (pattern_type_form at p q) (Reads a_type (typed (Some at) (datum.pattern_shape x y)))
unfolding pattern_type_form
pattern_type_reads at h k = type2 (Some at) ty.Pattern datum.pattern_shape h k (λ final r a b. refl)
