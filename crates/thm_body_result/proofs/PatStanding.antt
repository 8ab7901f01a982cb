-- What the forms of patterns answer stands for what is written, of what their parts answer.
use Rattle.std.proofs.Common.{◌≡◌, refl, sym, ap, subst, ℕ, Bool, true, false}
use Rattle.std.proofs.Common.{List, ◌∷◌, ◌++◌, Option, Some, None, option_map}
use Rattle.std.proofs.Common.{unwrap_or, is_some, true≢false}
use Rattle.std.proofs.lemmas.Option.{same_Some}
use Rattle.hir_base.specs.declared.op.RangeOp.{RangeOp}
use Rattle.hir_binding.specs.Steps.{over_recent, after, after_parts}
use Rattle.hir_binding.specs.Uses.{Parts, product, no_parts}
use Rattle.hir_store.specs.Pointers.{Pointer}
use Rattle.hir_store.specs.Stored.{Stored, store_of, map_of}
use Rattle.hir_store.specs.declared.hir.Expr.TheVariants as hir
use Rattle.hir_store.specs.declared.ids.ExprId.{ExprId}
use Rattle.hir_store.specs.declared.ids.PatId.{PatId}
use Rattle.hir_store.specs.declared.name.Name.{Name}
use Rattle.hir_store.specs.declared.name.Name.TheVariants as name
use Rattle.hir_store.specs.declared.pat.Pat.{Pat as HirPat}
use Rattle.hir_store.specs.declared.pat.Pat.TheVariants as pat
use Rattle.hir_store.specs.declared.path.Path.{Path as HirPath}
use Rattle.hir_env.specs.ResolvedTree as tree
use Rattle.hir_env.specs.ResolvedTree.{OptionPath, PatLeaf, Signed}
use Rattle.spec_data.specs.Data.{PathData}
use Rattle.spec_data.specs.Patterns.{if_path}
use Rattle.spec_data.specs.Reading.{stored_path}
use Rattle.spec_data.specs.Rule.{PathRead, data_of}
use Rattle.spec_data.specs.Uses.{FirstUses}
use Rattle.spec_data.specs.Written.{path_of, written_path}
use Rattle.thm_round_trip.proofs.Now.{path_now}
use Rattle.hir_lower_builder.specs.Forms.{root_hygiene}
use Rattle.hir_lower_builder.specs.Lower.{lower_path}
use Rattle.hir_lower_builder.specs.Lowering.{Lowering, ◌>>=◌, alloc_expr, alloc_pat}
use Rattle.hir_lower_builder.specs.Pats as forms
use Rattle.hir_lower_builder.specs.Pats.{Table, Elements, PatSteps, missing_pat, name_path, signed_literal}
use Rattle.thm_logic.proofs.Frames.{Frame, ribs}
use Rattle.thm_logic.proofs.Steps as steps
use Rattle.thm_logic.proofs.Steps.{Mark, Rel}
use Rattle.thm_body_result.specs.Leads.{Mapping, Mappings, No, ◌&◌}
use Rattle.thm_body_result.specs.Corresponds.{Open, Absent, There, BehindFront, PatIs, RangeIs, CorrespondsNameSide}
use Rattle.thm_body_result.specs.Corresponds.{CorrespondsSidePath, CorrespondsSigned, WherePath}
use Rattle.thm_body_result.proofs.Defining.{MakesNone}
use Rattle.thm_body_result.proofs.Lasting.{Correct, Lasts, correct_as, correct_bind, correct_both}
use Rattle.thm_body_result.proofs.Lasting.{correct_count_out}
use Rattle.thm_body_result.proofs.Leading.{Shown, shown_as, shown_both, shown_before}
use Rattle.thm_body_result.proofs.Leading.{moved_then}
use Rattle.thm_body_result.proofs.Naming.{Within, PatShows, PatFine, Tail, same_uses, same_side_output, like_row, behind_row}
use Rattle.thm_body_result.proofs.Naming.{pat_as, pat_alone, facts_as, facts_pure}
use Rattle.thm_body_result.proofs.Naming.{facts_bind, pat_facts, shows_facts, pat_node, with_second}
use Rattle.thm_body_result.proofs.Standing.{Of, Shows, Facts, Leaves, alone_corresponds, present_none, present_some}

-- the list of a tuple

missing_pat_facts : Correct missing_pat (Facts (λ final i. Unit {0}))
unfolding missing_pat
missing_pat_facts = facts_as (pat_facts pat.Missing None tt) (λ final i x. tt)

place_facts : (place : Option ℕ) → Correct (forms.counted_place place) (Facts (λ final r. Unit {0}))
place_facts None = correct_count_out _
place_facts (Some n) = facts_as (facts_pure (Some n)) (λ final r x. tt)

dots_facts : (comma : Bool) (place : Option ℕ) → Correct (forms.counted_dots comma place) (Facts (λ final r. Unit {0}))
dots_facts comma None = facts_as (facts_pure None) (λ final r x. tt)
dots_facts comma (Some n) = place_facts (forms.small_place comma n)

front_facts : (comma : Bool) (ids : List PatId) → Correct (forms.with_first_missing comma ids) (Facts (λ final r. BehindFront comma r ids))
front_facts false ids = facts_pure ids
front_facts true ids = facts_as (facts_bind missing_pat_facts (λ i. facts_pure (i ∷ ids))) (λ final r x. (x.0, x.2))

pub elements_facts : (comma : Bool) (es : Elements)
    → Correct (forms.elements_form comma es) (Facts (λ final r. BehindFront comma r.1 es.0))
unfolding forms.elements_form
elements_facts comma es = correct_as
    (correct_bind (dots_facts comma es.1) (λ place. correct_bind (front_facts comma es.0) (λ is. facts_pure (place, is))))
    (λ final ps m m' r g row. let s = row.second in record {
      fact = subst (λ k. BehindFront comma k.1 es.0) (sym s.second.fact) s.first.fact;
      moved = moved_then row.first.moved (moved_then s.first.moved s.second.moved);
    })

-- parts of ways

pub second_as : {P Q R : Mappings} {ws : List Mapping} → (P & Q) ws → ((vs : List Mapping) → Q vs → R vs) → (P & R) ws
second_as z f = record { left = z.left; right = z.right; is = z.is; first = z.first; second = f z.right z.second }

-- what came behind those that were there
abbrev pub Behind : {A : Type 0} → List A → (List A → Mappings) → List A → Mappings
Behind {A = A} done S is = λ ws. (new : List A) × (is ≡ done ++ new) × S new ws

-- behind a path

-- what is so where the path is read
pub where_as : (S T : PathData → Mappings) (N : Mappings) (d : Option PathData) (ws : List Mapping)
    → ((d : PathData) (vs : List Mapping) → S d vs → T d vs) → WherePath d S N ws → WherePath d T N ws
where_as S T N None ws f h = h
where_as S T N (Some d) ws f h = f d ws h

-- steps over what the path became
pub path_then : {A : Type 0} (p : OptionPath) {W : Stored → Open → Mappings} (g : Option HirPath → Lowering A) {N : Of A}
    {T : HirPath → Of A}
    → Correct (lower_path p) (Leaves W) → Correct (g None) (Shows N) → ((o : HirPath) → Correct (g (Some o)) (Shows (T o)))
    → Correct (lower_path p >>= g) (Shows (λ final rs a. W final rs & WherePath (written_path p)
    (λ d ws. (o : HirPath) × (stored_path (store_of final) (map_of final) o ≡ d) × T o final rs a ws) (N final rs a)))
path_then {A = A} p {W = W} g {N = N} {T = T} h none some =
    correct_as (correct_bind (correct_both h (path_now p)) found)
    (λ final ps m m' a _ row. record {
      shown = shown_both row.first.one.shown (join final ps row.middle m' a row.one (written_path p) row.first.other.is row.second);
    })
  where
    Found : Option HirPath → Rel A
    Found None = Shows N
    Found (Some o) = Shows (T o)

    found : (o : Option HirPath) → Correct (g o) (Found o)
    found None = none
    found (Some o) = some o

    join : (final : Stored) (ps : List Frame) (m m' : Mark) (a : A) (o : Option HirPath) (y : Option PathData)
        → option_map (stored_path (store_of final) (map_of final)) o ≡ y → Found o final ps m m' a
        → Shown (WherePath y (λ d ws. (q : HirPath) × (stored_path (store_of final) (map_of final) q ≡ d) × T q final (ribs ps) a ws)
        (N final (ribs ps) a)) m.stored m'.stored
    join final ps m m' a None None is x = x.shown
    join final ps m m' a None (Some d) is x = absurd (true≢false (sym (ap is_some is)))
    join final ps m m' a (Some o) None is x = absurd (true≢false (ap is_some is))
    join final ps m m' a (Some o) (Some d) is x = shown_as x.shown (λ ws y. (o, same_Some _ _ is, y))

shows_leaves : {A : Type 0} {W : Stored → Open → Mappings} {final : Stored} {ps : List Frame} {m m' : Mark} {a : A}
    → Lasts (Leaves W) final ps m m' a → Lasts (Shows (λ final rs b. W final rs)) final ps m m' a
shows_leaves row = record { settled = row.settled; rel = λ u. record { shown = (row.rel u).shown } }

-- the same of steps within a top pattern
pub pat_path : (p : OptionPath) (U : FirstUses → Parts) {f : FirstUses → FirstUses} {W : Stored → Open → Mappings}
    {T : HirPath → Within PatId}
    (g : Option HirPath → PatSteps) → Correct (lower_path p) (Leaves W) → Tail (λ final i. Unit {0}) (g None)
    → ((o : HirPath) → PatFine (T o) f (λ us n x. after_parts over_recent n (U us) x) (g (Some o)))
    → PatFine
    (λ ks us final rs i. W final rs & WherePath (written_path p) (λ d ws. (o : HirPath) × T o ks us final rs i ws) No)
    (λ us. if_path (path_of p) (λ _. f us) us)
    (λ us n x. after over_recent n (product (if_path (path_of p) (λ _. U us) no_parts)) x)
    (λ t. lower_path p >>= (λ o. g o t))
pat_path p U {f = f} {W = W} {T = T} g h none some t =
    steps.correct_as (steps.correct_bind (steps.correct_both h (path_now p)) found)
    (λ final ps m m' r _ row.
    join final ps m row.middle m' r row.one (path_of p) row.first.other.is row.first.one row.second)
  where
    Found : Option HirPath → Rel (PatId × Table)
    Found None = PatShows (λ ks us final rs i ws. Unit {0} × No ws) same_uses same_side_output t
    Found (Some o) = PatShows (T o) f (λ us n x. after_parts over_recent n (U us) x) t

    found : (o : Option HirPath) → steps.Correct (g o t) (Found o)
    found None = none t
    found (Some o) = some o t

    join : (final : Stored) (ps : List Frame) (m middle m' : Mark) (r : PatId × Table) (o : Option HirPath) (y : Option PathRead)
        → option_map (stored_path (store_of final) (map_of final)) o ≡ option_map data_of y → Lasts (Leaves W) final ps m middle o
        → Found o final ps middle m' r
        → PatShows
        (λ ks us final rs i. W final rs & WherePath (option_map data_of y) (λ d ws. (o : HirPath) × T o ks us final rs i ws) No)
        (λ us. if_path y (λ _. f us) us) (λ us n x. after over_recent n (product (if_path y (λ _. U us) no_parts)) x) t final ps m m' r
    join final ps m middle m' r None None is x y =
        like_row (behind_row (shows_leaves x) y) (λ us. refl) (λ us n z. refl) (λ ks us ws z. second_as z (λ vs v. v.1))
    join final ps m middle m' r None (Some d) is x y = absurd (true≢false (sym (ap is_some is)))
    join final ps m middle m' r (Some o) None is x y = absurd (true≢false (ap is_some is))
    join final ps m middle m' r (Some o) (Some d) is x y =
        like_row (behind_row (shows_leaves x) y) (λ us. refl) (λ us n z. refl) (λ ks us ws z. second_as z (λ vs v. (o, v)))

-- patterns without patterns in them

pub missing_alone : Tail (λ final i. Unit {0}) (forms.alone missing_pat)
missing_alone = pat_alone (shows_facts missing_pat_facts)

-- what is absent is missing, and nothing stands for it
pub absent_corresponds : PatFine (λ ks us final rs i. No) same_uses same_side_output (forms.alone missing_pat)
absent_corresponds = pat_as (λ ks us final rs i ws z. z.1) missing_alone

pub plain_corresponds : (p : HirPat) (at : Pointer) → MakesNone p
    → PatFine (λ ks us final rs i. No) same_uses same_side_output (forms.alone (alloc_pat p (Some at)))
plain_corresponds p at none = pat_as (λ ks us final rs i ws z. z.1) (pat_node p (Some at) none)

pub leaf_pat_corresponds : (form : PatLeaf) (at : Pointer)
    → PatFine (λ ks us final rs i. No) same_uses same_side_output (forms.alone (alloc_pat (forms.stored_pat_leaf form) (Some at)))
leaf_pat_corresponds tree.wild_leaf at = plain_corresponds pat.Wild at tt
leaf_pat_corresponds tree.rest_leaf at = plain_corresponds pat.Rest at tt
leaf_pat_corresponds tree.not_null_leaf at = plain_corresponds pat.NotNull at tt
leaf_pat_corresponds tree.broken_leaf at = plain_corresponds pat.Missing at tt

-- steps whose ways are those of what comes before the pattern
pub leaves_then : {A : Type 0} {W : Stored → Open → Mappings} {P : A → Stored → PatId → Type 0} {q : Lowering A} {g : A → Lowering PatId}
    → Correct q (Leaves W) → ((a : A) → Correct (g a) (Facts (P a))) → Correct (q >>= g) (Shows (λ final rs i. W final rs))
leaves_then h k = correct_as (correct_bind h k)
    (λ final ps m m' i g row. record { shown = shown_before row.first.shown row.second.moved })

path_none : (o : Option HirPath) → MakesNone (forms.path_pat_of o)
path_none None = tt
path_none (Some o) = tt

pub path_pat_corresponds : (at : Pointer) {W : Stored → Open → Mappings} {q : Lowering (Option HirPath)} → Correct q (Leaves W)
    → PatFine (λ ks us final rs i. W final rs) same_uses same_side_output (forms.alone (forms.path_pat_form at q))
unfolding forms.path_pat_form
path_pat_corresponds at h = pat_alone (leaves_then h (λ o. pat_facts (forms.path_pat_of o) (Some at) (path_none o)))

-- a literal with its minus
pub signed_corresponds : (at : Pointer) (s : Signed) → Correct (alloc_expr (hir.Literal (signed_literal s)) (Some at))
    (Shows (λ final rs i. CorrespondsSigned (store_of final) (map_of final) at s i))
signed_corresponds at s = correct_as (alone_corresponds (hir.Literal (signed_literal s)) at)
    (λ final ps m m' i g row. record { shown = shown_as row.shown (λ ws y. (signed_literal s, refl, y)) })

-- one part, and the pattern that is made of it
pub part_then : {A : Type 0} {X : Of A} {q : Lowering A} (con : A → HirPat) (at : Pointer) → ((a : A) → MakesNone (con a))
    → Correct q (Shows X)
    → Correct (q >>= (λ a. alloc_pat (con a) (Some at)))
    (Shows (λ final rs i ws. (a : A) × PatIs (store_of final) (map_of final) i (con a) × X final rs a ws))
part_then con at none h = correct_as (correct_bind h (λ a. pat_facts (con a) (Some at) (none a)))
    (λ final ps m m' i g row. record {
      shown = shown_as (shown_before row.first.shown row.second.moved) (λ ws y. (row.one, row.second.fact, y));
    })

pub literal_pat_corresponds : (at : Pointer) (own : Option Pointer) (s : Signed)
    → PatFine (λ ks us final rs i ws. (e : ExprId) × PatIs (store_of final) (map_of final) i (pat.Lit e)
    × CorrespondsSigned (store_of final) (map_of final) (unwrap_or own at) s e ws) same_uses same_side_output
    (forms.alone (forms.literal_pat_form at own s))
unfolding forms.literal_pat_form
literal_pat_corresponds at own s = pat_alone (part_then pat.Lit at (λ e. tt) (signed_corresponds (unwrap_or own at) s))

range_none : (op : Option RangeOp) (s e : Option ExprId) → MakesNone (forms.stored_range op s e)
range_none None s e = tt
range_none (Some op) s e = tt

range_is : (final : Stored) (op : Option RangeOp) (i : PatId) (s e : Option ExprId)
    → PatIs (store_of final) (map_of final) i (forms.stored_range op s e) → RangeIs (store_of final) (map_of final) op i s e
range_is final None i s e h = h
range_is final (Some op) i s e h = h

range_form_corresponds : (at : Pointer) (op : Option RangeOp) {X Y : Of (Option ExprId)} {low high : Lowering (Option ExprId)}
    → Correct low (Shows X) → Correct high (Shows Y)
    → Correct (forms.range_pat_form at op low high) (Shows (λ final rs i ws. (s : Option ExprId) × (e : Option ExprId)
    × RangeIs (store_of final) (map_of final) op i s e × (X final rs s & Y final rs e) ws))
unfolding forms.range_pat_form
range_form_corresponds at op h k = correct_as
    (correct_bind h (λ s. correct_bind k (λ e. pat_facts (forms.stored_range op s e) (Some at) (range_none op s e))))
    (λ final ps m m' i g row.
    let r = row.second in record {
      shown = shown_as (shown_both row.first.shown (shown_before r.first.shown r.second.moved))
          (λ ws y. (row.one, r.one, range_is final op i row.one r.one r.second.fact, y));
    })

pub range_pat_corresponds : (at : Pointer) (op : Option RangeOp) {X Y : Of (Option ExprId)} {low high : Lowering (Option ExprId)}
    → Correct low (Shows X) → Correct high (Shows Y)
    → PatFine (λ ks us final rs i ws. (s : Option ExprId) × (e : Option ExprId)
    × RangeIs (store_of final) (map_of final) op i s e × (X final rs s & Y final rs e) ws) same_uses same_side_output
    (forms.alone (forms.range_pat_form at op low high))
range_pat_corresponds at op h k = pat_alone (range_form_corresponds at op h k)

-- sides

pub literal_side_corresponds : (at : Pointer) (s : Signed) → Correct (forms.literal_side_form at s)
    (Shows (λ final rs o. There (λ i. CorrespondsSigned (store_of final) (map_of final) at s i) o))
unfolding forms.literal_side_form
literal_side_corresponds at s = present_some (signed_corresponds at s)

pub name_side_corresponds : (at : Pointer) (n : Name) → Correct (forms.name_side_of at n)
    (Shows (λ final rs o. CorrespondsNameSide (store_of final) (map_of final) at n o))
name_side_corresponds at name.Missing = present_none
name_side_corresponds at (name.Text t) = present_some (alone_corresponds (hir.Path (name_path (name.Text t)) root_hygiene) at)
name_side_corresponds at (name.Generated k) = present_some (alone_corresponds (hir.Path (name_path (name.Generated k)) root_hygiene) at)

pub path_side_corresponds : (at : Pointer) (p : OptionPath) {W : Stored → Open → Mappings} → Correct (lower_path p) (Leaves W)
    → Correct (forms.path_side_form at (lower_path p)) (Shows (λ final rs o. W final rs & WherePath (written_path p)
    (λ d. There (λ i. CorrespondsSidePath (store_of final) (map_of final) at d i) o) (Absent o)))
unfolding forms.path_side_form
path_side_corresponds at p h = correct_as
    (path_then p (forms.path_side_of at) h present_none (λ o. present_some (alone_corresponds (hir.Path o root_hygiene) at)))
    (λ final ps m m' o g row. record {
      shown = shown_as row.shown (λ ws z. with_second z (where_as _ _ _ (written_path p) z.right
          (λ d us y. (y.2.0, y.2.1, (y.0, y.1, y.2.2))) z.second));
    })
