-- What a body inside means, whatever is around it.
use Rattle.std.proofs.Common.{◌≡◌, refl, subst, ℕ, ◌+◌, List, ◌∷◌, length, Ok, arith}
use Rattle.hir_store.specs.Stored.{Stored, store_of, map_of}
use Rattle.hir_store.specs.StoreSink.{Extends}
use Rattle.hir_store.specs.declared.ids.ExprId.{ExprId}
use Rattle.hir_store.specs.declared.type_ref.ConstRef.{ConstRef}
use Rattle.hir_env.specs.ResolvedTree as tree
use Rattle.hir_env.specs.ResolvedTree.{Limit, OptionExpr, Side}
use Rattle.spec_semantics.specs.Inner.{Bodies, constant_body, inner_bodies, limit_body, limit_bodies, of_limit}
use Rattle.hir_lower_builder.specs.Builder.{Builder}
use Rattle.hir_lower_builder.specs.Lowering.{Lowering}
use Rattle.hir_lower_builder.specs.Lower.{constant_form, lower_limit, lower_part}
use Rattle.thm_logic.specs.Keeps.{Paired}
use Rattle.thm_logic.proofs.Constants.{correct_constant}
use Rattle.thm_logic.proofs.Frames.{Frame, barrier_at, ribs}
use Rattle.thm_logic.proofs.Steps.{Mark, mark, Rel, InStore, Correct, correct_both, correct_in_store}
use Rattle.thm_logic.proofs.Steps.{Holds as HoldsOf}
use Rattle.thm_semantics.proofs.Body.{body_is}
use Rattle.thm_semantics.proofs.HeldLimits.{PathOf, PathsOf, limit_held}
use Rattle.thm_semantics.proofs.HeldTree.{body_holds, path_holds}
use Rattle.thm_semantics.proofs.Holding.{SameIn, inners_in, Ids, Holds}
use Rattle.thm_semantics.proofs.Induction.{part_fine}
use Rattle.thm_type_result.specs.Roots.{SameInner}

-- what is so of an answer, inside these frames
pub in_frames : {A : Type 0} {R : Rel A} {p : Lowering A} → Correct p R → (ps : List Frame) (b c : Builder) (a : A) → b.scopes ≡ ribs ps
    → Paired b.stored → p b ≡ (Ok a, c) → (later : Stored) → Extends c.stored later → InStore R later ps (mark b) (mark c) a
in_frames {R = R} h ps b c a scopes paired is later stays =
    let g : HoldsOf (InStore R) later ps b (Ok a) c =
    subst (λ q. HoldsOf (InStore R) later ps b q.0 q.1) is ((correct_in_store h).holds later ps b scopes) in
    g.in_final paired stays

-- no more entries are inside one another
abbrev pub held_deep : Stored → ℕ
held_deep later = length later.exprs.entries + (length later.types.entries + length later.pats.entries)

-- looked into past all that there is
pub held_whole : {A : Type 0} {ids : Ids A} {es : Bodies} {later : Stored} {ps : List Frame} {m m' : Mark} {a : A}
    → InStore (Holds ids es) later ps m m' a → SameIn later (ids (inners_in later (held_deep later)) a) es
held_whole {later = later} row =
    let n = row.nodes in
    let t = row.entries in row.rel.same (held_deep later) (omega (arith, n, t))

-- a constant
pub constant_means : (e : OptionExpr) (ps : List Frame) (b c : Builder) (x : ConstRef) → b.scopes ≡ ribs ps → Paired b.stored
    → constant_form (lower_part e) b ≡ (Ok x, c) → (later : Stored) → Extends c.stored later
    → SameInner (store_of later) (map_of later) x.expr (constant_body e)
unfolding inner_bodies
constant_means e ps b c x scopes paired is later stays =
    let row = in_frames (correct_constant (correct_both (correct_in_store (part_fine e)) (body_holds e))) ps b c x scopes paired is later
    stays in
    let n = row.nodes in
    let t = row.entries in
    let inside = row.rel in
    let fine = inside.first.one in record {
      body = body_is (barrier_at ∷ ps) fine.rel fine.nodes tt refl;
      inner = inside.first.other.same (held_deep later) (omega (arith, n, t, inside.nodes, inside.entries));
    }

path_of_side : (s : Side) → PathOf s
path_of_side tree.no_side = tt
path_of_side (tree.literal_side at l) = tt
path_of_side (tree.name_side at n _) = tt
path_of_side (tree.path_side at p) = path_holds p
path_of_side tree.other_side = tt

paths_of : (l : Limit) → PathsOf l
paths_of (tree.item_limit item) = tt
paths_of (tree.side_limit s) = path_of_side s
paths_of (tree.before_limit item s) = path_of_side s

same_limit : (l : Limit) (later : Stored) (i : ExprId) → SameIn later (of_limit (inners_in later (held_deep later)) i) (limit_bodies l)
    → SameInner (store_of later) (map_of later) i (limit_body l)
unfolding inner_bodies
same_limit (tree.item_limit item) later i h = record { body = h.0; inner = h.1 }
same_limit (tree.side_limit s) later i h = record { body = h.0; inner = h.1 }
same_limit (tree.before_limit item s) later i h = record { body = h.0; inner = h.1 }

-- the end of a range in a type
pub limit_means : (l : Limit) (ps : List Frame) (b c : Builder) (i : ExprId) → b.scopes ≡ ribs ps → Paired b.stored
    → lower_limit l b ≡ (Ok i, c) → (later : Stored) → Extends c.stored later
    → SameInner (store_of later) (map_of later) i (limit_body l)
limit_means l ps b c i scopes paired is later stays =
    same_limit l later i (held_whole (in_frames (limit_held l (paths_of l)) ps b c i scopes paired is later stays))
