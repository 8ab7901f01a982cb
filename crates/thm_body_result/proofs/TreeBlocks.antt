-- Lowering a tree enters its blocks: those that are told of it are those that are listed.
use Rattle.std.proofs.Common.{◌≡◌, ◌∙◌, refl, sym, ap, Bool, true, false, List, [], ◌∷◌, ◌++◌, Option, Some, None}
use Rattle.hir_store.specs.declared.hir.CoroutineKind.{CoroutineKind}
use Rattle.hir_store.specs.declared.ids.BlockId.{BlockId}
use Rattle.hir_env.specs.ResolvedTree as tree
use Rattle.hir_env.specs.ResolvedTree.{Binder, Formal, Formals, OptionExpr, OptionPath, OptionType, SelfFormal}
use Rattle.hir_lower_scope.specs.Scopes.{Scope}
use Rattle.hir_lower_builder.specs.Lower.{lower_path, type_part}
use Rattle.hir_lower_builder.specs.Lowering.{Lowering}
use Rattle.thm_logic.proofs.Steps.{Correct}
use Rattle.thm_body_result.specs.Blocks.{blocks_of_part, blocks_of_tops, blocks_of_type_part, blocks_of_whole}
use Rattle.thm_body_result.specs.Bodies.{GradingBodies, grade_body, grade_formals, grade_self}
use Rattle.thm_body_result.specs.Formals.{formals_read, lower_body}
use Rattle.thm_body_result.specs.Theorems.{BlocksAre}
use Rattle.thm_body_result.specs.Lists.{blocks, bodies_listed}
use Rattle.thm_body_result.proofs.Around.{scopes_around}
use Rattle.thm_body_result.proofs.AsEmitting.{behind, entered, emits_bodies, emits_graded}
use Rattle.thm_body_result.proofs.BlocksAgree.{expr_part_is, part_is, top_is, whole_is}
use Rattle.thm_body_result.proofs.GradedBodies.{body_graded}
use Rattle.thm_body_result.proofs.Joined.{both}
use Rattle.thm_logic.proofs.GradedTree.{expr_part_graded, part_graded, path_graded}
use Rattle.thm_body_result.proofs.Emission.{Emits, emits_as}

-- in whatever scopes
abbrev pub Enters : {A : Type 0} → List BlockId → Lowering A → Type 0
Enters ns p = Correct p (Emits entered (λ ss. ns))

pub type_enters : (b : Option Binder) (t : OptionType) → Enters (blocks_of_type_part t) (type_part b t)
type_enters b t = emits_as entered (part_graded (emits_graded entered) b t) (λ ss. sym (part_is b t ss))

pub whole_enters : (p : OptionPath) → Enters (blocks_of_whole p) (lower_path p)
whole_enters p = emits_as entered (path_graded (emits_graded entered) p).claim (λ ss. sym (whole_is p ss))

pub blocks_are : BlocksAre
blocks_are e old id new paired is =
    let scopes = scopes_around old.scopes in
    behind entered (λ xs ys like. like) (expr_part_graded (emits_graded entered) e) old new id paired is scopes.0 scopes.1
    ∙ ap (λ ns. old.stored.block_scopes ++ ns) (expr_part_is e scopes.0)

-- bodies behind their parameters

self_none : (s : SelfFormal) (ss : List Scope) → grade_self blocks s ss ≡ []
self_none tree.no_self ss = refl
self_none (tree.disabled_self at by) ss = refl
self_none (tree.self_formal at u _) ss = refl

formals_are : (skipped : Bool) (fs : List Formal) (ss : List Scope)
    → grade_formals blocks skipped fs ss ≡ blocks_of_tops (formals_read skipped fs)
formals_are skipped [] ss = refl
formals_are false (tree.disabled_formal at by ∷ fs) ss = formals_are false fs ss
formals_are true (tree.disabled_formal at by ∷ fs) ss = formals_are true fs ss
formals_are true (tree.formal p ∷ fs) ss = formals_are true fs ss
formals_are false (tree.formal p ∷ fs) ss = both (top_is p ss) (formals_are false fs ss)

abbrev in_bodies : GradingBodies blocks
in_bodies = bodies_listed entered.of_faults entered.of_block entered.of_emitted

body_is : (kind : Option CoroutineKind) (skipped : Bool) (f : Formals) (e : OptionExpr) (ss : List Scope)
    → grade_body blocks in_bodies kind skipped f e ss ≡ blocks_of_tops (formals_read skipped f.formals) ++ blocks_of_part e
body_is None skipped f e ss =
    both (both (self_none f.receiver ss) (formals_are skipped f.formals ss)) (expr_part_is e ss)
body_is (Some kind) skipped f e ss =
    both (self_none f.receiver ss) (both (formals_are skipped f.formals ss) (expr_part_is e ss))

pub body_enters : (kind : Option CoroutineKind) (skipped : Bool) (f : Formals) (e : OptionExpr)
    → Enters (blocks_of_tops (formals_read skipped f.formals) ++ blocks_of_part e) (lower_body kind skipped f e)
body_enters kind skipped f e = emits_as entered (body_graded (emits_graded entered) (emits_bodies entered) kind skipped f e)
    (λ ss. sym (body_is kind skipped f e ss))
