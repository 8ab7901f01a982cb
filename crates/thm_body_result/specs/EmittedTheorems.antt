-- What is told of a tree, claimed of its lowering from whatever builder.
use Rattle.std.specs.Prelude.{Bool, Option, ◌≡◌, ◌||◌, ◌++◌, [], List, None, Ok, option_to_list}
use Rattle.hir_store.specs.declared.hir.CoroutineKind.{CoroutineKind}
use Rattle.hir_store.specs.declared.ids.ExprId.{ExprId}
use Rattle.hir_store.specs.declared.ids.PatId.{PatId}
use Rattle.hir_store.specs.declared.ids.TypeRefId.{TypeRefId}
use Rattle.hir_store.specs.declared.path.Path.{Path as HirPath}
use Rattle.hir_env.specs.ResolvedTree.{Binder, Formals, OptionExpr, OptionPat, OptionPath, OptionType, Target}
use Rattle.hir_lower_scope.specs.Scopes.{Scope}
use Rattle.hir_lower_builder.specs.Builder.{Builder}
use Rattle.hir_lower_builder.specs.Lower.{lower_part, lower_path, lower_target, lower_top, type_part}
use Rattle.thm_logic.specs.Keeps.{Paired}
use Rattle.thm_body_result.specs.Diagnostics.{Around}
use Rattle.thm_body_result.specs.Formals.{Given, lower_body}
use Rattle.thm_body_result.specs.Theorems.{GrownUnless, WhereLowered}
use Rattle.thm_body_result.specs.Bodies.{grade_body}
use Rattle.thm_body_result.specs.Expanded.{bodies_expanded, expansions}
use Rattle.thm_logic.specs.Grades.{grade_expr_part, grade_part, grade_part_in, grade_target, grade_top, grade_whole}
use Rattle.thm_body_result.specs.Lists.{blocks, bodies_listed, faults}
use Rattle.thm_body_result.specs.Sizes.{bodies_sized, sizes}
use Rattle.thm_round_trip.specs.Yields.{yields}

-- a `yield` is noted where one is told of, and nowhere else

abbrev pub ExprsTrack : Type 0
ExprsTrack = WhereLowered (λ e old id new. new.yields ≡ (old.yields || grade_expr_part yields e))

abbrev pub TypesTrack : Type 0
TypesTrack = (t : OptionType) (old new : Builder) (i : TypeRefId) → Paired old.stored → type_part None t old ≡ (Ok i, new)
    → new.yields ≡ (old.yields || grade_part yields t)

abbrev pub PatsTrack : Type 0
PatsTrack = (p : OptionPat) (old new : Builder) (i : PatId) → Paired old.stored → lower_top p old ≡ (Ok i, new)
    → new.yields ≡ (old.yields || grade_top yields p)

abbrev pub TargetsTrack : Type 0
TargetsTrack = (t : Target) (old new : Builder) (i : PatId) → Paired old.stored → lower_target t old ≡ (Ok i, new)
    → new.yields ≡ (old.yields || grade_target yields t)

-- faults and numbers of blocks come behind those that were there, in the order in which they are told, in whatever scopes

abbrev pub ExprsReport : Type 0
ExprsReport = WhereLowered (λ e old id new. (ss : List Scope) → Around ss old.scopes
    → new.stored.diagnostics ≡ old.stored.diagnostics ++ grade_expr_part faults e ss)

abbrev pub ExprsEnter : Type 0
ExprsEnter = WhereLowered (λ e old id new. (ss : List Scope) → Around ss old.scopes
    → new.stored.block_scopes ≡ old.stored.block_scopes ++ grade_expr_part blocks e ss)

-- the calls that are entered come behind those that were there, in the order in which they are told

abbrev pub ExprsExpand : Type 0
ExprsExpand = WhereLowered (λ e old id new. new.stored.expansions ≡ old.stored.expansions ++ grade_expr_part expansions e)

abbrev pub TypesExpand : Type 0
TypesExpand = (binder : Option Binder) (t : OptionType) (old new : Builder) (i : TypeRefId) → Paired old.stored
    → type_part binder t old ≡ (Ok i, new) → new.stored.expansions ≡ old.stored.expansions ++ grade_part_in expansions binder t

abbrev pub PathsExpand : Type 0
PathsExpand = (p : OptionPath) (old new : Builder) (r : Option HirPath) → Paired old.stored → lower_path p old ≡ (Ok r, new)
    → new.stored.expansions ≡ old.stored.expansions ++ grade_whole expansions p

-- as much is stored as is told, or there is no room for it

abbrev pub ExprsFit : Type 0
ExprsFit = (e : OptionExpr) (old : Builder) → Paired old.stored
    → GrownUnless (grade_expr_part sizes e) old (lower_part e old).0 (lower_part e old).1

-- bodies behind their parameters, which may be of functions that are coroutines

-- what is claimed where such a body is lowered into a `Paired` store
abbrev pub WhereBodyLowered : (Option CoroutineKind → Bool → Formals → OptionExpr → Builder → Builder → Type 0) → Type 0
WhereBodyLowered R = (kind : Option CoroutineKind) (skipped : Bool) (f : Formals) (e : OptionExpr) (old new : Builder) (r : Given × ExprId)
    → Paired old.stored → lower_body kind skipped f e old ≡ (Ok r, new) → R kind skipped f e old new

abbrev pub BodiesReport : Type 0
BodiesReport = WhereBodyLowered (λ kind skipped f e old new. (ss : List Scope) → Around ss old.scopes
    → new.stored.diagnostics ≡ old.stored.diagnostics
    ++ grade_body faults (bodies_listed (λ ds. ds) (λ n. []) (λ es ds. ds)) kind skipped f e ss)

abbrev pub BodiesEnter : Type 0
BodiesEnter = WhereBodyLowered (λ kind skipped f e old new. (ss : List Scope) → Around ss old.scopes
    → new.stored.block_scopes ≡ old.stored.block_scopes
    ++ grade_body blocks (bodies_listed (λ ds. []) option_to_list (λ es ds. [])) kind skipped f e ss)

abbrev pub BodiesExpand : Type 0
BodiesExpand = WhereBodyLowered (λ kind skipped f e old new.
    new.stored.expansions ≡ old.stored.expansions ++ grade_body expansions bodies_expanded kind skipped f e)

abbrev pub BodiesFit : Type 0
BodiesFit = (kind : Option CoroutineKind) (skipped : Bool) (f : Formals) (e : OptionExpr) (old : Builder) → Paired old.stored
    → let r = lower_body kind skipped f e old in GrownUnless (grade_body sizes bodies_sized kind skipped f e) old r.0 r.1
