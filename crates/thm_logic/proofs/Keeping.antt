-- Lowering a tree is made of steps, so that nothing is lost.
use Rattle.std.proofs.Common.{◌≡◌, ℕ, List, [], Option, Some, Ok, Err, subst}
use Rattle.hir_store.specs.Stored.{Stored}
use Rattle.hir_store.proofs.Extending.{extends_refl}
use Rattle.hir_store.specs.declared.hir.CoroutineKind.{CoroutineKind}
use Rattle.hir_store.specs.declared.hir.CoroutineSource.{CoroutineSource}
use Rattle.hir_store.specs.declared.hir.CoroutineSource.TheVariants as source
use Rattle.hir_store.specs.declared.hir.MatchArm.{MatchArm}
use Rattle.hir_store.specs.declared.hir.RecordLitField.{RecordLitField}
use Rattle.hir_store.specs.declared.hir.RecordSpread.{RecordSpread}
use Rattle.hir_store.specs.declared.hir.Statement.{Statement}
use Rattle.hir_store.specs.declared.ids.ExprId.{ExprId}
use Rattle.hir_store.specs.declared.ids.TypeRefId.{TypeRefId}
use Rattle.hir_store.specs.Pointers.{Pointer}
use Rattle.hir_env.specs.ResolvedTree.{Arms, Binder, Constant, Exprs, Fields, OptionArgs, OptionBlock, OptionExpr, OptionPat, OptionPath}
use Rattle.hir_store.specs.declared.ids.PatId.{PatId}
use Rattle.hir_env.specs.ResolvedTree.{ForItems, IsWrittenLabel, Label, OptionType, Params, Spread, Stmts, Target, Type_}
use Rattle.hir_env.specs.Conditions.{holds_let}
use Rattle.hir_lower_builder.specs.declared.closures.ClosureParams.{ClosureParams}
use Rattle.hir_lower_builder.specs.declared.preludes.Handed.{Handed}
use Rattle.hir_lower_builder.specs.declared.preludes.Prelude.{Prelude}
use Rattle.hir_lower_builder.specs.Made.{condition_form, for_iteration_form, made_loop_form}
use Rattle.hir_lower_builder.specs.Builder.{Builder}
use Rattle.hir_lower_builder.specs.Lower.{ExprSteps, args_part, kept_part, lower_arms, lower_block_part, lower_constant, lower_each}
use Rattle.hir_lower_builder.specs.Lower.{lower_fields, lower_params, lower_part, lower_path, lower_rooted, lower_spread, lower_stmts}
use Rattle.hir_lower_builder.specs.Lower.{lower_target, lower_top, present}
use Rattle.hir_lower_builder.specs.Lower.{lower_type, present_type, record_contents, iteration_form, type_part}
use Rattle.hir_lower_builder.specs.Lowering.{Checked, Lowering}
use Rattle.hir_lower_builder.specs.Preludes.{let_params, lower_handed, made_coroutine_form, no_prelude, within_form}
use Rattle.thm_logic.specs.Keeps.{Keeps, Keeping, KeepsApart, MadeApart, Paired, PathsKeep, TypesKeep}
use Rattle.thm_logic.proofs.Apart.{Apart}
use Rattle.thm_logic.proofs.ApartForms.{condition_apart, for_iteration_apart, made_loop_apart}
use Rattle.thm_logic.proofs.ApartPreludes.{handed_hand_out, let_params_add, made_coroutine_apart}
use Rattle.thm_logic.proofs.ApartTree as apart
use Rattle.thm_logic.proofs.AsApart.{apart_graded}
use Rattle.thm_logic.proofs.GradedTree as graded
use Rattle.thm_logic.proofs.Formals.{apart_in, apart_now}
use Rattle.thm_logic.proofs.Frames.{Frame, frames, ribs_frames}
use Rattle.thm_logic.proofs.Preludes.{correct_within}
use Rattle.thm_logic.proofs.Steps.{Holds, Correct, correct_alloc, correct_pure}
pub use Rattle.thm_logic.proofs.TypeAny.{Any, any}
use Rattle.thm_logic.proofs.TypeAny.{then_any}

-- of parts

pub one_type_any : (b : Option Binder) (t : Type_) → Correct (lower_type b t) Any
one_type_any b t = any (apart.one_type_apart b t)

pub type_any : (b : Option Binder) (t : OptionType) → Correct (type_part b t) Any
type_any b t = any (apart.type_apart b t)

pub present_type_any : (t : OptionType) → Correct (present_type t) Any
present_type_any t = any (apart.present_type_apart t)

pub lower_path_any : (p : OptionPath) → Correct (lower_path p) Any
lower_path_any p = any (apart.lower_path_apart p)

pub args_any : (as' : OptionArgs) → Correct (args_part as') Any
args_any as' = any (apart.args_apart as')

pub constant_any : (c : Constant) → Correct (lower_constant c) Any
constant_any c = any (apart.a_constant_apart c)

pub rooted_any : (c : Constant) → Correct (lower_rooted c) Any
rooted_any c = any (apart.rooted_apart c)

pub params_any : (l : ClosureParams) (xs : Params) → Correct (lower_params l xs) Any
params_any l xs = any (graded.params_graded apart_graded l xs)

pub part_any : (e : OptionExpr) → Correct (lower_part e) Any
part_any e = any (apart.part_apart e)

pub present_any : (e : OptionExpr) → Correct (present e) Any
present_any e = any (graded.expr_present_graded apart_graded e)

pub each_any : (done : List ExprId) (es : Exprs) → Correct (lower_each done es) Any
each_any done es = any (graded.exprs_graded apart_graded done es)

pub fields_any : (done : List RecordLitField) (fs : Fields) → Correct (lower_fields done fs) Any
fields_any done fs = any (graded.fields_graded apart_graded done fs)

pub spread_any : (s : Spread) → Correct (lower_spread s) Any
spread_any s = any (graded.spread_graded apart_graded s)

pub block_part_any : (b : OptionBlock) → Correct (lower_block_part b) Any
block_part_any b = any (graded.block_part_graded apart_graded b)

-- what stands in a block
pub contents_part_any : (ss : Stmts) (e : OptionExpr) → Correct (lower_stmts [] ss (kept_part e)) Any
contents_part_any ss e = any (graded.stmts_graded apart_graded [] ss e (graded.kept_part_graded apart_graded e))

pub arms_any : (done : List MatchArm) (arms : Arms) → Correct (lower_arms done arms) Any
arms_any done arms = any (graded.arms_graded apart_graded done arms)

pub top_any : (p : OptionPat) → Correct (lower_top p) Any
top_any p = any (apart.top_apart p)

pub target_any : (t : Target) → Correct (lower_target t) Any
target_any t = any (graded.target_graded apart_graded t)

-- the condition of a `while`
pub condition_any : (at : Pointer) (e : OptionExpr) → Correct (condition_form (holds_let e) at (lower_part e)) Any
condition_any at e = any (condition_apart at (holds_let e) (apart.part_apart e))

-- the loop of a `for`
pub for_loop_any : (at : Pointer) (items : ForItems) (label : Option Label) → IsWrittenLabel label → (n : ℕ) (p : PatId) (b : OptionExpr)
    → Correct (made_loop_form at label (for_iteration_form at items n p (lower_part b))) Any
for_loop_any at items label w n p b = any (made_loop_apart at label w (for_iteration_apart at items n p (apart.part_apart b)))

-- what hands arguments in

pub lets_any : (done : Prelude) (is : List PatId) → Correct (let_params done is) Any
lets_any done is = any (let_params_add done is)

pub handed_any : (done : List PatId) (xs : List Handed) → Correct (lower_handed done xs) Any
handed_any done xs = any (handed_hand_out done xs)

pub made_coroutine_any : (which : CoroutineKind) (from : CoroutineSource) (ss : List Statement) (i : ExprId)
    → Correct (made_coroutine_form which from ss i) Any
made_coroutine_any which from ss i = any (made_coroutine_apart which from ss i)

pub within_any : (which : CoroutineKind) {p : Lowering ClosureParams} {t : Lowering (Option TypeRefId)} {e : ExprSteps} → Correct p Any
    → Correct t Any → Correct e Any → Correct (within_form which p t e) Any
within_any which hp ht he = any (correct_within which hp ht he (lets_any no_prelude) (made_coroutine_any which source.Closure))

-- of forms

pub iteration_any : (at : Pointer) {c b : ExprSteps} → Correct c Any → Correct b Any → Correct (iteration_form at c b) Any
unfolding iteration_form
iteration_any at hc hb =
    then_any hb (λ i. then_any hc (λ k. then_any (any (correct_alloc _ (Some at))) (λ o. any (correct_alloc _ (Some at)))))

pub contents_any : {fs : Lowering (List RecordLitField)} {s : Lowering RecordSpread} → Correct fs Any → Correct s Any
    → Correct (record_contents fs s) Any
unfolding record_contents
contents_any hf hs = then_any hf (λ fs. then_any hs (λ s. any (correct_pure (fs, s))))

-- what is kept

kept_of : {A : Type 0} (final : Stored) (ps : List Frame) (b : Builder) (o : Checked A) (c : Builder) → Holds Any final ps b o c
    → Keeps b o c
kept_of final ps b (Ok a) c h = h.kept
kept_of final ps b (Err e) c h = h

pub kept_by : {A : Type 0} {p : Lowering A} → Correct p Any → (b : Builder) → Keeps b (p b).0 (p b).1
kept_by {p = p} h b = let ps = frames b.scopes in kept_of b.stored ps b (p b).0 (p b).1 (h.holds b.stored ps b (ribs_frames b.scopes))

pub keeping : Keeping
keeping e b = kept_by (part_any e) b

pub types_keep : TypesKeep
types_keep binder t b = kept_by (type_any binder t) b

pub paths_keep : PathsKeep
paths_keep p b = kept_by (lower_path_any p) b

-- where it answers, made names stay apart
pub apart_by : {A : Type 0} {p : Lowering A} → Correct p Apart → (b b' : Builder) (a : A) → Paired b.stored → p b ≡ (Ok a, b')
    → MadeApart b.names b.stored → MadeApart b'.names b'.stored
apart_by {p = p} h b b' a d is =
    let ps = frames b.scopes in
    let held : Holds Apart b'.stored ps b (Ok a) b' =
    subst (λ r. Holds Apart b'.stored ps b r.0 r.1) is (h.holds b'.stored ps b (ribs_frames b.scopes)) in
    let row = held.in_final d (extends_refl b'.stored) in
    λ m. apart_now (row.apart (apart_in held.kept.stays m))

pub keeps_apart : KeepsApart
keeps_apart e b b' i d is m = apart_by (apart.part_apart e) b b' i d is m
