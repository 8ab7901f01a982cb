-- What stands for a body inside, in its root.
use Rattle.std.proofs.Common.{◌≡◌, sym, subst, List, None, Ok}
use Rattle.hir_store.specs.Stored.{Stored, store_of, map_of}
use Rattle.hir_store.specs.StoreSink.{Extends}
use Rattle.hir_store.specs.declared.ids.ExprId.{ExprId}
use Rattle.hir_store.proofs.Extending.{extends_refl}
use Rattle.hir_env.specs.ResolvedTree as tree
use Rattle.hir_env.specs.ResolvedTree.{Limit, OptionExpr, Side}
use Rattle.hir_lower_builder.specs.Builder.{Builder}
use Rattle.hir_lower_builder.specs.Lower.{ExprSteps, limit_side, lower_part, missing}
use Rattle.hir_lower_builder.specs.Ranges.{before_form, item_form}
use Rattle.spec_semantics.specs.Inner.{InnerBody, constant_body, limit_body}
use Rattle.thm_logic.specs.Keeps.{Paired}
use Rattle.thm_logic.proofs.Frames.{ribs_frames}
use Rattle.thm_logic.proofs.Keeping.{lower_path_any}
use Rattle.thm_logic.proofs.PatAny.{before_any, item_any, literal_limit_any, name_limit_any, path_limit_any}
use Rattle.thm_logic.proofs.Steps as steps
use Rattle.thm_logic.proofs.Steps.{correct_alloc}
use Rattle.thm_logic.proofs.TypeAny.{Any, any}
use Rattle.thm_body_result.specs.Theorems.{Settled}
use Rattle.thm_body_result.specs.Leads.{Mapping}
use Rattle.thm_body_result.specs.Corresponds.{CorrespondsLimitSide}
use Rattle.thm_body_result.proofs.AfterLowering.{after_lowering}
use Rattle.thm_body_result.proofs.Lasting.{Correct, bound, unchanged_settled}
use Rattle.thm_body_result.proofs.Leading.{Shown}
use Rattle.thm_body_result.proofs.PathStanding.{before_corresponds, item_corresponds, literal_limit_corresponds, name_limit_corresponds}
use Rattle.thm_body_result.proofs.PathStanding.{path_limit_corresponds}
use Rattle.thm_body_result.proofs.Standing.{Shows, missing_corresponds}
use Rattle.thm_body_result.proofs.TreeCorresponds.{part_corresponds, whole_left}
use Rattle.thm_type_result.specs.Roots.{CorrespondsInner}

-- what is done behind the barrier of an end of a range
abbrev pub contents : Limit → ExprSteps
contents (tree.item_limit item) = item_form item
contents (tree.side_limit s) = limit_side s
contents (tree.before_limit item s) = before_form item (limit_side s)

missing_any : steps.Correct missing Any
unfolding missing
missing_any = any (correct_alloc _ None)

side_any : (s : Side) → steps.Correct (limit_side s) Any
side_any tree.no_side = missing_any
side_any (tree.literal_side at l) = literal_limit_any at l
side_any (tree.name_side at n _) = name_limit_any at n
side_any (tree.path_side at p) = path_limit_any at (lower_path_any p)
side_any tree.other_side = missing_any

-- it is made of steps
pub contents_any : (l : Limit) → steps.Correct (contents l) Any
contents_any (tree.item_limit item) = item_any item
contents_any (tree.side_limit s) = side_any s
contents_any (tree.before_limit item s) = before_any item (side_any s)

side_shows : (s : Side) → Correct (limit_side s) (Shows (λ final rs i. CorrespondsLimitSide (store_of final) (map_of final) rs s i))
side_shows tree.no_side = missing_corresponds
side_shows (tree.literal_side at l) = literal_limit_corresponds at l
side_shows (tree.name_side at n _) = name_limit_corresponds at n
side_shows (tree.path_side at p) = path_limit_corresponds at p (whole_left p)
side_shows tree.other_side = missing_corresponds

-- the steps leave what stands for a body inside
abbrev pub ShowsInner : InnerBody → ExprSteps → Type 0
ShowsInner x p = Correct p (Shows (λ final rs i. CorrespondsInner (store_of final) (map_of final) rs x i))

pub constant_shows : (e : OptionExpr) → ShowsInner (constant_body e) (lower_part e)
constant_shows e = part_corresponds e

pub limit_shows : (l : Limit) → ShowsInner (limit_body l) (contents l)
limit_shows (tree.item_limit item) = item_corresponds item
limit_shows (tree.side_limit s) = side_shows s
limit_shows (tree.before_limit item s) = before_corresponds item (side_shows s)

-- what stands for it in a later store in which nothing is wrong with the bindings that wasn't
pub record Rooted (x : InnerBody) (b : Builder) (i : ExprId) (later : Stored) : Type 0 where
  pub mappings : List Mapping
  pub corresponds : CorrespondsInner (store_of later) (map_of later) b.scopes x i mappings

module _ (x : InnerBody) {p : ExprSteps} (shows : ShowsInner x p) (b c : Builder) (i : ExprId) (paired : Paired b.stored)
    (is : p b ≡ (Ok i, c)) where
  pub rooted : (later : Stored) → Extends c.stored later → Settled c.stored later → Rooted x b i later
  rooted later stays settled =
      let lasts = after_lowering shows b i c paired is later stays in
      let y = subst (λ rs. Shown (CorrespondsInner (store_of later) (map_of later) rs x i) b.stored c.stored) (sym (ribs_frames b.scopes))
      (lasts.rel (unchanged_settled (bound b.stored) settled)).shown in
      record { mappings = y.mappings; corresponds = y.shown }

  -- what was settled of the bindings stays
  pub root_settles : Settled b.stored c.stored
  root_settles = (after_lowering shows b i c paired is c.stored (extends_refl c.stored)).settled
