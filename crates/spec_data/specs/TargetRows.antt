-- The assignee expression, worked: macro calls in it.
use Rattle.std.specs.Prelude.{◌≡◌, Bool, true, false, List, [], ◌∷◌, Option, Some, None}
use Rattle.hir_store.specs.Pointers.{Pointer}
use Rattle.hir_store.specs.declared.ids.HygieneId.{HygieneId}
use Rattle.hir_env.specs.ResolvedTree as tree
use Rattle.hir_env.specs.ResolvedTree.{Called, Entered, Expr, Exprs, Gone, OptionPath, Path, RangeForm, Target, Targets}
use Rattle.hir_env.specs.Calls.{around, lacking_call}
use Rattle.hir_env.specs.Targets.{origin, target_of}
use Rattle.spec_data.specs.Data as datum
use Rattle.spec_data.specs.Data.{PatData, pat_at}
use Rattle.spec_data.specs.PatternRows.{patterns, targets}
use Rattle.spec_data.specs.Targets.{target_data}

-- written

abbrev pub exprs : List Expr → Exprs
exprs [] = tree.no_exprs
exprs (e ∷ es) = tree.more_exprs e (exprs es)

abbrev pub wild : Pointer → Expr
wild at = tree.leaf_expr at tree.underscore

abbrev pub dots : Pointer → RangeForm → Expr
dots at form = tree.range_expr at form tree.no_expr tree.no_expr

abbrev pub in_parens : Pointer → Expr → Expr
in_parens at e = tree.paren_expr at (tree.some_expr e)

abbrev pub tuple : Pointer → List Expr → Expr
tuple at es = tree.list_expr at (tree.tuple_of false) (exprs es)

abbrev pub array : Pointer → List Expr → Expr
array at es = tree.list_expr at tree.array_of (exprs es)

-- a macro call with what it stands for, and one that is entered
abbrev pub call : Pointer → Called → Expr → Expr
call s c e = tree.macro_expr s c (tree.some_expr e)

abbrev pub entering : Pointer → Entered → Expr → Expr
entering s x e = call s (tree.entered x) e

-- read

abbrev pub wild_read : Option Pointer → Pointer → Target
wild_read from at = tree.wild_target (origin from at)

abbrev pub tuple_read : Pointer → List Target → Target
tuple_read at ts = tree.tuple_target (origin None at) (targets ts)

abbrev pub wild_data : Pointer → PatData
wild_data at = pat_at (Some at) datum.wild_pattern

-- a call that is an element
abbrev pub passed : Entered → Target → Target
passed x t = tree.macro_target None (tree.entered x) t

-- a call that is the whole, whose node leads to the pattern
abbrev pub led_to : Pointer → Entered → Target → Target
led_to s x t = tree.macro_target (Some s) (tree.entered x) t

module _ (found : Path → Bool) where
  abbrev pub reads : Expr → Target → Type 0
  reads e t = target_of found (tree.some_expr e) ≡ t

  -- as the one element of a tuple
  abbrev pub reads_within : Pointer → Expr → Target → Type 0
  reads_within at e t = reads (tuple at (e ∷ [])) (tuple_read at (t ∷ []))

-- whole calls

-- `m!()` for `_`, for a call of `_` and for nothing, and `(m!())` for `_`
abbrev pub WholeCallsLead : Type 0
WholeCallsLead = (found : Path → Bool) (at s t : Pointer) (c d : Called)
    → reads found (call s c (wild at)) (tree.macro_target (Some s) c (wild_read None at))
    × reads found (call s c (call t d (wild at))) (tree.macro_target (Some s) c (tree.macro_target (Some t) d (wild_read None at)))
    × reads found (tree.macro_expr s c tree.no_expr) (tree.macro_target (Some s) c (tree.absent_target None))
    × reads found (in_parens t (call s c (wild at))) (tree.macro_target (Some s) c (wild_read None at))

-- elements

-- `(m!(),)` for `_`, for a call of `_`, for `(_)`, for parentheses around a call of `_`, for a place, and for nothing
abbrev pub ElementsComeFromCalls : Type 0
ElementsComeFromCalls = (found : Path → Bool) (at s t a b : Pointer) (x y : Entered)
    → reads_within found at (entering s x (wild a)) (passed x (wild_read (Some s) a))
    × reads_within found at (entering s x (entering t y (wild a))) (passed x (passed y (wild_read (Some s) a)))
    × reads_within found at (entering s x (in_parens b (wild a))) (passed x (wild_read (Some s) a))
    × reads_within found at (entering s x (in_parens b (entering t y (wild a))))
    (passed x (tree.macro_target (Some t) (tree.entered y) (wild_read (Some s) a)))
    × reads_within found at (entering s x (tree.itemless_expr a)) (passed x (tree.place_target s (tree.itemless_expr a)))
    × reads_within found at (tree.macro_expr s (tree.entered x) tree.no_expr) (passed x (tree.absent_target (Some s)))

-- a call that the text lacks: as an element, as what an element stands for, as the whole, and as what the whole stands for
abbrev pub LackingIsMissing : Type 0
LackingIsMissing = (found : Path → Bool) (at s t : Pointer) (x : Entered)
    → reads_within found at (lacking_call s) (tree.macro_target (Some s) tree.callless (tree.absent_target (Some s)))
    × reads_within found at (around t (tree.entered x) (tree.some_expr (lacking_call s)))
    (passed x (tree.macro_target (Some s) tree.callless (tree.absent_target (Some t))))
    × reads found (lacking_call s) (tree.place_target s (lacking_call s))
    × reads found (around t (tree.entered x) (tree.some_expr (lacking_call s))) (led_to t x (tree.place_target s (lacking_call s)))

-- A disabled call, and a call of what is disabled: as an element, and as the whole.
abbrev pub DisabledCalls : Type 0
DisabledCalls = (found : Path → Bool) (at s a : Pointer) (x : Entered) (why : Gone)
    → let disabled = tree.disabled_expr why (entering s x (wild a)) in
    let inside = tree.disabled_expr why (wild a) in
    let call_of_it = around s (tree.entered x) (tree.some_expr inside) in
    reads_within found at disabled (passed x (wild_read (Some s) a))
    × reads_within found at call_of_it (passed x (tree.place_target s inside))
    × reads found disabled (tree.place_target s disabled)
    × reads found call_of_it (led_to s x (tree.place_target a inside))

-- A call of what is disabled as the whole: in parentheses, with a condition of its own, and as what another call stands for, by itself,
-- in parentheses, and in those of an element.
abbrev pub CallsOfDisabled : Type 0
CallsOfDisabled = (found : Path → Bool) (at s t a b : Pointer) (x y : Entered) (why by : Gone)
    → let inside = tree.disabled_expr why (wild a) in
    let call_of_it = around s (tree.entered x) (tree.some_expr inside) in
    let disabled = tree.disabled_expr by call_of_it in
    let outer = λ (e : Expr). around t (tree.entered y) (tree.some_expr e) in
    reads found (in_parens b call_of_it) (led_to s x (tree.place_target a inside))
    × reads found disabled (tree.place_target s disabled)
    × reads found (outer call_of_it) (led_to t y (led_to s x (tree.place_target a inside)))
    × reads found (outer disabled) (led_to t y (tree.place_target s disabled))
    × reads found (outer (in_parens b call_of_it)) (led_to t y (led_to s x (tree.place_target a inside)))
    × reads_within found at (outer (in_parens b call_of_it)) (passed y (led_to s x (tree.place_target t inside)))

-- two dots and callees

-- `(_, m!(), _)`, `[_, m!(), _]`, where m stands for a call of `..`, and `(m!(),)`, where it stands for `(..)`
abbrev pub DotsThroughCalls : Type 0
DotsThroughCalls = (found : Path → Bool) (at s t a b d : Pointer) (x y : Entered) (form : RangeForm)
    → let es = wild a ∷ entering s x (entering t y (dots d form)) ∷ wild b ∷ [] in
    let tracked = λ (ts : Targets). tree.tracked_targets (tree.entered x) (tree.tracked_targets (tree.entered y) ts) in
    reads found (tuple at es) (tree.tuple_target (origin None at) (tree.more_targets (wild_read None a)
    (tracked (tree.dots_targets (targets (wild_read None b ∷ []))))))
    × (target_data (target_of found (tree.some_expr (tuple at es)))
    ≡ pat_at (Some at) (datum.tuple_pattern (Some 1) (patterns (wild_data a ∷ wild_data b ∷ []))))
    × reads found (array at es) (tree.array_target (origin None at) (tree.more_targets (wild_read None a) (tracked tree.no_targets))
    (Some s) (targets (wild_read None b ∷ [])))
    × reads_within found at (entering s x (in_parens t (dots d form)))
    (passed x (tree.tuple_target (origin (Some s) t) (tree.dots_targets tree.no_targets)))

-- `(..)`, `m!()`, where m stands for that, and `(m!())`, where m stands for `..`
abbrev pub DotsInParentheses : Type 0
DotsInParentheses = (found : Path → Bool) (s t d : Pointer) (c : Called) (form : RangeForm)
    → let no_parts = tree.tuple_target (origin None t) (tree.dots_targets tree.no_targets) in
    reads found (in_parens t (dots d form)) no_parts
    × reads found (call s c (in_parens t (dots d form))) (tree.macro_target (Some s) c no_parts)
    × reads found (in_parens t (call s c (dots d form))) (tree.macro_target (Some s) c (tree.place_target d (dots d form)))

-- `m!()(_)`, where m stands for a path, for a call of one, and for one in parentheses
abbrev pub CalleesThroughCalls : Type 0
CalleesThroughCalls = (found : Path → Bool) (at s t a b : Pointer) (c d : Called) (p : OptionPath) (h : HygieneId)
    → let called = λ (f : Expr). tree.call_expr at (tree.some_expr f) true (exprs (wild a ∷ [])) in
    let read = tree.call_target (origin None at) p (targets (wild_read None a ∷ [])) in
    let other = called (call s c (in_parens t (tree.path_expr b p h))) in
    reads found (called (call s c (tree.path_expr b p h))) (tree.macro_target None c read)
    × reads found (called (call s c (call t d (tree.path_expr b p h)))) (tree.macro_target None c (tree.macro_target None d read))
    × reads found other (tree.place_target at other)
