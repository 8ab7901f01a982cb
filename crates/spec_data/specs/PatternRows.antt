-- Worked patterns.
use Rattle.std.specs.Prelude.{◌≡◌, codes, true, false, List, [], ◌∷◌, Option, Some, None}
use Rattle.hir_syntax.specs.declared.ast.Literal.{Literal}
use Rattle.hir_base.specs.declared.op.RangeOp.{RangeOp}
use Rattle.hir_base.specs.declared.op.RangeOp.TheVariants.{Inclusive}
use Rattle.hir_binding.specs.Steps.{over_all, shown}
use Rattle.hir_binding.specs.declared.binding.BindingAnnotation.{BindingAnnotation}
use Rattle.hir_binding.specs.declared.binding.BindingAnnotation.TheVariants.{Unannotated, Mutable, Ref}
use Rattle.hir_binding.specs.declared.binding.BindingProblems.{BindingProblems}
use Rattle.hir_binding.specs.declared.binding.BindingProblems.TheVariants.{BoundMoreThanOnce, BoundInconsistently, NotBoundAcrossAll}
use Rattle.hir_store.specs.Pointers.{Pointer}
use Rattle.hir_store.specs.declared.ids.CfgId.{CfgId}
use Rattle.hir_store.specs.declared.ids.HygieneId.{HygieneId}
use Rattle.hir_store.specs.declared.ids.LangItemId.{LangItemId}
use Rattle.hir_store.specs.declared.name.Name.{Name}
use Rattle.hir_store.specs.declared.name.Name.TheVariants as name
use Rattle.hir_env.specs.ResolvedTree as tree
use Rattle.hir_env.specs.ResolvedTree.{Expr, OptionPath, Pat, Pats, PatFields, Side, Signed, Target, Targets, Type_, Use}
use Rattle.hir_env.specs.Targets.{origin}
use Rattle.spec_data.specs.Data as datum
use Rattle.spec_data.specs.Data.{PathData, bare_path, PatData, pat_at, absent_pattern, PatShape, PatsData, OptionSideData, SideData}
use Rattle.spec_data.specs.Patterns.{written_pat, first_uses, written_uses}
use Rattle.spec_data.specs.Targets.{target_data}
use Rattle.spec_data.specs.Examples.{whole, word}
use Rattle.spec_data.specs.Written.{root_hygiene, signed_data, type_data}

-- written

abbrev pub x : Name
x = name.Text (codes "x")

abbrev pub other_hygiene : HygieneId
other_hygiene = record { 0 = 1 }

abbrev pub x_with : HygieneId → BindingAnnotation → Use
x_with h m = record { name = x; hygiene = h; mode = m }

-- `x`, `ref x` and the like
abbrev pub x_as : Pointer → BindingAnnotation → Pat
x_as at m = tree.bind_pat at (x_with root_hygiene m) tt tree.no_pat

abbrev pub dots : Pointer → Pat
dots at = tree.leaf_pat at tree.rest_leaf

abbrev pub wild : Pointer → Pat
wild at = tree.leaf_pat at tree.wild_leaf

abbrev pub pats : List Pat → Pats
pats [] = tree.no_pats
pats (p ∷ ps) = tree.more_pats p (pats ps)

abbrev pub tuple : Pointer → List Pat → Pat
tuple at ps = tree.tuple_pat at false (pats ps)

-- `A`, and `crate::crate`
abbrev pub path_a : OptionPath
path_a = whole (word (codes "A")) []

abbrev pub refused_path : OptionPath
refused_path = whole tree.crate_segment (tree.crate_segment ∷ [])

-- read

abbrev pub bound : Pointer → HygieneId → BindingAnnotation → PatData
bound at h m = pat_at (Some at) (datum.bind_pattern x h m datum.no_pattern)

abbrev pub patterns : List PatData → PatsData
patterns [] = datum.no_patterns
patterns (p ∷ ps) = datum.more_patterns p (patterns ps)

abbrev pub data_a : PathData
data_a = bare_path (name.Text (codes "A"))

abbrev pub reads : Pat → PatData → Type 0
reads p d = written_pat (tree.some_pat p) ≡ d

-- names

-- `(x, ref x)`, the same with two hygienes, `ref x @ x`, and `mut x @ x` within a tuple behind `x`
abbrev pub ModesOfFirstUses : Type 0
ModesOfFirstUses = (at a b : Pointer)
    → reads (tuple at (x_as a Unannotated ∷ x_as b Ref ∷ []))
    (pat_at (Some at) (datum.tuple_pattern None (patterns (bound a root_hygiene Unannotated ∷ bound b root_hygiene Unannotated ∷ []))))
    × reads (tuple at (x_as a Unannotated ∷ tree.bind_pat b (x_with other_hygiene Ref) tt tree.no_pat ∷ []))
    (pat_at (Some at) (datum.tuple_pattern None (patterns (bound a root_hygiene Unannotated ∷ bound b other_hygiene Ref ∷ []))))
    × reads (tree.bind_pat a (x_with root_hygiene Ref) tt (tree.some_pat (x_as b Unannotated)))
    (pat_at (Some a) (datum.bind_pattern x root_hygiene Unannotated (datum.some_pattern (bound b root_hygiene Unannotated))))

-- `A { : ref x, n: x, disabled: x }`
abbrev pub fields : Pointer → Pointer → Name → CfgId → PatFields
fields a b n by = tree.more_pat_fields (tree.pat_field a None (x_as a Ref))
    (tree.more_pat_fields (tree.disabled_pat_field b by (tree.pat_field b (Some n) (x_as b Mutable)))
    (tree.more_pat_fields (tree.pat_field b (Some n) (x_as b Unannotated)) tree.no_pat_fields))

-- The field without a name is no part, but its use is the first.
abbrev pub NamelessFieldsBind : Type 0
NamelessFieldsBind = (at a b : Pointer) (n : Name) (by : CfgId)
    → reads (tree.record_pat at path_a (fields a b n by) true) (pat_at (Some at)
    (datum.record_pattern data_a (datum.more_pattern_fields n (bound b root_hygiene Ref) datum.no_pattern_fields) true))

-- `crate::crate(x)` and `crate::crate { n: x }` are missing from no node, and bind nothing; `crate::crate` has its node.
abbrev pub RefusedBindsNothing : Type 0
RefusedBindsNothing = (at a b : Pointer) (n : Name) (by : CfgId)
    → let call = tree.tuple_struct_pat at refused_path false (pats (x_as a Unannotated ∷ [])) in
    let record_ = tree.record_pat at refused_path (fields a b n by) false in
    reads call absent_pattern
    × (first_uses (tree.some_pat call) ≡ [])
    × reads record_ absent_pattern
    × (first_uses (tree.some_pat record_) ≡ [])
    × reads (tree.path_pat at refused_path) (pat_at (Some at) datum.missing_pattern)

-- two dots, commas and alternatives

-- `(, .., x)`, and `(x, .., x, ..)`
abbrev pub DotsHaveAPlace : Type 0
DotsHaveAPlace = (at a b c : Pointer)
    → reads (tree.tuple_pat at true (pats (dots a ∷ x_as b Ref ∷ [])))
    (pat_at (Some at) (datum.tuple_pattern (Some 1) (patterns (absent_pattern ∷ bound b root_hygiene Ref ∷ []))))
    × reads (tuple at (x_as a Ref ∷ dots b ∷ x_as c Ref ∷ dots b ∷ []))
    (pat_at (Some at) (datum.tuple_pattern (Some 1) (patterns (bound a root_hygiene Ref ∷ bound c root_hygiene Ref ∷ []))))
    × reads (tree.tuple_struct_pat at path_a false (pats (wild a ∷ dots b ∷ [])))
    (pat_at (Some at) (datum.tuple_struct_pattern data_a (Some 1) (patterns (pat_at (Some a) datum.wild_pattern ∷ []))))

-- `[x, .., x]`, and `| ..`
abbrev pub DotsElsewhere : Type 0
DotsElsewhere = (at a b c : Pointer)
    → reads (tree.slice_pat at (pats (x_as a Ref ∷ [])) (tree.some_pat (dots b)) (pats (x_as c Unannotated ∷ [])))
    (pat_at (Some at) (datum.slice_pattern (patterns (bound a root_hygiene Ref ∷ []))
    (datum.some_pattern (pat_at (Some b) datum.rest_pattern)) (patterns (bound c root_hygiene Ref ∷ []))))
    × reads (tree.or_pat at (pats (dots b ∷ []))) (pat_at (Some b) datum.rest_pattern)

-- `| (x)`, `x | x`, and an or-pattern without alternatives
abbrev pub OneAlternative : Type 0
OneAlternative = (at a b : Pointer)
    → reads (tree.or_pat at (pats (tree.paren_pat b (tree.some_pat (x_as a Ref)) ∷ []))) (bound a root_hygiene Ref)
    × reads (tree.or_pat at (pats (x_as a Ref ∷ x_as b Ref ∷ [])))
    (pat_at (Some at) (datum.or_pattern (patterns (bound a root_hygiene Ref ∷ bound b root_hygiene Ref ∷ []))))
    × reads (tree.or_pat at tree.no_pats) (pat_at (Some at) (datum.or_pattern datum.no_patterns))

-- ranges

abbrev pub minus : Literal → Signed
minus l = record { minus = true; literal = l }

abbrev pub literal_read_as : Literal → SideData
literal_read_as l = datum.literal_side (signed_data (minus l))

abbrev pub reads_range : Pointer → Option RangeOp → Side → Side → PatShape → Type 0
reads_range at op start end shape = reads (tree.range_pat at op start end) (pat_at (Some at) shape)

-- `-1..=A`, `n..` and `..crate::crate`, `_..`, a name that a text lacks, and a range without operator
abbrev pub SidesOfRanges : Type 0
SidesOfRanges = (at a b : Pointer) (l : Literal)
    → reads_range at (Some Inclusive) (tree.literal_side a (minus l)) (tree.path_side b path_a)
    (datum.range_pattern Inclusive (datum.some_side (literal_read_as l)) (datum.some_side (datum.path_side data_a root_hygiene)))
    × reads_range at (Some Inclusive) (tree.name_side a x tt) (tree.path_side b refused_path)
    (datum.range_pattern Inclusive (datum.some_side (datum.path_side (bare_path x) root_hygiene)) datum.no_side)
    × reads_range at (Some Inclusive) tree.other_side (tree.name_side b name.Missing tt)
    (datum.range_pattern Inclusive datum.no_side datum.no_side)
    × reads_range at None (tree.literal_side a (minus l)) tree.no_side datum.missing_pattern

abbrev pub range_in_type : Pointer → Pointer → tree.Limit → tree.Limit → Type_ → Type_
range_in_type at a start end t =
    tree.pattern_type at (tree.some_type t) tree.no_pat (tree.some_type_pat (tree.range_type_pat a start end))

abbrev pub reads_limits : Pointer → Pointer → tree.Limit → tree.Limit → SideData → SideData → Type 0
reads_limits at a start end s e = (t : Type_) → type_data None (range_in_type at a start end t)
    ≡ datum.typed (Some at) (datum.pattern_shape (type_data None t)
    (pat_at (Some a) (datum.range_pattern Inclusive (datum.some_side s) (datum.some_side e))))

-- of types with patterns: `A..-1`, where an item is called for the last before the end, `crate::crate..`, where an item stands for
-- the absent end, and a name that a text lacks; the items may be absent
abbrev pub LimitsOfTypes : Type 0
LimitsOfTypes = (at a b : Pointer) (l : Literal) (i : LangItemId)
    → reads_limits at a (tree.side_limit (tree.path_side b path_a)) (tree.before_limit (Some i) (tree.literal_side b (minus l)))
    (datum.path_side data_a root_hygiene) (datum.called_side (Some i) (literal_read_as l))
    × reads_limits at a (tree.side_limit (tree.path_side b refused_path)) (tree.item_limit (Some i))
    datum.missing_side (datum.path_side (datum.item_path i) root_hygiene)
    × reads_limits at a (tree.side_limit (tree.name_side b name.Missing tt)) (tree.item_limit None)
    (datum.path_side (bare_path name.Missing) root_hygiene) datum.missing_side

-- targets

abbrev pub targets : List Target → Targets
targets [] = tree.no_targets
targets (t ∷ ts) = tree.more_targets t (targets ts)

abbrev pub place_data : Pointer → PatData
place_data at = pat_at (Some at) datum.place_pattern

-- `(e, .., e)`, `(..)`, `[e, .., e]`, `crate::crate(e)`, and what is absent
abbrev pub DataOfTargets : Type 0
DataOfTargets = (at a b c : Pointer) (e : Expr)
    → (target_data (tree.tuple_target (origin None at) (tree.more_targets (tree.place_target a e)
    (tree.dots_targets (targets (tree.place_target c e ∷ [])))))
    ≡ pat_at (Some at) (datum.tuple_pattern (Some 1) (patterns (place_data a ∷ place_data c ∷ []))))
    × (target_data (tree.tuple_target (origin None at) (tree.dots_targets tree.no_targets))
    ≡ pat_at (Some at) (datum.tuple_pattern (Some 0) datum.no_patterns))
    × (target_data (tree.array_target (origin None at) (targets (tree.place_target a e ∷ [])) (Some b)
    (targets (tree.place_target c e ∷ [])))
    ≡ pat_at (Some at) (datum.slice_pattern (patterns (place_data a ∷ []))
    (datum.some_pattern (pat_at (Some b) datum.rest_pattern)) (patterns (place_data c ∷ []))))
    × (target_data (tree.call_target (origin None at) refused_path (targets (tree.place_target a e ∷ []))) ≡ absent_pattern)
    × (target_data (tree.absent_target None) ≡ absent_pattern)

-- the same as elements that come out of a call: `crate::crate(e)`, `(e)` with a comma, and what is absent
abbrev pub DataOfElements : Type 0
DataOfElements = (call at a : Pointer) (e : Expr)
    → (target_data (tree.call_target (origin (Some call) at) refused_path (targets (tree.place_target a e ∷ [])))
    ≡ pat_at (Some call) datum.missing_pattern)
    × (target_data (tree.tuple_target (origin (Some call) at) (targets (tree.place_target a e ∷ [])))
    ≡ pat_at (Some call) (datum.tuple_pattern None (patterns (place_data a ∷ []))))
    × (target_data (tree.absent_target (Some call)) ≡ pat_at (Some call) datum.missing_pattern)

-- problems

abbrev pub shows : Pat → Option BindingProblems → Type 0
shows p problem = shown over_all 0 (written_uses (tree.some_pat p)) ≡ problem

-- `(x, x)`, `x @ x`, `A(x) | A`, `A(x) | A(ref x)`, `A(x) | A(x)`, `A { : x, n: x }` and `(x, x)` with two hygienes
abbrev pub ProblemsOfPatterns : Type 0
ProblemsOfPatterns = (at a b : Pointer) (n : Name)
    → let call = λ (p : Pat). tree.tuple_struct_pat at path_a false (pats (p ∷ [])) in
    shows (tuple at (x_as a Unannotated ∷ x_as b Unannotated ∷ [])) (Some BoundMoreThanOnce)
    × shows (tree.bind_pat a (x_with root_hygiene Unannotated) tt (tree.some_pat (x_as b Unannotated))) (Some BoundMoreThanOnce)
    × shows (tree.or_pat at (pats (call (x_as a Unannotated) ∷ tree.path_pat b path_a ∷ []))) (Some NotBoundAcrossAll)
    × shows (tree.or_pat at (pats (call (x_as a Unannotated) ∷ call (x_as b Ref) ∷ []))) (Some BoundInconsistently)
    × shows (tree.or_pat at (pats (call (x_as a Unannotated) ∷ call (x_as b Unannotated) ∷ []))) None
    × shows (tree.record_pat at path_a (tree.more_pat_fields (tree.pat_field a None (x_as a Unannotated))
    (tree.more_pat_fields (tree.pat_field b (Some n) (x_as b Unannotated)) tree.no_pat_fields)) false) (Some BoundMoreThanOnce)
    × shows (tuple at (x_as a Unannotated ∷ tree.bind_pat b (x_with other_hygiene Unannotated) tt tree.no_pat ∷ [])) None
