-- What is decided on the resolved tree itself, as rules: what a pattern is at the end of a range, as an element, in a type, and where only
-- a plain name or `_` may stand; what a range becomes; which items `for` and `?` take; and which paths are one name that begins nowhere.
use Rattle.std.specs.Prelude.{◌≡◌, ◌↔◌, ℕ, codes, Bool, true, false, List, [], ◌∷◌, Option, Some, None}
use Rattle.hir_base.specs.declared.op.RangeOp.{RangeOp}
use Rattle.hir_base.specs.declared.op.RangeOp.TheVariants as range
use Rattle.hir_binding.specs.declared.binding.BindingAnnotation.{BindingAnnotation}
use Rattle.hir_binding.specs.declared.binding.BindingAnnotation.TheVariants as mode
use Rattle.hir_store.specs.declared.ids.LangItemId.{LangItemId}
use Rattle.hir_store.specs.declared.name.Name.TheVariants as name
use Rattle.hir_store.specs.declared.path.ModPath.{ModPath}
use Rattle.hir_store.specs.declared.path.PathKind.TheVariants as start
use Rattle.hir_env.specs.declared.lang.LangItems.{LangItems}
use Rattle.hir_env.specs.ResolvedTree as tree
use Rattle.hir_env.specs.ResolvedTree.{ForItems, Limit, OptionPat, OptionTypePat, Pat, Pats, QuestionItems, RangeForm, Side, TypePat}
use Rattle.hir_env.specs.ResolvedTree.{TypePats}
use Rattle.hir_env.specs.ResolvedTree.{Use}
use Rattle.hir_env.specs.Answering.{for_items, question_items}
use Rattle.hir_env.specs.LocalPaths.{is_bare}
use Rattle.hir_env.specs.Pats.{element_in, side_of}
use Rattle.hir_env.specs.Ranges.{range_form}
use Rattle.hir_env.specs.TypePats.{bare_part, pat_pointer, type_pat_or_none}

-- a name without `ref`, `mut` and `@`
abbrev pub is_unmarked : BindingAnnotation → OptionPat → Bool
is_unmarked mode.Unannotated tree.no_pat = true
is_unmarked _ _ = false

-- the end of a range

-- literals with a node of their own, plain names and paths
abbrev pub may_end : Pat → Bool
may_end (tree.literal_pat s (Some from) l) = true
may_end (tree.bind_pat s u w q) = is_unmarked u.mode q
may_end (tree.name_pat s u w) = true
may_end (tree.path_pat s x) = true
may_end _ = false

pub data SideAs : OptionPat → Side → Type 0 where
  absent_end : SideAs tree.no_pat tree.no_side
  literal_end : {s from l : _} → SideAs (tree.some_pat (tree.literal_pat s (Some from) l)) (tree.literal_side s l)
  -- a plain name is a path here, whatever it stands for
  name_end : {s : _} {u : Use} {w q : _} → is_unmarked u.mode q ≡ true
      → SideAs (tree.some_pat (tree.bind_pat s u w q)) (tree.name_side s u.name w)
  value_end : {s : _} {u : Use} {w : _} → SideAs (tree.some_pat (tree.name_pat s u w)) (tree.name_side s u.name w)
  path_end : {s x : _} → SideAs (tree.some_pat (tree.path_pat s x)) (tree.path_side s x)
  other_end : {q : _} → may_end q ≡ false → SideAs (tree.some_pat q) tree.other_side

-- the elements of a tuple or a call

-- two dots, itself or what a call stands for
pub data IsDots : Pat → Type 0 where
  two_dots : {s : _} → IsDots (tree.leaf_pat s tree.rest_leaf)
  dots_of_a_call : {s c q : _} → IsDots q → IsDots (tree.macro_pat s c (tree.some_pat q))

-- in front of the next elements, behind the calls that they come out of
pub data DotsAs : Pat → Pats → Pats → Type 0 where
  own_dots : {s qs : _} → DotsAs (tree.leaf_pat s tree.rest_leaf) qs (tree.more_pats (tree.leaf_pat s tree.rest_leaf) qs)
  called_dots : {s c q qs rs : _} → DotsAs q qs rs → DotsAs (tree.macro_pat s c (tree.some_pat q)) qs (tree.tracked_pats c rs)

-- a call that stands for something, or that the text lacks
abbrev pub is_other_call : Pat → Bool
is_other_call (tree.macro_pat s tree.callless tree.no_pat) = true
is_other_call (tree.macro_pat s c (tree.some_pat q)) = true
is_other_call _ = false

-- any other element: a call that the text lacks is missing at its own node, also one that a call stands for
pub data PartAs : Pat → Pat → Type 0 where
  lacking_part : {s : _} → PartAs (tree.macro_pat s tree.callless tree.no_pat) (tree.leaf_pat s tree.broken_leaf)
  called_part : {s c q x : _} → PartAs q x → PartAs (tree.macro_pat s c (tree.some_pat q)) (tree.macro_pat s c (tree.some_pat x))
  whole_part : {q : _} → is_other_call q ≡ false → PartAs q q

pub data ElementAs : Pat → Pats → Pats → Type 0 where
  dots : {q qs rs : _} → DotsAs q qs rs → ElementAs q qs rs
  element : {q qs x : _} → (IsDots q → ⊥) → PartAs q x → ElementAs q qs (tree.more_pats x qs)

-- in a type

abbrev pub is_written_end : Side → Bool
is_written_end tree.no_side = false
is_written_end _ = true

pub data StartAs (items : LangItems) : Side → Limit → Type 0 where
  least : StartAs items tree.no_side (tree.item_limit items.range_min)
  from_end : {s : _} → is_written_end s ≡ true → StartAs items s (tree.side_limit s)

pub data EndAs (items : LangItems) : Option RangeOp → Side → Limit → Type 0 where
  greatest : {o : _} → EndAs items o tree.no_side (tree.item_limit items.range_max)
  before_end : {s : _} → is_written_end s ≡ true → EndAs items (Some range.Exclusive) s (tree.before_limit items.range_sub s)
  up_to_end : {s : _} → is_written_end s ≡ true → EndAs items (Some range.Inclusive) s (tree.side_limit s)
  to_end : {s : _} → is_written_end s ≡ true → EndAs items None s (tree.side_limit s)

-- what may stand in a type
abbrev pub is_of_types : Pat → Bool
is_of_types (tree.leaf_pat s tree.not_null_leaf) = true
is_of_types (tree.or_pat s qs) = true
is_of_types (tree.range_pat s o a b) = true
is_of_types (tree.macro_pat s c q) = true
is_of_types _ = false

module _ (items : LangItems) where
  mutual
    pub data TypePatAs : Pat → TypePat → Type 0 where
      not_null_in_type : {s : _} → TypePatAs (tree.leaf_pat s tree.not_null_leaf) (tree.not_null_type_pat s)
      or_in_type : {s qs xs : _} → TypePatsAs qs xs → TypePatAs (tree.or_pat s qs) (tree.or_type_pat s xs)
      range_in_type : {s o a b x y : _} → StartAs items a x → EndAs items o b y
          → TypePatAs (tree.range_pat s o a b) (tree.range_type_pat s x y)
      call_in_type : {s c q x : _} → OptTypePatAs q x → TypePatAs (tree.macro_pat s c q) (tree.macro_type_pat s c x)
      other_in_type : {q : _} → is_of_types q ≡ false → TypePatAs q (tree.other_type_pat (pat_pointer q))

    pub data OptTypePatAs : OptionPat → OptionTypePat → Type 0 where
      no_type_pat : OptTypePatAs tree.no_pat tree.no_type_pat
      some_type_pat : {q x : _} → TypePatAs q x → OptTypePatAs (tree.some_pat q) (tree.some_type_pat x)

    pub data TypePatsAs : Pats → TypePats → Type 0 where
      no_type_pats : TypePatsAs tree.no_pats tree.no_type_pats
      more_type_pats : {q qs x xs : _} → TypePatAs q x → TypePatsAs qs xs → TypePatsAs (tree.more_pats q qs) (tree.more_type_pats x xs)
      tracked_type_pats : {c qs xs : _} → TypePatsAs qs xs → TypePatsAs (tree.tracked_pats c qs) xs

-- where only a plain name or `_` may stand, also as what a call stands for

abbrev pub may_stand : Pat → Bool
may_stand (tree.leaf_pat s tree.wild_leaf) = true
may_stand (tree.bind_pat s u w q) = is_unmarked u.mode q
may_stand (tree.name_pat s u w) = true
may_stand (tree.macro_pat s c q) = true
may_stand _ = false

mutual
  pub data BareAs : Pat → Pat → Type 0 where
    bare_wild : {s : _} → BareAs (tree.leaf_pat s tree.wild_leaf) (tree.leaf_pat s tree.wild_leaf)
    bare_name : {s : _} {u : Use} {w q : _} → is_unmarked u.mode q ≡ true
        → BareAs (tree.bind_pat s u w q) (tree.bind_pat s u w tree.no_pat)
    -- a plain name binds, whatever it stands for elsewhere
    bare_value : {s : _} {u : Use} {w : _} → BareAs (tree.name_pat s u w) (tree.bind_pat s u w tree.no_pat)
    bare_call : {s c q x : _} → OptBareAs q x → BareAs (tree.macro_pat s c q) (tree.macro_pat s c x)
    barred : {q : _} → may_stand q ≡ false → BareAs q (tree.barred_pat (pat_pointer q))

  pub data OptBareAs : OptionPat → OptionPat → Type 0 where
    no_bare : OptBareAs tree.no_pat tree.no_pat
    some_bare : {q x : _} → BareAs q x → OptBareAs (tree.some_pat q) (tree.some_pat x)

-- what a range becomes

-- a record of an item, with the name of the field for its end; without the item it is missing
pub data RecordAs : Option LangItemId → List ℕ → RangeForm → Type 0 where
  record_of_item : {k t : _} → RecordAs (Some k) t (tree.record_range k (name.Text t))
  without_item : {t : _} → RecordAs None t tree.itemless_range

abbrev pub is_closed : Option RangeOp → Bool
is_closed (Some range.Inclusive) = true
is_closed _ = false

-- whether ranges are made as the newer items, the operator, and whether there is a start and an end
pub data RangeAs (items : LangItems) : Bool → Option RangeOp → Bool → Bool → RangeForm → Type 0 where
  full : {n o x : _} → RecordAs items.range_full (codes "end") x → RangeAs items n o false false x
  older_from : {o x : _} → RecordAs items.range_from (codes "end") x → RangeAs items false o true false x
  newer_from : {o x : _} → RecordAs items.range_from_copy (codes "end") x → RangeAs items true o true false x
  -- without an operator it is as with `..`
  to : {n o x : _} → is_closed o ≡ false → RecordAs items.range_to (codes "end") x → RangeAs items n o false true x
  older_to_last : {x : _} → RecordAs items.range_to_inclusive (codes "end") x → RangeAs items false (Some range.Inclusive) false true x
  newer_to_last : {x : _} → RecordAs items.range_to_inclusive_copy (codes "last") x
      → RangeAs items true (Some range.Inclusive) false true x
  older_between : {o x : _} → is_closed o ≡ false → RecordAs items.range (codes "end") x → RangeAs items false o true true x
  newer_between : {o x : _} → is_closed o ≡ false → RecordAs items.range_copy (codes "end") x → RangeAs items true o true true x
  -- the older one with its last is made by a call
  older_through : RangeAs items false (Some range.Inclusive) true true (tree.call_range items.range_inclusive_new)
  newer_through : {x : _} → RecordAs items.range_inclusive_copy (codes "last") x
      → RangeAs items true (Some range.Inclusive) true true x

-- the items that a form takes, each by its part in it; a form that lacks one takes none

pub data ForItemsAs (items : LangItems) : Option ForItems → Type 0 where
  all_four : {i n g d : _} → items.into_iter_into_iter ≡ Some i → items.iterator_next ≡ Some n → items.option_some ≡ Some g
      → items.option_none ≡ Some d → ForItemsAs items (Some (record { into_iter = i; next = n; gives = g; is_done = d }))
  no_into_iter : items.into_iter_into_iter ≡ None → ForItemsAs items None
  no_next : items.iterator_next ≡ None → ForItemsAs items None
  no_some : items.option_some ≡ None → ForItemsAs items None
  no_none : items.option_none ≡ None → ForItemsAs items None

-- the two items by which a residual becomes a value may be absent
pub data QuestionItemsAs (items : LangItems) : Option QuestionItems → Type 0 where
  all_three : {b g s : _} → items.try_trait_branch ≡ Some b → items.control_flow_continue ≡ Some g
      → items.control_flow_break ≡ Some s → QuestionItemsAs items (Some (record {
        branch = b;
        goes_on = g;
        breaks = s;
        into_try_type = items.residual_into_try_type;
        from_residual = items.try_trait_from_residual;
      }))
  no_branch : items.try_trait_branch ≡ None → QuestionItemsAs items None
  no_continue : items.control_flow_continue ≡ None → QuestionItemsAs items None
  no_break : items.control_flow_break ≡ None → QuestionItemsAs items None

-- one name that begins nowhere
pub data IsBareName : Option ModPath → Type 0 where
  bare_path : {n : _} → IsBareName (Some (record { kind = start.Plain; segments = n ∷ [] }))

-- the theorems

abbrev pub SidesDecided : Type 0
SidesDecided = (q : OptionPat) (x : Side) → (side_of q ≡ x) ↔ SideAs q x

abbrev pub ElementsDecided : Type 0
ElementsDecided = (q : Pat) (qs rs : Pats) → (element_in q qs ≡ rs) ↔ ElementAs q qs rs

abbrev pub TypePatsDecided : Type 0
TypePatsDecided = (items : LangItems) (q : OptionPat) (x : OptionTypePat) → (type_pat_or_none items q ≡ x) ↔ OptTypePatAs items q x

abbrev pub BarePatsDecided : Type 0
BarePatsDecided = (q x : OptionPat) → (bare_part q ≡ x) ↔ OptBareAs q x

abbrev pub RangesDecided : Type 0
RangesDecided = (items : LangItems) (is_new : Bool) (o : Option RangeOp) (has_start has_end : Bool) (x : RangeForm)
    → (range_form items is_new o has_start has_end ≡ x) ↔ RangeAs items is_new o has_start has_end x

abbrev pub ForItemsDecided : Type 0
ForItemsDecided = (items : LangItems) (x : Option ForItems) → (for_items items ≡ x) ↔ ForItemsAs items x

abbrev pub QuestionItemsDecided : Type 0
QuestionItemsDecided = (items : LangItems) (x : Option QuestionItems) → (question_items items ≡ x) ↔ QuestionItemsAs items x

abbrev pub BareNamesDecided : Type 0
BareNamesDecided = (m : Option ModPath) → (is_bare m ≡ true) ↔ IsBareName m
