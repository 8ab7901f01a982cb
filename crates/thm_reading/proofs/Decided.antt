-- What is decided on the resolved tree is what the rules for it say, and nothing else is.
use Rattle.std.proofs.Common.{◌≡◌, ◌↔◌, ◌∙◌, refl, sym, subst, Bool, true, false, List, [], ◌∷◌, Option, Some, None}
use Rattle.std.proofs.Common.{if◌then◌else◌}
use Rattle.hir_base.specs.declared.op.RangeOp.{RangeOp}
use Rattle.hir_base.specs.declared.op.RangeOp.TheVariants as range
use Rattle.hir_binding.specs.declared.binding.BindingAnnotation.{BindingAnnotation}
use Rattle.hir_binding.specs.declared.binding.BindingAnnotation.TheVariants as mode
use Rattle.hir_store.specs.Names.{IsWritten}
use Rattle.hir_store.specs.Pointers.{Pointer}
use Rattle.hir_store.specs.declared.name.Name.{Name}
use Rattle.hir_store.specs.declared.path.ModPath.{ModPath}
use Rattle.hir_store.specs.declared.path.PathKind.{PathKind}
use Rattle.hir_store.specs.declared.path.PathKind.TheVariants as start
use Rattle.hir_env.specs.declared.lang.LangItems.{LangItems}
use Rattle.hir_env.specs.ResolvedTree as tree
use Rattle.hir_env.specs.ResolvedTree.{Called, Limit, OptionPat, OptionTypePat, Pat, Pats, RangeForm, Side, TypePat, TypePats, Use}
use Rattle.hir_env.specs.LocalPaths.{is_bare}
use Rattle.hir_env.specs.Pats.{element_in, element_of, is_rest, plain_side, rest_in, side_of}
use Rattle.hir_env.specs.TypePats.{bare_part, bare_pat, end_at, end_limit, pat_pointer, is_plain, is_unannotated, plain_or_barred}
use Rattle.hir_env.specs.TypePats.{start_limit}
use Rattle.hir_env.specs.TypePats.{type_pat_of, type_pat_or_none, type_pats_of}
use Rattle.thm_reading.specs.Decided as rule
use Rattle.thm_reading.specs.Decided.{BareAs, DotsAs, ElementAs, EndAs, IsBareName, IsDots, OptBareAs, OptTypePatAs, PartAs, RangeAs}
use Rattle.thm_reading.specs.Decided.{RecordAs, SideAs, StartAs, TypePatAs, TypePatsAs, is_unmarked, may_end}
use Rattle.thm_reading.proofs.Alone.{bool_clash}

-- where a function makes what the rules say, and what they say is what it makes, it is decided
pub by_both : {A : Type 0} (F : A → Type 0) (made : A) → F made → ((x : A) → F x → made ≡ x) → (x : A) → (made ≡ x) ↔ F x
by_both F made h back x = ((λ e. subst F e h), back x)

plain_same : (u : Use) (q : OptionPat) → is_plain u q ≡ is_unmarked u.mode q
plain_same u tree.no_pat = by u.mode
  where
    by : (m : BindingAnnotation) → is_unannotated m ≡ is_unmarked m tree.no_pat
    by mode.Unannotated = refl
    by mode.Mutable = refl
    by mode.Ref = refl
    by mode.RefMut = refl
plain_same u (tree.some_pat q) = by u.mode
  where
    by : (m : BindingAnnotation) → false ≡ is_unmarked m (tree.some_pat q)
    by mode.Unannotated = refl
    by mode.Mutable = refl
    by mode.Ref = refl
    by mode.RefMut = refl

-- ends of ranges

bound_as : (b : Bool) (s : Pointer) (u : Use) (w : IsWritten u.name) (q : OptionPat) → is_unmarked u.mode q ≡ b
    → SideAs (tree.some_pat (tree.bind_pat s u w q)) (plain_side b s u.name w)
bound_as true s u w q e = rule.name_end e
bound_as false s u w q e = rule.other_end e

side_as : (q : OptionPat) → SideAs q (side_of q)
side_as tree.no_pat = rule.absent_end
side_as (tree.some_pat (tree.literal_pat s (Some from) l)) = rule.literal_end
side_as (tree.some_pat (tree.literal_pat s None l)) = rule.other_end refl
side_as (tree.some_pat (tree.bind_pat s u w q)) = bound_as (is_plain u q) s u w q (sym (plain_same u q))
side_as (tree.some_pat (tree.name_pat s u w)) = rule.value_end
side_as (tree.some_pat (tree.path_pat s x)) = rule.path_end
side_as (tree.some_pat (tree.leaf_pat s l)) = rule.other_end refl
side_as (tree.some_pat (tree.tuple_struct_pat s x c qs)) = rule.other_end refl
side_as (tree.some_pat (tree.tuple_pat s c qs)) = rule.other_end refl
side_as (tree.some_pat (tree.record_pat s x fs d)) = rule.other_end refl
side_as (tree.some_pat (tree.or_pat s qs)) = rule.other_end refl
side_as (tree.some_pat (tree.paren_pat s q)) = rule.other_end refl
side_as (tree.some_pat (tree.slice_pat s qs q rs)) = rule.other_end refl
side_as (tree.some_pat (tree.over_pat s f q)) = rule.other_end refl
side_as (tree.some_pat (tree.range_pat s o a b)) = rule.other_end refl
side_as (tree.some_pat (tree.macro_pat s c q)) = rule.other_end refl
side_as (tree.some_pat (tree.barred_pat s)) = rule.other_end refl

other_side : (q : Pat) → may_end q ≡ false → side_of (tree.some_pat q) ≡ tree.other_side
other_side (tree.literal_pat s (Some from) l) e = bool_clash (sym e)
other_side (tree.literal_pat s None l) e = refl
other_side (tree.bind_pat s u w q) e = λ i. plain_side ((plain_same u q ∙ e) i) s u.name w
other_side (tree.name_pat s u w) e = bool_clash (sym e)
other_side (tree.path_pat s x) e = bool_clash (sym e)
other_side (tree.leaf_pat s l) e = refl
other_side (tree.tuple_struct_pat s x c qs) e = refl
other_side (tree.tuple_pat s c qs) e = refl
other_side (tree.record_pat s x fs d) e = refl
other_side (tree.or_pat s qs) e = refl
other_side (tree.paren_pat s q) e = refl
other_side (tree.slice_pat s qs q rs) e = refl
other_side (tree.over_pat s f q) e = refl
other_side (tree.range_pat s o a b) e = refl
other_side (tree.macro_pat s c q) e = refl
other_side (tree.barred_pat s) e = refl

its_side : (q : OptionPat) (x : Side) → SideAs q x → side_of q ≡ x
its_side q x rule.absent_end = refl
its_side q x rule.literal_end = refl
its_side _ _ (rule.name_end {s = s} {u = u} {w = w} {q = q} e) = λ i. plain_side ((plain_same u q ∙ e) i) s u.name w
its_side q x rule.value_end = refl
its_side q x rule.path_end = refl
its_side _ _ (rule.other_end {q = q} e) = other_side q e

pub sides_decided : (q : OptionPat) (x : Side) → (side_of q ≡ x) ↔ SideAs q x
sides_decided q = by_both (SideAs q) (side_of q) (side_as q) (its_side q)

-- elements

are_dots : {q : Pat} → IsDots q → is_rest q ≡ true
are_dots rule.two_dots = refl
are_dots (rule.dots_of_a_call h) = are_dots h

dots_as : (q : Pat) (qs : Pats) → is_rest q ≡ true → DotsAs q qs (rest_in q qs)
dots_as (tree.leaf_pat s tree.rest_leaf) qs e = rule.own_dots
dots_as (tree.macro_pat s c (tree.some_pat q)) qs e = rule.called_dots (dots_as q qs e)
dots_as _ qs e = bool_clash e

part_as : (q : Pat) → PartAs q (element_of q)
part_as (tree.macro_pat s tree.callless tree.no_pat) = rule.lacking_part
part_as (tree.macro_pat s c (tree.some_pat q)) = rule.called_part (part_as q)
part_as _ = rule.whole_part refl

element_by : (b : Bool) (q : Pat) (qs : Pats) → is_rest q ≡ b
    → ElementAs q qs (if b then rest_in q qs else tree.more_pats (element_of q) qs)
element_by true q qs e = rule.dots (dots_as q qs e)
element_by false q qs e = rule.element (λ h. bool_clash (sym e ∙ are_dots h)) (part_as q)

element_as : (q : Pat) (qs : Pats) → ElementAs q qs (element_in q qs)
element_as q qs = element_by (is_rest q) q qs refl

its_dots : (q : Pat) (qs rs : Pats) → DotsAs q qs rs → rest_in q qs ≡ rs
its_dots _ _ _ rule.own_dots = refl
its_dots _ _ _ (rule.called_dots {c = c} h) = λ i. tree.tracked_pats c (its_dots _ _ _ h i)

come_to_dots : {q : Pat} {qs rs : Pats} → DotsAs q qs rs → is_rest q ≡ true
come_to_dots rule.own_dots = refl
come_to_dots (rule.called_dots h) = come_to_dots h

in_a_call : (s : Pointer) (c : Called) (q : Pat)
    → element_of (tree.macro_pat s c (tree.some_pat q)) ≡ tree.macro_pat s c (tree.some_pat (element_of q))
in_a_call s tree.callless q = refl
in_a_call s tree.unentered q = refl
in_a_call s (tree.entered c) q = refl
in_a_call s (tree.unresolved x y) q = refl
in_a_call s tree.spliced q = refl

its_part : (q x : Pat) → PartAs q x → element_of q ≡ x
its_part _ _ rule.lacking_part = refl
its_part _ _ (rule.called_part {s = s} {c = c} {q = q} h) =
    in_a_call s c q ∙ (λ i. tree.macro_pat s c (tree.some_pat (its_part _ _ h i)))
its_part _ _ (rule.whole_part {q = q} e) = whole q e
  where
    whole : (q : Pat) → rule.is_other_call q ≡ false → element_of q ≡ q
    whole (tree.macro_pat s tree.callless tree.no_pat) e = bool_clash (sym e)
    whole (tree.macro_pat s c (tree.some_pat q)) e = bool_clash (sym e)
    whole _ e = refl

no_rest : (q : Pat) (b : Bool) → is_rest q ≡ b → (IsDots q → ⊥) → b ≡ false
no_rest q true e h = absurd (h (has_dots q e))
  where
    has_dots : (q : Pat) → is_rest q ≡ true → IsDots q
    has_dots (tree.leaf_pat s tree.rest_leaf) e = rule.two_dots
    has_dots (tree.macro_pat s c (tree.some_pat q)) e = rule.dots_of_a_call (has_dots q e)
    has_dots _ e = bool_clash e
no_rest q false e h = refl

its_element : (q : Pat) (qs rs : Pats) → ElementAs q qs rs → element_in q qs ≡ rs
its_element q qs rs (rule.dots h) =
    (λ i. if come_to_dots h i then rest_in q qs else tree.more_pats (element_of q) qs) ∙ its_dots q qs rs h
its_element q qs _ (rule.element h k) = (λ i. if no_rest q (is_rest q) refl h i then rest_in q qs else tree.more_pats (element_of q) qs)
    ∙ (λ i. tree.more_pats (its_part q _ k i) qs)

pub elements_decided : (q : Pat) (qs rs : Pats) → (element_in q qs ≡ rs) ↔ ElementAs q qs rs
elements_decided q qs = by_both (ElementAs q qs) (element_in q qs) (element_as q qs) (its_element q qs)

-- in a type

module _ (items : LangItems) where
  start_as : (x : Side) → StartAs items x (start_limit items x)
  start_as tree.no_side = rule.least
  start_as (tree.literal_side s l) = rule.from_end refl
  start_as (tree.name_side s n w) = rule.from_end refl
  start_as (tree.path_side s p) = rule.from_end refl
  start_as tree.other_side = rule.from_end refl

  its_start : (x : Side) (y : Limit) → StartAs items x y → start_limit items x ≡ y
  its_start _ _ rule.least = refl
  its_start _ _ (rule.from_end {s = s} e) = by s e
    where
      by : (s : Side) → rule.is_written_end s ≡ true → start_limit items s ≡ tree.side_limit s
      by tree.no_side e = bool_clash e
      by (tree.literal_side s l) e = refl
      by (tree.name_side s n w) e = refl
      by (tree.path_side s p) e = refl
      by tree.other_side e = refl

  written_end : (o : Option RangeOp) (x : Side) → rule.is_written_end x ≡ true → EndAs items o x (end_at items o x)
  written_end None x e = rule.to_end e
  written_end (Some range.Exclusive) x e = rule.before_end e
  written_end (Some range.Inclusive) x e = rule.up_to_end e

  end_as : (o : Option RangeOp) (x : Side) → EndAs items o x (end_limit items o x)
  end_as o tree.no_side = rule.greatest
  end_as o (tree.literal_side s l) = written_end o (tree.literal_side s l) refl
  end_as o (tree.name_side s n w) = written_end o (tree.name_side s n w) refl
  end_as o (tree.path_side s p) = written_end o (tree.path_side s p) refl
  end_as o tree.other_side = written_end o tree.other_side refl

  at_end : (o : Option RangeOp) (x : Side) → rule.is_written_end x ≡ true → end_limit items o x ≡ end_at items o x
  at_end o tree.no_side e = bool_clash e
  at_end o (tree.literal_side s l) e = refl
  at_end o (tree.name_side s n w) e = refl
  at_end o (tree.path_side s p) e = refl
  at_end o tree.other_side e = refl

  its_end : (o : Option RangeOp) (x : Side) (y : Limit) → EndAs items o x y → end_limit items o x ≡ y
  its_end _ _ _ rule.greatest = refl
  its_end _ _ _ (rule.before_end {s = s} e) = at_end (Some range.Exclusive) s e
  its_end _ _ _ (rule.up_to_end {s = s} e) = at_end (Some range.Inclusive) s e
  its_end _ _ _ (rule.to_end {s = s} e) = at_end None s e

  other_type : (q : Pat) → rule.is_of_types q ≡ false → type_pat_of items q ≡ tree.other_type_pat (pat_pointer q)
  other_type (tree.leaf_pat s tree.not_null_leaf) e = bool_clash (sym e)
  other_type (tree.or_pat s qs) e = bool_clash (sym e)
  other_type (tree.range_pat s o a b) e = bool_clash (sym e)
  other_type (tree.macro_pat s c q) e = bool_clash (sym e)
  other_type _ e = refl

  mutual
    type_pat_as : (q : Pat) → TypePatAs items q (type_pat_of items q)
    type_pat_as (tree.leaf_pat s tree.not_null_leaf) = rule.not_null_in_type
    type_pat_as (tree.or_pat s qs) = rule.or_in_type (type_pats_as qs)
    type_pat_as (tree.range_pat s o a b) = rule.range_in_type (start_as a) (end_as o b)
    type_pat_as (tree.macro_pat s c tree.no_pat) = rule.call_in_type rule.no_type_pat
    type_pat_as (tree.macro_pat s c (tree.some_pat q)) = rule.call_in_type (rule.some_type_pat (type_pat_as q))
    type_pat_as _ = rule.other_in_type refl

    type_pats_as : (qs : Pats) → TypePatsAs items qs (type_pats_of items qs)
    type_pats_as tree.no_pats = rule.no_type_pats
    type_pats_as (tree.more_pats q qs) = rule.more_type_pats (type_pat_as q) (type_pats_as qs)
    type_pats_as (tree.tracked_pats c qs) = rule.tracked_type_pats (type_pats_as qs)

  mutual
    its_type_pat : (q : Pat) (x : TypePat) → TypePatAs items q x → type_pat_of items q ≡ x
    its_type_pat _ _ rule.not_null_in_type = refl
    its_type_pat _ _ (rule.or_in_type {s = s} h) = λ i. tree.or_type_pat s (its_type_pats _ _ h i)
    its_type_pat _ _ (rule.range_in_type {s = s} h k) = λ i. tree.range_type_pat s (its_start _ _ h i) (its_end _ _ _ k i)
    its_type_pat _ _ (rule.call_in_type {s = s} {c = c} rule.no_type_pat) = refl
    its_type_pat _ _ (rule.call_in_type {s = s} {c = c} (rule.some_type_pat h)) =
        λ i. tree.macro_type_pat s c (tree.some_type_pat (its_type_pat _ _ h i))
    its_type_pat _ _ (rule.other_in_type {q = q} e) = other_type q e

    its_type_pats : (qs : Pats) (xs : TypePats) → TypePatsAs items qs xs → type_pats_of items qs ≡ xs
    its_type_pats _ _ rule.no_type_pats = refl
    its_type_pats _ _ (rule.more_type_pats h hs) = λ i. tree.more_type_pats (its_type_pat _ _ h i) (its_type_pats _ _ hs i)
    its_type_pats _ _ (rule.tracked_type_pats h) = its_type_pats _ _ h

  opt_type_pat_as : (q : OptionPat) → OptTypePatAs items q (type_pat_or_none items q)
  opt_type_pat_as tree.no_pat = rule.no_type_pat
  opt_type_pat_as (tree.some_pat q) = rule.some_type_pat (type_pat_as q)

  its_opt_type_pat : (q : OptionPat) (x : OptionTypePat) → OptTypePatAs items q x → type_pat_or_none items q ≡ x
  its_opt_type_pat _ _ rule.no_type_pat = refl
  its_opt_type_pat _ _ (rule.some_type_pat h) = λ i. tree.some_type_pat (its_type_pat _ _ h i)

  pub type_pats_decided : (q : OptionPat) (x : OptionTypePat) → (type_pat_or_none items q ≡ x) ↔ OptTypePatAs items q x
  type_pats_decided q = by_both (OptTypePatAs items q) (type_pat_or_none items q) (opt_type_pat_as q) (its_opt_type_pat q)

-- where only a plain name or `_` may stand

bare_by : (b : Bool) (s : Pointer) (u : Use) (w : IsWritten u.name) (q : OptionPat) → is_unmarked u.mode q ≡ b
    → BareAs (tree.bind_pat s u w q) (plain_or_barred b s u w)
bare_by true s u w q e = rule.bare_name e
bare_by false s u w q e = rule.barred e

mutual
  bare_as : (q : Pat) → BareAs q (bare_pat q)
  bare_as (tree.leaf_pat s tree.wild_leaf) = rule.bare_wild
  bare_as (tree.bind_pat s u w q) = bare_by (is_plain u q) s u w q (sym (plain_same u q))
  bare_as (tree.name_pat s u w) = rule.bare_value
  bare_as (tree.macro_pat s c q) = rule.bare_call (opt_bare_as q)
  bare_as _ = rule.barred refl

  opt_bare_as : (q : OptionPat) → OptBareAs q (bare_part q)
  opt_bare_as tree.no_pat = rule.no_bare
  opt_bare_as (tree.some_pat q) = rule.some_bare (bare_as q)

is_barred : (q : Pat) → rule.may_stand q ≡ false → bare_pat q ≡ tree.barred_pat (pat_pointer q)
is_barred (tree.leaf_pat s tree.wild_leaf) e = bool_clash (sym e)
is_barred (tree.bind_pat s u w q) e = λ i. plain_or_barred ((plain_same u q ∙ e) i) s u w
is_barred (tree.name_pat s u w) e = bool_clash (sym e)
is_barred (tree.macro_pat s c q) e = bool_clash (sym e)
is_barred _ e = refl

mutual
  its_bare : (q x : Pat) → BareAs q x → bare_pat q ≡ x
  its_bare _ _ rule.bare_wild = refl
  its_bare _ _ (rule.bare_name {s = s} {u = u} {w = w} {q = q} e) = λ i. plain_or_barred ((plain_same u q ∙ e) i) s u w
  its_bare _ _ rule.bare_value = refl
  its_bare _ _ (rule.bare_call {s = s} {c = c} h) = λ i. tree.macro_pat s c (its_opt_bare _ _ h i)
  its_bare _ _ (rule.barred {q = q} e) = is_barred q e

  its_opt_bare : (q x : OptionPat) → OptBareAs q x → bare_part q ≡ x
  its_opt_bare _ _ rule.no_bare = refl
  its_opt_bare _ _ (rule.some_bare h) = λ i. tree.some_pat (its_bare _ _ h i)

pub bare_pats_decided : (q x : OptionPat) → (bare_part q ≡ x) ↔ OptBareAs q x
bare_pats_decided q = by_both (OptBareAs q) (bare_part q) (opt_bare_as q) (its_opt_bare q)

-- names

bare_name : (m : ModPath) → is_bare (Some m) ≡ true → IsBareName (Some m)
bare_name m e = by m.kind m.segments e
  where
    by : (k : PathKind) (ns : List Name) → is_bare (Some (record { kind = k; segments = ns })) ≡ true
        → IsBareName (Some (record { kind = k; segments = ns }))
    by start.Plain (n ∷ []) e = rule.bare_path
    by start.Plain [] e = bool_clash e
    by start.Plain (n ∷ m ∷ ns) e = bool_clash e
    by _ ns e = bool_clash e

is_bare_name : (m : Option ModPath) → is_bare m ≡ true → IsBareName m
is_bare_name None e = bool_clash e
is_bare_name (Some m) e = bare_name m e

bare_is : (m : Option ModPath) → IsBareName m → is_bare m ≡ true
bare_is _ rule.bare_path = refl

pub bare_names_decided : (m : Option ModPath) → (is_bare m ≡ true) ↔ IsBareName m
bare_names_decided m = (is_bare_name m, bare_is m)
