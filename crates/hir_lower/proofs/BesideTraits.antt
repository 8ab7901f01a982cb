-- Beside the names of a path with a trait stands what is written behind their segments, of the trait's last one behind a type.
use Rattle.std.proofs.Common.{◌≡◌, ◌∙◌, refl, sym, ap, List, [], ◌∷◌, ◌++◌}
use Rattle.std.proofs.Common.{Option, Some, None, Bool, true, false}
use Rattle.std.specs.Prelude.{◌&&◌, not, map, reverse, option_map}
use Rattle.std.proofs.lemmas.List.{reverse-append, reverse-reverse, map-append, append_assoc}
use Rattle.hir_syntax.specs.declared.ast.Name.{Name as AstName}
use Rattle.hir_syntax.specs.declared.ast.Path.{Path as AstPath, out-Path}
use Rattle.hir_syntax.specs.declared.ast.PathSegment.{PathSegment as AstSegment, out-PathSegment}
use Rattle.hir_syntax.specs.declared.types.PathType.{PathType as AstPathType, out-PathType}
use Rattle.hir_syntax.specs.declared.ast.SegmentKind.{SegmentKind}
use Rattle.hir_syntax.specs.declared.ast.SegmentKind.TheVariants as word
use Rattle.hir_env.specs.ResolveCtx.{ResolveCtx}
use Rattle.hir_env.specs.ResolvedTree as tree
use Rattle.hir_env.specs.ResolvedTree.{OptionType, SegmentArgs, Segments}
use Rattle.hir_env.specs.TypeLayers.{PathTypeReading}
use Rattle.hir_env.specs.Paths.{kinded_segment, qualified_segment}
use Rattle.hir_env.specs.Whole.{resolved_path, resolved_path_type, path_part, segments_part, first_part, rest_part, path_type_part}
use Rattle.hir_env.specs.Whole.{type_part}
use Rattle.hir_env.proofs.PathLevels.{segment_is_level, path_type_is_level}
use Rattle.spec_data.specs.Data as datum
use Rattle.spec_data.specs.Data.{OptionArgsData, PathData, TypeData, no_args}
use Rattle.spec_data.specs.Rule as rule
use Rattle.spec_data.specs.Rule.{Named, PathRead, Item, What, names_of, path_read, data_of, names_data}
use Rattle.spec_data.specs.Rule.{first_behind_self, last_behind_self, self_first, without_self}
use Rattle.spec_data.specs.Written.{items, path_of, type_data, written_path, written_type}
use Rattle.spec_data.specs.Segments.{trait_of, first_trait, none_missing, Whole, is_qualified, none_qualified, PlainPath, PlainTrait}
use Rattle.hir_lower.specs.Beside.{all_behind, args_of_named, beside, beside_names, in_projection, last_behind_type, segments_in}
use Rattle.hir_lower.proofs.Beside.{all_args, resolved_read, args_at, args_of_rest, clash, first_without, front, last_without, map_reverse}
use Rattle.hir_lower.proofs.Beside.{no_some, plain_args, read_args, written_stays}

-- lists of arguments

abbrev first_behind : TypeData → List OptionArgsData → List OptionArgsData
first_behind t [] = []
first_behind t (a ∷ as') = self_first t a ∷ as'

first_named : (t : TypeData) (ns : List Named) → map args_at (first_behind_self t ns) ≡ first_behind t (map args_at ns)
first_named t [] = refl
first_named t (n ∷ ns) = refl

last_named : (t : TypeData) (ns : List Named)
    → map args_at (last_behind_self t ns) ≡ reverse (first_behind t (reverse (map args_at ns)))
last_named t ns = map_reverse args_at (first_behind_self t (reverse ns))
    ∙ ap reverse (first_named t (reverse ns) ∙ ap (first_behind t) (map_reverse args_at ns))

first_append : (c : OptionArgsData) (cs ds : List OptionArgsData) → first_without (cs ++ c ∷ [] ++ ds) ≡ first_without (cs ++ c ∷ []) ++ ds
first_append c [] ds = refl
first_append c (d ∷ cs) ds = refl

-- only the last one changes
last_changes : (xs : List OptionArgsData) (y : OptionArgsData) (ys : List OptionArgsData)
    → last_without (xs ++ y ∷ ys) ≡ xs ++ last_without (y ∷ ys)
last_changes xs y ys =
    let turned = reverse-append (y ∷ []) ys in
    ap (λ l. reverse (first_without l)) (reverse-append xs (y ∷ ys) ∙ ap (λ l. l ++ reverse xs) turned)
    ∙ (ap reverse (first_append y (reverse ys) (reverse xs))
    ∙ (reverse-append (first_without (reverse ys ++ y ∷ [])) (reverse xs)
    ∙ (λ j. reverse-reverse xs j ++ reverse (first_without (sym turned j)))))

type_goes : (t : TypeData) (a : OptionArgsData) → without_self (self_first t a) ≡ no_args
type_goes t datum.no_args = refl
type_goes t (datum.some_args (datum.args_data as' has_self bs ps)) = refl

last_is : (t : TypeData) (xs : List OptionArgsData) (a : OptionArgsData) (bs : List OptionArgsData)
    → last_behind_type t (xs ++ a ∷ []) bs ≡ xs ++ last_behind_type t (a ∷ []) bs
last_is t [] a bs = refl
last_is t (x ∷ []) a bs = refl
last_is t (x ∷ y ∷ xs) a bs = ap (λ l. x ∷ l) (last_is t (y ∷ xs) a bs)

-- of the last one of a trait
one_changes : (t : TypeData) (xs : List OptionArgsData) (a : OptionArgsData) (bs : List OptionArgsData) → last_without bs ≡ bs
    → last_without (xs ++ self_first t a ∷ bs) ≡ xs ++ last_behind_type t (a ∷ []) bs
one_changes t xs a [] h = last_changes xs (self_first t a) [] ∙ ap (λ x. xs ++ x ∷ []) (type_goes t a)
one_changes t xs a (b ∷ bs) h = last_changes xs (self_first t a) (b ∷ bs)
    ∙ ap (λ l. xs ++ l) (last_changes (self_first t a ∷ []) b bs ∙ ap (λ l. self_first t a ∷ l) h)

turned_changes : (t : TypeData) (rs bs : List OptionArgsData) → last_without bs ≡ bs
    → last_without (reverse (first_behind t rs) ++ bs) ≡ last_behind_type t (reverse rs) bs
turned_changes t [] bs h = h
turned_changes t (a ∷ rs) bs h =
    ap (λ l. last_without (l ++ bs)) (reverse-append (self_first t a ∷ []) rs)
    ∙ (ap last_without (append_assoc (reverse rs) (self_first t a ∷ []) bs)
    ∙ (one_changes t (reverse rs) a bs h
    ∙ (sym (last_is t (reverse rs) a bs) ∙ ap (λ l. last_behind_type t l bs) (sym (reverse-append (a ∷ []) rs)))))

trait_changes : (t : TypeData) (as' bs : List OptionArgsData) → last_without bs ≡ bs
    → last_without (reverse (first_behind t (reverse as')) ++ bs) ≡ last_behind_type t as' bs
trait_changes t as' bs h = turned_changes t (reverse as') bs h ∙ ap (λ l. last_behind_type t l bs) (reverse-reverse as')

-- a path with a trait

unqualified : (k : Option SegmentKind) (t : Option AstPathType) → not (is_qualified k) ≡ true → trait_of k t ≡ None
unqualified None t h = refl
unqualified (Some word.Name) t h = refl
unqualified (Some word.SelfKw) t h = refl
unqualified (Some word.CrateKw) t h = refl
unqualified (Some word.SuperKw) t h = refl
unqualified (Some word.SelfTypeKw) t h = refl
unqualified (Some word.Qualified) t h = absurd (clash (sym h))

left : (a b : Bool) → (a && b) ≡ true → a ≡ true
left true b h = refl
left false b h = h

no_trait : (ss : List (Option AstSegment)) → none_qualified ss ≡ true → first_trait ss ≡ None
no_trait [] h = refl
no_trait (None ∷ ss) h = refl
no_trait (Some s ∷ ss) h =
    let k = (out-PathSegment s).seg in
    unqualified k (out-PathSegment s).trait_ (left (not (is_qualified k)) (none_qualified ss) h)

-- it stands in the tree
trait_first : (at inner : ResolveCtx) (k : Option SegmentKind) (n : Option AstName) (a : SegmentArgs) (ty : OptionType)
    (tr : Option AstPathType) (t : AstPathType)
    → trait_of k tr ≡ Some t
    → kinded_segment at.answers at.place k n a ty (path_type_part inner tr) ≡ qualified_segment ty (Some (resolved_path_type inner t))
trait_first at inner None n a ty tr t h = absurd (no_some h)
trait_first at inner (Some word.Name) n a ty tr t h = absurd (no_some h)
trait_first at inner (Some word.SelfKw) n a ty tr t h = absurd (no_some h)
trait_first at inner (Some word.CrateKw) n a ty tr t h = absurd (no_some h)
trait_first at inner (Some word.SuperKw) n a ty tr t h = absurd (no_some h)
trait_first at inner (Some word.SelfTypeKw) n a ty tr t h = absurd (no_some h)
trait_first at inner (Some word.Qualified) n a ty tr t h = ap (λ x. qualified_segment ty (path_type_part inner x)) h

-- beside the names of the trait
trait_args : (at : ResolveCtx) (q : Option AstPath) (x : PathRead) → PlainPath q → path_of (path_part at q) ≡ Some x
    → map args_at x.names ≡ all_behind at (segments_in q)
trait_args at None x w e = absurd (no_some e)
trait_args at (Some q) x w e = plain_args at q x w.0 (no_trait (out-Path q).segs w.1) e

-- behind a qualified type in front
qualified_args : (leading : Bool) (ty : OptionType) (r : PathTypeReading) (rest : Segments) (x : PathRead)
    (as' bs : List OptionArgsData)
    → path_read (front leading (qualified_segment ty (Some r)) ∷ items rest []) ≡ Some x
    → ((y : PathRead) → path_of r.path ≡ Some y → map args_at y.names ≡ as') → all_args (items rest []) ≡ bs → last_without bs ≡ bs
    → map args_at x.names ≡ last_behind_type (written_type ty) as' bs
qualified_args leading tree.no_type r rest x as' bs e k h s = absurd (no_some e)
qualified_args leading (tree.some_type ty) r rest x as' bs e k h s = by (path_of r.path) refl
  where
    t : TypeData
    t = type_data None ty

    within : Option PathRead → List Item
    within y = record { leading = leading; what = rule.projection t y } ∷ items rest []

    by : (y : Option PathRead) → path_of r.path ≡ y → map args_at x.names ≡ last_behind_type t as' bs
    by None p = absurd (no_some (sym (ap (λ y. path_read (within y)) p) ∙ e))
    by (Some y) p =
        let named : all_args (within (Some y)) ≡ reverse (first_behind t (reverse as')) ++ bs =
        map-append args_at (last_behind_self t y.names) (rule.names (items rest []))
        ∙ (λ j. (last_named t y.names ∙ ap (λ l. reverse (first_behind t (reverse l))) (k y p)) j ++ h j) in
        read_args (within (Some y)) x (sym (ap (λ z. path_read (within z)) p) ∙ e)
        ∙ (ap last_without named ∙ trait_changes t as' bs s)

path_type_path : (at : ResolveCtx) (t : AstPathType) → (resolved_path_type at t).path ≡ path_part at (out-PathType t).path
path_type_path at t = ap (λ r. r.path) (path_type_is_level at t)

args_with_trait : (at : ResolveCtx) (leading : Bool) (ss : List (Option AstSegment)) (t : AstPathType) (x : PathRead)
    → none_missing ss ≡ true
    → first_trait ss ≡ Some t → PlainTrait (Some t)
    → path_read (front leading (first_part at ss) ∷ items (rest_part at ss) []) ≡ Some x
    → map args_at x.names ≡ args_of_named at (Some t) ss
args_with_trait at leading [] t x m h w e = absurd (clash (sym m))
args_with_trait at leading (None ∷ ss) t x m h w e = absurd (clash (sym m))
args_with_trait at leading (Some s ∷ ss) t x m h w e =
    let o = out-PathSegment s in
    let inner = in_projection at in
    let first = segment_is_level at s ∙ trait_first at inner o.seg o.name _ _ o.trait_ t h in
    qualified_args leading (type_part inner o.ty) (resolved_path_type inner t) (segments_part at ss) x
    (all_behind inner (segments_in (out-PathType t).path)) (all_behind at ss)
    (ap (λ y. path_read (front leading y ∷ items (segments_part at ss) [])) (sym first) ∙ e)
    (λ y k. trait_args inner (out-PathType t).path y w (ap path_of (sym (path_type_path inner t)) ∙ k))
    (args_of_rest at ss m) (written_stays at ss)

-- the theorem

named_args : (at : ResolveCtx) (p : AstPath) (x : PathRead) (tr : Option AstPathType) → first_trait (out-Path p).segs ≡ tr → Whole p
    → PlainTrait tr → path_of (tree.some_path (resolved_path at p)) ≡ Some x
    → map args_at x.names ≡ args_of_named at tr (out-Path p).segs
named_args at p x None h w t e = plain_args at p x w h e
named_args at p x (Some tr) h w t e =
    resolved_read at p x w e (λ ns. map args_at ns ≡ args_of_named at (Some tr) (out-Path p).segs) (λ y f.
    args_with_trait at (out-Path p).leading (out-Path p).segs tr y w.1 h t f)

listed : (ns : List Named) → beside_names (names_data ns) ≡ map args_at ns
listed [] = refl
listed (n ∷ ns) = ap (λ l. n.args ∷ l) (listed ns)

abbrev beside_data : Option PathData → List OptionArgsData
beside_data None = []
beside_data (Some d) = beside d

pub beside_theorem : (at : ResolveCtx) (p : AstPath) (d : PathData) → Whole p → PlainTrait (first_trait (out-Path p).segs)
    → written_path (tree.some_path (resolved_path at p)) ≡ Some d
    → beside d ≡ args_of_named at (first_trait (out-Path p).segs) (out-Path p).segs
beside_theorem at p d w t e = by (path_of (tree.some_path (resolved_path at p))) refl e
  where
    by : (y : Option PathRead) → path_of (tree.some_path (resolved_path at p)) ≡ y → option_map data_of y ≡ Some d
        → beside d ≡ args_of_named at (first_trait (out-Path p).segs) (out-Path p).segs
    by None h k = absurd (no_some k)
    by (Some x) h k = sym (ap beside_data k) ∙ (listed x.names ∙ named_args at p x (first_trait (out-Path p).segs) refl w t h)
