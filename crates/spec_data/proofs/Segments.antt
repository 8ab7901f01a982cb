-- Without use trees only the first segment of a path can end its reading.
use Rattle.std.proofs.Common.{◌≡◌, ◌∙◌, refl, sym, ap, subst, List, [], ◌∷◌, ◌++◌}
use Rattle.std.proofs.Common.{Option, Some, None, Bool, true, false}
use Rattle.std.specs.Prelude.{◌&&◌, not, if◌then◌else◌, map, reverse, option_map, is_some, bytes_eq, codes}
use Rattle.std.proofs.lemmas.List.{reverse-append, reverse-reverse, map-append}
use Rattle.hir_syntax.specs.declared.ast.Name.{Name as AstName}
use Rattle.hir_syntax.specs.declared.ast.Path.{Path as AstPath, out-Path}
use Rattle.hir_syntax.specs.declared.ast.PathSegment.{PathSegment as AstSegment, out-PathSegment}
use Rattle.hir_syntax.specs.declared.types.PathType.{PathType as AstPathType, out-PathType}
use Rattle.hir_syntax.specs.declared.ast.SegmentKind.{SegmentKind}
use Rattle.hir_syntax.specs.declared.ast.SegmentKind.TheVariants as word
use Rattle.hir_store.specs.declared.ids.CrateId.{CrateId}
use Rattle.hir_store.specs.declared.name.Name.{Name}
use Rattle.hir_store.specs.declared.name.Name.TheVariants as name
use Rattle.hir_env.specs.ResolveCtx.{ResolveCtx}
use Rattle.hir_env.specs.ResolvedTree as tree
use Rattle.hir_env.specs.ResolvedTree.{OptionType, SegmentArgs, Path, OptionPath, Segments, Segment}
use Rattle.hir_env.specs.TypeLayers.{PathTypeReading}
use Rattle.hir_env.specs.LocalPaths.{at_local_root, behind_root, is_bare, local_root}
use Rattle.hir_env.specs.PathNames.{mod_path_of}
use Rattle.hir_env.specs.Paths.{alias_at, called_path, context_at, crate_root_at, inside_projection, kinded_segment, qualified_segment}
use Rattle.hir_env.specs.Paths.{with_alias}
use Rattle.hir_env.specs.Whole.{resolved_path, resolved_segment, resolved_path_type, path_part, segments_part, first_part}
use Rattle.hir_env.specs.Whole.{rest_part, path_type_part, use_tree_part, into, reader}
use Rattle.hir_env.proofs.PathLevels.{path_is_level, segment_is_level, path_type_is_level}
use Rattle.spec_data.specs.Data.{TypeData, PathData, path_names, names_in}
use Rattle.spec_data.specs.Rule as rule
use Rattle.spec_data.specs.Rule.{Named, PathRead, Item, What, ends, ended, read, refused, names_of, read_of, path_read, data_of, names_data}
use Rattle.spec_data.specs.Rule.{first_without_self, last_without_self, first_behind_self, last_behind_self}
use Rattle.spec_data.specs.Written.{type_data, what, items, segments, path_of, written_path}
use Rattle.spec_data.specs.Segments.{name_borne, segment_name, named_among, named_segments, trait_of, first_trait, behind_trait}
use Rattle.spec_data.specs.Segments.{all_but_first, segments_behind, all_present, none_missing, Whole, is_qualified, none_qualified}
use Rattle.spec_data.specs.Segments.{PlainPath}
use Rattle.spec_data.specs.Segments.{PlainTrait}

abbrev holds : Bool → Type 0
holds true = Unit {0}
holds false = ⊥

clash : true ≡ false → ⊥
clash h = subst holds h tt

no_some : {A : Type 0} {x : A} → None ≡ Some x → ⊥
no_some h = clash (sym (ap is_some h))

abbrev pub name_at : Named → Name
name_at n = n.name

-- all is read

behind_goes_on : (s : Segment) (ns : List Named) → ends (what false s) ns ≡ false
behind_goes_on tree.absent_segment ns = refl
behind_goes_on tree.broken_segment ns = refl
behind_goes_on (tree.name_segment n _ a) ns = refl
behind_goes_on tree.self_type_segment ns = refl
behind_goes_on tree.crate_segment ns = refl
behind_goes_on (tree.dollar_crate_segment c) ns = refl
behind_goes_on tree.self_segment ns = refl
behind_goes_on tree.super_segment ns = refl
behind_goes_on (tree.type_segment t) ns = refl
behind_goes_on (tree.trait_segment t at p) ns = refl

all_go_on : (ss : Segments) → ended (items ss []) ≡ false
all_go_on tree.no_segments = refl
all_go_on (tree.more_segments s ss) = rw (behind_goes_on s (rule.names (items ss []))) (all_go_on ss)

read_all : (i : Item) (ss : Segments) → read (i ∷ items ss []) ≡ i ∷ items ss []
read_all i ss = rw (all_go_on ss) refl

-- the names of a segment

abbrev borne : Option Name → List Name
borne None = []
borne (Some n) = n ∷ []

-- those that it says
abbrev said : Bool → Segment → List Name
said first s = map name_at (names_of (what first s))

abbrev named_or_root : ResolveCtx → AstName → SegmentArgs → Bool → Segment
named_or_root at n a b =
    if b then tree.dollar_crate_segment (crate_root_at at.answers at.place n.id) else tree.name_segment (name.Text n.t) tt a

dollar_said : (at : ResolveCtx) (first : Bool) (n : AstName) (a : SegmentArgs) (b : Bool)
    → said first (named_or_root at n a b) ≡ borne (if b then None else Some (name.Text n.t))
dollar_said at false n a true = refl
dollar_said at true n a true = refl
dollar_said at first n a false = refl

qualified_behind : (ty : OptionType) (t : Option PathTypeReading) → said false (qualified_segment ty t) ≡ []
qualified_behind tree.no_type t = refl
qualified_behind (tree.some_type ty) None = refl
qualified_behind (tree.some_type ty) (Some t) = refl

said_behind : (at : ResolveCtx) (k : Option SegmentKind) (n : Option AstName) (a : SegmentArgs) (ty : OptionType)
    (t : Option PathTypeReading)
    → said false (kinded_segment at.answers at.place k n a ty t) ≡ borne (name_borne k n)
said_behind at None n a ty t = refl
said_behind at (Some word.Name) None a ty t = refl
said_behind at (Some word.Name) (Some n) a ty t = dollar_said at false n a (bytes_eq n.t (codes "$crate"))
said_behind at (Some word.SelfKw) n a ty t = refl
said_behind at (Some word.CrateKw) n a ty t = refl
said_behind at (Some word.SuperKw) n a ty t = refl
said_behind at (Some word.SelfTypeKw) n a ty t = refl
said_behind at (Some word.Qualified) n a ty t = qualified_behind ty t

qualified_alone : (ty : OptionType) → said true (qualified_segment ty None) ≡ []
qualified_alone tree.no_type = refl
qualified_alone (tree.some_type ty) = refl

-- where the type and the trait of a projection are read
abbrev in_projection : ResolveCtx → ResolveCtx
in_projection at = record at { place = inside_projection at.place }

-- of a first one without a trait
said_first : (at inner : ResolveCtx) (k : Option SegmentKind) (n : Option AstName) (a : SegmentArgs) (ty : OptionType)
    (t : Option AstPathType)
    → trait_of k t ≡ None → said true (kinded_segment at.answers at.place k n a ty (path_type_part inner t)) ≡ borne (name_borne k n)
said_first at inner None n a ty t h = refl
said_first at inner (Some word.Name) None a ty t h = refl
said_first at inner (Some word.Name) (Some n) a ty t h = dollar_said at true n a (bytes_eq n.t (codes "$crate"))
said_first at inner (Some word.SelfKw) n a ty t h = refl
said_first at inner (Some word.CrateKw) n a ty t h = refl
said_first at inner (Some word.SuperKw) n a ty t h = refl
said_first at inner (Some word.SelfTypeKw) n a ty t h = refl
said_first at inner (Some word.Qualified) n a ty t h = ap (λ x. said true (qualified_segment ty (path_type_part inner x))) h
    ∙ qualified_alone ty

segment_behind : (at : ResolveCtx) (s : AstSegment) → said false (resolved_segment at s) ≡ borne (segment_name s)
segment_behind at s = ap (said false) (segment_is_level at s) ∙ said_behind at (out-PathSegment s).seg (out-PathSegment s).name _ _ _

segment_first : (at : ResolveCtx) (s : AstSegment) → trait_of (out-PathSegment s).seg (out-PathSegment s).trait_ ≡ None
    → said true (resolved_segment at s) ≡ borne (segment_name s)
segment_first at s h = ap (said true) (segment_is_level at s)
    ∙ said_first at (in_projection at) (out-PathSegment s).seg (out-PathSegment s).name _ _ (out-PathSegment s).trait_ h

-- the names of all

abbrev all_names : List Item → List Name
all_names is = map name_at (rule.names is)

abbrev front : Bool → Segment → Item
front leading s = record { leading = leading; what = what true s }

one_more : (ns : List Name) (s : AstSegment) (ss : List AstSegment) → map Some ns ≡ map segment_name ss
    → map Some (borne (segment_name s) ++ ns) ≡ map segment_name (if is_some (segment_name s) then s ∷ ss else ss)
one_more ns s ss e = by (segment_name s) refl
  where
    by : (x : Option Name) → segment_name s ≡ x → map Some (borne x ++ ns) ≡ map segment_name (if is_some x then s ∷ ss else ss)
    by None h = e
    by (Some n) h = λ j. sym h j ∷ e j

one_said : (i : Item) (is : List Item) (s : AstSegment) (ss : List AstSegment) → map name_at (names_of i.what) ≡ borne (segment_name s)
    → map Some (all_names is) ≡ map segment_name ss
    → map Some (all_names (i ∷ is)) ≡ map segment_name (if is_some (segment_name s) then s ∷ ss else ss)
one_said i is s ss h e =
    ap (map Some) (map-append name_at (names_of i.what) (rule.names is) ∙ ap (λ ns. ns ++ all_names is) h) ∙ one_more (all_names is) s ss e

names_behind : (at : ResolveCtx) (ss : List (Option AstSegment)) → all_present ss ≡ true
    → map Some (all_names (items (segments_part at ss) [])) ≡ map segment_name (named_among ss)
names_behind at [] h = refl
names_behind at (None ∷ ss) h = absurd (clash (sym h))
names_behind at (Some s ∷ ss) h = one_said (record { leading = false; what = what false (resolved_segment at s) })
    (items (segments_part at ss) []) s (named_among ss) (segment_behind at s) (names_behind at ss h)

names_first : (at : ResolveCtx) (leading : Bool) (ss : List (Option AstSegment)) → none_missing ss ≡ true → first_trait ss ≡ None
    → map Some (all_names (front leading (first_part at ss) ∷ items (rest_part at ss) [])) ≡ map segment_name (named_among ss)
names_first at leading [] h t = absurd (clash (sym h))
names_first at leading (None ∷ ss) h t = absurd (clash (sym h))
names_first at leading (Some s ∷ ss) h t = one_said (front leading (resolved_segment at s))
    (items (segments_part at ss) []) s (named_among ss) (segment_first at s t) (names_behind at ss h)

-- a path that is read

map_reverse : {A B : Type 0} (f : A → B) (xs : List A) → map f (reverse xs) ≡ reverse (map f xs)
map_reverse f [] = refl
map_reverse f (x ∷ xs) =
    ap (map f) (reverse-append (x ∷ []) xs)
    ∙ (map-append f (reverse xs) (x ∷ [])
    ∙ (ap (λ l. l ++ f x ∷ []) (map_reverse f xs)
    ∙ sym (reverse-append (f x ∷ []) (map f xs))))

-- the last of a list is changed, and its names aren't
pub last_changed : (f : List Named → List Named) → ((ns : List Named) → map name_at (f ns) ≡ map name_at ns) → (ns : List Named)
    → map name_at (reverse (f (reverse ns))) ≡ map name_at ns
last_changed f h ns = map_reverse name_at (f (reverse ns))
    ∙ (ap reverse (h (reverse ns) ∙ map_reverse name_at ns) ∙ reverse-reverse (map name_at ns))

pub without_names : (ns : List Named) → map name_at (first_without_self ns) ≡ map name_at ns
without_names [] = refl
without_names (n ∷ ns) = refl

pub behind_names : (t : TypeData) (ns : List Named) → map name_at (first_behind_self t ns) ≡ map name_at ns
behind_names t [] = refl
behind_names t (n ∷ ns) = refl

abbrev names_read : Option PathRead → List Name
names_read None = []
names_read (Some x) = map name_at x.names

abbrev names_found : Option PathRead → List Named
names_found None = []
names_found (Some x) = x.names

read_named : (is : List Item) (x : PathRead) → path_read is ≡ Some x → map name_at x.names ≡ all_names is
read_named is x h = by (refused is) h
  where
    by : (b : Bool) → (if b then None else Some (read_of is)) ≡ Some x → map name_at x.names ≡ all_names is
    by false e = sym (ap names_read e) ∙ last_changed first_without_self without_names (rule.names is)
    by true e = absurd (no_some e)

-- a path of this level is read whole
level_read : (leading : Bool) (first : Segment) (rest : Segments) (use_ : OptionPath) (x : PathRead) → use_ ≡ tree.no_path
    → path_of (tree.some_path (tree.path None leading first rest use_)) ≡ Some x → path_read (front leading first ∷ items rest []) ≡ Some x
level_read leading first rest use_ x u e =
    let is = front leading first ∷ items rest [] in
    let whole : read (segments (tree.path None leading first rest use_) []) ≡ is = rw u (read_all (front leading first) rest) in
    ap path_read (sym whole) ∙ e

no_use : (at : ResolveCtx) (x : Option AstPath) → x ≡ None → use_tree_part at x ≡ tree.no_path
no_use at x h = ap (use_tree_part at) h

-- behind the root of the crate it has the same names
rooted_read : (root : Option CrateId) (leading : Bool) (first : Segment) (x : PathRead)
    → path_of (tree.some_path (behind_root root (tree.path None leading first tree.no_segments tree.no_path))) ≡ Some x
    → (Q : List Name → Type 0) → ((y : PathRead) → path_read (front leading first ∷ []) ≡ Some y → Q (map name_at y.names))
    → Q (map name_at x.names)
rooted_read root leading first x e Q k = by (ended (front leading first ∷ [])) e
  where
    all : List Item
    all = front false (tree.dollar_crate_segment root) ∷ front leading first ∷ []

    whole : (b : Bool) → (if b then None else Some (read_of all)) ≡ Some x
        → ((y : PathRead) → (if b then None else Some (read_of (front leading first ∷ []))) ≡ Some y → Q (map name_at y.names))
        → Q (map name_at x.names)
    whole true h l = absurd (no_some h)
    whole false h l = subst Q (ap (λ y. map name_at (names_found y)) h) (l (read_of (front leading first ∷ [])) refl)

    by : (b : Bool) → path_read (if b then front leading first ∷ [] else all) ≡ Some x → Q (map name_at x.names)
    by true h = k x h
    by false h = whole (refused (front leading first ∷ [])) h k

local_read : (root : Option (Option CrateId)) (leading : Bool) (first : Segment) (x : PathRead)
    → path_of (tree.some_path (at_local_root root (tree.path None leading first tree.no_segments tree.no_path))) ≡ Some x
    → (Q : List Name → Type 0) → ((y : PathRead) → path_read (front leading first ∷ []) ≡ Some y → Q (map name_at y.names))
    → Q (map name_at x.names)
local_read None leading first x e Q k = k x e
local_read (Some root) leading first x e Q k = by (is_bare (mod_path_of (tree.some_path plain))) e
  where
    plain : Path
    plain = tree.path None leading first tree.no_segments tree.no_path

    by : (b : Bool) → path_of (tree.some_path (if b then behind_root root plain else plain)) ≡ Some x → Q (map name_at x.names)
    by true h = rooted_read root leading first x h Q k
    by false h = k x h

called_read : (at : ResolveCtx) (in_macro leading : Bool) (ss : List (Option AstSegment)) (u : Option AstPath) (x : PathRead) → u ≡ None
    → none_missing ss ≡ true
    → path_of (tree.some_path (called_path at.answers (reader at.answers (into at)) in_macro leading ss u at.place
    (tree.path None leading (first_part at ss) (rest_part at ss) (use_tree_part at u)))) ≡ Some x
    → (Q : List Name → Type 0)
    → ((y : PathRead) → path_read (front leading (first_part at ss) ∷ items (rest_part at ss) []) ≡ Some y → Q (map name_at y.names))
    → Q (map name_at x.names)
called_read at false leading ss u x h m e Q k =
    k x (level_read leading (first_part at ss) (rest_part at ss) (use_tree_part at u) x (no_use at u h) e)
called_read at true leading [] u x h m e Q k = absurd (clash (sym m))
called_read at true leading (None ∷ ss) u x h m e Q k = absurd (clash (sym m))
called_read at true leading (Some s ∷ []) None x h m e Q k =
    local_read (local_root at.answers (context_at at.answers at.place (out-PathSegment s).id)) leading (resolved_segment at s) x e Q k
called_read at true leading (Some s ∷ []) (Some u) x h m e Q k = absurd (no_some (sym h))
called_read at true leading (Some s ∷ t ∷ ss) u x h m e Q k =
    let all = Some s ∷ t ∷ ss in
    k x (level_read leading (first_part at all) (rest_part at all) (use_tree_part at u) x (no_use at u h) e)

-- what is read doesn't look at the alias
aliased_read : (alias : Option (List Bool)) (y : Path) → path_of (tree.some_path (with_alias alias y)) ≡ path_of (tree.some_path y)
aliased_read alias (tree.path _ leading first rest use_) = refl

-- the names that are read are those of the path where it stands in no call
resolved_read : (at : ResolveCtx) (p : AstPath) (x : PathRead) → Whole p → path_of (tree.some_path (resolved_path at p)) ≡ Some x
    → (Q : List Name → Type 0)
    → ((y : PathRead) → path_read (front (out-Path p).leading (first_part at (out-Path p).segs) ∷ items (rest_part at (out-Path p).segs) [])
    ≡ Some y → Q (map name_at y.names))
    → Q (map name_at x.names)
resolved_read at p x w e =
    let o = out-Path p in
    let plain = tree.path None o.leading (first_part at o.segs) (rest_part at o.segs) (use_tree_part at o.use_) in
    let y = called_path at.answers (reader at.answers (into at)) o.in_macro o.leading o.segs o.use_ at.place plain in
    called_read at o.in_macro o.leading o.segs o.use_ x w.0 w.1 (sym (aliased_read (alias_at at.answers at.place y) y)
    ∙ (ap (λ z. path_of (tree.some_path z)) (sym (path_is_level at p)) ∙ e))

-- without a trait
plain_named : (at : ResolveCtx) (p : AstPath) (x : PathRead) → Whole p → first_trait (out-Path p).segs ≡ None
    → path_of (tree.some_path (resolved_path at p)) ≡ Some x
    → map Some (map name_at x.names) ≡ map segment_name (named_among (out-Path p).segs)
plain_named at p x w t e =
    let o = out-Path p in
    resolved_read at p x w e (λ l. map Some l ≡ map segment_name (named_among o.segs)) (λ y h.
    ap (map Some) (read_named (front o.leading (first_part at o.segs) ∷ items (rest_part at o.segs) []) y h)
    ∙ names_first at o.leading o.segs w.1 t)

-- a path with a trait

unqualified : (k : Option SegmentKind) (t : Option AstPathType) → not (is_qualified k) ≡ true → trait_of k t ≡ None
unqualified None t h = refl
unqualified (Some word.Name) t h = refl
unqualified (Some word.SelfKw) t h = refl
unqualified (Some word.CrateKw) t h = refl
unqualified (Some word.SuperKw) t h = refl
unqualified (Some word.SelfTypeKw) t h = refl
unqualified (Some word.Qualified) t h = absurd (clash (sym h))

left : (a b : Bool) → (a && b) ≡ true → a ≡ true
left true b h = refl
left false b h = h

no_trait : (ss : List (Option AstSegment)) → none_qualified ss ≡ true → first_trait ss ≡ None
no_trait [] h = refl
no_trait (None ∷ ss) h = refl
no_trait (Some s ∷ ss) h =
    let k = (out-PathSegment s).seg in
    unqualified k (out-PathSegment s).trait_ (left (not (is_qualified k)) (none_qualified ss) h)

named_append : (xs ys : List (Option AstSegment)) → named_among (xs ++ ys) ≡ named_among xs ++ named_among ys
named_append [] ys = refl
named_append (None ∷ xs) ys = named_append xs ys
named_append (Some s ∷ xs) ys = by (is_some (segment_name s)) (named_append xs ys)
  where
    by : (b : Bool) → named_among (xs ++ ys) ≡ named_among xs ++ named_among ys
        → (if b then s ∷ named_among (xs ++ ys) else named_among (xs ++ ys))
        ≡ (if b then s ∷ named_among xs else named_among xs) ++ named_among ys
    by true e = ap (λ l. s ∷ l) e
    by false e = e

-- it stands in the tree
trait_first : (at inner : ResolveCtx) (k : Option SegmentKind) (n : Option AstName) (a : SegmentArgs) (ty : OptionType)
    (tr : Option AstPathType) (t : AstPathType)
    → trait_of k tr ≡ Some t
    → kinded_segment at.answers at.place k n a ty (path_type_part inner tr) ≡ qualified_segment ty (Some (resolved_path_type inner t))
trait_first at inner None n a ty tr t h = absurd (no_some h)
trait_first at inner (Some word.Name) n a ty tr t h = absurd (no_some h)
trait_first at inner (Some word.SelfKw) n a ty tr t h = absurd (no_some h)
trait_first at inner (Some word.CrateKw) n a ty tr t h = absurd (no_some h)
trait_first at inner (Some word.SuperKw) n a ty tr t h = absurd (no_some h)
trait_first at inner (Some word.SelfTypeKw) n a ty tr t h = absurd (no_some h)
trait_first at inner (Some word.Qualified) n a ty tr t h = ap (λ x. qualified_segment ty (path_type_part inner x)) h

-- the names of the trait, then those behind it
trait_names : (at : ResolveCtx) (q : Option AstPath) (x : PathRead) → PlainPath q → path_of (path_part at q) ≡ Some x
    → (ss : List (Option AstSegment))
    → (ns : List Name) → map Some ns ≡ map segment_name (named_among ss)
    → map Some (map name_at x.names ++ ns) ≡ map segment_name (behind_trait q ss)
trait_names at None x w e ss ns h = absurd (no_some e)
trait_names at (Some q) x w e ss ns h =
    map-append Some (map name_at x.names) ns
    ∙ ((λ j. plain_named at q x w.0 (no_trait (out-Path q).segs w.1) e j ++ h j)
    ∙ (sym (map-append segment_name (named_among (out-Path q).segs) (named_among ss))
    ∙ ap (map segment_name) (sym (named_append (out-Path q).segs ss))))

-- of a qualified type in front
qualified_named : (at : ResolveCtx) (leading : Bool) (ty : OptionType) (r : PathTypeReading) (rest : Segments) (x : PathRead)
    → path_read (front leading (qualified_segment ty (Some r)) ∷ items rest []) ≡ Some x
    → (Q : List Name → Type 0) → ((y : PathRead) → path_of r.path ≡ Some y → Q (map name_at y.names ++ all_names (items rest [])))
    → Q (map name_at x.names)
qualified_named at leading tree.no_type r rest x e Q k = absurd (no_some e)
qualified_named at leading (tree.some_type ty) r rest x e Q k = by (path_of r.path) refl
  where
    abbrev_items : Option PathRead → List Item
    abbrev_items y = record { leading = leading; what = rule.projection (type_data None ty) y } ∷ items rest []

    changed : (ns : List Named) → map name_at (last_behind_self (type_data None ty) ns) ≡ map name_at ns
    changed = last_changed (first_behind_self (type_data None ty)) (behind_names (type_data None ty))

    by : (y : Option PathRead) → path_of r.path ≡ y → Q (map name_at x.names)
    by None h = absurd (no_some (sym (ap (λ y. path_read (abbrev_items y)) h) ∙ e))
    by (Some y) h = subst Q
        (sym (read_named (abbrev_items (Some y)) x (sym (ap (λ z. path_read (abbrev_items z)) h) ∙ e)
        ∙ (map-append name_at (last_behind_self (type_data None ty) y.names) (rule.names (items rest []))
        ∙ ap (λ ns. ns ++ all_names (items rest [])) (changed y.names))))
        (k y h)

path_type_path : (at : ResolveCtx) (t : AstPathType) → (resolved_path_type at t).path ≡ path_part at (out-PathType t).path
path_type_path at t = ap (λ r. r.path) (path_type_is_level at t)

trait_named : (at : ResolveCtx) (leading : Bool) (ss : List (Option AstSegment)) (t : AstPathType) (x : PathRead) → none_missing ss ≡ true
    → first_trait ss ≡ Some t → PlainTrait (Some t)
    → path_read (front leading (first_part at ss) ∷ items (rest_part at ss) []) ≡ Some x
    → map Some (map name_at x.names) ≡ map segment_name (behind_trait (out-PathType t).path (all_but_first ss))
trait_named at leading [] t x m h w e = absurd (clash (sym m))
trait_named at leading (None ∷ ss) t x m h w e = absurd (clash (sym m))
trait_named at leading (Some s ∷ ss) t x m h w e =
    let o = out-PathSegment s in
    let inner = in_projection at in
    let r = resolved_path_type inner t in
    let ns = all_names (items (segments_part at ss) []) in
    let first = segment_is_level at s ∙ trait_first at inner o.seg o.name _ _ o.trait_ t h in
    qualified_named at leading _ r (segments_part at ss) x
    (ap (λ y. path_read (front leading y ∷ items (segments_part at ss) [])) (sym first) ∙ e)
    (λ l. map Some l ≡ map segment_name (behind_trait (out-PathType t).path ss))
    (λ y k. trait_names inner (out-PathType t).path y w (ap path_of (sym (path_type_path inner t)) ∙ k) ss ns (names_behind at ss m))

-- the theorem

replaced_named : (at : ResolveCtx) (p : AstPath) (x : PathRead) (tr : Option AstPathType) → first_trait (out-Path p).segs ≡ tr → Whole p
    → PlainTrait tr
    → path_of (tree.some_path (resolved_path at p)) ≡ Some x
    → map Some (map name_at x.names) ≡ map segment_name (segments_behind tr (out-Path p).segs)
replaced_named at p x None h w t e = plain_named at p x w h e
replaced_named at p x (Some tr) h w t e =
    resolved_read at p x w e (λ l. map Some l ≡ map segment_name (segments_behind (Some tr) (out-Path p).segs)) (λ y f.
    trait_named at (out-Path p).leading (out-Path p).segs tr y w.1 h t f)

listed : (ns : List Named) → names_in (names_data ns) ≡ map name_at ns
listed [] = refl
listed (n ∷ ns) = ap (λ l. n.name ∷ l) (listed ns)

abbrev names_of_data : Option PathData → List Name
names_of_data None = []
names_of_data (Some d) = path_names d

pub segment_theorem : (at : ResolveCtx) (p : AstPath) (d : PathData) → Whole p → PlainTrait (first_trait (out-Path p).segs)
    → written_path (tree.some_path (resolved_path at p)) ≡ Some d → map Some (path_names d) ≡ map segment_name (named_segments p)
segment_theorem at p d w t e = by (path_of (tree.some_path (resolved_path at p))) refl e
  where
    by : (y : Option PathRead) → path_of (tree.some_path (resolved_path at p)) ≡ y → option_map data_of y ≡ Some d
        → map Some (path_names d) ≡ map segment_name (named_segments p)
    by None h k = absurd (no_some k)
    by (Some x) h k = ap (map Some) (sym (ap names_of_data k) ∙ listed x.names)
        ∙ replaced_named at p x (first_trait (out-Path p).segs) refl w t h
