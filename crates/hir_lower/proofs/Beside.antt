-- Beside the names of a path without a trait stands what is written behind their segments.
use Rattle.std.proofs.Common.{◌≡◌, ◌∙◌, refl, sym, ap, subst, List, [], ◌∷◌, ◌++◌}
use Rattle.std.proofs.Common.{Option, Some, None, Bool, true, false}
use Rattle.std.specs.Prelude.{if◌then◌else◌, map, reverse, is_some, bytes_eq, codes}
use Rattle.std.proofs.lemmas.List.{reverse-append, reverse-reverse, map-append}
use Rattle.hir_syntax.specs.declared.ast.Name.{Name as AstName}
use Rattle.hir_syntax.specs.declared.ast.Path.{Path as AstPath, out-Path}
use Rattle.hir_syntax.specs.declared.ast.PathSegment.{PathSegment as AstSegment, out-PathSegment}
use Rattle.hir_syntax.specs.declared.types.PathType.{PathType as AstPathType}
use Rattle.hir_syntax.specs.declared.ast.SegmentKind.{SegmentKind}
use Rattle.hir_syntax.specs.declared.ast.SegmentKind.TheVariants as word
use Rattle.hir_store.specs.declared.ids.CrateId.{CrateId}
use Rattle.hir_store.specs.declared.name.Name.TheVariants as name
use Rattle.hir_env.specs.ResolveCtx.{ResolveCtx}
use Rattle.hir_env.specs.ResolvedTree as tree
use Rattle.hir_env.specs.ResolvedTree.{OptionType, SegmentArgs, OptionArgs, OptionParens, Path, OptionPath, Segments, Segment}
use Rattle.hir_env.specs.TypeLayers.{PathTypeReading}
use Rattle.hir_env.specs.LocalPaths.{at_local_root, behind_root, is_bare, local_root}
use Rattle.hir_env.specs.PathNames.{mod_path_of}
use Rattle.hir_env.specs.Paths.{alias_at, called_path, context_at, crate_root_at, kinded_segment, qualified_segment}
use Rattle.hir_env.specs.Paths.{with_alias}
use Rattle.hir_env.specs.Whole.{resolved_path, resolved_segment, use_tree_part, segments_part, first_part, rest_part, path_type_part}
use Rattle.hir_env.specs.Whole.{into, reader}
use Rattle.hir_env.proofs.PathLevels.{path_is_level, segment_is_level}
use Rattle.spec_data.specs.Data as datum
use Rattle.spec_data.specs.Data.{ArgumentsData, BindingsData, OptionArgsData, no_args, PathData}
use Rattle.spec_data.specs.Rule as rule
use Rattle.spec_data.specs.Rule.{Named, PathRead, Item, ends, ended, read, refused, names_of, read_of, path_read, data_of, names_data}
use Rattle.spec_data.specs.Rule.{first_without_self, last_without_self, without_self}
use Rattle.spec_data.specs.Written.{what, items, segments, path_of, list_data, parens_data, notation, first_list, yielded}
use Rattle.spec_data.specs.Written.{segment_args_data, arguments_of, bindings_of}
use Rattle.spec_data.specs.Segments.{name_borne, segment_name, named_among, trait_of, first_trait, all_present}
use Rattle.spec_data.specs.Segments.{none_missing, Whole}
use Rattle.hir_lower.specs.Beside.{all_behind, args_behind, behind_name, in_projection}

abbrev holds : Bool → Type 0
holds true = Unit {0}
holds false = ⊥

pub clash : true ≡ false → ⊥
clash h = subst holds h tt

pub no_some : {A : Type 0} {x : A} → None ≡ Some x → ⊥
no_some h = clash (sym (ap is_some h))

abbrev pub args_at : Named → OptionArgsData
args_at n = n.args

-- no argument for `Self` is written

yielded_stays : (as' : ArgumentsData) (bs : BindingsData) → without_self (yielded as' bs) ≡ yielded as' bs
yielded_stays datum.no_arguments datum.no_bindings = refl
yielded_stays datum.no_arguments (datum.more_bindings b bs) = refl
yielded_stays (datum.more_arguments a as') bs = refl

list_stays : (l : OptionArgs) → without_self (list_data l) ≡ list_data l
list_stays tree.no_arg_list = refl
list_stays (tree.some_arg_list as') = yielded_stays (arguments_of as') (bindings_of as')

parens_stay : (p : OptionParens) → without_self (parens_data p) ≡ parens_data p
parens_stay tree.no_parens = refl
parens_stay (tree.some_parens ps r) = refl

notation_stays : (dots : Bool) → without_self (notation dots) ≡ notation dots
notation_stays false = refl
notation_stays true = refl

first_stays : (a b : OptionArgsData) → without_self a ≡ a → without_self b ≡ b → without_self (first_list a b) ≡ first_list a b
first_stays datum.no_args b h k = k
first_stays (datum.some_args a) b h k = h

segment_stays : (a : SegmentArgs) → without_self (segment_args_data a) ≡ segment_args_data a
segment_stays (tree.segment_args l p dots) = first_stays (list_data l) (first_list (parens_data p) (notation dots)) (list_stays l)
    (first_stays (parens_data p) (notation dots) (parens_stay p) (notation_stays dots))

name_stays : (s : Segment) → without_self (behind_name s) ≡ behind_name s
name_stays tree.absent_segment = refl
name_stays tree.broken_segment = refl
name_stays (tree.name_segment n _ a) = segment_stays a
name_stays tree.self_type_segment = refl
name_stays tree.crate_segment = refl
name_stays (tree.dollar_crate_segment c) = refl
name_stays tree.self_segment = refl
name_stays tree.super_segment = refl
name_stays (tree.type_segment t) = refl
name_stays (tree.trait_segment t at p) = refl

-- beside the names of a segment

abbrev borne : Bool → OptionArgsData → List OptionArgsData
borne false a = []
borne true a = a ∷ []

-- what a segment has beside its names
abbrev said : Bool → Segment → List OptionArgsData
said first s = map args_at (names_of (what first s))

abbrev named_or_root : ResolveCtx → AstName → SegmentArgs → Bool → Segment
named_or_root at n a b =
    if b then tree.dollar_crate_segment (crate_root_at at.answers at.place n.id) else tree.name_segment (name.Text n.t) tt a

dollar_said : (at : ResolveCtx) (first : Bool) (n : AstName) (a : SegmentArgs) (b : Bool)
    → said first (named_or_root at n a b)
    ≡ borne (is_some (if b then None else Some (name.Text n.t))) (behind_name (named_or_root at n a b))
dollar_said at false n a true = refl
dollar_said at true n a true = refl
dollar_said at first n a false = refl

qualified_behind : (ty : OptionType) (t : Option PathTypeReading) → said false (qualified_segment ty t) ≡ []
qualified_behind tree.no_type t = refl
qualified_behind (tree.some_type ty) None = refl
qualified_behind (tree.some_type ty) (Some t) = refl

said_behind : (at : ResolveCtx) (k : Option SegmentKind) (n : Option AstName) (a : SegmentArgs) (ty : OptionType)
    (t : Option PathTypeReading)
    → let s = kinded_segment at.answers at.place k n a ty t in said false s ≡ borne (is_some (name_borne k n)) (behind_name s)
said_behind at None n a ty t = refl
said_behind at (Some word.Name) None a ty t = refl
said_behind at (Some word.Name) (Some n) a ty t = dollar_said at false n a (bytes_eq n.t (codes "$crate"))
said_behind at (Some word.SelfKw) n a ty t = refl
said_behind at (Some word.CrateKw) n a ty t = refl
said_behind at (Some word.SuperKw) n a ty t = refl
said_behind at (Some word.SelfTypeKw) n a ty t = refl
said_behind at (Some word.Qualified) n a ty t = qualified_behind ty t

qualified_alone : (ty : OptionType) → said true (qualified_segment ty None) ≡ []
qualified_alone tree.no_type = refl
qualified_alone (tree.some_type ty) = refl

said_first : (at inner : ResolveCtx) (k : Option SegmentKind) (n : Option AstName) (a : SegmentArgs) (ty : OptionType)
    (t : Option AstPathType)
    → trait_of k t ≡ None → let s = kinded_segment at.answers at.place k n a ty (path_type_part inner t) in
    said true s ≡ borne (is_some (name_borne k n)) (behind_name s)
said_first at inner None n a ty t h = refl
said_first at inner (Some word.Name) None a ty t h = refl
said_first at inner (Some word.Name) (Some n) a ty t h = dollar_said at true n a (bytes_eq n.t (codes "$crate"))
said_first at inner (Some word.SelfKw) n a ty t h = refl
said_first at inner (Some word.CrateKw) n a ty t h = refl
said_first at inner (Some word.SuperKw) n a ty t h = refl
said_first at inner (Some word.SelfTypeKw) n a ty t h = refl
said_first at inner (Some word.Qualified) n a ty t h = ap (λ x. said true (qualified_segment ty (path_type_part inner x))) h
    ∙ qualified_alone ty

segment_behind : (at : ResolveCtx) (s : AstSegment)
    → said false (resolved_segment at s) ≡ borne (is_some (segment_name s)) (args_behind at s)
segment_behind at s =
    let o = out-PathSegment s in
    ap (said false) (segment_is_level at s)
    ∙ (said_behind at o.seg o.name _ _ _ ∙ ap (λ x. borne (is_some (segment_name s)) (behind_name x)) (sym (segment_is_level at s)))

segment_first : (at : ResolveCtx) (s : AstSegment) → trait_of (out-PathSegment s).seg (out-PathSegment s).trait_ ≡ None
    → said true (resolved_segment at s) ≡ borne (is_some (segment_name s)) (args_behind at s)
segment_first at s h =
    let o = out-PathSegment s in
    ap (said true) (segment_is_level at s)
    ∙ (said_first at (in_projection at) o.seg o.name _ _ o.trait_ h
    ∙ ap (λ x. borne (is_some (segment_name s)) (behind_name x)) (sym (segment_is_level at s)))

-- beside all of them

abbrev pub all_args : List Item → List OptionArgsData
all_args is = map args_at (rule.names is)

abbrev pub front : Bool → Segment → Item
front leading s = record { leading = leading; what = what true s }

one_more : (at : ResolveCtx) (as' : List OptionArgsData) (s : AstSegment) (ss : List AstSegment) (b : Bool) → as' ≡ map (args_behind at) ss
    → borne b (args_behind at s) ++ as' ≡ map (args_behind at) (if b then s ∷ ss else ss)
one_more at as' s ss false e = e
one_more at as' s ss true e = ap (λ l. args_behind at s ∷ l) e

one_said : (at : ResolveCtx) (i : Item) (is : List Item) (s : AstSegment) (ss : List AstSegment)
    → map args_at (names_of i.what) ≡ borne (is_some (segment_name s)) (args_behind at s) → all_args is ≡ map (args_behind at) ss
    → all_args (i ∷ is) ≡ map (args_behind at) (if is_some (segment_name s) then s ∷ ss else ss)
one_said at i is s ss h e =
    map-append args_at (names_of i.what) (rule.names is)
    ∙ (ap (λ l. l ++ all_args is) h ∙ one_more at (all_args is) s ss (is_some (segment_name s)) e)

pub args_of_rest : (at : ResolveCtx) (ss : List (Option AstSegment)) → all_present ss ≡ true
    → all_args (items (segments_part at ss) []) ≡ map (args_behind at) (named_among ss)
args_of_rest at [] h = refl
args_of_rest at (None ∷ ss) h = absurd (clash (sym h))
args_of_rest at (Some s ∷ ss) h = one_said at (record { leading = false; what = what false (resolved_segment at s) })
    (items (segments_part at ss) []) s (named_among ss) (segment_behind at s) (args_of_rest at ss h)

args_of_all : (at : ResolveCtx) (leading : Bool) (ss : List (Option AstSegment)) → none_missing ss ≡ true → first_trait ss ≡ None
    → all_args (front leading (first_part at ss) ∷ items (rest_part at ss) []) ≡ map (args_behind at) (named_among ss)
args_of_all at leading [] h t = absurd (clash (sym h))
args_of_all at leading (None ∷ ss) h t = absurd (clash (sym h))
args_of_all at leading (Some s ∷ ss) h t = one_said at (front leading (resolved_segment at s))
    (items (segments_part at ss) []) s (named_among ss) (segment_first at s t) (args_of_rest at ss h)

-- a path that is read

pub map_reverse : {A B : Type 0} (f : A → B) (xs : List A) → map f (reverse xs) ≡ reverse (map f xs)
map_reverse f [] = refl
map_reverse f (x ∷ xs) =
    ap (map f) (reverse-append (x ∷ []) xs)
    ∙ (map-append f (reverse xs) (x ∷ [])
    ∙ (ap (λ l. l ++ f x ∷ []) (map_reverse f xs)
    ∙ sym (reverse-append (f x ∷ []) (map f xs))))

abbrev head_or : OptionArgsData → List OptionArgsData → OptionArgsData
head_or a [] = a
head_or a (x ∷ xs) = x

abbrev pub first_without : List OptionArgsData → List OptionArgsData
first_without [] = []
first_without (a ∷ as') = without_self a ∷ as'

-- the last without an argument for `Self`
abbrev pub last_without : List OptionArgsData → List OptionArgsData
last_without as' = reverse (first_without (reverse as'))

-- where none has one, none goes
first_corresponds : (as' : List OptionArgsData) → map without_self as' ≡ as' → first_without as' ≡ as'
first_corresponds [] h = refl
first_corresponds (a ∷ as') h = ap (λ x. x ∷ as') (ap (head_or no_args) h)

pub last_corresponds : (as' : List OptionArgsData) → map without_self as' ≡ as' → last_without as' ≡ as'
last_corresponds as' h =
    ap reverse (first_corresponds (reverse as') (map_reverse without_self as' ∙ ap reverse h)) ∙ reverse-reverse as'

first_args : (ns : List Named) → map args_at (first_without_self ns) ≡ first_without (map args_at ns)
first_args [] = refl
first_args (n ∷ ns) = refl

last_args : (ns : List Named) → map args_at (last_without_self ns) ≡ last_without (map args_at ns)
last_args ns = map_reverse args_at (first_without_self (reverse ns))
    ∙ ap reverse (first_args (reverse ns) ∙ ap first_without (map_reverse args_at ns))

-- what is written has none
behind_stay : (at : ResolveCtx) (ss : List AstSegment) → map without_self (map (args_behind at) ss) ≡ map (args_behind at) ss
behind_stay at [] = refl
behind_stay at (s ∷ ss) = λ j. name_stays (resolved_segment at s) j ∷ behind_stay at ss j

pub written_stays : (at : ResolveCtx) (ss : List (Option AstSegment)) → last_without (all_behind at ss) ≡ all_behind at ss
written_stays at ss = last_corresponds (all_behind at ss) (behind_stay at (named_among ss))

abbrev names_found : Option PathRead → List Named
names_found None = []
names_found (Some x) = x.names

pub read_args : (is : List Item) (x : PathRead) → path_read is ≡ Some x → map args_at x.names ≡ last_without (all_args is)
read_args is x h = by (refused is) h
  where
    by : (b : Bool) → (if b then None else Some (read_of is)) ≡ Some x → map args_at x.names ≡ last_without (all_args is)
    by false e = sym (ap (λ y. map args_at (names_found y)) e) ∙ last_args (rule.names is)
    by true e = absurd (no_some e)

behind_goes_on : (s : Segment) (ns : List Named) → ends (what false s) ns ≡ false
behind_goes_on tree.absent_segment ns = refl
behind_goes_on tree.broken_segment ns = refl
behind_goes_on (tree.name_segment n _ a) ns = refl
behind_goes_on tree.self_type_segment ns = refl
behind_goes_on tree.crate_segment ns = refl
behind_goes_on (tree.dollar_crate_segment c) ns = refl
behind_goes_on tree.self_segment ns = refl
behind_goes_on tree.super_segment ns = refl
behind_goes_on (tree.type_segment t) ns = refl
behind_goes_on (tree.trait_segment t at p) ns = refl

all_go_on : (ss : Segments) → ended (items ss []) ≡ false
all_go_on tree.no_segments = refl
all_go_on (tree.more_segments s ss) = rw (behind_goes_on s (rule.names (items ss []))) (all_go_on ss)

read_all : (i : Item) (ss : Segments) → read (i ∷ items ss []) ≡ i ∷ items ss []
read_all i ss = rw (all_go_on ss) refl

level_read : (leading : Bool) (first : Segment) (rest : Segments) (use_ : OptionPath) (x : PathRead) → use_ ≡ tree.no_path
    → path_of (tree.some_path (tree.path None leading first rest use_)) ≡ Some x → path_read (front leading first ∷ items rest []) ≡ Some x
level_read leading first rest use_ x u e =
    let is = front leading first ∷ items rest [] in
    let whole : read (segments (tree.path None leading first rest use_) []) ≡ is = rw u (read_all (front leading first) rest) in
    ap path_read (sym whole) ∙ e

no_use : (at : ResolveCtx) (x : Option AstPath) → x ≡ None → use_tree_part at x ≡ tree.no_path
no_use at x h = ap (use_tree_part at) h

rooted_read : (root : Option CrateId) (leading : Bool) (first : Segment) (x : PathRead)
    → path_of (tree.some_path (behind_root root (tree.path None leading first tree.no_segments tree.no_path))) ≡ Some x
    → (Q : List Named → Type 0) → ((y : PathRead) → path_read (front leading first ∷ []) ≡ Some y → Q y.names) → Q x.names
rooted_read root leading first x e Q k = by (ended (front leading first ∷ [])) e
  where
    all : List Item
    all = front false (tree.dollar_crate_segment root) ∷ front leading first ∷ []

    whole : (b : Bool) → (if b then None else Some (read_of all)) ≡ Some x
        → ((y : PathRead) → (if b then None else Some (read_of (front leading first ∷ []))) ≡ Some y → Q y.names) → Q x.names
    whole true h l = absurd (no_some h)
    whole false h l = subst Q (ap names_found h) (l (read_of (front leading first ∷ [])) refl)

    by : (b : Bool) → path_read (if b then front leading first ∷ [] else all) ≡ Some x → Q x.names
    by true h = k x h
    by false h = whole (refused (front leading first ∷ [])) h k

local_read : (root : Option (Option CrateId)) (leading : Bool) (first : Segment) (x : PathRead)
    → path_of (tree.some_path (at_local_root root (tree.path None leading first tree.no_segments tree.no_path))) ≡ Some x
    → (Q : List Named → Type 0) → ((y : PathRead) → path_read (front leading first ∷ []) ≡ Some y → Q y.names) → Q x.names
local_read None leading first x e Q k = k x e
local_read (Some root) leading first x e Q k = by (is_bare (mod_path_of (tree.some_path plain))) e
  where
    plain : Path
    plain = tree.path None leading first tree.no_segments tree.no_path

    by : (b : Bool) → path_of (tree.some_path (if b then behind_root root plain else plain)) ≡ Some x → Q x.names
    by true h = rooted_read root leading first x h Q k
    by false h = k x h

called_read : (at : ResolveCtx) (in_macro leading : Bool) (ss : List (Option AstSegment)) (u : Option AstPath) (x : PathRead) → u ≡ None
    → none_missing ss ≡ true
    → path_of (tree.some_path (called_path at.answers (reader at.answers (into at)) in_macro leading ss u at.place
    (tree.path None leading (first_part at ss) (rest_part at ss) (use_tree_part at u)))) ≡ Some x
    → (Q : List Named → Type 0)
    → ((y : PathRead) → path_read (front leading (first_part at ss) ∷ items (rest_part at ss) []) ≡ Some y → Q y.names) → Q x.names
called_read at false leading ss u x h m e Q k =
    k x (level_read leading (first_part at ss) (rest_part at ss) (use_tree_part at u) x (no_use at u h) e)
called_read at true leading [] u x h m e Q k = absurd (clash (sym m))
called_read at true leading (None ∷ ss) u x h m e Q k = absurd (clash (sym m))
called_read at true leading (Some s ∷ []) None x h m e Q k =
    local_read (local_root at.answers (context_at at.answers at.place (out-PathSegment s).id)) leading (resolved_segment at s) x e Q k
called_read at true leading (Some s ∷ []) (Some u) x h m e Q k = absurd (no_some (sym h))
called_read at true leading (Some s ∷ t ∷ ss) u x h m e Q k =
    let all = Some s ∷ t ∷ ss in
    k x (level_read leading (first_part at all) (rest_part at all) (use_tree_part at u) x (no_use at u h) e)

-- what is read doesn't look at the alias
aliased_read : (alias : Option (List Bool)) (y : Path) → path_of (tree.some_path (with_alias alias y)) ≡ path_of (tree.some_path y)
aliased_read alias (tree.path _ leading first rest use_) = refl

-- the names that are read are those of the path where it stands in no call
pub resolved_read : (at : ResolveCtx) (p : AstPath) (x : PathRead) → Whole p → path_of (tree.some_path (resolved_path at p)) ≡ Some x
    → (Q : List Named → Type 0)
    → ((y : PathRead) → path_read (front (out-Path p).leading (first_part at (out-Path p).segs) ∷ items (rest_part at (out-Path p).segs) [])
    ≡ Some y → Q y.names)
    → Q x.names
resolved_read at p x w e =
    let o = out-Path p in
    let plain = tree.path None o.leading (first_part at o.segs) (rest_part at o.segs) (use_tree_part at o.use_) in
    let called = called_path at.answers (reader at.answers (into at)) o.in_macro o.leading o.segs o.use_ at.place plain in
    called_read at o.in_macro o.leading o.segs o.use_ x w.0 w.1 (sym (aliased_read (alias_at at.answers at.place called) called)
    ∙ (ap (λ y. path_of (tree.some_path y)) (sym (path_is_level at p)) ∙ e))

-- beside the names that are read is what is written, where the path has no trait
pub plain_args : (at : ResolveCtx) (p : AstPath) (x : PathRead) → Whole p → first_trait (out-Path p).segs ≡ None
    → path_of (tree.some_path (resolved_path at p)) ≡ Some x → map args_at x.names ≡ all_behind at (out-Path p).segs
plain_args at p x w t e =
    let o = out-Path p in
    resolved_read at p x w e (λ ns. map args_at ns ≡ all_behind at o.segs) (λ y h.
    read_args (front o.leading (first_part at o.segs) ∷ items (rest_part at o.segs) []) y h
    ∙ (ap last_without (args_of_all at o.leading o.segs w.1 t) ∙ written_stays at o.segs))
