-- A path of one segment in a call begins at the root of a crate where it is one name that begins nowhere.
use Rattle.std.proofs.Common.{arith, ◌≡◌, ◌∙◌, ◌≤◌, refl, sym, ap, subst, length, ℕ, Bool, true, false, List, [], ◌∷◌, Option, Some, None}
use Rattle.std.proofs.Common.{Ok, Err}
use Rattle.std.specs.Prelude.{if◌then◌else◌, codes, bytes_eq, not}
use Rattle.hir_syntax.specs.declared.ast.Name.{Name as AstName}
use Rattle.hir_syntax.specs.declared.ast.Path.{Path as AstPath, out-Path}
use Rattle.hir_syntax.specs.declared.ast.PathSegment.{PathSegment as AstSegment, out-PathSegment}
use Rattle.hir_syntax.specs.declared.types.PathType.{PathType as AstPathType}
use Rattle.hir_syntax.specs.declared.types.Type_.{Type_ as AstType_}
use Rattle.hir_syntax.specs.declared.ast.SegmentKind.{SegmentKind}
use Rattle.hir_syntax.specs.declared.ast.SegmentKind.TheVariants as kind
use Rattle.hir_store.specs.Stored.{Stored}
use Rattle.hir_store.specs.Range.{Grows}
use Rattle.hir_store.specs.declared.error.StoreError.{StoreError}
use Rattle.hir_store.specs.declared.ids.TypeRefId.{TypeRefId}
use Rattle.hir_store.specs.declared.ids.CrateId.{CrateId}
use Rattle.hir_store.specs.declared.name.Name.{Name}
use Rattle.hir_store.specs.declared.name.Name.TheVariants as name
use Rattle.hir_store.specs.declared.path.ModPath.{ModPath}
use Rattle.hir_store.specs.declared.path.PathKind.{PathKind}
use Rattle.hir_store.specs.declared.path.PathKind.TheVariants as path_kind
use Rattle.hir_store.specs.declared.path.Path.{Path as HirPath}
use Rattle.hir_env.specs.Answers.{Answers}
use Rattle.hir_env.specs.declared.ctx.LowerCtx.{LowerCtx}
use Rattle.hir_env.specs.ResolvedTree as tree
use Rattle.hir_env.specs.ResolvedTree.{OptionPath, OptionType, Path, Segment, SegmentArgs, Type_}
use Rattle.hir_env.specs.LocalPaths.{at_local_root, behind_root, is_bare, or_broken, local_root}
use Rattle.hir_env.specs.PathNames.{behind_trait, mod_path_of, nothing_read, path_read, read_piece}
use Rattle.hir_env.specs.Paths.{alias_at, called_path, context_at, kinded_segment, crate_root_at, inside_projection, qualified_segment}
use Rattle.hir_env.specs.Paths.{with_alias}
use Rattle.hir_env.specs.ResolveCtx.{ResolveCtx}
use Rattle.hir_env.specs.Whole.{resolved_type, resolved_use_tree, arg_list_part, first_part, into, parens_part, path_level, path_type_level}
use Rattle.hir_env.specs.Whole.{path_type_part, reader, rest_part, segment_level, type_part, use_tree_part}
use Rattle.hir_env.proofs.PathLevels.{path_type_is_level, segment_is_level}
use Rattle.hir_env.specs.TypeLayers.{PathTypeReading}
use Rattle.hir_lower_builder.specs.Builder.{Builder}
use Rattle.hir_lower_builder.specs.Lowering.{Checked, Lowering, Lowers, go_on, pure}
use Rattle.hir_lower_builder.specs.Lower.{lower_path, read_option, read_path, read_segment}
use Rattle.hir_lower_builder.specs.Methods.{HasReading, LowersPath, LowersType, ReadsPath, ReadsSegment, at_place}
use Rattle.hir_lower_builder.specs.Paths.{proceed, whole, with_trait}
use Rattle.hir_lower_builder.specs.Walks.{at_first, missing_name, named, names_in}
use Rattle.hir_lower_builder.specs.declared.walk.PathWalk.{PathWalk}
use Rattle.hir_lower_builder.specs.declared.walk.Reading.{Reading}
use Rattle.hir_lower_builder.specs.declared.walk.Reading.TheVariants.{Refused, Ended, Open}
use Rattle.hir_lower_builder.proofs.PathNames.{lowered_names}
use Rattle.hir_lower_path.specs.Rooted.{at_root, bare_segment, bare_trait, if_read, is_qualified, read_at_root}
use Rattle.hir_lower_path.proofs.Ends.{open_stays}

abbrev holds : Bool → Type 0
holds true = Unit {0}
holds false = ⊥

clash : true ≡ false → ⊥
clash h = subst holds h tt

pub root_has : (s : Stored) (root : Option CrateId) (bare : Bool) (r : Reading) → HasReading s r → HasReading s (at_root root bare r)
root_has s root false r h = h
root_has s root true Refused h = h
root_has s root true (Ended w) h = h
root_has s root true (Open w) h = h

grown : (old mid new : Builder) → Grows old.stored mid.stored → Grows mid.stored new.stored → Grows old.stored new.stored
grown old mid new a b = grind (arith)

pub rooted_lowers : (root : Option CrateId) (bare : Bool) (p : Lowering Reading) (old : Builder) (r : Checked Reading) (new : Builder)
    → Lowers HasReading p old r new → Lowers HasReading (read_at_root root bare p) old (if_read root bare r) new
rooted_lowers root bare p old (Ok r) new h =
    (ap (λ o. go_on o.0 o.1 (λ x. pure (at_root root bare x))) h.0, h.1, root_has new.stored root bare r h.2)
rooted_lowers root bare p old (Err e) new h = λ n. (ap (λ o. go_on o.0 o.1 (λ x. pure (at_root root bare x))) (h n).0, (h n).1)

-- a trait's path that was lowered is one name as the written one is
pub as_bare : (o : OptionPath) (p : HirPath) (old new : Builder) → LowersPath o old (Ok (Some p)) new
    → is_bare (names_in p) ≡ is_bare (mod_path_of o)
as_bare o p old new h = ap is_bare (lowered_names o old new (Some p) h.0)

pub ruleset bare_roots = (root_has, as_bare)

-- the steps of one segment

abbrev alone : Bool → Segment → Path
alone leading first = tree.path None leading first tree.no_segments tree.no_path

abbrev own : Bool → Segment → PathWalk → Lowering Reading
own leading first w = read_segment true first (at_first leading w)

pub plain_reads : (leading : Bool) (first : Segment) (w : PathWalk) (b : Builder)
    → read_path (alone leading first) w b ≡ own leading first w b
unfolding whole
plain_reads leading first w b = let o = own leading first w b in sym (open_stays o.0 o.1)

pub absent_read : (leading : Bool) (w v : PathWalk) (b : Builder) (r : Reading) → leading ≡ true → v ≡ at_first true w
    → r ≡ named missing_name None v → read_path (or_broken leading (alone leading tree.absent_segment)) w b ≡ (Ok r, b)
absent_read true w v b r l f e = plain_reads true tree.absent_segment w b ∙ (λ j. (Ok (sym (e ∙ ap (named missing_name None) f) j), b))
absent_read false w v b r l f e = absurd (clash (sym l))

pub refused_read : (leading : Bool) (w : PathWalk) (b : Builder) → leading ≡ false
    → read_path (or_broken leading (alone leading tree.absent_segment)) w b ≡ (Ok Refused, b)
refused_read true w b l = absurd (clash l)
refused_read false w b l = plain_reads false tree.broken_segment w b

root_follows : (root : Option CrateId) (o : Checked Reading) (b : Builder)
    → go_on o b (λ r. proceed r (read_path (alone false (tree.dollar_crate_segment root)))) ≡ go_on o b (λ r. pure (at_root root true r))
unfolding whole
root_follows root (Ok Refused) b = refl
root_follows root (Ok (Ended w)) b = refl
root_follows root (Ok (Open w)) b = refl
root_follows root (Err e) b = refl

rooted_reads : (root : Option CrateId) (leading : Bool) (first : Segment) (w : PathWalk) (b : Builder)
    → read_path (behind_root root (alone leading first)) w b ≡ read_at_root root true (own leading first w) b
unfolding whole
rooted_reads root leading first w b = let o = own leading first w b in root_follows root o.0 o.1

as_is : (root : Option CrateId) (o : Checked Reading) (b : Builder) → (o, b) ≡ go_on o b (λ r. pure (at_root root false r))
as_is root (Ok r) b = refl
as_is root (Err e) b = refl

unrooted_reads : (root : Option CrateId) (leading : Bool) (first : Segment) (w : PathWalk) (b : Builder)
    → read_path (alone leading first) w b ≡ read_at_root root false (own leading first w) b
unrooted_reads root leading first w b =
    let o = own leading first w b in plain_reads leading first w b ∙ as_is root o.0 o.1

bare_reads : (bare : Bool) (root : Option CrateId) (leading : Bool) (first : Segment) (w : PathWalk) (b : Builder)
    → read_path (if bare then behind_root root (alone leading first) else alone leading first) w b
    ≡ read_at_root root bare (own leading first w) b
bare_reads true root leading first w b = rooted_reads root leading first w b
bare_reads false root leading first w b = unrooted_reads root leading first w b

-- where both say the same of the segment
says_reads : (bare : Bool) (root : Option CrateId) (leading : Bool) (first : Segment) (w : PathWalk) (b : Builder)
    → is_bare (mod_path_of (tree.some_path (alone leading first))) ≡ bare
    → read_path (at_local_root (Some root) (alone leading first)) w b ≡ read_at_root root bare (own leading first w) b
says_reads bare root leading first w b h =
    ap (λ c. read_path (if c then behind_root root (alone leading first) else alone leading first) w b) h
    ∙ bare_reads bare root leading first w b

-- and where it refuses or ends the path in any case
refused_reads : (bare : Bool) (root : Option CrateId) (leading : Bool) (w : PathWalk) (b : Builder)
    → read_path (at_local_root (Some root) (alone leading tree.broken_segment)) w b
    ≡ read_at_root root bare (own leading tree.broken_segment w) b
unfolding whole
refused_reads true root leading w b = refl
refused_reads false root leading w b = refl

dollar_reads : (bare : Bool) (root of : Option CrateId) (leading : Bool) (w : PathWalk) (b : Builder)
    → read_path (at_local_root (Some root) (alone leading (tree.dollar_crate_segment of))) w b
    ≡ read_at_root root bare (own leading (tree.dollar_crate_segment of) w) b
unfolding whole
dollar_reads true root None leading w b = refl
dollar_reads true root (Some of) leading w b = refl
dollar_reads false root None leading w b = refl
dollar_reads false root (Some of) leading w b = refl

-- which segment it is

name_is : (leading : Bool) (t : List ℕ) (a : SegmentArgs)
    → is_bare (mod_path_of (tree.some_path (alone leading (tree.name_segment (name.Text t) tt a)))) ≡ not leading
name_is true t a = refl
name_is false t a = refl

self_type_is : (leading : Bool) → is_bare (mod_path_of (tree.some_path (alone leading tree.self_type_segment))) ≡ not leading
self_type_is true = refl
self_type_is false = refl

self_is : (leading : Bool) → is_bare (mod_path_of (tree.some_path (alone leading tree.self_segment))) ≡ false
self_is true = refl
self_is false = refl

super_is : (leading : Bool) → is_bare (mod_path_of (tree.some_path (alone leading tree.super_segment))) ≡ false
super_is true = refl
super_is false = refl

trait_is : (leading : Bool) (q : Option ModPath) → is_bare (path_read (read_piece leading (behind_trait q) nothing_read)) ≡ is_bare q
trait_is leading None = refl
trait_is leading (Some m) = by m.kind m.segments
  where
    by : (k : PathKind) (ns : List Name) → let q : Option ModPath = Some (record { kind = k; segments = ns }) in
        is_bare (path_read (read_piece leading (behind_trait q) nothing_read)) ≡ is_bare q
    by path_kind.Plain [] = refl
    by (path_kind.Super n) [] = refl
    by path_kind.Crate [] = refl
    by path_kind.Abs [] = refl
    by (path_kind.DollarCrate c) [] = refl
    by k (n ∷ []) = refl
    by k (n ∷ m ∷ ns) = refl

module _ (env : Answers) (p : LowerCtx) (leading : Bool) (root : Option CrateId) (w : PathWalk) (b : Builder) where
  abbrev Reads : Segment → Bool → Type 0
  Reads first bare = read_path (at_local_root (Some root) (alone leading first)) w b ≡ read_at_root root bare (own leading first w) b

  name_reads : (n : AstName) (a : SegmentArgs) (c : Bool)
      → Reads (if c then tree.dollar_crate_segment (crate_root_at env p n.id) else tree.name_segment (name.Text n.t) tt a) (not leading)
  name_reads n a true = dollar_reads (not leading) root (crate_root_at env p n.id) leading w b
  name_reads n a false =
      let first = tree.name_segment (name.Text n.t) tt a in
      says_reads (not leading) root leading first w b (name_is leading n.t a)

  qualified_reads : (ty : OptionType) (t : Option PathTypeReading) → Reads (qualified_segment ty t) (bare_trait t)
  qualified_reads tree.no_type t = refused_reads (bare_trait t) root leading w b
  qualified_reads (tree.some_type ty) None = says_reads false root leading (tree.type_segment ty) w b refl
  qualified_reads (tree.some_type ty) (Some t) =
      let first = tree.trait_segment ty t.pointer t.path in
      says_reads (is_bare (mod_path_of t.path)) root leading first w b (trait_is leading (mod_path_of t.path))

  pub local_reads : (k : Option SegmentKind) (n : Option AstName) (a : SegmentArgs) (ty : OptionType) (t : Option PathTypeReading)
      → Reads (kinded_segment env p k n a ty t) (bare_segment leading k t)
  local_reads None n a ty t = refused_reads false root leading w b
  local_reads (Some kind.Name) None a ty t = refused_reads (not leading) root leading w b
  local_reads (Some kind.Name) (Some n) a ty t = name_reads n a (bytes_eq n.t (codes "$crate"))
  local_reads (Some kind.SelfKw) n a ty t = says_reads false root leading tree.self_segment w b (self_is leading)
  local_reads (Some kind.CrateKw) n a ty t = says_reads false root leading tree.crate_segment w b refl
  local_reads (Some kind.SuperKw) n a ty t = says_reads false root leading tree.super_segment w b (super_is leading)
  local_reads (Some kind.SelfTypeKw) n a ty t = says_reads (not leading) root leading tree.self_type_segment w b (self_type_is leading)
  local_reads (Some kind.Qualified) n a ty t = qualified_reads ty t

-- the level of a path, whether it is an alias or not

abbrev pub unaliased : ResolveCtx → AstPath → Path
unaliased at x =
    let o = out-Path x in
    called_path at.answers (reader at.answers (into at)) o.in_macro o.leading o.segs o.use_ at.place
    (tree.path None o.leading (first_part at o.segs) (rest_part at o.segs) (use_tree_part at o.use_))

reads_aliased : (alias : Option (List Bool)) (y : Path) (w : PathWalk) (old : Builder) (r : Checked Reading) (new : Builder)
    → ReadsPath y w old r new → ReadsPath (with_alias alias y) w old r new
reads_aliased alias (tree.path _ leading first rest use_) w old r new h = h

pub reads_level : (at : ResolveCtx) (x : AstPath) (w : PathWalk) (old : Builder) (r : Checked Reading) (new : Builder)
    → ReadsPath (unaliased at x) w old r new → ReadsPath (path_level at x) w old r new
reads_level at x w old r new h =
    reads_aliased (alias_at at.answers at.place (unaliased at x)) (unaliased at x) w old r new h

-- in a call

module _ (at : ResolveCtx) (x : AstPath) (called : (out-Path x).in_macro ≡ true) where
  abbrev plain_level : Path
  plain_level = let o = out-Path x in tree.path None o.leading (first_part at o.segs) (rest_part at o.segs) (use_tree_part at o.use_)

  abbrev level_with : Bool → Bool → List (Option AstSegment) → Option AstPath → Path
  level_with b leading ss u = called_path at.answers (reader at.answers (into at)) b leading ss u at.place
      (tree.path None leading (first_part at ss) (rest_part at ss) (use_tree_part at u))

  pub one_level : (s : AstSegment) → (out-Path x).use_ ≡ None → (out-Path x).segs ≡ Some s ∷ [] → unaliased at x
      ≡ at_local_root (local_root at.answers (context_at at.answers at.place (out-PathSegment s).id))
      (alone (out-Path x).leading (segment_level at s))
  one_level s u e = (λ j. level_with (called j) (out-Path x).leading (e j) (u j))
      ∙ ap (λ y. at_local_root (local_root at.answers (context_at at.answers at.place (out-PathSegment s).id))
      (alone (out-Path x).leading y)) (segment_is_level at s)

  pub more_level : 2 ≤ length (out-Path x).segs → unaliased at x ≡ plain_level
  more_level h = by (out-Path x).segs h
    where
      y : Path
      y = plain_level

      by : (ss : List (Option AstSegment)) → 2 ≤ length ss
          → called_path at.answers (reader at.answers (into at)) (out-Path x).in_macro (out-Path x).leading ss (out-Path x).use_
          at.place y ≡ y
      by [] h = absurd (omega (arith, h))
      by (s ∷ []) h = absurd (omega (arith, h))
      by (None ∷ t ∷ ss) h = none_more (out-Path x).in_macro
        where
          none_more : (b : Bool) → called_path at.answers (reader at.answers (into at)) b (out-Path x).leading (None ∷ t ∷ ss)
              (out-Path x).use_ at.place y ≡ y
          none_more true = refl
          none_more false = refl
      by (Some s ∷ t ∷ ss) h = some_more (out-Path x).in_macro
        where
          some_more : (b : Bool) → called_path at.answers (reader at.answers (into at)) b (out-Path x).leading (Some s ∷ t ∷ ss)
              (out-Path x).use_ at.place y ≡ y
          some_more true = refl
          some_more false = refl

module _ (at : ResolveCtx) (x : AstPath) where
  abbrev elsewhere : Path
  elsewhere = let o = out-Path x in tree.path None o.leading (first_part at o.segs) (rest_part at o.segs) (use_tree_part at o.use_)

  pub uncalled_level : (out-Path x).in_macro ≡ false → unaliased at x ≡ elsewhere
  uncalled_level h =
      ap (λ b. called_path at.answers (reader at.answers (into at)) b (out-Path x).leading (out-Path x).segs (out-Path x).use_ at.place
      elsewhere) h

  pub used_level : (u : AstPath) → (out-Path x).use_ ≡ Some u → unaliased at x ≡ elsewhere
  used_level u h =
      ap (λ o. called_path at.answers (reader at.answers (into at)) (out-Path x).in_macro (out-Path x).leading (out-Path x).segs o
      at.place elsewhere) h
      ∙ by (out-Path x).in_macro (out-Path x).segs
    where
      by : (b : Bool) (ss : List (Option AstSegment))
          → called_path at.answers (reader at.answers (into at)) b (out-Path x).leading ss (Some u) at.place elsewhere ≡ elsewhere
      by false ss = refl
      by true [] = refl
      by true (None ∷ []) = refl
      by true (Some s ∷ []) = refl
      by true (None ∷ t ∷ ss) = refl
      by true (Some s ∷ t ∷ ss) = refl

-- what a function has to show

same_lowers : (p q : Lowering Reading) (old : Builder) (r : Checked Reading) (new : Builder) → p old ≡ q old
    → Lowers HasReading q old r new → Lowers HasReading p old r new
same_lowers p q old (Ok r) new e h = (e ∙ h.0, h.1, h.2)
same_lowers p q old (Err f) new e h = λ n. (e ∙ (h n).0, (h n).1)

-- a path around which no use tree stands
pub alone_lowers : (at : ResolveCtx) (u : Option AstPath) (steps : Lowering Reading) (old : Builder) (r : Checked Reading) (new : Builder)
    → u ≡ None → Lowers HasReading steps old r new → Lowers HasReading (whole steps (read_option (use_tree_part at u))) old r new
unfolding whole
alone_lowers at u steps old r new none h =
    subst (λ o. Lowers HasReading (whole steps (read_option (use_tree_part at o))) old r new) (sym none)
    (same_lowers (whole steps (read_option tree.no_path)) steps old r new (let o = steps old in sym (open_stays o.0 o.1)) h)

-- the use tree around a path, which is read as one
pub outer_lowers : (at : ResolveCtx) (place : LowerCtx) (u : Option AstPath) (x y : AstPath) (w : PathWalk) (old : Builder)
    (r : Checked Reading)
    (new : Builder) → u ≡ Some x → y ≡ x → place ≡ at.place → ReadsPath (resolved_use_tree (at_place at place) y) w old r new
    → Lowers HasReading (read_option (use_tree_part at u) w) old r new
outer_lowers at place u x y w old r new is node here h =
    subst (λ o. Lowers HasReading (read_option (use_tree_part at o) w) old r new) (sym is)
    (subst (λ n. ReadsPath (resolved_use_tree at n) w old r new) node
    (subst (λ p. ReadsPath (resolved_use_tree (at_place at p) y) w old r new) here h))

-- a qualified type whose type is read
trait_lowers : (t : Type_) (read : PathTypeReading) (w : PathWalk) (root : Option CrateId) (bare : Bool) (old mid new : Builder)
    (id : TypeRefId) (r : Checked Reading) → LowersType None t old (Ok id) mid
    → Lowers HasReading (read_at_root root bare (with_trait (lower_path read.path) id read.pointer w)) mid r new
    → Lowers HasReading (read_at_root root bare (read_segment true (tree.trait_segment t read.pointer read.path) w)) old r new
trait_lowers t read w root bare old mid new id r h k = by r k
  where
    steps : TypeRefId → Lowering Reading
    steps i = with_trait (lower_path read.path) i read.pointer w

    is : read_at_root root bare (read_segment true (tree.trait_segment t read.pointer read.path) w) old
        ≡ read_at_root root bare (steps id) mid
    is = ap (λ o. go_on (go_on o.0 o.1 steps).0 (go_on o.0 o.1 steps).1 (λ x. pure (at_root root bare x))) h.0

    by : (r : Checked Reading) → Lowers HasReading (read_at_root root bare (steps id)) mid r new
        → Lowers HasReading (read_at_root root bare (read_segment true (tree.trait_segment t read.pointer read.path) w)) old r new
    by (Ok a) k = (is ∙ k.0, grown old mid new h.1 k.1, k.2)
    by (Err e) k = λ n. (is ∙ (k n).0, (k n).1)

plain_lowers : (t : Type_) (read : PathTypeReading) (w : PathWalk) (old mid new : Builder) (id : TypeRefId) (r : Checked Reading)
    → LowersType None t old (Ok id) mid → Lowers HasReading (with_trait (lower_path read.path) id read.pointer w) mid r new
    → Lowers HasReading (read_segment true (tree.trait_segment t read.pointer read.path) w) old r new
plain_lowers t read w old mid new id (Ok a) h k =
    (ap (λ o. go_on o.0 o.1 (λ i. with_trait (lower_path read.path) i read.pointer w)) h.0 ∙ k.0, grown old mid new h.1 k.1, k.2)
plain_lowers t read w old mid new id (Err e) h k =
    λ n. (ap (λ o. go_on o.0 o.1 (λ i. with_trait (lower_path read.path) i read.pointer w)) h.0 ∙ (k n).0, (k n).1)

pub trait_reads : (at : ResolveCtx) (place : LowerCtx) (first : Bool) (ty : Option AstType_) (tr : Option AstPathType) (y z : AstType_)
    (x : AstPathType) (w : PathWalk) (old mid new : Builder) (id : TypeRefId) (r : Checked Reading) → first ≡ true → ty ≡ Some y
    → tr ≡ Some x → z ≡ y → place ≡ at.place → LowersType None (resolved_type (at_place at place) z) old (Ok id) mid
    → Lowers HasReading (with_trait (lower_path (path_type_level at x).path) id (path_type_level at x).pointer w) mid r new
    → ReadsSegment first (qualified_segment (type_part at ty) (path_type_part at tr)) w old r new
trait_reads at place first ty tr y z x w old mid new id r f t e same here h k =
    subst (λ b. ReadsSegment b (qualified_segment (type_part at ty) (path_type_part at tr)) w old r new) (sym f)
    (subst (λ o. ReadsSegment true (qualified_segment (type_part at o) (path_type_part at tr)) w old r new) (sym t)
    (subst (λ o. ReadsSegment true (qualified_segment (type_part at (Some y)) o) w old r new)
    (sym (ap (path_type_part at) e ∙ ap Some (path_type_is_level at x)))
    (plain_lowers (resolved_type at y) (path_type_level at x) w old mid new id r
    (subst (λ v. LowersType None (resolved_type at v) old (Ok id) mid) same
    (subst (λ p. LowersType None (resolved_type (at_place at p) z) old (Ok id) mid) here h)) k)))

pub qualified_lowers : (at : ResolveCtx) (place : LowerCtx) (ty : Option AstType_) (y z : AstType_) (read : PathTypeReading) (w : PathWalk)
    (root : Option CrateId) (bare : Bool) (old mid new : Builder) (q : Checked TypeRefId) (id : TypeRefId) (r : Checked Reading)
    → ty ≡ Some y → z ≡ y → place ≡ at.place → q ≡ Ok id → LowersType None (resolved_type (at_place at place) z) old q mid
    → Lowers HasReading (read_at_root root bare (with_trait (lower_path read.path) id read.pointer w)) mid r new
    → Lowers HasReading (read_at_root root bare (read_segment true (qualified_segment (type_part at ty) (Some read)) w)) old r new
qualified_lowers at place ty y z read w root bare old mid new q id r is same here ok h k =
    subst (λ o. Lowers HasReading (read_at_root root bare (read_segment true (qualified_segment (type_part at o) (Some read)) w)) old r new)
    (sym is)
    (trait_lowers (resolved_type at y) read w root bare old mid new id r
    (subst (λ v. LowersType None (resolved_type at v) old (Ok id) mid) same
    (subst (λ p. LowersType None (resolved_type (at_place at p) z) old (Ok id) mid) here
    (subst (λ c. LowersType None (resolved_type (at_place at place) z) old c mid) ok h))) k)

untyped_lowers : (t : Type_) (read : PathTypeReading) (w : PathWalk) (root : Option CrateId) (bare : Bool) (old new : Builder)
    (e : StoreError)
    → LowersType None t old (Err e) new
    → Lowers HasReading (read_at_root root bare (read_segment true (tree.trait_segment t read.pointer read.path) w)) old (Err e) new
untyped_lowers t read w root bare old new e h = λ n. (
  ap (λ o. let c = go_on o.0 o.1 (λ i. with_trait (lower_path read.path) i read.pointer w) in
      go_on c.0 c.1 (λ x. pure (at_root root bare x))) (h n).0,
  (h n).1,
)

module _ (at : ResolveCtx) (node : AstSegment) (leading : Bool) (w v : PathWalk) (first : v ≡ at_first leading w) (root : Option CrateId)
    (old new : Builder) where
  abbrev own_steps : Lowering Reading
  own_steps = read_segment true (segment_level at node) (at_first leading w)

  -- where the type and the trait are read
  abbrev inner : ResolveCtx
  inner = at_place at (inside_projection at.place)

  abbrev kind_of : Option SegmentKind
  kind_of = (out-PathSegment node).seg

  kinded_lowers : (k : Option SegmentKind) (n : Option AstName) (a : SegmentArgs) (ty : OptionType) (t : PathTypeReading)
      (r : Checked Reading)
      → is_qualified k ≡ true
      → Lowers HasReading (read_at_root root (is_bare (mod_path_of t.path)) (read_segment true (qualified_segment ty (Some t)) v)) old r new
      → Lowers HasReading (read_at_root root (bare_segment leading k (Some t))
      (read_segment true (kinded_segment at.answers at.place k n a ty (Some t)) v)) old r new
  kinded_lowers None n a ty t r q h = absurd (clash (sym q))
  kinded_lowers (Some kind.Name) n a ty t r q h = absurd (clash (sym q))
  kinded_lowers (Some kind.SelfKw) n a ty t r q h = absurd (clash (sym q))
  kinded_lowers (Some kind.CrateKw) n a ty t r q h = absurd (clash (sym q))
  kinded_lowers (Some kind.SuperKw) n a ty t r q h = absurd (clash (sym q))
  kinded_lowers (Some kind.SelfTypeKw) n a ty t r q h = absurd (clash (sym q))
  kinded_lowers (Some kind.Qualified) n a ty t r q h = h

  pub trait_segment_lowers : (y : AstPathType) (r : Checked Reading) → (out-PathSegment node).trait_ ≡ Some y → is_qualified kind_of ≡ true
      → Lowers HasReading (read_at_root root (is_bare (mod_path_of (path_type_level inner y).path))
      (read_segment true (qualified_segment (type_part inner (out-PathSegment node).ty) (Some (path_type_level inner y))) v)) old r new
      → Lowers HasReading (read_at_root root (bare_segment leading kind_of (path_type_part inner (out-PathSegment node).trait_))
      own_steps) old r
      new
  trait_segment_lowers y r e q h =
      let o = out-PathSegment node in
      let part : path_type_part inner o.trait_ ≡ Some (path_type_level inner y) =
      ap (path_type_part inner) e ∙ ap Some (path_type_is_level inner y) in
      let a = tree.segment_args (arg_list_part at o.generics) (parens_part at o.parens o.ret) o.rtn in
      subst (λ t. Lowers HasReading (read_at_root root (bare_segment leading o.seg t)
      (read_segment true (kinded_segment at.answers at.place o.seg o.name a (type_part inner o.ty) t) (at_first leading w))) old r new)
      (sym part)
      (subst (λ u. Lowers HasReading (read_at_root root (bare_segment leading o.seg (Some (path_type_level inner y)))
      (read_segment true (kinded_segment at.answers at.place o.seg o.name a (type_part inner o.ty) (Some (path_type_level inner y))) u))
      old r new) first
      (kinded_lowers o.seg o.name a (type_part inner o.ty) (path_type_level inner y) r q h))

  read_lowers : (bare own : Bool) (c r : Checked Reading) → own ≡ bare → ReadsSegment true (segment_level at node) v old c new
      → r ≡ if_read root bare c → Lowers HasReading (read_at_root root own own_steps) old r new
  read_lowers bare own c r e h is =
      subst (λ b. Lowers HasReading (read_at_root root b own_steps) old r new) (sym e)
      (subst (λ x. Lowers HasReading (read_at_root root bare own_steps) old x new) (sym is)
      (rooted_lowers root bare own_steps old c new (subst (λ u. ReadsSegment true (segment_level at node) u old c new) first h)))

  no_trait_bare : (k : Option SegmentKind) (t : Option PathTypeReading) → is_qualified k ≡ false → bare_segment leading k t
      ≡ bare_segment leading k None
  no_trait_bare None t q = refl
  no_trait_bare (Some kind.Name) t q = refl
  no_trait_bare (Some kind.SelfKw) t q = refl
  no_trait_bare (Some kind.CrateKw) t q = refl
  no_trait_bare (Some kind.SuperKw) t q = refl
  no_trait_bare (Some kind.SelfTypeKw) t q = refl
  no_trait_bare (Some kind.Qualified) t q = absurd (clash q)

  pub other_segment_lowers : (bare : Bool) (c r : Checked Reading) → is_qualified kind_of ≡ false → bare ≡ bare_segment leading kind_of None
      → ReadsSegment true (segment_level at node) v old c new → r ≡ if_read root bare c
      → Lowers HasReading (read_at_root root (bare_segment leading kind_of (path_type_part inner (out-PathSegment node).trait_))
      own_steps) old r
      new
  other_segment_lowers bare c r q b h is =
      read_lowers bare (bare_segment leading kind_of (path_type_part inner (out-PathSegment node).trait_)) c r
      (no_trait_bare kind_of (path_type_part inner (out-PathSegment node).trait_) q ∙ sym b) h is

  pub traitless_segment_lowers : (bare : Bool) (c r : Checked Reading) → (out-PathSegment node).trait_ ≡ None
      → bare ≡ bare_segment leading kind_of None → ReadsSegment true (segment_level at node) v old c new → r ≡ if_read root bare c
      → Lowers HasReading (read_at_root root (bare_segment leading kind_of (path_type_part inner (out-PathSegment node).trait_))
      own_steps) old r
      new
  traitless_segment_lowers bare c r e b h is =
      read_lowers bare (bare_segment leading kind_of (path_type_part inner (out-PathSegment node).trait_)) c r
      (ap (λ t. bare_segment leading kind_of (path_type_part inner t)) e ∙ sym b) h is

  -- where its macro isn't local
  pub far_lowers : (place : LowerCtx) (q : Option (Option CrateId)) (r : Checked Reading) → place ≡ at.place
      → q ≡ local_root at.answers (at.answers.context (record { file_id = place.file_id; value = (out-PathSegment node).id })) → q ≡ None
      → ReadsSegment true (segment_level at node) v old r new
      → ReadsPath (at_local_root (local_root at.answers (context_at at.answers at.place (out-PathSegment node).id))
      (alone leading (segment_level at node))) w old r new
  far_lowers place q r here is none h =
      let root_is : local_root at.answers (context_at at.answers at.place (out-PathSegment node).id) ≡ None =
      sym (ap (λ p. local_root at.answers (at.answers.context (record { file_id = p.file_id; value = (out-PathSegment node).id }))) here)
      ∙ (sym is ∙ none) in
      subst (λ o. ReadsPath (at_local_root o (alone leading (segment_level at node))) w old r new) (sym root_is)
      (same_lowers (read_path (alone leading (segment_level at node)) w) own_steps old r new
      (plain_reads leading (segment_level at node) w old)
      (subst (λ u. ReadsSegment true (segment_level at node) u old r new) first h))
