-- What is written is never a name that lowering made up.
use Rattle.std.proofs.Common.{◌≡◌, refl, sym, subst, Bool, true, false, List, [], ◌∷◌, ◌++◌, ℕ, Option, Some, None}
use Rattle.std.specs.Prelude.{if◌then◌else◌, map, option_map}
use Rattle.std.proofs.lemmas.List.{map-append}
use Rattle.hir_base.specs.declared.op.RangeOp.{RangeOp}
use Rattle.hir_store.specs.Names.{IsWritten}
use Rattle.hir_store.specs.Pointers.{Pointer}
use Rattle.hir_store.specs.declared.name.Name.{Name}
use Rattle.hir_store.specs.declared.name.Name.TheVariants as name
use Rattle.hir_store.specs.declared.path.PathKind.{PathKind}
use Rattle.hir_store.specs.declared.path.PathKind.TheVariants as kind
use Rattle.hir_env.specs.ResolvedTree as tree
use Rattle.hir_env.specs.ResolvedTree.{PatLeaf, PatUnary, Pat, OptionPat, Pats, Path, OptionPath, Segments, Segment}
use Rattle.spec_data.specs.Data as datum
use Rattle.spec_data.specs.Data.{PathData, path_data, NamesData, OptionArgsData, OptionTypeData, TypeData}
use Rattle.spec_data.specs.Data.{PatData, pat_at, absent_pattern, PatsData, OptionSideData}
use Rattle.spec_data.specs.GeneratedNames.{generated_name, is_made}
use Rattle.spec_data.specs.Patterns.{leaf_pattern, unary_pattern, path_pattern_of, range_shape, if_path, is_dots, behind_comma}
use Rattle.spec_data.specs.Patterns.{alternatives_data, patterns_data, uses_after, pattern_data, pattern_part_data, tuple_parts_data}
use Rattle.spec_data.specs.Patterns.{written_pat}
use Rattle.spec_data.specs.Rule as rule
use Rattle.spec_data.specs.Rule.{Named, PathRead, Item, What, names_of, ended, read, refused, read_of, path_read, data_of, names_data}
use Rattle.spec_data.specs.Rule.{anchor_data, first_without_self, first_behind_self}
use Rattle.spec_data.specs.Uses.{FirstUses}
use Rattle.spec_data.specs.Written.{type_data, what, items, segments, outer, path_of, written_path}
use Rattle.spec_data.proofs.Segments.{name_at, last_changed, without_names, behind_names}

-- patterns

-- whether the only part behind a path is a made name
abbrev pub part_is_made : PatData → Bool
part_is_made (pat_at source (datum.tuple_struct_pattern d ellipsis (datum.more_patterns p datum.no_patterns))) = is_made p
part_is_made _ = false

pub record Unmade (p : PatData) : Type 0 where
  pub whole : is_made p ≡ false
  pub part : part_is_made p ≡ false

abbrev NoneMade : PatsData → Type 0
NoneMade datum.no_patterns = Unit {0}
NoneMade (datum.more_patterns p ps) = (is_made p ≡ false) × NoneMade ps

plain : {p : PatData} → is_made p ≡ false → part_is_made p ≡ false → Unmade p
plain w i = record { whole = w; part = i }

leaf_unmade : (at : Pointer) (form : PatLeaf) → Unmade (pat_at (Some at) (leaf_pattern form))
leaf_unmade at tree.wild_leaf = plain refl refl
leaf_unmade at tree.rest_leaf = plain refl refl
leaf_unmade at tree.not_null_leaf = plain refl refl
leaf_unmade at tree.broken_leaf = plain refl refl

unary_unmade : (at : Pointer) (form : PatUnary) (p : PatData) → Unmade (pat_at (Some at) (unary_pattern form p))
unary_unmade at (tree.ref_to m) p = plain refl refl
unary_unmade at tree.box_of p = plain refl refl
unary_unmade at tree.deref_of p = plain refl refl

path_pattern_unmade : (at : Pointer) (p : Option PathRead) → Unmade (pat_at (Some at) (path_pattern_of p))
path_pattern_unmade at None = plain refl refl
path_pattern_unmade at (Some p) = plain refl refl

range_unmade : (at : Pointer) (op : Option RangeOp) (start end : OptionSideData) → Unmade (pat_at (Some at) (range_shape op start end))
range_unmade at None start end = plain refl refl
range_unmade at (Some op) start end = plain refl refl

behind_path : (p : Option PathRead) (f : PathData → PatData) → ((d : PathData) → Unmade (f d)) → Unmade (if_path p f absent_pattern)
behind_path None f h = plain refl refl
behind_path (Some p) f h = h (data_of p)

only_part : (at : Pointer) (d : PathData) (ellipsis : Option ℕ) (ps : PatsData) → NoneMade ps
    → Unmade (pat_at (Some at) (datum.tuple_struct_pattern d ellipsis ps))
only_part at d ellipsis datum.no_patterns h = plain refl refl
only_part at d ellipsis (datum.more_patterns p datum.no_patterns) h = plain refl h.0
only_part at d ellipsis (datum.more_patterns p (datum.more_patterns q qs)) h = plain refl refl

comma_unmade : (comma : Bool) (ps : PatsData) → NoneMade ps → NoneMade (behind_comma comma ps)
comma_unmade false ps h = h
comma_unmade true ps h = (refl, h)

one_of_both : (b : Bool) (ps qs : PatsData) → NoneMade ps → NoneMade qs → NoneMade (if b then ps else qs)
one_of_both true ps qs h k = h
one_of_both false ps qs h k = k

-- an alternative alone is itself
one_unmade : (at : Pointer) (d : PatData) (ds : PatsData) → Unmade d → Unmade (alternatives_data at (datum.more_patterns d ds))
one_unmade at d datum.no_patterns h = h
one_unmade at d (datum.more_patterns e ds) h = plain refl refl

mutual
  pub pattern_unmade : (p : Pat) (us : FirstUses) → Unmade (pattern_data p us)
  pattern_unmade (tree.leaf_pat at form) us = leaf_unmade at form
  pattern_unmade (tree.bind_pat at u _ sub) us = plain refl refl
  pattern_unmade (tree.name_pat at u _) us = plain refl refl
  pattern_unmade (tree.path_pat at p) us = path_pattern_unmade at (path_of p)
  pattern_unmade (tree.tuple_struct_pat at p comma ps) us = behind_path (path_of p) _
      (λ d. only_part at d _ _ (comma_unmade comma (tuple_parts_data ps us) (parts_unmade ps us)))
  pattern_unmade (tree.tuple_pat at comma ps) us = plain refl refl
  pattern_unmade (tree.record_pat at p fs dots) us = behind_path (path_of p) _ (λ d. plain refl refl)
  pattern_unmade (tree.or_pat at ps) us = alternatives_unmade at ps us
  pattern_unmade (tree.paren_pat at p) us = part_unmade p us
  pattern_unmade (tree.macro_pat at called p) us = part_unmade p us
  pattern_unmade (tree.barred_pat at) us = plain refl refl
  pattern_unmade (tree.slice_pat at before middle behind) us = plain refl refl
  pattern_unmade (tree.over_pat at form p) us = unary_unmade at form (pattern_part_data p us)
  pattern_unmade (tree.literal_pat at own l) us = plain refl refl
  pattern_unmade (tree.range_pat at op start end) us = range_unmade at op _ _

  alternatives_unmade : (at : Pointer) (ps : Pats) (us : FirstUses) → Unmade (alternatives_data at (patterns_data ps us))
  alternatives_unmade at tree.no_pats us = plain refl refl
  alternatives_unmade at (tree.more_pats p ps) us = one_unmade at _ (patterns_data ps (uses_after p us)) (pattern_unmade p us)
  alternatives_unmade at (tree.tracked_pats called ps) us = alternatives_unmade at ps us

  part_unmade : (p : OptionPat) (us : FirstUses) → Unmade (pattern_part_data p us)
  part_unmade tree.no_pat us = plain refl refl
  part_unmade (tree.some_pat p) us = pattern_unmade p us

  parts_unmade : (ps : Pats) (us : FirstUses) → NoneMade (tuple_parts_data ps us)
  parts_unmade tree.no_pats us = tt
  parts_unmade (tree.more_pats p ps) us = one_of_both (is_dots p) _ _
      (parts_unmade ps us) ((pattern_unmade p us).whole, parts_unmade ps (uses_after p us))
  parts_unmade (tree.tracked_pats called ps) us = parts_unmade ps us

pub written_unmade : (p : OptionPat) → is_made (written_pat p) ≡ false
written_unmade p = (part_unmade p []).whole

pub written_part_unmade : (p : OptionPat) → part_is_made (written_pat p) ≡ false
written_part_unmade p = (part_unmade p []).part

-- paths

abbrev pub AllWritten : List Name → Type 0
AllWritten [] = Unit {0}
AllWritten (n ∷ ns) = IsWritten n × AllWritten ns

abbrev PathWritten : Option PathRead → Type 0
PathWritten None = Unit {0}
PathWritten (Some p) = AllWritten (map name_at p.names)

abbrev SaysWritten : What → Type 0
SaysWritten w = AllWritten (map name_at (names_of w))

abbrev AllSay : List Item → Type 0
AllSay [] = Unit {0}
AllSay (i ∷ is) = SaysWritten i.what × AllSay is

all_append : (ns ms : List Name) → AllWritten ns → AllWritten ms → AllWritten (ns ++ ms)
all_append [] ms h k = k
all_append (n ∷ ns) ms h k = (h.0, all_append ns ms h.1 k)

names_say : (is : List Item) → AllSay is → AllWritten (map name_at (rule.names is))
names_say [] h = tt
names_say (i ∷ is) h =
    subst AllWritten (sym (map-append name_at (names_of i.what) (rule.names is)))
    (all_append (map name_at (names_of i.what)) (map name_at (rule.names is)) h.0 (names_say is h.1))

-- what ends the reading cuts off items
read_says : (is : List Item) → AllSay is → AllSay (read is)
read_says [] h = tt
read_says (i ∷ is) h = by (ended is) (read_says is h.1)
  where
    by : (b : Bool) → AllSay (read is) → AllSay (if b then read is else i ∷ is)
    by true k = k
    by false k = h

path_read_says : (is : List Item) → AllSay is → PathWritten (path_read is)
path_read_says is h = by (refused is)
  where
    by : (b : Bool) → PathWritten (if b then None else Some (read_of is))
    by true = tt
    by false = subst AllWritten (sym (last_changed first_without_self without_names (rule.names is))) (names_say is h)

projection_says : (t : TypeData) (p : Option PathRead) → PathWritten p → SaysWritten (rule.projection t p)
projection_says t None h = tt
projection_says t (Some p) h = subst AllWritten (sym (last_changed (first_behind_self t) (behind_names t) p.names)) h

mutual
  what_says : (first : Bool) (s : Segment) → SaysWritten (what first s)
  what_says first tree.absent_segment = (tt, tt)
  what_says first tree.broken_segment = tt
  what_says first (tree.name_segment n w a) = (w, tt)
  what_says first tree.self_type_segment = (tt, tt)
  what_says first tree.super_segment = tt
  what_says false tree.crate_segment = tt
  what_says true tree.crate_segment = tt
  what_says false (tree.dollar_crate_segment c) = tt
  what_says true (tree.dollar_crate_segment c) = tt
  what_says false tree.self_segment = tt
  what_says true tree.self_segment = tt
  what_says false (tree.type_segment t) = tt
  what_says true (tree.type_segment t) = tt
  what_says false (tree.trait_segment t at p) = tt
  what_says true (tree.trait_segment t at p) = projection_says (type_data None t) (path_of p) (path_says p)

  items_say : (ss : Segments) (behind : List Item) → AllSay behind → AllSay (items ss behind)
  items_say tree.no_segments behind h = h
  items_say (tree.more_segments s ss) behind h = (what_says false s, items_say ss behind h)

  segments_say : (p : Path) (behind : List Item) → AllSay behind → AllSay (segments p behind)
  segments_say (tree.path alias leading first rest use_) behind h =
      outer_says use_ (record { leading = leading; what = what true first } ∷ items rest behind)
      (what_says true first, items_say rest behind h)

  outer_says : (p : OptionPath) (behind : List Item) → AllSay behind → AllSay (outer p behind)
  outer_says tree.no_path behind h = h
  outer_says (tree.some_path p) behind h = segments_say p behind h

  path_says : (p : OptionPath) → PathWritten (path_of p)
  path_says tree.no_path = tt
  path_says (tree.some_path p) = path_read_says (read (segments p [])) (read_says (segments p []) (segments_say p [] tt))

first_unmade : (k : PathKind) (t : OptionTypeData) (n : Name) (a : OptionArgsData) (ns : NamesData) (bare : Bool) → IsWritten n
    → generated_name (path_data k t (datum.more_names n a ns) bare) ≡ None
first_unmade kind.Plain datum.no_type (name.Text x) a ns bare w = refl
first_unmade kind.Plain datum.no_type name.Missing a ns bare w = refl
first_unmade kind.Plain datum.no_type (name.Generated x) a ns bare w = absurd w
first_unmade kind.Plain (datum.some_type t) n a ns bare w = refl
first_unmade (kind.Super x) t n a ns bare w = refl
first_unmade kind.Crate t n a ns bare w = refl
first_unmade kind.Abs t n a ns bare w = refl
first_unmade (kind.DollarCrate c) t n a ns bare w = refl

nameless_unmade : (k : PathKind) (t : OptionTypeData) (bare : Bool) → generated_name (path_data k t datum.no_names bare) ≡ None
nameless_unmade kind.Plain datum.no_type bare = refl
nameless_unmade kind.Plain (datum.some_type t) bare = refl
nameless_unmade (kind.Super x) t bare = refl
nameless_unmade kind.Crate t bare = refl
nameless_unmade kind.Abs t bare = refl
nameless_unmade (kind.DollarCrate c) t bare = refl

names_unmade : (k : PathKind) (t : OptionTypeData) (ns : List Named) (bare : Bool) → AllWritten (map name_at ns)
    → generated_name (path_data k t (names_data ns) bare) ≡ None
names_unmade k t [] bare h = nameless_unmade k t bare
names_unmade k t (n ∷ ns) bare h = first_unmade k t n.name n.args (names_data ns) bare h.0

-- the path is no made name, where it is one
abbrev pub PathUnmade : Option PathData → Type 0
PathUnmade None = Unit {0}
PathUnmade (Some d) = generated_name d ≡ None

pub path_unmade : (p : OptionPath) → PathUnmade (written_path p)
path_unmade p = by (path_of p) (path_says p)
  where
    by : (x : Option PathRead) → PathWritten x → PathUnmade (option_map data_of x)
    by None h = tt
    by (Some x) h = names_unmade x.kind (anchor_data x.anchor) x.names x.bare h
