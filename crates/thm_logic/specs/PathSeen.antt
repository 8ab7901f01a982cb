-- How far a path is read. It is read from its end; what stands before the segment that ends the reading, or that refuses the
-- path, becomes nothing.
use Rattle.std.specs.Prelude.{ℕ, ◌+◌, if◌then◌else◌, Bool, true, false, Option, Some, None}
use Rattle.hir_env.specs.ResolvedTree as tree
use Rattle.hir_env.specs.ResolvedTree.{Path, OptionPath, Segments, Segment, OptionArgs, Args}

-- what was read by then: whether there is a name among it, and how many `super`s count
pub record Seen : Type 0 where
  pub named : Bool
  pub supers : ℕ

abbrev pub nothing_seen : Seen
nothing_seen = record { named = false; supers = 0 }

-- what comes of a segment
pub data Read : Type 0 where
  -- the path is refused
  refused : Read
  ended : Seen → Read
  goes_on : Seen → Read

abbrev pub after : Read → (Seen → Read) → Read
after (goes_on x) f = f x
after read f = read

abbrev pub named : Seen → Read
named x = goes_on (record x { named = true })

-- a `super` counts from nothing behind a segment that says where the path begins
abbrev pub anew : Seen → Seen
anew x = record x { supers = 0 }

abbrev pub at_first : Bool → Seen → Seen
at_first leading x = if leading then anew x else x

abbrev pub one_more : Seen → Seen
one_more x = record x { supers = x.supers + 1 }

abbrev pub self_read : Seen → Read
self_read x = if x.named then ended x else goes_on x

-- what a path is, where it isn't refused
abbrev pub found : Read → Option Seen
found refused = None
found (ended x) = Some x
found (goes_on x) = Some x

-- a trait that is refused or has no name refuses
abbrev pub projected : Option Seen → Read
projected None = refused
projected (Some x) = if x.named then goes_on x else refused

abbrev mutual
  pub segment_read : Bool → Segment → Seen → Read
  segment_read first tree.absent_segment x = named x
  segment_read first tree.broken_segment x = refused
  segment_read first (tree.name_segment n _ as') x = named x
  segment_read first tree.self_type_segment x = named x
  segment_read false tree.crate_segment x = refused
  segment_read true tree.crate_segment x = ended (anew x)
  segment_read false (tree.dollar_crate_segment root) x = refused
  segment_read true (tree.dollar_crate_segment root) x = ended (anew x)
  segment_read false tree.self_segment x = refused
  segment_read true tree.self_segment x = self_read x
  segment_read first tree.super_segment x = goes_on (one_more x)
  segment_read false (tree.type_segment t) x = refused
  segment_read true (tree.type_segment t) x = goes_on (anew x)
  segment_read false (tree.trait_segment t at p) x = refused
  segment_read true (tree.trait_segment t at p) x = projected (whole_read p)

  -- from the last
  pub segments_read : Segments → Seen → Read
  segments_read tree.no_segments x = goes_on x
  segments_read (tree.more_segments s ss) x = after (segments_read ss x) (λ y. segment_read false s y)

  -- its own segments, and then those of the use tree around it
  pub path_read : Path → Seen → Read
  path_read (tree.path alias leading first rest use_) x =
      after (after (segments_read rest x) (λ y. segment_read true first (at_first leading y))) (λ y. outer_read use_ y)

  pub outer_read : OptionPath → Seen → Read
  outer_read tree.no_path x = goes_on x
  outer_read (tree.some_path p) x = path_read p x

  pub whole_read : OptionPath → Option Seen
  whole_read tree.no_path = None
  whole_read (tree.some_path p) = found (path_read p nothing_seen)

-- the segments of a path, without those of the use tree around it
abbrev pub own_read : Bool → Segment → Segments → Seen → Read
own_read leading first rest x = after (segments_read rest x) (λ y. segment_read true first (at_first leading y))

-- a list of arguments is none without argument and binding
abbrev pub any_arg : Args → Bool
any_arg tree.no_args = false
any_arg (tree.more_args tree.skipped_arg as') = any_arg as'
any_arg (tree.more_args a as') = true

abbrev pub yields : OptionArgs → Bool
yields tree.no_arg_list = false
yields (tree.some_arg_list as') = any_arg as'
