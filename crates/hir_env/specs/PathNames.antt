-- The names of a path and where they begin, which say what it stands for. They are read from the last segment to the first, and
-- those of a qualifying trait stand in its place. Arguments and types don't count.
use Rattle.std.specs.Prelude.{ℕ, zero, suc, ◌+◌, codes, if◌then◌else◌, Bool, true, false, ◌&&◌, ◌||◌, not}
use Rattle.std.specs.Prelude.{List, [], ◌∷◌, ◌++◌, Option, Some, None, is_some}
use Rattle.hir_store.specs.declared.ids.CrateId.{CrateId}
use Rattle.hir_store.specs.declared.name.Name.{Name}
use Rattle.hir_store.specs.declared.name.Name.TheVariants as name
use Rattle.hir_store.specs.declared.path.ModPath.{ModPath}
use Rattle.hir_store.specs.declared.path.PathKind.{PathKind}
use Rattle.hir_store.specs.declared.path.PathKind.TheVariants as kind
use Rattle.hir_env.specs.ResolvedTree as tree
use Rattle.hir_env.specs.ResolvedTree.{Path, OptionPath, Segments, Segment}

-- a segment where it stands
pub data Piece : Type 0 where
  -- it refuses the path
  refusing : Piece
  named : Name → Piece
  -- `crate`, `$crate`
  root : PathKind → Piece
  self_ : Piece
  super_ : Piece
  -- `<T>`, and `<T as Trait>` with what is read of the trait, where that isn't refused
  anchor : Piece
  behind_trait : Option ModPath → Piece

-- What is read of the last segments. Once it has ended, those in front don't count.
pub record Reading : Type 0 where
  pub refused : Bool
  pub ended : Bool
  pub names : List Name
  -- the leftmost kind that is set, and the `super`s left of it
  pub set_kind : PathKind
  pub supers : ℕ
  pub anchored : Bool

abbrev pub nothing_read : Reading
nothing_read = record { refused = false; ended = false; names = []; set_kind = kind.Plain; supers = 0; anchored = false }

abbrev pub no_names : List Name → Bool
no_names [] = true
no_names (n ∷ ns) = false

-- a trait that is absent, refused or without names refuses too
abbrev pub refuses : Piece → Bool
refuses refusing = true
refuses (behind_trait None) = true
refuses (behind_trait (Some p)) = no_names p.segments
refuses _ = false

abbrev pub names_of : Piece → List Name
names_of (named n) = n ∷ []
names_of (behind_trait (Some p)) = p.segments
names_of _ = []

-- within one segment `crate`, `$crate` or a type sets the kind, and not a `::` beside it
abbrev pub sets : Bool → Piece → Option PathKind
sets leading (root k) = Some k
sets leading anchor = Some kind.Plain
sets leading (behind_trait (Some p)) = Some p.kind
sets leading _ = if leading then Some kind.Abs else None

abbrev pub kind_or : Option PathKind → PathKind → PathKind
kind_or (Some k) behind = k
kind_or None behind = behind

abbrev pub one_more : Piece → ℕ → ℕ
one_more super_ n = suc n
one_more _ n = n

-- `crate` and `$crate` end the reading, and `self` where a name stands behind it
abbrev pub ends : Piece → List Name → Bool
ends (root k) ns = true
ends self_ ns = not (no_names ns)
ends _ ns = false

abbrev pub is_anchor : Piece → Bool
is_anchor anchor = true
is_anchor _ = false

-- a segment is read in front of others
abbrev pub with_piece : Bool → Piece → Reading → Reading
with_piece leading x r = record {
  refused = r.refused || refuses x;
  ended = ends x r.names;
  names = names_of x ++ r.names;
  set_kind = kind_or (sets leading x) r.set_kind;
  supers = one_more x (if is_some (sets leading x) then 0 else r.supers);
  anchored = r.anchored || is_anchor x;
}

abbrev pub supers_in : PathKind → ℕ
supers_in (kind.Super n) = n
supers_in _ = 0

-- so many `super`s left of this kind
abbrev pub counted : PathKind → ℕ → PathKind
counted k zero = k
counted k (suc n) = kind.Super (supers_in k + suc n)

-- `self` in front of names stands for its module, where no `super` is counted
abbrev pub own_self : Piece → List Name → Reading → Reading
own_self self_ (n ∷ ns) r = record r { set_kind = kind.Super (supers_in (counted r.set_kind r.supers)); supers = 0 }
own_self x ns r = r

abbrev pub read_piece : Bool → Piece → Reading → Reading
read_piece leading x r = if r.ended then r else own_self x r.names (with_piece leading x r)

abbrev pub is_plain : PathKind → Bool
is_plain kind.Plain = true
is_plain _ = false

-- a path of no name that begins nowhere is `self`
abbrev pub own_kind : Reading → PathKind
own_kind r = let k = counted r.set_kind r.supers in if no_names r.names && is_plain k && not r.anchored then kind.Super 0 else k

abbrev pub path_read : Reading → Option ModPath
path_read r = if r.refused then None else Some (record { kind = own_kind r; segments = r.names })

-- `$crate` is the root of the context's crate, or `crate` where there is none
abbrev pub crate_kind : Option CrateId → PathKind
crate_kind None = kind.Crate
crate_kind (Some c) = kind.DollarCrate c

abbrev mutual
  -- `crate`, `$crate`, `self` and a type only stand first
  pub piece : Bool → Segment → Piece
  piece first tree.absent_segment = named name.Missing
  piece first tree.broken_segment = refusing
  piece first (tree.name_segment n _ a) = named n
  piece first tree.self_type_segment = named (name.Text (codes "Self"))
  piece first tree.super_segment = super_
  piece false tree.crate_segment = refusing
  piece true tree.crate_segment = root kind.Crate
  piece false (tree.dollar_crate_segment c) = refusing
  piece true (tree.dollar_crate_segment c) = root (crate_kind c)
  piece false tree.self_segment = refusing
  piece true tree.self_segment = self_
  piece false (tree.type_segment t) = refusing
  piece true (tree.type_segment t) = anchor
  piece false (tree.trait_segment t at p) = refusing
  piece true (tree.trait_segment t at p) = behind_trait (mod_path_of p)

  pub read_rest : Segments → Reading → Reading
  read_rest tree.no_segments r = r
  read_rest (tree.more_segments s ss) r = read_piece false (piece false s) (read_rest ss r)

  -- a path, and in front of it the use trees around it
  pub read_outward : Path → Reading → Reading
  read_outward (tree.path alias leading first rest use_) r = read_use use_ (read_piece leading (piece true first) (read_rest rest r))

  pub read_use : OptionPath → Reading → Reading
  read_use tree.no_path r = r
  read_use (tree.some_path p) r = read_outward p r

  -- none where it is absent or refused
  pub mod_path_of : OptionPath → Option ModPath
  mod_path_of tree.no_path = None
  mod_path_of (tree.some_path p) = path_read (read_outward p nothing_read)
