-- The parts of a path, and what generic parameters are counted as.
use Rattle.std.specs.Prelude.{ℕ, List, [], ◌∷◌, ◌==◌, Bool, false, Option, Some, None, slice_get}
use Rattle.hir_store.specs.declared.hir.Expr.{Expr}
use Rattle.hir_store.specs.declared.hir.Expr.TheVariants as hir
use Rattle.hir_store.specs.declared.pat.Pat.{Pat}
use Rattle.hir_store.specs.declared.pat.Pat.TheVariants as pat
use Rattle.hir_store.specs.declared.name.Name.{Name}
use Rattle.hir_store.specs.declared.path.ModPath.{ModPath}
use Rattle.hir_store.specs.declared.path.GenericArgs.{GenericArgs}
use Rattle.hir_store.specs.declared.path.Path.{Path}
use Rattle.hir_store.specs.declared.path.Path.TheVariants.{BarePath, Normal, LangItem}
use Rattle.hir_store.specs.declared.path.PathKind.{PathKind}
use Rattle.hir_store.specs.declared.path.PathKind.TheVariants.{Plain, Super}
use Rattle.hir_store.specs.declared.ids.HygieneId.{HygieneId}
use Rattle.hir_store.specs.declared.ids.TypeRefId.{TypeRefId}

-- a lang item has none
abbrev pub mod_path_of : Path → Option ModPath
mod_path_of (BarePath p) = Some p
mod_path_of (Normal p) = Some p.mod_path
mod_path_of (LangItem i) = None

-- a lang item is plain
abbrev pub kind_of : Path → PathKind
kind_of (BarePath p) = p.kind
kind_of (Normal p) = p.mod_path.kind
kind_of (LangItem i) = Plain

abbrev pub anchor_of : Path → Option TypeRefId
anchor_of (Normal p) = p.type_anchor
anchor_of _ = None

abbrev pub names_of : Path → List Name
names_of (BarePath p) = p.segments
names_of (Normal p) = p.mod_path.segments
names_of (LangItem i) = []

abbrev pub args_found : Option (Option GenericArgs) → Option GenericArgs
args_found None = None
args_found (Some a) = a

-- the arguments of the segment at that index
abbrev pub args_at : Path → ℕ → Option GenericArgs
args_at (Normal p) i = args_found (slice_get p.generic_args i)
args_at _ i = None

-- the name that the path is, where it is one alone
abbrev pub ident_in : PathKind → List Name → Option Name
ident_in Plain (n ∷ []) = Some n
ident_in _ _ = None

-- `self`
abbrev pub is_self_in : PathKind → List Name → Bool
is_self_in (Super n) [] = n == 0
is_self_in _ _ = false

-- the hygiene of a path; the root's of another one, or where there is none
abbrev pub root_hygiene : HygieneId
root_hygiene = record { 0 = 0 }

abbrev pub expr_hygiene : Option Expr → HygieneId
expr_hygiene (Some (hir.Path p h)) = h
expr_hygiene _ = root_hygiene

abbrev pub pat_hygiene : Option Pat → HygieneId
pat_hygiene (Some (pat.Path p h)) = h
pat_hygiene _ = root_hygiene
