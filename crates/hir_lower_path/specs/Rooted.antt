-- What is read of a segment that may begin at the root of a crate.
use Rattle.std.specs.Prelude.{Bool, true, false, not, Option, Some, None, Ok, Err}
use Rattle.hir_syntax.specs.declared.ast.SegmentKind.{SegmentKind}
use Rattle.hir_syntax.specs.declared.ast.SegmentKind.TheVariants as kind
use Rattle.hir_store.specs.declared.ids.CrateId.{CrateId}
use Rattle.hir_env.specs.LocalPaths.{is_bare}
use Rattle.hir_env.specs.PathNames.{mod_path_of}
use Rattle.hir_env.specs.TypeLayers.{PathTypeReading}
use Rattle.hir_lower_builder.specs.Lowering.{Checked, Lowering, ◌>>=◌, pure}
use Rattle.hir_lower_builder.specs.Walks.{crate_kind, ended}
use Rattle.hir_lower_builder.specs.declared.walk.Reading.{Reading}
use Rattle.hir_lower_builder.specs.declared.walk.Reading.TheVariants.{Open}

-- it begins there where it is one name that begins nowhere
abbrev pub at_root : Option CrateId → Bool → Reading → Reading
at_root root true (Open w) = ended (crate_kind root) w
at_root root bare r = r

abbrev pub read_at_root : Option CrateId → Bool → Lowering Reading → Lowering Reading
read_at_root root bare p = do
  r ← p
  pure (at_root root bare r)

-- what was read, unless there is a fault
abbrev pub if_read : Option CrateId → Bool → Checked Reading → Checked Reading
if_read root bare (Ok r) = Ok (at_root root bare r)
if_read root bare (Err e) = Err e

-- a trait stands for a qualified type
abbrev pub bare_trait : Option PathTypeReading → Bool
bare_trait None = false
bare_trait (Some t) = is_bare (mod_path_of t.path)

abbrev pub is_qualified : Option SegmentKind → Bool
is_qualified (Some kind.Qualified) = true
is_qualified k = false

abbrev pub bare_segment : Bool → Option SegmentKind → Option PathTypeReading → Bool
bare_segment leading (Some kind.Name) t = not leading
bare_segment leading (Some kind.SelfTypeKw) t = not leading
bare_segment leading (Some kind.Qualified) t = bare_trait t
bare_segment leading k t = false
