-- What is read of names that lowering made up. None is written.
use Rattle.std.specs.Prelude.{Bool, true, false, ℕ, Option, Some, None}
use Rattle.hir_store.specs.declared.name.Name.TheVariants as name
use Rattle.hir_store.specs.declared.path.PathKind.TheVariants as kind
use Rattle.spec_data.specs.Data.{PathData, path_data, no_type, more_names, no_names, no_args, PatData, pat_at}
use Rattle.spec_data.specs.Data.{generated_pattern}

-- the number of a made name, where that alone is the path
abbrev pub generated_name : PathData → Option ℕ
generated_name (path_data kind.Plain no_type (more_names (name.Generated n) no_args no_names) true) = Some n
generated_name _ = None

-- whether a pattern is a made name
abbrev pub is_made : PatData → Bool
is_made (pat_at source generated_pattern) = true
is_made _ = false
