-- What a pattern's name, its path and the path of the assignee expression are asked about.
use Rattle.std.specs.Prelude.{◌≡◌, map, option_map}
use Rattle.hir_store.specs.declared.path.ModPath.{ModPath}
use Rattle.hir_env.specs.ResolvedTree.{OptionPath}
use Rattle.hir_env.specs.PathNames.{mod_path_of}
use Rattle.spec_data.specs.Rule.{PathRead}
use Rattle.spec_data.specs.Written.{path_of}

-- where a path begins and its names, without what stands beside them
abbrev pub bare_path : PathRead → ModPath
bare_path p = record { kind = p.kind; segments = map (λ n. n.name) p.names }

-- It is what the rule of paths says of the whole list of segments, and there is none exactly where the rule refuses.
abbrev pub NameTheorem : Type 0
NameTheorem = (p : OptionPath) → mod_path_of p ≡ option_map bare_path (path_of p)
