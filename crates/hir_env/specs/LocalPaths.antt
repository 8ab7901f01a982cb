-- A path of one segment that stands directly in a macro call. Where the macro that its segment came from is local to its crate,
-- and it is one name that begins nowhere, it begins at the root of that crate. One that the text lacks is refused.
use Rattle.std.specs.Prelude.{if◌then◌else◌, Bool, true, false, ◌&&◌, List, [], ◌∷◌, Option, Some, None}
use Rattle.hir_store.specs.declared.ids.CrateId.{CrateId}
use Rattle.hir_store.specs.declared.ids.CtxId.{CtxId}
use Rattle.hir_store.specs.declared.name.Name.{Name}
use Rattle.hir_store.specs.declared.path.ModPath.{ModPath}
use Rattle.hir_env.specs.Answers.{Answers}
use Rattle.hir_env.specs.ResolvedTree as tree
use Rattle.hir_env.specs.ResolvedTree.{Path}
use Rattle.hir_env.specs.PathNames.{is_plain, mod_path_of}

abbrev is_one : List Name → Bool
is_one (n ∷ []) = true
is_one _ = false

-- one name that begins nowhere
abbrev pub is_bare : Option ModPath → Bool
is_bare None = false
is_bare (Some m) = is_plain m.kind && is_one m.segments

-- as behind `$crate`
abbrev pub behind_root : Option CrateId → Path → Path
behind_root root (tree.path alias leading first rest use_) =
    tree.path alias leading first rest
    (tree.some_path (tree.path None false (tree.dollar_crate_segment root) tree.no_segments tree.no_path))

-- the root of a context whose macro is local
abbrev pub local_root : Answers → CtxId → Option (Option CrateId)
local_root env c = if env.local_inner c then Some (env.crate_root c) else None

abbrev pub at_local_root : Option (Option CrateId) → Path → Path
at_local_root None x = x
at_local_root (Some root) x = if is_bare (mod_path_of (tree.some_path x)) then behind_root root x else x

-- one that the text lacks begins somewhere where `::` stands in front of it
abbrev pub or_broken : Bool → Path → Path
or_broken true x = x
or_broken false x = tree.path None false tree.broken_segment tree.no_segments tree.no_path
