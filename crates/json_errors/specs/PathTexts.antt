-- Texts of paths: names joined by double colons, which one may also stand in front of. A name isn't empty and holds no colon.
use Rattle.std.specs.Prelude.{ℕ, ◌==◌, List, [], ◌∷◌, Bool, true, false, Option, Some, None, option_map, unwrap_or, if◌then◌else◌}
use Rattle.serde_json.specs.Data.{Data}
use Rattle.serde_json.specs.Find.{as_str}
use Rattle.json_errors.specs.declared.path_text.ResolveCtx.{ResolveCtx}
use Rattle.json_errors.specs.declared.path_text.ResolveCtx.TheVariants as rctx

-- where a colon leads
abbrev behind_colon : ResolveCtx → Option ResolveCtx
behind_colon rctx.Begin = Some rctx.Colon
behind_colon rctx.Name = Some rctx.Colon
behind_colon rctx.Colon = Some rctx.Owed
behind_colon rctx.Owed = None

-- where any other byte leads
abbrev behind_other : ResolveCtx → Option ResolveCtx
behind_other rctx.Colon = None
behind_other _ = Some rctx.Name

abbrev pub next : ResolveCtx → ℕ → Option ResolveCtx
next s b = if b == 58 then behind_colon s else behind_other s

abbrev ends_name : ResolveCtx → Bool
ends_name rctx.Name = true
ends_name _ = false

-- the rest of a text, from a place in it
abbrev pub is_rest : ResolveCtx → List ℕ → Bool
is_rest s [] = ends_name s
is_rest s (b ∷ bs) = unwrap_or (option_map (λ t. is_rest t bs) (next s b)) false

abbrev pub is_path_text : List ℕ → Bool
is_path_text text = is_rest rctx.Begin text

abbrev is_path_in : Option (List ℕ) → Bool
is_path_in None = false
is_path_in (Some text) = is_path_text text

abbrev pub is_path : Data → Bool
is_path d = is_path_in (as_str d)
