-- What a document is lowered to, as JSON.
use Rattle.std.specs.Prelude.{◌≡◌, ℕ, List}
use Rattle.serde_json.specs.Data.{Data}
use Rattle.serde_json.specs.Written.{compact_text}
use Rattle.thm_result_json.specs.Results as forms
use Rattle.lower_run.specs.declared.results.LoweringResult.{LoweringResult}
use Rattle.lower_run.specs.declared.results.LoweringResult.TheVariants as lowered

-- all that a document is lowered to
abbrev pub result_data : LoweringResult → Data
result_data (lowered.Body b) =
    (forms.body).to (b.body.store, b.source_map.store, b.body.params, b.body.self_param, b.source_map.self_param)
result_data (lowered.Path p) = (forms.path_result).to (p.store, p.source_map, p.path)
result_data (lowered.Type_ t) = (forms.type_result).to (t.store, t.source_map, t.type_ref)
result_data (lowered.Function f) =
    (forms.function).to (f.store, f.source_map, f.generic_params, f.args, f.ret, f.has_self, f.has_variadic)

-- the text is the JSON of a result, which reads back as that result (`results_stay_apart` and the others of `thm_result_json`)
abbrev pub IsResult : List ℕ → Type 0
IsResult text = (l : LoweringResult) × (text ≡ compact_text (result_data l))
