use Rattle.std.proofs.Common.{◌∙◌, ap}
use Rattle.std.proofs.lemmas.Result.{IfOk-weaker}
use Rattle.thm_result_json.specs.Results.{FunctionResult, function}
use Rattle.thm_result_json.proofs.Results.{function_theorem}
use Rattle.store_json.specs.Append.{with_data}
use Rattle.store_json.proofs.ReadBack.{form_reads, form_text}
use Rattle.store_json.proofs.results.function_to_json.Goals as goal

pub returns-clause-text : goal.returns-clause-text
returns-clause-text c =
    let written = c.in_ok-write_function.ensures in
    let a = c.args in
    let r : FunctionResult = (a.store.now, a.source_map.now, a.generic_params.now, a.args.now, a.ret, a.has_self, a.has_variadic) in
    let empty = written.before ∙ c.new-out.ensures.before ∙ c.in_ok-with_capacity.ensures.items in
    let same = written.text ∙ ap (with_data ((function).to r)) c.new-out.ensures.tokens in
    IfOk-weaker c.text_of.result _ _ (λ s e. form_text ((function).to r) _ c.write_function.new.out e empty same) c.text_of.ensures.text

pub returns-clause-reads_back : goal.returns-clause-reads_back
returns-clause-reads_back c =
    let written = c.in_ok-write_function.ensures in
    let a = c.args in
    let r : FunctionResult = (a.store.now, a.source_map.now, a.generic_params.now, a.args.now, a.ret, a.has_self, a.has_variadic) in
    let empty = written.before ∙ c.new-out.ensures.before ∙ c.in_ok-with_capacity.ensures.items in
    let same = written.text ∙ ap (with_data ((function).to r)) c.new-out.ensures.tokens in
    IfOk-weaker c.text_of.result _ _ (λ s e.
    form_reads function function_theorem r _ c.write_function.new.out e empty c.text_of.ensures.tokens same written.reads)
    c.text_of.ensures.text
