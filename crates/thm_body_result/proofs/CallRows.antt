-- Small trees with macro calls, worked out.
use Rattle.std.proofs.Common.{◌∙◌, refl, ap, ◌∷◌, ◌++◌}
use Rattle.spec_semantics.specs.Small.{at}
use Rattle.thm_body_result.specs.Leads.{expr_mapping}
use Rattle.thm_body_result.specs.ExampleCalls.{Calls}

pub calls : Calls
calls = record {
  entered = λ c store source_map i ws h. h.is ∙ (ap (λ l. l ++ h.right) h.first.2.1 ∙ ap (λ r. expr_mapping (at 1) i ∷ r) h.second);
  missing = λ store source_map i ws h. (h.0.stored, h.1);
  unknown = λ path. refl;
  no_fault = refl;
  gone = λ e. refl;
  pattern = λ c. refl;
  type_ = λ c. refl;
  untyped = refl;
  lacking = refl;
  from_none = refl;
}
