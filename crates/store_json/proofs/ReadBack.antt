-- A result reads back from its text.
use Rattle.std.proofs.Common.{◌≡◌, ◌∙◌, ◌++◌, ap, arith, List, [], ℕ, Some, option_and_then}
use Rattle.json.specs.Lex.{tokens}
use Rattle.json.specs.Print.{print}
use Rattle.json.specs.Written.{Written}
use Rattle.serde_json.specs.Data.{Data}
use Rattle.serde_json.specs.Read.{read}
use Rattle.serde_json.specs.Written.{compact_text}
use Rattle.serde_json.proofs.Texts.{print-outline}
use Rattle.thm_result_json.specs.Codec.{Codec, Faithful}
use Rattle.store_json.specs.Append.{IsReadable, with_data}
use Rattle.store_json.proofs.Reading.{text_reads, with_data_is}

-- what was written from nothing is the text of the data
pub form_text : (d : Data) (text : List ℕ) (w : Written) → text ≡ w.before ++ print w.tokens → w.before ≡ [] → w.tokens ≡ with_data d []
    → text ≡ compact_text d
form_text d text w is empty same =
    is ∙ ap (λ b. b ++ print w.tokens) empty ∙ ap print (same ∙ with_data_is d []) ∙ print-outline d

pub form_reads : {A : Type 0} (c : Codec A) → Faithful c 14 → (x : A) (text : List ℕ) (w : Written)
    → text ≡ w.before ++ print w.tokens → w.before ≡ [] → tokens (print w.tokens) ≡ w.tokens → w.tokens ≡ with_data (c.to x) []
    → IsReadable (c.to x) → option_and_then c.from (read text) ≡ Some x
form_reads c h x text w is empty kept same readable =
    ap (option_and_then c.from)
    (text_reads (c.to x) text (ap tokens (is ∙ ap (λ b. b ++ print w.tokens) empty) ∙ kept ∙ same) readable (omega (arith, h.depths x)))
    ∙ h.back x
