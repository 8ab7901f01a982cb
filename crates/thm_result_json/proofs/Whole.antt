-- The whole result reads back.
use Rattle.std.proofs.Common.{◌≡◌, ◌∙◌, Option, Some, None, ap, refl, sym}
use Rattle.hir_store.specs.Stored.{SourceMap, Store}
use Rattle.thm_result_json.specs.Codec.{Faithful}
use Rattle.thm_result_json.specs.Whole.{whole, whole_fields}
use Rattle.thm_result_json.proofs.Codecs.{Kept, keys, lasts, makes, reads, versions}
use Rattle.thm_result_json.proofs.Maps.{source_map_theorem, store_theorem}

whole_kept : Kept whole_fields 13
whole_kept =
    versions "format" 1 (keys "source_map" (reads source_map_theorem) (lasts "store" (reads store_theorem)) (λ d x. refl)) (λ d x. refl)

pub whole_theorem : Faithful whole 14
whole_theorem = makes (λ r. (r.1, r.0)) (λ v. (v.1, v.0)) whole_kept (λ r. refl)

-- what there is, or else this
or_else : {A : Type 0} → A → Option A → A
or_else x None = x
or_else x (Some y) = y

pub whole_apart : (a b : Store × SourceMap) → (whole).to a ≡ (whole).to b → a ≡ b
unfolding or_else
whole_apart a b same = ap (or_else a) (sym (whole_theorem.back a) ∙ (ap (whole).from same ∙ whole_theorem.back b))
