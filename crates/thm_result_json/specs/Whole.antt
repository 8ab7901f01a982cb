-- The whole result.
use Rattle.hir_store.specs.Stored.{SourceMap, Store}
use Rattle.thm_result_json.specs.Codec.{Codec, Fields, key, last, made, version}
use Rattle.thm_result_json.specs.Maps.{source_map, store}

-- `{"format": 1, "source_map": .., "store": ..}`
abbrev pub whole_fields : Fields (SourceMap × Store)
whole_fields = version "format" 1 (key "source_map" source_map (last "store" store))

abbrev pub whole : Codec (Store × SourceMap)
whole = made (λ r. (r.1, r.0)) (λ v. (v.1, v.0)) whole_fields
