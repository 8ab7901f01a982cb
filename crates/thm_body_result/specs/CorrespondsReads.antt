-- What a whole pattern, a whole target and a type read back as.
use Rattle.std.specs.Prelude.{◌≡◌, ℕ, map, Option, Some, option_map, slice_get}
use Rattle.hir_binding.specs.Rule.{Shows}
use Rattle.hir_binding.specs.Steps.{over_all, shown}
use Rattle.hir_binding.specs.Uses.{Uses}
use Rattle.hir_binding.specs.declared.binding.BindingProblems.{BindingProblems}
use Rattle.hir_store.specs.Stored.{Store, SourceMap}
use Rattle.hir_store.specs.declared.ids.BindingId.{BindingId}
use Rattle.hir_store.specs.declared.ids.PatId.{PatId}
use Rattle.hir_store.specs.declared.ids.TypeRefId.{TypeRefId}
use Rattle.hir_store.specs.declared.pat.Binding.{Binding}
use Rattle.hir_env.specs.ResolvedTree.{OptionPat, OptionType, Target, Use}
use Rattle.spec_data.specs.Data.{PatData}
use Rattle.spec_data.specs.Patterns.{first_uses, written_pat, written_uses}
use Rattle.spec_data.specs.Reading.{stored_option_type, stored_pat}
use Rattle.spec_data.specs.Targets.{target_data}
use Rattle.spec_data.specs.Uses.{use_of}
use Rattle.spec_data.specs.Written.{written_option_type}
use Rattle.thm_body_result.specs.Leads.{Mappings, ◌&◌}
use Rattle.thm_body_result.specs.CorrespondsParts.{Names, ReadsAs}

-- the use that the binding was made for
abbrev pub made_for : Store → BindingId → Option Use
made_for store i = option_map use_of (slice_get store.bindings i.0)

-- The problem of the name with this number that is noted last: of its uses and the ends of alternatives, in the order of lowering, the
-- last at which something is wrong.
abbrev pub last_shown : ℕ → Uses → Option BindingProblems
last_shown k t = shown over_all k t

module _ (store : Store) (source_map : SourceMap) where
  -- The pattern is the written one, and each of its names has one of these bindings, with the mode of its first use. A binding
  -- shows no problem where the rule says that the name is right, and else one that is true of it; where several are, the last.
  pub record NamesOf (p : OptionPat) (i : PatId) (ks : Names) : Type 0 where
    pub is_read : stored_pat store source_map i ≡ written_pat p
    pub one_for_each : map (made_for store) ks ≡ map Some (first_uses p)
    pub shown : (k : ℕ) (b : BindingId) (x : Binding) → slice_get ks k ≡ Some b → slice_get store.bindings b.0 ≡ Some x
        → Shows x.problems k (written_uses p)
    pub is_last : (k : ℕ) (b : BindingId) (x : Binding) → slice_get ks k ≡ Some b → slice_get store.bindings b.0 ≡ Some x
        → x.problems ≡ last_shown k (written_uses p)

  -- what is so where the names of a top pattern have some bindings
  abbrev pub WithNames : OptionPat → (Names → Mappings) → PatId → Mappings
  WithNames p S i = λ ws. (ks : Names) × NamesOf p i ks × S ks ws

  -- one that is no part of a pattern reads back by itself
  abbrev pub ReadsAsPat : PatData → Mappings → PatId → Mappings
  ReadsAsPat d S i = λ ws. (stored_pat store source_map i ≡ d) × S ws

  -- a whole target reads back as it is written
  abbrev pub ReadsAsTarget : Target → Mappings → PatId → Mappings
  ReadsAsTarget t S i = ReadsAsPat (target_data t) S i

  -- a type that may stay absent, in which this stands
  abbrev pub ReadsAsType : OptionType → Mappings → Option TypeRefId → Mappings
  ReadsAsType t S y = S & ReadsAs (stored_option_type store source_map) (written_option_type t) y
