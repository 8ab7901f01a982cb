-- What a pattern does with names. A name, with its hygiene, is a number: what one table of the whole top pattern gives it, in the
-- order of first use. A name with a subpattern is a product of the subpattern and the use; tuples, records, slices and calls are
-- products of their parts; the other patterns are products of what is in them.
use Rattle.std.specs.Prelude.{ℕ}
use Rattle.hir_binding.specs.declared.binding.BindingAnnotation.{BindingAnnotation}

mutual
  pub data Uses : Type 0 where
    -- a use of the name with this number
    name_use : ℕ → BindingAnnotation → Uses
    product : Parts → Uses
    alternatives : Parts → Uses

  pub data Parts : Type 0 where
    no_parts : Parts
    more_parts : Uses → Parts → Parts
