-- A part as what it is part of, and a group in place of all, while memory may be refused.
use Rattle.std.proofs.Common.{◌≡◌, ◌∙◌, Bool, Option, ap, sym}
use Rattle.std.specs.Prelude.{option_map}
use Rattle.json_nodes.specs.Kept.{Kept}

module _ {a b : Bool} where
  -- what the group says is what all say
  pub by_group : {T : Type 0} {r o q : Option T} → q ≡ o → Kept a b (r ≡ o) → Kept a b (r ≡ q)
  by_group same read = λ e. let it = read e in (it.0, it.1 ∙ sym same)

  pub made : {S T : Type 0} {r o : Option S} (f : S → T) → Kept a b (r ≡ o) → Kept a b (option_map f r ≡ option_map f o)
  made f read = λ e. let it = read e in (it.0, ap (option_map f) it.1)
