-- One level of what stands at the nodes of a list.
use Rattle.std.proofs.Common.{◌≡◌, ◌∙◌, ℕ, suc, zero, Bool, List, Option, Some, None, refl, ap, arith}
use Rattle.std.specs.Prelude.{option_and_then}
use Rattle.serde_json.specs.Data.{Data, Items}
use Rattle.serde_json.specs.Find.{get_item}
use Rattle.json_errors.specs.Kinds.{kind_at}
use Rattle.json_errors.specs.declared.kind.Kind.{Kind}
use Rattle.lower_json.specs.Reading.{part_at, of_kind}
use Rattle.json_nodes.specs.Kept.{Kept}
use Rattle.json_nodes.specs.Nodes.{node_at}
use Rattle.json_nodes.specs.Parts.{Here}
use Rattle.json_nodes.specs.Any.{AnyPart}

pub no_level : (n : ℕ) (kinds : List (Option Kind)) (ns : Items) (at : ℕ) → n ≡ 0 → None ≡ part_at n kinds ns at
unfolding part_at
no_level zero kinds ns at h = refl
no_level (suc n) kinds ns at h = absurd (omega arith)

pub no_item : (n : ℕ) (kinds : List (Option Kind)) (ns : Items) (at : ℕ) → get_item at ns ≡ None → None ≡ part_at n kinds ns at
unfolding part_at
no_item zero kinds ns at h = refl
no_item (suc n) kinds ns at h = rw h refl

without_kind : (f : Data → Kind → Option AnyPart) (k : Option Kind) (o : Option Data)
    → k ≡ None → None ≡ option_and_then (λ d. option_and_then (f d) k) o
without_kind f k None h = refl
without_kind f k (Some d) h = rw h refl

pub no_kind : (n : ℕ) (kinds : List (Option Kind)) (ns : Items) (at : ℕ)
    → kind_at kinds at ≡ None → None ≡ part_at n kinds ns at
unfolding part_at
no_kind zero kinds ns at h = refl
no_kind (suc n) kinds ns at h = without_kind (λ d. of_kind (node_at (part_at n kinds ns) at d)) (kind_at kinds at) (get_item at ns) h

pub one_level : (n m : ℕ) (kinds : List (Option Kind)) (ns : Items) (at : ℕ) (d : Data) (k : Kind)
    → n ≡ suc m → get_item at ns ≡ Some d → kind_at kinds at ≡ Some k
    → part_at n kinds ns at ≡ of_kind (node_at (part_at m kinds ns) at d) k
unfolding part_at
one_level zero m kinds ns at d k e i s = absurd (omega (arith, e))
one_level (suc n) m kinds ns at d k e i s = rw i (rw s (let same : n ≡ m = omega (arith, e) in rw same refl))

-- the same node says the same
pub at_node : {a b : Bool} {h i : Here} {r : Option AnyPart} (k : Kind) → h ≡ i → Kept a b (r ≡ of_kind h k) → Kept a b (r ≡ of_kind i k)
at_node k same read = λ e. let it = read e in (it.0, it.1 ∙ ap (λ x. of_kind x k) same)
