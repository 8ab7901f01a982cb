-- A function value that reads the parts of a list.
use Rattle.std.specs.Prelude.{◌≡◌, ℕ, Bool, List, Option}
use Rattle.std.specs.declared.alloc.Global.{Global}
use denote.Ref.{Bor, MutBor}
use Rattle.serde_json.specs.View.{items_view}
use Rattle.json_errors.specs.declared.members.NodeList.{NodeList}
use Rattle.json_errors.specs.declared.kind.Kind.{Kind}
use Rattle.lower_json.specs.Reading.{part_at}
use Rattle.json_nodes.specs.Any.{AnyPart}
use Rattle.json_nodes.specs.Kept.{Kept}

-- of such a function, with the kinds of the nodes, the nodes, levels, whether memory was refused, and an index
abbrev Pre : Type 1
Pre = Global → Bor (List (Option Kind)) → Bor NodeList → ℕ → MutBor Bool → ℕ → Type 0

abbrev Post : Type 1
Post = Global → Bor (List (Option Kind)) → Bor NodeList → ℕ → MutBor Bool → ℕ → Option AnyPart → MutBor Bool → Type 0

-- it may be called on the list for so many levels, and then answers what stands at a node
pub record Reads (pre : Pre) (post : Post) (kinds : List (Option Kind)) (nodes : NodeList) (levels : ℕ) : Type 0 where
  pub callable : (alloc : Global) (ks : Bor (List (Option Kind))) (vs : Bor NodeList) (old : MutBor Bool) (at : ℕ)
      → ks.now ≡ kinds → vs.now ≡ nodes → pre alloc ks vs levels old at
  pub emitted : (alloc : Global) (ks : Bor (List (Option Kind))) (vs : Bor NodeList) (old new : MutBor Bool) (at : ℕ) (r : Option AnyPart)
      → ks.now ≡ kinds → vs.now ≡ nodes → post alloc ks vs levels old at r new
      → Kept old.now new.now (r ≡ part_at levels kinds (items_view nodes.nodes.now) at)
