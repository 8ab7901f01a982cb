-- How large the `let`s are that stand in front of the body of a coroutine that a closure or a function has, and what the outside hands its
-- parameters to: of what the written patterns are, in order.
use Rattle.std.specs.Prelude.{List, [], ◌∷◌, None}
use Rattle.hir_env.specs.ResolvedTree as tree
use Rattle.hir_env.specs.ResolvedTree.{SelfFormal}
use Rattle.spec_data.specs.Data.{PatData}
use Rattle.spec_data.specs.Preludes.{HandedIn, by_name, by_its_name, by_generated_name, handed_in, source_of}
use Rattle.thm_body_result.specs.Size.{Size, nothing, an_expr, a_binding, a_generated_name, a_made_pat, a_pat, ◌∪◌}

-- the name that it is handed in by, bound by a pattern that is made up for the node of its own
abbrev pub handed_bind_size : PatData → Size
handed_bind_size p = a_binding ∪ a_made_pat (source_of p)

-- `let mut x = x; let p = x`
abbrev pub two_lets_size : PatData → Size
two_lets_size p = handed_bind_size p ∪ an_expr ∪ an_expr

abbrev pub lets_size : PatData → HandedIn → Size
lets_size p (by_name n h) = an_expr
lets_size p (by_its_name n h) = two_lets_size p
lets_size p by_generated_name = a_generated_name ∪ two_lets_size p

abbrev pub let_size : PatData → Size
let_size p = lets_size p (handed_in p)

abbrev pub prelude_size : List PatData → Size
prelude_size [] = nothing
prelude_size (p ∷ ps) = let_size p ∪ prelude_size ps

abbrev pub handed_size : List PatData → Size
handed_size [] = nothing
handed_size (p ∷ ps) = handed_bind_size p ∪ handed_size ps

-- `let self = self`, where there is one
abbrev pub self_let_size : SelfFormal → Size
self_let_size tree.no_self = nothing
self_let_size (tree.disabled_self at by) = nothing
self_let_size (tree.self_formal at u _) = a_binding ∪ a_pat None ∪ an_expr
