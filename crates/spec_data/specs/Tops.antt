-- Top patterns, each of which has bindings of its own: those that a closure's parameters are.
use Rattle.std.specs.Prelude.{List, [], ◌∷◌}
use Rattle.hir_env.specs.ResolvedTree as tree
use Rattle.hir_env.specs.ResolvedTree.{OptionPat, Params}

abbrev pub Tops : Type 0
Tops = List OptionPat

-- of the parameters of a closure
abbrev pub params_tops : Params → Tops
params_tops tree.no_params = []
params_tops (tree.more_params (tree.disabled_param at by x) ps) = params_tops ps
params_tops (tree.more_params (tree.param p t) ps) = p ∷ params_tops ps
