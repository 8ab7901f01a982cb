-- What is lent of a call, by value.
use Rattle.std.specs.Prelude.{Option, Some, None}
use denote.Ref.{Bor}
use Rattle.hir_syntax.specs.declared.macros.Fragment.{Fragment as AstFragment}
use Rattle.hir_env.specs.declared.expand.Expansion.{Expansion}
use Rattle.hir_env.specs.declared.expand.Expansion.TheVariants as lent
use Rattle.hir_env.specs.Answers.{Expanding, unresolved, no_expansion, expanded}

abbrev pub fragment_lent : Option (Bor AstFragment) → Option AstFragment
fragment_lent None = None
fragment_lent (Some f) = Some f.now

abbrev pub expanding_of : Expansion → Expanding
expanding_of (lent.Unresolved x) = unresolved x.now
expanding_of lent.NoExpansion = no_expansion
expanding_of (lent.Expanded f root es) = expanded f (fragment_lent root) es.now
