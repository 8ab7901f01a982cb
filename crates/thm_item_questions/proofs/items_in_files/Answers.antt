use Rattle.thm_questions.specs.Theorems.{nodes_in}
use Rattle.thm_questions.proofs.Files.{in_files}
use Rattle.thm_item_frame.specs.Theorems.{in_container}
use Rattle.thm_item_questions.proofs.Items.{alias_at_by, function_at_by, generics_at_by, impl_at_by, trait_at_by}
use Rattle.thm_item_questions.proofs.items_in_files.Goals as goal

pub returns-clause-generics : goal.returns-clause-generics
returns-clause-generics c = λ a area p w def ps ws. in_files area p w (generics_at_by a (nodes_in area) p def ps ws)

pub returns-clause-functions : goal.returns-clause-functions
returns-clause-functions c = λ a area p w def x. in_files area p w (function_at_by a (nodes_in area) p def x)

pub returns-clause-impls : goal.returns-clause-impls
returns-clause-impls c = λ a area p w def x. in_files area p w (impl_at_by a (nodes_in area) p def x)

pub returns-clause-traits : goal.returns-clause-traits
returns-clause-traits c = λ a area p w def x. in_files area p w (trait_at_by a (nodes_in area) p def x)

pub returns-clause-aliases : goal.returns-clause-aliases
returns-clause-aliases c = λ a area p container w def x. in_files area (in_container a container p) w
    (alias_at_by a (nodes_in area) p def container x)
