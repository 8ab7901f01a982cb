use Rattle.hir_lower.proofs.Collecting.{type_collected}
use Rattle.hir_lower.proofs.TypeMeanings.{adds_if, apart_type_if, ends_of_type_if, may_be_owned_type_if, no_room_if, outside_type_if}
use Rattle.hir_lower.proofs.TypeMeanings.{defined_type_if, mapped_type_if, names_of_type_if, tracks_of_type_if, room_if, scopes_if}
use Rattle.hir_lower.proofs.TypeMeanings.{unchanged_if}
use Rattle.hir_lower.proofs.TypeMeanings.{within_type_if}
use Rattle.hir_lower.proofs.collector.add_type.Goals as goal

pub returns-clause-adds : goal.returns-clause-adds
returns-clause-adds c = adds_if _ _ _ _ c.alloc_type.result c.alloc_type.ensures

pub returns-clause-full : goal.returns-clause-full
returns-clause-full c = λ is. ends_of_type_if _ _ _ _ c.alloc_type.result c.alloc_type.ensures is

pub returns-clause-no_room : goal.returns-clause-no_room
returns-clause-no_room c = λ is. no_room_if _ _ _ _ c.alloc_type.result c.alloc_type.ensures is

pub returns-clause-unchanged : goal.returns-clause-unchanged
returns-clause-unchanged c = λ is. unchanged_if _ _ _ _ c.alloc_type.result c.alloc_type.ensures is

pub returns-clause-scopes : goal.returns-clause-scopes
returns-clause-scopes c = λ n. scopes_if _ _ _ _ c.alloc_type.result c.alloc_type.ensures n

pub returns-clause-names : goal.returns-clause-names
returns-clause-names c = λ n. names_of_type_if _ _ _ _ c.alloc_type.result c.alloc_type.ensures n

pub returns-clause-tracks : goal.returns-clause-tracks
returns-clause-tracks c = λ n. tracks_of_type_if _ _ _ _ c.alloc_type.result c.alloc_type.ensures n

pub returns-clause-outside : goal.returns-clause-outside
returns-clause-outside c = λ out. outside_type_if _ _ _ _ c.alloc_type.result c.alloc_type.ensures out

pub returns-clause-apart : goal.returns-clause-apart
returns-clause-apart c = λ d m. apart_type_if _ _ _ _ c.alloc_type.result c.alloc_type.ensures d m

pub returns-clause-defined : goal.returns-clause-defined
returns-clause-defined c = λ known. defined_type_if _ _ _ _ c.alloc_type.result c.alloc_type.ensures known

pub returns-clause-mapped : goal.returns-clause-mapped
returns-clause-mapped c = λ m. mapped_type_if _ _ _ _ c.alloc_type.result c.alloc_type.ensures m

pub returns-clause-owners : goal.returns-clause-owners
returns-clause-owners c = λ m. may_be_owned_type_if _ _ _ _ c.alloc_type.result c.alloc_type.ensures m

pub returns-clause-fits : goal.returns-clause-fits
returns-clause-fits c = room_if _ _ _ _ c.alloc_type.result c.alloc_type.ensures

pub returns-clause-within : goal.returns-clause-within
returns-clause-within c = λ w. within_type_if _ _ _ _ c.alloc_type.result c.alloc_type.ensures w

pub returns-clause-collected : goal.returns-clause-collected
returns-clause-collected c = λ k. type_collected _ _ _ _ c.alloc_type.result (adds_if _ _ _ _ c.alloc_type.result c.alloc_type.ensures) k
