-- What is answered at the end exists.
use Rattle.std.proofs.Common.{arith, refl, Ok}
use Rattle.std.specs.Prelude.{None, Option, Some}
use Rattle.hir_store.specs.Past.{Past}
use Rattle.hir_store.specs.Range.{Grows, Has}
use Rattle.hir_store.specs.Stored.{Stored}
use Rattle.hir_store.specs.declared.type_ref.TraitRef.{TraitRef}
use Rattle.hir_lower_builder.specs.Builder.{Builder}
use Rattle.hir_lower_builder.specs.Lowering.{Lowers, pure}
use Rattle.hir_lower_item.specs.Has.{HasTraitOption}

-- what is answered without a further step
pub last : {A : Type 0} (HasA : Stored → A → Type 0) (a : A) (b : Builder) → HasA b.stored a → Lowers HasA (pure a) b (Ok a) b
last HasA a b h = (refl, (omega arith, omega arith, omega arith, omega arith, omega arith, omega arith), h)

pub trait_kept : (a b : Stored) (t : Option TraitRef) → Grows a b → HasTraitOption a t → HasTraitOption b t
trait_kept a b None g h = tt
trait_kept a b (Some t) g h = omega (arith, g.2, h)

pub kept : (a b : Stored) (p : Past) → Grows a b → Has a p → Has b p
kept a b p g h = (omega arith, omega arith, omega arith, omega arith)

-- what exists before two further steps exists behind them
pub kept_twice : (a b c : Stored) (p : Past) → Grows a b → Grows b c → Has a p → Has c p
kept_twice a b c p g h k = kept b c p h (kept a b p g k)

pub kept_thrice : (a b c d : Stored) (p : Past) → Grows a b → Grows b c → Grows c d → Has a p → Has d p
kept_thrice a b c d p g h k x = kept_twice b c d p h k (kept a b p g x)
