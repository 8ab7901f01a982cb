-- What `ArgumentImplTrait` stores, answers and adds to the lists that it borrows is what the walk of an item stores, answers and notes of
-- an `impl` in an argument, from the same store and behind the same lists.
use Rattle.std.specs.Prelude.{◌≡◌, List, Some, Ok, Err}
use Rattle.hir_store.specs.Pointers.{Pointer}
use Rattle.hir_store.specs.Stored.{Stored}
use Rattle.hir_store.specs.declared.error.StoreError.{StoreError}
use Rattle.hir_store.specs.declared.error.StoreError.TheVariants.{Full}
use Rattle.hir_store.specs.declared.ids.GenericDefId.{GenericDefId}
use Rattle.hir_store.specs.declared.ids.TypeRefId.{TypeRefId}
use Rattle.hir_store.specs.declared.type_ref.TypeBound.{TypeBound}
use Rattle.hir_env.specs.declared.ctx.ImplTrait.{ImplTrait}
use Rattle.hir_env.specs.declared.ctx.ImplTrait.TheVariants.{Argument}
use Rattle.hir_lower_builder.specs.Builder.{Builder}
use Rattle.hir_lower_builder.specs.Lowering.{Lowering, becoming}
use Rattle.hir_lower_builder.specs.declared.generics.GenericLists.{GenericLists}
use Rattle.hir_lower.specs.Means.{AddsType, NoRoomForImpl, RoomForImpl, becomes, lists_behind}

module _ (def : GenericDefId) (at : Pointer) (bounds : List TypeBound) where
  abbrev pub in_argument : ImplTrait
  in_argument = Argument def

  -- what the walk does of an `impl` at the node with these bounds
  abbrev pub walk_step : Lowering TypeRefId
  walk_step = becoming at in_argument bounds

  -- What `lower` promises where it answers this number, its clauses `adds`, `lists` and `fits` in one: what is stored, the lists behind,
  -- and that there was room.
  pub record Lowered (old new : Stored) (lists behind : GenericLists) (i : TypeRefId) : Type 0 where
    pub adds : AddsType old new i (becomes in_argument (Some lists) bounds) at
    pub tracks : Some behind ≡ lists_behind in_argument (Some lists) i bounds
    pub fits : RoomForImpl old (Some lists)

  -- From any builder on: where the step answers, that is what is promised; what is promised is what the step answers, stores and notes, and
  -- nothing else changes; and it is refused just where there is no room.
  pub record SameAsWalk (b : Builder) : Type 0 where
    pub walked : (i : TypeRefId) (c : Builder) → walk_step b ≡ (Ok i, c)
        → Lowered b.stored c.stored b.tracks.generics c.tracks.generics i
    pub lowered : (i : TypeRefId) (new : Stored) (behind : GenericLists) → Lowered b.stored new b.tracks.generics behind i
        → walk_step b ≡ (Ok i, record b { stored = new; tracks = record b.tracks { generics = behind } })
    pub refused : (fault : StoreError) (c : Builder) → walk_step b ≡ (Err fault, c) → NoRoomForImpl b.stored (Some b.tracks.generics)
    pub full : NoRoomForImpl b.stored (Some b.tracks.generics) → (walk_step b).0 ≡ Err Full

abbrev pub ArgumentsAreOne : Type 0
ArgumentsAreOne = (def : GenericDefId) (at : Pointer) (bounds : List TypeBound) (b : Builder) → SameAsWalk def at bounds b
