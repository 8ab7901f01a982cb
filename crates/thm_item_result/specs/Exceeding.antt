-- What there is room for, by how much is stored and counted, and by the limit alone.
use Rattle.std.specs.Prelude.{◌≡◌, ℕ, ◌+◌, ◌<◌, ◌≤◌, ◌^◌, ◌⊎◌, Bool, length, Option, None, Ok}
use Rattle.hir_store.specs.Stored.{Stored}
use Rattle.hir_store.specs.declared.hir.CoroutineKind.{CoroutineKind}
use Rattle.hir_env.specs.ResolvedTree.{Formals, OptionExpr, OptionPath, OptionType}
use Rattle.hir_lower_builder.specs.Builder.{Builder}
use Rattle.hir_lower_builder.specs.Lower.{lower_part, lower_path, type_part}
use Rattle.hir_lower_builder.specs.Lowering.{Lowering}
use Rattle.thm_logic.specs.Keeps.{Paired}
use Rattle.thm_body_result.specs.Formals.{lower_body}
use Rattle.thm_body_result.specs.Room.{body_size, size_part, type_part_size, whole_size}
use Rattle.thm_body_result.specs.Size.{Size}

-- More of some sort than an arena of this limit holds, or something counts further than 32 bits do, be it names that are made up or
-- parameters that are types or constants.
abbrev pub Exceeds : ℕ → Size → Type 0
Exceeds limit n =
    (limit < n.exprs)
    ⊎ ((limit < n.labels)
    ⊎ ((limit < length n.pats)
    ⊎ ((limit < n.bindings)
    ⊎ ((limit < length n.types)
    ⊎ ((limit < length n.lifetimes)
    ⊎ (n.overcounts ⊎ ((2 ^ 32 ≤ n.names) ⊎ (2 ^ 32 ≤ n.params))))))))

-- As much of each sort as an arena of this limit holds, as many names that are made up as are counted, and as many parameters.
pub record FitsIn (limit : ℕ) (n : Size) : Type 0 where
  pub exprs : n.exprs ≤ limit
  pub labels : n.labels ≤ limit
  pub pats : length n.pats ≤ limit
  pub bindings : n.bindings ≤ limit
  pub types : length n.types ≤ limit
  pub lifetimes : length n.lifetimes ≤ limit
  pub names : n.names < 2 ^ 32
  pub params : n.params < 2 ^ 32

-- the same behind what a builder has
pub record FitsBehind (n : Size) (b : Builder) : Type 0 where
  pub exprs : let a = b.stored.exprs in length a.entries + n.exprs ≤ a.limit
  pub labels : let a = b.stored.labels in length a.entries + n.labels ≤ a.limit
  pub pats : let a = b.stored.pats in length a.entries + length n.pats ≤ a.limit
  pub bindings : let a = b.stored.bindings in length a.entries + n.bindings ≤ a.limit
  pub types : let a = b.stored.types in length a.entries + length n.types ≤ a.limit
  pub lifetimes : let a = b.stored.lifetimes in length a.entries + length n.lifetimes ≤ a.limit
  pub names : b.names + n.names < 2 ^ 32
  pub params : length b.tracks.generics.type_or_consts + n.params < 2 ^ 32

-- theorems

-- no arena holds more than it may
abbrev pub AllWithin : Stored → Type 0
AllWithin s =
    (length s.exprs.entries ≤ s.exprs.limit) × (length s.labels.entries ≤ s.labels.limit)
    × (length s.types.entries ≤ s.types.limit) × (length s.lifetimes.entries ≤ s.lifetimes.limit)
    × (length s.pats.entries ≤ s.pats.limit) × (length s.bindings.entries ≤ s.bindings.limit)

-- nor does anything count further than 32 bits do
abbrev pub InLimits : Builder → Type 0
InLimits b = AllWithin b.stored × (b.names < 2 ^ 32) × (length b.tracks.generics.type_or_consts < 2 ^ 32)

-- What is stored and counted there was room for, and so it is behind it.
pub record HadRoom (n : Size) (b c : Builder) : Type 0 where
  pub fits : FitsBehind n b
  pub within : InLimits c

abbrev pub HasRoom : {A : Type 0} → Size → Lowering A → Type 0
HasRoom {A} n p = (b c : Builder) (a : A) → Paired b.stored → InLimits b → p b ≡ (Ok a, c) → HadRoom n b c

pub record RoomIsThere : Type 0 where
  pub exprs : (e : OptionExpr) → HasRoom (size_part e) (lower_part e)
  pub types : (t : OptionType) → HasRoom (type_part_size t) (type_part None t)
  pub paths : (p : OptionPath) → HasRoom (whole_size p) (lower_path p)
  pub bodies : (kind : Option CoroutineKind) (skipped : Bool) (f : Formals) (e : OptionExpr)
      → HasRoom (body_size kind skipped f e) (lower_body kind skipped f e)
