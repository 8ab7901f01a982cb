-- What the bindings of a top pattern stand for in the description of lowering.
use Rattle.std.specs.Prelude.{◌≡◌, ◌≢◌, ◌≤◌, suc, length, Ok, Err}
use Rattle.hir_binding.specs.Bindings.{tracked, name_count, depth}
use Rattle.hir_store.specs.Arenas.{past}
use Rattle.hir_store.specs.Range.{Grows}
use Rattle.hir_store.specs.Stored.{Stored}
use Rattle.hir_store.specs.declared.error.StoreError.TheVariants.{Memory}
use Rattle.hir_lower_builder.specs.Builder.{Builder}
use Rattle.hir_lower_builder.specs.Lowering.{Checked, Lowering, SomeEnd}
use Rattle.hir_lower_builder.specs.Pats.{Table}
use Rattle.hir_lower_pat.specs.declared.bindings.Bindings.{Bindings}

abbrev pub table_of : Bindings → Table
table_of b = record { bindings = b.ids; tracked = tracked b.list }

-- as many names are noted as have a binding, and each binding exists
abbrev pub HasNames : Stored → Bindings → Type 0
HasNames s b = (name_count b.list ≡ length b.ids) × (past (λ e. suc e.1.0) b.ids ≤ length s.bindings.entries)

-- as many or-patterns are open as before
abbrev pub SameDepth : Bindings → Bindings → Type 0
SameDepth was is = depth is.list ≡ depth was.list

-- What the steps answer and leave, unless memory was refused, and which names are known by then. What is answered exists, and no
-- arena is shorter than it was; where there is no room some end is reached.
abbrev pub LowersNamed : {A : Type 0} → (Stored → A → Type 0) → (Table → Lowering (A × Table))
    → Bindings → Builder → Checked A → Bindings → Builder → Type 0
LowersNamed Has p was old (Ok a) is new =
    (p (table_of was) old ≡ (Ok (a, table_of is), new)) × Grows old.stored new.stored × Has new.stored a
    × HasNames new.stored is × SameDepth was is
LowersNamed Has p was old (Err e) is new = e ≢ Memory → (p (table_of was) old ≡ (Err e, new)) × SomeEnd new
