-- The faults of a document.
use Rattle.std.specs.Prelude.{ℕ, List}
use Rattle.json_errors.specs.declared.fault.Fault as rust
use Rattle.json_errors.specs.declared.fault.Fault.TheVariants as emitted

-- what is wrong: with the whole, with a node, with a field of a node, by its name, or with an entry of a table of the environment
pub data Fault : Type 0 where
  NotADocument : Fault
  TooManyNodes : Fault
  Root : Fault
  NotAnObject : ℕ → Fault
  Kind : ℕ → Fault
  Field : ℕ → List ℕ → Fault
  Index : ℕ → List ℕ → Fault
  UsedTwice : ℕ → List ℕ → Fault
  Env : List ℕ → ℕ → Fault
  Unused : ℕ → Fault
  TooDeep : ℕ → Fault
  NoTree : Fault

-- the fault that a value of Rust stands for
abbrev pub fault_of : rust.Fault → Fault
fault_of emitted.NotADocument = NotADocument
fault_of emitted.TooManyNodes = TooManyNodes
fault_of emitted.Root = Root
fault_of (emitted.NotAnObject at) = NotAnObject at
fault_of (emitted.Kind at) = Kind at
fault_of (emitted.Field at name) = Field at name.now
fault_of (emitted.Index at name) = Index at name.now
fault_of (emitted.UsedTwice at name) = UsedTwice at name.now
fault_of (emitted.Env name at) = Env name.now at
fault_of (emitted.Unused at) = Unused at
fault_of (emitted.TooDeep at) = TooDeep at
fault_of emitted.NoTree = NoTree
