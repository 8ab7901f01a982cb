-- What a call of a collector does.
use Rattle.std.specs.Prelude.{◌≡◌, ◌≢◌, Bool, true, false, is_err, [], Result, Err}
use Rattle.hir_store.specs.declared.error.StoreError.{StoreError}
use Rattle.hir_store.specs.declared.error.StoreError.TheVariants as fault
use Rattle.hir_lower.specs.declared.error.LowerError.{LowerError}
use Rattle.hir_lower.specs.declared.error.LowerError.TheVariants.{Memory, Full, Failed}
use Rattle.hir_lower_builder.specs.Builder.{Builder}

abbrev pub refusal : StoreError → LowerError
refusal fault.Memory = Memory
refusal fault.Full = Full

-- between two calls no label is open, and no root is being lowered
pub record Outside (b : Builder) : Type 0 where
  pub scopes : b.scopes ≡ []
  pub in_root : b.in_root ≡ false

-- a collector that failed before fails again and changes nothing
pub record FailsAgain {A : Type 0} (old : Builder) (result : Result A LowerError) (new : Builder) (failed : Bool) : Type 0 where
  pub refused : result ≡ Err Failed
  pub unchanged : new ≡ old
  pub stays : failed ≡ true

-- another never answers that it failed, and keeps in mind whether it answered an error
pub record Works {A : Type 0} (result : Result A LowerError) (failed : Bool) : Type 0 where
  pub own : result ≢ Err Failed
  pub kept : failed ≡ is_err result

abbrev pub Calls : {A : Type 0} → Bool → Builder → Result A LowerError → Builder → Bool → Type 0
Calls true old result new failed = FailsAgain old result new failed
Calls false old result new failed = Works result failed
