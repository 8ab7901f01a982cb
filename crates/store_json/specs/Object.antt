-- Objects, written from their first member on.
use Rattle.std.specs.Prelude.{◌≡◌, OnOk, Result}
use Rattle.json.specs.Written.{Written}
use Rattle.serde_json.specs.Data.{Members}
use Rattle.store_json.specs.Append.{HasReadable, with_members}

-- from here on these members are written, and the object ends
pub record Rest {E : Type 0} (r : Result (Unit {0}) E) (ms : Members) (old new : Written) : Type 0 where
  pub text : OnOk r (new.tokens ≡ with_members ms old.tokens)
  pub reads : HasReadable ms
  pub before : new.before ≡ old.before
