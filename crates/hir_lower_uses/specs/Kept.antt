-- What is kept of the body of a function, and how long all that lowering promises of it is so.
use Rattle.std.specs.Prelude.{◌≡◌, List, Option, Some, None, Ok, option_map}
use Rattle.hir_syntax.specs.declared.items.Fn.{Fn as AstFn}
use Rattle.hir_store.specs.declared.ids.DefWithBodyId.TheVariants as owner
use Rattle.hir_env.specs.Answers.{Answers}
use Rattle.hir_recorder.specs.Alike.{Covers}
use Rattle.hir_recorder.specs.Kept.{AllAnsweredAs}
use Rattle.hir_recorder.specs.declared.asked.Asked.{Asked}
use Rattle.thm_calls.specs.ByList.{body_call_asks}
use Rattle.thm_calls.specs.Promises.{BodyPromise}
use Rattle.thm_calls.specs.Readings.{BodyCall, body_call, body_reading}
use Rattle.hir_lower_uses.specs.declared.kept.Kept.{Kept}

-- the call for the body of a function that stands in module 0 and file 0
abbrev pub call_of : AstFn → BodyCall
call_of item = body_call (owner.FunctionId (record { 0 = 0 })) (record { node = item.id; range = item.range }) (record { 0 = 0 })
    (record { 0 = 0 }) item.params item.body item.async_ item.gen_

-- by these answers all is so of it that `lower_body` promises
abbrev pub IsBodyOf : Answers → AstFn → Kept → Type 0
IsBodyOf a item kept = BodyPromise (body_reading (call_of item) a) (Ok (kept.body, kept.source_map))

-- what was asked for it, if all of that can be asked again
abbrev pub asked_of : Kept → Option (List Asked)
asked_of kept = option_map (λ asked. asked.items) kept.asked

abbrev pub IfKept : (List Asked → Type 0) → Option (List Asked) → Type 0
IfKept Is None = Unit {0}
IfKept Is (Some xs) = Is xs

-- It was lowered by some answers, which are those that were kept.
pub record WasLowered (item : AstFn) (kept : Kept) : Type 0 where
  pub by : Answers
  pub is_body : IsBodyOf by item kept
  pub answered : IfKept (AllAnsweredAs by) (asked_of kept)

-- All that the theorem lists for the call by these answers was kept.
abbrev pub IsCovered : {item : AstFn} {kept : Kept} → WasLowered item kept → Type 0
IsCovered {item} {kept} was = IfKept (λ xs. Covers xs (body_call_asks (call_of item) was.by)) (asked_of kept)

-- What was kept is answered now as it was.
abbrev pub HoldsBy : Answers → Kept → Type 0
HoldsBy b kept = (xs : List Asked) × ((asked_of kept ≡ Some xs) × AllAnsweredAs b xs)
