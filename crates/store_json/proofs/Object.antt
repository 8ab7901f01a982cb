-- An object of its members.
use Rattle.std.proofs.Common.{◌≡◌, ◌∙◌, ap, true, List, ℕ, OnOk, Ok, Result, subst}
use Rattle.std.proofs.lemmas.Result.{on_ok_weaker}
use Rattle.json.specs.Token.{begin_object, end_object}
use Rattle.json.specs.Written.{Writes, Written}
use Rattle.serde_json.specs.Data.{Data, Members, member, no_members, object}
use Rattle.store_json.specs.Object.{Rest}
use Rattle.store_json.specs.Append.{Appends, AppendsMember, is_in_front, with_members}

pub rest_end : {E : Type 0} {r : Result (Unit {0}) E} {a new : Written} → Writes r a new end_object → Rest r no_members a new
rest_end w = record { text = w.ok; reads = tt; before = w.room.0 }

pub rest_more : {E : Type 0} {r : Result (Unit {0}) E} {k : List ℕ} {d : Data} {ms : Members} {a b new : Written} → AppendsMember k d a b
    → Rest r ms b new → is_in_front k ms ≡ true → Rest r (member k d ms) a new
rest_more {r = r} {ms = ms} t h in_front = record {
  text = on_ok_weaker r (λ e. e ∙ ap (with_members ms) t.text) h.text;
  reads = (in_front, (t.reads, h.reads));
  before = h.before ∙ t.before;
}

pub object_is : {E : Type 0} {r : Result (Unit {0}) E} {ms : Members} {old a new : Written} → Writes {E = E} (Ok tt) old a begin_object
    → Rest r ms a new → OnOk r (Appends (object ms) old new)
object_is {r = r} {ms = ms} w h =
    on_ok_weaker r (λ e. record { text = e ∙ ap (with_members ms) w.ok; reads = h.reads; before = h.before ∙ w.room.0 }) h.text

-- the same of equal data
pub same_member : {k : List ℕ} {d e : Data} {a b : Written} → d ≡ e → AppendsMember k d a b → AppendsMember k e a b
same_member {k} {d} {e} {a} {b} same t = subst (λ x. AppendsMember k x a b) same t

pub ruleset objects = (object_is, rest_end, rest_more)
