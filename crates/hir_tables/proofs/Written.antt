-- What is written back where nothing changed.
use Rattle.std.proofs.Common.{◌≡◌, ◌∙◌, ap, Bool, List, Some, Result, Ok, Err, OnErr, OnOk}
use Rattle.std.specs.Map.{lookup, set_value}
use Rattle.std.proofs.lemmas.Map.Steps.{set_value_same}

pub written_back : {K X : Type 0} (test : K → Bool) (es fs : List (K × X)) (v w : X)
    → fs ≡ set_value test es w → lookup test es ≡ Some v → w ≡ v → fs ≡ es
written_back test es fs v w written found same = written ∙ (ap (set_value test es) same ∙ set_value_same test es v found)

pub on_err : {A E : Type 0} {P Q : Type 0} (r : Result A E) → (P → Q) → OnErr r P → OnErr r Q
on_err (Ok x) f p = p
on_err (Err e) f p = f p

pub on_ok : {A E : Type 0} {P Q : Type 0} (r : Result A E) → (P → Q) → OnOk r P → OnOk r Q
on_ok (Ok x) f p = f p
on_ok (Err e) f p = p
