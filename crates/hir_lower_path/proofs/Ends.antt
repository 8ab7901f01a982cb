-- A list of segments is read from its end.
use Rattle.std.proofs.Common.{◌≡◌, ◌∙◌, refl, ap, List, [], ◌∷◌, ◌++◌, Option, Ok, Err, false}
use Rattle.hir_env.specs.declared.ctx.LowerCtx.{LowerCtx}
use Rattle.hir_env.specs.ResolvedTree.{Segment}
use Rattle.hir_env.specs.Paths.{segments_of, segment_or_absent}
use Rattle.hir_lower_builder.specs.declared.walk.PathWalk.{PathWalk}
use Rattle.hir_lower_builder.specs.declared.walk.Reading.{Reading}
use Rattle.hir_lower_builder.specs.declared.walk.Reading.TheVariants.{Refused, Ended, Open}
use Rattle.hir_lower_builder.specs.Builder.{Builder}
use Rattle.hir_lower_builder.specs.Lowering.{Checked, Lowering, go_on, pure}
use Rattle.hir_lower_builder.specs.Lower.{read_each, read_segment}
use Rattle.hir_lower_builder.specs.Nests.{Each}
use Rattle.hir_lower_builder.specs.Paths.{proceed}

pub each_before : {A : Type 0} (P : A → Type 0) (xs : List A) (x : A) → Each P (xs ++ x ∷ []) → Each P xs
each_before P [] x h = tt
each_before P (y ∷ xs) x h = (h.0, each_before P xs x h.1)

pub each_last : {A : Type 0} (P : A → Type 0) (xs : List A) (x : A) → Each P (xs ++ x ∷ []) → P x
each_last P [] x h = h.0
each_last P (y ∷ xs) x h = each_last P xs x h.1

pub open_stays : (o : Checked Reading) (b : Builder) → (o, b) ≡ go_on o b (λ r. proceed r (λ v. pure (Open v)))
open_stays (Ok Refused) b = refl
open_stays (Ok (Ended w)) b = refl
open_stays (Ok (Open w)) b = refl
open_stays (Err e) b = refl

abbrev then_on : (PathWalk → Lowering Reading) → Checked Reading × Builder → Checked Reading × Builder
then_on f o = go_on o.0 o.1 (λ r. proceed r f)

proceed_then : (f g : PathWalk → Lowering Reading) (o : Checked Reading) (b : Builder)
    → then_on g (then_on f (o, b)) ≡ go_on o b (λ r. proceed r (λ v c. then_on g (f v c)))
proceed_then f g (Ok Refused) b = refl
proceed_then f g (Ok (Ended w)) b = refl
proceed_then f g (Ok (Open w)) b = refl
proceed_then f g (Err e) b = refl

-- the last is read before those before it
pub read_each_last : {A : Type 0} (read : A → LowerCtx → Segment) (p : LowerCtx) (xs : List (Option A)) (x : Option A)
    (w : PathWalk) (b : Builder) → read_each (segments_of read (xs ++ x ∷ []) p) w b
    ≡ go_on (read_segment false (segment_or_absent read x p) w b).0 (read_segment false (segment_or_absent read x p) w b).1
    (λ r. proceed r (read_each (segments_of read xs p)))
read_each_last read p [] x w b =
    let o = read_segment false (segment_or_absent read x p) w b in open_stays o.0 o.1
read_each_last read p (y ∷ xs) x w b =
    let o = read_segment false (segment_or_absent read x p) w b in
    ap (then_on (read_segment false (segment_or_absent read y p))) (read_each_last read p xs x w b)
    ∙ proceed_then (read_each (segments_of read xs p)) (read_segment false (segment_or_absent read y p)) o.0 o.1
