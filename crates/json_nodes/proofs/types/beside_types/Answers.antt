use Rattle.std.proofs.lemmas.Grind.{common_steps}
use Rattle.std.proofs.Common.{refl, arith}
use Rattle.json_nodes.specs.Types.{beside_types}
use Rattle.json_nodes.proofs.types.beside_types.Goals as goal

pub returns-in-ArrayType : goal.returns-in-ArrayType
unfolding beside_types
returns-in-ArrayType g c = λ e.
    let made = c.whole-in-ArrayType.ensures e in
    let len = c.field-len.ensures made.0 in
    let ty = c.field-ty-in-ArrayType.ensures len.0 in
    (ty.0, rw c.in-ArrayType.is (rw made.1 (rw len.1 (rw ty.1 refl))))

pub returns-in-ForType : goal.returns-in-ForType
unfolding beside_types
returns-in-ForType g c = λ e.
    let made = c.whole-in-ForType.ensures e in
    let ty = c.field-ty-in-ForType.ensures made.0 in
    let binder = c.field-binder.ensures ty.0 in
    (binder.0, rw c.in-ForType.is (rw made.1 (rw ty.1 (rw binder.1 refl))))

pub returns-in-PatternType : goal.returns-in-PatternType
unfolding beside_types
returns-in-PatternType g c = λ e.
    let made = c.whole-in-PatternType.ensures e in
    let pat = c.field-pat.ensures made.0 in
    let ty = c.field-ty-in-PatternType.ensures pat.0 in
    (ty.0, rw c.in-PatternType.is (rw made.1 (rw pat.1 (rw ty.1 refl))))

pub returns-in-RefType : goal.returns-in-RefType
unfolding beside_types
returns-in-RefType g c = λ e.
    let made = c.whole.ensures e in
    let ty = c.field-ty.ensures made.0 in
    let lifetime = c.field-lifetime.ensures ty.0 in
    (lifetime.0, rw (c.in-RefType.is, made.1, lifetime.1, c.flag-mut_.ensures, c.value.ensures, ty.1))

pub returns-in-FnPtrType : goal.returns-in-FnPtrType
unfolding beside_types
returns-in-FnPtrType g c = λ e.
    let made = c.whole-in-FnPtrType.ensures e in
    let kind = c.function_pointer-kind.ensures made.0 in
    (kind.0, rw (c.in-FnPtrType.is, made.1, kind.1))

pub returns-in-MacroType : goal.returns-in-MacroType
unfolding beside_types
returns-in-MacroType g c = λ e.
    let made = c.whole-in-MacroType.ensures e in
    let call = c.field-call.ensures made.0 in
    (call.0, rw c.in-MacroType.is (rw made.1 (rw call.1 refl)))

pub field-lifetime-requires : goal.field-lifetime-requires
field-lifetime-requires g c = c.requires

pub field-ty-requires-in-ArrayType : goal.field-ty-requires-in-ArrayType
field-ty-requires-in-ArrayType g c = c.requires

pub field-call-requires : goal.field-call-requires
field-call-requires g c = c.requires

pub field-binder-requires : goal.field-binder-requires
field-binder-requires g c = c.requires

pub function_pointer-kind-requires : goal.function_pointer-kind-requires
function_pointer-kind-requires g c = c.requires

pub field-ty-requires-in-ForType : goal.field-ty-requires-in-ForType
field-ty-requires-in-ForType g c = c.requires

pub field-len-requires : goal.field-len-requires
field-len-requires g c = c.requires

pub field-ty-requires : goal.field-ty-requires
field-ty-requires g c = c.requires

pub field-ty-requires-in-PatternType : goal.field-ty-requires-in-PatternType
field-ty-requires-in-PatternType g c = c.requires

pub returns-in_default : goal.returns-in_default
unfolding beside_types
returns-in_default g c = grind (arith, common_steps)

pub field-pat-requires : goal.field-pat-requires
field-pat-requires g c = c.requires
