-- Words read back.
use Rattle.std.proofs.Common.{◌≡◌, Some, false, refl, true}
use Rattle.hir_binding.specs.declared.binding.BindingAnnotation.{BindingAnnotation}
use Rattle.hir_binding.specs.declared.binding.BindingAnnotation.TheVariants as mode_is
use Rattle.hir_binding.specs.declared.binding.BindingProblems.{BindingProblems}
use Rattle.hir_binding.specs.declared.binding.BindingProblems.TheVariants as problem_is
use Rattle.hir_base.specs.declared.op.LiteralKind.{LiteralKind}
use Rattle.hir_base.specs.declared.op.LiteralKind.TheVariants as literal_is
use Rattle.hir_base.specs.declared.op.UnaryOp.{UnaryOp}
use Rattle.hir_base.specs.declared.op.UnaryOp.TheVariants as unary_is
use Rattle.hir_base.specs.declared.op.RangeOp.{RangeOp}
use Rattle.hir_base.specs.declared.op.RangeOp.TheVariants as range_is
use Rattle.hir_store.specs.declared.hir.Mutability.{Mutability}
use Rattle.hir_store.specs.declared.hir.Mutability.TheVariants as mutability_is
use Rattle.hir_store.specs.declared.hir.Rawness.{Rawness}
use Rattle.hir_store.specs.declared.hir.Rawness.TheVariants as rawness_is
use Rattle.hir_store.specs.declared.hir.LoopSource.{LoopSource}
use Rattle.hir_store.specs.declared.hir.LoopSource.TheVariants as loop_is
use Rattle.hir_store.specs.declared.hir.CaptureBy.{CaptureBy}
use Rattle.hir_store.specs.declared.hir.CaptureBy.TheVariants as capture_is
use Rattle.hir_store.specs.declared.type_ref.TraitBoundModifier.{TraitBoundModifier}
use Rattle.hir_store.specs.declared.type_ref.TraitBoundModifier.TheVariants as modifier_is
use Rattle.hir_store.specs.declared.type_ref.ExternAbi.{ExternAbi}
use Rattle.hir_store.specs.declared.type_ref.ExternAbi.TheVariants as abi_is
use Rattle.hir_store.specs.declared.path.GenericArgsParentheses.{GenericArgsParentheses}
use Rattle.hir_store.specs.declared.path.GenericArgsParentheses.TheVariants as parens_is
use Rattle.hir_store.specs.declared.generics.TypeParamProvenance.{TypeParamProvenance}
use Rattle.hir_store.specs.declared.generics.TypeParamProvenance.TheVariants as provenance_is
use Rattle.hir_store.specs.declared.generics.LifetimeBoundType.{LifetimeBoundType}
use Rattle.hir_store.specs.declared.generics.LifetimeBoundType.TheVariants as bound_type_is
use Rattle.hir_store.specs.declared.diagnostics.AwaitLocation.{AwaitLocation}
use Rattle.hir_store.specs.declared.diagnostics.AwaitLocation.TheVariants as location_is
use Rattle.hir_store.specs.declared.diagnostics.MissingBodyItemKind.{MissingBodyItemKind}
use Rattle.hir_store.specs.declared.diagnostics.MissingBodyItemKind.TheVariants as missing_is
use Rattle.hir_base.specs.declared.op.BinaryOp.{BinaryOp}
use Rattle.hir_base.specs.declared.op.BinaryOp.TheVariants as binary
use Rattle.hir_store.specs.declared.hir.ClosureKind.{ClosureKind}
use Rattle.hir_store.specs.declared.hir.ClosureKind.TheVariants as closure
use Rattle.hir_base.specs.declared.op.LogicOp.TheVariants as logic
use Rattle.hir_base.specs.declared.op.ArithOp.TheVariants as arith_op
use Rattle.hir_base.specs.declared.op.CmpOp.TheVariants as cmp
use Rattle.hir_base.specs.declared.op.Ordering.TheVariants as order
use Rattle.hir_store.specs.declared.hir.Movability.TheVariants as movability
use Rattle.hir_store.specs.declared.hir.CoroutineKind.TheVariants as coroutine
use Rattle.hir_store.specs.declared.hir.CoroutineSource.TheVariants as source
use Rattle.thm_result_json.specs.Codec.{Faithful}
use Rattle.thm_result_json.specs.Words.{mode, problem, literal_kind, unary_op, range_op, mutability, rawness, loop_source, capture}
use Rattle.thm_result_json.specs.Words.{modifier}
use Rattle.thm_result_json.specs.Words.{abi, parentheses, provenance, bound_type, await_location, missing_body, binary_op, closure_kind}
use Rattle.thm_result_json.proofs.Codecs.{words}

mode_back : (x : BindingAnnotation) → (mode).from ((mode).to x) ≡ Some x
mode_back mode_is.Unannotated = refl
mode_back mode_is.Mutable = refl
mode_back mode_is.Ref = refl
mode_back mode_is.RefMut = refl

pub mode_theorem : Faithful mode 0
mode_theorem = words mode mode_back (λ x. tt)

problem_back : (x : BindingProblems) → (problem).from ((problem).to x) ≡ Some x
problem_back problem_is.BoundMoreThanOnce = refl
problem_back problem_is.BoundInconsistently = refl
problem_back problem_is.NotBoundAcrossAll = refl

pub problem_theorem : Faithful problem 0
problem_theorem = words problem problem_back (λ x. tt)

literal_kind_back : (x : LiteralKind) → (literal_kind).from ((literal_kind).to x) ≡ Some x
literal_kind_back literal_is.Str = refl
literal_kind_back literal_is.ByteStr = refl
literal_kind_back literal_is.CStr = refl
literal_kind_back literal_is.Char = refl
literal_kind_back literal_is.Bool = refl
literal_kind_back literal_is.Int = refl
literal_kind_back literal_is.Float = refl

pub literal_kind_theorem : Faithful literal_kind 0
literal_kind_theorem = words literal_kind literal_kind_back (λ x. tt)

unary_op_back : (x : UnaryOp) → (unary_op).from ((unary_op).to x) ≡ Some x
unary_op_back unary_is.Deref = refl
unary_op_back unary_is.Not = refl
unary_op_back unary_is.Neg = refl

pub unary_op_theorem : Faithful unary_op 0
unary_op_theorem = words unary_op unary_op_back (λ x. tt)

range_op_back : (x : RangeOp) → (range_op).from ((range_op).to x) ≡ Some x
range_op_back range_is.Exclusive = refl
range_op_back range_is.Inclusive = refl

pub range_op_theorem : Faithful range_op 0
range_op_theorem = words range_op range_op_back (λ x. tt)

mutability_back : (x : Mutability) → (mutability).from ((mutability).to x) ≡ Some x
mutability_back mutability_is.Shared = refl
mutability_back mutability_is.Mut = refl

pub mutability_theorem : Faithful mutability 0
mutability_theorem = words mutability mutability_back (λ x. tt)

rawness_back : (x : Rawness) → (rawness).from ((rawness).to x) ≡ Some x
rawness_back rawness_is.RawPtr = refl
rawness_back rawness_is.Ref = refl

pub rawness_theorem : Faithful rawness 0
rawness_theorem = words rawness rawness_back (λ x. tt)

loop_source_back : (x : LoopSource) → (loop_source).from ((loop_source).to x) ≡ Some x
loop_source_back loop_is.Loop = refl
loop_source_back loop_is.While = refl
loop_source_back loop_is.ForLoop = refl

pub loop_source_theorem : Faithful loop_source 0
loop_source_theorem = words loop_source loop_source_back (λ x. tt)

capture_back : (x : CaptureBy) → (capture).from ((capture).to x) ≡ Some x
capture_back capture_is.Value = refl
capture_back capture_is.Ref = refl

pub capture_theorem : Faithful capture 0
capture_theorem = words capture capture_back (λ x. tt)

modifier_back : (x : TraitBoundModifier) → (modifier).from ((modifier).to x) ≡ Some x
modifier_back modifier_is.None = refl
modifier_back modifier_is.Maybe = refl

pub modifier_theorem : Faithful modifier 0
modifier_theorem = words modifier modifier_back (λ x. tt)

abi_back : (x : ExternAbi) → (abi).from ((abi).to x) ≡ Some x
abi_back abi_is.Rust = refl
abi_back abi_is.C = refl
abi_back abi_is.CUnwind = refl
abi_back abi_is.System = refl
abi_back abi_is.SystemUnwind = refl
abi_back abi_is.Cdecl = refl
abi_back abi_is.Stdcall = refl
abi_back abi_is.Fastcall = refl
abi_back abi_is.Vectorcall = refl
abi_back abi_is.Thiscall = refl
abi_back abi_is.Aapcs = refl
abi_back abi_is.Win64 = refl
abi_back abi_is.Sysv64 = refl
abi_back abi_is.Efiapi = refl
abi_back abi_is.RustCall = refl

pub abi_theorem : Faithful abi 0
abi_theorem = words abi abi_back (λ x. tt)

parentheses_back : (x : GenericArgsParentheses) → (parentheses).from ((parentheses).to x) ≡ Some x
parentheses_back parens_is.No = refl
parentheses_back parens_is.ReturnTypeNotation = refl
parentheses_back parens_is.ParenSugar = refl

pub parentheses_theorem : Faithful parentheses 0
parentheses_theorem = words parentheses parentheses_back (λ x. tt)

provenance_back : (x : TypeParamProvenance) → (provenance).from ((provenance).to x) ≡ Some x
provenance_back provenance_is.TypeParamList = refl
provenance_back provenance_is.TraitSelf = refl
provenance_back provenance_is.ArgumentImplTrait = refl

pub provenance_theorem : Faithful provenance 0
provenance_theorem = words provenance provenance_back (λ x. tt)

bound_type_back : (x : LifetimeBoundType) → (bound_type).from ((bound_type).to x) ≡ Some x
bound_type_back bound_type_is.EarlyBound = refl
bound_type_back bound_type_is.LateBound = refl

pub bound_type_theorem : Faithful bound_type 0
bound_type_theorem = words bound_type bound_type_back (λ x. tt)

await_location_back : (x : AwaitLocation) → (await_location).from ((await_location).to x) ≡ Some x
await_location_back location_is.NonAsyncFunction = refl
await_location_back location_is.Static = refl
await_location_back location_is.Constant = refl
await_location_back location_is.EnumVariant = refl
await_location_back location_is.NonAsyncGenBlock = refl
await_location_back location_is.ConstantBlock = refl
await_location_back location_is.NonAsyncClosure = refl
await_location_back location_is.Unknown = refl

pub await_location_theorem : Faithful await_location 0
await_location_theorem = words await_location await_location_back (λ x. tt)

missing_body_back : (x : MissingBodyItemKind) → (missing_body).from ((missing_body).to x) ≡ Some x
missing_body_back missing_is.Static = refl
missing_body_back missing_is.Const = refl
missing_body_back missing_is.AssocConst = refl
missing_body_back missing_is.TypeAlias = refl
missing_body_back missing_is.AssocType = refl

pub missing_body_theorem : Faithful missing_body 0
missing_body_theorem = words missing_body missing_body_back (λ x. tt)

binary_op_back : (x : BinaryOp) → (binary_op).from ((binary_op).to x) ≡ Some x
binary_op_back (binary.LogicOp logic.And) = refl
binary_op_back (binary.LogicOp logic.Or) = refl
binary_op_back (binary.ArithOp arith_op.Add) = refl
binary_op_back (binary.ArithOp arith_op.Mul) = refl
binary_op_back (binary.ArithOp arith_op.Sub) = refl
binary_op_back (binary.ArithOp arith_op.Div) = refl
binary_op_back (binary.ArithOp arith_op.Rem) = refl
binary_op_back (binary.ArithOp arith_op.Shl) = refl
binary_op_back (binary.ArithOp arith_op.Shr) = refl
binary_op_back (binary.ArithOp arith_op.BitXor) = refl
binary_op_back (binary.ArithOp arith_op.BitOr) = refl
binary_op_back (binary.ArithOp arith_op.BitAnd) = refl
binary_op_back (binary.CmpOp (cmp.Eq false)) = refl
binary_op_back (binary.CmpOp (cmp.Eq true)) = refl
binary_op_back (binary.CmpOp (cmp.Ord order.Less false)) = refl
binary_op_back (binary.CmpOp (cmp.Ord order.Less true)) = refl
binary_op_back (binary.CmpOp (cmp.Ord order.Greater false)) = refl
binary_op_back (binary.CmpOp (cmp.Ord order.Greater true)) = refl
binary_op_back (binary.Assignment arith_op.Add) = refl
binary_op_back (binary.Assignment arith_op.Mul) = refl
binary_op_back (binary.Assignment arith_op.Sub) = refl
binary_op_back (binary.Assignment arith_op.Div) = refl
binary_op_back (binary.Assignment arith_op.Rem) = refl
binary_op_back (binary.Assignment arith_op.Shl) = refl
binary_op_back (binary.Assignment arith_op.Shr) = refl
binary_op_back (binary.Assignment arith_op.BitXor) = refl
binary_op_back (binary.Assignment arith_op.BitOr) = refl
binary_op_back (binary.Assignment arith_op.BitAnd) = refl
binary_op_back binary.Assign = refl

pub binary_op_theorem : Faithful binary_op 0
binary_op_theorem = words binary_op binary_op_back (λ x. tt)

closure_kind_back : (x : ClosureKind) → (closure_kind).from ((closure_kind).to x) ≡ Some x
closure_kind_back closure.Closure = refl
closure_kind_back (closure.OldCoroutine movability.Movable) = refl
closure_kind_back (closure.OldCoroutine movability.Static) = refl
closure_kind_back (closure.Coroutine coroutine.Async source.Block) = refl
closure_kind_back (closure.Coroutine coroutine.Async source.Closure) = refl
closure_kind_back (closure.Coroutine coroutine.Async source.Fn) = refl
closure_kind_back (closure.Coroutine coroutine.Gen source.Block) = refl
closure_kind_back (closure.Coroutine coroutine.Gen source.Closure) = refl
closure_kind_back (closure.Coroutine coroutine.Gen source.Fn) = refl
closure_kind_back (closure.Coroutine coroutine.AsyncGen source.Block) = refl
closure_kind_back (closure.Coroutine coroutine.AsyncGen source.Closure) = refl
closure_kind_back (closure.Coroutine coroutine.AsyncGen source.Fn) = refl
closure_kind_back (closure.CoroutineClosure coroutine.Async) = refl
closure_kind_back (closure.CoroutineClosure coroutine.Gen) = refl
closure_kind_back (closure.CoroutineClosure coroutine.AsyncGen) = refl

pub closure_kind_theorem : Faithful closure_kind 0
closure_kind_theorem = words closure_kind closure_kind_back (λ x. tt)
