-- What has no parts is a word.
use Prim.Native.String.{String}
use Rattle.std.specs.Prelude.{[], ◌∷◌, false, true}
use Rattle.hir_binding.specs.declared.binding.BindingAnnotation.{BindingAnnotation}
use Rattle.hir_binding.specs.declared.binding.BindingAnnotation.TheVariants as mode_is
use Rattle.hir_binding.specs.declared.binding.BindingProblems.{BindingProblems}
use Rattle.hir_binding.specs.declared.binding.BindingProblems.TheVariants as problem_is
use Rattle.hir_base.specs.declared.op.LiteralKind.{LiteralKind}
use Rattle.hir_base.specs.declared.op.LiteralKind.TheVariants as literal_is
use Rattle.hir_base.specs.declared.op.UnaryOp.{UnaryOp}
use Rattle.hir_base.specs.declared.op.UnaryOp.TheVariants as unary_is
use Rattle.hir_base.specs.declared.op.RangeOp.{RangeOp}
use Rattle.hir_base.specs.declared.op.RangeOp.TheVariants as range_is
use Rattle.hir_store.specs.declared.hir.Mutability.{Mutability}
use Rattle.hir_store.specs.declared.hir.Mutability.TheVariants as mutability_is
use Rattle.hir_store.specs.declared.hir.Rawness.{Rawness}
use Rattle.hir_store.specs.declared.hir.Rawness.TheVariants as rawness_is
use Rattle.hir_store.specs.declared.hir.LoopSource.{LoopSource}
use Rattle.hir_store.specs.declared.hir.LoopSource.TheVariants as loop_is
use Rattle.hir_store.specs.declared.hir.CaptureBy.{CaptureBy}
use Rattle.hir_store.specs.declared.hir.CaptureBy.TheVariants as capture_is
use Rattle.hir_store.specs.declared.type_ref.TraitBoundModifier.{TraitBoundModifier}
use Rattle.hir_store.specs.declared.type_ref.TraitBoundModifier.TheVariants as modifier_is
use Rattle.hir_store.specs.declared.type_ref.ExternAbi.{ExternAbi}
use Rattle.hir_store.specs.declared.type_ref.ExternAbi.TheVariants as abi_is
use Rattle.hir_store.specs.declared.path.GenericArgsParentheses.{GenericArgsParentheses}
use Rattle.hir_store.specs.declared.path.GenericArgsParentheses.TheVariants as parens_is
use Rattle.hir_store.specs.declared.generics.TypeParamProvenance.{TypeParamProvenance}
use Rattle.hir_store.specs.declared.generics.TypeParamProvenance.TheVariants as provenance_is
use Rattle.hir_store.specs.declared.generics.LifetimeBoundType.{LifetimeBoundType}
use Rattle.hir_store.specs.declared.generics.LifetimeBoundType.TheVariants as bound_type_is
use Rattle.hir_store.specs.declared.diagnostics.AwaitLocation.{AwaitLocation}
use Rattle.hir_store.specs.declared.diagnostics.AwaitLocation.TheVariants as location_is
use Rattle.hir_store.specs.declared.diagnostics.MissingBodyItemKind.{MissingBodyItemKind}
use Rattle.hir_store.specs.declared.diagnostics.MissingBodyItemKind.TheVariants as missing_is
use Rattle.hir_base.specs.declared.op.BinaryOp.{BinaryOp}
use Rattle.hir_base.specs.declared.op.BinaryOp.TheVariants as binary
use Rattle.hir_store.specs.declared.hir.ClosureKind.{ClosureKind}
use Rattle.hir_store.specs.declared.hir.ClosureKind.TheVariants as closure
use Rattle.hir_base.specs.declared.op.LogicOp.TheVariants as logic
use Rattle.hir_base.specs.declared.op.ArithOp.TheVariants as arith_op
use Rattle.hir_base.specs.declared.op.CmpOp.TheVariants as cmp
use Rattle.hir_base.specs.declared.op.Ordering.TheVariants as order
use Rattle.hir_store.specs.declared.hir.Movability.TheVariants as movability
use Rattle.hir_store.specs.declared.hir.CoroutineKind.TheVariants as coroutine
use Rattle.hir_store.specs.declared.hir.CoroutineSource.TheVariants as source
use Rattle.thm_result_json.specs.Codec.{Codec, word_codec}

abbrev pub mode_word : BindingAnnotation → String
mode_word mode_is.Unannotated = "plain"
mode_word mode_is.Mutable = "mut"
mode_word mode_is.Ref = "ref"
mode_word mode_is.RefMut = "refmut"

abbrev pub mode : Codec BindingAnnotation
mode = word_codec mode_word (mode_is.Unannotated ∷ mode_is.Mutable ∷ mode_is.Ref ∷ mode_is.RefMut ∷ [])

abbrev pub problem_word : BindingProblems → String
problem_word problem_is.BoundMoreThanOnce = "more"
problem_word problem_is.BoundInconsistently = "inconsistent"
problem_word problem_is.NotBoundAcrossAll = "notall"

abbrev pub problem : Codec BindingProblems
problem = word_codec problem_word (problem_is.BoundMoreThanOnce ∷ problem_is.BoundInconsistently ∷ problem_is.NotBoundAcrossAll ∷ [])

abbrev pub literal_kind_word : LiteralKind → String
literal_kind_word literal_is.Str = "Str"
literal_kind_word literal_is.ByteStr = "ByteStr"
literal_kind_word literal_is.CStr = "CStr"
literal_kind_word literal_is.Char = "Char"
literal_kind_word literal_is.Bool = "Bool"
literal_kind_word literal_is.Int = "Int"
literal_kind_word literal_is.Float = "Float"

abbrev pub literal_kind : Codec LiteralKind
literal_kind =
    word_codec literal_kind_word
    (literal_is.Str ∷ literal_is.ByteStr ∷ literal_is.CStr ∷ literal_is.Char ∷ literal_is.Bool ∷ literal_is.Int ∷
    literal_is.Float ∷ [])

abbrev pub unary_op_word : UnaryOp → String
unary_op_word unary_is.Deref = "*"
unary_op_word unary_is.Not = "!"
unary_op_word unary_is.Neg = "-"

abbrev pub unary_op : Codec UnaryOp
unary_op = word_codec unary_op_word (unary_is.Deref ∷ unary_is.Not ∷ unary_is.Neg ∷ [])

abbrev pub range_op_word : RangeOp → String
range_op_word range_is.Exclusive = ".."
range_op_word range_is.Inclusive = "..="

abbrev pub range_op : Codec RangeOp
range_op = word_codec range_op_word (range_is.Exclusive ∷ range_is.Inclusive ∷ [])

abbrev pub mutability_word : Mutability → String
mutability_word mutability_is.Shared = "shared"
mutability_word mutability_is.Mut = "mut"

abbrev pub mutability : Codec Mutability
mutability = word_codec mutability_word (mutability_is.Shared ∷ mutability_is.Mut ∷ [])

abbrev pub rawness_word : Rawness → String
rawness_word rawness_is.RawPtr = "raw"
rawness_word rawness_is.Ref = "ref"

abbrev pub rawness : Codec Rawness
rawness = word_codec rawness_word (rawness_is.RawPtr ∷ rawness_is.Ref ∷ [])

abbrev pub loop_source_word : LoopSource → String
loop_source_word loop_is.Loop = "loop"
loop_source_word loop_is.While = "while"
loop_source_word loop_is.ForLoop = "for"

abbrev pub loop_source : Codec LoopSource
loop_source = word_codec loop_source_word (loop_is.Loop ∷ loop_is.While ∷ loop_is.ForLoop ∷ [])

abbrev pub capture_word : CaptureBy → String
capture_word capture_is.Value = "move"
capture_word capture_is.Ref = "ref"

abbrev pub capture : Codec CaptureBy
capture = word_codec capture_word (capture_is.Value ∷ capture_is.Ref ∷ [])

abbrev pub modifier_word : TraitBoundModifier → String
modifier_word modifier_is.None = "None"
modifier_word modifier_is.Maybe = "Maybe"

abbrev pub modifier : Codec TraitBoundModifier
modifier = word_codec modifier_word (modifier_is.None ∷ modifier_is.Maybe ∷ [])

abbrev pub abi_word : ExternAbi → String
abi_word abi_is.Rust = "Rust"
abi_word abi_is.C = "C"
abi_word abi_is.CUnwind = "C-unwind"
abi_word abi_is.System = "system"
abi_word abi_is.SystemUnwind = "system-unwind"
abi_word abi_is.Cdecl = "cdecl"
abi_word abi_is.Stdcall = "stdcall"
abi_word abi_is.Fastcall = "fastcall"
abi_word abi_is.Vectorcall = "vectorcall"
abi_word abi_is.Thiscall = "thiscall"
abi_word abi_is.Aapcs = "aapcs"
abi_word abi_is.Win64 = "win64"
abi_word abi_is.Sysv64 = "sysv64"
abi_word abi_is.Efiapi = "efiapi"
abi_word abi_is.RustCall = "rust-call"

abbrev pub abi : Codec ExternAbi
abi =
    word_codec abi_word (abi_is.Rust ∷ abi_is.C ∷ abi_is.CUnwind ∷ abi_is.System ∷ abi_is.SystemUnwind ∷ abi_is.Cdecl ∷ abi_is.Stdcall ∷
    abi_is.Fastcall ∷ abi_is.Vectorcall ∷ abi_is.Thiscall ∷ abi_is.Aapcs ∷ abi_is.Win64 ∷ abi_is.Sysv64 ∷ abi_is.Efiapi ∷ abi_is.RustCall
    ∷ [])

abbrev pub parentheses_word : GenericArgsParentheses → String
parentheses_word parens_is.No = "No"
parentheses_word parens_is.ReturnTypeNotation = "ReturnTypeNotation"
parentheses_word parens_is.ParenSugar = "ParenSugar"

abbrev pub parentheses : Codec GenericArgsParentheses
parentheses = word_codec parentheses_word (parens_is.No ∷ parens_is.ReturnTypeNotation ∷ parens_is.ParenSugar ∷ [])

abbrev pub provenance_word : TypeParamProvenance → String
provenance_word provenance_is.TypeParamList = "TypeParamList"
provenance_word provenance_is.TraitSelf = "TraitSelf"
provenance_word provenance_is.ArgumentImplTrait = "ArgumentImplTrait"

abbrev pub provenance : Codec TypeParamProvenance
provenance = word_codec provenance_word (provenance_is.TypeParamList ∷ provenance_is.TraitSelf ∷ provenance_is.ArgumentImplTrait ∷ [])

abbrev pub bound_type_word : LifetimeBoundType → String
bound_type_word bound_type_is.EarlyBound = "EarlyBound"
bound_type_word bound_type_is.LateBound = "LateBound"

abbrev pub bound_type : Codec LifetimeBoundType
bound_type = word_codec bound_type_word (bound_type_is.EarlyBound ∷ bound_type_is.LateBound ∷ [])

abbrev pub await_location_word : AwaitLocation → String
await_location_word location_is.NonAsyncFunction = "non-async function"
await_location_word location_is.Static = "static"
await_location_word location_is.Constant = "constant"
await_location_word location_is.EnumVariant = "enum variant"
await_location_word location_is.NonAsyncGenBlock = "non-async gen block"
await_location_word location_is.ConstantBlock = "constant block"
await_location_word location_is.NonAsyncClosure = "non-async closure"
await_location_word location_is.Unknown = "unknown"

abbrev pub await_location : Codec AwaitLocation
await_location =
    word_codec await_location_word (location_is.NonAsyncFunction ∷ location_is.Static ∷ location_is.Constant ∷ location_is.EnumVariant ∷
    location_is.NonAsyncGenBlock ∷ location_is.ConstantBlock ∷ location_is.NonAsyncClosure ∷ location_is.Unknown ∷ [])

abbrev pub missing_body_word : MissingBodyItemKind → String
missing_body_word missing_is.Static = "Static"
missing_body_word missing_is.Const = "Const"
missing_body_word missing_is.AssocConst = "AssocConst"
missing_body_word missing_is.TypeAlias = "TypeAlias"
missing_body_word missing_is.AssocType = "AssocType"

abbrev pub missing_body : Codec MissingBodyItemKind
missing_body =
    word_codec missing_body_word
    (missing_is.Static ∷ missing_is.Const ∷ missing_is.AssocConst ∷ missing_is.TypeAlias ∷ missing_is.AssocType ∷
    [])

abbrev pub binary_op_word : BinaryOp → String
binary_op_word (binary.LogicOp logic.And) = "&&"
binary_op_word (binary.LogicOp logic.Or) = "||"
binary_op_word (binary.ArithOp arith_op.Add) = "+"
binary_op_word (binary.ArithOp arith_op.Mul) = "*"
binary_op_word (binary.ArithOp arith_op.Sub) = "-"
binary_op_word (binary.ArithOp arith_op.Div) = "/"
binary_op_word (binary.ArithOp arith_op.Rem) = "%"
binary_op_word (binary.ArithOp arith_op.Shl) = "<<"
binary_op_word (binary.ArithOp arith_op.Shr) = ">>"
binary_op_word (binary.ArithOp arith_op.BitXor) = "^"
binary_op_word (binary.ArithOp arith_op.BitOr) = "|"
binary_op_word (binary.ArithOp arith_op.BitAnd) = "&"
binary_op_word (binary.CmpOp (cmp.Eq false)) = "=="
binary_op_word (binary.CmpOp (cmp.Eq true)) = "!="
binary_op_word (binary.CmpOp (cmp.Ord order.Less false)) = "<="
binary_op_word (binary.CmpOp (cmp.Ord order.Less true)) = "<"
binary_op_word (binary.CmpOp (cmp.Ord order.Greater false)) = ">="
binary_op_word (binary.CmpOp (cmp.Ord order.Greater true)) = ">"
binary_op_word (binary.Assignment arith_op.Add) = "+="
binary_op_word (binary.Assignment arith_op.Mul) = "*="
binary_op_word (binary.Assignment arith_op.Sub) = "-="
binary_op_word (binary.Assignment arith_op.Div) = "/="
binary_op_word (binary.Assignment arith_op.Rem) = "%="
binary_op_word (binary.Assignment arith_op.Shl) = "<<="
binary_op_word (binary.Assignment arith_op.Shr) = ">>="
binary_op_word (binary.Assignment arith_op.BitXor) = "^="
binary_op_word (binary.Assignment arith_op.BitOr) = "|="
binary_op_word (binary.Assignment arith_op.BitAnd) = "&="
binary_op_word binary.Assign = "="

abbrev pub binary_op : Codec BinaryOp
binary_op =
    word_codec binary_op_word
    (binary.LogicOp logic.And ∷ binary.LogicOp logic.Or ∷ binary.ArithOp arith_op.Add ∷ binary.ArithOp arith_op.Mul
    ∷ binary.ArithOp arith_op.Sub ∷ binary.ArithOp arith_op.Div ∷ binary.ArithOp arith_op.Rem ∷ binary.ArithOp arith_op.Shl ∷
    binary.ArithOp arith_op.Shr ∷ binary.ArithOp arith_op.BitXor ∷ binary.ArithOp arith_op.BitOr ∷ binary.ArithOp arith_op.BitAnd ∷
    binary.CmpOp (cmp.Eq false) ∷ binary.CmpOp (cmp.Eq true) ∷ binary.CmpOp (cmp.Ord order.Less false) ∷ binary.CmpOp (cmp.Ord order.Less
    true) ∷ binary.CmpOp (cmp.Ord order.Greater false) ∷ binary.CmpOp (cmp.Ord order.Greater true) ∷ binary.Assignment arith_op.Add ∷
    binary.Assignment arith_op.Mul ∷ binary.Assignment arith_op.Sub ∷ binary.Assignment arith_op.Div ∷ binary.Assignment arith_op.Rem ∷
    binary.Assignment arith_op.Shl ∷ binary.Assignment arith_op.Shr ∷ binary.Assignment arith_op.BitXor ∷ binary.Assignment arith_op.BitOr
    ∷ binary.Assignment arith_op.BitAnd ∷ binary.Assign ∷ [])

abbrev pub closure_kind_word : ClosureKind → String
closure_kind_word closure.Closure = "closure"
closure_kind_word (closure.OldCoroutine movability.Movable) = "old:movable"
closure_kind_word (closure.OldCoroutine movability.Static) = "old:static"
closure_kind_word (closure.Coroutine coroutine.Async source.Block) = "co:async:block"
closure_kind_word (closure.Coroutine coroutine.Async source.Closure) = "co:async:closure"
closure_kind_word (closure.Coroutine coroutine.Async source.Fn) = "co:async:fn"
closure_kind_word (closure.Coroutine coroutine.Gen source.Block) = "co:gen:block"
closure_kind_word (closure.Coroutine coroutine.Gen source.Closure) = "co:gen:closure"
closure_kind_word (closure.Coroutine coroutine.Gen source.Fn) = "co:gen:fn"
closure_kind_word (closure.Coroutine coroutine.AsyncGen source.Block) = "co:asyncgen:block"
closure_kind_word (closure.Coroutine coroutine.AsyncGen source.Closure) = "co:asyncgen:closure"
closure_kind_word (closure.Coroutine coroutine.AsyncGen source.Fn) = "co:asyncgen:fn"
closure_kind_word (closure.CoroutineClosure coroutine.Async) = "coclosure:async"
closure_kind_word (closure.CoroutineClosure coroutine.Gen) = "coclosure:gen"
closure_kind_word (closure.CoroutineClosure coroutine.AsyncGen) = "coclosure:asyncgen"

abbrev pub closure_kind : Codec ClosureKind
closure_kind =
    word_codec closure_kind_word (closure.Closure ∷ closure.OldCoroutine movability.Movable ∷ closure.OldCoroutine movability.Static ∷
    closure.Coroutine coroutine.Async source.Block ∷ closure.Coroutine coroutine.Async source.Closure ∷ closure.Coroutine coroutine.Async
    source.Fn ∷ closure.Coroutine coroutine.Gen source.Block ∷ closure.Coroutine coroutine.Gen source.Closure ∷ closure.Coroutine
    coroutine.Gen source.Fn ∷ closure.Coroutine coroutine.AsyncGen source.Block ∷ closure.Coroutine coroutine.AsyncGen source.Closure ∷
    closure.Coroutine coroutine.AsyncGen source.Fn ∷ closure.CoroutineClosure coroutine.Async ∷ closure.CoroutineClosure coroutine.Gen ∷
    closure.CoroutineClosure coroutine.AsyncGen ∷ [])
