-- Labels, statements and expressions.
use Rattle.std.specs.Prelude.{ℕ, Bool, List, [], ◌∷◌, Option}
use Rattle.hir_base.specs.declared.op.BinaryOp.{BinaryOp}
use Rattle.hir_base.specs.declared.op.LiteralKind.{LiteralKind}
use Rattle.hir_base.specs.declared.op.UnaryOp.{UnaryOp}
use Rattle.hir_store.specs.declared.hir.CaptureBy.{CaptureBy}
use Rattle.hir_store.specs.declared.hir.ClosureKind.{ClosureKind}
use Rattle.hir_store.specs.declared.hir.Expr.{Expr}
use Rattle.hir_store.specs.declared.hir.Label.{Label}
use Rattle.hir_store.specs.declared.hir.LoopSource.{LoopSource}
use Rattle.hir_store.specs.declared.hir.MatchArm.{MatchArm}
use Rattle.hir_store.specs.declared.hir.Mutability.{Mutability}
use Rattle.hir_store.specs.declared.hir.Rawness.{Rawness}
use Rattle.hir_store.specs.declared.hir.RecordLitField.{RecordLitField}
use Rattle.hir_store.specs.declared.hir.RecordSpread.{RecordSpread}
use Rattle.hir_store.specs.declared.hir.Statement.{Statement}
use Rattle.hir_store.specs.declared.ids.BlockId.{BlockId}
use Rattle.hir_store.specs.declared.ids.ExprId.{ExprId}
use Rattle.hir_store.specs.declared.ids.HygieneId.{HygieneId}
use Rattle.hir_store.specs.declared.ids.LabelId.{LabelId}
use Rattle.hir_store.specs.declared.ids.MacroDefId.{MacroDefId}
use Rattle.hir_store.specs.declared.ids.PatId.{PatId}
use Rattle.hir_store.specs.declared.ids.TypeRefId.{TypeRefId}
use Rattle.hir_store.specs.declared.name.Name.{Name}
use Rattle.hir_store.specs.declared.path.GenericArgs.{GenericArgs}
use Rattle.hir_store.specs.declared.path.Path.{Path}
use Rattle.hir_store.specs.declared.type_ref.ConstRef.{ConstRef}
use Rattle.hir_store.specs.declared.hir.Array.TheVariants as array
use Rattle.hir_store.specs.declared.hir.Expr.TheVariants as hir_is
use Rattle.hir_store.specs.declared.hir.RecordSpread.TheVariants as spread_is
use Rattle.hir_store.specs.declared.hir.Statement.TheVariants as statement_is
use Rattle.serde_json.specs.Data.{Members}
use Rattle.thm_result_json.specs.Codec.{Codec, Fields, Kind, only_kind, bool_codec, key, kind, kinds, last, listing, made, maybe, one}
use Rattle.thm_result_json.specs.Codec.{text_codec}
use Rattle.thm_result_json.specs.Numbers.{block, const_ref, expr_id, hygiene, label_id, macro_def, name, pat_id, type_id}
use Rattle.thm_result_json.specs.Paths.{generic_args, path}
use Rattle.thm_result_json.specs.Words.{binary_op, capture, closure_kind, literal_kind, loop_source, mutability, rawness, unary_op}

-- `{"name": "x"}`
abbrev pub label_fields : Fields Name
label_fields = last "name" name

abbrev pub label : Codec Label
label = made (λ x. x.name) (λ v. record { name = v }) label_fields

-- `{"else_branch": null, "initializer": null, "k": "Let", "pat": 0, "type_ref": null}`
abbrev pub statement_let : Fields ((Option ExprId) × ((Option ExprId) × (PatId × (Option TypeRefId))))
statement_let =
    key "else_branch" (maybe expr_id)
    (key "initializer" (maybe expr_id)
    (kind "Let"
    (key "pat" pat_id
    (last "type_ref" (maybe
    type_id)))))

-- `{"expr": 0, "has_semi": false, "k": "Expr"}`
abbrev pub statement_expr : Fields (ExprId × (Bool × Unit {0}))
statement_expr = key "expr" expr_id (key "has_semi" bool_codec (only_kind "Expr"))

-- `{"id": 0, "k": "MacroDef"}`
abbrev pub statement_macro_def : Fields (MacroDefId × Unit {0})
statement_macro_def = key "id" macro_def (only_kind "MacroDef")

abbrev pub of_statement : Statement → Members
of_statement (statement_is.Let p type_ref initializer else_branch) = (statement_let).to (else_branch, (initializer, (p, type_ref)))
of_statement (statement_is.Expr value has_semi) = (statement_expr).to (value, (has_semi, tt))
of_statement statement_is.Item = (only_kind "Item").to tt
of_statement (statement_is.MacroDef id) = (statement_macro_def).to (id, tt)

abbrev pub statement_kinds : List (Kind Statement)
statement_kinds =
    one "Let" (λ v. statement_is.Let v.1.1.0 v.1.1.1 v.1.0 v.0) statement_let ∷
    one "Expr" (λ v. statement_is.Expr v.0 v.1.0) statement_expr ∷
    one "Item" (λ v. statement_is.Item) (only_kind "Item") ∷
    one "MacroDef" (λ v. statement_is.MacroDef v.0) statement_macro_def ∷ []

abbrev pub statement : Codec Statement
statement = kinds of_statement statement_kinds

-- `{"expr": 0, "guard": null, "pat": 0}`
abbrev pub arm_fields : Fields (ExprId × ((Option ExprId) × PatId))
arm_fields = key "expr" expr_id (key "guard" (maybe expr_id) (last "pat" pat_id))

abbrev pub arm : Codec MatchArm
arm = made (λ x. (x.expr, (x.guard, x.pat))) (λ v. record { pat = v.1.1; guard = v.1.0; expr = v.0 }) arm_fields

-- `{"expr": 0, "name": "x"}`
abbrev pub field_fields : Fields (ExprId × Name)
field_fields = key "expr" expr_id (last "name" name)

abbrev pub field : Codec RecordLitField
field = made (λ x. (x.expr, x.name)) (λ v. record { name = v.1; expr = v.0 }) field_fields

-- `{"expr": 0, "k": "Expr"}`
abbrev pub spread_expr : Fields (ExprId × Unit {0})
spread_expr = key "expr" expr_id (only_kind "Expr")

abbrev pub of_spread : RecordSpread → Members
of_spread spread_is.None = (only_kind "None").to tt
of_spread spread_is.FieldDefaults = (only_kind "FieldDefaults").to tt
of_spread (spread_is.Expr value) = (spread_expr).to (value, tt)

abbrev pub spread_kinds : List (Kind RecordSpread)
spread_kinds =
    one "None" (λ v. spread_is.None) (only_kind "None") ∷
    one "FieldDefaults" (λ v. spread_is.FieldDefaults) (only_kind "FieldDefaults") ∷
    one "Expr" (λ v. spread_is.Expr v.0) spread_expr ∷ []

abbrev pub spread : Codec RecordSpread
spread = kinds of_spread spread_kinds

-- `{"hygiene": 0, "k": "Path", "path": ..}`
abbrev pub expr_path : Fields (HygieneId × Path)
expr_path = key "hygiene" hygiene (kind "Path" (last "path" path))

-- `{"condition": 0, "else_branch": null, "k": "If", "then_branch": 0}`
abbrev pub expr_if : Fields (ExprId × ((Option ExprId) × ExprId))
expr_if = key "condition" expr_id (key "else_branch" (maybe expr_id) (kind "If" (last "then_branch" expr_id)))

-- `{"expr": 0, "k": "Let", "pat": 0}`
abbrev pub expr_let : Fields (ExprId × PatId)
expr_let = key "expr" expr_id (kind "Let" (last "pat" pat_id))

-- `{"id": null, "is_unsafe": false, "k": "Block", "label": null, "statements": [..], "tail": null}`
abbrev pub expr_block : Fields ((Option BlockId) × (Bool × ((Option LabelId) × ((List Statement) × (Option ExprId)))))
expr_block =
    key "id" (maybe block)
    (key "is_unsafe" bool_codec
    (kind "Block"
    (key "label" (maybe label_id)
    (key "statements" (listing statement)
    (last "tail" (maybe expr_id))))))

-- `{"expr": 0, "k": "Const"}`
abbrev pub expr_const : Fields (ConstRef × Unit {0})
expr_const = key "expr" const_ref (only_kind "Const")

-- `{"body": 0, "k": "Loop", "label": null, "source": "loop"}`
abbrev pub expr_loop : Fields (ExprId × ((Option LabelId) × LoopSource))
expr_loop = key "body" expr_id (kind "Loop" (key "label" (maybe label_id) (last "source" loop_source)))

-- `{"args": [0], "callee": 0, "k": "Call"}`
abbrev pub expr_call : Fields ((List ExprId) × (ExprId × Unit {0}))
expr_call = key "args" (listing expr_id) (key "callee" expr_id (only_kind "Call"))

-- `{"arms": [..], "expr": 0, "k": "Match"}`
abbrev pub expr_match : Fields ((List MatchArm) × (ExprId × Unit {0}))
expr_match = key "arms" (listing arm) (key "expr" expr_id (only_kind "Match"))

-- `{"k": "Continue", "label": null}`
abbrev pub expr_continue : Fields (Option LabelId)
expr_continue = kind "Continue" (last "label" (maybe label_id))

-- `{"expr": null, "k": "Break", "label": null}`
abbrev pub expr_break : Fields ((Option ExprId) × (Option LabelId))
expr_break = key "expr" (maybe expr_id) (kind "Break" (last "label" (maybe label_id)))

-- `{"k": "Literal", "kind": "Str", "negative": false, "suffix": null, "text": "7"}`
abbrev pub expr_literal : Fields (LiteralKind × (Bool × ((Option (List ℕ)) × (List ℕ))))
expr_literal =
    kind "Literal" (key "kind" literal_kind (key "negative" bool_codec (key "suffix" (maybe text_codec) (last "text" text_codec))))

-- `{"args": [0], "generic_args": null, "k": "MethodCall", "method_name": "x", "receiver": 0}`
abbrev pub expr_method_call : Fields ((List ExprId) × ((Option GenericArgs) × (Name × ExprId)))
expr_method_call =
    key "args" (listing expr_id)
    (key "generic_args" (maybe generic_args)
    (kind "MethodCall"
    (key "method_name" name
    (last "receiver"
    expr_id))))

-- `{"fields": [..], "k": "RecordLit", "path": .., "spread": ..}`
abbrev pub expr_record_lit : Fields ((List RecordLitField) × (Path × RecordSpread))
expr_record_lit = key "fields" (listing field) (kind "RecordLit" (key "path" path (last "spread" spread)))

-- `{"expr": 0, "k": "Field", "name": "x"}`
abbrev pub expr_field : Fields (ExprId × Name)
expr_field = key "expr" expr_id (kind "Field" (last "name" name))

-- `{"expr": 0, "k": "UnaryOp", "op": "*"}`
abbrev pub expr_unary_op : Fields (ExprId × UnaryOp)
expr_unary_op = key "expr" expr_id (kind "UnaryOp" (last "op" unary_op))

-- `{"k": "BinaryOp", "lhs": 0, "op": null, "rhs": 0}`
abbrev pub expr_binary_op : Fields (ExprId × ((Option BinaryOp) × ExprId))
expr_binary_op = kind "BinaryOp" (key "lhs" expr_id (key "op" (maybe binary_op) (last "rhs" expr_id)))

-- `{"k": "Assignment", "target": 0, "value": 0}`
abbrev pub expr_assignment : Fields (PatId × ExprId)
expr_assignment = kind "Assignment" (key "target" pat_id (last "value" expr_id))

-- `{"base": 0, "index": 0, "k": "Index"}`
abbrev pub expr_index : Fields (ExprId × (ExprId × Unit {0}))
expr_index = key "base" expr_id (key "index" expr_id (only_kind "Index"))

-- `{"expr": 0, "k": "Ref", "mutability": "shared", "rawness": "raw"}`
abbrev pub expr_ref : Fields (ExprId × (Mutability × Rawness))
expr_ref = key "expr" expr_id (kind "Ref" (key "mutability" mutability (last "rawness" rawness)))

-- `{"arg_types": [null], "args": [0], "body": 0, "capture_by": "move", "closure_kind": "closure", "k": "Closure", "ret_type": null}`
abbrev pub expr_closure :
    Fields ((List (Option TypeRefId)) × ((List PatId) × (ExprId × (CaptureBy × (ClosureKind × (Option TypeRefId))))))
expr_closure =
    key "arg_types" (listing (maybe type_id))
    (key "args" (listing pat_id)
    (key "body" expr_id
    (key "capture_by" capture
    (key "closure_kind" closure_kind
    (kind "Closure"
    (last "ret_type" (maybe type_id)))))))

-- `{"exprs": [0], "k": "Tuple"}`
abbrev pub expr_tuple : Fields ((List ExprId) × Unit {0})
expr_tuple = key "exprs" (listing expr_id) (only_kind "Tuple")

-- `{"elements": [0], "k": "Array"}`
abbrev pub expr_array : Fields ((List ExprId) × Unit {0})
expr_array = key "elements" (listing expr_id) (only_kind "Array")

-- `{"initializer": 0, "k": "Repeat", "repeat": 0}`
abbrev pub expr_repeat : Fields (ExprId × ConstRef)
expr_repeat = key "initializer" expr_id (kind "Repeat" (last "repeat" const_ref))

-- `{"expr": null, "k": "Return"}`
abbrev pub expr_return : Fields ((Option ExprId) × Unit {0})
expr_return = key "expr" (maybe expr_id) (only_kind "Return")

-- `{"expr": 0, "k": "Become"}`
abbrev pub expr_become : Fields (ExprId × Unit {0})
expr_become = key "expr" expr_id (only_kind "Become")

-- `{"expr": null, "k": "Yield"}`
abbrev pub expr_yield : Fields ((Option ExprId) × Unit {0})
expr_yield = key "expr" (maybe expr_id) (only_kind "Yield")

-- `{"expr": null, "k": "Yeet"}`
abbrev pub expr_yeet : Fields ((Option ExprId) × Unit {0})
expr_yeet = key "expr" (maybe expr_id) (only_kind "Yeet")

-- `{"expr": 0, "k": "Await"}`
abbrev pub expr_await : Fields (ExprId × Unit {0})
expr_await = key "expr" expr_id (only_kind "Await")

-- `{"expr": 0, "k": "Cast", "type_ref": 0}`
abbrev pub expr_cast : Fields (ExprId × TypeRefId)
expr_cast = key "expr" expr_id (kind "Cast" (last "type_ref" type_id))

-- `{"container": 0, "fields": ["x"], "k": "OffsetOf"}`
abbrev pub expr_offset_of : Fields (TypeRefId × ((List Name) × Unit {0}))
expr_offset_of = key "container" type_id (key "fields" (listing name) (only_kind "OffsetOf"))

abbrev pub of_expr : Expr → Members
of_expr hir_is.Missing = (only_kind "Missing").to tt
of_expr (hir_is.Path p context) = (expr_path).to (context, p)
of_expr (hir_is.If condition then_branch else_branch) = (expr_if).to (condition, (else_branch, then_branch))
of_expr (hir_is.Let p value) = (expr_let).to (value, p)
of_expr (hir_is.Block is_unsafe target id statements tail) = (expr_block).to (id, (is_unsafe, (target, (statements, tail))))
of_expr (hir_is.Const value) = (expr_const).to (value, tt)
of_expr (hir_is.Loop body target source) = (expr_loop).to (body, (target, source))
of_expr (hir_is.Call callee args) = (expr_call).to (args, (callee, tt))
of_expr (hir_is.Match value arms) = (expr_match).to (arms, (value, tt))
of_expr (hir_is.Continue target) = (expr_continue).to target
of_expr (hir_is.Break target value) = (expr_break).to (value, target)
of_expr (hir_is.Literal l) = (expr_literal).to (l.kind, (l.negative, (l.suffix, l.text)))
of_expr (hir_is.MethodCall receiver method generics args) = (expr_method_call).to (args, (generics, (method, receiver)))
of_expr (hir_is.RecordLit p fields rest) = (expr_record_lit).to (fields, (p, rest))
of_expr (hir_is.Field value called) = (expr_field).to (value, called)
of_expr (hir_is.UnaryOp op value) = (expr_unary_op).to (value, op)
of_expr (hir_is.BinaryOp op lhs rhs) = (expr_binary_op).to (lhs, (op, rhs))
of_expr (hir_is.Assignment target value) = (expr_assignment).to (target, value)
of_expr (hir_is.Index base index) = (expr_index).to (base, (index, tt))
of_expr (hir_is.Ref raw mark value) = (expr_ref).to (value, (mark, raw))
of_expr (hir_is.Closure args arg_types ret_type body is by_what) =
    (expr_closure).to (arg_types, (args, (body, (by_what, (is, ret_type)))))
of_expr (hir_is.Tuple exprs) = (expr_tuple).to (exprs, tt)
of_expr (hir_is.Array (array.ElementList elements)) = (expr_array).to (elements, tt)
of_expr (hir_is.Array (array.Repeat initializer repeat)) = (expr_repeat).to (initializer, repeat)
of_expr (hir_is.Return value) = (expr_return).to (value, tt)
of_expr (hir_is.Become value) = (expr_become).to (value, tt)
of_expr (hir_is.Yield value) = (expr_yield).to (value, tt)
of_expr (hir_is.Yeet value) = (expr_yeet).to (value, tt)
of_expr (hir_is.Await value) = (expr_await).to (value, tt)
of_expr (hir_is.Cast value type_ref) = (expr_cast).to (value, type_ref)
of_expr (hir_is.OffsetOf container fields) = (expr_offset_of).to (container, (fields, tt))
of_expr hir_is.Underscore = (only_kind "Underscore").to tt
of_expr hir_is.IncludeBytes = (only_kind "IncludeBytes").to tt

abbrev pub expr_kinds : List (Kind Expr)
expr_kinds =
    one "Missing" (λ v. hir_is.Missing) (only_kind "Missing") ∷
    one "Path" (λ v. hir_is.Path v.1 v.0) expr_path ∷
    one "If" (λ v. hir_is.If v.0 v.1.1 v.1.0) expr_if ∷
    one "Let" (λ v. hir_is.Let v.1 v.0) expr_let ∷
    one "Block" (λ v. hir_is.Block v.1.0 v.1.1.0 v.0 v.1.1.1.0 v.1.1.1.1) expr_block ∷
    one "Const" (λ v. hir_is.Const v.0) expr_const ∷
    one "Loop" (λ v. hir_is.Loop v.0 v.1.0 v.1.1) expr_loop ∷
    one "Call" (λ v. hir_is.Call v.1.0 v.0) expr_call ∷
    one "Match" (λ v. hir_is.Match v.1.0 v.0) expr_match ∷
    one "Continue" (λ v. hir_is.Continue v) expr_continue ∷
    one "Break" (λ v. hir_is.Break v.1 v.0) expr_break ∷
    one "Literal" (λ v. hir_is.Literal (record { negative = v.1.0; kind = v.0; text = v.1.1.1; suffix = v.1.1.0 })) expr_literal ∷
    one "MethodCall" (λ v. hir_is.MethodCall v.1.1.1 v.1.1.0 v.1.0 v.0) expr_method_call ∷
    one "RecordLit" (λ v. hir_is.RecordLit v.1.0 v.0 v.1.1) expr_record_lit ∷
    one "Field" (λ v. hir_is.Field v.0 v.1) expr_field ∷
    one "UnaryOp" (λ v. hir_is.UnaryOp v.1 v.0) expr_unary_op ∷
    one "BinaryOp" (λ v. hir_is.BinaryOp v.1.0 v.0 v.1.1) expr_binary_op ∷
    one "Assignment" (λ v. hir_is.Assignment v.0 v.1) expr_assignment ∷
    one "Index" (λ v. hir_is.Index v.0 v.1.0) expr_index ∷
    one "Ref" (λ v. hir_is.Ref v.1.1 v.1.0 v.0) expr_ref ∷
    one "Closure" (λ v. hir_is.Closure v.1.0 v.0 v.1.1.1.1.1 v.1.1.0 v.1.1.1.1.0 v.1.1.1.0) expr_closure ∷
    one "Tuple" (λ v. hir_is.Tuple v.0) expr_tuple ∷
    one "Array" (λ v. hir_is.Array (array.ElementList v.0)) expr_array ∷
    one "Repeat" (λ v. hir_is.Array (array.Repeat v.0 v.1)) expr_repeat ∷
    one "Return" (λ v. hir_is.Return v.0) expr_return ∷
    one "Become" (λ v. hir_is.Become v.0) expr_become ∷
    one "Yield" (λ v. hir_is.Yield v.0) expr_yield ∷
    one "Yeet" (λ v. hir_is.Yeet v.0) expr_yeet ∷
    one "Await" (λ v. hir_is.Await v.0) expr_await ∷
    one "Cast" (λ v. hir_is.Cast v.0 v.1) expr_cast ∷
    one "OffsetOf" (λ v. hir_is.OffsetOf v.0 v.1.0) expr_offset_of ∷
    one "Underscore" (λ v. hir_is.Underscore) (only_kind "Underscore") ∷
    one "IncludeBytes" (λ v. hir_is.IncludeBytes) (only_kind "IncludeBytes") ∷ []

abbrev pub expr : Codec Expr
expr = kinds of_expr expr_kinds
