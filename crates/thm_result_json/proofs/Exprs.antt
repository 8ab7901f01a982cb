-- Labels, statements and expressions read back.
use Rattle.std.proofs.Common.{arith, refl}
use Rattle.hir_store.specs.declared.hir.Expr.{Expr}
use Rattle.hir_store.specs.declared.hir.RecordSpread.{RecordSpread}
use Rattle.hir_store.specs.declared.hir.Statement.{Statement}
use Rattle.hir_store.specs.declared.hir.Array.TheVariants as array
use Rattle.hir_store.specs.declared.hir.Expr.TheVariants as hir_is
use Rattle.hir_store.specs.declared.hir.RecordSpread.TheVariants as spread_is
use Rattle.hir_store.specs.declared.hir.Statement.TheVariants as statement_is
use Rattle.thm_result_json.specs.Codec.{Faithful}
use Rattle.thm_result_json.specs.Exprs.{arm, arm_fields, expr, expr_array, expr_assignment, expr_await, expr_become, expr_binary_op}
use Rattle.thm_result_json.specs.Exprs.{expr_block, expr_break, expr_call, expr_cast, expr_closure, expr_const, expr_continue, expr_field}
use Rattle.thm_result_json.specs.Exprs.{expr_if, expr_index, expr_kinds, expr_let, expr_literal, expr_loop, expr_match, expr_method_call}
use Rattle.thm_result_json.specs.Exprs.{expr_offset_of, expr_path, expr_record_lit, expr_ref, expr_repeat, expr_return, expr_tuple}
use Rattle.thm_result_json.specs.Exprs.{expr_unary_op, expr_yeet, expr_yield, field, field_fields, label, label_fields, of_expr, of_spread}
use Rattle.thm_result_json.specs.Exprs.{of_statement, spread, spread_expr, spread_kinds, statement, statement_expr, statement_kinds}
use Rattle.thm_result_json.specs.Exprs.{statement_let, statement_macro_def}
use Rattle.thm_result_json.proofs.Codecs.{Kept, Emitted, alone_keeps, flags, keys, kind_keeps, lasts, listing_faithful, lists, makes}
use Rattle.thm_result_json.proofs.Codecs.{maybes, reads, sums}
use Rattle.thm_result_json.proofs.Codecs.{texts}
use Rattle.thm_result_json.proofs.Codecs.{fields_back}
use Rattle.thm_result_json.proofs.Numbers.{block_theorem, const_ref_theorem, expr_id_theorem, hygiene_theorem, label_id_theorem}
use Rattle.thm_result_json.proofs.Numbers.{macro_def_theorem, name_theorem}
use Rattle.thm_result_json.proofs.Numbers.{pat_id_theorem, type_id_theorem}
use Rattle.thm_result_json.proofs.Paths.{generic_args_theorem, path_theorem}
use Rattle.thm_result_json.proofs.Words.{binary_op_theorem, capture_theorem, closure_kind_theorem, literal_kind_theorem}
use Rattle.thm_result_json.proofs.Words.{loop_source_theorem, mutability_theorem}
use Rattle.thm_result_json.proofs.Words.{rawness_theorem, unary_op_theorem}

label_kept : Kept label_fields 0
label_kept = lasts "name" (reads name_theorem)

pub label_theorem : Faithful label 1
label_theorem = makes (λ x. x.name) (λ v. record { name = v }) label_kept (λ x. refl)

statement_let_kept : Kept statement_let 0
statement_let_kept =
    keys "else_branch" (maybes expr_id_theorem)
    (keys "initializer" (maybes expr_id_theorem)
    (kind_keeps "Let"
    (keys "pat" (reads pat_id_theorem)
    (lasts "type_ref" (maybes type_id_theorem)) (λ d x. refl)) (λ d x. refl)) (λ d x. refl)) (λ d x. refl)

statement_expr_kept : Kept statement_expr 0
statement_expr_kept = keys "expr" (reads expr_id_theorem) (keys "has_semi" (reads flags) (alone_keeps "Expr") (λ d x. refl)) (λ d x. refl)

statement_macro_def_kept : Kept statement_macro_def 0
statement_macro_def_kept = keys "id" (reads macro_def_theorem) (alone_keeps "MacroDef") (λ d x. refl)

statement_emitted : (x : Statement) → Emitted statement_kinds (of_statement x) x 0
statement_emitted (statement_is.Let p type_ref initializer else_branch) =
    fields_back 0 (λ v. statement_is.Let v.1.1.0 v.1.1.1 v.1.0 v.0) statement_let_kept (omega arith)
    (else_branch, (initializer, (p, type_ref)))
statement_emitted (statement_is.Expr value has_semi) =
    fields_back 0 (λ v. statement_is.Expr v.0 v.1.0) statement_expr_kept (omega arith) (value, (has_semi, tt))
statement_emitted statement_is.Item = fields_back 0 (λ v. statement_is.Item) (alone_keeps "Item") (omega arith) tt
statement_emitted (statement_is.MacroDef id) =
    fields_back 0 (λ v. statement_is.MacroDef v.0) statement_macro_def_kept (omega arith) (id, tt)

pub statement_theorem : Faithful statement 1
statement_theorem = sums of_statement statement_kinds 0 statement_emitted

arm_kept : Kept arm_fields 0
arm_kept =
    keys "expr" (reads expr_id_theorem)
    (keys "guard" (maybes expr_id_theorem)
    (lasts "pat" (reads pat_id_theorem)) (λ d x. refl)) (λ d x. refl)

pub arm_theorem : Faithful arm 1
arm_theorem = makes (λ x. (x.expr, (x.guard, x.pat))) (λ v. record { pat = v.1.1; guard = v.1.0; expr = v.0 }) arm_kept (λ x. refl)

field_kept : Kept field_fields 0
field_kept = keys "expr" (reads expr_id_theorem) (lasts "name" (reads name_theorem)) (λ d x. refl)

pub field_theorem : Faithful field 1
field_theorem = makes (λ x. (x.expr, x.name)) (λ v. record { name = v.1; expr = v.0 }) field_kept (λ x. refl)

spread_expr_kept : Kept spread_expr 0
spread_expr_kept = keys "expr" (reads expr_id_theorem) (alone_keeps "Expr") (λ d x. refl)

spread_emitted : (x : RecordSpread) → Emitted spread_kinds (of_spread x) x 0
spread_emitted spread_is.None = fields_back 0 (λ v. spread_is.None) (alone_keeps "None") (omega arith) tt
spread_emitted spread_is.FieldDefaults = fields_back 0 (λ v. spread_is.FieldDefaults) (alone_keeps "FieldDefaults") (omega arith) tt
spread_emitted (spread_is.Expr value) = fields_back 0 (λ v. spread_is.Expr v.0) spread_expr_kept (omega arith) (value, tt)

pub spread_theorem : Faithful spread 1
spread_theorem = sums of_spread spread_kinds 0 spread_emitted

expr_path_kept : Kept expr_path 10
expr_path_kept = keys "hygiene" (reads hygiene_theorem) (kind_keeps "Path" (lasts "path" (reads path_theorem)) (λ d x. refl)) (λ d x. refl)

expr_if_kept : Kept expr_if 0
expr_if_kept =
    keys "condition" (reads expr_id_theorem)
    (keys "else_branch" (maybes expr_id_theorem)
    (kind_keeps "If"
    (lasts "then_branch" (reads expr_id_theorem)) (λ d x. refl)) (λ d x. refl)) (λ d x. refl)

expr_let_kept : Kept expr_let 0
expr_let_kept = keys "expr" (reads expr_id_theorem) (kind_keeps "Let" (lasts "pat" (reads pat_id_theorem)) (λ d x. refl)) (λ d x. refl)

expr_block_kept : Kept expr_block 2
expr_block_kept =
    keys "id" (maybes block_theorem)
    (keys "is_unsafe" (reads flags)
    (kind_keeps "Block"
    (keys "label" (maybes label_id_theorem)
    (keys "statements" (reads (listing_faithful statement_theorem))
    (lasts "tail" (maybes expr_id_theorem)) (λ d x. refl)) (λ d x. refl)) (λ d x. refl)) (λ d x. refl)) (λ d x. refl)

expr_const_kept : Kept expr_const 0
expr_const_kept = keys "expr" (reads const_ref_theorem) (alone_keeps "Const") (λ d x. refl)

expr_loop_kept : Kept expr_loop 0
expr_loop_kept =
    keys "body" (reads expr_id_theorem)
    (kind_keeps "Loop"
    (keys "label" (maybes label_id_theorem)
    (lasts "source" (reads loop_source_theorem)) (λ d x. refl)) (λ d x. refl)) (λ d x. refl)

expr_call_kept : Kept expr_call 1
expr_call_kept =
    keys "args" (reads (listing_faithful expr_id_theorem)) (keys "callee" (reads expr_id_theorem) (alone_keeps "Call") (λ d x. refl))
    (λ d x. refl)

expr_match_kept : Kept expr_match 2
expr_match_kept =
    keys "arms" (reads (listing_faithful arm_theorem)) (keys "expr" (reads expr_id_theorem) (alone_keeps "Match") (λ d x. refl))
    (λ d x. refl)

expr_continue_kept : Kept expr_continue 0
expr_continue_kept = kind_keeps "Continue" (lasts "label" (maybes label_id_theorem)) (λ d x. refl)

expr_break_kept : Kept expr_break 0
expr_break_kept =
    keys "expr" (maybes expr_id_theorem) (kind_keeps "Break" (lasts "label" (maybes label_id_theorem)) (λ d x. refl)) (λ d x. refl)

expr_literal_kept : Kept expr_literal 0
expr_literal_kept =
    kind_keeps "Literal"
    (keys "kind" (reads literal_kind_theorem)
    (keys "negative" (reads flags)
    (keys "suffix" (maybes texts)
    (lasts "text" (reads texts)) (λ d x. refl)) (λ d x. refl)) (λ d x. refl)) (λ d x. refl)

expr_method_call_kept : Kept expr_method_call 8
expr_method_call_kept =
    keys "args" (reads (listing_faithful expr_id_theorem))
    (keys "generic_args" (maybes generic_args_theorem)
    (kind_keeps "MethodCall"
    (keys "method_name" (reads name_theorem)
    (lasts "receiver" (reads expr_id_theorem)) (λ d x. refl)) (λ d x. refl)) (λ d x. refl)) (λ d x. refl)

expr_record_lit_kept : Kept expr_record_lit 10
expr_record_lit_kept =
    keys "fields" (reads (listing_faithful field_theorem))
    (kind_keeps "RecordLit"
    (keys "path" (reads path_theorem)
    (lasts "spread" (reads spread_theorem)) (λ d x. refl)) (λ d x. refl)) (λ d x. refl)

expr_field_kept : Kept expr_field 0
expr_field_kept = keys "expr" (reads expr_id_theorem) (kind_keeps "Field" (lasts "name" (reads name_theorem)) (λ d x. refl)) (λ d x. refl)

expr_unary_op_kept : Kept expr_unary_op 0
expr_unary_op_kept =
    keys "expr" (reads expr_id_theorem) (kind_keeps "UnaryOp" (lasts "op" (reads unary_op_theorem)) (λ d x. refl)) (λ d x. refl)

expr_binary_op_kept : Kept expr_binary_op 0
expr_binary_op_kept =
    kind_keeps "BinaryOp"
    (keys "lhs" (reads expr_id_theorem)
    (keys "op" (maybes binary_op_theorem)
    (lasts "rhs" (reads expr_id_theorem)) (λ d x. refl)) (λ d x. refl)) (λ d x. refl)

expr_assignment_kept : Kept expr_assignment 0
expr_assignment_kept =
    kind_keeps "Assignment"
    (keys "target" (reads pat_id_theorem)
    (lasts "value" (reads expr_id_theorem)) (λ d x. refl)) (λ d x. refl)

expr_index_kept : Kept expr_index 0
expr_index_kept =
    keys "base" (reads expr_id_theorem) (keys "index" (reads expr_id_theorem) (alone_keeps "Index") (λ d x. refl)) (λ d x. refl)

expr_ref_kept : Kept expr_ref 0
expr_ref_kept =
    keys "expr" (reads expr_id_theorem)
    (kind_keeps "Ref"
    (keys "mutability" (reads mutability_theorem)
    (lasts "rawness" (reads rawness_theorem)) (λ d x. refl)) (λ d x. refl)) (λ d x. refl)

expr_closure_kept : Kept expr_closure 1
expr_closure_kept =
    keys "arg_types" (reads (lists (maybes type_id_theorem)))
    (keys "args" (reads (listing_faithful pat_id_theorem))
    (keys "body" (reads expr_id_theorem)
    (keys "capture_by" (reads capture_theorem)
    (keys "closure_kind" (reads closure_kind_theorem)
    (kind_keeps "Closure"
    (lasts "ret_type" (maybes type_id_theorem)) (λ d x. refl)) (λ d x. refl)) (λ d x. refl)) (λ d x. refl)) (λ d x. refl)) (λ d x. refl)

expr_tuple_kept : Kept expr_tuple 1
expr_tuple_kept = keys "exprs" (reads (listing_faithful expr_id_theorem)) (alone_keeps "Tuple") (λ d x. refl)

expr_array_kept : Kept expr_array 1
expr_array_kept = keys "elements" (reads (listing_faithful expr_id_theorem)) (alone_keeps "Array") (λ d x. refl)

expr_repeat_kept : Kept expr_repeat 0
expr_repeat_kept =
    keys "initializer" (reads expr_id_theorem)
    (kind_keeps "Repeat"
    (lasts "repeat" (reads const_ref_theorem)) (λ d x. refl)) (λ d x. refl)

expr_return_kept : Kept expr_return 0
expr_return_kept = keys "expr" (maybes expr_id_theorem) (alone_keeps "Return") (λ d x. refl)

expr_become_kept : Kept expr_become 0
expr_become_kept = keys "expr" (reads expr_id_theorem) (alone_keeps "Become") (λ d x. refl)

expr_yield_kept : Kept expr_yield 0
expr_yield_kept = keys "expr" (maybes expr_id_theorem) (alone_keeps "Yield") (λ d x. refl)

expr_yeet_kept : Kept expr_yeet 0
expr_yeet_kept = keys "expr" (maybes expr_id_theorem) (alone_keeps "Yeet") (λ d x. refl)

expr_await_kept : Kept expr_await 0
expr_await_kept = keys "expr" (reads expr_id_theorem) (alone_keeps "Await") (λ d x. refl)

expr_cast_kept : Kept expr_cast 0
expr_cast_kept =
    keys "expr" (reads expr_id_theorem) (kind_keeps "Cast" (lasts "type_ref" (reads type_id_theorem)) (λ d x. refl)) (λ d x. refl)

expr_offset_of_kept : Kept expr_offset_of 1
expr_offset_of_kept =
    keys "container" (reads type_id_theorem)
    (keys "fields" (reads (listing_faithful name_theorem))
    (alone_keeps "OffsetOf") (λ d x. refl)) (λ d x. refl)

expr_emitted : (x : Expr) → Emitted expr_kinds (of_expr x) x 10
expr_emitted hir_is.Missing = fields_back 10 (λ v. hir_is.Missing) (alone_keeps "Missing") (omega arith) tt
expr_emitted (hir_is.Path p context) = fields_back 10 (λ v. hir_is.Path v.1 v.0) expr_path_kept (omega arith) (context, p)
expr_emitted (hir_is.If condition then_branch else_branch) =
    fields_back 10 (λ v. hir_is.If v.0 v.1.1 v.1.0) expr_if_kept (omega arith) (condition, (else_branch, then_branch))
expr_emitted (hir_is.Let p value) = fields_back 10 (λ v. hir_is.Let v.1 v.0) expr_let_kept (omega arith) (value, p)
expr_emitted (hir_is.Block is_unsafe target id statements tail) =
    fields_back 10 (λ v. hir_is.Block v.1.0 v.1.1.0 v.0 v.1.1.1.0 v.1.1.1.1) expr_block_kept (omega arith) (
      id,
      (
        is_unsafe,
        (
          target,
          (
            statements,
            tail,
          ),
        ),
      ),
    )
expr_emitted (hir_is.Const value) = fields_back 10 (λ v. hir_is.Const v.0) expr_const_kept (omega arith) (value, tt)
expr_emitted (hir_is.Loop body target source) =
    fields_back 10 (λ v. hir_is.Loop v.0 v.1.0 v.1.1) expr_loop_kept (omega arith) (body, (target, source))
expr_emitted (hir_is.Call callee args) = fields_back 10 (λ v. hir_is.Call v.1.0 v.0) expr_call_kept (omega arith) (args, (callee, tt))
expr_emitted (hir_is.Match value arms) = fields_back 10 (λ v. hir_is.Match v.1.0 v.0) expr_match_kept (omega arith) (arms, (value, tt))
expr_emitted (hir_is.Continue target) = fields_back 10 (λ v. hir_is.Continue v) expr_continue_kept (omega arith) target
expr_emitted (hir_is.Break target value) = fields_back 10 (λ v. hir_is.Break v.1 v.0) expr_break_kept (omega arith) (value, target)
expr_emitted (hir_is.Literal l) =
    fields_back 10 (λ v. hir_is.Literal (record { negative = v.1.0; kind = v.0; text = v.1.1.1; suffix = v.1.1.0 }))
    expr_literal_kept (omega
    arith) (l.kind, (l.negative, (l.suffix, l.text)))
expr_emitted (hir_is.MethodCall receiver method generics args) =
    fields_back 10 (λ v. hir_is.MethodCall v.1.1.1 v.1.1.0 v.1.0 v.0) expr_method_call_kept (omega arith)
    (args, (generics, (method, receiver)))
expr_emitted (hir_is.RecordLit p fields rest) =
    fields_back 10 (λ v. hir_is.RecordLit v.1.0 v.0 v.1.1) expr_record_lit_kept (omega arith) (fields, (p, rest))
expr_emitted (hir_is.Field value called) = fields_back 10 (λ v. hir_is.Field v.0 v.1) expr_field_kept (omega arith) (value, called)
expr_emitted (hir_is.UnaryOp op value) = fields_back 10 (λ v. hir_is.UnaryOp v.1 v.0) expr_unary_op_kept (omega arith) (value, op)
expr_emitted (hir_is.BinaryOp op lhs rhs) =
    fields_back 10 (λ v. hir_is.BinaryOp v.1.0 v.0 v.1.1) expr_binary_op_kept (omega arith) (lhs, (op, rhs))
expr_emitted (hir_is.Assignment target value) =
    fields_back 10 (λ v. hir_is.Assignment v.0 v.1) expr_assignment_kept (omega arith) (target, value)
expr_emitted (hir_is.Index base index) = fields_back 10 (λ v. hir_is.Index v.0 v.1.0) expr_index_kept (omega arith) (base, (index, tt))
expr_emitted (hir_is.Ref raw mark value) = fields_back 10 (λ v. hir_is.Ref v.1.1 v.1.0 v.0) expr_ref_kept (omega arith) (value, (mark, raw))
expr_emitted (hir_is.Closure args arg_types ret_type body is by_what) =
    fields_back 10 (λ v. hir_is.Closure v.1.0 v.0 v.1.1.1.1.1 v.1.1.0 v.1.1.1.1.0 v.1.1.1.0) expr_closure_kept (omega arith) (
      arg_types,
      (
        args,
        (body, (by_what, (is, ret_type))),
      ),
    )
expr_emitted (hir_is.Tuple exprs) = fields_back 10 (λ v. hir_is.Tuple v.0) expr_tuple_kept (omega arith) (exprs, tt)
expr_emitted (hir_is.Array (array.ElementList elements)) =
    fields_back 10 (λ v. hir_is.Array (array.ElementList v.0)) expr_array_kept (omega arith) (elements, tt)
expr_emitted (hir_is.Array (array.Repeat initializer repeat)) =
    fields_back 10 (λ v. hir_is.Array (array.Repeat v.0 v.1)) expr_repeat_kept (omega arith) (initializer, repeat)
expr_emitted (hir_is.Return value) = fields_back 10 (λ v. hir_is.Return v.0) expr_return_kept (omega arith) (value, tt)
expr_emitted (hir_is.Become value) = fields_back 10 (λ v. hir_is.Become v.0) expr_become_kept (omega arith) (value, tt)
expr_emitted (hir_is.Yield value) = fields_back 10 (λ v. hir_is.Yield v.0) expr_yield_kept (omega arith) (value, tt)
expr_emitted (hir_is.Yeet value) = fields_back 10 (λ v. hir_is.Yeet v.0) expr_yeet_kept (omega arith) (value, tt)
expr_emitted (hir_is.Await value) = fields_back 10 (λ v. hir_is.Await v.0) expr_await_kept (omega arith) (value, tt)
expr_emitted (hir_is.Cast value type_ref) = fields_back 10 (λ v. hir_is.Cast v.0 v.1) expr_cast_kept (omega arith) (value, type_ref)
expr_emitted (hir_is.OffsetOf container fields) =
    fields_back 10 (λ v. hir_is.OffsetOf v.0 v.1.0) expr_offset_of_kept (omega arith) (container, (fields, tt))
expr_emitted hir_is.Underscore = fields_back 10 (λ v. hir_is.Underscore) (alone_keeps "Underscore") (omega arith) tt
expr_emitted hir_is.IncludeBytes = fields_back 10 (λ v. hir_is.IncludeBytes) (alone_keeps "IncludeBytes") (omega arith) tt

pub expr_theorem : Faithful expr 11
expr_theorem = sums of_expr expr_kinds 10 expr_emitted
