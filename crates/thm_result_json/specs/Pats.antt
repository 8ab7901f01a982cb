-- Bindings and patterns.
use Rattle.std.specs.Prelude.{ℕ, Bool, List, [], ◌∷◌, Option}
use Rattle.hir_base.specs.declared.op.RangeOp.{RangeOp}
use Rattle.hir_binding.specs.declared.binding.BindingAnnotation.{BindingAnnotation}
use Rattle.hir_binding.specs.declared.binding.BindingProblems.{BindingProblems}
use Rattle.hir_store.specs.declared.hir.Mutability.{Mutability}
use Rattle.hir_store.specs.declared.ids.BindingId.{BindingId}
use Rattle.hir_store.specs.declared.ids.ExprId.{ExprId}
use Rattle.hir_store.specs.declared.ids.HygieneId.{HygieneId}
use Rattle.hir_store.specs.declared.ids.PatId.{PatId}
use Rattle.hir_store.specs.declared.name.Name.{Name}
use Rattle.hir_store.specs.declared.pat.Binding.{Binding}
use Rattle.hir_store.specs.declared.pat.Pat.{Pat}
use Rattle.hir_store.specs.declared.pat.RecordFieldPat.{RecordFieldPat}
use Rattle.hir_store.specs.declared.path.Path.{Path}
use Rattle.hir_store.specs.declared.pat.Pat.TheVariants as pat_is
use Rattle.serde_json.specs.Data.{Members}
use Rattle.thm_result_json.specs.Codec.{Codec, Fields, Kind, only_kind, count_codec, bool_codec, key, kind, kinds, last, listing, made}
use Rattle.thm_result_json.specs.Codec.{maybe, one}
use Rattle.thm_result_json.specs.Numbers.{binding_id, expr_id, hygiene, name, pat_id}
use Rattle.thm_result_json.specs.Paths.{path}
use Rattle.thm_result_json.specs.Words.{mode, mutability, problem, range_op}

-- `{"hygiene": 0, "mode": "plain", "name": "x", "problems": null}`
abbrev pub binding_fields : Fields (HygieneId × (BindingAnnotation × (Name × (Option BindingProblems))))
binding_fields = key "hygiene" hygiene (key "mode" mode (key "name" name (last "problems" (maybe problem))))

abbrev pub binding : Codec Binding
binding =
    made (λ x. (x.hygiene, (x.mode, (x.name, x.problems)))) (λ v. record {
      name = v.1.1.0;
      mode = v.1.0;
      hygiene = v.0;
      problems = v.1.1.1;
    }) binding_fields

-- `{"name": "x", "pat": 0}`
abbrev pub pat_field_fields : Fields (Name × PatId)
pat_field_fields = key "name" name (last "pat" pat_id)

abbrev pub pat_field : Codec RecordFieldPat
pat_field = made (λ x. (x.name, x.pat)) (λ v. record { name = v.0; pat = v.1 }) pat_field_fields

-- `{"id": 0, "k": "Bind", "subpat": null}`
abbrev pub pat_bind : Fields (BindingId × (Option PatId))
pat_bind = key "id" binding_id (kind "Bind" (last "subpat" (maybe pat_id)))

-- `{"hygiene": 0, "k": "Path", "path": ..}`
abbrev pub pat_path : Fields (HygieneId × Path)
pat_path = key "hygiene" hygiene (kind "Path" (last "path" path))

-- `{"args": [0], "ellipsis": null, "k": "TupleStruct", "path": ..}`
abbrev pub pat_tuple_struct : Fields ((List PatId) × ((Option ℕ) × Path))
pat_tuple_struct = key "args" (listing pat_id) (key "ellipsis" (maybe count_codec) (kind "TupleStruct" (last "path" path)))

-- `{"args": [0], "ellipsis": null, "k": "Tuple"}`
abbrev pub pat_tuple : Fields ((List PatId) × ((Option ℕ) × Unit {0}))
pat_tuple = key "args" (listing pat_id) (key "ellipsis" (maybe count_codec) (only_kind "Tuple"))

-- `{"args": [..], "ellipsis": false, "k": "Record", "path": ..}`
abbrev pub pat_record : Fields ((List RecordFieldPat) × (Bool × Path))
pat_record = key "args" (listing pat_field) (key "ellipsis" bool_codec (kind "Record" (last "path" path)))

-- `{"k": "Or", "pats": [0]}`
abbrev pub pat_or : Fields (List PatId)
pat_or = kind "Or" (last "pats" (listing pat_id))

-- `{"k": "Slice", "prefix": [0], "slice": null, "suffix": [0]}`
abbrev pub pat_slice : Fields ((List PatId) × ((Option PatId) × (List PatId)))
pat_slice = kind "Slice" (key "prefix" (listing pat_id) (key "slice" (maybe pat_id) (last "suffix" (listing pat_id))))

-- `{"k": "Ref", "mutability": "shared", "pat": 0}`
abbrev pub pat_ref : Fields (Mutability × PatId)
pat_ref = kind "Ref" (key "mutability" mutability (last "pat" pat_id))

-- `{"inner": 0, "k": "Box"}`
abbrev pub pat_box : Fields (PatId × Unit {0})
pat_box = key "inner" pat_id (only_kind "Box")

-- `{"inner": 0, "k": "Deref"}`
abbrev pub pat_deref : Fields (PatId × Unit {0})
pat_deref = key "inner" pat_id (only_kind "Deref")

-- `{"expr": 0, "k": "Lit"}`
abbrev pub pat_lit : Fields (ExprId × Unit {0})
pat_lit = key "expr" expr_id (only_kind "Lit")

-- `{"end": null, "k": "Range", "op": "..", "start": null}`
abbrev pub pat_range : Fields ((Option ExprId) × (RangeOp × (Option ExprId)))
pat_range = key "end" (maybe expr_id) (kind "Range" (key "op" range_op (last "start" (maybe expr_id))))

-- `{"expr": 0, "k": "Expr"}`
abbrev pub pat_expr : Fields (ExprId × Unit {0})
pat_expr = key "expr" expr_id (only_kind "Expr")

abbrev pub of_pat : Pat → Members
of_pat pat_is.Missing = (only_kind "Missing").to tt
of_pat pat_is.Wild = (only_kind "Wild").to tt
of_pat pat_is.Rest = (only_kind "Rest").to tt
of_pat pat_is.NotNull = (only_kind "NotNull").to tt
of_pat (pat_is.Bind id subpat) = (pat_bind).to (id, subpat)
of_pat (pat_is.Path p context) = (pat_path).to (context, p)
of_pat (pat_is.TupleStruct p ellipsis args) = (pat_tuple_struct).to (args, (ellipsis, p))
of_pat (pat_is.Tuple ellipsis args) = (pat_tuple).to (args, (ellipsis, tt))
of_pat (pat_is.Record p args ellipsis) = (pat_record).to (args, (ellipsis, p))
of_pat (pat_is.Or pats) = (pat_or).to pats
of_pat (pat_is.Slice prefix slice suffix) = (pat_slice).to (prefix, (slice, suffix))
of_pat (pat_is.Ref mark inner) = (pat_ref).to (mark, inner)
of_pat (pat_is.Box inner) = (pat_box).to (inner, tt)
of_pat (pat_is.Deref inner) = (pat_deref).to (inner, tt)
of_pat (pat_is.Lit value) = (pat_lit).to (value, tt)
of_pat (pat_is.Range op start stop) = (pat_range).to (stop, (op, start))
of_pat (pat_is.Expr place) = (pat_expr).to (place, tt)

abbrev pub pat_kinds : List (Kind Pat)
pat_kinds =
    one "Missing" (λ v. pat_is.Missing) (only_kind "Missing") ∷
    one "Wild" (λ v. pat_is.Wild) (only_kind "Wild") ∷
    one "Rest" (λ v. pat_is.Rest) (only_kind "Rest") ∷
    one "NotNull" (λ v. pat_is.NotNull) (only_kind "NotNull") ∷
    one "Bind" (λ v. pat_is.Bind v.0 v.1) pat_bind ∷
    one "Path" (λ v. pat_is.Path v.1 v.0) pat_path ∷
    one "TupleStruct" (λ v. pat_is.TupleStruct v.1.1 v.1.0 v.0) pat_tuple_struct ∷
    one "Tuple" (λ v. pat_is.Tuple v.1.0 v.0) pat_tuple ∷
    one "Record" (λ v. pat_is.Record v.1.1 v.0 v.1.0) pat_record ∷
    one "Or" (λ v. pat_is.Or v) pat_or ∷
    one "Slice" (λ v. pat_is.Slice v.0 v.1.0 v.1.1) pat_slice ∷
    one "Ref" (λ v. pat_is.Ref v.0 v.1) pat_ref ∷
    one "Box" (λ v. pat_is.Box v.0) pat_box ∷
    one "Deref" (λ v. pat_is.Deref v.0) pat_deref ∷
    one "Lit" (λ v. pat_is.Lit v.0) pat_lit ∷
    one "Range" (λ v. pat_is.Range v.1.0 v.1.1 v.0) pat_range ∷
    one "Expr" (λ v. pat_is.Expr v.0) pat_expr ∷ []

abbrev pub pat : Codec Pat
pat = kinds of_pat pat_kinds
