-- Bindings and patterns read back.
use Rattle.std.proofs.Common.{arith, refl}
use Rattle.hir_store.specs.declared.pat.Pat.{Pat}
use Rattle.hir_store.specs.declared.pat.Pat.TheVariants as pat_is
use Rattle.thm_result_json.specs.Codec.{Faithful}
use Rattle.thm_result_json.specs.Pats.{binding, binding_fields, of_pat, pat, pat_bind, pat_box, pat_deref, pat_expr, pat_field}
use Rattle.thm_result_json.specs.Pats.{pat_field_fields, pat_kinds, pat_lit, pat_or, pat_path, pat_range, pat_record, pat_ref, pat_slice}
use Rattle.thm_result_json.specs.Pats.{pat_tuple, pat_tuple_struct}
use Rattle.thm_result_json.proofs.Codecs.{Kept, Emitted, alone_keeps, counts, flags, keys, kind_keeps, lasts, listing_faithful, makes}
use Rattle.thm_result_json.proofs.Codecs.{maybes, reads, sums}
use Rattle.thm_result_json.proofs.Codecs.{fields_back}
use Rattle.thm_result_json.proofs.Numbers.{binding_id_theorem, expr_id_theorem, hygiene_theorem, name_theorem, pat_id_theorem}
use Rattle.thm_result_json.proofs.Paths.{path_theorem}
use Rattle.thm_result_json.proofs.Words.{mode_theorem, mutability_theorem, problem_theorem, range_op_theorem}

binding_kept : Kept binding_fields 0
binding_kept =
    keys "hygiene" (reads hygiene_theorem)
    (keys "mode" (reads mode_theorem)
    (keys "name" (reads name_theorem)
    (lasts "problems" (maybes problem_theorem)) (λ d x. refl)) (λ d x. refl)) (λ d x. refl)

pub binding_theorem : Faithful binding 1
binding_theorem =
    makes (λ x. (x.hygiene, (x.mode, (x.name, x.problems)))) (λ v. record {
      name = v.1.1.0;
      mode = v.1.0;
      hygiene = v.0;
      problems =
          v.1.1.1;
    }) binding_kept (λ x. refl)

pat_field_kept : Kept pat_field_fields 0
pat_field_kept = keys "name" (reads name_theorem) (lasts "pat" (reads pat_id_theorem)) (λ d x. refl)

pub pat_field_theorem : Faithful pat_field 1
pat_field_theorem = makes (λ x. (x.name, x.pat)) (λ v. record { name = v.0; pat = v.1 }) pat_field_kept (λ x. refl)

pat_bind_kept : Kept pat_bind 0
pat_bind_kept =
    keys "id" (reads binding_id_theorem) (kind_keeps "Bind" (lasts "subpat" (maybes pat_id_theorem)) (λ d x. refl)) (λ d x. refl)

pat_path_kept : Kept pat_path 10
pat_path_kept = keys "hygiene" (reads hygiene_theorem) (kind_keeps "Path" (lasts "path" (reads path_theorem)) (λ d x. refl)) (λ d x. refl)

pat_tuple_struct_kept : Kept pat_tuple_struct 10
pat_tuple_struct_kept =
    keys "args" (reads (listing_faithful pat_id_theorem))
    (keys "ellipsis" (maybes counts)
    (kind_keeps "TupleStruct"
    (lasts "path" (reads path_theorem)) (λ d x. refl)) (λ d x. refl)) (λ d x. refl)

pat_tuple_kept : Kept pat_tuple 1
pat_tuple_kept = keys "args" (reads (listing_faithful pat_id_theorem)) (keys "ellipsis" (maybes counts) (alone_keeps "Tuple") (λ d x. refl))
    (λ d x. refl)

pat_record_kept : Kept pat_record 10
pat_record_kept =
    keys "args" (reads (listing_faithful pat_field_theorem))
    (keys "ellipsis" (reads flags)
    (kind_keeps "Record"
    (lasts "path" (reads path_theorem)) (λ d x. refl)) (λ d x. refl)) (λ d x. refl)

pat_or_kept : Kept pat_or 1
pat_or_kept = kind_keeps "Or" (lasts "pats" (reads (listing_faithful pat_id_theorem))) (λ d x. refl)

pat_slice_kept : Kept pat_slice 1
pat_slice_kept =
    kind_keeps "Slice"
    (keys "prefix" (reads (listing_faithful pat_id_theorem))
    (keys "slice" (maybes pat_id_theorem)
    (lasts "suffix" (reads (listing_faithful pat_id_theorem))) (λ d x. refl)) (λ d x. refl)) (λ d x. refl)

pat_ref_kept : Kept pat_ref 0
pat_ref_kept =
    kind_keeps "Ref" (keys "mutability" (reads mutability_theorem) (lasts "pat" (reads pat_id_theorem)) (λ d x. refl)) (λ d x. refl)

pat_box_kept : Kept pat_box 0
pat_box_kept = keys "inner" (reads pat_id_theorem) (alone_keeps "Box") (λ d x. refl)

pat_deref_kept : Kept pat_deref 0
pat_deref_kept = keys "inner" (reads pat_id_theorem) (alone_keeps "Deref") (λ d x. refl)

pat_lit_kept : Kept pat_lit 0
pat_lit_kept = keys "expr" (reads expr_id_theorem) (alone_keeps "Lit") (λ d x. refl)

pat_range_kept : Kept pat_range 0
pat_range_kept =
    keys "end" (maybes expr_id_theorem)
    (kind_keeps "Range"
    (keys "op" (reads range_op_theorem)
    (lasts "start" (maybes expr_id_theorem)) (λ d x. refl)) (λ d x. refl)) (λ d x. refl)

pat_expr_kept : Kept pat_expr 0
pat_expr_kept = keys "expr" (reads expr_id_theorem) (alone_keeps "Expr") (λ d x. refl)

pat_emitted : (x : Pat) → Emitted pat_kinds (of_pat x) x 10
pat_emitted pat_is.Missing = fields_back 10 (λ v. pat_is.Missing) (alone_keeps "Missing") (omega arith) tt
pat_emitted pat_is.Wild = fields_back 10 (λ v. pat_is.Wild) (alone_keeps "Wild") (omega arith) tt
pat_emitted pat_is.Rest = fields_back 10 (λ v. pat_is.Rest) (alone_keeps "Rest") (omega arith) tt
pat_emitted pat_is.NotNull = fields_back 10 (λ v. pat_is.NotNull) (alone_keeps "NotNull") (omega arith) tt
pat_emitted (pat_is.Bind id subpat) = fields_back 10 (λ v. pat_is.Bind v.0 v.1) pat_bind_kept (omega arith) (id, subpat)
pat_emitted (pat_is.Path p context) = fields_back 10 (λ v. pat_is.Path v.1 v.0) pat_path_kept (omega arith) (context, p)
pat_emitted (pat_is.TupleStruct p ellipsis args) =
    fields_back 10 (λ v. pat_is.TupleStruct v.1.1 v.1.0 v.0) pat_tuple_struct_kept (omega arith) (args, (ellipsis, p))
pat_emitted (pat_is.Tuple ellipsis args) = fields_back 10 (λ v. pat_is.Tuple v.1.0 v.0) pat_tuple_kept (omega arith) (args, (ellipsis, tt))
pat_emitted (pat_is.Record p args ellipsis) =
    fields_back 10 (λ v. pat_is.Record v.1.1 v.0 v.1.0) pat_record_kept (omega arith) (args, (ellipsis, p))
pat_emitted (pat_is.Or pats) = fields_back 10 (λ v. pat_is.Or v) pat_or_kept (omega arith) pats
pat_emitted (pat_is.Slice prefix slice suffix) =
    fields_back 10 (λ v. pat_is.Slice v.0 v.1.0 v.1.1) pat_slice_kept (omega arith) (prefix, (slice, suffix))
pat_emitted (pat_is.Ref mark inner) = fields_back 10 (λ v. pat_is.Ref v.0 v.1) pat_ref_kept (omega arith) (mark, inner)
pat_emitted (pat_is.Box inner) = fields_back 10 (λ v. pat_is.Box v.0) pat_box_kept (omega arith) (inner, tt)
pat_emitted (pat_is.Deref inner) = fields_back 10 (λ v. pat_is.Deref v.0) pat_deref_kept (omega arith) (inner, tt)
pat_emitted (pat_is.Lit value) = fields_back 10 (λ v. pat_is.Lit v.0) pat_lit_kept (omega arith) (value, tt)
pat_emitted (pat_is.Range op start stop) =
    fields_back 10 (λ v. pat_is.Range v.1.0 v.1.1 v.0) pat_range_kept (omega arith) (stop, (op, start))
pat_emitted (pat_is.Expr place) = fields_back 10 (λ v. pat_is.Expr v.0) pat_expr_kept (omega arith) (place, tt)

pub pat_theorem : Faithful pat 11
pat_theorem = sums of_pat pat_kinds 10 pat_emitted
