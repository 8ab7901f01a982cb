-- Casts, records, offsets of fields and calls of methods: what is read back of a type, a path or arguments is in their events.
use Rattle.std.proofs.Common.{◌≡◌, List, [], ◌∷◌, ◌++◌, map, Option, Some, None, option_map, refl, sym, ap, ◌∙◌, subst, arith}
use Rattle.hir_store.specs.Pointers.{Pointer}
use Rattle.hir_store.specs.Stored.{Stored, store_of, map_of}
use Rattle.hir_store.specs.declared.hir.Expr.TheVariants as hir
use Rattle.hir_store.specs.declared.hir.RecordLitField.{RecordLitField}
use Rattle.hir_store.specs.declared.hir.RecordSpread.{RecordSpread}
use Rattle.hir_store.specs.declared.ids.ExprId.{ExprId}
use Rattle.hir_store.specs.declared.ids.TypeRefId.{TypeRefId}
use Rattle.hir_store.specs.declared.name.Name.{Name}
use Rattle.hir_store.specs.declared.path.Path.{Path}
use Rattle.hir_store.specs.declared.path.GenericArgs.{GenericArgs}
use Rattle.hir_env.specs.NodeMap.{Site}
use Rattle.hir_env.specs.Answering.{site_of}
use Rattle.hir_env.specs.ResolvedTree.{OptionType, OptionPath, OptionArgs}
use Rattle.hir_lower_builder.specs.Lowering.{Lowering}
use Rattle.hir_lower_builder.specs.Lower.{ExprSteps, StoredFields, push_some, type_part, lower_path, args_part, cast_form, offset_of_form}
use Rattle.hir_lower_builder.specs.Lower.{method_call_form, record_contents, record_of, record_form, field_form}
use Rattle.spec_data.specs.Data.{TypeData, PathData, OptionArgsData}
use Rattle.spec_data.specs.Reading.{stored_type, stored_path, stored_args}
use Rattle.spec_data.specs.Written.{written_type, written_path, written_args}
use Rattle.thm_round_trip.proofs.Now.{type_now, path_now, args_now}
use Rattle.spec_semantics.specs.Run.{Value, SpreadForm, cast, made_record, offset_of, method_call}
use Rattle.spec_semantics.specs.Run.{pure as gives, ◌>>=◌, ask}
use Rattle.spec_semantics.specs.Syntax.{run_record}
use Rattle.spec_semantics.specs.Store.{others_form}
use Rattle.thm_logic.proofs.Frames.{Frame}
use Rattle.thm_logic.proofs.Steps.{Mark, Grows, Rel, Correct, Allocated, correct_bind, correct_as, correct_pure}
use Rattle.thm_logic.proofs.Steps.{correct_alloc}
use Rattle.thm_logic.proofs.Steps.{correct_point_field}
use Rattle.thm_semantics.proofs.Relation.{same_bind, same_ask}
use Rattle.thm_semantics.proofs.Senses.{Base, base_of}
use Rattle.thm_semantics.proofs.Senses.{Walk, one, many, others, Goes, Runs, goes_within, goes_at}
use Rattle.thm_semantics.proofs.Nodes
use Rattle.thm_semantics.proofs.Forms.{missing_fine, Pushed, pushed_one}

abbrev type_in : Stored → TypeRefId → TypeData
type_in final t = stored_type (store_of final) (map_of final) t

abbrev path_in : Stored → Path → PathData
path_in final p = stored_path (store_of final) (map_of final) p

abbrev args_in : Stored → Option GenericArgs → OptionArgsData
args_in final a = stored_args (store_of final) (map_of final) a

module _ (at : Pointer) where
  abbrev here : Option Site
  here = Some (site_of at)

  -- casts

  abbrev cast_walk : Walk Value → TypeData → Walk Value
  cast_walk x t fuel ss = x fuel ss >>= (λ v. ask (cast t) (v ∷ []) here)

  goes_cast : {base : Base} {m m' : Mark} {final : Stored} {ps qs : List Frame} {i e : ExprId} {x : Walk Value} (t : TypeRefId)
      (d : TypeData) → type_in final t ≡ d → Goes base m.nodes one x final ps e
      → Allocated (hir.Cast e t) (Some at) final qs m m' i → Goes base m'.nodes one (cast_walk x d) final ps i
  goes_cast {base = base} {m' = m'} {final = final} {ps = ps} {i = i} {x = x} t d is h a =
      subst (λ k. Goes base m'.nodes one (cast_walk x k) final ps i) is (goes_at a
      (λ fuel d le f. same_bind (h.same fuel d le f) (λ v. same_ask (cast (type_in final t)) (v ∷ []) here))
      (λ d le. h.jumps d le))

  pub cast_fine : (t : OptionType) {p : ExprSteps} {x : Walk Value} → Correct p (Runs one x)
      → Correct (cast_form at p (type_part None t)) (Runs one (cast_walk x (written_type t)))
  unfolding cast_form
  cast_fine t h = correct_as (correct_bind h (λ e. correct_bind (type_now t) (λ i. correct_alloc (hir.Cast e i) (Some at))))
      (λ final ps m m' i g row. let r = row.second in
      goes_cast r.one (written_type t) r.first.is (goes_within (omega arith) row.first) r.second)

  -- offsets of fields

  goes_offset : {base : Base} {m m' : Mark} {final : Stored} {ps qs : List Frame} {i : ExprId} (names : List Name) (t : TypeRefId)
      (d : TypeData) → type_in final t ≡ d → Allocated (hir.OffsetOf t names) (Some at) final qs m m' i
      → Goes base m'.nodes one (λ fuel ss. ask (offset_of d names) [] here) final ps i
  goes_offset {base = base} {m' = m'} {final = final} {ps = ps} {i = i} names t d is a =
      subst (λ k. Goes base m'.nodes one (λ fuel ss. ask (offset_of k names) [] here) final ps i) is (goes_at a
      (λ fuel d le f. same_ask (offset_of (type_in final t) names) [] here) (λ d le. tt))

  pub offset_of_fine : (t : OptionType) (names : List Name)
      → Correct (offset_of_form at (type_part None t) names) (Runs one (λ fuel ss. ask (offset_of (written_type t) names) [] here))
  unfolding offset_of_form
  offset_of_fine t names = correct_as (correct_bind (type_now t) (λ i. correct_alloc (hir.OffsetOf i names) (Some at)))
      (λ final ps m m' i g row. goes_offset names row.one (written_type t) row.first.is row.second)

  -- calls of methods

  abbrev call_walk : Walk Value → Walk (List Value) → Name → OptionArgsData → Walk Value
  call_walk x y name d fuel ss = x fuel ss >>= (λ v. y fuel ss >>= (λ vs. ask (method_call name d) (v ∷ vs) here))

  goes_method : {base : Base} {m m' : Mark} {final : Stored} {ps qs : List Frame} {i e : ExprId} {es : List ExprId} {x : Walk Value}
      {y : Walk (List Value)} (name : Name) (g : Option GenericArgs) (d : OptionArgsData) → args_in final g ≡ d
      → Goes base m.nodes one x final ps e → Goes base m.nodes many y final ps es
      → Allocated (hir.MethodCall e name g es) (Some at) final qs m m' i → Goes base m'.nodes one (call_walk x y name d) final ps i
  goes_method {base = base} {m' = m'} {final = final} {ps = ps} {i = i} {x = x} {y = y} name g d is h k a =
      subst (λ z. Goes base m'.nodes one (call_walk x y name z) final ps i) is (goes_at a
      (λ fuel d le f. same_bind (h.same fuel d le f) (λ v. same_bind (k.same fuel d le f)
      (λ vs. same_ask (method_call name (args_in final g)) (v ∷ vs) here)))
      (λ d le. (h.jumps d le, k.jumps d le)))

  pub method_call_fine : (name : Name) (g : OptionArgs) {p : ExprSteps} {q : Lowering (List ExprId)} {x : Walk Value}
      {y : Walk (List Value)} → Correct p (Runs one x) → Correct q (Runs many y)
      → Correct (method_call_form at p name q (args_part g)) (Runs one (call_walk x y name (written_args g)))
  unfolding method_call_form
  method_call_fine name g hp hq = correct_as (correct_bind hp (λ e. correct_bind hq (λ es. correct_bind (args_now g)
      (λ a. correct_alloc (hir.MethodCall e name a es) (Some at)))))
      (λ final ps m m' i u row. let r = row.second in let s = r.second in
      goes_method name s.one (written_args g) s.first.is (goes_within (omega arith) row.first) (goes_within (omega arith) r.first) s.second)

-- records

-- what a field became
pub record AsField (name : Name) (x : Walk Value) (final : Stored) (ps : List Frame) (m m' : Mark)
    (o : Option RecordLitField) : Type 0 where
  pub number : ExprId
  pub is : o ≡ Some (record { name = name; expr = number })
  pub rel : Goes (base_of m) m'.nodes one x final ps number

pub field_fine : (at : Pointer) (name : Name) {p : ExprSteps} {x : Walk Value} → Correct p (Runs one x)
    → Correct (field_form at name p) (AsField name x)
unfolding field_form
field_fine at name h = correct_as (correct_bind h (λ i. correct_bind (correct_point_field i at) (λ u. correct_pure _)))
    (λ final ps m m' o g row. let r = row.second in
    record { number = row.one; is = r.second.is; rel = goes_within (omega arith) row.first })

pub record FieldsAre (names : List Name) (x : Walk (List Value)) (final : Stored) (ps : List Frame) (m m' : Mark)
    (fields : List RecordLitField) : Type 0 where
  pub names_are : map (λ f. f.name) fields ≡ names
  pub rel : Goes (base_of m) m'.nodes many x final ps (map (λ f. f.expr) fields)

pub fields_none : {final : Stored} {ps : List Frame} {m m' : Mark} → FieldsAre [] (λ fuel ss. gives []) final ps m m' []
fields_none = record { names_are = refl; rel = Nodes.goes_nil }

-- one that is left out
pub fields_skip : {final : Stored} {ps : List Frame} {m m1 m' : Mark} {names : List Name} {y : Walk (List Value)} {r : List RecordLitField}
    (done : List RecordLitField) (o : Option RecordLitField) → o ≡ None → Grows m m1
    → Pushed (push_some done o) (FieldsAre names y) final ps m1 m' r → Pushed done (FieldsAre names y) final ps m m' r
fields_skip {final = final} {ps = ps} {m = m} {m1 = m1} {m' = m'} {names = names} {y = y} {r = r} done o e g p =
    let q = subst (λ z. Pushed (push_some done z) (FieldsAre names y) final ps m1 m' r) e p in
    record {
      new = q.new;
      is = q.is;
      rel = record { names_are = q.rel.names_are; rel = goes_within (omega arith) q.rel.rel };
    }

pub fields_more : {final : Stored} {ps : List Frame} {m m1 m' : Mark} {name : Name} {names : List Name} {x : Walk Value}
    {y : Walk (List Value)} {r : List RecordLitField} (done : List RecordLitField) (o : Option RecordLitField) → Grows m m1 → Grows m1 m'
    → AsField name x final ps m m1 o → Pushed (push_some done o) (FieldsAre names y) final ps m1 m' r
    → Pushed done (FieldsAre (name ∷ names) (λ fuel ss. x fuel ss >>= (λ v. y fuel ss >>= (λ vs. gives (v ∷ vs))))) final ps m m' r
fields_more {final = final} {ps = ps} {m = m} {m1 = m1} {m' = m'} {name = name} {names = names} {y = y} {r = r} done o g g' h p =
    let field : RecordLitField = record { name = name; expr = h.number } in
    let q = subst (λ z. Pushed (push_some done z) (FieldsAre names y) final ps m1 m' r) h.is p in
    record {
      new = field ∷ q.new;
      is = pushed_one done field q.new q.is;
      rel = record {
        names_are = ap (λ ns. name ∷ ns) q.rel.names_are;
        rel = Nodes.goes_cons (goes_within (omega arith) h.rel) (goes_within (omega arith) q.rel.rel);
      };
    }

-- what the other fields come from
pub record OthersAre (form : SpreadForm) (x : Walk (List Value)) (final : Stored) (ps : List Frame) (m m' : Mark)
    (o : RecordSpread) : Type 0 where
  pub form_is : others_form o ≡ form
  pub rel : Goes (base_of m) m'.nodes others x final ps o

pub record RecordIs (names : List Name) (form : SpreadForm) (x y : Walk (List Value)) (final : Stored) (ps : List Frame) (m m' : Mark)
    (r : StoredFields) : Type 0 where
  pub names_are : map (λ f. f.name) r.0 ≡ names
  pub form_is : others_form r.1 ≡ form
  pub fields : Goes (base_of m) m'.nodes many x final ps (map (λ f. f.expr) r.0)
  pub rest : Goes (base_of m) m'.nodes others y final ps r.1

pub contents_fine : {names : List Name} {form : SpreadForm} {x y : Walk (List Value)} {p : Lowering (List RecordLitField)}
    {q : Lowering RecordSpread} → Correct p (Pushed [] (FieldsAre names x)) → Correct q (OthersAre form y)
    → Correct (record_contents p q) (RecordIs names form x y)
unfolding record_contents
contents_fine {names = names} {form = form} {x = x} {y = y} hp hq =
    correct_as (correct_bind hp (λ fs. correct_bind hq (λ s. correct_pure (fs, s))))
    (λ final ps m m' r g row. let s = row.second in let f = row.first in
    rw s.second.is (record {
      names_are = ap (map (λ f. f.name)) f.is ∙ f.rel.names_are;
      form_is = s.first.form_is;
      fields = subst (λ k. Goes (base_of m) m'.nodes many x final ps (map (λ f. f.expr) k)) (sym f.is)
          (goes_within (omega arith) f.rel.rel);
      rest = goes_within (omega arith) s.first.rel;
    }))

module _ (at : Pointer) (names : List Name) (form : SpreadForm) where
  -- of this record, whose fields have these names
  abbrev record_walk : PathData → List Name → SpreadForm → Walk (List Value) → Walk (List Value) → Walk Value
  record_walk d ns s x y fuel ss =
      x fuel ss >>= (λ vs. y fuel ss >>= (λ ws. ask (made_record d ns s) (vs ++ ws) (Some (site_of at))))

  goes_record : {base : Base} {m m' : Mark} {final : Stored} {ps qs : List Frame} {i : ExprId} {x y : Walk (List Value)} (p : Path)
      (r : StoredFields) → map (λ f. f.name) r.0 ≡ names → others_form r.1 ≡ form
      → Goes base m.nodes many x final ps (map (λ f. f.expr) r.0) → Goes base m.nodes others y final ps r.1
      → Allocated (hir.RecordLit p r.0 r.1) (Some at) final qs m m' i
      → Goes base m'.nodes one (record_walk (path_in final p) names form x y) final ps i
  goes_record {base = base} {m' = m'} {final = final} {ps = ps} {i = i} {x = x} {y = y} p r e e' h k a =
      subst (λ s. Goes base m'.nodes one (record_walk (path_in final p) names s x y) final ps i) e'
      (subst (λ ns. Goes base m'.nodes one (record_walk (path_in final p) ns (others_form r.1) x y) final ps i) e (goes_at a
      (λ fuel d le f. same_bind (h.same fuel d le f) (λ vs. same_bind (k.same fuel d le f)
      (λ ws. same_ask (made_record (path_in final p) (map (λ f. f.name) r.0) (others_form r.1)) (vs ++ ws) (Some (site_of at)))))
      (λ d le. (h.jumps d le, k.jumps d le))))

  -- where the path became this
  abbrev of_path : Option Path → Walk (List Value) → Walk (List Value) → Rel ExprId
  of_path o x y final ps m m' i =
      Goes (base_of m) m'.nodes one (λ fuel ss. run_record (option_map (path_in final) o) names form (x fuel ss) (y fuel ss)
      (Some (site_of at))) final ps i

  record_of_fine : {x y : Walk (List Value)} {c : Lowering StoredFields} → Correct c (RecordIs names form x y) → (o : Option Path)
      → Correct (record_of at c o) (of_path o x y)
  record_of_fine h None = missing_fine
  record_of_fine h (Some p) = correct_as (correct_bind h (λ r. correct_alloc (hir.RecordLit p r.0 r.1) (Some at)))
      (λ final ps m m' i g row. let c = row.first in
      goes_record p row.one c.names_are c.form_is (goes_within (omega arith) c.fields) (goes_within (omega arith) c.rest) row.second)

  pub record_fine : (p : OptionPath) {x y : Walk (List Value)} {c : Lowering StoredFields} → Correct c (RecordIs names form x y)
      → Correct (record_form at (lower_path p) c)
      (Runs one (λ fuel ss. run_record (written_path p) names form (x fuel ss) (y fuel ss) (Some (site_of at))))
  unfolding record_form
  record_fine p {x = x} {y = y} h = correct_as (correct_bind (path_now p) (λ o. record_of_fine h o))
      (λ final ps m m' i g row.
      subst (λ d. Goes (base_of m) m'.nodes one (λ fuel ss. run_record d names form (x fuel ss) (y fuel ss)
      (Some (site_of at))) final ps i)
      row.first.is (goes_within (omega arith) row.second))
