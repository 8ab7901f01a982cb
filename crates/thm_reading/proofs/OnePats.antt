-- The rules of patterns and of the parameters of closures allow one tree alone, where those of other parts do, of trees that are allowed
-- by fewer rules.
use Rattle.std.proofs.Common.{◌≡◌, ◌∙◌, ◌≤◌, ℕ, refl, sym}
use Rattle.std.specs.Prelude.{List, Option, option_map}
use Rattle.hir_syntax.specs.declared.ast.Name.{Name as AstName}
use Rattle.hir_syntax.specs.declared.pats.Pat.{Pat as AstPat}
use Rattle.hir_syntax.specs.declared.pats.RecordPatField.{RecordPatField as AstRecordPatField}
use Rattle.hir_syntax.specs.declared.types.Param.{Param as AstParam}
use Rattle.hir_env.specs.ResolvedTree.{Params}
use Rattle.hir_env.specs.ResolvedTree.{OptionPat}
use Rattle.hir_env.specs.ResolvedTree.{Pat, PatField, PatFields, Pats}
use Rattle.hir_env.specs.Layers.{written}
use Rattle.hir_env.specs.Pats.{side_of}
use Rattle.hir_store.specs.Pointers.{Pointer}
use Rattle.hir_store.specs.declared.name.Name.TheVariants as name
use Rattle.hir_env.specs.ResolvedTree as tree
use Rattle.hir_env.specs.PatLayers.{PatKindLayer}
use Rattle.hir_env.specs.Paths.{mutability}
use Rattle.hir_env.specs.declared.ctx.LowerCtx.{LowerCtx}
use Rattle.thm_reading.specs.LowerCtx.{param_node}
use Rattle.thm_reading.specs.Shapes.{as_elements}
use Rattle.thm_reading.specs.Rules as rule
use Rattle.thm_reading.specs.Rules.{OptPatAs, PatsAs, PatKindAs, PatFieldsAs, PatFieldAs, PatPartAs, ParamsAs}
use Rattle.thm_reading.proofs.Alone.{bool_clash, ok_not_err, error_or, uses, one_called}
use Rattle.hir_env.specs.Answers.{Answers}
use Rattle.thm_reading.proofs.Sizes.{size_opt_pat, size_pats, size_pat_kind, size_pat_fields, size_pat_field, size_pat_part, size_params}
use Rattle.thm_reading.proofs.Below.{Below, left, less, right}

module _ (env : Answers) {n : ℕ} (below : Below env n) where
  mutual
    pub one_opt_pat : {a1 : LowerCtx} {a2 : Option AstPat} {x y : OptionPat} → (h : OptPatAs env a1 a2 x) → size_opt_pat env h ≤ n
        → OptPatAs env a1 a2 y → x ≡ y
    one_opt_pat rule.no_pat _ rule.no_pat = refl
    one_opt_pat (rule.some_pat h1) e (rule.some_pat k1) = λ i. tree.some_pat (one_pat_kind h1 (less e) k1 i)

    pub one_pats : {a1 : LowerCtx} {a2 : List AstPat} {x y : Pats} → (h : PatsAs env a1 a2 x) → size_pats env h ≤ n → PatsAs env a1 a2 y
        → x ≡ y
    one_pats rule.no_pats _ rule.no_pats = refl
    one_pats (rule.more_pats h1 h2) e (rule.more_pats k1 k2) =
        λ i. tree.more_pats (one_pat_kind h1 (less (left _ e)) k1 i) (one_pats h2 (less (right _ e)) k2 i)

    pub one_pat_kind : {a1 : LowerCtx} {a2 : Pointer} {a3 : PatKindLayer written} {x y : Pat} → (h : PatKindAs env a1 a2 a3 x)
        → size_pat_kind env h ≤ n → PatKindAs env a1 a2 a3 y → x ≡ y
    one_pat_kind (rule.value_pat {s = s} {w = w} _ h2) _ (rule.value_pat {w = v} _ k2) =
        λ i. tree.name_pat s (uses w v h2 k2 i).0 (uses w v h2 k2 i).1
    one_pat_kind (rule.value_pat h _) _ (rule.plain_pat k _) = bool_clash (sym k ∙ h)
    one_pat_kind (rule.plain_pat h _) _ (rule.value_pat k _) = bool_clash (sym h ∙ k)
    one_pat_kind (rule.plain_pat {s = s} {w = w} _ h2) _ (rule.plain_pat {w = v} _ k2) =
        λ i. tree.bind_pat s (uses w v h2 k2 i).0 (uses w v h2 k2 i).1 tree.no_pat
    one_pat_kind (rule.ref_pat_of {s = s} {w = w} h1 h2) e (rule.ref_pat_of {w = v} k1 k2) =
        λ i. tree.bind_pat s (uses w v h1 k1 i).0 (uses w v h1 k1 i).1 (one_opt_pat h2 (less e) k2 i)
    one_pat_kind (rule.mut_pat {s = s} {w = w} h1 h2) e (rule.mut_pat {w = v} k1 k2) =
        λ i. tree.bind_pat s (uses w v h1 k1 i).0 (uses w v h1 k1 i).1 (one_opt_pat h2 (less e) k2 i)
    one_pat_kind (rule.sub_pat {s = s} {w = w} h1 h2) e (rule.sub_pat {w = v} k1 k2) =
        λ i. tree.bind_pat s (uses w v h1 k1 i).0 (uses w v h1 k1 i).1 (one_opt_pat h2 (less e) k2 i)
    one_pat_kind (rule.tuple_struct_pat {s = s} {c = c} h1 h2) e (rule.tuple_struct_pat k1 k2) =
        λ i. tree.tuple_struct_pat s (below.opt_path _ _ _ _ h1 (left _ e) k1 i) c (as_elements (one_pats h2 (less (right _ e)) k2 i))
    one_pat_kind (rule.tuple_pat {s = s} {c = c} h1) e (rule.tuple_pat k1) =
        λ i. tree.tuple_pat s c (as_elements (one_pats h1 (less e) k1 i))
    one_pat_kind (rule.ref_pat {s = s} {m = m} h1) e (rule.ref_pat k1) =
        λ i. tree.over_pat s (tree.ref_to (mutability m)) (one_opt_pat h1 (less e) k1 i)
    one_pat_kind (rule.path_pat {s = s} h1) e (rule.path_pat k1) = λ i. tree.path_pat s (below.opt_path _ _ _ _ h1 e k1 i)
    one_pat_kind (rule.or_pat {s = s} h1) e (rule.or_pat k1) = λ i. tree.or_pat s (one_pats h1 (less e) k1 i)
    one_pat_kind (rule.paren_pat {s = s} h1) e (rule.paren_pat k1) = λ i. tree.paren_pat s (one_opt_pat h1 (less e) k1 i)
    one_pat_kind (rule.box_pat {s = s} h1) e (rule.box_pat k1) = λ i. tree.over_pat s tree.box_of (one_opt_pat h1 (less e) k1 i)
    one_pat_kind (rule.deref_pat {s = s} h1) e (rule.deref_pat k1) = λ i. tree.over_pat s tree.deref_of (one_opt_pat h1 (less e) k1 i)
    one_pat_kind (rule.record_pat {s = s} {d = d} h1 h2) e (rule.record_pat k1 k2) =
        λ i. tree.record_pat s (below.opt_path _ _ _ _ h1 (left _ e) k1 i) (one_pat_fields h2 (less (right _ e)) k2 i) d
    one_pat_kind (rule.slice_pat {s = s} h1 h2 h3) e (rule.slice_pat k1 k2 k3) =
        λ i. tree.slice_pat s (one_pats h1 (less (left _ e)) k1 i) (one_opt_pat h2 (less (left _ (right _ e))) k2 i)
        (one_pats h3 (less (right _ (right _ e))) k3 i)
    one_pat_kind rule.lacking_literal _ rule.lacking_literal = refl
    one_pat_kind (rule.literal_pat _) _ (rule.literal_pat _) = refl
    one_pat_kind (rule.literal_pat h) _ (rule.broken_literal k) = bool_clash (sym k ∙ h)
    one_pat_kind (rule.broken_literal h) _ (rule.literal_pat k) = bool_clash (sym h ∙ k)
    one_pat_kind (rule.broken_literal _) _ (rule.broken_literal _) = refl
    one_pat_kind (rule.range_pat {s = s} {o = o} h1 h2) e (rule.range_pat k1 k2) =
        λ i. tree.range_pat s o (side_of (one_opt_pat h1 (less (left _ e)) k1 i)) (side_of (one_opt_pat h2 (less (right _ e)) k2 i))
    one_pat_kind rule.cfg_pat _ rule.cfg_pat = refl
    one_pat_kind rule.callless_pat _ rule.callless_pat = refl
    one_pat_kind (rule.called_pat {s = s} h1 h2) e (rule.called_pat k1 k2) =
        λ i. tree.macro_pat s (one_called h1 k1 i) (one_opt_pat h2 (less e) k2 i)
    one_pat_kind rule.wild_pat _ rule.wild_pat = refl
    one_pat_kind rule.rest_pat _ rule.rest_pat = refl
    one_pat_kind rule.not_null_pat _ rule.not_null_pat = refl
    one_pat_kind rule.const_block_pat _ rule.const_block_pat = refl

    pub one_pat_fields : {a1 : LowerCtx} {a2 : List AstRecordPatField} {x y : PatFields} → (h : PatFieldsAs env a1 a2 x)
        → size_pat_fields env h ≤ n → PatFieldsAs env a1 a2 y → x ≡ y
    one_pat_fields rule.no_pat_fields _ rule.no_pat_fields = refl
    one_pat_fields (rule.more_pat_fields h1 h2) e (rule.more_pat_fields k1 k2) =
        λ i. tree.more_pat_fields (one_pat_field h1 (less (left _ e)) k1 i) (one_pat_fields h2 (less (right _ e)) k2 i)

    pub one_pat_field : {a1 : LowerCtx} {a2 : Pointer} {a3 : Option AstName} {a4 : Option AstPat} {x y : PatField}
        → (h : PatFieldAs env a1 a2 a3 a4 x) → size_pat_field env h ≤ n → PatFieldAs env a1 a2 a3 a4 y → x ≡ y
    one_pat_field (rule.enabled_pat_field _ h2) e (rule.enabled_pat_field _ k2) = one_pat_part h2 (less e) k2
    one_pat_field (rule.enabled_pat_field h _) _ (rule.disabled_pat_field k _) = ok_not_err (sym h ∙ k)
    one_pat_field (rule.disabled_pat_field h _) _ (rule.enabled_pat_field k _) = ok_not_err (sym k ∙ h)
    one_pat_field (rule.disabled_pat_field {s = s} {by = by} h1 h2) e (rule.disabled_pat_field k1 k2) =
        λ i. tree.disabled_pat_field s (error_or by ((sym h1 ∙ k1) i)) (one_pat_part h2 (less e) k2 i)

    pub one_pat_part : {a1 : LowerCtx} {a2 : Pointer} {a3 : Option AstName} {a4 : Option AstPat} {x y : PatField}
        → (h : PatPartAs env a1 a2 a3 a4 x) → size_pat_part env h ≤ n → PatPartAs env a1 a2 a3 a4 y → x ≡ y
    one_pat_part rule.partless_pat_field _ rule.partless_pat_field = refl
    one_pat_part (rule.pat_field {s = s} {n = n} h1) e (rule.pat_field k1) =
        λ i. tree.pat_field s (option_map (λ m. name.Text m.t) n) (one_pat_kind h1 (less e) k1 i)

    pub one_params : {a1 : LowerCtx} {a2 : Option (List AstParam)} {x y : Params} → (h : ParamsAs env a1 a2 x) → size_params env h ≤ n
        → ParamsAs env a1 a2 y → x ≡ y
    one_params rule.without_params _ rule.without_params = refl
    one_params rule.last_param _ rule.last_param = refl
    one_params (rule.enabled_param _ h2 h3 h4) e (rule.enabled_param _ k2 k3 k4) =
        λ i. tree.more_params (tree.param (one_opt_pat h2 (less (left _ e)) k2 i) (below.opt_type _ _ _ _ h3 (left _ (right _ e)) k3 i))
        (one_params h4 (less (right _ (right _ e))) k4 i)
    one_params (rule.enabled_param h _ _ _) _ (rule.disabled_param k _ _ _) = ok_not_err (sym h ∙ k)
    one_params (rule.disabled_param h _ _ _) _ (rule.enabled_param k _ _ _) = ok_not_err (sym k ∙ h)
    one_params (rule.disabled_param {p = p} {x = x} {by = by} h1 h2 h3 h4) e (rule.disabled_param k1 k2 k3 k4) =
        λ i. tree.more_params (tree.disabled_param (param_node p x) (error_or by ((sym h1 ∙ k1) i))
        (tree.param (one_opt_pat h2 (less (left _ e)) k2 i) (below.opt_type _ _ _ _ h3 (left _ (right _ e)) k3 i)))
        (one_params h4 (less (right _ (right _ e))) k4 i)
