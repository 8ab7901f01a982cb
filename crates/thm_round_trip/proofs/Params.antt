-- The parameters of a closure read back as what is written.
use Rattle.std.proofs.Common.{◌≡◌, refl, sym, ap, subst, ◌∙◌, map, List, [], ◌∷◌, ◌++◌, Option, append-nil, append_assoc}
use Rattle.hir_store.specs.Stored.{Stored, store_of, map_of}
use Rattle.hir_store.specs.declared.ids.PatId.{PatId}
use Rattle.hir_store.specs.declared.ids.TypeRefId.{TypeRefId}
use Rattle.hir_env.specs.ResolvedTree as tree
use Rattle.hir_env.specs.ResolvedTree.{Params}
use Rattle.hir_lower_builder.specs.declared.closures.ClosureParams.{ClosureParams}
use Rattle.hir_lower_builder.specs.Forms.{add_param}
use Rattle.hir_lower_builder.specs.Lower.{lower_params, param_form}
use Rattle.hir_lower_builder.specs.Lowering.{Lowering}
use Rattle.thm_logic.proofs.Frames.{Frame}
use Rattle.thm_logic.proofs.Steps.{Mark, Correct, correct_as, correct_bind, correct_pure, correct_report}
use Rattle.spec_data.specs.Closures.{params_types}
use Rattle.spec_data.specs.Data.{OptionTypeData, PatData}
use Rattle.spec_data.specs.Patterns.{written_pat}
use Rattle.spec_data.specs.Reading.{stored_option_type, stored_pat}
use Rattle.spec_data.specs.Tops.{params_tops}
use Rattle.spec_data.specs.Written.{written_option_type}
use Rattle.thm_round_trip.proofs.Now.{OptionTypeNow, option_type_now}
use Rattle.thm_round_trip.proofs.PatTree.{PatNow, top_now}

-- lists

map_push : {A B : Type 0} (f : A → B) (xs : List A) (a : A) → map f (xs ++ a ∷ []) ≡ map f xs ++ f a ∷ []
map_push f [] a = refl
map_push f (x ∷ xs) a = ap (λ t. f x ∷ t) (map_push f xs a)

-- one more, and then the others
pushed : {A B : Type 0} (f : A → B) (xs : List A) (a : A) (y : B) (zs : List A) (more : List B) → f a ≡ y
    → map f zs ≡ map f (xs ++ a ∷ []) ++ more → map f zs ≡ map f xs ++ y ∷ more
pushed f xs a y zs more e h =
    h ∙ (ap (λ t. t ++ more) (map_push f xs a ∙ ap (λ z. map f xs ++ z ∷ []) e) ∙ append_assoc (map f xs) (y ∷ []) more)

-- parameters

-- one with this pattern and this type
record ParamNow (l : ClosureParams) (x : PatData) (y : OptionTypeData) (final : Stored) (ps : List Frame) (m m' : Mark) (l' : ClosureParams)
    : Type 0 where
  pattern : PatId
  type_ref : Option TypeRefId
  is : l' ≡ add_param l pattern type_ref
  reads : stored_pat (store_of final) (map_of final) pattern ≡ x
  typed : stored_option_type (store_of final) (map_of final) type_ref ≡ y

param_now : (l : ClosureParams) {p : Lowering PatId} {t : Lowering (Option TypeRefId)} {x : PatData} {y : OptionTypeData}
    → Correct p (PatNow x) → Correct t (OptionTypeNow y) → Correct (param_form l p t) (ParamNow l x y)
unfolding param_form
param_now l hp ht = correct_as (correct_bind hp (λ p. correct_bind ht (λ t. correct_pure (add_param l p t))))
    (λ final ps m m' l' g row. record {
      pattern = row.one;
      type_ref = row.second.one;
      is = row.second.second.is;
      reads = row.first.is;
      typed = row.second.first.is;
    })

abbrev pub pats_in : Stored → List PatId → List PatData
pats_in s is = map (λ p. stored_pat (store_of s) (map_of s) p) is

abbrev pub types_in : Stored → List (Option TypeRefId) → List OptionTypeData
types_in s is = map (λ t. stored_option_type (store_of s) (map_of s) t) is

-- those that are kept, behind others
pub record ParamsNow (l : ClosureParams) (xs : Params) (final : Stored) (ps : List Frame) (m m' : Mark) (l' : ClosureParams) : Type 0 where
  pub pats : pats_in final l'.args ≡ pats_in final l.args ++ map written_pat (params_tops xs)
  pub types : types_in final l'.arg_types ≡ types_in final l.arg_types ++ map written_option_type (params_types xs)

pub params_now : (l : ClosureParams) (xs : Params) → Correct (lower_params l xs) (ParamsNow l xs)
params_now l tree.no_params = correct_as (correct_pure l) (λ final ps m m' l' g row. rw row.is (record {
  pats = sym (append-nil _);
  types = sym (append-nil _);
}))
params_now l (tree.more_params (tree.disabled_param at by x) xs) = correct_as
    (correct_bind (correct_bind (correct_report _) (λ u. correct_pure l)) (λ m. params_now m xs))
    (λ final ps m m' l' g row.
    let rest = subst (λ k. ParamsNow k xs final ps row.middle m' l') row.first.second.is row.second in
    record { pats = rest.pats; types = rest.types })
params_now l (tree.more_params (tree.param p t) xs) = correct_as
    (correct_bind (param_now l (top_now p) (option_type_now t)) (λ m. params_now m xs))
    (λ final ps m m' l' g row.
    let one = row.first in
    let rest = subst (λ k. ParamsNow k xs final ps row.middle m' l') one.is row.second in record {
      pats = pushed (λ i. stored_pat (store_of final) (map_of final) i) l.args one.pattern (written_pat p) l'.args
          (map written_pat (params_tops xs)) one.reads rest.pats;
      types = pushed (λ i. stored_option_type (store_of final) (map_of final) i) l.arg_types one.type_ref (written_option_type t)
          l'.arg_types (map written_option_type (params_types xs)) one.typed rest.types;
    })
