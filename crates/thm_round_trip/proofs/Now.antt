-- What is answered, read in the whole store.
use Rattle.std.proofs.Common.{◌≡◌, refl, ap, subst, ℕ, ◌+◌, ◌≤◌, length, List, Option, Some, None, option_map, Ok}
use Rattle.hir_store.specs.Stored.{Stored, store_of, map_of}
use Rattle.hir_store.specs.StoreSink.{Extends}
use Rattle.hir_store.specs.declared.ids.PatId.{PatId}
use Rattle.hir_store.specs.declared.ids.TypeRefId.{TypeRefId}
use Rattle.hir_store.specs.declared.path.GenericArgs.{GenericArgs}
use Rattle.hir_store.specs.declared.path.Path.{Path as HirPath}
use Rattle.hir_env.specs.ResolvedTree.{OptionType, OptionPath, OptionArgs, OptionPat, Target}
use Rattle.hir_lower_builder.specs.Builder.{Builder}
use Rattle.hir_lower_builder.specs.Lowering.{Lowering}
use Rattle.hir_lower_builder.specs.Lower.{type_part, present_type, lower_path, args_part, lower_top, lower_target}
use Rattle.thm_logic.specs.Keeps.{Paired}
use Rattle.thm_logic.proofs.Frames.{Frame, frames, ribs_frames}
use Rattle.thm_logic.proofs.Steps.{Mark, mark, Rel, Holds, Correct, correct_as, correct_in_store}
use Rattle.spec_data.specs.Data.{TypeData, OptionTypeData, PathData, OptionArgsData}
use Rattle.spec_data.specs.Rule.{PathRead, data_of}
use Rattle.spec_data.specs.Written.{written_type, written_option_type, written_path, written_args, path_of}
use Rattle.spec_data.specs.Patterns.{written_pat}
use Rattle.spec_data.specs.Reading.{stored_type, stored_option_type, stored_path, stored_args, stored_pat}
use Rattle.spec_data.specs.Targets.{target_data}
use Rattle.thm_round_trip.proofs.Walk.{Answers, matches_read}
use Rattle.thm_round_trip.proofs.Tree.{part_reads, present_reads, path_reads, list_reads}
use Rattle.thm_round_trip.proofs.PatTree.{top_now}
use Rattle.thm_round_trip.proofs.Targets.{target_now}

pub record TypeNow (x : TypeData) (final : Stored) (ps : List Frame) (m m' : Mark) (i : TypeRefId) : Type 0 where
  pub is : stored_type (store_of final) (map_of final) i ≡ x

pub type_now : (t : OptionType) → Correct (type_part None t) (TypeNow (written_type t))
unfolding stored_type
type_now t = correct_as (correct_in_store (part_reads None t))
    (λ final ps m m' i g row. record { is = row.rel.is (length final.types.entries + length final.pats.entries) row.entries })

-- of one that may stay absent
pub record OptionTypeNow (x : OptionTypeData) (final : Stored) (ps : List Frame) (m m' : Mark) (t : Option TypeRefId) : Type 0 where
  pub is : stored_option_type (store_of final) (map_of final) t ≡ x

pub option_type_now : (t : OptionType) → Correct (present_type t) (OptionTypeNow (written_option_type t))
unfolding stored_option_type
option_type_now t = correct_as (correct_in_store (present_reads t))
    (λ final ps m m' r g row. record { is = row.rel.is (length final.types.entries + length final.pats.entries) row.entries })

pub record ArgsNow (x : OptionArgsData) (final : Stored) (ps : List Frame) (m m' : Mark) (a : Option GenericArgs) : Type 0 where
  pub is : stored_args (store_of final) (map_of final) a ≡ x

pub args_now : (a : OptionArgs) → Correct (args_part a) (ArgsNow (written_args a))
unfolding stored_args
args_now a = correct_as (correct_in_store (list_reads a))
    (λ final ps m m' r g row. record { is = row.rel.is (length final.types.entries + length final.pats.entries) row.entries })

-- on both sides nothing, or a path with this data
pub record PathNow (y : Option PathData) (final : Stored) (ps : List Frame) (m m' : Mark) (o : Option HirPath) : Type 0 where
  pub is : option_map (stored_path (store_of final) (map_of final)) o ≡ y

pub path_now : (p : OptionPath) → Correct (lower_path p) (PathNow (written_path p))
unfolding stored_path
path_now p = correct_as (correct_in_store (path_reads p))
    (λ final ps m m' o g row. record { is = go final m'.entries (path_of p) o row.rel.is row.entries })
  where
    go : (final : Stored) (n : ℕ) (y : Option PathRead) (o : Option HirPath) → Answers final n y o
        → n ≤ length final.types.entries + length final.pats.entries
        → option_map (stored_path (store_of final) (map_of final)) o ≡ option_map data_of y
    go final n None None h le = refl
    go final n None (Some p) h le = absurd h
    go final n (Some x) None h le = absurd h
    go final n (Some x) (Some p) h le = ap Some (matches_read final n x p h (length final.types.entries + length final.pats.entries) le)

-- theorems

-- what a step that is correct answers
pub answered : {A : Type 0} {p : Lowering A} {R : Rel A} → Correct p R → (o o' : Builder) (a : A) → Paired o.stored → p o ≡ (Ok a, o')
    → (final : Stored) → Extends o'.stored final → R final (frames o.scopes) (mark o) (mark o') a
answered {R = R} h o o' a d e final x =
    let ps = frames o.scopes in
    let held : Holds R final ps o (Ok a) o' = subst (λ r. Holds R final ps o r.0 r.1) e (h.holds final ps o (ribs_frames o.scopes)) in
    held.in_final d x

pub path_theorem : (p : OptionPath) (o o' : Builder) (r : Option HirPath) → Paired o.stored → lower_path p o ≡ (Ok r, o')
    → (final : Stored) → Extends o'.stored final → option_map (stored_path (store_of final) (map_of final)) r ≡ written_path p
path_theorem p o o' r d e final x = (answered (path_now p) o o' r d e final x).is

pub type_theorem : (t : OptionType) (o o' : Builder) (i : TypeRefId) → Paired o.stored → type_part None t o ≡ (Ok i, o')
    → (final : Stored) → Extends o'.stored final → stored_type (store_of final) (map_of final) i ≡ written_type t
type_theorem t o o' i d e final x = (answered (type_now t) o o' i d e final x).is

pub args_theorem : (a : OptionArgs) (o o' : Builder) (r : Option GenericArgs) → Paired o.stored → args_part a o ≡ (Ok r, o')
    → (final : Stored) → Extends o'.stored final → stored_args (store_of final) (map_of final) r ≡ written_args a
args_theorem a o o' r d e final x = (answered (args_now a) o o' r d e final x).is

pub pat_theorem : (p : OptionPat) (o o' : Builder) (i : PatId) → Paired o.stored → lower_top p o ≡ (Ok i, o')
    → (final : Stored) → Extends o'.stored final → stored_pat (store_of final) (map_of final) i ≡ written_pat p
pat_theorem p o o' i d e final x = (answered (top_now p) o o' i d e final x).is

pub target_theorem : (t : Target) (o o' : Builder) (i : PatId) → Paired o.stored → lower_target t o ≡ (Ok i, o')
    → (final : Stored) → Extends o'.stored final → stored_pat (store_of final) (map_of final) i ≡ target_data t
target_theorem t o o' i d e final x = (answered (target_now t) o o' i d e final x).is
