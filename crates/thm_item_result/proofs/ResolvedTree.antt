-- What lowering an item answers, read in the whole store.
use Rattle.std.proofs.Common.{ap, ◌+◌, length}
use Rattle.spec_data.specs.Reading.{stored_option_type, stored_type}
use Rattle.spec_semantics.specs.Inner.{type_inner_bodies}
use Rattle.thm_logic.proofs.Frames.{frames, ribs_frames}
use Rattle.thm_type_result.proofs.Meaning.{held_whole, in_frames}
use Rattle.thm_item_result.specs.Answers.{AliasesRead, FunctionsRead, ImplsRead}
use Rattle.thm_item_result.proofs.Held.{alias_holds, function_holds, impl_holds}
use Rattle.thm_item_result.proofs.ReadsBack.{alias_reads, function_reads, impl_reads}

pub impls_read : ImplsRead
unfolding stored_type type_inner_bodies
impls_read def x b c a paired is later stays =
    let row = in_frames (impl_reads def x) (frames b.scopes) b c a (ribs_frames b.scopes) paired is later stays in
    let held = in_frames (impl_holds def x) (frames b.scopes) b c a (ribs_frames b.scopes) paired is later stays in
    let e = row.rel.is (length later.types.entries + length later.pats.entries) row.entries in record {
      self_reads = ap (λ z. z.0) e;
      trait_reads = ap (λ z. z.1) e;
      bodies = held_whole held;
    }

pub aliases_read : AliasesRead
unfolding stored_option_type type_inner_bodies
aliases_read def x b c a paired is later stays =
    let row = in_frames (alias_reads def x) (frames b.scopes) b c a (ribs_frames b.scopes) paired is later stays in
    let held = in_frames (alias_holds def x) (frames b.scopes) b c a (ribs_frames b.scopes) paired is later stays in
    let e = row.rel.is (length later.types.entries + length later.pats.entries) row.entries in record {
      bounds_read = ap (λ z. z.0) e;
      type_reads = ap (λ z. z.1) e;
      bodies = held_whole held;
    }

pub functions_read : FunctionsRead
unfolding stored_option_type type_inner_bodies
functions_read def x b c a paired is later stays =
    let row = in_frames (function_reads def x) (frames b.scopes) b c a (ribs_frames b.scopes) paired is later stays in
    let held = in_frames (function_holds def x) (frames b.scopes) b c a (ribs_frames b.scopes) paired is later stays in
    let e = row.rel.is (length later.types.entries + length later.pats.entries) row.entries in record {
      args_read = ap (λ z. z.0) e;
      ret_reads = ap (λ z. z.1) e;
      has_self = ap (λ z. z.2) e;
      has_variadic = ap (λ z. z.3) e;
      bodies = held_whole held;
    }
