-- Paths that are aliases in arguments.
use Rattle.std.proofs.Common.{arith, ◌≡◌, ◌∙◌, refl, sym, ap, ℕ, Bool, List, Option, Some, None, Ok, Err}
use Rattle.hir_syntax.specs.declared.ast.Path.{Path as AstPath}
use Rattle.hir_store.specs.declared.path.Path.{Path as HirPath}
use Rattle.hir_store.specs.declared.path.GenericArgs.{GenericArgs}
use Rattle.hir_store.specs.declared.error.StoreError.{StoreError}
use Rattle.hir_store.specs.Range.{Grows, HasPathOption}
use Rattle.hir_env.specs.ResolvedTree as tree
use Rattle.hir_env.specs.ResolvedTree.{Path}
use Rattle.hir_env.specs.Paths.{alias_or_none}
use Rattle.hir_env.specs.ResolveCtx.{ResolveCtx}
use Rattle.hir_env.specs.Whole.{resolved_path}
use Rattle.hir_env.proofs.Aliases.{resolved_alias}
use Rattle.hir_lower_builder.specs.Builder.{Builder}
use Rattle.hir_lower_builder.specs.Generics.{cut_args}
use Rattle.hir_lower_builder.specs.Lowering.{Checked, Lowering, go_on, ◌>>=◌, ◌>>◌, pure, Lowers, input_end, track_down, with_stored}
use Rattle.hir_lower_builder.specs.Lower.{lower_path, read_path}
use Rattle.hir_lower_builder.specs.Paths.{with_alias, alias_of, cut_back, cut_where, cut_with, last_args, path_cut}
use Rattle.hir_lower_builder.specs.Methods.{LowersPath, ReadsPath}
use Rattle.hir_lower_builder.specs.Walks.{names_read, path_read, start}
use Rattle.hir_lower_builder.specs.declared.walk.Reading.{Reading}
use Rattle.hir_lower_builder.proofs.PathNames.{reading_names}

-- where no arguments stand beside the last name nothing is cut
pub no_cut : (mark : ℕ) (a : Option (List Bool)) (p : HirPath) (b : Builder) → last_args p ≡ None
    → cut_where mark a (Some p) b ≡ (Ok tt, b)
unfolding cut_back with_stored track_down
no_cut mark None p b h = refl
no_cut mark (Some places) p b h =
    ap (λ o. (Ok tt, record b { tracks = cut_args mark places b.stored.lifetimes.entries o b.tracks })) h

pub cut_found : (mark : ℕ) (places : List Bool) (p : HirPath) (a : GenericArgs) → last_args p ≡ Some a
    → cut_back mark places (Some p) ≡ cut_with mark places a
unfolding cut_back
cut_found mark places p a h = ap (λ o. with_stored (λ s. track_down (cut_args mark places s.lifetimes.entries o))) h

-- a path is cut once it is read

abbrev whole : Lowering Reading → Lowering (Option HirPath)
whole read = read >>= (λ r. pure (path_read r))

cut_after : (places : List Bool) (mark : ℕ) (q : Checked Reading) (b : Builder)
    → let o = go_on q b (λ r. pure (path_read r)) in
    go_on o.0 o.1 (λ p. cut_back mark places p >> pure p) ≡ go_on q b (λ r. path_cut mark (Some places) (path_read r))
cut_after places mark (Ok r) b = refl
cut_after places mark (Err e) b = refl

uncut : (mark : ℕ) (q : Checked Reading) (b : Builder)
    → go_on q b (λ r. pure (path_read r)) ≡ go_on q b (λ r. path_cut mark None (path_read r))
uncut mark (Ok r) b = refl
uncut mark (Err e) b = refl

read_then : (a : Option (List Bool)) (read : Lowering Reading) (mark : ℕ) (old : Builder) → input_end old ≡ (Ok mark, old)
    → with_alias a (whole read) old ≡ go_on (read old).0 (read old).1 (λ r. path_cut mark a (path_read r))
read_then None read mark old h = uncut mark (read old).0 (read old).1
read_then (Some places) read mark old h =
    ap (λ o. go_on o.0 o.1 (λ m. whole read >>= (λ p. cut_back m places p >> pure p))) h
    ∙ cut_after places mark (read old).0 (read old).1

grown : (old mid new : Builder) → Grows old.stored mid.stored → Grows mid.stored new.stored → Grows old.stored new.stored
grown old mid new a b = grind (arith)

module _ (at : ResolveCtx) (x : AstPath) (old mid : Builder) (mark : ℕ) (m : input_end old ≡ (Ok mark, old)) where
  abbrev y : Path
  y = resolved_path at x

  -- what is answered of the names that are read
  abbrev of_names : Reading → Option (List Bool)
  of_names r = alias_or_none at.answers at.place (names_read (path_read r))

  named_so : (r : Reading) → read_path y start old ≡ (Ok r, mid) → of_names r ≡ alias_of y
  named_so r h = ap (alias_or_none at.answers at.place) (reading_names y old mid r h) ∙ sym (resolved_alias at x)

  then_cut : (r : Reading) → read_path y start old ≡ (Ok r, mid)
      → lower_path (tree.some_path y) old ≡ path_cut mark (of_names r) (path_read r) mid
  then_cut r h =
      read_then (alias_of y) (read_path y start) mark old m
      ∙ (ap (λ o. go_on o.0 o.1 (λ q. path_cut mark (alias_of y) (path_read q))) h
      ∙ ap (λ a. path_cut mark a (path_read r) mid) (sym (named_so r h)))

  pub path_lowers : (new : Builder) (r : Reading) (p : Checked (Option HirPath)) → ReadsPath y start old (Ok r) mid
      → Lowers HasPathOption (path_cut mark (of_names r) (path_read r)) mid p new
      → LowersPath (tree.some_path y) old p new
  path_lowers new r (Ok p) h k = (then_cut r h.0 ∙ k.0, grown old mid new h.1 k.1, k.2)
  path_lowers new r (Err e) h k = λ n. (then_cut r h.0 ∙ (k n).0, (k n).1)

  pub reading_fails : (e : StoreError) → ReadsPath y start old (Err e) mid → LowersPath (tree.some_path y) old (Err e) mid
  reading_fails e h = λ n. (
    read_then (alias_of y) (read_path y start) mark old m
        ∙ ap (λ o. go_on o.0 o.1 (λ q. path_cut mark (alias_of y) (path_read q))) (h n).0,
    (h n).1,
  )
