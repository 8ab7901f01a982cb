-- Which patterns are plain names or `_`.
use Rattle.std.proofs.Common.{◌≡◌, ◌∙◌, ap, refl, Bool, true, false, if◌then◌else◌, ℕ, zero, suc, ◌<◌, Option, Some, None, Ok, arith}
use Rattle.hir_syntax.specs.declared.macros.Fragment.TheVariants as fragment
use Rattle.hir_syntax.specs.declared.macros.MacroCall.{MacroCall as AstMacroCall}
use Rattle.hir_syntax.specs.declared.ast.ElseBranch.TheOpen.{PatKind-F}
use Rattle.hir_syntax.specs.declared.ast.Name.{Name as AstName}
use Rattle.hir_syntax.specs.declared.pats.Pat.{Pat as AstPat}
use Rattle.hir_syntax.specs.declared.pats.PatKind.{out-PatKind}
use Rattle.hir_store.specs.Names.{IsWritten}
use Rattle.hir_store.specs.Pointers.{Pointer}
use Rattle.hir_env.specs.ResolvedTree as tree
use Rattle.hir_env.specs.ResolvedTree.{Pat, Signed, Use}
use Rattle.hir_env.specs.Answering.{name_written}
use Rattle.hir_env.specs.Answers.{Expanding, expanded, no_expansion, unresolved}
use Rattle.hir_env.specs.Calls.{asked_call, call_pointer, called, entered_pat, inside_file, pat_in}
use Rattle.hir_env.specs.declared.expand.FragmentKind.TheVariants as kind
use Rattle.hir_env.specs.declared.ctx.LowerCtx.{LowerCtx}
use Rattle.hir_env.specs.PatLayers.{PatKindLayer}
use Rattle.hir_env.specs.Pats.{is_found, minus_fits, name_or_bind, pat_at, use_at}
use Rattle.hir_env.specs.ResolveCtx.{ResolveCtx}
use Rattle.hir_env.specs.TypePats.{bare_pat, is_plain, plain_or_barred}
use Rattle.hir_env.specs.Whole.{resolved_pat, entering, into, pointer_at, reader, written}
use Rattle.hir_env.proofs.PatLevels.{pat_is_level}
use Rattle.hir_store.specs.declared.ids.PatId.{PatId}
use Rattle.hir_lower_builder.specs.Builder.{Builder}
use Rattle.hir_lower_builder.specs.Calls.{Found, enter_left, entered_at, found_in, track, emitted}
use Rattle.hir_lower_builder.specs.Lower.{lower_pat}
use Rattle.hir_lower_builder.specs.Lowering.{Lowering, ◌>>=◌, ◌>>◌, pure}
use Rattle.hir_lower_builder.specs.Pats.{Table, called_pat_form}
use Rattle.hir_lower_pat.specs.Bare.{Bare, bare_as, bare_kind, bare_there, barred, plain_name, uncalled, wild}
use Rattle.hir_lower_pat.specs.Bare as bare
use Rattle.hir_lower_pat.specs.Calls.{pat_there, point_named, written_call}
use Rattle.hir_lower_pat.proofs.CallLemmas.{found_on, fresh, named, was_entered}

plain_binds : (b : Bool) (s : Pointer) (u : Use) (w : IsWritten u.name) → is_plain u tree.no_pat ≡ true
    → bare_pat (name_or_bind b s u w tree.no_pat) ≡ tree.bind_pat s u w tree.no_pat
plain_binds true s u w h = refl
plain_binds false s u w h = ap (λ b. plain_or_barred b s u w) h

module _ (at : ResolveCtx) (s : Pointer) where
  abbrev level : PatKindLayer written → Pat
  level k = pat_at at.answers (reader at.answers (into at)) k at.place s

  abbrev read_as : Bare → Pat
  read_as wild = tree.leaf_pat s tree.wild_leaf
  read_as (plain_name n) = tree.bind_pat s (use_at at.answers at.place n false false) (name_written n) tree.no_pat
  read_as uncalled = tree.macro_pat s tree.callless tree.no_pat
  read_as (bare.called c) = bare_pat (written_call at s c)
  read_as barred = tree.barred_pat s

  abbrev Reads : PatKindLayer written → Type 0
  Reads k = bare_pat (level k) ≡ read_as (bare_kind k)

  ident_reads : (n : Option AstName) (is_ref is_mut : Bool) (p : Option AstPat) → Reads (PatKind-F.IdentPat n is_ref is_mut p)
  ident_reads n false false None =
      let u = use_at at.answers at.place n false false in plain_binds (is_found at.answers at.place u.name) s u (name_written n) refl
  ident_reads n false false (Some x) = refl
  ident_reads n false true None = refl
  ident_reads n false true (Some x) = refl
  ident_reads n true false None = refl
  ident_reads n true false (Some x) = refl
  ident_reads n true true None = refl
  ident_reads n true true (Some x) = refl

  -- a literal whose minus fits, and one that is missing
  literal_reads : (fits : Bool) (own : Option Pointer) (l : Signed)
      → bare_pat (if fits then tree.literal_pat s own l else tree.leaf_pat s tree.broken_leaf) ≡ tree.barred_pat s
  literal_reads true own l = refl
  literal_reads false own l = refl

  kind_reads : (k : PatKindLayer written) → Reads k
  kind_reads (PatKind-F.IdentPat n is_ref is_mut p) = ident_reads n is_ref is_mut p
  kind_reads (PatKind-F.TupleStructPat x comma ps) = refl
  kind_reads (PatKind-F.TuplePat comma ps) = refl
  kind_reads (PatKind-F.RefPat is_mut p) = refl
  kind_reads (PatKind-F.PathPat x) = refl
  kind_reads (PatKind-F.OrPat ps) = refl
  kind_reads (PatKind-F.ParenPat p) = refl
  kind_reads (PatKind-F.MacroPat None) = refl
  kind_reads (PatKind-F.MacroPat (Some c)) = refl
  kind_reads (PatKind-F.BoxPat p) = refl
  kind_reads (PatKind-F.DerefPat p) = refl
  kind_reads (PatKind-F.RecordPat x fs dots) = refl
  kind_reads (PatKind-F.SlicePat ps p qs) = refl
  kind_reads (PatKind-F.LiteralPat None minus) = refl
  kind_reads (PatKind-F.LiteralPat (Some l) minus) = literal_reads (minus_fits minus l.literal.lit) _ _
  kind_reads (PatKind-F.RangePat o low high) = refl
  kind_reads (PatKind-F.CfgPredPat pred) = refl
  kind_reads PatKind-F.WildcardPat = refl
  kind_reads PatKind-F.RestPat = refl
  kind_reads PatKind-F.NotNullPat = refl
  kind_reads PatKind-F.ConstBlockPat = refl

-- what a pattern gives where only a plain name or `_` may stand
pub bare_is : (at : ResolveCtx) (p : AstPat) → bare_pat (resolved_pat at p) ≡ bare_as at p (bare_kind (out-PatKind p.kind))
bare_is at p =
    let k = out-PatKind p.kind in
    let s = pointer_at at p.id p.range in
    ap bare_pat (pat_is_level at p) ∙ kind_reads at s k ∙ as_read at p (bare_kind k)
  where
    as_read : (at : ResolveCtx) (p : AstPat) (b : Bare) → read_as at (pointer_at at p.id p.range) b ≡ bare_as at p b
    as_read at p wild = refl
    as_read at p (plain_name n) = refl
    as_read at p uncalled = refl
    as_read at p (bare.called c) = refl
    as_read at p barred = refl

-- a call is what is told of it, and then what it stands for

abbrev there : ResolveCtx → Pointer → Table → Found → Lowering (PatId × Table)
there at s t f = bare_there at (pat_there f) t >>= point_named s

called_by : (at : ResolveCtx) (s c : Pointer) (t : Table) (n : ℕ) (x : Expanding) (b : Builder)
    → lower_pat (bare_pat (tree.macro_pat s (called c x) (pat_in (fresh at.answers n) at.place x))) t b
    ≡ ((emitted (called c x) >> pure (found_in n at.place x)) >>= there at s t) b
unfolding called_pat_form
called_by at s c t n (unresolved y) b =
    let o = emitted (tree.unresolved c y) b in named s t o.0 o.1 ∙ found_on o.0 o.1 None (there at s t) _ refl
called_by at s c t n no_expansion b = named s t (Ok tt) b ∙ found_on (Ok tt) b None (there at s t) _ refl
called_by at s c t n (expanded f None es) b =
    let o = track (record { call = c; file = f; eager = es }) b in
    named s t o.0 o.1 ∙ found_on o.0 o.1 (Some (inside_file f n at.place, None)) (there at s t) _ refl
called_by at s c t n (expanded f (Some (fragment.Expr e)) es) b =
    let o = track (record { call = c; file = f; eager = es }) b in
    named s t o.0 o.1 ∙ found_on o.0 o.1 (Some (inside_file f n at.place, Some (fragment.Expr e))) (there at s t) _ refl
called_by at s c t n (expanded f (Some (fragment.Stmts e)) es) b =
    let o = track (record { call = c; file = f; eager = es }) b in
    named s t o.0 o.1 ∙ found_on o.0 o.1 (Some (inside_file f n at.place, Some (fragment.Stmts e))) (there at s t) _ refl
called_by at s c t n (expanded f (Some (fragment.Type_ e)) es) b =
    let o = track (record { call = c; file = f; eager = es }) b in
    named s t o.0 o.1 ∙ found_on o.0 o.1 (Some (inside_file f n at.place, Some (fragment.Type_ e))) (there at s t) _ refl
called_by at s c t n (expanded f (Some (fragment.Pat e)) es) b =
    let o = track (record { call = c; file = f; eager = es }) b in
    found_on o.0 o.1 (Some (inside_file f n at.place, Some (fragment.Pat e))) (there at s t) _ refl

pub bare_on : (at : ResolveCtx) (s : Pointer) (c : AstMacroCall) (t : Table) (b : Builder)
    → lower_pat (bare_pat (written_call at s c)) t b
    ≡ (entered_at at kind.Pat c >>= (λ f. bare_there at (pat_there f) t >>= point_named s)) b
unfolding called_pat_form
bare_on at s c t b = by at.place.left
  where
    by : (l : ℕ) → lower_pat (bare_pat (entered_pat at.answers (entering at.answers l) c at.place s)) t b
        ≡ (enter_left at.answers kind.Pat c l at.place >>= there at s t) b
    by zero = named s t (Ok tt) b
    by (suc n) = called_by at s (call_pointer at.place c) t n (asked_call at.answers kind.Pat c at.place) b

-- fewer calls may be entered where it is read what one stands for
pub less_left : (at : ResolveCtx) (c : AstMacroCall) (b d : Builder) (found : Found) → entered_at at kind.Pat c b ≡ (Ok found, d)
    → (q : LowerCtx) (e : AstPat) → pat_there found ≡ Some (q, e) → q.left < at.place.left
less_left at c = was_entered at c (λ q e. q.left < at.place.left) (λ n f e es left asked. omega (arith, left))
