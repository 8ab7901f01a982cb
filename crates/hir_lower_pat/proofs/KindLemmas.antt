-- What patterns of each kind are.
use Rattle.std.proofs.Common.{◌≡◌, ◌∙◌, ap, refl, sym, subst, arith, slice_index_or, Bool, true, false, ◌&&◌, List, []}
use Rattle.std.proofs.Common.{◌∷◌, Option, Some, None}
use Rattle.std.specs.Prelude.{if◌then◌else◌, ◌≤◌, ◌-◌, drop, length, take}
use Rattle.hir_syntax.specs.declared.ast.ElseBranch.TheOpen.{PatKind-F}
use Rattle.hir_syntax.specs.declared.pats.Pat.{Pat as AstPat}
use Rattle.hir_syntax.specs.declared.ast.Path.{Path as AstPath}
use Rattle.hir_syntax.specs.declared.macros.MacroCall.{MacroCall as AstMacroCall}
use Rattle.hir_base.specs.declared.node.PredId.{PredId}
use Rattle.hir_syntax.specs.declared.pats.PatKind.{PatKind as AstPatKind, out-PatKind, roll-PatKind, roll-out-PatKind}
use Rattle.hir_syntax.specs.declared.pats.PatKind.TheVariants as kind
use Rattle.hir_syntax.specs.declared.pats.PatLiteral.{PatLiteral}
use Rattle.hir_base.specs.declared.op.RangeOp.{RangeOp}
use Rattle.hir_store.specs.Names.{IsWritten}
use Rattle.hir_store.specs.Pointers.{Pointer}
use Rattle.hir_env.specs.ResolveCtx.{ResolveCtx}
use Rattle.hir_env.specs.ResolvedTree as tree
use Rattle.hir_env.specs.ResolvedTree.{OptionPat, Pat, Use}
use Rattle.hir_env.specs.PatLayers.{PatKindLayer}
use Rattle.hir_env.specs.Pats.{minus_fits, name_or_bind, pat_at, plain_side, side_of}
use Rattle.hir_env.specs.TypePats.{is_plain}
use Rattle.hir_env.specs.Whole.{resolved_pat, into, pats_part, reader, written}
use Rattle.hir_store.specs.Range.{HasPat}
use Rattle.hir_store.specs.declared.ids.PatId.{PatId}
use Rattle.hir_lower_builder.specs.Builder.{Builder}
use Rattle.hir_lower_builder.specs.Lower.{lower_later, lower_pat}
use Rattle.hir_lower_builder.specs.Lowering.{Checked}
use Rattle.hir_lower_builder.specs.Pats.{Table, alone, or_form}
use Rattle.hir_lower_pat.specs.Bindings.{LowersNamed}
use Rattle.hir_lower_pat.specs.Methods.{IsPlain, IsUncalled, LowersPat, kind_at, lower_plain}
use Rattle.hir_lower_pat.specs.declared.bindings.Bindings.{Bindings}

abbrev level : ResolveCtx → PatKindLayer written → Pointer → Pat
level at k s = pat_at at.answers (reader at.answers (into at)) k at.place s

-- what is so of both is so of either
pub of_either : {A : Type 0} (f : Pat → A) (b : Bool) (p q : Pat) (a : A) → f p ≡ a → f q ≡ a → f (if b then p else q) ≡ a
of_either f true p q a h k = h
of_either f false p q a h k = k

-- sides

-- a name is a side by its being plain, whatever it stands for
pub named_side : (b f : Bool) (s : Pointer) (u : Use) (w : IsWritten u.name) (q : OptionPat) → is_plain u q ≡ b
    → side_of (tree.some_pat (name_or_bind (b && f) s u w q)) ≡ plain_side b s u.name w
named_side true true s u w q h = refl
named_side true false s u w q h = ap (λ b. plain_side b s u.name w) h
named_side false f s u w q h = ap (λ b. plain_side b s u.name w) h

-- patterns that know of no name

either_plain : (b : Bool) (p q : Pat) (t : Table) → lower_pat p t ≡ alone (lower_plain p) t → lower_pat q t ≡ alone (lower_plain q) t
    → lower_pat (if b then p else q) t ≡ alone (lower_plain (if b then p else q)) t
either_plain true p q t h k = h
either_plain false p q t h k = k

plain_at : (at : ResolveCtx) (k : PatKindLayer written) (s : Pointer) (t : Table) → IsPlain k
    → lower_pat (level at k s) t ≡ alone (lower_plain (level at k s)) t
plain_at at (PatKind-F.PathPat x) s t h = refl
plain_at at (PatKind-F.LiteralPat None minus) s t h = refl
plain_at at (PatKind-F.LiteralPat (Some l) minus) s t h = either_plain (minus_fits minus l.literal.lit) _ _ t refl refl
plain_at at (PatKind-F.RangePat op low high) s t h = refl
plain_at at (PatKind-F.CfgPredPat pred) s t h = refl
plain_at at (PatKind-F.MacroPat c) s t h = absurd h
plain_at at PatKind-F.WildcardPat s t h = refl
plain_at at PatKind-F.RestPat s t h = refl
plain_at at PatKind-F.NotNullPat s t h = refl
plain_at at PatKind-F.ConstBlockPat s t h = refl
plain_at at (PatKind-F.IdentPat n is_ref is_mut x) s t h = absurd h
plain_at at (PatKind-F.TupleStructPat x comma ps) s t h = absurd h
plain_at at (PatKind-F.TuplePat comma ps) s t h = absurd h
plain_at at (PatKind-F.RefPat is_mut x) s t h = absurd h
plain_at at (PatKind-F.OrPat ps) s t h = absurd h
plain_at at (PatKind-F.ParenPat x) s t h = absurd h
plain_at at (PatKind-F.BoxPat x) s t h = absurd h
plain_at at (PatKind-F.DerefPat x) s t h = absurd h
plain_at at (PatKind-F.RecordPat x fs dots) s t h = absurd h
plain_at at (PatKind-F.SlicePat before x after) s t h = absurd h

pub plain_is_alone : (at : ResolveCtx) (k : AstPatKind) (s : Pointer) (t : Table) → IsPlain (out-PatKind k)
    → lower_pat (kind_at at s k) t ≡ alone (lower_plain (kind_at at s k)) t
plain_is_alone at k s t h = plain_at at (out-PatKind k) s t h

-- no plain kind is left where each was taken
made : (k : AstPatKind) (l : PatKindLayer written) → out-PatKind k ≡ l → k ≡ roll-PatKind l
made k l h = sym (roll-out-PatKind k) ∙ ap roll-PatKind h

pub only_plain : (k : AstPatKind) → IsPlain (out-PatKind k)
    → ((x : Option AstPath) → k ≡ kind.PathPat x → ⊥)
    → ((l : Option PatLiteral) (minus : Bool) → k ≡ kind.LiteralPat l minus → ⊥)
    → ((op : Option RangeOp) (low high : Option AstPat) → k ≡ kind.RangePat op low high → ⊥)
    → ((pred : Option PredId) → k ≡ kind.CfgPredPat pred → ⊥)
    → (k ≡ kind.WildcardPat → ⊥)
    → (k ≡ kind.RestPat → ⊥)
    → (k ≡ kind.NotNullPat → ⊥)
    → (k ≡ kind.ConstBlockPat → ⊥) → ⊥
only_plain k is no_path no_literal no_range no_cfgpred no_wildcard no_rest no_notnull no_constblock =
    by (out-PatKind k) refl is
  where
    by : (l : PatKindLayer written) → out-PatKind k ≡ l → IsPlain l → ⊥
    by (PatKind-F.PathPat x) h is = no_path x (made k _ h ∙ kind.rolls-PathPat x)
    by (PatKind-F.LiteralPat l minus) h is = no_literal l minus (made k _ h ∙ kind.rolls-LiteralPat l minus)
    by (PatKind-F.RangePat op low high) h is = no_range op low high (made k _ h ∙ kind.rolls-RangePat op low high)
    by (PatKind-F.CfgPredPat pred) h is = no_cfgpred pred (made k _ h ∙ kind.rolls-CfgPredPat pred)
    by PatKind-F.WildcardPat h is = no_wildcard (made k _ h ∙ kind.rolls-WildcardPat)
    by PatKind-F.RestPat h is = no_rest (made k _ h ∙ kind.rolls-RestPat)
    by PatKind-F.NotNullPat h is = no_notnull (made k _ h ∙ kind.rolls-NotNullPat)
    by PatKind-F.ConstBlockPat h is = no_constblock (made k _ h ∙ kind.rolls-ConstBlockPat)
    by _ h is = is

-- a call was taken before
pub no_call_left : (k : AstPatKind) → ((o : Option AstMacroCall) → k ≡ kind.MacroPat o → ⊥) → IsUncalled (out-PatKind k)
no_call_left k no_call = by (out-PatKind k) refl
  where
    by : (l : PatKindLayer written) → out-PatKind k ≡ l → IsUncalled l
    by (PatKind-F.MacroPat o) h = absurd (no_call o (made k _ h ∙ kind.rolls-MacroPat o))
    by (PatKind-F.IdentPat n is_ref is_mut x) h = tt
    by (PatKind-F.TupleStructPat x comma ps) h = tt
    by (PatKind-F.TuplePat comma ps) h = tt
    by (PatKind-F.RefPat is_mut x) h = tt
    by (PatKind-F.PathPat x) h = tt
    by (PatKind-F.OrPat ps) h = tt
    by (PatKind-F.ParenPat x) h = tt
    by (PatKind-F.BoxPat x) h = tt
    by (PatKind-F.DerefPat x) h = tt
    by (PatKind-F.RecordPat x fs dots) h = tt
    by (PatKind-F.SlicePat before x after) h = tt
    by (PatKind-F.LiteralPat l minus) h = tt
    by (PatKind-F.RangePat op low high) h = tt
    by (PatKind-F.CfgPredPat pred) h = tt
    by PatKind-F.WildcardPat h = tt
    by PatKind-F.RestPat h = tt
    by PatKind-F.NotNullPat h = tt
    by PatKind-F.ConstBlockPat h = tt

-- alternatives

take_all : {A : Type 0} (xs : List A) → take (length xs) xs ≡ xs
take_all [] = refl
take_all (x ∷ xs) = ap (λ ys. x ∷ ys) (take_all xs)

-- what is first, and what is behind it
pub first_of : {A : Type 0} (xs : List A) (x : A) → x ≡ slice_index_or xs 0 x → 1 ≤ length xs
    → xs ≡ x ∷ take (length xs - 1) (drop 1 xs)
first_of [] x h le = absurd (omega (arith, le))
first_of (y ∷ ys) x h le =
    let rest : length (y ∷ ys) - 1 ≡ length ys = omega arith in
    λ j. sym h j ∷ sym (ap (λ n. take n ys) rest ∙ take_all ys) j

pub of_alternatives : (at : ResolveCtx) (s : Pointer) (all : List AstPat) (x : AstPat) (left : List AstPat) (was is : Bindings)
    (old new : Builder) (r : Checked PatId) → all ≡ x ∷ left
    → LowersNamed HasPat (or_form s (lower_pat (resolved_pat at x)) (lower_later (pats_part at left))) was old r is new
    → LowersPat (tree.or_pat s (pats_part at all)) was old r is new
of_alternatives at s all x left was is old new r e h =
    subst (λ xs. LowersPat (tree.or_pat s (pats_part at xs)) was old r is new) (sym e) h
