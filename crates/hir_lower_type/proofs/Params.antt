-- The parameters of a function pointer one after another: what a loop over them does, and their names.
use Rattle.std.proofs.Common.{arith, ◌≡◌, ◌∙◌, ap, refl, sym, slice_index_or}
use Rattle.std.proofs.Common.{ℕ, zero, suc, Bool, true, false, List, [], ◌∷◌, Option, Some, None, Ok, Err}
use Rattle.std.specs.Prelude.{if◌then◌else◌, ◌≤◌, ◌-◌, ◌≢◌, drop, length, take, IsErrAnd}
use Rattle.hir_syntax.specs.declared.ast.ElseBranch.TheOpen.{PatKind-F}
use Rattle.hir_syntax.specs.declared.macros.MacroCall.{MacroCall as AstMacroCall}
use Rattle.hir_syntax.specs.declared.pats.Pat.{Pat as AstPat}
use Rattle.hir_syntax.specs.declared.ast.Name.{Name as AstName}
use Rattle.hir_syntax.specs.declared.pats.PatKind.{PatKind as AstPatKind, out-PatKind, roll-PatKind, roll-out-PatKind}
use Rattle.hir_syntax.specs.declared.pats.PatKind.TheVariants as kind
use Rattle.hir_syntax.specs.declared.types.Param.{Param as AstParam, out-Param}
use Rattle.hir_store.specs.Names.{IsWritten}
use Rattle.hir_store.specs.Pointers.{Pointer}
use Rattle.hir_store.specs.Stored.{Stored}
use Rattle.hir_store.specs.declared.error.StoreError.{StoreError}
use Rattle.hir_store.specs.declared.error.StoreError.TheVariants.{Memory}
use Rattle.hir_store.specs.declared.ids.TypeRefId.{TypeRefId}
use Rattle.hir_env.specs.ResolveCtx.{ResolveCtx}
use Rattle.hir_env.specs.Answers.{Answers}
use Rattle.hir_env.specs.Calls.{entered_pat}
use Rattle.hir_env.proofs.PathLevels.{param_is_level}
use Rattle.hir_env.specs.declared.ctx.LowerCtx.{LowerCtx}
use Rattle.hir_env.specs.ResolvedTree as tree
use Rattle.hir_env.specs.ResolvedTree.{Parts, Pat, OptionPat, OptionType, Use}
use Rattle.hir_env.specs.TypeLayers.{ParamReading}
use Rattle.hir_env.specs.PatLayers.{PatKindLayer}
use Rattle.hir_env.specs.Paths.{last_variadic, names_given, params_of}
use Rattle.hir_env.specs.Pats.{minus_fits, name_or_bind, pat_at}
use Rattle.hir_env.specs.TypePats.{name_given}
use Rattle.hir_env.specs.Whole.{entering, into, pat_part, pointer_at, read_param, reader, written}
use Rattle.hir_env.proofs.PatLevels.{pat_is_level}
use Rattle.hir_lower_builder.specs.Builder.{Builder}
use Rattle.hir_lower_builder.specs.Lowering.{Checked, Lowering, Lowers, SomeEnd, go_on, pure}
use Rattle.hir_lower_builder.specs.Lower.{lower_parts, push_some, some, type_part}
use Rattle.hir_lower_type.specs.Params.{lower_param, name_of_kind, name_of_pat, param_names, variadic_last}

-- no answer decides whether the last is variadic
pub variadic_is : (env : Answers) (p : LowerCtx) (b : Bool) (xs : List AstParam)
    → last_variadic (read_param env (entering env p.left)) b xs p ≡ variadic_last b xs
variadic_is env p b [] = refl
variadic_is env p b (x ∷ xs) =
    let at : ResolveCtx = record { answers = env; place = p } in
    ap (λ r. last_variadic (read_param env (entering env p.left)) r.variadic xs p) (param_is_level at x)
    ∙ variadic_is env p (out-Param x).variadic xs

typed : (done : List TypeRefId) (rest : Parts) (o : Checked TypeRefId) (c : Builder)
    → go_on o c (λ id. lower_parts (push_some done (Some id)) rest)
    ≡ go_on (go_on o c (λ id. pure (Some id))).0 (go_on o c (λ id. pure (Some id))).1 (λ x. lower_parts (push_some done x) rest)
typed done rest (Ok id) c = refl
typed done rest (Err e) c = refl

one : (done : List TypeRefId) (rest : Parts) (t : OptionType) (variadic : Bool) (b : Builder)
    → lower_parts done (if variadic then rest else tree.more_parts t rest) b
    ≡ go_on ((if variadic then pure None else some (type_part None t)) b).0
    ((if variadic then pure None else some (type_part None t)) b).1
    (λ x. lower_parts (push_some done x) rest)
one done rest t true b = refl
one done rest t false b = typed done rest (type_part None t b).0 (type_part None t b).1

pub params_more : {A : Type 0} (read : A → LowerCtx → ParamReading) (p : LowerCtx) (done : List TypeRefId) (x : A) (xs : List A)
    (b : Builder)
    → lower_parts done (params_of read (x ∷ xs) p) b
    ≡ go_on (lower_param (read x p) b).0 (lower_param (read x p) b).1 (λ o. lower_parts (push_some done o) (params_of read xs p))
params_more read p done x xs b = one done (params_of read xs p) (read x p).ty (read x p).variadic b

take_all : {A : Type 0} (xs : List A) → take (length xs) xs ≡ xs
take_all [] = refl
take_all (x ∷ xs) = ap (λ ys. x ∷ ys) (take_all xs)

-- what is first, and what is behind it
first_of : {A : Type 0} (xs : List A) (x : A) → x ≡ slice_index_or xs 0 x → 1 ≤ length xs
    → xs ≡ x ∷ take (length xs - 1) (drop 1 xs)
first_of [] x h le = absurd (omega (arith, le))
first_of (y ∷ ys) x h le =
    let rest : length (y ∷ ys) - 1 ≡ length ys = omega arith in
    λ j. sym h j ∷ sym (ap (λ n. take n ys) rest ∙ take_all ys) j

pub params_refused : {A : Type 0} (read : A → LowerCtx → ParamReading) (p : LowerCtx) (done : List TypeRefId) (xs : List A) (x : A)
    (b c : Builder) (e : StoreError) → x ≡ slice_index_or xs 0 x → 1 ≤ length xs → lower_param (read x p) b ≡ (Err e, c)
    → lower_parts done (params_of read xs p) b ≡ (Err e, c)
params_refused read p done xs x b c e h le is =
    let behind = take (length xs - 1) (drop 1 xs) in
    ap (λ ys. lower_parts done (params_of read ys p) b) (first_of xs x h le)
    ∙ (params_more read p done x behind b
    ∙ ap (λ r. go_on r.0 r.1 (λ o. lower_parts (push_some done o) (params_of read behind p))) is)

-- what is refused is refused in what it stands in
pub handed_on : {A : Type 0} (Has : Stored → A → Type 0) (steps : Lowering A) (old : Builder) (e : StoreError) (r : Checked A)
    (new : Builder) → IsErrAnd r (λ f. f ≡ e) → (e ≢ Memory → (steps old ≡ (Err e, new)) × SomeEnd new)
    → Lowers Has steps old r new
handed_on Has steps old e (Ok a) new is h = absurd is
handed_on Has steps old e (Err f) new is h = rw is h

-- names

-- a pattern of another kind gives no name
pub no_name_left : (k : AstPatKind)
    → ((n : Option AstName) (is_ref is_mut : Bool) (x : Option AstPat) → k ≡ kind.IdentPat n is_ref is_mut x → ⊥)
    → name_of_kind (out-PatKind k) ≡ None
no_name_left k no_ident = by (out-PatKind k) refl
  where
    by : (l : PatKindLayer written) → out-PatKind k ≡ l → name_of_kind l ≡ None
    by (PatKind-F.IdentPat n is_ref is_mut x) h =
        absurd (no_ident n is_ref is_mut x (sym (roll-out-PatKind k) ∙ (ap roll-PatKind h ∙ kind.rolls-IdentPat n is_ref is_mut x)))
    by _ h = refl

one_name : (b : Bool) (s : Pointer) (u : Use) (w : IsWritten u.name) (q : OptionPat)
    → name_given (tree.some_pat (name_or_bind b s u w q)) ≡ Some u.name
one_name true s u w q = refl
one_name false s u w q = refl

no_name_of_either : (b : Bool) (p q : Pat) → name_given (tree.some_pat p) ≡ None → name_given (tree.some_pat q) ≡ None
    → name_given (tree.some_pat (if b then p else q)) ≡ None
no_name_of_either true p q h k = h
no_name_of_either false p q h k = k

-- nor does a call give one, entered or not
called_name : (env : Answers) (left : ℕ) (c : AstMacroCall) (p : LowerCtx) (s : Pointer)
    → name_given (tree.some_pat (entered_pat env (entering env left) c p s)) ≡ None
called_name env zero c p s = refl
called_name env (suc n) c p s = refl

kind_name : (at : ResolveCtx) (k : PatKindLayer written) (s : Pointer)
    → name_given (tree.some_pat (pat_at at.answers (reader at.answers (into at)) k at.place s)) ≡ name_of_kind k
kind_name at (PatKind-F.IdentPat n is_ref is_mut x) s = one_name _ s _ _ _
kind_name at (PatKind-F.TupleStructPat x comma ps) s = refl
kind_name at (PatKind-F.TuplePat comma ps) s = refl
kind_name at (PatKind-F.RefPat is_mut x) s = refl
kind_name at (PatKind-F.PathPat x) s = refl
kind_name at (PatKind-F.OrPat ps) s = refl
kind_name at (PatKind-F.ParenPat x) s = refl
kind_name at (PatKind-F.BoxPat x) s = refl
kind_name at (PatKind-F.DerefPat x) s = refl
kind_name at (PatKind-F.RecordPat x fs dots) s = refl
kind_name at (PatKind-F.SlicePat before x after) s = refl
kind_name at (PatKind-F.LiteralPat None minus) s = refl
kind_name at (PatKind-F.LiteralPat (Some l) minus) s = no_name_of_either (minus_fits minus l.literal.lit) _ _ refl refl
kind_name at (PatKind-F.RangePat op low high) s = refl
kind_name at (PatKind-F.CfgPredPat pred) s = refl
kind_name at (PatKind-F.MacroPat None) s = refl
kind_name at (PatKind-F.MacroPat (Some c)) s = called_name at.answers at.place.left c at.place s
kind_name at PatKind-F.WildcardPat s = refl
kind_name at PatKind-F.RestPat s = refl
kind_name at PatKind-F.NotNullPat s = refl
kind_name at PatKind-F.ConstBlockPat s = refl

pat_name : (at : ResolveCtx) (x : Option AstPat) → name_given (pat_part at x) ≡ name_of_pat x
pat_name at None = refl
pat_name at (Some p) =
    ap (λ q. name_given (tree.some_pat q)) (pat_is_level at p) ∙ kind_name at (out-PatKind p.kind) (pointer_at at p.id p.range)

-- no answer decides on the names
pub names_are : (env : Answers) (p : LowerCtx) (xs : List AstParam)
    → names_given (read_param env (entering env p.left)) xs p ≡ param_names xs
names_are env p [] = refl
names_are env p (x ∷ xs) =
    let at : ResolveCtx = record { answers = env; place = p } in
    let one = param_is_level at x in
    λ j. if (one j).variadic then names_are env p xs j
    else ((ap (λ r. r.name) one ∙ pat_name at (out-Param x).pat) j ∷ names_are env p xs j)
