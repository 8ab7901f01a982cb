-- What each kind of method does: the steps of one part, and what it answers.
use Rattle.std.specs.Prelude.{ℕ, Bool, false, List, [], ◌∷◌, ◌++◌, Option, Some, None, option_map}
use Rattle.hir_syntax.specs.declared.ast.ElseBranch.TheOpen.{PatKind-F}
use Rattle.hir_syntax.specs.declared.ast.Name.{Name as AstName}
use Rattle.hir_syntax.specs.declared.macros.MacroCall.{MacroCall as AstMacroCall}
use Rattle.hir_syntax.specs.declared.pats.PatKind.{PatKind as AstPatKind, out-PatKind}
use Rattle.hir_binding.specs.declared.binding.BindingAnnotation.{BindingAnnotation}
use Rattle.hir_store.specs.Pointers.{Pointer}
use Rattle.hir_store.specs.Stored.{Stored}
use Rattle.hir_store.specs.Past.{past_pat_field, past_present}
use Rattle.hir_store.specs.Range.{Has, HasPat, HasPatFields, HasPatOption, HasPats}
use Rattle.hir_store.specs.declared.ids.PatId.{PatId}
use Rattle.hir_store.specs.declared.name.Name.{Name}
use Rattle.hir_store.specs.declared.name.Name.TheVariants as name
use Rattle.hir_store.specs.declared.pat.RecordFieldPat.{RecordFieldPat}
use Rattle.hir_env.specs.ResolveCtx.{ResolveCtx}
use Rattle.hir_env.specs.Answering.{name_or_missing, truth}
use Rattle.hir_env.specs.Pats.{name_hygiene, pat_at}
use Rattle.hir_env.specs.ResolvedTree as tree
use Rattle.hir_env.specs.ResolvedTree.{Pat, OptionPat, Pats, PatFields, PatField, Signed, Use}
use Rattle.hir_env.specs.PatLayers.{PatKindLayer}
use Rattle.hir_env.specs.Whole.{into, reader, written}
use Rattle.hir_lower_builder.specs.Builder.{Builder}
use Rattle.hir_lower_builder.specs.Calls.{emitted}
use Rattle.hir_lower_builder.specs.Lowering.{Checked, Lowering, ◌>>=◌, ◌>>◌, alloc_pat, point_pat, pure}
use Rattle.hir_lower_builder.specs.Lower as spec
use Rattle.hir_lower_builder.specs.Pats.{Elements, Table, dots_after, no_elements, stored_pat_leaf, name_pat_of, path_pat_form}
use Rattle.hir_lower_builder.specs.Pats.{barred_pat_form, literal_pat_form, missing_pat, range_pat_form}
use Rattle.hir_lower_pat.specs.Bindings.{LowersNamed}
use Rattle.hir_lower_pat.specs.declared.bindings.Bindings.{Bindings}

abbrev pub LowersPat : Pat → Bindings → Builder → Checked PatId → Bindings → Builder → Type 0
LowersPat p was old result is new = LowersNamed HasPat (spec.lower_pat p) was old result is new

-- missing where it is absent
abbrev pub LowersPatOpt : OptionPat → Bindings → Builder → Checked PatId → Bindings → Builder → Type 0
LowersPatOpt p was old result is new = LowersNamed HasPat (spec.pat_part p) was old result is new

-- none where it is absent
abbrev pub LowersPatIfPresent : OptionPat → Bindings → Builder → Checked (Option PatId) → Bindings → Builder → Type 0
LowersPatIfPresent p was old result is new = LowersNamed HasPatOption (spec.present_pat p) was old result is new

abbrev pub LowersPats : Pats → Bindings → Builder → Checked (List PatId) → Bindings → Builder → Type 0
LowersPats ps was old result is new = LowersNamed HasPats (spec.lower_pats [] ps) was old result is new

-- behind those that are lowered
abbrev pub LowersLater : Pats → List PatId → Bindings → Builder → Checked (List PatId) → Bindings → Builder → Type 0
LowersLater ps done was old result is new = LowersNamed HasPats (spec.lower_later ps done) was old result is new

-- the parts of a tuple

abbrev pub HasElements : Stored → Elements → Type 0
HasElements s es = HasPats s es.0

-- one more behind those that are lowered; two dots are none
abbrev pub add_element : Elements → Option PatId → Elements
add_element done None = (done.0, dots_after done.0 done.1)
add_element done (Some i) = (done.0 ++ i ∷ [], done.1)

abbrev pub element_behind : Elements → (Table → Lowering (Option PatId × Table)) → Table → Lowering (Elements × Table)
element_behind done part t = do
  r ← part t
  pure (add_element done r.0, r.1)

-- the call leads to the element that it stands for, unless it is two dots
abbrev pub point_found : Pointer → Option PatId → Lowering (Option PatId)
point_found at None = pure None
point_found at (Some i) = point_pat at i >> pure (Some i)

abbrev pub point_element : Pointer → Option PatId × Table → Lowering (Option PatId × Table)
point_element at r = point_found at r.0 >>= (λ o. pure (o, r.1))

-- a pattern as an element, none where it is two dots, be it through calls
abbrev pub element_steps : Pat → Table → Lowering (Option PatId × Table)
element_steps (tree.leaf_pat at tree.rest_leaf) t = pure (None, t)
element_steps (tree.macro_pat at called (tree.some_pat p)) t = emitted called >> (element_steps p t >>= point_element at)
element_steps (tree.macro_pat at tree.callless tree.no_pat) t = spec.present_pat (tree.some_pat (tree.leaf_pat at tree.broken_leaf)) t
element_steps p t = spec.present_pat (tree.some_pat p) t

abbrev pub LowersElement : Pat → Bindings → Builder → Checked (Option PatId) → Bindings → Builder → Type 0
LowersElement p was old result is new = LowersNamed HasPatOption (element_steps p) was old result is new

abbrev pub LowersElements : Pats → Bindings → Builder → Checked Elements → Bindings → Builder → Type 0
LowersElements ps was old result is new = LowersNamed HasElements (spec.lower_elements no_elements ps) was old result is new

-- where the dots stand, which names nothing, and the parts
abbrev pub HasDots : Stored → Option ℕ → Type 0
HasDots s dots = Unit {0}

abbrev pub HasCounted : Stored → Option ℕ × List PatId → Type 0
HasCounted s es = HasPats s es.1

-- the fields of a record

abbrev pub HasPatField : Stored → Option RecordFieldPat → Type 0
HasPatField s f = Has s (past_present past_pat_field f)

-- the name of a field, where it has one
abbrev pub field_name : Option AstName → Option Name
field_name n = option_map (λ m. name.Text m.t) n

abbrev pub LowersPatField : PatField → Bindings → Builder → Checked (Option RecordFieldPat) → Bindings → Builder → Type 0
LowersPatField f was old result is new = LowersNamed HasPatField (spec.lower_pat_field f) was old result is new

abbrev pub LowersPatFields : PatFields → Bindings → Builder → Checked (List RecordFieldPat) → Bindings → Builder → Type 0
LowersPatFields fs was old result is new = LowersNamed HasPatFields (spec.lower_pat_fields [] fs) was old result is new

-- kinds

-- a call is taken before a pattern's form is asked for
abbrev pub IsUncalled : PatKindLayer written → Type 0
IsUncalled (PatKind-F.MacroPat call) = ⊥
IsUncalled _ = Unit {0}

-- so that nothing is claimed of one
abbrev pub AnyCall : AstMacroCall → Type 0
AnyCall c = Unit {0}

-- without a pattern whose names count
abbrev pub IsPlain : PatKindLayer written → Type 0
IsPlain (PatKind-F.PathPat x) = Unit {0}
IsPlain (PatKind-F.LiteralPat l minus) = Unit {0}
IsPlain (PatKind-F.RangePat op low high) = Unit {0}
IsPlain (PatKind-F.CfgPredPat pred) = Unit {0}
IsPlain PatKind-F.WildcardPat = Unit {0}
IsPlain PatKind-F.RestPat = Unit {0}
IsPlain PatKind-F.NotNullPat = Unit {0}
IsPlain PatKind-F.ConstBlockPat = Unit {0}
IsPlain _ = ⊥

-- what is made of those; any other is none of them
abbrev pub lower_plain : Pat → Lowering PatId
lower_plain (tree.leaf_pat at form) = alloc_pat (stored_pat_leaf form) (Some at)
lower_plain (tree.name_pat at u _) = alloc_pat (name_pat_of u) (Some at)
lower_plain (tree.path_pat at p) = path_pat_form at (spec.lower_path p)
lower_plain (tree.literal_pat at node l) = literal_pat_form at node l
lower_plain (tree.range_pat at op low high) = range_pat_form at op (spec.lower_side low) (spec.lower_side high)
lower_plain (tree.barred_pat at) = barred_pat_form at
lower_plain _ = missing_pat

-- the literal of a predicate
abbrev pub plain_truth : Option Bool → Signed
plain_truth holds = record { minus = false; literal = truth holds }

-- a pattern of this kind, at this node
abbrev pub kind_at : ResolveCtx → Pointer → AstPatKind → Pat
kind_at at s k = pat_at at.answers (reader at.answers (into at)) (out-PatKind k) at.place s

-- a use of a name in this mode
abbrev pub use_with : ResolveCtx → Option AstName → BindingAnnotation → Use
use_with at n mode = record { name = name_or_missing n; hygiene = name_hygiene at.answers at.place n; mode = mode }
