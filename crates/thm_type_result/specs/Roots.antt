-- The bodies inside types and paths that stand alone are roots, in the order in which they are done.
use Rattle.std.specs.Prelude.{◌≡◌, ℕ, ◌≤◌, length, Bool, true, false, List, [], ◌∷◌, ◌++◌, Option, Ok, slice_range}
use Rattle.hir_store.specs.StoreSink.{Extends}
use Rattle.hir_store.specs.Stored.{Store, SourceMap, Stored, store_of, map_of}
use Rattle.hir_store.specs.declared.hir.Expr.{Expr as HirExpr}
use Rattle.hir_store.specs.declared.ids.ExprId.{ExprId}
use Rattle.hir_store.specs.declared.ids.TypeRefId.{TypeRefId}
use Rattle.hir_store.specs.declared.pat.Pat.{Pat as HirPat}
use Rattle.hir_store.specs.declared.path.Path.{Path}
use Rattle.hir_store.specs.declared.roots.ExprRoot.{ExprRoot}
use Rattle.hir_store.specs.declared.type_ref.TypeRef.{TypeRef}
use Rattle.hir_lower_scope.specs.ScopeRibs.{barrier_rib}
use Rattle.hir_env.specs.ResolvedTree as tree
use Rattle.hir_env.specs.ResolvedTree.{Binder, OptionType, OptionPath}
use Rattle.hir_lower_builder.specs.Builder.{Builder}
use Rattle.hir_lower_builder.specs.Lower.{lower_path, type_part}
use Rattle.spec_semantics.specs.Inner.{InnerBody, constant_body, coroutine_body, limit_body, making_body, prelude_body, Bodies, bodies_in}
use Rattle.spec_semantics.specs.Inner.{side_bodies, inner_bodies, of_present, part_bodies, path_bodies, path_inner_bodies, stmts_bodies}
use Rattle.spec_semantics.specs.Inner.{tops_bodies, type_inner_bodies}
use Rattle.spec_semantics.specs.Limits.{written_inner}
use Rattle.spec_semantics.specs.Same.{SameBody, SameBodies}
use Rattle.spec_semantics.specs.Store.{stored_body}
use Rattle.thm_logic.specs.Keeps.{Paired}
use Rattle.hir_lower_scope.specs.Each.{Each}
use Rattle.thm_semantics.specs.Reached.{Between, Spread, of_each, reached_to}
use Rattle.thm_body_result.specs.Theorems.{Settled}
use Rattle.thm_body_result.specs.Leads.{Mapping, Mappings}
use Rattle.thm_body_result.specs.Room.{type_part_size, whole_size}
use Rattle.thm_body_result.specs.Corresponds.{Open, CorrespondsLimit, CorrespondsPart}
use Rattle.thm_type_result.specs.Named.{of_bindings_alone, of_exprs, of_pats, of_pats_alone, of_types_alone}
use Rattle.thm_type_result.specs.Pats.{of_types, pats_reached}
use Rattle.thm_type_result.specs.Reached.{types_reached}
use Rattle.thm_type_result.specs.Unrun.{unrun_in}

-- how many there are of each sort
pub record Lengths : Type 0 where
  pub exprs : ℕ
  pub pats : ℕ
  pub bindings : ℕ
  pub types : ℕ

abbrev pub no_lengths : Lengths
no_lengths = record { exprs = 0; pats = 0; bindings = 0; types = 0 }

abbrev pub lengths_of : Store → Lengths
lengths_of s = record { exprs = length s.exprs; pats = length s.pats; bindings = length s.bindings; types = length s.types }

abbrev pub lengths_now : Stored → Lengths
lengths_now s = lengths_of (store_of s)

-- where a root ends; where its types do it doesn't tell
abbrev pub ends_of : ExprRoot → ℕ → Lengths
ends_of r types_end = record { exprs = r.exprs_end.0; pats = r.pats_end.0; bindings = r.bindings_end.0; types = types_end }

-- there are no fewer of any sort
pub record Further (a b : Lengths) : Type 0 where
  pub exprs : a.exprs ≤ b.exprs
  pub pats : a.pats ≤ b.pats
  pub bindings : a.bindings ≤ b.bindings
  pub types : a.types ≤ b.types

-- a body inside, written: what is inside it, and what stands for it

abbrev pub inside : InnerBody → Bodies
inside (constant_body e) = bodies_in e
inside (coroutine_body number ss e) = stmts_bodies ss ++ bodies_in e
-- the coroutine that it makes stands beside it
inside (making_body kind source) = []
inside (prelude_body self ps e) = tops_bodies ps ++ bodies_in e
inside (limit_body (tree.item_limit i)) = []
inside (limit_body (tree.side_limit s)) = side_bodies s
inside (limit_body (tree.before_limit i s)) = side_bodies s

abbrev pub CorrespondsInner : Store → SourceMap → Open → InnerBody → ExprId → Mappings
CorrespondsInner store source_map rs (constant_body e) i = CorrespondsPart store source_map rs e i
-- a coroutine stands inside of a root, and so does what makes it: they are none
CorrespondsInner store source_map rs (coroutine_body number ss e) i = λ ws. ⊥
CorrespondsInner store source_map rs (making_body kind source) i = λ ws. ⊥
CorrespondsInner store source_map rs (prelude_body self ps e) i = λ ws. ⊥
CorrespondsInner store source_map rs (limit_body l) i = CorrespondsLimit store source_map rs l i

-- The stored expression does what the written body does, and so does each body inside it.
pub record SameInner (store : Store) (source_map : SourceMap) (root : ExprId) (b : InnerBody) : Type 0 where
  pub body : SameBody store (stored_body store source_map root) root (written_inner b)
  pub inner : SameBodies store source_map (inner_bodies store root) (inside b)

-- those that came from the one to the other

abbrev pub exprs_between : Store → Lengths → Lengths → List HirExpr
exprs_between store from to = slice_range store.exprs from.exprs to.exprs

abbrev pub types_between : Store → Lengths → Lengths → List TypeRef
types_between store from to = slice_range store.types from.types to.types

abbrev pub pats_between : Store → Lengths → Lengths → List HirPat
pats_between store from to = slice_range store.pats from.pats to.pats

-- A root that begins behind the one before it, and ends there, as a body with this around it: it does what the body does and stands for
-- it. From some place on, all is its own. Each expression that it reaches, or that one does which it holds and doesn't run, is its own
-- and reached in one way. Its expressions and types reach patterns of its own, and its expressions and patterns reach types of its own,
-- each in one way. Its patterns make bindings of its own.
pub record RootIs (store : Store) (source_map : SourceMap) (around : Open) (begins ends : Lengths) (r : ExprRoot) (b : InnerBody)
    : Type 0 where
  pub same : SameInner store source_map r.root b
  pub mappings : List Mapping
  pub corresponds : CorrespondsInner store source_map (barrier_rib ∷ around) b r.root mappings
  pub from : Lengths
  pub behind : Further begins from
  pub goes_on : Further from ends
  pub reached_once : (depth : ℕ) → length store.exprs ≤ depth
      → Spread from.exprs ends.exprs (of_each (reached_to store depth) (r.root ∷ unrun_in store r.root))
  pub pats_reached_once : (depth : ℕ) → length store.pats ≤ depth → let l = of_pats_alone (pats_reached store.pats depth) in
      Spread from.pats ends.pats (of_exprs l (exprs_between store from ends) ++ of_types l (types_between store from ends))
  pub types_reached_once : (depth : ℕ) → length store.types ≤ depth → let l = of_types_alone (types_reached store.types depth) in
      Spread from.types ends.types (of_exprs l (exprs_between store from ends) ++ of_pats l (pats_between store from ends))
  pub bindings_came : Each (Between from.bindings ends.bindings) (of_pats of_bindings_alone (pats_between store from ends))

-- Each is for the body in the same place of the list, and the last ends no later than there.
abbrev pub RootsAre : Store → SourceMap → Open → Lengths → Lengths → List ExprRoot → Bodies → Type 0
RootsAre store source_map around begins ends [] [] = Further begins ends
RootsAre store source_map around begins ends (r ∷ rs) (b ∷ bs) =
    (types_end : ℕ) × RootIs store source_map around begins (ends_of r types_end) r b
    × RootsAre store source_map around (ends_of r types_end) ends rs bs
RootsAre store source_map around begins ends [] (b ∷ bs) = ⊥
RootsAre store source_map around begins ends (r ∷ rs) [] = ⊥

-- Behind the roots that were recorded before comes one for each of these bodies. In a later store each stands there as long as what
-- was settled of the bindings stays.
pub record RootsOf (around : Open) (old new later : Stored) (bs : Bodies) : Type 0 where
  pub roots : List ExprRoot
  pub is : new.roots ≡ old.roots ++ roots
  pub each : Settled new later → RootsAre (store_of later) (map_of later) around (lengths_now old) (lengths_now new) roots bs

-- inside of another root none is recorded
abbrev pub recorded_bodies : Bool → Bodies → Bodies
recorded_bodies true bs = []
recorded_bodies false bs = bs

-- The bodies inside a lowered type are recorded, those too that nothing reaches afterwards. Each that it reaches is like the
-- written one.
abbrev pub TypeRoots : Type 0
TypeRoots =
    (binder : Option Binder) (t : OptionType) (b b' : Builder) (i : TypeRefId) → Paired b.stored → type_part binder t b ≡ (Ok i, b')
    → (later : Stored) → Extends b'.stored later
    → RootsOf b.scopes b.stored b'.stored later (recorded_bodies b.in_root (type_part_size t).inner)
    × SameBodies (store_of later) (map_of later) (type_inner_bodies (store_of later) i) (part_bodies t)

-- So it is of paths. A refused one reaches nothing, but its constants are recorded.
abbrev pub PathRoots : Type 0
PathRoots =
    (p : OptionPath) (b b' : Builder) (r : Option Path) → Paired b.stored → lower_path p b ≡ (Ok r, b')
    → (later : Stored) → Extends b'.stored later
    → RootsOf b.scopes b.stored b'.stored later (recorded_bodies b.in_root (whole_size p).inner)
    × SameBodies (store_of later) (map_of later) (of_present (path_inner_bodies (store_of later)) r) (path_bodies p)
