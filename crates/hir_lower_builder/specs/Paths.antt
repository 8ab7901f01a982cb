-- What is done with what a segment says.
use Rattle.std.specs.Prelude.{codes, ℕ, Bool, true, false, List, [], ◌∷◌, reverse, Option, Some, None}
use Rattle.hir_store.specs.Pointers.{Pointer}
use Rattle.hir_store.specs.Generics.{of_args, of_binding}
use Rattle.hir_store.specs.declared.ids.TypeRefId.{TypeRefId}
use Rattle.hir_store.specs.declared.name.Name.{Name}
use Rattle.hir_store.specs.declared.name.Name.TheVariants as name
use Rattle.hir_store.specs.declared.path.GenericArgs.{GenericArgs}
use Rattle.hir_store.specs.declared.path.GenericArg.TheVariants as arg
use Rattle.hir_store.specs.declared.path.GenericArgsParentheses.TheVariants as parens
use Rattle.hir_store.specs.declared.type_ref.TypeRef.TheVariants as ty
use Rattle.hir_store.specs.declared.path.Path.{Path as HirPath}
use Rattle.hir_store.specs.declared.path.Path.TheVariants.{BarePath, Normal, LangItem}
use Rattle.hir_store.specs.declared.type_ref.LifetimeRef.{LifetimeRef}
pub use Rattle.hir_env.specs.Paths.{alias_of}
use Rattle.hir_lower_builder.specs.declared.generics.SideOutput.{SideOutput}
use Rattle.hir_lower_builder.specs.Generics.{cut_args}
use Rattle.hir_lower_builder.specs.declared.walk.PathWalk.{PathWalk}
use Rattle.hir_lower_builder.specs.declared.walk.Reading.{Reading}
use Rattle.hir_lower_builder.specs.declared.walk.Reading.TheVariants.{Refused, Ended, Open}
use Rattle.hir_lower_builder.specs.Lowering.{Lowering, ◌>>=◌, ◌>>◌, pure, count_out, alloc_type, input_end, track_down, with_stored}
use Rattle.hir_lower_builder.specs.Walks.{projected}

-- goes on with what stands before, unless the path is refused or ends here
abbrev pub proceed : Reading → (PathWalk → Lowering Reading) → Lowering Reading
proceed Refused f = pure Refused
proceed (Ended w) f = pure (Ended w)
proceed (Open w) f = f w

-- the segments of a path, then those of the use tree around it
unfoldable pub whole : Lowering Reading → (PathWalk → Lowering Reading) → Lowering Reading
whole own outer = do
  r ← own
  proceed r outer

-- what is read, unless there are more than are counted
abbrev pub or_count_out : Option Reading → Lowering Reading
or_count_out (Some r) = pure r
or_count_out None = count_out

-- the trait's path is stored as a type too
abbrev pub read_trait : TypeRefId → Pointer → PathWalk → Option HirPath → Lowering Reading
read_trait t at w None = pure Refused
read_trait t at w (Some p) = do
  alloc_type (ty.Path p) (Some at)
  pure (projected t p w)

-- `<T as Trait>`
unfoldable pub with_trait : Lowering (Option HirPath) → TypeRefId → Pointer → PathWalk → Lowering Reading
with_trait trait t at w = do
  p ← trait
  read_trait t at w p

-- the whole path

abbrev pub first_args : List (Option GenericArgs) → Option GenericArgs
first_args [] = None
first_args (a ∷ as') = a

-- what stands beside the last name
abbrev pub last_args : HirPath → Option GenericArgs
last_args (BarePath p) = None
last_args (Normal p) = first_args (reverse p.generic_args)
last_args (LangItem item) = None

-- Of what was noted in an alias the lifetimes at the chosen places of its arguments stay. Where it is refused all does.
abbrev pub cut_path : ℕ → List Bool → List LifetimeRef → Option HirPath → SideOutput → SideOutput
cut_path mark places ls None n = n
cut_path mark places ls (Some p) n = cut_args mark places ls (last_args p) n

-- of one with these arguments
abbrev pub cut_with : ℕ → List Bool → GenericArgs → Lowering (Unit {0})
cut_with mark places a = with_stored (λ s. track_down (cut_args mark places s.lifetimes.entries (Some a)))

unfoldable pub cut_back : ℕ → List Bool → Option HirPath → Lowering (Unit {0})
cut_back mark places p = with_stored (λ s. track_down (cut_path mark places s.lifetimes.entries p))

-- where it is an alias at all
abbrev pub cut_where : ℕ → Option (List Bool) → Option HirPath → Lowering (Unit {0})
cut_where mark None p = pure tt
cut_where mark (Some places) p = cut_back mark places p

-- a path that is read
abbrev pub path_cut : ℕ → Option (List Bool) → Option HirPath → Lowering (Option HirPath)
path_cut mark alias p = do
  cut_where mark alias p
  pure p

-- a path, where it is an alias in an argument with the places of the lifetimes that its type names
abbrev pub with_alias : Option (List Bool) → Lowering (Option HirPath) → Lowering (Option HirPath)
with_alias None path = path
with_alias (Some places) path = do
  mark ← input_end
  p ← path
  cut_back mark places p
  pure p

-- arguments of a segment

abbrev pub output_name : Name
output_name = name.Text (codes "Output")

-- the arguments `(A) -> C`, of the tuple of its types and of what it answers
abbrev pub sugared_args : TypeRefId → TypeRefId → GenericArgs
sugared_args tuple output = of_args (arg.Type_ tuple ∷ []) false (of_binding output_name None (Some output) [] ∷ []) parens.ParenSugar

unfoldable pub parens_form : Lowering (List TypeRefId) → Lowering TypeRefId → Lowering (Option GenericArgs)
parens_form types output = do
  ts ← types
  t ← alloc_type (ty.Tuple ts) None
  o ← output
  pure (Some (sugared_args t o))

-- `(..)`
abbrev pub notation : GenericArgs
notation = of_args [] false [] parens.ReturnTypeNotation

-- it stands where nothing else was found
abbrev pub or_notation : Option GenericArgs → Bool → Option GenericArgs
or_notation None true = Some notation
or_notation found written = found

abbrev pub or_else : Option GenericArgs → Lowering (Option GenericArgs) → Lowering (Option GenericArgs)
or_else (Some a) next = pure (Some a)
or_else None next = next

-- of `<..>`, `(A) -> C` and `(..)` the first that yields any
unfoldable pub segment_args_form : Lowering (Option GenericArgs) → Lowering (Option GenericArgs) → Bool → Lowering (Option GenericArgs)
segment_args_form args parens dots = do
  a ← args
  p ← or_else a parens
  pure (or_notation p dots)
