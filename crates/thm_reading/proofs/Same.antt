-- What the rules say of scopes and of aliases in words of their own is what the reading says.
use Rattle.std.proofs.Common.{◌≡◌, refl, Bool, true, false, List, [], ◌∷◌, map, Option, Some, None, option_map, if◌then◌else◌}
use Rattle.hir_store.specs.declared.ids.CtxId.{CtxId}
use Rattle.hir_store.specs.declared.path.ModPath.{ModPath}
use Rattle.hir_alias.specs.Alias.{Alias}
use Rattle.hir_env.specs.ResolvedTree as tree
use Rattle.hir_env.specs.ResolvedTree.{Path, Segment, Segments}
use Rattle.hir_env.specs.Answers.{Answers}
use Rattle.hir_env.specs.LocalPaths.{at_local_root, is_bare}
use Rattle.hir_env.specs.PathNames.{mod_path_of}
use Rattle.hir_env.specs.Paths as of
use Rattle.hir_env.specs.declared.ctx.LifetimeScope.{LifetimeScope}
use Rattle.hir_env.specs.declared.ctx.LifetimeScope.TheVariants as scope
use Rattle.hir_env.specs.declared.ctx.LowerCtx.{LowerCtx}
use Rattle.hir_env.specs.declared.resolved.Resolution.{Resolution}
use Rattle.hir_env.specs.declared.resolved.Resolution.TheVariants as resolution
use Rattle.hir_env.specs.Pats as of_pats
use Rattle.hir_env.specs.Answering.{def_named, label_name, label_of, name_or_missing, numbered}
use Rattle.hir_env.specs.declared.ctx.LoweringMode.{LoweringMode}
use Rattle.hir_env.specs.declared.ctx.LoweringMode.TheVariants as reads
use Rattle.hir_base.specs.declared.node.NodeId.{NodeId}
use Rattle.hir_syntax.specs.declared.ast.Label.{Label as AstLabel}
use Rattle.hir_syntax.specs.declared.ast.Lifetime.{Lifetime as AstLifetime}
use Rattle.hir_syntax.specs.declared.ast.Name.{Name as AstName}
use Rattle.hir_syntax.specs.declared.types.UseArg.{UseArg as AstUseArg}
use Rattle.hir_syntax.specs.declared.types.UseArg.TheVariants as used
use Rattle.hir_store.specs.declared.name.Name.TheVariants as name
use Rattle.thm_reading.specs.Shapes.{root_if}
use Rattle.thm_reading.specs.LowerCtx.{binding_mode, def_here, is_named_value, label_here, label_text, names_it, node, number_here}
use Rattle.thm_reading.specs.LowerCtx.{number_in}
use Rattle.thm_reading.specs.LowerCtx.{site, corresponds_to_value, use_here}
use Rattle.thm_reading.specs.LowerCtx.{alias_here, impl_scope, lifetimes_named, of_alias, projection_scope}

pub impl_same : (s : LifetimeScope) → of.in_impl_scope s ≡ impl_scope s
impl_same scope.Nowhere = refl
impl_same scope.Bound = refl
impl_same scope.Input = refl
impl_same scope.Projection = refl
impl_same scope.Output = refl

pub projection_same : (s : LifetimeScope) → of.in_projection_scope s ≡ projection_scope s
projection_same scope.Nowhere = refl
projection_same scope.Bound = refl
projection_same scope.Input = refl
projection_same scope.Projection = refl
projection_same scope.Output = refl

use_arg_same : (p : LowerCtx) (x : AstUseArg) → of.use_of p x ≡ use_here p x
use_arg_same p (used.Lifetime l) = refl
use_arg_same p (used.Name n) = refl

pub use_args_same : (p : LowerCtx) (xs : List AstUseArg) → map (of.use_of p) xs ≡ map (use_here p) xs
use_args_same p [] = refl
use_args_same p (x ∷ xs) = λ i. use_arg_same p x i ∷ use_args_same p xs i

module _ (a : Answers) where
  flags_same : (x : Option Alias) → of.flags_of x ≡ lifetimes_named x
  flags_same None = refl
  flags_same (Some x) = refl

  found_same : (r : Option Resolution) → of.alias_found a r ≡ of_alias a r
  found_same None = refl
  found_same (Some (resolution.TypeAlias n)) = λ i. Some (flags_same (a.alias n) i)
  found_same (Some resolution.Module) = refl
  found_same (Some resolution.Function) = refl
  found_same (Some resolution.Struct) = refl
  found_same (Some resolution.Union) = refl
  found_same (Some resolution.Enum) = refl
  found_same (Some resolution.Variant) = refl
  found_same (Some resolution.Const) = refl
  found_same (Some resolution.Static) = refl
  found_same (Some resolution.Trait) = refl
  found_same (Some resolution.BuiltinType) = refl

  in_same : (p : LowerCtx) (s : LifetimeScope) (x : ModPath) → of.alias_in s a p.module_id x ≡ alias_here a p s (Some x)
  in_same p scope.Input x = found_same _
  in_same p scope.Nowhere x = refl
  in_same p scope.Bound x = refl
  in_same p scope.Projection x = refl
  in_same p scope.Output x = refl

  none_same : (p : LowerCtx) (s : LifetimeScope) → None ≡ alias_here a p s None
  none_same p scope.Input = refl
  none_same p scope.Nowhere = refl
  none_same p scope.Bound = refl
  none_same p scope.Projection = refl
  none_same p scope.Output = refl

  by_names : (p : LowerCtx) (x : Option ModPath) → of.alias_or_none a p x ≡ alias_here a p p.lifetimes x
  by_names p None = none_same p p.lifetimes
  by_names p (Some x) = in_same p p.lifetimes x

  pub alias_same : (p : LowerCtx) (x : Path) → of.alias_at a p x ≡ alias_here a p p.lifetimes (mod_path_of (tree.some_path x))
  alias_same p x = by_names p (mod_path_of (tree.some_path x))

  pub root_same : (c : CtxId) (local : Bool) (leading : Bool) (f : Segment) (r : Segments)
      → at_local_root (if local then Some (a.crate_root c) else None) (tree.path None leading f r tree.no_path)
      ≡ tree.path None leading f r (root_if a c local (is_bare (mod_path_of (tree.some_path (tree.path None leading f r tree.no_path)))))
  root_same c false leading f r = refl
  root_same c true leading f r = by (is_bare (mod_path_of (tree.some_path (tree.path None leading f r tree.no_path))))
    where
      by : (b : Bool) → (if b then tree.path None leading f r (tree.some_path (tree.path None false
          (tree.dollar_crate_segment (a.crate_root c)) tree.no_segments tree.no_path)) else tree.path None leading f r tree.no_path)
          ≡ tree.path None leading f r (root_if a c true b)
      by true = refl
      by false = refl

-- names, labels and numbers

mode_same : (r m : Bool) → of_pats.mode_of r m ≡ binding_mode r m
mode_same true true = refl
mode_same true false = refl
mode_same false true = refl
mode_same false false = refl

module _ (a : Answers) where
  pub use_same : (p : LowerCtx) (n : Option AstName) (r m : Bool) → of_pats.use_at a p n r m ≡ names_it a p n r m
  use_same p None r m = λ i. record { name = name.Missing; hygiene = record { 0 = 0 }; mode = mode_same r m i }
  use_same p (Some n) r m =
      λ i. record { name = name.Text n.t; hygiene = a.hygiene (site (node p n.id n.range)); mode = mode_same r m i }

  value_same : (r : Option Resolution) → of_pats.is_constant r ≡ is_named_value r
  value_same None = refl
  value_same (Some resolution.Module) = refl
  value_same (Some resolution.Function) = refl
  value_same (Some resolution.Struct) = refl
  value_same (Some resolution.Union) = refl
  value_same (Some resolution.Enum) = refl
  value_same (Some resolution.Variant) = refl
  value_same (Some resolution.Const) = refl
  value_same (Some resolution.Static) = refl
  value_same (Some resolution.Trait) = refl
  value_same (Some resolution.BuiltinType) = refl
  value_same (Some (resolution.TypeAlias n)) = refl

  pub found_name_same : (p : LowerCtx) (n : Option AstName) → of_pats.is_found a p (name_or_missing n) ≡ corresponds_to_value a p n
  found_name_same p None = value_same _
  found_name_same p (Some n) = value_same _

  pub label_same : (p : LowerCtx) (l : Option AstLabel) → option_map (label_of a p) l ≡ label_here a p l
  label_same p None = refl
  label_same p (Some l) = λ i. Some (record {
    pointer = node p l.id l.range;
    name = by l.lifetime i;
    hygiene = a.hygiene (site (node p l.id l.range));
  })
    where
      by : (x : Option AstLifetime) → label_name x ≡ label_text x
      by None = refl
      by (Some x) = refl

  number_by : (m : LoweringMode) (p : LowerCtx) (id : NodeId) → numbered a (record p { mode = m }) id ≡ number_in a m p id
  number_by reads.Analysis p id = refl
  number_by reads.Untracked p id = refl

  pub number_same : (p : LowerCtx) (id : NodeId) → numbered a p id ≡ number_here a p id
  number_same p id = number_by p.mode p id

  pub def_same : (p : LowerCtx) (n : Option AstName) → def_named a p n ≡ def_here a p n
  def_same p None = refl
  def_same p (Some n) = refl
