-- An argument stands in the lists behind what it gives by itself.
use Rattle.std.proofs.Common.{arith, ◌≡◌, ◌∙◌, ap, refl, subst, sym, [], None, Ok, Err}
use Rattle.hir_store.specs.Past.{Past, join}
use Rattle.hir_store.specs.Range.{Grows, Has}
use Rattle.hir_store.specs.Stored.{Stored}
use Rattle.hir_store.specs.declared.error.StoreError.{StoreError}
use Rattle.hir_env.specs.ResolvedTree as tree
use Rattle.hir_env.specs.ResolvedTree.{Arg}
use Rattle.hir_store.specs.declared.path.GenericArg.TheVariants as arg
use Rattle.hir_lower_builder.specs.Builder.{Builder}
use Rattle.hir_lower_builder.specs.Lower.{args_part, lower_arg, lower_bounds, lower_constant, present_type, type_part}
use Rattle.hir_lower_builder.specs.Lowering.{Checked, Lowering, Lowers, ◌>>=◌, go_on, pure}
use Rattle.hir_lower_builder.specs.Methods.{HasLists}
use Rattle.hir_lower_builder.specs.Types.{binding_form, lower_lifetime, past_lists}
use Rattle.hir_lower_builder.specs.declared.args.ArgLists.{ArgLists}
use Rattle.hir_lower_type.specs.Single.{HasOne, IsBehind, past_one, single_arg, with_one}
use Rattle.hir_lower_type.specs.declared.one_arg.OneArg.{OneArg}
use Rattle.hir_lower_type.specs.declared.one_arg.OneArg.TheVariants as one

-- what is done with an answer may be done in two steps
mapped : {A B C : Type 0} (f : A → B) (g : B → C) (r : Checked A) (b : Builder)
    → go_on r b (λ x. pure (g (f x))) ≡ go_on (go_on r b (λ x. pure (f x))).0 (go_on r b (λ x. pure (f x))).1 (λ y. pure (g y))
mapped f g (Ok a) b = refl
mapped f g (Err e) b = refl

-- where steps fail, what comes behind them does so too
pub fails_on : {A B : Type 0} (HasA : Stored → A → Type 0) (HasB : Stored → B → Type 0) (p : Lowering A) (f : A → Lowering B)
    (old new : Builder) (e : StoreError) → Lowers HasA p old (Err e) new → Lowers HasB (p >>= f) old (Err e) new
fails_on HasA HasB p f old new e h = λ n. (ap (λ o. go_on o.0 o.1 f) (h n).0, (h n).1)

grown : (old mid new : Builder) → Grows old.stored mid.stored → Grows mid.stored new.stored → Grows old.stored new.stored
grown old mid new a b = grind (arith)

-- where they answer, it does what it does
pub goes_on : {A B : Type 0} (HasA : Stored → A → Type 0) (HasB : Stored → B → Type 0) (p : Lowering A) (f : A → Lowering B)
    (old mid new : Builder) (a : A) (r : Checked B) → Lowers HasA p old (Ok a) mid → Lowers HasB (f a) mid r new
    → Lowers HasB (p >>= f) old r new
goes_on HasA HasB p f old mid new a (Ok b) h k = (ap (λ o. go_on o.0 o.1 f) h.0 ∙ k.0, grown old mid new h.1 k.1, k.2)
goes_on HasA HasB p f old mid new a (Err e) h k = λ n. (ap (λ o. go_on o.0 o.1 f) h.0 ∙ (k n).0, (k n).1)

pub behind_single : (l : ArgLists) (a : Arg) (b : Builder) → lower_arg l a b ≡ (single_arg a >>= (λ o. pure (with_one l o))) b
behind_single l tree.skipped_arg b = refl
behind_single l (tree.type_arg t) b = let p = type_part None t in
    mapped (λ id. one.Arg (arg.Type_ id)) (with_one l) (p b).0 (p b).1
behind_single l (tree.lifetime_arg x) b = let p = lower_lifetime x in
    mapped (λ id. one.Arg (arg.Lifetime id)) (with_one l) (p b).0 (p b).1
behind_single l (tree.const_arg c) b = let p = lower_constant c in
    mapped (λ x. one.Arg (arg.Const x)) (with_one l) (p b).0 (p b).1
behind_single l (tree.assoc_arg name as' dots t bs) b =
    let p = binding_form name dots (args_part as') (present_type t) (lower_bounds [] bs) in
    mapped one.Binding (with_one l) (p b).0 (p b).1

both_there : (s t : Stored) (p q : Past) → Grows s t → Has s p → Has t q → Has t (join p q)
both_there s t p q g h k = grind (arith)

pub lowers_behind : (l m : ArgLists) (a : Arg) (o : OneArg) (old new : Builder) → m ≡ with_one l o
    → past_lists m ≡ join (past_lists l) (past_one o) → HasLists old.stored l → Lowers HasOne (single_arg a) old (Ok o) new
    → Lowers HasLists (lower_arg l a) old (Ok m) new
lowers_behind l m a o old new e p k h = (
  behind_single l a old ∙ (ap (λ q. go_on q.0 q.1 (λ x. pure (with_one l x))) h.0 ∙ ap (λ x. (Ok x, new)) (sym e)),
  h.1,
  subst (Has new.stored) (sym p) (both_there old.stored new.stored (past_lists l) (past_one o) h.1 k h.2),
)

pub fails_behind : (l : ArgLists) (a : Arg) (old new : Builder) (e : StoreError) → Lowers HasOne (single_arg a) old (Err e) new
    → Lowers HasLists (lower_arg l a) old (Err e) new
fails_behind l a old new e h = λ n. (
  behind_single l a old ∙ ap (λ q. go_on q.0 q.1 (λ x. pure (with_one l x))) (h n).0,
  (h n).1,
)

pub found_behind : (l : ArgLists) (a : Arg) (found : Checked OneArg) (r : Checked ArgLists) (old new : Builder) → IsBehind l found r
    → HasLists old.stored l → Lowers HasOne (single_arg a) old found new → Lowers HasLists (lower_arg l a) old r new
found_behind l a (Ok o) (Ok m) old new i k h = lowers_behind l m a o old new i.0 i.1 k h
found_behind l a (Ok o) (Err e) old new i k h = λ n. absurd (n i)
found_behind l a (Err e) r old new i k h = subst (λ q. Lowers HasLists (lower_arg l a) old q new) (sym i) (fails_behind l a old new e h)
