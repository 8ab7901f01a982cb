-- The steps of a walk, as what they add to the items that are read.
use Rattle.std.proofs.Common.{arith, ◌≡◌, ◌∙◌, refl, ap, ℕ, ◌+◌, ◌≤◌, List, [], ◌∷◌, Option, Some, None, Bool, true}
use Rattle.std.proofs.Common.{false}
use Rattle.std.specs.Prelude.{if◌then◌else◌, nat_lt, ◌^◌, option_map}
use Rattle.hir_store.specs.Pointers.{Pointer}
use Rattle.hir_store.specs.Stored.{Stored}
use Rattle.hir_store.specs.declared.ids.TypeRefId.{TypeRefId}
use Rattle.hir_store.specs.declared.name.Name.{Name}
use Rattle.hir_store.specs.declared.path.PathKind.TheVariants as kind
use Rattle.hir_store.specs.declared.path.GenericArgs.{GenericArgs}
use Rattle.hir_store.specs.declared.path.Path.{Path as HirPath}
use Rattle.hir_store.specs.declared.type_ref.TypeRef.{TypeRef}
use Rattle.hir_store.specs.declared.type_ref.TypeRef.TheVariants as ty
use Rattle.hir_store.specs.declared.type_ref.TypeBound.{TypeBound}
use Rattle.hir_store.specs.declared.type_ref.TypeBound.TheVariants as bound
use Rattle.hir_env.specs.ResolvedTree.{Binder}
use Rattle.hir_lower_builder.specs.declared.walk.PathWalk.{PathWalk}
use Rattle.hir_lower_builder.specs.declared.walk.Reading.{Reading}
use Rattle.hir_lower_builder.specs.declared.walk.Reading.TheVariants.{Refused, Ended, Open}
use Rattle.hir_lower_builder.specs.Lowering.{Lowering, ◌>>=◌, pure}
use Rattle.hir_lower_builder.specs.Walks as walks
use Rattle.hir_lower_builder.specs.Walks.{start, at_first, super_read, path_read, projected, anchored}
use Rattle.hir_lower_builder.specs.Paths.{proceed, or_count_out, with_trait, read_trait}
use Rattle.hir_lower_builder.specs.Types.{path_type_form, path_or_error, path_bound_form, path_bound_of, stored_path_bound, stored_modifier}
use Rattle.thm_logic.proofs.Frames.{Frame}
use Rattle.thm_logic.proofs.Steps.{Mark, Rel, Correct, correct_bind, correct_as, correct_pure, correct_count_out}
use Rattle.thm_logic.proofs.TypeSteps.{correct_alloc_type, AllocatedType}
use Rattle.spec_data.specs.Data as datum
use Rattle.spec_data.specs.Data.{TypeData, typed, OptionArgsData}
use Rattle.spec_data.specs.Rule as rule
use Rattle.spec_data.specs.Rule.{PathRead, Item, named, super_, anchor, projection}
use Rattle.spec_data.specs.Written as written
use Rattle.thm_round_trip.proofs.Layers.{a_list, a_type, a_shape, a_bound, within, Reads, type_at}
use Rattle.thm_round_trip.proofs.Walk.{item, Says, says_later, says_named, says_refused, says_super, says_anchor, says_trait, says_answers}
use Rattle.thm_round_trip.proofs.Walk.{Closed, Answers, matches_read, begins}

-- from what was read this is read, where these items are added
pub record Goes (from : Reading) (add : List Item → List Item) (final : Stored) (ps : List Frame) (m m' : Mark) (r : Reading) : Type 0 where
  pub says : (is : List Item) → Says final m.entries is from → Says final m'.entries (add is) r

-- it is read at once
pub goes_at_once : {from : Reading} {add : List Item → List Item} (r : Reading)
    → ((final : Stored) (n : ℕ) (is : List Item) → Says final n is from → Says final n (add is) r) → Correct (pure r) (Goes from add)
goes_at_once r h = correct_as (correct_pure r)
    (λ final ps m m' x g row. rw (row.is, row.still) (record { says = λ is k. h final m.entries is k }))

-- more is read, unless it was refused or has ended
pub then_goes : {from : Reading} {add more : List Item → List Item} {p : Lowering Reading} {f : PathWalk → Lowering Reading}
    → Correct p (Goes from add)
    → ((final : Stored) (n : ℕ) (r : Reading) → Closed final n r → (is : List Item) → Says final n is r → Says final n (more is) r)
    → ((w : PathWalk) → Correct (f w) (Goes (Open w) more)) → Correct (p >>= (λ r. proceed r f)) (Goes from (λ is. more (add is)))
then_goes {from = from} {add = add} {more = more} {f = f} h closed k = correct_as (correct_bind h (λ r. proceeds r))
    (λ final ps m m' r g row. record { says = λ is s. row.second.says (add is) (row.first.says is s) })
  where
    proceeds : (r : Reading) → Correct (proceed r f) (Goes r more)
    proceeds Refused = goes_at_once Refused (λ final n is s. closed final n Refused tt is s)
    proceeds (Ended w) = goes_at_once (Ended w) (λ final n is s. closed final n (Ended w) tt is s)
    proceeds (Open w) = k w

-- segments

-- a name, with what stands beside it
pub named_goes : {x : OptionArgsData} {p : Lowering (Option GenericArgs)} (l : Bool) (n : Name) (w : PathWalk) → Correct p (Reads a_list x)
    → Correct (p >>= (λ a. pure (walks.named n a (at_first l w))))
    (Goes (Open w) (λ is. item l (named (record { name = n; args = x })) ∷ is))
named_goes {x = x} l n w h = correct_as (correct_bind h (λ a. correct_pure (walks.named n a (at_first l w))))
    (λ final ps m m' r g row. rw (row.second.is, row.second.still) (record {
      says = λ is s. says_named final row.middle.entries l is (record { name = n; args = x }) row.one w row.first.is
          (says_later final m.entries row.middle.entries is (Open w) row.before.entries s);
    }))

abbrev one_super : PathWalk → Bool → Option Reading
one_super w c = option_map (λ k. Open (record w { kind = k })) (if c then Some (kind.Super (walks.supers w.kind + 1)) else None)

pub super_goes : (l : Bool) (w : PathWalk) → Correct (or_count_out (super_read (at_first l w))) (Goes (Open w) (λ is. item l super_ ∷ is))
super_goes l w = by (nat_lt (walks.supers (at_first l w).kind + 1) (2 ^ 32))
  where
    by : (c : Bool) → Correct (or_count_out (one_super (at_first l w) c)) (Goes (Open w) (λ is. item l super_ ∷ is))
    by true = goes_at_once (Open (record (at_first l w) { kind = kind.Super (walks.supers (at_first l w).kind + 1) }))
        (λ final n is s. says_super final n l is w s)
    by false = correct_count_out (Goes (Open w) (λ is. item l super_ ∷ is))

pub anchor_goes : {t : TypeData} {p : Lowering TypeRefId} (l : Bool) (w : PathWalk) → Correct p (Reads a_type t)
    → Correct (p >>= (λ i. pure (anchored i (at_first l w)))) (Goes (Open w) (λ is. item l (anchor t) ∷ is))
anchor_goes {t = t} l w h = correct_as (correct_bind h (λ i. correct_pure (anchored i (at_first l w))))
    (λ final ps m m' r g row. rw (row.second.is, row.second.still) (record {
      says = λ is s. says_anchor final row.middle.entries l is t row.one w row.first.is
          (says_later final m.entries row.middle.entries is (Open w) row.before.entries s);
    }))

-- whole paths

-- on both sides nothing, or a path that is read so
pub record PathIs (y : Option PathRead) (final : Stored) (ps : List Frame) (m m' : Mark) (o : Option HirPath) : Type 0 where
  pub is : Answers final m'.entries y o

pub none_is : Correct (pure None) (PathIs None)
none_is = correct_as (correct_pure None) (λ final ps m m' o g row. rw row.is (record { is = tt }))

pub path_is : {add : List Item → List Item} {p : Lowering Reading} → Correct p (Goes (Open start) add)
    → Correct (p >>= (λ r. pure (path_read r))) (PathIs (rule.path_read (rule.read (add []))))
path_is {add = add} h = correct_as (correct_bind h (λ r. correct_pure (path_read r)))
    (λ final ps m m' o g row. rw (row.second.is, row.second.still) (record {
      is = says_answers final row.middle.entries (add []) row.one (row.first.says [] (begins final m.entries));
    }))

answers_later : (final : Stored) (n n' : ℕ) (y : Option PathRead) (o : Option HirPath) → n ≤ n' → Answers final n y o → Answers final n' y o
answers_later final n n' None None le h = h
answers_later final n n' None (Some p) le h = absurd h
answers_later final n n' (Some x) None le h = absurd h
answers_later final n n' (Some x) (Some p) le h = record {
  named = h.named;
  kind = h.kind;
  names = h.names;
  args = λ d ge. h.args d (omega (le, ge, arith));
  anchor = λ d ge. h.anchor d (omega (le, ge, arith));
  bare = h.bare;
}

abbrev shape_of : Stored → ℕ → TypeRef → datum.Shape
shape_of final d t = a_shape final (within final d) t

-- a path that is absent or refused is an error
pub path_type_reads : (y : Option PathRead) {p : Lowering (Option HirPath)} (at : Pointer) → Correct p (PathIs y)
    → Correct (path_type_form at p) (Reads a_type (typed (Some at) (written.shape_of_path y)))
unfolding path_type_form
path_type_reads y at h = correct_as (correct_bind h (λ o. correct_alloc_type (path_or_error o) (Some at)))
    (λ final ps m m' i g row. type_at row.second (λ d le. go final row.middle.entries y row.one row.first.is d le))
  where
    go : (final : Stored) (n : ℕ) (y : Option PathRead) (o : Option HirPath) → Answers final n y o → (d : ℕ) → n ≤ d
        → shape_of final d (path_or_error o) ≡ written.shape_of_path y
    go final n None None h d le = refl
    go final n None (Some p) h d le = absurd h
    go final n (Some x) None h d le = absurd h
    go final n (Some x) (Some p) h d le = ap datum.path_shape (matches_read final n x p h d le)

-- what a bound is made of its path
record PathStored (at : Pointer) (maybe : Bool) (binder : Binder) (p : HirPath)
    (final : Stored) (ps : List Frame) (m m' : Mark) (b : TypeBound) : Type 0 where
  number : TypeRefId
  is : b ≡ stored_path_bound maybe binder number
  stored : AllocatedType (ty.Path p) (Some at) final ps m m' number

abbrev BoundStored : Pointer → Bool → Binder → Option HirPath → Rel TypeBound
BoundStored at maybe binder None final ps m m' b = b ≡ bound.Error
BoundStored at maybe binder (Some p) final ps m m' b = PathStored at maybe binder p final ps m m' b

bound_stored : (at : Pointer) (maybe : Bool) (binder : Binder) (o : Option HirPath)
    → Correct (path_bound_of at maybe binder o) (BoundStored at maybe binder o)
bound_stored at maybe binder None = correct_as (correct_pure bound.Error) (λ final ps m m' b g row. row.is)
bound_stored at maybe binder (Some p) =
    correct_as (correct_bind (correct_alloc_type (ty.Path p) (Some at)) (λ i. correct_pure (stored_path_bound maybe binder i)))
    (λ final ps m m' b g row. rw row.second.still (record { number = row.one; is = row.second.is; stored = row.first }))

same_modifier : (maybe : Bool) → stored_modifier maybe ≡ written.modifier_of maybe
same_modifier false = refl
same_modifier true = refl

bound_read : (final : Stored) (d : ℕ) (binder : Binder) (maybe : Bool) (i : TypeRefId)
    → a_bound final (within final d) (stored_path_bound maybe binder i)
    ≡ written.bound_behind binder (written.modifier_of maybe) ((within final d).type i)
bound_read final d [] maybe i = ap (datum.path_bound ((within final d).type i)) (same_modifier maybe)
bound_read final d (n ∷ ns) maybe i = refl

pub path_bound_reads : (y : Option PathRead) {p : Lowering (Option HirPath)} (at : Pointer) (maybe : Bool) (binder : Binder)
    → Correct p (PathIs y) → Correct (path_bound_form at maybe binder p) (Reads a_bound (written.bound_of_path at binder maybe y))
unfolding path_bound_form
path_bound_reads y at maybe binder h = correct_as (correct_bind h (λ o. bound_stored at maybe binder o))
    (λ final ps m m' b g row. record { is = λ d le. go final ps row.middle m' y row.one b row.first.is row.second d le })
  where
    go : (final : Stored) (ps : List Frame) (m m' : Mark) (y : Option PathRead) (o : Option HirPath) (b : TypeBound)
        → Answers final m.entries y o → BoundStored at maybe binder o final ps m m' b → (d : ℕ) → m'.entries ≤ d
        → a_bound final (within final d) b ≡ written.bound_of_path at binder maybe y
    go final ps m m' None None b h row d le = ap (a_bound final (within final d)) row
    go final ps m m' None (Some p) b h row d le = absurd h
    go final ps m m' (Some x) None b h row d le = absurd h
    go final ps m m' (Some x) (Some p) b h row d le =
        let t = type_at {m0 = m} row.stored (λ n ge. ap datum.path_shape (matches_read final m.entries x p h n ge)) in
        ap (a_bound final (within final d)) row.is ∙ (bound_read final d binder maybe row.number
        ∙ ap (written.bound_behind binder (written.modifier_of maybe)) (t.is d le))

-- `<T as Trait>`, whose path is stored as a type too

abbrev pub trait_reading : TypeRefId → PathWalk → Option HirPath → Reading
trait_reading i w None = Refused
trait_reading i w (Some p) = projected i p w

pub record Is {A : Type 0} (x : A) (final : Stored) (ps : List Frame) (m m' : Mark) (a : A) : Type 0 where
  pub is : a ≡ x

pub trait_read : (i : TypeRefId) (at : Pointer) (w : PathWalk) (o : Option HirPath)
    → Correct (read_trait i at w o) (Is (trait_reading i w o))
trait_read i at w None = correct_as (correct_pure Refused) (λ final ps m m' r g row. record { is = row.is })
trait_read i at w (Some p) = correct_as (correct_bind (correct_alloc_type (ty.Path p) (Some at)) (λ _. correct_pure (projected i p w)))
    (λ final ps m m' r g row. record { is = row.second.is })

pub trait_goes : (y : Option PathRead) {t : TypeData} {p : Lowering TypeRefId} {q : Lowering (Option HirPath)} (l : Bool) (at : Pointer)
    (w : PathWalk) → Correct p (Reads a_type t) → Correct q (PathIs y)
    → Correct (p >>= (λ i. with_trait q i at (at_first l w))) (Goes (Open w) (λ is. item l (projection t y) ∷ is))
unfolding with_trait
trait_goes y {t = t} l at w hp hq =
    correct_as (correct_bind hp (λ i. correct_bind hq (λ o. trait_read i at (at_first l w) o)))
    (λ final ps m m' r g row. let s = row.second in rw s.second.is (record {
      says = λ is k. go final m'.entries y row.one s.one is
          (λ d le. row.first.is d (omega (le, s.before.entries, s.after.entries, arith)))
          (answers_later final s.middle.entries m'.entries y s.one s.after.entries s.first.is)
          (says_later final m.entries m'.entries is (Open w) g.entries k);
    }))
  where
    go : (final : Stored) (n : ℕ) (y : Option PathRead) (i : TypeRefId) (o : Option HirPath) (is : List Item)
        → ((d : ℕ) → n ≤ d → (within final d).type i ≡ t) → Answers final n y o → Says final n is (Open w)
        → Says final n (item l (projection t y) ∷ is) (trait_reading i (at_first l w) o)
    go final n None i None is e a h = says_refused final n (item l (projection t None)) is w refl h
    go final n None i (Some p) is e a h = absurd a
    go final n (Some x) i None is e a h = absurd a
    go final n (Some x) i (Some p) is e a h = says_trait final n l is t i x p w e a h
