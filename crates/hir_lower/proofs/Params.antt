-- The parameters of a body are read back as they are written, and handed in as the body wants them.
use Rattle.std.proofs.Common.{arith, ◌≡◌, ◌≤◌, ◌∙◌, refl, sym, ap, subst, ℕ, suc, Bool, length, map, List, []}
use Rattle.std.proofs.Common.{◌∷◌, ◌++◌, Option, Some, None, option_map, slice_get, Result, Ok, Err, true≢false, is_some}
use Rattle.std.proofs.lemmas.List.{length-map}
use Rattle.std.specs.Prelude.{IfOk, option_and_then}
use Rattle.hir_store.specs.Pointers.{Pointer}
use Rattle.hir_store.specs.Stored.{Store, SourceMap, Stored, store_of, map_of}
use Rattle.hir_store.specs.StoreSink as store_sink
use Rattle.hir_store.specs.StoreSink.{Extends, root_at}
use Rattle.hir_store.specs.declared.diagnostics.MissingBodyItemKind.{MissingBodyItemKind}
use Rattle.hir_store.specs.declared.hir.CoroutineKind.{CoroutineKind}
use Rattle.hir_store.specs.declared.hir.Statement.{Statement}
use Rattle.hir_store.specs.declared.ids.BindingId.{BindingId}
use Rattle.hir_store.specs.declared.ids.ExprId.{ExprId}
use Rattle.hir_store.specs.declared.ids.PatId.{PatId}
use Rattle.hir_store.specs.declared.pat.Binding.{Binding}
use Rattle.hir_store.proofs.Extending.{extends_root, extends_trans}
use Rattle.hir_env.specs.ResolvedTree as tree
use Rattle.hir_env.specs.ResolvedTree.{Formals, OptionExpr, SelfFormal}
use Rattle.spec_data.specs.Data.{PatData}
use Rattle.spec_data.specs.Patterns.{written_pat}
use Rattle.spec_data.specs.Preludes.{formal_patterns}
use Rattle.spec_data.specs.Reading.{stored_pat}
use Rattle.spec_data.specs.Tops.{Tops}
use Rattle.hir_lower_builder.specs.Builder.{Builder}
use Rattle.hir_lower_builder.specs.Lowering.{Checked, Lowering}
use Rattle.thm_round_trip.proofs.Params.{pats_in}
use Rattle.thm_logic.specs.Keeps.{Keeps, KeepsAll, Paired}
use Rattle.thm_logic.proofs.Frames.{Frame}
use Rattle.thm_logic.proofs.Keeping.{keeping}
use Rattle.thm_logic.proofs.Steps.{Mark, Correct, correct_as, correct_bind, correct_in_store, correct_pure}
use Rattle.thm_semantics.specs.Reached.{Spread}
use Rattle.thm_semantics.proofs.Holding.{SameIn}
use Rattle.thm_body_result.specs.Diagnostics.{Faults}
use Rattle.thm_body_result.specs.Leads.{Mapping}
use Rattle.thm_body_result.specs.Formals.{lower_body, lower_formals, plain_body}
use Rattle.thm_body_result.specs.OneResult.{CorrespondsBody, CorrespondsSelf, fresh_owing}
use Rattle.thm_body_result.specs.Room.{formals_data}
use Rattle.thm_body_result.specs.CorrespondsPreludes.{CorrespondsSelfLet}
use Rattle.thm_body_result.proofs.AfterLowering.{after_lowering}
use Rattle.thm_body_result.proofs.Formals.{each_now}
use Rattle.thm_body_result.proofs.Whole.{one_results}
use Rattle.thm_type_result.specs.Named.{of_exprs, of_pats_alone}
use Rattle.thm_type_result.specs.Pats.{of_types, pats_reached}
use Rattle.thm_type_result.specs.Reached.{of_each}
use Rattle.hir_lower.specs.Formals.{Given, Received, formals_read}
use Rattle.hir_lower.specs.Means.{AreHandedIn, HasParams, IsSelfHandedIn, kind_unless_skipped, owed_faults, pats_inner_bodies}
use Rattle.hir_lower.specs.Means.{receiver_read, unless_skipped}
use Rattle.hir_lower.specs.Roots.{GivenFromNothing, StoresFromNothing, body_of, both, both_if_present, new_builder, given_of}
use Rattle.hir_lower.specs.declared.body.Body.{Body}
use Rattle.hir_lower.proofs.Behind.{PlainSteps, Steps, answered, inside_root, item_is, plain_steps, with_root, steps}
use Rattle.hir_lower.proofs.BodyTypes.{all_pats_once}
use Rattle.hir_lower.proofs.FunctionParams.{function_reads}
use Rattle.hir_lower.proofs.ParamBodies.{bodies_inside, read_bodies, self_any}

-- patterns

record ReceivedNow (xs : List PatData) (final : Stored) (ps : List Frame) (m m' : Mark) (received : Received) : Type 0 where
  reads : pats_in final received.1 ≡ xs

received_now : (skipped : Bool) (f : Formals) → Correct (lower_formals skipped f) (ReceivedNow (formals_data skipped f.formals))
unfolding lower_formals
received_now skipped f =
    correct_as (correct_bind (self_any f.receiver) (λ s. correct_bind (each_now skipped [] f.formals) (λ ids. correct_pure (s, ids))))
    (λ final ps m m' received g row.
    let own = row.second in
    rw own.second.is (record { reads = ap (pats_in final) own.first.is ∙ own.first.reads }))

-- What the outside hands its arguments to: what was written, or the formal patterns of that.
abbrev HandedTo : Option CoroutineKind → Stored → Given → List PatData → Type 0
HandedTo None s given ds = given.0 ≡ given.1
HandedTo (Some kind) s given ds = pats_in s given.0.1 ≡ formal_patterns ds

record Reads (kind : Option CoroutineKind) (skipped : Bool) (f : Formals) (given : Given) (s : Stored) : Type 0 where
  patterns : pats_in s given.1.1 ≡ formals_data skipped f.formals
  inner : SameIn s (pats_inner_bodies (store_of s) given.1.1) (read_bodies skipped f.formals)
  handed : HandedTo kind s given (formals_data skipped f.formals)

module _ (skipped : Bool) (f : Formals) (e : OptionExpr) (b b' : Builder) (given : Given) (i : ExprId) (paired : Paired b.stored)
    (final : Stored) (stays : Extends b'.stored final) where
  plain_reads : plain_body skipped f e b ≡ (Ok (given, i), b') → Reads None skipped f given final
  plain_reads is =
      let s : PlainSteps skipped f e b given i b' = plain_steps skipped f e b b' given i is in
      let kept : KeepsAll s.middle b' = subst (λ r. Keeps s.middle r.0 r.1) s.body (keeping e s.middle) in
      let later = extends_trans kept.stays stays in
      let P : Given → Type 0 = λ g. Reads None skipped f g final in
      subst P (sym s.is) (record {
        patterns = (answered (received_now skipped f) b s.middle s.received paired s.formals final later).reads;
        inner = bodies_inside skipped f b s.middle s.received paired s.formals final later;
        handed = refl;
      })

  coroutine_reads : (kind : CoroutineKind) → lower_body (Some kind) skipped f e b ≡ (Ok (given, i), b')
      → Reads (Some kind) skipped f given final
  unfolding pats_inner_bodies
  coroutine_reads kind is =
      let r = after_lowering (correct_in_store (function_reads kind skipped f e)) b (given, i) b' paired is final stays in record {
        patterns = r.rel.patterns;
        inner = r.rel.same _ (omega (arith, r.nodes, r.entries));
        handed = r.rel.formals;
      }

  reads : (kind : Option CoroutineKind) → lower_body kind skipped f e b ≡ (Ok (given, i), b') → Reads kind skipped f given final
  reads None is = plain_reads is
  reads (Some kind) is = coroutine_reads kind is

-- `self`

-- the binding of this number, where there is one
abbrev bound : List Binding → Option BindingId → Option Binding
bound bs o = option_and_then (λ i. slice_get bs i.0) o

-- The outside hands it to what was written, or to another binding that is the same.
abbrev SelfTo : Option CoroutineKind → List Binding → Given → SelfFormal → Type 0
SelfTo None bs given s = given.0 ≡ given.1
SelfTo (Some kind) bs given s = bound bs given.0.0 ≡ receiver_read s

record SelfReads (kind : Option CoroutineKind) (store : Store) (given : Given) (s : SelfFormal) : Type 0 where
  written : bound store.bindings given.1.0 ≡ receiver_read s
  handed : SelfTo kind store.bindings given s
  alike : is_some given.0.0 ≡ is_some given.1.0

record SelfCorresponds (bs : List Binding) (s : SelfFormal) (o : Option BindingId) : Type 0 where
  is : bound bs o ≡ receiver_read s
  there : is_some o ≡ is_some (receiver_read s)

absent_corresponds : (bs : List Binding) (s : SelfFormal) (o : Option BindingId) → receiver_read s ≡ None → o ≡ None
    → SelfCorresponds bs s o
absent_corresponds bs s o none h = record { is = ap (bound bs) h ∙ sym none; there = ap is_some h ∙ sym (ap is_some none) }

present_corresponds : (bs : List Binding) (s : SelfFormal) (o : Option BindingId) (b : BindingId) (x : Binding) → receiver_read s ≡ Some x
    → o ≡ Some b → slice_get bs b.0 ≡ Some x → SelfCorresponds bs s o
present_corresponds bs s o b x some h found =
    record { is = ap (bound bs) h ∙ (found ∙ sym some); there = ap is_some h ∙ sym (ap is_some some) }

self_corresponds : (store : Store) (s : SelfFormal) (o : Option BindingId) (ws : List Mapping) → CorrespondsSelf store s o ws
    → SelfCorresponds store.bindings s o
self_corresponds store tree.no_self o ws h = absent_corresponds store.bindings tree.no_self o refl h.0
self_corresponds store (tree.disabled_self at by) o ws h = absent_corresponds store.bindings (tree.disabled_self at by) o refl h.0
self_corresponds store (tree.self_formal at u w) o ws h = present_corresponds store.bindings (tree.self_formal at u w) o h.0 _ refl h.1 h.2

let_corresponds : (store : Store) (source_map : SourceMap) (s : SelfFormal) (o : Option BindingId) (ss : List Statement) (ws : List Mapping)
    → CorrespondsSelfLet store source_map s o ss ws → SelfCorresponds store.bindings s o
let_corresponds store source_map tree.no_self o ss ws h = absent_corresponds store.bindings tree.no_self o refl h.0
let_corresponds store source_map (tree.disabled_self at by) o ss ws h =
    absent_corresponds store.bindings (tree.disabled_self at by) o refl h.0
let_corresponds store source_map (tree.self_formal at u w) o ss ws h =
    present_corresponds store.bindings (tree.self_formal at u w) o h.0 _ refl h.3 h.6

self_reads : (kind : Option CoroutineKind) (store : Store) (source_map : SourceMap) (skipped : Bool) (f : Formals) (e : OptionExpr)
    (given : Given) (root : ExprId) (ws : List Mapping) → CorrespondsBody store source_map [] kind skipped f e given root ws
    → SelfReads kind store given f.receiver
self_reads None store source_map skipped f e given root ws h =
    let s = self_corresponds store f.receiver given.0.0 h.1.first.left h.1.first.first in
    let P : Received → Type 0 = λ r. bound store.bindings r.0 ≡ receiver_read f.receiver in record {
      written = subst P (sym h.0) s.is;
      handed = sym h.0;
      alike = ap (λ (r : Received). is_some r.0) (sym h.0);
    }
self_reads (Some kind) store source_map skipped f e given root ws h =
    let outer = self_corresponds store f.receiver given.0.0 h.6.left h.6.first in
    let lets = h.6.second.first.2.second.second in
    let inner = let_corresponds store source_map f.receiver given.1.0 h.1 lets.left lets.first in record {
      written = inner.is;
      handed = outer.is;
      alike = outer.there ∙ sym inner.there;
    }

-- the body of an item

-- however deep one looks, each pattern is reached in one way
abbrev PatsOnce : Stored → List PatId → Type 0
PatsOnce s ps = (depth : ℕ) → length s.pats.entries ≤ depth → let l = of_pats_alone (pats_reached s.pats.entries depth) in
    Spread 0 (length s.pats.entries) (of_each l.pats ps ++ (of_exprs l s.exprs.entries ++ of_types l s.types.entries))

record BodyReads (kind : Option CoroutineKind) (skipped : Bool) (f : Formals) (given : Given) (s : Stored) : Type 0 where
  reads : Reads kind skipped f given s
  self : SelfReads kind (store_of s) given f.receiver
  pats_once : PatsOnce s given.0.1

module _ (kind : Option CoroutineKind) (skipped : Bool) (f : Formals) (e : OptionExpr) (limit : ℕ) (owed : Faults) where
  abbrev start : Builder
  start = fresh_owing limit owed

  abbrev body : Lowering (Given × ExprId)
  body = lower_body kind skipped f e

  root_reads : (b' : Builder) (given : Given) (i : ExprId) (s : Steps body start given i b') → BodyReads kind skipped f given b'.stored
  unfolding store_sink.record_root
  root_reads b' given i s =
      let paired : Paired (inside_root start).stored =
      record { exprs = refl; labels = refl; pats = refl; types = refl; lifetimes = refl } in
      let root = extends_root s.inner.stored (root_at (store_of s.inner.stored) i) in
      let end = (with_root s.inner i).stored in
      let whole = one_results limit owed kind skipped f e given i s.inner s.lowered in
      let P : Builder → Type 0 = λ x. BodyReads kind skipped f given x.stored in
      subst P s.left (record {
        reads = reads skipped f e (inside_root start) s.inner given i paired end root kind s.lowered;
        self = self_reads kind (store_of end) (map_of end) skipped f e given whole.root whole.mappings whole.corresponds;
        pats_once = λ depth le. all_pats_once kind skipped f e (inside_root start) s.inner given i paired
            (record { exprs = refl; pats = refl; types = refl }) s.lowered end root depth le;
      })

-- what is written, and what it is handed in by

module _ {A : Type 0} where
  formals_back : (xs ys : List A) → length xs ≡ length ys → map (λ p. p.formal) (both xs ys) ≡ xs
  formals_back [] [] h = refl
  formals_back (x ∷ xs) (y ∷ ys) h = ap (λ zs. x ∷ zs) (formals_back xs ys (omega (arith, h)))
  formals_back [] (y ∷ ys) h = absurd (omega (arith, h))
  formals_back (x ∷ xs) [] h = absurd (omega (arith, h))

  written_back : (xs ys : List A) → length xs ≡ length ys → map (λ p. p.user_written) (both xs ys) ≡ ys
  written_back [] [] h = refl
  written_back (x ∷ xs) (y ∷ ys) h = ap (λ zs. y ∷ zs) (written_back xs ys (omega (arith, h)))
  written_back [] (y ∷ ys) h = absurd (omega (arith, h))
  written_back (x ∷ xs) [] h = absurd (omega (arith, h))

  formal_back : (x y : Option A) → is_some x ≡ is_some y → option_map (λ p. p.formal) (both_if_present x y) ≡ x
  formal_back None None h = refl
  formal_back (Some x) (Some y) h = refl
  formal_back None (Some y) h = absurd (true≢false (sym h))
  formal_back (Some x) None h = absurd (true≢false h)

  one_back : (x y : Option A) → is_some x ≡ is_some y → option_map (λ p. p.user_written) (both_if_present x y) ≡ y
  one_back None None h = refl
  one_back (Some x) (Some y) h = refl
  one_back None (Some y) h = absurd (true≢false (sym h))
  one_back (Some x) None h = absurd (true≢false h)

  -- what is done with a part of each
  through : {B D : Type 0} (part : B → A) (read : A → D) (xs : List B) → map (λ x. read (part x)) xs ≡ map read (map part xs)
  through part read [] = refl
  through part read (x ∷ xs) = ap (λ ys. read (part x) ∷ ys) (through part read xs)

  self_through : {B D : Type 0} (part : B → A) (find : A → Option D) (o : Option B)
      → option_and_then (λ x. find (part x)) o ≡ option_and_then find (option_map part o)
  self_through part find None = refl
  self_through part find (Some x) = refl

handed_length : (ds : List PatData) → length (formal_patterns ds) ≡ length ds
handed_length [] = refl
handed_length (d ∷ ds) = ap suc (handed_length ds)

as_many : (kind : Option CoroutineKind) (skipped : Bool) (f : Formals) (given : Given) (s : Stored) → Reads kind skipped f given s
    → length given.0.1 ≡ length given.1.1
as_many None skipped f given s r = ap (λ (x : Received). length x.1) r.handed
as_many (Some kind) skipped f given s r =
    let read : PatId → PatData = λ p. stored_pat (store_of s) (map_of s) p in
    sym (length-map given.0.1 read) ∙ (ap length r.handed ∙ (handed_length _ ∙ (sym (ap length r.patterns) ∙ length-map given.1.1 read)))

given_is : (b : Body) (given : Given) → length given.0.1 ≡ length given.1.1 → is_some given.0.0 ≡ is_some given.1.0
    → b.self_param ≡ both_if_present given.0.0 given.1.0 → b.params ≡ both given.0.1 given.1.1 → given_of b ≡ given
given_is b given many alike receiver params =
    let one = ap (option_map (λ p. p.formal)) receiver ∙ formal_back given.0.0 given.1.0 alike in
    let two = ap (map (λ p. p.formal)) params ∙ formals_back given.0.1 given.1.1 many in
    let three = ap (option_map (λ p. p.user_written)) receiver ∙ one_back given.0.0 given.1.0 alike in
    let four = ap (map (λ p. p.user_written)) params ∙ written_back given.0.1 given.1.1 many in
    λ j. ((one j, two j), (three j, four j))

module _ (kind : Option CoroutineKind) (skipped : Bool) (node : Pointer) (k : Option MissingBodyItemKind) (f : Formals) (e : OptionExpr)
    (limit : ℕ) where
  abbrev read_kind : Option CoroutineKind
  read_kind = kind_unless_skipped skipped kind

  item_reads : (b' : Builder) (given : Given) (i : ExprId) → body_of kind skipped node k f e (new_builder limit) ≡ (Ok (given, i), b')
      → BodyReads read_kind skipped f given b'.stored
  item_reads b' given i h =
      let read = unless_skipped skipped e in
      let owed = owed_faults skipped node k e in
      root_reads read_kind skipped f read limit owed b' given i
      (steps (lower_body read_kind skipped f read) (fresh_owing limit owed) b' given i (sym (item_is kind skipped node k f e limit) ∙ h))

  pub given_is_of : (b : Body) (g : GivenFromNothing (body_of kind skipped node k f e) limit b) → given_of b ≡ g.given
  given_is_of b g =
      let read = item_reads g.builder g.given g.root g.done in
      given_is b g.given (as_many read_kind skipped f g.given g.builder.stored read.reads) read.self.alike g.receiver g.params

  handed_in : (o : Option CoroutineKind) (s : Stored) (b : Body) (ps : Tops) → HandedTo o s (given_of b) (map written_pat ps)
      → AreHandedIn o (store_of s) (map_of s) b.params ps
  handed_in None s b ps h = ap (λ (r : Received). r.1) h
  handed_in (Some c) s b ps h = through (λ p. p.formal) (λ p. stored_pat (store_of s) (map_of s) p) b.params ∙ h

  handed_self : (o : Option CoroutineKind) (store : Store) (b : Body) (s : SelfFormal) → SelfTo o store.bindings (given_of b) s
      → IsSelfHandedIn o store b.self_param s
  handed_self None store b s h = ap (λ (r : Received). r.0) h
  handed_self (Some c) store b s h = self_through (λ p. p.formal) (λ i. slice_get store.bindings i.0) b.self_param ∙ h

  params : (b : Body) (store : Store) (source_map : SourceMap)
      → StoresFromNothing (body_of kind skipped node k f e) limit store source_map
      → GivenFromNothing (body_of kind skipped node k f e) limit b
      → HasParams read_kind store source_map b.params b.self_param skipped f
  params b store source_map s g =
      let now = g.builder.stored in
      let R : Given → Type 0 = λ x. BodyReads read_kind skipped f x now in
      let read = subst R (sym (given_is_of b g)) (item_reads g.builder g.given g.root g.done) in
      let same : s.builder.stored ≡ now = ap (λ (q : Checked (Given × ExprId) × Builder). q.1.stored) (sym s.done ∙ g.done) in
      let P : Store → Type 0 = λ x. HasParams read_kind x source_map b.params b.self_param skipped f in
      let Q : SourceMap → Type 0 = λ x. HasParams read_kind (store_of now) x b.params b.self_param skipped f in
      subst P (sym (s.store_is ∙ ap store_of same)) (subst Q (sym (s.source_map_is ∙ ap map_of same)) (record {
        patterns = through (λ p. p.user_written) (λ p. stored_pat (store_of now) (map_of now) p) b.params ∙ read.reads.patterns;
        binding = self_through (λ p. p.user_written) (λ i. slice_get now.bindings.entries i.0) b.self_param ∙ read.self.written;
        inner = read.reads.inner;
        pats_reached_once = λ depth le. read.pats_once depth le;
        handed_in = handed_in read_kind now b (formals_read skipped f.formals) read.reads.handed;
        handed_self = handed_self read_kind (store_of now) b f.receiver read.self.handed;
      }))

  pub params_if : {A E : Type 0} (whole : A → Body) (store : A → Store) (source_map : A → SourceMap) (r : Result A E)
      → IfOk r (λ a. StoresFromNothing (body_of kind skipped node k f e) limit (store a) (source_map a))
      → IfOk r (λ a. GivenFromNothing (body_of kind skipped node k f e) limit (whole a))
      → IfOk r (λ a. HasParams read_kind (store a) (source_map a) (whole a).params (whole a).self_param skipped f)
  params_if whole store source_map (Ok a) s g = params (whole a) (store a) (source_map a) s g
  params_if whole store source_map (Err x) s g = tt
