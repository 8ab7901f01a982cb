-- What is lowered as the body of an item, behind its parameters, is what is written.
use Rattle.std.proofs.Common.{◌≡◌, ◌∙◌, refl, sym, ap, subst, ℕ, Bool, [], ◌∷◌, ◌++◌, Option, Some, None, Result, Ok, Err}
use Rattle.std.specs.Prelude.{IfOk}
use Rattle.hir_store.specs.Pointers.{Pointer}
use Rattle.hir_store.specs.Stored.{Store, SourceMap, Stored, store_of, map_of}
use Rattle.hir_store.specs.StoreSink as store_sink
use Rattle.hir_store.specs.StoreSink.{Extends, root_at}
use Rattle.hir_store.specs.declared.diagnostics.MissingBodyItemKind.{MissingBodyItemKind}
use Rattle.hir_store.specs.declared.error.StoreError.TheVariants.{Full}
use Rattle.hir_store.specs.declared.hir.CoroutineKind.{CoroutineKind}
use Rattle.hir_store.specs.declared.ids.ExprId.{ExprId}
use Rattle.hir_store.proofs.Extending.{extends_root}
use Rattle.hir_env.specs.ResolvedTree.{Formals, OptionExpr}
use Rattle.hir_lower_builder.specs.Builder.{Builder, new_builder}
use Rattle.hir_lower_builder.specs.Lowering.{Checked, Lowering}
use Rattle.thm_logic.specs.Keeps.{Keeps, KeepsAll, Paired}
use Rattle.thm_logic.proofs.Frames.{frames}
use Rattle.thm_logic.proofs.Keeping.{kept_by}
use Rattle.thm_logic.proofs.TypeAny.{any}
use Rattle.thm_semantics.specs.Headline.{Lowered}
use Rattle.thm_semantics.proofs.Whole.{headline}
use Rattle.thm_body_result.specs.Diagnostics.{Faults}
use Rattle.thm_body_result.specs.Formals.{formals_read, lower_body, plain_body}
use Rattle.thm_body_result.specs.Theorems.{GrownUnless}
use Rattle.thm_body_result.specs.OneResult.{OneResult, fresh_owing}
use Rattle.thm_body_result.specs.Room.{BodyTooLarge, body_size}
use Rattle.thm_body_result.proofs.Fits.{bodies_fit}
use Rattle.thm_body_result.proofs.Whole.{one_results}
use Rattle.thm_body_result.specs.StoredData.{ReadsAs}
use Rattle.thm_body_result.proofs.AsExpansions.{bodies_expand}
use Rattle.thm_body_result.proofs.AsStoredData.{whole_bodies_store}
use Rattle.thm_type_result.proofs.InsideBody.{body_inside}
use Rattle.thm_item_result.specs.Exceeding.{Exceeds, FitsIn}
use Rattle.thm_item_result.proofs.AsLimits.{fits_first, fresh_within, room_is_there}
use Rattle.thm_item_result.proofs.Took.{exceeds_first}
use Rattle.hir_lower.specs.Formals.{Given}
use Rattle.hir_lower.specs.Data.{data_in_body}
use Rattle.hir_lower.specs.Means.{DoesBody, HasBody, expanded_in_body, kind_unless_skipped, owed_faults, unless_skipped}
use Rattle.hir_lower.specs.Roots.{GivenFromNothing, RefusedAtEnd, StoresFromNothing, behind, body_of, formals_of, given_of}
use Rattle.hir_lower.specs.declared.body.Body.{Body}
use Rattle.hir_lower.proofs.BodyTypes.{body_types_once}
use Rattle.hir_lower.proofs.Behind.{PlainSteps, Steps, answered, inside_root, item_is, plain_steps, refused, with_root, steps}
use Rattle.hir_lower.proofs.FunctionNames.{body_once}
use Rattle.hir_lower.proofs.FunctionParams.{function_does}
use Rattle.hir_lower.proofs.ParamBodies.{received_any}
use Rattle.hir_lower.proofs.Params.{given_is_of}

-- from nothing, except for the faults that are owed

module _ (skipped : Bool) (f : Formals) (e : OptionExpr) (b b' : Builder) (given : Given) (i : ExprId) (paired : Paired b.stored)
    (none_open : b.scopes ≡ []) (final : Stored) (stays : Extends b'.stored final) where
  abbrev Does : Option CoroutineKind → Type 0
  Does kind = DoesBody kind (store_of final) (map_of final) given.0.1 i f.receiver (formals_read skipped f.formals) e

  plain_does : plain_body skipped f e b ≡ (Ok (given, i), b') → Does None
  plain_does is =
      let s : PlainSteps skipped f e b given i b' = plain_steps skipped f e b b' given i is in
      let kept : KeepsAll b s.middle = subst (λ r. Keeps b r.0 r.1) s.formals (kept_by (received_any skipped f) b) in
      let lowered : Lowered e s.middle i b' =
      record { none_open = kept.scopes ∙ none_open; paired = kept.paired paired; is = s.body } in
      headline e s.middle b' i lowered final stays

  does : (kind : Option CoroutineKind) → lower_body kind skipped f e b ≡ (Ok (given, i), b') → Does kind
  does None is = plain_does is
  does (Some kind) is =
      answered (function_does kind skipped f e) b b' (given, i) paired is final stays (ap frames none_open)

module _ (kind : Option CoroutineKind) (skipped : Bool) (f : Formals) (e : OptionExpr) (limit : ℕ) (owed : Faults) where
  abbrev start : Builder
  start = fresh_owing limit owed

  abbrev lowered : Lowering (Given × ExprId)
  lowered = lower_body kind skipped f e

  paired : Paired (inside_root start).stored
  paired = record { exprs = refl; labels = refl; pats = refl; types = refl; lifetimes = refl }

  module _ (b' : Builder) (given : Given) (i : ExprId) (done : behind lowered start ≡ (Ok (given, i), b')) where
    s : Steps lowered start given i b'
    s = steps lowered start b' given i done

    result : OneResult (store_of b'.stored) (map_of b'.stored) owed kind skipped f given e
    unfolding store_sink.record_root
    result =
        let P : Builder → Type 0 = λ x. OneResult (store_of x.stored) (map_of x.stored) owed kind skipped f given e in
        subst P s.left (one_results limit owed kind skipped f e given i s.inner s.lowered)

    body : HasBody kind (store_of b'.stored) (map_of b'.stored) given.0.1 f.receiver (formals_read skipped f.formals) e
    body =
        let kept : KeepsAll (inside_root start) s.inner =
        subst (λ r. Keeps (inside_root start) r.0 r.1) s.lowered (kept_by (any (body_once kind skipped f e)) (inside_root start)) in
        let root = root_at (store_of s.inner.stored) i in
        let end = (with_root s.inner i).stored in
        let ext = extends_root s.inner.stored root in
        let P : Builder → Type 0 = λ x.
        HasBody kind (store_of x.stored) (map_of x.stored) given.0.1 f.receiver (formals_read skipped f.formals) e in
        subst P s.left (record {
          root = root;
          only = ap (λ rs. rs ++ root ∷ []) (kept.roots refl);
          same = does skipped f e (inside_root start) s.inner given i paired refl end ext kind s.lowered;
          reached_once = λ depth le. body_inside kind skipped f e (inside_root start) s.inner given i paired s.lowered end ext depth le;
          types_reached_once = λ depth le. body_types_once kind skipped f e (inside_root start) s.inner given i paired
              (record { exprs = refl; pats = refl; types = refl }) s.lowered end ext depth le;
        })

    all_stored : ReadsAs (data_in_body kind skipped f e) (store_of b'.stored) (map_of b'.stored)
    unfolding store_sink.record_root
    all_stored =
        let P : Builder → Type 0 = λ x. ReadsAs (data_in_body kind skipped f e) (store_of x.stored) (map_of x.stored) in
        subst P s.left (whole_bodies_store limit owed kind skipped f e given i s.inner s.lowered)

    expanded : b'.stored.expansions ≡ expanded_in_body kind skipped f e
    unfolding store_sink.record_root
    expanded =
        let P : Builder → Type 0 = λ x. x.stored.expansions ≡ expanded_in_body kind skipped f e in
        subst P s.left (bodies_expand kind skipped f e (inside_root start) s.inner (given, i) paired s.lowered)

    -- there was room for what came
    fits_body : FitsIn limit (body_size kind skipped f e)
    fits_body =
        let room = room_is_there.bodies kind skipped f e (inside_root start) s.inner (given, i) paired (fresh_within limit) s.lowered in
        let x = room.fits in
        fits_first {n = body_size kind skipped f e} {limit = limit} (record {
          exprs = x.exprs;
          labels = x.labels;
          pats = x.pats;
          bindings = x.bindings;
          types = x.types;
          lifetimes = x.lifetimes;
          names = x.names;
          params = x.params;
        })

  too_large : (b' : Builder) → behind lowered start ≡ (Err Full, b') → BodyTooLarge (new_builder limit) kind skipped f e
  too_large b' h =
      let own = lowered (inside_root start) in
      subst (λ r. GrownUnless (body_size kind skipped f e) (inside_root start) r own.1) (refused lowered start b' Full h)
      (bodies_fit kind skipped f e (inside_root start) paired)

-- the body of an item, from nothing

module _ (kind : Option CoroutineKind) (skipped : Bool) (node : Pointer) (k : Option MissingBodyItemKind) (f : Formals) (e : OptionExpr)
    (limit : ℕ) where
  abbrev item : Builder → Checked (Given × ExprId) × Builder
  item = body_of kind skipped node k f e

  abbrev owed : Faults
  owed = owed_faults skipped node k e

  abbrev read : OptionExpr
  read = unless_skipped skipped e

  abbrev read_kind : Option CoroutineKind
  read_kind = kind_unless_skipped skipped kind

  has_body : (b : Body) (store : Store) (source_map : SourceMap) → StoresFromNothing item limit store source_map
      → GivenFromNothing item limit b
      → HasBody read_kind store source_map (formals_of b).1 f.receiver (formals_read skipped f.formals) read
  has_body b store source_map s g =
      let now = g.builder.stored in
      let ps = formals_read skipped f.formals in
      let same : s.builder.stored ≡ now = ap (λ (q : Checked (Given × ExprId) × Builder). q.1.stored) (sym s.done ∙ g.done) in
      let w = body read_kind skipped f read limit owed g.builder g.given g.root (sym (item_is kind skipped node k f e limit) ∙ g.done) in
      let P : Store → Type 0 = λ x. HasBody read_kind x source_map (formals_of b).1 f.receiver ps read in
      let Q : SourceMap → Type 0 = λ x. HasBody read_kind (store_of now) x (formals_of b).1 f.receiver ps read in
      let R : Given → Type 0 = λ x. HasBody read_kind (store_of now) (map_of now) x.0.1 f.receiver ps read in
      subst P (sym (s.store_is ∙ ap store_of same)) (subst Q (sym (s.source_map_is ∙ ap map_of same))
      (subst R (sym (given_is_of kind skipped node k f e limit b g)) w))

  one_result : (b : Body) (store : Store) (source_map : SourceMap) → StoresFromNothing item limit store source_map
      → GivenFromNothing item limit b → OneResult store source_map owed read_kind skipped f (given_of b) read
  one_result b store source_map s g =
      let now = g.builder.stored in
      let same : s.builder.stored ≡ now = ap (λ (q : Checked (Given × ExprId) × Builder). q.1.stored) (sym s.done ∙ g.done) in
      let w = result read_kind skipped f read limit owed g.builder g.given g.root
      (sym (item_is kind skipped node k f e limit) ∙ g.done) in
      let P : Store → Type 0 = λ x. OneResult x source_map owed read_kind skipped f (given_of b) read in
      let Q : SourceMap → Type 0 = λ x. OneResult (store_of now) x owed read_kind skipped f (given_of b) read in
      let R : Given → Type 0 = λ x. OneResult (store_of now) (map_of now) owed read_kind skipped f x read in
      subst P (sym (s.store_is ∙ ap store_of same)) (subst Q (sym (s.source_map_is ∙ ap map_of same))
      (subst R (sym (given_is_of kind skipped node k f e limit b g)) w))

  body_expanded : (store : Store) (source_map : SourceMap) → StoresFromNothing item limit store source_map
      → source_map.expansions ≡ expanded_in_body read_kind skipped f read
  body_expanded store source_map s =
      ap (λ (m : SourceMap). m.expansions) s.source_map_is
      ∙ expanded read_kind skipped f read limit owed s.builder s.answer.0 s.answer.1 (sym (item_is kind skipped node k f e limit) ∙ s.done)

  body_stored : (store : Store) (source_map : SourceMap) → StoresFromNothing item limit store source_map
      → ReadsAs (data_in_body read_kind skipped f read) store source_map
  body_stored store source_map s =
      let done = sym (item_is kind skipped node k f e limit) ∙ s.done in
      let w = all_stored read_kind skipped f read limit owed s.builder s.answer.0 s.answer.1 done in
      let P : Store → Type 0 = λ x. ReadsAs (data_in_body read_kind skipped f read) x source_map in
      let Q : SourceMap → Type 0 = λ x. ReadsAs (data_in_body read_kind skipped f read) (store_of s.builder.stored) x in
      subst P (sym s.store_is) (subst Q (sym s.source_map_is) w)

  pub body_too_large : RefusedAtEnd item limit → Exceeds limit (body_size read_kind skipped f read)
  body_too_large r = exceeds_first (body_size read_kind skipped f read) limit
      (too_large read_kind skipped f read limit owed r.builder (sym (item_is kind skipped node k f e limit) ∙ r.refused))

  module _ {A E : Type 0} (store : A → Store) (source_map : A → SourceMap) where
    pub has_body_if : (b : A → Body) (r : Result A E) → IfOk r (λ a. StoresFromNothing item limit (store a) (source_map a))
        → IfOk r (λ a. GivenFromNothing item limit (b a))
        → IfOk r (λ a. HasBody read_kind (store a) (source_map a) (formals_of (b a)).1 f.receiver (formals_read skipped f.formals) read)
    has_body_if b (Ok a) s g = has_body (b a) (store a) (source_map a) s g
    has_body_if b (Err x) s g = tt

    pub one_result_if : (b : A → Body) (r : Result A E) → IfOk r (λ a. StoresFromNothing item limit (store a) (source_map a))
        → IfOk r (λ a. GivenFromNothing item limit (b a))
        → IfOk r (λ a. OneResult (store a) (source_map a) owed read_kind skipped f (given_of (b a)) read)
    one_result_if b (Ok a) s g = one_result (b a) (store a) (source_map a) s g
    one_result_if b (Err x) s g = tt

    pub body_fits_if : (r : Result A E) → IfOk r (λ a. StoresFromNothing item limit (store a) (source_map a))
        → IfOk r (λ a. FitsIn limit (body_size read_kind skipped f read))
    body_fits_if (Ok a) s =
        fits_body read_kind skipped f read limit owed s.builder s.answer.0 s.answer.1 (sym (item_is kind skipped node k f e limit) ∙ s.done)
    body_fits_if (Err x) s = tt

    pub body_stored_if : (r : Result A E) → IfOk r (λ a. StoresFromNothing item limit (store a) (source_map a))
        → IfOk r (λ a. ReadsAs (data_in_body read_kind skipped f read) (store a) (source_map a))
    body_stored_if (Ok a) s = body_stored (store a) (source_map a) s
    body_stored_if (Err x) s = tt

    pub body_expanded_if : (r : Result A E) → IfOk r (λ a. StoresFromNothing item limit (store a) (source_map a))
        → IfOk r (λ a. (source_map a).expansions ≡ expanded_in_body read_kind skipped f read)
    body_expanded_if (Ok a) s = body_expanded (store a) (source_map a) s
    body_expanded_if (Err x) s = tt
