-- The statements and the tail of a block.
use Rattle.std.proofs.Common.{◌≡◌, ◌∙◌, refl, sym, ap, subst, inl, inr, ◌⊎◌, ◌<◌, ℕ, Bool, true, false, true≢false, not, ◌&&◌, ◌||◌}
use Rattle.std.proofs.Common.{List, [], ◌∷◌, ◌++◌, append_assoc, append-nil, length, Option, Some, None, option_to_list, slice_get}
use Rattle.std.proofs.Common.{if◌then◌else◌}
use Rattle.std.specs.List.{flat_map}
use Rattle.std.proofs.lemmas.Grind.{flat_map-append}
use Rattle.hir_store.specs.Children.{statement_children}
use Rattle.hir_store.specs.Stored.{Store, SourceMap}
use Rattle.hir_store.specs.declared.hir.Statement.{Statement}
use Rattle.hir_store.specs.declared.hir.Statement.TheVariants as statement
use Rattle.hir_store.specs.declared.ids.BindingId.{BindingId}
use Rattle.hir_store.specs.declared.ids.ExprId.{ExprId}
use Rattle.hir_store.specs.declared.ids.MacroDefId.{MacroDefId}
use Rattle.hir_store.specs.declared.ids.PatId.{PatId}
use Rattle.hir_store.specs.declared.ids.TypeRefId.{TypeRefId}
use Rattle.hir_lower_scope.specs.ScopeRibs.{macro_rib}
use Rattle.hir_env.specs.ResolvedTree as tree
use Rattle.hir_env.specs.ResolvedTree.{Expr, OptionBlock, OptionExpr, OptionPat, Stmts}
use Rattle.hir_walks.specs.Exprs.{statement_pats}
use Rattle.spec_scopes.specs.Placed.{Among, Placed, Sees, Spot, after_each, after_option, after_part, in_scope, past, past_macro_def}
use Rattle.spec_scopes.specs.Placed.{past_option, past_statement, placed_block, placed_each, placed_option, placed_statement}
use Rattle.spec_scopes.specs.Scopes.{Scopes, pat_scope, ribs_of}
use Rattle.spec_scoping.specs.Bound.{InScope, with_each, with_top}
use Rattle.spec_scoping.specs.Scoping.{Standing, Where, behind_macro, behind_part, block_part, contents, enabled_part, in_turn, lets}
use Rattle.spec_scoping.specs.Scoping.{lets_of_part}
use Rattle.spec_scoping.specs.Scoping.{naming, part}
use Rattle.spec_semantics.specs.Contents.{BlockContents}
use Rattle.spec_semantics.specs.Left.{gives_value, is_kept, is_left, none_left}
use Rattle.thm_body_result.specs.Corresponds.{CorrespondsContents, CorrespondsKept, CorrespondsPatPart, CorrespondsPresent, ThereIf}
use Rattle.thm_body_result.specs.Corresponds.{WithNames}
use Rattle.thm_body_result.specs.Corresponds.{Corresponds, CorrespondsPresentBlock, Open, statement_of}
use Rattle.thm_body_result.specs.Leads.{Mapping, Mappings}
use Rattle.thm_scoping.specs.Meant.{SameAt}
use Rattle.thm_scoping.proofs.Named.{EachBelow}
use Rattle.thm_scoping.proofs.Orderly.{AllKnown, Orderly}
use Rattle.thm_scoping.proofs.Keeping.{same_macro}
use Rattle.thm_scoping.proofs.Operands.{Lined, Same, each_below_left, each_below_right, ended, kept_lined, lets_in_both, lets_in_enabled}
use Rattle.thm_scoping.proofs.Operands.{lets_in_part, lined-append, present_lined, stood}
use Rattle.thm_scoping.proofs.Steps.{AllSee, Inside, all-append, among_both, among_left, among_right, line_same, line_see, placed_option_is}
use Rattle.thm_scoping.proofs.Tops.{same_top}

-- where a tail is written, no statement gives the value

no_value : (left semi none gives : Bool) → gives ≡ false → ((left && (not semi && (none && false))) || gives) ≡ false
no_value true true none gives e = e
no_value true false true gives e = e
no_value true false false gives e = e
no_value false semi none gives e = e

tail_gives : (ss : Stmts) → gives_value ss true ≡ false
tail_gives tree.no_stmts = refl
tail_gives (tree.more_stmts tree.item_stmt ss) = tail_gives ss
tail_gives (tree.more_stmts (tree.call_stmt c) ss) = tail_gives ss
tail_gives (tree.more_stmts (tree.macro_stmt k d) ss) = tail_gives ss
tail_gives (tree.more_stmts (tree.expr_stmt e semi) ss) = no_value (is_left e) semi (none_left ss) (gives_value ss true) (tail_gives ss)
tail_gives (tree.more_stmts (tree.disabled_stmt at by s) ss) = tail_gives ss
tail_gives (tree.more_stmts (tree.let_stmt p t e b) ss) = tail_gives ss

lets_in_block : (b : OptionBlock) → flat_map lets (block_part b) ≡ []
lets_in_block tree.no_block = refl
lets_in_block (tree.some_block b) = refl

module _ (store : Store) (source_map : SourceMap) (self : Option BindingId) (o : Orderly store) where
  not_there : (b : Bool) (S : ExprId → Mappings) (t : Option ExprId) (ms : List Mapping) → b ≡ false → ThereIf b S t ms → t ≡ None
  not_there true S t ms e h = absurd (true≢false e)
  not_there false S t ms e h = h.0

  kept_none : (rs : Open) (e : OptionExpr) (t : Option ExprId) (ms : List Mapping) → is_left e ≡ false
      → CorrespondsKept store source_map rs e t ms → t ≡ None
  kept_none rs tree.no_expr t ms off h = h.0
  kept_none rs (tree.some_expr e) t ms off h = not_there (is_kept e) _ t ms off h

  tail_none : (ss : Stmts) (e : OptionExpr) (rs : Open) (is : List Statement) (t : Option ExprId) (ms : List Mapping) → is_left e ≡ false
      → CorrespondsContents store source_map rs ss (λ around u. CorrespondsKept store source_map around e u) is t ms → t ≡ None
  tail_none tree.no_stmts e rs is t ms off h = kept_none rs e t ms off h.1
  tail_none (tree.more_stmts tree.item_stmt ss) e rs is t ms off h = tail_none ss e rs h.0 t ms off h.2
  tail_none (tree.more_stmts (tree.disabled_stmt at by s) ss) e rs is t ms off h = tail_none ss e rs is t ms off h
  tail_none (tree.more_stmts (tree.call_stmt c) ss) e rs is t ms off h = tail_none ss e rs is t ms off h
  tail_none (tree.more_stmts (tree.macro_stmt k None) ss) e rs is t ms off h = tail_none ss e rs h.0 t ms off h.2
  tail_none (tree.more_stmts (tree.macro_stmt k (Some d)) ss) e rs is t ms off h = tail_none ss e (macro_rib d ∷ rs) h.0 t ms off h.2
  tail_none (tree.more_stmts (tree.expr_stmt f semi) ss) e rs is t ms off h = tail_none ss e rs h.1 t h.3.right off h.3.second
  tail_none (tree.more_stmts (tree.let_stmt p y i b) ss) e rs is t ms off h = tail_none ss e rs h.4 t h.6.right off h.6.second

  present_block_lined : (n : ℕ) (rs : Open) (b : OptionBlock) (z : Option ExprId) (ms : List Mapping) → EachBelow n (option_to_list z)
      → CorrespondsPresentBlock store source_map rs b z ms → Lined store source_map self n (option_to_list z) (block_part b)
  present_block_lined n rs tree.no_block z ms below h =
      subst (λ u. Lined store source_map self n (option_to_list u) []) (sym h.0) ended
  present_block_lined n rs (tree.some_block b) z ms below h =
      let lower = subst (λ u. EachBelow n (option_to_list u)) h.1 below in
      subst (λ u. Lined store source_map self n (option_to_list u) (tree.block_expr b ∷ [])) (sym h.1) (stood lower.0 rs ms h.2 ended)

  -- a `let`: its initializer and its `else`, one behind the other

  let_placed : (g : ExprId → Scopes → Scopes) (q : PatId) (y : Option TypeRefId) (i z : Option ExprId) (x : Spot)
      → placed_statement store g (statement.Let q y i z) x ≡ placed_each store g (option_to_list i ++ option_to_list z) x
  let_placed g q y None None x = refl
  let_placed g q y None (Some z) x = refl
  let_placed g q y (Some i) None x = refl
  let_placed g q y (Some i) (Some z) x = refl

  let_after : (g : ExprId → Scopes → Scopes) (i z : Option ExprId) (ss : Scopes)
      → after_option store g z (after_option store g i ss) ≡ after_each store g (option_to_list i ++ option_to_list z) ss
  let_after g None None ss = refl
  let_after g None (Some z) ss = refl
  let_after g (Some i) None ss = refl
  let_after g (Some i) (Some z) ss = refl

  -- where the tail of a block stands
  unfoldable pub block_end : (g : ExprId → Scopes → Scopes) → List Statement → Spot → Spot
  block_end g [] x = x
  block_end g (s ∷ ss) x = block_end g ss (past_statement store g s x)

  pub block_split : (g : ExprId → Scopes → Scopes) (ss : List Statement) (t : Option ExprId) (x : Spot)
      → placed_block store g ss t x ≡ placed_block store g ss None x ++ placed_option store g t (block_end g ss x)
  unfolding block_end
  block_split g [] t x = refl
  block_split g (s ∷ ss) t x = ap (λ l. placed_statement store g s x ++ l) (block_split g ss t (past_statement store g s x))
      ∙ sym (append_assoc (placed_statement store g s x) (placed_block store g ss None (past_statement store g s x)) _)

  last_placed : (g : ExprId → Scopes → Scopes) (ss : List Statement) (e : ExprId) (x : Spot)
      → placed_block store g (ss ++ statement.Expr e false ∷ []) None x ≡ placed_block store g ss (Some e) x
  last_placed g [] e x = refl
  last_placed g (s ∷ ss) e x = ap (λ l. placed_statement store g s x ++ l) (last_placed g ss e (past_statement store g s x))

  last_children : (ss : List Statement) (e : ExprId) → flat_map statement_children (ss ++ statement.Expr e false ∷ []) ++ []
      ≡ flat_map statement_children ss ++ e ∷ []
  last_children ss e = append-nil (flat_map statement_children (ss ++ statement.Expr e false ∷ []))
      ∙ flat_map-append statement_children ss (statement.Expr e false ∷ [])

  last_pats : (ss : List Statement) (e : ExprId) → flat_map statement_pats (ss ++ statement.Expr e false ∷ []) ≡ flat_map statement_pats ss
  last_pats ss e = flat_map-append statement_pats ss (statement.Expr e false ∷ []) ∙ append-nil (flat_map statement_pats ss)

  module _ (root : ExprId) (start : Spot) where
    abbrev All : List Standing → Type 0
    All l = AllSee store source_map self o root start l

    abbrev Within : ExprId → List Statement → Option ExprId → Spot → Type 0
    Within p is t x = Inside store source_map self o root start p (placed_block store (after_part store p) is t x)

    abbrev Below : ExprId → List Statement → Option ExprId → Type 0
    Below p is t = EachBelow p.0 (flat_map statement_children is ++ option_to_list t)

    abbrev There : List Statement → Type 0
    There is = AllKnown store (flat_map statement_pats is)

    -- an expression statement, which may be left out
    expr_see : (p : ExprId) (f e : OptionExpr) (ss : Stmts) (rs : Open) (semi : Bool) (u : Option ExprId) (others : List Statement)
        (t : Option ExprId) (ms : List Mapping) (x : Spot) (w : Where) → CorrespondsKept store source_map rs f u ms
        → Below p (option_to_list (statement_of semi u) ++ others) t → There (option_to_list (statement_of semi u) ++ others)
        → Within p (option_to_list (statement_of semi u) ++ others) t x → SameAt store source_map self x w
        → ((y : Spot) → Below p others t → There others → Within p others t y → SameAt store source_map self y (behind_part f w)
        → All (contents ss e (behind_part f w)))
        → All (in_turn (enabled_part f) w ++ contents ss e (behind_part f w))
    expr_see p f e ss rs semi None others t ms x w h below there ins same rec =
        let lined = kept_lined store source_map self p.0 rs f None ms tt h in
        all-append store source_map self o root start (in_turn (enabled_part f) w) (contents ss e (behind_part f w))
        (line_see store source_map self o root start p [] (enabled_part f) x w lined (λ c y less among. absurd among) same)
        (rec x below there ins (record {
          names = line_same store source_map self o p [] (enabled_part f) (lets_of_part f) x.names w.names lined
              (lets_in_enabled f) same.names;
          items = same.items;
        }))
    expr_see p f e ss rs semi (Some v) others t ms x w h below there ins same rec =
        let lined = kept_lined store source_map self p.0 rs f (Some v) ms (below.0, tt) h in
        all-append store source_map self o root start (in_turn (enabled_part f) w) (contents ss e (behind_part f w))
        (line_see store source_map self o root start p (v ∷ []) (enabled_part f) x w lined
        (λ c y less among. ins c y less (among_left c y ((v, x) ∷ [])
        (placed_block store (after_part store p) others t (past store (after_part store p) v x)) among)) same)
        (rec (past store (after_part store p) v x) below.1 there (λ c y less among. ins c y less (inr among)) (record {
          names = line_same store source_map self o p (v ∷ []) (enabled_part f) (lets_of_part f) x.names w.names lined (lets_in_enabled f)
              same.names;
          items = same.items;
        }))

    let_see : (p : ExprId) (top : OptionPat) (i : OptionExpr) (b : OptionBlock) (e : OptionExpr) (ss : Stmts) (rs : Open) (q : PatId)
        (y : Option TypeRefId) (u z : Option ExprId) (others : List Statement) (t : Option ExprId) (ms ns ks : List Mapping) (x : Spot)
        (w : Where)
        → WithNames store source_map top (λ names. CorrespondsPatPart store source_map names rs top [] q) q ms
        → CorrespondsPresent store source_map rs i u ns → CorrespondsPresentBlock store source_map rs b z ks
        → Below p (statement.Let q y u z ∷ others) t → There (statement.Let q y u z ∷ others)
        → Within p (statement.Let q y u z ∷ others) t x → SameAt store source_map self x w
        → ((v : Spot) → Below p others t → There others → Within p others t v
        → SameAt store source_map self v (naming w (with_top top (behind_part i w).names))
        → All (contents ss e (naming w (with_top top (behind_part i w).names))))
        → All (in_turn (part i ++ block_part b) w ++ contents ss e (naming w (with_top top (behind_part i w).names)))
    let_see p top i b e ss rs q y u z others t ms ns ks x w names init otherwise below there ins same rec =
        let g = after_part store p in
        let own = option_to_list u ++ option_to_list z in
        let split = subst (λ l. EachBelow p.0 l)
        (append_assoc own (flat_map statement_children others) (option_to_list t)) below in
        let lower = each_below_left p.0 own (flat_map statement_children others ++ option_to_list t) split in
        let lined = lined-append store source_map self
        (present_lined store source_map self p.0 rs i u ns (each_below_left p.0 (option_to_list u) (option_to_list z) lower) init)
        (present_block_lined p.0 rs b z ks (each_below_right p.0 (option_to_list u) (option_to_list z) lower) otherwise) in
        let binds = lets_in_both (part i) (block_part b) (lets_of_part i) [] (lets_in_part i) (lets_in_block b) ∙ append-nil
        (lets_of_part i) in
        let outer = line_same store source_map self o p own (part i ++ block_part b)
        (lets_of_part i) x.names w.names lined binds same.names in
        let after_both = subst (λ l. Same store source_map self l (with_each (lets_of_part i) w.names))
        (sym (let_after g u z x.names)) outer in
        all-append store source_map self o root start (in_turn (part i ++ block_part b) w)
        (contents ss e (naming w (with_top top (behind_part i w).names)))
        (line_see store source_map self o root start p own (part i ++ block_part b) x w lined
        (λ c v less among. ins c v less (among_left c v (placed_statement store g (statement.Let q y u z) x)
        (placed_block store g others t (past_statement store g (statement.Let q y u z) x))
        (subst (λ l. Among c v l) (sym (let_placed g q y u z x)) among))) same)
        (rec (past_statement store g (statement.Let q y u z) x)
        (each_below_right p.0 own (flat_map statement_children others ++ option_to_list t) split) there.1
        (λ c v less among. ins c v less (among_right c v (placed_statement store g (statement.Let q y u z) x)
        (placed_block store g others t (past_statement store g (statement.Let q y u z) x)) among))
        (record {
          names = same_top store source_map self o rs top q ms there.0 names
              (ribs_of store (after_option store g z (after_option store g u x.names)))
              (with_each (lets_of_part i) w.names) after_both;
          items = same.items;
        }))

    pub contents_see : (ss : Stmts) (e : OptionExpr) (p : ExprId) (rs : Open) (is : List Statement) (t : Option ExprId) (ms : List Mapping)
        (x : Spot) (w : Where)
        → CorrespondsContents store source_map rs ss (λ around u. CorrespondsKept store source_map around e u) is t ms
        → Below p is t → There is → Within p is t x → SameAt store source_map self x w → All (contents ss e w)
    contents_see tree.no_stmts e p rs is t ms x w h below there ins same =
        let lower = subst (λ l. Below p l t) h.0 below in
        let within = subst (λ l. Within p l t x) h.0 ins in
        line_see store source_map self o root start p (option_to_list t) (enabled_part e) x w
        (kept_lined store source_map self p.0 rs e t ms lower h.1)
        (λ c y less among. within c y less (subst (λ l. Among c y l)
        (sym (placed_option_is store source_map self o (after_part store p) t x))
        among)) same
    contents_see (tree.more_stmts (tree.expr_stmt f semi) ss) e p rs is t ms x w h below there ins same =
        expr_see p f e ss rs semi h.0 h.1 t h.3.left x w h.3.first (subst (λ l. Below p l t) h.2 below) (subst (λ l. There l) h.2 there)
        (subst (λ l. Within p l t x) h.2 ins) same
        (λ y lower known within k. contents_see ss e p rs h.1 t h.3.right y (behind_part f w) h.3.second lower known within k)
    contents_see (tree.more_stmts (tree.let_stmt top ty i b) ss) e p rs is t ms x w h below there ins same =
        let m = h.6.first in
        let later = m.second.second in
        let_see p top i b e ss rs h.0 h.1 h.2 h.3 h.4 t m.left later.left later.right x w m.first later.first later.second
        (subst (λ l. Below p l t) h.5 below) (subst (λ l. There l) h.5 there) (subst (λ l. Within p l t x) h.5 ins) same
        (λ y lower known within k. contents_see ss e p rs h.4 t h.6.right y _ h.6.second lower known within k)
    contents_see (tree.more_stmts (tree.macro_stmt k (Some d)) ss) e p rs is t ms x w h below there ins same =
        contents_see ss e p (macro_rib d ∷ rs) h.0 t ms (past_macro_def d x) (behind_macro d w) h.2 (subst (λ l. Below p l t) h.1 below)
        (subst (λ l. There l) h.1 there) (subst (λ l. Within p l t x) h.1 ins)
        (record {
          names = same_macro store source_map self d (ribs_of store x.names) w.names same.names;
          items = same_macro store source_map self d (ribs_of store x.items) w.items same.items;
        })
    contents_see (tree.more_stmts (tree.macro_stmt k None) ss) e p rs is t ms x w h below there ins same =
        contents_see ss e p rs h.0 t ms x w h.2 (subst (λ l. Below p l t) h.1 below) (subst (λ l. There l) h.1 there)
        (subst (λ l. Within p l t x) h.1 ins) same
    contents_see (tree.more_stmts tree.item_stmt ss) e p rs is t ms x w h below there ins same =
        contents_see ss e p rs h.0 t ms x w h.2 (subst (λ l. Below p l t) h.1 below) (subst (λ l. There l) h.1 there)
        (subst (λ l. Within p l t x) h.1 ins) same
    contents_see (tree.more_stmts (tree.disabled_stmt at by s) ss) e p rs is t ms x w h below there ins same =
        contents_see ss e p rs is t ms x w h below there ins same
    contents_see (tree.more_stmts (tree.call_stmt c) ss) e p rs is t ms x w h below there ins same =
        contents_see ss e p rs is t ms x w h below there ins same

    -- what a block is stored with
    pub block_see : (ss : Stmts) (e : OptionExpr) (p : ExprId) (rs : Open) (kept : List Statement) (last : Option ExprId)
        (r : List Statement × Option ExprId) (ms : List Mapping) (x : Spot) (w : Where)
        → BlockContents (gives_value ss (is_left e)) kept last r
        → CorrespondsContents store source_map rs ss (λ around u. CorrespondsKept store source_map around e u) kept last ms
        → Below p r.0 r.1 → There r.0 → Within p r.0 r.1 x → SameAt store source_map self x w → All (contents ss e w)
    block_see ss e p rs kept last r ms x w holds h below there ins same = by (gives_value ss (is_left e)) refl holds
      where
        off : (b : Bool) → is_left e ≡ b → gives_value ss (is_left e) ≡ true → is_left e ≡ false
        off false is gives = is
        off true is gives = absurd (true≢false (sym gives ∙ (ap (λ l. gives_value ss l) is ∙ tail_gives ss)))

        by : (b : Bool) → gives_value ss (is_left e) ≡ b → BlockContents b kept last r → All (contents ss e w)
        by false gives k = contents_see ss e p rs kept last ms x w h
            (subst (λ (s : List Statement × Option ExprId). Below p s.0 s.1) k below)
            (subst (λ (s : List Statement × Option ExprId). There s.0) k there)
            (subst (λ (s : List Statement × Option ExprId). Within p s.0 s.1 x) k ins) same
        by true gives k =
            let none = tail_none ss e rs kept last ms (off (is_left e) refl gives) h in
            let c = k.0 in
            let tail = k.2 in
            let moved = subst (λ l. CorrespondsContents store source_map rs ss
            (λ around u. CorrespondsKept store source_map around e u) l None ms) k.1
            (subst (λ l. CorrespondsContents store source_map rs ss
            (λ around u. CorrespondsKept store source_map around e u) kept l ms) none h) in
            let lower = subst (λ l. EachBelow p.0 l) (sym (last_children r.0 c)) (subst (λ l. Below p r.0 l) tail below) in
            let known = subst (λ l. AllKnown store l) (sym (last_pats r.0 c)) there in
            let within = subst (λ l. Inside store source_map self o root start p l) (sym (last_placed (after_part store p) r.0 c x))
            (subst (λ l. Within p r.0 l x) tail ins) in
            contents_see ss e p rs (r.0 ++ statement.Expr c false ∷ []) None ms x w moved lower known within same
