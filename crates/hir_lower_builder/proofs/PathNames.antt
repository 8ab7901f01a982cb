-- The names of a lowered path are those that are read of the written one.
use Rattle.std.proofs.Common.{arith, ◌≡◌, ◌∙◌, refl, sym, ap, subst, ℕ, zero, suc, ◌+◌, Bool, true, false, not}
use Rattle.std.proofs.Common.{◌&&◌, ◌||◌}
use Rattle.std.proofs.Common.{List, [], ◌∷◌, ◌++◌, Option, Some, None, Ok, Err}
use Rattle.std.specs.Prelude.{reverse, is_none, is_some, if◌then◌else◌, nat_lt, ◌^◌, IfOk}
use Rattle.std.proofs.lemmas.List.{reverse-append, reverse-reverse}
use Rattle.hir_store.specs.Pointers.{Pointer}
use Rattle.hir_store.specs.declared.ids.CrateId.{CrateId}
use Rattle.hir_store.specs.declared.ids.TypeRefId.{TypeRefId}
use Rattle.hir_store.specs.declared.name.Name.{Name}
use Rattle.hir_store.specs.declared.path.ModPath.{ModPath}
use Rattle.hir_store.specs.declared.path.PathKind.{PathKind}
use Rattle.hir_store.specs.declared.path.PathKind.TheVariants as kind
use Rattle.hir_store.specs.declared.path.GenericArgs.{GenericArgs}
use Rattle.hir_store.specs.declared.path.Path.{Path as HirPath}
use Rattle.hir_store.specs.declared.path.Path.TheVariants.{BarePath, Normal, LangItem}
use Rattle.hir_store.specs.declared.type_ref.TypeRef.TheVariants as ty
use Rattle.hir_env.specs.ResolvedTree as tree
use Rattle.hir_env.specs.ResolvedTree.{Path, OptionPath, Segments, Segment}
use Rattle.hir_env.specs.PathNames as names
use Rattle.hir_env.specs.PathNames.{mod_path_of, nothing_read, piece, read_piece, read_outward, read_rest, read_use, counted, supers_in}
use Rattle.hir_env.specs.PathNames.{with_piece, own_self, refuses, behind_trait, no_names}
use Rattle.hir_lower_builder.specs.Builder.{Builder}
use Rattle.hir_lower_builder.specs.Lowering.{Checked, Lowering, go_on, ◌>>=◌, pure, alloc_type, count_out, input_end}
use Rattle.hir_lower_builder.specs.Paths as forms
use Rattle.hir_lower_builder.specs.Paths.{with_alias, alias_of, cut_back, proceed, whole, with_trait, read_trait}
use Rattle.hir_lower_builder.specs.Lower.{read_segment, read_each, read_path, read_option, lower_path, lower_type, lower_segment_args}
use Rattle.hir_lower_builder.specs.Walks as walks
use Rattle.hir_lower_builder.specs.Walks.{start, at_first, self_read, super_read, projected, mod_path, missing_name, names_in, names_read}
use Rattle.hir_lower_builder.specs.declared.walk.PathWalk.{PathWalk}
use Rattle.hir_lower_builder.specs.declared.walk.Reading.{Reading}
use Rattle.hir_lower_builder.specs.declared.walk.Reading.TheVariants.{Refused, Ended, Open}

abbrev holds : Bool → Type 0
holds true = Unit {0}
holds false = ⊥

clash : true ≡ false → ⊥
clash h = subst holds h tt

-- what steps answer

-- what is so of each answer of the steps
abbrev Gives : {A : Type 0} → (A → Type 0) → Lowering A → Type 0
Gives P p = (b : Builder) → IfOk (p b).0 P

gives_pure : {A : Type 0} (P : A → Type 0) (a : A) → P a → Gives P (pure a)
gives_pure P a h b = h

gives_on : {A B : Type 0} (P : A → Type 0) (Q : B → Type 0) (f : A → Lowering B) → ((a : A) → P a → Gives Q (f a))
    → (o : Checked A) (b : Builder) → IfOk o P → IfOk (go_on o b f).0 Q
gives_on P Q f h (Ok a) b g = h a g b
gives_on P Q f h (Err e) b g = tt

gives_bind : {A B : Type 0} (P : A → Type 0) (Q : B → Type 0) (p : Lowering A) (f : A → Lowering B) → Gives P p
    → ((a : A) → P a → Gives Q (f a)) → Gives Q (p >>= f)
gives_bind P Q p f g h b = gives_on P Q f h (p b).0 (p b).1 (g b)

gives_some : {A : Type 0} (o : Checked A) → IfOk o (λ a. Unit {0})
gives_some (Ok a) = tt
gives_some (Err e) = tt

gives_any : {A : Type 0} (p : Lowering A) → Gives (λ a. Unit {0}) p
gives_any p b = gives_some (p b).0

-- after any steps
gives_after : {A B : Type 0} (Q : B → Type 0) (p : Lowering A) (f : A → Lowering B) → ((a : A) → Gives Q (f a)) → Gives Q (p >>= f)
gives_after Q p f h = gives_bind (λ a. Unit {0}) Q p f (gives_any p) (λ a u. h a)

-- a path is what it is, whether it is an alias or not
gives_aliased : (P : Option HirPath → Type 0) (alias : Option (List Bool)) (p : Lowering (Option HirPath)) → Gives P p
    → Gives P (with_alias alias p)
gives_aliased P None p h = h
gives_aliased P (Some places) p h =
    gives_after P input_end (λ mark. p >>= (λ r. cut_back mark places r >>= (λ u. pure r)))
    (λ mark. gives_bind P P p (λ r. cut_back mark places r >>= (λ u. pure r)) h
    (λ r k. gives_after P (cut_back mark places r) (λ u. pure r) (λ u. gives_pure P r k)))

-- a walk, and what is read of the same segments

record Says (w : PathWalk) (r : names.Reading) : Type 0 where
  going : r.refused ≡ false
  kind : w.kind ≡ counted r.set_kind r.supers
  names : reverse w.names ≡ r.names
  anchor : is_none w.type_anchor ≡ not r.anchored

abbrev Agrees : Reading → names.Reading → Type 0
Agrees Refused r = r.refused ≡ true
Agrees (Ended w) r = (r.ended ≡ true) × Says w r
Agrees (Open w) r = (r.ended ≡ false) × Says w r

same_supers : (k : PathKind) → walks.supers k ≡ supers_in k
same_supers kind.Plain = refl
same_supers (kind.Super n) = refl
same_supers kind.Crate = refl
same_supers kind.Abs = refl
same_supers (kind.DollarCrate c) = refl

same_plain : (k : PathKind) → walks.is_plain k ≡ names.is_plain k
same_plain kind.Plain = refl
same_plain (kind.Super n) = refl
same_plain kind.Crate = refl
same_plain kind.Abs = refl
same_plain (kind.DollarCrate c) = refl

same_empty : (ns : List Name) → walks.no_names ns ≡ no_names ns
same_empty [] = refl
same_empty (n ∷ ns) = refl

empty_snoc : (xs : List Name) (y : Name) → no_names (xs ++ y ∷ []) ≡ false
empty_snoc [] y = refl
empty_snoc (x ∷ xs) y = refl

empty_reversed : (ns : List Name) → no_names (reverse ns) ≡ no_names ns
empty_reversed [] = refl
empty_reversed (n ∷ ns) = ap no_names (reverse-append (n ∷ []) ns) ∙ empty_snoc (reverse ns) n

one_counted : (k : PathKind) (n : ℕ) → supers_in (counted k n) ≡ supers_in k + n
one_counted k zero = omega arith
one_counted k (suc n) = refl

one_more_counted : (k : PathKind) (n : ℕ) → kind.Super (walks.supers (counted k n) + 1) ≡ counted k (suc n)
one_more_counted k n =
    let a = same_supers (counted k n) in
    let c = one_counted k n in
    let e : walks.supers (counted k n) + 1 ≡ supers_in k + suc n = omega (arith, a, c) in
    ap kind.Super e

-- what a segment in front finds
abbrev start_kind : Bool → names.Reading → PathKind
start_kind leading r = names.kind_or (if leading then Some kind.Abs else None) r.set_kind

abbrev start_supers : Bool → names.Reading → ℕ
start_supers leading r = if is_some (if leading then Some kind.Abs else None) then 0 else r.supers

first_kind : (leading : Bool) (w : PathWalk) (r : names.Reading) → w.kind ≡ counted r.set_kind r.supers
    → (at_first leading w).kind ≡ counted (start_kind leading r) (start_supers leading r)
first_kind true w r h = refl
first_kind false w r h = h

first_names : (leading : Bool) (w : PathWalk) → (at_first leading w).names ≡ w.names
first_names true w = refl
first_names false w = refl

first_anchor : (leading : Bool) (w : PathWalk) → (at_first leading w).type_anchor ≡ w.type_anchor
first_anchor true w = refl
first_anchor false w = refl

-- none of these is an anchor
or_false : (b : Bool) → (b || false) ≡ b
or_false true = refl
or_false false = refl

or_true : (a b : Bool) → a ≡ true → (a || b) ≡ true
or_true a b h = ap (λ c. c || b) h

-- a path with names has those
own_names_of : (p : HirPath) (m : ModPath) → names_in p ≡ Some m → mod_path p ≡ m
own_names_of (BarePath x) m e = cc
own_names_of (Normal x) m e = cc
own_names_of (LangItem item) m e = cc

-- a segment in front of others

module _ (leading : Bool) (w : PathWalk) (r : names.Reading) (open_ : r.ended ≡ false) (h : Says w r) where
  -- it is read
  read_is : (p : names.Piece) → read_piece leading p r ≡ own_self p r.names (with_piece leading p r)
  read_is p = ap (λ b. if b then r else own_self p r.names (with_piece leading p r)) open_

  put_names : (x : Name) → reverse ((at_first leading w).names ++ x ∷ []) ≡ x ∷ r.names
  put_names x =
      ap (λ ns. reverse (ns ++ x ∷ [])) (first_names leading w)
      ∙ (reverse-append w.names (x ∷ []) ∙ ap (λ ns. x ∷ ns) h.names)

  still_names : reverse (at_first leading w).names ≡ r.names
  still_names = ap reverse (first_names leading w) ∙ h.names

  still_anchor : is_none (at_first leading w).type_anchor ≡ not (r.anchored || false)
  still_anchor = ap is_none (first_anchor leading w) ∙ (h.anchor ∙ ap not (sym (or_false r.anchored)))

  still_going : (r.refused || false) ≡ false
  still_going = or_false r.refused ∙ h.going

  agrees_named : (x : Name) (a : Option GenericArgs) → Agrees (walks.named x a (at_first leading w)) (read_piece leading (names.named x) r)
  agrees_named x a = subst (Agrees (walks.named x a (at_first leading w))) (sym (read_is (names.named x))) (
    refl,
    record { going = still_going; kind = first_kind leading w r h.kind; names = put_names x; anchor = still_anchor },
  )

  agrees_refused : (p : names.Piece) → refuses p ≡ true → own_self p r.names (with_piece leading p r) ≡ with_piece leading p r
      → Agrees Refused (read_piece leading p r)
  agrees_refused p e own = subst (Agrees Refused) (sym (read_is p ∙ own)) (subst (λ b. (r.refused || b) ≡ true) (sym e) (by r.refused))
    where
      by : (b : Bool) → (b || true) ≡ true
      by true = refl
      by false = refl

  agrees_root : (k : PathKind) → Agrees (walks.ended k (at_first leading w)) (read_piece leading (names.root k) r)
  agrees_root k = subst (Agrees (walks.ended k (at_first leading w))) (sym (read_is (names.root k))) (
    refl,
    record { going = still_going; kind = refl; names = still_names; anchor = still_anchor },
  )

  agrees_anchor : (t : TypeRefId) → Agrees (walks.anchored t (at_first leading w)) (read_piece leading names.anchor r)
  agrees_anchor t = subst (Agrees (walks.anchored t (at_first leading w))) (sym (read_is names.anchor)) (
    refl,
    record { going = still_going; kind = refl; names = still_names; anchor = ap not (sym (by r.anchored)) },
  )
    where
      by : (b : Bool) → (b || true) ≡ true
      by true = refl
      by false = refl

  -- `self`
  self_at : (ns : List Name) → r.names ≡ ns
      → Agrees (self_read (at_first leading w)) (own_self names.self_ ns (with_piece leading names.self_ r))
  self_at [] e =
      let none : walks.no_names (at_first leading w).names ≡ true =
      same_empty (at_first leading w).names ∙ (sym (empty_reversed (at_first leading w).names) ∙ ap no_names (still_names ∙ e)) in
      let ends : not (no_names r.names) ≡ false = ap (λ ms. not (no_names ms)) e in
      rw none (
        ends,
        record { going = still_going; kind = first_kind leading w r h.kind; names = still_names; anchor = still_anchor },
      )
  self_at (n ∷ ns) e =
      let some : walks.no_names (at_first leading w).names ≡ false =
      same_empty (at_first leading w).names ∙ (sym (empty_reversed (at_first leading w).names) ∙ ap no_names (still_names ∙ e)) in
      let ends : not (no_names r.names) ≡ true = ap (λ ms. not (no_names ms)) e in
      let own : kind.Super (walks.supers (at_first leading w).kind)
      ≡ kind.Super (supers_in (counted (start_kind leading r) (start_supers leading r))) =
      ap (λ k. kind.Super (walks.supers k)) (first_kind leading w r h.kind)
      ∙ ap kind.Super (same_supers (counted (start_kind leading r) (start_supers leading r))) in
      rw some (ends, record { going = still_going; kind = own; names = still_names; anchor = still_anchor })

  agrees_self : Agrees (self_read (at_first leading w)) (read_piece leading names.self_ r)
  agrees_self = subst (Agrees (self_read (at_first leading w))) (sym (read_is names.self_)) (self_at r.names refl)

  -- `super`
  super_found : (c : Bool) → nat_lt (walks.supers (at_first leading w).kind + 1) (2 ^ 32) ≡ c
      → Gives (λ q. Agrees q (read_piece leading names.super_ r)) (forms.or_count_out (super_read (at_first leading w)))
  unfolding count_out
  super_found true e =
      let more : kind.Super (walks.supers (at_first leading w).kind + 1) ≡ counted (start_kind leading r) (suc (start_supers leading r)) =
      ap (λ k. kind.Super (walks.supers k + 1)) (first_kind leading w r h.kind)
      ∙ one_more_counted (start_kind leading r) (start_supers leading r) in
      rw e (gives_pure (λ q. Agrees q (read_piece leading names.super_ r))
      (Open (record (at_first leading w) { kind = kind.Super (walks.supers (at_first leading w).kind + 1) }))
      (subst (Agrees (Open (record (at_first leading w) { kind = kind.Super (walks.supers (at_first leading w).kind + 1) })))
      (sym (read_is names.super_))
      (refl, record { going = still_going; kind = more; names = still_names; anchor = still_anchor })))
  super_found false e = rw e (λ b. tt)

  gives_super : Gives (λ q. Agrees q (read_piece leading names.super_ r)) (forms.or_count_out (super_read (at_first leading w)))
  gives_super = super_found (nat_lt (walks.supers (at_first leading w).kind + 1) (2 ^ 32)) refl

  -- `<T as Trait>`
  trait_names : (p : HirPath) (m : ModPath) → mod_path p ≡ m
      → reverse ((at_first leading w).names ++ reverse (mod_path p).segments) ≡ m.segments ++ r.names
  trait_names p m e =
      ap (λ ns. reverse (ns ++ reverse (mod_path p).segments)) (first_names leading w)
      ∙ (reverse-append w.names (reverse (mod_path p).segments)
      ∙ (λ j. (reverse-reverse (mod_path p).segments ∙ ap (λ x. x.segments) e) j ++ h.names j))

  agrees_trait : (t : TypeRefId) (o : Option HirPath) (q : Option ModPath) → names_read o ≡ q
      → (at : Pointer) → Gives (λ x. Agrees x (read_piece leading (behind_trait q) r)) (read_trait t at (at_first leading w) o)
  agrees_trait t None None e at = λ b. agrees_refused (behind_trait None) refl refl
  agrees_trait t None (Some m) e at = λ b. cc
  agrees_trait t (Some p) None e at = at_none p e
    where
      at_none : (p : HirPath) → names_in p ≡ None → Gives (λ x. Agrees x (read_piece leading (behind_trait None) r))
          (read_trait t at (at_first leading w) (Some p))
      at_none (BarePath x) e = λ b. cc
      at_none (Normal x) e = λ b. cc
      at_none (LangItem item) e =
          gives_after (λ x. Agrees x (read_piece leading (behind_trait None) r)) (alloc_type (ty.Path (LangItem item)) (Some at))
          (λ i. pure (projected t (LangItem item) (at_first leading w))) (λ i b. agrees_refused (behind_trait None) refl refl)
  agrees_trait t (Some p) (Some m) e at =
      gives_after (λ x. Agrees x (read_piece leading (behind_trait (Some m)) r)) (alloc_type (ty.Path p) (Some at))
      (λ i. pure (projected t p (at_first leading w)))
      (λ i b. by (walks.no_names (mod_path p).segments) (same_empty (mod_path p).segments ∙ ap (λ x. no_names x.segments) is))
    where
      is : mod_path p ≡ m
      is = own_names_of p m e

      by : (b : Bool) → b ≡ no_names m.segments
          → Agrees (if b then Refused else Open (walks.add_trait t p (at_first leading w))) (read_piece leading (behind_trait (Some m)) r)
      by true f = agrees_refused (behind_trait (Some m)) (sym f) refl
      by false f = subst (Agrees (Open (walks.add_trait t p (at_first leading w)))) (sym (read_is (behind_trait (Some m)))) (
        refl,
        record {
          going = ap (λ b. r.refused || b) (sym f) ∙ still_going;
          kind = ap (λ x. x.kind) is;
          names = trait_names p m is;
          anchor = still_anchor;
        },
      )

-- segments in front of what is refused or has ended

refused_own : (p : names.Piece) (ns : List Name) (r : names.Reading) → r.refused ≡ true → (own_self p ns r).refused ≡ true
refused_own names.refusing ns r h = h
refused_own (names.named x) ns r h = h
refused_own (names.root k) ns r h = h
refused_own names.self_ [] r h = h
refused_own names.self_ (n ∷ ns) r h = h
refused_own names.super_ ns r h = h
refused_own names.anchor ns r h = h
refused_own (behind_trait q) ns r h = h

closed_refused : (leading : Bool) (p : names.Piece) (r : names.Reading) → r.refused ≡ true → (read_piece leading p r).refused ≡ true
closed_refused leading p r h = by r.ended
  where
    by : (b : Bool) → (if b then r else own_self p r.names (with_piece leading p r)).refused ≡ true
    by true = h
    by false = refused_own p r.names (with_piece leading p r) (or_true r.refused (refuses p) h)

closed_ended : (leading : Bool) (p : names.Piece) (r : names.Reading) → r.ended ≡ true → read_piece leading p r ≡ r
closed_ended leading p r h = ap (λ b. if b then r else own_self p r.names (with_piece leading p r)) h

-- the steps for a segment, where others are read that don't refuse and haven't ended
abbrev Going : (names.Reading → names.Reading) → (PathWalk → Lowering Reading) → Type 0
Going f g = (w : PathWalk) (r : names.Reading) → r.ended ≡ false → Says w r → Gives (λ q. Agrees q (f r)) (g w)

goes_on : (leading : Bool) (p : names.Piece) (g : PathWalk → Lowering Reading) → Going (read_piece leading p) g
    → (q : Reading) (r : names.Reading) → Agrees q r → Gives (λ x. Agrees x (read_piece leading p r)) (proceed q g)
goes_on leading p g h Refused r a = λ b. closed_refused leading p r a
goes_on leading p g h (Ended w) r a = λ b. subst (Agrees (Ended w)) (sym (closed_ended leading p r a.0)) a
goes_on leading p g h (Open w) r a = h w r a.0 a.1

-- all segments of a path, and of those around it
rest_refused : (ss : Segments) (r : names.Reading) → r.refused ≡ true → (read_rest ss r).refused ≡ true
rest_refused tree.no_segments r h = h
rest_refused (tree.more_segments s ss) r h = closed_refused false (piece false s) (read_rest ss r) (rest_refused ss r h)

rest_ended : (ss : Segments) (r : names.Reading) → r.ended ≡ true → read_rest ss r ≡ r
rest_ended tree.no_segments r h = refl
rest_ended (tree.more_segments s ss) r h =
    let e = rest_ended ss r h in
    ap (read_piece false (piece false s)) e ∙ closed_ended false (piece false s) r h

mutual
  path_refused : (p : Path) (r : names.Reading) → r.refused ≡ true → (read_outward p r).refused ≡ true
  path_refused (tree.path alias leading first rest use_) r h =
      use_refused use_ _ (closed_refused leading (piece true first) (read_rest rest r) (rest_refused rest r h))

  use_refused : (o : OptionPath) (r : names.Reading) → r.refused ≡ true → (read_use o r).refused ≡ true
  use_refused tree.no_path r h = h
  use_refused (tree.some_path p) r h = path_refused p r h

mutual
  path_ended : (p : Path) (r : names.Reading) → r.ended ≡ true → read_outward p r ≡ r
  path_ended (tree.path alias leading first rest use_) r h =
      ap (λ x. read_use use_ (read_piece leading (piece true first) x)) (rest_ended rest r h)
      ∙ (ap (read_use use_) (closed_ended leading (piece true first) r h) ∙ use_ended use_ r h)

  use_ended : (o : OptionPath) (r : names.Reading) → r.ended ≡ true → read_use o r ≡ r
  use_ended tree.no_path r h = refl
  use_ended (tree.some_path p) r h = path_ended p r h

-- the whole path

module _ (w : PathWalk) (r : names.Reading) (h : Says w r) where
  whole_kind : walks.own_kind w ≡ names.own_kind r
  whole_kind =
      let none : walks.no_names w.names ≡ no_names r.names = same_empty w.names ∙ (sym (empty_reversed w.names) ∙ ap no_names h.names) in
      let k = counted r.set_kind r.supers in
      let plain : walks.is_plain w.kind ≡ names.is_plain k = ap walks.is_plain h.kind ∙ same_plain k in
      λ j. if none j && plain j && h.anchor j then kind.Super 0 else h.kind j

  own_names : walks.own_path w ≡ record { kind = names.own_kind r; segments = r.names }
  own_names = λ j. record { kind = whole_kind j; segments = h.names j }

  finished_names : names_in (walks.finished w) ≡ Some (walks.own_path w)
  finished_names = by (is_none w.type_anchor && not w.found_args)
    where
      by : (b : Bool) → names_in (if b then BarePath (walks.own_path w) else Normal (walks.normal_path w)) ≡ Some (walks.own_path w)
      by true = refl
      by false = refl

  read_names : names_in (walks.finished w) ≡ names.path_read r
  read_names =
      finished_names ∙ ap Some own_names
      ∙ sym (ap (λ b. if b then None else Some (record { kind = names.own_kind r; segments = r.names })) h.going)

agreed_names : (q : Reading) (r : names.Reading) → Agrees q r → names_read (walks.path_read q) ≡ names.path_read r
agreed_names Refused r h = sym (ap (λ b. if b then None else Some (record { kind = names.own_kind r; segments = r.names })) h)
agreed_names (Ended w) r h = read_names w r h.1
agreed_names (Open w) r h = read_names w r h.1

-- the tree

start_agrees : Agrees (Open start) nothing_read
start_agrees = (refl, record { going = refl; kind = refl; names = refl; anchor = refl })

-- what is read of a path, which may be absent
abbrev Named : OptionPath → Option HirPath → Type 0
Named o r = names_read r ≡ mod_path_of o

crate_agrees : (leading : Bool) (c : Option CrateId) (w : PathWalk) (r : names.Reading) → r.ended ≡ false → Says w r
    → Agrees (walks.ended (walks.crate_kind c) (at_first leading w)) (read_piece leading (names.root (names.crate_kind c)) r)
crate_agrees leading None w r e h = agrees_root leading w r e h kind.Crate
crate_agrees leading (Some c) w r e h = agrees_root leading w r e h (kind.DollarCrate c)

mutual
  unfolding whole with_trait

  first_goes : (leading : Bool) (s : Segment) → Going (read_piece leading (piece true s)) (λ w. read_segment true s (at_first leading w))
  first_goes leading tree.absent_segment w r e h = λ b. agrees_named leading w r e h missing_name None
  first_goes leading tree.broken_segment w r e h = λ b. agrees_refused leading w r e h names.refusing refl refl
  first_goes leading (tree.name_segment n _ a) w r e h =
      gives_after _ (lower_segment_args a) _ (λ x b. agrees_named leading w r e h n x)
  first_goes leading tree.self_type_segment w r e h = λ b. agrees_named leading w r e h walks.self_type_name None
  first_goes leading tree.crate_segment w r e h = λ b. agrees_root leading w r e h kind.Crate
  first_goes leading (tree.dollar_crate_segment c) w r e h = λ b. crate_agrees leading c w r e h
  first_goes leading tree.self_segment w r e h = λ b. agrees_self leading w r e h
  first_goes leading tree.super_segment w r e h = gives_super leading w r e h
  first_goes leading (tree.type_segment t) w r e h =
      gives_after _ (lower_type None t) _ (λ i b. agrees_anchor leading w r e h i)
  first_goes leading (tree.trait_segment t at p) w r e h =
      gives_after _ (lower_type None t) _
      (λ i. gives_bind (Named p) (λ q. Agrees q (read_piece leading (behind_trait (mod_path_of p)) r)) (lower_path p)
      (read_trait i at (at_first leading w)) (path_named p) (λ o named. agrees_trait leading w r e h i o (mod_path_of p) named at))

  behind_goes : (s : Segment) → Going (read_piece false (piece false s)) (read_segment false s)
  behind_goes tree.absent_segment w r e h = λ b. agrees_named false w r e h missing_name None
  behind_goes tree.broken_segment w r e h = λ b. agrees_refused false w r e h names.refusing refl refl
  behind_goes (tree.name_segment n _ a) w r e h =
      gives_after _ (lower_segment_args a) _ (λ x b. agrees_named false w r e h n x)
  behind_goes tree.self_type_segment w r e h = λ b. agrees_named false w r e h walks.self_type_name None
  behind_goes tree.crate_segment w r e h = λ b. agrees_refused false w r e h names.refusing refl refl
  behind_goes (tree.dollar_crate_segment c) w r e h = λ b. agrees_refused false w r e h names.refusing refl refl
  behind_goes tree.self_segment w r e h = λ b. agrees_refused false w r e h names.refusing refl refl
  behind_goes tree.super_segment w r e h = gives_super false w r e h
  behind_goes (tree.type_segment t) w r e h = λ b. agrees_refused false w r e h names.refusing refl refl
  behind_goes (tree.trait_segment t at p) w r e h = λ b. agrees_refused false w r e h names.refusing refl refl

  each_goes : (ss : Segments) → Going (read_rest ss) (read_each ss)
  each_goes tree.no_segments w r e h = λ b. (e, h)
  each_goes (tree.more_segments s ss) w r e h =
      gives_bind (λ q. Agrees q (read_rest ss r)) (λ q. Agrees q (read_piece false (piece false s) (read_rest ss r))) (read_each ss w)
      (λ q. proceed q (read_segment false s)) (each_goes ss w r e h)
      (λ q a. goes_on false (piece false s) (read_segment false s) (behind_goes s) q (read_rest ss r) a)

  path_goes : (p : Path) → Going (read_outward p) (read_path p)
  path_goes (tree.path alias leading first rest use_) w r e h =
      let own = read_piece leading (piece true first) (read_rest rest r) in
      let first_steps = λ (v : PathWalk). read_segment true first (at_first leading v) in
      gives_bind (λ q. Agrees q own) (λ q. Agrees q (read_use use_ own)) (read_each rest w >>= (λ q. proceed q first_steps))
      (λ q. proceed q (read_option use_))
      (gives_bind (λ q. Agrees q (read_rest rest r)) (λ q. Agrees q own) (read_each rest w) (λ q. proceed q first_steps)
      (each_goes rest w r e h)
      (λ q a. goes_on leading (piece true first) (λ v. read_segment true first (at_first leading v)) (first_goes leading first) q
      (read_rest rest r) a))
      (λ q a. outer_goes use_ q own a)

  outer_goes : (o : OptionPath) (q : Reading) (r : names.Reading) → Agrees q r
      → Gives (λ x. Agrees x (read_use o r)) (proceed q (read_option o))
  outer_goes o Refused r a = λ b. use_refused o r a
  outer_goes o (Ended w) r a = λ b. subst (Agrees (Ended w)) (sym (use_ended o r a.0)) a
  outer_goes tree.no_path (Open w) r a = λ b. a
  outer_goes (tree.some_path p) (Open w) r a = path_goes p w r a.0 a.1

  path_named : (o : OptionPath) → Gives (Named o) (lower_path o)
  path_named tree.no_path = λ b. refl
  path_named (tree.some_path p) =
      gives_aliased (Named (tree.some_path p)) (alias_of p) (read_path p start >>= (λ q. pure (walks.path_read q)))
      (gives_bind (λ q. Agrees q (read_outward p nothing_read)) (Named (tree.some_path p))
      (read_path p start) (λ q. pure (walks.path_read q))
      (path_goes p start nothing_read start_agrees.0 start_agrees.1)
      (λ q a b. agreed_names q (read_outward p nothing_read) a))

-- what is read of a path has them
pub reading_names : (p : Path) (b b' : Builder) (r : Reading) → read_path p start b ≡ (Ok r, b')
    → names_read (walks.path_read r) ≡ mod_path_of (tree.some_path p)
reading_names p b b' r h =
    agreed_names r (read_outward p nothing_read)
    (subst (λ x. IfOk x.0 (λ q. Agrees q (read_outward p nothing_read))) h (path_goes p start nothing_read start_agrees.0 start_agrees.1 b))

-- a path that was lowered has the names that are read of it
pub lowered_names : (o : OptionPath) (b b' : Builder) (r : Option HirPath) → lower_path o b ≡ (Ok r, b')
    → names_read r ≡ mod_path_of o
lowered_names o b b' r h = subst (λ x. IfOk x.0 (Named o)) h (path_named o b)
