-- What was answered before the end of an input.
use Rattle.std.proofs.Common.{◌≡◌, ◌≢◌, ℕ, List, [], ◌∷◌, ◌++◌, Some, None, cond, length, Result, Ok, Err, OnOk}
use Rattle.std.proofs.Common.{refl, sym, ap, subst, ◌∙◌, ne_eqb, append_assoc, append-nil, arith}
use Rattle.std.specs.declared.option.Option.{Option}
use Rattle.std.proofs.lemmas.List.{map-append, flat_map_more}
use Rattle.std.proofs.lemmas.List.Elements.{All-head, All-tail, All-nil, All-push}
use Rattle.std.proofs.KnownBytes.{Consumes-nil, Consumes-trans, Appends-nil, Appends-trans}
use Rattle.std.specs.Prelude.{map}
use Rattle.std.specs.List.{All, flat_map}
use Rattle.std.specs.Io.KnownBytes.{Appends, Consumes}
use Rattle.lower_run.specs.declared.failure.Failure.{Failure}
use Rattle.lower_run.specs.declared.mode.Mode.{Mode}
use Rattle.lower_lines.specs.Lines.{Answered, AnswersAll, AnswersOne, IsAnswered, IsWithinLine, WasAll, lines_of, begin_with}

-- so many lines were read and answered; what follows them is cut by itself
pub record AnswersSoFar (mode : Mode) (in_old in_new out_old out_new : Option (List ℕ)) : Type 0 where
  pub text : List ℕ
  pub read : Consumes in_old in_new text
  pub all : List Answered
  pub lines : (rest : List ℕ) → lines_of (text ++ rest) ≡ map (λ a. a.line) all ++ lines_of rest
  pub each : All (IsAnswered mode) all
  pub written : Appends out_old out_new (flat_map (λ a. a.answer) all)

-- a line that a newline ends is cut off
lines_ended : (t rest : List ℕ) → IsWithinLine t → lines_of (t ++ (10 ∷ rest)) ≡ t ∷ lines_of rest
lines_ended [] rest h = refl
lines_ended (x ∷ xs) rest h =
    ap (λ b. cond b ([] ∷ lines_of (xs ++ (10 ∷ rest))) (begin_with x (lines_of (xs ++ (10 ∷ rest)))))
    (ne_eqb x 10 (All-head (λ y. y ≢ 10) x xs h))
    ∙ ap (begin_with x) (lines_ended xs rest (All-tail (λ y. y ≢ 10) x xs h))

-- what has no newline is one line
one_line : (x : ℕ) (xs : List ℕ) → IsWithinLine (x ∷ xs) → lines_of (x ∷ xs) ≡ (x ∷ xs) ∷ []
one_line x [] h = ap (λ b. cond b ([] ∷ []) ((x ∷ []) ∷ [])) (ne_eqb x 10 (All-head (λ y. y ≢ 10) x [] h))
one_line x (y ∷ ys) h =
    ap (λ b. cond b ([] ∷ lines_of (y ∷ ys)) (begin_with x (lines_of (y ∷ ys)))) (ne_eqb x 10 (All-head (λ z. z ≢ 10) x (y ∷ ys) h))
    ∙ ap (begin_with x) (one_line y ys (All-tail (λ z. z ≢ 10) x (y ∷ ys) h))

pub begin : (mode : Mode) (i o : Option (List ℕ)) → AnswersSoFar mode i i o o
begin mode i o = record {
  text = [];
  read = Consumes-nil i;
  all = [];
  lines = λ rest. refl;
  each = All-nil (IsAnswered mode);
  written = Appends-nil o;
}

-- one more line, which a newline ends
one_more : (mode : Mode) (a b c o p q : Option (List ℕ)) (t : List ℕ) → AnswersSoFar mode a b o p
    → IsWithinLine t → Consumes b c (t ++ (10 ∷ [])) → AnswersOne mode t p q → AnswersSoFar mode a c o q
one_more mode a b c o p q t s within read one = record {
  text = s.text ++ (t ++ (10 ∷ []));
  read = Consumes-trans a b c s.text (t ++ (10 ∷ [])) s.read read;
  all = s.all ++ (one.one ∷ []);
  lines = λ rest.
      ap lines_of (append_assoc s.text (t ++ (10 ∷ [])) rest ∙ ap (λ l. s.text ++ l) (append_assoc t (10 ∷ []) rest))
      ∙ s.lines (t ++ (10 ∷ rest))
      ∙ ap (λ l. map (λ x. x.line) s.all ++ l) (lines_ended t rest within ∙ ap (λ l. l ∷ lines_of rest) (sym one.of))
      ∙ sym (ap (λ l. l ++ lines_of rest) (map-append (λ x. x.line) s.all (one.one ∷ []))
      ∙ append_assoc (map (λ x. x.line) s.all) (one.one.line ∷ []) (lines_of rest));
  each = All-push (IsAnswered mode) s.all one.one s.each one.answered;
  written = subst (Appends o q) (flat_map_more (λ x. x.answer) [] s.all one.one)
      (Appends-trans o p q (flat_map (λ x. x.answer) s.all) one.one.answer s.written one.written);
}

-- the same, as code says it: the line that was answered is the text
pub more : (mode : Mode) (a b c o p q : Option (List ℕ)) (t line : List ℕ) → AnswersSoFar mode a b o p
    → IsWithinLine t → Consumes b c (t ++ (10 ∷ [])) → line ≡ t → AnswersOne mode line p q → AnswersSoFar mode a c o q
more mode a b c o p q t line s within read is one =
    one_more mode a b c o p q t s within read (subst (λ l. AnswersOne mode l p q) is one)

-- what was read, and then all that was left, was all
was_all : (a b c : Option (List ℕ)) (front rest : List ℕ) → Consumes a b front → WasAll b c rest → WasAll a c (front ++ rest)
was_all None b c front rest read all = tt
was_all (Some x) None c front rest read all = absurd read
was_all (Some x) (Some y) c front rest read all = (read ∙ ap (λ l. front ++ l) all.0, all.1)

-- nothing more
pub ended : (mode : Mode) (a b c o p : Option (List ℕ)) (t : List ℕ) → AnswersSoFar mode a b o p
    → length t ≡ 0 → WasAll b c t → AnswersAll mode a c o p
ended mode a b c o p (x ∷ xs) s none rest = absurd (omega (arith, none))
ended mode a b c o p [] s none rest = record {
  text = s.text ++ [];
  read = was_all a b c s.text [] s.read rest;
  all = s.all;
  lines = s.lines [] ∙ append-nil (map (λ x. x.line) s.all);
  each = s.each;
  written = s.written;
}

-- a last line, which no newline ends
last_one : (mode : Mode) (a b c o p q : Option (List ℕ)) (t : List ℕ) → AnswersSoFar mode a b o p
    → IsWithinLine t → t ≢ [] → WasAll b c t → AnswersOne mode t p q → AnswersAll mode a c o q
last_one mode a b c o p q [] s within some rest one = absurd (some refl)
last_one mode a b c o p q (x ∷ xs) s within some rest one = record {
  text = s.text ++ (x ∷ xs);
  read = was_all a b c s.text (x ∷ xs) s.read rest;
  all = s.all ++ (one.one ∷ []);
  lines =
      s.lines (x ∷ xs)
      ∙ ap (λ l. map (λ y. y.line) s.all ++ l) (one_line x xs within ∙ ap (λ l. l ∷ []) (sym one.of))
      ∙ sym (map-append (λ y. y.line) s.all (one.one ∷ []));
  each = All-push (IsAnswered mode) s.all one.one s.each one.answered;
  written = subst (Appends o q) (flat_map_more (λ y. y.answer) [] s.all one.one)
      (Appends-trans o p q (flat_map (λ y. y.answer) s.all) one.one.answer s.written one.written);
}

-- the same, as code says it: the line that was answered is the text, which isn't empty, and answering may have failed
pub last : (mode : Mode) (a b c o p q : Option (List ℕ)) (t line : List ℕ) (r : Result (Unit {0}) Failure) → AnswersSoFar mode a b o p
    → IsWithinLine t → length t ≢ 0 → WasAll b c t → line ≡ t → OnOk r (AnswersOne mode line p q) → OnOk r (AnswersAll mode a c o q)
last mode a b c o p q t line (Err e) s within some rest is one = tt
last mode a b c o p q t line (Ok x) s within some rest is one =
    last_one mode a b c o p q t s within (λ none. some (ap length none)) rest (subst (λ l. AnswersOne mode l p q) is one)
