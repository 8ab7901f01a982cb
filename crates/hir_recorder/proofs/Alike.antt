-- Those who answer what was asked as it was answered answer it alike.
use Rattle.std.proofs.Common.{◌≡◌, ◌∙◌, inl, inr, subst, sym, List, [], ◌∷◌, ◌++◌, map, Option, Some, None}
use Rattle.hir_env.specs.Answers.{Answers}
use Rattle.thm_frame.specs.Items.{LangItem, all_items, item_of}
use Rattle.thm_frame.specs.Questions.{Alike, AllAlike, Question}
use Rattle.thm_frame.specs.Questions as question
use Rattle.hir_recorder.specs.Alike.{AllByFile, AnsweredByFile, Covers, IsAbout, IsAsked, IsOneOf, OneExpansion, all_questions, questions}
use Rattle.hir_recorder.specs.Kept.{AllAnsweredAs, AnsweredAs}
use Rattle.hir_recorder.specs.declared.asked.Asked.{Asked}
use Rattle.hir_recorder.specs.declared.asked.Asked.TheVariants as asked

module _ (a b : Answers) where
  both_alike : (qs rs : List Question) → AllAlike a b qs → AllAlike a b rs → AllAlike a b (qs ++ rs)
  both_alike [] rs h k = k
  both_alike (q ∷ qs) rs h k = (h.0, both_alike qs rs h.1 k)

  items_alike : a.lang_items ≡ b.lang_items → (is : List LangItem) → AllAlike a b (map question.of_lang_item is)
  items_alike e [] = tt
  items_alike e (i ∷ is) = ((λ j. item_of (e j) i), items_alike e is)

  one_alike : (x : Asked) → AnsweredAs a x → AnsweredAs b x → AllAlike a b (questions x)
  one_alike (asked.Cfg s x) h k = (h ∙ sym k, tt)
  one_alike (asked.CfgPred pred x) h k = (h ∙ sym k, tt)
  one_alike (asked.Hygiene s x) h k = (h ∙ sym k, tt)
  one_alike (asked.Context s x) h k = (h ∙ sym k, tt)
  one_alike (asked.CrateRoot c x) h k = (h ∙ sym k, tt)
  one_alike (asked.ContextParent c x) h k = tt
  one_alike (asked.Opaque c x) h k = tt
  one_alike (asked.OuterMacro c x) h k = (h.1 ∙ sym k.1, tt)
  one_alike (asked.Block s m x) h k = (h ∙ sym k, tt)
  one_alike (asked.Skip d x) h k = (h ∙ sym k, tt)
  one_alike (asked.Container d x) h k = (h ∙ sym k, tt)
  one_alike (asked.ModuleOf c x) h k = (h ∙ sym k, tt)
  one_alike (asked.Resolve m path s x) h k = (h ∙ sym k, tt)
  one_alike (asked.Alias n x) h k = (h ∙ sym k, tt)
  one_alike (asked.LangItems x) h k = items_alike (h ∙ sym k) all_items
  one_alike (asked.NewRange m x) h k = (h ∙ sym k, tt)
  one_alike (asked.Expand s m kind x) h k = tt
  one_alike (asked.MacroDef m n x) h k = (h ∙ sym k, tt)
  one_alike (asked.LegacyMacro m n place x) h k = (h ∙ sym k, tt)
  one_alike (asked.ExpansionLimit x) h k = (h ∙ sym k, tt)

  pub all_alike : (xs : List Asked) → AllAnsweredAs a xs → AllAnsweredAs b xs → AllAlike a b (all_questions xs)
  all_alike [] h k = tt
  all_alike (x ∷ xs) h k = both_alike (questions x) (all_questions xs) (one_alike x h.0 k.0) (all_alike xs h.1 k.1)

  -- lists that are covered

  one_of : (rs : List Question) (q : Question) → AllAlike a b rs → IsOneOf rs q → Alike a b q
  one_of [] q h is = absurd is
  one_of (r ∷ rs) q h (inl is) = subst (Alike a b) (sym is) h.0
  one_of (r ∷ rs) q h (inr is) = one_of rs q h.1 is

  of_entry : (x : Asked) (q : Question) → AnsweredAs a x → AnsweredAs b x → IsAbout x q → Alike a b q
  of_entry (asked.Expand s m kind x) q h k is = absurd h
  of_entry (asked.Cfg s x) q h k is = one_of (questions (asked.Cfg s x)) q (one_alike (asked.Cfg s x) h k) is
  of_entry (asked.CfgPred pred x) q h k is = one_of (questions (asked.CfgPred pred x)) q (one_alike (asked.CfgPred pred x) h k) is
  of_entry (asked.Hygiene s x) q h k is = one_of (questions (asked.Hygiene s x)) q (one_alike (asked.Hygiene s x) h k) is
  of_entry (asked.Context s x) q h k is = one_of (questions (asked.Context s x)) q (one_alike (asked.Context s x) h k) is
  of_entry (asked.CrateRoot c x) q h k is = one_of (questions (asked.CrateRoot c x)) q (one_alike (asked.CrateRoot c x) h k) is
  of_entry (asked.ContextParent c x) q h k is = one_of (questions (asked.ContextParent c x)) q (one_alike (asked.ContextParent c x) h k) is
  of_entry (asked.Opaque c x) q h k is = one_of (questions (asked.Opaque c x)) q (one_alike (asked.Opaque c x) h k) is
  of_entry (asked.OuterMacro c x) q h k is = one_of (questions (asked.OuterMacro c x)) q (one_alike (asked.OuterMacro c x) h k) is
  of_entry (asked.Block s m x) q h k is = one_of (questions (asked.Block s m x)) q (one_alike (asked.Block s m x) h k) is
  of_entry (asked.Skip d x) q h k is = one_of (questions (asked.Skip d x)) q (one_alike (asked.Skip d x) h k) is
  of_entry (asked.Container d x) q h k is = one_of (questions (asked.Container d x)) q (one_alike (asked.Container d x) h k) is
  of_entry (asked.ModuleOf c x) q h k is = one_of (questions (asked.ModuleOf c x)) q (one_alike (asked.ModuleOf c x) h k) is
  of_entry (asked.Resolve m p s x) q h k is = one_of (questions (asked.Resolve m p s x)) q (one_alike (asked.Resolve m p s x) h k) is
  of_entry (asked.Alias n x) q h k is = one_of (questions (asked.Alias n x)) q (one_alike (asked.Alias n x) h k) is
  of_entry (asked.LangItems x) q h k is = one_of (questions (asked.LangItems x)) q (one_alike (asked.LangItems x) h k) is
  of_entry (asked.NewRange m x) q h k is = one_of (questions (asked.NewRange m x)) q (one_alike (asked.NewRange m x) h k) is
  of_entry (asked.MacroDef m n x) q h k is = one_of (questions (asked.MacroDef m n x)) q (one_alike (asked.MacroDef m n x) h k) is
  of_entry (asked.LegacyMacro m n place x) q h k is =
      one_of (questions (asked.LegacyMacro m n place x)) q (one_alike (asked.LegacyMacro m n place x) h k) is
  of_entry (asked.ExpansionLimit x) q h k is = one_of (questions (asked.ExpansionLimit x)) q (one_alike (asked.ExpansionLimit x) h k) is

  of_answered : (xs : List Asked) (q : Question) → AllAnsweredAs a xs → AllAnsweredAs b xs → IsAsked xs q → Alike a b q
  of_answered [] q h k is = absurd is
  of_answered (x ∷ xs) q h k (inl is) = of_entry x q h.0 k.0 is
  of_answered (x ∷ xs) q h k (inr is) = of_answered xs q h.1 k.1 is

  pub covered : (xs : List Asked) (qs : List Question) → Covers xs qs → AllAnsweredAs a xs → AllAnsweredAs b xs → AllAlike a b qs
  covered xs [] is h k = tt
  covered xs (q ∷ qs) is h k = (of_answered xs q h k is.0, covered xs qs is.1 h k)

  module _ (one : OneExpansion a b) where
    by_file : (x : Asked) (q : Question) → AnsweredByFile a x → AnsweredByFile b x → IsAbout x q → Alike a b q
    by_file (asked.Expand s m kind None) q h k is = absurd h
    by_file (asked.Expand s m kind (Some f)) q h k is = subst (Alike a b) (sym is.1) (one s is.0 m kind f (h is.0) (k is.0))
    by_file (asked.Cfg s x) q h k is = of_entry (asked.Cfg s x) q h k is
    by_file (asked.CfgPred pred x) q h k is = of_entry (asked.CfgPred pred x) q h k is
    by_file (asked.Hygiene s x) q h k is = of_entry (asked.Hygiene s x) q h k is
    by_file (asked.Context s x) q h k is = of_entry (asked.Context s x) q h k is
    by_file (asked.CrateRoot c x) q h k is = of_entry (asked.CrateRoot c x) q h k is
    by_file (asked.ContextParent c x) q h k is = of_entry (asked.ContextParent c x) q h k is
    by_file (asked.Opaque c x) q h k is = of_entry (asked.Opaque c x) q h k is
    by_file (asked.OuterMacro c x) q h k is = of_entry (asked.OuterMacro c x) q h k is
    by_file (asked.Block s m x) q h k is = of_entry (asked.Block s m x) q h k is
    by_file (asked.Skip d x) q h k is = of_entry (asked.Skip d x) q h k is
    by_file (asked.Container d x) q h k is = of_entry (asked.Container d x) q h k is
    by_file (asked.ModuleOf c x) q h k is = of_entry (asked.ModuleOf c x) q h k is
    by_file (asked.Resolve m path s x) q h k is = of_entry (asked.Resolve m path s x) q h k is
    by_file (asked.Alias n x) q h k is = of_entry (asked.Alias n x) q h k is
    by_file (asked.LangItems x) q h k is = of_entry (asked.LangItems x) q h k is
    by_file (asked.NewRange m x) q h k is = of_entry (asked.NewRange m x) q h k is
    by_file (asked.MacroDef m n x) q h k is = of_entry (asked.MacroDef m n x) q h k is
    by_file (asked.LegacyMacro m n place x) q h k is = of_entry (asked.LegacyMacro m n place x) q h k is
    by_file (asked.ExpansionLimit x) q h k is = of_entry (asked.ExpansionLimit x) q h k is

    of_files : (xs : List Asked) (q : Question) → AllByFile a xs → AllByFile b xs → IsAsked xs q → Alike a b q
    of_files [] q h k is = absurd is
    of_files (x ∷ xs) q h k (inl is) = by_file x q h.0 k.0 is
    of_files (x ∷ xs) q h k (inr is) = of_files xs q h.1 k.1 is

    pub covered_by_files : (xs : List Asked) (qs : List Question) → Covers xs qs → AllByFile a xs → AllByFile b xs → AllAlike a b qs
    covered_by_files xs [] is h k = tt
    covered_by_files xs (q ∷ qs) is h k = (of_files xs q h k is.0, covered_by_files xs qs is.1 h k)
