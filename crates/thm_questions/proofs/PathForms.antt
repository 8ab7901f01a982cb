-- What a path and some segments ask, by one level of the list.
use Rattle.std.proofs.Common.{◌≡◌, ◌∙◌, ap, sym, refl, if◌then◌else◌, Bool, true, false, List, [], ◌∷◌, ◌++◌, Option, Some, None}
use Rattle.hir_syntax.specs.declared.ast.Path.{Path as AstPath, out-Path, roll-out-Path}
use Rattle.hir_syntax.specs.declared.ast.PathSegment.{PathSegment as AstPathSegment, out-PathSegment, roll-out-PathSegment}
use Rattle.hir_env.specs.Answers.{Answers}
use Rattle.hir_env.specs.Paths.{inside_projection}
use Rattle.hir_env.specs.TypeLayers.{PathSegmentLayer}
use Rattle.hir_env.specs.Whole.{resolved_path}
use Rattle.hir_env.specs.declared.ctx.LowerCtx.{LowerCtx}
use Rattle.hir_env.proofs.Mapped.{beside, map_list, optional}
use Rattle.thm_frame.specs.Theorems.{rctx}
use Rattle.thm_frame.specs.Questions.{Question}
use Rattle.spec_fold.specs.Folds as fold
use Rattle.spec_fold.specs.Folds.{with_made}
use Rattle.spec_fold.proofs.Maps.{map_path, map_segment}
use Rattle.spec_fold.proofs.Rolled.{rolled_path, rolled_segment}
use Rattle.thm_questions.specs.Asked as asked
use Rattle.thm_questions.specs.Asked.{PathAsking, asking}
use Rattle.thm_questions.specs.Forms as form
use Rattle.thm_questions.specs.Lists.{entered_calls, path_questions, segment_questions}
use Rattle.thm_questions.specs.Parts.{of_option, of_present}
use Rattle.thm_questions.proofs.Claims.{asked_of, in_asked}
use Rattle.thm_questions.proofs.Forms.{some_is}

module _ (a : Answers) (p : LowerCtx) where
  abbrev segment_of : AstPathSegment → LowerCtx → List Question
  segment_of = fold.fold_segment asking (asked_of a p.left)

  abbrev path_of : AstPath → PathAsking
  path_of = fold.fold_path asking (asked_of a p.left)

  -- one level of a path, and of a segment

  path_level : (x : AstPath) → path_questions (rctx p a) x
      ≡ asked.path_asked a p.left (entered_calls a p.left) (map_path (in_asked a p.left) (out-Path x)) x p
  path_level x =
      (λ j. (sym (ap (fold.fold_path asking (asked_of a p.left)) (roll-out-Path x)) j).alone x p)
      ∙ (λ j. (rolled_path asking (asked_of a p.left) (out-Path x) j).alone x p)

  abbrev mapped : AstPathSegment → PathSegmentLayer (with_made asking)
  mapped s = map_segment (in_asked a p.left) (out-PathSegment s)

  segment_level : (s : AstPathSegment) → segment_questions (rctx p a) s
      ≡ asked.segment_asked a p.left (entered_calls a p.left) (mapped s) p
  segment_level s =
      (λ j. sym (ap (fold.fold_segment asking (asked_of a p.left)) (roll-out-PathSegment s)) j p)
      ∙ (λ j. rolled_segment asking (asked_of a p.left) (out-PathSegment s) j p)

  -- its parts ask what they do by themselves

  segments_are : (ss : List (Option AstPathSegment))
      → of_present (λ s. s.1 p) (map_list (optional (beside segment_of)) ss) ≡ of_present (λ s. segment_of s p) ss
  segments_are [] = refl
  segments_are (None ∷ ss) = segments_are ss
  segments_are (Some s ∷ ss) = λ j. segment_of s p ++ segments_are ss j

  local_are : (in_macro : Bool) (ss : List (Option AstPathSegment)) (u : Option AstPath)
      → asked.of_local a in_macro (map_list (optional (beside segment_of)) ss) (optional (beside path_of) u) p
      ≡ form.local_questions a in_macro ss u p
  local_are false ss u = refl
  local_are true [] u = refl
  local_are true (None ∷ ss) u = refl
  local_are true (Some s ∷ []) None = refl
  local_are true (Some s ∷ []) (Some u) = refl
  local_are true (Some s ∷ (t ∷ ss)) u = refl

  pub path_alone : (x : AstPath) → (let y = out-Path x in path_questions (rctx p a) x
      ≡ ((of_present (segment_questions (rctx p a)) y.segs ++ of_option (form.use_tree_questions (rctx p a)) y.use_)
      ++ form.local_questions a y.in_macro y.segs y.use_ p) ++ asked.of_alias_at a p (resolved_path (rctx p a) x))
  path_alone x = let y = out-Path x in path_level x
      ∙ (λ j. ((segments_are y.segs j ++ some_is a p path_of (λ u. u.use_tree p) y.use_ j) ++ local_are y.in_macro y.segs y.use_ j)
      ++ asked.of_alias_at a p (resolved_path (rctx p a) x))

-- of a name its arguments, and of `$crate` its root

abbrev arguments_of : Answers → PathSegmentLayer (with_made asking) → LowerCtx → List Question
arguments_of a s p = asked.some_each s.generics p
    ++ asked.parens_asked a p.left (entered_calls a p.left) s.parens (asked.some_some s.ret p) p

abbrev qualified_of : PathSegmentLayer (with_made asking) → LowerCtx → List Question
qualified_of s p = asked.some s.ty (inside_projection p) ++ asked.some s.trait_ (inside_projection p)

pub plain_name : form.PlainNameAsks
plain_name a p s n is named plain unargued unparenthesized =
    let m = in_asked a p.left in
    let y = out-PathSegment s in
    let generics = ap (λ g. (map_segment m (record y { generics = g })).generics) unargued in
    let parens = ap (λ g. (map_segment m (record y { parens = g })).parens) unparenthesized in
    segment_level a p s
    ∙ ((λ j. asked.of_segment a p (is j) (named j) (arguments_of a (mapped a p s) p) (qualified_of (mapped a p s) p))
    ∙ ((λ j. if plain j then asked.of_root a p n.id else arguments_of a (mapped a p s) p)
    ∙ (λ j. asked.some_each (generics j) p
    ++ asked.parens_asked a p.left (entered_calls a p.left) (parens j) (asked.some_some (mapped a p s).ret p) p)))

pub dollar_crate : form.DollarCrateAsks
dollar_crate a p s n is named it =
    segment_level a p s
    ∙ ((λ j. asked.of_segment a p (is j) (named j) (arguments_of a (mapped a p s) p) (qualified_of (mapped a p s) p))
    ∙ (λ j. if it j then asked.of_root a p n.id else arguments_of a (mapped a p s) p))
