-- Paths that stand alone in a call, computed level by level.
use Rattle.std.proofs.Common.{◌≡◌, ◌∙◌, refl, ap, ℕ, Bool, true, false, List, [], ◌∷◌, Option, Some, None}
use Rattle.hir_base.specs.declared.node.NodeId.{NodeId}
use Rattle.hir_syntax.specs.declared.ast.Path.{roll-Path, out-roll-Path}
use Rattle.hir_syntax.specs.declared.ast.PathSegment.{roll-PathSegment, out-PathSegment, out-roll-PathSegment}
use Rattle.hir_syntax.specs.declared.ast.SegmentKind.TheVariants as segment
use Rattle.hir_env.specs.declared.ctx.LowerCtx.{LowerCtx}
use Rattle.hir_env.specs.Answers.{Answers}
use Rattle.hir_env.specs.LocalPaths.{at_local_root, local_root}
use Rattle.hir_env.specs.Paths as of
use Rattle.hir_env.specs.ResolveCtx.{ResolveCtx}
use Rattle.hir_env.specs.TypeLayers.{PathLayer, PathSegmentLayer}
use Rattle.hir_env.specs.Whole.{resolved_path, resolved_segment, resolved_use_tree, into, reader, written}
use Rattle.hir_env.specs.ResolvedTree as tree
use Rattle.hir_env.specs.ResolvedTree.{Path, Segment}
use Rattle.hir_env.proofs.PathLevels.{path_is_level, segment_is_level, use_tree_is_level}
use Rattle.spec_data.specs.Data.{PathData}
use Rattle.spec_data.specs.Written.{written_path}
use Rattle.spec_semantics.specs.Reading.{rctx_of}
use Rattle.spec_semantics.specs.ReadParts.{segment_layer, path_layer, written_as, with_segment, segment_env, BeginsAtTheLocalRoot}

abbrev said : Path → Option PathData
said x = written_path (tree.some_path x)

module _ (env : Answers) (p : LowerCtx) where
  abbrev here : ResolveCtx
  here = rctx_of env p 0

  abbrev step : PathSegmentLayer written → Segment
  step l = of.segment_step env (reader env (into here)) l here.place

  path_made : (l : PathLayer written) → resolved_path here (roll-Path l) ≡ of.path_step env (reader env (into here)) l here.place
  path_made l = path_is_level here (roll-Path l) ∙ ap (λ m. of.path_step env (reader env (into here)) m here.place) (out-roll-Path l)

  segment_made : (l : PathSegmentLayer written)
      → resolved_segment here (roll-PathSegment l) ≡ step l
  segment_made l = segment_is_level here (roll-PathSegment l)
      ∙ ap (λ m. of.segment_step env (reader env (into here)) m here.place) (out-roll-PathSegment l)

  -- what is read of it doesn't look at the alias
  aliased_said : (alias : Option (List Bool)) (x : Path) → said (of.with_alias alias x) ≡ said x
  aliased_said alias (tree.path _ leading first rest use_) = refl

  abbrev called_at : PathLayer written → Path
  called_at l = of.called_path env (reader env (into here)) l.in_macro l.leading l.segs l.use_ here.place
      (of.plain_path env (reader env (into here)) l here.place)

  path_said : (l : PathLayer written) → said (resolved_path here (roll-Path l)) ≡ said (called_at l)
  path_said l = ap said (path_made l) ∙ aliased_said (of.alias_at env here.place (called_at l)) (called_at l)

  -- one segment, alone in a call
  abbrev alone_at : Segment → NodeId → Path
  alone_at s n = at_local_root (local_root env (of.context_at env here.place n)) (tree.path None false s tree.no_segments tree.no_path)

  one_alone : (l : PathSegmentLayer written)
      → said (resolved_path here (written_as true false (Some (roll-PathSegment l) ∷ [])))
      ≡ said (alone_at (step l) l.id)
  one_alone l = path_said (path_layer true false (Some (roll-PathSegment l) ∷ []) None)
      ∙ ap said (ap (λ s. alone_at s (out-PathSegment (roll-PathSegment l)).id) (segment_made l)
      ∙ ap (λ m. alone_at (step l) m.id) (out-roll-PathSegment l))

  -- two segments, and one behind `::` or not in a call
  abbrev plainly : Bool → Segment → Path
  plainly leading s = tree.path None leading s tree.no_segments tree.no_path

  two_alone : (l m : PathSegmentLayer written)
      → said (resolved_path here (written_as true false (Some (roll-PathSegment l) ∷ Some (roll-PathSegment m) ∷ [])))
      ≡ said (tree.path None false (step l) (tree.more_segments (step m) tree.no_segments) tree.no_path)
  two_alone l m = path_said (path_layer true false (Some (roll-PathSegment l) ∷ Some (roll-PathSegment m) ∷ []) None)
      ∙ (λ j. said (tree.path None false (segment_made l j) (tree.more_segments (segment_made m j) tree.no_segments) tree.no_path))

  outside : (l : PathSegmentLayer written)
      → said (resolved_path here (written_as false false (Some (roll-PathSegment l) ∷ [])))
      ≡ said (plainly false (step l))
  outside l = path_said (path_layer false false (Some (roll-PathSegment l) ∷ []) None) ∙ ap (λ s. said (plainly false s)) (segment_made l)

  -- a segment in the list of a use tree
  use_tree_made : (l : PathLayer written)
      → resolved_use_tree here (roll-Path l) ≡ of.plain_path env (reader env (into here)) l here.place
  use_tree_made l = use_tree_is_level here (roll-Path l)
      ∙ ap (λ m. of.plain_path env (reader env (into here)) m here.place) (out-roll-Path l)

  abbrev in_list : Segment → Path → Path
  in_list s u = tree.path None false s tree.no_segments (tree.some_path u)

  absent_listed : (l : PathSegmentLayer written)
      → said (resolved_path here (with_segment (roll-PathSegment l) (written_as true false (None ∷ []))))
      ≡ said (in_list (step l) (plainly false tree.absent_segment))
  absent_listed l = let around = path_layer true false (None ∷ []) None in
      path_said (path_layer false false (Some (roll-PathSegment l) ∷ []) (Some (roll-Path around)))
      ∙ (λ j. said (in_list (segment_made l j) (use_tree_made around j)))

  one_listed : (l m : PathSegmentLayer written)
      → said (resolved_path here (with_segment (roll-PathSegment l) (written_as true false (Some (roll-PathSegment m) ∷ []))))
      ≡ said (in_list (step l) (plainly false (step m)))
  one_listed l m = let around = path_layer true false (Some (roll-PathSegment m) ∷ []) None in
      path_said (path_layer false false (Some (roll-PathSegment l) ∷ []) (Some (roll-Path around)))
      ∙ (λ j. said (in_list (segment_made l j) (use_tree_made around j)))
      ∙ (λ j. said (in_list (step l) (plainly false (segment_made m j))))

abbrev name_layer : ℕ → PathSegmentLayer written
name_layer n = segment_layer (Some segment.Name) (Some (n ∷ []))

-- the same behind `::`
leading_one : (env : Answers) (p : LowerCtx) (l : PathSegmentLayer written)
    → said (resolved_path (here env p) (written_as true true (Some (roll-PathSegment l) ∷ [])))
    ≡ said (let at = here env p in at_local_root (local_root env (of.context_at env at.place l.id))
    (plainly env p true (step env p l)))
leading_one env p l = let at = here env p in
    path_said env p (path_layer true true (Some (roll-PathSegment l) ∷ []) None)
    ∙ ap said (ap (λ s. at_local_root (local_root env (of.context_at env at.place (out-PathSegment (roll-PathSegment l)).id))
    (plainly env p true s)) (segment_made env p l)
    ∙ ap (λ m. at_local_root (local_root env (of.context_at env at.place m.id))
    (plainly env p true (step env p l))) (out-roll-PathSegment l))

pub begins_at_the_local_root : BeginsAtTheLocalRoot
begins_at_the_local_root env p c =
    let rooted = segment_env env true (Some c) in (
      record {
        local = one_alone rooted p (name_layer 97);
        rootless = one_alone (segment_env env true None) p (name_layer 97);
        other = one_alone (segment_env env false (Some c)) p (name_layer 97);
      },
      record {
        outside = outside rooted p (name_layer 97);
        two = two_alone rooted p (name_layer 97) (name_layer 98);
        leading = leading_one rooted p (name_layer 97);
        self_alone = one_alone rooted p (segment_layer (Some segment.SelfKw) None);
      },
      record {
        inside = path_said env p (path_layer true false (None ∷ []) None);
        outside = path_said env p (path_layer false false (None ∷ []) None);
      },
      record {
        name_inside = one_listed rooted p (name_layer 98) (name_layer 97);
        self_inside = one_listed rooted p (segment_layer (Some segment.SelfKw) None) (name_layer 97);
        absent = absent_listed env p (name_layer 98);
      },
    )
