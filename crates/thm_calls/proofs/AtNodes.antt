-- What is listed for a call is asked at the nodes of what it is handed, so who agrees there answers it alike.
use Rattle.std.proofs.Common.{◌≡◌, true, List, [], ◌∷◌, ◌++◌, Option, Some, None}
use Rattle.hir_base.specs.declared.node.HirFileId.{HirFileId}
use Rattle.hir_base.specs.declared.node.NodeId.{NodeId}
use Rattle.hir_syntax.specs.declared.ast.Path.{Path as AstPath, out-Path}
use Rattle.hir_syntax.specs.declared.ast.PathSegment.{PathSegment as AstSegment, out-PathSegment}
use Rattle.hir_syntax.specs.declared.types.PathType.{PathType as AstPathType, out-PathType}
use Rattle.hir_syntax.specs.declared.types.Type_.{Type_ as AstType_}
use Rattle.hir_store.specs.declared.ids.GenericDefId.TheVariants as definition
use Rattle.hir_store.specs.declared.ids.ModuleId.{ModuleId}
use Rattle.hir_env.specs.Answers.{Answers}
use Rattle.hir_env.specs.Paths.{inside_constant, inside_projection}
use Rattle.hir_env.specs.Wrapped.{AstConstArg}
use Rattle.hir_env.specs.declared.ctx.ImplTrait.{ImplTrait}
use Rattle.hir_env.specs.declared.ctx.LoweringMode.{LoweringMode}
use Rattle.hir_env.specs.declared.ctx.LoweringMode.TheVariants.{Analysis}
use Rattle.hir_env.specs.declared.ctx.LowerCtx.{LowerCtx}
use Rattle.spec_data.specs.Segments.{all_but_first, first_trait, named_among}
use Rattle.thm_frame.specs.Theorems.{rctx}
use Rattle.thm_frame.specs.Questions.{AllAlike, Question}
use Rattle.thm_questions.specs.Areas.{AllInNodes, AllThere, NodeArea}
use Rattle.thm_questions.specs.Lists.{path_questions, questions, segment_questions, type_questions}
use Rattle.thm_questions.specs.Nodes.{formals_nodes, nodes_of, path_nodes_of, segment_nodes_of, type_nodes_of}
use Rattle.thm_questions.specs.Parts.{of_each, of_option}
use Rattle.thm_questions.proofs.Bodies.{alike_there, body_there}
use Rattle.thm_questions.proofs.Framing.{all_in, first_there, rest_there}
use Rattle.thm_questions.proofs.Tree.{below, of_expr, of_path, of_segment, of_type}
use Rattle.hir_lower.specs.Beside.{segments_in}
use Rattle.hir_lower.specs.Formals.{outside_place}
use Rattle.hir_lower.specs.Roots.{becoming, body_rctx, outside_body, type_rctx}
use Rattle.thm_calls.specs.AtNodes.{Agrees, IsIn, beside_nodes, in_front_nodes, path_call_nodes, segments_nodes}
use Rattle.thm_calls.specs.ByList.{beside_asks, body_call_asks, const_call_asks, in_front_asks, path_call_asks, segments_ask}
use Rattle.thm_calls.specs.ByList.{type_call_asks}
use Rattle.thm_calls.specs.Readings.{BodyCall}

pub alike : (a : Answers) (area : NodeArea a) (b : Answers) (qs : List Question) → Agrees area b qs → AllInNodes area qs → AllAlike a b qs
alike a area b qs h k = alike_there a area b h.0 qs k h.1

module _ (a : Answers) (area : NodeArea a) where
  -- parts, at the nodes of a file in a module that is there

  expr_there : (p : LowerCtx) (e : AstConstArg) → area.inside p.module_id ≡ true → AllThere area p.file_id (of_option nodes_of e)
      → AllInNodes area (of_option (questions (rctx p a)) e)
  expr_there p None i k = tt
  expr_there p (Some e) i k = ((of_expr a area p.left (below a area p.left) e).expr p).there i k

  type_there : (p : LowerCtx) (t : Option AstType_) → area.inside p.module_id ≡ true → AllThere area p.file_id (of_option type_nodes_of t)
      → AllInNodes area (of_option (type_questions (rctx p a)) t)
  type_there p None i k = tt
  type_there p (Some t) i k = (of_type a area p.left (below a area p.left) t p).there i k

  each_there : (p : LowerCtx) (ss : List AstSegment) → area.inside p.module_id ≡ true
      → AllThere area p.file_id (of_each segment_nodes_of ss) → AllInNodes area (of_each (segment_questions (rctx p a)) ss)
  each_there p [] i k = tt
  each_there p (s ∷ ss) i k =
      let own = segment_nodes_of s in let others = of_each segment_nodes_of ss in
      all_in area (segment_questions (rctx p a) s) (of_each (segment_questions (rctx p a)) ss)
      ((of_segment a area p.left (below a area p.left) s p).there i (first_there area p.file_id own others k))
      (each_there p ss i (rest_there area p.file_id own others k))

  segments_there : (p : LowerCtx) (ss : List (Option AstSegment)) → area.inside p.module_id ≡ true
      → AllThere area p.file_id (segments_nodes ss) → AllInNodes area (segments_ask (rctx p a) ss)
  segments_there p ss i k = each_there p (named_among ss) i k

  in_front_there : (p : LowerCtx) (ss : List (Option AstSegment)) → area.inside p.module_id ≡ true
      → AllThere area p.file_id (in_front_nodes ss) → AllInNodes area (in_front_asks (rctx p a) ss)
  in_front_there p [] i k = tt
  in_front_there p (None ∷ ss) i k = tt
  in_front_there p (Some s ∷ ss) i k = type_there (inside_projection p) (out-PathSegment s).ty i k

  beside_there : (p : LowerCtx) (t : Option AstPathType) (ss : List (Option AstSegment)) → area.inside p.module_id ≡ true
      → AllThere area p.file_id (beside_nodes t ss) → AllInNodes area (beside_asks (rctx p a) t ss)
  beside_there p None ss i k = segments_there p ss i k
  beside_there p (Some t) ss i k =
      let f = p.file_id in
      let front = in_front_nodes ss in
      let of_trait = segments_nodes (segments_in (out-PathType t).path) in
      let behind = segments_nodes (all_but_first ss) in
      let rest = rest_there area f front (of_trait ++ behind) k in
      let asks_of_trait = segments_ask (rctx (inside_projection p) a) (segments_in (out-PathType t).path) in
      let asks_behind = segments_ask (rctx p a) (all_but_first ss) in
      all_in area (in_front_asks (rctx p a) ss) (asks_of_trait ++ asks_behind)
      (in_front_there p ss i (first_there area f front (of_trait ++ behind) k))
      (all_in area asks_of_trait asks_behind
      (segments_there (inside_projection p) (segments_in (out-PathType t).path) i (first_there area f of_trait behind rest))
      (segments_there p (all_but_first ss) i (rest_there area f of_trait behind rest)))

  -- calls

  pub body : (c : BodyCall) → IsIn area c.file_id c.inside (of_option nodes_of c.body)
      → IsIn area c.file_id c.inside (formals_nodes c.params) → AllInNodes area (body_call_asks c a)
  body c in_body in_params = let p = (body_rctx a c.owner c.file_id c.inside c.is_async).place in
      body_there a area c.owner p (outside_place p) c.params c.body in_body in_params

  pub type_ref : (file : HirFileId) (inside : ModuleId) (t : Option AstType_) → IsIn area file inside (of_option type_nodes_of t)
      → AllInNodes area (type_call_asks file inside t a)
  type_ref file inside t h = (tt {0}, type_there (type_rctx a file inside).place t h.0 h.1)

  pub const_arg : (file : HirFileId) (inside : ModuleId) (mode : LoweringMode) (x : AstConstArg)
      → IsIn area file inside (of_option nodes_of x) → AllInNodes area (const_call_asks file inside mode x a)
  const_arg file inside mode x h = (tt {0}, expr_there (inside_constant (outside_body a file inside mode)) x h.0 h.1)

  pub path : (file : HirFileId) (inside : ModuleId) (mode : LoweringMode) (impl : ImplTrait) (x : AstPath)
      → IsIn area file inside (path_call_nodes x) → AllInNodes area (path_call_asks file inside mode impl x a)
  path file inside mode impl x h =
      let p = becoming (outside_body a file inside mode) impl in
      let ss = (out-Path x).segs in
      let own = path_nodes_of x in
      let beside = beside_nodes (first_trait ss) ss in (
        tt {0},
        all_in area (path_questions (rctx p a) x) (beside_asks (rctx p a) (first_trait ss) ss)
            (((of_path a area p.left (below a area p.left) x).alone p).there h.0 (first_there area file own beside h.1))
            (beside_there p (first_trait ss) ss h.0 (rest_there area file own beside h.1)),
      )
