use Rattle.std.proofs.Common.{arith, ◌∙◌, sym}
use Rattle.std.proofs.lemmas.Grind.{common_steps}
use Rattle.hir_syntax.specs.declared.pats.PatKind.TheVariants as kind
use Rattle.hir_lower_pat.proofs.AtNodes.{pat_as}
use Rattle.hir_lower_pat.proofs.KindLemmas.{plain_is_alone}
use Rattle.hir_lower_pat.proofs.TypePats.{opened}
use Rattle.hir_lower_bind.proofs.pats.pat_form.Goals as goal

pub ident_form-requires : goal.ident_form-requires
ident_form-requires g c =
    let may = rw (opened (kind.rolls-IdentPat _ _ _ _ ∙ sym c.in-IdentPat.is)) at c.requires.parts in
    record { part = may; names = c.requires.names }

pub returns-in-IdentPat : goal.returns-in-IdentPat
returns-in-IdentPat g c =
    let is = opened (kind.rolls-IdentPat _ _ _ _ ∙ sym c.in-IdentPat.is) in
    pat_as (g.S.Here.rctx c.args.parts.now) c.args.node.now _ c.pointer-at.result c.args.bindings.now
    c.ident_form.new.bindings c.args.state.now _ c.ident_form.new.state c.pointer-at.ensures is
    (rw c.mode_of.ensures at c.ident_form.ensures)

pub tuple_struct_form-requires : goal.tuple_struct_form-requires
tuple_struct_form-requires g c =
    let may = rw (opened (kind.rolls-TupleStructPat _ _ _ ∙ sym c.in-TupleStructPat.is)) at c.requires.parts in
    record { path = may.0; parts = may.1; names = c.requires.names }

pub returns-in-TupleStructPat : goal.returns-in-TupleStructPat
returns-in-TupleStructPat g c =
    let is = opened (kind.rolls-TupleStructPat _ _ _ ∙ sym c.in-TupleStructPat.is) in
    pat_as (g.S.Here.rctx c.args.parts.now) c.args.node.now _ c.pointer-at.result c.args.bindings.now
    c.tuple_struct_form.new.bindings c.args.state.now _ c.tuple_struct_form.new.state c.pointer-at.ensures is c.tuple_struct_form.ensures

pub tuple_form-requires : goal.tuple_form-requires
tuple_form-requires g c =
    let may = rw (opened (kind.rolls-TuplePat _ _ ∙ sym c.in-TuplePat.is)) at c.requires.parts in
    record { parts = may; names = c.requires.names }

pub returns-in-TuplePat : goal.returns-in-TuplePat
returns-in-TuplePat g c =
    let is = opened (kind.rolls-TuplePat _ _ ∙ sym c.in-TuplePat.is) in
    pat_as (g.S.Here.rctx c.args.parts.now) c.args.node.now _ c.pointer-at.result c.args.bindings.now
    c.tuple_form.new.bindings c.args.state.now _ c.tuple_form.new.state c.pointer-at.ensures is c.tuple_form.ensures

pub record_form-requires : goal.record_form-requires
record_form-requires g c =
    let may = rw (opened (kind.rolls-RecordPat _ _ _ ∙ sym c.in-RecordPat.is)) at c.requires.parts in
    record { path = may.0; parts = may.1; names = c.requires.names }

pub returns-in-RecordPat : goal.returns-in-RecordPat
returns-in-RecordPat g c =
    let is = opened (kind.rolls-RecordPat _ _ _ ∙ sym c.in-RecordPat.is) in
    pat_as (g.S.Here.rctx c.args.parts.now) c.args.node.now _ c.pointer-at.result c.args.bindings.now
    c.record_form.new.bindings c.args.state.now _ c.record_form.new.state c.pointer-at.ensures is c.record_form.ensures

pub or_form-requires : goal.or_form-requires
or_form-requires g c =
    let may = rw (opened (kind.rolls-OrPat _ ∙ sym c.in-OrPat.is)) at c.requires.parts in
    record { parts = may; names = c.requires.names }

pub returns-in-OrPat : goal.returns-in-OrPat
returns-in-OrPat g c =
    let is = opened (kind.rolls-OrPat _ ∙ sym c.in-OrPat.is) in
    pat_as (g.S.Here.rctx c.args.parts.now) c.args.node.now _ c.pointer-at.result c.args.bindings.now
    c.or_form.new.bindings c.args.state.now _ c.or_form.new.state c.pointer-at.ensures is c.or_form.ensures

pub lower-requires : goal.lower-requires
lower-requires g c =
    let may = rw (opened (kind.rolls-ParenPat _ ∙ sym c.in-ParenPat.is)) at c.requires.parts in
    record { part = may; names = c.requires.names }

pub returns-in-ParenPat : goal.returns-in-ParenPat
returns-in-ParenPat g c =
    let is = opened (kind.rolls-ParenPat _ ∙ sym c.in-ParenPat.is) in
    pat_as (g.S.Here.rctx c.args.parts.now) c.args.node.now _ c.pointer-at.result c.args.bindings.now
    c.lower.new.bindings c.args.state.now _ c.lower.new.state c.pointer-at.ensures is c.lower.ensures

pub slice_form-requires : goal.slice_form-requires
slice_form-requires g c =
    let may = rw (opened (kind.rolls-SlicePat _ _ _ ∙ sym c.in-SlicePat.is)) at c.requires.parts in
    record { before = may.0; middle = may.1; after = may.2; names = c.requires.names }

pub returns-in-SlicePat : goal.returns-in-SlicePat
returns-in-SlicePat g c =
    let is = opened (kind.rolls-SlicePat _ _ _ ∙ sym c.in-SlicePat.is) in
    pat_as (g.S.Here.rctx c.args.parts.now) c.args.node.now _ c.pointer-at.result c.args.bindings.now
    c.slice_form.new.bindings c.args.state.now _ c.slice_form.new.state c.pointer-at.ensures is c.slice_form.ensures

pub ref_form-requires : goal.ref_form-requires
ref_form-requires g c =
    let may = rw (opened (kind.rolls-RefPat _ _ ∙ sym c.in-RefPat.is)) at c.requires.parts in
    record { part = may; names = c.requires.names }

pub returns-in-RefPat : goal.returns-in-RefPat
returns-in-RefPat g c =
    let is = opened (kind.rolls-RefPat _ _ ∙ sym c.in-RefPat.is) in
    pat_as (g.S.Here.rctx c.args.parts.now) c.args.node.now _ c.pointer-at.result c.args.bindings.now
    c.ref_form.new.bindings c.args.state.now _ c.ref_form.new.state c.pointer-at.ensures is c.ref_form.ensures

pub box_form-requires : goal.box_form-requires
box_form-requires g c =
    let may = rw (opened (kind.rolls-BoxPat _ ∙ sym c.in-BoxPat.is)) at c.requires.parts in
    record { part = may; names = c.requires.names }

pub returns-in-BoxPat : goal.returns-in-BoxPat
returns-in-BoxPat g c =
    let is = opened (kind.rolls-BoxPat _ ∙ sym c.in-BoxPat.is) in
    pat_as (g.S.Here.rctx c.args.parts.now) c.args.node.now _ c.pointer-at.result c.args.bindings.now
    c.box_form.new.bindings c.args.state.now _ c.box_form.new.state c.pointer-at.ensures is c.box_form.ensures

pub deref_form-requires : goal.deref_form-requires
deref_form-requires g c =
    let may = rw (opened (kind.rolls-DerefPat _ ∙ sym c.in-DerefPat.is)) at c.requires.parts in
    record { part = may; names = c.requires.names }

pub returns-in-DerefPat : goal.returns-in-DerefPat
returns-in-DerefPat g c =
    let is = opened (kind.rolls-DerefPat _ ∙ sym c.in-DerefPat.is) in
    pat_as (g.S.Here.rctx c.args.parts.now) c.args.node.now _ c.pointer-at.result c.args.bindings.now
    c.deref_form.new.bindings c.args.state.now _ c.deref_form.new.state c.pointer-at.ensures is c.deref_form.ensures

pub plain_kind-requires-clause-plain : goal.plain_kind-requires-clause-plain
plain_kind-requires-clause-plain g c = grind (arith, common_steps, plain_is_alone)

pub plain_kind-requires-clause-parts : goal.plain_kind-requires-clause-parts
plain_kind-requires-clause-parts g c = c.requires.parts

pub unreachable-requires : goal.unreachable-requires
unreachable-requires g c = rw (opened (kind.rolls-MacroPat _ ∙ sym c.in-MacroPat.is)) at c.requires.uncalled
