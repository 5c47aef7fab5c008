-- `descriptors::look_at` meets its contract: the tag and the reading on the way to each return say which kind of descriptor it is.
-- Assumes nothing.
use mathlib.Core.Path.{◌∙◌, ap, sym}
use Rattle.vocabulary.specs.declared.stream_types.Reading.{Reading}
use Rattle.hierarchy.specs.declared.HierarchyRecord.{HierarchyRecord}
use Rattle.descriptors.specs.declared.looking.Look.TheVariants.{Hierarchy as LookHierarchy}
use Rattle.descriptors.specs.Looking.{tag63_kind}
use Rattle.descriptors.specs.Finding.{look_of}
use Rattle.descriptors.proofs.Cases.{payload_4, payload_63, payload_other, tag4_wrong, tag4_right}
use Rattle.descriptors.proofs.looking.look_at.Goals as goal

pub returns-then-payload-ne4 : goal.returns-then-payload-ne4
returns-then-payload-ne4 c =
    let a = c.args in
    sym (ap look_of (payload_4 a.reading a.tag a.payload.now c.if-tag-eq4.true ∙ tag4_wrong a.reading a.tag a.payload.now c.if-payload-ne4.true))

pub returns-then-tag-eq4 : goal.returns-then-tag-eq4
returns-then-tag-eq4 c =
    let a = c.args in
    ap (λ (h : HierarchyRecord). LookHierarchy h) c.read_hierarchy.ensures
    ∙ sym (ap look_of (payload_4 a.reading a.tag a.payload.now c.if-tag-eq4.true ∙ tag4_right a.reading a.tag a.payload.now c.if-payload-ne4.false))

pub returns-then-tag-ne63 : goal.returns-then-tag-ne63
returns-then-tag-ne63 c =
    let a = c.args in
    sym (ap look_of (payload_other a.reading a.tag a.payload.now c.if-tag-eq4.false c.if-tag-ne63.true))

pub returns-in-Edition2009 : goal.returns-in-Edition2009
returns-in-Edition2009 c =
    let a = c.args in
    sym (ap look_of (payload_63 a.reading a.tag a.payload.now c.if-tag-eq4.false c.if-tag-ne63.false ∙ ap (λ (r : Reading). tag63_kind r a.payload.now) c.in-Edition2009.is))

pub returns-in-Edition2015 : goal.returns-in-Edition2015
returns-in-Edition2015 c =
    let a = c.args in
    c.look_at_extension.ensures
    ∙ sym (ap look_of (payload_63 a.reading a.tag a.payload.now c.if-tag-eq4.false c.if-tag-ne63.false ∙ ap (λ (r : Reading). tag63_kind r a.payload.now) c.in-Edition2015.is))
