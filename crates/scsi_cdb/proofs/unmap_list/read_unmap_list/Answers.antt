use Rattle.std.proofs.Common.{◌≡◌, ◌∙◌, ◌≤◌, ◌==◌, ◌||◌, ap, arith, cond, nat_lt, not, subst, sym, true, false}
use Rattle.ufs_bytes.specs.Fields.{field_at}
use Rattle.ufs_spec.specs.DataOuts.{is_wrong_descriptor}
use Rattle.scsi_cdb.proofs.ListRead.{descriptor_decides, same_count}
use Rattle.scsi_cdb.specs.declared.unmap_list.UnmapList.TheVariants.{Descriptor, Malformed}
use Rattle.scsi_cdb.proofs.unmap_list.read_unmap_list.Goals as goal

pub returns-then-is_wrong_descriptor-clause-list : goal.returns-then-is_wrong_descriptor-clause-list
returns-then-is_wrong_descriptor-clause-list c = λ n most.
    let list = c.args.list.now in
    let wrong : true ≡ is_wrong_descriptor n list =
    sym c.if-is_wrong_descriptor.true ∙ c.is_wrong_descriptor.ensures.wrong
    ∙ (λ i. nat_lt (most i) (c.read_u32-count.ensures i) || not (c.read_u32-last.ensures i == 0)) in
    ap (λ w. cond w Malformed (Descriptor (field_at 8 8 list) (field_at 4 16 list))) wrong
    ∙ descriptor_decides n list (sym c.has_list_header.ensures ∙ c.if-not-has_list_header.false)
    c.if-list-eq-HEADER.false

pub overflow_cast-result : goal.overflow_cast-result
overflow_cast-result c =
    let few = c.is_wrong_descriptor.ensures.few c.if-is_wrong_descriptor.false in
    omega (arith, few)

pub returns-clause-list : goal.returns-clause-list
returns-clause-list c = λ n most.
    let list = c.args.list.now in
    let right : false ≡ is_wrong_descriptor n list =
    sym c.if-is_wrong_descriptor.false ∙ c.is_wrong_descriptor.ensures.wrong
    ∙ (λ i. nat_lt (most i) (c.read_u32-count.ensures i) || not (c.read_u32-last.ensures i == 0)) in
    (λ i. Descriptor (c.read_u64.ensures i) (c.read_u32-count.ensures i))
    ∙ ap (λ w. cond w Malformed (Descriptor (field_at 8 8 list) (field_at 4 16 list))) right
    ∙ descriptor_decides n list (sym c.has_list_header.ensures ∙ c.if-not-has_list_header.false)
    c.if-list-eq-HEADER.false

pub returns-clause-few : goal.returns-clause-few
returns-clause-few c = λ address count e.
    let few = c.is_wrong_descriptor.ensures.few c.if-is_wrong_descriptor.false in
    subst (λ n. n ≤ c.args.most) (same_count _ _ address count e) few
