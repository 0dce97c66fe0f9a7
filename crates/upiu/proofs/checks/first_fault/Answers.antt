use Rattle.std.proofs.Common.{◌∙◌, sym, ap}
use Rattle.ufs_spec.specs.Messages.{is_among, known_codes}
use Rattle.upiu.proofs.FirstFault.{code_told, digest_told, extra_told, length_told, nothing_told, short_told}
use Rattle.upiu.proofs.checks.first_fault.Goals as goal

pub returns-then-bytes-lt-HEADER : goal.returns-then-bytes-lt-HEADER
returns-then-bytes-lt-HEADER c = short_told c.args.bytes.now c.if-bytes-lt-HEADER.true

pub returns-then-is_wrong_length : goal.returns-then-is_wrong_length
returns-then-is_wrong_length c =
    length_told c.args.bytes.now c.if-bytes-lt-HEADER.false
    (sym c.is_wrong_length.ensures ∙ c.if-is_wrong_length.true)

pub returns-then-has_digest : goal.returns-then-has_digest
returns-then-has_digest c =
    digest_told c.args.bytes.now c.if-bytes-lt-HEADER.false
    (sym c.is_wrong_length.ensures ∙ c.if-is_wrong_length.false) (sym c.has_digest.ensures ∙ c.if-has_digest.true)

pub returns-then-has_extra_header : goal.returns-then-has_extra_header
returns-then-has_extra_header c =
    extra_told c.args.bytes.now c.if-bytes-lt-HEADER.false
    (sym c.is_wrong_length.ensures ∙ c.if-is_wrong_length.false) (sym c.has_digest.ensures ∙ c.if-has_digest.false)
    (sym c.has_extra_header.ensures ∙ c.if-has_extra_header.true)

pub returns-then-not-is_known : goal.returns-then-not-is_known
returns-then-not-is_known c =
    code_told c.args.bytes.now c.if-bytes-lt-HEADER.false
    (sym c.is_wrong_length.ensures ∙ c.if-is_wrong_length.false) (sym c.has_digest.ensures ∙ c.if-has_digest.false)
    (sym c.has_extra_header.ensures ∙ c.if-has_extra_header.false)
    (ap (is_among known_codes) (sym c.code.ensures) ∙ sym c.is_known.ensures ∙ c.if-not-is_known.true)

pub returns-else-not-is_known : goal.returns-else-not-is_known
returns-else-not-is_known c =
    nothing_told c.args.bytes.now c.if-bytes-lt-HEADER.false
    (sym c.is_wrong_length.ensures ∙ c.if-is_wrong_length.false) (sym c.has_digest.ensures ∙ c.if-has_digest.false)
    (sym c.has_extra_header.ensures ∙ c.if-has_extra_header.false)
    (ap (is_among known_codes) (sym c.code.ensures) ∙ sym c.is_known.ensures ∙ c.if-not-is_known.false)
