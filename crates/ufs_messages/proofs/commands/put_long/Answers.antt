use Rattle.std.proofs.Common.{◌<◌, ◌^◌, ◌∙◌, ℕ, IfSome, List, Option, ap, subst, subst₂, sym}
use Rattle.ufs_spec.specs.Cdbs.{SpellsCdb, blocks_of}
use Rattle.ufs_spec.specs.declared.scsi.Cdb.{Cdb}
use Rattle.ufs_messages.specs.Commands.{IsSpelled, sixteen_bytes}
use Rattle.ufs_messages.proofs.ChosenCdbs.{long_few, long_spelled}
use Rattle.ufs_messages.proofs.commands.put_long.Goals as goal

pub put_spelled-requires-clause-spelled : goal.put_spelled-requires-clause-spelled
put_spelled-requires-clause-spelled c =
    subst₂ (λ (o : Option Cdb) (bytes : List ℕ). IfSome o (λ (cdb : Cdb). SpellsCdb cdb bytes))
    (sym c.long_cdb.ensures)
    (sym
    (c.sixteen_bytes_of-bytes.ensures
    ∙ ap (λ (n : ℕ). sixteen_bytes c.args.operation n c.args.address c.args.blocks) c.long_options-options.ensures))
    (long_spelled c.args.operation c.args.address c.args.blocks c.args.option c.ranges.address.fits c.ranges.blocks.fits)

pub put_spelled-requires-clause-few : goal.put_spelled-requires-clause-few
put_spelled-requires-clause-few c =
    subst (λ (o : Option Cdb). IfSome o (λ (cdb : Cdb). blocks_of cdb < 2 ^ 20)) (sym c.long_cdb.ensures)
    (long_few c.args.operation c.args.address c.args.blocks c.args.option)

pub returns : goal.returns
returns c =
    subst₂ (λ (o : Option Cdb) (bytes : List ℕ).
    IsSpelled o c.args.lun c.args.tag bytes c.put_spelled.result c.args.into.now c.put_spelled.new.into) c.long_cdb.ensures
    (c.sixteen_bytes_of-bytes.ensures
    ∙ ap (λ (n : ℕ). sixteen_bytes c.args.operation n c.args.address c.args.blocks) c.long_options-options.ensures)
    c.put_spelled.ensures
