use Rattle.readers.proofs.Common.{Pin, filter, is_of_reader, let_go, not, refl, row_seen, sym, ◌∙◌}
use Rattle.readers.proofs.Stays.{all_gone, live_stays, none_gone, none_left, other_readers, row_becomes, row_rises}
use Rattle.readers.proofs.Stays.{row_stays}
use Rattle.readers.proofs.row.Row.drop_all.Goals as goal

pub returns-then-self-reader-clause-left : goal.returns-then-self-reader-clause-left
returns-then-self-reader-clause-left c =
    let f = c.self.inside in
    let test = is_of_reader c.args.reader in
    row_stays (filter (λ (p : Pin). not (test p))) (row_seen f) c.args.self.now c.self.view_is
    (none_left test f.pins.items (other_readers f.reader c.args.reader 0 f.next f.pins.items
    c.if-self-reader.true c.self.invariant.rises))

pub returns-then-self-reader-clause-blocks : goal.returns-then-self-reader-clause-blocks
returns-then-self-reader-clause-blocks c =
    let f = c.self.inside in
    let test = is_of_reader c.args.reader in
    live_stays (let_go test) c.args.live.now (row_seen f) c.args.self.now c.self.view_is
    (none_gone test f.pins.items c.args.live.now (other_readers f.reader c.args.reader 0 f.next
    f.pins.items c.if-self-reader.true c.self.invariant.rises))

pub returns-clause-left : goal.returns-clause-left
returns-clause-left c =
    let f = c.self.inside in
    let test = is_of_reader c.args.reader in
    row_becomes (filter (λ (p : Pin). not (test p))) (row_seen f) c.args.self.now c.clear.new.self.items c.self.view_is
    (c.clear.ensures.items ∙ sym (all_gone c.args.reader 0 f.next f.pins.items
    (row_rises (row_seen f) (row_seen f) c.args.reader refl c.if-self-reader.false c.self.invariant.rises)))
