use Rattle.std.proofs.Common.{◌<◌, arith}
use Rattle.word_set.proofs.WordBits.{has_read, inside, read_word}
use Rattle.word_set.proofs.words.WordSet.has.Goals as goal

pub index-word-requires : goal.index-word-requires
index-word-requires c =
    let f = c.self.inside in
    let l : c.args.at < f.size = inside f.size c.args.at f.words.items c.args.self.now c.self.view_is c.requires in
    let whole = c.self.invariant.whole in
    omega arith

pub returns : goal.returns
returns c =
    let f = c.self.inside in
    let l : c.args.at < f.size = inside f.size c.args.at f.words.items c.args.self.now c.self.view_is c.requires in
    has_read f.size c.args.at c.index-word.result.now f.words.items c.args.self.now c.has_bit.result c.self.view_is l
    (read_word f.size c.args.at c.index-word.result.now f.words.items l c.self.invariant.whole c.index-word.ensures)
    c.has_bit.ensures
