use Rattle.std.proofs.Common.{◌<◌, ◌∙◌, arith}
use Rattle.word_set.proofs.Flags.{set_length}
use Rattle.word_set.proofs.WordBits.{inside, read_word, set_changed, still_below}
use Rattle.word_set.proofs.words.WordSet.set.Goals as goal

pub index-word-requires : goal.index-word-requires
index-word-requires c =
    let f = c.self.inside in
    let l : c.args.at < f.size = inside f.size c.args.at f.words.items c.args.self.now c.self.view_is c.requires in
    let whole = c.self.invariant.whole in
    omega arith

pub index_mut-requires : goal.index_mut-requires
index_mut-requires c =
    let f = c.self.inside in
    let l : c.args.at < f.size = inside f.size c.args.at f.words.items c.args.self.now c.self.view_is c.requires in
    let whole = c.self.invariant.whole in
    omega arith

pub invariant_of-self : goal.invariant_of-self
invariant_of-self c =
    let f = c.self.inside in
    let l : c.args.at < f.size = inside f.size c.args.at f.words.items c.args.self.now c.self.view_is c.requires in
    record {
      few = c.self.invariant.few;
      whole = set_length f.words.items _ _ ∙ c.self.invariant.whole;
      below = still_below f.size f.words.items c.args.at c.index-word.result.now c.with_bit.result c.args.is_in l
          (read_word f.size c.args.at c.index-word.result.now f.words.items l c.self.invariant.whole
          c.index-word.ensures) c.with_bit.ensures c.self.invariant.below;
    }

pub returns : goal.returns
returns c =
    let f = c.self.inside in
    let l : c.args.at < f.size = inside f.size c.args.at f.words.items c.args.self.now c.self.view_is c.requires in
    set_changed f.size c.args.at c.index-word.result.now c.with_bit.result f.words.items c.args.self.now c.args.is_in
    c.self.view_is l
    (read_word f.size c.args.at c.index-word.result.now f.words.items l c.self.invariant.whole c.index-word.ensures)
    c.with_bit.ensures c.self.invariant.below
