use Rattle.die_map.proofs.survey.Survey.new.Goals as goal

pub returns : goal.returns
returns c = λ n cells few fit shown. record {
  mark = c.newest_mark-mark.ensures n cells few fit shown;
  pages = c.in_ok-newest.ensures n cells few fit shown;
}
