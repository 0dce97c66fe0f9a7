use Rattle.power_loss.proofs.shown_blocks.LivesShowBlocks.{area_body, call_shows, compared_body, life_shows, opened_shows}
use Rattle.power_loss.proofs.shown_blocks.LivesShowBlocks.{page_body, page_sent}
use Rattle.power_loss.proofs.shown_blocks.LooksShowContents.{look_shows}
use Rattle.power_loss.proofs.shown.kept_content_is_what_is_sent.Goals as goal

pub returns-clause-looked : goal.returns-clause-looked
returns-clause-looked c = look_shows

pub returns-clause-opened : goal.returns-clause-opened
returns-clause-opened c = opened_shows

pub returns-clause-call : goal.returns-clause-call
returns-clause-call c = call_shows

pub returns-clause-life : goal.returns-clause-life
returns-clause-life c = life_shows

pub returns-clause-page : goal.returns-clause-page
returns-clause-page c = page_body

pub returns-clause-area : goal.returns-clause-area
returns-clause-area c = area_body

pub returns-clause-sent : goal.returns-clause-sent
returns-clause-sent c = page_sent

pub returns-clause-compared : goal.returns-clause-compared
returns-clause-compared c = compared_body
