use Rattle.power_loss.proofs.kept_pages.SlotsBecomePages.{page, slot}
use Rattle.power_loss.proofs.settled_slots.a_durable_slot_becomes_its_page.Goals as goal

pub returns-clause-slot : goal.returns-clause-slot
returns-clause-slot c = λ t die p tag body j pin name job. slot t die p tag body job j pin name

pub returns-clause-page : goal.returns-clause-page
returns-clause-page c = λ t die p q tag body j pin name job. page t die p tag body job q j pin name
