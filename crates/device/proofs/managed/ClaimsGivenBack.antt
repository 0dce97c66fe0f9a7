-- An aborted task gives back as many slots as it has claimed.
use Rattle.device.proofs.Common.{Answering, Awaiting, Bool, Cdb, Deed, DeedFits, ForFrames, ForUnmap, ForWrite}
use Rattle.device.proofs.Common.{Gathering, List, Numbers, Option, ReadingArea, Sending, SendingBytes, ap}
use Rattle.device.proofs.Common.{blocks_gathered, claim_of, claimed_in, command_blocks, drop, inl, inr, length}
use Rattle.device.proofs.Common.{length-replicate, list_slots, refl, suc, sym, zero, ℕ, ◌∙◌, ◌≡◌, ◌⊎◌}
use Rattle.ufs_spec.specs.Exchanges as exchange
use Rattle.ufs_spec.specs.Exchanges.{Comparing}
use Rattle.ufs_spec.specs.Machine.{claimed_by}
use Rattle.ufs_spec.specs.Plain.{zero_block}

blocks_counted : (n : ℕ) (bytes : List ℕ) → length (blocks_gathered n bytes) ≡ n
blocks_counted zero bytes = refl
blocks_counted (suc n) bytes = ap suc (blocks_counted n (drop 4096 bytes))

-- a list of one descriptor claims a slot for each block that a command may have, a header alone none
slots_counted : (n : Numbers) (total claimed : ℕ) →
    ((total ≡ 8) × (claimed ≡ 0)) ⊎ ((total ≡ 24) × (claimed ≡ command_blocks n)) → list_slots n total ≡ claimed
slots_counted n total claimed (inl h) = ap (list_slots n) h.0 ∙ sym h.1
slots_counted n total claimed (inr h) = ap (list_slots n) h.0 ∙ sym h.1

pub as_many_claimed : (n : Numbers) (accepted : ℕ) (mended : Bool) (command : Option Cdb) (total : ℕ) (deed : Deed) →
    DeedFits n accepted mended (claimed_by n deed command) total deed →
    length (claimed_in n total deed) ≡ claimed_by n deed command
as_many_claimed n accepted mended command total (Gathering (ForWrite unit address blocks forced) gathered asked) h =
    blocks_counted blocks gathered ∙ sym h.claimed_is
as_many_claimed n accepted mended command total (Gathering (ForUnmap unit) gathered asked) h =
    length-replicate (list_slots n total) zero_block ∙ slots_counted n total _ h.list
as_many_claimed n accepted mended command total (Gathering (ForFrames region) gathered asked) h =
    length-replicate 3 zero_block ∙ sym h.claimed_is
as_many_claimed n accepted mended command total (Sending blocks sent) h = refl
as_many_claimed n accepted mended command total (SendingBytes bytes) h = refl
as_many_claimed n accepted mended command total (Awaiting commands) h = refl
as_many_claimed n accepted mended command total (ReadingArea pages) h = refl
as_many_claimed n accepted mended command total (Comparing blocks compared asked) h = refl
as_many_claimed n accepted mended command total (Answering status carried) h = refl

-- so it is of a task that fits the device
pub claim_counted : (n : Numbers) (accepted : ℕ) (mended : Bool) (b : exchange.Task) →
    DeedFits n accepted mended (claim_of n b) b.length b.deed → length (claimed_in n b.length b.deed) ≡ claim_of n b
claim_counted n accepted mended b h = as_many_claimed n accepted mended b.command b.length b.deed h
