-- What is kept for a READ shows the blocks that the READ sends: each call keeps it, from the opening on.
use Rattle.ufs_spec.specs.Exchanges.{Comparing}
use Rattle.std.specs.Prelude.{◌*◌}
use Rattle.power_loss.proofs.host_commands.OpenedByCommands.{keys_checked}
use Rattle.power_loss.proofs.MachineWords.{with_moves}
use Rattle.ufs_laws.proofs.walk.WaysOfCommands.{Checking, Verifying}
use Rattle.ufs_spec.specs.Begins.{keeps_wanted, wanted_at}
use Rattle.ufs_spec.specs.Exchanges.{ReadingArea}
use Rattle.power_loss.proofs.host_commands.PassedCommands.{verify_changes}
use Rattle.power_loss.proofs.host_commands.OpenedByCommands.{keys_verified}
use Rattle.ufs_spec.specs.Refusals.{brought}
use Rattle.ufs_laws.proofs.walk.WaysOfCommands.{Answered, expecting}
use Rattle.power_loss.proofs.Common.{All, All-weaker, Bool, IsKey, Key, Ledger, List, None, Option, Some, [], ap, arith}
use Rattle.power_loss.proofs.Common.{below, block_at, content, data_key, eqb-self, false, fold, get_or_from_slice_get}
use Rattle.power_loss.proofs.Common.{if◌then◌else◌, length, map, moved, refl, shape_of_numbers, slice_get_within, subst}
use Rattle.power_loss.proofs.Common.{sym, true, ℕ, ◌++◌, ◌+◌, ◌∙◌, ◌∷◌, ◌≡◌}
use Rattle.power_loss.proofs.MachineWords.{Answering, Cdb, Deed, IsShown, IsTied, ReadBlock, Request, ShowsBlock}
use Rattle.power_loss.proofs.MachineWords.{ShowsReads, ShowsRight, State, Status, Unread, address_of, begun}
use Rattle.power_loss.proofs.MachineWords.{begun_if_any, blocks_expected, command_taken, is_task_of, keeps, kept_at}
use Rattle.power_loss.proofs.MachineWords.{most_tasks, numbers_of, plain_now, read_begun, read_blocks, refusal}
use Rattle.power_loss.proofs.MachineWords.{refused_or_begun, sending, unit_of_request, unit_or_first, with_task}
use Rattle.std.proofs.Common.{nat_le}
use Rattle.std.specs.Prelude.{slice_get}
use Rattle.ufs_laws.proofs.plain_contents.ListParts.{get_or-made, length-made}
use Rattle.power_loss.proofs.open_tasks.FoundInLists.{found_last}
use Rattle.power_loss.proofs.host_commands.OpenedByCommands.{IsFree, IsSpelled, opened_task}
use Rattle.power_loss.proofs.host_commands.ReadBlocks.{KeysOfDevice, keys_read, reads_in}
use Rattle.power_loss.proofs.host_commands.PassedCommands.{Passed, passed}
use Rattle.power_loss.proofs.shown_blocks.LooksShowContents.{look_shows}
use Rattle.power_loss.proofs.shown_contents.MovesKeepShown.{kept_ledger, kept_pins}
use Rattle.power_loss.proofs.shown_blocks.PinsShowBlocks.{Show, more_goes, show_goes}
use Rattle.ufs_laws.proofs.walk.WaysOfCommands.{Beginning, Gathered, Handing, Reading, WhyBegun, begins_by, begun_as}
use Rattle.power_loss.specs.Shown.{ShowsAt}
use Rattle.ufs_spec.specs.Moves.{look_now}
use Rattle.ufs_spec.specs.Refusals.{needs_blocks, refused_state}
use Rattle.ufs_spec.specs.CdbFields.{spelled_cdb}

pub shows_if : (b : Bool) (t u : State) → ShowsReads t → ShowsReads u → ShowsReads (if b then t else u)
shows_if true t u h k = h
shows_if false t u h k = k

-- Commands

opens : (s : State) (r : Request) (c : Option Cdb) (n : ℕ) (deed : Deed) → ShowsReads s →
    ShowsReads (with_task s r c n deed)
opens s r c n deed h = show_goes s.translation.ledger s.tasks (with_task s r c n deed).tasks s.translation.pins
    (more_goes s.tasks _) h

-- what is looked up now of a key shows the content that a list of blocks has for the key
pub made_shows : {s : State} (k : ℕ → Key) (body : ℕ → List ℕ) (m i : ℕ) → IsTied s → ((j : ℕ) → body j ≡ content (plain_now s) (k j)) →
    IsKey (shape_of_numbers (numbers_of s)) (k i) →
    ShowsAt s.translation.ledger (look_now s.translation (k i)) i
    (map (λ (j : ℕ). record { body = body j; state = Unread }) (below m))
made_shows {s} k body m i v same key block at =
    let f : ℕ → ReadBlock = λ (j : ℕ). record { body = body j; state = Unread } in
    let long = length-made f m in
    let short = slice_get_within (map f (below m)) i block at in
    let is : block ≡ f i = sym (get_or_from_slice_get (map f (below m)) i block block at)
    ∙ get_or-made f m i block (omega (arith, long, short)) in (
      k i,
      subst (λ (x : List ℕ). IsShown s.translation.ledger (k i) (look_now s.translation (k i)) x)
          (sym (same i) ∙ ap (λ (x : ReadBlock). x.body) (sym is)) (look_shows s (k i) v key),
    )

-- a block of a READ that begins
block_shows : {s : State} (unit address m n i : ℕ) → IsTied s →
    IsKey (shape_of_numbers (numbers_of s)) (data_key unit (address + i)) → ShowsBlock s.translation.ledger
    (look_now s.translation (data_key unit (address + i))) i (sending (read_blocks s unit address m) n)
block_shows {s} unit address m n i v key = by (read_blocks s unit address m) refl
  where
    by : (blocks : List ReadBlock) → read_blocks s unit address m ≡ blocks →
        ShowsBlock s.translation.ledger (look_now s.translation (data_key unit (address + i))) i (sending blocks n)
    by [] e = tt
    by (b ∷ bs) e = λ block at.
        made_shows (λ j. data_key unit (address + j)) (λ j. block_at unit (address + j) (plain_now s)) m i v
        (λ j. refl) key block (ap (λ (xs : List ReadBlock). slice_get xs i) e ∙ at)

read_shows : {s : State} (r : Request) (command : Cdb) (unit address n : ℕ) → IsTied s →
    IsFree s r.tag → KeysOfDevice s unit address (blocks_expected r n) →
    ShowsReads s → ShowsReads (read_begun s r command unit address n)
read_shows {s} r command unit address n v free keys h =
    let m = blocks_expected r n in
    let task = opened_task r (Some command) n (sending (read_blocks s unit address m) n) in
    let l = s.translation.ledger in
    let tasks = s.tasks ++ task ∷ [] in
    let k = λ (i : ℕ). data_key unit (address + i) in
    let old = show_goes l s.tasks tasks s.translation.pins (more_goes s.tasks task) h in
    let new : All (λ i. ShowsRight l tasks (kept_at s r.tag unit address i)) (below m) =
    All-weaker (λ i. IsKey (shape_of_numbers (numbers_of s)) (data_key unit (address + i)))
    (λ i. ShowsRight l tasks (kept_at s r.tag unit address i))
    (λ i key. record {
      task = task;
      there = found_last (is_task_of r.tag) s.tasks task free.no_task (eqb-self r.tag);
      shows = block_shows unit address m n i v key;
    }) (below m) keys in
    subst (λ (x : Ledger). Show x tasks (fold moved s.translation (keeps s r.tag unit address m)).pins)
    (sym (kept_ledger k (kept_at s r.tag unit address) (below m) s.translation))
    (kept_pins (ShowsRight l tasks) k (kept_at s r.tag unit address) (below m) s.translation old new)

-- a VERIFY keeps what shows its blocks
verify_shows : {s : State} (r : Request) (command : Cdb) (unit address n : ℕ) → IsTied s → IsFree s r.tag →
    KeysOfDevice s unit address n → ShowsReads s →
    ShowsReads (with_task (with_moves s (keeps_wanted s r.tag unit address n)) r (Some command) 0
    (ReadingArea (read_blocks s unit address n)))
verify_shows {s} r command unit address n v free keys h =
    let task = opened_task r (Some command) 0 (ReadingArea (read_blocks s unit address n)) in
    let l = s.translation.ledger in
    let tasks = s.tasks ++ task ∷ [] in
    let k = λ (i : ℕ). data_key unit (address + i) in
    let old = show_goes l s.tasks tasks s.translation.pins (more_goes s.tasks task) h in
    let new : All (λ i. ShowsRight l tasks (wanted_at s r.tag unit address i)) (below n) =
    All-weaker (λ i. IsKey (shape_of_numbers (numbers_of s)) (data_key unit (address + i)))
    (λ i. ShowsRight l tasks (wanted_at s r.tag unit address i))
    (λ i key. record {
      task = task;
      there = found_last (is_task_of r.tag) s.tasks task free.no_task (eqb-self r.tag);
      shows = made_shows k (λ j. block_at unit (address + j) (plain_now s)) n i v (λ j. refl) key;
    }) (below n) keys in
    subst (λ (x : Ledger). Show x tasks (fold moved s.translation (keeps_wanted s r.tag unit address n)).pins)
    (sym (kept_ledger k (wanted_at s r.tag unit address) (below n) s.translation))
    (kept_pins (ShowsRight l tasks) k (wanted_at s r.tag unit address) (below n) s.translation old new)

-- and so does one that compares them
compare_shows : {s : State} (r : Request) (command : Cdb) (unit address n : ℕ) → IsTied s → IsFree s r.tag →
    KeysOfDevice s unit address n → ShowsReads s →
    ShowsReads (with_task (with_moves s (keeps s r.tag unit address n)) r (Some command) (4096 * n)
    (Comparing (read_blocks s unit address n) 0 false))
compare_shows {s} r command unit address n v free keys h =
    let task = opened_task r (Some command) (4096 * n) (Comparing (read_blocks s unit address n) 0 false) in
    let l = s.translation.ledger in
    let tasks = s.tasks ++ task ∷ [] in
    let k = λ (i : ℕ). data_key unit (address + i) in
    let old = show_goes l s.tasks tasks s.translation.pins (more_goes s.tasks task) h in
    let new : All (λ i. ShowsRight l tasks (kept_at s r.tag unit address i)) (below n) =
    All-weaker (λ i. IsKey (shape_of_numbers (numbers_of s)) (data_key unit (address + i)))
    (λ i. ShowsRight l tasks (kept_at s r.tag unit address i))
    (λ i key. record {
      task = task;
      there = found_last (is_task_of r.tag) s.tasks task free.no_task (eqb-self r.tag);
      shows = made_shows k (λ j. block_at unit (address + j) (plain_now s)) n i v (λ j. refl) key;
    }) (below n) keys in
    subst (λ (x : Ledger). Show x tasks (fold moved s.translation (keeps s r.tag unit address n)).pins)
    (sym (kept_ledger k (kept_at s r.tag unit address) (below n) s.translation))
    (kept_pins (ShowsRight l tasks) k (kept_at s r.tag unit address) (below n) s.translation old new)

begun_shows : (s : State) (r : Request) (command : Cdb) → IsTied s → IsFree s r.tag → Passed s r command →
    spelled_cdb r.bytes ≡ Some command → ShowsReads s →
    ShowsReads (begun s r (unit_or_first (unit_of_request s r)) command)
begun_shows s r command v free p spells h = begins_by ShowsReads s r unit command one
  where
    unit : ℕ
    unit = unit_or_first (unit_of_request s r)

    one : (b : Beginning) → WhyBegun s r unit command b → ShowsReads (begun_as s r command b)
    one (Reading u address n) (unit_is, address_is, size, read) =
        let reads = reads_in r.bytes command spells (ap needs_blocks read) in
        subst (λ (x : ℕ). ShowsReads (read_begun s r (brought r.expected command) x address n)) (sym unit_is)
        (subst (λ (x : ℕ). ShowsReads (read_begun s r (brought r.expected command) unit x n)) (sym address_is)
        (read_shows r (brought r.expected command) unit (address_of command) n v free
        (keys_read size reads p) h))
    one (Verifying u address n) (unit_is, address_is, size, verifies, some) =
        verify_shows r (brought r.expected command) u address n v free
        (subst (λ (x : ℕ). KeysOfDevice s x address n) (sym unit_is)
        (subst (λ (x : ℕ). KeysOfDevice s unit x n) (sym address_is)
        (keys_verified n size (verify_changes r.bytes command spells verifies) p))) h
    one (Checking u address n) (unit_is, is, some) =
        compare_shows r (brought r.expected command) u address n v free (keys_checked u address n unit_is is spells p) h
    one (Handing region n) why = opens s r _ _ _ h
    one (Gathered expected count purpose n) why = opens s (expecting r expected) _ _ _ h
    one (Answered expected n) why = opens s (expecting r expected) _ _ _ h
    one b why = opens s r _ _ _ h

opened_shows : {s : State} (r : Request) → IsTied s → IsFree s r.tag → IsSpelled r → (x : Option Status) →
    refusal s r ≡ x → ShowsReads s → ShowsReads (refused_or_begun s r x)
opened_shows {s} r v free spelled (Some status) e h = opens (refused_state s r) r None 0 (Answering status 0) h
opened_shows {s} r v free spelled None e h = by r.cdb refl
  where
    by : (c : Option Cdb) → r.cdb ≡ c → ShowsReads (begun_if_any s r c)
    by None k = h
    by (Some command) k = begun_shows s r command v free (passed s r command k e) (spelled command k) h

pub command_shows : {s : State} (r : Request) → IsTied s → IsFree s r.tag → IsSpelled r → ShowsReads s →
    ShowsReads (command_taken s r)
command_shows {s} r v free spelled h = shows_if (nat_le most_tasks (length s.tasks)) _ _ h
    (opened_shows r v free spelled (refusal s r) refl h)
