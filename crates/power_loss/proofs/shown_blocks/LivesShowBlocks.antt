-- What is kept for a READ shows the blocks that the READ sends, at each moment of a life; and so the page that is read
-- for it has them.
use Rattle.ufs_spec.specs.Exchanges.{Comparing}
use Rattle.power_loss.proofs.Common.{◌≡◌, ℕ, zero, suc, Bool, true, false, if◌then◌else◌, All, List, [], ◌∷◌, Option}
use Rattle.power_loss.proofs.Common.{Some, None, fold, map, refl, sym, ap, ◌∙◌, subst, Ok, All-contains, All-nil}
use Rattle.power_loss.proofs.Common.{none-some, same_Some, Array, key_of, Flight, ForTask, Reader, Reading, Spot, Entry}
use Rattle.power_loss.proofs.Common.{Ledger, Looked, Name, OnPage, EndJob, Ending, ReadRight, ReadWrong, end_flight}
use Rattle.power_loss.proofs.Common.{moved, Pin, Numbers, Place, IsGroupPage, Valid}
use Rattle.power_loss.proofs.MachineWords.{Answering, Awaiting, Deed, Gathering, NotRead, ReadBlock, ReadState}
use Rattle.power_loss.proofs.MachineWords.{ReadingArea, Sending, Task}
use Rattle.power_loss.proofs.MachineWords.{WasRead, is_task_of, task_of, write_error, IsOpened, Life, Allowed, Answer}
use Rattle.power_loss.proofs.MachineWords.{Reply, Call, Faulty, Done, OfDone, Take, OfTake, Heard, OfHost, Host}
use Rattle.power_loss.proofs.MachineWords.{OfReply, Spelled, Turn, OfTurn, behind, deed_locked, deed_read, deed_reply}
use Rattle.power_loss.proofs.MachineWords.{durable, ends_with, fill_moves, fills, hears, is_to_fill, lock_applied}
use Rattle.power_loss.proofs.MachineWords.{message_fault, observe, read_noted, short_locked, tag_in, task_filled}
use Rattle.power_loss.proofs.MachineWords.{task_locked, task_read, with_moves, State, locked, Event, Output, IsTied}
use Rattle.power_loss.proofs.MachineWords.{MayCome, ValidState, IsShown, ShowsBlock, ShowsReads, ShowsRight}
use Rattle.std.proofs.Common.{Contains, filter, nat_le}
use Rattle.std.specs.Prelude.{slice_get, slice_set}
use Rattle.ufs_spec.specs.Exchanges.{block_message, filled}
use Rattle.ufs_spec.specs.Machine.{NoEvent, block_reply, is_at_hand, next_block_reply, pin_of, set_state, with_block}
use Rattle.ufs_laws.proofs.walk.SmallChanges.{fills_task, first, job_over, reads}
use Rattle.power_loss.specs.Shown.{ShowsAt}
use Rattle.power_loss.proofs.calls.CallsKeepTied.{first_keeps, no_fault}
use Rattle.power_loss.proofs.shown_contents.MessagesKeepShown.{heard_shows, replied_shows}
use Rattle.power_loss.proofs.lives.EachEventKeeps.{event_comes, one_event}
use Rattle.power_loss.proofs.kept_pages.KeptAreThere.{page_known}
use Rattle.power_loss.proofs.shown_contents.MovesKeepShown.{end_shows, turn_shows}
use Rattle.power_loss.proofs.shown_blocks.PinsShowBlocks.{SameBlocks, Show, filled_ledger, filled_pins, map_goes}
use Rattle.power_loss.proofs.shown_blocks.PinsShowBlocks.{show_goes}
use Rattle.power_loss.proofs.shown_blocks.CommandsShowBlocks.{shows_if}

-- Reads that end

-- a block keeps its content, whether it was read or not
set_old : (blocks : List ReadBlock) (index i : ℕ) (state : ReadState) (b block : ReadBlock) →
    slice_get blocks index ≡ Some b → slice_get (slice_set blocks index (set_state state b)) i ≡ Some block →
    (old : ReadBlock) × (slice_get blocks i ≡ Some old) × (old.body ≡ block.body)
set_old [] index i state b block there h = absurd (none-some b there)
set_old (x ∷ xs) zero zero state b block there h = (
  x,
  refl,
  ap (λ (y : ReadBlock). y.body) (same_Some x b there)
      ∙ ap (λ (y : ReadBlock). y.body) (same_Some (set_state state b) block h),
)
set_old (x ∷ xs) zero (suc i) state b block there h = (block, h, refl)
set_old (x ∷ xs) (suc index) zero state b block there h = (block, h, refl)
set_old (x ∷ xs) (suc index) (suc i) state b block there h = set_old xs index i state b block there h

block_old : (blocks : List ReadBlock) (index i : ℕ) (state : ReadState) (o : Option ReadBlock) {block : ReadBlock} →
    slice_get blocks index ≡ o → slice_get (with_block blocks index state o) i ≡ Some block →
    (old : ReadBlock) × (slice_get blocks i ≡ Some old) × (old.body ≡ block.body)
block_old blocks index i state None {block} there h = (block, h, refl)
block_old blocks index i state (Some b) {block} there h = set_old blocks index i state b block there h

read_same : (index : ℕ) (state : ReadState) (deed : Deed) → SameBlocks deed (deed_read index state deed)
read_same index state (Sending blocks sent) = λ l x i h block at.
    let old = block_old blocks index i state (slice_get blocks index) refl at in
    let shown = h old.0 old.1 in
    (shown.0, subst (IsShown l shown.0 x) old.2 shown.1)
read_same index state (ReadingArea pages) = λ l x i h page at.
    let old = block_old pages index i state (slice_get pages index) refl at in
    let shown = h old.0 old.1 in
    (shown.0, subst (IsShown l shown.0 x) old.2 shown.1)
read_same index state (Comparing blocks compared asked) = λ l x i h block at.
    let old = block_old blocks index i state (slice_get blocks index) refl at in
    let shown = h old.0 old.1 in
    (shown.0, subst (IsShown l shown.0 x) old.2 shown.1)
read_same index state (Gathering purpose gathered asked) = λ l x i h. h
read_same index state deed = λ l x i h. tt

task_read_same : (tag index : ℕ) (state : ReadState) (task : Task) →
    SameBlocks task.deed (task_read tag index state task).deed
task_read_same tag index state task = by (is_task_of tag task)
  where
    by : (b : Bool) → SameBlocks task.deed (if b then record task { deed = deed_read index state task.deed }
        else task).deed
    by true = read_same index state task.deed
    by false = λ l x i h. h

read_told : (s : State) (l : Ledger) (pins : List Pin) (reader : Reader) (state : ReadState) → Show l s.tasks pins →
    Show l (read_noted s reader state).tasks pins
read_told s l pins (ForTask tag index) state h = show_goes l s.tasks (map (task_read tag index state) s.tasks) pins
    (map_goes (task_read tag index state) s.tasks (λ task. (reads tag index state task).tag)
    (task_read_same tag index state)) h
read_told s l pins reader state h = h

read_ends : (s : State) (die : ℕ) (reader : Reader) (state : ReadState) (ending : Ending) (array : Array) →
    Show (moved s.translation (EndJob die ending)).ledger s.tasks (moved s.translation (EndJob die ending)).pins →
    ShowsReads (with_moves (record (read_noted s reader state) { array = array }) (EndJob die ending ∷ []))
read_ends s die (ForTask tag index) state ending array h =
    read_told s (moved s.translation (EndJob die ending)).ledger (moved s.translation (EndJob die ending)).pins
    (ForTask tag index) state h
read_ends s die reader state ending array h = h

ends_show : (s : State) (die : ℕ) (flight : Option Flight) (ending : Ending) (left : Array) → ShowsReads s →
    Show (moved s.translation (EndJob die ending)).ledger s.tasks (moved s.translation (EndJob die ending)).pins →
    ShowsReads (ends_with s die flight ending left)
ends_show s die None ending left h k = h
ends_show s die (Some (Reading reader place)) ReadRight left h k = read_ends s die reader WasRead ReadRight s.array k
ends_show s die (Some (Reading reader place)) ReadWrong left h k = read_ends s die reader NotRead ReadWrong s.array k
ends_show s die (Some flight) ending left h k = k

-- the translation layer after a job is valid
ended_valid : (s : State) (die : ℕ) (flight : Option Flight) (ending : Ending) (left : Array) →
    s.translation.disk.flights die ≡ flight →
    IsTied (job_over s die flight ending left) → Valid s.translation → Valid (moved s.translation (EndJob die ending))
ended_valid s die None ending left e v w = subst (λ (x : Option Flight). Valid (end_flight s.translation die x ending))
    (sym e) w
ended_valid s die (Some flight) ending left e v w = v.valid

finish_shows : {s : State} (die : ℕ) (ending : Ending) (left : Array) → IsTied s →
    IsTied (first s (Done die ending left) (OfDone true)) → ShowsReads s →
    ShowsReads (ends_with s die (s.translation.disk.flights die) ending left)
finish_shows {s} die ending left v tied h = ends_show s die (s.translation.disk.flights die) ending left h
    (end_shows s.translation die (s.translation.disk.flights die) ending
    (ended_valid s die (s.translation.disk.flights die) ending left refl tied v.valid) s.tasks h)

-- Registers that are filled, and the lock

fills_show : (s : State) → ShowsReads s → ShowsReads (fills s)
fills_show s h =
    let l = s.translation.ledger in
    let ts = filter (is_to_fill s) s.tasks in
    let tasks = map (task_filled s) s.tasks in
    let u = fold moved s.translation (fill_moves ts) in
    subst (λ (x : Ledger). Show x tasks u.pins) (sym (filled_ledger ts s.translation))
    (show_goes l s.tasks tasks u.pins (map_goes (task_filled s) s.tasks (λ task. (fills_task s task).tag)
    (λ task. by task (is_to_fill s task))) (filled_pins (ShowsRight l s.tasks) ts s.translation h))
  where
    by : (task : Task) (b : Bool) → SameBlocks task.deed (if b then record task { request = filled task.request }
        else task).deed
    by task true = λ l x i h. h
    by task false = λ l x i h. h

lock_same : (s : State) (task : Task) (deed : Deed) → SameBlocks deed (deed_locked s task deed)
lock_same s task (Awaiting commands) = by (nat_le commands (durable s))
  where
    by : (b : Bool) → SameBlocks (Awaiting commands) (if b then Awaiting commands
        else Answering write_error task.length)
    by true = λ l x i h. h
    by false = λ l x i h. tt
lock_same s task deed = λ l x i h. h

lock_shows : (s : State) → ShowsReads s → ShowsReads (lock_applied s)
lock_shows s h =
    shows_if (locked s) (record s { tasks = map (task_locked s) s.tasks; shorts = map (short_locked s) s.shorts }) s
    (show_goes s.translation.ledger s.tasks (map (task_locked s) s.tasks) s.translation.pins
    (map_goes (task_locked s) s.tasks (λ task. refl) (λ task. lock_same s task task.deed)) h) h

-- Calls

hears_shows : {s : State} (x : Heard) (done : Unit {0}) → IsTied s → MayCome s (Host x) →
    Allowed s (Host x) (OfHost (Ok done)) → ShowsReads s → ShowsReads (hears s x)
hears_shows {s} (Spelled m c) done v may right h = heard_shows m c v may (no_fault (message_fault s m) right) h
hears_shows (Faulty fault) done v may right h = h
hears_shows NoEvent done v may right h = h

-- before registers are filled
pub behind_shows : {s : State} (call : Call) (answer : Answer) → IsTied s → MayCome s call → Allowed s call answer →
    ShowsReads s → ShowsReads (behind s call answer)
behind_shows {s} (Host x) (OfHost (Ok done)) v may right h = hears_shows x done v may right h
behind_shows (Take die) (OfTake (Some flight)) v may right h = h
behind_shows {s} (Done die ending left) (OfDone true) v may right h =
    finish_shows die ending left v (first_keeps (Done die ending left) (OfDone true) v may right) h
behind_shows {s} Turn (OfTurn due) v may right h = turn_shows s.translation s.tasks h
behind_shows {s} Reply (OfReply (Some m)) v may right h = replied_shows s (tag_in m) (task_of (tag_in m) s.tasks) refl h
behind_shows call answer v may right h = h

pub call_shows : (s : State) (call : Call) (answer : Answer) → IsTied s → MayCome s call → Allowed s call answer →
    ShowsReads s → ShowsReads (observe s call answer)
call_shows s call answer v may right h = lock_shows (fills (behind s call answer))
    (fills_show (behind s call answer) (behind_shows call answer v may right h))

-- Lives

pub opened_shows : (n : Numbers) (array : Array) (bad : Spot → Bool) (s : State) → IsOpened n array bad s → ShowsReads s
opened_shows n array bad s o = subst (All (ShowsRight s.translation.ledger s.tasks)) (sym o.translation.no_pins)
    (All-nil (ShowsRight s.translation.ledger s.tasks))

pub life_shows : (s t : State) (es : List Event) (os : List Output) → ValidState s → ShowsReads s → Life s es os t →
    ShowsReads t
life_shows s t [] [] v h life = subst ShowsReads (sym life) h
life_shows s t (e ∷ es) (o ∷ os) v h life =
    let l = life.1 in
    life_shows life.0 t es os (one_event s life.0 e o v l)
    (subst ShowsReads (sym l.next) (call_shows s l.call l.answer v.tied (event_comes s e l.call l.is_call) l.right h))
    life.2
life_shows s t es os v h life = absurd life

-- The page that is read

-- a pin on a page shows what the deed of its task needs
kept_shows : (s : State) (pin : Pin) (task : Task) (deed : Deed) (name : Name) (place : Place) → ShowsReads s →
    Contains s.translation.pins pin → task_of pin.tag s.tasks ≡ Some task → task.deed ≡ deed →
    pin.looked ≡ OnPage name place → ShowsBlock s.translation.ledger (OnPage name place) pin.index deed
kept_shows s pin task deed name place h in' there is looked =
    let r = All-contains (ShowsRight s.translation.ledger s.tasks) s.translation.pins pin h in' in
    let one : r.task ≡ task = same_Some r.task task (sym r.there ∙ there) in
    subst (ShowsBlock s.translation.ledger (OnPage name place) pin.index) (ap (λ (x : Task). x.deed) one ∙ is)
    (subst (λ (x : Looked). ShowsBlock s.translation.ledger x pin.index r.task.deed) looked r.shows)

-- what is shown is the page's body
shown_body : (s : State) (index : ℕ) (blocks : List ReadBlock) (block : ReadBlock) (name : Name) (place : Place) →
    IsTied s → ShowsAt s.translation.ledger (OnPage name place) index blocks → slice_get blocks index ≡ Some block →
    (g : IsGroupPage s.translation.disk.cells s.translation.disk.finished s.translation.disk.erasing name place) →
    g.body ≡ block.body
shown_body s index blocks block name place v shows at g =
    let page = (shows block at).1 in
    let e : Entry = record { item = record { key = key_of g.tag; body = g.body }; size = g.tag.size } in
    let same : e ≡ page.entry = same_Some e page.entry (sym (page_known s.translation name place v.valid g) ∙ page.is)
    in
    ap (λ (x : Entry). x.item.body) same ∙ page.body_is

pub page_body : (s : State) (pin : Pin) (task : Task) (blocks : List ReadBlock) (sent : ℕ) (block : ReadBlock)
    (name : Name) (place : Place) → IsTied s → ShowsReads s →
    Contains s.translation.pins pin → task_of pin.tag s.tasks ≡ Some task → task.deed ≡ Sending blocks sent →
    slice_get blocks pin.index ≡ Some block → pin.looked ≡ OnPage name place →
    (g : IsGroupPage s.translation.disk.cells s.translation.disk.finished s.translation.disk.erasing name place) →
    g.body ≡ block.body
page_body s pin task blocks sent block name place v h in' there deed at looked g =
    shown_body s pin.index blocks block name place v
    (kept_shows s pin task (Sending blocks sent) name place h in' there deed looked) at g

-- so it is with a page that a request for RPMB data reads
pub area_body : (s : State) (pin : Pin) (task : Task) (pages : List ReadBlock) (page : ReadBlock) (name : Name)
    (place : Place) → IsTied s → ShowsReads s → Contains s.translation.pins pin →
    task_of pin.tag s.tasks ≡ Some task → task.deed ≡ ReadingArea pages → slice_get pages pin.index ≡ Some page →
    pin.looked ≡ OnPage name place →
    (g : IsGroupPage s.translation.disk.cells s.translation.disk.finished s.translation.disk.erasing name place) →
    g.body ≡ page.body
area_body s pin task pages page name place v h in' there deed at looked g =
    shown_body s pin.index pages page name place v
    (kept_shows s pin task (ReadingArea pages) name place h in' there deed looked) at g

-- and with the page of a block that is still to be compared
pub compared_body : (s : State) (pin : Pin) (task : Task) (blocks : List ReadBlock) (compared : ℕ) (asked : Bool)
    (block : ReadBlock) (name : Name) (place : Place) → IsTied s → ShowsReads s → Contains s.translation.pins pin →
    task_of pin.tag s.tasks ≡ Some task → task.deed ≡ Comparing blocks compared asked →
    slice_get blocks pin.index ≡ Some block → pin.looked ≡ OnPage name place →
    (g : IsGroupPage s.translation.disk.cells s.translation.disk.finished s.translation.disk.erasing name place) →
    g.body ≡ block.body
compared_body s pin task blocks compared asked block name place v h in' there deed at looked g =
    shown_body s pin.index blocks block name place v
    (kept_shows s pin task (Comparing blocks compared asked) name place h in' there deed looked) at g

-- what is sent goes out
pub page_sent : (s : State) (pin : Pin) (task : Task) (blocks : List ReadBlock) (sent : ℕ) (block : ReadBlock)
    (name : Name) (place : Place) → IsTied s → ShowsReads s → Contains s.translation.pins pin → pin.index ≡ sent →
    task_of pin.tag s.tasks ≡ Some task → task.deed ≡ Sending blocks sent → slice_get blocks sent ≡ Some block →
    block.state ≡ WasRead → pin.looked ≡ OnPage name place →
    (g : IsGroupPage s.translation.disk.cells s.translation.disk.finished s.translation.disk.erasing name place) →
    deed_reply s task task.deed ≡ Some (block_message task sent g.body)
page_sent s pin task blocks sent block name place v h in' index there deed at state looked g =
    let body = page_body s pin task blocks sent block name place v h in' there deed (ap (slice_get blocks) index ∙ at)
    looked g in
    let hand = is_at_hand s.translation.work.rests (pin_of s task sent) in
    ap (deed_reply s task) deed
    ∙ (ap (next_block_reply s task sent) at
    ∙ (ap (λ (x : ReadState). block_reply task sent block.body x hand) state
    ∙ ap (λ (x : List ℕ). Some (block_message task sent x)) (sym body)))
