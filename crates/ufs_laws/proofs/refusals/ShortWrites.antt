-- What is taken of a WRITE whose host sends fewer bytes than it has.
use Rattle.std.specs.Prelude.{ℕ, ◌+◌, ◌-◌, ◌*◌, ◌/◌, ◌%◌, ◌==◌, ◌<◌, ◌≤◌, ◌≡◌, Bool, false}
use Rattle.std.specs.Prelude.{List, [], ◌∷◌, length, Some, nat_lt}
use Rattle.std.proofs.Math.Nat.{div-add-mod}
use Rattle.ufs_laws.proofs.Common.{Answering, Claim, ForWrite, Gathering, Good, Request, State, Status, Task, arith, cond-false}
use Rattle.ufs_laws.proofs.Common.{ap, cond-true, le-ltb, ne_eqb, lt-ltb, sym, with_moves, with_task, ◌∙◌}
use Rattle.ufs_spec.specs.Begins.{begun, expected_of_write, of_write, write_begun}
use Rattle.ufs_spec.specs.Exchanges.{count_at, response, response_message}
use Rattle.ufs_spec.specs.Machine.{deed_reply}
use Rattle.ufs_spec.specs.Refusals.{blocks_brought}
use Rattle.ufs_spec.specs.declared.messages.Message.TheVariants as message
use Rattle.ufs_spec.specs.declared.scsi.Cdb.TheVariants as cdb

some_not_none : (n : ℕ) → 1 ≤ n → (n == 0) ≡ false
some_not_none n h = ne_eqb n 0 (λ e. omega arith)

counts_short : (expected n : ℕ) → expected < n → expected_of_write expected n ≡ 4096 * (expected / 4096)
counts_short expected n low = cond-true (nat_lt expected n) _ expected (lt-ltb expected n low)

counts_all : (expected n : ℕ) → n ≤ expected → expected_of_write expected n ≡ expected
counts_all expected n low = cond-false (nat_lt expected n) (4096 * (expected / 4096)) expected (le-ltb expected n low)

-- some blocks come
takes_some : (s : State) (r : Request) (unit address m n : ℕ) (forced : Bool) (all x : ℕ) → m ≡ n → 1 ≤ n →
    expected_of_write r.expected all ≡ x → write_begun s r unit address m forced all
    ≡ with_task (with_moves s (Claim n ∷ [])) (record r { expected = x }) (Some (cdb.Write address n forced)) all
    (Gathering (ForWrite unit address n forced) [] false)
takes_some s r unit address m n forced all x is some counts =
    ap (λ (k : ℕ). write_begun s r unit address k forced all) is
    ∙ cond-false (n == 0) _ _ (some_not_none n some)
    ∙ ap (λ (e : ℕ). with_task (with_moves s (Claim n ∷ [])) (record r { expected = e })
    (Some (cdb.Write address n forced)) all (Gathering (ForWrite unit address n forced) [] false)) counts

pub begins : (s : State) (r : Request) (unit address blocks n : ℕ) (forced : Bool) → n ≡ r.expected / 4096 → 1 ≤ n →
    n < blocks → begun s r unit (cdb.Write address blocks forced)
    ≡ with_task (with_moves s (Claim n ∷ [])) (record r { expected = 4096 * n }) (Some (cdb.Write address n forced))
    (4096 * blocks) (Gathering (ForWrite unit address n forced) [] false)
begins s r unit address blocks n forced is some few =
    let part = div-add-mod r.expected 4096 in
    let rest : r.expected % 4096 < 4096 = omega arith in
    let those : blocks_brought r.expected blocks ≡ n = grind arith in
    takes_some s r unit address (blocks_brought r.expected blocks) n forced (4096 * blocks) (4096 * n) those some
    (counts_short r.expected (4096 * blocks) (omega arith) ∙ ap (λ (k : ℕ). 4096 * k) (sym is))

pub none : (s : State) (r : Request) (unit address blocks : ℕ) (forced : Bool) → r.expected < 4096 → 1 ≤ blocks →
    begun s r unit (cdb.Write address blocks forced)
    ≡ with_task s (record r { expected = 0 }) (Some (cdb.Write address 0 forced)) (4096 * blocks)
    (Answering Good (4096 * blocks))
none s r unit address blocks forced low some =
    let no : r.expected / 4096 ≡ 0 = omega arith in
    let those : blocks_brought r.expected blocks ≡ 0 = grind arith in
    ap (λ (k : ℕ). write_begun s r unit address k forced (4096 * blocks)) those
    ∙ ap (λ (e : ℕ). with_task s (record r { expected = e }) (Some (cdb.Write address 0 forced)) (4096 * blocks)
    (Answering Good (4096 * blocks)))
    (counts_short r.expected (4096 * blocks) (omega arith) ∙ ap (λ (k : ℕ). 4096 * k) no)

pub whole : (s : State) (r : Request) (unit address blocks : ℕ) (forced : Bool) → 4096 * blocks ≤ r.expected →
    1 ≤ blocks → begun s r unit (cdb.Write address blocks forced)
    ≡ with_task (with_moves s (Claim blocks ∷ [])) r (Some (cdb.Write address blocks forced)) (4096 * blocks)
    (Gathering (ForWrite unit address blocks forced) [] false)
whole s r unit address blocks forced low some =
    let part = div-add-mod r.expected 4096 in
    let rest : r.expected % 4096 < 4096 = omega arith in
    let most : blocks ≤ r.expected / 4096 = omega arith in
    let those : blocks_brought r.expected blocks ≡ blocks = grind arith in
    takes_some s r unit address (blocks_brought r.expected blocks) blocks forced (4096 * blocks) r.expected those some
    (counts_all r.expected (4096 * blocks) low)

pub asks : (s : State) (task : Task) (unit address n : ℕ) (forced : Bool) (gathered : List ℕ) →
    length gathered + 4096 ≤ 4096 * n → deed_reply s task (Gathering (ForWrite unit address n forced) gathered false)
    ≡ Some (message.ReadyToTransfer task.lun task.tag (length gathered) 4096)
asks s task unit address n forced gathered low =
    let all : count_at (4096 * n) (length gathered) ≡ 4096 = grind arith in
    ap (λ (count : ℕ). Some (message.ReadyToTransfer task.lun task.tag (length gathered) count)) all

-- more bytes are the command's than count as expected
over : (lun tag expected n m : ℕ) (status : Status) → expected < n → n - expected ≡ m →
    response lun tag expected n status
    ≡ response_message (record { flags = 0x40; count = m }) lun tag status
over lun tag expected n m status low is =
    ap (λ x. response_message x lun tag status)
    (cond-false (nat_lt n expected) (record { flags = 0x20; count = expected - n }) _ (le-ltb n expected (omega arith))
    ∙ cond-true (nat_lt expected n) (record { flags = 0x40; count = n - expected }) _ (lt-ltb expected n low)
    ∙ ap (λ (k : ℕ). record { flags = 0x40; count = k }) is)

pub left_over : (r : Request) (blocks : ℕ) (status : Status) → r.expected < 4096 * blocks →
    response r.lun r.tag (of_write r (4096 * blocks)).expected (4096 * blocks) status
    ≡ response_message (record { flags = 0x40; count = 4096 * (blocks - r.expected / 4096) }) r.lun r.tag status
left_over r blocks status low =
    let part = div-add-mod r.expected 4096 in
    let few : r.expected / 4096 < blocks = omega arith in
    ap (λ (e : ℕ). response r.lun r.tag e (4096 * blocks) status) (counts_short r.expected (4096 * blocks) low)
    ∙ over r.lun r.tag (4096 * (r.expected / 4096)) (4096 * blocks) _ status (omega arith) (omega arith)

pub nothing_left : (r : Request) (blocks : ℕ) → 4096 * blocks ≤ r.expected → of_write r (4096 * blocks) ≡ r
nothing_left r blocks low =
    ap (λ (e : ℕ). record r { expected = e }) (counts_all r.expected (4096 * blocks) low)
