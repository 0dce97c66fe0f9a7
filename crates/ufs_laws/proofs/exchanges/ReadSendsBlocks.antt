-- A READ sends its blocks in order, as they were at its COMMAND.
use Rattle.ufs_laws.proofs.Common.{Comparing}
use Rattle.ufs_laws.proofs.Common.{Allowed, Answer, Answering, Bool, Call, Cdb, Deed, Gathering, Good, IsSpoken, List}
use Rattle.ufs_laws.proofs.Common.{Message, Name, None, NotRead, Option, Pin, Purpose, ReadBlock, ReadState, Request}
use Rattle.ufs_laws.proofs.Common.{Sending, Some, State, Task, Unread, WasRead, [], ap, arith, at_most, below, block_at}
use Rattle.ufs_laws.proofs.Common.{block_reply, blocks_expected, count_at, deed_after, deed_reply, eqb-true, false}
use Rattle.ufs_laws.proofs.Common.{flat_map, if◌then◌else◌, in_use, inl, inr, is_at_hand, length, list_any, map, nat_lt}
use Rattle.ufs_laws.proofs.Common.{next_block_reply, not, observe, pin_of, plain_now, read_begun, read_blocks, refl}
use Rattle.ufs_laws.proofs.Common.{response, same_Some, sending, slice_get, subst, suc, sym, take, take_all, true}
use Rattle.ufs_laws.proofs.Common.{true≢false, unit_of_request, unit_or_first, with_block, zero, ℕ, ◌*◌, ◌++◌, ◌+◌, ◌-◌}
use Rattle.ufs_laws.proofs.Common.{◌<◌, ◌∙◌, ◌∷◌, ◌≡◌, ◌≢◌, ◌≤◌, ◌⊎◌}
use Rattle.std.proofs.Common.{min}
use Rattle.std.specs.Prelude.{slice_set}
use Rattle.ufs_laws.proofs.plain_contents.ListParts.{joined_next, length-joined, length-made}
use Rattle.ufs_laws.proofs.walk.TaskLaws.{Any, any_asks, IsTaskLaw, begun_task, task_for, tasks_kept}
use Rattle.ufs_laws.specs.Exchange.{SendsThese, TagSends}
use Rattle.ufs_spec.specs.Exchanges.{block_message, read_error}
use Rattle.ufs_spec.specs.Machine.{deed_after_block, deed_after_state, needs_no_read, set_state}
use Rattle.ufs_spec.specs.Translation.{is_rest_of}
use Rattle.ufs_spec.specs.declared.layer.Looked.{Looked}
use Rattle.ufs_spec.specs.declared.layer.Looked.TheVariants.{InSlot}
use Rattle.ufs_laws.proofs.exchanges.DeedLaws.{IsDeedLaw, filled_keeps, goes, locks, read_keeps, reads, set_keeps}
use Rattle.ufs_laws.proofs.exchanges.DeedLaws.{set_request_keeps}

-- ## What is sent

-- the parts of blocks, joined, are the first bytes of the blocks joined
take_append : {X : Type 0} (n : ℕ) (xs ys : List X) → take n (xs ++ ys) ≡ take n xs ++ take (n - length xs) ys
take_append zero [] ys = let e : 0 ≡ 0 - 0 = omega arith in ap (λ (k : ℕ). take k ys) e
take_append (suc n) [] ys = let e : suc n ≡ suc n - 0 = omega arith in ap (λ (k : ℕ). take k ys) e
take_append zero (x ∷ xs) ys = let e : 0 ≡ 0 - length (x ∷ xs) = omega arith in ap (λ (k : ℕ). take k ys) e
take_append (suc n) (x ∷ xs) ys =
    let e : n - length xs ≡ suc n - length (x ∷ xs) = omega arith in
    ap (λ zs. x ∷ zs) (take_append n xs ys) ∙ ap (λ (k : ℕ). take (suc n) (x ∷ xs) ++ take k ys) e

-- of a block a part of more bytes is all of it
part : (rest : ℕ) (body : List ℕ) → length body ≡ 4096 → take (min 4096 rest) body ≡ take rest body
part rest body long = by (at_most 4096 rest)
  where
    by : ((4096 ≤ rest) ⊎ (rest < 4096)) → take (min 4096 rest) body ≡ take rest body
    by (inl high) =
        let least : min 4096 rest ≡ 4096 = grind arith in
        ap (λ (n : ℕ). take n body) least ∙ take_all 4096 body (omega arith) ∙ sym (take_all rest body (omega arith))
    by (inr low) = let least : min 4096 rest ≡ rest = grind arith in ap (λ (n : ℕ). take n body) least

pub joined : (total n : ℕ) (body : ℕ → List ℕ) → ((i : ℕ) → i < n → length (body i) ≡ 4096) →
    flat_map (λ i. take (count_at total (4096 * i)) (body i)) (below n) ≡ take total (flat_map body (below n))
joined total zero body long = none total [] refl
  where
    none : (m : ℕ) (xs : List ℕ) → xs ≡ [] → xs ≡ take m xs
    none zero [] e = refl
    none (suc m) [] e = refl
    none m (x ∷ xs) e = let no : x ∷ xs ≡ [] = e in cc
joined total (suc n) body long =
    let parts : ℕ → List ℕ = λ i. take (count_at total (4096 * i)) (body i) in
    let before = joined total n body (λ i low. long i (omega arith)) in
    let size : length (flat_map body (below n)) ≡ 4096 * n = length-joined body 4096 n (λ i low. long i (omega arith))
    in
    joined_next parts n
    ∙ ap (λ (xs : List ℕ). xs ++ parts n) before
    ∙ ap (λ (xs : List ℕ). take total (flat_map body (below n)) ++ xs)
    (part (total - 4096 * n) (body n) (long n (omega arith)) ∙ ap (λ (k : ℕ). take (total - k) (body n)) (sym size))
    ∙ sym (take_append total (flat_map body (below n)) (body n))
    ∙ ap (take total) (sym (joined_next body n))

-- ## At the COMMAND

pub begins : (s : State) (r : Request) (c : Cdb) (unit address n : ℕ) → 1 ≤ blocks_expected r n →
    (read_begun s r c unit address n).tasks
    ≡ s.tasks ++ record {
      lun = r.lun;
      tag = r.tag;
      expected = r.expected;
      command = Some c;
      length = n;
      deed = Sending (read_blocks s unit address (blocks_expected r n)) 0;
      request = None;
    } ∷ []
begins s r c unit address n some = ap (λ (d : Deed). s.tasks ++ task_for r (Some c) n d ∷ [])
    (by (read_blocks s unit address (blocks_expected r n)) (length-made _ (blocks_expected r n)))
  where
    by : (blocks : List ReadBlock) → length blocks ≡ blocks_expected r n → sending blocks n ≡ Sending blocks 0
    by [] e = absurd (omega arith)
    by (b ∷ bs) e = refl

same_bodies : (f : ℕ → List ℕ) (xs : List ℕ) →
    map (λ (b : ReadBlock). b.body) (map (λ i. record { body = f i; state = Unread }) xs) ≡ map f xs
same_bodies f [] = refl
same_bodies f (x ∷ xs) = ap (λ (rest : List (List ℕ)). f x ∷ rest) (same_bodies f xs)

pub contents : (s : State) (unit address n : ℕ) → map (λ (b : ReadBlock). b.body) (read_blocks s unit address n) ≡ map
    (λ i. block_at unit (address + i) (plain_now s)) (below n)
contents s unit address n = same_bodies (λ i. block_at unit (address + i) (plain_now s)) (below n)

-- ## One block after another

-- the block that is next goes out as it is, or is told unread
abbrev pub IsNextReply : Task → List ReadBlock → ℕ → Message → Type 0
IsNextReply task blocks sent m =
    (block : ReadBlock) × (slice_get blocks sent ≡ Some block)
    × ((m ≡ block_message task sent block.body)
    ⊎ ((block.state ≡ NotRead) × (m ≡ response task.lun task.tag task.expected (4096 * sent) read_error)))

block_sends : (task : Task) (sent : ℕ) (body : List ℕ) (state : ReadState) (at_hand : Bool) (m : Message) →
    block_reply task sent body state at_hand ≡ Some m →
    ((m ≡ block_message task sent body)
    ⊎ ((state ≡ NotRead) × (m ≡ response task.lun task.tag task.expected (4096 * sent) read_error)))
block_sends task sent body WasRead at_hand m e = inl (sym (same_Some _ m e))
block_sends task sent body NotRead at_hand m e = inr (refl, sym (same_Some _ m e))
block_sends task sent body Unread true m e = inl (sym (same_Some _ m e))
block_sends task sent body Unread false m e = let none : None ≡ Some m = e in cc

pub sends : (s : State) (task : Task) (blocks : List ReadBlock) (sent : ℕ) (m : Message) →
    deed_reply s task (Sending blocks sent) ≡ Some m → IsNextReply task blocks sent m
sends s task blocks sent m e = by (slice_get blocks sent) refl e
  where
    by : (o : Option ReadBlock) → slice_get blocks sent ≡ o → next_block_reply s task sent o ≡ Some m →
        IsNextReply task blocks sent m
    by None there k = let none : None ≡ Some m = k in cc
    by (Some block) there k = (
      block,
      there,
      block_sends task sent block.body block.state
          (is_at_hand s.translation.work.rests (pin_of s task sent)) m k,
    )

-- a block in a slot whose content is still owed waits
pub owed : (s : State) (task : Task) (blocks : List ReadBlock) (sent : ℕ) (block : ReadBlock) (pin : Pin) (name : Name)
    → slice_get blocks sent ≡ Some block →
    block.state ≡ Unread → pin_of s task sent ≡ Some pin → pin.looked ≡ InSlot name →
    list_any (is_rest_of name) s.translation.work.rests ≡ true →
    deed_reply s task (Sending blocks sent) ≡ None
owed s task blocks sent block pin name there unread kept slot awaited =
    ap (next_block_reply s task sent) there
    ∙ ap (λ (state : ReadState). block_reply task sent block.body state
    (is_at_hand s.translation.work.rests (pin_of s task sent))) unread
    ∙ ap (λ (p : Option Pin). block_reply task sent block.body Unread (is_at_hand s.translation.work.rests p)) kept
    ∙ ap (λ (looked : Looked). block_reply task sent block.body Unread (needs_no_read s.translation.work.rests looked))
    slot
    ∙ ap (λ (b : Bool). block_reply task sent block.body Unread (not b)) awaited

pub goes_on : (task : Task) (blocks : List ReadBlock) (sent : ℕ) (block : ReadBlock) →
    slice_get blocks sent ≡ Some block → block.state ≢ NotRead →
    deed_after task (Sending blocks sent) ≡ Some (if nat_lt (sent + 1) (length blocks) then Sending blocks (sent + 1)
    else Answering Good task.length)
goes_on task blocks sent block there read = ap (deed_after_block task blocks sent) there ∙ by block.state refl
  where
    by : (state : ReadState) → block.state ≡ state → deed_after_state task blocks sent block.state ≡ Some
        (if nat_lt (sent + 1) (length blocks) then Sending blocks (sent + 1) else Answering Good task.length)
    by NotRead e = absurd (read e)
    by Unread e = ap (deed_after_state task blocks sent) e
    by WasRead e = ap (deed_after_state task blocks sent) e

-- ## Whatever comes later

same_body : (blocks : List ReadBlock) (index : ℕ) (state : ReadState) (block : ReadBlock) →
    slice_get blocks index ≡ Some block →
    map (λ (b : ReadBlock). b.body) (slice_set blocks index (set_state state block)) ≡ map (λ (b : ReadBlock). b.body)
    blocks
same_body [] index state block e = let none : None ≡ Some block = e in cc
same_body (b ∷ bs) zero state block e = ap (λ (x : ReadBlock). x.body ∷ map (λ (b : ReadBlock). b.body) bs)
    (sym (same_Some b block e))
same_body (b ∷ bs) (suc index) state block e =
    ap (λ (rest : List (List ℕ)). b.body ∷ rest) (same_body bs index state block e)

fixed : (blocks : List ReadBlock) (index : ℕ) (state : ReadState) →
    map (λ (b : ReadBlock). b.body) (with_block blocks index state (slice_get blocks index)) ≡ map
    (λ (b : ReadBlock). b.body) blocks
fixed blocks index state = by (slice_get blocks index) refl
  where
    by : (o : Option ReadBlock) → slice_get blocks index ≡ o →
        map (λ (b : ReadBlock). b.body) (with_block blocks index state o) ≡ map (λ (b : ReadBlock). b.body) blocks
    by None e = refl
    by (Some block) e = same_body blocks index state block e

module _ (tag : ℕ) (bodies : List (List ℕ)) where
  abbrev Sends : Task → Type 0
  Sends task = task.tag ≡ tag → SendsThese bodies task.deed

  abbrev MaySend : Task → Deed → Type 0
  MaySend task deed = task.tag ≡ tag → SendsThese bodies deed

  gathers_none : (task : Task) (purpose : Purpose) (gathered : List ℕ) (asked : Bool) →
      task.deed ≡ Gathering purpose gathered asked → Sends task → task.tag ≡ tag → ⊥
  gathers_none task purpose gathered asked e h same = subst (SendsThese bodies) e (h same)

  compares_none : (task : Task) (blocks : List ReadBlock) (compared : ℕ) (asked : Bool) →
      task.deed ≡ Comparing blocks compared asked → Sends task → task.tag ≡ tag → ⊥
  compares_none task blocks compared asked e h same = subst (SendsThese bodies) e (h same)

  sending_deeds : (task : Task) → IsDeedLaw (SendsThese bodies) task
  sending_deeds task = record {
    asked = λ purpose gathered was d. absurd d;
    next = λ blocks sent more d. d;
    sent = tt;
    fails = tt;
    read = λ blocks sent index state d. fixed blocks index state ∙ d;
    page = λ pages index state d. d;
    compares = λ blocks compared was d. absurd d;
    found = λ blocks compared was index state d. absurd d;
  }

  -- a tag in use is not opened again
  other_tag : (s : State) (r : Request) → in_use s false tag ≡ true → in_use s false r.tag ≡ false → r.tag ≡ tag → ⊥
  other_tag s r used free same = true≢false (sym used ∙ ap (in_use s false) (sym same) ∙ free)

  sends_law : (s : State) → in_use s false tag ≡ true → IsTaskLaw Sends MaySend Any s
  sends_law s used = record {
    set = λ task deed found all may.
        set_keeps Sends task.tag deed s.tasks (λ t is h same. may (sym (eqb-true t.tag task.tag is) ∙ same)) all;
    set_request = λ task request deed found all may. set_request_keeps Sends task.tag request deed s.tasks
        (λ t is h same. may (sym (eqb-true t.tag task.tag is) ∙ same)) all;
    refused = λ r status is asks free e same. tt;
    begins = λ r c is asks free e passed. (let b = begun_task s r (unit_or_first (unit_of_request s r)) c in
        (b.0, b.1, λ same. absurd (other_tag s r used free (sym b.2 ∙ same))));
    gathers = λ task purpose gathered bytes asked e h next more same.
        absurd (gathers_none task purpose gathered asked e h same);
    answers = λ task purpose gathered asked status e h is same. tt;
    waits = λ task purpose gathered asked position e h same. absurd (gathers_none task purpose gathered asked e h same);
    reads_area = λ task purpose gathered asked pages e h same.
        absurd (gathers_none task purpose gathered asked e h same);
    same = λ task blocks compared asked e h same. absurd (compares_none task blocks compared asked e h same);
    differs = λ task blocks compared asked block e there h same. tt;
    goes = λ task deed e h same. goes (SendsThese bodies) task (sending_deeds task) task.deed deed (h same) e;
    fills = λ u task h. filled_keeps Sends u task h h;
    locks = λ u task h same. locks (SendsThese bodies) task (sending_deeds task) u task.deed (h same);
    reads = λ of index state task h.
        read_keeps Sends of index state task (λ same. reads (SendsThese bodies) task (sending_deeds task) index state
        task.deed (h same)) h;
  }

pub stays : (s : State) (call : Call) (answer : Answer) (tag : ℕ) (bodies : List (List ℕ)) → IsSpoken call →
    Allowed s call answer → in_use s false tag ≡ true →
    TagSends tag bodies s → TagSends tag bodies (observe s call answer)
stays s call answer tag bodies is may used all = tasks_kept (Sends tag bodies) (MaySend tag bodies) Any s
    (sends_law tag bodies s used) all call answer is (any_asks call) may
