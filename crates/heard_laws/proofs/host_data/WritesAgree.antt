-- Behind a DATA OUT of a WRITE the device and the journal agree.
use Rattle.heard_laws.proofs.Common.{Answering, Blocks, Bool, ForWrite, Gathering, List, OpenTask, Some, State, Task}
use Rattle.heard_laws.proofs.Common.{Write, WriteBegun, [], ap, arith, blocks_in, false, false≢true, find, has_tag}
use Rattle.heard_laws.proofs.Common.{if◌then◌else◌, length, length-append, locked, mended, nat_lt, numbers_of}
use Rattle.heard_laws.proofs.Common.{plain_now, refl, same_task, subst, sym, task_of, true, with_moves, without, ℕ, ◌*◌}
use Rattle.heard_laws.proofs.Common.{◌++◌, ◌+◌, ◌∷◌, ◌≡◌, ◌≤◌}
use Rattle.std.proofs.Common.{◌||◌}
use Rattle.ufs_spec.proofs.Facts.{ltb-false}
use Rattle.ufs_spec.specs.Commands.{Command}
use Rattle.ufs_spec.specs.DataOuts.{write_complete, write_deed}
use Rattle.ufs_spec.specs.Exchanges.{write_error}
use Rattle.ufs_spec.specs.Machine.{accepts, gathered_more, set_deed}
use Rattle.ufs_spec.specs.Moves.{Release}
use Rattle.journal.specs.Heard.{Heard, gathered, open_again, with_command, written}
use Rattle.journal.specs.Writes.{with_block, write_of}
use Rattle.journal.specs.declared.tasks.Awaited.TheVariants.{Nothing}
use Rattle.heard_laws.proofs.agreement.Agreement.{AgreeIn, DeedAgrees, SameWrite, WaitsForBlocks}
use Rattle.heard_laws.proofs.agreement.PairsOpened.{at_most_of}
use Rattle.heard_laws.proofs.host_data.BlocksHeard.{command_is, whole_told, write_more}
use Rattle.heard_laws.proofs.host_data.DataLands.{again, lands, lands_accepted}
use Rattle.heard_laws.proofs.host_data.RegionsKept.{others_stay}
use Rattle.heard_laws.proofs.rolls.Rolls.{Roll, count, count_all, count_none, somes, somes_some}
use Rattle.heard_laws.proofs.rolls.StandingRolls.{as_long}

module _ (s : State) (held : ℕ) (j : Heard) (task : Task) (a : AgreeIn s held s j)
    (found : task_of task.tag s.tasks ≡ Some task) (unit address blocks : ℕ) (forced : Bool) (before : List ℕ)
    (h : WaitsForBlocks (numbers_of s) task.lun unit address blocks forced before (find (has_tag task.tag) j.tasks))
    (more : List ℕ) (whole : length more ≡ 4096)
    (mends : mended s ≡ true) where
  abbrev all : List ℕ
  all = before ++ more

  abbrev w : WriteBegun
  w = with_block h.write more

  abbrev t : OpenTask
  t = h.waits.task

  -- the journal without what was open under the tag
  abbrev k : Heard
  k = record j { tasks = without task.tag j.tasks }

  same : SameWrite unit address blocks forced all w
  same = write_more more whole h.same

  abbrev c : Command
  c = Write unit address (blocks_in blocks all)

  -- more blocks are to come
  goes_on : AgreeIn s held (set_deed s task.tag
      (Gathering (ForWrite unit address blocks forced) all false)) (open_again k t.name t.promised (Blocks w))
  goes_on =
      lands s held j task a found
      (λ x. record x { deed = Gathering (ForWrite unit address blocks forced) all false })
      (λ x. same_task x _ x.request) t h.waits.is (Blocks w) refl
      (record {
        write = w;
        waits = record {
          task = again t t.promised (Blocks w);
          is = refl;
          awaits = refl;
          nothing = h.waits.nothing;
          there = h.waits.there;
        };
        same = same;
      })

  -- a locked device takes no write
  refuses : AgreeIn s held (set_deed s task.tag (Answering write_error task.length))
      (open_again k t.name t.promised Nothing)
  refuses =
      lands s held j task a found (λ x. record x { deed = Answering write_error task.length })
      (λ x. same_task x _ x.request) t h.waits.is Nothing refl (λ good. absurd (false≢true good))

  -- how many the GOOD acknowledges
  abbrev promised : ℕ
  promised = if forced then length j.entries + 1 else t.promised

  deed_agrees : (f : Bool) → DeedAgrees (numbers_of s) (locked s || mended s) (a.roll ++ Some c ∷ []) task.lun
      (write_deed f (length s.accepted + 1) task.length)
      (Some (again t (if f then length j.entries + 1 else t.promised) Nothing))
  deed_agrees true =
      let grown : Roll = a.roll ++ Some c ∷ [] in
      let long = as_long j.entries a.roll a.books.stand in
      let one = length-append a.roll (Some c ∷ []) in
      let n = count_all (length j.entries + 1) grown (omega (arith, long, one)) in
      let cs = ap length (somes_some a.roll c) in
      let m = length-append (somes a.roll) (c ∷ []) in
      let acc = ap length a.books.accepted_are in
      at_most_of grown (again t (length j.entries + 1) Nothing) (omega (arith, n, cs, m, acc))
  deed_agrees false = λ good.
      let e = ap (λ (p : ℕ). count p (a.roll ++ Some c ∷ [])) h.waits.nothing in
      at_most_of (a.roll ++ Some c ∷ []) (again t t.promised Nothing)
      (omega (arith, e, count_none (a.roll ++ Some c ∷ [])))

  few : (f : Bool) → (if f then length j.entries + 1 else t.promised) ≤ length j.entries + 1
  few true = omega arith
  few false = let e = h.waits.nothing in omega (arith, e)

  -- the WRITE is accepted
  accepts_it : write_of w ≡ c →
      AgreeIn s held (set_deed (accepts s c blocks) task.tag (write_deed forced (length s.accepted + 1) task.length))
      (open_again (with_command k (write_of w)) t.name promised Nothing)
  accepts_it is =
      subst (λ (d : Command). AgreeIn s held
      (set_deed (accepts s c blocks) task.tag (write_deed forced (length s.accepted + 1) task.length))
      (open_again (with_command k d) t.name promised Nothing)) (sym is)
      (lands_accepted s held j task a found
      (λ x. record x { deed = write_deed forced (length s.accepted + 1) task.length })
      (λ x. same_task x _ x.request) t h.waits.is Nothing refl promised (few forced) c j.regions
      (others_stay j.regions (plain_now s) c tt a.regions) mends (deed_agrees forced))

  last_block : (b : Bool) → locked s ≡ b → write_of w ≡ c →
      AgreeIn s held (if b then set_deed (with_moves s (Release blocks ∷ [])) task.tag
      (Answering write_error task.length)
      else set_deed (accepts s c blocks) task.tag (write_deed forced (length s.accepted + 1) task.length))
      (if b then open_again k t.name t.promised Nothing
      else open_again (with_command k (write_of w)) t.name promised Nothing)
  last_block true e is = refuses
  last_block false e is = accepts_it is

  completes : write_of w ≡ c →
      AgreeIn s held (write_complete s task unit address blocks forced all) (written k t.name t.promised w)
  completes is =
      subst (λ (f : Bool). AgreeIn s held (write_complete s task unit address blocks forced all)
      (if j.locked then open_again k t.name t.promised Nothing
      else open_again (with_command k (write_of w)) t.name (if f then length j.entries + 1 else t.promised) Nothing))
      (sym h.same.forced_is)
      (subst (λ (b : Bool). AgreeIn s held (write_complete s task unit address blocks forced all)
      (if b then open_again k t.name t.promised Nothing
      else open_again (with_command k (write_of w)) t.name promised Nothing)) (sym a.lock)
      (last_block (locked s) refl is))

  by_length : (b : Bool) → nat_lt (length all) (4096 * blocks) ≡ b → length all ≤ 4096 * blocks →
      AgreeIn s held (if b then set_deed s task.tag (Gathering (ForWrite unit address blocks forced) all false)
      else write_complete s task unit address blocks forced all)
      (if (if b then false else true) then written k t.name t.promised w
      else open_again k t.name t.promised (Blocks w))
  by_length true e most = goes_on
  by_length false e most =
      let l = ltb-false (length all) (4096 * blocks) e in
      completes (command_is (omega (arith, l, most)) same)

  -- one block more agrees
  pub block_agrees : length all ≤ 4096 * blocks →
      AgreeIn s held (gathered_more s task (ForWrite unit address blocks forced) all)
      (gathered k t.name t.promised h.write (Some more))
  block_agrees most =
      subst (λ (b : Bool). AgreeIn s held (gathered_more s task (ForWrite unit address blocks forced) all)
      (if b then written k t.name t.promised w else open_again k t.name t.promised (Blocks w)))
      (sym (whole_told refl same (nat_lt (length all) (4096 * blocks)) refl))
      (by_length (nat_lt (length all) (4096 * blocks)) refl most)
