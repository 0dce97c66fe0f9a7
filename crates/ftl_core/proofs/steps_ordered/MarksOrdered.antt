-- A mark is ordered: it waits with the next mark number.
use Rattle.ftl_core.proofs.Common.{AreToRepair, Core, DieRow, DiesKept, Fence, Flight, GroupPage, IsFlight, Kept, Key}
use Rattle.ftl_core.proofs.Common.{Ledger, List, None, Numbers, OpenBlock, Option, Place, Some, Spot, Step}
use Rattle.ftl_core.proofs.Common.{StepReadsKept, Translation, ap, arith, drop, keys_to_repair, refl, repairs_in, subst}
use Rattle.ftl_core.proofs.Common.{sym, true, ℕ, ◌+◌, ◌≡◌}
use Rattle.ufs_spec.specs.Disk as disk
use Rattle.ufs_spec.specs.Translation as layer
use Rattle.block_table.specs.declared.rows.Flight.TheVariants as flight
use Rattle.ftl_core.specs.declared.books.Step.TheVariants as steps
use Rattle.ftl_core.proofs.job_ended.ChangeParts.{ledger_marked}

-- Jobs in flight, where no step was under way

-- no die writes a group's page, or the step is no repair
abbrev pub MayBegin : Step → Option disk.Flight → Type 0
MayBegin s (Some (disk.Programming p (GroupPage tag body))) = repairs_in (Some s) ≡ 0
MayBegin s f = Unit {0}

job_on : (n : Numbers) (s : Step) (die : ℕ) (filling : Option OpenBlock) (f : Option Flight) (g : Option disk.Flight) →
    MayBegin s g → IsFlight n None die filling f g → IsFlight n (Some s) die filling f g
job_on n s die filling None None may h = tt
job_on n s die filling (Some (flight.Read place r)) (Some (disk.Reading who p)) may h = h
job_on n s die filling (Some (flight.Step place)) (Some (disk.Programming p cell)) may h = absurd h.2
job_on n s die filling (Some (flight.Group place number i)) (Some (disk.Programming p (GroupPage tag body))) may h =
    (h.0, h.1, h.2, h.3, may)
job_on n s die filling (Some (flight.Erase block)) (Some (disk.Erasing spot)) may h = h
job_on n s die filling f g may h = absurd h

-- a step begins
pub dies_on : (n : Numbers) (blocks : Spot → disk.BlockState) (flights : ℕ → Option disk.Flight)
    (step : Option Step) (s : Step) (rows : List DieRow) → step ≡ None → ((die : ℕ) → MayBegin s (flights die)) →
    DiesKept n blocks flights step rows → DiesKept n blocks flights (Some s) rows
dies_on n blocks flights step s rows none may h = record {
  dies = h.dies;
  each = λ die b at. (let k = h.each die b at in record {
    filling = k.filling;
    job = job_on n s die b.filling b.flight (flights die) (may die)
        (subst (λ (o : Option Step). IsFlight n o die b.filling b.flight (flights die)) none k.job);
  });
  no_more = h.no_more;
}

some_none : (p : Place) → None ≡ Some p → ⊥
some_none p e = cc

-- no die reads for a step where none is under way
pub no_reads : (flights : ℕ → Option disk.Flight) (step next : Option Step) → step ≡ None →
    StepReadsKept flights step → StepReadsKept flights next
no_reads flights step next none h die place at =
    absurd (some_none place (subst (λ (o : Option Step). StepReadsKept flights o) none h die place at))

-- The mark

marked_to_repair : (l : Ledger) (marks : ℕ) (ks : List Key) → AreToRepair l ks →
    AreToRepair (record l { marks = marks }) ks
marked_to_repair l marks ks h = record { differ = h.differ; unrepaired = h.unrepaired }

may_mark : (n : ℕ) (fence : Option Fence) (f : Option disk.Flight) → MayBegin (steps.Mark n fence) f
may_mark n fence None = tt
may_mark n fence (Some (disk.Reading who p)) = tt
may_mark n fence (Some (disk.Programming p (GroupPage tag body))) = refl
may_mark n fence (Some (disk.Programming p cell)) = tt
may_mark n fence (Some (disk.Erasing s)) = tt

-- the next mark waits
pub mark_waits : (c : Core) (t : Translation) (fence : Option Fence) (n m : ℕ) → Kept c t → c.step ≡ None →
    c.next_mark ≡ n → n ≡ m → m ≡ t.ledger.marks + 1 →
    Kept (record c { step = Some (steps.Mark n fence); next_mark = n + 1 })
    (layer.with_step (record t { ledger = record t.ledger { marks = m } }) (layer.MarkStep m fence) true)
mark_waits c t fence n m k none next same marks = record {
  numbers = k.numbers;
  blocks = k.blocks;
  dies = dies_on t.numbers t.disk.blocks t.disk.flights c.step (steps.Mark n fence) c.rows none
      (λ die. may_mark n fence (t.disk.flights die)) k.dies;
  fly = k.fly;
  ledger_kept = ledger_marked c.numbers c.places c.pages c.frontier c.last t.ledger t.ledger.newest m k.ledger_kept;
  work = record {
    mending_is = k.work.mending_is;
    step_is = ap (λ (x : ℕ). record { kind = layer.MarkStep x fence; there = true }) (sym same);
    to_repair = λ un. marked_to_repair t.ledger m (drop c.repaired c.lost)
        (subst (λ (o : Option Step). AreToRepair t.ledger (keys_to_repair o (drop c.repaired c.lost))) none
        (k.work.to_repair un));
    next_mark = omega arith;
    repaired = k.work.repaired;
  };
  plan = k.plan;
  claims = k.claims;
  pins = k.pins;
  differ = k.differ;
  reads = k.reads;
  step_reads = no_reads t.disk.flights c.step (Some (steps.Mark n fence)) none k.step_reads;
  readers = k.readers;
}
