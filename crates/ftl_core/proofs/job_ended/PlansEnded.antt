-- The collection that is begun is over: its block is free, unless it is bad.
use Rattle.ftl_core.proofs.Common.{BlockState, BlocksKept, Bool, Collection, Core, DieRow, Kept, List, None, OpenBlock}
use Rattle.ftl_core.proofs.Common.{Option, Some, Spot, Translation, ap, at_spot, block_kept, false, if◌then◌else◌}
use Rattle.ftl_core.proofs.Common.{layer_plan, nat_lt, none-some, option_map, page_written, plan_freed, plan_over, refl}
use Rattle.ftl_core.proofs.Common.{state_of, subst, sym, true, ℕ, ⊎_elim, ◌-◌, ◌<◌, ◌∙◌, ◌≡◌, ◌⊎◌}
use Rattle.ufs_spec.specs.Disk as disk
use Rattle.ufs_spec.specs.Moves as moves
use Rattle.ufs_spec.specs.Translation as layer
use Rattle.power_loss.proofs.jobs.StandsSecurely.{at_spot_other}
use Rattle.block_table.specs.Blocks.{freed_state}
use Rattle.ftl_core.proofs.job_ended.ChangeParts.{bad_fills, blocks_lost_with, blocks_vacant, closed_fills, states_with}
use Rattle.ftl_core.proofs.job_ended.JobsOver.{filling_beside}
use Rattle.ftl_core.proofs.job_taken.NextErases.{state_kept}

-- A page that is written leaves the collection

pub plan_stays : (c : Core) (die : ℕ) (b : DieRow) (o : Option OpenBlock) → (page_written c die b o).plan ≡ c.plan
plan_stays c die b None = refl
plan_stays c die b (Some o) = by (nat_lt o.next (c.numbers.pages - 1)) _ _ refl refl
  where
    by : (x : Bool) (d e : Core) → d.plan ≡ c.plan → e.plan ≡ c.plan → (if x then d else e).plan ≡ c.plan
    by true d e f g = f
    by false d e f g = g

-- The block

-- it is one of the dies, and closed or bad
pub record IsFreeable (t : Translation) (s : Spot) : Type 0 where
  pub die : s.die < t.numbers.dies
  pub block : s.block < t.numbers.blocks
  pub state : (t.disk.blocks s ≡ disk.Closed) ⊎ (t.disk.blocks s ≡ disk.Bad)

not_filled : (t : Translation) (s : Spot) → IsFreeable t s → (next : ℕ) → t.disk.blocks s ≡ disk.Filling next → ⊥
not_filled t s h next e =
    ⊎_elim (λ k. closed_fills next (sym k ∙ e)) (λ k. bad_fills next (sym k ∙ e)) h.state

free_fills : (next : ℕ) → disk.Free ≡ disk.Filling next → ⊥
free_fills next e = cc

freed_fills : (x : disk.BlockState) (next : ℕ) → moves.freed_state x ≡ disk.Filling next → ⊥
freed_fills disk.Free next e = free_fills next e
freed_fills (disk.Filling n) next e = free_fills next e
freed_fills disk.Closed next e = free_fills next e
freed_fills disk.Bad next e = bad_fills next e

-- What is kept of blocks

module _ (c : Core) (t : Translation) (k : Kept c t) (s : Spot) (h : IsFreeable t s) where
  abbrev now : Spot → disk.BlockState
  now = at_spot t.disk.blocks s (moves.freed_state (t.disk.blocks s))

  -- what is in it is to be erased
  abbrev held : Spot → disk.Vacancy
  held = at_spot t.disk.vacancies s disk.Stale

  abbrev states : List BlockState
  states = states_with c s.die s.block (freed_state (state_of c s.die s.block))

  told : (x : disk.BlockState) → t.disk.blocks s ≡ x →
      BlocksKept t.numbers (at_spot t.disk.blocks s (moves.freed_state x)) held
      (states_with c s.die s.block (freed_state (block_kept x (t.disk.vacancies s)))) →
      BlocksKept t.numbers now held states
  told x is b = subst (λ (z : disk.BlockState × BlockState).
      BlocksKept t.numbers (at_spot t.disk.blocks s (moves.freed_state z.0)) held
      (states_with c s.die s.block (freed_state z.1)))
      (λ i. (
        sym is i,
        (ap (λ (y : disk.BlockState). block_kept y (t.disk.vacancies s)) (sym is)
            ∙ sym (state_kept c t s.die s.block k h.die h.block)) i,
      )) b

  blocks_freed : BlocksKept t.numbers now held states
  blocks_freed = ⊎_elim
      (λ (closed : t.disk.blocks s ≡ disk.Closed). told disk.Closed closed
      (blocks_vacant c t s.die s.block disk.Stale k h.die h.block))
      (λ (bad : t.disk.blocks s ≡ disk.Bad).
      told disk.Bad bad
      (blocks_lost_with c t s.die s.block held k h.die h.block
      (λ a apart. at_spot_other t.disk.vacancies s disk.Stale a apart)))
      h.state

-- All of it

-- the plan of the layer is over
abbrev pub plan_gone : Translation → Translation
plan_gone t = record t { disk = moves.freed t.disk t.work.plan; work = record t.work { plan = None } }

pub plan_frees : (c : Core) (t : Translation) → Kept c t →
    ((p : Collection) → c.plan ≡ Some p → IsFreeable t p.victim) → Kept (plan_over c) (plan_gone t)
plan_frees c t k free = by c.plan refl
  where
    none_planned : c.plan ≡ None → Kept c (record t { work = record t.work { plan = None } })
    none_planned e = record {
      numbers = k.numbers;
      blocks = k.blocks;
      dies = k.dies;
      fly = k.fly;
      ledger_kept = k.ledger_kept;
      work = record {
        mending_is = k.work.mending_is;
        step_is = k.work.step_is;
        to_repair = k.work.to_repair;
        next_mark = k.work.next_mark;
        repaired = k.work.repaired;
      };
      plan = record { plan_is = ap (option_map layer_plan) (sym e); inside = k.plan.inside };
      claims = k.claims;
      pins = k.pins;
      differ = k.differ;
      reads = k.reads;
      step_reads = k.step_reads;
      readers = k.readers;
    }

    one_planned : (p : Collection) → IsFreeable t p.victim → Kept (plan_freed c (Some p)) (record t {
      disk = moves.freed t.disk (Some (layer_plan p));
      work = record t.work { plan = None };
    })
    one_planned p h = record {
      numbers = k.numbers;
      blocks = blocks_freed c t k p.victim h;
      dies = record {
        dies = k.dies.dies;
        each = λ die b at.
            let r = k.dies.each die b at in
            record {
              filling = filling_beside t.numbers t.disk.blocks p.victim
                  (moves.freed_state (t.disk.blocks p.victim)) die b.filling (not_filled t p.victim h)
                  (freed_fills (t.disk.blocks p.victim)) r.filling;
              job = r.job;
            };
        no_more = k.dies.no_more;
      };
      fly = k.fly;
      ledger_kept = k.ledger_kept;
      work = record {
        mending_is = k.work.mending_is;
        step_is = k.work.step_is;
        to_repair = k.work.to_repair;
        next_mark = k.work.next_mark;
        repaired = k.work.repaired;
      };
      plan = record { plan_is = refl; inside = λ q e. absurd (none-some q e) };
      claims = k.claims;
      pins = k.pins;
      differ = k.differ;
      reads = k.reads;
      step_reads = k.step_reads;
      readers = k.readers;
    }

    by : (o : Option Collection) → c.plan ≡ o → Kept (plan_over c) (plan_gone t)
    by None e =
        subst (λ (z : Option Collection × Option layer.Plan). Kept (plan_freed c z.0) (record t {
          disk = moves.freed t.disk z.1;
          work = record t.work { plan = None };
        })) (λ i. (sym e i, sym (k.plan.plan_is ∙ ap (option_map layer_plan) e) i)) (none_planned e)
    by (Some p) e =
        subst (λ (z : Option Collection × Option layer.Plan). Kept (plan_freed c z.0) (record t {
          disk = moves.freed t.disk z.1;
          work = record t.work { plan = None };
        })) (λ i. (sym e i, sym (k.plan.plan_is ∙ ap (option_map layer_plan) e) i)) (one_planned p (free p e))
