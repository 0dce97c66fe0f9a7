-- What is volatile fits the field in which a response tells it, in every state that the calls lead to.
use Rattle.power_loss.proofs.Common.{Bool, None, Numbers, Option, Some, arith, if_both, subst, sym, ℕ, ◌<◌, ◌==◌, ◌^◌, ◌≡◌}
use Rattle.power_loss.proofs.MachineWords.{Answer, Call, Host, IsSpoken, Lun, Request, Spelled, State, lun_of, mended}
use Rattle.power_loss.proofs.MachineWords.{numbers_of, observe}
use Rattle.ufs_laws.proofs.exchanges.Attentions.{refused_by}
use Rattle.ufs_laws.proofs.walk.Happenings.{IsEventOf, IsQueryOf, IsRequestOf}
use Rattle.ufs_laws.proofs.walk.VolatileChanges.{call_volatile}
use Rattle.ufs_laws.specs.Replies.{VolatileFits}
use Rattle.ufs_spec.specs.Begins.{volatile_told}
use Rattle.ufs_spec.specs.Management.{reset_at}
use Rattle.ufs_spec.specs.Queries.{Query, volatile_after, writes_attribute}
use Rattle.ufs_spec.specs.Refusals.{without_attention}
use Rattle.ufs_spec.specs.declared.messages.Message.TheVariants as message
use Rattle.ufs_spec.specs.declared.operations.Told.{Told}
use Rattle.ufs_spec.specs.declared.operations.Told.TheVariants as told
use Rattle.ufs_spec.specs.declared.volatile.Volatile.{Volatile}

-- a query writes what fits its own field
pub asked_fits : (n : Numbers) (is_mended : Bool) (volatile : Volatile) (q : Query) → q.value < 2 ^ 32 →
    VolatileFits volatile → VolatileFits (volatile_after n is_mended volatile q)
asked_fits n is_mended volatile q small h = record {
  level = if_both (λ (m : ℕ). m < 2 ^ 32) (writes_attribute 0x03 q) small h.level;
  clock = if_both (λ (m : ℕ). m < 2 ^ 32) (writes_attribute 0x0A q) small h.clock;
}

-- an attention that ends or comes leaves it
without_fits : (o : Option Lun) (volatile : Volatile) → VolatileFits volatile → VolatileFits (without_attention o volatile)
without_fits None volatile h = h
without_fits (Some lun) volatile h = record { level = h.level; clock = h.clock }

reset_fits : (o : Option Lun) (volatile : Volatile) → VolatileFits volatile → VolatileFits (reset_at o volatile)
reset_fits None volatile h = h
reset_fits (Some lun) volatile h = record { level = h.level; clock = h.clock }

-- the value of a query that was spoken fits its field
value_fits : (call : Call) (tag : ℕ) (q : Query) → IsSpoken call → IsQueryOf call tag q → q.value < 2 ^ 32
value_fits (Host (Spelled (message.QueryRequest tag function asked size value «data») c)) t q is asks =
    subst (λ (x : Query). x.value < 2 ^ 32) (sym asks.1) is.1.0.0.2.5
value_fits call tag q is asks = absurd asks

pub call_fits : (s : State) (call : Call) (answer : Answer) → IsSpoken call → VolatileFits s.volatile →
    VolatileFits (observe s call answer).volatile
call_fits s call answer is h = call_volatile VolatileFits s call answer (record {
  stays = h;
  asked = λ tag q asks.
      asked_fits (numbers_of s) (mended s) s.volatile q (value_fits call tag q is asks) h;
  refused = λ r command.
      refused_by VolatileFits s r h (without_fits (lun_of (numbers_of s) r.lun) s.volatile h);
  told = telling;
  managed = λ lun function asks.
      if_both VolatileFits (function == 0x08) (reset_fits (lun_of (numbers_of s) lun) s.volatile h) h;
  reset = λ kind event. record { level = omega arith; clock = h.clock };
})
  where
    telling : (r : Request) (what : Told) → VolatileFits (volatile_told s r what)
    telling r told.Sense = without_fits (lun_of (numbers_of s) r.lun) s.volatile h
    telling r what = h
