-- The first short exchange whose reply is due hands it out.
use Rattle.device.proofs.Common.{Acknowledge, DeviceCore, List, Some, Translation, ap, before_accepted, is_short_due}
use Rattle.device.proofs.Common.{moved, position, position_told, slice_get, spelling, subst, sym, true, ℕ, ◌+◌, ◌∙◌}
use Rattle.device.proofs.Common.{◌≡◌, ◌≤◌}
use Rattle.ftl_core.specs.Public as layer_kept
use Rattle.task_set.specs.declared.tasks.Short.{Short}
use Rattle.device.specs.Replies.{IsShortReplied, short_message, without_short}

pub hands_out : (d e : DeviceCore) (bytes : List ℕ) (frontier index : ℕ) →
    ((t : Translation) → layer_kept.Describes d.ftl t → frontier ≡ t.ledger.frontier) →
    ((t : Translation) (count : ℕ) → layer_kept.Describes d.ftl t →
    before_accepted t.ledger + count ≤ t.ledger.frontier →
    layer_kept.Describes d.ftl (moved t (Acknowledge count))) →
    position (is_short_due frontier) d.shorts ≡ Some index → e ≡ without_short d index →
    ((t : Translation) (short : Short) → layer_kept.Describes d.ftl t → slice_get d.shorts index ≡ Some short →
    bytes ≡ spelling (short_message t.numbers short)) → IsShortReplied d e bytes
hands_out d e bytes frontier index is told found after said =
    by (position_told (is_short_due frontier) d.shorts index found)
  where
    by : (short : Short) × (slice_get d.shorts index ≡ Some short) × (is_short_due frontier short ≡ true) →
        IsShortReplied d e bytes
    by (short, there, due) = record {
      index = index;
      short = short;
      there = there;
      due = λ t layer. ap (λ (n : ℕ). is_short_due n short) (sym (is t layer)) ∙ due;
      said = λ t layer. said t short layer there;
      after_is = after;
      told = λ t count layer low.
          subst (λ (x : DeviceCore). layer_kept.Describes x.ftl (moved t (Acknowledge count))) (sym after)
          (told t count layer low);
    }
