use Rattle.device.proofs.Common.{Claims, DeviceCore, HasMoved, IsLayerWith, List, None, Option, Phase, Some}
use Rattle.device.proofs.Common.{Translation, block_for, subst, sym, with_event, ℕ}
use Rattle.task_set.specs.declared.tasks.TaskEvent.TheVariants as event
use Rattle.device.specs.Replies.{with_own_block}
use Rattle.device.proofs.device.Device.move_on.Goals as goal

-- a task that keeps its own block leaves the layer as it is
layer_stays : (t : Translation) (claims : Claims) (d : DeviceCore) (k : ℕ) (o : Option (List ℕ)) →
    IsLayerWith d.ftl t claims →
    IsLayerWith (with_event (with_own_block d k o) k event.BlockAskedFor).ftl t claims
layer_stays t claims d k None h = h
layer_stays t claims d k (Some block) h = h

pub returns-in-SendBlocks-clause-moved : goal.returns-in-SendBlocks-clause-moved
returns-in-SendBlocks-clause-moved c =
    λ t claims h.
    subst (λ (p : Phase). HasMoved c.block_sent.new.self.ftl t claims c.args.task.tag p)
    (sym c.in-SendBlocks.is) (c.block_sent.ensures.one t h.0, c.block_sent.ensures.claims claims h.1)

pub returns-in-AskBlock-clause-moved : goal.returns-in-AskBlock-clause-moved
returns-in-AskBlock-clause-moved c =
    λ t claims h.
    subst (λ (p : Phase). HasMoved c.ask_block.new.self.ftl t claims c.args.task.tag p) (sym c.in-AskBlock.is)
    (subst (λ (d : DeviceCore). IsLayerWith d.ftl t claims) (sym (c.ask_block.ensures t h.0))
    (layer_stays t claims c.args.self.now c.args.index
    (block_for t None c.args.task.tag c.in-AskBlock.comparing.compared) h))
