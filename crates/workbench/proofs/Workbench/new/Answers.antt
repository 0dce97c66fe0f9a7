use Rattle.std.proofs.Common.{◌∙◌, List, sym, subst}
use Rattle.std.proofs.lemmas.List.{map-id}
use Rattle.ufs_spec.specs.Dies.{DieState}
use Rattle.ufs_spec.specs.Lives.{IsOpened, array_of, bad_of}
use Rattle.ufs_spec.specs.Sound.{Sound}
use Rattle.device.specs.Describes.{Describes}
use Rattle.device.specs.Kept.{DeviceCore}
use Rattle.workbench.proofs.Workbench.new.Goals as goal

pub returns : goal.returns
returns c =
    λ s sound opened.
    let same = map-id c.as_mut_slice.result.now ∙ c.as_mut_slice.ensures.value in
    subst (λ (d : DeviceCore). Describes d s) (sym c.in-Ok.ensures.ok)
    (c.in_ok-device.ensures.described s (subst (λ (ds : List DieState). Sound (array_of ds)) (sym same) sound)
    (subst (λ (ds : List DieState). IsOpened c.args.config (array_of ds) (bad_of ds) s) (sym same) opened))
