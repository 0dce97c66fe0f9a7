use Rattle.ufsim.specs.Images.{IsLong, IsPage}
use Rattle.ufsim.proofs.ImageParts.{lacks_rest, passed_on, took_turn}
use Rattle.ufsim.proofs.image.read_page.Goals as goal

pub returns-in_err-fill-2-clause-kind : goal.returns-in_err-fill-2-clause-kind
returns-in_err-fill-2-clause-kind g c =
    passed_on IsPage _ _ _ c.in_err-fill-2.field-0.0 c.from_residual-in_err-fill-2.ensures.1
    (λ m. lacks_rest (IsLong 4096) (IsLong 96) 4096 _ _ (λ bytes is. is) c.in_ok-fill.ensures.kind
    (c.in_err-fill-2.ensures.kind m))

pub returns-clause-kind : goal.returns-clause-kind
returns-clause-kind g c =
    took_turn (IsLong 4096) (IsLong 96) _ _ _ c.in_ok-fill.ensures.kind c.in_ok-fill-2.ensures.kind
