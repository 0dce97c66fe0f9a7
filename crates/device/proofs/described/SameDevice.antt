-- What holds of a device or of a world holds of one that is the same.
use Rattle.device.proofs.Common.{Describes, DeviceCore, Fits, State, Translation, WorldState, subst, sym, ◌≡◌}
use Rattle.ftl_core.specs.Public as layer

pub same_layer : (x y : DeviceCore) (t : Translation) → x ≡ y → layer.Describes y.ftl t → layer.Describes x.ftl t
same_layer x y t same h = subst (λ (d : DeviceCore). layer.Describes d.ftl t) (sym same) h

pub same_core : (x y : DeviceCore) (s : State) → x ≡ y → Describes y s → Describes x s
same_core x y s same h = subst (λ (d : DeviceCore). Describes d s) (sym same) h

pub same_world : (x y : WorldState) (s : State) → x ≡ y → Fits y s → Fits x s
same_world x y s same h = subst (λ (w : WorldState). Fits w s) (sym same) h
