-- What a pointer that C keeps owns: the box of a value, or nothing.
use Rattle.std.specs.Prelude.{Option, Some, None}
use base.Fml.{Fml, ftrue}
use denote.RattleType.{RattleType}
use denote.RawPtr.{Ptr}
use Rattle.std.specs.Global.{Global}
use Rattle.std.specs.contracts.impls.GlobalAllocator.TheImpl.{ghosts}
use Rattle.std.specs.Box.Ownership.{box_owns}

abbrev pub holds : (R : RattleType) → Global → Ptr → Option R.Denot → Fml
holds R alloc p None = ftrue
holds R alloc p (Some x) = box_owns (ghosts.dealloc_token alloc) R p x
