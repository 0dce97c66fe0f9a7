-- A save of the dies in memory whose image a handle opens.
use Rattle.std.proofs.Common.{◌≡◌, ◌∙◌, List, Some, ap, sym}
use Rattle.std.proofs.lemmas.List.{append_cancel_left}
use Rattle.std.specs.List.{flat_map}
use Rattle.std.specs.Prelude.{All}
use Rattle.ufs_spec.specs.Dies.{DieState}
use Rattle.ufs_spec.specs.Lives.{Fit}
use Rattle.ufs_spec.specs.declared.configs.Numbers.{Numbers}
use Rattle.ufsim.specs.Images.{die_bytes, head_bytes, image_bytes}
use Rattle.ufs_handle.specs.Calls.{IsOpen}
use Rattle.ufs_handle.specs.Kept.{HeldState}
use Rattle.ufs_handle.specs.Plain.{config_numbers}
use Rattle.ufs_handle.specs.Runs.{Makes, Save}
use Rattle.ufs_handle.specs.declared.plain.PlainConfig.{PlainConfig}
use Rattle.ufs_handle.specs.declared.plain.PlainUnit.{PlainUnit}
use Rattle.ufs_images.specs.Saved.{AreWhole, IsImageOf, image_of}
use Rattle.ufs_images.proofs.SameImages.{bad_are_same, pages_are_same}

pub saved : (h after : HeldState) (others : List DieState) (config : PlainConfig) (units : List PlainUnit) →
    h.config ≡ config_numbers config units → Fit h.config h.dies → All AreWhole h.dies → All AreWhole others →
    IsImageOf config (image_of h) others → IsOpen h.config others (Some after) → Makes Save h after
saved h after others config units numbers fit whole too image opened =
    let same : flat_map die_bytes h.dies ≡ flat_map die_bytes others =
    append_cancel_left (head_bytes config.dies config.blocks config.pages) (flat_map die_bytes h.dies)
    (flat_map die_bytes others)
    (ap (λ (n : Numbers). image_bytes n.dies n.blocks n.pages h.dies) (sym numbers) ∙ image) in
    let also = opened.4.fit in (
      others,
      (
        pages_are_same h.config h.dies others fit also whole too same,
        bad_are_same h.config h.dies others fit also whole too same,
      ),
      opened,
    )
